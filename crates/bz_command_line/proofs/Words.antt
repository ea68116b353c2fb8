-- What the proofs of this crate speak of, from std, from the crates below and from its own specs.
pub use Rattle.bz_command_line.specs.Hints.{did_you_mean, name_hint, near_fix, target_hint, verb_names}
pub use Rattle.bz_command_line.specs.Operands.{by_command, count_of, is_target, operand_target, steps_of, verb_in, without_words}
pub use Rattle.bz_command_line.specs.Paths.{HasPath}
pub use Rattle.bz_command_line.specs.Reported.{numbered, usage_line}
pub use Rattle.bz_command_line.specs.Requested.{aimed, both, in_line, joined_by, joined_operands, nothing_requested, Refused, refused_for, Requested, requested_by, requested_of, Usage, wanted}
pub use Rattle.bz_command_line.specs.Script.{has_nul, in_front, is_read, line_group, line_with_nul, operand_groups, operands_in, script_lines, without_mark}
pub use Rattle.bz_command_line.specs.Shown.{line_in, line_usage_in, refused_in, requested_in, script_usage_in, usage_in}
pub use Rattle.bz_command_line.specs.declared.verb.OperandFault.TheVariants.{BadTarget, Command, Memory}
pub use Rattle.bz_command_syntax.specs.Words.{words_of}
pub use Rattle.bz_command_syntax.specs.declared.fault.CommandFault.TheVariants.{BadPattern, Unknown}
pub use Rattle.bz_items.specs.Characters.{Bytes, vertical_bar}
pub use Rattle.bz_label.specs.declared.target.Target.{Target}
pub use Rattle.bz_streams.specs.Controls.{escaped_text}
pub use Rattle.bz_streams.specs.Faults.{AppendsUnlessFailed}
pub use Rattle.std.proofs.Common.{[], ◌&&◌, ◌*◌, ◌++◌, ◌+◌, ◌-◌, ◌<◌, ◌^◌, ◌∙◌, ◌∷◌, ◌≡◌, ◌≢◌, ◌≤◌, add-one, All, ap, append-nil, append_assoc, arith, Bool, Bor, bytes_eq, codes, cond, decimal, drop, drop-cons, Err, false, fold, get_or, IfErr, IfOk, IfSome, if◌then◌else◌, inl, inr, IsUtf8, le-ltb, length, length-take-le, List, lit<, lt-ltb, map, nat_le, nat_lt, None, not, Ok, ok_or, Option, option_map, position, refl, Result, rules, Some, string_bytes, subst, suc, sym, take, take-append-drop, true, zero, ℕ}
pub use Rattle.std.proofs.lemmas.Iterator.Consumers.{map_from_collect}
pub use Rattle.std.proofs.lemmas.Iterator.Splits.{YieldsList-from_lines, YieldsList-from_str_split}
pub use Rattle.std.proofs.lemmas.List.{length-map, map-append, map_more}
pub use Rattle.std.proofs.lemmas.List.Elements.{All-push}
pub use Rattle.std.specs.List.{concat, position_or_len}
