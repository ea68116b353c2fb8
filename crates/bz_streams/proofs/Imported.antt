-- What the proofs of this crate speak of, from std, from the crates below and from its own specs.
pub use Rattle.bz_items.specs.Characters.{backslash, Bytes, carriage_return, line_feed, space, tab}
pub use Rattle.bz_lex.specs.Positions.{is_newline}
pub use Rattle.bz_streams.specs.Beginnings.{from_character, is_beyond_ascii, is_word_byte}
pub use Rattle.bz_streams.specs.Brackets.{brackets_at, first_scan, is_outside, Scan, within_after}
pub use Rattle.bz_streams.specs.Controls.{escape, escaped_text, has_control, hexadecimal, hexadecimal_digits, is_control_pair, printable, with_controls}
pub use Rattle.bz_streams.specs.Faults.{AnswersAppends, AppendsPart, AppendsSome, AppendsUnlessFailed, Rises}
pub use Rattle.bz_streams.specs.Laws.{IsFirstLeast, IsLeastFound, LinesAreWhole, NearestIsLeast, NoControls}
pub use Rattle.bz_streams.specs.Names.{odd_line_from, odd_name_line}
pub use Rattle.bz_streams.specs.Near.{distance, is_near, nearest, nearest_of}
pub use Rattle.bz_streams.specs.Options.{after_dashes, is_among, option_hint, option_hint_text, option_line, option_name, OptionTable, strange_option}
pub use Rattle.bz_streams.specs.Outputs.{Counts, Reports, Writes, WritesUnlessClosed}
pub use Rattle.bz_streams.specs.Pieces.{line_piece_text}
pub use Rattle.bz_streams.specs.private.Search.{AreOpen, IsSearch}
pub use Rattle.clap.proofs.WalkLemmas.{first_value-rows, raw_values-rows}
pub use Rattle.clap.specs.Words.{found_of}
pub use Rattle.std.proofs.Common.{[], ◌%◌, ◌&&◌, ◌++◌, ◌+◌, ◌-◌, ◌/◌, ◌<◌, ◌==◌, ◌^◌, ◌||◌, ◌∙◌, ◌∷◌, ◌≡◌, ◌≤◌, ◌⊎◌, add-one, All, ap, append-nil, append_assoc, arith, Bool, Bor, codes, drop, drop-cons, eq-eqb, Err, false, flat_map, get_or, IfOk, if◌then◌else◌, inl, inr, IsErr, IsOk, length, length-append, length-drop, length-take-le, List, ltb-false, ltb-true, map, nat_lt, None, not, Ok, OnErr, OnOk, Option, option_map, refl, Result, rules, Some, subst, suc, sym, take, take_all, tests, true, unwrap_or, vec_len, zero, ℕ}
pub use Rattle.std.proofs.KnownBytes.{Appends-nil, Appends-trans}
pub use Rattle.std.proofs.Math.Seq.{take-append-add, take-length}
pub use Rattle.std.proofs.lemmas.Bool.{and_left, and_parts, and_right, cond-false, cond-true, or_parts}
pub use Rattle.std.proofs.lemmas.List.{drop_all, take-append-le, take-replicate}
pub use Rattle.std.specs.Char.{is_ascii_control}
pub use Rattle.std.specs.Io.KnownBytes.{Appends, Consumes, Keeps}
pub use Rattle.std.specs.List.{concat, list_all, list_any, prefix_len}
