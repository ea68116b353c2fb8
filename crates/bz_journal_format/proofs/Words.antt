-- What the proofs of this crate speak of, from std, from the crates below and from its own specs.
pub use Rattle.bz_edit.specs.declared.edit.Edit.{Edit}
pub use Rattle.bz_grammar.specs.Kinds.{kind_list, kind_number, kind_of}
pub use Rattle.bz_grammar.specs.Spell.{deepest, depth_limit}
pub use Rattle.bz_grammar.specs.declared.kind.Kind.{Kind}
pub use Rattle.bz_grammar.specs.declared.tree.Node.{Node}
pub use Rattle.bz_grammar.specs.declared.tree.Part.{end_of-Part, items-the_row-Part, more_of-Part, Part, Row_of-Part}
pub use Rattle.bz_items.specs.Characters.{Bytes, line_feed, space}
pub use Rattle.bz_journal_format.specs.Contents.{entries_of, entry_of, record_in}
pub use Rattle.bz_journal_format.specs.Laws.{IsExact}
pub use Rattle.bz_journal_format.specs.Outcomes.{IsUnread}
pub use Rattle.bz_journal_format.specs.Readers.{◌>>=◌, ok_value, Reader, up_to}
unfoldable pub use Rattle.bz_journal_format.specs.Readers.{after_mark, counted_at, digest_at, digits_at, ended_line_at, field_at, listed_at, number_at, repeated, tested}
pub use Rattle.bz_journal_format.specs.Spellings.{counted_text, IsDigest, IsLine, number_limit, numeral}
pub use Rattle.bz_journal_format.specs.Texts.{AreSmallParts, counts_text, digest_text, edit_text, end_line, entry_text, held_row_text, IsEdit, IsHeld, IsNote, IsNotedStep, IsOtherNumber, IsOtherVersion, IsRead, IsRecord, IsSmallPart, last_number, lines_text, node_line, note_line, part_text, record_text, row_length, short_limit, spaced_number, step_limit, version_line}
pub use Rattle.bz_journal_format.specs.declared.content.Record.{Record}
pub use Rattle.bz_journal_format.specs.declared.content.RecordedStep.{RecordedStep}
pub use Rattle.bz_journal_format.specs.declared.content.Version.{Version}
pub use Rattle.bz_journal_format.specs.declared.content.Version.TheVariants.{One, Two}
pub use Rattle.bz_journal_format.specs.declared.unread.Unread.{Unread}
pub use Rattle.bz_journal_format.specs.private.Reading.{either, held_at, is_short_text, leaf_read, node_read, record_made}
unfoldable pub use Rattle.bz_journal_format.specs.private.Reading.{choice, counted_lines_at, digest_line_at, edit_at, entry_at, leaf_at, lines_at, node_at, nodes_at, note_at, numbered_class_at, numbered_kind_at, record_at}
pub use Rattle.bz_token.specs.Bytes.{is_digit}
pub use Rattle.bz_token.specs.Classes.{class_list, class_number, class_of}
pub use Rattle.bz_token.specs.declared.class.Class.{Class}
pub use Rattle.hex.specs.Hex.{decode_sized, encode_lower, IsBytes, lower_digits}
unfoldable pub use Rattle.hex.specs.Hex.{encode_with}
unfoldable pub use Rattle.sha2.specs.Sha256.{compress, digest_bytes, first_words, hash_after, rounds, schedule, sha256}
pub use Rattle.std.proofs.Common.{[], ◌%◌, ◌&&◌, ◌*◌, ◌++◌, ◌+◌, ◌-◌, ◌/◌, ◌<◌, ◌↔◌, ◌∙◌, ◌∷◌, ◌≡◌, ◌≢◌, ◌≤◌, ◌⊎◌, ap, append-nil, append_assoc, arith, Bool, bytes_eq, codes, cond, decimal, drop, drop_at, eqb-true, Err, false, flat_map, get_or, inl, inr, IsTrue, IsUtf8, le-leb, le-ltb, leb-true, length, length-append, length-take, List, lit<, lt-ltb, ltb, ltb-false, ltb-true, nat_eq, nat_le, nat_lt, None, Ok, Option, position, refl, Result, rules, slice_get, slice_index, Some, subst, suc, sym, take, take-append-drop, take-take, take_all, take_at, true, w32, zero, ℕ}
pub use Rattle.std.proofs.lemmas.Bool.{and_parts, cases_Bool, false_from_ne_true, lt-leb}
pub use Rattle.std.proofs.lemmas.Bool.Decides.{nat_tests}
pub use Rattle.std.proofs.lemmas.Option.{cond_some, same_Some, slice_get_past}
pub use Rattle.std.proofs.lemmas.Result.{err_from_is_err_and, on_ok_weaker}
pub use Rattle.std.proofs.lemmas.Slice.Eq.{bytes_eq-Decides}
pub use Rattle.std.proofs.lemmas.Str.{is_utf8-from_IsUtf8, IsUtf8-from_is_utf8}
unfoldable pub use Rattle.std.specs.Fmt.{digits}
pub use Rattle.std.specs.List.{AllByRecursion, list_all, position_or_len}
pub use Rattle.std.specs.Str.{is_utf8}
