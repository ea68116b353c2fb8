-- What the proofs of this crate speak of, from std, from the crates below and from its own specs.
pub use Rattle.bz_command_syntax.specs.Commands.{by_profile, command_forms, command_in, command_names, commands, cut_at, each_of, entering, entering_host, fixes_from, fixes_of, host_text, is_one_line, listed_in, pairs_of, prints_label, read_by_profile, ReadCommand, row_named, split_last}
pub use Rattle.bz_command_syntax.specs.Identifiers.{are_letters, end_a_letter, IdentifiersAreNames, is_identifier, is_rule_kind, is_word_of_letters}
pub use Rattle.bz_command_syntax.specs.Patterns.{dollar_sign, is_missing, replaced_in, substituted_by, TextStaysText}
unfoldable pub use Rattle.bz_command_syntax.specs.Patterns.{has_escaped_digit, missing_after, missing_group, substituted}
pub use Rattle.bz_command_syntax.specs.Proper.{AreAttributes, AreMoved, AreSome, AreUsages, AreUtf8, AreValues, EachIs, IsAttribute, IsEntry, IsField, IsHost, IsKind, IsPlace, IsProperCommand, IsRepo, IsSymbol}
pub use Rattle.bz_command_syntax.specs.Quoted.{escaped, is_escaped, quoted_of}
pub use Rattle.bz_command_syntax.specs.Words.{after_word, begins_with_space, is_nonempty, pieces, words_of}
unfoldable pub use Rattle.bz_command_syntax.specs.Words.{words_after}
pub use Rattle.bz_command_syntax.specs.declared.fault.CommandFault.TheVariants.{Arguments, Unknown}
pub use Rattle.bz_items.specs.Characters.{backslash, Bytes, colon, equals_sign, full_stop, letter_n, line_feed, quotation_mark, space}
pub use Rattle.bz_token.specs.Bytes.{among, is_digit, is_high, is_letter}
pub use Rattle.bz_token.specs.Lexemes.{is_keyword, IsLetters, IsLexeme, IsShort, IsWord, none, one, short_end, short_plain, short_taken, single, three}
pub use Rattle.bz_token.specs.declared.class.Class.{Class}
pub use Rattle.regex.proofs.TemplateLemmas.{name_is_text, number_parsed}
pub use Rattle.regex.specs.Patterns.{default_config, Match, Re, SameCaptures}
pub use Rattle.regex.specs.Templates.{is_name_byte, written_after}
unfoldable pub use Rattle.regex.specs.Templates.{group_called, name_at, number_in}
pub use Rattle.regex_syntax.specs.Grammar.{group_count, Names, read}
pub use Rattle.std.proofs.Common.{[], ◌&&◌, ◌*◌, ◌++◌, ◌+◌, ◌<◌, ◌==◌, ◌||◌, ◌∙◌, ◌∷◌, ◌≡◌, ◌≢◌, ◌≤◌, ◌⊎◌, ap, append-nil, append_assoc, ap₂, arith, Bool, bytes_eq, codes, drop, drop_at, eqb-true, Err, false, filter, flat_map, get_or, IfSome, if◌then◌else◌, inl, inr, IsSomeAnd, IsUtf8, le-ltb, length, length-append, length-take-le, List, lt-ltb, map, nat_le, nat_lt, ne_eqb, None, not, Ok, Option, option_and_then, option_map, position, refl, rules, slice_index, slice_range, Some, subst, suc, sym, take, take-append-drop, take_at, tests, true, true≢false, zero, ℕ}
pub use Rattle.std.proofs.Math.Seq.{get_or-append_seam, take-length}
pub use Rattle.std.proofs.lemmas.Bool.{and_from, and_parts, cases_Bool, eqb-false, false_from_ne_true, lt-leb, not-true, not_from_false, or_cases, or_parts}
pub use Rattle.std.proofs.lemmas.List.{drop_all, nil_from_length, take_rest}
pub use Rattle.std.proofs.lemmas.Str.{is_utf8-from_IsUtf8, IsCharBoundary-after_ascii, IsCharBoundary-before_ascii, IsUtf8-append, IsUtf8-drop, IsUtf8-from_ascii, IsUtf8-from_is_utf8, IsUtf8-string_bytes, IsUtf8-take}
pub use Rattle.std.specs.Char.{is_ascii_digit}
pub use Rattle.std.specs.List.{list_any, onto_first, position_from, prefix_len}
pub use Rattle.std.specs.Option.{option_map_or}
unfoldable pub use Rattle.std.specs.Str.{chars, is_utf8}
unfoldable pub use lib.Utf8.{encode}
