-- What the proofs of this crate speak of, from std, from the crates below and from its own specs.
pub use Rattle.bz_build_format.specs.Faults.{bzl_formatted, FormatsBzlTo, FormatsTo, formatted_tree, IsReported, Lasts}
pub use Rattle.bz_build_format.specs.Fixed.{BzlFixedPoint, FixedPoint, FormattingKeepsTokens, FormattingKeepsWords, is_bzl_separator, is_mark_between, IsFormatted, IsFormattedBzl, leaf_times, leaf_words, marks_between, tree_words, TreeProgramsKeepTokens, WritingKeepsProgram}
pub use Rattle.bz_build_format.specs.Meaning.{gives, Meaning, refuses, written}
pub use Rattle.bz_build_format.specs.TreePrograms.{bare_form, before_marks, headers_in, line_statements, node_statements, node_syntax, Parsed, parsed, parsed_row, part_syntax, row_syntax, statements_in, suite_statements, suite_syntax, suites_in, tree_program, ViewsKeepPrograms}
pub use Rattle.bz_build_format.specs.Words.{Accepted, AreTextsOf, AreThere, AreWholeLines, bare_end, begins_with_load, Bytes, Class, depth_limit, depth_of, Drafted, drafted, end_of-Part, EndsWithLine, Expr, file_with, flags, Form, Frame, frame, gap_below, is_class, is_header, is_kind, is_of_leaves, is_one_of, IsBuild, IsFaultAt, IsFaultOf, IsProperBuild, Item, KeepsProgram, Kind, laid_out, layout, lead, Leaf, leaves_of, LegalBuild, limit, more_of-Part, no_comments, NoBzlTree, Node, Node', one_if_token, Part, PartWindow, program, pushed, put_header, ReadFault, Reads, ReadsBzl, Row_of-Part, sequence, spell_node, spell_part, Terminal, TextWindow, tidied, token_times, total, view_of, window_parts, with_windows}
pub use Rattle.bz_build_format.specs.declared.chunks.FileKind.{FileKind}
pub use Rattle.bz_build_format.specs.private.Chunks.{IsAppended, IsFormattedAs, of_kind, ReadsAs}
pub use Rattle.bz_build_format.specs.private.Lines.{AreAmong, AreRead, at_side, IsPushed, IsPutAmong, joined_at, put_in, ReadAsLines, spelled_parts, text_with}
pub use Rattle.bz_grammar.proofs.Spells.{leaves_Node, spell_Node}
pub use Rattle.bz_grammar.specs.Joined.{last_token, LinesJoin}
pub use Rattle.bz_grammar.specs.Laws.{OneBzlReading, OneReading}
pub use Rattle.bz_grammar.specs.Legal.{IsBuildPart, IsBuildRow, IsNonterminal, Legal, LegalPart, LegalRow}
pub use Rattle.bz_grammar.specs.Shapes.{After, bzl_shape, done, Fits, has_token, Listed, no_more, Nonterminal, nonterminal_has_kind, once_more, Several, Shape, Times, tok}
pub use Rattle.bz_grammar.specs.Spell.{leaves_part, leaves_row}
pub use Rattle.bz_grammar.specs.Split.{LinesSplit}
pub use Rattle.bz_hosts.specs.Laws.{BuildViews, ViewsAreProper}
pub use Rattle.bz_hosts.specs.Suites.{branches, exprs_in, indented_lines_before, Stated, stated, stated_row, statement_read, suite_form, suite_in, walked, with_suite}
pub use Rattle.bz_layout.specs.Laws.{BuildLayoutIsBuild, FlagsKeepLayout, LayoutIsAccepted, LayoutIsTooDeep, LayoutReadsBack}
pub use Rattle.bz_passes.proofs.Keeping.{both}
pub use Rattle.bz_passes.proofs.Parts.{items_after, items_are, made, parts_after, parts_are}
pub use Rattle.bz_passes.specs.Syntax.{row_token_sum, syntax_of, token_sum}
pub use Rattle.bz_value.specs.Frames.{compound, is_binary, is_comprehension, is_inner_frame, row}
pub use Rattle.bz_value.specs.LineShapes.{line_shape, whole_grammar}
pub use Rattle.bz_value.specs.Proper.{is_operator, IsProper}
pub use Rattle.std.proofs.Common.{[], ◌&&◌, ◌++◌, ◌+◌, ◌-◌, ◌<◌, ◌↔◌, ◌∙◌, ◌∷◌, ◌≡◌, ◌≢◌, ◌≤◌, ◌⊎◌, ap, append-nil, append_assoc, ap₂, arith, Bool, bytes_eq, drop, drop-cons, drop-drop, Err, false, flat_map, get_or, IfOk, if◌then◌else◌, inl, inr, is_some, length, length-append, length-drop, length-take, List, ltb-false, map, MatchOption, nat_eq, nat_lt, None, not, Ok, Option, refl, Result, rules, Some, subst, suc, sym, take, take-add, take-append-drop, take-take, take_all, true, true≢false, zero, ℕ}
pub use Rattle.std.proofs.Math.Seq.{take-append_seam, take-length}
pub use Rattle.std.proofs.lemmas.Bool.{and_parts, cases_Bool, cond-false, cond-true, not-true, or_left, or_right}
pub use Rattle.std.proofs.lemmas.Bool.Decides.{Decides-eqb, nat_tests}
pub use Rattle.std.proofs.lemmas.Grind.{flat_map-append}
pub use Rattle.std.proofs.lemmas.List.{drop-take, drop_all, map-append, nil_from_length, same_from_push}
pub use Rattle.std.proofs.lemmas.Slice.Eq.{bytes_eq-Decides, strip_prefix_is, strip_suffix_is}
pub use Rattle.std.specs.List.{AllByRecursion}
