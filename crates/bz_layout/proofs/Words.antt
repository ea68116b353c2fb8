-- What the proofs of this crate speak of, from std, from the crates below and from its own specs.
pub use Rattle.bz_grammar.proofs.Balance.{inner_nonterminal, leaves_rows, no_such, parts_join, row_of_parts, same_class, spot_after}
pub use Rattle.bz_grammar.proofs.Nested.{items_of_row, row_of}
pub use Rattle.bz_grammar.proofs.Numbers.{same_kind}
pub use Rattle.bz_grammar.proofs.Spells.{depth_Node, leaves_Node, node_spelled, spell_Node}
pub use Rattle.bz_grammar.proofs.Suites.{indented_row, owned_shape, parts_indented}
pub use Rattle.bz_grammar.proofs.Trees.{At, deepest_both, join, of_bzl_shapes}
pub use Rattle.bz_grammar.specs.Indents.{AreIndented, first_indent, Owned}
pub use Rattle.bz_grammar.specs.Kinds.{kind_number}
pub use Rattle.bz_grammar.specs.Legal.{IsBuildPart, IsFile, IsNonterminal, Legal, LegalPart}
pub use Rattle.bz_grammar.specs.Reading.{starts, starts_with}
pub use Rattle.bz_grammar.specs.Shapes.{bzl_shape, equals, Fits, has_nonterminal, is_one_of, is_terminal, items, leaves_at, Listed, no_more, Nonterminal, nonterminal_has_kind, once_more, one_keyword, Several, Shape, Times}
pub use Rattle.bz_grammar.specs.Spell.{deepest, depth_part, depth_row, leaves_of, leaves_row, within_limit}
pub use Rattle.bz_grammar.specs.Spots.{after_node, after_part, Along, AreTokens, AtLeaves, AtParts, AtRow, Begins, closes, following_token, GapStands, onward, opens, Role, role, Spot, Stands, TokenStands, Within}
pub use Rattle.bz_grammar.specs.declared.tree.Part.{end_of-Part, more_of-Part, Row_of-Part}
pub use Rattle.bz_hosts.proofs.Colons.{no_colons, NoColon, nonterminal_plain, token_plain}
pub use Rattle.bz_hosts.proofs.InnerParts.{binary_begins, every, every_part, inner_bzl, inner_kind, inner_line, inner_tokens, is_inner, kind_goes, nonterminal_inner, nonterminal_unsigned, of_terminals, plain_tokens, token_inner}
pub use Rattle.bz_hosts.proofs.Narrow.{AreInner, framed_inner, InExpr, narrow_expr, narrow_head, narrow_items, narrow_row}
pub use Rattle.bz_hosts.proofs.NodeViews.{seen_Node}
pub use Rattle.bz_hosts.proofs.SeenParts.{all_mapped, all_parted}
pub use Rattle.bz_hosts.proofs.Stated.{compound_is, line_is, stated_part, statement_Node, suffix_Node, suite_Node}
pub use Rattle.bz_hosts.specs.Seen.{begins_seen_operator, blocks, first_seen_gap, is_open, is_split, item_in, items_in, leaf_seen, loose_after, loose_in, plain, row_exprs, Seen, seen, seen_node, sequence_form}
pub use Rattle.bz_hosts.specs.Suites.{after_end, branches, end_comments, indented_lines_before, is_taken_line, line_read, margin_of, only_comment, put_header, Stated, stated, suite_form, suite_read, SuiteRead, walked, with_suite}
pub use Rattle.bz_layout.specs.Drafts.{Drafted, fitting_more}
unfoldable pub use Rattle.bz_layout.specs.Drafts.{drafted, fitting, pushed}
pub use Rattle.bz_layout.specs.Flags.{each_with_flags, each_with_flags_in, flags, flags_in, item_with_flags, item_with_flags_in, settled_split, settled_split_in, with_flags, with_flags_in}
pub use Rattle.bz_layout.specs.LaidOut.{alternative_parts, before_next, before_next_in, gap_to_margin, laid_out, laid_out_in, last_left, layouts, left_by_frame, left_gap, left_last, left_of, left_others, line_part, lines_from, lines_from_in, newline_part, node_by_frame, part_of, PartAt, parts_in, parts_of, piece_part, statement_part, statement_parts, suite_node, suite_part, with_more_parts}
pub use Rattle.bz_layout.specs.Laws.{BuildLayoutIsBuild, LayoutIsAcceptedIn, LayoutIsTooDeepIn, LayoutReadsBackIn}
pub use Rattle.bz_layout.specs.Layout.{body, ended, firsts, followed, gap_after, has_comments, has_named, headed, is_bare, is_broken, is_broken_in, is_call, is_closed, is_divided, is_listed, is_named_argument, is_tuple, is_written, item_margin, joined, laid, laid_in, margin_after, margin_lines, mark, new_line_at, part, Piece, rowed, stacked, suffix_text}
pub use Rattle.bz_layout.specs.Spaces.{apart, brackets_and_separators, from_table, is_dot_terminal, is_lone, is_number_leaf, is_prefix_mark, is_spaced, is_spaced_after, is_spaced_before, is_value, lone, number_dot, space_after, space_before}
pub use Rattle.bz_layout.specs.Windows.{AreTextsOf, IsLayoutOf}
pub use Rattle.bz_layout.specs.Words.{AreOver, AreThere, AreWithin, Bytes, colon, comma, comments_of, compound, depth_limit, depth_of, end_of-Expr, Expr, Form, Form', Frame, frame, fronts, Grammar, has_brackets, has_break, has_kind, has_suite, has_token, in_table, is_empty, is_kind, is_none, IsBuildItem, IsProper, IsProperBuild, IsProperIn, IsProperItem, Item, items-the_row-Expr, items-the_row-Part, Kind, Leaf, leaves_part, limit, line_feed, mark_leaf, more_of-Expr, no_comments, Node, Node', Part, PartWindow, root, row, Row_of-Expr, sequence, space, spell_node, spell_part, Terminal, Token, view_of, Window, window_parts, with_windows}
pub use Rattle.bz_layout.specs.Written.{are_both, at_margin, comment_lines, gap_between, gap_between_in, Indented, indented_lines, item_text, item_text_in, layout, layout_in, line_end, past_item, piece_text, statement_text, statements_text, suite_text, text_by_frame, text_in, text_of, TextAt, texts_in}
pub use Rattle.bz_layout.specs.declared.breaks.Lines.{Lines}
pub use Rattle.bz_layout.specs.declared.writer.TextWindow.{TextWindow}
pub use Rattle.bz_layout.specs.declared.writer.Writer.{Writer}
pub use Rattle.bz_layout.specs.private.Depths.{deepest_by, deepest_line, deepest_of, depth_expr, depth_exprs, depth_form, depth_in, depth_items, depth_line, depth_lines}
pub use Rattle.bz_layout.specs.private.Reached.{AreReached, gone_length, HasGap, HasNext, IsAt, IsProperBuildItem, IsPut, own_text, Passes, Reached, text_count, windows_end, windows_front}
pub use Rattle.bz_layout.specs.private.Spines.{is_lone_token, past_first, past_front, row_written}
pub use Rattle.bz_layout.specs.private.Windows.{AreCounted, AreLinesOver, come_end, come_items, HaveLines, line_count_in, old_count, old_lines, statement_gap}
pub use Rattle.bz_layout.specs.private.Writings.{body_text, comma_below, comma_text, joined_text, row_text, space_text, stacked_text, writings}
pub use Rattle.bz_lex.proofs.Lists.{spell_leaves-append}
pub use Rattle.bz_lex.specs.Gaps.{are_indents, blank, comment, escaped, escaped_return, indent, is_flush, is_indent, IsGap, IsOneLine, last_comment, nothing, unescaped}
pub use Rattle.bz_lex.specs.Leaves.{AreLeaves, IsCodedLeaf, spell_leaves}
pub use Rattle.bz_token.proofs.Tables.{is_none_at, one_text}
pub use Rattle.bz_token.specs.Lexemes.{is_mark, IsLexeme, marks}
pub use Rattle.bz_token.specs.Tokens.{IsToken}
pub use Rattle.bz_token.specs.declared.class.Class.{Class}
pub use Rattle.bz_value.proofs.FormParts.{AreHeadBy, AreHeaderBy, AreItemsBy, AreLinesBy, ArePartsBy, form_proper_by, framed, IsNone, operator_first}
pub use Rattle.bz_value.proofs.GapComments.{all_joined}
pub use Rattle.bz_value.proofs.LeadParts.{lead_before}
pub use Rattle.bz_value.proofs.LegalBy.{as_bzl, each_legal, LegalBy, node_legal}
pub use Rattle.bz_value.proofs.Rooted.{fits_same, more, one_of_same, over, Same, SameRoot}
pub use Rattle.bz_value.proofs.Wider.{values_wider}
pub use Rattle.bz_value.specs.Comments.{HostComments}
pub use Rattle.bz_value.specs.Frames.{is_binary, is_compound, is_comprehension, is_header, is_inner_frame, is_simple, lead}
pub use Rattle.bz_value.specs.Gaps.{after_first_line, all_but_last, all_in, as_list, before_groups, comments_in, first_comment, GapLine, groups_of, has_newline, last_group, LineRest, lines_of, others_in, rest_of_line, some_newline, suffix_in, trimmed}
pub use Rattle.bz_value.specs.LineShapes.{line_shape, value_shape, whole_shape}
pub use Rattle.bz_value.specs.Proper.{after_expr, AreComments, begins_operator, in_frame, is_operator, is_operator_class, IsBare, IsComment, IsEmptyRow, IsProperItemIn, IsSomeRow, MaybeComment, ProperBy, ProperHeadBy, ProperHeaderBy, ProperItemsBy, ProperLinesBy, ProperRowBy, roots}
pub use Rattle.bz_value.specs.Roots.{each_with_comma, row_in}
pub use Rattle.bz_value.specs.Statements.{alternatives_fit, else_last, first_token_text, has_header_kind, has_simple_kind, headed_by, header_word, is_alone, is_alternative, is_branch, is_headed_by, is_whole_statement}
pub use Rattle.std.proofs.Common.{[], ◌&&◌, ◌++◌, ◌+◌, ◌-◌, ◌<◌, ◌^◌, ◌||◌, ◌↔◌, ◌∙◌, ◌∷◌, ◌≡◌, ◌≢◌, ◌≤◌, ◌⊎◌, All, ap, append-nil, append_assoc, arith, Bool, bytes_eq, codes, cond, count_by, drop, drop-drop, drop_at, eq-eqb, eqb, eqb-true, Err, false, flat_map, get_or, get_or-take, IfOk, IfSome, if◌then◌else◌, inl, inr, IsSome, IsTrue, IsUtf8, le-leb, leb-true, length, length-append, length-drop, length-take-le, List, map, MatchOption, max, min, nat_eq, nat_le, ne_eqb, None, not, Ok, OnOk, Option, refl, replicate, Result, rules, slice_get, Some, subst, suc, sym, take, take-add, take-append-drop, take_all, take_at, true, true≢false, zero, ℕ}
pub use Rattle.std.proofs.Math.Bool.{and-false, and-true}
pub use Rattle.std.proofs.lemmas.Bool.{and_from, and_parts, both_ways, cases_Bool, cases_lt, lt-leb, not-false, not-true, or_cases, or_left, or_parts, or_right}
pub use Rattle.std.proofs.lemmas.Grind.{common_steps, flat_map-append}
pub use Rattle.std.proofs.lemmas.List.{drop-take, drop_all, drop_more, length-map, length-replicate, map-append, replicate-append-replicate}
pub use Rattle.std.proofs.lemmas.List.Elements.{All-map, All-weaker, recursion_from_All}
pub use Rattle.std.proofs.lemmas.Option.{same_Some}
pub use Rattle.std.proofs.lemmas.Slice.Eq.{bytes_eq-Decides}
pub use Rattle.std.proofs.lemmas.Str.{IsUtf8-append, IsUtf8-from_ascii, IsUtf8-nil}
pub use Rattle.std.specs.List.{AllByRecursion, list_all}
pub use mathlib.Core.Path.{fun_ext}
