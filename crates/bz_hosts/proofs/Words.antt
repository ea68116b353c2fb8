-- What the proofs of this crate speak of, from std, from the crates below and from its own specs.
pub use Rattle.bz_grammar.proofs.Balance.{inner_nonterminal, no_such, not_file, not_lines, parts_of_row, parts_split, same_class, spot_after}
pub use Rattle.bz_grammar.proofs.Nested.{items_of_row, row_of}
pub use Rattle.bz_grammar.proofs.Spells.{leaves_Node}
pub use Rattle.bz_grammar.specs.Joined.{BzlLinesJoin, file_with, last_token, LinesJoin}
pub use Rattle.bz_grammar.specs.Legal.{IsBuildPart, IsBuildRow, IsNonterminal, LegalBuild, LegalPart, LegalRow}
pub use Rattle.bz_grammar.specs.Shapes.{After, bzl_shape, done, Fits, is_terminal, items, leaves_at, list, Listed, no_more, Nonterminal, nonterminal_has_kind, once_more, Several, Shape, shape, Times, tok}
pub use Rattle.bz_grammar.specs.Spots.{after_node, after_part, Along, AreTokens, AtLeaves, AtParts, AtRow, Begins, closes, ends, following_token, GapStands, onward, opens, Role, role, Spot, Stands, TokenStands, Within}
pub use Rattle.bz_grammar.specs.declared.tree.Part.{items-the_row-Part}
pub use Rattle.bz_hosts.specs.Hosts.{above, bare_lines, beginning_in, between, block, by_frame, Comment, comment_place, CommentPlace, comments_at, comments_from, end_of, ended, ending_at, first_leaf, header, holds_gap, host, Hosted, hosted, hosted_at, hosted_by, hosted_from, hosts_alone, hosts_from, in_compound, in_node, in_row, in_statement, innermost, inside_expr, inside_item, inside_row, is_item_part, is_word_class, leaf_gap, left_above, left_by, lines_before, lines_of_leaf, Measured, measured, measured_row, one_by_one, outside, Page, Region, regions_in, right_above, same_place, simple_line, sizes, statement_hosts, Stretch, stretch_hosts, suffix_of, Suite, suite_end, suite_there, suites_in, texts_at, with_group}
pub use Rattle.bz_hosts.specs.Kept.{CommentsKept, occurrences}
pub use Rattle.bz_hosts.specs.Laws.{BuildViews, HostsByPlace, ViewsAreProper}
pub use Rattle.bz_hosts.specs.Seen.{begins_seen_operator, blocks, first_seen_gap, form_of_frame, held_in, is_open, is_split, items_in, last_gap, loose_after, loose_in, loose_of, plain, row_exprs, Seen, seen, seen_node, seen_row, seq_in, statement, statements_in}
pub use Rattle.bz_hosts.specs.Suites.{after_end, branches, end_comments, exprs_in, indented_lines_before, is_taken_line, line_read, margin_of, only_comment, put_header, ReadStatements, Stated, stated, stated_row, statement_read, suffix_before, suite_form, suite_in, suite_read, SuiteRead, walked, with_suite}
pub use Rattle.bz_hosts.specs.SuitesJoined.{BeginsBare, EndsInLine, EndsInNewline, EndsWithStatement, first_lines, lines_after, lines_at_end, SuitesJoin}
pub use Rattle.bz_hosts.specs.View.{items_from, view_of}
pub use Rattle.bz_hosts.specs.Words.{after_first_line, all_but_last, all_in, AreWholeLines, as_list, Bytes, Class, colon_mark, comments_in, comments_of, compound, end_of-Expr, end_of-Part, Expr, first_comment, first_indent, Form, Form', Frame, frame, GapLine, groups_of, has_newline, has_token, HostComments, indent, is_binary, is_comprehension, is_empty, is_header, is_kind, is_one_of, is_operator, IsProper, Item, items-the_row-Expr, Kind, last_group, lead, Leaf, leaves_of, leaves_part, leaves_row, Legal, line_feed, lines_of, more_of-Expr, more_of-Part, no_comments, Node, Node', number_sign, one_if, others_in, Part, row, Row_of-Expr, Row_of-Part, Seq, sequence, suffix_in, Terminal, times, Token, total}
pub use Rattle.bz_hosts.specs.private.FileParts.{first_read, items_below, left_below, MovesOn, part_read}
pub use Rattle.bz_hosts.specs.private.Walks.{above_after, is_unsigned, item_gap, line_gap, prepend}
pub use Rattle.bz_lex.proofs.Fronts.{empty_list}
pub use Rattle.bz_lex.specs.Gaps.{are_indents, is_indent, IsGap, nothing}
pub use Rattle.bz_lex.specs.Leaves.{IsCodedLeaf}
pub use Rattle.bz_token.specs.Lexemes.{IsLexeme}
pub use Rattle.bz_value.proofs.AlongGaps.{along}
pub use Rattle.bz_value.proofs.FormParts.{AreHeadBy, AreHeaderBy, AreItemsBy, AreLinesBy, ArePartsBy, AsCompoundBy, AsRowBy, AsSequenceBy, form_proper_by, operator_first, parts_in}
pub use Rattle.bz_value.proofs.GapComments.{all_fine, all_joined, AreFine, fine_after, fine_comments, fine_lines, Group, Groups, groups_fine, groups_front, groups_last, others_fine, suffix_fine}
pub use Rattle.bz_value.proofs.LegalBy.{as_bzl, each_legal, LegalBy, LegalRowBy, wider_part}
pub use Rattle.bz_value.proofs.Rooted.{fits_same, kept_items, kept_parts, more, one_of_same, over, places, row_same, Same, SameRoot, value_fits}
pub use Rattle.bz_value.proofs.Totals.{append_total, form_amount, inner_amount}
pub use Rattle.bz_value.proofs.Wider.{IsWider, values_wider}
pub use Rattle.bz_value.specs.Commented.{with_comments}
pub use Rattle.bz_value.specs.Counted.{amount, host_amount, item_amount, suffix_amount}
pub use Rattle.bz_value.specs.Frames.{has_brackets, is_inner_frame, is_simple}
pub use Rattle.bz_value.specs.Gaps.{before_groups, lines_from, put_on_first, rest_of_line, some_newline}
pub use Rattle.bz_value.specs.LineShapes.{line_shape, whole_shape}
pub use Rattle.bz_value.specs.Proper.{after_expr, AreComments, has_break, in_frame, is_operator_class, IsComment, IsProperItem, MaybeComment, ProperBy, ProperHeadBy, ProperItemsBy, ProperRowBy, roots}
pub use Rattle.bz_value.specs.Roots.{each_with_comma, root, row_in}
pub use Rattle.bz_value.specs.Statements.{alternatives_fit, else_last, first_token_text, has_simple_kind, headed_by, header_word, is_alternative, is_branch, is_headed_by, is_whole_statement}
pub use Rattle.bz_value.specs.declared.value.Expr.{items_hidden-the_row-Expr-0}
pub use Rattle.std.proofs.Common.{[], ◌&&◌, ◌*◌, ◌++◌, ◌+◌, ◌-◌, ◌<◌, ◌||◌, ◌∙◌, ◌∷◌, ◌≡◌, ◌≢◌, ◌≤◌, ◌⊎◌, add-one, All, ap, append-nil, append_assoc, ap₂, arith, Bool, Bor, bytes_eq, codes, drop, drop-drop, drop-set-lt, eq-eqb, false, flat_map, get_or, get_or-drop, if◌then◌else◌, inl, inr, IsUtf8, le-ltb, length, length-append, length-drop, length-set, List, lt-ltb, map, MatchOption, nat_eq, nat_le, nat_lt, ne_eqb, None, not, Option, option_copied, refl, replicate, rules, set, Some, subst, suc, sym, take, take-append-drop, take-suc, take_all, true, true≢false, zero, ℕ}
pub use Rattle.std.proofs.lemmas.Bool.{and_parts, and_right, cases_Bool, cond-false, cond-true, not-true, or_cases, or_left, or_right}
pub use Rattle.std.proofs.lemmas.Bool.Decides.{nat_tests}
pub use Rattle.std.proofs.lemmas.Grind.{flat_map-append}
pub use Rattle.std.proofs.lemmas.List.{drop-map, drop_all, drop_more, length-map, map-append, take-map}
pub use Rattle.std.proofs.lemmas.List.Elements.{All-from_recursion}
pub use Rattle.std.proofs.lemmas.List.Folds.{flat_map-map}
pub use Rattle.std.proofs.lemmas.Slice.Eq.{bytes_eq-Decides}
pub use Rattle.std.proofs.lemmas.Str.{IsUtf8-nil}
pub use Rattle.std.specs.List.{AllByRecursion, list_all, list_any}
pub use Rattle.std.specs.Option.{option_map_or}
