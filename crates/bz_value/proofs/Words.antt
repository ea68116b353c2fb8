-- What the proofs of this crate speak of, from std, from the crates below and from its own specs.
pub use Rattle.bz_grammar.specs.Legal.{IsNonterminal, LegalPart, LegalRow}
pub use Rattle.bz_grammar.specs.Shapes.{After, bzl_shape, done, Fits, has_nonterminal, has_token, is_one_of, is_terminal, items, Listed, no_more, Nonterminal, once_more, Several, Shape, shape, Terminal, Times, tok}
pub use Rattle.bz_grammar.specs.Spots.{after_node, Begins, closes, ends, following_token, onward, opens, plain, Role, role, Spot, Within}
pub use Rattle.bz_grammar.specs.declared.kind.Kind.{Kind}
pub use Rattle.bz_grammar.specs.declared.tree.Part.{end_of-Part, items-the_row-Part, more_of-Part, Node', Part, Row_of-Part}
pub use Rattle.bz_items.specs.Characters.{backslash, Bytes, comma, line_feed, number_sign}
pub use Rattle.bz_lex.specs.Gaps.{blank, comment, escaped, escaped_return, is_indent, IsGap, IsOneLine, last_comment, nothing, unescaped}
pub use Rattle.bz_token.specs.Bytes.{is_blank}
pub use Rattle.bz_value.specs.Frames.{compound, Frame, frame, is_binary, is_comprehension, is_inner_frame, lead, row, sequence}
pub use Rattle.bz_value.specs.Gaps.{after_first_line, all_but_last, all_in, as_list, before_groups, comments_in, first_comment, GapLine, groups_of, has_newline, last_group, lines_from, lines_of, others_in, put_on_first, rest_of_line, some_newline, suffix_in, trimmed, with_first}
pub use Rattle.bz_value.specs.LineShapes.{build_grammar, line_shape, value_shape, whole_shape}
pub use Rattle.bz_value.specs.Proper.{after_expr, AreComments, begins_operator, comments_of, has_break, in_frame, is_operator, IsBare, IsComment, IsEmptyRow, IsProperItem, IsProperItemIn, IsSomeRow, MaybeComment, ProperBy, ProperHeadBy, ProperHeaderBy, ProperItemsBy, ProperLinesBy, ProperRowBy, roots}
pub use Rattle.bz_value.specs.Roots.{each_with_comma, mark_leaf, root, row_in}
pub use Rattle.bz_value.specs.Statements.{alternatives_fit, has_header_kind, is_alternative, is_whole_statement}
pub use Rattle.bz_value.specs.declared.value.Expr.{end_of-Expr, Expr, Form', items-the_row-Expr, items_hidden-the_row-Expr-0, more_of-Expr, Row_of-Expr, Token}
pub use Rattle.bz_value.specs.declared.value.Form.{Form}
pub use Rattle.std.proofs.Common.{[], ◌&&◌, ◌++◌, ◌+◌, ◌-◌, ◌<◌, ◌∙◌, ◌∷◌, ◌≡◌, ◌≢◌, ◌≤◌, add-one, All, ap, append-nil, append_assoc, arith, Bool, codes, drop, drop_at, eq-eqb, eqb, eqb-true, false, get_or, if◌then◌else◌, inl, inr, IsUtf8, le-ltb, length, length-append, List, lt-ltb, map, ne_eqb, None, not, Option, refl, Some, subst, suc, sym, take, take_at, true, true≢false, zero, ℕ}
pub use Rattle.std.proofs.Math.Seq.{get_or-append_seam, take-length}
pub use Rattle.std.proofs.lemmas.Bool.{and_parts, both_ways, cases_Bool, eqb-false}
pub use Rattle.std.proofs.lemmas.Bool.Decides.{nat_tests}
pub use Rattle.std.proofs.lemmas.List.{drop_all, take_more, take_more_same}
pub use Rattle.std.proofs.lemmas.List.Elements.{All-from_recursion, recursion_from_All}
pub use Rattle.std.specs.List.{AllByRecursion}
