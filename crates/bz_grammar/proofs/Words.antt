-- What the proofs of this crate speak of, from std, from the crates below and from its own specs.
pub use Rattle.bz_grammar.specs.Indents.{AllIndented, alternatives, AreIndented, first_indent, Indented, Owned, Owner}
pub use Rattle.bz_grammar.specs.Joined.{AreWholeLines, BzlLinesJoin, file_with, last_token, LinesJoin}
pub use Rattle.bz_grammar.specs.Kinds.{kind_number, kind_of}
pub use Rattle.bz_grammar.specs.Laws.{EachStatementHasALine, IsLegalByLeaves, KindOfNumber, OneFile}
pub use Rattle.bz_grammar.specs.Legal.{IsBuild, IsBuildPart, IsBuildRow, IsFile, IsNonterminal, Legal, LegalBuild, LegalPart, LegalRow, LegalShapes}
pub use Rattle.bz_grammar.specs.Reading.{◌>>=◌, after_item, as_kind, atom, by_shape, choose, clause_plan, climb, curly, finish, first, first_of, fits_in, follow, FoundLevel, infix_at, kind_at, more_items, named_tail, node_part, one, own_token, param_tail, piece, Plan, prefix_at, put_found, Read, read_argument, read_param, read_primary, reading, round, run, separated_parts, several, shape_at, small_plan, square, starts, starts_level, starts_with, suffix_plan, suffixes, token_part, with_part_first, wrap, wrap_found}
pub use Rattle.bz_grammar.specs.Shapes.{After, alt, any, argument, assigns, branches, bzl_shape, clause, close_curly, close_square, colon_mark, done, each, entry, equals, first_clause, Fits, has_token, is_class, is_expression, is_kind, is_one_of, is_terminal, items, leaves_at, level, line, list, Listed, loaded, name, no_more, none, Nonterminal, nonterminal_has_kind, once_more, one_keyword, open_curly, open_round, open_square, owned, param, primary, rank, Several, Shape, shape, simple, small, starred, stmt, string, sub, suite, Terminal, test, this, Times, times, tok}
pub use Rattle.bz_grammar.specs.Spell.{deepest, depth_limit, depth_of, depth_part, depth_row, leaves_of, leaves_part, leaves_row, limit, spell_node, spell_part, spell_row, within_limit}
pub use Rattle.bz_grammar.specs.Spots.{after_node, after_part, Along, AreTokens, AtLeaves, AtParts, AtRow, Begins, closes, ends, following_token, GapStands, onward, opens, plain, Role, role, Spot, Stands, TokenStands, Within}
pub use Rattle.bz_grammar.specs.Statements.{begins_on, first_gap, fronts, fronts_part, fronts_row, gap_of, has_statements, is_statement_kind, line_following, newlines, statements, statements_part, statements_row}
pub use Rattle.bz_grammar.specs.Suites.{alone, begins_at, branches_of, def_header, else_header, for_header, if_all, is_deeper, put_all, read_file, stands_at, statement, statements_of, suite_of, test_header, while_next, with_suite}
pub use Rattle.bz_grammar.specs.declared.kind.Kind.{Kind}
pub use Rattle.bz_grammar.specs.declared.statement.Sought.{Sought}
pub use Rattle.bz_grammar.specs.declared.tree.Node.{Node}
pub use Rattle.bz_grammar.specs.declared.tree.Part.{end_of-Part, items-the_row-Part, items_hidden-the_row-Part-0, more_of-Part, Node', Part, Row_of-Part}
pub use Rattle.bz_grammar.specs.declared.tree.Part.TheViews.{out-Part, outs-Node, the_lemmas}
pub use Rattle.bz_grammar.specs.private.Seeking.{all_passed, is_stated, own_front, passed_line}
pub use Rattle.bz_lex.proofs.Tokens.{token_holds, token_no_newline}
pub use Rattle.bz_lex.proofs.Unique.{not_over, one_lexing}
pub use Rattle.bz_lex.specs.Gaps.{are_indents, blank, comment, escaped, escaped_return, indent, is_indent, IsGap, last_comment, nothing, unescaped}
pub use Rattle.bz_lex.specs.Leaves.{AreCoded, AreLeaves, IsCodedLeaf, spell_leaves, Stand}
pub use Rattle.bz_lex.specs.Places.{after_newline, after_token, deeper, end, end_at_once, inner, is_closing, is_opening, later, May, newline, next, no_newline, same_depth, shallower}
pub use Rattle.bz_lex.specs.declared.leaf.Leaf.{Leaf}
pub use Rattle.bz_lex.specs.declared.place.Place.{Place}
pub use Rattle.bz_lex.specs.declared.place.Place.TheVariants.{Fresh, Inside, Last, Over}
pub use Rattle.bz_token.specs.Classes.{class_number, class_of}
pub use Rattle.bz_token.specs.Tokens.{IsToken, NoToken, OpensString}
pub use Rattle.bz_token.specs.declared.class.Class.{Class}
pub use Rattle.std.proofs.Common.{[], ◌&&◌, ◌++◌, ◌+◌, ◌-◌, ◌<◌, ◌||◌, ◌↔◌, ◌∙◌, ◌∷◌, ◌≡◌, ◌≤◌, ◌⊎◌, ap, append-nil, append_assoc, arith, Bool, bytes_eq, codes, cond, drop, eq-eqb, eqb, eqb-true, Err, false, flat_map, get_or, IfOk, if◌then◌else◌, inl, inr, IsTrue, le-leb, leb, leb-true, length, length-append, List, map, max, nat_eq, ne_eqb, None, not, Ok, OnErr, OnOk, Option, option_map, refl, Result, rules, slice_get, Some, subst, suc, suc-add, sym, take, take-append-drop, true, zero, zero-add, ℕ}
pub use Rattle.std.proofs.lemmas.Bool.{and_from, and_parts, both_ways, cases_Bool, cases_lt, cond-false, cond-true, false≢true, not-true, or_cases, or_left, or_parts, or_right}
pub use Rattle.std.proofs.lemmas.List.{drop_more, flat_map_more, map-append, take_more, take_more_same}
pub use Rattle.std.proofs.lemmas.Option.{none-some, same_Some}
pub use Rattle.std.proofs.lemmas.Slice.Eq.{bytes_eq-Decides}
pub use Rattle.std.specs.List.{AllByRecursion}
