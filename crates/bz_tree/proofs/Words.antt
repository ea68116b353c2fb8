-- What the proofs of this crate speak of, from std, from the crates below and from its own specs.
pub use Rattle.bz_grammar.proofs.Exact.{all_leaves, if_some, token_leaf}
pub use Rattle.bz_grammar.proofs.ExactNonterminals.{reading_exact}
pub use Rattle.bz_grammar.proofs.Levels.{begins, goes}
pub use Rattle.bz_grammar.proofs.Spells.{depth_Node, node_spelled}
pub use Rattle.bz_grammar.proofs.Suites.{owner_takes, read_complete, read_sound, same_text, statement_takes, text_same}
pub use Rattle.bz_grammar.proofs.Terminals.{disjoint, disjoint_at, full_front}
pub use Rattle.bz_grammar.proofs.Trees.{At}
pub use Rattle.bz_grammar.specs.Legal.{IsBuild, IsFile, IsFileOf, IsNonterminal, Legal, NoBzlTree, NoTree, Reads, ReadsBzl}
pub use Rattle.bz_grammar.specs.Reading.{◌>>=◌, after_item, as_kind, choose, clause_plan, climb, curly, finish, first, first_of, fits_in, follow, FoundLevel, infix_at, named_tail, node_part, one, param_tail, piece, Plan, put_found, Read, reading, round, run, separated_parts, several, small_plan, square, starts, starts_with, suffix_plan, suffixes, token_part, with_part_first, wrap, wrap_found}
pub use Rattle.bz_grammar.specs.Shapes.{alt, argument, bzl_shape, clause, comma_mark, done, each, end, entry, equals, first_clause, Fits, has_token, is_one_of, level, line, list, loaded, name, newline, none, Nonterminal, one_keyword, open_curly, open_round, open_square, param, products, Several, Shape, shifts, simple, small, starred, stars, stmt, string, sub, suite, sums, Terminal, times, tok}
pub use Rattle.bz_grammar.specs.Spell.{deepest, depth_limit, depth_part, leaves_of, leaves_part, limit, spell_node}
pub use Rattle.bz_grammar.specs.Suites.{alone, begins_at, branches_of, if_all, is_deeper, put_all, read_file, stands_at, statement, suite_of, test_header, while_next, with_suite}
pub use Rattle.bz_grammar.specs.declared.kind.Kind.{Kind}
pub use Rattle.bz_grammar.specs.declared.tree.Node.{Node}
pub use Rattle.bz_grammar.specs.declared.tree.Part.{items-the_row-Part, Part}
pub use Rattle.bz_lex.specs.Fronts.{front_leaf, front_token}
pub use Rattle.bz_lex.specs.declared.fault.ReadFault.{ReadFault}
pub use Rattle.bz_lex.specs.declared.leaf.Leaf.{Leaf}
pub use Rattle.bz_states.specs.States.{again, binds, binds_at, choices, compare_tail, cond_tail, either, expected_move, ExpectedMove, Expects, Few, Meets, never, nonterminal_of, one_part, one_token, plan_at, precedence_of, row_of_items, whole}
pub use Rattle.bz_states.specs.Tokens.{Fails, Halts, terminals_of}
unfoldable pub use Rattle.bz_states.specs.Tokens.{token_at}
pub use Rattle.bz_states.specs.declared.leaves.ParseHalt.{ParseHalt}
pub use Rattle.bz_states.specs.declared.state.ItemsAt.{ItemsAt}
pub use Rattle.bz_states.specs.declared.state.ListedItems.{ListedItems}
pub use Rattle.bz_states.specs.declared.state.Move.{Move}
pub use Rattle.bz_states.specs.declared.state.NodeState.{NodeState}
pub use Rattle.bz_states.specs.declared.state.PartNonterminal.{PartNonterminal}
pub use Rattle.bz_states.specs.declared.state.Precedence.{Precedence}
pub use Rattle.bz_states.specs.declared.state.StatementAt.{StatementAt}
pub use Rattle.bz_states.specs.declared.state.SuffixAt.{SuffixAt}
pub use Rattle.bz_states.specs.declared.state.Tail.{Tail}
pub use Rattle.bz_states.specs.declared.token.TokenSet.{TokenSet}
pub use Rattle.bz_tree.specs.declared.indented.Header.{Header}
pub use Rattle.bz_tree.specs.private.Ranks.{bound, climbed, RisesFrom, rising}
unfoldable pub use Rattle.bz_tree.specs.private.Ranks.{argument_at, atom_at, begun_at, bound_at, fitted_at, level_at, param_at, risen_at, suffixes_at}
pub use Rattle.bz_tree.specs.private.Rows.{plan_of_header, PutsAll, PutsOne, shape_of_header}
unfoldable pub use Rattle.bz_tree.specs.private.Rows.{branches_at, header_at, if_at, owner_at, statement_at, statements_at, suite_at}
pub use Rattle.bz_tree.specs.private.Words.{Pushes, read_by_move, with_found}
unfoldable pub use Rattle.bz_tree.specs.private.Words.{found_by, found_from, part_at}
pub use Rattle.std.proofs.Common.{[], ◌&&◌, ◌*◌, ◌++◌, ◌+◌, ◌-◌, ◌<◌, ◌↔◌, ◌∙◌, ◌∷◌, ◌≡◌, ◌≤◌, ◌⊎◌, ap, append-nil, append_assoc, arith, Bool, bytes_eq, codes, cond, drop, Err, false, flat_map, IfErr, IfOk, inl, inr, IsErrAnd, IsTrue, IsUtf8, le-leb, leb-true, length, length-append, length-drop, length-take-le, List, max, min, nat_le, None, Ok, OnOk, Option, option_copied, refl, Result, rules, slice_get, Some, subst, suc, sym, take, take-append-drop, true, zero, ℕ}
pub use Rattle.std.proofs.Math.Seq.{drop-append_seam, drop-length, take-append_seam, take-length}
pub use Rattle.std.proofs.lemmas.Bool.{and_from, and_parts, both_ways, cases_Bool, cases_lt, cond-false, cond-true, lt-leb, or_right}
pub use Rattle.std.proofs.lemmas.Option.{none-some, same_Some}
