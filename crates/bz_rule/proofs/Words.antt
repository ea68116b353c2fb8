-- What the proofs of this crate speak of, from std, from the crates below and from its own specs.
pub use Rattle.bz_grammar.proofs.Numbers.{same_kind}
pub use Rattle.bz_grammar.specs.Kinds.{kind_number}
pub use Rattle.bz_grammar.specs.Legal.{IsNonterminal}
pub use Rattle.bz_grammar.specs.Shapes.{After, Fits, has_nonterminal, has_token, is_class, is_one_of, is_terminal, Listed, Nonterminal, Several, Shape, Terminal}
pub use Rattle.bz_grammar.specs.Spots.{Begins, following_token, plain, Role, role, Spot, Within}
pub use Rattle.bz_grammar.specs.declared.kind.Kind.{Kind}
pub use Rattle.bz_grammar.specs.declared.tree.Part.{Part}
pub use Rattle.bz_items.specs.Characters.{Bytes, comma, full_stop}
pub use Rattle.bz_rule.specs.Held.{AddsPlace, held}
pub use Rattle.bz_rule.specs.Index.{marked_places, places_from, places_of}
pub use Rattle.bz_rule.specs.Rules.{attribute, Call, called, dotted, dotted_name, form_in, has_name, is_text, joined, name_in, name_of, named, only, Rule, rule_of, text_in, value_after, value_named, with_names}
pub use Rattle.bz_rule.specs.Values.{has_class, has_kind, items_of, on_first, on_items, on_lists, on_rest, on_row, on_third, parts_of, text_of, with_items, with_parts, with_text}
pub use Rattle.bz_rule.specs.private.Named.{each_named, fronts, fronts_among, fronts_in_row}
pub use Rattle.bz_token.specs.Lexemes.{IsLexeme, IsString}
pub use Rattle.bz_token.specs.declared.class.Class.{Class}
pub use Rattle.bz_value.proofs.FormParts.{AreHeadBy, AreItemsBy, ArePartsBy, form_proper_by, framed, IsNone, operator_first}
pub use Rattle.bz_value.specs.Comments.{HostComments, no_comments}
pub use Rattle.bz_value.specs.Frames.{compound, Frame, frame, is_binary, is_compound, is_comprehension, is_simple, row, sequence}
pub use Rattle.bz_value.specs.LineShapes.{build_grammar, Grammar, value_shape, whole_grammar}
pub use Rattle.bz_value.specs.Proper.{after_expr, AreComments, begins_operator, comments_of, has_break, in_frame, is_operator, IsBare, IsComment, IsEmptyRow, IsProperItemIn, ProperExpr, ProperHeadBy, ProperItemsBy, ProperRowBy, roots}
pub use Rattle.bz_value.specs.Roots.{each_with_comma, mark_leaf, root, row_in}
pub use Rattle.bz_value.specs.declared.value.Expr.{end_of-Expr, Expr, Form', items-the_row-Expr, items_hidden-the_row-Expr-0, items_shown-the_row-Expr-0, more_of-Expr, Row_of-Expr, Token}
pub use Rattle.bz_value.specs.declared.value.Form.{Form}
pub use Rattle.bz_value.specs.declared.value.Item.{Item}
pub use Rattle.std.proofs.Common.{[], ◌&&◌, ◌++◌, ◌+◌, ◌-◌, ◌<◌, ◌||◌, ◌∙◌, ◌∷◌, ◌≡◌, ◌≢◌, ◌≤◌, All, ap, append-nil, append_assoc, arith, Bool, Bor, bytes_eq, codes, cond, Decides, drop, eqb-true, false, filter, get_or, HashMap, IfSome, if◌then◌else◌, inl, inr, is_some, IsUtf8, length, List, map, MatchOption, nat_eq, None, not, Option, option_and_then, option_map, refl, Some, subst, suc, sym, take, true, true≢false, unwrap_or, Vec, ℕ}
pub use Rattle.std.proofs.lemmas.Bool.Decides.{Decides-eqb, nat_tests, same_from_decides}
pub use Rattle.std.proofs.lemmas.List.{append_cancel_right, drop_more}
pub use Rattle.std.proofs.lemmas.Slice.Eq.{bytes_eq-Decides, strip_suffix_is}
pub use Rattle.std.specs.List.{AllByRecursion}
pub use Rattle.std.specs.Option.{option_map_or, option_or}
