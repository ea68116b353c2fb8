-- What the proofs of this crate speak of, from std, from the crates below and from its own specs.
pub use Rattle.bz_attribute.specs.Attributes.{Arguments, by_value, has_attribute, inserted, is_attribute, on_first_that, on_value, put, with_new, with_value, without, without_first}
pub use Rattle.bz_attribute.specs.Lists.{branches_of, entries_in, entries_of, has_lists, is_first_dict, is_select, items_in, listed, lists_of, on_branches, on_lists, on_operands, on_operand, operands_after, operands_in, operands_of, list_places, with_branches, with_more}
pub use Rattle.bz_attribute.specs.Made.{argument_of, binds_looser, dotted_after, dotted_from, function_of, list_of, mark, name, node, operand, plus, rule_made, sequence, shortened_in, string_of, string_text, token}
pub use Rattle.bz_attribute.specs.Words.{attribute, body, Bytes, Class, Expr, Form', full_stop, has_kind, is_empty, is_label_attribute, items_of, Kind, no_comments, on_items, on_row, on_third, parts_of, quoted_of, rank, Selects, shortened, text_in, value_named, with_parts, with_text}
pub use Rattle.bz_command_syntax.proofs.Strings.{quoted_lexeme, quoted_plain}
pub use Rattle.bz_command_syntax.proofs.Utf8Texts.{beside_ascii, nothing_before, quoted_utf8}
pub use Rattle.bz_command_syntax.specs.Proper.{AreUtf8, IsAttribute, IsKind}
pub use Rattle.bz_grammar.specs.Shapes.{Fits, is_kind, Listed}
pub use Rattle.bz_items.specs.Characters.{apostrophe, backslash, quotation_mark}
pub use Rattle.bz_rule.proofs.ProperChanges.{by_case, by_test, EachStays, Stays, Strung}
pub use Rattle.bz_rule.proofs.ProperItems.{IsValue, KeepsRow, row_within, value_within}
pub use Rattle.bz_rule.proofs.ProperSequences.{AreOf, each_item, IsItem, items_again}
pub use Rattle.bz_rule.specs.Rules.{inner, is_plain_in, is_text, only, value_after}
pub use Rattle.bz_rule.specs.Values.{on_first, with_items}
pub use Rattle.bz_value.proofs.Totals.{append_total, form_amount}
pub use Rattle.bz_value.specs.Counted.{amount, row_amount, total}
pub use Rattle.bz_value.specs.LineShapes.{Grammar, value_shape}
pub use Rattle.bz_value.specs.declared.value.Expr.{end_of-Expr, items-the_row-Expr, items_hidden-the_row-Expr-0, more_of-Expr, Row_of-Expr, Token}
pub use Rattle.bz_value.specs.declared.value.Form.{Form}
pub use Rattle.std.proofs.Common.{[], ◌&&◌, ◌++◌, ◌+◌, ◌-◌, ◌<◌, ◌||◌, ◌∙◌, ◌∷◌, ◌≡◌, ◌≤◌, ap, append-nil, append_assoc, arith, Bool, BTreeSet, bytes_eq, codes, cond, drop, eqb-true, false, filter, flat_map, get_or, IfOk, IfSome, if◌then◌else◌, inl, inr, insert, is_eq, is_some, IsUtf8, length, length-append, length-set, List, ltb-false, map, nat_cmp, nat_eq, nat_lt, None, not, Ok, Option, option_and_then, position, refl, remove, set, slice_get, slice_index_or, slice_set, Some, subst, suc, sym, take, take_at, true, true≢false, unwrap_or, Vec, zero, ℕ}
pub use Rattle.std.proofs.lemmas.Bool.{and_parts, cases_Bool, not-true, or_cases, or_parts}
pub use Rattle.std.proofs.lemmas.Slice.Eq.{bytes_eq-Decides}
pub use Rattle.std.specs.List.{AllByRecursion, list_all, list_any, onto_first, position_or_len, slice_split}
pub use Rattle.std.specs.Option.{option_map_or, option_or}
