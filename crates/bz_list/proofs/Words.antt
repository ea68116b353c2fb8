-- What the proofs of this crate speak of, from std, from the crates below and from its own specs.
pub use Rattle.bz_attribute.proofs.AttributesAgain.{attribute_changed, attribute_new, by_absent, by_there, node_parts, same_made, with_value_same, without_new}
pub use Rattle.bz_attribute.proofs.FormsAgain.{attribute_first, both, found_if, if_either, if_false, if_true, items_changed, items_filled, items_kind, items_same, own_items, own_parts, parts_filled, parts_kind, row_changed, row_same}
pub use Rattle.bz_attribute.proofs.KeySets.{any_inserted, any_like, equal_texts, or_group, or_none}
pub use Rattle.bz_attribute.proofs.ListsChanged.{list_no_select, lists_changed, no_branches, on_items_kind, places_same}
pub use Rattle.bz_attribute.proofs.ListsThere.{any_alone, any_in_sum, any_listed, in_sum, in_value, items_there, lists_there, some_filtered, sum_no_list}
pub use Rattle.bz_attribute.proofs.PlainWords.{body_quoted, equal_self, IsPlain}
pub use Rattle.bz_attribute.specs.Lists.{is_select, is_there, list_places, lists_of, operands_of}
pub use Rattle.bz_attribute.specs.Made.{argument_of, binds_looser, mark, node, operand, shortened_in}
pub use Rattle.bz_command_syntax.specs.Patterns.{substituted}
pub use Rattle.bz_command_syntax.specs.Quoted.{quoted_of}
pub use Rattle.bz_grammar.specs.Shapes.{is_class}
pub use Rattle.bz_grammar.specs.declared.kind.Kind.{Kind}
pub use Rattle.bz_label.proofs.LabelFunctions.{is_shortened, label_exact, read_label, same_exactly}
pub use Rattle.bz_label.specs.Pieces.{is_colon, is_slash}
pub use Rattle.bz_label.specs.Read.{are_equal, is_own, is_same, shortened}
pub use Rattle.bz_list.specs.Changes.{add, argument_left, cleared, equals_word, in_attributes, is_moved, items_moved, move, remove_everywhere, remove_if_equal, remove_values, replace, replaced_item, strings_added, substitute, substituted_item, values_changed, values_left, with_body, with_items_added, with_strings, without_items}
pub use Rattle.bz_list.specs.Words.{are_one, Arguments, arriving, attribute, Attributes, body_of, branches_of, by_value, Bytes, entries_of, Expr, first_text, fresh, has_attribute, has_class, has_kind, has_lists, is_attribute, is_empty, is_empty_list, is_equal, is_escaped, is_item, is_label_attribute, is_no_list, is_nonempty, is_other_attribute, is_some_item, items_in, Label, label_in, label_of, list_of, listed, on_first_that, on_branches, on_items, on_lists, on_operand, on_operands, on_row, on_third, on_value, operands_in, parts_of, plus, Selects, string_of, string_text, text_of, travelled, ValueOperation, Values, with_branches, with_more, with_new, with_text, with_value, without}
pub use Rattle.bz_list.specs.declared.listed.Added.{Added}
pub use Rattle.bz_list.specs.private.KnownValues.{are_one_key, is_known, key_by, knows_word, label_meant, new_ones, parts_of_key, with_all, with_known, word_key}
pub use Rattle.bz_list.specs.private.Listing.{added_by, added_to, chooses, chosen_in, edited, entry_edited, entry_items, is_item_ending, is_left, item_changed_by, items_edited, new_items, new_strings, operand_items, other_changed_by, put_back, takes, value_changed_by, value_with, without_chosen}
pub use Rattle.bz_rule.proofs.ProperChanges.{by_case, by_test, items_stay, row_stays, Stays, string_in_place}
pub use Rattle.bz_rule.specs.Rules.{body, inner, is_plain_in}
pub use Rattle.bz_rule.specs.Values.{items_of, on_first, with_items, with_parts}
pub use Rattle.bz_token.specs.declared.class.Class.{Class}
pub use Rattle.bz_value.specs.declared.refusal.Refusal.TheVariants.{NoAttribute, NotAList}
pub use Rattle.bz_value.specs.declared.value.Expr.{Form', items-the_row-Expr, items_hidden-the_row-Expr-0, Token}
pub use Rattle.std.proofs.Common.{[], ◌&&◌, ◌++◌, ◌+◌, ◌-◌, ◌<◌, ◌||◌, ◌↔◌, ◌∙◌, ◌∷◌, ◌≡◌, ◌≤◌, ◌⊎◌, ap, append-nil, append_assoc, arith, Bool, BTreeSet, bytes_eq, codes, drop, eqb-true, Err, false, filter, flat_map, get_or, IfSome, if◌then◌else◌, inl, inr, is_eq, is_some, IsTrue, IsUtf8, length, length-append, List, map, nat_cmp, nat_eq, None, not, Ok, OnOk, Option, option_and_then, option_copied, position, refl, rules, Result, slice_get, slice_set, Some, subst, sym, take, take-append-drop, true, true≢false, ℕ}
pub use Rattle.std.proofs.Math.Bool.{and_assoc, or-false, or_assoc}
pub use Rattle.std.proofs.Math.Path.{fun_ext}
pub use Rattle.std.proofs.lemmas.Bool.{and_from, and_parts, cases_Bool, not-true, or_cases, or_left, or_parts, or_right}
pub use Rattle.std.proofs.lemmas.Grind.{flat_map-append}
pub use Rattle.std.proofs.lemmas.List.{at_drop_all, drop_more}
pub use Rattle.std.proofs.lemmas.List.Folds.{list_any-append, list_any_none}
pub use Rattle.std.specs.Cmp.{both_ways, tied_then, unsigned_Decides}
pub use Rattle.std.specs.List.{AllByRecursion, ends_with, list_all, list_any, suffix_len}
pub use Rattle.std.specs.Option.{option_map_or}
pub use Rattle.std.specs.Vec.Iter.{into_iter_items}
