-- What the proofs of this crate speak of, from std, from the crates below and from its own specs.
pub use Rattle.bz_attribute.proofs.ArgumentForms.{any_same}
pub use Rattle.bz_attribute.proofs.AttributesAgain.{attribute_changed, attribute_new, by_absent, by_there, node_parts, of_found, same_made, with_value_same, without_new}
pub use Rattle.bz_attribute.proofs.FormsAgain.{attribute_any, attribute_parts, both, if_either, if_false, if_true, items_changed, items_filled, items_kind, items_same, parts_filled, parts_kind, row_back, row_changed, row_same, some_if, value_changed}
pub use Rattle.bz_attribute.proofs.KeySets.{equal_texts, or_none, text_cmp}
pub use Rattle.bz_attribute.proofs.PlainWords.{body_quoted, equal_self, IsPlain}
pub use Rattle.bz_attribute.proofs.ProperAttributes.{AreArguments, first_that_kept, Keeps, Made, of_attribute, of_value, put_kept, with_new_kept, with_value_kept, without_kept}
pub use Rattle.bz_attribute.proofs.ProperMade.{call_new, IsNew, list_new, list_value, new_part, new_value, none_there, quoted_string, row_proper, string_strung, string_value, token_new, words_are_items}
pub use Rattle.bz_attribute.specs.Lists.{items_in, with_more}
pub use Rattle.bz_attribute.specs.Sets.{texts_of}
pub use Rattle.bz_change.specs.Changes.{copy, copy_no_overwrite, each_same, is_constant, is_decimal, is_set, remove, rename, RenamedBack, set, set_if_absent, setting, single_setting}
pub use Rattle.bz_change.specs.Dicts.{as_token, dict_add, dict_list_add, dict_of, dict_remove, dict_replace_if_equal, dict_set, entries_put, entry_changed, entry_made, entry_put, entry_with, has_key, has_list_in, has_list_value, has_some_key, is_select_set, key_in, key_of, list_put, on_dict, on_entry, refuses_items, select_of, set_select, takes_no_items, value_again, value_made, value_replaced, with_dict_left, without_entries}
pub use Rattle.bz_change.specs.Laws.{are_keys, EntriesAddedAgain, EntriesAddedAreThere, EntriesRemovedAgain, EntriesSetAreThere, has_keys, have_plain_keys, keys_of, ListAddedTwice, SelectKeepsComments}
pub use Rattle.bz_change.specs.Words.{amount, Arguments, attribute, Attributes, become_plain, by_value, Bytes, Entry, Expr, Form', has_attribute, has_kind, has_lists, is_attribute, is_empty, is_escaped, is_item, is_list_attribute, is_nonempty, is_other_attribute, is_spelled, is_text, items_of, list_of, mark, on_first, on_first_that, on_items, on_row, on_third, one_if, parts_of, put, quoted_of, string_of, string_text, strings_added, Token, token, total, with_new, with_strings, with_text, with_value, without}
pub use Rattle.bz_change.specs.declared.dicts.Change.{Change}
pub use Rattle.bz_change.specs.declared.dicts.Change.TheVariants.{Add, Select, Set}
pub use Rattle.bz_change.specs.private.Outcomes.{AreIndexed, place_at}
pub use Rattle.bz_command_syntax.proofs.NameTests.{identifiers_are_names}
pub use Rattle.bz_command_syntax.specs.Proper.{AreSome, AreUtf8, EachIs, IsAttribute, IsEntry}
pub use Rattle.bz_grammar.specs.declared.kind.Kind.{Kind}
pub use Rattle.bz_rule.proofs.ProperChanges.{by_case, by_test, Stays}
pub use Rattle.bz_rule.proofs.ProperItems.{all_joined, all_kept, IsValue, item_within, KeepsRow, row_within, value_in_place}
pub use Rattle.bz_rule.proofs.ProperSequences.{AreOf, each_item, IsItem, items_again, items_apart, KeepsForms, sequence_in_place}
pub use Rattle.bz_rule.specs.Values.{with_items, with_parts}
pub use Rattle.bz_token.specs.Lexemes.{Each, IsDigits, IsLexeme, whole}
pub use Rattle.bz_token.specs.declared.class.Class.{Class}
pub use Rattle.bz_value.specs.LineShapes.{Grammar, value_shape}
pub use Rattle.bz_value.specs.declared.refusal.Refusal.TheVariants.{AttributeExists, NoAttribute, NoSource, NotADict, NotAList}
pub use Rattle.std.proofs.Common.{[], ◌&&◌, ◌++◌, ◌+◌, ◌<◌, ◌||◌, ◌∙◌, ◌∷◌, ◌≡◌, ◌≤◌, ap, arith, Bool, BTreeMap, BTreeSet, bytes_eq, codes, cond, drop, eq-eqb, Err, false, filter, get_or, IfOk, IfSome, if◌then◌else◌, inl, inr, is_some, IsUtf8, length, length-take-le, List, map, nat_lt, None, not, Ok, Option, position, refl, rules, slice_get, slice_set, Some, subst, suc, sym, take, take_all, true, true≢false, Vec, zero, zip, ℕ}
pub use Rattle.std.proofs.lemmas.Bool.{and_from, and_parts, cases_Bool, false_from_ne_true, not-false, not-true, or_cases, or_left, or_parts, or_right}
pub use Rattle.std.proofs.lemmas.List.Elements.{All-nil, filter_from_retain}
pub use Rattle.std.proofs.lemmas.List.Folds.{list_any-append, list_any_at, list_any_none}
pub use Rattle.std.specs.List.{AllByRecursion, list_all, list_any, position_from}
pub use Rattle.std.specs.Option.{option_map_or, option_or}
