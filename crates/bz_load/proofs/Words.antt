-- What the proofs of this crate speak of, from std, from the crates below and from its own specs.
pub use Rattle.bz_attribute.proofs.ArgumentPlaces.{changed_there, is_first, IsFirst, later, none_later, none_passes, NonePasses, removed_at}
pub use Rattle.bz_attribute.proofs.FormsAgain.{both, found_if, if_false, if_true, items_changed, items_filled, items_kind, items_same, items_twice, made, own_parts, parts_filled, parts_kind}
pub use Rattle.bz_attribute.proofs.GrownArguments.{row_total, whole}
pub use Rattle.bz_attribute.proofs.KeySets.{equal_texts, or_none, or_turn}
pub use Rattle.bz_attribute.proofs.PlainWords.{body_quoted, equal_self, IsPlain}
pub use Rattle.bz_attribute.proofs.ProperMade.{argument_item, IsNew, new_part, none_there, quoted_string, row_proper, string_value, token_new}
pub use Rattle.bz_attribute.proofs.ProperTexts.{body_utf8, one_ascii}
pub use Rattle.bz_command_syntax.proofs.NameTests.{identifiers_are_names}
pub use Rattle.bz_command_syntax.specs.Proper.{EachIs, IsAttribute}
pub use Rattle.bz_grammar.proofs.Numbers.{same_kind}
pub use Rattle.bz_grammar.specs.Spots.{Begins, Spot, Within}
pub use Rattle.bz_items.specs.Characters.{apostrophe, backslash, quotation_mark}
pub use Rattle.bz_load.specs.Fixes.{end_of, fix, has_operand, has_own_comments, is_commented, is_emptied, is_operand_at, is_package_call, is_used, move_package_to_top, operand_from, package_moved, path_comments, symbol_stays, unused_loads, used_alone, uses, with_used}
pub use Rattle.bz_load.specs.Growing.{IsGrown, past_windows}
pub use Rattle.bz_load.specs.Laws.{becomes_plain, FixedAgain, has_second_package, IsLoadedAlone, loaded_symbols, LoadedAgain, LoadsKeepComments, LoadsStayProper, loses_load, MovedAgain, ReplacedAgain, ReplacedAlone, UnusedAgain}
pub use Rattle.bz_load.specs.Loads.{after_loads, after_path, alias_in, is_block, is_load_from, is_load_item, is_loaded, is_symbol, leading_blocks, loads_end, loads_symbol, path_in, symbol_named, symbols_of}
pub use Rattle.bz_load.specs.NewLoad.{and_symbol, load_made, new_load, new_symbols, symbol_made, with_load, with_symbols}
pub use Rattle.bz_load.specs.Paths.{AreListed, has_local, knows_text}
pub use Rattle.bz_load.specs.ReplaceLoad.{above, all_comments, all_comments_joined, comments_above, comments_around, comments_joined, comments_without, cut_of_first, each_replaced, further, goes, gone_comments, gone_from, is_local, is_lost, ItemCut, joined_beside, last_of_each, left_symbols, may_have, new_around, on_symbols, own_lines, path_lines, put_symbol, replace_load, replace_symbol, replaced_around, suffix_alone, suffix_host, with_joined, without_symbol}
pub use Rattle.bz_load.specs.SubstituteLoad.{path_substituted, string_substituted, substitute_load, with_string_body}
pub use Rattle.bz_load.specs.UsageLaws.{are_plain, ReposAddedAgain, ReposKeepComments, ReposThereAndBack, UsagesStayProper}
pub use Rattle.bz_load.specs.Usages.{argument_stays, assigns_to, begins_with_name, call_arguments, call_made, ends_positional, import_in, imports_as, imports_repo, is_call_to, is_imported, is_meant_usage, is_repo, is_statement_of, is_tag_of, is_use, is_use_of, is_use_row, loses_last, on_call_arguments, on_last, removed_from, repos_added, repos_removed, row_of, usage, usage_of_row, use_arguments, use_repo_add, use_repo_remove, variables, with_all_repos, with_import, with_repo, without_repos, word_import}
pub use Rattle.bz_load.specs.Words.{AreOver, AreSome, argument_of, body_of, Bytes, comments_of, end_of-Expr, Expr, first_text, Fixes, Form', Grammar, has_kind, HostComments, is_class, is_empty, is_escaped, is_kind, is_none, is_text, IsProper, IsProperIn, IsRepo, IsSpliced, IsSymbol, Item, items-the_row-Expr, items_of, Kind, local_name, mark, more_of-Expr, name, no_comments, node, on_first, on_first_that, on_items, on_rest, on_row, parts_of, quoted_of, Refusal, Repo, Row_of-Expr, sequence, substituted, Symbol, text_in, text_of, token, Usages, Window, with_comments, with_text, without_first}
pub use Rattle.bz_load.specs.declared.readings.Loaded.{Loaded}
pub use Rattle.bz_load.specs.private.Imports.{is_sought_import, IsLastAt}
pub use Rattle.bz_load.specs.private.Known.{come_with, knows, knows_name, mentions, operand_among, operand_in, symbol_of_key}
pub use Rattle.bz_load.specs.private.Replacing.{gathered_comments, has_symbol, IsUnknown}
pub use Rattle.bz_load.specs.private.Windows.{first_from, IsJoint}
pub use Rattle.bz_rule.proofs.ProperChanges.{by_case, by_test, first_stays, items_stay, row_stays, string_in_place}
pub use Rattle.bz_rule.proofs.ProperForms.{AsForm, InPlace, itself, opened}
pub use Rattle.bz_rule.proofs.ProperItems.{all_changed, all_joined, all_kept}
pub use Rattle.bz_rule.proofs.ProperRules.{statement_in_place}
pub use Rattle.bz_rule.proofs.ProperSequences.{AreOf, call_in_place, each_item, IsItem, items_again, items_apart, Keeps, load_in_place}
pub use Rattle.bz_rule.specs.QuoteMarks.{begins_thrice, between, inside, is_quote_mark, marks_of, unprefixed}
pub use Rattle.bz_rule.specs.Rules.{body, inner, is_plain_in}
pub use Rattle.bz_rule.specs.Values.{has_class, with_items, with_parts}
pub use Rattle.bz_token.specs.declared.class.Class.{Class}
pub use Rattle.bz_value.proofs.FormParts.{ArePartsBy, form_proper_by}
pub use Rattle.bz_value.proofs.Totals.{append_total, form_amount}
pub use Rattle.bz_value.specs.Counted.{amount, host_amount, item_amount, one_if, row_amount, suffix_amount, total}
pub use Rattle.bz_value.specs.LineShapes.{value_shape, whole_grammar}
pub use Rattle.bz_value.specs.Proper.{AreComments, IsComment, IsProperItem, IsProperItemIn, MaybeComment, ProperExpr}
pub use Rattle.bz_value.specs.declared.refusal.Refusal.TheVariants.{NameTaken}
pub use Rattle.bz_value.specs.declared.value.Expr.{items_hidden-the_row-Expr-0, Token}
pub use Rattle.std.proofs.Common.{[], ◌&&◌, ◌++◌, ◌+◌, ◌-◌, ◌<◌, ◌==◌, ◌||◌, ◌↔◌, ◌∙◌, ◌∷◌, ◌≡◌, ◌≢◌, ◌≤◌, ◌⊎◌, All, ap, append-nil, append_assoc, ap₂, arith, Bool, BTreeSet, bytes_eq, codes, cond, drop, drop-drop, drop-set-lt, drop_at, eq-eqb, eqb-true, Err, false, filter, filter_map, find, flat_map, get_or, get_or-set_same, IfOk, IfSome, if◌then◌else◌, inl, inr, insert, is_some, IsTrue, IsUtf8, length, length-append, length-drop, length-take-le, List, ltb-false, map, max, min, nat_eq, nat_le, nat_lt, None, not, Ok, Option, option_and_then, option_map, position, refl, remove, Result, rules, set, slice_get, slice_set, Some, subst, suc, sym, take, take-append-drop, take-take, take_at, true, true≢false, unwrap_or, Vec, zero, ℕ}
pub use Rattle.std.proofs.Math.Bool.{and-false, and-true, and_self, or-false, or-true, or_assoc, or_comm}
pub use Rattle.std.proofs.Math.Path.{fun_ext}
pub use Rattle.std.proofs.lemmas.Bool.{and_from, and_parts, cases_Bool, not-false, not-true, or_cases, or_left, or_parts, or_right}
pub use Rattle.std.proofs.lemmas.Fn.{filter_same}
pub use Rattle.std.proofs.lemmas.List.{append_cancel_left, at_drop_all, drop-set, drop-take, drop_all, drop_more, get_or_default, set-get_or, set_split, take_more, take_rest}
pub use Rattle.std.proofs.lemmas.List.Edits.{length-insert, length-remove}
pub use Rattle.std.proofs.lemmas.List.Elements.{All-append, All-cons, All-from_recursion, All-nil, filter-append, recursion_from_All}
pub use Rattle.std.proofs.lemmas.List.Folds.{list_any-append}
pub use Rattle.std.proofs.lemmas.Option.{get_or_from_slice_get}
pub use Rattle.std.specs.List.{AllByRecursion, cons_option, list_all, list_any, position_or_len}
pub use Rattle.std.specs.Option.{option_map_or}
pub use Rattle.std.specs.Vec.Iter.{into_iter_items}
