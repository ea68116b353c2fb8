-- What the proofs of this crate speak of, from std, from the crates below and from its own specs.
pub use Rattle.bz_attribute.proofs.FormsAgain.{if_false, if_true, made, own_items, own_parts, parts_filled}
pub use Rattle.bz_change.proofs.ProperDicts.{dict_add_grows, dict_add_keeps, dict_list_add_grows, dict_list_add_keeps, dict_remove_keeps, dict_replace_if_equal_grows, dict_replace_if_equal_keeps, dict_set_keeps, set_select_keeps}
pub use Rattle.bz_change.specs.Changes.{copy, copy_no_overwrite, is_set, remove, rename, set, set_if_absent, setting}
pub use Rattle.bz_change.specs.Dicts.{dict_add, dict_list_add, dict_remove, dict_replace_if_equal, dict_set, set_select}
pub use Rattle.bz_command.specs.Effect.{before_rest, effect, first_mark, is_rule, item_line, kept, lacks_rules, lines_after_item, loads_changed, made_of, may_mean_none, meant, new_rule_place, NewItem, on_arguments, on_each, on_line, on_meant, on_one, on_rule, on_rules, on_statement, printed_one, printed_rules, rule_arguments, source, source_of, unmarked, with_arguments, with_function, with_item_first, with_rule}
pub use Rattle.bz_command.specs.Known.{item_hash, name_hash}
pub use Rattle.bz_command.specs.Laws.{CommentsStay, EffectsStayProper, is_by_line, keeps_comments, LinesMatter, moves_comments, prints_line, prints_lines}
pub use Rattle.bz_command.specs.Prints.{in_brackets, is_string, printed_body, printed_field, printed_rule, printed_value, spaced}
pub use Rattle.bz_command.specs.Words.{AreOver, argument_of, Arguments, Ascend, attribute, body_of, Bytes, comment, each_named, Expr, Field, function_of, Grammar, has_kind, has_name, HaveSameNames, held_name, HostComments, is_rule_of_kind, IsProperCommand, Item, items_of, Kind, line_feed, list_of, LoadOperation, marked_places, new_load, on_first, on_row, Operation, prints, Refusal, remove_comment, replace_load, Rule, rule_made, rule_of, RulePlace, Target, use_repo_add, values_changed, Which, Window, with_comment, with_items, with_parts, without_comments}
pub use Rattle.bz_command.specs.private.Looks.{arguments_by, effect_by, made_by, marks_by, one_made_by, places_by, says_itself}
pub use Rattle.bz_command.specs.private.Steps.{each_meant, is_meant_at, lines_after_items, seen_rule, space_between}
pub use Rattle.bz_command_syntax.specs.declared.command.AttributeOperation.{AttributeOperation}
pub use Rattle.bz_command_syntax.specs.declared.command.Attributes.{Attributes}
pub use Rattle.bz_command_syntax.specs.declared.command.CommentOperation.{CommentOperation}
pub use Rattle.bz_command_syntax.specs.declared.command.DictOperation.{DictOperation}
pub use Rattle.bz_command_syntax.specs.declared.command.RuleOperation.{RuleOperation}
pub use Rattle.bz_command_syntax.specs.declared.command.ValueOperation.{ValueOperation}
pub use Rattle.bz_list.specs.Changes.{add, in_attributes, in_value, move, remove_everywhere, remove_if_equal, remove_values, replace, replaced_item, strings_added, substitute, substituted_item, with_body, with_items_added}
pub use Rattle.bz_load.proofs.LawReplaced.{replace_load_keeps, replace_load_same}
pub use Rattle.bz_load.proofs.OneMore.{changed_at, left_further, left_next, nothing_grown, others, same_before, same_put}
pub use Rattle.bz_load.proofs.PutSteps.{put_in, put_over}
pub use Rattle.bz_load.specs.Growing.{IsGrown}
pub use Rattle.bz_rule.proofs.ProperChanges.{by_case, by_test}
pub use Rattle.bz_rule.specs.Index.{places_from}
pub use Rattle.bz_rule.specs.Rules.{Call, called, dotted_name, form_in, is_text, joined, named, only}
pub use Rattle.bz_rule.specs.Values.{first_text, parts_of, with_text}
pub use Rattle.bz_value.specs.Proper.{IsProper, IsProperItemIn}
pub use Rattle.bz_value.specs.declared.refusal.Refusal.TheVariants.{AttributeExists, NameTaken, NoAttribute, NoSource, NotAList, NoTarget}
pub use Rattle.bz_value.specs.declared.value.Expr.{Form', items-the_row-Expr, items_hidden-the_row-Expr-0, Token}
pub use Rattle.bz_value.specs.declared.value.Form.{Form}
pub use Rattle.std.proofs.Common.{[], ◌%◌, ◌&&◌, ◌*◌, ◌++◌, ◌+◌, ◌-◌, ◌<◌, ◌==◌, ◌↔◌, ◌∙◌, ◌∷◌, ◌≡◌, ◌≤◌, ap, append-nil, append_assoc, ap₂, arith, Bool, bytes_eq, codes, cond, decimal, drop, drop-drop, drop_at, eq-or-lt_of_le, Err, false, fold, get_or, IfOk, IfSome, if◌then◌else◌, inl, inr, insert, is_some, IsTrue, le-ltb, length, length-append, length-set, List, lt-ltb, map, nat_eq, nat_lt, None, not, Ok, OnOk, Option, option_and_then, option_map, position, refl, Result, rules, Some, subst, suc, sym, take, take-append-drop, true, true≢false, ℕ}
pub use Rattle.std.proofs.lemmas.Bool.{and_parts, or_parts}
pub use Rattle.std.proofs.lemmas.List.{drop-map, drop_all, drop_more, get_or_default, length-map, map-append, take-map}
pub use Rattle.std.proofs.lemmas.List.Elements.{All-from_recursion, recursion_from_All}
pub use Rattle.std.proofs.lemmas.Result.{err_from_is_err_and, IfOk-weaker}
pub use Rattle.std.specs.List.{AllByRecursion, list_all, list_any, position_or_len}
pub use Rattle.std.specs.Option.{option_map_or}
pub use Rattle.std.specs.Vec.Iter.{into_iter_items}
