-- What the proofs of this crate speak of, from std, from the crates below and from its own specs.
pub use Rattle.bz_attribute.proofs.FormsAgain.{attribute_any, both, if_false, if_true, items_back, items_filled, items_kind, parts_filled, parts_kind, row_back, value_answered}
pub use Rattle.bz_attribute.specs.Lists.{entries_in, is_first_dict, operands_after, operands_of, with_branches}
pub use Rattle.bz_attribute.specs.Words.{Class}
pub use Rattle.bz_command_syntax.specs.declared.command.Selects.TheVariants.{Entered, Skipped}
pub use Rattle.bz_comment.specs.Changes.{changed_by, changed_comments, comments_made, is_host, is_sought, selects_of}
pub use Rattle.bz_comment.specs.Hosts.{branch_items, comment, comment_line, comment_made, comment_text, found_comments, has_branch_item, has_item, item_comments, items_at, on_branch, on_first_at, on_first_branch, on_first_item, on_first_listed, on_first_operand, on_host, on_named_item, print_comment, printed_comments, put_value, remove_comment, suffix_line, with_comment, without_comments}
pub use Rattle.bz_comment.specs.Words.{amount, Arguments, attribute, Bytes, comments_of, entries_of, Expr, has_attribute, has_kind, has_lists, Host, HostComments, is_attribute, is_item, is_select, items_in, items_of, line_feed, listed, lists_of, no_comments, number_sign, on_first, on_first_that, on_items, on_row, on_third, one_if, operands_in, parts_of, Refusal, Selects, space, total, trimmed, with_comments, with_value}
pub use Rattle.bz_grammar.specs.Shapes.{is_kind}
pub use Rattle.bz_grammar.specs.declared.kind.Kind.{Kind}
pub use Rattle.bz_rule.proofs.ProperChanges.{by_case, by_test, row_stays, Stays}
pub use Rattle.bz_rule.specs.Rules.{is_text, only, text_in, value_named}
pub use Rattle.bz_rule.specs.Values.{with_items, with_parts}
pub use Rattle.bz_value.specs.Empty.{is_empty}
pub use Rattle.bz_value.specs.declared.refusal.Refusal.TheVariants.{NoAttribute, NotAList}
pub use Rattle.bz_value.specs.declared.value.Expr.{Form', items-the_row-Expr, items_hidden-the_row-Expr-0, Token}
pub use Rattle.std.proofs.Common.{[], ◌&&◌, ◌++◌, ◌+◌, ◌<◌, ◌==◌, ◌||◌, ◌∙◌, ◌∷◌, ◌≡◌, ◌≤◌, ap, append_assoc, append-nil, arith, Bool, codes, drop, Err, false, find, flat_map, get_or, IfSome, if◌then◌else◌, inl, inr, is_some, IsUtf8, length, List, None, not, Ok, Option, option_and_then, position, refl, Result, slice_get, slice_set, Some, subst, suc, sym, true, true≢false, zero, ℕ}
pub use Rattle.std.proofs.lemmas.Bool.{and_parts, cases_Bool, eqb-false, not-true, or_parts}
pub use Rattle.std.proofs.lemmas.List.Folds.{find-append, list_any-append}
pub use Rattle.std.specs.List.{list_any}
pub use Rattle.std.specs.Option.{option_copied, option_or}
