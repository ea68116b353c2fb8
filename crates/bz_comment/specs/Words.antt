-- What the definitions and clauses of this crate speak of, from the crates below.
pub use Rattle.bz_attribute.specs.Attributes.{Arguments, has_attribute, is_attribute, on_first_that, with_value}
pub use Rattle.bz_attribute.specs.Lists.{entries_of, has_lists, is_item, is_select, items_in, listed, lists_of, operands_in}
pub use Rattle.bz_command_syntax.specs.declared.command.Host.{Host}
pub use Rattle.bz_command_syntax.specs.declared.command.Selects.{Selects}
pub use Rattle.bz_items.specs.Characters.{Bytes, line_feed, number_sign, space}
pub use Rattle.bz_rule.specs.Rules.{attribute}
pub use Rattle.bz_rule.specs.Values.{above, has_kind, items_of, on_first, on_items, on_row, on_third, parts_of, with_above}
pub use Rattle.bz_value.specs.Commented.{with_comments}
pub use Rattle.bz_value.specs.Comments.{HostComments, no_comments}
pub use Rattle.bz_value.specs.Counted.{amount, one_if, total}
pub use Rattle.bz_value.specs.Gaps.{trimmed}
pub use Rattle.bz_value.specs.Proper.{comments_of}
pub use Rattle.bz_value.specs.declared.refusal.Refusal.{Refusal}
pub use Rattle.bz_value.specs.declared.value.Expr.{Expr}
