-- What the definitions and clauses of this crate speak of, from the crates below.
pub use Rattle.bz_attribute.specs.Attributes.{Arguments, by_value, has_attribute, is_attribute, is_other_attribute, on_first_that, put, with_new, with_value, without}
pub use Rattle.bz_attribute.specs.Lists.{body_of, has_lists, is_item}
pub use Rattle.bz_attribute.specs.Made.{list_of, mark, node, sequence, string_of, string_text, token}
pub use Rattle.bz_command_syntax.specs.Quoted.{is_escaped, quoted_of}
pub use Rattle.bz_command_syntax.specs.Words.{is_nonempty}
pub use Rattle.bz_command_syntax.specs.declared.command.AttributeOperation.{AttributeOperation}
pub use Rattle.bz_command_syntax.specs.declared.command.Attributes.{Attributes}
pub use Rattle.bz_command_syntax.specs.declared.command.DictOperation.{DictOperation}
pub use Rattle.bz_command_syntax.specs.declared.command.Entry.{Entry}
pub use Rattle.bz_items.specs.Characters.{Bytes}
pub use Rattle.bz_label.specs.Tables.{is_list_attribute}
pub use Rattle.bz_list.specs.Changes.{is_spelled, strings_added, with_strings}
pub use Rattle.bz_list.specs.Laws.{become_plain}
pub use Rattle.bz_rule.specs.Rules.{attribute, is_text}
pub use Rattle.bz_rule.specs.Values.{has_class, has_kind, items_of, on_first, on_items, on_row, on_third, parts_of, text_of, with_text}
pub use Rattle.bz_value.specs.Counted.{amount, one_if, total}
pub use Rattle.bz_value.specs.Empty.{is_empty}
pub use Rattle.bz_value.specs.declared.refusal.Refusal.{Refusal}
pub use Rattle.bz_value.specs.declared.value.Expr.{Expr, Form', Token}
