-- What the definitions and clauses of this crate speak of, from the crates below.
pub use Rattle.bz_attribute.specs.Attributes.{Arguments, by_value, has_attribute, is_attribute, is_other_attribute, on_first_that, on_value, with_new, with_value, without}
pub use Rattle.bz_attribute.specs.Lists.{are_one, arriving, body_of, branches_of, entries_of, fresh, has_lists, is_empty_list, is_item, is_no_list, is_some_item, items_in, listed, on_branches, on_lists, on_operand, on_operands, operands_in, travelled, with_branches, with_more}
pub use Rattle.bz_attribute.specs.Made.{list_of, plus, string_of, string_text}
pub use Rattle.bz_command_syntax.specs.Quoted.{is_escaped}
pub use Rattle.bz_command_syntax.specs.Words.{is_nonempty}
pub use Rattle.bz_command_syntax.specs.declared.command.Attributes.{Attributes}
pub use Rattle.bz_command_syntax.specs.declared.command.Selects.{Selects}
pub use Rattle.bz_command_syntax.specs.declared.command.ValueOperation.{ValueOperation}
pub use Rattle.bz_command_syntax.specs.declared.command.Values.{Values}
pub use Rattle.bz_items.specs.Characters.{Bytes}
pub use Rattle.bz_label.specs.Forms.{label_of}
pub use Rattle.bz_label.specs.Read.{is_equal, label_in}
pub use Rattle.bz_label.specs.Tables.{is_label_attribute}
pub use Rattle.bz_label.specs.declared.label.Label.{Label}
pub use Rattle.bz_rule.specs.QuoteMarks.{inside}
pub use Rattle.bz_rule.specs.Rules.{attribute}
pub use Rattle.bz_rule.specs.Values.{first_text, has_class, has_kind, on_items, on_row, on_third, parts_of, text_of, with_text}
pub use Rattle.bz_value.specs.Empty.{is_empty}
pub use Rattle.bz_value.specs.declared.value.Expr.{Expr}
