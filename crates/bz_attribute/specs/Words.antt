-- What the definitions and clauses of this crate speak of, from the crates below.
pub use Rattle.bz_command_syntax.specs.Quoted.{quoted_of}
pub use Rattle.bz_command_syntax.specs.declared.command.Selects.{Selects}
pub use Rattle.bz_grammar.specs.Shapes.{rank}
pub use Rattle.bz_grammar.specs.declared.kind.Kind.{Kind}
pub use Rattle.bz_items.specs.Characters.{Bytes, full_stop}
pub use Rattle.bz_label.specs.Read.{is_same, shortened}
pub use Rattle.bz_label.specs.Tables.{is_label_attribute}
pub use Rattle.bz_rule.specs.Rules.{attribute, body, is_text, only, text_in, value_named}
pub use Rattle.bz_rule.specs.Values.{has_class, has_kind, items_of, on_first, on_items, on_row, on_third, parts_of, with_parts, with_text}
pub use Rattle.bz_token.specs.declared.class.Class.{Class}
pub use Rattle.bz_value.specs.Comments.{no_comments}
pub use Rattle.bz_value.specs.Empty.{is_empty}
pub use Rattle.bz_value.specs.declared.refusal.Refusal.{Refusal}
pub use Rattle.bz_value.specs.declared.value.Expr.{Expr, Form'}
pub use Rattle.bz_value.specs.declared.value.Item.{Item}
