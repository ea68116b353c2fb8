-- What the definitions and clauses of this crate speak of, from the crates below.
pub use Rattle.bz_attribute.specs.Attributes.{on_first_that, without_first}
pub use Rattle.bz_attribute.specs.Lists.{body_of}
pub use Rattle.bz_attribute.specs.Made.{argument_of, mark, name, node, sequence, token}
pub use Rattle.bz_attribute.specs.Sets.{texts_of}
pub use Rattle.bz_command_syntax.specs.Patterns.{substituted}
pub use Rattle.bz_command_syntax.specs.Proper.{AreSome, IsRepo, IsSymbol}
pub use Rattle.bz_command_syntax.specs.Quoted.{is_escaped, quoted_of}
pub use Rattle.bz_command_syntax.specs.declared.command.Fixes.{Fixes}
pub use Rattle.bz_command_syntax.specs.declared.command.Repo.{Repo}
pub use Rattle.bz_command_syntax.specs.declared.command.Symbol.{Symbol}
pub use Rattle.bz_command_syntax.specs.declared.command.Usages.{Usages}
pub use Rattle.bz_grammar.specs.Shapes.{is_class, is_kind}
pub use Rattle.bz_grammar.specs.declared.kind.Kind.{Kind}
pub use Rattle.bz_items.specs.Characters.{Bytes}
pub use Rattle.bz_label.specs.Read.{is_same}
pub use Rattle.bz_rule.specs.QuoteMarks.{local_name}
pub use Rattle.bz_rule.specs.Rules.{attribute, call_of, is_rule_of_kind, is_text, text_in}
pub use Rattle.bz_rule.specs.Values.{first_text, has_kind, items_of, on_first, on_items, on_rest, on_row, parts_of, text_of, with_text}
pub use Rattle.bz_value.specs.Commented.{with_comments}
pub use Rattle.bz_value.specs.Comments.{HostComments, no_comments}
pub use Rattle.bz_value.specs.Counted.{times}
pub use Rattle.bz_value.specs.Empty.{is_empty, is_none}
pub use Rattle.bz_value.specs.LineShapes.{Grammar}
pub use Rattle.bz_value.specs.Proper.{comments_of, IsProper, IsProperIn}
pub use Rattle.bz_value.specs.Windows.{AreOver, IsSpliced}
pub use Rattle.bz_value.specs.declared.refusal.Refusal.{Refusal}
pub use Rattle.bz_value.specs.declared.value.Expr.{end_of-Expr, Expr, Form', items-the_row-Expr, more_of-Expr, Row_of-Expr}
pub use Rattle.bz_value.specs.declared.value.Item.{Item}
pub use Rattle.bz_value.specs.declared.windows.Window.{Window}
