-- What the definitions and clauses of this crate speak of, from the crates below.
pub use Rattle.bz_attribute.specs.Attributes.{Arguments}
pub use Rattle.bz_attribute.specs.Lists.{body_of}
pub use Rattle.bz_attribute.specs.Made.{argument_of, function_of, list_of, mark, name, node, rule_made, sequence, token}
pub use Rattle.bz_change.specs.Changes.{attributes_changed}
pub use Rattle.bz_change.specs.Dicts.{dicts_changed}
pub use Rattle.bz_command_syntax.specs.Commands.{command_of, commands, ReadCommand}
pub use Rattle.bz_command_syntax.specs.Printing.{prints}
pub use Rattle.bz_command_syntax.specs.Proper.{IsProperCommand}
pub use Rattle.bz_command_syntax.specs.declared.command.Field.{Field}
pub use Rattle.bz_command_syntax.specs.declared.command.Host.{Host}
pub use Rattle.bz_command_syntax.specs.declared.command.LoadOperation.{LoadOperation}
pub use Rattle.bz_command_syntax.specs.declared.command.Operation.{Operation}
pub use Rattle.bz_command_syntax.specs.declared.command.RulePlace.{RulePlace}
pub use Rattle.bz_comment.specs.Changes.{changed_by}
pub use Rattle.bz_comment.specs.Hosts.{comment, print_comment, remove_comment, with_comment, without_comments}
pub use Rattle.bz_grammar.specs.Places.{Ascend}
pub use Rattle.bz_grammar.specs.declared.kind.Kind.{Kind}
pub use Rattle.bz_items.specs.Characters.{Bytes, line_feed, space}
pub use Rattle.bz_label.specs.declared.target.Target.{Target}
pub use Rattle.bz_label.specs.declared.target.Which.{Which}
pub use Rattle.bz_layout.specs.Written.{item_text}
pub use Rattle.bz_list.specs.Changes.{values_changed}
pub use Rattle.bz_load.specs.Fixes.{fix}
pub use Rattle.bz_load.specs.NewLoad.{new_load}
pub use Rattle.bz_load.specs.Paths.{AreListed}
pub use Rattle.bz_load.specs.ReplaceLoad.{replace_load}
pub use Rattle.bz_load.specs.SubstituteLoad.{substitute_load}
pub use Rattle.bz_load.specs.Usages.{use_repo_add, use_repo_remove}
pub use Rattle.bz_rule.specs.Held.{held_name}
pub use Rattle.bz_rule.specs.Index.{HaveSameNames, IsIndexOf, marked_places}
pub use Rattle.bz_rule.specs.Rules.{attribute, has_name, is_rule_of_kind, Rule, rule_of}
pub use Rattle.bz_rule.specs.Values.{has_kind, items_of, on_first, on_row, with_items, with_parts}
pub use Rattle.bz_rule.specs.private.Named.{each_named}
pub use Rattle.bz_value.specs.Commented.{with_comments}
pub use Rattle.bz_value.specs.Comments.{HostComments}
pub use Rattle.bz_value.specs.Counted.{times}
pub use Rattle.bz_value.specs.LineShapes.{Grammar}
pub use Rattle.bz_value.specs.Proper.{comments_of, IsProperIn}
pub use Rattle.bz_value.specs.Windows.{AreOver, IsSpliced}
pub use Rattle.bz_value.specs.declared.refusal.Refusal.{Refusal}
pub use Rattle.bz_value.specs.declared.value.Expr.{Expr}
pub use Rattle.bz_value.specs.declared.value.Item.{Item}
pub use Rattle.bz_value.specs.declared.windows.Window.{Window}
