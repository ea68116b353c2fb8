-- What the definitions and clauses of this crate speak of, from the crates below.
pub use Rattle.bz_grammar.specs.Kinds.{kind_number}
pub use Rattle.bz_grammar.specs.Shapes.{is_class}
pub use Rattle.bz_grammar.specs.declared.kind.Kind.{Kind}
pub use Rattle.bz_items.specs.Characters.{apostrophe, backslash, Bytes, quotation_mark}
pub use Rattle.bz_label.specs.Keys.{bytes_order, group_of, key_order}
pub use Rattle.bz_label.specs.Labels.{IsSame}
pub use Rattle.bz_label.specs.Shorter.{unrepeated}
pub use Rattle.bz_label.specs.Tables.{is_label_attribute, is_sorted, priority_of}
pub use Rattle.bz_layout.specs.Flags.{flags, IsSettled, item_with_flags, with_flags}
pub use Rattle.bz_layout.specs.Layout.{is_broken}
pub use Rattle.bz_layout.specs.Written.{layout}
pub use Rattle.bz_rule.specs.QuoteMarks.{between, inside, is_quote_mark, local_name, marks_of}
pub use Rattle.bz_rule.specs.Rules.{body, dotted_name, inner, is_plain_in, is_text}
pub use Rattle.bz_rule.specs.Values.{above, first_text, has_class, has_kind, items_of, on_first, on_items, on_lists, on_rest, on_row, on_third, parts_of, text_of, with_above, with_text}
pub use Rattle.bz_rule.specs.private.Named.{fronts, fronts_among}
pub use Rattle.bz_token.specs.Lexemes.{IsLong, IsShort, IsString}
pub use Rattle.bz_token.specs.declared.class.Class.{Class}
pub use Rattle.bz_value.specs.BuildValues.{AreBuild, IsBuildItem}
pub use Rattle.bz_value.specs.Comments.{no_comments}
pub use Rattle.bz_value.specs.Counted.{times, total}
pub use Rattle.bz_value.specs.Empty.{is_empty, is_none}
pub use Rattle.bz_value.specs.LineShapes.{Grammar}
pub use Rattle.bz_value.specs.Proper.{comments_of, IsProperIn}
pub use Rattle.bz_value.specs.Windows.{AreOver, AreWithin}
pub use Rattle.bz_value.specs.declared.value.Expr.{end_of-Expr, Expr, Form', more_of-Expr, Row_of-Expr, Token}
pub use Rattle.bz_value.specs.declared.value.Item.{Item}
pub use Rattle.bz_value.specs.declared.windows.Window.{Window}
