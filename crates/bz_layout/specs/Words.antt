-- What the definitions and clauses of this crate speak of, from the crates below.
pub use Rattle.bz_edit.specs.Windows.{AreThere, window_parts, with_windows}
pub use Rattle.bz_edit.specs.declared.part_windows.PartWindow.{PartWindow}
pub use Rattle.bz_grammar.specs.Legal.{IsBuild, NoBzlTree, ReadsBzl}
pub use Rattle.bz_grammar.specs.Shapes.{has_token, is_kind, Terminal}
pub use Rattle.bz_grammar.specs.Spell.{depth_limit, depth_of, leaves_part, limit, spell_node, spell_part}
pub use Rattle.bz_grammar.specs.declared.kind.Kind.{Kind}
pub use Rattle.bz_grammar.specs.declared.tree.Node.{Node}
pub use Rattle.bz_grammar.specs.declared.tree.Part.{items-the_row-Part, Node', Part}
pub use Rattle.bz_hosts.specs.View.{view_of}
pub use Rattle.bz_hosts.specs.Worked.{alternatives, argument, assigned, bare, calling, comprehension, defined, described, documented, ends, form, function, keyword, mark, name, number, on, one_line, pair, parameters, paren, string, suite, tabbed, token, with}
pub use Rattle.bz_items.specs.Characters.{Bytes, colon, comma, line_feed, space}
pub use Rattle.bz_lex.specs.declared.leaf.Leaf.{Leaf}
pub use Rattle.bz_rule.specs.Values.{has_kind, text_of}
pub use Rattle.bz_rule.specs.private.Named.{fronts}
pub use Rattle.bz_token.specs.Lexemes.{in_table}
pub use Rattle.bz_value.specs.BuildValues.{AreBuild, IsBuildItem, IsProperBuild}
pub use Rattle.bz_value.specs.Comments.{no_comments}
pub use Rattle.bz_value.specs.Empty.{is_empty, is_none}
pub use Rattle.bz_value.specs.Frames.{compound, Frame, frame, has_brackets, row, sequence}
pub use Rattle.bz_value.specs.LineShapes.{Grammar}
pub use Rattle.bz_value.specs.Proper.{comments_of, has_break, IsProper, IsProperIn, IsProperItem}
pub use Rattle.bz_value.specs.Roots.{mark_leaf, root}
pub use Rattle.bz_value.specs.Statements.{has_suite}
pub use Rattle.bz_value.specs.Windows.{AreOver, AreWithin}
pub use Rattle.bz_value.specs.declared.value.Expr.{end_of-Expr, Expr, Form', items-the_row-Expr, more_of-Expr, Row_of-Expr, Token}
pub use Rattle.bz_value.specs.declared.value.Form.{Form}
pub use Rattle.bz_value.specs.declared.value.Item.{Item}
pub use Rattle.bz_value.specs.declared.windows.Window.{Window}
