-- What the definitions and clauses of this crate speak of, from the crates below.
pub use Rattle.bz_grammar.specs.Indents.{first_indent}
pub use Rattle.bz_grammar.specs.Joined.{AreWholeLines}
pub use Rattle.bz_grammar.specs.Legal.{IsBuild, Legal, Reads, ReadsBzl}
pub use Rattle.bz_grammar.specs.Shapes.{colon_mark, has_token, is_kind, is_one_of, Terminal}
pub use Rattle.bz_grammar.specs.Spell.{leaves_of, leaves_part, leaves_row, limit, spell_node}
pub use Rattle.bz_grammar.specs.declared.kind.Kind.{Kind}
pub use Rattle.bz_grammar.specs.declared.tree.Node.{Node}
pub use Rattle.bz_grammar.specs.declared.tree.Part.{end_of-Part, more_of-Part, Node', Part, Row_of-Part}
pub use Rattle.bz_items.specs.Characters.{Bytes, line_feed, number_sign}
pub use Rattle.bz_lex.specs.Gaps.{indent}
pub use Rattle.bz_lex.specs.declared.leaf.Leaf.{Leaf}
pub use Rattle.bz_token.specs.declared.class.Class.{Class}
pub use Rattle.bz_value.specs.BuildValues.{AreBuild}
pub use Rattle.bz_value.specs.Comments.{HostComments, no_comments}
pub use Rattle.bz_value.specs.Counted.{one_if, times, total}
pub use Rattle.bz_value.specs.Empty.{is_empty}
pub use Rattle.bz_value.specs.Frames.{compound, Frame, frame, is_binary, is_comprehension, is_header, lead, row, sequence}
pub use Rattle.bz_value.specs.Gaps.{after_first_line, all_but_last, all_in, as_list, comments_in, first_comment, GapLine, groups_of, has_newline, last_group, lines_of, others_in, suffix_in}
pub use Rattle.bz_value.specs.Proper.{comments_of, is_operator, IsProper}
pub use Rattle.bz_value.specs.declared.value.Expr.{end_of-Expr, Expr, Form', items-the_row-Expr, more_of-Expr, Row_of-Expr, Token}
pub use Rattle.bz_value.specs.declared.value.Form.{Form}
pub use Rattle.bz_value.specs.declared.value.Item.{Item}
pub use Rattle.bz_value.specs.declared.value.Seq.{Seq}
