-- What the definitions and clauses of this crate speak of, from the crates below.
pub use Rattle.bz_edit.specs.Windows.{AreThere, window_parts, with_windows}
pub use Rattle.bz_edit.specs.declared.part_windows.PartWindow.{PartWindow}
pub use Rattle.bz_grammar.specs.Faults.{IsFaultOf}
pub use Rattle.bz_grammar.specs.Joined.{AreWholeLines, file_with}
pub use Rattle.bz_grammar.specs.Legal.{Accepted, IsBuild, LegalBuild, NoBzlTree, Reads, ReadsBzl}
pub use Rattle.bz_grammar.specs.Shapes.{close_curly, close_round, close_square, colon_mark, comma_mark, end, is_class, is_kind, is_one_of, newline, open_curly, open_round, open_square, semicolon, Terminal}
pub use Rattle.bz_grammar.specs.Spell.{depth_limit, depth_of, leaves_of, limit, spell_leaf, spell_node, spell_part}
pub use Rattle.bz_grammar.specs.Split.{bare_end}
pub use Rattle.bz_grammar.specs.declared.kind.Kind.{Kind}
pub use Rattle.bz_grammar.specs.declared.tree.Node.{Node}
pub use Rattle.bz_grammar.specs.declared.tree.Part.{end_of-Part, more_of-Part, Node', Part, Row_of-Part}
pub use Rattle.bz_hosts.specs.Joined.{EndsWithLine}
pub use Rattle.bz_hosts.specs.Kept.{occurrences}
pub use Rattle.bz_hosts.specs.Suites.{put_header}
pub use Rattle.bz_hosts.specs.SuitesJoined.{BeginsBare, EndsWithStatement}
pub use Rattle.bz_hosts.specs.View.{view_of}
pub use Rattle.bz_items.specs.Characters.{Bytes}
pub use Rattle.bz_layout.specs.Appended.{gap_below}
pub use Rattle.bz_layout.specs.Drafts.{Drafted, drafted, pushed}
pub use Rattle.bz_layout.specs.Flags.{flags}
pub use Rattle.bz_layout.specs.LaidOut.{laid_out}
pub use Rattle.bz_layout.specs.Windows.{AreTextsOf}
pub use Rattle.bz_layout.specs.Written.{layout}
pub use Rattle.bz_layout.specs.declared.writer.TextWindow.{TextWindow}
pub use Rattle.bz_lex.specs.Faults.{is_of_leaves}
pub use Rattle.bz_lex.specs.Stops.{IsFaultAt}
pub use Rattle.bz_lex.specs.declared.fault.ReadFault.{ReadFault}
pub use Rattle.bz_lex.specs.declared.leaf.Leaf.{Leaf}
pub use Rattle.bz_passes.specs.Joined.{begins_with_load}
pub use Rattle.bz_passes.specs.Passes.{tidied}
pub use Rattle.bz_passes.specs.Programs.{KeepsProgram}
pub use Rattle.bz_passes.specs.Syntax.{one_if_token, program, token_times}
pub use Rattle.bz_token.specs.declared.class.Class.{Class}
pub use Rattle.bz_value.specs.BuildValues.{AreBuild, IsProperBuild}
pub use Rattle.bz_value.specs.Comments.{no_comments}
pub use Rattle.bz_value.specs.Counted.{total}
pub use Rattle.bz_value.specs.Frames.{Frame, frame, is_header, lead, sequence}
pub use Rattle.bz_value.specs.declared.refusal.Refusal.{Refusal}
pub use Rattle.bz_value.specs.declared.value.Expr.{Expr}
pub use Rattle.bz_value.specs.declared.value.Form.{Form}
pub use Rattle.bz_value.specs.declared.value.Item.{Item}
