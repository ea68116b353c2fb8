-- What the definitions of this crate speak of, from the crates below.
pub use Rattle.bz_build_format.specs.Fixed.{IsFormatted}
pub use Rattle.bz_build_format.specs.Meaning.{IsWritten}
pub use Rattle.bz_command.specs.Effect.{NewItem, effect, meant, on_meant, on_one, printed}
pub use Rattle.bz_command.specs.Known.{item_hash}
pub use Rattle.bz_command.specs.declared.outcome.Ran.{Ran}
pub use Rattle.bz_command.specs.declared.ruling.Work.{Work}
pub use Rattle.bz_command_syntax.specs.Printing.{prints}
pub use Rattle.bz_command_syntax.specs.declared.command.Operation.{Operation}
pub use Rattle.bz_edit.specs.Shown.{StepsAreBetween, StepsLead, texts_of}
pub use Rattle.bz_edit.specs.Trails.{HasLeast, IsSmall, IsTrail, IsTree, Trail, are_even, steps_back, steps_forward, trail_at}
pub use Rattle.bz_edit.specs.Windows.{AreThere, with_windows}
pub use Rattle.bz_edit.specs.declared.edit.Edit.{Edit}
pub use Rattle.bz_edit.specs.declared.part_windows.PartWindow.{PartWindow}
pub use Rattle.bz_files.specs.Faults.{Rises}
pub use Rattle.bz_files.specs.Folder.{Elapses, Folder}
pub use Rattle.bz_grammar.specs.Faults.{IsOfText}
pub use Rattle.bz_grammar.specs.Legal.{Accepted, IsBuild, Reads}
pub use Rattle.bz_grammar.specs.Spell.{depth_limit, depth_of, leaves_part, limit, spell_node, spell_part}
pub use Rattle.bz_grammar.specs.Statements.{first_gap, fronts, fronts_part, has_statements, is_statement_kind, lines_of, newlines}
pub use Rattle.bz_grammar.specs.declared.tree.Node.{Node}
pub use Rattle.bz_grammar.specs.declared.tree.Part.{Part}
pub use Rattle.bz_hosts.specs.View.{view_of}
pub use Rattle.bz_items.specs.Characters.{Bytes, line_feed, space}
pub use Rattle.bz_journal_format.specs.FirstLines.{AreFirstLines}
pub use Rattle.bz_journal_format.specs.Texts.{IsNote, IsOtherVersion}
pub use Rattle.bz_journal_format.specs.declared.content.Version.TheVariants.{Two}
pub use Rattle.bz_journal_format.specs.declared.kept.KeptLines.{KeptLines}
pub use Rattle.bz_label.specs.declared.target.Target.{Target}
pub use Rattle.bz_layout.specs.LaidOut.{laid_out}
pub use Rattle.bz_layout.specs.Written.{layout}
pub use Rattle.bz_layout.specs.declared.setting.SetFault.{SetFault}
pub use Rattle.bz_lex.specs.Faults.{is_of_leaves}
pub use Rattle.bz_lex.specs.Stops.{IsFaultAt}
pub use Rattle.bz_lex.specs.declared.fault.ReadFault.{ReadFault}
pub use Rattle.bz_load.specs.Paths.{AreListed}
pub use Rattle.bz_passes.specs.Passes.{tidied}
pub use Rattle.bz_resume.specs.Journals.{AreSmall, Journal, NoJournal, journal_text, stands}
pub use Rattle.bz_resume.specs.Pair.{journal_name}
pub use Rattle.bz_resume.specs.Resumed.{IsStale, StandsFor}
pub use Rattle.bz_resume.specs.Resuming.{Holds, OthersStay, Resumes, Survives}
pub use Rattle.bz_resume.specs.declared.fault.ResumeFault.{ResumeFault}
pub use Rattle.bz_resume.specs.declared.pair_fault.PairFault.{PairFault}
pub use Rattle.bz_rule.specs.Held.{held_name}
pub use Rattle.bz_rule.specs.Index.{Index, IsIndexOf, marked_places, places_from}
pub use Rattle.bz_value.specs.BuildValues.{AreBuild, IsProperBuild}
pub use Rattle.bz_value.specs.Proper.{IsProper, IsProperItem}
pub use Rattle.bz_value.specs.Windows.{AreOver}
pub use Rattle.bz_value.specs.declared.refusal.Refusal.{Refusal}
pub use Rattle.bz_value.specs.declared.refusal.Refusal.TheVariants.{Full, Memory, NoTarget, NoteTooLong, TooFar, TooLarge}
pub use Rattle.bz_value.specs.declared.value.Expr.{Expr}
pub use Rattle.bz_value.specs.declared.value.Item.{Item}
pub use Rattle.bz_value.specs.declared.windows.Window.{Window}
pub use Rattle.hex.specs.Hex.{encode_lower}
pub use Rattle.sha2.specs.Hashers.{Holds256}
pub use Rattle.sha2.specs.Sha256.{sha256}
