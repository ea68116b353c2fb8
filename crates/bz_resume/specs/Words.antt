-- What the definitions and clauses of this crate speak of, from the crates below.
pub use Rattle.bz_edit.specs.Shown.{Moves, Text, texts_of}
pub use Rattle.bz_edit.specs.Steps.{all_there, IsStep, swap_node}
pub use Rattle.bz_edit.specs.Trails.{IsSmall, IsTrail, IsTree, StepLeads, Trail, trail_at}
pub use Rattle.bz_edit.specs.declared.edit.Edit.{Edit}
pub use Rattle.bz_files.specs.Acts.{GoesThrough}
pub use Rattle.bz_files.specs.Faults.{Rises}
pub use Rattle.bz_files.specs.Folder.{Elapses, Folder, IsUntouched, new_name}
pub use Rattle.bz_files.specs.Orders.{KeepsOrder, Read, ReadsRegular, pair_acts, with_act, with_acts}
pub use Rattle.bz_files.specs.declared.files.FileFault.{FileFault}
pub use Rattle.bz_files.specs.declared.files.Files.{Ghosts}
pub use Rattle.bz_files.specs.declared.stamp.FileStamp.{FileStamp}
pub use Rattle.bz_grammar.specs.Joined.{AreWholeLines, file_with}
pub use Rattle.bz_grammar.specs.Kinds.{kind_number}
pub use Rattle.bz_grammar.specs.Legal.{LegalBuild, NoTree, Reads}
pub use Rattle.bz_grammar.specs.Spell.{depth_limit, limit, spell_node}
pub use Rattle.bz_grammar.specs.Split.{bare_end}
pub use Rattle.bz_grammar.specs.declared.tree.Node.{Node}
pub use Rattle.bz_grammar.specs.declared.tree.Part.{end_of-Part, more_of-Part, Node', Part, Row_of-Part}
pub use Rattle.bz_journal_format.specs.Contents.{entries_of}
pub use Rattle.bz_journal_format.specs.Texts.{IsNote, IsOtherVersion, IsRecord, record_text, short_limit, step_limit}
pub use Rattle.bz_journal_format.specs.declared.content.Record.{Record}
pub use Rattle.bz_journal_format.specs.declared.content.RecordedStep.{RecordedStep}
pub use Rattle.bz_journal_format.specs.declared.content.Version.{Version}
pub use Rattle.bz_lex.specs.declared.leaf.Leaf.{Leaf}
pub use Rattle.bz_token.specs.Classes.{class_number}
pub use Rattle.sha2.specs.Sha256.{sha256}
