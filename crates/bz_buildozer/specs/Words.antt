-- What the definitions and clauses of this crate speak of, from the crates below.
pub use Rattle.bz_command_line.specs.Line.{command_line_of, CommandLine, Given, LineUsage, of_clap, operands, script}
pub use Rattle.bz_command_line.specs.Paths.{HasPath}
pub use Rattle.bz_command_line.specs.Refused.{IsFirstFault, IsFirstRefused, IsGroupFault, IsPatternFault, IsScriptFault}
pub use Rattle.bz_command_line.specs.Requested.{in_line, of_operand, operand_group, Refused, Request, Requested, Usage}
pub use Rattle.bz_command_line.specs.Script.{script_lines, script_of}
pub use Rattle.bz_command_line.specs.Shown.{request_in, requested_in}
pub use Rattle.bz_command_line.specs.Verbs.{prints}
pub use Rattle.bz_command_line.specs.declared.line.Options.{Options}
pub use Rattle.bz_command_syntax.specs.declared.profile.Profile.{Profile}
pub use Rattle.bz_command_line.specs.declared.verb.Verb.{Verb}
pub use Rattle.bz_edit.specs.declared.edit.Edit.{Edit}
pub use Rattle.bz_files.specs.Folder.{Elapses, Folder, IsAside, IsReplacing, new_name, SameBut, with_file}
pub use Rattle.bz_files.specs.Orders.{ReadsRegular}
pub use Rattle.bz_files.specs.declared.files.Files.{Ghosts}
pub use Rattle.bz_grammar.specs.Faults.{IsFaultOf}
pub use Rattle.bz_grammar.specs.Legal.{Accepted, Reads}
pub use Rattle.bz_grammar.specs.Spell.{limit}
pub use Rattle.bz_grammar.specs.Statements.{lines_of}
pub use Rattle.bz_grammar.specs.declared.tree.Node.{Node}
pub use Rattle.bz_hint.specs.Hints.{change_notes, refusal_hint}
pub use Rattle.bz_hosts.specs.View.{view_of}
pub use Rattle.bz_items.specs.Characters.{Bytes}
pub use Rattle.bz_journal.specs.Actions.{action_in}
pub use Rattle.bz_journal.specs.Forms.{past_history}
pub use Rattle.bz_journal.specs.History.{History, present}
pub use Rattle.bz_journal.specs.Keeping.{IsRefused, IsWriteOrOpen}
pub use Rattle.bz_journal.specs.declared.past.Form.{Form}
pub use Rattle.bz_journal_format.specs.Texts.{IsOtherVersion}
pub use Rattle.bz_label.specs.declared.target.Target.{Target}
pub use Rattle.bz_lex.specs.Faults.{is_of_leaves}
pub use Rattle.bz_lex.specs.Stops.{IsFaultAt}
pub use Rattle.bz_lex.specs.declared.fault.ReadFault.{ReadFault}
pub use Rattle.bz_resume.specs.Journals.{BeginsNoJournal, Journal, journal_text, NoJournal, stands}
pub use Rattle.bz_resume.specs.Pair.{journal_name}
pub use Rattle.bz_resume.specs.Resumed.{IsStale}
pub use Rattle.bz_resume.specs.Resuming.{Holds, OthersStay, Survives}
pub use Rattle.bz_resume.specs.declared.fault.ResumeFault.{ResumeFault}
pub use Rattle.bz_resume.specs.declared.pair_fault.PairFault.{PairFault}
pub use Rattle.bz_streams.specs.Controls.{escaped_text}
pub use Rattle.bz_streams.specs.Excerpts.{fault_excerpt}
pub use Rattle.bz_streams.specs.Exits.{first_cut}
pub use Rattle.bz_streams.specs.Faults.{AppendsSome, AppendsUnlessFailed, Rises}
pub use Rattle.bz_streams.specs.Outputs.{Counts, Reports}
pub use Rattle.bz_streams.specs.Pieces.{line_piece_text}
pub use Rattle.bz_streams.specs.Ports.{IsInput}
pub use Rattle.bz_streams.specs.Reported.{fault_line, named_line, stdin}
pub use Rattle.bz_streams.specs.declared.exit.Cut.{Cut}
pub use Rattle.bz_streams.specs.declared.exit.Exit.{Exit}
pub use Rattle.bz_value.specs.Refusals.{refusal_name, refusal_number}
pub use Rattle.bz_value.specs.declared.refusal.Refusal.{Refusal}
