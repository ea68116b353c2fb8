-- What the definitions and clauses of this crate speak of, from the crates below.
pub use Rattle.bz_build_format.specs.Faults.{FormatsBzlTo, FormatsTo}
pub use Rattle.bz_build_format.specs.declared.formatter.FormatFault.{FormatFault}
pub use Rattle.bz_files.specs.Folder.{Folder, IsAside, IsReplacing, new_name, SameBut, SameFolders, with_file}
pub use Rattle.bz_files.specs.Orders.{ReadsRegular}
pub use Rattle.bz_files.specs.declared.files.FileFault.{FileFault}
pub use Rattle.bz_items.specs.Characters.{Bytes, full_stop}
pub use Rattle.bz_lex.specs.declared.fault.ReadFault.{ReadFault}
pub use Rattle.bz_streams.specs.Controls.{escaped_text}
pub use Rattle.bz_streams.specs.Excerpts.{fault_excerpt}
pub use Rattle.bz_streams.specs.Exits.{first_cut}
pub use Rattle.bz_streams.specs.Faults.{AppendsUnlessFailed, Rises}
pub use Rattle.bz_streams.specs.Names.{note_line, odd_name_line}
pub use Rattle.bz_streams.specs.Near.{nearest}
pub use Rattle.bz_streams.specs.Options.{option_hint, option_hint_text, OptionTable}
pub use Rattle.bz_streams.specs.Outputs.{Counts, Reports, Writes, WritesUnlessClosed}
pub use Rattle.bz_streams.specs.Ports.{IsInput}
pub use Rattle.bz_streams.specs.Reported.{fault_line, named_line, stdin}
pub use Rattle.bz_streams.specs.declared.exit.Cut.{Cut}
pub use Rattle.clap.specs.Values.{kind_of}
pub use Rattle.clap.specs.Words.{all_of, App, app_of, fault_of, first_of, found_of, IsAmong, matches_of, new_app, new_rule, Row, rows_of, Rule, rule_of, with_rule}
pub use Rattle.clap.specs.declared.error.kind.ErrorKind.{ErrorKind}
