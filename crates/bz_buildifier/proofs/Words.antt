-- What the proofs of this crate speak of, from std, from the crates below and from its own specs.
pub use Rattle.bz_buildifier.specs.FormatRun.{absent, begun, Effect, file_out, FilesFormatted, FileStep, FormatOutcome, FormatOutcomeOf, FormatsAs, grown, input_out, input_printed, input_unformatted, input_unread, input_without_memory, InputStep, is_rewritten, IsCutBy, IsFormatUsageLine, kept, no_word_line, noted, output_effect, Prints, refused, Rewrites, rewritten, RunOf, text_status, unformatted, unopened, unread, unread_file, without_memory, worse}
pub use Rattle.bz_buildifier.specs.Laws.{Agree, Exact, exact_absent, exact_formatted, exact_unformatted, ExactStep, OutcomesAgree, SameReports}
pub use Rattle.bz_buildifier.specs.Modes.{is_bzl, mode_in_place, mode_names, no_mode, no_type, type_in_place, type_names}
pub use Rattle.bz_buildifier.specs.Words.{Bytes, Counts, Cut, FileFault, first_cut, Folder, FormatFault, IsAside, IsInput, named_line, nearest, new_name, ReadFault, ReadsRegular, Reports, Rises, SameBut, SameFolders, stdin, with_file, Writes, WritesUnlessClosed}
pub use Rattle.bz_buildifier.specs.declared.file_type.FileType.{FileType}
pub use Rattle.bz_buildifier.specs.declared.mode.Mode.{Mode}
pub use Rattle.bz_buildifier.specs.private.FormatShown.{effect_seen, seen_line}
pub use Rattle.bz_files.proofs.Orders.{none_read, reads_on, reads_one, rewrite_reads}
pub use Rattle.bz_grammar.specs.Legal.{Accepted, ReadsBzl}
pub use Rattle.bz_grammar.specs.Spell.{limit}
pub use Rattle.bz_streams.proofs.Outputs.{appends_nothing, counts_more, reports_more, rises_more, writes_more}
pub use Rattle.std.proofs.Common.{[], ◌++◌, ◌+◌, ◌<◌, ◌==◌, ◌||◌, ◌∙◌, ◌∷◌, ◌≡◌, ◌≢◌, ◌≤◌, ◌⊎◌, All, ap, arith, Bool, Bor, codes, cond, drop, eqb-true, Err, false, get_or, IfOk, IfSome, if◌then◌else◌, inl, inr, length, length-take, List, map, nat_cmp, None, Ok, Option, option_map, refl, Result, Some, subst, sym, take, take_all, true, true≢false, ℕ}
pub use Rattle.std.proofs.lemmas.List.{drop_all, nil_from_length}
pub use Rattle.std.specs.FinMap.{get, get-insert}
