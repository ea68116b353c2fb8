-- What the proofs of this crate speak of, from std, from the crates below and from its own specs.
pub use Rattle.bz_buildozer.specs.Calls.{acts_over, AreCutBy, CutsFiles, EndsIn, IsLeft, KeepsStep, MayRun, PassesBy, PrintsAll, PrintsSome, PrintsUntil, Proceeds, ReportsLine, ReportsLines, RunSpot, spot, UsesSome, WorksOn}
pub use Rattle.bz_buildozer.specs.Ending.{differs, Ended, ended_whole, fixed_lines, has_changed, is_input, LeavesUnwritten, Left, name_fixed, opened_out, Performs, status_of, texts_out, TriesFile, TriesFiles, WritesFile, Writing, writing_of}
pub use Rattle.bz_buildozer.specs.Exact.{GivenReportsPattern, IsLeftOpen, OutcomesAreExact, OutputCutsNothingElse, ReportsPattern, SameLeft, SameLines}
pub use Rattle.bz_buildozer.specs.Found.{as_file, as_package, as_unedited, bzl, file_at, first_name, folder_of, found_at, found_in, found_of, found_second, has_file, has_package, in_package, is_file, is_first_name, is_kept_name, is_own_name, is_root, is_second_name, is_there, IsApartFrom, IsNameOf, kept, key_in, key_of, may_be_file, Opened, opened_with, package_number, package_of, PackagesAreApart, PackagesFound, root_above, second_name, Settled, settled, settled_file, settled_second, Used, with_opened}
unfoldable pub use Rattle.bz_buildozer.specs.Found.{root_from}
pub use Rattle.bz_buildozer.specs.Journals.{Adds, fault_lines, file_of_journal, HeldFilesGoOn, IsOpenedIn, journal_beside, JournalFault, JournalGives, JournalGivesOne, lines_of_journal, of_package, of_resuming, OpensAs, OpensBeside, shown_package, StandsAt, TakesBeside}
pub use Rattle.bz_buildozer.specs.Keeps.{after_keeping, file_after, file_left, FolderAfter, is_left_at, KeepsAt, KeepsFolder, left_out, StillIsSame}
pub use Rattle.bz_buildozer.specs.Moments.{AllAre, AllAreSafe, IsApart, IsBetween, IsMeanwhile, IsMomentOfRun, IsMomentOfSteps, IsSafe, Joins, MayAct}
pub use Rattle.bz_buildozer.specs.Opens.{FrontsAreReportedAlike, IsRefusedFor, opened_fresh, Takes}
pub use Rattle.bz_buildozer.specs.Outcome.{AreOfInput, AreOfInputAndSome, GivenOutcome, GivesNothing, IsOfInput, IsScript, IsScriptFront, IsText, IsTextFault, IsUnused, KeepsJournals, LineGivesNothing, LineOutcome, LinesEnd, LinesOutcome, NamesNoFile, OfScript, OperandsOutcome, OrOutOfMemory, out_of_memory, reported_name, ScriptOutcome, TextOutcome, unread, unused, WordsOutcome}
pub use Rattle.bz_buildozer.specs.Reported.{input_line, IsLineUsageLine, memory_line, no_journal_line, output_lines, package_hint, refusal_line, root_note, unedited_lines, unkept_line, unread_line, unread_status, usage_line}
pub use Rattle.bz_buildozer.specs.Run.{Answers, AnswersIn, AreHints, CutsPair, Does, ends_run, FailsAt, FileUntil, Finds, FindsUntil, IsInFolder, LeadsBy, LeavesUnkept, MeansUntil, nothing_done, OpensUntil, printed_in, Progress, RefusesBy, reply_notes, reported_of, RunsSteps, SecondUntil, state_after, TakesUntil, unreadable, Uses, UsesWhole, wanting, wanting_name, World}
pub use Rattle.bz_buildozer.specs.Sessions.{Action, Acts, after_meaning, Answer, Changed, changed, Do, EffectMeans, Format, Formats, gives, KeepFault, Keeps, KeepsFile, Leads, listing, Makes, Meaning, Means, Moved, note_limit, opened, Pair, Printed, Redo, Refused, Reply, Undo, undone}
pub use Rattle.bz_buildozer.specs.Steps.{action_of, all_steps, input_package, is_of_input, is_shown_by, names_file, names_input, RunStep, shows_input, step_of, steps_requested}
pub use Rattle.bz_buildozer.specs.Unread.{ActsAreAmong, ActsGrow, IsUnreadInRun, no_acts, RunActs}
pub use Rattle.bz_buildozer.specs.Words.{Accepted, action_in, AppendsUnlessFailed, BeginsNoJournal, Bytes, command_line_of, CommandLine, Counts, Cut, Edit, Elapses, escaped_text, Exit, fault_excerpt, fault_line, first_cut, Folder, Form, Ghosts, Given, HasPath, History, Holds, in_line, is_of_leaves, IsAside, IsFirstFault, IsFirstRefused, IsGroupFault, IsInput, IsOtherVersion, IsPatternFault, IsReplacing, IsScriptFault, IsStale, Journal, journal_name, limit, lines_of, LineUsage, named_line, new_name, Node, NoJournal, of_clap, of_operand, operand_group, operands, Options, OthersStay, PairFault, past_history, present, prints, ReadFault, Reads, ReadsRegular, Refusal, refusal_hint, Reports, Request, request_in, Requested, requested_in, ResumeFault, Rises, SameBut, script, script_lines, script_of, stands, stdin, Survives, Target, Usage, Verb, view_of, with_file}
pub use Rattle.bz_buildozer.specs.WorkedParts.{Settles, text_made, text_read}
pub use Rattle.bz_buildozer.specs.WorkedRuns.{BelowRoot, BesideNone, HasBuild, IsMade, OverBuild, OverInput, WorkedUsage, WorkedWholeRuns}
pub use Rattle.bz_buildozer.specs.declared.reading.Taken.{Taken}
pub use Rattle.bz_buildozer.specs.declared.step.OneStep.{OneStep}
pub use Rattle.bz_buildozer.specs.private.Settling.{settled_in, unedited_in}
pub use Rattle.bz_buildozer.specs.private.Shown.{progress_in, shown_in, step_in, targets_file_in, targets_input_in}
pub use Rattle.bz_buildozer.specs.private.ShownFiles.{IsCourse, opened_in, packages_of, taken_in, texts_of_keys, used_in}
pub use Rattle.bz_buildozer.specs.private.Taking.{base_of, Brings, InputUntil, IsEnoughOf, NamedUntil, slash_after}
pub use Rattle.bz_command_line.specs.Requested.{accepted, complete, joined_operands, no_command, no_line, no_target, nothing_requested, nul, requested_by, requested_of}
pub use Rattle.bz_command_line.specs.Shown.{given_in, line_in, line_usage_in, script_usage_in, usage_in}
pub use Rattle.bz_command_syntax.specs.declared.command.Operation.{Operation}
pub use Rattle.bz_files.proofs.Elapsing.{each_since, elapsed_on, stays, weakened}
pub use Rattle.bz_files.proofs.Orders.{joined, reads_on, reads_one, rewrite_reads}
pub use Rattle.bz_files.specs.Orders.{Act, IsRegular, Read, with_act, with_acts}
pub use Rattle.bz_files.specs.declared.files.FileKind.{FileKind}
pub use Rattle.bz_grammar.specs.Laws.{OneReading}
pub use Rattle.bz_journal.specs.Forms.{ActsIn, KeepsIn, OpensPast}
pub use Rattle.bz_journal.specs.Meaning.{refuses, written}
pub use Rattle.bz_journal.specs.Shown.{OpensText, session_history}
pub use Rattle.bz_journal.specs.State.{SessionState}
pub use Rattle.bz_lex.specs.declared.fault.ReadFault.TheVariants.{NotUtf8, TooLarge}
pub use Rattle.bz_resume.specs.Journals.{text_at}
pub use Rattle.bz_resume.specs.Resuming.{IsRecordedBy, Resumes}
pub use Rattle.bz_streams.proofs.Outputs.{appends_nothing, counts_more, reports_more, rises_more}
pub use Rattle.bz_value.specs.declared.refusal.Refusal.TheVariants.{Full, Memory, NoteTooLong, TooFar}
pub use Rattle.bz_value.specs.declared.value.Item.{Item}
pub use Rattle.std.proofs.Common.{[], ⊎_elim, ◌&&◌, ◌++◌, ◌+◌, ◌-◌, ◌<◌, ◌==◌, ◌^◌, ◌||◌, ◌↔◌, ◌∙◌, ◌∷◌, ◌≡◌, ◌≢◌, ◌≤◌, ◌⊎◌, All, ap, append-nil, append_assoc, ap₂, arith, Bool, Bor, bytes_eq, codes, cond, drop, eq-eqb, eqb, Err, false, flat_map, get_or, IfOk, IfSome, if◌then◌else◌, inl, inr, is_ok, is_some, IsCharBoundary, IsErr, IsSome, IsUtf8, le-leb, le-ltb, le_refl, leb, leb-true, length, length-append, length-take, List, lt-ltb, map, nat_cmp, nat_lt, ne_eqb, None, not, Ok, OnErr, OnOk, Option, option_map, position, refl, Result, rules, slice_get, slice_index_or, slice_set, Some, string_bytes, subst, suc, sym, take, take-append-drop, take_all, true, true≢false, unwrap_or, Vec, zero, ℕ}
pub use Rattle.std.proofs.Math.Bool.{and-false, or-false, or-true}
pub use Rattle.std.proofs.Math.Seq.{take-length, take-nil}
pub use Rattle.std.proofs.lemmas.Bool.{and_parts, cases_lt, false_from_ne_true, lt-leb, or_from, or_left, or_parts, or_right}
pub use Rattle.std.proofs.lemmas.Bool.Decides.{Decides-eqb, eqb_tells}
pub use Rattle.std.proofs.lemmas.List.{append_cancel_right, get_or-map, length-map, map-append, map_more, take_more}
pub use Rattle.std.proofs.lemmas.List.Elements.{All-get_or, All-head, All-nil, All-push, All-tail}
pub use Rattle.std.proofs.lemmas.List.Folds.{list_any-append}
pub use Rattle.std.proofs.lemmas.Slice.Eq.{bytes_eq-Decides, ends_is}
pub use Rattle.std.proofs.lemmas.Str.{IsUtf8-from_is_utf8}
pub use Rattle.std.proofs.lemmas.Str.Pattern.{drop_at_char, ends_text, NoCharPasses-char}
pub use Rattle.std.specs.Cmp.Lexicographic.{slice_cmp}
pub use Rattle.std.specs.FinMap.{empty, get, get-empty, get-insert}
unfoldable pub use Rattle.std.specs.Fmt.{digits}
pub use Rattle.std.specs.List.{ends_with, list_any, position_from}
pub use Rattle.std.specs.Option.{option_map_or}
unfoldable pub use Rattle.std.specs.Str.{chars, is_utf8}
pub use Rattle.std.specs.declared.alloc.Global.{Global}
unfoldable pub use lib.Utf8.{encode}
