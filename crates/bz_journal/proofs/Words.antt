-- What the proofs of this crate speak of, from std, from the crates below and from its own specs.
pub use Rattle.bz_build_format.proofs.Writes.{given, IsGiven, written_given, written_too_large}
pub use Rattle.bz_build_format.specs.Meaning.{gives, Meaning, written}
pub use Rattle.bz_command.specs.Effect.{on_each, source_of, with_item_first}
pub use Rattle.bz_command_syntax.specs.Proper.{IsProperCommand}
pub use Rattle.bz_edit.specs.Shown.{Moves, SmallIsBetween, SmallIsLeast, TakesUp, TrailsKeep, TrailsLead}
pub use Rattle.bz_edit.specs.Windows.{window_parts}
pub use Rattle.bz_grammar.specs.Laws.{OneReading}
pub use Rattle.bz_journal.specs.Actions.{action_in}
pub use Rattle.bz_journal.specs.Clauses.{Action, Acts, after_meaning, after_text, AlikeActs, AlikeGoesOn, Answer, AreFirstDigests, AreLinesOf, AreProperMade, changed, Do, EndsAt, Format, GivesAlike, GoesOn, Grows, HasActed, HasListedName, HaveListedNames, HaveListedNamesIn, History, HoldsState, is_lone_statement, is_node, IsAtOnce, IsKept, IsKnownSession, IsLike, IsLineOfOne, IsResumedSession, IsSavedSession, IsSeenIn, IsSession, IsWrittenSince, item_made_by, items_made_by, Keeps, KeepsFile, KeepsPair, lines_begun, MakesOrWants, Means, most_steps, moved, moved_from, note_limit, opened, OpensText, Overfills, present, printed_answer, Redo, refuses, Reply, Runs, RunsIn, saved, session_history, session_trail, SessionState, StoppedIsResumed, text_or, unchanged, Undo, WrittenIsLaidOut}
pub use Rattle.bz_journal.specs.Editing.{IsTidyLayoutOf}
pub use Rattle.bz_journal.specs.Forms.{past_history}
pub use Rattle.bz_journal.specs.History.{IsFormat, IsFree, Leads, Makes, redone, undone}
pub use Rattle.bz_journal.specs.Lasting.{AreAlike, ResumesAt}
pub use Rattle.bz_journal.specs.Listing.{shown_byte, text_lines_from}
pub use Rattle.bz_journal.specs.Meaning.{EffectMeans, Formats}
pub use Rattle.bz_journal.specs.Shown.{IsOverEven}
pub use Rattle.bz_journal.specs.Words.{Accepted, AreBuild, AreFirstLines, AreListed, AreOver, AreSmall, AreThere, Bytes, depth_limit, depth_of, Edit, effect, Expr, first_gap, Folder, fronts, fronts_part, Full, has_statements, held_name, Holds, Holds256, Index, is_of_leaves, is_statement_kind, IsFaultAt, IsFormatted, IsIndexOf, IsNote, IsOfText, IsProper, IsProperBuild, IsProperItem, IsSmall, IsTrail, IsTree, IsWritten, Item, item_hash, Journal, journal_name, journal_text, KeptLines, laid_out, layout, leaves_part, limit, lines_of, marked_places, meant, Memory, NewItem, newlines, Node, NoteTooLong, on_meant, Operation, PairFault, Part, PartWindow, places_from, printed, Ran, ReadFault, Reads, Refusal, ResumeFault, Resumes, sha256, space, spell_node, spell_part, stands, StandsFor, Target, texts_of, tidied, TooFar, Trail, trail_at, Two, view_of, Window, with_windows}
pub use Rattle.bz_journal.specs.declared.action.Reply.TheVariants.{Changed, Moved}
pub use Rattle.bz_journal.specs.declared.keeping.Written.{Written}
pub use Rattle.bz_journal.specs.declared.past.Form.{Form}
unfoldable pub use Rattle.bz_journal.specs.private.Filling.{alone_length, item_made}
pub use Rattle.bz_journal.specs.private.Kept.{AreKeptOf}
pub use Rattle.bz_layout.specs.Laws.{BuildLayoutIsBuild, LayoutIsAccepted, LayoutReadsBack}
pub use Rattle.bz_resume.proofs.Saves.{is_saved, record_made}
pub use Rattle.bz_resume.specs.Journals.{MaySave, record_of, text_at}
pub use Rattle.bz_resume.specs.Resuming.{FollowsKept, IsRecordedBy, KeepsHeld, MayResume}
pub use Rattle.bz_value.specs.BuildValues.{BuildValuesAreProper, IsBuildItem}
pub use Rattle.bz_value.specs.Counted.{total}
pub use Rattle.bz_value.specs.LineShapes.{build_grammar, whole_grammar}
pub use Rattle.std.proofs.Common.{[], ⊎_elim, ◌++◌, ◌+◌, ◌-◌, ◌<◌, ◌==◌, ◌||◌, ◌↔◌, ◌∙◌, ◌∷◌, ◌≡◌, ◌≢◌, ◌≤◌, ◌⊎◌, ap, append-nil, append_assoc, ap₂, arith, Bool, bytes_eq, drop, drop-drop, drop_at, eq-eqb, eqb-true, Err, false, flat_map, get_or, get_or-take, IfErr, IfOk, IfSome, if◌then◌else◌, inl, inr, is_some, IsErrAnd, IsErrOf, IsOk, IsTrue, IsUtf8, length, length-append, length-drop, length-take, length-take-le, List, map, MatchResult, nat_lt, None, not, Ok, OnErr, OnOk, Option, option_copied, option_map, refl, Result, rules, slice_get, slice_index_or, Some, string_bytes, subst, suc, sym, take, take-append-drop, take_all, take_at, true, true≢false, unwrap_or, Vec, vec_capacity, vec_len, zero, ℕ}
pub use Rattle.std.proofs.Math.Seq.{drop-append_seam, get_or-append_seam, take-append_seam}
pub use Rattle.std.proofs.lemmas.Bool.{and_parts, both_ways, false≢true, not-true}
pub use Rattle.std.proofs.lemmas.Bool.Decides.{nat_tests}
pub use Rattle.std.proofs.lemmas.Grind.{common_steps, flat_map-append}
pub use Rattle.std.proofs.lemmas.List.{drop_all, drop_more, get_or_append_left, length-map, map-append, take-map, take_more}
pub use Rattle.std.proofs.lemmas.List.Elements.{All-from_recursion, All-weaker, recursion_from_All}
pub use Rattle.std.proofs.lemmas.Result.{err_from_is_err_and, IfOk-weaker}
pub use Rattle.std.proofs.lemmas.Slice.Eq.{bytes_eq-Decides}
pub use Rattle.std.specs.FinMap.{get}
pub use Rattle.std.specs.List.{AllByRecursion, list_any}
pub use Rattle.std.specs.Option.{option_flatten}
pub use Rattle.std.specs.Result.{result_ok}
