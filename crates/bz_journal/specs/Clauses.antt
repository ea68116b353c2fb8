-- What the clauses of this crate speak of, from its own definitions and from those of the crates below.
pub use Rattle.bz_journal.specs.Actions.{Action, Do, Format, MakesText, Redo, Undo, action_in}
pub use Rattle.bz_journal.specs.private.Alone.{text_or}
pub use Rattle.bz_journal.specs.private.Filling.{AreProperMade, Grows, Overfills, alone_length, item_made_by, items_made_by}
pub use Rattle.bz_journal.specs.private.Doing.{EndsAt, GivesAlike, HasMade, IsAtOnce, RunsIn, lines_begun}
pub use Rattle.bz_journal.specs.Editing.{AreFirstDigests, AreLookupsOf, IsSeenIn, WrittenIsLaidOut}
pub use Rattle.bz_journal.specs.History.{Acts, Answer, History, IsKept, MakesOrWants, Runs, after_meaning, after_text, changed, most_steps, note_limit, opened, present, unchanged}
pub use Rattle.bz_journal.specs.Keeping.{HasActed, IsWrittenSince, Keeps, KeepsFile, KeepsPair}
pub use Rattle.bz_journal.specs.Lasting.{AlikeActs, AlikeGoesOn, GoesOn, IsAgain, IsKnownSession, IsResumedSession, IsSavedSession, StoppedIsResumed, saved}
pub use Rattle.bz_journal.specs.private.Kept.{HoldsState}
pub use Rattle.bz_journal.specs.private.Making.{AreLinesOf, HaveListedNames, HaveListedNamesIn, HasListedName, HasOne, IsLike, IsLineOfOne, MakesLines, is_node, is_lone_statement, moved, moved_from}
pub use Rattle.bz_journal.specs.Listing.{lines_of_texts, listing, noted, text_line}
pub use Rattle.bz_journal.specs.Meaning.{Means, gives, refuses, printed_answer, written}
pub use Rattle.bz_journal.specs.Shown.{HoldsSteps, OpensText, session_history}
pub use Rattle.bz_journal.specs.State.{IsSession, SessionState, session_trail}
pub use Rattle.bz_journal.specs.Worked.{WorkedHistories}
pub use Rattle.bz_journal.specs.declared.action.Reply.{Reply}
pub use Rattle.bz_journal.specs.Words.{AreBuild, AreListed, AreOver, AreSmall, AreThere, Bytes, Edit, Holds256, IsBuild, IsFormatted, IsIndexOf, IsOtherVersion, IsProperItem, IsSmall}
pub use Rattle.bz_journal.specs.Words.{IsStale, IsTrail, IsTree, IsWritten, Item, Journal, NoJournal, Node, PairFault, Refusal, SetFault, StandsFor, are_even}
pub use Rattle.bz_journal.specs.Words.{depth_limit, depth_of, effect, fronts, fronts_part, item_hash, laid_out, layout, limit, lines_of, marked_places, meant, newlines}
pub use Rattle.bz_journal.specs.Words.{printed, sha256, spell_node, spell_part, steps_back, steps_forward, texts_of, tidied, trail_at, view_of}
pub use Rattle.bz_journal.specs.Words.{with_windows}
