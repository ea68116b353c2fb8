-- What a session keeps, and the lines that are kept beside it for its journal.
use Rattle.std.specs.Prelude.{◌≡◌, ◌+◌, length, map}
use Rattle.bz_journal.specs.Words.{AreFirstLines, AreSmall, IsBuild, IsSmall, KeptLines, Two, sha256, spell_node, texts_of}
use Rattle.bz_journal.specs.History.{IsKept, present}
use Rattle.bz_journal.specs.Lasting.{IsSavedSession}
use Rattle.bz_journal.specs.Shown.{HoldsSteps, session_history}
use Rattle.bz_journal.specs.State.{SessionState, IsSession, session_trail}

-- they are those of the first digests and of the first steps, as its journal has them
abbrev pub AreKeptOf : SessionState → KeptLines → Type 0
AreKeptOf s kept = AreFirstLines Two (map sha256 (texts_of (session_trail s))) s.notes s.steps kept

-- Its history, its text and its steps; and what is saved of it is a journal, of small steps where its own are.
pub record HoldsState (s : SessionState) : Type 0 where
  pub own : IsSession s
  pub build : IsBuild s.tree
  pub kept : IsKept (session_history s)
  pub text : spell_node s.tree ≡ present (session_history s)
  pub steps : length s.steps + 1 ≡ length (session_history s).texts
  pub holds : HoldsSteps s
  pub journal : IsSavedSession s
  pub small : IsSmall (session_trail s) → AreSmall (session_history s) s.steps
