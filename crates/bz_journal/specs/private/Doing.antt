-- What is done to a session: what is answered, and the session after it.
use Rattle.std.specs.Prelude.{◌≡◌, ◌⊎◌, ◌↔◌, ◌≤◌, ◌<◌, ◌+◌, ℕ, length, List, [], Option, None, Some, Result, Ok, Err, OnErr, OnOk, IfErr, IfOk}
use Rattle.std.specs.Option.{unwrap_or}
use Rattle.bz_journal.specs.Words.{AreBuild, AreOver, Bytes, IsSmall, Item, Memory, Operation, Ran, Refusal, Target, TooLarge, effect, printed}
use Rattle.bz_journal.specs.Actions.{Action, Do, Format, Redo, Undo}
use Rattle.bz_journal.specs.declared.answering.Lookups.{Lookups}
use Rattle.bz_journal.specs.private.Filling.{Overfills}
use Rattle.bz_journal.specs.History.{Answer, History, IsFree, Leads, MakesOrWants, note_limit}
use Rattle.bz_journal.specs.Shown.{session_history}
use Rattle.bz_journal.specs.State.{SessionState, session_trail}

-- the lines that were looked up, or none
abbrev pub lines_begun : Lookups → List ℕ
lines_begun lookups = unwrap_or lookups.lines []

-- By these lines a command makes what it makes by those, of any value, and prints the same.
abbrev pub GivesAlike : Operation → Target → List ℕ → List ℕ → Type 0
GivesAlike operation target lines others = (current : Bytes) (items : List Item)
    → (effect operation target current lines items ≡ effect operation target current others items) × (printed operation target current lines items ≡ printed operation target current others items)

-- What a command does to a value in place, of its effect on it and of what it prints; where what it makes is past the limit of a text, it need
-- not be made. That is the value of a BUILD file. (The value before and after.)
pub record RunsIn (made : Result (List Item) Refusal) (out : Result Bytes Refusal) (before : List Item) (result : Result Ran Refusal) (after : List Item) : Type 0 where
  pub ok : OnOk result (made ≡ Ok after)
  pub build : OnOk result (AreBuild after)
  pub same : IfOk result (λ ran. (ran.windows ≡ []) ↔ (after ≡ before))
  pub printed : IfOk result (λ ran. out ≡ Ok ran.printed)
  pub windows : IfOk result (λ ran. AreOver ran.windows before after)
  pub err : IfErr result (λ refusal. ((made ≡ Err refusal) ⊎ (refusal ≡ Memory)) ⊎ ((refusal ≡ TooLarge) × Overfills before made))

-- The answer and the history are these, or memory was refused. At a refusal the session is as before, and a small one stays small.
pub record EndsAt (end : Answer × History) (s : SessionState) (answer : Answer) (t : SessionState) : Type 0 where
  pub made : (◌≡◌ {A = Answer × History} (answer, session_history t) end) ⊎ ((answer ≡ Err Memory) × (session_history t ≡ session_history s))
  pub unmoved : OnErr answer (t ≡ s)
  pub small : IsSmall (session_trail s) → IsSmall (session_trail t)

-- the same, of what an action makes
pub record HasMade (action : Action) (note : Bytes) (s : SessionState) (answer : Answer) (t : SessionState) : Type 0 where
  pub makes : MakesOrWants action note (session_history s) answer (session_history t)
  pub unmoved : OnErr answer (t ≡ s)
  pub small : IsSmall (session_trail s) → IsSmall (session_trail t)

-- ---- what is answered at once

-- an action makes a text, or goes by steps that are there
abbrev pub TakesSteps : Action → ℕ → ℕ → Type 0
TakesSteps (Do command target) cursor ahead = Unit {0}
TakesSteps Format cursor ahead = Unit {0}
TakesSteps (Undo n) cursor ahead = (0 < n) × (n ≤ cursor)
TakesSteps (Redo n) cursor ahead = (0 < n) × (n ≤ ahead)

-- A history at this number, with this many steps ahead, stays, and that is answered; or the action is to be done.
abbrev pub IsAtOnce : Action → Bytes → ℕ → ℕ → Option Answer → Type 0
IsAtOnce action note cursor ahead None = (length note ≤ note_limit) × TakesSteps action cursor ahead
IsAtOnce action note cursor ahead (Some answer) =
    (h : History) → h.cursor ≡ cursor → h.cursor + ahead + 1 ≡ length h.texts → Leads action note h answer h × OnOk answer (IsFree action h)
