-- A session as contracts see it.
use Rattle.std.specs.Prelude.{◌≡◌, ◌≢◌, ◌≤◌, ◌<◌, ◌+◌, ◌↔◌, ℕ, true, [], take, length, Result, Err, IfOk, IfErr, OnOk}
use Rattle.std.specs.Str.{IsValidUpTo}
use Rattle.bz_journal.specs.Words.{Accepted, Bytes, HasLeast, IsFaultAt, IsOfText, IsSmall, ReadFault, StepsAreBetween, StepsLead, Trail, are_even}
use Rattle.bz_journal.specs.Words.{is_of_leaves, limit, steps_back, steps_forward, texts_of}
use Rattle.bz_lex.specs.declared.fault.ReadFault.TheVariants as f
use Rattle.bz_journal.specs.History.{History, IsKept, opened}
use Rattle.bz_journal.specs.State.{SessionState, session_trail}
use Rattle.bz_journal.specs.Actions.{Action}
use Rattle.bz_journal.specs.Actions.{Do, Format, Undo, Redo}

-- the history that a session keeps
abbrev pub session_history : SessionState → History
session_history s = record { «package» = s.«package»; texts = texts_of (session_trail s); notes = s.notes; cursor = s.cursor; before = s.before }

-- An undo or redo by steps that are there, each edit of which holds as many parts as it covers.
abbrev pub IsOverEven : Action → Trail → Type 0
IsOverEven (Do command target) t = ⊥
IsOverEven Format t = ⊥
IsOverEven (Undo n) t = (n ≤ t.cursor) × (are_even (take n (steps_back t)) ≡ true)
IsOverEven (Redo n) t = (t.cursor + n ≤ length t.steps) × (are_even (take n (steps_forward t)) ≡ true)

-- What opening a text of a file of this package gives: its history, or a fault; which faults are exactly of which texts, and where those
-- of its leaves are.
pub record OpensText (current text : Bytes) (result : Result SessionState ReadFault) : Type 0 where
  pub ok : IfOk result (λ s. session_history s ≡ opened current text)
  pub small : IfOk result (λ s. IsSmall (session_trail s))
  pub accepted : OnOk result (Accepted text)
  pub too_large : (result ≡ Err f.TooLarge) ↔ (limit < length text)
  pub not_utf8 : (at : ℕ) → ((result ≡ Err (f.NotUtf8 at)) ↔ ((length text ≤ limit) × IsValidUpTo text at))
  pub refused : IfErr result (λ fault. IsOfText fault → Accepted text → ⊥)
  pub placed : IfErr result (λ fault. is_of_leaves fault ≡ true → IsFaultAt (λ blanks. blanks ≢ []) text fault)

-- What the history of a session keeps, and what its steps are: each leads between the trees of two texts that follow one another; those
-- of a small session are the steps between them, and none that leads there weighs less.
pub record HoldsSteps (s : SessionState) : Type 0 where
  pub kept : ∥ IsKept (session_history s) ∥₁
  pub lead : StepsLead (session_trail s)
  pub between : IsSmall (session_trail s) → StepsAreBetween (session_trail s)
  pub least : IsSmall (session_trail s) → HasLeast (session_trail s)
