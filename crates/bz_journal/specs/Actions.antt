-- What is requested of a session.
use Rattle.std.specs.Prelude.{ℕ}
use Rattle.bz_journal.specs.Words.{Operation, Target}
use Rattle.bz_journal.specs.declared.action.Action as d
use Rattle.bz_journal.specs.declared.action.Action.TheVariants as v

-- a command on the rules that a target means, formatting, this many steps back, and this many forward
pub data Action : Type 0 where
  Do : Operation → Target → Action
  Format : Action
  Undo : ℕ → Action
  Redo : ℕ → Action

-- the same, of one that borrows its command and its target
abbrev pub action_in : d.Action → Action
action_in (v.Do command target) = Do command.now target.now
action_in v.Format = Format
action_in (v.Undo n) = Undo n
action_in (v.Redo n) = Redo n

-- what may make a new text: a command, and formatting
abbrev pub MakesText : Action → Type 0
MakesText (Do command target) = Unit {0}
MakesText Format = Unit {0}
MakesText (Undo n) = ⊥
MakesText (Redo n) = ⊥
