-- The course of what a run has of a file.
use Rattle.std.specs.Prelude.{◌≡◌}
use Rattle.bz_journal.specs.Words.{IsSmall}
use Rattle.bz_journal.specs.Shown.{session_history}
use Rattle.bz_journal.specs.State.{SessionState, session_trail}
use Rattle.bz_journal.specs.declared.past.Form.{Form}
use Rattle.bz_journal.specs.declared.past.Form.TheVariants as f

-- one that is there, or one of the same texts, which is small
abbrev pub IsCourseOf : Form → SessionState → Type 0
IsCourseOf (f.Course session) s = s ≡ session
IsCourseOf (f.Alone history) s = (session_history s ≡ history) × IsSmall (session_trail s)

-- that, or texts alone as they were
abbrev pub HasCourse : Form → Form → Type 0
HasCourse form (f.Course session) = IsCourseOf form session
HasCourse form (f.Alone history) = form ≡ f.Alone history
