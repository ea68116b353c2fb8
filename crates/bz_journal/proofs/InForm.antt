-- The course of what a run has of a file, and the last command on it.
use Rattle.bz_journal.proofs.Words.{◌∙◌, ◌≡◌, ◌≤◌, Action, Acts, Answer, ap, Bytes, Do, Form, Form as f, History, inr, length, MakesOrWants, note_limit, Operation, past_history, session_history, SessionState, subst, sym, Target}
use Rattle.bz_journal.specs.private.Courses.{IsCourseOf, HasCourse}

pub made_as : (form made inside own : Form) → HasCourse form made → inside ≡ made → inside ≡ own → HasCourse form own
made_as form made inside own is same here = subst (λ (f : Form). HasCourse form f) (sym same ∙ here) is

pub same_history : (form : Form) (s : SessionState) → IsCourseOf form s → session_history s ≡ past_history form
same_history (f.Course own) s is = ap session_history is
same_history (f.Alone history) s is = is.0

-- the last command on the first text
pub last_acts : (operation : Operation) (target : Target) (action : Action) (note called : Bytes) (form : Form) (s : SessionState) (answer : Answer) (new : Form) → IsCourseOf form s
    → action ≡ Do operation target → called ≡ note → length note ≤ note_limit → MakesOrWants (Do operation target) called (session_history s) answer (past_history new)
    → Acts action note (past_history form) answer (past_history new)
last_acts operation target action note called form s answer new is same noted short makes =
    subst (λ (h : History). Acts action note h answer (past_history new)) (same_history form s is)
    (subst (λ (a : Action). Acts a note (session_history s) answer (past_history new)) (sym same)
    (inr (short, subst (λ (n : Bytes). MakesOrWants (Do operation target) n (session_history s) answer (past_history new)) noted makes)))
