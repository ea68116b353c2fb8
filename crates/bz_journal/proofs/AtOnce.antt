-- What is answered at once, of a history that stays.
use Rattle.bz_journal.proofs.Words.{◌+◌, ◌<◌, ◌≡◌, ◌≤◌, Action, Acts, Answer, ap, arith, Bytes, Do, Err, false, Format, HasActed, History, inl, inr, IsAtOnce, IsFormat, IsFree, IsOk, IsOverEven, Leads, length, Moved, nat_lt, nat_tests, note_limit, Ok, OnOk, Redo, redone, refl, Refusal, session_history, session_trail, SessionState, Some, sym, true, Undo, undone, ℕ}
use Rattle.bz_journal.proofs.Edited.{stays_put}

-- ---- what that means of a session, and of texts alone

leads_acts : (action : Action) (note : Bytes) (h after : History) (answer : Answer) → Leads action note h answer after → Acts action note h answer after
leads_acts action note h after answer (inl long) = inl long
leads_acts action note h after answer (inr (short, makes)) = inr (short, inl makes)

not_back : (n : ℕ) (h : History) (refusal : Refusal) → n ≤ h.cursor → ◌≡◌ {A = Answer × History} (Err refusal, h) (undone n h) → ⊥
not_back n h refusal there is =
    let near : nat_lt h.cursor n ≡ false = grind (arith, nat_tests) in
    let answer : ◌≡◌ {A = Answer} (Err refusal) (Ok Moved) = ap (λ (z : Answer × History). z.0) (rw near at is) in
    absurd (cc)

not_ahead : (n : ℕ) (h : History) (refusal : Refusal) → h.cursor + n < length h.texts → ◌≡◌ {A = Answer × History} (Err refusal, h) (redone n h) → ⊥
not_ahead n h refusal there is =
    let near : nat_lt (h.cursor + n) (length h.texts) ≡ true = grind (arith, nat_tests) in
    let answer : ◌≡◌ {A = Answer} (Err refusal) (Ok Moved) = ap (λ (z : Answer × History). z.0) (rw near at is) in
    absurd (cc)

-- going by steps that are there is not refused at once
goes_well : (action : Action) (note : Bytes) (s : SessionState) (answer : Answer) → length (session_history s).texts ≡ length s.steps + 1
    → Leads action note (session_history s) answer (session_history s) → length note ≤ note_limit → IsOverEven action (session_trail s) → IsOk answer
goes_well action note s (Ok reply) count leads short over = refl
goes_well action note s (Err refusal) count (inl long) short over = absurd (omega (arith, long.0, short))
goes_well (Do command target) note s (Err refusal) count (inr makes) short over = absurd over
goes_well Format note s (Err refusal) count (inr makes) short over = absurd over
goes_well (Undo n) note s (Err refusal) count (inr makes) short over = absurd (not_back n (session_history s) refusal over.0 makes.1)
goes_well (Redo n) note s (Err refusal) count (inr makes) short over = absurd (not_ahead n (session_history s) refusal (omega (arith, over.0, count)) makes.1)

free_stays : (X : Type 0) (action : Action) (h : History) (answer : Answer) → OnOk answer (IsFree action h) → OnOk answer (IsFormat action → X)
free_stays X action h (Err refusal) free = tt
free_stays X (Do command target) h (Ok reply) free = λ is. absurd is
free_stays X Format h (Ok reply) free = λ is. absurd free
free_stays X (Undo n) h (Ok reply) free = λ is. absurd is
free_stays X (Redo n) h (Ok reply) free = λ is. absurd is

pub acted_at_once : (action : Action) (note : Bytes) (s : SessionState) (cursor ahead : ℕ) (answer : Answer) → s.cursor < length (session_history s).texts
    → cursor ≡ s.cursor → s.cursor + ahead ≡ length s.steps → s.cursor + ahead + 1 ≡ length (session_history s).texts
    → IsAtOnce action note cursor ahead (Some answer) → HasActed action note s answer s
acted_at_once action note s cursor ahead answer within at steps count is =
    let h : History = session_history s in
    let done : Leads action note h answer h × OnOk answer (IsFree action h) = is h (sym at) count in
    record {
      within = within;
      acts = leads_acts action note h h answer done.0;
      formatted = free_stays _ action h answer done.1;
      unmoved = stays_put answer s;
      even = goes_well action note s answer (omega (arith, steps, count)) done.0;
      small = λ own. own;
    }

pub acts_at_once : (action : Action) (note : Bytes) (h : History) (cursor ahead : ℕ) (answer : Answer) → cursor ≡ h.cursor → h.cursor + ahead + 1 ≡ length h.texts
    → IsAtOnce action note cursor ahead (Some answer) → Acts action note h answer h
acts_at_once action note h cursor ahead answer at count is = leads_acts action note h h answer (is h (sym at) count).0
