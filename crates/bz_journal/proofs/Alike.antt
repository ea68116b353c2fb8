-- Histories that differ at most in the number of the text that was present before.
use Rattle.bz_journal.proofs.Words.{[], ◌+◌, ◌-◌, ◌==◌, ◌∙◌, ◌∷◌, ◌≡◌, Action, Acts, after_meaning, AlikeActs, AlikeGoesOn, Answer, ap, AreAlike, Bool, Bytes, bytes_eq, Do, false, Format, gives, History, if◌then◌else◌, inl, inr, IsFree, length, List, Makes, Meaning, most_steps, nat_lt, present, Redo, redone, refl, refuses, Runs, subst, sym, true, Undo, undone, ℕ}

-- the history with this number of the text that was present before
abbrev after_at : History → ℕ → History
after_at h b = record h { before = b }

-- the same answer, and histories that are alike
abbrev Both : Answer × History → Answer × History → Type 0
Both end other = (end.0 ≡ other.0) × AreAlike end.1 other.1

both_ways : (test : Bool) (a b c d : Answer × History) → Both a c → Both b d → Both (if test then a else b) (if test then c else d)
both_ways true a b c d first second = first
both_ways false a b c d first second = second

module _ (h : History) (b : ℕ) where
  moved_alike : (same : Bool) (cursor : ℕ) → AreAlike (if same then h else record h { cursor = cursor; before = h.cursor }) (if same then after_at h b else record (after_at h b) { cursor = cursor; before = h.cursor })
  moved_alike true cursor = refl
  moved_alike false cursor = refl

  meaning_alike : (note : Bytes) (m : Meaning) → Both (after_meaning note h m) (after_meaning note (after_at h b) m)
  meaning_alike note (gives text printed) = both_ways (bytes_eq text (present h)) _ _ _ _ (refl, refl) (both_ways (nat_lt h.cursor most_steps) _ _ _ _ (refl, refl) (refl, refl))
  meaning_alike note (refuses refusal) = (refl, refl)

  undone_alike : (n : ℕ) → Both (undone n h) (undone n (after_at h b))
  undone_alike n = both_ways (nat_lt h.cursor n) _ _ _ _ (refl, refl) (refl, moved_alike (h.cursor - n == h.cursor) (h.cursor - n))

  redone_alike : (n : ℕ) → Both (redone n h) (redone n (after_at h b))
  redone_alike n = both_ways (nat_lt (h.cursor + n) (length h.texts)) _ _ _ _ (refl, moved_alike (h.cursor + n == h.cursor) (h.cursor + n)) (refl, refl)

-- ---- one action

-- what an action leaves of the other history
abbrev Next : (History → Type 0) → History → Type 0
Next Leaves after = (other : History) × Leaves other × AreAlike after other

-- the end that the other history has
ended : (answer : Answer) (after : History) (end other : Answer × History) → (answer, after) ≡ end → Both end other → Next (λ z. (answer, z) ≡ other) after
ended answer after end other led both =
    (other.1, ap (λ (a : Answer). (a, other.1)) (ap (λ (z : Answer × History). z.0) led ∙ both.0), subst (λ (z : Answer × History). AreAlike z.1 other.1) (sym led) both.1)

makes_alike : (action : Action) (note : Bytes) (h after : History) (b : ℕ) (answer : Answer) → Makes action note h answer after → Next (Makes action note (after_at h b) answer) after
makes_alike (Do command target) note h after b answer (m, means, led) = let next = ended answer after _ _ led (meaning_alike h b note m) in (next.0, (m, means, next.1), next.2)
makes_alike Format note h after b answer (m, formats, led) = let next = ended answer after _ _ led (meaning_alike h b note m) in (next.0, (m, formats, next.1), next.2)
makes_alike (Undo n) note h after b answer led = ended answer after _ _ led (undone_alike h b n)
makes_alike (Redo n) note h after b answer led = ended answer after _ _ led (redone_alike h b n)

free_alike : (action : Action) (h : History) (b : ℕ) → IsFree action (after_at h b) → IsFree action h
free_alike (Do command target) h b free = free
free_alike Format h b free = free
free_alike (Undo n) h b free = free
free_alike (Redo n) h b free = free

acts_alike : (action : Action) (note : Bytes) (h after : History) (b : ℕ) (answer : Answer) → Acts action note h answer after → Next (Acts action note (after_at h b) answer) after
acts_alike action note h after b answer (inl (long, led)) = let next = ended answer after _ (_, after_at h b) led (refl, refl) in (next.0, inl (long, next.1), next.2)
acts_alike action note h after b answer (inr (short, inl makes)) = let next = makes_alike action note h after b answer makes in (next.0, inr (short, inl next.1), next.2)
acts_alike action note h after b answer (inr (short, inr (takes, memory, same))) =
    (after_at h b, inr (short, inr ((λ free. takes (free_alike action h b free)), memory, refl)), ap (λ (z : History). after_at z b) (sym same))

pub alike_acts : AlikeActs
alike_acts h g after action note answer alike acts = subst (λ (z : History). Next (Acts action note z answer) after) (sym alike) (acts_alike action note h after g.before answer acts)

-- ---- many

runs_alike : (actions : List Action) (answers : List Answer) (h after : History) (b : ℕ) → Runs h actions answers after → Next (Runs (after_at h b) actions answers) after
runs_alike [] [] h after b run = (after_at h b, refl, ap (λ (z : History). after_at z b) (sym run))
runs_alike [] (x ∷ answers) h after b run = absurd run
runs_alike (a ∷ actions) [] h after b run = absurd run
runs_alike (a ∷ actions) (x ∷ answers) h after b (mid, acts, run) =
    let next = acts_alike a [] h mid b x acts in
    let rest = runs_alike actions answers mid after next.0.before run in
    (rest.0, (next.0, next.1, subst (λ (z : History). Runs z actions answers rest.0) (sym next.2) rest.1), rest.2)

pub alike_goes_on : AlikeGoesOn
alike_goes_on h g after actions answers alike run = subst (λ (z : History). Next (Runs z actions answers) after) (sym alike) (runs_alike actions answers h after g.before run)
