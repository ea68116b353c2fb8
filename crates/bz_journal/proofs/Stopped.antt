-- What is resumed where a pair was stopped while an action was kept.
use Rattle.bz_journal.proofs.Words.{◌∙◌, ◌≡◌, ◌⊎◌, ap, Bool, Bytes, bytes_eq, bytes_eq-Decides, Edit, Err, false, Folder, get, History, Holds, if◌then◌else◌, inl, inr, IsKnownSession, IsRecordedBy, Journal, journal_name, List, None, Ok, Option, present, refl, Result, ResumeFault, ResumeFault as f, ResumesAt, SessionState, Some, stands, StoppedIsResumed, subst, sym, text_at, true, ℕ}

some_same : {X : Type 0} (a b : X) → Some a ≡ Some b → a ≡ b
some_same a b e = cc

none_some : {X : Type 0} (a : X) → ◌≡◌ {A = Option X} None (Some a) → ⊥
none_some a e = absurd (cc)

by_tests : (here back : Bool) (h : History) (text : Bytes) (at : ℕ) → (here ≡ true → text ≡ text_at h h.cursor) → (back ≡ true → text ≡ text_at h h.before)
    → (if here then Some h.cursor else (if back then Some h.before else None)) ≡ Some at → text_at h at ≡ text
by_tests true back h text at now before e = ap (text_at h) (sym (some_same h.cursor at e)) ∙ sym (now refl)
by_tests false true h text at now before e = ap (text_at h) (sym (some_same h.before at e)) ∙ sym (before refl)
by_tests false false h text at now before e = absurd (none_some at e)

-- where a history matches a text it has that text
there : (h : History) (text : Bytes) (at : ℕ) → stands h text ≡ Some at → text_at h at ≡ text
there h text at e =
    by_tests (bytes_eq text (text_at h h.cursor)) (bytes_eq text (text_at h h.before)) h text at (bytes_eq-Decides text (text_at h h.cursor)).0 (bytes_eq-Decides text (text_at h h.before)).0 e

resumes_at : (recorded : History) (es : List (List Edit)) (current : Bytes) (texts : List Bytes) (text : Bytes) (place : ℕ) (result : Result SessionState ResumeFault)
    → recorded.«package» ≡ current → texts ≡ recorded.texts → stands recorded text ≡ Some place → IsKnownSession recorded es text result → ResumesAt current texts text result
resumes_at recorded es current texts text place (Ok s) own are standing known = (
  ap (λ (h : History). h.«package») known.history ∙ own,
  ap (λ (h : History). h.texts) known.history ∙ sym are,
  ap present known.history ∙ there recorded text known.at known.stands_there,
)
resumes_at recorded es current texts text place (Err f.Memory) own are standing known = tt
resumes_at recorded es current texts text place (Err f.Stale) own are standing known = none_some place (sym known ∙ standing)
resumes_at recorded es current texts text place (Err f.Damaged) own are standing known = known
resumes_at recorded es current texts text place (Err f.Version) own are standing known = known

-- what is resumed of a file and a journal at some moment
module _ (file : Bytes) (now : Folder) (text bytes : Bytes) (result : Result SessionState ResumeFault) (is : get now file ≡ Some text) (journal : get now (journal_name file) ≡ Some bytes)
    (known : (recorded : History) (es : List (List Edit)) → Journal bytes recorded es → IsKnownSession recorded es text result) where
  by_history : (current : Bytes) (texts : List Bytes) → IsRecordedBy now file current text texts → ResumesAt current texts text result
  by_history current texts (inl none) = absurd (none_some bytes (sym none.0 ∙ journal))
  by_history current texts (inr (own, recorded, es, place, there_is, stored, called, are, standing)) =
      resumes_at recorded es current texts text place result called are standing (known recorded es (subst (λ (b : Bytes). Journal b recorded es) (some_same own bytes (sym there_is ∙ journal)) stored))

  held : (current other : Bytes) (texts : List Bytes) → Holds now file current other texts → ResumesAt current texts text result
  held current other texts holds =
      by_history current texts (subst (λ (t : Bytes). IsRecordedBy now file current t texts) (some_same other text (sym holds.holds ∙ is)) holds.history)

  by_holds : (h after : History)
      → Holds now file h.«package» (present h) h.texts ⊎ (Holds now file h.«package» (present h) after.texts ⊎ Holds now file h.«package» (present after) after.texts)
      → ResumesAt h.«package» h.texts text result ⊎ ResumesAt h.«package» after.texts text result
  by_holds h after (inl before) = inl (held h.«package» (present h) h.texts before)
  by_holds h after (inr (inl between)) = inr (held h.«package» (present h) after.texts between)
  by_holds h after (inr (inr following)) = inr (held h.«package» (present after) after.texts following)

pub stopped_is_resumed : StoppedIsResumed
stopped_is_resumed file h after old now text bytes result survives is journal known = by_holds file now text bytes result is journal known h after survives.holds
