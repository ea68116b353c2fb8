-- Why several parts of a run are cut, one after the other.
use Rattle.bz_buildozer.proofs.Words.{◌∙◌, ◌≡◌, ◌≢◌, ◌⊎◌, AreCutBy, arith, Bool, Counts, Cut, Cut as c, CutsFiles, false, first_cut, inl, inr, List, refl, rises_more, subst, sym, ℕ}

pub cut_more : (cut later : Cut) (r s t f g h : ℕ) → AreCutBy cut r s f g → AreCutBy later s t g h → Counts r s → Counts s t → Counts f g → Counts g h
    → AreCutBy (first_cut cut later) r t f h
cut_more c.Whole later r s t f g h first more read_faults read_faults' files files' =
    subst (λ (n : ℕ). AreCutBy later n t f h) first.0 (subst (λ (n : ℕ). AreCutBy later s t n h) first.1 more)
cut_more c.Memory later r s t f g h first more read_faults read_faults' files files' = tt
cut_more c.Read later r s t f g h first more read_faults read_faults' files files' = rises_more r s t read_faults.grows first read_faults'
cut_more c.Write later r s t f g h first more read_faults read_faults' files files' = first
cut_more c.Files later r s t f g h first more read_faults read_faults' files files' = rises_more f g h files.grows first files'

pub whole_before : (cut later : Cut) → first_cut cut later ≡ c.Whole → cut ≡ c.Whole
whole_before c.Whole later is = refl
whole_before _ later is = is

pub whole_after : (cut later : Cut) → first_cut cut later ≡ c.Whole → later ≡ c.Whole
whole_after c.Whole later is = is
whole_after _ later is = absurd (cc is)

pub files_cut : (cut later : Cut) (f g h : ℕ) → CutsFiles cut f g → CutsFiles later g h → Counts f g → Counts g h → CutsFiles (first_cut cut later) f h
files_cut cut later f g h (inl whole) more counts counts' = rw (whole.0) (subst (λ (n : ℕ). CutsFiles later n h) whole.1 more)
files_cut cut later f g h (inr (inl memory)) more counts counts' = rw (memory) (inr (inl refl))
files_cut cut later f g h (inr (inr files)) more counts counts' = rw (files.0) (inr (inr (refl, rises_more f g h counts.grows files.1 counts')))

-- What is done on files reads nothing of standard input.
works_cut : (cut : Cut) (r f g : ℕ) → CutsFiles cut f g → AreCutBy cut r r f g
works_cut cut r f g (inl whole) = subst (λ (it : Cut). AreCutBy it r r f g) (sym whole.0) (refl, whole.1)
works_cut cut r f g (inr (inl memory)) = subst (λ (it : Cut). AreCutBy it r r f g) (sym memory) tt
works_cut cut r f g (inr (inr files)) = subst (λ (it : Cut). AreCutBy it r r f g) (sym files.0) files.1

pub cut_after : (cut later result : Cut) (r s f g h : ℕ) → result ≡ first_cut cut later → CutsFiles later g h → AreCutBy cut r s f g → Counts r s
    → Counts f g → Counts g h → AreCutBy result r s f h
cut_after cut later result r s f g h is works first read_faults counts counts' =
    subst (λ (it : Cut). AreCutBy it r s f h) (sym is)
    (cut_more cut later r s s f g h first (works_cut later s g h works) read_faults (record { grows = omega arith; rises = inl refl }) counts counts')

-- ---- cuts that are not for standard input

pub neither_read : (cut later : Cut) → cut ≢ c.Read → later ≢ c.Read → first_cut cut later ≢ c.Read
neither_read c.Whole later first more = more
neither_read _ later first more = first

pub works_unread : (cut : Cut) (f g : ℕ) → CutsFiles cut f g → cut ≢ c.Read
works_unread cut f g (inl whole) = λ is. absurd (let e = sym whole.0 ∙ is in cc)
works_unread cut f g (inr (inl memory)) = λ is. absurd (let e = sym memory ∙ is in cc)
works_unread cut f g (inr (inr files)) = λ is. absurd (let e = sym files.0 ∙ is in cc)

pub both_whole : (first later result : Cut) → result ≡ first_cut first later → result ≡ c.Whole → (first ≡ c.Whole) × (later ≡ c.Whole)
both_whole first later result is whole = (whole_before first later (sym is ∙ whole), whole_after first later (sym is ∙ whole))

-- what holds for a name holds for one that is the same
pub by_name : (A : Type 0) (journals : Bool) (one other wanted : List ℕ) → one ≡ other → A ⊎ ((journals ≡ false) × (other ≡ wanted))
    → A ⊎ ((journals ≡ false) × (one ≡ wanted))
by_name A journals one other wanted same (inl held) = inl held
by_name A journals one other wanted same (inr (plain, is)) = inr (plain, same ∙ is)

-- The steps are cut by standard input, where the run is.
pub read_before : (result why : Cut) (A : Type 0) → (result ≡ why) ⊎ ((why ≡ c.Whole) × ((result ≡ c.Memory) ⊎ (result ≡ c.Write) ⊎ ((result ≡ c.Files) × A)))
    → result ≡ c.Read → why ≡ c.Read
read_before result why A (inl same) is = sym same ∙ is
read_before result why A (inr (whole, inl memory)) is = absurd (let e = sym memory ∙ is in cc)
read_before result why A (inr (whole, inr (inl write))) is = absurd (let e = sym write ∙ is in cc)
read_before result why A (inr (whole, inr (inr files))) is = absurd (let e = sym files.0 ∙ is in cc)
