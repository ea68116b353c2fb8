-- A long text is cut before a character.
use Rattle.bz_buildozer.proofs.Words.{⊎_elim, ◌<◌, ◌∙◌, ◌≡◌, ◌≤◌, ap, arith, Bytes, cases_lt, cond, false, IsCharBoundary, le-leb, le-ltb, length, lt-leb, lt-ltb, refl, shown_package, subst, suc, sym, take, true, zero, ℕ}
use Rattle.std.specs.{Fmt.is_char_start, Fmt.Cut.floor_char_boundary}

starts : (b : ℕ) → (128 ≤ b → 192 ≤ b) → is_char_start b ≡ true
starts b h = ⊎_elim (λ low. rw (lt-ltb b 128 low) refl) (λ high. rw (le-ltb b 128 high, le-leb 192 b (h high)) refl) (cases_lt b 128)

continues : (b : ℕ) → ((128 ≤ b → 192 ≤ b) → ⊥) → is_char_start b ≡ false
continues b h = ⊎_elim (λ low. absurd (h (λ high. omega (arith, low, high))))
    (λ high. ⊎_elim (λ mid. rw (le-ltb b 128 high, lt-leb 192 b mid) refl) (λ top. absurd (h (λ _. top))) (cases_lt b 192)) (cases_lt b 128)

-- the last place of a character up to a number
last_before : (bs : Bytes) (i kept : ℕ) → i < length bs → kept ≤ i → IsCharBoundary bs kept → ((j : ℕ) → kept < j → j ≤ i → IsCharBoundary bs j → ⊥)
    → floor_char_boundary bs i ≡ kept
unfolding floor_char_boundary
last_before bs zero kept within bound at last = omega (arith, bound)
last_before bs (suc i) kept within bound at last = ⊎_elim
    (λ below. ap (λ t. cond t (suc i) (floor_char_boundary bs i)) (continues _ (λ h. last (suc i) below (omega arith) (omega (arith, within), λ _. h)))
    ∙ last_before bs i kept (omega (arith, within)) (omega (arith, below)) at (λ j p q. last j p (omega (arith, q))))
    (λ above. let same : kept ≡ suc i = omega (arith, bound, above) in
    ap (λ t. cond t (suc i) (floor_char_boundary bs i)) (starts _ ((subst (IsCharBoundary bs) same at).1 within)) ∙ sym same)
    (cases_lt kept (suc i))

pub path_cut : (path : Bytes) (end : ℕ) → 200 < length path → end ≤ 200 → IsCharBoundary path end
    → ((j : ℕ) → end < j → j ≤ 200 → IsCharBoundary path j → ⊥) → take end path ≡ shown_package path
path_cut path end long bound at last = rw (lt-leb (length path) 200 long, last_before path 200 end long bound at last) refl
