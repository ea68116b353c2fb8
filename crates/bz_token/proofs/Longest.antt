-- The longest front that a machine takes is found.
use Rattle.bz_token.proofs.Words.{[], ◌++◌, ◌+◌, ◌-◌, ◌<◌, ◌∙◌, ◌∷◌, ◌≡◌, ◌≤◌, ◌⊎◌, add-one, after, and_next, ap, arith, Bool, both_ways, cases_lt, drop, drop-cons, drop_of_length-le, false, get_or, inl, inr, length, List, longest, None, one_longer, Option, or_best, or_found, or_here, refl, Some, subst, suc, sym, take, takes, true, zero, ℕ}

-- a front that is taken, and no longer one is
pub record IsLongest (S : Type 0) (step : S → ℕ → Option S) (final : S → Bool) (q : S) (s : List ℕ) (x : S × ℕ) : Type 0 where
  pub within : x.1 ≤ length s
  pub taken : after step q (take (x.1) s) ≡ Some (x.0)
  pub ended : final (x.0) ≡ true
  pub most : (a b : List ℕ) → a ++ b ≡ s → takes step final q a ≡ true → length a ≤ x.1

abbrev pub Found : (S : Type 0) (step : S → ℕ → Option S) (final : S → Bool) (q : S) → List ℕ → Option (S × ℕ) → Type 0
Found S step final q s None = (a b : List ℕ) → a ++ b ≡ s → takes step final q a ≡ false
Found S step final q s (Some x) = IsLongest S step final q s x

front_nil : (a b : List ℕ) → a ++ b ≡ [] → a ≡ []
front_nil [] b e = refl
front_nil (c ∷ a) b e = absurd cc

front_cases : (c : ℕ) (s a b : List ℕ) → a ++ b ≡ c ∷ s → (a ≡ []) ⊎ ((d : List ℕ) × (a ≡ c ∷ d) × (d ++ b ≡ s))
front_cases c s [] b e = inl refl
front_cases c s (x ∷ d) b e = let i : x ≡ c = cc in inr (d, rw i refl, cc)

module _ (S : Type 0) (step : S → ℕ → Option S) (final : S → Bool) where
  found_nil : (q : S) (b : Bool) → final q ≡ b → Found S step final q [] (or_here b q None)
  found_nil q true e = record { within = omega arith; taken = refl; ended = e; most = λ a b h t. rw (front_nil a b h) (omega arith) }
  found_nil q false e = λ a b h. rw (front_nil a b h) e

  -- after a byte that no state takes
  found_stuck : (q : S) (c : ℕ) (s : List ℕ) (b : Bool) → step q c ≡ None → final q ≡ b → Found S step final q (c ∷ s) (or_here b q None)
  found_stuck q c s true n e = record {
    within = omega arith;
    taken = refl;
    ended = e;
    most = λ a b h t. elim (front_cases c s a b h) [
      | inl z ↦ rw z (omega arith)
      | inr w ↦ absurd (both_ways (takes step final q (c ∷ w.0)) (rw n refl) (rw w.1 at t))
    ];
  }
  found_stuck q c s false n e = λ a b h. elim (front_cases c s a b h) [ inl z ↦ rw z e | inr w ↦ rw (w.1, n) refl ]

  found_more : (q r : S) (c : ℕ) (s : List ℕ) (b : Bool) (o : Option (S × ℕ)) → step q c ≡ Some r → final q ≡ b → Found S step final r s o → Found S step final q (c ∷ s) (or_here b q (one_longer o))
  found_more q r c s b (Some x) n e h = record {
    within = let k = h.within in omega arith;
    taken = rw n h.taken;
    ended = h.ended;
    most = λ a b k t. elim (front_cases c s a b k) [
      | inl z ↦ rw z (omega arith)
      | inr w ↦ rw w.1 (let u : takes step final r w.0 ≡ true = rw n at (rw w.1 at t) in omega (arith, h.most w.0 b w.2 u))
    ];
  }
  found_more q r c s true None n e h = record {
    within = omega arith;
    taken = refl;
    ended = e;
    most = λ a b k t. elim (front_cases c s a b k) [
      | inl z ↦ rw z (omega arith)
      | inr w ↦ absurd (both_ways (takes step final r w.0) (h w.0 b w.2) (rw n at (rw w.1 at t)))
    ];
  }
  found_more q r c s false None n e h = λ a b k. elim (front_cases c s a b k) [ inl z ↦ rw z e | inr w ↦ rw (w.1, n) (h w.0 b w.2) ]

  by_step : (q : S) (c : ℕ) (s : List ℕ) (o : Option S) → step q c ≡ o → ((r : S) → Found S step final r s (longest step final r s)) → Found S step final q (c ∷ s) (or_here (final q) q (and_next o (λ r. one_longer (longest step final r s))))
  by_step q c s None e f = found_stuck q c s (final q) e refl
  by_step q c s (Some r) e f = found_more q r c s (final q) (longest step final r s) e refl (f r)

  pub found : (q : S) (s : List ℕ) → Found S step final q s (longest step final q s)
  found q [] = found_nil q (final q) refl
  found q (c ∷ s) = by_step q c s (step q c) refl (λ r. found r s)

-- ---- byte by byte

more : {S : Type 0} (i : ℕ) (o : Option (S × ℕ)) (b : Bool) (q : S) (best : Option (S × ℕ)) → or_found best i (or_here b q (one_longer o)) ≡ or_found (or_best b q i best) (i + 1) o
more i (Some x) b q best = let e : i + suc (x.1) ≡ i + 1 + x.1 = omega arith in rw e refl
more i None true q best = let e : i + 0 ≡ i = omega arith in rw e refl
more i None false q best = refl

pub goes_on : {S : Type 0} (step : S → ℕ → Option S) (final : S → Bool) (q r : S) (i : ℕ) (s : List ℕ) (best : Option (S × ℕ)) → i < length s → step q (get_or s i 0) ≡ Some r
    → or_found best i (longest step final q (drop i s)) ≡ or_found (or_best (final q) q i best) (i + 1) (longest step final r (drop (i + 1) s))
goes_on step final q r i s best lt e =
    let one : or_found best i (longest step final q (drop i s)) ≡ or_found (or_best (final q) q i best) (i + 1) (longest step final r (drop (suc i) s)) =
    rw (drop-cons s i 0, e) (more i (longest step final r (drop (suc i) s)) (final q) q best) in
    one ∙ ap (λ (j : ℕ). or_found (or_best (final q) q i best) (i + 1) (longest step final r (drop j s))) (sym (add-one i))

here_only : {S : Type 0} (b : Bool) (q : S) (i : ℕ) (best : Option (S × ℕ)) → or_found best i (or_here b q None) ≡ or_best b q i best
here_only true q i best = let e : i + 0 ≡ i = omega arith in rw e refl
here_only false q i best = refl

pub sticks : {S : Type 0} (step : S → ℕ → Option S) (final : S → Bool) (q : S) (i : ℕ) (s : List ℕ) (best : Option (S × ℕ)) → i < length s → step q (get_or s i 0) ≡ None
    → or_found best i (longest step final q (drop i s)) ≡ or_best (final q) q i best
sticks step final q i s best lt e = rw (drop-cons s i 0, e) (here_only (final q) q i best)

pub ends_here : {S : Type 0} (step : S → ℕ → Option S) (final : S → Bool) (q : S) (i : ℕ) (s : List ℕ) (best : Option (S × ℕ)) → length s ≤ i
    → or_found best i (longest step final q (drop i s)) ≡ or_best (final q) q i best
ends_here step final q i s best le = rw drop_of_length-le (here_only (final q) q i best)

-- where a state may end, what was best before does not count
ended_best : {S : Type 0} (q : S) (i : ℕ) (o best other : Option (S × ℕ)) → or_found best i (or_here true q o) ≡ or_found other i (or_here true q o)
ended_best q i None best other = refl
ended_best q i (Some x) best other = refl

no_matter : {S : Type 0} (step : S → ℕ → Option S) (final : S → Bool) (q : S) (i j : ℕ) (s : List ℕ) (best : Option (S × ℕ)) (b : Bool) → final q ≡ b → or_found (or_best b q j best) i (longest step final q s) ≡ or_found best i (longest step final q s)
no_matter step final q i j [] best true e = rw e (ended_best q i None (Some (q, j)) best)
no_matter step final q i j (c ∷ s) best true e = rw e (ended_best q i (and_next (step q c) (λ r. one_longer (longest step final r s))) (Some (q, j)) best)
no_matter step final q i j s best false e = refl

-- bytes with which the state stays as it is
pub stays_more : {S : Type 0} (step : S → ℕ → Option S) (final : S → Bool) (q : S) (i m : ℕ) (s : List ℕ) (best : Option (S × ℕ)) → i + m ≤ length s → ((k : ℕ) → i ≤ k → k < i + m → step q (get_or s k 0) ≡ Some q)
    → or_found best i (longest step final q (drop i s)) ≡ or_found best (i + m) (longest step final q (drop (i + m) s))
stays_more step final q i zero s best le h = let e : i ≡ i + 0 = omega arith in ap (λ (j : ℕ). or_found best j (longest step final q (drop j s))) e
stays_more step final q i (suc m) s best le h =
    let lt : i < length s = omega arith in
    let e : i + 1 + m ≡ i + suc m = omega arith in
    goes_on step final q q i s best lt (h i (omega arith) (omega arith)) ∙
    no_matter step final q (i + 1) i (drop (i + 1) s) best (final q) refl ∙
    stays_more step final q (i + 1) m s best (omega arith) (λ k a b. h k (omega arith) (omega arith)) ∙
    ap (λ (j : ℕ). or_found best j (longest step final q (drop j s))) e

pub ran : {S : Type 0} (step : S → ℕ → Option S) (final : S → Bool) (q : S) (i j : ℕ) (s : List ℕ) (best : Option (S × ℕ)) → i ≤ j → j ≤ length s → ((k : ℕ) → i ≤ k → k < j → step q (get_or s k 0) ≡ Some q)
    → or_found best j (longest step final q (drop j s)) ≡ or_found best i (longest step final q (drop i s))
ran step final q i j s best le within h =
    let e : i + (j - i) ≡ j = omega arith in
    sym (stays_more step final q i (j - i) s best (omega (arith, e)) (λ k a b. h k a (omega (arith, b, e))) ∙ ap (λ (n : ℕ). or_found best n (longest step final q (drop n s))) e)

-- what holds of each number below one, and of that
pub one_further : (P : ℕ → Type 0) (i j : ℕ) → ((k : ℕ) → i ≤ k → k < j → P k) → P j → (k : ℕ) → i ≤ k → k < j + 1 → P k
one_further P i j h p k a b = elim (cases_lt k j) [
  | inl lt ↦ h k a lt
  | inr le ↦ let e : j ≡ k = omega arith in subst P e p
]
