-- The longest front of a text that a machine takes.
use Rattle.std.specs.Prelude.{◌+◌, ℕ, suc, Bool, true, false, List, [], ◌∷◌, Option, Some, None}

abbrev pub and_next : {A B : Type 0} → Option A → (A → Option B) → Option B
and_next None f = None
and_next (Some x) f = f x

-- the state after a text, or none
abbrev pub after : {S : Type 0} → (S → ℕ → Option S) → S → List ℕ → Option S
after step q [] = Some q
after step q (c ∷ s) = and_next (step q c) (λ r. after step r s)

abbrev pub holds : {S : Type 0} → (S → Bool) → Option S → Bool
holds final None = false
holds final (Some q) = final q

abbrev pub takes : {S : Type 0} → (S → ℕ → Option S) → (S → Bool) → S → List ℕ → Bool
takes step final q s = holds final (after step q s)

-- the empty front, where nothing longer is found
abbrev pub or_here : {S : Type 0} → Bool → S → Option (S × ℕ) → Option (S × ℕ)
or_here b q (Some x) = Some x
or_here true q None = Some (q, 0)
or_here false q None = None

abbrev pub one_longer : {S : Type 0} → Option (S × ℕ) → Option (S × ℕ)
one_longer None = None
one_longer (Some x) = Some (x.0, suc (x.1))

-- the state after the longest front that is taken, and its length
abbrev pub longest : {S : Type 0} → (S → ℕ → Option S) → (S → Bool) → S → List ℕ → Option (S × ℕ)
longest step final q [] = or_here (final q) q None
longest step final q (c ∷ s) = or_here (final q) q (and_next (step q c) (λ r. one_longer (longest step final r s)))

-- the best so far, or what is found from the i-th byte on
abbrev pub or_found : {S : Type 0} → Option (S × ℕ) → ℕ → Option (S × ℕ) → Option (S × ℕ)
or_found best i None = best
or_found best i (Some x) = Some (x.0, i + x.1)

abbrev pub or_best : {S : Type 0} → Bool → S → ℕ → Option (S × ℕ) → Option (S × ℕ)
or_best true q i best = Some (q, i)
or_best false q i best = best
