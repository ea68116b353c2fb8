-- Reading several things in a loop.
use Rattle.bz_journal_format.proofs.Words.{[], ◌++◌, ◌+◌, ◌-◌, ◌<◌, ◌>>=◌, ◌∙◌, ◌∷◌, ◌≡◌, ◌≤◌, ap, append-nil, append_assoc, arith, IsUnread, List, None, Option, Reader, refl, repeated, Some, suc, sym, Unread, Unread as u, ℕ}

-- what was read before, and what is still read
abbrev pub with_front : {X : Type 0} → List X → Option (List X × List ℕ) → Option (List X × List ℕ)
with_front front read = read >>= λ x. Some (front ++ x.0, x.1)

regroup : {X : Type 0} (front : List X) (x : X) (read : Option (List X × List ℕ)) → with_front front (read >>= λ y. Some (x ∷ y.0, y.1)) ≡ with_front (front ++ x ∷ []) read
regroup front x None = refl
regroup {X = X} front x (Some y) = ap (λ (xs : List X). Some (xs, y.1)) (sym (append_assoc front (x ∷ []) y.0))

module _ {X : Type 0} (go : Reader X) (front : List X) (count i : ℕ) (s : List ℕ) (total : Option (List X × List ℕ)) where
  pub goes_on : (x : X) (rest : List ℕ) → i < count → go s ≡ Some (x, rest) → with_front front (repeated go (count - i) s) ≡ total → with_front (front ++ x ∷ []) (repeated go (count - (i + 1)) rest) ≡ total
  unfolding repeated
  goes_on x rest lt e so_far =
      let k : count - i ≡ suc (count - (i + 1)) = omega arith in
      let one : with_front front (repeated go (count - i) s) ≡ with_front (front ++ x ∷ []) (repeated go (count - (i + 1)) rest) = rw (k, e) (regroup front x (repeated go (count - (i + 1)) rest)) in
      sym one ∙ so_far

  pub halts : (e : Unread) → i < count → IsUnread e (go s) → with_front front (repeated go (count - i) s) ≡ total → IsUnread e total
  unfolding repeated
  halts u.Memory lt e so_far = tt
  halts u.Damaged lt e so_far =
      let k : count - i ≡ suc (count - (i + 1)) = omega arith in
      let one : with_front front (repeated go (count - i) s) ≡ None = rw (k, e) refl in
      sym so_far ∙ one

  pub is_done : count ≤ i → with_front front (repeated go (count - i) s) ≡ total → total ≡ Some (front, s)
  unfolding repeated
  is_done le so_far =
      let k : count - i ≡ 0 = omega arith in
      let one : with_front front (repeated go (count - i) s) ≡ Some (front, s) = rw k (ap (λ (xs : List X). Some (xs, s)) (append-nil front)) in
      sym so_far ∙ one
