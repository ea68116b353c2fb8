-- Items with separators between them and a closing token after them: their hosts.
use Rattle.bz_hosts.proofs.Words.{[], ◌++◌, ◌+◌, ◌<◌, ◌∙◌, ◌∷◌, ◌≡◌, AllByRecursion, ap, arith, Bool, false, host, hosts_from, is_item_part, is_one_of, is_word_class, Leaf, List, map, measured, Node', Part, Part as p, refl, Region, sizes, subst, suc, sym, Terminal, true, ℕ}
use Rattle.bz_hosts.proofs.{Around.AllInside, Around.all_wider, InnerParts.inner_kind, Parts.size, Parts.measured_part}

-- a node inside a line, a name, a number or a string
abbrev pub IsItem : Part → Type 0
IsItem (p.Leaf l) = is_word_class l.class ≡ true
IsItem (Node' kind n r) = inner_kind kind ≡ true

-- a token that is no item; whether it is a separator
abbrev pub IsMark : List Terminal → Bool → Part → Type 0
IsMark separators b (p.Leaf l) = (is_word_class l.class ≡ false) × (is_one_of separators l ≡ b)
IsMark separators b (Node' kind n r) = ⊥

abbrev pub Alternating : List Terminal → List Part → Type 0
Alternating separators [] = ⊥
Alternating separators (z ∷ []) = IsMark separators false z
Alternating separators (x ∷ z ∷ []) = IsItem x × IsMark separators false z
Alternating separators (x ∷ y ∷ z ∷ xs) = IsItem x × IsMark separators true y × Alternating separators (z ∷ xs)

item_part : (x : Part) → IsItem x → is_item_part x ≡ true
item_part (p.Leaf l) h = h
item_part (Node' kind n r) h = refl

module _ (separators : List Terminal) (n : ℕ) where
  pub hosts_closed : (z : Part) → IsMark separators false z → hosts_from separators n (map measured (z ∷ [])) ≡ []
  hosts_closed (p.Leaf l) h = rw h.0 refl
  hosts_closed (Node' kind s r) h = absurd h

  pub hosts_last : (x : Part) (l : Leaf) → IsItem x → IsMark separators false (p.Leaf l) →
      hosts_from separators n (map measured (x ∷ p.Leaf l ∷ [])) ≡ host n (n + size x) (n + size x) ∷ ((measured x).inside n ++ [])
  hosts_last x l i h = rw (measured_part x, item_part x i, h.1, h.0) refl

  pub hosts_more : (x : Part) (l : Leaf) (xs : List Part) → IsItem x → IsMark separators true (p.Leaf l) →
      hosts_from separators n (map measured (x ∷ p.Leaf l ∷ xs)) ≡ host n (n + size x) (suc (n + size x)) ∷ ((measured x).inside n ++ hosts_from separators (suc (n + size x)) (map measured xs))
  hosts_more x l xs i h =
      let e : n + size x + 1 ≡ suc (n + size x) = omega arith in
      let first : hosts_from separators n (map measured (x ∷ p.Leaf l ∷ xs)) ≡ host n (n + size x) (suc (n + size x)) ∷ ((measured x).inside n ++ hosts_from separators (n + size x + 1) (map measured xs)) = rw (measured_part x, item_part x i, h.1, h.0) refl in
      first ∙ ap (λ z. host n (n + size x) (suc (n + size x)) ∷ ((measured x).inside n ++ hosts_from separators z (map measured xs))) e

-- ---- regions are where the parts are

-- the regions in a part that has a leaf
pub record Regions (x : Part) : Type 0 where
  pub some : 0 < size x
  pub within : (n : ℕ) → AllInside n (n + size x) ((measured x).inside n)

pub inside_joined : (lo up : ℕ) (rs rs' : List Region) → AllInside lo up rs → AllInside lo up rs' → AllInside lo up (rs ++ rs')
inside_joined lo up [] rs' h i = i
inside_joined lo up (r ∷ rs) rs' h i = (h.0, inside_joined lo up rs rs' h.1 i)

pub hosts_inside : (separators : List Terminal) (n : ℕ) (xs : List Part) → Alternating separators xs → AllByRecursion Regions xs → AllInside n (n + sizes (map measured xs)) (hosts_from separators n (map measured xs))
hosts_inside separators n [] a h = absurd a
hosts_inside separators n (z ∷ []) a h = subst (AllInside n (n + sizes (map measured (z ∷ [])))) (sym (hosts_closed separators n z a)) tt
hosts_inside separators n (x ∷ Node' kind m r ∷ []) a h = absurd a.1
hosts_inside separators n (x ∷ Node' kind m r ∷ z ∷ xs) a h = absurd a.1
hosts_inside separators n (x ∷ p.Leaf l ∷ []) a h =
    let up : ℕ = n + sizes (map measured (x ∷ p.Leaf l ∷ [])) in
    let some = h.0.some in
    subst (AllInside n up) (sym (hosts_last separators n x l a.0 a.1)) (
      (omega arith, omega arith, omega arith, omega arith),
      inside_joined n up ((measured x).inside n) [] (all_wider n (n + size x) n up (omega arith) (omega arith) ((measured x).inside n) (h.0.within n)) tt,
    )
hosts_inside separators n (x ∷ p.Leaf l ∷ z ∷ xs) a h =
    let up : ℕ = n + sizes (map measured (x ∷ p.Leaf l ∷ z ∷ xs)) in
    let b : ℕ = suc (n + size x) in
    let some = h.0.some in
    let some' = h.1.1.0.some in
    let rest : AllInside b (b + sizes (map measured (z ∷ xs))) (hosts_from separators b (map measured (z ∷ xs))) = hosts_inside separators b (z ∷ xs) a.2 h.1.1 in
    subst (AllInside n up) (sym (hosts_more separators n x l (z ∷ xs) a.0 a.1)) (
      (omega arith, omega arith, omega arith, omega arith),
      inside_joined n up ((measured x).inside n) (hosts_from separators b (map measured (z ∷ xs)))
          (all_wider n (n + size x) n up (omega arith) (omega arith) ((measured x).inside n) (h.0.within n))
          (all_wider b (b + sizes (map measured (z ∷ xs))) n up (omega arith) (omega arith) (hosts_from separators b (map measured (z ∷ xs))) rest),
    )
