-- The leaves that a text has from a place on, up to where no leaf is.
use Rattle.bz_lex.proofs.Words.{[], ◌<◌, ◌||◌, ◌∙◌, ◌∷◌, ◌≡◌, ◌≢◌, ◌≤◌, ◌⊎◌, After, after_front, ap, AreLeaves, arith, Bool, both_ways, Class, Class as c, false, Fresh, Front, front_leaf, inl, inr, Inside, IsFront, IsToken, Last, Leaf, List, May, next, NoLeaf, NoLeaves, Over, Place, refl, spell_leaves, Stand, subst, suc, sym, true, zero, ℕ}
use Rattle.bz_lex.proofs.{Deciding.Decided, Deciding.leaf_found, Lists.left, Lists.smaller, Lists.front_text, Lists.over_rest, Unique.one_leaf, Unique.not_over}

abbrev coming_by : (p : Place) (s : List ℕ) → Decided p s → (Place → List ℕ → List Leaf) → List Leaf
coming_by p s (inl w) more = front_leaf w.0 s ∷ more (next p (front_leaf w.0 s)) (after_front w.0 s)
coming_by p s (inr none) more = []

abbrev coming : ℕ → Place → List ℕ → List Leaf
coming zero p s = []
coming (suc n) p s = coming_by p s (leaf_found p s) (λ q t. coming n q t)

-- the leaves, one after the other, as long as one is there
unfoldable pub to_come : Place → List ℕ → List Leaf
to_come p s = coming (left p s) p s

pub less : (p : Place) (s : List ℕ) (f : Front) → IsFront p f s → left (next p (front_leaf f s)) (after_front f s) < left p s
less p s f w = subst (λ (t : List ℕ). left (next p (front_leaf f s)) (after_front f s) < left p t) (front_text f s w.within) (smaller p (front_leaf f s) (after_front f s) w.may)

by_same : (p : Place) (s : List ℕ) (d : Decided p s) (f g : Place → List ℕ → List Leaf) → ((q : Place) (t : List ℕ) → left q t < left p s → f q t ≡ g q t) → coming_by p s d f ≡ coming_by p s d g
by_same p s (inl w) f g h = ap (λ (ls : List Leaf). front_leaf w.0 s ∷ ls) (h (next p (front_leaf w.0 s)) (after_front w.0 s) (less p s w.0 w.1))
by_same p s (inr none) f g h = refl

none_left : (p : Place) (s : List ℕ) (d : Decided p s) (f : Place → List ℕ → List Leaf) → left p s ≤ 0 → coming_by p s d f ≡ []
none_left p s (inl w) f h = let k = less p s w.0 w.1 in absurd (omega arith)
none_left p s (inr none) f h = refl

coming_same : (n m : ℕ) (p : Place) (s : List ℕ) → left p s ≤ n → left p s ≤ m → coming n p s ≡ coming m p s
coming_same zero zero p s a b = refl
coming_same zero (suc m) p s a b = sym (none_left p s (leaf_found p s) (λ q t. coming m q t) (omega arith))
coming_same (suc n) zero p s a b = none_left p s (leaf_found p s) (λ q t. coming n q t) (omega arith)
coming_same (suc n) (suc m) p s a b = by_same p s (leaf_found p s) (λ q t. coming n q t) (λ q t. coming m q t) (λ q t lt. coming_same n m q t (omega arith) (omega arith))

by_left : (p : Place) (s : List ℕ) (d : Decided p s) → leaf_found p s ≡ d → to_come p s ≡ coming_by p s d to_come
unfolding to_come
by_left p s d e =
    coming_same (left p s) (suc (left p s)) p s (omega arith) (omega arith) ∙ ap (λ (x : Decided p s). coming_by p s x (λ q t. coming (left p s) q t)) e ∙
    by_same p s d (λ q t. coming (left p s) q t) to_come (λ q t lt. coming_same (left p s) (left q t) q t (omega arith) (omega arith))

module _ (p : Place) (s : List ℕ) where
  -- the leaf at hand, and those after it
  pub come_first : (f : Front) → IsFront p f s → to_come p s ≡ front_leaf f s ∷ to_come (next p (front_leaf f s)) (after_front f s)
  come_first f w = by_found (leaf_found p s) refl
    where
      by_found : (d : Decided p s) → leaf_found p s ≡ d → to_come p s ≡ front_leaf f s ∷ to_come (next p (front_leaf f s)) (after_front f s)
      by_found (inl x) e =
          let o = one_leaf p (front_leaf x.0 s) (front_leaf f s) (after_front x.0 s) (after_front f s) x.1.may w.may (front_text x.0 s x.1.within ∙ sym (front_text f s w.within)) in
          by_left p s (inl x) e ∙ ap (λ (l : Leaf). l ∷ to_come (next p l) (after_front x.0 s)) o.0 ∙ ap (λ (t : List ℕ). front_leaf f s ∷ to_come (next p (front_leaf f s)) t) o.1
      by_found (inr none) e = absurd (none (front_leaf f s) (after_front f s) w.may (front_text f s w.within))

  pub come_none : NoLeaf p s → to_come p s ≡ []
  come_none none = by_found (leaf_found p s) refl
    where
      by_found : (d : Decided p s) → leaf_found p s ≡ d → to_come p s ≡ []
      by_found (inl x) e = absurd (none (front_leaf x.0 s) (after_front x.0 s) x.1.may (front_text x.0 s x.1.within))
      by_found (inr n) e = by_left p s (inr n) e

-- ---- all leaves, or none

abbrev is_end : Class → Bool
is_end c.End = true
is_end _ = false

-- whether one of the leaves is the end
abbrev pub has_end : List Leaf → Bool
has_end [] = false
has_end (l ∷ ls) = is_end l.class || has_end ls

-- the leaves are there and spell the text
abbrev All : Place → List ℕ → List Leaf → Type 0
All p s ls = Stand (May IsToken) p ls × (spell_leaves ls ≡ s)

-- these are all leaves; or there are none, and none of these is the end
abbrev Comes : Place → List ℕ → List Leaf → Type 0
Comes p s ls = All p s ls ⊎ (((ms : List Leaf) → All p s ms → ⊥) × (has_end ls ≡ false))

end_over : (l : Leaf) (p : Place) → is_end l.class ≡ true → next p l ≡ Over
end_over l p h = by_class l.class h refl
  where
    by_class : (k : Class) → is_end k ≡ true → l.class ≡ k → next p l ≡ Over
    by_class c.End e is = rw is refl
    by_class c.Name e is = absurd (both_ways false refl e)
    by_class c.Keyword e is = absurd (both_ways false refl e)
    by_class c.Number e is = absurd (both_ways false refl e)
    by_class c.String e is = absurd (both_ways false refl e)
    by_class c.Mark e is = absurd (both_ways false refl e)
    by_class c.Newline e is = absurd (both_ways false refl e)

module _ (p : Place) (s : List ℕ) (f : Front) (w : IsFront p f s) where
  abbrev l : Leaf
  l = front_leaf f s

  abbrev t : List ℕ
  t = after_front f s

  tail_of : (ms : List Leaf) → All p s ms → (ns : List Leaf) × All (next p l) t ns
  tail_of [] a = absurd (not_over l t (subst (λ (q : Place). May IsToken q l t) a.0 w.may))
  tail_of (m ∷ ms) a =
      let o = one_leaf p l m t (spell_leaves ms) w.may a.0.0 (front_text f s w.within ∙ sym a.1) in
      (ms, (subst (λ (x : Leaf). Stand (May IsToken) (next p x) ms) (sym o.0) a.0.1, sym o.1))

  not_end : (b : Bool) → is_end l.class ≡ b → ((ns : List Leaf) → All (next p l) t ns → ⊥) → b ≡ false
  not_end false e none = refl
  not_end true e none = let over = end_over l p e in absurd (none [] (over, sym (over_rest p l t w.may over)))

  comes_more : (ls : List Leaf) → Comes (next p l) t ls → Comes p s (l ∷ ls)
  comes_more ls (inl a) = inl ((rw a.1 w.may, a.0), rw a.1 (front_text f s w.within))
  comes_more ls (inr a) = inr (λ ms b. let x = tail_of ms b in a.0 x.0 x.1, rw (not_end (is_end l.class) refl a.0, a.1) refl)

all_over : (s : List ℕ) → Comes Over s []
all_over [] = inl (refl, refl)
all_over (c ∷ s) = inr (none, refl)
  where
    none : (ms : List Leaf) → All Over (c ∷ s) ms → ⊥
    none [] a = let e : [] ≡ c ∷ s = a.1 in cc
    none (m ∷ ms) a = not_over m (spell_leaves ms) a.0.0

no_more : (p : Place) (s : List ℕ) → p ≢ Over → NoLeaf p s → (ms : List Leaf) → All p s ms → ⊥
no_more p s h none [] a = h a.0
no_more p s h none (m ∷ ms) a = none m (spell_leaves ms) a.0.0 a.1

by_place : (p : Place) (s : List ℕ) → NoLeaf p s → Comes p s []
by_place Fresh s none = inr (no_more Fresh s (λ e. cc) none, refl)
by_place After s none = inr (no_more After s (λ e. cc) none, refl)
by_place (Inside d) s none = inr (no_more (Inside d) s (λ e. cc) none, refl)
by_place Last s none = inr (no_more Last s (λ e. cc) none, refl)
by_place Over s none = all_over s

comes_by : (p : Place) (s : List ℕ) → Decided p s → ((q : Place) (t : List ℕ) → left q t < left p s → Comes q t (to_come q t)) → Comes p s (to_come p s)
comes_by p s (inl x) f =
    subst (λ (ls : List Leaf). Comes p s ls) (sym (come_first p s x.0 x.1)) (comes_more p s x.0 x.1 _ (f (next p (front_leaf x.0 s)) (after_front x.0 s) (less p s x.0 x.1)))
comes_by p s (inr none) f = subst (λ (ls : List Leaf). Comes p s ls) (sym (come_none p s none)) (by_place p s none)

comes : (n : ℕ) (p : Place) (s : List ℕ) → left p s < n → Comes p s (to_come p s)
comes zero p s h = absurd (omega arith)
comes (suc n) p s h = comes_by p s (leaf_found p s) (λ q t lt. comes n q t (omega arith))

-- A text has the leaves that come, or it has none and the end is not among them.
pub all_come : (text : List ℕ) → (AreLeaves (to_come Fresh text) × (spell_leaves (to_come Fresh text) ≡ text)) ⊎ (NoLeaves text × (has_end (to_come Fresh text) ≡ false))
all_come text = elim (comes (suc (left Fresh text)) Fresh text (omega arith)) [
  | inl a ↦ inl a
  | inr a ↦ inr (λ ls h e. a.0 ls (h, e), a.1)
]
