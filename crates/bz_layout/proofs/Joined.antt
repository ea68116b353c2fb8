-- A sequence that fits with a comma after each item fits without the last comma, but for a tuple of one; and before its
-- bracket all parts but the first are tokens.
use Rattle.bz_layout.proofs.Words.{[], ◌&&◌, ◌++◌, ◌∷◌, ◌≡◌, ◌≤◌, AllByRecursion, arith, Bool, both_ways, comma, compound, each_with_comma, false, Fits, Frame, frame, framed, has_nonterminal, has_token, if◌then◌else◌, in_frame, inl, inr, is_empty, is_tuple, IsNonterminal, items, Kind, Kind as k, lead, lead_before, length, List, Listed, mark_leaf, nat_eq, no_such, Node', Nonterminal, not, Part, Part as p, refl, row, row_in, sequence, Shape, Terminal, true, whole_shape, ℕ}
use Rattle.bz_grammar.specs.Shapes as s

-- the items with commas between them, one after the last where `one`, and then the closing bracket
abbrev pub without_last : Bool → Part → List Part → List Part
without_last one e [] = e ∷ []
without_last one e (x ∷ xs) = x ∷ ((if is_empty xs && not one then [] else (mark_leaf comma ∷ [])) ++ without_last false e xs)

-- items between commas, and then the closing bracket (e)
module _ (a : Nonterminal) (close : List Terminal) (e : Part) (no_comma : has_token close (mark_leaf comma) ≡ false) (no_item : has_nonterminal a e ≡ false) where
  abbrev Closed : List Part → Type 0
  Closed xs = Listed (IsNonterminal a) s.comma_mark true (Fits IsNonterminal (s.tok close s.done)) xs

  listed : (x : Part) (xs : List Part) → Closed (x ∷ mark_leaf comma ∷ (each_with_comma xs ++ (e ∷ []))) → Closed (without_last false e (x ∷ xs))
  listed x xs (g, inl h) = absurd (both_ways (has_token close (mark_leaf comma)) no_comma h.0)
  listed x [] (g, inr (m, inl h)) = absurd (both_ways (has_nonterminal a e) no_item h.0)
  listed x (y ∷ ys) (g, inr (m, inl h)) = (g, inr (m, inl (listed y ys h)))
  listed x [] (g, inr (m, inr (l, h))) = (g, inl h)
  listed x (y ∷ ys) (g, inr (m, inr (l, h))) = absurd h.1

  items_fit : (xs : List Part) → Fits IsNonterminal (items a close) (each_with_comma xs ++ (e ∷ [])) → Fits IsNonterminal (items a close) (without_last false e xs)
  items_fit [] h = h
  items_fit (x ∷ xs) (inl h) = absurd h.1
  items_fit (x ∷ xs) (inr h) = inr (listed x xs h)

-- ---- the kinds of sequences

-- the row of a sequence that is not broken
abbrev pub row_joined : Frame → Bool → List Part → List Part → List Part
row_joined row one parts xs = parts
row_joined (sequence opener closer) one parts xs = parts ++ (mark_leaf opener ∷ without_last one (mark_leaf closer) xs)
row_joined compound one parts xs = []

-- what is after the bracket of a load, and of a tuple
abbrev loads : Shape
loads = s.tok s.string (s.alt (s.tok s.close_round s.done) (s.tok s.comma_mark (items s.loaded s.close_round)))

abbrev tuples : Shape
tuples = s.alt (s.tok s.close_round s.done) (s.sub s.test (s.tok s.comma_mark (items s.test s.close_round)))

loads_fit : (xs : List Part) → Fits IsNonterminal loads (each_with_comma xs ++ (mark_leaf 41 ∷ [])) → Fits IsNonterminal loads (without_last false (mark_leaf 41) xs)
loads_fit [] h = no_such h.0
loads_fit (x ∷ xs) (g, inl h) = no_such h.0
loads_fit (x ∷ []) (g, inr h) = (g, inl (refl, tt))
loads_fit (x ∷ y ∷ ys) (g, inr h) = (g, inr (h.0, items_fit s.loaded s.close_round (mark_leaf 41) refl refl (y ∷ ys) h.1))

tuples_fit : (xs : List Part) → Fits IsNonterminal tuples (each_with_comma xs ++ (mark_leaf 41 ∷ [])) → Fits IsNonterminal tuples (without_last (nat_eq (length xs) 1) (mark_leaf 41) xs)
tuples_fit [] h = h
tuples_fit (x ∷ []) h = h
tuples_fit (x ∷ y ∷ ys) (inl h) = absurd h.1
tuples_fit (x ∷ y ∷ ys) (inr (g, h)) = inr (g, (h.0, items_fit s.test s.close_round (mark_leaf 41) refl refl (y ∷ ys) h.1))

-- each kind fits with its last comma dropped
joined_by : (kind : Kind) (parts xs : List Part) → in_frame (frame kind) (Unit {0}) (length parts ≡ lead kind) (Unit {0}) → Fits IsNonterminal (whole_shape kind) (row_in (frame kind) parts xs) →
    Fits IsNonterminal (whole_shape kind) (row_joined (frame kind) (is_tuple kind && nat_eq (length xs) 1) parts xs)
joined_by k.Call (x ∷ []) xs n h = (h.0, (h.1.0, items_fit s.argument s.close_round (mark_leaf 41) refl refl xs h.1.1))
joined_by k.Call [] xs n h = absurd (omega (arith, n))
joined_by k.Call (x ∷ y ∷ ps) xs n h = absurd (omega (arith, n))
joined_by k.Load (x ∷ []) xs n h = (h.0, (h.1.0, loads_fit xs h.1.1))
joined_by k.Load [] xs n h = absurd (omega (arith, n))
joined_by k.Load (x ∷ y ∷ ps) xs n h = absurd (omega (arith, n))
joined_by k.Def (x ∷ y ∷ []) xs n h = (h.0, (h.1.0, (h.1.1.0, items_fit s.param s.close_round (mark_leaf 41) refl refl xs h.1.1.1)))
joined_by k.Def [] xs n h = absurd (omega (arith, n))
joined_by k.Def (x ∷ []) xs n h = absurd (omega (arith, n))
joined_by k.Def (x ∷ y ∷ z ∷ ps) xs n h = absurd (omega (arith, n))
joined_by k.Tuple [] xs n h = (h.0, tuples_fit xs h.1)
joined_by k.Tuple (x ∷ ps) xs n h = absurd (omega (arith, n))
joined_by k.List [] xs n h = (h.0, items_fit s.test s.close_square (mark_leaf 93) refl refl xs h.1)
joined_by k.List (x ∷ ps) xs n h = absurd (omega (arith, n))
joined_by k.Dict [] xs n h = (h.0, items_fit s.entry s.close_curly (mark_leaf 125) refl refl xs h.1)
joined_by k.Dict (x ∷ ps) xs n h = absurd (omega (arith, n))
joined_by _ parts xs n h = h

pub fits_joined : (kind : Kind) (parts xs : List Part) → Fits IsNonterminal (whole_shape kind) (row_in (frame kind) parts xs) → Fits IsNonterminal (whole_shape kind) (row_joined (frame kind) (is_tuple kind && nat_eq (length xs) 1) parts xs)
fits_joined kind parts xs h = joined_by kind parts xs (lead_before kind parts xs h) h

-- ---- what is before the bracket

abbrev IsLeaf : Part → Type 0
IsLeaf (p.Leaf l) = Unit {0}
IsLeaf (Node' kind size r) = ⊥

abbrev pub AreLeaves : List Part → Type 0
AreLeaves xs = AllByRecursion IsLeaf xs

-- all but the first are tokens
abbrev pub AreFronts : List Part → Type 0
AreFronts [] = Unit {0}
AreFronts (x ∷ xs) = AreLeaves xs

token_leaf : (ts : List Terminal) (x : Part) → has_token ts x ≡ true → IsLeaf x
token_leaf ts (p.Leaf l) h = tt
token_leaf ts (Node' kind size r) h = no_such h

one_front : (ps : List Part) → length ps ≤ 1 → AreFronts ps
one_front [] h = tt
one_front (x ∷ []) h = tt
one_front (x ∷ y ∷ ps) h = absurd (omega (arith, h))

few_before : (f : Frame) (n : ℕ) (parts : List Part) → n ≤ 1 → in_frame f (Unit {0}) (length parts ≡ n) (Unit {0}) → in_frame f (Unit {0}) (AreFronts parts) (Unit {0})
few_before f n parts few h = framed f (λ u. u) (λ l. one_front parts (omega (arith, few, l))) (λ u. u) h

fronts_by : (kind : Kind) (parts xs : List Part) → in_frame (frame kind) (Unit {0}) (length parts ≡ lead kind) (Unit {0}) → Fits IsNonterminal (whole_shape kind) (row_in (frame kind) parts xs) → in_frame (frame kind) (Unit {0}) (AreFronts parts) (Unit {0})
fronts_by k.Def (x ∷ y ∷ []) xs n h = (token_leaf s.name y h.1.0, tt)
fronts_by k.Def [] xs n h = tt
fronts_by k.Def (x ∷ []) xs n h = tt
fronts_by k.Def (x ∷ y ∷ z ∷ ps) xs n h = absurd (omega (arith, n))
fronts_by kind parts xs n h = few_before (frame kind) (lead kind) parts (omega arith) n

pub head_fits : (kind : Kind) (parts xs : List Part) → Fits IsNonterminal (whole_shape kind) (row_in (frame kind) parts xs) → in_frame (frame kind) (Unit {0}) (AreFronts parts) (Unit {0})
head_fits kind parts xs h = fronts_by kind parts xs (lead_before kind parts xs h) h
