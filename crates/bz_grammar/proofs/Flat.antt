-- Where leaves are in a flat list, and in a tree.
use Rattle.bz_grammar.proofs.Words.{[], ◌++◌, ◌∷◌, ◌≡◌, after_newline, after_token, Along, Begins, Bool, Class, Class as c, closes, deeper, ends, false, if◌then◌else◌, Inside, is_closing, is_opening, Leaf, List, next, onward, opens, Place, plain, refl, Role, role, same_depth, shallower, Spot, subst, true, Within, ℕ}
use Rattle.bz_lex.specs.declared.place.Place.TheVariants.{After}

-- the spot of a place
abbrev pub spot_of : Place → Spot
spot_of After = Along
spot_of (Inside n) = Within
spot_of _ = Begins

-- the place after leaves
abbrev pub after : Place → List Leaf → Place
after p [] = p
after p (x ∷ xs) = after (next p x) xs

pub after-append : (p : Place) (xs ys : List Leaf) → after p (xs ++ ys) ≡ after (after p xs) ys
after-append p [] ys = refl
after-append p (x ∷ xs) ys = after-append (next p x) xs ys

module _ (P : Spot → Leaf → Type 0) where
  -- P holds of each leaf of a list that begins at a place
  abbrev pub Flat : Place → List Leaf → Type 0
  Flat p [] = Unit {0}
  Flat p (x ∷ xs) = P (spot_of p) x × Flat (next p x) xs

  pub flat_join : (p : Place) (xs ys : List Leaf) → Flat p xs → Flat (after p xs) ys → Flat p (xs ++ ys)
  flat_join p [] ys h i = i
  flat_join p (x ∷ xs) ys h i = (h.0, flat_join (next p x) xs ys h.1 i)

  pub flat_parts : (p : Place) (xs ys : List Leaf) → Flat p (xs ++ ys) → Flat p xs × Flat (after p xs) ys
  flat_parts p [] ys h = (tt, h)
  flat_parts p (x ∷ xs) ys h = let w = flat_parts (next p x) xs ys h.1 in ((h.0, w.0), w.1)

-- ---- the place after a token, by what the token is to those after it

pub same_again : (p : Place) → same_depth (same_depth p) ≡ same_depth p
same_again (Inside n) = refl
same_again _ = refl

pub same_deep : (p : Place) → same_depth (deeper p) ≡ deeper p
same_deep (Inside n) = refl
same_deep _ = refl

pub deep_same : (p : Place) → deeper (same_depth p) ≡ deeper p
deep_same (Inside n) = refl
deep_same _ = refl

pub shallow_deep : (p : Place) → shallower (deeper p) ≡ same_depth p
shallow_deep (Inside n) = refl
shallow_deep _ = refl

pub spot_same : (p : Place) → spot_of (same_depth p) ≡ onward (spot_of p)
spot_same (Inside n) = refl
spot_same _ = refl

pub spot_deep : (p : Place) → spot_of (deeper p) ≡ Within
spot_deep (Inside n) = refl
spot_deep _ = refl

pub spot_newline : (token : List ℕ) → spot_of (after_newline token) ≡ Begins
spot_newline [] = refl
spot_newline (b ∷ token) = refl

abbrev By : Role → Place → Place → Type 0
By opens q p = q ≡ deeper p
By closes q p = q ≡ shallower p
By ends q p = Unit {0}
By plain q p = q ≡ same_depth p

by_mark : (a b : Bool) (p : Place) → By (if a then opens else (if b then closes else plain)) (if a then deeper p else (if b then shallower p else same_depth p)) p
by_mark true b p = refl
by_mark false true p = refl
by_mark false false p = refl

by_role : (class : Class) (token : List ℕ) (p : Place) → By (role class token) (after_token class token p) p
by_role c.Mark token p = by_mark (is_opening token) (is_closing token) p
by_role c.Newline token p = tt
by_role c.End token p = tt
by_role _ token p = refl

pub after_opening : (leaf : Leaf) (p : Place) → role leaf.class leaf.token ≡ opens → next p leaf ≡ deeper p
after_opening leaf p e = subst (λ t. By t (next p leaf) p) e (by_role leaf.class leaf.token p)

pub after_closing : (leaf : Leaf) (p : Place) → role leaf.class leaf.token ≡ closes → next p leaf ≡ shallower p
after_closing leaf p e = subst (λ t. By t (next p leaf) p) e (by_role leaf.class leaf.token p)

pub after_plain : (leaf : Leaf) (p : Place) → role leaf.class leaf.token ≡ plain → next p leaf ≡ same_depth p
after_plain leaf p e = subst (λ t. By t (next p leaf) p) e (by_role leaf.class leaf.token p)
