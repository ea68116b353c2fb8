-- Changes that keep what a pass leaves as it is. A pass stays where a later change keeps it: so passes in turn settle.
use Rattle.bz_passes.proofs.Words.{[], ◌++◌, ◌∙◌, ◌∷◌, ◌≡◌, AllByRecursion, ap, Bool, by_test, cases_Bool, fun_ext, if◌then◌else◌, inl, inr, List, map, on_first, on_rest, on_third, refl, subst, sym}

abbrev pub Keeps : {X : Type 0} → (X → X) → (X → X) → Type 0
Keeps {X} change pass = (x : X) → pass x ≡ x → pass (change x) ≡ change x

abbrev pub Settles : {X : Type 0} → (X → X) → Type 0
Settles {X} pass = (x : X) → pass (pass x) ≡ pass x

pub both : {X Y Z : Type 0} (f : X → Y → Z) {h h' : X} {i i' : Y} → h ≡ h' → i ≡ i' → f h i ≡ f h' i'
both f {h} {h'} {i} {i'} d e = ap (λ z. f z i) d ∙ ap (λ z. f h' z) e

module _ {X : Type 0} where
  pub same_first : (x y : X) (xs ys : List X) → x ∷ xs ≡ y ∷ ys → x ≡ y
  same_first x y xs ys e = cc

  pub same_after : (x y : X) (xs ys : List X) → x ∷ xs ≡ y ∷ ys → xs ≡ ys
  same_after x y xs ys e = cc

  -- ---- changes one after the other
  pub maps_composed : (f g h : X → X) → ((x : X) → g (f x) ≡ h x) → (xs : List X) → map g (map f xs) ≡ map h xs
  maps_composed f g h p [] = refl
  maps_composed f g h p (x ∷ xs) = both (λ z zs. z ∷ zs) (p x) (maps_composed f g h p xs)

  pub first_composed : (f g h : X → X) → ((x : X) → g (f x) ≡ h x) → (xs : List X) → on_first g (on_first f xs) ≡ on_first h xs
  first_composed f g h p [] = refl
  first_composed f g h p (x ∷ xs) = ap (λ z. z ∷ xs) (p x)

  pub third_composed : (f g h : X → X) → ((x : X) → g (f x) ≡ h x) → (xs : List X) → on_third g (on_third f xs) ≡ on_third h xs
  third_composed f g h p [] = refl
  third_composed f g h p (x ∷ []) = refl
  third_composed f g h p (x ∷ y ∷ []) = refl
  third_composed f g h p (x ∷ y ∷ z ∷ zs) = ap (λ w. x ∷ y ∷ w ∷ zs) (p z)

  pub test_composed : (t : X → Bool) (f g p q v w : X → X) → ((x : X) → t (f x) ≡ t x) → ((x : X) → t (g x) ≡ t x) → ((x : X) → p (f x) ≡ v x) → ((x : X) → q (g x) ≡ w x)
      → (x : X) → (λ (y : X). if t y then p y else q y) (if t x then f x else g x) ≡ (if t x then v x else w x)
  test_composed t f g p q v w tf tg first other x = elim (cases_Bool (t x)) [
    | inl is ↦ rw (is, tf x, is) (first x)
    | inr not ↦ rw (not, tg x, not) (other x)
  ]

  -- ---- lists
  pub all_joined : (P : X → Type 0) (xs ys : List X) → AllByRecursion P xs → AllByRecursion P ys → AllByRecursion P (xs ++ ys)
  all_joined P [] ys h i = i
  all_joined P (x ∷ xs) ys h i = (h.0, all_joined P xs ys h.1 i)

  pub map_keeps : (f p : X → X) → Keeps f p → Keeps (map f) (map p)
  map_keeps f p h [] e = refl
  map_keeps f p h (x ∷ xs) e = both (λ z zs. z ∷ zs) (h x (same_first (p x) x (map p xs) xs e)) (map_keeps f p h xs (same_after (p x) x (map p xs) xs e))

  pub map_settles : (p : X → X) → Settles p → Settles (map p)
  map_settles p h [] = refl
  map_settles p h (x ∷ xs) = both (λ z zs. z ∷ zs) (h x) (map_settles p h xs)

  pub first_settles : (p : X → X) → Settles p → Settles (on_first p)
  first_settles p h [] = refl
  first_settles p h (x ∷ xs) = ap (λ z. z ∷ xs) (h x)

  pub first_keeps_map : (f q : X → X) → Keeps f q → Keeps (on_first f) (map q)
  first_keeps_map f q h [] e = refl
  first_keeps_map f q h (x ∷ xs) e = both (λ z zs. z ∷ zs) (h x (same_first (q x) x (map q xs) xs e)) (same_after (q x) x (map q xs) xs e)

  pub map_keeps_first : (q p : X → X) → Keeps q p → Keeps (map q) (on_first p)
  map_keeps_first q p h [] e = refl
  map_keeps_first q p h (x ∷ xs) e = ap (λ z. z ∷ map q xs) (h x (same_first (p x) x xs xs e))

  pub after_settles : (g : List X → List X) → Settles g → Settles (on_rest g)
  after_settles g h [] = refl
  after_settles g h (x ∷ xs) = ap (λ z. x ∷ z) (h xs)

  pub after_keeps_map : (g : List X → List X) (q : X → X) → Keeps g (map q) → Keeps (on_rest g) (map q)
  after_keeps_map g q h [] e = refl
  after_keeps_map g q h (x ∷ xs) e = both (λ z zs. z ∷ zs) (same_first (q x) x (map q xs) xs e) (h xs (same_after (q x) x (map q xs) xs e))

  pub map_keeps_after : (q : X → X) (g : List X → List X) → Keeps (map q) g → Keeps (map q) (on_rest g)
  map_keeps_after q g h [] e = refl
  map_keeps_after q g h (x ∷ xs) e = ap (λ z. q x ∷ z) (h xs (same_after x x (g xs) xs e))

  -- the third is the first after two
  third_at : (f : X → X) (xs : List X) → on_third f xs ≡ on_rest (on_rest (on_first f)) xs
  third_at f [] = refl
  third_at f (x ∷ []) = refl
  third_at f (x ∷ y ∷ []) = refl
  third_at f (x ∷ y ∷ z ∷ zs) = refl

  pub third_is : (f : X → X) → on_rest (on_rest (on_first f)) ≡ on_third f
  third_is f = fun_ext (λ xs. sym (third_at f xs))

  pub third_settles : (p : X → X) → Settles p → Settles (on_third p)
  third_settles p h = subst Settles (third_is p) (after_settles _ (after_settles _ (first_settles p h)))

  pub third_keeps_map : (f q : X → X) → Keeps f q → Keeps (on_third f) (map q)
  third_keeps_map f q h = subst (λ g. Keeps g (map q)) (third_is f) (after_keeps_map _ q (after_keeps_map _ q (first_keeps_map f q h)))

  pub map_keeps_third : (q p : X → X) → Keeps q p → Keeps (map q) (on_third p)
  map_keeps_third q p h = subst (Keeps (map q)) (third_is p) (map_keeps_after q _ (map_keeps_after q _ (map_keeps_first q p h)))

  -- ---- by a test
  pub test_settles : (t : X → Bool) (p r : X → X) → ((x : X) → t (p x) ≡ t x) → ((x : X) → t (r x) ≡ t x) → Settles p → Settles r → Settles (λ x. if t x then p x else r x)
  test_settles t p r a b u v x = elim (cases_Bool (t x)) [
    | inl w ↦ rw (w, a x, w) (u x)
    | inr w ↦ rw (w, b x, w) (v x)
  ]

  pub keeps_tested : (t : X → Bool) (f p r : X → X) → ((x : X) → t (f x) ≡ t x) → Keeps f p → Keeps f r → Keeps f (λ x. if t x then p x else r x)
  keeps_tested t f p r a u v x e = elim (cases_Bool (t x)) [
    | inl w ↦ let e' = rw w at e in rw (a x, w) (u x e')
    | inr w ↦ let e' = rw w at e in rw (a x, w) (v x e')
  ]

  pub tested_keeps : (t : X → Bool) (f g p : X → X) → Keeps f p → Keeps g p → Keeps (λ x. if t x then f x else g x) p
  tested_keeps t f g p u v x e = by_test (λ y. p y ≡ y) (t x) (f x) (g x) (u x e) (v x e)
