-- A row of parts and one more: a shape that ends with a part of a sort.
use Rattle.bz_grammar.proofs.Words.{[], ◌++◌, ◌∷◌, ◌≡◌, After, alt, ap, Bool, colon_mark, done, each, Fits, inl, inr, List, list, Listed, none, Nonterminal, Part, refl, Several, Shape, sub, suite, Terminal, test, test_header, times, tok}

-- the shape, and then a part of a sort (no rows of groups)
abbrev pub then_sub : Nonterminal → Shape → Shape
then_sub q none = none
then_sub q done = sub q done
then_sub q (tok s r) = tok s (then_sub q r)
then_sub q (sub a r) = sub a (then_sub q r)
then_sub q (alt r r') = alt (then_sub q r) (then_sub q r')
then_sub q (list a sep last r) = list a sep last (then_sub q r)
then_sub q (each a r) = each a (then_sub q r)
then_sub q (times group r) = none

-- no row of groups is in the shape
abbrev pub Ends : Shape → Type 0
Ends none = Unit {0}
Ends done = Unit {0}
Ends (tok s r) = Ends r
Ends (sub a r) = Ends r
Ends (alt r r') = Ends r × Ends r'
Ends (list a sep last r) = Ends r
Ends (each a r) = Ends r
Ends (times group r) = ⊥

-- a row of which F holds, and a part of which G does
abbrev pub And : (List Part → Type 0) → (Part → Type 0) → List Part → Type 0
And F G ps = (hs : List Part) × (x : Part) × (ps ≡ hs ++ x ∷ []) × F hs × G x

module _ (P : Nonterminal → Part → Type 0) (q : Nonterminal) where
  abbrev Splits : (List Part → Type 0) → (List Part → Type 0) → Type 0
  Splits K K' = (ps : List Part) → K' ps → And K (P q) ps

  after_of : (A : Part → Type 0) (sep : List Terminal) (last : Bool) (K : List Part → Type 0) (ps : List Part) → K ps → After A sep last K ps
  after_of A sep last K [] h = h
  after_of A sep last K (x ∷ ps) h = inl h

  several_of : (A : Part → Type 0) (K : List Part → Type 0) (ps : List Part) → K ps → Several A K ps
  several_of A K [] h = h
  several_of A K (x ∷ ps) h = inl h

  module _ (A : Part → Type 0) (sep : List Terminal) (last : Bool) (K K' : List Part → Type 0) where
    mutual
      split_listed : Splits K K' → Splits (Listed A sep last K) (Listed A sep last K')
      split_listed f [] h = absurd h
      split_listed f (x ∷ ps) h = let w = split_after f ps h.1 in (x ∷ w.0, w.1, ap (λ (zs : List Part). x ∷ zs) w.2, (h.0, w.3), w.4)

      split_after : Splits K K' → Splits (After A sep last K) (After A sep last K')
      split_after f [] h = let w = f [] h in (w.0, w.1, w.2, after_of A sep last K w.0 w.3, w.4)
      split_after f (x ∷ ps) (inl h) = let w = f (x ∷ ps) h in (w.0, w.1, w.2, after_of A sep last K w.0 w.3, w.4)
      split_after f (x ∷ ps) (inr (m, inl h)) = let w = split_listed f ps h in (x ∷ w.0, w.1, ap (λ (zs : List Part). x ∷ zs) w.2, inr (m, inl w.3), w.4)
      split_after f (x ∷ ps) (inr (m, inr (e, h))) = let w = f ps h in (x ∷ w.0, w.1, ap (λ (zs : List Part). x ∷ zs) w.2, inr (m, inr (e, w.3)), w.4)

    abbrev Joins : (List Part → Type 0) → (List Part → Type 0) → Type 0
    Joins L L' = (hs : List Part) (x : Part) → L hs → P q x → L' (hs ++ x ∷ [])

    mutual
      join_listed : Joins K K' → Joins (Listed A sep last K) (Listed A sep last K')
      join_listed f [] x h g = absurd h
      join_listed f (y ∷ hs) x h g = (h.0, join_after f hs x h.1 g)

      join_after : Joins K K' → Joins (After A sep last K) (After A sep last K')
      join_after f [] x h g = inl (f [] x h g)
      join_after f (y ∷ hs) x (inl h) g = inl (f (y ∷ hs) x h g)
      join_after f (y ∷ hs) x (inr (m, inl h)) g = inr (m, inl (join_listed f hs x h g))
      join_after f (y ∷ hs) x (inr (m, inr (e, h))) g = inr (m, inr (e, f hs x h g))

  split_each : (A : Part → Type 0) (K K' : List Part → Type 0) → Splits K K' → Splits (Several A K) (Several A K')
  split_each A K K' f [] h = let w = f [] h in (w.0, w.1, w.2, several_of A K w.0 w.3, w.4)
  split_each A K K' f (x ∷ ps) (inl h) = let w = f (x ∷ ps) h in (w.0, w.1, w.2, several_of A K w.0 w.3, w.4)
  split_each A K K' f (x ∷ ps) (inr h) = let w = split_each A K K' f ps h.1 in (x ∷ w.0, w.1, ap (λ (zs : List Part). x ∷ zs) w.2, inr (h.0, w.3), w.4)

  join_each : (A : Part → Type 0) (K K' : List Part → Type 0) → ((hs : List Part) (x : Part) → K hs → P q x → K' (hs ++ x ∷ [])) → (hs : List Part) (x : Part) → Several A K hs → P q x → Several A K' (hs ++ x ∷ [])
  join_each A K K' f [] x h g = inl (f [] x h g)
  join_each A K K' f (y ∷ hs) x (inl h) g = inl (f (y ∷ hs) x h g)
  join_each A K K' f (y ∷ hs) x (inr h) g = inr (h.0, join_each A K K' f hs x h.1 g)

  pub split_sub : (r : Shape) (ps : List Part) → Fits P (then_sub q r) ps → And (Fits P r) (P q) ps
  split_sub none ps h = absurd h
  split_sub done [] h = absurd h
  split_sub done (x ∷ []) h = ([], x, refl, tt, h.0)
  split_sub done (x ∷ y ∷ ps) h = absurd h.1
  split_sub (tok s r) [] h = absurd h
  split_sub (tok s r) (x ∷ ps) h = let w = split_sub r ps h.1 in (x ∷ w.0, w.1, ap (λ (zs : List Part). x ∷ zs) w.2, (h.0, w.3), w.4)
  split_sub (sub a r) [] h = absurd h
  split_sub (sub a r) (x ∷ ps) h = let w = split_sub r ps h.1 in (x ∷ w.0, w.1, ap (λ (zs : List Part). x ∷ zs) w.2, (h.0, w.3), w.4)
  split_sub (alt r r') ps (inl h) = let w = split_sub r ps h in (w.0, w.1, w.2, inl w.3, w.4)
  split_sub (alt r r') ps (inr h) = let w = split_sub r' ps h in (w.0, w.1, w.2, inr w.3, w.4)
  split_sub (list a sep last r) ps h = split_listed (P a) sep last (Fits P r) (Fits P (then_sub q r)) (λ zs k. split_sub r zs k) ps h
  split_sub (each a r) ps h = split_each (P a) (Fits P r) (Fits P (then_sub q r)) (λ zs k. split_sub r zs k) ps h
  split_sub (times group r) ps h = absurd h

  pub join_sub : (r : Shape) (hs : List Part) (x : Part) → Fits P r hs → P q x → Ends r → Fits P (then_sub q r) (hs ++ x ∷ [])
  join_sub none hs x h g e = absurd h
  join_sub done [] x h g e = (g, tt)
  join_sub done (y ∷ hs) x h g e = absurd h
  join_sub (tok s r) [] x h g e = absurd h
  join_sub (tok s r) (y ∷ hs) x h g e = (h.0, join_sub r hs x h.1 g e)
  join_sub (sub a r) [] x h g e = absurd h
  join_sub (sub a r) (y ∷ hs) x h g e = (h.0, join_sub r hs x h.1 g e)
  join_sub (alt r r') hs x (inl h) g e = inl (join_sub r hs x h g e.0)
  join_sub (alt r r') hs x (inr h) g e = inr (join_sub r' hs x h g e.1)
  join_sub (list a sep last r) hs x h g e = join_listed (P a) sep last (Fits P r) (Fits P (then_sub q r)) (λ zs z k l. join_sub r zs z k l e) hs x h g
  join_sub (each a r) hs x h g e = join_each (P a) (Fits P r) (Fits P (then_sub q r)) (λ zs z k l. join_sub r zs z k l e) hs x h g
  join_sub (times group r) hs x h g e = absurd e

-- after if or elif: a test, a colon, a suite, and what has another shape
abbrev pub tested : List Terminal → Shape → Shape
tested s r = tok s (sub test (tok colon_mark (sub suite r)))

module _ (P : Nonterminal → Part → Type 0) where
  pub test_split : (s : List Terminal) (r : Shape) (ps : List Part) → Fits P (tested s r) ps → (front : List Part) × (back : List Part) × (ps ≡ front ++ back) × And (Fits P (test_header s)) (P suite) front × Fits P r back
  test_split s r [] h = absurd h
  test_split s r (a ∷ []) h = absurd h.1
  test_split s r (a ∷ b ∷ []) h = absurd h.1.1
  test_split s r (a ∷ b ∷ c ∷ []) h = absurd h.1.1.1
  test_split s r (a ∷ b ∷ c ∷ x ∷ back) h = (a ∷ b ∷ c ∷ x ∷ [], back, refl, (a ∷ b ∷ c ∷ [], x, refl, (h.0, (h.1.0, (h.1.1.0, tt))), h.1.1.1.0), h.1.1.1.1)

  pub test_join : (s : List Terminal) (r : Shape) (hs back : List Part) (x : Part) → Fits P (test_header s) hs → P suite x → Fits P r back → Fits P (tested s r) ((hs ++ x ∷ []) ++ back)
  test_join s r [] back x h g t = absurd h
  test_join s r (a ∷ []) back x h g t = absurd h.1
  test_join s r (a ∷ b ∷ []) back x h g t = absurd h.1.1
  test_join s r (a ∷ b ∷ c ∷ []) back x h g t = (h.0, (h.1.0, (h.1.1.0, (g, t))))
  test_join s r (a ∷ b ∷ c ∷ y ∷ hs) back x h g t = absurd h.1.1.1
