-- The order of keys, computed by one walk over both.
use Rattle.bz_label.proofs.Words.{[], ◌∙◌, ◌∷◌, ◌≡◌, ap, Bytes, bytes_order, cases_Bool, Equal, Greater, inl, inr, is_cut, is_ne, key_pieces, Less, List, nat_cmp, nat_cmp_total, onto_first, Ordering, ordering_then, refl, sym, tied_itself, true, ℕ}
use Rattle.std.specs.Cmp.Lexicographic.{slice_cmp}

-- by their pieces, then by the bytes of the whole
abbrev pub both_orders : Bytes → Bytes → Ordering
both_orders xs ys = ordering_then (slice_cmp bytes_order (key_pieces xs) (key_pieces ys)) (bytes_order xs ys)

-- what two bytes at one place say of the pieces
abbrev pub byte_order : ℕ → ℕ → Ordering
byte_order x y = slice_cmp bytes_order (key_pieces (x ∷ [])) (key_pieces (y ∷ []))

-- The order of what is left of two keys, where the pieces were alike so far and the bytes were ordered as `marks` says.
abbrev pub order_from : Ordering → Bytes → Bytes → Ordering
order_from marks [] [] = marks
order_from marks [] (y ∷ ys) = Less
order_from marks (x ∷ xs) [] = Greater
order_from marks (x ∷ xs) (y ∷ ys) = ordering_then (byte_order x y) (order_from (ordering_then marks (nat_cmp x y)) xs ys)

then_equal : (a : Ordering) → ordering_then a Equal ≡ a
then_equal Less = refl
then_equal Equal = refl
then_equal Greater = refl

then_then : (a b c : Ordering) → ordering_then (ordering_then a b) c ≡ ordering_then a (ordering_then b c)
then_then Less b c = refl
then_then Equal b c = refl
then_then Greater b c = refl

-- where the first byte decides, what it says of the whole comes too late
in_piece : (c a b m d : Ordering) → ordering_then c (ordering_then (ordering_then a b) (ordering_then (ordering_then m c) d))
    ≡ ordering_then (ordering_then (ordering_then c a) b) (ordering_then m (ordering_then c d))
in_piece Less a b m d = refl
in_piece Equal a b m d = ap (λ z. ordering_then (ordering_then a b) (ordering_then z d)) (then_equal m)
in_piece Greater a b m d = refl

-- ---- a key has at least one piece

abbrev Has : List Bytes → Type 0
Has [] = ⊥
Has (p ∷ ps) = Unit {0}

has_onto : (x : ℕ) (ps : List Bytes) → Has ps → Has (onto_first x ps)
has_onto x [] h = absurd h
has_onto x (p ∷ ps) h = tt

has_pieces : (xs : Bytes) → Has (key_pieces xs)
has_pieces [] = tt
has_pieces (x ∷ xs) = elim (cases_Bool (is_cut x)) [
  | inl t ↦ rw t tt
  | inr f ↦ rw f (has_onto x (key_pieces xs) (has_pieces xs))
]

shorter_first : (ps : List Bytes) (y : ℕ) (qs : List Bytes) → Has qs → slice_cmp bytes_order ([] ∷ ps) (onto_first y qs) ≡ Less
shorter_first ps y [] h = absurd h
shorter_first ps y (q ∷ qs) h = refl

longer_first : (x : ℕ) (ps qs : List Bytes) → Has ps → slice_cmp bytes_order (onto_first x ps) ([] ∷ qs) ≡ Greater
longer_first x [] qs h = absurd h
longer_first x (p ∷ ps) qs h = refl

fewer : (qs : List Bytes) → Has qs → slice_cmp bytes_order [] qs ≡ Less
fewer [] h = absurd h
fewer (q ∷ qs) h = refl

more : (ps : List Bytes) → Has ps → slice_cmp bytes_order ps [] ≡ Greater
more [] h = absurd h
more (p ∷ ps) h = refl

ends_first : (y : ℕ) (ys : Bytes) → slice_cmp bytes_order ([] ∷ []) (key_pieces (y ∷ ys)) ≡ Less
ends_first y ys = elim (cases_Bool (is_cut y)) [
  | inl t ↦ rw t (fewer (key_pieces ys) (has_pieces ys))
  | inr f ↦ rw f (shorter_first [] y (key_pieces ys) (has_pieces ys))
]

ends_last : (x : ℕ) (xs : Bytes) → slice_cmp bytes_order (key_pieces (x ∷ xs)) ([] ∷ []) ≡ Greater
ends_last x xs = elim (cases_Bool (is_cut x)) [
  | inl t ↦ rw t (more (key_pieces xs) (has_pieces xs))
  | inr f ↦ rw f (longer_first x (key_pieces xs) [] (has_pieces xs))
]

-- two bytes of pieces
both_inside : (m : Ordering) (x y : ℕ) (rest d : Ordering) (ps qs : List Bytes) → Has ps → Has qs
    → rest ≡ ordering_then (slice_cmp bytes_order ps qs) (ordering_then (ordering_then m (nat_cmp x y)) d)
    → ordering_then (nat_cmp x y) rest ≡ ordering_then (slice_cmp bytes_order (onto_first x ps) (onto_first y qs)) (ordering_then m (ordering_then (nat_cmp x y) d))
both_inside m x y rest d [] qs h k e = absurd h
both_inside m x y rest d (p ∷ ps) [] h k e = absurd k
both_inside m x y rest d (p ∷ ps) (q ∷ qs) h k e =
    ap (ordering_then (nat_cmp x y)) e ∙ in_piece (nat_cmp x y) (bytes_order p q) (slice_cmp bytes_order ps qs) m d

inside_order : (x y : ℕ) → ordering_then (ordering_then (nat_cmp x y) Equal) Equal ≡ nat_cmp x y
inside_order x y = then_equal (ordering_then (nat_cmp x y) Equal) ∙ then_equal (nat_cmp x y)

pub ordered : (m : Ordering) (xs ys : Bytes)
    → order_from m xs ys ≡ ordering_then (slice_cmp bytes_order (key_pieces xs) (key_pieces ys)) (ordering_then m (bytes_order xs ys))
ordered m [] [] = sym (then_equal m)
ordered m [] (y ∷ ys) = sym (ap (λ o. ordering_then o (ordering_then m Less)) (ends_first y ys))
ordered m (x ∷ xs) [] = sym (ap (λ o. ordering_then o (ordering_then m Greater)) (ends_last x xs))
ordered m (x ∷ xs) (y ∷ ys) = elim (cases_Bool (is_cut x)) [
  | inl t ↦ elim (cases_Bool (is_cut y)) [
    | inl u ↦ rw (t, u) (ordered (ordering_then m (nat_cmp x y)) xs ys
        ∙ ap (ordering_then (slice_cmp bytes_order (key_pieces xs) (key_pieces ys))) (then_then m (nat_cmp x y) (bytes_order xs ys)))
    | inr g ↦ rw (t, g) (sym (ap (λ o. ordering_then o (ordering_then m (ordering_then (nat_cmp x y) (bytes_order xs ys))))
        (shorter_first (key_pieces xs) y (key_pieces ys) (has_pieces ys))))
  ]
  | inr f ↦ elim (cases_Bool (is_cut y)) [
    | inl u ↦ rw (f, u) (sym (ap (λ o. ordering_then o (ordering_then m (ordering_then (nat_cmp x y) (bytes_order xs ys))))
        (longer_first x (key_pieces xs) (key_pieces ys) (has_pieces xs))))
    | inr g ↦ rw (f, g, inside_order x y) (both_inside m x y (order_from (ordering_then m (nat_cmp x y)) xs ys) (bytes_order xs ys) (key_pieces xs) (key_pieces ys) (has_pieces xs) (has_pieces ys)
        (ordered (ordering_then m (nat_cmp x y)) xs ys))
  ]
]

pub walked : (xs ys : Bytes) → order_from Equal xs ys ≡ both_orders xs ys
walked xs ys = ordered Equal xs ys

-- ---- one turn of the walk

pub goes_on : (m : Ordering) (x y : ℕ) (xs ys : Bytes) → byte_order x y ≡ Equal → order_from m (x ∷ xs) (y ∷ ys) ≡ order_from (ordering_then m (nat_cmp x y)) xs ys
goes_on m x y xs ys e = ap (λ o. ordering_then o (order_from (ordering_then m (nat_cmp x y)) xs ys)) e

same_piece : (x : ℕ) → byte_order x x ≡ Equal
same_piece x = elim (cases_Bool (is_cut x)) [
  | inl t ↦ rw t refl
  | inr f ↦ rw (f, inside_order x x) (tied_itself nat_cmp_total x)
]

pub passes : (m : Ordering) (x : ℕ) (xs ys : Bytes) → order_from m (x ∷ xs) (x ∷ ys) ≡ order_from m xs ys
passes m x xs ys = goes_on m x x xs ys (same_piece x) ∙ ap (λ o. order_from o xs ys) (ap (ordering_then m) (tied_itself nat_cmp_total x) ∙ then_equal m)

decided : (o d : Ordering) → is_ne o ≡ true → ordering_then o d ≡ o
decided Less d h = refl
decided Equal d h = cc
decided Greater d h = refl

pub decides : (m : Ordering) (x y : ℕ) (xs ys : Bytes) → is_ne (byte_order x y) ≡ true → order_from m (x ∷ xs) (y ∷ ys) ≡ byte_order x y
decides m x y xs ys h = decided (byte_order x y) (order_from (ordering_then m (nat_cmp x y)) xs ys) h
