-- Sets of tokens: which have none in common, and which lie within another.
use Rattle.bz_grammar.proofs.Words.{[], ◌&&◌, ◌++◌, ◌||◌, ◌∙◌, ◌∷◌, ◌≡◌, ◌≤◌, and_from, and_parts, any, arith, Bool, both_ways, bytes_eq, bytes_eq-Decides, cases_Bool, class_number, eq-eqb, eqb, eqb-true, false, inl, inr, is_class, is_one_of, is_terminal, Leaf, length, List, not, not-true, or_cases, or_left, or_parts, or_right, refl, starts_with, sym, Terminal, this, true, ℕ}

-- whether a leaf may be both
abbrev pub meets : Terminal → Terminal → Bool
meets (any c) (any d) = is_class c d
meets (any c) (this d t) = is_class c d
meets (this c t) (any d) = is_class c d
meets (this c t) (this d u) = is_class c d && bytes_eq t u

-- whether each leaf that is the one is the other
abbrev pub within : Terminal → Terminal → Bool
within (any c) (any d) = is_class c d
within (any c) (this d t) = false
within (this c t) (any d) = is_class c d
within (this c t) (this d u) = is_class c d && bytes_eq t u

abbrev pub meets_any : Terminal → List Terminal → Bool
meets_any x [] = false
meets_any x (y ∷ ys) = meets x y || meets_any x ys

abbrev pub within_any : Terminal → List Terminal → Bool
within_any x [] = false
within_any x (y ∷ ys) = within x y || within_any x ys

abbrev pub disjoint : List Terminal → List Terminal → Bool
disjoint [] ys = true
disjoint (x ∷ xs) ys = not (meets_any x ys) && disjoint xs ys

abbrev pub subset : List Terminal → List Terminal → Bool
subset [] ys = true
subset (x ∷ xs) ys = within_any x ys && subset xs ys

same_number : (a b c : ℕ) → eqb a b ≡ true → eqb a c ≡ true → eqb b c ≡ true
same_number a b c h k = let e = eqb-true a b h in let f = eqb-true a c k in eq-eqb b c (sym e ∙ f)

along_number : (a b c : ℕ) → eqb a b ≡ true → eqb b c ≡ true → eqb a c ≡ true
along_number a b c h k = let e = eqb-true a b h in let f = eqb-true b c k in eq-eqb a c (e ∙ f)

same_text : (a b c : List ℕ) → bytes_eq a b ≡ true → bytes_eq a c ≡ true → bytes_eq b c ≡ true
same_text a b c h k = (bytes_eq-Decides b c).1 (sym ((bytes_eq-Decides a b).0 h) ∙ (bytes_eq-Decides a c).0 k)

along_text : (a b c : List ℕ) → bytes_eq a b ≡ true → bytes_eq b c ≡ true → bytes_eq a c ≡ true
along_text a b c h k = (bytes_eq-Decides a c).1 ((bytes_eq-Decides a b).0 h ∙ (bytes_eq-Decides b c).0 k)

pub is_both : (x y : Terminal) (l : Leaf) → is_terminal x l ≡ true → is_terminal y l ≡ true → meets x y ≡ true
is_both (any c) (any d) l h k = same_number (class_number l.class) (class_number c) (class_number d) h k
is_both (any c) (this d u) l h k = let b = and_parts (is_class l.class d) (bytes_eq l.token u) k in same_number (class_number l.class) (class_number c) (class_number d) h b.0
is_both (this c t) (any d) l h k = let a = and_parts (is_class l.class c) (bytes_eq l.token t) h in same_number (class_number l.class) (class_number c) (class_number d) a.0 k
is_both (this c t) (this d u) l h k =
    let a = and_parts (is_class l.class c) (bytes_eq l.token t) h in
    let b = and_parts (is_class l.class d) (bytes_eq l.token u) k in
    and_from (is_class c d) (bytes_eq t u) (same_number (class_number l.class) (class_number c) (class_number d) a.0 b.0) (same_text l.token t u a.1 b.1)

pub is_wider : (x y : Terminal) (l : Leaf) → is_terminal x l ≡ true → within x y ≡ true → is_terminal y l ≡ true
is_wider (any c) (any d) l h k = along_number (class_number l.class) (class_number c) (class_number d) h k
is_wider (any c) (this d u) l h k = absurd (both_ways false refl k)
is_wider (this c t) (any d) l h k = let a = and_parts (is_class l.class c) (bytes_eq l.token t) h in along_number (class_number l.class) (class_number c) (class_number d) a.0 k
is_wider (this c t) (this d u) l h k =
    let a = and_parts (is_class l.class c) (bytes_eq l.token t) h in
    let b = and_parts (is_class c d) (bytes_eq t u) k in
    and_from (is_class l.class d) (bytes_eq l.token u) (along_number (class_number l.class) (class_number c) (class_number d) a.0 b.0) (along_text l.token t u a.1 b.1)

meets_none : (x : Terminal) (ys : List Terminal) (l : Leaf) → meets_any x ys ≡ false → is_terminal x l ≡ true → is_one_of ys l ≡ false
meets_none x [] l d h = refl
meets_none x (y ∷ ys) l d h =
    let o = or_parts (meets x y) (meets_any x ys) d in
    elim (cases_Bool (is_terminal y l)) [
      | inl e ↦ absurd (both_ways (meets x y) o.0 (is_both x y l h e))
      | inr e ↦ rw e (meets_none x ys l o.1 h)
    ]

pub disjoint-one_of : (l : Leaf) (xs ys : List Terminal) → disjoint xs ys ≡ true → is_one_of xs l ≡ true → is_one_of ys l ≡ false
disjoint-one_of l [] ys d h = absurd (both_ways false refl h)
disjoint-one_of l (x ∷ xs) ys d h =
    let o = and_parts (not (meets_any x ys)) (disjoint xs ys) d in
    elim (or_cases (is_terminal x l) (is_one_of xs l) h) [
      | inl e ↦ meets_none x ys l (not-true (meets_any x ys) o.0) e
      | inr m ↦ disjoint-one_of l xs ys o.1 m
    ]

within_one : (x : Terminal) (ys : List Terminal) (l : Leaf) → within_any x ys ≡ true → is_terminal x l ≡ true → is_one_of ys l ≡ true
within_one x [] l w h = absurd (both_ways false refl w)
within_one x (y ∷ ys) l w h =
    elim (or_cases (within x y) (within_any x ys) w) [
      | inl e ↦ or_left (is_terminal y l) (is_one_of ys l) (is_wider x y l h e)
      | inr e ↦ or_right (is_terminal y l) (is_one_of ys l) (within_one x ys l e h)
    ]

pub subset-one_of : (l : Leaf) (xs ys : List Terminal) → subset xs ys ≡ true → is_one_of xs l ≡ true → is_one_of ys l ≡ true
subset-one_of l [] ys s h = absurd (both_ways false refl h)
subset-one_of l (x ∷ xs) ys s h =
    let o = and_parts (within_any x ys) (subset xs ys) s in
    elim (or_cases (is_terminal x l) (is_one_of xs l) h) [
      | inl e ↦ within_one x ys l o.0 e
      | inr m ↦ subset-one_of l xs ys o.1 m
    ]

-- ---- the same at the front of leaves

pub disjoint_at : (xs ys : List Terminal) (ts : List Leaf) → disjoint xs ys ≡ true → starts_with xs ts ≡ true → starts_with ys ts ≡ false
disjoint_at xs ys [] d h = refl
disjoint_at xs ys (t ∷ ts) d h = disjoint-one_of t xs ys d h

pub subset_at : (xs ys : List Terminal) (ts : List Leaf) → subset xs ys ≡ true → starts_with xs ts ≡ true → starts_with ys ts ≡ true
subset_at xs ys [] s h = h
subset_at xs ys (t ∷ ts) s h = subset-one_of t xs ys s h

pub subset_stops : (xs ys : List Terminal) (ts : List Leaf) → subset xs ys ≡ true → starts_with ys ts ≡ false → starts_with xs ts ≡ false
subset_stops xs ys ts s h =
    elim (cases_Bool (starts_with xs ts)) [
      | inl e ↦ absurd (both_ways (starts_with ys ts) h (subset_at xs ys ts s e))
      | inr e ↦ e
    ]

or_assoc : (a b c : Bool) → (a || (b || c)) ≡ ((a || b) || c)
or_assoc true b c = refl
or_assoc false b c = refl

pub one_of-append : (l : Leaf) (xs ys : List Terminal) → is_one_of (xs ++ ys) l ≡ (is_one_of xs l || is_one_of ys l)
one_of-append l [] ys = refl
one_of-append l (x ∷ xs) ys = rw (one_of-append l xs ys) (or_assoc (is_terminal x l) (is_one_of xs l) (is_one_of ys l))

pub stops_left : (xs ys : List Terminal) (ts : List Leaf) → starts_with (xs ++ ys) ts ≡ false → starts_with xs ts ≡ false
stops_left xs ys [] h = refl
stops_left xs ys (t ∷ ts) h = (or_parts (is_one_of xs t) (is_one_of ys t) (sym (one_of-append t xs ys) ∙ h)).0

pub stops_right : (xs ys : List Terminal) (ts : List Leaf) → starts_with (xs ++ ys) ts ≡ false → starts_with ys ts ≡ false
stops_right xs ys [] h = refl
stops_right xs ys (t ∷ ts) h = (or_parts (is_one_of xs t) (is_one_of ys t) (sym (one_of-append t xs ys) ∙ h)).1

pub starts-append_left : (xs ys : List Terminal) (ts : List Leaf) → starts_with xs ts ≡ true → starts_with (xs ++ ys) ts ≡ true
starts-append_left xs ys [] h = h
starts-append_left xs ys (t ∷ ts) h = one_of-append t xs ys ∙ or_left (is_one_of xs t) (is_one_of ys t) h

pub starts-append_right : (xs ys : List Terminal) (ts : List Leaf) → starts_with ys ts ≡ true → starts_with (xs ++ ys) ts ≡ true
starts-append_right xs ys [] h = h
starts-append_right xs ys (t ∷ ts) h = one_of-append t xs ys ∙ or_right (is_one_of xs t) (is_one_of ys t) h

pub full : (s : List Terminal) (ts : List Leaf) → starts_with s ts ≡ true → 1 ≤ length ts
full s [] h = absurd (both_ways false refl h)
full s (t ∷ ts) h = omega arith

pub full_front : (s : List Terminal) (ts : List Leaf) → starts_with s (ts ++ []) ≡ true → 1 ≤ length ts
full_front s [] h = absurd (both_ways false refl h)
full_front s (t ∷ ts) h = omega arith
