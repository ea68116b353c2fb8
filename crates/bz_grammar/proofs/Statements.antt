-- Newlines of parts, first leaves, and where a walk through the statements of a file is.
use Rattle.bz_grammar.proofs.Words.{[], ◌++◌, ◌+◌, ◌<◌, ◌∙◌, ◌∷◌, ◌≡◌, ◌≤◌, ap, arith, cond, drop, drop_more, first_gap, flat_map, flat_map_more, gap_of, get_or, Leaf, leaves_part, length, length-append, line_following, List, newlines, None, Option, Part, refl, slice_get, Some, spell_leaves, spell_part, subst, sym, take, take_more, ℕ}
use Rattle.std.proofs.lemmas.List.Sums.{sum_by-append, count_by-le-length}
use Rattle.bz_lex.specs.Positions.{is_newline}
use Rattle.bz_grammar.proofs.Spells.{spelled_so_far, part_spelled}

pub newlines_append : (a b : List ℕ) → newlines (a ++ b) ≡ newlines a + newlines b
newlines_append a b = sum_by-append (λ x. cond (is_newline x) 1 0) a b

pub newlines_within : (a : List ℕ) → newlines a ≤ length a
newlines_within a = count_by-le-length is_newline a

pub line_more : (a b : List ℕ) → line_following (a ++ b) ≡ line_following a + newlines b
line_more a b = omega (arith, newlines_append a b)

-- the newlines of the parts so far and of the next one are no more than the bytes of all
pub newlines_fit : (xs : List Part) (i : ℕ) (d : Part) → i < length xs → newlines (flat_map spell_part (take i xs)) + newlines (spell_part (get_or xs i d)) ≤ length (flat_map spell_part xs)
newlines_fit xs i d h =
    omega (arith, spelled_so_far xs i d h, newlines_within (flat_map spell_part (take i xs)), newlines_within (spell_part (get_or xs i d)))

-- ---- the first leaf

no_first : (xs ys : List Leaf) → None ≡ slice_get xs 0 → slice_get (xs ++ ys) 0 ≡ slice_get ys 0
no_first [] ys e = refl
no_first (x ∷ xs) ys e = absurd (let f : None ≡ Some x = e in cc)

one_first : (xs ys : List Leaf) (l : Leaf) → Some l ≡ slice_get xs 0 → slice_get (xs ++ ys) 0 ≡ Some l
one_first [] ys l e = absurd (let f : Some l ≡ None = e in cc)
one_first (x ∷ xs) ys l e = sym e

first_from : (xs : List Part) (i : ℕ) (d : Part) → i < length xs → d ≡ get_or xs i d → slice_get (flat_map leaves_part (drop i xs)) 0 ≡ slice_get (leaves_part d ++ flat_map leaves_part (drop (i + 1) xs)) 0
first_from xs i d h is =
    ap (λ ys. slice_get (flat_map leaves_part ys) 0) (drop_more xs i d h) ∙ ap (λ y. slice_get (leaves_part y ++ flat_map leaves_part (drop (i + 1) xs)) 0) (sym is)

-- this part has the first leaf
pub first_here : (xs : List Part) (i : ℕ) (d : Part) (l : Leaf) (o : Option Leaf) → i < length xs → d ≡ get_or xs i d → Some l ≡ slice_get (leaves_part d) 0 → slice_get (flat_map leaves_part (drop i xs)) 0 ≡ o → Some l ≡ o
first_here xs i d l o h is e so_far = sym (one_first _ _ l e) ∙ (sym (first_from xs i d h is) ∙ so_far)

-- this part has no leaf
pub first_later : (xs : List Part) (i : ℕ) (d : Part) (o : Option Leaf) → i < length xs → d ≡ get_or xs i d → None ≡ slice_get (leaves_part d) 0 → slice_get (flat_map leaves_part (drop i xs)) 0 ≡ o → slice_get (flat_map leaves_part (drop (i + 1) xs)) 0 ≡ o
first_later xs i d o h is e so_far = sym (no_first _ _ e) ∙ (sym (first_from xs i d h is) ∙ so_far)

first_is : (ls : List Leaf) (l : Leaf) → Some l ≡ slice_get ls 0 → l.gap ≡ first_gap ls
first_is [] l e = absurd (let f : Some l ≡ None = e in cc)
first_is (x ∷ ls) l e = let same : l ≡ x = (let f : Some l ≡ Some x = e in cc) in ap (λ (y : Leaf). y.gap) same

pub gap_is : (x : Part) (l : Leaf) → Some l ≡ slice_get (leaves_part x) 0 → l.gap ≡ gap_of x
gap_is x l e = first_is (leaves_part x) l e

no_gap : (ls : List Leaf) → None ≡ slice_get ls 0 → first_gap ls ≡ []
no_gap [] e = refl
no_gap (x ∷ ls) e = absurd (let f : None ≡ Some x = e in cc)

pub gap_is_none : (x : Part) → None ≡ slice_get (leaves_part x) 0 → gap_of x ≡ []
gap_is_none x e = no_gap (leaves_part x) e

first_within : (ls : List Leaf) → length (first_gap ls) ≤ length (spell_leaves ls)
first_within [] = omega arith
first_within (l ∷ ls) = omega (arith, length-append l.gap (l.token ++ spell_leaves ls))

-- the gap before a part is within its bytes
pub gap_within : (x : Part) → length (gap_of x) ≤ length (spell_part x)
gap_within x = subst (λ t. length (gap_of x) ≤ length t) (sym (part_spelled x)) (first_within (leaves_part x))

-- ---- where a walk is

-- the text in front of the i-th of these parts, after this text
abbrev pub text_to : List ℕ → List Part → ℕ → List ℕ
text_to front xs i = front ++ flat_map spell_part (take i xs)

pub text_more : (front : List ℕ) (xs : List Part) (i : ℕ) (d : Part) → i < length xs → d ≡ get_or xs i d → text_to front xs i ++ spell_part d ≡ text_to front xs (i + 1)
text_more front xs i d h is =
    ap (λ y. text_to front xs i ++ spell_part y) is ∙ (flat_map_more spell_part front (take i xs) (get_or xs i d) ∙ ap (λ ys. front ++ flat_map spell_part ys) (sym (take_more xs i d h)))
