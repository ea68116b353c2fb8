-- The table of shapes does not see what strings say: parts that differ in the texts of strings alone fit equal shapes.
use Rattle.bz_rule.proofs.Words.{[], ◌&&◌, ◌++◌, ◌||◌, ◌∙◌, ◌∷◌, ◌≡◌, After, ap, Bool, build_grammar, bytes_eq, Class as c, comma, compound, each_with_comma, false, Fits, Frame, Grammar, has_nonterminal, has_token, inl, inr, is_class, is_one_of, is_terminal, IsNonterminal, Kind, Kind as k, List, Listed, mark_leaf, Nonterminal, not, Part, Part as p, refl, row, row_in, sequence, Several, Shape, sym, Terminal, true, true≢false, value_shape, whole_grammar, ℕ}
use Rattle.std.proofs.lemmas.Bool.{and_parts}
use Rattle.bz_grammar.specs.Shapes as s

-- ---- which tokens a shape names by their texts

-- no string by its text
abbrev pub is_textless : Terminal → Bool
is_textless (s.any class) = true
is_textless (s.this class token) = not (is_class c.String class)

abbrev pub are_textless : List Terminal → Bool
are_textless [] = true
are_textless (t ∷ ts) = is_textless t && are_textless ts

abbrev pub textless : Shape → Bool
textless s.none = true
textless s.done = true
textless (s.tok terminals then_) = are_textless terminals && textless then_
textless (s.sub nonterminal then_) = textless then_
textless (s.alt left right) = textless left && textless right
textless (s.list nonterminal separators last then_) = are_textless separators && textless then_
textless (s.each nonterminal then_) = textless then_
textless (s.times group then_) = false

kind_textless : (grammar : Grammar) (kind : Kind) → textless (value_shape grammar kind) ≡ true
kind_textless build_grammar k.File = refl
kind_textless build_grammar _ = refl
kind_textless whole_grammar k.File = refl
kind_textless whole_grammar _ = refl

-- ---- parts alike to all such tokens, and to all sorts

pub record AlikeRoots (x y : Part) : Type 0 where
  pub token : (ts : List Terminal) → are_textless ts ≡ true → has_token ts x ≡ has_token ts y
  pub nonterminal : (q : Nonterminal) → has_nonterminal q x ≡ has_nonterminal q y

pub same_root : (x y : Part) → x ≡ y → AlikeRoots x y
same_root x y e = record { token = λ ts h. ap (has_token ts) e; nonterminal = λ q. ap (has_nonterminal q) e }

pub data Alike : List Part → List Part → Type 0 where
  over : Alike [] []
  more : (x y : Part) (xs ys : List Part) → AlikeRoots x y → Alike xs ys → Alike (x ∷ xs) (y ∷ ys)

abbrev Carries : (List Part → Type 0) → Type 0
Carries K = (xs ys : List Part) → Alike xs ys → K xs → K ys

module _ (q : Nonterminal) (K : List Part → Type 0) (carries : Carries K) where
  mutual
    listed_alike : (ts : List Terminal) (last : Bool) → are_textless ts ≡ true → (xs ys : List Part) → Alike xs ys → Listed (IsNonterminal q) ts last K xs → Listed (IsNonterminal q) ts last K ys
    listed_alike ts last n xs ys over h = absurd h
    listed_alike ts last n xs ys (more x y xs' ys' r w) h = (sym (r.nonterminal q) ∙ h.0, after_alike ts last n xs' ys' w h.1)

    after_alike : (ts : List Terminal) (last : Bool) → are_textless ts ≡ true → (xs ys : List Part) → Alike xs ys → After (IsNonterminal q) ts last K xs → After (IsNonterminal q) ts last K ys
    after_alike ts last n xs ys over h = carries [] [] over h
    after_alike ts last n xs ys (more x y xs' ys' r w) (inl h) = inl (carries (x ∷ xs') (y ∷ ys') (more x y xs' ys' r w) h)
    after_alike ts last n xs ys (more x y xs' ys' r w) (inr (m, inl h)) = inr (sym (r.token ts n) ∙ m, inl (listed_alike ts last n xs' ys' w h))
    after_alike ts last n xs ys (more x y xs' ys' r w) (inr (m, inr h)) = inr (sym (r.token ts n) ∙ m, inr (h.0, carries xs' ys' w h.1))

  several_alike : (xs ys : List Part) → Alike xs ys → Several (IsNonterminal q) K xs → Several (IsNonterminal q) K ys
  several_alike xs ys over h = carries [] [] over h
  several_alike xs ys (more x y xs' ys' r w) (inl h) = inl (carries (x ∷ xs') (y ∷ ys') (more x y xs' ys' r w) h)
  several_alike xs ys (more x y xs' ys' r w) (inr h) = inr (sym (r.nonterminal q) ∙ h.0, several_alike xs' ys' w h.1)

fits_alike : (r : Shape) → textless r ≡ true → Carries (Fits IsNonterminal r)
fits_alike s.none n xs ys w h = absurd h
fits_alike s.done n xs ys over h = h
fits_alike s.done n xs ys (more x y xs' ys' r w) h = absurd h
fits_alike (s.tok ts then_) n xs ys over h = absurd h
fits_alike (s.tok ts then_) n xs ys (more x y xs' ys' r w) h = (sym (r.token ts (and_parts _ _ n).0) ∙ h.0, fits_alike then_ (and_parts _ _ n).1 xs' ys' w h.1)
fits_alike (s.sub q then_) n xs ys over h = absurd h
fits_alike (s.sub q then_) n xs ys (more x y xs' ys' r w) h = (sym (r.nonterminal q) ∙ h.0, fits_alike then_ n xs' ys' w h.1)
fits_alike (s.alt left right) n xs ys w (inl h) = inl (fits_alike left (and_parts _ _ n).0 xs ys w h)
fits_alike (s.alt left right) n xs ys w (inr h) = inr (fits_alike right (and_parts _ _ n).1 xs ys w h)
fits_alike (s.list q ts last then_) n xs ys w h = listed_alike q (Fits IsNonterminal then_) (fits_alike then_ (and_parts _ _ n).1) ts last (and_parts _ _ n).0 xs ys w h
fits_alike (s.each q then_) n xs ys w h = several_alike q (Fits IsNonterminal then_) (fits_alike then_ n) xs ys w h
fits_alike (s.times group then_) n xs ys w h = absurd (true≢false (sym n))

-- ---- a string and the same with another text

one_terminal : (t : Terminal) (gap gap' text text' : List ℕ) → is_textless t ≡ true → is_terminal t (record { class = c.String; gap = gap; token = text }) ≡ is_terminal t (record { class = c.String; gap = gap'; token = text' })
one_terminal (s.any class) gap gap' text text' h = refl
one_terminal (s.this class token) gap gap' text text' h = by_class (is_class c.String class) (bytes_eq text token) (bytes_eq text' token) h
  where
    by_class : (b a a' : Bool) → not b ≡ true → (b && a) ≡ (b && a')
    by_class false a a' h = refl
    by_class true a a' h = absurd (true≢false (sym h))

one_of : (ts : List Terminal) (gap gap' text text' : List ℕ) → are_textless ts ≡ true → is_one_of ts (record { class = c.String; gap = gap; token = text }) ≡ is_one_of ts (record { class = c.String; gap = gap'; token = text' })
one_of [] gap gap' text text' h = refl
one_of (t ∷ ts) gap gap' text text' h =
    ap (λ b. b || is_one_of ts (record { class = c.String; gap = gap; token = text })) (one_terminal t gap gap' text text' (and_parts _ _ h).0)
    ∙ ap (λ b. is_terminal t (record { class = c.String; gap = gap'; token = text' }) || b) (one_of ts gap gap' text text' (and_parts _ _ h).1)

nonterminal_textless : (q : Nonterminal) → are_textless (s.leaves_at q) ≡ true
nonterminal_textless (s.level n) = refl
nonterminal_textless s.argument = refl
nonterminal_textless s.loaded = refl
nonterminal_textless _ = refl

pub other_string : (text text' : List ℕ) → AlikeRoots (p.Leaf (record { class = c.String; gap = []; token = text })) (p.Leaf (record { class = c.String; gap = []; token = text' }))
other_string text text' = record {
  token = λ ts h. one_of ts [] [] text text' h;
  nonterminal = λ q. one_of (s.leaves_at q) [] [] text text' (nonterminal_textless q);
}

-- ---- rows with brackets and commas put back

itself : (x : Part) → AlikeRoots x x
itself x = same_root x x refl

commas_alike : (xs ys : List Part) (closer : Part) → Alike xs ys → Alike (each_with_comma xs ++ closer ∷ []) (each_with_comma ys ++ closer ∷ [])
commas_alike xs ys closer over = more closer closer [] [] (itself closer) over
commas_alike xs ys closer (more x y xs' ys' r w) = more x y _ _ r (more (mark_leaf comma) (mark_leaf comma) _ _ (itself (mark_leaf comma)) (commas_alike xs' ys' closer w))

after_parts : (xs ys us vs : List Part) → Alike xs ys → Alike us vs → Alike (xs ++ us) (ys ++ vs)
after_parts xs ys us vs over i = i
after_parts xs ys us vs (more x y xs' ys' r w) i = more x y _ _ r (after_parts xs' ys' us vs w i)

row_alike : (f : Frame) (xs ys us vs : List Part) → Alike xs ys → Alike us vs → Alike (row_in f xs us) (row_in f ys vs)
row_alike row xs ys us vs h i = h
row_alike (sequence opener closer) xs ys us vs h i = after_parts xs ys _ _ h (more (mark_leaf opener) (mark_leaf opener) _ _ (itself (mark_leaf opener)) (commas_alike us vs (mark_leaf closer) i))
row_alike compound xs ys us vs h i = over

-- What is alike to the parts and items of a node fits its shape too.
pub kind_alike : (grammar : Grammar) (kind : Kind) (f : Frame) (xs ys us vs : List Part) → Alike xs ys → Alike us vs → Fits IsNonterminal (value_shape grammar kind) (row_in f xs us) → Fits IsNonterminal (value_shape grammar kind) (row_in f ys vs)
kind_alike grammar kind f xs ys us vs h i = fits_alike (value_shape grammar kind) (kind_textless grammar kind) (row_in f xs us) (row_in f ys vs) (row_alike f xs ys us vs h i)
