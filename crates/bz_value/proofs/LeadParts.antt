-- How many parts are before the opening bracket of a sequence.
use Rattle.bz_value.proofs.Words.{[], ◌&&◌, ◌++◌, ◌∙◌, ◌∷◌, ◌≡◌, After, and_parts, ap, Bool, codes, each_with_comma, false, Fits, frame, has_nonterminal, has_token, in_frame, inl, inr, IsNonterminal, Kind, Kind as k, lead, length, List, Listed, mark_leaf, Nonterminal, not, Part, refl, row_in, Several, Shape, suc, sym, Terminal, true, true≢false, whole_shape, ℕ}
use Rattle.bz_grammar.specs.Shapes as s

abbrev pub lacks_mark : ℕ → List Terminal → Bool
lacks_mark o terminals = not (has_token terminals (mark_leaf o))

-- no token of the shape is this mark
abbrev pub lacks : ℕ → Shape → Bool
lacks o s.none = true
lacks o s.done = true
lacks o (s.tok terminals then_) = lacks_mark o terminals && lacks o then_
lacks o (s.sub nonterminal then_) = lacks o then_
lacks o (s.alt left right) = lacks o left && lacks o right
lacks o (s.list nonterminal separators last then_) = lacks_mark o separators && lacks o then_
lacks o (s.each nonterminal then_) = lacks o then_
lacks o (s.times group then_) = false

no_token : (b : Bool) → not b ≡ true → b ≡ true → ⊥
no_token true e h = true≢false (sym e)
no_token false e h = true≢false (sym h)

-- a mark by itself has no sort
mark_nonterminal : (nonterminal : Nonterminal) (o : ℕ) → has_nonterminal nonterminal (mark_leaf o) ≡ false
mark_nonterminal (s.level n) o = refl
mark_nonterminal _ o = refl

no_nonterminal : (nonterminal : Nonterminal) (o : ℕ) → IsNonterminal nonterminal (mark_leaf o) → ⊥
no_nonterminal nonterminal o h = true≢false (sym h ∙ mark_nonterminal nonterminal o)

module _ (o : ℕ) (ys : List Part) where
  -- what K holds of has the mark nowhere
  abbrev pub Free : (List Part → Type 0) → Type 0
  Free K = (xs : List Part) → K (xs ++ (mark_leaf o ∷ ys)) → ⊥

  mutual
    listed_free : (nonterminal : Nonterminal) (separators : List Terminal) (last : Bool) (K : List Part → Type 0) → lacks_mark o separators ≡ true → Free K → (xs : List Part) → Listed (IsNonterminal nonterminal) separators last K (xs ++ (mark_leaf o ∷ ys)) → ⊥
    listed_free nonterminal separators last K n f [] h = no_nonterminal nonterminal o h.0
    listed_free nonterminal separators last K n f (x ∷ xs) h = after_free nonterminal separators last K n f xs h.1

    after_free : (nonterminal : Nonterminal) (separators : List Terminal) (last : Bool) (K : List Part → Type 0) → lacks_mark o separators ≡ true → Free K → (xs : List Part) → After (IsNonterminal nonterminal) separators last K (xs ++ (mark_leaf o ∷ ys)) → ⊥
    after_free nonterminal separators last K n f [] (inl h) = f [] h
    after_free nonterminal separators last K n f [] (inr (e, h)) = no_token _ n e
    after_free nonterminal separators last K n f (x ∷ xs) (inl h) = f (x ∷ xs) h
    after_free nonterminal separators last K n f (x ∷ xs) (inr (e, inl h)) = listed_free nonterminal separators last K n f xs h
    after_free nonterminal separators last K n f (x ∷ xs) (inr (e, inr h)) = f xs h.1

  several_free : (nonterminal : Nonterminal) (K : List Part → Type 0) → Free K → (xs : List Part) → Several (IsNonterminal nonterminal) K (xs ++ (mark_leaf o ∷ ys)) → ⊥
  several_free nonterminal K f [] (inl h) = f [] h
  several_free nonterminal K f [] (inr h) = no_nonterminal nonterminal o h.0
  several_free nonterminal K f (x ∷ xs) (inl h) = f (x ∷ xs) h
  several_free nonterminal K f (x ∷ xs) (inr h) = several_free nonterminal K f xs h.1

  pub fits_free : (shape : Shape) → lacks o shape ≡ true → Free (Fits IsNonterminal shape)
  fits_free s.none n xs h = h
  fits_free s.done n [] h = h
  fits_free s.done n (x ∷ xs) h = h
  fits_free (s.tok terminals then_) n [] h = no_token _ (and_parts _ _ n).0 h.0
  fits_free (s.tok terminals then_) n (x ∷ xs) h = fits_free then_ (and_parts _ _ n).1 xs h.1
  fits_free (s.sub nonterminal then_) n [] h = no_nonterminal nonterminal o h.0
  fits_free (s.sub nonterminal then_) n (x ∷ xs) h = fits_free then_ n xs h.1
  fits_free (s.alt left right) n xs (inl h) = fits_free left (and_parts _ _ n).0 xs h
  fits_free (s.alt left right) n xs (inr h) = fits_free right (and_parts _ _ n).1 xs h
  fits_free (s.list nonterminal separators last then_) n xs h = listed_free nonterminal separators last (Fits IsNonterminal then_) (and_parts _ _ n).0 (fits_free then_ (and_parts _ _ n).1) xs h
  fits_free (s.each nonterminal then_) n xs h = several_free nonterminal (Fits IsNonterminal then_) (fits_free then_ n) xs h
  fits_free (s.times group then_) n xs h = true≢false (sym n)

  -- the bracket comes first
  none_before : (terminals : List Terminal) (then_ : Shape) → lacks o then_ ≡ true → (xs : List Part) → Fits IsNonterminal (s.tok terminals then_) (xs ++ (mark_leaf o ∷ ys)) → length xs ≡ 0
  none_before terminals then_ n [] h = refl
  none_before terminals then_ n (x ∷ xs) h = absurd (fits_free then_ n xs h.1)

  -- one part, and then the bracket
  one_before : (nonterminal : Nonterminal) (terminals : List Terminal) (then_ : Shape) → lacks o then_ ≡ true → (xs : List Part) → Fits IsNonterminal (s.sub nonterminal (s.tok terminals then_)) (xs ++ (mark_leaf o ∷ ys)) → length xs ≡ 1
  one_before nonterminal terminals then_ n [] h = absurd (no_nonterminal nonterminal o h.0)
  one_before nonterminal terminals then_ n (x ∷ xs) h = ap suc (none_before terminals then_ n xs h.1)

  -- one word, and then what is before the bracket
  word_before : (word : List Terminal) (then_ : Shape) (n : ℕ) → lacks_mark o word ≡ true → ((xs : List Part) → Fits IsNonterminal then_ (xs ++ (mark_leaf o ∷ ys)) → length xs ≡ n) → (xs : List Part) → Fits IsNonterminal (s.tok word then_) (xs ++ (mark_leaf o ∷ ys)) → length xs ≡ suc n
  word_before word then_ n w before [] h = absurd (no_token _ w h.0)
  word_before word then_ n w before (x ∷ xs) h = ap suc (before xs h.1)

-- items, and the closing bracket
abbrev closed : List Part → ℕ → List Part
closed ys closer = each_with_comma ys ++ mark_leaf closer ∷ []

pub lead_before : (kind : Kind) (xs ys : List Part) → Fits IsNonterminal (whole_shape kind) (row_in (frame kind) xs ys) → in_frame (frame kind) (Unit {0}) (length xs ≡ lead kind) (Unit {0})
lead_before k.Call xs ys h = one_before 40 _ s.primary s.open_round (s.items s.argument s.close_round) refl xs h
lead_before k.Load xs ys h =
    let then_ : Shape = s.tok s.string (s.alt (s.tok s.close_round s.done) (s.tok s.comma_mark (s.items s.loaded s.close_round))) in
    word_before 40 (closed ys 41) (s.one_keyword (codes "load")) (s.tok s.open_round then_) 0 refl (none_before 40 (closed ys 41) s.open_round then_ refl) xs h
lead_before k.Def xs ys h =
    let then_ : Shape = s.items s.param s.close_round in
    word_before 40 (closed ys 41) (s.one_keyword (codes "def")) (s.tok s.name (s.tok s.open_round then_)) 1 refl
    (word_before 40 (closed ys 41) s.name (s.tok s.open_round then_) 0 refl (none_before 40 (closed ys 41) s.open_round then_ refl)) xs h
lead_before k.Tuple xs ys h = none_before 40 _ s.open_round (s.alt (s.tok s.close_round s.done) (s.sub s.test (s.tok s.comma_mark (s.items s.test s.close_round)))) refl xs h
lead_before k.List xs ys h = none_before 91 _ s.open_square (s.items s.test s.close_square) refl xs h
lead_before k.Dict xs ys h = none_before 123 _ s.open_curly (s.items s.entry s.close_curly) refl xs h
lead_before _ xs ys h = tt
