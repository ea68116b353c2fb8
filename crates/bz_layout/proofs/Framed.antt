-- What the shape of a kind says of a row of parts: that it has a part, and where its signs are.
use Rattle.bz_layout.proofs.Words.{[], ◌&&◌, ◌∙◌, ◌∷◌, ◌≡◌, and-false, ap, binary_begins, Bool, cases_Bool, false, Fits, frame, inl, inr, is_binary, is_compound, is_comprehension, is_empty, is_operator_class, IsNonterminal, Kind, Kind as k, List, no_such, Node', None, Nonterminal, nonterminal_unsigned, not, not-true, Part, Part as p, refl, true, whole_shape}
use Rattle.bz_layout.proofs.Neighbours.{Element, T, S, passes, Links, links}
use Rattle.bz_layout.proofs.Elements.{any_two, some_part}

abbrev pub is_sign_part : Part → Bool
is_sign_part (p.Leaf l) = is_operator_class l.class
is_sign_part (Node' kind z r) = false

abbrev pub begins_sign : List Part → Bool
begins_sign [] = false
begins_sign (x ∷ xs) = is_sign_part x

abbrev pub ends_sign : List Part → Bool
ends_sign [] = false
ends_sign (x ∷ []) = is_sign_part x
ends_sign (x ∷ y ∷ ys) = ends_sign (y ∷ ys)

abbrev pub after_first : {X : Type 0} → List X → List X
after_first [] = []
after_first (x ∷ xs) = xs

pub record RowShape (kind : Kind) (xs : List Part) : Type 0 where
  pub full : is_empty xs ≡ false
  pub first : (is_binary kind && begins_sign xs) ≡ false
  pub last : (is_binary kind && ends_sign xs) ≡ false
  pub second : is_comprehension kind ≡ true → is_empty (after_first xs) ≡ false

-- ---- the operands of a binary operation are first and last, and are no signs

operand : (a : Nonterminal) (x : Part) → IsNonterminal a x → is_sign_part x ≡ false
operand a (p.Leaf l) h = nonterminal_unsigned a l h
operand a (Node' kind z r) h = refl

first_part : (kind : Kind) (x : Part) (xs : List Part) → Fits IsNonterminal (whole_shape kind) (x ∷ xs) → (is_binary kind && is_sign_part x) ≡ false
first_part kind x xs h =
    elim (cases_Bool (is_binary kind)) [
      | inl e ↦ let w = binary_begins kind e x xs h in ap (λ z. is_binary kind && z) (operand w.0 x w.1) ∙ and-false (is_binary kind)
      | inr e ↦ ap (λ z. z && is_sign_part x) e
    ]

abbrev operand_last : Kind → Element → Bool
operand_last kind (T ts) = not (is_binary kind)
operand_last kind (S a) = true

each_ends : (kind : Kind) → passes any_two (operand_last kind) None (whole_shape kind) ≡ true
each_ends k.File = refl
each_ends _ = refl

last_part : (kind : Kind) (x : Part) (xs : List Part) → Links any_two (operand_last kind) x xs → (is_binary kind && ends_sign (x ∷ xs)) ≡ false
last_part kind x [] (T ts, i, o) = ap (λ z. z && is_sign_part x) (not-true _ o)
last_part kind x [] (S a, i, o) = ap (λ z. is_binary kind && z) (operand a x i) ∙ and-false (is_binary kind)
last_part kind x (y ∷ ys) h = last_part kind y ys h.1

-- ---- a part is after the bracket of a comprehension

second_part : (kind : Kind) → is_comprehension kind ≡ true → (x : Part) (xs : List Part) → Fits IsNonterminal (whole_shape kind) (x ∷ xs) → is_empty xs ≡ false
second_part kind o x (y ∷ ys) h = refl
second_part k.ListComp o x [] h = absurd h.1
second_part k.DictComp o x [] h = absurd h.1
second_part _ o x [] h = no_such o

pub row_shape : (kind : Kind) (xs : List Part) → is_compound (frame kind) ≡ false → Fits IsNonterminal (whole_shape kind) xs → RowShape kind xs
row_shape kind [] e h = absurd (some_part kind e h)
row_shape kind (x ∷ xs) e h = record {
  full = refl;
  first = first_part kind x xs h;
  last = last_part kind x xs (links any_two (operand_last kind) (whole_shape kind) None x tt (each_ends kind) (x ∷ xs) h);
  second = λ o. second_part kind o x xs h;
}
