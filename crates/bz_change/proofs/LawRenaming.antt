-- Renaming an attribute there and back.
use Rattle.bz_change.proofs.Words.{[], ◌∙◌, ◌∷◌, ◌≡◌, ap, Arguments, attribute_any, attribute_parts, AttributeExists, Bool, both, Bytes, cases_Bool, Class as c, equal_self, Err, Expr, Expr as e, false, Form', has_attribute, if◌then◌else◌, inl, inr, is_attribute, is_some, is_text, Kind as k, List, list_any, NoAttribute, None, not, Ok, on_first, on_first_that, on_row, Option, or_parts, parts_of, refl, RenamedBack, row_back, Some, some_if, sym, Token, true, true≢false, value_changed, with_text}
use Rattle.std.proofs.lemmas.Slice.Eq.{bytes_eq-Decides}
use Rattle.bz_grammar.specs.Shapes.{is_class}
use Rattle.bz_rule.specs.Rules.{text_in, value_after}

-- ---- the name of an argument

text_if : (b : Bool) (text other : Bytes) → is_text text (if b then Some other else None) ≡ true → (b ≡ true) × (other ≡ text)
text_if true text other h = (refl, (bytes_eq-Decides other text).0 h)
text_if false text other h = absurd (true≢false (sym h))

name_back : (from to : Bytes) (x : Expr) → is_text from (text_in c.Name x) ≡ true → (with_text from (with_text to x) ≡ x) × (is_text to (text_in c.Name (with_text to x)) ≡ true)
name_back from to (Token t) h =
    let p = text_if (is_class t.class c.Name) from t.text h in
    (ap (λ (text : Bytes). e.Token (record t { text = text })) (sym p.1), ap (λ (b : Bool). is_text to (if b then Some to else None)) p.0 ∙ equal_self to)
name_back from to (Form' own s parts s' items end split open_break comments) h = absurd (true≢false (sym h))

-- ---- an argument

abbrev renamed : Bytes → Expr → Expr
renamed text = on_row k.Named (on_first (with_text text))

parts_back : (from to : Bytes) (ps : List Expr) → is_some (value_after from ps) ≡ true
    → (on_first (with_text from) (on_first (with_text to) ps) ≡ ps) × (is_some (value_after to (on_first (with_text to) ps)) ≡ true)
parts_back from to [] h = absurd (true≢false (sym h))
parts_back from to (x ∷ []) h = absurd (true≢false (sym h))
parts_back from to (x ∷ y ∷ []) h = absurd (true≢false (sym h))
parts_back from to (x ∷ y ∷ v ∷ []) h =
    let n = name_back from to x (some_if (is_text from (text_in c.Name x)) (Some v) h).0 in
    (ap (λ z. z ∷ y ∷ v ∷ []) n.0, ap (λ (b : Bool). is_some (if b then Some v else None)) n.1)
parts_back from to (x ∷ y ∷ v ∷ w ∷ rest) h = absurd (true≢false (sym h))

argument_back : (from to : Bytes) (x : Expr) → is_attribute from x ≡ true → (renamed from (renamed to x) ≡ x) × (is_attribute to (renamed to x) ≡ true)
argument_back from to x h =
    let p = attribute_parts from x h in
    let b = parts_back from to (parts_of x) p.1 in (
      row_back k.Named (on_first (with_text to)) (on_first (with_text from)) x (λ is. b.0),
      ap (λ (found : Option Expr). is_some found) (value_changed to (on_first (with_text to)) x p.0) ∙ b.1,
    )

-- ---- the arguments

-- the first that passes a test, changed, and the first that passes another one, changed back
first_back : {X : Type 0} (p q : X → Bool) (f g : X → X) → ((x : X) → p x ≡ true → (g (f x) ≡ x) × (q (f x) ≡ true)) → (xs : List X) → list_any p xs ≡ true → list_any q xs ≡ false
    → (on_first_that q g (on_first_that p f xs) ≡ xs) × (list_any q (on_first_that p f xs) ≡ true)
first_back p q f g back [] h n = absurd (true≢false (sym h))
first_back p q f g back (x ∷ xs) h n = elim (cases_Bool (p x)) [
  | inl w ↦ let b = back x w in (rw w (rw b.1 (ap (λ z. z ∷ xs) b.0)), rw w (rw b.1 refl))
  | inr w ↦
      let none = or_parts (q x) (list_any q xs) n in
      let b = first_back p q f g back xs (rw w at h) none.1 in
      (rw w (rw none.0 (ap (λ zs. x ∷ zs) b.0)), rw w (rw none.0 b.1))
]

-- renaming by its two tests
abbrev tested : Bool → Bool → List Expr → Arguments
tested there taken made = if not there then Err NoAttribute else (if taken then Err AttributeExists else Ok made)

not_refused : (there taken : Bool) (made new : List Expr) → tested there taken made ≡ Ok new → (there ≡ true) × (taken ≡ false) × (made ≡ new)
not_refused true false made new e = (refl, refl, cc)
not_refused true true made new e = cc
not_refused false taken made new e = cc

pub renamed_back : RenamedBack
renamed_back from to xs new e n =
    let made : List Expr = on_first_that (is_attribute from) (renamed to) xs in
    let p : (has_attribute from xs ≡ true) × (has_attribute to xs ≡ false) × (made ≡ new) = not_refused (has_attribute from xs) (has_attribute to xs) made new e in
    let b = first_back (is_attribute from) (is_attribute to) (renamed to) (renamed from) (λ x w. argument_back from to x w) xs (sym (attribute_any from xs) ∙ p.0) (sym (attribute_any to xs) ∙ p.1) in
    both (λ (there taken : Bool). tested there taken (on_first_that (is_attribute to) (renamed from) new)) (sym (ap (has_attribute to) p.2) ∙ (attribute_any to made ∙ b.1)) n
    ∙ ap Ok (sym (ap (on_first_that (is_attribute to) (renamed from)) p.2) ∙ b.0)
