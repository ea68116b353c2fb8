-- A named argument with another value: its name, and its value once more changed.
use Rattle.bz_attribute.proofs.Words.{[], ◌||◌, ◌∙◌, ◌∷◌, ◌≡◌, ap, Bool, by_test, Bytes, cases_Bool, Class as c, Expr, false, Form, has_kind, if◌then◌else◌, inl, inr, is_attribute, is_kind, is_some, is_text, Kind as k, List, list_any, None, on_first_that, on_third, on_value, Option, parts_of, refl, slice_index_or, Some, subst, sym, text_in, true, true≢false, value_after, value_named, with_parts, with_value, without, without_first}
use Rattle.bz_value.specs.declared.value.Expr.TheVariants as e
use Rattle.bz_attribute.proofs.FormsAgain.{if_false, row_changed, row_twice, own_value, value_changed, three_parts}
use Rattle.bz_attribute.proofs.MakingForms.{part_list}

pub parts_Form : (f : Form) → parts_of (e.Form f) ≡ f.parts
parts_Form f = part_list f

-- ---- the value of a named argument

third_of : (name : Bytes) (ps : List Expr) (other : Expr) (found : Option Expr) → value_after name ps ≡ found → is_some found ≡ true → Some (slice_index_or ps 2 other) ≡ found
third_of name ps other None e some = absurd (true≢false (sym some))
third_of name ps other (Some v) e some = subst (λ (qs : List Expr). Some (slice_index_or qs 2 other) ≡ Some v) (sym (three_parts name v ps e).are) refl

-- where a form is an attribute of the name, its value is its third part
pub value_taken : (name : Bytes) (f : Form) (x other : Expr) → x ≡ e.Form f → is_kind f.kind k.Named ≡ true → is_attribute name x ≡ true → Some (slice_index_or f.parts 2 other) ≡ value_named name x
value_taken name f x other same is some =
    let own : value_named name x ≡ value_after name f.parts = ap (value_named name) same ∙ (own_value name (e.Form f) is ∙ ap (value_after name) (parts_Form f)) in
    third_of name f.parts other (value_named name x) (sym own) some

-- ---- a named argument with another value

either_some : (b : Bool) (x y : Expr) → is_some (if b then Some x else None) ≡ is_some (if b then Some y else None)
either_some true x y = refl
either_some false x y = refl

after_third : (name : Bytes) (v : Expr) (ps : List Expr) → is_some (value_after name (on_third (λ _. v) ps)) ≡ is_some (value_after name ps)
after_third name v [] = refl
after_third name v (x ∷ []) = refl
after_third name v (x ∷ y ∷ []) = refl
after_third name v (x ∷ y ∷ z ∷ []) = either_some (is_text name (text_in c.Name x)) v z
after_third name v (x ∷ y ∷ z ∷ w ∷ rest) = refl

third_twice : (v w : Expr) (ps : List Expr) → on_third (λ _. w) (on_third (λ _. v) ps) ≡ on_third (λ _. w) ps
third_twice v w [] = refl
third_twice v w (x ∷ []) = refl
third_twice v w (x ∷ y ∷ []) = refl
third_twice v w (x ∷ y ∷ z ∷ rest) = refl

pub same_name : (name : Bytes) (v x : Expr) → is_attribute name (on_value (λ _. v) x) ≡ is_attribute name x
same_name name v x = elim (cases_Bool (has_kind k.Named x)) [
  | inl is ↦ ap is_some (value_changed name (on_third (λ _. v)) x is) ∙ (after_third name v (parts_of x) ∙ sym (ap is_some (own_value name x is)))
  | inr n ↦ ap (is_attribute name) (if_false (has_kind k.Named x) (with_parts (on_third (λ _. v) (parts_of x)) x) x n)
]

pub value_twice : (v w x : Expr) → on_value (λ _. w) (on_value (λ _. v) x) ≡ on_value (λ _. w) x
value_twice v w x = elim (cases_Bool (has_kind k.Named x)) [
  | inl is ↦
      row_twice k.Named (on_third (λ _. w)) (on_third (λ _. v)) x is
      ∙ (ap (λ ps. with_parts ps x) (third_twice v w (parts_of x)) ∙ sym (row_changed k.Named (on_third (λ _. w)) x is))
  | inr n ↦ ap (on_value (λ _. w)) (if_false (has_kind k.Named x) (with_parts (on_third (λ _. v) (parts_of x)) x) x n)
]

-- ---- the first element that passes, changed

pub first_twice : {X : Type 0} (test : X → Bool) (f g h : X → X) → ((x : X) → test (f x) ≡ test x) → ((x : X) → g (f x) ≡ h x) → (xs : List X) → on_first_that test g (on_first_that test f xs) ≡ on_first_that test h xs
first_twice test f g h same both [] = refl
first_twice test f g h same both (x ∷ xs) = elim (cases_Bool (test x)) [
  | inl t ↦ rw t (rw (same x ∙ t) (ap (λ y. y ∷ xs) (both x)))
  | inr t ↦ rw (t, t) (ap (λ ys. x ∷ ys) (first_twice test f g h same both xs))
]

pub first_gone : {X : Type 0} (test : X → Bool) (f : X → X) → ((x : X) → test (f x) ≡ test x) → (xs : List X) → without_first test (on_first_that test f xs) ≡ without_first test xs
first_gone test f same [] = refl
first_gone test f same (x ∷ xs) = elim (cases_Bool (test x)) [
  | inl t ↦ rw t (rw (same x ∙ t) refl)
  | inr t ↦ rw (t, t) (ap (λ ys. x ∷ ys) (first_gone test f same xs))
]

-- a test that the change doesn't touch
pub any_same : {X : Type 0} (test : X → Bool) (f : X → X) (p : X → Bool) → ((x : X) → p (f x) ≡ p x) → (xs : List X) → list_any p (on_first_that test f xs) ≡ list_any p xs
any_same test f p same [] = refl
any_same test f p same (x ∷ xs) =
    by_test (λ ys. list_any p ys ≡ list_any p (x ∷ xs)) (test x) (f x ∷ xs) (x ∷ on_first_that test f xs)
    (ap (λ b. b || list_any p xs) (same x)) (ap (λ b. p x || b) (any_same test f p same xs))

pub with_value_twice : (name : Bytes) (v w : Expr) (xs : List Expr) → with_value name w (with_value name v xs) ≡ with_value name w xs
with_value_twice name v w xs = first_twice (is_attribute name) (on_value (λ _. v)) (on_value (λ _. w)) (on_value (λ _. w)) (same_name name v) (value_twice v w) xs

pub without_value : (name : Bytes) (v : Expr) (xs : List Expr) → without name (with_value name v xs) ≡ without name xs
without_value name v xs = first_gone (is_attribute name) (on_value (λ _. v)) (same_name name v) xs
