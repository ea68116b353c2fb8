-- Expressions whose parts or items were changed, once and back again; named arguments; and tests in turn.
use Rattle.bz_attribute.proofs.Words.{[], ◌||◌, ◌∙◌, ◌∷◌, ◌≡◌, ap, attribute, Bool, Bytes, cases_Bool, Class as c, Expr, false, Form, Form', has_attribute, has_kind, if◌then◌else◌, inl, inr, is_attribute, is_kind, is_some, is_text, items-the_row-Expr, items_hidden-the_row-Expr-0, items_of, Kind, Kind as k, List, list_any, None, on_first_that, on_items, on_row, Option, option_and_then, option_or, parts_of, refl, Some, sym, text_in, Token, true, true≢false, value_after, value_named, with_items, with_parts}
use Rattle.bz_value.specs.declared.value.Expr.TheVariants as e
pub use Rattle.bz_rule.proofs.Opened.{made, own_parts, own_items}

-- ---- tests

pub if_true : {X : Type 0} (b : Bool) (x y : X) → b ≡ true → (if b then x else y) ≡ x
if_true b x y h = rw h refl

pub if_false : {X : Type 0} (b : Bool) (x y : X) → b ≡ false → (if b then x else y) ≡ y
if_false b x y h = rw h refl

-- either way the same
pub if_either : {X : Type 0} (b : Bool) (x y z : X) → x ≡ z → y ≡ z → (if b then x else y) ≡ z
if_either true x y z h i = h
if_either false x y z h i = i

pub both : {X Y Z : Type 0} (f : X → Y → Z) {h h' : X} {i i' : Y} → h ≡ h' → i ≡ i' → f h i ≡ f h' i'
both f {h} {h'} {i} {i'} d e = ap (λ z. f z i) d ∙ ap (λ z. f h' z) e

-- what is found after a test
pub some_if : {X : Type 0} (b : Bool) (found : Option X) → is_some (if b then found else None) ≡ true → (b ≡ true) × (is_some found ≡ true)
some_if true found h = (refl, h)
some_if false found h = absurd (true≢false (sym h))

pub found_if : {X : Type 0} (b : Bool) (found : Option X) (x : X) → (if b then found else None) ≡ Some x → (b ≡ true) × (found ≡ Some x)
found_if true found x h = (refl, h)
found_if false found x h = cc

pub then_if : {X Y : Type 0} (b : Bool) (f : X → Option Y) (x : X) → option_and_then f (if b then Some x else None) ≡ (if b then f x else None)
then_if true f x = refl
then_if false f x = refl

-- ---- other parts, and other items

pub parts_kind : (kind : Kind) (xs : List Expr) (x : Expr) → has_kind kind (with_parts xs x) ≡ has_kind kind x
parts_kind kind xs (Token t) = refl
parts_kind kind xs (Form' own s parts s' items end split open_break comments) = refl

pub items_kind : (kind : Kind) (xs : List Expr) (x : Expr) → has_kind kind (with_items xs x) ≡ has_kind kind x
items_kind kind xs (Token t) = refl
items_kind kind xs (Form' own s parts s' items end split open_break comments) = refl

pub parts_filled : (kind : Kind) (xs : List Expr) (x : Expr) → has_kind kind x ≡ true → parts_of (with_parts xs x) ≡ xs
parts_filled kind xs (Token t) h = absurd (true≢false (sym h))
parts_filled kind xs (Form' own s parts s' items end split open_break comments) h = items_hidden-the_row-Expr-0 xs

pub items_filled : (kind : Kind) (xs : List Expr) (x : Expr) → has_kind kind x ≡ true → items_of (with_items xs x) ≡ xs
items_filled kind xs (Token t) h = absurd (true≢false (sym h))
items_filled kind xs (Form' own s parts s' items end split open_break comments) h = items_hidden-the_row-Expr-0 xs

-- the items stay where the parts change
pub items_beside : (xs : List Expr) (x : Expr) → items_of (with_parts xs x) ≡ items_of x
items_beside xs (Token t) = refl
items_beside xs (Form' own s parts s' items end split open_break comments) = items_hidden-the_row-Expr-0 (items-the_row-Expr _ items)

pub parts_twice : (ys xs : List Expr) (x : Expr) → with_parts ys (with_parts xs x) ≡ with_parts ys x
parts_twice ys xs (Token t) = refl
parts_twice ys xs (Form' own s parts s' items end split open_break comments) =
    ap (λ i. e.Form (made own ys i end split open_break comments)) (items_hidden-the_row-Expr-0 (items-the_row-Expr _ items))

pub items_twice : (ys xs : List Expr) (x : Expr) → with_items ys (with_items xs x) ≡ with_items ys x
items_twice ys xs (Token t) = refl
items_twice ys xs (Form' own s parts s' items end split open_break comments) =
    ap (λ p. e.Form (made own p ys end split open_break comments)) (items_hidden-the_row-Expr-0 (items-the_row-Expr _ parts))

-- ---- the row of a kind

pub row_changed : (kind : Kind) (change : List Expr → List Expr) (x : Expr) → has_kind kind x ≡ true → on_row kind change x ≡ with_parts (change (parts_of x)) x
row_changed kind change x h = if_true (has_kind kind x) (with_parts (change (parts_of x)) x) x h

pub items_changed : (kind : Kind) (change : List Expr → List Expr) (x : Expr) → has_kind kind x ≡ true → on_items kind change x ≡ with_items (change (items_of x)) x
items_changed kind change x h = if_true (has_kind kind x) (with_items (change (items_of x)) x) x h

-- a change that leaves the row as it is
pub row_same : (kind : Kind) (change : List Expr → List Expr) (x : Expr) → change (parts_of x) ≡ parts_of x → on_row kind change x ≡ x
row_same kind change x h = if_either (has_kind kind x) (with_parts (change (parts_of x)) x) x x (ap (λ ps. with_parts ps x) h ∙ own_parts x) refl

pub items_same : (kind : Kind) (change : List Expr → List Expr) (x : Expr) → change (items_of x) ≡ items_of x → on_items kind change x ≡ x
items_same kind change x h = if_either (has_kind kind x) (with_items (change (items_of x)) x) x x (ap (λ xs. with_items xs x) h ∙ own_items x) refl

-- two changes in turn
pub row_twice : (kind : Kind) (f g : List Expr → List Expr) (x : Expr) → has_kind kind x ≡ true → on_row kind f (on_row kind g x) ≡ with_parts (f (g (parts_of x))) x
row_twice kind f g x h =
    rw (h, parts_kind kind (g (parts_of x)) x ∙ h, parts_filled kind (g (parts_of x)) x h) (parts_twice (f (g (parts_of x))) (g (parts_of x)) x)

-- ---- two changes, of which the second takes the first back

module _ (kind : Kind) (f g : List Expr → List Expr) where
  pub row_back : (x : Expr) → (has_kind kind x ≡ true → g (f (parts_of x)) ≡ parts_of x) → on_row kind g (on_row kind f x) ≡ x
  row_back x h = elim (cases_Bool (has_kind kind x)) [
    | inl is ↦ row_twice kind g f x is ∙ (ap (λ ps. with_parts ps x) (h is) ∙ own_parts x)
    | inr n ↦ rw (n, n) refl
  ]

  pub items_back : (x : Expr) → (has_kind kind x ≡ true → g (f (items_of x)) ≡ items_of x) → on_items kind g (on_items kind f x) ≡ x
  items_back x h = elim (cases_Bool (has_kind kind x)) [
    | inl is ↦
        rw (is, items_kind kind (f (items_of x)) x ∙ is, items_filled kind (f (items_of x)) x is)
        (items_twice (g (f (items_of x))) (f (items_of x)) x ∙ (ap (λ xs. with_items xs x) (h is) ∙ own_items x))
    | inr n ↦ rw (n, n) refl
  ]

-- ---- named arguments

-- the value of a named argument, by its kind and its parts
pub value_answered : (name : Bytes) (x : Expr) → value_named name x ≡ (if has_kind k.Named x then value_after name (parts_of x) else None)
value_answered name (Token t) = refl
value_answered name (Form' own s parts s' items end split open_break comments) =
    then_if (is_kind own k.Named) (λ (argument : Form). value_after name argument.parts) (made own (items-the_row-Expr _ parts) (items-the_row-Expr _ items) end split open_break comments)

pub own_value : (name : Bytes) (x : Expr) → has_kind k.Named x ≡ true → value_named name x ≡ value_after name (parts_of x)
own_value name x is = value_answered name x ∙ if_true (has_kind k.Named x) (value_after name (parts_of x)) None is

-- the parts of a named argument of this name and value
pub record AreThree (name : Bytes) (value : Expr) (ps : List Expr) : Type 0 where
  pub left : Expr
  pub sign : Expr
  pub are : ps ≡ left ∷ sign ∷ value ∷ []
  pub is : is_text name (text_in c.Name left) ≡ true

pub three_parts : (name : Bytes) (value : Expr) (ps : List Expr) → value_after name ps ≡ Some value → AreThree name value ps
three_parts name value (x ∷ y ∷ v ∷ []) h =
    let p = found_if (is_text name (text_in c.Name x)) (Some v) value h in
    let own : Some v ≡ Some value = p.1 in
    let same : v ≡ value = cc in
    record { left = x; sign = y; are = ap (λ z. x ∷ y ∷ z ∷ []) same; is = p.0 }
three_parts name value [] h = absurd cc
three_parts name value (x ∷ []) h = absurd cc
three_parts name value (x ∷ y ∷ []) h = absurd cc
three_parts name value (x ∷ y ∷ v ∷ w ∷ rest) h = absurd cc

pub attribute_parts : (name : Bytes) (x : Expr) → is_attribute name x ≡ true → (has_kind k.Named x ≡ true) × (is_some (value_after name (parts_of x)) ≡ true)
attribute_parts name x h = some_if (has_kind k.Named x) (value_after name (parts_of x)) (sym (ap (λ (found : Option Expr). is_some found) (value_answered name x)) ∙ h)

pub value_parts : (name : Bytes) (value x : Expr) → value_named name x ≡ Some value → (has_kind k.Named x ≡ true) × (value_after name (parts_of x) ≡ Some value)
value_parts name value x h = found_if (has_kind k.Named x) (value_after name (parts_of x)) value (sym (value_answered name x) ∙ h)

-- the value of a named argument whose row was changed
pub value_changed : (name : Bytes) (change : List Expr → List Expr) (x : Expr) → has_kind k.Named x ≡ true → value_named name (on_row k.Named change x) ≡ value_after name (change (parts_of x))
value_changed name change x h =
    let y : Expr = with_parts (change (parts_of x)) x in
    ap (value_named name) (row_changed k.Named change x h)
    ∙ (own_value name y (parts_kind k.Named (change (parts_of x)) x ∙ h) ∙ ap (value_after name) (parts_filled k.Named (change (parts_of x)) x h))

-- ---- attributes among arguments

some_or : {X : Type 0} (found rest : Option X) → is_some (option_or found rest) ≡ (is_some found || is_some rest)
some_or None rest = refl
some_or (Some x) rest = refl

pub attribute_first : (name : Bytes) (x : Expr) (xs : List Expr) → has_attribute name (x ∷ xs) ≡ (is_attribute name x || has_attribute name xs)
attribute_first name x xs = some_or (value_named name x) (attribute name xs)

-- some argument has the name
pub attribute_any : (name : Bytes) (xs : List Expr) → has_attribute name xs ≡ list_any (is_attribute name) xs
attribute_any name [] = refl
attribute_any name (x ∷ xs) = attribute_first name x xs ∙ ap (λ there. is_attribute name x || there) (attribute_any name xs)

-- What holds where the first attribute changes, and still where another argument comes before it, holds of all arguments.
module _ (R : List Expr → List Expr → Type 0) (name : Bytes) (value : Expr) (change : Expr → Expr)
    (here : (x : Expr) (xs : List Expr) → value_named name x ≡ Some value → R (x ∷ xs) (change x ∷ xs))
    (later : (x : Expr) (xs ys : List Expr) → value_named name x ≡ None → R xs ys → R (x ∷ xs) (x ∷ ys)) where
  first_step : (found : Option Expr) (x : Expr) (xs ys : List Expr) → value_named name x ≡ found → option_or found (attribute name xs) ≡ Some value → (attribute name xs ≡ Some value → R xs ys)
      → R (x ∷ xs) (if is_some found then change x ∷ xs else x ∷ ys)
  first_step None x xs ys d e f = later x xs ys d (f e)
  first_step (Some v) x xs ys d e f = here x xs (d ∙ e)

  pub by_first : (xs : List Expr) → attribute name xs ≡ Some value → R xs (on_first_that (is_attribute name) change xs)
  by_first [] e = absurd cc
  by_first (x ∷ xs) e = first_step (value_named name x) x xs (on_first_that (is_attribute name) change xs) refl e (by_first xs)
