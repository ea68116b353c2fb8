-- Attributes that are there and absent ones, values that are put in again, and what is made where nothing is refused.
use Rattle.bz_attribute.proofs.Words.{[], ◌∙◌, ◌∷◌, ◌≡◌, ap, argument_of, Arguments, attribute, by_test, by_value, Bytes, bytes_eq, bytes_eq-Decides, Class as c, codes, Expr, false, has_attribute, has_kind, inserted, is_attribute, is_some, is_text, items_hidden-the_row-Expr-0, Kind, Kind as k, List, mark, node, None, Ok, on_third, on_value, Option, option_or, or_parts, parts_of, refl, Some, subst, sym, text_in, true≢false, value_after, value_named, with_new, with_value, without}
use Rattle.bz_attribute.specs.Made as new
use Rattle.bz_attribute.proofs.FormsAgain.{if_true, if_false, row_same, value_answered, value_parts, value_changed, three_parts, attribute_first, by_first}

-- ---- by an attribute that is there, and by one that is absent

pub by_there : (found : Option Expr) (value : Expr) (absent : Arguments) (there : Expr → Arguments) → found ≡ Some value → by_value found absent there ≡ there value
by_there found value absent there e = ap (λ (o : Option Expr). by_value o absent there) e

pub by_absent : (found : Option Expr) (absent : Arguments) (there : Expr → Arguments) → is_some found ≡ false → by_value found absent there ≡ absent
by_absent None absent there h = refl
by_absent (Some value) absent there h = absurd (true≢false h)

-- what holds either way
pub of_found : (P : Arguments → Type 0) (found : Option Expr) (absent : Arguments) (there : Expr → Arguments) → P absent → ((value : Expr) → found ≡ Some value → P (there value)) → P (by_value found absent there)
of_found P None absent there h f = h
of_found P (Some value) absent there h f = f value refl

-- ---- what is made where nothing is refused

pub same_made : (xs ys : List Expr) (result : Arguments) → result ≡ Ok xs → result ≡ Ok ys → xs ≡ ys
same_made xs ys result d e = cc

-- ---- the value that is there

third_same : (name : Bytes) (value : Expr) (ps : List Expr) → value_after name ps ≡ Some value → on_third (λ old. value) ps ≡ ps
third_same name value ps h = subst (λ (qs : List Expr). on_third (λ old. value) qs ≡ qs) (sym (three_parts name value ps h).are) refl

value_same : (name : Bytes) (value x : Expr) → value_named name x ≡ Some value → on_value (λ old. value) x ≡ x
value_same name value x h = row_same k.Named (on_third (λ old. value)) x (third_same name value (parts_of x) (value_parts name value x h).1)

pub with_value_same : (name : Bytes) (value : Expr) (xs : List Expr) → attribute name xs ≡ Some value → with_value name value xs ≡ xs
with_value_same name value xs e =
    by_first (λ ys zs. zs ≡ ys) name value (on_value (λ old. value)) (λ x ys h. ap (λ z. z ∷ ys) (value_same name value x h)) (λ x ys zs n h. ap (λ ws. x ∷ ws) h) xs e

-- ---- a new argument

pub node_parts : (kind : Kind) (ps : List Expr) → parts_of (node kind ps) ≡ ps
node_parts kind ps = items_hidden-the_row-Expr-0 ps

new_value : (name : Bytes) (value : Expr) → value_named name (argument_of name value) ≡ Some value
new_value name value =
    value_answered name (argument_of name value)
    ∙ (ap (value_after name) (node_parts k.Named (new.name name ∷ mark (codes "=") ∷ value ∷ []))
    ∙ if_true (bytes_eq name name) (Some value) None ((bytes_eq-Decides name name).1 refl))

-- ---- a new attribute

pub none_found : {X : Type 0} (found : Option X) → is_some found ≡ false → found ≡ None
none_found None h = refl
none_found (Some x) h = absurd (true≢false h)

none_first : (name : Bytes) (x : Expr) (xs : List Expr) → has_attribute name (x ∷ xs) ≡ false → (is_attribute name x ≡ false) × (has_attribute name xs ≡ false)
none_first name x xs h = or_parts (is_attribute name x) (has_attribute name xs) (sym (attribute_first name x xs) ∙ h)

-- what is first is found
found_first : (name : Bytes) (value x : Expr) (xs : List Expr) → value_named name x ≡ Some value → attribute name (x ∷ xs) ≡ Some value
found_first name value x xs h = ap (λ (found : Option Expr). option_or found (attribute name xs)) h

-- what is after another argument is found
found_after : (name : Bytes) (value x : Expr) (xs : List Expr) → value_named name x ≡ None → attribute name xs ≡ Some value → attribute name (x ∷ xs) ≡ Some value
found_after name value x xs n h = ap (λ (found : Option Expr). option_or found (attribute name xs)) n ∙ h

pub attribute_new : (name : Bytes) (value : Expr) (xs : List Expr) → has_attribute name xs ≡ false → attribute name (with_new name value xs) ≡ Some value
attribute_new name value [] h = found_first name value (argument_of name value) [] (new_value name value)
attribute_new name value (x ∷ xs) h =
    let argument : Expr = argument_of name value in
    let p = none_first name x xs h in
    by_test (λ (ys : List Expr). attribute name ys ≡ Some value) (has_kind k.Star x) (argument ∷ x ∷ xs) (x ∷ inserted argument xs)
    (found_first name value argument (x ∷ xs) (new_value name value))
    (found_after name value x (inserted argument xs) (none_found (value_named name x) p.0) (attribute_new name value xs p.1))

pub without_new : (name : Bytes) (value : Expr) (xs : List Expr) → has_attribute name xs ≡ false → without name (with_new name value xs) ≡ xs
without_new name value [] h =
    let argument : Expr = argument_of name value in
    if_true (is_attribute name argument) [] (argument ∷ []) (ap (λ (found : Option Expr). is_some found) (new_value name value))
without_new name value (x ∷ xs) h =
    let argument : Expr = argument_of name value in
    let p = none_first name x xs h in
    by_test (λ (ys : List Expr). without name ys ≡ x ∷ xs) (has_kind k.Star x) (argument ∷ x ∷ xs) (x ∷ inserted argument xs)
    (if_true (is_attribute name argument) (x ∷ xs) (argument ∷ without name (x ∷ xs)) (ap (λ (found : Option Expr). is_some found) (new_value name value)))
    (if_false (is_attribute name x) (inserted argument xs) (x ∷ without name (inserted argument xs)) p.0 ∙ ap (λ zs. x ∷ zs) (without_new name value xs p.1))

-- ---- another value

third_found : (name : Bytes) (value other : Expr) (ps : List Expr) → value_after name ps ≡ Some value → value_after name (on_third (λ old. other) ps) ≡ Some other
third_found name value other ps h =
    let three = three_parts name value ps h in
    subst (λ (qs : List Expr). value_after name (on_third (λ old. other) qs) ≡ Some other) (sym three.are) (if_true (is_text name (text_in c.Name three.left)) (Some other) None three.is)

value_found : (name : Bytes) (value other x : Expr) → value_named name x ≡ Some value → value_named name (on_value (λ old. other) x) ≡ Some other
value_found name value other x h =
    let p = value_parts name value x h in
    value_changed name (on_third (λ old. other)) x p.0 ∙ third_found name value other (parts_of x) p.1

pub attribute_changed : (name : Bytes) (value other : Expr) (xs : List Expr) → attribute name xs ≡ Some value → attribute name (with_value name other xs) ≡ Some other
attribute_changed name value other xs e =
    by_first (λ ys zs. attribute name zs ≡ Some other) name value (on_value (λ old. other))
    (λ x ys h. found_first name other (on_value (λ old. other) x) ys (value_found name value other x h)) (λ x ys zs n h. found_after name other x zs n h) xs e
