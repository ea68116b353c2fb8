-- Tokens beside items; and an attribute that gets another name.
use Rattle.bz_change.proofs.Words.{[], ◌&&◌, ◌∙◌, ◌≡◌, ap, Arguments, attribute_any, AttributeExists, Bool, Bytes, each_same, eq-eqb, Err, Expr, false, has_attribute, if_false, if◌then◌else◌, is_attribute, Kind as k, length, List, list_all, list_any_at, list_any_none, mark, NoAttribute, None, not, Ok, on_first, on_first_that, on_row, position, rename, slice_get, slice_set, Some, sym, true, with_text, zip, ℕ}
use Rattle.bz_attribute.proofs.ArgumentPlaces as places

pub each_beside : (test : Expr → Expr → Bool) (xs ys : List Expr) → length xs ≡ length ys → list_all (λ pair. test pair.0 pair.1) (zip xs ys) ≡ each_same test xs ys
each_beside test xs ys same = sym (ap (λ (b : Bool). b && list_all (λ pair. test pair.0 pair.1) (zip xs ys)) (eq-eqb (length xs) (length ys) same))

pub attribute_there : (name : Bytes) (xs read : List Expr) (i : ℕ) → Some i ≡ position (is_attribute name) read → read ≡ xs → has_attribute name xs ≡ true
attribute_there name xs read i at same =
    let first = places.is_first (is_attribute name) xs i (mark []) (at ∙ ap (position (is_attribute name)) same) in
    attribute_any name xs ∙ list_any_at (is_attribute name) xs i (mark []) first.within (first.passes (mark []))

pub attribute_nowhere : (name : Bytes) (xs read : List Expr) → None ≡ position (is_attribute name) read → read ≡ xs → has_attribute name xs ≡ false
attribute_nowhere name xs read none same =
    attribute_any name xs ∙ list_any_none (is_attribute name) xs (places.none_passes (is_attribute name) xs (none ∙ ap (position (is_attribute name)) same)).all

-- what `rename` makes where nothing is refused
pub renamed : (from to text : Bytes) (xs read again : List Expr) (i : ℕ) (x new : Expr) → Some i ≡ position (is_attribute from) read → read ≡ xs → has_attribute to again ≡ false → again ≡ xs
    → slice_get xs i ≡ Some x → text ≡ to → new ≡ on_row k.Named (on_first (with_text text)) x → rename from to xs ≡ Ok (slice_set xs i new)
renamed from to text xs read again i x new at same free clear there is made =
    let change : Expr → Expr = on_row k.Named (on_first (with_text to)) in
    let all : Arguments = Ok (on_first_that (is_attribute from) change xs) in
    if_false {X = Arguments} (not (has_attribute from xs)) (Err NoAttribute) (if has_attribute to xs then Err AttributeExists else all) (ap not (attribute_there from xs read i at same))
    ∙ (if_false {X = Arguments} (has_attribute to xs) (Err AttributeExists) all (sym (ap (has_attribute to) clear) ∙ free)
    ∙ ap (λ (ys : List Expr). Ok ys) (sym (places.changed_there (is_attribute from) change xs i x new (at ∙ ap (position (is_attribute from)) same) there
    (made ∙ ap (λ (name : Bytes). on_row k.Named (on_first (with_text name)) x) is))))
