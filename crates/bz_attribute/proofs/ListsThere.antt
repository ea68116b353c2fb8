-- Whether a value has lists, and their items, one list after the other.
use Rattle.bz_attribute.proofs.Words.{[], ◌&&◌, ◌++◌, ◌||◌, ◌∙◌, ◌∷◌, ◌≡◌, ap, append-nil, Bool, branches_of, entries_of, Expr, false, filter, flat_map, Form', has_kind, has_lists, if◌then◌else◌, is_empty, is_kind, items_in, items_of, Kind, Kind as k, List, list_any, list_places, listed, not, operands_in, operands_of, parts_of, refl, Selects, sym, Token, true, true≢false, with_branches}
use Rattle.std.proofs.lemmas.List.Folds.{list_any-append}
use Rattle.bz_command_syntax.specs.declared.command.Selects.TheVariants.{Skipped, Entered}

some_step : {X : Type 0} (b c : Bool) (x : X) (xs : List X) → not (is_empty xs) ≡ c → not (is_empty (if b then x ∷ xs else xs)) ≡ (b || c)
some_step true c x xs h = refl
some_step false c x xs h = h

pub some_filtered : {X : Type 0} (test : X → Bool) (xs : List X) → not (is_empty (filter test xs)) ≡ list_any test xs
some_filtered test [] = refl
some_filtered test (x ∷ xs) = some_step (test x) (list_any test xs) x (filter test xs) (some_filtered test xs)

-- by the operands of a sum, and by a value alone
at_operands : {X : Type 0} (f : List Expr → X) (value : Expr) → f (operands_of value) ≡ (if has_kind k.Sum value then f (parts_of value) else f (value ∷ []))
at_operands f value = by (has_kind k.Sum value)
  where
    by : (b : Bool) → f (if b then parts_of value else value ∷ []) ≡ (if b then f (parts_of value) else f (value ∷ []))
    by true = refl
    by false = refl

pub lists_in : (selects : Selects) (value : Expr) → list_any (has_kind k.List) (list_places selects value) ≡ has_lists selects value
lists_in selects value = sym (some_filtered (has_kind k.List) (list_places selects value))

-- a sum is no list
sum_kind : (kind : Kind) → is_kind kind k.Sum ≡ true → is_kind kind k.List ≡ false
sum_kind k.Sum h = refl
sum_kind _ h = absurd (true≢false (sym h))

pub sum_no_list : (x : Expr) → has_kind k.Sum x ≡ true → has_kind k.List x ≡ false
sum_no_list (Token t) h = refl
sum_no_list (Form' kind s parts s' items end split open_break comments) h = sum_kind kind h

listed_step : (b : Bool) (x : Expr) (xs : List Expr) (ys : List Expr) → flat_map items_of xs ≡ ys → flat_map items_of (if b then x ∷ xs else xs) ≡ (if b then items_of x else []) ++ ys
listed_step true x xs ys h = ap (λ zs. items_of x ++ zs) h
listed_step false x xs ys h = h

each_listed : (xs : List Expr) → flat_map items_of (filter (has_kind k.List) xs) ≡ flat_map listed xs
each_listed [] = refl
each_listed (x ∷ xs) = listed_step (has_kind k.List x) x (filter (has_kind k.List) xs) (flat_map listed xs) (each_listed xs)

pub items_there : (selects : Selects) (value : Expr) → items_in selects value ≡ flat_map listed (list_places selects value)
items_there selects value = each_listed (list_places selects value)

pub in_sum : (value : Expr) → has_kind k.Sum value ≡ true → flat_map listed (parts_of value) ≡ items_in Skipped value
in_sum value h = sym (items_there Skipped value ∙ (at_operands (flat_map listed) value ∙ ap (λ b. if b then flat_map listed (parts_of value) else flat_map listed (value ∷ [])) h))

pub in_value : (value : Expr) → has_kind k.Sum value ≡ false → flat_map listed (value ∷ []) ≡ items_in Skipped value
in_value value h = sym (items_there Skipped value ∙ (at_operands (flat_map listed) value ∙ ap (λ b. if b then flat_map listed (parts_of value) else flat_map listed (value ∷ [])) h))

pub lists_there : (value : Expr) → has_lists Skipped value ≡ (has_kind k.List value || (has_kind k.Sum value && list_any (has_kind k.List) (parts_of value)))
lists_there value =
    sym (lists_in Skipped value) ∙ (at_operands (list_any (has_kind k.List)) value ∙ by (has_kind k.Sum value) (has_kind k.List value) (list_any (has_kind k.List) (parts_of value)) (sum_no_list value))
  where
    by : (sum list any : Bool) → (sum ≡ true → list ≡ false) → (if sum then any else (list || false)) ≡ (list || (sum && any))
    by true list any h = rw (h refl) refl
    by false true any h = refl
    by false false any h = refl

-- ---- whether an item passes a test

pub any_flat : {X : Type 0} (test : X → Bool) (f : Expr → List X) (xs : List Expr) → list_any (λ x. list_any test (f x)) xs ≡ list_any test (flat_map f xs)
any_flat test f [] = refl
any_flat test f (x ∷ xs) = ap (λ z. list_any test (f x) || z) (any_flat test f xs) ∙ sym (list_any-append test (f x) (flat_map f xs))

pub any_listed : (test : Expr → Bool) (xs : List Expr) → list_any test (flat_map listed xs) ≡ list_any (λ x. list_any test (listed x)) xs
any_listed test xs = sym (any_flat test listed xs)

-- whether a list is in the branches, and in or among the operands
pub any_branch : (x : Expr) → list_any (λ entry. list_any (has_kind k.List) (operands_in entry)) (entries_of x) ≡ list_any (has_kind k.List) (branches_of x)
any_branch x = any_flat (has_kind k.List) operands_in (entries_of x)

pub lists_entered : (value : Expr) → list_any (λ x. list_any (has_kind k.List) (with_branches x)) (operands_of value) ≡ has_lists Entered value
lists_entered value = any_flat (has_kind k.List) with_branches (operands_of value) ∙ lists_in Entered value

pub any_in_sum : (test : Expr → Bool) (value : Expr) → has_kind k.Sum value ≡ true → list_any test (items_in Skipped value) ≡ list_any (λ x. list_any test (listed x)) (parts_of value)
any_in_sum test value h = ap (list_any test) (sym (in_sum value h)) ∙ any_listed test (parts_of value)

pub any_alone : (test : Expr → Bool) (value : Expr) → has_kind k.Sum value ≡ false → list_any test (items_in Skipped value) ≡ list_any test (listed value)
any_alone test value h = ap (list_any test) (sym (in_value value h) ∙ append-nil (listed value))
