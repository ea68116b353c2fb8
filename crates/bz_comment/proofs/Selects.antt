-- The items of a value's lists, operand by operand; and the entries of a `select`, changed.
use Rattle.bz_comment.proofs.Words.{[], ◌&&◌, ◌++◌, ◌∙◌, ◌∷◌, ◌≡◌, and_parts, ap, append_assoc, both, by_case, by_test, Class as c, codes, Entered, entries_in, entries_of, Expr, false, flat_map, Form', has_kind, if_false, if_true, is_first_dict, is_kind, is_select, is_text, items-the_row-Expr, items_at, items_back, items_filled, items_hidden-the_row-Expr-0, items_in, items_kind, items_of, Kind, Kind as k, List, listed, on_first, on_items, only, operands_in, operands_of, option_and_then, parts_of, refl, Selects, Skipped, subst, sym, text_in, Token, true, true≢false, Bool, with_branches, with_items}
use Rattle.bz_attribute.proofs.ListsThere as each

-- ---- items

joined : (one other : List Expr) → flat_map listed (one ++ other) ≡ flat_map listed one ++ flat_map listed other
joined [] other = refl
joined (x ∷ one) other = ap (λ zs. listed x ++ zs) (joined one other) ∙ sym (append_assoc (listed x) (flat_map listed one) (flat_map listed other))

-- the items of lists that are found among several expressions each
in_turn : (places : Expr → List Expr) (xs : List Expr) → flat_map listed (flat_map places xs) ≡ flat_map (λ x. flat_map listed (places x)) xs
in_turn places [] = refl
in_turn places (x ∷ xs) = joined (places x) (flat_map places xs) ∙ ap (λ zs. flat_map listed (places x) ++ zs) (in_turn places xs)

like : (one other : Expr → List Expr) → ((x : Expr) → one x ≡ other x) → (xs : List Expr) → flat_map one xs ≡ flat_map other xs
like one other same [] = refl
like one other same (x ∷ xs) = both (λ a b. a ++ b) (same x) (like one other same xs)

at_operand : (x : Expr) → flat_map listed (with_branches x) ≡ items_at Entered x
at_operand x = ap (λ zs. listed x ++ zs) (in_turn operands_in (entries_of x))

pub items_there : (selects : Selects) (value : Expr) → flat_map (items_at selects) (operands_of value) ≡ items_in selects value
items_there Skipped value = sym (each.items_there Skipped value)
items_there Entered value =
    sym (each.items_there Entered value ∙ (in_turn with_branches (operands_of value) ∙ like (λ x. flat_map listed (with_branches x)) (items_at Entered) at_operand (operands_of value)))

-- a list is no `select`
call_kind : (kind : Kind) → is_kind kind k.Call ≡ true → is_kind kind k.List ≡ false
call_kind k.Call h = refl
call_kind _ h = absurd (true≢false (sym h))

call_no_list : (x : Expr) → has_kind k.Call x ≡ true → has_kind k.List x ≡ false
call_no_list (Token t) h = refl
call_no_list (Form' kind s parts s' items end split open_break comments) h = call_kind kind h

pub list_no_select : (x : Expr) → has_kind k.List x ≡ true → is_select x ≡ false
list_no_select x is = no_call (has_kind k.Call x) (has_kind k.List x) _ (call_no_list x) is
  where
    no_call : (call list rest : Bool) → (call ≡ true → list ≡ false) → list ≡ true → (call && rest) ≡ false
    no_call false list rest h is = refl
    no_call true list rest h is = absurd (true≢false (sym is ∙ h refl))

pub select_no_list : (x : Expr) → is_select x ≡ true → listed x ≡ []
select_no_list x is = if_false (has_kind k.List x) (items_of x) [] (call_no_list x (and_parts (has_kind k.Call x) _ is).0)

-- ---- the entries of a `select`

parts_beside : (xs : List Expr) (x : Expr) → parts_of (with_items xs x) ≡ parts_of x
parts_beside xs (Token t) = refl
parts_beside xs (Form' own s parts s' items end split open_break comments) = items_hidden-the_row-Expr-0 (items-the_row-Expr _ parts)

module _ (change : List Expr → List Expr) where
  abbrev within : List Expr → List Expr
  within = on_first (on_items k.Dict change)

  abbrev changed : Expr → Expr
  changed x = on_items k.Call within x

  dict_kind : (kind : Kind) (x : Expr) → has_kind kind (on_items k.Dict change x) ≡ has_kind kind x
  dict_kind kind x = by_test (λ y. has_kind kind y ≡ has_kind kind x) (has_kind k.Dict x) (with_items (change (items_of x)) x) x (items_kind kind (change (items_of x)) x) refl

  pub select_kind : (kind : Kind) (x : Expr) → has_kind kind (changed x) ≡ has_kind kind x
  select_kind kind x = by_test (λ y. has_kind kind y ≡ has_kind kind x) (has_kind k.Call x) (with_items (within (items_of x)) x) x (items_kind kind (within (items_of x)) x) refl

  dict_first : (xs : List Expr) → is_first_dict (within xs) ≡ is_first_dict xs
  dict_first [] = refl
  dict_first (x ∷ xs) = dict_kind k.Dict x

  pub select_same : (x : Expr) → is_select (changed x) ≡ is_select x
  select_same x =
      by_case (λ y. is_select y ≡ is_select x) (has_kind k.Call x) (with_items (within (items_of x)) x) x
      (λ is.
      let y : Expr = with_items (within (items_of x)) x in
      both (λ a b. a && b) (items_kind k.Call (within (items_of x)) x)
      (both (λ ps b. is_text (codes "select") (option_and_then (text_in c.Name) (only ps)) && b) (parts_beside (within (items_of x)) x)
      (ap is_first_dict (items_filled k.Call (within (items_of x)) x is) ∙ dict_first (items_of x))))
      (λ n. refl)

  first_entries : (xs : List Expr) → is_first_dict xs ≡ true → entries_in (within xs) ≡ change (entries_in xs)
  first_entries [] h = absurd (true≢false (sym h))
  first_entries (x ∷ xs) h = ap items_of (if_true (has_kind k.Dict x) (with_items (change (items_of x)) x) x h) ∙ items_filled k.Dict (change (items_of x)) x h

  pub entries_changed : (x : Expr) → is_select x ≡ true → entries_of (changed x) ≡ change (entries_of x)
  entries_changed x is =
      let p = and_parts (has_kind k.Call x) _ is in
      let q = and_parts (is_text (codes "select") (option_and_then (text_in c.Name) (only (parts_of x)))) (is_first_dict (items_of x)) p.1 in
      if_true (is_select (changed x)) (entries_in (items_of (changed x))) [] (select_same x ∙ is)
      ∙ (ap entries_in (ap items_of (if_true (has_kind k.Call x) (with_items (within (items_of x)) x) x p.0) ∙ items_filled k.Call (within (items_of x)) x p.0)
      ∙ (first_entries (items_of x) q.1 ∙ ap change (sym (if_true (is_select x) (entries_in (items_of x)) [] is))))

firsts_back : (f g : List Expr → List Expr) (xs : List Expr) → g (f (entries_in xs)) ≡ entries_in xs → on_first (on_items k.Dict g) (on_first (on_items k.Dict f) xs) ≡ xs
firsts_back f g [] h = refl
firsts_back f g (x ∷ xs) h = ap (λ y. y ∷ xs) (items_back k.Dict f g x (λ is. h))

pub select_back : (f g : List Expr → List Expr) (x : Expr) → is_select x ≡ true → g (f (entries_of x)) ≡ entries_of x → changed g (changed f x) ≡ x
select_back f g x is h =
    items_back k.Call (on_first (on_items k.Dict f)) (on_first (on_items k.Dict g)) x
    (λ call. firsts_back f g (items_of x) (subst (λ es. g (f es) ≡ es) (if_true (is_select x) (entries_in (items_of x)) [] is) h))
