-- Whether an item is found, and whether a host is refused.
use Rattle.bz_comment.proofs.Words.{[], ◌+◌, ◌<◌, ◌∙◌, ◌∷◌, ◌≡◌, ◌≤◌, ap, Arguments, attribute, attribute_any, Bool, branch_items, Bytes, cases_Bool, changed_by, changed_comments, comments_made, comments_of, drop, Entered, entries_of, Err, Expr, false, find, find-append, flat_map, Form', found_comments, get_or, has_lists, Host, Host as h, HostComments, IfSome, if◌then◌else◌, inl, inr, is_attribute, is_host, is_item, is_some, item_comments, items_at, items_in, length, List, list_any, listed, no_comments, NoAttribute, None, not, NotAList, Ok, on_first_item, on_first_that, on_host, on_named_item, Option, option_copied, option_or, position, print_comment, put_value, refl, Refusal, Result, Selects, selects_of, slice_get, slice_set, Some, subst, sym, Token, true, value_answered, value_named, with_comments, with_value, ℕ}
use Rattle.bz_comment.specs.declared.changing.Change.{Change}
use Rattle.bz_comment.specs.declared.changing.Change.TheVariants.{Add, Remove}
use denote.Ref.{Bor}
use Rattle.std.proofs.lemmas.List.{at_drop_all, drop_more}
use Rattle.bz_attribute.proofs.ArgumentPlaces as places

pub found_any : {X : Type 0} (test : X → Bool) (xs : List X) → is_some (find test xs) ≡ list_any test xs
found_any test [] = refl
found_any test (x ∷ xs) = elim (cases_Bool (test x)) [
  | inl e ↦ simp e refl
  | inr e ↦ simp e (found_any test xs)
]

abbrev pub made_by : Bool → Bool → Expr → Result Expr Refusal
made_by lists there x = if not lists then Err NotAList else (if there then Ok x else Err NoAttribute)

-- what holds of the arguments with it, and of every refusal
pub by_made : (P : Arguments → Type 0) (name : Bytes) (lists there : Bool) (x : Expr) (xs : List Expr) → (there ≡ true → P (Ok (with_value name x xs))) → ((refusal : Refusal) → P (Err refusal)) → P (put_value name (made_by lists there x) xs)
by_made P name true true x xs h i = h refl
by_made P name true false x xs h i = i NoAttribute
by_made P name false there x xs h i = i NotAList

-- ---- a host is changed where its comments can be printed, and refused as they are

abbrev pub Answers : Result Bytes Refusal → Arguments → List Expr → Type 0
Answers (Ok text) made new = made ≡ Ok new
Answers (Err refusal) made new = made ≡ Err refusal

found_answers : (found : Option Expr) (new : List Expr) → Answers (found_comments found) (if is_some found then Ok new else Err NoAttribute) new
found_answers None new = refl
found_answers (Some x) new = refl

value_answers : (name : Bytes) (lists : Bool) (found : Option Expr) (x : Expr) (xs : List Expr)
    → Answers (if not lists then Err NotAList else found_comments found) (put_value name (made_by lists (is_some found) x) xs) (with_value name x xs)
value_answers name false found x xs = refl
value_answers name true None x xs = refl
value_answers name true (Some y) x xs = refl

-- what a change makes of the arguments, where the host is found
abbrev item_new : Selects → Bytes → (Expr → Bool) → (Expr → Expr) → Option Expr → List Expr → List Expr
item_new selects name test change None xs = xs
item_new selects name test change (Some value) xs = with_value name (on_first_item selects test change value) xs

abbrev host_new : Bytes → Host → (Expr → Expr) → List Expr → List Expr
host_new current h.Rule change xs = xs
host_new current (h.Attribute name) change xs = on_first_that (is_attribute name) change xs
host_new current (h.Item name word selects) change xs = item_new selects name (is_item current name word) change (attribute name xs) xs

item_answers : (selects : Selects) (name : Bytes) (test : Expr → Bool) (change : Expr → Expr) (found : Option Expr) (xs : List Expr)
    → Answers (item_comments selects test found) (on_named_item selects name test change found xs) (item_new selects name test change found xs)
item_answers selects name test change None xs = refl
item_answers selects name test change (Some value) xs =
    let new : Expr = on_first_item selects test change value in
    subst (λ there. Answers (item_comments selects test (Some value)) (put_value name (made_by (has_lists selects value) there new) xs) (with_value name new xs)) (found_any test (items_in selects value))
    (value_answers name (has_lists selects value) (find test (items_in selects value)) new xs)

module _ (current : Bytes) where
  host_answers : (host : Host) (own : HostComments) (change : Expr → Expr) (xs : List Expr) → Answers (print_comment current host own xs) (on_host current host change xs) (host_new current host change xs)
  host_answers h.Rule own change xs = refl
  host_answers (h.Attribute name) own change xs =
      let found : Option Expr = find (is_attribute name) xs in
      let new : List Expr = on_first_that (is_attribute name) change xs in
      subst (λ b. Answers (found_comments found) (if b then Ok new else Err NoAttribute) new) (found_any (is_attribute name) xs ∙ sym (attribute_any name xs)) (found_answers found new)
  host_answers (h.Item name word selects) own change xs = item_answers selects name (is_item current name word) change (attribute name xs) xs

  by_change : (change : Change) (host : Host) (xs : List Expr) → changed_comments change current host xs ≡ on_host current host (changed_by change) xs
  by_change (Add text) host xs = refl
  by_change Remove host xs = refl

  module _ (host : Host) (own : HostComments) (xs : List Expr) where
    told : (change : Expr → Expr) (r : Result Bytes Refusal) → r ≡ print_comment current host own xs → Answers r (on_host current host change xs) (host_new current host change xs)
    told change r e = subst (λ r. Answers r (on_host current host change xs) (host_new current host change xs)) (sym e) (host_answers host own change xs)

    pub host_refused : (change : Change) (read : List Expr) (refusal : Refusal) → read ≡ xs → Err refusal ≡ print_comment current host own read → changed_comments change current host xs ≡ Err refusal
    host_refused change read refusal same e = by_change change host xs ∙ told (changed_by change) (Err refusal) (e ∙ ap (print_comment current host own) same)

    pub host_changed : (change : Change) (read new : List Expr) (there : Bytes) → read ≡ xs → Ok there ≡ print_comment current host own read → new ≡ host_new current host (changed_by change) xs
        → changed_comments change current host xs ≡ Ok new
    host_changed change read new there same e made = by_change change host xs ∙ (told (changed_by change) (Ok there) (e ∙ ap (print_comment current host own) same) ∙ ap Ok (sym made))

    pub attribute_changed : (change : Expr → Expr) (name : Bytes) → host ≡ h.Attribute name → on_first_that (is_host current host) change xs ≡ host_new current host change xs
    attribute_changed change name is = subst (λ (other : Host). on_first_that (is_host current other) change xs ≡ host_new current other change xs) (sym is) refl

    pub item_changed : (change : Expr → Expr) (name word : Bytes) (selects : Selects) (value : Expr) → host ≡ h.Item name word selects → Some value ≡ attribute name xs
        → with_value name (on_first_item (selects_of host) (is_host current host) change value) xs ≡ host_new current host change xs
    item_changed change name word selects value is found =
        subst (λ (other : Host). with_value name (on_first_item (selects_of other) (is_host current other) change value) xs ≡ host_new current other change xs) (sym is)
        (ap (λ (o : Option Expr). item_new selects name (is_item current name word) change o xs) found)

-- ---- what a change makes of an expression is what it makes of its comments

pub by_comments : (change : Change) (x : Expr) → changed_by change x ≡ with_comments x (comments_made change (comments_of x))
by_comments (Add text) x = refl
by_comments Remove x = refl

-- ---- the first element that passes a test, changed back

pub found_first : {X : Type 0} (P : X → Type 0) (found rest : Option X) → is_some found ≡ true → IfSome (option_or found rest) P → IfSome found P
found_first P None rest h i = tt
found_first P (Some x) rest h i = i

module _ {X : Type 0} (test : X → Bool) (f : X → X) where
  pub first_back : (g : X → X) → ((x : X) → test (f x) ≡ test x) → (xs : List X) → IfSome (find test xs) (λ x. g (f x) ≡ x) → on_first_that test g (on_first_that test f xs) ≡ xs
  first_back g same [] h = refl
  first_back g same (x ∷ xs) h = elim (cases_Bool (test x)) [
    | inl t ↦ rw t (rw (same x ∙ t) (ap (λ y. y ∷ xs) (simp t at h)))
    | inr t ↦ rw (t, t) (ap (λ ys. x ∷ ys) (first_back g same xs (simp t at h)))
  ]

-- ---- expressions with other comments

-- where there were none, they are taken away again
pub none_again : (x : Expr) (cs : HostComments) → comments_of x ≡ no_comments → with_comments (with_comments x cs) no_comments ≡ x
none_again (Token t) cs h = ap (with_comments (Token t)) (sym h)
none_again (Form' kind s parts s' items end split open_break comments) cs h = ap (with_comments (Form' kind s parts s' items end split open_break comments)) (sym h)

pub same_item : (current name word : Bytes) (cs : HostComments) (x : Expr) → is_item current name word (with_comments x cs) ≡ is_item current name word x
same_item current name word cs (Token t) = refl
same_item current name word cs (Form' kind s parts s' items end split open_break comments) = refl

-- the value of a named argument
pub same_value : (name : Bytes) (cs : HostComments) (x : Expr) → value_named name (with_comments x cs) ≡ value_named name x
same_value name cs (Token t) = refl
same_value name cs (Form' own s parts s' items end split open_break comments) =
    value_answered name (Form' own s parts s' items end split open_break cs) ∙ sym (value_answered name (Form' own s parts s' items end split open_break comments))

-- ---- what is found in lists from an index on

module _ (test : Expr → Bool) (items : Expr → List Expr) (xs : List Expr) (i : ℕ) (item : Expr) where
  abbrev pub from : ℕ → Option Expr
  from i = find test (flat_map items (drop i xs))

  found_next : i < length xs → item ≡ get_or xs i item → from i ≡ option_or (find test (items item)) (from (i + 1))
  found_next within is =
      ap (λ ys. find test (flat_map items ys)) (drop_more xs i item within ∙ ap (λ x. x ∷ drop (i + 1) xs) (sym is)) ∙ find-append test (items item) (flat_map items (drop (i + 1) xs))

  -- an item is found there, or none
  pub sought_here : (found : Expr) → find test (flat_map items xs) ≡ from i → i < length xs → item ≡ get_or xs i item → Some found ≡ find test (items item) → Some found ≡ find test (flat_map items xs)
  sought_here found all within is here = sym (all ∙ (found_next within is ∙ ap (λ (o : Option Expr). option_or o (from (i + 1))) (sym here)))

  pub sought_later : find test (flat_map items xs) ≡ from i → i < length xs → item ≡ get_or xs i item → None ≡ find test (items item) → find test (flat_map items xs) ≡ from (i + 1)
  sought_later all within is none = all ∙ (found_next within is ∙ ap (λ (o : Option Expr). option_or o (from (i + 1))) (sym none))

-- and among none that are left
pub sought_nowhere : (test : Expr → Bool) (items : Expr → List Expr) (xs : List Expr) (i : ℕ) → find test (flat_map items xs) ≡ find test (flat_map items (drop i xs)) → length xs ≤ i
    → None ≡ find test (flat_map items xs)
sought_nowhere test items xs i all past = sym (all ∙ at_drop_all (λ ys. find test (flat_map items ys)) xs i past)

pub seen_any : (test : Expr → Bool) (xs : List Expr) (found : Option (Bor Expr)) → option_copied found ≡ find test xs → is_some found ≡ list_any test xs
seen_any test xs None e = ap (λ (o : Option Expr). is_some o) e ∙ found_any test xs
seen_any test xs (Some x) e = ap (λ (o : Option Expr). is_some o) e ∙ found_any test xs

module _ (test : Expr → Bool) (x : Expr) where
  abbrev in_branches : Option Expr
  in_branches = find test (flat_map branch_items (entries_of x))

  either_found : (found : Option Expr) → find test (listed x) ≡ found → find test (items_at Entered x) ≡ option_or found in_branches
  either_found found e = find-append test (listed x) (flat_map branch_items (entries_of x)) ∙ ap (λ (o : Option Expr). option_or o in_branches) e

  pub sought_listed : (y : Expr) → find test (listed x) ≡ Some y → find test (items_at Entered x) ≡ Some y
  sought_listed y e = either_found (Some y) e

  pub sought_in_branches : find test (listed x) ≡ None → find test (items_at Entered x) ≡ in_branches
  sought_in_branches e = either_found None e

-- ---- the first element that passes, changed in its place; and where none passes

pub changed_there : {X : Type 0} (test : X → Bool) (f : X → X) (xs read : List X) (i : ℕ) (x new : X) → Some i ≡ position test read → read ≡ xs → slice_get xs i ≡ Some x → new ≡ f x
    → slice_set xs i new ≡ on_first_that test f xs
changed_there test f xs read i x new at same = places.changed_there test f xs i x new (at ∙ ap (position test) same)

pub changed_nowhere : {X : Type 0} (test : X → Bool) (f : X → X) (xs read : List X) → None ≡ position test read → read ≡ xs → xs ≡ on_first_that test f xs
changed_nowhere test f xs read none same = places.changed_nowhere test f xs (none ∙ ap (position test) same)
