-- Entries that are added, set and removed: which keys are there afterwards.
use Rattle.bz_change.proofs.Words.{[], ◌&&◌, ◌++◌, ◌||◌, ◌∙◌, ◌∷◌, ◌≡◌, Add, AllByRecursion, and_from, and_parts, any_same, ap, are_keys, Arguments, attribute, attribute_changed, attribute_new, body_quoted, Bool, by_absent, by_case, by_test, by_there, by_value, Bytes, Change, Class as c, codes, dict_of, dict_remove, entries_put, EntriesAddedAgain, EntriesAddedAreThere, EntriesRemovedAgain, EntriesSetAreThere, Entry, entry_changed, entry_made, entry_put, entry_with, equal_self, Err, Expr, false, filter, first_that_kept, has_key, has_keys, has_kind, has_some_key, have_plain_keys, if_false, if_true, IfOk, if◌then◌else◌, is_empty, is_escaped, is_nonempty, is_some, is_text, IsPlain, items_changed, items_filled, items_kind, items_of, items_same, key_in, key_of, keys_of, Kind as k, List, list_any, list_any-append, mark, node_parts, None, not, not-true, NotADict, Ok, on_dict, on_first_that, on_items, Option, option_map_or, or_left, or_right, quoted_of, refl, same_made, Set, Some, subst, sym, token, true, true≢false, value_made, with_dict_left, with_items, with_new, with_value, with_value_same, without, without_entries, without_new}
use Rattle.bz_value.specs.declared.value.Expr.{items_hidden-the_row-Expr-0}
use Rattle.bz_change.proofs.KeyPlaces.{added_again, key_kept}

-- ---- by the value of the attribute

abbrev pub dict_there : Bytes → (List Expr → List Expr) → List Expr → Expr → Arguments
dict_there name change xs value = if has_kind k.Dict value then Ok (with_value name (on_items k.Dict change value) xs) else Err NotADict

pub dict_items : (xs : List Expr) → items_of (dict_of xs) ≡ xs
dict_items xs = items_hidden-the_row-Expr-0 xs

-- ---- keys that are there

known_again : (current name : Bytes) (entries : List Entry) (items : List Expr) → are_keys entries items ≡ true → entries_put Add current name entries items ≡ items
known_again current name [] items h = refl
known_again current name (entry ∷ entries) items h =
    let p = and_parts (list_any (has_key entry.key) items) (are_keys entries items) h in
    ap (entries_put Add current name entries) (added_again current name entry items p.0) ∙ known_again current name entries items p.1

pub adding_again : EntriesAddedAgain
adding_again current name entries xs value own h =
    let p = and_parts (has_kind k.Dict value) (are_keys entries (items_of value)) h in
    let change : List Expr → List Expr = entries_put Add current name entries in
    by_there (attribute name xs) value (Ok (with_new name (dict_of (change [])) xs)) (dict_there name change xs) own
    ∙ (if_true {X = Arguments} (has_kind k.Dict value) (Ok (with_value name (on_items k.Dict change value) xs)) (Err NotADict) p.0
    ∙ ap (λ (ys : List Expr). Ok ys)
    (ap (λ (v : Expr). with_value name v xs) (items_same k.Dict change value (known_again current name entries (items_of value) p.1)) ∙ with_value_same name value xs own))

-- ---- the keys of new entries

-- the key of a new entry is there
pub new_key : (key : Bytes) (value : Expr) → IsPlain key → has_key key (entry_with key value) ≡ true
new_key key value plain =
    let read : key_of (entry_with key value) ≡ Some key = ap key_in (node_parts k.Entry (token c.String (quoted_of key) ∷ mark (codes ":") ∷ value ∷ [])) ∙ body_quoted key plain in
    ap (λ (found : Option Bytes). is_text key found) read ∙ equal_self key

made_key : (change : Change) (current name : Bytes) (entry : Entry) → IsPlain entry.key → has_key entry.key (entry_made change current name entry) ≡ true
made_key change current name entry plain = new_key entry.key (value_made change current name entry.value) plain

-- an entry of this key is there
abbrev IsThere : Bytes → List Expr → Type 0
IsThere key items = list_any (has_key key) items ≡ true

there_before : (key : Bytes) (items more : List Expr) → IsThere key items → IsThere key (items ++ more)
there_before key items more h = list_any-append (has_key key) items more ∙ or_left (list_any (has_key key) items) (list_any (has_key key) more) h

pub there_last : (key : Bytes) (items : List Expr) (new : Expr) → has_key key new ≡ true → IsThere key (items ++ new ∷ [])
there_last key items new h =
    list_any-append (has_key key) items (new ∷ []) ∙ or_right (list_any (has_key key) items) (has_key key new || false) (or_left (has_key key new) false h)

-- each entry that is put in takes no key away, and its own key is there then
module _ (change : Change) (current name : Bytes) where
  abbrev changed : Entry → List Expr → List Expr
  changed entry items = on_first_that (has_key entry.key) (entry_changed change current name entry) items

  changed_same : (entry : Entry) (items : List Expr) (key : Bytes) → list_any (has_key key) (changed entry items) ≡ list_any (has_key key) items
  changed_same entry items key = any_same (has_key entry.key) (entry_changed change current name entry) (has_key key) (λ x. ap (is_text key) (key_kept change current name entry x)) items

  stays : (entry : Entry) (items : List Expr) (key : Bytes) → IsThere key items → IsThere key (entry_put change current name entry items)
  stays entry items key h =
      by_test (IsThere key) (list_any (has_key entry.key) items) (changed entry items) (items ++ entry_made change current name entry ∷ [])
      (changed_same entry items key ∙ h) (there_before key items (entry_made change current name entry ∷ []) h)

  comes : (entry : Entry) (items : List Expr) → IsPlain entry.key → IsThere entry.key (entry_put change current name entry items)
  comes entry items plain =
      by_case (IsThere entry.key) (list_any (has_key entry.key) items) (changed entry items) (items ++ entry_made change current name entry ∷ [])
      (λ h. changed_same entry items entry.key ∙ h) (λ h. there_last entry.key items (entry_made change current name entry) (made_key change current name entry plain))

  all_stay : (entries : List Entry) (items : List Expr) (key : Bytes) → IsThere key items → IsThere key (entries_put change current name entries items)
  all_stay [] items key h = h
  all_stay (entry ∷ entries) items key h = all_stay entries (entry_put change current name entry items) key (stays entry items key h)

  all_come : (entries : List Entry) (items : List Expr) → have_plain_keys entries ≡ true → are_keys entries (entries_put change current name entries items) ≡ true
  all_come [] items plain = refl
  all_come (entry ∷ entries) items plain =
      let p = and_parts (not (list_any is_escaped entry.key)) (have_plain_keys entries) plain in
      let more : List Expr = entry_put change current name entry items in
      and_from (list_any (has_key entry.key) (entries_put change current name entries more)) (are_keys entries (entries_put change current name entries more))
      (all_stay entries more entry.key (comes entry items (not-true (list_any is_escaped entry.key) p.0))) (all_come entries more p.1)

-- ---- the attribute afterwards

abbrev HasKeys : Bytes → List Entry → List Expr → Type 0
HasKeys name entries new = option_map_or (has_keys entries) (attribute name new) false ≡ true

module _ (name : Bytes) (entries : List Entry) (change : List Expr → List Expr) (keyed : (items : List Expr) → are_keys entries (change items) ≡ true) (xs : List Expr) where
  keys_in : (new : List Expr) (value : Expr) → attribute name new ≡ Some value → has_kind k.Dict value ≡ true → are_keys entries (items_of value) ≡ true → HasKeys name entries new
  keys_in new value e is h =
      ap (λ (found : Option Expr). option_map_or (has_keys entries) found false) e ∙ and_from (has_kind k.Dict value) (are_keys entries (items_of value)) is h

  dict_keyed : (value : Expr) → attribute name xs ≡ Some value → has_kind k.Dict value ≡ true → HasKeys name entries (with_value name (on_items k.Dict change value) xs)
  dict_keyed value own is =
      let new : Expr = with_items (change (items_of value)) value in
      subst (λ (x : Expr). HasKeys name entries (with_value name x xs)) (sym (items_changed k.Dict change value is))
      (keys_in (with_value name new xs) new (attribute_changed name value new xs own) (items_kind k.Dict (change (items_of value)) value ∙ is)
      (ap (are_keys entries) (items_filled k.Dict (change (items_of value)) value is) ∙ keyed (items_of value)))

  keyed_after : (found : Option Expr) → attribute name xs ≡ found → IfOk (by_value found (Ok (with_new name (dict_of (change [])) xs)) (dict_there name change xs)) (HasKeys name entries)
  keyed_after None own =
      let new : Expr = dict_of (change []) in
      keys_in (with_new name new xs) new (attribute_new name new xs (ap (λ (o : Option Expr). is_some o) own)) refl (ap (are_keys entries) (dict_items (change [])) ∙ keyed [])
  keyed_after (Some value) own =
      by_case (λ (r : Arguments). IfOk r (HasKeys name entries)) (has_kind k.Dict value) (Ok (with_value name (on_items k.Dict change value) xs)) (Err NotADict) (dict_keyed value own) (λ is. tt)

put_there : (change : Change) (current name : Bytes) (entries : List Entry) (xs new : List Expr) → have_plain_keys entries ≡ true → on_dict name (entries_put change current name entries) xs ≡ Ok new
    → HasKeys name entries new
put_there change current name entries xs new plain e =
    subst (λ (r : Arguments). IfOk r (HasKeys name entries)) e
    (keyed_after name entries (entries_put change current name entries) (λ items. all_come change current name entries items plain) xs (attribute name xs) refl)

pub added_there : EntriesAddedAreThere
added_there = put_there Add

pub set_there : EntriesSetAreThere
set_there = put_there Set

-- ---- removing what was added

-- each of these has one of the keys
abbrev HasSome : List Bytes → Expr → Type 0
HasSome keys x = has_some_key keys x ≡ true

joined : (P : Expr → Type 0) (items : List Expr) (x : Expr) → AllByRecursion P items → P x → AllByRecursion P (items ++ x ∷ [])
joined P [] x a h = (h, tt)
joined P (y ∷ ys) x a h = (a.0, joined P ys x a.1 h)

all_some : (current name : Bytes) (keys : List Bytes) (entries : List Entry) (items : List Expr) → have_plain_keys entries ≡ true
    → ((x : Expr) → HasSome (keys_of entries) x → HasSome keys x) → AllByRecursion (HasSome keys) items → AllByRecursion (HasSome keys) (entries_put Add current name entries items)
all_some current name keys [] items plain f a = a
all_some current name keys (entry ∷ entries) items plain f a =
    let p = and_parts (not (list_any is_escaped entry.key)) (have_plain_keys entries) plain in
    let new : Expr = entry_made Add current name entry in
    let own : HasSome keys new =
    f new (or_left (has_key entry.key new) (has_some_key (keys_of entries) new) (made_key Add current name entry (not-true (list_any is_escaped entry.key) p.0))) in
    all_some current name keys entries (entry_put Add current name entry items) p.1
    (λ x h. f x (or_right (has_key entry.key x) (has_some_key (keys_of entries) x) h))
    (by_test (AllByRecursion (HasSome keys)) (list_any (has_key entry.key) items) (on_first_that (has_key entry.key) (λ x. x) items) (items ++ new ∷ [])
    (first_that_kept (HasSome keys) (has_key entry.key) (λ x. x) (λ x h. h) items a) (joined (HasSome keys) items new a own))

none_left : (test : Expr → Bool) (items : List Expr) → AllByRecursion (λ x. test x ≡ true) items → filter (λ x. not (test x)) items ≡ []
none_left test [] a = refl
none_left test (x ∷ xs) a = if_false (not (test x)) (x ∷ filter (λ y. not (test y)) xs) (filter (λ y. not (test y)) xs) (ap not a.0) ∙ none_left test xs a.1

-- where a key is there, the list is not empty
some_there : (entries : List Entry) (items : List Expr) → is_nonempty entries ≡ true → are_keys entries items ≡ true → is_empty items ≡ false
some_there [] items full h = absurd (true≢false (sym full))
some_there (entry ∷ entries) [] full h = absurd (true≢false (sym h))
some_there (entry ∷ entries) (x ∷ items) full h = refl

pub removing_again : EntriesRemovedAgain
removing_again current name entries xs new absent full plain e =
    let items : List Expr = entries_put Add current name entries [] in
    let keys : List Bytes = keys_of entries in
    let value : Expr = dict_of items in
    let ys : List Expr = with_new name value xs in
    let same : ys ≡ new = same_made ys new _ (by_absent (attribute name xs) (Ok ys) (dict_there name (entries_put Add current name entries) xs) absent) e in
    let some : is_empty (items_of value) ≡ false = ap (λ (zs : List Expr). is_empty zs) (dict_items items) ∙ some_there entries items full (all_come Add current name entries [] plain) in
    let none : without_entries keys (items_of value) ≡ [] = ap (without_entries keys) (dict_items items) ∙ none_left (has_some_key keys) items (all_some current name keys entries [] plain (λ x h. h) tt) in
    ap (dict_remove name keys) (sym same)
    ∙ (by_there (attribute name ys) value (Ok ys) (λ v. if has_kind k.Dict v then Ok (with_dict_left name v (on_items k.Dict (without_entries keys) v) ys) else Err NotADict) (attribute_new name value xs absent)
    ∙ ap Ok (ap (λ zs. with_dict_left name value (with_items zs value) ys) none
    ∙ (if_true (is_empty (items_of (with_items [] value)) && not (is_empty (items_of value))) (without name ys) (with_value name (with_items [] value) ys)
    (and_from (is_empty (items_of (with_items [] value))) (not (is_empty (items_of value))) (ap (λ (zs : List Expr). is_empty zs) (items_filled k.Dict [] value refl)) (ap not some))
    ∙ without_new name value xs absent)))
