-- The places of the keys of entries, while entries are put to them, and the entries of chosen keys.
use Rattle.bz_change.proofs.Words.{[], ◌++◌, ◌+◌, ◌<◌, ◌||◌, ◌∙◌, ◌∷◌, ◌≡◌, ◌≤◌, Add, ap, AreIndexed, arith, Bool, both, BTreeMap, BTreeSet, by_case, Bytes, bytes_eq, Change, cond, drop, entries_put, Entry, entry_changed, entry_made, entry_put, entry_with, equal_texts, Expr, false, get_or, has_key, has_kind, has_some_key, if_either, if_false, if_true, is_some, is_text, key_in, key_of, Kind as k, length, length-take-le, List, list_any, list_any_at, list_any_none, list_of, list_put, mark, None, on_entry, on_first_that, on_third, Option, option_map_or, option_or, or_none as or_false, parts_filled, parts_kind, parts_of, place_at, position, position_from, refl, Select, Set, slice_get, slice_set, Some, string_of, strings_added, subst, suc, sym, take, text_cmp, texts_of, true, true≢false, value_again, Vec, with_parts, with_strings, zero, ℕ}
use Rattle.std.proofs.{Common.set, lemmas.Cmp.nat_list_eq_equiv, Math.Path.fun_ext, lemmas.List.take_more, lemmas.List.drop_more, lemmas.List.drop_all, Math.Seq.take-append_seam, lemmas.Map.Text.is_eq-slice_cmp, lemmas.Option.get_or_from_slice_get, lemmas.Iterator.Adapters.position_from-zero}
use Rattle.std.specs.{declared.alloc.Global.Global, Map.KeepsOthers, Cmp.eq_by_cmp_equiv, Cmp.Lexicographic.nat_list_cmp_total, BTreeMap.Updates}
use Rattle.bz_attribute.proofs.ArgumentPlaces.{IsFirst, is_first, none_passes, changed_there, changed_nowhere}

-- ---- an entry with another value has its key

third_key : (change : Expr → Expr) (ps : List Expr) → key_in (on_third change ps) ≡ key_in ps
third_key change [] = refl
third_key change (x ∷ []) = refl
third_key change (x ∷ y ∷ []) = refl
third_key change (x ∷ y ∷ z ∷ rest) = refl

pub value_key : (change : Expr → Expr) (x : Expr) → key_of (on_entry change x) ≡ key_of x
value_key change x =
    let new : List Expr = on_third change (parts_of x) in
    by_case (λ (y : Expr). key_of y ≡ key_of x) (has_kind k.Entry x) (with_parts new x) x
    (λ is. if_true (has_kind k.Entry (with_parts new x)) (key_in (parts_of (with_parts new x))) None (parts_kind k.Entry new x ∙ is)
    ∙ (ap key_in (parts_filled k.Entry new x is) ∙ (third_key change (parts_of x) ∙ sym (if_true (has_kind k.Entry x) (key_in (parts_of x)) None is))))
    (λ is. refl)

pub key_kept : (change : Change) (current name : Bytes) (entry : Entry) (x : Expr) → key_of (entry_changed change current name entry x) ≡ key_of x
key_kept Add current name entry x = refl
key_kept Set current name entry x = value_key (λ old. string_of current name entry.value) x
key_kept Select current name entry x = value_key (value_again current name entry.value) x

-- ---- the entries of chosen keys

-- whether an entry's key is in the set
abbrev pub is_chosen : BTreeSet (Vec ℕ Global) → Expr → Bool
is_chosen chosen x = option_map_or (λ key. list_any (bytes_eq key) (texts_of chosen)) (key_of x) false

by_key : (set : BTreeSet (Vec ℕ Global)) (keys : List Bytes) (found : Option Bytes) → ((key : Bytes) → list_any (bytes_eq key) (texts_of set) ≡ list_any (bytes_eq key) keys)
    → option_map_or (λ key. list_any (bytes_eq key) (texts_of set)) found false ≡ list_any (λ key. is_text key found) keys
by_key set keys None e = sym (list_any_none (λ (word : Bytes). false) keys (λ k d l. refl))
by_key set keys (Some key) e = e key

pub chosen_keys : (set : BTreeSet (Vec ℕ Global)) (keys : List Bytes) (n : ℕ) → length keys ≤ n
    → ((key : Bytes) → (list_any (bytes_eq key) (texts_of set) || list_any (bytes_eq key) (drop n keys)) ≡ list_any (bytes_eq key) keys) → is_chosen set ≡ has_some_key keys
chosen_keys set keys n all e = fun_ext (λ x. by_key set keys (key_of x) (λ key.
    sym (or_false (list_any (bytes_eq key) (texts_of set)))
    ∙ (ap (λ (rest : List Bytes). list_any (bytes_eq key) (texts_of set) || list_any (bytes_eq key) rest) (sym (drop_all n keys all)) ∙ e key)))

-- ---- a map with one key more

pub key_placed : (old new : BTreeMap (Vec ℕ Global) ℕ) (text : Vec ℕ Global) (bytes word : Bytes) (at : ℕ) → text.items ≡ bytes → Updates text_cmp old new text (Some at)
    → place_at new word ≡ cond (bytes_eq bytes word) (Some at) (place_at old word)
unfolding KeepsOthers
key_placed old new text bytes word at same h =
    by_case (λ (found : Option ℕ). place_at new word ≡ found) (bytes_eq bytes word) (Some at) (place_at old word)
    (λ y. subst (λ (z : Bytes). place_at new z ≡ Some at) (same ∙ equal_texts bytes word y) h.1)
    (λ n. h.3 _ (λ x y. (eq_by_cmp_equiv nat_list_cmp_total).congr word x.items y.items) (λ key y.
    let one : key.items ≡ bytes = sym (equal_texts text.items key.items (sym (is_eq-slice_cmp text.items key.items) ∙ y)) ∙ same in
    is_eq-slice_cmp word key.items ∙ (nat_list_eq_equiv.symm word key.items ∙ (ap (λ (z : Bytes). bytes_eq z word) one ∙ n))))

-- ---- the first place, after one element more, and after a change of one

push_step : (b : Bool) (found last : Option ℕ) (i : ℕ) → cond b (Some i) (option_or found last) ≡ option_or (cond b (Some i) found) last
push_step true found last i = refl
push_step false found last i = refl

module _ {X : Type 0} (test : X → Bool) where
  place_push : (i last : ℕ) (xs : List X) (y : X) → i + length xs ≡ last → position_from test i (xs ++ y ∷ []) ≡ option_or (position_from test i xs) (cond (test y) (Some last) None)
  place_push i last [] y e = let same : i ≡ last = omega (arith, e) in ap (λ (n : ℕ). cond (test y) (Some n) None) same
  place_push i last (x ∷ xs) y e =
      ap (λ z. cond (test x) (Some i) z) (place_push (i + 1) last xs y (omega (arith, e))) ∙ push_step (test x) (position_from test (i + 1) xs) (cond (test y) (Some last) None) i

  -- an element that passes as the one before it did
  place_set : (i : ℕ) (xs : List X) (at : ℕ) (y d : X) → test y ≡ test (get_or xs at d) → position_from test i (set xs at y) ≡ position_from test i xs
  place_set i [] at y d e = refl
  place_set i (x ∷ xs) zero y d e = ap (λ z. cond z (Some i) (position_from test (i + 1) xs)) e
  place_set i (x ∷ xs) (suc at) y d e = ap (λ z. cond (test x) (Some i) z) (place_set (i + 1) xs at y d e)

-- ---- one entry more

pub pushed : (places more : BTreeMap (Vec ℕ Global) ℕ) (items : List Expr) (x : Expr) (found : Option Bytes) (at : ℕ) → at < length items → x ≡ get_or items at x → key_of x ≡ found → AreIndexed places (take at items)
    → ((key : Bytes) → place_at more key ≡ option_or (place_at places key) (cond (is_text key found) (Some at) None)) → AreIndexed more (take (at + 1) items)
pushed places more items x found at within is read all e = λ key.
    e key
    ∙ (ap (λ z. option_or z (cond (is_text key found) (Some at) None)) (all key)
    ∙ (ap (λ (own : Option Bytes). option_or (position_from (has_key key) 0 (take at items)) (cond (is_text key own) (Some at) None)) (sym read)
    ∙ (sym (place_push (has_key key) 0 at (take at items) x (omega (arith, length-take-le at items (omega arith))))
    ∙ ap (position_from (has_key key) 0) (sym (take_more items at x within ∙ ap (λ (y : Expr). take at items ++ y ∷ []) (sym is))))))

-- the places of the entries before the last one
pub all_before : (places : BTreeMap (Vec ℕ Global) ℕ) (items more : List Expr) (x : Expr) (n : ℕ) → AreIndexed places items → more ≡ items ++ x ∷ [] → n ≡ length items → AreIndexed places (take n more)
all_before places items more x n all is count =
    subst (AreIndexed places) (sym (both (λ (k : ℕ) (xs : List Expr). take k xs) count is ∙ take-append_seam items (x ∷ []))) all

-- a key that is known, and one that is new
pub known : (found : Option ℕ) (b : Bool) (at : ℕ) → (b ≡ true → is_some found ≡ true) → found ≡ option_or found (cond b (Some at) None)
known None true at e = absurd (true≢false (sym (e refl)))
known None false at e = refl
known (Some i) b at e = refl

pub fresh : (found : Option ℕ) (b : Bool) (at : ℕ) → (b ≡ true → is_some found ≡ false) → cond b (Some at) found ≡ option_or found (cond b (Some at) None)
fresh None true at e = refl
fresh (Some i) true at e = absurd (true≢false (e refl))
fresh found false at e = known found false at (λ h. absurd (true≢false (sym h)))

pub same_found : (places : BTreeMap (Vec ℕ Global) ℕ) (own key : Bytes) → bytes_eq own key ≡ true → is_some (place_at places key) ≡ is_some (place_at places own)
same_found places own key same = ap (λ (text : Bytes). is_some (place_at places text)) (sym (equal_texts own key same))

-- ---- an entry that is put, by what the map has at its key

first_same : (test : Expr → Bool) (items : List Expr) → on_first_that test (λ x. x) items ≡ items
first_same test [] = refl
first_same test (x ∷ xs) = if_either (test x) (x ∷ xs) (x ∷ on_first_that test (λ y. y) xs) (x ∷ xs) refl (ap (λ ys. x ∷ ys) (first_same test xs))

pub added_again : (current name : Bytes) (entry : Entry) (items : List Expr) → list_any (has_key entry.key) items ≡ true → entry_put Add current name entry items ≡ items
added_again current name entry items h =
    if_true (list_any (has_key entry.key) items) (on_first_that (has_key entry.key) (λ x. x) items) (items ++ entry_made Add current name entry ∷ []) h ∙ first_same (has_key entry.key) items

module _ (change : Change) (current name : Bytes) (entry : Entry) (places : BTreeMap (Vec ℕ Global) ℕ) (items : List Expr) (all : AreIndexed places items) where
  where_found : (found : Option ℕ) → place_at places entry.key ≡ found → found ≡ position (has_key entry.key) items
  where_found found is = sym (position_from-zero (has_key entry.key) items ∙ (sym (all entry.key) ∙ is))

  pub entry_absent : place_at places entry.key ≡ None → items ++ entry_made change current name entry ∷ [] ≡ entry_put change current name entry items
  entry_absent none =
      sym (if_false (list_any (has_key entry.key) items) (on_first_that (has_key entry.key) (entry_changed change current name entry) items) (items ++ entry_made change current name entry ∷ [])
      (list_any_none (has_key entry.key) items (none_passes (has_key entry.key) items (where_found None none)).all))

  module _ (at : ℕ) (is_there : place_at places entry.key ≡ Some at) where
    pub first : IsFirst (has_key entry.key) items at
    first = is_first (has_key entry.key) items at (mark []) (where_found (Some at) is_there)

    there : list_any (has_key entry.key) items ≡ true
    there = list_any_at (has_key entry.key) items at (mark []) first.within (first.passes (mark []))

    pub entry_set : (x new : Expr) → slice_get items at ≡ Some x → new ≡ entry_changed change current name entry x → (set items at new ≡ entry_put change current name entry items) × AreIndexed places (set items at new)
    entry_set x new read made = (
      changed_there (has_key entry.key) (entry_changed change current name entry) items at x new (where_found (Some at) is_there) read made
          ∙ sym (if_true (list_any (has_key entry.key) items) (on_first_that (has_key entry.key) (entry_changed change current name entry) items) (items ++ entry_made change current name entry ∷ []) there),
      λ key.
          all key
          ∙ sym (place_set (has_key key) 0 items at new x
          (ap (has_key key) made ∙ (ap (is_text key) (key_kept change current name entry x) ∙ ap (has_key key) (sym (get_or_from_slice_get items at x x read))))),
    )

-- what is put of the entries that are left
pub put_next : (change : Change) (current name : Bytes) (entries : List Entry) (i : ℕ) (entry : Entry) (items new all : List Expr) → i < length entries → entry ≡ get_or entries i entry
    → new ≡ entry_put change current name entry items → entries_put change current name (drop i entries) items ≡ all → entries_put change current name (drop (i + 1) entries) new ≡ all
put_next change current name entries i entry items new all within is made before =
    ap (entries_put change current name (drop (i + 1) entries)) made
    ∙ (ap (λ (x : Entry). entries_put change current name (x ∷ drop (i + 1) entries) items) is
    ∙ (ap (λ (xs : List Entry). entries_put change current name xs items) (sym (drop_more entries i entry within)) ∙ before))

-- ---- the first entry of a key, with another value

pub entry_there : (key : Bytes) (change : Expr → Expr) (items read : List Expr) (at : ℕ) (x new : Expr) → Some at ≡ position (has_key key) read → read ≡ items → slice_get items at ≡ Some x → new ≡ on_entry change x
    → slice_set items at new ≡ on_first_that (has_key key) (on_entry change) items
entry_there key change items read at x new found same there made =
    changed_there (has_key key) (on_entry change) items at x new (found ∙ ap (position (has_key key)) same) there made

pub entry_nowhere : (key : Bytes) (change : Expr → Expr) (items read : List Expr) → None ≡ position (has_key key) read → read ≡ items → items ≡ on_first_that (has_key key) (on_entry change) items
entry_nowhere key change items read none same = changed_nowhere (has_key key) (on_entry change) items (none ∙ ap (position (has_key key)) same)

-- whether the key is there, by the place of its first entry
any_by_place : (key : Bytes) (items : List Expr) (found : Option ℕ) → found ≡ position (has_key key) items → list_any (has_key key) items ≡ is_some found
any_by_place key items None none = list_any_none (has_key key) items (none_passes (has_key key) items none).all
any_by_place key items (Some at) found =
    let first = is_first (has_key key) items at (mark []) found in
    list_any_at (has_key key) items at (mark []) first.within (first.passes (mark []))

-- an entry that is put, by the place of the first entry of its key
module _ (change : Change) (current name : Bytes) (entry : Entry) (items read : List Expr) (same : read ≡ items) where
  abbrev changed : List Expr
  changed = on_first_that (has_key entry.key) (entry_changed change current name entry) items

  abbrev more : List Expr
  more = items ++ entry_made change current name entry ∷ []

  pub put_there : (at : ℕ) (x new : Expr) → Some at ≡ position (has_key entry.key) read → slice_get items at ≡ Some x → new ≡ entry_changed change current name entry x
      → slice_set items at new ≡ entry_put change current name entry items
  put_there at x new found there made =
      let here = found ∙ ap (position (has_key entry.key)) same in
      changed_there (has_key entry.key) (entry_changed change current name entry) items at x new here there made
      ∙ sym (if_true (list_any (has_key entry.key) items) changed more (any_by_place entry.key items (Some at) here))

  pub put_nowhere : None ≡ position (has_key entry.key) read → more ≡ entry_put change current name entry items
  put_nowhere none = sym (if_false (list_any (has_key entry.key) items) changed more (any_by_place entry.key items None (none ∙ ap (position (has_key entry.key)) same)))

module _ (current name key : Bytes) (words : List Bytes) (items read : List Expr) (found : Option ℕ) (at : found ≡ position (has_key key) read) (same : read ≡ items) where
  is_there : list_any (has_key key) items ≡ is_some found
  is_there = any_by_place key items found (at ∙ ap (position (has_key key)) same)

  abbrev changed_list : List Expr
  changed_list = on_first_that (has_key key) (on_entry (with_strings current name words)) items

  abbrev further : List Expr
  further = items ++ entry_with key (list_of (strings_added current name words [])) ∷ []

  pub key_there : is_some found ≡ true → on_first_that (has_key key) (on_entry (with_strings current name words)) items ≡ list_put current name key words items
  key_there some = sym (if_true (list_any (has_key key) items) changed_list further (is_there ∙ some))

  pub key_nowhere : is_some found ≡ false → items ++ entry_with key (list_of (strings_added current name words [])) ∷ [] ≡ list_put current name key words items
  key_nowhere none = sym (if_false (list_any (has_key key) items) changed_list further (is_there ∙ none))
