-- Afterwards one symbol has each local name, and the same symbols replaced once more change nothing.
use Rattle.bz_load.proofs.Words.{[], ◌&&◌, ◌++◌, ◌+◌, ◌||◌, ◌∙◌, ◌∷◌, ◌≡◌, ◌≤◌, ◌⊎◌, after_path, alias_in, All-from_recursion, all_comments_joined, AllByRecursion, and-false, and-true, and_from, and_parts, ap, apostrophe, append-nil, arith, backslash, becomes_plain, begins_thrice, between, body, body_of, Bool, both, by_case, Bytes, bytes_eq, cases_Bool, Class as c, comments_around, comments_joined, comments_of, cut_of_first, drop, each_replaced, eq-eqb, eqb-true, Expr, false, filter, filter-append, first_text, flat_map, Form', further, goes, gone_comments, has_kind, HostComments, if_false, if_true, IfSome, if◌then◌else◌, inl, inner, inr, inside, is_class, is_empty, is_escaped, is_load_from, is_load_item, is_loaded, is_local, is_lost, is_plain_in, is_quote_mark, is_some, is_symbol, is_text, IsLoadedAlone, IsPlain, Item, Item as i, ItemCut, items_changed, items_filled, items_of, Kind as k, last_of_each, leading_blocks, left_symbols, length, length-append, List, list_all, list_any, list_any-append, load_made, loads_end, loads_symbol, local_name, marks_of, may_have, nat_eq, nat_le, new_around, no_comments, None, not, not-true, on_first_that, on_rest, on_symbols, Option, option_and_then, option_map, option_map_or, or_left, or_parts, or_right, parts_of, path_in, put_symbol, quotation_mark, refl, replace_load, replace_symbol, replaced_around, ReplacedAgain, ReplacedAlone, Some, subst, suc, sym, Symbol, symbol_made, symbol_named, symbols_of, take, take-append-drop, text_of, Token, true, true≢false, unprefixed, with_comments, with_joined, without_symbol, ℕ}
use Rattle.std.proofs.lemmas.Slice.Eq.{bytes_eq-Decides}
use Rattle.bz_load.proofs.ReplacedSymbols.{none_made, nothing_joined}
use Rattle.bz_load.proofs.LawAgain.{made_loads, new_from}
use Rattle.bz_load.proofs.OtherItems.{AreOther, all_without, any_may, cut_from, cut_passes, gone_none, is_load_by, left_all, mapped_joined, none_said, some_cut, stays_from, stays_load, symbols_stay}

-- ---- what loads a symbol has its local name

module _ (m : ℕ) (is : is_quote_mark m ≡ true) where
  abbrev ends : ℕ → Bool
  ends byte = nat_eq byte m || nat_eq byte backslash

  other_mark : (x : ℕ) → nat_eq x m ≡ false → nat_eq m x ≡ false
  other_mark x h = elim (cases_Bool (nat_eq m x)) [
    | inl e ↦ absurd (true≢false (sym (eq-eqb x m (sym (eqb-true m x e))) ∙ h))
    | inr e ↦ e
  ]

  once : (text : Bytes) → list_any ends text ≡ false → begins_thrice (m ∷ text ++ m ∷ []) ≡ false
  once [] h = refl
  once (x ∷ []) h = ap (λ b. nat_eq m x && b) (or_parts (nat_eq x m) (nat_eq x backslash) (or_parts (ends x) false h).0).0 ∙ and-false (nat_eq m x)
  once (x ∷ y ∷ text) h = ap (λ b. b && nat_eq x y) (other_mark x (or_parts (nat_eq x m) (nat_eq x backslash) (or_parts (ends x) (list_any ends (y ∷ text)) h).0).0)

  plain_between : (text : Bytes) → is_plain_in m text ≡ true → between text ≡ inner text
  plain_between text h =
      let p = and_parts (bytes_eq text (m ∷ inner text ++ m ∷ [])) (not (list_any ends (inner text))) h in
      let own : text ≡ m ∷ inner text ++ m ∷ [] = (bytes_eq-Decides text (m ∷ inner text ++ m ∷ [])).0 p.0 in
      let bare : unprefixed text ≡ text = ap unprefixed own ∙ (if_true (is_quote_mark m) _ _ is ∙ sym own) in
      let marks : marks_of text ≡ 1 = ap (λ b. if b && nat_le 6 (length text) then 3 else 1) (ap begins_thrice own ∙ once (inner text) (not-true (list_any ends (inner text)) p.1)) in
      both inside (ap marks_of bare ∙ marks) bare

body_between : (text : Bytes) → IfSome (body text) (λ own. between text ≡ own)
body_between text =
    by_case (λ (found : Option Bytes). IfSome found (λ own. between text ≡ own)) (is_plain_in quotation_mark text || is_plain_in apostrophe text) (Some (inner text)) None
    (λ is. elim (cases_Bool (is_plain_in quotation_mark text)) [
      | inl h ↦ plain_between quotation_mark refl text h
      | inr h ↦ plain_between apostrophe refl text (sym (ap (λ b. b || is_plain_in apostrophe text) h) ∙ is)
    ])
    (λ isnt. tt)

local_body : (x : Expr) → IfSome (body_of x) (λ own. between (text_of x) ≡ own)
local_body (Token t) = by_case (λ (found : Option Bytes). IfSome (option_and_then body found) (λ own. between t.text ≡ own)) (is_class t.class c.String) (Some t.text) None (λ is. body_between t.text) (λ isnt. tt)
local_body (Form' kind s parts s' items end split open_break comments) = tt

module _ (symbol : Symbol) where
  alias_local : (ps : List Expr) → option_map_or (is_symbol symbol) (alias_in ps) false ≡ true → bytes_eq symbol.to (first_text ps) ≡ true
  alias_local [] h = absurd (true≢false (sym h))
  alias_local (a ∷ []) h = absurd (true≢false (sym h))
  alias_local (a ∷ b ∷ []) h = absurd (true≢false (sym h))
  alias_local (a ∷ b ∷ d ∷ []) h = by (body_of d) h
    where
      by : (found : Option Bytes) → option_map_or (is_symbol symbol) (option_map (symbol_named (text_of a)) found) false ≡ true → bytes_eq symbol.to (text_of a) ≡ true
      by None e = absurd (true≢false (sym e))
      by (Some from) e = (and_parts (bytes_eq symbol.to (text_of a)) (bytes_eq symbol.from from) e).0
  alias_local (a ∷ b ∷ d ∷ f ∷ ps) h = absurd (true≢false (sym h))

  string_local : (x : Expr) → option_map_or (is_symbol symbol) (option_map (λ text. symbol_named text text) (body_of x)) false ≡ true → bytes_eq symbol.to (between (text_of x)) ≡ true
  string_local x h = by (body_of x) (local_body x) h
    where
      by : (found : Option Bytes) → IfSome found (λ own. between (text_of x) ≡ own) → option_map_or (is_symbol symbol) (option_map (λ text. symbol_named text text) found) false ≡ true → bytes_eq symbol.to (between (text_of x)) ≡ true
      by None e f = absurd (true≢false (sym f))
      by (Some own) e f = ap (bytes_eq symbol.to) e ∙ (and_parts (bytes_eq symbol.to own) (bytes_eq symbol.from own) f).0

  loads_local : (x : Expr) → loads_symbol symbol x ≡ true → is_local symbol x ≡ true
  loads_local x h = elim (cases_Bool (has_kind k.Alias x)) [
    | inl is ↦ ap (bytes_eq symbol.to) (if_true (has_kind k.Alias x) (first_text (parts_of x)) (between (text_of x)) is)
        ∙ alias_local (parts_of x) (sym (ap (λ found. option_map_or (is_symbol symbol) found false) (if_true (has_kind k.Alias x) (alias_in (parts_of x)) (option_map (λ text. symbol_named text text) (body_of x)) is)) ∙ h)
    | inr isnt ↦ ap (bytes_eq symbol.to) (if_false (has_kind k.Alias x) (first_text (parts_of x)) (between (text_of x)) isnt)
        ∙ string_local x (sym (ap (λ found. option_map_or (is_symbol symbol) found false) (if_false (has_kind k.Alias x) (alias_in (parts_of x)) (option_map (λ text. symbol_named text text) (body_of x)) isnt)) ∙ h)
  ]

  other_loads : (x : Expr) → is_local symbol x ≡ false → loads_symbol symbol x ≡ false
  other_loads x h = elim (cases_Bool (loads_symbol symbol x)) [
    | inl is ↦ absurd (true≢false (sym (loads_local x is) ∙ h))
    | inr isnt ↦ isnt
  ]

  local_any : (xs : List Expr) → list_any (loads_symbol symbol) xs ≡ true → list_any (is_local symbol) xs ≡ true
  local_any [] some = some
  local_any (x ∷ xs) some = elim (cases_Bool (loads_symbol symbol x)) [
    | inl is ↦ or_left (is_local symbol x) (list_any (is_local symbol) xs) (loads_local x is)
    | inr isnt ↦ or_right (is_local symbol x) (list_any (is_local symbol) xs) (local_any xs (sym (ap (λ b. b || list_any (loads_symbol symbol) xs) isnt) ∙ some))
  ]

-- ---- counts

abbrev pub count : {X : Type 0} → (X → Bool) → List X → ℕ
count test xs = length (filter test xs)

module _ {X : Type 0} (test : X → Bool) where
  count_append : (xs ys : List X) → count test (xs ++ ys) ≡ count test xs + count test ys
  count_append xs ys = ap length (filter-append test xs ys) ∙ length-append (filter test xs) (filter test ys)

  pub counted : (x : X) (xs : List X) → test x ≡ true → count test (x ∷ xs) ≡ suc (count test xs)
  counted x xs is = ap length (if_true (test x) (x ∷ filter test xs) (filter test xs) is)

  pub passed : (x : X) (xs : List X) → test x ≡ false → count test (x ∷ xs) ≡ count test xs
  passed x xs isnt = ap length (if_false (test x) (x ∷ filter test xs) (filter test xs) isnt)

  -- as many, and one more that passes alike
  one_more : (y x : X) (ys xs : List X) → test y ≡ test x → count test ys ≡ count test xs → count test (y ∷ ys) ≡ count test (x ∷ xs)
  one_more y x ys xs same rest = elim (cases_Bool (test x)) [
    | inl is ↦ counted y ys (same ∙ is) ∙ (ap suc rest ∙ sym (counted x xs is))
    | inr isnt ↦ passed y ys (same ∙ isnt) ∙ (rest ∙ sym (passed x xs isnt))
  ]

  count_none : (xs : List X) → count test xs ≡ 0 → list_any test xs ≡ false
  count_none [] none = refl
  count_none (x ∷ xs) none = elim (cases_Bool (test x)) [
    | inl is ↦ let more = counted x xs is in absurd (omega (arith, none, more))
    | inr isnt ↦ let same = passed x xs isnt in ap (λ b. b || list_any test xs) isnt ∙ count_none xs (omega (arith, none, same))
  ]

  count_some : (xs : List X) → list_any test xs ≡ true → 1 ≤ count test xs
  count_some [] some = absurd (true≢false (sym some))
  count_some (x ∷ xs) some = elim (cases_Bool (test x)) [
    | inl is ↦ let more = counted x xs is in omega (arith, more)
    | inr isnt ↦
        let same = passed x xs isnt in
        let rest = count_some xs (sym (ap (λ b. b || list_any test xs) isnt) ∙ some) in
        omega (arith, same, rest)
  ]

  any_counted : (xs : List X) → 1 ≤ count test xs → list_any test xs ≡ true
  any_counted xs some = elim (cases_Bool (list_any test xs)) [
    | inl is ↦ is
    | inr isnt ↦ let none = none_counted xs isnt in absurd (omega (arith, some, none))
  ]
    where
      none_counted : (xs : List X) → list_any test xs ≡ false → count test xs ≡ 0
      none_counted [] none = refl
      none_counted (x ∷ xs) none = let p = or_parts (test x) (list_any test xs) none in passed x xs p.0 ∙ none_counted xs p.1

-- ---- symbols that a symbol is not about

-- with other comments it is the same
abbrev IsSilent : (Expr → Bool) → Type 0
IsSilent test = (x : Expr) (comments : HostComments) → test (with_comments x comments) ≡ test x

local_silent : (symbol : Symbol) → IsSilent (is_local symbol)
local_silent symbol (Token t) comments = refl
local_silent symbol (Form' kind s parts s' items end split open_break _) comments = refl

loads_silent : (symbol : Symbol) → IsSilent (loads_symbol symbol)
loads_silent symbol (Token t) comments = refl
loads_silent symbol (Form' kind s parts s' items end split open_break _) comments = refl

abbrev IsApart : Symbol → (Expr → Bool) → Type 0
IsApart symbol test = (x : Expr) → is_local symbol x ≡ true → test x ≡ false

module _ (symbol : Symbol) (test : Expr → Bool) (apart : IsApart symbol test) where
  local_goes : (found : Bool) (x : Expr) → goes symbol found x ≡ true → is_local symbol x ≡ true
  local_goes found x h = (and_parts (is_local symbol x) (found || not (loads_symbol symbol x)) h).0

  left_count : (found : Bool) (xs : List Expr) → count test (left_symbols symbol found xs) ≡ count test xs
  left_count found [] = refl
  left_count found (x ∷ xs) =
      let rest = left_count (found || loads_symbol symbol x) xs in
      by_case (λ ys. count test ys ≡ count test (x ∷ xs)) (goes symbol found x) (left_symbols symbol (found || loads_symbol symbol x) xs) (x ∷ left_symbols symbol (found || loads_symbol symbol x) xs)
      (λ is. rest ∙ sym (passed test x xs (apart x (local_goes found x is))))
      (λ isnt. one_more test x x (left_symbols symbol (found || loads_symbol symbol x) xs) xs refl rest)

  all_apart : (xs : List Expr) → list_all (is_local symbol) xs ≡ true → count test xs ≡ 0
  all_apart [] h = refl
  all_apart (x ∷ xs) h = let p = and_parts (is_local symbol x) (list_all (is_local symbol) xs) h in passed test x xs (apart x p.0) ∙ all_apart xs p.1

  module _ (silent : IsSilent test) (own : is_local symbol (symbol_made symbol) ≡ true) where
    put_count : (gone : HostComments) (xs : List Expr) → count test (put_symbol symbol gone xs) ≡ count test xs
    put_count gone xs =
        by_case (λ ys. count test ys ≡ count test xs) (list_any (loads_symbol symbol) xs) (on_first_that (loads_symbol symbol) (with_joined gone) xs) (xs ++ with_joined gone (symbol_made symbol) ∷ [])
        (λ some. first_count xs)
        (λ none.
        let a = count_append test xs (with_joined gone (symbol_made symbol) ∷ []) in
        let b = passed test (with_joined gone (symbol_made symbol)) [] (silent (symbol_made symbol) (comments_joined (comments_of (symbol_made symbol)) gone) ∙ apart (symbol_made symbol) own) in
        omega (arith, a, b))
      where
        first_count : (xs : List Expr) → count test (on_first_that (loads_symbol symbol) (with_joined gone) xs) ≡ count test xs
        first_count [] = refl
        first_count (x ∷ xs) =
            by_case (λ ys. count test ys ≡ count test (x ∷ xs)) (loads_symbol symbol x) (with_joined gone x ∷ xs) (x ∷ on_first_that (loads_symbol symbol) (with_joined gone) xs)
            (λ is. one_more test (with_joined gone x) x xs xs (silent x (comments_joined (comments_of x) gone)) refl)
            (λ isnt. one_more test x x (on_first_that (loads_symbol symbol) (with_joined gone) xs) xs refl (first_count xs))

-- ---- items

-- the symbols of some loads
abbrev pub chosen : (Item → Bool) → Item → List Expr
chosen is item = if is item then symbols_of item else []

abbrev pub in_items : (Expr → Bool) → (Item → Bool) → List Item → ℕ
in_items test is items = count test (flat_map (chosen is) items)

-- some loads, which stay such with other symbols
pub record IsChoice (is : Item → Bool) : Type 0 where
  pub loads : (item : Item) → is item ≡ true → is_load_item item ≡ true
  pub stays : (change : List Expr → List Expr) (item : Item) → is (on_symbols change item) ≡ is item

in_both : (test : Expr → Bool) (is : Item → Bool) (xs ys : List Item) → in_items test is (xs ++ ys) ≡ in_items test is xs + in_items test is ys
in_both test is xs ys = ap (count test) (mapped_joined (chosen is) xs ys) ∙ count_append test (flat_map (chosen is) xs) (flat_map (chosen is) ys)

pub in_next : (test : Expr → Bool) (is : Item → Bool) (item : Item) (items : List Item) → in_items test is (item ∷ items) ≡ count test (chosen is item) + in_items test is items
in_next test is item items = count_append test (chosen is item) (flat_map (chosen is) items)

pub any_chosen : (test : Expr → Bool) (is : Item → Bool) (items : List Item) → list_any (λ item. is item && list_any test (symbols_of item)) items ≡ list_any test (flat_map (chosen is) items)
any_chosen test is [] = refl
any_chosen test is (item ∷ items) =
    both (λ a b. a || b) (own (is item)) (any_chosen test is items) ∙ sym (list_any-append test (chosen is item) (flat_map (chosen is) items))
  where
    own : (b : Bool) → (b && list_any test (symbols_of item)) ≡ list_any test (if b then symbols_of item else [])
    own true = refl
    own false = refl

-- a load that has a path, where that is a plain string
abbrev begins : Item → Option Bytes
begins (i.Block lines) = None
begins (i.Stmt x) = path_in (items_of x)

from_begins : (path : Bytes) (item : Item) → is_load_from path item ≡ true → is_some (begins item) ≡ true
from_begins path (i.Block lines) h = absurd (true≢false (sym h))
from_begins path (i.Stmt x) h = by (path_in (items_of x)) (and_parts (has_kind k.Load x) (is_text path (path_in (items_of x))) h).1
  where
    by : (found : Option Bytes) → is_text path found ≡ true → is_some found ≡ true
    by None e = absurd (true≢false (sym e))
    by (Some text) e = refl

-- the symbols of a load that is changed
symbols_changed : (change : List Expr → List Expr) (item : Item) → is_load_item item ≡ true → (change [] ≡ []) ⊎ (is_some (begins item) ≡ true) → symbols_of (on_symbols change item) ≡ change (symbols_of item)
symbols_changed change (i.Block lines) is h = absurd (true≢false (sym is))
symbols_changed change (i.Stmt x) is h =
    ap (λ (y : Expr). after_path (items_of y)) (items_changed k.Load (on_rest change) x is) ∙ (ap after_path (items_filled k.Load (on_rest change (items_of x)) x is) ∙ by (items_of x) h)
  where
    by : (xs : List Expr) → (change [] ≡ []) ⊎ (is_some (path_in xs) ≡ true) → after_path (on_rest change xs) ≡ change (after_path xs)
    by [] (inl none) = sym none
    by [] (inr some) = absurd (true≢false (sym some))
    by (y ∷ ys) e = refl

begins_changed : (change : List Expr → List Expr) (item : Item) → is_load_item item ≡ true → begins (on_symbols change item) ≡ begins item
begins_changed change (i.Block lines) is = refl
begins_changed change (i.Stmt x) is =
    ap (λ (y : Expr). path_in (items_of y)) (items_changed k.Load (on_rest change) x is) ∙ (ap path_in (items_filled k.Load (on_rest change (items_of x)) x is) ∙ by (items_of x))
  where
    by : (xs : List Expr) → path_in (on_rest change xs) ≡ path_in xs
    by [] = refl
    by (y ∷ ys) = refl

-- the items before and after the one that is found, with it
cut_joined : (test : Item → Bool) (items : List Item) → IfSome (cut_of_first test items) (λ cut. items ≡ cut.front ++ cut.item ∷ cut.back)
cut_joined test [] = tt
cut_joined test (x ∷ xs) = by (test x) (cut_of_first test xs) (cut_joined test xs)
  where
    by : (b : Bool) (found : Option ItemCut) → IfSome found (λ cut. xs ≡ cut.front ++ cut.item ∷ cut.back) → IfSome (if b then Some (record { front = []; item = x; back = xs }) else further x found) (λ cut. x ∷ xs ≡ cut.front ++ cut.item ∷ cut.back)
    by true found h = refl
    by false None h = tt
    by false (Some cut) h = ap (λ ys. x ∷ ys) h

-- ---- another symbol's items are as many

module _ (path : Bytes) (plain : IsPlain path) (symbol : Symbol) (own : is_local symbol (symbol_made symbol) ≡ true) where
  module _ (test : Expr → Bool) (apart : IsApart symbol test) (silent : IsSilent test) (is : Item → Bool) (choice : IsChoice is) where
    abbrev among : List Item → ℕ
    among = in_items test is

    -- a load with its symbols changed has as many
    same_chosen : (change : List Expr → List Expr) → ((xs : List Expr) → count test (change xs) ≡ count test xs) → (item : Item) → (change [] ≡ []) ⊎ (is_some (begins item) ≡ true)
        → count test (chosen is (on_symbols change item)) ≡ count test (chosen is item)
    same_chosen change same item h = elim (cases_Bool (is item)) [
      | inl e ↦
          ap (count test) (if_true (is (on_symbols change item)) _ _ (choice.stays change item ∙ e))
          ∙ (ap (count test) (symbols_changed change item (choice.loads item e) h) ∙ (same (symbols_of item) ∙ sym (ap (count test) (if_true (is item) (symbols_of item) [] e))))
      | inr e ↦ ap (count test) (if_false (is (on_symbols change item)) _ _ (choice.stays change item ∙ e)) ∙ sym (ap (count test) (if_false (is item) (symbols_of item) [] e))
    ]

    without_count : (item : Item) → among (without_symbol symbol item) ≡ count test (chosen is item)
    without_count item = elim (cases_Bool (is_lost symbol item)) [
      | inl lost ↦
          let local = (and_parts (not (is_empty (symbols_of item))) (list_all (is_local symbol) (symbols_of item)) (and_parts (is_load_item item) _ lost).1).1 in
          ap among (if_true (is_lost symbol item) _ _ lost)
          ∙ sym (by_case (λ xs. count test xs ≡ 0) (is item) (symbols_of item) [] (λ _. all_apart symbol test apart (symbols_of item) local) (λ _. refl))
      | inr kept ↦
          ap among (if_false (is_lost symbol item) _ _ kept)
          ∙ (ap (count test) (append-nil (chosen is (on_symbols (left_symbols symbol true) item))) ∙ same_chosen (left_symbols symbol true) (left_count symbol test apart true) item (inl refl))
    ]

    each_count : (items : List Item) → among (flat_map (without_symbol symbol) items) ≡ among items
    each_count [] = refl
    each_count (item ∷ items) =
        in_both test is (without_symbol symbol item) (flat_map (without_symbol symbol) items) ∙ (both (λ a b. a + b) (without_count item) (each_count items) ∙ sym (in_next test is item items))

    around_count : (front : List Item) (load : Item) (back : List Item) → is_load_from path load ≡ true → among (replaced_around symbol front load back) ≡ among (front ++ load ∷ back)
    around_count front load back from =
        let gone : HostComments = all_comments_joined no_comments (comments_around symbol front load back) in
        let left : Item = on_symbols (left_symbols symbol false) load in
        let new : Item = on_symbols (put_symbol symbol gone) left in
        let first : is_some (begins left) ≡ true = ap is_some (begins_changed (left_symbols symbol false) load (is_load_by path load from)) ∙ from_begins path load from in
        let a = in_both test is (flat_map (without_symbol symbol) front) (new ∷ flat_map (without_symbol symbol) back) in
        let b = in_next test is new (flat_map (without_symbol symbol) back) in
        let c = same_chosen (put_symbol symbol gone) (put_count symbol test apart silent own gone) left (inr first) in
        let d = same_chosen (left_symbols symbol false) (left_count symbol test apart false) load (inl refl) in
        let e = each_count front in
        let f = each_count back in
        let g = in_both test is front (load ∷ back) in
        let h = in_next test is load back in
        omega (arith, a, b, c, d, e, f, g, h)

    symbol_count : (items : List Item) → among (replace_symbol path items symbol) ≡ among items
    symbol_count items = by (cut_of_first (may_have path symbol items) items) (cut_from path symbol items) (cut_joined (may_have path symbol items) items)
      where
        by : (found : Option ItemCut) → IfSome found (λ cut. is_load_from path cut.item ≡ true) → IfSome found (λ cut. items ≡ cut.front ++ cut.item ∷ cut.back)
            → among (option_map_or (λ cut. replaced_around symbol cut.front cut.item cut.back) found (new_around path symbol (loads_end (leading_blocks items) 0 items) items)) ≡ among items
        by None from joined =
            let place : ℕ = loads_end (leading_blocks items) 0 items in
            let a = around_count (take place items) (load_made path []) (drop place items) (new_from path [] plain) in
            let b = in_both test is (take place items) (load_made path [] ∷ drop place items) in
            let c = in_next test is (load_made path []) (drop place items) in
            let d : count test (chosen is (load_made path [])) ≡ 0 =
            by_case (λ xs. count test xs ≡ 0) (is (load_made path [])) (symbols_of (load_made path [])) [] (λ _. ap (count test) (none_made path)) (λ _. refl) in
            let e = in_both test is (take place items) (drop place items) in
            let f = ap among (take-append-drop place items) in
            omega (arith, a, b, c, d, e, f)
        by (Some cut) from joined = around_count cut.front cut.item cut.back from ∙ ap among (sym joined)

  -- ---- the symbol itself

  left_own : (xs : List Expr) → count (is_local symbol) (left_symbols symbol true xs) ≡ 0
  left_own [] = refl
  left_own (x ∷ xs) =
      by_case (λ ys. count (is_local symbol) ys ≡ 0) (goes symbol true x) (left_symbols symbol true xs) (x ∷ left_symbols symbol true xs) (λ _. left_own xs)
      (λ isnt. passed (is_local symbol) x (left_symbols symbol true xs) (sym (and-true (is_local symbol x)) ∙ isnt) ∙ left_own xs)

  without_own : (items : List Item) → in_items (is_local symbol) is_load_item (flat_map (without_symbol symbol) items) ≡ 0
  without_own [] = refl
  without_own (item ∷ items) =
      let a = in_both (is_local symbol) is_load_item (without_symbol symbol item) (flat_map (without_symbol symbol) items) in
      let b = one in
      let c = without_own items in
      omega (arith, a, b, c)
    where
      kept : in_items (is_local symbol) is_load_item (on_symbols (left_symbols symbol true) item ∷ []) ≡ 0
      kept =
          ap (count (is_local symbol)) (append-nil (chosen is_load_item (on_symbols (left_symbols symbol true) item)))
          ∙ by_case (λ xs. count (is_local symbol) xs ≡ 0) (is_load_item (on_symbols (left_symbols symbol true) item)) (symbols_of (on_symbols (left_symbols symbol true) item)) []
          (λ e. ap (count (is_local symbol)) (symbols_changed (left_symbols symbol true) item (sym (stays_load (left_symbols symbol true) item) ∙ e) (inl refl)) ∙ left_own (symbols_of item)) (λ _. refl)

      one : in_items (is_local symbol) is_load_item (without_symbol symbol item) ≡ 0
      one = by_case (λ (xs : List Item). in_items (is_local symbol) is_load_item xs ≡ 0) (is_lost symbol item) [] (on_symbols (left_symbols symbol true) item ∷ []) (λ _. refl) (λ _. kept)

  -- in the load that is to have it the first that loads it is left
  left_one : (xs : List Expr) → (list_any (loads_symbol symbol) (left_symbols symbol false xs) ≡ list_any (loads_symbol symbol) xs) × (count (is_local symbol) (left_symbols symbol false xs) ≡ (if list_any (loads_symbol symbol) xs then 1 else 0))
  left_one [] = (refl, refl)
  left_one (x ∷ xs) = elim (cases_Bool (loads_symbol symbol x)) [
    | inl loads ↦
        let local = loads_local symbol x loads in
        let rest : List Expr = left_symbols symbol (false || loads_symbol symbol x) xs in
        let stays : left_symbols symbol false (x ∷ xs) ≡ x ∷ left_symbols symbol true xs =
        if_false (goes symbol false x) _ _ (both (λ a b. a && (false || not b)) local loads) ∙ ap (λ b. x ∷ left_symbols symbol b xs) loads in (
          ap (list_any (loads_symbol symbol)) stays ∙ (ap (λ b. b || list_any (loads_symbol symbol) (left_symbols symbol true xs)) loads ∙ sym (ap (λ b. b || list_any (loads_symbol symbol) xs) loads)),
          ap (count (is_local symbol)) stays
              ∙ (counted (is_local symbol) x (left_symbols symbol true xs) local ∙ (ap suc (left_own xs) ∙ sym (ap (λ b. if b || list_any (loads_symbol symbol) xs then 1 else 0) loads))),
        )
    | inr loads ↦
        let rest = left_one xs in
        let next : (false || loads_symbol symbol x) ≡ false = loads in
        let any : list_any (loads_symbol symbol) (x ∷ xs) ≡ list_any (loads_symbol symbol) xs = ap (λ b. b || list_any (loads_symbol symbol) xs) loads in
        by_local (cases_Bool (is_local symbol x)) loads rest any
  ]
    where
      by_local : (is_local symbol x ≡ true) ⊎ (is_local symbol x ≡ false) → loads_symbol symbol x ≡ false
          → (list_any (loads_symbol symbol) (left_symbols symbol false xs) ≡ list_any (loads_symbol symbol) xs) × (count (is_local symbol) (left_symbols symbol false xs) ≡ (if list_any (loads_symbol symbol) xs then 1 else 0))
          → list_any (loads_symbol symbol) (x ∷ xs) ≡ list_any (loads_symbol symbol) xs
          → (list_any (loads_symbol symbol) (left_symbols symbol false (x ∷ xs)) ≡ list_any (loads_symbol symbol) (x ∷ xs)) × (count (is_local symbol) (left_symbols symbol false (x ∷ xs)) ≡ (if list_any (loads_symbol symbol) (x ∷ xs) then 1 else 0))
      by_local (inl local) loads rest any =
          let gone : left_symbols symbol false (x ∷ xs) ≡ left_symbols symbol false xs =
          if_true (goes symbol false x) _ _ (both (λ a b. a && (false || not b)) local loads) ∙ ap (λ b. left_symbols symbol b xs) loads in
          (ap (list_any (loads_symbol symbol)) gone ∙ (rest.0 ∙ sym any), ap (count (is_local symbol)) gone ∙ (rest.1 ∙ sym (ap (λ b. if b then 1 else 0) any)))
      by_local (inr local) loads rest any =
          let stays : left_symbols symbol false (x ∷ xs) ≡ x ∷ left_symbols symbol false xs =
          if_false (goes symbol false x) _ _ (ap (λ b. b && (false || not (loads_symbol symbol x))) local) ∙ ap (λ b. x ∷ left_symbols symbol b xs) loads in (
            ap (list_any (loads_symbol symbol)) stays ∙ (ap (λ b. b || list_any (loads_symbol symbol) (left_symbols symbol false xs)) loads ∙ (rest.0 ∙ sym any)),
            ap (count (is_local symbol)) stays ∙ (passed (is_local symbol) x (left_symbols symbol false xs) local ∙ (rest.1 ∙ sym (ap (λ b. if b then 1 else 0) any))),
          )

  put_loads : loads_symbol symbol (symbol_made symbol) ≡ true → (gone : HostComments) (xs : List Expr) → list_any (loads_symbol symbol) (put_symbol symbol gone xs) ≡ true
  put_loads made gone xs =
      by_case (λ ys. list_any (loads_symbol symbol) ys ≡ true) (list_any (loads_symbol symbol) xs) (on_first_that (loads_symbol symbol) (with_joined gone) xs) (xs ++ with_joined gone (symbol_made symbol) ∷ []) (first xs)
      (λ none.
      list_any-append (loads_symbol symbol) xs (with_joined gone (symbol_made symbol) ∷ [])
      ∙ or_right (list_any (loads_symbol symbol) xs) (loads_symbol symbol (with_joined gone (symbol_made symbol)) || false)
      (or_left (loads_symbol symbol (with_joined gone (symbol_made symbol))) false (loads_silent symbol (symbol_made symbol) (comments_joined (comments_of (symbol_made symbol)) gone) ∙ made)))
    where
      first : (xs : List Expr) → list_any (loads_symbol symbol) xs ≡ true → list_any (loads_symbol symbol) (on_first_that (loads_symbol symbol) (with_joined gone) xs) ≡ true
      first [] some = some
      first (x ∷ xs) some =
          by_case (λ ys. list_any (loads_symbol symbol) ys ≡ true) (loads_symbol symbol x) (with_joined gone x ∷ xs) (x ∷ on_first_that (loads_symbol symbol) (with_joined gone) xs)
          (λ is. or_left (loads_symbol symbol (with_joined gone x)) (list_any (loads_symbol symbol) xs) (loads_silent symbol x (comments_joined (comments_of x) gone) ∙ is))
          (λ isnt. or_right (loads_symbol symbol x) (list_any (loads_symbol symbol) (on_first_that (loads_symbol symbol) (with_joined gone) xs)) (first xs (sym (ap (λ b. b || list_any (loads_symbol symbol) xs) isnt) ∙ some)))

  put_own : (gone : HostComments) (xs : List Expr) → count (is_local symbol) xs ≡ (if list_any (loads_symbol symbol) xs then 1 else 0) → count (is_local symbol) (put_symbol symbol gone xs) ≡ 1
  put_own gone xs h =
      by_case (λ ys. count (is_local symbol) ys ≡ 1) (list_any (loads_symbol symbol) xs) (on_first_that (loads_symbol symbol) (with_joined gone) xs) (xs ++ with_joined gone (symbol_made symbol) ∷ [])
      (λ some. first xs ∙ (h ∙ ap (λ b. if b then 1 else 0) some))
      (λ none.
      let a = count_append (is_local symbol) xs (with_joined gone (symbol_made symbol) ∷ []) in
      let b = counted (is_local symbol) (with_joined gone (symbol_made symbol)) [] (local_silent symbol (symbol_made symbol) (comments_joined (comments_of (symbol_made symbol)) gone) ∙ own) in
      let c = h ∙ ap (λ b. if b then 1 else 0) none in
      omega (arith, a, b, c))
    where
      first : (xs : List Expr) → count (is_local symbol) (on_first_that (loads_symbol symbol) (with_joined gone) xs) ≡ count (is_local symbol) xs
      first [] = refl
      first (x ∷ xs) =
          by_case (λ ys. count (is_local symbol) ys ≡ count (is_local symbol) (x ∷ xs)) (loads_symbol symbol x) (with_joined gone x ∷ xs) (x ∷ on_first_that (loads_symbol symbol) (with_joined gone) xs)
          (λ is. one_more (is_local symbol) (with_joined gone x) x xs xs (local_silent symbol x (comments_joined (comments_of x) gone)) refl)
          (λ isnt. one_more (is_local symbol) x x (on_first_that (loads_symbol symbol) (with_joined gone) xs) xs refl (first xs))

  around_alone : loads_symbol symbol (symbol_made symbol) ≡ true → (front : List Item) (load : Item) (back : List Item) → is_load_from path load ≡ true → IsLoadedAlone path (replaced_around symbol front load back) symbol
  around_alone made front load back from =
      let gone : HostComments = all_comments_joined no_comments (comments_around symbol front load back) in
      let left : Item = on_symbols (left_symbols symbol false) load in
      let new : Item = on_symbols (put_symbol symbol gone) left in
      let is : is_load_item left ≡ true = stays_load (left_symbols symbol false) load ∙ is_load_by path load from in
      let first : is_some (begins left) ≡ true = ap is_some (begins_changed (left_symbols symbol false) load (is_load_by path load from)) ∙ from_begins path load from in
      let symbols : symbols_of new ≡ put_symbol symbol gone (left_symbols symbol false (symbols_of load)) =
      symbols_changed (put_symbol symbol gone) left is (inr first) ∙ ap (put_symbol symbol gone) (symbols_changed (left_symbols symbol false) load (is_load_by path load from) (inl refl)) in
      let l = left_one (symbols_of load) in
      let loads : Item → Bool = λ item. is_load_from path item && list_any (loads_symbol symbol) (symbols_of item) in
      let here : loads new ≡ true =
      and_from (is_load_from path new) (list_any (loads_symbol symbol) (symbols_of new)) (stays_from path (put_symbol symbol gone) left ∙ (stays_from path (left_symbols symbol false) load ∙ from))
      (ap (list_any (loads_symbol symbol)) symbols ∙ put_loads made gone (left_symbols symbol false (symbols_of load))) in
      let a = in_both (is_local symbol) is_load_item (flat_map (without_symbol symbol) front) (new ∷ flat_map (without_symbol symbol) back) in
      let b = in_next (is_local symbol) is_load_item new (flat_map (without_symbol symbol) back) in
      let c = without_own front in
      let d = without_own back in
      let e : count (is_local symbol) (chosen is_load_item new) ≡ 1 =
      ap (count (is_local symbol)) (if_true (is_load_item new) (symbols_of new) [] (stays_load (put_symbol symbol gone) left ∙ is) ∙ symbols) ∙ put_own gone (left_symbols symbol false (symbols_of load)) (l.1 ∙ ap (λ b. if b then 1 else 0) (sym l.0)) in
      let all : in_items (is_local symbol) is_load_item (replaced_around symbol front load back) ≡ 1 = omega (arith, a, b, c, d, e) in (
        list_any-append loads (flat_map (without_symbol symbol) front) (new ∷ flat_map (without_symbol symbol) back)
            ∙ or_right (list_any loads (flat_map (without_symbol symbol) front)) (loads new || list_any loads (flat_map (without_symbol symbol) back)) (or_left (loads new) (list_any loads (flat_map (without_symbol symbol) back)) here),
        all,
      )

  symbol_alone : loads_symbol symbol (symbol_made symbol) ≡ true → (items : List Item) → IsLoadedAlone path (replace_symbol path items symbol) symbol
  symbol_alone made items = by (cut_of_first (may_have path symbol items) items) (cut_from path symbol items)
    where
      by : (found : Option ItemCut) → IfSome found (λ cut. is_load_from path cut.item ≡ true)
          → IsLoadedAlone path (option_map_or (λ cut. replaced_around symbol cut.front cut.item cut.back) found (new_around path symbol (loads_end (leading_blocks items) 0 items) items)) symbol
      by None from =
          let place : ℕ = loads_end (leading_blocks items) 0 items in
          around_alone made (take place items) (load_made path []) (drop place items) (new_from path [] plain)
      by (Some cut) from = around_alone made cut.front cut.item cut.back from

-- ---- a symbol that is loaded alone

module _ (path : Bytes) (symbol : Symbol) where
  none_other : (items : List Item) → in_items (is_local symbol) is_load_item items ≡ 0 → AreOther symbol items
  none_other items none = any_chosen (is_local symbol) is_load_item items ∙ count_none (is_local symbol) (flat_map (chosen is_load_item) items) none

  -- of one symbol with the local name, which loads it, nothing goes
  one_stays : (xs : List Expr) → count (is_local symbol) xs ≤ 1 → list_any (loads_symbol symbol) xs ≡ true → (left_symbols symbol false xs ≡ xs) × (gone_comments symbol false xs ≡ [])
  one_stays [] le some = (refl, refl)
  one_stays (x ∷ xs) le some = elim (cases_Bool (loads_symbol symbol x)) [
    | inl loads ↦
        let local = loads_local symbol x loads in
        let more = counted (is_local symbol) x xs local in
        let none = count_none (is_local symbol) xs (omega (arith, le, more)) in
        let isnt : goes symbol false x ≡ false = both (λ a b. a && (false || not b)) local loads in (
          if_false (goes symbol false x) _ _ isnt ∙ ap (λ ys. x ∷ ys) (left_all symbol (false || loads_symbol symbol x) xs none),
          if_false (goes symbol false x) _ _ isnt ∙ gone_none symbol (false || loads_symbol symbol x) xs none,
        )
    | inr loads ↦
        let there : list_any (loads_symbol symbol) xs ≡ true = sym (ap (λ b. b || list_any (loads_symbol symbol) xs) loads) ∙ some in
        let least = count_some (is_local symbol) xs (local_any symbol xs there) in
        let isnt : is_local symbol x ≡ false = not_local least in
        let same = passed (is_local symbol) x xs isnt in
        let rest = one_stays xs (omega (arith, le, same)) there in
        let stays : goes symbol false x ≡ false = ap (λ b. b && (false || not (loads_symbol symbol x))) isnt in (
          if_false (goes symbol false x) _ _ stays ∙ ap (λ ys. x ∷ ys) (ap (λ b. left_symbols symbol b xs) loads ∙ rest.0),
          if_false (goes symbol false x) _ _ stays ∙ (ap (λ b. gone_comments symbol b xs) loads ∙ rest.1),
        )
  ]
    where
      not_local : 1 ≤ count (is_local symbol) xs → is_local symbol x ≡ false
      not_local least = elim (cases_Bool (is_local symbol x)) [
        | inl is ↦ let more = counted (is_local symbol) x xs is in absurd (omega (arith, le, least, more))
        | inr isnt ↦ isnt
      ]

  put_stays : (xs : List Expr) → list_any (loads_symbol symbol) xs ≡ true → put_symbol symbol no_comments xs ≡ xs
  put_stays xs some = if_true (list_any (loads_symbol symbol) xs) _ _ some ∙ first xs
    where
      first : (ys : List Expr) → on_first_that (loads_symbol symbol) (with_joined no_comments) ys ≡ ys
      first [] = refl
      first (y ∷ ys) =
          by_case (λ zs. zs ≡ y ∷ ys) (loads_symbol symbol y) (with_joined no_comments y ∷ ys) (y ∷ on_first_that (loads_symbol symbol) (with_joined no_comments) ys) (λ _. ap (λ z. z ∷ ys) (nothing_joined y)) (λ _. ap (λ zs. y ∷ zs) (first ys))

  around_stays : (front : List Item) (load : Item) (back : List Item) → is_load_from path load ≡ true → list_any (loads_symbol symbol) (symbols_of load) ≡ true
      → in_items (is_local symbol) is_load_item (front ++ load ∷ back) ≡ 1 → replaced_around symbol front load back ≡ front ++ load ∷ back
  around_stays front load back from loads one =
      let is = is_load_by path load from in
      let a = in_both (is_local symbol) is_load_item front (load ∷ back) in
      let b = in_next (is_local symbol) is_load_item load back in
      let c : count (is_local symbol) (chosen is_load_item load) ≡ count (is_local symbol) (symbols_of load) = ap (count (is_local symbol)) (if_true (is_load_item load) (symbols_of load) [] is) in
      let least = count_some (is_local symbol) (symbols_of load) (local_any symbol (symbols_of load) loads) in
      let f = none_other front (omega (arith, one, a, b, c, least)) in
      let l = none_other back (omega (arith, one, a, b, c, least)) in
      let s = one_stays (symbols_of load) (omega (arith, one, a, b, c)) loads in
      let left : on_symbols (left_symbols symbol false) load ≡ load = symbols_stay symbol (left_symbols symbol false) load (inr s.0) in
      let gone : comments_around symbol front load back ≡ [] =
      both (λ (xs ys : List HostComments). xs ++ ys) (none_said symbol front f) (both (λ (xs ys : List HostComments). xs ++ ys) (if_true (is_load_item load) _ _ is ∙ s.1) (none_said symbol back l)) in
      let new : on_symbols (put_symbol symbol (all_comments_joined no_comments (comments_around symbol front load back))) (on_symbols (left_symbols symbol false) load) ≡ load =
      both (λ cs x. on_symbols (put_symbol symbol (all_comments_joined no_comments cs)) x) gone left ∙ symbols_stay symbol (put_symbol symbol no_comments) load (inr (put_stays (symbols_of load) loads)) in
      both (λ xs ys. xs ++ ys) (all_without symbol front f) (both (λ x ys. x ∷ ys) new (all_without symbol back l))

  pub symbol_stays : (items : List Item) → IsLoadedAlone path items symbol → replace_symbol path items symbol ≡ items
  symbol_stays items h = by (cut_of_first (may_have path symbol items) items) refl (cut_passes (may_have path symbol items) items) (cut_joined (may_have path symbol items) items)
    where
      from_any : (xs : List Item) → list_any (λ item. is_load_from path item && list_any (loads_symbol symbol) (symbols_of item)) xs ≡ true → list_any (is_load_from path) xs ≡ true
      from_any [] some = some
      from_any (x ∷ xs) some = elim (cases_Bool (is_load_from path x)) [
        | inl is ↦ or_left (is_load_from path x) (list_any (is_load_from path) xs) is
        | inr isnt ↦ or_right (is_load_from path x) (list_any (is_load_from path) xs) (from_any xs (sym (ap (λ b. (b && list_any (loads_symbol symbol) (symbols_of x)) || list_any (λ item. is_load_from path item && list_any (loads_symbol symbol) (symbols_of item)) xs) isnt) ∙ some))
      ]

      by : (found : Option ItemCut) → cut_of_first (may_have path symbol items) items ≡ found → IfSome found (λ cut. may_have path symbol items cut.item ≡ true) → IfSome found (λ cut. items ≡ cut.front ++ cut.item ∷ cut.back)
          → option_map_or (λ cut. replaced_around symbol cut.front cut.item cut.back) found (new_around path symbol (loads_end (leading_blocks items) 0 items) items) ≡ items
      by None e passes joined = absurd (some_cut (may_have path symbol items) items (any_may path symbol items (from_any items h.0)) e)
      by (Some cut) e passes joined =
          let p = and_parts (is_load_from path cut.item) (not (is_loaded path items symbol) || list_any (loads_symbol symbol) (symbols_of cut.item)) passes in
          let loads : list_any (loads_symbol symbol) (symbols_of cut.item) ≡ true = sym (ap (λ b. not b || list_any (loads_symbol symbol) (symbols_of cut.item)) h.0) ∙ p.1 in
          around_stays cut.front cut.item cut.back p.0 loads (ap (in_items (is_local symbol) is_load_item) (sym joined) ∙ h.1) ∙ sym joined

-- ---- all symbols

load_choice : IsChoice is_load_item
load_choice = record { loads = λ item is. is; stays = stays_load }

from_choice : (path : Bytes) → IsChoice (is_load_from path)
from_choice path = record { loads = is_load_by path; stays = stays_from path }

-- another local name
local_apart : (symbol other : Symbol) → bytes_eq symbol.to other.to ≡ false → IsApart other (is_local symbol)
local_apart symbol other differ x is = ap (bytes_eq symbol.to) (sym ((bytes_eq-Decides other.to (local_name x)).0 is)) ∙ differ

loads_apart : (symbol other : Symbol) → bytes_eq symbol.to other.to ≡ false → IsApart other (loads_symbol symbol)
loads_apart symbol other differ x is = other_loads symbol x (local_apart symbol other differ x is)

abbrev ArePlain : List Symbol → Type 0
ArePlain symbols = AllByRecursion (λ (symbol : Symbol). IsPlain symbol.from) symbols

module _ (path : Bytes) (plain : IsPlain path) where
  other_stays : (symbol other : Symbol) (items : List Item) → IsPlain other.from → bytes_eq symbol.to other.to ≡ false → IsLoadedAlone path items symbol → IsLoadedAlone path (replace_symbol path items other) symbol
  other_stays symbol other items p differ h =
      let own = loads_local other (symbol_made other) (made_loads other p) in
      let loads : count (loads_symbol symbol) (flat_map (chosen (is_load_from path)) (replace_symbol path items other)) ≡ count (loads_symbol symbol) (flat_map (chosen (is_load_from path)) items) =
      symbol_count path plain other own (loads_symbol symbol) (loads_apart symbol other differ) (loads_silent symbol) (is_load_from path) (from_choice path) items in
      let locals : in_items (is_local symbol) is_load_item (replace_symbol path items other) ≡ in_items (is_local symbol) is_load_item items =
      symbol_count path plain other own (is_local symbol) (local_apart symbol other differ) (local_silent symbol) is_load_item load_choice items in
      let some = count_some (loads_symbol symbol) (flat_map (chosen (is_load_from path)) items) (sym (any_chosen (loads_symbol symbol) (is_load_from path) items) ∙ h.0) in (
        any_chosen (loads_symbol symbol) (is_load_from path) (replace_symbol path items other)
            ∙ any_counted (loads_symbol symbol) (flat_map (chosen (is_load_from path)) (replace_symbol path items other)) (omega (arith, loads, some)),
        locals ∙ h.1,
      )

  -- no other one has its local name
  others_stay : (symbol : Symbol) (symbols : List Symbol) (items : List Item) → ArePlain symbols → list_any (λ (other : Symbol). bytes_eq symbol.to other.to) symbols ≡ false → IsLoadedAlone path items symbol
      → IsLoadedAlone path (each_replaced path symbols items) symbol
  others_stay symbol [] items p none h = h
  others_stay symbol (other ∷ symbols) items p none h =
      let d = or_parts (bytes_eq symbol.to other.to) (list_any (λ (each : Symbol). bytes_eq symbol.to each.to) symbols) none in
      others_stay symbol symbols (replace_symbol path items other) p.1 d.1 (other_stays symbol other items p.0 d.0 h)

  last_none : (symbol : Symbol) (symbols : List Symbol) → list_any (λ (other : Symbol). bytes_eq symbol.to other.to) symbols ≡ false → list_any (λ (other : Symbol). bytes_eq symbol.to other.to) (last_of_each symbols) ≡ false
  last_none symbol [] none = refl
  last_none symbol (other ∷ symbols) none =
      let d = or_parts (bytes_eq symbol.to other.to) (list_any (λ (each : Symbol). bytes_eq symbol.to each.to) symbols) none in
      let rest = last_none symbol symbols d.1 in
      by_case (λ (ss : List Symbol). list_any (λ (each : Symbol). bytes_eq symbol.to each.to) ss ≡ false) (list_any (λ (each : Symbol). bytes_eq other.to each.to) symbols) (last_of_each symbols) (other ∷ last_of_each symbols) (λ _. rest)
      (λ _. both (λ a b. a || b) d.0 rest)

  last_plain : (symbols : List Symbol) → ArePlain symbols → ArePlain (last_of_each symbols)
  last_plain [] p = tt
  last_plain (symbol ∷ symbols) p = by_case ArePlain (list_any (λ (each : Symbol). bytes_eq symbol.to each.to) symbols) (last_of_each symbols) (symbol ∷ last_of_each symbols) (λ _. last_plain symbols p.1) (λ _. (p.0, last_plain symbols p.1))

  all_alone : (symbols : List Symbol) (items : List Item) → ArePlain symbols → AllByRecursion (IsLoadedAlone path (each_replaced path (last_of_each symbols) items)) (last_of_each symbols)
  all_alone [] items p = tt
  all_alone (symbol ∷ symbols) items p =
      by_case (λ (ss : List Symbol). AllByRecursion (IsLoadedAlone path (each_replaced path ss items)) ss) (list_any (λ (other : Symbol). bytes_eq symbol.to other.to) symbols) (last_of_each symbols) (symbol ∷ last_of_each symbols) (λ _. all_alone symbols items p.1)
      (λ last.
      let made = made_loads symbol p.0 in
      let here = symbol_alone path plain symbol (loads_local symbol (symbol_made symbol) made) made items in
      (others_stay symbol (last_of_each symbols) (replace_symbol path items symbol) (last_plain symbols p.1) (last_none symbol symbols last) here, all_alone symbols (replace_symbol path items symbol) p.1))

each_stays : (path : Bytes) (symbols : List Symbol) (items : List Item) → AllByRecursion (IsLoadedAlone path items) symbols → each_replaced path symbols items ≡ items
each_stays path [] items h = refl
each_stays path (symbol ∷ symbols) items h = ap (each_replaced path symbols) (symbol_stays path symbol items h.0) ∙ each_stays path symbols items h.1

plain_all : (symbols : List Symbol) → list_all (λ (symbol : Symbol). becomes_plain symbol.from) symbols ≡ true → ArePlain symbols
plain_all [] h = tt
plain_all (symbol ∷ symbols) h = let p = and_parts (becomes_plain symbol.from) (list_all (λ (each : Symbol). becomes_plain each.from) symbols) h in (not-true (list_any is_escaped symbol.from) p.0, plain_all symbols p.1)

pub replaced_alone : ReplacedAlone
replaced_alone path symbols items plain all =
    All-from_recursion (IsLoadedAlone path (replace_load path symbols items)) (last_of_each symbols) (all_alone path (not-true (list_any is_escaped path) plain) symbols items (plain_all symbols all))

pub replaced_again : ReplacedAgain
replaced_again path symbols items plain all = each_stays path (last_of_each symbols) (replace_load path symbols items) (all_alone path (not-true (list_any is_escaped path) plain) symbols items (plain_all symbols all))

-- what leaves the items as they are finds each symbol loaded alone
pub all_settled : (path : Bytes) (symbols : List Symbol) (items : List Item) → becomes_plain path ≡ true → list_all (λ symbol. becomes_plain symbol.from) symbols ≡ true
    → replace_load path symbols items ≡ items → AllByRecursion (IsLoadedAlone path items) (last_of_each symbols)
all_settled path symbols items plain all same =
    subst (λ (xs : List Item). AllByRecursion (IsLoadedAlone path xs) (last_of_each symbols)) same (all_alone path (not-true (list_any is_escaped path) plain) symbols items (plain_all symbols all))
