-- The same symbols loaded once more, and a file mended twice: symbols that nothing uses, and the package.
use Rattle.bz_load.proofs.Words.{[], ◌&&◌, ◌++◌, ◌+◌, ◌||◌, ◌∙◌, ◌∷◌, ◌≡◌, after_loads, after_path, alias_in, AllByRecursion, and-false, and_from, and_parts, and_symbol, ap, becomes_plain, Begins, body_of, body_quoted, Bool, both, by_case, by_test, Bytes, bytes_eq, cases_Bool, Class as c, codes, equal_self, Expr, false, filter, find, fix, FixedAgain, Form', fun_ext, has_kind, has_own_comments, has_second_package, if_false, if_true, IfSome, if◌then◌else◌, inl, inr, insert, is_block, is_commented, is_emptied, is_empty, is_escaped, is_load_from, is_load_item, is_loaded, is_package_call, is_symbol, is_text, is_used, IsPlain, IsProper, IsProperItem, Item, Item as i, items_filled, items_hidden-the_row-Expr-0, items_kind, items_of, items_twice, Kind as k, leading_blocks, List, list_all, list_any, list_any-append, load_made, LoadedAgain, loads_end, loads_symbol, loses_load, map, mark, move_package_to_top, MovedAgain, name, new_load, new_symbols, node, None, not, not-false, not-true, on_first_that, on_items, on_rest, Option, option_map, option_map_or, or_assoc, or_cases, or_comm, or_left, or_parts, or_right, or_turn, package_moved, path_comments, path_in, quoted_of, recursion_from_All, refl, Some, subst, suc, sym, Symbol, symbol_made, symbol_named, symbol_stays, symbols_of, Token, token, true, true≢false, unused_loads, UnusedAgain, used_alone, uses, whole_grammar, with_items, with_symbols, with_used, without_first, ℕ}
use Rattle.bz_load.proofs.{KnownSteps.same_symbol, PlaceSteps.any_put, PlaceSteps.found_put, PlaceSteps.left_put, PlaceSteps.ends_other, PlaceSteps.ends_alike, PlaceSteps.map_put, PlaceSteps.next_end, PutSteps.with_none, LawReplaced.loads_stay_proper, ProperLoads.used_statement, ProperLoads.load_none}

-- ---- a new symbol is loaded

text_quoted : (text : Bytes) → IsPlain text → is_text text (body_of (token c.String (quoted_of text))) ≡ true
text_quoted text h = ap (is_text text) (body_quoted text h) ∙ equal_self text

made_string : (symbol : Symbol) → IsPlain symbol.from → bytes_eq symbol.to symbol.from ≡ true → loads_symbol symbol (token c.String (quoted_of symbol.from)) ≡ true
made_string symbol h e =
    ap (λ (found : Option Bytes). option_map_or (is_symbol symbol) (option_map (λ text. symbol_named text text) found) false) (body_quoted symbol.from h)
    ∙ and_from (bytes_eq symbol.to symbol.from) (bytes_eq symbol.from symbol.from) e (equal_self symbol.from)

made_alias : (symbol : Symbol) → IsPlain symbol.from → loads_symbol symbol (node k.Alias (name symbol.to ∷ mark (codes "=") ∷ token c.String (quoted_of symbol.from) ∷ [])) ≡ true
made_alias symbol h =
    ap (λ ps. option_map_or (is_symbol symbol) (alias_in ps) false) (items_hidden-the_row-Expr-0 (name symbol.to ∷ mark (codes "=") ∷ token c.String (quoted_of symbol.from) ∷ []))
    ∙ (ap (λ (found : Option Bytes). option_map_or (is_symbol symbol) (option_map (symbol_named symbol.to) found) false) (body_quoted symbol.from h)
    ∙ and_from (bytes_eq symbol.to symbol.to) (bytes_eq symbol.from symbol.from) (equal_self symbol.to) (equal_self symbol.from))

pub made_loads : (symbol : Symbol) → IsPlain symbol.from → loads_symbol symbol (symbol_made symbol) ≡ true
made_loads symbol h =
    by_case (λ x. loads_symbol symbol x ≡ true) (bytes_eq symbol.to symbol.from) (token c.String (quoted_of symbol.from))
    (node k.Alias (name symbol.to ∷ mark (codes "=") ∷ token c.String (quoted_of symbol.from) ∷ [])) (made_string symbol h) (λ e. made_alias symbol h)

abbrev Plain : Symbol → Type 0
Plain symbol = IsPlain symbol.from

-- the symbol is loaded by one of the items
abbrev IsIn : List Expr → Symbol → Type 0
IsIn made symbol = list_any (loads_symbol symbol) made ≡ true

-- ---- the symbols that are new

-- where what was known and what is made of those that are new is loaded, all symbols are
all_loaded : (P : Symbol → Type 0) (is_known : Symbol → Bool) (symbols : List Symbol) → AllByRecursion Plain symbols → ((symbol : Symbol) → is_known symbol ≡ true → P symbol)
    → ((symbol : Symbol) → IsIn (map symbol_made (new_symbols is_known symbols)) symbol → P symbol) → AllByRecursion P symbols
all_loaded P is_known [] plain known new = tt
all_loaded P is_known (first ∷ rest) plain known new =
    let more : Symbol → Bool = and_symbol first is_known in
    let made : List Expr = map symbol_made (new_symbols more rest) in
    by_case (λ chosen. ((symbol : Symbol) → IsIn (map symbol_made chosen) symbol → P symbol) → AllByRecursion P (first ∷ rest)) (is_known first) (new_symbols is_known rest) (first ∷ new_symbols more rest)
    (λ e added. (known first e, all_loaded P is_known rest plain.1 known added))
    (λ e added.
    let own : P first = added first (or_left (loads_symbol first (symbol_made first)) (list_any (loads_symbol first) made) (made_loads first plain.0)) in (
      own,
      all_loaded P more rest plain.1
          (λ symbol h. elim (or_cases (is_symbol symbol first) (is_known symbol) h) [
            | inl w ↦ subst P (sym (same_symbol symbol first w)) own
            | inr w ↦ known symbol w
          ])
          (λ symbol h. added symbol (or_right (loads_symbol symbol (symbol_made first)) (list_any (loads_symbol symbol) made) h)),
    ))
    new

none_new : (is_known : Symbol → Bool) (symbols : List Symbol) → AllByRecursion (λ symbol. is_known symbol ≡ true) symbols → new_symbols is_known symbols ≡ []
none_new is_known [] h = refl
none_new is_known (first ∷ rest) h = rw h.0 (none_new is_known rest h.1)

-- ---- nothing is put after

first_same : (test : Item → Bool) (change : Item → Item) → ((x : Item) → change x ≡ x) → (xs : List Item) → on_first_that test change xs ≡ xs
first_same test change f [] = refl
first_same test change f (x ∷ xs) = elim (cases_Bool (test x)) [
  | inl e ↦ rw e (ap (λ y. y ∷ xs) (f x))
  | inr e ↦ rw e (ap (λ ys. x ∷ ys) (first_same test change f xs))
]

-- a file that has a load from the path, and loads all these symbols from it
loaded_stays : (path : Bytes) (symbols : List Symbol) (items : List Item) → list_any (is_load_from path) items ≡ true
    → AllByRecursion (λ symbol. is_loaded path items symbol ≡ true) symbols → new_load path symbols items ≡ items
loaded_stays path symbols items there all =
    if_true (list_any (is_load_from path) items) _ _ there
    ∙ (ap (λ chosen. on_first_that (is_load_from path) (with_symbols (map symbol_made chosen)) items) (none_new (is_loaded path items) symbols all) ∙ first_same (is_load_from path) (with_symbols []) with_none items)

-- ---- the first load from the path, with more symbols

-- where the first one that passes is changed, another test finds what it found, and what the change brings
any_changed : (test other : Item → Bool) (change : Item → Item) (more : Bool) → ((x : Item) → test x ≡ true → other (change x) ≡ (more || other x)) → (xs : List Item) → list_any test xs ≡ true
    → list_any other (on_first_that test change xs) ≡ (more || list_any other xs)
any_changed test other change more f [] h = absurd (true≢false (sym h))
any_changed test other change more f (x ∷ xs) h =
    by_case (λ ys. list_any other ys ≡ (more || (other x || list_any other xs))) (test x) (change x ∷ xs) (x ∷ on_first_that test change xs)
    (λ e. ap (λ z. z || list_any other xs) (f x e) ∙ or_assoc more (other x) (list_any other xs))
    (λ e. ap (λ z. other x || z) (any_changed test other change more f xs (sym (ap (λ z. z || list_any test xs) e) ∙ h)) ∙ or_turn (other x) more (list_any other xs))

module _ (path : Bytes) (more : List Expr) where
  items_kept : (xs : List Expr) → is_text path (path_in xs) ≡ true → (path_in (xs ++ more) ≡ path_in xs) × (after_path (xs ++ more) ≡ after_path xs ++ more)
  items_kept [] h = absurd (true≢false (sym h))
  items_kept (x ∷ xs) h = (refl, refl)

  -- a load from the path stays one, and has these symbols after its own
  more_after : (item : Item) → is_load_from path item ≡ true → (is_load_from path (with_symbols more item) ≡ true) × (symbols_of (with_symbols more item) ≡ symbols_of item ++ more)
  more_after (i.Block lines) h = absurd (true≢false (sym h))
  more_after (i.Stmt x) h =
      let p = and_parts (has_kind k.Load x) (is_text path (path_in (items_of x))) h in
      let w = items_kept (items_of x) p.1 in
      let all : List Expr = items_of x ++ more in
      let changed : on_items k.Load (λ xs. xs ++ more) x ≡ with_items all x = if_true (has_kind k.Load x) _ _ p.0 in
      let filled : items_of (with_items all x) ≡ all = items_filled k.Load all x p.0 in (
        ap (λ y. is_load_from path (i.Stmt y)) changed
            ∙ (both (λ b xs. b && is_text path (path_in xs)) (items_kind k.Load all x ∙ p.0) filled ∙ (ap (is_text path) w.0 ∙ p.1)),
        ap (λ y. after_path (items_of y)) changed ∙ (ap after_path filled ∙ w.1),
      )

  abbrev loads : Symbol → Item → Bool
  loads symbol item = is_load_from path item && list_any (loads_symbol symbol) (symbols_of item)

  more_loads : (symbol : Symbol) (item : Item) → is_load_from path item ≡ true → loads symbol (with_symbols more item) ≡ (list_any (loads_symbol symbol) more || loads symbol item)
  more_loads symbol item h =
      let w = more_after item h in
      let own : Bool = list_any (loads_symbol symbol) (symbols_of item) in
      let added : Bool = list_any (loads_symbol symbol) more in
      both (λ b xs. b && list_any (loads_symbol symbol) xs) w.0 w.1
      ∙ (list_any-append (loads_symbol symbol) (symbols_of item) more ∙ (or_comm own added ∙ ap (λ b. added || (b && own)) (sym h)))

  -- ---- a new load

  abbrev made_items : List Expr
  made_items = token c.String (quoted_of path) ∷ more

  pub new_from : IsPlain path → is_load_from path (load_made path more) ≡ true
  new_from h = ap (λ xs. is_text path (path_in xs)) (items_hidden-the_row-Expr-0 made_items) ∙ text_quoted path h

  new_loads : IsPlain path → (symbol : Symbol) → loads symbol (load_made path more) ≡ list_any (loads_symbol symbol) more
  new_loads h symbol = both (λ b xs. b && list_any (loads_symbol symbol) (after_path xs)) (new_from h) (items_hidden-the_row-Expr-0 made_items)

-- ---- once more

each_plain : (symbols : List Symbol) → list_all (λ symbol. becomes_plain symbol.from) symbols ≡ true → AllByRecursion Plain symbols
each_plain [] h = tt
each_plain (first ∷ rest) h =
    let p = and_parts (becomes_plain first.from) (list_all (λ symbol. becomes_plain symbol.from) rest) h in
    (not-true (list_any is_escaped first.from) p.0, each_plain rest p.1)

pub loaded_again : LoadedAgain
loaded_again path symbols items plain_path plain =
    let chosen : List Symbol = new_symbols (is_loaded path items) symbols in
    let added : List Expr = map symbol_made chosen in
    let new : Item = load_made path added in
    let place : ℕ = loads_end (leading_blocks items) 0 items in
    -- a file with a load from the path that loads the symbols that are new and those that it had
    let again : (made : List Item) → list_any (is_load_from path) made ≡ true
    → ((symbol : Symbol) → is_loaded path made symbol ≡ (list_any (loads_symbol symbol) added || is_loaded path items symbol)) → new_load path symbols made ≡ made =
    λ made there has.
    loaded_stays path symbols made there
    (all_loaded (λ symbol. is_loaded path made symbol ≡ true) (is_loaded path items) symbols (each_plain symbols plain)
    (λ symbol h. has symbol ∙ or_right (list_any (loads_symbol symbol) added) (is_loaded path items symbol) h)
    (λ symbol h. has symbol ∙ or_left (list_any (loads_symbol symbol) added) (is_loaded path items symbol) h)) in
    let is_plain : IsPlain path = not-true (list_any is_escaped path) plain_path in
    by_case (λ made. new_load path symbols made ≡ made) (list_any (is_load_from path) items) (on_first_that (is_load_from path) (with_symbols added) items) (after_loads new items)
    (λ e. again (on_first_that (is_load_from path) (with_symbols added) items)
    (any_changed (is_load_from path) (is_load_from path) (with_symbols added) false (λ x h. (more_after path added x h).0 ∙ sym h) items e ∙ e)
    (λ symbol. any_changed (is_load_from path) (loads path added symbol) (with_symbols added) (list_any (loads_symbol symbol) added) (more_loads path added symbol) items e))
    (λ e. again (after_loads new items)
    (any_put (is_load_from path) place new items ∙ or_left (is_load_from path new) (list_any (is_load_from path) items) (new_from path added is_plain))
    (λ symbol. any_put (loads path added symbol) place new items ∙ ap (λ z. z || is_loaded path items symbol) (new_loads path added is_plain symbol)))

abbrev Test : Type 0
Test = Bytes → Bool

-- ---- what is filtered once

filter_twice : {X : Type 0} (test : X → Bool) (xs : List X) → filter test (filter test xs) ≡ filter test xs
filter_twice test [] = refl
filter_twice test (x ∷ xs) =
    by_case (λ ys. filter test ys ≡ ys) (test x) (x ∷ filter test xs) (filter test xs) (λ e. if_true (test x) _ _ e ∙ ap (λ ys. x ∷ ys) (filter_twice test xs)) (λ e. filter_twice test xs)

-- none is left, or one that passes
left_passes : {X : Type 0} (test : X → Bool) (xs : List X) → (not (is_empty (filter test xs)) && not (list_any test (filter test xs))) ≡ false
left_passes test [] = refl
left_passes test (x ∷ xs) =
    by_case (λ ys. (not (is_empty ys) && not (list_any test ys)) ≡ false) (test x) (x ∷ filter test xs) (filter test xs)
    (λ e. ap (λ z. not (z || list_any test (filter test xs))) e) (λ e. left_passes test xs)

-- ---- a load that keeps the symbols that are to stay

abbrev kept : Test → List Expr → List Expr
kept used = on_rest (filter (symbol_stays used))

kept_again : (used : Test) (xs : List Expr)
    → (kept used (kept used xs) ≡ kept used xs) × (path_comments (kept used xs) ≡ path_comments xs) × (after_path (kept used xs) ≡ filter (symbol_stays used) (after_path xs))
kept_again used [] = (refl, refl, refl)
kept_again used (x ∷ xs) = (ap (λ ys. x ∷ ys) (filter_twice (symbol_stays used) xs), refl, refl)

own_kept : (ys : List Expr) (x : Expr) → has_kind k.Load x ≡ true → path_comments ys ≡ path_comments (items_of x) → has_own_comments (with_items ys x) ≡ has_own_comments x
own_kept ys (Token t) is h = refl
own_kept ys (Form' kind s parts s' items end split open_break comments) is h =
    ap (λ z. is_commented comments || (not (is_empty end) || z)) (ap path_comments (items_hidden-the_row-Expr-0 ys) ∙ h)

-- what is left of a load is a load that nothing goes from
abbrev Settled : Test → Expr → Type 0
Settled used y = (with_used used y ≡ y) × (is_emptied used (i.Stmt y) ≡ false)

settled_load : (used : Test) (x : Expr) → has_kind k.Load x ≡ true → has_own_comments x ≡ false → Settled used (with_items (kept used (items_of x)) x)
settled_load used x is own =
    let ys : List Expr = kept used (items_of x) in
    let w = kept_again used (items_of x) in
    let y : Expr = with_items ys x in
    let load : has_kind k.Load y ≡ true = items_kind k.Load ys x ∙ is in
    let loose : has_own_comments y ≡ false = own_kept ys x is w.1 ∙ own in
    let filled : items_of y ≡ ys = items_filled k.Load ys x is in (
      if_false (has_own_comments y) _ _ loose
          ∙ (if_true (has_kind k.Load y) _ _ load
          ∙ (ap (λ zs. with_items (kept used zs) y) filled ∙ (ap (λ zs. with_items zs y) w.0 ∙ items_twice ys ys x))),
      ap (λ z. has_kind k.Load y && not (has_own_comments y) && z)
          (ap (λ zs. not (is_empty (after_path zs)) && not (list_any (symbol_stays used) (after_path zs))) filled
          ∙ (ap (λ zs. not (is_empty zs) && not (list_any (symbol_stays used) zs)) w.2 ∙ left_passes (symbol_stays used) (after_path (items_of x))))
          ∙ and-false (has_kind k.Load y && not (has_own_comments y)),
    )

-- what is left of an expression that isn't emptied
settled : (used : Test) (x : Expr) → is_emptied used (i.Stmt x) ≡ false → Settled used (with_used used x)
settled used x h =
    by_case (Settled used) (has_own_comments x) x (on_items k.Load (kept used) x) (λ own. (if_true (has_own_comments x) _ _ own, h))
    (λ own. by_case (Settled used) (has_kind k.Load x) (with_items (kept used (items_of x)) x) x (λ is. settled_load used x is own)
    (λ is. (if_false (has_own_comments x) _ _ own ∙ if_false (has_kind k.Load x) _ _ is, h)))

settled_item : (used : Test) (item : Item) → is_emptied used item ≡ false → (used_alone used (used_alone used item) ≡ used_alone used item) × (is_emptied used (used_alone used item) ≡ false)
settled_item used (i.Block lines) h = (refl, refl)
settled_item used (i.Stmt x) h = let w = settled used x h in (ap i.Stmt w.0, w.1)

-- ---- all items, by the names that are used

abbrev unused_by : Test → List Item → List Item
unused_by used items = map (used_alone used) (filter (λ item. not (is_emptied used item)) items)

unused_twice : (used : Test) (items : List Item) → unused_by used (unused_by used items) ≡ unused_by used items
unused_twice used [] = refl
unused_twice used (item ∷ items) =
    let rest : List Item = filter (λ x. not (is_emptied used x)) items in
    by_case (λ ys. unused_by used (map (used_alone used) ys) ≡ map (used_alone used) ys) (not (is_emptied used item)) (item ∷ rest) rest
    (λ h. let w = settled_item used item (not-true (is_emptied used item) h) in
    ap (map (used_alone used)) (if_true (not (is_emptied used (used_alone used item))) _ _ (ap not w.1))
    ∙ (ap (λ x. x ∷ unused_by used (map (used_alone used) rest)) w.0 ∙ ap (λ xs. used_alone used item ∷ xs) (unused_twice used items)))
    (λ h. unused_twice used items)

-- ---- the names that are used stay

load_uses : (text : Bytes) (item : Item) → is_load_item item ≡ true → IsProperItem item → uses text item ≡ false
load_uses text (i.Block lines) is h = refl
load_uses text (i.Stmt x) is h = load_none whole_grammar text Begins x is h.1

emptied_load : (used : Test) (item : Item) → is_emptied used item ≡ true → is_load_item item ≡ true
emptied_load used (i.Block lines) h = h
emptied_load used (i.Stmt x) h = (and_parts (has_kind k.Load x) (not (has_own_comments x)) (and_parts (has_kind k.Load x && not (has_own_comments x)) _ h).0).0

used_load : (used : Test) (item : Item) → is_load_item (used_alone used item) ≡ is_load_item item
used_load used (i.Block lines) = refl
used_load used (i.Stmt x) =
    by_test (λ (y : Expr). has_kind k.Load y ≡ has_kind k.Load x) (has_own_comments x) x (on_items k.Load (kept used) x) refl
    (by_test (λ (y : Expr). has_kind k.Load y ≡ has_kind k.Load x) (has_kind k.Load x) (with_items (kept used (items_of x)) x) x (items_kind k.Load (kept used (items_of x)) x) refl)

-- what is no load stays
other_stays : (used : Test) (item : Item) → is_load_item item ≡ false → used_alone used item ≡ item
other_stays used (i.Block lines) h = refl
other_stays used (i.Stmt x) h = ap i.Stmt (by_test (λ (y : Expr). y ≡ x) (has_own_comments x) x (on_items k.Load (kept used) x) refl (if_false (has_kind k.Load x) _ _ h))

used_same : (text : Bytes) (used : Test) (item : Item) → IsProperItem item → uses text (used_alone used item) ≡ uses text item
used_same text used item h = elim (cases_Bool (is_load_item item)) [
  | inl is ↦ load_uses text (used_alone used item) (used_load used item ∙ is) (used_statement whole_grammar used item h) ∙ sym (load_uses text item is h)
  | inr is ↦ ap (uses text) (other_stays used item is)
]

uses_stay : (text : Bytes) (used : Test) (items : List Item) → AllByRecursion IsProperItem items → is_used (unused_by used items) text ≡ is_used items text
uses_stay text used [] h = refl
uses_stay text used (item ∷ items) h =
    let rest : List Item = filter (λ x. not (is_emptied used x)) items in
    by_case (λ ys. is_used (map (used_alone used) ys) text ≡ is_used (item ∷ items) text) (not (is_emptied used item)) (item ∷ rest) rest
    (λ e. both (λ y z. y || z) (used_same text used item h.0) (uses_stay text used items h.1))
    (λ e. both (λ y z. y || z) (sym (load_uses text item (emptied_load used item (not-false (is_emptied used item) e)) h.0)) (uses_stay text used items h.1))

pub unused_again : UnusedAgain
unused_again items h =
    let used : Test = is_used items in
    ap (λ (test : Test). unused_by test (unused_loads items)) (fun_ext (λ text. uses_stay text used items (recursion_from_All IsProperItem items h))) ∙ unused_twice used items

-- ---- the package, moved twice

package_no_block : (item : Item) → is_package_call item ≡ true → is_block item ≡ false
package_no_block (i.Block lines) is = absurd (true≢false (sym is))
package_no_block (i.Stmt x) is = refl

-- after what is put after the leading blocks as many blocks lead
blocks_put : (new : Item) (items : List Item) → is_block new ≡ false → leading_blocks (insert (without_first is_package_call items) (leading_blocks items) new) ≡ leading_blocks items
blocks_put new [] h = rw h refl
blocks_put new (i.Stmt x ∷ items) h = rw h refl
blocks_put new (i.Block lines ∷ items) h = ap (λ n. suc n) (blocks_put new items h)

found_passes : (xs : List Item) → IfSome (find is_package_call xs) (λ x. is_package_call x ≡ true)
found_passes [] = tt
found_passes (x ∷ xs) = elim (cases_Bool (is_package_call x)) [ inl e ↦ rw e e | inr e ↦ rw e (found_passes xs) ]

-- the package that was moved is found and moved to the same place
moved_by : (items : List Item) → has_second_package items ≡ false → (found : Option Item) → find is_package_call items ≡ found → IfSome found (λ new. is_package_call new ≡ true)
    → move_package_to_top (option_map_or (package_moved items) found items) ≡ option_map_or (package_moved items) found items
moved_by items one None e is = ap (λ found. option_map_or (package_moved items) found items) e
moved_by items one (Some new) e is =
    let rest : List Item = without_first is_package_call items in
    let place : ℕ = loads_end (leading_blocks items) 0 rest in
    let moved : List Item = insert rest place new in
    let same : loads_end (leading_blocks moved) 0 rest ≡ place = elim (cases_Bool (list_any is_load_item rest)) [
      | inl some ↦ ends_alike (leading_blocks moved) (leading_blocks items) 0 rest some
      | inr none ↦
          let after_blocks : place ≡ leading_blocks items = ends_other (leading_blocks items) 0 rest none in
          ends_other (leading_blocks moved) 0 rest none
          ∙ (ap (λ n. leading_blocks (insert rest n new)) after_blocks ∙ (blocks_put new items (package_no_block new is) ∙ sym after_blocks))
    ] in
    ap (λ found. option_map_or (package_moved moved) found moved) (found_put is_package_call place new rest is one)
    ∙ (ap (λ xs. insert xs (loads_end (leading_blocks moved) 0 xs) new) (left_put is_package_call place new rest is one) ∙ ap (λ n. insert rest n new) same)

pub moved_again : MovedAgain
moved_again items one = moved_by items one (find is_package_call items) refl (found_passes items)

-- ---- a file mended twice

-- ---- items that are changed, each by itself, so that the tests see no difference

module _ (f : Item → Item) where
  by_same : {X Y : Type 0} (g : X → Y) (a b : Bool) {x x' : Y} {y y' : X} → a ≡ b → x ≡ g y → x' ≡ g y' → (if a then x else x') ≡ g (if b then y else y')
  by_same g a true e p q = if_true a _ _ e ∙ p
  by_same g a false e p q = if_false a _ _ e ∙ q

  found_map : (test : Item → Bool) → ((x : Item) → test (f x) ≡ test x) → (xs : List Item) → find test (map f xs) ≡ option_map f (find test xs)
  found_map test same [] = refl
  found_map test same (x ∷ xs) = by_same (option_map f) (test (f x)) (test x) (same x) refl (found_map test same xs)

  left_map : (test : Item → Bool) → ((x : Item) → test (f x) ≡ test x) → (xs : List Item) → without_first test (map f xs) ≡ map f (without_first test xs)
  left_map test same [] = refl
  left_map test same (x ∷ xs) = by_same (map f) (test (f x)) (test x) (same x) refl (ap (λ ys. f x ∷ ys) (left_map test same xs))

  ends_map : ((x : Item) → is_load_item (f x) ≡ is_load_item x) → (other passed : ℕ) (xs : List Item) → loads_end other passed (map f xs) ≡ loads_end other passed xs
  ends_map same other passed [] = refl
  ends_map same other passed (x ∷ xs) =
      ap (next_end other passed (map f xs)) (same x) ∙ ends_map same (if is_load_item x then passed + 1 else other) (passed + 1) xs

  blocks_map : ((x : Item) → is_block (f x) ≡ is_block x) → (xs : List Item) → leading_blocks (map f xs) ≡ leading_blocks xs
  blocks_map same [] = refl
  blocks_map same (x ∷ xs) = rw (same x) (ap (λ n. if is_block x then suc n else 0) (blocks_map same xs))

  module _ (loads : (x : Item) → is_load_item (f x) ≡ is_load_item x) (blocks : (x : Item) → is_block (f x) ≡ is_block x) (packages : (x : Item) → is_package_call (f x) ≡ is_package_call x) where
    placed_map : (xs : List Item) (found : Option Item) → option_map_or (package_moved (map f xs)) (option_map f found) (map f xs) ≡ map f (option_map_or (package_moved xs) found xs)
    placed_map xs None = refl
    placed_map xs (Some new) =
        let rest : List Item = without_first is_package_call xs in
        ap (λ ys. insert ys (loads_end (leading_blocks (map f xs)) 0 ys) (f new)) (left_map is_package_call packages xs)
        ∙ (ap (λ n. insert (map f rest) n (f new)) (ends_map loads (leading_blocks (map f xs)) 0 rest ∙ ap (λ n. loads_end n 0 rest) (blocks_map blocks xs))
        ∙ map_put f (loads_end (leading_blocks xs) 0 rest) new rest)

    moved_map : (xs : List Item) → move_package_to_top (map f xs) ≡ map f (move_package_to_top xs)
    moved_map xs = ap (λ o. option_map_or (package_moved (map f xs)) o (map f xs)) (found_map is_package_call packages xs) ∙ placed_map xs (find is_package_call xs)

-- ---- loads without some of their symbols

load_no_package : (item : Item) → is_load_item item ≡ true → is_package_call item ≡ false
load_no_package (i.Block lines) is = refl
load_no_package (i.Stmt (Token t)) is = refl
load_no_package (i.Stmt (Form' k.Load s parts s' items end split open_break comments)) is = refl
load_no_package (i.Stmt (Form' _ s parts s' items end split open_break comments)) is = absurd (true≢false (sym is))

used_package : (used : Bytes → Bool) (item : Item) → is_package_call (used_alone used item) ≡ is_package_call item
used_package used item = elim (cases_Bool (is_load_item item)) [
  | inl is ↦ load_no_package (used_alone used item) (used_load used item ∙ is) ∙ sym (load_no_package item is)
  | inr is ↦ ap is_package_call (other_stays used item is)
]

used_block : (used : Bytes → Bool) (item : Item) → is_block (used_alone used item) ≡ is_block item
used_block used (i.Block lines) = refl
used_block used (i.Stmt x) = refl

none_goes : (test : Item → Bool) (xs : List Item) → list_any test xs ≡ false → filter (λ x. not (test x)) xs ≡ xs
none_goes test [] h = refl
none_goes test (x ∷ xs) h =
    let p = or_parts (test x) (list_any test xs) h in
    if_true (not (test x)) _ _ (ap not p.0) ∙ ap (λ ys. x ∷ ys) (none_goes test xs p.1)

-- ---- twice

unused_moved : (items : List Item) → has_second_package items ≡ false → loses_load (move_package_to_top items) ≡ false
    → move_package_to_top (unused_loads (move_package_to_top items)) ≡ unused_loads (move_package_to_top items)
unused_moved items one none =
    let moved : List Item = move_package_to_top items in
    let used : Bytes → Bool = is_used moved in
    let same : unused_loads moved ≡ map (used_alone used) moved = ap (map (used_alone used)) (none_goes (is_emptied used) moved none) in
    ap move_package_to_top same
    ∙ (moved_map (used_alone used) (used_load used) (used_block used) (used_package used) moved
    ∙ (ap (map (used_alone used)) (moved_again items one) ∙ sym same))

by_fixes : (top unused : Bool) (items : List Item) → IsProper items → has_second_package items ≡ false → loses_load (move_package_to_top items) ≡ false
    → fix (record { move_package_to_top = top; unused_loads = unused }) (fix (record { move_package_to_top = top; unused_loads = unused }) items)
    ≡ fix (record { move_package_to_top = top; unused_loads = unused }) items
by_fixes false false items h one none = refl
by_fixes true false items h one none = moved_again items one
by_fixes false true items h one none = unused_again items h
by_fixes true true items h one none =
    ap unused_loads (unused_moved items one none)
    ∙ unused_again (move_package_to_top items) (loads_stay_proper.1 whole_grammar (record { move_package_to_top = true; unused_loads = false }) items h)

pub fixed_again : FixedAgain
fixed_again fixes = by_fixes fixes.move_package_to_top fixes.unused_loads
