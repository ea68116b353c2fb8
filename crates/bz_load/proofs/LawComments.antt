-- new_load, fix and substitute_load keep each comment as often as it occurred there.
use Rattle.bz_load.proofs.Words.{[], ◌&&◌, ◌++◌, ◌+◌, ◌||◌, ◌∙◌, ◌∷◌, ◌≡◌, after_loads, after_path, AllByRecursion, and_parts, ap, append_total, AreOf, arith, Begins, body_of, Bool, by_case, by_test, Bytes, bytes_eq, Class as c, codes, comments_of, end_of, Expr, false, filter, find, fix, Form', form_amount, has_kind, has_own_comments, host_amount, HostComments, if_false, IfSome, if◌then◌else◌, insert, is_commented, is_emptied, is_empty, is_load_from, is_loaded, is_none, is_package_call, is_used, IsItem, IsProperItem, Item, Item as i, item_amount, items-the_row-Expr, items_of, Kind, Kind as k, leading_blocks, List, list_any, load_made, loads_end, made, map, mark, move_package_to_top, name, new_load, new_symbols, no_comments, node, None, not, not-false, not-true, on_first, on_first_that, on_items, on_rest, Option, option_map_or, or_parts, own_parts, package_moved, parts_of, path_comments, path_substituted, quoted_of, refl, row_amount, row_total, Some, string_substituted, substitute_load, substituted, suc, suffix_amount, sym, Symbol, symbol_made, symbol_stays, Token, token, total, true, true≢false, used_alone, whole, whole_grammar, with_items, with_string_body, with_symbols, with_text, without_first, zero, ℕ}
use Rattle.bz_grammar.specs.Shapes as s
use Rattle.bz_load.proofs.ProperLoads.{fix_keeps, IsAlias, alias_parts, load_parts, token_amount}

-- ---- lists

module _ {X : Type 0} (number : X → ℕ) where
  first_same : (test : X → Bool) (change : X → X) → ((x : X) → number (change x) ≡ number x) → (xs : List X) → total number (on_first_that test change xs) ≡ total number xs
  first_same test change f [] = refl
  first_same test change f (x ∷ xs) =
      by_test (λ ys. total number ys ≡ number x + total number xs) (test x) (change x ∷ xs) (x ∷ on_first_that test change xs)
      (ap (λ n. n + total number xs) (f x)) (ap (λ n. number x + n) (first_same test change f xs))

-- ---- expressions

module _ (number : Bytes → ℕ) where
  abbrev host : HostComments → ℕ
  host = host_amount number

  pub amount_answered : (x : Expr) → whole number x ≡ host (comments_of x) + (total (whole number) (parts_of x) + (total (whole number) (items_of x) + total number (end_of x)))
  amount_answered (Token t) = omega arith
  amount_answered (Form' kind s parts s' items end split open_break comments) =
      ap (λ a. host comments + (a + (row_amount number items + total number end))) (row_total number _ parts)
      ∙ ap (λ a. host comments + (total (whole number) (items-the_row-Expr _ parts) + (a + total number end))) (row_total number _ items)

  pub items_same : (ys : List Expr) (x : Expr) → total (whole number) ys ≡ total (whole number) (items_of x) → whole number (with_items ys x) ≡ whole number x
  items_same ys (Token t) h = refl
  items_same ys (Form' kind s parts s' items end split open_break comments) h =
      form_amount number (made kind (items-the_row-Expr _ parts) ys end split open_break comments)
      ∙ (ap (λ a. host comments + (total (whole number) (items-the_row-Expr _ parts) + (a + total number end))) h
      ∙ sym (amount_answered (Form' kind s parts s' items end split open_break comments)))

  -- with other items it is as often as in these
  pub items_put : (kind : Kind) (ys : List Expr) (x : Expr) → has_kind kind x ≡ true → whole number (with_items ys x) + total (whole number) (items_of x) ≡ whole number x + total (whole number) ys
  items_put own ys (Token t) is = absurd (true≢false (sym is))
  items_put own ys (Form' kind s parts s' items end split open_break comments) is =
      let a = form_amount number (made kind (items-the_row-Expr _ parts) ys end split open_break comments) in
      let b = amount_answered (Form' kind s parts s' items end split open_break comments) in
      omega (arith, a, b)

  -- ---- new symbols, and a new load

  pub symbol_none : (symbol : Symbol) → whole number (symbol_made symbol) ≡ 0
  symbol_none symbol =
      let parts : List Expr = name symbol.to ∷ mark (codes "=") ∷ token c.String (quoted_of symbol.from) ∷ [] in
      by_test (λ (x : Expr). whole number x ≡ 0) (bytes_eq symbol.to symbol.from) (token c.String (quoted_of symbol.from)) (node k.Alias parts) refl
      (form_amount number (made k.Alias parts [] [] false false no_comments))

  symbols_none : (symbols : List Symbol) → total (whole number) (map symbol_made symbols) ≡ 0
  symbols_none [] = refl
  symbols_none (symbol ∷ symbols) =
      let a = symbol_none symbol in
      let b = symbols_none symbols in
      omega arith

  module _ (more : List Expr) (none : total (whole number) more ≡ 0) where
    pub load_none : (path : Bytes) → item_amount number (load_made path more) ≡ 0
    load_none path =
        let h = form_amount number (made k.Load (token c.Keyword (codes "load") ∷ []) (token c.String (quoted_of path) ∷ more) [] false false no_comments) in
        omega arith

    more_same : (item : Item) → item_amount number (with_symbols more item) ≡ item_amount number item
    more_same (i.Block lines) = refl
    more_same (i.Stmt x) =
        let a = append_total (whole number) (items_of x) more in
        by_test (λ (y : Expr). whole number y ≡ whole number x) (has_kind k.Load x) (with_items (items_of x ++ more) x) x (items_same (items_of x ++ more) x (omega arith)) refl

  -- ---- places

  abbrev file : List Item → ℕ
  file = total (item_amount number)

  pub put_total : (n : ℕ) (new : Item) (xs : List Item) → file (insert xs n new) ≡ item_amount number new + file xs
  put_total zero new xs = refl
  put_total (suc n) new [] = refl
  put_total (suc n) new (x ∷ xs) = let rest = put_total n new xs in omega arith

  pub new_load_same : (path : Bytes) (symbols : List Symbol) (items : List Item) → file (new_load path symbols items) ≡ file items
  new_load_same path symbols items =
      let chosen : List Symbol = new_symbols (is_loaded path items) symbols in
      let more : List Expr = map symbol_made chosen in
      let a = put_total (loads_end (leading_blocks items) 0 items) (load_made path more) items in
      let z = load_none more (symbols_none chosen) path in
      by_test (λ ys. file ys ≡ file items) (list_any (is_load_from path) items) (on_first_that (is_load_from path) (with_symbols more) items) (after_loads (load_made path more) items)
      (first_same (item_amount number) (is_load_from path) (with_symbols more) (more_same more (symbols_none chosen)) items) (omega arith)

  -- ---- paths with another body

  text_same : (text : Bytes) (x : Expr) → whole number (with_text text x) ≡ whole number x
  text_same text (Token t) = refl
  text_same text (Form' kind s parts s' items end split open_break comments) = ap (whole number) (own_parts (Form' kind s parts s' items end split open_break comments))

  module _ (pattern template : Bytes) where
    string_same : (x : Expr) (found : Option Bytes) → whole number (option_map_or (λ inside. with_string_body inside (substituted pattern template inside) x) found x) ≡ whole number x
    string_same x None = refl
    string_same x (Some inside) =
        let new : Bytes = substituted pattern template inside in
        by_test (λ (y : Expr). whole number y ≡ whole number x) (bytes_eq new inside) x (with_text (quoted_of new) x) refl (text_same (quoted_of new) x)

    path_same : (xs : List Expr) → total (whole number) (on_first (string_substituted pattern template) xs) ≡ total (whole number) xs
    path_same [] = refl
    path_same (x ∷ xs) = ap (λ n. n + total (whole number) xs) (string_same x (body_of x))

    load_same : (item : Item) → item_amount number (path_substituted pattern template item) ≡ item_amount number item
    load_same (i.Block lines) = refl
    load_same (i.Stmt x) =
        let new : List Expr = on_first (string_substituted pattern template) (items_of x) in
        by_test (λ (y : Expr). whole number y ≡ whole number x) (has_kind k.Load x) (with_items new x) x (items_same new x (path_same (items_of x))) refl

    pub substitute_load_same : (items : List Item) → file (substitute_load pattern template items) ≡ file items
    substitute_load_same [] = refl
    substitute_load_same (item ∷ items) =
        let first = load_same item in
        let rest = substitute_load_same items in
        omega arith

  -- ---- what is dropped has no comments

  by_parts : (before : List Bytes) (suffix : Option Bytes) → not (is_empty before && is_none suffix) ≡ false → total number before + suffix_amount number suffix ≡ 0
  by_parts [] None h = refl
  by_parts [] (Some text) h = absurd (true≢false h)
  by_parts (text ∷ before) suffix h = absurd (true≢false h)

  host_none : (comments : HostComments) → is_commented comments ≡ false → host comments ≡ 0
  host_none comments h = by_parts comments.before comments.suffix h

  alias_amount : (x : Expr) → IsAlias (parts_of x) (items_of x) (end_of x) → is_commented (comments_of x) ≡ false → whole number x ≡ 0
  alias_amount x a e =
      let all = amount_answered x in
      let own = host_none (comments_of x) e in
      let parts = a.bare number in
      let items = ap (total (whole number)) a.items in
      let ends = ap (total number) a.ends in
      omega arith

  loaded_amount : (x : Expr) → IsItem whole_grammar s.loaded x → is_commented (comments_of x) ≡ false → whole number x ≡ 0
  loaded_amount (Token t) h e = host_none t.comments e
  loaded_amount (Form' kind m parts m' items end split open_break comments) h e =
      let x : Expr = Form' kind m parts m' items end split open_break comments in alias_amount x (alias_parts whole_grammar x h.1 h.0.0) e

  kept_amount : (used : Bytes → Bool) (xs : List Expr) → AreOf whole_grammar s.loaded xs → total (whole number) (filter (symbol_stays used) xs) ≡ total (whole number) xs
  kept_amount used [] h = refl
  kept_amount used (x ∷ xs) h =
      let rest = kept_amount used xs h.1 in
      by_case (λ ys. total (whole number) ys ≡ whole number x + total (whole number) xs) (symbol_stays used x) (x ∷ filter (symbol_stays used) xs) (filter (symbol_stays used) xs)
      (λ e. ap (λ n. whole number x + n) rest) (λ e. let z = loaded_amount x h.0 (or_parts (is_commented (comments_of x)) _ e).0 in omega arith)

  abbrev kept : (Bytes → Bool) → List Expr → List Expr
  kept used = on_rest (filter (symbol_stays used))

  used_amount : (used : Bytes → Bool) (item : Item) → IsProperItem item → item_amount number (used_alone used item) ≡ item_amount number item
  used_amount used (i.Block lines) h = refl
  used_amount used (i.Stmt x) h =
      by_test (λ (y : Expr). whole number y ≡ whole number x) (has_own_comments x) x (on_items k.Load (kept used) x) refl
      (by_case (λ (y : Expr). whole number y ≡ whole number x) (has_kind k.Load x) (with_items (kept used (items_of x)) x) x
      (λ is. let a = load_parts whole_grammar Begins x is h.1 in
      items_same (kept used (items_of x)) x
      (ap (λ xs. total (whole number) (kept used xs)) a.items ∙ (ap (λ n. whole number a.path + n) (kept_amount used a.symbols a.loaded) ∙ ap (total (whole number)) (sym a.items))))
      (λ is. refl))

  none_kept : (test : Expr → Bool) (xs : List Expr) → list_any test xs ≡ false → filter test xs ≡ []
  none_kept test [] h = refl
  none_kept test (x ∷ xs) h = let p = or_parts (test x) (list_any test xs) h in if_false (test x) _ _ p.0 ∙ none_kept test xs p.1

  ends_none : (end : List Bytes) → not (is_empty end) ≡ false → total number end ≡ 0
  ends_none [] h = refl
  ends_none (text ∷ end) h = absurd (true≢false h)

  emptied_amount : (used : Bytes → Bool) (item : Item) → IsProperItem item → is_emptied used item ≡ true → item_amount number item ≡ 0
  emptied_amount used (i.Block lines) h e = absurd (true≢false (sym e))
  emptied_amount used (i.Stmt x) h e =
      let p = and_parts (has_kind k.Load x && not (has_own_comments x)) (not (is_empty (after_path (items_of x))) && not (list_any (symbol_stays used) (after_path (items_of x)))) e in
      let q = and_parts (has_kind k.Load x) (not (has_own_comments x)) p.0 in
      let a = load_parts whole_grammar Begins x q.0 h.1 in
      let loose = or_parts (is_commented (comments_of x)) (not (is_empty (end_of x)) || path_comments (items_of x)) (not-true (has_own_comments x) q.1) in
      let ends = or_parts (not (is_empty (end_of x))) (path_comments (items_of x)) loose.1 in
      let gone = not-true (list_any (symbol_stays used) (after_path (items_of x))) (and_parts (not (is_empty (after_path (items_of x)))) _ p.1).1 in
      let all = amount_answered x in
      let top = host_none (comments_of x) loose.0 in
      let word = a.bare number in
      let path = token_amount number s.string a.path a.at_path ∙ host_none (comments_of a.path) (ap path_comments (sym a.items) ∙ ends.1) in
      let none = none_kept (symbol_stays used) a.symbols (ap (λ xs. list_any (symbol_stays used) (after_path xs)) (sym a.items) ∙ gone) in
      let symbols : total (whole number) a.symbols ≡ 0 = sym (kept_amount used a.symbols a.loaded) ∙ ap (total (whole number)) none in
      let items = ap (total (whole number)) a.items in
      let end = ends_none (end_of x) ends.0 in
      omega arith

  unused_amount : (used : Bytes → Bool) (items : List Item) → AllByRecursion IsProperItem items → file (map (used_alone used) (filter (λ item. not (is_emptied used item)) items)) ≡ file items
  unused_amount used [] h = refl
  unused_amount used (item ∷ items) h =
      let rest : List Item = filter (λ x. not (is_emptied used x)) items in
      let all = unused_amount used items h.1 in
      by_case (λ ys. file (map (used_alone used) ys) ≡ item_amount number item + file items) (not (is_emptied used item)) (item ∷ rest) rest
      (λ e. let z = used_amount used item h.0 in omega arith) (λ e. let z = emptied_amount used item h.0 (not-false (is_emptied used item) e) in omega arith)

  -- ---- the package

  taken_total : (test : Item → Bool) (xs : List Item) → IfSome (find test xs) (λ new. file xs ≡ item_amount number new + file (without_first test xs))
  taken_total test [] = tt
  taken_total test (x ∷ xs) = by (test x) (find test xs) (taken_total test xs)
    where
      by : (b : Bool) (found : Option Item) → IfSome found (λ new. file xs ≡ item_amount number new + file (without_first test xs))
          → IfSome (if b then Some x else found) (λ new. item_amount number x + file xs ≡ item_amount number new + file (if b then xs else x ∷ without_first test xs))
      by true found rest = refl
      by false None rest = tt
      by false (Some new) rest = omega arith

  moved_by : (items : List Item) (found : Option Item) → IfSome found (λ new. file items ≡ item_amount number new + file (without_first is_package_call items))
      → file (option_map_or (package_moved items) found items) ≡ file items
  moved_by items None h = refl
  moved_by items (Some new) h = put_total (loads_end (leading_blocks items) 0 (without_first is_package_call items)) new (without_first is_package_call items) ∙ sym h

  moved_same : (items : List Item) → file (move_package_to_top items) ≡ file items
  moved_same items = moved_by items (find is_package_call items) (taken_total is_package_call items)

  pub by_fixes : (top unused : Bool) (items : List Item) → AllByRecursion IsProperItem items → file (fix (record { move_package_to_top = top; unused_loads = unused }) items) ≡ file items
  by_fixes false false items h = refl
  by_fixes true false items h = moved_same items
  by_fixes false true items h = unused_amount (is_used items) items h
  by_fixes true true items h =
      unused_amount (is_used (move_package_to_top items)) (move_package_to_top items) (fix_keeps whole_grammar (record { move_package_to_top = true; unused_loads = false }) items h) ∙ moved_same items
