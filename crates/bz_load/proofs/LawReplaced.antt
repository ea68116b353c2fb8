-- What replace_load makes of proper items is proper and has each comment as often; so do the other commands on loads.
use Rattle.bz_load.proofs.Words.{[], ◌++◌, ◌+◌, ◌||◌, ◌∙◌, ◌∷◌, ◌≡◌, after_path, All, All-append, All-cons, All-from_recursion, All-nil, all_comments, all_comments_joined, all_joined as joined_all, AllByRecursion, and_parts, ap, append_total, AreComments, AreOf, AreSome, arith, Begins, Bool, by_case, by_test, Bytes, bytes_eq, cases_Bool, comments_above, comments_around, comments_joined, comments_of, comments_without, cut_of_first, drop, each_replaced, EachIs, end_of, Expr, false, fix, flat_map, Form', further, goes, gone_comments, gone_from, Grammar, has_kind, host_amount, HostComments, if_false, if_true, IfSome, if◌then◌else◌, inl, inr, is_load_from, is_load_item, is_lost, IsComment, IsItem, IsProperItem, IsProperItemIn, IsSymbol, IsUtf8, Item, Item as i, item_amount, ItemCut, items_of, joined_beside, Kind as k, last_of_each, leading_blocks, left_symbols, List, list_any, load_in_place, load_made, loads_end, loads_symbol, LoadsKeepComments, LoadsStayProper, map, may_have, MaybeComment, new_around, new_load, no_comments, None, on_first_that, on_items, on_rest, on_symbols, one_if, Option, option_map_or, own_lines, path_lines, put_symbol, recursion_from_All, refl, replace_load, replace_symbol, replaced_around, Some, statement_in_place, subst, substitute_load, suc, suffix_alone, suffix_amount, suffix_host, sym, Symbol, symbol_made, symbols_of, take, take-append-drop, Token, total, true, true≢false, whole, with_comments, with_items, with_joined, without_symbol, zero, ℕ}
use Rattle.bz_grammar.specs.Shapes as s
use Rattle.bz_load.proofs.LawComments.{amount_answered, by_fixes, items_put, load_none, new_load_same, substitute_load_same, symbol_none}
use Rattle.bz_load.proofs.ProperLoads.{alias_parts, fix_keeps, load_parts, load_proper, new_load_keeps, substitute_load_keeps, symbol_item, token_amount}
use Rattle.bz_load.proofs.OtherItems.{cut_from, is_load_by, stays_load}

-- ---- comments that are joined

line_fine : (o : Option Bytes) → MaybeComment o → All IsComment (option_map_or (λ text. text ∷ []) o [])
line_fine None h = All-nil IsComment
line_fine (Some text) h = All-cons IsComment text [] h (All-nil IsComment)

lines_fine : (comments : HostComments) → AreComments comments → All IsComment (own_lines comments)
lines_fine comments h = All-append IsComment comments.before _ h.0 (line_fine comments.suffix h.1)

joined_fine : (own other : HostComments) → AreComments own → AreComments other → AreComments (comments_joined own other)
joined_fine own other h o = by own.suffix h.1
  where
    by : (suffix : Option Bytes) → MaybeComment suffix → AreComments (joined_beside suffix own other)
    by None m = (All-append IsComment own.before other.before h.0 o.0, o.1)
    by (Some text) m = (All-append IsComment own.before (own_lines other) h.0 (lines_fine other o), m)

all_fine : (own : HostComments) (others : List HostComments) → AreComments own → AllByRecursion AreComments others → AreComments (all_comments_joined own others)
all_fine own [] h o = h
all_fine own (other ∷ others) h o = all_fine (comments_joined own other) others (joined_fine own other h o.0) o.1

-- ---- proper items

module _ (grammar : Grammar) (symbol : Symbol) where
  abbrev AreFine : List Item → Type 0
  AreFine items = AllByRecursion (IsProperItemIn grammar) items

  abbrev AreLoaded : List Expr → Type 0
  AreLoaded xs = AreOf grammar s.loaded xs

  commented : (cs : HostComments) (x : Expr) → AreComments cs → IsItem grammar s.loaded x → IsItem grammar s.loaded (with_comments x cs)
  commented cs (Token t) a h = ((h.0.0, a, h.0.2), h.1)
  commented cs (Form' kind s parts s' items end split open_break comments) a h = ((h.0.0, a, h.0.2), h.1)

  taken : (gone : HostComments) (x : Expr) → AreComments gone → IsItem grammar s.loaded x → IsItem grammar s.loaded (with_joined gone x)
  taken gone x g h = commented (comments_joined (comments_of x) gone) x (joined_fine (comments_of x) gone h.0.1 g) h

  left_fine : (found : Bool) (xs : List Expr) → AreLoaded xs → AreLoaded (left_symbols symbol found xs)
  left_fine found [] h = tt
  left_fine found (x ∷ xs) h =
      let rest = left_fine (found || loads_symbol symbol x) xs h.1 in
      by_test AreLoaded (goes symbol found x) (left_symbols symbol (found || loads_symbol symbol x) xs) (x ∷ left_symbols symbol (found || loads_symbol symbol x) xs) rest (h.0, rest)

  gone_fine : (found : Bool) (xs : List Expr) → AreLoaded xs → AllByRecursion AreComments (gone_comments symbol found xs)
  gone_fine found [] h = tt
  gone_fine found (x ∷ xs) h =
      let rest = gone_fine (found || loads_symbol symbol x) xs h.1 in
      by_test (AllByRecursion AreComments) (goes symbol found x) (comments_of x ∷ gone_comments symbol (found || loads_symbol symbol x) xs) (gone_comments symbol (found || loads_symbol symbol x) xs) (h.0.0.1, rest) rest

  first_taken : (gone : HostComments) (xs : List Expr) → AreComments gone → AreLoaded xs → AreLoaded (on_first_that (loads_symbol symbol) (with_joined gone) xs)
  first_taken gone [] g h = tt
  first_taken gone (x ∷ xs) g h = by_test AreLoaded (loads_symbol symbol x) (with_joined gone x ∷ xs) (x ∷ on_first_that (loads_symbol symbol) (with_joined gone) xs) (taken gone x g h.0, h.1) (h.0, first_taken gone xs g h.1)

  put_fine : (gone : HostComments) → IsSymbol symbol → AreComments gone → (xs : List Expr) → AreLoaded xs → AreLoaded (put_symbol symbol gone xs)
  put_fine gone is g xs h =
      by_test AreLoaded (list_any (loads_symbol symbol) xs) (on_first_that (loads_symbol symbol) (with_joined gone) xs) (xs ++ with_joined gone (symbol_made symbol) ∷ []) (first_taken gone xs g h)
      (joined_all (IsItem grammar s.loaded) xs (with_joined gone (symbol_made symbol) ∷ []) h (taken gone (symbol_made symbol) g (symbol_item grammar symbol is), tt))

  change_fine : (change : List Expr → List Expr) → ((xs : List Expr) → AreLoaded xs → AreLoaded (change xs)) → (item : Item) → IsProperItemIn grammar item → IsProperItemIn grammar (on_symbols change item)
  change_fine change f (i.Block lines) h = h
  change_fine change f (i.Stmt x) h = statement_in_place grammar x (on_items k.Load (on_rest change) x) (load_in_place grammar change f x) h

  without_fine : (item : Item) → IsProperItemIn grammar item → AreFine (without_symbol symbol item)
  without_fine item h = by_test AreFine (is_lost symbol item) [] (on_symbols (left_symbols symbol true) item ∷ []) tt (change_fine (left_symbols symbol true) (left_fine true) item h, tt)

  above_fine : (xs : List Expr) → AreLoaded xs → All IsComment (comments_above xs)
  above_fine [] h = All-nil IsComment
  above_fine (x ∷ xs) h = All-append IsComment (comments_of x).before (comments_above xs) h.0.0.1.0 (above_fine xs h.1)

  suffixes_fine : (xs : List Expr) → AreLoaded xs → AllByRecursion AreComments (map suffix_host xs)
  suffixes_fine [] h = tt
  suffixes_fine (x ∷ xs) h = ((All-nil IsComment, h.0.0.1.1), suffixes_fine xs h.1)

  symbols_fine : (item : Item) → IsProperItemIn grammar item → is_load_item item ≡ true → AreLoaded (symbols_of item)
  symbols_fine (i.Block lines) h is = tt
  symbols_fine (i.Stmt x) h is = let l = load_parts grammar Begins x is h.1 in subst AreLoaded (sym (ap after_path l.items)) l.loaded

  from_fine : (found : Bool) (item : Item) → IsProperItemIn grammar item → AllByRecursion AreComments (gone_from symbol found item)
  from_fine found item h =
      by_case (AllByRecursion AreComments) (is_load_item item) (gone_comments symbol found (symbols_of item)) [] (λ is. gone_fine found (symbols_of item) (symbols_fine item h is)) (λ isnt. tt)

  load_fine : (item : Item) → IsProperItemIn grammar item → is_load_item item ≡ true → AllByRecursion AreComments (all_comments item)
  load_fine (i.Block lines) h is = tt
  load_fine (i.Stmt x) h is =
      let l = load_parts grammar Begins x is h.1 in
      let symbols : List Expr = after_path (items_of x) in
      let fine = symbols_fine (i.Stmt x) h is in
      let lines : All IsComment (path_lines (items_of x)) = subst (λ xs. All IsComment (path_lines xs)) (sym l.items) (lines_fine (comments_of l.path) l.said) in (
        (
          All-append IsComment (comments_of x).before (path_lines (items_of x) ++ (comments_above symbols ++ end_of x)) h.2.0
              (All-append IsComment (path_lines (items_of x)) (comments_above symbols ++ end_of x) lines (All-append IsComment (comments_above symbols) (end_of x) (above_fine symbols fine) l.ends)),
          tt,
        ),
        joined_all AreComments (map suffix_host symbols) (suffix_alone (comments_of x).suffix ∷ []) (suffixes_fine symbols fine) ((All-nil IsComment, h.2.1), tt),
      )

  comments_fine : (item : Item) → IsProperItemIn grammar item → AllByRecursion AreComments (comments_without symbol item)
  comments_fine item h =
      by_case (AllByRecursion AreComments) (is_lost symbol item) (all_comments item) (gone_from symbol true item) (λ lost. load_fine item h (and_parts (is_load_item item) _ lost).0) (λ stays. from_fine true item h)

  each_without : (items : List Item) → AreFine items → AreFine (flat_map (without_symbol symbol) items)
  each_without [] h = tt
  each_without (item ∷ items) h = joined_all (IsProperItemIn grammar) (without_symbol symbol item) (flat_map (without_symbol symbol) items) (without_fine item h.0) (each_without items h.1)

  each_comments : (items : List Item) → AreFine items → AllByRecursion AreComments (flat_map (comments_without symbol) items)
  each_comments [] h = tt
  each_comments (item ∷ items) h = joined_all AreComments (comments_without symbol item) (flat_map (comments_without symbol) items) (comments_fine item h.0) (each_comments items h.1)

  around_fine : (front : List Item) (load : Item) (back : List Item) → IsSymbol symbol → AreFine front → IsProperItemIn grammar load → AreFine back → AreFine (replaced_around symbol front load back)
  around_fine front load back is f l b =
      let first : List HostComments = flat_map (comments_without symbol) front in
      let own : List HostComments = gone_from symbol false load in
      let last : List HostComments = flat_map (comments_without symbol) back in
      let all : HostComments = all_comments_joined no_comments (comments_around symbol front load back) in
      let nothing : AreComments no_comments = (All-nil IsComment, tt) in
      let gone : AreComments all =
      all_fine no_comments (comments_around symbol front load back) nothing (joined_all AreComments first (own ++ last) (each_comments front f) (joined_all AreComments own last (from_fine false load l) (each_comments back b))) in
      let new : IsProperItemIn grammar (on_symbols (put_symbol symbol all) (on_symbols (left_symbols symbol false) load)) =
      change_fine (put_symbol symbol all) (put_fine all is gone) (on_symbols (left_symbols symbol false) load) (change_fine (left_symbols symbol false) (left_fine false) load l) in
      joined_all (IsProperItemIn grammar) (flat_map (without_symbol symbol) front) (on_symbols (put_symbol symbol all) (on_symbols (left_symbols symbol false) load) ∷ flat_map (without_symbol symbol) back) (each_without front f) (new, each_without back b)

  -- ---- the items before and after a load

  cut_fine : (test : Item → Bool) (items : List Item) → AreFine items → IfSome (cut_of_first test items) (λ cut. AreFine cut.front × IsProperItemIn grammar cut.item × AreFine cut.back)
  cut_fine test [] h = tt
  cut_fine test (x ∷ xs) h = by (test x) (cut_of_first test xs) (cut_fine test xs h.1)
    where
      by : (b : Bool) (found : Option ItemCut) → IfSome found (λ cut. AreFine cut.front × IsProperItemIn grammar cut.item × AreFine cut.back)
          → IfSome (if b then Some (record { front = []; item = x; back = xs }) else further x found) (λ cut. AreFine cut.front × IsProperItemIn grammar cut.item × AreFine cut.back)
      by true found r = (tt, h.0, h.1)
      by false None r = tt
      by false (Some cut) r = ((h.0, r.0), r.1, r.2)

  all_taken : (n : ℕ) (items : List Item) → AreFine items → AreFine (take n items)
  all_taken zero items h = tt
  all_taken (suc n) [] h = tt
  all_taken (suc n) (x ∷ xs) h = (h.0, all_taken n xs h.1)

  all_dropped : (n : ℕ) (items : List Item) → AreFine items → AreFine (drop n items)
  all_dropped zero items h = h
  all_dropped (suc n) [] h = tt
  all_dropped (suc n) (x ∷ xs) h = all_dropped n xs h.1

  pub symbol_keeps : (path : Bytes) (items : List Item) → IsUtf8 path → IsSymbol symbol → AreFine items → AreFine (replace_symbol path items symbol)
  symbol_keeps path items u is h = by (cut_of_first (may_have path symbol items) items) (cut_fine (may_have path symbol items) items h)
    where
      by : (found : Option ItemCut) → IfSome found (λ cut. AreFine cut.front × IsProperItemIn grammar cut.item × AreFine cut.back)
          → AreFine (option_map_or (λ cut. replaced_around symbol cut.front cut.item cut.back) found (new_around path symbol (loads_end (leading_blocks items) 0 items) items))
      by None f =
          let place : ℕ = loads_end (leading_blocks items) 0 items in
          around_fine (take place items) (load_made path []) (drop place items) is (all_taken place items h) (load_proper grammar path [] u tt) (all_dropped place items h)
      by (Some cut) f = around_fine cut.front cut.item cut.back is f.0 f.1 f.2

each_keeps : (grammar : Grammar) (path : Bytes) (symbols : List Symbol) (items : List Item) → IsUtf8 path → EachIs IsSymbol symbols → AllByRecursion (IsProperItemIn grammar) items → AllByRecursion (IsProperItemIn grammar) (each_replaced path symbols items)
each_keeps grammar path [] items u is h = h
each_keeps grammar path (symbol ∷ symbols) items u is h = each_keeps grammar path symbols (replace_symbol path items symbol) u is.1 (symbol_keeps grammar symbol path items u is.0 h)

last_symbols : (symbols : List Symbol) → EachIs IsSymbol symbols → EachIs IsSymbol (last_of_each symbols)
last_symbols [] h = tt
last_symbols (symbol ∷ symbols) h = by_test (EachIs IsSymbol) (list_any (λ other. bytes_eq symbol.to other.to) symbols) (last_of_each symbols) (symbol ∷ last_of_each symbols) (last_symbols symbols h.1) (h.0, last_symbols symbols h.1)

pub replace_load_keeps : (grammar : Grammar) (path : Bytes) (symbols : List Symbol) (items : List Item) → IsUtf8 path → AreSome IsSymbol symbols → AllByRecursion (IsProperItemIn grammar) items → AllByRecursion (IsProperItemIn grammar) (replace_load path symbols items)
replace_load_keeps grammar path symbols items u some h = each_keeps grammar path (last_of_each symbols) items u (last_symbols symbols some.1) h

-- ---- each comment as often

module _ (number : Bytes → ℕ) where
  abbrev said : HostComments → ℕ
  said = host_amount number

  abbrev all_said : List HostComments → ℕ
  all_said = total said

  abbrev wholes : List Expr → ℕ
  wholes = total (whole number)

  abbrev file : List Item → ℕ
  file = total (item_amount number)

  line_said : (o : Option Bytes) → total number (option_map_or (λ text. text ∷ []) o []) ≡ suffix_amount number o
  line_said None = refl
  line_said (Some text) = omega arith

  lines_said : (comments : HostComments) → total number (own_lines comments) ≡ said comments
  lines_said comments = append_total number comments.before (option_map_or (λ text. text ∷ []) comments.suffix []) ∙ ap (λ n. total number comments.before + n) (line_said comments.suffix)

  joined_said : (own other : HostComments) → said (comments_joined own other) ≡ said own + said other
  joined_said own other = by own.suffix
    where
      by : (suffix : Option Bytes) → said (joined_beside suffix own other) ≡ total number own.before + suffix_amount number suffix + said other
      by None = let a = append_total number own.before other.before in omega (arith, a)
      by (Some text) = let a = append_total number own.before (own_lines other) in let b = lines_said other in omega (arith, a, b)

  joined_all_said : (own : HostComments) (others : List HostComments) → said (all_comments_joined own others) ≡ said own + all_said others
  joined_all_said own [] = omega arith
  joined_all_said own (other ∷ others) = let a = joined_said own other in let b = joined_all_said (comments_joined own other) others in omega (arith, a, b)

  commented_said : (cs : HostComments) (x : Expr) → whole number (with_comments x cs) + said (comments_of x) ≡ whole number x + said cs
  commented_said cs (Token t) = omega arith
  commented_said cs (Form' kind s parts s' items end split open_break comments) = omega arith

  taken_said : (gone : HostComments) (x : Expr) → whole number (with_joined gone x) ≡ said gone + whole number x
  taken_said gone x =
      let a = commented_said (comments_joined (comments_of x) gone) x in
      let b = joined_said (comments_of x) gone in
      omega (arith, a, b)

  -- a symbol has comments only of its own
  loaded_said : (grammar : Grammar) (x : Expr) → IsItem grammar s.loaded x → whole number x ≡ said (comments_of x)
  loaded_said grammar (Token t) h = refl
  loaded_said grammar (Form' kind s parts s' items end split open_break comments) h =
      let x : Expr = Form' kind s parts s' items end split open_break comments in
      let a = alias_parts grammar x h.1 h.0.0 in
      let p = a.bare number in
      let q = ap wholes a.items in
      let r = ap (total number) a.ends in
      let all = amount_answered number x in
      omega (arith, p, q, r, all)

  -- with other symbols it is as often as in these
  symbols_put : (change : List Expr → List Expr) (item : Item) → is_load_item item ≡ true → (grammar : Grammar) → IsProperItemIn grammar item
      → item_amount number (on_symbols change item) + wholes (symbols_of item) ≡ item_amount number item + wholes (change (symbols_of item))
  symbols_put change (i.Block lines) is grammar h = absurd (true≢false (sym is))
  symbols_put change (i.Stmt x) is grammar h =
      let l = load_parts grammar Begins x is h.1 in
      let new : whole number (on_items k.Load (on_rest change) x) ≡ whole number (with_items (l.path ∷ change l.symbols) x) =
      ap (whole number) (if_true (has_kind k.Load x) _ _ is ∙ ap (λ xs. with_items (on_rest change xs) x) l.items) in
      let a = items_put number k.Load (l.path ∷ change l.symbols) x is in
      let b = ap wholes l.items in
      let c = ap (λ xs. wholes (after_path xs)) l.items in
      let d = ap (λ xs. wholes (change (after_path xs))) l.items in
      omega (arith, new, a, b, c, d)

  module _ (grammar : Grammar) (symbol : Symbol) where
    left_said : (found : Bool) (xs : List Expr) → AreOf grammar s.loaded xs → wholes (left_symbols symbol found xs) + all_said (gone_comments symbol found xs) ≡ wholes xs
    left_said found [] h = refl
    left_said found (x ∷ xs) h =
        let rest = left_said (found || loads_symbol symbol x) xs h.1 in
        let own = loaded_said grammar x h.0 in
        by (goes symbol found x) rest own
      where
        by : (b : Bool) → wholes (left_symbols symbol (found || loads_symbol symbol x) xs) + all_said (gone_comments symbol (found || loads_symbol symbol x) xs) ≡ wholes xs → whole number x ≡ said (comments_of x)
            → wholes (if b then left_symbols symbol (found || loads_symbol symbol x) xs else x ∷ left_symbols symbol (found || loads_symbol symbol x) xs)
            + all_said (if b then comments_of x ∷ gone_comments symbol (found || loads_symbol symbol x) xs else gone_comments symbol (found || loads_symbol symbol x) xs)
            ≡ whole number x + wholes xs
        by true rest own = omega (arith, rest, own)
        by false rest own = omega (arith, rest, own)

    first_said : (gone : HostComments) (xs : List Expr) → list_any (loads_symbol symbol) xs ≡ true → wholes (on_first_that (loads_symbol symbol) (with_joined gone) xs) ≡ said gone + wholes xs
    first_said gone [] h = absurd (true≢false (sym h))
    first_said gone (x ∷ xs) h =
        by_case (λ ys. wholes ys ≡ said gone + (whole number x + wholes xs)) (loads_symbol symbol x) (with_joined gone x ∷ xs) (x ∷ on_first_that (loads_symbol symbol) (with_joined gone) xs)
        (λ is. let a = taken_said gone x in omega (arith, a))
        (λ isnt. let a = first_said gone xs (sym (ap (λ b. b || list_any (loads_symbol symbol) xs) isnt) ∙ h) in omega (arith, a))

    put_said : (gone : HostComments) (xs : List Expr) → wholes (put_symbol symbol gone xs) ≡ said gone + wholes xs
    put_said gone xs =
        by_case (λ ys. wholes ys ≡ said gone + wholes xs) (list_any (loads_symbol symbol) xs) (on_first_that (loads_symbol symbol) (with_joined gone) xs) (xs ++ with_joined gone (symbol_made symbol) ∷ [])
        (first_said gone xs)
        (λ none.
        let a = append_total (whole number) xs (with_joined gone (symbol_made symbol) ∷ []) in
        let b = taken_said gone (symbol_made symbol) in
        let c = symbol_none number symbol in
        omega (arith, a, b, c))

    each_comment : (xs : List Expr) → AreOf grammar s.loaded xs → total number (comments_above xs) + all_said (map suffix_host xs) ≡ wholes xs
    each_comment [] h = refl
    each_comment (x ∷ xs) h =
        let a = loaded_said grammar x h.0 in
        let b = each_comment xs h.1 in
        let c = append_total number (comments_of x).before (comments_above xs) in
        omega (arith, a, b, c)

    -- a load that goes
    lost_said : (item : Item) → IsProperItemIn grammar item → is_load_item item ≡ true → all_said (all_comments item) ≡ item_amount number item
    lost_said (i.Block lines) h is = absurd (true≢false (sym is))
    lost_said (i.Stmt x) h is =
        let l = load_parts grammar Begins x is h.1 in
        let all = amount_answered number x in
        let bare = l.bare number in
        let own = token_amount number s.string l.path l.at_path in
        let items = ap wholes l.items in
        let symbols : List Expr = after_path (items_of x) in
        let rest = ap (λ xs. wholes (after_path xs)) l.items in
        let lines = ap (λ xs. total number (path_lines xs)) l.items ∙ lines_said (comments_of l.path) in
        let a = append_total number (comments_of x).before (path_lines (items_of x) ++ (comments_above symbols ++ end_of x)) in
        let b = append_total number (path_lines (items_of x)) (comments_above symbols ++ end_of x) in
        let c = append_total number (comments_above symbols) (end_of x) in
        let d = append_total said (map suffix_host symbols) (suffix_alone (comments_of x).suffix ∷ []) in
        let e = each_comment symbols (symbols_fine grammar symbol (i.Stmt x) h is) in
        omega (arith, all, bare, own, items, rest, lines, a, b, c, d, e)

    -- one that loses some symbols, and any other item
    kept_said : (found : Bool) (item : Item) → IsProperItemIn grammar item → item_amount number (on_symbols (left_symbols symbol found) item) + all_said (gone_from symbol found item) ≡ item_amount number item
    kept_said found item h = elim (cases_Bool (is_load_item item)) [
      | inl is ↦
          let a = symbols_put (left_symbols symbol found) item is grammar h in
          let b = left_said found (symbols_of item) (symbols_fine grammar symbol item h is) in
          let c = ap all_said (if_true (is_load_item item) (gone_comments symbol found (symbols_of item)) [] is) in
          omega (arith, a, b, c)
      | inr isnt ↦
          let a = ap (item_amount number) (not_load item isnt) in
          let b = ap all_said (if_false (is_load_item item) (gone_comments symbol found (symbols_of item)) [] isnt) in
          omega (arith, a, b)
    ]
      where
        not_load : (item : Item) → is_load_item item ≡ false → on_symbols (left_symbols symbol found) item ≡ item
        not_load (i.Block lines) isnt = refl
        not_load (i.Stmt x) isnt = ap (λ (y : Expr). i.Stmt y) (if_false (has_kind k.Load x) _ _ isnt)

    -- what goes from an item has its comments, and so has what goes with it
    without_said : (item : Item) → IsProperItemIn grammar item → file (without_symbol symbol item) + all_said (comments_without symbol item) ≡ item_amount number item
    without_said item h = elim (cases_Bool (is_lost symbol item)) [
      | inl lost ↦
          let a = ap file (if_true (is_lost symbol item) [] (on_symbols (left_symbols symbol true) item ∷ []) lost) in
          let b = ap all_said (if_true (is_lost symbol item) (all_comments item) (gone_from symbol true item) lost) in
          let c = lost_said item h (and_parts (is_load_item item) _ lost).0 in
          omega (arith, a, b, c)
      | inr stays ↦
          let a = ap file (if_false (is_lost symbol item) [] (on_symbols (left_symbols symbol true) item ∷ []) stays) in
          let b = ap all_said (if_false (is_lost symbol item) (all_comments item) (gone_from symbol true item) stays) in
          let c = kept_said true item h in
          omega (arith, a, b, c)
    ]

    each_without_said : (items : List Item) → AllByRecursion (IsProperItemIn grammar) items → file (flat_map (without_symbol symbol) items) + all_said (flat_map (comments_without symbol) items) ≡ file items
    each_without_said [] h = refl
    each_without_said (item ∷ items) h =
        let a = without_said item h.0 in
        let b = each_without_said items h.1 in
        let c = append_total (item_amount number) (without_symbol symbol item) (flat_map (without_symbol symbol) items) in
        let d = append_total said (comments_without symbol item) (flat_map (comments_without symbol) items) in
        omega (arith, a, b, c, d)

    around_said : (front : List Item) (load : Item) (back : List Item) → AllByRecursion (IsProperItemIn grammar) front → IsProperItemIn grammar load → is_load_item load ≡ true → AllByRecursion (IsProperItemIn grammar) back
        → file (replaced_around symbol front load back) ≡ file front + (item_amount number load + file back)
    around_said front load back f l is b =
        let all : List HostComments = comments_around symbol front load back in
        let gone : HostComments = all_comments_joined no_comments all in
        let own : Item = on_symbols (left_symbols symbol false) load in
        let p = each_without_said front f in
        let q = each_without_said back b in
        let r = kept_said false load l in
        let o = symbols_put (put_symbol symbol gone) own (stays_load (left_symbols symbol false) load ∙ is) grammar (change_fine grammar symbol (left_symbols symbol false) (left_fine grammar symbol false) load l) in
        let z = put_said gone (symbols_of own) in
        let t = joined_all_said no_comments all in
        let u = append_total said (flat_map (comments_without symbol) front) (gone_from symbol false load ++ flat_map (comments_without symbol) back) in
        let v = append_total said (gone_from symbol false load) (flat_map (comments_without symbol) back) in
        let w = append_total (item_amount number) (flat_map (without_symbol symbol) front) (on_symbols (put_symbol symbol gone) own ∷ flat_map (without_symbol symbol) back) in
        omega (arith, p, q, r, o, z, t, u, v, w)

    cut_said : (test : Item → Bool) (items : List Item) → IfSome (cut_of_first test items) (λ cut. file items ≡ file cut.front + (item_amount number cut.item + file cut.back))
    cut_said test [] = tt
    cut_said test (x ∷ xs) = by (test x) (cut_of_first test xs) (cut_said test xs)
      where
        by : (b : Bool) (found : Option ItemCut) → IfSome found (λ cut. file xs ≡ file cut.front + (item_amount number cut.item + file cut.back))
            → IfSome (if b then Some (record { front = []; item = x; back = xs }) else further x found) (λ cut. item_amount number x + file xs ≡ file cut.front + (item_amount number cut.item + file cut.back))
        by true found r = omega arith
        by false None r = tt
        by false (Some cut) r = omega (arith, r)

    symbol_same : (path : Bytes) (items : List Item) → IsUtf8 path → AllByRecursion (IsProperItemIn grammar) items → file (replace_symbol path items symbol) ≡ file items
    symbol_same path items u h =
        by (cut_of_first (may_have path symbol items) items) (cut_fine grammar symbol (may_have path symbol items) items h) (cut_from path symbol items) (cut_said (may_have path symbol items) items)
      where
        by : (found : Option ItemCut) → IfSome found (λ cut. AllByRecursion (IsProperItemIn grammar) cut.front × IsProperItemIn grammar cut.item × AllByRecursion (IsProperItemIn grammar) cut.back)
            → IfSome found (λ cut. is_load_from path cut.item ≡ true) → IfSome found (λ cut. file items ≡ file cut.front + (item_amount number cut.item + file cut.back))
            → file (option_map_or (λ cut. replaced_around symbol cut.front cut.item cut.back) found (new_around path symbol (loads_end (leading_blocks items) 0 items) items)) ≡ file items
        by None f passes same =
            let place : ℕ = loads_end (leading_blocks items) 0 items in
            let a = around_said (take place items) (load_made path []) (drop place items) (all_taken grammar symbol place items h) (load_proper grammar path [] u tt) refl (all_dropped grammar symbol place items h) in
            let b = append_total (item_amount number) (take place items) (drop place items) in
            let c = ap file (take-append-drop place items) in
            let d = load_none number [] refl path in
            omega (arith, a, b, c, d)
        by (Some cut) f passes same = around_said cut.front cut.item cut.back f.0 f.1 (is_load_by path cut.item passes) f.2 ∙ sym same

  each_same : (grammar : Grammar) (path : Bytes) (symbols : List Symbol) (items : List Item) → IsUtf8 path → EachIs IsSymbol symbols → AllByRecursion (IsProperItemIn grammar) items → file (each_replaced path symbols items) ≡ file items
  each_same grammar path [] items u is h = refl
  each_same grammar path (symbol ∷ symbols) items u is h =
      each_same grammar path symbols (replace_symbol path items symbol) u is.1 (symbol_keeps grammar symbol path items u is.0 h) ∙ symbol_same grammar symbol path items u h

  pub replace_load_same : (grammar : Grammar) (path : Bytes) (symbols : List Symbol) (items : List Item) → IsUtf8 path → AreSome IsSymbol symbols → AllByRecursion (IsProperItemIn grammar) items → file (replace_load path symbols items) ≡ file items
  replace_load_same grammar path symbols items u some h = each_same grammar path (last_of_each symbols) items u (last_symbols symbols some.1) h

-- ---- all commands

pub loads_stay_proper : LoadsStayProper
loads_stay_proper = (
  λ grammar path symbols items u some h. All-from_recursion (IsProperItemIn grammar) (new_load path symbols items) (new_load_keeps grammar path symbols items u some (recursion_from_All (IsProperItemIn grammar) items h)),
  λ grammar fixes items h. All-from_recursion (IsProperItemIn grammar) (fix fixes items) (fix_keeps grammar fixes items (recursion_from_All (IsProperItemIn grammar) items h)),
  λ grammar pattern template items h. All-from_recursion (IsProperItemIn grammar) (substitute_load pattern template items) (substitute_load_keeps grammar pattern template items (recursion_from_All (IsProperItemIn grammar) items h)),
  λ grammar path symbols items u some h. All-from_recursion (IsProperItemIn grammar) (replace_load path symbols items) (replace_load_keeps grammar path symbols items u some (recursion_from_All (IsProperItemIn grammar) items h)),
)

pub comments_stay : LoadsKeepComments
comments_stay = (
  λ path symbols items text. new_load_same (one_if text) path symbols items,
  λ fixes items h text. by_fixes (one_if text) fixes.move_package_to_top fixes.unused_loads items (recursion_from_All IsProperItem items h),
  λ pattern template items text. substitute_load_same (one_if text) pattern template items,
  λ grammar path symbols items u some h text. replace_load_same (one_if text) grammar path symbols items u some (recursion_from_All (IsProperItemIn grammar) items h),
)
