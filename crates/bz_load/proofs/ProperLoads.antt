-- What the commands on loads make of proper items is proper, and what a proper load is made of.
use Rattle.bz_load.proofs.Words.{[], ◌&&◌, ◌++◌, ◌||◌, ◌∙◌, ◌∷◌, ◌≡◌, after_loads, All, All-nil, all_changed, all_joined, all_kept, AllByRecursion, amount, and-false, and_parts, and_symbol, ap, AreComments, AreOf, ArePartsBy, AreSome, arith, AsForm, Begins, body_of, Bool, both, by_case, by_test, Bytes, bytes_eq, Class, Class as c, codes, comments_of, each_item, EachIs, end_of, eqb-true, Expr, false, filter, find, first_stays, fix, Fixes, Form', form_proper_by, Grammar, has_kind, has_operand, has_own_comments, host_amount, identifiers_are_names, IfSome, if◌then◌else◌, inl, InPlace, inr, is_class, is_emptied, is_kind, is_load_from, is_loaded, is_package_call, is_text, is_used, IsAttribute, IsComment, IsItem, IsNew, IsProperItemIn, IsSymbol, IsUtf8, Item, items-the_row-Expr, items_again, items_apart, items_of, items_stay, itself, Kind, Kind as k, leading_blocks, length, List, list_any, load_in_place, load_made, loads_end, map, mark, move_package_to_top, name, new_load, new_part, new_symbols, no_comments, node, None, none_there, not, on_first, on_first_that, on_items, on_rest, one_ascii, opened, operand_in, Option, option_map_or, package_moved, parts_of, path_in, path_substituted, ProperExpr, quoted_of, quoted_string, refl, row_proper, same_kind, Some, Spot, statement_in_place, string_in_place, string_substituted, subst, substitute_load, substituted, sym, Symbol, symbol_made, symbol_stays, Token, token, token_new, total, true, true≢false, unused_loads, used_alone, value_shape, with_items, with_string_body, with_symbols, with_text, with_used, Within, without_first, ℕ}
use Rattle.bz_grammar.specs.Shapes as s
use Rattle.bz_value.specs.declared.value.Item.TheVariants as i
use Rattle.bz_value.specs.Roots as r
use Rattle.bz_command_syntax.proofs.PlainTexts.{substituted_utf8}
use Rattle.bz_load.proofs.{RenamedPaths.string_body, Operands.none_among, Operands.operands_answered, PlaceSteps.all_put}
use Rattle.bz_grammar.specs.Shapes.{Terminal, has_token, is_one_of}
use Rattle.bz_value.specs.Roots.{root, mark_leaf}
use Rattle.bz_value.proofs.LeadParts.{lead_before}

chosen_symbols : (is_known : Symbol → Bool) (symbols : List Symbol) → EachIs IsSymbol symbols → EachIs IsSymbol (new_symbols is_known symbols)
chosen_symbols is_known [] h = tt
chosen_symbols is_known (symbol ∷ symbols) h =
    by_test (EachIs IsSymbol) (is_known symbol) (new_symbols is_known symbols) (symbol ∷ new_symbols (and_symbol symbol is_known) symbols)
    (chosen_symbols is_known symbols h.1) (h.0, chosen_symbols (and_symbol symbol is_known) symbols h.1)

load_coded : IsUtf8 (codes "load")
unfolding lib.Utf8.encode
load_coded = (codes "load", (refl, refl))

-- where a path is first, what is put after all items is put after it
after_the_path : (path : Bytes) (more xs : List Expr) → is_text path (path_in xs) ≡ true → on_rest (λ ys. ys ++ more) xs ≡ xs ++ more
after_the_path path more [] h = absurd (true≢false (sym h))
after_the_path path more (x ∷ xs) h = refl

-- ---- a token, by the terminals that it is one of

-- what is no name is no operand
module _ (text : Bytes) (terminals : List Terminal) (unnamed : (own : Bytes) → is_one_of terminals (record { class = c.Name; gap = []; token = own }) ≡ false) where
  class_none : (class : Class) (own : Bytes) → is_one_of terminals (record { class = class; gap = []; token = own }) ≡ true → (is_class class c.Name && bytes_eq text own) ≡ false
  class_none c.Name own h = absurd (true≢false (sym h ∙ unnamed own))
  class_none _ own h = refl

  token_none : (x : Expr) → has_token terminals (root x) ≡ true → (named : Bool) → has_operand named text x ≡ false
  token_none (Token t) h named = ap (λ z. named && z) (class_none t.class t.text h) ∙ and-false named
  token_none (Form' kind s parts s' items end split open_break comments) h named = absurd (true≢false (sym h))

-- no token is one where names are none
unnamed_none : (text : Bytes) (terminals : List Terminal) (x : Expr) → has_token terminals (root x) ≡ true → has_operand false text x ≡ false
unnamed_none text terminals (Token t) h = refl
unnamed_none text terminals (Form' kind s parts s' items end split open_break comments) h = absurd (true≢false (sym h))

pub token_amount : (number : Bytes → ℕ) (terminals : List Terminal) (x : Expr) → has_token terminals (root x) ≡ true → amount number x ≡ host_amount number (comments_of x)
token_amount number terminals (Token t) h = refl
token_amount number terminals (Form' kind s parts s' items end split open_break comments) h = absurd (true≢false (sym h))

-- an alias uses no name, and has comments only of its own
pub record IsAlias (ps xs : List Expr) (end : List Bytes) : Type 0 where
  pub unused : (text : Bytes) → operand_in k.Alias text ps ≡ false
  pub bare : (number : Bytes → ℕ) → total (amount number) ps ≡ 0
  pub items : xs ≡ []
  pub ends : end ≡ []

module _ (grammar : Grammar) where
  abbrev AreFine : List Item → Type 0
  AreFine items = AllByRecursion (IsProperItemIn grammar) items

  -- ---- a new symbol

  string_new : (word : Bytes) → IsUtf8 word → IsNew grammar (token c.String (quoted_of word))
  string_new word u = let h = quoted_string word u in token_new grammar c.String (quoted_of word) h.0 h.1

  alias_item : (to from : Bytes) → IsAttribute to → IsUtf8 from → IsItem grammar s.loaded (node k.Alias (name to ∷ mark (codes "=") ∷ token c.String (quoted_of from) ∷ []))
  alias_item to from a u =
      let sign : Expr = mark (codes "=") in
      let right : Expr = token c.String (quoted_of from) in
      let parts : ArePartsBy (value_shape grammar) false Within Within (name to ∷ sign ∷ right ∷ []) =
      new_part grammar false Within Within (name to) (sign ∷ right ∷ []) (token_new grammar c.Name to ((identifiers_are_names to).0 a.0) a.1)
      (new_part grammar false Within Within sign (right ∷ []) (token_new grammar c.Mark (codes "=") refl (one_ascii 61 (omega arith)))
      (new_part grammar false Within Within right [] (string_new from u) tt)) in
      ((row_proper grammar Within k.Alias (name to ∷ sign ∷ right ∷ []) refl (refl, (refl, (refl, tt))) parts, none_there, refl), refl)

  pub symbol_item : (symbol : Symbol) → IsSymbol symbol → IsItem grammar s.loaded (symbol_made symbol)
  symbol_item symbol h =
      by_test (IsItem grammar s.loaded) (bytes_eq symbol.to symbol.from) (token c.String (quoted_of symbol.from)) (node k.Alias (name symbol.to ∷ mark (codes "=") ∷ token c.String (quoted_of symbol.from) ∷ []))
      (((string_new symbol.from h.1.1).proper Within, none_there, refl), refl) (alias_item symbol.to symbol.from h.0 h.1.1)

  symbol_items : (symbols : List Symbol) → EachIs IsSymbol symbols → AreOf grammar s.loaded (map symbol_made symbols)
  symbol_items [] h = tt
  symbol_items (symbol ∷ symbols) h = (symbol_item symbol h.0, symbol_items symbols h.1)

  -- ---- a new load

  pub load_proper : (path : Bytes) (more : List Expr) → IsUtf8 path → AreOf grammar s.loaded more → IsProperItemIn grammar (load_made path more)
  load_proper path more u all =
      let word = token_new grammar c.Keyword (codes "load") refl load_coded in (
        refl,
        form_proper_by (value_shape grammar) Begins (record { kind = k.Load; parts = token c.Keyword (codes "load") ∷ []; seq = record { items = token c.String (quoted_of path) ∷ more; end = []; split = false }; open_break = false; comments = no_comments })
            (refl, (refl, (refl, inr (refl, items_again grammar s.loaded s.close_round (r.mark_leaf 41) refl more all))))
            ((word.proper Begins, (refl, refl), tt), ((string_new path u).proper Within, none_there, refl, each_item grammar s.loaded s.close_round (r.mark_leaf 41) more all), All-nil IsComment, refl),
        none_there,
      )

  -- ---- further symbols of a load

  more_symbols : (path : Bytes) (more : List Expr) → AreOf grammar s.loaded more → (item : Item) → is_load_from path item ≡ true → IsProperItemIn grammar item → IsProperItemIn grammar (with_symbols more item)
  more_symbols path more h (i.Block lines) is w = w
  more_symbols path more h (i.Stmt x) is w =
      let p = and_parts (has_kind k.Load x) (is_text path (path_in (items_of x))) is in
      subst (λ (ys : List Expr). IsProperItemIn grammar (i.Stmt (if has_kind k.Load x then with_items ys x else x))) (after_the_path path more (items_of x) p.1)
      (statement_in_place grammar x (on_items k.Load (on_rest (λ ys. ys ++ more)) x) (load_in_place grammar (λ ys. ys ++ more) (λ xs m. all_joined (IsItem grammar s.loaded) xs more m h) x) w)

  -- ---- places

  first_changed : (test : Item → Bool) (change : Item → Item) → ((item : Item) → test item ≡ true → IsProperItemIn grammar item → IsProperItemIn grammar (change item)) → (items : List Item) → AreFine items → AreFine (on_first_that test change items)
  first_changed test change f [] h = tt
  first_changed test change f (item ∷ items) h =
      by_case AreFine (test item) (change item ∷ items) (item ∷ on_first_that test change items) (λ is. (f item is h.0, h.1)) (λ is. (h.0, first_changed test change f items h.1))

  pub new_load_keeps : (path : Bytes) (symbols : List Symbol) (items : List Item) → IsUtf8 path → AreSome IsSymbol symbols → AllByRecursion (IsProperItemIn grammar) items → AllByRecursion (IsProperItemIn grammar) (new_load path symbols items)
  new_load_keeps path symbols items u some h =
      let chosen : List Symbol = new_symbols (is_loaded path items) symbols in
      let more : List Expr = map symbol_made chosen in
      let fine : AreOf grammar s.loaded more = symbol_items chosen (chosen_symbols (is_loaded path items) symbols some.1) in
      by_test AreFine (list_any (is_load_from path) items) (on_first_that (is_load_from path) (with_symbols more) items) (after_loads (load_made path more) items)
      (first_changed (is_load_from path) (with_symbols more) (more_symbols path more fine) items h)
      (all_put (IsProperItemIn grammar) (loads_end (leading_blocks items) 0 items) (load_made path more) items (load_proper path more u fine) h)

  -- ---- paths with another body

  string_stays : (pattern template : Bytes) (x : Expr) (found : Option Bytes) → body_of x ≡ found → InPlace grammar x (option_map_or (λ inside. with_string_body inside (substituted pattern template inside) x) found x)
  string_stays pattern template x None e = itself grammar x
  string_stays pattern template x (Some inside) e =
      let new : Bytes = substituted pattern template inside in
      let w = string_body x inside e in
      by_test (InPlace grammar x) (bytes_eq new inside) x (with_text (quoted_of new) x) (itself grammar x)
      (string_in_place grammar (quoted_of new) x w.0 (λ h. quoted_string new (substituted_utf8 pattern template inside (w.1 h.1))))

  path_stays : (pattern template : Bytes) (item : Item) → IsProperItemIn grammar item → IsProperItemIn grammar (path_substituted pattern template item)
  path_stays pattern template (i.Block lines) h = h
  path_stays pattern template (i.Stmt x) h =
      let change : Expr → Expr = string_substituted pattern template in
      statement_in_place grammar x (on_items k.Load (on_first change) x)
      (items_stay grammar k.Load refl (on_first change) (first_stays grammar change (λ y. string_stays pattern template y (body_of y) refl)) x) h

  pub substitute_load_keeps : (pattern template : Bytes) (items : List Item) → AllByRecursion (IsProperItemIn grammar) items → AllByRecursion (IsProperItemIn grammar) (substitute_load pattern template items)
  substitute_load_keeps pattern template items h = all_changed (IsProperItemIn grammar) (path_substituted pattern template) (path_stays pattern template) items h

  -- ---- unused symbols

  pub used_statement : (used : Bytes → Bool) (item : Item) → IsProperItemIn grammar item → IsProperItemIn grammar (used_alone used item)
  used_statement used (i.Block lines) h = h
  used_statement used (i.Stmt x) h =
      let change : List Expr → List Expr = filter (symbol_stays used) in
      statement_in_place grammar x (with_used used x)
      (by_test (InPlace grammar x) (has_own_comments x) x (on_items k.Load (on_rest change) x) (itself grammar x) (load_in_place grammar change (λ xs m. all_kept (IsItem grammar s.loaded) (symbol_stays used) xs m) x)) h

  unused_keeps : (items : List Item) → AreFine items → AreFine (unused_loads items)
  unused_keeps items h =
      let used : Bytes → Bool = is_used items in
      let rest : List Item = filter (λ item. not (is_emptied used item)) items in
      all_changed (IsProperItemIn grammar) (used_alone used) (used_statement used) rest (all_kept (IsProperItemIn grammar) (λ item. not (is_emptied used item)) items h)

  -- ---- the package

  first_fine : (test : Item → Bool) (items : List Item) → AreFine items → IfSome (find test items) (IsProperItemIn grammar)
  first_fine test [] h = tt
  first_fine test (item ∷ items) h = by_test (λ (o : Option Item). IfSome o (IsProperItemIn grammar)) (test item) (Some item) (find test items) h.0 (first_fine test items h.1)

  others_fine : (test : Item → Bool) (items : List Item) → AreFine items → AreFine (without_first test items)
  others_fine test [] h = tt
  others_fine test (item ∷ items) h = by_test AreFine (test item) items (item ∷ without_first test items) h.1 (h.0, others_fine test items h.1)

  package_placed : (items : List Item) → AreFine items → (found : Option Item) → IfSome found (IsProperItemIn grammar) → AreFine (option_map_or (package_moved items) found items)
  package_placed items h None f = h
  package_placed items h (Some new) f =
      let rest : List Item = without_first is_package_call items in
      all_put (IsProperItemIn grammar) (loads_end (leading_blocks items) 0 rest) new rest f (others_fine is_package_call items h)

  package_keeps : (items : List Item) → AreFine items → AreFine (move_package_to_top items)
  package_keeps items h = package_placed items h (find is_package_call items) (first_fine is_package_call items h)

  pub fix_keeps : (fixes : Fixes) (items : List Item) → AllByRecursion (IsProperItemIn grammar) items → AllByRecursion (IsProperItemIn grammar) (fix fixes items)
  fix_keeps fixes items h =
      let moved : List Item = if fixes.move_package_to_top then move_package_to_top items else items in
      let fine : AreFine moved = by_test AreFine fixes.move_package_to_top (move_package_to_top items) items (package_keeps items h) h in
      by_test AreFine fixes.unused_loads (unused_loads moved) moved (unused_keeps moved fine) fine

  -- ---- an alias and a load

  -- what is so of the lists of forms of a kind
  pub of_kind : (kind : Kind) (here : Spot) (P : List Expr → List Expr → List Bytes → Type 0) → ((ps xs : List Expr) (end : List Bytes) (split open_break : Bool) → AsForm grammar here kind ps xs end split open_break → P ps xs end)
      → (x : Expr) → has_kind kind x ≡ true → ProperExpr grammar here x → P (parts_of x) (items_of x) (end_of x)
  of_kind kind here P f (Token t) is h = absurd (true≢false (sym is))
  of_kind kind here P f (Form' own s parts s' items end split open_break comments) is h =
      let ps : List Expr = items-the_row-Expr _ parts in
      let xs : List Expr = items-the_row-Expr _ items in
      f ps xs end split open_break
      (subst (λ (by : Kind). AsForm grammar here by ps xs end split open_break) (same_kind own kind (eqb-true _ _ is)) (opened grammar here (Form' own s parts s' items end split open_break comments) h))

  alias_of : (ps xs : List Expr) (end : List Bytes) (split open_break : Bool) → AsForm grammar Within k.Alias ps xs end split open_break → IsAlias ps xs end
  alias_of [] xs end split open_break h = absurd h.0
  alias_of (p ∷ []) xs end split open_break h = absurd h.0.1
  alias_of (p ∷ q ∷ []) xs end split open_break h = absurd h.0.1.1
  alias_of (p ∷ q ∷ r ∷ []) [] end split open_break h = record {
    unused = λ text. both (λ y z. y || z) (unnamed_none text s.name p h.0.0) (both (λ y z. y || (z || false)) (unnamed_none text s.equals q h.0.1.0) (token_none text s.string (λ own. refl) r h.0.1.1.0 true));
    bare = λ number.
        let left = token_amount number s.name p h.0.0 ∙ ap (host_amount number) h.1.0.1 in
        let sign = token_amount number s.equals q h.0.1.0 ∙ ap (host_amount number) h.1.0.3.1 in
        let right = token_amount number s.string r h.0.1.1.0 ∙ ap (host_amount number) h.1.0.3.3.1 in
        omega arith;
    items = refl;
    ends = h.1.2;
  }
  alias_of (p ∷ q ∷ r ∷ []) (x ∷ xs) end split open_break h = absurd h.1.1
  alias_of (p ∷ q ∷ r ∷ t ∷ ps) xs end split open_break h = absurd h.0.1.1.1

  pub alias_parts : (x : Expr) → has_kind k.Alias x ≡ true → ProperExpr grammar Within x → IsAlias (parts_of x) (items_of x) (end_of x)
  alias_parts = of_kind k.Alias Within IsAlias alias_of

  -- so does the word of a load, and after it are a path and symbols
  pub record IsLoad (ps xs : List Expr) (end : List Bytes) : Type 0 where
    pub unused : (text : Bytes) → operand_in k.Load text ps ≡ false
    pub bare : (number : Bytes → ℕ) → total (amount number) ps ≡ 0
    pub path : Expr
    pub symbols : List Expr
    pub items : xs ≡ path ∷ symbols
    pub at_path : has_token s.string (root path) ≡ true
    pub loaded : AreOf grammar s.loaded symbols
    pub said : AreComments (comments_of path)
    pub ends : All IsComment end

  load_of : (here : Spot) (ps xs : List Expr) (end : List Bytes) (split open_break : Bool) → AsForm grammar here k.Load ps xs end split open_break → IsLoad ps xs end
  load_of here [] xs end split open_break h = let n = lead_before k.Load [] (map root xs) h.0 in absurd (omega arith)
  load_of here (p ∷ []) [] end split open_break h = absurd (true≢false (sym h.0.1.1.0))
  load_of here (p ∷ []) (x ∷ xs) end split open_break ((w, (o, (t, inl i))), g) = absurd (true≢false (sym i.0))
  load_of here (p ∷ []) (x ∷ xs) end split open_break ((w, (o, (t, inr i))), g) = record {
    unused = λ text. ap (λ z. z || false) (token_none text (s.one_keyword (codes "load")) (λ own. refl) p w true);
    bare = λ number. let word = token_amount number (s.one_keyword (codes "load")) p w ∙ ap (host_amount number) g.0.1.0 in omega arith;
    path = x;
    symbols = xs;
    items = refl;
    at_path = t;
    loaded = items_apart grammar s.loaded s.close_round (mark_leaf 41) xs g.1.3 i.1;
    said = g.1.1;
    ends = g.2;
  }
  load_of here (p ∷ q ∷ ps) xs end split open_break h = let n = lead_before k.Load (map root (p ∷ q ∷ ps)) (map root xs) h.0 in absurd (omega arith)

  pub load_parts : (here : Spot) (x : Expr) → has_kind k.Load x ≡ true → ProperExpr grammar here x → IsLoad (parts_of x) (items_of x) (end_of x)
  load_parts here = of_kind k.Load here IsLoad (load_of here)

  -- ---- a proper load uses no name

  loaded_none : (text : Bytes) (x : Expr) → IsItem grammar s.loaded x → (named : Bool) → has_operand named text x ≡ false
  loaded_none text (Token t) h named = token_none text s.string (λ own. refl) (Token t) h.1 named
  loaded_none text (Form' kind s parts s' items end split open_break comments) h named =
      let x : Expr = Form' kind s parts s' items end split open_break comments in
      let a = alias_parts x h.1 h.0.0 in
      operands_answered named text k.Alias x h.1 ∙ both (λ y xs. y || operand_in k.Alias text xs) (a.unused text) a.items

  all_none : (text : Bytes) (xs : List Expr) → AreOf grammar s.loaded xs → AllByRecursion (λ x. (named : Bool) → has_operand named text x ≡ false) xs
  all_none text [] h = tt
  all_none text (x ∷ xs) h = (loaded_none text x h.0, all_none text xs h.1)

  pub load_none : (text : Bytes) (here : Spot) (x : Expr) → has_kind k.Load x ≡ true → ProperExpr grammar here x → has_operand true text x ≡ false
  load_none text here x is h =
      let a = load_parts here x is h in
      operands_answered true text k.Load x is
      ∙ (both (λ y xs. y || operand_in k.Load text xs) (a.unused text) a.items
      ∙ none_among k.Load (length (a.path ∷ a.symbols)) 0 text (a.path ∷ a.symbols) (token_none text s.string (λ own. refl) a.path a.at_path, all_none text a.symbols a.loaded))
