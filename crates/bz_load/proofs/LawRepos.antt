-- Repositories that are added once more change nothing, and removed again they leave what there was.
use Rattle.bz_load.proofs.Words.{[], ◌&&◌, ◌++◌, ◌+◌, ◌||◌, ◌∙◌, ◌∷◌, ◌≡◌, ◌⊎◌, alias_in, AllByRecursion, and_from, and_parts, ap, are_plain, argument_of, arith, assigns_to, becomes_plain, begins_with_name, body_quoted, Bool, both, by_case, by_test, Bytes, bytes_eq, call_arguments, call_made, cases_Bool, Class as c, codes, cond, cons_option, ends_positional, eqb-true, equal_self, equal_texts, Err, Expr, false, filter_map, first_text, Form', found_if, has_kind, if_false, if_true, IfOk, if◌then◌else◌, import_in, imports_as, imports_repo, inl, inr, insert, is_call_to, is_escaped, is_imported, is_kind, is_meant_usage, is_statement_of, is_tag_of, is_text, is_use, is_use_of, is_use_row, IsPlain, Item, Item as i, items-the_row-Expr, items_filled, items_hidden-the_row-Expr-0, items_kind, items_of, Kind, Kind as k, List, list_all, list_any, list_any-append, made, mark, name, NameTaken, no_comments, node, None, not, not-true, Ok, on_call_arguments, on_first, on_items, on_last, Option, option_map, option_map_or, or-false, or-true, or_comm, or_left, or_right, parts_filled, parts_kind, parts_of, position_or_len, quoted_of, refl, Refusal, Repo, repos_added, ReposAddedAgain, Result, row_of, same_kind, sequence, Some, subst, suc, sym, Symbol, symbol_named, text_in, text_of, Token, token, true, true≢false, usage, usage_of_row, Usages, use_arguments, use_repo_add, variables, with_all_repos, with_import, with_items, with_repo, word_import, ℕ}
use Rattle.bz_value.specs.declared.value.Expr.TheVariants as e
use Rattle.bz_load.proofs.{PlaceSteps.any_put, LawUsages.if_ok}

-- ---- lists

any_alike : {X : Type 0} (f g : X → Bool) → ((x : X) → f x ≡ g x) → (xs : List X) → list_any f xs ≡ list_any g xs
any_alike f g h [] = refl
any_alike f g h (x ∷ xs) = both (λ a b. a || b) (h x) (any_alike f g h xs)

module _ {X : Type 0} (test other : X → Bool) (change : X → List X) where
  -- what another test finds, where it finds it in what becomes of an element
  pub any_last : ((x : X) → test x ≡ true → other x ≡ true → list_any other (change x) ≡ true) → (xs : List X) → list_any other xs ≡ true → list_any other (on_last test change xs) ≡ true
  any_last f [] h = h
  any_last f (x ∷ xs) h =
      by_test (λ ys. list_any other ys ≡ true) (list_any test xs) (x ∷ on_last test change xs) (if test x then change x ++ xs else x ∷ xs)
      (elim (or_split (other x) (list_any other xs) h) [
        | inl o ↦ or_left (other x) (list_any other (on_last test change xs)) o
        | inr o ↦ or_right (other x) (list_any other (on_last test change xs)) (any_last f xs o)
      ])
      (by_case (λ ys. list_any other ys ≡ true) (test x) (change x ++ xs) (x ∷ xs)
      (λ is. list_any-append other (change x) xs ∙ elim (or_split (other x) (list_any other xs) h) [
        | inl o ↦ or_left (list_any other (change x)) (list_any other xs) (f x is o)
        | inr o ↦ or_right (list_any other (change x)) (list_any other xs) o
      ])
      (λ is. h))
    where
      or_split : (a b : Bool) → (a || b) ≡ true → (a ≡ true) ⊎ (b ≡ true)
      or_split true b w = inl refl
      or_split false b w = inr w

  -- what it finds in what becomes of the last one
  pub comes_last : ((x : X) → test x ≡ true → list_any other (change x) ≡ true) → (xs : List X) → list_any test xs ≡ true → list_any other (on_last test change xs) ≡ true
  comes_last f [] h = absurd (true≢false (sym h))
  comes_last f (x ∷ xs) h =
      by_case (λ ys. list_any other ys ≡ true) (list_any test xs) (x ∷ on_last test change xs) (if test x then change x ++ xs else x ∷ xs)
      (λ e. or_right (other x) (list_any other (on_last test change xs)) (comes_last f xs e))
      (λ e.
      let own : test x ≡ true = sym (or-false (test x)) ∙ (ap (λ z. test x || z) (sym e) ∙ h) in
      ap (list_any other) (if_true (test x) (change x ++ xs) (x ∷ xs) own) ∙ (list_any-append other (change x) xs ∙ or_left (list_any other (change x)) (list_any other xs) (f x own)))

map_last : {X Y : Type 0} (h : X → Option Y) (test : X → Bool) (change : X → List X) → ((x : X) (rest : List X) → filter_map h (change x ++ rest) ≡ filter_map h (x ∷ rest)) → (xs : List X)
    → filter_map h (on_last test change xs) ≡ filter_map h xs
map_last h test change f [] = refl
map_last h test change f (x ∷ xs) =
    by_test (λ ys. filter_map h ys ≡ filter_map h (x ∷ xs)) (list_any test xs) (x ∷ on_last test change xs) (if test x then change x ++ xs else x ∷ xs)
    (ap (cons_option (h x)) (map_last h test change f xs))
    (by_test (λ ys. filter_map h ys ≡ filter_map h (x ∷ xs)) (test x) (change x ++ xs) (x ∷ xs) (f x xs) refl)

-- ---- a statement with other arguments

parts_beside : (xs : List Expr) (x : Expr) → parts_of (with_items xs x) ≡ parts_of x
parts_beside xs (Token t) = refl
parts_beside xs (Form' kind s parts s' items end split open_break comments) = items_hidden-the_row-Expr-0 (items-the_row-Expr _ parts)

bare_alone : (x : Expr) → has_kind k.Bare x ≡ true → has_kind k.Assign x ≡ false
bare_alone (Token t) h = absurd (true≢false (sym h))
bare_alone (Form' kind s parts s' items end split open_break comments) h = ap (λ (own : Kind). is_kind own k.Assign) (same_kind kind k.Bare (eqb-true _ _ h))

module _ (change : List Expr → List Expr) where
  abbrev in_call : Expr → Expr
  in_call = on_items k.Call change

  row_kept : (item : Item) → row_of k.Bare (on_call_arguments change item) ≡ on_first in_call (row_of k.Bare item)
  row_kept (i.Block lines) = refl
  row_kept (i.Stmt x) =
      let new : List Expr = on_first in_call (parts_of x) in
      elim (cases_Bool (has_kind k.Bare x)) [
        | inl is ↦ rw (is, parts_kind k.Bare new x ∙ is) (parts_filled k.Bare new x is)
        | inr n ↦ rw (n, n) refl
      ]

  assign_kept : (item : Item) → row_of k.Assign (on_call_arguments change item) ≡ row_of k.Assign item
  assign_kept (i.Block lines) = refl
  assign_kept (i.Stmt x) =
      let new : List Expr = on_first in_call (parts_of x) in
      elim (cases_Bool (has_kind k.Bare x)) [
        | inl is ↦ let n = bare_alone x is in rw (is, parts_kind k.Assign new x ∙ n, n) refl
        | inr n ↦ rw n refl
      ]

  row_arguments : (variable : Bytes) (row : List Expr) → is_use_row variable row ≡ true → call_arguments (on_first in_call row) ≡ change (call_arguments row)
  row_arguments variable [] h = absurd (true≢false (sym h))
  row_arguments variable (call ∷ []) h =
      let p = and_parts (is_call_to (codes "use_repo") call) (begins_with_name variable (items_of call)) h in
      let is = (and_parts (has_kind k.Call call) (bytes_eq (first_text (parts_of call)) (codes "use_repo")) p.0).0 in
      ap items_of (if_true (has_kind k.Call call) (with_items (change (items_of call)) call) call is) ∙ items_filled k.Call (change (items_of call)) call is
  row_arguments variable (call ∷ other ∷ rest) h = absurd (true≢false (sym h))

  arguments_changed : (variable : Bytes) (item : Item) → is_use_of variable item ≡ true → use_arguments (on_call_arguments change item) ≡ change (use_arguments item)
  arguments_changed variable item h = ap call_arguments (row_kept item) ∙ row_arguments variable (row_of k.Bare item) h

  module _ (variable : Bytes) (keeps : (xs : List Expr) → begins_with_name variable (change xs) ≡ begins_with_name variable xs) where
    call_kept : (call : Expr) → is_use_row variable (in_call call ∷ []) ≡ is_use_row variable (call ∷ [])
    call_kept call = elim (cases_Bool (has_kind k.Call call)) [
      | inl is ↦
          let new : List Expr = change (items_of call) in
          ap (λ y. is_use_row variable (y ∷ [])) (if_true (has_kind k.Call call) (with_items new call) call is)
          ∙ both (λ a b. a && b)
          (both (λ a b. a && b) (items_kind k.Call new call) (ap (λ ps. bytes_eq (first_text ps) (codes "use_repo")) (parts_beside new call)))
          (ap (begins_with_name variable) (items_filled k.Call new call is) ∙ keeps (items_of call))
      | inr n ↦ ap (λ y. is_use_row variable (y ∷ [])) (if_false (has_kind k.Call call) (with_items (change (items_of call)) call) call n)
    ]

    row_use : (row : List Expr) → is_use_row variable (on_first in_call row) ≡ is_use_row variable row
    row_use [] = refl
    row_use (call ∷ []) = call_kept call
    row_use (call ∷ other ∷ rest) = refl

    use_kept : (item : Item) → is_use_of variable (on_call_arguments change item) ≡ is_use_of variable item
    use_kept item = ap (is_use_row variable) (row_kept item) ∙ row_use (row_of k.Bare item)

-- ---- use_repo(..) with these arguments

abbrev pub call_with : List Expr → Item
call_with xs = i.Stmt (node k.Bare (sequence k.Call (name (codes "use_repo") ∷ []) xs ∷ []))

row_with : (xs : List Expr) → row_of k.Bare (call_with xs) ≡ sequence k.Call (name (codes "use_repo") ∷ []) xs ∷ []
row_with xs = items_hidden-the_row-Expr-0 (sequence k.Call (name (codes "use_repo") ∷ []) xs ∷ [])

pub arguments_with : (xs : List Expr) → use_arguments (call_with xs) ≡ xs
arguments_with xs = ap call_arguments (row_with xs) ∙ items_hidden-the_row-Expr-0 xs

pub use_with : (variable : Bytes) (xs : List Expr) → begins_with_name variable xs ≡ true → is_use_of variable (call_with xs) ≡ true
use_with variable xs h =
    ap (is_use_row variable) (row_with xs)
    ∙ both (λ a b. a && b) (ap (λ ps. bytes_eq (first_text ps) (codes "use_repo")) (items_hidden-the_row-Expr-0 (name (codes "use_repo") ∷ []))) (ap (begins_with_name variable) (items_hidden-the_row-Expr-0 xs) ∙ h)

pub changed_with : (change : List Expr → List Expr) (xs : List Expr) → on_call_arguments change (call_with xs) ≡ call_with (change xs)
changed_with change xs =
    let function : List Expr = name (codes "use_repo") ∷ [] in
    let call : Expr = sequence k.Call function xs in
    let inner : on_items k.Call change call ≡ sequence k.Call function (change xs) =
    both (λ ps ys. e.Form (made k.Call ps ys [] false false no_comments)) (items_hidden-the_row-Expr-0 function) (ap change (items_hidden-the_row-Expr-0 xs)) in
    ap i.Stmt
    (both (λ ps ys. e.Form (made k.Bare ps ys [] false false no_comments)) (ap (on_first (on_items k.Call change)) (items_hidden-the_row-Expr-0 (call ∷ []))) (items_hidden-the_row-Expr-0 [])
    ∙ ap (λ y. node k.Bare (y ∷ [])) inner)

-- ---- an import

abbrev pub import_made : Symbol → Expr
import_made word = if bytes_eq word.to word.from then token c.String (quoted_of word.from) else argument_of word.to (token c.String (quoted_of word.from))

module _ (word : Symbol) where
  abbrev string : Expr
  string = token c.String (quoted_of word.from)

  any_import : (test : Expr → Bool) (xs : List Expr) → list_any test (with_import word xs) ≡ (test (import_made word) || list_any test xs)
  any_import test xs =
      let named : Expr = argument_of word.to string in
      elim (cases_Bool (bytes_eq word.to word.from)) [
        | inl same ↦ rw same (any_put test (position_or_len ends_positional xs) string xs)
        | inr n ↦
            rw n
            (list_any-append test xs (named ∷ []) ∙ (or_comm (list_any test xs) (test named || false) ∙ ap (λ z. z || list_any test xs) (or-false (test named))))
      ]

  module _ (variable : Bytes) where
    put_first : (x : Expr) (xs : List Expr) (n : ℕ) → begins_with_name variable (insert (x ∷ xs) (1 + n) string) ≡ is_text variable (text_in c.Name x)
    put_first x xs n = let m : suc n ≡ 1 + n = omega arith in subst (λ j. begins_with_name variable (insert (x ∷ xs) j string) ≡ is_text variable (text_in c.Name x)) m refl

    by_place : (x : Expr) (xs : List Expr) (b : Bool) (n : ℕ) → is_text variable (text_in c.Name x) ≡ false → begins_with_name variable (insert (x ∷ xs) (cond b (1 + n) 0) string) ≡ is_text variable (text_in c.Name x)
    by_place x xs true n h = put_first x xs n
    by_place x xs false n h = sym h

    string_first : (x : Expr) (xs : List Expr) → begins_with_name variable (insert (x ∷ xs) (position_or_len ends_positional (x ∷ xs)) string) ≡ is_text variable (text_in c.Name x)
    string_first (Token t) xs = put_first (Token t) xs (position_or_len ends_positional xs)
    string_first (Form' kind s parts s' items end split open_break comments) xs =
        let x : Expr = Form' kind s parts s' items end split open_break comments in
        by_place x xs (not (ends_positional x)) (position_or_len ends_positional xs) refl

    pub begins_kept : (xs : List Expr) → begins_with_name variable (with_import word xs) ≡ begins_with_name variable xs
    begins_kept [] =
        by_test (λ ys. begins_with_name variable ys ≡ false) (bytes_eq word.to word.from) (insert [] (position_or_len ends_positional []) string) (argument_of word.to string ∷ []) refl refl
    begins_kept (x ∷ xs) =
        by_test (λ ys. begins_with_name variable ys ≡ begins_with_name variable (x ∷ xs)) (bytes_eq word.to word.from) (insert (x ∷ xs) (position_or_len ends_positional (x ∷ xs)) string)
        ((x ∷ xs) ++ argument_of word.to string ∷ []) (string_first x xs) refl

  -- it is read back
  pub import_back : IsPlain word.from → import_in (import_made word) ≡ Some word
  import_back plain =
      let row : List Expr = name word.to ∷ mark (codes "=") ∷ string ∷ [] in
      by_case (λ x. import_in x ≡ Some word) (bytes_eq word.to word.from) string (argument_of word.to string)
      (λ same.
      ap (λ (found : Option Bytes). option_map (λ text. symbol_named text text) found) (body_quoted word.from plain)
      ∙ ap (λ (to : Bytes). Some (symbol_named to word.from)) (sym (equal_texts word.to word.from same)))
      (λ n.
      ap alias_in (items_hidden-the_row-Expr-0 row)
      ∙ ap (λ (found : Option Bytes). option_map (symbol_named word.to) found) (body_quoted word.from plain))

  imports_own : IsPlain word.from → imports_repo word.from (import_made word) ≡ true
  imports_own plain = ap (λ (found : Option Symbol). option_map_or (λ (s : Symbol). bytes_eq s.from word.from) found false) (import_back plain) ∙ equal_self word.from

-- ---- the first variable and its imports

module _ (first : Bytes) (others : List Bytes) where
  abbrev names : List Bytes
  names = first ∷ others

  abbrev imports : (Expr → Bool) → Item → Bool
  imports test item = is_use names item && list_any test (use_arguments item)

  pub own_uses : (item : Item) → is_use_of first item ≡ true → is_use names item ≡ true
  own_uses item h = or_left (is_use_of first item) (list_any (λ v. is_use_of v item) others) h

  module _ (word : Symbol) (test : Expr → Bool) where
    abbrev into : Item → List Item
    into item = on_call_arguments (with_import word) item ∷ []

    abbrev below : Item → List Item
    below item = item ∷ call_made first word ∷ []

    uses_kept : (item : Item) → is_use names (on_call_arguments (with_import word) item) ≡ is_use names item
    uses_kept item =
        any_alike (λ v. is_use_of v (on_call_arguments (with_import word) item)) (λ v. is_use_of v item) (λ v. use_kept (with_import word) v (begins_kept word v) item) names

    into_imports : (item : Item) → is_use_of first item ≡ true → (test (import_made word) || list_any test (use_arguments item)) ≡ true → list_any (imports test) (into item) ≡ true
    into_imports item called some =
        let new : Item = on_call_arguments (with_import word) item in
        let own : is_use names new ≡ true = uses_kept item ∙ own_uses item called in
        let found : list_any test (use_arguments new) ≡ true = ap (list_any test) (arguments_changed (with_import word) first item called) ∙ (any_import word test (use_arguments item) ∙ some) in
        or_left (imports test new) false (and_from (is_use names new) (list_any test (use_arguments new)) own found)

    kept_import : (items : List Item) → is_imported test names items ≡ true → is_imported test names (with_repo first word items) ≡ true
    kept_import items h =
        by_test (λ ys. list_any (imports test) ys ≡ true) (list_any (is_use_of first) items) (on_last (is_use_of first) into items) (on_last (is_statement_of first) below items)
        (any_last (is_use_of first) (imports test) into
        (λ item called some. into_imports item called (or_right (test (import_made word)) (list_any test (use_arguments item)) (and_parts (is_use names item) (list_any test (use_arguments item)) some).1)) items h)
        (any_last (is_statement_of first) (imports test) below (λ item is some. or_left (imports test item) (imports test (call_made first word) || false) some) items h)

    made_imports : test (import_made word) ≡ true → imports test (call_made first word) ≡ true
    made_imports h =
        let xs : List Expr = with_import word (name first ∷ []) in
        let begins : begins_with_name first xs ≡ true = begins_kept word first (name first ∷ []) ∙ equal_self first in
        and_from (is_use names (call_made first word)) (list_any test (use_arguments (call_made first word))) (own_uses (call_made first word) (use_with first xs begins))
        (ap (list_any test) (arguments_with xs) ∙ (any_import word test (name first ∷ []) ∙ or_left (test (import_made word)) (list_any test (name first ∷ [])) h))

    own_import : (items : List Item) → list_any (is_statement_of first) items ≡ true → test (import_made word) ≡ true → is_imported test names (with_repo first word items) ≡ true
    own_import items statement h =
        by_case (λ ys. list_any (imports test) ys ≡ true) (list_any (is_use_of first) items) (on_last (is_use_of first) into items) (on_last (is_statement_of first) below items)
        (λ there. comes_last (is_use_of first) (imports test) into (λ item is. into_imports item is (or_left (test (import_made word)) (list_any test (use_arguments item)) h)) items there)
        (λ none.
        comes_last (is_statement_of first) (imports test) below
        (λ item is. or_right (imports test item) (imports test (call_made first word) || false) (or_left (imports test (call_made first word)) false (made_imports h))) items statement)

-- ---- usages stay

module _ (current : Bytes) (usages : Usages) where
  usages_kept : (variable : Bytes) (word : Symbol) (items : List Item) → variables current usages (with_repo variable word items) ≡ variables current usages items
  usages_kept variable word items =
      let into : Item → List Item = λ item. on_call_arguments (with_import word) item ∷ [] in
      let below : Item → List Item = λ item. item ∷ call_made variable word ∷ [] in
      by_test (λ ys. variables current usages ys ≡ variables current usages items) (list_any (is_use_of variable) items) (on_last (is_use_of variable) into items) (on_last (is_statement_of variable) below items)
      (map_last (usage current usages) (is_use_of variable) into (λ item rest. ap (λ row. cons_option (usage_of_row current usages row) (variables current usages rest)) (assign_kept (with_import word) item)) items)
      (map_last (usage current usages) (is_statement_of variable) below (λ item rest. refl) items)

  row_assigns : (variable : Bytes) (row : List Expr) → usage_of_row current usages row ≡ Some variable → assigns_to variable row ≡ true
  row_assigns variable [] h = absurd cc
  row_assigns variable (left ∷ []) h = absurd cc
  row_assigns variable (left ∷ sign ∷ []) h = absurd cc
  row_assigns variable (left ∷ sign ∷ value ∷ []) h =
      let meant : Bool = is_call_to (codes "use_extension") value && is_meant_usage current usages (text_of left) (items_of value) in
      let p = found_if (bytes_eq (text_of sign) (codes "=") && meant) (text_in c.Name left) variable h in
      and_from (is_text variable (text_in c.Name left)) (bytes_eq (text_of sign) (codes "=")) (ap (is_text variable) p.1 ∙ equal_self variable) (and_parts (bytes_eq (text_of sign) (codes "=")) meant p.0).0
  row_assigns variable (left ∷ sign ∷ value ∷ x ∷ xs) h = absurd cc

  statement_by : (first : Bytes) (others : List Bytes) (item : Item) (items : List Item) → (variables current usages items ≡ first ∷ others → list_any (is_statement_of first) items ≡ true)
      → (found : Option Bytes) → usage current usages item ≡ found → cons_option found (variables current usages items) ≡ first ∷ others → list_any (is_statement_of first) (item ∷ items) ≡ true
  statement_by first others item items rest None e w = ap (λ z. is_statement_of first item || z) (rest w) ∙ or-true (is_statement_of first item)
  statement_by first others item items rest (Some variable) e w =
      let same : variable ≡ first = cc w in
      or_left (is_statement_of first item) (list_any (is_statement_of first) items)
      (or_left (assigns_to first (row_of k.Assign item)) (is_tag_of first item) (row_assigns first (row_of k.Assign item) (e ∙ ap Some same)))

  pub first_statement : (first : Bytes) (others : List Bytes) (items : List Item) → variables current usages items ≡ first ∷ others → list_any (is_statement_of first) items ≡ true
  first_statement first others [] h = absurd cc
  first_statement first others (item ∷ items) h = statement_by first others item items (first_statement first others items) (usage current usages item) refl h

  -- ---- once more

  module _ (first : Bytes) (others : List Bytes) where
    abbrev Imported : List Item → Repo → Type 0
    Imported items word = is_imported (imports_repo (word_import word).from) (first ∷ others) items ≡ true

    none_added : (words : List Repo) (items : List Item) → AllByRecursion (Imported items) words → repos_added (first ∷ others) first words items ≡ Ok items
    none_added [] items h = refl
    none_added (word ∷ words) items h = rw h.0 (none_added words items h.1)

    -- what is so of the items with these repositories: all are imported, as was what was imported before, and the usages are the same
    pub record Added (words : List Repo) (items new : List Item) : Type 0 where
      pub there : AllByRecursion (Imported new) words
      pub kept : (test : Expr → Bool) → is_imported test (first ∷ others) items ≡ true → is_imported test (first ∷ others) new ≡ true
      pub same : variables current usages new ≡ variables current usages items

    pub all_added : (words : List Repo) (items : List Item) → AllByRecursion (λ word. IsPlain (word_import word).from) words → variables current usages items ≡ first ∷ others
        → IfOk (repos_added (first ∷ others) first words items) (Added words items)
    all_added [] items plain is = record { there = tt; kept = λ test h. h; same = refl }
    all_added (word ∷ words) items plain is =
        let own : Symbol = word_import word in
        let more : List Item = with_repo first own items in
        let again : variables current usages more ≡ variables current usages items = usages_kept first own items in
        let rest : Result (List Item) Refusal = repos_added (first ∷ others) first words more in
        let Right : Result (List Item) Refusal → Type 0 = λ result. IfOk result (Added (word ∷ words) items) in
        by_case Right (is_imported (imports_repo own.from) (first ∷ others) items) (repos_added (first ∷ others) first words items)
        (if is_imported (imports_as own.to) (first ∷ others) items then Err NameTaken else rest)
        (λ e.
        if_ok (Added words items) (Added (word ∷ words) items)
        (λ new a. record { there = (a.kept (imports_repo own.from) e, a.there); kept = a.kept; same = a.same })
        (repos_added (first ∷ others) first words items) (all_added words items plain.1 is))
        (λ e.
        by_test Right (is_imported (imports_as own.to) (first ∷ others) items) (Err NameTaken) rest tt
        (if_ok (Added words more) (Added (word ∷ words) items)
        (λ new a. record {
          there = (a.kept (imports_repo own.from) (own_import first others own (imports_repo own.from) items (first_statement first others items is) (imports_own own plain.0)), a.there);
          kept = λ test h. a.kept test (kept_import first others own test items h);
          same = a.same ∙ again;
        })
        rest (all_added words more plain.1 (again ∙ is))))

pub each_plain : (words : List Repo) → are_plain words ≡ true → AllByRecursion (λ word. IsPlain (word_import word).from) words
each_plain [] h = tt
each_plain (word ∷ words) h =
    let p = and_parts (becomes_plain (word_import word).from) (list_all (λ w. becomes_plain (word_import w).from) words) h in
    (not-true (list_any is_escaped (word_import word).from) p.0, each_plain words p.1)

pub repos_added_again : ReposAddedAgain
repos_added_again current usages repos items plain = by (variables current usages items) refl
  where
    by : (names : List Bytes) → variables current usages items ≡ names → IfOk (with_all_repos names repos items) (λ new. use_repo_add current usages repos new ≡ Ok new)
    by [] is = tt
    by (first ∷ others) is =
        if_ok (Added current usages first others repos items) (λ new. use_repo_add current usages repos new ≡ Ok new)
        (λ new a. ap (λ found. with_all_repos found repos new) (a.same ∙ is) ∙ none_added current usages first others repos new a.there)
        (repos_added (first ∷ others) first repos items) (all_added current usages first others repos items (each_plain repos plain) is)
