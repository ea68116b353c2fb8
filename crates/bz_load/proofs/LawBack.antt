-- Repositories that are added where there was no call, and removed again, leave what there was.
use Rattle.bz_load.proofs.Words.{[], ◌&&◌, ◌++◌, ◌+◌, ◌||◌, ◌∙◌, ◌∷◌, ◌≡◌, ◌⊎◌, after_path, AllByRecursion, and_from, ap, argument_of, argument_stays, arith, begins_with_name, Bool, both, by_test, Bytes, bytes_eq, call_made, cases_Bool, Class as c, cond, ends_positional, equal_self, Err, Expr, false, Form', if_false, if_true, IfOk, if◌then◌else◌, imports_as, imports_repo, inl, inr, insert, is_empty, is_imported, is_repo, is_statement_of, is_use, is_use_of, IsPlain, Item, List, list_any, list_any-append, loses_last, name, NameTaken, not, Ok, on_call_arguments, on_last, Option, option_map_or, or-false, or_comm, or_left, or_parts, or_right, position_or_len, quoted_of, refl, Refusal, removed_from, Repo, Repo as rp, repos_added, repos_removed, ReposThereAndBack, Result, subst, suc, sym, Symbol, Token, token, true, true≢false, use_arguments, use_repo_remove, variables, with_all_repos, with_import, with_repo, word_import, ℕ}
use Rattle.bz_load.proofs.PlaceSteps.{any_put}
use Rattle.bz_load.proofs.LawUsages.{if_ok}
use Rattle.bz_load.proofs.LawRepos.{Added, all_added, arguments_with, begins_kept, call_with, changed_with, comes_last, each_plain, first_statement, import_back, import_made, own_uses, use_with}

both_ok : {X E : Type 0} (P Q : X → Type 0) (result : Result X E) → IfOk result P → IfOk result Q → IfOk result (λ x. P x × Q x)
both_ok P Q (Err e) h g = tt
both_ok P Q (Ok x) h g = (h, g)

some_there : {X : Type 0} (test : X → Bool) (xs : List X) → list_any test xs ≡ true → is_empty xs ≡ false
some_there test [] h = absurd (true≢false (sym h))
some_there test (x ∷ xs) h = refl

-- the last element that passes a test, where it was put after the last one that passes another test
last_in_last : {X : Type 0} (test other : X → Bool) (f : X → X) (new : X) → other new ≡ true → (xs : List X) → list_any other xs ≡ false
    → on_last other (λ x. f x ∷ []) (on_last test (λ x. x ∷ new ∷ []) xs) ≡ on_last test (λ x. x ∷ f new ∷ []) xs
last_in_last test other f new is [] none = refl
last_in_last test other f new is (x ∷ xs) none =
    let p = or_parts (other x) (list_any other xs) none in
    elim (cases_Bool (list_any test xs)) [
      | inl e ↦
          let there = comes_last test other (λ y. y ∷ new ∷ []) (λ y h. ap (λ z. other y || z) (or_left (other new) false is) ∙ or_true (other y)) xs e in
          rw (e, there) (ap (λ ys. x ∷ ys) (last_in_last test other f new is xs p.1))
      | inr n ↦ elim (cases_Bool (test x)) [
        | inl own ↦ rw (n, own, is, p.1) refl
        | inr off ↦ rw (n, off, p.1, p.0) refl
      ]
    ]
  where
    or_true : (b : Bool) → (b || true) ≡ true
    or_true true = refl
    or_true false = refl

-- ---- what is removed

own_repo : (word : Repo) → is_repo (word_import word) word ≡ true
own_repo (rp.Plain repo) = equal_self repo
own_repo (rp.Named own repo) = and_from (bytes_eq own own) (bytes_eq repo repo) (equal_self own) (equal_self repo)

each_meant : (all words : List Repo) → ((p : Repo → Bool) → list_any p words ≡ true → list_any p all ≡ true) → AllByRecursion (λ word. list_any (is_repo (word_import word)) all ≡ true) words
each_meant all [] f = tt
each_meant all (word ∷ words) f =
    let own : Repo → Bool = is_repo (word_import word) in
    (f own (or_left (own word) (list_any own words) (own_repo word)), each_meant all words (λ p h. f p (or_right (p word) (list_any p words) h)))

module _ (names : List Bytes) (repos : List Repo) where
  item_left : (item : Item) (items : List Item) → is_use names item ≡ false → repos_removed names repos (item ∷ items) ≡ item ∷ repos_removed names repos items
  item_left item items h = rw (h, h) refl

  none_removed : (items : List Item) → list_any (is_use names) items ≡ false → repos_removed names repos items ≡ items
  none_removed [] none = refl
  none_removed (item ∷ items) none =
      let p = or_parts (is_use names item) (list_any (is_use names) items) none in item_left item items p.0 ∙ ap (λ ys. item ∷ ys) (none_removed items p.1)

  module _ (test : Item → Bool) (new : Item) (loses : loses_last names repos new ≡ true) where
    new_removed : (items : List Item) → repos_removed names repos (new ∷ items) ≡ repos_removed names repos items
    new_removed items = rw loses refl

    last_removed : (items : List Item) → list_any (is_use names) items ≡ false → repos_removed names repos (on_last test (λ item. item ∷ new ∷ []) items) ≡ items
    last_removed [] none = refl
    last_removed (item ∷ items) none =
        let p = or_parts (is_use names item) (list_any (is_use names) items) none in
        let below : Item → List Item = λ x. x ∷ new ∷ [] in
        by_test (λ ys. repos_removed names repos ys ≡ item ∷ items) (list_any test items) (item ∷ on_last test below items) (if test item then below item ++ items else item ∷ items)
        (item_left item (on_last test below items) p.0 ∙ ap (λ ys. item ∷ ys) (last_removed items p.1))
        (by_test (λ ys. repos_removed names repos ys ≡ item ∷ items) (test item) (below item ++ items) (item ∷ items)
        (item_left item (new ∷ items) p.0 ∙ ap (λ ys. item ∷ ys) (new_removed items ∙ none_removed items p.1)) (none_removed (item ∷ items) none))

-- ---- what is made of a file without is_call_to

module _ (first : Bytes) (others : List Bytes) (repos : List Repo) where
  abbrev names : List Bytes
  names = first ∷ others

  -- the arguments of a call that the removal takes away
  record Only (xs : List Expr) : Type 0 where
    begins : begins_with_name first xs ≡ true
    some : is_empty (after_path xs) ≡ false
    gone : list_any (argument_stays repos) (after_path xs) ≡ false

  module _ (word : Symbol) (plain : IsPlain word.from) (meant : list_any (is_repo word) repos ≡ true) where
    made_goes : argument_stays repos (import_made word) ≡ false
    made_goes = ap (λ (found : Option Symbol). not (option_map_or (λ s. list_any (is_repo s) repos) found false)) (import_back word plain) ∙ ap not meant

    after_import : (test : Expr → Bool) (x : Expr) (xs : List Expr) → ends_positional x ≡ false → list_any test (after_path (with_import word (x ∷ xs))) ≡ (test (import_made word) || list_any test xs)
    after_import test x xs p =
        let string : Expr = token c.String (quoted_of word.from) in
        let named : Expr = argument_of word.to string in
        let n : ℕ = position_or_len ends_positional xs in
        let m : 1 + n ≡ suc n = omega arith in
        elim (cases_Bool (bytes_eq word.to word.from)) [
          | inl same ↦
              rw same
              (ap (λ b. list_any test (after_path (insert (x ∷ xs) (cond (not b) (1 + n) 0) string))) p
              ∙ (ap (λ j. list_any test (after_path (insert (x ∷ xs) j string))) m ∙ any_put test n string xs))
          | inr off ↦
              rw off
              (list_any-append test xs (named ∷ []) ∙ (or_comm (list_any test xs) (test named || false) ∙ ap (λ z. z || list_any test xs) (or-false (test named))))
        ]

    only_more : (xs : List Expr) → begins_with_name first xs ≡ true → list_any (argument_stays repos) (after_path xs) ≡ false → Only (with_import word xs)
    only_more [] begins gone = absurd (true≢false (sym begins))
    only_more (Form' kind s parts s' items end split open_break comments ∷ xs) begins gone = absurd (true≢false (sym begins))
    only_more (Token t ∷ xs) begins gone = record {
      begins = begins_kept word first (Token t ∷ xs) ∙ begins;
      some = some_there (λ y. true) (after_path (with_import word (Token t ∷ xs))) (after_import (λ y. true) (Token t) xs refl);
      gone = after_import (argument_stays repos) (Token t) xs refl ∙ both (λ a b. a || b) made_goes gone;
    }

  -- a call that was put after the last statement of the variable
  abbrev put : List Expr → List Item → List Item
  put xs items = on_last (is_statement_of first) (λ item. item ∷ call_with xs ∷ []) items

  abbrev Left : List Item → List Item → Type 0
  Left items new = (new ≡ items) ⊎ ((xs : List Expr) × Only xs × (new ≡ put xs items))

  module _ (items : List Item) (none : list_any (is_use names) items ≡ false) (statement : list_any (is_statement_of first) items ≡ true) where
    none_first : (ys : List Item) → list_any (is_use names) ys ≡ false → list_any (is_use_of first) ys ≡ false
    none_first [] h = refl
    none_first (y ∷ ys) h =
        let p = or_parts (is_use names y) (list_any (is_use names) ys) h in
        both (λ a b. a || b) (or_parts (is_use_of first y) (list_any (λ v. is_use_of v y) others) p.0).0 (none_first ys p.1)

    module _ (word : Symbol) (plain : IsPlain word.from) (meant : list_any (is_repo word) repos ≡ true) where
      abbrev into : Item → List Item
      into item = on_call_arguments (with_import word) item ∷ []

      put_more : (xs : List Expr) → Only xs → with_repo first word (put xs items) ≡ put (with_import word xs) items
      put_more xs o =
          let called : is_use_of first (call_with xs) ≡ true = use_with first xs o.begins in
          let there : list_any (is_use_of first) (put xs items) ≡ true =
          comes_last (is_statement_of first) (is_use_of first) (λ item. item ∷ call_with xs ∷ [])
          (λ item h. or_right (is_use_of first item) (is_use_of first (call_with xs) || false) (or_left (is_use_of first (call_with xs)) false called)) items statement in
          if_true (list_any (is_use_of first) (put xs items)) (on_last (is_use_of first) into (put xs items)) (on_last (is_statement_of first) (λ item. item ∷ call_made first word ∷ []) (put xs items)) there
          ∙ (last_in_last (is_statement_of first) (is_use_of first) (on_call_arguments (with_import word)) (call_with xs) called items (none_first items none)
          ∙ ap (λ new. on_last (is_statement_of first) (λ item. item ∷ new ∷ []) items) (changed_with (with_import word) xs))

      one_more : (old : List Item) → Left items old → Left items (with_repo first word old)
      one_more old (inl e) =
          let xs : List Expr = with_import word (name first ∷ []) in
          inr (xs, only_more word plain meant (name first ∷ []) (equal_self first) refl, ap (with_repo first word) e ∙ if_false (list_any (is_use_of first) items) (on_last (is_use_of first) into items) (put xs items) (none_first items none))
      one_more old (inr (xs, o, e)) = inr (with_import word xs, only_more word plain meant xs o.begins o.gone, ap (with_repo first word) e ∙ put_more xs o)

    all_left : (words : List Repo) → AllByRecursion (λ word. IsPlain (word_import word).from) words → AllByRecursion (λ word. list_any (is_repo (word_import word)) repos ≡ true) words
        → (old : List Item) → Left items old → IfOk (repos_added names first words old) (Left items)
    all_left [] plain meant old h = h
    all_left (word ∷ words) plain meant old h =
        let own : Symbol = word_import word in
        let more : List Item = with_repo first own old in
        let rest : Result (List Item) Refusal = repos_added names first words more in
        let Right : Result (List Item) Refusal → Type 0 = λ result. IfOk result (Left items) in
        by_test Right (is_imported (imports_repo own.from) names old) (repos_added names first words old) (if is_imported (imports_as own.to) names old then Err NameTaken else rest)
        (all_left words plain.1 meant.1 old h)
        (by_test Right (is_imported (imports_as own.to) names old) (Err NameTaken) rest tt (all_left words plain.1 meant.1 more (one_more own plain.0 meant.0 old h)))

    loses_with : (xs : List Expr) → Only xs → loses_last names repos (call_with xs) ≡ true
    loses_with xs o =
        let call : Item = call_with xs in
        and_from (is_use names call) (not (is_empty (after_path (use_arguments call))) && not (list_any (argument_stays repos) (after_path (use_arguments call))))
        (own_uses first others call (use_with first xs o.begins))
        (ap (λ ys. not (is_empty (after_path ys)) && not (list_any (argument_stays repos) (after_path ys))) (arguments_with xs) ∙ both (λ a b. not a && not b) o.some o.gone)

    left_removed : (new : List Item) → Left items new → repos_removed names repos new ≡ items
    left_removed new (inl e) = ap (repos_removed names repos) e ∙ none_removed names repos items none
    left_removed new (inr (xs, o, e)) = ap (repos_removed names repos) e ∙ last_removed names repos (is_statement_of first) (call_with xs) (loses_with xs o) items none

pub repos_there_and_back : ReposThereAndBack
repos_there_and_back current usages repos items plain none = by (variables current usages items) refl
  where
    by : (names : List Bytes) → variables current usages items ≡ names → IfOk (with_all_repos names repos items) (λ new. use_repo_remove current usages repos new ≡ Ok items)
    by [] is = tt
    by (first ∷ others) is =
        let alone : list_any (is_use (first ∷ others)) items ≡ false = subst (λ names. list_any (is_use names) items ≡ false) is none in
        let statement = first_statement current usages first others items is in
        let each = each_plain repos plain in
        let made : Result (List Item) Refusal = repos_added (first ∷ others) first repos items in
        if_ok (λ new. Added current usages first others repos items new × Left first others repos items new) (λ new. use_repo_remove current usages repos new ≡ Ok items)
        (λ new w. ap (λ found. removed_from found repos new) (w.0.same ∙ is) ∙ ap Ok (left_removed first others repos items alone statement new w.1)) made
        (both_ok (Added current usages first others repos items) (Left first others repos items) made (all_added current usages first others repos items each is)
        (all_left first others repos items alone statement repos each (each_meant repos repos (λ p h. h)) items (inl refl)))
