-- Repositories that are added lose no comment; added once more they change nothing, and removed again they leave what there was.
use Rattle.bz_load.proofs.Words.{[], ◌++◌, ◌+◌, ◌∙◌, ◌∷◌, ◌≡◌, ap, append_total, argument_of, arith, Bool, by_test, Bytes, bytes_eq, call_made, Class as c, codes, ends_positional, Err, Expr, false, Form', form_amount, has_kind, host_amount, IfOk, if◌then◌else◌, imports_as, imports_repo, insert, is_imported, is_statement_of, is_use_of, Item, Item as i, item_amount, items-the_row-Expr, items_of, Kind as k, List, list_any, made, mark, name, NameTaken, no_comments, Ok, on_call_arguments, on_first, on_items, on_last, one_if, parts_of, position_or_len, quoted_of, refl, Refusal, Repo, repos_added, ReposKeepComments, Result, sequence, subst, suc, sym, Symbol, Token, token, total, Usages, use_repo_add, variables, whole, with_all_repos, with_import, with_items, with_parts, with_repo, word_import, zero, ℕ}
use Rattle.bz_load.proofs.LawComments.{amount_answered, items_same}

-- ---- results and lists

pub if_ok : {X E : Type 0} (P Q : X → Type 0) → ((x : X) → P x → Q x) → (result : Result X E) → IfOk result P → IfOk result Q
if_ok P Q f (Err e) h = tt
if_ok P Q f (Ok x) h = f x h

module _ {X : Type 0} (number : X → ℕ) where
  total_put : (n : ℕ) (new : X) (xs : List X) → total number (insert xs n new) ≡ number new + total number xs
  total_put zero new xs = refl
  total_put (suc n) new [] = refl
  total_put (suc n) new (x ∷ xs) = let rest = total_put n new xs in omega arith

  total_last : (test : X → Bool) (change : X → List X) → ((x : X) → total number (change x) ≡ number x) → (xs : List X) → total number (on_last test change xs) ≡ total number xs
  total_last test change f [] = refl
  total_last test change f (x ∷ xs) =
      by_test (λ ys. total number ys ≡ number x + total number xs) (list_any test xs) (x ∷ on_last test change xs) (if test x then change x ++ xs else x ∷ xs)
      (ap (λ n. number x + n) (total_last test change f xs))
      (by_test (λ ys. total number ys ≡ number x + total number xs) (test x) (change x ++ xs) (x ∷ xs) (append_total number (change x) xs ∙ ap (λ n. n + total number xs) (f x)) refl)

-- ---- comments

module _ (number : Bytes → ℕ) where
  parts_same : (ys : List Expr) (x : Expr) → total (whole number) ys ≡ total (whole number) (parts_of x) → whole number (with_parts ys x) ≡ whole number x
  parts_same ys (Token t) h = refl
  parts_same ys (Form' kind s parts s' items end split open_break comments) h =
      form_amount number (made kind ys (items-the_row-Expr _ items) end split open_break comments)
      ∙ (ap (λ a. host_amount number comments + (a + (total (whole number) (items-the_row-Expr _ items) + total number end))) h
      ∙ sym (amount_answered number (Form' kind s parts s' items end split open_break comments)))

  module _ (change : List Expr → List Expr) (same : (xs : List Expr) → total (whole number) (change xs) ≡ total (whole number) xs) where
    call_same : (x : Expr) → whole number (on_items k.Call change x) ≡ whole number x
    call_same x = by_test (λ (y : Expr). whole number y ≡ whole number x) (has_kind k.Call x) (with_items (change (items_of x)) x) x (items_same number (change (items_of x)) x (same (items_of x))) refl

    first_same : (xs : List Expr) → total (whole number) (on_first (on_items k.Call change) xs) ≡ total (whole number) xs
    first_same [] = refl
    first_same (x ∷ xs) = ap (λ n. n + total (whole number) xs) (call_same x)

    item_same : (item : Item) → item_amount number (on_call_arguments change item) ≡ item_amount number item
    item_same (i.Block lines) = refl
    item_same (i.Stmt x) =
        let new : List Expr = on_first (on_items k.Call change) (parts_of x) in
        by_test (λ (y : Expr). whole number y ≡ whole number x) (has_kind k.Bare x) (with_parts new x) x (parts_same new x (first_same (parts_of x))) refl

  module _ (word : Symbol) where
    import_same : (xs : List Expr) → total (whole number) (with_import word xs) ≡ total (whole number) xs
    import_same xs =
        let new : Expr = token c.String (quoted_of word.from) in
        let named : Expr = argument_of word.to new in
        let a = total_put (whole number) (position_or_len ends_positional xs) new xs in
        let b = append_total (whole number) xs (named ∷ []) in
        let z : whole number new ≡ 0 = refl in
        let y : whole number named ≡ 0 = form_amount number (made k.Named (name word.to ∷ mark (codes "=") ∷ new ∷ []) [] [] false false no_comments) in
        by_test (λ ys. total (whole number) ys ≡ total (whole number) xs) (bytes_eq word.to word.from) (insert xs (position_or_len ends_positional xs) new) (xs ++ named ∷ [])
        (omega (arith, a, z)) (omega (arith, b, y))

    made_none : (variable : Bytes) → item_amount number (call_made variable word) ≡ 0
    made_none variable =
        let xs : List Expr = with_import word (name variable ∷ []) in
        let call : Expr = sequence k.Call (name (codes "use_repo") ∷ []) xs in
        let more : total (whole number) xs ≡ 0 = import_same (name variable ∷ []) in
        let inner = form_amount number (made k.Call (name (codes "use_repo") ∷ []) xs [] false false no_comments) in
        let outer = form_amount number (made k.Bare (call ∷ []) [] [] false false no_comments) in
        omega (arith, more, inner, outer)

    repo_same : (variable : Bytes) (items : List Item) → total (item_amount number) (with_repo variable word items) ≡ total (item_amount number) items
    repo_same variable items =
        let into : Item → List Item = λ item. on_call_arguments (with_import word) item ∷ [] in
        let below : Item → List Item = λ item. item ∷ call_made variable word ∷ [] in
        by_test (λ ys. total (item_amount number) ys ≡ total (item_amount number) items) (list_any (is_use_of variable) items) (on_last (is_use_of variable) into items) (on_last (is_statement_of variable) below items)
        (total_last (item_amount number) (is_use_of variable) into (λ item. let a = item_same (with_import word) import_same item in omega (arith, a)) items)
        (total_last (item_amount number) (is_statement_of variable) below (λ item. let z = made_none variable in omega (arith, z)) items)

  repos_same : (names : List Bytes) (variable : Bytes) (words : List Repo) (items : List Item)
      → IfOk (repos_added names variable words items) (λ new. total (item_amount number) new ≡ total (item_amount number) items)
  repos_same names variable [] items = refl
  repos_same names variable (word ∷ words) items =
      let own : Symbol = word_import word in
      let more : List Item = with_repo variable own items in
      let rest : Result (List Item) Refusal = repos_added names variable words more in
      let Same : Result (List Item) Refusal → Type 0 = λ result. IfOk result (λ new. total (item_amount number) new ≡ total (item_amount number) items) in
      by_test Same (is_imported (imports_repo own.from) names items) (repos_added names variable words items) (if is_imported (imports_as own.to) names items then Err NameTaken else rest)
      (repos_same names variable words items)
      (by_test Same (is_imported (imports_as own.to) names items) (Err NameTaken) rest tt
      (subst (λ n. IfOk rest (λ new. total (item_amount number) new ≡ n)) (repo_same own variable items) (repos_same names variable words more)))

  added_same : (names : List Bytes) (words : List Repo) (items : List Item) → IfOk (with_all_repos names words items) (λ new. total (item_amount number) new ≡ total (item_amount number) items)
  added_same [] words items = tt
  added_same (variable ∷ others) words items = repos_same (variable ∷ others) variable words items

  pub use_repo_add_same : (current : Bytes) (usages : Usages) (repos : List Repo) (items : List Item)
      → IfOk (use_repo_add current usages repos items) (λ new. total (item_amount number) new ≡ total (item_amount number) items)
  use_repo_add_same current usages repos items = added_same (variables current usages items) repos items

pub repos_keep_comments : ReposKeepComments
repos_keep_comments current usages repos items text = use_repo_add_same (one_if text) current usages repos items
