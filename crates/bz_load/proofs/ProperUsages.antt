-- What the commands on repositories make of proper items is proper.
use Rattle.bz_load.proofs.Words.{[], ◌&&◌, ◌++◌, ◌∙◌, ◌∷◌, ◌≡◌, All-from_recursion, All-nil, all_changed, all_joined, all_kept, AllByRecursion, AreOf, AreSome, argument_item, argument_of, argument_stays, AsForm, Begins, Bool, by_case, by_test, Bytes, bytes_eq, call_in_place, call_made, Class, Class as c, codes, cons_option, each_item, EachIs, ends_positional, equal_self, Err, Expr, false, filter, first_stays, Form', form_proper_by, Grammar, has_kind, identifiers_are_names, IfOk, IfSome, if◌then◌else◌, imports_as, imports_repo, insert, is_call_to, is_class, is_imported, is_meant_usage, is_statement_of, is_use, is_use_of, IsAttribute, IsComment, IsItem, IsNew, IsProperIn, IsProperItemIn, IsRepo, IsUtf8, Item, Item as i, items_again, items_of, Keeps, Kind as k, List, list_any, loses_last, name, NameTaken, new_part, no_comments, None, none_there, not, Ok, on_call_arguments, on_first, on_items, on_last, on_row, Option, parts_of, position_or_len, ProperExpr, quoted_of, quoted_string, recursion_from_All, refl, Refusal, removed_from, Repo, Repo as rp, repos_added, Result, row_proper, row_stays, sequence, Some, statement_in_place, string_value, sym, Symbol, text_in, text_of, Token, token, token_new, true≢false, usage, usage_of_row, Usages, UsagesStayProper, use_repo_add, use_repo_remove, value_shape, variables, with_all_repos, with_import, with_repo, Within, without_repos, word_import}
use Rattle.bz_token.specs.Lexemes.{IsLexeme}
use Rattle.bz_grammar.specs.Shapes as s
use Rattle.bz_value.specs.Roots as r
use Rattle.bz_load.proofs.{PlaceSteps.all_put, ProperLoads.of_kind}

use_repo_coded : IsUtf8 (codes "use_repo")
unfolding lib.Utf8.encode
use_repo_coded = (codes "use_repo", (refl, refl))

pub all_last : {X : Type 0} (P : X → Type 0) (test : X → Bool) (change : X → List X) → ((x : X) → P x → AllByRecursion P (change x)) → (xs : List X) → AllByRecursion P xs → AllByRecursion P (on_last test change xs)
all_last P test change f [] h = tt
all_last P test change f (x ∷ xs) h =
    by_test (AllByRecursion P) (list_any test xs) (x ∷ on_last test change xs) (if test x then change x ++ xs else x ∷ xs) (h.0, all_last P test change f xs h.1)
    (by_test (AllByRecursion P) (test x) (change x ++ xs) (x ∷ xs) (all_joined P (change x) xs (f x h.0) h.1) h)

-- ---- a variable is a name

abbrev IsNamed : Bytes → Type 0
IsNamed text = IsLexeme c.Name text × IsUtf8 text

class_named : (class : Class) (text : Bytes) → IsLexeme class text × IsUtf8 text → IfSome (if is_class class c.Name then Some text else None) IsNamed
class_named c.Name text h = h
class_named _ text h = tt

module _ (grammar : Grammar) where
  text_named : (x : Expr) → ProperExpr grammar Begins x → IfSome (text_in c.Name x) IsNamed
  text_named (Token t) h = class_named t.class t.text h
  text_named (Form' kind n parts n' items end split open_break comments) h = tt

  abbrev FirstProper : List Expr → Type 0
  FirstProper [] = Unit {0}
  FirstProper (x ∷ xs) = ProperExpr grammar Begins x

  first_proper : (ps xs : List Expr) (end : List Bytes) (split open_break : Bool) → AsForm grammar Begins k.Assign ps xs end split open_break → FirstProper ps
  first_proper [] xs end split open_break h = tt
  first_proper (p ∷ ps) xs end split open_break h = h.1.0.0

  module _ (current : Bytes) (usages : Usages) where
    row_named : (row : List Expr) → FirstProper row → IfSome (usage_of_row current usages row) IsNamed
    row_named [] h = tt
    row_named (left ∷ []) h = tt
    row_named (left ∷ sign ∷ []) h = tt
    row_named (left ∷ sign ∷ value ∷ []) h =
        by_test (λ (o : Option Bytes). IfSome o IsNamed) (bytes_eq (text_of sign) (codes "=") && (is_call_to (codes "use_extension") value && is_meant_usage current usages (text_of left) (items_of value)))
        (text_in c.Name left) None (text_named left h) tt
    row_named (left ∷ sign ∷ value ∷ x ∷ xs) h = tt

    usage_named : (item : Item) → IsProperItemIn grammar item → IfSome (usage current usages item) IsNamed
    usage_named (i.Block lines) h = tt
    usage_named (i.Stmt x) h =
        by_case (λ row. IfSome (usage_of_row current usages row) IsNamed) (has_kind k.Assign x) (parts_of x) []
        (λ is. row_named (parts_of x) (of_kind grammar k.Assign Begins (λ ps xs end. FirstProper ps) first_proper x is h.1)) (λ is. tt)

    one_more : (found : Option Bytes) (rest : List Bytes) → IfSome found IsNamed → AllByRecursion IsNamed rest → AllByRecursion IsNamed (cons_option found rest)
    one_more None rest h all = all
    one_more (Some text) rest h all = (h, all)

    each_named : (items : List Item) → AllByRecursion (IsProperItemIn grammar) items → AllByRecursion IsNamed (variables current usages items)
    each_named [] h = tt
    each_named (item ∷ items) h = one_more (usage current usages item) (variables current usages items) (usage_named item h.0) (each_named items h.1)

  -- ---- the arguments of a call

  abbrev AreArguments : List Expr → Type 0
  AreArguments xs = AreOf grammar s.argument xs

  arguments_fine : (change : List Expr → List Expr) → Keeps grammar s.argument change → (item : Item) → IsProperItemIn grammar item → IsProperItemIn grammar (on_call_arguments change item)
  arguments_fine change keeps (i.Block lines) h = h
  arguments_fine change keeps (i.Stmt x) h =
      let call : Expr → Expr = on_items k.Call change in
      statement_in_place grammar x (on_row k.Bare (on_first call) x) (row_stays grammar k.Bare refl (on_first call) (first_stays grammar call (λ y. call_in_place grammar change keeps y)) x) h

  -- a word that was read
  abbrev IsFine : Symbol → Type 0
  IsFine word = (bytes_eq word.to word.from ≡ false → IsAttribute word.to) × IsUtf8 word.from

  word_fine : (word : Repo) → IsRepo word → IsFine (word_import word)
  word_fine (rp.Plain repo) h = (λ e. absurd (true≢false (sym (equal_self repo) ∙ e)), h.1)
  word_fine (rp.Named own repo) h = (λ e. h.0, h.2)

  module _ (word : Symbol) (fine : IsFine word) where
    with_import_fine : Keeps grammar s.argument (with_import word)
    with_import_fine xs h =
        let new : Expr = token c.String (quoted_of word.from) in
        let value = string_value grammar (quoted_of word.from) (quoted_string word.from fine.1) in
        by_case AreArguments (bytes_eq word.to word.from) (insert xs (position_or_len ends_positional xs) new) (xs ++ argument_of word.to new ∷ [])
        (λ e. all_put (IsItem grammar s.argument) (position_or_len ends_positional xs) new xs (value.0.0, refl) h)
        (λ e. all_joined (IsItem grammar s.argument) xs (argument_of word.to new ∷ []) h (argument_item grammar word.to new (fine.0 e) value, tt))

    -- ---- a new call

    call_fine : (variable : Bytes) → IsNamed variable → IsProperItemIn grammar (call_made variable word)
    call_fine variable h =
        let own = token_new grammar c.Name variable h.0 h.1 in
        let xs : List Expr = with_import word (name variable ∷ []) in
        let all : AreArguments xs = with_import_fine (name variable ∷ []) (((own.proper Within, none_there, refl), refl), tt) in
        let function = token_new grammar c.Name (codes "use_repo") ((identifiers_are_names (codes "use_repo")).0 refl) use_repo_coded in
        let call : Expr = sequence k.Call (name (codes "use_repo") ∷ []) xs in
        let new : IsNew grammar call = record {
          proper = λ here.
              form_proper_by (value_shape grammar) here (record { kind = k.Call; parts = name (codes "use_repo") ∷ []; seq = record { items = xs; end = []; split = false }; open_break = false; comments = no_comments })
              (refl, (refl, items_again grammar s.argument s.close_round (r.mark_leaf 41) refl xs all))
              ((function.proper here, (refl, refl), tt), each_item grammar s.argument s.close_round (r.mark_leaf 41) xs all, All-nil IsComment, refl);
          comments = refl;
          breaks = refl;
        } in
        (refl, row_proper grammar Begins k.Bare (call ∷ []) refl (refl, tt) (new_part grammar false Begins Begins call [] new tt), none_there)

  -- ---- the commands

  abbrev AreFine : List Item → Type 0
  AreFine items = AllByRecursion (IsProperItemIn grammar) items

  module _ (vars : List Bytes) (variable : Bytes) (named : IsNamed variable) where
    repo_fine : (word : Symbol) → IsFine word → (items : List Item) → AreFine items → AreFine (with_repo variable word items)
    repo_fine word fine items h =
        let into : Item → List Item = λ item. on_call_arguments (with_import word) item ∷ [] in
        let below : Item → List Item = λ item. item ∷ call_made variable word ∷ [] in
        by_test AreFine (list_any (is_use_of variable) items) (on_last (is_use_of variable) into items) (on_last (is_statement_of variable) below items)
        (all_last (IsProperItemIn grammar) (is_use_of variable) into (λ item w. (arguments_fine (with_import word) (with_import_fine word fine) item w, tt)) items h)
        (all_last (IsProperItemIn grammar) (is_statement_of variable) below (λ item w. (w, (call_fine word fine variable named, tt))) items h)

    repos_fine : (words : List Repo) → EachIs IsRepo words → (items : List Item) → AreFine items → IfOk (repos_added vars variable words items) AreFine
    repos_fine [] w items h = h
    repos_fine (word ∷ words) w items h =
        let own : Symbol = word_import word in
        let more : List Item = with_repo variable own items in
        let rest : Result (List Item) Refusal = repos_added vars variable words more in
        by_test (λ (result : Result (List Item) Refusal). IfOk result AreFine) (is_imported (imports_repo own.from) vars items) (repos_added vars variable words items)
        (if is_imported (imports_as own.to) vars items then Err NameTaken else rest) (repos_fine words w.1 items h)
        (by_test (λ (result : Result (List Item) Refusal). IfOk result AreFine) (is_imported (imports_as own.to) vars items) (Err NameTaken) rest tt (repos_fine words w.1 more (repo_fine own (word_fine word w.0) items h)))

  added_fine : (vars : List Bytes) → AllByRecursion IsNamed vars → (repos : List Repo) → EachIs IsRepo repos → (items : List Item) → AreFine items → IfOk (with_all_repos vars repos items) AreFine
  added_fine [] named repos w items h = tt
  added_fine (variable ∷ others) named repos w items h = repos_fine (variable ∷ others) variable named.0 repos w items h

  pub use_repo_add_keeps : (current : Bytes) (usages : Usages) (repos : List Repo) (items : List Item) → AreSome IsRepo repos → AllByRecursion (IsProperItemIn grammar) items
      → IfOk (use_repo_add current usages repos items) (AllByRecursion (IsProperItemIn grammar))
  use_repo_add_keeps current usages repos items some h = added_fine (variables current usages items) (each_named current usages items h) repos some.1 items h

  item_left : (vars : List Bytes) (repos : List Repo) (item : Item) → IsProperItemIn grammar item → IsProperItemIn grammar (without_repos vars repos item)
  item_left vars repos item h =
      let stays : Expr → Bool = argument_stays repos in
      by_test (IsProperItemIn grammar) (is_use vars item) (on_call_arguments (filter stays) item) item (arguments_fine (filter stays) (λ xs m. all_kept (IsItem grammar s.argument) stays xs m) item h) h

  removed_fine : (vars : List Bytes) (repos : List Repo) (items : List Item) → AreFine items → IfOk (removed_from vars repos items) AreFine
  removed_fine [] repos items h = tt
  removed_fine (variable ∷ others) repos items h =
      let vars : List Bytes = variable ∷ others in
      let left : List Item = filter (λ item. not (loses_last vars repos item)) items in
      all_changed (IsProperItemIn grammar) (without_repos vars repos) (item_left vars repos) left (all_kept (IsProperItemIn grammar) (λ item. not (loses_last vars repos item)) items h)

  pub use_repo_remove_keeps : (current : Bytes) (usages : Usages) (repos : List Repo) (items : List Item) → AllByRecursion (IsProperItemIn grammar) items
      → IfOk (use_repo_remove current usages repos items) (AllByRecursion (IsProperItemIn grammar))
  use_repo_remove_keeps current usages repos items h = removed_fine (variables current usages items) repos items h

  -- by any proof that all are proper
  each_proper : (result : Result (List Item) Refusal) → IfOk result (AllByRecursion (IsProperItemIn grammar)) → IfOk result (IsProperIn grammar)
  each_proper (Err refusal) h = tt
  each_proper (Ok items) h = All-from_recursion (IsProperItemIn grammar) items h

pub usages_stay_proper : UsagesStayProper
usages_stay_proper = (
  λ grammar current usages repos items some h. each_proper grammar (use_repo_add current usages repos items) (use_repo_add_keeps grammar current usages repos items some (recursion_from_All (IsProperItemIn grammar) items h)),
  λ grammar current usages repos items h. each_proper grammar (use_repo_remove current usages repos items) (use_repo_remove_keeps grammar current usages repos items (recursion_from_All (IsProperItemIn grammar) items h)),
)
