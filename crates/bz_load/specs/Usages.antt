-- Usages of module extensions in a MODULE.bazel file, and the repositories that are imported from them. (Own profile of buildozer's
-- `use_repo_add` and `use_repo_remove`.)
use Rattle.std.specs.Prelude.{Bool, false, not, ◌&&◌, ◌||◌, List, [], ◌∷◌, ◌++◌, Option, None, Result, Ok, Err, bytes_eq, codes, if◌then◌else◌, map}
use Rattle.std.specs.List.{filter, filter_map, insert, list_any, position_or_len}
use Rattle.std.specs.Option.{option_map_or}
use Rattle.bz_token.specs.declared.class.Class.TheVariants as c
use Rattle.bz_grammar.specs.declared.kind.Kind.TheVariants as k
use Rattle.bz_load.specs.Words.{Expr, Item, Kind, Bytes, Refusal, Repo, Symbol, Usages, argument_of, attribute, body_of, call_of, first_text, has_kind, is_empty, is_same, is_text, items_of, name, node, on_first, on_items, on_row, parts_of, quoted_of, sequence, text_in, text_of, token}
use Rattle.bz_value.specs.declared.value.Item.TheVariants as i
use Rattle.bz_value.specs.declared.refusal.Refusal.TheVariants.{NameTaken, NoSource}
use Rattle.bz_load.specs.Loads.{after_path, both_names, symbol_named}
use Rattle.bz_command_syntax.specs.declared.command.Repo.TheVariants as r
use Rattle.bz_command_syntax.specs.declared.command.Usages.TheVariants as u

-- ---- usages: VARIABLE = use_extension("FILE", "NAME", ..)

-- the row of a statement of this kind
abbrev pub row_of : Kind → Item → List Expr
row_of kind (i.Block lines) = []
row_of kind (i.Stmt x) = if has_kind kind x then parts_of x else []

-- VARIABLE = ..
abbrev pub assigns_to : Bytes → List Expr → Bool
assigns_to variable (left ∷ sign ∷ value ∷ []) = is_text variable (text_in c.Name left) && bytes_eq (text_of sign) (codes "=")
assigns_to variable _ = false

-- FUNCTION(..)
abbrev pub is_call_to : Bytes → Expr → Bool
is_call_to function x = has_kind k.Call x && bytes_eq (first_text (parts_of x)) function

-- OWN = True among arguments
abbrev pub is_true : Bytes → List Expr → Bool
is_true own arguments = option_map_or (λ value. bytes_eq (text_of value) (codes "True")) (attribute own arguments) false

-- a plain string that means the same as the label of a file
abbrev pub is_extension_file : Bytes → Bytes → Expr → Bool
is_extension_file current file x = option_map_or (is_same current file) (body_of x) false

-- the file of an extension and its name, both plain strings, come first
abbrev pub is_extension : Bytes → Bytes → Bytes → List Expr → Bool
is_extension current file extension (first ∷ second ∷ rest) = is_extension_file current file first && is_text extension (body_of second)
is_extension current file extension _ = false

-- a development usage where that is wanted, else none; never an isolated one
abbrev pub is_shared : Bool → List Expr → Bool
is_shared dev arguments = (if dev then is_true (codes "dev_dependency") arguments else not (is_true (codes "dev_dependency") arguments)) && not (is_true (codes "isolate") arguments)

-- whether the usage of a variable, by its arguments, is meant; a variable that is named is meant, isolated or not
abbrev pub is_meant_usage : Bytes → Usages → Bytes → List Expr → Bool
is_meant_usage current (u.Extension dev file extension) variable arguments = is_extension current file extension arguments && is_shared dev arguments
is_meant_usage current (u.Variable own) variable arguments = bytes_eq variable own

-- the variable of a usage that is meant
abbrev pub usage_of_row : Bytes → Usages → List Expr → Option Bytes
usage_of_row current usages (left ∷ sign ∷ value ∷ []) =
    if bytes_eq (text_of sign) (codes "=") && (is_call_to (codes "use_extension") value && is_meant_usage current usages (text_of left) (items_of value)) then text_in c.Name left
    else None
usage_of_row current usages _ = None

abbrev pub usage : Bytes → Usages → Item → Option Bytes
usage current usages item = usage_of_row current usages (row_of k.Assign item)

abbrev pub variables : Bytes → Usages → List Item → List Bytes
variables current usages items = filter_map (usage current usages) items

-- ---- imports: use_repo(VARIABLE, "REPO", .., NAME = "REPO")

abbrev pub call_arguments : List Expr → List Expr
call_arguments [] = []
call_arguments (call ∷ others) = items_of call

abbrev pub use_arguments : Item → List Expr
use_arguments item = call_arguments (row_of k.Bare item)

-- the name comes first
abbrev pub begins_with_name : Bytes → List Expr → Bool
begins_with_name variable [] = false
begins_with_name variable (x ∷ xs) = is_text variable (text_in c.Name x)

-- use_repo(VARIABLE, ..)
abbrev pub is_use_row : Bytes → List Expr → Bool
is_use_row variable (call ∷ []) = is_call_to (codes "use_repo") call && begins_with_name variable (items_of call)
is_use_row variable _ = false

abbrev pub is_use_of : Bytes → Item → Bool
is_use_of variable item = is_use_row variable (row_of k.Bare item)

abbrev pub is_use : List Bytes → Item → Bool
is_use names item = list_any (λ variable. is_use_of variable item) names

-- What an argument imports, and under which name: a plain string under its own, and NAME = "REPO". (As a symbol: to that name, from that
-- repository.)
abbrev pub import_in : Expr → Option Symbol
import_in = both_names k.Named

abbrev pub imports_repo : Bytes → Expr → Bool
imports_repo repo x = option_map_or (λ found. bytes_eq found.from repo) (import_in x) false

abbrev pub imports_as : Bytes → Expr → Bool
imports_as own x = option_map_or (λ found. bytes_eq found.to own) (import_in x) false

-- an argument of the is_call_to for one of these variables passes
abbrev pub is_imported : (Expr → Bool) → List Bytes → List Item → Bool
is_imported test names items = list_any (λ item. is_use names item && list_any test (use_arguments item)) items

-- ---- use_repo_add

-- the name that a word requests, and the repository
abbrev pub word_import : Repo → Symbol
word_import (r.Plain repo) = symbol_named repo repo
word_import (r.Named own repo) = symbol_named own repo

-- named or starred: no positional argument may come after it
abbrev pub ends_positional : Expr → Bool
ends_positional x = has_kind k.Named x || has_kind k.Star x

-- A string, where the name is the repository's own, goes after the positional arguments; NAME = "REPO" goes to the end.
abbrev pub with_import : Symbol → List Expr → List Expr
with_import word arguments =
    if bytes_eq word.to word.from then insert arguments (position_or_len ends_positional arguments) (token c.String (quoted_of word.from))
    else arguments ++ argument_of word.to (token c.String (quoted_of word.from)) ∷ []

abbrev pub on_call_arguments : (List Expr → List Expr) → Item → Item
on_call_arguments change (i.Block lines) = i.Block lines
on_call_arguments change (i.Stmt x) = i.Stmt (on_row k.Bare (on_first (on_items k.Call change)) x)

abbrev pub call_made : Bytes → Symbol → Item
call_made variable word = i.Stmt (node k.Bare (sequence k.Call (name (codes "use_repo") ∷ []) (with_import word (name variable ∷ [])) ∷ []))

-- VARIABLE.TAG(..)
abbrev pub is_tag_of : Bytes → Item → Bool
is_tag_of variable item = option_map_or (λ call. has_kind k.Dot call.function && bytes_eq (first_text (parts_of call.function)) variable) (call_of item) false

-- VARIABLE = .., or one of its tags
abbrev pub is_statement_of : Bytes → Item → Bool
is_statement_of variable item = assigns_to variable (row_of k.Assign item) || is_tag_of variable item

-- the last element that passes becomes these
abbrev pub on_last : {X : Type 0} → (X → Bool) → (X → List X) → List X → List X
on_last test change [] = []
on_last test change (x ∷ xs) = if list_any test xs then x ∷ on_last test change xs else (if test x then change x ++ xs else x ∷ xs)

-- The import goes into the last call for the variable; without one a new call goes after its last statement.
abbrev pub with_repo : Bytes → Symbol → List Item → List Item
with_repo variable word items =
    if list_any (is_use_of variable) items then on_last (is_use_of variable) (λ item. on_call_arguments (with_import word) item ∷ []) items
    else on_last (is_statement_of variable) (λ item. item ∷ call_made variable word ∷ []) items

-- One word after the other: a repository that is imported is passed over, under whatever name; none takes the name of another one.
abbrev pub repos_added : List Bytes → Bytes → List Repo → List Item → Result (List Item) Refusal
repos_added names variable [] items = Ok items
repos_added names variable (word ∷ words) items =
    if is_imported (imports_repo (word_import word).from) names items then repos_added names variable words items
    else (if is_imported (imports_as (word_import word).to) names items then Err NameTaken else repos_added names variable words (with_repo variable (word_import word) items))

-- They go into a call for the first variable.
abbrev pub with_all_repos : List Bytes → List Repo → List Item → Result (List Item) Refusal
with_all_repos [] repos items = Err NoSource
with_all_repos (variable ∷ others) repos items = repos_added (variable ∷ others) variable repos items

abbrev pub use_repo_add : Bytes → Usages → List Repo → List Item → Result (List Item) Refusal
use_repo_add current usages repos items = with_all_repos (variables current usages items) repos items

-- ---- use_repo_remove

-- a repository is meant under whatever name, NAME=REPO only under that one
abbrev pub is_repo : Symbol → Repo → Bool
is_repo found (r.Plain repo) = bytes_eq found.from repo
is_repo found (r.Named own repo) = bytes_eq found.to own && bytes_eq found.from repo

abbrev pub argument_stays : List Repo → Expr → Bool
argument_stays repos x = not (option_map_or (λ found. list_any (is_repo found) repos) (import_in x) false)

-- a call that loses its last repository
abbrev pub loses_last : List Bytes → List Repo → Item → Bool
loses_last names repos item =
    is_use names item && (not (is_empty (after_path (use_arguments item))) && not (list_any (argument_stays repos) (after_path (use_arguments item))))

abbrev pub without_repos : List Bytes → List Repo → Item → Item
without_repos names repos item = if is_use names item then on_call_arguments (filter (argument_stays repos)) item else item

abbrev pub repos_removed : List Bytes → List Repo → List Item → List Item
repos_removed names repos items = map (without_repos names repos) (filter (λ item. not (loses_last names repos item)) items)

abbrev pub removed_from : List Bytes → List Repo → List Item → Result (List Item) Refusal
removed_from [] repos items = Err NoSource
removed_from (variable ∷ others) repos items = Ok (repos_removed (variable ∷ others) repos items)

abbrev pub use_repo_remove : Bytes → Usages → List Repo → List Item → Result (List Item) Refusal
use_repo_remove current usages repos items = removed_from (variables current usages items) repos items
