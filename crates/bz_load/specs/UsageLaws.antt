-- Laws of the commands on repositories.
use Rattle.std.specs.Prelude.{◌≡◌, Bool, true, false, List, Ok, IfOk}
use Rattle.std.specs.List.{list_any, list_all}
use Rattle.bz_load.specs.Words.{Item, times, Bytes, IsProperIn, Grammar, IsRepo, AreSome, Repo, Usages}
use Rattle.bz_load.specs.Laws.{becomes_plain}
use Rattle.bz_load.specs.Usages.{is_use, use_repo_add, use_repo_remove, variables, word_import}

-- What they make of proper items is proper, in a BUILD file as in any; what is added is by words that were read.
abbrev pub UsagesStayProper : Type 0
UsagesStayProper =
    ((grammar : Grammar) (current : Bytes) (usages : Usages) (repos : List Repo) (items : List Item) → AreSome IsRepo repos → IsProperIn grammar items → IfOk (use_repo_add current usages repos items) (IsProperIn grammar))
    × ((grammar : Grammar) (current : Bytes) (usages : Usages) (repos : List Repo) (items : List Item) → IsProperIn grammar items → IfOk (use_repo_remove current usages repos items) (IsProperIn grammar))

-- Repositories that are added lose no comment, and make none.
abbrev pub ReposKeepComments : Type 0
ReposKeepComments = (current : Bytes) (usages : Usages) (repos : List Repo) (items : List Item) (text : Bytes) → IfOk (use_repo_add current usages repos items) (λ new. times text new ≡ times text items)

-- Each becomes a string that is plain.
abbrev pub are_plain : List Repo → Bool
are_plain repos = list_all (λ word. becomes_plain (word_import word).from) repos

-- The same repositories added once more change nothing.
abbrev pub ReposAddedAgain : Type 0
ReposAddedAgain =
    (current : Bytes) (usages : Usages) (repos : List Repo) (items : List Item) → are_plain repos ≡ true
    → IfOk (use_repo_add current usages repos items) (λ new. use_repo_add current usages repos new ≡ Ok new)

-- a call for one of the usages that are meant
abbrev pub has_use : Bytes → Usages → List Item → Bool
has_use current usages items = list_any (is_use (variables current usages items)) items

-- Where there was no call, removing what was added gives back the items that there were.
abbrev pub ReposThereAndBack : Type 0
ReposThereAndBack =
    (current : Bytes) (usages : Usages) (repos : List Repo) (items : List Item) → are_plain repos ≡ true → has_use current usages items ≡ false
    → IfOk (use_repo_add current usages repos items) (λ new. use_repo_remove current usages repos new ≡ Ok items)
