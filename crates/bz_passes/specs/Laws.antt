-- Laws of tidying.
use Rattle.std.specs.Prelude.{◌≡◌, Bool, List, map}
use Rattle.bz_passes.specs.Words.{Kind, Expr, Item, Bytes, times, Grammar, IsProperIn, has_kind, flags, IsSettled, with_flags, is_broken, AreBuild}
use Rattle.bz_grammar.specs.declared.kind.Kind.TheVariants as k
use Rattle.bz_passes.specs.Lists.{precedes}
use Rattle.bz_passes.specs.Sorting.{sort_by, GivesTheOne, IsSorting, IsSortingByRuns}
use Rattle.bz_passes.specs.Passes.{argument_precedes, is_run_load, loads, name_precedes, path_precedes, symbol_precedes, tidied}
use Rattle.bz_passes.specs.Syntax.{program}

-- What is tidy stays as it is.
abbrev pub TidyStays : Type 0
TidyStays = (items : List Item) → tidied (tidied items) ≡ tidied items

-- What is tidy is settled: its flags are what the layout makes of them.
abbrev pub TidySettles : Type 0
TidySettles = (items : List Item) → IsSettled (tidied items)

-- What the layout breaks stays broken once flags are settled.
abbrev pub FlagsSettle : Type 0
FlagsSettle = (kind : Kind) (split : Bool) (xs : List Expr) (end : List Bytes) → is_broken kind (is_broken kind split xs end) (map with_flags xs) end ≡ is_broken kind split xs end

-- Each comment is in the tidy file as often as before.
abbrev pub TidyingKeepsComments : Type 0
TidyingKeepsComments = (text : Bytes) (items : List Item) → times text (tidied items) ≡ times text items

-- A proper file value stays proper, by each grammar.
abbrev pub ProperStays : Type 0
ProperStays = (grammar : Grammar) (items : List Item) → IsProperIn grammar items → IsProperIn grammar (tidied items)

-- What a BUILD file can say stays so.
abbrev pub BuildStays : Type 0
BuildStays = (items : List Item) → AreBuild items → AreBuild (tidied items)

-- What is level stays as it is.
abbrev pub LevelStays : Type 0
LevelStays = (items : List Item) → flags (flags items) ≡ flags items

-- Each comment is in what is level as often as before.
abbrev pub LevelKeepsComments : Type 0
LevelKeepsComments = (text : Bytes) (items : List Item) → times text (flags items) ≡ times text items

-- What is level is the same program.
abbrev pub LevelKeepsProgram : Type 0
LevelKeepsProgram = (items : List Item) → program (flags items) ≡ program items

-- What is sorted is the one list in order, with ties in their old order: the items of a list by the texts between their quote
-- marks, and the symbols of a load by their local names. Of the arguments of a rule each longest run of named ones is, by
-- priority and then name, and of the items of a file each longest run of loads without comments above, by path; all that
-- is between the runs stays.
abbrev pub SortingIsTheOne : Type 0
SortingIsTheOne =
    GivesTheOne (IsSorting precedes) (sort_by precedes)
    × GivesTheOne (IsSorting symbol_precedes) (sort_by symbol_precedes)
    × GivesTheOne (IsSortingByRuns (has_kind k.Named) name_precedes) (sort_by argument_precedes)
    × GivesTheOne (IsSortingByRuns is_run_load path_precedes) loads
