-- Worked rows of gaps: a gap, and what it says.
use Rattle.std.specs.Prelude.{◌≡◌, ℕ, Bool, true, false, List, [], ◌∷◌, Option, Some, None, codes}
use Rattle.bz_items.specs.Characters.{Bytes}
use Rattle.bz_value.specs.Gaps.{GapLine, lines_of, suffix_in, others_in, all_in, has_newline, groups_of, all_but_last, last_group}

abbrev commented : ℕ → Bytes → Bool → GapLine
commented indent text newline = record { indent = indent; comment = Some text; newline = newline }

-- a line without comment
abbrev bare : Bool → GapLine
bare newline = record { indent = 0; comment = None; newline = newline }

abbrev says : Bytes → Option Bytes → List Bytes → Bool → Type 0
says gap suffix others newline = (suffix_in gap ≡ suffix) × (others_in gap ≡ others) × (has_newline gap ≡ newline)

-- a comment right after a token; its text ends before the blanks and the carriage return at its end
abbrev pub After : Type 0
After = (lines_of (codes "  # a \t\r\n \n") ≡ commented 2 (codes "# a") true ∷ bare true ∷ []) × says (codes "  # a \t\r\n \n") (Some (codes "# a")) [] true

-- an escaped newline ends a line and is no newline, with a carriage return before it too; the comment after it is no suffix
abbrev pub Escaped : Type 0
Escaped =
    (lines_of (codes " \\\n # b\n") ≡ bare false ∷ commented 1 (codes "# b") true ∷ []) × says (codes " \\\n # b\n") None (codes "# b" ∷ []) true
    × (lines_of (codes " \\\r\n  ") ≡ bare false ∷ []) × says (codes " \\\r\n  ") None [] false

-- a comment that ends with a backslash ends at its newline all the same; the last comment may end with the gap
abbrev pub GapEnds : Type 0
GapEnds = (lines_of (codes "# c\\\n# d") ≡ commented 0 (codes "# c\\") true ∷ commented 0 (codes "# d") false ∷ []) × (all_in (codes "# c\\\n# d") ≡ codes "# c\\" ∷ codes "# d" ∷ [])

-- a line without comment ends a group, and an empty one is where no comment is
abbrev pub Groups : Type 0
Groups =
    (groups_of (lines_of (codes "# a\n # b\n\n# c\n")) ≡ (codes "# a" ∷ codes "# b" ∷ []) ∷ (codes "# c" ∷ []) ∷ [])
    × (last_group (groups_of (lines_of (codes "# a\n\n"))) ≡ []) × (all_but_last (groups_of (lines_of (codes "# a\n\\\n"))) ≡ (codes "# a" ∷ []) ∷ [])

-- an indent is the spaces and tabs right before a comment
abbrev pub Indents : Type 0
Indents = lines_of (codes " \r\t # a\n# b") ≡ commented 2 (codes "# a") true ∷ commented 0 (codes "# b") false ∷ []

-- no gap, and blanks
abbrev pub Nothing : Type 0
Nothing = (lines_of [] ≡ []) × (lines_of (codes " \t ") ≡ []) × says (codes " ") None [] false

abbrev pub WorkedGaps : Type 0
WorkedGaps = After × Escaped × GapEnds × Indents × Groups × Nothing
