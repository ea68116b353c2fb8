-- Walks over the statements of a file: whether a part is one itself, and a walk that seeks one among those that it passes.
use Rattle.std.specs.Prelude.{ℕ, Bool, false, List, [], ◌∷◌, ◌++◌, ◌-◌, Some, None, if◌then◌else◌, nat_eq}
use Rattle.bz_grammar.specs.declared.statement.Sought.{Sought}
use Rattle.bz_grammar.specs.declared.tree.Part.{Part, Node'}
use Rattle.bz_grammar.specs.declared.tree.Part as p
use Rattle.bz_grammar.specs.Statements.{is_statement_kind, gap_of}

abbrev pub is_stated : Part → Bool
is_stated (p.Leaf l) = false
is_stated (Node' kind size row) = is_statement_kind kind

-- what is in front of a part that is a statement itself, where it begins after a text
abbrev pub own_front : List ℕ → Part → List (List ℕ)
own_front front x = if is_stated x then (front ++ gap_of x) ∷ [] else []

-- a statement that begins on a line is passed
abbrev pub passed_line : Sought → ℕ → Sought
passed_line sought line = elim (sought.line) [
  | Some found ↦ sought
  | None ↦ if nat_eq sought.left 0 then record { left = 0; line = Some line } else record { left = sought.left - 1; line = None }
]

-- the statements that begin on these lines, one after the other
abbrev pub all_passed : Sought → List ℕ → Sought
all_passed sought [] = sought
all_passed sought (line ∷ lines) = all_passed (passed_line sought line) lines
