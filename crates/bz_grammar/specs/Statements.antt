-- The statements of a file, in the order of its text, and the line on which each begins.
use Rattle.std.specs.Prelude.{ℕ, Bool, not, ◌&&◌, ◌||◌, ◌+◌, List, [], ◌∷◌, ◌++◌, Option, if◌then◌else◌, count_by, slice_get, option_map, map}
use Rattle.bz_lex.specs.declared.leaf.Leaf.{Leaf}
use Rattle.bz_lex.specs.Positions.{is_newline}
use Rattle.bz_grammar.specs.declared.kind.Kind.{Kind}
use Rattle.bz_grammar.specs.declared.kind.Kind.TheVariants as k
use Rattle.bz_grammar.specs.declared.tree.Node.{Node}
use Rattle.bz_grammar.specs.declared.tree.Part.{Part, Row_of-Part, end_of-Part, more_of-Part, Node'}
use Rattle.bz_grammar.specs.declared.tree.Part as p
use Rattle.bz_grammar.specs.Shapes.{small, stmt, suite, is_kind, nonterminal_has_kind}
use Rattle.bz_grammar.specs.Spell.{spell_part, leaves_part, leaves_row}

-- By the table of shapes: a statement is what a Line has (small), and what a file or a suite has (stmt) but a Line. So a function, a
-- branch and a loop are one statement each, with those of their suites after it; an elif and an else are none.
abbrev pub is_statement_kind : Kind → Bool
is_statement_kind kind = nonterminal_has_kind small kind || (nonterminal_has_kind stmt kind && not (is_kind kind k.Line))

-- where statements are: in what a file or a suite has, and in what is a suite
abbrev pub has_statements : Kind → Bool
has_statements kind = nonterminal_has_kind stmt kind || nonterminal_has_kind suite kind

-- the gap before the first of these leaves
abbrev pub first_gap : List Leaf → List ℕ
first_gap [] = []
first_gap (l ∷ ls) = l.gap

-- what is before the first token of a part
abbrev pub gap_of : Part → List ℕ
gap_of x = first_gap (leaves_part x)

-- What is in front of the first token of each statement of a part, where the part begins after a text: of the part itself first, if it
-- is a statement, and then of those in it.
abbrev mutual
  pub fronts_part : List ℕ → Part → List (List ℕ)
  fronts_part front (p.Leaf l) = []
  fronts_part front (Node' kind size row) =
      (if is_statement_kind kind then (front ++ first_gap (leaves_row row)) ∷ [] else []) ++ (if has_statements kind then fronts_row front row else [])

  pub fronts_row : List ℕ → {m : _} → Row_of-Part m → List (List ℕ)
  fronts_row front end_of-Part = []
  fronts_row front (more_of-Part x rest) = fronts_part front x ++ fronts_row (front ++ spell_part x) rest

-- the same for the parts of a file, one after the other
abbrev pub fronts : List ℕ → List Part → List (List ℕ)
fronts front [] = []
fronts front (x ∷ xs) = fronts_part front x ++ fronts (front ++ spell_part x) xs

-- how many newlines are in a text
abbrev pub newlines : List ℕ → ℕ
newlines text = count_by is_newline text

-- the line of what is after a text, from 1
abbrev pub line_following : List ℕ → ℕ
line_following front = 1 + newlines front

-- the line on which the first token of a statement is, by the statement's place in the file, from 0
abbrev pub line_of : Node → ℕ → Option ℕ
line_of n statement = option_map line_following (slice_get (fronts [] n.parts) statement)

-- the lines of all statements, in the order of the text
abbrev pub lines_of : Node → List ℕ
lines_of n = map line_following (fronts [] n.parts)

-- ---- every statement, wherever in the tree it is

-- the nodes of a part that are statements, outer ones first, each with the text in front of it
abbrev mutual
  pub statements_part : List ℕ → Part → List (List ℕ × Part)
  statements_part front (p.Leaf l) = []
  statements_part front (Node' kind size row) = (if is_statement_kind kind then (front, Node' kind size row) ∷ [] else []) ++ statements_row front row

  pub statements_row : List ℕ → {m : _} → Row_of-Part m → List (List ℕ × Part)
  statements_row front end_of-Part = []
  statements_row front (more_of-Part x rest) = statements_part front x ++ statements_row (front ++ spell_part x) rest

abbrev pub statements : List ℕ → List Part → List (List ℕ × Part)
statements front [] = []
statements front (x ∷ xs) = statements_part front x ++ statements (front ++ spell_part x) xs

-- the line on which such a statement begins
abbrev pub begins_on : List ℕ × Part → ℕ
begins_on s = line_following (s.0 ++ gap_of s.1)
