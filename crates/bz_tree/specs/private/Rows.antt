-- Statements and suites as words that do not unfold by themselves: one for each function that reads them.
use Rattle.std.specs.Prelude.{◌≡◌, ℕ, List, [], ◌∷◌, ◌++◌, length, Option, Some, codes}
use Rattle.bz_lex.specs.declared.leaf.Leaf.{Leaf}
use Rattle.bz_grammar.specs.declared.kind.Kind.TheVariants as k
use Rattle.bz_grammar.specs.declared.tree.Part.{Part}
use Rattle.bz_tree.specs.declared.indented.Header.{Header}
use Rattle.bz_tree.specs.declared.indented.Header.TheVariants as h
use Rattle.bz_grammar.specs.Shapes.{Shape, one_keyword}
use Rattle.bz_grammar.specs.Reading.{◌>>=◌, Read, run, Plan, finish, reading}
use Rattle.bz_grammar.specs.Suites.{def_header, for_header, test_header, else_header, begins_at, put_all, while_next, with_suite, branches_of, statement, suite_of}

abbrev pub shape_of_header : Header → Shape
shape_of_header h.Def = def_header
shape_of_header h.For = for_header
shape_of_header h.If = test_header (one_keyword (codes "if"))
shape_of_header h.Elif = test_header (one_keyword (codes "elif"))
shape_of_header h.Else = else_header

-- a header, as if a node were made of it
abbrev pub plan_of_header : Header → Plan
plan_of_header header = finish k.Suite (shape_of_header header)

unfoldable pub header_at : ℕ → Header → Read (List Part)
header_at d header ts = run (reading d) (shape_of_header header) ts

-- a header and its suite, where its statement is at an indent
unfoldable pub owner_at : ℕ → Header → List ℕ → Read (List Part)
owner_at d header i ts = with_suite (run (reading d) (shape_of_header header)) (suite_of d i) ts

unfoldable pub suite_at : ℕ → List ℕ → Read Part
suite_at d i ts = suite_of d i ts

unfoldable pub statement_at : ℕ → List ℕ → Read Part
statement_at d i ts = statement d i ts

-- all statements at an indent that follow each other
unfoldable pub statements_at : ℕ → List ℕ → Read (List Part)
statements_at d i ts = while_next (length ts) (begins_at i) (statement d i) ts

-- elif and else at an indent, with their suites
unfoldable pub branches_at : ℕ → List ℕ → Read (List Part)
branches_at d i ts = branches_of (length ts) (run (reading d)) (suite_of d i) i ts

-- what is in an IfStmt
unfoldable pub if_at : ℕ → List ℕ → Read (List Part)
if_at d i ts = owner_at d h.If i ts >>= λ x. put_all x.0 (branches_at d i x.1)

-- What was read is put after other parts.
abbrev pub PutsAll : Option (List Part × List Leaf) → List Part → List Part → List Leaf → Type 0
PutsAll read front all new = (xs : List Part) × (read ≡ Some (xs, new)) × (all ≡ front ++ xs)

-- the same of one part
abbrev pub PutsOne : Option (Part × List Leaf) → List Part → List Part → List Leaf → Type 0
PutsOne read front all new = (x : Part) × (read ≡ Some (x, new)) × (all ≡ front ++ x ∷ [])
