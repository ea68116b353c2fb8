-- Reading statements and suites from left to right: the next token and its indent decide.
use Rattle.std.specs.Prelude.{ℕ, zero, suc, Bool, true, false, List, [], ◌∷◌, ◌++◌, ◌&&◌, length, Option, Some, None, if◌then◌else◌, nat_eq, bytes_eq, codes}
use Rattle.bz_lex.specs.declared.leaf.Leaf.{Leaf}
use Rattle.bz_grammar.specs.declared.kind.Kind.TheVariants as k
use Rattle.bz_grammar.specs.declared.tree.Node.{Node}
use Rattle.bz_grammar.specs.declared.tree.Part.{Part}
use Rattle.bz_grammar.specs.declared.tree.Part.TheVariants as p
use Rattle.bz_grammar.specs.Shapes.{Terminal, is_one_of, line, stmt, param, primary, test, expr, Shape, done, tok, sub, list, enclosed, name, colon_mark, comma_mark, open_round, close_round, newline, end, one_keyword}
use Rattle.bz_grammar.specs.Indents.{first_indent}
use Rattle.bz_grammar.specs.Joined.{file_with}
use Rattle.bz_grammar.specs.Reading.{◌>>=◌, Read, starts_with, starts, with_part_first, run, wrap, reading}

-- ---- headers: what is before a suite

abbrev pub def_header : Shape
def_header = tok (one_keyword (codes "def")) (tok name (tok open_round (enclosed param close_round (tok colon_mark done))))

abbrev pub for_header : Shape
for_header = tok (one_keyword (codes "for")) (list primary comma_mark false (tok (one_keyword (codes "in")) (sub expr (tok colon_mark done))))

-- if or elif
abbrev pub test_header : List Terminal → Shape
test_header terminals = tok terminals (sub test (tok colon_mark done))

abbrev pub else_header : Shape
else_header = tok (one_keyword (codes "else")) (tok colon_mark done)

-- ---- indents

-- the next leaf is one of these tokens at this indent
abbrev pub stands_at : List Terminal → List ℕ → List Leaf → Bool
stands_at terminals i ts = starts_with terminals ts && bytes_eq (first_indent ts) i

abbrev pub begins_at : List ℕ → List Leaf → Bool
begins_at i ts = stands_at (starts stmt) i ts

-- an indent followed by at least one character
abbrev pub is_deeper : List ℕ → List ℕ → Bool
is_deeper [] [] = false
is_deeper [] (c ∷ j) = true
is_deeper (b ∷ i) [] = false
is_deeper (b ∷ i) (c ∷ j) = nat_eq b c && is_deeper i j

-- ---- parts in a row

abbrev pub put_all : List Part → Option (List Part × List Leaf) → Option (List Part × List Leaf)
put_all front None = None
put_all front (Some x) = Some (front ++ x.0, x.1)

-- one part, as a list
abbrev pub alone : Option (Part × List Leaf) → Option (List Part × List Leaf)
alone None = None
alone (Some x) = Some (x.0 ∷ [], x.1)

-- none or more parts, as long as the next leaf says so
abbrev pub while_next : ℕ → (List Leaf → Bool) → Read Part → Read (List Part)
while_next zero more next ts = Some ([], ts)
while_next (suc n) more next ts = if more ts then (next ts >>= λ x. with_part_first x.0 (while_next n more next x.1)) else Some ([], ts)

-- a header and its suite
abbrev pub with_suite : Read (List Part) → Read Part → Read (List Part)
with_suite header suite ts = header ts >>= λ x. put_all x.0 (alone (suite x.1))

-- {"elif" test ":" suite} ["else" ":" suite], each at this indent
abbrev pub branches_of : ℕ → (Shape → Read (List Part)) → Read Part → List ℕ → Read (List Part)
branches_of zero header suite i ts = Some ([], ts)
branches_of (suc n) header suite i ts =
    if stands_at (one_keyword (codes "elif")) i ts then (with_suite (header (test_header (one_keyword (codes "elif")))) suite ts >>= λ x. put_all x.0 (branches_of n header suite i x.1))
    else (if stands_at (one_keyword (codes "else")) i ts then with_suite (header else_header) suite ts else Some ([], ts))

abbrev mutual
  -- a statement at this indent, of at most that depth
  pub statement : ℕ → List ℕ → Read Part
  statement zero i ts = None
  statement (suc d) i ts =
      if starts_with (one_keyword (codes "def")) ts then wrap k.Def (with_suite (run (reading d) def_header) (suite_of d i) ts)
      else (if starts_with (one_keyword (codes "if")) ts then wrap k.IfStmt (with_suite (run (reading d) (test_header (one_keyword (codes "if")))) (suite_of d i) ts >>= λ x. put_all x.0 (branches_of (length x.1) (run (reading d)) (suite_of d i) i x.1))
      else (if starts_with (one_keyword (codes "for")) ts then wrap k.ForStmt (with_suite (run (reading d) for_header) (suite_of d i) ts)
      else reading (suc d) line ts))

  -- a suite of a statement at this indent
  pub suite_of : ℕ → List ℕ → Read Part
  suite_of zero i ts = None
  suite_of (suc d) i [] = None
  suite_of (suc d) i (t ∷ ts) =
      if is_one_of newline t then (if is_deeper i (first_indent ts) && begins_at (first_indent ts) ts then wrap k.Suite (with_part_first (p.Leaf t) (while_next (length ts) (begins_at (first_indent ts)) (statement d (first_indent ts)) ts)) else None)
      else reading (suc d) line (t ∷ ts)

-- ---- files

-- all leaves, as a file
abbrev pub if_all : List Part × List Leaf → Option Node
if_all x = elim (x.1) [ [] ↦ Some (file_with x.0) | t ∷ ts ↦ None ]

-- the statements of a file, and its end
abbrev pub statements_of : ℕ → Read (List Part)
statements_of depth ts = while_next (length ts) (begins_at []) (statement depth []) ts >>= λ x. put_all x.0 (run (reading depth) (tok end done) x.1)

-- a file of a depth of at most suc depth
abbrev pub read_file : ℕ → List Leaf → Option Node
read_file depth ts = statements_of depth ts >>= if_all
