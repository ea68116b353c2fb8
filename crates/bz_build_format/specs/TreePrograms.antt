-- What a compiler reads of the tree of a text: its statements with their headers and suites, and no gaps, no brackets, and no commas,
-- semicolons and newlines between the parts that they separate.
use Rattle.std.specs.Prelude.{◌≡◌, suc, Bool, true, false, List, [], ◌∷◌, ◌++◌, drop, if◌then◌else◌, map, take}
use Rattle.bz_build_format.specs.Words.{Kind, Node, Part, Row_of-Part, end_of-Part, more_of-Part, Node', colon_mark, is_kind, is_one_of, Expr, Form, no_comments, Frame, sequence, frame, is_header, lead, view_of, put_header, program}
use Rattle.bz_grammar.specs.declared.kind.Kind.TheVariants as k
use Rattle.bz_grammar.specs.declared.tree.Part.TheVariants as p
use Rattle.bz_value.specs.declared.value.Expr.TheVariants as e

-- the parts in front of each comma, semicolon or newline, and of the closing bracket: every other one
abbrev pub before_marks : {X : Type 0} → List X → List X
before_marks [] = []
before_marks (x ∷ []) = []
before_marks (x ∷ mark ∷ xs) = x ∷ before_marks xs

abbrev pub bare_form : Kind → List Expr → List Expr → Form
bare_form kind parts items = record { kind = kind; parts = parts; seq = record { items = items; end = []; split = false }; open_break = false; comments = no_comments }

-- a row of parts; or what is before the opening bracket, and the items after it
abbrev pub node_syntax : Frame → Kind → List Expr → Expr
node_syntax (sequence opener closer) kind xs = e.Form (bare_form kind (take (lead kind) xs) (before_marks (drop (suc (lead kind)) xs)))
node_syntax _ kind xs = e.Form (bare_form kind xs [])

abbrev mutual
  pub part_syntax : Part → Expr
  part_syntax (p.Leaf l) = e.Token (record { class = l.class; text = l.token; line_break = false; comments = no_comments })
  part_syntax (Node' kind _ parts) = node_syntax (frame kind) kind (row_syntax parts)

  pub row_syntax : {m : _} → Row_of-Part m → List Expr
  row_syntax end_of-Part = []
  row_syntax (more_of-Part x rest) = part_syntax x ∷ row_syntax rest

-- ---- the statements, with their suites

-- What a part says: as a part of a row; whether it is a colon; its statements; and those of a suite.
pub record Parsed : Type 0 where
  pub part : Expr
  pub is_colon : Bool
  pub statements : List Expr
  pub suite : List Expr

-- the statements of a line
abbrev pub line_statements : List Parsed → List Expr
line_statements xs = before_marks (map (λ x. x.part) xs)

-- those of all these parts
abbrev pub statements_in : List Parsed → List Expr
statements_in [] = []
statements_in (x ∷ xs) = x.statements ++ statements_in xs

-- a suite, with its header of these parts, its statements, and its alternatives
abbrev pub suite_syntax : Kind → List Expr → List Expr → List Expr → Expr
suite_syntax kind parts own others = e.Form (bare_form k.Suite (node_syntax (frame kind) kind parts ∷ others) own)

-- The headers of a statement, each with its suite; the first one has the others. parts: those of the header so far.
abbrev mutual
  pub headers_in : Bool → Kind → List Expr → List Parsed → List Expr
  headers_in first kind parts [] = []
  headers_in first kind parts (x ∷ xs) = if x.is_colon then suites_in first kind parts xs else headers_in first kind (parts ++ x.part ∷ []) xs

  pub suites_in : Bool → Kind → List Expr → List Parsed → List Expr
  suites_in first kind parts [] = []
  suites_in first kind parts (x ∷ xs) = put_header first (suite_syntax kind parts x.suite) (headers_in false kind [] xs)

abbrev pub node_statements : Kind → List Parsed → List Expr
node_statements kind xs =
    if is_kind kind k.Line then line_statements xs
    else (if is_header kind then headers_in true kind [] xs else [])

-- a line in the place of a suite, or the statements after a suite's newline
abbrev pub suite_statements : Kind → List Parsed → List Expr
suite_statements kind xs =
    if is_kind kind k.Line then line_statements xs
    else (if is_kind kind k.Suite then statements_in (drop 1 xs) else [])

abbrev mutual
  pub parsed : Part → Parsed
  parsed (p.Leaf l) = record { part = part_syntax (p.Leaf l); is_colon = is_one_of colon_mark l; statements = []; suite = [] }
  parsed (Node' kind size parts) = record {
    part = part_syntax (Node' kind size parts);
    is_colon = false;
    statements = node_statements kind (parsed_row parts);
    suite = suite_statements kind (parsed_row parts);
  }

  pub parsed_row : {m : _} → Row_of-Part m → List Parsed
  parsed_row end_of-Part = []
  parsed_row (more_of-Part x rest) = parsed x ∷ parsed_row rest

abbrev pub tree_program : Node → List Expr
tree_program n = statements_in (map parsed n.parts)

-- The program of the value of a tree is that of the tree.
abbrev pub ViewsKeepPrograms : Type 0
ViewsKeepPrograms = (tree : Node) → program (view_of tree) ≡ tree_program tree
