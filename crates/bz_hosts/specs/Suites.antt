-- What statements are read as, those with suites too, each comment at its host.
use Rattle.std.specs.Prelude.{ℕ, Bool, true, false, List, [], ◌∷◌, ◌++◌, Option, Some, None, map, drop, length, if◌then◌else◌, nat_le}
use Rattle.bz_hosts.specs.Words.{indent, Kind, Part, Row_of-Part, end_of-Part, more_of-Part, Node', is_kind, is_one_of, colon_mark, Expr, Item, frame, is_header, GapLine, lines_of, comments_in, after_first_line, all_in, Bytes}
use Rattle.bz_grammar.specs.declared.kind.Kind.TheVariants as k
use Rattle.bz_grammar.specs.declared.tree.Part.TheVariants as p
use Rattle.bz_value.specs.declared.value.Expr.TheVariants as e
use Rattle.bz_value.specs.declared.value.Item.TheVariants as i
use Rattle.bz_hosts.specs.Seen.{Seen, seen, seen_node, plain, first_seen_gap, last_gap, statements_in}

-- ---- lines

-- Of the comment lines after the last statement of a suite with an indent of this length: its end comments are those up to the
-- first one that is indented less.
abbrev pub is_taken_line : ℕ → ℕ → Option Bytes → Bool
is_taken_line margin indent None = true
is_taken_line margin indent (Some comment) = nat_le margin indent

abbrev pub end_comments : ℕ → List GapLine → List Bytes
end_comments margin [] = []
end_comments margin (l ∷ lines) = if is_taken_line margin l.indent l.comment then comments_in (l ∷ []) ++ end_comments margin lines else []

-- what is left of the lines after them
abbrev pub after_end : ℕ → List GapLine → List GapLine
after_end margin [] = []
after_end margin (l ∷ lines) = if is_taken_line margin l.indent l.comment then after_end margin lines else l ∷ lines

-- ---- parts

-- What statements were read, and the lines that are left of those after them.
abbrev pub ReadStatements : Type 0 → Type 0
ReadStatements X = X × List GapLine

-- the statements of a suite, and its end comments
abbrev pub SuiteRead : Type 0
SuiteRead = ReadStatements (List Expr × List Bytes)

-- A part that was read: as a part of a row; whether it is a colon; as a suite its header's suffix; as a statement, by the
-- comments above it and the lines after it; as a suite, by the lines after it.
pub record Stated : Type 0 where
  pub part : Seen
  pub is_colon : Bool
  pub suffix : Option Bytes
  pub statement : List Bytes → List GapLine → ReadStatements (List Expr)
  pub suite : List GapLine → SuiteRead

-- the lines right before the first of these parts; where there is none, those that are after all
abbrev pub indented_lines_before : List Stated → List GapLine → List GapLine
indented_lines_before [] after = after
indented_lines_before (x ∷ xs) after = lines_of x.part.gap

-- ---- lines of simple statements

abbrev pub exprs_in : List Item → List Expr
exprs_in [] = []
exprs_in (i.Block texts ∷ items) = exprs_in items
exprs_in (i.Stmt x ∷ items) = x ∷ exprs_in items

-- What is in the gap of a Newline after its first line is before what follows.
abbrev pub line_read : List Seen → List Bytes → List GapLine → ReadStatements (List Expr)
line_read ss above after = (exprs_in (statements_in above ss), after_first_line (lines_of (last_gap ss)) ++ after)

-- ---- statements one after the other

-- above: the lines before the first of them; after: those after the last
abbrev pub walked : List GapLine → List Stated → List GapLine → ReadStatements (List Expr)
walked above [] after = ([], above)
walked above (x ∷ xs) after =
    let one : ReadStatements (List Expr) = x.statement (comments_in above) (indented_lines_before xs after) in
    let more : ReadStatements (List Expr) = walked one.1 xs after in
    (one.0 ++ more.0, more.1)

-- ---- suites

-- the length of the indent of the first statement
abbrev pub margin_of : List Stated → ℕ
margin_of xs = length (indent (first_seen_gap (map (λ x. x.part) xs)))

-- the statements after a suite's newline
abbrev pub suite_read : List Stated → List GapLine → SuiteRead
suite_read xs after =
    let all : ReadStatements (List Expr) = walked (indented_lines_before xs []) xs after in
    ((all.0, end_comments (margin_of xs) all.1), after_end (margin_of xs) all.1)

-- ---- headers

-- the comment in the gap of a suite's newline
abbrev pub only_comment : List Bytes → Option Bytes
only_comment [] = None
only_comment (text ∷ texts) = Some text

-- A suite: its header of these parts, its alternatives, its statements with its end comments. What is loose in the header is above
-- it.
abbrev pub suite_form : Kind → List Seen → List Bytes → Option Bytes → List Expr × List Bytes → List Expr → Expr
suite_form kind ss above suffix own others = e.Form (record {
  kind = k.Suite;
  parts = plain (seen_node (frame kind) kind ss) ∷ others;
  seq = record { items = own.0; end = own.1; split = false };
  open_break = false;
  comments = record { before = above ++ (seen_node (frame kind) kind ss).loose; suffix = suffix };
})

-- the first header has the others as its alternatives
abbrev pub put_header : Bool → (List Expr → Expr) → List Expr → List Expr
put_header true made others = made others ∷ []
put_header false made others = made [] ∷ others

-- The headers of a statement, each with its suite; the first one has the others. parts: those of the header so far; above: the
-- comments above the header; left: the lines that are left where no header follows.
abbrev mutual
  pub branches : Bool → Kind → List Seen → List Bytes → List GapLine → List Stated → List GapLine → ReadStatements (List Expr)
  branches first kind parts above left [] after = ([], left)
  branches first kind parts above left (x ∷ xs) after =
      if x.is_colon then with_suite first kind parts above left xs after else branches first kind (parts ++ x.part ∷ []) above left xs after

  pub with_suite : Bool → Kind → List Seen → List Bytes → List GapLine → List Stated → List GapLine → ReadStatements (List Expr)
  with_suite first kind parts above left [] after = ([], left)
  with_suite first kind parts above left (x ∷ xs) after =
      let own : SuiteRead = x.suite (indented_lines_before xs after) in
      let more : ReadStatements (List Expr) = branches false kind [] (comments_in own.1) own.1 xs after in
      (put_header first (suite_form kind parts above x.suffix own.0) more.0, more.1)

-- ---- parts of each kind

abbrev pub statement_read : Kind → List Stated → List Bytes → List GapLine → ReadStatements (List Expr)
statement_read kind xs above after =
    if is_kind kind k.Line then line_read (map (λ x. x.part) xs) above after
    else (if is_header kind then branches true kind [] above after xs after else ([], after))

-- a suite, or a line in its place
abbrev pub suite_in : Kind → List Stated → List GapLine → SuiteRead
suite_in kind xs after =
    if is_kind kind k.Line then (((line_read (map (λ x. x.part) xs) [] after).0, []), (line_read (map (λ x. x.part) xs) [] after).1)
    else (if is_kind kind k.Suite then suite_read (drop 1 xs) after else (([], []), after))

abbrev pub suffix_before : Kind → List Stated → Option Bytes
suffix_before kind xs = if is_kind kind k.Suite then only_comment (all_in (first_seen_gap (map (λ x. x.part) xs))) else None

abbrev mutual
  pub stated : Part → Stated
  stated (p.Leaf l) = record {
    part = seen (p.Leaf l);
    is_colon = is_one_of colon_mark l;
    suffix = None;
    statement = λ above after. ([], after);
    suite = λ after. (([], []), after);
  }
  stated (Node' kind size row) = record {
    part = seen (Node' kind size row);
    is_colon = false;
    suffix = suffix_before kind (stated_row row);
    statement = statement_read kind (stated_row row);
    suite = suite_in kind (stated_row row);
  }

  pub stated_row : {m : _} → Row_of-Part m → List Stated
  stated_row end_of-Part = []
  stated_row (more_of-Part x rest) = stated x ∷ stated_row rest
