-- What a file says after another one, where either may have suites.
use Rattle.std.specs.Prelude.{◌≡◌, ◌≤◌, List, [], ◌∷◌, ◌++◌, length, map}
use Rattle.bz_hosts.specs.Words.{Bytes, line_feed, Leaf, Node, Part, Node', leaves_part, limit, ReadsBzl, AreWholeLines, groups_of, last_group, GapLine, comments_in}
use Rattle.bz_grammar.specs.declared.tree.Part.TheVariants as p
use Rattle.bz_hosts.specs.Suites.{stated, indented_lines_before}
use Rattle.bz_hosts.specs.View.{view_of}

-- What a statement of a file takes neither of the lines before it nor of those after it.
abbrev pub lines_after : List GapLine → Part → List GapLine → List GapLine
lines_after lines (p.Leaf l) after = []
lines_after lines (Node' kind size row) after = ((stated (Node' kind size row)).statement (last_group (groups_of lines)) after).1

-- The lines that are left before the last of these parts, the end of a file. lines: those before the first.
abbrev pub lines_at_end : List GapLine → List Part → List GapLine
lines_at_end lines [] = lines
lines_at_end lines (x ∷ []) = lines
lines_at_end lines (x ∷ y ∷ xs) = lines_at_end (lines_after lines x (indented_lines_before (map stated (y ∷ xs)) [])) (y ∷ xs)

-- the lines before the first token of a file
abbrev pub first_lines : Node → List GapLine
first_lines n = indented_lines_before (map stated n.parts) []

-- A file whose text ends with the newline of its last statement, which leaves no line to what follows; or that is empty.
pub record EndsWithStatement (n : Node) : Type 0 where
  pub lines : List Part
  pub end : Leaf
  pub parts : n.parts ≡ lines ++ p.Leaf end ∷ []
  pub whole : AreWholeLines lines
  pub nothing : end.gap ≡ []
  pub left : lines_at_end (first_lines n) n.parts ≡ []

-- No comment is before the first token of the file, so that no suite above takes one.
abbrev pub BeginsBare : Node → Type 0
BeginsBare n = comments_in (first_lines n) ≡ []

-- A text that begins without comments after one that ends with a statement: both joined read as a file that says what the one
-- says and then what the other one says, and which ends with a statement where the other one does.
abbrev pub SuitesJoin : Type 0
SuitesJoin = (s t : Bytes) (n m : Node) → EndsWithStatement n → BeginsBare m → ReadsBzl s n → ReadsBzl t m → length (s ++ t) ≤ limit
    → (new : Node) × ReadsBzl (s ++ t) new × (view_of new ≡ view_of n ++ view_of m) × (EndsWithStatement m → EndsWithStatement new)

-- For private functions: the last token of a part is a line feed.
abbrev pub EndsInNewline : Part → Type 0
EndsInNewline x = (front : List Leaf) × (last : Leaf) × (leaves_part x ≡ front ++ last ∷ []) × (last.token ≡ line_feed ∷ [])

-- Lines that end with a newline, and the end of a file with nothing before it.
abbrev pub EndsInLine : List Part → Type 0
EndsInLine parts = (lines : List Part) × (end : Leaf) × (parts ≡ lines ++ p.Leaf end ∷ []) × AreWholeLines lines × (end.gap ≡ [])
