-- The view of a text after another one.
use Rattle.std.specs.Prelude.{◌≡◌, ◌≤◌, List, [], ◌∷◌, ◌++◌, length}
use Rattle.bz_hosts.specs.Words.{Bytes, Leaf, Node, Part, Node', limit, Reads, AreWholeLines, GapLine, lines_of, after_first_line}
use Rattle.bz_grammar.specs.declared.tree.Part.TheVariants as p
use Rattle.bz_hosts.specs.Seen.{last_gap, seen_row}
use Rattle.bz_hosts.specs.View.{view_of}

-- What the last of these lines leaves to what follows: the lines in the gap of its Newline after an escaped newline.
-- left: those of the Newline before.
abbrev pub lines_left : List GapLine → List Part → List GapLine
lines_left left [] = left
lines_left left (p.Leaf l ∷ xs) = lines_left [] xs
lines_left left (Node' kind size row ∷ xs) = lines_left (after_first_line (lines_of (last_gap (seen_row row)))) xs

-- A file whose text ends with the newline of its last line, in whose gap no newline is escaped; or that is empty.
pub record EndsWithLine (n : Node) : Type 0 where
  pub lines : List Part
  pub end : Leaf
  pub parts : n.parts ≡ lines ++ p.Leaf end ∷ []
  pub whole : AreWholeLines lines
  pub nothing : end.gap ≡ []
  pub left : lines_left [] lines ≡ []

-- A text after one that ends with a line: both joined read as a file whose view is that of the one and then that of the other,
-- and which ends with a line where the other one does.
abbrev pub ViewsJoin : Type 0
ViewsJoin = (s t : Bytes) (n m : Node) → EndsWithLine n → Reads s n → Reads t m → length (s ++ t) ≤ limit
    → (new : Node) × Reads (s ++ t) new × (view_of new ≡ view_of n ++ view_of m) × (EndsWithLine m → EndsWithLine new)

-- the text of no bytes reads as a file without items, which ends with a line
abbrev pub EmptyReads : Type 0
EmptyReads = (n : Node) × Reads [] n × (view_of n ≡ []) × EndsWithLine n
