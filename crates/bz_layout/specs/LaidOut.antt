-- The layout as a tree: what the writer makes of a file value. The end comments of a suite are in the gap of what follows it.
use Rattle.std.specs.Prelude.{ℕ, Bool, List, [], ◌∷◌, ◌++◌, ◌+◌, if◌then◌else◌, map, Option, replicate}
use Rattle.bz_token.specs.declared.class.Class.TheVariants as c
use Rattle.bz_layout.specs.Words.{Kind, Node, Part, Node', items-the_row-Part, Expr, Token, Form', Row_of-Expr, end_of-Expr, more_of-Expr, Item, Bytes, colon, line_feed, space, Frame, compound, frame, comments_of, mark_leaf, has_suite}
use Rattle.bz_grammar.specs.declared.kind.Kind.TheVariants as k
use Rattle.bz_grammar.specs.declared.tree.Part.TheVariants as p
use Rattle.bz_value.specs.declared.value.Item.TheVariants as i
use Rattle.bz_layout.specs.declared.breaks.Lines.{Lines}
use Rattle.bz_layout.specs.declared.breaks.Lines.TheVariants as l
use Rattle.bz_layout.specs.Layout.{Piece, mark, part, laid_in, firsts, margin_lines, suffix_text}
use Rattle.bz_layout.specs.Written.{Indented, at_margin, indented_lines, comment_lines, gap_between_in}

-- ---- comments that are left after a statement: the end comments of its last suites

abbrev pub left_by_frame : Frame → Indented → Indented
left_by_frame compound cs = cs
left_by_frame _ cs = []

-- after the last of the alternatives of a suite, or after its statements and its end comments
abbrev mutual
  pub left_of : ℕ → Expr → Indented
  left_of m (Token t) = []
  left_of m (Form' kind s parts s' items end split open_break comments) = left_by_frame (frame kind) (left_others m (left_last (m + 4) [] items ++ at_margin (m + 4) end) parts)

  pub left_others : ℕ → Indented → {n : _} → Row_of-Expr n → Indented
  left_others m cs end_of-Expr = cs
  left_others m cs (more_of-Expr head rest) = left_last m cs rest

  pub left_last : ℕ → Indented → {n : _} → Row_of-Expr n → Indented
  left_last m cs end_of-Expr = cs
  left_last m cs (more_of-Expr x rest) = left_last m (left_of m x) rest

-- ---- lines

-- what is laid out of an expression, after a gap, at a margin
abbrev pub PartAt : Type 0
PartAt = Bytes → ℕ → Part

-- the gap before the first token of what is at a margin: lines, its comments, and its margin
abbrev pub gap_to_margin : ℕ → Bytes → List Bytes → Bytes
gap_to_margin m lines texts = lines ++ (replicate m space ++ margin_lines m texts)

-- the newline after a suffix
abbrev pub newline_part : Option Bytes → Part
newline_part suffix = p.Leaf (record { class = c.Newline; gap = suffix_text suffix; token = line_feed ∷ [] })

-- a statement after these lines: one without a suite is in a Line, with its suffix in the gap of the Newline
abbrev pub statement_part : ℕ → Bytes → Expr × PartAt → Part
statement_part m lines x =
    let own : Part = x.1 (gap_to_margin m lines (comments_of x.0).before) m in
    if has_suite x.0 then own else p.Node (record { kind = k.Line; parts = own ∷ newline_part (comments_of x.0).suffix ∷ [] })

abbrev pub statement_parts : ℕ → Bytes → List (Expr × PartAt) → List Part
statement_parts m lines [] = []
statement_parts m lines (x ∷ xs) = statement_part m lines x ∷ statement_parts m (indented_lines (left_of m x.0)) xs

-- ---- suites

abbrev pub parts_in : Part → List Part
parts_in (p.Leaf l) = []
parts_in (Node' kind size parts) = items-the_row-Part _ parts

-- alternatives: their parts are parts of their owner
abbrev pub alternative_parts : ℕ → Bytes → List (Expr × PartAt) → List Part
alternative_parts m lines [] = []
alternative_parts m lines (x ∷ xs) = parts_in (x.1 (gap_to_margin m lines (comments_of x.0).before) m) ++ alternative_parts m (indented_lines (left_of m x.0)) xs

-- those that are left after the last of these, at first these
abbrev pub last_left : ℕ → Indented → List Expr → Indented
last_left m cs [] = cs
last_left m cs (x ∷ xs) = last_left m (left_of m x) xs

-- a node with more parts, or one that a leaf begins
abbrev pub with_more_parts : Part → List Part → Part
with_more_parts (p.Leaf l) more = p.Node (record { kind = k.Suite; parts = p.Leaf l ∷ more })
with_more_parts (Node' kind size parts) more = p.Node (record { kind = kind; parts = items-the_row-Part _ parts ++ more })

-- the suite of a header, after its suffix
abbrev pub suite_part : ℕ → Option Bytes → List (Expr × PartAt) → Part
suite_part m suffix xs = p.Node (record { kind = k.Suite; parts = newline_part suffix ∷ statement_parts (m + 4) [] xs })

-- the node of a header goes on with its colon, its suite and the alternatives
abbrev pub suite_node : Option Bytes → Bytes → ℕ → List (Expr × PartAt) → List (Expr × PartAt) → List Bytes → Part
suite_node suffix gap m [] items end = p.Node (record { kind = k.Suite; parts = suite_part m suffix items ∷ [] })
suite_node suffix gap m (head ∷ others) items end =
    with_more_parts (head.1 gap m) (mark_leaf colon ∷ suite_part m suffix items ∷ alternative_parts m (indented_lines (last_left (m + 4) [] (firsts items) ++ at_margin (m + 4) end)) others)

-- ---- expressions

abbrev pub piece_part : Piece PartAt → Part
piece_part (mark gap token) = p.Leaf (record { class = c.Mark; gap = gap; token = token })
piece_part (part gap m x) = x gap m

-- kind, flags split and open, suffix, gap, margin, parts, items, end comments
abbrev pub node_by_frame : Lines → Frame → Kind → Bool → Bool → Option Bytes → Bytes → ℕ → List (Expr × PartAt) → List (Expr × PartAt) → List Bytes → Part
node_by_frame lines compound kind split open_break suffix gap m parts items end = suite_node suffix gap m parts items end
node_by_frame lines f kind split open_break suffix gap m parts items end =
    p.Node (record { kind = kind; parts = map piece_part (laid_in lines f kind split open_break gap m parts items end) })

abbrev mutual
  pub part_of : Lines → Expr → PartAt
  part_of lines (Token t) gap m = p.Leaf (record { class = t.class; gap = gap; token = t.text })
  part_of lines (Form' kind s parts s' items end split open_break comments) gap m =
      node_by_frame lines (frame kind) kind split open_break comments.suffix gap m (parts_of lines parts) (parts_of lines items) end

  pub parts_of : Lines → {n : _} → Row_of-Expr n → List (Expr × PartAt)
  parts_of lines end_of-Expr = []
  parts_of lines (more_of-Expr x rest) = (x, part_of lines x) ∷ parts_of lines rest

-- each expression with what is laid out of it
abbrev pub layouts : Lines → List Expr → List (Expr × PartAt)
layouts lines xs = map (λ x. (x, part_of lines x)) xs

-- ---- the file

-- the line of a statement without a suite
abbrev pub line_part : Lines → Bytes → Expr → Part
line_part lines gap x = p.Node (record { kind = k.Line; parts = part_of lines x (gap ++ comment_lines (comments_of x).before) 0 ∷ newline_part (comments_of x).suffix ∷ [] })

-- the blank line before the next item
abbrev pub before_next_in : Lines → Item → List Item → Bytes
before_next_in lines item [] = []
before_next_in lines item (next ∷ items) = gap_between_in lines item next

abbrev pub before_next : Item → List Item → Bytes
before_next item items = before_next_in l.Counted item items

-- the gap that an item without suites leaves to what follows
abbrev pub left_gap : Bytes → Item → Bytes
left_gap gap (i.Block texts) = gap ++ comment_lines texts
left_gap gap (i.Stmt x) = []

-- the lines of the items, the first after this gap: a Block's lines are in the gap of what follows
abbrev pub lines_from_in : Lines → Bytes → List Item → List Part
lines_from_in lines gap [] = p.Leaf (record { class = c.End; gap = gap; token = [] }) ∷ []
lines_from_in lines gap (i.Block texts ∷ items) = lines_from_in lines ((gap ++ comment_lines texts) ++ before_next_in lines (i.Block texts) items) items
lines_from_in lines gap (i.Stmt x ∷ items) =
    statement_part 0 gap (x, part_of lines x) ∷ lines_from_in lines (indented_lines (left_of 0 x) ++ before_next_in lines (i.Stmt x) items) items

abbrev pub lines_from : Bytes → List Item → List Part
lines_from gap items = lines_from_in l.Counted gap items

-- the tree of the layout
abbrev pub laid_out_in : Lines → List Item → Node
laid_out_in lines items = record { kind = k.File; parts = lines_from_in lines [] items }

abbrev pub laid_out : List Item → Node
laid_out items = laid_out_in l.Counted items
