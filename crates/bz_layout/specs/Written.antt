-- The layout as text: of an expression at a margin, and of a file.
use Rattle.std.specs.Prelude.{ℕ, Bool, ◌&&◌, ◌||◌, List, [], ◌∷◌, ◌++◌, ◌+◌, Option, if◌then◌else◌, map, replicate}
use Rattle.std.specs.List.{flat_map}
use Rattle.bz_layout.specs.Words.{Kind, has_kind, Expr, Token, Form', Row_of-Expr, end_of-Expr, more_of-Expr, Item, Bytes, colon, line_feed, space, is_empty, Frame, compound, frame, comments_of, has_suite}
use Rattle.bz_grammar.specs.declared.kind.Kind.TheVariants as k
use Rattle.bz_layout.specs.declared.breaks.Lines.{Lines}
use Rattle.bz_layout.specs.declared.breaks.Lines.TheVariants as l
use Rattle.bz_value.specs.declared.value.Item.TheVariants as i
use Rattle.bz_layout.specs.Layout.{Piece, mark, part, laid_in, margin_lines, suffix_text}

-- ---- lines of comments

-- comment lines, each with its newline
abbrev pub comment_lines : List Bytes → Bytes
comment_lines texts = margin_lines 0 texts

-- comments with their margins
abbrev pub Indented : Type 0
Indented = List (ℕ × Bytes)

abbrev pub at_margin : ℕ → List Bytes → Indented
at_margin m texts = map (λ text. (m, text)) texts

-- each on a line of its own
abbrev pub indented_lines : Indented → Bytes
indented_lines [] = []
indented_lines (c ∷ cs) = (replicate c.0 space ++ (c.1 ++ line_feed ∷ [])) ++ indented_lines cs

-- ---- statements, each with its reading as a text

abbrev pub TextAt : Type 0
TextAt = ℕ → Bytes

-- a simple statement ends with its suffix and a newline, what has a suite with the last line of that
abbrev pub line_end : Expr → Bytes
line_end x = if has_suite x then [] else suffix_text (comments_of x).suffix ++ line_feed ∷ []

-- a statement is on lines of its own, comments above
abbrev pub statement_text : ℕ → Expr × TextAt → Bytes
statement_text m x = replicate m space ++ (margin_lines m (comments_of x.0).before ++ (x.1 m ++ line_end x.0))

abbrev pub statements_text : ℕ → List (Expr × TextAt) → Bytes
statements_text m xs = flat_map (statement_text m) xs

-- a suite: its header, a colon, its suffix, its statements and then its end comments four further, its alternatives
abbrev pub suite_text : Option Bytes → ℕ → List (Expr × TextAt) → List (Expr × TextAt) → List Bytes → Bytes
suite_text suffix m [] items end = []
suite_text suffix m (head ∷ others) items end =
    head.1 m ++ (colon ∷ (suffix_text suffix ++ (line_feed ∷ (statements_text (m + 4) items ++ (indented_lines (at_margin (m + 4) end) ++ statements_text m others)))))

-- ---- expressions

abbrev pub piece_text : Piece TextAt → Bytes
piece_text (mark gap token) = gap ++ token
piece_text (part gap m x) = gap ++ x m

-- kind, flags split and open, suffix, margin, parts, items, end comments
abbrev pub text_by_frame : Lines → Frame → Kind → Bool → Bool → Option Bytes → ℕ → List (Expr × TextAt) → List (Expr × TextAt) → List Bytes → Bytes
text_by_frame lines compound kind split open_break suffix m parts items end = suite_text suffix m parts items end
text_by_frame lines f kind split open_break suffix m parts items end = flat_map piece_text (laid_in lines f kind split open_break [] m parts items end)

abbrev mutual
  pub text_in : Lines → Expr → TextAt
  text_in lines (Token t) m = t.text
  text_in lines (Form' kind s parts s' items end split open_break comments) m =
      text_by_frame lines (frame kind) kind split open_break comments.suffix m (texts_in lines parts) (texts_in lines items) end

  pub texts_in : Lines → {n : _} → Row_of-Expr n → List (Expr × TextAt)
  texts_in lines end_of-Expr = []
  texts_in lines (more_of-Expr x rest) = (x, text_in lines x) ∷ texts_in lines rest

abbrev pub text_of : Expr → TextAt
text_of x = text_in l.Counted x

-- ---- the file

-- A Block is its lines.
abbrev pub item_text_in : Lines → Item → Bytes
item_text_in lines (i.Block texts) = comment_lines texts
item_text_in lines (i.Stmt x) = statement_text 0 (x, text_in lines x)

abbrev pub item_text : Item → Bytes
item_text item = item_text_in l.Counted item

abbrev pub are_both : Kind → Expr → Expr → Bool
are_both kind x y = has_kind kind x && has_kind kind y

-- Counted: one blank line between two items; none where both are Loads or both are Assigns and the later has no comment above. Written: one
-- after a Block alone, which would be read as the comments of what follows.
abbrev pub gap_between_in : Lines → Item → Item → Bytes
gap_between_in lines (i.Block texts) y = line_feed ∷ []
gap_between_in l.Written (i.Stmt x) y = []
gap_between_in l.Counted (i.Stmt x) (i.Stmt y) = if (are_both k.Load x y || are_both k.Assign x y) && is_empty (comments_of y).before then [] else (line_feed ∷ [])
gap_between_in l.Counted (i.Stmt x) (i.Block texts) = line_feed ∷ []

abbrev pub gap_between : Item → Item → Bytes
gap_between x y = gap_between_in l.Counted x y

-- the items from here on, after an item
abbrev pub past_item : Lines → Item → List Item → Bytes
past_item lines item [] = []
past_item lines item (next ∷ items) = gap_between_in lines item next ++ (item_text_in lines next ++ past_item lines next items)

-- the layout's text of a file value
abbrev pub layout_in : Lines → List Item → Bytes
layout_in lines [] = []
layout_in lines (item ∷ items) = item_text_in lines item ++ past_item lines item items

abbrev pub layout : List Item → Bytes
layout items = layout_in l.Counted items
