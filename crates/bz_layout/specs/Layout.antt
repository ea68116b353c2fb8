-- The layout: what is in a node, as pieces. One definition; the text and the tree are two readings of it.
use Rattle.std.specs.Prelude.{ℕ, Bool, false, true, not, ◌&&◌, ◌||◌, List, [], ◌∷◌, ◌++◌, ◌+◌, length, nat_le, nat_eq, if◌then◌else◌, replicate, map, Option, Some, None}
use Rattle.std.specs.List.{list_any}
use Rattle.bz_layout.specs.Words.{Kind, is_kind, has_kind, Expr, Bytes, comma, line_feed, space, is_empty, is_none, Frame, row, sequence, compound, frame, comments_of, has_break, root}
use Rattle.bz_grammar.specs.declared.kind.Kind.TheVariants as k
use Rattle.bz_layout.specs.declared.breaks.Lines.{Lines}
use Rattle.bz_layout.specs.declared.breaks.Lines.TheVariants as l
use Rattle.bz_layout.specs.Spaces.{is_spaced}

-- ---- gaps

-- a new line at a margin of spaces
abbrev pub new_line_at : ℕ → Bytes
new_line_at m = line_feed ∷ replicate m space

-- end comments at the margin n, then the line of the closing bracket at m
abbrev pub ended : ℕ → ℕ → List Bytes → Bytes
ended n m [] = new_line_at m
ended n m (text ∷ texts) = new_line_at n ++ (text ++ ended n m texts)

-- comments above an item, each on its own line at the margin
abbrev pub margin_lines : ℕ → List Bytes → Bytes
margin_lines m [] = []
margin_lines m (text ∷ texts) = text ++ (new_line_at m ++ margin_lines m texts)

-- a suffix is after two spaces
abbrev pub suffix_text : Option Bytes → Bytes
suffix_text None = []
suffix_text (Some text) = space ∷ space ∷ text

-- ---- broken sequences

-- a sequence of two or more items is broken in a list or a dict
abbrev pub is_listed : Kind → Bool
is_listed kind = is_kind kind k.List || is_kind kind k.Dict

abbrev pub is_call : Kind → Bool
is_call kind = is_kind kind k.Call

abbrev pub is_tuple : Kind → Bool
is_tuple kind = is_kind kind k.Tuple

abbrev pub is_named_argument : Expr → Bool
is_named_argument x = has_kind k.Named x || has_kind k.Star x

abbrev pub has_comment : Expr → Bool
has_comment x = not (is_empty (comments_of x).before && is_none (comments_of x).suffix)

abbrev pub has_comments : List Expr → Bool
has_comments xs = list_any has_comment xs

abbrev pub has_named : List Expr → Bool
has_named xs = list_any is_named_argument xs

-- What breaks a sequence without comments. Counted: it is a list or dict of two or more items, it is a call of two or more items of which
-- one is Named or Star, or it is split and has an item. Written: it is split.
abbrev pub is_divided : Lines → Kind → Bool → List Expr → Bool
is_divided l.Counted kind split items = (nat_le 2 (length items) && (is_listed kind || (is_call kind && has_named items))) || (split && not (is_empty items))
is_divided l.Written kind split items = split

-- A sequence is broken where an item has comments, there are end comments, or it is divided.
abbrev pub is_broken_in : Lines → Kind → Bool → List Expr → List Bytes → Bool
is_broken_in lines kind split items end = has_comments items || (not (is_empty end) || is_divided lines kind split items)

abbrev pub is_broken : Kind → Bool → List Expr → List Bytes → Bool
is_broken kind split items end = is_broken_in l.Counted kind split items end

abbrev pub is_written : Lines → Bool
is_written l.Counted = false
is_written l.Written = true

-- the margin of the items of a broken sequence: four further, and as lines are written eight for the parameters of a function
abbrev pub item_margin : Lines → Kind → ℕ → ℕ
item_margin lines kind m = if is_written lines && is_kind kind k.Def then m + 8 else m + 4

-- As lines are written no comma is after an item of a broken call that is a Star and before no others,
abbrev pub is_bare : Lines → Kind → Expr → List Expr → Bool
is_bare lines kind x others = is_written lines && (is_call kind && (has_kind k.Star x && is_empty others))

-- and the closing bracket is right after a function's parameter that has no suffix and is before no others, and no end comments.
abbrev pub is_closed : Lines → Kind → Expr → List Expr → List Bytes → Bool
is_closed lines kind x others end = is_written lines && (is_kind kind k.Def && (is_none (comments_of x).suffix && (is_empty others && is_empty end)))

-- ---- rows

-- The gap after a part of a row, before the next one. In an open comprehension each part is on a line of its own at
-- m + 4, the closing bracket, which is the last part, at m. A break operator is at its line's end, and the operand
-- after it begins a new line at m + 4. Elsewhere is one space or nothing.
abbrev pub gap_after : Kind → Bool → ℕ → Expr → List Expr → Bytes
gap_after kind open_break m x [] = []
gap_after kind open_break m x (y ∷ ys) =
    if open_break then new_line_at (if is_empty ys then m else m + 4)
    else (if has_break x then new_line_at (m + 4) else (if is_spaced kind (root x) (root y) then space ∷ [] else []))

-- what begins a new line at m + 4 has that margin
abbrev pub margin_after : Bool → ℕ → Expr → ℕ
margin_after open_break m x = if open_break || has_break x then m + 4 else m

-- ---- pieces

-- a piece of a node: a mark after its gap, or a part at a margin after a gap
pub data Piece (X : Type 0) : Type 0 where
  mark : Bytes → Bytes → Piece X
  part : Bytes → ℕ → X → Piece X

module _ {X : Type 0} where
  abbrev pub firsts : List (Expr × X) → List Expr
  firsts xs = map (λ x. x.0) xs

  -- a row: its gap, its margin
  abbrev pub rowed : Kind → Bool → ℕ → Bytes → ℕ → List (Expr × X) → List (Piece X)
  rowed kind open_break m gap n [] = []
  rowed kind open_break m gap n (x ∷ xs) = part gap n x.1 ∷ rowed kind open_break m (gap_after kind open_break m x.0 (firsts xs)) (margin_after open_break m x.0) xs

  -- what is before the opening bracket, one space between two parts of it, the bracket, then
  abbrev pub headed : ℕ → Bytes → ℕ → List (Expr × X) → List (Piece X) → List (Piece X)
  headed m gap opener [] after = mark gap (opener ∷ []) ∷ after
  headed m gap opener (x ∷ xs) after = part gap m x.1 ∷ headed m (if is_empty xs then [] else (space ∷ [])) opener xs after

  -- not broken: items at the margin joined by a comma and a space; a tuple of one ends with a comma
  abbrev pub joined : ℕ → Bytes → ℕ → Bool → List (Expr × X) → List (Piece X)
  joined m gap closer one [] = mark [] (closer ∷ []) ∷ []
  joined m gap closer one (x ∷ xs) = part gap m x.1 ∷ ((if is_empty xs && not one then [] else (mark [] (comma ∷ []) ∷ [])) ++ joined m (space ∷ []) closer false xs)

  -- after an item of a broken sequence, before what is below it: a comma, but where it is bare, or closed
  abbrev pub followed : Bool → Bool → ℕ → List (Piece X) → List (Piece X)
  followed closed bare closer below = if closed then mark [] (closer ∷ []) ∷ [] else (if bare then below else (mark [] (comma ∷ []) ∷ below))

  -- broken: each item on lines of its own at the margin n, its comments above it, then a comma, then its suffix, which is
  -- in the next gap; end comments; the closing bracket at m
  abbrev pub stacked : Lines → Kind → ℕ → ℕ → Option Bytes → ℕ → List Bytes → List (Expr × X) → List (Piece X)
  stacked lines kind n m suffix closer end [] = mark (suffix_text suffix ++ ended n m end) (closer ∷ []) ∷ []
  stacked lines kind n m suffix closer end (x ∷ xs) =
      part (suffix_text suffix ++ (new_line_at n ++ margin_lines n (comments_of x.0).before)) n x.1
      ∷ followed (is_closed lines kind x.0 (firsts xs) end) (is_bare lines kind x.0 (firsts xs)) closer (stacked lines kind n m (comments_of x.0).suffix closer end xs)

  -- what is between the brackets, and the closing one
  abbrev pub body : Lines → Kind → Bool → ℕ → ℕ → List (Expr × X) → List Bytes → List (Piece X)
  body lines kind split m closer items end =
      if is_broken_in lines kind split (firsts items) end then stacked lines kind (item_margin lines kind m) m None closer end items
      else joined m [] closer (is_tuple kind && nat_eq (length items) 1) items

  -- a row or a sequence
  abbrev pub laid_in : Lines → Frame → Kind → Bool → Bool → Bytes → ℕ → List (Expr × X) → List (Expr × X) → List Bytes → List (Piece X)
  laid_in lines row kind split open_break gap m parts items end = rowed kind open_break m gap m parts
  laid_in lines (sequence opener closer) kind split open_break gap m parts items end = headed m gap opener parts (body lines kind split m closer items end)
  laid_in lines compound kind split open_break gap m parts items end = []

  -- kind, flags split and open, gap before, margin, parts, items, end comments
  abbrev pub laid : Lines → Kind → Bool → Bool → Bytes → ℕ → List (Expr × X) → List (Expr × X) → List Bytes → List (Piece X)
  laid lines kind split open_break gap m parts items end = laid_in lines (frame kind) kind split open_break gap m parts items end
