-- What a gap says: its lines, each with a comment or without one. Every reader of gaps uses this one: the comments,
-- the newlines, and the groups of comment lines at file level.
use Rattle.std.specs.Prelude.{ℕ, suc, Bool, true, false, ◌||◌, List, [], ◌∷◌, ◌++◌, Option, Some, None, if◌then◌else◌, nat_eq}
use Rattle.bz_token.specs.Bytes.{is_blank}
use Rattle.bz_lex.specs.Gaps.{is_indent}
use Rattle.bz_items.specs.Characters.{Bytes, backslash, line_feed, number_sign}

-- A comment's text is kept without spaces, tabs and carriage returns at its end.
abbrev pub with_first : ℕ → Bytes → Bytes
with_first c [] = if is_blank c then [] else (c ∷ [])
with_first c (d ∷ s) = c ∷ d ∷ s

abbrev pub trimmed : Bytes → Bytes
trimmed [] = []
trimmed (c ∷ s) = with_first c (trimmed s)

-- A line of a gap: how many spaces and tabs are right before its comment, 0 without one; its comment; and whether an
-- unescaped newline ends it (an escaped one, or the end of the gap, is none).
pub record GapLine : Type 0 where
  pub indent : ℕ
  pub comment : Option Bytes
  pub newline : Bool

-- The rest of a line that ends at the next newline, whatever is in it: its bytes, whether a newline ends it, and the lines
-- after it.
pub record LineRest : Type 0 where
  pub words : Bytes
  pub newline : Bool
  pub lines : List GapLine

-- A gap is blanks, newlines, backslashes right before a newline (or before a carriage return and a newline), and comments
-- up to a newline. A last line without newline counts only with a comment. indent: the spaces and tabs right before the gap.
abbrev mutual
  pub lines_from : ℕ → Bytes → List GapLine
  lines_from indent [] = []
  lines_from indent (c ∷ g) =
      if nat_eq c number_sign then record { indent = indent; comment = Some (trimmed (number_sign ∷ (rest_of_line g).words)); newline = (rest_of_line g).newline } ∷ (rest_of_line g).lines
      else (if nat_eq c line_feed then record { indent = 0; comment = None; newline = true } ∷ lines_from 0 g
      else (if nat_eq c backslash then record { indent = 0; comment = None; newline = false } ∷ (rest_of_line g).lines
      else lines_from (if is_indent c then suc indent else 0) g))

  pub rest_of_line : Bytes → LineRest
  rest_of_line [] = record { words = []; newline = false; lines = [] }
  rest_of_line (c ∷ g) =
      if nat_eq c line_feed then record { words = []; newline = true; lines = lines_from 0 g }
      else record { words = c ∷ (rest_of_line g).words; newline = (rest_of_line g).newline; lines = (rest_of_line g).lines }

abbrev pub lines_of : Bytes → List GapLine
lines_of gap = lines_from 0 gap

abbrev pub as_list : Option Bytes → List Bytes
as_list None = []
as_list (Some text) = text ∷ []

-- the comments of lines, in their order
abbrev pub comments_in : List GapLine → List Bytes
comments_in [] = []
comments_in (line ∷ lines) = as_list line.comment ++ comments_in lines

-- the comment of the first line: only blanks are before it
abbrev pub first_comment : List GapLine → Option Bytes
first_comment [] = None
first_comment (line ∷ lines) = line.comment

-- the lines after the first
abbrev pub after_first_line : List GapLine → List GapLine
after_first_line [] = []
after_first_line (line ∷ lines) = lines

-- an unescaped newline is in the gap
abbrev pub some_newline : List GapLine → Bool
some_newline [] = false
some_newline (line ∷ lines) = line.newline || some_newline lines

-- What a gap says to the parts around it: the comment on the line that it begins on, its other comments, and whether an
-- unescaped newline is in it.
abbrev pub suffix_in : Bytes → Option Bytes
suffix_in gap = first_comment (lines_of gap)

abbrev pub others_in : Bytes → List Bytes
others_in gap = comments_in (after_first_line (lines_of gap))

abbrev pub all_in : Bytes → List Bytes
all_in gap = comments_in (lines_of gap)

abbrev pub has_newline : Bytes → Bool
has_newline gap = some_newline (lines_of gap)

-- Comment lines that follow each other form a group: the lines cut at each one without a comment. The last group is what
-- is right above what follows the lines.
abbrev pub put_on_first : Bytes → List (List Bytes) → List (List Bytes)
put_on_first text [] = (text ∷ []) ∷ []
put_on_first text (group ∷ groups) = (text ∷ group) ∷ groups

abbrev pub before_groups : Option Bytes → List (List Bytes) → List (List Bytes)
before_groups None groups = [] ∷ groups
before_groups (Some text) groups = put_on_first text groups

abbrev pub groups_of : List GapLine → List (List Bytes)
groups_of [] = [] ∷ []
groups_of (line ∷ lines) = before_groups line.comment (groups_of lines)

-- the groups that a line without token and comment, or nothing, follows
abbrev pub all_but_last : List (List Bytes) → List (List Bytes)
all_but_last [] = []
all_but_last (group ∷ []) = []
all_but_last (group ∷ next ∷ groups) = group ∷ all_but_last (next ∷ groups)

abbrev pub last_group : List (List Bytes) → List Bytes
last_group [] = []
last_group (group ∷ []) = group
last_group (group ∷ next ∷ groups) = last_group (next ∷ groups)
