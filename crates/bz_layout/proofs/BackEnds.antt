-- End comments among the lines after a suite: all at its margin, none of those that are indented less.
use Rattle.bz_layout.proofs.Words.{[], ◌++◌, ◌<◌, ◌∙◌, ◌∷◌, ◌≡◌, ◌≤◌, after_end, ap, arith, as_list, Bytes, comments_in, end_comments, GapLine, if◌then◌else◌, is_taken_line, le-leb, List, lt-leb, None, Option, refl, Some, sym, ℕ}
use Rattle.bz_layout.proofs.{Gapped.commented, BackLines.ReadLines}

-- ---- from the first comment on

-- a line and what follows it, from the first comment on
abbrev pub from_line : Option Bytes → GapLine → ReadLines → ReadLines → ReadLines
from_line None line lines more = more
from_line (Some text) line lines more = line ∷ lines

-- the lines from the first comment on
abbrev pub from_comment : ReadLines → ReadLines
from_comment [] = []
from_comment (line ∷ lines) = from_line line.comment line lines (from_comment lines)

-- what skips lines without a comment is the same with the lines before the first comment and without them
module _ {X : Type 0} (F : ReadLines → X) (skips : (line : GapLine) (lines : ReadLines) → line.comment ≡ None → F (line ∷ lines) ≡ F lines) where
  from_step : (comment : Option Bytes) (line : GapLine) (lines : ReadLines) → line.comment ≡ comment → F (from_comment lines) ≡ F lines → F (from_line line.comment line lines (from_comment lines)) ≡ F (line ∷ lines)
  from_step None line lines e same = ap (λ z. F (from_line z line lines (from_comment lines))) e ∙ (same ∙ sym (skips line lines e))
  from_step (Some text) line lines e same = ap (λ z. F (from_line z line lines (from_comment lines))) e

  from_first : (lines : ReadLines) → F (from_comment lines) ≡ F lines
  from_first [] = refl
  from_first (line ∷ lines) = from_step line.comment line lines refl (from_first lines)

  -- so it is where the lines from the first comment on are the same
  pub from_same : (now all : ReadLines) → from_comment now ≡ from_comment all → F now ≡ F all
  from_same now all e = sym (from_first now) ∙ (ap F e ∙ from_first all)

-- the comments
pub same_comments : (lines : ReadLines) → comments_in (from_comment lines) ≡ comments_in lines
same_comments lines = from_first comments_in (λ line lines e. ap (λ z. as_list z ++ comments_in lines) e) lines

-- from the first comment on, twice
pub from_once : (lines : ReadLines) → from_comment (from_comment lines) ≡ from_comment lines
from_once lines = from_first from_comment (λ line lines e. ap (λ z. from_line z line lines (from_comment lines)) e) lines

-- what is taken for end comments from a line on, by the comment of that line
abbrev ends_by : ℕ → Option Bytes → GapLine → ReadLines → List Bytes
ends_by margin comment line lines = if is_taken_line margin line.indent comment then (as_list comment ++ []) ++ end_comments margin lines else []

pub same_ends : (margin : ℕ) (now all : ReadLines) → from_comment now ≡ from_comment all → end_comments margin now ≡ end_comments margin all
same_ends margin now all e = from_same (end_comments margin) (λ line lines e. ap (λ z. ends_by margin z line lines) e) now all e

-- what is left from a line on
abbrev left_by : ℕ → Option Bytes → GapLine → ReadLines → ReadLines
left_by margin comment line lines = if is_taken_line margin line.indent comment then after_end margin lines else line ∷ lines

pub same_left : (margin : ℕ) (now all : ReadLines) → from_comment now ≡ from_comment all → after_end margin now ≡ after_end margin all
same_left margin now all e = from_same (after_end margin) (λ line lines e. ap (λ z. left_by margin z line lines) e) now all e

-- ---- lines whose first comment is indented no more than to a margin

-- what is said of a line with a comment, and of those after a line without one
abbrev pub bounded_line : Option Bytes → Type 0 → Type 0 → Type 0
bounded_line None here more = more
bounded_line (Some text) here more = here

-- the first comment, if there is one, is indented no more than this
abbrev pub AreBounded : ℕ → ReadLines → Type 0
AreBounded m [] = Unit {0}
AreBounded m (line ∷ lines) = bounded_line line.comment (line.indent ≤ m) (AreBounded m lines)

bounded_more : (comment : Option Bytes) (A B C D : Type 0) → (A → C) → (B → D) → bounded_line comment A B → bounded_line comment C D
bounded_more None A B C D here more h = more h
bounded_more (Some text) A B C D here more h = here h

-- a wider bound
pub bounded_further : (m n : ℕ) (lines : ReadLines) → m ≤ n → AreBounded m lines → AreBounded n lines
bounded_further m n [] e h = tt
bounded_further m n (line ∷ lines) e h = bounded_more line.comment _ _ _ _ (λ k. omega (arith, e, k)) (bounded_further m n lines e) h

-- comments at the margin itself
pub commented_bounded : (m : ℕ) (texts : List Bytes) (lines : ReadLines) → AreBounded m lines → AreBounded m (commented m texts ++ lines)
commented_bounded m [] lines h = h
commented_bounded m (text ∷ texts) lines h = omega arith

-- ---- what a suite takes

-- a suite takes all comments at its margin
pub own_taken : (m : ℕ) (texts : List Bytes) (lines : ReadLines) → end_comments m (commented m texts ++ lines) ≡ texts ++ end_comments m lines
own_taken m [] lines = refl
own_taken m (text ∷ texts) lines =
    ap (λ z. if z then text ∷ end_comments m (commented m texts ++ lines) else []) (le-leb m m (omega arith)) ∙ ap (λ z. text ∷ z) (own_taken m texts lines)

-- and leaves what is after them
pub own_left : (m : ℕ) (texts : List Bytes) (lines : ReadLines) → after_end m (commented m texts ++ lines) ≡ after_end m lines
own_left m [] lines = refl
own_left m (text ∷ texts) lines =
    ap (λ z. if z then after_end m (commented m texts ++ lines) else commented m (text ∷ texts) ++ lines) (le-leb m m (omega arith)) ∙ own_left m texts lines

none_step : (margin m : ℕ) (comment : Option Bytes) (line : GapLine) (lines : ReadLines) → m < margin → bounded_line comment (line.indent ≤ m) (AreBounded m lines)
    → (AreBounded m lines → end_comments margin lines ≡ []) → ends_by margin comment line lines ≡ []
none_step margin m None line lines less h more = more h
none_step margin m (Some text) line lines less h more =
    ap (λ z. if z then (as_list (Some text) ++ []) ++ end_comments margin lines else []) (lt-leb margin line.indent (omega (arith, less, h)))

-- none of the lines that belong further out
pub none_taken : (margin m : ℕ) (lines : ReadLines) → m < margin → AreBounded m lines → end_comments margin lines ≡ []
none_taken margin m [] less h = refl
none_taken margin m (line ∷ lines) less h = none_step margin m line.comment line lines less h (none_taken margin m lines less)

all_step : (margin m : ℕ) (comment : Option Bytes) (line : GapLine) (lines : ReadLines) → m < margin → bounded_line comment (line.indent ≤ m) (AreBounded m lines)
    → (AreBounded m lines → after_end margin lines ≡ from_comment lines) → left_by margin comment line lines ≡ from_line comment line lines (from_comment lines)
all_step margin m None line lines less h more = more h
all_step margin m (Some text) line lines less h more = ap (λ z. if z then after_end margin lines else line ∷ lines) (lt-leb margin line.indent (omega (arith, less, h)))

-- all lines that belong further out are left, from the first comment on
pub all_left : (margin m : ℕ) (lines : ReadLines) → m < margin → AreBounded m lines → after_end margin lines ≡ from_comment lines
all_left margin m [] less h = refl
all_left margin m (line ∷ lines) less h = all_step margin m line.comment line lines less h (all_left margin m lines less)
