-- What each reading by rows is at a form by lists.
use Rattle.bz_layout.proofs.Words.{[], ◌++◌, ◌∙◌, ◌∷◌, ◌≡◌, ℕ, ap, before_next_in, Bool, Bytes, comment_lines, comments_of, compound, end_of-Expr, Expr, false, firsts, Fits, Form, Form', Frame, frame, fun_ext, has_suite, if◌then◌else◌, Indented, indented_lines, is_compound, is_empty, IsNonterminal, Item, Item as i, items-the_row-Expr, Kind, Kind as k, laid, laid_in, layouts, left_by_frame, left_of, line_part, line_shape, Lines, lines_from_in, List, map, more_of-Expr, node_by_frame, Option, part_of, PartAt, parts_of, piece_part, ProperBy, refl, root, roots, row, row_in, Row_of-Expr, sequence, Spot, text_by_frame, text_in, texts_in, Token, true≢false, writings}
use mathlib.Core.Former.{Count}
use Rattle.bz_grammar.specs.declared.tree.Part.TheVariants as p
use Rattle.bz_value.specs.declared.value.Expr.{items_hidden-the_row-Expr-0}
use Rattle.bz_value.specs.declared.value.Expr.TheVariants as e
use Rattle.bz_value.proofs.FormParts.{items_in, parts_in}

-- the rows of a form
abbrev pub parts_row : Form → (m : Count) × Row_of-Expr m
parts_row f = parts_in (e.Form f)

abbrev pub items_row : Form → (m : Count) × Row_of-Expr m
items_row f = items_in (e.Form f)

pub parts_of_row : (f : Form) → items-the_row-Expr (parts_row f).0 (parts_row f).1 ≡ f.parts
parts_of_row f = items_hidden-the_row-Expr-0 f.parts

pub items_of_row : (f : Form) → items-the_row-Expr (items_row f).0 (items_row f).1 ≡ f.seq.items
items_of_row f = items_hidden-the_row-Expr-0 f.seq.items

pub two : {X Y Z : Type 0} (f : X → Y → Z) {h h' : X} {i i' : Y} → h ≡ h' → i ≡ i' → f h i ≡ f h' i'
two f {h} {h'} {i} {i'} d e = ap (λ z. f z i) d ∙ ap (λ z. f h' z) e

pub none_mapped : {X Y : Type 0} (xs : List X) (f : X → Y) → is_empty (map f xs) ≡ is_empty xs
none_mapped [] f = refl
none_mapped (x ∷ xs) f = refl

-- ---- rows as lists

pub roots_row : (m : _) (r : Row_of-Expr m) → roots r ≡ map root (items-the_row-Expr m r)
roots_row m end_of-Expr = refl
roots_row m (more_of-Expr x rest) = ap (λ t. root x ∷ t) (roots_row _ rest)

-- the expressions of a reading are those that are read
pub values_of : {X : Type 0} (f : Expr → X) (xs : List Expr) → firsts (map (λ x. (x, f x)) xs) ≡ xs
values_of f [] = refl
values_of f (x ∷ xs) = ap (λ ys. x ∷ ys) (values_of f xs)

-- ---- expressions without suites

pub left_none : (f : Frame) (cs : Indented) → is_compound f ≡ false → left_by_frame f cs ≡ []
left_none row cs h = refl
left_none (sequence opener closer) cs h = refl
left_none compound cs h = absurd (true≢false h)

-- no comments are left after it
pub plain_left : (m : ℕ) (x : Expr) → has_suite x ≡ false → left_of m x ≡ []
plain_left m (Token t) h = refl
plain_left m (Form' kind s parts s' items end split open_break comments) h = left_none (frame kind) _ h

-- what is in lines has no suite
pub line_plain : (here : Spot) (x : Expr) → ProperBy line_shape here x → has_suite x ≡ false
line_plain here (Token t) h = refl
line_plain here (Form' kind s parts s' items end split open_break comments) h = by_kind kind h.0
  where
    by_kind : (kind : Kind) → Fits IsNonterminal (line_shape kind) (row_in (frame kind) (roots parts) (roots items)) → is_compound (frame kind) ≡ false
    by_kind k.Suite g = absurd g
    by_kind _ g = refl

module _ (mode : Lines) where
  -- ---- rows as lists

  pub laid_out_row : (m : _) (r : Row_of-Expr m) → parts_of mode r ≡ layouts mode (items-the_row-Expr m r)
  laid_out_row m end_of-Expr = refl
  laid_out_row m (more_of-Expr x rest) = ap (λ t. (x, part_of mode x) ∷ t) (laid_out_row _ rest)

  pub written_row : (m : _) (r : Row_of-Expr m) → texts_in mode r ≡ writings mode (items-the_row-Expr m r)
  written_row m end_of-Expr = refl
  written_row m (more_of-Expr x rest) = ap (λ t. (x, text_in mode x) ∷ t) (written_row _ rest)

  pub parts_values : (m : _) (r : Row_of-Expr m) → firsts (parts_of mode r) ≡ items-the_row-Expr m r
  parts_values m r = ap firsts (laid_out_row m r) ∙ values_of (part_of mode) (items-the_row-Expr m r)

  -- ---- forms

  pub part_Form : (f : Form) (gap : Bytes) (m : ℕ) → part_of mode (e.Form f) gap m ≡ node_by_frame mode (frame f.kind) f.kind f.seq.split f.open_break f.comments.suffix gap m (layouts mode f.parts) (layouts mode f.seq.items) f.seq.end
  part_Form f gap m =
      two
      (λ h i. node_by_frame mode (frame f.kind) f.kind f.seq.split f.open_break f.comments.suffix gap m h i f.seq.end)
      (laid_out_row _ (parts_row f).1 ∙ ap (layouts mode) (parts_of_row f))
      (laid_out_row _ (items_row f).1 ∙ ap (layouts mode) (items_of_row f))

  pub text_Form : (f : Form) (m : ℕ) → text_in mode (e.Form f) m ≡ text_by_frame mode (frame f.kind) f.kind f.seq.split f.open_break f.comments.suffix m (writings mode f.parts) (writings mode f.seq.items) f.seq.end
  text_Form f m =
      two
      (λ h i. text_by_frame mode (frame f.kind) f.kind f.seq.split f.open_break f.comments.suffix m h i f.seq.end)
      (written_row _ (parts_row f).1 ∙ ap (writings mode) (parts_of_row f))
      (written_row _ (items_row f).1 ∙ ap (writings mode) (items_of_row f))

  -- ---- expressions without suites

  -- what is laid out of such an expression
  abbrev pub plain_part : Expr → PartAt
  plain_part (Token t) gap m = p.Leaf (record { class = t.class; gap = gap; token = t.text })
  plain_part (Form' kind s parts s' items end split open_break comments) gap m =
      p.Node (record { kind = kind; parts = map piece_part (laid mode kind split open_break gap m (parts_of mode parts) (parts_of mode items) end) })

  pub plain_node : (f : Frame) (kind : Kind) (split open_break : Bool) (suffix : Option Bytes) (gap : Bytes) (m : ℕ) (parts items : List (Expr × PartAt)) (end : List Bytes) → is_compound f ≡ false →
      node_by_frame mode f kind split open_break suffix gap m parts items end ≡ p.Node (record { kind = kind; parts = map piece_part (laid_in mode f kind split open_break gap m parts items end) })
  plain_node row kind split open_break suffix gap m parts items end h = refl
  plain_node (sequence opener closer) kind split open_break suffix gap m parts items end h = refl
  plain_node compound kind split open_break suffix gap m parts items end h = absurd (true≢false h)

  pub laid_plain : (x : Expr) → has_suite x ≡ false → part_of mode x ≡ plain_part x
  laid_plain (Token t) h = refl
  laid_plain (Form' kind s parts s' items end split open_break comments) h =
      fun_ext (λ gap. fun_ext (λ m. plain_node (frame kind) kind split open_break comments.suffix gap m (parts_of mode parts) (parts_of mode items) end h))

  -- such a statement is in a line of its own
  pub plain_first : (gap : Bytes) (x : Expr) (xs : List Item) → has_suite x ≡ false → lines_from_in mode gap (i.Stmt x ∷ xs) ≡ line_part mode gap x ∷ lines_from_in mode (before_next_in mode (i.Stmt x) xs) xs
  plain_first gap x xs h =
      two (λ (b : Bool) cs. (if b then part_of mode x (gap ++ comment_lines (comments_of x).before) 0 else line_part mode gap x) ∷ lines_from_in mode (indented_lines cs ++ before_next_in mode (i.Stmt x) xs) xs) h (plain_left 0 x h)
