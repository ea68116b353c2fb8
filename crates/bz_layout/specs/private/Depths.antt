-- How deep what is laid out of a value is, as the functions that look at it state it.
use Rattle.std.specs.Prelude.{ℕ, suc, max, List, [], ◌∷◌, if◌then◌else◌}
use Rattle.bz_layout.specs.Words.{Expr, Token, Form', Row_of-Expr, end_of-Expr, more_of-Expr, Form, Item, Frame, row, sequence, compound, frame, has_suite}
use Rattle.bz_value.specs.declared.value.Item.TheVariants as i

-- From the depths of its parts, of its items, and of these as lines. A row lays out no items. The suite is a node in that of its
-- header, and the alternatives are parts of this node.
abbrev pub depth_in : Frame → ℕ → ℕ → ℕ → ℕ
depth_in row parts items lines = suc parts
depth_in (sequence opener closer) parts items lines = suc (max parts items)
depth_in compound parts items lines = max parts (suc (suc lines))

-- a statement without a suite is in a line of its own
abbrev pub line_depth : Expr → ℕ → ℕ
line_depth x depth = if has_suite x then depth else suc depth

abbrev mutual
  pub depth_expr : Expr → ℕ
  depth_expr (Token t) = 0
  depth_expr (Form' kind s parts s' items end split open_break comments) = depth_in (frame kind) (depth_exprs parts) (depth_exprs items) (depth_lines items)

  pub depth_exprs : {m : _} → Row_of-Expr m → ℕ
  depth_exprs end_of-Expr = 0
  depth_exprs (more_of-Expr x rest) = max (depth_expr x) (depth_exprs rest)

  pub depth_lines : {m : _} → Row_of-Expr m → ℕ
  depth_lines end_of-Expr = 0
  depth_lines (more_of-Expr x rest) = max (line_depth x (depth_expr x)) (depth_lines rest)

-- of a statement with its line
abbrev pub depth_line : Expr → ℕ
depth_line x = line_depth x (depth_expr x)

-- ---- of lists

-- the depth of the deepest one
abbrev pub deepest_by : (Expr → ℕ) → List Expr → ℕ
deepest_by depth [] = 0
deepest_by depth (x ∷ xs) = max (depth x) (deepest_by depth xs)

abbrev pub deepest_of : List Expr → ℕ
deepest_of xs = deepest_by depth_expr xs

abbrev pub deepest_line : List Expr → ℕ
deepest_line xs = deepest_by depth_line xs

abbrev pub depth_form : Form → ℕ
depth_form f = depth_in (frame f.kind) (deepest_of f.parts) (deepest_of f.seq.items) (deepest_line f.seq.items)

-- of the lines of a file
abbrev pub depth_items : List Item → ℕ
depth_items [] = 0
depth_items (i.Block texts ∷ items) = depth_items items
depth_items (i.Stmt x ∷ items) = max (depth_line x) (depth_items items)
