-- What is proper by the grammar of values, and is in a line, is proper by the grammar of lines: it holds no suite.
use Rattle.bz_hosts.proofs.Words.{[], ◌++◌, ◌∷◌, ◌≡◌, after_expr, AllByRecursion, Bool, bzl_shape, compound, each_with_comma, end_of-Expr, Expr, Fits, Form', Frame, frame, in_frame, is_binary, is_inner_frame, IsNonterminal, line_shape, List, more_of-Expr, no_such, Part, ProperBy, ProperHeadBy, ProperItemsBy, ProperRowBy, root, roots, row, row_in, Row_of-Expr, sequence, Spot, Token, true, whole_shape, Within}
use Rattle.bz_hosts.proofs.InnerParts.{is_inner, inner_kind, inner_parts, inner_bzl, inner_line, inner_framed}
use Rattle.bz_hosts.proofs.SeenParts.{all_parted}

-- an expression in a line: a token, or a form of a kind that may be inside a line
abbrev pub InExpr : Expr → Type 0
InExpr (Token t) = Unit {0}
InExpr (Form' kind s parts s' items end split open_break comments) = inner_kind kind ≡ true

rooted : (x : Expr) → is_inner (root x) ≡ true → InExpr x
rooted (Token t) h = tt
rooted (Form' kind s parts s' items end split open_break comments) h = h

abbrev pub AreInner : List Part → Type 0
AreInner xs = AllByRecursion (λ x. is_inner x ≡ true) xs

with_commas : (xs ys : List Part) → AreInner (each_with_comma xs ++ ys) → AreInner xs
with_commas [] ys h = tt
with_commas (x ∷ xs) ys h = (h.0, with_commas xs ys h.1.1)

-- of a form whose row, brackets and commas put back, is inside a line, by its frame
pub framed_inner : (f : Frame) (xs ys : List Part) (A B C A' B' C' : Type 0) → is_inner_frame f ≡ true → AreInner (row_in f xs ys) → (AreInner xs → A → A') → (AreInner xs → AreInner ys → B → B') → in_frame f A B C → in_frame f A' B' C'
framed_inner row xs ys A B C A' B' C' q i a b h = a i h
framed_inner (sequence opener closer) xs ys A B C A' B' C' q i a b h = let w = all_parted (λ x. is_inner x ≡ true) xs _ i in b w.0 (with_commas ys _ w.1.1) h
framed_inner compound xs ys A B C A' B' C' q i a b h = no_such q

mutual
  pub narrow_expr : (here : Spot) (x : Expr) → InExpr x → ProperBy whole_shape here x → ProperBy line_shape here x
  narrow_expr here (Token t) i h = h
  narrow_expr here (Form' kind s parts s' items end split open_break comments) i h =
      let fits : Fits IsNonterminal (bzl_shape kind) (row_in (frame kind) (roots parts) (roots items)) = inner_bzl kind i _ h.0 in (
        inner_line kind i _ fits,
        framed_inner (frame kind) (roots parts) (roots items) _ _ _ _ _ _ (inner_framed kind i) (inner_parts kind i _ fits)
            (λ v g. (narrow_row (is_binary kind) here here _ parts v g.0, g.1, g.2, g.3, g.4))
            (λ v w g. (narrow_head here _ parts v g.0, narrow_items _ items w g.1, g.2, g.3))
            h.1,
      )

  pub narrow_row : (binary : Bool) (outer here : Spot) (m : _) (r : Row_of-Expr m) → AreInner (roots r) → ProperRowBy whole_shape binary outer here r → ProperRowBy line_shape binary outer here r
  narrow_row binary outer here m end_of-Expr i h = tt
  narrow_row binary outer here m (more_of-Expr x rest) i h = (narrow_expr here x (rooted x i.0) h.0, h.1, h.2, narrow_row binary outer (after_expr outer here x) _ rest i.1 h.3)

  pub narrow_head : (here : Spot) (m : _) (r : Row_of-Expr m) → AreInner (roots r) → ProperHeadBy whole_shape here r → ProperHeadBy line_shape here r
  narrow_head here m end_of-Expr i h = tt
  narrow_head here m (more_of-Expr x rest) i h = (narrow_expr here x (rooted x i.0) h.0, h.1, narrow_head here _ rest i.1 h.2)

  pub narrow_items : (m : _) (r : Row_of-Expr m) → AreInner (roots r) → ProperItemsBy whole_shape r → ProperItemsBy line_shape r
  narrow_items m end_of-Expr i h = tt
  narrow_items m (more_of-Expr x rest) i h = (narrow_expr Within x (rooted x i.0) h.0, h.1, h.2, narrow_items _ rest i.1 h.3)
