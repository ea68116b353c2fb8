-- Sums of a number of each comment: of lists, and of a form by its lists.
use Rattle.bz_value.proofs.Words.{[], ◌++◌, ◌+◌, ◌∙◌, ◌∷◌, ◌≡◌, ap, arith, Bytes, end_of-Expr, Form, items-the_row-Expr, items_hidden-the_row-Expr-0, List, more_of-Expr, refl, Row_of-Expr, ℕ}
use Rattle.bz_value.specs.declared.value.Expr.TheVariants as e
use Rattle.bz_value.specs.Counted.{total, host_amount, amount, row_amount}
use Rattle.bz_value.proofs.FormParts.{parts_in, items_in}

-- ---- lists

module _ {X : Type 0} (n : X → ℕ) where
  pub append_total : (xs ys : List X) → total n (xs ++ ys) ≡ total n xs + total n ys
  append_total [] ys = omega arith
  append_total (x ∷ xs) ys = let h = append_total xs ys in omega arith

module _ (number : Bytes → ℕ) where
  -- ---- expressions

  row_total : (m : _) (r : Row_of-Expr m) → row_amount number r ≡ total (amount number) (items-the_row-Expr m r)
  row_total m end_of-Expr = refl
  row_total m (more_of-Expr x rest) = ap (λ a. amount number x + a) (row_total _ rest)

  -- what is in a form
  abbrev pub inner_amount : Form → ℕ
  inner_amount f = total (amount number) f.parts + (total (amount number) f.seq.items + total number f.seq.end)

  pub form_amount : (f : Form) → amount number (e.Form f) ≡ host_amount number f.comments + inner_amount f
  form_amount f =
      let ps = parts_in (e.Form f) in
      let qs = items_in (e.Form f) in
      let parts : row_amount number ps.1 ≡ total (amount number) f.parts = row_total ps.0 ps.1 ∙ ap (total (amount number)) (items_hidden-the_row-Expr-0 f.parts) in
      let items : row_amount number qs.1 ≡ total (amount number) f.seq.items = row_total qs.0 qs.1 ∙ ap (total (amount number)) (items_hidden-the_row-Expr-0 f.seq.items) in
      ap (λ a. host_amount number f.comments + (a + (row_amount number qs.1 + total number f.seq.end))) parts
      ∙ ap (λ a. host_amount number f.comments + (total (amount number) f.parts + (a + total number f.seq.end))) items
