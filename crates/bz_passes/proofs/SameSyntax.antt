-- Settled flags change nothing that a compiler reads.
use Rattle.bz_passes.proofs.Words.{[], ◌∙◌, ◌∷◌, ◌≡◌, ap, each_syntax, each_with_flags, end_of-Expr, Expr, false, flags, Form, Form', frame, Item, Item as i, items-the_row-Expr, List, map, more_of-Expr, no_comments, program, refl, Row_of-Expr, settled_split, syntax_of, Token, with_flags}
use Rattle.bz_value.specs.declared.value.Expr.TheVariants as e
use Rattle.bz_passes.proofs.{Keeping.both, Parts.made, Parts.parts_after, Parts.items_after, Parts.parts_are, Parts.items_are}

syntax_row : (m : _) (r : Row_of-Expr m) → each_syntax r ≡ map syntax_of (items-the_row-Expr m r)
syntax_row m end_of-Expr = refl
syntax_row m (more_of-Expr x rest) = ap (λ z. syntax_of x ∷ z) (syntax_row _ rest)

pub syntax_Form : (f : Form) → syntax_of (e.Form f) ≡ e.Form (made f.kind (map syntax_of f.parts) (map syntax_of f.seq.items) [] false false no_comments)
syntax_Form f =
    both (λ p i. e.Form (made f.kind p i [] false false no_comments))
    (syntax_row _ (parts_after (e.Form f)).1 ∙ ap (map syntax_of) (parts_are f))
    (syntax_row _ (items_after (e.Form f)).1 ∙ ap (map syntax_of) (items_are f))

mutual
  pub flags_syntax : (x : Expr) → syntax_of (with_flags x) ≡ syntax_of x
  flags_syntax (Token t) = refl
  flags_syntax (Form' kind s parts s' items end split open_break comments) =
      syntax_Form (made kind (each_with_flags parts) (each_with_flags items) end (settled_split (frame kind) kind split (items-the_row-Expr _ items) end) open_break comments)
      ∙ both (λ p i. e.Form (made kind p i [] false false no_comments)) (row_syntax _ parts) (row_syntax _ items)

  row_syntax : (m : _) (r : Row_of-Expr m) → map syntax_of (each_with_flags r) ≡ each_syntax r
  row_syntax m end_of-Expr = refl
  row_syntax m (more_of-Expr x rest) = both (λ z zs. z ∷ zs) (flags_syntax x) (row_syntax _ rest)

pub flags_program : (items : List Item) → program (flags items) ≡ program items
flags_program [] = refl
flags_program (i.Block lines ∷ items) = flags_program items
flags_program (i.Stmt x ∷ items) = both (λ z zs. z ∷ zs) (flags_syntax x) (flags_program items)
