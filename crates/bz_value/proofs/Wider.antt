-- What is proper by a grammar is proper by a wider one; that of values is wider than that of lines.
use Rattle.bz_value.proofs.Words.{after_expr, Begins, Bool, end_of-Expr, Expr, Fits, Form', frame, is_alternative, is_binary, is_whole_statement, IsNonterminal, Kind, Kind as k, line_shape, List, more_of-Expr, Part, ProperBy, ProperHeadBy, ProperHeaderBy, ProperItemsBy, ProperLinesBy, ProperRowBy, Row_of-Expr, Shape, Spot, Token, whole_shape, Within}
use Rattle.bz_value.proofs.FormParts.{framed}

-- what has the shape of a kind by the one grammar has it by the other
abbrev pub IsWider : (Kind → Shape) → (Kind → Shape) → Type 0
IsWider narrow wide = (kind : Kind) (xs : List Part) → Fits IsNonterminal (narrow kind) xs → Fits IsNonterminal (wide kind) xs

module _ (narrow wide : Kind → Shape) (wider : IsWider narrow wide) where
  mutual
    pub wider_expr : (here : Spot) (x : Expr) → ProperBy narrow here x → ProperBy wide here x
    wider_expr here (Token t) h = h
    wider_expr here (Form' kind s parts s' items end split open_break comments) h = (
      wider kind _ h.0,
      framed (frame kind)
          (λ g. (wider_row (is_binary kind) here here _ parts g.0, g.1, g.2, g.3, g.4))
          (λ g. (wider_head here _ parts g.0, wider_items _ items g.1, g.2, g.3))
          (λ g. (wider_header _ parts g.0, g.1, wider_lines is_whole_statement _ items g.2, g.3, g.4, g.5))
          h.1,
    )

    wider_row : (binary : Bool) (outer here : Spot) (m : _) (r : Row_of-Expr m) → ProperRowBy narrow binary outer here r → ProperRowBy wide binary outer here r
    wider_row binary outer here m end_of-Expr h = tt
    wider_row binary outer here m (more_of-Expr x rest) h = (wider_expr here x h.0, h.1, h.2, wider_row binary outer (after_expr outer here x) _ rest h.3)

    wider_head : (here : Spot) (m : _) (r : Row_of-Expr m) → ProperHeadBy narrow here r → ProperHeadBy wide here r
    wider_head here m end_of-Expr h = tt
    wider_head here m (more_of-Expr x rest) h = (wider_expr here x h.0, h.1, wider_head here _ rest h.2)

    wider_items : (m : _) (r : Row_of-Expr m) → ProperItemsBy narrow r → ProperItemsBy wide r
    wider_items m end_of-Expr h = tt
    wider_items m (more_of-Expr x rest) h = (wider_expr Within x h.0, h.1, h.2, wider_items _ rest h.3)

    wider_header : (m : _) (r : Row_of-Expr m) → ProperHeaderBy narrow r → ProperHeaderBy wide r
    wider_header m end_of-Expr h = absurd h
    wider_header m (more_of-Expr head rest) h = (h.0, wider_expr Begins head h.1, h.2, wider_lines is_alternative _ rest h.3, h.4)

    wider_lines : (test : Expr → Bool) (m : _) (r : Row_of-Expr m) → ProperLinesBy narrow test r → ProperLinesBy wide test r
    wider_lines test m end_of-Expr h = tt
    wider_lines test m (more_of-Expr x rest) h = (h.0, wider_expr Begins x h.1, h.2, wider_lines test _ rest h.3)

pub values_wider : IsWider line_shape whole_shape
values_wider k.Def xs h = absurd h
values_wider k.IfStmt xs h = absurd h
values_wider k.ForStmt xs h = absurd h
values_wider k.Suite xs h = absurd h
values_wider _ xs h = h
