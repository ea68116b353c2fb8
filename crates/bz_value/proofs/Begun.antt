-- An expression that is proper along a line is proper at its start: neither is inside brackets.
use Rattle.bz_value.proofs.Words.{◌∙◌, ◌≡◌, after_expr, after_node, ap, Bool, closes, end_of-Expr, ends, Expr, following_token, Form', frame, is_binary, Kind, Kind as k, more_of-Expr, onward, opens, plain, ProperBy, ProperHeadBy, ProperRowBy, refl, Role, role, Row_of-Expr, Shape, Spot, sym, Token}
use Rattle.bz_value.proofs.FormParts.{framed}

token_same : (t : Role) (outer outer' here here' : Spot) → onward outer ≡ onward outer' → onward here ≡ onward here' → following_token t outer here ≡ following_token t outer' here'
token_same opens outer outer' here here' e f = refl
token_same closes outer outer' here here' e f = e
token_same ends outer outer' here here' e f = refl
token_same plain outer outer' here here' e f = f

node_same : (kind : Kind) (here here' : Spot) → onward here ≡ onward here' → after_node kind here ≡ after_node kind here'
node_same k.Line here here' f = refl
node_same k.Def here here' f = refl
node_same k.IfStmt here here' f = refl
node_same k.ForStmt here here' f = refl
node_same k.Suite here here' f = refl
node_same _ here here' f = f

after_same : (x : Expr) (outer outer' here here' : Spot) → onward outer ≡ onward outer' → onward here ≡ onward here' → after_expr outer here x ≡ after_expr outer' here' x
after_same (Token t) outer outer' here here' e f = token_same (role t.class t.text) outer outer' here here' e f
after_same (Form' kind s parts s' items end split open_break comments) outer outer' here here' e f = node_same kind here here' f

module _ (grammar : Kind → Shape) where
  mutual
    pub moved_expr : (x : Expr) (here here' : Spot) → onward here ≡ onward here' → ProperBy grammar here x → ProperBy grammar here' x
    moved_expr (Token t) here here' f h = h
    moved_expr (Form' kind s parts s' items end split open_break comments) here here' f h = (
      h.0,
      framed (frame kind)
          (λ g. (moved_row _ parts (is_binary kind) here here' here here' f f g.0, g.1, g.2, g.3, g.4))
          (λ g. (moved_head _ parts here here' f g.0, g.1, g.2, g.3))
          (λ g. g)
          h.1,
    )

    moved_row : (m : _) (r : Row_of-Expr m) (binary : Bool) (outer outer' here here' : Spot) → onward outer ≡ onward outer' → onward here ≡ onward here' → ProperRowBy grammar binary outer here r → ProperRowBy grammar binary outer' here' r
    moved_row m end_of-Expr binary outer outer' here here' e f h = tt
    moved_row m (more_of-Expr x rest) binary outer outer' here here' e f h =
        let same = after_same x outer outer' here here' e f in (
          moved_expr x here here' f h.0,
          h.1,
          λ b. ((h.2 b).0, sym same ∙ (h.2 b).1),
          moved_row _ rest binary outer outer' (after_expr outer here x) (after_expr outer' here' x) e (ap onward same) h.3,
        )

    moved_head : (m : _) (r : Row_of-Expr m) (here here' : Spot) → onward here ≡ onward here' → ProperHeadBy grammar here r → ProperHeadBy grammar here' r
    moved_head m end_of-Expr here here' f h = tt
    moved_head m (more_of-Expr x rest) here here' f h = (moved_expr x here here' f h.0, h.1, moved_head _ rest here here' f h.2)
