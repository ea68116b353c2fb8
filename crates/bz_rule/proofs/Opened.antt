-- An expression by rows is the one by lists.
use Rattle.bz_rule.proofs.Words.{◌∙◌, ◌≡◌, ap, Bool, Bytes, Expr, Form, Form', HostComments, items-the_row-Expr, items_of, items_shown-the_row-Expr-0, Kind, List, parts_of, refl, sym, Token, with_items, with_parts}
use Rattle.bz_value.specs.declared.value.Seq.{Seq}
use Rattle.bz_value.specs.declared.value.Expr.TheVariants as e
use Rattle.bz_value.specs.declared.value.Expr.TheOpen as o
use Rattle.bz_value.specs.declared.value.Expr.TheViews.{roll-Expr, out-Expr, roll-out-Expr}

both : {X Y Z : Type 0} (f : X → Y → Z) {h h' : X} {i i' : Y} → h ≡ h' → i ≡ i' → f h i ≡ f h' i'
both f {h} {h'} {i} {i'} d e = ap (λ z. f z i) d ∙ ap (λ z. f h' z) e

-- a form by its fields
abbrev pub made : Kind → List Expr → List Expr → List Bytes → Bool → Bool → HostComments → Form
made kind parts items end split open_break comments = record { kind = kind; parts = parts; seq = record { items = items; end = end; split = split }; open_break = open_break; comments = comments }

abbrev opened : Expr → o.Expr-F Expr Form Seq
opened (Token t) = o.Token t
opened (Form' kind s parts s' items end split open_break comments) = o.Form (made kind (items-the_row-Expr _ parts) (items-the_row-Expr _ items) end split open_break comments)

opens : (x : Expr) → out-Expr x ≡ opened x
unfolding out-Expr denote.Hole.Carrier.out Rattle.bz_value.specs.declared.value.Expr.TheBlock.shown-the_row-Expr-0 denote.Hole.Carrier.shown
opens (Token t) = refl
opens (Form' kind s parts s' items end split open_break comments) =
    both (λ p i. o.Form (made kind p i end split open_break comments)) (items_shown-the_row-Expr-0 s parts) (items_shown-the_row-Expr-0 s' items)

-- an expression with the parts that it has, and with the items that it has
pub own_parts : (x : Expr) → with_parts (parts_of x) x ≡ x
own_parts (Token t) = refl
own_parts (Form' kind s parts s' items end split open_break comments) =
    sym (e.rolls-Form _) ∙ (ap roll-Expr (sym (opens (Form' kind s parts s' items end split open_break comments))) ∙ roll-out-Expr _)

pub own_items : (x : Expr) → with_items (items_of x) x ≡ x
own_items (Token t) = refl
own_items (Form' kind s parts s' items end split open_break comments) = own_parts (Form' kind s parts s' items end split open_break comments)
