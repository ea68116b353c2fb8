use Rattle.bz_attribute.proofs.Words.{◌∙◌, ◌≡◌, ap, Bytes, Expr, Expr as e, false, Form, Form', has_kind, is_attribute, Kind, Kind as k, List, refl, slice_index_or, Some, sym, true≢false}
use Rattle.bz_attribute.proofs.ArgumentForms.{value_taken}
use Rattle.bz_attribute.proofs.arguments.swap_value.Goals as goal

no_attribute : (name : Bytes) (x : Expr) → has_kind k.Named x ≡ false → is_attribute name x ≡ false
no_attribute name (e.Token t) not_named = refl
no_attribute name (Form' own s parts s' items end split open_break comments) not_named = rw not_named refl

pub returns-in-len3-up-clause-other : goal.returns-in-len3-up-clause-other
returns-in-len3-up-clause-other c name named some =
    let f : Form = c.in-Form.form in
    let third : Expr = c.index-third-2.result in
    ap Some (c.swap.ensures.y_after ∙ (ap (λ (parts : List Expr). slice_index_or parts 2 third) c.as_mut_slice.ensures.value ∙ ap (λ (g : Form). slice_index_or g.parts 2 third) c.in-Form.form-is))
    ∙ value_taken name f c.args.x.now third c.in-Form.is (sym (ap (has_kind k.Named) c.in-Form.is) ∙ (ap (λ (kind : Kind). has_kind kind c.args.x.now) (sym named) ∙ sym c.if-not-has_kind.ensures)) some

pub returns-then-not-has_kind-clause-other : goal.returns-then-not-has_kind-clause-other
returns-then-not-has_kind-clause-other c name named some =
    absurd (true≢false (sym some ∙ no_attribute name c.args.x.now (ap (λ (kind : Kind). has_kind kind c.args.x.now) (sym named) ∙ sym c.if-not-has_kind.ensures)))
