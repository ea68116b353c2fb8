use Rattle.bz_value.proofs.Words.{◌+◌, ◌<◌, ◌∙◌, ◌≡◌, ap, arith, Expr, Form, get_or, length, List, refl, sym, take, take_more_same, ℕ}
use Rattle.bz_value.proofs.+same.Goals as goal

same_next : (a b : List Expr) (i : ℕ) (x y : Expr) → i < length a → length a ≡ length b → x ≡ get_or a i x → y ≡ get_or b i y → x ≡ y → take i a ≡ take i b → take (i + 1) a ≡ take (i + 1) b
same_next a b i x y h as_long at_a at_b same so_far =
    take_more_same a b i x h (omega arith) so_far (sym at_a ∙ (same ∙ (at_b ∙ ap (λ d. get_or b i d) (sym same))))

pub same::same_exprs-loop-i-preserved : goal.same::same_exprs-loop-i-preserved
same::same_exprs-loop-i-preserved t c =
    same_next c.args.a.now c.args.b.now c.loop-i.i c.index-a-i.result c.index-b-i.result c.loop-i-test.true c.if-a-b.false c.index-a-i.is c.index-b-i.is (c.if-not-equals.ensures.0 refl) c.loop-i.invariant

form_is : (a b : Form) → a.kind ≡ b.kind → a.parts ≡ b.parts → a.seq ≡ b.seq → a.open_break ≡ b.open_break → a.comments ≡ b.comments → a ≡ b
form_is a b kinds parts seqs breaks comments =
    ap (λ z. let f : Form = record { kind = z; parts = a.parts; seq = a.seq; open_break = a.open_break; comments = a.comments } in f) kinds ∙
    (ap (λ z. let f : Form = record { kind = b.kind; parts = z; seq = a.seq; open_break = a.open_break; comments = a.comments } in f) parts ∙
    (ap (λ z. let f : Form = record { kind = b.kind; parts = b.parts; seq = z; open_break = a.open_break; comments = a.comments } in f) seqs ∙
    (ap (λ z. let f : Form = record { kind = b.kind; parts = b.parts; seq = b.seq; open_break = z; comments = a.comments } in f) breaks ∙
    ap (λ z. let f : Form = record { kind = b.kind; parts = b.parts; seq = b.seq; open_break = b.open_break; comments = z } in f) comments)))

pub value::Form::equals-returns : goal.value::Form::equals-returns
value::Form::equals-returns t c =
    let head = c.has_head_of.ensures.0 c.if-not-has_head_of.false in
    let parts = sym c.as_slice.ensures ∙ (c.same_exprs.ensures.0 c.if-not-same_exprs.false ∙ c.as_slice-2.ensures) in
    (λ h. form_is c.args.self.now c.args.other.now head.0 parts (c.equals.ensures.0 h) head.1 head.2, λ e. c.equals.ensures.1 (ap (λ (f : Form). f.seq) e))
