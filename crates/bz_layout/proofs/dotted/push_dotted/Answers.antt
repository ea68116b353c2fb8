use Rattle.std.proofs.Common.{arith, sym, ◌∙◌}
use Rattle.bz_layout.proofs.JoinedNames.{front_turn, leaves_turn, next_turn, all_turned}
use Rattle.bz_layout.proofs.dotted.push_dotted.Goals as goal

pub loop-front-preserved : goal.loop-front-preserved
loop-front-preserved c = λ mode.
    front_turn mode (λ f. f.now) c.args.margin c.args.form.now c.in-Some.front.now c.loop-front.outer.items c.push.new.self.items c.loop-front.at c.in_ok-push.ensures.items (c.loop-front.invariant mode)
    (c.in-Some.ensures.row mode c.args.margin)

pub loop-next-init : goal.loop-next-init
loop-next-init c = λ mode.
    leaves_turn mode c.args.form.now c.loop-front.at.now c.as_slice-names.result.now c.args.margin _ _ _ c.first_text.result.now _ c.as_slice-names.ensures (sym c.are_tokens.ensures ∙ c.if-not-are_tokens.false) (c.loop-front.invariant mode)
    c.first_text.ensures c.in_ok-push_bytes.ensures c.in_ok-push_past_front.ensures

pub loop-next-preserved : goal.loop-next-preserved
loop-next-preserved c = λ mode.
    next_turn mode (λ f. f.now) c.args.margin _ _ _ c.loop-next.outer.items c.pop.new.self.items c.in-Some-pop.next c.in-Some-pop.ensures.items (c.loop-next.invariant mode) c.in_ok-push_past_front-2.ensures

pub returns-clause-dotted : goal.returns-clause-dotted
returns-clause-dotted c _ = λ mode. all_turned mode (λ f. f.now) c.args.margin _ c.loop-next.out c.loop-next.outer.items (omega (arith, c.loop-next.outer.ok, c.in_default-pop.ensures.cases.0)) (c.loop-next.invariant mode)
