use Rattle.bz_attribute.proofs.Words.{◌∙◌, ◌≡◌, ap, arith, Expr, get_or, is_attribute, length, on_value, sym}
use Rattle.bz_attribute.proofs.ArgumentPlaces.{first_written}
use Rattle.bz_attribute.proofs.arguments.swap_first.Goals as goal

pub returns-then-is_attribute-clause-arguments : goal.returns-then-is_attribute-clause-arguments
returns-then-is_attribute-clause-arguments c =
    let old : Expr = get_or c.loop-x.x-items c.loop-x.x-index c.x-item.result in
    let same : length c.loop-x.x-items ≡ length c.args.arguments.now = omega (arith, c.loop-x.auto.x-items, ap length c.as_mut_slice-x-items.ensures.value) in
    first_written (is_attribute c.args.name.now) (on_value (λ _. c.args.other.now)) c.loop-x.x-items c.args.arguments.now c.loop-x.x-index c.x-item.result _
    same (omega (arith, c.loop-x-test.true, c.loop-x.auto.x-items)) (sym c.is_attribute.ensures ∙ c.if-is_attribute.true) (c.swap_value.ensures.there ∙ ap (λ (value : Expr). on_value (λ _. value) old) c.loop-x.invariant.other)
    ∙ c.loop-x.invariant.arguments
