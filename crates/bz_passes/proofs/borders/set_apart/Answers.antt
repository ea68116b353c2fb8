use Rattle.bz_passes.proofs.Words.{◌+◌, ◌∙◌, ◌≤◌, AreWithin, length, subst, sym}
use Rattle.bz_passes.proofs.Joining.{joined_apart, joined_within}
use Rattle.bz_passes.proofs.borders.set_apart.Goals as goal

pub widened-requires : goal.widened-requires
widened-requires c =
    subst (λ w. w.from + w.come ≤ length c.args.items.now) (sym c.in_ok-all.ensures)
    (joined_within c.in-Some.first.now c.in-Some.others.now c.args.items.now
    (subst (λ ws. AreWithin ws c.args.items.now) (sym c.as_slice-2.ensures ∙ c.in-Some.ensures.cases.0) c.requires)).0

pub returns : goal.returns
returns c =
    joined_apart c.args.windows.now c.from_vec.result c.in-Some.others.now c.in-Some.first.now c.in_ok-all.all c.in_ok-wide.wide c.args.items.now
    (sym c.as_slice-2.ensures ∙ c.in-Some.ensures.cases.0) c.in_ok-all.ensures c.in_ok-wide.ensures (c.from_vec.ensures ∙ c.in_ok-from_slice.ensures.items)
