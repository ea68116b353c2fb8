use Rattle.bz_hosts.proofs.Words.{◌∙◌, add-one, ap, drop, is_split, map, seen, sym}
use Rattle.bz_hosts.proofs.NodeViews.{no_split_at}
use Rattle.bz_hosts.proofs.before.breaks_from.Goals as goal

pub loop-at-preserved : goal.loop-at-preserved
loop-at-preserved c = ap (λ k. is_split (map seen (drop k c.args.parts.now))) (add-one c.loop-at.at) ∙ (no_split_at c.args.parts.now c.loop-at.at (sym c.breaks_before.ensures ∙ c.if-breaks_before.false) ∙ c.loop-at.invariant)
