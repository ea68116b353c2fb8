use Rattle.bz_hosts.proofs.Words.{IsProper, subst, sym}
use Rattle.bz_hosts.proofs.ProperViews.{views_proper}
use Rattle.bz_hosts.proofs.viewing.into_front.Goals as goal

pub invariant_of-result : goal.invariant_of-result
invariant_of-result c = subst IsProper (sym c.in_ok-items.ensures.items) (views_proper c.tree.inside.root c.tree.invariant.0)
