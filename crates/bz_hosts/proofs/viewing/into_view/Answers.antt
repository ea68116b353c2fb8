use Rattle.bz_hosts.proofs.Words.{◌∙◌, ap, IsProper, occurrences, subst, sym, times}
use Rattle.bz_hosts.proofs.ProperViews.{comments_kept, views_proper}
use Rattle.bz_hosts.proofs.viewing.into_view.Goals as goal

pub invariant_of-result : goal.invariant_of-result
invariant_of-result c = subst IsProper (sym c.in_ok-items.ensures.items) (views_proper c.tree.inside.root c.tree.invariant.0)

pub returns-clause-comments : goal.returns-clause-comments
returns-clause-comments c text = ap (times text) c.in_ok-items.ensures.items ∙ (comments_kept c.tree.inside.root c.tree.invariant.0 text ∙ ap (occurrences text) c.tree.view_is)
