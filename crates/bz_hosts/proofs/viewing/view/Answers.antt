use Rattle.bz_hosts.proofs.Words.{[], ◌∙◌, ap, indented_lines_before, IsProper, items_from, map, occurrences, stated, subst, sym, times}
use Rattle.bz_hosts.proofs.ProperViews.{comments_kept, views_proper}
use Rattle.bz_hosts.proofs.viewing.view.Goals as goal

pub invariant_of-result : goal.invariant_of-result
invariant_of-result c = subst IsProper (sym (c.in_ok-items.ensures ∙ ap (λ ps. items_from (indented_lines_before (map stated ps) []) ps) c.as_slice.ensures)) (views_proper c.tree.inside.root c.tree.invariant.0)

pub returns-clause-comments : goal.returns-clause-comments
returns-clause-comments c text = ap (times text) (c.in_ok-items.ensures ∙ ap (λ ps. items_from (indented_lines_before (map stated ps) []) ps) c.as_slice.ensures) ∙ (comments_kept c.tree.inside.root c.tree.invariant.0 text ∙ ap (occurrences text) c.tree.view_is)
