use Rattle.bz_layout.proofs.Words.{[], ◌∙◌, ◌∷◌, ap, IsProper, subst, sym}
use Rattle.bz_layout.proofs.Changes.{of_tree}
use Rattle.bz_layout.proofs.LineWindows.{all_counted, all_lines, not_said, same_count}
use Rattle.bz_layout.proofs.changed.written.Goals as goal

pub returns-then-eq : goal.returns-then-eq
returns-then-eq c =
    of_tree c.args.tree.now c.args.file.now c.as_slice-items.result.now c.as_slice-parts.result.now c.args.windows.now c.args.windows.now c.saturating_sub-lines.result c.go_over.result (c.as_slice-items.ensures ∙ c.file.view_is)
    (c.as_slice-parts.ensures ∙ ap (λ n. n.parts) c.tree.view_is) (subst (λ xs. IsProper xs) c.file.view_is c.file.invariant, c.requires.build) c.saturating_sub-lines.ensures
    (λ before many over. all_counted c.args.windows.now before c.as_slice-items.result.now c.saturating_sub-lines.result many (same_count _ _ _ (sym c.if-eq.ensures) c.old_count.ensures) over) c.go_over.ensures

pub returns-then-eq-2 : goal.returns-then-eq-2
returns-then-eq-2 c =
    of_tree c.args.tree.now c.args.file.now c.as_slice-items.result.now c.as_slice-parts.result.now c.args.windows.now c.args.windows.now c.saturating_sub-lines.result c.go_over-then-eq-2.result (c.as_slice-items.ensures ∙ c.file.view_is)
    (c.as_slice-parts.ensures ∙ ap (λ n. n.parts) c.tree.view_is) (subst (λ xs. IsProper xs) c.file.view_is c.file.invariant, c.requires.build) c.saturating_sub-lines.ensures
    (λ before many over. (all_lines c.args.windows.now before c.as_slice-items.result.now (many ∙ same_count _ _ _ (sym c.if-eq-2.ensures) c.old_lines.ensures) over, not_said before)) c.go_over-then-eq-2.ensures

pub returns : goal.returns
returns c =
    of_tree c.args.tree.now c.args.file.now c.as_slice-items.result.now c.as_slice-parts.result.now c.args.windows.now (c.all_as_one-one.result ∷ []) c.saturating_sub-lines.result c.go_over-2.result (c.as_slice-items.ensures ∙ c.file.view_is)
    (c.as_slice-parts.ensures ∙ ap (λ n. n.parts) c.tree.view_is) (subst (λ xs. IsProper xs) c.file.view_is c.file.invariant, c.requires.build) c.saturating_sub-lines.ensures
    (λ before many over. (c.all_as_one-one.ensures.over before many over, not_said before)) c.go_over-2.ensures
