use Rattle.bz_journal.proofs.Words.{[], ◌+◌, ◌∙◌, ap, arith, length, moved_from, Node, refl, sym, take_at}
use Rattle.bz_journal.proofs.MovedLines.{all_one, one_of, shifts}
use Rattle.bz_journal.proofs.moving.begins_after.Goals as goal

pub returns : goal.returns
returns c =
    let shifted =
    shifts c.args.windows.now c.window-item.result c.args.tree.now c.as_slice-parts.result.now c.as_slice.result.now c.line-item.result c.index-parts-place.result c.in_ok-gone.gone c.in_ok-gone.come
    (one_of c.args.windows.now c.window-item.result c.in-len1.len_at_least c.in-len1.len_below c.window-item.is) (c.as_slice-parts.ensures ∙ ap (λ (n : Node). n.parts) c.tree.view_is) c.requires.there c.as_slice.ensures
    (one_of c.as_slice.result.now c.line-item.result c.in-len1-as_slice.len_at_least c.in-len1-as_slice.len_below c.line-item.is) c.if-window-ne1.false c.index-parts-place.is c.in_ok-gone.ensures
    (all_one _ (c.if-not-hold_one_each.ensures refl) []) in
    let own = rw c.in_ok-begins.was at c.requires.begins in
    take_at c.move_from.new.lines _ (length c.in_ok-begins.begins) (omega (arith, c.move_from.auto.lines, ap length c.as_mut_slice.ensures.value))
    ∙ c.in_ok-move_from.ensures ∙ ap (moved_from (c.window-item.result.from + 1) c.in_ok-gone.gone c.in_ok-gone.come) (c.as_mut_slice.ensures.value ∙ own) ∙ sym shifted
