use Rattle.bz_layout.proofs.Words.{◌+◌, ◌∙◌, ◌≡◌, arith, flat_map, IsSome, length, refl, same_Some, spell_part, subst, sym}
use Rattle.bz_layout.proofs.Reaching.{within_fits, gone_turn}
use Rattle.bz_layout.proofs.changed.length_gone.Goals as goal

pub unwrap-total-requires : goal.unwrap-total-requires
unwrap-total-requires c =
    let turn = gone_turn c.args.windows.now c.loop-window.window-index c.window-item.result c.loop-window.rest.now _ _ _ c.loop-window.total _ c.loop-window-test.true c.window-item.is c.cut_parts.ensures.back c.cut_parts-in-loop-window.ensures.front c.cut_parts-in-loop-window.ensures.back c.loop-window.invariant.0 c.loop-window.invariant.1 in
    subst (λ o. IsSome o) (sym (c.length_with.ensures ∙ within_fits _ (omega (arith, turn.0)))) refl

pub loop-window-preserved : goal.loop-window-preserved
loop-window-preserved c =
    let turn = gone_turn c.args.windows.now c.loop-window.window-index c.window-item.result c.loop-window.rest.now _ _ _ c.loop-window.total _ c.loop-window-test.true c.window-item.is c.cut_parts.ensures.back c.cut_parts-in-loop-window.ensures.front c.cut_parts-in-loop-window.ensures.back c.loop-window.invariant.0 c.loop-window.invariant.1 in
    let same : c.unwrap-total.result ≡ c.loop-window.total + length (flat_map spell_part c.cut_parts-in-loop-window.result.0.now) =
    same_Some _ _ (sym c.unwrap-total.ensures ∙ (c.length_with.ensures ∙ within_fits _ (omega (arith, turn.0)))) in
    (omega (arith, turn.0, same), omega (arith, turn.1, same))
