use Rattle.std.proofs.Common.{refl}
use Rattle.bz_layout.proofs.JoinedNames.{past_turn}
use Rattle.bz_layout.proofs.dotted.push_past_front.Goals as goal

pub loop-at-preserved : goal.loop-at-preserved
loop-at-preserved c =
    past_turn _ _ _ _ c.args.form.now.kind c.args.form.now.open_break c.args.margin _ _ _ _ _ _ c.loop-at.invariant c.loop-at.auto.at c.loop-at-test.true refl c.index-row-at.is c.index-row-at-in-loop-at.is c.text_of.ensures c.in_ok-push_row_gap.ensures.gap c.in_ok-push_bytes.ensures
