use Rattle.bz_layout.proofs.Words.{arith, common_steps, drop, HasNext, refl}
use Rattle.bz_layout.proofs.{LineWindows.each_between, Staying.advanced, Staying.stay_turn}
use Rattle.bz_layout.proofs.writer.advance.Goals as goal

pub loop-at-preserved : goal.loop-at-preserved
loop-at-preserved c = λ all before many same each r.
    stay_turn _ _ before c.args.items.now c.args.count c.loop-at.at c.count_lines.result _ c.index-items-at.result c.loop-at-test.true c.requires c.index-items-at.is
    c.in_ok-put_item.ensures.text c.in_ok-put_item.ensures.gap c.in_ok-put_item.ensures.opened c.count_lines.ensures c.place_past-writer-in-loop-at.ensures many same (c.loop-at.invariant all before many same each r)

pub returns-then-not-branch-clause-long : goal.returns-then-not-branch-clause-long
returns-then-not-branch-clause-long c = λ no_ all before many same each r.
    c.in_ok-close.ensures.long c.if-not-branch.true c.args.parts.now all _ _ (c.loop-at.invariant all before many same each r).lines

pub returns-then-branch-clause-fits : goal.returns-then-branch-clause-fits
returns-then-branch-clause-fits c = λ yes_ all before many same each r.
    let has : HasNext c.loop-at.writer.window.gap.items (drop c.loop-at.at c.args.items.now) (drop c.loop-at.writer.part c.args.parts.now) = grind (arith, common_steps) in
    advanced c.loop-at.writer c.close.new.writer _ c.args.items.now c.loop-at.at c.args.count c.lines_in.result _ c.loop-at-test.true c.requires
    (λ left rest at. c.in_ok-close.ensures.closed c.if-not-branch.false c.args.parts.now all left rest at) (c.in_ok-close.ensures.shut c.if-not-branch.false) c.in_ok-close.ensures.gap c.in_ok-close.ensures.part
    has
    refl refl c.in_ok-pass_over.ensures (c.lines_in.ensures (each_between _ c.args.count c.loop-at.at before c.args.items.now c.loop-at-test.true same each)) c.place_past-writer.ensures before many same (c.loop-at.invariant all before many same each r)
