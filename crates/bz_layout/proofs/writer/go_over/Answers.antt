use Rattle.bz_layout.proofs.Words.{[], ◌+◌, ap, arith, drop, get_or, length, lines_from, refl, sym, take, Window}
use Rattle.bz_layout.proofs.{Changes.past_limit, LineWindows.within_next, Reaching.finished, Staying.over_next, Staying.over_none, Staying.over_last, Staying.over_turn}
use Rattle.bz_layout.proofs.writer.go_over.Goals as goal

abbrev none : Window
none = record { from = 0; gone = 0; come = 0 }

pub returns-then-not-branch : goal.returns-then-not-branch
returns-then-not-branch c = λ before is old proper over.
    let here = over_next c.loop-window.writer c.args.windows.now c.loop-window.window-index none c.loop-window.rest.now c.loop-window-test.true (c.loop-window.invariant.1 before is old proper over) in
    past_limit c.args.items.now proper.0 (c.in_ok-advance.ensures.long c.if-not-branch.true (lines_from [] c.args.items.now) here.0 (omega (arith, here.1.0.1)) (sym here.1.0.3) here.1.1 here.2)

pub loop-window-preserved : goal.loop-window-preserved
loop-window-preserved c =
    let next = within_next c.args.windows.now c.loop-window.window-index none c.loop-window.rest.now c.loop-window-test.true c.loop-window.invariant.0 in (
      rw c.split_window.ensures.past next.1,
      λ before is old proper over.
          over_turn c.loop-window.writer c.advance.new.writer c.put_items.new.writer (drop (c.loop-window.window-index + 1) c.args.windows.now) (get_or c.args.windows.now c.loop-window.window-index none)
          c.loop-window.rest.now c.split_window.result.2.now _ c.split_window.ensures.past
          (over_next c.loop-window.writer c.args.windows.now c.loop-window.window-index none c.loop-window.rest.now c.loop-window-test.true (c.loop-window.invariant.1 before is old proper over))
          (c.in_ok-advance.ensures.fits c.if-not-branch.false) c.place_past.ensures (λ xs at. c.in_ok-put_items.ensures c.args.parts.now (lines_from [] c.args.items.now) xs at),
    )

pub returns-then-not-branch-2 : goal.returns-then-not-branch-2
returns-then-not-branch-2 c = λ before is old proper over.
    let here = over_none c.loop-window.writer c.args.windows.now c.loop-window.window-index c.loop-window.rest.now (omega (arith, c.loop-window-test.false)) (c.loop-window.invariant.1 before is old proper over) in
    past_limit c.args.items.now proper.0 (c.in_ok-advance-2.ensures.long c.if-not-branch-2.true (lines_from [] c.args.items.now) here.0 (omega (arith, ap length here.1.0)) (ap (take (length c.loop-window.rest.now)) here.1.0) here.1.1 here.2)

pub returns-then-not-branch-3 : goal.returns-then-not-branch-3
returns-then-not-branch-3 c = λ before is old proper over.
    let end = c.in_ok-put_end.ensures (lines_from [] c.args.items.now)
    (over_last c.loop-window.writer c.advance-2.new.writer c.args.windows.now c.loop-window.window-index c.loop-window.rest.now (omega (arith, c.loop-window-test.false)) (c.loop-window.invariant.1 before is old proper over)
    (c.in_ok-advance-2.ensures.fits c.if-not-branch-2.false)) in
    past_limit c.args.items.now proper.0 (c.in_ok-close.ensures.long c.if-not-branch-3.true c.args.parts.now (lines_from [] c.args.items.now) end.0 end.0 end.1)

pub returns : goal.returns
returns c = λ before is old proper over.
    let end = c.in_ok-put_end.ensures (lines_from [] c.args.items.now)
    (over_last c.loop-window.writer c.advance-2.new.writer c.args.windows.now c.loop-window.window-index c.loop-window.rest.now (omega (arith, c.loop-window-test.false)) (c.loop-window.invariant.1 before is old proper over)
    (c.in_ok-advance-2.ensures.fits c.if-not-branch-2.false)) in
    finished (c.in_ok-close.ensures.shut c.if-not-branch-3.false) refl (c.in_ok-close.ensures.closed c.if-not-branch-3.false c.args.parts.now (lines_from [] c.args.items.now) end.0 end.0 end.1)
