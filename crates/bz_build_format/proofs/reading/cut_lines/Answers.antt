use Rattle.bz_build_format.proofs.Words.{◌+◌, ◌-◌, arith, drop, IsPutAmong, length, length-take, PartWindow, refl, subst, take}
use Rattle.bz_build_format.proofs.Windowed.{cut_so, less_kept, put_so}
use Rattle.bz_build_format.proofs.reading.cut_lines.Goals as goal

pub loop-preserved : goal.loop-preserved
loop-preserved c =
    less_kept _ c.split_at.result.1.now c.loop.count c.shared-at.result.1.now c.in_ok-middle.middle.now c.loop.invariant.0 c.split_at.ensures.back c.in_ok-middle.ensures.some c.in_ok-middle.ensures.text

pub returns-in-loop : goal.returns-in-loop
returns-in-loop c =
    let parts = c.args.parts.now in
    let start = c.args.from + c.shared-at.result.0 in
    let left = take (c.args.reach - start) (drop start parts) in
    let gone = length left - c.loop.count in
    let window : PartWindow = record { from = start; gone = gone; parts = c.in-Some.lines } in
    subst (λ s. IsPutAmong c.args.reach parts window s)
    (cut_so c.args.from c.shared-at.result.0 c.loop.count c.args.reach parts left c.args.text.now c.shared-at.result.1.now c.loop.middle.now c.shared-at.ensures.within c.requires.within c.requires.reach refl c.loop.invariant.0
    c.shared-at.ensures.text c.loop.invariant.1)
    (put_so c.lines_join.ensures.build c.lines_split.ensures c.args.reach start gone parts c.in-Some.lines c.loop.middle.now
    (omega (arith, length-take (c.args.reach - start) (drop start parts), c.shared-at.ensures.within, length-take (c.args.reach - c.args.from) (drop c.args.from parts))) c.requires.reach c.requires.legal
    (c.are_whole_lines.ensures c.if-not-are_whole_lines.false)
    (c.are_whole_lines-in-loop.ensures c.if-are_whole_lines.true)
    c.in-Some.ensures)
