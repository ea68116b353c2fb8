use Rattle.bz_hint.proofs.Words.{◌≡◌, drop, first_refusing, option_copied, refuses}
use Rattle.bz_hint.proofs.refusing.first_refusing.Given as goal

abbrev pub invariant-loop-item : goal.invariant-loop-item
invariant-loop-item l =
    let passes = refuses l.work.command.now l.work.target.now.which l.work.current.now (option_copied l.work.found) in
    first_refusing passes (drop l.at l.work.lines.now) (drop l.item-index l.items) ≡ first_refusing passes l.work.lines.now l.items
