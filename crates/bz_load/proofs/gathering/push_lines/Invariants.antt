use Rattle.std.proofs.Common.{◌≡◌, ◌++◌, drop}
use Rattle.bz_load.proofs.gathering.push_lines.Given as goal

abbrev pub invariant-loop-line : goal.invariant-loop-line
invariant-loop-line l = l.before ++ drop l.line-index l.lines ≡ l.fn.before ++ l.lines
