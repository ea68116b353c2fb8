use Rattle.bz_command.proofs.Words.{◌++◌, ◌≡◌, codes, drop, map, printed_body, spaced}
use Rattle.bz_command.proofs.printing.push_strings.Given as goal

abbrev pub invariant-loop-i : goal.invariant-loop-i
invariant-loop-i l = l.out.items ++ spaced (map printed_body (drop l.i l.items)) ≡ l.fn.out.items ++ (codes "[" ++ spaced (map printed_body l.items))
