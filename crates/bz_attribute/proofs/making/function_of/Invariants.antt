use Rattle.bz_attribute.proofs.Words.{[], ◌+◌, ◌≡◌, dotted_after, full_stop, function_of, length, nat_eq, option_map_or, slice_split}
use Rattle.bz_attribute.proofs.making.function_of.Given as goal

-- the names so far, and those to come after them, are those of the kind
abbrev pub invariant-loop-rest : goal.invariant-loop-rest
invariant-loop-rest l = dotted_after l.function (option_map_or (λ rest. slice_split (λ byte. nat_eq byte full_stop) rest.now) l.rest []) ≡ function_of l.fn.kind

-- each turn leaves fewer bytes
abbrev pub decreases-loop-rest : goal.decreases-loop-rest
decreases-loop-rest l = option_map_or (λ rest. length rest.now + 1) l.rest 0
