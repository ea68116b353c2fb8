use Rattle.std.proofs.Common.{◌≡◌, take}
use Rattle.bz_grammar.proofs.tree.+copy.Given as goal

abbrev pub invariant-copy_all-loop-part : goal.invariant-copy_all-loop-part
invariant-copy_all-loop-part l = l.copied.items ≡ take l.part-index l.parts
