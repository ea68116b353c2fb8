use Rattle.bz_passes.proofs.Words.{◌≡◌, drop, has_newer_node, list_any}
use Rattle.bz_passes.proofs.newer.+find.Given as goal

abbrev pub invariant-have_newer_nodes-loop-x : goal.invariant-have_newer_nodes-loop-x
invariant-have_newer_nodes-loop-x l = list_any has_newer_node (drop l.x-index l.exprs) ≡ list_any has_newer_node l.fn.exprs
