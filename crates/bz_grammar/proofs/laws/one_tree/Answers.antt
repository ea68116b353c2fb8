use Rattle.bz_grammar.proofs.Unique.{one_bzl_tree}
use Rattle.bz_grammar.proofs.laws.one_tree.Goals as goal

pub returns : goal.returns
returns c = rw (← c.tree.view_is, ← c.other.view_is) (one_bzl_tree _ _ c.tree.invariant.0 c.other.invariant.0)
