use Rattle.bz_grammar.proofs.Newer.{build_node, node_build, older_kind}
use Rattle.bz_grammar.proofs.older.+older.Goals as goal

pub has_newer-returns-else-is_newer-clause-found : goal.has_newer-returns-else-is_newer-clause-found
has_newer-returns-else-is_newer-clause-found t c h b = c.have_newer.ensures.found h (rw c.as_slice.ensures (node_build _ _ c.in-Node.is b))

pub has_newer-returns-else-is_newer-clause-none : goal.has_newer-returns-else-is_newer-clause-none
has_newer-returns-else-is_newer-clause-none t c e = build_node _ _ c.in-Node.is (older_kind _ _ c.is_newer.ensures c.if-is_newer.false) (rw (c.as_slice.ensures) at c.have_newer.ensures.none e)
