use Rattle.bz_grammar.proofs.Newer.{older_kind}
use Rattle.bz_tree.proofs.stack.may_be_newer.Goals as goal

pub returns-else-newer-clause-kind : goal.returns-else-newer-clause-kind
returns-else-newer-clause-kind c e = older_kind _ _ c.is_newer.ensures e
