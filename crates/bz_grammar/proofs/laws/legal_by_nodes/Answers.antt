use Rattle.bz_grammar.proofs.Both.{gaps_by_nodes, legal_by_nodes}
use Rattle.bz_grammar.proofs.laws.legal_by_nodes.Goals as goal

pub returns-clause-gaps : goal.returns-clause-gaps
returns-clause-gaps c = gaps_by_nodes

pub returns-clause-legal : goal.returns-clause-legal
returns-clause-legal c = legal_by_nodes
