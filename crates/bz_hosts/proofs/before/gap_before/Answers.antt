use Rattle.bz_hosts.proofs.Words.{◌∙◌, ap, first_seen_gap, List, map, Part, seen}
use Rattle.bz_hosts.proofs.NodeViews.{gap_of_node}
use Rattle.bz_hosts.proofs.before.gap_before.Goals as goal

pub returns-in-Node : goal.returns-in-Node
returns-in-Node c = c.gap_at.ensures ∙ (ap (λ (ps : List Part). first_seen_gap (map seen ps)) c.as_slice-in-Node.ensures ∙ gap_of_node c.args.part.now c.in-Node.node c.in-Node.is)
