use Rattle.bz_hosts.proofs.Words.{[], ◌∙◌, ◌≡◌, ap, Bytes, first_seen_gap, List, map, MatchOption, Node, Part, seen, subst, sym}
use Rattle.bz_hosts.proofs.{NodeViews.gap_of_node, RowSteps.seen_here}
use Rattle.bz_hosts.proofs.before.+first_gap_at.Goals as goal

pub returns-in-Some-Node : goal.returns-in-Some-Node
returns-in-Some-Node t c =
    let part = c.in-Some-Node.field-0.now in
    subst (λ (bytes : Bytes). MatchOption c.first_gap_at.result ([] ≡ bytes) (λ gap. gap.now ≡ bytes))
    (ap (λ (ps : List Part). first_seen_gap (map seen ps)) (c.as_slice.ensures ∙ ap (λ (node : Node). node.parts) c.in-Some-Node.node-is) ∙ (gap_of_node part c.in-Some-Node.node c.in-Some-Node.field-0-is ∙ sym (ap first_seen_gap (seen_here c.args.parts.now c.args.at part c.in-Some-Node.ensures.lookup.3.0 c.in-Some-Node.ensures.lookup.1)))) c.first_gap_at.ensures
