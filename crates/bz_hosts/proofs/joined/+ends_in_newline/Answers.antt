use Rattle.bz_hosts.proofs.Words.{◌∙◌, bytes_eq-Decides, sym}
use Rattle.bz_hosts.proofs.JoinedFiles.{leaf_newline, node_newline}
use Rattle.bz_hosts.proofs.joined.+ends_in_newline.Goals as goal

pub returns-in-Leaf : goal.returns-in-Leaf
returns-in-Leaf t c h =
    leaf_newline c.args.part.now c.in-Leaf.leaf c.in-Leaf.is
    (sym c.as_slice.ensures ∙ ((bytes_eq-Decides c.as_slice.result.now c.as_slice-in-Leaf.result.now).0 (sym c.eq.ensures ∙ h) ∙ c.as_slice-in-Leaf.ensures))

pub returns-in-Some : goal.returns-in-Some
returns-in-Some t c h = node_newline c.args.part.now c.in-Node.node _ c.in-Some.field-0-1.now c.in-Some.last.now c.in-Node.is c.as_slice-in-Node.ensures c.in-Some.ensures.cases.0 (c.ends_in_newline.ensures h)
