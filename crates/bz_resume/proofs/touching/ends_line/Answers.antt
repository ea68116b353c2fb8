use Rattle.bz_resume.proofs.Words.{◌∙◌, bytes_eq-Decides, sym}
use Rattle.bz_resume.proofs.Touched.{node_ends}
use Rattle.bz_resume.proofs.touching.ends_line.Goals as goal

pub returns-in-Leaf : goal.returns-in-Leaf
returns-in-Leaf c t =
    let own = c.as_slice-in-Leaf in
    let feed = c.as_slice-in-Leaf-2 in
    node_ends c.args.part.now c.in-Node.node c.as_slice.result.now c.in-Some.field-0-1.now c.in-Some.last.now c.in-Leaf.leaf c.in-Node.is c.as_slice.ensures
    c.in-Some.ensures.cases.0 c.in-Leaf.is (sym own.ensures ∙ (bytes_eq-Decides own.result.now feed.result.now).0 (sym c.eq.ensures ∙ t) ∙ feed.ensures)
