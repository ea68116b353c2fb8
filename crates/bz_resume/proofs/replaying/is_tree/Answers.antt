use Rattle.bz_resume.proofs.Words.{◌∙◌, Node, NoTree, Reads, subst, sym}
use Rattle.bz_resume.proofs.Loops.{by_outline, when_some}
use Rattle.bz_resume.proofs.replaying.is_tree.Goals as goal

pub returns : goal.returns
returns c =
    let text = c.args.text.now in
    let root : Node = c.tree.inside.root in
    let reads = when_some (NoTree text) (Reads text) c.in_ok-tree.field-0 c.in-Some.tree c.in-Some.is c.in_ok-tree.ensures in
    let both = by_outline c.args.node.now root text c.as_slice-2.result.now c.as_slice.result.now c.eq.result (subst (Reads text) (sym c.tree.view_is) reads) c.requires
    (c.as_slice-2.ensures.value ∙ c.in_ok-outline.ensures) (c.as_slice.ensures.value ∙ c.in_ok-own.ensures) c.eq.ensures in
    record { fine = both.0; node = both.1 }
