use Rattle.bz_resume.proofs.Words.{as_taken, NoTree, Reads, StepsAgree, subst, sym}
use Rattle.bz_resume.proofs.Loops.{agrees_of, when_some}
use Rattle.bz_resume.proofs.replaying.agree.Goals as goal

pub returns : goal.returns
returns c =
    let text = c.args.text.now in
    agrees_of (λ z. StepsAgree z (as_taken c.args.way c.args.steps.now) (as_taken c.args.way c.args.digests.now)) text c.tree.inside.root c.in_ok-agrees.agrees
    (subst (Reads text) (sym c.tree.view_is) (when_some (NoTree text) (Reads text) c.in_ok-tree.field-0 c.in-Some.tree c.in-Some.is c.in_ok-tree.ensures)) c.in_ok-agrees.ensures
