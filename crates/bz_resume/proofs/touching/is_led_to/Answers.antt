use Rattle.bz_resume.proofs.Words.{AreLined, AreTouchedAlone, subst}
use Rattle.bz_resume.proofs.Touched.{led_to}
use Rattle.bz_resume.proofs.touching.is_led_to.Goals as goal

pub returns : goal.returns
returns c from tree is le good =
    led_to from c.args.node.now c.args.edits.now tree is (subst AreLined c.as_slice-parts.ensures (c.are_lined.ensures c.if-not-are_lined.false))
    (subst (λ ps. AreTouchedAlone ps c.args.edits.now) c.as_slice-parts.ensures (c.are_touched_alone.ensures good)) le
