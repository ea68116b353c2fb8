use Rattle.std.proofs.Common.{◌∙◌, arith}
use Rattle.bz_layout.proofs.Pushing.{within, within_is}
use Rattle.bz_layout.proofs.draft.Draft.into_bytes.Goals as goal

pub returns : goal.returns
returns c = λ limit front bytes is.
    (within_is _ limit _ front bytes (c.self.view_is ∙ is) (omega (arith, c.len.ensures, c.if-len-limit.false)), within _ limit _ front bytes (c.self.view_is ∙ is) (omega (arith, c.len.ensures, c.if-len-limit.false)))
