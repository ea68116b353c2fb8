use Rattle.bz_token.proofs.Words.{◌∙◌, ap, is_in_string, sym}
use Rattle.bz_token.proofs.Opening.{answered, stuck, moved, at_end}
use Rattle.bz_token.proofs.scan.opens_string.Goals as goal

pub bytes-preserved : goal.bytes-preserved
bytes-preserved c = c.bytes.invariant ∙ moved _ _ _ _ c.bytes-test.true (sym c.in-Some.ensures)

pub returns-in-None : goal.returns-in-None
returns-in-None c = answered _ _ (c.is_in_string.ensures ∙ ap is_in_string (sym (c.bytes.invariant ∙ stuck _ _ _ c.bytes-test.true (sym c.in-None.ensures))))

pub returns : goal.returns
returns c = answered _ _ (c.is_in_string-2.ensures ∙ ap is_in_string (sym (c.bytes.invariant ∙ at_end _ _ _ c.bytes-test.false)))
