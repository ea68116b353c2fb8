use Rattle.bz_token.proofs.Glances.{string_token}
use Rattle.bz_token.proofs.scan.plain_string.Goals as goal

pub returns : goal.returns
returns c = string_token c.args.text.now c.run-at.result c.requires.opened c.if-at-lt2.false c.if-at-text.false c.run-at.ensures.stays c.if-text-at-ne34.false
