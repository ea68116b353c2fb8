use Rattle.bz_token.proofs.Glances.{word_token}
use Rattle.bz_token.proofs.scan.name.Goals as goal

pub returns : goal.returns
returns c =
    let token = word_token c.args.text.now c.run-at.result c.requires.some c.requires.word c.run-at.ensures.above c.run-at.ensures.within c.run-at.ensures.stays (c.goes_on.ensures c.if-goes_on.false) in
    (token.0, rw c.keyword_or_name-class.ensures token.1)
