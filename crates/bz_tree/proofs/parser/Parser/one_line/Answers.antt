use Rattle.bz_tree.proofs.Climbs.{handed_on}
use Rattle.bz_tree.proofs.parser.Parser.one_line.Goals as goal

pub returns-in_err-part-clause-err : goal.returns-in_err-part-clause-err
returns-in_err-part-clause-err c = handed_on _ _ _ _ c.from_residual.ensures.1 c.in_err-part.ensures.err (λ n. n)

pub returns-clause-ok : goal.returns-clause-ok
returns-clause-ok c = (c.in_ok-part.ensures.ok.0, c.in_ok-part.ensures.ok.1, c.in_ok-part.ensures.ok.2)
