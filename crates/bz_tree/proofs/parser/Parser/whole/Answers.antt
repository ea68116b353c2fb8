use Rattle.std.proofs.Common.{refl}
use Rattle.bz_tree.proofs.{Climbs.handed_on, Blocks.file_no_rows, Blocks.file_no_end, Blocks.file_more, Blocks.file_made}
use Rattle.bz_tree.proofs.parser.Parser.whole.Goals as goal

pub returns-in_err-statements-clause-err : goal.returns-in_err-statements-clause-err
returns-in_err-statements-clause-err c = handed_on _ _ _ _ c.from_residual.ensures.1 c.in_err-statements.ensures.err (λ n. file_no_rows _ _ n)

pub returns-in_err-_end-clause-err : goal.returns-in_err-_end-clause-err
returns-in_err-_end-clause-err c = handed_on _ _ _ _ c.from_residual-in_err-_end.ensures.1 c.in_err-_end.ensures.err (λ n. file_no_end _ _ _ _ c.in_ok-statements.ensures.ok.1 n)

pub returns-then-not-is_empty-clause-err : goal.returns-then-not-is_empty-clause-err
returns-then-not-is_empty-clause-err c = file_more _ _ _ _ c.in_ok-statements.ensures.ok.1 _ _ c.in_ok-_end.ensures.ok.1 _ c.is_empty.ensures c.if-not-is_empty.true

pub returns-clause-ok : goal.returns-clause-ok
returns-clause-ok c = file_made _ _ _ _ c.in_ok-statements.ensures.ok.1 _ _ c.in_ok-_end.ensures.ok.1 _ _ _ _ _ c.is_empty.ensures c.if-not-is_empty.false c.requires.first c.in_ok-statements.ensures.ok.2 c.in_ok-_end.ensures.ok.2 refl
