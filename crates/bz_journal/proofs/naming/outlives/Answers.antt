use Rattle.bz_journal.proofs.Words.{IfSome, Index, IsIndexOf, Option, refl, subst}
use Rattle.bz_journal.proofs.NamedWindows.{index_outlives}
use Rattle.bz_journal.proofs.naming.outlives.Goals as goal

pub returns-in-Some : goal.returns-in-Some
returns-in-Some c = λ before over own.
    index_outlives c.in-Some.index c.args.windows.now before c.args.items.now (c.if-all_listed.ensures refl) over
    (subst (λ (names : Option Index). IfSome names (λ index. IsIndexOf index before)) c.in-Some.is own)
