use Rattle.bz_journal_format.proofs.Words.{[], ◌≤◌, arith, Two}
use Rattle.bz_journal_format.proofs.kept.KeptLines.drop_past.Goals as goal

pub returns-then-past-clause-few : goal.returns-then-past-clause-few
returns-then-past-clause-few c =
    let none = c.new.ensures Two [] [] [] in
    let no_steps : c.new.result.steps ≤ 0 = none.few_steps in
    let no_digests : c.new.result.digests ≤ 0 = none.few_digests in
    (omega (arith, no_steps), omega (arith, no_digests))

pub returns-then-past-clause-first : goal.returns-then-past-clause-first
returns-then-past-clause-first c = λ v digests notes steps _. c.new.ensures v digests notes steps
