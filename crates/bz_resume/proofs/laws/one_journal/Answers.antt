use Rattle.bz_resume.proofs.Outcomes.{one_journal}
use Rattle.bz_resume.proofs.laws.one_journal.Goals as goal

pub returns : goal.returns
returns c bytes h es g fs k l = let s = one_journal bytes h es g fs k l in (s.history, s.steps)
