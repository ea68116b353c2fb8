use Rattle.bz_buildozer.proofs.Words.{digits, inl, refl, text_read}
use Rattle.bz_buildozer.proofs.WorkedEnds.{found_first, found_second, found_none, settles, usage, whole}
use Rattle.bz_buildozer.proofs.laws.worked_runs.Goals as goal

pub returns-clause-parts : goal.returns-clause-parts
unfolding digits
returns-clause-parts c = (
  (refl, refl, refl),
  (refl, refl, refl, refl, refl, refl),
  (refl, refl, refl, refl, refl, refl, refl, refl, refl, refl),
  (refl, refl, refl, refl, refl, refl),
  (refl, refl, refl, refl, found_first, found_second, found_none, (λ folder. inl (refl, refl, (text_read, refl, refl))), refl, refl),
  settles,
)

pub returns-clause-usage : goal.returns-clause-usage
returns-clause-usage c = usage

pub returns-clause-whole : goal.returns-clause-whole
returns-clause-whole c = whole
