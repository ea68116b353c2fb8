use Rattle.bz_resume.proofs.Words.{AllByRecursion, IsAloneAt, IsTouchedAlone, take}
use Rattle.bz_resume.proofs.touching.are_made_alone.Given as goal

abbrev pub invariant-loop-edit : goal.invariant-loop-edit
invariant-loop-edit l = AllByRecursion (IsTouchedAlone l.parts) (take l.edit-index l.edits) × IsAloneAt l.parts l.known
