use Rattle.bz_files.proofs.Words.{ap, plan_in, Some}
use Rattle.bz_files.specs.declared.memory.MemoryFiles.{MemoryFiles}
use Rattle.bz_files.proofs.Plans.{goes_on}
use Rattle.bz_files.proofs.memory.MemoryFilesFiles.create.Goals as goal

pub returns-in-Ok-clause-planned : goal.returns-in-Ok-clause-planned
returns-in-Ok-clause-planned c = goes_on (plan_in c.args.self.now) (plan_in c.goes_on.new.self) _ (ap (λ (m : MemoryFiles). Some (plan_in m)) c.make.ensures.same)
    c.goes_on.ensures.next (c.goes_on.ensures.goes c.if-not-goes_on.false) tt
