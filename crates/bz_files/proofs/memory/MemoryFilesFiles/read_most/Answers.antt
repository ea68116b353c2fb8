use Rattle.bz_files.proofs.Words.{plan_in, refl}
use Rattle.bz_files.proofs.Plans.{goes_on}
use Rattle.bz_files.proofs.memory.MemoryFilesFiles.read_most.Goals as goal

pub returns-in-Ok-clause-planned : goal.returns-in-Ok-clause-planned
returns-in-Ok-clause-planned c =
    goes_on (plan_in c.args.self.now) (plan_in c.reads.new.self) _ refl c.reads.ensures.next (c.reads.ensures.goes c.if-not-reads.false) tt
