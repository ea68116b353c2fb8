use Rattle.bz_passes.proofs.Words.{arith, common_steps, IsMoved, IsProper, subst}
use Rattle.bz_passes.proofs.Single.{moved_proper}
use Rattle.bz_passes.proofs.windows.move_back.Goals as goal

pub invariant_of-file-2 : goal.invariant_of-file-2
invariant_of-file-2 c =
    let moved : IsMoved c.args.from c.args.to c.args.file.now c.from_vec.result = λ item rest here. grind (arith, common_steps) in
    moved_proper c.args.from c.args.to c.args.file.now c.from_vec.result c.requires.within moved (subst IsProper c.file.view_is c.file.invariant)
