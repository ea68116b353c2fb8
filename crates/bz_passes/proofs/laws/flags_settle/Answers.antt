use Rattle.bz_value.specs.Frames.{sequence}
use Rattle.bz_passes.proofs.Inner.{same_split}
use Rattle.bz_passes.proofs.laws.flags_settle.Goals as goal

pub returns : goal.returns
returns c = λ kind split xs end. same_split (sequence 0 0) kind split xs end
