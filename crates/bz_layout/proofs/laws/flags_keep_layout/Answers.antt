use Rattle.bz_value.specs.LineShapes.{whole_grammar}
use Rattle.bz_layout.proofs.{Flagged.same_laid_out, Flagged.same_layout, FlaggedProper.flags_proper}
use Rattle.bz_layout.proofs.Words.{Lines}
use Rattle.bz_layout.proofs.laws.flags_keep_layout.Goals as goal

pub returns : goal.returns
returns c = λ items. (same_layout Lines.Counted items, same_laid_out Lines.Counted items, λ proper. flags_proper whole_grammar items proper, λ grammar proper. flags_proper grammar items proper)
