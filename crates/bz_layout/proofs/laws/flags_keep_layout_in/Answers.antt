use Rattle.bz_value.specs.LineShapes.{whole_grammar}
use Rattle.bz_layout.proofs.{Flagged.same_laid_out, Flagged.same_layout, FlaggedProper.flags_proper_in}
use Rattle.bz_layout.proofs.laws.flags_keep_layout_in.Goals as goal

pub returns : goal.returns
returns c = λ lines items. (same_layout lines items, same_laid_out lines items, λ proper. flags_proper_in lines whole_grammar items proper, λ grammar proper. flags_proper_in lines grammar items proper)
