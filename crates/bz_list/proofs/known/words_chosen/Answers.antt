use Rattle.std.proofs.Common.{arith}
use Rattle.bz_list.proofs.KnownSteps.{chosen_words}
use Rattle.bz_list.proofs.known.words_chosen.Goals as goal

pub returns : goal.returns
returns c =
    chosen_words c.args.slot.current.now c.args.slot.attribute.now c.args.words.now c.loop-word.known c.loop-word.word-index c.loop-word.invariant (omega (arith, c.loop-word-test.false))
