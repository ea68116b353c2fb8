use Rattle.bz_label.proofs.{Rows.word_rows, TargetReadings.target_once}
use Rattle.bz_label.proofs.laws.one_target.Goals as goal

pub returns : goal.returns
returns c = let worked = word_rows in target_once c.args.text.now c.args.one.now c.args.other.now c.requires.first c.requires.second
