use Rattle.bz_label.proofs.{LabelFunctions.label_once, Rows.label_rows}
use Rattle.bz_label.proofs.laws.one_label.Goals as goal

pub returns : goal.returns
returns c = let worked = label_rows in label_once c.args.current.now c.args.text.now c.args.one.now c.args.other.now c.requires.first c.requires.second
