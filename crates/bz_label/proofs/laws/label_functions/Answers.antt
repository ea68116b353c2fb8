use Rattle.bz_label.proofs.LabelFunctions.{label_exact, same_exactly, is_shortened}
use Rattle.bz_label.proofs.Rows.{read_rows, same_rows, short_rows}
use Rattle.bz_label.proofs.laws.label_functions.Goals as goal

pub returns-clause-label : goal.returns-clause-label
returns-clause-label c = let read = read_rows in let same = same_rows in let short = short_rows in label_exact

pub returns-clause-same : goal.returns-clause-same
returns-clause-same c = same_exactly

pub returns-clause-shorter : goal.returns-clause-shorter
returns-clause-shorter c = is_shortened
