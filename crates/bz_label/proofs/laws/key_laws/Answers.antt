use Rattle.bz_label.proofs.{Orders.key_total, Orders.key_ties, Rows.seven_keys, Rows.piece_rows, Rows.table_rows}
use Rattle.bz_label.proofs.laws.key_laws.Goals as goal

pub returns-clause-total : goal.returns-clause-total
returns-clause-total c = let keys = seven_keys in let pieces = piece_rows in let tables = table_rows in key_total

pub returns-clause-ties : goal.returns-clause-ties
returns-clause-ties c = key_ties
