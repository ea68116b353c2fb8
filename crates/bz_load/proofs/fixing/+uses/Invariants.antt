use Rattle.bz_load.proofs.Words.{◌||◌, ◌≡◌, Bytes, drop, knows_name, length, operand_among, operand_in}
use Rattle.bz_load.proofs.fixing.+uses.Given as goal

abbrev pub invariant-insert_each-loop-at : goal.invariant-insert_each-loop-at
invariant-insert_each-loop-at l = (text : Bytes) → (operand_among l.kind (length l.exprs) l.at text (drop l.at l.exprs) || knows_name l.names text) ≡ (operand_in l.kind text l.exprs || knows_name l.fn.names text)
