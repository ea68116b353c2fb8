-- Where the faults of a text are.
use Rattle.bz_tree.proofs.Words.{◌≡◌, arith, drop, length, length-take-le, List, min, ReadFault, sym, take, take-append-drop, ℕ}
use Rattle.bz_lex.specs.{declared.front.Reason.Reason, Faults.fault_of, Positions.line_at, Positions.column_of, Stops.IsFaultAt}
use Rattle.bz_lex.specs.declared.front.Reason.TheVariants as r

-- line and column of a byte, or of the end
abbrev Fault : Reason → List ℕ → ℕ → ReadFault
Fault reason text at = fault_of reason (min (line_at text (min at (length text))) 4294967295) (min (column_of text (min at (length text))) 4294967295)

pub unexpected_placed : (wrong : List ℕ → Type 0) (text : List ℕ) (at : ℕ) (fault : ReadFault) → fault ≡ Fault r.Unexpected text at → IsFaultAt wrong text fault
unexpected_placed wrong text at fault e =
    let size : length (take (min at (length text)) text) ≡ min at (length text) = length-take-le (min at (length text)) text (omega arith) in
    (take (min at (length text)) text, drop (min at (length text)) text, r.Unexpected, sym (take-append-drop (min at (length text)) text), tt, rw size e)
