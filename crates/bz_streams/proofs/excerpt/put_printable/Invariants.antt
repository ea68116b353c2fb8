use Rattle.bz_streams.proofs.Imported.{◌++◌, ◌+◌, ◌≡◌, ◌≤◌, length, printable}
use Rattle.arrayvec.specs.ArrayVec.{array_vec_len}
use Rattle.bz_streams.proofs.excerpt.put_printable.Given as goal

-- what is there and what is left are all, and there is room for what is left
abbrev pub invariant-loop-plain : goal.invariant-loop-plain
invariant-loop-plain l = record {
  items : l.text.items ++ printable l.left ≡ l.fn.text.items ++ printable l.line;
  len : array_vec_len l.text + length l.left ≤ array_vec_len l.fn.text + length l.line;
}

abbrev pub decreases-loop-plain : goal.decreases-loop-plain
decreases-loop-plain l = length l.left
