use Rattle.bz_streams.proofs.Imported.{◌+◌, ◌≡◌, ◌≤◌, drop, odd_line_from, odd_name_line}
use Rattle.bz_streams.proofs.names.line_of_odd_name.Given as goal

-- what is sought of what is left is what is sought of all
abbrev pub invariant-loop-byte : goal.invariant-loop-byte
invariant-loop-byte l = record {
  sought : odd_line_from l.within l.line (drop l.byte-index l.text) ≡ odd_name_line l.text;
  within : l.line ≤ l.byte-index + 1;
}
