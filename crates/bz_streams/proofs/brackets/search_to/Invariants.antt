use Rattle.bz_streams.proofs.Imported.{◌+◌, ◌≡◌, ◌≤◌, brackets_at, drop, first_scan, IsSearch, Scan}
use Rattle.bz_streams.proofs.brackets.search_to.Given as goal

-- The search is where a scan is from which the rest has the brackets of the whole; no count is past what was read.
abbrev pub invariant-loop-at : goal.invariant-loop-at
invariant-loop-at l = record {
  scan : (scan : Scan) × IsSearch l.search scan × (brackets_at l.line l.column first_scan l.text ≡ brackets_at l.line l.column scan (drop l.at l.text));
  wanted : l.search.wanted ≡ l.wanted;
  depth : l.search.depth ≤ l.at;
  line : l.search.line ≤ l.at + 1;
  column : l.search.column ≤ l.at + 1;
}
