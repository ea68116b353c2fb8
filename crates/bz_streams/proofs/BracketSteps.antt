-- Where a search of brackets stops.
use Rattle.bz_streams.proofs.Imported.{[], ◌∷◌, ◌≡◌, brackets_at, Bytes, eq-eqb, refl, Scan, ℕ}

pub stops_here : (line column : ℕ) (scan : Scan) (rest : Bytes) → scan.line ≡ line → scan.column ≡ column → brackets_at line column scan rest ≡ scan.brackets
stops_here line column scan [] at_line at_column = refl
stops_here line column scan (byte ∷ rest) at_line at_column = rw (eq-eqb scan.line line at_line, eq-eqb scan.column column at_column) refl
