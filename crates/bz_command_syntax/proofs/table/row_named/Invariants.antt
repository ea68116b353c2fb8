use Rattle.bz_command_syntax.proofs.Imported.{◌≡◌, drop, map, row_named}
use Rattle.bz_command_syntax.proofs.table.row_named.Given as goal

-- the rows so far have other names
abbrev pub invariant-loop-row : goal.invariant-loop-row
invariant-loop-row l =
    row_named (map (λ row. (row.0.now, row.1.now)) (drop l.row-index l.rows)) l.name ≡ row_named (map (λ row. (row.0.now, row.1.now)) l.rows) l.name
