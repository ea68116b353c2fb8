-- Worked rows: bodies of strings.
use Rattle.std.specs.Prelude.{◌≡◌, [], Some, None, codes}
use Rattle.bz_rule.specs.Rules.{body}

abbrev pub WorkedBodies : Type 0
WorkedBodies =
    (body (codes "\"x\"") ≡ Some (codes "x"))
    × (body (codes "'x'") ≡ Some (codes "x"))
    × (body (codes "'say \"x\"'") ≡ Some (codes "say \"x\""))
    × (body (codes "\"\"") ≡ Some [])
    -- a prefix, three quote marks, a backslash
    × (body (codes "r\"x\"") ≡ None)
    × (body (codes "\"\"\"x\"\"\"") ≡ None)
    × (body (codes "\"\"\"\"\"\"") ≡ None)
    × (body (codes "\"x\\ny\"") ≡ None)
