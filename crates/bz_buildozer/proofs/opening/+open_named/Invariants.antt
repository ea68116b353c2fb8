use Rattle.std.proofs.Common.{if◌then◌else◌}
use Rattle.bz_buildozer.proofs.opening.+open_named.Given as goal

-- the second name comes after the first
abbrev pub decreases-open_named : goal.decreases-open_named
decreases-open_named g l = if l.second then 0 else 1
