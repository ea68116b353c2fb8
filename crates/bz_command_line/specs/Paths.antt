-- The packages that targets name.
use Rattle.std.specs.Prelude.{◌≤◌, length}
use Rattle.std.specs.Str.{IsUtf8}
use Rattle.bz_label.specs.declared.target.Target.{Target}

-- the path of a package is text in UTF-8, of at most 65,536 bytes
abbrev pub HasPath : Target → Type 0
HasPath target = IsUtf8 target.«package» × (length target.«package» ≤ 65536)
