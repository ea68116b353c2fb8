-- What a path means, as contracts see what the code has.
use Rattle.bz_buildozer.specs.Found as s
use Rattle.bz_buildozer.specs.declared.settling.Settled.{Settled}
use Rattle.bz_buildozer.specs.declared.settling.Settled.TheVariants as v
use Rattle.bz_buildozer.specs.declared.settling.Unedited.{Unedited}
use Rattle.bz_buildozer.specs.declared.settling.Unedited.TheVariants as u

abbrev pub unedited_in : Unedited → s.Unedited
unedited_in (u.Beside current) = s.beside current.now
unedited_in u.Kept = s.kept
unedited_in u.Bzl = s.bzl

abbrev pub settled_in : Settled → s.Settled
settled_in (v.Package current) = s.as_package current.now
settled_in (v.File name) = s.as_file name.now
settled_in (v.Refused why) = s.as_unedited (unedited_in why)
