use Rattle.std.proofs.Common.{refl}
use Rattle.std.specs.Fmt.{digits}
use Rattle.clap.proofs.OnLiterals.{clap_on_literals}
use Rattle.bz_command_line.proofs.line.worked_command_lines.Goals as goal

pub returns : goal.returns
unfolding clap_on_literals digits
returns c = (
  (refl, refl, refl, refl, refl, refl),
  (refl, refl, refl, refl, refl),
  refl,
  (refl, refl, refl, refl, refl),
  (refl, refl, refl, refl),
  (refl, refl, refl, refl),
  (refl, refl, refl),
  (refl, refl),
  refl,
)
