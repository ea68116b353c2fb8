use Rattle.bz_command.proofs.Words.{[], ◌∷◌, ap, argument_of, codes, list_of, refl, with_body}
use Rattle.std.specs.Fmt.{digits}
use Rattle.bz_command.specs.Worked.{leaves, string}
use Rattle.bz_command.proofs.laws.worked_command_effects.Goals as goal

pub returns : goal.returns
unfolding Rattle.bz_value.specs.declared.value.Expr.TheBlock.hidden-the_row-Expr-0 denote.Hole.Carrier.hidden digits
returns c = (
  (refl, refl, refl, refl, refl, refl, refl, refl),
  (refl, refl, refl, refl, refl, refl, refl, refl, refl, refl),
  (
    refl,
    refl,
    refl,
    refl,
    refl,
    refl,
    refl,
    refl,
    refl,
    refl,
    refl,
    λ h. ap (λ text. leaves (argument_of (codes "deps") (list_of (with_body (codes "p") (codes "deps") (codes ":l") text (string (codes ":l")) ∷ [])) ∷ [])) h,
    refl,
  ),
  (refl, refl, refl, refl, refl, refl, refl, refl, refl, refl, refl, refl, refl, refl, refl, refl, refl, refl),
  (
    refl,
    refl,
    refl,
    λ h. rw h refl,
    refl,
    refl,
    refl,
    refl,
  ),
  (refl, refl, refl, refl, refl),
  (refl, refl, refl, refl, refl, refl, refl),
)
