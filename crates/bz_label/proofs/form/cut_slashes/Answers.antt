use Rattle.std.proofs.Common.{sym, ◌∙◌}
use Rattle.bz_label.proofs.Shapes.{slashes_once}
use Rattle.bz_label.proofs.form.cut_slashes.Goals as goal

pub returns-in_err-after : goal.returns-in_err-after
returns-in_err-after c = rw c.from_residual-in_err-after.ensures
    (λ front rest slashless e. c.in_err-after.ensures rest (slashes_once _ _ front rest c.in_ok-front.ensures.1 slashless (sym c.in_ok-front.ensures.0 ∙ e)).1)
