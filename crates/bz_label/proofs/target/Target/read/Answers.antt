use Rattle.bz_label.proofs.Words.{◌∙◌, ap, err_from_is_err_and, refl, sym, target_in}
use Rattle.bz_label.proofs.{Shapes.if_true, Shapes.if_false, TargetReadings.target_answered, TargetReadings.no_target}
use Rattle.bz_label.proofs.target.Target.read.Goals as goal

pub returns-in_default-clause-bad : goal.returns-in_default-clause-bad
returns-in_default-clause-bad c = (λ e. no_target _ (c.in_default.ensures ∙ ap target_in c.as_bytes.ensures.value), λ none. refl)

pub returns-then-not-fits-clause-bad : goal.returns-then-not-fits-clause-bad
returns-then-not-fits-clause-bad c =
    (λ e. no_target _ (sym (if_false _ _ _ (sym c.fits.ensures ∙ c.if-not-fits.true)) ∙ c.in-Some.ensures ∙ ap target_in c.as_bytes.ensures.value), λ none. refl)

pub returns-in_err-copied-clause-bad : goal.returns-in_err-copied-clause-bad
returns-in_err-copied-clause-bad c =
    let refused = err_from_is_err_and c.from_residual.result c.from_residual.ensures.1 in
    let read = sym c.in-Some.ensures ∙ if_true _ _ _ (sym c.fits.ensures ∙ c.if-not-fits.false) in
    rw (refused.1, refused.2) (λ e. cc, λ none. absurd (none _ (target_answered _ _ (sym (ap target_in c.as_bytes.ensures.value) ∙ read))))

pub returns-clause-bad : goal.returns-clause-bad
returns-clause-bad c =
    let read = sym c.in-Some.ensures ∙ if_true _ _ _ (sym c.fits.ensures ∙ c.if-not-fits.false) in
    (λ e. cc, λ none. absurd (none _ (target_answered _ _ (sym (ap target_in c.as_bytes.ensures.value) ∙ read))))
