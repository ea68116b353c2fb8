use Rattle.bz_label.proofs.Words.{◌∙◌, err_from_is_err_and, label_in, refl}
use Rattle.bz_label.proofs.{LabelFunctions.read_label, LabelFunctions.no_label, Shapes.both_same}
use Rattle.bz_label.proofs.label.Label.read.Goals as goal

pub returns-in_default-clause-bad : goal.returns-in_default-clause-bad
returns-in_default-clause-bad c = (λ e. no_label _ _ (c.in_default.ensures ∙ both_same label_in c.as_bytes.ensures.value c.as_bytes-2.ensures.value), λ none. refl)

pub returns-in_err-copied-clause-bad : goal.returns-in_err-copied-clause-bad
returns-in_err-copied-clause-bad c =
    let refused = err_from_is_err_and c.from_residual.result c.from_residual.ensures.1 in
    rw (refused.1, refused.2) (λ e. cc, λ none. absurd (none _ (read_label _ _ _ (c.in-Some.ensures ∙ both_same label_in c.as_bytes.ensures.value c.as_bytes-2.ensures.value))))

pub returns-clause-ok : goal.returns-clause-ok
returns-clause-ok c = rw c.in_ok-copied.ensures (read_label _ _ _ (c.in-Some.ensures ∙ both_same label_in c.as_bytes.ensures.value c.as_bytes-2.ensures.value))

pub returns-clause-bad : goal.returns-clause-bad
returns-clause-bad c = (λ e. cc, λ none. absurd (none _ (read_label _ _ _ (c.in-Some.ensures ∙ both_same label_in c.as_bytes.ensures.value c.as_bytes-2.ensures.value))))
