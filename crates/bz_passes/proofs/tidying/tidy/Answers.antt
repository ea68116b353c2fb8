use Rattle.bz_passes.proofs.Words.{◌∙◌, ap, has_newer, sym}
use Rattle.bz_passes.proofs.Cases.{are_level, made_again, made_comments, made_program, made_settled}
use Rattle.bz_passes.proofs.tidying.tidy.Goals as goal

pub returns-then-has_newer-clause-tidied : goal.returns-then-has_newer-clause-tidied
returns-then-has_newer-clause-tidied c = c.in_ok-new.ensures ∙ sym (are_level c.args.file (ap has_newer (sym (c.as_slice.ensures ∙ c.file.view_is)) ∙ sym c.has_newer.ensures ∙ c.if-has_newer.true))

pub returns-then-has_newer-clause-settled : goal.returns-then-has_newer-clause-settled
returns-then-has_newer-clause-settled c = made_settled c.args.file _ (returns-then-has_newer-clause-tidied c)

pub returns-then-has_newer-clause-again : goal.returns-then-has_newer-clause-again
returns-then-has_newer-clause-again c = made_again c.args.file _ (returns-then-has_newer-clause-tidied c)

pub returns-then-has_newer-clause-comments : goal.returns-then-has_newer-clause-comments
returns-then-has_newer-clause-comments c = made_comments _ _ (returns-then-has_newer-clause-tidied c)

pub returns-then-has_newer-clause-program : goal.returns-then-has_newer-clause-program
returns-then-has_newer-clause-program c = made_program _ _ (returns-then-has_newer-clause-tidied c)
