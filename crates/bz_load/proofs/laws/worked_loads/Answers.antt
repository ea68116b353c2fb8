use Rattle.std.proofs.Common.{refl}
use Rattle.bz_load.proofs.laws.worked_loads.Goals as goal

pub returns-clause-loads : goal.returns-clause-loads
unfolding Rattle.bz_value.specs.declared.value.Expr.TheBlock.hidden-the_row-Expr-0 denote.Hole.Carrier.hidden
returns-clause-loads c = (refl, refl, refl, refl, refl, refl, refl, refl, λ h g. rw (h, g) refl, λ g. rw g refl)

pub returns-clause-replacements : goal.returns-clause-replacements
unfolding Rattle.bz_value.specs.declared.value.Expr.TheBlock.hidden-the_row-Expr-0 denote.Hole.Carrier.hidden
returns-clause-replacements c = (refl, refl, refl, refl, refl)
