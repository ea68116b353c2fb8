use Rattle.std.proofs.Common.{refl}
use Rattle.bz_hosts.proofs.laws.worked_suites.Goals as goal

pub returns : goal.returns
unfolding Rattle.bz_value.specs.declared.value.Expr.TheBlock.hidden-the_row-Expr-0 Rattle.bz_grammar.specs.declared.tree.Part.TheBlock.hidden-the_row-Part-0 denote.Hole.Carrier.hidden
returns c = (
  ((refl, refl), refl, refl),
  ((refl, refl), refl, refl),
  ((refl, refl), refl, refl),
  ((refl, refl), refl, refl),
  ((refl, refl), refl, refl),
  ((refl, refl), refl, refl),
  ((refl, refl), refl, refl),
  (refl, refl),
  (refl, refl),
)
