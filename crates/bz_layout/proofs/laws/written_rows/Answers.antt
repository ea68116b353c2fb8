use Rattle.std.proofs.Common.{refl}
use Rattle.bz_layout.proofs.laws.written_rows.Goals as goal

pub returns : goal.returns
unfolding Rattle.bz_value.specs.declared.value.Expr.TheBlock.hidden-the_row-Expr-0 denote.Hole.Carrier.hidden
returns c = (refl, refl, refl, refl, refl, refl, refl, refl, refl, refl, refl, refl, refl)
