use Rattle.bz_passes.proofs.Words.{◌∙◌, arith, is_run_load}
use Rattle.bz_passes.proofs.Pieces.{last_before}
use Rattle.bz_passes.proofs.borders.is_past_load.Goals as goal

pub returns-clause-load : goal.returns-clause-load
returns-clause-load c = c.is_comparable.ensures ∙ last_before is_run_load c.args.at c.args.items.now _ (omega (arith, c.if-at-eq0.false)) c.requires c.index-items-at.is
