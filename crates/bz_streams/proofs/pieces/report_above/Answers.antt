use Rattle.bz_streams.proofs.Written.{both_answered, told}
use Rattle.bz_streams.proofs.pieces.report_above.Goals as goal

pub returns : goal.returns
returns g c = told c.write_part.result _ _ _ _ _ (both_answered c.write_part.result _ _ _ _ _ _ _ _ c.in-Ok.ensures c.write_part.ensures)
