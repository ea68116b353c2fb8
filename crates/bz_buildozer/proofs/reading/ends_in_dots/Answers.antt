use Rattle.bz_buildozer.proofs.Words.{codes, ends_text}
use Rattle.bz_buildozer.proofs.reading.ends_in_dots.Goals as goal

pub returns : goal.returns
returns c = ends_text c.ends_with.result (codes "/...") c.args.package.now c.ends_with.ensures.cases
