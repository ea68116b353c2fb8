use Rattle.bz_buildozer.proofs.Words.{reads_one, refl}
use Rattle.bz_buildozer.proofs.reading.bytes_of.Goals as goal

pub returns-in_err-read_most-clause-regular : goal.returns-in_err-read_most-clause-regular
returns-in_err-read_most-clause-regular g c = reads_one (g.F.Files.acts c.args.files.now) (g.F.Files.acts c.read_most.new.self) _ refl c.read_most.ensures.acts

pub returns-clause-regular : goal.returns-clause-regular
returns-clause-regular g c = reads_one (g.F.Files.acts c.args.files.now) (g.F.Files.acts c.read_most.new.self) _ refl c.read_most.ensures.acts
