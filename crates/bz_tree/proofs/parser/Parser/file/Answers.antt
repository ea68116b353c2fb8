use Rattle.std.proofs.Common.{refl}
use Rattle.bz_tree.proofs.Files.{file_read, no_file}
use Rattle.bz_tree.proofs.parser.Parser.file.Goals as goal

pub returns-clause-ok : goal.returns-clause-ok
returns-clause-ok c = file_read _ c.args.self.now.leaves c.whole.result c.whole.new.self.stack c.whole.ensures.ok refl

pub returns-clause-err : goal.returns-clause-err
returns-clause-err c = no_file _ c.args.self.now.leaves c.whole.result c.whole.ensures.err refl
