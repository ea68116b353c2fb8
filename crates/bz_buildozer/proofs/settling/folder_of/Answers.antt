use Rattle.bz_buildozer.proofs.FileNames.{folder_none, folder_some}
use Rattle.bz_buildozer.proofs.settling.folder_of.Goals as goal

pub returns-in-Some : goal.returns-in-Some
returns-in-Some c = let found = c.in-Some.ensures.cases in folder_some c.args.name.now c.in-Some.folder.now found.0 found.1 found.2 found.3

pub returns-in-None : goal.returns-in-None
returns-in-None c = folder_none c.args.name.now c.in-None.ensures.cases
