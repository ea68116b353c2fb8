use Rattle.bz_buildozer.proofs.PlaceSteps.{put}
use Rattle.bz_buildozer.proofs.used.put_file.Goals as goal

pub returns : goal.returns
returns c = put c.args.used.now.items c.args.place c.index_mut.result.now c.index_mut.result.now c.args.file c.index_mut.ensures.value
