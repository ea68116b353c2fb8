use Rattle.bz_command_syntax.proofs.Imported.{◌∷◌, listed_in, true}
use Rattle.bz_command_syntax.proofs.Profiles.{refused_in}
use Rattle.bz_command_syntax.proofs.table.read_in.Goals as goal

pub returns-in-Err : goal.returns-in-Err
returns-in-Err c = refused_in c.args.profile (listed_in true (c.args.name.now ∷ c.args.words.items)) c.in-Err.fault c.in-Err.ensures
