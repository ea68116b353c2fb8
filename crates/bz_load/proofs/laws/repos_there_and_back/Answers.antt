use Rattle.bz_load.proofs.LawBack.{repos_there_and_back}
use Rattle.bz_load.proofs.laws.repos_there_and_back.Goals as goal

pub returns : goal.returns
returns c = repos_there_and_back
