use Rattle.bz_command.proofs.LawComments as law
use Rattle.bz_command.proofs.laws.comments_stay.Goals as goal

pub returns : goal.returns
returns c = law.comments_stay
