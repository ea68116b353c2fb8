use Rattle.bz_passes.proofs.Words.{precedes, rules}
use Rattle.bz_passes.proofs.Stable.{answers_climb}
use Rattle.bz_passes.proofs.lists.are_rising.Goals as goal

pub returns-2 : goal.returns-2
returns-2 c = answers_climb precedes _ _ c.is_sorted_by.ensures.cases (λ h a b h' k. search rules)
