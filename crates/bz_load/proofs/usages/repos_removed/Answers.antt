use Rattle.bz_load.proofs.Words.{filter_same, loses_last, not, rules}
use Rattle.bz_load.proofs.usages.repos_removed.Goals as goal

pub loop-item-init : goal.loop-item-init
loop-item-init c =
    let kept = filter_same _ (λ item. not (loses_last c.args.variables.now c.args.repos.now item)) _ (λ x b f h. search rules) _ _ c.retain.ensures.filtered in
    search (rules, kept)
