use Rattle.bz_load.proofs.Words.{argument_stays, filter_same, rules}
use Rattle.bz_load.proofs.usages.keep_others.Goals as goal

pub returns : goal.returns
returns c =
    let kept = filter_same _ (argument_stays c.args.repos.now) _ (λ x b f h. search rules) _ _ c.retain.ensures.filtered in
    search (rules, kept)
