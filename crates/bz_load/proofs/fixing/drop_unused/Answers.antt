use Rattle.bz_load.proofs.Words.{filter_same, is_emptied, knows_name, not, rules}
use Rattle.bz_load.proofs.fixing.drop_unused.Goals as goal

pub loop-item-init : goal.loop-item-init
loop-item-init c =
    let kept = filter_same _ (λ item. not (is_emptied (knows_name c.in_ok-names.names) item)) _ (λ x b f h. search rules) _ _ c.retain.ensures.filtered in
    search (rules, kept)
