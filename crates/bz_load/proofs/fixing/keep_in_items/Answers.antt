use Rattle.bz_load.proofs.Words.{filter_same, knows_name, rules, symbol_stays}
use Rattle.bz_load.proofs.fixing.keep_in_items.Goals as goal

pub returns : goal.returns
returns c =
    let kept = filter_same _ (symbol_stays (knows_name c.args.names.now)) _ (λ x b f h. search rules) _ _ c.retain.ensures.filtered in
    search (rules, kept)
