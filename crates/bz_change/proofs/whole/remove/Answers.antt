use Rattle.bz_change.proofs.Words.{◌∙◌, ap, Attributes, filter, filter_from_retain, is_other_attribute, not, Ok, remove, rules, sym}
use Rattle.bz_change.proofs.whole.remove.Goals as goal

pub returns-in-All : goal.returns-in-All
returns-in-All c =
    ap (λ (attributes : Attributes). remove attributes c.args.arguments.now) c.in-All.is
    ∙ ap Ok (sym (c.from_vec.ensures
    ∙ (filter_from_retain _ (λ x. not (is_other_attribute x)) (λ p x b q h. search rules) _ _ _ c.retain.ensures.filtered
    ∙ ap (filter (λ x. not (is_other_attribute x))) (c.into_vec-all.ensures ∙ c.replace.ensures.value))))
