use Rattle.bz_change.proofs.Words.{◌∙◌, arith, Bool, both, Expr, filter, List, not, rules}
use Rattle.std.proofs.lemmas.Fn.{filter_same}
use Rattle.bz_change.proofs.KeyPlaces.{is_chosen, chosen_keys}
use Rattle.bz_change.proofs.dicts.remove_entries.Goals as goal

pub returns : goal.returns
returns c =
    let chosen = c.loop-key.chosen in
    c.from_vec.ensures
    ∙ (filter_same _ (λ x. not (is_chosen chosen x)) _ (λ x b f h. search rules) _ _ c.retain.ensures.filtered
    ∙ both (λ (test : Expr → Bool) (xs : List Expr). filter (λ x. not (test x)) xs) (chosen_keys chosen c.args.keys.now c.loop-key.key-index (omega arith) c.loop-key.invariant)
    (c.into_vec-all.ensures ∙ c.replace.ensures.value))
