use Rattle.bz_load.proofs.Words.{◌≡◌, AreListed, Bytes, false, has_local, list_any, not-true, rules, subst}
use Rattle.bz_load.proofs.PathSteps.{unmentioned}
use Rattle.bz_load.proofs.replacing.is_unknown.Goals as goal

pub returns-then-not-has : goal.returns-then-not-has
returns-then-not-has c = λ none.
    let items = c.args.items.now in
    let listed : AreListed c.in-Some.loaded.now items = search rules in
    let local = (unmentioned c.as_slice.result.now items (c.has-then-not-has.ensures items listed (not-true c.has-then-not-has.result none))).1 in
    ((unmentioned c.args.path.now items (c.has.ensures items listed c.if-not-has.true)).0, subst (λ (text : Bytes). list_any (has_local text) items ≡ false) c.as_slice.ensures local)
