use Rattle.bz_load.proofs.Words.{AreListed, rules, sym}
use Rattle.bz_load.proofs.PathSteps.{unlisted}
use Rattle.bz_load.proofs.adding.place_of_load.Goals as goal

pub returns-then-not-has : goal.returns-then-not-has
returns-then-not-has c =
    let listed : AreListed c.in-Some.loaded.now c.args.items.now = search rules in
    sym (unlisted c.args.path.now c.args.items.now (c.has.ensures c.args.items.now listed c.if-not-has.true))
