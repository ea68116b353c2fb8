use Rattle.bz_rule.proofs.Words.{held, places_of}
use Rattle.bz_rule.proofs.NamedPlaces.{places_turn}
use Rattle.bz_rule.proofs.places.all_places.Goals as goal

pub loop-at-preserved : goal.loop-at-preserved
loop-at-preserved c = λ name.
    places_turn c.args.items.now c.loop-at.at c.index-items-at.result name (places_of name (held c.loop-at.places.entries)) _ _
    c.loop-at-test.true c.index-items-at.is (c.in_ok-push_item.ensures name) (c.loop-at.invariant name)
