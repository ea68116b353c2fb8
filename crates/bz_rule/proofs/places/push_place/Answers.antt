use Rattle.bz_rule.proofs.Words.{◌∙◌, ap, held, places_of}
use Rattle.bz_rule.proofs.Entries.{no_place, place_after}
use Rattle.bz_rule.proofs.places.push_place.Goals as goal

pub insert_first-requires : goal.insert_first-requires
insert_first-requires c =
    ap (λ map. places_of c.args.name.now (held map.entries)) c.get_mut.follows.holds-at-none
    ∙ no_place c.args.places.now c.args.name.now c.in-None.ensures.value

pub returns-in_ok-push-in-Some : goal.returns-in_ok-push-in-Some
returns-in_ok-push-in-Some c =
    place_after c.args.places.now (c.get_mut.follows.lender c.push.new.self) c.args.name.now c.in-Some.found.now c.push.new.self c.args.at
    c.in-Some.ensures.value c.in_ok-push-in-Some.ensures.items (c.get_mut.follows.holds c.push.new.self)
