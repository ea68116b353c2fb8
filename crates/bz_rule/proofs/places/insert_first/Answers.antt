use Rattle.bz_rule.proofs.Entries.{first_place}
use Rattle.bz_rule.proofs.places.insert_first.Goals as goal

pub returns : goal.returns
returns c =
    first_place c.args.places.now c.insert.new.self c.args.name.now c.in_ok-key.key c.in_ok-first.first c.args.at
    c.in_ok-key.ensures.items c.in_ok-first.ensures.items c.in_ok-insert.ensures.updates c.requires
