use Rattle.bz_command.proofs.Words.{◌∙◌, ap, Bytes, IfOk-weaker, places_from, take}
use Rattle.bz_command.proofs.MeantPlaces.{first_meant, index_meant}
use Rattle.bz_command.proofs.targets.meant.Goals as goal

pub returns-in_ok-places-in-Package : goal.returns-in_ok-places-in-Package
returns-in_ok-places-in-Package c =
    c.truncate.ensures.items ∙ (ap (take 1) c.in_ok-places-in-Package.ensures ∙ first_meant c.args.which.now c.args.lines.now c.args.items.now c.in-Package.is)

pub returns-in-Some : goal.returns-in-Some
returns-in-Some c =
    let indexed = rw c.in-Some.is at c.requires in
    IfOk-weaker c.from_slice.result _ _
    (λ places h.
    h
    ∙ (c.places.ensures c.args.items.now indexed
    ∙ (ap (λ (name : Bytes). places_from 0 name c.args.items.now) c.as_slice.ensures ∙ index_meant c.args.which.now c.in-Name.name c.args.lines.now c.args.items.now c.in-Name.is)))
    c.from_slice.ensures.items
