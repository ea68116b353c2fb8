use Rattle.bz_load.proofs.Words.{◌==◌, ◌∙◌, ap, arith, is_load_from, position, slice_set}
use Rattle.bz_load.proofs.PutSteps.{none_counted, over_there, same_there}
use Rattle.bz_load.proofs.adding.new_load.Goals as goal

pub returns-clause-windows : goal.returns-clause-windows
returns-clause-windows c =
    let place = c.place_of_load-place.ensures ∙ ap (position (is_load_from c.args.path.now)) c.as_slice.ensures in
    c.in_ok-windows_of.ensures.over c.args.items (slice_set c.args.items c.in-Some.at c.append_to_item.new.item)
    (same_there c.args.path.now c.args.items c.place_of_load-place.result c.in-Some.at place c.in-Some.is
    c.in_ok-more.more.items c.at_mut.result.now c.append_to_item.new.item c.is_empty-same.result c.at_mut.ensures.value c.in_ok-append_to_item.ensures
    (none_counted c.in_ok-more.more.items c.is_empty-same.result (c.is_empty-same.ensures ∙ ap (λ n. n == 0) (omega (arith, c.in_ok-more.more.ok)))))
    (over_there c.args.path.now c.args.items c.place_of_load-place.result c.in-Some.at place c.in-Some.is c.append_to_item.new.item)

pub returns-clause-same : goal.returns-clause-same
returns-clause-same c =
    c.in_ok-windows_of.ensures.same c.args.items (slice_set c.args.items c.in-Some.at c.append_to_item.new.item)
    (same_there c.args.path.now c.args.items c.place_of_load-place.result c.in-Some.at (c.place_of_load-place.ensures ∙ ap (position (is_load_from c.args.path.now)) c.as_slice.ensures) c.in-Some.is
    c.in_ok-more.more.items c.at_mut.result.now c.append_to_item.new.item c.is_empty-same.result c.at_mut.ensures.value c.in_ok-append_to_item.ensures
    (none_counted c.in_ok-more.more.items c.is_empty-same.result (c.is_empty-same.ensures ∙ ap (λ n. n == 0) (omega (arith, c.in_ok-more.more.ok)))))
