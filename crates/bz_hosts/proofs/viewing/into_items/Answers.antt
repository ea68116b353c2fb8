use Rattle.bz_hosts.proofs.Words.{◌++◌, ◌+◌, ◌<◌, ◌∙◌, ◌≤◌, ap, arith, first_seen_gap, items_below, left_below, length, List, map, Part, rules, seen, subst, sym}
use Rattle.bz_hosts.proofs.FileSteps.{begun, finished}
use Rattle.bz_hosts.proofs.viewing.into_items.Goals as goal

some : (c : goal.In_ok-above) → 0 < length c.into_vec-parts.result.items
some c = search rules

pub loop-parts-init : goal.loop-parts-init
loop-parts-init c =
    let w = begun c.into_vec-parts.result.items c.args.parts c.gap_at-gap.result.now c.in_ok-above.above c.in_ok-above.spent c.from_vec-items.result c.push_before.new.items (some c) c.into_vec-parts.ensures
    (c.gap_at-gap.ensures ∙ ap (λ (ps : List Part). first_seen_gap (map seen ps)) c.as_slice.ensures.value) (c.from_vec-items.ensures ∙ c.in_ok-with_capacity.ensures.items) c.in_ok-above.ensures.items c.in_ok-above.ensures.above c.in_ok-above.ensures.spent in
    record { some = some c; items = w.0; going = w.1.0; ended = w.1.1 }

pub loop-parts-preserved : goal.loop-parts-preserved
loop-parts-preserved c =
    let turn = c.in_ok-next.ensures.turn in
    let more : c.loop-parts.at + 1 < length c.loop-parts.parts.items = subst (λ (ps : List Part). c.loop-parts.at + 1 < length ps) c.as_slice-in-loop-parts.ensures.value (c.is_followed.ensures.yes c.loop-parts-test.true) in
    record {
      some = omega (arith, more, c.in_ok-next.ensures.count);
      items = ap (λ (ps : List Part). c.push_moved_part.new.items ++ items_below c.in_ok-next.next ps) c.in_ok-next.ensures.rest ∙ (turn.items ∙ c.loop-parts.invariant.items);
      going = λ further. ap (left_below c.in_ok-next.next) c.in_ok-next.ensures.rest ∙ (turn.going (omega (arith, further, c.in_ok-next.ensures.count)) ∙ c.loop-parts.invariant.going more);
      ended = λ last spent. sym (c.loop-parts.invariant.going more) ∙ turn.ended (omega (arith, last, c.in_ok-next.ensures.count)) spent;
    }

pub returns-clause-items : goal.returns-clause-items
returns-clause-items c =
    let last : length c.loop-parts.parts.items ≤ c.loop-parts.at + 1 = subst (λ (ps : List Part). length ps ≤ c.loop-parts.at + 1) c.as_slice-in-loop-parts.ensures.value (c.is_followed.ensures.no c.loop-parts-test.false) in
    c.without_room.ensures ∙ finished c.loop-parts.parts.items c.loop-parts.at c.index.result.now c.loop-parts.above c.loop-parts.items c.push_part.new.items _ last c.loop-parts.invariant.some c.index.ensures c.in_ok-push_part.ensures.items c.loop-parts.invariant.items
