use Rattle.std.proofs.Common.{◌∙◌, arith, rules}
use Rattle.bz_change.proofs.KeyPlaces.{entry_absent, first, entry_set, all_before, put_next}
use Rattle.bz_change.proofs.dicts.put_indexed.Goals as goal

pub at_mut-requires : goal.at_mut-requires
at_mut-requires c =
    (first c.args.change c.args.slot.current.now c.args.slot.attribute.now c.entry-item.result c.loop-entry.places c.loop-entry.items c.loop-entry.invariant.indexed c.in-Some.field-0.now (search rules)).within

pub index-requires-in_default : goal.index-requires-in_default
index-requires-in_default c =
    all_before c.loop-entry.places c.loop-entry.items _ c.in_ok-entry_made.field-0 _ c.loop-entry.invariant.indexed (c.as_slice-in_default.ensures ∙ c.in_ok-push.ensures.ok) c.len-from.ensures

pub loop-entry-preserved-in_default : goal.loop-entry-preserved-in_default
loop-entry-preserved-in_default c = record {
  indexed = search rules;
  put = put_next c.args.change c.args.slot.current.now c.args.slot.attribute.now c.args.entries.now c.loop-entry.entry-index c.entry-item.result _ _ _ (omega arith) c.entry-item.is
      (search rules ∙ entry_absent c.args.change c.args.slot.current.now c.args.slot.attribute.now c.entry-item.result c.loop-entry.places c.loop-entry.items c.loop-entry.invariant.indexed (search rules)) c.loop-entry.invariant.put;
}

pub loop-entry-preserved : goal.loop-entry-preserved
loop-entry-preserved c =
    let kept = entry_set c.args.change c.args.slot.current.now c.args.slot.attribute.now c.entry-item.result c.loop-entry.places c.loop-entry.items c.loop-entry.invariant.indexed c.in-Some.field-0.now (search rules)
    _ _ c.at_mut.ensures.value c.in_ok-change_entry.ensures in
    record {
      indexed = kept.1;
      put = put_next c.args.change c.args.slot.current.now c.args.slot.attribute.now c.args.entries.now c.loop-entry.entry-index c.entry-item.result _ _ _ (omega arith) c.entry-item.is kept.0 c.loop-entry.invariant.put;
    }
