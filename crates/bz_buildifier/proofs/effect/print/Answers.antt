use Rattle.bz_buildifier.proofs.Words.{[], ap, inl, inr, refl, reports_more, true}
use Rattle.bz_buildifier.specs.FormatRun as r
use Rattle.bz_buildifier.specs.declared.effect.Effect.{Effect}
use Rattle.bz_buildifier.proofs.effect.print.Goals as goal

pub returns-then-closed-clause-step : goal.returns-then-closed-clause-step
returns-then-closed-clause-step g c =
    let faults = g.E.Sink.faults in
    let held = g.E.Sink.contents in
    let mid = c.note_names.new.err in
    rw (c.if-closed.true) (
      r.noted c.args.name.now c.args.text.now (r.output_effect c.args.bytes.now c.args.status),
      inl refl,
      c.effect_of-done.ensures,
      (refl, refl, refl),
      reports_more (faults c.args.err.now) (faults mid) (faults mid) (held c.args.err.now) (held mid) (held mid) (r.name_notes c.args.name.now c.args.text.now) [] c.note_names.ensures (refl, refl),
    )

pub returns-in-Ok-clause-step : goal.returns-in-Ok-clause-step
returns-in-Ok-clause-step g c =
    let faults = g.E.Sink.faults in
    let held = g.E.Sink.contents in
    let mid = c.note_names.new.err in
    rw (c.if-closed.false) (
      r.noted c.args.name.now c.args.text.now (r.output_effect c.args.bytes.now c.args.status),
      inl refl,
      c.effect_of-done.ensures,
      (c.in-Ok.ensures.steady refl, c.in-Ok.ensures.ok),
      reports_more (faults c.args.err.now) (faults mid) (faults mid) (held c.args.err.now) (held mid) (held mid) (r.name_notes c.args.name.now c.args.text.now) [] c.note_names.ensures (refl, refl),
    )

pub returns-in-Err-clause-step : goal.returns-in-Err-clause-step
returns-in-Err-clause-step g c =
    let faults = g.E.Sink.faults in
    let held = g.E.Sink.contents in
    let mid = c.note_names.new.err in
    let last = c.fail-effect.new.err in
    rw (c.if-closed.false) (
      r.noted c.args.name.now c.args.text.now (r.unprinted c.args.bytes.now),
      inr (refl, refl),
      ap (λ (e : Effect). record e { closes = true }) c.fail-effect.ensures.effect,
      (c.in-Err.ensures.cause refl, c.in-Err.ensures.err),
      reports_more (faults c.args.err.now) (faults mid) (faults last) (held c.args.err.now) (held mid) (held last) (r.name_notes c.args.name.now c.args.text.now) _ c.note_names.ensures c.fail-effect.ensures.reported,
    )
