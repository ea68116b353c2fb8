use Rattle.bz_buildozer.proofs.Words.{[], ◌++◌, ◌∷◌, fault_excerpt, fault_line, Opened, refl, Some, string_bytes, subst, sym, Takes}
use Rattle.bz_buildozer.proofs.ReadSteps.{past_takes, refused, refused_takes}
use Rattle.bz_buildozer.proofs.opening.open_text.Goals as goal

pub returns-in-Ok-open-clause-whole : goal.returns-in-Ok-open-clause-whole
returns-in-Ok-open-clause-whole g c = λ _. (
  [],
  subst (λ (file : Opened). Takes c.args.package.now c.args.name.now c.args.text.items (Some file) []) (sym c.new.ensures)
      (past_takes c.args.package.now c.args.name.now (string_bytes c.in-Ok.called) c.as_slice.result.now c.args.text.items c.from_vec.result c.in-Ok-open.past
      c.in-Ok.ensures.ok c.as_slice.ensures.value c.from_vec.ensures c.in-Ok-open.ensures),
  (refl, refl),
)

pub returns-clause-whole : goal.returns-clause-whole
returns-clause-whole g c = λ _.
    let name = c.args.name.now in
    let fault = c.in-Err.fault in
    let slice = c.deref.result.now in (
      (fault_line name fault ++ fault_excerpt slice fault) ∷ [],
      refused_takes c.args.package.now name slice c.args.text.items fault c.deref.ensures.value
          (refused c.args.package.now c.as_slice.result.now c.args.text.items fault c.as_slice.ensures.value c.in-Err.ensures) c.in_default-fault.not-Memory,
      (g.E.Sink.faults c.report_fault_in.new.err, g.E.Sink.contents c.report_fault_in.new.err, c.report_fault_in.ensures, (refl, refl)),
    )
