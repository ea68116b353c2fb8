use Rattle.bz_value.proofs.Words.{◌∙◌, ◌≡◌, ap, arith, sym, take, trimmed}
use Rattle.bz_value.proofs.{Lines.blank_last, Lines.solid_last, gap.trim_end.Goals.then-loop-end-test+else-is_blank_byte, gap.trim_end.Goals.else-loop-end-test}
use Rattle.bz_value.proofs.gap.trim_end.Goals as goal

pub loop-end-preserved : goal.loop-end-preserved
loop-end-preserved c = record {
  within = omega arith;
  same = blank_last c.args.text.now c.loop-end.end c.loop-end-test.true c.loop-end.invariant.within (sym c.is_blank_byte.ensures ∙ c.if-is_blank_byte.true) ∙ c.loop-end.invariant.same;
}

pub returns : goal.returns
returns c =
    elim c.loop-end-test.branch [
      | then-loop-end-test+else-is_blank_byte w ↦ solid_last c.args.text.now c.loop-end.end w.loop-end-test.true c.loop-end.invariant.within (sym w.is_blank_byte.ensures ∙ w.if-is_blank_byte.false) ∙ c.loop-end.invariant.same
      | else-loop-end-test w ↦ let e : c.loop-end.end ≡ 0 = omega arith in ap (λ n. take n c.args.text.now) e ∙ (sym (ap (λ n. trimmed (take n c.args.text.now)) e) ∙ c.loop-end.invariant.same)
    ]
