use Rattle.bz_token.proofs.Words.{◌∙◌, ◌≡◌, arith, length, longest_front, may_end, move, or_best, refl, sym}
use Rattle.bz_token.proofs.Longest.{goes_on, sticks, ends_here, ran}
use Rattle.bz_token.proofs.scan.longest_front.Goals as goal
use Rattle.bz_token.proofs.scan.longest_front.Goals.{then-may_end, else-may_end}

pub returns-in-None : goal.returns-in-None
unfolding longest_front
returns-in-None c =
    let b : or_best (may_end c.bytes.state) c.bytes.state c.bytes.at c.bytes.best ≡ c.if-may_end.best =
    elim c.if-may_end.branch [ then-may_end w ↦ rw (sym c.may_end.ensures ∙ w.if-may_end.true, w.best-is) refl | else-may_end w ↦ rw (sym c.may_end.ensures ∙ w.if-may_end.false, w.best-is) refl ] in
    sym b ∙ sym (sticks move may_end _ _ _ _ c.bytes-test.true (sym c.in-None.ensures)) ∙ c.bytes.invariant.found

pub bytes-preserved : goal.bytes-preserved
bytes-preserved c =
    let b : or_best (may_end c.bytes.state) c.bytes.state c.bytes.at c.bytes.best ≡ c.if-may_end.best =
    elim c.if-may_end.branch [ then-may_end w ↦ rw (sym c.may_end.ensures ∙ w.if-may_end.true, w.best-is) refl | else-may_end w ↦ rw (sym c.may_end.ensures ∙ w.if-may_end.false, w.best-is) refl ] in
    record {
      found = ran move may_end _ _ _ _ _ c.run-at.ensures.above c.run-at.ensures.within c.run-at.ensures.stays ∙ rw (← b) (sym (goes_on move may_end _ _ _ _ _ c.bytes-test.true (sym c.in-Some.ensures)) ∙ c.bytes.invariant.found);
      within = c.run-at.ensures.within;
    }

pub returns-then-may_end-2 : goal.returns-then-may_end-2
unfolding longest_front
returns-then-may_end-2 c =
    let i : c.bytes.at ≡ length c.args.text.now = omega arith in
    let e = ends_here move may_end c.bytes.state c.bytes.at c.args.text.now c.bytes.best c.bytes-test.false in
    let w = sym e ∙ c.bytes.invariant.found in
    sym (rw (sym c.may_end-2.ensures ∙ c.if-may_end-2.true, i) refl) ∙ w

pub returns-else-may_end-2 : goal.returns-else-may_end-2
unfolding longest_front
returns-else-may_end-2 c =
    let e = ends_here move may_end c.bytes.state c.bytes.at c.args.text.now c.bytes.best c.bytes-test.false in
    let w = sym e ∙ c.bytes.invariant.found in
    rw (sym c.may_end-2.ensures ∙ c.if-may_end-2.false) at w
