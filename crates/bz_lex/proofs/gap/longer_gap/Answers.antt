use Rattle.bz_lex.proofs.Words.{◌∙◌, ◌≡◌, ap, arith, gap_state_after, length, Open, sym, take, ℕ}
use Rattle.bz_lex.proofs.Gaps.{after_more, after_run}
use Rattle.bz_lex.proofs.gap.longer_gap.Goals as goal

pub bytes-preserved : goal.bytes-preserved
bytes-preserved c = record {
  taken = after_run c.args.newlines _ _ _ _ _ c.run-at.ensures.above c.run-at.ensures.within (c.run-at.ensures.stays c.args.newlines) (after_more c.args.newlines _ _ _ _ _ c.bytes-test.true c.bytes.invariant.taken (sym c.in-Some.ensures));
  within = c.run-at.ensures.within;
}

pub returns-clause-taken : goal.returns-clause-taken
returns-clause-taken c =
    let i : c.bytes.at ≡ length c.args.text.now = omega (arith, c.bytes.invariant.within, c.bytes-test.false) in
    ap (λ (n : ℕ). gap_state_after c.args.newlines Open (take n c.args.text.now)) (sym i) ∙ c.bytes.invariant.taken
