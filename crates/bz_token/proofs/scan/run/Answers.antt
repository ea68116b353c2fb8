use Rattle.bz_token.proofs.Words.{◌≡◌, arith, get_or, move, Some}
use Rattle.bz_token.proofs.Longest.{one_further}
use Rattle.bz_token.proofs.scan.run.Goals as goal

pub loop-at-preserved : goal.loop-at-preserved
loop-at-preserved c = record {
  above = let a = c.loop-at.invariant.above in omega arith;
  within = let lt = c.loop-at-test.true in omega arith;
  stays = one_further (λ k. move c.args.state (get_or c.args.text.now k 0) ≡ Some c.args.state) c.args.from c.loop-at.at c.loop-at.invariant.stays (c.stays.ensures c.if-not-stays.false);
}
