use Rattle.std.proofs.Common.{rules}
use Rattle.bz_streams.proofs.ControlSteps.{one_cut, pair_cut}
use Rattle.bz_streams.proofs.controls.next_control.Goals as goal

pub returns-then-is_ascii_control-clause-cut : goal.returns-then-is_ascii_control-clause-cut
returns-then-is_ascii_control-clause-cut c = λ shown. one_cut shown c.args.text.now c.loop-at.at (c.loop-at.invariant shown) (search rules) (search rules)

pub returns-then-is_control_pair-clause-cut : goal.returns-then-is_control_pair-clause-cut
returns-then-is_control_pair-clause-cut c =
    λ shown. pair_cut shown c.args.text.now c.loop-at.at (c.loop-at.invariant shown) (search rules) (search rules) (search rules)
