use Rattle.bz_command_line.proofs.Words.{inl, inr, refused_in, requested_in}
use Rattle.bz_command_line.proofs.InTurn.{is_refused, refused_turn, requested_turn}
use Rattle.bz_command_line.proofs.requested.group_of.Goals as goal

pub loop-operand-preserved : goal.loop-operand-preserved
loop-operand-preserved c = record {
  answered = requested_turn c.args.profile c.args.operands.now c.loop-operand.operand-index (requested_in c.loop-operand.requested) (requested_in c.add.new.requested)
      c.loop-operand-test.true c.loop-operand.invariant.answered c.in-Ok.ensures.ok;
  paths = c.in-Ok.ensures.paths c.loop-operand.invariant.paths;
}

pub returns-in_default-clause-err : goal.returns-in_default-clause-err
returns-in_default-clause-err c = elim c.in-Err.ensures.err [
  | inl fault ↦
      let refused = refused_in c.with_reason.result in
      refused_turn c.args.profile c.args.operands.now c.loop-operand.operand-index (requested_in c.loop-operand.requested) refused c.loop-operand-test.true
      c.loop-operand.invariant.answered c.with_reason.ensures.seen
      (is_refused c.args.profile refused _ c.in-Err.fault fault c.with_reason.ensures.profile c.with_reason.ensures.seen c.with_reason.ensures.fault c.with_reason.ensures.other)
  | inr memory ↦ absurd (c.in_default.not-Memory memory)
]
