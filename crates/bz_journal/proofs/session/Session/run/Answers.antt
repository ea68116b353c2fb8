use Rattle.bz_journal.proofs.Words.{[], ◌++◌, ◌∙◌, ◌∷◌, ◌≡◌, ap, append_assoc, arith, common_steps, rules}
use Rattle.bz_journal.proofs.Running.{run_turn}
use Rattle.bz_journal.proofs.session.Session.run.Goals as goal

pub loop-action-preserved : goal.loop-action-preserved
loop-action-preserved c =
    let so_far = c.loop-action.invariant in
    let replied = c.act-reply.result ∷ [] in
    let pushed : c.push.new.self.items ≡ c.loop-action.replies.items ++ replied = search rules in
    record {
      added = so_far.added ++ replied;
      replies = pushed ∙ ap (λ xs. xs ++ replied) so_far.replies ∙ append_assoc c.args.replies.now.items so_far.added replied;
      runs = run_turn _ c.args.actions.now c.loop-action.action-index c.action-item.result _ _ _ _ c.loop-action-test.true c.action-item.is so_far.runs c.act-reply.ensures.acts;
      small = λ h. c.act-reply.ensures.small (so_far.small h);
      room = grind (arith, common_steps);
    }
