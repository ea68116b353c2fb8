use Rattle.bz_buildozer.proofs.Words.{[], ◌∙◌, ◌≡◌, Action, action_of, ap, AreHints, Do, Err, file_at, LeadsBy, Option, Progress, reported_of, request_in, Some, subst, sym}
use Rattle.bz_buildozer.proofs.{ActSteps.refused_tree, FailSteps.more_lines}
use Rattle.bz_buildozer.proofs.acting.refuse_action.Goals as goal

pub returns-in-Do-clause-reported : goal.returns-in-Do-clause-reported
returns-in-Do-clause-reported g c = λ file there leads.
    let refused = c.refuse-cut in
    let target = c.args.step.target.now in
    let text = c.args.step.request.now.text.now in
    let is : action_of target (request_in c.args.step.request.now).verb ≡ Some (Do c.in-Do.command target) = ap (action_of target) c.in-Do.is in
    let helped = c.help.ensures.hints file (ap (λ (state : Progress). file_at c.args.place state.used) refused.ensures.state ∙ there)
    (λ other long. let led = leads other in refused_tree c.in-Do.command target text led.0 file.history c.args.refusal long
    (subst (λ (found : Option Action). LeadsBy found text led.0 (Err c.args.refusal) file.history) is led.1)) in (
      helped.0,
      more_lines g.E.Sink c.args.err.now refused.new.err c.help.new.err (reported_of c.args.journals file.name text (Err c.args.refusal) []) helped.0
          (refused.ensures.reported file there) helped.1,
      helped.2,
      (λ whole. subst (λ (found : Option Action). AreHints (Err c.args.refusal) found file.name file.history helped.0) (sym is) (helped.3 whole)),
    )
