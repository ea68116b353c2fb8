use Rattle.bz_buildozer.proofs.Words.{codes, Cut as cut, input_package, InputUntil, named_line, refl, stdin, taken_in, Takes}
use Rattle.bz_buildozer.proofs.{FailSteps.fails_as, FailSteps.memory_until, PlaceSteps.input_takes}
use Rattle.bz_buildozer.proofs.opening.open_input.Goals as goal

pub returns-in-Ok-clause-takes : goal.returns-in-Ok-clause-takes
returns-in-Ok-clause-takes g c =
    let known = g.R.Source.remaining c.args.input.now in
    let opened = c.open_text in
    memory_until g.E.Sink (Takes input_package stdin c.in-Ok.text.items) (λ why. InputUntil why known) (named_line stdin (codes "Memory")) opened.result.cut (taken_in opened.result) c.args.err.now opened.new.err
    (λ lines. input_takes known input_package stdin c.in-Ok.text.items (taken_in opened.result) lines c.in-Ok.ensures.ok) (λ closed. (closed, refl))
    opened.ensures.whole opened.ensures.cut opened.ensures.told

pub returns-in-Err-Read-clause-takes : goal.returns-in-Err-Read-clause-takes
returns-in-Err-Read-clause-takes g c =
    fails_as g.E.Sink (λ why. InputUntil why (g.R.Source.remaining c.args.input.now)) c.fail.result cut.Read c.args.err.now c.fail.new.err _ c.fail.ensures.taken (refl, refl)
    c.fail.ensures.reported

pub returns-in-Err-Memory-clause-takes : goal.returns-in-Err-Memory-clause-takes
returns-in-Err-Memory-clause-takes g c =
    fails_as g.E.Sink (λ why. InputUntil why (g.R.Source.remaining c.args.input.now)) c.fail-in-Err-Memory.result cut.Memory c.args.err.now c.fail-in-Err-Memory.new.err _
    c.fail-in-Err-Memory.ensures.taken (refl, refl) c.fail-in-Err-Memory.ensures.reported
