use Rattle.bz_journal.proofs.Words.{◌∙◌, ◌≡◌, ◌⊎◌, ap, AreBuild, arith, common_steps, effect, Err, IfErr, IfOk, IsProper, IsProperCommand, IsTrue, Item, item_made, List, marked_places, meant, on_each, on_meant, option_copied, Overfills, Refusal, Result, subst, sym}
use Rattle.bz_journal.proofs.GrownItems.{ones_proper, one_by_one}
use Rattle.bz_journal.proofs.filling.overfills.Goals as goal

pub are_past-requires-clause-places : goal.are_past-requires-clause-places
are_past-requires-clause-places c =
    let work = c.args.work in
    let are : c.in-Some.places.items ≡ marked_places 0 (meant work.target.now.which work.lines.now c.args.file.now) = grind (arith, common_steps) in
    c.as_slice.ensures.value ∙ (are ∙ ap (λ (items : List Item). marked_places 0 (meant work.target.now.which work.lines.now items)) (sym (c.as_slice-2.ensures ∙ c.file.view_is)))

pub are_past-requires-clause-proper : goal.are_past-requires-clause-proper
are_past-requires-clause-proper c =
    ones_proper c.args.work.command.now c.args.work.current.now (option_copied c.copied.result) c.args.file.now c.as_slice-2.result.now
    (subst IsProperCommand c.command.view_is c.command.invariant) (subst IsProper c.file.view_is c.file.invariant) c.copied.ensures (c.as_slice-2.ensures ∙ c.file.view_is)

pub are_past-requires-clause-build : goal.are_past-requires-clause-build
are_past-requires-clause-build c =
    let work = c.args.work in
    let each : effect work.command.now work.target.now work.current.now work.lines.now c.args.file.now ≡ on_each work.command.now work.current.now (meant work.target.now.which work.lines.now c.args.file.now) c.args.file.now = grind (arith, common_steps) in
    let own : Result (List Item) Refusal = on_meant (item_made work.command.now work.current.now (option_copied c.copied.result)) (meant work.target.now.which work.lines.now c.as_slice-2.result.now) c.as_slice-2.result.now in
    one_by_one work.command.now work.target.now.which work.lines.now work.current.now (option_copied c.copied.result) c.args.file.now c.as_slice-2.result.now _ c.copied.ensures (c.as_slice-2.ensures ∙ c.file.view_is) each
    (λ items made. IfOk made AreBuild → IfOk own AreBuild) (λ build. build) c.requires

pub returns-clause-ok : goal.returns-clause-ok
returns-clause-ok c =
    let work = c.args.work in
    let each : effect work.command.now work.target.now work.current.now work.lines.now c.args.file.now ≡ on_each work.command.now work.current.now (meant work.target.now.which work.lines.now c.args.file.now) c.args.file.now = grind (arith, common_steps) in
    one_by_one work.command.now work.target.now.which work.lines.now work.current.now (option_copied c.copied.result) c.args.file.now c.as_slice-2.result.now _ c.copied.ensures (c.as_slice-2.ensures ∙ c.file.view_is) each
    (λ items made. IfOk c.are_past.result (λ over. IsTrue over → Overfills items made)) c.are_past.ensures.ok

pub returns-clause-err : goal.returns-clause-err
returns-clause-err c =
    let work = c.args.work in
    let each : effect work.command.now work.target.now work.current.now work.lines.now c.args.file.now ≡ on_each work.command.now work.current.now (meant work.target.now.which work.lines.now c.args.file.now) c.args.file.now = grind (arith, common_steps) in
    one_by_one work.command.now work.target.now.which work.lines.now work.current.now (option_copied c.copied.result) c.args.file.now c.as_slice-2.result.now _ c.copied.ensures (c.as_slice-2.ensures ∙ c.file.view_is) each
    (λ items made. IfErr c.are_past.result (λ refusal. (made ≡ Err refusal) ⊎ (refusal ≡ Refusal.Memory))) c.are_past.ensures.err
