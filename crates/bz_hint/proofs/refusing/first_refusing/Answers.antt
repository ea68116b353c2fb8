use Rattle.bz_hint.proofs.Words.{◌∙◌, option_copied, refuses, rules}
use Rattle.bz_hint.proofs.Rules.{passed_over}
use Rattle.bz_hint.proofs.refusing.first_refusing.Goals as goal

pub loop-item-preserved : goal.loop-item-preserved
loop-item-preserved c =
    let work = c.args.work in
    let passes = refuses work.command.now work.target.now.which work.current.now (option_copied work.found) in
    passed_over passes work.lines.now c.args.items.now c.loop-item.at c.loop-item.item-index c.item-item.result c.in_default.field-0 (search rules) (search rules) (search rules) (search rules)
    ∙ c.loop-item.invariant
