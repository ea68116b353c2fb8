use Rattle.bz_command.proofs.Words.{◌≡◌, effect_by, IsProper, IsProperCommand, Ok, rules}
use Rattle.bz_value.specs.LineShapes.{whole_grammar}
use Rattle.bz_command.proofs.running.change.Goals as goal

pub invariant_of-file-2 : goal.invariant_of-file-2
invariant_of-file-2 c =
    let command : IsProperCommand c.args.work.command.now = search rules in
    let proper : IsProper c.args.file.now = search rules in
    let made : effect_by c.args.work c.args.file.now ≡ Ok c.in_ok-changed.changed.items = search rules in
    c.effects_stay_proper.ensures whole_grammar _ c.args.work.target.now _ _ _ _ command proper made
