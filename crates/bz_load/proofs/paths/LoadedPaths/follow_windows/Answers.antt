use Rattle.bz_load.proofs.Words.{◌∙◌, ap, come_with, knows_text, or_parts, sym}
use Rattle.bz_load.proofs.PathSteps.{none_over}
use Rattle.bz_load.proofs.paths.LoadedPaths.follow_windows.Goals as goal

pub returns : goal.returns
returns c = λ before over listed text none.
    let own = or_parts (come_with text c.args.windows.now c.args.items.now) _ (sym (c.in_ok-insert_come.ensures text) ∙ none) in
    none_over text c.args.windows.now before c.args.items.now over own.0 (listed text (ap (λ paths. knows_text paths text) (sym c.self.view_is) ∙ own.1))
