use Rattle.bz_load.proofs.Words.{◌∙◌, ap, knows_text, sym}
use Rattle.bz_load.proofs.paths.LoadedPaths.has.Goals as goal

pub returns : goal.returns
returns c = λ items listed none.
    let text = c.args.text.now in
    listed text (ap (λ paths. knows_text paths text) (sym c.self.view_is) ∙ (sym c.has_text.ensures ∙ none))
