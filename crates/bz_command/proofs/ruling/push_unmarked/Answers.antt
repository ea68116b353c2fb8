use Rattle.bz_command.proofs.Words.{[], ◌++◌, ◌∙◌, ◌∷◌, changed_at}
use Rattle.bz_command.proofs.ruling.push_unmarked.Goals as goal

pub returns-then-mark-clause-grown : goal.returns-then-mark-clause-grown
returns-then-mark-clause-grown c = λ before rest grown.
    let kept = c.args.kept.now.items in
    let item = c.args.item in
    c.put_window.ensures.grown before (kept ++ item ∷ rest) (kept ++ rest) grown (changed_at c.len.result kept (item ∷ []) [] rest (c.len.ensures ∙ c.args.kept.now.ok.0))
