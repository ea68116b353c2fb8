use Rattle.bz_streams.proofs.Imported.{◌++◌, ◌∙◌, ap, List, take-replicate, ℕ}
use Rattle.bz_streams.proofs.excerpt.put_spaces.Goals as goal

pub returns-clause-items : goal.returns-clause-items
returns-clause-items c = c.put.ensures.items ∙ ap (λ (spaces : List ℕ). c.args.text.now.items ++ spaces) (take-replicate c.args.count 200 32 c.requires.narrow)
