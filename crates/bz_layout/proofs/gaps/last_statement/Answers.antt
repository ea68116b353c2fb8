use Rattle.bz_layout.proofs.Words.{◌+◌, ◌-◌, ◌∙◌, ◌∷◌, ap, arith, drop, drop_more, sym, ℕ}
use Rattle.bz_layout.proofs.Windows.{gap_from}
use Rattle.bz_layout.proofs.gaps.last_statement.Goals as goal

pub returns-in-Stmt-clause-gap : goal.returns-in-Stmt-clause-gap
returns-in-Stmt-clause-gap c = λ gap.
    let at : ℕ = c.loop-place.place - 1 in
    let items = c.args.items.now in
    gap_from gap gap at c.args.count items (drop (at + 1) items) c.in-Stmt.field-0 (omega (arith, c.loop-place-test.true, c.loop-place.invariant))
    (drop_more items at c.index-items-place.result (omega (arith, c.loop-place-test.true, c.loop-place.invariant, c.requires)) ∙ ap (λ item. item ∷ drop (at + 1) items) (sym c.index-items-place.is ∙ c.in-Stmt.is))
