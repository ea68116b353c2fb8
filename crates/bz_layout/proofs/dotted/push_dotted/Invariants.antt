use Rattle.bz_layout.proofs.Words.{◌++◌, ◌≡◌, fronts, length, Lines, map, pushed, row_written}
use Rattle.bz_value.specs.declared.value.Expr.TheVariants as e
use Rattle.bz_layout.proofs.JoinedNames.{after_all}
use Rattle.bz_layout.proofs.dotted.push_dotted.Given as goal

-- the row of all forms is that of the one that is reached and what follows it in those that it is in
abbrev pub invariant-loop-front : goal.invariant-loop-front
invariant-loop-front l = (mode : Lines) → row_written mode l.margin l.form ≡ row_written mode l.margin l.at ++ after_all l.margin (map (λ f. f.now) l.outer.items)

abbrev pub decreases-loop-front : goal.decreases-loop-front
decreases-loop-front l = fronts (e.Form l.at)

abbrev pub invariant-loop-next : goal.invariant-loop-next
invariant-loop-next l = (mode : Lines) → pushed l.out (after_all l.margin (map (λ f. f.now) l.outer.items)) ≡ pushed l.fn.out (row_written mode l.margin l.form)

abbrev pub decreases-loop-next : goal.decreases-loop-next
decreases-loop-next l = length l.outer.items
