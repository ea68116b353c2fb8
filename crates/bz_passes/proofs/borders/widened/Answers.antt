use Rattle.bz_passes.proofs.Words.{[], ◌-◌, ◌∷◌, ◌≤◌, AreSetApart, arith, length, subst, sym}
use Rattle.bz_passes.proofs.Joining.{before_all, wide_apart}
use Rattle.bz_passes.proofs.borders.widened.Goals as goal

pub returns : goal.returns
returns c =
    let window = c.args.window in
    let first = c.start_of_run-start in
    let last = c.end_of_run in
    let within : window.from ≤ length c.args.items.now = omega (arith, c.requires) in
    let start = before_all window.from first.result c.args.items.now c.split_at.result.0.now within c.split_at.ensures.front first.ensures.bound first.ensures.whole in
    subst (λ gone. AreSetApart (window ∷ []) (record { from = first.result; gone = gone; come = last.result - first.result } ∷ []) c.args.items.now) (sym c.in_ok-gone.ensures)
    (wide_apart window first.result last.result c.args.items.now c.requires start.0 last.ensures.bound.0 last.ensures.bound.1 start.1 last.ensures.whole)
