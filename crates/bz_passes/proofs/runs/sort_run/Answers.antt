use Rattle.std.proofs.Common.{rules, Bool, sym, ◌∙◌}
use Rattle.std.specs.Ordering.{is_lt}
use Rattle.bz_passes.proofs.{Sorting.run_sorted, Stable.from_sort_by}
use Rattle.bz_passes.proofs.runs.sort_run.Goals as goal

pub returns : goal.returns
returns g c =
    let before : g.row.T.Denot → g.row.T.Denot → Bool = λ x y. is_lt (g.T.InRuns.order x y) in
    from_sort_by before g.met.T.InRuns.ranks _ _ c.in_ok-sort_by.ensures.sorted c.in_ok-sort_by.ensures.stable (λ h a r h' k. search rules)
    ∙ sym (run_sorted g.T.InRuns.compares before c.args.run.now c.requires)
