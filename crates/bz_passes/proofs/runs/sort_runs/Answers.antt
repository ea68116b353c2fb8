use Rattle.std.proofs.Common.{◌+◌, Bool, arith, rules, not, sym}
use Rattle.std.specs.Ordering.{is_lt}
use Rattle.bz_passes.proofs.{Sorting.none_yet, Sorting.run_out, Sorting.climbs_stays, Sorting.compared, Stable.answers_climb}
use Rattle.bz_passes.proofs.runs.sort_runs.Goals as goal

pub returns-then-is_sorted_by : goal.returns-then-is_sorted_by
returns-then-is_sorted_by g c =
    let before : g.row.T.Denot → g.row.T.Denot → Bool = compared g.T.InRuns.compares (λ x y. is_lt (g.T.InRuns.order x y)) in
    sym (climbs_stays before _ (answers_climb (λ x y. not (before y x)) _ _ c.is_sorted_by.ensures.cases (λ h a b h' k. search rules) c.if-is_sorted_by.true))

pub loop-at-preserved : goal.loop-at-preserved
loop-at-preserved g c =
    let before : g.row.T.Denot → g.row.T.Denot → Bool = λ x y. is_lt (g.T.InRuns.order x y) in
    record {
      order = omega arith;
      comparable = none_yet g.T.InRuns.compares before _ (c.loop-at.at + 1);
      sorts = run_out g.T.InRuns.compares before c.loop-at.items c.sort_run.new.run _ c.loop-at.from c.loop-at.at c.index-items-at.result
          c.loop-at.invariant.order (omega arith) c.index-items-at.is (search rules) c.in_ok-sort_run.ensures c.loop-at.invariant.sorts;
    }
