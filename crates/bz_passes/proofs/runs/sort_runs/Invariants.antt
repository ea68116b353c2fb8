use Rattle.bz_passes.proofs.Words.{◌&&◌, ◌++◌, ◌≡◌, ◌≤◌, AllByRecursion, drop, is_lt, slice_range, sort_by, take, true}
use Rattle.bz_passes.proofs.runs.sort_runs.Given as goal

-- what is before the run is in order, and with the rest sorted it is the whole
abbrev pub invariant-loop-at : goal.invariant-loop-at
invariant-loop-at g l = record {
  order : l.from ≤ l.at;
  comparable : AllByRecursion (λ x. g.T.InRuns.compares x ≡ true) (slice_range l.items l.from l.at);
  sorts : take l.from l.items ++ sort_by (λ x y. g.T.InRuns.compares x && g.T.InRuns.compares y && is_lt (g.T.InRuns.order x y)) (drop l.from l.items)
      ≡ sort_by (λ x y. g.T.InRuns.compares x && g.T.InRuns.compares y && is_lt (g.T.InRuns.order x y)) l.fn.items;
}
