use Rattle.bz_passes.proofs.Words.{◌-◌, ◌∙◌, ◌≡◌, ap, AreLoads, arith, drop_all, false, IsPartitionPoint-from_clause, length, load_precedes, not, option_map_or, precedes_last, rules, slice_get, subst, sym, take_all}
use Rattle.bz_passes.proofs.{Pieces.InOrder, Pieces.by_last, Pieces.ordered_drop, Single.AllLater, Single.parted, Single.placed_back, Sorting.ordered_by}
use Rattle.bz_passes.proofs.windows.place_back.Goals as goal

pub returns-then-not-is_some_and-clause-place : goal.returns-then-not-is_some_and-clause-place
returns-then-not-is_some_and-clause-place c = λ o.
    let item = c.args.item.now in
    let others = c.args.others.now in
    let last : option_map_or (load_precedes item) (slice_get others (length others - 1)) false ≡ false = search rules in
    record {
      later = subst (AllLater item) (sym (drop_all (length others) others (omega arith))) tt;
      stops = ap (precedes_last item) (take_all (length others) others (omega arith)) ∙ (by_last (load_precedes item) others ∙ last);
    }

pub returns-clause-place : goal.returns-clause-place
returns-clause-place c = λ o.
    let item = c.args.item.now in
    let others = c.args.others.now in
    let start = c.start_of_run-start in
    let loads = c.split_at.result.1.now in
    let is = c.split_at.ensures.back in
    placed_back item start.result others loads is c.partition_point.result c.partition_point.ensures.bound start.ensures.whole
    (IsPartitionPoint-from_clause (λ y. not (load_precedes item y)) loads c.partition_point.result c.partition_point.ensures.partitioned
    (parted item loads (subst InOrder (sym is) (ordered_drop start.result others (ordered_by load_precedes others o))) (subst AreLoads (sym is) start.ensures.loads))
    (λ a r f' k. search rules))
