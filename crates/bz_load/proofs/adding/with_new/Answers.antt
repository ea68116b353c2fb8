use Rattle.std.proofs.Common.{◌≤◌, length, subst}
use Rattle.bz_load.proofs.PutSteps.{other_new, put_at}
use Rattle.bz_load.proofs.adding.with_new.Goals as goal

pub returns-clause-windows : goal.returns-clause-windows
returns-clause-windows c =
    let at = c.place_after_loads-at.result in
    let all = c.into_vec-all.result.items in
    let within : at ≤ length all = subst (λ xs. at ≤ length xs) c.as_slice.ensures.value c.place_after_loads-at.ensures.within in
    c.in_ok-windows_of.ensures.over c.args.items c.from_vec.result (other_new at c.args.load c.args.items all c.insert.new.self.items c.from_vec.result c.into_vec-all.ensures within c.in_ok-insert.ensures.items c.from_vec.ensures)
    (put_at at c.args.load c.args.items all c.insert.new.self.items c.from_vec.result c.into_vec-all.ensures within c.in_ok-insert.ensures.items c.from_vec.ensures)

pub returns-clause-same : goal.returns-clause-same
returns-clause-same c =
    let at = c.place_after_loads-at.result in
    let all = c.into_vec-all.result.items in
    c.in_ok-windows_of.ensures.same c.args.items c.from_vec.result
    (other_new at c.args.load c.args.items all c.insert.new.self.items c.from_vec.result c.into_vec-all.ensures (subst (λ xs. at ≤ length xs) c.as_slice.ensures.value c.place_after_loads-at.ensures.within) c.in_ok-insert.ensures.items c.from_vec.ensures)
