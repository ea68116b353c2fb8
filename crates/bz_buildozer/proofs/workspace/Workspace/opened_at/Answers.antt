use Rattle.std.proofs.Common.{◌∙◌, true, false, sym}
use Rattle.bz_buildozer.proofs.PlaceSteps.{found_open, found_there, none_found}
use Rattle.bz_buildozer.proofs.workspace.Workspace.opened_at.Goals as goal

pub returns-in-Some-clause-at : goal.returns-in-Some-clause-at
returns-in-Some-clause-at c = found_open c.deref.result.now c.self.inside.used.items c.args.self.now c.args.place c.in-Some.used.now true c.deref.ensures.value c.self.view_is
    c.in-Some.ensures (sym c.if-is_some.true ∙ c.is_some.ensures)

pub returns-in-Some-2-clause-at : goal.returns-in-Some-2-clause-at
returns-in-Some-2-clause-at c = found_open c.deref.result.now c.self.inside.used.items c.args.self.now c.args.place c.in-Some.used.now false c.deref.ensures.value c.self.view_is
    c.in-Some.ensures (sym c.if-is_some.false ∙ c.is_some.ensures)

pub returns-in-None-clause-at : goal.returns-in-None-clause-at
returns-in-None-clause-at c = none_found c.deref.result.now c.self.inside.used.items c.args.self.now c.args.place c.deref.ensures.value c.self.view_is c.in-None.ensures

pub returns-in-Some-clause-there : goal.returns-in-Some-clause-there
returns-in-Some-clause-there c = found_there c.args.place c.args.self.now (returns-in-Some-clause-at c)
