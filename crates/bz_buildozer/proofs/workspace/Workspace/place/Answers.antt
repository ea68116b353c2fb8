use Rattle.bz_buildozer.proofs.Words.{◌∙◌, ap, map, package_number, used_in}
use Rattle.bz_buildozer.proofs.PlaceSteps.{place_found}
use Rattle.bz_buildozer.proofs.workspace.Workspace.place.Goals as goal

pub returns : goal.returns
returns c = c.get_index_of.ensures.index
    ∙ place_found c.self.inside.names.keys c.args.package.now (map used_in c.self.inside.used.items) c.self.invariant
    ∙ ap (package_number c.args.package.now) c.self.view_is
