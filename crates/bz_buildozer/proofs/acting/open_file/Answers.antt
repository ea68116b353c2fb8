use Rattle.std.proofs.Common.{◌∙◌, None, Some, refl, subst, sym, true≢false}
use Rattle.std.specs.Prelude.{IsSome}
use Rattle.bz_buildozer.proofs.PlaceSteps.{looked_up}
use Rattle.bz_buildozer.proofs.acting.open_file.Goals as goal

pub file_of-requires : goal.file_of-requires
file_of-requires c = subst IsSome (sym (looked_up c.used.result.now c.used.result.now c.args.workspace.now c.args.place (Some c.in-Some.used.now) refl c.used.ensures c.in-Some.ensures)) c.requires

pub unreachable-requires : goal.unreachable-requires
unreachable-requires c =
    true≢false (sym (subst IsSome (sym (looked_up c.used.result.now c.used.result.now c.args.workspace.now c.args.place None refl c.used.ensures c.in-None.ensures)) c.requires))

pub returns : goal.returns
returns c = sym (looked_up c.used.result.now c.used.result.now c.args.workspace.now c.args.place (Some c.in-Some.used.now) refl c.used.ensures c.in-Some.ensures) ∙ c.file_of.ensures
