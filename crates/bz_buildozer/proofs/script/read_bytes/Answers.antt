use Rattle.bz_buildozer.proofs.Words.{◌∙◌, bytes_eq-Decides, inl, input_package, refl, sym}
use Rattle.bz_buildozer.proofs.UnreadSteps.{grows_none, grows_one}
use Rattle.bz_buildozer.proofs.script.read_bytes.Goals as goal

pub returns-in-Ok-clause-ok : goal.returns-in-Ok-clause-ok
returns-in-Ok-clause-ok g c = (
  (λ honest. inl ((bytes_eq-Decides c.args.name.now input_package).0 (sym c.eq.ensures ∙ c.if-eq.true), c.in-Ok.ensures.ok)),
  c.in-Ok.ensures.steady (λ is. cc),
  refl,
)

pub returns-in-Ok-clause-grows : goal.returns-in-Ok-clause-grows
returns-in-Ok-clause-grows g c = grows_none (g.F.Files.acts c.args.files.now)

pub returns-in-Err-Read-clause-grows : goal.returns-in-Err-Read-clause-grows
returns-in-Err-Read-clause-grows g c = grows_none (g.F.Files.acts c.args.files.now)

pub returns-in-Ok-read_most-clause-grows : goal.returns-in-Ok-read_most-clause-grows
returns-in-Ok-read_most-clause-grows g c = grows_one (g.F.Files.acts c.args.files.now) (g.F.Files.acts c.read_most-else-eq.new.self) _ c.read_most-else-eq.ensures.acts

pub returns-in-Err-Absent-clause-grows : goal.returns-in-Err-Absent-clause-grows
returns-in-Err-Absent-clause-grows g c = grows_one (g.F.Files.acts c.args.files.now) (g.F.Files.acts c.read_most-else-eq.new.self) _ c.read_most-else-eq.ensures.acts

pub returns-in-Err-Memory-read_most-clause-grows : goal.returns-in-Err-Memory-read_most-clause-grows
returns-in-Err-Memory-read_most-clause-grows g c = grows_one (g.F.Files.acts c.args.files.now) (g.F.Files.acts c.read_most-else-eq.new.self) _ c.read_most-else-eq.ensures.acts

pub returns-clause-grows : goal.returns-clause-grows
returns-clause-grows g c = grows_one (g.F.Files.acts c.args.files.now) (g.F.Files.acts c.read_most-else-eq.new.self) _ c.read_most-else-eq.ensures.acts
