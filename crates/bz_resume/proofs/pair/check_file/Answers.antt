use Rattle.bz_resume.proofs.Words.{◌∙◌, ◌≡◌, ap, inl, inr, None, on_ok_weaker, Some, sym}
use Rattle.bz_files.proofs.Fronts.{shows}
use Rattle.bz_resume.proofs.Checking.{memory_alone, of_ok, ok_alone}
use Rattle.bz_resume.proofs.pair.check_file.Goals as goal

pub returns-clause-ok : goal.returns-clause-ok
returns-clause-ok g c = λ honest. on_ok_weaker c.compared.result (λ same.
    let found = of_ok c.read_most-read.result _ same.0 (c.read_most-read.ensures.found honest) in
    let shown = shows c.args.standing.now found.0 c.new-held.result.items c.read_most-read.new.into.items c.as_slice.result.now found.2 c.new-held.ensures.items
    c.as_slice.ensures.value in
    found.1 ∙ ap Some (shown.0 same.1)) c.compared.ensures.ok

pub returns-clause-changed : goal.returns-clause-changed
returns-clause-changed g c = λ honest changed there. elim (c.compared.ensures.changed.0 changed) [
  | inl absent ↦ let both : None ≡ Some c.args.standing.now = sym (c.read_most-read.ensures.absent honest absent) ∙ there in cc
  | inr other ↦
      let found = of_ok c.read_most-read.result _ other.0 (c.read_most-read.ensures.found honest) in
      let shown = shows c.args.standing.now found.0 c.new-held.result.items c.read_most-read.new.into.items c.as_slice.result.now found.2 c.new-held.ensures.items
      c.as_slice.ensures.value in
      let same : Some found.0 ≡ Some c.args.standing.now = sym found.1 ∙ there in
      other.1 (shown.1 cc)
]

pub returns-clause-cause : goal.returns-clause-cause
returns-clause-cause g c = λ unread. c.read_most-read.ensures.cause (c.compared.ensures.open.0 unread)

pub returns-clause-rest : goal.returns-clause-rest
returns-clause-rest g c = λ none. c.read_most-read.ensures.kept (λ unread. none (c.compared.ensures.open.1 unread))

pub returns-clause-acts : goal.returns-clause-acts
returns-clause-acts g c =
    let read = c.read_most-read.result in (
      read,
      c.read_most-read.ensures.acts,
      λ ok. ok_alone read (of_ok c.compared.result _ ok c.compared.ensures.ok).0,
      λ memory. memory_alone read c.read_most-read.ensures.kinds (c.compared.ensures.memory memory),
    )
