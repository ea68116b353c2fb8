use Rattle.bz_buildozer.proofs.Words.{[], ◌∙◌, ap, Bytes, inl, inr, IsLeft, List, None, package_number, refl, subst, sym, Taken, taken_in, true≢false, Used, Uses, wanting_name, World}
use Rattle.bz_buildozer.proofs.{FailSteps.last_within, FailSteps.uses_input, PlaceSteps.opened_last, PlaceSteps.place_last, StandSteps.key_known, UnreadSteps.grows_none}
use Rattle.bz_buildozer.proofs.workspace.Workspace.open.Goals as goal

pub put-place-requires : goal.put-place-requires
put-place-requires g c = last_within c.in-Ok.place c.args.self.now c.add.new.self (record { «package» = c.as_bytes-2.result.now; file = None }) c.in-Ok.ensures.place c.in-Ok.ensures.ok

pub open_file-requires-clause-new : goal.open_file-requires-clause-new
open_file-requires-clause-new g c = sym (c.place.ensures ∙ ap (λ (name : Bytes). package_number name c.args.self.now) c.as_bytes.ensures.value) ∙ c.in_default.is

pub open_file-requires-clause-other : goal.open_file-requires-clause-other
open_file-requires-clause-other g c = c.reads_input.ensures.other c.if-not-reads_input.true

pub returns-in-Some-clause-uses : goal.returns-in-Some-clause-uses
returns-in-Some-clause-uses g c = λ can known acts left among.
    let number = sym (c.place.ensures ∙ ap (λ (name : Bytes). package_number name c.args.self.now) c.as_bytes.ensures.value) ∙ c.in-Some.is in
    let key = key_known c.args.self.now (g.F.Files.folder c.args.files.now) c.args.package.now c.in-Some.place number in
    ([], (c.in-Some.place, inl (ap (λ (name : Bytes). package_number name c.args.self.now) key ∙ number, refl, refl), c.opened_at.ensures.at), left, (refl, refl))

pub returns-then-not-reads_input-clause-uses : goal.returns-then-not-reads_input-clause-uses
returns-then-not-reads_input-clause-uses g c = λ can known acts left among. elim can [
  | inl honest ↦ c.open_file.ensures.uses honest known acts (g.R.Source.remaining c.args.input.now) left among
  | inr is ↦ absurd (c.reads_input.ensures.other c.if-not-reads_input.true is.0 is.1)
]

pub returns-then-not-reads_input-clause-folder : goal.returns-then-not-reads_input-clause-folder
returns-then-not-reads_input-clause-folder g c = λ can. elim can [
  | inl honest ↦ c.open_file.ensures.files.folder honest
  | inr is ↦ absurd (c.reads_input.ensures.other c.if-not-reads_input.true is.0 is.1)
]

pub returns-in_default-add-clause-uses : goal.returns-in_default-add-clause-uses
returns-in_default-add-clause-uses g c = λ can known acts left among.
    let none = sym (c.place.ensures ∙ ap (λ (name : Bytes). package_number name c.args.self.now) c.as_bytes.ensures.value) ∙ c.in_default.is in
    let lines = wanting_name c.args.package.now in
    let same = c.in_default-add.ensures.err in
    let world : World = record { folder = g.F.Files.folder c.args.files.now; known = known; acts = acts } in (
      lines,
      subst (λ (taken : Taken). Uses taken.cut c.args.journals world c.args.package.now c.args.self.now None lines c.add.new.self) (sym c.unnamed.ensures.taken)
          (none, refl, inl (same, refl)),
      subst (λ (used : List Used). IsLeft known used (g.R.Source.remaining c.args.input.now)) (sym same) left,
      c.unnamed.ensures.told,
    )

pub returns-clause-uses : goal.returns-clause-uses
returns-clause-uses g c = λ can known acts left among.
    let old = c.args.self.now in
    let file = taken_in c.open_input-file.result in
    let number = c.put-place in
    uses_input g.E.Sink (record { folder = g.F.Files.folder c.args.files.now; known = known; acts = acts }) c.args.journals c.args.package.now (g.R.Source.remaining c.args.input.now)
    (g.R.Source.remaining c.open_input-file.new.input) old number.new.self c.open_input-file.result.cut file number.result c.args.err.now c.open_input-file.new.err
    (c.reads_input.ensures.yes c.if-not-reads_input.false) (sym (c.place.ensures ∙ ap (λ (name : Bytes). package_number name c.args.self.now) c.as_bytes.ensures.value) ∙ c.in_default.is)
    (opened_last c.in-Ok.place old c.add.new.self number.new.self c.as_bytes-2.result.now c.args.package.now file c.in-Ok.ensures.place c.as_bytes-2.ensures.value c.in-Ok.ensures.ok number.ensures.put)
    (place_last c.in-Ok.place old file number.result c.in-Ok.ensures.place number.ensures.place) c.open_input-file.ensures.takes left

pub returns-in_default-add-clause-some : goal.returns-in_default-add-clause-some
returns-in_default-add-clause-some g c = λ kept honest. absurd (true≢false (sym kept ∙ (c.reads_input.ensures.yes c.if-not-reads_input.false).0))

pub returns-clause-some : goal.returns-clause-some
returns-clause-some g c = λ kept honest. absurd (true≢false (sym kept ∙ (c.reads_input.ensures.yes c.if-not-reads_input.false).0))

pub returns-clause-time : goal.returns-clause-time
returns-clause-time g c = λ kept honest. absurd (true≢false (sym kept ∙ (c.reads_input.ensures.yes c.if-not-reads_input.false).0))

pub returns-in-Some-clause-some : goal.returns-in-Some-clause-some
returns-in-Some-clause-some g c = λ kept honest.
    let number = sym (c.place.ensures ∙ ap (λ (name : Bytes). package_number name c.args.self.now) c.as_bytes.ensures.value) ∙ c.in-Some.is in
    let key = key_known c.args.self.now (g.F.Files.folder c.args.files.now) c.args.package.now c.in-Some.place number in
    inl (c.in-Some.place, ap (λ (name : Bytes). package_number name c.args.self.now) key ∙ number, refl, c.opened_at.ensures.at)

pub returns-in-Some-clause-grows : goal.returns-in-Some-clause-grows
returns-in-Some-clause-grows g c = grows_none (g.F.Files.acts c.args.files.now)

pub returns-in_default-add-clause-grows : goal.returns-in_default-add-clause-grows
returns-in_default-add-clause-grows g c = grows_none (g.F.Files.acts c.args.files.now)

pub returns-clause-grows : goal.returns-clause-grows
returns-clause-grows g c = grows_none (g.F.Files.acts c.args.files.now)

pub returns-then-not-reads_input-clause-grows : goal.returns-then-not-reads_input-clause-grows
returns-then-not-reads_input-clause-grows g c = c.open_file.ensures.grows
