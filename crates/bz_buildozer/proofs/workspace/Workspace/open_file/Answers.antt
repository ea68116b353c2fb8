use Rattle.bz_buildozer.proofs.Words.{[], ◌∙◌, ◌≡◌, acts_over, ap, arith, Bool, Bytes, IfSome, inl, inr, IsLeft, IsOpenedIn, key_in, key_of, List, MeansUntil, None, package_number, refl, Settled, settled, subst, sym, Taken, taken_in, true, Used, Uses, wanting_name, World}
use Rattle.bz_buildozer.proofs.{FailSteps.last_within, FailSteps.means_opened, FailSteps.uses_read, PlaceSteps.opened_last, PlaceSteps.place_last, StandSteps.key_unknown, UnreadSteps.among_all, UnreadSteps.grows_none}
use Rattle.bz_buildozer.proofs.workspace.Workspace.open_file.Goals as goal

pub open_settled-file-requires : goal.open_settled-file-requires
open_settled-file-requires g c = let short = c.in-Ok.ensures.fits in let fits = c.requires.fits in omega (arith, short, fits)

pub put-place-requires : goal.put-place-requires
put-place-requires g c = last_within c.in-Ok-add.place c.args.self.now c.add.new.self (record { «package» = c.as_bytes-2.result.now; file = None }) c.in-Ok-add.ensures.place c.in-Ok-add.ensures.ok

pub returns-in_default-clause-uses : goal.returns-in_default-clause-uses
returns-in_default-clause-uses g c = λ honest known acts remaining left among.
    let lines = wanting_name c.args.path.now in
    let world : World = record { folder = g.F.Files.folder c.args.files.now; known = known; acts = acts } in (
      lines,
      subst (λ (taken : Taken). Uses taken.cut c.args.journals world c.args.path.now c.args.self.now None lines c.args.self.now) (sym c.unnamed.ensures.taken)
          (c.requires.new, refl, inl (refl, refl)),
      left,
      c.unnamed.ensures.told,
    )

pub returns-in-Some-clause-uses : goal.returns-in-Some-clause-uses
returns-in-Some-clause-uses g c = λ honest known acts remaining left among.
    let folder = g.F.Files.folder c.args.files.now in
    let key : c.key_of-key.result.now ≡ key_in c.args.self.now folder c.args.path.now =
    c.key_of-key.ensures ∙ ap (key_of c.args.path.now) (c.in-Ok.ensures.means honest) ∙ sym (key_unknown c.args.self.now folder c.args.path.now c.requires.new) in
    let number = sym (c.place.ensures ∙ ap (λ (name : Bytes). package_number name c.args.self.now) (c.as_bytes.ensures.value ∙ key)) ∙ c.in-Some.is in
    ([], (c.in-Some.place, inl (number, refl, refl), c.opened_at-place.ensures.at), left, (refl, refl))

pub returns-in_default-add-clause-uses : goal.returns-in_default-add-clause-uses
returns-in_default-add-clause-uses g c = λ honest known acts remaining left among.
    let lines = wanting_name c.args.path.now in
    let same = c.in_default-add.ensures.err in
    let world : World = record { folder = g.F.Files.folder c.args.files.now; known = known; acts = acts } in (
      lines,
      subst (λ (taken : Taken). Uses taken.cut c.args.journals world c.args.path.now c.args.self.now None lines c.add.new.self) (sym c.unnamed-in_default-add.ensures.taken)
          (c.requires.new, refl, inl (same, refl)),
      subst (λ (used : List Used). IsLeft known used remaining) (sym same) left,
      c.unnamed-in_default-add.ensures.told,
    )

pub returns-clause-uses : goal.returns-clause-uses
returns-clause-uses g c = λ honest known acts remaining left among.
    let folder = g.F.Files.folder c.args.files.now in
    let path = c.args.path.now in
    let old = c.args.self.now in
    let meant = c.in-Ok.ensures.means honest in
    let key : c.key_of-key.result.now ≡ key_in old folder path = c.key_of-key.ensures ∙ ap (key_of path) meant ∙ sym (key_unknown old folder path c.requires.new) in
    let file = taken_in c.open_settled-file.result in
    let number = c.put-place in
    let opens = c.open_settled-file.ensures.opens acts among in
    uses_read g.E.Sink (g.F.Files.honest c.args.files.now ≡ true) (record { folder = folder; known = known; acts = acts }) c.args.journals path c.key_of-key.result.now remaining
    old number.new.self c.open_settled-file.result.cut file number.result c.args.err.now c.open_settled-file.new.err honest c.requires.other c.requires.new key
    (sym (c.place.ensures ∙ ap (λ (name : Bytes). package_number name old) c.as_bytes.ensures.value) ∙ c.in_default-place.is)
    (opened_last c.in-Ok-add.place old c.add.new.self number.new.self c.as_bytes-2.result.now c.key_of-key.result.now file c.in-Ok-add.ensures.place c.as_bytes-2.ensures.value
    c.in-Ok-add.ensures.ok number.ensures.put) (place_last c.in-Ok-add.place old file number.result c.in-Ok-add.ensures.place number.ensures.place) (
      opens.0,
      (λ trusted. subst (λ (s : Settled). MeansUntil c.open_settled-file.result.cut c.args.journals acts folder path s file opens.0) meant (opens.1 trusted meant)),
      opens.2,
    ) left

pub returns-in_default-clause-some : goal.returns-in_default-clause-some
returns-in_default-clause-some g c = λ kept honest. inr (inl (refl, refl))

pub returns-in_default-add-clause-some : goal.returns-in_default-add-clause-some
returns-in_default-add-clause-some g c = λ kept honest. inr (inl (c.in_default-add.ensures.err, refl))

pub returns-in-Some-clause-some : goal.returns-in-Some-clause-some
returns-in-Some-clause-some g c = λ kept honest.
    let folder = g.F.Files.folder c.args.files.now in
    let key : c.key_of-key.result.now ≡ key_in c.args.self.now folder c.args.path.now =
    c.key_of-key.ensures ∙ ap (key_of c.args.path.now) (c.in-Ok.ensures.means honest) ∙ sym (key_unknown c.args.self.now folder c.args.path.now c.requires.new) in
    let number = sym (c.place.ensures ∙ ap (λ (name : Bytes). package_number name c.args.self.now) (c.as_bytes.ensures.value ∙ key)) ∙ c.in-Some.is in
    inl (c.in-Some.place, number, refl, c.opened_at-place.ensures.at)

pub returns-clause-some : goal.returns-clause-some
returns-clause-some g c = λ kept honest.
    let folder = g.F.Files.folder c.args.files.now in
    let path = c.args.path.now in
    let old = c.args.self.now in
    let meant = c.in-Ok.ensures.means honest in
    let unknown = key_unknown old folder path c.requires.new in
    let key : c.key_of-key.result.now ≡ key_in old folder path = c.key_of-key.ensures ∙ ap (key_of path) meant ∙ sym unknown in
    let file = taken_in c.open_settled-file.result in
    let all = acts_over g.F.Files c.args.files.now c.open_settled-file.new.files in
    let opens = c.open_settled-file.ensures.opens all (among_all (g.F.Files.acts c.args.files.now) (g.F.Files.acts c.open_settled-file.new.files)) in
    let means = subst (λ (s : Settled). MeansUntil c.open_settled-file.result.cut c.args.journals all folder path s file opens.0) meant (opens.1 honest meant) in
    inr (inr (
      sym (c.place.ensures ∙ ap (λ (name : Bytes). package_number name old) (c.as_bytes.ensures.value ∙ key)) ∙ c.in_default-place.is,
      file,
      opened_last c.in-Ok-add.place old c.add.new.self c.put-place.new.self c.as_bytes-2.result.now (key_in old folder path) file c.in-Ok-add.ensures.place
          (c.as_bytes-2.ensures.value ∙ key) c.in-Ok-add.ensures.ok c.put-place.ensures.put,
      place_last c.in-Ok-add.place old file c.put-place.result c.in-Ok-add.ensures.place c.put-place.ensures.place,
      subst (λ (k : Bytes). IfSome file (IsOpenedIn true folder k)) (sym unknown)
          (subst (λ (b : Bool). IfSome file (IsOpenedIn b folder (key_of path (settled folder path)))) kept
          (means_opened c.open_settled-file.result.cut c.args.journals all folder path (settled folder path) file opens.0 refl means)),
    ))

pub returns-in_default-clause-grows : goal.returns-in_default-clause-grows
returns-in_default-clause-grows g c = grows_none (g.F.Files.acts c.args.files.now)

pub returns-in-Some-clause-grows : goal.returns-in-Some-clause-grows
returns-in-Some-clause-grows g c = grows_none (g.F.Files.acts c.args.files.now)

pub returns-in_default-add-clause-grows : goal.returns-in_default-add-clause-grows
returns-in_default-add-clause-grows g c = grows_none (g.F.Files.acts c.args.files.now)

pub returns-clause-grows : goal.returns-clause-grows
returns-clause-grows g c = c.open_settled-file.ensures.grows
