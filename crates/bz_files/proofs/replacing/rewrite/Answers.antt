use Rattle.bz_files.proofs.Words.{[], ◌∷◌, inl, IsReplaced, IsReplacing, Made, place_acts, refl, rewrite_acts, Saw}
use Rattle.bz_files.proofs.Acts.{rewritten}
use Rattle.bz_files.proofs.Keeping.{replaced_after, replacing, same_beside}
use Rattle.bz_files.proofs.Orders.{broken_after, fails, first_seen, joined, no_stamp, order_after, seen_since, stops}
use Rattle.bz_files.proofs.replacing.rewrite.Goals as goal

pub returns-clause-rewrites : goal.returns-clause-rewrites
returns-clause-rewrites g c =
    let name = c.args.name.now in
    let bytes = c.args.bytes.now in
    let P = IsReplacing name bytes in
    rewritten g.F.Files g.met.F.Files.only_now g.met.F.Files.counts_now name c.args.held.now bytes P P (IsReplaced name bytes)
    (λ old now same. inl (same_beside name old now same)) (λ old now there is. is) (λ old now same. inl same) IsReplacing IsReplaced c.place.result
    c.args.files.now c.look.new.self c.create.new.self c.place.new.files (replacing name bytes) (replaced_after name bytes) c.in_ok-stamp.ensures.held
    c.look.ensures.stays c.look.ensures.waiting (c.in_ok-stamp.ensures.counted.kept refl) c.look.ensures.counted.honest c.create.ensures.aside
    c.in_ok-create.ensures.made (c.in_ok-create.ensures.counted.kept refl) c.create.ensures.counted.honest c.place.ensures.acts

pub place-requires : goal.place-requires
place-requires g c =
    let f = g.F.Files in
    let stamp = c.in_ok-stamp.stamp in
    let name = c.args.name.now in
    let held = c.args.held.now in
    let mid = f.acts c.look.new.self in
    seen_since name held stamp mid (f.acts c.create.new.self) (Made name c.args.bytes.now stamp ∷ [])
    (first_seen name held stamp (f.acts c.args.files.now) mid c.in_ok-stamp.ensures.acts) (refl, tt) c.in_ok-create.ensures.acts

pub returns-in_err-stamp-clause-ordered : goal.returns-in_err-stamp-clause-ordered
returns-in_err-stamp-clause-ordered g c =
    let f = g.F.Files in
    let order = rewrite_acts c.args.name.now c.args.held.now c.args.bytes.now no_stamp in
    let old = f.acts c.args.files.now in
    let new = f.acts c.look.new.self in (
      no_stamp,
      stops _ c.from_residual.result order old new c.from_residual.ensures.1 (fails order old new c.in_err-stamp.ensures.acts),
    )

pub returns-in_err-create-clause-ordered : goal.returns-in_err-create-clause-ordered
returns-in_err-create-clause-ordered g c =
    let f = g.F.Files in
    let stamp = c.in_ok-stamp.stamp in
    let first = Saw c.args.name.now c.args.held.now stamp in
    let rest = Made c.args.name.now c.args.bytes.now stamp ∷ place_acts c.args.name.now c.args.held.now stamp in
    let old = f.acts c.args.files.now in
    let mid = f.acts c.look.new.self in
    let new = f.acts c.create.new.self in (
      stamp,
      stops _ c.from_residual-in_err-create.result (first ∷ rest) old new c.from_residual-in_err-create.ensures.1
          (broken_after (first ∷ []) rest old mid new c.in_ok-stamp.ensures.acts (fails rest mid new c.in_err-create.ensures.acts)),
    )

pub returns-clause-ordered : goal.returns-clause-ordered
returns-clause-ordered g c =
    let f = g.F.Files in
    let stamp = c.in_ok-stamp.stamp in
    let name = c.args.name.now in
    let held = c.args.held.now in
    let first = Saw name held stamp in
    let second = Made name c.args.bytes.now stamp in
    let old = f.acts c.args.files.now in
    let made = f.acts c.create.new.self in (
      stamp,
      order_after c.place.result (first ∷ second ∷ []) (place_acts name held stamp) old made (f.acts c.place.new.files)
          (joined old (f.acts c.look.new.self) made (first ∷ []) (second ∷ []) c.in_ok-stamp.ensures.acts c.in_ok-create.ensures.acts) c.place.ensures.ordered,
    )
