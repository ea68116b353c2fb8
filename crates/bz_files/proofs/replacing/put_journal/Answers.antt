use Rattle.bz_files.proofs.Words.{[], ◌++◌, ◌∙◌, ◌∷◌, Err, err_from_is_err_and, Flushed, inl, inr, IsReplaced, IsReplacing, Made, Ok, place_acts, refl}
use Rattle.bz_files.proofs.Acts.{before_flush, counted_on, not_made, placed_after, put_after}
use Rattle.bz_files.proofs.Keeping.{replaced_after, replacing, same_beside}
use Rattle.bz_files.proofs.Orders.{broken_after, broken_before, fails, joined, one_act, order_after, seen_since, stops}
use Rattle.bz_files.proofs.replacing.put_journal.Goals as goal

pub returns-in_err-create-clause-acts : goal.returns-in_err-create-clause-acts
returns-in_err-create-clause-acts g c =
    let journal = c.args.journal.now in
    let P = IsReplacing journal c.args.stored.now in
    let Q = IsReplaced journal c.args.stored.now in
    let fault = c.in_err-create.field-0.0 in
    let flushed = c.flush.ensures in
    let p = err_from_is_err_and c.from_residual-in_err-create.result c.from_residual-in_err-create.ensures.1 in
    rw (p.1, p.2) (put_after g.F.Files P P Q (Err fault) c.args.files.now c.flush.new.self c.create.new.self
    (λ now same. inl (same_beside journal _ now same)) (λ _ now it. it) flushed.stays flushed.waiting (c.in_ok-flush.ensures.counted.kept refl)
    flushed.counted.honest (not_made g.F.Files journal c.args.stored.now P Q (λ old now same. inl same) fault c.flush.new.self c.create.new.self
    c.create.ensures.aside c.in_err-create.ensures.unmade c.in_err-create.ensures.counted))

pub returns-in_err-place-clause-acts : goal.returns-in_err-place-clause-acts
returns-in_err-place-clause-acts g c =
    let journal = c.args.journal.now in
    let stored = c.args.stored.now in
    let P = IsReplacing journal stored in
    let Q = IsReplaced journal stored in
    let failed = Err c.in_err-place.field-0.0 in
    let flushed = c.flush.ensures in
    let p = err_from_is_err_and c.from_residual-in_err-place.result c.from_residual-in_err-place.ensures.1 in
    rw (p.1, p.2) (put_after g.F.Files P P Q failed c.args.files.now c.flush.new.self c.place.new.files
    (λ now same. inl (same_beside journal _ now same)) (λ _ now it. it) flushed.stays flushed.waiting (c.in_ok-flush.ensures.counted.kept refl)
    flushed.counted.honest (placed_after g.F.Files journal stored P Q (λ old now same. inl same) IsReplacing IsReplaced failed c.flush.new.self
    c.create.new.self c.place.new.files (replacing journal stored) (replaced_after journal stored) c.create.ensures.aside
    c.in_ok-create.ensures.made (c.in_ok-create.ensures.counted.kept refl) c.create.ensures.counted.honest c.in_err-place.ensures.acts))

pub returns-clause-acts : goal.returns-clause-acts
returns-clause-acts g c =
    let f = g.F.Files in
    let journal = c.args.journal.now in
    let stored = c.args.stored.now in
    let P = IsReplacing journal stored in
    let Q = IsReplaced journal stored in
    let old = c.args.files.now in
    let mid = c.place.new.files in
    let last = c.flush-2 in
    let flushed = c.flush.ensures in
    let placed = Ok c.in_ok-place.field-0 in
    let put = put_after f P P Q placed old c.flush.new.self mid (λ now same. inl (same_beside journal _ now same)) (λ _ now it. it) flushed.stays
    flushed.waiting (c.in_ok-flush.ensures.counted.kept refl) flushed.counted.honest (placed_after f journal stored P Q (λ old now same. inl same)
    IsReplacing IsReplaced placed c.flush.new.self c.create.new.self mid (replacing journal stored) (replaced_after journal stored)
    c.create.ensures.aside c.in_ok-create.ensures.made (c.in_ok-create.ensures.counted.kept refl) c.create.ensures.counted.honest
    c.in_ok-place.ensures.acts) in
    record {
      goes = λ is. before_flush f old mid last.new.self P Q last.result (λ done. inr done) (put.goes is) (last.ensures.stays (put.counted.honest ∙ is));
      waiting = λ is. last.ensures.waiting (put.counted.honest ∙ is) ∙ put.waiting is;
      counted = counted_on f last.result old mid last.new.self (put.counted.kept refl) put.counted.honest last.ensures.counted;
    }

pub place-requires : goal.place-requires
place-requires g c =
    let f = g.F.Files in
    let seen = c.args.seen in
    let journal = Made c.args.journal.now c.args.stored.now seen.stamp in
    let old = f.acts c.args.files.now in
    let made = f.acts c.create.new.self in
    seen_since seen.file.now seen.held.now seen.stamp old made (Flushed seen.file.now ∷ journal ∷ []) c.requires (tt, (refl, tt))
    (joined old (f.acts c.flush.new.self) made (Flushed seen.file.now ∷ []) (journal ∷ []) c.in_ok-flush.ensures.acts c.in_ok-create.ensures.acts)

pub returns-in_err-create-clause-ordered : goal.returns-in_err-create-clause-ordered
returns-in_err-create-clause-ordered g c =
    let f = g.F.Files in
    let seen = c.args.seen in
    let file = seen.file.now in
    let rest = Made c.args.journal.now c.args.stored.now seen.stamp ∷ place_acts file seen.held.now seen.stamp ++ Flushed file ∷ [] in
    let old = f.acts c.args.files.now in
    let mid = f.acts c.flush.new.self in
    let new = f.acts c.create.new.self in
    stops _ c.from_residual-in_err-create.result (Flushed file ∷ rest) old new c.from_residual-in_err-create.ensures.1
    (broken_after (Flushed file ∷ []) rest old mid new c.in_ok-flush.ensures.acts (fails rest mid new c.in_err-create.ensures.acts))

pub returns-in_err-place-clause-ordered : goal.returns-in_err-place-clause-ordered
returns-in_err-place-clause-ordered g c =
    let f = g.F.Files in
    let seen = c.args.seen in
    let file = seen.file.now in
    let journal = Made c.args.journal.now c.args.stored.now seen.stamp in
    let order = place_acts file seen.held.now seen.stamp in
    let old = f.acts c.args.files.now in
    let made = f.acts c.create.new.self in
    let new = f.acts c.place.new.files in
    stops _ c.from_residual-in_err-place.result (Flushed file ∷ journal ∷ order ++ Flushed file ∷ []) old new c.from_residual-in_err-place.ensures.1
    (broken_after (Flushed file ∷ journal ∷ []) (order ++ Flushed file ∷ []) old made new
    (joined old (f.acts c.flush.new.self) made (Flushed file ∷ []) (journal ∷ []) c.in_ok-flush.ensures.acts c.in_ok-create.ensures.acts)
    (broken_before order (Flushed file ∷ []) made new c.in_err-place.ensures.ordered.front))

pub returns-clause-ordered : goal.returns-clause-ordered
returns-clause-ordered g c =
    let f = g.F.Files in
    let seen = c.args.seen in
    let file = seen.file.now in
    let journal = Made c.args.journal.now c.args.stored.now seen.stamp in
    let order = place_acts file seen.held.now seen.stamp in
    let old = f.acts c.args.files.now in
    let made = f.acts c.create.new.self in
    let put = f.acts c.place.new.files in
    let last = c.flush-2 in
    order_after last.result (Flushed file ∷ journal ∷ order) (Flushed file ∷ []) old put (f.acts last.new.self)
    (joined old made put (Flushed file ∷ journal ∷ []) order
    (joined old (f.acts c.flush.new.self) made (Flushed file ∷ []) (journal ∷ []) c.in_ok-flush.ensures.acts c.in_ok-create.ensures.acts)
    c.in_ok-place.ensures.ordered.whole) (one_act last.result (Flushed file) put (f.acts last.new.self) last.ensures.acts)
