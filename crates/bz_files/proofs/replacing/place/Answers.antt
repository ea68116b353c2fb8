use Rattle.bz_files.proofs.Words.{[], ◌∙◌, ◌∷◌, inl, IsReplaced, IsReplacing, OnOk, place_acts, refl, SameBeside, SawAgain, TookPlace}
use Rattle.bz_files.proofs.{Acts.after_look, Acts.counted_before, Acts.counted_on, Acts.on_ok_all, Keeping.same_beside, Orders.broken, Orders.broken_off, Orders.fails, Orders.one_act, Orders.order_after}
use Rattle.bz_files.proofs.replacing.place.Goals as goal

pub returns-in-Ok-clause-there : goal.returns-in-Ok-clause-there
returns-in-Ok-clause-there g c = λ honest. on_ok_all c.take_place.result _ (c.in-Ok.ensures.held honest)

pub returns-in-Ok-clause-acts : goal.returns-in-Ok-clause-acts
returns-in-Ok-clause-acts g c =
    let f = g.F.Files in
    let old = c.args.files.now in
    let seen = c.look.ensures in
    let taken = c.take_place in
    record {
      goes = λ honest rest name bytes is.
          after_look f old c.look.new.self taken.new.self (IsReplacing name bytes) (λ was now. OnOk taken.result (IsReplaced name bytes was now))
          (IsReplacing name bytes) (λ was now. OnOk taken.result (IsReplaced name bytes was now)) (λ now same. inl (same_beside name (f.folder old) now same))
          (λ now it. it) (λ ok. ok) (seen.stays honest) (taken.ensures.replaced (seen.counted.honest ∙ honest) rest name bytes (seen.waiting honest ∙ is));
      waiting = λ honest rest name bytes is. taken.ensures.waiting (seen.counted.honest ∙ honest) rest name bytes (seen.waiting honest ∙ is);
      counted = counted_on f taken.result old c.look.new.self taken.new.self (c.in-Ok.ensures.counted.kept refl) seen.counted.honest taken.ensures.counted;
    }

pub returns-in-Err-clause-acts : goal.returns-in-Err-clause-acts
returns-in-Err-clause-acts g c =
    let f = g.F.Files in
    let old = c.args.files.now in
    let seen = c.look.ensures in
    let gone = c.give_up in
    record {
      goes = λ honest rest name bytes is.
          after_look f old c.look.new.self gone.new.self (SameBeside name) (SameBeside name) (IsReplacing name bytes) (λ _ _. Unit {0})
          (λ now same. inl (same_beside name (f.folder old) now same)) (λ now same. inl same) (λ _. tt) (seen.stays honest)
          (gone.ensures.aside (seen.counted.honest ∙ honest) rest name bytes (seen.waiting honest ∙ is));
      waiting = λ honest rest name bytes is. gone.ensures.waiting (seen.counted.honest ∙ honest) rest name bytes (seen.waiting honest ∙ is);
      counted = counted_before f c.in-Err.fault old c.look.new.self gone.new.self gone.ensures.faults gone.ensures.honest c.in-Err.ensures.counted;
    }

pub returns-in-Ok-clause-ordered : goal.returns-in-Ok-clause-ordered
returns-in-Ok-clause-ordered g c =
    let f = g.F.Files in
    let seen = c.args.seen in
    let taken = c.take_place in
    order_after taken.result (SawAgain seen.file.now seen.held.now seen.stamp ∷ []) (TookPlace ∷ []) (f.acts c.args.files.now) (f.acts c.look.new.self) (f.acts taken.new.self)
    c.in-Ok.ensures.acts (one_act taken.result TookPlace (f.acts c.look.new.self) (f.acts taken.new.self) taken.ensures.acts)

pub returns-in-Err-clause-ordered : goal.returns-in-Err-clause-ordered
returns-in-Err-clause-ordered g c =
    let f = g.F.Files in
    let seen = c.args.seen in
    let order = place_acts seen.file.now seen.held.now seen.stamp in
    let old = f.acts c.args.files.now in
    let new = f.acts c.give_up.new.self in
    broken c.in-Err.fault order old new
    (broken_off order old (f.acts c.look.new.self) new (fails order old (f.acts c.look.new.self) c.in-Err.ensures.acts) c.give_up.ensures.acts)
