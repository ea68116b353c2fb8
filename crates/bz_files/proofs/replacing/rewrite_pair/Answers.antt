use Rattle.bz_files.proofs.Words.{[], ◌++◌, ◌∙◌, ◌∷◌, AreReplaced, Err, inl, inr, IsChecking, IsKeeping, IsReplaced, IsReplacing, journal_acts, Made, on_ok_weaker, OnOk, pair_acts, place_acts, refl, SameBeside, Saw}
use Rattle.bz_files.proofs.Acts.{after, counted_before, counted_on, last, rewritten}
use Rattle.bz_files.proofs.Keeping.{beside_file, both, first, given_up, keeping_after, replaced_both, same_beside, second}
use Rattle.bz_files.proofs.Orders.{broken, broken_after, broken_before, broken_off, fails, first_seen, joined, no_stamp, order_after, seen_since, stops}
use Rattle.bz_files.proofs.replacing.rewrite_pair.Goals as goal

pub returns-in-Ok-clause-rewrites : goal.returns-in-Ok-clause-rewrites
returns-in-Ok-clause-rewrites g c =
    let f = g.F.Files in
    let journal = c.args.journal.now in
    let stored = c.args.stored.now in
    let file = c.args.file.now in
    let held = c.args.held.now in
    let text = c.args.text.now in
    let old = f.folder c.create.new.self in
    let mid = f.folder c.put_journal.new.files in
    let put = c.put_journal.ensures.acts in
    let placed = c.place.ensures.acts in
    rewritten f g.met.F.Files.only_now g.met.F.Files.counts_now file held text (IsKeeping journal stored file text)
    (IsChecking held journal stored file text) (AreReplaced journal stored file text) (λ old now same. inl same) (λ old now there is. inr (there, is))
    (λ old now same. inl (beside_file journal file old now same)) (IsKeeping journal stored) (AreReplaced journal stored) c.place.result
    c.args.files.now c.look.new.self c.create.new.self c.place.new.files
    (λ old mid now same. keeping_after journal stored file text old mid (beside_file journal file old mid same) now)
    (λ old mid now same. replaced_both journal stored file text old mid (beside_file journal file old mid same) now) c.in_ok-stamp.ensures.held
    c.look.ensures.stays c.look.ensures.waiting (c.in_ok-stamp.ensures.counted.kept refl) c.look.ensures.counted.honest c.create.ensures.aside
    c.in_ok-create.ensures.made (c.in_ok-create.ensures.counted.kept refl) c.create.ensures.counted.honest (record {
      goes = λ honest rest file text is.
          let done : IsReplaced journal stored old mid = (c.in-Ok.ensures.acts.goes honest).done in
          after f c.create.new.self c.put_journal.new.files c.place.new.files (IsReplacing journal stored) (IsReplaced journal stored) (IsReplacing file text)
          (λ was now. OnOk c.place.result (IsReplaced file text was now)) (IsKeeping journal stored file text)
          (λ was now. OnOk c.place.result (AreReplaced journal stored file text was now)) (first journal stored file text old)
          (second journal stored file text old mid done) (on_ok_weaker c.place.result (both journal stored file text old mid done (f.folder c.place.new.files)))
          (c.in-Ok.ensures.acts.goes honest) (placed.goes (put.counted.honest ∙ honest) rest file text (put.waiting honest ∙ is));
      waiting = λ honest rest file text is. placed.waiting (put.counted.honest ∙ honest) rest file text (put.waiting honest ∙ is);
      counted = counted_on f c.place.result c.create.new.self c.put_journal.new.files c.place.new.files (c.in-Ok.ensures.acts.counted.kept refl) put.counted.honest
          placed.counted;
    })

pub returns-in-Err-clause-rewrites : goal.returns-in-Err-clause-rewrites
returns-in-Err-clause-rewrites g c =
    let f = g.F.Files in
    let journal = c.args.journal.now in
    let stored = c.args.stored.now in
    let file = c.args.file.now in
    let held = c.args.held.now in
    let text = c.args.text.now in
    let old = f.folder c.create.new.self in
    let put = c.put_journal.ensures.acts in
    let gone = c.give_up in
    rewritten f g.met.F.Files.only_now g.met.F.Files.counts_now file held text (IsKeeping journal stored file text)
    (IsChecking held journal stored file text) (AreReplaced journal stored file text) (λ old now same. inl same) (λ old now there is. inr (there, is))
    (λ old now same. inl (beside_file journal file old now same)) (IsKeeping journal stored) (AreReplaced journal stored) (Err c.in-Err.fault)
    c.args.files.now c.look.new.self c.create.new.self gone.new.self
    (λ old mid now same. keeping_after journal stored file text old mid (beside_file journal file old mid same) now)
    (λ old mid now same. replaced_both journal stored file text old mid (beside_file journal file old mid same) now) c.in_ok-stamp.ensures.held
    c.look.ensures.stays c.look.ensures.waiting (c.in_ok-stamp.ensures.counted.kept refl) c.look.ensures.counted.honest c.create.ensures.aside
    c.in_ok-create.ensures.made (c.in_ok-create.ensures.counted.kept refl) c.create.ensures.counted.honest (record {
      goes = λ honest rest file text is.
          let moment = last f g.met.F.Files.only_now g.met.F.Files.counts_now c.create.new.self c.put_journal.new.files (IsReplacing journal stored) _
          (inl (same_beside journal old old refl)) (put.goes honest) in
          after f c.create.new.self c.put_journal.new.files gone.new.self (IsReplacing journal stored) (λ _ _. Unit {0}) (SameBeside file) (SameBeside file)
          (IsKeeping journal stored file text) (λ _ _. Unit {0}) (first journal stored file text old)
          (given_up journal stored file text old (f.folder c.put_journal.new.files) moment) (λ _. tt) (c.in-Err.ensures.acts.goes honest)
          (gone.ensures.aside (put.counted.honest ∙ honest) rest file text (put.waiting honest ∙ is));
      waiting = λ honest rest file text is. gone.ensures.waiting (put.counted.honest ∙ honest) rest file text (put.waiting honest ∙ is);
      counted = counted_before f c.in-Err.fault c.create.new.self c.put_journal.new.files gone.new.self gone.ensures.faults gone.ensures.honest
          c.in-Err.ensures.acts.counted;
    })

pub put_journal-requires : goal.put_journal-requires
put_journal-requires g c =
    let f = g.F.Files in
    let stamp = c.in_ok-stamp.stamp in
    let file = c.args.file.now in
    let held = c.args.held.now in
    let mid = f.acts c.look.new.self in
    seen_since file held stamp mid (f.acts c.create.new.self) (Made file c.args.text.now stamp ∷ [])
    (first_seen file held stamp (f.acts c.args.files.now) mid c.in_ok-stamp.ensures.acts) (refl, tt) c.in_ok-create.ensures.acts

pub place-requires : goal.place-requires
place-requires g c =
    let f = g.F.Files in
    let stamp = c.in_ok-stamp.stamp in
    let file = c.args.file.now in
    let held = c.args.held.now in
    let text = Made file c.args.text.now stamp in
    let journal = journal_acts c.args.journal.now c.args.stored.now file held stamp in
    let mid = f.acts c.look.new.self in
    let put = f.acts c.put_journal.new.files in
    seen_since file held stamp mid put (text ∷ journal) (first_seen file held stamp (f.acts c.args.files.now) mid c.in_ok-stamp.ensures.acts)
    (refl, (tt, (refl, (tt, (tt, (tt, tt))))))
    (joined mid (f.acts c.create.new.self) put (text ∷ []) journal c.in_ok-create.ensures.acts c.in-Ok.ensures.ordered.whole)

pub returns-in_err-stamp-clause-ordered : goal.returns-in_err-stamp-clause-ordered
returns-in_err-stamp-clause-ordered g c =
    let f = g.F.Files in
    let order = pair_acts c.args.journal.now c.args.stored.now c.args.file.now c.args.held.now c.args.text.now no_stamp in
    let old = f.acts c.args.files.now in
    let new = f.acts c.look.new.self in (
      no_stamp,
      stops _ c.from_residual.result order old new c.from_residual.ensures.1 (fails order old new c.in_err-stamp.ensures.acts),
    )

pub returns-in_err-create-clause-ordered : goal.returns-in_err-create-clause-ordered
returns-in_err-create-clause-ordered g c =
    let f = g.F.Files in
    let stamp = c.in_ok-stamp.stamp in
    let first = Saw c.args.file.now c.args.held.now stamp in
    let rest = Made c.args.file.now c.args.text.now stamp ∷ journal_acts c.args.journal.now c.args.stored.now c.args.file.now c.args.held.now stamp ++ place_acts c.args.file.now c.args.held.now stamp in
    let old = f.acts c.args.files.now in
    let mid = f.acts c.look.new.self in
    let new = f.acts c.create.new.self in (
      stamp,
      stops _ c.from_residual-in_err-create.result (first ∷ rest) old new c.from_residual-in_err-create.ensures.1
          (broken_after (first ∷ []) rest old mid new c.in_ok-stamp.ensures.acts (fails rest mid new c.in_err-create.ensures.acts)),
    )

pub returns-in-Ok-clause-ordered : goal.returns-in-Ok-clause-ordered
returns-in-Ok-clause-ordered g c =
    let f = g.F.Files in
    let stamp = c.in_ok-stamp.stamp in
    let file = c.args.file.now in
    let held = c.args.held.now in
    let first = Saw file held stamp in
    let second = Made file c.args.text.now stamp in
    let journal = journal_acts c.args.journal.now c.args.stored.now file held stamp in
    let order = place_acts file held stamp in
    let old = f.acts c.args.files.now in
    let made = f.acts c.create.new.self in
    let put = f.acts c.put_journal.new.files in
    let begun = joined old (f.acts c.look.new.self) made (first ∷ []) (second ∷ []) c.in_ok-stamp.ensures.acts c.in_ok-create.ensures.acts in (
      stamp,
      order_after c.place.result (first ∷ second ∷ journal) order old put (f.acts c.place.new.files)
          (joined old made put (first ∷ second ∷ []) journal begun c.in-Ok.ensures.ordered.whole) c.place.ensures.ordered,
    )

pub returns-in-Err-clause-ordered : goal.returns-in-Err-clause-ordered
returns-in-Err-clause-ordered g c =
    let f = g.F.Files in
    let stamp = c.in_ok-stamp.stamp in
    let file = c.args.file.now in
    let held = c.args.held.now in
    let first = Saw file held stamp in
    let second = Made file c.args.text.now stamp in
    let journal = journal_acts c.args.journal.now c.args.stored.now file held stamp in
    let order = place_acts file held stamp in
    let old = f.acts c.args.files.now in
    let made = f.acts c.create.new.self in
    let put = f.acts c.put_journal.new.files in
    let begun = joined old (f.acts c.look.new.self) made (first ∷ []) (second ∷ []) c.in_ok-stamp.ensures.acts c.in_ok-create.ensures.acts in
    let new = f.acts c.give_up.new.self in (
      stamp,
      broken c.in-Err.fault (first ∷ second ∷ journal ++ order) old new (broken_off (first ∷ second ∷ journal ++ order) old put new
          (broken_after (first ∷ second ∷ []) (journal ++ order) old made put begun (broken_before journal order made put c.in-Err.ensures.ordered.front))
          c.give_up.ensures.acts),
    )
