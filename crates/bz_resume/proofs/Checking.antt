-- A keeping that reads the file first.
use Rattle.bz_resume.proofs.Words.{⊎_elim, ◌∙◌, ◌≡◌, ◌≢◌, ◌≤◌, ◌⊎◌, ap, AreReplaced, Elapses, Err, false≢true, FileFault, FileFault as q, FileStamp, Folder, get, Ghosts as FilesOf, IfErr, inl, inr, IsChecking, IsErr, IsErrOf, IsOk, IsUntouched, journal_name, KeepsHeld, KeepsOrder, List, Ok, on_ok_weaker, OnOk, other_stays, pair_acts, PairFault, PairFault as p, Read, reads_back, refl, Result, RewritesHeld, Rises, Some, subst, Survives, true, WhereResuming, with_act, with_acts, with_file, ℕ}
use Rattle.bz_files.specs.Folder.{Text}
use Rattle.bz_files.specs.declared.files.FileKind.TheVariants as k
use Rattle.bz_files.proofs.{Acts.Do, Acts.after_look, Acts.each, Elapsing.weakened, Elapsing.each_since, Orders.Acts, Orders.pair_reads, Orders.reads_on, Orders.reads_one}
use Rattle.bz_resume.proofs.Names.{journal_file, journal_is_old}
use Rattle.bz_resume.proofs.Surviving.{checked, kept, others_kept, goes_on}

-- a value is no error
pub never_err : {T E : Type 0} (x : T) (y : E) → IsErrOf {T = T} {E = E} (Ok x) y → ⊥
never_err x y is = cc

pub of_ok : {T E : Type 0} (r : Result T E) (P : Type 0) → IsOk r → OnOk r P → P
of_ok (Ok x) P is p = p
of_ok (Err e) P is p = absurd (false≢true is)

pub ok_alone : {E : Type 0} (r : Result (Unit {0}) E) → IsOk r → r ≡ Ok tt
ok_alone (Ok tt) is = refl
ok_alone (Err e) is = absurd (false≢true is)

pub memory_alone : {T : Type 0} (r : Result T FileFault) → IfErr r (λ fault. fault ≢ q.Write) → (IsErrOf r q.Memory) ⊎ (IsErrOf r q.Write) → r ≡ Err q.Memory
memory_alone r other (inl is) = is
memory_alone (Ok x) other (inr is) = absurd (never_err x q.Write is)
memory_alone (Err fault) other (inr is) = let same : fault ≡ q.Write = cc in absurd (other same)

pub as_read : (file : Text) (a b : Acts) (read : Result (Unit {0}) FileFault) → b ≡ with_act a (Read file k.Regular read) → read ≡ Ok tt
    → b ≡ with_act a (Read file k.Regular (Ok tt))
as_read file a b read is whole = is ∙ ap (λ (r : Result (Unit {0}) FileFault). with_act a (Read file k.Regular r)) whole

-- the errors of what only reads
pub other_fault : (X : Type 0) (fault : PairFault) → fault ≢ p.Write → (IsErrOf {T = Unit {0}} (Err fault) p.Memory → X)
    → IsErrOf {T = Unit {0}} (Err fault) p.Changed ⊎ (IsErrOf {T = Unit {0}} (Err fault) p.Open ⊎ (IsErrOf {T = Unit {0}} (Err fault) p.Memory × X))
other_fault X p.Memory other memory = inr (inr (refl, memory refl))
other_fault X p.Open other memory = inr (inl refl)
other_fault X p.Changed other memory = inl refl
other_fault X p.Write other memory = absurd (other refl)

no_write : (fault : PairFault) → fault ≢ p.Write → IsErrOf {T = Unit {0}} (Err fault) p.Write → ⊥
no_write fault other is = let same : fault ≡ p.Write = cc in other same

-- where both are replaced the journal has its bytes
both_there : (file : Text) (stored text : List ℕ) (old now : Folder) → AreReplaced (journal_name file) stored file text old now → get now (journal_name file) ≡ Some stored
both_there file stored text old now same = same (journal_name file) (journal_is_old file)
    ∙ other_stays (with_file old (journal_name file) stored) file (journal_name file) text (journal_file file) ∙ reads_back old (journal_name file) stored

-- at a moment the journal is as it was, or has its bytes
journal_then : (file standing : Text) (stored text : List ℕ) (old now : Folder) → IsChecking standing (journal_name file) stored file text old now
    → (get now (journal_name file) ≡ get old (journal_name file)) ⊎ (get now (journal_name file) ≡ Some stored)
journal_then file standing stored text old now (inl same) = inl (ap (λ (f : Folder). get f (journal_name file)) same)
journal_then file standing stored text old now (inr (there, inl same)) = inl (same (journal_name file) (journal_is_old file))
journal_then file standing stored text old now (inr (there, inr (inl same))) =
    inr (same (journal_name file) (journal_is_old file) ∙ reads_back old (journal_name file) stored)
journal_then file standing stored text old now (inr (there, inr (inr same))) = inr (both_there file stored text old now same)

-- what comes of a rewrite is an Ok, or a Write
abbrev pub answered : Result (Unit {0}) FileFault → Result (Unit {0}) PairFault
answered (Ok x) = Ok x
answered (Err fault) = Err p.Write

carried : (X : Type 0) (r : Result (Unit {0}) FileFault) → OnOk r X → OnOk (answered r) X
carried X (Ok x) is = is
carried X (Err fault) is = tt

only_write : (X : Type 0) (r : Result (Unit {0}) FileFault) → IfErr (answered r) (λ fault. fault ≢ p.Write → X)
only_write X (Ok x) = tt
only_write X (Err fault) = λ other. absurd (other refl)

no_changed : (r : Result (Unit {0}) FileFault) → IsErrOf (answered r) p.Changed → ⊥
no_changed (Ok x) is = cc
no_changed (Err fault) is = cc

is_err : (r : Result (Unit {0}) FileFault) (fault : PairFault) → IsErrOf (answered r) fault → IsErr r
is_err (Ok x) fault is = absurd cc
is_err (Err cause) fault is = refl

is_ok : (r : Result (Unit {0}) FileFault) → (IsErrOf (answered r) p.Write → ⊥) → IsOk r
is_ok (Ok x) none = refl
is_ok (Err fault) none = absurd (none refl)

module _ {F : Type 0} (files : FilesOf F) (only : (held : F) (now : Folder) → files.since held (files.moment held) now → now ≡ files.folder held)
    (counts : (held : F) (t : ℕ) → t ≤ files.moment held → files.since held t (files.folder held)) (file standing stored text : Text) where
  abbrev P : Folder → Folder → Type 0
  P = IsChecking standing (journal_name file) stored file text

  abbrev Q : Folder → Folder → Type 0
  Q = AreReplaced (journal_name file) stored file text

  -- where nothing was touched
  pub unkept : (fault : PairFault) (old new : F) → fault ≢ p.Write → (files.honest old ≡ true → Do files IsUntouched IsUntouched old new)
      → (files.honest old ≡ true → IsErrOf {T = Unit {0}} (Err fault) p.Changed → get (files.folder old) file ≢ Some standing)
      → (IsErrOf {T = Unit {0}} (Err fault) p.Open → Rises (files.faults old) (files.faults new))
      → ((IsErrOf {T = Unit {0}} (Err fault) p.Open → ⊥) → files.faults new ≡ files.faults old) → files.faults old ≤ files.faults new → files.honest new ≡ files.honest old
      → (read : Result (Unit {0}) FileFault) → files.acts new ≡ with_act (files.acts old) (Read file k.Regular read)
      → (files.honest old ≡ true → get (files.folder old) file ≢ Some standing → IsErrOf {T = Unit {0}} (Err fault) p.Memory → read ≡ Err q.Memory)
      → KeepsHeld files file standing stored text (Err fault) old new
  unkept fault old new kinds reads changed cause rest count honest read act refused =
      let still : files.honest old ≡ true → (now : Folder) → files.since new (files.moment old) now → now ≡ files.folder old =
      λ is. each files only counts old new IsUntouched IsUntouched refl (reads is) in
      record {
        each = λ is h after es may now stood. inl (still is now stood);
        time = λ is h after es may. weakened (files.moment old) (files.moment new) (files.since old) (files.since new) (IsUntouched (files.folder old)) _
            (λ now same. inl same) (reads is).time;
        resumes = λ is h after es may now stood. goes_on file h after (files.folder old) now may.resumes (inl (still is now stood));
        kept = λ _. tt;
        stored = λ is now stood. inl (ap (λ (f : Folder). get f (journal_name file)) (still is now stood));
        journal = λ _. tt;
        checked = λ is other. other_fault _ fault kinds (λ memory. act ∙ ap (λ (r : Result (Unit {0}) FileFault). with_act (files.acts old) (Read file k.Regular r)) (refused is other memory));
        apart = λ is _. still is;
        changed = changed;
        untouched = λ is _. still is;
        ordered = tt;
        alone = λ _. (read, act);
        regular = reads_one (files.acts old) (files.acts new) (Read file k.Regular read) refl act;
        cause = ⊎_elim (λ err. absurd (no_write fault kinds err)) cause;
        rest = λ _. rest;
        count = count;
        honest = honest;
      }

  -- where the file was read, and what it holds is replaced
  module _ (old mid new : F) (honest : files.honest mid ≡ files.honest old) (faults : files.faults mid ≡ files.faults old)
      (there : files.honest old ≡ true → get (files.folder old) file ≡ Some standing) (reads : files.honest old ≡ true → Do files IsUntouched IsUntouched old mid)
      (act : files.acts mid ≡ with_act (files.acts old) (Read file k.Regular (Ok tt))) where
    goes : (r : Result (Unit {0}) FileFault) → RewritesHeld files file standing P Q r mid new → files.honest old ≡ true → Do files P (λ was now. OnOk r (Q was now)) old new
    goes r acts is = after_look files old mid new P (λ was now. OnOk r (Q was now)) P (λ was now. OnOk r (Q was now)) (λ now same. inl same) (λ now it. it) (λ ok. ok) (reads is)
        (record { time = acts.time (honest ∙ is); done = acts.replaced (honest ∙ is) })

    by_name : (r : Result (Unit {0}) FileFault) → RewritesHeld files file standing P Q r mid new
        → ((stamp : FileStamp) × KeepsOrder (pair_acts (journal_name file) stored file standing text stamp) r (files.acts mid) (files.acts new))
        → KeepsHeld files file standing stored text (answered r) old new
    by_name r acts (stamp, order) = record {
      each = λ is. each_now is;
      time = λ is. time is;
      resumes = λ is h after es may now stood. goes_on file h after (files.folder old) now may.resumes (each_now is h after es may now stood);
      kept = λ is. carried _ r (on_ok_weaker r (λ same h after es may. (
        kept file standing stored text h after es (files.folder old) may (there is) (files.folder new) same,
        others_kept file standing stored text h after es (files.folder old) may (there is) (files.folder new) same,
      )) (goes r acts is).done);
      stored = λ is now stood. journal_then file standing stored text (files.folder old) now
          (each files only counts old new P (λ was now. OnOk r (Q was now)) (inl refl) (goes r acts is) now stood);
      journal = λ is. carried _ r (on_ok_weaker r (λ same. both_there file stored text (files.folder old) (files.folder new) same) (goes r acts is).done);
      checked = λ is other. absurd (other (there is));
      apart = λ is other. absurd (other (there is));
      changed = λ _ err. absurd (no_changed r err);
      untouched = λ _. only_write _ r;
      ordered = carried _ r (on_ok_weaker r (λ is. (stamp, is ∙ ap (λ (a : Acts). with_acts a (pair_acts (journal_name file) stored file standing text stamp)) act)) order.whole);
      alone = only_write _ r;
      regular = reads_on (files.acts old) (files.acts mid) (files.acts new) (reads_one (files.acts old) (files.acts mid) (Read file k.Regular (Ok tt)) refl act)
          (pair_reads r (journal_name file) stored file standing text (files.acts mid) (files.acts new) (stamp, order));
      cause = λ err. subst (λ (n : ℕ). Rises n (files.faults new)) faults (acts.counted.cause (⊎_elim (is_err r p.Write) (is_err r p.Open) err));
      rest = λ none _. acts.counted.kept (is_ok r none) ∙ faults;
      count = subst (λ (n : ℕ). n ≤ files.faults new) faults acts.counted.count;
      honest = acts.counted.honest ∙ honest;
    }
      where
        time : (is : files.honest old ≡ true) → WhereResuming (files.folder old) file standing stored text (λ h after. Elapses (files.moment old) (files.moment new)
            (files.since old) (files.since new) (λ now. (now ≡ files.folder old) ⊎ Survives file h after (files.folder old) now))
        time is h after es may = weakened (files.moment old) (files.moment new) (files.since old) (files.since new) (P (files.folder old)) _
            (checked file standing stored text h after es (files.folder old) may) (goes r acts is).time

        each_now : (is : files.honest old ≡ true) → WhereResuming (files.folder old) file standing stored text (λ h after. (now : Folder) → files.since new (files.moment old) now
            → (now ≡ files.folder old) ⊎ Survives file h after (files.folder old) now)
        each_now is h after es may = each_since (files.moment old) (files.moment new) (files.since old) (files.since new) _ (time is h after es may)
            (λ now stood. inl (only old now stood))

    pub held : (journal : Text) → journal ≡ journal_name file → (r : Result (Unit {0}) FileFault)
        → RewritesHeld files file standing (IsChecking standing journal stored file text) (AreReplaced journal stored file text) r mid new
        → ((stamp : FileStamp) × KeepsOrder (pair_acts journal stored file standing text stamp) r (files.acts mid) (files.acts new))
        → KeepsHeld files file standing stored text (answered r) old new
    held journal named r acts order = by_name r
        (subst (λ (j : Text). RewritesHeld files file standing (IsChecking standing j stored file text) (AreReplaced j stored file text) r mid new) named acts)
        (subst (λ (j : Text). (stamp : FileStamp) × KeepsOrder (pair_acts j stored file standing text stamp) r (files.acts mid) (files.acts new)) named order)
