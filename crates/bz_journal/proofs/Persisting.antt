-- What keeping an action leaves, by its ways out.
use Rattle.bz_journal.proofs.Words.{[], ◌∙◌, ◌≡◌, ◌≢◌, ◌⊎◌, Action, Answer, ap, arith, Bytes, Edit, Err, err_from_is_err_and, false≢true, Folder, get, HasActed, History, IfSome, inl, inr, IsErrAnd, IsErrOf, IsSavedSession, IsWrittenSince, Journal, journal_name, journal_text, KeepsFile, KeepsHeld, KeepsPair, List, MatchResult, MayResume, None, Ok, Option, option_flatten, option_map, PairFault, PairFault as p, present, refl, Refusal, Reply, Result, result_ok, Resumes, saved, session_history, SessionState, Some, sym, Vec, Written, ℕ}
use Rattle.std.specs.declared.alloc.Global.{Global}
use Rattle.bz_files.specs.declared.files.Files.{Ghosts as FilesOf}
use Rattle.bz_files.proofs.{Elapsing.stays, Orders.none_read}
use Rattle.bz_resume.proofs.Checking.{never_err}
use Rattle.bz_journal.specs.{declared.keeping.KeepFault.KeepFault, declared.keeping.KeepFault.TheVariants.Pair, declared.keeping.KeepFault.TheVariants.Refused, Keeping.IsWriteOrOpen}
use Rattle.bz_journal.proofs.Following.{Goes, goes}

abbrev Both : PairFault → Type 0
Both fault = (IsErrOf {T = Unit {0}} (Err fault) p.Write) ⊎ (IsErrOf {T = Unit {0}} (Err fault) p.Open)

caused : (fault : PairFault) → (fault ≡ p.Write) ⊎ (fault ≡ p.Open) → Both fault
caused fault (inl is) = inl (ap Err is)
caused fault (inr is) = inr (ap Err is)

not_caused : (fault q : PairFault) → (fault ≡ q → ⊥) → IsErrOf {T = Unit {0}} (Err fault) q → ⊥
not_caused fault q other is = let same : fault ≡ q = cc in other same

not_changed : {T : Type 0} (refusal : Refusal) → IsErrOf {T = T} {E = KeepFault} (Err (Refused refusal)) (Pair p.Changed) → ⊥
not_changed refusal is = absurd (cc)

no_fault : {T : Type 0} (x : T) (fault : KeepFault) → IsErrOf {T = T} {E = KeepFault} (Ok x) fault → ⊥
no_fault x fault is = absurd (cc)

only_changed : {T : Type 0} (fault : PairFault) → IsErrOf {T = T} {E = KeepFault} (Err (Pair fault)) (Pair p.Changed) → fault ≡ p.Changed
only_changed fault is = cc

not_memory : p.Memory ≡ p.Changed → ⊥
not_memory is = absurd (cc)

neither : (p.Memory ≡ p.Write) ⊎ (p.Memory ≡ p.Open) → ⊥
neither (inl is) = absurd (cc)
neither (inr is) = absurd (cc)

-- ---- what becomes of the files, by the history before and the one after it, which has these steps

module _ {F : Type 0} (files : FilesOf F) (file : Bytes) (h after : History) (steps : List (List Edit)) (held : F) where
  abbrev Leaves : Result Reply KeepFault → F → Type 0
  Leaves answer new = (pair : KeepsFile files file h after answer held new) × (pair.steps ≡ steps)

  -- nothing is touched: the present text stays, or the action is refused, or not kept
  module _ (only : (now : Folder) → files.since held (files.moment held) now → now ≡ files.folder held) where
    as_before : (now : Folder) → files.since held (files.moment held) now → get now (journal_name file) ≡ get (files.folder held) (journal_name file)
    as_before now stood = ap (λ (f : Folder). get f (journal_name file)) (only now stood)

    file_still : (reply : Reply) → after.cursor ≡ h.cursor → Leaves (Ok reply) held
    file_still reply same = (
      record {
        steps = steps;
        each = λ honest resumes now stood. inl (only now stood);
        time = λ honest resumes. stays (files.moment held) (files.since held) _;
        kept = λ honest resumes other. absurd (other same);
        journal = λ honest other. absurd (other same);
        own = λ other. absurd (other same);
        stored = λ honest now stood. inl (as_before now stood);
        changed = λ honest is. absurd (no_fault reply (Pair p.Changed) is);
        still = λ _. refl;
        refused = tt;
        untouched = λ honest. tt;
        regular = none_read (files.acts held);
        cause = λ is. absurd is;
        rest = λ _. refl;
        count = omega arith;
        honest = refl;
      },
      refl,
    )

    file_left : (fault : KeepFault) → (IsErrOf {T = Reply} {E = KeepFault} (Err fault) (Pair p.Changed) → ⊥) → (IsWriteOrOpen (Err fault) → ⊥) → Leaves (Err fault) held
    file_left fault not_changed not_caused = (
      record {
        steps = steps;
        each = λ honest resumes now stood. inl (only now stood);
        time = λ honest resumes. stays (files.moment held) (files.since held) _;
        kept = λ honest resumes. tt;
        journal = λ honest. tt;
        own = tt;
        stored = λ honest now stood. inl (as_before now stood);
        changed = λ honest is. absurd (not_changed is);
        still = tt;
        refused = λ _. refl;
        untouched = λ honest other now stood. only now stood;
        regular = none_read (files.acts held);
        cause = λ is. absurd (not_caused is);
        rest = λ _. refl;
        count = omega arith;
        honest = refl;
      },
      refl,
    )

  -- the pair is replaced, or not both: what `keep` says of these bytes, which are the text before, the journal and the text
  module _ (new : F) (standing stored text : Bytes) (begun : standing ≡ present h) (journal : stored ≡ journal_text after steps) (other : after.cursor ≢ h.cursor)
      (may : Resumes (files.folder held) file h.«package» h.texts → MayResume (files.folder held) file standing stored text h after steps)
      (own : Journal (journal_text after steps) after steps) where
    saved_then : (now : Folder) → (get now (journal_name file) ≡ get (files.folder held) (journal_name file)) ⊎ (get now (journal_name file) ≡ Some stored)
        → (get now (journal_name file) ≡ get (files.folder held) (journal_name file)) ⊎ (get now (journal_name file) ≡ Some (journal_text after steps))
    saved_then now (inl was) = inl was
    saved_then now (inr is) = inr (is ∙ ap Some journal)

    file_both : (reply : Reply) → KeepsHeld files file standing stored text (Ok tt) held new → Leaves (Ok reply) new
    file_both reply kept = (
      record {
        steps = steps;
        each = λ honest resumes. kept.each honest h after steps (may resumes);
        time = λ honest resumes. kept.time honest h after steps (may resumes);
        kept = λ honest resumes _. kept.kept honest h after steps (may resumes);
        journal = λ honest _. kept.journal honest ∙ ap Some journal;
        own = λ _. own;
        stored = λ honest now stood. saved_then now (kept.stored honest now stood);
        changed = λ honest is. absurd (no_fault reply (Pair p.Changed) is);
        still = λ same. absurd (other same);
        refused = tt;
        untouched = λ honest. tt;
        regular = kept.regular;
        cause = λ is. absurd is;
        rest = λ _. kept.rest (never_err _ _) (never_err _ _);
        count = kept.count;
        honest = kept.honest;
      },
      refl,
    )

    file_neither : (fault : PairFault) → KeepsHeld files file standing stored text (Err fault) held new → Leaves (Err (Pair fault)) new
    file_neither fault kept = (
      record {
        steps = steps;
        each = λ honest resumes. kept.each honest h after steps (may resumes);
        time = λ honest resumes. kept.time honest h after steps (may resumes);
        kept = λ honest resumes. tt;
        journal = λ honest. tt;
        own = tt;
        stored = λ honest now stood. saved_then now (kept.stored honest now stood);
        changed = λ honest is there. kept.changed honest (ap Err (only_changed fault is)) (there ∙ ap Some (sym begun));
        still = tt;
        refused = λ is. absurd is;
        untouched = λ honest apart. kept.untouched honest (λ is. apart (ap Pair is));
        regular = kept.regular;
        cause = λ is. kept.cause (caused fault is);
        rest = λ none. kept.rest (not_caused fault p.Write (λ is. none (inl is))) (not_caused fault p.Open (λ is. none (inr is)));
        count = kept.count;
        honest = kept.honest;
      },
      refl,
    )

-- of texts that nothing was done to
pub file_unkept : {F : Type 0} (files : FilesOf F) (file : Bytes) (h : History) (held : F) → ((now : Folder) → files.since held (files.moment held) now → now ≡ files.folder held)
    → (answer : Answer) (result : Result Reply KeepFault) → MatchResult answer (λ reply. result ≡ Ok reply) (λ refusal. IsErrAnd result (λ fault. fault ≡ Refused refusal)) → KeepsFile files file h h result held held
file_unkept files file h held only (Ok reply) result is = rw is (file_still files file h h [] held only reply refl).0
file_unkept files file h held only (Err refusal) result is =
    let (fault, err, own) = err_from_is_err_and result is in
    rw (err, own) (file_left files file h h [] held only (Refused refusal) (not_changed refusal) (λ none. none)).0

-- the text that was written is the present one
pub text_kept : {E : Type 0} (t : SessionState) (from : ℕ) (written : Result (Option Written) E) (text : Option (Vec ℕ Global)) → IsWrittenSince t from written
    → text ≡ option_map (λ (w : Written). w.text) (option_flatten (result_ok written)) → IfSome text (λ own. own.items ≡ present (session_history t))
text_kept t from (Ok None) text since is = rw is tt
text_kept t from (Ok (Some w)) text since is = rw is since.1.text
text_kept t from (Err e) text since is = rw is tt

-- ---- the same of a session, by what was done to it

module _ {F : Type 0} (files : FilesOf F) (action : Action) (note file : Bytes) (s t : SessionState) (held : F) where
  abbrev LeavesIts : Result Reply KeepFault → F → Type 0
  LeavesIts = Leaves files file (session_history s) (session_history t) t.steps held

  module _ (reply : Reply) (acted : HasActed action note s (Ok reply) t) (new : F) where
    kept_as : LeavesIts (Ok reply) new → KeepsPair files action note file s (Ok reply) t held new
    kept_as (pair, steps) = record { keeps = acted.acts; refused = tt; even = λ short over. tt; small = acted.small; pair = pair; steps_are = steps }

    lost_as : t.cursor ≢ s.cursor → (fault : PairFault) → LeavesIts (Err (Pair fault)) new → KeepsPair files action note file s (Err (Pair fault)) t held new
    lost_as other fault (pair, steps) = record { keeps = (reply, acted.acts, other); refused = λ is. absurd is; even = λ short over is. is; small = acted.small; pair = pair; steps_are = steps }

  module _ (only : (now : Folder) → files.since held (files.moment held) now → now ≡ files.folder held) where
    pub kept_refused : (refusal : Refusal) → HasActed action note s (Err refusal) t → KeepsPair files action note file s (Err (Refused refusal)) t held held
    kept_refused refusal acted =
        let (pair, steps) = file_left files file (session_history s) (session_history t) t.steps held only (Refused refusal) (not_changed refusal) (λ none. none) in
        record { keeps = acted.acts; refused = λ _. acted.unmoved; even = λ short over _. false≢true (acted.even short over); small = acted.small; pair = pair; steps_are = steps }

    pub kept_still : (reply : Reply) → HasActed action note s (Ok reply) t → t.cursor ≡ s.cursor → KeepsPair files action note file s (Ok reply) t held held
    kept_still reply acted same = kept_as reply acted held (file_still files file (session_history s) (session_history t) t.steps held only reply same)

    -- memory was refused where the pair is made
    pub kept_unmade : (reply : Reply) → HasActed action note s (Ok reply) t → t.cursor ≢ s.cursor → KeepsPair files action note file s (Err (Pair p.Memory)) t held held
    kept_unmade reply acted other =
        lost_as reply acted held other p.Memory
        (file_left files file (session_history s) (session_history t) t.steps held only (Pair p.Memory) (λ is. not_memory (only_changed p.Memory is)) neither)

  module _ (reply : Reply) (acted : HasActed action note s (Ok reply) t) (new : F) (standing stored text : Bytes) (begun : standing ≡ present (session_history s)) (other : t.cursor ≢ s.cursor)
      (journal : stored ≡ saved t) (written : text ≡ present (session_history t)) (own : IsSavedSession t) where
    may : Resumes (files.folder held) file (session_history s).«package» (session_history s).texts
        → MayResume (files.folder held) file standing stored text (session_history s) (session_history t) t.steps
    may resumes = record {
      resumes = resumes;
      begun = begun;
      follows = Goes.follows (goes action note (session_history s) (session_history t) (Ok reply) acted.within acted.acts) other;
      journal = rw journal own;
      written = written;
    }

    pub kept_both : KeepsHeld files file standing stored text (Ok tt) held new → KeepsPair files action note file s (Ok reply) t held new
    kept_both kept = kept_as reply acted new (file_both files file (session_history s) (session_history t) t.steps held new standing stored text begun journal other may own reply kept)

    pub kept_neither : (fault : PairFault) → KeepsHeld files file standing stored text (Err fault) held new → KeepsPair files action note file s (Err (Pair fault)) t held new
    kept_neither fault kept = lost_as reply acted new other fault (file_neither files file (session_history s) (session_history t) t.steps held new standing stored text begun journal other may own fault kept)
