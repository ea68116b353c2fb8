-- What keeping a file and its journal leaves, and what it does to the count of faults.
use Rattle.bz_buildozer.proofs.Words.{[], ◌&&◌, ◌++◌, ◌∙◌, ◌∷◌, ◌≡◌, ◌≢◌, ◌≤◌, ◌⊎◌, Action, action_of, Acts, AllAreSafe, Answers, ap, AreHints, Bool, Bytes, counts_more, Cut, Cut as c, CutsPair, eqb_tells, Err, false, file_at, file_left, first_cut, FolderAfter, Ghosts as FilesOf, History, Holds, inl, inr, is_left_at, IsSome, KeepFault, KeepsAt, KeepsFile, Leads, LeavesUnkept, left_out, List, Memory, Ok, Opened, Option, option_map_or, Pair, PairFault, PairFault as f, present, Printed, printed_in, Progress, refl, Refusal, refusal_line, Refused, Reply, reply_notes, reported_of, Result, Some, subst, sym, Target, true, unkept_line, Used, Verb, with_opened, WorksOn, ℕ}
use Rattle.bz_buildozer.proofs.ActSteps.{file_still, led_on, led_to, still_open, free_file, hints_by, leads_by, memory_answers, printed_still, put_again, refused, refused_by, refused_still, replied, step_at, still_same}
use Rattle.bz_buildozer.proofs.CutSteps.{files_cut}
use Rattle.bz_buildozer.proofs.SafeSteps.{goes_on_there, safe_at, survived}

-- it could not be written or read
abbrev pub IsWritten : PairFault → Type 0
IsWritten fault = (fault ≡ f.Write) ⊎ (fault ≡ f.Open)

-- ---- an action that is kept

-- Where another text is the present one the history is kept, else nothing changes.
pub kept_after : {F : Type 0} (files : FilesOf F) (file : Opened) (history : History) (reply : Reply) (old new : F) → files.honest old ≡ true
    → Holds (files.folder old) file.name file.history.«package» (present file.history) file.history.texts → history.«package» ≡ file.history.«package»
    → KeepsFile files file.name file.history history (Ok reply) old new → FolderAfter true (Ok reply) file history (files.folder old) (files.folder new)
kept_after files file history reply old new honest holds same_package pair = elim (eqb_tells history.cursor file.history.cursor) [
  | inl same ↦ inl (same.1, ap files.folder (pair.still same.1))
  | inr other ↦
      let done = pair.kept honest (present file.history, holds) other.1 in inr (
        other.1,
        record {
          steps = pair.steps;
          own = pair.own other.1;
          saved = pair.journal honest other.1;
          holds = subst (λ (current : Bytes). Holds (files.folder new) file.name current (present history) history.texts)
              (sym same_package) done.0;
          others = done.1;
        },
      )
]

-- A file that holds its present text is not said to hold another.
pub not_changed : {F : Type 0} (files : FilesOf F) (file : Opened) (history : History) (fault : PairFault) (old new : F) → files.honest old ≡ true
    → Holds (files.folder old) file.name file.history.«package» (present file.history) file.history.texts
    → KeepsFile files file.name file.history history (Err (Pair fault)) old new → fault ≡ f.Changed → ⊥
not_changed files file history fault old new honest holds pair is =
    pair.changed honest (ap (λ (it : PairFault). Err (Pair it)) is) holds.holds

-- what is done on files in two parts
pub works_more : {F : Type 0} (files : FilesOf F) (cut later : Cut) (old mid new : F) → WorksOn files cut old mid → WorksOn files later mid new
    → WorksOn files (first_cut cut later) old new
works_more files cut later old mid new first then = record {
  cut = files_cut cut later (files.faults old) (files.faults mid) (files.faults new) first.cut then.cut first.counts then.counts;
  counts = counts_more (files.faults old) (files.faults mid) (files.faults new) first.counts then.counts;
  honest = then.honest ∙ first.honest;
}

-- what is printed after it changes no package
pub kept_by : {F : Type 0} (journals : Bool) (files : FilesOf F) (place : ℕ) (action : Action) (note : Bytes) (before : List Used) (answer : Result Reply KeepFault)
    (mid after : List Used) (old new : F) → journals ≡ true → after ≡ mid → KeepsAt journals files place action note before answer mid old new
    → KeepsAt true files place action note before answer after old new
kept_by journals files place action note before answer mid after old new kept same done =
    subst (λ (used : List Used). KeepsAt true files place action note before answer used old new) (sym same)
    (subst (λ (b : Bool). KeepsAt b files place action note before answer mid old new) kept done)

-- a file that was kept, or not, is open still
pub kept_open : {F : Type 0} (journals : Bool) (files : FilesOf F) (place : ℕ) (action : Action) (note : Bytes) (before : List Used) (answer : Result Reply KeepFault)
    (after : List Used) (old new : F) → KeepsAt journals files place action note before answer after old new → IsSome (file_at place after)
kept_open journals files place action note before answer after old new done =
    still_open place before after done.file (file_left journals answer done.history done.file) done.there done.kept

-- ---- what a step does, without journals and with them

pair_is : (one other : PairFault) → ◌≡◌ {A = KeepFault} (Pair one) (Pair other) → one ≡ other
pair_is one other same = cc

pub wants_memory : (cut : Cut) → (cut ≡ c.Whole) ⊎ (cut ≡ c.Memory) → (cut ≡ c.Whole → ⊥) → cut ≡ c.Memory
wants_memory cut (inl whole) other = absurd (other whole)
wants_memory cut (inr memory) other = memory

module _ {F : Type 0} (files : FilesOf F) (counts : (held : F) (t : ℕ) → t ≤ files.moment held → files.since held t (files.folder held)) (journals : Bool) (target : Target)
    (verb : Verb) (note : Bytes) (place : ℕ) (action : Action) (before after : Progress) (used : List Used) (old new : F) (requested : action_of target verb ≡ Some action)
    (honest : journals ≡ true → files.honest old ≡ true) (all : journals ≡ true → AllAreSafe (files.folder old) before.used)
    (free : journals && is_left_at place before.used ≡ false) where
  -- the action is done, with this answer
  abbrev pub Kept : Result Reply KeepFault → Type 0
  Kept answer = KeepsAt journals files place action note before.used answer used old new

  -- what the step did
  abbrev pub Did : Cut → List Bytes → Type 0
  Did why lines = Answers why journals (step_at target verb note) (Some place) (files.folder old) before lines (files.folder new) after

  free_at : journals ≡ true → (file : Opened) → file_at place before.used ≡ Some file → file.left ≡ false
  free_at kept file there = sym (ap (λ (found : Option Opened). option_map_or (λ (it : Opened). it.left) found false) there)
      ∙ sym (ap (λ (b : Bool). b && is_left_at place before.used) kept) ∙ free

  holds_at : journals ≡ true → (file : Opened) → file_at place before.used ≡ Some file
      → Holds (files.folder old) file.name file.history.«package» (present file.history) file.history.texts
  holds_at kept file there = goes_on_there (files.folder old) file (free_at kept file there) (safe_at (files.folder old) place before.used file there (all kept)).1.1

  kept_folder : (reply : Reply) (done : Kept (Ok reply)) → journals ≡ true → FolderAfter true (Ok reply) done.file done.history (files.folder old) (files.folder new)
  kept_folder reply done kept = kept_after files done.file done.history reply old new (honest kept) (holds_at kept done.file done.there)
      (still_same action note done.file.history done.history (Ok reply) done.keeps).0 (done.pair kept)

  following_of : (reply : Reply) (done : Kept (Ok reply)) → FolderAfter journals (Ok reply) done.file done.history (files.folder old) (files.folder new)
  following_of reply done = go journals refl
    where
      go : (b : Bool) → journals ≡ b → FolderAfter b (Ok reply) done.file done.history (files.folder old) (files.folder new)
      go true kept = kept_folder reply done kept
      go false plain = ap files.folder (done.plain plain).0

  pub kept_answers : (reply : Reply) (done : Kept (Ok reply)) (printed : Bytes) → after ≡ record before { used = used; printed = printed }
      → printed ≡ before.printed ++ printed_in reply → Did c.Whole (reply_notes (Some action) reply done.file.name)
  kept_answers reply done printed is said =
      replied journals (step_at target verb note) place done.file done.history (files.folder old) (files.folder new) before after used
      (free_file journals place before.used done.file done.there free) reply printed (reply_notes (Some action) reply done.file.name)
      (hints_by target verb action done.file.name done.history (Ok reply) (reply_notes (Some action) reply done.file.name) requested refl)
      (leads_by target verb note action done.file.history done.history (Ok reply) requested (led_on done.file.history done.history action note reply done.keeps))
      (following_of reply done) done.kept said is

  -- What it prints is not kept: nothing else was done.
  pub unprinted_answers : (result : Cut) (reply : Reply) (text : Bytes) (done : Kept (Ok reply)) (printed : Bytes) → reply ≡ Printed text → result ≡ c.Memory
      → printed ≡ before.printed → after ≡ record { used = used; printed = printed; failed = true } → Did result (refusal_line journals done.file.name note Memory ∷ [])
  unprinted_answers result reply text done printed prints memory same is =
      memory_answers result journals (step_at target verb note) place (files.folder old) (files.folder new) before after (refusal_line journals done.file.name note Memory ∷ []) memory (record {
        file = done.file;
        refusal = Memory;
        there = free_file journals place before.used done.file done.there free;
        refused = refused_by target verb note action done.file.history Memory requested
            (inr (refl, (text, subst (λ (h : History). Acts action note done.file.history (Ok (Printed text)) h) stays acts)));
        reported = refl;
        still = go journals refl;
        state_is = is ∙ ap (λ (it : Bytes). record { used = used; printed = it; failed = true }) same ∙ ap (λ (u : List Used). record before { used = u; failed = true }) put;
      })
    where
      acts : Acts action note done.file.history (Ok (Printed text)) done.history
      acts = subst (λ (it : Reply). Acts action note done.file.history (Ok it) done.history) prints done.keeps

      stays : done.history ≡ done.file.history
      stays = printed_still action note text done.file.history done.history acts

      put : used ≡ before.used
      put = done.kept
          ∙ ap (λ (h : History). with_opened place (Some (file_left journals (Ok reply) h done.file)) before.used) stays
          ∙ ap (λ (it : Opened). with_opened place (Some it) before.used) (file_still journals reply done.file)
          ∙ put_again place before.used done.file done.there

      go : (b : Bool) → journals ≡ b → files.folder new ≡ files.folder old
      go false plain = ap files.folder (done.plain plain).0
      go true kept = ap files.folder ((done.pair kept).still (ap (λ (h : History). h.cursor) stays))

  refused_folder : (refusal : Refusal) → Kept (Err (Refused refusal)) → files.folder new ≡ files.folder old
  refused_folder refusal done = go journals refl
    where
      go : (b : Bool) → journals ≡ b → files.folder new ≡ files.folder old
      go true kept = ap files.folder ((done.pair kept).refused tt)
      go false plain = ap files.folder (done.plain plain).0

  pub refused_answers : (result : Cut) (refusal : Refusal) (done : Kept (Err (Refused refusal))) (hint : List Bytes) → (result ≡ c.Whole) ⊎ (result ≡ c.Memory)
      → (result ≡ c.Whole → refusal ≢ Memory) → (result ≡ c.Whole → AreHints (Err refusal) (Some action) done.file.name done.history hint) → (result ≡ c.Memory → hint ≡ [])
      → after ≡ record before { used = used; failed = true } → Did result (reported_of journals done.file.name note (Err refusal) hint)
  refused_answers result refusal done hint kinds other hints none is = go kinds
    where
      there : left_out journals (file_at place before.used) ≡ Some done.file
      there = free_file journals place before.used done.file done.there free

      stays : done.history ≡ done.file.history
      stays = refused_still action note done.file.history done.history refusal done.keeps

      put : used ≡ before.used
      put = done.kept ∙ ap (λ (h : History). with_opened place (Some (record done.file { history = h })) before.used) stays ∙ put_again place before.used done.file done.there

      go : (result ≡ c.Whole) ⊎ (result ≡ c.Memory) → Did result (reported_of journals done.file.name note (Err refusal) hint)
      go (inl whole) = subst (λ (it : Cut). Did it (reported_of journals done.file.name note (Err refusal) hint)) (sym whole)
          (refused journals (step_at target verb note) place done.file done.history (files.folder old) (files.folder new) before after used there refusal hint
          (leads_by target verb note action done.file.history done.history (Err refusal) requested
          (led_to done.file.history done.history action note refusal done.keeps (other whole)))
          (hints_by target verb action done.file.name done.history (Err refusal) hint requested (hints whole)) (refused_folder refusal done) done.kept is)
      go (inr memory) = memory_answers result journals (step_at target verb note) place (files.folder old) (files.folder new) before after
          (reported_of journals done.file.name note (Err refusal) hint) memory (record {
            file = done.file;
            refusal = refusal;
            there = there;
            refused = refused_by target verb note action done.file.history refusal requested
                (inl (subst (λ (h : History). Acts action note done.file.history (Err refusal) h) stays done.keeps));
            reported = ap (λ (it : List Bytes). refusal_line journals done.file.name note refusal ∷ it) (none memory);
            still = refused_folder refusal done;
            state_is = is ∙ ap (λ (u : List Used). record before { used = u; failed = true }) put;
          })

  -- the last moment of a pair that was not written
  pub unkept_answers : (result : Cut) (fault : PairFault) (done : Kept (Err (Pair fault)))
      → ((result ≡ c.Whole) × (fault ≡ f.Changed)) ⊎ ((result ≡ c.Memory) × (fault ≡ f.Memory)) ⊎ ((result ≡ c.Files) × IsWritten fault)
      → after ≡ record before { used = used; failed = true } → Did result (unkept_line done.file.name fault ∷ [])
  unkept_answers result fault done why is = go why
    where
      file : Opened
      file = done.file

      tells : (b : Bool) → journals ≡ b → journals ≡ true
      tells true is_kept = is_kept
      tells false plain = absurd (done.plain plain).1

      kept : journals ≡ true
      kept = tells journals refl

      pair : KeepsFile files file.name file.history done.history (Err (Pair fault)) old new
      pair = done.pair kept

      time : ℕ
      time = files.moment old

      holds : Holds (files.folder old) file.name file.history.«package» (present file.history) file.history.texts
      holds = holds_at kept file done.there

      last : files.since new time (files.folder new)
      last = counts new time (pair.time (honest kept) (present file.history, holds)).later

      untouched : fault ≢ f.Write → files.folder new ≡ files.folder old
      untouched other = pair.untouched (honest kept) (λ same. other (pair_is fault f.Write same)) (files.folder new) last

      -- it is left alone
      unkept : (cut : Cut) → CutsPair cut fault → LeavesUnkept cut (step_at target verb note) place (files.folder old) before (unkept_line file.name fault ∷ []) (files.folder new) after
      unkept cut failed = record {
        file = file;
        action = action;
        history = done.history;
        fault = fault;
        there = done.there;
        stays = free_at kept file done.there;
        requested = requested;
        keeps = done.keeps;
        failed = failed;
        reported = refl;
        survives = survived files file old new done.history (files.folder new) holds (pair.each (honest kept) (present file.history, holds) (files.folder new) last);
        untouched = untouched;
        state_is = is ∙ ap (λ (u : List Used). record before { used = u; failed = true }) done.kept;
      }

      go : ((result ≡ c.Whole) × (fault ≡ f.Changed)) ⊎ ((result ≡ c.Memory) × (fault ≡ f.Memory)) ⊎ ((result ≡ c.Files) × IsWritten fault)
          → Did result (unkept_line done.file.name fault ∷ [])
      go (inl changed) = absurd (not_changed files file done.history fault old new (honest kept) holds pair changed.1)
      go (inr (inl memory)) = subst (λ (it : Cut). Did it (unkept_line file.name fault ∷ [])) (sym memory.0) (inr (kept, unkept c.Memory memory.1))
      go (inr (inr written)) = subst (λ (it : Cut). Did it (unkept_line file.name fault ∷ [])) (sym written.0) (kept, unkept c.Files written.1)
