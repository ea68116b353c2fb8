-- What words and lines come to, by what was read of them.
use Rattle.bz_buildozer.proofs.Words.{[], ◌&&◌, ◌++◌, ◌||◌, ◌∙◌, ◌∷◌, ◌≡◌, ◌≢◌, ◌⊎◌, accepted, acts_over, All, All-head, all_steps, AllAreSafe, ap, append_assoc, appends_nothing, AreOfInput, AreOfInputAndSome, arith, Bool, Bytes, bytes_eq, bytes_eq-Decides, command_line_of, CommandLine, complete, Cut, Cut as c, each_since, elapsed_on, Elapses, empty, Ended, EndsIn, Err, Exit, false, first_cut, Folder, get-empty, Ghosts as FilesOf, Given, GivenOutcome, IfOk, IfSome, inl, input_package, inr, is_of_input, IsLineUsageLine, IsMeanwhile, IsMomentOfRun, IsMomentOfSteps, IsOfInput, IsScript, IsScriptFault, IsScriptFront, IsSome, IsText, IsUnused, KeepsFolder, KeepsJournals, LineOutcome, LinesEnd, LinesOutcome, LineUsage, List, list_any, MayRun, memory_line, names_file, names_input, NamesNoFile, nat_cmp, no_journal_line, None, nothing_done, OfScript, Ok, OnErr, OnOk, operand_group, operands, OperandsOutcome, Option, Options, OrOutOfMemory, out_of_memory, output_lines, PassesBy, PrintsAll, PrintsUntil, Progress, refl, reported_name, ReportsLine, ReportsLines, Request, Requested, requested_of, Result, root_above, root_note, RunActs, RunsSteps, script, script_of, ScriptOutcome, shows_input, slice_cmp, Some, status_of, stays, subst, sym, Target, TextOutcome, texts_out, TriesFiles, true, true≢false, unread_line, unread_status, unused, Usage, usage_line, Used, weakened, with_file, WordsOutcome, World, ℕ}
use Rattle.bz_command_syntax.specs.declared.profile.Profile.{Profile}
use Rattle.bz_command_line.specs.Requested.{Refused}
use Rattle.bz_buildozer.proofs.{ReadSteps.IsReadOf, ReadSteps.whole_requests, ReadSteps.script_read, ReadSteps.whole_outcome, FailSteps.more_lines, FailSteps.one_line, ExactReads.nothing_else_used, ExactReads.output_empty_where_input_fails, EndingSteps.prints_none, StandSteps.not_input}
use Rattle.bz_streams.specs.declared.sink.Sink.{Ghosts as SinkOf}
use Rattle.bz_files.proofs.Folders.{reads_back}

-- ---- what a run of status 1 leaves as it was

pub no_time : {A : Type 0} (moment : A → ℕ) (since : A → ℕ → Folder → Type 0) (before after : A) (P : Folder → Type 0) → after ≡ before
    → Elapses (moment before) (moment after) (since before) (since after) P
no_time moment since before after P same =
    subst (λ files. Elapses (moment before) (moment files) (since before) (since files) P) (sym same) (stays (moment before) (since before) P)

pub no_more_time : {A : Type 0} (moment : A → ℕ) (since : A → ℕ → Folder → Type 0) (before mid after : A) (P : Folder → Type 0) → after ≡ mid
    → Elapses (moment before) (moment mid) (since before) (since mid) P → Elapses (moment before) (moment after) (since before) (since after) P
no_more_time moment since before mid after P same time =
    subst (λ files. Elapses (moment before) (moment files) (since before) (since files) P) (sym same) time

-- ---- lines that are in a file, or in standard input

pub of_script : (Is : Bytes → Type 0) (words : List Bytes) (line : CommandLine) (name : Bytes) → command_line_of words ≡ Ok line → line.given ≡ script name
    → IfOk (command_line_of words) (λ line. OfScript Is line.given) → Is name
of_script Is words line name is same takes =
    subst (OfScript Is) same (subst (λ (it : Result CommandLine LineUsage). IfOk it (λ line. OfScript Is line.given)) is takes)

-- ---- the moments of a whole run, by what its words request

-- where no package was used, each name is as it is
pub unused_yet : (folder : Folder) → IsMeanwhile folder [] [] folder
unused_yet folder = record { files = λ place file then here there. absurd (let e = here in cc); there = λ place file at. absurd (let e = at in cc); others = λ name unlike aside. refl }

-- a folder at a moment of what a text of lines requests, in a run that began with one
abbrev pub IsMomentOfText : Profile → Folder → Bytes → Folder → Type 0
IsMomentOfText profile folder text now = (lines : List Requested) × IsText text × (script_of profile text ≡ Ok lines) × IsMomentOfSteps folder (all_steps lines) [] now

module _ {F : Type 0} (files : FilesOf F) (old new : F) where
  pub by_operands : (profile : Profile) (known : Option Bytes) (texts : List Bytes) (requested : Requested) (lines : List Requested) → operand_group profile texts ≡ Ok requested
      → lines ≡ requested ∷ []
      → PassesBy files (IsMomentOfSteps (files.folder old) (all_steps lines) []) old new
      → PassesBy files (IsMomentOfRun profile (record { folder = files.folder old; known = known; acts = acts_over files old new }) (operands texts)) old new
  by_operands profile known texts requested lines is same =
      weakened (files.moment old) (files.moment new) (files.since old) (files.since new) (IsMomentOfSteps (files.folder old) (all_steps lines) [])
      (IsMomentOfRun profile (record { folder = files.folder old; known = known; acts = acts_over files old new }) (operands texts)) (λ now moment. inr (
        requested ∷ [],
        (requested, is, refl),
        subst (λ (these : List Requested). IsMomentOfSteps (files.folder old) (all_steps these) [] now) same moment,
      ))

  pub by_text : (profile : Profile) (text text' : Bytes) (lines lines' : List Requested) → text' ≡ text → IsText text → script_of profile text' ≡ Ok lines → lines' ≡ lines
      → PassesBy files (IsMomentOfSteps (files.folder old) (all_steps lines') []) old new → PassesBy files (IsMomentOfText profile (files.folder old) text) old new
  by_text profile text text' lines lines' same valid is these =
      weakened (files.moment old) (files.moment new) (files.since old) (files.since new) (IsMomentOfSteps (files.folder old) (all_steps lines') [])
      (IsMomentOfText profile (files.folder old) text) (λ now moment. (
        lines,
        valid,
        subst (λ (it : Bytes). script_of profile it ≡ Ok lines) same is,
        subst (λ (it : List Requested). IsMomentOfSteps (files.folder old) (all_steps it) [] now) these moment,
      ))

  -- a file of lines that was not read
  pub by_no_script : (profile : Profile) (known : Option Bytes) (name : Bytes) → KeepsFolder files old new
      → PassesBy files (IsMomentOfRun profile (record { folder = files.folder old; known = known; acts = acts_over files old new }) (script name)) old new
  by_no_script profile known name =
      weakened (files.moment old) (files.moment new) (files.since old) (files.since new) (λ (now : Folder). now ≡ files.folder old)
      (IsMomentOfRun profile (record { folder = files.folder old; known = known; acts = acts_over files old new }) (script name)) (λ now is. inl is)

  pub by_script : (profile : Profile) (known : Option Bytes) (name whole text text' : Bytes) (mid : F) → files.folder mid ≡ files.folder old → text' ≡ text
      → IsScript (record { folder = files.folder old; known = known; acts = acts_over files old new }) name (Some whole) → IsReadOf whole text → KeepsFolder files old mid
      → PassesBy files (IsMomentOfText profile (files.folder mid) text') mid new
      → PassesBy files (IsMomentOfRun profile (record { folder = files.folder old; known = known; acts = acts_over files old new }) (script name)) old new
  by_script profile known name whole text text' mid still same is read first second =
      let world : World = record { folder = files.folder old; known = known; acts = acts_over files old new } in
      elapsed_on (files.moment old) (files.moment mid) (files.moment new) (files.since old) (files.since mid) (files.since new) (IsMomentOfRun profile world (script name))
      (IsMomentOfText profile (files.folder mid) text') (λ now moment.
      let requests = whole_requests profile whole text text' moment.0 same read moment.1 moment.2 in
      inr (
        moment.0,
        (whole, is, requests.0, requests.1),
        subst (λ (f : Folder). IsMomentOfSteps f (all_steps moment.0) [] now) still moment.3,
      )) (weakened (files.moment old) (files.moment mid) (files.since old) (files.since mid) (λ (now : Folder). now ≡ files.folder old)
      (IsMomentOfRun profile world (script name)) (λ now was. inl was) first) second

  -- each folder since the beginning is one of a moment of the run
  abbrev pub Each : Profile → World → Given → Type 0
  Each profile world given = (now : Folder) → files.since new (files.moment old) now → IsMomentOfRun profile world given now

  pub each_of : (profile : Profile) (known : Option Bytes) (given : Given) → ((now : Folder) → files.since old (files.moment old) now → now ≡ files.folder old)
      → PassesBy files (IsMomentOfRun profile (record { folder = files.folder old; known = known; acts = acts_over files old new }) given) old new
      → Each profile (record { folder = files.folder old; known = known; acts = acts_over files old new }) given
  each_of profile known given only time =
      each_since (files.moment old) (files.moment new) (files.since old) (files.since new) (IsMomentOfRun profile (record { folder = files.folder old; known = known; acts = acts_over files old new }) given)
      time (λ now stood. inl (only now stood))

  -- words that are no line
  pub no_words : (found : Result CommandLine LineUsage) (known : Option Bytes) → new ≡ old
      → ((now : Folder) → files.since old (files.moment old) now → now ≡ files.folder old)
      → IfOk found (λ line. line.options.journal ≡ true → Each line.options.profile (record { folder = files.folder old; known = known; acts = acts_over files old new }) line.given)
  no_words (Ok line) known same only = λ kept now stood. inl (only now (subst (λ (held : F). files.since held (files.moment old) now) same stood))
  no_words (Err usage) known same only = tt

  pub by_words : (words : List Bytes) (line : CommandLine) (given : Given) (world : World) → command_line_of words ≡ Ok line → line.given ≡ given
      → (line.options.journal ≡ true → Each line.options.profile world given)
      → IfOk (command_line_of words) (λ line. line.options.journal ≡ true → Each line.options.profile world line.given)
  by_words words line given world is same each =
      subst (λ (found : Result CommandLine LineUsage). IfOk found (λ line. line.options.journal ≡ true → Each line.options.profile world line.given)) (sym is)
      (λ kept. subst (Each line.options.profile world) (sym same) (each kept))

-- ---- what a run leaves where its steps and their ending are put together

-- Where files are not honest no other package than standard input was used.
pub honest_still : (honest honest' journals : Bool) (why : Cut) (world : World) (keep_going : Bool) (lines : List Requested) (start : Progress) (reported : List Bytes)
    (folder : Folder) (state : Progress) → honest' ≡ honest → start ≡ nothing_done → RunsSteps why journals world keep_going (all_steps lines) start reported folder state
    → MayRun journals honest (AreOfInput lines) → (honest' ≡ true) ⊎ All (λ (used : Used). used.«package» ≡ input_package) state.used
honest_still honest honest' journals why world keep_going lines start reported folder state same begins runs (inl is) = inl (same ∙ is)
honest_still honest honest' journals why world keep_going lines start reported folder state same begins runs (inr (not_kept, are)) =
    inr (nothing_else_used why world keep_going lines reported folder state are
    (subst (λ (b : Bool). RunsSteps why b world keep_going (all_steps lines) nothing_done reported folder state) not_kept
    (subst (λ (from : Progress). RunsSteps why journals world keep_going (all_steps lines) from reported folder state) begins runs)))

status_is : (why : Cut) (status : ℕ) (state : Progress) → (why ≢ c.Whole → status ≡ 2) → (why ≡ c.Whole → status ≡ status_of c.Whole state) → status ≡ status_of why state
status_is c.Whole status state other whole = whole refl
status_is _ status state other whole = other (λ is. cc is)

-- The writers and the folder hold what lines come to that are run.
pub lines_end : {W E F : Type 0} (sink : SinkOf W) (errors : SinkOf E) (files : FilesOf F) (options : Options) (lines : List Requested) (world : World) (start state : Progress)
    (before : Folder) (reported told : List Bytes) (exit : Exit) (stopped written later : Cut) (shown : Bool) (out out' : W) (err noted mid err' : E) (held' : F)
    → options.journal && names_input lines ≡ false → start ≡ nothing_done
    → RunsSteps stopped options.journal world options.keep_going (all_steps lines) start reported before state
    → TriesFiles written options state.used before told (files.folder held') → exit.cut ≡ first_cut stopped (first_cut written later)
    → (exit.cut ≢ c.Whole → exit.status ≡ 2) → (exit.cut ≡ c.Whole → exit.status ≡ status_of c.Whole state) → shown ≡ shows_input (all_steps lines)
    → PrintsUntil sink later out out' (state.printed ++ texts_out shown options.to_stdout state.used)
    → ReportsLines errors err noted (root_note (names_file lines) (root_above world.folder)) → ReportsLines errors noted mid reported
    → ReportsLines errors mid err' (output_lines later ++ told) → EndsIn sink errors files (OrOutOfMemory world (LinesEnd options lines world)) exit out out' err err' held'
lines_end sink errors files options lines world start state before reported told exit stopped written later shown out out' err noted mid err' held' neither begins runs tries cut failed whole
    shows prints above first last =
    let note = root_note (names_file lines) (root_above world.folder) in
    let output = state.printed ++ texts_out (shows_input (all_steps lines)) options.to_stdout state.used in
    let ended : Ended = record {
      left = record { output = output; lines = note ++ reported ++ output_lines later ++ told; status = exit.status; folder = files.folder held' };
      cut = exit.cut;
      printed = later;
    } in (
      ended,
      inr (inr (
        neither,
        record {
          stopped = stopped;
          written = written;
          reported = reported;
          told = told;
          folder = before;
          state = state;
          runs = subst (λ (from : Progress). RunsSteps stopped options.journal world options.keep_going (all_steps lines) from reported before state) begins runs;
          output = refl;
          tries = tries;
          lines = refl;
          cut = cut;
          status = status_is exit.cut exit.status state failed whole;
        },
      )),
      record {
        exit_is = refl;
        folder = refl;
        output = subst (λ (show : Bool). PrintsUntil sink later out out' (state.printed ++ texts_out show options.to_stdout state.used)) shows prints;
        lines = subst (ReportsLines errors err err') (sym (append_assoc (note ++ reported) (output_lines later) told))
            (more_lines errors err mid err' (note ++ reported) (output_lines later ++ told) (more_lines errors err noted mid note reported above first) last);
      },
    )

-- A run begins with no open file.
pub begins_safely : (folder : Folder) (start : Progress) → start ≡ nothing_done → AllAreSafe folder start.used
begins_safely folder start is = subst (λ (from : Progress). AllAreSafe folder from.used) (sym is) tt

pub at_some : {A : Type 0} (P : A → Type 0) (found : Option A) (x : A) → found ≡ Some x → IfSome found P → P x
at_some P found x is holds = subst (λ it. IfSome it P) is holds

-- ---- how runs end

-- What was found and reported where a run has status 1. (The calls that reported it and ended the run, and standard error after either.)
pub told_found : {A E X : Type 0} (told : Result Unit X) (exit : Exit) (found : Option A) (mid new : E) (Q : A → E → Type 0) (B : Type 0) → exit.status ≡ 1
    → OnOk told (IsSome found) → OnOk told (IfSome found (λ x. Q x mid)) → OnOk told ((exit ≡ record { status = 1; cut = c.Whole }) × (new ≡ mid))
    → OnErr told ((exit ≡ record { status = 2; cut = c.Memory }) × B) → (x : A) × (found ≡ Some x) × Q x new
told_found (Ok done) exit None mid new Q B is some reported ok refused = absurd (true≢false (sym some))
told_found (Ok done) exit (Some x) mid new Q B is some reported ok refused = (x, refl, subst (Q x) (sym ok.1) reported)
told_found (Err fault) exit found mid new Q B is some reported ok refused = absurd (let e = sym (ap (λ (it : Exit). it.status) refused.0) ∙ is in cc)

-- a file of lines that can't be read
pub exit_of : (exit : Exit) (why : Cut) → exit.status ≡ unread_status why → exit.cut ≡ why → exit ≡ record { status = unread_status why; cut = why }
exit_of exit why status is =
    ap (λ (n : ℕ). record { status = n; cut = exit.cut }) status ∙ ap (λ (it : Cut). record { status = unread_status why; cut = it }) is

module _ {W E F : Type 0} (sink : SinkOf W) (errors : SinkOf E) (files : FilesOf F) (exit : Exit) where
  -- What is left as one thing says is left as another does that follows.
  pub ends_more : (Is Now : Ended → Type 0) (out out' : W) (err err' : E) (held' : F) → ((ended : Ended) → Is ended → Now ended)
      → EndsIn sink errors files Is exit out out' err err' held' → EndsIn sink errors files Now exit out out' err err' held'
  ends_more Is Now out out' err err' held' more (ended, is, leaves) = (ended, more ended is, leaves)

  module _ (world : World) (out : W) (err err' : E) (held : F) (same : files.folder held ≡ world.folder) where
    -- Nothing was done, and one line printed.
    pub ends_unused : (Is : Ended → Type 0) (line : Bytes) → Is (unused world.folder line) → exit ≡ record { status = 1; cut = c.Whole } → ReportsLines errors err err' (line ∷ [])
        → EndsIn sink errors files Is exit out out err err' held
    ends_unused Is line is ends reported = (
      unused world.folder line,
      is,
      record { exit_is = ends; folder = same; output = appends_nothing (sink.contents out); lines = reported },
    )

    -- Memory was refused, and that was reported.
    pub ends_refused : (Is : Ended → Type 0) (mid : E) → mid ≡ err → exit ≡ record { status = 2; cut = c.Memory } → ReportsLine errors mid err' memory_line
        → EndsIn sink errors files (OrOutOfMemory world Is) exit out out err err' held
    ends_refused Is mid still refused reported = (
      out_of_memory world.folder,
      inl refl,
      record {
        exit_is = refused;
        folder = same;
        output = appends_nothing (sink.contents out);
        lines = one_line errors err err' memory_line (subst (λ (from : E). ReportsLine errors from err' memory_line) still reported);
      },
    )

    -- That was reported by this call, or memory was refused to it.
    pub ends_told : {X : Type 0} (Is : Ended → Type 0) (told : Result Unit X) (mid : E)
        → (exit.status ≡ 1 → (line : Bytes) × Is (unused world.folder line) × ReportsLines errors err err' (line ∷ [])) → OnErr told (mid ≡ err)
        → OnOk told ((exit ≡ record { status = 1; cut = c.Whole }) × (err' ≡ mid))
        → OnErr told ((exit ≡ record { status = 2; cut = c.Memory }) × ReportsLine errors mid err' memory_line)
        → EndsIn sink errors files (OrOutOfMemory world Is) exit out out err err' held
    ends_told Is (Ok done) mid usage still ok refused =
        let told = usage (ap (λ (it : Exit). it.status) ok.0) in ends_unused (OrOutOfMemory world Is) told.0 (inr told.1) ok.0 told.2
    ends_told Is (Err fault) mid usage still ok refused = ends_refused Is mid still refused.0 refused.1

-- ---- operands

pub operands_done : (options : Options) (texts : List Bytes) (world : World) (requested : Requested) (lines : List Requested) (ended : Ended) → operand_group options.profile texts ≡ Ok requested
    → lines ≡ requested ∷ [] → OrOutOfMemory world (LinesEnd options lines world) ended → OrOutOfMemory world (OperandsOutcome options texts world) ended
operands_done options texts world requested lines ended is same (inl memory) = inl memory
operands_done options texts world requested lines ended is same (inr ends) =
    inr (inr (requested, is, subst (λ (these : List Requested). LinesEnd options these world ended) same ends))

-- Operands that request something have a target.
has_target : (commands : List Request) (targets : List Target) (requested : Requested) → complete commands targets ≡ Ok requested
    → (target : Target) × (more : List Target) × (requested.targets ≡ target ∷ more)
has_target [] targets requested is = absurd (let e = is in cc)
has_target (command ∷ commands) [] requested is = absurd (let e = is in cc)
has_target (command ∷ commands) (target ∷ targets) requested is =
    (target, targets, ap (λ (a : Requested). a.targets) (one_requested requested (record { commands = command ∷ commands; targets = target ∷ targets }) (sym is)))
  where
    one_requested : (a b : Requested) → ◌≡◌ {A = Result Requested Usage} (Ok a) (Ok b) → a ≡ b
    one_requested a b e = cc

group_target : (found : Result Requested Refused) (requested : Requested) → accepted found ≡ Ok requested → (target : Target) × (more : List Target) × (requested.targets ≡ target ∷ more)
group_target (Ok whole) requested is = has_target whole.commands whole.targets requested is
group_target (Err refused) requested is = absurd (let e = is in cc)

named_first : (targets : List Target) (target : Target) (more : List Target) → targets ≡ target ∷ more → All (λ (one : Target). one.«package» ≡ input_package) targets
    → list_any is_of_input targets ≡ true
named_first targets target more is all =
    let first : target.«package» ≡ input_package = All-head (λ (one : Target). one.«package» ≡ input_package) target more
    (subst (All (λ (one : Target). one.«package» ≡ input_package)) is all) in
    ap (list_any is_of_input) is ∙ ap (λ (b : Bool). b || list_any is_of_input more) ((bytes_eq-Decides target.«package» input_package).1 first)

group_named : (profile : Profile) (texts : List Bytes) (requested : Requested) → operand_group profile texts ≡ Ok requested → AreOfInput (requested ∷ []) → names_input (requested ∷ []) ≡ true
group_named profile texts requested is are =
    let some = group_target (requested_of profile texts) requested is in
    ap (λ (b : Bool). b || false) (named_first requested.targets some.0 some.1 some.2
    (All-head (λ (line : Requested). All (λ (one : Target). one.«package» ≡ input_package) line.targets) requested [] are))

pub operands_premise : (honest : Bool) (profile : Profile) (texts : List Bytes) (requested : Requested) (lines : List Requested) → operand_group profile texts ≡ Ok requested
    → lines ≡ requested ∷ [] → (honest ≡ true) ⊎ IfOk (operand_group profile texts) (λ requested. AreOfInput (requested ∷ [])) → (honest ≡ true) ⊎ AreOfInputAndSome lines
operands_premise honest profile texts requested lines is same (inl is_honest) = inl is_honest
operands_premise honest profile texts requested lines is same (inr are) =
    let all : AreOfInput (requested ∷ []) = subst (λ (it : Result Requested Usage). IfOk it (λ requested. AreOfInput (requested ∷ []))) is are in
    inr (subst AreOfInput (sym same) all, ap names_input same ∙ group_named profile texts requested is all)

-- rules of standard input that operands name
pub names_given : (profile : Profile) (texts : List Bytes) (requested : Requested) (lines : List Requested) → operand_group profile texts ≡ Ok requested
    → lines ≡ requested ∷ [] → (other : Requested) × (operand_group profile texts ≡ Ok other) × (names_input (other ∷ []) ≡ true) → names_input lines ≡ true
names_given profile texts requested lines is same (other, found, named) =
    let one : other ≡ requested = ok_same other requested (sym found ∙ is) in
    ap names_input (same ∙ ap (λ (a : Requested). a ∷ []) (sym one)) ∙ named
  where
    ok_same : (a b : Requested) → ◌≡◌ {A = Result Requested Usage} (Ok a) (Ok b) → a ≡ b
    ok_same a b e = cc

-- ---- rules of standard input, which has no journal

not_both : (a b : Bool) → a && b ≡ false → b ≡ true → a ≡ false
not_both false b neither is = refl
not_both true b neither is = absurd (true≢false (sym is ∙ neither))

pub lines_premise : (honest journals : Bool) (lines : List Requested) → journals && names_input lines ≡ false → (honest ≡ true) ⊎ AreOfInputAndSome lines
    → (honest ≡ true) ⊎ ((journals ≡ false) × AreOfInput lines)
lines_premise honest journals lines neither (inl is) = inl is
lines_premise honest journals lines neither (inr named) = inr (not_both journals (names_input lines) neither named.1, named.0)

-- rules of standard input are meant where journals are kept
pub no_journal : (options : Options) (lines : List Requested) (world : World) → options.journal ≡ true → names_input lines ≡ true
    → LinesEnd options lines world (unused world.folder no_journal_line)
no_journal options lines world kept named = inl (ap (λ (b : Bool). b && names_input lines) kept ∙ named, refl)

-- ---- the text of a file of lines

-- it requests these lines
pub text_lines : (options : Options) (name text text' : Bytes) (world : World) (lines lines' : List Requested) (ended : Ended) → text' ≡ text → IsText text
    → script_of options.profile text' ≡ Ok lines → lines' ≡ lines → LinesOutcome options (bytes_eq name input_package) lines' world ended → TextOutcome options name text world ended
text_lines options name text text' world lines lines' ended same valid is these outcome = inr (inr (
  valid,
  (
    lines,
    ap (script_of options.profile) (sym same) ∙ is,
    subst (λ (it : List Requested). LinesOutcome options (bytes_eq name input_package) it world ended) these outcome,
  ),
))

-- a usage of it is reported
pub text_unused : (options : Options) (name text text' reported line : Bytes) (world : World) (found : Option Usage) (usage : Usage) → text' ≡ text → IsText text
    → IfSome found (IsScriptFault options.profile text') → found ≡ Some usage → reported ≡ reported_name name → line ≡ usage_line reported usage
    → TextOutcome options name text world (unused world.folder line)
text_unused options name text text' reported line world found usage same valid fault is called says = inr (inl (
  valid,
  (
    usage,
    subst (λ (it : Bytes). IsScriptFault options.profile it usage) same (at_some (IsScriptFault options.profile text') found usage is fault),
    ap (unused world.folder) (says ∙ ap (λ (it : Bytes). usage_line it usage) called),
  ),
))

-- ---- a file of lines

pub script_done : (options : Options) (name whole text text' : Bytes) (folder folder' : Folder) (known : Option Bytes) (acts : RunActs) (ended : Ended) → text' ≡ text
    → folder' ≡ folder → IsScript (record { folder = folder; known = known; acts = acts }) name (Some whole) → IsReadOf whole text
    → OrOutOfMemory (record { folder = folder'; known = known; acts = acts }) (TextOutcome options name text' (record { folder = folder'; known = known; acts = acts })) ended
    → OrOutOfMemory (record { folder = folder; known = known; acts = acts }) (ScriptOutcome options name (record { folder = folder; known = known; acts = acts })) ended
script_done options name whole text text' folder folder' known acts ended same still is read (inl memory) = inl (memory ∙ ap out_of_memory still)
script_done options name whole text text' folder folder' known acts ended same still is read (inr outcome) =
    let world : World = record { folder = folder'; known = known; acts = acts } in inr (inl (
      whole,
      is,
      subst (λ (it : Folder). TextOutcome options name whole (record { folder = it; known = known; acts = acts }) ended) still
          (whole_outcome options name whole text world ended read (subst (λ (it : Bytes). TextOutcome options name it world ended) same outcome)),
    ))

-- There is no file of lines.
pub script_missing : (honest : Bool) (world : World) (options : Options) (name : Bytes) → (honest ≡ true → IsScript world name None) → name ≢ input_package
    → IsUnused honest world (ScriptOutcome options name) (unread_line (reported_name name) c.Whole)
script_missing true world options name is other = (world, (λ _. refl), inr (refl, (λ write. absurd (cc write)), λ _. is refl))
script_missing false world options name is other =
    (record { folder = empty; known = None; acts = world.acts }, (λ honest. absurd (cc honest)), inr (refl, (λ write. absurd (cc write)), λ _. inr (other, sym (get-empty (slice_cmp nat_cmp) name))))

-- The text was read of the file of lines.
pub script_unused : (honest : Bool) (world : World) (options : Options) (name text text' line : Bytes) → text' ≡ text → (honest ≡ true → IsScriptFront world name text)
    → ((now : World) → TextOutcome options name text' now (unused now.folder line)) → IsUnused honest world (ScriptOutcome options name) line
script_unused true world options name text text' line same is outcome =
    let read = script_read world name text (is refl) in (
      world,
      (λ _. refl),
      inl (
        read.0,
        read.1,
        whole_outcome options name read.0 text world (unused world.folder line) read.2
            (subst (λ (it : Bytes). TextOutcome options name it world (unused world.folder line)) same (outcome world)),
      ),
    )
script_unused false world options name text text' line same is outcome = (now, (λ honest. absurd (cc honest)), inl (text', there (bytes_eq name input_package) refl, outcome now))
  where
    now : World
    now = record { folder = with_file world.folder name text'; known = Some text'; acts = world.acts }

    there : (b : Bool) → bytes_eq name input_package ≡ b → IsScript now name (Some text')
    there true of_input = inl ((bytes_eq-Decides name input_package).0 of_input, (text', refl, refl))
    there false other = inr (not_input name other, sym (reads_back world.folder name text'))

-- ---- words

-- what comes of words by what was read of them
words_so : (words : List Bytes) (found : Result CommandLine LineUsage) (world : World) (ended : Ended) → command_line_of words ≡ found → LineOutcome words found world ended
    → LineOutcome words (command_line_of words) world ended
words_so words found world ended is = subst (λ (it : Result CommandLine LineUsage). LineOutcome words it world ended) (sym is)

pub words_unused : (words : List Bytes) (world : World) (line : Bytes) (found : Option LineUsage) (usage : LineUsage)
    → IfSome found (λ usage. command_line_of words ≡ Err usage) → found ≡ Some usage → IsLineUsageLine words usage line
    → LineOutcome words (command_line_of words) world (unused world.folder line)
words_unused words world line found usage fault is reported =
    words_so words (Err usage) world (unused world.folder line) (at_some (λ usage. command_line_of words ≡ Err usage) found usage is fault) (line, reported, refl)

pub words_given : (words : List Bytes) (line : CommandLine) (given : Given) (world : World) (ended : Ended) → command_line_of words ≡ Ok line → line.given ≡ given
    → GivenOutcome line.options given world ended → LineOutcome words (command_line_of words) world ended
words_given words line given world ended is same outcome =
    words_so words (Ok line) world ended is (subst (λ (it : Given). GivenOutcome line.options it world ended) (sym same) outcome)

pub words_done : (words : List Bytes) (line : CommandLine) (given : Given) (world : World) (ended : Ended) → command_line_of words ≡ Ok line → line.given ≡ given
    → OrOutOfMemory world (GivenOutcome line.options given world) ended → WordsOutcome words world ended
words_done words line given world ended is same (inl memory) = inl memory
words_done words line given world ended is same (inr outcome) = inr (words_given words line given world ended is same outcome)

pub words_premise : (honest : Bool) (words : List Bytes) (line : CommandLine) (given : Given) → command_line_of words ≡ Ok line → line.given ≡ given
    → (honest ≡ true) ⊎ NamesNoFile words → (honest ≡ true) ⊎ IsOfInput line.options.profile given
words_premise honest words line given is same (inl is_honest) = inl is_honest
words_premise honest words line given is same (inr none) =
    inr (subst (IsOfInput line.options.profile) same (subst (λ (it : Result CommandLine LineUsage). IfOk it (λ line. IsOfInput line.options.profile line.given)) is none))

pub words_kept : (words : List Bytes) (line : CommandLine) → command_line_of words ≡ Ok line → KeepsJournals words → line.options.journal ≡ true
words_kept words line is kept = subst (λ (it : Result CommandLine LineUsage). IfOk it (λ line. line.options.journal ≡ true)) is kept

pub script_premise : (honest : Bool) (profile : Profile) (name : Bytes) → (honest ≡ true) ⊎ IsOfInput profile (script name) → honest ≡ true
script_premise honest profile name (inl is_honest) = is_honest
script_premise honest profile name (inr none) = absurd none

-- Where standard input can't be read, and nothing else is named, nothing is written to standard output.
pub read_nothing : {W E F : Type 0} (sink : SinkOf W) (errors : SinkOf E) (files : FilesOf F) (words : List Bytes) (world : World) (exit : Exit) (out out' : W) (err err' : E)
    (held' : F) → NamesNoFile words → exit.cut ≡ c.Read → EndsIn sink errors files (WordsOutcome words world) exit out out' err err' held' → PrintsAll sink out out' []
read_nothing sink errors files words world exit out out' err err' held' none read (ended, is, leaves) =
    prints_none sink ended.printed out out' ended.left.output
    (output_empty_where_input_fails words world ended none is (sym (ap (λ (it : Exit). it.cut) leaves.exit_is) ∙ read)
    (λ unread. subst (λ (why : Cut). PrintsUntil sink why out out' ended.left.output) unread leaves.output)) leaves.output
