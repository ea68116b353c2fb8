-- One step of a run with journals: each open file is safe at each moment.
use Rattle.bz_buildozer.proofs.Words.{[], ◌++◌, ◌+◌, ◌∙◌, ◌∷◌, ◌≡◌, ◌≢◌, ◌≤◌, ◌⊎◌, Action, Adds, after_keeping, AllAreSafe, ap, arith, Bool, Bytes, bytes_eq-Decides, elapsed_on, Elapses, eqb_tells, Err, false, file_at, file_left, Folder, folder_of, get, Ghosts as FilesOf, History, Holds, IfSome, if◌then◌else◌, inl, inr, is_some, IsApart, IsAside, IsBetween, IsMeanwhile, IsMomentOfSteps, IsNameOf, IsOpenedIn, IsSafe, Joins, journal_name, KeepFault, Keeps, KeepsAt, KeepsFile, KeepsFolder, KeepsStep, key_in, length, List, MayAct, None, Ok, Opened, Option, option_map, option_map_or, OthersStay, package_number, Pair, present, refl, Refused, Reply, Result, Resumes, RunStep, Some, stays, subst, suc, Survives, sym, TakesBeside, true, true≢false, unwrap_or, Used, UsesSome, weakened, with_opened, ℕ}
use Rattle.bz_buildozer.proofs.ActSteps.{acts_leaves, file_put}
use Rattle.bz_buildozer.proofs.PlaceSteps.{none_here}
use Rattle.bz_buildozer.proofs.StandSteps.{IsUnlike, OthersAre, WereThere, all_after, all_at, all_last, apart_from, as_begun, file_in_front, holds_still, key_begun, more_were, names_stay, one_file, other_at, put_were, takes_stand, two_apart, unlike_put}

-- ---- a file in another folder

between_still : (folder now : Folder) (name : Bytes) (h after : History) → get now name ≡ get folder name
    → get now (journal_name name) ≡ get folder (journal_name name) → IsBetween folder name h after → IsBetween now name h after
between_still folder now name h after same journal (inl first) = inl (holds_still folder now name h.«package» (present h) h.texts same journal first)
between_still folder now name h after same journal (inr (inl reported)) =
    inr (inl (holds_still folder now name h.«package» (present h) after.texts same journal reported))
between_still folder now name h after same journal (inr (inr done)) =
    inr (inr (holds_still folder now name h.«package» (present after) after.texts same journal done))

safe_still : (folder now : Folder) (file : Opened) → get now file.name ≡ get folder file.name
    → get now (journal_name file.name) ≡ get folder (journal_name file.name) → IsSafe folder file → IsSafe now file
safe_still folder now file same journal (inl (stays, holds)) =
    inl (stays, holds_still folder now file.name file.history.«package» (present file.history) file.history.texts same journal holds)
safe_still folder now file same journal (inr (left, (h, action, note, fault, keeps, between))) =
    inr (left, (h, action, note, fault, keeps, between_still folder now file.name h file.history same journal between))

-- ---- files of other packages

other_safe : (folder now : Folder) (current other name : Bytes) (file : Opened) → IsNameOf current name → other ≢ current → IsNameOf other file.name
    → OthersStay name folder now → IsSafe folder file → IsSafe now file
other_safe folder now current other name file named differs is stay safe =
    let same = names_stay folder now current other name file.name named differs is stay in safe_still folder now file same.0 same.1 safe

-- an open file of a package, with a name of it, is safe
abbrev IsSafeOf : Folder → Bytes → Opened → Type 0
IsSafeOf folder current file = IsNameOf current file.name × IsSafe folder file

pub safe_at : (folder : Folder) (place : ℕ) (used : List Used) (file : Opened) → file_at place used ≡ Some file → AllAreSafe folder used
    → (current : Bytes) × IsSafeOf folder current file × ((other : Bytes) → IsApart other used → current ≢ other)
safe_at folder = all_at (IsSafeOf folder)

all_safe_after : (place : ℕ) (used : List Used) (file next : Opened) (folder now : Folder) → file_at place used ≡ Some file → next.name ≡ file.name
    → IsSafe now next → OthersStay file.name folder now → AllAreSafe folder used → AllAreSafe now (with_opened place (Some next) used)
all_safe_after place used file next folder now at same safe stay =
    all_after (IsSafeOf folder) (IsSafeOf now) place used file next at (λ current is. (subst (IsNameOf current) (sym same) is.0, safe))
    (λ current other it is differs held. (held.0, other_safe folder now current other file.name it is.0 differs held.0 stay held.1))

-- a file that is safe is there
between_there : (folder : Folder) (name : Bytes) (h after : History) → IsBetween folder name h after → is_some (get folder name) ≡ true
between_there folder name h after (inl first) = ap (λ (held : Option Bytes). is_some held) first.holds
between_there folder name h after (inr (inl reported)) = ap (λ (held : Option Bytes). is_some held) reported.holds
between_there folder name h after (inr (inr done)) = ap (λ (held : Option Bytes). is_some held) done.holds

safe_there : (folder : Folder) (used : List Used) → AllAreSafe folder used → WereThere folder used
safe_there folder used all place file at = go (safe_at folder place used file at all).1.1
  where
    go : IsSafe folder file → is_some (get folder file.name) ≡ true
    go (inl (stays, holds)) = ap (λ (held : Option Bytes). is_some held) holds.holds
    go (inr (left, (h, action, note, fault, keeps, between))) = between_there folder file.name h file.history between

-- where each file is safe, and was there, and other names are as they were when the run began
all_meanwhile : (began folder : Folder) (used : List Used) → AllAreSafe folder used → WereThere began used → OthersAre began used folder → IsMeanwhile began used used folder
all_meanwhile began folder used all were others =
    record { files = λ place file next here there. inl (safe_at folder place used next there all).1.1; there = were; others = others }

-- a run may begin where each file is safe
pub began_safely : (folder : Folder) (used : List Used) → AllAreSafe folder used → IsMeanwhile folder used used folder
began_safely folder used all = all_meanwhile folder folder used all (safe_there folder used all) (λ name unlike aside. refl)

-- what a run knows a path by is that of its beginning
safe_key : (began folder : Folder) (path : Bytes) (used : List Used) → AllAreSafe folder used → IsMeanwhile began used used folder
    → key_in used folder path ≡ key_in used began path
safe_key began folder path used all mean = key_begun began folder used (safe_there folder used all) mean.there mean.others path

-- ---- a package that is opened

opened_safe : (folder : Folder) (current : Bytes) (file : Option Opened) → IfSome file (IsOpenedIn true folder current) → IfSome file (IsSafeOf folder current)
opened_safe folder current None opened = tt
opened_safe folder current (Some file) opened =
    let kept = takes_stand folder current (folder_of file.name) file.name file.read (get folder (journal_name file.name)) (Some file) [] opened.named opened.there refl
    opened.opens in
    (kept.0, inl (kept.1, kept.2))

-- its file is as it was when the run began
opened_began : (began folder : Folder) (current : Bytes) (used : List Used) (file : Option Opened) → IsApart current used → AllAreSafe folder used
    → OthersAre began used folder → IfSome file (IsOpenedIn true folder current) → IfSome file (IsOpenedIn true began current)
opened_began began folder current used None apart all others opened = tt
opened_began began folder current used (Some file) apart all others opened =
    let same = as_begun (IsSafeOf folder) (λ other it safe. safe.0) began folder current file.name used opened.named apart all others in record {
      named = opened.named;
      there = sym same.0 ∙ opened.there;
      opens = subst (λ (beside : Option Bytes). TakesBeside beside (folder_of file.name) file.name file.read (Some file) []) same.1 opened.opens;
    }

-- an open file is there
opened_there : (folder : Folder) (key : Bytes) (file : Option Opened) → IfSome file (IsOpenedIn true folder key)
    → IfSome file (λ it. IsNameOf key it.name × (is_some (get folder it.name) ≡ true))
opened_there folder key None opened = tt
opened_there folder key (Some file) opened = (opened.named, ap (λ (held : Option Bytes). is_some held) opened.there)

module _ (began folder : Folder) (path : Bytes) (before after : List Used) (found : Option ℕ) where
  joined_as : (key : Bytes) → Adds key (IsOpenedIn true folder key) found before after → AllAreSafe folder before → IsMeanwhile began before before folder
      → Joins began key before after × AllAreSafe folder after × IsMeanwhile began after after folder
  joined_as key (inl (same, at)) all mean =
      (inl same, subst (AllAreSafe folder) (sym same) all, subst (λ (used : List Used). IsMeanwhile began used used folder) (sym same) mean)
  joined_as key (inr (none, file, is, at, opened)) all mean =
      let apart = apart_from key before none in
      let one : Used = record { «package» = key; file = file } in
      let more = all_last (IsSafeOf folder) before one all (opened_safe folder key file opened) apart in
      let were = more_were began folder before (safe_there folder before all) mean.there mean.others key file (opened_there folder key file opened) in (
        inr (none, (file, opened_began began folder key before file apart all mean.others opened, is)),
        subst (AllAreSafe folder) (sym is) more,
        subst (λ (used : List Used). IsMeanwhile began used used folder) (sym is) (all_meanwhile began folder (before ++ one ∷ []) more were
            (λ name unlike aside. mean.others name (λ place it there. unlike place it (file_in_front place before one it there)) aside)),
      )

  -- (The key is that of the folder as the run began.)
  joined : UsesSome folder path found before after → AllAreSafe folder before → IsMeanwhile began before before folder
      → Joins began (key_in before began path) before after × AllAreSafe folder after × IsMeanwhile began after after folder
  joined (inl (place, number, same, at)) all mean =
      (inl same, subst (AllAreSafe folder) (sym same) all, subst (λ (used : List Used). IsMeanwhile began used used folder) (sym same) mean)
  joined (inr adds) all mean =
      let made = joined_as (key_in before folder path) adds all mean in
      (subst (λ (key : Bytes). Joins began key before after) (safe_key began folder path before all mean) made.0, made.1, made.2)

pub opened_safely : (folder now : Folder) (current : Bytes) (found : Option ℕ) (before after : List Used) → now ≡ folder → UsesSome folder current found before after
    → AllAreSafe folder before → AllAreSafe now after
opened_safely folder now current found before after same uses all =
    subst (λ (f : Folder). AllAreSafe f after) (sym same) (joined folder folder current before after found uses all (began_safely folder before all)).1

-- the number of the package that is used
number_last : (current : Bytes) (file : Option Opened) (used : List Used) → package_number current used ≡ None
    → package_number current (used ++ record { «package» = current; file = file } ∷ []) ≡ Some (length used)
number_last current file [] none =
    ap (λ (b : Bool). if b then Some 0 else option_map (λ (place : ℕ). place + 1) (package_number current [])) ((bytes_eq-Decides current current).1 refl)
number_last current file (used ∷ more) none =
    let both = none_here current used more none in
    ap (λ (b : Bool). if b then Some 0 else option_map (λ (place : ℕ). place + 1) (package_number current (more ++ record { «package» = current; file = file } ∷ []))) both.0
    ∙ ap (option_map (λ (place : ℕ). place + 1)) (number_last current file more both.1) ∙ ap Some (plus_one (length more))
  where
    plus_one : (n : ℕ) → n + 1 ≡ suc n
    plus_one n = omega arith

placed : (place at : ℕ) (file : Option Opened) → option_map (λ (_ : Opened). place) file ≡ Some at → place ≡ at
placed place at None is = absurd (let e = is in cc)
placed place at (Some file) is = ap (λ (found : Option ℕ). unwrap_or found 0) is

pub number_there : (folder : Folder) (path : Bytes) (before after : List Used) (found : Option ℕ) (at : ℕ) → UsesSome folder path found before after
    → found ≡ Some at → package_number (key_in before folder path) after ≡ Some at
number_there folder path before after found at (inl (place, number, same, is)) there =
    ap (package_number (key_in before folder path)) same ∙ number ∙ ap Some (placed place at (file_at place before) (sym is ∙ there))
number_there folder path before after found at (inr (inl (same, is))) there = absurd (let e = sym is ∙ there in cc)
number_there folder path before after found at (inr (inr (none, file, new, is, opened))) there =
    let key : Bytes = key_in before folder path in
    ap (package_number key) new ∙ number_last key file before none ∙ ap Some (placed (length before) at file (sym is ∙ there))

-- ---- an action that is kept

-- an action is under way in an open file
module _ (began folder : Folder) (place : ℕ) (before after : List Used) (file next : Opened) (there : file_at place before ≡ Some file)
    (put : after ≡ with_opened place (Some next) before) (named : next.name ≡ file.name) (stays : file.left ≡ false)
    (all : AllAreSafe folder before) (mean : IsMeanwhile began before before folder) where
  module _ (now : Folder) (between : IsBetween now file.name file.history next.history) (stay : OthersStay file.name folder now) where
    others_then : (name : Bytes) → IsUnlike after name → (IsAside name → ⊥) → get now name ≡ get began name
    others_then name unlike aside =
        let both = unlike_put place before after file next there put named name unlike in
        stay name both.1.0 both.1.1 (λ e. aside (file.name, e)) (λ e. aside (journal_name file.name, e)) ∙ mean.others name both.0 aside

    meanwhile : IsMeanwhile began before after now
    meanwhile = record {
      files = λ at one two here then_here. elim (eqb_tells at place) [
        | inl same ↦
            let first : one ≡ file = one_file (file_at place before) one file (subst (λ (n : ℕ). file_at n before ≡ Some one) same.1 here) there in
            let second : two ≡ next = one_file (file_at place after) two next (subst (λ (n : ℕ). file_at n after ≡ Some two) same.1 then_here)
            (file_put place before after file next there put) in
            inr (
              ap (λ (f : Opened). f.left) first ∙ stays,
              subst (λ (f : Opened). IsBetween now f.name f.history two.history) (sym first)
                  (subst (λ (f : Opened). IsBetween now file.name file.history f.history) (sym second) between),
            )
        | inr other ↦
            let two_there : file_at at before ≡ Some two = sym (ap (file_at at) put ∙ other_at place at (Some next) before other.1) ∙ then_here in
            let apart = two_apart (IsSafeOf folder) (λ current it safe. safe.0) place at before file two there two_there other.1 all in
            inl (safe_still folder now two (stay two.name apart.0.file_is apart.0.journal apart.0.new apart.0.new_journal)
            (stay (journal_name two.name) apart.1.file_is apart.1.journal apart.1.new apart.1.new_journal)
            (safe_at folder at before two two_there all).1.1)
      ];
      there = subst (WereThere began) (sym put) (put_were began place before file next there named mean.there);
      others = others_then;
    }

-- the name and the history after what was kept
pub name_left : (journals : Bool) (answer : Result Reply KeepFault) (history : History) (file : Opened) → (file_left journals answer history file).name ≡ file.name
name_left true (Ok reply) history file = refl
name_left false (Ok reply) history file = refl
name_left journals (Err (Refused refusal)) history file = refl
name_left journals (Err (Pair fault)) history file = refl

history_kept : (answer : Result Reply KeepFault) (history : History) (file : Opened) → (after_keeping answer history file).history ≡ history
history_kept (Ok reply) history file = refl
history_kept (Err (Refused refusal)) history file = refl
history_kept (Err (Pair fault)) history file = refl

-- the file goes on with a history
abbrev GoesOn : Folder → Bytes → History → Type 0
GoesOn folder name h = Holds folder name h.«package» (present h) h.texts

module _ {F : Type 0} (files : FilesOf F) (file : Opened) (old new : F) where
  -- a moment of keeping an action
  at_moment : (history : History) (now : Folder) → GoesOn (files.folder old) file.name file.history
      → (now ≡ files.folder old) ⊎ Survives file.name file.history history (files.folder old) now
      → IsBetween now file.name file.history history × OthersStay file.name (files.folder old) now
  at_moment history now holds (inl same) =
      (inl (subst (λ (f : Folder). GoesOn f file.name file.history) (sym same) holds), λ name a b c d. ap (λ (f : Folder). get f name) same)
  at_moment history now holds (inr survives) = (survives.holds, survives.others)

  pub survived : (history : History) (now : Folder) → GoesOn (files.folder old) file.name file.history
      → (now ≡ files.folder old) ⊎ Survives file.name file.history history (files.folder old) now → Survives file.name file.history history (files.folder old) now
  survived history now holds is = let both = at_moment history now holds is in record { holds = both.0; others = both.1 }

  unmoved : (history : History) → history ≡ file.history → new ≡ old → GoesOn (files.folder old) file.name file.history → GoesOn (files.folder new) file.name history
  unmoved history same still holds =
      subst (GoesOn (files.folder new) file.name) (sym same) (subst (λ (f : F). GoesOn (files.folder f) file.name file.history) (sym still) holds)

  safe_after : (action : Action) (note : Bytes) (answer : Result Reply KeepFault) (history : History) → files.honest old ≡ true → file.left ≡ false
      → GoesOn (files.folder old) file.name file.history → Keeps action note file.history answer history
      → KeepsFile files file.name file.history history answer old new → IsBetween (files.folder new) file.name file.history history
      → IsSafe (files.folder new) (after_keeping answer history file)
  safe_after action note (Ok reply) history honest stays holds keeps pair between = inl (
    stays,
    elim (acts_leaves action note file.history history (Ok reply) keeps) [
      | inl same ↦ unmoved history same (pair.still (ap (λ (h : History). h.cursor) same)) holds
      | inr went ↦ subst (λ (current : Bytes). Holds (files.folder new) file.name current (present history) history.texts) (sym went.2)
          (pair.kept honest (present file.history, holds) went.1).0
    ],
  )
  safe_after action note (Err (Refused refusal)) history honest stays holds keeps pair between =
      elim (acts_leaves action note file.history history (Err refusal) keeps) [
        | inl same ↦ inl (stays, unmoved history same (pair.refused tt) holds)
        | inr went ↦ absurd (let e = went.0.1 in cc)
      ]
  safe_after action note (Err (Pair fault)) history honest stays holds keeps pair between =
      inr (refl, (file.history, action, note, fault, keeps, between))

-- the file that isn't left alone goes on
pub goes_on_there : (folder : Folder) (file : Opened) → file.left ≡ false → IsSafe folder file → GoesOn folder file.name file.history
goes_on_there folder file stays (inl safe) = safe.1
goes_on_there folder file stays (inr left) = absurd (true≢false (sym left.0 ∙ stays))

module _ {F : Type 0} (files : FilesOf F) (counts : (held : F) (t : ℕ) → t ≤ files.moment held → files.since held t (files.folder held)) (began : Folder) where
  acted : (place : ℕ) (action : Action) (note : Bytes) (before after : List Used) (answer : Result Reply KeepFault) (old new : F)
      → (done : KeepsAt true files place action note before answer after old new) → done.file.left ≡ false → files.honest old ≡ true
      → AllAreSafe (files.folder old) before → IsMeanwhile began before before (files.folder old)
      → AllAreSafe (files.folder new) after × IsMeanwhile began after after (files.folder new)
      × Elapses (files.moment old) (files.moment new) (files.since old) (files.since new) (IsMeanwhile began before after)
  acted place action note before after answer old new done stays honest all mean =
      let file = done.file in
      let pair = done.pair refl in
      let history = done.history in
      let next = after_keeping answer history file in
      let folder = files.folder old in
      let named = name_left true answer history file in
      let holds = goes_on_there folder file stays (safe_at folder place before file done.there all).1.1 in
      let resumes : Resumes folder file.name file.history.«package» file.history.texts = (present file.history, holds) in
      let time = pair.time honest resumes in
      let last = at_moment files file old new history (files.folder new) holds
      (pair.each honest resumes (files.folder new) (counts new (files.moment old) time.later)) in
      let safe = subst (AllAreSafe (files.folder new)) (sym done.kept)
      (all_safe_after place before file next folder (files.folder new) done.there named
      (safe_after files file old new action note answer history honest stays holds done.keeps pair last.0) last.1 all) in
      let is_between = λ (now : Folder). λ (is : IsBetween now file.name file.history history).
      subst (IsBetween now file.name file.history) (sym (history_kept answer history file)) is in (
        safe,
        all_meanwhile began (files.folder new) after safe (subst (WereThere began) (sym done.kept) (put_were began place before file next done.there named mean.there))
            (others_then began folder place before after file next done.there done.kept named stays all mean (files.folder new) (is_between (files.folder new) last.0) last.1),
        weakened (files.moment old) (files.moment new) (files.since old) (files.since new)
            (λ (now : Folder). (now ≡ folder) ⊎ Survives file.name file.history history folder now) (IsMeanwhile began before after)
            (λ now is. let both = at_moment files file old new history now holds is in
            meanwhile began folder place before after file next done.there done.kept named stays all mean now (is_between now both.0) both.1) time,
      )

  -- ---- one step

  -- after a step each open file is safe again, and at each of its moments
  abbrev pub Passed : RunStep → List Used → List Used → F → F → Type 0
  Passed step before after old new = AllAreSafe (files.folder new) after × IsMeanwhile began after after (files.folder new)
      × Elapses (files.moment old) (files.moment new) (files.since old) (files.since new) (IsMomentOfSteps began (step ∷ []) before)
      × ((rest : List RunStep) (now : Folder) → IsMomentOfSteps began rest after now → IsMomentOfSteps began (step ∷ rest) before now)

  abbrev pub Steps : RunStep → List Used → List Used → F → F → Type 0
  Steps step before after old new =
      AllAreSafe (files.folder old) before → IsMeanwhile began before before (files.folder old) → Passed step before after old new

  module _ (step : RunStep) (before mid after : List Used) (old between new : F) (joins : Joins began (key_in before began step.target.«package») before mid) (moves : MayAct (key_in before began step.target.«package») step mid after)
      (safe : AllAreSafe (files.folder between) mid) (mean : IsMeanwhile began mid mid (files.folder between)) (same : files.folder between ≡ files.folder old)
      (first : KeepsFolder files old between) where
    stepped : AllAreSafe (files.folder new) after → IsMeanwhile began after after (files.folder new)
        → Elapses (files.moment between) (files.moment new) (files.since between) (files.since new) (IsMeanwhile began mid after) → Passed step before after old new
    stepped all next time = (
      all,
      next,
      elapsed_on (files.moment old) (files.moment between) (files.moment new) (files.since old) (files.since between) (files.since new)
          (IsMomentOfSteps began (step ∷ []) before) (IsMeanwhile began mid after) (λ now is. (mid, after, joins, moves, inl is))
          (weakened (files.moment old) (files.moment between) (files.since old) (files.since between) (λ (now : Folder). now ≡ files.folder old)
          (IsMomentOfSteps began (step ∷ []) before)
          (λ now is. (mid, mid, joins, inl refl, inl (subst (IsMeanwhile began mid mid) (same ∙ sym is) mean))) first) time,
      (λ rest now is. (mid, after, joins, moves, inr is)),
    )

  step_still : (step : RunStep) (before mid after : List Used) (found : Option ℕ) (old new : F) → UsesSome (files.folder old) step.target.«package» found before mid
      → files.folder new ≡ files.folder old → KeepsFolder files old new → after ≡ mid → Steps step before after old new
  step_still step before mid after found old new uses same first is all mean =
      let opened = joined began (files.folder old) step.target.«package» before mid found uses all mean in
      let safe = subst (λ (f : Folder). AllAreSafe f mid) (sym same) opened.1 in
      let still = subst (IsMeanwhile began mid mid) (sym same) opened.2 in
      stepped step before mid after old new new opened.0 (inl is) safe still same first (subst (AllAreSafe (files.folder new)) (sym is) safe)
      (subst (λ (used : List Used). IsMeanwhile began used used (files.folder new)) (sym is) still)
      (stays (files.moment new) (files.since new) (IsMeanwhile began mid after))

  pub step_acted : (step : RunStep) (before mid after : List Used) (found : Option ℕ) (old between new : F)
      → UsesSome (files.folder old) step.target.«package» found before mid → files.folder between ≡ files.folder old → KeepsFolder files old between
      → files.honest between ≡ true → KeepsStep files step found mid after between new → Steps step before after old new
  step_acted step before mid after found old between new uses same first honest (inl (is, still)) all mean =
      subst (Passed step before after old) (sym still)
      (step_still step before mid after found old between uses same first is all mean)
  step_acted step before mid after found old between new uses same first honest (inr (at, there, stays, (action, requested, (answer, done)))) all mean =
      let opened = joined began (files.folder old) step.target.«package» before mid found uses all mean in
      let safe = subst (λ (f : Folder). AllAreSafe f mid) (sym same) opened.1 in
      let still = subst (IsMeanwhile began mid mid) (sym same) opened.2 in
      let left : done.file.left ≡ false = sym (ap (λ (found : Option Opened). option_map_or (λ (file : Opened). file.left) found false) done.there) ∙ stays in
      let path = step.target.«package» in
      let number = ap (λ (key : Bytes). package_number key mid) (sym (safe_key began (files.folder old) path before all mean))
      ∙ number_there (files.folder old) path before mid found at uses there in
      let moved = acted at action step.request.text mid after answer between new done left honest safe still in
      stepped step before mid after old between new opened.0
      (inr (at, done.file, action, answer, done.history, number, done.there, left, requested, done.keeps, done.kept)) safe still same first moved.0 moved.1 moved.2
