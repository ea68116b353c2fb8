-- Runs that standard input or standard output cuts: what is printed, and what a run leaves that nothing cuts.
use Rattle.bz_buildozer.proofs.Words.{[], ◌++◌, ◌∙◌, ◌∷◌, ◌≡◌, ◌≢◌, ◌⊎◌, All, All-head, All-tail, all_steps, Answers, ap, append-nil, AreOfInput, arith, Bool, Bytes, command_line_of, CommandLine, Cut, Cut as c, Does, Ended, ended_whole, Err, false, file_at, first_cut, flat_map, Folder, Given, GivenOutcome, IfOk, inl, input_package, inr, is_input, IsOfInput, Left, LineOutcome, LineUsage, List, map, names_file, NamesNoFile, None, nothing_done, Ok, Opened, opened_out, operands, Option, option_map, Options, OutputCutsNothingElse, package_number, Performs, Progress, refl, Request, Requested, Result, root_above, root_note, RunsSteps, RunStep, script, shows_input, status_of, step_of, steps_requested, subst, suc, sym, Target, texts_out, TriesFile, TriesFiles, Usage, Used, Uses, with_opened, WordsOutcome, World, zero, ℕ}
use Rattle.bz_buildozer.proofs.{FailSteps.answers_stay, FailSteps.stay_used, StandSteps.key_input, StandSteps.key_of_input, CutSteps.both_whole, PlaceSteps.last_is_used}

-- ---- steps on rules of standard input use no other package, and so write no file

-- each of these packages is that of standard input
abbrev pub AreInput : List Used → Type 0
AreInput [] = Unit {0}
AreInput (used ∷ more) = (used.«package» ≡ input_package) × AreInput more

-- each of these steps is on rules of standard input
abbrev pub AreStepsOfInput : List RunStep → Type 0
AreStepsOfInput [] = Unit {0}
AreStepsOfInput (step ∷ steps) = (step.target.«package» ≡ input_package) × AreStepsOfInput steps

-- ---- what steps use

one_more : (used : List Used) (last : Used) → last.«package» ≡ input_package → AreInput used → AreInput (used ++ last ∷ [])
one_more [] last is are = (is, tt)
one_more (used ∷ more) last is are = (are.0, one_more more last is are.1)

kept : (place : ℕ) (file : Option Opened) (used : List Used) → AreInput used → AreInput (with_opened place file used)
kept place file [] are = tt
kept zero file (used ∷ more) are = are
kept (suc place) file (used ∷ more) are = (are.0, kept place file more are.1)

used_on : (why : Cut) (world : World) (current : Bytes) (before : List Used) (number : Option ℕ) (lines : List Bytes) (after : List Used) → current ≡ input_package
    → Uses why false world current before number lines after → AreInput before → AreInput after
used_on c.Whole world current before number lines after is (place, inl again, at) are = subst AreInput (sym again.2) are
used_on c.Whole world current before number lines after is (place, inr (absent, last, (found, file, finds, opens, new)), at) are =
    subst AreInput (sym new) (one_more before _ (key_of_input before world.folder current is) are)
used_on c.Memory world current before number lines after is (none, at, inl (same, told)) are = subst AreInput (sym same) are
used_on c.Memory world current before number lines after is (none, at, inr (fresh, new, told)) are =
    subst AreInput (sym new) (one_more before _ (key_of_input before world.folder current is) are)
used_on c.Read world current before number lines after is (plain, of_input, none, at, told, new) are = subst AreInput (sym new) (one_more before _ is are)
used_on c.Write world current before number lines after is uses are = absurd uses
used_on c.Files world current before number lines after is (none, here, (file, opens, new, at)) are =
    subst AreInput (sym new) (one_more before _ (key_of_input before world.folder current is) are)

answers_on : (why : Cut) (step : RunStep) (number : Option ℕ) (folder : Folder) (state : Progress) (lines : List Bytes) (folder' : Folder) (after : Progress)
    → Answers why false step number folder state lines folder' after → AreInput state.used → AreInput after.used
answers_on why step number folder state lines folder' after answers are = elim (answers_stay why false step number folder folder' state after lines answers) [
  | inl same ↦ subst AreInput (sym same) are
  | inr (place, file, is) ↦ subst AreInput (sym is) (kept place file state.used are)
]

does_on : (why : Cut) (world : World) (step : RunStep) (before : Progress) (lines : List Bytes) (folder : Folder) (after : Progress) → step.target.«package» ≡ input_package
    → Does why false world step before lines folder after → AreInput before.used → AreInput after.used
does_on why world step before lines folder after is does are =
    answers_on does.acted step does.number world.folder (record before { used = does.used }) does.answer folder after does.answers
    (used_on does.opened world step.target.«package» before.used does.number does.opening does.used is does.uses are)

runs_on : (why : Cut) (world : World) (keep_going : Bool) (steps : List RunStep) (before : Progress) (lines : List Bytes) (folder : Folder) (after : Progress)
    → AreStepsOfInput steps → RunsSteps why false world keep_going steps before lines folder after → AreInput before.used → AreInput after.used
runs_on why world keep_going [] before lines folder after of_input runs are = subst (λ (now : Progress). AreInput now.used) (sym runs.3) are
runs_on why world keep_going (step ∷ steps) before lines folder after of_input (inl ended) are = subst (λ (now : Progress). AreInput now.used) (sym ended.4) are
runs_on why world keep_going (step ∷ steps) before lines folder after of_input (inr (goes, (one, later, between, mid, first, rest, does, runs, reported, cut))) are =
    runs_on later (record world { folder = between }) keep_going steps mid rest folder after of_input.1 runs (does_on one world step before first between mid of_input.0 does are)

-- ---- the steps of lines

appended : (first more : List RunStep) → AreStepsOfInput first → AreStepsOfInput more → AreStepsOfInput (first ++ more)
appended [] more are others = others
appended (step ∷ first) more are others = (are.0, appended first more are.1 others)

on_target : (target : Target) (commands : List Request) → target.«package» ≡ input_package → AreStepsOfInput (map (step_of target) commands)
on_target target [] is = tt
on_target target (request ∷ commands) is = (is, on_target target commands is)

on_targets : (commands : List Request) (targets : List Target) → All (λ target. target.«package» ≡ input_package) targets
    → AreStepsOfInput (flat_map (λ target. map (step_of target) commands) targets)
on_targets commands [] all = tt
on_targets commands (target ∷ targets) all =
    appended (map (step_of target) commands) _ (on_target target commands (All-head (λ (other : Target). other.«package» ≡ input_package) target targets all))
    (on_targets commands targets (All-tail (λ (other : Target). other.«package» ≡ input_package) target targets all))

pub on_lines : (lines : List Requested) → AreOfInput lines → AreStepsOfInput (all_steps lines)
on_lines [] all = tt
on_lines (line ∷ lines) all =
    appended (steps_requested line) (all_steps lines) (on_targets line.commands line.targets (All-head (λ (requested : Requested). All (λ target. target.«package» ≡ input_package) requested.targets) line lines all))
    (on_lines lines (All-tail (λ (requested : Requested). All (λ target. target.«package» ≡ input_package) requested.targets) line lines all))

-- Lines on rules of standard input alone use no other package.
pub nothing_else_used : (why : Cut) (world : World) (keep_going : Bool) (lines : List Requested) (reported : List Bytes) (folder : Folder) (state : Progress)
    → AreOfInput lines → RunsSteps why false world keep_going (all_steps lines) nothing_done reported folder state
    → All (λ (used : Used). used.«package» ≡ input_package) state.used
nothing_else_used why world keep_going lines reported folder state are runs =
    each state.used (runs_on why world keep_going (all_steps lines) nothing_done reported folder state (on_lines lines are) runs tt)
  where
    each : (used : List Used) → AreInput used → All (λ (one : Used). one.«package» ≡ input_package) used
    each [] are k d within = absurd (omega arith)
    each (used ∷ more) are zero d within = are.0
    each (used ∷ more) are (suc k) d within = each more are.1 k d (omega arith)

-- What holds of both parts holds of the two.
by_first : (P : Cut → Type 0) (one later why : Cut) → why ≡ first_cut one later → P one → P later → P why
by_first P c.Whole later why is first more = subst P (sym is) more
by_first P _ later why is first more = subst P (sym is) first

-- ---- what standard output doesn't cut

runs_unwritten : (why : Cut) (journals : Bool) (world : World) (keep_going : Bool) (steps : List RunStep) (before : Progress) (lines : List Bytes) (folder : Folder)
    (after : Progress) → RunsSteps why journals world keep_going steps before lines folder after → why ≢ c.Write
runs_unwritten why journals world keep_going [] before lines folder after runs = λ is. absurd (let e = sym runs.0 ∙ is in cc)
runs_unwritten why journals world keep_going (step ∷ steps) before lines folder after (inl over) = λ is. absurd (let e = sym over.1 ∙ is in cc)
runs_unwritten why journals world keep_going (step ∷ steps) before lines folder after (inr (goes, (one, later, between, mid, first, rest, does, runs, told, cut))) =
    by_first (λ (it : Cut). it ≢ c.Write) one later why cut
    (by_first (λ (it : Cut). it ≢ c.Write) does.opened does.acted one does.cut
    (λ is. subst (λ (it : Cut). Uses it journals world step.target.«package» before.used does.number does.opening does.used) is does.uses)
    (λ is. subst (λ (it : Cut). Answers it journals step does.number world.folder (record before { used = does.used }) does.answer between mid) is does.answers))
    (runs_unwritten later journals (record world { folder = between }) keep_going steps mid rest folder after runs)

tries_alone : (why : Cut) (options : Options) (used : List Used) (before : Folder) (lines : List Bytes) (after : Folder) → TriesFiles why options used before lines after
    → (why ≢ c.Write) × (why ≢ c.Read)
tries_alone why options [] before lines after tries = ((λ is. absurd (let e = sym tries.0 ∙ is in cc)), (λ is. absurd (let e = sym tries.0 ∙ is in cc)))
tries_alone why options (used ∷ more) before lines after (one, later, first, rest, mid, tries, following, told, cut) =
    by_first (λ (it : Cut). (it ≢ c.Write) × (it ≢ c.Read)) one later why cut
    ((λ is. subst (λ (it : Cut). TriesFile it options used before first mid) is tries), (λ is. subst (λ (it : Cut). TriesFile it options used before first mid) is tries))
    (tries_alone later options more mid rest after following)

-- ---- what a run that is cut requested

-- steps of lines are done, and whatever else they leave is an outcome too
record Requests (Is : Ended → Type 0) (OfInput : Type 0) (world : World) (ended : Ended) : Type 0 where
  pub options : Options
  pub lines : List Requested
  pub known : Option Bytes
  pub performs : Performs options lines (record world { known = known }) ended
  pub again : (other : Ended) → Performs options lines (record world { known = known }) other → Is other
  pub of_input : OfInput → AreOfInput lines

module _ (world : World) (ended : Ended) (other : ended.cut ≢ c.Whole) where
  given_requests : (options : Options) (given : Given) → (ended.cut ≡ c.Write) ⊎ IsOfInput options.profile given → GivenOutcome options given world ended
      → Requests (GivenOutcome options given world) (IsOfInput options.profile given) world ended
  given_requests options (operands texts) why (inl (usage, fault, is)) = absurd (other (ap (λ (e : Ended). e.cut) is))
  given_requests options (operands texts) why (inr (requested, is, inl (named, same))) = absurd (other (ap (λ (e : Ended). e.cut) same))
  given_requests options (operands texts) why (inr (requested, is, inr (none, performs))) = record {
    options = options;
    lines = requested ∷ [];
    known = world.known;
    performs = performs;
    again = λ it done. inr (requested, is, inr (none, done));
    of_input = λ of_input. subst (λ (it : Result Requested Usage). IfOk it (λ one. AreOfInput (one ∷ []))) is of_input;
  }
  given_requests options (script name) why (inl (text, there, inl (fault, invalid, is))) = absurd (other (ap (λ (e : Ended). e.cut) is))
  given_requests options (script name) why (inl (text, there, inr (inl (fits, (usage, fault, is))))) = absurd (other (ap (λ (e : Ended). e.cut) is))
  given_requests options (script name) why (inl (text, there, inr (inr (fits, (lines, is, inl (named, same)))))) = absurd (other (ap (λ (e : Ended). e.cut) same))
  given_requests options (script name) why (inl (text, there, inr (inr (fits, (lines, is, inr (apart, (known, left, inl (named, same)))))))) =
      absurd (other (ap (λ (e : Ended). e.cut) same))
  given_requests options (script name) why (inl (text, there, inr (inr (fits, (lines, is, inr (apart, (known, left, inr (none, performs)))))))) = record {
    options = options;
    lines = lines;
    known = known;
    performs = performs;
    again = λ it done. inl (text, there, inr (inr (fits, (lines, is, inr (apart, (known, left, inr (none, done)))))));
    of_input = λ none. absurd none;
  }
  given_requests options (script name) (inl write) (inr (is, unwritten, absent)) = absurd (unwritten write)
  given_requests options (script name) (inr none) (inr unread) = absurd none

  line_requests : (words : List Bytes) (line : Result CommandLine LineUsage) → (ended.cut ≡ c.Write) ⊎ IfOk line (λ it. IsOfInput it.options.profile it.given)
      → LineOutcome words line world ended → Requests (LineOutcome words line world) (IfOk line (λ it. IsOfInput it.options.profile it.given)) world ended
  line_requests words (Err usage) why (line, told, is) = absurd (other (ap (λ (e : Ended). e.cut) is))
  line_requests words (Ok line) why outcome = given_requests line.options line.given why outcome

-- ---- a run that standard output cuts

first_write : (one later : Cut) → c.Write ≡ first_cut one later → one ≢ c.Write → (one ≡ c.Whole) × (c.Write ≡ later)
first_write c.Whole later is other = (refl, is)
first_write c.Write later is other = absurd (other refl)
first_write _ later is other = absurd (cc is)

pub output_alone : OutputCutsNothingElse
output_alone words world ended (inl memory) write = absurd (let e = sym write ∙ ap (λ (e : Ended). e.cut) memory in cc)
output_alone words world ended (inr outcome) write =
    let it = line_requests world ended (λ is. absurd (let e = sym write ∙ is in cc)) words (command_line_of words) (inl write) outcome in
    let p = it.performs in
    let place : World = record world { known = it.known } in
    let stopped = first_write p.stopped (first_cut p.written ended.printed) (sym write ∙ p.cut)
    (runs_unwritten p.stopped it.options.journal place it.options.keep_going (all_steps it.lines) nothing_done p.reported p.folder p.state p.runs) in
    let written = first_write p.written ended.printed stopped.1 (tries_alone p.written it.options p.state.used p.folder p.told ended.left.folder p.tries).0 in
    let front = root_note (names_file it.lines) (root_above world.folder) ++ p.reported in
    let left : Left = record { output = ended.left.output; lines = front ++ p.told; status = status_of c.Whole p.state; folder = ended.left.folder } in (
      left,
      inr (it.again (ended_whole left) (record {
        stopped = c.Whole;
        written = c.Whole;
        reported = p.reported;
        told = p.told;
        folder = p.folder;
        state = p.state;
        runs = subst (λ (why : Cut). RunsSteps why it.options.journal place it.options.keep_going (all_steps it.lines) nothing_done p.reported p.folder p.state) stopped.0 p.runs;
        output = p.output;
        tries = subst (λ (why : Cut). TriesFiles why it.options p.state.used p.folder p.told ended.left.folder) written.0 p.tries;
        lines = ap (λ (ls : List Bytes). ls ++ p.told) (sym (append-nil front));
        cut = refl;
        status = refl;
      })),
      refl,
      refl,
    )

-- ---- a run that standard input cuts

-- standard input was used
abbrev IsUsed : List Used → Type 0
IsUsed used = package_number input_package used ≡ None → ⊥

-- no file is open
abbrev AreClosed : List Used → Type 0
AreClosed [] = Unit {0}
AreClosed (used ∷ more) = (used.file ≡ None) × AreClosed more

-- nothing was printed, and no file is open
abbrev IsEmpty : Progress → Type 0
IsEmpty state = (state.printed ≡ []) × AreClosed state.used

closed_at : (place : ℕ) (used : List Used) → AreClosed used → file_at place used ≡ None
closed_at place [] closed = refl
closed_at zero (used ∷ more) closed = closed.0
closed_at (suc place) (used ∷ more) closed = closed_at place more closed.1

closed_after : (journals : Bool) (step : RunStep) (why : Cut) (number : Option ℕ) (folder : Folder) (state : Progress) (lines : List Bytes) (folder' : Folder) (after : Progress)
    → number ≡ None → Answers why journals step number folder state lines folder' after → IsEmpty state → IsEmpty after
closed_after journals step why number folder state lines folder' after none answers empty =
    go why (subst (λ (n : Option ℕ). Answers why journals step n folder state lines folder' after) none answers)
  where
    go : (cut : Cut) → Answers cut journals step None folder state lines folder' after → IsEmpty after
    go c.Whole (told, still, is) = subst IsEmpty (sym is) empty
    go _ never = absurd never

module _ (journals : Bool) (world : World) (number : Option ℕ) (lines : List Bytes) (after : List Used) where
  -- standard input was used before
  used_again : (why : Cut) (before : List Used) → IsUsed before → Uses why journals world input_package before number lines after
      → (why ≢ c.Read) × IsUsed after × (AreClosed before → (number ≡ None) × AreClosed after)
  used_again c.Whole before used (place, inl (is, told, same), at) = (
    (λ is. absurd (cc is)),
    subst IsUsed (sym same) used,
    (λ closed. let still = subst AreClosed (sym same) closed in (at ∙ ap (option_map (λ (_ : Opened). place)) (closed_at place after still), still)),
  )
  used_again c.Whole before used (place, inr (none, last, opens), at) = absurd (used (sym (ap (λ (key : Bytes). package_number key before) (key_input before world.folder)) ∙ none))
  used_again c.Memory before used (none, gone, wants) = absurd (used none)
  used_again c.Read before used (plain, is, none, at, told, new) = absurd (used none)
  used_again c.Files before used (none, inside, opened) = absurd (used (sym (ap (λ (key : Bytes). package_number key before) (key_input before world.folder)) ∙ none))
  used_again c.Write before used uses = absurd uses

  one_used : (file : Option Opened) → after ≡ record { «package» = input_package; file = file } ∷ [] → IsUsed after
  one_used file new = subst IsUsed (sym new) (last_is_used input_package [] (record { «package» = input_package; file = file }) refl)

  used_first : (why : Cut) → why ≢ c.Memory → Uses why journals world input_package [] number lines after → IsUsed after × (why ≡ c.Read → (number ≡ None) × AreClosed after)
  used_first c.Whole other (place, inl (is, told, same), at) = absurd (let e = is in cc)
  used_first c.Whole other (place, inr (none, last, (found, file, finds, opens, new)), at) =
      (one_used file (new ∙ ap (λ (key : Bytes). record { «package» = key; file = file } ∷ []) (key_input [] world.folder)), λ is. absurd (cc is))
  used_first c.Memory other uses = absurd (other refl)
  used_first c.Read other (plain, is, absent, none, told, new) =
      (one_used None new, λ is. (none, subst AreClosed (sym new) (refl, tt)))
  used_first c.Files other (absent, here, (file, opens, new, at)) =
      (one_used file (new ∙ ap (λ (key : Bytes). record { «package» = key; file = file } ∷ []) (key_input [] world.folder)), λ is. absurd (cc is))
  used_first c.Write other uses = absurd uses

module _ (journals : Bool) (world : World) (step : RunStep) (acted : Cut) (number : Option ℕ) (state after : Progress) (answer : List Bytes) (folder : Folder)
    (answers : Answers acted journals step number world.folder state answer folder after) where
  used_still : IsUsed state.used → IsUsed after.used
  used_still used none = used (sym (stay_used acted journals input_package step number world.folder folder state after answer answers) ∙ none)

  not_read : acted ≢ c.Read
  not_read is = subst (λ (why : Cut). Answers why journals step number world.folder state answer folder after) is answers

runs_again : (why : Cut) (journals : Bool) (world : World) (keep_going : Bool) (steps : List RunStep) (before : Progress) (lines : List Bytes) (folder : Folder) (after : Progress)
    → AreStepsOfInput steps → IsUsed before.used → RunsSteps why journals world keep_going steps before lines folder after → (why ≢ c.Read) × (IsEmpty before → IsEmpty after)
runs_again why journals world keep_going [] before lines folder after of_input used runs = ((λ is. absurd (let e = sym runs.0 ∙ is in cc)), subst IsEmpty (sym runs.3))
runs_again why journals world keep_going (step ∷ steps) before lines folder after of_input used (inl over) =
    ((λ is. absurd (let e = sym over.1 ∙ is in cc)), subst IsEmpty (sym over.4))
runs_again why journals world keep_going (step ∷ steps) before lines folder after of_input used (inr (goes, (one, later, between, mid, first, rest, does, runs, told, cut))) =
    let state : Progress = record before { used = does.used } in
    let uses = used_again journals world does.number does.opening does.used does.opened before.used used
    (subst (λ (current : Bytes). Uses does.opened journals world current before.used does.number does.opening does.used) of_input.0 does.uses) in
    let more = runs_again later journals (record world { folder = between }) keep_going steps mid rest folder after of_input.1
    (used_still journals world step does.acted does.number state mid does.answer between does.answers uses.1) runs in (
      by_first (λ (it : Cut). it ≢ c.Read) one later why cut
          (by_first (λ (it : Cut). it ≢ c.Read) does.opened does.acted one does.cut uses.0 (not_read journals world step does.acted does.number state mid does.answer between does.answers))
          more.0,
      (λ empty. let now = uses.2 empty.1 in
          more.1 (closed_after journals step does.acted does.number world.folder state does.answer between mid now.0 does.answers (empty.0, now.1))),
    )

first_read : (one later : Cut) → c.Read ≡ first_cut one later → (one ≢ c.Memory) × ((one ≡ c.Read) ⊎ ((one ≡ c.Whole) × (c.Read ≡ later)))
first_read c.Whole later is = ((λ same. absurd (cc same)), inr (refl, is))
first_read c.Read later is = ((λ same. absurd (cc same)), inl refl)
first_read _ later is = absurd (cc is)

reads_nothing : (journals : Bool) (world : World) (keep_going : Bool) (steps : List RunStep) (lines : List Bytes) (folder : Folder) (after : Progress)
    → AreStepsOfInput steps → RunsSteps c.Read journals world keep_going steps nothing_done lines folder after → IsEmpty after
reads_nothing journals world keep_going [] lines folder after of_input runs = absurd (let e = runs.0 in cc)
reads_nothing journals world keep_going (step ∷ steps) lines folder after of_input (inl over) = absurd (let e = over.1 in cc)
reads_nothing journals world keep_going (step ∷ steps) lines folder after of_input (inr (goes, (one, later, between, mid, first, rest, does, runs, told, cut))) =
    let state : Progress = record nothing_done { used = does.used } in
    let reads = subst (λ (current : Bytes). Uses does.opened journals world current [] does.number does.opening does.used) of_input.0 does.uses in
    let used = used_still journals world step does.acted does.number state mid does.answer between does.answers in
    let more = runs_again later journals (record world { folder = between }) keep_going steps mid rest folder after of_input.1 in
    elim (first_read one later cut).1 [
      | inl read ↦
          let opened = first_read does.opened does.acted (sym read ∙ does.cut) in
          let uses = used_first journals world does.number does.opening does.used does.opened opened.0 reads in
          elim opened.1 [
            | inl is ↦
                let now = uses.1 is in
                (more (used uses.0) runs).1 (closed_after journals step does.acted does.number world.folder state does.answer between mid now.0 does.answers (refl, now.1))
            | inr (whole, acted) ↦ absurd (not_read journals world step does.acted does.number state mid does.answer between does.answers (sym acted))
          ]
      | inr (whole, read) ↦
          let opened = (both_whole does.opened does.acted one does.cut whole).0 in
          let uses = used_first journals world does.number does.opening does.used does.opened (λ is. absurd (let e = sym opened ∙ is in cc)) reads in
          absurd ((more (used uses.0) runs).0 (sym read))
    ]

no_texts : (shown to_stdout : Bool) (used : List Used) → AreClosed used → texts_out shown to_stdout used ≡ []
no_texts shown to_stdout [] closed = refl
no_texts shown to_stdout (used ∷ more) closed =
    ap (λ (file : Option Opened). opened_out (is_input used) shown to_stdout file ++ texts_out shown to_stdout more) closed.0 ∙ no_texts shown to_stdout more closed.1

-- Where standard input can't be read, steps on its rules alone leave nothing to print.
performs_nothing_printed : (options : Options) (lines : List Requested) (world : World) (ended : Ended) → AreOfInput lines → ended.cut ≡ c.Read
    → ended.printed ≢ c.Read → Performs options lines world ended → ended.left.output ≡ []
performs_nothing_printed options lines world ended are cut other p =
    by_first (λ (it : Cut). it ≡ c.Read → ended.left.output ≡ []) p.stopped (first_cut p.written ended.printed) ended.cut p.cut
    (λ is.
    let empty = reads_nothing options.journal world options.keep_going (all_steps lines) p.reported p.folder p.state (on_lines lines are)
    (subst (λ (why : Cut). RunsSteps why options.journal world options.keep_going (all_steps lines) nothing_done p.reported p.folder p.state) is p.runs) in
    p.output ∙ ap (λ (text : Bytes). text ++ texts_out (shows_input (all_steps lines)) options.to_stdout p.state.used) empty.0
    ∙ no_texts (shows_input (all_steps lines)) options.to_stdout p.state.used empty.1)
    (by_first (λ (it : Cut). it ≡ c.Read → ended.left.output ≡ []) p.written ended.printed (first_cut p.written ended.printed) refl
    (λ is. absurd ((tries_alone p.written options p.state.used p.folder p.told ended.left.folder p.tries).1 is)) (λ is. absurd (other is))) cut

pub output_empty_where_input_fails : (words : List Bytes) (world : World) (ended : Ended) → NamesNoFile words → WordsOutcome words world ended → ended.cut ≡ c.Read
    → ended.printed ≢ c.Read → ended.left.output ≡ []
output_empty_where_input_fails words world ended named (inl memory) cut other = absurd (let e = sym cut ∙ ap (λ (e : Ended). e.cut) memory in cc)
output_empty_where_input_fails words world ended named (inr outcome) cut other =
    let it = line_requests world ended (λ is. absurd (let e = sym cut ∙ is in cc)) words (command_line_of words) (inr named) outcome in
    performs_nothing_printed it.options it.lines (record world { known = it.known }) ended (it.of_input named) cut other it.performs
