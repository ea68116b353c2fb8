-- What several parts of a run do, one after the other.
use Rattle.bz_buildozer.proofs.Words.{[], ◌++◌, ◌+◌, ◌<◌, ◌∙◌, ◌∷◌, ◌≡◌, ◌≤◌, All, All-get_or, all_steps, ap, append-nil, append_assoc, arith, Bool, Counts, counts_more, Cut, Cut as c, drop, elapsed_on, ends_run, first_cut, flat_map, Folder, get_or, inl, inr, IsMeanwhile, IsMomentOfSteps, length, List, map, map-append, MayRun, Option, Proceeds, refl, reports_more, request_in, requested_in, RunActs, RunSpot, RunsSteps, RunStep, stays, step_of, steps_requested, subst, sym, take, take-append-drop, take_all, take_more, Target, true, true≢false, Used, weakened, World, ℕ}
use Rattle.std.proofs.lemmas.Grind.{flat_map-append}
use Rattle.bz_buildozer.proofs.{CutSteps.cut_more, CutSteps.neither_read, FailSteps.cut_alone, FailSteps.ended_runs, FailSteps.runs_more, SafeSteps.began_safely, UnreadSteps.among_first, UnreadSteps.among_second, UnreadSteps.grows_none, UnreadSteps.grows_on}
use Rattle.bz_command_line.specs.{declared.requested.Request.Request, declared.requested.Requested.Requested}

-- ---- moments

moment_here : (began : Folder) (steps : List RunStep) (used : List Used) (now : Folder) → IsMeanwhile began used used now → IsMomentOfSteps began steps used now
moment_here began [] used now is = is
moment_here began (step ∷ steps) used now is = (used, used, inl refl, inl refl, inl is)

-- a moment of some steps is one of these and more
moment_in_front : (began : Folder) (xs ys : List RunStep) (used : List Used) (now : Folder) → IsMomentOfSteps began xs used now
    → IsMomentOfSteps began (xs ++ ys) used now
moment_in_front began [] ys used now is = moment_here began ys used now is
moment_in_front began (x ∷ xs) ys used now (mid, after, joins, moves, inl is) = (mid, after, joins, moves, inl is)
moment_in_front began (x ∷ xs) ys used now (mid, after, joins, moves, inr is) = (mid, after, joins, moves, inr (moment_in_front began xs ys after now is))

-- steps may do nothing
moment_after : (began : Folder) (xs ys : List RunStep) (used : List Used) (now : Folder) → IsMomentOfSteps began ys used now
    → IsMomentOfSteps began (xs ++ ys) used now
moment_after began [] ys used now is = is
moment_after began (x ∷ xs) ys used now is = (used, used, inl refl, inl refl, inr (moment_after began xs ys used now is))

-- ---- parts of a run

-- steps are done
abbrev pub Done : Bool → Type 0 → Bool → List RunStep → Cut → RunSpot → RunSpot → Type 0
Done journals Premise keep_going steps = Proceeds journals Premise steps (λ (it : Cut) (world : World). RunsSteps it journals world keep_going steps)

pub counts_same : (count : ℕ) → Counts count count
counts_same count = record { grows = omega arith; rises = inl refl }

-- these do nothing
done_still : (journals : Bool) (Premise : Type 0) (keep_going : Bool) (steps : List RunStep) (spot : RunSpot)
    → ((known : Option (List ℕ)) (acts : RunActs) → RunsSteps c.Whole journals (record { folder = spot.folder; known = known; acts = acts }) keep_going steps spot.state [] spot.folder spot.state)
    → Done journals Premise keep_going steps c.Whole spot spot
done_still journals Premise keep_going steps spot none = record {
  does = λ can safe known acts left among. ([], none known acts, left, (refl, refl));
  safely = λ kept honest began all mean. (
    all,
    mean,
    stays spot.moment spot.since (IsMomentOfSteps began steps spot.state.used),
    (λ rest now is. moment_after began steps rest spot.state.used now is),
  );
  unread = λ kept. (refl, refl, (λ is. absurd (cc is)));
  works = λ sound is. absurd (cc is);
  sound = refl;
  cut = (refl, refl);
  read_faults = counts_same spot.read_faults;
  counts = counts_same spot.file_faults;
  grows = grows_none spot.acts;
  honest = refl;
}

pub done_none : (journals : Bool) (Premise : Type 0) (keep_going : Bool) (spot : RunSpot) → Done journals Premise keep_going [] c.Whole spot spot
done_none journals Premise keep_going spot = done_still journals Premise keep_going [] spot (λ known acts. (refl, refl, refl, refl))

still : (Premise Now : Type 0) (journals honest honest' : Bool) → honest' ≡ honest → (Premise → Now) → MayRun journals honest Premise → MayRun journals honest' Now
still Premise Now journals honest honest' same implies (inl is) = inl (same ∙ is)
still Premise Now journals honest honest' same implies (inr (plain, holds)) = inr (plain, implies holds)

-- where journals are kept files are honest
pub honest_kept : (journals honest : Bool) (Premise : Type 0) → MayRun journals honest Premise → journals ≡ true → honest ≡ true
honest_kept journals honest Premise (inl is) kept = is
honest_kept journals honest Premise (inr (plain, holds)) kept = absurd (true≢false (sym kept ∙ plain))

-- steps are done, and after them these
done_on : (journals : Bool) (Premise Now : Type 0) (keep_going : Bool) (xs ys : List RunStep) (cut later : Cut) (old mid new : RunSpot) → (Premise → Now)
    → Done journals Premise keep_going xs cut old mid → Done journals Now keep_going ys later mid new
    → Done journals Premise keep_going (xs ++ ys) (first_cut cut later) old new
done_on journals Premise Now keep_going xs ys cut later old mid new implies before then = record {
  does = λ can safe known acts remains among.
      let all_safe = λ (kept : journals ≡ true).
      (before.safely kept (honest_kept journals old.honest Premise can kept) old.folder (safe kept) (began_safely old.folder old.state.used (safe kept))).0 in
      let first = before.does can safe known acts remains (among_first old.acts mid.acts new.acts acts then.grows among) in
      let next = then.does (still Premise Now journals old.honest mid.honest before.honest implies can) all_safe known acts first.2 (among_second old.acts mid.acts new.acts acts before.grows among) in (
        first.0 ++ next.0,
        runs_more cut later journals (record { folder = old.folder; known = known; acts = acts }) keep_going xs ys old.state mid.state new.state first.0 next.0 mid.folder new.folder
            first.1 next.1,
        next.2,
        reports_more old.faults mid.faults new.faults old.reported mid.reported new.reported first.0 next.0 first.3 next.3,
      );
  safely = λ kept honest began all mean.
      let first = before.safely kept honest began all mean in
      let second = then.safely kept (before.honest ∙ honest) began first.0 first.1 in
      let moment = IsMomentOfSteps began (xs ++ ys) old.state.used in (
        second.0,
        second.1,
        elapsed_on old.moment mid.moment new.moment old.since mid.since new.since moment (IsMomentOfSteps began ys mid.state.used) (first.3 ys)
            (weakened old.moment mid.moment old.since mid.since (IsMomentOfSteps began xs old.state.used) moment (moment_in_front began xs ys old.state.used) first.2) second.2,
        (λ rest now is. subst (λ (these : List RunStep). IsMomentOfSteps began these old.state.used now) (sym (append_assoc xs ys rest))
            (first.3 (ys ++ rest) now (second.3 rest now is))),
      );
  unread = λ kept. let first = before.unread kept in let more = then.unread kept in
      (more.0 ∙ first.0, more.1 ∙ first.1, neither_read cut later first.2 more.2);
  works = λ sound. neither_read cut later (before.works sound) (then.works (before.sound ∙ sound));
  sound = then.sound ∙ before.sound;
  cut = cut_more cut later old.read_faults mid.read_faults new.read_faults old.file_faults mid.file_faults new.file_faults before.cut then.cut before.read_faults then.read_faults before.counts then.counts;
  read_faults = counts_more old.read_faults mid.read_faults new.read_faults before.read_faults then.read_faults;
  counts = counts_more old.file_faults mid.file_faults new.file_faults before.counts then.counts;
  grows = grows_on old.acts mid.acts new.acts before.grows then.grows;
  honest = then.honest ∙ before.honest;
}

-- All steps are these and one part more.
pub done_more : (journals : Bool) (Premise Now : Type 0) (keep_going : Bool) (steps xs ys : List RunStep) (cut later : Cut) (old mid new : RunSpot) → (Premise → Now)
    → steps ≡ xs ++ ys → Done journals Premise keep_going xs cut old mid → Done journals Now keep_going ys later mid new
    → Done journals Premise keep_going steps (first_cut cut later) old new
done_more journals Premise Now keep_going steps xs ys cut later old mid new implies split before then =
    subst (λ (all : List RunStep). Done journals Premise keep_going all (first_cut cut later) old new) (sym split)
    (done_on journals Premise Now keep_going xs ys cut later old mid new implies before then)

-- A step failed, so those that are left do nothing.
pub done_early : (journals : Bool) (Premise : Type 0) (keep_going : Bool) (steps xs ys : List RunStep) (cut : Cut) (old new : RunSpot) → ends_run keep_going new.state ≡ true
    → steps ≡ xs ++ ys → Done journals Premise keep_going xs cut old new → Done journals Premise keep_going steps cut old new
done_early journals Premise keep_going steps xs ys cut old new ended split before =
    subst (λ (it : Cut). Done journals Premise keep_going steps it old new) (cut_alone cut)
    (done_more journals Premise Premise keep_going steps xs ys cut c.Whole old new new (λ is. is) split before (done_still journals Premise keep_going ys new (λ known acts.
    ended_runs journals (record { folder = new.folder; known = known; acts = acts }) keep_going ys new.state ended)))

-- ---- a loop over a list, which it holds under another name

pub taken_at : {A : Type 0} (items held : List A) (at : ℕ) (item : A) → held ≡ items → at < length held → item ≡ get_or held at item
    → take (at + 1) items ≡ take at items ++ item ∷ []
taken_at items held at item same within is = subst (λ all. take (at + 1) all ≡ take at all ++ item ∷ []) same
    (take_more held at item within ∙ ap (λ first. take at held ++ first ∷ []) (sym is))

pub all_taken : {A : Type 0} (items held : List A) (at : ℕ) → held ≡ items → length held ≤ at → take at items ≡ items
all_taken items held at same past = subst (λ all. take at all ≡ all) same (take_all at held past)

-- the steps of one item more
pub part_last : {A : Type 0} (part : A → List RunStep) (items : List A) (item : A) → flat_map part (items ++ item ∷ []) ≡ flat_map part items ++ part item
part_last part items item = flat_map-append part items (item ∷ []) ∙ ap (λ rest. flat_map part items ++ rest) (append-nil (part item))

pub all_at : {A : Type 0} (P : A → Type 0) (items held : List A) (at : ℕ) (item : A) → held ≡ items → at < length held → item ≡ get_or held at item
    → All P items → P item
all_at P items held at item same within is all = subst P (sym is) (All-get_or P held at item within (subst (All P) (sym same) all))

-- ---- the steps of lines, as far as these were done

pub split_at : {A : Type 0} (items held : List A) (at : ℕ) (item : A) → held ≡ items → at < length held → item ≡ get_or held at item
    → items ≡ take at items ++ item ∷ drop (at + 1) items
split_at items held at item same within is = sym (take-append-drop (at + 1) items)
    ∙ (ap (λ first. first ++ drop (at + 1) items) (taken_at items held at item same within is) ∙ append_assoc (take at items) (item ∷ []) (drop (at + 1) items))

-- the steps of these commands on a target
abbrev pub on_target : List Request → Target → List RunStep
on_target commands target = map (step_of target) (map request_in commands)

-- the steps of the first lines
abbrev pub lines_before : ℕ → List Requested → List RunStep
lines_before at lines = all_steps (map requested_in (take at lines))

pub steps_on : (target : Target) (some more : List Request) → on_target (some ++ more) target ≡ on_target some target ++ on_target more target
steps_on target some more = ap (map (step_of target)) (map-append request_in some more) ∙ map-append (step_of target) (map request_in some) (map request_in more)

steps_of_lines : (some more : List Requested) → all_steps (map requested_in (some ++ more)) ≡ all_steps (map requested_in some) ++ all_steps (map requested_in more)
steps_of_lines some more = ap all_steps (map-append requested_in some more) ∙ flat_map-append steps_requested (map requested_in some) (map requested_in more)

pub one_more : (a b c more all : List RunStep) → all ≡ c ++ more → a ++ (b ++ all) ≡ (a ++ (b ++ c)) ++ more
one_more a b c more all is = ap (λ (s : List RunStep). a ++ (b ++ s)) is ∙ (ap (λ (s : List RunStep). a ++ s) (sym (append_assoc b c more)) ∙ sym (append_assoc a (b ++ c) more))

pub one_line_more : (lines : List Requested) (at : ℕ) (line : Requested) → at < length lines → line ≡ get_or lines at line
    → lines_before (at + 1) lines ≡ lines_before at lines ++ steps_requested (requested_in line)
one_line_more lines at line within is = ap (λ (some : List Requested). all_steps (map requested_in some)) (taken_at lines lines at line refl within is)
    ∙ (steps_of_lines (take at lines) (line ∷ []) ∙ ap (λ rest. lines_before at lines ++ rest) (append-nil (steps_requested (requested_in line))))

-- All steps are those that were done and some more. (How many lines, targets and commands were taken up.)
pub steps_left : (lines : List Requested) (at : ℕ) (line : Requested) (held : List Target) (at' : ℕ) (target : Target) (done : ℕ) → at < length lines
    → line ≡ get_or lines at line → held ≡ line.targets.items → at' < length held → target ≡ get_or held at' target
    → (rest : List RunStep) × (all_steps (map requested_in lines) ≡ (lines_before at lines ++ (flat_map (on_target line.commands.items) (take at' line.targets.items)
    ++ on_target (take done line.commands.items) target)) ++ rest)
steps_left lines at line held at' target done within is same within' is' =
    let commands = line.commands.items in
    let targets = line.targets.items in
    let front = flat_map (on_target commands) (take at' targets) in
    let some = on_target (take done commands) target in
    let more = on_target (drop done commands) target in
    let others = flat_map (on_target commands) (drop (at' + 1) targets) in
    let last = all_steps (map requested_in (drop (at + 1) lines)) in
    let of_target : on_target commands target ≡ some ++ more =
    ap (λ (these : List Request). on_target these target) (sym (take-append-drop done commands)) ∙ steps_on target (take done commands) (drop done commands) in
    let of_line : steps_requested (requested_in line) ≡ front ++ ((some ++ more) ++ others) =
    ap (flat_map (on_target commands)) (split_at targets held at' target same within' is')
    ∙ (flat_map-append (on_target commands) (take at' targets) (target ∷ drop (at' + 1) targets) ∙ ap (λ (s : List RunStep). front ++ (s ++ others)) of_target) in
    let of_lines : steps_requested (requested_in line) ++ last ≡ front ++ (some ++ (more ++ (others ++ last))) =
    ap (λ (s : List RunStep). s ++ last) of_line ∙ (append_assoc front ((some ++ more) ++ others) last
    ∙ ap (λ (s : List RunStep). front ++ s) (append_assoc (some ++ more) others last ∙ append_assoc some more (others ++ last))) in (
      more ++ (others ++ last),
      ap (λ (these : List Requested). all_steps (map requested_in these)) (split_at lines lines at line refl within is)
          ∙ (steps_of_lines (take at lines) (line ∷ drop (at + 1) lines) ∙ (ap (λ (s : List RunStep). lines_before at lines ++ s) of_lines
          ∙ one_more (lines_before at lines) front some (more ++ (others ++ last)) (some ++ (more ++ (others ++ last))) refl)),
    )
