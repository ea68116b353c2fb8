-- Whole runs of steps do one thing, without journals and with them, and print the same lines but for what is left open.
use Rattle.bz_buildozer.proofs.Words.{[], ◌++◌, ◌||◌, ◌∙◌, ◌∷◌, ◌≡◌, ◌≢◌, ◌⊎◌, Action, action_of, after_meaning, AllAre, Answer, Answers, AnswersIn, ap, AreHints, arith, as_file, as_package, as_unedited, Bool, Bytes, bytes_eq, bytes_eq-Decides, codes, Cut, Cut as c, Do, Does, EffectMeans, Err, false, fault_excerpt, fault_line, file_after, file_at, file_of_journal, Finds, first_cut, first_name, Folder, folder_of, FolderAfter, Format, Formats, found_at, found_of, get, History, Holds, IfSome, if◌then◌else◌, inl, input_package, inr, is_of_input, is_some, IsAside, IsInput, IsNameOf, Item, journal_beside, journal_name, key_in, key_of, Leads, LeadsBy, left_out, lines_of, lines_of_journal, List, list_any, Makes, Meaning, named_line, Node, None, Ok, OneReading, Opened, OpensAs, Option, option_map, option_map_or, or_parts, OthersStay, package_number, package_of, PackagesFound, present, Progress, Redo, refl, Refusal, refusal_hint, reported_of, Result, RunsSteps, RunStep, SameLines, second_name, Settled, settled, Some, state_after, stdin, subst, sym, Takes, TakesBeside, true, true≢false, Undo, unwrap_or, Used, Uses, UsesWhole, view_of, with_opened, World, ℕ}
use Rattle.bz_buildozer.proofs.CutSteps.{both_whole}
use Rattle.bz_buildozer.proofs.ReadSteps.{one_given}
use Rattle.bz_buildozer.proofs.ActSteps.{Leaves, acts_leaves}
use Rattle.bz_buildozer.proofs.StandSteps.{IsHeld, IsUnlike, OthersAre, WereThere, all_after, all_at, all_last, apart_from, as_begun, file_in_front, found_by, found_holds, holds_still, is_named, key_new, key_same, means_held, more_were, names_stay, not_input, not_named, own_holds, own_named, put_were, settled_begun, there_still, unlike_put}

-- ---- lists of lines that are the same but for what is left open

same_self : (words : List Bytes) (world : World) (lines : List Bytes) → SameLines words world lines lines
same_self words world [] = tt
same_self words world (line ∷ lines) = (inl refl, same_self words world lines)

pub same_lines : (words : List Bytes) (world : World) (lines others : List Bytes) → lines ≡ others → SameLines words world lines others
same_lines words world lines others same = subst (λ (ls : List Bytes). SameLines words world lines ls) same (same_self words world lines)

-- Lines of these texts are the same where the texts are.
pub same_as : (words : List Bytes) (world : World) (lines others these those : List Bytes) → lines ≡ these → others ≡ those
    → SameLines words world these those → SameLines words world lines others
same_as words world lines others these those is other_is same =
    subst (λ (ls : List Bytes). SameLines words world ls others) (sym is) (subst (λ (ls : List Bytes). SameLines words world these ls) (sym other_is) same)

pub same_append : (words : List Bytes) (world : World) (first others rest more : List Bytes) → SameLines words world first others
    → SameLines words world rest more → SameLines words world (first ++ rest) (others ++ more)
same_append words world [] [] rest more same following = following
same_append words world [] (other ∷ others) rest more same following = absurd same
same_append words world (line ∷ first) [] rest more same following = absurd same
same_append words world (line ∷ first) (other ∷ others) rest more same following =
    (same.0, same_append words world first others rest more same.1 following)

-- The same lines, above others that are the same.
pub same_parts : (words : List Bytes) (world : World) (lines others first first' rest rest' : List Bytes) → lines ≡ first ++ rest → others ≡ first' ++ rest'
    → SameLines words world first first' → SameLines words world rest rest' → SameLines words world lines others
same_parts words world lines others first first' rest rest' is other_is same following =
    same_as words world lines others (first ++ rest) (first' ++ rest') is other_is (same_append words world first first' rest rest' same following)

-- ---- an action leads to one answer and one history

one_effect : (effect : Result (List Item) Refusal) (answer : Option Bytes) (items : List Item) (text : Bytes) (m n : Meaning)
    → EffectMeans effect answer items text m → EffectMeans effect answer items text n → m ≡ n
one_effect (Err refusal) answer items text m n is other_is = is ∙ sym other_is
one_effect (Ok new) answer items text m n (inl same) (inl same') = same.1 ∙ sym same'.1
one_effect (Ok new) answer items text m n (inl same) (inr differs) = absurd (differs.0 same.0)
one_effect (Ok new) answer items text m n (inr differs) (inl same) = absurd (differs.0 same.0)
one_effect (Ok new) answer items text m n (inr differs) (inr differs') = differs.1 ∙ sym differs'.1

-- A text reads as one tree, so what is formatted of it is one.
one_format : OneReading → (text : Bytes) (m n : Meaning) → Formats text m → Formats text n → m ≡ n
one_format one text m n (tree, reads, is) (tree', reads', is') =
    let same : tree' ≡ tree = one text tree' tree reads' reads in
    let here = rw same at is' in
    is ∙ sym here

one_made : OneReading → (action : Action) (note : Bytes) (h : History) (answer answer' : Answer) (after after' : History) → Makes action note h answer after
    → Makes action note h answer' after' → ◌≡◌ {A = Answer × History} (answer, after) (answer', after')
one_made one (Do command target) note h answer answer' after after' (m, (tree, reads, means), is) (n, (tree', reads', means'), is') =
    let same : tree' ≡ tree = one (present h) tree' tree reads' reads in
    let here = rw same at means' in
    is ∙ ap (after_meaning note h) (one_effect _ _ _ _ m n means here) ∙ sym is'
one_made one Format note h answer answer' after after' (m, formats, is) (n, formats', is') =
    is ∙ ap (after_meaning note h) (one_format one (present h) m n formats formats') ∙ sym is'
one_made one (Undo count) note h answer answer' after after' is is' = is ∙ sym is'
one_made one (Redo count) note h answer answer' after after' is is' = is ∙ sym is'

one_end : OneReading → (action : Action) (note : Bytes) (h : History) (answer answer' : Answer) (after after' : History) → Leads action note h answer after
    → Leads action note h answer' after' → ◌≡◌ {A = Answer × History} (answer, after) (answer', after')
one_end one action note h answer answer' after after' (inl (long, is)) (inl (long', is')) = is ∙ sym is'
one_end one action note h answer answer' after after' (inl (long, is)) (inr (short, makes)) = absurd (omega arith)
one_end one action note h answer answer' after after' (inr (short, makes)) (inl (long, is)) = absurd (omega arith)
one_end one action note h answer answer' after after' (inr (short, makes)) (inr (short', makes')) =
    one_made one action note h answer answer' after after' makes makes'

pub one_answer : OneReading → (action : Option Action) (note : Bytes) (h : History) (answer answer' : Answer) (after after' : History)
    → LeadsBy action note h answer after → LeadsBy action note h answer' after' → (answer ≡ answer') × (after ≡ after')
one_answer one None note h answer answer' after after' is is' = (is.0 ∙ sym is'.0, is.1 ∙ sym is'.1)
one_answer one (Some action) note h answer answer' after after' leads leads' =
    let same = one_end one action note h answer answer' after after' leads leads' in
    (ap (λ (z : Answer × History). z.0) same, ap (λ (z : Answer × History). z.1) same)

-- ---- whole steps

whole_answers : (journals : Bool) (step : RunStep) (place : ℕ) (found : Option Opened) (folder : Folder) (state : Progress) (lines : List Bytes) (folder' : Folder)
    (after : Progress) → file_at place state.used ≡ found → Answers c.Whole journals step (option_map (λ (_ : Opened). place) found) folder state lines folder' after
    → AnswersIn journals step place (left_out journals found) folder state lines folder' after
whole_answers true step place None folder state lines folder' after at answers = answers
whole_answers false step place None folder state lines folder' after at answers = answers
whole_answers journals step place (Some file) folder state lines folder' after at answers =
    subst (λ (found : Option Opened). AnswersIn journals step place (left_out journals found) folder state lines folder' after) at answers

-- what a step does that nothing cuts
abbrev DoesWhole : Bool → World → RunStep → Progress → List Bytes → Folder → Progress → Type 0
DoesWhole journals world step before lines folder after = (place : ℕ) × (used : List Used) × (opening : List Bytes) × (answer : List Bytes)
    × UsesWhole journals world step.target.«package» before.used place opening used
    × AnswersIn journals step place (left_out journals (file_at place used)) world.folder (record before { used = used }) answer folder after × (lines ≡ opening ++ answer)

does_whole : (why : Cut) (journals : Bool) (world : World) (step : RunStep) (before : Progress) (lines : List Bytes) (folder : Folder) (after : Progress) → why ≡ c.Whole
    → Does why journals world step before lines folder after → DoesWhole journals world step before lines folder after
does_whole why journals world step before lines folder after is does =
    let whole = both_whole does.opened does.acted why does.cut is in
    let state : Progress = record before { used = does.used } in
    let uses = subst (λ (it : Cut). Uses it journals world step.target.«package» before.used does.number does.opening does.used) whole.0 does.uses in
    let answers = subst (λ (number : Option ℕ). Answers c.Whole journals step number world.folder state does.answer folder after) uses.2
    (subst (λ (it : Cut). Answers it journals step does.number world.folder state does.answer folder after) whole.1 does.answers) in (
      uses.0,
      does.used,
      does.opening,
      does.answer,
      uses.1,
      whole_answers journals step uses.0 (file_at uses.0 does.used) world.folder state does.answer folder after refl answers,
      does.reported,
    )

-- a step and those after it, none of which is cut
first_whole : (one later : Cut) (journals : Bool) (world : World) (keep_going : Bool) (step : RunStep) (steps : List RunStep) (before mid after : Progress)
    (first rest : List Bytes) (between folder : Folder) → c.Whole ≡ first_cut one later → Does one journals world step before first between mid
    → RunsSteps later journals (record world { folder = between }) keep_going steps mid rest folder after
    → DoesWhole journals world step before first between mid × RunsSteps c.Whole journals (record world { folder = between }) keep_going steps mid rest folder after
first_whole one later journals world keep_going step steps before mid after first rest between folder cut does runs =
    let whole = both_whole one later c.Whole cut refl in (
      does_whole one journals world step before first between mid whole.0 does,
      subst (λ (why : Cut). RunsSteps why journals (record world { folder = between }) keep_going steps mid rest folder after) whole.1 runs,
    )

-- ---- what stays the same in a run

-- Without journals the folder is as it was; with them each open file is held there, and was there, and each other name is as it was.
abbrev pub Stays : Bool → Folder → List Used → Folder → Type 0
Stays false began used folder = folder ≡ began
Stays true began used folder = AllAre (IsHeld folder) used × OthersAre began used folder × WereThere began used

pub stays_at : (journals : Bool) (began : Folder) (used used' : List Used) (folder folder' : Folder) → used' ≡ used → folder' ≡ folder
    → Stays journals began used folder → Stays journals began used' folder'
stays_at journals began used used' folder folder' same still stays =
    subst (λ (u : List Used). Stays journals began u folder') (sym same) (subst (Stays journals began used) (sym still) stays)

-- each open file is there
held_there : (folder : Folder) (used : List Used) → AllAre (IsHeld folder) used → WereThere folder used
held_there folder used all place file at = ap (λ (held : Option Bytes). is_some held) (all_at (IsHeld folder) place used file at all).1.2.holds

-- it is, where one is open
one_there : (folder : Folder) (key : Bytes) (file : Option Opened) → IfSome file (IsHeld folder key)
    → IfSome file (λ it. IsNameOf key it.name × (is_some (get folder it.name) ≡ true))
one_there folder key None held = tt
one_there folder key (Some file) held = (held.0, ap (λ (it : Option Bytes). is_some it) held.2.holds)

stays_used : (journals : Bool) (began : Folder) (here : World) (path : Bytes) (before : List Used) (place : ℕ) (lines : List Bytes) (after : List Used)
    → UsesWhole journals here path before place lines after → Stays journals began before here.folder → Stays journals began after here.folder
stays_used false began here path before place lines after uses still = still
stays_used true began here path before place lines after (inl again) stays = stays_at true began before after here.folder here.folder again.2 refl stays
stays_used true began here path before place lines after (inr (none, last, (found, file, inl read, opens, new))) stays = absurd (true≢false read.0)
stays_used true began here path before place lines after (inr (none, last, (found, file, inr (which, is), opens, new))) stays =
    let key : Bytes = key_in before here.folder path in
    let one : Used = record { «package» = key; file = file } in
    let held = subst (λ (k : Bytes). IfSome file (IsHeld here.folder k)) (sym (key_new before here.folder path none))
    (means_held here.folder path (settled here.folder path) found file lines refl (sym is) opens) in
    stays_at true began (before ++ one ∷ []) after here.folder here.folder new refl (
      all_last (IsHeld here.folder) before one stays.0 held (apart_from key before none),
      (λ name unlike aside. stays.1 name (λ at it there. unlike at it (file_in_front at before one it there)) aside),
      more_were began here.folder before (held_there here.folder before stays.0) stays.2 stays.1 key file (one_there here.folder key file held),
    )

-- the file that isn't left alone
not_left : (found : Option Opened) (file : Opened) → left_out true found ≡ Some file → found ≡ Some file
not_left None file is = is
not_left (Some one) file is = go one.left is
  where
    go : (left : Bool) → ◌≡◌ {A = Option Opened} (if left then None else Some one) (Some file) → ◌≡◌ {A = Option Opened} (Some one) (Some file)
    go true is = absurd (let e = is in cc)
    go false is = is

leaves_by : (action : Option Action) (note : Bytes) (h after : History) (answer : Answer) → LeadsBy action note h answer after → Leaves h answer after
leaves_by None note h after answer leads = inl leads.1
leaves_by (Some action) note h after answer (inl long) = acts_leaves action note h after answer (inl long)
leaves_by (Some action) note h after answer (inr (short, makes)) = acts_leaves action note h after answer (inr (short, inl makes))

module _ (file : Opened) (history : History) (folder folder' : Folder) where
  unmoved : history ≡ file.history → folder' ≡ folder → (current : Bytes) → IsHeld folder current file
      → Holds folder' file.name history.«package» (present history) history.texts
  unmoved same still current held =
      subst (λ (h : History). Holds folder' file.name h.«package» (present h) h.texts) (sym same)
      (subst (λ (f : Folder). Holds f file.name file.history.«package» (present file.history) file.history.texts) (sym still) held.2)

  -- what an answer leaves: the file is held, and other names are as they were
  left_by : (answer : Answer) → Leaves file.history answer history → FolderAfter true answer file history folder folder'
      → ((file_after true answer history file).name ≡ file.name) × OthersStay file.name folder folder'
      × ((current : Bytes) → IsHeld folder current file → IsHeld folder' current (file_after true answer history file))
  left_by (Ok reply) leaves (inr (moved, pair)) = (refl, pair.others, λ current held. (held.0, held.1, pair.holds))
  left_by (Ok reply) (inl same) (inl (at, still)) =
      (refl, (λ name a b c d. ap (λ (f : Folder). get f name) still), λ current held. (held.0, held.1, unmoved same still current held))
  left_by (Ok reply) (inr went) (inl (at, still)) = absurd (went.1 at)
  left_by (Err refusal) (inl same) still =
      (refl, (λ name a b c d. ap (λ (f : Folder). get f name) still), λ current held. (held.0, held.1, unmoved same still current held))
  left_by (Err refusal) (inr went) still = absurd (let e = went.0.1 in cc)

  still_plain : (answer : Answer) → FolderAfter false answer file history folder folder' → folder' ≡ folder
  still_plain (Ok reply) still = still
  still_plain (Err refusal) still = still

stays_answered : (journals : Bool) (began : Folder) (step : RunStep) (place : ℕ) (found : Option Opened) (folder folder' : Folder) (state after : Progress) (lines : List Bytes)
    → left_out journals (file_at place state.used) ≡ found → AnswersIn journals step place found folder state lines folder' after
    → Stays journals began state.used folder → Stays journals began after.used folder'
stays_answered journals began step place None folder folder' state after lines at (told, still, is) stays =
    stays_at journals began state.used after.used folder folder' (ap (λ (s : Progress). s.used) is) still stays
stays_answered false began step place (Some file) folder folder' state after lines at (answer, history, leads, following, told, is) still =
    still_plain file history folder folder' answer following ∙ still
stays_answered true began step place (Some file) folder folder' state after lines at (answer, history, leads, following, told, is) stays =
    let there = not_left (file_at place state.used) file at in
    let next = file_after true answer history file in
    let made = left_by file history folder folder' answer (leaves_by (action_of step.target step.request.verb) step.request.text file.history history answer leads) following in
    stays_at true began (with_opened place (Some next) state.used) after.used folder' folder' (ap (λ (s : Progress). s.used) is) refl (
      all_after (IsHeld folder) (IsHeld folder') place state.used file next there made.2
          (λ current other it held differs same.
          let names = names_stay folder folder' current other file.name it.name held.0 differs same.0 made.1 in
          (same.0, same.1, holds_still folder folder' it.name it.history.«package» (present it.history) it.history.texts names.0 names.1 same.2)) stays.0,
      (λ name unlike aside.
          let put = unlike_put place state.used (with_opened place (Some next) state.used) file next there refl made.0 name unlike in
          made.1 name put.1.0 put.1.1 (λ e. aside (file.name, e)) (λ e. aside (journal_name file.name, e)) ∙ stays.1 name put.0 aside),
      put_were began place state.used file next there made.0 stays.2,
    )

stays_done : (journals : Bool) (began : Folder) (step : RunStep) (here : World) (folder : Folder) (before after : Progress) (lines : List Bytes)
    → DoesWhole journals here step before lines folder after → Stays journals began before.used here.folder → Stays journals began after.used folder
stays_done journals began step here folder before after lines (place, used, opening, answer, uses, answers, told) stays =
    stays_answered journals began step place (left_out journals (file_at place used)) here.folder folder (record before { used = used }) after answer refl answers
    (stays_used journals began here step.target.«package» before.used place opening used uses stays)

pub stays_run : (journals : Bool) (began : Folder) (keep_going : Bool) (steps : List RunStep) (here : World) (folder : Folder) (before after : Progress) (lines : List Bytes)
    → RunsSteps c.Whole journals here keep_going steps before lines folder after → Stays journals began before.used here.folder → Stays journals began after.used folder
stays_run journals began keep_going [] here folder before after lines (whole, told, still, is) stays =
    stays_at journals began before.used after.used here.folder folder (ap (λ (s : Progress). s.used) is) still stays
stays_run journals began keep_going (step ∷ steps) here folder before after lines (inl (over, whole, told, still, is)) stays =
    stays_at journals began before.used after.used here.folder folder (ap (λ (s : Progress). s.used) is) still stays
stays_run journals began keep_going (step ∷ steps) here folder before after lines (inr (goes, (one, later, between, mid, first, rest, does, runs, told, cut))) stays =
    let parts = first_whole one later journals here keep_going step steps before mid after first rest between folder cut does runs in
    stays_run journals began keep_going steps (record here { folder = between }) folder mid after rest parts.1
    (stays_done journals began step here between before mid first parts.0 stays)

-- ---- what a path means is opened as when the run began

-- Standard input is as it was, or the package is another one.
abbrev pub Seen : World → Option Bytes → Bytes → Type 0
Seen world known current = (known ≡ world.known) ⊎ (current ≢ input_package)

-- With journals: names of files that no open file has, nor its journal, hold what they held.
module _ (began folder : Folder) (used : List Used) (all : AllAre (IsHeld folder) used) (others : OthersAre began used folder) (path : Bytes) where
  begun : (key name : Bytes) → package_number key used ≡ None → IsNameOf key name
      → (get folder name ≡ get began name) × (get folder (journal_name name) ≡ get began (journal_name name))
  begun key name none named = as_begun (IsHeld folder) (λ other it held. held.0) began folder key name used named (apart_from key used none) all others

  found_begun : (s : Settled) → settled folder path ≡ s → package_number (key_of path s) used ≡ None → found_of folder s ≡ found_of began s
  found_begun (as_package current) is none = found_by folder current (get began (first_name current)) (get began (second_name current))
      (begun current (first_name current) none (inl refl)).0 (begun current (second_name current) none (inr (inl refl))).0
  found_begun (as_file name) is none = ap (λ (held : Option Bytes). found_at name held None) (begun name name none (own_named folder path name is)).0
  found_begun (as_unedited why) is none = refl

  module _ (file : Option Opened) (lines : List Bytes) where
    opens_begun : (s : Settled) (found : Option PackagesFound) → settled folder path ≡ s → package_number (key_of path s) used ≡ None → found_of folder s ≡ found
        → OpensAs true folder path s found file lines → OpensAs true began path s found file lines
    opens_begun (as_package current) None is none at opens = opens
    opens_begun (as_package current) (Some it) is none at opens = subst (λ (journal : Option Bytes). TakesBeside journal current it.0 it.1 file lines)
        (begun current it.0 none (found_holds folder current it.0 it.1 at).0).1 opens
    opens_begun (as_file name) None is none at opens = absurd opens
    opens_begun (as_file name) (Some it) is none at opens = subst (λ (journal : Option Bytes). TakesBeside journal (folder_of it.0) it.0 it.1 file lines)
        (begun name it.0 none (subst (IsNameOf name) (sym (own_holds folder name it.0 it.1 at).0) (own_named folder path name is))).1 opens
    opens_begun (as_unedited why) found is none at opens = opens

module _ (world here : World) (used : List Used) (path : Bytes) where
  -- what a path means, and its key, are as when the run began
  meant_seen : (journals : Bool) → Stays journals world.folder used here.folder → settled here.folder path ≡ settled world.folder path
  meant_seen false still = ap (λ (f : Folder). settled f path) still
  meant_seen true stays = settled_begun world.folder here.folder used (held_there here.folder used stays.0) stays.2 stays.1 path

  finds_seen : (journals : Bool) (found : Option PackagesFound) (file : Option Opened) (lines : List Bytes) → Stays journals world.folder used here.folder
      → Seen world here.known path → package_number (key_in used here.folder path) used ≡ None → Finds journals here path found
      → OpensAs journals here.folder path (settled here.folder path) found file lines
      → Finds journals world path found × OpensAs journals world.folder path (settled world.folder path) found file lines
  finds_seen false found file lines still (inl known) none (inl (plain, of_input, (text, input, is))) opens = (
    inl (plain, of_input, (text, subst (λ (it : Option Bytes). IsInput it text) known input, is)),
    subst (λ (f : Folder). OpensAs false f path (settled f path) found file lines) still opens,
  )
  finds_seen false found file lines still (inr other) none (inl (plain, of_input, input)) opens = absurd (other of_input)
  finds_seen false found file lines still known none (inr (which, is)) opens = (
    inr (which, is ∙ ap (λ (f : Folder). found_of f (settled f path)) still),
    subst (λ (f : Folder). OpensAs false f path (settled f path) found file lines) still opens,
  )
  finds_seen true found file lines stays known none (inl (plain, of_input, input)) opens = absurd (true≢false plain)
  finds_seen true found file lines stays known none (inr (which, is)) opens =
      let s : Settled = settled here.folder path in
      let meant = meant_seen true stays in
      let new = sym (ap (λ (k : Bytes). package_number k used) (key_new used here.folder path none)) ∙ none in (
        inr (which, is ∙ found_begun world.folder here.folder used stays.0 stays.1 path s refl new ∙ ap (found_of world.folder) meant),
        subst (λ (it : Settled). OpensAs true world.folder path it found file lines) meant
            (opens_begun world.folder here.folder used stays.0 stays.1 path file lines s found refl new (sym is) opens),
      )

  pub seen : (journals : Bool) (place : ℕ) (lines : List Bytes) (after : List Used) → Stays journals world.folder used here.folder → Seen world here.known path
      → UsesWhole journals here path used place lines after → UsesWhole journals world path used place lines after
  seen journals place lines after stays known uses = go uses
    where
      same : key_in used here.folder path ≡ key_in used world.folder path
      same = key_same used here.folder world.folder path (meant_seen journals stays)

      go : UsesWhole journals here path used place lines after → UsesWhole journals world path used place lines after
      go (inl (is, told, still)) = inl (sym (ap (λ (k : Bytes). package_number k used) same) ∙ is, told, still)
      go (inr (none, last, (found, file, finds, opens, new))) =
          let both = finds_seen journals found file lines stays known none finds opens in
          inr (
            sym (ap (λ (k : Bytes). package_number k used) same) ∙ none,
            last,
            (found, file, both.0, both.1, new ∙ ap (λ (k : Bytes). used ++ record { «package» = k; file = file } ∷ []) same),
          )

-- ---- one step is one

pub one_input : (known : Option Bytes) (bytes text other : Bytes) → known ≡ Some bytes → IsInput known text → IsInput known other → text ≡ other
one_input known bytes text other is input other_input =
    let here : text ≡ bytes = subst (λ (it : Option Bytes). IsInput it text) is input in
    let there : other ≡ bytes = subst (λ (it : Option Bytes). IsInput it other) is other_input in
    here ∙ sym there

one_found : (journals : Bool) (world : World) (bytes current : Bytes) (found found' : Option PackagesFound) → world.known ≡ Some bytes
    → Finds journals world current found → Finds journals world current found' → found ≡ found'
one_found journals world bytes current found found' known (inl (plain, is, (text, input, here))) (inl (plain', is', (text', input', here'))) =
    here ∙ ap (λ (it : Bytes). Some (stdin, it)) (one_input world.known bytes text text' known input input') ∙ sym here'
one_found journals world bytes current found found' known (inl (plain, is, input)) (inr (inl kept, here)) = absurd (true≢false (sym kept ∙ plain))
one_found journals world bytes current found found' known (inl (plain, is, input)) (inr (inr other, here)) = absurd (other is)
one_found journals world bytes current found found' known (inr (inl kept, here)) (inl (plain, is, input)) = absurd (true≢false (sym kept ∙ plain))
one_found journals world bytes current found found' known (inr (inr other, here)) (inl (plain, is, input)) = absurd (other is)
one_found journals world bytes current found found' known (inr (which, here)) (inr (which', here')) = here ∙ sym here'

module _ (words : List Bytes) (world : World) (journals : Bool) (path : Bytes) (file file' : Option Opened) (lines lines' : List Bytes) where
  -- the same file, and the same lines
  abbrev TakesSame : Type 0
  TakesSame = (file ≡ file') × SameLines words world lines lines'

  same_taken : (current name text : Bytes) → Finds journals world path (Some (name, text)) → Takes current name text file lines → Takes current name text file' lines' → TakesSame
  same_taken current name text found (inl (accepted, is, none)) (inl (accepted', is', none')) = (is ∙ sym is', same_lines words world lines lines' (none ∙ sym none'))
  same_taken current name text found (inl (accepted, is, none)) (inr (fault, refused, is', reported)) = absurd (refused.0 accepted)
  same_taken current name text found (inr (fault, refused, is', reported)) (inl (accepted, is, none)) = absurd (refused.0 accepted)
  same_taken current name text found (inr (fault, one, is, reported)) (inr (fault', two, is', reported')) = (
    is ∙ sym is',
    same_as words world lines lines' ((fault_line name fault ++ fault_excerpt text fault) ∷ []) ((fault_line name fault' ++ fault_excerpt text fault') ∷ []) reported reported' (
      inr (inl (record {
        journals = journals;
        current = path;
        name = name;
        text = text;
        first = fault;
        second = fault';
        found = found;
        one = one;
        two = two;
        reported = refl;
        reported_other = refl;
      })),
      tt,
    ),
  )

  same_beside : (current name text : Bytes) (journal : Option Bytes) → Finds journals world path (Some (name, text)) → TakesBeside journal current name text file lines
      → TakesBeside journal current name text file' lines' → TakesSame
  same_beside current name text None found takes takes' = same_taken current name text found takes takes'
  same_beside current name text (Some bytes) found (given, comes, is, reported) (given', comes', is', reported') =
      let one = one_given current bytes text given given' comes comes' in (
        is ∙ ap (file_of_journal name text) one ∙ sym is',
        same_lines words world lines lines' (reported ∙ ap (lines_of_journal name) one ∙ sym reported'),
      )

  same_opened : (s : Settled) (found : Option PackagesFound) → Finds journals world path found → OpensAs journals world.folder path s found file lines
      → OpensAs journals world.folder path s found file' lines' → TakesSame
  same_opened (as_package current) None found opens opens' = (opens.0 ∙ sym opens'.0, same_lines words world lines lines' (opens.1 ∙ sym opens'.1))
  same_opened (as_package current) (Some there) found opens opens' =
      same_beside current there.0 there.1 (journal_beside journals world.folder there.0) found opens opens'
  same_opened (as_file name) None found opens opens' = absurd opens
  same_opened (as_file name) (Some there) found opens opens' =
      same_beside (folder_of there.0) there.0 there.1 (journal_beside journals world.folder there.0) found opens opens'
  same_opened (as_unedited why) there found opens opens' = (opens.0 ∙ sym opens'.0, same_lines words world lines lines' (opens.1 ∙ sym opens'.1))

abbrev pub reads_input : RunStep → Bool
reads_input step = is_of_input step.target

-- standard input is as it was, or no step reads it
abbrev pub AreSeen : World → List RunStep → Option Bytes → Type 0
AreSeen world steps known = (known ≡ world.known) ⊎ (list_any reads_input steps ≡ false)

first_seen : (world : World) (step : RunStep) (steps : List RunStep) (known : Option Bytes) → AreSeen world (step ∷ steps) known
    → Seen world known step.target.«package» × AreSeen world steps known
first_seen world step steps known (inl same) = (inl same, inl same)
first_seen world step steps known (inr none) =
    let parts = or_parts (reads_input step) (list_any reads_input steps) none in (inr (not_input step.target.«package» parts.0), inr parts.1)

-- One thing helps below a refusal.
one_hint : OneReading → (answer : Answer) (action : Option Action) (name : Bytes) (h : History) (hint other : List Bytes) → AreHints answer action name h hint
    → AreHints answer action name h other → hint ≡ other
one_hint one (Ok reply) action name h hint other is is' = is ∙ sym is'
one_hint one (Err refusal) (Some (Do operation target)) name h hint other (inl long) (inl long') = long.1 ∙ sym long'.1
one_hint one (Err refusal) (Some (Do operation target)) name h hint other (inl long) (inr (short, helps)) = absurd (short long.0)
one_hint one (Err refusal) (Some (Do operation target)) name h hint other (inr (short, helps)) (inl long) = absurd (short long.0)
one_hint one (Err refusal) (Some (Do operation target)) name h hint other (inr (short, (n, reads, is))) (inr (short', (n', reads', is'))) =
    is ∙ ap (λ (m : Node). refusal_hint name refusal operation target.which (package_of target.«package» name) (lines_of m) (view_of m)) (one (present h) n n' reads reads') ∙ sym is'
one_hint one (Err refusal) _ name h hint other is is' = is ∙ sym is'

module _ (one : OneReading) (words : List Bytes) (world : World) (bytes : Bytes) (known : world.known ≡ Some bytes) (journals : Bool) where
  same_used : (path : Bytes) (before : List Used) (place place' : ℕ) (lines lines' : List Bytes) (after after' : List Used)
      → UsesWhole journals world path before place lines after → UsesWhole journals world path before place' lines' after'
      → (place ≡ place') × SameLines words world lines lines' × (after ≡ after')
  same_used path before place place' lines lines' after after' (inl (is, none, same)) (inl (is', none', same')) =
      (ap (λ (found : Option ℕ). unwrap_or found 0) (sym is ∙ is'), same_lines words world lines lines' (none ∙ sym none'), same ∙ sym same')
  same_used path before place place' lines lines' after after' (inl (is, none, same)) (inr (new, last, opens)) =
      absurd (let e = sym is ∙ new in cc)
  same_used path before place place' lines lines' after after' (inr (new, last, opens)) (inl (is, none, same)) =
      absurd (let e = sym is ∙ new in cc)
  same_used path before place place' lines lines' after after' (inr (new, is, (found, file, finds, opens, same))) (inr (new', is', (found', file', finds', opens', same'))) =
      let one_there : found ≡ found' = one_found journals world bytes path found found' known finds finds' in
      let s : Settled = settled world.folder path in
      let opened = same_opened words world journals path file file' lines lines' s found finds opens
      (subst (λ (it : Option PackagesFound). OpensAs journals world.folder path s it file' lines') (sym one_there) opens') in
      (is ∙ sym is', opened.1, same ∙ ap (λ (it : Option Opened). before ++ record { «package» = key_in before world.folder path; file = it } ∷ []) opened.0 ∙ sym same')

  one_answered : (step : RunStep) (place : ℕ) (file : Option Opened) (state : Progress) (folder folder' past past' : Folder) (lines lines' : List Bytes) (after after' : Progress)
      → AnswersIn journals step place file folder state lines past after → AnswersIn journals step place file folder' state lines' past' after'
      → (lines ≡ lines') × (after ≡ after')
  one_answered step place None state folder folder' past past' lines lines' after after' is is' = (is.0 ∙ sym is'.0, is.2 ∙ sym is'.2)
  one_answered step place (Some file) state folder folder' past past' lines lines' after after' (answer, history, leads, following, told, is) (answer', history', leads', following', told', is') =
      let action = action_of step.target step.request.verb in
      let same = one_answer one action step.request.text file.history answer answer' history history' leads leads' in
      let hints = subst (λ (it : History). AreHints answer action file.name it told'.0) (sym same.1)
      (subst (λ (it : Answer). AreHints it action file.name history' told'.0) (sym same.0) told'.1) in (
        told.2 ∙ ap (λ (it : Answer). reported_of journals file.name step.request.text it told.0) same.0
            ∙ ap (reported_of journals file.name step.request.text answer') (one_hint one answer action file.name history told.0 told'.0 told.1 hints) ∙ sym told'.2,
        is ∙ ap (λ (it : Answer). state_after journals place file it history state) same.0 ∙ ap (λ (it : History). state_after journals place file answer' it state) same.1 ∙ sym is',
      )

  same_done : (here there : World) (step : RunStep) (past past' : Folder) (before : Progress) (lines lines' : List Bytes) (after after' : Progress)
      → Seen world here.known step.target.«package» → Seen world there.known step.target.«package»
      → Stays journals world.folder before.used here.folder → Stays journals world.folder before.used there.folder
      → DoesWhole journals here step before lines past after → DoesWhole journals there step before lines' past' after' → SameLines words world lines lines' × (after ≡ after')
  same_done here there step past past' before lines lines' after after' reads reads' stays stays' (place, used, opening, answer, uses, answers, told) (place', used', opening', answer', uses', answers', told') =
      let path = step.target.«package» in
      let same = same_used path before.used place place' opening opening' used used' (seen world here before.used path journals place opening used stays reads uses)
      (seen world there before.used path journals place' opening' used' stays' reads' uses') in
      let at_place = subst (λ (p : ℕ). AnswersIn journals step p (left_out journals (file_at p used')) there.folder (record before { used = used' }) answer' past' after') (sym same.0) answers' in
      let second = subst (λ (u : List Used). AnswersIn journals step place (left_out journals (file_at place u)) there.folder (record before { used = u }) answer' past' after') (sym same.2) at_place in
      let answered = one_answered step place (left_out journals (file_at place used)) (record before { used = used }) here.folder there.folder past past' answer answer' after after' answers second in (
        same_parts words world lines lines' opening opening' answer answer' told told' same.1 (same_lines words world answer answer' answered.0),
        answered.1,
      )

  pub same_run : (keep_going : Bool) (steps : List RunStep) (here there : World) (past past' : Folder) (before : Progress) (lines lines' : List Bytes) (after after' : Progress)
      → AreSeen world steps here.known → AreSeen world steps there.known → Stays journals world.folder before.used here.folder → Stays journals world.folder before.used there.folder
      → RunsSteps c.Whole journals here keep_going steps before lines past after → RunsSteps c.Whole journals there keep_going steps before lines' past' after'
      → SameLines words world lines lines' × (after ≡ after')
  same_run keep_going [] here there past past' before lines lines' after after' reads reads' stays stays' runs runs' =
      (same_lines words world lines lines' (runs.1 ∙ sym runs'.1), runs.3 ∙ sym runs'.3)
  same_run keep_going (step ∷ steps) here there past past' before lines lines' after after' reads reads' stays stays' (inl over) (inl over') =
      (same_lines words world lines lines' (over.2 ∙ sym over'.2), over.4 ∙ sym over'.4)
  same_run keep_going (step ∷ steps) here there past past' before lines lines' after after' reads reads' stays stays' (inl over) (inr on) = absurd (true≢false (sym over.0 ∙ on.0))
  same_run keep_going (step ∷ steps) here there past past' before lines lines' after after' reads reads' stays stays' (inr on) (inl over) = absurd (true≢false (sym over.0 ∙ on.0))
  same_run keep_going (step ∷ steps) here there past past' before lines lines' after after' reads reads' stays stays'
      (inr (goes, (cut, later, between, mid, first, rest, does, runs, told, whole))) (inr (goes', (cut', later', between', mid', first', rest', does', runs', told', whole'))) =
      let parts = first_whole cut later journals here keep_going step steps before mid after first rest between past whole does runs in
      let parts' = first_whole cut' later' journals there keep_going step steps before mid' after' first' rest' between' past' whole' does' runs' in
      let read = first_seen world step steps here.known reads in
      let read' = first_seen world step steps there.known reads' in
      let done = same_done here there step between between' before first first' mid mid' read.0 read'.0 stays stays' parts.0 parts'.0 in
      let more = subst (λ (it : Progress). RunsSteps c.Whole journals (record there { folder = between' }) keep_going steps it rest' past' after') (sym done.1) parts'.1 in
      let stayed = stays_at journals world.folder mid'.used mid.used between' between' (ap (λ (it : Progress). it.used) done.1) refl
      (stays_done journals world.folder step there between' before mid' first' parts'.0 stays') in
      let same = same_run keep_going steps (record here { folder = between }) (record there { folder = between' }) past past' mid rest rest' after after' read.1 read'.1
      (stays_done journals world.folder step here between before mid first parts.0 stays) stayed parts.1 more in
      (same_parts words world lines lines' first first' rest rest' told told' done.0 same.0, same.1)

-- ---- folders

module _ (folder folder' : Folder) (name : Bytes) where
  -- an open file of this name is held in both
  both_hold : (used : List Used) → AllAre (IsHeld folder) used → AllAre (IsHeld folder') used → list_any (is_named name) used ≡ true → get folder' name ≡ get folder name
  both_hold [] all all' is = absurd (true≢false (sym is))
  both_hold (used ∷ more) all all' is = go used.file all.0 all'.0 (both_hold more all.2 all'.2) is
    where
      by_name : (file : Opened) (b : Bool) → bytes_eq name file.name ≡ b → IsHeld folder used.«package» file → IsHeld folder' used.«package» file
          → (list_any (is_named name) more ≡ true → get folder' name ≡ get folder name) → b || list_any (is_named name) more ≡ true → get folder' name ≡ get folder name
      by_name file true same held held' rest is =
          let named = (bytes_eq-Decides name file.name).0 same in ap (get folder') named ∙ held'.2.holds ∙ sym (ap (get folder) named ∙ held.2.holds)
      by_name file false same held held' rest is = rest is

      go : (found : Option Opened) → IfSome found (IsHeld folder used.«package») → IfSome found (IsHeld folder' used.«package»)
          → (list_any (is_named name) more ≡ true → get folder' name ≡ get folder name)
          → option_map_or (λ (file : Opened). bytes_eq name file.name) found false || list_any (is_named name) more ≡ true → get folder' name ≡ get folder name
      go None held held' rest is = rest is
      go (Some file) held held' rest is = by_name file (bytes_eq name file.name) refl held held' rest is

-- A name that is no journal's and isn't set aside is the same after two runs, and with it each one where journals aren't kept.
pub same_folder : (journals : Bool) (began : Folder) (used : List Used) (folder folder' : Folder) → Stays journals began used folder → Stays journals began used folder'
    → (name : Bytes) → (IsAside name → ⊥) → (journals ≡ true → (file : Bytes) → name ≢ journal_name file) → get folder' name ≡ get folder name
same_folder false began used folder folder' still still' name aside journal = ap (λ (f : Folder). get f name) (still' ∙ sym still)
same_folder true began used folder folder' stays stays' name aside journal = go (list_any (is_named name) used) refl
  where
    go : (b : Bool) → list_any (is_named name) used ≡ b → get folder' name ≡ get folder name
    go true is = both_hold folder folder' name used stays.0 stays'.0 is
    go false is =
        let unlike : IsUnlike used name = λ place file at. (not_named name used is place file at, journal refl file.name) in
        stays'.1 name unlike aside ∙ sym (stays.1 name unlike aside)
