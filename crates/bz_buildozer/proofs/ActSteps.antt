-- What an action leaves, and what a step does in the open file of its package, without journals and with them.
use Rattle.bz_buildozer.proofs.Words.{[], ◌&&◌, ◌++◌, ◌+◌, ◌-◌, ◌==◌, ◌||◌, ◌∙◌, ◌∷◌, ◌≡◌, ◌≢◌, ◌⊎◌, Action, action_of, Acts, after_meaning, Answer, Answers, AnswersIn, ap, append-nil, AreHints, arith, Bool, Bytes, bytes_eq, Changed, changed, Cut, Cut as c, Do, eq-eqb, Err, FailsAt, false, file_after, file_at, Folder, FolderAfter, Format, Full, gives, History, if◌then◌else◌, inl, inr, is_left_at, is_some, IsSome, Leads, LeadsBy, left_out, length, List, listing, Makes, Meaning, Means, Memory, Moved, nat_lt, Node, None, not, NoteTooLong, Ok, Opened, Operation, Option, or-false, or-true, PairFault, present, Printed, printed_in, Progress, Reads, Redo, refl, Refusal, refusal_line, refuses, RefusesBy, Reply, reply_notes, reported_of, ReportsLine, ReportsLines, RunStep, Some, state_after, StillIsSame, subst, suc, sym, Target, TooFar, true, true≢false, Undo, unkept_line, unwrap_or, Used, Verb, with_opened, zero, ℕ}
use Rattle.bz_journal.specs.History.{most_steps, moved, unchanged}
use Rattle.bz_streams.specs.declared.sink.Sink.{Ghosts as SinkOf}

-- ---- what an action leaves of a history

-- it prints nothing, and another text is the present one
abbrev pub IsMove : Reply → Type 0
IsMove Changed = Unit {0}
IsMove Moved = Unit {0}
IsMove _ = ⊥

-- The history is as it was; or it was answered well, another text is the present one, and its package is the same.
abbrev pub Leaves : History → Answer → History → Type 0
Leaves h answer after =
    (after ≡ h) ⊎ (((reply : Reply) × (answer ≡ Ok reply) × IsMove reply) × (after.cursor ≢ h.cursor) × (after.«package» ≡ h.«package»))

stays : (h after : History) (one answer : Answer) → ◌≡◌ {A = Answer × History} (one, after) (answer, h) → Leaves h one after
stays h after one answer e = inl (ap (λ (z : Answer × History). z.1) e)

goes : (h after to : History) (one : Answer) (reply : Reply) → IsMove reply → to.cursor ≢ h.cursor → to.«package» ≡ h.«package»
    → ◌≡◌ {A = Answer × History} (one, after) (Ok reply, to) → Leaves h one after
goes h after to one reply move other same e =
    let is : after ≡ to = ap (λ (z : Answer × History). z.1) e in
    inr ((reply, ap (λ (z : Answer × History). z.0) e, move), (λ back. other (sym (ap (λ (g : History). g.cursor) is) ∙ back)), ap (λ (g : History). g.«package») is ∙ same)

by_text : (same below : Bool) (note : Bytes) (h after : History) (text : Bytes) (printed : Option Bytes) (answer : Answer)
    → ◌≡◌ {A = Answer × History} (answer, after) (if same then (Ok (unchanged printed), h) else (if below then (Ok Changed, changed note h text) else (Err Full, h)))
    → Leaves h answer after
by_text true below note h after text printed answer e = stays h after answer (Ok (unchanged printed)) e
by_text false true note h after text printed answer e = goes h after (changed note h text) answer Changed tt (λ back. omega (arith, back)) refl e
by_text false false note h after text printed answer e = stays h after answer (Err Full) e

by_meaning : (note : Bytes) (h after : History) (m : Meaning) (answer : Answer) → ◌≡◌ {A = Answer × History} (answer, after) (after_meaning note h m) → Leaves h answer after
by_meaning note h after (gives text printed) answer e = by_text (bytes_eq text (present h)) (nat_lt h.cursor most_steps) note h after text printed answer e
by_meaning note h after (refuses refusal) answer e = stays h after answer (Err refusal) e

differ : (m n : ℕ) → (m == n) ≡ false → m ≡ n → ⊥
differ m n is same = true≢false (sym (eq-eqb m n same) ∙ is)

by_move : (same : Bool) (h after : History) (cursor : ℕ) (answer : Answer) → (cursor == h.cursor) ≡ same
    → ◌≡◌ {A = Answer × History} (answer, after) (Ok Moved, if same then h else record h { cursor = cursor; before = h.cursor }) → Leaves h answer after
by_move true h after cursor answer is e = stays h after answer (Ok Moved) e
by_move false h after cursor answer is e = goes h after (record h { cursor = cursor; before = h.cursor }) answer Moved tt
    (λ back. differ cursor h.cursor is back) refl e

by_undo : (far : Bool) (h after : History) (cursor : ℕ) (answer : Answer)
    → ◌≡◌ {A = Answer × History} (answer, after) (if far then (Err TooFar, h) else (Ok Moved, moved h cursor)) → Leaves h answer after
by_undo true h after cursor answer e = stays h after answer (Err TooFar) e
by_undo false h after cursor answer e = by_move (cursor == h.cursor) h after cursor answer refl e

by_redo : (there : Bool) (h after : History) (cursor : ℕ) (answer : Answer)
    → ◌≡◌ {A = Answer × History} (answer, after) (if there then (Ok Moved, moved h cursor) else (Err TooFar, h)) → Leaves h answer after
by_redo true h after cursor answer e = by_move (cursor == h.cursor) h after cursor answer refl e
by_redo false h after cursor answer e = stays h after answer (Err TooFar) e

made_leaves : (action : Action) (note : Bytes) (h after : History) (answer : Answer) → Makes action note h answer after → Leaves h answer after
made_leaves (Do command target) note h after answer (m, means, e) = by_meaning note h after m answer e
made_leaves Format note h after answer (m, formats, e) = by_meaning note h after m answer e
made_leaves (Undo n) note h after answer e = by_undo (nat_lt h.cursor n) h after (h.cursor - n) answer e
made_leaves (Redo n) note h after answer e = by_redo (nat_lt (h.cursor + n) (length h.texts)) h after (h.cursor + n) answer e

pub acts_leaves : (action : Action) (note : Bytes) (h after : History) (answer : Answer) → Acts action note h answer after → Leaves h answer after
acts_leaves action note h after answer (inl (long, e)) = stays h after answer (Err NoteTooLong) e
acts_leaves action note h after answer (inr (short, inl makes)) = made_leaves action note h after answer makes
acts_leaves action note h after answer (inr (short, inr (takes, memory, same))) = inl same

-- a refusal, and what is printed, leave the history
pub refused_still : (action : Action) (note : Bytes) (h after : History) (refusal : Refusal) → Acts action note h (Err refusal) after → after ≡ h
refused_still action note h after refusal acts = elim (acts_leaves action note h after (Err refusal) acts) [
  | inl same ↦ same
  | inr went ↦ absurd (let e = went.0.1 in cc)
]

pub printed_still : (action : Action) (note text : Bytes) (h after : History) → Acts action note h (Ok (Printed text)) after → after ≡ h
printed_still action note text h after acts = elim (acts_leaves action note h after (Ok (Printed text)) acts) [
  | inl same ↦ same
  | inr went ↦ absurd (subst IsMove (is_reply went.0.0 (Printed text) (sym went.0.1)) went.0.2)
]
  where
    is_reply : (one other : Reply) → ◌≡◌ {A = Answer} (Ok one) (Ok other) → one ≡ other
    is_reply one other same = cc

pub still_same : StillIsSame
still_same action note h after answer acts = go (acts_leaves action note h after answer acts)
  where
    go : Leaves h answer after → (after.«package» ≡ h.«package») × (after.cursor ≡ h.cursor → after ≡ h)
    go (inl same) = (ap (λ (g : History). g.«package») same, λ _. same)
    go (inr went) = (went.2, λ back. absurd (went.1 back))

-- ---- what an action leaves in the files of a run

-- the file that takes the place of one that is there
put_there : (place : ℕ) (used : List Used) (file new : Opened) → file_at place used ≡ Some file → file_at place (with_opened place (Some new) used) ≡ Some new
put_there place [] file new there = let e = there in absurd (cc)
put_there zero (one ∷ more) file new there = refl
put_there (suc place) (one ∷ more) file new there = put_there place more file new there

pub file_put : (place : ℕ) (used after : List Used) (file new : Opened) → file_at place used ≡ Some file → after ≡ with_opened place (Some new) used
    → file_at place after ≡ Some new
file_put place used after file new there put = ap (file_at place) put ∙ put_there place used file new there

-- it is open still
pub still_open : (place : ℕ) (used after : List Used) (file new : Opened) → file_at place used ≡ Some file → after ≡ with_opened place (Some new) used
    → IsSome (file_at place after)
still_open place used after file new there put = ap is_some (file_put place used after file new there put)

-- a refusal for another cause than memory is what an action leads to
pub led_to : (h after : History) (action : Action) (note : Bytes) (refusal : Refusal) → Acts action note h (Err refusal) after → (refusal ≡ Memory → ⊥)
    → Leads action note h (Err refusal) after
led_to h after action note refusal (inl long) other = inl long
led_to h after action note refusal (inr (short, inl makes)) other = inr (short, makes)
led_to h after action note refusal (inr (short, inr refused_memory)) other = let e = refused_memory.1 in absurd (other (cc))

-- A command that is refused where its note isn't too long was refused on the tree of the text, which stays.
tree_of : (operation : Operation) (target : Target) (note : Bytes) (h after : History) (refusal : Refusal) (m : Meaning) → Means operation target h.«package» (present h) m
    → ◌≡◌ {A = Answer × History} (Err refusal, after) (after_meaning note h m) → (n : Node) × Reads (present after) n
tree_of operation target note h after refusal (refuses cause) means is =
    (means.0, subst (λ (it : History). Reads (present it) means.0) (sym (ap (λ (both : Answer × History). both.1) is)) means.1)
tree_of operation target note h after refusal (gives text printed) means is = of (bytes_eq text (present h)) (nat_lt h.cursor most_steps) is
  where
    of : (same room : Bool) → ◌≡◌ {A = Answer × History} (Err refusal, after) (if same then (Ok (unchanged printed), h) else (if room then (Ok Changed, changed note h text) else (Err Full, h)))
        → (n : Node) × Reads (present after) n
    of true room is = absurd (let e = ap (λ (both : Answer × History). both.0) is in cc)
    of false true is = absurd (let e = ap (λ (both : Answer × History). both.0) is in cc)
    of false false is = (means.0, subst (λ (it : History). Reads (present it) means.0) (sym (ap (λ (both : Answer × History). both.1) is)) means.1)

pub refused_tree : (operation : Operation) (target : Target) (note : Bytes) (h after : History) (refusal : Refusal) → refusal ≢ NoteTooLong
    → Leads (Do operation target) note h (Err refusal) after → (n : Node) × Reads (present after) n
refused_tree operation target note h after refusal other (inl long) = absurd (let e = ap (λ (both : Answer × History). both.0) long.1 in other (cc))
refused_tree operation target note h after refusal other (inr (short, (m, means, is))) = tree_of operation target note h after refusal m means is

-- a reply is what an action leads to
pub led_on : (h after : History) (action : Action) (note : Bytes) (reply : Reply) → Acts action note h (Ok reply) after → Leads action note h (Ok reply) after
led_on h after action note reply (inl long) = inl long
led_on h after action note reply (inr (short, inl makes)) = inr (short, makes)
led_on h after action note reply (inr (short, inr refused_memory)) = let e = refused_memory.1 in absurd (cc)

-- a file that takes its own place
pub put_again : (place : ℕ) (used : List Used) (file : Opened) → file_at place used ≡ Some file → with_opened place (Some file) used ≡ used
put_again place [] file there = refl
put_again zero (one ∷ more) file there = ap (λ (f : Option Opened). record one { file = f } ∷ more) (sym there)
put_again (suc place) (one ∷ more) file there = ap (λ (rest : List Used). one ∷ rest) (put_again place more file there)

-- what is reported by the name of a file that is there
reported_of_file : {E : Type 0} (sink : SinkOf E) (old new : E) (line : Bytes → Bytes) (one other : Opened) (name : Bytes) → name ≡ one.name
    → ◌≡◌ {A = Option Opened} (Some one) (Some other) → ReportsLine sink old new (line name) → ReportsLine sink old new (line other.name)
reported_of_file sink old new line one other name is same =
    subst (λ (text : Bytes). ReportsLine sink old new (line text)) (is ∙ ap (λ (found : Option Opened). (unwrap_or found one).name) same)

-- a refusal, and that a file could not be written with its journal
pub reported_by : {E : Type 0} (sink : SinkOf E) (old new : E) (journals : Bool) (one other : Opened) (name command : Bytes) (refusal : Refusal) → name ≡ one.name
    → ◌≡◌ {A = Option Opened} (Some one) (Some other) → ReportsLine sink old new (refusal_line journals name command refusal)
    → ReportsLines sink old new (reported_of journals other.name command (Err refusal) [])
reported_by sink old new journals one other name command refusal is same told = (
  sink.faults new,
  sink.contents new,
  reported_of_file sink old new (λ (text : Bytes). refusal_line journals text command refusal) one other name is same told,
  (refl, refl),
)

pub unkept_by : {E : Type 0} (sink : SinkOf E) (old new : E) (one other : Opened) (name : Bytes) (fault why : PairFault) → name ≡ one.name
    → ◌≡◌ {A = Option Opened} (Some one) (Some other) → fault ≡ why → ReportsLine sink old new (unkept_line name why)
    → ReportsLine sink old new (unkept_line other.name fault)
unkept_by sink old new one other name fault why is same faulted told =
    reported_of_file sink old new (λ (text : Bytes). unkept_line text fault) one other name is same
    (subst (λ (it : PairFault). ReportsLine sink old new (unkept_line name it)) (sym faulted) told)

-- ---- a file after an action that was kept, or not

-- the file with what was marked
pub marked_written : (after : History) (file : Opened) (from to : ℕ) → from ≡ file.history.cursor → to ≡ after.cursor
    → record file { history = after; written = file.written || not (to == from) } ≡ record file { history = after; written = file.written || not (after.cursor == file.history.cursor) }
marked_written after file from to begun ended = ap (λ (b : Bool). record file { history = after; written = b })
    (ap (λ (n : ℕ). file.written || not (to == n)) begun ∙ ap (λ (n : ℕ). file.written || not (n == file.history.cursor)) ended)

-- ---- what a step does in the open file of its package, without journals and with them

-- a command on a target, by its parts
abbrev pub step_at : Target → Verb → Bytes → RunStep
step_at target verb text = record { target = target; request = record { verb = verb; text = text } }

-- ---- files that are left alone

pub free_here : (place : ℕ) (journals : Bool) (used : List Used) → journals ≡ true → journals && is_left_at place used ≡ false → is_left_at place used ≡ false
free_here place journals used kept free = sym (ap (λ (b : Bool). b && is_left_at place used) kept) ∙ free

pub free_file : (journals : Bool) (place : ℕ) (used : List Used) (file : Opened) → file_at place used ≡ Some file → journals && is_left_at place used ≡ false
    → left_out journals (file_at place used) ≡ Some file
free_file journals place used file there free = ap (λ (left : Bool). if left then None else file_at place used) free ∙ there

pub left_answers : (journals : Bool) (step : RunStep) (place : ℕ) (folder : Folder) (state : Progress) → journals && is_left_at place state.used ≡ true
    → Answers c.Whole journals step (Some place) folder state [] folder (record state { failed = true })
left_answers journals step place folder state left =
    subst (λ (found : Option Opened). AnswersIn journals step place found folder state [] folder (record state { failed = true }))
    (sym (ap (λ (it : Bool). if it then None else file_at place state.used) left)) (refl, refl, refl)

-- ---- memory is refused

pub memory_answers : (result : Cut) (journals : Bool) (step : RunStep) (place : ℕ) (folder folder' : Folder) (before after : Progress) (lines : List Bytes) → result ≡ c.Memory
    → FailsAt journals step place folder before lines folder' after → Answers result journals step (Some place) folder before lines folder' after
memory_answers result journals step place folder folder' before after lines is fails =
    subst (λ (it : Cut). Answers it journals step (Some place) folder before lines folder' after) (sym is) (inl fails)

pub refused_by : (target : Target) (verb : Verb) (note : Bytes) (action : Action) (h : History) (refusal : Refusal) → action_of target verb ≡ Some action
    → Acts action note h (Err refusal) h ⊎ ((refusal ≡ Memory) × ((text : Bytes) × Acts action note h (Ok (Printed text)) h)) → RefusesBy (action_of target verb) note h refusal
refused_by target verb note action h refusal requested = subst (λ (it : Option Action). RefusesBy it note h refusal) (sym requested)

-- ---- an answer

pub leads_by : (target : Target) (verb : Verb) (note : Bytes) (action : Action) (h after : History) (answer : Answer) → action_of target verb ≡ Some action
    → Leads action note h answer after → LeadsBy (action_of target verb) note h answer after
leads_by target verb note action h after answer requested leads = subst (λ (it : Option Action). LeadsBy it note h answer after) (sym requested) leads

pub hints_by : (target : Target) (verb : Verb) (action : Action) (name : Bytes) (h : History) (answer : Answer) (hint : List Bytes) → action_of target verb ≡ Some action
    → AreHints answer (Some action) name h hint → AreHints answer (action_of target verb) name h hint
hints_by target verb action name h answer hint requested = subst (λ (it : Option Action). AreHints answer it name h hint) (sym requested)

module _ (journals : Bool) (step : RunStep) (place : ℕ) (file : Opened) (history : History) (folder folder' : Folder) (before after : Progress) (used : List Used)
    (there : left_out journals (file_at place before.used) ≡ Some file) where
  -- what the step leads to
  abbrev pub LeadsTo : Answer → Type 0
  LeadsTo answer = LeadsBy (action_of step.target step.request.verb) step.request.text file.history answer history

  answers_so : (answer : Answer) (hint : List Bytes) → LeadsTo answer → AreHints answer (action_of step.target step.request.verb) file.name history hint
      → FolderAfter journals answer file history folder folder' → after ≡ state_after journals place file answer history before
      → Answers c.Whole journals step (Some place) folder before (reported_of journals file.name step.request.text answer hint) folder' after
  answers_so answer hint leads hints following is =
      subst (λ (found : Option Opened). AnswersIn journals step place found folder before (reported_of journals file.name step.request.text answer hint) folder' after) (sym there)
      (answer, history, leads, following, (hint, hints, refl), is)

  -- A reply is given, and what it prints is kept.
  pub replied : (reply : Reply) (printed : Bytes) (notes : List Bytes) → AreHints (Ok reply) (action_of step.target step.request.verb) file.name history notes
      → LeadsTo (Ok reply) → FolderAfter journals (Ok reply) file history folder folder'
      → used ≡ with_opened place (Some (file_after journals (Ok reply) history file)) before.used → printed ≡ before.printed ++ printed_in reply
      → after ≡ record before { used = used; printed = printed } → Answers c.Whole journals step (Some place) folder before notes folder' after
  replied reply printed notes noted leads following put said is =
      let put_in = with_opened place (Some (file_after journals (Ok reply) history file)) before.used in
      answers_so (Ok reply) notes leads noted following (
      is
      ∙ ap (λ (u : List Used). record before { used = u; printed = printed }) put
      ∙ ap (λ (text : Bytes). record before { used = put_in; printed = text }) said
      ∙ ap (λ (b : Bool). record { used = put_in; printed = before.printed ++ printed_in reply; failed = b }) (sym (or-false before.failed))
      )

  -- It is refused.
  pub refused : (refusal : Refusal) (hint : List Bytes) → LeadsTo (Err refusal) → AreHints (Err refusal) (action_of step.target step.request.verb) file.name history hint
      → folder' ≡ folder → used ≡ with_opened place (Some (record file { history = history })) before.used → after ≡ record before { used = used; failed = true }
      → Answers c.Whole journals step (Some place) folder before (reported_of journals file.name step.request.text (Err refusal) hint) folder' after
  refused refusal hint leads hints still put is =
      let put_in = with_opened place (Some (record file { history = history })) before.used in
      answers_so (Err refusal) hint leads hints still (
      is
      ∙ ap (λ (u : List Used). record before { used = u; failed = true }) put
      ∙ ap (λ (text : Bytes). record { used = put_in; printed = text; failed = true }) (sym (append-nil before.printed))
      ∙ ap (λ (b : Bool). record { used = put_in; printed = before.printed ++ []; failed = b }) (sym (or-true before.failed))
      )

-- ---- the texts of a file are listed

folder_still : (journals : Bool) (reply : Reply) (file : Opened) (folder : Folder) → FolderAfter journals (Ok reply) file file.history folder folder
folder_still false reply file folder = refl
folder_still true reply file folder = inl (refl, refl)

pub file_still : (journals : Bool) (reply : Reply) (file : Opened) → file_after journals (Ok reply) file.history file ≡ file
file_still false reply file = refl
file_still true reply file =
    let same : file.history.cursor == file.history.cursor ≡ true = eq-eqb file.history.cursor file.history.cursor refl in
    ap (λ (b : Bool). record file { written = file.written || not b }) same ∙ ap (λ (b : Bool). record file { written = b }) (or-false file.written)

pub listed : (journals : Bool) (step : RunStep) (place : ℕ) (file : Opened) (folder : Folder) (before after : Progress) (printed text : Bytes)
    → file_at place before.used ≡ Some file → journals && is_left_at place before.used ≡ false → action_of step.target step.request.verb ≡ None
    → text ≡ listing file.history → printed ≡ before.printed ++ text → after ≡ record before { printed = printed }
    → Answers c.Whole journals step (Some place) folder before [] folder after
listed journals step place file folder before after printed text there free none is said =
    let reply : Reply = Printed (listing file.history) in
    replied journals step place file file.history folder folder before after before.used (free_file journals place before.used file there free) reply printed []
    (sym (ap (λ (it : Option Action). reply_notes it reply file.name) none)) (subst (λ (it : Option Action). LeadsBy it step.request.text file.history (Ok reply) file.history) (sym none) (refl, refl)) (folder_still journals reply file folder)
    (sym (ap (λ (f : Opened). with_opened place (Some f) before.used) (file_still journals reply file) ∙ put_again place before.used file there))
    (said ∙ ap (λ (t : Bytes). before.printed ++ t) is)

-- memory is refused to that
pub unlisted : (result : Cut) (journals : Bool) (step : RunStep) (place : ℕ) (file : Opened) (folder : Folder) (before after : Progress) (printed note : Bytes)
    → file_at place before.used ≡ Some file → journals && is_left_at place before.used ≡ false → action_of step.target step.request.verb ≡ None → step.request.text ≡ note
    → result ≡ c.Memory → printed ≡ before.printed → after ≡ record before { printed = printed; failed = true }
    → Answers result journals step (Some place) folder before (refusal_line journals file.name note Memory ∷ []) folder after
unlisted result journals step place file folder before after printed note there free none named memory same is =
    memory_answers result journals step place folder folder before after (refusal_line journals file.name note Memory ∷ []) memory (record {
      file = file;
      refusal = Memory;
      there = free_file journals place before.used file there free;
      refused = subst (λ (it : Option Action). RefusesBy it step.request.text file.history Memory) (sym none) refl;
      reported = ap (λ (text : Bytes). refusal_line journals file.name text Memory ∷ []) (sym named);
      still = refl;
      state_is = is ∙ ap (λ (text : Bytes). record before { printed = text; failed = true }) same;
    })
