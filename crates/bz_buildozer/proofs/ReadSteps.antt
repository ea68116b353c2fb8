-- What comes of the texts and the journals that are read.
use Rattle.bz_buildozer.proofs.Words.{[], ◌++◌, ◌+◌, ◌-◌, ◌<◌, ◌^◌, ◌↔◌, ◌∙◌, ◌∷◌, ◌≡◌, ◌≢◌, ◌≤◌, ◌⊎◌, Accepted, All, All-get_or, ap, append-nil, ap₂, arith, BeginsNoJournal, Bool, Bytes, bytes_eq, bytes_eq-Decides, cases_lt, codes, drop, Edit, Ended, Err, false, fault_excerpt, fault_line, file_of_journal, first_name, Folder, Form, found_at, found_in, found_second, FrontsAreReportedAlike, get, Global, HeldFilesGoOn, History, IfSome, if◌then◌else◌, inl, inr, is_of_leaves, IsEnoughOf, IsInput, IsOtherVersion, IsRecordedBy, IsRefusedFor, IsScript, IsScriptFront, IsStale, IsText, IsTextFault, Journal, journal_beside, journal_name, JournalFault, JournalGives, JournalGivesOne, length, length-take, limit, List, named_line, NoJournal, None, of_package, of_resuming, Ok, Opened, opened as begun_with, opened_fresh, opened_with, OpensBeside, OpensPast, OpensText, Option, Options, package_hint, PackagesFound, past_history, present, ReadFault, ReadFault as rf, refl, Requested, Result, ResumeFault, ResumeFault as f, script_of, second_name, session_history, SessionState, slice_index_or, Some, stands, StandsAt, subst, suc, sym, take, take-append-drop, take_all, Takes, TakesBeside, text_at, TextOutcome, true, unwrap_or, Vec, World, zero, ℕ}
use Rattle.bz_command_syntax.specs.declared.profile.Profile.{Profile}
use Rattle.bz_grammar.specs.Faults.{IsOfText}
use Rattle.bz_edit.specs.Trails.{trail_at}
use Rattle.bz_edit.proofs.Keeps.{trail_kept}
use Rattle.bz_resume.proofs.Outcomes.{not_other, one_journal}
use Rattle.bz_journal.specs.Lasting.{IsResumedSession}

-- ---- the fault that is reported where a text is not opened

memory_or : (fault : ReadFault) → (fault ≡ rf.Memory) ⊎ (IsOfText fault × (fault ≡ rf.Memory → ⊥))
memory_or rf.Memory = inl refl
memory_or _ = inr (tt, λ e. absurd (cc))

refused_text : (current text : List ℕ) (fault : ReadFault) → OpensText current text (Err fault) → (fault ≡ rf.Memory) ⊎ (IsOfText fault × (fault ≡ rf.Memory → ⊥))
    → (fault ≡ rf.Memory) ⊎ IsRefusedFor text fault
refused_text current text fault opens (inl memory) = inl memory
refused_text current text fault opens (inr of_text) = inr (
  opens.refused of_text.0,
  record {
    too_large = (λ is. opens.too_large.0 (ap Err is), λ long. let e = opens.too_large.1 long in cc);
    not_utf8 = λ at. ((λ is. (opens.not_utf8 at).0 (ap Err is)), λ short. let e = (opens.not_utf8 at).1 short in cc);
    other = of_text.1;
  },
  opens.placed,
)

pub refused : (current slice text : List ℕ) (fault : ReadFault) → slice ≡ text → OpensText current slice (Err fault) → (fault ≡ rf.Memory) ⊎ IsRefusedFor text fault
refused current slice text fault same opens =
    refused_text current text fault (subst (λ (t : List ℕ). OpensText current t (Err fault)) same opens) (memory_or fault)

pub refused_takes : (current name slice text : List ℕ) (fault : ReadFault) → slice ≡ text → (fault ≡ rf.Memory) ⊎ IsRefusedFor text fault
    → (fault ≡ rf.Memory → ⊥) → Takes current name text None ((fault_line name fault ++ fault_excerpt slice fault) ∷ [])
refused_takes current name slice text fault same (inl is) other = absurd (other is)
refused_takes current name slice text fault same (inr refused) other =
    inr (fault, refused, refl, ap (λ (t : List ℕ). (fault_line name fault ++ fault_excerpt t fault) ∷ []) same)

-- ---- the first bytes of a text, one more than a text may have, decide what becomes of it

-- all that it holds, or where that is too long to be a text, a part that is too
abbrev pub IsReadOf : Bytes → Bytes → Type 0
IsReadOf whole bytes = (bytes ≡ whole) ⊎ ((limit < length bytes) × (limit < length whole))

front_read : (whole bytes : Bytes) → bytes ≡ take (limit + 1) whole → IsReadOf whole bytes
front_read whole bytes is = go (cases_lt limit (length whole))
  where
    go : (limit < length whole) ⊎ (length whole ≤ limit) → IsReadOf whole bytes
    go (inl long) =
        let len = length-take (limit + 1) whole in
        inr (subst (λ (it : Bytes). limit < length it) (sym is) (omega (arith, len, long)), long)
    go (inr short) = inl (is ∙ take_all (limit + 1) whole (omega (arith, short)))

fits_limit : (text : Bytes) → Accepted text → length text ≤ limit
fits_limit text accepted = accepted.1.2

-- one fault of two texts that are both too large, which is none of leaves
same_fault : (one other : Bytes) (fault : ReadFault) → limit < length one → limit < length other → IsRefusedFor one fault → IsRefusedFor other fault
same_fault one other fault long past (refused, of_one, placed) =
    let large : fault ≡ rf.TooLarge = of_one.too_large.1 long in (
      (λ accepted. let le = fits_limit other accepted in omega arith),
      record {
        too_large = (λ _. past, λ _. large);
        not_utf8 = λ at. (λ is. absurd (cc), λ short. let fits = short.0 in absurd (omega arith));
        other = of_one.other;
      },
      λ (of_leaves : is_of_leaves fault ≡ true). absurd (let e = sym (ap is_of_leaves large) ∙ of_leaves in cc),
    )

-- which is reported in the same line
same_line : (name one other : Bytes) (fault : ReadFault) → fault ≡ rf.TooLarge
    → ◌≡◌ {A = List Bytes} ((fault_line name fault ++ fault_excerpt one fault) ∷ []) ((fault_line name fault ++ fault_excerpt other fault) ∷ [])
same_line name one other fault is =
    ap (λ (large : ReadFault). (fault_line name large ++ fault_excerpt one large) ∷ []) is
    ∙ sym (ap (λ (large : ReadFault). (fault_line name large ++ fault_excerpt other large) ∷ []) is)

long_takes : (current name one other : Bytes) (file : Option Opened) (lines : List Bytes) → limit < length one → limit < length other
    → Takes current name one file lines → Takes current name other file lines
long_takes current name one other file lines long past (inl opened) =
    let le = fits_limit one opened.0 in absurd (omega arith)
long_takes current name one other file lines long past (inr (fault, refused, is, reported)) =
    inr (fault, same_fault one other fault long past refused, is, reported ∙ same_line name one other fault (refused.1.too_large.1 long))

pub fronts_alike : FrontsAreReportedAlike
fronts_alike current name text file lines = go (front_read text (take (limit + 1) text) refl)
  where
    go : IsReadOf text (take (limit + 1) text) → (Takes current name (take (limit + 1) text) file lines ↔ Takes current name text file lines)
    go (inl same) = (subst (λ (it : Bytes). Takes current name it file lines) same, subst (λ (it : Bytes). Takes current name it file lines) (sym same))
    go (inr (past, long)) = (
      long_takes current name (take (limit + 1) text) text file lines past long,
      long_takes current name text (take (limit + 1) text) file lines long past,
    )

-- what becomes of the first bytes becomes of the text
pub front_takes : (current name front text : Bytes) (file : Option Opened) (lines : List Bytes) → front ≡ take (limit + 1) text
    → Takes current name front file lines → Takes current name text file lines
front_takes current name front text file lines is takes =
    (fronts_alike current name text file lines).0 (subst (λ (it : Bytes). Takes current name it file lines) is takes)

-- ---- what is read of a file of lines decides what comes of all that it holds

input_read : (known : Option Bytes) (bytes : Bytes) → IfSome known (λ all. bytes ≡ take (limit + 1) all) → (whole : Bytes) × IsInput known whole × IsReadOf whole bytes
input_read None bytes is = (bytes, tt, inl refl)
input_read (Some all) bytes is = (all, refl, front_read all bytes is)

pub script_read : (world : World) (name bytes : Bytes) → IsScriptFront world name bytes → (whole : Bytes) × IsScript world name (Some whole) × IsReadOf whole bytes
script_read world name bytes (inl (same, front)) =
    let read = input_read world.known bytes front in (read.0, inl (same, (read.0, read.1, refl)), read.2)
script_read world name bytes (inr (other, (text, there, front))) = (text, inr (other, sym there), front_read text bytes front)

-- ---- what comes of it

pub whole_read : (whole bytes : Bytes) → IsReadOf whole bytes → IsText bytes → bytes ≡ whole
whole_read whole bytes (inl same) (short, utf8) = same
whole_read whole bytes (inr long) (short, utf8) = let past = long.0 in absurd (omega arith)

whole_fault : (whole bytes : Bytes) (fault : ReadFault) → IsReadOf whole bytes → IsTextFault bytes fault → IsTextFault whole fault
whole_fault whole bytes fault (inl same) is = subst (λ (it : Bytes). IsTextFault it fault) same is
whole_fault whole bytes fault (inr long) (inl (past, is)) = inl (long.1, is)
whole_fault whole bytes fault (inr long) (inr (short, valid)) = let past = long.0 in absurd (omega arith)

pub whole_outcome : (options : Options) (name whole bytes : Bytes) (world : World) (ended : Ended) → IsReadOf whole bytes → TextOutcome options name bytes world ended
    → TextOutcome options name whole world ended
whole_outcome options name whole bytes world ended read (inl (fault, is, reported)) = inl (fault, whole_fault whole bytes fault read is, reported)
whole_outcome options name whole bytes world ended read (inr (inl (is, refused))) =
    subst (λ (it : Bytes). TextOutcome options name it world ended) (whole_read whole bytes read is) (inr (inl (is, refused)))
whole_outcome options name whole bytes world ended read (inr (inr (is, done))) =
    subst (λ (it : Bytes). TextOutcome options name it world ended) (whole_read whole bytes read is) (inr (inr (is, done)))

pub whole_requests : (profile : Profile) (whole bytes bytes' : Bytes) (lines : List Requested) → bytes' ≡ bytes → IsReadOf whole bytes → IsText bytes'
    → script_of profile bytes' ≡ Ok lines → IsText whole × (script_of profile whole ≡ Ok lines)
whole_requests profile whole bytes bytes' lines same read is requests =
    let all : bytes' ≡ whole = same ∙ whole_read whole bytes read (subst IsText same is) in
    (subst IsText all is, subst (λ (it : Bytes). script_of profile it ≡ Ok lines) all requests)

-- ---- what comes of a journal, by what its session says

pub resumed_gives : (current bytes text : Bytes) (s : SessionState) → IsResumedSession bytes text s → s.«package» ≡ current
    → JournalGives current bytes text (Ok (session_history s))
resumed_gives current bytes text s (h, es, journal, on) named =
    (h, on.at, ((es, journal), on.stands_there), sym (ap (λ (g : History). g.«package») on.history) ∙ named, on.history)

pub other_gives : (current bytes text : Bytes) (s : SessionState) → IsResumedSession bytes text s → s.«package» ≢ current
    → JournalGives current bytes text (Err (of_package s.«package»))
other_gives current bytes text s (h, es, journal, on) other =
    (h, on.at, ((es, journal), on.stands_there), sym (ap (λ (g : History). g.«package») on.history), other)

pub fault_gives : (A : Type 0) (current bytes text : Bytes) (fault : ResumeFault) → fault ≢ f.Memory
    → (◌≡◌ {A = Result A ResumeFault} (Err fault) (Err f.Version) ↔ IsOtherVersion bytes)
    → (◌≡◌ {A = Result A ResumeFault} (Err fault) (Err f.Damaged) → NoJournal bytes)
    → (◌≡◌ {A = Result A ResumeFault} (Err fault) (Err f.Stale) → IsStale bytes text)
    → JournalGives current bytes text (Err (of_resuming fault))
fault_gives A current bytes text f.Memory other version damaged stale = absurd (other refl)
fault_gives A current bytes text f.Version other version damaged stale = version.0 refl
fault_gives A current bytes text f.Stale other version damaged stale = stale refl
fault_gives A current bytes text f.Damaged other version damaged stale = ((λ is. let e = version.1 is in absurd (cc)), damaged refl)

-- an open file by the same name, text and session
pub same_opened : (name called text read : Bytes) (h g : History) → name ≡ called → text ≡ read → h ≡ g → opened_with name text h ≡ opened_with called read g
same_opened name called text read h g names texts histories =
    ap (λ (n : Bytes). opened_with n text h) names ∙ ap (λ (b : Bytes). opened_with called b h) texts ∙ ap (λ (x : History). opened_with called read x) histories

-- a text that is accepted
pub past_takes : (current name called slice text read : Bytes) (form : Form) → called ≡ name → slice ≡ text → read ≡ text → OpensPast current slice (Ok form)
    → Takes current name text (Some (opened_with called read (past_history form))) []
past_takes current name called slice text read form names same reads (session, is, opens) = inl (
  subst Accepted same opens.accepted,
  ap (λ (f : Opened). Some f) (same_opened called name read text (past_history form) (begun_with current text) names reads
      (ap past_history is ∙ opens.ok ∙ ap (begun_with current) same)),
  refl,
)

-- ---- one thing comes of a journal

same_place : (h : History) (text : Bytes) (at other : ℕ) → stands h text ≡ Some at → stands h text ≡ Some other → at ≡ other
same_place h text at other one two = let e = sym one ∙ two in cc

not_both : (h : History) (text : Bytes) (at : ℕ) → stands h text ≡ Some at → stands h text ≡ None → ⊥
not_both h text at one two = let e = sym one ∙ two in absurd (cc)

one_history : (bytes : Bytes) (h g : History) (es gs : List (List Edit)) → Journal bytes h es → Journal bytes g gs → g ≡ h
one_history bytes h g es gs one two = let same = one_journal bytes h es g gs one two in same.history

-- the history that goes on
abbrev going_on : History → ℕ → History
going_on h at = record h { cursor = at; before = at }

one_standing : (bytes text : Bytes) (h g : History) (at other : ℕ) → StandsAt bytes text h at → StandsAt bytes text g other → going_on g other ≡ going_on h at
one_standing bytes text h g at other one two =
    let same : g ≡ h = one_history bytes h g one.0.0 two.0.0 one.0.1 two.0.1 in
    let place : at ≡ other = same_place h text at other one.1 (subst (λ (x : History). stands x text ≡ Some other) same two.1) in
    ap (λ (x : History). going_on x other) same ∙ ap (going_on h) (sym place)

-- no fault of resuming comes of the journal of a history that matches the text
not_refused : (current bytes text : Bytes) (h : History) (at : ℕ) (fault : ResumeFault) → StandsAt bytes text h at
    → JournalGives current bytes text (Err (of_resuming fault)) → ⊥
not_refused current bytes text h at f.Version one other = not_other bytes h one.0.0 other one.0.1
not_refused current bytes text h at f.Stale one (g, es, two, none) =
    not_both h text at one.1 (subst (λ (x : History). stands x text ≡ None) (one_history bytes h g one.0.0 es one.0.1 two) none)
not_refused current bytes text h at f.Damaged one none = none.1 h one.0.0 one.0.1
not_refused current bytes text h at f.Memory one gives = gives

ok_one : (current bytes text : Bytes) (a : History) (other : Result History JournalFault) → JournalGives current bytes text (Ok a)
    → JournalGives current bytes text other → other ≡ Ok a
ok_one current bytes text a (Ok b) (h, at, one, named, is) (g, place, two, called, was) = ap Ok (was ∙ one_standing bytes text h g at place one two ∙ sym is)
ok_one current bytes text a (Err (of_package p)) (h, at, one, named, is) (g, place, two, of, other) =
    absurd (other (sym of ∙ ap (λ (x : History). x.«package») (one_history bytes h g one.0.0 two.0.0 one.0.1 two.0.1) ∙ named))
ok_one current bytes text a (Err (of_resuming fault)) (h, at, one, named, is) other = absurd (not_refused current bytes text h at fault one other)

package_one : (current bytes text p : Bytes) (other : Result History JournalFault) → JournalGives current bytes text (Err (of_package p))
    → JournalGives current bytes text other → other ≡ Err (of_package p)
package_one current bytes text p (Ok a) gives also = sym (ok_one current bytes text a (Err (of_package p)) also gives)
package_one current bytes text p (Err (of_package q)) (h, at, one, of, other) (g, place, two, is, differs) =
    ap (λ (x : Bytes). Err (of_package x)) (sym is ∙ ap (λ (x : History). x.«package») (one_history bytes h g one.0.0 two.0.0 one.0.1 two.0.1) ∙ of)
package_one current bytes text p (Err (of_resuming fault)) (h, at, one, of, other) also = absurd (not_refused current bytes text h at fault one also)

one_fault : (current bytes text : Bytes) (fault other : ResumeFault) → JournalGives current bytes text (Err (of_resuming fault))
    → JournalGives current bytes text (Err (of_resuming other)) → fault ≡ other
one_fault current bytes text f.Memory other gives also = absurd gives
one_fault current bytes text fault f.Memory gives also = absurd also
one_fault current bytes text f.Version f.Version version also = refl
one_fault current bytes text f.Version f.Stale version (g, es, two, none) = absurd (not_other bytes g es version two)
one_fault current bytes text f.Version f.Damaged version also = absurd (also.0 version)
one_fault current bytes text f.Stale f.Version (g, es, two, none) version = absurd (not_other bytes g es version two)
one_fault current bytes text f.Stale f.Stale stale also = refl
one_fault current bytes text f.Stale f.Damaged (h, es, one, none) also = absurd (also.1 h es one)
one_fault current bytes text f.Damaged f.Version gives version = absurd (gives.0 version)
one_fault current bytes text f.Damaged f.Stale gives (h, es, one, none) = absurd (gives.1 h es one)
one_fault current bytes text f.Damaged f.Damaged gives also = refl

pub one_given : JournalGivesOne
one_given current bytes text (Ok a) other gives = λ also. sym (ok_one current bytes text a other gives also)
one_given current bytes text (Err (of_package p)) other gives = λ also. sym (package_one current bytes text p other gives also)
one_given current bytes text (Err (of_resuming fault)) (Ok a) gives = λ also. ok_one current bytes text a (Err (of_resuming fault)) also gives
one_given current bytes text (Err (of_resuming fault)) (Err (of_package p)) gives = λ also.
    package_one current bytes text p (Err (of_resuming fault)) also gives
one_given current bytes text (Err (of_resuming fault)) (Err (of_resuming other)) gives = λ also.
    ap (λ (x : ResumeFault). Err (of_resuming x)) (one_fault current bytes text fault other gives also)

-- ---- the first bytes of a text, one more than a text may have

beyond : (texts : List Bytes) (i : ℕ) → length texts ≤ i → slice_index_or texts i [] ≡ []
beyond [] zero past = refl
beyond [] (suc i) past = refl
beyond (text ∷ texts) zero past = absurd (omega (arith, past))
beyond (text ∷ texts) (suc i) past = beyond texts i (omega (arith, past))

short_text : (texts : List Bytes) (i : ℕ) → All Accepted texts → length (slice_index_or texts i []) ≤ limit
short_text texts i accepted = go (cases_lt i (length texts))
  where
    go : (i < length texts) ⊎ (length texts ≤ i) → length (slice_index_or texts i []) ≤ limit
    go (inl within) = (All-get_or Accepted texts i [] within accepted).1.2
    go (inr past) = let none = ap length (beyond texts i past) in omega (arith, none)

-- the texts of a history that has a journal are no longer than a text may be
short_at : (bytes : Bytes) (h : History) (es : List (List Edit)) (i : ℕ) → Journal bytes h es → length (text_at h i) ≤ limit
short_at bytes h es i journal =
    let follows = journal.follows in
    short_text h.texts i (subst (All Accepted) follows.2 (trail_kept (trail_at follows.0 es h.cursor) follows.1).accepted)

differ : (one other : Bytes) → limit < length one → length other ≤ limit → bytes_eq one other ≡ false
differ one other long short = go (bytes_eq one other) refl
  where
    go : (b : Bool) → bytes_eq one other ≡ b → b ≡ false
    go true is = let same : length one ≡ length other = ap length ((bytes_eq-Decides one other).0 is) in absurd (omega (arith, same))
    go false is = refl

-- so it matches no longer one
nowhere : (bytes text : Bytes) (h : History) (es : List (List Edit)) → Journal bytes h es → limit < length text → stands h text ≡ None
nowhere bytes text h es journal long =
    ap (λ b. if b then Some h.cursor else (if bytes_eq text (text_at h h.before) then Some h.before else None)) (differ text (text_at h h.cursor) long (short_at bytes h es h.cursor journal))
    ∙ ap (λ b. if b then Some h.before else None) (differ text (text_at h h.before) long (short_at bytes h es h.before journal))

not_long : (bytes text : Bytes) (h : History) (at : ℕ) → limit < length text → StandsAt bytes text h at → ⊥
not_long bytes text h at long stood = not_both h text at stood.1 (nowhere bytes text h stood.0.0 stood.0.1 long)

-- what comes of a journal comes of it at each text that is too long
long_gives : (current bytes one other : Bytes) (given : Result History JournalFault) → limit < length one → limit < length other
    → JournalGives current bytes one given → JournalGives current bytes other given
long_gives current bytes one other (Ok a) long past (h, at, stood, named, is) = absurd (not_long bytes one h at long stood)
long_gives current bytes one other (Err (of_package p)) long past (h, at, stood, named, differs) = absurd (not_long bytes one h at long stood)
long_gives current bytes one other (Err (of_resuming f.Version)) long past version = version
long_gives current bytes one other (Err (of_resuming f.Stale)) long past (h, es, journal, none) =
    (h, es, journal, nowhere bytes other h es journal past)
long_gives current bytes one other (Err (of_resuming f.Damaged)) long past none = none
long_gives current bytes one other (Err (of_resuming f.Memory)) long past gives = absurd gives

long_opens : (current name bytes one other : Bytes) (given : Result History JournalFault) → limit < length one → limit < length other
    → JournalGives current bytes one given → file_of_journal name one given ≡ file_of_journal name other given
long_opens current name bytes one other (Ok a) long past (h, at, stood, named, is) = absurd (not_long bytes one h at long stood)
long_opens current name bytes one other (Err fault) long past gives = refl

-- what becomes of the first bytes, with a journal or without, becomes of the text
pub front_beside : (journal : Option Bytes) (current name front text : Bytes) (file : Option Opened) (lines : List Bytes) → front ≡ take (limit + 1) text
    → TakesBeside journal current name front file lines → TakesBeside journal current name text file lines
front_beside None current name front text file lines is takes = front_takes current name front text file lines is takes
front_beside (Some bytes) current name front text file lines is (given, gives, opened, reported) = go (front_read text front is)
  where
    go : IsReadOf text front → TakesBeside (Some bytes) current name text file lines
    go (inl same) = subst (λ (it : Bytes). TakesBeside (Some bytes) current name it file lines) same (given, gives, opened, reported)
    go (inr (past, long)) =
        (given, long_gives current bytes front text given past long gives, opened ∙ long_opens current name bytes front text given past long gives, reported)

-- ---- a journal that was read

-- what is taken beside what was read of a journal, is taken beside what the folder has
by_read : (journals : Bool) (folder : Folder) (current name journal text : Bytes) (read : Option Bytes) (file : Option Opened) (lines : List Bytes) → journals ≡ true
    → journal ≡ journal_name name → get folder journal ≡ read → TakesBeside read current name text file lines
    → TakesBeside (journal_beside journals folder name) current name text file lines
by_read journals folder current name journal text read file lines kept called held takes =
    let there : journal_beside journals folder name ≡ read = ap (λ (b : Bool). journal_beside b folder name) kept ∙ ap (get folder) (sym called) ∙ held in
    subst (λ (beside : Option Bytes). TakesBeside beside current name text file lines) (sym there) takes

-- what comes of the first bytes of a journal, with which none begins, comes of all of them
front_gives : (current front rest bytes text : Bytes) (given : Result History JournalFault) → bytes ≡ front ++ rest → BeginsNoJournal front
    → JournalGives current front text given → JournalGives current bytes text given
front_gives current front rest bytes text given is begins gives = go given gives
  where
    never : (IsOtherVersion front → ⊥) × NoJournal front
    never = subst (λ (it : Bytes). (IsOtherVersion it → ⊥) × NoJournal it) (append-nil front) (begins [])

    go : (given : Result History JournalFault) → JournalGives current front text given → JournalGives current bytes text given
    go (Ok a) (h, at, stood, named, same) = absurd (never.1 h stood.0.0 stood.0.1)
    go (Err (of_package p)) (h, at, stood, named, differs) = absurd (never.1 h stood.0.0 stood.0.1)
    go (Err (of_resuming f.Version)) version = absurd (never.0 version)
    go (Err (of_resuming f.Stale)) (h, es, journal, none) = absurd (never.1 h es journal)
    go (Err (of_resuming f.Damaged)) none = subst (λ (it : Bytes). (IsOtherVersion it → ⊥) × NoJournal it) (sym is) (begins rest)
    go (Err (of_resuming f.Memory)) gives = absurd gives

enough_takes : (current name text bytes read : Bytes) (file : Option Opened) (lines : List Bytes) → IsEnoughOf bytes read → TakesBeside (Some read) current name text file lines
    → TakesBeside (Some bytes) current name text file lines
enough_takes current name text bytes read file lines (inl same) takes = subst (λ (it : Bytes). TakesBeside (Some it) current name text file lines) (sym same) takes
enough_takes current name text bytes read file lines (inr (rest, is, begins)) (given, gives, opened, reported) =
    (given, front_gives current read rest bytes text given is begins gives, opened, reported)

-- a list has fewer elements than the most that are read of a journal, so that is all
pub whole_enough : (bytes : Bytes) (read : Vec ℕ Global) → read.items ≡ take (2 ^ 64 - 1) bytes → IsEnoughOf bytes read.items
whole_enough bytes read is =
    let ok = read.ok in
    let small = read.small in
    let cut : length read.items ≡ length (take (2 ^ 64 - 1) bytes) = ap length is in
    inl (sym (is ∙ take_all (2 ^ 64 - 1) bytes (omega (arith, ok.0, ok.1, small, cut, length-take (2 ^ 64 - 1) bytes))))

pub front_enough : (bytes read : Bytes) → read ≡ take 65536 bytes → (length read < 65536) ⊎ BeginsNoJournal read → IsEnoughOf bytes read
front_enough bytes read is (inl short) = inl (sym (is ∙ take_all 65536 bytes (omega (arith, short, ap length is, length-take 65536 bytes))))
front_enough bytes read is (inr begins) = inr (drop 65536 bytes, sym (take-append-drop 65536 bytes) ∙ ap (λ (it : Bytes). it ++ drop 65536 bytes) (sym is), begins)

-- what is taken beside what was read of a journal, where that is enough of it
pub read_beside : (journals : Bool) (folder : Folder) (current name journal bytes reported read text : Bytes) (file : Option Opened) (lines : List Bytes)
    → journals ≡ true → journal ≡ journal_name name → reported ≡ read → get folder journal ≡ Some bytes → IsEnoughOf bytes read
    → TakesBeside (Some reported) current name text file lines → TakesBeside (journal_beside journals folder name) current name text file lines
read_beside journals folder current name journal bytes reported read text file lines kept called same held enough takes =
    by_read journals folder current name journal text (Some bytes) file lines kept called held
    (enough_takes current name text bytes read file lines enough (subst (λ (it : Bytes). TakesBeside (Some it) current name text file lines) same takes))

pub none_beside : (journals : Bool) (folder : Folder) (current name journal text : Bytes) (file : Option Opened) (lines : List Bytes) → journals ≡ true
    → journal ≡ journal_name name → get folder journal ≡ None → Takes current name text file lines
    → TakesBeside (journal_beside journals folder name) current name text file lines
none_beside journals folder current name journal text = by_read journals folder current name journal text None

pub plain_beside : (journals : Bool) (folder : Folder) (current name text : Bytes) (file : Option Opened) (lines : List Bytes) → journals ≡ false
    → Takes current name text file lines → TakesBeside (journal_beside journals folder name) current name text file lines
plain_beside journals folder current name text file lines is takes =
    subst (λ (b : Bool). TakesBeside (journal_beside b folder name) current name text file lines) (sym is) takes

-- ---- which file of a package is opened, by what its names and its journal hold

-- a file that is there, of which these first bytes were read; the folder is still the same
there_opens : (journals : Bool) (current wanted name front text : Bytes) (folder now : Folder) (other : Option PackagesFound) (file : Option Opened) (lines : List Bytes)
    → name ≡ wanted → get folder name ≡ Some text → front ≡ take (limit + 1) text → now ≡ folder
    → TakesBeside (journal_beside journals now name) current name front file lines
    → OpensBeside journals folder current (found_at wanted (get folder wanted) other) file lines
there_opens journals current wanted name front text folder now other file lines is held cut same takes =
    let whole = front_beside (journal_beside journals now name) current name front text file lines cut takes in
    let here : TakesBeside (journal_beside journals folder name) current name text file lines =
    subst (λ (it : Folder). TakesBeside (journal_beside journals it name) current name text file lines) same whole in
    subst (λ (bytes : Option Bytes). OpensBeside journals folder current (found_at wanted bytes other) file lines) (sym (ap (get folder) (sym is) ∙ held))
    (subst (λ (n : Bytes). TakesBeside (journal_beside journals folder n) current n text file lines) is here)

-- a file that is not there
absent_opens : (journals : Bool) (current wanted name : Bytes) (folder : Folder) (other : Option PackagesFound) (file : Option Opened) (lines : List Bytes) → name ≡ wanted
    → get folder name ≡ None → OpensBeside journals folder current other file lines
    → OpensBeside journals folder current (found_at wanted (get folder wanted) other) file lines
absent_opens journals current wanted name folder other file lines is held opens =
    subst (λ (bytes : Option Bytes). OpensBeside journals folder current (found_at wanted bytes other) file lines) (sym (ap (get folder) (sym is) ∙ held)) opens

pub second_opens : (journals : Bool) (current name front text : Bytes) (folder now : Folder) (file : Option Opened) (lines : List Bytes) → name ≡ second_name current
    → get folder name ≡ Some text → front ≡ take (limit + 1) text → now ≡ folder → TakesBeside (journal_beside journals now name) current name front file lines
    → OpensBeside journals folder current (found_second folder current) file lines
second_opens journals current name front text folder now file lines = there_opens journals current (second_name current) name front text folder now None file lines

pub neither_opens : (journals : Bool) (current name : Bytes) (folder : Folder) → name ≡ second_name current → get folder name ≡ None
    → OpensBeside journals folder current (found_second folder current) None ((named_line name (codes "cannot open") ++ package_hint current) ∷ [])
neither_opens journals current name folder is held =
    absent_opens journals current (second_name current) name folder None None ((named_line name (codes "cannot open") ++ package_hint current) ∷ []) is held
    (refl, ap (λ (n : Bytes). (named_line n (codes "cannot open") ++ package_hint current) ∷ []) is)

pub first_opens : (journals : Bool) (current name front text : Bytes) (folder now : Folder) (file : Option Opened) (lines : List Bytes) → name ≡ first_name current
    → get folder name ≡ Some text → front ≡ take (limit + 1) text → now ≡ folder → TakesBeside (journal_beside journals now name) current name front file lines
    → OpensBeside journals folder current (found_in folder current) file lines
first_opens journals current name front text folder now file lines =
    there_opens journals current (first_name current) name front text folder now (found_second folder current) file lines

-- ---- a file that goes on is opened at the text that it holds

-- where a history matches a text it has that text
pub stands_text : (h : History) (text : Bytes) (at : ℕ) → stands h text ≡ Some at → text_at h at ≡ text
stands_text h text at is = go (bytes_eq text (text_at h h.cursor)) (bytes_eq text (text_at h h.before)) refl refl is
  where
    go : (one two : Bool) → bytes_eq text (text_at h h.cursor) ≡ one → bytes_eq text (text_at h h.before) ≡ two
        → (if one then Some h.cursor else (if two then Some h.before else None)) ≡ Some at → text_at h at ≡ text
    go true two here there is =
        ap (text_at h) (sym (ap (λ (found : Option ℕ). unwrap_or found 0) is)) ∙ sym ((bytes_eq-Decides text (text_at h h.cursor)).0 here)
    go false true here there is =
        ap (text_at h) (sym (ap (λ (found : Option ℕ). unwrap_or found 0) is)) ∙ sym ((bytes_eq-Decides text (text_at h h.before)).0 there)
    go false false here there is = absurd (let e = is in cc)

-- the file is open at this text, with these texts
abbrev IsAt : Bytes → List Bytes → Option Opened → Type 0
IsAt text texts file = (opened : Opened) × (file ≡ Some opened) × (present opened.history ≡ text) × (opened.history.texts ≡ texts)

by_reported : (folder : Folder) (name current text : Bytes) (texts : List Bytes) (file : Option Opened) (lines : List Bytes) → IsRecordedBy folder name current text texts
    → Accepted text → TakesBeside (journal_beside true folder name) current name text file lines → IsAt text texts file
by_reported folder name current text texts file lines (inl (none, alone)) accepted takes =
    elim (subst (λ (journal : Option Bytes). TakesBeside journal current name text file lines) none takes) [
      | inl opens ↦ (opened_fresh current name text, opens.1, refl, sym alone)
      | inr (fault, refused, is, reported) ↦ absurd (refused.0 accepted)
    ]
by_reported folder name current text texts file lines (inr (bytes, h, es, place, there, journal, of, is, at)) accepted takes =
    let given = subst (λ (beside : Option Bytes). TakesBeside beside current name text file lines) there takes in
    let history : History = record h { cursor = place; before = place } in
    let one = one_given current bytes text (Ok history) given.0 (h, place, ((es, journal), at), of, refl) given.1 in (
      opened_with name text history,
      given.2 ∙ ap (file_of_journal name text) (sym one),
      stands_text h text place at,
      sym is,
    )

pub held_go_on : HeldFilesGoOn
held_go_on folder name current text texts file lines holds accepted takes = by_reported folder name current text texts file lines holds.history accepted takes
