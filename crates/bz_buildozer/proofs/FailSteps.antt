-- What a run opens and does that may be cut: openings, and steps one after the other.
use Rattle.bz_buildozer.proofs.Words.{[], ◌++◌, ◌+◌, ◌<◌, ◌∙◌, ◌∷◌, ◌≡◌, ◌≢◌, ◌⊎◌, after_keeping, Answers, AnswersIn, ap, append-nil, append_assoc, arith, as_file, as_package, as_unedited, base_of, Bool, Brings, Bytes, codes, Cut, Cut as c, Does, ends_run, Err, false, file_after, file_at, file_of_journal, FileUntil, Finds, FindsUntil, first_cut, first_name, Folder, folder_of, found_at, found_in, found_of, found_second, get, History, IfSome, in_package, inl, input_package, InputUntil, inr, IsInFolder, IsLeft, IsNameOf, IsOpenedIn, IsSome, IsUnreadInRun, journal_beside, journal_name, JournalFault, key_in, key_of, LeavesUnkept, left_out, length, length-append, limit, lines_of_journal, List, MeansUntil, named_line, NamedUntil, None, Ok, Opened, opened_with, OpensAs, OpensBeside, OpensUntil, Option, option_map, package_number, PackagesFound, Pair, Progress, refl, reports_more, ReportsLine, ReportsLines, Result, RunActs, RunsSteps, RunStep, second_name, SecondUntil, Settled, settled, Some, stdin, subst, sym, take, Taken, taken_in, TakesBeside, TakesUntil, true, unread_status, unreadable, unwrap_or, Used, Uses, UsesWhole, wanting, wanting_name, with_opened, World, ℕ}
use Rattle.bz_streams.specs.declared.sink.Sink.{Ghosts as SinkOf}
use Rattle.bz_buildozer.proofs.PlaceSteps.{last_place, left_after_input, left_after_use, place_stays}
use Rattle.bz_buildozer.proofs.StandSteps.{found_holds, key_input, own_named, second_holds}
use Rattle.bz_buildozer.proofs.ReadSteps.{first_opens, front_beside, second_opens}

-- ---- the file that an opening leaves, whatever comes

same_file : (one other : Opened) → ◌≡◌ {A = Option Opened} (Some one) (Some other) → one ≡ other
same_file one other is = ap (λ (found : Option Opened). unwrap_or found one) is

given_some : (name text : Bytes) (given : Result History JournalFault) (file : Opened) (lines : List Bytes) → Some file ≡ file_of_journal name text given
    → lines ≡ lines_of_journal name given → (file.name ≡ name) × (file.read ≡ text) × (lines ≡ [])
given_some name text (Ok history) file lines is reported =
    let same = same_file file (opened_with name text history) is in (ap (λ (f : Opened). f.name) same, ap (λ (f : Opened). f.read) same, reported)
given_some name text (Err fault) file lines is reported = absurd (let e = is in cc)

-- an open file has the name and the text that were read, and nothing is printed
takes_some : (journal : Option Bytes) (current name text : Bytes) (file : Opened) (lines : List Bytes) → TakesBeside journal current name text (Some file) lines
    → (file.name ≡ name) × (file.read ≡ text) × (lines ≡ [])
takes_some None current name text file lines (inl (accepted, is, reported)) =
    let same = same_file file _ is in (ap (λ (f : Opened). f.name) same, ap (λ (f : Opened). f.read) same, reported)
takes_some None current name text file lines (inr (fault, refused, is, reported)) = absurd (let e = is in cc)
takes_some (Some bytes) current name text file lines (given, comes, is, reported) = given_some name text given file lines is reported

-- ---- what was found and opened

-- the file of this name, whose labels are of its folder
opened_one : (journals : Bool) (folder : Folder) (key name text : Bytes) (file : Opened) (lines : List Bytes) → IsNameOf key name → get folder name ≡ Some text
    → TakesBeside (journal_beside journals folder name) (folder_of name) name text (Some file) lines → IsOpenedIn journals folder key file
opened_one journals folder key name text file lines named held takes =
    let at = takes_some (journal_beside journals folder name) (folder_of name) name text file lines takes in record {
      named = subst (IsNameOf key) (sym at.0) named;
      there = ap (get folder) at.0 ∙ held ∙ ap Some (sym at.1);
      opens = subst (TakesBeside (journal_beside journals folder file.name) (folder_of file.name) file.name file.read (Some file)) at.2
          (subst (λ (t : Bytes). TakesBeside (journal_beside journals folder file.name) (folder_of file.name) file.name t (Some file) lines) (sym at.1)
          (subst (λ (n : Bytes). TakesBeside (journal_beside journals folder n) (folder_of n) n text (Some file) lines) (sym at.0) takes));
    }

opened_found : (journals : Bool) (folder : Folder) (current : Bytes) (found : Option PackagesFound) (file : Option Opened) (lines : List Bytes)
    → ((name text : Bytes) → found ≡ Some (name, text) → IsNameOf current name × (get folder name ≡ Some text) × (folder_of name ≡ current))
    → OpensBeside journals folder current found file lines → IfSome file (IsOpenedIn journals folder current)
opened_found journals folder current found None lines holds opens = tt
opened_found journals folder current None (Some file) lines holds opens = absurd (let e = opens.0 in cc)
opened_found journals folder current (Some (name, text)) (Some file) lines holds takes =
    let there = holds name text refl in
    opened_one journals folder current name text file lines there.0 there.1
    (subst (λ (labels : Bytes). TakesBeside (journal_beside journals folder name) labels name text (Some file) lines) (sym there.2) takes)

none_opened : (journals : Bool) (folder : Folder) (current : Bytes) (file : Option Opened) → file ≡ None → IfSome file (IsOpenedIn journals folder current)
none_opened journals folder current file is = subst (λ (it : Option Opened). IfSome it (IsOpenedIn journals folder current)) (sym is) tt

none_taken_until : (why : Cut) (journals : Bool) (acts : RunActs) (folder : Folder) (current name text : Bytes) (file : Option Opened) (lines : List Bytes) → why ≢ c.Whole
    → TakesUntil why journals acts folder current name text file lines → file ≡ None
none_taken_until c.Whole journals acts folder current name text file lines other takes = absurd (other refl)
none_taken_until c.Files journals acts folder current name text file lines other takes = takes.1
none_taken_until c.Memory journals acts folder current name text file lines other takes = takes.0
none_taken_until _ journals acts folder current name text file lines other takes = absurd takes

none_found : (why : Cut) (journals : Bool) (acts : RunActs) (folder : Folder) (current name : Bytes) (file : Option Opened) (lines : List Bytes) → why ≢ c.Whole
    → FindsUntil why journals acts folder current name file lines → file ≡ None
none_found why journals acts folder current name file lines other (inl none) = none.0
none_found why journals acts folder current name file lines other (inr (text, held, takes)) = none_taken_until why journals acts folder current name text file lines other takes

-- where memory is refused none is open
memory_second : (journals : Bool) (acts : RunActs) (folder : Folder) (current : Bytes) (file : Option Opened) (lines : List Bytes) → SecondUntil c.Memory journals acts folder current file lines → file ≡ None
memory_second journals acts folder current file lines (inl none) = none.0
memory_second journals acts folder current file lines (inr opens) = none_found c.Memory journals acts folder current (second_name current) file lines (λ is. absurd (cc is)) opens

memory_closes : (journals : Bool) (acts : RunActs) (folder : Folder) (current : Bytes) (file : Option Opened) (lines : List Bytes) → OpensUntil c.Memory journals acts folder current file lines → file ≡ None
memory_closes journals acts folder current file lines (inl none) = none.0
memory_closes journals acts folder current file lines (inr (inl gone)) = memory_second journals acts folder current file lines gone.1
memory_closes journals acts folder current file lines (inr (inr opens)) = none_found c.Memory journals acts folder current (first_name current) file lines (λ is. absurd (cc is)) opens

opened_second : (why : Cut) (journals : Bool) (acts : RunActs) (folder : Folder) (current : Bytes) (file : Option Opened) (lines : List Bytes) → SecondUntil why journals acts folder current file lines
    → IfSome file (IsOpenedIn journals folder current)
opened_second c.Whole journals acts folder current file lines opens =
    opened_found journals folder current (found_second folder current) file lines (second_holds folder current) opens
opened_second c.Read journals acts folder current file lines opens = absurd opens
opened_second c.Write journals acts folder current file lines opens = absurd opens
opened_second c.Files journals acts folder current file lines opens =
    none_opened journals folder current file (none_found c.Files journals acts folder current (second_name current) file lines (λ is. absurd (cc is)) opens)
opened_second c.Memory journals acts folder current file lines opens = none_opened journals folder current file (memory_second journals acts folder current file lines opens)

-- an open file is one that the folder has
pub opened_until : (why : Cut) (journals : Bool) (acts : RunActs) (folder : Folder) (current : Bytes) (file : Option Opened) (lines : List Bytes) → OpensUntil why journals acts folder current file lines
    → IfSome file (IsOpenedIn journals folder current)
opened_until c.Whole journals acts folder current file lines opens =
    opened_found journals folder current (found_in folder current) file lines (found_holds folder current) opens
opened_until c.Memory journals acts folder current file lines opens = none_opened journals folder current file (memory_closes journals acts folder current file lines opens)
opened_until c.Files journals acts folder current file lines (inl (why, more, told, unread, second)) = opened_second why journals acts folder current file more second
opened_until c.Files journals acts folder current file lines (inr (inl gone)) = opened_second c.Files journals acts folder current file lines gone.1
opened_until c.Files journals acts folder current file lines (inr (inr (text, held, unread))) = none_opened journals folder current file unread.1
opened_until _ journals acts folder current file lines opens = absurd opens

-- where memory is refused none is open
memory_file : (journals : Bool) (acts : RunActs) (folder : Folder) (path : Bytes) (s : Settled) (file : Option Opened) (lines : List Bytes)
    → MeansUntil c.Memory journals acts folder path s file lines → file ≡ None
memory_file journals acts folder path (as_package current) file lines opens = memory_closes journals acts folder current file lines opens
memory_file journals acts folder path (as_file name) file lines opens =
    none_found c.Memory journals acts folder (folder_of name) name file lines (λ is. absurd (cc is)) opens
memory_file journals acts folder path (as_unedited why) file lines opens = opens.1

own_opened : (why : Cut) (journals : Bool) (acts : RunActs) (folder : Folder) (name : Bytes) (file : Option Opened) (lines : List Bytes) → IsNameOf name name
    → FileUntil why journals acts folder name file lines → IfSome file (IsOpenedIn journals folder name)
own_opened c.Whole journals acts folder name None lines named opens = tt
own_opened c.Whole journals acts folder name (Some file) lines named (text, held, takes) = opened_one journals folder name name text file lines named held takes
own_opened c.Files journals acts folder name file lines named opens =
    none_opened journals folder name file (none_found c.Files journals acts folder (folder_of name) name file lines (λ is. absurd (cc is)) opens)
own_opened c.Memory journals acts folder name file lines named opens =
    none_opened journals folder name file (none_found c.Memory journals acts folder (folder_of name) name file lines (λ is. absurd (cc is)) opens)
own_opened _ journals acts folder name file lines named opens = absurd opens

-- an open file is one that the folder has, for what the path means
pub means_opened : (why : Cut) (journals : Bool) (acts : RunActs) (folder : Folder) (path : Bytes) (s : Settled) (file : Option Opened) (lines : List Bytes)
    → settled folder path ≡ s → MeansUntil why journals acts folder path s file lines → IfSome file (IsOpenedIn journals folder (key_of path s))
means_opened why journals acts folder path (as_package current) file lines is opens = opened_until why journals acts folder current file lines opens
means_opened why journals acts folder path (as_file name) file lines is opens =
    own_opened why journals acts folder name file lines (own_named folder path name is) opens
means_opened why journals acts folder path (as_unedited reason) file lines is opens = none_opened journals folder path file opens.1

-- the journal of a file is there
pub journal_there : (journals : Bool) (folder : Folder) (name journal bytes : Bytes) → journals ≡ true → journal ≡ journal_name name → get folder journal ≡ Some bytes
    → IsSome (journal_beside journals folder name)
journal_there journals folder name journal bytes kept is held = subst (λ (b : Bool). IsSome (journal_beside b folder name)) (sym kept)
    (subst (λ (found : Option Bytes). IsSome found) (sym (ap (get folder) (sym is) ∙ held)) refl)

-- the last package is one of them
pub last_within : (place : ℕ) (used mid : List Used) (one : Used) → place ≡ length used → mid ≡ used ++ one ∷ [] → place < length mid
last_within place used mid one at is = let long = ap length is ∙ length-append used (one ∷ []) in omega (arith, at, long)

-- ---- lines on standard error

pub one_line : {E : Type 0} (sink : SinkOf E) (old new : E) (line : Bytes) → ReportsLine sink old new line → ReportsLines sink old new (line ∷ [])
one_line sink old new line told = (sink.faults new, sink.contents new, told, (refl, refl))

pub more_lines : {E : Type 0} (sink : SinkOf E) (old mid new : E) (lines more : List Bytes) → ReportsLines sink old mid lines → ReportsLines sink mid new more
    → ReportsLines sink old new (lines ++ more)
more_lines sink old mid new =
    reports_more (sink.faults old) (sink.faults mid) (sink.faults new) (sink.contents old) (sink.contents mid) (sink.contents new)

-- ---- first cuts

pub cuts_assoc : (one later last : Cut) → first_cut (first_cut one later) last ≡ first_cut one (first_cut later last)
cuts_assoc c.Whole later last = refl
cuts_assoc _ later last = refl

pub cut_alone : (why : Cut) → first_cut why c.Whole ≡ why
cut_alone c.Whole = refl
cut_alone _ = refl

-- ---- a file of lines that can't be read

pub unread_either : (status : ℕ) (why : Cut) → status ≡ unread_status why → (status ≡ 2) ⊎ (status ≡ 1)
unread_either status c.Memory is = inl is
unread_either status _ is = inr is

-- ---- openings

-- no file is open, and these lines were printed
pub none_taken : {E : Type 0} (sink : SinkOf E) (Is : Cut → Option Opened → List Bytes → Type 0) (taken : Taken) (why : Cut) (old new : E) (lines : List Bytes)
    → taken ≡ record { file = None; cut = why } → Is why None lines → ReportsLines sink old new lines → Brings sink (Is taken.cut) (taken_in taken) old new
none_taken sink Is taken why old new lines is says told = subst (λ (t : Taken). Brings sink (Is t.cut) (taken_in t) old new) (sym is) (lines, says, told)

-- and this line was
pub fails_as : {E : Type 0} (sink : SinkOf E) (Is : Cut → Option Opened → List Bytes → Type 0) (taken : Taken) (why : Cut) (old new : E) (line : Bytes)
    → taken ≡ record { file = None; cut = why } → Is why None (line ∷ []) → ReportsLine sink old new line → Brings sink (Is taken.cut) (taken_in taken) old new
fails_as sink Is taken why old new line is says told = none_taken sink Is taken why old new (line ∷ []) is says (one_line sink old new line told)

-- what memory alone may cut
pub memory_until : {E : Type 0} (sink : SinkOf E) (Is : Option Opened → List Bytes → Type 0) (Until : Cut → Option Opened → List Bytes → Type 0) (line : Bytes) (why : Cut)
    (file : Option Opened) (old new : E) → ((lines : List Bytes) → Is file lines → Until c.Whole file lines) → (file ≡ None → Until c.Memory file (line ∷ []))
    → (why ≡ c.Whole → Brings sink Is file old new) → (why ≡ c.Whole) ⊎ ((why ≡ c.Memory) × (file ≡ None)) → (why ≡ c.Memory → ReportsLine sink old new line)
    → Brings sink (Until why) file old new
memory_until sink Is Until line why file old new more refused whole (inl is) told =
    let done = whole is in (done.0, subst (λ (it : Cut). Until it file done.0) (sym is) (more done.0 done.1), done.2)
memory_until sink Is Until line why file old new more refused whole (inr (memory, closed)) told =
    (line ∷ [], subst (λ (it : Cut). Until it file (line ∷ [])) (sym memory) (refused closed), one_line sink old new line (told memory))

-- A file that was found is opened, or its journal is not: what cuts that says nothing of the text.
found_until : (why : Cut) (journals : Bool) (acts : RunActs) (current name called front text : Bytes) (folder now : Folder) (file : Option Opened) (lines : List Bytes) → name ≡ called
    → get folder name ≡ Some text → now ≡ folder → why ≢ c.Whole → TakesUntil why journals acts now current name front file lines
    → (held : Bytes) × (get folder called ≡ Some held) × TakesUntil why journals acts folder current called held file lines
found_until why journals acts current name called front text folder now file lines is held same other takes = (
  text,
  ap (get folder) (sym is) ∙ held,
  go why other (subst (λ (n : Bytes). TakesUntil why journals acts folder current n front file lines) is
      (subst (λ (f : Folder). TakesUntil why journals acts f current name front file lines) same takes)),
)
  where
    go : (cut : Cut) → cut ≢ c.Whole → TakesUntil cut journals acts folder current called front file lines → TakesUntil cut journals acts folder current called text file lines
    go c.Whole other it = absurd (other refl)
    go c.Files other it = it
    go c.Memory other it = it
    go _ other it = absurd it

second_until : (why : Cut) (journals : Bool) (acts : RunActs) (current name front text : Bytes) (folder now : Folder) (file : Option Opened) (lines : List Bytes) → name ≡ second_name current
    → get folder name ≡ Some text → front ≡ take (limit + 1) text → now ≡ folder → TakesUntil why journals acts now current name front file lines
    → SecondUntil why journals acts folder current file lines
second_until c.Whole journals acts current name front text folder now file lines is held cut same takes =
    second_opens journals current name front text folder now file lines is held cut same takes
second_until c.Files journals acts current name front text folder now file lines is held cut same takes =
    inr (found_until c.Files journals acts current name (second_name current) front text folder now file lines is held same (λ is. absurd (cc is)) takes)
second_until c.Memory journals acts current name front text folder now file lines is held cut same takes =
    inr (inr (found_until c.Memory journals acts current name (second_name current) front text folder now file lines is held same (λ is. absurd (cc is)) takes))
second_until _ journals acts current name front text folder now file lines is held cut same takes = absurd takes

first_until : (why : Cut) (journals : Bool) (acts : RunActs) (current name front text : Bytes) (folder now : Folder) (file : Option Opened) (lines : List Bytes) → name ≡ first_name current
    → get folder name ≡ Some text → front ≡ take (limit + 1) text → now ≡ folder → TakesUntil why journals acts now current name front file lines
    → OpensUntil why journals acts folder current file lines
first_until c.Whole journals acts current name front text folder now file lines is held cut same takes =
    first_opens journals current name front text folder now file lines is held cut same takes
first_until c.Files journals acts current name front text folder now file lines is held cut same takes =
    inr (inr (found_until c.Files journals acts current name (first_name current) front text folder now file lines is held same (λ is. absurd (cc is)) takes))
first_until c.Memory journals acts current name front text folder now file lines is held cut same takes =
    inr (inr (inr (found_until c.Memory journals acts current name (first_name current) front text folder now file lines is held same (λ is. absurd (cc is)) takes)))
first_until _ journals acts current name front text folder now file lines is held cut same takes = absurd takes

-- the file of this name, by the package of its labels
pub own_until : (why : Cut) (journals : Bool) (acts : RunActs) (labels name front text : Bytes) (folder now : Folder) (file : Option Opened) (lines : List Bytes) → labels ≡ folder_of name
    → get folder name ≡ Some text → front ≡ take (limit + 1) text → now ≡ folder → TakesUntil why journals acts now labels name front file lines
    → FileUntil why journals acts folder name file lines
own_until why journals acts labels name front text folder now file lines is held cut same takes =
    go why (subst (λ (current : Bytes). TakesUntil why journals acts now current name front file lines) is takes)
  where
    go : (why : Cut) → TakesUntil why journals acts now (folder_of name) name front file lines → FileUntil why journals acts folder name file lines
    go c.Whole takes = (
      text,
      held,
      subst (λ (f : Folder). TakesBeside (journal_beside journals f name) (folder_of name) name text file lines) same
          (front_beside (journal_beside journals now name) (folder_of name) name front text file lines cut takes),
    )
    go c.Files takes = inr (found_until c.Files journals acts (folder_of name) name name front text folder now file lines refl held same (λ is. absurd (cc is)) takes)
    go c.Memory takes = inr (found_until c.Memory journals acts (folder_of name) name name front text folder now file lines refl held same (λ is. absurd (cc is)) takes)
    go _ takes = absurd takes

-- Where the first file isn't there, what comes of the second one is what comes of both.
pub absent_until : (why : Cut) (journals : Bool) (acts : RunActs) (folder : Folder) (current : Bytes) (file : Option Opened) (lines : List Bytes) → get folder (first_name current) ≡ None
    → SecondUntil why journals acts folder current file lines → OpensUntil why journals acts folder current file lines
absent_until c.Whole journals acts folder current file lines gone opens =
    subst (λ (found : Option Bytes). OpensBeside journals folder current (found_at (first_name current) found (found_second folder current)) file lines) (sym gone) opens
absent_until c.Files journals acts folder current file lines gone opens = inr (inl (gone, opens))
absent_until c.Memory journals acts folder current file lines gone opens = inr (inl (gone, opens))
absent_until _ journals acts folder current file lines gone opens = absurd opens

pub named_until : (second : Bool) (why : Cut) (journals : Bool) (acts : RunActs) (current name front text : Bytes) (folder now : Folder) (file : Option Opened) (lines : List Bytes)
    → name ≡ in_package current (base_of second) → get folder name ≡ Some text → front ≡ take (limit + 1) text → now ≡ folder
    → TakesUntil why journals acts now current name front file lines → NamedUntil second why journals acts folder current file lines
named_until false = first_until
named_until true = second_until

pub memory_named : (second journals : Bool) (acts : RunActs) (folder : Folder) (current : Bytes) → NamedUntil second c.Memory journals acts folder current None (wanting_name current)
memory_named false journals acts folder current = inl (refl, refl)
memory_named true journals acts folder current = inl (refl, refl)

-- memory is refused to read the file of this name
pub memory_read : (second journals : Bool) (acts : RunActs) (folder : Folder) (current name : Bytes) → name ≡ in_package current (base_of second)
    → NamedUntil second c.Memory journals acts folder current None (wanting name)
memory_read false journals acts folder current name is = inr (inr (inl (refl, ap wanting is, tt)))
memory_read true journals acts folder current name is = inr (inl (refl, ap wanting is, tt))

pub by_name_of : (second number : Bool) (why : Cut) (journals : Bool) (acts : RunActs) (folder : Folder) (current : Bytes) (file : Option Opened) (lines : List Bytes) → second ≡ number
    → NamedUntil number why journals acts folder current file lines → NamedUntil second why journals acts folder current file lines
by_name_of second number why journals acts folder current file lines is opens = subst (λ (b : Bool). NamedUntil b why journals acts folder current file lines) (sym is) opens

-- It can't be read, and `BUILD` is tried.
pub tried_on : {E : Type 0} (sink : SinkOf E) (Trusted Now : Type 0) (journals : Bool) (acts : RunActs) (folder now : Folder) (current name : Bytes) (why : Cut) (file : Option Opened)
    (old mid new : E) → (Trusted → Now × (now ≡ folder)) → name ≡ first_name current → ReportsLine sink old mid (named_line name (codes "cannot open"))
    → IsUnreadInRun acts name → Brings sink (λ found lines. Now → SecondUntil why journals acts now current found lines) file mid new
    → Brings sink (λ found lines. Trusted → OpensUntil c.Files journals acts folder current found lines) file old new
tried_on sink Trusted Now journals acts folder now current name why file old mid new still named told unread (more, second, reported) = (
  unreadable name ++ more,
  (λ trusted. inl (
    why,
    more,
    ap (λ (n : Bytes). unreadable n ++ more) named,
    subst (IsUnreadInRun acts) named unread,
    subst (λ (f : Folder). SecondUntil why journals acts f current file more) (still trusted).1 (second (still trusted).0),
  )),
  (sink.faults mid, sink.contents mid, told, reported),
)

-- ---- the package of a step

pub used_first : (journals : Bool) (world : World) (path : Bytes) (before after : List Used) (found : Option PackagesFound) (file : Option Opened) (lines : List Bytes)
    → package_number (key_in before world.folder path) before ≡ None → Finds journals world path found
    → OpensAs journals world.folder path (settled world.folder path) found file lines
    → after ≡ before ++ record { «package» = key_in before world.folder path; file = file } ∷ [] → UsesWhole journals world path before (length before) lines after
used_first journals world path before after found file lines none finds opens added = inr (none, refl, (found, file, finds, opens, added))

-- what was found for it is opened
whole_as : (journals : Bool) (acts : RunActs) (folder : Folder) (path : Bytes) (s : Settled) (file : Option Opened) (lines : List Bytes)
    → MeansUntil c.Whole journals acts folder path s file lines → OpensAs journals folder path s (found_of folder s) file lines
whole_as journals acts folder path (as_package current) file lines opens = opens
whole_as journals acts folder path (as_file name) file lines (text, held, takes) =
    subst (λ (found : Option Bytes). OpensAs journals folder path (as_file name) (found_at name found None) file lines) (sym held) takes
whole_as journals acts folder path (as_unedited why) file lines opens = (opens.1, opens.2)

-- the file of a package that isn't read from standard input
in_folder : (journals : Bool) (current : Bytes) → (journals ≡ false → current ≡ input_package → ⊥) → IsInFolder journals current
in_folder true current other = inl refl
in_folder false current other = inr (other refl)

-- a package that has no file from now on
closed_added : (current : Bytes) (before after : List Used) (file : Option Opened) → after ≡ before ++ record { «package» = current; file = file } ∷ [] → file ≡ None
    → after ≡ before ++ record { «package» = current; file = None } ∷ []
closed_added current before after file added closed = added ∙ ap (λ (f : Option Opened). before ++ record { «package» = current; file = f } ∷ []) closed

-- neither standard input nor output cuts what is opened in the folder
means_cut : (why : Cut) (journals : Bool) (acts : RunActs) (folder : Folder) (path : Bytes) (s : Settled) (file : Option Opened) (lines : List Bytes)
    → (why ≡ c.Read) ⊎ (why ≡ c.Write) → MeansUntil why journals acts folder path s file lines → ⊥
means_cut why journals acts folder path s file lines (inl is) opens = go s (subst (λ (it : Cut). MeansUntil it journals acts folder path s file lines) is opens)
  where
    go : (s : Settled) → MeansUntil c.Read journals acts folder path s file lines → ⊥
    go (as_package current) never = never
    go (as_file name) never = never
    go (as_unedited reason) never = absurd (let e = never.0 in cc)
means_cut why journals acts folder path s file lines (inr is) opens = go s (subst (λ (it : Cut). MeansUntil it journals acts folder path s file lines) is opens)
  where
    go : (s : Settled) → MeansUntil c.Write journals acts folder path s file lines → ⊥
    go (as_package current) never = never
    go (as_file name) never = never
    go (as_unedited reason) never = absurd (let e = never.0 in cc)

-- what was opened of a path that means something new
uses_until : (why : Cut) (journals : Bool) (world : World) (path : Bytes) (before after : List Used) (file : Option Opened) (number : Option ℕ) (lines : List Bytes)
    → (journals ≡ false → path ≡ input_package → ⊥) → package_number path before ≡ None → package_number (key_in before world.folder path) before ≡ None
    → MeansUntil why journals world.acts world.folder path (settled world.folder path) file lines
    → after ≡ before ++ record { «package» = key_in before world.folder path; file = file } ∷ [] → number ≡ option_map (λ (_ : Opened). length before) file
    → Uses why journals world path before number lines after
uses_until c.Whole journals world path before after file number lines other unknown none opens added at =
    let found = found_of world.folder (settled world.folder path) in
    let uses = used_first journals world path before after found file lines none (inr (in_folder journals path other, refl))
    (whole_as journals world.acts world.folder path (settled world.folder path) file lines opens) added in
    (length before, uses, last_place before after (key_in before world.folder path) file number added at)
uses_until c.Memory journals world path before after file number lines other unknown none opens added at =
    let closed = memory_file journals world.acts world.folder path (settled world.folder path) file lines opens in (
      unknown,
      at ∙ ap (option_map (λ (_ : Opened). length before)) closed,
      inr (
        none,
        closed_added (key_in before world.folder path) before after file added closed,
        inr (
          in_folder journals path other,
          subst (λ (f : Option Opened). MeansUntil c.Memory journals world.acts world.folder path (settled world.folder path) f lines) closed opens,
        ),
      ),
    )
uses_until c.Files journals world path before after file number lines other unknown none opens added at =
    (none, in_folder journals path other, (file, opens, added, at))
uses_until c.Read journals world path before after file number lines other unknown none opens added at = absurd (means_cut c.Read journals world.acts world.folder path (settled world.folder path) file lines (inl refl) opens)
uses_until c.Write journals world path before after file number lines other unknown none opens added at = absurd (means_cut c.Write journals world.acts world.folder path (settled world.folder path) file lines (inr refl) opens)

-- What a path means that is new was read, or memory is refused. (Its key, as the folder is.)
pub uses_read : {E : Type 0} (sink : SinkOf E) (Trusted : Type 0) (world : World) (journals : Bool) (path key : Bytes) (remaining : Option Bytes) (before after : List Used)
    (why : Cut) (file : Option Opened) (number : Option ℕ) (old new : E) → Trusted → (journals ≡ false → path ≡ input_package → ⊥)
    → package_number path before ≡ None → key ≡ key_in before world.folder path → package_number key before ≡ None
    → after ≡ before ++ record { «package» = key; file = file } ∷ [] → number ≡ option_map (λ (_ : Opened). length before) file
    → Brings sink (λ found lines. Trusted → MeansUntil why journals world.acts world.folder path (settled world.folder path) found lines) file old new
    → IsLeft world.known before remaining
    → (lines : List Bytes) × Uses why journals world path before number lines after × IsLeft world.known after remaining × ReportsLines sink old new lines
uses_read sink Trusted world journals path key remaining before after why file number old new trusted other unknown is none added at (lines, opens, told) left = (
  lines,
  uses_until why journals world path before after file number lines other unknown (subst (λ (k : Bytes). package_number k before ≡ None) is none) (opens trusted)
      (added ∙ ap (λ (k : Bytes). before ++ record { «package» = k; file = file } ∷ []) is) at,
  left_after_use world.known remaining before after (record { «package» = key; file = file }) added left,
  told,
)

-- ---- standard input

input_uses : (why : Cut) (world : World) (before after : List Used) (file : Option Opened) (number : Option ℕ) (lines : List Bytes) → package_number input_package before ≡ None
    → after ≡ before ++ record { «package» = input_package; file = file } ∷ [] → number ≡ option_map (λ (_ : Opened). length before) file
    → InputUntil why world.known file lines → Uses why false world input_package before number lines after
input_uses c.Whole world before after file number lines none added at (text, is, takes) = (
  length before,
  used_first false world input_package before after (Some (stdin, text)) file lines (subst (λ (key : Bytes). package_number key before ≡ None) key none)
      (inl (refl, refl, (text, is, refl))) takes (added ∙ ap (λ (k : Bytes). before ++ record { «package» = k; file = file } ∷ []) key),
  last_place before after input_package file number added at,
)
  where
    key : input_package ≡ key_in before world.folder input_package
    key = sym (key_input before world.folder)
input_uses c.Read world before after file number lines none added at (closed, told) = (
  refl,
  refl,
  none,
  at ∙ ap (option_map (λ (_ : Opened). length before)) closed,
  told,
  closed_added input_package before after file added closed,
)
input_uses c.Memory world before after file number lines none added at (closed, told) = (
  none,
  at ∙ ap (option_map (λ (_ : Opened). length before)) closed,
  inr (
    subst (λ (key : Bytes). package_number key before ≡ None) (sym (key_input before world.folder)) none,
    closed_added input_package before after file added closed
        ∙ ap (λ (key : Bytes). before ++ record { «package» = key; file = None } ∷ []) (sym (key_input before world.folder)),
    inl (refl, refl, told),
  ),
)
input_uses _ world before after file number lines none added at reads = absurd reads

-- it was read, or can't be
pub uses_input : {E : Type 0} (sink : SinkOf E) (world : World) (journals : Bool) (current : Bytes) (remaining left_over : Option Bytes) (before after : List Used)
    (why : Cut) (file : Option Opened) (number : Option ℕ) (old new : E) → (journals ≡ false) × (current ≡ input_package) → package_number current before ≡ None
    → after ≡ before ++ record { «package» = current; file = file } ∷ [] → number ≡ option_map (λ (_ : Opened). length before) file
    → Brings sink (InputUntil why remaining) file old new → IsLeft world.known before remaining
    → (lines : List Bytes) × Uses why journals world current before number lines after × IsLeft world.known after left_over × ReportsLines sink old new lines
uses_input sink world journals current remaining left_over before after why file number old new (plain, is) none added at (lines, reads, told) left =
    let none : package_number input_package before ≡ None = subst (λ (name : Bytes). package_number name before ≡ None) is none in
    let added = added ∙ ap (λ (name : Bytes). before ++ record { «package» = name; file = file } ∷ []) is in (
      lines,
      subst (λ (kept : Bool). Uses why kept world current before number lines after) (sym plain)
          (subst (λ (name : Bytes). Uses why false world name before number lines after) (sym is)
          (input_uses why world before after file number lines none added at (subst (λ (known : Option Bytes). InputUntil why known file lines) (left none) reads))),
      left_after_input world.known left_over before after (record { «package» = input_package; file = file }) refl added,
      told,
    )

-- ---- one step

-- the packages are as they were, but that one may have another file
abbrev pub StayBut : List Used → List Used → Type 0
StayBut before after = (after ≡ before) ⊎ ((place : ℕ) × (file : Option Opened) × (after ≡ with_opened place file before))

unkept_stays : (why : Cut) (step : RunStep) (place : ℕ) (folder folder' : Folder) (before after : Progress) (lines : List Bytes)
    → LeavesUnkept why step place folder before lines folder' after → StayBut before.used after.used
unkept_stays why step place folder folder' before after lines leaves =
    inr (place, Some (after_keeping (Err (Pair leaves.fault)) leaves.history leaves.file), ap (λ (now : Progress). now.used) leaves.state_is)

pub answers_stay : (why : Cut) (journals : Bool) (step : RunStep) (number : Option ℕ) (folder folder' : Folder) (before after : Progress) (lines : List Bytes)
    → Answers why journals step number folder before lines folder' after → StayBut before.used after.used
answers_stay c.Whole journals step None folder folder' before after lines (told, still, is) = inl (ap (λ (now : Progress). now.used) is)
answers_stay c.Whole journals step (Some place) folder folder' before after lines answers = go (left_out journals (file_at place before.used)) answers
  where
    go : (found : Option Opened) → AnswersIn journals step place found folder before lines folder' after → StayBut before.used after.used
    go None (told, still, is) = inl (ap (λ (now : Progress). now.used) is)
    go (Some file) (answer, history, leads, following, told, is) = inr (place, Some (file_after journals answer history file), ap (λ (now : Progress). now.used) is)
answers_stay c.Memory journals step (Some place) folder folder' before after lines (inl fails) = inl (ap (λ (now : Progress). now.used) fails.state_is)
answers_stay c.Memory journals step (Some place) folder folder' before after lines (inr (kept, leaves)) = unkept_stays c.Memory step place folder folder' before after lines leaves
answers_stay c.Files journals step (Some place) folder folder' before after lines (kept, leaves) = unkept_stays c.Files step place folder folder' before after lines leaves
answers_stay _ journals step number folder folder' before after lines answers = absurd answers

-- a step changes no package
pub stay_used : (why : Cut) (journals : Bool) (current : Bytes) (step : RunStep) (number : Option ℕ) (folder folder' : Folder) (before after : Progress) (lines : List Bytes)
    → Answers why journals step number folder before lines folder' after → package_number current after.used ≡ package_number current before.used
stay_used why journals current step number folder folder' before after lines answers = elim (answers_stay why journals step number folder folder' before after lines answers) [
  | inl same ↦ ap (package_number current) same
  | inr (place, file, is) ↦ ap (package_number current) is ∙ place_stays current place file before.used
]

-- What is left of standard input stays, whatever is done in an open file.
pub left_after : (why : Cut) (journals : Bool) (known remaining : Option Bytes) (step : RunStep) (number : Option ℕ) (folder folder' : Folder) (before after : Progress)
    (lines : List Bytes) → Answers why journals step number folder before lines folder' after → IsLeft known before.used remaining → IsLeft known after.used remaining
left_after why journals known remaining step number folder folder' before after lines answers left = λ none.
    left (sym (stay_used why journals input_package step number folder folder' before after lines answers) ∙ none)

pub does_so : (journals : Bool) (world : World) (step : RunStep) (before after : Progress) (used : List Used) (opened acted why : Cut) (number : Option ℕ) (name : Bytes)
    (opening answer : List Bytes) (between folder : Folder) → name ≡ step.target.«package» → Uses opened journals world name before.used number opening used
    → between ≡ world.folder → Answers acted journals step number between (record before { used = used }) answer folder after → why ≡ first_cut opened acted
    → Does why journals world step before (opening ++ answer) folder after
does_so journals world step before after used opened acted why number name opening answer between folder named uses still answers cut = record {
  opened = opened;
  acted = acted;
  number = number;
  used = used;
  opening = opening;
  answer = answer;
  uses = subst (λ (text : Bytes). Uses opened journals world text before.used number opening used) named uses;
  answers = subst (λ (f : Folder). Answers acted journals step number f (record before { used = used }) answer folder after) still answers;
  reported = refl;
  cut = cut;
}

-- ---- many steps

-- a run that has ended stays ended
stays_ended : (why : Cut) (journals : Bool) (world : World) (keep_going : Bool) (steps : List RunStep) (state after : Progress) (lines : List Bytes) (folder : Folder)
    → ends_run keep_going state ≡ true → RunsSteps why journals world keep_going steps state lines folder after
    → (why ≡ c.Whole) × (lines ≡ []) × (folder ≡ world.folder) × (after ≡ state)
stays_ended why journals world keep_going [] state after lines folder ended runs = runs
stays_ended why journals world keep_going (step ∷ steps) state after lines folder ended (inl stays) = (stays.1, stays.2, stays.3, stays.4)
stays_ended why journals world keep_going (step ∷ steps) state after lines folder ended (inr goes) = absurd (let on = goes.0 in cc)

pub ended_runs : (journals : Bool) (world : World) (keep_going : Bool) (steps : List RunStep) (state : Progress) → ends_run keep_going state ≡ true
    → RunsSteps c.Whole journals world keep_going steps state [] world.folder state
ended_runs journals world keep_going [] state ended = (refl, refl, refl, refl)
ended_runs journals world keep_going (step ∷ steps) state ended = inl (ended, refl, refl, refl, refl)

pub runs_more : (why last : Cut) (journals : Bool) (world : World) (keep_going : Bool) (xs ys : List RunStep) (state mid after : Progress) (lines more : List Bytes)
    (between folder : Folder) → RunsSteps why journals world keep_going xs state lines between mid
    → RunsSteps last journals (record world { folder = between }) keep_going ys mid more folder after
    → RunsSteps (first_cut why last) journals world keep_going (xs ++ ys) state (lines ++ more) folder after
runs_more why last journals world keep_going [] ys state mid after lines more between folder first runs =
    subst (λ (it : Cut). RunsSteps (first_cut it last) journals world keep_going ys state (lines ++ more) folder after) (sym first.0)
    (subst (λ (reported : List Bytes). RunsSteps last journals world keep_going ys state (reported ++ more) folder after) (sym first.1)
    (subst (λ (f : Folder). RunsSteps last journals (record world { folder = f }) keep_going ys state more folder after) first.2
    (subst (λ (s : Progress). RunsSteps last journals (record world { folder = between }) keep_going ys s more folder after) first.3 runs)))
runs_more why last journals world keep_going (x ∷ xs) ys state mid after lines more between folder (inl (ended, whole, told, still, same)) runs =
    let none = stays_ended last journals (record world { folder = between }) keep_going ys mid after more folder (ap (ends_run keep_going) same ∙ ended) runs in inl (
      ended,
      ap (λ (it : Cut). first_cut it last) whole ∙ none.0,
      ap (λ (reported : List Bytes). reported ++ more) told ∙ none.1,
      none.2 ∙ still,
      none.3 ∙ same,
    )
runs_more why last journals world keep_going (x ∷ xs) ys state mid after lines more between folder (inr (goes, (one, later, there, next, first, rest, does, runs, told, is))) then_runs = inr (
  goes,
  (
    one,
    first_cut later last,
    there,
    next,
    first,
    rest ++ more,
    does,
    runs_more later last journals (record world { folder = there }) keep_going xs ys next mid after rest more between folder runs then_runs,
    ap (λ (reported : List Bytes). reported ++ more) told ∙ append_assoc first rest more,
    ap (λ (it : Cut). first_cut it last) is ∙ cuts_assoc one later last,
  ),
)

pub one_runs : (why : Cut) (journals : Bool) (world : World) (keep_going : Bool) (step : RunStep) (state after : Progress) (lines : List Bytes) (folder : Folder)
    → ends_run keep_going state ≡ false → Does why journals world step state lines folder after → RunsSteps why journals world keep_going (step ∷ []) state lines folder after
one_runs why journals world keep_going step state after lines folder on does =
    inr (on, (why, c.Whole, folder, after, lines, [], does, (refl, refl, refl, refl), sym (append-nil lines), sym (cut_alone why)))
