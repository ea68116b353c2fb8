-- What is held under the names of the files of different packages, and what stays as it was when the run began.
use Rattle.bz_buildozer.proofs.Words.{[], ◌++◌, ◌||◌, ◌∙◌, ◌∷◌, ◌≡◌, ◌≢◌, ◌⊎◌, AllAre, ap, as_file, as_package, as_unedited, Bool, Bytes, bytes_eq, bytes_eq-Decides, eqb_tells, Err, false, file_at, file_of_journal, first_name, Folder, folder_of, found_at, found_in, found_of, found_second, get, History, Holds, IfSome, if◌then◌else◌, inl, input_package, inr, is_kept_name, is_own_name, is_some, IsApart, IsApartFrom, IsAside, IsNameOf, IsRecordedBy, journal_name, JournalFault, JournalGives, key_in, key_of, List, list_any, new_name, None, Ok, Opened, OpensAs, Option, option_map_or, or_parts, OthersStay, package_number, PackagesFound, present, refl, Result, second_name, Settled, settled, Some, stands, subst, suc, sym, TakesBeside, text_at, true, true≢false, unwrap_or, Used, with_opened, zero, ℕ}
use Rattle.bz_buildozer.proofs.{ActSteps.file_put, FileNames.file_there, FileNames.folder_first, FileNames.folder_second, FileNames.journal_is, FileNames.journal_not_new, FileNames.named_plain, FileNames.new_is, FileNames.not_kept, FileNames.packages_apart, FileNames.settled_stays, ReadSteps.stands_text, PlaceSteps.none_here}

-- ---- packages

pub not_input : (name : Bytes) → bytes_eq name input_package ≡ false → name ≢ input_package
not_input name differs same = true≢false (sym ((bytes_eq-Decides name input_package).1 same) ∙ differs)

-- the file of a package, by what the folder has of its two names
pub found_by : (folder : Folder) (current : Bytes) (one two : Option Bytes) → get folder (first_name current) ≡ one → get folder (second_name current) ≡ two
    → found_in folder current ≡ found_at (first_name current) one (found_at (second_name current) two None)
found_by folder current one two first second =
    ap (λ (bytes : Option Bytes). found_at (first_name current) bytes (found_at (second_name current) (get folder (second_name current)) None)) first
    ∙ ap (λ (bytes : Option Bytes). found_at (first_name current) one (found_at (second_name current) bytes None)) second

pub second_holds : (folder : Folder) (current name text : Bytes) → found_second folder current ≡ Some (name, text)
    → IsNameOf current name × (get folder name ≡ Some text) × (folder_of name ≡ current)
second_holds folder current name text is = go (get folder (second_name current)) refl is
  where
    go : (held : Option Bytes) → get folder (second_name current) ≡ held → found_at (second_name current) held None ≡ Some (name, text)
        → IsNameOf current name × (get folder name ≡ Some text) × (folder_of name ≡ current)
    go (Some bytes) there is =
        let named : second_name current ≡ name = ap (λ (found : Option PackagesFound). (unwrap_or found ([], [])).0) is in (
          inr (inl (sym named)),
          ap (get folder) (sym named) ∙ there ∙ ap (λ (found : Option PackagesFound). Some (unwrap_or found ([], [])).1) is,
          ap folder_of (sym named) ∙ folder_second current,
        )
    go None there is = absurd (cc is)

pub found_holds : (folder : Folder) (current name text : Bytes) → found_in folder current ≡ Some (name, text)
    → IsNameOf current name × (get folder name ≡ Some text) × (folder_of name ≡ current)
found_holds folder current name text is = go (get folder (first_name current)) refl is
  where
    go : (held : Option Bytes) → get folder (first_name current) ≡ held → found_at (first_name current) held (found_second folder current) ≡ Some (name, text)
        → IsNameOf current name × (get folder name ≡ Some text) × (folder_of name ≡ current)
    go (Some bytes) there is =
        let named : first_name current ≡ name = ap (λ (found : Option PackagesFound). (unwrap_or found ([], [])).0) is in (
          inl (sym named),
          ap (get folder) (sym named) ∙ there ∙ ap (λ (found : Option PackagesFound). Some (unwrap_or found ([], [])).1) is,
          ap folder_of (sym named) ∙ folder_first current,
        )
    go None there is = second_holds folder current name text is

pub apart_from : (current : Bytes) (used : List Used) → package_number current used ≡ None → IsApart current used
apart_from current [] none = tt
apart_from current (used ∷ more) none =
    let both = none_here current used more none in
    ((λ is. true≢false (sym ((bytes_eq-Decides used.«package» current).1 is) ∙ both.0)), apart_from current more both.1)

pub apart_last : (current : Bytes) (used : List Used) (one : Used) → IsApart current used → one.«package» ≢ current → IsApart current (used ++ one ∷ [])
apart_last current [] one apart other = (other, tt)
apart_last current (used ∷ more) one apart other = (apart.0, apart_last current more one apart.1 other)

pub apart_kept : (current : Bytes) (place : ℕ) (file : Option Opened) (used : List Used) → IsApart current used → IsApart current (with_opened place file used)
apart_kept current place file [] apart = tt
apart_kept current zero file (used ∷ more) apart = apart
apart_kept current (suc place) file (used ∷ more) apart = (apart.0, apart_kept current place file more apart.1)

-- ---- what holds of each open file

may_be : (P Q : Bytes → Opened → Type 0) (current : Bytes) (found : Option Opened) → ((file : Opened) → P current file → Q current file)
    → IfSome found (P current) → IfSome found (Q current)
may_be P Q current None more is = tt
may_be P Q current (Some file) more is = more file is

pub all_last : (P : Bytes → Opened → Type 0) (used : List Used) (one : Used) → AllAre P used → IfSome one.file (P one.«package») → IsApart one.«package» used
    → AllAre P (used ++ one ∷ [])
all_last P [] one all is apart = (is, tt, tt)
all_last P (used ∷ more) one all is apart =
    (all.0, apart_last used.«package» more one all.1 (λ same. apart.0 (sym same)), all_last P more one all.2 is apart.1)

-- the package of an open file, from which all differ that differ from each
pub all_at : (P : Bytes → Opened → Type 0) (place : ℕ) (used : List Used) (file : Opened) → file_at place used ≡ Some file → AllAre P used
    → (current : Bytes) × P current file × ((other : Bytes) → IsApart other used → current ≢ other)
all_at P place [] file at all = absurd (let e = at in cc)
all_at P zero (used ∷ more) file at all =
    (used.«package», subst (λ (it : Option Opened). IfSome it (P used.«package»)) at all.0, λ other apart. apart.0)
all_at P (suc place) (used ∷ more) file at all =
    let found = all_at P place more file at all.2 in (found.0, found.1, λ other apart. found.2 other apart.1)

all_others : (P Q : Bytes → Opened → Type 0) (current : Bytes) (used : List Used) → IsApart current used
    → ((other : Bytes) (file : Opened) → other ≢ current → P other file → Q other file) → AllAre P used → AllAre Q used
all_others P Q current [] apart others all = tt
all_others P Q current (used ∷ more) apart others all = (
  may_be P Q used.«package» used.file (λ file. others used.«package» file apart.0) all.0,
  all.1,
  all_others P Q current more apart.1 others all.2,
)

-- An open file is exchanged, and of the files of other packages holds what is to.
pub all_after : (P Q : Bytes → Opened → Type 0) (place : ℕ) (used : List Used) (file next : Opened) → file_at place used ≡ Some file
    → ((current : Bytes) → P current file → Q current next)
    → ((current other : Bytes) (it : Opened) → P current file → other ≢ current → P other it → Q other it) → AllAre P used
    → AllAre Q (with_opened place (Some next) used)
all_after P Q place [] file next at this others all = tt
all_after P Q zero (used ∷ more) file next at this others all =
    let stood : P used.«package» file = subst (λ (it : Option Opened). IfSome it (P used.«package»)) at all.0 in (
      this used.«package» stood,
      all.1,
      all_others P Q used.«package» more all.1 (λ other it. others used.«package» other it stood) all.2,
    )
all_after P Q (suc place) (used ∷ more) file next at this others all =
    let found = all_at P place more file at all.2 in (
      may_be P Q used.«package» used.file (λ it. others found.0 used.«package» it found.1 (λ same. found.2 used.«package» all.1 (sym same))) all.0,
      apart_kept used.«package» place (Some next) more all.1,
      all_after P Q place more file next at this others all.2,
    )

-- ---- names of a run

-- no open file of these has this name, and no journal of one
abbrev pub IsUnlike : List Used → Bytes → Type 0
IsUnlike used name = (place : ℕ) (file : Opened) → file_at place used ≡ Some file → (name ≢ file.name) × (name ≢ journal_name file.name)

-- each other name but those set aside is as it was when the run began
abbrev pub OthersAre : Folder → List Used → Folder → Type 0
OthersAre began used folder = (name : Bytes) → IsUnlike used name → (IsAside name → ⊥) → get folder name ≡ get began name

pub file_in_front : (place : ℕ) (used : List Used) (one : Used) (file : Opened) → file_at place used ≡ Some file → file_at place (used ++ one ∷ []) ≡ Some file
file_in_front place [] one file at = absurd (let e = at in cc)
file_in_front zero (used ∷ more) one file at = at
file_in_front (suc place) (used ∷ more) one file at = file_in_front place more one file at

-- an open file is one of those before, or the last
pub last_or : (place : ℕ) (used : List Used) (one : Used) (file : Opened) → file_at place (used ++ one ∷ []) ≡ Some file → (file_at place used ≡ Some file) ⊎ (one.file ≡ Some file)
last_or zero [] one file at = inr at
last_or (suc place) [] one file at = absurd (let e = at in cc)
last_or zero (used ∷ more) one file at = inl at
last_or (suc place) (used ∷ more) one file at = last_or place more one file at

pub other_at : (place at : ℕ) (file : Option Opened) (used : List Used) → at ≢ place → file_at at (with_opened place file used) ≡ file_at at used
other_at place at file [] differ = refl
other_at zero zero file (one ∷ more) differ = absurd (differ refl)
other_at zero (suc at) file (one ∷ more) differ = refl
other_at (suc place) zero file (one ∷ more) differ = refl
other_at (suc place) (suc at) file (one ∷ more) differ = other_at place at file more (λ same. differ (ap suc same))

pub one_file : (found : Option Opened) (one other : Opened) → found ≡ Some one → found ≡ Some other → one ≡ other
one_file found one other is also = ap (λ (it : Option Opened). unwrap_or it one) (sym is ∙ also)

-- a name that is unlike those after a step is unlike those before it
pub unlike_put : (place : ℕ) (before after : List Used) (file next : Opened) → file_at place before ≡ Some file → after ≡ with_opened place (Some next) before
    → next.name ≡ file.name → (name : Bytes) → IsUnlike after name → IsUnlike before name × ((name ≢ file.name) × (name ≢ journal_name file.name))
unlike_put place before after file next there put named name unlike = (
  (λ at one here. elim (eqb_tells at place) [
    | inl same ↦
        let is : one ≡ file = one_file (file_at place before) one file (subst (λ (n : ℕ). file_at n before ≡ Some one) same.1 here) there in (
          (λ e. apart.0 (e ∙ ap (λ (f : Opened). f.name) is ∙ sym named)),
          (λ e. apart.1 (e ∙ ap (λ (f : Opened). journal_name f.name) is ∙ ap journal_name (sym named))),
        )
    | inr other ↦ unlike at one (ap (file_at at) put ∙ other_at place at (Some next) before other.1 ∙ here)
  ]),
  ((λ e. apart.0 (e ∙ sym named)), (λ e. apart.1 (e ∙ ap journal_name (sym named)))),
)
  where
    apart : (name ≢ next.name) × (name ≢ journal_name next.name)
    apart = unlike place next (file_put place before after file next there put)

module _ (P : Bytes → Opened → Type 0) (is_named : (current : Bytes) (file : Opened) → P current file → IsNameOf current file.name) where
  -- files of two places are of two packages
  pub two_apart : (place at : ℕ) (used : List Used) (file other : Opened) → file_at place used ≡ Some file → file_at at used ≡ Some other → at ≢ place → AllAre P used
      → IsApartFrom file.name other.name × IsApartFrom file.name (journal_name other.name)
  two_apart place at [] file other here there differ all = absurd (let e = here in cc)
  two_apart zero zero (used ∷ more) file other here there differ all = absurd (differ refl)
  two_apart zero (suc at) (used ∷ more) file other here there differ all =
      let second = all_at P at more other there all.2 in
      let named : IsNameOf used.«package» file.name = is_named used.«package» file (subst (λ (it : Option Opened). IfSome it (P used.«package»)) here all.0) in
      packages_apart second.0 used.«package» other.name file.name (second.2 used.«package» all.1) (is_named second.0 other second.1) named
  two_apart (suc place) zero (used ∷ more) file other here there differ all =
      let second = all_at P place more file here all.2 in
      let named : IsNameOf used.«package» other.name = is_named used.«package» other (subst (λ (it : Option Opened). IfSome it (P used.«package»)) there all.0) in
      packages_apart used.«package» second.0 other.name file.name (λ same. second.2 used.«package» all.1 (sym same)) named (is_named second.0 file second.1)
  two_apart (suc place) (suc at) (used ∷ more) file other here there differ all =
      two_apart place at more file other here there (λ same. differ (ap suc same)) all.2

  -- a file of a package that is not used, and its journal, are as they were when the run began
  pub as_begun : (began folder : Folder) (current name : Bytes) (used : List Used) → IsNameOf current name → IsApart current used → AllAre P used
      → OthersAre began used folder → (get folder name ≡ get began name) × (get folder (journal_name name) ≡ get began (journal_name name))
  as_begun began folder current name used named apart all others = (
    others name (λ place file at. let is = (apart_of place file at).0 in (is.file_is, is.journal)) (λ aside. not_kept name (new_name aside.0) (named_plain current name named) (new_is aside.0) aside.1),
    others (journal_name name) (λ place file at. let is = (apart_of place file at).1 in (is.file_is, is.journal)) (λ aside. journal_not_new name aside.0 aside.1),
  )
    where
      apart_of : (place : ℕ) (file : Opened) → file_at place used ≡ Some file → IsApartFrom file.name name × IsApartFrom file.name (journal_name name)
      apart_of place file at =
          let found = all_at P place used file at all in
          packages_apart current found.0 name file.name (λ same. found.2 current apart (sym same)) named (is_named found.0 file found.1)

-- the name of a file, and that of its journal, are none of those that keeping the file of another package replaces
pub names_stay : (folder now : Folder) (current other name file : Bytes) → IsNameOf current name → other ≢ current → IsNameOf other file → OthersStay name folder now
    → (get now file ≡ get folder file) × (get now (journal_name file) ≡ get folder (journal_name file))
names_stay folder now current other name file named differs is stay =
    let apart = packages_apart other current file name differs is named in (
      stay file apart.0.file_is apart.0.journal apart.0.new apart.0.new_journal,
      stay (journal_name file) apart.1.file_is apart.1.journal apart.1.new apart.1.new_journal,
    )

-- ---- a file that is opened

-- what records the texts of a file stays where its journal does
pub reported_still : (old now : Folder) (name current text : Bytes) (texts : List Bytes) → get now (journal_name name) ≡ get old (journal_name name)
    → IsRecordedBy old name current text texts → IsRecordedBy now name current text texts
reported_still old now name current text texts same (inl (none, alone)) = inl (same ∙ none, alone)
reported_still old now name current text texts same (inr (bytes, h, es, place, there, reports, of, is, at)) =
    inr (bytes, h, es, place, same ∙ there, reports, of, is, at)

pub holds_still : (folder now : Folder) (name current text : Bytes) (texts : List Bytes) → get now name ≡ get folder name
    → get now (journal_name name) ≡ get folder (journal_name name) → Holds folder name current text texts → Holds now name current text texts
holds_still folder now name current text texts same journal holds =
    record { holds = same ∙ holds.holds; history = reported_still folder now name current text texts journal holds.history }

-- an open file of a package has a name of it and isn't left alone; it holds its present text and goes on with its history
abbrev pub IsHeld : Folder → Bytes → Opened → Type 0
IsHeld folder current file =
    IsNameOf current file.name × (file.left ≡ false) × Holds folder file.name file.history.«package» (present file.history) file.history.texts

-- (The package by which the file is known, and that of its labels.)
given_stands : (folder : Folder) (key current name text bytes : Bytes) (given : Result History JournalFault) → IsNameOf key name → get folder name ≡ Some text
    → get folder (journal_name name) ≡ Some bytes → JournalGives current bytes text given → IfSome (file_of_journal name text given) (IsHeld folder key)
given_stands folder key current name text bytes (Err fault) named there beside comes = tt
given_stands folder key current name text bytes (Ok history) named there beside (h, at, ((es, journal), stood), of, is) =
    let here : text_at h at ≡ text = stands_text h text at stood in
    let goes : Holds folder name h.«package» (text_at h at) h.texts = record {
      holds = there ∙ ap Some (sym here);
      history = inr (bytes, h, es, at, beside, journal, refl, refl, ap (stands h) here ∙ stood);
    } in (named, refl, subst (λ (it : History). Holds folder name it.«package» (present it) it.texts) (sym is) goes)

pub takes_stand : (folder : Folder) (key current name text : Bytes) (journal : Option Bytes) (file : Option Opened) (lines : List Bytes) → IsNameOf key name
    → get folder name ≡ Some text → get folder (journal_name name) ≡ journal → TakesBeside journal current name text file lines → IfSome file (IsHeld folder key)
takes_stand folder key current name text None file lines named there beside (inl opens) =
    subst (λ (it : Option Opened). IfSome it (IsHeld folder key)) (sym opens.1) (named, refl, record { holds = there; history = inl (beside, refl) })
takes_stand folder key current name text None file lines named there beside (inr (fault, refused, is, reported)) =
    subst (λ (it : Option Opened). IfSome it (IsHeld folder key)) (sym is) tt
takes_stand folder key current name text (Some bytes) file lines named there beside (given, comes, is, reported) =
    subst (λ (it : Option Opened). IfSome it (IsHeld folder key)) (sym is) (given_stands folder key current name text bytes given named there beside comes)

-- ---- what a path means

-- the file of this name is found
pub own_holds : (folder : Folder) (file name text : Bytes) → found_of folder (as_file file) ≡ Some (name, text) → (name ≡ file) × (get folder name ≡ Some text)
own_holds folder file name text is = go (get folder file) refl is
  where
    go : (held : Option Bytes) → get folder file ≡ held → found_at file held None ≡ Some (name, text) → (name ≡ file) × (get folder name ≡ Some text)
    go (Some bytes) there is =
        let named : file ≡ name = ap (λ (found : Option PackagesFound). (unwrap_or found ([], [])).0) is in
        (sym named, ap (get folder) (sym named) ∙ there ∙ ap (λ (found : Option PackagesFound). Some (unwrap_or found ([], [])).1) is)
    go None there is = absurd (cc is)

-- that is its name
pub own_named : (folder : Folder) (path name : Bytes) → settled folder path ≡ as_file name → IsNameOf name name
own_named folder path name is =
    let there = file_there folder path name is in inr (inr (refl, subst (λ (n : Bytes). is_own_name n ≡ true) (sym there.0) there.2))

-- what was found is held
pub means_held : (folder : Folder) (path : Bytes) (s : Settled) (found : Option PackagesFound) (file : Option Opened) (lines : List Bytes) → settled folder path ≡ s
    → found_of folder s ≡ found → OpensAs true folder path s found file lines → IfSome file (IsHeld folder (key_of path s))
means_held folder path (as_package current) None file lines is at opens = subst (λ (it : Option Opened). IfSome it (IsHeld folder current)) (sym opens.0) tt
means_held folder path (as_package current) (Some there) file lines is at opens =
    let it = found_holds folder current there.0 there.1 at in
    takes_stand folder current current there.0 there.1 (get folder (journal_name there.0)) file lines it.0 it.1 refl opens
means_held folder path (as_file name) None file lines is at opens = absurd opens
means_held folder path (as_file name) (Some there) file lines is at opens =
    let it = own_holds folder name there.0 there.1 at in
    takes_stand folder name (folder_of there.0) there.0 there.1 (get folder (journal_name there.0)) file lines
    (subst (IsNameOf name) (sym it.0) (own_named folder path name is)) it.1 refl opens
means_held folder path (as_unedited why) found file lines is at opens = subst (λ (it : Option Opened). IfSome it (IsHeld folder path)) (sym opens.0) tt

-- ---- what a run knows a path by

module _ (used : List Used) where
  key_by : (folder : Folder) (path : Bytes) (found : Option ℕ) → package_number path used ≡ found → key_in used folder path ≡ (if is_some found then path else key_of path (settled folder path))
  key_by folder path found is = ap (λ (it : Option ℕ). if is_some it then path else key_of path (settled folder path)) is

  pub key_known : (folder : Folder) (path : Bytes) (place : ℕ) → package_number path used ≡ Some place → key_in used folder path ≡ path
  key_known folder path place = key_by folder path (Some place)

  pub key_unknown : (folder : Folder) (path : Bytes) → package_number path used ≡ None → key_in used folder path ≡ key_of path (settled folder path)
  key_unknown folder path = key_by folder path None

  -- one that is new is what the path is settled to
  pub key_new : (folder : Folder) (path : Bytes) → package_number (key_in used folder path) used ≡ None → key_in used folder path ≡ key_of path (settled folder path)
  key_new folder path none = go (package_number path used) refl
    where
      go : (found : Option ℕ) → package_number path used ≡ found → key_in used folder path ≡ key_of path (settled folder path)
      go None is = key_unknown folder path is
      go (Some place) is =
          absurd (let known = sym (ap (λ (key : Bytes). package_number key used) (key_known folder path place is) ∙ is) ∙ none in cc)

  pub key_same : (folder began : Folder) (path : Bytes) → settled folder path ≡ settled began path → key_in used folder path ≡ key_in used began path
  key_same folder began path = ap (λ (it : Settled). if is_some (package_number path used) then path else key_of path it)

  pub key_input : (folder : Folder) → key_in used folder input_package ≡ input_package
  key_input folder = go (is_some (package_number input_package used))
    where
      go : (b : Bool) → (if b then input_package else key_of input_package (settled folder input_package)) ≡ input_package
      go true = refl
      go false = refl

  pub key_of_input : (folder : Folder) (path : Bytes) → path ≡ input_package → key_in used folder path ≡ input_package
  key_of_input folder path is = ap (key_in used folder) is ∙ key_input folder

-- ---- which files are there, during a run as when it began

-- each open file was there when the run began
abbrev pub WereThere : Folder → List Used → Type 0
WereThere began used = (place : ℕ) (file : Opened) → file_at place used ≡ Some file → is_some (get began file.name) ≡ true

abbrev pub is_named : Bytes → Used → Bool
is_named name used = option_map_or (λ (file : Opened). bytes_eq name file.name) used.file false

pub not_named : (name : Bytes) (used : List Used) → list_any (is_named name) used ≡ false → (place : ℕ) (file : Opened) → file_at place used ≡ Some file → name ≢ file.name
not_named name [] none place file at = absurd (let e = at in cc)
not_named name (used ∷ more) none zero file at = λ same.
    let is = ap (λ (found : Option Opened). option_map_or (λ (it : Opened). bytes_eq name it.name) found false) at ∙ (bytes_eq-Decides name file.name).1 same in
    true≢false (sym is ∙ (or_parts (is_named name used) (list_any (is_named name) more) none).0)
not_named name (used ∷ more) none (suc place) file at =
    not_named name more (or_parts (is_named name used) (list_any (is_named name) more) none).1 place file at

-- an open file of this name
abbrev NamedAt : Bytes → List Used → Type 0
NamedAt name used = (place : ℕ) × (file : Opened) × (file_at place used ≡ Some file) × (name ≡ file.name)

named_later : (name : Bytes) (used : Used) (more : List Used) → NamedAt name more → NamedAt name (used ∷ more)
named_later name used more (place, file, at, same) = (suc place, file, at, same)

named_at : (name : Bytes) (used : List Used) → list_any (is_named name) used ≡ true → NamedAt name used
named_at name [] is = absurd (true≢false (sym is))
named_at name (used ∷ more) is = go used.file refl is (named_at name more)
  where
    by_name : (file : Opened) → used.file ≡ Some file → (b : Bool) → bytes_eq name file.name ≡ b → b || list_any (is_named name) more ≡ true
        → (list_any (is_named name) more ≡ true → NamedAt name more) → NamedAt name (used ∷ more)
    by_name file at true same is rest = (0, file, at, (bytes_eq-Decides name file.name).0 same)
    by_name file at false same is rest = named_later name used more (rest is)

    go : (found : Option Opened) → used.file ≡ found → option_map_or (λ (file : Opened). bytes_eq name file.name) found false || list_any (is_named name) more ≡ true
        → (list_any (is_named name) more ≡ true → NamedAt name more) → NamedAt name (used ∷ more)
    go None at is rest = named_later name used more (rest is)
    go (Some file) at is rest = by_name file at (bytes_eq name file.name) refl is rest

module _ (began folder : Folder) (used : List Used) (here : WereThere folder used) (were : WereThere began used) (others : OthersAre began used folder) where
  pub there_still : (name : Bytes) → is_kept_name name ≡ false → is_some (get folder name) ≡ is_some (get began name)
  there_still name plain = go (list_any (is_named name) used) refl
    where
      go : (b : Bool) → list_any (is_named name) used ≡ b → is_some (get folder name) ≡ is_some (get began name)
      go true is =
          let it = named_at name used is in
          ap (λ (n : Bytes). is_some (get folder n)) it.3 ∙ here it.0 it.1 it.2 ∙ sym (ap (λ (n : Bytes). is_some (get began n)) it.3 ∙ were it.0 it.1 it.2)
      go false is = ap (λ (held : Option Bytes). is_some held) (others name
          (λ place file at. (not_named name used is place file at, not_kept name (journal_name file.name) plain (journal_is file.name)))
          (λ aside. not_kept name (new_name aside.0) plain (new_is aside.0) aside.1))

  -- What a path means is as when the run began.
  pub settled_begun : (path : Bytes) → settled folder path ≡ settled began path
  settled_begun = settled_stays folder began there_still

  pub key_begun : (path : Bytes) → key_in used folder path ≡ key_in used began path
  key_begun path = key_same used folder began path (settled_begun path)

  -- one more that is there is there when the run began
  pub more_were : (key : Bytes) (file : Option Opened) → IfSome file (λ it. IsNameOf key it.name × (is_some (get folder it.name) ≡ true))
      → WereThere began (used ++ record { «package» = key; file = file } ∷ [])
  more_were key file is place it at = elim (last_or place used (record { «package» = key; file = file }) it at) [
    | inl before ↦ were place it before
    | inr last ↦
        let one = subst (λ (found : Option Opened). IfSome found (λ it. IsNameOf key it.name × (is_some (get folder it.name) ≡ true))) last is in
        sym (there_still it.name (named_plain key it.name one.0)) ∙ one.1
  ]

-- an open file is exchanged for one of its name
pub put_were : (began : Folder) (place : ℕ) (used : List Used) (file next : Opened) → file_at place used ≡ Some file → next.name ≡ file.name → WereThere began used
    → WereThere began (with_opened place (Some next) used)
put_were began place used file next there named were at one here = elim (eqb_tells at place) [
  | inl same ↦
      let is : next ≡ one = one_file (file_at place (with_opened place (Some next) used)) next one (file_put place used (with_opened place (Some next) used) file next there refl)
      (subst (λ (n : ℕ). file_at n (with_opened place (Some next) used) ≡ Some one) same.1 here) in
      ap (λ (n : Bytes). is_some (get began n)) (ap (λ (f : Opened). f.name) (sym is) ∙ named) ∙ were place file there
  | inr other ↦ were at one (sym (other_at place at (Some next) used other.1) ∙ here)
]
