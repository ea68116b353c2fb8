-- The packages of a run by their numbers, their files, and how a package is used.
use Rattle.bz_buildozer.proofs.Words.{[], ◌++◌, ◌+◌, ◌<◌, ◌||◌, ◌∙◌, ◌∷◌, ◌≡◌, ap, arith, Bool, Bytes, bytes_eq, bytes_eq-Decides, cond, false, file_at, get_or, Global, IfSome, if◌then◌else◌, input_package, is_ok, is_some, IsInput, IsLeft, IsSome, length, length-map, limit, List, list_any, map, map-append, None, Ok, Opened, opened_in, Option, option_map, or_from, package_number, packages_of, position, position_from, refl, Result, slice_get, slice_set, Some, subst, suc, sym, take, Takes, texts_of_keys, true, true≢false, Used, used_in, Vec, with_opened, zero, ℕ}
use Rattle.std.proofs.lemmas.Iterator.Adapters.{position_from-zero}
use Rattle.indexmap.specs.IndexSet.{insert_key}
use Rattle.bz_buildozer.specs.declared.used.Opened as o
use Rattle.bz_buildozer.specs.declared.used.Used as d
use Rattle.bz_buildozer.proofs.ReadSteps.{front_takes}

-- ---- the number of a package, by its key

abbrev Key : Type 0
Key = Vec ℕ Global

abbrev key_eq : Key → Key → Bool
key_eq one other = bytes_eq one.items other.items

both_ways : (p q : Bool) → (p ≡ true → q ≡ true) → (q ≡ true → p ≡ true) → p ≡ q
both_ways true q there back = sym (there refl)
both_ways false true there back = absurd (true≢false (sym (back refl)))
both_ways false false there back = refl

eq_turn : (one other : Bytes) → bytes_eq one other ≡ bytes_eq other one
eq_turn one other = both_ways (bytes_eq one other) (bytes_eq other one)
    (λ h. (bytes_eq-Decides other one).1 (sym ((bytes_eq-Decides one other).0 h)))
    (λ h. (bytes_eq-Decides one other).1 (sym ((bytes_eq-Decides other one).0 h)))

-- ---- the place of a key

by_keys : (name : Bytes) (i : ℕ) (keys : List Key)
    → position_from (λ (key : Key). bytes_eq name key.items) i keys ≡ position_from (bytes_eq name) i (texts_of_keys keys)
by_keys name i [] = refl
by_keys name i (key ∷ keys) = ap (λ (found : Option ℕ). cond (bytes_eq name key.items) (Some i) found) (by_keys name (i + 1) keys)

found_step : (b : Bool) (i : ℕ) (found : Option ℕ)
    → cond b (Some i) (option_map (λ place. place + (i + 1)) found) ≡ option_map (λ place. place + i) (if b then Some 0 else option_map (λ place. place + 1) found)
found_step true i found = ap (λ (n : ℕ). Some n) (omega arith)
found_step false i None = refl
found_step false i (Some place) = ap (λ (n : ℕ). Some n) (omega arith)

by_packages : (name : Bytes) (i : ℕ) (used : List Used)
    → position_from (bytes_eq name) i (packages_of used) ≡ option_map (λ place. place + i) (package_number name used)
by_packages name i [] = refl
by_packages name i (one ∷ more) =
    ap (λ (found : Option ℕ). cond (bytes_eq name one.package) (Some i) found) (by_packages name (i + 1) more)
    ∙ (ap (λ (b : Bool). cond b (Some i) (option_map (λ place. place + (i + 1)) (package_number name more))) (eq_turn name one.package)
    ∙ found_step (bytes_eq one.package name) i (package_number name more))

from_none : (found : Option ℕ) → option_map (λ place. place + 0) found ≡ found
from_none None = refl
from_none (Some place) = ap (λ (n : ℕ). Some n) (omega arith)

pub place_found : (keys : List Key) (name : Bytes) (used : List Used) → texts_of_keys keys ≡ packages_of used
    → position (λ (key : Key). bytes_eq name key.items) keys ≡ package_number name used
place_found keys name used same =
    position_from-zero (λ (key : Key). bytes_eq name key.items) keys
    ∙ (by_keys name 0 keys ∙ (ap (position_from (bytes_eq name) 0) same ∙ (by_packages name 0 used ∙ from_none (package_number name used))))

-- A package that has no number is none of these.
pub none_here : (current : Bytes) (one : Used) (more : List Used) → package_number current (one ∷ more) ≡ None
    → (bytes_eq one.package current ≡ false) × (package_number current more ≡ None)
none_here current one more none = go (bytes_eq one.package current) (package_number current more) none
  where
    go : (b : Bool) (found : Option ℕ) → (if b then Some 0 else option_map (λ place. place + 1) found) ≡ None → (b ≡ false) × (found ≡ None)
    go true found is = absurd (cc)
    go false None is = (refl, refl)
    go false (Some place) is = absurd (cc)

-- ---- a key more

any_keys : (name : Bytes) (keys : List Key) → list_any (λ (key : Key). bytes_eq name key.items) keys ≡ list_any (bytes_eq name) (texts_of_keys keys)
any_keys name [] = refl
any_keys name (key ∷ keys) = ap (λ b. bytes_eq name key.items || b) (any_keys name keys)

absent : (name : Bytes) (used : List Used) → package_number name used ≡ None → list_any (bytes_eq name) (packages_of used) ≡ false
absent name [] h = refl
absent name (one ∷ more) h =
    let both = none_here name one more h in
    or_from (bytes_eq name one.package) (list_any (bytes_eq name) (packages_of more)) (eq_turn name one.package ∙ both.0) (absent name more both.1)

inserted : (b : Bool) (keys : List Key) (key : Key) → b ≡ false → texts_of_keys (if b then keys else keys ++ key ∷ []) ≡ texts_of_keys keys ++ key.items ∷ []
inserted true keys key h = absurd (true≢false h)
inserted false keys key h = map-append (λ (k : Key). k.items) keys (key ∷ [])

pub key_added : (keys new : List Key) (key : Key) (name : Bytes) (used : List Used) → key.items ≡ name → texts_of_keys keys ≡ packages_of used
    → package_number name used ≡ None → new ≡ insert_key key_eq keys key → texts_of_keys new ≡ texts_of_keys keys ++ name ∷ []
key_added keys new key name used named same none is =
    let lacks : list_any (key_eq key) keys ≡ false =
    any_keys key.items keys ∙ (ap (λ (text : Bytes). list_any (bytes_eq text) (texts_of_keys keys)) named
    ∙ (ap (list_any (bytes_eq name)) same ∙ absent name used none)) in
    ap texts_of_keys is ∙ (inserted (list_any (key_eq key) keys) keys key lacks ∙ ap (λ (text : Bytes). texts_of_keys keys ++ text ∷ []) named)

-- ---- the files of packages, by their numbers

pub put_in : (items : List d.Used) (place : ℕ) (there default new : d.Used) (file : Option Opened) → there ≡ get_or items place default
    → used_in new ≡ record (used_in there) { file = file } → map used_in (slice_set items place new) ≡ with_opened place file (map used_in items)
put_in [] place there default new file is put = refl
put_in (one ∷ more) zero there default new file is put =
    ap (λ (x : Used). x ∷ map used_in more) (put ∙ ap (λ (x : d.Used). record (used_in x) { file = file }) is)
put_in (one ∷ more) (suc place) there default new file is put = ap (λ (rest : List Used). used_in one ∷ rest) (put_in more place there default new file is put)

pub put : (items : List d.Used) (place : ℕ) (there default : d.Used) (file : Option o.Opened) → there ≡ get_or items place default
    → map used_in (slice_set items place (record there { file = file })) ≡ with_opened place (option_map opened_in file) (map used_in items)
put items place there default file is = put_in items place there default (record there { file = file }) (option_map opened_in file) is refl

-- the file of a package that is open
some_in : (file : Option o.Opened) → IsSome (option_map opened_in file) → IsSome file
some_in None is = is
some_in (Some file) is = refl

pub is_open : (items : List d.Used) (place : ℕ) (there default : d.Used) → there ≡ get_or items place default → IsSome (file_at place (map used_in items))
    → IsSome there.file
is_open [] place there default same is = absurd (true≢false (sym is))
is_open (one ∷ more) zero there default same is = ap (λ (x : d.Used). is_some x.file) same ∙ some_in one.file is
is_open (one ∷ more) (suc place) there default same is = is_open more place there default same is

pub file_in : (items : List d.Used) (place : ℕ) (there default : d.Used) → there ≡ get_or items place default → IsSome (file_at place (map used_in items))
    → file_at place (map used_in items) ≡ option_map opened_in there.file
file_in [] place there default same is = absurd (true≢false (sym is))
file_in (one ∷ more) zero there default same is = ap (λ (x : d.Used). option_map opened_in x.file) (sym same)
file_in (one ∷ more) (suc place) there default same is = file_in more place there default same is

-- the file of a package, by what is in the list
abbrev pub file_of : Option d.Used → Option Opened
file_of None = None
file_of (Some one) = option_map opened_in one.file

file_shown : (items : List d.Used) (place : ℕ) → file_at place (map used_in items) ≡ file_of (slice_get items place)
file_shown [] zero = refl
file_shown [] (suc place) = refl
file_shown (one ∷ more) zero = refl
file_shown (one ∷ more) (suc place) = file_shown more place

open_place : (place : ℕ) (file : Option o.Opened) (there : Bool) → there ≡ is_some file
    → cond there (Some place) None ≡ option_map (λ (_ : Opened). place) (option_map opened_in file)
open_place place None there is = ap (λ (b : Bool). cond b (Some place) None) is
open_place place (Some file) there is = ap (λ (b : Bool). cond b (Some place) None) is

pub looked_up : (slice items : List d.Used) (used : List Used) (place : ℕ) (found : Option d.Used) → slice ≡ items → map used_in items ≡ used
    → found ≡ slice_get slice place → file_of found ≡ file_at place used
looked_up slice items used place found same shown is =
    ap file_of (is ∙ ap (λ (xs : List d.Used). slice_get xs place) same) ∙ (sym (file_shown items place) ∙ ap (file_at place) shown)

pub found_open : (slice items : List d.Used) (used : List Used) (place : ℕ) (one : d.Used) (there : Bool) → slice ≡ items → map used_in items ≡ used
    → Some one ≡ slice_get slice place → there ≡ is_some one.file → cond there (Some place) None ≡ option_map (λ (_ : Opened). place) (file_at place used)
found_open slice items used place one there same shown is some =
    open_place place one.file there some ∙ ap (option_map (λ (_ : Opened). place)) (looked_up slice items used place (Some one) same shown is)

pub none_found : (slice items : List d.Used) (used : List Used) (place : ℕ) → slice ≡ items → map used_in items ≡ used → None ≡ slice_get slice place
    → None ≡ option_map (λ (_ : Opened). place) (file_at place used)
none_found slice items used place same shown is = ap (option_map (λ (_ : Opened). place)) (looked_up slice items used place None same shown is)

-- a file changes no package
packages_stay : (place : ℕ) (file : Option Opened) (used : List Used) → packages_of (with_opened place file used) ≡ packages_of used
packages_stay place file [] = refl
packages_stay zero file (one ∷ more) = refl
packages_stay (suc place) file (one ∷ more) = ap (λ rest. one.package ∷ rest) (packages_stay place file more)

pub kept_by : (keys : List Bytes) (place : ℕ) (file : Option Opened) (used new : List Used) → keys ≡ packages_of used
    → new ≡ with_opened place file used → keys ≡ packages_of new
kept_by keys place file used new kept is = kept ∙ sym (ap packages_of is ∙ packages_stay place file used)

-- a package with its key, after the others with theirs
packages_last : (items : List d.Used) (one : d.Used) → packages_of (map used_in (items ++ one ∷ [])) ≡ packages_of (map used_in items) ++ one.«package» ∷ []
packages_last [] one = refl
packages_last (first ∷ more) one = ap (λ (rest : List Bytes). first.«package» ∷ rest) (packages_last more one)

pub kept_pushed : {E : Type 0} (result : Result (Unit {0}) E) (done : Unit {0}) (keys new : List Bytes) (items mid all : List d.Used) (one : d.Used)
    → keys ≡ packages_of (map used_in items) → new ≡ keys ++ one.«package» ∷ [] → mid ≡ items → all ≡ (if is_ok result then mid ++ one ∷ [] else mid)
    → result ≡ Ok done → new ≡ packages_of (map used_in all)
kept_pushed {E} result done keys new items mid all one kept added still pushed is =
    let whole : all ≡ items ++ one ∷ [] = pushed ∙ ap (λ (r : Result (Unit {0}) E). if is_ok r then mid ++ one ∷ [] else mid) is
    ∙ ap (λ (xs : List d.Used). xs ++ one ∷ []) still in
    added ∙ ap (λ (ks : List Bytes). ks ++ one.«package» ∷ []) kept ∙ sym (ap (λ (xs : List d.Used). packages_of (map used_in xs)) whole ∙ packages_last items one)

-- the file that a package was given
pub file_there : (place : ℕ) (file : Option Opened) (used : List Used) → place < length used → file_at place (with_opened place file used) ≡ file
file_there place file [] within = absurd (omega arith)
file_there zero file (one ∷ more) within = refl
file_there (suc place) file (one ∷ more) within = file_there place file more (omega arith)

pub found_there : (place : ℕ) (used : List Used) → Some place ≡ option_map (λ (_ : Opened). place) (file_at place used) → IsSome (file_at place used)
found_there place used is = some_there (file_at place used) is
  where
    some_there : (file : Option Opened) → Some place ≡ option_map (λ (_ : Opened). place) file → IsSome file
    some_there None is = absurd (let e = is in cc)
    some_there (Some file) is = refl

-- a file that is there is one of a package
within_used : (place : ℕ) (used : List Used) → IsSome (file_at place used) → place < length used
within_used place [] is = absurd (true≢false (sym is))
within_used zero (one ∷ more) is = omega arith
within_used (suc place) (one ∷ more) is = let within = within_used place more is in omega arith

pub within_items : (place : ℕ) (items : List d.Used) (used : List Used) → map used_in items ≡ used → IsSome (file_at place used) → place < length items
within_items place items used same is =
    subst (λ (n : ℕ). place < n) (ap length (sym same) ∙ length-map items used_in) (within_used place used is)

-- the last package
last_none : (used : List Used) (one : Used) → file_at (length used) (used ++ one ∷ []) ≡ one.file
last_none [] one = refl
last_none (first ∷ more) one = last_none more one

last_put : (used : List Used) (one : Used) (file : Option Opened)
    → with_opened (length used) file (used ++ one ∷ []) ≡ used ++ record one { file = file } ∷ []
last_put [] one file = refl
last_put (first ∷ more) one file = ap (λ (rest : List Used). first ∷ rest) (last_put more one file)

-- ---- the first bytes of standard input, one more than a text may have, decide what becomes of it

pub input_takes : (known : Option Bytes) (current name front : Bytes) (file : Option Opened) (lines : List Bytes)
    → IfSome known (λ all. front ≡ take (limit + 1) all) → Takes current name front file lines
    → (text : Bytes) × IsInput known text × Takes current name text file lines
input_takes None current name front file lines read takes = (front, tt, takes)
input_takes (Some all) current name front file lines read takes =
    (all, refl, front_takes current name front all file lines read takes)

-- ---- the package that was used last

pub opened_last : (place : ℕ) (used mid new : List Used) (text current : Bytes) (file : Option Opened) → place ≡ length used → text ≡ current
    → mid ≡ used ++ record { «package» = text; file = None } ∷ [] → new ≡ with_opened place file mid
    → new ≡ used ++ record { «package» = current; file = file } ∷ []
opened_last place used mid new text current file at same is put =
    put
    ∙ (ap (λ (n : ℕ). with_opened n file mid) at
    ∙ (ap (with_opened (length used) file) is
    ∙ (last_put used (record { «package» = text; file = None }) file
    ∙ ap (λ (name : Bytes). used ++ record { «package» = name; file = file } ∷ []) same)))

pub place_last : (place : ℕ) (used : List Used) (file : Option Opened) (found : Option ℕ) → place ≡ length used → found ≡ option_map (λ _. place) file
    → found ≡ option_map (λ _. length used) file
place_last place used file found at is = is ∙ ap (λ (n : ℕ). option_map (λ (_ : Opened). n) file) at

pub last_file : (used new : List Used) (one : Used) → new ≡ used ++ one ∷ [] → file_at (length used) new ≡ one.file
last_file used new one is = ap (file_at (length used)) is ∙ last_none used one

-- ---- a package that is used stays so

pub unused_before : (current : Bytes) (used : List Used) (one : Used) → package_number current (used ++ one ∷ []) ≡ None → package_number current used ≡ None
unused_before current [] one none = refl
unused_before current (first ∷ more) one none =
    let both = none_here current first (more ++ one ∷ []) none in
    ap (λ (b : Bool). if b then Some 0 else option_map (λ place. place + 1) (package_number current more)) both.0
    ∙ ap (option_map (λ (place : ℕ). place + 1)) (unused_before current more one both.1)

pub last_is_used : (current : Bytes) (used : List Used) (one : Used) → one.package ≡ current → package_number current (used ++ one ∷ []) ≡ None → ⊥
last_is_used current [] one is none = true≢false (sym ((bytes_eq-Decides one.package current).1 is) ∙ (none_here current one [] none).0)
last_is_used current (first ∷ more) one is none = last_is_used current more one is (none_here current first (more ++ one ∷ []) none).1

-- ---- what is left of standard input

pub left_after_input : (known remaining : Option Bytes) (used new : List Used) (one : Used) → one.package ≡ input_package → new ≡ used ++ one ∷ []
    → IsLeft known new remaining
left_after_input known remaining used new one is added = λ none.
    absurd (last_is_used input_package used one is (subst (λ (all : List Used). package_number input_package all ≡ None) added none))

pub left_after_use : (known remaining : Option Bytes) (used new : List Used) (one : Used) → new ≡ used ++ one ∷ [] → IsLeft known used remaining
    → IsLeft known new remaining
left_after_use known remaining used new one added left = λ none.
    left (unused_before input_package used one (subst (λ (all : List Used). package_number input_package all ≡ None) added none))

-- an action changes no package
pub place_stays : (current : Bytes) (place : ℕ) (file : Option Opened) (used : List Used) → package_number current (with_opened place file used) ≡ package_number current used
place_stays current place file [] = refl
place_stays current zero file (one ∷ more) = refl
place_stays current (suc place) file (one ∷ more) =
    ap (λ (found : Option ℕ). if bytes_eq one.package current then Some 0 else option_map (λ place. place + 1) found) (place_stays current place file more)

-- ---- how a package is used

-- the file of a package that was used last
pub last_place : (used new : List Used) (current : Bytes) (file : Option Opened) (found : Option ℕ)
    → new ≡ used ++ record { «package» = current; file = file } ∷ [] → found ≡ option_map (λ _. length used) file
    → found ≡ option_map (λ _. length used) (file_at (length used) new)
last_place used new current file found added is =
    is ∙ ap (option_map (λ (_ : Opened). length used)) (sym (last_file used new (record { «package» = current; file = file }) added))
