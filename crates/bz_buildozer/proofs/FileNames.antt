-- The names of files: their folders, what they end in, and that those of different packages differ.
use Rattle.bz_buildozer.proofs.Words.{[], ◌&&◌, ◌++◌, ◌+◌, ◌-◌, ◌<◌, ◌||◌, ◌∙◌, ◌∷◌, ◌≡◌, ◌≢◌, ◌≤◌, ◌⊎◌, and_parts, ap, append_assoc, append_cancel_right, arith, as_file, as_package, as_unedited, Bool, Bytes, bytes_eq, bytes_eq-Decides, bzl, codes, Decides-eqb, drop, drop_at_char, ends_is, ends_with, eqb, false, false_from_ne_true, first_name, Folder, folder_of, get, get_or, has_package, if◌then◌else◌, in_package, inl, inr, is_file, is_first_name, is_kept_name, is_own_name, is_second_name, is_some, is_there, IsNameOf, journal_name, kept, length, may_be_file, ne_eqb, new_name, NoCharPasses-char, None, not, Option, or_from, or_left, or_parts, or_right, PackagesAreApart, refl, second_name, Settled, settled, settled_file, settled_second, Some, subst, suc, sym, take, take-append-drop, true, true≢false, zero, ℕ}
use Rattle.std.specs.Str.Pattern.{RFindsChar}
use Rattle.bz_label.specs.Pieces.{has_slash, is_slash}

-- ---- the folder of a file

has_end : (front base : Bytes) → has_slash (front ++ 47 ∷ base) ≡ true
has_end [] base = refl
has_end (byte ∷ front) base = or_right (is_slash byte) (has_slash (front ++ 47 ∷ base)) (has_end front base)

pub folder_bare : (name : Bytes) → has_slash name ≡ false → folder_of name ≡ []
folder_bare [] free = refl
folder_bare (byte ∷ rest) free = ap (λ (b : Bool). if b then byte ∷ folder_of rest else []) (or_parts (is_slash byte) (has_slash rest) free).1

pub folder_end : (front base : Bytes) → has_slash base ≡ false → folder_of (front ++ 47 ∷ base) ≡ front
folder_end [] base free = ap (λ (b : Bool). if b then 47 ∷ folder_of base else []) free
folder_end (byte ∷ front) base free =
    ap (λ (b : Bool). if b then byte ∷ folder_of (front ++ 47 ∷ base) else []) (has_end front base) ∙ ap (λ (rest : Bytes). byte ∷ rest) (folder_end front base free)

folder_in : (current base : Bytes) → has_slash base ≡ false → folder_of (in_package current base) ≡ current
folder_in [] base free = folder_bare base free
folder_in (byte ∷ rest) base free = ap folder_of (append_assoc (byte ∷ rest) (codes "/") base) ∙ folder_end (byte ∷ rest) base free

pub folder_first : (current : Bytes) → folder_of (first_name current) ≡ current
folder_first current = folder_in current (codes "BUILD.bazel") refl

pub folder_second : (current : Bytes) → folder_of (second_name current) ≡ current
folder_second current = folder_in current (codes "BUILD") refl

shorter : (b : Bool) (byte : ℕ) (rest front : Bytes) → length front ≤ length rest → length (if b then byte ∷ front else []) ≤ length (byte ∷ rest)
shorter true byte rest front short = omega (arith, short)
shorter false byte rest front short = omega arith

pub folder_length : (name : Bytes) → length (folder_of name) ≤ length name
folder_length [] = omega arith
folder_length (byte ∷ rest) = shorter (has_slash rest) byte rest (folder_of rest) (folder_length rest)

pub folder_fits : (name folder : Bytes) (most : ℕ) → folder ≡ folder_of name → length name ≤ most → length folder ≤ most
folder_fits name folder most is fits = let short = folder_length name in let same = ap length is in omega (arith, short, same, fits)

free_of : (text : Bytes) → ((i : ℕ) → i < length text → get_or text i 0 ≢ 47) → has_slash text ≡ false
free_of [] free = refl
free_of (byte ∷ rest) free = or_from (is_slash byte) (has_slash rest) (ne_eqb byte 47 (free 0 (omega arith))) (free_of rest (λ i within. free (suc i) (omega (arith, within))))

-- what `rsplit_once` finds at a slash
pub folder_none : (name : Bytes) → RFindsChar 47 name None → [] ≡ folder_of name
folder_none name found = sym (folder_bare name (free_of name (λ i within. NoCharPasses-char 47 name i found (omega arith) within)))

pub folder_some : (name before : Bytes) (i j : ℕ) → RFindsChar 47 name (Some (i, j)) → before ≡ take i name → before ≡ folder_of name
folder_some name before i j found is =
    let cut : name ≡ take i name ++ 47 ∷ drop j name = sym (take-append-drop i name) ∙ ap (λ (l : Bytes). take i name ++ l) (drop_at_char 47 name i j found.1 (omega arith)) in
    is ∙ sym (ap folder_of cut ∙ folder_end (take i name) (drop j name) (free_of (drop j name) (λ k within. NoCharPasses-char 47 (drop j name) k found.0 (omega arith) within)))

-- ---- what is before the name in the folder of a package

abbrev front : Bytes → Bytes
front [] = []
front (first ∷ rest) = (first ∷ rest) ++ codes "/"

in_front : (current name : Bytes) → in_package current name ≡ front current ++ name
in_front [] name = refl
in_front (first ∷ rest) name = refl

-- ---- the last two letters, which the kinds of names differ in: they sum up to other numbers

abbrev sum_after : ℕ → ℕ → Bytes → ℕ
sum_after a b [] = a + b
sum_after a b (c ∷ rest) = sum_after b c rest

sum_over : (a b c d : ℕ) (text rest : Bytes) → sum_after a b (text ++ c ∷ d ∷ rest) ≡ sum_after c d rest
sum_over a b c d [] rest = refl
sum_over a b c d (e ∷ text) rest = sum_over b e c d text rest

abbrev last_sum : Bytes → ℕ
last_sum = sum_after 0 0

sum_of_first : (current : Bytes) → last_sum (first_name current) ≡ 209
sum_of_first current = ap last_sum (in_front current (codes "BUILD.bazel")) ∙ sum_over 0 0 66 85 (front current) (codes "ILD.bazel")

sum_of_second : (current : Bytes) → last_sum (second_name current) ≡ 144
sum_of_second current = ap last_sum (in_front current (codes "BUILD")) ∙ sum_over 0 0 66 85 (front current) (codes "ILD")

sum_of_journal : (file : Bytes) → last_sum (journal_name file) ≡ 205
sum_of_journal file = sum_over 0 0 46 106 file (codes "ournal")

sum_of_new : (file : Bytes) → last_sum (new_name file) ≡ 220
sum_of_new file = sum_over 0 0 46 98 file (codes "znew")

unlike : (one other : Bytes) (m n : ℕ) → last_sum one ≡ m → last_sum other ≡ n → m ≢ n → one ≢ other
unlike one other m n is was apart same = apart (sym is ∙ ap last_sum same ∙ was)

-- ---- names of journals and of new files

ends_so : (name end : Bytes) → ends_with eqb name end ≡ true → (before : Bytes) × (name ≡ before ++ end)
ends_so name end is = (take (length name - length end) name, (ends_is Decides-eqb name end (ends_with eqb name end) refl).0 is)

pub journal_is : (file : Bytes) → is_kept_name (journal_name file) ≡ true
journal_is file = or_left _ _ ((ends_is Decides-eqb (journal_name file) (codes ".journal") (ends_with eqb (journal_name file) (codes ".journal")) refl).1 file refl)

pub new_is : (file : Bytes) → is_kept_name (new_name file) ≡ true
new_is file =
    or_right (ends_with eqb (new_name file) (codes ".journal")) _ ((ends_is Decides-eqb (new_name file) (codes ".bznew") (ends_with eqb (new_name file) (codes ".bznew")) refl).1 file refl)

either : (a b : Bool) → (a || b) ≡ true → (a ≡ true) ⊎ (b ≡ true)
either true b is = inl refl
either false b is = inr is

plain : (name : Bytes) (n : ℕ) → last_sum name ≡ n → n ≢ 205 → n ≢ 220 → is_kept_name name ≡ false
plain name n sum one two = false_from_ne_true (is_kept_name name) (λ is.
    elim (either (ends_with eqb name (codes ".journal")) (ends_with eqb name (codes ".bznew")) is) [
      | inl a ↦ let at = ends_so name (codes ".journal") a in one (sym sum ∙ ap last_sum at.1 ∙ sum_of_journal at.0)
      | inr b ↦ let at = ends_so name (codes ".bznew") b in two (sym sum ∙ ap last_sum at.1 ∙ sum_of_new at.0)
    ])

first_plain : (current : Bytes) → is_kept_name (first_name current) ≡ false
first_plain current = plain (first_name current) 209 (sum_of_first current) (λ e. omega (arith, e)) (λ e. omega (arith, e))

second_plain : (current : Bytes) → is_kept_name (second_name current) ≡ false
second_plain current = plain (second_name current) 144 (sum_of_second current) (λ e. omega (arith, e)) (λ e. omega (arith, e))

-- ---- names of a file's own

own_parts : (a b c : Bool) → (not (a || b) && not c) ≡ true → (a ≡ false) × (b ≡ false) × (c ≡ false)
own_parts false false false is = (refl, refl, refl)
own_parts false false true is = absurd (true≢false (sym is))
own_parts false true c is = absurd (true≢false (sym is))
own_parts true b c is = absurd (true≢false (sym is))

module _ (name : Bytes) (own : is_own_name name ≡ true) where
  own_is : (is_first_name name ≡ false) × (is_second_name name ≡ false) × (is_kept_name name ≡ false)
  own_is = own_parts (is_first_name name) (is_second_name name) (is_kept_name name) own

  own_not_first : (current : Bytes) → name ≢ first_name current
  own_not_first current same = true≢false
      (sym ((bytes_eq-Decides name (first_name (folder_of name))).1 (same ∙ ap first_name (sym (ap folder_of same ∙ folder_first current)))) ∙ own_is.0)

  own_not_second : (current : Bytes) → name ≢ second_name current
  own_not_second current same = true≢false
      (sym ((bytes_eq-Decides name (second_name (folder_of name))).1 (same ∙ ap second_name (sym (ap folder_of same ∙ folder_second current)))) ∙ own_is.1)

pub named_plain : (current name : Bytes) → IsNameOf current name → is_kept_name name ≡ false
named_plain current name (inl is) = ap is_kept_name is ∙ first_plain current
named_plain current name (inr (inl is)) = ap is_kept_name is ∙ second_plain current
named_plain current name (inr (inr own)) = (own_is name own.1).2

-- ---- the names of files of different packages

pub not_kept : (name other : Bytes) → is_kept_name name ≡ false → is_kept_name other ≡ true → name ≢ other
not_kept name other plain is same = true≢false (sym is ∙ ap is_kept_name (sym same) ∙ plain)

pub journal_not_new : (name file : Bytes) → journal_name name ≢ new_name file
journal_not_new name file = unlike (journal_name name) (new_name file) 205 220 (sum_of_journal name) (sum_of_new file) (λ e. omega (arith, e))

first_second : (p q name : Bytes) → name ≡ first_name p → name ≡ second_name q → ⊥
first_second p q name this that =
    unlike name name 209 144 (ap last_sum this ∙ sum_of_first p) (ap last_sum that ∙ sum_of_second q) (λ e. omega (arith, e)) refl

pub one_package : (p q name : Bytes) → IsNameOf p name → IsNameOf q name → p ≡ q
one_package p q name (inl this) (inl that) = sym (folder_first p) ∙ ap folder_of (sym this ∙ that) ∙ folder_first q
one_package p q name (inl this) (inr (inl that)) = absurd (first_second p q name this that)
one_package p q name (inl this) (inr (inr own)) = absurd (own_not_first name own.1 p this)
one_package p q name (inr (inl this)) (inl that) = absurd (first_second q p name that this)
one_package p q name (inr (inl this)) (inr (inl that)) = sym (folder_second p) ∙ ap folder_of (sym this ∙ that) ∙ folder_second q
one_package p q name (inr (inl this)) (inr (inr own)) = absurd (own_not_second name own.1 p this)
one_package p q name (inr (inr own)) (inl that) = absurd (own_not_first name own.1 q that)
one_package p q name (inr (inr own)) (inr (inl that)) = absurd (own_not_second name own.1 q that)
one_package p q name (inr (inr own)) (inr (inr other)) = sym own.0 ∙ other.0

pub packages_apart : PackagesAreApart
packages_apart one other name file differ named is_file =
    let unlike_file : name ≢ file = λ same. differ (one_package one other file (subst (IsNameOf one) same named) is_file) in
    let plain = named_plain one name named in (
      record {
        file_is = unlike_file;
        journal = not_kept name (journal_name file) plain (journal_is file);
        new = not_kept name (new_name file) plain (new_is file);
        new_journal = not_kept name (new_name (journal_name file)) plain (new_is (journal_name file));
      },
      record {
        file_is = λ same. not_kept file (journal_name name) (named_plain other file is_file) (journal_is name) (sym same);
        journal = λ same. unlike_file (append_cancel_right name file (codes ".journal") same);
        new = journal_not_new name file;
        new_journal = journal_not_new name (journal_name file);
      },
    )

-- ---- what a path means that is settled to be a file

abbrev name_of : Settled → Bytes
name_of (as_file name) = name
name_of (as_package current) = []
name_of (as_unedited why) = []

file_meant : (a b c d there : Bool) (path name current : Bytes)
    → (if a then as_unedited kept else if b then as_package current else if c then settled_second there current else if d then as_unedited bzl else as_file path) ≡ as_file name
    → (name ≡ path) × (a ≡ false) × (b ≡ false) × (c ≡ false)
file_meant true b c d there path name current is = absurd (let e = is in cc)
file_meant false true c d there path name current is = absurd (let e = is in cc)
file_meant false false true d true path name current is = absurd (let e = is in cc)
file_meant false false true d false path name current is = absurd (let e = is in cc)
file_meant false false false true there path name current is = absurd (let e = is in cc)
file_meant false false false false there path name current is = (sym (ap name_of is), refl, refl, refl)

there_or : (a b : Bool) → a ≡ false → (a || b) ≡ true → b ≡ true
there_or false b none is = is
there_or true b none is = absurd (true≢false none)

own_made : (a b c : Bool) → a ≡ false → b ≡ false → c ≡ false → (not (a || b) && not c) ≡ true
own_made a b c x y z = rw (x, y, z) refl

-- it is there, and no package has its name
pub file_there : (folder : Folder) (path name : Bytes) → settled folder path ≡ as_file name → (name ≡ path) × (is_some (get folder path) ≡ true) × (is_own_name path ≡ true)
file_there folder path name is = go (is_file folder path) refl is
  where
    go : (b : Bool) → is_file folder path ≡ b → (if b then settled_file folder path else as_package path) ≡ as_file name
        → (name ≡ path) × (is_some (get folder path) ≡ true) × (is_own_name path ≡ true)
    go false at e = absurd (let x = e in cc)
    go true at e =
        let meant = file_meant (is_kept_name path) (is_first_name path) (is_second_name path) (ends_with eqb path (codes ".bzl"))
        (is_some (get folder (first_name (folder_of path)))) path name (folder_of path) e in
        let there = (and_parts (may_be_file path) (is_there folder path) (and_parts (may_be_file path && is_there folder path) (not (has_package folder path)) at).0).1 in (
          meant.0,
          there_or (is_kept_name path) (is_some (get folder path)) meant.1 there,
          own_made (is_first_name path) (is_second_name path) (is_kept_name path) meant.2 meant.3 meant.1,
        )

-- what it is settled to, by the tests that are made one after the other
abbrev after_second : Bytes → Settled
after_second path = if ends_with eqb path (codes ".bzl") then as_unedited bzl else as_file path

abbrev after_first : Folder → Bytes → Settled
after_first folder path = if is_second_name path then settled_second (is_some (get folder (first_name (folder_of path)))) (folder_of path) else after_second path

module _ (folder : Folder) (path current : Bytes) (plain : is_kept_name path ≡ false) (is : current ≡ folder_of path) where
  pub meant_first : bytes_eq path (first_name current) ≡ true → as_package current ≡ settled_file folder path
  meant_first first = ap as_package is ∙ sym (
      ap (λ (a : Bool). if a then as_unedited kept else if is_first_name path then as_package (folder_of path) else after_first folder path) plain
      ∙ ap (λ (b : Bool). if b then as_package (folder_of path) else after_first folder path) (ap (λ (f : Bytes). bytes_eq path (first_name f)) (sym is) ∙ first))

  module _ (first : bytes_eq path (first_name current) ≡ false) where
    meant_later : settled_file folder path ≡ after_first folder path
    meant_later = ap (λ (a : Bool). if a then as_unedited kept else if is_first_name path then as_package (folder_of path) else after_first folder path) plain
        ∙ ap (λ (b : Bool). if b then as_package (folder_of path) else after_first folder path) (ap (λ (f : Bytes). bytes_eq path (first_name f)) (sym is) ∙ first)

    by_second : (b : Bool) → bytes_eq path (second_name current) ≡ b → settled_file folder path
        ≡ (if b then settled_second (is_some (get folder (first_name (folder_of path)))) (folder_of path) else after_second path)
    by_second b second = meant_later
        ∙ ap (λ (c : Bool). if c then settled_second (is_some (get folder (first_name (folder_of path)))) (folder_of path) else after_second path)
        (ap (λ (f : Bytes). bytes_eq path (second_name f)) (sym is) ∙ second)

    pub meant_second : bytes_eq path (second_name current) ≡ true → settled_second (is_some (get folder (first_name current))) current ≡ settled_file folder path
    meant_second second = ap (λ (f : Bytes). settled_second (is_some (get folder (first_name f))) f) is ∙ sym (by_second true second)

    pub meant_last : (b : Bool) → bytes_eq path (second_name current) ≡ false → ends_with eqb path (codes ".bzl") ≡ b
        → (if b then as_unedited bzl else as_file path) ≡ settled_file folder path
    meant_last b second end = sym (by_second false second ∙ ap (λ (d : Bool). if d then as_unedited bzl else as_file path) end)

-- ---- what depends on whether files are there, those aside that may come and go

module _ (folder began : Folder) (same : (name : Bytes) → is_kept_name name ≡ false → is_some (get folder name) ≡ is_some (get began name)) where
  package_stays : (path : Bytes) → has_package folder path ≡ has_package began path
  package_stays path =
      ap (λ (b : Bool). b || is_some (get folder (second_name path))) (same (first_name path) (first_plain path))
      ∙ ap (λ (b : Bool). is_some (get began (first_name path)) || b) (same (second_name path) (second_plain path))

  there_stays : (path : Bytes) → is_there folder path ≡ is_there began path
  there_stays path = go (is_kept_name path) refl
    where
      go : (b : Bool) → is_kept_name path ≡ b → (b || is_some (get folder path)) ≡ (b || is_some (get began path))
      go true is = refl
      go false is = same path is

  file_stays : (path : Bytes) → is_file folder path ≡ is_file began path
  file_stays path =
      ap (λ (b : Bool). (may_be_file path && b) && not (has_package folder path)) (there_stays path)
      ∙ ap (λ (b : Bool). (may_be_file path && is_there began path) && not b) (package_stays path)

  meant_stays : (path : Bytes) → settled_file folder path ≡ settled_file began path
  meant_stays path = ap (λ (b : Bool). if is_kept_name path then as_unedited kept
      else if is_first_name path then as_package (folder_of path)
      else if is_second_name path then settled_second b (folder_of path)
      else if ends_with eqb path (codes ".bzl") then as_unedited bzl else as_file path) (same (first_name (folder_of path)) (first_plain (folder_of path)))

  -- what a path means stays the same
  pub settled_stays : (path : Bytes) → settled folder path ≡ settled began path
  settled_stays path =
      ap (λ (b : Bool). if b then settled_file folder path else as_package path) (file_stays path)
      ∙ ap (λ (it : Settled). if is_file began path then it else as_package path) (meant_stays path)
