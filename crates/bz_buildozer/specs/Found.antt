-- Which file of a package is read.
use Rattle.std.specs.Prelude.{◌≡◌, ◌≢◌, ◌⊎◌, [], ◌∷◌, ◌++◌, ◌||◌, ◌&&◌, not, codes, Option, Some, None, ℕ, ◌+◌, zero, suc, Bool, true, false, is_some, List, bytes_eq, eqb, if◌then◌else◌}
use Rattle.std.specs.FinMap.{get}
use Rattle.std.specs.List.{ends_with}
use Rattle.bz_label.specs.Pieces.{has_slash}
use Rattle.bz_buildozer.specs.Words.{Bytes, Folder, new_name, journal_name, History}
use Rattle.bz_buildozer.specs.Steps.{input_package}
use Rattle.std.specs.Option.{option_map}

-- a file of a package, by its path below the current folder; the root package has the empty path
abbrev pub in_package : Bytes → Bytes → Bytes
in_package [] name = name
in_package (first ∷ rest) name = (first ∷ rest) ++ codes "/" ++ name

abbrev pub first_name : Bytes → Bytes
first_name current = in_package current (codes "BUILD.bazel")

abbrev pub second_name : Bytes → Bytes
second_name current = in_package current (codes "BUILD")

-- a file that is there: its name and its bytes
abbrev pub PackagesFound : Type 0
PackagesFound = Bytes × Bytes

abbrev pub found_at : Bytes → Option Bytes → Option PackagesFound → Option PackagesFound
found_at name (Some bytes) other = Some (name, bytes)
found_at name None other = other

-- The file of a package is `BUILD.bazel`, else `BUILD`.
abbrev pub found_second : Folder → Bytes → Option PackagesFound
found_second folder current = found_at (second_name current) (get folder (second_name current)) None

abbrev pub found_in : Folder → Bytes → Option PackagesFound
found_in folder current = found_at (first_name current) (get folder (first_name current)) (found_second folder current)

-- ---- files in the place of packages

-- the folder of a file, as the path of a package is written: what is before the last slash, or nothing
abbrev pub folder_of : Bytes → Bytes
folder_of [] = []
folder_of (byte ∷ rest) = if has_slash rest then byte ∷ folder_of rest else []

-- the file is `BUILD.bazel` of its folder
abbrev pub is_first_name : Bytes → Bool
is_first_name name = bytes_eq name (first_name (folder_of name))

-- it is `BUILD` of its folder
abbrev pub is_second_name : Bytes → Bool
is_second_name name = bytes_eq name (second_name (folder_of name))

-- the name of a journal, or one under which a file is written first
abbrev pub is_kept_name : Bytes → Bool
is_kept_name name = ends_with eqb name (codes ".journal") || ends_with eqb name (codes ".bznew")

-- a name that neither the file of a package has, nor its journal, nor a new file
abbrev pub is_own_name : Bytes → Bool
is_own_name name = not (is_first_name name || is_second_name name) && not (is_kept_name name)

-- a file of this package is there
abbrev pub has_package : Folder → Bytes → Bool
has_package folder path = is_some (get folder (first_name path)) || is_some (get folder (second_name path))

-- Neither the path nor its folder is the package that means standard input.
abbrev pub is_elsewhere : Bytes → Bool
is_elsewhere path = not (bytes_eq path input_package || bytes_eq (folder_of path) input_package)

abbrev pub may_be_file : Bytes → Bool
may_be_file path = not (bytes_eq path []) && is_elsewhere path

-- A file of this name is there. One with the name of a journal or of a new file counts as there, since these come and go in a run.
abbrev pub is_there : Folder → Bytes → Bool
is_there folder path = is_kept_name path || is_some (get folder path)

-- The path before a target's colon is that of a file, and of no package.
abbrev pub is_file : Folder → Bytes → Bool
is_file folder path = (may_be_file path && is_there folder path) && not (has_package folder path)

-- the package of the labels in a file of this name, by the path of a target in it
abbrev pub package_of : Bytes → Bytes → Bytes
package_of path name = if bytes_eq path input_package then input_package else folder_of name

-- why a file isn't edited: it is `BUILD` beside the `BUILD.bazel` of this package, a journal or new file, or a .bzl file
pub data Unedited : Type 0 where
  beside : Bytes → Unedited
  kept : Unedited
  bzl : Unedited

-- what the path before a target's colon means: a package, the file of this name, or a file that isn't edited
pub data Settled : Type 0 where
  as_package : Bytes → Settled
  as_file : Bytes → Settled
  as_unedited : Unedited → Settled

-- what `BUILD` means, by whether `BUILD.bazel` is there beside it
abbrev pub settled_second : Bool → Bytes → Settled
settled_second there current = if there then as_unedited (beside current) else as_package current

abbrev pub settled_file : Folder → Bytes → Settled
settled_file folder path =
    if is_kept_name path then as_unedited kept
    else if is_first_name path then as_package (folder_of path)
    else if is_second_name path then settled_second (is_some (get folder (first_name (folder_of path)))) (folder_of path)
    else if ends_with eqb path (codes ".bzl") then as_unedited bzl
    else as_file path

abbrev pub settled : Folder → Bytes → Settled
settled folder path = if is_file folder path then settled_file folder path else as_package path

-- what a run knows it by
abbrev pub key_of : Bytes → Settled → Bytes
key_of path (as_package current) = current
key_of path (as_file name) = name
key_of path (as_unedited why) = path

-- its name and its bytes
abbrev pub found_of : Folder → Settled → Option PackagesFound
found_of folder (as_package current) = found_in folder current
found_of folder (as_file name) = found_at name (get folder name) None
found_of folder (as_unedited why) = None

-- ---- the root of the workspace

-- The folder of this path, which ends with a slash or is empty, has this file.
abbrev pub has_file : Folder → Bytes → Bytes → Bool
has_file folder path name = is_some (get folder (path ++ name))

-- It is a root.
abbrev pub is_root : Folder → Bytes → Bool
is_root folder path = (has_file folder path (codes "MODULE.bazel") || has_file folder path (codes "REPO.bazel"))
    || (has_file folder path (codes "WORKSPACE.bazel") || has_file folder path (codes "WORKSPACE"))

-- the path of the first root among as many folders: that one and those above it
unfoldable pub root_from : ℕ → Folder → Bytes → Option Bytes
root_from zero folder path = None
root_from (suc count) folder path = if is_root folder path then Some path else root_from count folder (path ++ codes "../")

-- The root is above the current folder, among the first sixteen, where that isn't one itself.
abbrev pub root_above : Folder → Option Bytes
root_above folder = if is_root folder [] then None else root_from 16 folder (codes "../")

-- ---- files of other packages

-- the name is one of the two that the file of this package may have, or a file of its own has it
abbrev pub IsNameOf : Bytes → Bytes → Type 0
IsNameOf current name = (name ≡ first_name current) ⊎ ((name ≡ second_name current) ⊎ ((name ≡ current) × (is_own_name name ≡ true)))

-- the name is none that gets new bytes as this file is kept: its own, its journal's, and those under which the two are written first
pub record IsApartFrom (file name : Bytes) : Type 0 where
  pub file_is : name ≢ file
  pub journal : name ≢ journal_name file
  pub new : name ≢ new_name file
  pub new_journal : name ≢ new_name (journal_name file)

-- The files of two packages have different names, and none is the name of the other's journal, nor one under which that or the file
-- is written first; nor has its journal such a name.
abbrev pub PackagesAreApart : Type 0
PackagesAreApart = (one other name file : Bytes) → one ≢ other → IsNameOf one name → IsNameOf other file
    → IsApartFrom file name × IsApartFrom file (journal_name name)

-- ---- the packages that a run has used, each with its file where that was opened, in order of first use

-- an open file: its name, the text that was read, and its history; whether its journal and it were written in this run, and whether
-- it is left alone since the two could not both be written
pub record Opened : Type 0 where
  pub name : Bytes
  pub read : Bytes
  pub history : History
  pub written : Bool
  pub left : Bool

-- a file of this name at the text that was read, with its history; nothing was written yet
abbrev pub opened_with : Bytes → Bytes → History → Opened
opened_with name text history = record { name = name; read = text; history = history; written = false; left = false }

-- a package, or a file by its name, and the file; none where it could not be opened
pub record Used : Type 0 where
  pub «package» : Bytes
  pub file : Option Opened

-- the number of a package among them, from 0
abbrev pub package_number : Bytes → List Used → Option ℕ
package_number current [] = None
package_number current (used ∷ more) = if bytes_eq used.package current then Some 0 else option_map (λ place. place + 1) (package_number current more)

-- the open file of the package with this number
abbrev pub file_at : ℕ → List Used → Option Opened
file_at place [] = None
file_at zero (used ∷ more) = used.file
file_at (suc place) (used ∷ more) = file_at place more

-- the package with this number has this file from now on
abbrev pub with_opened : ℕ → Option Opened → List Used → List Used
with_opened place file [] = []
with_opened zero file (used ∷ more) = record used { file = file } ∷ more
with_opened (suc place) file (used ∷ more) = used ∷ with_opened place file more

-- What a run knows a path by: a path that it knows something by means that, and each other one what it is settled to.
abbrev pub key_in : List Used → Folder → Bytes → Bytes
key_in used folder path = if is_some (package_number path used) then path else key_of path (settled folder path)
