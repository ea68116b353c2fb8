-- How a package is opened, and what an action does in one.
use Rattle.std.specs.Prelude.{◌≡◌, ◌≢◌, ◌⊎◌, ◌↔◌, ◌+◌, ◌++◌, true, List, [], ◌∷◌, take, codes, Option, Some, None}
use Rattle.bz_buildozer.specs.Words.{ReadFault, is_of_leaves, IsFaultAt, Accepted, limit, Folder, Bytes, IsFaultOf, fault_excerpt, named_line, fault_line}
use Rattle.bz_buildozer.specs.Sessions.{opened}
use Rattle.bz_buildozer.specs.Found.{Opened, opened_with, PackagesFound, second_name}
use Rattle.bz_buildozer.specs.Reported.{package_hint}

-- a text of this name, as it was read, with the history that begins with it
abbrev pub opened_fresh : Bytes → Bytes → Bytes → Opened
opened_fresh current name text = opened_with name text (opened current text)

-- A text is not accepted for this fault, which is at its place where it is one of leaves.
abbrev pub IsRefusedFor : Bytes → ReadFault → Type 0
IsRefusedFor text fault = (Accepted text → ⊥) × IsFaultOf text fault × (is_of_leaves fault ≡ true → IsFaultAt (λ blanks. blanks ≢ []) text fault)

-- An accepted text is opened; of every other text such a fault is reported, and below it the line of its place.
abbrev pub Takes : Bytes → Bytes → Bytes → Option Opened → List Bytes → Type 0
Takes current name text file lines =
    (Accepted text × (file ≡ Some (opened_fresh current name text)) × (lines ≡ []))
    ⊎ ((fault : ReadFault) × IsRefusedFor text fault × (file ≡ None) × (lines ≡ (fault_line name fault ++ fault_excerpt text fault) ∷ []))

-- A text and its first bytes, one more than a text may have, are opened or reported alike: both are too large, or they are the same.
abbrev pub FrontsAreReportedAlike : Type 0
FrontsAreReportedAlike = (current name text : Bytes) (file : Option Opened) (lines : List Bytes)
    → (Takes current name (take (limit + 1) text) file lines ↔ Takes current name text file lines)

-- The file that is found for a package is opened; where none is, that is reported of `BUILD`, and below it what a package is.
abbrev pub Opens : Folder → Bytes → Option PackagesFound → Option Opened → List Bytes → Type 0
Opens folder current (Some found) file lines = Takes current found.0 found.1 file lines
Opens folder current None file lines =
    (file ≡ None) × (lines ≡ (named_line (second_name current) (codes "cannot open") ++ package_hint current) ∷ [])
