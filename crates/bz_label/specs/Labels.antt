-- Labels: [@REPO | @@REPO | @ | @@]//PACKAGE[:NAME], @REPO, :NAME or NAME.
use Rattle.std.specs.Prelude.{◌≡◌, ℕ, Bool, not, ◌&&◌, ◌||◌, ◌==◌, nat_lt, [], ◌++◌, codes, IsTrue, ◌⊎◌}
use Rattle.std.specs.List.{list_all}
use Rattle.bz_label.specs.declared.label.Label.{Label}
use Rattle.bz_items.specs.Characters.{Bytes}
use Rattle.bz_label.specs.Pieces.{is_empty, is_present, has_slash, is_joined, last_piece, begins_with_at}

-- what no part of a label holds: a character below U+0020, a quote mark, a colon, a backslash
abbrev pub is_barred : ℕ → Bool
is_barred byte = nat_lt byte 32 || byte == 34 || byte == 39 || byte == 58 || byte == 92

abbrev pub is_plain : Bytes → Bool
is_plain text = list_all (λ byte. not (is_barred byte)) text

-- PACKAGE where it may not be empty, and NAME: non-empty pieces joined by slashes
abbrev pub is_path : Bytes → Bool
is_path text = is_joined text && is_plain text

-- REPO: not empty, without a slash
abbrev pub is_repository_name : Bytes → Bool
is_repository_name text = is_present text && not (has_slash text) && is_plain text

-- what may be before //: nothing, @, @@, @REPO or @@REPO
pub data IsRepository (text : Bytes) : Type 0 where
  absent : text ≡ [] → IsRepository text
  main : text ≡ codes "@" → IsRepository text
  canonical_main : text ≡ codes "@@" → IsRepository text
  named : (name : Bytes) → IsTrue (is_repository_name name)
      → text ≡ codes "@" ++ name → IsRepository text
  canonical_named : (name : Bytes) → IsTrue (is_repository_name name)
      → text ≡ codes "@@" ++ name → IsRepository text

-- [REPOSITORY]//PACKAGE:NAME, where PACKAGE may be empty
pub record IsWhole (text : Bytes) (label : Label) : Type 0 where
  pub repository : IsRepository label.repository
  pub «package» : IsTrue (is_empty label.package || is_path label.package)
  pub name : IsTrue (is_path label.name)
  pub spelled : text ≡ label.repository ++ codes "//" ++ label.package ++ codes ":" ++ label.name

-- [REPOSITORY]//PACKAGE: the name is the last piece of the package
pub record IsPackageAlone (text : Bytes) (label : Label) : Type 0 where
  pub repository : IsRepository label.repository
  pub «package» : IsTrue (is_path label.package)
  pub name : label.name ≡ last_piece label.package
  pub spelled : text ≡ label.repository ++ codes "//" ++ label.package

-- @REPO: the package is empty, and the name is REPO
pub record IsRepositoryAlone (text : Bytes) (label : Label) : Type 0 where
  pub repository : label.repository ≡ text
  pub «package» : label.package ≡ []
  pub name : IsTrue (is_repository_name label.name)
  pub spelled : text ≡ codes "@" ++ label.name

-- :NAME, in the current package
pub record IsColonName (current text : Bytes) (label : Label) : Type 0 where
  pub repository : label.repository ≡ []
  pub «package» : label.package ≡ current
  pub name : IsTrue (is_path label.name)
  pub spelled : text ≡ codes ":" ++ label.name

-- NAME, in the current package, not beginning with @
pub record IsBareName (current text : Bytes) (label : Label) : Type 0 where
  pub repository : label.repository ≡ []
  pub «package» : label.package ≡ current
  pub name : IsTrue (is_path label.name)
  pub begins : IsTrue (not (begins_with_at label.name))
  pub spelled : text ≡ label.name

-- the text is this label, read in the current package
pub data IsLabel (current text : Bytes) (label : Label) : Type 0 where
  whole : IsWhole text label → IsLabel current text label
  package_alone : IsPackageAlone text label → IsLabel current text label
  repository_alone : IsRepositoryAlone text label → IsLabel current text label
  colon_name : IsColonName current text label → IsLabel current text label
  bare_name : IsBareName current text label → IsLabel current text label

-- both are labels with equal three parts, or the texts are equal
abbrev pub IsSame : Bytes → Bytes → Bytes → Type 0
IsSame current first second = (first ≡ second)
    ⊎ ((label : Label) × IsLabel current first label × IsLabel current second label)

-- the text is //p:x with p the current package
pub record IsOwn (current text : Bytes) (label : Label) : Type 0 where
  pub written : IsWhole text label
  pub repository : label.repository ≡ []
  pub «package» : label.package ≡ current

-- the text is ..//p/x:x or ..//x:x
pub record IsRepeat (text : Bytes) (label : Label) : Type 0 where
  pub written : IsWhole text label
  pub name : last_piece label.package ≡ label.name

-- ..//p/x:x becomes ..//p/x, and ..//x:x becomes ..//x; any other text stays
pub data IsUnrepeated (text short : Bytes) : Type 0 where
  repeat : (label : Label) → IsRepeat text label
      → short ≡ label.repository ++ codes "//" ++ label.package → IsUnrepeated text short
  stays : ((label : Label) → IsRepeat text label → ⊥) → short ≡ text → IsUnrepeated text short

-- //p:x with p the current package becomes :x; any other text loses a repeated name
pub data IsShortened (current text short : Bytes) : Type 0 where
  own : (label : Label) → IsOwn current text label
      → short ≡ codes ":" ++ label.name → IsShortened current text short
  other : ((label : Label) → IsOwn current text label → ⊥)
      → IsUnrepeated text short → IsShortened current text short
