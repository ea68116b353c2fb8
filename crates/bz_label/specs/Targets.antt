-- Targets: PACKAGE:WHICH, //PACKAGE:WHICH, or //PACKAGE, which is //PACKAGE:X with X the last piece.
use Rattle.std.specs.Prelude.{◌≡◌, ℕ, Bool, not, ◌&&◌, ◌||◌, ◌==◌, ◌+◌, ◌-◌, ◌*◌, ◌^◌, ◌≤◌, [], ◌∷◌, ◌++◌, codes, IsTrue, ◌⊎◌, fold, min, length, if◌then◌else◌}
use Rattle.std.specs.List.{list_all}
use Rattle.std.specs.Char.{is_ascii_digit}
use Rattle.std.specs.Str.{bytes_eq}
use Rattle.bz_label.specs.declared.target.Target.{Target}
use Rattle.bz_label.specs.declared.target.Which.{Which}
use Rattle.bz_label.specs.declared.target.Which.TheVariants.{All, Kind, Line, Package, Name}
use Rattle.bz_items.specs.Characters.{Bytes}
use Rattle.bz_label.specs.Pieces.{is_empty, is_present, has_colon, is_joined, last_piece}

-- the number that decimal digits write
abbrev pub decimal : Bytes → ℕ
decimal digits = fold (λ number digit. number * 10 + (digit - 48)) 0 digits

-- what follows %: digits are a line, where a number past 4,294,967,295 is that line, which no text within the limit has;
-- all else is a kind
abbrev pub after_percent : Bytes → Which
after_percent word = if is_present word && list_all is_ascii_digit word
    then Line (min (decimal word) (2 ^ 32 - 1)) else Kind word

abbrev pub other_word : Bytes → Which
other_word [] = Name []
other_word (first ∷ rest) = if first == 37 then after_percent rest else Name (first ∷ rest)

-- all and * are all rules, __pkg__ the first rule of kind package, %.. a kind or a line, any other text a name
abbrev pub which_of : Bytes → Which
which_of word = if bytes_eq word (codes "all") || bytes_eq word (codes "*") then All
    else (if bytes_eq word (codes "__pkg__") then Package else other_word word)

-- the package of a target: empty, or non-empty pieces joined by slashes (- is one piece); the first colon ends it
abbrev pub is_package : Bytes → Bool
is_package text = (is_empty text || is_joined text) && not (has_colon text)

-- how the text spells the package and what follows it
abbrev pub IsSpelled : Bytes → Bytes → Bytes → Type 0
IsSpelled text path word = (text ≡ path ++ codes ":" ++ word)
    ⊎ ((text ≡ codes "//" ++ path ++ codes ":" ++ word) ⊎ ((text ≡ codes "//" ++ path) × (word ≡ last_piece path)))

-- the text is this target
pub record IsTarget (text : Bytes) (target : Target) : Type 0 where
  pub word : Bytes
  pub spelled : IsSpelled text target.package word
  pub «package» : IsTrue (is_package target.package)
  pub room : length target.package ≤ 65536
  pub present : IsTrue (is_present word)
  pub which : target.which ≡ which_of word

-- the target of a package and what follows it
abbrev pub target_of : Bytes → Bytes → Target
target_of path word = record { «package» = path; which = which_of word }
