-- Fields as they are in a text.
use Rattle.std.specs.Prelude.{◌≡◌, ◌≢◌, ℕ, ◌^◌, List, [], ◌∷◌, ◌++◌, length, decimal}
use Rattle.std.specs.List.{AllByRecursion}
use Rattle.hex.specs.Hex.{IsBytes}
use Rattle.bz_items.specs.Characters.{line_feed}

-- numbers are below it
abbrev pub number_limit : ℕ
number_limit = 2 ^ 32

-- the byte of the digit 0
abbrev pub digit_zero : ℕ
digit_zero = 48

-- a number in decimal digits without leading zeros, and the byte after it
abbrev pub numeral : ℕ → ℕ → List ℕ
numeral stop n = decimal n ++ stop ∷ []

-- bytes with their number before them
abbrev pub counted_text : ℕ → List ℕ → List ℕ
counted_text stop bytes = numeral stop (length bytes) ++ bytes

-- what SHA-256 gives: 32 bytes
abbrev pub IsDigest : List ℕ → Type 0
IsDigest digest = (length digest ≡ 32) × IsBytes digest

-- no newline in it
abbrev pub IsLine : List ℕ → Type 0
IsLine = AllByRecursion (λ b. b ≢ line_feed)
