-- Which readers are exact, and what that says.
use Rattle.std.specs.Prelude.{◌≡◌, ℕ, ◌<◌, false, List, [], ◌∷◌, ◌++◌, length, Some}
use Rattle.hex.specs.Hex.{encode_lower}
use Rattle.bz_items.specs.Characters.{line_feed}
use Rattle.bz_token.specs.Bytes.{is_digit}
use Rattle.bz_journal_format.specs.Spellings.{counted_text, IsDigest, IsLine, number_limit, numeral}
use Rattle.bz_journal_format.specs.Readers.{counted_at, digest_at, field_at, ended_line_at, number_at, Reader}

-- A reader is exact for a spelling where it reads from its spelling whatever fits, and nothing else.
pub record IsExact (X : Type 0) (spell : X → List ℕ) (P : X → Type 0) (read : Reader X) : Type 0 where
  pub sound : (s : List ℕ) (x : X) (rest : List ℕ) → read s ≡ Some (x, rest) → P x × (s ≡ spell x ++ rest)
  pub complete : (x : X) (rest : List ℕ) → P x → read (spell x ++ rest) ≡ Some (x, rest)

abbrev pub NumbersExact : Type 0
NumbersExact = (stop : ℕ) → is_digit stop ≡ false → IsExact ℕ (numeral stop) (λ n. n < number_limit) (number_at stop)

abbrev pub FieldsExact : Type 0
FieldsExact = (n : ℕ) → IsExact (List ℕ) (λ bytes. bytes) (λ bytes. length bytes ≡ n) (field_at n)

abbrev pub LinesExact : Type 0
LinesExact = IsExact (List ℕ) (λ line. line ++ line_feed ∷ []) IsLine ended_line_at

abbrev pub CountedExact : Type 0
CountedExact = (stop : ℕ) → is_digit stop ≡ false → IsExact (List ℕ) (counted_text stop) (λ bytes. length bytes < number_limit) (counted_at stop)

-- the digits of a digest in lower case, and a newline
abbrev pub DigestsExact : Type 0
DigestsExact = IsExact (List ℕ) (λ digest. encode_lower digest ++ line_feed ∷ []) IsDigest digest_at
