-- Starlark's lexical elements: the texts of each class, as lists of the bytes of UTF-8.
use Rattle.std.specs.Prelude.{◌≡◌, ◌<◌, ℕ, Bool, true, false, List, [], ◌∷◌, ◌++◌, ◌⊎◌, ◌&&◌, ◌||◌, nat_eq, bytes_eq, replicate, codes}
use Rattle.bz_token.specs.declared.class.Class.{Class}
use Rattle.bz_token.specs.declared.class.Class.TheVariants as v
use Rattle.bz_token.specs.Bytes.{among, is_digit, is_octal, is_hexadecimal, is_x, is_o, is_e, is_sign, is_high, is_letter, is_quote}

abbrev pub in_table : List ℕ → List (List ℕ) → Bool
in_table s [] = false
in_table s (t ∷ ts) = bytes_eq s t || in_table s ts

-- Keyword: and break continue def elif else for if in lambda load not or pass return
abbrev pub keywords : List (List ℕ)
keywords =
    codes "and" ∷ codes "break" ∷ codes "continue" ∷ codes "def" ∷ codes "elif" ∷ codes "else" ∷ codes "for" ∷ codes "if" ∷ codes "in" ∷ codes "lambda" ∷ codes "load" ∷ codes "not" ∷ codes "or" ∷ codes "pass" ∷ codes "return" ∷ []

abbrev pub is_keyword : List ℕ → Bool
is_keyword s = in_table s keywords

-- Mark: + - * / // % ** ~ & | ^ << >> . , = ; : ( ) [ ] { } < > >= <= == != += -= *= /= //= %= &= |= ^= <<= >>=
abbrev pub marks : List (List ℕ)
marks =
    codes "+" ∷ codes "-" ∷ codes "*" ∷ codes "/" ∷ codes "//" ∷ codes "%" ∷ codes "**" ∷ codes "~" ∷ codes "&" ∷ codes "|" ∷ codes "^" ∷ codes "<<" ∷ codes ">>" ∷ codes "." ∷ codes "," ∷ codes "=" ∷ codes ";" ∷ codes ":" ∷ codes "(" ∷ codes ")" ∷ codes "[" ∷ codes "]" ∷ codes "{" ∷ codes "}" ∷ codes "<" ∷ codes ">" ∷ codes ">=" ∷ codes "<=" ∷ codes "==" ∷ codes "!=" ∷ codes "+=" ∷ codes "-=" ∷ codes "*=" ∷ codes "/=" ∷ codes "//=" ∷ codes "%=" ∷ codes "&=" ∷ codes "|=" ∷ codes "^=" ∷ codes "<<=" ∷ codes ">>=" ∷ []

abbrev pub is_mark : List ℕ → Bool
is_mark s = in_table s marks

-- Letters, digits and `_`. Letters are A to Z, a to z and every character from U+0080 on but U+FEFF.
-- In UTF-8 the bytes of those characters, and no others, are at least 128; U+FEFF is EF BB BF, and what begins with EF has three bytes.
-- So each byte from 128 on counts as a letter, but EF only with the two bytes after it, where they are not BB BF.
pub data IsLetters : List ℕ → Type 0 where
  none : IsLetters []
  one : {b : ℕ} {s : List ℕ} → (is_letter b || is_digit b) ≡ true → nat_eq b 239 ≡ false → IsLetters s → IsLetters (b ∷ s)
  three : {b c : ℕ} {s : List ℕ} → is_high b ≡ true → is_high c ≡ true → (nat_eq b 187 && nat_eq c 191) ≡ false → IsLetters s → IsLetters (239 ∷ b ∷ c ∷ s)

-- a letter or `_`, then letters, digits and `_`: a Name, where it is no keyword
abbrev pub IsWord : List ℕ → Type 0
IsWord [] = ⊥
IsWord (b ∷ s) = (is_digit b ≡ false) × IsLetters (b ∷ s)

-- none or more of these
abbrev pub Each : (ℕ → Bool) → List ℕ → Type 0
Each p [] = Unit {0}
Each p (b ∷ s) = (p b ≡ true) × Each p s

-- one or more of these
abbrev pub SomeOf : (ℕ → Bool) → List ℕ → Type 0
SomeOf p [] = ⊥
SomeOf p (b ∷ s) = (p b ≡ true) × Each p s

-- D: one or more decimal digits
abbrev pub IsDigits : List ℕ → Type 0
IsDigits s = SomeOf is_digit s

-- a sign and D
abbrev pub IsSigned : List ℕ → Type 0
IsSigned [] = ⊥
IsSigned (b ∷ s) = (is_sign b ≡ true) × IsDigits s

-- E: `e` or `E`, an optional sign, D
abbrev pub IsExponent : List ℕ → Type 0
IsExponent [] = ⊥
IsExponent (b ∷ s) = (is_e b ≡ true) × (IsDigits s ⊎ IsSigned s)

-- [E]
abbrev pub MayBeExponent : List ℕ → Type 0
MayBeExponent s = (s ≡ []) ⊎ IsExponent s

-- Number: D, `0x` or `0X` and hexadecimal digits, `0o` or `0O` and octal digits, D.[D][E], .D[E], DE
pub data IsNumber : List ℕ → Type 0 where
  whole : (d : List ℕ) → IsDigits d → IsNumber d
  hexadecimal : {b : ℕ} {d : List ℕ} → is_x b ≡ true → SomeOf is_hexadecimal d → IsNumber (48 ∷ b ∷ d)
  octal : {b : ℕ} {d : List ℕ} → is_o b ≡ true → SomeOf is_octal d → IsNumber (48 ∷ b ∷ d)
  pointed : (d f e : List ℕ) → IsDigits d → Each is_digit f → MayBeExponent e → IsNumber (d ++ (46 ∷ (f ++ e)))
  point_first : (d e : List ℕ) → IsDigits d → MayBeExponent e → IsNumber (46 ∷ (d ++ e))
  scaled : (d e : List ℕ) → IsDigits d → IsExponent e → IsNumber (d ++ e)

-- Pieces between single marks m: a character other than m, a newline or a backslash, or a backslash and any one character, CR LF counting as one.
-- A backslash takes the next byte; where that begins a longer character, its other bytes are pieces of their own, and the texts are the same.
pub data IsShort (m : ℕ) : List ℕ → Type 0 where
  short_end : IsShort m []
  short_plain : {b : ℕ} {s : List ℕ} → among b (m ∷ 10 ∷ 92 ∷ []) ≡ false → IsShort m s → IsShort m (b ∷ s)
  short_taken : {b : ℕ} {s : List ℕ} → IsShort m s → IsShort m (92 ∷ b ∷ s)
  short_line : {s : List ℕ} → IsShort m s → IsShort m (92 ∷ 13 ∷ 10 ∷ s)

-- Pieces between three marks m at each end: those above, a newline, or the mark. The text ends at the first three marks in a row that no backslash takes:
-- so at most two are right before each other piece, and none at the end. (A backslash and CR LF are the piece of a backslash and CR, and a newline.)
pub data IsLong (m : ℕ) : List ℕ → Type 0 where
  long_end : IsLong m []
  long_plain : (k b : ℕ) (s : List ℕ) → k < 3 → among b (m ∷ 92 ∷ []) ≡ false → IsLong m s → IsLong m (replicate k m ++ (b ∷ s))
  long_taken : (k b : ℕ) (s : List ℕ) → k < 3 → IsLong m s → IsLong m (replicate k m ++ (92 ∷ b ∷ s))

-- `"` or `'`, pieces, and the same mark, or three marks at each end
pub data IsQuoted : List ℕ → Type 0 where
  single : (m : ℕ) (s : List ℕ) → is_quote m ≡ true → IsShort m s → IsQuoted (m ∷ (s ++ (m ∷ [])))
  triple : (m : ℕ) (s : List ℕ) → is_quote m ≡ true → IsLong m s → IsQuoted (m ∷ m ∷ m ∷ (s ++ (m ∷ m ∷ m ∷ [])))

-- an optional prefix: r b rb br
abbrev pub prefixes : List (List ℕ)
prefixes = [] ∷ codes "r" ∷ codes "b" ∷ codes "rb" ∷ codes "br" ∷ []

abbrev pub is_prefix : List ℕ → Bool
is_prefix p = in_table p prefixes

-- String: an optional prefix, then a quoted text
abbrev pub IsString : List ℕ → Type 0
IsString s = (p q : List ℕ) × (s ≡ p ++ q) × (is_prefix p ≡ true) × IsQuoted q

-- the texts of each class; a Newline and an End are known by their place
abbrev pub IsLexeme : Class → List ℕ → Type 0
IsLexeme v.Name s = IsWord s × (is_keyword s ≡ false)
IsLexeme v.Keyword s = is_keyword s ≡ true
IsLexeme v.Number s = IsNumber s
IsLexeme v.String s = IsString s
IsLexeme v.Mark s = is_mark s ≡ true
IsLexeme v.Newline s = ⊥
IsLexeme v.End s = ⊥
