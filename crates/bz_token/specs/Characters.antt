-- Lexemes by their characters. The bytes of a text are a lexeme just where its characters are one, in the words of the same table:
-- each set but the names' is said in the same terms of a list of characters as of a list of bytes.
use Rattle.std.specs.Prelude.{◌≡◌, ◌↔◌, ℕ, Bool, true, false, List, [], ◌∷◌, ◌&&◌, ◌||◌, not, nat_eq, encode_utf8_all}
use Rattle.bz_token.specs.declared.class.Class.{Class}
use Rattle.bz_token.specs.declared.class.Class.TheVariants as v
use Rattle.bz_token.specs.Bytes.{is_digit, is_letter}
use Rattle.bz_token.specs.Lexemes.{Each, is_keyword, IsLexeme}

-- a letter or `_`: A to Z, a to z, `_`, and every character from U+0080 on but U+FEFF
abbrev pub is_letter_character : ℕ → Bool
is_letter_character c = is_letter c && not (nat_eq c 65279)

-- a letter or `_`, then letters, digits and `_`
abbrev pub IsWordOfCharacters : List ℕ → Type 0
IsWordOfCharacters [] = ⊥
IsWordOfCharacters (c ∷ cs) = (is_letter_character c ≡ true) × Each (λ d. is_letter_character d || is_digit d) cs

-- the texts of each class, as lists of characters
abbrev pub IsLexemeOfCharacters : Class → List ℕ → Type 0
IsLexemeOfCharacters v.Name cs = IsWordOfCharacters cs × (is_keyword cs ≡ false)
IsLexemeOfCharacters c cs = IsLexeme c cs

abbrev pub ByCharacters : Type 0
ByCharacters = (class : Class) (cs : List ℕ) → IsLexeme class (encode_utf8_all cs) ↔ IsLexemeOfCharacters class cs
