-- Laws of tokens.
use Rattle.std.specs.Prelude.{◌≡◌, ℕ, Some, true, List, [], ◌∷◌, ◌++◌, codes}
use Rattle.bz_token.specs.declared.class.Class.{Class}
use Rattle.bz_token.specs.declared.class.Class.TheVariants as v
use Rattle.bz_token.specs.Bytes.{is_solid, is_separator, is_bracket_or_comma, is_quote}
use Rattle.bz_token.specs.Classes.{class_number, class_of}
use Rattle.bz_token.specs.Lexemes.{IsLexeme, marks, keywords, is_prefix}
use Rattle.bz_token.specs.Tokens.{IsToken, NoToken, OpensString}

-- no text begins with two tokens
abbrev pub OneToken : Type 0
OneToken = (c d : Class) (t r u s : List ℕ) → IsToken c t r → IsToken d u s → t ++ r ≡ u ++ s → (c ≡ d) × (t ≡ u)

-- a token begins with a byte that goes on with no gap
abbrev pub Begins : Type 0
Begins = (c : Class) (t r : List ℕ) → IsToken c t r → (b : ℕ) × (u : List ℕ) × (t ≡ b ∷ u) × (is_solid b ≡ true)

-- a lexeme is a token before a space, a newline, a bracket or a comma
abbrev pub Separated : Type 0
Separated = (c : Class) (t r : List ℕ) (b : ℕ) → IsLexeme c t → is_separator b ≡ true → IsToken c t (b ∷ r)

-- a bracket or a comma is a token before any text
abbrev pub Single : Type 0
Single = (b : ℕ) (r : List ℕ) → is_bracket_or_comma b ≡ true → IsToken v.Mark (b ∷ []) r

-- each of these texts is a token of the class before a newline
abbrev pub AllTokens : Class → List (List ℕ) → Type 0
AllTokens c [] = Unit {0}
AllTokens c (s ∷ ss) = IsToken c s (10 ∷ []) × AllTokens c ss

abbrev pub EachMark : Type 0
EachMark = AllTokens v.Mark marks

abbrev pub EachKeyword : Type 0
EachKeyword = AllTokens v.Keyword keywords

-- texts of each form of numbers
abbrev pub numbers : List (List ℕ)
numbers =
    codes "0" ∷ codes "7" ∷ codes "007" ∷ codes "1234567890" ∷ codes "0x1F" ∷ codes "0XabCDef" ∷ codes "0o17" ∷ codes "0O7" ∷ codes "1." ∷ codes "0." ∷ codes "1.5" ∷ codes "1.e5" ∷ codes "1.5E-3" ∷ codes "08.25e+10" ∷ codes ".5" ∷ codes ".5e1" ∷ codes ".25E-2" ∷ codes ".0e+0" ∷ codes "1e5" ∷ codes "0E5" ∷ codes "12e-34" ∷ codes "3E+4" ∷ []

abbrev pub EachNumber : Type 0
EachNumber = AllTokens v.Number numbers

-- `1..real` is cut as `1.` `.` `real`, and `1.real` as `1.` `real`
abbrev pub Cuts : Type 0
Cuts =
    IsToken v.Number (codes "1.") (codes ".real") × IsToken v.Mark (codes ".") (codes "real") × IsToken v.Number (codes "1.") (codes "real") × IsToken v.Name (codes "real") []

-- the class of the number of a class is that class
abbrev pub ClassOfNumber : Type 0
ClassOfNumber = (class : Class) → class_of (class_number class) ≡ Some class

-- A token at which a string begins that is not closed is its prefix: after it is a quotation mark, and no token begins there.
abbrev pub OpensAfterPrefix : Type 0
OpensAfterPrefix = (c : Class) (t r : List ℕ) → IsToken c t r → OpensString (t ++ r) → (mark : ℕ) × (back : List ℕ) × (is_prefix t ≡ true) × (r ≡ mark ∷ back) × (is_quote mark ≡ true) × NoToken r
