-- Which lexeme is the token where it begins.
use Rattle.std.specs.Prelude.{◌≡◌, ◌≤◌, ℕ, true, List, [], ◌∷◌, ◌++◌, length, take, drop}
use Rattle.bz_token.specs.declared.class.Class.{Class}
use Rattle.bz_token.specs.declared.class.Class.TheVariants as v
use Rattle.bz_token.specs.Bytes.{is_quote}
use Rattle.bz_token.specs.Lexemes.{IsLexeme, is_prefix}

-- A token and the text after it: it is the longest lexeme that begins at its place, and `""` or `''`, with or without a prefix, is no token right before a third such mark.
pub record IsToken (class : Class) (token rest : List ℕ) : Type 0 where
  pub lexeme : IsLexeme class token
  pub longest : (other : Class) (front back : List ℕ) → front ++ back ≡ token ++ rest → IsLexeme other front → length front ≤ length token
  pub no_third : (prefix : List ℕ) (mark : ℕ) (back : List ℕ) → is_prefix prefix ≡ true → is_quote mark ≡ true → token ≡ prefix ++ (mark ∷ mark ∷ []) → rest ≡ mark ∷ back → ⊥

-- the text begins with no token
abbrev pub NoToken : List ℕ → Type 0
NoToken text = (class : Class) (token rest : List ℕ) → token ++ rest ≡ text → IsToken class token rest → ⊥

-- the first n bytes of the text are a token of this class
abbrev pub TokenAt : Class → ℕ → List ℕ → Type 0
TokenAt class n text = (n ≤ length text) × IsToken class (take n text) (drop n text)

-- A string begins here that is not closed: an optional prefix and a quotation mark are in front, and the token there is no string.
pub record OpensString (text : List ℕ) : Type 0 where
  pub marked : (prefix : List ℕ) × (mark : ℕ) × (back : List ℕ) × (text ≡ prefix ++ (mark ∷ back)) × (is_prefix prefix ≡ true) × (is_quote mark ≡ true)
  pub unclosed : (string rest : List ℕ) → string ++ rest ≡ text → IsToken v.String string rest → ⊥
