-- Identifiers, and kinds: identifiers joined by dots.
use Rattle.std.specs.Prelude.{◌==◌, ◌↔◌, ◌≡◌, Bool, true, false, [], ◌∷◌, ◌&&◌, ◌||◌, not, if◌then◌else◌}
use Rattle.std.specs.List.{list_all, slice_split}
use Rattle.bz_token.specs.declared.class.Class.TheVariants as class
use Rattle.bz_token.specs.Bytes.{is_digit, is_high, is_letter}
use Rattle.bz_token.specs.Lexemes.{is_keyword, IsLexeme}
use Rattle.bz_items.specs.Characters.{Bytes, full_stop}

-- Letters, digits and `_`. EF begins a character of three bytes, which is a letter unless it is U+FEFF, EF BB BF.
abbrev mutual
  pub are_letters : Bytes → Bool
  are_letters [] = true
  are_letters (byte ∷ rest) = if byte == 239 then end_a_letter rest else (is_letter byte || is_digit byte) && are_letters rest

  pub end_a_letter : Bytes → Bool
  end_a_letter (b ∷ c ∷ rest) = is_high b && is_high c && not (b == 187 && c == 191) && are_letters rest
  end_a_letter _ = false

-- a letter or `_`, then letters, digits and `_`
abbrev pub is_word_of_letters : Bytes → Bool
is_word_of_letters [] = false
is_word_of_letters (first ∷ rest) = not (is_digit first) && are_letters (first ∷ rest)

-- An identifier, such as the name of an attribute: no keyword.
abbrev pub is_identifier : Bytes → Bool
is_identifier text = is_word_of_letters text && not (is_keyword text)

-- It is a lexeme of class Name.
abbrev pub IdentifiersAreNames : Type 0
IdentifiersAreNames = (text : Bytes) → (is_identifier text ≡ true) ↔ IsLexeme class.Name text

-- The kind of a rule: identifiers joined by dots.
abbrev pub is_rule_kind : Bytes → Bool
is_rule_kind text = list_all is_identifier (slice_split (λ byte. byte == full_stop) text)
