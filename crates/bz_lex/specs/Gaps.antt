-- Gaps: what may be before a token.
use Rattle.std.specs.Prelude.{◌≡◌, ◌≢◌, ℕ, Bool, true, false, List, [], ◌∷◌, ◌++◌, ◌||◌, ◌&&◌, nat_eq, if◌then◌else◌}
use Rattle.bz_items.specs.Characters.{backslash, carriage_return, line_feed, number_sign, space, tab}
use Rattle.bz_token.specs.Bytes.{is_blank}

-- no newline is in the text
abbrev pub IsOneLine : List ℕ → Type 0
IsOneLine [] = Unit {0}
IsOneLine (byte ∷ rest) = (byte ≢ line_feed) × IsOneLine rest

-- Starlark's gaps between tokens: a gap is a sequence of spaces, tabs, newlines, carriage returns, backslashes right
-- before a newline or before CR LF (an escaped newline), and comments. A comment runs from # to the next newline or the
-- end of the text.
-- newlines: whether unescaped newlines may be in the gap, and with them comments that have their newline in the gap.
-- unclosed: whether the last piece may be a comment whose newline, if it has one, is after the gap.
pub data IsGap (newlines unclosed : Bool) : List ℕ → Type 0 where
  nothing : {text : List ℕ} → text ≡ [] → IsGap newlines unclosed text
  blank : {text : List ℕ} (byte : ℕ) (rest : List ℕ) → text ≡ byte ∷ rest → is_blank byte ≡ true → IsGap newlines unclosed rest → IsGap newlines unclosed text
  escaped : {text : List ℕ} (rest : List ℕ) → text ≡ backslash ∷ line_feed ∷ rest → IsGap newlines unclosed rest → IsGap newlines unclosed text
  escaped_return : {text : List ℕ} (rest : List ℕ) → text ≡ backslash ∷ carriage_return ∷ line_feed ∷ rest → IsGap newlines unclosed rest → IsGap newlines unclosed text
  unescaped : {text : List ℕ} (rest : List ℕ) → text ≡ line_feed ∷ rest → newlines ≡ true → IsGap newlines unclosed rest → IsGap newlines unclosed text
  comment : {text : List ℕ} (words rest : List ℕ) → text ≡ number_sign ∷ (words ++ line_feed ∷ rest) → IsOneLine words → newlines ≡ true → IsGap newlines unclosed rest → IsGap newlines unclosed text
  last_comment : {text : List ℕ} (words : List ℕ) → text ≡ number_sign ∷ words → IsOneLine words → unclosed ≡ true → IsGap newlines unclosed text

-- The byte right before what follows is neither a space nor a tab.
abbrev pub is_flush : List ℕ → Bool
is_flush [] = true
is_flush (byte ∷ []) = if nat_eq byte space || nat_eq byte tab then false else true
is_flush (byte ∷ second ∷ rest) = is_flush (second ∷ rest)

-- a space or a tab
abbrev pub is_indent : ℕ → Bool
is_indent byte = nat_eq byte space || nat_eq byte tab

-- nothing but spaces and tabs
abbrev pub are_indents : List ℕ → Bool
are_indents [] = true
are_indents (byte ∷ rest) = is_indent byte && are_indents rest

-- The indent of what follows a gap: the spaces and tabs right before it.
abbrev pub indent : List ℕ → List ℕ
indent [] = []
indent (byte ∷ rest) = if are_indents (byte ∷ rest) then byte ∷ rest else indent rest
