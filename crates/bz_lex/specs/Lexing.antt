-- The tokens of a text that is read for itself, without lines.
use Rattle.std.specs.Prelude.{◌≡◌, ℕ, true, false, List, [], ◌∷◌, ◌++◌}
use Rattle.bz_token.specs.declared.class.Class.{Class}
use Rattle.bz_token.specs.Tokens.{IsToken}
use Rattle.bz_lex.specs.Gaps.{IsGap}

-- Starlark's lexical elements: the tokens, each the longest lexeme that begins at its place, cover the text in order
-- together with gaps; each comment has its newline in its gap, but for one that ends the text.
abbrev pub AreLexemes : List (List ℕ) → List ℕ → Type 0
AreLexemes [] text = IsGap true true text
AreLexemes (token ∷ tokens) text =
    (class : Class) × (gap : List ℕ) × (rest : List ℕ) × (text ≡ gap ++ (token ++ rest)) × IsGap true false gap × IsToken class token rest × AreLexemes tokens rest

-- the text has no such tokens
abbrev pub NoLexemes : List ℕ → Type 0
NoLexemes text = (tokens : List (List ℕ)) → AreLexemes tokens text → ⊥
