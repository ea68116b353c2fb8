-- What a token is to the grammar: which keyword or mark, else its class.
use Rattle.std.specs.Prelude.{◌≡◌, ℕ, Bool, true, false, List, [], ◌∷◌, Option, Some, None, bytes_eq, if◌then◌else◌, codes}
use Rattle.bz_token.specs.declared.class.Class.{Class}
use Rattle.bz_token.specs.declared.class.Class.TheVariants as c
use Rattle.bz_lex.specs.declared.leaf.Leaf.{Leaf}
use Rattle.bz_lex.specs.declared.front.Front.{Front}
use Rattle.bz_states.specs.declared.symbol.Symbol.{Symbol}
use Rattle.bz_states.specs.declared.symbol.Symbol.TheVariants as y
use Rattle.bz_states.specs.declared.token.TokenSet.{TokenSet}
use Rattle.bz_grammar.specs.Shapes.{is_one_of}
use Rattle.bz_grammar.specs.Reading.{starts_with}
use Rattle.bz_states.specs.Tokens.{bare, terminals_of}

abbrev mark : List ℕ → Leaf
mark token = bare c.Mark token

abbrev keyword : List ℕ → Leaf
keyword token = bare c.Keyword token

-- A token of each symbol. No rule of the grammar distinguishes it from another of the same symbol; no rule requires the empty ones.
abbrev pub example : Symbol → Leaf
example y.Nothing = keyword []
example y.Name = bare c.Name []
example y.Number = bare c.Number []
example y.String = bare c.String []
example y.Newline = bare c.Newline []
example y.End = bare c.End []
example y.OtherKeyword = keyword []
example y.And = keyword (codes "and")
example y.Def = keyword (codes "def")
example y.Elif = keyword (codes "elif")
example y.Else = keyword (codes "else")
example y.Flow = keyword (codes "break")
example y.For = keyword (codes "for")
example y.If = keyword (codes "if")
example y.In = keyword (codes "in")
example y.Lambda = keyword (codes "lambda")
example y.Load = keyword (codes "load")
example y.Not = keyword (codes "not")
example y.Or = keyword (codes "or")
example y.Return = keyword (codes "return")
example y.OtherMark = mark []
example y.Comma = mark (codes ",")
example y.Equals = mark (codes "=")
example y.OpenRound = mark (codes "(")
example y.CloseRound = mark (codes ")")
example y.OpenSquare = mark (codes "[")
example y.CloseSquare = mark (codes "]")
example y.OpenCurly = mark (codes "{")
example y.CloseCurly = mark (codes "}")
example y.Colon = mark (codes ":")
example y.Dot = mark (codes ".")
example y.Plus = mark (codes "+")
example y.Minus = mark (codes "-")
example y.Percent = mark (codes "%")
example y.Star = mark (codes "*")
example y.DoubleStar = mark (codes "**")
example y.Bar = mark (codes "|")
example y.Semicolon = mark (codes ";")
example y.Augmented = mark (codes "+=")
example y.Order = mark (codes "==")
example y.Slash = mark (codes "/")
example y.Tilde = mark (codes "~")
example y.Ampersand = mark (codes "&")
example y.Caret = mark (codes "^")
example y.Shift = mark (codes "<<")

-- the symbol says of each set of tokens whether the first of these leaves is one of them
abbrev pub DecidesFirst : Symbol → List Leaf → Type 0
DecidesFirst symbol leaves = (token : TokenSet) → is_one_of (terminals_of token) (example symbol) ≡ starts_with (terminals_of token) leaves

-- the front of the next leaf, where there is one
abbrev pub next_of : Bool → Front → Option Front
next_of true front = Some front
next_of false front = None

-- a text that the grammar requires, and what it is
pub record SymbolEntry : Type 0 where
  pub text : List ℕ
  pub symbol : Symbol

abbrev these : Symbol → List (List ℕ) → List SymbolEntry → List SymbolEntry
these symbol [] rest = rest
these symbol (text ∷ texts) rest = record { text = text; symbol = symbol } ∷ these symbol texts rest

abbrev one : Symbol → List SymbolEntry → List SymbolEntry
one symbol rest = these symbol ((example symbol).token ∷ []) rest

abbrev pub later_keywords : List SymbolEntry
later_keywords = one y.Lambda (one y.Load (one y.Not (one y.Or (one y.Return (these y.Flow (codes "break" ∷ codes "continue" ∷ codes "pass" ∷ []) [])))))

abbrev pub keyword_table : List SymbolEntry
keyword_table = one y.And (one y.Def (one y.Elif (one y.Else (one y.For (one y.If (one y.In later_keywords))))))

abbrev pub mark_table : List SymbolEntry
mark_table =
    one y.Comma (one y.Equals (one y.OpenRound (one y.CloseRound (one y.OpenSquare (one y.CloseSquare (one y.OpenCurly (one y.CloseCurly (one y.Colon (one y.Dot (one y.Plus (one y.Minus (one y.Percent (one y.Star (one y.DoubleStar (one y.Bar (one y.Semicolon
    (these y.Order (codes "==" ∷ codes "!=" ∷ codes "<" ∷ codes ">" ∷ codes "<=" ∷ codes ">=" ∷ [])
    (these y.Augmented (codes "+=" ∷ codes "-=" ∷ codes "*=" ∷ codes "/=" ∷ codes "//=" ∷ codes "%=" ∷ codes "&=" ∷ codes "|=" ∷ codes "^=" ∷ codes "<<=" ∷ codes ">>=" ∷ [])
    (these y.Slash (codes "/" ∷ codes "//" ∷ []) (one y.Tilde (one y.Ampersand (one y.Caret (these y.Shift (codes "<<" ∷ codes ">>" ∷ []) [])))))))))))))))))))))))

-- the symbol of a text by a table, or another one where the table has no such text
abbrev pub known : List SymbolEntry → Symbol → List ℕ → Symbol
known [] other token = other
known (entry ∷ entries) other token = if bytes_eq token entry.text then entry.symbol else known entries other token

abbrev pub symbol_of_token : Class → List ℕ → Symbol
symbol_of_token c.Name token = y.Name
symbol_of_token c.Keyword token = known keyword_table y.OtherKeyword token
symbol_of_token c.Number token = y.Number
symbol_of_token c.String token = y.String
symbol_of_token c.Mark token = known mark_table y.OtherMark token
symbol_of_token c.Newline token = y.Newline
symbol_of_token c.End token = y.End
