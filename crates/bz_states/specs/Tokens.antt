-- The tokens that the grammar requires, and what is said of one that is taken.
use Rattle.std.specs.Prelude.{◌≡◌, ℕ, List, [], ◌++◌, Option, None, Result, Ok, Err, codes}
use Rattle.bz_token.specs.declared.class.Class.{Class}
use Rattle.bz_lex.specs.declared.leaf.Leaf.{Leaf}
use Rattle.bz_grammar.specs.declared.tree.Part.{Part}
use Rattle.bz_states.specs.declared.token.TokenSet.{TokenSet}
use Rattle.bz_states.specs.declared.token.TokenSet.TheVariants as t
use Rattle.bz_states.specs.declared.leaves.ParseHalt.{ParseHalt}
use Rattle.bz_states.specs.declared.leaves.ParseHalt.TheVariants as h
use Rattle.bz_grammar.specs.Shapes.{Terminal, name, string, simple, newline, end, open_round, close_round, open_square, close_square, open_curly, close_curly, comma_mark, colon_mark, semicolon, dot, equals, assigns, stars, signs, orders, shifts, sums, products, flows, one_mark, one_keyword, clause, stmt, expr}
use Rattle.bz_grammar.specs.Reading.{Read, token_part, starts, first_of, suffix_plan}

abbrev pub terminals_of : TokenSet → List Terminal
terminals_of t.Name = name
terminals_of t.String = string
terminals_of t.Simple = simple
terminals_of t.Newline = newline
terminals_of t.End = end
terminals_of t.OpenRound = open_round
terminals_of t.CloseRound = close_round
terminals_of t.OpenSquare = open_square
terminals_of t.CloseSquare = close_square
terminals_of t.OpenCurly = open_curly
terminals_of t.CloseCurly = close_curly
terminals_of t.Comma = comma_mark
terminals_of t.Colon = colon_mark
terminals_of t.Semicolon = semicolon
terminals_of t.Dot = dot
terminals_of t.Equals = equals
terminals_of t.Assigns = assigns
terminals_of t.Stars = stars
terminals_of t.Signs = signs
terminals_of t.Orders = orders
terminals_of t.Compares = orders ++ one_keyword (codes "not")
terminals_of t.Suffixes = first_of suffix_plan
terminals_of t.Bar = one_mark (codes "|")
terminals_of t.Caret = one_mark (codes "^")
terminals_of t.Ampersand = one_mark (codes "&")
terminals_of t.Shifts = shifts
terminals_of t.Sums = sums
terminals_of t.Products = products
terminals_of t.Clauses = starts clause
terminals_of t.Statements = starts stmt
terminals_of t.Expressions = starts expr
terminals_of t.SliceStops = close_square ++ colon_mark
terminals_of t.Ends = comma_mark ++ (close_round ++ (close_square ++ (close_curly ++ (colon_mark ++ (equals ++ (semicolon ++ newline))))))
terminals_of t.Star = one_mark (codes "*")
terminals_of t.DoubleStar = one_mark (codes "**")
terminals_of t.Flow = flows
terminals_of t.Def = one_keyword (codes "def")
terminals_of t.Elif = one_keyword (codes "elif")
terminals_of t.Lambda = one_keyword (codes "lambda")
terminals_of t.Return = one_keyword (codes "return")
terminals_of t.Load = one_keyword (codes "load")
terminals_of t.If = one_keyword (codes "if")
terminals_of t.Else = one_keyword (codes "else")
terminals_of t.Or = one_keyword (codes "or")
terminals_of t.And = one_keyword (codes "and")
terminals_of t.Not = one_keyword (codes "not")
terminals_of t.In = one_keyword (codes "in")
terminals_of t.For = one_keyword (codes "for")

-- a token without its gap, which no terminal requires
abbrev pub bare : Class → List ℕ → Leaf
bare class token = record { class = class; gap = []; token = token }

-- what a halt says of what was to be read: nothing where memory was refused
abbrev pub Halts : {X : Type 0} → ParseHalt → Option X → Type 0
Halts h.Memory read = Unit {0}
Halts h.Unexpected read = read ≡ None

abbrev pub Fails : {X Y : Type 0} → Result X ParseHalt → Option Y → Type 0
Fails (Ok x) read = Unit {0}
Fails (Err e) read = Halts e read

-- one of these tokens
unfoldable pub token_at : List Terminal → Read Part
token_at terminals ts = token_part terminals ts
