-- The grammar: which parts are in a node of each kind, from left to right.
use Rattle.std.specs.Prelude.{◌≡◌, ℕ, Bool, true, false, List, [], ◌∷◌, ◌++◌, ◌&&◌, ◌||◌, ◌⊎◌, nat_eq, nat_le, bytes_eq, codes}
use Rattle.bz_token.specs.declared.class.Class.{Class}
use Rattle.bz_token.specs.declared.class.Class.TheVariants as c
use Rattle.bz_token.specs.Classes.{class_number}
use Rattle.bz_lex.specs.declared.leaf.Leaf.{Leaf}
use Rattle.bz_grammar.specs.declared.kind.Kind.{Kind}
use Rattle.bz_grammar.specs.declared.kind.Kind.TheVariants as k
use Rattle.bz_grammar.specs.Kinds.{kind_number}
use Rattle.bz_grammar.specs.declared.tree.Part.{Part, Node'}
use Rattle.bz_grammar.specs.declared.tree.Part as p

-- ---- tokens of the table

-- any token of a class, or this very keyword or mark
pub data Terminal : Type 0 where
  any : Class → Terminal
  this : Class → List ℕ → Terminal

abbrev pub is_class : Class → Class → Bool
is_class class other = nat_eq (class_number class) (class_number other)

abbrev pub is_terminal : Terminal → Leaf → Bool
is_terminal (any class) leaf = is_class leaf.class class
is_terminal (this class token) leaf = is_class leaf.class class && bytes_eq leaf.token token

abbrev pub is_one_of : List Terminal → Leaf → Bool
is_one_of [] leaf = false
is_one_of (terminal ∷ others) leaf = is_terminal terminal leaf || is_one_of others leaf

abbrev pub name : List Terminal
name = any c.Name ∷ []

abbrev pub string : List Terminal
string = any c.String ∷ []

abbrev pub simple : List Terminal
simple = any c.Name ∷ any c.Number ∷ any c.String ∷ []

abbrev pub newline : List Terminal
newline = any c.Newline ∷ []

abbrev pub end : List Terminal
end = any c.End ∷ []

-- these marks; these keywords
abbrev pub mark_terminals : List (List ℕ) → List Terminal
mark_terminals [] = []
mark_terminals (token ∷ tokens) = this c.Mark token ∷ mark_terminals tokens

abbrev pub keyword_terminals : List (List ℕ) → List Terminal
keyword_terminals [] = []
keyword_terminals (token ∷ tokens) = this c.Keyword token ∷ keyword_terminals tokens

abbrev pub one_mark : List ℕ → List Terminal
one_mark token = mark_terminals (token ∷ [])

abbrev pub one_keyword : List ℕ → List Terminal
one_keyword token = keyword_terminals (token ∷ [])

abbrev pub open_round : List Terminal
open_round = one_mark (codes "(")

abbrev pub close_round : List Terminal
close_round = one_mark (codes ")")

abbrev pub open_square : List Terminal
open_square = one_mark (codes "[")

abbrev pub close_square : List Terminal
close_square = one_mark (codes "]")

abbrev pub open_curly : List Terminal
open_curly = one_mark (codes "{")

abbrev pub close_curly : List Terminal
close_curly = one_mark (codes "}")

abbrev pub comma_mark : List Terminal
comma_mark = one_mark (codes ",")

abbrev pub colon_mark : List Terminal
colon_mark = one_mark (codes ":")

abbrev pub semicolon : List Terminal
semicolon = one_mark (codes ";")

abbrev pub dot : List Terminal
dot = one_mark (codes ".")

abbrev pub equals : List Terminal
equals = one_mark (codes "=")

-- `=` or an augmented form
abbrev pub assigns : List Terminal
assigns = mark_terminals (codes "=" ∷ codes "+=" ∷ codes "-=" ∷ codes "*=" ∷ codes "/=" ∷ codes "//=" ∷ codes "%=" ∷ codes "&=" ∷ codes "|=" ∷ codes "^=" ∷ codes "<<=" ∷ codes ">>=" ∷ [])

abbrev pub stars : List Terminal
stars = mark_terminals (codes "*" ∷ codes "**" ∷ [])

abbrev pub signs : List Terminal
signs = mark_terminals (codes "+" ∷ codes "-" ∷ codes "~" ∷ [])

abbrev pub orders : List Terminal
orders = mark_terminals (codes "==" ∷ codes "!=" ∷ codes "<" ∷ codes ">" ∷ codes "<=" ∷ codes ">=" ∷ []) ++ one_keyword (codes "in")

abbrev pub shifts : List Terminal
shifts = mark_terminals (codes "<<" ∷ codes ">>" ∷ [])

abbrev pub sums : List Terminal
sums = mark_terminals (codes "+" ∷ codes "-" ∷ [])

abbrev pub products : List Terminal
products = mark_terminals (codes "*" ∷ codes "/" ∷ codes "//" ∷ codes "%" ∷ [])

abbrev pub flows : List Terminal
flows = keyword_terminals (codes "break" ∷ codes "continue" ∷ codes "pass" ∷ [])

-- ---- what may be at a place

-- A sort names the alternatives of the grammar that make no node.
-- level n: an expression of that rank or a lower one; argument = test | Named | Star; entry = Entry; clause = For | If;
-- first_clause = For; loaded = String | Alias; small = Bare | Assign | Load | Return | Flow; line = Line;
-- param = Name | Param; stmt = Line | Def | IfStmt | ForStmt; suite = Suite | Line.
pub data Nonterminal : Type 0 where
  level : ℕ → Nonterminal
  argument entry clause first_clause loaded small line param stmt suite : Nonterminal

-- Operators bind the tighter the lower their rank: 0 primary, 1 unary, then the binary operators from products on,
-- 8 compare, 9 not, 10 and, 11 or, 12 conditions, 13 test (lambdas), 14 expr.
abbrev pub rank : Kind → ℕ
rank k.Unary = 1
rank k.Product = 2
rank k.Sum = 3
rank k.Shift = 4
rank k.BitAnd = 5
rank k.Xor = 6
rank k.BitOr = 7
rank k.Compare = 8
rank k.Not = 9
rank k.And = 10
rank k.Or = 11
rank k.Cond = 12
rank k.Lambda = 13
rank k.Row = 14
rank _ = 0

abbrev pub primary : Nonterminal
primary = level 0

abbrev pub bitor : Nonterminal
bitor = level (rank k.BitOr)

abbrev pub not_level : Nonterminal
not_level = level (rank k.Not)

abbrev pub and_level : Nonterminal
and_level = level (rank k.And)

abbrev pub or_level : Nonterminal
or_level = level (rank k.Or)

abbrev pub test : Nonterminal
test = level (rank k.Lambda)

abbrev pub expr : Nonterminal
expr = level (rank k.Row)

abbrev pub is_expression : Kind → Bool
is_expression k.File = false
is_expression k.Line = false
is_expression k.Bare = false
is_expression k.Assign = false
is_expression k.Load = false
is_expression k.Alias = false
is_expression k.Named = false
is_expression k.Star = false
is_expression k.Entry = false
is_expression k.For = false
is_expression k.If = false
is_expression k.Def = false
is_expression k.Param = false
is_expression k.IfStmt = false
is_expression k.ForStmt = false
is_expression k.Suite = false
is_expression k.Return = false
is_expression k.Flow = false
is_expression _ = true

abbrev pub is_kind : Kind → Kind → Bool
is_kind kind other = nat_eq (kind_number kind) (kind_number other)

-- the leaves that have a sort
abbrev pub leaves_at : Nonterminal → List Terminal
leaves_at (level n) = simple
leaves_at argument = simple
leaves_at loaded = string
leaves_at param = name
leaves_at _ = []

-- whether nodes of a kind have a sort
abbrev pub nonterminal_has_kind : Nonterminal → Kind → Bool
nonterminal_has_kind (level n) kind = is_expression kind && nat_le (rank kind) n
nonterminal_has_kind argument kind = (is_expression kind && nat_le (rank kind) (rank k.Lambda)) || (is_kind kind k.Named || is_kind kind k.Star)
nonterminal_has_kind entry kind = is_kind kind k.Entry
nonterminal_has_kind clause kind = is_kind kind k.For || is_kind kind k.If
nonterminal_has_kind first_clause kind = is_kind kind k.For
nonterminal_has_kind loaded kind = is_kind kind k.Alias
nonterminal_has_kind small kind = is_kind kind k.Bare || (is_kind kind k.Assign || (is_kind kind k.Load || (is_kind kind k.Return || is_kind kind k.Flow)))
nonterminal_has_kind line kind = is_kind kind k.Line
nonterminal_has_kind param kind = is_kind kind k.Param
nonterminal_has_kind stmt kind = is_kind kind k.Line || (is_kind kind k.Def || (is_kind kind k.IfStmt || is_kind kind k.ForStmt))
nonterminal_has_kind suite kind = is_kind kind k.Suite || is_kind kind k.Line

abbrev pub has_nonterminal : Nonterminal → Part → Bool
has_nonterminal nonterminal (p.Leaf leaf) = is_one_of (leaves_at nonterminal) leaf
has_nonterminal nonterminal (Node' kind size row) = nonterminal_has_kind nonterminal kind

-- whether the part is one of these tokens
abbrev pub has_token : List Terminal → Part → Bool
has_token terminals (p.Leaf leaf) = is_one_of terminals leaf
has_token terminals (Node' kind size row) = false

-- ---- shapes: what is in a node from left to right

pub data Shape : Type 0 where
  -- nothing has this shape
  none : Shape
  -- nothing more
  done : Shape
  -- one token of these, and then
  tok : List Terminal → Shape → Shape
  -- one part of this sort, and then
  sub : Nonterminal → Shape → Shape
  -- either
  alt : Shape → Shape → Shape
  -- parts of this sort, at least one, a token of these between two of them (and where true is written, perhaps after
  -- the last), and then
  list : Nonterminal → List Terminal → Bool → Shape → Shape
  -- parts of this sort, none or more, and then
  each : Nonterminal → Shape → Shape
  -- what has the first shape, none or more times, and then
  times : Shape → Shape → Shape

-- Parts of which P holds, with a separator between two of them, and then what K says.
abbrev mutual
  pub Listed : (Part → Type 0) → List Terminal → Bool → (List Part → Type 0) → List Part → Type 0
  Listed P separators last K [] = ⊥
  Listed P separators last K (x ∷ xs) = P x × After P separators last K xs

  pub After : (Part → Type 0) → List Terminal → Bool → (List Part → Type 0) → List Part → Type 0
  After P separators last K [] = K []
  After P separators last K (x ∷ xs) = K (x ∷ xs) ⊎ ((has_token separators x ≡ true) × (Listed P separators last K xs ⊎ ((last ≡ true) × K xs)))

-- none or more parts of which P holds, and then what K says
abbrev pub Several : (Part → Type 0) → (List Part → Type 0) → List Part → Type 0
Several P K [] = K []
Several P K (x ∷ xs) = K (x ∷ xs) ⊎ (P x × Several P K xs)

-- none or more rows of parts of which F holds, and then what K says
pub data Times (F K : List Part → Type 0) : List Part → Type 0 where
  no_more : {xs : List Part} → K xs → Times F K xs
  once_more : {xs : List Part} (front back : List Part) → xs ≡ front ++ back → F front → Times F K back → Times F K xs

-- The parts have the shape, where P says what a part of a sort is.
abbrev pub Fits : (Nonterminal → Part → Type 0) → Shape → List Part → Type 0
Fits P none xs = ⊥
Fits P done [] = Unit {0}
Fits P done (x ∷ xs) = ⊥
Fits P (tok terminals then_) [] = ⊥
Fits P (tok terminals then_) (x ∷ xs) = (has_token terminals x ≡ true) × Fits P then_ xs
Fits P (sub nonterminal then_) [] = ⊥
Fits P (sub nonterminal then_) (x ∷ xs) = P nonterminal x × Fits P then_ xs
Fits P (alt left right) xs = Fits P left xs ⊎ Fits P right xs
Fits P (list nonterminal separators last then_) xs = Listed (P nonterminal) separators last (Fits P then_) xs
Fits P (each nonterminal then_) xs = Several (P nonterminal) (Fits P then_) xs
Fits P (times group then_) xs = Times (Fits P group) (Fits P then_) xs

-- ---- the table

-- perhaps a part of a sort, and then
abbrev pub opt : Nonterminal → Shape → Shape
opt nonterminal then_ = alt then_ (sub nonterminal then_)

-- what is in brackets, after the opening one: [x {"," x} [","]] and the closing one, and then
abbrev pub enclosed : Nonterminal → List Terminal → Shape → Shape
enclosed nonterminal close then_ = alt (tok close then_) (list nonterminal comma_mark true (tok close then_))

abbrev pub items : Nonterminal → List Terminal → Shape
items nonterminal close = enclosed nonterminal close done

-- next op next {op next}, where next is of a sort
abbrev pub flat : Nonterminal → List Terminal → Shape
flat nonterminal operators = sub nonterminal (tok operators (list nonterminal operators false done))

-- after the first colon of a slice: [test] [":" [test]] "]"
abbrev pub slice_end : Shape
slice_end = opt test (alt (tok close_square done) (tok colon_mark (opt test (tok close_square done))))

-- a parameter with stars: "*" [Name] | "**" Name
abbrev pub starred : Shape
starred = alt (tok (one_mark (codes "*")) (alt (tok name done) done)) (tok (one_mark (codes "**")) (tok name done))

-- after a test: ":" suite
abbrev pub owned : Shape
owned = tok colon_mark (sub suite done)

-- {"elif" test ":" suite} ["else" ":" suite]
abbrev pub branches : Shape
branches = times (tok (one_keyword (codes "elif")) (sub test owned)) (alt (tok (one_keyword (codes "else")) owned) done)

-- Starlark's grammar, a line for each kind.
abbrev pub bzl_shape : Kind → Shape
-- File = {stmt} End
bzl_shape k.File = each stmt (tok end done)
-- Line = small {";" small} [";"] Newline
bzl_shape k.Line = list small semicolon true (tok newline done)
-- Bare = expr
bzl_shape k.Bare = sub expr done
-- Assign = expr ("=" or an augmented form) expr
bzl_shape k.Assign = sub expr (tok assigns (sub expr done))
-- Load = "load" "(" String {"," (String | Alias)} [","] ")"
bzl_shape k.Load = tok (one_keyword (codes "load")) (tok open_round (tok string (alt (tok close_round done) (tok comma_mark (items loaded close_round)))))
-- Alias = Name "=" String
bzl_shape k.Alias = tok name (tok equals (tok string done))
-- Row = test "," test {"," test}
bzl_shape k.Row = flat test comma_mark
-- Cond = or "if" or "else" test
bzl_shape k.Cond = sub or_level (tok (one_keyword (codes "if")) (sub or_level (tok (one_keyword (codes "else")) (sub test done))))
-- Or = and "or" and {"or" and}
bzl_shape k.Or = flat and_level (one_keyword (codes "or"))
-- And = not "and" not {"and" not}
bzl_shape k.And = flat not_level (one_keyword (codes "and"))
-- Not = "not" not
bzl_shape k.Not = tok (one_keyword (codes "not")) (sub not_level done)
-- Compare = bitor op bitor; op: == != < > <= >= in, or "not" "in"
bzl_shape k.Compare = sub bitor (alt (tok orders (sub bitor done)) (tok (one_keyword (codes "not")) (tok (one_keyword (codes "in")) (sub bitor done))))
-- BitOr | Xor ^ BitAnd & Shift << >> Sum + - Product * / // %: next op next {op next}, loosest first
bzl_shape k.BitOr = flat (level (rank k.Xor)) (one_mark (codes "|"))
bzl_shape k.Xor = flat (level (rank k.BitAnd)) (one_mark (codes "^"))
bzl_shape k.BitAnd = flat (level (rank k.Shift)) (one_mark (codes "&"))
bzl_shape k.Shift = flat (level (rank k.Sum)) shifts
bzl_shape k.Sum = flat (level (rank k.Product)) sums
bzl_shape k.Product = flat (level (rank k.Unary)) products
-- Unary = ("+" | "-" | "~") unary
bzl_shape k.Unary = tok signs (sub (level (rank k.Unary)) done)
-- Dot = primary "." Name
bzl_shape k.Dot = sub primary (tok dot (tok name done))
-- Call = primary "(" [arg {"," arg} [","]] ")"
bzl_shape k.Call = sub primary (tok open_round (items argument close_round))
-- Named = Name "=" test
bzl_shape k.Named = tok name (tok equals (sub test done))
-- Star = ("*" | "**") test
bzl_shape k.Star = tok stars (sub test done)
-- Index = primary "[" expr "]"
bzl_shape k.Index = sub primary (tok open_square (sub expr (tok close_square done)))
-- Slice = primary "[" [expr] ":" [test] [":" [test]] "]"
bzl_shape k.Slice = sub primary (tok open_square (opt expr (tok colon_mark slice_end)))
-- List = "[" [test {"," test} [","]] "]"
bzl_shape k.List = tok open_square (items test close_square)
-- Dict = "{" [Entry {"," Entry} [","]] "}"
bzl_shape k.Dict = tok open_curly (items entry close_curly)
-- Entry = test ":" test
bzl_shape k.Entry = sub test (tok colon_mark (sub test done))
-- Paren = "(" test ")"
bzl_shape k.Paren = tok open_round (sub test (tok close_round done))
-- Tuple = "(" ")" | "(" test "," ")" | "(" test "," test {"," test} [","] ")"
bzl_shape k.Tuple = tok open_round (alt (tok close_round done) (sub test (tok comma_mark (items test close_round))))
-- ListComp = "[" test For {For | If} "]"
bzl_shape k.ListComp = tok open_square (sub test (sub first_clause (each clause (tok close_square done))))
-- DictComp = "{" Entry For {For | If} "}"
bzl_shape k.DictComp = tok open_curly (sub entry (sub first_clause (each clause (tok close_curly done))))
-- For = "for" primary {"," primary} "in" or
bzl_shape k.For = tok (one_keyword (codes "for")) (list primary comma_mark false (tok (one_keyword (codes "in")) (sub or_level done)))
-- If = "if" or
bzl_shape k.If = tok (one_keyword (codes "if")) (sub or_level done)
-- Def = "def" Name "(" [param {"," param} [","]] ")" ":" suite
bzl_shape k.Def = tok (one_keyword (codes "def")) (tok name (tok open_round (enclosed param close_round owned)))
-- Param = Name "=" test | "*" [Name] | "**" Name
bzl_shape k.Param = alt (tok name (tok equals (sub test done))) starred
-- IfStmt = "if" test ":" suite {"elif" test ":" suite} ["else" ":" suite]
bzl_shape k.IfStmt = tok (one_keyword (codes "if")) (sub test (tok colon_mark (sub suite branches)))
-- ForStmt = "for" primary {"," primary} "in" expr ":" suite
bzl_shape k.ForStmt = tok (one_keyword (codes "for")) (list primary comma_mark false (tok (one_keyword (codes "in")) (sub expr owned)))
-- Suite = Newline stmt {stmt}
bzl_shape k.Suite = tok newline (sub stmt (each stmt done))
-- Return = "return" [expr]
bzl_shape k.Return = tok (one_keyword (codes "return")) (alt (sub expr done) done)
-- Flow = "break" | "continue" | "pass"
bzl_shape k.Flow = tok flows done
-- Lambda = "lambda" [param {"," param}] ":" test
bzl_shape k.Lambda = tok (one_keyword (codes "lambda")) (alt (tok colon_mark (sub test done)) (list param comma_mark false (tok colon_mark (sub test done))))

-- The grammar of BUILD files: the same, but that File = {Line} End, and nothing has the shape of a kind from Def on.
abbrev pub shape : Kind → Shape
shape k.File = each line (tok end done)
shape k.Def = none
shape k.Param = none
shape k.IfStmt = none
shape k.ForStmt = none
shape k.Suite = none
shape k.Return = none
shape k.Flow = none
shape k.Lambda = none
shape kind = bzl_shape kind
