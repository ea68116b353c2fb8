-- Reading leaves from left to right: the next token decides. The parser's functions are compared with this; that it
-- reads just the legal trees is proved in proofs/.
use Rattle.std.specs.Prelude.{ℕ, zero, suc, Bool, false, List, [], ◌∷◌, ◌++◌, length, ◌&&◌, Option, Some, None, if◌then◌else◌, nat_le, codes}
use Rattle.bz_lex.specs.declared.leaf.Leaf.{Leaf}
use Rattle.bz_grammar.specs.declared.kind.Kind.{Kind}
use Rattle.bz_grammar.specs.declared.kind.Kind.TheVariants as k
use Rattle.bz_grammar.specs.declared.tree.Part.{Part}
use Rattle.bz_grammar.specs.declared.tree.Part.TheVariants as p
use Rattle.bz_grammar.specs.Spell.{depth_part}
use Rattle.bz_grammar.specs.Shapes.{Terminal, is_one_of, has_token, Nonterminal, rank, level, argument, entry, clause, first_clause, loaded, small, line, param, stmt, suite, test, expr, leaves_at, Shape, none, done, tok, sub, alt, list, each, times, items, newline, flows, starred, slice_end, bzl_shape, name, simple, string, equals, stars, assigns, dot, comma_mark, colon_mark, one_keyword, open_round, close_round, open_square, close_square, open_curly, close_curly}

infixl 10 ◌>>=◌
abbrev pub ◌>>=◌ : {A B : Type 0} → Option A → (A → Option B) → Option B
None >>= f = None
(Some x) >>= f = f x

-- what was read, and the leaves after it
abbrev pub Read : Type 0 → Type 0
Read X = List Leaf → Option (X × List Leaf)

abbrev pub starts_with : List Terminal → List Leaf → Bool
starts_with terminals [] = false
starts_with terminals (leaf ∷ rest) = is_one_of terminals leaf

-- the operators' nodes, from the tightest on: level n + 1 is level n or such a node
abbrev pub kind_at : ℕ → Kind
kind_at zero = k.Unary
kind_at (suc zero) = k.Product
kind_at (suc (suc zero)) = k.Sum
kind_at (suc (suc (suc zero))) = k.Shift
kind_at (suc (suc (suc (suc zero)))) = k.BitAnd
kind_at (suc (suc (suc (suc (suc zero))))) = k.Xor
kind_at (suc (suc (suc (suc (suc (suc zero)))))) = k.BitOr
kind_at (suc (suc (suc (suc (suc (suc (suc zero))))))) = k.Compare
kind_at (suc (suc (suc (suc (suc (suc (suc (suc zero)))))))) = k.Not
kind_at (suc (suc (suc (suc (suc (suc (suc (suc (suc zero))))))))) = k.And
kind_at (suc (suc (suc (suc (suc (suc (suc (suc (suc (suc zero)))))))))) = k.Or
kind_at (suc (suc (suc (suc (suc (suc (suc (suc (suc (suc (suc zero))))))))))) = k.Cond
kind_at (suc (suc (suc (suc (suc (suc (suc (suc (suc (suc (suc (suc zero)))))))))))) = k.Lambda
kind_at _ = k.Row

abbrev pub shape_at : ℕ → Shape
shape_at (suc (suc (suc (suc (suc (suc (suc (suc (suc (suc (suc (suc (suc (suc n)))))))))))))) = done
shape_at n = bzl_shape (kind_at n)

abbrev pub own_token : Shape → List Terminal
own_token (tok terminals r) = terminals
own_token _ = []

-- the tokens with which a part of a sort begins
abbrev pub starts_level : ℕ → List Terminal
starts_level zero = simple ++ (open_round ++ (open_square ++ open_curly))
starts_level (suc n) = own_token (shape_at n) ++ starts_level n

abbrev starts_small : List Terminal
starts_small = one_keyword (codes "load") ++ (one_keyword (codes "return") ++ (flows ++ starts_level (rank k.Row)))

-- the tokens with which a statement begins that has a suite
abbrev pub headed : List Terminal
headed = one_keyword (codes "def") ++ (one_keyword (codes "if") ++ one_keyword (codes "for"))

abbrev pub starts : Nonterminal → List Terminal
starts (level n) = starts_level n
starts argument = stars ++ starts_level (rank k.Lambda)
starts entry = starts_level (rank k.Lambda)
starts clause = one_keyword (codes "for") ++ one_keyword (codes "if")
starts first_clause = one_keyword (codes "for")
starts loaded = string ++ name
starts small = starts_small
starts line = starts_small
starts param = name ++ stars
starts stmt = headed ++ starts_small
starts suite = newline ++ starts_small

-- the tokens with which a shape begins
abbrev pub first : Shape → List Terminal
first none = []
first done = []
first (tok terminals r) = terminals
first (sub q r) = starts q
first (alt r r') = first r ++ first r'
first (list q separators last r) = starts q
first (each q r) = starts q ++ first r
first (times group r) = first group ++ first r

-- a part in front of what was read
abbrev pub with_part_first : Part → Option (List Part × List Leaf) → Option (List Part × List Leaf)
with_part_first part None = None
with_part_first part (Some x) = Some (part ∷ x.0, x.1)

abbrev pub after_item : Read (List Part) → List Terminal → Bool → List Terminal → Read (List Part) → Read (List Part)
after_item again separators last stop K [] = K []
after_item again separators last stop K (t ∷ ts) =
    if is_one_of separators t then with_part_first (p.Leaf t) (if last && starts_with stop ts then K ts else again ts) else K (t ∷ ts)

abbrev pub separated_parts : ℕ → Read Part → List Terminal → Bool → List Terminal → Read (List Part) → Read (List Part)
separated_parts zero next separators last stop K ts = None
separated_parts (suc n) next separators last stop K ts = next ts >>= λ x. with_part_first x.0 (after_item (separated_parts n next separators last stop K) separators last stop K x.1)

abbrev pub several : ℕ → Read Part → List Terminal → Read (List Part) → Read (List Part)
several zero next begin K ts = K ts
several (suc n) next begin K ts = if starts_with begin ts then (next ts >>= λ x. with_part_first x.0 (several n next begin K x.1)) else K ts

-- the parts of a shape, where inner reads a part of a sort
abbrev pub run : (Nonterminal → Read Part) → Shape → Read (List Part)
run inner none ts = None
run inner done ts = Some ([], ts)
run inner (tok terminals r) [] = None
run inner (tok terminals r) (t ∷ ts) = if is_one_of terminals t then with_part_first (p.Leaf t) (run inner r ts) else None
run inner (sub q r) ts = inner q ts >>= λ x. with_part_first x.0 (run inner r x.1)
run inner (alt r r') ts = if starts_with (first r) ts then run inner r ts else run inner r' ts
run inner (list q separators last r) ts = separated_parts (length ts) (inner q) separators last (first r) (run inner r) ts
run inner (each q r) ts = several (length ts) (inner q) (starts q) (run inner r) ts
run inner (times group r) ts = None

-- ---- kinds that begin alike

-- What is in a node of one of several kinds that begin alike: the kind shows on the way.
pub data Plan : Type 0 where
  -- what is left has this shape, and the node is of this kind
  finish : Kind → Shape → Plan
  -- one token of these, and then
  one : List Terminal → Plan → Plan
  -- one part of this sort, and then
  piece : Nonterminal → Plan → Plan
  -- the left one where the next token begins it, else the right one
  choose : Plan → Plan → Plan

-- the tokens with which a plan begins
abbrev pub first_of : Plan → List Terminal
first_of (finish kind r) = first r
first_of (one terminals plan) = terminals
first_of (piece q plan) = starts q
first_of (choose left right) = first_of left ++ first_of right

abbrev pub FoundLevel : Type 0
FoundLevel = Kind × List Part

abbrev pub as_kind : Kind → Option (List Part × List Leaf) → Option (FoundLevel × List Leaf)
as_kind kind None = None
as_kind kind (Some x) = Some ((kind, x.0), x.1)

abbrev pub put_found : Part → Option (FoundLevel × List Leaf) → Option (FoundLevel × List Leaf)
put_found part None = None
put_found part (Some x) = Some ((x.0.0, part ∷ x.0.1), x.1)

abbrev pub follow : (Nonterminal → Read Part) → Plan → Read FoundLevel
follow inner (finish kind r) ts = as_kind kind (run inner r ts)
follow inner (one terminals plan) [] = None
follow inner (one terminals plan) (t ∷ ts) = if is_one_of terminals t then put_found (p.Leaf t) (follow inner plan ts) else None
follow inner (piece q plan) ts = inner q ts >>= λ x. put_found x.0 (follow inner plan x.1)
follow inner (choose left right) ts = if starts_with (first_of left) ts then follow inner left ts else follow inner right ts

-- ( ) or ( test .. : a Tuple, or a Paren
abbrev pub round : Plan
round = one open_round (choose (finish k.Tuple (tok close_round done)) (piece test (choose (finish k.Paren (tok close_round done)) (finish k.Tuple (tok comma_mark (items test close_round))))))

-- after the first item, in brackets
abbrev pub more_items : Nonterminal → List Terminal → Shape
more_items nonterminal close = alt (tok close done) (tok comma_mark (items nonterminal close))

-- after the element of a comprehension
abbrev pub clauses : List Terminal → Shape
clauses close = sub first_clause (each clause (tok close done))

-- an opening bracket: a list or a dict, or a comprehension
abbrev pub bracketed : List Terminal → List Terminal → Nonterminal → Kind → Kind → Plan
bracketed opening close nonterminal whole comprehension =
    one opening (choose (finish whole (tok close done)) (piece nonterminal (choose (finish comprehension (clauses close)) (finish whole (more_items nonterminal close)))))

abbrev pub square : Plan
square = bracketed open_square close_square test k.List k.ListComp

abbrev pub curly : Plan
curly = bracketed open_curly close_curly entry k.Dict k.DictComp

-- what may be after a primary
abbrev pub suffix_plan : Plan
suffix_plan =
    choose (finish k.Dot (tok dot (tok name done))) (choose (finish k.Call (tok open_round (items argument close_round)))
    (one open_square (choose (finish k.Slice (tok colon_mark slice_end)) (piece expr (choose (finish k.Index (tok close_square done)) (finish k.Slice (tok colon_mark slice_end)))))))

abbrev pub clause_plan : Plan
clause_plan = choose (finish k.For (bzl_shape k.For)) (finish k.If (bzl_shape k.If))

abbrev pub small_plan : Plan
small_plan = choose (finish k.Load (bzl_shape k.Load)) (choose (finish k.Return (bzl_shape k.Return)) (choose (finish k.Flow (bzl_shape k.Flow)) (piece expr (choose (finish k.Assign (tok assigns (sub expr done))) (finish k.Bare done)))))

-- ---- parts

abbrev pub node_part : Kind → List Part → Part
node_part kind parts = p.Node (record { kind = kind; parts = parts })

-- a node of these parts
abbrev pub wrap : Kind → Option (List Part × List Leaf) → Option (Part × List Leaf)
wrap kind None = None
wrap kind (Some x) = Some (node_part kind x.0, x.1)

abbrev pub wrap_found : Option (FoundLevel × List Leaf) → Option (Part × List Leaf)
wrap_found None = None
wrap_found (Some x) = Some (node_part x.0.0 x.0.1, x.1)

-- one of these tokens
abbrev pub token_part : List Terminal → Read Part
token_part terminals [] = None
token_part terminals (t ∷ ts) = if is_one_of terminals t then Some (p.Leaf t, ts) else None

-- a part, or a node that it begins, where the next token says so and the part may begin one
abbrev pub infix_at : Kind → (Part → Bool) → Shape → (Nonterminal → Read Part) → Read Part → Read Part
infix_at kind left tail inner next ts =
    next ts >>= λ a. if starts_with (first tail) a.1 then (if left a.0 then wrap kind (with_part_first a.0 (run inner tail a.1)) else None) else Some a

abbrev pub prefix_at : Kind → Shape → (Nonterminal → Read Part) → Read Part → Read Part
prefix_at kind r inner next ts = if starts_with (first r) ts then wrap kind (run inner r ts) else next ts

-- whether a part may be in a node inside that depth
abbrev pub fits_in : ℕ → Part → Bool
fits_in d a = nat_le (depth_part a) d

abbrev pub by_shape : Kind → ℕ → Shape → (Nonterminal → Read Part) → Read Part → Read Part
by_shape kind d (tok terminals r) inner next = prefix_at kind (tok terminals r) inner next
by_shape kind d (sub q r) inner next = infix_at kind (fits_in d) r inner next
by_shape kind d _ inner next = next

-- what binds tightest, without what may be after it
abbrev pub atom : (Nonterminal → Read Part) → Read Part
atom inner ts =
    if starts_with (first_of round) ts then wrap_found (follow inner round ts)
    else (if starts_with (first_of square) ts then wrap_found (follow inner square ts)
    else (if starts_with (first_of curly) ts then wrap_found (follow inner curly ts) else token_part simple ts))

abbrev pub suffixes : ℕ → ℕ → (Nonterminal → Read Part) → Part → Read Part
suffixes zero d inner a ts = Some (a, ts)
suffixes (suc n) d inner a ts =
    if starts_with (first_of suffix_plan) ts then (if fits_in d a then (wrap_found (put_found a (follow inner suffix_plan ts)) >>= λ x. suffixes n d inner x.0 x.1) else None) else Some (a, ts)

abbrev pub read_primary : ℕ → (Nonterminal → Read Part) → Read Part
read_primary d inner ts = atom inner ts >>= λ a. suffixes (length a.1) d inner a.0 a.1

abbrev pub climb : ℕ → (Nonterminal → Read Part) → ℕ → Read Part
climb d inner zero = read_primary d inner
climb d inner (suc n) = by_shape (kind_at n) d (shape_at n) inner (climb d inner n)

abbrev pub named_tail : Shape
named_tail = tok equals (sub test done)

abbrev pub read_argument : Read Part → (Nonterminal → Read Part) → Read Part
read_argument next inner = prefix_at k.Star (bzl_shape k.Star) inner (infix_at k.Named (has_token name) named_tail inner next)

-- a parameter: a name, perhaps with a value, or one with stars
abbrev pub param_tail : Shape
param_tail = tok equals (sub test done)

abbrev pub read_param : (Nonterminal → Read Part) → Read Part
read_param inner = prefix_at k.Param starred inner (infix_at k.Param (has_token name) param_tail inner (token_part name))

-- parts of at most that depth; statements and suites are read by their indents
abbrev pub reading : ℕ → Nonterminal → Read Part
reading zero q ts = token_part (leaves_at q) ts
reading (suc d) (level n) ts = climb d (reading d) n ts
reading (suc d) argument ts = read_argument (climb d (reading d) (rank k.Lambda)) (reading d) ts
reading (suc d) entry ts = wrap k.Entry (run (reading d) (bzl_shape k.Entry) ts)
reading (suc d) clause ts = wrap_found (follow (reading d) clause_plan ts)
reading (suc d) first_clause ts = wrap k.For (run (reading d) (bzl_shape k.For) ts)
reading (suc d) loaded ts = prefix_at k.Alias (bzl_shape k.Alias) (reading d) (token_part string) ts
reading (suc d) small ts = wrap_found (follow (reading d) small_plan ts)
reading (suc d) line ts = wrap k.Line (run (reading d) (bzl_shape k.Line) ts)
reading (suc d) param ts = read_param (reading d) ts
reading (suc d) stmt ts = None
reading (suc d) suite ts = None
