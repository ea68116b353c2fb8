-- The parser's states: what is left to read in each, and the move that this requires.
use Rattle.std.specs.Prelude.{◌≡◌, ℕ, zero, suc, ◌+◌, ◌≤◌, Bool, true, false, List, codes}
use Rattle.bz_lex.specs.declared.leaf.Leaf.{Leaf}
use Rattle.bz_grammar.specs.declared.kind.Kind.{Kind}
use Rattle.bz_grammar.specs.declared.kind.Kind.TheVariants as k
use Rattle.bz_states.specs.declared.token.TokenSet.{TokenSet}
use Rattle.bz_states.specs.declared.token.TokenSet.TheVariants as t
use Rattle.bz_states.specs.declared.state.PartNonterminal.{PartNonterminal as Place}
use Rattle.bz_states.specs.declared.state.PartNonterminal.TheVariants as q
use Rattle.bz_states.specs.declared.state.NodeState.{NodeState}
use Rattle.bz_states.specs.declared.state.NodeState.TheVariants as s
use Rattle.bz_states.specs.declared.state.Tail.{Tail}
use Rattle.bz_states.specs.declared.state.Tail.TheVariants as in_rest
use Rattle.bz_states.specs.declared.state.ItemsAt.{ItemsAt}
use Rattle.bz_states.specs.declared.state.ItemsAt.TheVariants as items_at
use Rattle.bz_states.specs.declared.state.OperandsAt.{OperandsAt}
use Rattle.bz_states.specs.declared.state.OperandsAt.TheVariants as operands_at
use Rattle.bz_states.specs.declared.state.ClausesAt.{ClausesAt}
use Rattle.bz_states.specs.declared.state.ClausesAt.TheVariants as clauses_at
use Rattle.bz_states.specs.declared.state.NamesAt.{NamesAt}
use Rattle.bz_states.specs.declared.state.NamesAt.TheVariants as names_at
use Rattle.bz_states.specs.declared.state.LambdaAt.{LambdaAt}
use Rattle.bz_states.specs.declared.state.LambdaAt.TheVariants as lambda_at
use Rattle.bz_states.specs.declared.state.StarredAt.{StarredAt}
use Rattle.bz_states.specs.declared.state.StarredAt.TheVariants as starred_at
use Rattle.bz_states.specs.declared.state.HeaderAt.{HeaderAt}
use Rattle.bz_states.specs.declared.state.HeaderAt.TheVariants as header_at
use Rattle.bz_states.specs.declared.state.SliceAt.{SliceAt}
use Rattle.bz_states.specs.declared.state.SliceAt.TheVariants as slice_at
use Rattle.bz_states.specs.declared.state.RoundAt.{RoundAt}
use Rattle.bz_states.specs.declared.state.RoundAt.TheVariants as round_at
use Rattle.bz_states.specs.declared.state.BracketsAt.{BracketsAt}
use Rattle.bz_states.specs.declared.state.BracketsAt.TheVariants as brackets_at
use Rattle.bz_states.specs.declared.state.SuffixAt.{SuffixAt}
use Rattle.bz_states.specs.declared.state.SuffixAt.TheVariants as suffix_at
use Rattle.bz_states.specs.declared.state.StatementAt.{StatementAt}
use Rattle.bz_states.specs.declared.state.StatementAt.TheVariants as statement_at
use Rattle.bz_states.specs.declared.state.ListedItems.{ListedItems}
use Rattle.bz_states.specs.declared.state.Operands.{Operands}
use Rattle.bz_states.specs.declared.state.SquareOrCurly.{SquareOrCurly}
use Rattle.bz_states.specs.declared.state.ListedItems.TheVariants as items_row
use Rattle.bz_states.specs.declared.state.Operands.TheVariants as operands_row
use Rattle.bz_states.specs.declared.state.SquareOrCurly.TheVariants as brackets_row
use Rattle.bz_states.specs.declared.state.ItemRow.{ItemRow}
use Rattle.bz_states.specs.declared.state.OperandRow.{OperandRow}
use Rattle.bz_states.specs.declared.state.BracketRow.{BracketRow}
use Rattle.bz_states.specs.declared.state.Move.{Move}
use Rattle.bz_states.specs.declared.state.Move.TheVariants as m
use Rattle.bz_states.specs.declared.state.Precedence.{Precedence}
use Rattle.bz_states.specs.declared.state.Precedence.TheVariants as g
use Rattle.bz_grammar.specs.Shapes.{Terminal, Nonterminal, rank, level, argument, entry, clause, first_clause, loaded, small, line, param, or_level, test, expr, Shape, none, done, tok, sub, alt, list, each, times, items, slice_end, starred, bzl_shape, assigns, comma_mark, colon_mark, one_keyword, open_round, close_round, open_square, close_square}
use Rattle.bz_grammar.specs.Reading.{starts, starts_with, first, first_of, Plan, finish, one, piece, choose, round, square, curly, suffix_plan, clause_plan, small_plan, more_items, clauses}
use Rattle.bz_grammar.specs.Suites.{def_header, for_header, test_header, else_header}
use Rattle.bz_states.specs.Tokens.{terminals_of}

abbrev pub nonterminal_of : Place → Nonterminal
nonterminal_of (q.Level n) = level n
nonterminal_of q.Argument = argument
nonterminal_of q.Entry = entry
nonterminal_of q.Clause = clause
nonterminal_of q.FirstClause = first_clause
nonterminal_of q.Loaded = loaded
nonterminal_of q.Small = small
nonterminal_of q.Line = line
nonterminal_of q.Param = param

-- ---- what is left of the shapes of the table, further in

-- what is left after the first of its tokens and parts, where a shape begins with one, and what an alternative begins with
abbrev pub after_first : Shape → Shape
after_first (tok terminals r) = r
after_first (sub q r) = r
after_first r = r

abbrev pub left : Shape → Shape
left (alt r r') = r
left r = r

abbrev pub right : Shape → Shape
right (alt r r') = r'
right r = r

abbrev pub names : Shape
names = after_first (bzl_shape k.For)

-- after the names of a `for`
abbrev pub in_or : Shape
in_or = tok (one_keyword (codes "in")) (sub or_level done)

-- after the second place of a slice
abbrev pub slice_stop : Shape
slice_stop = left slice_end

abbrev pub compare_tail : Shape
compare_tail = after_first (bzl_shape k.Compare)

abbrev pub cond_tail : Shape
cond_tail = after_first (after_first (bzl_shape k.Cond))

abbrev pub round_end : Plan
round_end = choose (finish k.Paren (tok close_round done)) (finish k.Tuple (tok comma_mark (items test close_round)))

abbrev pub round_item : Plan
round_item = choose (finish k.Tuple (tok close_round done)) (piece test round_end)

abbrev pub index_end : Plan
index_end = choose (finish k.Index (tok close_square done)) (finish k.Slice (tok colon_mark slice_end))

abbrev pub index_item : Plan
index_item = choose (finish k.Slice (tok colon_mark slice_end)) (piece expr index_end)

abbrev pub call_or_index : Plan
call_or_index = choose (finish k.Call (tok open_round (items argument close_round))) (one open_square index_item)

-- after what is no load, and after what is no return
abbrev pub no_load : Plan
no_load = choose (finish k.Return (bzl_shape k.Return)) (choose (finish k.Flow (bzl_shape k.Flow)) (piece expr (choose (finish k.Assign (tok assigns (sub expr done))) (finish k.Bare done))))

abbrev pub no_return : Plan
no_return = choose (finish k.Flow (bzl_shape k.Flow)) (piece expr (choose (finish k.Assign (tok assigns (sub expr done))) (finish k.Bare done)))

abbrev pub small_end : Plan
small_end = choose (finish k.Assign (tok assigns (sub expr done))) (finish k.Bare done)

-- ---- what is left to read in a state

abbrev pub left_in_rest : Tail → Shape
left_in_rest in_rest.Nothing = done
left_in_rest (in_rest.Token token) = tok (terminals_of token) done
left_in_rest (in_rest.Part nonterminal) = sub (nonterminal_of nonterminal) done
left_in_rest (in_rest.TokenPart token nonterminal) = tok (terminals_of token) (sub (nonterminal_of nonterminal) done)
left_in_rest (in_rest.Tokens token other) = tok (terminals_of token) (tok (terminals_of other) done)

abbrev pub row_of_items : ListedItems → ItemRow
row_of_items items_row.Statements = record { kind = k.Line; nonterminal = q.Small; separator = t.Semicolon; close = t.Newline }
row_of_items items_row.Arguments = record { kind = k.Call; nonterminal = q.Argument; separator = t.Comma; close = t.CloseRound }
row_of_items items_row.Loaded = record { kind = k.Load; nonterminal = q.Loaded; separator = t.Comma; close = t.CloseRound }
row_of_items items_row.Tuple = record { kind = k.Tuple; nonterminal = q.Level (rank k.Lambda); separator = t.Comma; close = t.CloseRound }
row_of_items items_row.List = record { kind = k.List; nonterminal = q.Level (rank k.Lambda); separator = t.Comma; close = t.CloseSquare }
row_of_items items_row.Dict = record { kind = k.Dict; nonterminal = q.Entry; separator = t.Comma; close = t.CloseCurly }

-- the closing token; parts, at least one, and it; none or more of them
abbrev pub closing : ItemRow → Shape
closing row = tok (terminals_of row.close) done

abbrev pub parts_of_items : ItemRow → Shape
parts_of_items row = list (nonterminal_of row.nonterminal) (terminals_of row.separator) true (closing row)

abbrev pub left_of_items : ItemRow → ItemsAt → Shape
left_of_items row items_at.Begin = alt (closing row) (parts_of_items row)
left_of_items row items_at.Part = parts_of_items row
left_of_items row items_at.After = alt (tok (terminals_of row.separator) (alt (closing row) (parts_of_items row))) (closing row)
left_of_items row items_at.Separator = tok (terminals_of row.separator) (alt (closing row) (parts_of_items row))
left_of_items row items_at.More = alt (closing row) (tok (terminals_of row.separator) (alt (closing row) (parts_of_items row)))

abbrev pub left_in_items : ListedItems → ItemsAt → Plan
left_in_items all here = finish (row_of_items all).kind (left_of_items (row_of_items all) here)

abbrev pub row_of_operands : Operands → OperandRow
row_of_operands operands_row.Product = record { kind = k.Product; nonterminal = q.Level (rank k.Unary); operator = t.Products }
row_of_operands operands_row.Sum = record { kind = k.Sum; nonterminal = q.Level (rank k.Product); operator = t.Sums }
row_of_operands operands_row.Shift = record { kind = k.Shift; nonterminal = q.Level (rank k.Sum); operator = t.Shifts }
row_of_operands operands_row.BitAnd = record { kind = k.BitAnd; nonterminal = q.Level (rank k.Shift); operator = t.Ampersand }
row_of_operands operands_row.Xor = record { kind = k.Xor; nonterminal = q.Level (rank k.BitAnd); operator = t.Caret }
row_of_operands operands_row.BitOr = record { kind = k.BitOr; nonterminal = q.Level (rank k.Xor); operator = t.Bar }
row_of_operands operands_row.And = record { kind = k.And; nonterminal = q.Level (rank k.Not); operator = t.And }
row_of_operands operands_row.Or = record { kind = k.Or; nonterminal = q.Level (rank k.And); operator = t.Or }
row_of_operands operands_row.Row = record { kind = k.Row; nonterminal = q.Level (rank k.Lambda); operator = t.Comma }

abbrev pub parts_of_operands : OperandRow → Shape
parts_of_operands row = list (nonterminal_of row.nonterminal) (terminals_of row.operator) false done

abbrev pub left_of_operands : OperandRow → OperandsAt → Shape
left_of_operands row operands_at.Part = parts_of_operands row
left_of_operands row operands_at.After = alt (tok (terminals_of row.operator) (parts_of_operands row)) done
left_of_operands row operands_at.Operator = tok (terminals_of row.operator) (parts_of_operands row)

abbrev pub left_in_operands : Operands → OperandsAt → Plan
left_in_operands all here = finish (row_of_operands all).kind (left_of_operands (row_of_operands all) here)

abbrev pub left_of_clauses : TokenSet → ClausesAt → Shape
left_of_clauses close clauses_at.First = clauses (terminals_of close)
left_of_clauses close clauses_at.Further = after_first (clauses (terminals_of close))
left_of_clauses close clauses_at.Clause = sub clause (after_first (clauses (terminals_of close)))

abbrev pub left_of_names : NamesAt → Shape
left_of_names names_at.Name = names
left_of_names names_at.After = alt (tok comma_mark names) in_or
left_of_names names_at.Comma = tok comma_mark names

-- after the keyword of a lambda
abbrev pub lambda_tail : Shape
lambda_tail = after_first (bzl_shape k.Lambda)

abbrev pub left_of_lambda : LambdaAt → Shape
left_of_lambda lambda_at.Begin = bzl_shape k.Lambda
left_of_lambda lambda_at.Params = lambda_tail
left_of_lambda lambda_at.Param = right lambda_tail
left_of_lambda lambda_at.After = alt (tok comma_mark (right lambda_tail)) (left lambda_tail)
left_of_lambda lambda_at.Comma = tok comma_mark (right lambda_tail)

abbrev pub left_of_starred : StarredAt → Shape
left_of_starred starred_at.Begin = starred
left_of_starred starred_at.Star = left starred
left_of_starred starred_at.Name = after_first (left starred)

-- after the opening bracket of a definition, and what closes it
abbrev pub params : Shape
params = after_first (after_first (after_first def_header))

abbrev pub for_names : Shape
for_names = after_first for_header

-- after the names of a `for`
abbrev pub in_expression : Shape
in_expression = tok (one_keyword (codes "in")) (sub expr (tok colon_mark done))

abbrev pub left_of_header : HeaderAt → Shape
left_of_header header_at.Def = def_header
left_of_header header_at.DefName = after_first def_header
left_of_header header_at.DefOpen = after_first (after_first def_header)
left_of_header header_at.Params = params
left_of_header header_at.Param = right params
left_of_header header_at.AfterParam = alt (tok comma_mark params) (left params)
left_of_header header_at.Comma = tok comma_mark params
left_of_header header_at.For = for_header
left_of_header header_at.Name = for_names
left_of_header header_at.AfterName = alt (tok comma_mark for_names) in_expression
left_of_header header_at.NameComma = tok comma_mark for_names
left_of_header header_at.In = in_expression
left_of_header header_at.InExpression = after_first in_expression
left_of_header (header_at.Test token) = test_header (terminals_of token)
left_of_header header_at.TestColon = sub test (tok colon_mark done)
left_of_header header_at.Else = else_header

abbrev pub left_of_slice : SliceAt → Shape
left_of_slice slice_at.Colon = tok colon_mark slice_end
left_of_slice slice_at.End = slice_end
left_of_slice slice_at.EndTest = right slice_end
left_of_slice slice_at.AfterEnd = slice_stop
left_of_slice slice_at.SecondColon = right slice_stop
left_of_slice slice_at.Step = after_first (right slice_stop)
left_of_slice slice_at.StepTest = right (after_first (right slice_stop))

abbrev pub left_in_round : RoundAt → Plan
left_in_round round_at.Open = round
left_in_round round_at.Item = round_item
left_in_round round_at.Test = piece test round_end
left_in_round round_at.After = round_end

abbrev pub row_of_brackets : SquareOrCurly → BracketRow
row_of_brackets brackets_row.Square = record { items = items_row.List; kind = k.List; nonterminal = q.Level (rank k.Lambda); close = t.CloseSquare; comprehension = k.ListComp }
row_of_brackets brackets_row.Curly = record { items = items_row.Dict; kind = k.Dict; nonterminal = q.Entry; close = t.CloseCurly; comprehension = k.DictComp }

abbrev pub after_element : BracketRow → Plan
after_element row = choose (finish row.comprehension (clauses (terminals_of row.close))) (finish row.kind (more_items (nonterminal_of row.nonterminal) (terminals_of row.close)))

abbrev pub left_of_brackets : BracketRow → BracketsAt → Plan
left_of_brackets row brackets_at.Begin = choose (finish row.kind (tok (terminals_of row.close) done)) (piece (nonterminal_of row.nonterminal) (after_element row))
left_of_brackets row brackets_at.Element = piece (nonterminal_of row.nonterminal) (after_element row)
left_of_brackets row brackets_at.After = after_element row

abbrev pub left_in_brackets : SquareOrCurly → BracketsAt → Plan
left_in_brackets all here = left_of_brackets (row_of_brackets all) here

abbrev pub left_of_suffix : SuffixAt → Plan
left_of_suffix suffix_at.Begin = suffix_plan
left_of_suffix suffix_at.CallOrIndex = call_or_index
left_of_suffix suffix_at.Call = finish k.Call (tok open_round (items argument close_round))
left_of_suffix suffix_at.Index = one open_square index_item
left_of_suffix suffix_at.IndexItem = index_item
left_of_suffix suffix_at.IndexExpression = piece expr index_end
left_of_suffix suffix_at.IndexEnd = index_end

abbrev pub left_of_statement : StatementAt → Plan
left_of_statement statement_at.Begin = small_plan
left_of_statement statement_at.Load = finish k.Load (bzl_shape k.Load)
left_of_statement statement_at.LoadOpen = finish k.Load (after_first (bzl_shape k.Load))
left_of_statement statement_at.LoadString = finish k.Load (after_first (after_first (bzl_shape k.Load)))
left_of_statement statement_at.NoLoad = no_load
left_of_statement statement_at.Return = finish k.Return (bzl_shape k.Return)
left_of_statement statement_at.Returned = finish k.Return (after_first (bzl_shape k.Return))
left_of_statement statement_at.NoReturn = no_return
left_of_statement statement_at.Expression = piece expr small_end
left_of_statement statement_at.AfterExpression = small_end

abbrev pub plan_at : NodeState → Plan
plan_at (s.Rest kind row) = finish kind (left_in_rest row)
plan_at (s.Items all here) = left_in_items all here
plan_at (s.Operands all here) = left_in_operands all here
plan_at (s.Clauses kind close here) = finish kind (left_of_clauses close here)
plan_at (s.Names here) = finish k.For (left_of_names here)
plan_at (s.Lambda here) = finish k.Lambda (left_of_lambda here)
plan_at (s.Starred here) = finish k.Param (left_of_starred here)
plan_at (s.Header here) = finish k.Suite (left_of_header here)
plan_at (s.Slice here) = finish k.Slice (left_of_slice here)
plan_at (s.Round here) = left_in_round here
plan_at (s.Brackets all here) = left_in_brackets all here
plan_at (s.Suffix here) = left_of_suffix here
plan_at (s.Statement here) = left_of_statement here
plan_at s.Square = square
plan_at s.Curly = curly
plan_at s.Clause = clause_plan
plan_at s.For = finish k.For (bzl_shape k.For)
plan_at s.Entry = finish k.Entry (bzl_shape k.Entry)
plan_at s.Alias = finish k.Alias (bzl_shape k.Alias)
plan_at s.Compare = finish k.Compare compare_tail
plan_at s.NotIn = finish k.Compare (right compare_tail)
plan_at s.Condition = finish k.Cond (after_first (bzl_shape k.Cond))
plan_at s.AfterIf = finish k.Cond cond_tail

-- ---- the move that a plan requires

-- after a part of a list
abbrev pub again : Nonterminal → List Terminal → Bool → Shape → Shape
again q separators true r = alt (tok separators (alt r (list q separators true r))) r
again q separators false r = alt (tok separators (list q separators false r)) r

-- what a plan begins with
pub data ExpectedMove : Type 0 where
  -- nothing reads it
  never : ExpectedMove
  -- nothing more: a node of this kind
  whole : Kind → ExpectedMove
  -- one token of these, and then
  one_token : List Terminal → Plan → ExpectedMove
  -- one part, and then
  one_part : Nonterminal → Plan → ExpectedMove
  -- the left plan where the next token is one of these, else the right one
  either : List Terminal → Plan → Plan → ExpectedMove

abbrev pub expected_move : Plan → ExpectedMove
expected_move (finish kind none) = never
expected_move (finish kind done) = whole kind
expected_move (finish kind (tok terminals r)) = one_token terminals (finish kind r)
expected_move (finish kind (sub q r)) = one_part q (finish kind r)
expected_move (finish kind (alt r r')) = either (first r) (finish kind r) (finish kind r')
expected_move (finish kind (list q separators last r)) = one_part q (finish kind (again q separators last r))
expected_move (finish kind (times group r)) = never
expected_move (finish kind (each q r)) = either (starts q) (finish kind (sub q (each q r))) (finish kind r)
expected_move (one terminals plan) = one_token terminals plan
expected_move (piece q plan) = one_part q plan
expected_move (choose plan plan') = either (first_of plan) plan plan'

-- the move is the one that is required
abbrev pub Meets : ExpectedMove → Move → Type 0
Meets (whole kind) (m.Finish kind') = kind' ≡ kind
Meets (one_token terminals plan) (m.Take token state) = (terminals_of token ≡ terminals) × (plan_at state ≡ plan)
Meets (one_part q plan) (m.Read place state) = (nonterminal_of place ≡ q) × (plan_at state ≡ plan)
Meets (either terminals plan plan') (m.Choose token state state') = (terminals_of token ≡ terminals) × (plan_at state ≡ plan) × (plan_at state' ≡ plan')
Meets _ _ = ⊥

abbrev pub Expects : Plan → Move → Type 0
Expects plan move = Meets (expected_move plan) move

-- how many choices without a leaf may come
abbrev pub choices_in : Shape → ℕ
choices_in (alt r r') = suc (choices_in r + choices_in r')
choices_in (each q r) = suc (choices_in r)
choices_in _ = 0

abbrev pub choices : Plan → ℕ
choices (finish kind r) = choices_in r
choices (choose plan plan') = suc (choices plan + choices plan')
choices _ = 0

-- they are few after a leaf
abbrev pub Few : Move → Type 0
Few (m.Take token state) = choices (plan_at state) ≤ 2
Few (m.Read place state) = choices (plan_at state) ≤ 2
Few _ = Unit {0}

-- ---- operators

abbrev pub operator_of : Operands → Precedence
operator_of all = g.Infix (row_of_operands all).operator (s.Operands all operands_at.Operator)

abbrev pub precedence_of : ℕ → Precedence
precedence_of zero = g.Prefix t.Signs (s.Rest k.Unary (in_rest.TokenPart t.Signs (q.Level (rank k.Unary))))
precedence_of (suc zero) = operator_of operands_row.Product
precedence_of (suc (suc zero)) = operator_of operands_row.Sum
precedence_of (suc (suc (suc zero))) = operator_of operands_row.Shift
precedence_of (suc (suc (suc (suc zero)))) = operator_of operands_row.BitAnd
precedence_of (suc (suc (suc (suc (suc zero))))) = operator_of operands_row.Xor
precedence_of (suc (suc (suc (suc (suc (suc zero)))))) = operator_of operands_row.BitOr
precedence_of (suc (suc (suc (suc (suc (suc (suc zero))))))) = g.Infix t.Compares s.Compare
precedence_of (suc (suc (suc (suc (suc (suc (suc (suc zero)))))))) = g.Prefix t.Not (s.Rest k.Not (in_rest.TokenPart t.Not (q.Level (rank k.Not))))
precedence_of (suc (suc (suc (suc (suc (suc (suc (suc (suc zero))))))))) = operator_of operands_row.And
precedence_of (suc (suc (suc (suc (suc (suc (suc (suc (suc (suc zero)))))))))) = operator_of operands_row.Or
precedence_of (suc (suc (suc (suc (suc (suc (suc (suc (suc (suc (suc zero))))))))))) = g.Infix t.If s.Condition
precedence_of (suc (suc (suc (suc (suc (suc (suc (suc (suc (suc (suc (suc zero)))))))))))) = g.Prefix t.Lambda (s.Lambda lambda_at.Begin)
precedence_of (suc (suc (suc (suc (suc (suc (suc (suc (suc (suc (suc (suc (suc zero))))))))))))) = operator_of operands_row.Row
precedence_of _ = g.Same

-- whether the next leaf is such an operator
abbrev pub binds : Precedence → List Leaf → Bool
binds (g.Infix token state) ts = starts_with (terminals_of token) ts
binds _ ts = false

abbrev pub binds_at : ℕ → List Leaf → Bool
binds_at n ts = binds (precedence_of n) ts
