use Rattle.std.specs.Prelude.{ℕ, Option, None, List, [], ◌∷◌, ◌-◌, nat_eq, if◌then◌else◌, slice_get}
use Rattle.bz_grammar.specs.declared.kind.Kind.{Kind}
use Rattle.bz_grammar.specs.declared.kind.Kind.TheVariants as v

abbrev pub kind_number : Kind → ℕ
kind_number v.File = 1
kind_number v.Line = 2
kind_number v.Bare = 3
kind_number v.Assign = 4
kind_number v.Load = 5
kind_number v.Alias = 6
kind_number v.Row = 7
kind_number v.Cond = 8
kind_number v.Or = 9
kind_number v.And = 10
kind_number v.Not = 11
kind_number v.Compare = 12
kind_number v.BitOr = 13
kind_number v.Xor = 14
kind_number v.BitAnd = 15
kind_number v.Shift = 16
kind_number v.Sum = 17
kind_number v.Product = 18
kind_number v.Unary = 19
kind_number v.Dot = 20
kind_number v.Call = 21
kind_number v.Named = 22
kind_number v.Star = 23
kind_number v.Index = 24
kind_number v.Slice = 25
kind_number v.List = 26
kind_number v.Dict = 27
kind_number v.Entry = 28
kind_number v.Paren = 29
kind_number v.Tuple = 30
kind_number v.ListComp = 31
kind_number v.DictComp = 32
kind_number v.For = 33
kind_number v.If = 34
kind_number v.Def = 35
kind_number v.Param = 36
kind_number v.IfStmt = 37
kind_number v.ForStmt = 38
kind_number v.Suite = 39
kind_number v.Return = 40
kind_number v.Flow = 41
kind_number v.Lambda = 42

-- in the order of their numbers, from 1
abbrev pub kind_list : List Kind
kind_list = v.File ∷ v.Line ∷ v.Bare ∷ v.Assign ∷ v.Load ∷ v.Alias ∷ v.Row ∷ v.Cond ∷ v.Or ∷ v.And ∷ v.Not ∷ v.Compare ∷ v.BitOr ∷ v.Xor ∷ v.BitAnd ∷ v.Shift ∷ v.Sum ∷ v.Product ∷ v.Unary ∷ v.Dot ∷ v.Call ∷ v.Named ∷ v.Star ∷ v.Index ∷ v.Slice ∷ v.List ∷ v.Dict ∷ v.Entry ∷ v.Paren ∷ v.Tuple ∷ v.ListComp ∷ v.DictComp ∷ v.For ∷ v.If ∷ v.Def ∷ v.Param ∷ v.IfStmt ∷ v.ForStmt ∷ v.Suite ∷ v.Return ∷ v.Flow ∷ v.Lambda ∷ []

abbrev pub kind_of : ℕ → Option Kind
kind_of n = if nat_eq n 0 then None else slice_get kind_list (n - 1)
