-- How the nodes of each kind are kept in a file value: as a sequence in brackets, as the row of their parts, or as a suite.
use Rattle.std.specs.Prelude.{ℕ, Bool, true, false}
use Rattle.bz_grammar.specs.declared.kind.Kind.{Kind}
use Rattle.bz_grammar.specs.declared.kind.Kind.TheVariants as k

-- A row of parts; a sequence between two brackets; a suite with its header: the first part is the header, the others are its
-- alternatives, and the items are the statements.
pub data Frame : Type 0 where
  row : Frame
  sequence : ℕ → ℕ → Frame
  compound : Frame

-- A sequence is what is between the brackets of a Call, List, Dict, Tuple, Load or Def.
abbrev pub frame : Kind → Frame
frame k.Call = sequence 40 41
frame k.Load = sequence 40 41
frame k.Tuple = sequence 40 41
frame k.Def = sequence 40 41
frame k.List = sequence 91 93
frame k.Dict = sequence 123 125
frame k.Suite = compound
frame _ = row

abbrev pub has_brackets : Frame → Bool
has_brackets (sequence opener closer) = true
has_brackets _ = false

abbrev pub is_compound : Frame → Bool
is_compound compound = true
is_compound _ = false

-- a row or a sequence
abbrev pub is_inner_frame : Frame → Bool
is_inner_frame compound = false
is_inner_frame _ = true

-- how many parts are before the opening bracket: the function of a call, the word of a load, the word and the name of a def
abbrev pub lead : Kind → ℕ
lead k.Call = 1
lead k.Load = 1
lead k.Def = 2
lead _ = 0

-- the kinds of headers
abbrev pub is_header : Kind → Bool
is_header k.Def = true
is_header k.IfStmt = true
is_header k.ForStmt = true
is_header _ = false

-- the kinds whose operators may break
abbrev pub is_binary : Kind → Bool
is_binary k.Or = true
is_binary k.And = true
is_binary k.Compare = true
is_binary k.BitOr = true
is_binary k.Xor = true
is_binary k.BitAnd = true
is_binary k.Shift = true
is_binary k.Sum = true
is_binary k.Product = true
is_binary _ = false

abbrev pub is_comprehension : Kind → Bool
is_comprehension k.ListComp = true
is_comprehension k.DictComp = true
is_comprehension _ = false

abbrev pub is_statement : Kind → Bool
is_statement k.Bare = true
is_statement k.Assign = true
is_statement k.Load = true
is_statement _ = false

-- a statement of a line, in a .bzl file
abbrev pub is_simple : Kind → Bool
is_simple k.Return = true
is_simple k.Flow = true
is_simple kind = is_statement kind
