-- The grammars of what is in the lines of a .bzl file, and of values.
use Rattle.std.specs.Prelude.{false, codes}
use Rattle.bz_grammar.specs.declared.kind.Kind.{Kind}
use Rattle.bz_grammar.specs.declared.kind.Kind.TheVariants as k
use Rattle.bz_grammar.specs.Shapes.{Shape, none, done, alt, tok, sub, list, enclosed, bzl_shape, one_keyword, name, open_round, close_round, comma_mark, param, primary, expr, test}

-- The whole grammar, but that nothing has the shape of a function, a branch, a loop or a suite: these hold lines and are in
-- none.
abbrev pub line_shape : Kind → Shape
line_shape k.Def = none
line_shape k.IfStmt = none
line_shape k.ForStmt = none
line_shape k.Suite = none
line_shape kind = bzl_shape kind

-- Values of BUILD files alone, or all.
pub data Grammar : Type 0 where
  build_grammar : Grammar
  whole_grammar : Grammar

-- a shape that is in the whole grammar alone
abbrev pub only_whole : Grammar → Shape → Shape
only_whole build_grammar shape = none
only_whole whole_grammar shape = shape

-- The same, but that a header goes up to its colon; and the parts, the statements and the alternatives of a suite have shapes of
-- their own. In BUILD files nothing has the shape of a kind from Def on.
abbrev pub value_shape : Grammar → Kind → Shape
value_shape grammar k.Def = only_whole grammar (tok (one_keyword (codes "def")) (tok name (tok open_round (enclosed param close_round done))))
value_shape grammar k.Param = only_whole grammar (line_shape k.Param)
value_shape grammar k.IfStmt =
    only_whole grammar (alt (tok (one_keyword (codes "if")) (sub test done)) (alt (tok (one_keyword (codes "elif")) (sub test done)) (tok (one_keyword (codes "else")) done)))
value_shape grammar k.ForStmt = only_whole grammar (tok (one_keyword (codes "for")) (list primary comma_mark false (tok (one_keyword (codes "in")) (sub expr done))))
value_shape grammar k.Suite = only_whole grammar done
value_shape grammar k.Return = only_whole grammar (line_shape k.Return)
value_shape grammar k.Flow = only_whole grammar (line_shape k.Flow)
value_shape grammar k.Lambda = only_whole grammar (line_shape k.Lambda)
value_shape grammar kind = line_shape kind

abbrev pub whole_shape : Kind → Shape
whole_shape = value_shape whole_grammar
