-- The suites of a statement as one.
use Rattle.std.specs.Prelude.{List, [], ◌∷◌, ◌++◌}
use Rattle.bz_value.specs.declared.value.Expr.{Expr, Token, Form', items-the_row-Expr}
use Rattle.bz_value.specs.declared.value.Expr.TheVariants as e

-- a suite with these alternatives
abbrev pub with_others : Expr → List Expr → Expr
with_others (Token t) others = Token t
with_others (Form' kind s parts s' items end split open_break comments) others = e.Form (record {
  kind = kind;
  parts = items-the_row-Expr _ parts ++ others;
  seq = record { items = items-the_row-Expr _ items; end = end; split = split };
  open_break = open_break;
  comments = comments;
})

-- the first of these suites, with the others as its alternatives
abbrev pub gathered : List Expr → List Expr
gathered [] = []
gathered (first ∷ others) = with_others first others ∷ []
