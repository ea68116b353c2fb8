-- What a BUILD file can say of what a file says.
use Rattle.std.specs.Prelude.{◌<◌, ◌↔◌, List, All}
use Rattle.bz_grammar.specs.declared.kind.Kind.TheVariants as k
use Rattle.bz_grammar.specs.Kinds.{kind_number}
use Rattle.bz_value.specs.declared.value.Expr.{Expr, Token, Form', Row_of-Expr, end_of-Expr, more_of-Expr}
use Rattle.bz_value.specs.declared.value.Item.{Item}
use Rattle.bz_value.specs.declared.value.Item.TheVariants as i
use Rattle.bz_value.specs.LineShapes.{build_grammar}
use Rattle.bz_value.specs.Proper.{IsProper, IsProperIn}

-- Such an expression may be in a BUILD file: none of its forms is of a kind from Def on.
abbrev mutual
  pub IsBuildExpr : Expr → Type 0
  IsBuildExpr (Token t) = Unit {0}
  IsBuildExpr (Form' kind s parts s' items end split open_break comments) = (kind_number kind < kind_number k.Def) × AreBuildExprs parts × AreBuildExprs items

  pub AreBuildExprs : {m : _} → Row_of-Expr m → Type 0
  AreBuildExprs end_of-Expr = Unit {0}
  AreBuildExprs (more_of-Expr x rest) = IsBuildExpr x × AreBuildExprs rest

abbrev pub IsBuildItem : Item → Type 0
IsBuildItem (i.Block lines) = Unit {0}
IsBuildItem (i.Stmt x) = IsBuildExpr x

abbrev pub AreBuild : List Item → Type 0
AreBuild items = All IsBuildItem items

-- a proper value of a BUILD file
abbrev pub IsProperBuild : List Item → Type 0
IsProperBuild items = IsProper items × AreBuild items

-- It is what is proper by the grammar of BUILD files.
abbrev pub BuildValuesAreProper : Type 0
BuildValuesAreProper = (items : List Item) → IsProperIn build_grammar items ↔ IsProperBuild items
