-- Parts that may be names joined by dots, as the private functions that read them state them.
use Rattle.std.specs.Prelude.{ℕ, suc, List, [], ◌∷◌, Option, map}
use Rattle.bz_value.specs.declared.value.Expr.{Expr, Token, Form', Row_of-Expr, end_of-Expr, more_of-Expr}
use Rattle.bz_items.specs.Characters.{Bytes}
use Rattle.bz_rule.specs.Rules.{dotted_name}

-- each part with its own text
abbrev pub each_named : List Expr → List (Expr × Option Bytes)
each_named xs = map (λ x. (x, dotted_name x)) xs

-- how many forms an expression begins with, each the first part of the one around it
abbrev mutual
  pub fronts : Expr → ℕ
  fronts (Token t) = 0
  fronts (Form' kind s parts s' items end split open_break comments) = suc (fronts_in_row parts)

  pub fronts_in_row : {m : _} → Row_of-Expr m → ℕ
  fronts_in_row end_of-Expr = 0
  fronts_in_row (more_of-Expr x rest) = fronts x

abbrev pub fronts_among : List Expr → ℕ
fronts_among [] = 0
fronts_among (x ∷ xs) = fronts x
