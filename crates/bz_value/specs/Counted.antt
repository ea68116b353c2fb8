-- How often a comment is in a file value.
use Rattle.std.specs.Prelude.{ℕ, ◌+◌, List, [], ◌∷◌, Option, Some, None, bytes_eq, if◌then◌else◌}
use Rattle.bz_value.specs.declared.value.Expr.{Expr, Token, Form', Row_of-Expr, end_of-Expr, more_of-Expr}
use Rattle.bz_value.specs.declared.value.Item.{Item}
use Rattle.bz_value.specs.declared.value.Item.TheVariants as i
use Rattle.bz_value.specs.Comments.{HostComments}
use Rattle.bz_items.specs.Characters.{Bytes}

-- the sum of a number of each element
abbrev pub total : {X : Type 0} → (X → ℕ) → List X → ℕ
total number [] = 0
total number (x ∷ xs) = number x + total number xs

abbrev pub suffix_amount : (Bytes → ℕ) → Option Bytes → ℕ
suffix_amount number None = 0
suffix_amount number (Some text) = number text

abbrev pub host_amount : (Bytes → ℕ) → HostComments → ℕ
host_amount number comments = total number comments.before + suffix_amount number comments.suffix

-- the sum of a number of each comment of an expression and of what is in it
abbrev mutual
  pub amount : (Bytes → ℕ) → Expr → ℕ
  amount number (Token t) = host_amount number t.comments
  amount number (Form' kind s parts s' items end split open_break comments) =
      host_amount number comments + (row_amount number parts + (row_amount number items + total number end))

  pub row_amount : (Bytes → ℕ) → {m : _} → Row_of-Expr m → ℕ
  row_amount number end_of-Expr = 0
  row_amount number (more_of-Expr x rest) = amount number x + row_amount number rest

abbrev pub item_amount : (Bytes → ℕ) → Item → ℕ
item_amount number (i.Block lines) = total number lines
item_amount number (i.Stmt x) = amount number x

abbrev pub one_if : Bytes → Bytes → ℕ
one_if text comment = if bytes_eq comment text then 1 else 0

-- how often a comment of this text is in the file value
abbrev pub times : Bytes → List Item → ℕ
times text items = total (item_amount (one_if text)) items
