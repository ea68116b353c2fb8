-- Whether a value has suites, or other nodes of the newer kinds, which BUILD files have not.
use Rattle.std.specs.Prelude.{ℕ, ◌+◌, Bool, nat_le, nat_lt, List, if◌then◌else◌}
use Rattle.std.specs.List.{list_any}
use Rattle.bz_passes.specs.Words.{Kind, kind_number, Expr, Token, Form', Row_of-Expr, end_of-Expr, more_of-Expr, Item}
use Rattle.bz_grammar.specs.declared.kind.Kind.TheVariants as k
use Rattle.bz_value.specs.declared.value.Item.TheVariants as i

-- The newer kinds are those from Def on.
abbrev pub is_newer_kind : Kind → Bool
is_newer_kind kind = nat_le (kind_number k.Def) (kind_number kind)

-- how many nodes of these kinds an expression has
abbrev mutual
  pub newer : Expr → ℕ
  newer (Token t) = 0
  newer (Form' kind s parts s' items end split open_break comments) = (if is_newer_kind kind then 1 else 0) + (row_newer parts + row_newer items)

  pub row_newer : {m : _} → Row_of-Expr m → ℕ
  row_newer end_of-Expr = 0
  row_newer (more_of-Expr x rest) = newer x + row_newer rest

abbrev pub has_newer_node : Expr → Bool
has_newer_node x = nat_lt 0 (newer x)

abbrev pub item_newer : Item → ℕ
item_newer (i.Block lines) = 0
item_newer (i.Stmt x) = newer x

abbrev pub has_newer : List Item → Bool
has_newer items = list_any (λ item. nat_lt 0 (item_newer item)) items
