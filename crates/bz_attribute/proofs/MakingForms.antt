-- The rows after a form are its lists.
use Rattle.bz_attribute.proofs.Words.{◌≡◌, end_of-Expr, Expr, Form, Form', items-the_row-Expr, items_hidden-the_row-Expr-0, List, Row_of-Expr}
use mathlib.Core.Former.{Count}
use Rattle.bz_value.specs.declared.value.Expr.TheVariants as e

abbrev pub Row : Type 0
Row = (n : Count) × Row_of-Expr n

abbrev pub listed : Row → List Expr
listed r = items-the_row-Expr r.0 r.1

abbrev pub part_row : Expr → Row
part_row (Form' kind s parts s' items end split open_break comments) = (_, parts)
part_row (e.Token t) = (_, end_of-Expr)

abbrev pub item_row : Expr → Row
item_row (Form' kind s parts s' items end split open_break comments) = (_, items)
item_row (e.Token t) = (_, end_of-Expr)

pub part_list : (f : Form) → listed (part_row (e.Form f)) ≡ f.parts
part_list f = items_hidden-the_row-Expr-0 f.parts

pub item_list : (f : Form) → listed (item_row (e.Form f)) ≡ f.seq.items
item_list f = items_hidden-the_row-Expr-0 f.seq.items
