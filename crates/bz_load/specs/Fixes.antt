-- The names that a file uses, and what `fix` makes of its items.
use Rattle.std.specs.Prelude.{ℕ, ◌+◌, Bool, ◌||◌, List, [], ◌∷◌, map, length, bytes_eq, if◌then◌else◌, false, true, not, ◌&&◌, codes, nat_eq, nat_lt}
use Rattle.std.specs.List.{list_any, filter, find, insert}
use Rattle.bz_token.specs.declared.class.Class.TheVariants as c
use Rattle.bz_load.specs.Words.{Kind, is_class, is_kind, Expr, Form', Row_of-Expr, end_of-Expr, more_of-Expr, items-the_row-Expr, Item, Bytes, HostComments, comments_of, is_empty, is_none, Fixes, is_rule_of_kind as is_rule_of, has_kind, items_of, on_items, on_rest, local_name, without_first}
use Rattle.bz_grammar.specs.declared.kind.Kind.TheVariants as k
use Rattle.bz_value.specs.declared.value.Expr.TheVariants as e
use Rattle.bz_value.specs.declared.value.Item.TheVariants as i
use Rattle.std.specs.Option.{option_map_or}
use Rattle.bz_load.specs.Loads.{after_path, leading_blocks, loads_end}

-- Whether a name that is itself a part of a node is an operand, by its place among the parts: the value of an argument, an alias or
-- a parameter, what is before a dot, and the value of a lambda; nothing of what names a function and its parameters.
abbrev pub is_operand_at : Kind → ℕ → ℕ → Bool
is_operand_at kind count at =
    if is_kind kind k.Named || (is_kind kind k.Alias || is_kind kind k.Param) then nat_lt 1 at
    else (if is_kind kind k.Dot then nat_eq at 0 else (if is_kind kind k.Lambda then nat_eq (at + 1) count else not (is_kind kind k.Def)))

-- whether a text is a name that is an operand, in a suite too; an expression that is itself a name is one where names are
abbrev mutual
  pub has_operand : Bool → Bytes → Expr → Bool
  has_operand named text (e.Token t) = named && (is_class t.class c.Name && bytes_eq text t.text)
  has_operand named text (Form' kind s parts s' items end split open_break comments) =
      operand_from (is_operand_at kind (length (items-the_row-Expr _ parts))) 0 text parts || operand_from (is_operand_at kind (length (items-the_row-Expr _ items))) 0 text items

  -- of the parts of a row, from this place on
  pub operand_from : (ℕ → Bool) → ℕ → {m : _} → Bytes → Row_of-Expr m → Bool
  operand_from named at text end_of-Expr = false
  operand_from named at text (more_of-Expr x rest) = has_operand (named at) text x || operand_from named (at + 1) text rest

abbrev pub uses : Bytes → Item → Bool
uses text (i.Block lines) = false
uses text (i.Stmt x) = has_operand true text x

abbrev pub is_used : List Item → Bytes → Bool
is_used items text = list_any (uses text) items

-- ---- symbols that nothing uses are loaded no more, and the package goes after the loads. (Own profile of buildozer's fixes
-- `unusedLoads` and `movePackageToTop`.)

-- ---- unusedLoads

abbrev pub is_commented : HostComments → Bool
is_commented comments = not (is_empty comments.before && is_none comments.suffix)

abbrev pub path_comments : List Expr → Bool
path_comments [] = false
path_comments (x ∷ xs) = is_commented (comments_of x)

abbrev pub end_of : Expr → List Bytes
end_of (e.Token t) = []
end_of (Form' kind s parts s' items end split open_break comments) = end

-- comments that are no symbol's: above the load, after it, at its end, and the path's
abbrev pub has_own_comments : Expr → Bool
has_own_comments x = is_commented (comments_of x) || (not (is_empty (end_of x)) || path_comments (items_of x))

-- a symbol stays where it has a comment, or its local name is used
abbrev pub symbol_stays : (Bytes → Bool) → Expr → Bool
symbol_stays is_used x = is_commented (comments_of x) || is_used (local_name x)

abbrev pub with_used : (Bytes → Bool) → Expr → Expr
with_used is_used x = if has_own_comments x then x else on_items k.Load (on_rest (filter (symbol_stays is_used))) x

-- a load that loses its last symbol
abbrev pub is_emptied : (Bytes → Bool) → Item → Bool
is_emptied is_used (i.Block lines) = false
is_emptied is_used (i.Stmt x) =
    has_kind k.Load x && not (has_own_comments x) && (not (is_empty (after_path (items_of x))) && not (list_any (symbol_stays is_used) (after_path (items_of x))))

abbrev pub used_alone : (Bytes → Bool) → Item → Item
used_alone is_used (i.Block lines) = i.Block lines
used_alone is_used (i.Stmt x) = i.Stmt (with_used is_used x)

abbrev pub unused_loads : List Item → List Item
unused_loads items = map (used_alone (is_used items)) (filter (λ item. not (is_emptied (is_used items) item)) items)

-- ---- movePackageToTop

abbrev pub is_package_call : Item → Bool
is_package_call item = is_rule_of (codes "package") item

-- Without a load the comment blocks count that lead the file as it is, so what is among them goes first.
abbrev pub package_moved : List Item → Item → List Item
package_moved items new =
    insert (without_first is_package_call items) (loads_end (leading_blocks items) 0 (without_first is_package_call items)) new

-- the first rule of kind `package` right after the last load; without a load after the leading comment blocks
abbrev pub move_package_to_top : List Item → List Item
move_package_to_top items = option_map_or (package_moved items) (find is_package_call items) items

-- ---- fix: movePackageToTop first

abbrev pub fix : Fixes → List Item → List Item
fix fixes items =
    if fixes.unused_loads then unused_loads (if fixes.move_package_to_top then move_package_to_top items else items)
    else (if fixes.move_package_to_top then move_package_to_top items else items)
