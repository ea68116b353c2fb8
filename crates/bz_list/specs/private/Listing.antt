-- What the commands on lists do, in the steps in which they do it.
use Rattle.std.specs.Prelude.{Bool, true, not, ◌&&◌, false, nat_eq, List, [], Option, Some, None, if◌then◌else◌, map}
use Rattle.std.specs.List.{ends_with, filter, flat_map}
use Rattle.bz_list.specs.Words.{Expr, Bytes, Selects, listed, on_items, on_operands, on_row, on_third, operands_in, with_branches, with_value, is_other_attribute, on_value, body_of, items_in, is_item, fresh, travelled, arriving, has_lists, with_more, list_of, plus, string_of, inside, parts_of, first_text, text_of}
use Rattle.bz_command_syntax.specs.declared.command.Selects.TheVariants.{Skipped}
use Rattle.bz_grammar.specs.declared.kind.Kind.TheVariants as k
use Rattle.std.specs.BTreeSet.{BTreeSet}
use Rattle.bz_list.specs.declared.known.Key.{Key}
use Rattle.bz_list.specs.Changes.{cleared, without_items, in_value, replaced_item, substituted_item}
use Rattle.bz_list.specs.private.KnownValues.{knows_word, is_known, new_ones}
use Rattle.bz_list.specs.declared.listed.Added.{Added}
use Rattle.bz_list.specs.declared.listed.Added.TheVariants as a
use Rattle.bz_list.specs.declared.editing.Edit.{Edit}
use Rattle.bz_list.specs.declared.editing.Edit.TheVariants as d
use Rattle.bz_list.specs.declared.replacing.Change.{Change}
use Rattle.bz_list.specs.declared.replacing.Change.TheVariants.{Replace, Substitute, Shorten}

-- whether a command is meant for an item of an attribute
abbrev pub chooses : Bytes → Bytes → Option (BTreeSet Key) → Expr → Bool
chooses current name None x = true
chooses current name (Some known) x = is_known body_of (knows_word current name known) x

abbrev pub is_left : Bytes → Bytes → Option (BTreeSet Key) → Expr → Bool
is_left current name chosen x = not (chooses current name chosen x)

-- what is left of a value put back, where items were taken and where none was
abbrev pub put_back : Bytes → Bool → Expr → List Expr → List Expr
put_back name is_changed value arguments = if is_changed then cleared name value arguments else with_value name value arguments

-- what an attribute is left with, and what is taken from it, by the value that it has
abbrev pub without_chosen : Selects → Bytes → (Expr → Bool) → Option Expr → List Expr → List Expr
without_chosen selects name test None arguments = arguments
without_chosen selects name test (Some value) arguments = without_items selects name test value arguments

abbrev pub chosen_in : Selects → (Expr → Bool) → Option Expr → List Expr
chosen_in selects test None = []
chosen_in selects test (Some value) = filter test (items_in selects value)

-- ---- what is added to an attribute, in the steps in which it is

-- the items that are added to the items that are there
abbrev pub added_by : Bytes → Bytes → Added → List Expr → List Expr
added_by current name (a.Words words) there = map (string_of current name) (fresh current name there [] words.now)
added_by current name (a.Moved items) there = arriving current name there items

-- and to those that are known
abbrev pub new_strings : Bytes → Bytes → (Bytes → Bool) → List Bytes → List Expr
new_strings current name known words = new_ones current name (λ word. Some word) (string_of current name) known words

abbrev pub new_items : Bytes → Bytes → (Bytes → Bool) → List Expr → List Expr
new_items current name known items = new_ones current name body_of (travelled current name) known items

abbrev pub added_to : Bytes → Bytes → Added → (Bytes → Bool) → List Expr
added_to current name (a.Words words) known = new_strings current name known words.now
added_to current name (a.Moved items) known = new_items current name known items

-- whether a word means an item that ends so between its quotation marks
abbrev pub is_item_ending : Bytes → Bytes → Bytes → Bytes → Expr → Bool
is_item_ending current name word end x = ends_with nat_eq (inside 1 (text_of x)) end && is_item current name word x

-- a value with items added
abbrev pub value_with : (List Expr → List Expr) → Expr → Expr
value_with added value = if has_lists Skipped value then with_more (added (items_in Skipped value)) value else plus value (list_of (added []))

-- ---- what `replace` and `substitute` do to an item, to a value and to an attribute, by the change that they are

abbrev pub item_changed_by : Change → Bytes → Bytes → Expr → Expr
item_changed_by (Replace old new) current name = replaced_item current name old.now new.now
item_changed_by (Substitute pattern template) current name = substituted_item current name pattern.now template.now
item_changed_by Shorten current name = travelled current name

abbrev pub value_changed_by : Selects → Change → Bytes → Bytes → Expr → Expr
value_changed_by selects change current name = in_value selects (item_changed_by change current name)

-- in an attribute that `*` means
abbrev pub other_changed_by : Selects → Change → Bytes → Expr → Expr
other_changed_by selects change current x = if is_other_attribute x then on_value (value_changed_by selects change current (first_text (parts_of x))) x else x

-- ---- what is done to the lists of a value

-- to the items of a list: those that are chosen go, or each is changed
abbrev pub items_edited : Edit → Bytes → Bytes → List Expr → List Expr
items_edited (d.Take chosen) current name = filter (is_left current name chosen.now)
items_edited (d.Change change) current name = map (item_changed_by change current name)

-- to an expression: one that is no list stays
abbrev pub edited : Edit → Bytes → Bytes → Expr → Expr
edited edit current name = on_items k.List (items_edited edit current name)

-- to an entry of a `select`
abbrev pub entry_edited : Edit → Bytes → Bytes → Expr → Expr
entry_edited edit current name = on_row k.Entry (on_third (on_operands (edited edit current name)))

-- whether an item goes
abbrev pub takes : Edit → Bytes → Bytes → Expr → Bool
takes (d.Take chosen) current name x = chooses current name chosen.now x
takes (d.Change change) current name x = false

-- the items of the lists in an entry of a `select`, and of an operand and its branches
abbrev pub entry_items : Expr → List Expr
entry_items entry = flat_map listed (operands_in entry)

abbrev pub operand_items : Expr → List Expr
operand_items x = flat_map listed (with_branches x)
