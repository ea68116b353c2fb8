-- The comments that a command is meant for: those of a rule, of an attribute, or of an item of an attribute's lists. (Own
-- profile of buildozer's comment commands.)
use Rattle.std.specs.Prelude.{Bool, not, List, [], ◌∷◌, ◌++◌, Option, Some, None, Result, Ok, Err, nat_eq, if◌then◌else◌}
use Rattle.std.specs.List.{find, list_any, flat_map}
use Rattle.bz_grammar.specs.declared.kind.Kind.TheVariants as k
use Rattle.bz_comment.specs.Words.{Expr, Bytes, line_feed, number_sign, space, HostComments, no_comments, with_comments, trimmed, comments_of, Host, attribute, has_kind, listed, on_first, on_row, on_items, on_third, above, with_above, Refusal, is_attribute, has_attribute, on_first_that, with_value, Arguments, entries_of, has_lists, is_item, is_select, items_in, operands_in, Selects}
use Rattle.bz_command_syntax.specs.declared.command.Selects.TheVariants.{Skipped, Entered}
use Rattle.bz_command_syntax.specs.declared.command.Host.TheVariants as h
use Rattle.bz_value.specs.declared.refusal.Refusal.TheVariants.{NoAttribute, NotAList}

-- ---- comments of an expression

-- `# text`, without spaces, tabs and carriage returns at its end
abbrev pub comment_made : Bytes → Bytes
comment_made text = trimmed (number_sign ∷ space ∷ text)

-- the comment becomes the last one above
abbrev pub with_comment : Bytes → Expr → Expr
with_comment text x = with_above (above x ++ comment_made text ∷ []) x

abbrev pub without_comments : Expr → Expr
without_comments x = with_comments x no_comments

-- without `#`, and without one space after it
abbrev pub without_space : Bytes → Bytes
without_space [] = []
without_space (first ∷ rest) = if nat_eq first space then rest else first ∷ rest

abbrev pub comment_text : Bytes → Bytes
comment_text [] = []
comment_text (sign ∷ rest) = without_space rest

-- one comment a line
abbrev pub comment_line : Bytes → Bytes
comment_line comment = comment_text comment ++ line_feed ∷ []

abbrev pub suffix_line : Option Bytes → Bytes
suffix_line None = []
suffix_line (Some comment) = comment_line comment

-- those above, then the suffix
abbrev pub printed_comments : HostComments → Bytes
printed_comments comments = flat_map comment_line comments.before ++ suffix_line comments.suffix

-- ---- hosts among the arguments of a rule

-- the items of the lists of a branch, and those of an operand: of a list, or of the branches of a `select` that is entered
abbrev pub branch_items : Expr → List Expr
branch_items entry = flat_map listed (operands_in entry)

abbrev pub items_at : Selects → Expr → List Expr
items_at Skipped x = listed x
items_at Entered x = listed x ++ flat_map branch_items (entries_of x)

-- whether an item of these passes a test
abbrev pub has_item : Selects → (Expr → Bool) → Expr → Bool
has_item selects test x = list_any test (items_at selects x)

abbrev pub has_branch_item : (Expr → Bool) → Expr → Bool
has_branch_item test entry = list_any test (branch_items entry)

-- the first operand that passes a test, or a value that is no sum, changed
abbrev pub on_first_operand : (Expr → Bool) → (Expr → Expr) → Expr → Expr
on_first_operand test change value = if has_kind k.Sum value then on_row k.Sum (on_first_that test change) value else change value

-- the first item of a list that passes a test, changed
abbrev pub on_first_listed : (Expr → Bool) → (Expr → Expr) → Expr → Expr
on_first_listed test change x = on_items k.List (on_first_that test change) x

-- the same in the value of an entry
abbrev pub on_branch : (Expr → Bool) → (Expr → Expr) → Expr → Expr
on_branch test change entry = on_row k.Entry (on_third (on_first_operand (has_item Skipped test) (on_first_listed test change))) entry

-- the same in the first branch of a `select` that has such an item
abbrev pub on_first_branch : (Expr → Bool) → (Expr → Expr) → Expr → Expr
on_first_branch test change x = on_items k.Call (on_first (on_items k.Dict (on_first_that (has_branch_item test) (on_branch test change)))) x

abbrev pub on_first_at : Selects → (Expr → Bool) → (Expr → Expr) → Expr → Expr
on_first_at Skipped test change x = on_first_listed test change x
on_first_at Entered test change x = if is_select x then on_first_branch test change x else on_first_listed test change x

-- the first item of a value's lists that passes a test, changed
abbrev pub on_first_item : Selects → (Expr → Bool) → (Expr → Expr) → Expr → Expr
on_first_item selects test change value = on_first_operand (has_item selects test) (on_first_at selects test change) value

-- a value that is no list, or a sum without one, is refused; so is an item that isn't there
abbrev pub on_item_of : Selects → (Expr → Bool) → (Expr → Expr) → Expr → Result Expr Refusal
on_item_of selects test change value =
    if not (has_lists selects value) then Err NotAList
    else (if list_any test (items_in selects value) then Ok (on_first_item selects test change value) else Err NoAttribute)

abbrev pub put_value : Bytes → Result Expr Refusal → List Expr → Arguments
put_value name (Err refusal) arguments = Err refusal
put_value name (Ok value) arguments = Ok (with_value name value arguments)

abbrev pub on_named_item : Selects → Bytes → (Expr → Bool) → (Expr → Expr) → Option Expr → List Expr → Arguments
on_named_item selects name test change None arguments = Err NoAttribute
on_named_item selects name test change (Some value) arguments = put_value name (on_item_of selects test change value) arguments

-- The host in the arguments of a rule, changed. The rule itself is no part of its arguments.
abbrev pub on_host : Bytes → Host → (Expr → Expr) → List Expr → Arguments
on_host current h.Rule change arguments = Ok arguments
on_host current (h.Attribute name) change arguments =
    if has_attribute name arguments then Ok (on_first_that (is_attribute name) change arguments) else Err NoAttribute
on_host current (h.Item name word selects) change arguments =
    on_named_item selects name (is_item current name word) change (attribute name arguments) arguments

-- ---- the commands, on a rule's statement and on its arguments

abbrev pub comment : Bytes → Host → Bytes → List Expr → Arguments
comment current host text arguments = on_host current host (with_comment text) arguments

abbrev pub remove_comment : Bytes → Host → List Expr → Arguments
remove_comment current host arguments = on_host current host without_comments arguments

-- ---- print_comment

abbrev pub found_comments : Option Expr → Result Bytes Refusal
found_comments None = Err NoAttribute
found_comments (Some x) = Ok (printed_comments (comments_of x))

abbrev pub item_comments : Selects → (Expr → Bool) → Option Expr → Result Bytes Refusal
item_comments selects test None = Err NoAttribute
item_comments selects test (Some value) = if not (has_lists selects value) then Err NotAList else found_comments (find test (items_in selects value))

-- `own` are the comments of the rule itself
abbrev pub print_comment : Bytes → Host → HostComments → List Expr → Result Bytes Refusal
print_comment current h.Rule own arguments = Ok (printed_comments own)
print_comment current (h.Attribute name) own arguments = found_comments (find (is_attribute name) arguments)
print_comment current (h.Item name word selects) own arguments = item_comments selects (is_item current name word) (attribute name arguments)
