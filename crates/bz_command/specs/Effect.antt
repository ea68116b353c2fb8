-- Which rules a target means, and what a command prints of them and makes of a file value.
use Rattle.std.specs.Prelude.{ℕ, ◌+◌, Bool, true, false, ◌&&◌, List, [], ◌∷◌, codes, length, map, is_some, nat_eq, ◌++◌, Option, Some, None, Result, Ok, Err, decimal, option_map, if◌then◌else◌, not, bytes_eq}
use Rattle.bz_command.specs.Words.{Which, Item, rule_of, is_rule_of_kind, has_name, Rule as RuleRead, attribute, Bytes, comments_of, Operation, Host, Refusal, print_comment, with_comment, without_comments, comment, remove_comment, Target, Expr, LoadOperation, RulePlace, with_items, with_parts, on_row, on_first, function_of, rule_made, Arguments, attributes_changed, values_changed, dicts_changed, fix, new_load, replace_load, substitute_load, use_repo_add, use_repo_remove, prints}
use Rattle.bz_label.specs.declared.target.Which.TheVariants.{All, Kind, Line, Package, Name}
use Rattle.bz_value.specs.declared.value.Item.TheVariants as i
use Rattle.std.specs.Option.{option_map_or, option_or}
use Rattle.bz_command_syntax.specs.declared.command.Operation.TheVariants as w
use Rattle.bz_command_syntax.specs.declared.command.CommentOperation.TheVariants as wc
use Rattle.bz_command.specs.Prints.{printed_item}
use Rattle.std.specs.List.{insert, list_any, position}
use Rattle.bz_grammar.specs.declared.kind.Kind.TheVariants as k
use Rattle.bz_command_syntax.specs.declared.command.RuleOperation.TheVariants as wr
use Rattle.bz_command_syntax.specs.declared.command.AttributeOperation.TheVariants as wa
use Rattle.bz_command_syntax.specs.declared.command.LoadOperation.TheVariants as wl
use Rattle.bz_command_syntax.specs.declared.command.RulePlace.TheVariants.{End, Before, After}
use Rattle.bz_value.specs.declared.refusal.Refusal.TheVariants.{NoTarget, NameTaken}
use Rattle.bz_command_syntax.specs.declared.command.Host.TheVariants.{Rule}

-- ---- the rules that a target means, as a mark for each item of the file

abbrev pub is_rule : Item → Bool
is_rule item = is_some (rule_of item)

-- the arguments of a rule; of any other item none
abbrev pub rule_arguments : Item → List Expr
rule_arguments item = option_map_or (λ rule. rule.arguments) (rule_of item) []

-- the line on which an item begins, by the lines of the statements from it on: a Block is on no line, and a statement past the
-- list's end on none
abbrev pub item_line : List ℕ → Item → Option ℕ
item_line lines (i.Block comments) = None
item_line [] (i.Stmt x) = None
item_line (line ∷ lines) (i.Stmt x) = Some line

-- the lines of the statements after it
abbrev pub lines_after_item : List ℕ → Item → List ℕ
lines_after_item lines (i.Block comments) = lines
lines_after_item [] (i.Stmt x) = []
lines_after_item (line ∷ lines) (i.Stmt x) = lines

-- the rules on a line, by the lines on which the statements begin, in their order
abbrev pub on_line : ℕ → List ℕ → List Item → List Bool
on_line line lines [] = []
on_line line lines (item ∷ items) = (option_map_or (nat_eq line) (item_line lines item) false && is_rule item) ∷ on_line line (lines_after_item lines item) items

abbrev pub first_mark : List Bool → List Bool
first_mark [] = []
first_mark (true ∷ marks) = true ∷ map (λ _. false) marks
first_mark (false ∷ marks) = false ∷ first_mark marks

-- `all` means all rules, `%kind` those of a kind, `%N` those on a line, a name all of that name, `__pkg__` the first rule
-- of kind `package`.
abbrev pub meant : Which → List ℕ → List Item → List Bool
meant All lines items = map is_rule items
meant (Kind kind) lines items = map (is_rule_of_kind kind) items
meant (Line line) lines items = on_line line lines items
meant Package lines items = first_mark (map (is_rule_of_kind (codes "package")) items)
meant (Name name) lines items = map (has_name name) items

-- Where none is meant, `all` and `%kind` leave the file unchanged; any other target is refused.
abbrev pub may_mean_none : Which → Bool
may_mean_none All = true
may_mean_none (Kind kind) = true
may_mean_none _ = false

-- ---- what commands print of the rules that they are meant for

-- the comments of a host in a rule
abbrev pub printed_comments_of : Bytes → Host → Item → Result Bytes Refusal
printed_comments_of current host (i.Block lines) = Ok []
printed_comments_of current host (i.Stmt x) = print_comment current host (comments_of x) (rule_arguments (i.Stmt x))

-- what is printed of one rule; `line` is the line on which it begins, in decimal digits
abbrev pub printed_one : Operation → Bytes → Option Bytes → Item → Result Bytes Refusal
printed_one (w.Comment (wc.Print host)) current line item = printed_comments_of current host item
printed_one (w.Print fields) current line item = Ok (printed_item current line item fields)
printed_one _ current line item = Ok []

-- The first rule that refuses decides.
abbrev pub before_rest : Result Bytes Refusal → Result Bytes Refusal → Result Bytes Refusal
before_rest (Err refusal) rest = Err refusal
before_rest (Ok text) (Err refusal) = Err refusal
before_rest (Ok text) (Ok rest) = Ok (text ++ rest)

-- What is printed of the rules that are marked, in the order of the file; of the others nothing.
abbrev pub printed_rules : Operation → Bytes → List ℕ → List Bool → List Item → Result Bytes Refusal
printed_rules operation current lines (mark ∷ marks) (item ∷ items) =
    before_rest (if mark then printed_one operation current (option_map decimal (item_line lines item)) item else Ok [])
    (printed_rules operation current (lines_after_item lines item) marks items)
printed_rules operation current lines _ _ = Ok []

-- ---- what a command makes of a file value

-- ---- the meant rules, one after the other

abbrev pub NewItem : Type 0
NewItem = Result Item Refusal

-- a statement, changed; so a rule with other arguments, and with another function
abbrev pub on_statement : (Expr → Expr) → Item → Item
on_statement change (i.Block lines) = i.Block lines
on_statement change (i.Stmt x) = i.Stmt (change x)

abbrev pub with_arguments : List Expr → Item → Item
with_arguments arguments item = on_statement (on_row k.Bare (on_first (with_items arguments))) item

abbrev pub with_function : Expr → Item → Item
with_function function item = on_statement (on_row k.Bare (on_first (with_parts (function ∷ [])))) item

abbrev pub made_of : Item → Arguments → NewItem
made_of item (Err refusal) = Err refusal
made_of item (Ok arguments) = Ok (with_arguments arguments item)

abbrev pub on_rule : (List Expr → Arguments) → Option RuleRead → Item → NewItem
on_rule change None item = Ok item
on_rule change (Some rule) item = made_of item (change rule.arguments)

abbrev pub on_arguments : (List Expr → Arguments) → Item → NewItem
on_arguments change item = on_rule change (rule_of item) item

abbrev pub with_item_first : NewItem → Result (List Item) Refusal → Result (List Item) Refusal
with_item_first (Err refusal) items = Err refusal
with_item_first (Ok item) (Err refusal) = Err refusal
with_item_first (Ok item) (Ok items) = Ok (item ∷ items)

-- The first meant rule that refuses, in file order, decides.
abbrev pub on_meant : (Item → NewItem) → List Bool → List Item → Result (List Item) Refusal
on_meant change (true ∷ marks) (item ∷ items) = with_item_first (change item) (on_meant change marks items)
on_meant change (false ∷ marks) (item ∷ items) = with_item_first (Ok item) (on_meant change marks items)
on_meant change _ items = Ok items

-- the items without a mark, in order
abbrev pub unmarked : List Bool → List Item → List Item
unmarked (true ∷ marks) (item ∷ items) = unmarked marks items
unmarked (false ∷ marks) (item ∷ items) = item ∷ unmarked marks items
unmarked _ _ = []

-- ---- new

-- the place of the first rule of a name; where there is none, `__pkg__` is the first rule of kind `package`
abbrev pub place_beside : Bytes → List Item → Option ℕ
place_beside name items =
    option_or (position (has_name name) items) (if bytes_eq name (codes "__pkg__") then position (is_rule_of_kind (codes "package")) items else None)

-- After how many items a new rule goes: at the end, or beside a rule, where that is there.
abbrev pub new_rule_place : RulePlace → List Item → Option ℕ
new_rule_place End items = Some (length items)
new_rule_place (Before rule) items = place_beside rule items
new_rule_place (After rule) items = option_map (λ at. at + 1) (place_beside rule items)

abbrev pub with_rule : Bytes → Bytes → RulePlace → List Item → Result (List Item) Refusal
with_rule kind name place items =
    option_map_or (λ at. if list_any (has_name name) items then Err NameTaken else Ok (insert items at (rule_made kind name))) (new_rule_place place items) (Err NoTarget)

-- ---- all commands

-- the value that an attribute has in the first rule of a name
abbrev pub source : Bytes → Bytes → List Item → Option Expr
source name rule [] = None
source name rule (item ∷ items) = if has_name rule item then attribute name (rule_arguments item) else source name rule items

-- the value that is copied, from the file as it was
abbrev pub source_of : Operation → List Item → Option Expr
source_of (w.Attribute (wa.Copy name rule)) items = source name rule items
source_of (w.Attribute (wa.CopyNoOverwrite name rule)) items = source name rule items
source_of _ items = None

-- What a command makes of the arguments of a rule; `found` is the value that is copied. Those on whole rules, on what the file loads and
-- on fields leave them.
abbrev pub arguments_of : Operation → Bytes → Option Expr → List Expr → Arguments
arguments_of (w.Attribute operation) current found arguments = attributes_changed operation current found arguments
arguments_of (w.Value operation) current found arguments = values_changed operation current arguments
arguments_of (w.Dict operation) current found arguments = dicts_changed operation current arguments
arguments_of (w.Comment (wc.Add host text)) current found arguments = comment current host text arguments
arguments_of (w.Comment (wc.Remove host)) current found arguments = remove_comment current host arguments
arguments_of _ current found arguments = Ok arguments

-- What a command makes of a rule that it is meant for. The comments of the rule itself are those of its statement, those of any other host are
-- among its arguments.
abbrev pub on_one : Operation → Bytes → Option Expr → Item → NewItem
on_one (w.Rule (wr.SetKind kind)) current found item = Ok (if is_rule item then with_function (function_of kind) item else item)
on_one (w.Comment (wc.Add Rule text)) current found item = Ok (on_statement (with_comment text) item)
on_one (w.Comment (wc.Remove Rule)) current found item = Ok (on_statement without_comments item)
on_one operation current found item = on_arguments (arguments_of operation current found) item

-- the same of each rule that is marked
abbrev pub on_each : Operation → Bytes → List Bool → List Item → Result (List Item) Refusal
on_each operation current marks items = on_meant (on_one operation current (source_of operation items)) marks items

-- the commands on what the file loads
abbrev pub loads_changed : LoadOperation → Bytes → List Item → Result (List Item) Refusal
loads_changed (wl.New path symbols) current items = Ok (new_load path symbols items)
loads_changed (wl.Fix fixes) current items = Ok (fix fixes items)
loads_changed (wl.Replace path symbols) current items = Ok (replace_load path symbols items)
loads_changed (wl.Substitute pattern template) current items = Ok (substitute_load pattern template items)
loads_changed (wl.AddRepos usages repos) current items = use_repo_add current usages repos items
loads_changed (wl.RemoveRepos usages repos) current items = use_repo_remove current usages repos items

-- what a command makes of the rules that are marked
abbrev pub on_rules : Operation → Bytes → List Bool → List Item → Result (List Item) Refusal
on_rules (w.Rule (wr.New kind name place)) current marks items = with_rule kind name place items
on_rules (w.Rule wr.Delete) current marks items = Ok (unmarked marks items)
on_rules (w.Load operation) current marks items = loads_changed operation current items
on_rules (w.Print fields) current marks items = Ok items
on_rules operation current marks items = on_each operation current marks items

-- These look only at the target's package; every other command at the rules that the target means.
abbrev pub looks_at_rules : Operation → Bool
looks_at_rules (w.Rule (wr.New kind name place)) = false
looks_at_rules (w.Load operation) = false
looks_at_rules _ = true

-- Where a command is meant for rules and none is there, the file is unchanged, or the command is refused.
abbrev pub lacks_rules : Operation → List Bool → Bool
lacks_rules command marks = looks_at_rules command && not (list_any (λ mark. mark) marks)

-- a refusal, or the same items
abbrev pub kept : List Item → Result Bytes Refusal → Result (List Item) Refusal
kept items (Err refusal) = Err refusal
kept items (Ok text) = Ok items

-- The value that a command makes of a value, or why it is refused. It is unchanged where that is the value itself; a command
-- that prints leaves it.
abbrev pub effect : Operation → Target → Bytes → List ℕ → List Item → Result (List Item) Refusal
effect command target current lines items =
    if lacks_rules command (meant target.which lines items) then (if may_mean_none target.which then Ok items else Err NoTarget)
    else (if prints command then kept items (printed_rules command current lines (meant target.which lines items) items)
    else on_rules command current (meant target.which lines items) items)

-- What a command prints. Where no rule is meant it is nothing.
abbrev pub printed : Operation → Target → Bytes → List ℕ → List Item → Result Bytes Refusal
printed command target current lines items =
    if lacks_rules command (meant target.which lines items) then Ok []
    else (if prints command then printed_rules command current lines (meant target.which lines items) items else Ok [])
