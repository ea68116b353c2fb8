-- What is known of a command before it changes anything.
use Rattle.std.specs.Prelude.{ℕ, IsTrue, List, [], ◌≡◌, Bool, true, false, Result, Ok, Option}
use Rattle.bz_command.specs.Words.{Expr, Item, Refusal, Bytes, Operation, Arguments, marked_places}
use Rattle.std.specs.Option.{option_copied}
use Rattle.bz_command_syntax.specs.declared.command.CommentOperation.TheVariants as wc
use Rattle.bz_command_syntax.specs.declared.command.Operation.TheVariants as w
use Rattle.bz_command_syntax.specs.declared.command.RuleOperation.TheVariants as wr
use Rattle.bz_command.specs.declared.ruling.Work.{Work}
use Rattle.bz_command.specs.Effect.{NewItem, arguments_of, effect, looks_at_rules, meant, on_one, on_rules, printed}
use Rattle.bz_list.specs.Changes as values
use Rattle.bz_command.specs.declared.running.Look.{Look}
use Rattle.bz_command.specs.declared.running.Look.TheVariants as l

-- what is made of the arguments of a rule, and of a rule
abbrev pub arguments_by : Operation → Work → List Expr → Arguments
arguments_by operation work = arguments_of operation work.current.now (option_copied work.found)

abbrev pub made_by : Operation → Work → Item → NewItem
made_by operation work = on_one operation work.current.now (option_copied work.found)

-- the same, where what that is need not be known
unfoldable pub one_made : Operation → Bytes → Option Expr → Item → NewItem
one_made operation current found item = on_one operation current found item

abbrev pub one_made_by : Work → Item → NewItem
one_made_by work = one_made work.command.now work.current.now (option_copied work.found)

-- an operation that says itself whether it changes a rule
abbrev pub says_itself : Operation → Bool
says_itself (w.Value operation) = values.tells_change operation
says_itself _ = false

-- what a command that is run makes of a file, and what it prints
abbrev pub effect_by : Work → List Item → Result (List Item) Refusal
effect_by work = effect work.command.now work.target.now work.current.now work.lines.now

abbrev pub printed_for : Work → List Item → Result Bytes Refusal
printed_for work = printed work.command.now work.target.now work.current.now work.lines.now

-- the marks of the rules that it is meant for, and their places
abbrev pub marks_by : Work → List Item → List Bool
marks_by work items = meant work.target.now.which work.lines.now items

abbrev pub places_by : Work → List Item → List ℕ
places_by work items = marked_places 0 (marks_by work items)

-- A command that prints nothing makes of the items what it makes of those that are marked.
abbrev pub IsChange : Work → List Item → List ℕ → Type 0
IsChange work items places =
    (IsTrue (looks_at_rules work.command.now) → places ≡ places_by work items) × (effect_by work items ≡ on_rules work.command.now work.current.now (marks_by work items) items) × (printed_for work items ≡ Ok [])

-- Where something is printed the items stay; else they may change.
abbrev pub IsLook : Work → List Item → Look → Type 0
IsLook work items (l.Stays text) = (effect_by work items ≡ Ok items) × (printed_for work items ≡ Ok text)
IsLook work items (l.Changes places) = IsChange work items places.items

-- a command that changes the rules that it is meant for one by one
abbrev pub changes_each : Operation → Bool
changes_each (w.Rule (wr.SetKind kind)) = true
changes_each (w.Attribute operation) = true
changes_each (w.Value operation) = true
changes_each (w.Dict operation) = true
changes_each (w.Comment (wc.Add host text)) = true
changes_each (w.Comment (wc.Remove host)) = true
changes_each _ = false
