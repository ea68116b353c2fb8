-- Which of the rules that a target means refuses a command.
use Rattle.std.specs.Prelude.{ℕ, Bool, false, ◌&&◌, ◌||◌, List, [], ◌∷◌, Option, Some, None, is_err, option_map, if◌then◌else◌}
use Rattle.std.specs.Str.Lossy.{utf8_lossy}
use Rattle.bz_items.specs.Characters.{Bytes}
use Rattle.bz_label.specs.declared.target.Which.{Which}
use Rattle.bz_label.specs.declared.target.Which.TheVariants.{All, Kind, Line, Package, Name}
use Rattle.bz_value.specs.declared.value.Expr.{Expr}
use Rattle.bz_value.specs.declared.value.Item.{Item}
use Rattle.bz_value.specs.declared.value.Item.TheVariants as i
use Rattle.bz_rule.specs.Rules.{has_name, is_rule_of_kind}
use Rattle.bz_command_syntax.specs.declared.command.Operation.{Operation}
use Rattle.bz_command.specs.Effect.{is_rule, on_one, printed_one, source_of}
use Rattle.bz_hint.specs.Names.{rule_name}

-- A target that may mean several rules, or is a name, means this one.
abbrev pub is_meant : Which → Item → Bool
is_meant All item = is_rule item
is_meant (Kind kind) item = is_rule_of_kind kind item
is_meant (Line line) item = false
is_meant Package item = false
is_meant (Name name) item = has_name name item

-- The item is meant, and the operation by itself is refused on it: what it changes there, or what it prints. (The value that is copied, where
-- one is; whether what is printed is refused doesn't depend on the line.)
abbrev pub refuses : Operation → Which → Bytes → Option Expr → Item → Bool
refuses operation which current found item =
    is_meant which item && (is_err (on_one operation current found item) || is_err (printed_one operation current None item))

-- a rule by the line on which it begins, and by its name, as characters
pub record RuleAt : Type 0 where
  pub line : ℕ
  pub name : Option Bytes

abbrev pub named_at : ℕ → Item → RuleAt
named_at line item = record { line = line; name = option_map utf8_lossy (rule_name item) }

-- the first statement that passes, by the lines on which statements begin
abbrev pub first_refusing : (Item → Bool) → List ℕ → List Item → Option RuleAt
first_refusing passes lines [] = None
first_refusing passes lines (i.Block comments ∷ items) = first_refusing passes lines items
first_refusing passes [] (i.Stmt x ∷ items) = None
first_refusing passes (line ∷ lines) (i.Stmt x ∷ items) = if passes (i.Stmt x) then Some (named_at line (i.Stmt x)) else first_refusing passes lines items

-- of the rules that the target means the first that refuses the operation
abbrev pub refusing_rule : Operation → Which → Bytes → List ℕ → List Item → Option RuleAt
refusing_rule operation which current lines items = first_refusing (refuses operation which current (source_of operation items)) lines items
