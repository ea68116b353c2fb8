-- Laws of the effects of commands.
use Rattle.std.specs.Prelude.{◌≡◌, ◌≤◌, ℕ, Bool, true, false, List, Ok, ◌||◌}
use Rattle.bz_command.specs.Words.{Target, Item, Bytes, times, IsProperIn, Grammar, Operation, IsProperCommand, Which, Field}
use Rattle.bz_command_syntax.specs.declared.command.Operation.TheVariants as w
use Rattle.bz_command_syntax.specs.declared.command.RuleOperation.TheVariants as wr
use Rattle.bz_command_syntax.specs.declared.command.AttributeOperation.TheVariants as wa
use Rattle.bz_command_syntax.specs.declared.command.ValueOperation.TheVariants as wv
use Rattle.bz_command_syntax.specs.declared.command.DictOperation.TheVariants as wd
use Rattle.bz_command_syntax.specs.declared.command.LoadOperation.TheVariants as wl
use Rattle.bz_command_syntax.specs.declared.command.CommentOperation.TheVariants as wc
use Rattle.bz_command.specs.Effect.{effect, printed}
use Rattle.std.specs.List.{list_any}
use Rattle.bz_label.specs.declared.target.Which.TheVariants.{Line}
use Rattle.bz_command_syntax.specs.declared.command.Field.TheVariants as f

-- What a command that was read makes of a proper file value is proper; by any grammar, so that a BUILD file's value stays one.
-- The target, the current package and the lines may be any.
abbrev pub EffectsStayProper : Type 0
EffectsStayProper =
    (grammar : Grammar) (operation : Operation) (target : Target) (current : Bytes) (lines : List ℕ) (items new : List Item)
    → IsProperCommand operation → IsProperIn grammar items → effect operation target current lines items ≡ Ok new → IsProperIn grammar new

-- ---- comments

-- the operations that lose no comment
abbrev pub keeps_comments : Operation → Bool
keeps_comments (w.Rule (wr.New kind name place)) = true
keeps_comments (w.Attribute (wa.SetIfAbsent name words)) = true
keeps_comments (w.Attribute (wa.Rename from to)) = true
keeps_comments (w.Attribute (wa.CopyNoOverwrite name rule)) = true
keeps_comments (w.Value (wv.Add name words)) = true
keeps_comments (w.Value (wv.Replace attributes old new selects)) = true
keeps_comments (w.Value (wv.Substitute attributes pattern template selects)) = true
keeps_comments (w.Dict (wd.Add name entries)) = true
keeps_comments (w.Dict (wd.ReplaceIfEqual name key old new)) = true
keeps_comments (w.Dict (wd.ListAdd name key words)) = true
keeps_comments (w.Load (wl.New path symbols)) = true
keeps_comments (w.Load (wl.Replace path symbols)) = true
keeps_comments (w.Load (wl.Substitute pattern template)) = true
keeps_comments (w.Load (wl.AddRepos usages repos)) = true
keeps_comments (w.Comment (wc.Add host text)) = true
keeps_comments (w.Comment (wc.Print host)) = true
keeps_comments (w.Print fields) = true
keeps_comments _ = false

-- of these the one that moves comments from what goes
abbrev pub moves_comments : Operation → Bool
moves_comments (w.Load (wl.Replace path symbols)) = true
moves_comments _ = false

-- They leave each comment at least as often as it occurred there; where some move, in a proper file.
abbrev pub CommentsStay : Type 0
CommentsStay =
    (grammar : Grammar) (operation : Operation) (target : Target) (current : Bytes) (lines : List ℕ) (items new : List Item)
    → keeps_comments operation ≡ true → (moves_comments operation ≡ true → IsProperCommand operation × IsProperIn grammar items) → effect operation target current lines items ≡ Ok new
    → (text : Bytes) → times text items ≤ times text new

-- ---- which commands depend on the lines on which statements begin

abbrev pub is_by_line : Which → Bool
is_by_line (Line line) = true
is_by_line _ = false

-- of the fields that are printed one is the line on which the rule begins
abbrev pub prints_line : Field → Bool
prints_line f.StartLine = true
prints_line _ = false

-- comments are printed without lines
abbrev pub prints_lines : Operation → Bool
prints_lines (w.Print fields) = list_any prints_line fields
prints_lines _ = false

-- a command may print lines, and a target may name one
abbrev pub looks_at_lines : Operation → Target → Bool
looks_at_lines command target = prints_lines command || is_by_line target.which

-- To every other command they may be any.
abbrev pub LinesMatter : Type 0
LinesMatter =
    (command : Operation) (target : Target) (current : Bytes) (lines others : List ℕ) (items : List Item) → looks_at_lines command target ≡ false
    → (effect command target current lines items ≡ effect command target current others items)
    × (printed command target current lines items ≡ printed command target current others items)
