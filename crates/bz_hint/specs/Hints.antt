-- The lines below that of a command which is refused, and those on a file that a command changed.
use Rattle.std.specs.Prelude.{ℕ, ◌==◌, ◌-◌, Bool, false, not, ◌&&◌, ◌||◌, List, [], ◌∷◌, ◌++◌, length, get_or, nat_lt, Option, Some, None, bytes_eq, codes, decimal, if◌then◌else◌}
use Rattle.std.specs.Char.{is_ascii_digit}
use Rattle.std.specs.List.{list_all, list_any}
use Rattle.std.specs.Option.{option_or}
use Rattle.std.specs.Str.Lossy.{utf8_lossy}
use Rattle.bz_items.specs.Characters.{Bytes, apostrophe, quotation_mark}
use Rattle.bz_label.specs.Tables.{is_list_attribute}
use Rattle.bz_label.specs.declared.target.Which.{Which}
use Rattle.bz_label.specs.declared.target.Which.TheVariants.{All, Kind, Line, Package, Name}
use Rattle.bz_value.specs.Refusals.{refusal_number}
use Rattle.bz_value.specs.declared.refusal.Refusal.{Refusal}
use Rattle.bz_value.specs.declared.refusal.Refusal.TheVariants.{Memory, TooLarge, TooDeep, NoTarget, NoAttribute, AttributeExists, NotAList, NotADict, NoSource, NameTaken}
use Rattle.bz_value.specs.declared.value.Item.{Item}
use Rattle.bz_command_syntax.specs.declared.command.AttributeOperation.TheVariants as a
use Rattle.bz_command_syntax.specs.declared.command.CommentOperation.TheVariants as c
use Rattle.bz_command_syntax.specs.declared.command.DictOperation.TheVariants as d
use Rattle.bz_command_syntax.specs.declared.command.LoadOperation.TheVariants as l
use Rattle.bz_command_syntax.specs.declared.command.Operation.{Operation}
use Rattle.bz_command_syntax.specs.declared.command.Operation.TheVariants as o
use Rattle.bz_command_syntax.specs.declared.command.RuleOperation.TheVariants as r
use Rattle.bz_command_syntax.specs.declared.command.RulePlace.{RulePlace}
use Rattle.bz_command_syntax.specs.declared.command.RulePlace.TheVariants.{After, Before, End}
use Rattle.bz_command_syntax.specs.declared.command.ValueOperation.TheVariants as v
use Rattle.bz_command_syntax.specs.Patterns.{has_escaped_digit, missing_group}
use Rattle.bz_command_line.specs.Hints.{comment_text_line}
use Rattle.bz_streams.specs.Controls.{escaped_text}
use Rattle.bz_hint.specs.Names.{nearest_rule}
use Rattle.bz_hint.specs.Refusing.{RuleAt, refusing_rule}

-- of a file of which no rule has a name, and a name that is near, if one is
abbrev pub missing_line : Bytes → Bytes → Bytes → Bytes
missing_line file name back = codes "buildozer: no rule of " ++ (escaped_text file ++ (codes " has the name '" ++ (escaped_text name ++ (codes "'" ++ back))))

abbrev pub missing_lines : Bytes → Bytes → Option Bytes → List Bytes
missing_lines file name None = missing_line file name (codes "\n") ∷ []
missing_lines file name (Some near) =
    if bytes_eq near name then [] else missing_line file name (codes ": did you mean '" ++ (escaped_text near ++ codes "'?\n")) ∷ []

-- which rule refuses
abbrev pub refusing_name : Option Bytes → Bytes
refusing_name None = codes ": the rule refuses it\n"
refusing_name (Some name) = codes ": the rule '" ++ (escaped_text name ++ codes "' refuses it\n")

abbrev pub rule_line : Bytes → Bytes → Option Bytes → Bytes
rule_line file line name = codes "buildozer: " ++ (escaped_text file ++ (codes ":" ++ (line ++ refusing_name name)))

abbrev pub refusing_lines : Bytes → Option RuleAt → List Bytes
refusing_lines file None = []
refusing_lines file (Some rule) = rule_line file (decimal rule.line) rule.name ∷ []

-- the name of the rule that a new one goes beside
abbrev pub place_name : RulePlace → Option Bytes
place_name End = None
place_name (Before rule) = Some rule
place_name (After rule) = Some rule

abbrev pub neighbour_name : Operation → Option Bytes
neighbour_name (o.Rule (r.New kind name place)) = place_name place
neighbour_name _ = None

abbrev pub target_name : Which → Option Bytes
target_name (Name name) = Some name
target_name _ = None

-- the name of which the file is to have a rule
abbrev pub sought_name : Operation → Which → Option Bytes
sought_name operation which = option_or (neighbour_name operation) (target_name which)

-- that no rule has the name that is sought, and which one is near; or, without a name, that the target means none
abbrev pub sought_lines : Bytes → Option Bytes → List Item → List Bytes
sought_lines file None items = codes "buildozer: the target means no rule of the file\n" ∷ []
sought_lines file (Some name) items = missing_lines file (utf8_lossy name) (nearest_rule (utf8_lossy name) items)

-- what other refusals mean; of those that are left the line above says it
abbrev pub refusal_sense : Refusal → Option Bytes
refusal_sense Memory = Some (codes "buildozer: the system refused memory\n")
refusal_sense TooLarge = Some (codes "buildozer: the file would have more than 67,108,864 bytes\n")
refusal_sense TooDeep = Some (codes "buildozer: the file would be nested deeper than 500 levels\n")
refusal_sense NoAttribute = Some (codes "buildozer: the rule has no such attribute, or the attribute no such value\n")
refusal_sense AttributeExists = Some (codes "buildozer: the rule has an attribute of the new name\n")
refusal_sense NotAList = Some (codes "buildozer: the value is no list\n")
refusal_sense NotADict = Some (codes "buildozer: the value is no dict that is written out\n")
refusal_sense NoSource = Some (codes "buildozer: the rule to copy from is not there, or has no such attribute\n")
refusal_sense NameTaken = Some (codes "buildozer: a rule of the file has that name\n")
refusal_sense _ = None

abbrev pub sense_lines : Option Bytes → List Bytes
sense_lines None = []
sense_lines (Some line) = line ∷ []

-- That no rule has the name of a target, or of the rule that a new one goes beside; or which of the rules that a target means refuses, and
-- what that means. (The file's name, the package of its history, and the lines and the items of its text.)
abbrev pub target_lines : Bytes → Refusal → Operation → Which → Bytes → List ℕ → List Item → List Bytes
target_lines file refusal operation which current lines items =
    if refusal_number refusal == refusal_number NoTarget then sought_lines file (sought_name operation which) items
    else refusing_lines file (refusing_rule operation which current lines items) ++ sense_lines (refusal_sense refusal)

-- The first words of a comment's text may have been read as an attribute and a value.
abbrev pub comment_hint_lines : Refusal → Operation → List Bytes
comment_hint_lines refusal (o.Comment (c.Add host text)) = if refusal_number refusal == refusal_number NoAttribute then comment_text_line ∷ [] else []
comment_hint_lines refusal _ = []

-- what helps below the line of a refusal
abbrev pub refusal_hint : Bytes → Refusal → Operation → Which → Bytes → List ℕ → List Item → List Bytes
refusal_hint file refusal operation which current lines items = target_lines file refusal operation which current lines items ++ comment_hint_lines refusal operation

-- ---- notes on what was done

-- of a template that names a group which its pattern lacks
abbrev pub missing_group_line : Bytes → Bytes → Bytes
missing_group_line file name = codes "buildozer: note: " ++ (escaped_text file ++ (codes ": the pattern has no group '" ++ (escaped_text name
    ++ codes "', and nothing is put there: before a letter, a digit or _ a group is written ${1}\n")))

abbrev pub missing_group_lines : Bytes → Option Bytes → List Bytes
missing_group_lines file None = []
missing_group_lines file (Some name) = missing_group_line file name ∷ []

-- of one with a backslash before a digit
abbrev pub escaped_digit_line : Bytes → Bytes
escaped_digit_line file = codes "buildozer: note: " ++ (escaped_text file ++ codes ": a backslash before a digit is put there as it is: a group is written $1 or ${1}\n")

abbrev pub escaped_digit_lines : Bytes → Bool → List Bytes
escaped_digit_lines file is_there = if is_there then escaped_digit_line file ∷ [] else []

-- of a pattern and its template
abbrev pub template_lines : Bytes → Bytes → Bytes → List Bytes
template_lines file pattern template = missing_group_lines file (missing_group pattern template) ++ escaped_digit_lines file (has_escaped_digit template)

-- a word in quotation marks
abbrev pub is_quoted : Bytes → Bool
is_quoted word = nat_lt 1 (length word)
    && ((get_or word 0 0 == quotation_mark || get_or word 0 0 == apostrophe) && get_or word (length word - 1) 0 == get_or word 0 0)

abbrev pub quoted_lines : Bytes → Bool → List Bytes
quoted_lines file is_there = if is_there
    then (codes "buildozer: note: " ++ (escaped_text file ++ codes ": the quotation marks of a word are part of the string now: a value is written without them\n")) ∷ []
    else []

-- a number that Bazel refuses
abbrev pub has_leading_zero : Bytes → Bool
has_leading_zero word = nat_lt 1 (length word) && (get_or word 0 0 == 48 && list_all is_ascii_digit word)

-- The words that an attribute was set to are such a number.
abbrev pub is_odd_number : Bytes → List Bytes → Bool
is_odd_number attribute [] = false
is_odd_number attribute (word ∷ []) = not (is_list_attribute attribute) && has_leading_zero word
is_odd_number attribute (word ∷ another ∷ words) = false

abbrev pub leading_zero_lines : Bytes → Bool → List Bytes
leading_zero_lines file is_there = if is_there
    then (codes "buildozer: note: " ++ (escaped_text file ++ codes ": Bazel refuses a number that begins with a zero\n")) ∷ []
    else []

-- of the words that an attribute was set to
abbrev pub setting_lines : Bytes → Bytes → List Bytes → List Bytes
setting_lines file attribute words = quoted_lines file (list_any is_quoted words) ++ leading_zero_lines file (is_odd_number attribute words)

-- on a file that an operation changed
abbrev pub change_notes : Bytes → Operation → List Bytes
change_notes file (o.Attribute (a.Set attribute values)) = setting_lines file attribute values
change_notes file (o.Attribute (a.SetIfAbsent attribute values)) = setting_lines file attribute values
change_notes file (o.Value (v.Add attribute values)) = quoted_lines file (list_any is_quoted values)
change_notes file (o.Value (v.Replace attributes old new selects)) = quoted_lines file (is_quoted new)
change_notes file (o.Value (v.Substitute attributes pattern template selects)) = template_lines file pattern template
change_notes file (o.Dict (d.ListAdd attribute key values)) = quoted_lines file (list_any is_quoted values)
change_notes file (o.Load (l.Substitute pattern template)) = template_lines file pattern template
change_notes file _ = []
