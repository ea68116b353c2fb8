-- What the commands on whole attributes make of the arguments of a rule.
use Rattle.std.specs.Prelude.{Bool, false, not, ◌&&◌, ◌||◌, List, [], ◌∷◌, Option, Ok, Err, codes, map, if◌then◌else◌, bytes_eq, length, nat_eq, nat_lt, ◌≡◌}
use Rattle.std.specs.List.{filter, list_all, zip}
use Rattle.std.specs.Char.{is_ascii_digit}
use Rattle.std.specs.Option.{option_map_or}
use Rattle.bz_token.specs.declared.class.Class.TheVariants as c
use Rattle.bz_grammar.specs.declared.kind.Kind.TheVariants as k
use Rattle.bz_change.specs.Words.{is_list_attribute, Expr, Token, Form', Bytes, AttributeOperation, Attributes, attribute, has_kind, has_class, text_of, items_of, with_text, on_row, on_first, token, string_of, list_of, is_attribute, has_attribute, is_other_attribute, on_first_that, without, put, Arguments, by_value}
use Rattle.bz_command_syntax.specs.declared.command.AttributeOperation.TheVariants as wa
use Rattle.bz_command_syntax.specs.declared.command.Attributes.TheVariants as a
use Rattle.bz_value.specs.declared.refusal.Refusal.TheVariants.{NoAttribute, AttributeExists, NoSource}

-- ---- set

-- True, False, None and decimal digits are as they are, any other word becomes a string
abbrev pub is_constant : Bytes → Bool
is_constant word = bytes_eq word (codes "True") || (bytes_eq word (codes "False") || bytes_eq word (codes "None"))

abbrev pub is_decimal : Bytes → Bool
is_decimal word = nat_lt 0 (length word) && list_all is_ascii_digit word

abbrev pub single_setting : Bytes → Bytes → Bytes → Expr
single_setting current attribute word = if is_constant word then token c.Name word else (if is_decimal word then token c.Number word else string_of current attribute word)

-- A list of strings where the attribute is a list attribute or there are two or more words.
abbrev pub setting : Bytes → Bytes → List Bytes → Expr
setting current attribute (word ∷ []) = if is_list_attribute attribute then list_of (string_of current attribute word ∷ []) else single_setting current attribute word
setting current attribute words = list_of (map (string_of current attribute) words)

-- tokens of one class and text
abbrev pub is_token : Expr → Expr → Bool
is_token (Token t) x = has_class t.class x && bytes_eq (text_of x) t.text
is_token (Form' kind s parts s' items end split open_break comments) x = false

-- as many, and each the same as the one beside it
abbrev pub each_same : (Expr → Expr → Bool) → List Expr → List Expr → Bool
each_same same xs ys = nat_eq (length xs) (length ys) && list_all (λ pair. same pair.0 pair.1) (zip xs ys)

-- the value differs from what is set, a token or a list of tokens, only in comments and flags
abbrev pub is_set : Expr → Expr → Bool
is_set new value = if has_kind k.List new then has_kind k.List value && each_same is_token (items_of new) (items_of value) else is_token new value

abbrev pub set : Bytes → Bytes → List Bytes → List Expr → Arguments
set current name words arguments =
    Ok (if option_map_or (is_set (setting current name words)) (attribute name arguments) false then arguments else put name (setting current name words) arguments)

abbrev pub set_if_absent : Bytes → Bytes → List Bytes → List Expr → Arguments
set_if_absent current name words arguments = if has_attribute name arguments then Ok arguments else set current name words arguments

-- ---- remove

abbrev pub remove : Attributes → List Expr → Arguments
remove a.All arguments = Ok (filter (λ x. not (is_other_attribute x)) arguments)
remove (a.Named name) arguments = Ok (without name arguments)

-- ---- rename and copy

abbrev pub rename : Bytes → Bytes → List Expr → Arguments
rename from to arguments =
    if not (has_attribute from arguments) then Err NoAttribute
    else (if has_attribute to arguments then Err AttributeExists
    else Ok (on_first_that (is_attribute from) (on_row k.Named (on_first (with_text to))) arguments))

-- `found` is the value in the source, where it is there
abbrev pub copy : Bytes → Option Expr → List Expr → Arguments
copy name found arguments = by_value found (Err NoSource) (λ value. Ok (put name value arguments))

abbrev pub copy_no_overwrite : Bytes → Option Expr → List Expr → Arguments
copy_no_overwrite name found arguments = if has_attribute name arguments then Ok arguments else copy name found arguments

-- ---- all commands

-- What an operation on whole attributes makes of the arguments of a rule that it is meant for; `found` is the value that is
-- copied.
abbrev pub attributes_changed : AttributeOperation → Bytes → Option Expr → List Expr → Arguments
attributes_changed (wa.Set name words) current found arguments = set current name words arguments
attributes_changed (wa.SetIfAbsent name words) current found arguments = set_if_absent current name words arguments
attributes_changed (wa.Remove attributes) current found arguments = remove attributes arguments
attributes_changed (wa.Rename from to) current found arguments = rename from to arguments
attributes_changed (wa.Copy name rule) current found arguments = copy name found arguments
attributes_changed (wa.CopyNoOverwrite name rule) current found arguments = copy_no_overwrite name found arguments

-- ---- a law of the commands on whole attributes

-- Renaming there and back gives the arguments before, unless a second attribute has the first name.
abbrev pub RenamedBack : Type 0
RenamedBack =
    (from to : Bytes) (arguments new : List Expr)
    → rename from to arguments ≡ Ok new → has_attribute from new ≡ false
    → rename to from new ≡ Ok arguments
