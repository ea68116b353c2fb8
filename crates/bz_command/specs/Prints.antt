-- What `print` prints of a rule in a package.
use Rattle.std.specs.Prelude.{Bool, List, [], ◌∷◌, ◌++◌, Option, codes, is_some, length, ◌-◌, ◌&&◌, map, take, if◌then◌else◌}
use Rattle.std.specs.List.{list_all}
use Rattle.std.specs.Option.{option_map_or}
use Rattle.bz_grammar.specs.declared.kind.Kind.TheVariants as k
use Rattle.bz_command.specs.Words.{Expr, Item, Bytes, line_feed, space, Field, Rule, rule_of, attribute, has_kind, items_of, body_of, held_name}
use Rattle.bz_layout.specs.Written as written
use Rattle.bz_command_syntax.specs.declared.command.Field.TheVariants as f

-- texts with one space between two of them
abbrev pub spaced : List Bytes → Bytes
spaced [] = []
spaced (text ∷ []) = text
spaced (text ∷ texts) = text ++ space ∷ spaced texts

abbrev pub missing : Bytes
missing = codes "(missing)"

-- ---- values

abbrev pub is_string : Expr → Bool
is_string x = is_some (body_of x)

-- the body of a plain string, and of any other item nothing
abbrev pub printed_body : Expr → Bytes
printed_body x = option_map_or (λ body. body) (body_of x) []

-- [a b]
abbrev pub in_brackets : List Bytes → Bytes
in_brackets texts = codes "[" ++ (spaced texts ++ codes "]")

-- a plain string prints its body, a list of plain strings their bodies, any other value its layout at margin 0
abbrev pub printed_value : Expr → Bytes
printed_value value =
    option_map_or (λ body. body) (body_of value)
    (if has_kind k.List value && list_all is_string (items_of value) then in_brackets (map printed_body (items_of value)) else written.text_of value 0)

-- ---- fields

-- without the last byte: of a layout, its last newline
abbrev pub without_last : Bytes → Bytes
without_last text = take (length text - 1) text

-- the label of the rule of this name in this package
abbrev pub label_of : Bytes → Bytes → Bytes
label_of current name = codes "//" ++ (current ++ (codes ":" ++ name))

-- that of a rule, where it has a name
abbrev pub printed_label : Bytes → Item → Bytes
printed_label current item = option_map_or (label_of current) (held_name item) missing

-- `line` is the line on which the rule begins, where it is on one, in decimal digits
abbrev pub printed_field : Bytes → Option Bytes → Item → Rule → Field → Bytes
printed_field current line item rule f.Kind = rule.kind
printed_field current line item rule f.StartLine = option_map_or (λ digits. digits) line missing
printed_field current line item rule f.Rule = without_last (written.item_text item)
printed_field current line item rule f.Label = printed_label current item
printed_field current line item rule (f.Attribute name) = option_map_or printed_value (attribute name rule.arguments) missing

-- one line a rule, fields joined by one space
abbrev pub printed_rule : Bytes → Option Bytes → Item → Rule → List Field → Bytes
printed_rule current line item rule fields = spaced (map (printed_field current line item rule) fields) ++ line_feed ∷ []

-- an item that is no rule prints nothing
abbrev pub printed_item : Bytes → Option Bytes → Item → List Field → Bytes
printed_item current line item fields = option_map_or (λ rule. printed_rule current line item rule fields) (rule_of item) []
