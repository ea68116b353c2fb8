-- New parts of a file value: no comments, no sequence split, no break.
use Rattle.std.specs.Prelude.{Bool, false, List, [], ◌∷◌, ◌++◌, codes, if◌then◌else◌, nat_eq, nat_lt}
use Rattle.std.specs.List.{slice_split}
use Rattle.bz_attribute.specs.Words.{Class, Kind, rank, is_label_attribute, shortened, Expr, Form', Item, no_comments, Bytes, full_stop, quoted_of, has_kind, on_row}
use Rattle.bz_token.specs.declared.class.Class.TheVariants as c
use Rattle.bz_grammar.specs.declared.kind.Kind.TheVariants as k
use Rattle.bz_value.specs.declared.value.Expr.TheVariants as e
use Rattle.bz_value.specs.declared.value.Item.TheVariants as i

abbrev pub token : Class → Bytes → Expr
token class text = e.Token (record { class = class; text = text; line_break = false; comments = no_comments })

-- a node of a row of parts, and one with a sequence after these parts
abbrev pub node : Kind → List Expr → Expr
node kind parts = e.Form (record { kind = kind; parts = parts; seq = record { items = []; end = []; split = false }; open_break = false; comments = no_comments })

abbrev pub sequence : Kind → List Expr → List Expr → Expr
sequence kind parts items = e.Form (record { kind = kind; parts = parts; seq = record { items = items; end = []; split = false }; open_break = false; comments = no_comments })

abbrev pub name : Bytes → Expr
name text = token c.Name text

abbrev pub mark : Bytes → Expr
mark text = token c.Mark text

-- ---- words as values

-- a word put into an attribute: in a label attribute it is shortened
abbrev pub shortened_in : Bytes → Bytes → Bytes → Bytes
shortened_in current attribute word = if is_label_attribute attribute then shortened current word else word

-- the string that a word becomes in an attribute
abbrev pub string_text : Bytes → Bytes → Bytes → Bytes
string_text current attribute word = quoted_of (shortened_in current attribute word)

abbrev pub string_of : Bytes → Bytes → Bytes → Expr
string_of current attribute word = token c.String (string_text current attribute word)

abbrev pub list_of : List Expr → Expr
list_of items = sequence k.List [] items

-- ---- sums

abbrev pub binds_looser : Expr → Bool
binds_looser (e.Token t) = false
binds_looser (Form' kind s parts s' items end split open_break comments) = nat_lt (rank k.Sum) (rank kind)

-- an operand of a sum is in brackets where it binds looser
abbrev pub operand : Expr → Expr
operand x = if binds_looser x then node k.Paren (mark (codes "(") ∷ x ∷ mark (codes ")") ∷ []) else x

-- a value and a list: a sum takes it as a further operand
abbrev pub plus : Expr → Expr → Expr
plus x list =
    if has_kind k.Sum x then on_row k.Sum (λ parts. parts ++ mark (codes "+") ∷ list ∷ []) x
    else node k.Sum (operand x ∷ mark (codes "+") ∷ list ∷ [])

-- ---- kinds and rules

-- names joined by dots, from the first one on
abbrev pub dotted_after : Expr → List Bytes → Expr
dotted_after front [] = front
dotted_after front (text ∷ texts) = dotted_after (node k.Dot (front ∷ mark (codes ".") ∷ name text ∷ [])) texts

abbrev pub dotted_from : List Bytes → Expr
dotted_from [] = name []
dotted_from (text ∷ texts) = dotted_after (name text) texts

-- the function of a call, by a kind
abbrev pub function_of : Bytes → Expr
function_of kind = dotted_from (slice_split (λ byte. nat_eq byte full_stop) kind)

-- name = value
abbrev pub argument_of : Bytes → Expr → Expr
argument_of attribute value = node k.Named (name attribute ∷ mark (codes "=") ∷ value ∷ [])

-- kind(name = "..")
abbrev pub rule_made : Bytes → Bytes → Item
rule_made kind word =
    i.Stmt (node k.Bare (sequence k.Call (function_of kind ∷ []) (argument_of (codes "name") (token c.String (quoted_of word)) ∷ []) ∷ []))
