-- The rules of a BUILD file: their kinds, attributes and names.
use Rattle.std.specs.Prelude.{ℕ, ◌-◌, Bool, false, not, ◌&&◌, ◌||◌, List, [], ◌∷◌, ◌++◌, length, take, drop, Option, Some, None, codes, nat_eq, bytes_eq, option_map, if◌then◌else◌}
use Rattle.std.specs.List.{list_any}
use Rattle.std.specs.Option.{option_and_then, option_map_or, option_or}
use Rattle.bz_token.specs.declared.class.Class.{Class}
use Rattle.bz_token.specs.declared.class.Class.TheVariants as c
use Rattle.bz_grammar.specs.declared.kind.Kind.{Kind}
use Rattle.bz_grammar.specs.declared.kind.Kind.TheVariants as k
use Rattle.bz_grammar.specs.Kinds.{kind_number}
use Rattle.bz_grammar.specs.Shapes.{is_class}
use Rattle.bz_value.specs.declared.value.Form.{Form}
use Rattle.bz_value.specs.declared.value.Expr.{Expr, Form', Row_of-Expr, end_of-Expr, more_of-Expr, items-the_row-Expr}
use Rattle.bz_value.specs.declared.value.Expr.TheVariants as e
use Rattle.bz_value.specs.declared.value.Item.{Item}
use Rattle.bz_value.specs.declared.value.Item.TheVariants as i
use Rattle.bz_items.specs.Characters.{Bytes, apostrophe, backslash, full_stop, quotation_mark}

-- ---- parts of a value

-- the form, where the expression is one of this kind
abbrev pub form_in : Kind → Expr → Option Form
form_in kind (e.Token t) = None
form_in kind (Form' found _ parts _ items end split open_break comments) =
    if nat_eq (kind_number found) (kind_number kind)
    then Some (record { kind = found; parts = items-the_row-Expr _ parts; seq = record { items = items-the_row-Expr _ items; end = end; split = split }; open_break = open_break; comments = comments })
    else None

-- the text of the token, where the expression is one of this class
abbrev pub text_in : Class → Expr → Option Bytes
text_in class (e.Token t) = if is_class t.class class then Some t.text else None
text_in class (Form' kind s parts s' items end split open_break comments) = None

-- the element of a list of one
abbrev pub only : List Expr → Option Expr
only (x ∷ []) = Some x
only _ = None

-- whether there is a text, and it is this one
abbrev pub is_text : Bytes → Option Bytes → Bool
is_text text found = option_map_or (λ other. bytes_eq other text) found false

-- ---- names joined by dots

-- a text, a dot and the last name
abbrev pub dotted : Option Bytes → Option Bytes → Option Bytes
dotted front last = option_and_then (λ f. option_map (λ l. f ++ full_stop ∷ l) last) front

-- of three parts the first has a text already: FRONT . LAST
abbrev pub joined : List (Expr × Option Bytes) → Option Bytes
joined (front ∷ dot ∷ last ∷ []) = dotted front.1 (text_in c.Name last.0)
joined _ = None

-- The text of a name, or of names joined by dots, without blanks: a, a.b, a.b.c. Every other expression has none.
abbrev mutual
  pub dotted_name : Expr → Option Bytes
  dotted_name (e.Token t) = text_in c.Name (e.Token t)
  dotted_name (Form' kind s parts s' items end split open_break comments) =
      if nat_eq (kind_number kind) (kind_number k.Dot) then joined (with_names parts) else None

  -- each part with its own text
  pub with_names : {m : _} → Row_of-Expr m → List (Expr × Option Bytes)
  with_names end_of-Expr = []
  with_names (more_of-Expr x rest) = (x, dotted_name x) ∷ with_names rest

-- ---- rules

-- a call: what is called, and the arguments
pub record Call : Type 0 where
  pub function : Expr
  pub arguments : List Expr

abbrev pub called : Form → Option Call
called call = option_map (λ function. record { function = function; arguments = call.seq.items }) (only call.parts)

-- A top-level expression statement that is a call. Every other statement is no call, and a Block is none.
abbrev pub call_of : Item → Option Call
call_of (i.Block lines) = None
call_of (i.Stmt x) = option_and_then called (option_and_then (form_in k.Call) (option_and_then (λ bare. only bare.parts) (form_in k.Bare x)))

-- A rule is such a call of a name or of names joined by dots. Its kind is that text without blanks.
pub record Rule : Type 0 where
  pub kind : Bytes
  pub arguments : List Expr

abbrev pub named : Call → Option Rule
named call = option_map (λ kind. record { kind = kind; arguments = call.arguments }) (dotted_name call.function)

abbrev pub rule_of : Item → Option Rule
rule_of item = option_and_then named (call_of item)

abbrev pub is_rule_of_kind : Bytes → Item → Bool
is_rule_of_kind kind item = is_text kind (option_map (λ rule. rule.kind) (rule_of item))

-- An attribute is a named argument, name = value; of several with one name the first is meant.
abbrev pub value_after : Bytes → List Expr → Option Expr
value_after name (x ∷ equals ∷ value ∷ []) = if is_text name (text_in c.Name x) then Some value else None
value_after name _ = None

abbrev pub value_named : Bytes → Expr → Option Expr
value_named name x = option_and_then (λ argument. value_after name argument.parts) (form_in k.Named x)

abbrev pub attribute : Bytes → List Expr → Option Expr
attribute name [] = None
attribute name (x ∷ xs) = option_or (value_named name x) (attribute name xs)

-- A plain string has no prefix, one quote mark at each end and no backslash; its body is what is between.
abbrev pub inner : Bytes → Bytes
inner text = take (length text - 2) (drop 1 text)

abbrev pub is_plain_in : ℕ → Bytes → Bool
is_plain_in quote text = bytes_eq text (quote ∷ inner text ++ quote ∷ []) && not (list_any (λ byte. nat_eq byte quote || nat_eq byte backslash) (inner text))

abbrev pub body : Bytes → Option Bytes
body text = if is_plain_in quotation_mark text || is_plain_in apostrophe text then Some (inner text) else None

-- The name of a rule is the body of its attribute `name`, where that is a plain string.
abbrev pub name_in : List Expr → Option Bytes
name_in arguments = option_and_then body (option_and_then (text_in c.String) (attribute (codes "name") arguments))

abbrev pub name_of : Rule → Option Bytes
name_of rule = name_in rule.arguments

abbrev pub has_name : Bytes → Item → Bool
has_name name item = is_text name (option_and_then name_of (rule_of item))
