-- Reading and changing the parts of a file value. Each change leaves expressions of other kinds and classes as they are.
use Rattle.std.specs.Prelude.{Bool, false, List, [], ◌∷◌, if◌then◌else◌, map}
use Rattle.bz_token.specs.declared.class.Class.{Class}
use Rattle.bz_grammar.specs.declared.kind.Kind.{Kind}
use Rattle.bz_grammar.specs.declared.kind.Kind.TheVariants as k
use Rattle.bz_grammar.specs.Shapes.{is_kind, is_class}
use Rattle.bz_value.specs.declared.value.Expr.{Expr, Token, Form', items-the_row-Expr}
use Rattle.bz_value.specs.declared.value.Expr.TheVariants as e
use Rattle.bz_items.specs.Characters.{Bytes}
use Rattle.bz_value.specs.Proper.{comments_of}
use Rattle.bz_value.specs.Commented.{with_comments}

abbrev pub has_kind : Kind → Expr → Bool
has_kind kind (Token t) = false
has_kind kind (Form' own s parts s' items end split open_break comments) = is_kind own kind

abbrev pub has_class : Class → Expr → Bool
has_class class (Token t) = is_class t.class class
has_class class (Form' own s parts s' items end split open_break comments) = false

-- the text of a token
abbrev pub text_of : Expr → Bytes
text_of (Token t) = t.text
text_of (Form' own s parts s' items end split open_break comments) = []

-- the row of a node, or what is before the bracket of a sequence
abbrev pub parts_of : Expr → List Expr
parts_of (Token t) = []
parts_of (Form' own s parts s' items end split open_break comments) = items-the_row-Expr _ parts

-- the items of a sequence
abbrev pub items_of : Expr → List Expr
items_of (Token t) = []
items_of (Form' own s parts s' items end split open_break comments) = items-the_row-Expr _ items

abbrev pub with_parts : List Expr → Expr → Expr
with_parts xs (Token t) = e.Token t
with_parts xs (Form' own s parts s' items end split open_break comments) =
    e.Form (record { kind = own; parts = xs; seq = record { items = items-the_row-Expr _ items; end = end; split = split }; open_break = open_break; comments = comments })

abbrev pub with_items : List Expr → Expr → Expr
with_items xs (Token t) = e.Token t
with_items xs (Form' own s parts s' items end split open_break comments) =
    e.Form (record { kind = own; parts = items-the_row-Expr _ parts; seq = record { items = xs; end = end; split = split }; open_break = open_break; comments = comments })

abbrev pub with_text : Bytes → Expr → Expr
with_text text (Token t) = e.Token (record t { text = text })
with_text text (Form' own s parts s' items end split open_break comments) =
    e.Form (record { kind = own; parts = items-the_row-Expr _ parts; seq = record { items = items-the_row-Expr _ items; end = end; split = split }; open_break = open_break; comments = comments })

-- the comments above an expression
abbrev pub above : Expr → List Bytes
above x = (comments_of x).before

abbrev pub with_above : List Bytes → Expr → Expr
with_above comments x = with_comments x (record (comments_of x) { before = comments })

-- a change of the row of the nodes of one kind, and of the items of the sequences of one kind
abbrev pub on_row : Kind → (List Expr → List Expr) → Expr → Expr
on_row kind change x = if has_kind kind x then with_parts (change (parts_of x)) x else x

abbrev pub on_items : Kind → (List Expr → List Expr) → Expr → Expr
on_items kind change x = if has_kind kind x then with_items (change (items_of x)) x else x

abbrev pub on_first : {X : Type 0} → (X → X) → List X → List X
on_first change [] = []
on_first change (x ∷ xs) = change x ∷ xs

-- the operand after a sign
abbrev pub on_third : {X : Type 0} → (X → X) → List X → List X
on_third change (x ∷ y ∷ z ∷ rest) = x ∷ y ∷ change z ∷ rest
on_third change xs = xs

abbrev pub on_rest : {X : Type 0} → (List X → List X) → List X → List X
on_rest change [] = []
on_rest change (x ∷ xs) = x ∷ change xs

abbrev pub first_text : List Expr → Bytes
first_text [] = []
first_text (x ∷ xs) = text_of x

-- the lists of a value: itself, or the lists among the operands of a sum
abbrev pub on_lists : (List Expr → List Expr) → Expr → Expr
on_lists change x = if has_kind k.Sum x then on_row k.Sum (map (on_items k.List change)) x else on_items k.List change x
