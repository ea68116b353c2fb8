-- Which forms are statements, headers and alternatives.
use Rattle.std.specs.Prelude.{Bool, true, false, not, ◌&&◌, ◌||◌, List, [], ◌∷◌, codes, bytes_eq, if◌then◌else◌}
use Rattle.bz_grammar.specs.declared.kind.Kind.{Kind}
use Rattle.bz_grammar.specs.declared.kind.Kind.TheVariants as k
use Rattle.bz_grammar.specs.Shapes.{is_kind}
use Rattle.bz_value.specs.declared.value.Expr.{Expr, Token, Form', items-the_row-Expr}
use Rattle.bz_items.specs.Characters.{Bytes}
use Rattle.bz_value.specs.Empty.{is_empty}
use Rattle.bz_value.specs.Frames.{frame, is_compound, is_header, is_simple}

-- of a form of such a kind
abbrev pub is_form_of : (Kind → Bool) → Expr → Bool
is_form_of test (Token t) = false
is_form_of test (Form' kind s parts s' items end split open_break comments) = test kind

abbrev pub has_simple_kind : Expr → Bool
has_simple_kind x = is_form_of is_simple x

abbrev pub has_header_kind : Expr → Bool
has_header_kind x = is_form_of is_header x

abbrev pub has_suite : Expr → Bool
has_suite x = is_form_of (λ kind. is_compound (frame kind)) x

-- the text of the first of these parts, of a token
abbrev pub first_token_text : List Expr → Bytes
first_token_text (Token t ∷ xs) = t.text
first_token_text _ = []

-- the word of the header of a branch
abbrev pub header_word : Expr → Bytes
header_word (Token t) = []
header_word (Form' kind s parts s' items end split open_break comments) = if is_kind kind k.IfStmt then first_token_text (items-the_row-Expr _ parts) else []

-- the first of these parts, a header, begins with this word
abbrev pub headed_by : Bytes → List Expr → Bool
headed_by word [] = false
headed_by word (head ∷ others) = bytes_eq (header_word head) word

abbrev pub is_alone : List Expr → Bool
is_alone [] = false
is_alone (head ∷ others) = is_empty others

abbrev pub is_headed_by : Bytes → Expr → Bool
is_headed_by word (Token t) = false
is_headed_by word (Form' kind s parts s' items end split open_break comments) = headed_by word (items-the_row-Expr _ parts)

-- these are the parts of an alternative: elif or else, with no alternatives of its own
abbrev pub is_branch : List Expr → Bool
is_branch parts = is_alone parts && (headed_by (codes "elif") parts || headed_by (codes "else") parts)

abbrev pub is_alternative : Expr → Bool
is_alternative (Token t) = false
is_alternative (Form' kind s parts s' items end split open_break comments) = is_kind kind k.Suite && is_branch (items-the_row-Expr _ parts)

-- a statement of its own
abbrev pub is_whole_statement : Expr → Bool
is_whole_statement x = has_simple_kind x || (has_suite x && not (is_headed_by (codes "elif") x || is_headed_by (codes "else") x))

-- only the last is an else
abbrev pub else_last : List Expr → Bool
else_last [] = true
else_last (x ∷ xs) = (is_empty xs || is_headed_by (codes "elif") x) && else_last xs

-- only an if has alternatives
abbrev pub alternatives_fit : Expr → List Expr → Bool
alternatives_fit head others = is_empty others || (bytes_eq (header_word head) (codes "if") && else_last others)
