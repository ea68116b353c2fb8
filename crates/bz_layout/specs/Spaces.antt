-- The single spaces of the layout, given by a part and the one after it: their kinds, or their tokens.
use Rattle.std.specs.Prelude.{ℕ, Bool, true, false, not, ◌&&◌, ◌||◌, List, [], ◌∷◌, codes, bytes_eq}
use Rattle.bz_token.specs.declared.class.Class.TheVariants as c
use Rattle.bz_layout.specs.Words.{in_table, Kind, Part, Node', Terminal, has_token}
use Rattle.bz_grammar.specs.declared.kind.Kind.TheVariants as k
use Rattle.bz_grammar.specs.declared.tree.Part.TheVariants as p
use Rattle.bz_grammar.specs.Shapes as s

-- ---- tokens

abbrev pub from_table : List (List ℕ) → Terminal → Bool
from_table us (s.this c.Mark t) = in_table t us
from_table us _ = false

-- brackets, comma, colon
abbrev pub brackets_and_separators : List (List ℕ)
brackets_and_separators = codes "(" ∷ codes ")" ∷ codes "[" ∷ codes "]" ∷ codes "{" ∷ codes "}" ∷ codes "," ∷ codes ":" ∷ []

abbrev pub lone : Terminal → Bool
lone t = from_table brackets_and_separators t

abbrev pub is_dot_terminal : Terminal → Bool
is_dot_terminal t = from_table (codes "." ∷ []) t

-- the marks that are right before their operand: `-x`, `*x`; of a parameter `*x` and `**x`
abbrev pub is_prefix_mark : Kind → List ℕ → Bool
is_prefix_mark k.Unary t = true
is_prefix_mark k.Star t = true
is_prefix_mark k.Param t = in_table t (codes "*" ∷ codes "**" ∷ [])
is_prefix_mark _ t = false

-- the kinds whose colon has a space after it
abbrev pub is_colon_spaced : Kind → Bool
is_colon_spaced kind = s.is_kind kind k.Entry || s.is_kind kind k.Lambda

-- the marks that have no space at either side
abbrev pub is_tight : Kind → List ℕ → Bool
is_tight kind t = (lone (s.this c.Mark t) || is_dot_terminal (s.this c.Mark t)) || is_prefix_mark kind t

-- One space is around operators, `=`, augmented forms and keywords, after a comma, and after the colon of an Entry and of a Lambda.
abbrev pub space_after : Kind → Terminal → Bool
space_after kind (s.this c.Mark t) = bytes_eq t (codes ",") || ((bytes_eq t (codes ":") && is_colon_spaced kind) || not (is_tight kind t))
space_after kind (s.this c.Keyword t) = not (bytes_eq t (codes "load"))
space_after kind _ = false

abbrev pub space_before : Kind → Terminal → Bool
space_before kind (s.this c.Mark t) = not (is_tight kind t)
space_before kind (s.this c.Keyword t) = true
space_before kind _ = false

-- ---- parts

-- a node, or a leaf that is a name, a number or a string
abbrev pub is_value : Part → Bool
is_value (p.Leaf l) = s.is_class l.class c.Name || (s.is_class l.class c.Number || s.is_class l.class c.String)
is_value (Node' kind z r) = true

abbrev pub is_spaced_after : Kind → Part → Bool
is_spaced_after kind (p.Leaf l) = space_after kind (s.this l.class l.token)
is_spaced_after kind (Node' k z r) = false

abbrev pub is_spaced_before : Kind → Part → Bool
is_spaced_before kind (p.Leaf l) = space_before kind (s.this l.class l.token)
is_spaced_before kind (Node' k z r) = false

abbrev pub is_lone : Part → Bool
is_lone (p.Leaf l) = lone (s.this l.class l.token)
is_lone (Node' k z r) = false

abbrev pub is_number_leaf : Part → Bool
is_number_leaf (p.Leaf l) = s.is_class l.class c.Number
is_number_leaf (Node' kind z r) = false

-- One space is between two neighbours in a node of a kind: after a token that has one after it, but not before a
-- bracket, a comma or a colon; before a token that has one before it; and between two parts that are no tokens of their row.
abbrev pub apart : Kind → Part → Part → Bool
apart kind x y = (is_spaced_after kind x && not (is_lone y)) || (is_spaced_before kind y || (is_value x && is_value y))

-- a number right before a dot has a space after it, since `1.` is a number
abbrev pub number_dot : Part → Part → Bool
number_dot x y = is_number_leaf x && has_token s.dot y

abbrev pub is_spaced : Kind → Part → Part → Bool
is_spaced kind x y = apart kind x y || number_dot x y
