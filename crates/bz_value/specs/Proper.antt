-- Proper file values: those that the layout can write and the grammar reads back.
use Rattle.std.specs.Prelude.{◌≡◌, ◌≢◌, Bool, true, false, not, ◌&&◌, List, [], ◌∷◌, Option, Some, None, All, IsUtf8}
use Rattle.bz_token.specs.declared.class.Class.{Class}
use Rattle.bz_token.specs.declared.class.Class.TheVariants as c
use Rattle.bz_token.specs.Lexemes.{IsLexeme}
use Rattle.bz_grammar.specs.declared.tree.Part.{Part}
use Rattle.bz_grammar.specs.declared.kind.Kind.{Kind}
use Rattle.bz_grammar.specs.Shapes.{Shape, Fits}
use Rattle.bz_grammar.specs.Legal.{IsNonterminal}
use Rattle.bz_grammar.specs.Spots.{Spot, Begins, Within, role, following_token, after_node}
use Rattle.bz_value.specs.declared.value.Expr.{Expr, Token, Form', Row_of-Expr, end_of-Expr, more_of-Expr, items-the_row-Expr}
use Rattle.bz_value.specs.declared.value.Item.{Item}
use Rattle.bz_value.specs.declared.value.Item.TheVariants as i
use Rattle.bz_items.specs.Characters.{Bytes, line_feed, number_sign}
use Rattle.bz_value.specs.Comments.{HostComments, no_comments}
use Rattle.bz_value.specs.Frames.{Frame, row, sequence, compound, frame, is_binary, is_comprehension}
use Rattle.bz_value.specs.Gaps.{trimmed}
use Rattle.bz_value.specs.Roots.{root, row_in}
use Rattle.bz_value.specs.Statements.{has_header_kind, is_alternative, is_whole_statement, alternatives_fit}
use Rattle.bz_value.specs.LineShapes.{Grammar, whole_grammar, value_shape}

-- ---- comments

-- a comment: a text of characters that begins with `#`, holds no newline, and doesn't end with a space, tab or carriage
-- return
pub record IsComment (text : Bytes) : Type 0 where
  pub begins : (rest : Bytes) × (text ≡ number_sign ∷ rest)
  pub one_line : All (λ c. c ≢ line_feed) text
  pub no_blank_end : trimmed text ≡ text
  pub coded : IsUtf8 text

abbrev pub MaybeComment : Option Bytes → Type 0
MaybeComment None = Unit {0}
MaybeComment (Some text) = IsComment text

abbrev pub AreComments : HostComments → Type 0
AreComments cs = All IsComment cs.before × MaybeComment cs.suffix

-- ---- expressions

-- the comments of an expression
abbrev pub comments_of : Expr → HostComments
comments_of (Token t) = t.comments
comments_of (Form' kind s parts s' items end split open_break comments) = comments

abbrev pub has_break : Expr → Bool
has_break (Token t) = t.line_break
has_break (Form' kind s parts s' items end split open_break comments) = false

-- a mark or a keyword: in a binary operation, a token of an operator
abbrev pub is_operator_class : Class → Bool
is_operator_class c.Mark = true
is_operator_class c.Keyword = true
is_operator_class _ = false

abbrev pub is_operator : Expr → Bool
is_operator (Token t) = is_operator_class t.class
is_operator (Form' kind s parts s' items end split open_break comments) = false

-- the first expression of a row is a token of an operator
abbrev pub begins_operator : {m : _} → Row_of-Expr m → Bool
begins_operator end_of-Expr = false
begins_operator (more_of-Expr x rest) = is_operator x

-- where what follows an expression is
abbrev pub after_expr : Spot → Spot → Expr → Spot
after_expr outer here (Token t) = following_token (role t.class t.text) outer here
after_expr outer here (Form' kind s parts s' items end split open_break comments) = after_node kind here

-- the roots of the expressions of a row
abbrev pub roots : {m : _} → Row_of-Expr m → List Part
roots end_of-Expr = []
roots (more_of-Expr x rest) = root x ∷ roots rest

abbrev pub IsEmptyRow : {m : _} → Row_of-Expr m → Type 0
IsEmptyRow end_of-Expr = Unit {0}
IsEmptyRow (more_of-Expr x rest) = ⊥

abbrev pub IsSomeRow : {m : _} → Row_of-Expr m → Type 0
IsSomeRow end_of-Expr = ⊥
IsSomeRow (more_of-Expr x rest) = Unit {0}

-- no host, so no comments; and no break
abbrev pub IsBare : Expr → Type 0
IsBare x = (comments_of x ≡ no_comments) × (has_break x ≡ false)

-- by the frame
abbrev pub in_frame : Frame → Type 0 → Type 0 → Type 0 → Type 0
in_frame row as_row as_sequence as_compound = as_row
in_frame (sequence opener closer) as_row as_sequence as_compound = as_sequence
in_frame compound as_row as_sequence as_compound = as_compound

-- By a grammar, which gives each kind its shape.
module _ (grammar : Kind → Shape) where
  -- An expression is proper at a spot where each node has the shape that the grammar gives its kind, with its brackets and
  -- commas put back; each token is a lexeme of its class; only statements and the items of sequences have comments; a break
  -- is only after an operator and inside brackets; only a comprehension is open. A suite has a header and statements, and the
  -- comments of both are its own.
  abbrev mutual
    pub ProperBy : Spot → Expr → Type 0
    ProperBy here (Token t) = IsLexeme t.class t.text × IsUtf8 t.text
    ProperBy here (Form' kind s parts s' items end split open_break comments) =
        Fits IsNonterminal (grammar kind) (row_in (frame kind) (roots parts) (roots items))
        × in_frame (frame kind)
        (ProperRowBy (is_binary kind) here here parts × IsEmptyRow items × (end ≡ []) × (split ≡ false) × (open_break ≡ true → is_comprehension kind ≡ true))
        (ProperHeadBy here parts × ProperItemsBy items × All IsComment end × (open_break ≡ false))
        (ProperHeaderBy parts × IsSomeRow items × ProperLinesBy is_whole_statement items × All IsComment end × (split ≡ false) × (open_break ≡ false))

    -- the parts of a row, from one on that is here
    pub ProperRowBy : Bool → Spot → Spot → {m : _} → Row_of-Expr m → Type 0
    ProperRowBy binary outer here end_of-Expr = Unit {0}
    ProperRowBy binary outer here (more_of-Expr x rest) =
        ProperBy here x × (comments_of x ≡ no_comments)
        × (has_break x ≡ true → ((binary && (is_operator x && not (begins_operator rest))) ≡ true) × (after_expr outer here x ≡ Within))
        × ProperRowBy binary outer (after_expr outer here x) rest

    -- what is before the opening bracket
    pub ProperHeadBy : Spot → {m : _} → Row_of-Expr m → Type 0
    ProperHeadBy here end_of-Expr = Unit {0}
    ProperHeadBy here (more_of-Expr x rest) = ProperBy here x × IsBare x × ProperHeadBy here rest

    pub ProperItemsBy : {m : _} → Row_of-Expr m → Type 0
    ProperItemsBy end_of-Expr = Unit {0}
    ProperItemsBy (more_of-Expr x rest) = ProperBy Within x × AreComments (comments_of x) × (has_break x ≡ false) × ProperItemsBy rest

    -- a header, and its alternatives
    pub ProperHeaderBy : {m : _} → Row_of-Expr m → Type 0
    ProperHeaderBy end_of-Expr = ⊥
    ProperHeaderBy (more_of-Expr head rest) =
        (has_header_kind head ≡ true) × ProperBy Begins head × (comments_of head ≡ no_comments) × ProperLinesBy is_alternative rest × (alternatives_fit head (items-the_row-Expr _ rest) ≡ true)

    -- statements, or alternatives: each of this sort
    pub ProperLinesBy : (Expr → Bool) → {m : _} → Row_of-Expr m → Type 0
    ProperLinesBy test end_of-Expr = Unit {0}
    ProperLinesBy test (more_of-Expr x rest) = (test x ≡ true) × ProperBy Begins x × AreComments (comments_of x) × ProperLinesBy test rest

abbrev pub ProperExpr : Grammar → Spot → Expr → Type 0
ProperExpr grammar here x = ProperBy (value_shape grammar) here x

-- ---- files

abbrev pub IsProperItemIn : Grammar → Item → Type 0
IsProperItemIn grammar (i.Block lines) = (lines ≢ []) × All IsComment lines
IsProperItemIn grammar (i.Stmt x) = (is_whole_statement x ≡ true) × ProperExpr grammar Begins x × AreComments (comments_of x)

abbrev pub IsProperIn : Grammar → List Item → Type 0
IsProperIn grammar items = All (IsProperItemIn grammar) items

abbrev pub IsProperItem : Item → Type 0
IsProperItem item = IsProperItemIn whole_grammar item

abbrev pub IsProper : List Item → Type 0
IsProper items = All IsProperItem items
