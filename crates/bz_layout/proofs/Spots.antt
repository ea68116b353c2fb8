-- Proper expressions are parts of lines: where what follows them is.
use Rattle.bz_layout.proofs.Words.{[], ◌||◌, ◌∙◌, ◌∷◌, ◌≡◌, after_expr, after_node, All, ap, Begins, Bool, Bytes, Class, Class as c, closes, compound, end_of-Expr, Expr, false, firsts, Fits, following_token, Form', Frame, frame, has_brackets, has_break, if◌then◌else◌, in_frame, inner_kind, is_alternative, is_binary, is_compound, is_comprehension, is_empty, is_value, is_whole_statement, IsComment, IsEmptyRow, IsLexeme, IsNonterminal, IsSomeRow, Kind, Kind as k, kind_goes, line_shape, Lines, List, more_of-Expr, no_such, onward, opens, Part, part_of, parts_of, ProperBy, ProperHeadBy, ProperHeaderBy, ProperItemsBy, ProperLinesBy, ProperRowBy, refl, role, root, roots, row, row_in, Row_of-Expr, sequence, Shape, Spot, subst, sym, Token, true, Within}
use Rattle.bz_grammar.specs.Spots.{plain}
use Rattle.bz_layout.proofs.{Neighbours.is_word, Elements.Inside, Elements.IsOpening, Elements.Opened, Elements.in_line_class, Elements.in_line_part, Elements.InLine, Elements.within_line, Fitted.Child, Made.line_plain, Margins.is_begins}

-- ---- proper expressions are parts of lines

pub lexeme_in_line : (class : Class) (t : Bytes) → IsLexeme class t → in_line_class class ≡ true
lexeme_in_line c.Newline t h = absurd h
lexeme_in_line c.End t h = absurd h
lexeme_in_line _ t h = refl

brackets_in_line : (kind : Kind) (xs : List Part) → Fits IsNonterminal (line_shape kind) xs → has_brackets (frame kind) ≡ true → inner_kind kind ≡ true
brackets_in_line k.File xs g h = no_such h
brackets_in_line k.Line xs g h = no_such h
brackets_in_line k.Def xs g h = absurd g
brackets_in_line k.IfStmt xs g h = absurd g
brackets_in_line k.ForStmt xs g h = absurd g
brackets_in_line k.Suite xs g h = absurd g
brackets_in_line _ xs g h = refl

-- what a form that is proper by a grammar says of its row; of its head, its items and its end comments; of a suite
module _ (grammar : Kind → Shape) where
  root_in_line : (here : Spot) (x : Expr) → ProperBy grammar here x → in_line_part (root x) ≡ true
  root_in_line here (Token t) h = lexeme_in_line t.class t.text h.0
  root_in_line here (Form' kind z parts z' items end split open_break comments) h = refl

  pub row_in_line : (binary : Bool) (outer here : Spot) (m : _) (r : Row_of-Expr m) → ProperRowBy grammar binary outer here r → InLine (roots r)
  row_in_line binary outer here m end_of-Expr h = tt
  row_in_line binary outer here m (more_of-Expr x rest) h = (root_in_line here x h.0, row_in_line binary outer (after_expr outer here x) _ rest h.3)

  -- by its frame
  abbrev pub InFrame : Frame → Kind → Spot → {m n : _} → Row_of-Expr m → Row_of-Expr n → List Bytes → Bool → Bool → Type 0
  InFrame f kind here parts items end split open_break = in_frame f
      (ProperRowBy grammar (is_binary kind) here here parts × IsEmptyRow items × (end ≡ []) × (split ≡ false) × (open_break ≡ true → is_comprehension kind ≡ true))
      (ProperHeadBy grammar here parts × ProperItemsBy grammar items × All IsComment end × (open_break ≡ false))
      (ProperHeaderBy grammar parts × IsSomeRow items × ProperLinesBy grammar is_whole_statement items × All IsComment end × (split ≡ false) × (open_break ≡ false))

  -- each expression of a row is proper at some spot
  abbrev pub EachProper : {m : _} → Row_of-Expr m → Type 0
  EachProper end_of-Expr = Unit {0}
  EachProper (more_of-Expr x rest) = ((here : Spot) × ProperBy grammar here x) × EachProper rest

  row_each : (binary : Bool) (outer here : Spot) (m : _) (r : Row_of-Expr m) → ProperRowBy grammar binary outer here r → EachProper r
  row_each binary outer here m end_of-Expr h = tt
  row_each binary outer here m (more_of-Expr x rest) h = ((here, h.0), row_each binary outer (after_expr outer here x) _ rest h.3)

  head_each : (here : Spot) (m : _) (r : Row_of-Expr m) → ProperHeadBy grammar here r → EachProper r
  head_each here m end_of-Expr h = tt
  head_each here m (more_of-Expr x rest) h = ((here, h.0), head_each here _ rest h.2)

  items_each : (m : _) (r : Row_of-Expr m) → ProperItemsBy grammar r → EachProper r
  items_each m end_of-Expr h = tt
  items_each m (more_of-Expr x rest) h = ((Within, h.0), items_each _ rest h.3)

  none_each : (m : _) (r : Row_of-Expr m) → IsEmptyRow r → EachProper r
  none_each m end_of-Expr h = tt
  none_each m (more_of-Expr x rest) h = absurd h

  lines_each : (test : Expr → Bool) (m : _) (r : Row_of-Expr m) → ProperLinesBy grammar test r → EachProper r
  lines_each test m end_of-Expr h = tt
  lines_each test m (more_of-Expr x rest) h = ((Begins, h.1), lines_each test _ rest h.3)

  header_each : (m : _) (r : Row_of-Expr m) → ProperHeaderBy grammar r → EachProper r
  header_each m end_of-Expr h = absurd h
  header_each m (more_of-Expr head rest) h = ((Begins, h.1), lines_each is_alternative _ rest h.3)

  -- so it is of both rows of a form
  pub both_each : (f : Frame) (kind : Kind) (here : Spot) (m n : _) (parts : Row_of-Expr m) (items : Row_of-Expr n) (end : List Bytes) (split open_break : Bool) → InFrame f kind here parts items end split open_break → EachProper parts × EachProper items
  both_each row kind here m n parts items end split open_break h = (row_each (is_binary kind) here here m parts h.0, none_each n items h.1)
  both_each (sequence opener closer) kind here m n parts items end split open_break h = (head_each here m parts h.0, items_each n items h.1)
  both_each compound kind here m n parts items end split open_break h = (header_each m parts h.0, lines_each is_whole_statement n items h.2)

in_line_by : (f : Frame) (kind : Kind) (here : Spot) (m n : _) (parts : Row_of-Expr m) (items : Row_of-Expr n) (end : List Bytes) (split open_break : Bool) → is_compound f ≡ false → (has_brackets f ≡ true → inner_kind kind ≡ true) →
    Fits IsNonterminal (line_shape kind) (row_in f (roots parts) (roots items)) → InFrame line_shape f kind here parts items end split open_break → inner_kind kind ≡ true
in_line_by compound kind here m n parts items end split open_break e b h i = no_such (sym e)
in_line_by row kind here m n parts items end split open_break e b h i = within_line kind (roots parts) h (row_in_line line_shape (is_binary kind) here here m parts i.0)
in_line_by (sequence opener closer) kind here m n parts items end split open_break e b h i = b refl

abbrev pub NoLine : Expr → Type 0
NoLine (Token t) = Unit {0}
NoLine (Form' kind z parts z' items end split open_break comments) = inner_kind kind ≡ true

-- a proper form is no line and no file
pub no_line : (here : Spot) (x : Expr) → ProperBy line_shape here x → NoLine x
no_line here (Token t) h = tt
no_line here (Form' kind z parts z' items end split open_break comments) h = in_line_by (frame kind) kind here _ _ parts items end split open_break (line_plain here (Form' kind z parts z' items end split open_break comments) h) (brackets_in_line kind _ h.0) h.0 h.1

-- ---- where what follows is

onward_within_line : (here : Spot) → is_begins (onward here) ≡ false
onward_within_line Within = refl
onward_within_line _ = refl

pub token_goes_on : (class : Class) (text : Bytes) (outer here : Spot) → in_line_class class ≡ true → is_begins (following_token (role class text) outer here) ≡ false
token_goes_on c.Newline text outer here h = no_such h
token_goes_on c.End text outer here h = no_such h
token_goes_on c.Mark text outer here h = by_turn _ _
  where
    by_turn : (a b : Bool) → is_begins (following_token (if a then opens else (if b then closes else plain)) outer here) ≡ false
    by_turn true b = refl
    by_turn false true = onward_within_line outer
    by_turn false false = onward_within_line here
token_goes_on _ text outer here h = onward_within_line here

pub node_goes_on : (kind : Kind) (here : Spot) → inner_kind kind ≡ true → is_begins (after_node kind here) ≡ false
node_goes_on kind here h = ap is_begins (kind_goes kind here h) ∙ onward_within_line here

goes_on_by : (outer here : Spot) (x : Expr) → ProperBy line_shape here x → NoLine x → is_begins (after_expr outer here x) ≡ false
goes_on_by outer here (Token t) h i = token_goes_on t.class t.text outer here (lexeme_in_line t.class t.text h.0)
goes_on_by outer here (Form' kind z parts z' items end split open_break comments) h i = node_goes_on kind here i

-- no line begins after a proper expression
pub goes_on : (outer here : Spot) (x : Expr) → ProperBy line_shape here x → is_begins (after_expr outer here x) ≡ false
goes_on outer here x h = goes_on_by outer here x h (no_line here x h)

pub word_plain : (class : Class) (text : Bytes) → is_word class ≡ true → role class text ≡ plain
word_plain c.Name text h = refl
word_plain c.Number text h = refl
word_plain c.String text h = refl
word_plain _ text h = no_such h

within_by : (outer : Spot) (x : Expr) → NoLine x → is_value (root x) ≡ true → after_expr outer Within x ≡ Within
within_by outer (Token t) h i = ap (λ z. following_token z outer Within) (word_plain t.class t.text i)
within_by outer (Form' kind z parts z' items end split open_break comments) h i = kind_goes kind Within h

-- after a value inside brackets it goes on inside brackets
pub value_within : (outer here : Spot) (x : Expr) → ProperBy line_shape here x → is_value (root x) ≡ true → after_expr outer Within x ≡ Within
value_within outer here x h i = within_by outer x (no_line here x h) i

opening_within : (outer here : Spot) (x : Expr) → IsOpening (root x) → after_expr outer here x ≡ Within
opening_within outer here (Token t) h = ap (λ z. following_token z outer here) h
opening_within outer here (Form' kind z parts z' items end split open_break comments) h = absurd h

-- ---- new lines in a row begin inside brackets

-- after x of a row that is here: where a part follows, and the row is open or x breaks
abbrev pub BreaksWithin : Bool → Spot → Spot → Child → List Child → Type 0
BreaksWithin open_break outer here x xs = (open_break || has_break x.0) ≡ true → is_empty (firsts xs) ≡ false → after_expr outer here x.0 ≡ Within

abbrev pub RowBreaks : Bool → Spot → Spot → List Child → Type 0
RowBreaks open_break outer here [] = Unit {0}
RowBreaks open_break outer here (x ∷ xs) = BreaksWithin open_break outer here x xs × RowBreaks open_break outer (after_expr outer here x.0) xs

breaks_by : (open_break : Bool) (outer here : Spot) (x : Child) (xs : List Child) → (has_break x.0 ≡ true → after_expr outer here x.0 ≡ Within) → (open_break ≡ true → is_empty (firsts xs) ≡ false → after_expr outer here x.0 ≡ Within) → BreaksWithin open_break outer here x xs
breaks_by true outer here x xs b o e n = o refl n
breaks_by false outer here x xs b o e n = b e

module _ (mode : Lines) where
  -- ---- new lines in a row begin inside brackets

  later_breaks : (binary open_break : Bool) (outer here : Spot) (m : _) (r : Row_of-Expr m) → ProperRowBy line_shape binary outer here r → (open_break ≡ true → here ≡ Within) → (open_break ≡ true → Inside (roots r)) → RowBreaks open_break outer here (parts_of mode r)
  later_breaks binary open_break outer here m end_of-Expr h w i = tt
  later_breaks binary open_break outer here m (more_of-Expr x end_of-Expr) h w i = (breaks_by open_break outer here (x, part_of mode x) [] (λ e. (h.2 e).1) (λ e n. no_such (sym n)), tt)
  later_breaks binary open_break outer here m (more_of-Expr x (more_of-Expr y rest)) h w i =
      let inside : open_break ≡ true → after_expr outer here x ≡ Within = λ o. subst (λ z. after_expr outer z x ≡ Within) (sym (w o)) (value_within outer here x h.0 (i o).0) in (
        breaks_by open_break outer here (x, part_of mode x) ((y, part_of mode y) ∷ parts_of mode rest) (λ e. (h.2 e).1) (λ o n. inside o),
        later_breaks binary open_break outer (after_expr outer here x) _ (more_of-Expr y rest) h.3 inside (λ o. (i o).1),
      )

  -- in an open row an opening bracket is first
  pub row_breaks : (binary open_break : Bool) (outer here : Spot) (m : _) (r : Row_of-Expr m) → ProperRowBy line_shape binary outer here r → (open_break ≡ true → Opened (roots r)) → RowBreaks open_break outer here (parts_of mode r)
  row_breaks binary open_break outer here m end_of-Expr h i = tt
  row_breaks binary open_break outer here m (more_of-Expr x rest) h i =
      let inside : open_break ≡ true → after_expr outer here x ≡ Within = λ o. opening_within outer here x (i o).0 in (
        breaks_by open_break outer here (x, part_of mode x) (parts_of mode rest) (λ e. (h.2 e).1) (λ o n. inside o),
        later_breaks binary open_break outer (after_expr outer here x) _ rest h.3 inside (λ o. (i o).1),
      )
