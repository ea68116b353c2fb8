-- What the layout makes of any proper expression is where it may be, whatever its kinds are: one lemma for each way to lay
-- parts.
use Rattle.bz_layout.proofs.Words.{[], ◌&&◌, ◌++◌, ◌∙◌, ◌∷◌, ◌≡◌, after_expr, after_part, AllByRecursion, ap, AreComments, arith, AtLeaves, AtParts, Bool, Bytes, Class, Class as c, closes, comma, comments_of, compound, end_of-Expr, ended, Expr, false, firsts, Fits, following_token, Form', Frame, frame, gap_after, has_suite, headed, if◌then◌else◌, in_frame, is_binary, is_broken_in, is_compound, is_comprehension, is_empty, is_mark, is_tuple, IsCodedLeaf, IsComment, IsLexeme, IsNonterminal, IsUtf8, item_margin, items_of_row, joined, Kind, Kind as k, laid, laid_in, Leaf, length, line_shape, Lines, List, map, margin_after, margin_lines, mark, MaybeComment, more_of-Expr, nat_eq, new_line_at, no_such, Node, None, not, opens, Option, Part, part_of, parts_of, piece_part, ProperBy, ProperHeadBy, ProperItemsBy, ProperRowBy, recursion_from_All, refl, Role, role, roots, row, row_in, row_of, Row_of-Expr, row_of_parts, rowed, sequence, space, Spot, stacked, Stands, subst, suffix_text, sym, Token, true, values_wider, whole_shape, Within, ℕ}
use Rattle.bz_grammar.specs.declared.tree.Part.TheVariants as p
use Rattle.bz_layout.proofs.Elements.{AreValues, items_values, Opened, comprehension}
use Rattle.bz_layout.proofs.Joined.{AreFronts, AreLeaves, head_fits}
use Rattle.bz_layout.proofs.Fitted.{Child, Pieces}
use Rattle.bz_layout.proofs.Made.{plain_part, laid_plain, line_plain}
use Rattle.bz_layout.proofs.Margins.{FitsAt, gap_stands, gap_coded, coded_byte, inner_nothing, inner_space, item_gap, closer_gap, is_begins, none_fits, space_fits, after_fits}
use Rattle.bz_layout.proofs.Spots.{lexeme_in_line, InFrame, goes_on, value_within, RowBreaks, row_breaks}
use Rattle.bz_layout.proofs.Ends.{by_followed}

-- a leaf is where it may be, is of texts of characters, and holds a lexeme
pub record Placed (here : Spot) (leaf : Leaf) : Type 0 where
  pub stands : Stands here leaf
  pub coded : IsCodedLeaf leaf
  pub lexeme : IsLexeme leaf.class leaf.token

pub placed : (class : Class) (gap text : Bytes) (here : Spot) → IsLexeme class text → IsUtf8 text → FitsAt here gap → Placed here (record { class = class; gap = gap; token = text })
placed class gap text here l u g = record { stands = gap_stands class here gap (lexeme_in_line class text l) g; coded = (gap_coded here gap g, u); lexeme = l }

-- ---- the ways to lay parts

-- a child is after any gap that fits, and what follows it is there
record LaysOut (outer here there : Spot) (x : Child) : Type 0 where
  pub stands : (gap : Bytes) (m : ℕ) → FitsAt here gap → AtLeaves Placed here (x.1 gap m)
  pub goes_on : (gap : Bytes) (m : ℕ) → after_part outer here (x.1 gap m) ≡ there
  pub no_first : is_begins there ≡ false

abbrev RowLaysOut : Spot → Spot → List Child → Type 0
RowLaysOut outer here [] = Unit {0}
RowLaysOut outer here (x ∷ xs) = LaysOut outer here (after_expr outer here x.0) x × RowLaysOut outer (after_expr outer here x.0) xs

abbrev ItemsLayOut : Spot → List Child → Type 0
ItemsLayOut outer [] = Unit {0}
ItemsLayOut outer (x ∷ xs) = LaysOut outer Within Within x × AreComments (comments_of x.0) × ItemsLayOut outer xs

first_part : (outer here there : Spot) (x : Child) (gap : Bytes) (m : ℕ) (xs : List Part) → LaysOut outer here there x → FitsAt here gap → AtParts Placed outer there xs → AtParts Placed outer here (x.1 gap m ∷ xs)
first_part outer here there x gap m xs d g h = (d.stands gap m g, subst (λ z. AtParts Placed outer z xs) (sym (d.goes_on gap m)) h)

-- a row
rowed_at : (kind : Kind) (open_break : Bool) (m : ℕ) (outer here : Spot) (gap : Bytes) (n : ℕ) (xs : List Child) → FitsAt here gap → RowLaysOut outer here xs → RowBreaks open_break outer here xs → AtParts Placed outer here (map piece_part (rowed kind open_break m gap n xs))
rowed_at kind open_break m outer here gap n [] g h b = tt
rowed_at kind open_break m outer here gap n (x ∷ xs) g h b =
    first_part outer here (after_expr outer here x.0) x gap n _ h.0 g
    (rowed_at kind open_break m outer (after_expr outer here x.0) (gap_after kind open_break m x.0 (firsts xs)) (margin_after open_break m x.0) xs (after_fits kind open_break m x.0 (firsts xs) (after_expr outer here x.0) h.0.no_first b.0) h.1 b.1)

-- a space before what follows, or nothing
next_fits : (b : Bool) (here : Spot) → is_begins here ≡ false → FitsAt here (if b then [] else (space ∷ []))
next_fits true here h = none_fits here h
next_fits false here h = space_fits here h

-- a bracket: what it is to those after it, and that it is a token
record IsBracket (t : Role) (n : ℕ) : Type 0 where
  pub turns : role c.Mark (n ∷ []) ≡ t
  pub is_token : is_mark (n ∷ []) ≡ true
  pub coded : IsUtf8 (n ∷ [])

-- ---- all kinds

abbrev Bracketed : Frame → Type 0
Bracketed (sequence opener closer) = IsBracket opens opener × IsBracket closes closer
Bracketed _ = Unit {0}

round : IsBracket opens 40 × IsBracket closes 41
round = (record { turns = refl; is_token = refl; coded = coded_byte 40 (omega arith) }, record { turns = refl; is_token = refl; coded = coded_byte 41 (omega arith) })

square : IsBracket opens 91 × IsBracket closes 93
square = (record { turns = refl; is_token = refl; coded = coded_byte 91 (omega arith) }, record { turns = refl; is_token = refl; coded = coded_byte 93 (omega arith) })

curly : IsBracket opens 123 × IsBracket closes 125
curly = (record { turns = refl; is_token = refl; coded = coded_byte 123 (omega arith) }, record { turns = refl; is_token = refl; coded = coded_byte 125 (omega arith) })

bracketed : (kind : Kind) → Bracketed (frame kind)
bracketed k.Call = round
bracketed k.Load = round
bracketed k.Tuple = round
bracketed k.Def = round
bracketed k.List = square
bracketed k.Dict = curly
bracketed _ = tt

abbrev FormLaysOut : Frame → Bool → Spot → List Child → List Child → List Bytes → Type 0
FormLaysOut row open_break here parts items end = RowLaysOut here here parts × RowBreaks open_break here here parts
FormLaysOut compound open_break here parts items end = ⊥
FormLaysOut (sequence opener closer) open_break here parts items end = RowLaysOut here here parts × ItemsLayOut here items × AllByRecursion IsComment end

-- a node by its list of parts
pub at_node : (P : Spot → Leaf → Type 0) (here : Spot) (n : Node) → AtParts P here here n.parts → AtLeaves P here (p.Node n)
at_node P here n h = row_of_parts P here here _ (row_of n).1 (subst (AtParts P here here) (sym (items_of_row n)) h)

open_form : (f : Frame) (kind : Kind) → is_comprehension kind ≡ true → (parts items : List Part) → Fits IsNonterminal (whole_shape kind) (row_in f parts items) → in_frame f (Opened parts) (Unit {0}) (Unit {0})
open_form row kind c parts items h = comprehension kind c parts h
open_form (sequence opener closer) kind c parts items h = tt
open_form compound kind c parts items h = tt

module _ (mode : Lines) where
  -- ---- the ways to lay parts

  module _ (kind : Kind) (outer : Spot) (opener closer : ℕ) (opening : IsBracket opens opener) (closing : IsBracket closes closer) where
    opener_at : (here : Spot) (gap : Bytes) (xs : List Part) → FitsAt here gap → AtParts Placed outer Within xs → AtParts Placed outer here (p.Leaf (record { class = c.Mark; gap = gap; token = opener ∷ [] }) ∷ xs)
    opener_at here gap xs g h = (placed c.Mark gap (opener ∷ []) here opening.is_token opening.coded g, subst (λ z. AtParts Placed outer (following_token z outer here) xs) (sym opening.turns) h)

    -- what is before the opening bracket, and that
    headed_at : (m : ℕ) (here : Spot) (gap : Bytes) (xs : List Child) (after : Pieces) → FitsAt here gap → RowLaysOut outer here xs → AtParts Placed outer Within (map piece_part after) → AtParts Placed outer here (map piece_part (headed m gap opener xs after))
    headed_at m here gap [] after g h i = opener_at here gap (map piece_part after) g i
    headed_at m here gap (x ∷ xs) after g h i =
        let there : Spot = after_expr outer here x.0 in
        first_part outer here there x gap m _ h.0 g (headed_at m there (if is_empty xs then [] else (space ∷ [])) xs after (next_fits (is_empty xs) there h.0.no_first) h.1 i)

    closer_at : (gap : Bytes) → FitsAt Within gap → AtParts Placed outer Within (p.Leaf (record { class = c.Mark; gap = gap; token = closer ∷ [] }) ∷ [])
    closer_at gap g = (placed c.Mark gap (closer ∷ []) Within closing.is_token closing.coded g, tt)

    comma_at : (xs : List Part) → AtParts Placed outer Within xs → AtParts Placed outer Within (p.Leaf (record { class = c.Mark; gap = []; token = comma ∷ [] }) ∷ xs)
    comma_at xs h = (placed c.Mark [] (comma ∷ []) Within refl (coded_byte comma (omega arith)) inner_nothing, h)

    maybe_comma : (b : Bool) (after : Pieces) → AtParts Placed outer Within (map piece_part after) → AtParts Placed outer Within (map piece_part ((if b then [] else (mark [] (comma ∷ []) ∷ [])) ++ after))
    maybe_comma true after h = h
    maybe_comma false after h = comma_at (map piece_part after) h

    -- items on one line, and the closing bracket
    joined_at : (m : ℕ) (gap : Bytes) (one : Bool) (xs : List Child) → FitsAt Within gap → ItemsLayOut outer xs → AtParts Placed outer Within (map piece_part (joined m gap closer one xs))
    joined_at m gap one [] g h = closer_at [] inner_nothing
    joined_at m gap one (x ∷ xs) g h = first_part outer Within Within x gap m _ h.0 g (maybe_comma (is_empty xs && not one) (joined m (space ∷ []) closer false xs) (joined_at m (space ∷ []) false xs inner_space h.2))

    -- items on lines of their own, and the closing bracket
    stacked_at : (n m : ℕ) (suffix : Option Bytes) (end : List Bytes) (xs : List Child) → MaybeComment suffix → AllByRecursion IsComment end → ItemsLayOut outer xs → AtParts Placed outer Within (map piece_part (stacked mode kind n m suffix closer end xs))
    stacked_at n m suffix end [] s e h = closer_at (suffix_text suffix ++ ended n m end) (closer_gap n m suffix end s e)
    stacked_at n m suffix end (x ∷ xs) s e h =
        let texts : List Bytes = (comments_of x.0).before in
        let below : Pieces = stacked mode kind n m (comments_of x.0).suffix closer end xs in
        let rest = stacked_at n m (comments_of x.0).suffix end xs h.1.1 e h.2 in
        first_part outer Within Within x (suffix_text suffix ++ (new_line_at n ++ margin_lines n texts)) n _ h.0 (item_gap n suffix texts s (recursion_from_All IsComment texts h.1.0))
        (by_followed (λ ps. AtParts Placed outer Within (map piece_part ps)) mode kind x.0 (firsts xs) end closer below (λ closed. closer_at [] inner_nothing) (λ last. rest) (comma_at (map piece_part below) rest))

    body_at : (broken one : Bool) (n m : ℕ) (end : List Bytes) (xs : List Child) → AllByRecursion IsComment end → ItemsLayOut outer xs → AtParts Placed outer Within (map piece_part (if broken then stacked mode kind n m None closer end xs else joined m [] closer one xs))
    body_at true one n m end xs e h = stacked_at n m None end xs tt e h
    body_at false one n m end xs e h = joined_at m [] one xs inner_nothing h

  -- ---- all kinds

  laid_at : (f : Frame) → Bracketed f → (kind : Kind) (split open_break : Bool) (here : Spot) (gap : Bytes) (m : ℕ) (parts items : List Child) (end : List Bytes) → FitsAt here gap → FormLaysOut f open_break here parts items end →
      AtParts Placed here here (map piece_part (laid_in mode f kind split open_break gap m parts items end))
  laid_at row b kind split open_break here gap m parts items end g h = rowed_at kind open_break m here here gap m parts g h.0 h.1
  laid_at compound b kind split open_break here gap m parts items end g h = absurd h
  laid_at (sequence opener closer) b kind split open_break here gap m parts items end g h =
      headed_at kind here opener closer b.0 b.1 m here gap parts _ g h.0 (body_at kind here opener closer b.0 b.1 (is_broken_in mode kind split (firsts items) end) (is_tuple kind && nat_eq (length items) 1) (item_margin mode kind m) m end items h.2 h.1)

  plain_goes_on : (outer here : Spot) (x : Expr) (gap : Bytes) (m : ℕ) → after_part outer here (plain_part mode x gap m) ≡ after_expr outer here x
  plain_goes_on outer here (Token t) gap m = refl
  plain_goes_on outer here (Form' kind z parts z' items end split open_break comments) gap m = refl

  laid_out_goes_on : (outer here : Spot) (x : Expr) → has_suite x ≡ false → (gap : Bytes) (m : ℕ) → after_part outer here (part_of mode x gap m) ≡ after_expr outer here x
  laid_out_goes_on outer here x h gap m = ap (λ f. after_part outer here (f gap m)) (laid_plain mode x h) ∙ plain_goes_on outer here x gap m

  lays_out : (outer here : Spot) (x : Expr) → ProperBy line_shape here x → ((gap : Bytes) (m : ℕ) → FitsAt here gap → AtLeaves Placed here (part_of mode x gap m)) → LaysOut outer here (after_expr outer here x) (x, part_of mode x)
  lays_out outer here x h s = record { stands = s; goes_on = laid_out_goes_on outer here x (line_plain here x h); no_first = goes_on outer here x h }

  -- tokens are proper anywhere
  tokens_lay_out : (outer there here : Spot) (m : _) (r : Row_of-Expr m) → ProperHeadBy line_shape here r → AreLeaves (roots r) → RowLaysOut outer there (parts_of mode r)
  tokens_lay_out outer there here m end_of-Expr h o = tt
  tokens_lay_out outer there here m (more_of-Expr (Token t) rest) h o = (lays_out outer there (Token t) h.0 (λ gap m g. placed t.class gap t.text there h.0.0 h.0.1 g), tokens_lay_out outer (after_expr outer there (Token t)) here _ rest h.2 o.1)
  tokens_lay_out outer there here m (more_of-Expr (Form' kind z parts z' items end split open_break comments) rest) h o = absurd o.0

  -- what is in a form, by what is known of its rows
  form_lays_out : (f : Frame) (kind : Kind) (split open_break : Bool) (here : Spot) (m n : _) (parts : Row_of-Expr m) (items : Row_of-Expr n) (end : List Bytes) →
      (ProperRowBy line_shape (is_binary kind) here here parts → RowLaysOut here here (parts_of mode parts)) → (ProperHeadBy line_shape here parts → AreFronts (roots parts) → RowLaysOut here here (parts_of mode parts)) → (ProperItemsBy line_shape items → AreValues (roots items) → ItemsLayOut here (parts_of mode items)) →
      is_compound f ≡ false → in_frame f (Unit {0}) (AreFronts (roots parts)) (Unit {0}) → in_frame f (Unit {0}) (AreValues (roots items)) (Unit {0}) → (is_comprehension kind ≡ true → in_frame f (Opened (roots parts)) (Unit {0}) (Unit {0})) →
      InFrame line_shape f kind here parts items end split open_break → FormLaysOut f open_break here (parts_of mode parts) (parts_of mode items) end
  form_lays_out row kind split open_break here m n parts items end a b d e o v c h = (a h.0, row_breaks mode (is_binary kind) open_break here here m parts h.0 (λ e. c (h.4 e)))
  form_lays_out compound kind split open_break here m n parts items end a b d e o v c h = no_such (sym e)
  form_lays_out (sequence opener closer) kind split open_break here m n parts items end a b d e o v c h = (b h.0 o, d h.1 v, recursion_from_All IsComment end h.2)

  -- so it is laid out
  form_at : (here : Spot) (kind : Kind) (m n : _) (parts : Row_of-Expr m) (items : Row_of-Expr n) (end : List Bytes) (split open_break : Bool) →
      (ProperRowBy line_shape (is_binary kind) here here parts → RowLaysOut here here (parts_of mode parts)) → (ProperHeadBy line_shape here parts → AreFronts (roots parts) → RowLaysOut here here (parts_of mode parts)) → (ProperItemsBy line_shape items → AreValues (roots items) → ItemsLayOut here (parts_of mode items)) →
      is_compound (frame kind) ≡ false → Fits IsNonterminal (whole_shape kind) (row_in (frame kind) (roots parts) (roots items)) → InFrame line_shape (frame kind) kind here parts items end split open_break →
      (gap : Bytes) (margin : ℕ) → FitsAt here gap → AtParts Placed here here (map piece_part (laid mode kind split open_break gap margin (parts_of mode parts) (parts_of mode items) end))
  form_at here kind m n parts items end split open_break a b d plain fits h gap margin g =
      laid_at (frame kind) (bracketed kind) kind split open_break here gap margin (parts_of mode parts) (parts_of mode items) end g
      (form_lays_out (frame kind) kind split open_break here m n parts items end a b d plain (head_fits kind (roots parts) (roots items) fits) (items_values kind (roots parts) (roots items) fits) (λ e. open_form (frame kind) kind e (roots parts) (roots items) fits) h)

  mutual
    -- what is laid out of a proper expression is where it may be
    pub laid_out_stands : (here : Spot) (x : Expr) → ProperBy line_shape here x → (gap : Bytes) (m : ℕ) → FitsAt here gap → AtLeaves Placed here (part_of mode x gap m)
    laid_out_stands here (Token t) h gap m g = placed t.class gap t.text here h.0 h.1 g
    laid_out_stands here (Form' kind z parts z' items end split open_break comments) h gap m g =
        let x : Expr = Form' kind z parts z' items end split open_break comments in
        let plain : is_compound (frame kind) ≡ false = line_plain here x h in
        subst (λ f. AtLeaves Placed here (f gap m)) (sym (laid_plain mode x plain))
        (at_node Placed here (record { kind = kind; parts = map piece_part (laid mode kind split open_break gap m (parts_of mode parts) (parts_of mode items) end) })
        (form_at here kind _ _ parts items end split open_break (row_lays_out (is_binary kind) here here _ parts) (head_lays_out here _ parts) (items_lay_out here _ items) plain (values_wider kind _ h.0) h.1 gap m g))

    row_lays_out : (binary : Bool) (outer here : Spot) (m : _) (r : Row_of-Expr m) → ProperRowBy line_shape binary outer here r → RowLaysOut outer here (parts_of mode r)
    row_lays_out binary outer here m end_of-Expr h = tt
    row_lays_out binary outer here m (more_of-Expr x rest) h = (lays_out outer here x h.0 (laid_out_stands here x h.0), row_lays_out binary outer (after_expr outer here x) _ rest h.3)

    head_lays_out : (here : Spot) (m : _) (r : Row_of-Expr m) → ProperHeadBy line_shape here r → AreFronts (roots r) → RowLaysOut here here (parts_of mode r)
    head_lays_out here m end_of-Expr h o = tt
    head_lays_out here m (more_of-Expr x rest) h o = (lays_out here here x h.0 (laid_out_stands here x h.0), tokens_lay_out here (after_expr here here x) here _ rest h.2 o)

    items_lay_out : (outer : Spot) (m : _) (r : Row_of-Expr m) → ProperItemsBy line_shape r → AreValues (roots r) → ItemsLayOut outer (parts_of mode r)
    items_lay_out outer m end_of-Expr h v = tt
    items_lay_out outer m (more_of-Expr x rest) h v =
        (subst (λ z. LaysOut outer Within z (x, part_of mode x)) (value_within outer Within x h.0 v.0) (lays_out outer Within x h.0 (laid_out_stands Within x h.0)), h.1, items_lay_out outer _ rest h.3 v.1)

  -- so are the parts of a form in which these are proper: of a header, too
  pub form_stands : (here : Spot) (kind : Kind) (m n : _) (parts : Row_of-Expr m) (items : Row_of-Expr n) (end : List Bytes) (split open_break : Bool) → is_compound (frame kind) ≡ false → Fits IsNonterminal (whole_shape kind) (row_in (frame kind) (roots parts) (roots items)) →
      InFrame line_shape (frame kind) kind here parts items end split open_break → (gap : Bytes) (margin : ℕ) → FitsAt here gap → AtParts Placed here here (map piece_part (laid mode kind split open_break gap margin (parts_of mode parts) (parts_of mode items) end))
  form_stands here kind m n parts items end split open_break plain fits h gap margin g =
      form_at here kind m n parts items end split open_break (row_lays_out (is_binary kind) here here m parts) (head_lays_out here m parts) (items_lay_out here n items) plain fits h gap margin g
