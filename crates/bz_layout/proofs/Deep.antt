-- What is laid out of a value is as deep as the value says.
use Rattle.bz_layout.proofs.Words.{[], ◌&&◌, ◌++◌, ◌+◌, ◌<◌, ◌∙◌, ◌∷◌, ◌≡◌, alternative_parts, ap, arith, at_margin, before_next_in, body, Bool, Bytes, colon, comma, comment_lines, comments_of, compound, deepest, deepest_both, deepest_by, deepest_line, deepest_of, depth_expr, depth_exprs, depth_form, depth_in, depth_items, depth_line, depth_lines, depth_Node, depth_of, depth_part, depth_row, drop, drop_more, end_of-Expr, end_of-Part, Expr, false, firsts, Form, Form', Frame, frame, gap_after, gap_to_margin, get_or, has_brackets, has_suite, headed, if◌then◌else◌, indented_lines, is_broken_in, is_compound, is_empty, is_tuple, Item, Item as i, item_margin, items-the_row-Expr, items-the_row-Part, joined, Kind, Kind as k, laid_out_in, last_left, left_of, length, Lines, lines_from_in, List, map, margin_after, mark, mark_leaf, max, more_of-Expr, more_of-Part, nat_eq, newline_part, Node', node_by_frame, None, not, Option, Part, part_of, PartAt, parts_in, parts_of, Piece, piece_part, refl, row, Row_of-Expr, Row_of-Part, rowed, sequence, space, stacked, statement_part, statement_parts, suc, suite_node, suite_part, sym, Token, true, with_more_parts, ℕ}
use Rattle.bz_grammar.specs.declared.tree.Part.TheVariants as p
use Rattle.bz_value.specs.declared.value.Token.{Token as TokenValue}
use Rattle.bz_value.specs.declared.value.Expr.TheVariants as e
use Rattle.bz_layout.proofs.Made.{parts_row, items_row, parts_of_row, items_of_row, two, parts_values}
use Rattle.bz_layout.proofs.Ends.{by_followed}

abbrev pub LayingOut : Type 0
LayingOut = Expr × PartAt

-- what is laid out of each expression is as deep as it says
abbrev pub AsDeep : List LayingOut → Type 0
AsDeep [] = Unit {0}
AsDeep (x ∷ xs) = ((gap : Bytes) (m : ℕ) → depth_part (x.1 gap m) ≡ depth_expr x.0) × AsDeep xs

abbrev pub depth_pieces : List (Piece PartAt) → ℕ
depth_pieces ps = deepest (map piece_part ps)

pub rowed_depth : (kind : Kind) (open_break : Bool) (m : ℕ) (gap : Bytes) (n : ℕ) (xs : List LayingOut) → AsDeep xs → depth_pieces (rowed kind open_break m gap n xs) ≡ deepest_of (firsts xs)
rowed_depth kind open_break m gap n [] h = refl
rowed_depth kind open_break m gap n (x ∷ xs) h = two max (h.0 gap n) (rowed_depth kind open_break m (gap_after kind open_break m x.0 (firsts xs)) (margin_after open_break m x.0) xs h.1)

headed_depth : (m : ℕ) (gap : Bytes) (opener : ℕ) (xs : List LayingOut) (after : List (Piece PartAt)) → AsDeep xs → depth_pieces (headed m gap opener xs after) ≡ max (deepest_of (firsts xs)) (depth_pieces after)
headed_depth m gap opener [] after h = refl
headed_depth m gap opener (x ∷ xs) after h =
    let here : depth_part (x.1 gap m) ≡ depth_expr x.0 = h.0 gap m in
    let next : Bytes = if is_empty xs then [] else (space ∷ []) in
    let more : depth_pieces (headed m next opener xs after) ≡ max (deepest_of (firsts xs)) (depth_pieces after) = headed_depth m next opener xs after h.1 in
    omega (arith, here, more)

comma_depth : (b : Bool) (ps : List (Piece PartAt)) → depth_pieces ((if b then [] else (mark [] (comma ∷ []) ∷ [])) ++ ps) ≡ depth_pieces ps
comma_depth true ps = refl
comma_depth false ps = omega arith

joined_depth : (m : ℕ) (gap : Bytes) (closer : ℕ) (one : Bool) (xs : List LayingOut) → AsDeep xs → depth_pieces (joined m gap closer one xs) ≡ deepest_of (firsts xs)
joined_depth m gap closer one [] h = omega arith
joined_depth m gap closer one (x ∷ xs) h =
    two max (h.0 gap m) (comma_depth (is_empty xs && not one) (joined m (space ∷ []) closer false xs) ∙ joined_depth m (space ∷ []) closer false xs h.1)

-- ---- suites

depth_parts : (m : _) (r : Row_of-Part m) → depth_row r ≡ deepest (items-the_row-Part m r)
depth_parts m end_of-Part = refl
depth_parts m (more_of-Part x rest) = ap (λ d. max (depth_part x) d) (depth_parts _ rest)

grown_depth : (x : Part) (more : List Part) → depth_part (with_more_parts x more) ≡ max (depth_part x) (suc (deepest more))
grown_depth (p.Leaf l) more = let node = depth_Node (record { kind = k.Suite; parts = p.Leaf l ∷ more }) in omega (arith, node)
grown_depth (Node' kind size parts) more =
    let node = depth_Node (record { kind = kind; parts = items-the_row-Part _ parts ++ more }) in
    omega (arith, node, deepest_both (items-the_row-Part _ parts) more, depth_parts _ parts)

inside_depth : (x : Part) → suc (deepest (parts_in x)) ≡ max 1 (depth_part x)
inside_depth (p.Leaf l) = omega arith
inside_depth (Node' kind size parts) = omega (arith, depth_parts _ parts)

own_depth : (b : Bool) (own newline : Part) (d : ℕ) → depth_part own ≡ d → depth_part newline ≡ 0 → depth_part (if b then own else p.Node (record { kind = k.Line; parts = own ∷ newline ∷ [] })) ≡ (if b then d else suc d)
own_depth true own newline d h n = h
own_depth false own newline d h n = let node = depth_Node (record { kind = k.Line; parts = own ∷ newline ∷ [] }) in omega (arith, node, h, n)

statement_depth : (m : ℕ) (lines : Bytes) (x : LayingOut) → ((gap : Bytes) (m : ℕ) → depth_part (x.1 gap m) ≡ depth_expr x.0) → depth_part (statement_part m lines x) ≡ depth_line x.0
statement_depth m lines x h = own_depth (has_suite x.0) _ (newline_part (comments_of x.0).suffix) (depth_expr x.0) (h (gap_to_margin m lines (comments_of x.0).before) m) refl

statements_depth : (m : ℕ) (lines : Bytes) (xs : List LayingOut) → AsDeep xs → deepest (statement_parts m lines xs) ≡ deepest_line (firsts xs)
statements_depth m lines [] h = refl
statements_depth m lines (x ∷ xs) h = two max (statement_depth m lines x h.0) (statements_depth m (indented_lines (left_of m x.0)) xs h.1)

suite_depth : (m : ℕ) (suffix : Option Bytes) (xs : List LayingOut) → AsDeep xs → depth_part (suite_part m suffix xs) ≡ suc (deepest_line (firsts xs))
suite_depth m suffix xs h =
    let node = depth_Node (record { kind = k.Suite; parts = newline_part suffix ∷ statement_parts (m + 4) [] xs }) in
    omega (arith, node, statements_depth (m + 4) [] xs h)

-- their parts are parts of a node that is there without them
alternatives_depth : (m : ℕ) (lines : Bytes) (xs : List LayingOut) → AsDeep xs → suc (deepest (alternative_parts m lines xs)) ≡ max 1 (deepest_of (firsts xs))
alternatives_depth m lines [] h = omega arith
alternatives_depth m lines (x ∷ xs) h =
    let gap : Bytes = gap_to_margin m lines (comments_of x.0).before in
    let rest : List Part = alternative_parts m (indented_lines (left_of m x.0)) xs in
    let more : suc (deepest rest) ≡ max 1 (deepest_of (firsts xs)) = alternatives_depth m (indented_lines (left_of m x.0)) xs h.1 in
    omega (arith, deepest_both (parts_in (x.1 gap m)) rest, inside_depth (x.1 gap m), h.0 gap m, more)

suited_depth : (suffix : Option Bytes) (gap : Bytes) (m : ℕ) (hs xs : List LayingOut) (end : List Bytes) → AsDeep hs → AsDeep xs →
    depth_part (suite_node suffix gap m hs xs end) ≡ max (deepest_of (firsts hs)) (suc (suc (deepest_line (firsts xs))))
suited_depth suffix gap m [] xs end a b =
    let node = depth_Node (record { kind = k.Suite; parts = suite_part m suffix xs ∷ [] }) in
    omega (arith, node, suite_depth m suffix xs b)
suited_depth suffix gap m (h ∷ others) xs end a b =
    let lines : Bytes = indented_lines (last_left (m + 4) [] (firsts xs) ++ at_margin (m + 4) end) in
    let all = grown_depth (h.1 gap m) (mark_leaf colon ∷ suite_part m suffix xs ∷ alternative_parts m lines others) in
    omega (arith, all, a.0 gap m, suite_depth m suffix xs b, alternatives_depth m lines others a.1)

-- ---- expressions

exprs_row : (n : _) (r : Row_of-Expr n) → depth_exprs r ≡ deepest_of (items-the_row-Expr n r)
exprs_row n end_of-Expr = refl
exprs_row n (more_of-Expr x rest) = ap (λ d. max (depth_expr x) d) (exprs_row _ rest)

lines_row : (n : _) (r : Row_of-Expr n) → depth_lines r ≡ deepest_line (items-the_row-Expr n r)
lines_row n end_of-Expr = refl
lines_row n (more_of-Expr x rest) = ap (λ d. max (depth_line x) d) (lines_row _ rest)

three : (f : Frame) {a b c a' b' c' : ℕ} → a ≡ a' → b ≡ b' → c ≡ c' → depth_in f a b c ≡ depth_in f a' b' c'
three f {a} {b} {c} {a'} {b'} {c'} d e g = two (λ x y. depth_in f x y c) d e ∙ ap (λ z. depth_in f a' b' z) g

-- ---- forms

pub depth_Form : (f : Form) → depth_expr (e.Form f) ≡ depth_form f
depth_Form f =
    let items = items_of_row f in
    three (frame f.kind) (exprs_row _ (parts_row f).1 ∙ ap deepest_of (parts_of_row f)) (exprs_row _ (items_row f).1 ∙ ap deepest_of items) (lines_row _ (items_row f).1 ∙ ap deepest_line items)

-- by its frame, as it is tested
pub depth_of_sequence : (f : Form) → has_brackets (frame f.kind) ≡ true → depth_form f ≡ suc (max (deepest_of f.parts) (deepest_of f.seq.items))
depth_of_sequence f h = by_frame (frame f.kind) h
  where
    by_frame : (g : Frame) → has_brackets g ≡ true → depth_in g (deepest_of f.parts) (deepest_of f.seq.items) (deepest_line f.seq.items) ≡ suc (max (deepest_of f.parts) (deepest_of f.seq.items))
    by_frame row h = absurd cc
    by_frame (sequence opener closer) h = refl
    by_frame compound h = absurd cc

pub depth_of_suite : (f : Form) → is_compound (frame f.kind) ≡ true → depth_form f ≡ max (deepest_of f.parts) (suc (suc (deepest_line f.seq.items)))
depth_of_suite f h = by_frame (frame f.kind) h
  where
    by_frame : (g : Frame) → is_compound g ≡ true → depth_in g (deepest_of f.parts) (deepest_of f.seq.items) (deepest_line f.seq.items) ≡ max (deepest_of f.parts) (suc (suc (deepest_line f.seq.items)))
    by_frame row h = absurd cc
    by_frame (sequence opener closer) h = absurd cc
    by_frame compound h = refl

pub depth_of_row : (f : Form) → has_brackets (frame f.kind) ≡ false → is_compound (frame f.kind) ≡ false → depth_form f ≡ suc (deepest_of f.parts)
depth_of_row f h i = by_frame (frame f.kind) h i
  where
    by_frame : (g : Frame) → has_brackets g ≡ false → is_compound g ≡ false → depth_in g (deepest_of f.parts) (deepest_of f.seq.items) (deepest_line f.seq.items) ≡ suc (deepest_of f.parts)
    by_frame row h i = refl
    by_frame (sequence opener closer) h i = absurd cc
    by_frame compound h i = absurd cc

-- ---- the steps of the loops

pub deepest_next : (depth : Expr → ℕ) (xs : List Expr) (k : ℕ) (d : Expr) → k < length xs → deepest_by depth (drop k xs) ≡ max (depth (get_or xs k d)) (deepest_by depth (drop (k + 1) xs))
deepest_next depth xs k d h = ap (deepest_by depth) (drop_more xs k d h)

pub form_next : (xs : List Expr) (k : ℕ) (d : Expr) (f : Form) → k < length xs → get_or xs k d ≡ e.Form f → deepest_of (drop k xs) ≡ max (depth_form f) (deepest_of (drop (k + 1) xs))
form_next xs k d f h is = deepest_next depth_expr xs k d h ∙ ap (λ n. max n (deepest_of (drop (k + 1) xs))) (ap depth_expr is ∙ depth_Form f)

pub token_next : (xs : List Expr) (k : ℕ) (d : Expr) (t : TokenValue) → k < length xs → get_or xs k d ≡ e.Token t → deepest_of (drop k xs) ≡ deepest_of (drop (k + 1) xs)
token_next xs k d t h is = deepest_next depth_expr xs k d h ∙ (ap (λ n. max n (deepest_of (drop (k + 1) xs))) (ap depth_expr is) ∙ omega arith)

module _ (mode : Lines) where
  stacked_depth : (kind : Kind) (n m : ℕ) (suffix : Option Bytes) (closer : ℕ) (end : List Bytes) (xs : List LayingOut) → AsDeep xs → depth_pieces (stacked mode kind n m suffix closer end xs) ≡ deepest_of (firsts xs)
  stacked_depth kind n m suffix closer end [] h = omega arith
  stacked_depth kind n m suffix closer end (x ∷ xs) h =
      let below : List (Piece PartAt) = stacked mode kind n m (comments_of x.0).suffix closer end xs in
      let more : depth_pieces below ≡ deepest_of (firsts xs) = stacked_depth kind n m (comments_of x.0).suffix closer end xs h.1 in
      two max (h.0 _ n)
      (by_followed (λ ps. depth_pieces ps ≡ deepest_of (firsts xs)) mode kind x.0 (firsts xs) end closer below (λ closed. ap deepest_of (sym closed.last.alone)) (λ last. more) (omega (arith, more)))

  pub body_depth : (b : Bool) (kind : Kind) (n : ℕ) (one : Bool) (m : ℕ) (closer : ℕ) (end : List Bytes) (xs : List LayingOut) → AsDeep xs → depth_pieces (if b then stacked mode kind n m None closer end xs else joined m [] closer one xs) ≡ deepest_of (firsts xs)
  body_depth true kind n one m closer end xs h = stacked_depth kind n m None closer end xs h
  body_depth false kind n one m closer end xs h = joined_depth m [] closer one xs h

  -- ---- expressions

  node_depth : (f : Frame) (kind : Kind) (split open_break : Bool) (suffix : Option Bytes) (gap : Bytes) (m : ℕ) (hs xs : List LayingOut) (end : List Bytes) → AsDeep hs → AsDeep xs →
      depth_part (node_by_frame mode f kind split open_break suffix gap m hs xs end) ≡ depth_in f (deepest_of (firsts hs)) (deepest_of (firsts xs)) (deepest_line (firsts xs))
  node_depth row kind split open_break suffix gap m hs xs end a b = depth_Node (record { kind = kind; parts = _ }) ∙ ap suc (rowed_depth kind open_break m gap m hs a)
  node_depth (sequence opener closer) kind split open_break suffix gap m hs xs end a b =
      depth_Node (record { kind = kind; parts = _ }) ∙
      ap suc
      (headed_depth m gap opener hs (body mode kind split m closer xs end) a ∙
      ap (λ n. max (deepest_of (firsts hs)) n) (body_depth (is_broken_in mode kind split (firsts xs) end) kind (item_margin mode kind m) (is_tuple kind && nat_eq (length xs) 1) m closer end xs b))
  node_depth compound kind split open_break suffix gap m hs xs end a b = suited_depth suffix gap m hs xs end a b

  mutual
    pub depth_laid_out : (x : Expr) (gap : Bytes) (m : ℕ) → depth_part (part_of mode x gap m) ≡ depth_expr x
    depth_laid_out (Token t) gap m = refl
    depth_laid_out (Form' kind s parts s' items end split open_break comments) gap m =
        node_depth (frame kind) kind split open_break comments.suffix gap m (parts_of mode parts) (parts_of mode items) end (all_laid_out _ parts) (all_laid_out _ items) ∙
        three (frame kind) (ap deepest_of (parts_values mode _ parts) ∙ sym (exprs_row _ parts)) (ap deepest_of (parts_values mode _ items) ∙ sym (exprs_row _ items)) (ap deepest_line (parts_values mode _ items) ∙ sym (lines_row _ items))

    all_laid_out : (n : _) (r : Row_of-Expr n) → AsDeep (parts_of mode r)
    all_laid_out n end_of-Expr = tt
    all_laid_out n (more_of-Expr x rest) = (λ gap m. depth_laid_out x gap m, all_laid_out _ rest)

  -- ---- files

  lines_depth : (gap : Bytes) (xs : List Item) → deepest (lines_from_in mode gap xs) ≡ depth_items xs
  lines_depth gap [] = refl
  lines_depth gap (i.Block texts ∷ xs) = lines_depth ((gap ++ comment_lines texts) ++ before_next_in mode (i.Block texts) xs) xs
  lines_depth gap (i.Stmt x ∷ xs) = two max (statement_depth 0 gap (x, part_of mode x) (depth_laid_out x)) (lines_depth (indented_lines (left_of 0 x) ++ before_next_in mode (i.Stmt x) xs) xs)

  pub laid_out_depth : (xs : List Item) → depth_of (laid_out_in mode xs) ≡ suc (depth_items xs)
  laid_out_depth xs = ap suc (lines_depth [] xs)
