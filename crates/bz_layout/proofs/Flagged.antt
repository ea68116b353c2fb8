-- Settling the flags changes neither the layout nor its tree.
use Rattle.bz_layout.proofs.Words.{[], ◌&&◌, ◌++◌, ◌+◌, ◌||◌, ◌∙◌, ◌∷◌, ◌≡◌, alternative_parts, ap, at_margin, before_next_in, Bool, Bytes, colon, comma, comment_lines, comments_of, compound, each_with_flags_in, end_of-Expr, Expr, false, firsts, flags_in, flat_map, followed, Form, Form', Frame, frame, fun_ext, gap_after, gap_between_in, gap_to_margin, has_break, has_comments, has_kind, has_named, has_suite, headed, HostComments, if◌then◌else◌, Indented, indented_lines, is_bare, is_broken_in, is_call, is_closed, is_divided, is_empty, is_listed, is_named_argument, is_spaced, is_tuple, Item, Item as i, item_margin, item_text_in, item_with_flags_in, items-the_row-Expr, joined, Kind, Kind as k, laid_in, laid_out_in, last_left, layout_in, layouts, left_by_frame, left_last, left_of, left_others, length, length-map, line_feed, Lines, lines_from_in, List, map, margin_after, margin_lines, mark, mark_leaf, more_of-Expr, nat_eq, nat_le, new_line_at, newline_part, Node, node_by_frame, None, not, Option, part, part_of, PartAt, parts_in, parts_of, past_item, Piece, piece_part, piece_text, refl, root, row, Row_of-Expr, rowed, sequence, settled_split_in, space, stacked, statement_part, statement_parts, statement_text, statements_text, suffix_text, suite_part, sym, text_by_frame, text_in, TextAt, texts_in, Token, true, with_flags, with_flags_in, with_more_parts, writings, ℕ}
use Rattle.bz_grammar.specs.declared.tree.Part.TheVariants as p
use Rattle.bz_value.specs.declared.value.Expr.TheVariants as e
use Rattle.bz_layout.proofs.ReadBack.{left_form, others_left}
use Rattle.bz_layout.proofs.Made.{two, text_Form, part_Form, parts_values, values_of, written_row, none_mapped, parts_row, items_row, parts_of_row, items_of_row}

-- ---- pieces of expressions with settled flags and without

-- broken as before, also where the flag says whether it was
pub settled : (a b c s n : Bool) → (a || (b || (c || ((a || (b || (c || (s && n)))) && n)))) ≡ (a || (b || (c || (s && n))))
settled true b c s n = refl
settled false true c s n = refl
settled false false true s n = refl
settled false false false true true = refl
settled false false false true false = refl
settled false false false false n = refl

-- ---- the text of an expression

-- a form with its flags settled, by its fields
abbrev pub made : Kind → List Expr → List Expr → List Bytes → Bool → Bool → HostComments → Form
made kind parts items end split open_break comments = record { kind = kind; parts = parts; seq = record { items = items; end = end; split = split }; open_break = open_break; comments = comments }

-- broken as before, also where the flag says whether it was
pub settled_again : (mode : Lines) (kind : Kind) (split : Bool) (xs : List Expr) (end : List Bytes) → is_broken_in mode kind (is_broken_in mode kind split xs end) xs end ≡ is_broken_in mode kind split xs end
settled_again Lines.Counted kind split xs end = settled (has_comments xs) (not (is_empty end)) (nat_le 2 (length xs) && (is_listed kind || (is_call kind && has_named xs))) split (not (is_empty xs))
settled_again Lines.Written kind split xs end = written (has_comments xs) (not (is_empty end)) split
  where
    written : (a b s : Bool) → (a || (b || (a || (b || s)))) ≡ (a || (b || s))
    written true b s = refl
    written false true s = refl
    written false false s = refl

module _ (mode : Lines) where
  -- ---- what the flags leave as it is

  pub same_comments : (x : Expr) → comments_of (with_flags_in mode x) ≡ comments_of x
  same_comments (Token t) = refl
  same_comments (Form' kind s parts s' items end split open_break comments) = refl

  pub same_break : (x : Expr) → has_break (with_flags_in mode x) ≡ has_break x
  same_break (Token t) = refl
  same_break (Form' kind s parts s' items end split open_break comments) = refl

  pub same_root : (x : Expr) → root (with_flags_in mode x) ≡ root x
  same_root (Token t) = refl
  same_root (Form' kind s parts s' items end split open_break comments) = refl

  same_margin : (open_break : Bool) (m : ℕ) (x : Expr) → margin_after open_break m (with_flags_in mode x) ≡ margin_after open_break m x
  same_margin open_break m x = ap (λ z. if open_break || z then m + 4 else m) (same_break x)

  pub same_suite : (x : Expr) → has_suite (with_flags_in mode x) ≡ has_suite x
  same_suite (Token t) = refl
  same_suite (Form' kind s parts s' items end split open_break comments) = refl

  same_kind : (kind : Kind) (x : Expr) → has_kind kind (with_flags_in mode x) ≡ has_kind kind x
  same_kind kind (Token t) = refl
  same_kind kind (Form' own s parts s' items end split open_break comments) = refl

  same_named_in : (x : Expr) → is_named_argument (with_flags_in mode x) ≡ is_named_argument x
  same_named_in x = rw (same_kind k.Named x, same_kind k.Star x) refl

  -- ---- pieces of expressions with settled flags and without

  module _ {X : Type 0} where
    -- the flags settled, the reading as it is
    abbrev pub flagged : Expr × X → Expr × X
    flagged x = (with_flags_in mode x.0, x.1)

    same_no_value : (xs : List (Expr × X)) → is_empty (firsts (map flagged xs)) ≡ is_empty (firsts xs)
    same_no_value xs = none_mapped (map flagged xs) (λ x. x.0) ∙ (none_mapped xs flagged ∙ sym (none_mapped xs (λ x. x.0)))

    same_count : (xs : List (Expr × X)) → length (firsts (map flagged xs)) ≡ length (firsts xs)
    same_count xs = length-map (map flagged xs) (λ x. x.0) ∙ (length-map xs flagged ∙ sym (length-map xs (λ x. x.0)))

    same_has_comments : (xs : List (Expr × X)) → has_comments (firsts (map flagged xs)) ≡ has_comments (firsts xs)
    same_has_comments [] = refl
    same_has_comments (x ∷ xs) = rw (same_comments x.0, same_has_comments xs) refl

    same_has_named : (xs : List (Expr × X)) → has_named (firsts (map flagged xs)) ≡ has_named (firsts xs)
    same_has_named [] = refl
    same_has_named (x ∷ xs) = rw (same_named_in x.0, same_has_named xs) refl

    same_divided : (kind : Kind) (split : Bool) (xs : List (Expr × X)) → is_divided mode kind split (firsts (map flagged xs)) ≡ is_divided mode kind split (firsts xs)
    same_divided kind split xs = divided mode
      where
        divided : (lines : Lines) → is_divided lines kind split (firsts (map flagged xs)) ≡ is_divided lines kind split (firsts xs)
        divided Lines.Counted = rw (same_count xs, same_has_named xs, same_no_value xs) refl
        divided Lines.Written = refl

    same_broken : (kind : Kind) (split : Bool) (xs : List (Expr × X)) (end : List Bytes) → is_broken_in mode kind (is_broken_in mode kind split (firsts xs) end) (firsts (map flagged xs)) end ≡ is_broken_in mode kind split (firsts xs) end
    same_broken kind split xs end =
        let broken : Bool = is_broken_in mode kind split (firsts xs) end in
        two (λ z w. z || (not (is_empty end) || w)) (same_has_comments xs) (same_divided kind broken xs) ∙ settled_again mode kind split (firsts xs) end

    same_gap : (kind : Kind) (open_break : Bool) (m : ℕ) (x : Expr) (ys : List (Expr × X)) → gap_after kind open_break m (with_flags_in mode x) (firsts (map flagged ys)) ≡ gap_after kind open_break m x (firsts ys)
    same_gap kind open_break m x [] = refl
    same_gap kind open_break m x (y ∷ ys) =
        two (λ b e. if open_break then new_line_at (if e then m else m + 4) else (if b then new_line_at (m + 4) else (if is_spaced kind (root (with_flags_in mode x)) (root (with_flags_in mode y.0)) then space ∷ [] else []))) (same_break x) (same_no_value ys) ∙
        two (λ r q. if open_break then new_line_at (if is_empty (firsts ys) then m else m + 4) else (if has_break x then new_line_at (m + 4) else (if is_spaced kind r q then space ∷ [] else []))) (same_root x) (same_root y.0)

    pub same_rowed : (kind : Kind) (open_break : Bool) (m : ℕ) (g : Bytes) (n : ℕ) (xs : List (Expr × X)) → rowed kind open_break m g n (map flagged xs) ≡ rowed kind open_break m g n xs
    same_rowed kind open_break m g n [] = refl
    same_rowed kind open_break m g n (x ∷ xs) =
        two (λ z w. part g n x.1 ∷ rowed kind open_break m z w (map flagged xs)) (same_gap kind open_break m x.0 xs) (same_margin open_break m x.0) ∙
        ap (λ ps. part g n x.1 ∷ ps) (same_rowed kind open_break m (gap_after kind open_break m x.0 (firsts xs)) (margin_after open_break m x.0) xs)

    same_headed : (m : ℕ) (g : Bytes) (opener : ℕ) (xs : List (Expr × X)) (ps : List (Piece X)) → headed m g opener (map flagged xs) ps ≡ headed m g opener xs ps
    same_headed m g opener [] ps = refl
    same_headed m g opener (x ∷ xs) ps = rw (none_mapped xs flagged) (ap (λ qs. part g m x.1 ∷ qs) (same_headed m (if is_empty xs then [] else (space ∷ [])) opener xs ps))

    same_joined : (m : ℕ) (g : Bytes) (closer : ℕ) (one : Bool) (xs : List (Expr × X)) → joined m g closer one (map flagged xs) ≡ joined m g closer one xs
    same_joined m g closer one [] = refl
    same_joined m g closer one (x ∷ xs) =
        rw (none_mapped xs flagged) (ap (λ ps. part g m x.1 ∷ ((if is_empty xs && not one then [] else (mark [] (comma ∷ []) ∷ [])) ++ ps)) (same_joined m (space ∷ []) closer false xs))

    same_stacked : (kind : Kind) (n m : ℕ) (suffix : Option Bytes) (closer : ℕ) (end : List Bytes) (xs : List (Expr × X)) → stacked mode kind n m suffix closer end (map flagged xs) ≡ stacked mode kind n m suffix closer end xs
    same_stacked kind n m suffix closer end [] = refl
    same_stacked kind n m suffix closer end (x ∷ xs) =
        rw (same_comments x.0, same_kind k.Star x.0, same_no_value xs)
        (ap (λ ps. part (suffix_text suffix ++ (new_line_at n ++ margin_lines n (comments_of x.0).before)) n x.1 ∷ followed (is_closed mode kind x.0 (firsts xs) end) (is_bare mode kind x.0 (firsts xs)) closer ps) (same_stacked kind n m (comments_of x.0).suffix closer end xs))

    pub same_body : (b : Bool) (kind : Kind) (n : ℕ) (one : Bool) (m : ℕ) (closer : ℕ) (end : List Bytes) (xs : List (Expr × X)) →
        (if b then stacked mode kind n m None closer end (map flagged xs) else joined m [] closer one (map flagged xs)) ≡ (if b then stacked mode kind n m None closer end xs else joined m [] closer one xs)
    same_body true kind n one m closer end xs = same_stacked kind n m None closer end xs
    same_body false kind n one m closer end xs = same_joined m [] closer one xs

    same_laid : (f : Frame) (kind : Kind) (split open_break : Bool) (g : Bytes) (m : ℕ) (hs xs : List (Expr × X)) (end : List Bytes) →
        laid_in mode f kind (settled_split_in mode f kind split (firsts xs) end) open_break g m (map flagged hs) (map flagged xs) end ≡ laid_in mode f kind split open_break g m hs xs end
    same_laid row kind split open_break g m hs xs end = same_rowed kind open_break m g m hs
    same_laid (sequence opener closer) kind split open_break g m hs xs end =
        rw (same_broken kind split xs end, length-map xs flagged)
        (same_headed m g opener hs _ ∙
        ap (λ ps. headed m g opener hs ps) (same_body (is_broken_in mode kind split (firsts xs) end) kind (item_margin mode kind m) (is_tuple kind && nat_eq (length xs) 1) m closer end xs))
    same_laid compound kind split open_break g m hs xs end = refl

  -- ---- the text of an expression

  same_line_text : (m : ℕ) (x : Expr × TextAt) → statement_text m (flagged x) ≡ statement_text m x
  same_line_text m x = rw (same_suite x.0, same_comments x.0) refl

  same_lines_text : (m : ℕ) (xs : List (Expr × TextAt)) → statements_text m (map flagged xs) ≡ statements_text m xs
  same_lines_text m [] = refl
  same_lines_text m (x ∷ xs) = two (λ z w. z ++ w) (same_line_text m x) (same_lines_text m xs)

  same_text : (f : Frame) (kind : Kind) (split open_break : Bool) (suffix : Option Bytes) (m : ℕ) (hs xs : List (Expr × TextAt)) (end : List Bytes) →
      text_by_frame mode f kind (settled_split_in mode f kind split (firsts xs) end) open_break suffix m (map flagged hs) (map flagged xs) end ≡ text_by_frame mode f kind split open_break suffix m hs xs end
  same_text row kind split open_break suffix m hs xs end = ap (flat_map piece_text) (same_laid row kind split open_break [] m hs xs end)
  same_text (sequence opener closer) kind split open_break suffix m hs xs end = ap (flat_map piece_text) (same_laid (sequence opener closer) kind split open_break [] m hs xs end)
  same_text compound kind split open_break suffix m [] xs end = refl
  same_text compound kind split open_break suffix m (h ∷ others) xs end =
      two (λ z w. h.1 m ++ (colon ∷ (suffix_text suffix ++ (line_feed ∷ (z ++ (indented_lines (at_margin (m + 4) end) ++ w)))))) (same_lines_text (m + 4) xs) (same_lines_text m others)

  mutual
    pub text_flags : (a : Expr) → text_in mode (with_flags_in mode a) ≡ text_in mode a
    text_flags (Token t) = refl
    text_flags (Form' kind s parts s' items end split open_break comments) =
        let flag : List Expr → Bool = λ z. settled_split_in mode (frame kind) kind split z end in
        fun_ext
        (λ m. text_Form mode (made kind (each_with_flags_in mode parts) (each_with_flags_in mode items) end (flag (items-the_row-Expr _ items)) open_break comments) m
        ∙ (ap (λ z. text_by_frame mode (frame kind) kind (flag z) open_break comments.suffix m (writings mode (each_with_flags_in mode parts)) (writings mode (each_with_flags_in mode items)) end) (sym (ap firsts (written_row mode _ items) ∙ values_of (text_in mode) _))
        ∙ (two (λ h i. text_by_frame mode (frame kind) kind (flag (firsts (texts_in mode items))) open_break comments.suffix m h i end) (texts_flags _ parts) (texts_flags _ items)
        ∙ same_text (frame kind) kind split open_break comments.suffix m (texts_in mode parts) (texts_in mode items) end)))

    texts_flags : (n : _) (r : Row_of-Expr n) → writings mode (each_with_flags_in mode r) ≡ map flagged (texts_in mode r)
    texts_flags n end_of-Expr = refl
    texts_flags n (more_of-Expr x rest) = two (λ t ts. (with_flags_in mode x, t) ∷ ts) (text_flags x) (texts_flags _ rest)

  -- ---- what is left after an expression

  left_Form : (f : Form) (m : ℕ) → left_of m (e.Form f) ≡ left_by_frame (frame f.kind) (others_left m (last_left (m + 4) [] f.seq.items ++ at_margin (m + 4) f.seq.end) f.parts)
  left_Form f m =
      left_form mode m (frame f.kind) _ _ (parts_row f).1 (items_row f).1 f.seq.end
      ∙ two (λ h i. left_by_frame (frame f.kind) (others_left m (last_left (m + 4) [] i ++ at_margin (m + 4) f.seq.end) h)) (parts_values mode _ (parts_row f).1 ∙ parts_of_row f) (parts_values mode _ (items_row f).1 ∙ items_of_row f)

  mutual
    pub left_flags : (m : ℕ) (a : Expr) → left_of m (with_flags_in mode a) ≡ left_of m a
    left_flags m (Token t) = refl
    left_flags m (Form' kind s parts s' items end split open_break comments) =
        left_Form (made kind (each_with_flags_in mode parts) (each_with_flags_in mode items) end (settled_split_in mode (frame kind) kind split (items-the_row-Expr _ items) end) open_break comments) m
        ∙ ap (left_by_frame (frame kind)) (ap (λ z. others_left m (z ++ at_margin (m + 4) end) (each_with_flags_in mode parts)) (last_flags (m + 4) [] _ items) ∙ others_flags m _ _ parts)

    last_flags : (m : ℕ) (cs : Indented) (n : _) (r : Row_of-Expr n) → last_left m cs (each_with_flags_in mode r) ≡ left_last m cs r
    last_flags m cs n end_of-Expr = refl
    last_flags m cs n (more_of-Expr x rest) = ap (λ z. last_left m z (each_with_flags_in mode rest)) (left_flags m x) ∙ last_flags m (left_of m x) _ rest

    others_flags : (m : ℕ) (cs : Indented) (n : _) (r : Row_of-Expr n) → others_left m cs (each_with_flags_in mode r) ≡ left_others m cs r
    others_flags m cs n end_of-Expr = refl
    others_flags m cs n (more_of-Expr x rest) = last_flags m cs _ rest

  -- ---- what is laid out of an expression

  same_last : (m : ℕ) (cs : Indented) (xs : List (Expr × PartAt)) → last_left m cs (firsts (map flagged xs)) ≡ last_left m cs (firsts xs)
  same_last m cs [] = refl
  same_last m cs (x ∷ xs) = ap (λ z. last_left m z (firsts (map flagged xs))) (left_flags m x.0) ∙ same_last m (left_of m x.0) xs

  same_statement : (m : ℕ) (gap : Bytes) (x : Expr × PartAt) → statement_part m gap (flagged x) ≡ statement_part m gap x
  same_statement m gap x = rw (same_suite x.0, same_comments x.0) refl

  same_statements : (m : ℕ) (gap : Bytes) (xs : List (Expr × PartAt)) → statement_parts m gap (map flagged xs) ≡ statement_parts m gap xs
  same_statements m gap [] = refl
  same_statements m gap (x ∷ xs) =
      two (λ z w. z ∷ statement_parts m (indented_lines w) (map flagged xs)) (same_statement m gap x) (left_flags m x.0) ∙ ap (λ z. statement_part m gap x ∷ z) (same_statements m (indented_lines (left_of m x.0)) xs)

  same_alternatives : (m : ℕ) (gap : Bytes) (xs : List (Expr × PartAt)) → alternative_parts m gap (map flagged xs) ≡ alternative_parts m gap xs
  same_alternatives m gap [] = refl
  same_alternatives m gap (x ∷ xs) =
      two (λ z w. parts_in (x.1 (gap_to_margin m gap z.before) m) ++ alternative_parts m (indented_lines w) (map flagged xs)) (same_comments x.0) (left_flags m x.0)
      ∙ ap (λ z. parts_in (x.1 (gap_to_margin m gap (comments_of x.0).before) m) ++ z) (same_alternatives m (indented_lines (left_of m x.0)) xs)

  same_node : (f : Frame) (kind : Kind) (split open_break : Bool) (suffix : Option Bytes) (g : Bytes) (m : ℕ) (hs xs : List (Expr × PartAt)) (end : List Bytes) →
      node_by_frame mode f kind (settled_split_in mode f kind split (firsts xs) end) open_break suffix g m (map flagged hs) (map flagged xs) end ≡ node_by_frame mode f kind split open_break suffix g m hs xs end
  same_node row kind split open_break suffix g m hs xs end = ap (λ ps. p.Node (record { kind = kind; parts = map piece_part ps })) (same_laid row kind split open_break g m hs xs end)
  same_node (sequence o c) kind split open_break suffix g m hs xs end = ap (λ ps. p.Node (record { kind = kind; parts = map piece_part ps })) (same_laid (sequence o c) kind split open_break g m hs xs end)
  same_node compound kind split open_break suffix g m [] xs end = ap (λ z. p.Node (record { kind = k.Suite; parts = p.Node (record { kind = k.Suite; parts = newline_part suffix ∷ z }) ∷ [] })) (same_statements (m + 4) [] xs)
  same_node compound kind split open_break suffix g m (h ∷ others) xs end =
      two (λ z w. with_more_parts (h.1 g m) (mark_leaf colon ∷ p.Node (record { kind = k.Suite; parts = newline_part suffix ∷ z }) ∷ alternative_parts m (indented_lines (w ++ at_margin (m + 4) end)) (map flagged others))) (same_statements (m + 4) [] xs) (same_last (m + 4) [] xs)
      ∙ ap (λ z. with_more_parts (h.1 g m) (mark_leaf colon ∷ suite_part m suffix xs ∷ z)) (same_alternatives m _ others)

  mutual
    pub part_flags : (a : Expr) → part_of mode (with_flags_in mode a) ≡ part_of mode a
    part_flags (Token t) = refl
    part_flags (Form' kind s parts s' items end split open_break comments) =
        let flag : List Expr → Bool = λ z. settled_split_in mode (frame kind) kind split z end in
        fun_ext
        (λ g. fun_ext
        (λ m. part_Form mode (made kind (each_with_flags_in mode parts) (each_with_flags_in mode items) end (flag (items-the_row-Expr _ items)) open_break comments) g m
        ∙ (ap (λ z. node_by_frame mode (frame kind) kind (flag z) open_break comments.suffix g m (layouts mode (each_with_flags_in mode parts)) (layouts mode (each_with_flags_in mode items)) end) (sym (parts_values mode _ items))
        ∙ (two (λ h i. node_by_frame mode (frame kind) kind (flag (firsts (parts_of mode items))) open_break comments.suffix g m h i end) (parts_flags _ parts) (parts_flags _ items)
        ∙ same_node (frame kind) kind split open_break comments.suffix g m (parts_of mode parts) (parts_of mode items) end))))

    parts_flags : (n : _) (r : Row_of-Expr n) → layouts mode (each_with_flags_in mode r) ≡ map flagged (parts_of mode r)
    parts_flags n end_of-Expr = refl
    parts_flags n (more_of-Expr x rest) = two (λ t ts. (with_flags_in mode x, t) ∷ ts) (part_flags x) (parts_flags _ rest)

  -- ---- the file

  same_item : (x : Item) → item_text_in mode (item_with_flags_in mode x) ≡ item_text_in mode x
  same_item (i.Block texts) = refl
  same_item (i.Stmt x) = ap (λ t. statement_text 0 (with_flags_in mode x, t)) (text_flags x) ∙ same_line_text 0 (x, text_in mode x)

  pub same_between : (x y : Item) → gap_between_in mode (item_with_flags_in mode x) (item_with_flags_in mode y) ≡ gap_between_in mode x y
  same_between (i.Block texts) y = refl
  same_between (i.Stmt x) y = after_statement mode y
    where
      after_statement : (lines : Lines) (y : Item) → gap_between_in lines (i.Stmt (with_flags_in mode x)) (item_with_flags_in mode y) ≡ gap_between_in lines (i.Stmt x) y
      after_statement Lines.Written y = refl
      after_statement Lines.Counted (i.Block texts) = refl
      after_statement Lines.Counted (i.Stmt y) = rw (same_kind k.Load x, same_kind k.Load y, same_kind k.Assign x, same_kind k.Assign y, same_comments y) refl

  same_after : (x : Item) (ys : List Item) → past_item mode (item_with_flags_in mode x) (flags_in mode ys) ≡ past_item mode x ys
  same_after x [] = refl
  same_after x (y ∷ ys) = two (λ s t. s ++ t) (same_between x y) (two (λ s t. s ++ t) (same_item y) (same_after y ys))

  pub same_layout : (items : List Item) → layout_in mode (flags_in mode items) ≡ layout_in mode items
  same_layout [] = refl
  same_layout (x ∷ xs) = two (λ s t. s ++ t) (same_item x) (same_after x xs)

  same_next : (x : Item) (ys : List Item) → before_next_in mode (item_with_flags_in mode x) (flags_in mode ys) ≡ before_next_in mode x ys
  same_next x [] = refl
  same_next x (y ∷ ys) = same_between x y

  same_lines : (gap : Bytes) (xs : List Item) → lines_from_in mode gap (flags_in mode xs) ≡ lines_from_in mode gap xs
  same_lines gap [] = refl
  same_lines gap (i.Block texts ∷ xs) =
      ap (λ z. lines_from_in mode ((gap ++ comment_lines texts) ++ z) (flags_in mode xs)) (same_next (i.Block texts) xs) ∙ same_lines ((gap ++ comment_lines texts) ++ before_next_in mode (i.Block texts) xs) xs
  same_lines gap (i.Stmt x ∷ xs) =
      two (λ z zs. z ∷ zs) (ap (λ z. statement_part 0 gap (with_flags_in mode x, z)) (part_flags x) ∙ same_statement 0 gap (x, part_of mode x))
      (two (λ z w. lines_from_in mode (indented_lines z ++ w) (flags_in mode xs)) (left_flags 0 x) (same_next (i.Stmt x) xs) ∙ same_lines (indented_lines (left_of 0 x) ++ before_next_in mode (i.Stmt x) xs) xs)

  pub same_laid_out : (items : List Item) → laid_out_in mode (flags_in mode items) ≡ laid_out_in mode items
  same_laid_out items = ap (λ ps. let file : Node = record { kind = k.File; parts = ps } in file) (same_lines [] items)

-- as lines are counted
pub same_named : (x : Expr) → is_named_argument (with_flags x) ≡ is_named_argument x
same_named x = same_named_in Lines.Counted x
