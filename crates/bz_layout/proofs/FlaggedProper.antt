-- Settling the flags keeps file values proper.
use Rattle.bz_layout.proofs.Words.{[], ◌&&◌, ◌||◌, ◌∙◌, ◌∷◌, ◌≡◌, after_expr, All-map, All-weaker, alternatives_fit, ap, AreComments, AreHeadBy, AreHeaderBy, AreItemsBy, AreLinesBy, ArePartsBy, Begins, begins_operator, Bool, Bytes, bytes_eq, codes, compound, each_with_flags_in, else_last, end_of-Expr, Expr, false, first_token_text, Fits, flags, flags_in, Form, Form', form_proper_by, Frame, frame, Grammar, has_header_kind, has_simple_kind, headed_by, header_word, if◌then◌else◌, in_frame, is_alone, is_alternative, is_binary, is_branch, is_empty, is_headed_by, is_kind, is_operator, is_whole_statement, IsBare, IsEmptyRow, IsNone, IsNonterminal, IsProperIn, IsProperItemIn, IsSomeRow, Item, Item as i, item_with_flags_in, items-the_row-Expr, Kind, Lines, List, map, more_of-Expr, not, operator_first, ProperBy, ProperHeadBy, ProperHeaderBy, ProperItemsBy, ProperLinesBy, ProperRowBy, refl, root, roots, row, row_in, Row_of-Expr, sequence, settled_split_in, Shape, Spot, subst, sym, Token, value_shape, with_flags_in, Within}
use Rattle.bz_grammar.specs.declared.kind.Kind.TheVariants as k
use Rattle.bz_layout.proofs.Flagged.{same_comments, same_break, same_root, same_suite, made}
use Rattle.bz_layout.proofs.Made.{two, parts_row, parts_of_row}

-- ---- words

-- what is read of the parts of a form with its flags settled
of_parts : {A : Type 0} (read : List Expr → A) (f : Form) → read (items-the_row-Expr (parts_row f).0 (parts_row f).1) ≡ read f.parts
of_parts read f = ap read (parts_of_row f)

module _ (mode : Lines) where
  -- ---- what the flags leave as it is

  same_operator : (x : Expr) → is_operator (with_flags_in mode x) ≡ is_operator x
  same_operator (Token t) = refl
  same_operator (Form' kind s parts s' items end split open_break comments) = refl

  pub same_spot : (outer here : Spot) (x : Expr) → after_expr outer here (with_flags_in mode x) ≡ after_expr outer here x
  same_spot outer here (Token t) = refl
  same_spot outer here (Form' kind s parts s' items end split open_break comments) = refl

  same_simple : (x : Expr) → has_simple_kind (with_flags_in mode x) ≡ has_simple_kind x
  same_simple (Token t) = refl
  same_simple (Form' kind s parts s' items end split open_break comments) = refl

  same_header : (x : Expr) → has_header_kind (with_flags_in mode x) ≡ has_header_kind x
  same_header (Token t) = refl
  same_header (Form' kind s parts s' items end split open_break comments) = refl

  -- ---- words

  same_first : (m : _) (r : Row_of-Expr m) → first_token_text (each_with_flags_in mode r) ≡ first_token_text (items-the_row-Expr m r)
  same_first m end_of-Expr = refl
  same_first m (more_of-Expr (Token t) rest) = refl
  same_first m (more_of-Expr (Form' kind s parts s' items end split open_break comments) rest) = refl

  same_word : (x : Expr) → header_word (with_flags_in mode x) ≡ header_word x
  same_word (Token t) = refl
  same_word (Form' kind s parts s' items end split open_break comments) =
      ap (λ z. if is_kind kind k.IfStmt then z else []) (of_parts first_token_text (made kind (each_with_flags_in mode parts) (each_with_flags_in mode items) end (settled_split_in mode (frame kind) kind split (items-the_row-Expr _ items) end) open_break comments) ∙ same_first _ parts)

  same_headed : (word : Bytes) (m : _) (r : Row_of-Expr m) → headed_by word (each_with_flags_in mode r) ≡ headed_by word (items-the_row-Expr m r)
  same_headed word m end_of-Expr = refl
  same_headed word m (more_of-Expr x rest) = ap (λ z. bytes_eq z word) (same_word x)

  same_empty : (m : _) (r : Row_of-Expr m) → is_empty (each_with_flags_in mode r) ≡ is_empty (items-the_row-Expr m r)
  same_empty m end_of-Expr = refl
  same_empty m (more_of-Expr x rest) = refl

  same_alone : (m : _) (r : Row_of-Expr m) → is_alone (each_with_flags_in mode r) ≡ is_alone (items-the_row-Expr m r)
  same_alone m end_of-Expr = refl
  same_alone m (more_of-Expr x rest) = same_empty _ rest

  same_branch : (m : _) (r : Row_of-Expr m) → is_branch (each_with_flags_in mode r) ≡ is_branch (items-the_row-Expr m r)
  same_branch m r = two (λ z w. z && w) (same_alone m r) (two (λ z w. z || w) (same_headed (codes "elif") m r) (same_headed (codes "else") m r))

  same_begun : (word : Bytes) (x : Expr) → is_headed_by word (with_flags_in mode x) ≡ is_headed_by word x
  same_begun word (Token t) = refl
  same_begun word (Form' kind s parts s' items end split open_break comments) =
      of_parts (headed_by word) (made kind (each_with_flags_in mode parts) (each_with_flags_in mode items) end (settled_split_in mode (frame kind) kind split (items-the_row-Expr _ items) end) open_break comments) ∙ same_headed word _ parts

  same_alternative : (x : Expr) → is_alternative (with_flags_in mode x) ≡ is_alternative x
  same_alternative (Token t) = refl
  same_alternative (Form' kind s parts s' items end split open_break comments) =
      ap (λ z. is_kind kind k.Suite && z) (of_parts is_branch (made kind (each_with_flags_in mode parts) (each_with_flags_in mode items) end (settled_split_in mode (frame kind) kind split (items-the_row-Expr _ items) end) open_break comments) ∙ same_branch _ parts)

  same_line : (x : Expr) → is_whole_statement (with_flags_in mode x) ≡ is_whole_statement x
  same_line x = two (λ z w. z || w) (same_simple x) (two (λ z w. z && not w) (same_suite mode x) (two (λ z w. z || w) (same_begun (codes "elif") x) (same_begun (codes "else") x)))

  same_last : (m : _) (r : Row_of-Expr m) → else_last (each_with_flags_in mode r) ≡ else_last (items-the_row-Expr m r)
  same_last m end_of-Expr = refl
  same_last m (more_of-Expr x rest) = two (λ z w. z && w) (two (λ z w. z || w) (same_empty _ rest) (same_begun (codes "elif") x)) (same_last _ rest)

  same_fit : (head : Expr) (m : _) (r : Row_of-Expr m) → alternatives_fit (with_flags_in mode head) (each_with_flags_in mode r) ≡ alternatives_fit head (items-the_row-Expr m r)
  same_fit head m r = two (λ z w. z || w) (same_empty m r) (two (λ z w. bytes_eq z (codes "if") && w) (same_word head) (same_last m r))

  -- ---- rows

  same_begins : (m : _) (r : Row_of-Expr m) → operator_first (each_with_flags_in mode r) ≡ begins_operator r
  same_begins m end_of-Expr = refl
  same_begins m (more_of-Expr x rest) = same_operator x

  same_roots : (m : _) (r : Row_of-Expr m) → map root (each_with_flags_in mode r) ≡ roots r
  same_roots m end_of-Expr = refl
  same_roots m (more_of-Expr x rest) = two (λ z w. z ∷ w) (same_root mode x) (same_roots _ rest)

  pub bare_flags : (x : Expr) → IsBare x → IsBare (with_flags_in mode x)
  bare_flags x h = (same_comments mode x ∙ h.0, same_break mode x ∙ h.1)

  no_flags : (m : _) (r : Row_of-Expr m) → IsEmptyRow r → IsNone (each_with_flags_in mode r)
  no_flags m end_of-Expr h = tt
  no_flags m (more_of-Expr x rest) h = absurd h

  some_flags : (m : _) (r : Row_of-Expr m) → IsSomeRow r → is_empty (each_with_flags_in mode r) ≡ false
  some_flags m end_of-Expr h = absurd h
  some_flags m (more_of-Expr x rest) h = refl

  -- a frame whose parts are proper with their flags settled
  frame_flags : (f : Frame) (kind : Kind) (split : Bool) (is : List Expr) (end : List Bytes) (P P' Q Q' R R' I I' H H' S S' L L' O E N : Type 0) → (P → P') → (Q → Q') → (R → R') → (I → I') → (H → H') → (S → S') → (L → L') →
      in_frame f (P × Q × (end ≡ []) × (split ≡ false) × O) (R × I × E × N) (H × S × L × E × (split ≡ false) × N) →
      in_frame f (P' × Q' × (end ≡ []) × (settled_split_in mode f kind split is end ≡ false) × O) (R' × I' × E × N) (H' × S' × L' × E × (settled_split_in mode f kind split is end ≡ false) × N)
  frame_flags row kind split is end P P' Q Q' R R' I I' H H' S S' L L' O E N a b c d e f g h = (a h.0, b h.1, h.2, h.3, h.4)
  frame_flags (sequence opener closer) kind split is end P P' Q Q' R R' I I' H H' S S' L L' O E N a b c d e f g h = (c h.0, d h.1, h.2, h.3)
  frame_flags compound kind split is end P P' Q Q' R R' I I' H H' S S' L L' O E N a b c d e f g h = (e h.0, f h.1, g h.2, h.3, h.4, h.5)

  -- ---- by a grammar

  module _ (grammar : Kind → Shape) where
    mutual
      pub expr_flags : (here : Spot) (x : Expr) → ProperBy grammar here x → ProperBy grammar here (with_flags_in mode x)
      expr_flags here (Token t) h = h
      expr_flags here (Form' kind s parts s' items end split open_break comments) h =
          let is : List Expr = items-the_row-Expr _ items in
          let f : Form = made kind (each_with_flags_in mode parts) (each_with_flags_in mode items) end (settled_split_in mode (frame kind) kind split is end) open_break comments in
          form_proper_by grammar here f
          (subst (λ z. Fits IsNonterminal (grammar kind) (row_in (frame kind) z (map root (each_with_flags_in mode items)))) (sym (same_roots _ parts)) (subst (λ z. Fits IsNonterminal (grammar kind) (row_in (frame kind) (roots parts) z)) (sym (same_roots _ items)) h.0))
          (frame_flags (frame kind) kind split is end _ _ _ _ _ _ _ _ _ _ _ _ _ _ _ _ _ (λ k. row_flags (is_binary kind) here here _ parts k) (λ k. no_flags _ items k) (λ k. head_flags here _ parts k) (λ k. items_flags _ items k)
          (λ k. header_flags _ parts k) (λ k. some_flags _ items k) (λ k. lines_flags is_whole_statement same_line _ items k) h.1)

      row_flags : (binary : Bool) (outer here : Spot) (m : _) (r : Row_of-Expr m) → ProperRowBy grammar binary outer here r → ArePartsBy grammar binary outer here (each_with_flags_in mode r)
      row_flags binary outer here m end_of-Expr h = tt
      row_flags binary outer here m (more_of-Expr x rest) h = (
        expr_flags here x h.0,
        same_comments mode x ∙ h.1,
        λ b. let k = h.2 (sym (same_break mode x) ∙ b) in
            (two (λ z w. binary && (z && not w)) (same_operator x) (same_begins _ rest) ∙ k.0, same_spot outer here x ∙ k.1),
        subst (λ z. ArePartsBy grammar binary outer z (each_with_flags_in mode rest)) (sym (same_spot outer here x)) (row_flags binary outer (after_expr outer here x) _ rest h.3),
      )

      head_flags : (here : Spot) (m : _) (r : Row_of-Expr m) → ProperHeadBy grammar here r → AreHeadBy grammar here (each_with_flags_in mode r)
      head_flags here m end_of-Expr h = tt
      head_flags here m (more_of-Expr x rest) h = (expr_flags here x h.0, bare_flags x h.1, head_flags here _ rest h.2)

      items_flags : (m : _) (r : Row_of-Expr m) → ProperItemsBy grammar r → AreItemsBy grammar (each_with_flags_in mode r)
      items_flags m end_of-Expr h = tt
      items_flags m (more_of-Expr x rest) h = (expr_flags Within x h.0, subst AreComments (sym (same_comments mode x)) h.1, same_break mode x ∙ h.2, items_flags _ rest h.3)

      header_flags : (m : _) (r : Row_of-Expr m) → ProperHeaderBy grammar r → AreHeaderBy grammar (each_with_flags_in mode r)
      header_flags m end_of-Expr h = absurd h
      header_flags m (more_of-Expr head rest) h = (same_header head ∙ h.0, expr_flags Begins head h.1, same_comments mode head ∙ h.2, lines_flags is_alternative same_alternative _ rest h.3, same_fit head _ rest ∙ h.4)

      lines_flags : (test : Expr → Bool) → ((x : Expr) → test (with_flags_in mode x) ≡ test x) → (m : _) (r : Row_of-Expr m) → ProperLinesBy grammar test r → AreLinesBy grammar test (each_with_flags_in mode r)
      lines_flags test same m end_of-Expr h = tt
      lines_flags test same m (more_of-Expr x rest) h = (same x ∙ h.0, expr_flags Begins x h.1, subst AreComments (sym (same_comments mode x)) h.2, lines_flags test same _ rest h.3)

  -- ---- file values

  module _ (grammar : Grammar) where
    item_flags : (x : Item) → IsProperItemIn grammar x → IsProperItemIn grammar (item_with_flags_in mode x)
    item_flags (i.Block texts) h = h
    item_flags (i.Stmt x) h = (same_line x ∙ h.0, expr_flags (value_shape grammar) Begins x h.1, subst AreComments (sym (same_comments mode x)) h.2)

    pub flags_proper_in : (items : List Item) → IsProperIn grammar items → IsProperIn grammar (flags_in mode items)
    flags_proper_in items h = All-map (IsProperItemIn grammar) (item_with_flags_in mode) items (All-weaker (IsProperItemIn grammar) (λ x. IsProperItemIn grammar (item_with_flags_in mode x)) item_flags items h)

-- as lines are counted
pub flags_proper : (grammar : Grammar) (items : List Item) → IsProperIn grammar items → IsProperIn grammar (flags items)
flags_proper grammar items = flags_proper_in Lines.Counted grammar items
