-- A form is proper where its parts are, stated for lists.
use Rattle.bz_value.proofs.Words.{[], ◌&&◌, ◌∙◌, ◌∷◌, ◌≡◌, after_expr, All, alternatives_fit, ap, AreComments, Begins, begins_operator, Bool, comments_of, compound, end_of-Expr, Expr, false, Fits, Form, Form', Frame, frame, has_break, has_header_kind, in_frame, is_alternative, is_binary, is_comprehension, is_operator, is_whole_statement, IsBare, IsComment, IsEmptyRow, IsNonterminal, IsSomeRow, items-the_row-Expr, items_hidden-the_row-Expr-0, Kind, List, map, more_of-Expr, not, ProperBy, ProperHeadBy, ProperHeaderBy, ProperItemsBy, ProperLinesBy, ProperRowBy, refl, root, roots, row, row_in, Row_of-Expr, sequence, Shape, Spot, subst, sym, Token, true, true≢false, Within}
use mathlib.Core.Former.{Count}
use Rattle.bz_value.specs.declared.value.Expr.TheVariants as e
use Rattle.bz_value.specs.{Comments.no_comments, Empty.is_empty}

-- ---- the definition's conditions on rows, of lists

abbrev pub operator_first : List Expr → Bool
operator_first [] = false
operator_first (x ∷ xs) = is_operator x

abbrev pub IsNone : List Expr → Type 0
IsNone [] = Unit {0}
IsNone (x ∷ xs) = ⊥

first_same : (m : _) (r : Row_of-Expr m) → begins_operator r ≡ operator_first (items-the_row-Expr m r)
first_same m end_of-Expr = refl
first_same m (more_of-Expr x rest) = refl

none_of : (m : _) (r : Row_of-Expr m) → IsNone (items-the_row-Expr m r) → IsEmptyRow r
none_of m end_of-Expr h = tt
none_of m (more_of-Expr x rest) h = absurd h

roots_of : (m : _) (r : Row_of-Expr m) → roots r ≡ map root (items-the_row-Expr m r)
roots_of m end_of-Expr = refl
roots_of m (more_of-Expr x rest) = ap (λ t. root x ∷ t) (roots_of _ rest)

-- ---- the rows of a form

abbrev pub parts_in : Expr → (m : Count) × Row_of-Expr m
parts_in (Form' kind s parts s' items end split open_break comments) = (_, parts)
parts_in (Token t) = (_, end_of-Expr)

abbrev pub items_in : Expr → (m : Count) × Row_of-Expr m
items_in (Form' kind s parts s' items end split open_break comments) = (_, items)
items_in (Token t) = (_, end_of-Expr)

pub framed : (f : Frame) {A A' B B' C C' : Type 0} → (A → A') → (B → B') → (C → C') → in_frame f A B C → in_frame f A' B' C'
framed row a b c h = a h
framed (sequence opener closer) a b c h = b h
framed compound a b c h = c h

some_of : (m : _) (r : Row_of-Expr m) → is_empty (items-the_row-Expr m r) ≡ false → IsSomeRow r
some_of m end_of-Expr h = absurd (true≢false h)
some_of m (more_of-Expr x rest) h = tt

-- ---- by a grammar

module _ (grammar : Kind → Shape) where
  abbrev pub ArePartsBy : Bool → Spot → Spot → List Expr → Type 0
  ArePartsBy binary outer here [] = Unit {0}
  ArePartsBy binary outer here (x ∷ xs) =
      ProperBy grammar here x × (comments_of x ≡ no_comments)
      × (has_break x ≡ true → ((binary && (is_operator x && not (operator_first xs))) ≡ true) × (after_expr outer here x ≡ Within))
      × ArePartsBy binary outer (after_expr outer here x) xs

  abbrev pub AreHeadBy : Spot → List Expr → Type 0
  AreHeadBy here [] = Unit {0}
  AreHeadBy here (x ∷ xs) = ProperBy grammar here x × IsBare x × AreHeadBy here xs

  abbrev pub AreItemsBy : List Expr → Type 0
  AreItemsBy [] = Unit {0}
  AreItemsBy (x ∷ xs) = ProperBy grammar Within x × AreComments (comments_of x) × (has_break x ≡ false) × AreItemsBy xs

  abbrev pub AreLinesBy : (Expr → Bool) → List Expr → Type 0
  AreLinesBy test [] = Unit {0}
  AreLinesBy test (x ∷ xs) = (test x ≡ true) × ProperBy grammar Begins x × AreComments (comments_of x) × AreLinesBy test xs

  abbrev pub AreHeaderBy : List Expr → Type 0
  AreHeaderBy [] = ⊥
  AreHeaderBy (head ∷ others) = (has_header_kind head ≡ true) × ProperBy grammar Begins head × (comments_of head ≡ no_comments) × AreLinesBy is_alternative others × (alternatives_fit head others ≡ true)

  row_of : (binary : Bool) (outer here : Spot) (m : _) (r : Row_of-Expr m) → ArePartsBy binary outer here (items-the_row-Expr m r) → ProperRowBy grammar binary outer here r
  row_of binary outer here m end_of-Expr h = tt
  row_of binary outer here m (more_of-Expr x rest) h = (
    h.0,
    h.1,
    subst (λ b. has_break x ≡ true → ((binary && (is_operator x && not b)) ≡ true) × (after_expr outer here x ≡ Within)) (sym (first_same _ rest)) h.2,
    row_of binary outer (after_expr outer here x) _ rest h.3,
  )

  head_of : (here : Spot) (m : _) (r : Row_of-Expr m) → AreHeadBy here (items-the_row-Expr m r) → ProperHeadBy grammar here r
  head_of here m end_of-Expr h = tt
  head_of here m (more_of-Expr x rest) h = (h.0, h.1, head_of here _ rest h.2)

  items_of : (m : _) (r : Row_of-Expr m) → AreItemsBy (items-the_row-Expr m r) → ProperItemsBy grammar r
  items_of m end_of-Expr h = tt
  items_of m (more_of-Expr x rest) h = (h.0, h.1, h.2, items_of _ rest h.3)

  lines_of : (test : Expr → Bool) (m : _) (r : Row_of-Expr m) → AreLinesBy test (items-the_row-Expr m r) → ProperLinesBy grammar test r
  lines_of test m end_of-Expr h = tt
  lines_of test m (more_of-Expr x rest) h = (h.0, h.1, h.2, lines_of test _ rest h.3)

  header_of : (m : _) (r : Row_of-Expr m) → AreHeaderBy (items-the_row-Expr m r) → ProperHeaderBy grammar r
  header_of m end_of-Expr h = absurd h
  header_of m (more_of-Expr head rest) h = (h.0, h.1, h.2, lines_of is_alternative _ rest h.3, h.4)

  -- what the definition requires of a form, by its frame
  abbrev pub AsRowBy : Spot → Form → Type 0
  AsRowBy here f =
      ArePartsBy (is_binary f.kind) here here f.parts × IsNone f.seq.items × (f.seq.end ≡ []) × (f.seq.split ≡ false) × (f.open_break ≡ true → is_comprehension f.kind ≡ true)

  abbrev pub AsSequenceBy : Spot → Form → Type 0
  AsSequenceBy here f = AreHeadBy here f.parts × AreItemsBy f.seq.items × All IsComment f.seq.end × (f.open_break ≡ false)

  abbrev pub AsCompoundBy : Form → Type 0
  AsCompoundBy f = AreHeaderBy f.parts × (is_empty f.seq.items ≡ false) × AreLinesBy is_whole_statement f.seq.items × All IsComment f.seq.end × (f.seq.split ≡ false) × (f.open_break ≡ false)

  pub form_proper_by : (here : Spot) (f : Form) → Fits IsNonterminal (grammar f.kind) (row_in (frame f.kind) (map root f.parts) (map root f.seq.items)) → in_frame (frame f.kind) (AsRowBy here f) (AsSequenceBy here f) (AsCompoundBy f) → ProperBy grammar here (e.Form f)
  form_proper_by here f h i =
      let ps = parts_in (e.Form f) in
      let qs = items_in (e.Form f) in
      let parts : items-the_row-Expr ps.0 ps.1 ≡ f.parts = items_hidden-the_row-Expr-0 f.parts in
      let items : items-the_row-Expr qs.0 qs.1 ≡ f.seq.items = items_hidden-the_row-Expr-0 f.seq.items in
      let first : roots ps.1 ≡ map root f.parts = roots_of ps.0 ps.1 ∙ ap (map root) parts in
      let then_ : roots qs.1 ≡ map root f.seq.items = roots_of qs.0 qs.1 ∙ ap (map root) items in (
        subst (λ xs. Fits IsNonterminal (grammar f.kind) (row_in (frame f.kind) xs (roots qs.1))) (sym first) (subst (λ ys. Fits IsNonterminal (grammar f.kind) (row_in (frame f.kind) (map root f.parts) ys)) (sym then_) h),
        framed (frame f.kind)
            (λ g. (row_of (is_binary f.kind) here here ps.0 ps.1 (subst (ArePartsBy (is_binary f.kind) here here) (sym parts) g.0), none_of qs.0 qs.1 (subst IsNone (sym items) g.1), g.2, g.3, g.4))
            (λ g. (head_of here ps.0 ps.1 (subst (AreHeadBy here) (sym parts) g.0), items_of qs.0 qs.1 (subst AreItemsBy (sym items) g.1), g.2, g.3))
            (λ g. (header_of ps.0 ps.1 (subst AreHeaderBy (sym parts) g.0), some_of qs.0 qs.1 (subst (λ z. is_empty z ≡ false) (sym items) g.1), lines_of is_whole_statement qs.0 qs.1 (subst (AreLinesBy is_whole_statement) (sym items) g.2), g.3, g.4, g.5))
            i,
      )
