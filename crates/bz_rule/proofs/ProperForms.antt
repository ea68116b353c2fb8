-- What may be in an expression's place: changed expressions keep rows, heads and items proper, and so the form around them.
use Rattle.bz_rule.proofs.Words.{[], ◌&&◌, ◌||◌, ◌∙◌, ◌∷◌, ◌≡◌, after_expr, All, ap, AreComments, AreHeadBy, AreItemsBy, ArePartsBy, begins_operator, Bool, build_grammar, Bytes, comments_of, compound, end_of-Expr, eqb-true, Expr, false, Fits, Form', form_proper_by, Frame, frame, framed, Grammar, has_break, has_kind, in_frame, is_binary, is_compound, is_comprehension, is_operator, is_simple, IsComment, IsEmptyRow, IsNone, IsNonterminal, items-the_row-Expr, items_of, Kind, List, map, more_of-Expr, not, operator_first, parts_of, ProperExpr, ProperHeadBy, ProperItemsBy, ProperRowBy, refl, root, roots, row, row_in, Row_of-Expr, same_kind, sequence, Spot, subst, sym, Token, true, true≢false, value_shape, Within}
use Rattle.bz_grammar.specs.declared.kind.Kind.TheVariants as k
use Rattle.bz_value.specs.declared.value.Expr.TheVariants as e
use Rattle.bz_value.specs.Statements.{has_suite, is_whole_statement}
use Rattle.bz_rule.proofs.ProperShapes.{AlikeRoots, same_root, Alike, kind_alike}
use Rattle.bz_rule.proofs.ProperShapes as shapes

-- ---- the rows of a proper form, as lists

begins_list : (m : _) (r : Row_of-Expr m) → begins_operator r ≡ operator_first (items-the_row-Expr m r)
begins_list m end_of-Expr = refl
begins_list m (more_of-Expr x rest) = refl

roots_list : (m : _) (r : Row_of-Expr m) → roots r ≡ map root (items-the_row-Expr m r)
roots_list m end_of-Expr = refl
roots_list m (more_of-Expr x rest) = ap (λ t. root x ∷ t) (roots_list _ rest)

none_list : (m : _) (r : Row_of-Expr m) → IsEmptyRow r → IsNone (items-the_row-Expr m r)
none_list m end_of-Expr h = tt
none_list m (more_of-Expr x rest) h = absurd h

abbrev pub with_lists : List Expr → List Expr → Expr → Expr
with_lists ps xs (Token t) = e.Token t
with_lists ps xs (Form' kind s parts s' items end split open_break comments) = e.Form (record { kind = kind; parts = ps; seq = record { items = xs; end = end; split = split }; open_break = open_break; comments = comments })

-- of what is no suite, whatever is said of suites
framed_plain : (f : Frame) (A B C C' : Type 0) → is_compound f ≡ false → in_frame f A B C → in_frame f A B C'
framed_plain row A B C C' plain h = h
framed_plain (sequence opener closer) A B C C' plain h = h
framed_plain compound A B C C' plain h = absurd (true≢false plain)

pub kind_plain : (own : Kind) → is_compound (frame own) ≡ false → (x : Expr) → has_kind own x ≡ true → has_suite x ≡ false
kind_plain own plain (Token t) is = refl
kind_plain own plain (Form' kind s parts s' items end split open_break comments) is = ap (λ (z : Kind). is_compound (frame z)) (same_kind kind own (eqb-true _ _ is)) ∙ plain

-- what is no suite is a statement by its kind alone
unseen : (simple suite other another : Bool) → suite ≡ false → (simple || (suite && other)) ≡ (simple || (suite && another))
unseen simple true other another plain = absurd (true≢false plain)
unseen simple false other another plain = refl

module _ (grammar : Grammar) where
  parts_list : (binary : Bool) (outer here : Spot) (m : _) (r : Row_of-Expr m) → ProperRowBy (value_shape grammar) binary outer here r → ArePartsBy (value_shape grammar) binary outer here (items-the_row-Expr m r)
  parts_list binary outer here m end_of-Expr h = tt
  parts_list binary outer here m (more_of-Expr x rest) h = (
    h.0,
    h.1,
    λ b. (ap (λ z. binary && (is_operator x && not z)) (sym (begins_list _ rest)) ∙ (h.2 b).0, (h.2 b).1),
    parts_list binary outer (after_expr outer here x) _ rest h.3,
  )

  head_list : (here : Spot) (m : _) (r : Row_of-Expr m) → ProperHeadBy (value_shape grammar) here r → AreHeadBy (value_shape grammar) here (items-the_row-Expr m r)
  head_list here m end_of-Expr h = tt
  head_list here m (more_of-Expr x rest) h = (h.0, h.1, head_list here _ rest h.2)

  items_list : (m : _) (r : Row_of-Expr m) → ProperItemsBy (value_shape grammar) r → AreItemsBy (value_shape grammar) (items-the_row-Expr m r)
  items_list m end_of-Expr h = tt
  items_list m (more_of-Expr x rest) h = (h.0, h.1, h.2, items_list _ rest h.3)

  -- What the definition requires of a form, by its kind, its parts and its items; of a suite not all.
  abbrev pub AsForm : Spot → Kind → List Expr → List Expr → List Bytes → Bool → Bool → Type 0
  AsForm here kind ps xs end split open_break =
      Fits IsNonterminal (value_shape grammar kind) (row_in (frame kind) (map root ps) (map root xs))
      × in_frame (frame kind)
      (ArePartsBy (value_shape grammar) (is_binary kind) here here ps × IsNone xs × (end ≡ []) × (split ≡ false) × (open_break ≡ true → is_comprehension kind ≡ true))
      (AreHeadBy (value_shape grammar) here ps × AreItemsBy (value_shape grammar) xs × All IsComment end × (open_break ≡ false))
      (Unit {0})

  -- the same of an expression, with these parts and items in place of its own
  abbrev pub AsFormWith : Spot → List Expr → List Expr → Expr → Type 0
  AsFormWith here ps xs (Token t) = Unit {0}
  AsFormWith here ps xs (Form' kind s parts s' items end split open_break comments) = AsForm here kind ps xs end split open_break

  pub opened : (here : Spot) (x : Expr) → ProperExpr grammar here x → AsFormWith here (parts_of x) (items_of x) x
  opened here (Token t) h = tt
  opened here (Form' kind s parts s' items end split open_break comments) h = (
    subst (λ xs. Fits IsNonterminal (value_shape grammar kind) (row_in (frame kind) xs (map root (items-the_row-Expr _ items)))) (roots_list _ parts) (subst (λ xs. Fits IsNonterminal (value_shape grammar kind) (row_in (frame kind) (roots parts) xs)) (roots_list _ items) h.0),
    framed (frame kind)
        (λ g. (parts_list (is_binary kind) here here _ parts g.0, none_list _ items g.1, g.2, g.3, g.4))
        (λ g. (head_list here _ parts g.0, items_list _ items g.1, g.2, g.3))
        (λ g. tt)
        h.1,
  )

  -- ---- in an expression's place

  -- What may be wherever an expression is: it is proper where that is, the table of shapes sees no difference, and
  -- its comments, its break and what comes after it are the same.
  pub record InPlace (x y : Expr) : Type 0 where
    pub proper : (here : Spot) → ProperExpr grammar here x → ProperExpr grammar here y
    pub roots : AlikeRoots (root x) (root y)
    pub comments : comments_of x ≡ comments_of y
    pub breaks : has_break x ≡ has_break y
    pub operator : is_operator x ≡ is_operator y
    pub following : (outer here : Spot) → after_expr outer here x ≡ after_expr outer here y
    pub statement : (here : Spot) → ProperExpr grammar here x → is_whole_statement x ≡ is_whole_statement y

  pub itself : (x : Expr) → InPlace x x
  itself x = record { proper = λ here h. h; roots = same_root (root x) (root x) refl; comments = refl; breaks = refl; operator = refl; following = λ outer here. refl; statement = λ here h. refl }

  pub data EachInPlace : List Expr → List Expr → Type 0 where
    none : EachInPlace [] []
    both : (x y : Expr) (xs ys : List Expr) → InPlace x y → EachInPlace xs ys → EachInPlace (x ∷ xs) (y ∷ ys)

  pub all_itself : (xs : List Expr) → EachInPlace xs xs
  all_itself [] = none
  all_itself (x ∷ xs) = both x x xs xs (itself x) (all_itself xs)

  pub each_mapped : (change : Expr → Expr) → ((x : Expr) → InPlace x (change x)) → (xs : List Expr) → EachInPlace xs (map change xs)
  each_mapped change h [] = none
  each_mapped change h (x ∷ xs) = both x (change x) xs (map change xs) (h x) (each_mapped change h xs)

  each_root : (xs ys : List Expr) → EachInPlace xs ys → Alike (map root xs) (map root ys)
  each_root xs ys none = shapes.over
  each_root xs ys (both x y xs' ys' r w) = shapes.more (root x) (root y) _ _ r.roots (each_root xs' ys' w)

  first_in_place : (xs ys : List Expr) → EachInPlace xs ys → operator_first xs ≡ operator_first ys
  first_in_place xs ys none = refl
  first_in_place xs ys (both x y xs' ys' r w) = r.operator

  parts_in_place : (binary : Bool) (outer here : Spot) (xs ys : List Expr) → EachInPlace xs ys → ArePartsBy (value_shape grammar) binary outer here xs → ArePartsBy (value_shape grammar) binary outer here ys
  parts_in_place binary outer here xs ys none h = tt
  parts_in_place binary outer here xs ys (both x y xs' ys' r w) h = (
    r.proper here h.0,
    sym r.comments ∙ h.1,
    λ b. let k = h.2 (r.breaks ∙ b) in (
      ap (λ z. binary && (z && not (operator_first ys'))) (sym r.operator) ∙ (ap (λ z. binary && (is_operator x && not z)) (sym (first_in_place xs' ys' w)) ∙ k.0),
      sym (r.following outer here) ∙ k.1,
    ),
    subst (λ z. ArePartsBy (value_shape grammar) binary outer z ys') (r.following outer here) (parts_in_place binary outer (after_expr outer here x) xs' ys' w h.3),
  )

  head_in_place : (here : Spot) (xs ys : List Expr) → EachInPlace xs ys → AreHeadBy (value_shape grammar) here xs → AreHeadBy (value_shape grammar) here ys
  head_in_place here xs ys none h = tt
  head_in_place here xs ys (both x y xs' ys' r w) h = (r.proper here h.0, (sym r.comments ∙ h.1.0, sym r.breaks ∙ h.1.1), head_in_place here xs' ys' w h.2)

  items_in_place : (xs ys : List Expr) → EachInPlace xs ys → AreItemsBy (value_shape grammar) xs → AreItemsBy (value_shape grammar) ys
  items_in_place xs ys none h = tt
  items_in_place xs ys (both x y xs' ys' r w) h = (r.proper Within h.0, subst AreComments r.comments h.1, sym r.breaks ∙ h.2, items_in_place xs' ys' w h.3)

  none_in_place : (xs ys : List Expr) → EachInPlace xs ys → IsNone xs → IsNone ys
  none_in_place xs ys none h = tt
  none_in_place xs ys (both x y xs' ys' r w) h = absurd h

  -- ---- a form with other parts and items

  -- where it is proper, it is no suite
  abbrev pub IsPlain : Expr → Type 0
  IsPlain x = (here : Spot) → ProperExpr grammar here x → has_suite x ≡ false

  pub form_with : (here : Spot) (ps xs : List Expr) (x : Expr) → IsPlain x → (AsFormWith here (parts_of x) (items_of x) x → AsFormWith here ps xs x) → ProperExpr grammar here x → ProperExpr grammar here (with_lists ps xs x)
  form_with here ps xs (Token t) plain h w = w
  form_with here ps xs (Form' kind s parts s' items end split open_break comments) plain h w =
      let g = h (opened here (Form' kind s parts s' items end split open_break comments) w) in
      form_proper_by (value_shape grammar) here (record { kind = kind; parts = ps; seq = record { items = xs; end = end; split = split }; open_break = open_break; comments = comments }) g.0
      (framed_plain (frame kind) _ _ _ _ (plain here w) g.1)

  pub form_in_place : (ps xs : List Expr) (x : Expr) → IsPlain x → ((here : Spot) → AsFormWith here (parts_of x) (items_of x) x → AsFormWith here ps xs x) → InPlace x (with_lists ps xs x)
  form_in_place ps xs (Token t) plain h = itself (Token t)
  form_in_place ps xs (Form' kind s parts s' items end split open_break comments) plain h = record {
    proper = λ here w. form_with here ps xs (Form' kind s parts s' items end split open_break comments) plain (h here) w;
    roots = same_root _ _ refl;
    comments = refl;
    breaks = refl;
    operator = refl;
    following = λ outer here. refl;
    statement = λ here w. unseen (is_simple kind) (is_compound (frame kind)) _ _ (plain here w);
  }

  lists_proper : (here : Spot) (ps xs : List Expr) (x : Expr) → EachInPlace (parts_of x) ps → EachInPlace (items_of x) xs → AsFormWith here (parts_of x) (items_of x) x → AsFormWith here ps xs x
  lists_proper here ps xs (Token t) v w h = tt
  lists_proper here ps xs (Form' kind s parts s' items end split open_break comments) v w h = (
    kind_alike grammar kind (frame kind) (map root (items-the_row-Expr _ parts)) (map root ps) (map root (items-the_row-Expr _ items)) (map root xs) (each_root _ ps v) (each_root _ xs w) h.0,
    framed (frame kind)
        (λ g. (parts_in_place (is_binary kind) here here _ ps v g.0, none_in_place _ xs w g.1, g.2, g.3, g.4))
        (λ g. (head_in_place here _ ps v g.0, items_in_place _ xs w g.1, g.2, g.3))
        (λ g. tt)
        h.1,
  )

  -- A form whose parts and items are replaced, each by what may be in its place, may be in the form's place.
  pub lists_in_place : (ps xs : List Expr) (x : Expr) → IsPlain x → EachInPlace (parts_of x) ps → EachInPlace (items_of x) xs → InPlace x (with_lists ps xs x)
  lists_in_place ps xs x plain v w = form_in_place ps xs x plain (λ here h. lists_proper here ps xs x v w h)

-- In a BUILD file nothing is a suite.
pub build_plain : (x : Expr) → IsPlain build_grammar x
build_plain (Token t) here h = refl
build_plain (Form' k.Suite s parts s' items end split open_break comments) here h = absurd h.0
build_plain (Form' _ s parts s' items end split open_break comments) here h = refl
