-- A value is proper by the grammar of BUILD files exactly where it is proper and has none of the newer kinds.
use Rattle.bz_value.proofs.Words.{[], ◌<◌, ◌∷◌, ◌≡◌, after_expr, All-from_recursion, AllByRecursion, arith, Begins, Bool, build_grammar, compound, end_of-Expr, Expr, Fits, Form', Frame, frame, in_frame, is_binary, is_inner_frame, IsEmptyRow, IsNonterminal, IsProperItem, IsProperItemIn, Kind, Kind as k, List, more_of-Expr, Part, ProperBy, ProperHeadBy, ProperItemsBy, ProperRowBy, recursion_from_All, refl, row, Row_of-Expr, sequence, Shape, Spot, Token, true, value_shape, whole_shape, Within}
use Rattle.bz_grammar.specs.Kinds.{kind_number}
use Rattle.bz_grammar.proofs.Balance.{no_such}
use Rattle.bz_value.specs.declared.value.Item.{Item}
use Rattle.bz_value.specs.declared.value.Item.TheVariants as i
use Rattle.bz_value.specs.BuildValues.{AreBuildExprs, BuildValuesAreProper, IsBuildExpr, IsBuildItem}
use Rattle.bz_value.proofs.Wider.{IsWider, wider_expr}

-- ---- shapes

abbrev build_shape : Kind → Shape
build_shape = value_shape build_grammar

wider : IsWider build_shape whole_shape
wider k.Def xs h = absurd h
wider k.Param xs h = absurd h
wider k.IfStmt xs h = absurd h
wider k.ForStmt xs h = absurd h
wider k.Suite xs h = absurd h
wider k.Return xs h = absurd h
wider k.Flow xs h = absurd h
wider k.Lambda xs h = absurd h
wider _ xs h = h

-- what has a shape in BUILD files is of a kind before Def
older : (kind : Kind) (xs : List Part) → Fits IsNonterminal (build_shape kind) xs → kind_number kind < kind_number k.Def
older k.Def xs h = absurd h
older k.Param xs h = absurd h
older k.IfStmt xs h = absurd h
older k.ForStmt xs h = absurd h
older k.Suite xs h = absurd h
older k.Return xs h = absurd h
older k.Flow xs h = absurd h
older k.Lambda xs h = absurd h
older _ xs h = omega arith

narrow : (kind : Kind) (xs : List Part) → kind_number kind < kind_number k.Def → Fits IsNonterminal (whole_shape kind) xs → Fits IsNonterminal (build_shape kind) xs
narrow k.Def xs lt h = absurd (omega (arith, lt))
narrow k.Param xs lt h = absurd (omega (arith, lt))
narrow k.IfStmt xs lt h = absurd (omega (arith, lt))
narrow k.ForStmt xs lt h = absurd (omega (arith, lt))
narrow k.Suite xs lt h = absurd (omega (arith, lt))
narrow k.Return xs lt h = absurd (omega (arith, lt))
narrow k.Flow xs lt h = absurd (omega (arith, lt))
narrow k.Lambda xs lt h = absurd (omega (arith, lt))
narrow _ xs lt h = h

-- ---- frames

-- of these kinds none is a suite
no_suite : (kind : Kind) → kind_number kind < kind_number k.Def → is_inner_frame (frame kind) ≡ true
no_suite k.Suite lt = absurd (omega (arith, lt))
no_suite _ lt = refl

inner_framed : (f : Frame) {A A' B B' : Type 0} (C C' : Type 0) → is_inner_frame f ≡ true → (A → A') → (B → B') → in_frame f A B C → in_frame f A' B' C'
inner_framed row C C' i a b h = a h
inner_framed (sequence opener closer) C C' i a b h = b h
inner_framed compound C C' i a b h = no_such i

of_all : (f : Frame) (A : Type 0) → in_frame f A A A → A
of_all row A h = h
of_all (sequence opener closer) A h = h
of_all compound A h = h

-- ---- proper, and without newer kinds

mutual
  narrow_expr : (here : Spot) (x : Expr) → ProperBy whole_shape here x → IsBuildExpr x → ProperBy build_shape here x
  narrow_expr here (Token t) h b = h
  narrow_expr here (Form' kind s parts s' items end split open_break comments) h b = (
    narrow kind _ b.0 h.0,
    inner_framed (frame kind) _ _ (no_suite kind b.0)
        (λ g. (narrow_row (is_binary kind) here here _ parts g.0 b.1, g.1, g.2, g.3, g.4))
        (λ g. (narrow_head here _ parts g.0 b.1, narrow_items _ items g.1 b.2, g.2, g.3))
        h.1,
  )

  narrow_row : (binary : Bool) (outer here : Spot) (m : _) (r : Row_of-Expr m) → ProperRowBy whole_shape binary outer here r → AreBuildExprs r → ProperRowBy build_shape binary outer here r
  narrow_row binary outer here m end_of-Expr h b = tt
  narrow_row binary outer here m (more_of-Expr x rest) h b = (narrow_expr here x h.0 b.0, h.1, h.2, narrow_row binary outer (after_expr outer here x) _ rest h.3 b.1)

  narrow_head : (here : Spot) (m : _) (r : Row_of-Expr m) → ProperHeadBy whole_shape here r → AreBuildExprs r → ProperHeadBy build_shape here r
  narrow_head here m end_of-Expr h b = tt
  narrow_head here m (more_of-Expr x rest) h b = (narrow_expr here x h.0 b.0, h.1, narrow_head here _ rest h.2 b.1)

  narrow_items : (m : _) (r : Row_of-Expr m) → ProperItemsBy whole_shape r → AreBuildExprs r → ProperItemsBy build_shape r
  narrow_items m end_of-Expr h b = tt
  narrow_items m (more_of-Expr x rest) h b = (narrow_expr Within x h.0 b.0, h.1, h.2, narrow_items _ rest h.3 b.1)

-- ---- and the other way

none_build : (m : _) (r : Row_of-Expr m) → IsEmptyRow r → AreBuildExprs r
none_build m end_of-Expr h = tt
none_build m (more_of-Expr x rest) h = absurd h

mutual
  build_expr : (here : Spot) (x : Expr) → ProperBy build_shape here x → IsBuildExpr x
  build_expr here (Token t) h = tt
  build_expr here (Form' kind s parts s' items end split open_break comments) h =
      let w : AreBuildExprs parts × AreBuildExprs items = of_all (frame kind) (AreBuildExprs parts × AreBuildExprs items) (
      inner_framed (frame kind) _ _ (no_suite kind (older kind _ h.0))
      (λ g. (build_row (is_binary kind) here here _ parts g.0, none_build _ items g.1))
      (λ g. (build_head here _ parts g.0, build_items _ items g.1))
      h.1) in
      (older kind _ h.0, w.0, w.1)

  build_row : (binary : Bool) (outer here : Spot) (m : _) (r : Row_of-Expr m) → ProperRowBy build_shape binary outer here r → AreBuildExprs r
  build_row binary outer here m end_of-Expr h = tt
  build_row binary outer here m (more_of-Expr x rest) h = (build_expr here x h.0, build_row binary outer (after_expr outer here x) _ rest h.3)

  build_head : (here : Spot) (m : _) (r : Row_of-Expr m) → ProperHeadBy build_shape here r → AreBuildExprs r
  build_head here m end_of-Expr h = tt
  build_head here m (more_of-Expr x rest) h = (build_expr here x h.0, build_head here _ rest h.2)

  build_items : (m : _) (r : Row_of-Expr m) → ProperItemsBy build_shape r → AreBuildExprs r
  build_items m end_of-Expr h = tt
  build_items m (more_of-Expr x rest) h = (build_expr Within x h.0, build_items _ rest h.3)

-- ---- items

wide_item : (item : Item) → IsProperItemIn build_grammar item → IsProperItem item × IsBuildItem item
wide_item (i.Block lines) h = (h, tt)
wide_item (i.Stmt x) h = ((h.0, wider_expr build_shape whole_shape wider Begins x h.1, h.2), build_expr Begins x h.1)

narrow_item : (item : Item) → IsProperItem item → IsBuildItem item → IsProperItemIn build_grammar item
narrow_item (i.Block lines) h b = h
narrow_item (i.Stmt x) h b = (h.0, narrow_expr Begins x h.1 b, h.2)

all_wide : (items : List Item) → AllByRecursion (IsProperItemIn build_grammar) items → AllByRecursion IsProperItem items × AllByRecursion IsBuildItem items
all_wide [] h = (tt, tt)
all_wide (item ∷ items) h = let one = wide_item item h.0 in let more = all_wide items h.1 in ((one.0, more.0), (one.1, more.1))

all_narrow : (items : List Item) → AllByRecursion IsProperItem items → AllByRecursion IsBuildItem items → AllByRecursion (IsProperItemIn build_grammar) items
all_narrow [] h b = tt
all_narrow (item ∷ items) h b = (narrow_item item h.0 b.0, all_narrow items h.1 b.1)

pub build_values_proper : BuildValuesAreProper
build_values_proper items = (
  (λ h.
      let w = all_wide items (recursion_from_All (IsProperItemIn build_grammar) items h) in
      (All-from_recursion IsProperItem items w.0, All-from_recursion IsBuildItem items w.1)),
  (λ h. All-from_recursion (IsProperItemIn build_grammar) items (all_narrow items (recursion_from_All IsProperItem items h.0) (recursion_from_All IsBuildItem items h.1))),
)
