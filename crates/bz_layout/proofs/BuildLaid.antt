-- What is laid out of a value of a BUILD file is a tree of one: each node is of the kind of its form, or is a line.
use Rattle.bz_layout.proofs.Words.{[], ◌++◌, ◌<◌, ◌∙◌, ◌∷◌, ◌≡◌, ℕ, AllByRecursion, and_parts, arith, before_next, Begins, BuildLayoutIsBuild, Bytes, comment_lines, comments_of, end_of-Expr, Expr, false, Form', frame, has_simple_kind, has_suite, InExpr, inl, inner_kind, inr, is_compound, is_simple, is_whole_statement, IsBuildItem, IsBuildPart, Item, Item as i, Kind, Kind as k, kind_number, laid, line_shape, Lines, lines_from, List, map, more_of-Expr, narrow_expr, newline_part, no_such, Node, or_cases, part_of, parts_of, piece_part, ProperBy, recursion_from_All, refl, Row_of-Expr, subst, sym, Token, true, true≢false, whole_shape}
use Rattle.bz_grammar.specs.declared.tree.Part.TheVariants as p
use Rattle.bz_grammar.proofs.Newer.{build_node}
use Rattle.bz_value.specs.BuildValues.{IsBuildExpr, AreBuildExprs}
use Rattle.bz_layout.proofs.{Fitted.Child, LegalParts.each_in, Made.laid_plain, Made.plain_first}

-- ---- no suite is in a BUILD file

old_frame : (kind : Kind) → kind_number kind < kind_number k.Def → is_compound (frame kind) ≡ false
old_frame k.Suite h = absurd (omega (arith, h))
old_frame _ h = refl

pub build_plain : (x : Expr) → IsBuildExpr x → has_suite x ≡ false
build_plain (Token t) h = refl
build_plain (Form' kind s parts s' items end split open_break comments) h = old_frame kind h.0

-- a statement on one line
pub simple_expr : (x : Expr) → has_simple_kind x ≡ true → InExpr x × (has_suite x ≡ false)
simple_expr (Token t) h = no_such h
simple_expr (Form' kind s parts s' items end split open_break comments) h = by_kind kind h
  where
    by_kind : (kind : Kind) → is_simple kind ≡ true → (inner_kind kind ≡ true) × (is_compound (frame kind) ≡ false)
    by_kind k.Bare h = (refl, refl)
    by_kind k.Assign h = (refl, refl)
    by_kind k.Load h = (refl, refl)
    by_kind k.Return h = (refl, refl)
    by_kind k.Flow h = (refl, refl)
    by_kind _ h = no_such h

-- so a statement of a BUILD file is in a line
pub build_line : (x : Expr) → is_whole_statement x ≡ true → IsBuildExpr x → ProperBy whole_shape Begins x → ProperBy line_shape Begins x
build_line x e b h = elim (or_cases (has_simple_kind x) _ e) [
  | inl simple ↦ narrow_expr Begins x (simple_expr x simple).0 h
  | inr suite ↦ absurd (true≢false (sym (and_parts (has_suite x) _ suite).0 ∙ build_plain x b))
]

-- ---- what is laid out

abbrev AreBuildLaid : List Child → Type 0
AreBuildLaid xs = AllByRecursion (λ x. (gap : Bytes) (m : ℕ) → IsBuildPart (x.1 gap m)) xs

mutual
  build_part : (x : Expr) → IsBuildExpr x → (gap : Bytes) (m : ℕ) → IsBuildPart (part_of Lines.Counted x gap m)
  build_part (Token t) h gap m = tt
  build_part (Form' kind s parts s' items end split open_break comments) h gap m =
      let n : Node = record { kind = kind; parts = map piece_part (laid Lines.Counted kind split open_break gap m (parts_of Lines.Counted parts) (parts_of Lines.Counted items) end) } in
      subst (λ f. IsBuildPart (f gap m)) (sym (laid_plain Lines.Counted (Form' kind s parts s' items end split open_break comments) (old_frame kind h.0)))
      (build_node (p.Node n) n refl h.0 (each_in Lines.Counted IsBuildPart (λ gap n. tt) (frame kind) kind split open_break gap m (parts_of Lines.Counted parts) (parts_of Lines.Counted items) end (build_row _ parts h.1) (build_row _ items h.2)))

  build_row : (m : _) (r : Row_of-Expr m) → AreBuildExprs r → AreBuildLaid (parts_of Lines.Counted r)
  build_row m end_of-Expr h = tt
  build_row m (more_of-Expr x rest) h = (build_part x h.0, build_row _ rest h.1)

build_lines : (items : List Item) → AllByRecursion IsBuildItem items → (gap : Bytes) → AllByRecursion IsBuildPart (lines_from gap items)
build_lines [] h gap = (tt, tt)
build_lines (i.Block texts ∷ items) h gap = build_lines items h.1 ((gap ++ comment_lines texts) ++ before_next (i.Block texts) items)
build_lines (i.Stmt x ∷ items) h gap =
    let n : Node = record { kind = k.Line; parts = part_of Lines.Counted x (gap ++ comment_lines (comments_of x).before) 0 ∷ newline_part (comments_of x).suffix ∷ [] } in
    subst (AllByRecursion IsBuildPart) (sym (plain_first Lines.Counted gap x items (build_plain x h.0)))
    (build_node (p.Node n) n refl (omega arith) (build_part x h.0 _ 0, (tt, tt)), build_lines items h.1 (before_next (i.Stmt x) items))

pub build_laid_out : BuildLayoutIsBuild
build_laid_out items h = build_lines items (recursion_from_All IsBuildItem items h) []
