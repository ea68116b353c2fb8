-- What is read of a part that is a node, by the list of its parts; and of headers.
use Rattle.bz_hosts.proofs.Words.{[], ◌<◌, ◌∙◌, ◌∷◌, ◌≡◌, all_in, ap, arith, branches, Bytes, cond-false, cond-true, drop, drop-map, end_of-Part, exprs_in, false, first_seen_gap, GapLine, get_or, indent, indented_lines_before, is_header, is_kind, Item as i, items-the_row-Part, items_of_row, Kind as k, length, line_read, lines_of, List, map, margin_of, more_of-Part, Node, Node', None, only_comment, Part, refl, row_of, Row_of-Part, Seen, seen, seen_row, stated, stated_row, statement, statement_read, statements_in, suc, suffix_before, suite_in, suite_read, SuiteRead, sym, true, zero, ℕ}
use Rattle.bz_hosts.proofs.NodeViews.{seen_parts}
use Rattle.bz_grammar.specs.declared.tree.Part.TheVariants as p

pub stated_rows : (m : _) (r : Row_of-Part m) → stated_row r ≡ map stated (items-the_row-Part m r)
stated_rows m end_of-Part = refl
stated_rows m (more_of-Part x rest) = ap (λ t. stated x ∷ t) (stated_rows _ rest)

stated_parts : (n : Node) → stated_row (row_of n).1 ≡ map stated n.parts
stated_parts n = stated_rows _ (row_of n).1 ∙ ap (map stated) (items_of_row n)

pub statement_Node : (n : Node) → (stated (p.Node n)).statement ≡ statement_read n.kind (map stated n.parts)
statement_Node n = ap (statement_read n.kind) (stated_parts n)

pub suite_Node : (n : Node) → (stated (p.Node n)).suite ≡ suite_in n.kind (map stated n.parts)
suite_Node n = ap (suite_in n.kind) (stated_parts n)

pub suffix_Node : (n : Node) → (stated (p.Node n)).suffix ≡ suffix_before n.kind (map stated n.parts)
suffix_Node n = ap (suffix_before n.kind) (stated_parts n)

pub stated_part : (x : Part) → (stated x).part ≡ seen x
stated_part (p.Leaf l) = refl
stated_part (Node' kind size row) = refl

-- the parts of a row are seen as parts of a row
pub parts_seen : (xs : List Part) → map (λ x. x.part) (map stated xs) ≡ map seen xs
parts_seen [] = refl
parts_seen (x ∷ xs) = ap (λ s. s ∷ map (λ y. y.part) (map stated xs)) (stated_part x) ∙ ap (λ t. seen x ∷ t) (parts_seen xs)

pub row_parts : (m : _) (r : Row_of-Part m) → seen_row r ≡ map (λ x. x.part) (stated_row r)
row_parts m end_of-Part = refl
row_parts m (more_of-Part x rest) = ap (λ s. s ∷ seen_row rest) (sym (stated_part x)) ∙ ap (λ t. (stated x).part ∷ t) (row_parts _ rest)

-- the lines before the first of these parts
pub lines_first : (ps : List Part) → lines_of (first_seen_gap (map seen ps)) ≡ indented_lines_before (map stated ps) []
lines_first [] = refl
lines_first (x ∷ ps) = sym (ap (λ s. lines_of s.gap) (stated_part x))

-- the items of a line are statements
pub all_simple : (above : List Bytes) (ss : List Seen) → map i.Stmt (exprs_in (statements_in above ss)) ≡ statements_in above ss
all_simple above [] = refl
all_simple above (s ∷ []) = refl
all_simple above (s ∷ mark ∷ []) = refl
all_simple above (s ∷ mark ∷ t ∷ []) = refl
all_simple above (s ∷ mark ∷ t ∷ u ∷ ss) = ap (λ items. statement above None s ∷ items) (all_simple [] (t ∷ u ∷ ss))

-- ---- statements by their kinds

module _ (n : Node) (above : List Bytes) (after : List GapLine) where
  pub line_is : is_kind n.kind k.Line ≡ true → line_read (map seen n.parts) above after ≡ statement_read n.kind (map stated n.parts) above after
  line_is e = ap (λ t. line_read t above after) (sym (parts_seen n.parts)) ∙ sym (cond-true (is_kind n.kind k.Line) _ _ e)

  pub compound_is : is_kind n.kind k.Line ≡ false → is_header n.kind ≡ true → branches true n.kind [] above after (map stated n.parts) after ≡ statement_read n.kind (map stated n.parts) above after
  compound_is e f = sym (cond-false (is_kind n.kind k.Line) _ _ e ∙ cond-true (is_header n.kind) _ _ f)

-- ---- what the code looks at

-- the gap of the part with this index
pub lines_of_part : (ps : List Part) (at : ℕ) (x : Part) (g after : Bytes) → at < length ps → x ≡ get_or ps at x → g ≡ (seen x).gap → lines_of g ≡ indented_lines_before (map stated (drop at ps)) (lines_of after)
lines_of_part [] at x g after l e f = absurd (omega arith)
lines_of_part (y ∷ ps) zero x g after l e f = ap lines_of (f ∙ (ap (λ z. (seen z).gap) e ∙ sym (ap (λ s. s.gap) (stated_part y))))
lines_of_part (y ∷ ps) (suc at) x g after l e f = lines_of_part ps at x g after (omega arith) e f

pub margin_is : (ps : List Part) (gap : Bytes) (m : ℕ) → m ≡ length (indent gap) → gap ≡ first_seen_gap (map seen ps) → m ≡ margin_of (map stated ps)
margin_is ps gap m e i = e ∙ ap (λ g. length (indent g)) (i ∙ ap first_seen_gap (sym (parts_seen ps)))

-- ---- a part that is this node

-- the comment on the line of a suite's header
pub suffix_of : (x : Part) (n : Node) (gap : Bytes) → x ≡ p.Node n → gap ≡ (seen x).gap → is_kind n.kind k.Suite ≡ true → only_comment (all_in gap) ≡ (stated x).suffix
suffix_of x n gap is i e =
    ap (λ g. only_comment (all_in g)) (i ∙ (ap (λ y. (seen y).gap) is ∙ ap first_seen_gap (seen_parts n ∙ sym (parts_seen n.parts))))
    ∙ sym (ap (λ y. (stated y).suffix) is ∙ (suffix_Node n ∙ cond-true (is_kind n.kind k.Suite) _ _ e))

module _ (x : Part) (n : Node) (ps : List Part) (is : x ≡ p.Node n) (parts : ps ≡ n.parts) (after : List GapLine) where
  module _ (above : List Bytes) where
    as_statement : statement_read n.kind (map stated n.parts) above after ≡ (stated x).statement above after
    as_statement = sym (ap (λ y. (stated y).statement above after) is ∙ ap (λ f. f above after) (statement_Node n))

    pub line_of : is_kind n.kind k.Line ≡ true → line_read (map seen ps) above after ≡ (stated x).statement above after
    line_of e = ap (λ qs. line_read (map seen qs) above after) parts ∙ (line_is n above after e ∙ as_statement)

    pub compound_of : is_kind n.kind k.Line ≡ false → is_header n.kind ≡ true → branches true n.kind [] above after (map stated ps) after ≡ (stated x).statement above after
    compound_of e f = ap (λ qs. branches true n.kind [] above after (map stated qs) after) parts ∙ (compound_is n above after e f ∙ as_statement)

  as_suite : suite_in n.kind (map stated n.parts) after ≡ (stated x).suite after
  as_suite = sym (ap (λ y. (stated y).suite after) is ∙ ap (λ f. f after) (suite_Node n))

  -- a line in the place of a suite
  pub line_as_suite : is_kind n.kind k.Line ≡ true → ◌≡◌ {A = SuiteRead} (((line_read (map seen ps) [] after).0, []), (line_read (map seen ps) [] after).1) ((stated x).suite after)
  line_as_suite e =
      ap (λ t. (((line_read t [] after).0, []), (line_read t [] after).1)) (ap (map seen) parts ∙ sym (parts_seen n.parts)) ∙ (sym (cond-true (is_kind n.kind k.Line) _ _ e) ∙ as_suite)

  pub suite_of : (own : List Part) → own ≡ drop 1 ps → is_kind n.kind k.Line ≡ false → is_kind n.kind k.Suite ≡ true → suite_read (map stated own) after ≡ (stated x).suite after
  suite_of own i e f =
      ap (λ t. suite_read t after) (ap (map stated) (i ∙ ap (drop 1) parts) ∙ sym (drop-map stated 1 n.parts))
      ∙ (sym (cond-false (is_kind n.kind k.Line) _ _ e ∙ cond-true (is_kind n.kind k.Suite) _ _ f) ∙ as_suite)
