-- The hosts in a line of statements, by their places.
use Rattle.bz_hosts.proofs.Words.{[], ◌+◌, ◌<◌, ◌∙◌, ◌∷◌, ◌≡◌, AllByRecursion, ap, append-nil, arith, as_bzl, Bytes, CommentPlace, comments_at, comments_from, Expr, exprs_in, flat_map, flat_map-map, Hosted, hosted_at, hosts_from, inside_item, Item as i, leaves_part, LegalBy, length, line_read, line_shape, lines_of, List, map, measured, None, outside, Page, Part, ReadStatements, refl, Region, Seen, seen, simple_line, sizes, stated, statement_hosts, statements_in, Stretch, subst, suc, sym, texts_at, ℕ}
use Rattle.bz_hosts.proofs.{Alternating.Alternating, Alternating.Regions, Alternating.hosts_inside, Claim.part_texts, SuiteReads.gap_outside, SuiteReads.outside_none, SuiteReads.group_above, Gathered.key, Gathered.GapPlaces, Gathered.texts_joined, Insides.inside_list, Nodes.part_regions, Parts.Solid, Parts.part_solid, Parts.after_parts, Parts.parts_from, QuietGaps.Quiet, QuietGaps.Statements, QuietGaps.line_alternating, SeenParts.all_mapped, Statements.LineTexts, Statements.line_texts, Texts.InHost, SuiteLines.gap_of, SuiteLines.Lines, SuiteLines.with_left, Stated.parts_seen, Stated.all_simple, HostPieces.comments, HostPieces.Extent, HostPieces.At}
use Rattle.bz_grammar.specs.Shapes as s
use Rattle.bz_hosts.proofs.Around as r

-- ---- parts of a line, or of a header

abbrev pub AllLegal : List Part → Type 0
AllLegal xs = AllByRecursion (LegalBy line_shape) xs

pub all_solid : (xs : List Part) → AllLegal xs → AllByRecursion Solid xs
all_solid xs h = all_mapped (LegalBy line_shape) Solid (λ x l. part_solid x (as_bzl x l)) xs h

pub all_regions : (xs : List Part) → AllLegal xs → AllByRecursion Regions xs
all_regions xs h = all_mapped (LegalBy line_shape) Regions part_regions xs h

pub all_texts : (all : List Region) (xs : List Part) → AllLegal xs → AllByRecursion (InHost all) xs
all_texts all xs h = all_mapped (LegalBy line_shape) (InHost all) (part_texts all) xs h

-- ---- the hosts in expressions one after the other

-- they are the items of a file
pub file_inside : (xs : List Expr) → flat_map inside_item (map i.Stmt xs) ≡ inside_list xs
file_inside xs = flat_map-map inside_item i.Stmt xs

-- what is read of statements, as hosts
abbrev pub hosts_read : ReadStatements (List Expr) → List Hosted × Lines
hosts_read r' = with_left (inside_list r'.0) r'.1

-- the statements of a line
pub simple_inside : (group : List Bytes) (ss : List Seen) → inside_list (exprs_in (statements_in group ss)) ≡ flat_map inside_item (statements_in group ss)
simple_inside group ss = sym (file_inside (exprs_in (statements_in group ss))) ∙ ap (flat_map inside_item) (all_simple group ss)

-- ---- a line

module _ (page : Page) (n : ℕ) (group : List Bytes) (x : Part) (xs : List Part) (fits : Statements (x ∷ xs)) (quiet : Quiet (x ∷ xs)) (legal : AllLegal (x ∷ xs)) where
  abbrev ys : List Part
  ys = x ∷ xs

  abbrev e : ℕ
  e = n + sizes (map measured ys)

  abbrev there : List Region
  there = hosts_from s.semicolon n (map measured ys)

  alternating : Alternating s.semicolon ys
  alternating = line_alternating ys fits

  pub within : r.AllInside n e there
  within = hosts_inside s.semicolon n ys alternating (all_regions ys legal)

  pub line : r.SeesAt page.regions None (suc n) e there → LineTexts page.regions n e (after_parts n ys) there (statements_in [] (map seen ys))
  line sees = line_texts page.regions n e ys refl alternating quiet (all_regions ys legal) (all_texts page.regions ys legal) sees

  module _ (sees : r.SeesAt page.regions None n e there) where
    first_gap : GapPlaces page.regions n outside outside
    first_gap =
        let some = (part_regions x legal.0).some in
        gap_outside page.regions n n (r.sees_before page.regions n None e n e n [] there within (omega arith) (omega arith) (omega arith) (sees n (omega arith) (omega arith)))

    all_mine : (q : CommentPlace) → 0 < key q → texts_at page.regions q (comments_from n (flat_map leaves_part ys)) ≡ texts_at page.regions q (after_parts n ys)
    all_mine q d = rw (parts_from n ys (all_solid ys legal), texts_joined page.regions q (comments_at n (seen x).gap) (after_parts n ys), outside_none page.regions n (seen x).gap first_gap q d) refl

  abbrev sts : List Stretch
  sts = simple_line n there ∷ []

  line_hosts : At page n e (flat_map leaves_part ys) sts → inside_list (exprs_in (statements_in group (map seen ys))) ≡ statement_hosts page group sts
  line_hosts z =
      let sees : r.SeesAt page.regions None n e there = subst (r.SeesAt page.regions None n e) (append-nil there) z.regions in
      let found : map (hosted_at page.regions (comments page)) there ≡ flat_map inside_item (statements_in [] (map seen ys)) =
      (line (λ q v w. sees q (omega arith) w)).found (comments page) (λ q f. z.texts q f ∙ all_mine sees q (omega arith)) in
      simple_inside group (map seen ys) ∙ rw (found, group_above group ys, append-nil (flat_map inside_item (statements_in group (map seen ys)))) refl

  pub line_extent : 0 < length (flat_map leaves_part ys) → n + length (flat_map leaves_part ys) ≡ e → Extent page n e (flat_map leaves_part ys) sts
  line_extent some up = record {
    some = some;
    up = up;
    bounds = tt;
    within = subst (r.AllInside n e) (sym (append-nil there)) within;
    outer = λ sees q d o.
        let sees' : r.SeesAt page.regions None n e there = subst (r.SeesAt page.regions None n e) (append-nil there) sees in
        all_mine sees' q d ∙ (line (λ q v w. sees' q (omega arith) w)).outer q d o;
  }

  pub line_piece_hosts : (z : At page n e (flat_map leaves_part ys) sts) → inside_list (line_read (map (λ y. y.part) (map stated ys)) group (lines_of (gap_of z.back))).0 ≡ statement_hosts page group sts
  line_piece_hosts z = ap (λ ss. inside_list (exprs_in (statements_in group ss))) (parts_seen ys) ∙ line_hosts z
