-- Statements as pieces with the hosts in them, and the law of hosts: in what a legal tree says each comment is where its place
-- in the text says.
use Rattle.bz_hosts.proofs.Words.{[], ◌++◌, ◌+◌, ◌∙◌, ◌∷◌, ◌≡◌, all_but_last, AllByRecursion, Along, ap, append-nil, append_assoc, arith, as_bzl, AtLeaves, AtParts, bare_lines, Begins, blocks, branches, Bytes, bzl_shape, comments_at, comments_in, comments_of, done, drop, each_legal, end_of-Part, Expr, false, first_indent, Fits, flat_map, flat_map-append, GapLine, groups_of, Hosted, hosted_by, hosted_from, hosts_alone, HostsByPlace, in_compound, in_statement, indent, indented_lines_before, inl, inr, inside_expr, inside_item, is_header, IsNonterminal, Item, Item as i, items-the_row-Part, items_from, Kind, Kind as k, last_group, Leaf, leaves_of, leaves_part, leaves_row, left_above, left_by, LegalBy, LegalPart, LegalRow, length, line_shape, lines_before, lines_of, List, map, margin_of, Measured, measured, measured_row, more_of-Part, no_such, Node', nonterminal_has_kind, one_by_one, Page, Part, Part as p, parts_of_row, ReadStatements, refl, regions_in, right_above, Row_of-Part, Several, sizes, Stands, Stated, stated, stated_row, statement_hosts, statement_read, Stretch, subst, suc, suffix_before, Suite, suite_in, suite_there, sym, texts_at, tok, true, walked, ℕ}
use Rattle.bz_hosts.proofs.SuiteReads.{blocks_alone, gap_outside, outside_none, stated_gap, line_some, line_left}
use Rattle.bz_hosts.proofs.InnerParts.{nonterminal_inner}
use Rattle.bz_hosts.proofs.Insides.{inside_list}
use Rattle.bz_hosts.proofs.Numbered.{all_numbered, alone_numbered, last_numbered}
use Rattle.bz_hosts.proofs.Parts.{size, measured_rows, leaves_rows, Solid, part_solid}
use Rattle.bz_hosts.proofs.QuietGaps.{Quiet, Statements, Silent, part_silent, legal_statements, statements_quiet}
use Rattle.bz_hosts.proofs.SeenParts.{all_mapped}
use Rattle.bz_hosts.proofs.SuiteLines.{gap_of, Lines, gap_joined, first_at, beyond, PieceRead, with_left}
use Rattle.bz_hosts.proofs.Compounds.{First, function, loop, condition, Further, KnownOf, statement}
use Rattle.bz_hosts.proofs.HeadParts.{Headed, after_stmt}
use Rattle.bz_hosts.proofs.HostBranches.{More, then_more, BranchesPiece, Alternatives, no_alternatives, some_alternatives, Parted, headed}
use Rattle.bz_hosts.proofs.HostPieces.{suites_of, At, at_first, at_second, Extent, both_extents, Piece, same_piece, left_there}
use Rattle.bz_hosts.proofs.HostReads.{AllLegal, all_solid, file_inside, hosts_read, line_extent, line_piece_hosts}
use Rattle.bz_hosts.proofs.HostSuites.{OwnPiece, line_own, suite_own, as_walked}
use Rattle.bz_hosts.proofs.KeptGaps.{newline_ends, newline_comment}
use Rattle.bz_hosts.proofs.Stated.{stated_rows}
use Rattle.bz_hosts.proofs.SuiteHeaders.{measured_leaves}
use Rattle.bz_grammar.specs.Shapes as s

-- ---- parts and values

indent_first : (ls : List Leaf) → first_indent ls ≡ indent (gap_of ls)
indent_first [] = refl
indent_first (l ∷ ls) = refl

before_first : (xs : List Part) → AllByRecursion Solid xs → indented_lines_before (map stated xs) [] ≡ lines_of (gap_of (flat_map leaves_part xs))
before_first [] g = refl
before_first (x ∷ xs) g = ap lines_of (stated_gap x (flat_map leaves_part xs) g.0)

line_legal : (m : _) (r : Row_of-Part m) → LegalRow r → Statements (items-the_row-Part m r) → AllLegal (items-the_row-Part m r)
line_legal m r h fits = each_legal line_shape m r (legal_statements m r fits h)

all_silent : (xs : List Part) → AllLegal xs → AllByRecursion Silent xs
all_silent xs h = all_mapped (LegalBy line_shape) Silent (λ x l. part_silent x (as_bzl x l)) xs h

module _ (page : Page) where
  -- ---- nodes, by the lists of their parts

  abbrev as_statement : Part → List Bytes → PieceRead
  as_statement x group after = hosts_read ((stated x).statement group after)

  abbrev StatementPiece : Part → Type 0
  StatementPiece x = (n : ℕ) (group : List Bytes) → Piece page n (n + size x) (leaves_part x) ((measured x).stretches n) group (as_statement x group)

  abbrev AsStatement : Part → Type 0
  AsStatement x = IsNonterminal s.stmt x → AtLeaves Stands Begins x → StatementPiece x

  abbrev NodeRead : Kind → List Measured → List Leaf → List Stated → Type 0
  NodeRead kind ms ls ss = (n : ℕ) (group : List Bytes) → Piece page n (n + sizes ms) ls (in_statement kind n ms) group (λ after. hosts_read (statement_read kind ss group after))

  abbrev NodePiece : Kind → List Part → Type 0
  NodePiece kind xs = NodeRead kind (map measured xs) (flat_map leaves_part xs) (map stated xs)

  node_rows : (kind : Kind) (m : _) (r' : Row_of-Part m) → NodePiece kind (items-the_row-Part m r') → NodeRead kind (measured_row r') (leaves_row r') (stated_row r')
  node_rows kind m r' h = rw (measured_rows m r', leaves_rows m r', stated_rows m r') h

  abbrev Headers : Kind → List Part → Type 0
  Headers kind xs = (n : ℕ) (group : List Bytes) → Piece page n (n + sizes (map measured xs)) (flat_map leaves_part xs) (in_compound kind n [] (map measured xs)) group (λ after. hosts_read (branches true kind [] group after (map stated xs) after))

  -- the lines that are left where no header follows are those after the statement
  all_headers : (kind : Kind) (xs : List Part) → BranchesPiece page true kind xs → Headers kind xs
  all_headers kind xs h n group = record {
    extent = (h n group []).extent;
    starts = (h n group []).starts;
    left = λ a l after. (h n group after).left a l after;
    hosts = λ z. (h n group (lines_of (gap_of z.back))).hosts z;
  }

  further_headers : (word : Bytes) (back xs : List Part) → Further word back → (h : Headed k.IfStmt word back xs) → KnownOf (Parted page) h → Alternatives page k.IfStmt back → Alternatives page k.IfStmt xs
  further_headers word back xs t h g b = some_alternatives page k.IfStmt xs (headed page false k.IfStmt word back xs refl h g b)

  whole : (kind : Kind) (word : Bytes) (back xs : List Part) → First kind word back → (h : Headed kind word back xs) → KnownOf (Parted page) h → Alternatives page k.IfStmt back → Headers kind xs
  whole _ word _ xs function h g b = all_headers k.Def xs (headed page true k.Def word [] xs refl h g (no_alternatives page k.Def)).0
  whole _ word _ xs loop h g b = all_headers k.ForStmt xs (headed page true k.ForStmt word [] xs refl h g (no_alternatives page k.ForStmt)).0
  whole _ word _ xs (condition back) h g b = all_headers k.IfStmt xs (headed page true k.IfStmt word back xs refl h g b).0

  headers : (kind : Kind) → is_header kind ≡ true → (xs : List Part) → Fits IsNonterminal (bzl_shape kind) xs → AllByRecursion (Parted page) xs → AtParts Stands Begins Begins xs → Headers kind xs
  headers = statement (Parted page) (Alternatives page k.IfStmt) Headers (no_alternatives page k.IfStmt) further_headers whole

  line_node : (xs : List Part) → Statements xs → Quiet xs → AllLegal xs → NodePiece k.Line xs
  line_node [] fits quiet legal n group = absurd fits
  line_node (x ∷ xs) fits quiet legal n group =
      let ys : List Part = x ∷ xs in
      let e : ℕ = n + sizes (map measured ys) in
      let solids : AllByRecursion Solid ys = all_solid ys legal in
      record {
        extent = line_extent page n group x xs fits quiet legal (line_some x xs solids.0) (omega (arith, measured_leaves ys));
        starts = refl;
        left = λ a l after. line_left group ys fits solids after;
        hosts = λ z. line_piece_hosts page n group x xs fits quiet legal z;
      }

  node_piece : (kind : Kind) (xs : List Part) → nonterminal_has_kind s.stmt kind ≡ true → Fits IsNonterminal (bzl_shape kind) xs → AtParts Stands Begins Begins xs → (Statements xs → AllLegal xs) → AllByRecursion (Parted page) xs → NodePiece kind xs
  node_piece k.Line xs h f at_ lines g n group = line_node xs f (statements_quiet Begins Begins xs refl f (all_silent xs (lines f)) at_) (lines f) n group
  node_piece k.Def xs h f at_ lines g n group = headers k.Def refl xs f g at_ n group
  node_piece k.IfStmt xs h f at_ lines g n group = headers k.IfStmt refl xs f g at_ n group
  node_piece k.ForStmt xs h f at_ lines g n group = headers k.ForStmt refl xs f g at_ n group
  node_piece _ xs h f at_ lines g n group = no_such h

  -- ---- statements one after the other

  walked_more : (n : ℕ) (xs : List Part) → Several (IsNonterminal s.stmt) (Fits IsNonterminal done) xs → AtParts Stands Along Begins xs → AllByRecursion AsStatement xs → AllByRecursion Solid xs → More page xs n (n + sizes (map measured xs)) (one_by_one n (map measured xs)) (as_walked page xs)
  walked_more n [] h at_ w g = (omega arith, refl, λ left after. refl)
  walked_more n (x ∷ xs) (inl h) at_ w g = absurd h
  walked_more n (x ∷ xs) (inr h) at_ w g = (
    λ left.
        let group : List Bytes = comments_in left in
        let m : ℕ = n + size x in
        let e : ℕ = m + sizes (map measured xs) in
        let ls : List Leaf = leaves_part x ++ flat_map leaves_part xs in
        let sts : List Stretch = (measured x).stretches n in
        let there : AtParts Stands Along Begins xs = subst (λ z. AtParts Stands Along z xs) (after_stmt x Along Begins h.0) at_.1 in
        let one : Lines → ReadStatements (List Expr) = λ after. (stated x).statement group (indented_lines_before (map stated xs) after) in
        same_piece page n e (n + sizes (map measured (x ∷ xs))) ls ls (sts ++ one_by_one m (map measured xs)) (one_by_one n (map measured (x ∷ xs))) group _ (as_walked page (x ∷ xs) left)
        (omega arith) refl refl
        (λ after. ap (λ (z : List Hosted). with_left z (walked (one after).1 (map stated xs) after).1) (flat_map-append (λ x. hosted_by (comments_of x) ∷ inside_expr x) (one after).0 (walked (one after).1 (map stated xs) after).0))
        (then_more page n m e (leaves_part x) sts group (as_statement x group) xs (one_by_one m (map measured xs)) (as_walked page xs) (w.0 h.0 at_.0 n group) (walked_more m xs h.1 there w.1 g.1)),
    g.0,
  )

  -- ---- suites

  -- what is after a colon is a suite of its own, but for a line
  abbrev own_of : Kind → ℕ → ℕ → List Leaf → List Suite
  own_of k.Suite n e ls = record { first = suc n; following = e; margin = length (first_indent (drop 1 ls)) } ∷ []
  own_of _ n e ls = []

  abbrev OwnNode : Kind → List Measured → List Leaf → List Stated → Type 0
  OwnNode kind ms ls ss = (n : ℕ) → OwnPiece page n (n + sizes ms) ls (own_of kind n (n + sizes ms) ls) (in_statement kind n ms) (suffix_before kind ss) (suite_in kind ss)

  abbrev OwnList : Kind → List Part → Type 0
  OwnList kind xs = OwnNode kind (map measured xs) (flat_map leaves_part xs) (map stated xs)

  own_rows : (kind : Kind) (m : _) (r' : Row_of-Part m) → OwnList kind (items-the_row-Part m r') → OwnNode kind (measured_row r') (leaves_row r') (stated_row r')
  own_rows kind m r' h = rw (measured_rows m r', leaves_rows m r', stated_rows m r') h

  line_list : (xs : List Part) → Statements xs → AtParts Stands Along Along xs → AllLegal xs → OwnList k.Line xs
  line_list [] fits at_ legal n = absurd fits
  line_list (x ∷ xs) fits at_ legal n =
      let ys : List Part = x ∷ xs in
      let silent = all_silent ys legal in
      line_own page n x xs fits (statements_quiet Along Along ys refl fits silent at_) legal (silent.0 (nonterminal_inner s.small x refl fits.0) at_.0) (omega (arith, measured_leaves ys))

  suite_list : (xs : List Part) → Fits IsNonterminal (bzl_shape k.Suite) xs → AtParts Stands Along Along xs → AllByRecursion AsStatement xs → AllByRecursion (Parted page) xs → OwnList k.Suite xs
  suite_list [] fits at_ g w n = absurd fits
  suite_list (Node' kind z r'' ∷ xs) fits at_ g w n = no_such fits.0
  suite_list (p.Leaf l ∷ []) fits at_ g w n = absurd fits.1
  suite_list (p.Leaf l ∷ x ∷ xs) fits at_ g w n =
      let all : List Part = p.Leaf l ∷ x ∷ xs in
      let ls : List Leaf = flat_map leaves_part (x ∷ xs) in
      let e : ℕ = n + sizes (map measured all) in
      let there : AtParts Stands Along Begins (x ∷ xs) = subst (λ z. AtParts Stands Along z (x ∷ xs)) (newline_ends (p.Leaf l) Along Along fits.0) at_.1 in
      let margin : length (first_indent ls) ≡ margin_of (map stated (x ∷ xs)) = ap length (indent_first ls ∙ ap indent (sym (stated_gap x (flat_map leaves_part xs) (part_solid x w.1.0.legal)))) in
      let up : suc n + sizes (map measured (x ∷ xs)) ≡ e = omega arith in
      let lines : Lines = indented_lines_before (map stated (x ∷ xs)) [] in
      let inner : Piece page (suc n) e ls (one_by_one (suc n) (map measured (x ∷ xs))) (comments_in lines) (as_walked page (x ∷ xs) lines) =
      subst (λ z. Piece page (suc n) z ls (one_by_one (suc n) (map measured (x ∷ xs))) (comments_in lines) (as_walked page (x ∷ xs) lines)) up ((walked_more (suc n) (x ∷ xs) (inr (fits.1.0, fits.1.1)) there g.1 (all_mapped (Parted page) Solid (λ y h. part_solid y h.legal) (x ∷ xs) w.1)).0 lines) in
      let one : suc n ≡ n + 1 = omega arith in
      subst (λ z. OwnPiece page n e (flat_map leaves_part all) (own_of k.Suite n e (flat_map leaves_part all)) (one_by_one z (map measured (x ∷ xs))) (suffix_before k.Suite (map stated all)) (suite_in k.Suite (map stated all))) one
      (suite_own page n e (length (first_indent ls)) l x xs (part_solid x w.1.0.legal) margin (newline_comment (p.Leaf l) fits.0 at_.0) inner)

  abbrev Inside : Part → Type 0
  Inside (p.Leaf l) = Unit {0}
  Inside (Node' kind m r') = AllByRecursion AsStatement (items-the_row-Part _ r') × AllByRecursion (Parted page) (items-the_row-Part _ r')

  own_piece : (x : Part) → LegalPart x → Inside x → IsNonterminal s.suite x → AtLeaves Stands Along x → (n : ℕ) → OwnPiece page n (n + size x) (leaves_part x) (suite_there n (n + size x) x) ((measured x).stretches n) (stated x).suffix (stated x).suite
  own_piece (p.Leaf l) h g i at_ = no_such i
  own_piece (Node' k.Line m r') h g i at_ = own_rows k.Line _ r' (line_list (items-the_row-Part _ r') h.0 (parts_of_row Stands Along Along _ r' at_) (line_legal _ r' h.1 h.0))
  own_piece (Node' k.Suite m r') h g i at_ = own_rows k.Suite _ r' (suite_list (items-the_row-Part _ r') h.0 (parts_of_row Stands Along Along _ r' at_) g.0 g.1)
  own_piece (Node' _ m r') h g i at_ = no_such i

  -- ---- parts of a legal tree

  mutual
    part_piece : (x : Part) → LegalPart x → AsStatement x × Parted page x
    part_piece (p.Leaf l) h = (λ i at_. no_such i, record { suite = λ i at_. no_such i; legal = h })
    part_piece (Node' kind m r') h =
        let x : Part = Node' kind m r' in
        let xs : List Part = items-the_row-Part _ r' in
        let inside : AllByRecursion AsStatement xs × AllByRecursion (Parted page) xs = row_piece _ r' h.1 in
        (λ i at_. node_rows kind _ r' (node_piece kind xs i h.0 (parts_of_row Stands Begins Begins _ r' at_) (line_legal _ r' h.1) inside.1), record { suite = own_piece x h inside; legal = h })

    row_piece : (m : _) (r' : Row_of-Part m) → LegalRow r' → AllByRecursion AsStatement (items-the_row-Part m r') × AllByRecursion (Parted page) (items-the_row-Part m r')
    row_piece m end_of-Part h = (tt, tt)
    row_piece m (more_of-Part x rest) h =
        let one : AsStatement x × Parted page x = part_piece x h.0 in
        let more : AllByRecursion AsStatement (items-the_row-Part _ rest) × AllByRecursion (Parted page) (items-the_row-Part _ rest) = row_piece _ rest h.1 in
        ((one.0, more.0), (one.1, more.1))

  -- ---- the file

  abbrev FileParts : List Part → Type 0
  FileParts xs = Several (IsNonterminal s.stmt) (Fits IsNonterminal (tok s.end done)) xs

  -- the end of a file
  end_extent : (n e : ℕ) (l : Leaf) → n + 1 ≡ e → Extent page n e (l ∷ []) []
  end_extent n e l u = record {
    some = omega arith;
    up = u;
    bounds = tt;
    within = tt;
    outer = λ sees q d o.
        ap (texts_at page.regions q) (append-nil (comments_at n l.gap)) ∙ outside_none page.regions n l.gap (gap_outside page.regions n e (sees n (omega arith) (omega arith))) q d;
  }

  -- statements and the end, from the leaf n on
  record FilePiece (n e : ℕ) (xs : List Part) : Type 0 where
    extent : Extent page n e (flat_map leaves_part xs) (one_by_one n (map measured xs))
    hosts : (lines : Lines) → At page n e (flat_map leaves_part xs) (one_by_one n (map measured xs)) → lines ≡ left_by 0 n page.suites (lines_before page.leaves n)
        → flat_map inside_item (items_from lines xs) ≡ hosted_from page n xs

  file_piece : (n e : ℕ) (xs : List Part) → e ≡ n + sizes (map measured xs) → FileParts xs → AllByRecursion AsStatement xs → AllByRecursion Solid xs → AtParts Stands Begins Begins xs → FilePiece n e xs
  file_piece n e [] u h g w at_ = absurd h
  file_piece n e (p.Leaf l ∷ []) u (inl h) g w at_ = record {
    extent = end_extent n e l (omega arith);
    hosts = λ lines z same.
        let gs : List GapLine = left_above page n in
        ap (λ (t : Lines). flat_map inside_item (blocks (groups_of t) ++ [])) same
        ∙ (flat_map-append inside_item (blocks (groups_of gs)) [] ∙ ap (λ (t : List Hosted). t ++ []) (blocks_alone (groups_of gs) ∙ ap hosts_alone (all_numbered gs)));
  }
  file_piece n e (p.Leaf l ∷ y ∷ xs) u (inl h) g w at_ = absurd h.1
  file_piece n e (p.Leaf l ∷ xs) u (inr h) g w at_ = no_such h.0
  file_piece n e (Node' kind s' r' ∷ xs) u (inl h) g w at_ = no_such h.0
  file_piece n e (Node' kind s' r' ∷ xs) u (inr h) g w at_ =
      let x : Part = Node' kind s' r' in
      let m : ℕ = n + size x in
      let sts : List Stretch = (measured x).stretches n in
      let later : List Stretch = one_by_one m (map measured xs) in
      let more : List Leaf = flat_map leaves_part xs in
      let following : FilePiece m e xs = file_piece m e xs (omega arith) h.1 g.1 w.1 (subst (λ z. AtParts Stands Begins z xs) (after_stmt x Begins Begins h.0) at_.1) in
      let after_it : Extent page m e more later = following.extent in
      let first : indented_lines_before (map stated xs) [] ≡ lines_of (gap_of more) = before_first xs w.1 in
      record {
        extent = both_extents page n m e (leaves_part x) more sts later (g.0 h.0 at_.0 n []).extent after_it;
        hosts = λ ls z same.
            let gs : List GapLine = left_above page n in
            let group : List Bytes = last_group (groups_of ls) in
            let piece : Piece page n m (leaves_part x) sts group (as_statement x group) = g.0 h.0 at_.0 n group in
            let own : ReadStatements (List Expr) = (stated x).statement group (indented_lines_before (map stated xs) []) in
            let back : gap_of more ≡ gap_of (more ++ z.back) = sym (gap_joined more z.back after_it.some) in
            let own_hosts : inside_list own.0 ≡ statement_hosts page group sts =
            ap (λ (t : Lines). inside_list ((stated x).statement group t).0) (first ∙ ap lines_of back) ∙ piece.hosts (at_first page n m e (leaves_part x) more sts later piece.extent after_it z) in
            let own_left : own.1 ≡ left_by 0 m page.suites (lines_before page.leaves m) = ap (λ (t : Lines). ((stated x).statement group t).1) first ∙ left_there page n m e (leaves_part x) more sts later group (as_statement x group) piece after_it z in
            let tail : List Item = items_from own.1 xs in
            let tail_hosts : flat_map inside_item tail ≡ hosted_from page m xs = following.hosts own.1 (at_second page n m e (leaves_part x) more sts later piece.extent after_it z) own_left in
            let alone : hosts_alone (all_but_last (groups_of ls)) ≡ hosts_alone (map (right_above gs) (bare_lines 0 gs)) = ap (λ (t : Lines). hosts_alone (all_but_last (groups_of t))) same ∙ ap hosts_alone (alone_numbered gs) in
            let above : group ≡ right_above gs (length gs) = ap (λ (t : Lines). last_group (groups_of t)) same ∙ last_numbered gs in
            rw (flat_map-append inside_item (blocks (all_but_last (groups_of ls))) (map i.Stmt own.0 ++ tail), flat_map-append inside_item (map i.Stmt own.0) tail, blocks_alone (all_but_last (groups_of ls)), alone, file_inside own.0, own_hosts, tail_hosts, above)
            (sym (append_assoc (hosts_alone (map (right_above gs) (bare_lines 0 gs))) (statement_hosts page (right_above gs (length gs)) sts) (hosted_from page m xs)));
      }

pub hosts_by_place : HostsByPlace
hosts_by_place n h =
    let fits : Fits IsNonterminal (bzl_shape k.File) n.parts = subst (λ kd. Fits IsNonterminal (bzl_shape kd) n.parts) h.file.root h.file.shapes.0 in
    let sts : List Stretch = one_by_one 0 (map measured n.parts) in
    let page : Page = record { leaves = leaves_of n; regions = flat_map regions_in sts; suites = suites_of sts } in
    let pieces = all_mapped LegalPart (AsStatement page) (λ x g. (part_piece page x g).0) n.parts h.file.shapes.1 in
    let solids : AllByRecursion Solid n.parts = all_mapped LegalPart Solid part_solid n.parts h.file.shapes.1 in
    let e : ℕ = 0 + sizes (map measured n.parts) in
    let file : FilePiece page 0 e n.parts = file_piece page 0 e n.parts refl fits pieces solids h.gaps in
    let all : At page 0 e (flat_map leaves_part n.parts) sts = record {
      front = [];
      back = [];
      leaves = sym (append-nil (leaves_of n));
      counted = refl;
      sees = record { after = λ a m i j l lines. refl; inner = λ a m i j lines. refl; begins = λ m i j. refl };
      regions = λ q v w. record { inner = refl; ends = refl; begins = λ z d. refl };
      texts = λ q f. refl;
    } in
    file.hosts (indented_lines_before (map stated n.parts) []) all
    (before_first n.parts solids ∙ (ap lines_of (sym (first_at (leaves_of n))) ∙ sym (beyond 0 0 0 e (suites_of sts) (lines_before (leaves_of n) 0) (omega arith) file.extent.bounds)))
