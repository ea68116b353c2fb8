-- Headers with their suites: what is read of them, with the hosts by their places.
use Rattle.bz_hosts.proofs.Words.{[], ◌++◌, ◌+◌, ◌<◌, ◌∙◌, ◌∷◌, ◌≡◌, above, all_in, ap, append-nil, append_assoc, arith, as_list, block, Bool, Bytes, CommentPlace, comments_at, comments_from, Expr, false, Fits, flat_map, flat_map-append, frame, header, host, Hosted, hosted, hosted_at, in_node, inside_expr, is_inner_frame, IsNonterminal, Kind, Kind as k, Leaf, leaf_gap, leaves_part, length, length-append, lines_of, List, map, measured, no_comments, None, Option, outside, Page, Part, plain, put_header, refl, Region, Seen, seen, seen_node, sizes, Some, Stretch, suc, suffix_in, suffix_of, Suite, suite_end, suite_form, SuiteRead, sym, texts_at, true, whole_shape, ℕ}
use Rattle.bz_hosts.proofs.{Alternating.inside_joined, Claim.node_texts, SuiteReads.gap_outside, SuiteReads.outside_none, Gathered.key, Gathered.pick, Gathered.pick_same, Gathered.pick_other, Gathered.GapPlaces, Gathered.texts_joined, Gathered.three_none, Gathered.three_first, Gathered.three_third, Insides.within, Insides.inside_list, Insides.form_inside, Insides.items_inside, Nodes.node_inside, Parts.size, Parts.comments_after, Parts.comments_joined, Parts.after_parts, Parts.parts_from, Sequences.From, Statements.gap_ended, Statements.gap_suffix, Statements.silent_gap, Texts.Texts, SuiteLines.gap_of, SuiteLines.last_leaf_gap, SuiteLines.last_leaf_after, SuiteLines.Lines, SuiteLines.suites_wider, SuiteLines.last_joined, SuiteLines.PieceRead, SuiteLines.with_left, HostPieces.regions_of, HostPieces.suites_of, HostPieces.comments, HostPieces.along, HostPieces.At, HostPieces.Piece, HostPieces.Extent, HostReads.AllLegal, HostReads.all_solid, HostReads.all_regions, HostReads.all_texts, HostSuites.leaf_there, HostSuites.OwnAt, HostSuites.OwnPiece, SuiteHeaders.measured_leaves}
use Rattle.bz_hosts.proofs.Around as r

from_first : (n : ℕ) (ls : List Leaf) → 0 < length ls → comments_from n ls ≡ comments_at n (gap_of ls) ++ comments_after n ls
from_first n [] h = absurd (omega arith)
from_first n (l ∷ ls) h = refl

-- ---- the hosts of a header of these parts and of its suite

abbrev pub header_hosts : Kind → List Seen → List Bytes → Option Bytes → List Expr × List Bytes → List Hosted
header_hosts kind ss group suffix own =
    let head : Seen = seen_node (frame kind) kind ss in
    hosted (group ++ head.loose) (as_list suffix) ∷ (inside_expr (plain head) ++ block own.1 ∷ inside_list own.0)

form_hosts : (kind : Kind) (ss : List Seen) (group : List Bytes) (suffix : Option Bytes) (own : List Expr × List Bytes) (others : List Expr)
    → inside_expr (suite_form kind ss group suffix own others) ≡ inside_expr (plain (seen_node (frame kind) kind ss)) ++ block own.1 ∷ (inside_list own.0 ++ inside_list others)
form_hosts kind ss group suffix own others =
    let head : List Hosted = inside_expr (plain (seen_node (frame kind) kind ss)) in
    form_inside (record { kind = k.Suite; parts = plain (seen_node (frame kind) kind ss) ∷ others; seq = record { items = own.0; end = own.1; split = false }; open_break = false; comments = no_comments })
    ∙ rw (append-nil head, flat_map-append (λ x. x.0 ∷ x.1) (map within own.0) (map within others), items_inside own.0, items_inside others) refl

-- the hosts of its alternatives follow
pub suite_hosts : (first : Bool) (kind : Kind) (ss : List Seen) (group : List Bytes) (suffix : Option Bytes) (own : List Expr × List Bytes) (others : List Expr)
    → inside_list (put_header first (suite_form kind ss group suffix own) others) ≡ header_hosts kind ss group suffix own ++ inside_list others
suite_hosts true kind ss group suffix own others =
    let head : List Hosted = inside_expr (plain (seen_node (frame kind) kind ss)) in
    rw (form_hosts kind ss group suffix own others, append-nil (head ++ block own.1 ∷ (inside_list own.0 ++ inside_list others)), append_assoc head (block own.1 ∷ inside_list own.0) (inside_list others)) refl
suite_hosts false kind ss group suffix own others = rw (form_hosts kind ss group suffix own [], append-nil (inside_list own.0)) refl

abbrev pub header_read : Kind → List Seen → List Bytes → Option Bytes → (Lines → SuiteRead) → PieceRead
header_read kind ss group suffix read after = with_left (header_hosts kind ss group suffix (read after).0) (read after).1

-- ---- a header, its colon and its suite

-- hs: the parts of a header that begins at n; c: its colon, and own what is after that
module _ (page : Page) (kind : Kind) (n e : ℕ) (group : List Bytes) (suffix : Option Bytes) (x : Part) (xs : List Part) (c : Leaf) (own : List Suite) (ls' : List Leaf) (sts' : List Stretch) (read : Lines → SuiteRead)
    (f : ℕ) (is_f : f ≡ suc (n + sizes (map measured (x ∷ xs)))) (framed : is_inner_frame (frame kind) ≡ true) (fits : Fits IsNonterminal (whole_shape kind) (x ∷ xs))
    (legal : AllLegal (x ∷ xs)) (some_parts : 0 < size x) (quiet : all_in c.gap ≡ [])
    (o : OwnPiece page f e ls' own sts' suffix read) where
  abbrev hs : List Part
  hs = x ∷ xs

  abbrev head : Seen
  head = seen_node (frame kind) kind (map seen hs)

  abbrev rs : List Region
  rs = in_node (frame kind) kind n (map measured hs)

  abbrev f' : ℕ
  f' = n + sizes (map measured hs)

  abbrev front_leaves : List Leaf
  front_leaves = flat_map leaves_part hs

  abbrev ls : List Leaf
  ls = front_leaves ++ c ∷ ls'

  abbrev sts : List Stretch
  sts = header n f rs own ∷ sts'

  abbrev ry : List Region
  ry = regions_of sts'

  wide_it : r.AllInside n f rs
  wide_it = r.all_wider n f' n f (omega arith) (omega arith) rs (node_inside kind (frame kind) refl hs fits (all_regions hs legal) n)

  whole : r.AllInside n e (host n f f ∷ (rs ++ ry))
  whole =
      ((omega arith, omega arith, omega arith, omega arith), inside_joined n e rs ry (r.all_wider n f n e (omega arith) (omega arith) rs wide_it) (r.all_wider f e n e (omega arith) (omega arith) ry o.within))

  module _ (s : r.SeesAt page.regions None n e (host n f f ∷ (rs ++ ry))) where
    first_gap : GapPlaces page.regions n outside outside
    first_gap = gap_outside page.regions n n (r.sees_before page.regions n None e n e n [] (host n f f ∷ (rs ++ ry)) whole (omega arith) (omega arith) (omega arith) (s n (omega arith) (omega arith)))

    end_gap : GapPlaces page.regions f (suffix_of n) outside
    end_gap = gap_ended page.regions f n e ry (r.sees_ended page.regions f None e n f f e rs ry (omega arith) (omega arith) (omega arith) wide_it o.within (omega arith) (s f (omega arith) (omega arith)))

    own_sees : r.SeesAt page.regions None (suc f) e ry
    own_sees q v w = r.sees_after page.regions q None e n f rs ry wide_it (omega arith) (r.sees_past_host page.regions q None e n f f (rs ++ ry) (omega arith) (omega arith) (λ d. omega arith) (s q (omega arith) w))

    header_sees : r.SeesAt page.regions (Some (host n f f)) (suc n) f' rs
    header_sees q v w =
        r.sees_before page.regions q (Some (host n f f)) e f e f' rs ry o.within (omega arith) (omega arith) (omega arith) (r.sees_in_host page.regions q None e n f f (rs ++ ry) (omega arith) (omega arith) (omega arith) (s q (omega arith) (omega arith)))

    header_texts : Texts page.regions n n f' (after_parts n hs) head.loose rs (inside_expr (plain head))
    header_texts = node_texts page.regions n f f n (omega arith) kind (frame kind) refl framed hs fits (all_regions hs legal) (all_texts page.regions hs legal) header_sees

    header_outer : (q : CommentPlace) → (From n f' q → ⊥) → texts_at page.regions q (after_parts n hs) ≡ []
    header_outer q u = header_texts.outer q (λ j. u (omega arith, omega arith)) ∙ pick_other (above n) q head.loose (λ d. u (omega arith, omega arith))

    own_outer : (q : CommentPlace) → 0 < key q → (From f e q → ⊥) → texts_at page.regions q (comments_after f ls') ≡ []
    own_outer q d u = o.outer own_sees q d u

    collected : (q : CommentPlace) → 0 < key q → texts_at page.regions q (comments_from n ls) ≡ texts_at page.regions q (after_parts n hs) ++ (pick (suffix_of n) q (as_list (suffix_in (gap_of ls'))) ++ texts_at page.regions q (comments_after f ls'))
    collected q d =
        let at_colon : n + length front_leaves ≡ f' = let h = measured_leaves hs in omega arith in
        let up : suc f' ≡ f = sym is_f in
        let first : texts_at page.regions q (comments_from n front_leaves) ≡ texts_at page.regions q (after_parts n hs) =
        rw (parts_from n hs (all_solid hs legal), texts_joined page.regions q (comments_at n (seen x).gap) (after_parts n hs), outside_none page.regions n (seen x).gap first_gap q d) refl in
        let second : texts_at page.regions q (comments_from f ls') ≡ pick (suffix_of n) q (as_list (suffix_in (gap_of ls'))) ++ texts_at page.regions q (comments_after f ls') =
        rw (from_first f ls' o.some, texts_joined page.regions q (comments_at f (gap_of ls')) (comments_after f ls'), gap_suffix page.regions f n (gap_of ls') end_gap q d) refl in
        rw (comments_joined n front_leaves (c ∷ ls'), at_colon, silent_gap f' c.gap quiet, up, texts_joined page.regions q (comments_from n front_leaves) (comments_from f ls'), first, second) refl

  header_extent : Extent page n e ls sts
  header_extent =
      let len = length-append front_leaves (c ∷ ls') in
      let h = measured_leaves hs in
      record {
        some = omega arith;
        up = omega arith;
        bounds = suites_wider f e n e (omega arith) (omega arith) (own ++ suites_of sts') o.bounds;
        within = whole;
        outer = λ s q d u.
            collected s q d ∙ three_none _ _ _ (header_outer s q (λ j. u (omega arith, omega arith))) (pick_other (suffix_of n) q (as_list (suffix_in (gap_of ls'))) (λ t. u (omega arith, omega arith)))
            (own_outer s q d (λ j. u (omega arith, omega arith)));
      }

  last_there : last_leaf_gap ls ≡ last_leaf_gap ls'
  last_there = last_joined front_leaves (c ∷ ls') (omega arith) ∙ last_joined (c ∷ []) ls' o.some

  abbrev own_at : At page n e ls sts → OwnAt page n f e ls' own sts'
  own_at z =
      let h = measured_leaves hs in
      let len = length-append z.front front_leaves in
      let len' = length-append (z.front ++ front_leaves) (c ∷ []) in
      record {
        front = (z.front ++ front_leaves) ++ c ∷ [];
        back = z.back;
        leaves = rw (append_assoc (z.front ++ front_leaves) (c ∷ []) (ls' ++ z.back), append_assoc z.front front_leaves (c ∷ (ls' ++ z.back)), sym (append_assoc front_leaves (c ∷ ls') z.back)) z.leaves;
        counted = omega arith;
        before = omega arith;
        quiet = ap all_in (last_leaf_after (z.front ++ front_leaves) c []) ∙ quiet;
        sees = z.sees;
        regions = own_sees z.regions;
        texts = λ q j.
            z.texts q (omega arith, omega arith) ∙ (collected z.regions q (omega arith) ∙ three_third _ _ _ (texts_at page.regions q (comments_after f ls')) (header_outer z.regions q (λ t. omega (arith, t.1)))
            (pick_other (suffix_of n) q (as_list (suffix_in (gap_of ls'))) (λ t. omega arith)) refl);
      }

  pub header_piece : Piece page n e ls sts group (header_read kind (map seen hs) group suffix read)
  header_piece = record {
    extent = header_extent;
    starts = refl;
    left = λ a i after. o.left a (omega arith) after ∙ rw last_there refl;
    hosts = λ z.
        let y : OwnAt page n f e ls' own sts' = own_at z in
        let after : Lines = lines_of (gap_of z.back) in
        let t : Texts page.regions n n f' (after_parts n hs) head.loose rs (inside_expr (plain head)) = header_texts z.regions in
        let at_above : texts_at page.regions (above n) (comments page) ≡ head.loose =
        z.texts (above n) (omega arith, omega arith)
        ∙ (collected z.regions (above n) (omega arith) ∙ three_first _ _ _ head.loose (t.outer (above n) (λ j. omega (arith, j.0)) ∙ pick_same (above n) head.loose) refl (own_outer z.regions (above n) (omega arith) (λ j. omega (arith, j.0)))) in
        let inside : map (hosted_at page.regions (comments page)) rs ≡ inside_expr (plain head) =
        t.hosts (comments page) (λ q j.
        z.texts q (omega arith, omega arith) ∙ (collected z.regions q (omega arith) ∙ three_first _ _ _ (texts_at page.regions q (after_parts n hs)) refl (pick_other (suffix_of n) q (as_list (suffix_in (gap_of ls'))) (λ d. omega arith))
        (own_outer z.regions q (omega arith) (λ i. omega (arith, i.0))))) in
        let gap : leaf_gap page.leaves f ≡ gap_of ls' = leaf_there f page.leaves y.front ls' y.back y.leaves y.counted o.some in
        rw (at_above, gap, sym o.suffix_is, inside, o.ends n y, o.statements n y, append_assoc (inside_expr (plain head)) (block (flat_map (suite_end page) own) ∷ []) (along page sts')) refl;
  }
