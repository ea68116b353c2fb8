-- Suites, and lines in their place: what is read of them, with the hosts by their places.
use Rattle.bz_hosts.proofs.Words.{[], ◌++◌, ◌+◌, ◌<◌, ◌||◌, ◌∙◌, ◌∷◌, ◌≡◌, ◌≤◌, after_first_line, all_in, AllByRecursion, and_right, ap, append-nil, append_assoc, arith, as_list, Bytes, CommentPlace, comments_in, end_comments, eq-eqb, Expr, false, flat_map, header, Hosted, hosted_at, hosts_from, indented_lines_before, inside_item, le-ltb, Leaf, leaf_gap, leaves_part, left_by, length, length-append, line_read, lines_before, lines_of, lines_of_leaf, List, lt-ltb, map, margin_of, measured, nat_eq, nat_lt, ne_eqb, None, one_by_one, only_comment, Option, Page, Part, ReadStatements, refl, Region, seen, simple_line, sizes, stated, statement_hosts, statements_in, Stretch, subst, suc, Suite, suite_end, suite_read, SuiteRead, sym, texts_at, true, walked, ℕ}
use Rattle.bz_hosts.proofs.SuiteReads.{group_above, stated_gap, line_some, line_left}
use Rattle.bz_hosts.proofs.Gathered.{key}
use Rattle.bz_hosts.proofs.Insides.{inside_list}
use Rattle.bz_hosts.proofs.Parts.{Solid, comments_after, after_parts, parts_after}
use Rattle.bz_hosts.proofs.QuietGaps.{Quiet, Statements}
use Rattle.bz_hosts.proofs.Sequences.{From}
use Rattle.bz_hosts.proofs.SuiteLines.{gap_of, last_leaf_gap, Lines, AllBetween, suites_wider, gap_joined, first_at, last_joined, lines_there}
use Rattle.bz_hosts.proofs.HostPieces.{regions_of, suites_of, begins_suite, comments, along, along_first, SeesSuites, At, Piece}
use Rattle.bz_hosts.proofs.HostReads.{AllLegal, all_solid, hosts_read, line, within, simple_inside}
use Rattle.bz_hosts.proofs.BlankLines.{comments_append}
use Rattle.bz_hosts.proofs.Stated.{parts_seen}
use Rattle.bz_hosts.proofs.Around as r
use Rattle.bz_grammar.specs.Shapes as s

-- ---- leaves

leaf_at : (front back : List Leaf) → leaf_gap (front ++ back) (length front) ≡ gap_of back
leaf_at [] back = first_at back
leaf_at (l ∷ front) back = leaf_at front back

pub leaf_there : (n : ℕ) (leaves front ls back : List Leaf) → leaves ≡ front ++ (ls ++ back) → length front ≡ n → 0 < length ls → leaf_gap leaves n ≡ gap_of ls
leaf_there n leaves front ls back e d some = rw (e, sym d) (leaf_at front (ls ++ back) ∙ gap_joined ls back some)

-- ---- gaps without comments

later_none : (a b : List Bytes) → a ++ b ≡ [] → b ≡ []
later_none [] b h = h
later_none (x ∷ a) b h = cc

rest_silent : (lines : Lines) → comments_in lines ≡ [] → comments_in (after_first_line lines) ≡ []
rest_silent [] h = refl
rest_silent (l ∷ lines) h = later_none (as_list l.comment) (comments_in lines) h

silent_lines : (g g' : Bytes) → all_in g ≡ [] → all_in g' ≡ [] → comments_in ((after_first_line (lines_of g) ++ lines_of g')) ≡ []
silent_lines g g' h h' = rw (comments_append (after_first_line (lines_of g)) (lines_of g'), rest_silent (lines_of g) h) h'

-- ---- suites

module _ (page : Page) where
  -- the leaves of a suite from n on up to e are there, after a header that begins at n0
  pub record OwnAt (n0 n e : ℕ) (ls : List Leaf) (own : List Suite) (sts : List Stretch) : Type 0 where
    pub front : List Leaf
    pub back : List Leaf
    pub leaves : page.leaves ≡ front ++ (ls ++ back)
    pub counted : length front ≡ n
    pub before : n0 < n
    pub quiet : all_in (last_leaf_gap front) ≡ []
    pub sees : SeesSuites page n0 e (own ++ suites_of sts)
    pub regions : r.SeesAt page.regions None (suc n) e (regions_of sts)
    pub texts : (q : CommentPlace) → From n e q → texts_at page.regions q (comments page) ≡ texts_at page.regions q (comments_after n ls)

  pub record OwnPiece (n e : ℕ) (ls : List Leaf) (own : List Suite) (sts : List Stretch) (suffix : Option Bytes) (read : Lines → SuiteRead) : Type 0 where
    pub some : 0 < length ls
    pub up : n + length ls ≡ e
    pub bounds : AllBetween n e (own ++ suites_of sts)
    pub within : r.AllInside n e (regions_of sts)
    pub outer : r.SeesAt page.regions None (suc n) e (regions_of sts) → (q : CommentPlace) → 0 < key q → (From n e q → ⊥) → texts_at page.regions q (comments_after n ls) ≡ []
    pub suffix_is : as_list suffix ≡ all_in (gap_of ls)
    pub left : (a : ℕ) → a ≤ n → (after : Lines) → (read after).1 ≡ left_by a e (own ++ suites_of sts) (after_first_line (lines_of (last_leaf_gap ls)) ++ after)
    pub statements : (n0 : ℕ) (x : OwnAt n0 n e ls own sts) → inside_list (read (lines_of (gap_of x.back))).0.0 ≡ along page sts
    pub ends : (n0 : ℕ) (x : OwnAt n0 n e ls own sts) → (read (lines_of (gap_of x.back))).0.1 ≡ flat_map (suite_end page) own

  -- ---- a line in the place of a suite

  abbrev line_suite : List Part → Lines → SuiteRead
  line_suite xs after = (((line_read (map (λ x. x.part) (map stated xs)) [] after).0, []), (line_read (map (λ x. x.part) (map stated xs)) [] after).1)

  no_lines : (n0 n e : ℕ) (ls : List Leaf) (sts : List Stretch) → suites_of sts ≡ [] → 0 < length ls → n < e → all_in (gap_of ls) ≡ [] → OwnAt n0 n e ls [] sts → lines_of_leaf page n ≡ []
  no_lines n0 n e ls sts none some l silent x =
      let begins : begins_suite n page.suites ≡ false = x.sees.begins n x.before l ∙ ap (begins_suite n) none in
      let lines : lines_before page.leaves n ≡ after_first_line (lines_of (last_leaf_gap x.front)) ++ lines_of (gap_of ls) =
      rw (lines_there page 0 n [] x.front (ls ++ x.back) (omega arith) (omega (arith, x.counted)) x.leaves refl, gap_joined ls x.back some) refl in
      rw (begins, x.sees.inner 0 n x.before l (lines_before page.leaves n), none, lines) (silent_lines (last_leaf_gap x.front) (gap_of ls) x.quiet silent)

  pub line_own : (n : ℕ) (x : Part) (xs : List Part) → Statements (x ∷ xs) → Quiet (x ∷ xs) → AllLegal (x ∷ xs) → all_in (seen x).gap ≡ []
      → n + length (flat_map leaves_part (x ∷ xs)) ≡ n + sizes (map measured (x ∷ xs))
      → OwnPiece n (n + sizes (map measured (x ∷ xs))) (flat_map leaves_part (x ∷ xs)) [] (simple_line n (hosts_from s.semicolon n (map measured (x ∷ xs))) ∷ []) None (line_suite (x ∷ xs))
  line_own n x xs fits quiet legal silent up =
      let ys : List Part = x ∷ xs in
      let e : ℕ = n + sizes (map measured ys) in
      let ls : List Leaf = flat_map leaves_part ys in
      let there : List Region = hosts_from s.semicolon n (map measured ys) in
      let sts : List Stretch = simple_line n there ∷ [] in
      let solids : AllByRecursion Solid ys = all_solid ys legal in
      let some = line_some x xs solids.0 in
      let quiet_gap : all_in (gap_of ls) ≡ [] = rw (solids.0.leaves, sym solids.0.gap) silent in
      let mine : comments_after n ls ≡ after_parts n ys = parts_after n ys solids in
      record {
        some = some;
        up = up;
        bounds = tt;
        within = subst (r.AllInside n e) (sym (append-nil there)) (within page n [] x xs fits quiet legal);
        outer = λ sees q d o. ap (texts_at page.regions q) mine ∙ (line page n [] x xs fits quiet legal (subst (r.SeesAt page.regions None (suc n) e) (append-nil there) sees)).outer q d o;
        suffix_is = sym quiet_gap;
        left = λ a l after. line_left [] ys fits solids after;
        statements = λ n0 z.
            let found : map (hosted_at page.regions (comments page)) there ≡ flat_map inside_item (statements_in [] (map seen ys)) =
            (line page n [] x xs fits quiet legal (subst (r.SeesAt page.regions None (suc n) e) (append-nil there) z.regions)).found (comments page) (λ q f. z.texts q f ∙ ap (texts_at page.regions q) mine) in
            ap (λ ss. inside_list (line_read ss [] (lines_of (gap_of z.back))).0) (parts_seen ys)
            ∙ (simple_inside [] (map seen ys) ∙ rw (no_lines n0 n e ls sts refl some (omega arith) quiet_gap z, found, group_above [] ys, append-nil (flat_map inside_item (statements_in [] (map seen ys)))) refl);
        ends = λ n0 z. refl;
      }

  -- ---- a suite

  abbrev pub as_walked : List Part → Lines → Lines → List Hosted × Lines
  as_walked xs above after = hosts_read (walked above (map stated xs) after)

  pub suite_own : (n e m : ℕ) (l : Leaf) (x : Part) (xs : List Part) → Solid x → m ≡ margin_of (map stated (x ∷ xs)) → all_in l.gap ≡ as_list (only_comment (all_in l.gap))
      → Piece page (suc n) e (flat_map leaves_part (x ∷ xs)) (one_by_one (suc n) (map measured (x ∷ xs))) (comments_in (indented_lines_before (map stated (x ∷ xs)) [])) (as_walked (x ∷ xs) (indented_lines_before (map stated (x ∷ xs)) []))
      → OwnPiece n e (l ∷ flat_map leaves_part (x ∷ xs)) (record { first = suc n; following = e; margin = m } ∷ []) (one_by_one (suc n) (map measured (x ∷ xs))) (only_comment (all_in l.gap)) (λ after. suite_read (map stated (x ∷ xs)) after)
  suite_own n e m l x xs solid i suffix inner =
      let ls : List Leaf = flat_map leaves_part (x ∷ xs) in
      let sts : List Stretch = one_by_one (suc n) (map measured (x ∷ xs)) in
      let suites : List Suite = suites_of sts in
      let own : Suite = record { first = suc n; following = e; margin = m } in
      let lines : Lines = indented_lines_before (map stated (x ∷ xs)) [] in
      let all : Lines → ReadStatements (List Expr) = λ after. walked lines (map stated (x ∷ xs)) after in
      let M : ℕ = margin_of (map stated (x ∷ xs)) in
      let last : last_leaf_gap (l ∷ ls) ≡ last_leaf_gap ls = last_joined (l ∷ []) ls inner.extent.some in
      let left : (a : ℕ) → a ≤ suc n → (after : Lines) → (all after).1 ≡ left_by a e suites (after_first_line (lines_of (last_leaf_gap (l ∷ ls))) ++ after) =
      λ a j after. inner.left a j after ∙ ap (λ (g' : Bytes). left_by a e suites (after_first_line (lines_of g') ++ after)) (sym last) in
      let others : (a m' : ℕ) → suc n ≤ a → (lines' : Lines) → left_by a m' (own ∷ suites) lines' ≡ left_by a m' suites lines' =
      λ a m' j lines'. rw (le-ltb a (suc n) j) refl in
      let ahead : (a m' : ℕ) → m' < e → (lines' : Lines) → left_by a m' (own ∷ suites) lines' ≡ left_by a m' suites lines' =
      λ a m' j lines'. rw (and_right (nat_lt a (suc n)) (nat_eq e m') (ne_eqb e m' (λ d. omega arith))) refl in
      record {
        some = omega arith;
        up = omega arith;
        bounds = ((omega arith, omega arith, omega arith), suites_wider (suc n) e n e (omega arith) (omega arith) suites inner.extent.bounds);
        within = r.all_wider (suc n) e n e (omega arith) (omega arith) (regions_of sts) inner.extent.within;
        outer = λ sees q d o. inner.extent.outer sees q d (λ j. o (omega arith, j.1));
        suffix_is = sym suffix;
        left = λ a j after. rw (sym i, left a (omega arith) after, lt-ltb a (suc n) (omega arith), eq-eqb e e refl) refl;
        statements = λ n0 z.
            let len = length-append z.front (l ∷ []) in
            let leaves : page.leaves ≡ (z.front ++ l ∷ []) ++ (ls ++ z.back) = z.leaves ∙ sym (append_assoc z.front (l ∷ []) (ls ++ z.back)) in
            let at_ : At page (suc n) e ls sts = record {
              front = z.front ++ l ∷ [];
              back = z.back;
              leaves = leaves;
              counted = omega arith;
              sees = record {
                after = λ a m' b b' b'' lines'. z.sees.after a m' (omega arith) (omega arith) b'' lines' ∙ others a m' b lines';
                inner = λ a m' b b' lines'. z.sees.inner a m' (omega arith) b' lines' ∙ ahead a m' b' lines';
                begins = λ m' b b'. z.sees.begins m' (omega arith) b' ∙ ap (λ t. t || begins_suite m' suites) (ne_eqb (suc n) m' (λ d. omega arith));
              };
              regions = z.regions;
              texts = λ q f. z.texts q (omega arith, f.1);
            } in
            let begins : begins_suite (suc n) page.suites ≡ true = z.sees.begins (suc n) (omega arith) (omega arith) ∙ ap (λ t. t || begins_suite (suc n) suites) (eq-eqb (suc n) (suc n) refl) in
            let first : leaf_gap page.leaves (suc n) ≡ (stated x).part.gap = leaf_there (suc n) page.leaves at_.front ls z.back leaves at_.counted inner.extent.some ∙ sym (stated_gap x (flat_map leaves_part xs) solid) in
            let group : comments_in lines ≡ lines_of_leaf page (suc n) = rw (begins, first) refl in
            inner.hosts at_ ∙ (ap (λ (g : List Bytes). statement_hosts page g sts) group ∙ sym (along_first page (suc n) sts inner.starts));
        ends = λ n0 z.
            let after : Lines = lines_of (gap_of z.back) in
            let found : Lines = left_by (suc n) e page.suites (lines_before page.leaves e) in
            let same : found ≡ (all after).1 =
            rw (z.sees.after (suc n) e (omega arith) (omega arith) (omega arith) (lines_before page.leaves e), others (suc n) e (omega arith) (lines_before page.leaves e), lines_there page n e z.front (l ∷ ls) z.back (omega arith) (omega arith) z.leaves z.counted, left (suc n) (omega arith) after) refl in
            rw (sym i, append-nil (end_comments m found), same) refl;
      }
