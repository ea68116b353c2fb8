-- Statements and suites of a legal file are proper, and no comment of them is lost or doubled.
use Rattle.bz_hosts.proofs.Words.{[], ◌++◌, ◌+◌, ◌∙◌, ◌∷◌, ◌≡◌, after_end, after_first_line, after_part, All-from_recursion, all_fine, all_in, all_joined, AllByRecursion, Along, amount, ap, append-nil, append_assoc, append_total, AreComments, AreFine, AreLinesBy, arith, as_list, AtLeaves, AtParts, Begins, Bool, Bytes, bzl_shape, comments_in, comments_of, done, end_comments, end_of-Part, Expr, exprs_in, false, fine_after, fine_comments, fine_lines, first_seen_gap, Fits, GapLine, Group, has_simple_kind, HostComments, if◌then◌else◌, indented_lines_before, inl, inr, is_empty, is_simple, is_taken_line, is_whole_statement, IsCodedLeaf, IsComment, IsNonterminal, IsUtf8, IsUtf8-nil, items-the_row-Part, Kind, Kind as k, last_gap, leaves_part, leaves_row, LegalPart, LegalRow, line_read, lines_of, List, map, margin_of, MaybeComment, more_of-Part, no_such, Node', None, nonterminal_has_kind, only_comment, onward, Option, or_left, Part, Part as p, parts_of_row, ProperBy, ReadStatements, refl, Row_of-Part, Seen, seen, Several, Spot, Stands, stated, statement_read, statements_in, subst, suffix_amount, suffix_before, suffix_fine, suffix_in, suite_in, suite_read, sym, total, true, walked, whole_shape, ℕ}
use Rattle.bz_value.proofs.Begun.{moved_expr}
use Rattle.bz_hosts.proofs.Cuts.{token}
use Rattle.bz_hosts.proofs.InnerParts.{inner_legal, nonterminal_inner, nonterminal_goes, token_goes}
use Rattle.bz_hosts.proofs.KeptValues.{statements_kept, stated_amount, simple_amount, lines_amount}
use Rattle.bz_hosts.proofs.KeptParts.{AllKept, token_part, part_kept}
use Rattle.bz_hosts.proofs.ProperParts.{IsLexed, line_proper}
use Rattle.bz_hosts.proofs.QuietGaps.{Quiet, Statements, in_statements, Silent, part_silent, statements_quiet, line_alternating}
use Rattle.bz_hosts.proofs.RowParts.{on_twice}
use Rattle.bz_hosts.proofs.SeenParts.{all_mapped, all_parted, comments_made, part_decoded, seen_rows, AllDecoded}
use Rattle.bz_hosts.proofs.Sums.{gap_amount, suffix_total, lines_joined, part_amount, row_leaves}
use Rattle.bz_hosts.proofs.HeadParts.{after_stmt}
use Rattle.bz_hosts.proofs.KeptGaps.{newline_comment, newline_ends}
use Rattle.bz_hosts.proofs.Stated.{stated_part, parts_seen, stated_rows}
use Rattle.bz_hosts.proofs.ProperBranches.{Reads, Ends, Known, AllKnown, StatementOf, all_decoded, all_kept, before_lines, before_amount, header_statement}
use Rattle.bz_hosts.proofs.ProperValues.{AreSome, some_joined}
use Rattle.bz_hosts.proofs.SuiteLines.{Lines}
use Rattle.bz_grammar.specs.Shapes as s

-- ---- the last gap of a line

last_decoded : (ss : List Seen) → AllDecoded ss → IsUtf8 (last_gap ss)
last_decoded [] h = IsUtf8-nil
last_decoded (x ∷ []) h = h.0.coded
last_decoded (x ∷ y ∷ ss) h = last_decoded (y ∷ ss) h.1

-- ---- lines

only_fine : (texts : List Bytes) → Group texts → MaybeComment (only_comment texts)
only_fine [] h = tt
only_fine (text ∷ texts) h = h.0

-- the end comments of a suite, and what is left after them
ends_step : (b : Bool) (m : ℕ) (x : GapLine) (xs : Lines) → end_comments m xs ++ comments_in (after_end m xs) ≡ comments_in xs
    → (if b then comments_in (x ∷ []) ++ end_comments m xs else []) ++ comments_in (if b then after_end m xs else x ∷ xs) ≡ comments_in (x ∷ xs)
ends_step true m x xs h = rw (append-nil (as_list x.comment), append_assoc (as_list x.comment) (end_comments m xs) (comments_in (after_end m xs)), h) refl
ends_step false m x xs h = refl

ends_parted : (m : ℕ) (lines : Lines) → end_comments m lines ++ comments_in (after_end m lines) ≡ comments_in lines
ends_parted m [] = refl
ends_parted m (x ∷ xs) = ends_step (is_taken_line m x.indent x.comment) m x xs (ends_parted m xs)

left_step : (b : Bool) (x : GapLine) (xs left : Lines) → AreFine (x ∷ xs) → AreFine left → AreFine (if b then left else x ∷ xs)
left_step true x xs left h f = f
left_step false x xs left h f = h

left_fine : (m : ℕ) (lines : Lines) → AreFine lines → AreFine (after_end m lines)
left_fine m [] h = tt
left_fine m (x ∷ xs) h = left_step (is_taken_line m x.indent x.comment) x xs (after_end m xs) h (left_fine m xs h.1)

ends_fine : (m : ℕ) (lines : Lines) → AreFine lines → Group (end_comments m lines) × AreFine (after_end m lines)
ends_fine m lines h = ((all_parted IsComment (end_comments m lines) (comments_in (after_end m lines)) (subst Group (sym (ends_parted m lines)) (fine_comments lines h))).0, left_fine m lines h)

-- ---- simple statements

small_simple : (kind : Kind) → nonterminal_has_kind s.small kind ≡ true → is_simple kind ≡ true
small_simple k.Bare h = refl
small_simple k.Assign h = refl
small_simple k.Load h = refl
small_simple k.Return h = refl
small_simple k.Flow h = refl
small_simple _ h = no_such h

simple_made : (x : Part) (cs : HostComments) → IsNonterminal s.small x → has_simple_kind ((seen x).make cs false) ≡ true
simple_made (p.Leaf l) cs h = no_such h
simple_made (Node' kind n r) cs h = small_simple kind h

abbrev with_host : List Bytes → Option Bytes → Part → HostComments
with_host above suffix x = record { before = above ++ (seen x).loose; suffix = suffix }

-- ---- statements one after the other

abbrev StatementParts : List Part → Type 0
StatementParts xs = Several (IsNonterminal s.stmt) (Fits IsNonterminal done) xs

module _ (number : Bytes → ℕ) where
  -- proper, with these comments
  abbrev IsStatement : Expr → Type 0
  IsStatement x = (is_whole_statement x ≡ true) × ProperBy whole_shape Begins x × AreComments (comments_of x)

  simple_proper : (here : Spot) (x : Part) (above : List Bytes) (suffix : Option Bytes) → onward here ≡ onward Begins → IsNonterminal s.small x → Known number x → AtLeaves Stands here x → Group above → MaybeComment suffix
      → IsStatement ((seen x).make (with_host above suffix x) false)
  simple_proper here x above suffix e h g at_ a m =
      let cs : HostComments = with_host above suffix x in (
        or_left (has_simple_kind ((seen x).make cs false)) _ (simple_made x cs h),
        moved_expr whole_shape ((seen x).make cs false) here Begins e (g.fit (nonterminal_inner s.small x refl h) here at_ cs false),
        subst AreComments (sym (comments_made x cs false)) (All-from_recursion IsComment (above ++ (seen x).loose) (all_joined IsComment above (seen x).loose a g.decoded.loose), m),
      )

  one_first : (x : Expr) (xs : List Expr) → IsStatement x → AreLinesBy whole_shape is_whole_statement xs → AreSome (x ∷ xs)
  one_first x xs h i = (refl, (h.0, h.1, h.2, i))

  -- the statements of a line, from one on that is here
  simple_some : (outer here : Spot) (above : List Bytes) (xs : List Part) → onward here ≡ onward Begins → Statements xs → AllKnown number xs → AtParts Stands outer here xs → Group above → AreSome (exprs_in (statements_in above (map seen xs)))
  simple_some outer here above [] e h g at_ a = absurd h
  simple_some outer here above (x ∷ []) e h g at_ a = absurd h.1
  simple_some outer here above (x ∷ y ∷ []) e h g at_ a = one_first _ [] (simple_proper here x above (suffix_in (seen y).gap) e h.0 g.0 at_.0 a (suffix_fine (seen y).gap g.1.0.decoded.coded)) tt
  simple_some outer here above (x ∷ y ∷ z ∷ []) e h g at_ a = one_first _ [] (simple_proper here x above (suffix_in (seen z).gap) e h.0 g.0 at_.0 a (suffix_fine (seen z).gap g.1.1.0.decoded.coded)) tt
  simple_some outer here above (x ∷ y ∷ z ∷ u ∷ xs) e (h, inl j) g at_ a = absurd j.1
  simple_some outer here above (x ∷ y ∷ z ∷ u ∷ xs) e (h, inr (m, inr j)) g at_ a = absurd j.1.1
  simple_some outer here above (x ∷ y ∷ z ∷ u ∷ xs) e (h, inr (m, inl j)) g at_ a =
      let there : after_part outer (after_part outer here x) y ≡ onward here = token_goes s.semicolon y refl m outer (after_part outer here x) ∙ (ap onward (nonterminal_goes s.small x refl h outer here) ∙ on_twice here) in
      one_first _ _ (simple_proper here x above None e h g.0 at_.0 a tt) (simple_some outer (onward here) [] (z ∷ u ∷ xs) (on_twice here ∙ e) j g.1.1 (subst (λ q. AtParts Stands outer q (z ∷ u ∷ xs)) there at_.1.1) tt).1

  line_kept : (xs : List Part) → Statements xs → AllKept number xs → Quiet xs → (above : List Bytes) (after : Lines)
      → gap_amount number (first_seen_gap (map seen xs)) + (stated_amount number (line_read (map seen xs) above after).0 + lines_amount number (line_read (map seen xs) above after).1) ≡ total number above + (total (part_amount number) xs + lines_amount number after)
  line_kept [] h g q above after = absurd h
  line_kept (x ∷ []) h g q above after = absurd h.1
  line_kept (x ∷ y ∷ xs) h g q above after =
      omega (arith, statements_kept number above x y xs g (line_alternating (x ∷ y ∷ xs) h) q, simple_amount number above (map seen (x ∷ y ∷ xs)), lines_joined number)

  all_silent : (xs : List Part) → AllKnown number xs → AllByRecursion Silent xs
  all_silent xs g = all_mapped (Known number) Silent (λ x w. w.silent) xs g

  -- the gap of a line's newline
  line_reads : (outer here : Spot) (xs : List Part) → onward here ≡ onward Begins → Statements xs → AllKnown number xs → AtParts Stands outer here xs → StatementOf number xs (line_read (map (λ x. x.part) (map stated xs)))
  line_reads outer here xs e h g at_ = subst (λ ss. StatementOf number xs (line_read ss)) (sym (parts_seen xs)) (λ above after a f.
      let gap : Bytes = last_gap (map seen xs) in
      let following : AreFine (after_first_line (lines_of gap)) = fine_after (lines_of gap) (fine_lines gap (last_decoded (map seen xs) (all_decoded number xs g))) in (
        simple_some outer here above xs e h g at_ a,
        all_joined (λ line. MaybeComment line.comment) (after_first_line (lines_of gap)) after following f,
        line_kept xs h (all_kept number xs g (in_statements xs h)) (statements_quiet outer here xs e h (all_silent xs g) at_) above after,
      ))

  -- the statements are proper, there is one if there is a part, what the lines left say is comments, and none is lost or doubled
  abbrev Walks : List Part → ℕ → ℕ → ReadStatements (List Expr) → Type 0
  Walks xs gap all read = (is_empty xs ≡ false → is_empty read.0 ≡ false) × AreLinesBy whole_shape is_whole_statement read.0 × AreFine read.1 × (gap + (stated_amount number read.0 + lines_amount number read.1) ≡ all)

  walked_proper : (outer : Spot) (lines : Lines) (xs : List Part) (after : Lines) → AreFine lines → StatementParts xs → AllKnown number xs → AtParts Stands outer Begins xs → AreFine after
      → Walks xs (before_amount number xs after) (lines_amount number lines + (total (part_amount number) xs + lines_amount number after)) (walked lines (map stated xs) after)
  walked_proper outer lines [] after l h g at_ f = (λ i. i, tt, l, omega arith)
  walked_proper outer lines (x ∷ xs) after l (inl h) g at_ f = absurd h
  walked_proper outer lines (x ∷ xs) after l (inr h) g at_ f =
      let there : AtParts Stands outer Begins xs = subst (λ z. AtParts Stands outer z xs) (after_stmt x outer Begins h.0) at_.1 in
      let read : ReadStatements (List Expr) = (stated x).statement (comments_in lines) (indented_lines_before (map stated xs) after) in
      let one = g.0.statement h.0 at_.0 (comments_in lines) (indented_lines_before (map stated xs) after) (fine_comments lines l) (before_lines number xs after g.1 f) in
      let following : ReadStatements (List Expr) = walked read.1 (map stated xs) after in
      let more = walked_proper outer read.1 xs after one.1 h.1 g.1 there f in
      let both : AreSome (read.0 ++ following.0) = some_joined read.0 following.0 one.0 more.1 in
      (λ i. both.0, both.1, more.2, omega (arith, ap (λ s. gap_amount number s.gap) (stated_part x), append_total (amount number) read.0 following.0))

  -- ---- suites

  ends_kept : (m : ℕ) (lines : Lines) → total number (end_comments m lines) + lines_amount number (after_end m lines) ≡ lines_amount number lines
  ends_kept m lines = omega (arith, ap (total number) (ends_parted m lines), append_total number (end_comments m lines) (comments_in (after_end m lines)))

  suite_reads : (outer : Spot) (x : Part) (xs : List Part) → StatementParts (x ∷ xs) → AllKnown number (x ∷ xs) → AtParts Stands outer Begins (x ∷ xs) → Ends number None (total (part_amount number) (x ∷ xs)) (suite_read (map stated (x ∷ xs)))
  suite_reads outer x xs h g at_ = (
    tt,
    λ after f.
        let lines : Lines = indented_lines_before (map stated (x ∷ xs)) [] in
        let left : Lines = (walked lines (map stated (x ∷ xs)) after).1 in
        let margin : ℕ = margin_of (map stated (x ∷ xs)) in
        let all = walked_proper outer lines (x ∷ xs) after (before_lines number (x ∷ xs) [] g tt) h g at_ f in
        let fine = ends_fine margin left all.2 in
        ((all.0 refl, all.1), fine.0, fine.1, omega (arith, ends_kept margin left)),
  )

  -- ---- nodes

  -- what is read of these parts as a suite, with its header's suffix
  abbrev SuiteOf : Kind → List Part → Type 0
  SuiteOf kind xs = Ends number (suffix_before kind (map stated xs)) (total (part_amount number) xs) (suite_in kind (map stated xs))

  suite_node : (xs : List Part) → Fits IsNonterminal (bzl_shape k.Suite) xs → AllKnown number xs → AtParts Stands Along Along xs → SuiteOf k.Suite xs
  suite_node [] f g at_ = absurd f
  suite_node (mark ∷ []) f g at_ = absurd f.1
  suite_node (mark ∷ x ∷ xs) f g at_ = (
    subst (λ y. MaybeComment (only_comment (all_in y.gap))) (sym (stated_part mark)) (only_fine (all_in (seen mark).gap) (all_fine (seen mark).gap g.0.decoded.coded)),
    λ after b.
        let there : AtParts Stands Along Begins (x ∷ xs) = subst (λ z. AtParts Stands Along z (x ∷ xs)) (newline_ends mark Along Along f.0) at_.1 in
        let all = (suite_reads Along x xs (inr (f.1.0, f.1.1)) g.1 there).1 after b in
        let suffix = ap (λ s. suffix_amount number (only_comment (all_in s.gap))) (stated_part mark) ∙ (sym (suffix_total number (only_comment (all_in (seen mark).gap))) ∙ ap (total number) (sym (newline_comment mark f.0 at_.0))) in
        (all.0, all.1, all.2, omega (arith, token_part number mark (token s.newline mark f.0))),
  )

  -- in the place of a suite nothing is before it
  first_silent : (xs : List Part) → Statements xs → AllByRecursion Silent xs → AtParts Stands Along Along xs → gap_amount number (first_seen_gap (map seen xs)) ≡ 0
  first_silent [] h g at_ = absurd h
  first_silent (x ∷ xs) h g at_ = ap (total number) (g.0 (nonterminal_inner s.small x refl h.0) at_.0)

  line_node : (xs : List Part) → Statements xs → AllKnown number xs → AtParts Stands Along Along xs → SuiteOf k.Line xs
  line_node xs f g at_ = (
    tt,
    λ after b.
        let one = line_reads Along Along xs refl f g at_ [] after tt b in
        (one.0, tt, one.1, omega (arith, first_silent xs f (all_silent xs g) at_)),
  )

  node_suite : (kind : Kind) (xs : List Part) → nonterminal_has_kind s.suite kind ≡ true → Fits IsNonterminal (bzl_shape kind) xs → AllKnown number xs → AtParts Stands Along Along xs → SuiteOf kind xs
  node_suite k.Line xs h f g at_ = line_node xs f g at_
  node_suite k.Suite xs h f g at_ = suite_node xs f g at_
  node_suite _ xs h f g at_ = no_such h

  node_statement : (kind : Kind) (xs : List Part) → nonterminal_has_kind s.stmt kind ≡ true → Fits IsNonterminal (bzl_shape kind) xs → AllKnown number xs → AtParts Stands Begins Begins xs → StatementOf number xs (statement_read kind (map stated xs))
  node_statement k.Line xs h f g at_ = line_reads Begins Begins xs refl f g at_
  node_statement k.Def xs h f g at_ = header_statement number k.Def refl xs f g at_
  node_statement k.IfStmt xs h f g at_ = header_statement number k.IfStmt refl xs f g at_
  node_statement k.ForStmt xs h f g at_ = header_statement number k.ForStmt refl xs f g at_
  node_statement _ xs h f g at_ = no_such h

  -- ---- parts

  mutual
    pub part_known : (x : Part) → LegalPart x → AllByRecursion IsLexed (leaves_part x) → AllByRecursion IsCodedLeaf (leaves_part x) → Known number x
    part_known (p.Leaf l) h v u = record { decoded = part_decoded (p.Leaf l) u; fit = line_proper (p.Leaf l) h v u; kept = λ i. part_kept number (p.Leaf l) (inner_legal (p.Leaf l) i h); silent = part_silent (p.Leaf l) h; statement = λ i at_. no_such i; suite = λ i at_. no_such i }
    part_known (Node' kind n r) h v u =
        let x : Part = Node' kind n r in
        let xs : List Part = items-the_row-Part _ r in
        let known : AllKnown number xs = parts_known _ r h.1 v u in
        let gap : gap_amount number (first_seen_gap (map seen xs)) ≡ gap_amount number (seen x).gap = ap (λ ss. gap_amount number (first_seen_gap ss)) (sym (seen_rows _ r)) in
        let own : total (part_amount number) xs ≡ part_amount number x = sym (row_leaves number _ r) in
        record {
          decoded = part_decoded x u;
          fit = line_proper x h v u;
          kept = λ i. part_kept number x (inner_legal x i h);
          silent = part_silent x h;
          statement = λ i at_.
              subst (λ ss. Reads number (gap_amount number (seen x).gap) (part_amount number x) (statement_read kind ss)) (sym (stated_rows _ r))
              (subst (λ z. Reads number z (part_amount number x) (statement_read kind (map stated xs))) gap
              (subst (λ z. Reads number (gap_amount number (first_seen_gap (map seen xs))) z (statement_read kind (map stated xs))) own
              (node_statement kind xs i h.0 known (parts_of_row Stands Begins Begins _ r at_))));
          suite = λ i at_.
              subst (λ ss. Ends number (suffix_before kind ss) (part_amount number x) (suite_in kind ss)) (sym (stated_rows _ r))
              (subst (λ z. Ends number (suffix_before kind (map stated xs)) z (suite_in kind (map stated xs))) own
              (node_suite kind xs i h.0 known (parts_of_row Stands Along Along _ r at_)));
        }

    pub parts_known : (m : _) (r : Row_of-Part m) → LegalRow r → AllByRecursion IsLexed (leaves_row r) → AllByRecursion IsCodedLeaf (leaves_row r) → AllKnown number (items-the_row-Part m r)
    parts_known m end_of-Part h v u = tt
    parts_known m (more_of-Part x rest) h v u =
        let a = all_parted IsLexed (leaves_part x) (leaves_row rest) v in
        let c = all_parted IsCodedLeaf (leaves_part x) (leaves_row rest) u in
        (part_known x h.0 a.0 c.0, parts_known _ rest h.1 a.1 c.1)
