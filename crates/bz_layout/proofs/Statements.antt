-- Statements and suites as they are laid out, each by what is known of what is inside it: they have the shapes of their kinds, are at
-- their margins, and their tokens are where they may be and are those of the text.
use Rattle.bz_layout.proofs.Words.{[], ◌&&◌, ◌++◌, ◌+◌, ◌||◌, ◌∙◌, ◌∷◌, ◌≡◌, ℕ, after_part, All, all_joined, AllByRecursion, Along, alternative_parts, alternatives_fit, and_parts, ap, append-nil, append_assoc, AreComments, AreIndented, AreTokens, arith, as_bzl, at_margin, AtLeaves, AtParts, Begins, Bool, Bytes, bytes_eq, bzl_shape, codes, comments_of, compound, else_last, end_of-Expr, eqb-true, Expr, false, first_indent, firsts, Fits, flat_map, flat_map-append, Form', Frame, frame, gap_to_margin, has_simple_kind, has_suite, headed_by, header_word, if◌then◌else◌, in_frame, indent, Indented as Comments, indented_lines, indented_row, inl, inr, is_alternative, is_branch, is_compound, is_empty, is_headed_by, is_simple, is_whole_statement, IsCodedLeaf, IsComment, IsNonterminal, IsSomeRow, items-the_row-Expr, items_of_row, Kind, Kind as k, last_left, Leaf, leaves_Node, leaves_part, left_of, LegalPart, line_feed, line_shape, Lines, List, mark_leaf, MaybeComment, more_of-Expr, narrow_expr, newline_part, no_more, no_such, Node, node_by_frame, not-true, of_bzl_shapes, once_more, Option, or_cases, Owned, Part, part_of, parts_in, parts_indented, parts_join, parts_of, ProperBy, ProperHeaderBy, ProperLinesBy, recursion_from_All, refl, replicate, replicate-append-replicate, row, row_of, Row_of-Expr, same_kind, sequence, Several, space, spell_leaves, Spot, spot_after, Stands, statement_part, statement_parts, subst, suffix_text, suite_part, sym, Token, true, true≢false, whole_shape, with_more_parts}
use Rattle.bz_token.specs.declared.class.Class.TheVariants as c
use Rattle.bz_grammar.specs.declared.tree.Part.TheVariants as p
use Rattle.bz_grammar.specs.Shapes as s
use Rattle.bz_grammar.specs.Indents.{Indented}
use Rattle.bz_layout.proofs.{BackLines.AreLeft, BackLines.left_at, BuildLaid.simple_expr, Fitted.Child, Held.at_leaves, Held.at_parts, Held.leaves_hold, Held.tokens_before, Held.newline_follows, LegalParts.Begin, LegalParts.laid_out_good, Margins.FitsFlush, Margins.coded_byte, Margins.first_nothing, Margins.newline_gap, Margins.none_fits, Made.parts_values, ReadBack.expr_back, Readable.readable, Standing.Placed, Standing.placed, Standing.at_node, Standing.laid_out_stands, Stops.lone_before, Touching.IsLex, Touching.ends_plain, Touching.tokens, GapLines.comments_flush, GapLines.ToMargin, GapLines.to_margin, Headers.OfKind, Headers.HasSort, Headers.IsHeader, Headers.IsHeaded, Headers.elif_shape, Headers.else_shape, Headers.header_is}

-- ---- what holds of each leaf

-- A leaf is where it may be, and is of texts of characters.
pub record IsPut (here : Spot) (leaf : Leaf) : Type 0 where
  pub stands : Stands here leaf
  pub coded : IsCodedLeaf leaf

is_put : (here : Spot) (l : Leaf) → Placed here l → IsPut here l
is_put here l h = record { stands = h.stands; coded = h.coded }

-- ---- parts at a margin

after_both : (outer here : Spot) (xs ys : List Part) → spot_after outer here (xs ++ ys) ≡ spot_after outer (spot_after outer here xs) ys
after_both outer here [] ys = refl
after_both outer here (x ∷ xs) ys = after_both outer (after_part outer here x) xs ys

-- Parts of a statement or of an alternative at this margin, and what follows them begins a line.
record AreAt (m : ℕ) (ps : List Part) : Type 0 where
  legal : AllByRecursion LegalPart ps
  owned : AllByRecursion (Owned (replicate m space)) ps
  there : AtParts IsPut Begins Begins ps
  following : spot_after Begins Begins ps ≡ Begins
  tokens_then : (rest : List Leaf) → AreTokens rest → AreTokens (flat_map leaves_part ps ++ rest)

both_at : (m : ℕ) (ps qs : List Part) → AreAt m ps → AreAt m qs → AreAt m (ps ++ qs)
both_at m ps qs h i = record {
  legal = all_joined LegalPart ps qs h.legal i.legal;
  owned = all_joined (Owned (replicate m space)) ps qs h.owned i.owned;
  there = parts_join IsPut Begins Begins ps qs h.there (subst (λ z. AtParts IsPut Begins z qs) (sym h.following) i.there);
  following = after_both Begins Begins ps qs ∙ (ap (λ z. spot_after Begins z qs) h.following ∙ i.following);
  tokens_then = λ rest r.
      subst AreTokens (sym (ap (λ z. z ++ rest) (flat_map-append leaves_part ps qs) ∙ append_assoc (flat_map leaves_part ps) (flat_map leaves_part qs) rest)) (h.tokens_then (flat_map leaves_part qs ++ rest) (i.tokens_then rest r));
}

-- A statement at this margin.
pub record IsAt (m : ℕ) (x : Part) : Type 0 where
  pub legal : LegalPart x
  pub sort : IsNonterminal s.stmt x
  pub indented : Indented (replicate m space) x
  pub there : AtLeaves IsPut Begins x
  pub begins : (outer : Spot) → after_part outer Begins x ≡ Begins
  pub tokens_then : (rest : List Leaf) → AreTokens rest → AreTokens (leaves_part x ++ rest)

statement_at : (m : ℕ) (kind : Kind) (ps : List Part) → AreAt m ps → first_indent (flat_map leaves_part ps) ≡ replicate m space →
    OfKind kind ps → IsAt m (p.Node (record { kind = kind; parts = ps }))
statement_at m kind ps h first known =
    let n : Node = record { kind = kind; parts = ps } in
    record {
      legal = of_bzl_shapes n (known.0, h.legal);
      sort = known.1;
      indented = parts_indented (replicate m space) n first h.owned;
      there = at_node IsPut Begins n h.there;
      begins = λ outer. known.2;
      tokens_then = λ rest r. subst (λ z. AreTokens (z ++ rest)) (sym (leaves_Node n)) (h.tokens_then rest r);
    }

-- ---- a statement without a suite

abbrev IsSmall : Part → Type 0
IsSmall y = IsNonterminal s.small y × (after_part Begins Begins y ≡ Along) × ((i : Bytes) → Owned i y)

first_leaf : (gap : Bytes) (ls ms : List Leaf) → Begin gap ls → first_indent (ls ++ ms) ≡ indent gap
first_leaf gap ls ms h = ap (λ z. first_indent (z ++ ms)) h.2 ∙ ap indent h.3

-- ---- statements one below the other

-- What is known of a statement, and of the comments that it leaves to what follows.
pub record IsStatement (x : Child) : Type 0 where
  pub laid : (m : ℕ) (lines : Bytes) → FitsFlush lines → IsAt m (statement_part m lines x)
  pub leaves : (m : ℕ) → AreLeft (left_of m x.0)

last_leaves : (m : ℕ) (cs : Comments) (xs : List Child) → AreLeft cs → AllByRecursion IsStatement xs → AreLeft (last_left m cs (firsts xs))
last_leaves m cs [] h i = h
last_leaves m cs (x ∷ xs) h i = last_leaves m (left_of m x.0) xs (i.0.leaves m) i.1

-- Statements at this margin.
record AreBelow (m : ℕ) (ps : List Part) : Type 0 where
  legal : AllByRecursion LegalPart ps
  sorts : Several (IsNonterminal s.stmt) (Fits IsNonterminal s.done) ps
  indented : AreIndented (replicate m space) ps
  there : (outer : Spot) → AtParts IsPut outer Begins ps
  tokens_then : (rest : List Leaf) → AreTokens rest → AreTokens (flat_map leaves_part ps ++ rest)

all_below : (m : ℕ) (lines : Bytes) (xs : List Child) → FitsFlush lines → AllByRecursion IsStatement xs → AreBelow m (statement_parts m lines xs)
all_below m lines [] w h = record { legal = tt; sorts = tt; indented = tt; there = λ outer. tt; tokens_then = λ rest r. r }
all_below m lines (x ∷ xs) w h =
    let here : IsAt m (statement_part m lines x) = h.0.laid m lines w in
    let next : Bytes = indented_lines (left_of m x.0) in
    let more : AreBelow m (statement_parts m next xs) = all_below m next xs (comments_flush (left_of m x.0) (h.0.leaves m)) h.1 in
    record {
      legal = (here.legal, more.legal);
      sorts = inr (here.sort, more.sorts);
      indented = (here.indented, more.indented);
      there = λ outer. (here.there, subst (λ z. AtParts IsPut outer z (statement_parts m next xs)) (sym (here.begins outer)) (more.there outer));
      tokens_then = λ rest r.
          subst AreTokens (sym (append_assoc (leaves_part (statement_part m lines x)) (flat_map leaves_part (statement_parts m next xs)) rest))
          (here.tokens_then (flat_map leaves_part (statement_parts m next xs) ++ rest) (more.tokens_then rest r));
    }

-- ---- a header with its suite

deeper_margin : (m : ℕ) → replicate (m + 4) space ≡ replicate m space ++ space ∷ replicate 3 space
deeper_margin m = sym (replicate-append-replicate m 4 space)

suite_owned : (m : ℕ) (ps : List Part) → AreIndented (replicate (m + 4) space) ps → Owned (replicate m space) (p.Node (record { kind = k.Suite; parts = ps }))
suite_owned m ps h =
    let n : Node = record { kind = k.Suite; parts = ps } in
    let deeper : Bytes = replicate m space ++ space ∷ replicate 3 space in
    (space, replicate 3 space, indented_row deeper _ (row_of n).1 (subst (AreIndented deeper) (sym (items_of_row n)) (subst (λ i. AreIndented i ps) (deeper_margin m) h)))

abbrev IsFull : List Child → Type 0
IsFull [] = ⊥
IsFull (x ∷ xs) = Unit {0}

branch_leaves : (header newline statements suite rest : List Leaf) (colon : Leaf) → suite ≡ newline ++ statements → (header ++ (colon ∷ (suite ++ []))) ++ rest ≡ header ++ (colon ∷ (newline ++ (statements ++ rest)))
branch_leaves header newline statements suite rest colon e = ap (λ z. (header ++ (colon ∷ (z ++ []))) ++ rest) e ∙ simp (append_assoc, append-nil)

abbrev colon_leaf : Leaf
colon_leaf = record { class = c.Mark; gap = []; token = 58 ∷ [] }

-- ---- alternatives

-- What is known of an alternative.
record IsBranch (x : Child) : Type 0 where
  laid : (m : ℕ) (gap : Bytes) → ToMargin m gap → AreAt m (parts_in (x.1 gap m))
  fits : (m : ℕ) (gap : Bytes) → Fits IsNonterminal (if is_headed_by (codes "elif") x.0 then elif_shape else else_shape) (parts_in (x.1 gap m))
  above : AllByRecursion IsComment (comments_of x.0).before
  leaves : (m : ℕ) → AreLeft (left_of m x.0)

alternatives_at : (m : ℕ) (lines : Bytes) (xs : List Child) → FitsFlush lines → AllByRecursion IsBranch xs → AreAt m (alternative_parts m lines xs)
alternatives_at m lines [] w h = record { legal = tt; owned = tt; there = tt; following = refl; tokens_then = λ rest r. r }
alternatives_at m lines (x ∷ xs) w h =
    let gap : Bytes = gap_to_margin m lines (comments_of x.0).before in
    both_at m (parts_in (x.1 gap m)) (alternative_parts m (indented_lines (left_of m x.0)) xs) (h.0.laid m gap (to_margin m lines (comments_of x.0).before w h.0.above)) (alternatives_at m (indented_lines (left_of m x.0)) xs (comments_flush (left_of m x.0) (h.0.leaves m)) h.1)

last_fits : (m : ℕ) (gap : Bytes) (x : Child) (xs : List Child) (elif : Bool) → IsBranch x → is_headed_by (codes "elif") x.0 ≡ elif → ((is_empty (firsts xs) || elif) && else_last (firsts xs)) ≡ true
    → (else_last (firsts xs) ≡ true → (lines : Bytes) → Fits IsNonterminal s.branches (alternative_parts m lines xs)) → (lines : Bytes) → Fits IsNonterminal s.branches (parts_in (x.1 gap m) ++ alternative_parts m lines xs)
last_fits m gap x xs true h e last more lines =
    once_more (parts_in (x.1 gap m)) (alternative_parts m lines xs) refl (subst (λ b. Fits IsNonterminal (if b then elif_shape else else_shape) (parts_in (x.1 gap m))) e (h.fits m gap)) (more (and_parts _ _ last).1 lines)
last_fits m gap x [] false h e last more lines =
    no_more (inl (subst (Fits IsNonterminal else_shape) (sym (append-nil (parts_in (x.1 gap m)))) (subst (λ b. Fits IsNonterminal (if b then elif_shape else else_shape) (parts_in (x.1 gap m))) e (h.fits m gap))))
last_fits m gap x (y ∷ ys) false h e last more lines = no_such last

others_fit : (m : ℕ) (lines : Bytes) (xs : List Child) → AllByRecursion IsBranch xs → else_last (firsts xs) ≡ true → Fits IsNonterminal s.branches (alternative_parts m lines xs)
others_fit m lines [] h last = no_more (inr tt)
others_fit m lines (x ∷ xs) h last =
    last_fits m (gap_to_margin m lines (comments_of x.0).before) x xs (is_headed_by (codes "elif") x.0) h.0 refl last (λ e others. others_fit m others xs h.1 e) (indented_lines (left_of m x.0))

-- ---- suites

none_last : (xs : List Child) → is_empty (firsts xs) ≡ true → else_last (firsts xs) ≡ true
none_last [] h = refl
none_last (x ∷ xs) h = no_such h

-- a word that is another one
not_word : (P : Bytes → Bool) {A : Type 0} {word other : Bytes} → word ≡ other → P other ≡ false → P word ≡ true → A
not_word P e n h = absurd (true≢false (sym h ∙ (ap P e ∙ n)))

-- a header, its colon, its suite, and others
abbrev headed : List Part → List Part → List Part → List Part
headed header ps others = header ++ (mark_leaf 58 ∷ p.Node (record { kind = k.Suite; parts = ps }) ∷ others)

-- a header, its suite and alternatives are a statement of its kind
of_kind : (word : Bytes) (kind : Kind) (header : List Part) → HasSort word kind header → (m : ℕ) (ps : List Part) (lines : Bytes) (others : List Child) → AllByRecursion IsBranch others →
    (is_empty (firsts others) || (bytes_eq word (codes "if") && else_last (firsts others))) ≡ true → (bytes_eq word (codes "elif") || bytes_eq word (codes "else")) ≡ false → OfKind kind (headed header ps (alternative_parts m lines others))
of_kind word kind header (inl (e, f)) m ps lines [] b fit n = f (mark_leaf 58 ∷ p.Node (record { kind = k.Suite; parts = ps }) ∷ []) (refl, (refl, tt))
of_kind word kind header (inl (e, f)) m ps lines (y ∷ ys) b fit n = not_word (λ w. bytes_eq w (codes "if") && else_last (firsts (y ∷ ys))) e refl fit
of_kind word kind header (inr (inl (e, f))) m ps lines others b fit n =
    let last : else_last (firsts others) ≡ true = elim (or_cases (is_empty (firsts others)) _ fit) [ inl g ↦ none_last others g | inr g ↦ (and_parts _ _ g).1 ] in
    f (mark_leaf 58 ∷ p.Node (record { kind = k.Suite; parts = ps }) ∷ alternative_parts m lines others) (refl, (refl, others_fit m lines others b last))
of_kind word kind header (inr (inr (inl (e, f)))) m ps lines others b fit n = absurd (true≢false (sym (ap (λ w. bytes_eq w (codes "elif") || bytes_eq w (codes "else")) e) ∙ n))
of_kind word kind header (inr (inr (inr (e, f)))) m ps lines others b fit n = absurd (true≢false (sym (ap (λ w. bytes_eq w (codes "elif") || bytes_eq w (codes "else")) e) ∙ n))

-- an alternative has the shape that goes with its word
abbrev OfWord : Bytes → List Part → Type 0
OfWord word ps = Fits IsNonterminal (if bytes_eq word (codes "elif") then elif_shape else else_shape) ps

of_word : (word : Bytes) (kind : Kind) (header : List Part) → HasSort word kind header → (ps : List Part) → (bytes_eq word (codes "elif") || bytes_eq word (codes "else")) ≡ true → OfWord word (headed header ps [])
of_word word kind header (inl (e, f)) ps n = not_word (λ w. bytes_eq w (codes "elif") || bytes_eq w (codes "else")) e refl n
of_word word kind header (inr (inl (e, f))) ps n = not_word (λ w. bytes_eq w (codes "elif") || bytes_eq w (codes "else")) e refl n
of_word word kind header (inr (inr (inl (e, f)))) ps n = subst (λ w. OfWord w (headed header ps [])) (sym e) (f (mark_leaf 58 ∷ p.Node (record { kind = k.Suite; parts = ps }) ∷ []) (refl, (refl, tt)))
of_word word kind header (inr (inr (inr (e, f)))) ps n = subst (λ w. OfWord w (headed header ps [])) (sym e) (f (mark_leaf 58 ∷ p.Node (record { kind = k.Suite; parts = ps }) ∷ []) (refl, (refl, tt)))

-- ---- a suite as a statement, and as an alternative

suited : (m : ℕ) (lines : Bytes) (x : Child) → has_suite x.0 ≡ true → x.1 (gap_to_margin m lines (comments_of x.0).before) m ≡ statement_part m lines x
suited m lines x e =
    let own : Part = x.1 (gap_to_margin m lines (comments_of x.0).before) m in
    ap (λ z. if z then own else p.Node (record { kind = k.Line; parts = own ∷ newline_part (comments_of x.0).suffix ∷ [] })) (sym e)

-- ---- all statements

alternative_suited : (x : Expr) → is_alternative x ≡ true → has_suite x ≡ true
alternative_suited (Token t) h = no_such h
alternative_suited (Form' kind z parts z' items end split open_break comments) h = ap (λ z. is_compound (frame z)) (same_kind kind k.Suite (eqb-true _ _ (and_parts _ _ h).0))

module _ (mode : Lines) where
  -- ---- what holds of each leaf

  -- the newline after a suffix
  newline_put : (suffix : Option Bytes) → MaybeComment suffix → AtLeaves IsPut Along (newline_part suffix)
  newline_put suffix h = let w = newline_gap suffix h in record { stands = (true, w.0); coded = (w.1, coded_byte line_feed (omega arith)) }

  -- ---- a statement without a suite

  small_node : (kind : Kind) (split open_break : Bool) (suffix : Option Bytes) (gap : Bytes) (m : ℕ) (ps xs : List Child) (end : List Bytes) → is_simple kind ≡ true → IsSmall (node_by_frame mode (frame kind) kind split open_break suffix gap m ps xs end)
  small_node k.Bare split open_break suffix gap m ps xs end h = (refl, refl, λ i. tt)
  small_node k.Assign split open_break suffix gap m ps xs end h = (refl, refl, λ i. tt)
  small_node k.Load split open_break suffix gap m ps xs end h = (refl, refl, λ i. tt)
  small_node k.Return split open_break suffix gap m ps xs end h = (refl, refl, λ i. tt)
  small_node k.Flow split open_break suffix gap m ps xs end h = (refl, refl, λ i. tt)
  small_node _ split open_break suffix gap m ps xs end h = no_such h

  small_part : (x : Expr) → has_simple_kind x ≡ true → (gap : Bytes) (m : ℕ) → IsSmall (part_of mode x gap m)
  small_part (Token t) h gap m = no_such h
  small_part (Form' kind z parts z' items end split open_break comments) h gap m = small_node kind split open_break comments.suffix gap m (parts_of mode parts) (parts_of mode items) end h

  abbrev newline_leaf : Option Bytes → Leaf
  newline_leaf suffix = record { class = c.Newline; gap = suffix_text suffix; token = line_feed ∷ [] }

  line_at : (x : Expr) → has_simple_kind x ≡ true → ProperBy line_shape Begins x → MaybeComment (comments_of x).suffix → (m : ℕ) (gap : Bytes) → ToMargin m gap → IsAt m (p.Node (record { kind = k.Line; parts = part_of mode x gap m ∷ newline_part (comments_of x).suffix ∷ [] }))
  line_at x e h comment m gap margin =
      let suffix : Option Bytes = (comments_of x).suffix in
      let part : Part = part_of mode x gap m in
      let small : IsSmall part = small_part x e gap m in
      let good = laid_out_good mode Begins x h in
      let there : AtLeaves Placed Begins part = laid_out_stands mode Begins x h gap m margin.fits in
      statement_at m k.Line (part ∷ newline_part suffix ∷ []) (record {
        legal = (as_bzl part (good.legal gap m), (tt, tt));
        owned = (small.2 (replicate m space), (λ a. no_such a, tt));
        there = (at_leaves Placed IsPut is_put Begins part there, (subst (λ z. AtLeaves IsPut z (newline_part suffix)) (sym small.1) (newline_put suffix comment), tt));
        following = refl;
        tokens_then = λ rest r.
            subst AreTokens (sym (append_assoc (leaves_part part) (newline_leaf suffix ∷ []) rest))
            (tokens_before (leaves_part part) (newline_leaf suffix ∷ rest)
            (tokens part (good.legal gap m) (leaves_hold Placed IsLex (λ here l q. q.lexeme) Begins part there) (good.airy gap m) (spell_leaves (newline_leaf suffix ∷ rest)) (newline_follows (ends_plain part) suffix (spell_leaves rest))) (inl refl, r));
      }) (first_leaf gap (leaves_part part) _ (good.stands.starts gap m) ∙ margin.indented) ((small.0, inl (refl, tt)), refl, refl)

  -- ---- a header with its suite

  suite_fits : (m : ℕ) (suffix : Option Bytes) (xs : List Child) → IsFull xs → AllByRecursion IsStatement xs → Fits IsNonterminal (bzl_shape k.Suite) (newline_part suffix ∷ statement_parts m [] xs)
  suite_fits m suffix [] f h = absurd f
  suite_fits m suffix (x ∷ xs) f h = (refl, ((h.0.laid m [] first_nothing).sort, (all_below m (indented_lines (left_of m x.0)) xs (comments_flush (left_of m x.0) (h.0.leaves m)) h.1).sorts))

  -- with its colon
  branch_at : (m : ℕ) (gap : Bytes) (header : List Part) (suffix : Option Bytes) (xs : List Child) → IsHeader gap header → ToMargin m gap → MaybeComment suffix → IsFull xs → AllByRecursion IsStatement xs → AreAt m (header ++ (mark_leaf 58 ∷ suite_part m suffix xs ∷ []))
  branch_at m gap header suffix xs known margin comment full h =
      let inner : List Part = statement_parts (m + 4) [] xs in
      let suite : Node = record { kind = k.Suite; parts = newline_part suffix ∷ inner } in
      let below : AreBelow (m + 4) inner = all_below (m + 4) [] xs first_nothing h in
      let back : List Part = mark_leaf 58 ∷ p.Node suite ∷ [] in
      record {
        legal = all_joined LegalPart header back known.legal (tt, (of_bzl_shapes suite (suite_fits (m + 4) suffix xs full h, (tt, below.legal)), tt));
        owned = all_joined (Owned (replicate m space)) header back (known.owned (replicate m space) margin.indented) ((λ a. no_such a), (suite_owned m (newline_part suffix ∷ inner) (tt, below.indented), tt));
        there = parts_join IsPut Begins Begins header back (at_parts Placed IsPut is_put Begins Begins header known.there)
            (subst (λ z. AtParts IsPut Begins z back) (sym known.following)
            (is_put Along colon_leaf (placed c.Mark [] (58 ∷ []) Along refl (coded_byte 58 (omega arith)) (none_fits Along refl)), (at_node IsPut Along suite (newline_put suffix comment, below.there Along), tt)));
        following = after_both Begins Begins header back;
        tokens_then = λ rest r.
            let after : List Leaf = newline_leaf suffix ∷ (flat_map leaves_part inner ++ rest) in
            subst AreTokens (sym (ap (λ z. z ++ rest) (flat_map-append leaves_part header back) ∙ branch_leaves (flat_map leaves_part header) (newline_leaf suffix ∷ []) (flat_map leaves_part inner) (leaves_part (p.Node suite)) rest colon_leaf (leaves_Node suite)))
            (tokens_before (flat_map leaves_part header) (colon_leaf ∷ after) (known.tokens_then (spell_leaves after)) (lone_before (58 ∷ []) (spell_leaves after) refl, (inl refl, below.tokens_then rest r)));
      }

  -- ---- suites

  -- What is known of a suite: its header, its statements and end comments, and its alternatives.
  record IsSuite (x : Child) : Type 0 where
    head : Expr
    others : List Child
    items : List Child
    end : List Bytes
    headed : IsHeaded mode head
    laid : (gap : Bytes) (m : ℕ) → x.1 gap m ≡ with_more_parts (part_of mode head gap m) (mark_leaf 58 ∷ suite_part m (comments_of x.0).suffix items ∷ alternative_parts m (indented_lines (last_left (m + 4) [] (firsts items) ++ at_margin (m + 4) end)) others)
    word : (w : Bytes) → is_headed_by w x.0 ≡ bytes_eq (header_word head) w
    alone : is_alternative x.0 ≡ true → (others ≡ []) × ((bytes_eq (header_word head) (codes "elif") || bytes_eq (header_word head) (codes "else")) ≡ true)
    fit : alternatives_fit head (firsts others) ≡ true
    full : IsFull items
    each : AllByRecursion IsStatement items
    branches : AllByRecursion IsBranch others
    ends : AllByRecursion IsComment end

  module _ (x : Child) (u : IsSuite x) where
    abbrev suffix : Option Bytes
    suffix = (comments_of x.0).suffix

    abbrev lines_left : ℕ → Bytes
    lines_left m = indented_lines (last_left (m + 4) [] (firsts u.items) ++ at_margin (m + 4) u.end)

    -- a header up to its colon, its suite, and the alternatives
    abbrev all_parts : ℕ → Bytes → List Part
    all_parts m gap = u.headed.parts gap m ++ (mark_leaf 58 ∷ suite_part m suffix u.items ∷ alternative_parts m (lines_left m) u.others)

    suite_laid : (m : ℕ) (gap : Bytes) → x.1 gap m ≡ p.Node (record { kind = u.headed.kind; parts = all_parts m gap })
    suite_laid m gap =
        let more : List Part = mark_leaf 58 ∷ suite_part m suffix u.items ∷ alternative_parts m (lines_left m) u.others in
        u.laid gap m ∙ (ap (λ z. with_more_parts z more) (u.headed.laid gap m) ∙ ap (λ z. p.Node (record { kind = u.headed.kind; parts = z ++ more })) (items_of_row (record { kind = u.headed.kind; parts = u.headed.parts gap m })))

    lines_flush : (m : ℕ) → FitsFlush (lines_left m)
    lines_flush m = comments_flush (last_left (m + 4) [] (firsts u.items) ++ at_margin (m + 4) u.end) (all_joined (λ c. IsComment c.1) (last_left (m + 4) [] (firsts u.items)) (at_margin (m + 4) u.end) (last_leaves (m + 4) [] u.items tt u.each) (left_at (m + 4) u.end u.ends))

    suite_at : (m : ℕ) (gap : Bytes) → ToMargin m gap → MaybeComment suffix → AreAt m (all_parts m gap)
    suite_at m gap margin comment =
        let header : List Part = u.headed.parts gap m in
        let suite : List Part = mark_leaf 58 ∷ suite_part m suffix u.items ∷ [] in
        let alternatives : List Part = alternative_parts m (lines_left m) u.others in
        subst (AreAt m) (append_assoc header suite alternatives) (both_at m (header ++ suite) alternatives (branch_at m gap header suffix u.items (u.headed.known gap m margin.fits) margin comment u.full u.each) (alternatives_at m (lines_left m) u.others (lines_flush m) u.branches))

  -- ---- a suite as a statement, and as an alternative

  suite_statement : (x : Child) → has_suite x.0 ≡ true → IsSuite x → (is_headed_by (codes "elif") x.0 || is_headed_by (codes "else") x.0) ≡ false → AreComments (comments_of x.0) → ((m : ℕ) → AreLeft (left_of m x.0)) → IsStatement x
  suite_statement x e u n comments leaves = record {
    laid = λ m lines w.
        let gap : Bytes = gap_to_margin m lines (comments_of x.0).before in
        let margin : ToMargin m gap = to_margin m lines (comments_of x.0).before w (recursion_from_All IsComment (comments_of x.0).before comments.0) in
        let header : List Part = u.headed.parts gap m in
        subst (IsAt m) (sym (suite_laid x u m gap) ∙ suited m lines x e)
        (statement_at m u.headed.kind (all_parts x u m gap) (suite_at x u m gap margin comments.1)
        (ap first_indent (flat_map-append leaves_part header _) ∙ (first_leaf gap (flat_map leaves_part header) _ (u.headed.known gap m margin.fits).begins ∙ margin.indented))
        (of_kind (header_word u.head) u.headed.kind header (u.headed.sort gap m) m _ (lines_left x u m) u.others u.branches u.fit (ap (λ z. z || bytes_eq (header_word u.head) (codes "else")) (sym (u.word (codes "elif"))) ∙ (ap (λ z. is_headed_by (codes "elif") x.0 || z) (sym (u.word (codes "else"))) ∙ n))));
    leaves = leaves;
  }

  suite_branch : (x : Child) → is_alternative x.0 ≡ true → IsSuite x → AreComments (comments_of x.0) → ((m : ℕ) → AreLeft (left_of m x.0)) → IsBranch x
  suite_branch x e u comments leaves =
      let alone = u.alone e in
      let here : (m : ℕ) (gap : Bytes) → parts_in (x.1 gap m) ≡ all_parts x u m gap = λ m gap. ap parts_in (suite_laid x u m gap) ∙ items_of_row (record { kind = u.headed.kind; parts = all_parts x u m gap }) in
      let one : (m : ℕ) (gap : Bytes) → all_parts x u m gap ≡ u.headed.parts gap m ++ (mark_leaf 58 ∷ suite_part m (comments_of x.0).suffix u.items ∷ []) =
      λ m gap. ap (λ z. u.headed.parts gap m ++ (mark_leaf 58 ∷ suite_part m (comments_of x.0).suffix u.items ∷ alternative_parts m (lines_left x u m) z)) alone.0 in
      record {
        laid = λ m gap margin. subst (AreAt m) (sym (here m gap)) (suite_at x u m gap margin comments.1);
        fits = λ m gap.
            subst (Fits IsNonterminal (if is_headed_by (codes "elif") x.0 then elif_shape else else_shape)) (sym (here m gap ∙ one m gap))
            (subst (λ b. Fits IsNonterminal (if b then elif_shape else else_shape) (u.headed.parts gap m ++ (mark_leaf 58 ∷ suite_part m (comments_of x.0).suffix u.items ∷ []))) (sym (u.word (codes "elif")))
            (of_word (header_word u.head) u.headed.kind (u.headed.parts gap m) (u.headed.sort gap m) _ alone.1));
        above = recursion_from_All IsComment (comments_of x.0).before comments.0;
        leaves = leaves;
      }

  -- ---- a statement without a suite

  simple_statement : (x : Expr) → has_simple_kind x ≡ true → ProperBy whole_shape Begins x → AreComments (comments_of x) → ((m : ℕ) → AreLeft (left_of m x)) → IsStatement (x, part_of mode x)
  simple_statement x e h comments leaves =
      let known = simple_expr x e in
      record {
        laid = λ m lines w.
            let gap : Bytes = gap_to_margin m lines (comments_of x).before in
            let margin : ToMargin m gap = to_margin m lines (comments_of x).before w (recursion_from_All IsComment (comments_of x).before comments.0) in
            subst (IsAt m) (ap (λ z. if z then part_of mode x gap m else p.Node (record { kind = k.Line; parts = part_of mode x gap m ∷ newline_part (comments_of x).suffix ∷ [] })) (sym known.1))
            (line_at x e (narrow_expr Begins x known.0 h) comments.1 m gap margin);
        leaves = leaves;
      }

  -- ---- all statements

  -- what is known of the parts of a suite
  abbrev IsOwner : List Child → Type 0
  IsOwner [] = ⊥
  IsOwner (h ∷ others) = IsHeaded mode h.0 × AllByRecursion IsBranch others × (alternatives_fit h.0 (firsts others) ≡ true)

  some_children : (n : _) (r : Row_of-Expr n) → IsSomeRow r → IsFull (parts_of mode r)
  some_children n end_of-Expr h = h
  some_children n (more_of-Expr x rest) h = tt

  no_children : (n : _) (r : Row_of-Expr n) → is_empty (items-the_row-Expr n r) ≡ true → parts_of mode r ≡ []
  no_children n end_of-Expr h = refl
  no_children n (more_of-Expr x rest) h = no_such h

  suite_by : (f : Frame) (m n : _) (parts : Row_of-Expr m) (items : Row_of-Expr n) (end : List Bytes) (split open_break : Bool) (kind : Kind) (x : Child) (A B : Type 0) →
      ((gap : Bytes) (m : ℕ) → x.1 gap m ≡ node_by_frame mode f kind split open_break (comments_of x.0).suffix gap m (parts_of mode parts) (parts_of mode items) end) → ((w : Bytes) → is_headed_by w x.0 ≡ headed_by w (items-the_row-Expr m parts)) →
      (is_alternative x.0 ≡ true → is_branch (items-the_row-Expr m parts) ≡ true) → is_compound f ≡ true → in_frame f A B (ProperHeaderBy whole_shape parts × IsSomeRow items × ProperLinesBy whole_shape is_whole_statement items × All IsComment end × (split ≡ false) × (open_break ≡ false)) →
      (ProperHeaderBy whole_shape parts → IsOwner (parts_of mode parts)) → (ProperLinesBy whole_shape is_whole_statement items → AllByRecursion IsStatement (parts_of mode items)) → IsSuite x
  suite_by row m n parts items end split open_break kind x A B laid words alone e h a b = no_such e
  suite_by (sequence o c) m n parts items end split open_break kind x A B laid words alone e h a b = no_such e
  suite_by compound m n end_of-Expr items end split open_break kind x A B laid words alone e h a b = absurd h.0
  suite_by compound m n (more_of-Expr head rest) items end split open_break kind x A B laid words alone e h a b =
      let owner = a h.0 in
      record {
        head = head;
        others = parts_of mode rest;
        items = parts_of mode items;
        end = end;
        headed = owner.0;
        laid = laid;
        word = words;
        alone = λ i. let w = and_parts (is_empty (items-the_row-Expr _ rest)) _ (alone i) in (no_children _ rest w.0, w.1);
        fit = owner.2;
        full = some_children n items h.1;
        each = b h.2;
        branches = owner.1;
        ends = recursion_from_All IsComment end h.3;
      }

  -- the comments that it leaves
  left_are : (x : Expr) → ProperBy whole_shape Begins x → (m : ℕ) → AreLeft (left_of m x)
  left_are x h m = (expr_back mode x (readable Begins x h)).left m

  line_statement : (x : Expr) → is_whole_statement x ≡ true → ProperBy whole_shape Begins x → AreComments (comments_of x) → (has_suite x ≡ true → IsSuite (x, part_of mode x)) → IsStatement (x, part_of mode x)
  line_statement x e h comments u = elim (or_cases (has_simple_kind x) _ e) [
    | inl simple ↦ simple_statement x simple h comments (left_are x h)
    | inr suite ↦ let w = and_parts (has_suite x) _ suite in suite_statement (x, part_of mode x) w.0 (u w.0) (not-true _ w.1) comments (left_are x h)
  ]

  mutual
    suite_is : (x : Expr) → ProperBy whole_shape Begins x → has_suite x ≡ true → IsSuite (x, part_of mode x)
    suite_is (Token t) h e = no_such e
    suite_is (Form' kind z parts z' items end split open_break comments) h e =
        let x : Expr = Form' kind z parts z' items end split open_break comments in
        suite_by (frame kind) _ _ parts items end split open_break kind (x, part_of mode x) _ _ (λ gap m. refl) (λ w. refl) (λ i. (and_parts _ _ i).1) e h.1 (λ g. owner_is _ parts g) (λ g. statements_are _ items g)

    owner_is : (n : _) (r : Row_of-Expr n) → ProperHeaderBy whole_shape r → IsOwner (parts_of mode r)
    owner_is n end_of-Expr h = absurd h
    owner_is n (more_of-Expr head rest) h = (header_is mode head h.0 h.1, branches_are _ rest h.3, subst (λ z. alternatives_fit head z ≡ true) (sym (parts_values mode _ rest)) h.4)

    statements_are : (n : _) (r : Row_of-Expr n) → ProperLinesBy whole_shape is_whole_statement r → AllByRecursion IsStatement (parts_of mode r)
    statements_are n end_of-Expr h = tt
    statements_are n (more_of-Expr x rest) h = (line_statement x h.0 h.1 h.2 (λ e. suite_is x h.1 e), statements_are _ rest h.3)

    branches_are : (n : _) (r : Row_of-Expr n) → ProperLinesBy whole_shape is_alternative r → AllByRecursion IsBranch (parts_of mode r)
    branches_are n end_of-Expr h = tt
    branches_are n (more_of-Expr x rest) h = (suite_branch (x, part_of mode x) h.0 (suite_is x h.1 (alternative_suited x h.0)) h.2 (left_are x h.1), branches_are _ rest h.3)

  -- a statement of a file
  pub statement_is : (x : Expr) → is_whole_statement x ≡ true → ProperBy whole_shape Begins x → AreComments (comments_of x) → IsStatement (x, part_of mode x)
  statement_is x e h comments = line_statement x e h comments (λ u. suite_is x h u)
