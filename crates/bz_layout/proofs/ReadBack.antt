-- What is laid out of an expression reads back as the expression with its flags settled.
use Rattle.bz_layout.proofs.Words.{[], ◌&&◌, ◌++◌, ◌+◌, ◌∙◌, ◌∷◌, ◌≡◌, ℕ, all_in, all_joined, all_mapped, alternative_parts, ap, append_assoc, at_margin, body, Bool, branches, Bytes, colon, comments_in, comments_of, compound, compound_is, drop, each_with_flags_in, end_of-Expr, every, every_part, Expr, false, first_seen_gap, firsts, Fits, Form', Frame, frame, gap_after, has_break, has_suite, headed, HostComments, Indented, indented_lines, indented_lines_before, is_binary, is_broken_in, is_compound, is_comprehension, is_empty, is_header, is_kind, is_open, is_operator, is_split, is_tuple, IsComment, IsNonterminal, items-the_row-Expr, items_in, items_of_row, Kind, Kind as k, laid_in, last_left, left_by_frame, left_last, left_of, left_others, length, Lines, lines_of, List, loose_after, loose_in, map, margin_after, mark_leaf, MaybeComment, more_of-Expr, nat_eq, no_colons, no_comments, NoColon, Node, node_by_frame, nonterminal_plain, Option, Part, part_of, PartAt, parts_in, parts_of, piece_part, plain, refl, row, Row_of-Expr, rowed, Seen, seen, seen_Node, seen_node, sequence, sequence_form, settled_split_in, stated, stated_part, statement_Node, subst, suc, suite_part, sym, take, Token, token_plain, true, true≢false, whole_shape, with_flags_in, with_more_parts}
use Rattle.bz_grammar.specs.declared.tree.Part.TheVariants as p
use Rattle.bz_value.specs.declared.value.Expr.TheVariants as e
use Rattle.bz_layout.proofs.BackEnds.{from_comment, AreBounded}
use Rattle.bz_layout.proofs.BackLines.{ReadLines, AreLeft, left_at}
use Rattle.bz_layout.proofs.BackSuites.{IsReadAs, IsBack, AreBack, Branches, IsOwn, owner, own_left_of, coming, coming_bounded, last_are, node_first, header_back, alternatives_before, starts_from, alternatives_back}
use Rattle.bz_layout.proofs.Fitted.{IsRooted, AreRooted, plain_same, root_same, roots_fit, laid_fits}
use Rattle.bz_layout.proofs.Gapped.{lines_at}
use Rattle.bz_layout.proofs.Made.{two, parts_values, plain_node, left_none}
use Rattle.bz_layout.proofs.Readable.{Readable, EachReadable, AreInner, IsRow, IsSequence, IsSuite, Suits, IsHead, IsOne, IsAlternative, AreLinesOf, Facts}
use Rattle.bz_layout.proofs.Viewed.{SeenAs, Reads, look, settled, not_binary, row_back, row_loose, gap_bare, open_back}
use Rattle.bz_layout.proofs.ViewedItems.{body_back, headed_gap, headed_take, headed_drop, headed_loose}

-- ---- forms

abbrev pub form : Kind → List Expr → List Expr → List Bytes → Bool → Bool → HostComments → Expr
form kind parts items end split open_break comments = e.Form (record { kind = kind; parts = parts; seq = record { items = items; end = end; split = split }; open_break = open_break; comments = comments })

-- what is seen of a form: the form, for any comments; its gap; nothing loose
pub record FormBack (kind : Kind) (parts items : List Expr) (end : List Bytes) (split open_break : Bool) (g : Bytes) (s : Seen) : Type 0 where
  pub value : (comments : HostComments) (break : Bool) → s.make comments break ≡ form kind parts items end split open_break comments
  pub gap : s.gap ≡ g
  pub loose : s.loose ≡ []

not_open : (comprehension open_break : Bool) → (open_break ≡ true → comprehension ≡ true) → (comprehension ≡ true → ⊥) → open_break ≡ false
not_open comprehension true o n = absurd (n (o refl))
not_open comprehension false o n = refl

is_nothing : {X : Type 0} (x : X) (xs : List X) → x ∷ xs ≡ [] → ⊥
is_nothing x xs h = true≢false (sym (ap is_empty h))

-- ---- rows and sequences

none_rooted : (xs : List (Expr × PartAt)) → firsts xs ≡ [] → AreRooted xs
none_rooted [] h = tt
none_rooted (x ∷ xs) h = absurd (is_nothing x.0 (firsts xs) h)

-- no colon is in a header
plain_shape : (kind : Kind) → is_header kind ≡ true → every no_colons (λ a. true) (whole_shape kind) ≡ true
plain_shape k.Def h = refl
plain_shape k.IfStmt h = refl
plain_shape k.ForStmt h = refl
plain_shape _ h = absurd (true≢false (sym h))

-- ---- forms by their fields

-- the first of these parts is a header of this kind, and there are no others
abbrev IsAlone : Kind → List (Expr × PartAt) → Type 0
IsAlone kind [] = ⊥
IsAlone kind (h ∷ others) = IsHead kind h.0 × (is_empty others ≡ true)

-- what is left after the alternatives, or after what is before them
abbrev pub others_left : ℕ → Indented → List Expr → Indented
others_left m cs [] = cs
others_left m cs (h ∷ others) = last_left m cs others

no_more : {X : Type 0} (xs : List X) → is_empty xs ≡ true → xs ≡ []
no_more [] e = refl
no_more (x ∷ xs) e = absurd (true≢false (sym e))

-- ---- suites

-- a header is no suite, and has no break
head_inner : (kind other : Kind) → other ≡ kind → is_header kind ≡ true → is_compound (frame other) ≡ false
head_inner k.Def other e h = ap (λ z. is_compound (frame z)) e
head_inner k.IfStmt other e h = ap (λ z. is_compound (frame z)) e
head_inner k.ForStmt other e h = ap (λ z. is_compound (frame z)) e
head_inner _ other e h = absurd (true≢false (sym h))

pub head_here : (kind : Kind) (x : Expr) → IsHead kind x → (has_suite x ≡ false) × (has_break x ≡ false) × (is_header kind ≡ true)
head_here kind (Token t) h = absurd h
head_here kind (Form' other s parts s' items end split open_break comments) h = (head_inner kind other h.0 h.1, refl, h.1)

header_line : (kind : Kind) → is_header kind ≡ true → is_kind kind k.Line ≡ false
header_line k.Line h = absurd (true≢false (sym h))
header_line _ h = refl

-- ---- forms of any frame

suite_kind : (kind : Kind) → is_compound (frame kind) ≡ true → kind ≡ k.Suite
suite_kind k.Suite h = refl
suite_kind _ h = absurd (true≢false (sym h))

module _ (mode : Lines) where
  -- ---- forms

  no_values : (xs : List (Expr × PartAt)) → firsts xs ≡ [] → settled mode xs ≡ []
  no_values [] h = refl
  no_values (x ∷ xs) h = absurd (is_nothing x.0 (firsts xs) h)

  row_seen : (kind : Kind) (split open_break : Bool) (g : Bytes) (m : ℕ) (hs xs : List (Expr × PartAt)) (end : List Bytes) → Reads mode hs → IsRow kind split open_break (firsts hs) (firsts xs) end →
      FormBack kind (settled mode hs) (settled mode xs) end split open_break g (seen_node row kind (look (rowed kind open_break m g m hs)))
  row_seen kind split open_break g m [] xs end r h = absurd (true≢false h.full)
  row_seen kind split open_break g m (x ∷ hs) xs end r h =
      let ss : List Seen = look (rowed kind open_break m g m (x ∷ hs)) in
      let binary_shut : (is_binary kind ≡ true → open_break ≡ false) = λ b. not_open (is_comprehension kind) open_break h.opens (λ c. true≢false (sym b ∙ not_binary kind c)) in
      record {
        value = λ comments break.
            ap (λ z. form kind z [] [] false (is_comprehension kind && is_open ss) comments)
            (row_back mode (is_binary kind) false false kind open_break m g m (x ∷ hs) r h.each h.last binary_shut (λ b. absurd (true≢false (sym b ∙ h.first)))) ∙
            (ap (λ z. form kind (settled mode (x ∷ hs)) [] [] false z comments) (open_back mode kind open_break m g m (x ∷ hs) r h.each h.second h.opens) ∙
            (two (λ z w. form kind (settled mode (x ∷ hs)) z w false open_break comments) (sym (no_values xs h.no_items)) (sym h.no_end) ∙ ap (λ z. form kind (settled mode (x ∷ hs)) (settled mode xs) end z open_break comments) (sym h.not_split)));
        gap = r.0.gap g m;
        loose = ap (λ z. z ++ loose_after (look (rowed kind open_break m (gap_after kind open_break m x.0 (firsts hs)) (margin_after open_break m x.0) hs))) (r.0.loose g m) ∙
            row_loose mode kind open_break m (gap_after kind open_break m x.0 (firsts hs)) (margin_after open_break m x.0) hs r.1 (gap_bare kind open_break m x.0 (firsts hs));
      }

  sequence_seen : (opener closer : ℕ) (kind : Kind) (split open_break : Bool) (g : Bytes) (m : ℕ) (hs xs : List (Expr × PartAt)) (end : List Bytes) → Reads mode hs → Reads mode xs → IsSequence kind open_break (firsts hs) (firsts xs) end →
      FormBack kind (settled mode hs) (settled mode xs) end (is_broken_in mode kind split (firsts xs) end) open_break g (seen_node (sequence opener closer) kind (look (headed m g opener hs (body mode kind split m closer xs end))))
  sequence_seen opener closer kind split open_break g m hs xs end rh rx h =
      let broken : Bool = is_broken_in mode kind split (firsts xs) end in
      let one : Bool = is_tuple kind && nat_eq (length xs) 1 in
      let own = body mode kind split m closer xs end in
      let ss : List Seen = look (headed m g opener hs own) in
      let back = body_back mode broken one kind split m closer end xs rx h.ends_there h.each refl in
      let found : List Expr × List Bytes = items_in (all_in (first_seen_gap (look own))) (look own) in
      record {
        value = λ comments break.
            ap (λ n. sequence_form kind (take n ss) (drop (suc n) ss) comments) (sym h.leads) ∙
            (ap (λ z. sequence_form kind (take (length (firsts hs)) ss) z comments) (headed_drop m g opener hs own) ∙
            (ap (λ z. form kind z found.0 found.1 (is_split (look own)) false comments) (headed_take mode m g opener hs own rh h.heads) ∙
            (ap (λ z. form kind (settled mode hs) z.0 z.1 (is_split (look own)) false comments) back.found ∙
            two (λ z w. form kind (settled mode hs) (settled mode xs) end z w comments) back.split (sym h.not_open))));
        gap = headed_gap mode m g opener hs own rh;
        loose = ap (λ n. loose_in (take (suc n) ss)) (sym h.leads) ∙ headed_loose mode m g opener hs own rh;
      }

  -- ---- rows and sequences

  -- what is no suite is seen as it is
  reads : (xs : List (Expr × PartAt)) → AreBack mode xs → AreInner (firsts xs) → Reads mode xs
  reads [] b h = tt
  reads (x ∷ xs) b h = (b.0.seen_as h.0, reads xs b.1 h.1)

  form_seen : (f : Frame) (kind : Kind) (split open_break : Bool) (g : Bytes) (m : ℕ) (hs xs : List (Expr × PartAt)) (end : List Bytes) → is_compound f ≡ false → AreBack mode hs → AreBack mode xs → Facts f kind split open_break (firsts hs) (firsts xs) end →
      FormBack kind (settled mode hs) (settled mode xs) end (settled_split_in mode f kind split (firsts xs) end) open_break g (seen_node f kind (look (laid_in mode f kind split open_break g m hs xs end)))
  form_seen row kind split open_break g m hs xs end i bh bx h = row_seen kind split open_break g m hs xs end (reads hs bh h.inner) h
  form_seen (sequence opener closer) kind split open_break g m hs xs end i bh bx h = sequence_seen opener closer kind split open_break g m hs xs end (reads hs bh h.inner.0) (reads xs bx h.inner.1) h
  form_seen compound kind split open_break g m hs xs end i bh bx h = absurd (true≢false i)

  -- what is no suite is laid out as its root
  all_rooted : (xs : List (Expr × PartAt)) → Reads mode xs → AreRooted xs
  all_rooted = all_mapped (SeenAs mode) IsRooted (λ x h. h.rooted)

  both_rooted : (f : Frame) (kind : Kind) (split open_break : Bool) (hs xs : List (Expr × PartAt)) (end : List Bytes) → is_compound f ≡ false → AreBack mode hs → AreBack mode xs → Facts f kind split open_break (firsts hs) (firsts xs) end → AreRooted hs × AreRooted xs
  both_rooted row kind split open_break hs xs end i bh bx h = (all_rooted hs (reads hs bh h.inner), none_rooted xs h.no_items)
  both_rooted (sequence opener closer) kind split open_break hs xs end i bh bx h = (all_rooted hs (reads hs bh h.inner.0), all_rooted xs (reads xs bx h.inner.1))
  both_rooted compound kind split open_break hs xs end i bh bx h = absurd (true≢false i)

  -- ---- forms by their fields

  -- An expression is a form of this frame, with these parts and items.
  pub record IsForm (f : Frame) (kind : Kind) (split open_break : Bool) (ps xs : List (Expr × PartAt)) (end : List Bytes) (x : Expr × PartAt) : Type 0 where
    pub frame_is : frame kind ≡ f
    pub suited : has_suite x.0 ≡ is_compound f
    pub flagged : with_flags_in mode x.0 ≡ form kind (settled mode ps) (settled mode xs) end (settled_split_in mode f kind split (firsts xs) end) open_break (comments_of x.0)
    pub left : (m : ℕ) → left_of m x.0 ≡ left_by_frame f (others_left m (own_left_of m xs end) (firsts ps))
    pub laid : (g : Bytes) (m : ℕ) → x.1 g m ≡ node_by_frame mode f kind split open_break (comments_of x.0).suffix g m ps xs end
    pub no_sign : is_operator x.0 ≡ false
    pub rooted : has_suite x.0 ≡ false → IsRooted x
    pub fits : AreRooted ps → AreRooted xs → (g : Bytes) (m : ℕ) → Fits IsNonterminal (whole_shape kind) (map piece_part (laid_in mode f kind split open_break g m ps xs end))
    pub head : (other : Kind) → IsHead other x.0 → (kind ≡ other) × (is_header other ≡ true)
    pub alone : (other : Kind) → IsAlternative other x.0 → IsAlone other ps
    pub back : AreBack mode ps
    pub items_back : AreBack mode xs

  -- ---- suites

  own_suite : (kind : Kind) (split open_break : Bool) (h : Expr × PartAt) (others xs : List (Expr × PartAt)) (end : List Bytes) → IsBack mode h → AreBack mode xs → IsHead kind h.0 → IsSuite split open_break h.0 (firsts others) (firsts xs) end → IsOwn mode kind h xs end
  own_suite kind split open_break h others xs end b bx head s =
      let w = head_here kind h.0 head in
      record { head = b.head kind head; seen_as = b.seen_as w.0; bare = s.bare; unbroken = w.1; back = bx; each = s.each; some = s.some; ends = s.ends_there }

  -- all that is in the node of a statement
  abbrev all_parts : (kind : Kind) (h : Expr × PartAt) (others xs : List (Expr × PartAt)) (end : List Bytes) → IsOwn mode kind h xs end → Option Bytes → Bytes → ℕ → List Part
  all_parts kind h others xs end o suffix g m = (o.head g m).0 ++ (mark_leaf colon ∷ suite_part m suffix xs ∷ alternative_parts m (indented_lines (own_left_of m xs end)) others)

  module _ (kind : Kind) (split open_break : Bool) (h : Expr × PartAt) (others xs : List (Expr × PartAt)) (end : List Bytes) (x : Expr × PartAt) (f : IsForm compound k.Suite split open_break (h ∷ others) xs end x)
      (s : IsSuite split open_break h.0 (firsts others) (firsts xs) end) (head : IsHead kind h.0) where
    abbrev own : IsOwn mode kind h xs end
    own = own_suite kind split open_break h others xs end f.back.0 f.items_back head s

    abbrev suffix : Option Bytes
    suffix = (comments_of x.0).suffix

    abbrev node : Bytes → ℕ → Node
    node g m = record { kind = kind; parts = all_parts kind h others xs end own suffix g m }

    laid_node : (g : Bytes) (m : ℕ) → x.1 g m ≡ p.Node (node g m)
    laid_node g m =
        let more : List Part = mark_leaf colon ∷ suite_part m suffix xs ∷ alternative_parts m (indented_lines (own_left_of m xs end)) others in
        f.laid g m ∙ (ap (λ z. with_more_parts z more) (own.head g m).1 ∙ ap (λ z. let n : Node = record { kind = kind; parts = z ++ more } in p.Node n) (items_of_row (record { kind = kind; parts = (own.head g m).0 })))

    first_here : (ps more : List Part) (gap : Bytes) → first_seen_gap (map seen ps) ≡ gap → first_seen_gap (map seen (ps ++ (mark_leaf colon ∷ more))) ≡ gap
    first_here [] more gap e = e
    first_here (y ∷ ps) more gap e = e

    head_gap : (g : Bytes) (m : ℕ) → first_seen_gap (map seen (own.head g m).0) ≡ g
    head_gap g m = sym (ap (λ z. (seen z).gap) (own.head g m).1 ∙ node_first kind (own.head g m).0) ∙ f.back.0.gap g m

    suite_gap : (g : Bytes) (m : ℕ) → (seen (x.1 g m)).gap ≡ g
    suite_gap g m = ap (λ z. (seen z).gap) (laid_node g m) ∙ (node_first kind _ ∙ first_here (own.head g m).0 _ g (head_gap g m))

    suite_left : (m : ℕ) → AreLeft (own_left_of m xs end)
    suite_left m = all_joined (λ c. IsComment c.1) (last_left (m + 4) [] (firsts xs)) (at_margin (m + 4) end) (last_are mode (m + 4) [] xs tt f.items_back) (left_at (m + 4) end s.ends_there)

    flagged : (settled_others : List Expr) → settled mode others ≡ settled_others → owner (with_flags_in mode h.0 ∷ settled_others) (settled mode xs) end (comments_of x.0) ≡ with_flags_in mode x.0
    flagged settled_others e =
        ap (λ z. owner (with_flags_in mode h.0 ∷ z) (settled mode xs) end (comments_of x.0)) (sym e) ∙ (two (λ z w. form k.Suite (settled mode (h ∷ others)) (settled mode xs) end z w (comments_of x.0)) (sym s.not_split) (sym s.not_open) ∙ sym f.flagged)

    -- the parts of the node, before others
    parts_before : (g : Bytes) (m : ℕ) (tail : List Part) → parts_in (x.1 g m) ++ tail ≡ (own.head g m).0 ++ (mark_leaf colon ∷ suite_part m suffix xs ∷ (alternative_parts m (indented_lines (own_left_of m xs end)) others ++ tail))
    parts_before g m tail = ap (λ z. parts_in z ++ tail) (laid_node g m) ∙ (ap (λ z. z ++ tail) (items_of_row (node g m)) ∙ append_assoc (own.head g m).0 _ tail)

    first_lines : (ps more : List Part) (gap : Bytes) (after : ReadLines) → first_seen_gap (map seen ps) ≡ gap → indented_lines_before (map stated (ps ++ (mark_leaf colon ∷ more))) after ≡ lines_of gap
    first_lines [] more gap after e = ap lines_of e
    first_lines (y ∷ ps) more gap after e = ap lines_of (ap (λ z. z.gap) (stated_part y) ∙ e)

    suite_statement : AreLinesOf (IsAlternative kind) (firsts others) → MaybeComment suffix → (gap : Bytes) (m : ℕ) (rest : ReadLines) → AreBounded m rest →
        IsReadAs ((stated (x.1 gap m)).statement (comments_of x.0).before (lines_at (left_of m x.0) ++ rest)) (with_flags_in mode x.0 ∷ []) rest
    suite_statement alternatives comment gap m rest bounded =
        let before : List Bytes = (comments_of x.0).before in
        let after : ReadLines = lines_at (left_of m x.0) ++ rest in
        let cs : Indented = own_left_of m xs end in
        let same : after ≡ lines_at (last_left m cs (firsts others)) ++ rest = ap (λ z. lines_at z ++ rest) (f.left m) in
        let tail : List Part = alternative_parts m (indented_lines cs) others in
        let next : ReadLines = coming m others rest in
        let header : is_header kind ≡ true = (head_here kind h.0 head).2 in
        let start = ap (λ z. (stated z).statement before after) (laid_node gap m) ∙ (ap (λ z. z before after) (statement_Node (node gap m)) ∙ sym (compound_is (node gap m) before after (header_line kind header) header)) in
        let read = header_back mode true kind gap m h xs end (comments_of x.0) tail after after next rest (settled mode others) own comment (coming_bounded m others rest bounded)
        (ap (λ z. indented_lines_before (map stated tail) z) same ∙ alternatives_before mode m kind others f.back.1 alternatives cs (suite_left m) rest)
        (subst (λ z. IsReadAs (branches false kind [] (comments_in (from_comment next)) (from_comment next) (map stated tail) z) (settled mode others) rest) (sym same)
        (alternatives_back mode m kind others f.back.1 alternatives cs (comments_in (from_comment next)) (from_comment next) rest bounded (starts_from m others rest))) in
        record { value = ap (λ z. z.0) start ∙ (read.value ∙ ap (λ z. z ∷ []) (flagged (settled mode others) refl)); left = ap (λ z. from_comment z.1) start ∙ read.left }

    suite_first : (gap : Bytes) (m : ℕ) (tail : List Part) (after : ReadLines) → indented_lines_before (map stated (parts_in (x.1 gap m) ++ tail)) after ≡ lines_of gap
    suite_first gap m tail after = ap (λ z. indented_lines_before (map stated z) after) (parts_before gap m tail) ∙ first_lines (own.head gap m).0 _ gap after (head_gap gap m)

    suite_branch : others ≡ [] → Branches mode kind x
    suite_branch none comment gap m tail left after next rest more bounded before read =
        let back = header_back mode false kind gap m h xs end (comments_of x.0) tail left after next rest more own comment bounded (before ∙ ap (λ z. lines_at z ++ next) (f.left m ∙ ap (λ z. last_left m (own_left_of m xs end) (firsts z)) none)) read in
        let same = ap (λ z. branches false kind [] (comments_of x.0).before left (map stated z) after)
        (parts_before gap m tail ∙ ap (λ z. (own.head gap m).0 ++ (mark_leaf colon ∷ suite_part m suffix xs ∷ (alternative_parts m (indented_lines (own_left_of m xs end)) z ++ tail))) none) in
        record { value = ap (λ z. z.0) same ∙ (back.value ∙ ap (λ z. z ∷ more) (flagged [] (ap (settled mode) none))); left = ap (λ z. from_comment z.1) same ∙ back.left }

  -- a suite with its header
  suite_is_back : (split open_break : Bool) (ps xs : List (Expr × PartAt)) (end : List Bytes) (x : Expr × PartAt) → IsForm compound k.Suite split open_break ps xs end x → Suits split open_break (firsts ps) (firsts xs) end → IsBack mode x
  suite_is_back split open_break [] xs end x f s = absurd s
  suite_is_back split open_break (h ∷ others) xs end x f s =
      record {
        gap = λ g m. suite_gap s.kind split open_break h others xs end x f s s.is_head g m;
        left = λ m. subst AreLeft (sym (f.left m)) (last_are mode m (own_left_of m xs end) others (suite_left s.kind split open_break h others xs end x f s s.is_head m) f.back.1);
        seen_as = λ e. absurd (true≢false (sym f.suited ∙ e));
        head = λ other e. absurd (true≢false (sym f.suited ∙ (head_here other x.0 e).0));
        suite = λ e. record {
          node = λ g m. (node s.kind split open_break h others xs end x f s s.is_head g m, laid_node s.kind split open_break h others xs end x f s s.is_head g m);
          statement = suite_statement s.kind split open_break h others xs end x f s s.is_head s.others_each;
          first = suite_first s.kind split open_break h others xs end x f s s.is_head;
          branch = λ other alone. let w = f.alone other alone in suite_branch other split open_break h others xs end x f s w.0 (no_more others w.1);
        };
      }

  -- ---- rows and sequences

  inner_is_back : (f : Frame) (kind : Kind) (split open_break : Bool) (ps xs : List (Expr × PartAt)) (end : List Bytes) (x : Expr × PartAt) → is_compound f ≡ false → IsForm f kind split open_break ps xs end x → Facts f kind split open_break (firsts ps) (firsts xs) end → IsBack mode x
  inner_is_back f kind split open_break ps xs end x i o h =
      let suffix : Option Bytes = (comments_of x.0).suffix in
      let parts : Bytes → ℕ → List Part = λ g m. map piece_part (laid_in mode f kind split open_break g m ps xs end) in
      let laid : (g : Bytes) (m : ℕ) → x.1 g m ≡ p.Node (record { kind = kind; parts = parts g m }) = λ g m. o.laid g m ∙ plain_node mode f kind split open_break suffix g m ps xs end i in
      let made : (g : Bytes) (m : ℕ) → seen (x.1 g m) ≡ seen_node f kind (map seen (parts g m)) = λ g m. ap seen (laid g m) ∙ (seen_Node (record { kind = kind; parts = parts g m }) ∙ ap (λ z. seen_node z kind (map seen (parts g m))) o.frame_is) in
      let back : (g : Bytes) (m : ℕ) → FormBack kind (settled mode ps) (settled mode xs) end (settled_split_in mode f kind split (firsts xs) end) open_break g (seen_node f kind (map seen (parts g m))) =
      λ g m. form_seen f kind split open_break g m ps xs end i o.back o.items_back h in
      record {
        gap = λ g m. ap (λ z. z.gap) (made g m) ∙ (back g m).gap;
        left = λ m. subst AreLeft (sym (o.left m ∙ left_none f _ i)) tt;
        seen_as = λ e. record {
          value = λ g m. ap (λ z. z.make (comments_of x.0) (has_break x.0)) (made g m) ∙ ((back g m).value (comments_of x.0) (has_break x.0) ∙ sym o.flagged);
          sign = λ g m. ap (λ z. is_operator (plain z)) (made g m) ∙ (ap is_operator ((back g m).value no_comments false) ∙ sym o.no_sign);
          gap = λ g m. ap (λ z. z.gap) (made g m) ∙ (back g m).gap;
          loose = λ g m. ap (λ z. z.loose) (made g m) ∙ (back g m).loose;
          rooted = o.rooted e;
        };
        head = λ other e g m.
            let w = o.head other e in
            let header : is_header kind ≡ true = ap is_header w.0 ∙ w.1 in
            let rooted = both_rooted f kind split open_break ps xs end i o.back o.items_back h in (
              parts g m,
              laid g m ∙ ap (λ z. let n : Node = record { kind = z; parts = parts g m } in p.Node n) w.0,
              every_part NoColon no_colons (λ a. true) token_plain (λ a y b j. nonterminal_plain a y j) (whole_shape kind) (plain_shape kind header) (parts g m) (o.fits rooted.0 rooted.1 g m),
            );
        suite = λ e. absurd (true≢false (sym e ∙ (o.suited ∙ i)));
      }

  -- ---- forms of any frame

  form_is_back : (f : Frame) (kind : Kind) (split open_break : Bool) (ps xs : List (Expr × PartAt)) (end : List Bytes) (x : Expr × PartAt) → IsForm f kind split open_break ps xs end x → Facts f kind split open_break (firsts ps) (firsts xs) end → IsBack mode x
  form_is_back row kind split open_break ps xs end x o h = inner_is_back row kind split open_break ps xs end x refl o h
  form_is_back (sequence opener closer) kind split open_break ps xs end x o h = inner_is_back (sequence opener closer) kind split open_break ps xs end x refl o h
  form_is_back compound kind split open_break ps xs end x o h = suite_is_back split open_break ps xs end x (subst (λ z. IsForm compound z split open_break ps xs end x) (suite_kind kind (ap is_compound o.frame_is)) o) h

  -- ---- expressions

  settled_row : (m : _) (r : Row_of-Expr m) → settled mode (parts_of mode r) ≡ each_with_flags_in mode r
  settled_row m end_of-Expr = refl
  settled_row m (more_of-Expr x rest) = ap (λ t. with_flags_in mode x ∷ t) (settled_row _ rest)

  left_row : (m : ℕ) (cs : Indented) (n : _) (r : Row_of-Expr n) → left_last m cs r ≡ last_left m cs (firsts (parts_of mode r))
  left_row m cs n end_of-Expr = refl
  left_row m cs n (more_of-Expr x rest) = left_row m (left_of m x) _ rest

  others_row : (m : ℕ) (cs : Indented) (n : _) (r : Row_of-Expr n) → left_others m cs r ≡ others_left m cs (firsts (parts_of mode r))
  others_row m cs n end_of-Expr = refl
  others_row m cs n (more_of-Expr x rest) = left_row m cs _ rest

  -- what is left after a form, and its facts, by lists
  pub left_form : (m : ℕ) (f : Frame) (k n : _) (parts : Row_of-Expr k) (items : Row_of-Expr n) (end : List Bytes) →
      left_by_frame f (left_others m (left_last (m + 4) [] items ++ at_margin (m + 4) end) parts) ≡ left_by_frame f (others_left m (own_left_of m (parts_of mode items) end) (firsts (parts_of mode parts)))
  left_form m f k n parts items end = ap (left_by_frame f) (others_row m _ _ parts ∙ ap (λ z. others_left m (z ++ at_margin (m + 4) end) (firsts (parts_of mode parts))) (left_row (m + 4) [] _ items))

  pub facts_of : (f : Frame) (kind : Kind) (split open_break : Bool) (m n : _) (parts : Row_of-Expr m) (items : Row_of-Expr n) (end : List Bytes) →
      Facts f kind split open_break (items-the_row-Expr m parts) (items-the_row-Expr n items) end → Facts f kind split open_break (firsts (parts_of mode parts)) (firsts (parts_of mode items)) end
  facts_of f kind split open_break m n parts items end h =
      subst (λ z. Facts f kind split open_break z (firsts (parts_of mode items)) end) (sym (parts_values mode _ parts)) (subst (λ z. Facts f kind split open_break (items-the_row-Expr _ parts) z end) (sym (parts_values mode _ items)) h)

  one_row : (kind : Kind) (n : _) (r : Row_of-Expr n) → IsOne (IsHead kind) r → IsAlone kind (parts_of mode r)
  one_row kind n end_of-Expr h = h
  one_row kind n (more_of-Expr x end_of-Expr) h = (h.0, refl)
  one_row kind n (more_of-Expr x (more_of-Expr y rest)) h = absurd h.1

  mutual
    pub expr_back : (a : Expr) → Readable a → IsBack mode (a, part_of mode a)
    expr_back (Token t) f = record {
      gap = λ g m. refl;
      left = λ m. tt;
      seen_as = λ e. record { value = λ g m. refl; sign = λ g m. refl; gap = λ g m. refl; loose = λ g m. refl; rooted = plain_same mode (Token t) };
      head = λ kind h. absurd h;
      suite = λ e. absurd (true≢false (sym e));
    }
    expr_back (Form' kind s parts s' items end split open_break comments) f =
        let ps : List (Expr × PartAt) = parts_of mode parts in
        let xs : List (Expr × PartAt) = parts_of mode items in
        let a : Expr = Form' kind s parts s' items end split open_break comments in
        let flag : List Expr → Bool = λ z. settled_split_in mode (frame kind) kind split z end in
        let known : IsForm (frame kind) kind split open_break ps xs end (a, part_of mode a) =
        record {
          frame_is = refl;
          suited = refl;
          flagged = sym (ap (λ z. form kind z (settled mode xs) end (flag (firsts xs)) open_break comments) (settled_row _ parts) ∙ two (λ z w. form kind (each_with_flags_in mode parts) z end (flag w) open_break comments) (settled_row _ items) (parts_values mode _ items));
          left = λ m. left_form m (frame kind) _ _ parts items end;
          laid = λ g m. refl;
          no_sign = refl;
          rooted = root_same mode a;
          fits = λ r i g m. laid_fits mode kind split open_break g m ps xs end r i (roots_fit mode kind _ _ parts items f.3);
          head = λ other h. h;
          alone = λ other h. one_row other _ parts h.1;
          back = row_read _ parts f.1;
          items_back = row_read _ items f.2;
        } in
        form_is_back (frame kind) kind split open_break ps xs end (a, part_of mode a) known (facts_of (frame kind) kind split open_break _ _ parts items end f.0)

    pub row_read : (n : _) (r : Row_of-Expr n) → EachReadable r → AreBack mode (parts_of mode r)
    row_read n end_of-Expr f = tt
    row_read n (more_of-Expr x rest) f = (expr_back x f.0, row_read _ rest f.1)
