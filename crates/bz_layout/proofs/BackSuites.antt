-- Statements, suites and headers as they are read back, by what is known of what is inside them.
use Rattle.bz_layout.proofs.Words.{[], ◌++◌, ◌+◌, ◌<◌, ◌∙◌, ◌∷◌, ◌≡◌, ◌≤◌, ℕ, after_end, after_first_line, AllByRecursion, alternative_parts, ap, append-nil, append_assoc, arith, at_margin, Bool, branches, Bytes, colon, comments_in, comments_of, end_comments, Expr, false, first_comment, first_seen_gap, firsts, Form', frame, gap_to_margin, has_break, has_suite, HostComments, if◌then◌else◌, indent, Indented, indented_lines, indented_lines_before, inl, inr, is_compound, is_empty, IsComment, Kind, Kind as k, last_left, left_of, length, line_is, line_read, Lines, lines_of, List, map, margin_of, mark_leaf, MaybeComment, newline_part, no_comments, NoColon, Node, None, only_comment, Option, Part, PartAt, parts_in, plain, put_header, refl, Seen, seen, seen_Node, Some, Stated, stated, stated_part, statement_Node, statement_part, statement_parts, subst, suffix_Node, suffix_text, suite_form, suite_Node, suite_part, suite_read, SuiteRead, sym, Token, true, true≢false, walked, with_flags_in, with_suite}
use Rattle.bz_grammar.specs.declared.tree.Part.TheVariants as p
use Rattle.bz_value.specs.declared.value.Expr.TheVariants as e
use Rattle.bz_layout.proofs.BackEnds.{from_comment, AreBounded, bounded_further, commented_bounded, same_comments, same_ends, same_left, from_once, own_taken, own_left, none_taken, all_left}
use Rattle.bz_layout.proofs.BackLines.{ReadLines, lines_joined, no_lines, AreLeft, left_lines, gap_lines, gap_margin}
use Rattle.bz_layout.proofs.Gapped.{lines_at, commented, commented_back, suffix_line, lines_after, suffix_after, nothing_left}
use Rattle.bz_layout.proofs.Made.{two, plain_left}
use Rattle.bz_layout.proofs.Readable.{IsHead, IsAlternative, IsStatement, AreLinesOf}
use Rattle.bz_layout.proofs.Viewed.{SeenAs}
use Rattle.bz_layout.proofs.ViewedItems.{head_made}

-- ---- what is known of what is laid out

-- What was read: this, and these lines are left, but for those before the first comment.
pub record IsReadAs {X : Type 0} (r : X × ReadLines) (x : X) (rest : ReadLines) : Type 0 where
  pub value : r.0 ≡ x
  pub left : from_comment r.1 ≡ from_comment rest

-- a header of this kind is a node without a colon
abbrev pub HeadLaid : Kind → Expr × PartAt → Type 0
HeadLaid kind x = (g : Bytes) (m : ℕ) → (ps : List Part) × (x.1 g m ≡ p.Node (record { kind = kind; parts = ps })) × AllByRecursion NoColon ps

-- ---- what comes next

-- the lines before what follows, after those that are left: the comments above the next of these, or what is after all
abbrev pub coming : ℕ → List (Expr × PartAt) → ReadLines → ReadLines
coming m [] rest = rest
coming m (x ∷ xs) rest = commented m (comments_of x.0).before

-- it is indented no further
pub coming_bounded : (m : ℕ) (xs : List (Expr × PartAt)) (rest : ReadLines) → AreBounded m rest → AreBounded m (coming m xs rest)
coming_bounded m [] rest h = h
coming_bounded m (x ∷ xs) rest h = subst (AreBounded m) (append-nil (commented m (comments_of x.0).before)) (commented_bounded m (comments_of x.0).before [] tt)

-- ---- simple statements

-- the suffix comes back
only_suffix : (suffix : Option Bytes) → only_comment (comments_in (suffix_line suffix)) ≡ suffix
only_suffix None = refl
only_suffix (Some text) = refl

-- ---- statements

-- the gap before a node is that before its first part
pub node_first : (kind : Kind) (ps : List Part) → (seen (p.Node (record { kind = kind; parts = ps }))).gap ≡ first_seen_gap (map seen ps)
node_first kind ps = ap (λ z. z.gap) (seen_Node (record { kind = kind; parts = ps }))

-- ---- suites

-- a suite, by what is read of its statements
suite_from : (m : ℕ) (xs : List Stated) (after now rest : ReadLines) (ys : List Expr) (end : List Bytes) → indented_lines_before xs [] ≡ now → margin_of xs ≡ m + 4 → AreBounded m rest →
    IsReadAs (walked now xs after) ys (commented (m + 4) end ++ rest) → suite_read xs after ≡ ((ys, end), from_comment rest)
suite_from m xs after now rest ys end first margin bounded h =
    let all : List Expr × ReadLines = walked now xs after in
    let further : m < m + 4 = omega arith in
    let ends : end_comments (m + 4) all.1 ≡ end =
    same_ends (m + 4) all.1 (commented (m + 4) end ++ rest) h.left ∙ (own_taken (m + 4) end rest ∙ (ap (λ z. end ++ z) (none_taken (m + 4) m rest further bounded) ∙ append-nil end)) in
    let left : after_end (m + 4) all.1 ≡ from_comment rest =
    same_left (m + 4) all.1 (commented (m + 4) end ++ rest) h.left ∙ (own_left (m + 4) end rest ∙ all_left (m + 4) m rest further bounded) in
    ap (λ z. let w : List Expr × ReadLines = walked z xs after in let r : SuiteRead = ((w.0, end_comments (margin_of xs) w.1), after_end (margin_of xs) w.1) in r) first
    ∙ (ap (λ z. let r : SuiteRead = ((all.0, end_comments z all.1), after_end z all.1) in r) margin
    ∙ (ap (λ z. let r : SuiteRead = ((z, end_comments (m + 4) all.1), after_end (m + 4) all.1) in r) h.value
    ∙ two (λ z w. let r : SuiteRead = ((ys, z), w) in r) ends left))

-- the suffix of a header is before the newline of its suite
suite_suffix : (suffix : Option Bytes) (ps : List Part) → MaybeComment suffix → (stated (p.Node (record { kind = k.Suite; parts = newline_part suffix ∷ ps }))).suffix ≡ suffix
suite_suffix suffix ps h = suffix_Node (record { kind = k.Suite; parts = newline_part suffix ∷ ps }) ∙ (ap (λ z. only_comment (comments_in z)) (lines_after suffix h) ∙ only_suffix suffix)

-- ---- headers

abbrev pub owner : List Expr → List Expr → List Bytes → HostComments → Expr
owner parts items end comments = e.Form (record { kind = k.Suite; parts = parts; seq = record { items = items; end = end; split = false }; open_break = false; comments = comments })

put_same : (first : Bool) (f g : List Expr → Expr) (others : List Expr) → ((items : List Expr) → f items ≡ g items) → put_header first f others ≡ put_header first g others
put_same true f g others h = ap (λ z. z ∷ []) (h others)
put_same false f g others h = ap (λ z. z ∷ others) (h [])

-- the lines that a suite leaves
abbrev pub own_left_of : ℕ → List (Expr × PartAt) → List Bytes → Indented
own_left_of m xs end = last_left (m + 4) [] (firsts xs) ++ at_margin (m + 4) end

-- ---- up to the colon

-- The parts before the colon are those of the header; a suite follows.
up_to_colon : (first : Bool) (kind : Kind) (parts : List Seen) (above : List Bytes) (left after : ReadLines) (front rest : List Part) → AllByRecursion NoColon front →
    branches first kind parts above left (map stated (front ++ (mark_leaf colon ∷ rest))) after ≡ with_suite first kind (parts ++ map seen front) above left (map stated rest) after
up_to_colon first kind parts above left after [] rest h = ap (λ z. with_suite first kind z above left (map stated rest) after) (sym (append-nil parts))
up_to_colon first kind parts above left after (x ∷ front) rest h =
    let others : List Stated = map stated (front ++ (mark_leaf colon ∷ rest)) in
    ap (λ z. if z then with_suite first kind parts above left others after else branches first kind (parts ++ (stated x).part ∷ []) above left others after) h.0
    ∙ (ap (λ z. branches first kind (parts ++ z ∷ []) above left others after) (stated_part x)
    ∙ (up_to_colon first kind (parts ++ seen x ∷ []) above left after front rest h.1 ∙ ap (λ z. with_suite first kind z above left (map stated rest) after) (append_assoc parts (seen x ∷ []) (map seen front))))

-- ---- alternatives

pub alternative_suited : (kind : Kind) (x : Expr) → IsAlternative kind x → has_suite x ≡ true
alternative_suited kind (Token t) h = absurd h
alternative_suited kind (Form' other s parts s' items end split open_break comments) h = ap (λ z. is_compound (frame z)) h.0

-- what is known where headers are read: the comments above the first, or the lines that are left where there is none
abbrev pub Starts : List (Expr × PartAt) → List Bytes → ReadLines → ReadLines → Type 0
Starts [] above left rest = from_comment left ≡ from_comment rest
Starts (x ∷ xs) above left rest = above ≡ (comments_of x.0).before

pub starts_from : (m : ℕ) (xs : List (Expr × PartAt)) (rest : ReadLines) → Starts xs (comments_in (from_comment (coming m xs rest))) (from_comment (coming m xs rest)) rest
starts_from m [] rest = from_once rest
starts_from m (x ∷ xs) rest = same_comments (commented m (comments_of x.0).before) ∙ commented_back m (comments_of x.0).before

module _ (mode : Lines) where
  -- ---- what is known of what is laid out

  -- an alternative of a statement of this kind, before others
  abbrev pub Branches : Kind → Expr × PartAt → Type 0
  Branches kind x =
      MaybeComment (comments_of x.0).suffix → (gap : Bytes) (m : ℕ) (tail : List Part) (left after next rest : ReadLines) (others : List Expr) → AreBounded m next →
      indented_lines_before (map stated tail) after ≡ lines_at (left_of m x.0) ++ next → IsReadAs (branches false kind [] (comments_in (from_comment next)) (from_comment next) (map stated tail) after) others rest →
      IsReadAs (branches false kind [] (comments_of x.0).before left (map stated (parts_in (x.1 gap m) ++ tail)) after) (with_flags_in mode x.0 ∷ others) rest

  -- A suite with its header, as a statement; and as an alternative.
  pub record SuiteBack (x : Expr × PartAt) : Type 0 where
    pub node : (gap : Bytes) (m : ℕ) → (n : Node) × (x.1 gap m ≡ p.Node n)
    pub statement : MaybeComment (comments_of x.0).suffix → (gap : Bytes) (m : ℕ) (rest : ReadLines) → AreBounded m rest → IsReadAs ((stated (x.1 gap m)).statement (comments_of x.0).before (lines_at (left_of m x.0) ++ rest)) (with_flags_in mode x.0 ∷ []) rest
    pub first : (gap : Bytes) (m : ℕ) (tail : List Part) (after : ReadLines) → indented_lines_before (map stated (parts_in (x.1 gap m) ++ tail)) after ≡ lines_of gap
    pub branch : (kind : Kind) → IsAlternative kind x.0 → Branches kind x

  pub record IsBack (x : Expr × PartAt) : Type 0 where
    pub gap : (g : Bytes) (m : ℕ) → (seen (x.1 g m)).gap ≡ g
    pub left : (m : ℕ) → AreLeft (left_of m x.0)
    pub seen_as : has_suite x.0 ≡ false → SeenAs mode x
    pub head : (kind : Kind) → IsHead kind x.0 → HeadLaid kind x
    pub suite : has_suite x.0 ≡ true → SuiteBack x

  abbrev pub AreBack : List (Expr × PartAt) → Type 0
  AreBack xs = AllByRecursion IsBack xs

  -- ---- what comes next

  pub last_are : (m : ℕ) (cs : Indented) (xs : List (Expr × PartAt)) → AreLeft cs → AreBack xs → AreLeft (last_left m cs (firsts xs))
  last_are m cs [] h b = h
  last_are m cs (x ∷ xs) h b = last_are m (left_of m x.0) xs (b.0.left m) b.1

  -- ---- simple statements

  -- a simple statement on a line of its own
  simple_back : (gap : Bytes) (m : ℕ) (x : Expr × PartAt) → SeenAs mode x → has_break x.0 ≡ false → MaybeComment (comments_of x.0).suffix → (after : ReadLines) →
      line_read (seen (x.1 gap m) ∷ seen (newline_part (comments_of x.0).suffix) ∷ []) (comments_of x.0).before after ≡ (with_flags_in mode x.0 ∷ [], after)
  simple_back gap m x back unbroken comment after =
      let own : HostComments = comments_of x.0 in
      let t : Seen = seen (x.1 gap m) in
      let line : lines_of (suffix_text own.suffix) ≡ suffix_line own.suffix = lines_after own.suffix comment in
      let value : t.make (record { before = own.before ++ t.loose; suffix = first_comment (lines_of (suffix_text own.suffix)) }) false ≡ with_flags_in mode x.0 =
      two (λ z w. t.make (record { before = own.before ++ z; suffix = w }) false) (back.loose gap m) (ap first_comment line ∙ suffix_after own.suffix)
      ∙ (ap (λ z. t.make (record { before = z; suffix = own.suffix }) false) (append-nil own.before) ∙ (ap (λ z. t.make own z) (sym unbroken) ∙ back.value gap m)) in
      two (λ z w. (z ∷ [], w ++ after)) value (ap after_first_line line ∙ nothing_left own.suffix)

  -- ---- statements

  -- a statement takes the lines that it leaves, and leaves what follows them
  pub statement_back : (x : Expr × PartAt) → IsBack x → IsStatement x.0 → MaybeComment (comments_of x.0).suffix → (gap : Bytes) (m : ℕ) (rest : ReadLines) → AreBounded m rest →
      IsReadAs ((stated (statement_part m gap x)).statement (comments_of x.0).before (lines_at (left_of m x.0) ++ rest)) (with_flags_in mode x.0 ∷ []) rest
  statement_back x back (inl suited) comment gap m rest bounded =
      let before : List Bytes = (comments_of x.0).before in
      let own : Part = x.1 (gap_to_margin m gap before) m in
      subst (λ z. IsReadAs ((stated (if z then own else p.Node (record { kind = k.Line; parts = own ∷ newline_part (comments_of x.0).suffix ∷ [] }))).statement before (lines_at (left_of m x.0) ++ rest)) (with_flags_in mode x.0 ∷ []) rest)
      (sym suited) ((back.suite suited).statement comment (gap_to_margin m gap before) m rest bounded)
  statement_back x back (inr (simple, unbroken)) comment gap m rest bounded =
      let before : List Bytes = (comments_of x.0).before in
      let own : Part = x.1 (gap_to_margin m gap before) m in
      let node : Node = record { kind = k.Line; parts = own ∷ newline_part (comments_of x.0).suffix ∷ [] } in
      let read : (stated (p.Node node)).statement before rest ≡ (with_flags_in mode x.0 ∷ [], rest) =
      ap (λ z. z before rest) (statement_Node node) ∙ (sym (line_is node before rest refl) ∙ simple_back (gap_to_margin m gap before) m x (back.seen_as simple) unbroken comment rest) in
      let all = ap (λ z. (stated (if z then own else p.Node node)).statement before (lines_at (left_of m x.0) ++ rest)) simple ∙ (ap (λ z. (stated (p.Node node)).statement before (lines_at z ++ rest)) (plain_left m x.0 simple) ∙ read) in
      record { value = ap (λ z. z.0) all; left = ap (λ z. from_comment z.1) all }

  -- the gap before a statement: what is handed on, the comments above it, its margin
  pub statement_gap : (suited : Bool) (gap : Bytes) (m : ℕ) (suffix : Option Bytes) (x : Expr × PartAt) → IsBack x → (seen (if suited then x.1 gap m else p.Node (record { kind = k.Line; parts = x.1 gap m ∷ newline_part suffix ∷ [] }))).gap ≡ gap
  statement_gap true gap m suffix x back = back.gap gap m
  statement_gap false gap m suffix x back = node_first k.Line (x.1 gap m ∷ newline_part suffix ∷ []) ∙ back.gap gap m

  pub statement_first : (m : ℕ) (gap : Bytes) (x : Expr × PartAt) → IsBack x → (stated (statement_part m gap x)).part.gap ≡ gap_to_margin m gap (comments_of x.0).before
  statement_first m gap x back = ap (λ z. z.gap) (stated_part (statement_part m gap x)) ∙ statement_gap (has_suite x.0) (gap_to_margin m gap (comments_of x.0).before) m (comments_of x.0).suffix x back

  -- the lines before the next statement, those that are left after the one before it first
  statements_before : (m : ℕ) (xs : List (Expr × PartAt)) → AreBack xs → AreLinesOf IsStatement (firsts xs) → (cs : Indented) → AreLeft cs → (rest : ReadLines) →
      indented_lines_before (map stated (statement_parts m (indented_lines cs) xs)) (lines_at (last_left m cs (firsts xs)) ++ rest) ≡ lines_at cs ++ coming m xs rest
  statements_before m [] b h cs c rest = refl
  statements_before m (x ∷ xs) b h cs c rest = ap lines_of (statement_first m (indented_lines cs) x b.0) ∙ gap_lines m (indented_lines cs) (lines_at cs) (comments_of x.0).before (left_lines cs c) h.1

  -- statements one after the other
  walked_back : (m : ℕ) (xs : List (Expr × PartAt)) → AreBack xs → AreLinesOf IsStatement (firsts xs) → (cs : Indented) (now rest : ReadLines) → AreBounded m rest → from_comment now ≡ from_comment (coming m xs rest) →
      IsReadAs (walked now (map stated (statement_parts m (indented_lines cs) xs)) (lines_at (last_left m cs (firsts xs)) ++ rest)) (map (λ x. with_flags_in mode x.0) xs) rest
  walked_back m [] b h cs now rest bounded e = record { value = refl; left = e }
  walked_back m (x ∷ xs) b h cs now rest bounded e =
      let before : List Bytes = (comments_of x.0).before in
      let own : Indented = left_of m x.0 in
      let all : ReadLines = lines_at (last_left m own (firsts xs)) ++ rest in
      let more : List Stated = map stated (statement_parts m (indented_lines own) xs) in
      let s : Stated = stated (statement_part m (indented_lines cs) x) in
      let read : List Expr × ReadLines = s.statement before (lines_at own ++ coming m xs rest) in
      let same : s.statement (comments_in now) (indented_lines_before more all) ≡ read =
      two (λ z w. s.statement z w) (sym (same_comments now) ∙ (ap comments_in e ∙ (same_comments (commented m before) ∙ commented_back m before))) (statements_before m xs b.1 h.3 own (b.0.left m) rest) in
      let one : IsReadAs read (with_flags_in mode x.0 ∷ []) (coming m xs rest) = statement_back x b.0 h.0 h.2 (indented_lines cs) m (coming m xs rest) (coming_bounded m xs rest bounded) in
      let others : IsReadAs (walked read.1 more all) (map (λ x. with_flags_in mode x.0) xs) rest = walked_back m xs b.1 h.3 own read.1 rest bounded one.left in
      record {
        value = ap (λ z. z.0 ++ (walked z.1 more all).0) same ∙ two (λ z w. z ++ w) one.value others.value;
        left = ap (λ z. from_comment (walked z.1 more all).1) same ∙ others.left;
      }

  -- ---- suites

  -- the statements of a suite, and its end comments
  suite_back : (m : ℕ) (xs : List (Expr × PartAt)) (end : List Bytes) → AreBack xs → AreLinesOf IsStatement (firsts xs) → is_empty (firsts xs) ≡ false → (rest : ReadLines) → AreBounded m rest →
      suite_read (map stated (statement_parts (m + 4) [] xs)) (lines_at (last_left (m + 4) [] (firsts xs)) ++ (commented (m + 4) end ++ rest)) ≡ ((map (λ x. with_flags_in mode x.0) xs, end), from_comment rest)
  suite_back m [] end b h some rest bounded = absurd (true≢false some)
  suite_back m (x ∷ xs) end b h some rest bounded =
      let before : List Bytes = (comments_of x.0).before in
      let first : (stated (statement_part (m + 4) [] x)).part.gap ≡ gap_to_margin (m + 4) [] before = statement_first (m + 4) [] x b.0 in
      let further : m ≤ m + 4 = omega arith in
      suite_from m (map stated (statement_parts (m + 4) [] (x ∷ xs))) _ (commented (m + 4) before) rest (map (λ x. with_flags_in mode x.0) (x ∷ xs)) end
      (ap lines_of first ∙ gap_lines (m + 4) [] [] before no_lines h.1) (ap (λ z. length (indent z)) first ∙ gap_margin (m + 4) before) bounded
      (walked_back (m + 4) (x ∷ xs) b h [] (commented (m + 4) before) (commented (m + 4) end ++ rest) (commented_bounded (m + 4) end rest (bounded_further m (m + 4) rest further bounded)) refl)

  -- ---- headers

  -- what is known of a suite: its header, of this kind, and its statements
  pub record IsOwn (kind : Kind) (h : Expr × PartAt) (xs : List (Expr × PartAt)) (end : List Bytes) : Type 0 where
    pub head : HeadLaid kind h
    pub seen_as : SeenAs mode h
    pub bare : comments_of h.0 ≡ no_comments
    pub unbroken : has_break h.0 ≡ false
    pub back : AreBack xs
    pub each : AreLinesOf IsStatement (firsts xs)
    pub some : is_empty (firsts xs) ≡ false
    pub ends : AllByRecursion IsComment end

  -- what is read of a suite with its header
  owner_made : (kind : Kind) (gap : Bytes) (m : ℕ) (h : Expr × PartAt) (ps : List Part) (own : List Expr × List Bytes) (comments : HostComments) (others : List Expr) → SeenAs mode h → comments_of h.0 ≡ no_comments → has_break h.0 ≡ false → h.1 gap m ≡ p.Node (record { kind = kind; parts = ps }) →
      suite_form kind (map seen ps) comments.before comments.suffix own others ≡ owner (with_flags_in mode h.0 ∷ others) own.0 own.1 comments
  owner_made kind gap m h ps own comments others s bare unbroken laid =
      let made : Seen → Expr = λ z. owner (plain z ∷ others) own.0 own.1 (record { before = comments.before ++ z.loose; suffix = comments.suffix }) in
      ap made (sym (ap seen laid ∙ seen_Node (record { kind = kind; parts = ps }))) ∙ (two (λ z w. owner (z ∷ others) own.0 own.1 (record { before = comments.before ++ w; suffix = comments.suffix })) (head_made mode h gap m s bare unbroken) (s.loose gap m)
      ∙ ap (λ z. owner (with_flags_in mode h.0 ∷ others) own.0 own.1 (record { before = z; suffix = comments.suffix })) (append-nil comments.before))

  -- ---- up to the colon

  -- a header and its suite, before other parts of the statement
  pub header_back : (first : Bool) (kind : Kind) (gap : Bytes) (m : ℕ) (h : Expr × PartAt) (xs : List (Expr × PartAt)) (end : List Bytes) (comments : HostComments) (tail : List Part) (left after next rest : ReadLines) (others : List Expr) →
      (o : IsOwn kind h xs end) → MaybeComment comments.suffix → AreBounded m next → indented_lines_before (map stated tail) after ≡ lines_at (own_left_of m xs end) ++ next →
      IsReadAs (branches false kind [] (comments_in (from_comment next)) (from_comment next) (map stated tail) after) others rest →
      IsReadAs (branches first kind [] comments.before left (map stated ((o.head gap m).0 ++ (mark_leaf colon ∷ suite_part m comments.suffix xs ∷ tail))) after)
      (put_header first (λ items. owner (with_flags_in mode h.0 ∷ items) (map (λ x. with_flags_in mode x.0) xs) end comments) others) rest
  header_back first kind gap m h xs end comments tail left after next rest others o comment bounded before more =
      let front : List Part = (o.head gap m).0 in
      let own : Part = suite_part m comments.suffix xs in
      let statements : List Expr = map (λ x. with_flags_in mode x.0) xs in
      let read : (stated own).suite (indented_lines_before (map stated tail) after) ≡ ((statements, end), from_comment next) =
      ap (stated own).suite (before ∙ (ap (λ z. z ++ next) (lines_joined (last_left (m + 4) [] (firsts xs)) (at_margin (m + 4) end)) ∙ append_assoc (lines_at (last_left (m + 4) [] (firsts xs))) (commented (m + 4) end) next))
      ∙ (ap (λ z. z (lines_at (last_left (m + 4) [] (firsts xs)) ++ (commented (m + 4) end ++ next))) (suite_Node (record { kind = k.Suite; parts = newline_part comments.suffix ∷ statement_parts (m + 4) [] xs })) ∙ suite_back m xs end o.back o.each o.some next bounded) in
      let colon : branches first kind [] comments.before left (map stated (front ++ (mark_leaf colon ∷ own ∷ tail))) after ≡ with_suite first kind (map seen front) comments.before left (map stated (own ∷ tail)) after =
      up_to_colon first kind [] comments.before left after front (own ∷ tail) (o.head gap m).2 in
      let more_read : List Expr × ReadLines = branches false kind [] (comments_in (from_comment next)) (from_comment next) (map stated tail) after in
      record {
        value = ap (λ z. z.0) colon
            ∙ (ap (λ z. put_header first (suite_form kind (map seen front) comments.before (stated own).suffix z.0) (branches false kind [] (comments_in z.1) z.1 (map stated tail) after).0) read
            ∙ (two (λ z w. put_header first (suite_form kind (map seen front) comments.before z (statements, end)) w) (suite_suffix comments.suffix (statement_parts (m + 4) [] xs) comment) more.value
            ∙ put_same first _ _ others (λ items. owner_made kind gap m h front (statements, end) comments items o.seen_as o.bare o.unbroken (o.head gap m).1)));
        left = ap (λ z. from_comment z.1) colon ∙ (ap (λ z. from_comment (branches false kind [] (comments_in z.1) z.1 (map stated tail) after).1) read ∙ more.left);
      }

  -- ---- alternatives

  -- the lines before the next one, those that are left after the suite before it first
  pub alternatives_before : (m : ℕ) (kind : Kind) (xs : List (Expr × PartAt)) → AreBack xs → AreLinesOf (IsAlternative kind) (firsts xs) → (cs : Indented) → AreLeft cs → (rest : ReadLines) →
      indented_lines_before (map stated (alternative_parts m (indented_lines cs) xs)) (lines_at (last_left m cs (firsts xs)) ++ rest) ≡ lines_at cs ++ coming m xs rest
  alternatives_before m kind [] b h cs c rest = refl
  alternatives_before m kind (x ∷ xs) b h cs c rest =
      (b.0.suite (alternative_suited kind x.0 h.0)).first (gap_to_margin m (indented_lines cs) (comments_of x.0).before) m _ _ ∙ gap_lines m (indented_lines cs) (lines_at cs) (comments_of x.0).before (left_lines cs c) h.1

  pub alternatives_back : (m : ℕ) (kind : Kind) (xs : List (Expr × PartAt)) → AreBack xs → AreLinesOf (IsAlternative kind) (firsts xs) → (cs : Indented) (above : List Bytes) (left rest : ReadLines) → AreBounded m rest →
      Starts xs above left rest → IsReadAs (branches false kind [] above left (map stated (alternative_parts m (indented_lines cs) xs)) (lines_at (last_left m cs (firsts xs)) ++ rest)) (map (λ x. with_flags_in mode x.0) xs) rest
  alternatives_back m kind [] b h cs above left rest bounded e = record { value = refl; left = e }
  alternatives_back m kind (x ∷ xs) b h cs above left rest bounded e =
      let own : Indented = left_of m x.0 in
      let next : ReadLines = coming m xs rest in
      let after : ReadLines = lines_at (last_left m own (firsts xs)) ++ rest in
      subst (λ z. IsReadAs (branches false kind [] z left (map stated (alternative_parts m (indented_lines cs) (x ∷ xs))) after) (map (λ x. with_flags_in mode x.0) (x ∷ xs)) rest) (sym e)
      ((b.0.suite (alternative_suited kind x.0 h.0)).branch kind h.0 h.2 (gap_to_margin m (indented_lines cs) (comments_of x.0).before) m (alternative_parts m (indented_lines own) xs) left after next rest (map (λ x. with_flags_in mode x.0) xs)
      (coming_bounded m xs rest bounded) (alternatives_before m kind xs b.1 h.3 own (b.0.left m) rest)
      (alternatives_back m kind xs b.1 h.3 own (comments_in (from_comment next)) (from_comment next) rest bounded (starts_from m xs rest)))
