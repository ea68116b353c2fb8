-- Lines without comments after a statement change nothing of what it says, and are left with what it leaves.
use Rattle.bz_hosts.proofs.Words.{[], ◌++◌, ◌∙◌, ◌∷◌, ◌≡◌, after_end, after_first_line, AllByRecursion, ap, append-nil, append_assoc, ap₂, as_list, Bool, branches, Bytes, comments_in, cond-true, drop, end_comments, end_of-Part, false, GapLine, if◌then◌else◌, indented_lines_before, is_header, is_kind, is_taken_line, Kind, Kind as k, last_gap, line_read, lines_of, List, map, margin_of, more_of-Part, Node', None, Option, Part, Part as p, put_header, ReadStatements, refl, Row_of-Part, Seen, Some, Stated, stated, stated_row, statement_read, subst, suite_form, suite_in, suite_read, sym, true, walked, with_suite, ℕ}
use Rattle.bz_hosts.proofs.{SuiteLines.Lines, SeenParts.all_cut}

abbrev pub Blank : Lines → Type 0
Blank lines = AllByRecursion (λ l. l.comment ≡ None) lines

-- these lines, and blank ones after them
abbrev pub MoreLines : Lines → Lines → Type 0
MoreLines a b = (bs : Lines) × Blank bs × (a ≡ b ++ bs)

abbrev pub Alike : {X : Type 0} → ReadStatements X → ReadStatements X → Type 0
Alike a b = (a.0 ≡ b.0) × MoreLines a.1 b.1

more_same : (a : Lines) → MoreLines a a
more_same a = ([], tt, sym (append-nil a))

-- ---- comments

pub comments_append : (xs ys : Lines) → comments_in (xs ++ ys) ≡ comments_in xs ++ comments_in ys
comments_append [] ys = refl
comments_append (x ∷ xs) ys = ap (λ t. as_list x.comment ++ t) (comments_append xs ys) ∙ sym (append_assoc (as_list x.comment) (comments_in xs) (comments_in ys))

blank_comments : (bs : Lines) → Blank bs → comments_in bs ≡ []
blank_comments [] h = refl
blank_comments (b ∷ bs) h = ap (λ o. as_list o ++ comments_in bs) h.0 ∙ blank_comments bs h.1

more_comments : (a b : Lines) → MoreLines a b → comments_in a ≡ comments_in b
more_comments a b (bs, h, e) =
    ap comments_in e ∙ (comments_append b bs ∙ (ap (λ t. comments_in b ++ t) (blank_comments bs h) ∙ append-nil (comments_in b)))

some_or_none : (o : Option Bytes) (rest : List Bytes) → as_list o ++ rest ≡ [] → (o ≡ None) × (rest ≡ [])
some_or_none None rest h = (refl, h)
some_or_none (Some text) rest h = absurd cc

pub none_blank : (lines : Lines) → comments_in lines ≡ [] → Blank lines
none_blank [] h = tt
none_blank (l ∷ lines) h = let w = some_or_none l.comment (comments_in lines) h in (w.0, none_blank lines w.1)

-- ---- end comments

blank_taken : (m : ℕ) (bs : Lines) → Blank bs → (end_comments m bs ≡ []) × (after_end m bs ≡ [])
blank_taken m [] h = (refl, refl)
blank_taken m (b ∷ bs) h =
    let all = blank_taken m bs h.1 in
    let taken : is_taken_line m b.indent b.comment ≡ true = ap (is_taken_line m b.indent) h.0 in
    (cond-true _ _ _ taken ∙ (ap (λ o. (as_list o ++ []) ++ end_comments m bs) h.0 ∙ all.0), cond-true _ _ _ taken ∙ all.1)

ends_step : (t : Bool) (m : ℕ) (x : GapLine) (b bs : Lines) → Blank bs → (end_comments m (b ++ bs) ≡ end_comments m b) × MoreLines (after_end m (b ++ bs)) (after_end m b)
    → ((if t then comments_in (x ∷ []) ++ end_comments m (b ++ bs) else []) ≡ (if t then comments_in (x ∷ []) ++ end_comments m b else []))
    × MoreLines (if t then after_end m (b ++ bs) else x ∷ (b ++ bs)) (if t then after_end m b else x ∷ b)
ends_step true m x b bs h w = (ap (λ t. comments_in (x ∷ []) ++ t) w.0, w.1)
ends_step false m x b bs h w = (refl, (bs, h, refl))

ends_joined : (m : ℕ) (b bs : Lines) → Blank bs → (end_comments m (b ++ bs) ≡ end_comments m b) × MoreLines (after_end m (b ++ bs)) (after_end m b)
ends_joined m [] bs h = let all = blank_taken m bs h in (all.0, ([], tt, all.1))
ends_joined m (x ∷ b) bs h = ends_step (is_taken_line m x.indent x.comment) m x b bs h (ends_joined m b bs h)

ends_alike : (m : ℕ) (a b : Lines) → MoreLines a b → (end_comments m a ≡ end_comments m b) × MoreLines (after_end m a) (after_end m b)
ends_alike m a b (bs, h, e) = subst (λ z. (end_comments m z ≡ end_comments m b) × MoreLines (after_end m z) (after_end m b)) (sym e) (ends_joined m b bs h)

-- ---- parts

-- a part that says the same before more blank lines
record Calm (x : Stated) : Type 0 where
  statement : (above : List Bytes) (a b : Lines) → MoreLines a b → Alike (x.statement above a) (x.statement above b)
  suite : (a b : Lines) → MoreLines a b → Alike (x.suite a) (x.suite b)

abbrev AllCalm : List Stated → Type 0
AllCalm xs = AllByRecursion Calm xs

before_alike : (xs : List Stated) (a b : Lines) → MoreLines a b → MoreLines (indented_lines_before xs a) (indented_lines_before xs b)
before_alike [] a b m = m
before_alike (x ∷ xs) a b m = more_same (indented_lines_before (x ∷ xs) a)

alike_by : {X : Type 0} (t : Bool) (v w v' w' : ReadStatements X) → Alike v v' → Alike w w' → Alike (if t then v else w) (if t then v' else w')
alike_by true v w v' w' e f = e
alike_by false v w v' w' e f = f

line_alike : (ss : List Seen) (above : List Bytes) (a b : Lines) → MoreLines a b → Alike (line_read ss above a) (line_read ss above b)
line_alike ss above a b (bs, h, e) =
    let left : Lines = after_first_line (lines_of (last_gap ss)) in
    (refl, (bs, h, ap (λ z. left ++ z) e ∙ sym (append_assoc left b bs)))

walked_alike : (l m : Lines) (xs : List Stated) (a b : Lines) → AllCalm xs → MoreLines l m → MoreLines a b → Alike (walked l xs a) (walked m xs b)
walked_alike l m [] a b h i j = (refl, i)
walked_alike l m (x ∷ xs) a b h i j =
    let c : Lines = indented_lines_before xs a in
    let d : Lines = indented_lines_before xs b in
    let one : Alike (x.statement (comments_in l) c) (x.statement (comments_in m) d) =
    subst (λ t. Alike (x.statement t c) (x.statement (comments_in m) d)) (sym (more_comments l m i)) (h.0.statement (comments_in m) c d (before_alike xs a b j)) in
    let more = walked_alike (x.statement (comments_in l) c).1 (x.statement (comments_in m) d).1 xs a b h.1 one.1 j in
    (ap₂ (λ ys zs. ys ++ zs) one.0 more.0, more.1)

abbrev pair : {A B : Type 0} → A → B → A × B
pair a b = (a, b)

suite_alike : (xs : List Stated) (a b : Lines) → AllCalm xs → MoreLines a b → Alike (suite_read xs a) (suite_read xs b)
suite_alike xs a b h i =
    let first : Lines = indented_lines_before xs [] in
    let all = walked_alike first first xs a b h (more_same first) i in
    let ends = ends_alike (margin_of xs) (walked first xs a).1 (walked first xs b).1 all.1 in
    (ap₂ pair all.0 ends.0, ends.1)

mutual
  branches_alike : (first : Bool) (kind : Kind) (ps : List Seen) (above : List Bytes) (l m : Lines) (xs : List Stated) (a b : Lines) → AllCalm xs → MoreLines l m → MoreLines a b → Alike (branches first kind ps above l xs a) (branches first kind ps above m xs b)
  branches_alike first kind ps above l m [] a b h i j = (refl, i)
  branches_alike first kind ps above l m (x ∷ xs) a b h i j =
      alike_by x.is_colon (with_suite first kind ps above l xs a) (branches first kind (ps ++ x.part ∷ []) above l xs a) (with_suite first kind ps above m xs b) (branches first kind (ps ++ x.part ∷ []) above m xs b)
      (suites_alike first kind ps above l m xs a b h.1 i j) (branches_alike first kind (ps ++ x.part ∷ []) above l m xs a b h.1 i j)

  suites_alike : (first : Bool) (kind : Kind) (ps : List Seen) (above : List Bytes) (l m : Lines) (xs : List Stated) (a b : Lines) → AllCalm xs → MoreLines l m → MoreLines a b → Alike (with_suite first kind ps above l xs a) (with_suite first kind ps above m xs b)
  suites_alike first kind ps above l m [] a b h i j = (refl, i)
  suites_alike first kind ps above l m (x ∷ xs) a b h i j =
      let c : Lines = (x.suite (indented_lines_before xs a)).1 in
      let d : Lines = (x.suite (indented_lines_before xs b)).1 in
      let own = h.0.suite (indented_lines_before xs a) (indented_lines_before xs b) (before_alike xs a b j) in
      let more : Alike (branches false kind [] (comments_in c) c xs a) (branches false kind [] (comments_in d) d xs b) =
      subst (λ t. Alike (branches false kind [] t c xs a) (branches false kind [] (comments_in d) d xs b)) (sym (more_comments c d own.1)) (branches_alike false kind [] (comments_in d) c d xs a b h.1 own.1 j) in
      (ap₂ (λ o rest. put_header first (suite_form kind ps above x.suffix o) rest) own.0 more.0, more.1)

-- ---- nodes

statement_alike : (kind : Kind) (xs : List Stated) → AllCalm xs → (above : List Bytes) (a b : Lines) → MoreLines a b → Alike (statement_read kind xs above a) (statement_read kind xs above b)
statement_alike kind xs h above a b i =
    alike_by (is_kind kind k.Line) _ _ _ _ (line_alike (map (λ x. x.part) xs) above a b i)
    (alike_by (is_header kind) (branches true kind [] above a xs a) ([], a) (branches true kind [] above b xs b) ([], b) (branches_alike true kind [] above a b xs a b h i i) (refl, i))

suite_in_alike : (kind : Kind) (xs : List Stated) → AllCalm xs → (a b : Lines) → MoreLines a b → Alike (suite_in kind xs a) (suite_in kind xs b)
suite_in_alike kind xs h a b i =
    alike_by (is_kind kind k.Line) _ _ _ _ (refl, (line_alike (map (λ x. x.part) xs) [] a b i).1)
    (alike_by (is_kind kind k.Suite) (suite_read (drop 1 xs) a) (([], []), a) (suite_read (drop 1 xs) b) (([], []), b) (suite_alike (drop 1 xs) a b (all_cut Calm 1 xs h).1 i) (refl, i))

mutual
  part_calm : (x : Part) → Calm (stated x)
  part_calm (p.Leaf l) = record { statement = λ above a b i. (refl, i); suite = λ a b i. (refl, i) }
  part_calm (Node' kind size row) = record { statement = statement_alike kind (stated_row row) (row_calm _ row); suite = suite_in_alike kind (stated_row row) (row_calm _ row) }

  row_calm : (m : _) (r : Row_of-Part m) → AllCalm (stated_row r)
  row_calm m end_of-Part = tt
  row_calm m (more_of-Part x rest) = (part_calm x, row_calm _ rest)

-- a statement says the same before blank lines as before none
pub before_blank : (x : Part) (above : List Bytes) (a b : Lines) → Blank a → b ≡ [] → Alike ((stated x).statement above a) ((stated x).statement above b)
before_blank x above a b h e = (part_calm x).statement above a b (a, h, sym (ap (λ z. z ++ a) e))
