-- The program of what a tree says is that of the tree.
use Rattle.bz_build_format.proofs.Words.{[], ◌&&◌, ◌++◌, ◌∙◌, ◌∷◌, ◌≡◌, ap, bare_form, before_marks, Bool, both, branches, Bytes, cases_Bool, drop, end_of-Part, Expr, exprs_in, false, Frame, frame, headers_in, if◌then◌else◌, indented_lines_before, inl, inr, is_binary, is_comprehension, is_header, is_kind, is_operator, Item, Item as i, Kind, Kind as k, lead, List, made, map, map-append, more_of-Part, no_comments, Node', node_statements, node_syntax, Option, Parsed, parsed, parsed_row, Part, Part as p, part_syntax, program, put_header, refl, Row_of-Part, row_syntax, sequence, Stated, stated, stated_row, statement_read, statements_in, suc, suite_form, suite_in, suite_statements, suite_syntax, suites_in, syntax_of, take, true, ViewsKeepPrograms, walked, with_suite, zero, ℕ}
use Rattle.bz_value.specs.declared.value.Expr.TheVariants as e
use Rattle.bz_value.specs.Comments.{HostComments}
use Rattle.bz_value.specs.Gaps.{GapLine, has_newline, groups_of, all_but_last, last_group, all_in, others_in, comments_in}
use Rattle.bz_hosts.specs.View.{items_from}
use Rattle.bz_hosts.specs.Seen.{Seen, plain, row_exprs, items_in, item_in, is_split, is_open, first_seen_gap, seen_node, seen, seen_row, blocks, statements_in as seen_statements, statement_before}
use Rattle.bz_passes.proofs.SameSyntax.{syntax_Form}

-- whatever comments and break it is given, a part that was read has this syntax
abbrev Says : Seen → Expr → Type 0
Says s x = (comments : HostComments) (break : Bool) → syntax_of (s.make comments break) ≡ x

-- one by one
data Each {X Y : Type 0} (R : X → Y → Type 0) : List X → List Y → Type 0 where
  over : Each R [] []
  step : (x : X) (y : Y) (xs : List X) (ys : List Y) → R x y → Each R xs ys → Each R (x ∷ xs) (y ∷ ys)

each_taken : {X Y : Type 0} {R : X → Y → Type 0} {xs : List X} {ys : List Y} (n : ℕ) → Each R xs ys → Each R (take n xs) (take n ys)
each_taken zero over = over
each_taken zero (step x y xs ys a h) = over
each_taken (suc n) over = over
each_taken (suc n) (step x y xs ys a h) = step x y _ _ a (each_taken n h)

each_dropped : {X Y : Type 0} {R : X → Y → Type 0} {xs : List X} {ys : List Y} (n : ℕ) → Each R xs ys → Each R (drop n xs) (drop n ys)
each_dropped zero h = h
each_dropped (suc n) over = over
each_dropped (suc n) (step x y xs ys a h) = each_dropped n h

abbrev EachSays : List Seen → List Expr → Type 0
EachSays ss xs = Each Says ss xs

-- ---- rows

plain_says : {ss : List Seen} {xs : List Expr} → EachSays ss xs → map syntax_of (map plain ss) ≡ xs
plain_says over = refl
plain_says (step s x ss xs a h) = both (λ y ys. y ∷ ys) (a no_comments false) (plain_says h)

row_says : (binary inside newline : Bool) {ss : List Seen} {xs : List Expr} → EachSays ss xs → map syntax_of (row_exprs binary inside newline ss) ≡ xs
row_says binary inside newline over = refl
row_says binary inside newline (step s x ss xs a h) = both (λ y ys. y ∷ ys) (a _ _) (row_says binary (binary && is_operator (plain s)) (if inside then newline else has_newline s.gap) h)

-- ---- sequences

mutual
  items_say : (above : List Bytes) {ss : List Seen} {xs : List Expr} → EachSays ss xs → map syntax_of (items_in above ss).0 ≡ before_marks xs
  items_say above over = refl
  items_say above (step s x ss xs a h) = item_says above s x a h

  item_says : (above : List Bytes) (s : Seen) (x : Expr) {ss : List Seen} {xs : List Expr} → Says s x → EachSays ss xs → map syntax_of (item_in above s ss).0 ≡ before_marks (x ∷ xs)
  item_says above s x a over = refl
  item_says above s x a (step mark y _ _ b over) = both (λ z zs. z ∷ zs) (a _ false) refl
  item_says above s x a (step mark y _ _ b (step t z ss xs d h)) = both (λ v vs. v ∷ vs) (a _ false) (item_says (all_in mark.gap ++ others_in t.gap) t z d h)

-- ---- nodes

node_says : (f : Frame) (kind : Kind) (ss : List Seen) (xs : List Expr) → EachSays ss xs → Says (seen_node f kind ss) (node_syntax f kind xs)
node_says (sequence opener closer) kind ss xs h comments break =
    let body : List Seen = drop (suc (lead kind)) ss in
    let found : List Expr × List Bytes = items_in (all_in (first_seen_gap body)) body in
    syntax_Form (made kind (map plain (take (lead kind) ss)) found.0 found.1 (is_split body) false comments)
    ∙ both (λ ps items. e.Form (bare_form kind ps items)) (plain_says (each_taken (lead kind) h)) (items_say (all_in (first_seen_gap body)) (each_dropped (suc (lead kind)) h))
node_says _ kind ss xs h comments break =
    syntax_Form (made kind (row_exprs (is_binary kind) false false ss) [] [] false (is_comprehension kind && is_open ss) comments)
    ∙ ap (λ ps. e.Form (bare_form kind ps [])) (row_says (is_binary kind) false false h)

mutual
  part_says : (x : Part) → Says (seen x) (part_syntax x)
  part_says (p.Leaf l) comments break = refl
  part_says (Node' kind s parts) comments break = node_says (frame kind) kind (seen_row parts) (row_syntax parts) (each_says _ parts) comments break

  each_says : (m : _) (r : Row_of-Part m) → EachSays (seen_row r) (row_syntax r)
  each_says m end_of-Part = over
  each_says m (more_of-Part x rest) = step _ _ _ _ (part_says x) (each_says _ rest)

-- ---- the statements of a line

mutual
  line_says : (above : List Bytes) {ss : List Seen} {xs : List Expr} → EachSays ss xs → map syntax_of (exprs_in (seen_statements above ss)) ≡ before_marks xs
  line_says above over = refl
  line_says above (step s x _ _ a over) = refl
  line_says above (step s x _ _ a (step mark y ss xs b h)) = statement_says above s mark x y a h

  statement_says : (above : List Bytes) (s mark : Seen) (x y : Expr) {ss : List Seen} {xs : List Expr} → Says s x → EachSays ss xs → map syntax_of (exprs_in (statement_before above s mark ss)) ≡ before_marks (x ∷ y ∷ xs)
  statement_says above s mark x y a over = ap (λ z. z ∷ []) (a _ false)
  statement_says above s mark x y a (step t z _ _ d over) = ap (λ w. w ∷ []) (a _ false)
  statement_says above s mark x y a (step t z _ _ d (step u w ss xs e h)) = both (λ v vs. v ∷ vs) (a _ false) (statement_says [] t u z w d h)

-- ---- parts

-- whatever is around it, a part that was read says this
record Agrees (x : Stated) (y : Parsed) : Type 0 where
  part : Says x.part y.part
  colon : x.is_colon ≡ y.is_colon
  statements : (above : List Bytes) (after : List GapLine) → map syntax_of (x.statement above after).0 ≡ y.statements
  suite : (after : List GapLine) → map syntax_of (x.suite after).0.0 ≡ y.suite

abbrev EachAgrees : List Stated → List Parsed → Type 0
EachAgrees xs ys = Each Agrees xs ys

parts_agree : {xs : List Stated} {ys : List Parsed} → EachAgrees xs ys → EachSays (map (λ x. x.part) xs) (map (λ y. y.part) ys)
parts_agree over = over
parts_agree (step x y xs ys a h) = step _ _ _ _ a.part (parts_agree h)

-- ---- statements one after the other

walk_agrees : (above : List GapLine) {xs : List Stated} {ys : List Parsed} (after : List GapLine) → EachAgrees xs ys → map syntax_of (walked above xs after).0 ≡ statements_in ys
walk_agrees above after over = refl
walk_agrees above after (step x y xs ys a h) =
    let one = x.statement (comments_in above) (indented_lines_before xs after) in
    map-append syntax_of one.0 (walked one.1 xs after).0
    ∙ both (λ us vs. us ++ vs) (a.statements (comments_in above) (indented_lines_before xs after)) (walk_agrees one.1 after h)

-- ---- headers

one_more : {ss : List Seen} {xs : List Expr} (s : Seen) (x : Expr) → EachSays ss xs → Says s x → EachSays (ss ++ s ∷ []) (xs ++ x ∷ [])
one_more s x over a = step s x [] [] a over
one_more s x (step t y ss xs b h) a = step t y _ _ b (one_more s x h a)

-- a suite, with its header
suite_says : (kind : Kind) {ss : List Seen} {ps : List Expr} (above : List Bytes) (suffix : Option Bytes) (own : List Expr × List Bytes) (others : List Expr) (own' others' : List Expr)
    → EachSays ss ps → map syntax_of own.0 ≡ own' → map syntax_of others ≡ others' → syntax_of (suite_form kind ss above suffix own others) ≡ suite_syntax kind ps own' others'
suite_says kind {ss} {ps} above suffix own others own' others' h d g =
    let s : Seen = seen_node (frame kind) kind ss in
    syntax_Form (made k.Suite (plain s ∷ others) own.0 own.1 false false (record { before = above ++ s.loose; suffix = suffix }))
    ∙ both (λ zs us. e.Form (bare_form k.Suite zs us)) (both (λ z zs. z ∷ zs) (node_says (frame kind) kind ss ps h no_comments false) g) d

put_says : (first : Bool) (kind : Kind) {ss : List Seen} {ps : List Expr} (above : List Bytes) (suffix : Option Bytes) (own : List Expr × List Bytes) (others : List Expr) (own' others' : List Expr)
    → EachSays ss ps → map syntax_of own.0 ≡ own' → map syntax_of others ≡ others' → map syntax_of (put_header first (suite_form kind ss above suffix own) others) ≡ put_header first (suite_syntax kind ps own') others'
put_says true kind above suffix own others own' others' h d g = ap (λ z. z ∷ []) (suite_says kind above suffix own others own' others' h d g)
put_says false kind above suffix own others own' others' h d g = both (λ z zs. z ∷ zs) (suite_says kind above suffix own [] own' [] h d refl) g

mutual
  headers_agree : (first : Bool) (kind : Kind) {ss : List Seen} {ps : List Expr} (above : List Bytes) (left : List GapLine) {xs : List Stated} {ys : List Parsed} (after : List GapLine)
      → EachSays ss ps → EachAgrees xs ys → map syntax_of (branches first kind ss above left xs after).0 ≡ headers_in first kind ps ys
  headers_agree first kind above left after h over = refl
  headers_agree first kind above left after h (step x y xs ys a hs) = elim (cases_Bool y.is_colon) [
    | inl w ↦ let v : x.is_colon ≡ true = a.colon ∙ w in rw (v, w) (suites_agree first kind above left after h hs)
    | inr w ↦ let v : x.is_colon ≡ false = a.colon ∙ w in rw (v, w) (headers_agree first kind above left after (one_more x.part y.part h a.part) hs)
  ]

  suites_agree : (first : Bool) (kind : Kind) {ss : List Seen} {ps : List Expr} (above : List Bytes) (left : List GapLine) {xs : List Stated} {ys : List Parsed} (after : List GapLine)
      → EachSays ss ps → EachAgrees xs ys → map syntax_of (with_suite first kind ss above left xs after).0 ≡ suites_in first kind ps ys
  suites_agree first kind above left after h over = refl
  suites_agree first kind above left after h (step x y xs ys a hs) =
      let own = x.suite (indented_lines_before xs after) in
      put_says first kind above x.suffix own.0 (branches false kind [] (comments_in own.1) own.1 xs after).0 y.suite (headers_in false kind [] ys)
      h (a.suite (indented_lines_before xs after)) (headers_agree false kind (comments_in own.1) own.1 after over hs)

-- ---- parts of each kind

statement_agrees : (kind : Kind) (xs : List Stated) (ys : List Parsed) (above : List Bytes) (after : List GapLine) → EachAgrees xs ys → map syntax_of (statement_read kind xs above after).0 ≡ node_statements kind ys
statement_agrees kind xs ys above after h = elim (cases_Bool (is_kind kind k.Line)) [
  | inl w ↦ rw w (line_says above (parts_agree h))
  | inr w ↦ elim (cases_Bool (is_header kind)) [
    | inl v ↦ rw (w, v) (headers_agree true kind above after after over h)
    | inr v ↦ rw (w, v) refl
  ]
]

suite_agrees : (kind : Kind) (xs : List Stated) (ys : List Parsed) (after : List GapLine) → EachAgrees xs ys → map syntax_of (suite_in kind xs after).0.0 ≡ suite_statements kind ys
suite_agrees kind xs ys after h = elim (cases_Bool (is_kind kind k.Line)) [
  | inl w ↦ rw w (line_says [] (parts_agree h))
  | inr w ↦ elim (cases_Bool (is_kind kind k.Suite)) [
    | inl v ↦ rw (w, v) (walk_agrees (indented_lines_before (drop 1 xs) []) after (each_dropped 1 h))
    | inr v ↦ rw (w, v) refl
  ]
]

mutual
  part_agrees : (x : Part) → Agrees (stated x) (parsed x)
  part_agrees (p.Leaf l) = record { part = part_says (p.Leaf l); colon = refl; statements = λ above after. refl; suite = λ after. refl }
  part_agrees (Node' kind size parts) = record {
    part = part_says (Node' kind size parts);
    colon = refl;
    statements = λ above after. statement_agrees kind (stated_row parts) (parsed_row parts) above after (each_agrees _ parts);
    suite = λ after. suite_agrees kind (stated_row parts) (parsed_row parts) after (each_agrees _ parts);
  }

  each_agrees : (m : _) (r : Row_of-Part m) → EachAgrees (stated_row r) (parsed_row r)
  each_agrees m end_of-Part = over
  each_agrees m (more_of-Part x rest) = step _ _ _ _ (part_agrees x) (each_agrees _ rest)

-- ---- the file

program_append : (xs ys : List Item) → program (xs ++ ys) ≡ program xs ++ program ys
program_append [] ys = refl
program_append (i.Block lines ∷ xs) ys = program_append xs ys
program_append (i.Stmt x ∷ xs) ys = ap (λ zs. syntax_of x ∷ zs) (program_append xs ys)

no_program : (groups : List (List Bytes)) (ys : List Item) → program (blocks groups ++ ys) ≡ program ys
no_program [] ys = refl
no_program ([] ∷ groups) ys = no_program groups ys
no_program ((text ∷ group) ∷ groups) ys = no_program groups ys

as_items : (xs : List Expr) → program (map i.Stmt xs) ≡ map syntax_of xs
as_items [] = refl
as_items (x ∷ xs) = ap (λ z. syntax_of x ∷ z) (as_items xs)

items_agree : (lines : List GapLine) (xs : List Part) → program (items_from lines xs) ≡ statements_in (map parsed xs)
items_agree lines [] = refl
items_agree lines (p.Leaf l ∷ xs) = no_program (groups_of lines) (items_from [] xs) ∙ items_agree [] xs
items_agree lines (Node' kind size parts ∷ xs) =
    let groups : List (List Bytes) = groups_of lines in
    let own = (stated (Node' kind size parts)).statement (last_group groups) (indented_lines_before (map stated xs) []) in
    no_program (all_but_last groups) (map i.Stmt own.0 ++ items_from own.1 xs)
    ∙ program_append (map i.Stmt own.0) (items_from own.1 xs)
    ∙ both (λ us vs. us ++ vs)
    (as_items own.0 ∙ (part_agrees (Node' kind size parts)).statements (last_group groups) (indented_lines_before (map stated xs) []))
    (items_agree own.1 xs)

pub views_keep_programs : ViewsKeepPrograms
views_keep_programs tree = items_agree (indented_lines_before (map stated tree.parts) []) tree.parts
