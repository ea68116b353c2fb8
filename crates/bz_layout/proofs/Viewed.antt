-- A row that is laid out reads back: each part with its flags settled, breaks where they were, nothing loose.
use Rattle.bz_layout.proofs.Words.{[], ◌&&◌, ◌++◌, ◌+◌, ◌||◌, ◌∙◌, ◌∷◌, ◌≡◌, ℕ, all_in, AllByRecursion, and-false, and-true, and_parts, ap, begins_seen_operator, Bool, Bytes, comments_in, comments_of, Expr, false, first_seen_gap, firsts, gap_after, GapLine, has_break, has_newline, if◌then◌else◌, is_binary, is_comprehension, is_empty, is_open, is_operator, is_spaced, Kind, Kind as k, Lines, lines_of, List, loose_after, map, margin_after, new_line_at, no_comments, None, not, operator_first, PartAt, Piece, piece_part, plain, refl, root, row_exprs, rowed, Seen, seen, some_newline, space, sym, true, true≢false, with_flags_in}
use Rattle.bz_layout.proofs.{Fitted.IsRooted, Framed.after_first, Gapped.ended_line, Gapped.lines_line, Readable.AreParts, Readable.ends}

abbrev pub look : List (Piece PartAt) → List Seen
look ps = map seen (map piece_part ps)

-- ---- truth values

-- The flag that is read of a part: binary, operator: the row and the part; next: an operator comes next; before: a newline
-- before it; open_: an open row; break: its own flag; last: nothing comes next.
flag : (binary operator next before open_break break last : Bool) → (break ≡ true → (binary && (operator && not next)) ≡ true) → ((binary && operator) ≡ true → before ≡ false) → (last ≡ true → (binary && operator) ≡ false) →
    ((binary && operator) ≡ true → open_break ≡ false) → (((binary && operator) && not next) && (before || ((open_break || break) && not last))) ≡ break
flag false operator next before open_break true last h a z o = absurd (true≢false (sym (h refl)))
flag false operator next before open_break false last h a z o = refl
flag true false next before open_break true last h a z o = absurd (true≢false (sym (h refl)))
flag true false next before open_break false last h a z o = refl
flag true true true before open_break true last h a z o = absurd (true≢false (sym (h refl)))
flag true true true before open_break false last h a z o = refl
flag true true false true open_break break last h a z o = absurd (true≢false (a refl))
flag true true false false true break last h a z o = absurd (true≢false (o refl))
flag true true false false false break true h a z o = absurd (true≢false (z refl))
flag true true false false false break false h a z o = and-true break

-- what is before the next operator
quiet_next : (binary operator next before open_break break last : Bool) → (break ≡ true → (binary && (operator && not next)) ≡ true) → ((binary && operator) ≡ true → before ≡ false) → (binary ≡ true → open_break ≡ false) →
    (binary && next) ≡ true → (if binary && operator then before else ((open_break || break) && not last)) ≡ false
quiet_next false operator next before open_break break last h a o n = absurd (true≢false (sym n))
quiet_next true true next before open_break break last h a o n = a refl
quiet_next true false next before true break last h a o n = absurd (true≢false (o refl))
quiet_next true false next before false true last h a o n = absurd (true≢false (sym (h refl)))
quiet_next true false next before false false last h a o n = refl

-- ---- gaps in rows

abbrev lines_if : Bool → List GapLine
lines_if newline = if newline then ended_line 0 None ∷ [] else []

newline_if : (b : Bool) → some_newline (lines_if b) ≡ b
newline_if true = refl
newline_if false = refl

comments_if : (b : Bool) → comments_in (lines_if b) ≡ []
comments_if true = refl
comments_if false = refl

one_gap : (open_break break spaced : Bool) (a b : ℕ) → lines_of (if open_break then new_line_at a else (if break then new_line_at b else (if spaced then space ∷ [] else []))) ≡ lines_if (open_break || break)
one_gap true break spaced a b = lines_line a
one_gap false true spaced a b = lines_line b
one_gap false false true a b = refl
one_gap false false false a b = refl

gap_lines : (kind : Kind) (open_break : Bool) (m : ℕ) (x : Expr) (ys : List Expr) → lines_of (gap_after kind open_break m x ys) ≡ lines_if ((open_break || has_break x) && not (is_empty ys))
gap_lines kind open_break m x [] = ap lines_if (sym (and-false (open_break || has_break x)))
gap_lines kind open_break m x (y ∷ ys) = one_gap open_break (has_break x) (is_spaced kind (root x) (root y)) _ (m + 4) ∙ ap lines_if (sym (and-true (open_break || has_break x)))

gap_newline : (kind : Kind) (open_break : Bool) (m : ℕ) (x : Expr) (ys : List Expr) → has_newline (gap_after kind open_break m x ys) ≡ ((open_break || has_break x) && not (is_empty ys))
gap_newline kind open_break m x ys = ap some_newline (gap_lines kind open_break m x ys) ∙ newline_if _

pub gap_bare : (kind : Kind) (open_break : Bool) (m : ℕ) (x : Expr) (ys : List Expr) → all_in (gap_after kind open_break m x ys) ≡ []
gap_bare kind open_break m x ys = ap comments_in (gap_lines kind open_break m x ys) ∙ comments_if _

-- the row after a part
abbrev following : Kind → Bool → ℕ → Expr → List (Expr × PartAt) → List (Piece PartAt)
following kind open_break m x ys = rowed kind open_break m (gap_after kind open_break m x (firsts ys)) (margin_after open_break m x) ys

last_next : (binary : Bool) (x : Expr) (xs : List Expr) → (binary && ends (x ∷ xs)) ≡ false → (binary && ends xs) ≡ false
last_next binary x [] h = and-false binary
last_next binary x (y ∷ ys) h = h

last_here : (binary : Bool) (x : Expr) (xs : List Expr) → (binary && ends (x ∷ xs)) ≡ false → is_empty xs ≡ true → (binary && is_operator x) ≡ false
last_here binary x [] h e = h
last_here binary x (y ∷ ys) h e = absurd (true≢false (sym e))

-- ---- open comprehensions

-- no comprehension is binary
pub not_binary : (kind : Kind) → is_comprehension kind ≡ true → is_binary kind ≡ false
not_binary k.ListComp h = refl
not_binary k.DictComp h = refl
not_binary _ h = absurd (true≢false (sym h))

no_break : (b : Bool) → (b ≡ true → false ≡ true) → b ≡ false
no_break true h = sym (h refl)
no_break false h = refl

-- in a row that is not binary no part has a break
unbroken : (binary : Bool) (x : Expr) (xs : List Expr) → binary ≡ false → AreParts binary (x ∷ xs) → has_break x ≡ false
unbroken binary x xs n h = no_break (has_break x) (λ e. ap (λ z. z && (is_operator x && not (operator_first xs))) (sym n) ∙ h.1 e)

opened : (comprehension open_break newline : Bool) → (open_break ≡ true → comprehension ≡ true) → (comprehension ≡ true → newline ≡ open_break) → (comprehension && newline) ≡ open_break
opened true open_break newline o h = h refl
opened false true newline o h = o refl
opened false false newline o h = refl

only_open : (open_break break last : Bool) → break ≡ false → last ≡ false → ((open_break || break) && not last) ≡ open_break
only_open true break last b l = ap (λ z. not z) l
only_open false break last b l = ap (λ z. z && not last) b

module _ (mode : Lines) where
  -- What is laid out of an expression is seen as the expression with its flags settled; the gap comes back, and no comment is loose.
  pub record SeenAs (x : Expr × PartAt) : Type 0 where
    pub value : (g : Bytes) (m : ℕ) → (seen (x.1 g m)).make (comments_of x.0) (has_break x.0) ≡ with_flags_in mode x.0
    pub sign : (g : Bytes) (m : ℕ) → is_operator (plain (seen (x.1 g m))) ≡ is_operator x.0
    pub gap : (g : Bytes) (m : ℕ) → (seen (x.1 g m)).gap ≡ g
    pub loose : (g : Bytes) (m : ℕ) → (seen (x.1 g m)).loose ≡ []
    pub rooted : IsRooted x

  abbrev pub Reads : List (Expr × PartAt) → Type 0
  Reads xs = AllByRecursion SeenAs xs

  abbrev pub settled : List (Expr × PartAt) → List Expr
  settled xs = map (λ x. with_flags_in mode x.0) xs

  -- ---- gaps in rows

  next_newline : (kind : Kind) (open_break : Bool) (m : ℕ) (x : Expr) (ys : List (Expr × PartAt)) → Reads ys → has_newline (first_seen_gap (look (following kind open_break m x ys))) ≡ ((open_break || has_break x) && not (is_empty (firsts ys)))
  next_newline kind open_break m x [] h = sym (and-false (open_break || has_break x))
  next_newline kind open_break m x (y ∷ ys) h = ap has_newline (h.0.gap (gap_after kind open_break m x (firsts (y ∷ ys))) (margin_after open_break m x)) ∙ gap_newline kind open_break m x (firsts (y ∷ ys))

  next_sign : (kind : Kind) (open_break : Bool) (m : ℕ) (g : Bytes) (n : ℕ) (ys : List (Expr × PartAt)) → Reads ys → begins_seen_operator (look (rowed kind open_break m g n ys)) ≡ operator_first (firsts ys)
  next_sign kind open_break m g n [] h = refl
  next_sign kind open_break m g n (y ∷ ys) h = h.0.sign g n

  -- ---- rows

  pub row_back : (binary inside newline : Bool) (kind : Kind) (open_break : Bool) (m : ℕ) (g : Bytes) (n : ℕ) (xs : List (Expr × PartAt)) → Reads xs → AreParts binary (firsts xs) → (binary && ends (firsts xs)) ≡ false →
      (binary ≡ true → open_break ≡ false) → ((binary && operator_first (firsts xs)) ≡ true → (if inside then newline else has_newline g) ≡ false) → row_exprs binary inside newline (look (rowed kind open_break m g n xs)) ≡ settled xs
  row_back binary inside newline kind open_break m g n [] r parts last o q = refl
  row_back binary inside newline kind open_break m g n (x ∷ xs) r parts last o q =
      let s : Seen = seen (x.1 g n) in
      let ss : List Seen = look (following kind open_break m x.0 xs) in
      let operator : Bool = is_operator x.0 in
      let before : Bool = if inside then newline else has_newline g in
      let next : Bool = operator_first (firsts xs) in
      let far : Bool = (open_break || has_break x.0) && not (is_empty (firsts xs)) in
      let out : Bool → Bool → Bool → Bool → List Expr = (λ a b c d. s.make no_comments ((a && not c) && (b || d)) ∷ row_exprs binary a b ss) in
      let rest : List Expr = row_exprs binary (binary && operator) before ss in
      let fine : ((binary && operator) ≡ true → open_break ≡ false) = λ e. o (and_parts binary operator e).0 in
      ap (λ z. out (binary && z) (if inside then newline else has_newline s.gap) (begins_seen_operator ss) (has_newline (first_seen_gap ss))) (r.0.sign g n) ∙
      (ap (λ z. out (binary && operator) (if inside then newline else has_newline z) (begins_seen_operator ss) (has_newline (first_seen_gap ss))) (r.0.gap g n) ∙
      (ap (λ z. out (binary && operator) before z (has_newline (first_seen_gap ss))) (next_sign kind open_break m (gap_after kind open_break m x.0 (firsts xs)) (margin_after open_break m x.0) xs r.1) ∙
      (ap (λ z. out (binary && operator) before next z) (next_newline kind open_break m x.0 xs r.1) ∙
      (ap (λ z. s.make no_comments z ∷ rest) (flag binary operator next before open_break (has_break x.0) (is_empty (firsts xs)) parts.1 q (last_here binary x.0 (firsts xs) last) fine) ∙
      (ap (λ z. s.make z (has_break x.0) ∷ rest) (sym parts.0) ∙
      (ap (λ z. z ∷ rest) (r.0.value g n) ∙
      ap (λ z. with_flags_in mode x.0 ∷ z)
      (row_back binary (binary && operator) before kind open_break m (gap_after kind open_break m x.0 (firsts xs)) (margin_after open_break m x.0) xs r.1 parts.2 (last_next binary x.0 (firsts xs) last) o
      (λ e. ap (λ z. if binary && operator then before else z) (gap_newline kind open_break m x.0 (firsts xs)) ∙ quiet_next binary operator next before open_break (has_break x.0) (is_empty (firsts xs)) parts.1 q o e))))))))

  -- nothing is loose in a row
  pub row_loose : (kind : Kind) (open_break : Bool) (m : ℕ) (g : Bytes) (n : ℕ) (xs : List (Expr × PartAt)) → Reads xs → all_in g ≡ [] → loose_after (look (rowed kind open_break m g n xs)) ≡ []
  row_loose kind open_break m g n [] r q = refl
  row_loose kind open_break m g n (x ∷ xs) r q =
      let s : Seen = seen (x.1 g n) in
      let rest : List Bytes = loose_after (look (following kind open_break m x.0 xs)) in
      ap (λ z. (all_in z ++ s.loose) ++ rest) (r.0.gap g n) ∙
      (ap (λ z. (z ++ s.loose) ++ rest) q ∙ (ap (λ z. z ++ rest) (r.0.loose g n) ∙ row_loose kind open_break m (gap_after kind open_break m x.0 (firsts xs)) (margin_after open_break m x.0) xs r.1 (gap_bare kind open_break m x.0 (firsts xs))))

  -- ---- open comprehensions

  -- a comprehension is open exactly where a new line begins after its bracket
  pub open_back : (kind : Kind) (open_break : Bool) (m : ℕ) (g : Bytes) (n : ℕ) (xs : List (Expr × PartAt)) → Reads xs → AreParts (is_binary kind) (firsts xs) → (is_comprehension kind ≡ true → is_empty (after_first (firsts xs)) ≡ false) →
      (open_break ≡ true → is_comprehension kind ≡ true) → (is_comprehension kind && is_open (look (rowed kind open_break m g n xs))) ≡ open_break
  open_back kind open_break m g n [] r parts second opens = opened (is_comprehension kind) open_break false opens (λ e. absurd (true≢false (second e)))
  open_back kind open_break m g n (x ∷ xs) r parts second opens =
      opened (is_comprehension kind) open_break (is_open (look (rowed kind open_break m g n (x ∷ xs)))) opens
      (λ e. next_newline kind open_break m x.0 xs r.1 ∙ only_open open_break (has_break x.0) (is_empty (firsts xs)) (unbroken (is_binary kind) x.0 (firsts xs) (not_binary kind e) parts) (second e))
