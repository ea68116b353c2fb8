-- The lines in front of a place, how many there are, and the gap before it.
use Rattle.bz_layout.proofs.Words.{[], ◌++◌, ◌+◌, ◌-◌, ◌<◌, ◌∙◌, ◌∷◌, ◌≡◌, ◌≤◌, ℕ, AllByRecursion, ap, append_assoc, arith, before_next, Bool, Bytes, comment_lines, cond, count_by, drop, drop-drop, drop_more, Expr, false, gap_between, get_or, indented_lines, IsProperBuildItem, Item, Item as i, left_gap, left_of, length, line_count_in, line_part, Lines, lines_from, List, Part, refl, statement_gap, suc, sym, take, take-append-drop, true, zero}
use Rattle.std.proofs.lemmas.List.Recursion.{is_count_by}
use Rattle.bz_layout.proofs.{BuildLaid.build_plain, Made.plain_first}

-- ---- a window of a list

module _ {X : Type 0} (size : List X → ℕ) (joined : ℕ → ℕ → ℕ) (append : (xs ys : List X) → size (xs ++ ys) ≡ joined (size xs) (size ys)) where
  -- what stays before it, what it has, and what follows
  pub cut_window : (from n : ℕ) (xs : List X) → size xs ≡ joined (size (take from xs)) (joined (size (take n (drop from xs))) (size (drop (from + n) xs)))
  cut_window from n xs =
      ap size (sym (take-append-drop from xs)) ∙
      (append (take from xs) (drop from xs) ∙
      ap (joined (size (take from xs)))
      (ap size (sym (take-append-drop n (drop from xs))) ∙ (append (take n (drop from xs)) (drop n (drop from xs)) ∙ ap (λ ys. joined (size (take n (drop from xs))) (size ys)) (drop-drop n from xs))))

-- ---- the lines in front of a place

-- an item's own line
abbrev own_lines : Bytes → Item → List Part
own_lines gap (i.Block texts) = []
own_lines gap (i.Stmt x) = line_part Lines.Counted gap x ∷ []

abbrev pub front_lines : Bytes → ℕ → List Item → List Part
front_lines gap zero items = []
front_lines gap (suc n) [] = []
front_lines gap (suc n) (item ∷ items) = own_lines gap item ++ front_lines (left_gap gap item ++ before_next item items) n items

lines_first : (gap : Bytes) (x : Item) (xs : List Item) → IsProperBuildItem x → lines_from gap (x ∷ xs) ≡ own_lines gap x ++ lines_from (left_gap gap x ++ before_next x xs) xs
lines_first gap (i.Block texts) xs p = refl
lines_first gap (i.Stmt x) xs p = plain_first Lines.Counted gap x xs (build_plain x p.1)

pub lines_cut : (gap : Bytes) (n : ℕ) (xs : List Item) → AllByRecursion IsProperBuildItem xs → n ≤ length xs → lines_from gap xs ≡ front_lines gap n xs ++ lines_from (statement_gap gap n xs) (drop n xs)
lines_cut gap zero xs p h = refl
lines_cut gap (suc n) [] p h = absurd (omega arith)
lines_cut gap (suc n) (x ∷ xs) p h =
    let next : Bytes = left_gap gap x ++ before_next x xs in
    lines_first gap x xs p.0 ∙
    (ap (λ ps. own_lines gap x ++ ps) (lines_cut next n xs p.1 (omega arith)) ∙
    sym (append_assoc (own_lines gap x) (front_lines next n xs) (lines_from (statement_gap next n xs) (drop n xs))))

-- what is after that place makes no difference to them
front_alone : (gap : Bytes) (n : ℕ) (xs : List Item) → n ≤ length xs → front_lines gap n xs ≡ front_lines gap n (take n xs)
front_alone gap zero xs h = refl
front_alone gap (suc n) [] h = absurd (omega arith)
front_alone gap (suc zero) (x ∷ xs) h = refl
front_alone gap (suc (suc n)) (x ∷ []) h = absurd (omega arith)
front_alone gap (suc (suc n)) (x ∷ y ∷ xs) h = ap (λ ps. own_lines gap x ++ ps) (front_alone (left_gap gap x ++ gap_between x y) (suc n) (y ∷ xs) (omega arith))

pub front_same : (gap : Bytes) (n : ℕ) (xs ys : List Item) → n ≤ length xs → n ≤ length ys → take n xs ≡ take n ys → front_lines gap n xs ≡ front_lines gap n ys
front_same gap n xs ys g h e = front_alone gap n xs g ∙ (ap (λ zs. front_lines gap n zs) e ∙ sym (front_alone gap n ys h))

-- ---- how many lines there are

pub length_front : (gap : Bytes) (n : ℕ) (xs : List Item) → length (front_lines gap n xs) ≡ line_count_in (take n xs)
length_front gap zero xs = refl
length_front gap (suc n) [] = refl
length_front gap (suc n) (i.Block texts ∷ xs) = length_front ((gap ++ comment_lines texts) ++ before_next (i.Block texts) xs) n xs
length_front gap (suc n) (i.Stmt x ∷ xs) = ap suc (length_front (before_next (i.Stmt x) xs) n xs)

pub length_lines : (gap : Bytes) (xs : List Item) → length (lines_from gap xs) ≡ suc (line_count_in xs)
length_lines gap [] = refl
length_lines gap (i.Block texts ∷ xs) = length_lines ((gap ++ comment_lines texts) ++ before_next (i.Block texts) xs) xs
length_lines gap (i.Stmt x ∷ xs) = ap suc (length_lines (indented_lines (left_of 0 x) ++ before_next (i.Stmt x) xs) xs)

-- whether an item has a line
abbrev pub makes_line : Item → Bool
makes_line (i.Block texts) = false
makes_line (i.Stmt x) = true

counted_first : (x : Item) (xs : List Item) → line_count_in (x ∷ xs) ≡ cond (makes_line x) (1 + line_count_in xs) (line_count_in xs)
counted_first (i.Block texts) xs = refl
counted_first (i.Stmt x) xs = omega arith

pub counted : (xs : List Item) → count_by makes_line xs ≡ line_count_in xs
counted xs = sym (is_count_by line_count_in makes_line refl counted_first xs)

-- ---- the gap before a place

-- a statement leaves nothing of the gap before it
pub gap_from : (gap other : Bytes) (at count : ℕ) (xs rest : List Item) (x : Expr) → at < count → drop at xs ≡ i.Stmt x ∷ rest → statement_gap gap (count - at) (drop at xs) ≡ statement_gap other count xs
gap_from gap other at zero xs rest x h e = absurd (omega (arith, h))
gap_from gap other zero (suc n) xs rest x h e =
    let all : suc n - zero ≡ suc n = omega arith in
    ap (λ m. statement_gap gap m xs) all ∙ (ap (statement_gap gap (suc n)) e ∙ sym (ap (statement_gap other (suc n)) e))
gap_from gap other (suc k) (suc n) [] rest x h e = absurd cc
gap_from gap other (suc k) (suc n) (y ∷ ys) rest x h e =
    let fewer : suc n - suc k ≡ n - k = omega arith in
    ap (λ m. statement_gap gap m (drop k ys)) fewer ∙ gap_from gap (left_gap other y ++ before_next y ys) k n ys rest x (omega (arith, h)) e

pub gap_next : (gap : Bytes) (from : ℕ) (xs : List Item) (k : ℕ) (d : Item) → k < from → k < length xs →
    statement_gap gap (from - k) (drop k xs) ≡ statement_gap (left_gap gap (get_or xs k d) ++ before_next (get_or xs k d) (drop (k + 1) xs)) (from - (k + 1)) (drop (k + 1) xs)
gap_next gap from xs k d g h =
    let one : from - k ≡ suc (from - (k + 1)) = omega arith in
    ap (λ ys. statement_gap gap (from - k) ys) (drop_more xs k d h) ∙ ap (λ n. statement_gap gap n (get_or xs k d ∷ drop (k + 1) xs)) one
