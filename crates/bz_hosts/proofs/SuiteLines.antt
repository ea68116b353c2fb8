-- The lines before a leaf, those that suites leave of them, and what is read of leaves, by their numbers.
use Rattle.bz_hosts.proofs.Words.{[], ◌&&◌, ◌++◌, ◌+◌, ◌<◌, ◌∙◌, ◌∷◌, ◌≡◌, ◌≢◌, ◌≤◌, after_end, after_first_line, AllByRecursion, and_right, ap, append_assoc, arith, Bytes, cond-false, GapLine, Hosted, if◌then◌else◌, Leaf, leaf_gap, left_by, length, length-append, lines_before, lines_of, List, nat_eq, nat_lt, ne_eqb, Page, refl, Suite, sym, zero, ℕ}
use Rattle.bz_hosts.proofs.SeenParts.{all_mapped}

abbrev pub Lines : Type 0
Lines = List GapLine

-- ---- the first and the last gap of leaves

abbrev pub gap_of : List Leaf → Bytes
gap_of [] = []
gap_of (l ∷ ls) = l.gap

abbrev pub last_leaf_gap : List Leaf → Bytes
last_leaf_gap [] = []
last_leaf_gap (l ∷ []) = l.gap
last_leaf_gap (l ∷ m ∷ ls) = last_leaf_gap (m ∷ ls)

pub last_leaf_after : (ls : List Leaf) (m : Leaf) (ms : List Leaf) → last_leaf_gap (ls ++ m ∷ ms) ≡ last_leaf_gap (m ∷ ms)
last_leaf_after [] m ms = refl
last_leaf_after (l ∷ []) m ms = refl
last_leaf_after (l ∷ l' ∷ ls) m ms = last_leaf_after (l' ∷ ls) m ms

-- ---- what several suites leave

pub left_joined : (a n : ℕ) (xs ys : List Suite) (lines : Lines) → left_by a n (xs ++ ys) lines ≡ left_by a n xs (left_by a n ys lines)
left_joined a n [] ys lines = refl
left_joined a n (x ∷ xs) ys lines = ap (λ (z : Lines). if nat_lt a x.first && nat_eq x.following n then after_end x.margin z else z) (left_joined a n xs ys lines)

-- suites that end elsewhere
abbrev Apart : ℕ → Suite → Type 0
Apart n x = x.following ≢ n

none_leave : (a n : ℕ) (xs : List Suite) (lines : Lines) → AllByRecursion (Apart n) xs → left_by a n xs lines ≡ lines
none_leave a n [] lines h = refl
none_leave a n (x ∷ xs) lines h =
    cond-false (nat_lt a x.first && nat_eq x.following n) (after_end x.margin (left_by a n xs lines)) (left_by a n xs lines) (and_right (nat_lt a x.first) (nat_eq x.following n) (ne_eqb x.following n h.0))
    ∙ none_leave a n xs lines h.1

-- suites among the leaves after lo, which end at hi or before
abbrev pub Between : ℕ → ℕ → Suite → Type 0
Between lo hi x = (lo < x.first) × (x.first < x.following) × (x.following ≤ hi)

abbrev pub AllBetween : ℕ → ℕ → List Suite → Type 0
AllBetween lo hi xs = AllByRecursion (Between lo hi) xs

pub suites_wider : (lo hi lo' hi' : ℕ) → lo' ≤ lo → hi ≤ hi' → (xs : List Suite) → AllBetween lo hi xs → AllBetween lo' hi' xs
suites_wider lo hi lo' hi' l u xs h = all_mapped (Between lo hi) (Between lo' hi') (λ x b. (omega (arith, b.0), b.1, omega (arith, b.2))) xs h

passed : (lo hi n : ℕ) → hi < n → (xs : List Suite) → AllBetween lo hi xs → AllByRecursion (Apart n) xs
passed lo hi n l xs h = all_mapped (Between lo hi) (Apart n) (λ x b e. omega (arith, b.2, e)) xs h

ahead : (lo hi n : ℕ) → n ≤ lo → (xs : List Suite) → AllBetween lo hi xs → AllByRecursion (Apart n) xs
ahead lo hi n l xs h = all_mapped (Between lo hi) (Apart n) (λ x b e. omega (arith, b.0, b.1, e)) xs h

pub past : (a n lo hi : ℕ) (xs : List Suite) (lines : Lines) → hi < n → AllBetween lo hi xs → left_by a n xs lines ≡ lines
past a n lo hi xs lines l h = none_leave a n xs lines (passed lo hi n l xs h)

pub beyond : (a n lo hi : ℕ) (xs : List Suite) (lines : Lines) → n ≤ lo → AllBetween lo hi xs → left_by a n xs lines ≡ lines
beyond a n lo hi xs lines l h = none_leave a n xs lines (ahead lo hi n l xs h)

-- ---- gaps by the numbers of leaves

pub first_at : (back : List Leaf) → leaf_gap back zero ≡ gap_of back
first_at [] = refl
first_at (l ∷ ls) = refl

pub lines_at : (ls back : List Leaf) → 0 < length ls → lines_before (ls ++ back) (length ls) ≡ after_first_line (lines_of (last_leaf_gap ls)) ++ lines_of (gap_of back)
lines_at [] back h = absurd (omega arith)
lines_at (l ∷ []) back h = ap (λ (g : Bytes). after_first_line (lines_of l.gap) ++ lines_of g) (first_at back)
lines_at (l ∷ m ∷ ls) back h = lines_at (m ∷ ls) back (omega arith)

pub gap_joined : (ls back : List Leaf) → 0 < length ls → gap_of (ls ++ back) ≡ gap_of ls
gap_joined [] back h = absurd (omega arith)
gap_joined (l ∷ ls) back h = refl

-- ---- what is read of leaves, and the lines before the leaf after them

pub last_joined : (ls ms : List Leaf) → 0 < length ms → last_leaf_gap (ls ++ ms) ≡ last_leaf_gap ms
last_joined ls [] h = absurd (omega arith)
last_joined ls (m ∷ ms) h = last_leaf_after ls m ms

-- what is read of leaves, by the lines after them: hosts, and the lines that are left
abbrev pub PieceRead : Type 0
PieceRead = Lines → List Hosted × Lines

abbrev pub with_left : List Hosted → Lines → List Hosted × Lines
with_left hs lines = (hs, lines)

module _ (page : Page) where
  -- the lines before the leaf after it
  pub lines_there : (n e : ℕ) (front ls back : List Leaf) → 0 < length ls → n + length ls ≡ e → page.leaves ≡ front ++ (ls ++ back) → length front ≡ n → lines_before page.leaves e ≡ after_first_line (lines_of (last_leaf_gap ls)) ++ lines_of (gap_of back)
  lines_there n e front ls back some up i d =
      let len = length-append front ls in
      let there : e ≡ length (front ++ ls) = omega arith in
      ap (λ (z : List Leaf). lines_before z e) (i ∙ sym (append_assoc front ls back))
      ∙ (ap (lines_before ((front ++ ls) ++ back)) there
      ∙ (lines_at (front ++ ls) back (omega arith) ∙ ap (λ (g : Bytes). after_first_line (lines_of g) ++ lines_of (gap_of back)) (last_joined front ls some)))
