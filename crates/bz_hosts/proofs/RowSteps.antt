-- Steps of the loops over the parts of a row.
use Rattle.bz_hosts.proofs.Words.{[], ◌&&◌, ◌++◌, ◌+◌, ◌<◌, ◌||◌, ◌∙◌, ◌∷◌, ◌≡◌, ◌≤◌, above_after, add-one, all_in, ap, append-nil, append_assoc, arith, begins_seen_operator, Bool, Bytes, drop, drop-drop, drop-map, drop_all, drop_more, Expr, false, first_seen_gap, get_or, has_newline, if◌then◌else◌, is_operator, item_gap, last_gap, length, List, loose_after, loose_in, map, no_comments, not, others_in, Part, plain, refl, row_exprs, Seen, seen, suc, sym, take, take-map, true, zero, ℕ}
use denote.Param.Weighed.{most}

pub gap_of_last : (ps : List Part) (k : ℕ) (y : Part) → suc k ≡ length ps → y ≡ get_or ps k y → (seen y).gap ≡ last_gap (map seen ps)
gap_of_last [] k y l i = absurd (omega arith)
gap_of_last (x ∷ []) zero y l i = ap (λ z. (seen z).gap) i
gap_of_last (x ∷ []) (suc k) y l i = absurd (omega arith)
gap_of_last (x ∷ z ∷ ps) zero y l i = absurd (omega arith)
gap_of_last (x ∷ z ∷ ps) (suc k) y l i = gap_of_last (z ∷ ps) k y (omega arith) i

-- ---- after an item

-- the gap that its suffix is in, and what is above the next item, where a part follows its mark
abbrev Followed : List Part → ℕ → Type 0
Followed ps at =
    (item_gap (map seen (drop at ps)) ≡ first_seen_gap (map seen (drop (suc at) ps)))
    × (above_after (map seen (drop at ps)) ≡ all_in (first_seen_gap (map seen (drop at ps))) ++ others_in (item_gap (map seen (drop at ps))))

followed : (ps : List Part) (at : ℕ) → suc at < length ps → Followed ps at
followed [] at l = absurd (omega arith)
followed (x ∷ []) zero l = absurd (omega arith)
followed (x ∷ y ∷ ps) zero l = (refl, refl)
followed (x ∷ ps) (suc at) l = followed ps at (omega arith)

-- and where none does
abbrev Last : List Part → ℕ → Type 0
Last ps at = (item_gap (map seen (drop at ps)) ≡ first_seen_gap (map seen (drop at ps))) × (above_after (map seen (drop at ps)) ≡ others_in (item_gap (map seen (drop at ps))))

last : (ps : List Part) (at : ℕ) → length ps ≤ suc at → Last ps at
last [] zero l = (refl, refl)
last [] (suc at) l = (refl, refl)
last (x ∷ []) zero l = (refl, refl)
last (x ∷ y ∷ ps) zero l = absurd (omega arith)
last (x ∷ ps) (suc at) l = last ps at (omega arith)

pub gap_later : (ps : List Part) (at : ℕ) (g : Bytes) → at + 1 < length ps → g ≡ first_seen_gap (map seen (drop (at + 1) ps)) → g ≡ item_gap (map seen (drop at ps))
gap_later ps at g l e = e ∙ (ap (λ k. first_seen_gap (map seen (drop k ps))) (add-one at) ∙ sym (followed ps at (omega arith)).0)

pub gap_last : (ps : List Part) (at : ℕ) (g : Bytes) → length ps ≤ at + 1 → g ≡ first_seen_gap (map seen (drop at ps)) → g ≡ item_gap (map seen (drop at ps))
gap_last ps at g l e = e ∙ sym (last ps at (omega arith)).0

pub above_later : (ps : List Part) (at : ℕ) (g h : Bytes) → at + 1 < length ps → g ≡ first_seen_gap (map seen (drop at ps)) → h ≡ first_seen_gap (map seen (drop (at + 1) ps)) → all_in g ++ others_in h ≡ above_after (map seen (drop at ps))
above_later ps at g h l e k = let more = (followed ps at (omega arith)).1 in rw (e, gap_later ps at h l k) (sym more)

pub above_last : (ps : List Part) (at : ℕ) (g : Bytes) → length ps ≤ at + 1 → g ≡ first_seen_gap (map seen (drop at ps)) → others_in g ≡ above_after (map seen (drop at ps))
above_last ps at g l e = ap others_in (gap_last ps at g l e) ∙ sym (last ps at (omega arith)).1

-- ---- what is loose in a part and before the next one

loose_next : (ss : List Seen) → loose_after ss ≡ all_in (first_seen_gap ss) ++ loose_in ss
loose_next [] = refl
loose_next (s ∷ ss) = append_assoc (all_in s.gap) s.loose (loose_after ss)

pub loose_more : (s : Seen) (ss here : List Seen) (old mid new all : List Bytes) → here ≡ s ∷ ss → mid ≡ old ++ s.loose → new ≡ mid ++ all_in (first_seen_gap ss) → old ++ loose_in here ≡ all → new ++ loose_in ss ≡ all
loose_more s ss here old mid new all h own gap j =
    ap (λ t. t ++ loose_in ss) gap
    ∙ (append_assoc mid (all_in (first_seen_gap ss)) (loose_in ss) ∙ (ap (λ t. mid ++ t) (sym (loose_next ss))
    ∙ (ap (λ t. t ++ loose_after ss) own ∙ (append_assoc old s.loose (loose_after ss) ∙ (ap (λ t. old ++ loose_in t) (sym h) ∙ j)))))

pub loose_done : (ps : List Part) (at : ℕ) (old all : List Bytes) → length ps ≤ at → old ++ loose_in (map seen (drop at ps)) ≡ all → old ≡ all
loose_done ps at old all l j = sym (append-nil old) ∙ (ap (λ qs. old ++ loose_in (map seen qs)) (sym (drop_all at ps l)) ∙ j)

-- ---- the parts of a row

pub seen_here : (ps : List Part) (at : ℕ) (y : Part) → at < length ps → y ≡ get_or ps at y → map seen (drop at ps) ≡ seen y ∷ map seen (drop (at + 1) ps)
seen_here ps at y l i = ap (λ qs. map seen qs) (drop_more ps at y l ∙ ap (λ z. z ∷ drop (at + 1) ps) (sym i))

pub two_further : (ps rest : List Part) (at : ℕ) → rest ≡ drop (at + 2) ps → map seen rest ≡ drop 1 (map seen (drop (at + 1) ps))
two_further ps rest at r =
    let two : at + 2 ≡ at + 1 + 1 = omega arith in
    ap (map seen) (r ∙ (ap (λ m. drop m ps) two ∙ sym (drop-drop 1 (at + 1) ps))) ∙ sym (drop-map seen 1 (drop (at + 1) ps))

-- the parts from an operator's token on, or from an operand on: `before`, whether a newline is before the operator, is not needed at an operand
quiet_before : (binary operator before : Bool) (s : Seen) (ss : List Seen) →
    s.make no_comments ((operator && not (begins_seen_operator ss)) && (before || has_newline (first_seen_gap ss))) ∷ row_exprs binary operator before ss
    ≡ s.make no_comments ((operator && not (begins_seen_operator ss)) && ((operator && before) || has_newline (first_seen_gap ss))) ∷ row_exprs binary operator (operator && before) ss
quiet_before binary true before s ss = refl
quiet_before binary false before s [] = refl
quiet_before binary false before s (t ∷ ss) = refl

-- one more part of a row
pub row_more : (binary inside newline operator newline' break : Bool) (s : Seen) (ss here : List Seen) (x : Expr) (es new all : List Expr) → here ≡ s ∷ ss → operator ≡ (binary && is_operator (plain s)) →
    newline' ≡ (operator && (if inside then newline else has_newline (first_seen_gap here))) → break ≡ ((operator && not (begins_seen_operator ss)) && (newline' || has_newline (first_seen_gap ss))) → x ≡ s.make no_comments break →
    es ++ row_exprs binary inside newline here ≡ all → new ≡ es ++ x ∷ [] → new ++ row_exprs binary operator newline' ss ≡ all
row_more binary inside newline operator newline' break s ss here x es new all h o n b e j k =
    let sign : Bool = binary && is_operator (plain s) in
    let before : Bool = if inside then newline else has_newline s.gap in
    let newline_is : newline' ≡ (sign && before) = n ∙ (ap (λ z. z && (if inside then newline else has_newline (first_seen_gap here))) o ∙ ap (λ ts. sign && (if inside then newline else has_newline (first_seen_gap ts))) h) in
    let break_is : break ≡ ((sign && not (begins_seen_operator ss)) && ((sign && before) || has_newline (first_seen_gap ss))) =
    b ∙ (ap (λ z. (z && not (begins_seen_operator ss)) && (newline' || has_newline (first_seen_gap ss))) o ∙ ap (λ z. (sign && not (begins_seen_operator ss)) && (z || has_newline (first_seen_gap ss))) newline_is) in
    let step : row_exprs binary inside newline here ≡ x ∷ row_exprs binary operator newline' ss =
    ap (λ ts. row_exprs binary inside newline ts) h
    ∙ (quiet_before binary sign before s ss
    ∙ (ap (λ z. z ∷ row_exprs binary sign (sign && before) ss) (sym (e ∙ ap (λ z. s.make no_comments z) break_is))
    ∙ (ap (λ z. x ∷ row_exprs binary sign z ss) (sym newline_is) ∙ ap (λ z. x ∷ row_exprs binary z newline' ss) (sym o)))) in
    ap (λ t. t ++ row_exprs binary operator newline' ss) k ∙ (append_assoc es (x ∷ []) (row_exprs binary operator newline' ss) ∙ (ap (λ t. es ++ t) (sym step) ∙ j))

-- after the last part of a row
pub row_done : (ps : List Part) (at : ℕ) (binary inside newline : Bool) (es items all : List Expr) → length ps ≤ at → items ≡ es → es ++ row_exprs binary inside newline (map seen (drop at ps)) ≡ all → items ≡ all
row_done ps at binary inside newline es items all l i j =
    i ∙ (sym (append-nil es) ∙ (ap (λ qs. es ++ row_exprs binary inside newline (map seen qs)) (sym (drop_all at ps l)) ∙ j))

-- ---- the parts before a bracket, a row without operators, and the bracket

row_plain : (inside newline : Bool) (ss : List Seen) → row_exprs false inside newline ss ≡ map plain ss
row_plain inside newline [] = refl
row_plain inside newline (s ∷ ss) = ap (λ es. plain s ∷ es) (row_plain false (if inside then newline else has_newline s.gap) ss)

pub head_row : (ps qs : List Part) (lead : ℕ) (es : List Expr) → qs ≡ take lead ps → es ≡ row_exprs false false false (map seen qs) → es ≡ map plain (take lead (map seen ps))
head_row ps qs lead es i e = e ∙ (row_plain false false (map seen qs) ∙ (ap (λ rs. map plain (map seen rs)) i ∙ ap (map plain) (sym (take-map seen lead ps))))

-- the comments of a gap inside a row: what is before its first part is outside
abbrev pub gap_inside : ℕ → Bytes → List Bytes
gap_inside zero gap = []
gap_inside (suc at) gap = all_in gap

pub gap_at_first : (at : ℕ) (g : Bytes) (old : List Bytes) → at ≤ 0 → old ≡ old ++ gap_inside at g
gap_at_first zero g old l = sym (append-nil old)
gap_at_first (suc at) g old l = absurd (omega arith)

pub gap_at_later : (at : ℕ) (g : Bytes) (old new : List Bytes) → 0 < at → new ≡ old ++ all_in g → new ≡ old ++ gap_inside at g
gap_at_later zero g old new l e = absurd (omega arith)
gap_at_later (suc at) g old new l e = e

-- the walk over the parts before the bracket goes no deeper
pub most_taken : {X : Type 0} (size : X → ℕ) (n : ℕ) (xs : List X) → most size (take n xs) ≤ most size xs
most_taken size zero xs = omega arith
most_taken size (suc n) [] = omega arith
most_taken size (suc n) (x ∷ xs) = let rest = most_taken size n xs in omega (arith, rest)

after_cut : (n : ℕ) (ss : List Seen) (s : Seen) (rest : List Seen) → drop n ss ≡ s ∷ rest → loose_after (take (suc n) ss) ≡ loose_after (take n ss) ++ (all_in s.gap ++ s.loose)
after_cut zero [] s rest h = cc
after_cut (suc n) [] s rest h = cc
after_cut zero (t ∷ ss) s rest h = let same : t ≡ s = cc in append-nil (all_in t.gap ++ t.loose) ∙ ap (λ u. all_in u.gap ++ u.loose) same
after_cut (suc n) (t ∷ ss) s rest h = ap (λ ls. (all_in t.gap ++ t.loose) ++ ls) (after_cut n ss s rest h) ∙ sym (append_assoc (all_in t.gap ++ t.loose) (loose_after (take n ss)) (all_in s.gap ++ s.loose))

head_cut : (lead : ℕ) (ss : List Seen) (s : Seen) (rest : List Seen) → drop lead ss ≡ s ∷ rest → loose_in (take (suc lead) ss) ≡ loose_in (take lead ss) ++ (gap_inside lead s.gap ++ s.loose)
head_cut zero [] s rest h = cc
head_cut (suc n) [] s rest h = cc
head_cut zero (t ∷ ss) s rest h = let same : t ≡ s = cc in append-nil t.loose ∙ ap (λ u. u.loose) same
head_cut (suc n) (t ∷ ss) s rest h = ap (λ ls. t.loose ++ ls) (after_cut n ss s rest h) ∙ sym (append_assoc t.loose (loose_after (take n ss)) (all_in s.gap ++ s.loose))

pub bracket_loose : (ps qs : List Part) (lead : ℕ) (y : Part) (old row gap new : List Bytes) → lead < length ps → y ≡ get_or ps lead y → qs ≡ take lead ps → row ≡ old ++ loose_in (map seen qs) →
    gap ≡ row ++ gap_inside lead (first_seen_gap (map seen (drop lead ps))) → new ≡ gap ++ (seen y).loose → new ≡ old ++ loose_in (take (suc lead) (map seen ps))
bracket_loose ps qs lead y old row gap new l i q r g n =
    let here : map seen (drop lead ps) ≡ seen y ∷ map seen (drop (lead + 1) ps) = seen_here ps lead y l i in
    let own : List Bytes = gap_inside lead (seen y).gap in
    let front : List Bytes = loose_in (take lead (map seen ps)) in
    let cut = head_cut lead (map seen ps) (seen y) (map seen (drop (lead + 1) ps)) (drop-map seen lead ps ∙ here) in
    n ∙ (ap (λ t. t ++ (seen y).loose) (g ∙ (ap (λ ss. row ++ gap_inside lead (first_seen_gap ss)) here ∙ ap (λ t. t ++ own) (r ∙ (ap (λ rs. old ++ loose_in (map seen rs)) q ∙ ap (λ ss. old ++ loose_in ss) (sym (take-map seen lead ps))))))
    ∙ (append_assoc (old ++ front) own (seen y).loose ∙ (append_assoc old front (own ++ (seen y).loose) ∙ ap (λ t. old ++ t) (sym cut))))
