-- Windows of items: how many lines give way to them, and how deep the layout is.
use Rattle.bz_layout.proofs.Words.{[], ◌++◌, ◌+◌, ◌-◌, ◌<◌, ◌↔◌, ◌∙◌, ◌∷◌, ◌≡◌, ◌≤◌, ℕ, ap, AreCounted, AreLinesOver, AreOver, AreWithin, arith, Bool, come_end, come_items, depth_items, depth_limit, depth_of, drop, drop-drop, drop-take, drop_more, eqb, eqb-true, false, get_or, HaveLines, IfSome, IsTrue, Item, laid_out, length, length-drop, length-take-le, line_count_in, Lines, List, max, None, old_count, old_lines, Option, refl, Some, subst, suc, sym, take, true, true≢false, Window, zero}
use Rattle.std.specs.Option.{option_eq}
use Rattle.bz_value.specs.declared.value.Item.TheVariants as i
use Rattle.bz_layout.proofs.{Windows.cut_window, Deep.laid_out_depth, Measured.depth_first}

count_append : (xs ys : List Item) → line_count_in (xs ++ ys) ≡ line_count_in xs + line_count_in ys
count_append [] ys = omega arith
count_append (i.Block texts ∷ xs) ys = count_append xs ys
count_append (i.Stmt x ∷ xs) ys = let rest : line_count_in (xs ++ ys) ≡ line_count_in xs + line_count_in ys = count_append xs ys in omega (arith, rest)

pub count_most : (n : ℕ) (xs : List Item) → line_count_in (take n xs) ≤ n
count_most zero xs = omega arith
count_most (suc n) [] = omega arith
count_most (suc n) (i.Block texts ∷ xs) = let rest : line_count_in (take n xs) ≤ n = count_most n xs in omega (arith, rest)
count_most (suc n) (i.Stmt x ∷ xs) = let rest : line_count_in (take n xs) ≤ n = count_most n xs in omega (arith, rest)

-- the first window that is left, and the others
pub within_next : (ws : List Window) (k : ℕ) (d : Window) (xs : List Item) → k < length ws → AreWithin (drop k ws) xs →
    ((get_or ws k d).from + (get_or ws k d).come ≤ length xs) × AreWithin (drop (k + 1) ws) (drop ((get_or ws k d).from + (get_or ws k d).come) xs)
within_next ws k d xs h w = subst (λ vs. AreWithin vs xs) (drop_more ws k d h) w

-- a window: what stays before it, what it has, and what follows
count_window : (from n : ℕ) (xs : List Item) → line_count_in xs ≡ line_count_in (take from xs) + (line_count_in (take n (drop from xs)) + line_count_in (drop (from + n) xs))
count_window from n xs = cut_window line_count_in (λ a b. a + b) count_append from n xs

-- there were no more lines than that
lines_most : (ws : List Window) (xs ys : List Item) → AreOver ws xs ys → line_count_in xs ≤ old_lines ws ys
lines_most [] xs ys h = let same : line_count_in xs ≡ line_count_in ys = ap line_count_in h in omega (arith, same)
lines_most (w ∷ ws) xs ys h =
    let front : line_count_in (take w.from ys) ≡ line_count_in (take w.from xs) = ap line_count_in h.2 in
    omega (arith, front, count_window w.from w.gone xs, count_most w.gone (drop w.from xs), lines_most ws (drop (w.from + w.gone) xs) (drop (w.from + w.come) ys) h.3)

-- where there were as many, each window counts lines
pub all_lines : (ws : List Window) (xs ys : List Item) → line_count_in xs ≡ old_lines ws ys → AreOver ws xs ys → AreLinesOver ws xs ys
all_lines [] xs ys e h = h
all_lines (w ∷ ws) xs ys e h =
    let front : line_count_in (take w.from ys) ≡ line_count_in (take w.from xs) = ap line_count_in h.2 in
    let all = count_window w.from w.gone xs in
    let most = count_most w.gone (drop w.from xs) in
    let rest = lines_most ws (drop (w.from + w.gone) xs) (drop (w.from + w.come) ys) h.3 in
    (w.gone, h.0, h.1, h.2, omega (arith, front, all, most, rest, e), all_lines ws (drop (w.from + w.gone) xs) (drop (w.from + w.come) ys) (omega (arith, front, all, most, rest, e)) h.3)

-- where each item that was there has a line, so do those of a part of them, and each window counts lines
line_most : (xs : List Item) → line_count_in xs ≤ length xs
line_most [] = omega arith
line_most (i.Block texts ∷ xs) = let rest : line_count_in xs ≤ length xs = line_most xs in omega (arith, rest)
line_most (i.Stmt x ∷ xs) = let rest : line_count_in xs ≤ length xs = line_most xs in omega (arith, rest)

pub each_cut : (n : ℕ) (xs : List Item) → line_count_in xs ≡ length xs → (line_count_in (take n xs) ≡ length (take n xs)) × (line_count_in (drop n xs) ≡ length (drop n xs))
each_cut zero xs e = (refl, e)
each_cut (suc n) [] e = (refl, refl)
each_cut (suc n) (i.Block texts ∷ xs) e = absurd (omega (arith, e, line_most xs))
each_cut (suc n) (i.Stmt x ∷ xs) e = let rest = each_cut n xs (omega (arith, e)) in (ap suc rest.0, rest.1)

pub each_between : (said : Bool) (count at : ℕ) (before items : List Item) → at < count → take count before ≡ take count items → HaveLines said before → HaveLines said (take (count - at) (drop at items))
each_between said count at before items h same each = λ is.
    let both : at + (count - at) ≡ count = omega (arith, h) in
    subst (λ ys. line_count_in ys ≡ length ys) (ap (drop at) same ∙ (ap (λ n. drop at (take n items)) (sym both) ∙ drop-take at (count - at) items)) (each_cut at (take count before) (each_cut count before (each is)).0).1

each_over : (ws : List Window) (xs ys : List Item) → line_count_in xs ≡ length xs → AreOver ws xs ys → AreLinesOver ws xs ys
each_over [] xs ys e h = h
each_over (w ∷ ws) xs ys e h =
    let here : length (take w.gone (drop w.from xs)) ≡ w.gone = length-take-le w.gone (drop w.from xs) (omega (arith, h.0, length-drop w.from xs)) in
    (w.gone, h.0, h.1, h.2, (each_cut w.gone (drop w.from xs) (each_cut w.from xs e).1).0 ∙ here, each_over ws (drop (w.from + w.gone) xs) (drop (w.from + w.come) ys) (each_cut (w.from + w.gone) xs e).1 h.3)

-- how many items there were
old_size : (ws : List Window) (xs ys : List Item) (k : ℕ) → AreOver ws xs ys → old_count ws (k + length ys) ≡ k + length xs
old_size [] xs ys k h = ap (λ zs. k + length zs) (sym h)
old_size (w ∷ ws) xs ys k h =
    let past : List Item = drop (w.from + w.come) ys in
    let next : k + length ys - w.come + w.gone ≡ (k + (w.from + w.gone)) + length past = omega (arith, h.1, length-drop (w.from + w.come) ys) in
    ap (old_count ws) next ∙ (old_size ws (drop (w.from + w.gone) xs) past (k + (w.from + w.gone)) h.3 ∙ omega (arith, h.0, length-drop (w.from + w.gone) xs))

-- as many lines as items
pub all_counted : (ws : List Window) (xs ys : List Item) (lines : ℕ) → line_count_in xs ≡ lines → lines ≡ old_count ws (length ys) → AreOver ws xs ys → AreCounted true ws xs ys
all_counted ws xs ys lines many is h =
    let all : length ys ≡ 0 + length ys = omega arith in
    let size : 0 + length xs ≡ length xs = omega arith in
    let each : line_count_in xs ≡ length xs = many ∙ (is ∙ (ap (old_count ws) all ∙ (old_size ws xs ys 0 h ∙ size))) in
    (each_over ws xs ys each h, λ _. each)

-- where that isn't said, nothing is
pub not_said : (before : List Item) → HaveLines false before
not_said before = λ said. absurd (true≢false (sym said))

-- a count that is this one
pub same_count : (found : Option ℕ) (n m : ℕ) → option_eq eqb found (Some n) ≡ true → IfSome found (λ k. k ≡ m) → n ≡ m
same_count None n m e h = absurd cc
same_count (Some k) n m e h = sym (eqb-true k n e) ∙ h

-- ---- all windows as one

abbrev gone_end : List Window → ℕ
gone_end [] = 0
gone_end (w ∷ ws) = (w.from + w.gone) + gone_end ws

-- past the last of them all is the same
past_all : (ws : List Window) (xs ys : List Item) → AreOver ws xs ys → (gone_end ws ≤ length xs) × (come_end ws ≤ length ys) × (drop (gone_end ws) xs ≡ drop (come_end ws) ys)
past_all [] xs ys h = (omega arith, omega arith, h)
past_all (w ∷ ws) xs ys h =
    let rest = past_all ws (drop (w.from + w.gone) xs) (drop (w.from + w.come) ys) h.3 in
    let old : length (drop (w.from + w.gone) xs) ≡ length xs - (w.from + w.gone) = length-drop (w.from + w.gone) xs in
    let new : length (drop (w.from + w.come) ys) ≡ length ys - (w.from + w.come) = length-drop (w.from + w.come) ys in (
      omega (arith, old, rest.0, h.0),
      omega (arith, new, rest.1, h.1),
      sym (drop-drop (gone_end ws) (w.from + w.gone) xs) ∙ (rest.2 ∙ drop-drop (come_end ws) (w.from + w.come) ys),
    )

gone_past : (from n so : ℕ) (xs : List Item) → n ≡ so - from → from ≤ so → line_count_in (take n (drop from xs)) + (line_count_in (take from xs) + line_count_in (drop so xs)) ≡ line_count_in xs
gone_past from n so xs e h =
    let all : line_count_in xs ≡ line_count_in (take from xs) + (line_count_in (take n (drop from xs)) + line_count_in (drop (from + n) xs)) = count_window from n xs in
    let end : from + n ≡ so = omega (arith, e, h) in
    let past : line_count_in (drop (from + n) xs) ≡ line_count_in (drop so xs) = ap (λ k. line_count_in (drop k xs)) end in
    omega (arith, all, past)

-- where the first of them begins
abbrev pub first_from : List Window → ℕ
first_from ws = (get_or ws 0 (record { from = 0; gone = 0; come = 0 })).from

before_first : (ws : List Window) (xs ys : List Item) → AreOver ws xs ys → (first_from ws ≤ gone_end ws) × (first_from ws ≤ come_end ws) × (take (first_from ws) ys ≡ take (first_from ws) xs)
before_first [] xs ys h = (omega arith, omega arith, refl)
before_first (w ∷ ws) xs ys h = (omega arith, omega arith, h.2)

-- one window from the first to the last of them
pub one_over : (ws : List Window) (xs ys : List Item) (from end lines gone come : ℕ) → from ≡ first_from ws → end ≡ come_end ws → line_count_in xs ≡ lines →
    gone ≡ lines - line_count_in (take from ys) - line_count_in (drop end ys) → come ≡ end - from → AreOver ws xs ys → AreLinesOver (record { from = from; gone = gone; come = come } ∷ []) xs ys
one_over ws xs ys from end lines gone come f e l g c h =
    let past = past_all ws xs ys h in
    let front = before_first ws xs ys h in
    let so : ℕ = gone_end ws in
    let most : from ≤ so = omega (arith, f, front.0) in
    let least : from ≤ end = omega (arith, f, e, front.1) in
    let took : line_count_in (take (so - from) (drop from xs)) + (line_count_in (take from xs) + line_count_in (drop so xs)) ≡ line_count_in xs = gone_past from (so - from) so xs refl most in
    let same : line_count_in (take from ys) ≡ line_count_in (take from xs) = rw f (ap line_count_in front.2) in
    let after : line_count_in (drop so xs) ≡ line_count_in (drop end ys) = ap line_count_in past.2 ∙ ap (λ n. line_count_in (drop n ys)) (sym e) in
    let all_gone : from + (so - from) ≡ so = omega (arith, most) in
    let all_come : from + come ≡ end = omega (arith, least, c) in (
      so - from,
      omega (arith, all_gone, past.0),
      omega (arith, all_come, past.1, e),
      rw f front.2,
      omega (arith, took, same, after, l, g),
      ap (λ n. drop n xs) all_gone ∙ (past.2 ∙ ap (λ n. drop n ys) (sym (all_come ∙ e))),
    )

-- ---- how deep the layout is of items of which some came in the place of others

pub depth_append : (xs ys : List Item) → depth_items (xs ++ ys) ≡ max (depth_items xs) (depth_items ys)
depth_append [] ys = omega arith
depth_append (x ∷ xs) ys =
    let all : depth_items (x ∷ (xs ++ ys)) ≡ max (depth_items (x ∷ [])) (depth_items (xs ++ ys)) = depth_first x (xs ++ ys) in
    let front : depth_items (x ∷ xs) ≡ max (depth_items (x ∷ [])) (depth_items xs) = depth_first x xs in
    let rest : depth_items (xs ++ ys) ≡ max (depth_items xs) (depth_items ys) = depth_append xs ys in
    omega (arith, all, front, rest)

-- a window: what stays before it, what it has, and what follows
depth_window : (from n : ℕ) (xs : List Item) → depth_items xs ≡ max (depth_items (take from xs)) (max (depth_items (take n (drop from xs))) (depth_items (drop (from + n) xs)))
depth_window from n xs = cut_window depth_items max depth_append from n xs

-- a turn of the loop that looks at them
pub depth_turn : (ws : List Window) (k : ℕ) (d : Window) (xs come past : List Item) → k < length ws → AreWithin (drop k ws) xs →
    come ≡ take (get_or ws k d).come (drop (get_or ws k d).from xs) → past ≡ drop ((get_or ws k d).from + (get_or ws k d).come) xs →
    AreWithin (drop (k + 1) ws) past × (depth_items (come_items (drop k ws) xs) ≡ max (depth_items come) (depth_items (come_items (drop (k + 1) ws) past)))
depth_turn ws k d xs come past h w is_come is_past =
    rw (is_come, is_past) (
      (within_next ws k d xs h w).1,
      ap (λ vs. depth_items (come_items vs xs)) (drop_more ws k d h) ∙
          depth_append (take (get_or ws k d).come (drop (get_or ws k d).from xs)) (come_items (drop (k + 1) ws) (drop ((get_or ws k d).from + (get_or ws k d).come) xs)),
    )

-- what came is among all
come_below : (ws : List Window) (xs : List Item) → depth_items (come_items ws xs) ≤ depth_items xs
come_below [] xs = omega arith
come_below (w ∷ ws) xs =
    let here : List Item = take w.come (drop w.from xs) in
    let past : List Item = drop (w.from + w.come) xs in
    let all : depth_items xs ≡ max (depth_items (take w.from xs)) (max (depth_items here) (depth_items past)) = depth_window w.from w.come xs in
    let own : depth_items (here ++ come_items ws past) ≡ max (depth_items here) (depth_items (come_items ws past)) = depth_append here (come_items ws past) in
    let rest : depth_items (come_items ws past) ≤ depth_items past = come_below ws past in
    omega (arith, all, own, rest)

-- all else was there before
over_depth : (ws : List Window) (xs ys : List Item) → AreOver ws xs ys → depth_items ys ≤ max (depth_items xs) (depth_items (come_items ws ys))
over_depth [] xs ys h = let same : depth_items xs ≡ depth_items ys = ap depth_items h in omega (arith, same)
over_depth (w ∷ ws) xs ys h =
    let here : List Item = take w.come (drop w.from ys) in
    let past : List Item = drop (w.from + w.come) ys in
    let old : List Item = drop (w.from + w.gone) xs in
    let all : depth_items ys ≡ max (depth_items (take w.from ys)) (max (depth_items here) (depth_items past)) = depth_window w.from w.come ys in
    let before : depth_items xs ≡ max (depth_items (take w.from xs)) (max (depth_items (take w.gone (drop w.from xs))) (depth_items old)) = depth_window w.from w.gone xs in
    let same : depth_items (take w.from ys) ≡ depth_items (take w.from xs) = ap depth_items h.2 in
    let own : depth_items (here ++ come_items ws past) ≡ max (depth_items here) (depth_items (come_items ws past)) = depth_append here (come_items ws past) in
    let rest : depth_items past ≤ max (depth_items old) (depth_items (come_items ws past)) = over_depth ws old past h.3 in
    omega (arith, all, before, same, own, rest)

pub shallow_over : (ws : List Window) (before items : List Item) → depth_items (come_items ws items) ≤ depth_limit - 1 → AreOver ws before items →
    depth_of (laid_out before) ≤ depth_limit → depth_of (laid_out items) ≤ depth_limit
shallow_over ws before items within h shallow =
    let old : depth_of (laid_out before) ≡ suc (depth_items before) = laid_out_depth Lines.Counted before in
    let new : depth_of (laid_out items) ≡ suc (depth_items items) = laid_out_depth Lines.Counted items in
    let most : depth_items items ≤ max (depth_items before) (depth_items (come_items ws items)) = over_depth ws before items h in
    omega (arith, old, new, most, within, shallow)

pub deep_over : (ws : List Window) (items : List Item) → (depth_items (come_items ws items) ≤ depth_limit - 1 → false ≡ true) → depth_limit < depth_of (laid_out items)
deep_over ws items deep =
    let deeper : depth_items (come_items ws items) ≤ depth_limit - 1 → ⊥ = λ shallow. let no_ : false ≡ true = deep shallow in cc in
    let new : depth_of (laid_out items) ≡ suc (depth_items items) = laid_out_depth Lines.Counted items in
    let less : depth_items (come_items ws items) ≤ depth_items items = come_below ws items in
    omega (arith, new, less, deeper)

-- what one test of the loop says of all that is left
pub deeper_first : (left here rest all depth : ℕ) {answer : Bool} → left ≡ max here rest → (IsTrue answer ↔ (here ≤ depth)) → answer ≡ false → ((left ≤ depth) ↔ (all ≤ depth)) → IsTrue false ↔ (all ≤ depth)
deeper_first left here rest all depth e i no_ h =
    let not_here : here ≤ depth → IsTrue false = λ le. subst IsTrue no_ (i.1 le) in
    (λ f. absurd (true≢false (sym f)), λ le. let less : left ≤ depth = h.1 le in not_here (omega (arith, e, less)))

pub both_less : (left here rest all depth : ℕ) {answer : Bool} → left ≡ max here rest → (IsTrue answer ↔ (here ≤ depth)) → answer ≡ true → ((left ≤ depth) ↔ (all ≤ depth)) → (rest ≤ depth) ↔ (all ≤ depth)
both_less left here rest all depth e i yes_ h =
    let le : here ≤ depth = i.0 (subst IsTrue (sym yes_) refl) in
    (λ r. h.0 (omega (arith, e, le, r)), λ a. let less : left ≤ depth = h.1 a in omega (arith, e, less))
