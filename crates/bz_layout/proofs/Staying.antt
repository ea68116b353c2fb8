-- What each item does to the windows that are made: those that and those that stay.
use Rattle.bz_layout.proofs.Words.{[], ◌++◌, ◌+◌, ◌-◌, ◌<◌, ◌∙◌, ◌∷◌, ◌≡◌, ◌≤◌, ℕ, AllByRecursion, ap, append-nil, AreCounted, AreLinesOver, AreReached, arith, before_next, Begins, Bool, Bytes, Class as c, comment_lines, comments_of, Drafted, drafted, drop, drop-drop, drop-take, drop_all, drop_at, drop_more, Expr, false, flat_map, get_or, get_or-take, has_suite, HasGap, HasNext, IsAt, IsBuildItem, IsProperBuild, IsProperBuildItem, IsProperItem, Item, Item as i, Kind as k, Leaf, leaves_Node, leaves_part, left_gap, length, length-append, length-drop, limit, line_count_in, line_feed, line_part, Lines, lines_from, List, Node, own_text, Part, part_of, Passes, pushed, Reached, recursion_from_All, refl, slice_get, statement_gap, subst, suc, suffix_text, sym, take, true, Window, Writer, zero}
use Rattle.bz_grammar.specs.declared.tree.Part.TheVariants as p
use Rattle.bz_layout.specs.declared.writer.OpenWindow.{OpenWindow}
use Rattle.bz_layout.proofs.{LineWindows.each_cut, LegalParts.Begin, LegalParts.begin_with, LegalParts.laid_out_good, BuildLaid.build_line, BuildLaid.build_plain, Made.plain_first, Pushing.pushed_none, Reaching.put_line, Reaching.take_lines, Reaching.skip_lines, Reaching.opened, Reaching.reach_as, Readable.readable, Spelled.spell_line, Windows.front_lines, Windows.lines_cut, Windows.front_same, Windows.length_front, Writing.rest_here}

-- what is left of both begins with the same item
same_first : (n k : ℕ) (xs ys : List Item) (y : Item) → k < n → n ≤ length xs → take n xs ≡ take n ys → y ≡ get_or ys k y → drop k xs ≡ y ∷ drop (k + 1) xs
same_first n k xs ys y h l e is =
    drop_more xs k y (omega (arith, h, l)) ∙
    ap (λ x. x ∷ drop (k + 1) xs) (sym (get_or-take n xs k y h) ∙ (ap (λ zs. get_or zs k y) e ∙ (get_or-take n ys k y h ∙ sym is)))

proper_drop : (n : ℕ) (xs : List Item) → AllByRecursion IsProperBuildItem xs → AllByRecursion IsProperBuildItem (drop n xs)
proper_drop zero xs h = h
proper_drop (suc n) [] h = h
proper_drop (suc n) (x ∷ xs) h = proper_drop n xs h.1

-- ---- items that came

module _ {parts all : List Part} where
  -- what is open after an item is put
  line_put : (w : Writer) (left : List Part) (y : Item) (ys : List Item) → IsProperBuildItem y → IsAt parts all w left (lines_from w.window.gap.items (y ∷ ys)) →
      Reached parts all w.made (pushed w.window.text (own_text w.window.gap.items y)) true w.bytes w.done w.base w.part left (lines_from (left_gap w.window.gap.items y ++ before_next y ys) ys)
  line_put w left (i.Block texts) ys h r = reach_as (pushed_none w.window.text) refl refl (opened r)
  line_put w left (i.Stmt x) ys h r =
      let gap : Bytes = w.window.gap.items in
      let plain : has_suite x ≡ false = build_plain x h.1 in
      reach_as (ap (pushed w.window.text) (sym (spell_line Lines.Counted gap x plain (readable Begins x h.0.1)))) refl refl
      (put_line (line_part Lines.Counted gap x) (reach_as refl refl (sym (plain_first Lines.Counted gap x ys plain)) r))

  -- a turn of the loop over them
  pub came_turn : (w : Writer) (v : OpenWindow) (xs items : List Item) (at : ℕ) (y : Item) → at < length items → y ≡ get_or items at y → v.text ≡ pushed w.window.text (own_text w.window.gap.items y) →
      v.gap.items ≡ left_gap w.window.gap.items y ++ before_next y (take (length items - (at + 1)) (drop (at + 1) items)) → v.is_open ≡ true →
      AreReached parts all w xs (drop at items) → AreReached parts all (record w { window = v }) xs (drop (at + 1) items)
  came_turn w v xs items at y h is text gap shown r =
      let first : drop at items ≡ y ∷ drop (at + 1) items = drop_more items at y h ∙ ap (λ x. x ∷ drop (at + 1) items) (sym is) in
      let here : AreReached parts all w xs (y ∷ drop (at + 1) items) = subst (AreReached parts all w xs) first r in
      record {
        above = here.above;
        proper_before = here.proper_before;
        proper = here.proper.1;
        lines =
            reach_as text shown (ap (λ g. lines_from g (drop (at + 1) items)) (gap ∙ ap (λ zs. left_gap w.window.gap.items y ++ before_next y zs) (rest_here items (at + 1))))
            (line_put w (lines_from here.above xs) y (drop (at + 1) items) here.proper.0 here.lines);
      }

  -- ---- items that were taken out

  pub took : (w : Writer) (xs ys : List Item) (gone lines part : ℕ) → gone ≤ length xs → line_count_in (take gone xs) ≡ lines → (w.part + lines ≤ length parts → part ≡ w.part + lines) → AreReached parts all w xs ys →
      AreReached parts all (record w { window = record (w.window) { is_open = true }; part = part }) (drop gone xs) ys
  took w xs ys gone lines part h count past r =
      let above : Bytes = statement_gap r.above gone xs in
      let front : List Part = front_lines r.above gone xs in
      let rest : List Part = lines_from above (drop gone xs) in
      let cut : lines_from r.above xs ≡ front ++ rest = lines_cut r.above gone xs r.proper_before h in
      let many : length front ≡ lines = length_front r.above gone xs ∙ count in
      let room : length (lines_from r.above xs) ≡ length front + length rest = ap length cut ∙ length-append front rest in
      let left : length parts - w.part ≡ length (lines_from r.above xs) = sym (length-drop w.part parts) ∙ ap length r.lines.left_is in
      let on : part ≡ w.part + lines = past (omega (arith, many, room, left, r.lines.within)) in
      let after : drop lines (lines_from r.above xs) ≡ rest = ap (λ ps. drop lines ps) cut ∙ drop_at front rest lines many in
      record {
        above = above;
        proper_before = proper_drop gone xs r.proper_before;
        proper = r.proper;
        lines =
            subst (λ ps. Reached parts all w.made w.window.text true w.bytes w.done w.base part ps (lines_from w.window.gap.items ys)) after
            (take_lines part lines on (omega (arith, many, room)) r.lines);
      }

  -- ---- items that stay

  -- a turn of the loop over them: the line of an item gives way, and is put again
  pub stay_turn : (w : Writer) (v : OpenWindow) (xs items : List Item) (count at lines part : ℕ) (y : Item) → at < count → count ≤ length items → y ≡ get_or items at y → v.text ≡ pushed w.window.text (own_text w.window.gap.items y) →
      v.gap.items ≡ left_gap w.window.gap.items y ++ before_next y (take (length items - (at + 1)) (drop (at + 1) items)) → v.is_open ≡ true →
      lines ≡ line_count_in (take (at + 1 - at) (drop at items)) → (w.part + lines ≤ length parts → part ≡ w.part + lines) → count ≤ length xs → take count xs ≡ take count items →
      AreReached parts all w (drop at xs) (drop at items) → AreReached parts all (record w { window = v; part = part }) (drop (at + 1) xs) (drop (at + 1) items)
  stay_turn w v xs items count at lines part y h l is text gap shown own past many same r =
      let new : drop at items ≡ y ∷ drop (at + 1) items = same_first count at items items y h l refl is in
      let one : at + 1 - at ≡ 1 = omega arith in
      let here : lines ≡ line_count_in (y ∷ []) = own ∙ (ap (λ n. line_count_in (take n (drop at items))) one ∙ ap (λ ys. line_count_in (take 1 ys)) new) in
      let old : drop at xs ≡ y ∷ drop (at + 1) xs = same_first count at xs items y h many same is in
      came_turn (record w { window = record (w.window) { is_open = true }; part = part }) v (drop (at + 1) xs) items at y (omega (arith, h, l)) is text gap shown
      (took w (y ∷ drop (at + 1) xs) (drop at items) 1 lines part (omega arith) (sym here) past (subst (λ zs. AreReached parts all w zs (drop at items)) old r))

-- ---- a line that stays, and those after it

has_gap_at : (ls : List Leaf) (a g : Bytes) → Begin a ls → HasGap (slice_get ls 0) g → g ≡ a
has_gap_at ls a g b h = let on : b.0.gap ≡ g = subst (λ (ms : List Leaf). HasGap (slice_get ms 0) g) b.2 h in sym on ∙ b.3

line_begins : (gap : Bytes) (x : Expr) (rest : List Part) → IsProperBuildItem (i.Stmt x) → Begin (gap ++ comment_lines (comments_of x).before) (flat_map leaves_part (line_part Lines.Counted gap x ∷ rest))
line_begins gap x rest h =
    let above : Bytes = gap ++ comment_lines (comments_of x).before in
    let node : Node = record {
      kind = k.Line;
      parts = part_of Lines.Counted x above 0 ∷ p.Leaf (record { class = c.Newline; gap = suffix_text (comments_of x).suffix; token = line_feed ∷ [] }) ∷ [];
    } in
    begin_with above (line_part Lines.Counted gap x ∷ rest) (subst (Begin above) (sym (leaves_Node node)) (begin_with above node.parts ((laid_out_good Lines.Counted Begins x (build_line x h.0.0 h.1 h.0.1)).stands.starts above 0)))

-- a statement with the gap that its line has in the tree has this line
same_line : (gap above : Bytes) (x : Expr) (xs : List Item) → IsProperBuildItem (i.Stmt x) → HasNext gap (i.Stmt x ∷ []) (lines_from above (i.Stmt x ∷ xs)) → line_part Lines.Counted gap x ≡ line_part Lines.Counted above x
same_line gap above x xs h has =
    let same : gap ++ comment_lines (comments_of x).before ≡ above ++ comment_lines (comments_of x).before =
    has_gap_at _ _ _ (line_begins above x (lines_from (before_next (i.Stmt x) xs) xs) h) (subst (HasNext gap (i.Stmt x ∷ [])) (plain_first Lines.Counted above x xs (build_plain x h.1)) has) in
    ap (λ t. p.Node (record {
      kind = k.Line;
      parts = part_of Lines.Counted x t 0 ∷ p.Leaf (record { class = c.Newline; gap = suffix_text (comments_of x).suffix; token = line_feed ∷ [] }) ∷ [];
    })) same

module _ {parts all : List Part} where
  lines_skipped : (w : Writer) (v : OpenWindow) (xs ys : List Item) (x : Expr) (n part : ℕ) → w.window.is_open ≡ false → v.text ≡ w.window.text → v.is_open ≡ w.window.is_open →
      n < length (i.Stmt x ∷ xs) → n < length (i.Stmt x ∷ ys) → take (suc n) (i.Stmt x ∷ xs) ≡ take (suc n) (i.Stmt x ∷ ys) →
      HasNext w.window.gap.items (i.Stmt x ∷ []) (drop w.part parts) → v.gap.items ≡ statement_gap w.window.gap.items (suc n) (i.Stmt x ∷ ys) →
      (w.part + line_count_in (take (suc n) (i.Stmt x ∷ ys)) ≤ length parts → part ≡ w.part + line_count_in (take (suc n) (i.Stmt x ∷ ys))) → AreReached parts all w (i.Stmt x ∷ xs) (i.Stmt x ∷ ys) →
      AreReached parts all (record w { window = v; base = part; part = part }) (drop n xs) (drop n ys)
  lines_skipped w v xs ys x n part shut text still g h same has gap past r =
      let here : Bytes = w.window.gap.items in
      let old : Bytes = statement_gap r.above (suc n) (i.Stmt x ∷ xs) in
      let kept : List Part = front_lines here (suc n) (i.Stmt x ∷ ys) in
      let line : line_part Lines.Counted here x ≡ line_part Lines.Counted r.above x = same_line here r.above x xs r.proper.0 (subst (λ (ps : List Part). HasNext here (i.Stmt x ∷ []) ps) r.lines.left_is has) in
      let first : front_lines r.above (suc n) (i.Stmt x ∷ xs) ≡ kept =
      front_same r.above (suc n) (i.Stmt x ∷ xs) (i.Stmt x ∷ ys) (omega (arith, g)) (omega (arith, h)) same ∙ ap (λ z. z ∷ front_lines (before_next (i.Stmt x) ys) n ys) (sym line) in
      let left : lines_from r.above (i.Stmt x ∷ xs) ≡ kept ++ lines_from old (drop n xs) = lines_cut r.above (suc n) (i.Stmt x ∷ xs) r.proper_before (omega (arith, g)) ∙ ap (λ ps. ps ++ lines_from old (drop n xs)) first in
      let rest : lines_from here (i.Stmt x ∷ ys) ≡ kept ++ lines_from v.gap.items (drop n ys) =
      lines_cut here (suc n) (i.Stmt x ∷ ys) r.proper (omega (arith, h)) ∙ ap (λ t. kept ++ lines_from t (drop n ys)) (sym gap) in
      let many : length kept ≡ line_count_in (take (suc n) (i.Stmt x ∷ ys)) = length_front here (suc n) (i.Stmt x ∷ ys) in
      let room : length parts - w.part ≡ length kept + length (lines_from old (drop n xs)) = sym (length-drop w.part parts) ∙ (ap length (r.lines.left_is ∙ left) ∙ length-append kept (lines_from old (drop n xs))) in
      let on : part ≡ w.part + line_count_in (take (suc n) (i.Stmt x ∷ ys)) = past (omega (arith, many, room, r.lines.within)) in
      record {
        above = old;
        proper_before = proper_drop n xs r.proper_before.1;
        proper = proper_drop n ys r.proper.1;
        lines = reach_as text still refl (skip_lines part kept (lines_from old (drop n xs)) (lines_from v.gap.items (drop n ys)) shut left rest (on ∙ ap (λ m. w.part + m) (sym many)) r.lines);
      }

  skipped : (w : Writer) (v : OpenWindow) (xs ys : List Item) (n part : ℕ) → w.window.is_open ≡ false → v.text ≡ w.window.text → v.is_open ≡ w.window.is_open → 0 < n → n ≤ length xs → n ≤ length ys → take n xs ≡ take n ys →
      HasNext w.window.gap.items ys (drop w.part parts) → v.gap.items ≡ statement_gap w.window.gap.items n ys → (w.part + line_count_in (take n ys) ≤ length parts → part ≡ w.part + line_count_in (take n ys)) →
      AreReached parts all w xs ys → AreReached parts all (record w { window = v; base = part; part = part }) (drop n xs) (drop n ys)
  skipped w v xs ys zero part shut text still h g l same has gap past r = absurd (omega (arith, h))
  skipped w v xs [] (suc n) part shut text still h g l same has gap past r = absurd has
  skipped w v xs (i.Block texts ∷ ys) (suc n) part shut text still h g l same has gap past r = absurd has
  skipped w v [] (i.Stmt x ∷ ys) (suc n) part shut text still h g l same has gap past r = absurd (omega (arith, g))
  skipped w v (y ∷ xs) (i.Stmt x ∷ ys) (suc n) part shut text still h g l same has gap past r =
      let first : y ∷ xs ≡ i.Stmt x ∷ xs = same_first (suc n) 0 (y ∷ xs) (i.Stmt x ∷ ys) (i.Stmt x) (omega arith) g same refl in
      lines_skipped w v xs ys x n part shut text still (omega (arith, g)) (omega (arith, l)) (subst (λ zs. take (suc n) zs ≡ take (suc n) (i.Stmt x ∷ ys)) first same) has gap past
      (subst (λ zs. AreReached parts all w zs (i.Stmt x ∷ ys)) first r)

  -- the open window ends, and the rest of the items is passed over
  pub advanced : (w v : Writer) (u : OpenWindow) (items : List Item) (at count lines part : ℕ) → at < count → count ≤ length items →
      ((left rest : List Part) → IsAt parts all w left rest → IsAt parts all v left rest) → v.window.is_open ≡ false → v.window.gap.items ≡ w.window.gap.items → v.part ≡ w.part →
      HasNext w.window.gap.items (drop at items) (drop w.part parts) → u.text ≡ v.window.text → u.is_open ≡ v.window.is_open → u.gap.items ≡ statement_gap v.window.gap.items (count - at) (take (length items - at) (drop at items)) →
      lines ≡ line_count_in (take (count - at) (drop at items)) → (v.part + lines ≤ length parts → part ≡ v.part + lines) → (xs : List Item) → count ≤ length xs → take count xs ≡ take count items →
      AreReached parts all w (drop at xs) (drop at items) → AreReached parts all (record v { window = u; base = part; part = part }) (drop count xs) (drop count items)
  advanced w v u items at count lines part h l close shut gap here has text still left own past xs many same r =
      let n : ℕ = count - at in
      let both : at + n ≡ count = omega (arith, h) in
      let rest_same : take n (drop at xs) ≡ take n (drop at items) =
      sym (drop-take at n xs) ∙ (ap (λ m. drop at (take m xs)) both ∙ (ap (drop at) same ∙ (ap (λ m. drop at (take m items)) (sym both) ∙ drop-take at n items))) in
      let closed : AreReached parts all v (drop at xs) (drop at items) = record {
        above = r.above;
        proper_before = r.proper_before;
        proper = r.proper;
        lines = subst (λ t. IsAt parts all v (lines_from r.above (drop at xs)) (lines_from t (drop at items))) (sym gap) (close _ _ r.lines);
      } in
      let next : HasNext v.window.gap.items (drop at items) (drop v.part parts) = rw (gap, here) has in
      let end : (ys : List Item) → drop n (drop at ys) ≡ drop count ys = λ ys. drop-drop n at ys ∙ ap (λ m. drop m ys) both in
      subst (λ zs. AreReached parts all (record v { window = u; base = part; part = part }) zs (drop count items)) (end xs)
      (subst (λ zs. AreReached parts all (record v { window = u; base = part; part = part }) (drop n (drop at xs)) zs) (end items)
      (skipped v u (drop at xs) (drop at items) n part shut text still (omega (arith, h)) (omega (arith, length-drop at xs, many, h)) (omega (arith, length-drop at items, l, h)) rest_same next
      (left ∙ ap (statement_gap v.window.gap.items n) (rest_here items at)) (subst (λ m. v.part + m ≤ length parts → part ≡ v.part + m) own past) closed))

  -- ---- the end

  pub end_same : (left : List Part) (w : Writer) (gap : Bytes) → left ≡ drop w.part parts → gap ≡ w.window.gap.items → HasGap (slice_get (flat_map leaves_part left) 0) gap → AreReached parts all w [] [] →
      (rest : List Part) × IsAt parts all w rest rest
  end_same left w gap is here has r =
      let same : r.above ≡ w.window.gap.items = subst (λ (ps : List Part). HasGap (slice_get (flat_map leaves_part ps) 0) gap) (is ∙ r.lines.left_is) has ∙ here in
      (lines_from w.window.gap.items [], subst (λ g. IsAt parts all w (lines_from g []) (lines_from w.window.gap.items [])) same r.lines)

  pub end_put : (w : Writer) (out : Drafted) (part : ℕ) → out ≡ pushed w.window.text w.window.gap.items → (w.part + 1 ≤ length parts → part ≡ w.part + 1) → AreReached parts all w [] [] →
      (left : List Part) × IsAt parts all (record w { window = record (w.window) { text = out; is_open = true }; part = part }) left left
  end_put w out part text past r =
      let gap : Bytes = w.window.gap.items in
      let many : length parts - w.part ≡ 1 = sym (length-drop w.part parts) ∙ ap length r.lines.left_is in
      let on : part ≡ w.part + 1 = past (omega (arith, many)) in
      ([], reach_as (text ∙ ap (pushed w.window.text) (sym (append-nil gap))) refl refl (take_lines part 1 on (omega arith) (put_line (p.Leaf (record { class = c.End; gap = gap; token = [] })) r.lines)))

-- ---- windows

-- what is left of all windows
abbrev pub IsOver : Bool → List Part → List Part → List Window → Writer → List Item → Type 0
IsOver said parts all ws w items = (before : List Item) × AreCounted said ws before items × AreReached parts all w before items

module _ {said : Bool} {parts all : List Part} where
  -- a turn of the loop over them
  pub over_turn : (w v u : Writer) (ws : List Window) (x : Window) (items past : List Item) (part : ℕ) → past ≡ drop (x.from + x.come) items → IsOver said parts all (x ∷ ws) w items →
      Passes said parts x.from x.from items w v → (v.part + x.gone ≤ length parts → part ≡ v.part + x.gone) →
      ((before : List Item) → AreReached parts all (record v { window = record (v.window) { is_open = true }; part = part }) before (drop x.from items) → AreReached parts all u before (drop (x.from + x.come) items)) →
      IsOver said parts all ws u past
  over_turn w v u ws x items past part is_past (xs, ((gone, old, new, same, count, rest), each), r) step gone_past put =
      let taken = took v (drop x.from xs) (drop x.from items) gone x.gone part (omega (arith, length-drop x.from xs, old)) count gone_past (step all xs (omega (arith, old)) (sym same) each r) in (
        drop gone (drop x.from xs),
        (subst (λ zs. AreLinesOver ws zs past) (sym (drop-drop gone x.from xs)) (subst (AreLinesOver ws (drop (x.from + gone) xs)) (sym is_past) rest), λ is. (each_cut gone (drop x.from xs) (each_cut x.from xs (each is)).1).1),
        subst (AreReached parts all u (drop gone (drop x.from xs))) (sym is_past) (put (drop gone (drop x.from xs)) taken),
      )

  pub over_next : (w : Writer) (ws : List Window) (k : ℕ) (d : Window) (items : List Item) → k < length ws → IsOver said parts all (drop k ws) w items → IsOver said parts all (get_or ws k d ∷ drop (k + 1) ws) w items
  over_next w ws k d items h over = subst (λ vs. IsOver said parts all vs w items) (drop_more ws k d h) over

  pub over_none : (w : Writer) (ws : List Window) (k : ℕ) (items : List Item) → length ws ≤ k → IsOver said parts all (drop k ws) w items → IsOver said parts all [] w items
  over_none w ws k items h over = subst (λ vs. IsOver said parts all vs w items) (drop_all k ws h) over

  -- no window is left: what is left of both is the same
  pub over_last : (w v : Writer) (ws : List Window) (k : ℕ) (items : List Item) → length ws ≤ k → IsOver said parts all (drop k ws) w items → Passes said parts (length items) (length items) items w v → AreReached parts all v [] []
  over_last w v ws k items h over step =
      let here = over_none w ws k items h over in
      let many : length here.0 ≡ length items = ap length here.1.0 in
      subst (λ zs. AreReached parts all v [] zs) (drop_all (length items) items (omega arith))
      (subst (λ zs. AreReached parts all v zs (drop (length items) items)) (drop_all (length items) here.0 (omega (arith, many))) (step all here.0 (omega (arith, many)) (ap (take (length items)) here.1.0) here.1.1 here.2))

-- ---- the beginning

both_items : (items : List Item) → IsProperBuild items → AllByRecursion IsProperBuildItem items
both_items items h = together items (recursion_from_All IsProperItem items h.0) (recursion_from_All IsBuildItem items h.1)
  where
    together : (xs : List Item) → AllByRecursion IsProperItem xs → AllByRecursion IsBuildItem xs → AllByRecursion IsProperBuildItem xs
    together [] a b = tt
    together (x ∷ xs) a b = ((a.0, b.0), together xs a.1 b.1)

pub begun : (parts : List Part) (before items : List Item) (w : Writer) → w.made ≡ [] → w.window.text ≡ drafted limit [] → w.window.gap.items ≡ [] → w.window.is_open ≡ false → w.bytes ≡ 0 → w.done ≡ 0 → w.base ≡ 0 → w.part ≡ 0 → lines_from [] before ≡ parts →
    IsProperBuild before → IsProperBuild items → AreReached parts (lines_from [] items) w before items
begun parts before items w made text gap shut bytes done base part own old proper =
    let start : Reached parts (lines_from [] items) [] (drafted limit []) false 0 0 0 0 (lines_from [] before) (lines_from [] items) = record {
      before = record { new = []; texts = tt; there = tt; done_is = refl; count = refl; few = omega arith };
      own = [];
      ahead = omega arith;
      back = omega arith;
      within = omega arith;
      text = sym (pushed_none (drafted limit []));
      closed = λ e. (refl, refl);
      left_is = sym own;
      rest_is = refl;
    } in
    record {
      above = [];
      proper_before = both_items before old;
      proper = both_items items proper;
      lines = rw (made, text, shut, bytes, done, base, part, gap) start;
    }
