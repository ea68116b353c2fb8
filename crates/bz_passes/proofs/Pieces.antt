-- Pieces of a file that no load is sorted across are tidied apart, and windows of a tidy file by themselves.
use Rattle.bz_passes.proofs.Words.{[], ◌&&◌, ◌++◌, ◌+◌, ◌-◌, ◌<◌, ◌||◌, ◌∙◌, ◌∷◌, ◌≡◌, ◌≤◌, above, after_passes, All, All-append, All-drop, All-take, any_touched, ap, append-nil, append_assoc, AreOver, AreSetApart, AreTidied, AreWithin, arith, begins_with_load, Bool, cases_Bool, drop, drop-map, drop_at, ends_with_load, false, get_or, has_kind, inl, inr, is_empty, is_run_load, Item, Item as i, item_tidied, Kind as k, last_passes, length, length-append, length-drop, length-map, length-take-le, List, load_precedes, loads, map-append, option_map_or, or_parts, passed, path_precedes, refl, slice_get, subst, suc, sym, take, take-add, take-append-drop, take-map, take_at, taken, tidied_over, touches, true, Window, zero, ℕ}
use Rattle.bz_passes.proofs.Composed.{above_outside, kind_outside, taken_stays}
use Rattle.bz_passes.proofs.Sorting.{cut_at, Starts, Ordered, ordered_stays, sort_length, sort_ordered}
use Rattle.bz_passes.proofs.Keeping.{both}
use Rattle.bz_passes.proofs.Settling.{by_items, each, each_settled, load_one_way, same_loose}

-- ---- tidying by items

pub passed_alone : (item : Item) → passed (item ∷ []) ≡ item_tidied item ∷ []
passed_alone item = by_items (item ∷ [])

pub each_between : (front : List Item) (x : Item) (rest : List Item) → each (front ++ x ∷ rest) ≡ each front ++ item_tidied x ∷ each rest
each_between front x rest = map-append item_tidied front (x ∷ rest)

pub passed_length : (items : List Item) → length (passed items) ≡ length items
passed_length items = ap length (by_items items) ∙ (sort_length load_precedes (each items) ∙ length-map items item_tidied)

-- ---- an item that is not sorted cuts

-- which items are sorted stays
run_kept : (item : Item) → is_run_load (item_tidied item) ≡ is_run_load item
run_kept (i.Block lines) = refl
run_kept (i.Stmt x) =
    same_loose (taken after_passes x)
    ∙ both (λ a b. a && b) (taken_stays (has_kind k.Load) (kind_outside k.Load) x) (ap is_empty (taken_stays above above_outside x))

passed_cut : (front rest : List Item) (bar : Item) → is_run_load bar ≡ false → passed (front ++ bar ∷ rest) ≡ passed front ++ item_tidied bar ∷ passed rest
passed_cut front rest bar n =
    by_items (front ++ bar ∷ rest)
    ∙ (ap loads (each_between front bar rest)
    ∙ (cut_at is_run_load path_precedes (each front) (each rest) (item_tidied bar) (run_kept bar ∙ n)
    ∙ both (λ z zs. z ++ item_tidied bar ∷ zs) (sym (by_items front)) (sym (by_items rest))))

cut_after : (front rest : List Item) (bar : Item) → is_run_load bar ≡ false → passed ((front ++ bar ∷ []) ++ rest) ≡ passed (front ++ bar ∷ []) ++ passed rest
cut_after front rest bar n =
    ap passed (append_assoc front (bar ∷ []) rest)
    ∙ (passed_cut front rest bar n
    ∙ (sym (append_assoc (passed front) (item_tidied bar ∷ []) (passed rest))
    ∙ ap (λ z. z ++ passed rest) (sym (passed_cut front [] bar n))))

cut_from : (front : List Item) (x : Item) (xs rest : List Item) → ends_with_load (x ∷ xs) ≡ false → passed ((front ++ x ∷ xs) ++ rest) ≡ passed (front ++ x ∷ xs) ++ passed rest
cut_from front x [] rest n = cut_after front rest x n
cut_from front x (y ∷ ys) rest n = subst (λ z. passed (z ++ rest) ≡ passed z ++ passed rest) (append_assoc front (x ∷ []) (y ∷ ys)) (cut_from (front ++ x ∷ []) y ys rest n)

cut_last : (xs rest : List Item) → ends_with_load xs ≡ false → passed (xs ++ rest) ≡ passed xs ++ passed rest
cut_last [] rest n = refl
cut_last (x ∷ xs) rest n = cut_from [] x xs rest n

pub cut_first : (xs rest : List Item) → begins_with_load rest ≡ false → passed (xs ++ rest) ≡ passed xs ++ passed rest
cut_first xs [] n = ap passed (append-nil xs) ∙ sym (append-nil (passed xs))
cut_first xs (bar ∷ rest) n = passed_cut xs rest bar n ∙ ap (λ z. passed xs ++ z) (sym (passed_cut [] rest bar n))

-- where no load is sorted across, both sides are tidied apart
cut_between : (xs ys : List Item) → (ends_with_load xs && begins_with_load ys) ≡ false → passed (xs ++ ys) ≡ passed xs ++ passed ys
cut_between xs ys n = elim (cases_Bool (ends_with_load xs)) [
  | inl t ↦ let m : begins_with_load ys ≡ false = rw t at n in cut_first xs ys m
  | inr f ↦ cut_last xs ys f
]

begins_fewer : (b : Bool) (n : ℕ) (xs : List Item) → (b && begins_with_load xs) ≡ false → (b && begins_with_load (take n xs)) ≡ false
begins_fewer false n xs h = refl
begins_fewer true zero xs h = refl
begins_fewer true (suc n) [] h = refl
begins_fewer true (suc n) (x ∷ xs) h = h

-- ---- pieces of a tidy file are tidy

abbrev pub InOrder : List Item → Type 0
InOrder = Ordered load_precedes

starts_take : (x : Item) (n : ℕ) (xs : List Item) → Starts load_precedes x xs → Starts load_precedes x (take n xs)
starts_take x zero xs s = tt
starts_take x (suc n) [] s = tt
starts_take x (suc n) (y ∷ ys) s = s

pub ordered_take : (n : ℕ) (xs : List Item) → InOrder xs → InOrder (take n xs)
ordered_take zero xs o = tt
ordered_take (suc n) [] o = tt
ordered_take (suc n) (x ∷ xs) o = (starts_take x n xs o.0, ordered_take n xs o.1)

pub ordered_drop : (n : ℕ) (xs : List Item) → InOrder xs → InOrder (drop n xs)
ordered_drop zero xs o = o
ordered_drop (suc n) [] o = tt
ordered_drop (suc n) (x ∷ xs) o = ordered_drop n xs o.1

-- what tidying keeps of a tidy file
pub record IsTidy (items : List Item) : Type 0 where
  pub each_stays : each items ≡ items
  pub ordered : InOrder items

pub tidy_is : (items : List Item) → passed items ≡ items → IsTidy items
tidy_is items t =
    let own : loads (each items) ≡ items = sym (by_items items) ∙ t in
    record {
      each_stays = subst (λ z. each z ≡ z) own (each_settled items);
      ordered = subst InOrder own (sort_ordered load_precedes load_one_way (each items));
    }

is_tidied : (items : List Item) → IsTidy items → passed items ≡ items
is_tidied items t = by_items items ∙ (ap loads t.each_stays ∙ ordered_stays load_precedes items t.ordered)

pub front_stays : (n : ℕ) (items : List Item) → IsTidy items → IsTidy (take n items)
front_stays n items t = record {
  each_stays = sym (take-map item_tidied n items) ∙ ap (take n) t.each_stays;
  ordered = ordered_take n items t.ordered;
}

pub back_stays : (n : ℕ) (items : List Item) → IsTidy items → IsTidy (drop n items)
back_stays n items t = record {
  each_stays = sym (drop-map item_tidied n items) ∙ ap (drop n) t.each_stays;
  ordered = ordered_drop n items t.ordered;
}

-- ---- the items of a window, with others after them

module _ (w : Window) (items back : List Item) (within : w.from + w.come ≤ length items) where
  abbrev pub middle : List Item
  middle = passed (take w.come (drop w.from items))

  abbrev put : List Item
  put = take w.from items ++ middle ++ back

  front_length : length (take w.from items) ≡ w.from
  front_length = length-take-le w.from items (omega (arith, within))

  pub both_length : length (take w.from items ++ middle) ≡ w.from + w.come
  both_length =
      omega (
        arith,
        length-append (take w.from items) middle,
        front_length,
        passed_length (take w.come (drop w.from items)),
        length-take-le w.come (drop w.from items) (omega (arith, length-drop w.from items, within)),
      )

  put_length : length put ≡ (w.from + w.come) + length back
  put_length = length-append (take w.from items ++ middle) back ∙ ap (λ n. n + length back) both_length

  put_front : take w.from put ≡ take w.from items
  put_front = ap (take w.from) (append_assoc (take w.from items) middle back) ∙ take_at (take w.from items) (middle ++ back) w.from front_length

  put_back : drop (w.from + w.come) put ≡ back
  put_back = drop_at (take w.from items ++ middle) back (w.from + w.come) both_length

-- ---- all windows

pub over_length : (ws : List Window) (items : List Item) → AreWithin ws items → length (tidied_over ws items) ≡ length items
over_length [] items h = refl
over_length (w ∷ ws) items h =
    let back : List Item = drop (w.from + w.come) items in
    omega (arith, put_length w items (tidied_over ws back) h.0, over_length ws back h.1, length-drop (w.from + w.come) items, h.0)

pub over_within : (ws : List Window) (items : List Item) → AreWithin ws items → AreWithin ws (tidied_over ws items)
over_within [] items h = tt
over_within (w ∷ ws) items h =
    let back : List Item = drop (w.from + w.come) items in (
      omega (arith, put_length w items (tidied_over ws back) h.0),
      subst (AreWithin ws) (sym (put_back w items (tidied_over ws back) h.0)) (over_within ws back h.1),
    )

pub over_still : (ws : List Window) (before items : List Item) → AreOver ws before items → AreOver ws before (tidied_over ws items)
over_still [] before items h = h
over_still (w ∷ ws) before items h =
    let back : List Item = drop (w.from + w.come) items in
    let others : List Item = drop (w.from + w.gone) before in (
      h.0,
      omega (arith, put_length w items (tidied_over ws back) h.1),
      put_front w items (tidied_over ws back) h.1 ∙ h.2,
      subst (AreOver ws others) (sym (put_back w items (tidied_over ws back) h.1)) (over_still ws others back h.3),
    )

-- what tidying keeps of all items
pub over_all : (P : Item → Type 0) → ((items : List Item) → All P items → All P (passed items)) → (ws : List Window) (items : List Item) → All P items → All P (tidied_over ws items)
over_all P kept [] items h = h
over_all P kept (w ∷ ws) items h =
    let middle : List Item = take w.come (drop w.from items) in
    let back : List Item = drop (w.from + w.come) items in
    All-append P (take w.from items ++ passed middle) (tidied_over ws back)
    (All-append P (take w.from items) (passed middle) (All-take P w.from items h)
    (kept middle (All-take P w.come (drop w.from items) (All-drop P w.from items h))))
    (over_all P kept ws back (All-drop P (w.from + w.come) items h))

-- where no load is sorted across a border, tidying what came by itself is tidying the whole
over_tidied : (ws : List Window) (before items : List Item) → IsTidy before → AreOver ws before items → any_touched ws items ≡ false → tidied_over ws items ≡ passed items
over_tidied [] before items t h n = sym (is_tidied items (subst IsTidy h t))
over_tidied (w ∷ ws) before items t h n =
    let front : List Item = take w.from items in
    let middle : List Item = take w.come (drop w.from items) in
    let back : List Item = drop (w.from + w.come) items in
    let none : ((touches w.from items || touches (w.from + w.come) items) ≡ false) × (any_touched ws back ≡ false) = or_parts (touches w.from items || touches (w.from + w.come) items) _ n in
    let sides : (touches w.from items ≡ false) × (touches (w.from + w.come) items ≡ false) = or_parts (touches w.from items) _ none.0 in
    let rest : tidied_over ws back ≡ passed back = over_tidied ws (drop (w.from + w.gone) before) back (back_stays (w.from + w.gone) before t) h.3 none.1 in
    let own : passed front ≡ front = is_tidied front (subst IsTidy (sym h.2) (front_stays w.from before t)) in
    let two : passed (take (w.from + w.come) items) ≡ passed front ++ passed middle =
    ap passed (take-add w.from w.come items) ∙ cut_between front middle (begins_fewer (ends_with_load front) w.come (drop w.from items) sides.0) in
    both (λ z zs. z ++ passed middle ++ zs) (sym own) rest
    ∙ (ap (λ z. z ++ passed back) (sym two) ∙ (sym (cut_between (take (w.from + w.come) items) back sides.1) ∙ ap passed (take-append-drop (w.from + w.come) items)))

pub apart_tidied : (ws vs : List Window) (old new : List Item) → AreSetApart ws vs old → new ≡ tidied_over vs old → AreTidied ws vs old new
apart_tidied ws vs old new a e = record {
  within = subst (AreWithin vs) (sym e) (over_within vs old a.within);
  tidy = λ before t o. e ∙ over_tidied vs before old (tidy_is before t) (a.over before o) a.apart;
  over = λ before t o. subst (AreOver vs before) (sym e) (over_still vs before old (a.over before o));
}

-- ---- the last of some items

pub by_last : (test : Item → Bool) (items : List Item) → last_passes test items ≡ option_map_or test (slice_get items (length items - 1)) false
by_last test [] = refl
by_last test (x ∷ []) = refl
by_last test (x ∷ y ∷ ys) =
    let last : suc (length (y ∷ ys) - 1) ≡ length (x ∷ y ∷ ys) - 1 = omega arith in
    by_last test (y ∷ ys) ∙ ap (λ n. option_map_or test (slice_get (x ∷ y ∷ ys) n) false) last

pub last_before : (test : Item → Bool) (at : ℕ) (items : List Item) (item : Item) → 0 < at → at ≤ length items → item ≡ get_or items (at - 1) item → test item ≡ last_passes test (take at items)
last_before test zero items item some h is = absurd (omega (arith, some))
last_before test (suc n) [] item some h is = absurd (omega (arith, h))
last_before test (suc zero) (x ∷ xs) item some h is = ap test is
last_before test (suc (suc n)) (x ∷ []) item some h is = absurd (omega (arith, h))
last_before test (suc (suc n)) (x ∷ y ∷ ys) item some h is =
    let last : suc (suc n) - 1 ≡ suc n = omega arith in
    let next : suc n - 1 ≡ n = omega arith in
    last_before test (suc n) (y ∷ ys) item (omega arith) (omega (arith, h)) (is ∙ (ap (λ k. get_or (x ∷ y ∷ ys) k item) last ∙ ap (λ k. get_or (y ∷ ys) k item) (sym next)))

pub last_of_more : (test : Item → Bool) (front : List Item) (item : Item) → last_passes test (front ++ item ∷ []) ≡ test item
last_of_more test [] item = refl
last_of_more test (x ∷ []) item = refl
last_of_more test (x ∷ y ∷ ys) item = last_of_more test (y ∷ ys) item
