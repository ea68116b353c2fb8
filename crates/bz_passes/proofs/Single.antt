-- One item that came in a tidy file, tidied by itself and moved to its place among the loads, makes the whole tidy.
use Rattle.bz_passes.proofs.Words.{[], ◌&&◌, ◌++◌, ◌+◌, ◌-◌, ◌<◌, ◌∙◌, ◌∷◌, ◌≡◌, ◌≤◌, ◌⊎◌, All-append, All-drop, All-from_recursion, All-take, AllByRecursion, AllWithin, and_left, and_parts, and_right, ap, append-nil, append_assoc, AreInOrder, AreLoads, AreOver, AreTidied, AreWithin, arith, cases_Bool, drop, drop-append-le, drop-drop, drop_at, ends_with_load, false, first_precedes, get_or, get_or-drop, inl, inr, insert_by, is_run_load, IsMoved, IsPartitionedBy, IsPartitionPoint, IsPlaceBack, IsPlaceOf, IsProper, IsProperItem, IsStillToTidy, Item, item_tidied, length, length-append, length-drop, length-take-le, List, load_precedes, loads, not, not-false, not-true, one_at, passed, path_precedes, path_ranks, precedes_last, recursion_from_All, refl, sort_by, subst, suc, sym, take, take-append-drop, take-take, take_at, take_more, tidied_over, true, true_from_ne_false, true≢false, Window, zero, ℕ}
use Rattle.bz_passes.proofs.Keeping.{both}
use Rattle.bz_passes.proofs.Pieces.{InOrder, IsTidy, back_stays, each_between, front_stays, last_of_more, ordered_drop, ordered_take, over_still, over_within, passed_alone, tidy_is}
use Rattle.bz_passes.proofs.Settling.{by_items, each, item_settles}
use Rattle.bz_passes.proofs.Sorting.{Starts, climbs_by, insert_starts, ordered_stays}

-- ---- the place of one item among sorted ones

starts_from : (x : Item) (rest : List Item) → first_precedes x rest ≡ false → Starts load_precedes x rest
starts_from x [] h = tt
starts_from x (y ∷ ys) h = h

placed_first : (x : Item) (later rest : List Item) → InOrder (later ++ rest) → AllByRecursion (λ y. load_precedes x y ≡ true) later → first_precedes x rest ≡ false
    → sort_by load_precedes (later ++ x ∷ rest) ≡ x ∷ later ++ rest
placed_first x [] rest o a f = ap (insert_by load_precedes x) (ordered_stays load_precedes rest o) ∙ insert_starts load_precedes x rest (starts_from x rest f)
placed_first x (y ∷ later) rest o a f =
    ap (insert_by load_precedes y) (placed_first x later rest o.1 a.1 f) ∙ rw a.0 (ap (λ z. x ∷ z) (insert_starts load_precedes y (later ++ rest) o.0))

placed : (x : Item) (front later rest : List Item) → InOrder front → InOrder (later ++ rest) → AllByRecursion (λ y. load_precedes x y ≡ true) later
    → precedes_last x front ≡ false → first_precedes x rest ≡ false → sort_by load_precedes (front ++ later ++ x ∷ rest) ≡ front ++ x ∷ later ++ rest
placed x [] later rest o p a s f = placed_first x later rest p a f
placed x (y ∷ []) later rest o p a s f = ap (insert_by load_precedes y) (placed_first x later rest p a f) ∙ insert_starts load_precedes y (x ∷ later ++ rest) s
placed x (y ∷ z ∷ front) later rest o p a s f =
    ap (insert_by load_precedes y) (placed x (z ∷ front) later rest o.1 p a s f) ∙ insert_starts load_precedes y ((z ∷ front) ++ x ∷ later ++ rest) o.0

abbrev pub AllLater : Item → List Item → Type 0
AllLater x others = AllByRecursion (λ y. load_precedes x y ≡ true) others

-- a later load follows what the item precedes
next_later : (x y z : Item) → load_precedes x y ≡ true → load_precedes z y ≡ false → is_run_load z ≡ true → load_precedes x z ≡ true
next_later x y z h n l =
    let ahead : ((is_run_load x && is_run_load y) ≡ true) × (path_precedes x y ≡ true) = and_parts (is_run_load x && is_run_load y) (path_precedes x y) h in
    let own : (is_run_load x ≡ true) × (is_run_load y ≡ true) = and_parts (is_run_load x) (is_run_load y) ahead.0 in
    let behind : path_precedes z y ≡ false = rw (l, own.1) at n in
    let first : path_precedes x z ≡ true = true_from_ne_false _ (λ f. true≢false (sym ahead.1 ∙ path_ranks.chain x z y f behind)) in
    rw (own.0, l, first) refl

later_too : (x y : Item) (ys : List Item) → load_precedes x y ≡ true → InOrder (y ∷ ys) → AreLoads ys → AllLater x ys
later_too x y [] h o a = tt
later_too x y (z ∷ zs) h o a = let next : load_precedes x z ≡ true = next_later x y z h o.0 a.0 in (next, later_too x z zs next o.1 a.1)

-- of a run, what the item doesn't precede is before what it precedes
pub parted : (x : Item) (xs : List Item) → InOrder xs → AreLoads xs → IsPartitionedBy (λ y. not (load_precedes x y)) xs
parted x [] o a i j d b l h = absurd (omega (arith, l))
parted x (y ∷ ys) o a (suc i) zero d b l h = absurd (omega (arith, b))
parted x (y ∷ ys) o a (suc i) (suc j) d b l h = parted x ys o.1 a.1 i j d (omega (arith, b)) (omega (arith, l)) h
parted x (y ∷ ys) o a zero zero d b l h = h
parted x (y ∷ ys) o a zero (suc j) d b l h = elim (cases_Bool (load_precedes x y)) [
  | inl t ↦ absurd (true≢false (sym h ∙ ap not (All-from_recursion (λ z. load_precedes x z ≡ true) ys (later_too x y ys t o a.1) j d (omega (arith, l)))))
  | inr f ↦ ap not f
]

no_load_stops : (x : Item) (others : List Item) → ends_with_load others ≡ false → precedes_last x others ≡ false
no_load_stops x [] n = refl
no_load_stops x (y ∷ []) n = and_left (is_run_load x && is_run_load y) (path_precedes x y) (and_right (is_run_load x) (is_run_load y) n)
no_load_stops x (y ∷ z ∷ ys) n = no_load_stops x (z ∷ ys) n

-- the place in a run between these, among all items up to it
module _ (x : Item) (start : ℕ) (others xs : List Item) (e : xs ≡ drop start others) where
  stops_at : (k : ℕ) → k ≤ length xs → ends_with_load (take start others) ≡ false → AllWithin (λ y. not (load_precedes x y) ≡ true) xs 0 k → precedes_last x (take (start + k) others) ≡ false
  stops_at zero b n p = subst (λ m. precedes_last x (take m others) ≡ false) (omega arith) (no_load_stops x (take start others) n)
  stops_at (suc m) b n p =
      let at : load_precedes x (get_or others (start + m) x) ≡ false =
      ap (load_precedes x) (sym (get_or-drop start others m x) ∙ ap (λ ys. get_or ys m x) (sym e)) ∙ not-true _ (p m x (omega arith) (omega arith)) in
      ap (λ n. precedes_last x (take n others)) (omega arith)
      ∙ (ap (precedes_last x) (take_more others (start + m) x (omega (arith, b, ap length e, length-drop start others)))
      ∙ (last_of_more (load_precedes x) (take (start + m) others) (get_or others (start + m) x) ∙ at))

  pub placed_back : (k : ℕ) → k ≤ length xs → ends_with_load (take start others) ≡ false
      → IsPartitionPoint (λ y. not (load_precedes x y) ≡ true) (λ y. not (load_precedes x y) ≡ false) xs k → IsPlaceBack x (start + k) others
  placed_back k b n p = record {
    later = subst (AllLater x) (ap (drop k) e ∙ drop-drop k start others) (recursion_from_All (λ y. load_precedes x y ≡ true) (drop k xs)
        (λ i d l. ap (load_precedes x) (get_or-drop k xs i d) ∙ not-false _ (p.1 (k + i) d (omega arith) (omega (arith, l, length-drop k xs)))));
    stops = stops_at k b n p.0;
  }

-- ---- tidying an item twice

twice : (front : List Item) (x : Item) (rest : List Item) → passed (front ++ item_tidied x ∷ rest) ≡ passed (front ++ x ∷ rest)
twice front x rest =
    by_items (front ++ item_tidied x ∷ rest)
    ∙ (ap loads (each_between front (item_tidied x) rest ∙ (ap (λ z. each front ++ z ∷ each rest) (item_settles x) ∙ sym (each_between front x rest)))
    ∙ sym (by_items (front ++ x ∷ rest)))

twice_in : (front items : List Item) → passed (front ++ passed (take 1 items) ++ drop 1 items) ≡ passed (front ++ items)
twice_in front [] = ap passed (append-nil (front ++ []))
twice_in front (x ∷ rest) =
    ap (λ z. passed (front ++ z ++ rest)) (passed_alone x) ∙ (ap passed (append_assoc front (item_tidied x ∷ []) rest) ∙ twice front x rest)

-- the item at a place tidied as if it were alone
abbrev pub tidied_at : ℕ → List Item → List Item
tidied_at from items = tidied_over (one_at from 0) items

within_twice : (from : ℕ) (items : List Item) → passed (tidied_at from items) ≡ passed items
within_twice from items =
    ap (λ z. passed (take from items ++ passed (take 1 (drop from items)) ++ z)) (sym (drop-drop 1 from items))
    ∙ (twice_in (take from items) (drop from items) ∙ ap passed (take-append-drop from items))

-- what is tidied by itself and then with its neighbours
tidied_twice : (windows others : List Window) (from gone : ℕ) (old mid new : List Item) → windows ≡ one_at from gone → mid ≡ tidied_at from old → AreTidied windows others mid new → AreTidied windows others old new
tidied_twice windows others from gone old mid new own e t =
    let still : (before : List Item) → AreOver windows before old → AreOver windows before mid =
    λ before over. subst (λ ws. AreOver ws before mid) (sym own)
    (subst (AreOver (one_at from gone) before) (sym e) (over_still (one_at from gone) before old (subst (λ ws. AreOver ws before old) own over))) in
    record {
      within = t.within;
      tidy = λ before tidy over. t.tidy before tidy (still before over) ∙ (ap passed e ∙ within_twice from old);
      over = λ before tidy over. t.over before tidy (still before over);
    }

pub single_left : (windows : List Window) (from gone : ℕ) (old mid : List Item) → windows ≡ one_at from gone → AreWithin windows old → mid ≡ tidied_over windows old → IsStillToTidy windows windows old mid
single_left windows from gone old mid own within e = record {
  same = refl;
  within = subst (AreWithin windows) (sym e) (over_within windows old within);
  goes = λ new others t. tidied_twice windows others from gone old mid new own (e ∙ ap (λ ws. tidied_over ws old) own) t;
}

-- ---- an item between items of a tidy file

pub single_tidied : (before front rest : List Item) (x : Item) (from stop to : ℕ) → passed before ≡ before → take from before ≡ front → drop stop before ≡ rest
    → InOrder (drop to front ++ rest) → IsPlaceOf (item_tidied x) to front rest
    → passed (front ++ x ∷ rest) ≡ take to front ++ item_tidied x ∷ drop to front ++ rest
single_tidied before front rest x from stop to t own back o p =
    let tidy : IsTidy before = tidy_is before t in
    let front_tidy : IsTidy front = subst IsTidy own (front_stays from before tidy) in
    let rest_tidy : IsTidy rest = subst IsTidy back (back_stays stop before tidy) in
    let whole : take to front ++ drop to front ++ item_tidied x ∷ rest ≡ front ++ item_tidied x ∷ rest = ap (λ z. z ++ item_tidied x ∷ rest) (take-append-drop to front) in
    by_items (front ++ x ∷ rest)
    ∙ (ap loads (each_between front x rest ∙ both (λ z zs. z ++ item_tidied x ∷ zs) front_tidy.each_stays rest_tidy.each_stays)
    ∙ (ap loads (sym whole)
    ∙ placed (item_tidied x) (take to front) (drop to front) rest (ordered_take to front front_tidy.ordered) o p.back.later p.back.stops p.follows))

-- ---- the window of a single item

no_more : (xs : List Item) → length xs ≡ 0 → xs ≡ []
no_more [] h = refl
no_more (x ∷ xs) h = cc

-- the item that came is x, between these
module _ (from gone to : ℕ) (old new : List Item) (x : Item) (rest : List Item) (own : drop from old ≡ x ∷ rest) (bound : to ≤ from) (there : from + 1 ≤ length old)
    (either : (to ≡ from) ⊎ (gone ≡ 0)) where
  abbrev pub front : List Item
  front = take from old

  front_length : length front ≡ from
  front_length = length-take-le from old (omega (arith, there))

  after_own : drop (from + 1) old ≡ rest
  after_own = sym (drop-drop 1 from old) ∙ ap (drop 1) own

  whole : front ++ x ∷ rest ≡ old
  whole = ap (λ z. front ++ z) (sym own) ∙ take-append-drop from old

  within_is : tidied_at from old ≡ front ++ item_tidied x ∷ rest
  within_is =
      both (λ z zs. front ++ passed (take 1 z) ++ zs) own after_own
      ∙ (ap (λ z. front ++ z ++ rest) (passed_alone x) ∙ append_assoc front (item_tidied x ∷ []) rest)

  front_is : take from (tidied_at from old) ≡ front
  front_is = ap (take from) within_is ∙ take_at front (item_tidied x ∷ rest) from front_length

  pub back_is : drop from (tidied_at from old) ≡ item_tidied x ∷ rest
  back_is = ap (drop from) within_is ∙ drop_at front (item_tidied x ∷ rest) from front_length

  abbrev pub Moved : Type 0
  Moved = new ≡ take to front ++ item_tidied x ∷ drop to front ++ rest

  pub moved_from : new ≡ take to (tidied_at from old) ++ item_tidied x ∷ drop to (take from (tidied_at from old)) ++ rest → Moved
  moved_from h =
      h ∙ both (λ z zs. z ++ item_tidied x ∷ zs ++ rest) (sym (take-take to from (tidied_at from old) bound) ∙ ap (take to) front_is) (ap (drop to) front_is)

  later_length : length (drop to front) ≡ from - to
  later_length = length-drop to front ∙ ap (λ n. n - to) front_length

  first_length : length (take to front) ≡ to
  first_length = length-take-le to front (omega (arith, bound, front_length))

  none_later : to ≡ from → drop to front ≡ []
  none_later e = no_more (drop to front) (omega (arith, later_length, e))

  pub moved_nowhere : to ≡ from → new ≡ tidied_at from old → Moved
  moved_nowhere e h =
      h
      ∙ (within_is
      ∙ (sym (append_assoc front (item_tidied x ∷ []) rest)
      ∙ both (λ z zs. z ++ item_tidied x ∷ zs ++ rest) (sym (ap (λ n. take n front) e ∙ take-take from from old (omega arith))) (sym (none_later e))))

  pub place_is : ((item : Item) (others : List Item) → drop from (tidied_at from old) ≡ item ∷ others → AreInOrder (take from (tidied_at from old)) → IsPlaceOf item to (take from (tidied_at from old)) others)
      → AreInOrder front → IsPlaceOf (item_tidied x) to front rest
  place_is h = subst (λ z. AreInOrder z → IsPlaceOf (item_tidied x) to z rest) front_is (h (item_tidied x) rest back_is)

  module _ (moved : Moved) where
    new_length : length new ≡ length old
    new_length =
        omega (
          arith,
          ap length moved,
          length-append (take to front ++ item_tidied x ∷ drop to front) rest,
          length-append (take to front) (item_tidied x ∷ drop to front),
          later_length,
          first_length,
          bound,
          ap length whole,
          length-append front (x ∷ rest),
          front_length,
        )

    module _ (before : List Item) (over : AreOver (one_at from gone) before old) where
      rest_is : drop (from + gone) before ≡ rest
      rest_is = over.3 ∙ after_own

      -- where none is gone
      all_before : gone ≡ 0 → front ++ rest ≡ before
      all_before n =
          both (λ z zs. z ++ zs) over.2 (sym rest_is ∙ ap (λ m. drop m before) (omega (arith, n)))
          ∙ take-append-drop from before

      later_is : gone ≡ 0 → drop to front ++ rest ≡ drop to before
      later_is n = sym (drop-append-le to front rest (omega (arith, bound, front_length))) ∙ ap (drop to) (all_before n)

      later_or_rest : (gone ≡ 0 → drop to front ++ rest ≡ drop to before) → InOrder before → InOrder (drop to front ++ rest)
      later_or_rest h o = elim either [
        | inl e ↦ subst (λ z. InOrder (z ++ rest)) (sym (none_later e)) (subst InOrder rest_is (ordered_drop (from + gone) before o))
        | inr n ↦ subst InOrder (sym (h n)) (ordered_drop to before o)
      ]

      new_tidied : passed before ≡ before → IsPlaceOf (item_tidied x) to front rest → new ≡ passed old
      new_tidied t p =
          moved
          ∙ (sym (single_tidied before front rest x from (from + gone) to t (sym over.2) rest_is (later_or_rest later_is (tidy_is before t).ordered) p) ∙ ap passed whole)

      drop_new : drop (to + 1) new ≡ drop to front ++ rest
      drop_new =
          ap (drop (to + 1)) (moved ∙ append_assoc (take to front) (item_tidied x ∷ drop to front) rest)
          ∙ (sym (drop-drop 1 to (take to front ++ (item_tidied x ∷ (drop to front ++ rest))))
          ∙ ap (drop 1) (drop_at (take to front) (item_tidied x ∷ (drop to front ++ rest)) to first_length))

      take_new : take to new ≡ take to before
      take_new =
          ap (take to) (moved ∙ append_assoc (take to front) (item_tidied x ∷ drop to front) rest)
          ∙ (take_at (take to front) (item_tidied x ∷ (drop to front ++ rest)) to first_length ∙ (ap (take to) over.2 ∙ take-take to from before bound))

      new_over : AreOver (one_at to gone) before new
      new_over = (
        omega (arith, bound, over.0),
        omega (arith, new_length, bound, there),
        take_new,
        sym (drop_new ∙ elim either [
          | inl e ↦ ap (λ z. z ++ rest) (none_later e) ∙ (sym rest_is ∙ ap (λ n. drop n before) (omega (arith, e)))
          | inr n ↦ later_is n ∙ ap (λ m. drop m before) (omega (arith, n))
        ]),
      )

    pub is_tidied : (AreInOrder front → IsPlaceOf (item_tidied x) to front rest) → AreTidied (one_at from gone) (one_at to gone) old new
    is_tidied p = record {
      within = (omega (arith, new_length, bound, there), tt);
      tidy = λ before tidy over. new_tidied before over tidy (p (climbs_by load_precedes front (subst InOrder (sym over.2) (ordered_take from before (tidy_is before tidy).ordered))));
      over = λ before tidy over. new_over before over;
    }

-- whatever item came
abbrev pub Placed : ℕ → ℕ → List Item → Type 0
Placed from to mid = (item : Item) (rest : List Item) → drop from mid ≡ item ∷ rest → AreInOrder (take from mid) → IsPlaceOf item to (take from mid) rest

single_at : (from gone to : ℕ) (old new xs : List Item) → drop from old ≡ xs → from + 1 ≤ length old → to ≤ from → Placed from to (tidied_at from old)
    → ((to ≡ from) × (new ≡ tidied_at from old)) ⊎ ((gone ≡ 0) × IsMoved from to (tidied_at from old) new) → AreTidied (one_at from gone) (one_at to gone) old new
single_at from gone to old new [] e there bound placed made = absurd (omega (arith, length-drop from old, ap length e, there))
single_at from gone to old new (x ∷ rest) e there bound placed made =
    let either : (to ≡ from) ⊎ (gone ≡ 0) = elim made [ inl h ↦ inl h.0 | inr h ↦ inr h.0 ] in
    is_tidied from gone to old new x rest e bound there either
    (elim made [
      | inl h ↦ moved_nowhere from gone to old new x rest e bound there either h.0 h.1
      | inr h ↦ moved_from from gone to old new x rest e bound there either (h.1 (item_tidied x) rest (back_is from gone to old new x rest e bound there either))
    ])
    (place_is from gone to old new x rest e bound there either placed)

proper_at : (from to : ℕ) (old new xs : List Item) → drop from old ≡ xs → from < length old → IsMoved from to old new → IsProper old → IsProper new
proper_at from to old new [] e within moved h = absurd (omega (arith, length-drop from old, ap length e, within))
proper_at from to old new (x ∷ rest) e within moved h =
    let rests : IsProper (x ∷ rest) = subst IsProper e (All-drop IsProperItem from old h) in
    subst IsProper (sym (moved x rest e))
    (All-append IsProperItem (take to old ++ x ∷ drop to (take from old)) rest
    (All-append IsProperItem (take to old) (x ∷ drop to (take from old)) (All-take IsProperItem to old h)
    (All-append IsProperItem (x ∷ []) (drop to (take from old)) (All-take IsProperItem 1 (x ∷ rest) rests) (All-drop IsProperItem to (take from old) (All-take IsProperItem from old h))))
    (All-drop IsProperItem 1 (x ∷ rest) rests))

pub moved_proper : (from to : ℕ) (old new : List Item) → from < length old → IsMoved from to old new → IsProper old → IsProper new
moved_proper from to old new = proper_at from to old new (drop from old) refl

-- the answer of `tidy_single`, of the windows before and after
pub single_done : (windows others : List Window) (from gone to : ℕ) (old mid new : List Item) → windows ≡ one_at from gone → AreWithin windows old → mid ≡ tidied_over windows old → to ≤ from → Placed from to mid
    → ((to ≡ from) × (new ≡ mid)) ⊎ ((gone ≡ 0) × IsMoved from to mid new) → others ≡ one_at to gone → AreTidied windows others old new
single_done windows others from gone to old mid new own within e bound placed made moved =
    let passed : mid ≡ tidied_at from old = e ∙ ap (λ ws. tidied_over ws old) own in
    subst (λ ws. AreTidied ws others old new) (sym own)
    (subst (λ ws. AreTidied (one_at from gone) ws old new) (sym moved)
    (single_at from gone to old new (drop from old) refl (subst (λ ws. AreWithin ws old) own within).0 bound (subst (Placed from to) passed placed)
    (subst (λ m. ((to ≡ from) × (new ≡ m)) ⊎ ((gone ≡ 0) × IsMoved from to m new)) passed made)))
