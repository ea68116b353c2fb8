-- Windows joined, and made wider by the loads that reach into them, hold all that they held; and what walks over windows have seen and done.
use Rattle.bz_passes.proofs.Words.{[], ◌++◌, ◌+◌, ◌-◌, ◌<◌, ◌||◌, ◌∙◌, ◌∷◌, ◌≡◌, ◌≤◌, all_joined, and_left, and_right, any_touched, ap, append_assoc, AreLoads, AreOver, AreSetApart, AreWithin, arith, begins_with_load, drop, drop-drop, drop_at, drop_more, ends_with_load, false, get_or, Item, length, length-append, length-drop, length-take-le, List, or_from, passed, put_mid, refl, slice_range, subst, suc, sym, take, take-add, take-take, take_at, tidied_over, touches, true, Window, zero, ℕ}
use Rattle.bz_passes.proofs.{Sorting.put_there, Keeping.both, Pieces.both_length}

-- the items after both windows
both_dropped : (n from more : ℕ) (sum : ℕ) (xs : List Item) → n + (from + more) ≡ sum → drop (from + more) (drop n xs) ≡ drop sum xs
both_dropped n from more sum xs e = drop-drop (from + more) n xs ∙ ap (λ m. drop m xs) e

-- two windows and the items between them
abbrev join : Window → Window → Window
join w v = all_joined w (v ∷ [])

join_within : (w v : Window) (ws : List Window) (items : List Item) → AreWithin (w ∷ v ∷ ws) items → AreWithin (join w v ∷ ws) items
join_within w v ws items h = (
  omega (arith, h.0, h.1.0, length-drop (w.from + w.come) items),
  subst (AreWithin ws) (both_dropped (w.from + w.come) v.from v.come (w.from + (w.come + v.from + v.come)) items (omega arith)) h.1.1,
)

join_over : (w v : Window) (ws : List Window) (before items : List Item) → AreOver (w ∷ v ∷ ws) before items → AreOver (join w v ∷ ws) before items
join_over w v ws before items h = (
  omega (arith, h.0, h.3.0, length-drop (w.from + w.gone) before),
  omega (arith, h.1, h.3.1, length-drop (w.from + w.come) items),
  h.2,
  subst (λ z. AreOver ws z (drop (w.from + (w.come + v.from + v.come)) items)) (both_dropped (w.from + w.gone) v.from v.gone (w.from + (w.gone + v.from + v.gone)) before (omega arith))
      (subst (AreOver ws (drop (v.from + v.gone) (drop (w.from + w.gone) before))) (both_dropped (w.from + w.come) v.from v.come (w.from + (w.come + v.from + v.come)) items (omega arith)) h.3.3),
)

pub joined_within : (w : Window) (vs : List Window) (items : List Item) → AreWithin (w ∷ vs) items → AreWithin (all_joined w vs ∷ []) items
joined_within w [] items h = h
joined_within w (v ∷ vs) items h = joined_within (join w v) vs items (join_within w v vs items h)

pub joined_over : (w : Window) (vs : List Window) (before items : List Item) → AreOver (w ∷ vs) before items → AreOver (all_joined w vs ∷ []) before items
joined_over w [] before items h = h
joined_over w (v ∷ vs) before items h = joined_over (join w v) vs before items (join_over w v vs before items h)

pub joined_apart : (windows others vs : List Window) (first all wide : Window) (items : List Item) → windows ≡ first ∷ vs → all ≡ all_joined first vs
    → AreSetApart (all ∷ []) (wide ∷ []) items → others ≡ wide ∷ [] → AreSetApart windows others items
joined_apart windows others vs first all wide items own e a new =
    let apart : AreSetApart (all ∷ []) others items = subst (λ ws. AreSetApart (all ∷ []) ws items) (sym new) a in
    record {
      within = apart.within;
      apart = apart.apart;
      over = λ before h. apart.over before
          (subst (λ w. AreOver (w ∷ []) before items) (sym e) (joined_over first vs before items (subst (λ ws. AreOver ws before items) own h)));
    }

-- a window that is wider, and what is before it and after it
module _ (w : Window) (start stop : ℕ) (items : List Item) (within : w.from + w.come ≤ length items) (first : start ≤ w.from) (last : w.from + w.come ≤ stop) (bound : stop ≤ length items) where
  abbrev pub wide : Window
  wide = record { from = start; gone = w.gone + ((stop - start) - w.come); come = stop - start }

  ends : start + (stop - start) ≡ stop
  ends = omega (arith, first, last)

  wide_over : (before : List Item) → AreOver (w ∷ []) before items → AreOver (wide ∷ []) before items
  wide_over before h =
      let more : ℕ = stop - (w.from + w.come) in
      let came : (w.from + w.come) + more ≡ start + (stop - start) = omega (arith, first, last) in
      let gone : (w.from + w.gone) + more ≡ start + (w.gone + ((stop - start) - w.come)) = omega (arith, first, last) in (
        omega (arith, first, last, bound, h.0, h.1, ap length h.3, length-drop (w.from + w.come) items, length-drop (w.from + w.gone) before),
        omega (arith, ends, bound),
        sym (take-take start w.from items first) ∙ (ap (take start) h.2 ∙ take-take start w.from before first),
        ap (λ n. drop n before) (sym gone)
            ∙ (sym (drop-drop more (w.from + w.gone) before) ∙ (ap (drop more) h.3 ∙ (drop-drop more (w.from + w.come) items ∙ ap (λ n. drop n items) came))),
      )

  pub wide_apart : ends_with_load (take start items) ≡ false → begins_with_load (drop stop items) ≡ false → AreSetApart (w ∷ []) (wide ∷ []) items
  wide_apart n m = record {
    within = (omega (arith, ends, bound), tt);
    apart = or_from (touches start items || touches (start + (stop - start)) items) false (or_from (touches start items) _ (and_left (ends_with_load (take start items)) _ n)
        (ap (λ k. touches k items) ends ∙ and_right (ends_with_load (take stop items)) _ m)) refl;
    over = wide_over;
  }

-- ---- where the loads at the end begin

one_load : (n : ℕ) (items : List Item) → suc n ≤ length items → ends_with_load (take (suc n) items) ≡ true → AreLoads (drop (suc n) items) → AreLoads (drop n items)
one_load n [] b h a = absurd (omega (arith, b))
one_load zero (y ∷ ys) b h a = (h, a)
one_load (suc n) (y ∷ []) b h a = absurd (omega (arith, b))
one_load (suc n) (y ∷ z ∷ ys) b h a = one_load n (z ∷ ys) (omega (arith, b)) h a

pub load_before : (at : ℕ) (items : List Item) → at ≤ length items → ends_with_load (take at items) ≡ true → AreLoads (drop at items) → AreLoads (drop (at - 1) items)
load_before zero items b h a = a
load_before (suc n) items b h a = subst (λ k. AreLoads (drop k items)) (omega arith) (one_load n items b h a)

pub before_all : (from start : ℕ) (items front : List Item) → from ≤ length items → front ≡ take from items → start ≤ length front → ends_with_load (take start front) ≡ false
    → (start ≤ from) × (ends_with_load (take start items) ≡ false)
before_all from start items front within is bound n =
    let below : start ≤ from = omega (arith, bound, ap length is, length-take-le from items within) in
    (below, ap ends_with_load (sym (ap (take start) is ∙ take-take start from items below)) ∙ n)

-- no load is sorted across a border at all, if not across one of the windows that are left
abbrev pub AreSeen : List Window → List Item → List Window → List Item → Type 0
AreSeen windows items others left = (length left ≤ length items) × AreWithin others left × (any_touched others left ≡ false → any_touched windows items ≡ false)

pub seen_more : (windows all : List Window) (items left rest : List Item) (i : ℕ) (d : Window) → i < length all → AreSeen windows items (drop i all) left → touches (get_or all i d).from left ≡ false
    → touches ((get_or all i d).from + (get_or all i d).come) left ≡ false → rest ≡ drop ((get_or all i d).from + (get_or all i d).come) left → AreSeen windows items (drop (i + 1) all) rest
seen_more windows all items left rest i d bound seen first last is =
    let w : Window = get_or all i d in
    let now : AreSeen windows items (w ∷ drop (i + 1) all) left = subst (λ ws. AreSeen windows items ws left) (drop_more all i d bound) seen in
    subst (AreSeen windows items (drop (i + 1) all)) (sym is)
    (omega (arith, now.0, ap length is, length-drop (w.from + w.come) left), now.1.1, λ h. now.2 (or_from (touches w.from left || touches (w.from + w.come) left) _ (or_from (touches w.from left) _ first last) h))

-- Up to a place all windows' items are tidied; what is left is to be tidied over the windows that are left.
pub record AreOnTheWay (whole : List Item) (left : List Window) (start : ℕ) (items : List Item) : Type 0 where
  pub bound : start ≤ length items
  pub within : AreWithin left (drop start items)
  pub made : take start items ++ tidied_over left (drop start items) ≡ whole

module _ (whole : List Item) (left : List Window) (w : Window) (start : ℕ) (items came : List Item) (way : AreOnTheWay whole (w ∷ left) start items) where
  abbrev stop : ℕ
  stop = start + w.from + w.come

  abbrev rest : List Item
  rest = drop start items

  abbrev middle : List Item
  middle = passed (take w.come (drop w.from rest))

  abbrev front : List Item
  front = take start items ++ (take w.from rest ++ middle)

  abbrev back : List Item
  back = drop (w.from + w.come) rest

  abbrev new : List Item
  new = put_mid (start + w.from) (stop - (start + w.from)) items came

  module _ (tidy : came ≡ passed (slice_range items (start + w.from) stop)) where
    slice_is : slice_range items (start + w.from) stop ≡ take w.come (drop w.from rest)
    slice_is = ap (λ n. take n (drop (start + w.from) items)) (omega arith) ∙ ap (take w.come) (sym (drop-drop w.from start items))

    back_is : drop stop items ≡ back
    back_is = ap (λ n. drop n items) (omega arith) ∙ sym (drop-drop (w.from + w.come) start items)

    parts : new ≡ front ++ back
    parts =
        put_there (start + w.from) stop items came _ (omega arith) tidy
        ∙ (both (λ z zs. z ++ passed zs ++ drop stop items) (take-add start w.from items) slice_is
        ∙ both (λ z zs. z ++ zs) (append_assoc (take start items) (take w.from rest) middle) back_is)

    front_length : length front ≡ stop
    front_length = omega (arith, length-append (take start items) (take w.from rest ++ middle), length-take-le start items way.bound, both_length w rest [] way.within.0)

    after_is : drop stop new ≡ back
    after_is = ap (drop stop) parts ∙ drop_at front back stop front_length

    -- the walk is past the window w, whose items were tidied
    pub one_further : AreOnTheWay whole left stop new
    one_further = record {
      bound = omega (arith, ap length parts, length-append front back, front_length);
      within = subst (AreWithin left) (sym after_is) way.within.1;
      made = both (λ z zs. z ++ tidied_over left zs) (ap (take stop) parts ∙ take_at front back stop front_length) after_is
          ∙ (append_assoc (take start items) (take w.from rest ++ middle) (tidied_over left back) ∙ way.made);
    }
