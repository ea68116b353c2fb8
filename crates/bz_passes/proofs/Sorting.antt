-- What stable sorting leaves, keeps and passes on; and what no item passes cuts a list, and each piece is sorted by itself.
use Rattle.bz_passes.proofs.Words.{[], ◌&&◌, ◌++◌, ◌+◌, ◌-◌, ◌<◌, ◌∙◌, ◌∷◌, ◌≡◌, ◌≤◌, All-from_recursion, All-permutation, AllByRecursion, and_left, and_parts, and_right, ap, append-nil, append_assoc, ap₂, arith, Bool, by_case, by_test, cases_Bool, Climbs, drop, drop-drop, drop_all, drop_at, drop_more, false, get_or, if◌then◌else◌, inl, inr, insert_by, IsPermutation, IsPermutation-cons, IsPermutation-middle, IsPermutation-refl, IsPermutation-trans, IsStrictWeakOrder, length, length-append, length-take-le, length_permutation, List, map, not, not-true, on_rest, put_mid, recursion_from_All, refl, slice_range, sort_by, subst, sum_by, sum_by-IsPermutation, sym, take, take-append-drop, take_all, take_at, total, true, ℕ}
use Rattle.std.proofs.{lemmas.List.Sums.sum_by-cons, lemmas.List.Edits.length-between}
use Rattle.bz_passes.proofs.Keeping.{Keeps, Settles, both, same_first, same_after}

-- ---- items that change places

module _ {X : Type 0} (number : X → ℕ) where
  as_sum : (xs : List X) → total number xs ≡ sum_by number xs
  as_sum [] = refl
  as_sum (x ∷ xs) = ap (λ n. number x + n) (as_sum xs) ∙ sym (sum_by-cons number x xs)

  pub permuted_total : (xs ys : List X) → IsPermutation xs ys → total number ys ≡ total number xs
  permuted_total xs ys h = as_sum ys ∙ sum_by-IsPermutation number xs ys h ∙ sym (as_sum xs)

module _ {X : Type 0} (lt : X → X → Bool) where
  -- ---- the same items
  insert_same : (x : X) (ys : List X) → IsPermutation (x ∷ ys) (insert_by lt x ys)
  insert_same x [] = IsPermutation-refl (x ∷ [])
  insert_same x (y ∷ ys) =
      by_test (IsPermutation (x ∷ y ∷ ys)) (lt y x) (y ∷ insert_by lt x ys) (x ∷ y ∷ ys)
      (IsPermutation-trans (x ∷ y ∷ ys) (y ∷ x ∷ ys) (y ∷ insert_by lt x ys) (IsPermutation-middle (x ∷ []) y ys) (IsPermutation-cons y (x ∷ ys) (insert_by lt x ys) (insert_same x ys)))
      (IsPermutation-refl (x ∷ y ∷ ys))

  pub sort_same : (xs : List X) → IsPermutation xs (sort_by lt xs)
  sort_same [] = IsPermutation-refl []
  sort_same (x ∷ xs) = IsPermutation-trans (x ∷ xs) (x ∷ sort_by lt xs) (insert_by lt x (sort_by lt xs)) (IsPermutation-cons x xs (sort_by lt xs) (sort_same xs)) (insert_same x (sort_by lt xs))

  -- so what holds of each item, how many there are and sums stay
  pub insert_all : (P : X → Type 0) (x : X) (xs : List X) → P x → AllByRecursion P xs → AllByRecursion P (insert_by lt x xs)
  insert_all P x xs a b = recursion_from_All P (insert_by lt x xs) (All-permutation P (x ∷ xs) (insert_by lt x xs) (insert_same x xs) (All-from_recursion P (x ∷ xs) (a, b)))

  pub sort_all : (P : X → Type 0) (xs : List X) → AllByRecursion P xs → AllByRecursion P (sort_by lt xs)
  sort_all P xs h = recursion_from_All P (sort_by lt xs) (All-permutation P xs (sort_by lt xs) (sort_same xs) (All-from_recursion P xs h))

  pub sort_length : (xs : List X) → length (sort_by lt xs) ≡ length xs
  sort_length xs = length_permutation xs (sort_by lt xs) (sort_same xs)

  pub sort_total : (n : X → ℕ) (xs : List X) → total n (sort_by lt xs) ≡ total n xs
  sort_total n xs = permuted_total n xs (sort_by lt xs) (sort_same xs)

  -- ---- sorted lists
  abbrev pub Starts : X → List X → Type 0
  Starts x [] = Unit {0}
  Starts x (y ∷ ys) = lt y x ≡ false

  abbrev pub Ordered : List X → Type 0
  Ordered [] = Unit {0}
  Ordered (x ∷ xs) = Starts x xs × Ordered xs

  pub insert_starts : (x : X) (xs : List X) → Starts x xs → insert_by lt x xs ≡ x ∷ xs
  insert_starts x [] s = refl
  insert_starts x (y ∷ ys) s = rw s refl

  pub ordered_stays : (xs : List X) → Ordered xs → sort_by lt xs ≡ xs
  ordered_stays [] o = refl
  ordered_stays (x ∷ xs) o = ap (insert_by lt x) (ordered_stays xs o.1) ∙ insert_starts x xs o.0

  pub ordered_by : (xs : List X) → Climbs (λ x y. not (lt y x)) xs → Ordered xs
  ordered_by [] c = tt
  ordered_by (x ∷ []) c = (tt, tt)
  ordered_by (x ∷ y ∷ ys) c = (not-true (lt y x) c.0, ordered_by (y ∷ ys) c.1)

  pub climbs_by : (xs : List X) → Ordered xs → Climbs (λ x y. not (lt y x)) xs
  climbs_by [] o = tt
  climbs_by (x ∷ []) o = tt
  climbs_by (x ∷ y ∷ ys) o = (ap not o.0, climbs_by (y ∷ ys) o.1)

  pub climbs_stays : (xs : List X) → Climbs (λ x y. not (lt y x)) xs → sort_by lt xs ≡ xs
  climbs_stays xs c = ordered_stays xs (ordered_by xs c)

  module _ (one_way : (x y : X) → lt x y ≡ true → lt y x ≡ false) where
    starts_insert : (z x : X) (ys : List X) → lt x z ≡ false → Starts z ys → Starts z (insert_by lt x ys)
    starts_insert z x [] a s = a
    starts_insert z x (y ∷ ys) a s = by_test (Starts z) (lt y x) (y ∷ insert_by lt x ys) (x ∷ y ∷ ys) s a

    insert_ordered : (x : X) (ys : List X) → Ordered ys → Ordered (insert_by lt x ys)
    insert_ordered x [] o = (tt, tt)
    insert_ordered x (y ∷ ys) o =
        by_case Ordered (lt y x) (y ∷ insert_by lt x ys) (x ∷ y ∷ ys) (λ t. (starts_insert y x ys (one_way y x t) o.0, insert_ordered x ys o.1)) (λ f. (f, o))

    pub sort_ordered : (xs : List X) → Ordered (sort_by lt xs)
    sort_ordered [] = tt
    sort_ordered (x ∷ xs) = insert_ordered x (sort_by lt xs) (sort_ordered xs)

    pub sort_settles : Settles (sort_by lt)
    sort_settles xs = ordered_stays (sort_by lt xs) (sort_ordered xs)

  -- ---- what a sort keeps
  insert_fixed : (p : X → X) (x : X) (xs : List X) → p x ≡ x → map p xs ≡ xs → map p (insert_by lt x xs) ≡ insert_by lt x xs
  insert_fixed p x [] a b = ap (λ z. z ∷ []) a
  insert_fixed p x (y ∷ ys) a b =
      by_test (λ zs. map p zs ≡ zs) (lt y x) (y ∷ insert_by lt x ys) (x ∷ y ∷ ys)
      (both (λ z zs. z ∷ zs) (same_first (p y) y (map p ys) ys b) (insert_fixed p x ys a (same_after (p y) y (map p ys) ys b)))
      (both (λ z zs. z ∷ zs) a b)

  pub sort_keeps : (p : X → X) → Keeps (sort_by lt) (map p)
  sort_keeps p [] e = refl
  sort_keeps p (x ∷ xs) e = insert_fixed p x (sort_by lt xs) (same_first (p x) x (map p xs) xs e) (sort_keeps p xs (same_after (p x) x (map p xs) xs e))

  -- ---- changes that the order does not see
  module _ (g : X → X) (unseen : (x y : X) → lt (g x) (g y) ≡ lt x y) where
    insert_map : (x : X) (xs : List X) → insert_by lt (g x) (map g xs) ≡ map g (insert_by lt x xs)
    insert_map x [] = refl
    insert_map x (y ∷ ys) = elim (cases_Bool (lt y x)) [
      | inl t ↦ rw (unseen y x, t) (ap (λ z. g y ∷ z) (insert_map x ys))
      | inr f ↦ rw (unseen y x, f) refl
    ]

    pub sort_map : (xs : List X) → sort_by lt (map g xs) ≡ map g (sort_by lt xs)
    sort_map [] = refl
    sort_map (x ∷ xs) = ap (insert_by lt (g x)) (sort_map xs) ∙ insert_map x (sort_by lt xs)

    pub map_keeps_sort : Keeps (map g) (sort_by lt)
    map_keeps_sort xs e = sort_map xs ∙ ap (map g) e

-- ---- items of which only those that pass a test are compared

module _ {X : Type 0} (p : X → Bool) (lt : X → X → Bool) where
  abbrev pub compared : X → X → Bool
  compared x y = p x && p y && lt x y

  pub compared_one_way : IsStrictWeakOrder lt → (x y : X) → compared x y ≡ true → compared y x ≡ false
  compared_one_way o x y h = and_right (p y && p x) (lt y x) (o.one_way x y (and_parts (p x && p y) (lt x y) h).1)

-- what a slice of a list became, in the list
pub put_there : {X : Type 0} (from at : ℕ) (items ys new : List X) → from ≤ at → ys ≡ new → put_mid from (at - from) items ys ≡ take from items ++ new ++ drop at items
put_there from at items ys new a e =
    let stop : from + (at - from) ≡ at = omega (arith, a) in
    ap₂ (λ zs z. take from items ++ (zs ++ z)) e (drop-drop (at - from) from items ∙ ap (λ k. drop k items) stop) ∙ sym (append_assoc (take from items) new (drop at items))

-- what all but the first of a list became, in the list
pub rest_put : {X : Type 0} (f : List X → List X) (items ys : List X) → 1 ≤ length items → ys ≡ f (slice_range items 1 (length items)) → put_mid 1 (length items - 1) items ys ≡ on_rest f items
rest_put f [] ys b e = absurd (omega (arith, b))
rest_put f (x ∷ xs) ys b e =
    let own : slice_range (x ∷ xs) 1 (length (x ∷ xs)) ≡ xs = take_all (length (x ∷ xs) - 1) xs (omega arith) in
    put_there 1 (length (x ∷ xs)) (x ∷ xs) ys (f xs) b (e ∙ ap f own)
    ∙ (ap (λ z. x ∷ (f xs ++ z)) (drop_all (length (x ∷ xs)) (x ∷ xs) (omega arith)) ∙ ap (λ z. x ∷ z) (append-nil (f xs)))

module _ {X : Type 0} (lt : X → X → Bool) (bar : X) (before : (x : X) → lt bar x ≡ false) (following : (x : X) → lt x bar ≡ false) where
  insert_bar : (ys : List X) → insert_by lt bar ys ≡ bar ∷ ys
  insert_bar [] = refl
  insert_bar (y ∷ ys) = rw (following y) refl

  insert_front : (x : X) (xs ys : List X) → insert_by lt x (xs ++ bar ∷ ys) ≡ insert_by lt x xs ++ bar ∷ ys
  insert_front x [] ys = rw (before x) refl
  insert_front x (z ∷ zs) ys = elim (cases_Bool (lt z x)) [
    | inl t ↦ rw t (ap (λ vs. z ∷ vs) (insert_front x zs ys))
    | inr f ↦ rw f refl
  ]

  sort_cut : (xs ys : List X) → sort_by lt (xs ++ bar ∷ ys) ≡ sort_by lt xs ++ bar ∷ sort_by lt ys
  sort_cut [] ys = insert_bar (sort_by lt ys)
  sort_cut (x ∷ xs) ys = ap (insert_by lt x) (sort_cut xs ys) ∙ insert_front x (sort_by lt xs) (sort_by lt ys)

-- ---- items of which only those that pass a test are compared

module _ {X : Type 0} (p : X → Bool) (lt : X → X → Bool) where
  -- an item that doesn't pass it cuts
  pub cut_at : (run rest : List X) (bar : X) → p bar ≡ false → sort_by (compared p lt) (run ++ bar ∷ rest) ≡ sort_by (compared p lt) run ++ bar ∷ sort_by (compared p lt) rest
  cut_at run rest bar f =
      sort_cut (compared p lt) bar (λ x. and_left (p bar && p x) (lt bar x) (and_left (p bar) (p x) f)) (λ x. and_left (p x && p bar) (lt x bar) (and_right (p x) (p bar) f)) run rest

  inserted : (x : X) (ys : List X) → p x ≡ true → AllByRecursion (λ y. p y ≡ true) ys → insert_by (compared p lt) x ys ≡ insert_by lt x ys
  inserted x [] a h = refl
  inserted x (y ∷ ys) a h = rw (a, h.0) (ap (λ vs. if lt y x then y ∷ vs else x ∷ y ∷ ys) (inserted x ys a h.1))

  -- a run whose items all pass the test is sorted by the order alone
  pub run_sorted : (xs : List X) → AllByRecursion (λ x. p x ≡ true) xs → sort_by (compared p lt) xs ≡ sort_by lt xs
  run_sorted [] h = refl
  run_sorted (x ∷ xs) h = ap (insert_by (compared p lt) x) (run_sorted xs h.1) ∙ inserted x (sort_by lt xs) h.0 (sort_all lt (λ y. p y ≡ true) xs h.1)

  pub none_yet : (items : List X) (at : ℕ) → AllByRecursion (λ y. p y ≡ true) (slice_range items at at)
  none_yet items at = let none : 0 ≡ at - at = omega arith in subst (λ n. AllByRecursion (λ y. p y ≡ true) (take n (drop at items))) none tt

  -- the item after a run ends it, and the run was sorted
  pub run_out : (items ys whole : List X) (from at : ℕ) (x : X) → from ≤ at → at < length items → x ≡ get_or items at x → p x ≡ false
      → ys ≡ sort_by (compared p lt) (slice_range items from at) → take from items ++ sort_by (compared p lt) (drop from items) ≡ whole
      → take (at + 1) (put_mid from (at - from) items ys) ++ sort_by (compared p lt) (drop (at + 1) (put_mid from (at - from) items ys)) ≡ whole
  run_out items ys whole from at x a b is f n h =
      let run : List X = slice_range items from at in
      let left : List X = drop (at + 1) items in
      let sorted : List X = sort_by (compared p lt) run in
      let front : List X = (take from items ++ sorted) ++ x ∷ [] in
      let rest : drop at items ≡ x ∷ left = drop_more items at x b ∙ ap (λ z. z ∷ left) (sym is) in
      let sum : from + (at - from) ≡ at = omega (arith, a) in
      let cut : drop from items ≡ run ++ x ∷ left =
      sym (take-append-drop (at - from) (drop from items)) ∙ ap (λ z. run ++ z) (drop-drop (at - from) from items ∙ (ap (λ k. drop k items) sum ∙ rest)) in
      let before : length (take from items) ≡ from = length-take-le from items (omega (arith, a, b)) in
      let many : length front ≡ at + 1 =
      omega (arith, sum, before, length-append (take from items ++ sorted) (x ∷ []), length-append (take from items) sorted, sort_length (compared p lt) run, length-between items from at (omega (arith, b))) in
      let parts : put_mid from (at - from) items ys ≡ front ++ left =
      put_there from at items ys sorted a n ∙ (ap (λ z. take from items ++ sorted ++ z) rest ∙ sym (append_assoc (take from items ++ sorted) (x ∷ []) left)) in
      ap (λ z. take (at + 1) z ++ sort_by (compared p lt) (drop (at + 1) z)) parts
      ∙ (ap₂ (λ z zs. z ++ sort_by (compared p lt) zs) (take_at front left (at + 1) many) (drop_at front left (at + 1) many)
      ∙ (append_assoc (take from items ++ sorted) (x ∷ []) (sort_by (compared p lt) left)
      ∙ (append_assoc (take from items) sorted (x ∷ sort_by (compared p lt) left)
      ∙ (ap (λ z. take from items ++ z) (sym (ap (sort_by (compared p lt)) cut ∙ cut_at run left x f)) ∙ h))))
