-- The sorted list is the one that is in order and stable: so whatever sorts stably gives it; insertion does, and goes run by run.
use Rattle.bz_passes.proofs.Words.{[], ◌++◌, ◌+◌, ◌∙◌, ◌∷◌, ◌≡◌, all_kept, AllAdjacentBelow, AllByRecursion, and_parts, answers_always, ap, append_assoc, arith, Bool, Bor, by_case, cases_Bool, Climbs, false, false_from_ne_true, filter, get_or, GivesTheOne, has_kind, if◌then◌else◌, inl, inr, insert_by, is_lt, is_run_load, IsAllAdjacentAnswer, IsSortedBy, IsSorting, IsSortingByRuns, IsStableBy, IsStrictWeakOrder, Kind as k, length, List, name_precedes, name_ranks, next_run, NoneBefore, not, not-true, one_run, Ordering, path_precedes, path_ranks, precedes, refl, Rises, sort_by, SortingIsTheOne, subst, suc, sym, symbol_precedes, ties, true, true≢false}
use Rattle.std.specs.Fn.{Called, ComparesAs, ComputesOnPairs}
use denote.Param.Members.{Mut}
use Rattle.bz_passes.proofs.Keeping.{both, same_first, same_after, all_joined}
use Rattle.bz_passes.proofs.Sorting.{insert_all, cut_at, run_sorted, compared, sort_same}
use Rattle.bz_passes.proofs.Ranks.{item_ranks, symbol_ranks}

module _ {X : Type 0} (lt : X → X → Bool) (o : IsStrictWeakOrder lt) where
  pub after_too : (x y : X) (zs : List X) → lt x y ≡ false → NoneBefore lt x zs → NoneBefore lt y zs
  after_too x y [] h a = tt
  after_too x y (z ∷ zs) h a = (o.chain z x y a.0 h, after_too x y zs h a.1)

  own : (x : X) → lt x x ≡ false
  own x = false_from_ne_true _ (λ t. true≢false (sym t ∙ o.one_way x x t))

  own_ties : (x : X) → ties lt x x ≡ true
  own_ties x = rw (own x) refl

  filtered : (Q : X → Type 0) (p : X → Bool) (y : X) (ys xs : List X) → AllByRecursion Q xs → filter p xs ≡ y ∷ ys → Q y
  filtered Q p y ys xs h e = (subst (AllByRecursion Q) e (all_kept Q p xs h)).0

  at_first : (p : X → Bool) (x : X) (xs : List X) → p x ≡ true → filter p (x ∷ xs) ≡ x ∷ filter p xs
  at_first p x xs h = rw h refl

  past_first : (p : X → Bool) (x : X) (xs : List X) → p x ≡ false → filter p (x ∷ xs) ≡ filter p xs
  past_first p x xs h = rw h refl

  cancel : (p : X → Bool) (x : X) (xs ys : List X) → filter p (x ∷ xs) ≡ filter p (x ∷ ys) → filter p xs ≡ filter p ys
  cancel p x xs ys e = elim (cases_Bool (p x)) [
    | inl t ↦ let e' : x ∷ filter p xs ≡ x ∷ filter p ys = rw t at e in same_after x x (filter p xs) (filter p ys) e'
    | inr f ↦ let e' : filter p xs ≡ filter p ys = rw f at e in e'
  ]

  tied : (x y : X) → lt x y ≡ false → lt y x ≡ false → ties lt x y ≡ true
  tied x y a b = rw (a, b) refl

  -- two lists in order with the same ties are one
  pub one_order : (xs ys : List X) → Rises lt xs → Rises lt ys → ((x : X) → filter (ties lt x) xs ≡ filter (ties lt x) ys) → xs ≡ ys
  one_order [] [] a b h = refl
  one_order [] (y ∷ ys) a b h = let e : [] ≡ y ∷ filter (ties lt y) ys = h y ∙ at_first (ties lt y) y ys (own_ties y) in cc
  one_order (x ∷ xs) [] a b h = let e : x ∷ filter (ties lt x) xs ≡ [] = sym (at_first (ties lt x) x xs (own_ties x)) ∙ h x in cc
  one_order (x ∷ xs) (y ∷ ys) a b h =
      let u : lt x y ≡ false = filtered (λ z. lt z y ≡ false) (ties lt x) x (filter (ties lt x) xs) (y ∷ ys) (own y, b.0) (sym (h x) ∙ at_first (ties lt x) x xs (own_ties x)) in
      let v : lt y x ≡ false = filtered (λ z. lt z x ≡ false) (ties lt y) y (filter (ties lt y) ys) (x ∷ xs) (own x, a.0) (h y ∙ at_first (ties lt y) y ys (own_ties y)) in
      let e : x ≡ y = same_first x y (filter (ties lt x) xs) (filter (ties lt x) ys) (sym (at_first (ties lt x) x xs (own_ties x)) ∙ (h x ∙ at_first (ties lt x) y ys (tied x y u v))) in
      both (λ z zs. z ∷ zs) e (one_order xs ys a.1 b.1 (λ z. cancel (ties lt z) y xs ys (ap (λ w. filter (ties lt z) (w ∷ xs)) (sym e) ∙ h z)))

  -- ---- insertion keeps the order

  insert_rises : (x : X) (ys : List X) → Rises lt ys → Rises lt (insert_by lt x ys)
  insert_rises x [] r = (tt, tt)
  insert_rises x (y ∷ ys) r =
      by_case (Rises lt) (lt y x) (y ∷ insert_by lt x ys) (x ∷ y ∷ ys)
      (λ t. (insert_all lt (λ z. lt z y ≡ false) x ys (o.one_way y x t) r.0, insert_rises x ys r.1)) (λ f. ((f, after_too y x ys f r.0), r))

  pub sort_rises : (xs : List X) → Rises lt (sort_by lt xs)
  sort_rises [] = tt
  sort_rises (x ∷ xs) = insert_rises x (sort_by lt xs) (sort_rises xs)

  -- ---- insertion is stable

  again : (p : X → Bool) (w : X) (us ws : List X) → filter p us ≡ filter p ws → filter p (w ∷ us) ≡ filter p (w ∷ ws)
  again p w us ws h = ap (λ zs. if p w then w ∷ zs else zs) h

  past : (p : X → Bool) (y w : X) (us ys : List X) → p y ≡ false → filter p us ≡ filter p (w ∷ ys) → filter p (y ∷ us) ≡ filter p (w ∷ y ∷ ys)
  past p y w us ys f h = past_first p y us f ∙ (h ∙ again p w ys (y ∷ ys) (sym (past_first p y ys f)))

  alone : (p : X → Bool) (y w : X) (us ys : List X) → p w ≡ false → filter p us ≡ filter p (w ∷ ys) → filter p (y ∷ us) ≡ filter p (w ∷ y ∷ ys)
  alone p y w us ys f h = again p y us ys (h ∙ past_first p w ys f) ∙ sym (past_first p w (y ∷ ys) f)

  -- the item does not tie with one that precedes it
  insert_stable : (x w : X) (ys : List X) → filter (ties lt x) (insert_by lt w ys) ≡ filter (ties lt x) (w ∷ ys)
  insert_stable x w [] = refl
  insert_stable x w (y ∷ ys) = let more : filter (ties lt x) (insert_by lt w ys) ≡ filter (ties lt x) (w ∷ ys) = insert_stable x w ys in elim (cases_Bool (lt y w)) [
    | inl t ↦ rw t (elim (cases_Bool (ties lt x y)) [
      | inl ty ↦ elim (cases_Bool (ties lt x w)) [
        | inl tw ↦ absurd (true≢false (sym t ∙ o.chain y x w (not-true (lt y x) (and_parts (not (lt x y)) (not (lt y x)) ty).1) (not-true (lt x w) (and_parts (not (lt x w)) (not (lt w x)) tw).0)))
        | inr tw ↦ alone (ties lt x) y w (insert_by lt w ys) ys tw more
      ]
      | inr ty ↦ past (ties lt x) y w (insert_by lt w ys) ys ty more
    ])
    | inr f ↦ rw f refl
  ]

  pub sort_stable : (xs : List X) (x : X) → filter (ties lt x) (sort_by lt xs) ≡ filter (ties lt x) xs
  sort_stable [] x = refl
  sort_stable (w ∷ ws) x = insert_stable x w (sort_by lt ws) ∙ again (ties lt x) w (sort_by lt ws) ws (sort_stable ws x)

  -- ---- what a sort of std ensures

  after_from : (x y : X) (ys : List X) → lt y x ≡ false → NoneBefore lt y ys → NoneBefore lt x (y ∷ ys)
  after_from x y ys h a = (h, after_too y x ys h a)

  begins_from : (x : X) (xs : List X) → IsSortedBy lt (x ∷ xs) → Rises lt xs → NoneBefore lt x xs
  begins_from x [] h r = tt
  begins_from x (y ∷ ys) h r = after_from x y ys (h 0 x (omega arith) (omega arith)) r.0

  rises_from : (xs : List X) → IsSortedBy lt xs → Rises lt xs
  rises_from [] h = tt
  rises_from (x ∷ xs) h =
      let r : Rises lt xs = rises_from xs (λ k d a b.
      let j : suc k + 1 ≡ suc (k + 1) = omega arith in
      subst (λ i. lt (get_or (x ∷ xs) i d) (get_or xs k d) ≡ false) j (h (suc k) d (omega arith) (omega arith))) in
      (begins_from x xs h r, r)

  pub the_one : (xs ys : List X) → IsSortedBy lt ys → IsStableBy lt xs ys → ys ≡ sort_by lt xs
  the_one xs ys s t = one_order ys (sort_by lt xs) (rises_from ys s) (sort_rises xs) (λ x. t x ∙ sym (sort_stable xs x))

  -- from the clauses of `sort_by`, whose closure answers `Less` just where lt holds
  pub from_sort_by : {F : Type 0} {g : Mut F (Bor X × (Bor X × Unit {0})) Ordering} {f : F} (xs ys : List X)
      → ((by : X → X → Bool) → IsStrictWeakOrder by → ComparesAs g by f → IsSortedBy by ys)
      → ((by : X → X → Bool) → IsStrictWeakOrder by → ComparesAs g by f → IsStableBy by xs ys)
      → ((h : F) (a : Bor X × (Bor X × Unit {0})) (r : Ordering) (h' : F) → Called g h a r h' → is_lt r ≡ lt a.0.now a.1.0.now)
      → ys ≡ sort_by lt xs
  from_sort_by {F} {g} {f} xs ys s t k =
      let c : ComparesAs g lt f = answers_always g (λ a r. is_lt r ≡ lt a.0.now a.1.0.now) f k in
      the_one xs ys (s lt o c) (t lt o c)

-- from the clause of `is_sorted_by`, whose closure answers as `before`
module _ {X : Type 0} (before : X → X → Bool) where
  climbs : (xs : List X) → AllAdjacentBelow (λ x y. true ≡ before x y) xs (length xs) → Climbs before xs
  climbs [] h = tt
  climbs (x ∷ []) h = tt
  climbs (x ∷ y ∷ ys) h = (
    sym (h 0 x (omega arith)),
    climbs (y ∷ ys) (λ k d l.
        let j : suc k + 1 ≡ suc (k + 1) = omega arith in
        subst (λ i. true ≡ before (get_or (y ∷ ys) k d) (get_or (x ∷ y ∷ ys) i d)) j (h (suc k) d (omega arith))),
  )

  answered : (xs : List X) (r : Bool) → IsAllAdjacentAnswer (λ x y b. b ≡ before x y) xs r → r ≡ true → Climbs before xs
  answered xs true h e = climbs xs h
  answered xs false h e = absurd (true≢false (sym e))

  pub answers_climb : {F : Type 0} {g : Mut F (Bor X × (Bor X × Unit {0})) Bool} {f : F} (xs : List X) (r : Bool)
      → ((e : X → X → Bool) → ComputesOnPairs g e f → IsAllAdjacentAnswer (λ x y b. b ≡ e x y) xs r)
      → ((h : F) (a : Bor X × (Bor X × Unit {0})) (b : Bool) (h' : F) → Called g h a b h' → b ≡ before a.0.now a.1.0.now)
      → r ≡ true → Climbs before xs
  answers_climb {F} {g} {f} xs r s k e = answered xs r (s before (answers_always g (λ a b. b ≡ before a.0.now a.1.0.now) f k)) e

-- ---- an order of all items

module _ {X : Type 0} (lt : X → X → Bool) (o : IsStrictWeakOrder lt) where
  sorts : (xs : List X) → IsSorting lt xs (sort_by lt xs)
  sorts xs = record { same = sort_same lt xs; ordered = sort_rises lt o xs; stable = sort_stable lt o xs }

  sorted_once : (xs ys : List X) → IsSorting lt xs ys → ys ≡ sort_by lt xs
  sorted_once xs ys h = one_order lt o ys (sort_by lt xs) h.ordered (sort_rises lt o xs) (λ x. h.stable x ∙ sym (sort_stable lt o xs x))

  pub sorting : GivesTheOne (IsSorting lt) (sort_by lt)
  sorting xs ys = (sorted_once xs ys, λ e. subst (IsSorting lt xs) (sym e) (sorts xs))

-- ---- an order of those that take part

module _ {X : Type 0} (p : X → Bool) (lt : X → X → Bool) (o : IsStrictWeakOrder lt) where
  abbrev TakePart : List X → Type 0
  TakePart xs = AllByRecursion (λ x. p x ≡ true) xs

  run_once : (xs ys : List X) → TakePart xs → IsSorting lt xs ys → ys ≡ sort_by (compared p lt) xs
  run_once xs ys a h = sorted_once lt o xs ys h ∙ sym (run_sorted p lt xs a)

  run_sorts : (xs : List X) → TakePart xs → IsSorting lt xs (sort_by (compared p lt) xs)
  run_sorts xs a = subst (IsSorting lt xs) (sym (run_sorted p lt xs a)) (sorts lt o xs)

  runs_once : (xs ys : List X) → IsSortingByRuns p lt xs ys → ys ≡ sort_by (compared p lt) xs
  runs_once xs ys (one_run a h) = run_once xs ys a h
  runs_once xs ys (next_run run ordered bar rest others e e' a h f more) =
      e'
      ∙ (ap (λ z. z ++ bar ∷ others) (run_once run ordered a h)
      ∙ (ap (λ z. sort_by (compared p lt) run ++ bar ∷ z) (runs_once rest others more)
      ∙ (sym (cut_at p lt run rest bar f) ∙ ap (sort_by (compared p lt)) (sym e))))

  -- after a run that has begun
  runs_from : (run rest : List X) → TakePart run → IsSortingByRuns p lt (run ++ rest) (sort_by (compared p lt) (run ++ rest))
  runs_from run [] a = let all : TakePart (run ++ []) = all_joined (λ y. p y ≡ true) run [] a tt in one_run all (run_sorts (run ++ []) all)
  runs_from run (x ∷ rest) a = elim (cases_Bool (p x)) [
    | inl t ↦ subst (λ z. IsSortingByRuns p lt z (sort_by (compared p lt) z)) (append_assoc run (x ∷ []) rest) (runs_from (run ++ x ∷ []) rest (all_joined (λ y. p y ≡ true) run (x ∷ []) a (t, tt)))
    | inr f ↦ next_run run (sort_by (compared p lt) run) x rest (sort_by (compared p lt) rest) refl (cut_at p lt run rest x f) a (run_sorts run a) f (runs_from [] rest tt)
  ]

  pub sorting_by_runs : GivesTheOne (IsSortingByRuns p lt) (sort_by (compared p lt))
  sorting_by_runs xs ys = (runs_once xs ys, λ e. subst (IsSortingByRuns p lt xs) (sym e) (runs_from [] xs tt))

-- ---- the orders of the passes

pub sorting_is_the_one : SortingIsTheOne
sorting_is_the_one = (
  sorting precedes item_ranks,
  sorting symbol_precedes symbol_ranks,
  sorting_by_runs (has_kind k.Named) name_precedes name_ranks,
  sorting_by_runs is_run_load path_precedes path_ranks,
)
