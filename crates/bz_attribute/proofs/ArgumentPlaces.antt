-- The first element of a list that passes a test, by its index.
use Rattle.bz_attribute.proofs.Words.{[], ◌++◌, ◌<◌, ◌∙◌, ◌∷◌, ◌≡◌, ◌≤◌, ap, arith, Bool, cond, drop, Expr, false, get_or, has_kind, insert, inserted, Kind as k, length, length-set, List, ltb-false, None, not, not-true, on_first_that, Option, position, position_or_len, refl, remove, set, slice_get, slice_set, Some, subst, suc, sym, take, true, unwrap_or, without_first, zero, ℕ}
use Rattle.std.proofs.{lemmas.List.Quantifiers.position-Some, lemmas.List.Sums.prefix_len_passes, lemmas.List.Edits.insert_end, Math.Seq.take-append_seam, lemmas.Option.get_or_from_slice_get}

-- i is the index of the first element that passes
pub record IsFirst {X : Type 0} (test : X → Bool) (xs : List X) (i : ℕ) : Type 0 where
  pub within : i < length xs
  pub passes : (d : X) → test (get_or xs i d) ≡ true
  pub others : (k : ℕ) (d : X) → k < i → test (get_or xs k d) ≡ false

pub is_first : {X : Type 0} (test : X → Bool) (xs : List X) (i : ℕ) (d : X) → Some i ≡ position test xs → IsFirst test xs i
is_first test xs i d h = record {
  within = (position-Some test xs i d (sym h)).0;
  passes = λ y. (position-Some test xs i y (sym h)).1;
  others = λ k y. (position-Some test xs i y (sym h)).2 k;
}

pub later : {X : Type 0} (test : X → Bool) (x : X) (xs : List X) (i : ℕ) → IsFirst test (x ∷ xs) (suc i) → IsFirst test xs i
later test x xs i h = record { within = omega (arith, h.within); passes = h.passes; others = λ k d l. h.others (suc k) d (omega arith) }

-- a write and a removal at that index
pub changed_at : {X : Type 0} (test : X → Bool) (change : X → X) (xs : List X) (i : ℕ) (d : X) → IsFirst test xs i → on_first_that test change xs ≡ set xs i (change (get_or xs i d))
changed_at test change [] i d h = absurd (omega (arith, h.within))
changed_at test change (x ∷ xs) zero d h = rw (h.passes x) refl
changed_at test change (x ∷ xs) (suc i) d h = rw (h.others 0 x (omega arith)) (ap (λ ys. x ∷ ys) (changed_at test change xs i d (later test x xs i h)))

pub removed_at : {X : Type 0} (test : X → Bool) (xs : List X) (i : ℕ) → IsFirst test xs i → without_first test xs ≡ remove xs i
removed_at test [] i h = absurd (omega (arith, h.within))
removed_at test (x ∷ xs) zero h = rw (h.passes x) refl
removed_at test (x ∷ xs) (suc i) h = rw (h.others 0 x (omega arith)) (ap (λ ys. x ∷ ys) (removed_at test xs i (later test x xs i h)))

-- no element passes
pub record NonePasses {X : Type 0} (test : X → Bool) (xs : List X) : Type 0 where
  pub all : (k : ℕ) (d : X) → k < length xs → test (get_or xs k d) ≡ false

at_end : (b : Bool) (i : ℕ) → cond b (Some i) None ≡ None → b ≡ false
at_end true i h = cc
at_end false i h = refl

pub none_passes : {X : Type 0} (test : X → Bool) (xs : List X) → None ≡ position test xs → NonePasses test xs
none_passes test xs h =
    let past : length xs ≤ position_or_len test xs = ltb-false (position_or_len test xs) (length xs) (at_end _ _ (sym h)) in
    record { all = λ k d l. not-true (test (get_or xs k d)) (prefix_len_passes (λ x. not (test x)) xs k d (omega arith)) }

pub none_later : {X : Type 0} (test : X → Bool) (x : X) (xs : List X) → NonePasses test (x ∷ xs) → NonePasses test xs
none_later test x xs h = record { all = λ k d l. h.all (suc k) d (omega arith) }

pub unchanged : {X : Type 0} (test : X → Bool) (change : X → X) (xs : List X) → NonePasses test xs → on_first_that test change xs ≡ xs
unchanged test change [] h = refl
unchanged test change (x ∷ xs) h = rw (h.all 0 x (omega arith)) (ap (λ ys. x ∷ ys) (unchanged test change xs (none_later test x xs h)))

unremoved : {X : Type 0} (test : X → Bool) (xs : List X) → NonePasses test xs → without_first test xs ≡ xs
unremoved test [] h = refl
unremoved test (x ∷ xs) h = rw (h.all 0 x (omega arith)) (ap (λ ys. x ∷ ys) (unremoved test xs (none_later test x xs h)))

-- ---- an argument before the first starred one

inserted_at : (argument : Expr) (xs : List Expr) (i : ℕ) → IsFirst (has_kind k.Star) xs i → inserted argument xs ≡ insert xs i argument
inserted_at argument [] i h = absurd (omega (arith, h.within))
inserted_at argument (x ∷ xs) zero h = rw (h.passes x) refl
inserted_at argument (x ∷ xs) (suc i) h = rw (h.others 0 x (omega arith)) (ap (λ ys. x ∷ ys) (inserted_at argument xs i (later (has_kind k.Star) x xs i h)))

inserted_last : (argument : Expr) (xs : List Expr) → NonePasses (has_kind k.Star) xs → inserted argument xs ≡ xs ++ argument ∷ []
inserted_last argument [] h = refl
inserted_last argument (x ∷ xs) h = rw (h.all 0 x (omega arith)) (ap (λ ys. x ∷ ys) (inserted_last argument xs (none_later (has_kind k.Star) x xs h)))

pub inserted_where : (argument : Expr) (xs : List Expr) → insert xs (unwrap_or (position (has_kind k.Star) xs) (length xs)) argument ≡ inserted argument xs
inserted_where argument xs = by (position (has_kind k.Star) xs) refl
  where
    by : (found : Option ℕ) → position (has_kind k.Star) xs ≡ found → insert xs (unwrap_or found (length xs)) argument ≡ inserted argument xs
    by None e = insert_end xs argument ∙ sym (inserted_last argument xs (none_passes (has_kind k.Star) xs (sym e)))
    by (Some at) e = sym (inserted_at argument xs at (is_first (has_kind k.Star) xs at argument (sym e)))

-- the first element that passes, changed in its place; and where none passes
pub changed_there : {X : Type 0} (test : X → Bool) (f : X → X) (xs : List X) (i : ℕ) (x new : X) → Some i ≡ position test xs → slice_get xs i ≡ Some x → new ≡ f x → slice_set xs i new ≡ on_first_that test f xs
changed_there test f xs i x new at there made =
    ap (slice_set xs i) (made ∙ ap f (sym (get_or_from_slice_get xs i x x there))) ∙ sym (changed_at test f xs i x (is_first test xs i x at))

pub changed_nowhere : {X : Type 0} (test : X → Bool) (f : X → X) (xs : List X) → None ≡ position test xs → xs ≡ on_first_that test f xs
changed_nowhere test f xs none = sym (unchanged test f xs (none_passes test xs none))

pub removed_there : {X : Type 0} (test : X → Bool) (xs : List X) (i : ℕ) → Some i ≡ position test xs → remove xs i ≡ without_first test xs
removed_there test [] i at = absurd cc
removed_there test (x ∷ xs) i at = sym (removed_at test (x ∷ xs) i (is_first test (x ∷ xs) i x at))

pub removed_nowhere : {X : Type 0} (test : X → Bool) (xs : List X) → None ≡ position test xs → xs ≡ without_first test xs
removed_nowhere test xs none = sym (unremoved test xs (none_passes test xs none))

-- a list in which the first element that passes was changed, written back
set_first : {X : Type 0} (test : X → Bool) (f : X → X) (xs : List X) (i : ℕ) (d : X) → i < length xs → test (get_or xs i d) ≡ true → set xs i (f (get_or xs i d)) ≡ take i xs ++ on_first_that test f (drop i xs)
set_first test f [] i d l t = absurd (omega (arith, l))
set_first test f (x ∷ xs) zero d l t = rw t refl
set_first test f (x ∷ xs) (suc i) d l t = ap (λ ys. x ∷ ys) (set_first test f xs i d (omega (arith, l)) t)

pub first_written : {X : Type 0} (test : X → Bool) (f : X → X) (xs all : List X) (i : ℕ) (d new : X) → length xs ≡ length all → i < length xs → test (get_or xs i d) ≡ true → new ≡ f (get_or xs i d)
    → take (length all) (set xs i new ++ drop (length (set xs i new)) all) ≡ take i xs ++ on_first_that test f (drop i xs)
first_written test f xs all i d new same l t made =
    let ys = set xs i new in
    subst (λ n. take n (ys ++ drop (length ys) all) ≡ ys) (length-set xs i new ∙ same) (take-append_seam ys (drop (length ys) all)) ∙ (ap (set xs i) made ∙ set_first test f xs i d l t)
