-- Lists: what holds of each item and of each two, and lists that are cut in three.
use Rattle.bz_edit.proofs.Words.{[], ◌++◌, ◌+◌, ◌∙◌, ◌∷◌, ◌≡◌, ◌≤◌, AllByRecursion, ap, append_assoc, arith, drop, drop-drop, drop_at, EachPair, get_or_at, length, length-append, length-drop, length-take-le, List, map, refl, slice_get, slice_get_read, Some, sym, take, take-append-drop, take_at, ℕ}

-- ---- each item

pub for_each : {X : Type 0} (P : X → Type 0) → ((x : X) → P x) → (xs : List X) → AllByRecursion P xs
for_each P h [] = tt
for_each P h (x ∷ xs) = (h x, for_each P h xs)

pub each_weaker : {X : Type 0} (P Q : X → Type 0) → ((x : X) → P x → Q x) → (xs : List X) → AllByRecursion P xs → AllByRecursion Q xs
each_weaker P Q f [] h = tt
each_weaker P Q f (x ∷ xs) h = (f x h.0, each_weaker P Q f xs h.1)

pub each_both : {X : Type 0} (P Q : X → Type 0) (xs : List X) → AllByRecursion P xs → AllByRecursion Q xs → AllByRecursion (λ x. P x × Q x) xs
each_both P Q [] h k = tt
each_both P Q (x ∷ xs) h k = ((h.0, k.0), each_both P Q xs h.1 k.1)

pub each_map : {X Y : Type 0} (P : Y → Type 0) (f : X → Y) (xs : List X) → AllByRecursion (λ x. P (f x)) xs → AllByRecursion P (map f xs)
each_map P f [] h = tt
each_map P f (x ∷ xs) h = (h.0, each_map P f xs h.1)

pub each_append : {X : Type 0} (P : X → Type 0) (xs ys : List X) → AllByRecursion P xs → AllByRecursion P ys → AllByRecursion P (xs ++ ys)
each_append P [] ys h k = k
each_append P (x ∷ xs) ys h k = (h.0, each_append P xs ys h.1 k)

-- ---- each two

pub pairs_weaker : {X : Type 0} (R S : X → X → Type 0) → ((x y : X) → R x y → S x y) → (xs : List X) → EachPair R xs → EachPair S xs
pairs_weaker R S f [] h = tt
pairs_weaker R S f (x ∷ xs) h = (each_weaker (R x) (S x) (f x) xs h.0, pairs_weaker R S f xs h.1)

pub pairs_map : {X Y : Type 0} (R : X → X → Type 0) (S : Y → Y → Type 0) (f : X → Y) → ((x y : X) → R x y → S (f x) (f y)) → (xs : List X) → EachPair R xs → EachPair S (map f xs)
pairs_map R S f h [] r = tt
pairs_map R S f h (x ∷ xs) r = (each_map (S (f x)) f xs (each_weaker (R x) (λ y. S (f x) (f y)) (h x) xs r.0), pairs_map R S f h xs r.1)

-- the same, with what holds of each
pub pairs_given : {X : Type 0} (P : X → Type 0) (R : X → X → Type 0) (xs : List X) → AllByRecursion P xs → EachPair R xs → EachPair (λ x y. (P x × P y) × R x y) xs
pairs_given P R [] h r = tt
pairs_given P R (x ∷ xs) h r =
    (each_weaker (λ y. P y × R x y) (λ y. (P x × P y) × R x y) (λ y w. ((h.0, w.0), w.1)) xs (each_both P (R x) xs h.1 r.0), pairs_given P R xs h.1 r.1)

-- ---- lists in three pieces

pub get_seam : {X : Type 0} (a rest : List X) (x : X) (i : ℕ) → length a ≡ i → slice_get (a ++ x ∷ rest) i ≡ Some x
get_seam a rest x i e = slice_get_read (a ++ x ∷ rest) (length (a ++ x ∷ rest)) i x refl (omega (arith, length-append a (x ∷ rest))) (sym (get_or_at a x rest x i e))

pub seam : {X : Type 0} (a c b h : List X) (i k : ℕ) → length a ≡ i → length c ≡ k → take i (a ++ c ++ b) ++ h ++ drop (i + k) (a ++ c ++ b) ≡ a ++ h ++ b
seam a c b h i k la lc =
    let t : take i (a ++ c ++ b) ≡ a = ap (take i) (append_assoc a c b) ∙ take_at a (c ++ b) i la in
    let d : drop (i + k) (a ++ c ++ b) ≡ b = drop_at (a ++ c) b (i + k) (omega (arith, length-append a c)) in
    ap (λ z. z ++ h ++ drop (i + k) (a ++ c ++ b)) t ∙ ap (λ z. a ++ h ++ z) d

pub thirds : {X : Type 0} (i k : ℕ) (xs : List X) → take i xs ++ take k (drop i xs) ++ drop (i + k) xs ≡ xs
thirds i k xs =
    append_assoc (take i xs) (take k (drop i xs)) (drop (i + k) xs) ∙ ap (λ t. take i xs ++ (take k (drop i xs) ++ t)) (sym (drop-drop k i xs))
    ∙ ap (λ t. take i xs ++ t) (take-append-drop k (drop i xs)) ∙ take-append-drop i xs

pub third_length : {X : Type 0} (i k : ℕ) (xs : List X) → i + k ≤ length xs → length (take k (drop i xs)) ≡ k
third_length i k xs fits = length-take-le k (drop i xs) (omega (arith, length-drop i xs))
