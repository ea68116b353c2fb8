-- Places by their numbers, and an item that is put in.
use Rattle.bz_load.proofs.Words.{[], ◌+◌, ◌-◌, ◌<◌, ◌||◌, ◌∙◌, ◌∷◌, ◌≡◌, ◌≤◌, AllByRecursion, ap, arith, Bool, cases_Bool, drop, false, find, get_or, if◌then◌else◌, inl, inr, insert, is_load_item, is_package_call, IsFirst, Item, Item as i, later, leading_blocks, length, length-remove, List, list_any, loads_end, map, move_package_to_top, None, none_later, NonePasses, option_map_or, or_parts, or_turn, package_moved, refl, remove, removed_at, Some, subst, suc, sym, true, true≢false, without_first, zero, ℕ}

-- ---- an item that is put in

pub any_put : {X : Type 0} (test : X → Bool) (n : ℕ) (new : X) (xs : List X) → list_any test (insert xs n new) ≡ (test new || list_any test xs)
any_put test zero new xs = refl
any_put test (suc n) new [] = refl
any_put test (suc n) new (x ∷ xs) = ap (λ z. test x || z) (any_put test n new xs) ∙ or_turn (test x) (test new) (list_any test xs)

pub all_put : {X : Type 0} (P : X → Type 0) (n : ℕ) (new : X) (xs : List X) → P new → AllByRecursion P xs → AllByRecursion P (insert xs n new)
all_put P zero new xs p h = (p, h)
all_put P (suc n) new [] p h = (p, tt)
all_put P (suc n) new (x ∷ xs) p h = (h.0, all_put P n new xs p h.1)

pub map_put : (f : Item → Item) (n : ℕ) (new : Item) (xs : List Item) → insert (map f xs) n (f new) ≡ map f (insert xs n new)
map_put f zero new xs = refl
map_put f (suc n) new [] = refl
map_put f (suc n) new (x ∷ xs) = ap (λ ys. f x ∷ ys) (map_put f n new xs)

-- it is the first that passes, where no other one does
pub found_put : (test : Item → Bool) (n : ℕ) (new : Item) (xs : List Item) → test new ≡ true → list_any test xs ≡ false → find test (insert xs n new) ≡ Some new
found_put test zero new xs is none = rw is refl
found_put test (suc n) new [] is none = rw is refl
found_put test (suc n) new (x ∷ xs) is none = let p = or_parts (test x) (list_any test xs) none in rw p.0 (found_put test n new xs is p.1)

pub left_put : (test : Item → Bool) (n : ℕ) (new : Item) (xs : List Item) → test new ≡ true → list_any test xs ≡ false → without_first test (insert xs n new) ≡ xs
left_put test zero new xs is none = rw is refl
left_put test (suc n) new [] is none = rw is refl
left_put test (suc n) new (x ∷ xs) is none = let p = or_parts (test x) (list_any test xs) none in rw p.0 (ap (λ ys. x ∷ ys) (left_put test n new xs is p.1))

-- ---- after the last load

-- the place, by whether the next item is a load
abbrev pub next_end : ℕ → ℕ → List Item → Bool → ℕ
next_end other passed xs b = loads_end (if b then passed + 1 else other) (passed + 1) xs

pub ends_other : (other passed : ℕ) (xs : List Item) → list_any is_load_item xs ≡ false → loads_end other passed xs ≡ other
ends_other other passed [] none = refl
ends_other other passed (x ∷ xs) none =
    let p = or_parts (is_load_item x) (list_any is_load_item xs) none in ap (next_end other passed xs) p.0 ∙ ends_other other (passed + 1) xs p.1

pub ends_alike : (other another passed : ℕ) (xs : List Item) → list_any is_load_item xs ≡ true → loads_end other passed xs ≡ loads_end another passed xs
ends_alike other another passed [] some = absurd (true≢false (sym some))
ends_alike other another passed (x ∷ xs) some = elim (cases_Bool (is_load_item x)) [
  | inl e ↦ ap (next_end other passed xs) e ∙ sym (ap (next_end another passed xs) e)
  | inr e ↦
      ap (next_end other passed xs) e
      ∙ (ends_alike other another (passed + 1) xs (sym (ap (λ z. z || list_any is_load_item xs) e) ∙ some) ∙ sym (ap (next_end another passed xs) e))
]

-- the item after which no load is left, if it is one
end_here : (other passed n : ℕ) (xs : List Item) (d : Item) → n < length xs → is_load_item (get_or xs n d) ≡ true
    → ((place : ℕ) → loads_end place (passed + suc n) (drop (suc n) xs) ≡ place) → loads_end other passed xs ≡ passed + suc n
end_here other passed n [] d lt is left = absurd (omega (arith, lt))
end_here other passed zero (x ∷ xs) d lt is left = ap (next_end other passed xs) is ∙ left (passed + 1)
end_here other passed (suc n) (x ∷ xs) d lt is left =
    let same : passed + 1 + suc n ≡ passed + suc (suc n) = omega arith in
    end_here (if is_load_item x then passed + 1 else other) (passed + 1) n xs d (omega (arith, lt)) is (λ place. subst (λ k. loads_end place k (drop (suc n) xs) ≡ place) (sym same) (left place)) ∙ same

pub last_load : (other at : ℕ) (xs : List Item) (x : Item) → 0 < at → at ≤ length xs → x ≡ get_or xs (at - 1) x → is_load_item x ≡ true
    → ((place : ℕ) → loads_end place at (drop at xs) ≡ place) → at ≡ loads_end other 0 xs
last_load other zero xs x some le is load left = absurd (omega (arith, some))
last_load other (suc n) xs x some le is load left =
    let place : suc n - 1 ≡ n = omega arith in
    let same : 0 + suc n ≡ suc n = omega arith in
    sym (end_here other 0 n xs x (omega (arith, le)) (ap (λ k. is_load_item (get_or xs k x)) (sym place) ∙ (ap is_load_item (sym is) ∙ load)) (λ e. ap (λ k. loads_end e k (drop (suc n) xs)) same ∙ left e) ∙ same)

-- ---- the first one that passes

pub first_at : {X : Type 0} (test : X → Bool) (xs : List X) (i : ℕ) → IsFirst test xs i → list_any test xs ≡ true
first_at test [] i h = absurd (omega (arith, h.within))
first_at test (x ∷ xs) zero h = ap (λ z. z || list_any test xs) (h.passes x)
first_at test (x ∷ xs) (suc i) h = ap (λ z. z || list_any test xs) (h.others 0 x (omega arith)) ∙ first_at test xs i (later test x xs i h)

pub none_any : {X : Type 0} (test : X → Bool) (xs : List X) → NonePasses test xs → list_any test xs ≡ false
none_any test [] h = refl
none_any test (x ∷ xs) h = ap (λ z. z || list_any test xs) (h.all 0 x (omega arith)) ∙ none_any test xs (none_later test x xs h)

first_found : (test : Item → Bool) (xs : List Item) (i : ℕ) (d : Item) → IsFirst test xs i → find test xs ≡ Some (get_or xs i d)
first_found test [] i d h = absurd (omega (arith, h.within))
first_found test (x ∷ xs) zero d h = rw (h.passes x) refl
first_found test (x ∷ xs) (suc i) d h = rw (h.others 0 x (omega arith)) (first_found test xs i d (later test x xs i h))

none_found : (test : Item → Bool) (xs : List Item) → NonePasses test xs → find test xs ≡ None
none_found test [] h = refl
none_found test (x ∷ xs) h = rw (h.all 0 x (omega arith)) (none_found test xs (none_later test x xs h))

-- ---- the package

pub no_package : (items : List Item) → NonePasses is_package_call items → items ≡ move_package_to_top items
no_package items h = sym (ap (λ found. option_map_or (package_moved items) found items) (none_found is_package_call items h))

blocks_before : (items : List Item) (from : ℕ) → IsFirst is_package_call items from → leading_blocks items ≤ from
blocks_before [] from h = omega arith
blocks_before (i.Stmt x ∷ items) from h = omega arith
blocks_before (i.Block lines ∷ items) zero h = absurd (true≢false (sym (h.passes (i.Block lines))))
blocks_before (i.Block lines ∷ items) (suc from) h = let rest = blocks_before items from (later is_package_call (i.Block lines) items from h) in omega arith

pub blocks_fit : (items rest read : List Item) (from blocks : ℕ) → IsFirst is_package_call items from → rest ≡ remove items from → read ≡ rest → blocks ≡ leading_blocks items
    → blocks ≤ length read
blocks_fit items rest read from blocks first left same is =
    let before = blocks_before items from first in
    let fewer = length-remove items from first.within in
    let long = ap length (same ∙ left) in
    omega (arith, before, fewer, long, is, first.within)

pub package_put : (items rest : List Item) (from blocks to : ℕ) (new : Item) → IsFirst is_package_call items from → new ≡ get_or items from new → rest ≡ remove items from
    → blocks ≡ leading_blocks items → to ≡ loads_end blocks 0 rest → insert rest to new ≡ move_package_to_top items
package_put items rest from blocks to new first is left b t =
    ap (λ n. insert rest n new) (t ∙ ap (λ n. loads_end n 0 rest) b)
    ∙ (ap (λ ys. insert ys (loads_end (leading_blocks items) 0 ys) new) (left ∙ sym (removed_at is_package_call items from first))
    ∙ sym (ap (λ found. option_map_or (package_moved items) found items) (first_found is_package_call items from new first ∙ ap Some (sym is))))
