-- Places of what is put among arguments and among items.
use Rattle.bz_load.proofs.Words.{[], ◌++◌, ◌+◌, ◌-◌, ◌<◌, ◌||◌, ◌∙◌, ◌∷◌, ◌≡◌, ◌≤◌, ap, append_assoc, arith, Bool, both, Bytes, call_made, codes, cond, drop, drop_more, Expr, false, get_or, get_or_default, get_or_from_slice_get, if_false, if_true, insert, is_statement_of, is_use_of, IsLastAt, Item, Item as i, Kind as k, length, List, list_any, ltb-false, name, nat_lt, node, None, not, on_call_arguments, on_last, or-true, or_parts, position, position_or_len, refl, sequence, set_split, slice_get, slice_set, Some, suc, sym, Symbol, take, take_more, true, unwrap_or, with_import, with_repo, zero, ℕ}
use Rattle.std.proofs.lemmas.List.Sums.{prefix_len-le-length}

place_given : (b : Bool) (n all : ℕ) → nat_lt n all ≡ b → n ≤ all → unwrap_or (cond b (Some n) None) all ≡ n
place_given true n all e h = refl
place_given false n all e h = let past : all ≤ n = ltb-false n all e in omega (arith, past, h)

-- what is put where the first element is that passes, else last
pub string_put : {X : Type 0} (test : X → Bool) (xs : List X) (new : X) → insert xs (unwrap_or (position test xs) (length xs)) new ≡ insert xs (position_or_len test xs) new
string_put test xs new =
    ap (λ n. insert xs n new) (place_given (nat_lt (position_or_len test xs) (length xs)) (position_or_len test xs) (length xs) refl (prefix_len-le-length (λ x. not (test x)) xs))

-- ---- the last element that passes

later : {X : Type 0} (test : X → Bool) (x : X) (xs : List X) (at : ℕ) → IsLastAt test (x ∷ xs) (suc at) → IsLastAt test xs at
later test x xs at h = record { within = omega (arith, h.within); passes = h.passes; others = h.others }

module _ {X : Type 0} (test : X → Bool) (xs : List X) (end : ℕ) (x : X) (some : 0 < end) (within : end ≤ length xs) (is : x ≡ get_or xs (end - 1) x) (none : list_any test (drop end xs) ≡ false) where
  abbrev place : ℕ
  place = end - 1

  next : suc place ≡ end
  next = omega (arith, some)

  inside : place < length xs
  inside = omega (arith, within, some)

  -- seen from the back, the first that passes is the last
  pub last_found : test x ≡ true → IsLastAt test xs (end - 1)
  last_found passes = record {
    within = inside;
    passes = λ d. ap test (get_or_default xs place d x inside ∙ sym is) ∙ passes;
    others = ap (λ n. list_any test (drop n xs)) next ∙ none;
  }

  pub none_before : test x ≡ false → list_any test (drop (end - 1) xs) ≡ false
  none_before passes =
      ap (list_any test) (drop_more xs place x inside)
      ∙ (ap (λ y. test y || list_any test (drop (place + 1) xs)) (sym is)
      ∙ (ap (λ z. z || list_any test (drop (place + 1) xs)) passes ∙ ap (λ n. list_any test (drop n xs)) (one_more place ∙ next) ∙ none))
    where
      one_more : (n : ℕ) → n + 1 ≡ suc n
      one_more n = omega arith

pub last_passes : {X : Type 0} (test : X → Bool) (xs : List X) (at : ℕ) → IsLastAt test xs at → list_any test xs ≡ true
last_passes test [] at h = absurd (omega (arith, h.within))
last_passes test (x ∷ xs) zero h = ap (λ z. z || list_any test xs) (h.passes x)
last_passes test (x ∷ xs) (suc at) h = ap (λ z. test x || z) (last_passes test xs at (later test x xs at h)) ∙ or-true (test x)

last_becomes : {X : Type 0} (test : X → Bool) (change : X → List X) (xs : List X) (at : ℕ) (d : X) → IsLastAt test xs at
    → on_last test change xs ≡ take at xs ++ (change (get_or xs at d) ++ drop (suc at) xs)
last_becomes test change [] at d h = absurd (omega (arith, h.within))
last_becomes test change (x ∷ xs) zero d h = rw (h.others, h.passes x) refl
last_becomes test change (x ∷ xs) (suc at) d h =
    rw (last_passes test xs at (later test x xs at h)) (ap (λ ys. x ∷ ys) (last_becomes test change xs at d (later test x xs at h)))

pub none_changed : {X : Type 0} (test : X → Bool) (change : X → List X) (xs : List X) → list_any test xs ≡ false → on_last test change xs ≡ xs
none_changed test change [] h = refl
none_changed test change (x ∷ xs) h = let p = or_parts (test x) (list_any test xs) h in rw (p.1, p.0) refl

-- it is written over, or another one is put after it
pub last_written : {X : Type 0} (test : X → Bool) (f : X → X) (xs : List X) (at : ℕ) (x new : X) → IsLastAt test xs at → slice_get xs at ≡ Some x → new ≡ f x → slice_set xs at new ≡ on_last test (λ y. f y ∷ []) xs
last_written test f xs at x new h there made =
    let same : get_or xs at x ≡ x = get_or_from_slice_get xs at x x there in
    set_split xs at new h.within
    ∙ (ap (λ y. take at xs ++ y ∷ drop (suc at) xs) (made ∙ ap f (sym same)) ∙ sym (last_becomes test (λ y. f y ∷ []) xs at x h))

pub last_followed : {X : Type 0} (test : X → Bool) (xs : List X) (at : ℕ) (new : X) → IsLastAt test xs at → insert xs (at + 1) new ≡ on_last test (λ y. y ∷ new ∷ []) xs
last_followed test xs at new h =
    ap (λ ys. ys ++ new ∷ drop (at + 1) xs) (take_more xs at new h.within)
    ∙ (append_assoc (take at xs) (get_or xs at new ∷ []) (new ∷ drop (at + 1) xs)
    ∙ (ap (λ n. take at xs ++ get_or xs at new ∷ new ∷ drop n xs) (one_more at) ∙ sym (last_becomes test (λ y. y ∷ new ∷ []) xs at new h)))
  where
    one_more : (n : ℕ) → n + 1 ≡ suc n
    one_more n = omega arith

-- ---- an import more

pub last_within : {X : Type 0} (test : X → Bool) (xs : List X) (at : ℕ) → IsLastAt test xs at → at < length xs
last_within test xs at h = h.within

-- a new call, part by part
pub call_given : (variable : Bytes) (word : Symbol) (own : Expr) (first arguments : List Expr) (named : Expr) (function : List Expr) (call : Expr) (row : List Expr) (x : Expr) → own ≡ name variable → first ≡ own ∷ []
    → arguments ≡ with_import word first → named ≡ name (codes "use_repo") → function ≡ named ∷ [] → call ≡ sequence k.Call function arguments → row ≡ call ∷ [] → x ≡ node k.Bare row → i.Stmt x ≡ call_made variable word
call_given variable word own first arguments named function call row x o f a n g c r e =
    ap i.Stmt
    (e
    ∙ ap (node k.Bare)
    (r ∙ ap (λ y. y ∷ []) (c ∙ both (sequence k.Call) (g ∙ ap (λ y. y ∷ []) n) (a ∙ ap (with_import word) (f ∙ ap (λ y. y ∷ []) o)))))

module _ (variable : Bytes) (word : Symbol) (items : List Item) where
  abbrev into : List Item
  into = on_last (is_use_of variable) (λ item. on_call_arguments (with_import word) item ∷ []) items

  abbrev below : List Item
  below = on_last (is_statement_of variable) (λ item. item ∷ call_made variable word ∷ []) items

  pub into_call : (at : ℕ) (x new : Item) → IsLastAt (is_use_of variable) items at → slice_get items at ≡ Some x → new ≡ on_call_arguments (with_import word) x → slice_set items at new ≡ with_repo variable word items
  into_call at x new h there made =
      last_written (is_use_of variable) (on_call_arguments (with_import word)) items at x new h there made ∙ sym (if_true (list_any (is_use_of variable) items) into below (last_passes (is_use_of variable) items at h))

  pub below_last : (at : ℕ) (call : Item) → list_any (is_use_of variable) items ≡ false → IsLastAt (is_statement_of variable) items at → call ≡ call_made variable word → insert items (at + 1) call ≡ with_repo variable word items
  below_last at call none h made =
      ap (insert items (at + 1)) made ∙ (last_followed (is_statement_of variable) items at (call_made variable word) h ∙ sym (if_false (list_any (is_use_of variable) items) into below none))

  pub neither : list_any (is_use_of variable) items ≡ false → list_any (is_statement_of variable) items ≡ false → items ≡ with_repo variable word items
  neither none off =
      sym (if_false (list_any (is_use_of variable) items) into below none ∙ none_changed (is_statement_of variable) (λ item. item ∷ call_made variable word ∷ []) items off)
