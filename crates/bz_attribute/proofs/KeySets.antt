-- A set of keys: what is found in it, and what it has after one key more.
use Rattle.bz_attribute.proofs.Words.{[], ◌||◌, ◌∙◌, ◌∷◌, ◌≡◌, ℕ, ap, Bool, BTreeSet, Bytes, bytes_eq, bytes_eq-Decides, false, is_eq, List, list_any, map, nat_cmp, refl, sym, true, Vec}
use Rattle.std.specs.{declared.cmp.Ordering.Ordering, declared.cmp.Ordering.TheVariants.Less, declared.cmp.Ordering.TheVariants.Equal, declared.cmp.Ordering.TheVariants.Greater, Ordering.match_ordering, Cmp.Lexicographic.slice_cmp, BTreeMap.is_at, BTreeSet.insert_key, declared.alloc.Global.Global}
use Rattle.std.proofs.lemmas.Map.Text.{is_eq-slice_cmp}
use Rattle.bz_attribute.specs.Sets.{texts_of}

-- ---- any of a list

pub any_map : {K T : Type 0} (test : T → Bool) (view : K → T) (keys : List K) → list_any test (map view keys) ≡ list_any (λ key. test (view key)) keys
any_map test view [] = refl
any_map test view (key ∷ keys) = ap (λ z. test (view key) || z) (any_map test view keys)

pub any_like : {K : Type 0} (one other : K → Bool) (like : (key : K) → one key ≡ other key) (keys : List K) → list_any one keys ≡ list_any other keys
any_like one other like [] = refl
any_like one other like (key ∷ keys) = ap (λ z. z || list_any one keys) (like key) ∙ ap (λ z. other key || z) (any_like one other like keys)

pub or_twice : (a b : Bool) → (a || b) ≡ (a || (a || b))
or_twice true b = refl
or_twice false b = refl

pub or_turn : (a b c : Bool) → (a || (b || c)) ≡ (b || (a || c))
or_turn true true c = refl
or_turn _ _ c = refl

pub or_group : (a b c : Bool) → (a || (b || c)) ≡ ((b || a) || c)
or_group true true c = refl
or_group true false c = refl
or_group false true c = refl
or_group false false c = refl

pub or_none : (a : Bool) → (a || false) ≡ a
or_none true = refl
or_none false = refl

module _ {K : Type 0} (cmp : K → K → Ordering) (test : K → Bool) (alike : (x y : K) → cmp x y ≡ Equal → test x ≡ test y) where
  step : (x : K) (xs : List K) (key : K) (order : Ordering) → cmp key x ≡ order → list_any test (insert_key cmp xs key) ≡ (test key || list_any test xs)
      → list_any test (match_ordering order (key ∷ x ∷ xs) (x ∷ xs) (x ∷ insert_key cmp xs key)) ≡ (test key || (test x || list_any test xs))
  step x xs key Less e rest = refl
  step x xs key Equal e rest = ap (λ z. z || list_any test xs) (sym (alike key x e)) ∙ (or_twice (test key) (list_any test xs) ∙ ap (λ z. test key || (z || list_any test xs)) (alike key x e))
  step x xs key Greater e rest = ap (λ z. test x || z) rest ∙ or_turn (test x) (test key) (list_any test xs)

  -- a set with one key more
  pub any_inserted : (keys : List K) (key : K) → list_any test (insert_key cmp keys key) ≡ (test key || list_any test keys)
  any_inserted [] key = refl
  any_inserted (x ∷ xs) key = step x xs key (cmp key x) refl (any_inserted xs key)

pub equal_texts : (xs ys : Bytes) → bytes_eq xs ys ≡ true → xs ≡ ys
equal_texts xs ys e = (bytes_eq-Decides xs ys).0 e

-- ---- texts

abbrev pub text_cmp : Vec ℕ Global → Vec ℕ Global → Ordering
text_cmp one other = slice_cmp nat_cmp one.items other.items

text_alike : (word : Bytes) (one other : Vec ℕ Global) → text_cmp one other ≡ Equal → bytes_eq word one.items ≡ bytes_eq word other.items
text_alike word one other e = ap (bytes_eq word) (equal_texts one.items other.items (sym (is_eq-slice_cmp one.items other.items) ∙ ap is_eq e))

pub text_found : (set : BTreeSet (Vec ℕ Global)) (word : Bytes) → list_any (is_at (λ (text : Vec ℕ Global). slice_cmp nat_cmp word text.items)) set.keys ≡ list_any (bytes_eq word) (texts_of set)
text_found set word =
    any_like (is_at (λ (text : Vec ℕ Global). slice_cmp nat_cmp word text.items)) (λ (text : Vec ℕ Global). bytes_eq word text.items) (λ text. is_eq-slice_cmp word text.items) set.keys
    ∙ sym (any_map (bytes_eq word) (λ (text : Vec ℕ Global). text.items) set.keys)

pub text_inserted : (old new : BTreeSet (Vec ℕ Global)) (text : Vec ℕ Global) (bytes word : Bytes) → text.items ≡ bytes → new.keys ≡ insert_key text_cmp old.keys text
    → list_any (bytes_eq word) (texts_of new) ≡ (bytes_eq word bytes || list_any (bytes_eq word) (texts_of old))
text_inserted old new text bytes word same e =
    ap (λ keys. list_any (bytes_eq word) (map (λ (other : Vec ℕ Global). other.items) keys)) e
    ∙ (any_map (bytes_eq word) (λ (other : Vec ℕ Global). other.items) (insert_key text_cmp old.keys text)
    ∙ (any_inserted text_cmp (λ (other : Vec ℕ Global). bytes_eq word other.items) (text_alike word) old.keys text
    ∙ (ap (λ z. bytes_eq word text.items || z) (sym (any_map (bytes_eq word) (λ (other : Vec ℕ Global). other.items) old.keys))
    ∙ ap (λ z. bytes_eq word z || list_any (bytes_eq word) (texts_of old)) same)))
