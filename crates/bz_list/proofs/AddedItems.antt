-- What is added is what is not known yet.
use Rattle.bz_list.proofs.Words.{[], ◌||◌, ◌∙◌, ◌∷◌, ◌≡◌, Added, Added as a, added_by, added_to, ap, are_one, arriving, body_of, Bool, Bytes, Expr, false, fresh, fun_ext, if◌then◌else◌, is_item, is_known, is_there, List, list_any, map, new_items, new_ones, new_strings, not, Option, option_map_or, or_assoc, or_none, refl, Some, string_of, sym, travelled, true, true≢false, with_all, with_known}
use Rattle.std.specs.Bool.{OnFalse}
use Rattle.bz_list.proofs.KnownSteps.{all_known, known_by}

choice : {X : Type 0} (b c : Bool) (x : X) (xs xs' ys ys' : List X) → b ≡ c → xs ≡ xs' → ys ≡ ys' → (if b then xs else x ∷ ys) ≡ (if c then xs' else x ∷ ys')
choice b c x xs xs' ys ys' d e f = ap (λ z. if z then xs else x ∷ ys) d ∙ (ap (λ z. if c then z else x ∷ ys) e ∙ ap (λ z. if c then xs' else x ∷ z) f)

map_choice : {X Y : Type 0} (f : X → Y) (b : Bool) (x : X) (xs ys : List X) → (if b then map f xs else f x ∷ map f ys) ≡ map f (if b then xs else x ∷ ys)
map_choice f true x xs ys = refl
map_choice f false x xs ys = refl

module _ (current attribute : Bytes) where
  -- the words before, and the items that are there
  abbrev seen : List Expr → List Bytes → Bytes → Bool
  seen there earlier word = list_any (are_one current attribute word) earlier || list_any (is_item current attribute word) there

  words_new : (there : List Expr) (test : Bytes → Bool) (earlier words : List Bytes) → test ≡ seen there earlier → new_strings current attribute test words ≡ map (string_of current attribute) (fresh current attribute there earlier words)
  words_new there test earlier [] e = refl
  words_new there test earlier (word ∷ words) e =
      let string : Bytes → Expr = string_of current attribute in
      choice (test word) (seen there earlier word) (string word)
      (new_strings current attribute test words) (map string (fresh current attribute there earlier words))
      (new_strings current attribute (with_known current attribute (Some word) test) words) (map string (fresh current attribute there (word ∷ earlier) words))
      (ap (λ (t : Bytes → Bool). t word) e)
      (words_new there test earlier words e)
      (words_new there (with_known current attribute (Some word) test) (word ∷ earlier) words
      (fun_ext (λ other. ap (λ (t : Bytes → Bool). are_one current attribute other word || t other) e
      ∙ sym (or_assoc (are_one current attribute other word) (list_any (are_one current attribute other) earlier) (list_any (is_item current attribute other) there)))))
      ∙ map_choice string (seen there earlier word) word (fresh current attribute there earlier words) (fresh current attribute there (word ∷ earlier) words)

  items_new : (test : Bytes → Bool) (there items : List Expr) → test ≡ (λ word. list_any (is_item current attribute word) there) → new_items current attribute test items ≡ arriving current attribute there items
  items_new test there [] e = refl
  items_new test there (x ∷ xs) e =
      choice (is_known body_of test x) (is_there current attribute there x) (travelled current attribute x)
      (new_items current attribute test xs) (arriving current attribute there xs)
      (new_items current attribute (with_known current attribute (body_of x) test) xs) (arriving current attribute (x ∷ there) xs)
      (ap (λ (t : Bytes → Bool). option_map_or t (body_of x) false) e)
      (items_new test there xs e)
      (items_new (with_known current attribute (body_of x) test) (x ∷ there) xs
      (fun_ext (λ word. known_by current attribute body_of (body_of x) test word ∙ ap (λ (t : Bytes → Bool). is_item current attribute word x || t word) e)))

  pub added_there : (added : Added) (there : List Expr) → added_to current attribute added (with_all current attribute body_of there (λ word. false)) ≡ added_by current attribute added there
  added_there added there = by added
    where
      test : Bytes → Bool
      test = with_all current attribute body_of there (λ word. false)

      all : test ≡ (λ word. list_any (is_item current attribute word) there)
      all = all_known current attribute body_of there (λ word. false) ∙ fun_ext (λ word. or_none (list_any (is_item current attribute word) there))

      by : (added : Added) → added_to current attribute added test ≡ added_by current attribute added there
      by (a.Words words) = words_new there test [] words.now all
      by (a.Moved items) = items_new test there items all

-- one word alone is added where it is no item that is there
pub one_fresh : (current attribute : Bytes) (there : List Expr) (word : Bytes)
    → fresh current attribute there [] (word ∷ []) ≡ (if list_any (is_item current attribute word) there then [] else word ∷ [])
one_fresh current attribute there word = refl

-- one thing more: where it is new, and where it is known
pub one_more : {X : Type 0} (current attribute : Bytes) (text : X → Option Bytes) (made : X → Expr) (x : X) (xs : List X) (old new : Bytes → Bool) (is_new : Bool)
    → is_new ≡ not (is_known text old x) → new ≡ with_known current attribute (text x) old → OnFalse is_new (new ≡ old)
    → new_ones current attribute text made old (x ∷ xs) ≡ (if is_new then made x ∷ new_ones current attribute text made new xs else new_ones current attribute text made new xs)
one_more current attribute text made x xs old new is_new is all again = by (is_known text old x) is_new is again
  where
    by : (b c : Bool) → c ≡ not b → OnFalse c (new ≡ old)
        → (if b then new_ones current attribute text made old xs else made x ∷ new_ones current attribute text made (with_known current attribute (text x) old) xs)
        ≡ (if c then made x ∷ new_ones current attribute text made new xs else new_ones current attribute text made new xs)
    by true false e same = ap (λ known. new_ones current attribute text made known xs) (sym same)
    by false true e same = ap (λ known. made x ∷ new_ones current attribute text made known xs) (sym all)
    by true true e same = absurd (true≢false e)
    by false false e same = absurd (true≢false (sym e))
