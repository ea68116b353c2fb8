-- An index of names is that of other items too, where each that changed has the name which is listed at its place.
use Rattle.bz_journal.proofs.Words.{[], ◌++◌, ◌+◌, ◌==◌, ◌||◌, ◌∙◌, ◌∷◌, ◌≡◌, ◌⊎◌, ap, ap₂, AreOver, arith, Bool, Bytes, bytes_eq-Decides, drop, drop-drop, eqb-true, false, HasListedName, HaveListedNames, HaveListedNamesIn, held_name, Index, inl, inr, IsIndexOf, Item, length, length-drop, length-take-le, List, list_any, map, map-append, marked_places, None, Option, places_from, refl, Some, subst, suc, sym, take, take-append-drop, true, true≢false, Window, zero, ℕ}
use Rattle.bz_rule.specs.Rules.{has_name, is_text}

-- ---- a place that is listed

either : (a b : Bool) → a || b ≡ true → (a ≡ true) ⊎ (b ≡ true)
either true b is = inl refl
either false b is = inr is

-- the item of a place that is listed under a name
abbrev At : Bytes → ℕ → List Item → ℕ → Type 0
At name at items place = (k : ℕ) × (item : Item) × (place ≡ at + k) × (drop k items ≡ item ∷ drop (suc k) items) × (has_name name item ≡ true)

one_later : (name : Bytes) (x : Item) (xs : List Item) (at place : ℕ) → At name (at + 1) xs place → At name at (x ∷ xs) place
one_later name x xs at place (k, item, place_is, there, named) = (suc k, item, omega (arith, place_is), there, named)

-- by what is listed of the items after the first
by_first : (name : Bytes) (x : Item) (xs : List Item) (at place : ℕ) (b : Bool) → has_name name x ≡ b
    → (list_any (λ p. p == place) (places_from (at + 1) name xs) ≡ true → At name (at + 1) xs place)
    → list_any (λ p. p == place) (marked_places at (b ∷ map (has_name name) xs)) ≡ true → At name at (x ∷ xs) place
by_first name x xs at place true named more is = elim (either (at == place) (list_any (λ p. p == place) (places_from (at + 1) name xs)) is) [
  | inl here ↦ (zero, x, omega (arith, eqb-true at place here), refl, named)
  | inr later ↦ one_later name x xs at place (more later)
]
by_first name x xs at place false named more is = one_later name x xs at place (more is)

listed_has : (name : Bytes) (items : List Item) (at place : ℕ) → list_any (λ p. p == place) (places_from at name items) ≡ true → At name at items place
listed_has name [] at place is = absurd (true≢false (sym is))
listed_has name (x ∷ xs) at place is = by_first name x xs at place (has_name name x) refl (listed_has name xs (at + 1) place) is

text_is : (name : Bytes) (found : Option Bytes) → is_text name found ≡ true → found ≡ Some name
text_is name None is = absurd (true≢false (sym is))
text_is name (Some other) is = ap Some ((bytes_eq-Decides other name).0 is)

module _ (index : Index) (before : List Item) (own : IsIndexOf index before) where
  same_there : (at : ℕ) (item : Item) → HasListedName index at item → (old : Item) × (drop at before ≡ old ∷ drop (at + 1) before) × (held_name old ≡ held_name item)
  same_there at item (name, is, listed) =
      let (k, old, at_is, there, named) = listed_has name before 0 at (listed before own) in
      let here : k ≡ at = omega (arith, at_is) in
      let next : suc k ≡ at + 1 = omega (arith, at_is) in
      (old, ap (λ (n : ℕ). drop n before) (sym here) ∙ there ∙ ap (λ (n : ℕ). old ∷ drop n before) next, text_is name (held_name old) named ∙ sym is)

  same_names : (items : List Item) (at : ℕ) → HaveListedNames index at items → map held_name items ≡ map held_name (take (length items) (drop at before))
  same_names [] at listed = refl
  same_names (item ∷ items) at (is, listed) =
      let (old, there, same) = same_there at item is in
      ap₂ (λ (x : Option Bytes) (xs : List (Option Bytes)). x ∷ xs) (sym same) (same_names items (at + 1) listed)
      ∙ ap (λ (rest : List Item). map held_name (take (suc (length items)) rest)) (sym there)

  -- ---- windows

  three : (xs ys : List Item) (from count : ℕ) → take from xs ≡ take from ys
      → map held_name (take count (drop from xs)) ≡ map held_name (take count (drop from ys))
      → map held_name (drop (from + count) xs) ≡ map held_name (drop (from + count) ys) → map held_name xs ≡ map held_name ys
  three xs ys from count front middle rest =
      pieces xs ∙ ap (λ (zs : List Item). map held_name zs ++ (map held_name (take count (drop from xs)) ++ map held_name (drop (from + count) xs))) front
      ∙ ap₂ (λ (m r : List (Option Bytes)). map held_name (take from ys) ++ (m ++ r)) middle rest ∙ sym (pieces ys)
    where
      pieces : (zs : List Item) → map held_name zs ≡ map held_name (take from zs) ++ (map held_name (take count (drop from zs)) ++ map held_name (drop (from + count) zs))
      pieces zs =
          ap (map held_name) (sym (take-append-drop from zs)) ∙ map-append held_name (take from zs) (drop from zs)
          ∙ ap (λ (m : List (Option Bytes)). map held_name (take from zs) ++ m)
          (ap (map held_name) (sym (take-append-drop count (drop from zs))) ∙ map-append held_name (take count (drop from zs)) (drop count (drop from zs))
          ∙ ap (λ (r : List Item). map held_name (take count (drop from zs)) ++ map held_name r) (drop-drop count from zs))

  same_over : (ws : List Window) (at : ℕ) (olds news : List Item) → drop at before ≡ olds → AreOver ws olds news → HaveListedNamesIn index at ws news
      → map held_name olds ≡ map held_name news
  same_over [] at olds news here same listed = ap (map held_name) same
  same_over (w ∷ ws) at olds news here (within, held, front, over) (even, fits, listed, more) =
      let moved : drop (w.from + w.gone) olds ≡ drop (w.from + w.come) olds = ap (λ (n : ℕ). drop (w.from + n) olds) even in
      let there : drop (at + w.from) before ≡ drop w.from olds = sym (drop-drop w.from at before) ∙ ap (drop w.from) here in
      let after : drop (at + w.from + w.come) before ≡ drop (w.from + w.come) olds =
      sym (drop-drop w.come (at + w.from) before) ∙ ap (drop w.come) there ∙ drop-drop w.come w.from olds in
      let count : length (take w.come (drop w.from news)) ≡ w.come = length-take-le w.come (drop w.from news) (omega (arith, fits, length-drop w.from news)) in
      three olds news w.from w.come (sym front)
      (sym (same_names (take w.come (drop w.from news)) (at + w.from) listed
      ∙ ap₂ (λ (n : ℕ) (rest : List Item). map held_name (take n rest)) count there))
      (same_over ws (at + w.from + w.come) (drop (w.from + w.come) olds) (drop (w.from + w.come) news) after
      (subst (λ (rest : List Item). AreOver ws rest (drop (w.from + w.come) news)) moved over) more)

-- ---- the index

same_marks : (name : Bytes) (xs ys : List Item) → map held_name xs ≡ map held_name ys → map (has_name name) xs ≡ map (has_name name) ys
same_marks name xs ys same = marks xs ∙ ap (map (is_text name)) same ∙ sym (marks ys)
  where
    marks : (zs : List Item) → map (has_name name) zs ≡ map (is_text name) (map held_name zs)
    marks [] = refl
    marks (z ∷ zs) = ap (λ (rest : List Bool). has_name name z ∷ rest) (marks zs)

pub index_outlives : (index : Index) (ws : List Window) (before after : List Item) → HaveListedNamesIn index 0 ws after → AreOver ws before after → IsIndexOf index before
    → IsIndexOf index after
index_outlives index ws before after listed over own =
    let same = same_over index before own ws 0 before after refl over listed in
    record { places = λ name. own.places name ∙ ap (marked_places 0) (same_marks name before after same) }
