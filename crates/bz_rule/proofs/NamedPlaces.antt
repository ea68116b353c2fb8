-- The places of a name, item by item.
use Rattle.bz_rule.proofs.Words.{[], ◌++◌, ◌+◌, ◌<◌, ◌∙◌, ◌∷◌, ◌≡◌, ap, append_assoc, Bool, Bytes, drop, drop_more, false, get_or, has_name, if◌then◌else◌, Item, length, List, map, marked_places, places_from, sym, true, ℕ}

one_place : (at : ℕ) (name : Bytes) (old : List ℕ) (item : Item) (rest : List Item)
    → (old ++ (if has_name name item then at ∷ [] else [])) ++ places_from (at + 1) name rest ≡ old ++ places_from at name (item ∷ rest)
one_place at name old item rest = by (has_name name item)
  where
    by : (b : Bool) → (old ++ (if b then at ∷ [] else [])) ++ places_from (at + 1) name rest ≡ old ++ marked_places at (b ∷ map (has_name name) rest)
    by true = append_assoc old (at ∷ []) (places_from (at + 1) name rest)
    by false = append_assoc old [] (places_from (at + 1) name rest)

-- a turn of the loop: the places of the items so far, and of those that are left
pub places_turn : (items : List Item) (at : ℕ) (item : Item) (name : Bytes) (old new all : List ℕ)
    → at < length items → item ≡ get_or items at item → new ≡ old ++ (if has_name name item then at ∷ [] else [])
    → old ++ places_from at name (drop at items) ≡ all → new ++ places_from (at + 1) name (drop (at + 1) items) ≡ all
places_turn items at item name old new all within is more before =
    ap (λ (z : List ℕ). z ++ places_from (at + 1) name (drop (at + 1) items)) more
    ∙ (one_place at name old item (drop (at + 1) items)
    ∙ (ap (λ (z : List Item). old ++ places_from at name z) (sym (drop_more items at item within ∙ ap (λ z. z ∷ drop (at + 1) items) (sym is)))
    ∙ before))
