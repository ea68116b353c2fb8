-- The steps of the loops that measure files, and what the limits say of them.
use Rattle.bz_layout.proofs.Words.{[], ◌++◌, ◌+◌, ◌<◌, ◌∙◌, ◌∷◌, ◌≡◌, ℕ, ap, arith, before_next, depth_items, drop, drop_more, get_or, Item, Item as i, item_text, layout, length, length-append, Lines, List, max, sym}
use Rattle.bz_layout.proofs.Spelled.{next_after}

pub layout_first : (x : Item) (xs : List Item) → length (layout (x ∷ xs)) ≡ length (item_text x) + (length (before_next x xs) + length (layout xs))
layout_first x xs = ap (λ t. length (item_text x ++ t)) (sym (next_after Lines.Counted x xs)) ∙ (length-append (item_text x) (before_next x xs ++ layout xs) ∙ ap (λ n. length (item_text x) + n) (length-append (before_next x xs) (layout xs)))

pub depth_first : (x : Item) (xs : List Item) → depth_items (x ∷ xs) ≡ max (depth_items (x ∷ [])) (depth_items xs)
depth_first (i.Block texts) xs = omega arith
depth_first (i.Stmt x) xs = omega arith

pub depth_next : (xs : List Item) (k : ℕ) (d : Item) → k < length xs → depth_items (drop k xs) ≡ max (depth_items (get_or xs k d ∷ [])) (depth_items (drop (k + 1) xs))
depth_next xs k d h = ap depth_items (drop_more xs k d h) ∙ depth_first (get_or xs k d) (drop (k + 1) xs)
