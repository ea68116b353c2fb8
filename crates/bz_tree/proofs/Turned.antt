-- A list of which the front is put after the rest, and cut there.
use Rattle.bz_tree.proofs.Words.{◌++◌, ◌-◌, ◌∙◌, ◌≡◌, ◌≤◌, ap, drop, drop-append_seam, length, length-drop, List, Part, sym, take, take-append_seam, ℕ}

module _ (from n : ℕ) (xs ys zs : List Part) (h : from ≤ length xs) (e : n ≡ length xs) (turned : ys ≡ drop from xs ++ take from xs) where
  seam : n - from ≡ length (drop from xs)
  seam = ap (λ (k : ℕ). k - from) e ∙ sym (length-drop from xs)

  pub turned_front : zs ≡ drop (n - from) ys → zs ≡ take from xs
  turned_front f = f ∙ ap (drop (n - from)) turned ∙ ap (λ (k : ℕ). drop k (drop from xs ++ take from xs)) seam ∙ drop-append_seam (drop from xs) (take from xs)

  pub turned_tail : zs ≡ take (n - from) ys → zs ≡ drop from xs
  turned_tail f = f ∙ ap (take (n - from)) turned ∙ ap (λ (k : ℕ). take k (drop from xs ++ take from xs)) seam ∙ take-append_seam (drop from xs) (take from xs)
