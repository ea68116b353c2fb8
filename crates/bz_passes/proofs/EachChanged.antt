-- Lists that are changed in their place: one turn of a loop over the items, of which those before are changed and the others are as they were; and all.
use Rattle.bz_passes.proofs.Words.{[], ◌++◌, ◌+◌, ◌<◌, ◌∙◌, ◌∷◌, ◌≡◌, ◌≤◌, ap, append-nil, append_assoc, ap₂, arith, drop, drop-set-lt, drop_all, drop_more, get_or, get_or-set_other, length, length-set, List, map, set, sym, take, take-append_seam, take_all, take_more_set, ℕ}

module _ {A : Type 0} (f : A → A) where
  -- before the turn and after it, the list is changed to the same
  changed : (items : List A) (k : ℕ) (d y : A) → k < length items → y ≡ f (get_or items k d) →
      take (k + 1) (set items k y) ++ map f (drop (k + 1) (set items k y)) ≡ take k items ++ map f (drop k items)
  changed items k d y h is =
      ap (λ front. front ++ map f (drop (k + 1) (set items k y))) (take_more_set items k y h)
      ∙ (ap (λ rest. (take k items ++ y ∷ []) ++ map f rest) (drop-set-lt (k + 1) items k y (omega arith))
      ∙ (append_assoc (take k items) (y ∷ []) (map f (drop (k + 1) items))
      ∙ (ap (λ z. take k items ++ z ∷ map f (drop (k + 1) items)) is
      ∙ ap (λ rest. take k items ++ map f rest) (sym (drop_more items k d h)))))

  -- after the last turn
  pub all_turned : (items target : List A) (k : ℕ) → length items ≤ k → take k items ++ map f (drop k items) ≡ target → items ≡ target
  all_turned items target k h e = sym (append-nil items) ∙ (ap₂ (λ front rest. front ++ map f rest) (sym (take_all k items h)) (sym (drop_all k items h)) ∙ e)

  pub each_turn : (items whole target : List A) (k : ℕ) (d y : A) → k < length whole → y ≡ f (get_or items k d) →
      ((length items ≡ length whole) × ((j : ℕ) (e : A) → k ≤ j → get_or items j e ≡ get_or whole j e)) × (take k items ++ map f (drop k items) ≡ target) →
      ((length (set items k y) ≡ length whole) × ((j : ℕ) (e : A) → k + 1 ≤ j → get_or (set items k y) j e ≡ get_or whole j e))
      × (take (k + 1) (set items k y) ++ map f (drop (k + 1) (set items k y)) ≡ target)
  each_turn items whole target k d y h is before = (
    (length-set items k y ∙ before.0.0, λ j e above. get_or-set_other items k j y e (omega (arith, above)) ∙ before.0.1 j e (omega (arith, above))),
    changed items k d y (omega (arith, before.0.0, h)) is ∙ before.1,
  )

-- what a function makes of the items of a file, which stay as many, is what it makes of the file
pub put_back : {A : Type 0} (f : List A → List A) (file items lent new : List A) → length (f file) ≡ length file → new ≡ f lent → lent ≡ items → items ≡ file
    → take (length items) (new ++ drop (length new) items) ≡ f file
put_back f file items lent new same made is view_is =
    let whole : new ≡ f file = made ∙ ap f (is ∙ view_is) in
    ap (λ n. take n (new ++ drop (length new) items)) (ap length view_is ∙ sym (ap length whole ∙ same)) ∙ (take-append_seam new (drop (length new) items) ∙ whole)
