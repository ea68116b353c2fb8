use Rattle.bz_load.proofs.Words.{◌++◌, ◌∙◌, ◌∷◌, ◌≡◌, ap, both, drop, Item, leading_blocks, List, load_made, loads_end, may_have, None, Option, position, refl, replaced_around, Some, take, take-append-drop, ℕ}
use Rattle.bz_load.proofs.ReplacedSymbols.{around_new, around_there, whole_there}
use Rattle.bz_load.proofs.replacing.cut_around.Goals as goal

pub returns-in-Some-clause-replaced : goal.returns-in-Some-clause-replaced
returns-in-Some-clause-replaced c =
    let symbol = c.args.symbol.now in
    let whole = c.into_vec-front.ensures in
    let load = c.remove-load.result in
    both (λ f b. replaced_around symbol f load b) (c.in_ok-back.ensures.items ∙ ap (take c.in-Some.at) whole) c.remove-load.ensures.items
    ∙ around_there c.args.path.now symbol c.args.items c.place_to_have-place.result (c.place_to_have-place.ensures ∙ ap (λ xs. position (may_have c.args.path.now symbol xs) xs) c.as_slice.ensures) c.in-Some.at c.in-Some.is
    c.in_ok-back.back.items load (c.in_ok-back.ensures.tail ∙ ap (drop c.in-Some.at) whole) c.remove-load.ensures.value

nothing : (o : Option ℕ) → ((at : ℕ) → o ≡ Some at → ⊥) → o ≡ None
nothing None h = refl
nothing (Some at) h = absurd (h at refl)

pub returns-clause-replaced : goal.returns-clause-replaced
returns-clause-replaced c =
    let symbol = c.args.symbol.now in
    let whole = c.into_vec-front.ensures in
    let at = c.place_after_loads-at.result in
    both (λ f b. replaced_around symbol f c.in_ok-load.load b) (c.in_ok-back-2.ensures.items ∙ ap (take at) whole) (c.in_ok-back-2.ensures.tail ∙ ap (drop at) whole)
    ∙ around_new c.args.path.now symbol c.args.items c.place_to_have-place.result (c.place_to_have-place.ensures ∙ ap (λ xs. position (may_have c.args.path.now symbol xs) xs) c.as_slice.ensures) (nothing c.place_to_have-place.result c.in_default.not-Some) at c.in_ok-load.load
    (c.place_after_loads-at.ensures.place ∙ both (λ n xs. loads_end n 0 xs) (c.count_of_blocks.ensures.blocks ∙ ap leading_blocks (c.as_slice-3.ensures.value ∙ whole)) (c.as_slice-2.ensures.value ∙ whole))
    (c.in_ok-load.ensures ∙ ap (load_made c.args.path.now) c.new.ensures.items)

pub returns-in-Some-clause-whole : goal.returns-in-Some-clause-whole
returns-in-Some-clause-whole c =
    let whole = c.into_vec-front.ensures in
    let load = c.remove-load.result in
    both (λ f b. f ++ load ∷ b) (c.in_ok-back.ensures.items ∙ ap (take c.in-Some.at) whole) c.remove-load.ensures.items
    ∙ whole_there c.args.path.now c.args.symbol.now c.args.items c.place_to_have-place.result (c.place_to_have-place.ensures ∙ ap (λ xs. position (may_have c.args.path.now c.args.symbol.now xs) xs) c.as_slice.ensures) c.in-Some.at c.in-Some.is
    c.in_ok-back.back.items load (c.in_ok-back.ensures.tail ∙ ap (drop c.in-Some.at) whole) c.remove-load.ensures.value

pub returns-clause-whole : goal.returns-clause-whole
returns-clause-whole c =
    let at = c.place_after_loads-at.result in
    both (λ (xs ys : List Item). xs ++ ys) c.in_ok-back-2.ensures.items c.in_ok-back-2.ensures.tail ∙ (take-append-drop at c.into_vec-front.result.items ∙ c.into_vec-front.ensures)
