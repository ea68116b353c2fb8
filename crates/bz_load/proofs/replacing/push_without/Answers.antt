use Rattle.bz_load.proofs.Words.{[], ◌++◌, ◌-◌, ◌∙◌, ◌∷◌, ◌≡◌, ap, append_assoc, arith, IsSpliced, Item, length, length-append, List, subst, sym}
use Rattle.bz_load.proofs.OneMore.{changed_at}
use Rattle.bz_load.proofs.replacing.push_without.Goals as goal

pub returns-then-is_lost-clause-grown : goal.returns-then-is_lost-clause-grown
returns-then-is_lost-clause-grown c = λ before rest grown.
    let left = c.args.left.now.items in
    let same : c.reserve.new.self.items ≡ left = c.in_ok-reserve.ensures.items in
    let at = c.len.ensures ∙ (c.reserve.new.self.ok.0 ∙ ap length same) in
    c.put_window.ensures.grown before (left ++ c.args.item ∷ rest) (c.reserve.new.self.items ++ rest) grown
    (subst (λ (xs : List Item). IsSpliced c.len.result 1 0 (left ++ c.args.item ∷ rest) (xs ++ rest)) (sym same) (changed_at c.len.result left (c.args.item ∷ []) [] rest at))

pub returns-clause-grown : goal.returns-clause-grown
returns-clause-grown c = λ before rest grown.
    let left = c.args.left.now.items in
    let old = c.args.item in
    let new = c.leave.new.item in
    let made : c.push_reserved-2.new.self.items ≡ left ++ new ∷ [] = c.push_reserved-2.ensures.items ∙ ap (λ xs. xs ++ new ∷ []) c.in_ok-reserve.ensures.items in
    let more = ap length made in
    let long = length-append left (new ∷ []) in
    let count = c.len-2.ensures ∙ c.push_reserved-2.new.self.ok.0 in
    let at : c.len-2.result - 1 ≡ length left = omega (arith, count, more, long) in
    c.put_window-2.ensures.grown before (left ++ old ∷ rest) (c.push_reserved-2.new.self.items ++ rest) grown
    (subst (λ (xs : List Item). IsSpliced (c.len-2.result - 1) 1 1 (left ++ old ∷ rest) xs) (sym (ap (λ xs. xs ++ rest) made ∙ append_assoc left (new ∷ []) rest)) (changed_at (c.len-2.result - 1) left (old ∷ []) (new ∷ []) rest at))
