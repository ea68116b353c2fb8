use Rattle.bz_load.proofs.Words.{[], ◌++◌, ◌-◌, ◌∙◌, ◌∷◌, ◌≡◌, ap, append_assoc, arith, IsSpliced, Item, length, length-append, List, subst, sym}
use Rattle.bz_load.proofs.OneMore.{changed_at}
use Rattle.bz_load.proofs.replacing.push_load.Goals as goal

pub returns-clause-grown : goal.returns-clause-grown
returns-clause-grown c = λ before old rest count grown.
    let left = c.args.made.now.items in
    let new = c.args.load in
    let made : c.push_reserved.new.self.items ≡ left ++ new ∷ [] = c.push_reserved.ensures.items ∙ ap (λ xs. xs ++ new ∷ []) c.in_ok-reserve.ensures.items in
    let more = ap length made in
    let long = length-append left (new ∷ []) in
    let all = c.len.ensures ∙ c.push_reserved.new.self.ok.0 in
    let at : c.len.result - 1 ≡ length left = omega (arith, all, more, long) in
    c.put_window.ensures.grown before (left ++ (old ++ rest)) (c.push_reserved.new.self.items ++ rest) grown
    (subst (λ n. IsSpliced (c.len.result - 1) n 1 (left ++ (old ++ rest)) (c.push_reserved.new.self.items ++ rest)) count
    (subst (λ (xs : List Item). IsSpliced (c.len.result - 1) (length old) 1 (left ++ (old ++ rest)) xs) (sym (ap (λ xs. xs ++ rest) made ∙ append_assoc left (new ∷ []) rest)) (changed_at (c.len.result - 1) left old (new ∷ []) rest at)))
