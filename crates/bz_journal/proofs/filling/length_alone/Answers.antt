use Rattle.bz_journal.proofs.Words.{[], ◌∷◌, ◌≡◌, All-from_recursion, arith, common_steps, IsProper, IsProperItem, Item, List, subst, sym}
use Rattle.bz_journal.proofs.filling.length_alone.Goals as goal

pub invariant_of-file : goal.invariant_of-file
invariant_of-file c =
    let one : c.push.new.self ≡ c.args.item ∷ [] = grind (arith, common_steps) in
    subst (λ (items : List Item). IsProper items) (sym one) (All-from_recursion IsProperItem (c.args.item ∷ []) (c.requires, tt))
