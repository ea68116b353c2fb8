use Rattle.bz_list.proofs.Words.{◌↔◌, ◌∙◌, ◌≡◌, ap, attribute, Bool, chooses, chosen_in, Expr, false, is_no_list, IsTrue, List, Option, rules, Some, subst, sym, without_chosen}
use Rattle.bz_list.proofs.{ListedForms.removed, StayedSame.same_left}
use Rattle.bz_list.proofs.listed.remove_values.Goals as goal

pub returns-clause-ok : goal.returns-clause-ok
returns-clause-ok c =
    let current = c.args.slot.current.now in
    let name = c.args.slot.attribute.now in
    let value = c.in-Some.value.now in
    let own : attribute name c.args.arguments.now ≡ Some value = search rules in
    let listable : is_no_list value ≡ false = search rules in
    removed c.args.selects current name c.args.words.now c.args.arguments.now c.take_items.new.arguments (chooses current name c.in_ok-chosen.chosen) value c.in_ok-chosen.ensures own listable c.in_ok-taken.ensures.left

pub returns-clause-same : goal.returns-clause-same
returns-clause-same c =
    let name = c.args.slot.attribute.now in
    let xs = c.args.arguments.now in
    let value = c.in-Some.value.now in
    let test : Expr → Bool = chooses c.args.slot.current.now name c.in_ok-chosen.chosen in
    let none = c.is_empty.result in
    let own : attribute name xs ≡ Some value = search rules in
    subst (λ (ys : List Expr). IsTrue none ↔ (ys ≡ xs)) (sym (c.in_ok-taken.ensures.left ∙ ap (λ (found : Option Expr). without_chosen c.args.selects name test found xs) own))
    (same_left test c.args.selects name value xs c.in_ok-taken.taken none own (c.in_ok-taken.ensures.taken ∙ ap (chosen_in c.args.selects test) own) c.is_empty.ensures)
