use Rattle.bz_list.proofs.Words.{◌∙◌, ◌≡◌, ap, attribute, Bool, chooses, Expr, filter, is_empty, items_in, List, not, put_back, rules, Some}
use Rattle.bz_list.proofs.ListedForms.{left_there}
use Rattle.bz_list.proofs.listed.take_items.Goals as goal

pub returns-clause-left : goal.returns-clause-left
returns-clause-left c =
    let name = c.args.slot.attribute.now in
    let test : Expr → Bool = chooses c.args.slot.current.now name c.args.chosen.now in
    let after = c.take_value.new.arguments in
    let taken : c.as_slice.result.now ≡ filter test (items_in c.args.selects c.in-Some.value) = search rules in
    let own : attribute name c.args.arguments.now ≡ Some c.in-Some.value = search rules in
    c.put_back.ensures
    ∙ (ap (λ (xs : List Expr). put_back name (not (is_empty xs)) c.on_lists.new.x after) taken
    ∙ (ap (λ (x : Expr). put_back name (not (is_empty (filter test (items_in c.args.selects c.in-Some.value)))) x after) c.in_ok-on_lists.ensures.left
    ∙ left_there c.args.selects name test c.args.arguments.now after c.in-Some.value own c.in-Some.ensures.place c.in-Some.ensures.gone))
