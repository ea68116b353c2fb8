use Rattle.bz_list.proofs.Words.{◌↔◌, ◌∙◌, ◌≡◌, added_by, ap, attribute, Err, Expr, false, if_false, IsTrue, List, NotAList, Ok, refl, rules, Some, subst, sym, with_new, with_value}
use Rattle.bz_list.proofs.{EditedLists.read_items, ListedForms.added_found, StayedSame.never, StayedSame.other_new, StayedSame.put_same}
use Rattle.bz_list.proofs.listed.add_items.Goals as goal

pub returns-clause-ok : goal.returns-clause-ok
returns-clause-ok c =
    let name = c.args.slot.attribute.now in
    let value = c.in-Some.value in
    let added : List Expr → List Expr = added_by c.args.slot.current.now name c.args.added in
    let own : attribute name c.args.arguments.now ≡ Some value = search rules in
    added_found name added c.args.arguments.now value own
    ∙ (if_false _ (Err NotAList) _ (sym c.if-is_no_list.ensures)
    ∙ ap Ok (sym (c.set_value.ensures
    ∙ (ap (λ (x : Expr). with_value name x c.take_value.new.arguments) (c.in_ok-value.ensures.value added (c.in_ok-more.ensures ∙ ap added (read_items c.operands_of.result.now value c.operands_of.ensures))) ∙ c.in-Some.ensures.place _))))

pub returns-in_default-clause-same : goal.returns-in_default-clause-same
returns-in_default-clause-same c =
    let name = c.args.slot.attribute.now in
    let xs = c.args.arguments.now in
    let list = c.list_of-list.result in
    subst (λ (ys : List Expr). IsTrue false ↔ (ys ≡ xs)) (sym (c.in_ok-add_attribute.ensures ∙ ap (with_new name list) (c.in_default.ensures.none refl))) (never (other_new name list xs))

pub returns-clause-same : goal.returns-clause-same
returns-clause-same c =
    let name = c.args.slot.attribute.now in
    let xs = c.args.arguments.now in
    let made = c.in_ok-value in
    let own : attribute name xs ≡ Some c.in-Some.value = search rules in
    subst (λ (ys : List Expr). IsTrue made.same ↔ (ys ≡ xs)) (sym (c.set_value.ensures ∙ c.in-Some.ensures.place _)) (put_same name c.in-Some.value made.value xs made.same own made.ensures.same)
