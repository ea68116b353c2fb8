use Rattle.bz_list.proofs.Words.{◌∙◌, ◌≡◌, ap, Expr, List, OnOk, strings_added, subst, with_more}
use Rattle.bz_list.proofs.EditedLists.{read_items}
use Rattle.bz_list.proofs.listed.add_strings.Goals as goal

pub returns : goal.returns
returns c =
    subst (λ (more : List Expr). OnOk c.append_to_value.result (c.append_to_value.new.value ≡ with_more more c.args.value.now))
    (c.into_vec.ensures
    ∙ (c.in_ok-more.ensures
    ∙ ap (strings_added c.args.slot.current.now c.args.slot.attribute.now c.args.words.now) (read_items c.operands_of.result.now c.args.value.now c.operands_of.ensures)))
    c.append_to_value.ensures
