use Rattle.bz_list.proofs.Words.{◌∙◌, ◌≡◌, add, ap, Arguments, Bytes, List, Ok, OnOk, subst, sym, ValueOperation, values_changed}
use Rattle.bz_list.proofs.listed.change_values.Goals as goal

pub returns-in-Add-clause-ok : goal.returns-in-Add-clause-ok
returns-in-Add-clause-ok c =
    let xs = c.args.arguments.now in
    let slot = c.new-slot.result in
    subst (λ (made : Arguments). OnOk c.add_items.result (made ≡ Ok c.add_items.new.arguments))
    (sym (ap (λ (operation : ValueOperation). values_changed operation c.args.current.now xs) c.in-Add.is
    ∙ (ap (λ (current : Bytes). add current c.in-Add.attribute c.in-Add.values xs) (sym c.new-slot.ensures.current)
    ∙ (ap (λ (name : Bytes). add slot.current.now name c.in-Add.values xs) (sym (c.new-slot.ensures.attribute ∙ c.as_slice.ensures))
    ∙ ap (λ (words : List Bytes). add slot.current.now slot.attribute.now words xs) (sym c.as_slice-in-Add.ensures)))))
    c.add_items.ensures.ok

pub returns-in_ok-on_attributes-in-Replace-clause-ok : goal.returns-in_ok-on_attributes-in-Replace-clause-ok
returns-in_ok-on_attributes-in-Replace-clause-ok c =
    ap (λ (operation : ValueOperation). values_changed operation c.args.current.now c.args.arguments.now) c.in-Replace.is ∙ ap Ok (sym c.in_ok-on_attributes-in-Replace.ensures)

pub returns-in_ok-on_attributes-in-Substitute-clause-ok : goal.returns-in_ok-on_attributes-in-Substitute-clause-ok
returns-in_ok-on_attributes-in-Substitute-clause-ok c =
    ap (λ (operation : ValueOperation). values_changed operation c.args.current.now c.args.arguments.now) c.in-Substitute.is ∙ ap Ok (sym c.in_ok-on_attributes-in-Substitute.ensures)
