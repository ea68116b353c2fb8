use Rattle.bz_list.proofs.Words.{◌++◌, ◌∙◌, ap, Expr, filter, List, sym, takes}
use Rattle.bz_value.specs.declared.value.Form.{Form}
use Rattle.bz_list.proofs.EditedLists.{entry_taken}
use Rattle.bz_list.proofs.editing.Edit.on_entry.Goals as goal

pub returns-in_ok-on_own_lists-clause-taken : goal.returns-in_ok-on_own_lists-clause-taken
returns-in_ok-on_own_lists-clause-taken c =
    c.in_ok-on_own_lists.ensures.taken
    ∙ ap (λ (items : List Expr). c.args.taken.now ++ filter (takes c.args.self c.args.slot.current.now c.args.slot.attribute.now) items)
    (entry_taken c.in-Form.form c.args.entry.now c.as_mut_slice.result.now c.index-value-2.result
    (c.as_mut_slice.ensures.value ∙ ap (λ (form : Form). form.parts) c.in-Form.form-is) c.in-Form.is (sym c.if-not-has_kind.ensures) c.in-len3-up.len_at_least)
