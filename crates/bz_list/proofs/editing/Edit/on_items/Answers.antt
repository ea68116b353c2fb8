use Rattle.bz_list.proofs.Words.{◌++◌, ◌≡◌, ap, Expr, filter, items_edited, List, OnOk, subst, sym, takes}
use Rattle.bz_list.specs.declared.editing.Edit.{Edit}
use Rattle.bz_list.proofs.EditedLists.{none_taken, on_ok}
use Rattle.bz_list.proofs.editing.Edit.on_items.Goals as goal

pub returns-in-Take-clause-left : goal.returns-in-Take-clause-left
returns-in-Take-clause-left c =
    subst (λ (xs : List Expr). OnOk c.take_in.result (c.take_in.new.items ≡ xs))
    (sym (ap (λ (edit : Edit). items_edited edit c.args.slot.current.now c.args.slot.attribute.now c.args.items.now) c.in-Take.is)) c.take_in.ensures.left

pub returns-in-Take-clause-taken : goal.returns-in-Take-clause-taken
returns-in-Take-clause-taken c =
    subst (λ (xs : List Expr). OnOk c.take_in.result (c.take_in.new.taken ≡ xs))
    (sym (ap (λ (edit : Edit). c.args.taken.now ++ filter (takes edit c.args.slot.current.now c.args.slot.attribute.now) c.args.items.now) c.in-Take.is)) c.take_in.ensures.taken

pub returns-in-Change-clause-left : goal.returns-in-Change-clause-left
returns-in-Change-clause-left c =
    subst (λ (xs : List Expr). OnOk c.on_items.result (c.on_items.new.items ≡ xs))
    (sym (ap (λ (edit : Edit). items_edited edit c.args.slot.current.now c.args.slot.attribute.now c.args.items.now) c.in-Change.is)) c.on_items.ensures

pub returns-in-Change-clause-taken : goal.returns-in-Change-clause-taken
returns-in-Change-clause-taken c =
    on_ok c.on_items.result _ (none_taken c.args.self c.in-Change.change c.args.slot.current.now c.args.slot.attribute.now c.args.items.now c.args.taken.now c.in-Change.is)
