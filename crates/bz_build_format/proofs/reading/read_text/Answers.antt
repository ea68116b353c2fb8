use Rattle.bz_build_format.proofs.Words.{◌∙◌, ap, IsPushed, Legal, length, Node, subst}
use Rattle.bz_build_format.proofs.Windowed.{alone, file_legal, tree_read}
use Rattle.bz_build_format.proofs.reading.read_text.Goals as goal

pub returns-clause-ok : goal.returns-clause-ok
returns-clause-ok c =
    let parts = c.as_slice-parts.result.now in
    tree_read c.args.tree.now parts c.args.text.now c.push_window.new.read (subst Legal c.tree.view_is c.tree.invariant.0) (c.as_slice-parts.ensures ∙ ap (λ (n : Node). n.parts) c.tree.view_is)
    (alone parts c.args.text.now (length parts) c.in_ok-push_window.field-0 c.in_ok-new.new c.push_window.new.read
    (subst (λ l. IsPushed l 0 c.in_ok-new.new (length parts) c.push_window.new.read c.in_ok-push_window.field-0) c.new-read.ensures c.in_ok-push_window.ensures) c.in_ok-new.ensures.ok)

pub end_window-requires-clause-legal : goal.end_window-requires-clause-legal
end_window-requires-clause-legal c = file_legal c.tree.inside.root c.args.tree.now c.as_slice-parts.result.now c.tree.view_is c.tree.invariant.0 c.requires c.as_slice-parts.ensures
