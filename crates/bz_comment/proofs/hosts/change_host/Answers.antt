use Rattle.bz_comment.proofs.Words.{◌∙◌, ap, changed_by, Host as h, inl, sym, with_value}
use Rattle.std.proofs.lemmas.Result.{err_from_is_err_and}
use Rattle.bz_comment.proofs.HostForms.{attribute_changed, host_changed, host_refused, item_changed}
use Rattle.bz_comment.proofs.hosts.change_host.Goals as goal

pub returns-in_err-comments_at-clause-err : goal.returns-in_err-comments_at-clause-err
returns-in_err-comments_at-clause-err c =
    let p = err_from_is_err_and c.from_residual.result c.from_residual.ensures.1 in
    rw (p.1, p.2) (inl (host_refused _ _ _ _ c.args.change _ _ c.as_slice.ensures c.in_err-comments_at.ensures))

pub returns-in_ok-on_first-in-Attribute-clause-ok : goal.returns-in_ok-on_first-in-Attribute-clause-ok
returns-in_ok-on_first-in-Attribute-clause-ok c =
    host_changed c.args.sought.current.now c.args.sought.host.now c.args.own.now c.args.arguments.now c.args.change _ _ _ c.as_slice.ensures c.in_ok-comments_at.ensures
    (c.in_ok-on_first-in-Attribute.ensures ∙ attribute_changed c.args.sought.current.now c.args.sought.host.now c.args.own.now c.args.arguments.now (changed_by c.args.change) _ c.in-Attribute.is)

pub returns-in_default-on_value-clause-ok : goal.returns-in_default-on_value-clause-ok
returns-in_default-on_value-clause-ok c =
    host_changed c.args.sought.current.now c.args.sought.host.now c.args.own.now c.args.arguments.now c.args.change _ _ _ c.as_slice.ensures c.in_ok-comments_at.ensures
    (c.set_value.ensures ∙ (c.in-Some.ensures.place c.on_value.new.value ∙ (ap (λ value. with_value c.as_slice-name.result.now value c.args.arguments.now) c.in_default-on_value.ensures
    ∙ item_changed c.args.sought.current.now c.args.sought.host.now c.args.own.now c.args.arguments.now (changed_by c.args.change) _ c.in-Item.value c.in-Item.selects _ (c.in-Item.is ∙ ap (λ name. h.Item name c.in-Item.value c.in-Item.selects) (sym c.as_slice-name.ensures)) c.in-Some.ensures.value)))
