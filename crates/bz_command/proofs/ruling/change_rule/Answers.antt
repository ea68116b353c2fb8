use Rattle.bz_command.proofs.Words.{◌↔◌, ◌∙◌, ◌≡◌, Arguments, arguments_by, Expr, Form, is_rule, IsTrue, List, Ok, rules, subst, true}
use Rattle.bz_command.proofs.StatementRules.{held_in, same_rule}
use Rattle.bz_command.proofs.ruling.change_rule.Goals as goal

pub returns-in-Form-clause-same : goal.returns-in-Form-clause-same
returns-in-Form-clause-same c = λ tells.
    let item = c.args.item.now in
    let call = c.in-Form.call in
    let change : List Expr → Arguments = arguments_by c.args.operation.now c.args.work in
    let same = c.in_ok-change.field-0 in
    let rule : is_rule item ≡ true = search rules in
    let row : c.as_mut_slice.result.now ≡ c.in-Stmt-Form.form.parts = search rules in
    same_rule item change call.seq.items same rule
    (held_in call.seq.items c.as_mut_slice.result.now item c.in-Stmt-Form.field-0 c.index-call-0.result c.in-Stmt-Form.form call rule c.in-Stmt-Form.is c.in-Stmt-Form.field-0-is row c.index-call-0.is
    c.in-len1-up.len_at_least (c.index-call-0.is ∙ c.in-Form.is))
    (subst (λ (form : Form). IsTrue same ↔ (change form.seq.items ≡ Ok form.seq.items)) c.in-Form.call-is (c.in_ok-change.ensures.same tells))
