use Rattle.bz_list.proofs.Words.{◌↔◌, ◌∙◌, ◌≡◌, ap, Expr, false, has_lists, IsTrue, List, plus, rules, subst, sym, true, with_more}
use Rattle.bz_list.proofs.StayedSame.{never, other_sum, same_more}
use Rattle.bz_command_syntax.specs.declared.command.Selects.TheVariants.{Skipped}
use Rattle.bz_list.proofs.listed.grown.Goals as goal

pub returns-then-has_lists-clause-same : goal.returns-then-has_lists-clause-same
returns-then-has_lists-clause-same c =
    let value = c.args.value in
    let none = c.is_empty-same.result in
    let lists : has_lists Skipped value ≡ true = search rules in
    subst (λ (new : Expr). IsTrue none ↔ (new ≡ value)) (sym (c.in_ok-append_to_value.ensures ∙ ap (λ (xs : List Expr). with_more xs value) c.into_vec.ensures))
    (same_more c.args.more value none lists c.is_empty-same.ensures)

pub returns-clause-same : goal.returns-clause-same
returns-clause-same c =
    let value = c.args.value in
    subst (λ (sum : Expr). IsTrue false ↔ (sum ≡ value)) (sym (c.in_ok-sum.ensures ∙ ap (plus value) c.list_of.ensures)) (never (other_sum value c.args.more))
