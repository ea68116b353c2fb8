use Rattle.bz_hosts.proofs.Words.{[], ◌++◌, ◌+◌, ◌∙◌, ◌∷◌, ap, drop, Expr, List, plain, refl, seen}
use Rattle.bz_hosts.proofs.LineSteps.{statement_more, statements_done}
use Rattle.bz_hosts.proofs.viewing.push_statements.Goals as goal

pub loop-before-preserved : goal.loop-before-preserved
loop-before-preserved c =
    let ps = c.args.parts.now in
    let one = c.in_ok-push_expr.ensures.exprs ∙ ap (λ (es : List Expr). es ++ plain (seen c.index-parts-at.result) ∷ []) c.loop-before.invariant.none in
    record {
      none = c.in_ok-push_statement.ensures.exprs c.index-parts-at.result one;
      rest = statement_more ps ps (drop (c.loop-before.at + 2) ps) c.loop-before.at c.index-parts-at.result c.loop-before.before c.push_expr.new.loose c.push_statement.new.above c.push_expr.new.exprs.items c.loop-before.items c.push_statement.new.items
          (c.is_followed.ensures.yes c.loop-before-test.true) c.index-parts-at.is refl refl c.in_ok-push_expr.ensures.loose one c.in_ok-push_statement.ensures.above c.in_ok-push_statement.ensures.items ∙ c.loop-before.invariant.rest;
    }

pub returns : goal.returns
returns c = statements_done c.args.parts.now c.loop-before.at c.loop-before.before c.loop-before.items _ (c.is_followed.ensures.no c.loop-before-test.false) c.loop-before.invariant.rest
