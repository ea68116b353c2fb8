use Rattle.bz_hosts.proofs.Words.{[], ◌++◌, ◌+◌, ◌<◌, ◌∙◌, ◌∷◌, ◌≤◌, ap, arith, drop, drop-set-lt, Expr, length, List, Part, plain, seen, subst}
use Rattle.bz_hosts.proofs.LineSteps.{statement_more, statements_done}
use Rattle.bz_hosts.proofs.viewing.push_moved_statements.Goals as goal

pub loop-left-preserved : goal.loop-left-preserved
loop-left-preserved c =
    let ps = c.loop-left.left.items in
    let at = c.loop-left.at in
    let one = c.in_ok-push_moved.ensures.exprs ∙ ap (λ (es : List Expr). es ++ plain (seen c.index_mut.result.now) ∷ []) c.loop-left.invariant.none in
    let more : at + 1 < length ps = subst (λ (rs : List Part). at + 1 < length rs) c.as_slice.ensures.value (c.is_followed.ensures.yes c.loop-left-test.true) in
    record {
      none = c.in_ok-push_statement.ensures.exprs c.index_mut.result.now one;
      rest = statement_more ps c.as_slice-in-loop-left.result.now _ at c.index_mut.result.now c.loop-left.above c.push_moved.new.loose c.push_statement.new.above c.push_moved.new.exprs.items c.loop-left.items c.push_statement.new.items
          more c.index_mut.ensures.value (ap (drop (at + 1)) c.as_slice-in-loop-left.ensures.value ∙ drop-set-lt (at + 1) ps at _ (omega arith)) (c.give_back-at.ensures.rest ∙ drop-set-lt (at + 2) ps at _ (omega arith))
          c.in_ok-push_moved.ensures.loose one c.in_ok-push_statement.ensures.above c.in_ok-push_statement.ensures.items ∙ c.loop-left.invariant.rest;
    }

pub returns : goal.returns
returns c =
    let last : length c.loop-left.left.items ≤ c.loop-left.at + 1 = subst (λ (ps : List Part). length ps ≤ c.loop-left.at + 1) c.as_slice.ensures.value (c.is_followed.ensures.no c.loop-left-test.false) in
    statements_done c.loop-left.left.items c.loop-left.at c.loop-left.above c.loop-left.items _ last c.loop-left.invariant.rest
