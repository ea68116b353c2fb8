use Rattle.bz_hosts.proofs.HostSteps.{statement_hosted}
use Rattle.bz_hosts.proofs.commented.push_statement.Goals as goal

pub returns-clause-exprs : goal.returns-clause-exprs
returns-clause-exprs c x h =
    (statement_hosted c.args.exprs.now.items c.pop.new.self.items c.in-Some.expr _ c.in_ok-comments.comments _ _ _ _ _ c.args.items.now _ c.in-Some.ensures.items c.in_ok-push.ensures.ok c.with_comments.ensures c.in_ok-comments.ensures c.replace.ensures.value
    c.in_ok-suffix.ensures c.gap_after_statement.ensures x h).0

pub returns-clause-items : goal.returns-clause-items
returns-clause-items c x h =
    (statement_hosted c.args.exprs.now.items c.pop.new.self.items c.in-Some.expr _ c.in_ok-comments.comments _ _ _ _ _ c.args.items.now _ c.in-Some.ensures.items c.in_ok-push.ensures.ok c.with_comments.ensures c.in_ok-comments.ensures c.replace.ensures.value
    c.in_ok-suffix.ensures c.gap_after_statement.ensures x h).1
