use Rattle.std.proofs.Common.{sym, ◌∙◌}
use Rattle.bz_hosts.proofs.HostSteps.{host_quiet, host_commented}
use Rattle.bz_hosts.proofs.commented.comment_last.Goals as goal

pub returns-then-is_quiet_at-2 : goal.returns-then-is_quiet_at-2
returns-then-is_quiet_at-2 c =
    let both = host_quiet c.args.parts.now c.args.at c.args.above.now _ _ c.args.items.now.items (c.is_empty.ensures.0 c.if-is_empty.true) c.is_quiet_at.ensures c.if-is_quiet_at.true c.is_quiet_at-then-is_quiet_at.ensures c.if-is_quiet_at-2.true in
    record { above = both.0; items = both.1 }

pub returns-clause-items : goal.returns-clause-items
returns-clause-items c =
    host_commented c.args.items.now.items c.pop.new.self.items _ c.in-Some.expr _ c.in_ok-comments.comments _ _ _ _ _ (sym c.in_ok-reserve.ensures.items ∙ c.in-Some.ensures.items) c.push_reserved.ensures.items c.with_comments.ensures c.in_ok-comments.ensures c.replace.ensures.value c.in_ok-suffix.ensures c.gaps_after_item.ensures.suffix
