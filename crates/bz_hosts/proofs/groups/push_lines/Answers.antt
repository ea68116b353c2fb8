use Rattle.bz_hosts.proofs.Words.{◌∷◌, ◌≡◌, lines_of, None}
use Rattle.bz_hosts.proofs.GroupSteps.{bare_line, block_pushed}
use Rattle.bz_hosts.proofs.groups.push_lines.Goals as goal

pub loop-line-preserved : goal.loop-line-preserved
loop-line-preserved c =
    let bare : lines_of c.loop-line.rest.now ≡ record { indent = c.in-Some.line.indent; comment = None; newline = c.in-Some.line.newline } ∷ lines_of c.in-Some.line.rest.now =
    bare_line (lines_of c.loop-line.rest.now) (lines_of c.in-Some.line.rest.now) c.in-Some.line.comment c.in-Some.line.indent c.in-Some.line.newline c.in-Some.ensures.line c.in-None.is in
    block_pushed c.loop-line.rest.now c.in-Some.line.indent c.in-Some.line.newline _ (lines_of c.args.gap.now) c.loop-line.last _ c.args.group c.loop-line.items _ c.args.items.now bare c.new-last.ensures c.in_ok-push_block-in-None.ensures c.loop-line.invariant
