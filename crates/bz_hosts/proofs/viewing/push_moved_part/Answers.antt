use Rattle.bz_hosts.proofs.Words.{◌+◌, ◌∙◌, ap, arith, drop, drop-set-lt, last_gap, length-set, lines_of, List, map, Part, part_read, refl, seen}
use Rattle.bz_hosts.proofs.FileSteps.{before, line_moved, moved}
use Rattle.bz_hosts.proofs.viewing.push_moved_part.Goals as goal

pub returns-then-is_line-clause-count : goal.returns-then-is_line-clause-count
returns-then-is_line-clause-count c = length-set c.args.parts.now.items c.args.at _

pub returns-then-is_line-clause-rest : goal.returns-then-is_line-clause-rest
returns-then-is_line-clause-rest c = drop-set-lt (c.args.at + 1) c.args.parts.now.items c.args.at _ (omega arith)

pub returns-then-is_line-clause-turn : goal.returns-then-is_line-clause-turn
returns-then-is_line-clause-turn c =
    let w = c.is_line.ensures c.if-is_line.true in
    line_moved c.args.parts.now.items c.as_slice-then-is_line.result.now c.take_parts-line.result c.args.at c.index_mut.result.now c.index.result.now _ w.0 c.args.above c.in_ok-next.next.0 c.as_slice-then-is_line-2.result.now c.gap_of_last.result.now c.gap_after-gap.result.now
    c.in_ok-next.next.1 c.args.items.now _ _ c.requires c.index_mut.ensures.value c.index.ensures w.1 w.2 (c.take_parts-line.ensures w.0) c.as_slice-then-is_line.ensures.value c.gap_after-gap.ensures
    (ap lines_of (c.as_slice-then-is_line-2.ensures ∙ c.in_ok-left.ensures) ∙ c.past_first_line.ensures) (c.gap_of_last.ensures ∙ ap (λ (ps : List Part). last_gap (map seen ps)) c.as_slice.ensures)
    c.in_ok-push_moved_statements.ensures c.in_ok-next.ensures.items c.in_ok-next.ensures.above c.in_ok-next.ensures.spent

pub returns-clause-turn : goal.returns-clause-turn
returns-clause-turn c =
    moved c.args.parts.now.items c.args.at c.index-2.result.now c.args.above c.in_ok-next-2.next.0 _ (lines_of c.gap_after-gap-2.result.now) (part_read c.index-2.result.now c.args.above (lines_of c.gap_after-gap-2.result.now)) c.in_ok-next-2.next.1 c.args.items.now _ _
    c.requires c.index-2.ensures (c.gap_after-gap-2.ensures ∙ ap (λ (ps : List Part). before (drop (c.args.at + 1) ps)) c.as_slice-2.ensures.value) refl c.in_ok-rest.ensures.left c.in_ok-rest.ensures.items
    c.in_ok-next-2.ensures.items c.in_ok-next-2.ensures.above c.in_ok-next-2.ensures.spent
