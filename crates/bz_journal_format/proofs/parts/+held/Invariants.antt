use Rattle.bz_journal_format.proofs.Words.{◌*◌, ◌+◌, ◌-◌, ◌≡◌, held_at, repeated}
use Rattle.bz_journal_format.proofs.Loops.{with_front}
use Rattle.bz_journal_format.proofs.parts.+held.Given as goal

abbrev pub decreases-read_part : goal.decreases-read_part
decreases-read_part l = 4 * l.depth + 1

abbrev pub decreases-read_node : goal.decreases-read_node
decreases-read_node l = 4 * l.depth

abbrev pub decreases-read_node_of : goal.decreases-read_node_of
decreases-read_node_of l = 4 * l.depth + 3

abbrev pub decreases-read_parts : goal.decreases-read_parts
decreases-read_parts l = 4 * l.depth + 2

abbrev pub invariant-read_parts-parts : goal.invariant-read_parts-parts
invariant-read_parts-parts l = with_front l.parts.items (repeated (held_at l.depth) (l.count - l.counter) l.rest) ≡ repeated (held_at l.depth) l.count l.input
