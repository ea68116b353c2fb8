use Rattle.bz_tree.proofs.Words.{[], ◌*◌, ◌+◌, ◌≡◌, ◌≤◌, choices, drop, found_by, found_from, length, plan_at, plan_of_header, take}
use Rattle.bz_tree.proofs.parser.Parser.head.Given as goal

abbrev pub invariant-moves : goal.invariant-moves
invariant-moves l = record {
  rest : found_from l.depth (drop l.from l.self.stack) l.state l.self.leaves ≡ found_by l.fn.depth [] (plan_of_header l.fn.which) l.fn.self.leaves;
  below : take l.from l.self.stack ≡ l.fn.self.stack;
  from : l.from ≤ length l.self.stack;
}

-- each move takes a leaf or leaves fewer choices
abbrev pub decreases-moves : goal.decreases-moves
decreases-moves l = 8 * length l.self.leaves + choices (plan_at l.state)
