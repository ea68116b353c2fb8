use Rattle.bz_tree.proofs.Words.{[], ◌*◌, ◌++◌, ◌+◌, ◌-◌, ◌∷◌, ◌≡◌, ◌≤◌, choices, deepest, depth_part, drop, found_from, ItemsAt as items_at, length, level_at, NodeState as s, Part, plan_at, RisesFrom, row_of_items, suffixes_at, take}
use Rattle.bz_tree.proofs.parser.Parser.+parser.Given as goal

-- each part inside is one deeper; the functions of one depth in the order in which they call each other
abbrev pub decreases-part : goal.decreases-part
decreases-part l = 20 * l.depth

abbrev pub decreases-items_of_row : goal.decreases-items_of_row
decreases-items_of_row l = 20 * l.depth + 1

abbrev pub decreases-token_and_part : goal.decreases-token_and_part
decreases-token_and_part l = 20 * l.depth + 1

abbrev pub decreases-more_of_row : goal.decreases-more_of_row
decreases-more_of_row l = 20 * l.depth + 2

abbrev pub decreases-square : goal.decreases-square
decreases-square l = 20 * l.depth + 4

abbrev pub decreases-follow : goal.decreases-follow
decreases-follow l = 20 * l.depth + 3

abbrev pub decreases-begin : goal.decreases-begin
decreases-begin l = 20 * l.depth + 4

abbrev pub decreases-go_on : goal.decreases-go_on
decreases-go_on l = 20 * l.depth + 4

abbrev pub decreases-raised : goal.decreases-raised
decreases-raised l = 20 * l.depth + 5

abbrev pub decreases-atom : goal.decreases-atom
decreases-atom l = 20 * l.depth + 5

abbrev pub decreases-primary : goal.decreases-primary
decreases-primary l = 20 * l.depth + 6

abbrev pub decreases-operand : goal.decreases-operand
decreases-operand l = 20 * l.depth + 7

abbrev pub decreases-expression : goal.decreases-expression
decreases-expression l = 20 * l.depth + 8

abbrev pub decreases-argument : goal.decreases-argument
decreases-argument l = 20 * l.depth + 9

abbrev pub decreases-param : goal.decreases-param
decreases-param l = 20 * l.depth + 9

abbrev pub invariant-items_of_row-more : goal.invariant-items_of_row-more
invariant-items_of_row-more l = record {
  row : l.row ≡ row_of_items l.fn.listed;
  rest : found_from l.depth (drop l.from l.self.stack) (s.Items l.fn.listed items_at.Begin) l.self.leaves ≡ found_from l.fn.depth (drop l.fn.from l.fn.self.stack) (s.Items l.fn.listed items_at.Begin) l.fn.self.leaves;
  below : take l.from l.self.stack ≡ take l.fn.from l.fn.self.stack;
  from : l.from ≤ length l.self.stack;
  deep : l.deep ≡ deepest (drop l.from l.self.stack);
  within : l.deep ≤ l.depth;
}

abbrev pub decreases-items_of_row-more : goal.decreases-items_of_row-more
decreases-items_of_row-more l = length l.self.leaves

abbrev pub invariant-follow-moves : goal.invariant-follow-moves
invariant-follow-moves l = record {
  rest : found_from l.depth (drop l.from l.self.stack) l.state l.self.leaves ≡ found_from l.fn.depth (drop l.fn.from l.fn.self.stack) l.fn.state l.fn.self.leaves;
  below : take l.from l.self.stack ≡ take l.fn.from l.fn.self.stack;
  from : l.from ≤ length l.self.stack;
  deep : l.deep ≡ deepest (drop l.from l.self.stack);
  within : l.deep ≤ l.depth;
}

-- each move takes a leaf or leaves fewer choices
abbrev pub decreases-follow-moves : goal.decreases-follow-moves
decreases-follow-moves l = 8 * length l.self.leaves + choices (plan_at l.state)

abbrev pub invariant-expression-ranks : goal.invariant-expression-ranks
invariant-expression-ranks l = record {
  from : l.from ≡ length l.fn.self.stack;
  rises : RisesFrom l.depth l.rank l.n l.fn.self.leaves l.self.leaves l.fn.self.stack l.self.stack l.deep;
}

abbrev pub decreases-expression-ranks : goal.decreases-expression-ranks
decreases-expression-ranks l = l.n - l.rank

abbrev pub invariant-primary-suffixes : goal.invariant-primary-suffixes
invariant-primary-suffixes l = record {
  from : l.from ≡ length l.fn.self.stack;
  goes : (a : Part) × (suffixes_at l.depth a l.self.leaves ≡ level_at l.fn.depth 0 l.fn.self.leaves) × (l.self.stack ≡ l.fn.self.stack ++ (a ∷ [])) × (l.deep ≡ depth_part a);
}

abbrev pub decreases-primary-suffixes : goal.decreases-primary-suffixes
decreases-primary-suffixes l = length l.self.leaves
