-- Reading as words that do not unfold by themselves: a part, and a node by what is left of its plan.
use Rattle.std.specs.Prelude.{◌≡◌, ◌≤◌, ◌*◌, ℕ, List, [], ◌∷◌, ◌++◌, Option, Some, None, drop, length, if◌then◌else◌}
use Rattle.bz_lex.specs.declared.leaf.Leaf.{Leaf}
use Rattle.bz_grammar.specs.declared.tree.Part.{Part}
use Rattle.bz_states.specs.declared.state.NodeState.{NodeState}
use Rattle.bz_states.specs.declared.state.Move.{Move}
use Rattle.bz_states.specs.declared.state.Move.TheVariants as m
use Rattle.bz_grammar.specs.Spell.{deepest, depth_limit, depth_part}
use Rattle.bz_grammar.specs.Shapes.{Nonterminal}
use Rattle.bz_grammar.specs.Reading.{◌>>=◌, Read, starts_with, reading, Plan, FoundLevel, follow, wrap_found, node_part}
use Rattle.bz_states.specs.Tokens.{terminals_of, token_at}
use Rattle.bz_states.specs.States.{nonterminal_of, plan_at}

-- a part of a sort of at most that depth
unfoldable pub part_at : ℕ → Nonterminal → Read Part
part_at d q ts = reading d q ts

-- what was read before, and what is still found
abbrev pub with_found : List Part → Option (FoundLevel × List Leaf) → Option (FoundLevel × List Leaf)
with_found front None = None
with_found front (Some x) = Some ((x.0.0, front ++ x.0.1), x.1)

-- a node, of which front was read before and the plan is left
unfoldable pub found_by : ℕ → List Part → Plan → Read Part
found_by d front plan ts = wrap_found (with_found front (follow (reading d) plan ts))

-- What was read is put after other parts, and how deep it is.
abbrev pub Pushes : Option (Part × List Leaf) → List Part → List Part → List Leaf → ℕ → Type 0
Pushes read front all new deep = (x : Part) × (read ≡ Some (x, new)) × (all ≡ front ++ (x ∷ [])) × (deep ≡ depth_part x)

-- the parts of a node that is not read to its end are on the stack from a place on, as deep as was found, within the depth that is left
pub record IsOpen (at found left : ℕ) (parts : List Part) : Type 0 where
  pub from : at ≤ length parts
  pub deep : found ≡ deepest (drop at parts)
  pub within : found ≤ left
  pub small : left ≤ 2 * depth_limit

-- a node of which front was read before
unfoldable pub found_from : ℕ → List Part → NodeState → Read Part
found_from d front state ts = found_by d front (plan_at state) ts

-- what a move reads
abbrev pub read_by_move : ℕ → List Part → Move → Read Part
read_by_move d front (m.Finish kind) ts = Some (node_part kind front, ts)
read_by_move d front (m.Take token state) ts = token_at (terminals_of token) ts >>= λ x. found_from d (front ++ (x.0 ∷ [])) state x.1
read_by_move d front (m.Read place state) ts = part_at d (nonterminal_of place) ts >>= λ x. found_from d (front ++ (x.0 ∷ [])) state x.1
read_by_move d front (m.Choose token left right) ts = if starts_with (terminals_of token) ts then found_from d front left ts else found_from d front right ts
