-- What a trail means: whole texts; and what its moves make of them.
use Rattle.std.specs.Prelude.{◌≤◌, ℕ, ◌≡◌, ◌<◌, ◌+◌, List, [], ◌∷◌, ◌++◌, length, map, reverse, take, slice_index_or}
use Rattle.std.specs.List.{All}
use Rattle.bz_grammar.specs.declared.tree.Node.{Node}
use Rattle.bz_grammar.specs.Legal.{Accepted}
use Rattle.bz_grammar.specs.Spell.{spell_node}
use Rattle.bz_edit.specs.declared.edit.Edit.{Edit}
use Rattle.bz_edit.specs.Steps.{swap_node}
use Rattle.bz_edit.specs.Between.{step}
use Rattle.bz_edit.specs.Trails.{HasLeast, IsSmall, IsTrail, IsTree, StepLeads, Trail, steps_back, steps_forward, trail_at, trees}

abbrev pub Text : Type 0
Text = List ℕ

-- the trees after a tree, the tree, and those ahead
abbrev pub trees_around : List (List Edit) → Node → List (List Edit) → List Node
trees_around back n forward = reverse (trees n back) ++ n ∷ trees n forward

-- the trees of the texts, in the order in which they came
abbrev pub trees_of : Trail → List Node
trees_of t = trees_around (steps_back t) t.tree (steps_forward t)

-- the texts, in the order in which they came
abbrev pub texts_of : Trail → List Text
texts_of t = map spell_node (trees_of t)

-- what the texts of each trail are: accepted, one more than steps, the one at the cursor that of the tree
pub record IsKeptTrail (t : Trail) : Type 0 where
  pub accepted : All Accepted (texts_of t)
  pub counted : length (texts_of t) ≡ length t.steps + 1
  pub within : t.cursor < length (texts_of t)
  pub present : slice_index_or (texts_of t) t.cursor [] ≡ spell_node t.tree

-- ---- moves

-- The cursor moves, and the texts stay.
pub record Moves (old new : Trail) : Type 0 where
  pub trail : IsTrail new
  pub texts : texts_of new ≡ texts_of old
  pub small : IsSmall old → IsSmall new

-- The texts after the present one are cut, and that of the next tree is appended and is the present one; the steps before it stay.
pub record TakesUp (old : Trail) (next : Node) (new : Trail) : Type 0 where
  pub trail : IsTrail new
  pub tree : new.tree ≡ next
  pub texts : texts_of new ≡ take (old.cursor + 1) (texts_of old) ++ spell_node next ∷ []
  pub steps : take old.cursor new.steps ≡ take old.cursor old.steps
  pub small : IsSmall old → IsSmall new

-- ---- the steps by their numbers

-- what holds of step i and the trees i and i + 1, of which it leads to the first before the cursor, and to the second from there on
abbrev pub EachStep : (List Edit → Node → Node → Type 0) → Trail → Type 0
EachStep Leads t = (i : ℕ) (d : Node) → i < length t.steps →
    let e = slice_index_or t.steps i [] in
    let x = slice_index_or (trees_of t) i d in
    let y = slice_index_or (trees_of t) (i + 1) d in
    (i < t.cursor → Leads e y x) × (t.cursor ≤ i → Leads e x y)

-- the step leads from the first tree to the second
abbrev pub LeadsTo : List Edit → Node → Node → Type 0
LeadsTo e y x = StepLeads e y × (swap_node e y ≡ x)

abbrev pub StepsLead : Trail → Type 0
StepsLead = EachStep LeadsTo

-- it is the step from the tree that it leads to
abbrev pub StepsAreBetween : Trail → Type 0
StepsAreBetween = EachStep (λ e y x. e ≡ step x y)

-- ---- laws

abbrev pub TrailsKeep : Type 0
TrailsKeep = (t : Trail) → IsTrail t → IsKeptTrail t

abbrev pub TrailsLead : Type 0
TrailsLead = (t : Trail) → IsTrail t → StepsLead t

-- the steps of a small trail are those between its trees
abbrev pub SmallIsBetween : Type 0
SmallIsBetween = (t : Trail) → IsTrail t → IsSmall t → StepsAreBetween t

-- and no well-formed step that leads to the same tree weighs less
abbrev pub SmallIsLeast : Type 0
SmallIsLeast = (t : Trail) → IsSmall t → HasLeast t

-- a trail of one tree
abbrev pub StartsSmall : Type 0
StartsSmall = (n : Node) → IsTree n → let t : Trail = trail_at n [] 0 in IsTrail t × IsSmall t × (texts_of t ≡ spell_node n ∷ [])
