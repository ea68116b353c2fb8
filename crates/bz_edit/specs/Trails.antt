-- A trail: the tree of one text, and the steps that lead from it to the trees of the others.
use Rattle.std.specs.Prelude.{ℕ, ◌≡◌, ◌≤◌, Bool, true, List, [], ◌∷◌, length, reverse, take, drop}
use Rattle.std.specs.List.{list_all}
use Rattle.bz_grammar.specs.declared.tree.Node.{Node}
use Rattle.bz_grammar.specs.Legal.{LegalBuild}
use Rattle.bz_grammar.specs.Spell.{spell_node, limit}
use Rattle.bz_edit.specs.declared.edit.Edit.{Edit}
use Rattle.bz_edit.specs.Steps.{IsStep, all_even, all_there, swap_node, turned_all}
use Rattle.bz_edit.specs.Between.{Least, step}

-- the present tree, the steps in the order of the texts that they are between, and how many of them lead back
pub record Trail : Type 0 where
  pub tree : Node
  pub steps : List (List Edit)
  pub cursor : ℕ

abbrev pub trail_at : Node → List (List Edit) → ℕ → Trail
trail_at tree steps cursor = record { tree = tree; steps = steps; cursor = cursor }

-- the steps that lead back, the nearest first
abbrev pub steps_back : Trail → List (List Edit)
steps_back t = reverse (take t.cursor t.steps)

-- those that lead forward, the nearest first
abbrev pub steps_forward : Trail → List (List Edit)
steps_forward t = drop t.cursor t.steps

-- ---- over steps, the nearest first

-- the trees to which they lead, one after the other
abbrev pub trees : Node → List (List Edit) → List Node
trees n [] = []
trees n (e ∷ es) = swap_node e n ∷ trees (swap_node e n) es

-- the tree after the last of them
abbrev pub reached : Node → List (List Edit) → Node
reached n [] = n
reached n (e ∷ es) = reached (swap_node e n) es

-- the steps that lead back over them, in the same order
abbrev pub crossed : Node → List (List Edit) → List (List Edit)
crossed n [] = []
crossed n (e ∷ es) = turned_all n e ∷ crossed (swap_node e n) es

-- whether each step is made of edits that hold as many parts as they cover
abbrev pub are_even : List (List Edit) → Bool
are_even = list_all all_even

-- ---- which trails there are

-- the legal tree of a BUILD file, whose spelling is within the limit
abbrev pub IsTree : Node → Type 0
IsTree n = LegalBuild n × (length (spell_node n) ≤ limit)

-- the step is well formed and small enough, its places are there, and it leads to a tree that spells another text
pub record StepLeads (e : List Edit) (n : Node) : Type 0 where
  pub is_step : IsStep e
  pub there : all_there e n ≡ true
  pub tree : IsTree (swap_node e n)
  pub other : spell_node (swap_node e n) ≡ spell_node n → ⊥

-- each step leads on from the tree that those before it lead to
abbrev pub LeadOn : Node → List (List Edit) → Type 0
LeadOn n [] = Unit {0}
LeadOn n (e ∷ es) = StepLeads e n × LeadOn (swap_node e n) es

pub record IsTrail (t : Trail) : Type 0 where
  pub tree : IsTree t.tree
  pub within : t.cursor ≤ length t.steps
  pub back : LeadOn t.tree (steps_back t)
  pub forward : LeadOn t.tree (steps_forward t)

-- ---- which trails are small

-- each step is the one from the tree that it leads to, to the tree that it leads from
abbrev pub AreSteps : Node → List (List Edit) → Type 0
AreSteps n [] = Unit {0}
AreSteps n (e ∷ es) = (e ≡ step (swap_node e n) n) × AreSteps (swap_node e n) es

abbrev pub IsSmall : Trail → Type 0
IsSmall t = AreSteps t.tree (steps_back t) × AreSteps t.tree (steps_forward t)

-- no well-formed step that leads to the same tree weighs less
abbrev pub AreLeast : Node → List (List Edit) → Type 0
AreLeast n [] = Unit {0}
AreLeast n (e ∷ es) = Least e (swap_node e n) n × AreLeast (swap_node e n) es

abbrev pub HasLeast : Trail → Type 0
HasLeast t = AreLeast t.tree (steps_back t) × AreLeast t.tree (steps_forward t)
