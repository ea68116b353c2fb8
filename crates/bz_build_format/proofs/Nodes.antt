-- What leaves and nodes spell.
use Rattle.bz_build_format.proofs.Words.{◌++◌, ◌-◌, ◌∙◌, ◌≡◌, ◌≤◌, ap, append_assoc, arith, at_side, Bytes, drop, joined_at, length, List, Node, Part, spell_Node, spell_part, spelled_parts, sym, take_all, ℕ}
use Rattle.bz_grammar.specs.declared.tree.Part.TheVariants as p
use Rattle.bz_build_format.specs.{declared.ends.Side.Side, declared.ends.Side.TheVariants.Front, declared.ends.Side.TheVariants.Back}

-- as many parts at a side as there are
all_at_side : (side : Side) (n : ℕ) (parts : List Part) → length parts ≤ n → at_side side n parts ≡ parts
all_at_side Front n parts h = take_all n parts h
all_at_side Back n parts h = let none : length parts - n ≡ 0 = omega (arith, h) in ap (λ k. drop k parts) none

-- a text with all parts of a node at a side
pub node_beside : (side : Side) (n : ℕ) (node : Node) (part : Part) (parts : List Part) (text rest : Bytes) → part ≡ p.Node node → parts ≡ node.parts → length node.parts ≤ n
    → text ≡ joined_at side (spelled_parts (at_side side n parts)) rest → text ≡ joined_at side (spell_part part) rest
node_beside side n node part parts text rest own all h is =
    is ∙ ap (λ t. joined_at side t rest) (ap (λ xs. spelled_parts (at_side side n xs)) all ∙ (ap spelled_parts (all_at_side side n node.parts h) ∙ (sym (spell_Node node) ∙ ap spell_part (sym own))))

-- a text after a leaf, and before one
pub after_leaf : (text rest following gap token : Bytes) → text ≡ gap ++ rest → rest ≡ token ++ following → text ≡ (gap ++ token) ++ following
after_leaf text rest following gap token is own = is ∙ (ap (λ t. gap ++ t) own ∙ sym (append_assoc gap token following))

pub before_leaf : (text rest front gap token : Bytes) → text ≡ rest ++ token → rest ≡ front ++ gap → text ≡ front ++ (gap ++ token)
before_leaf text rest front gap token is own = is ∙ (ap (λ t. t ++ token) own ∙ append_assoc front gap token)
