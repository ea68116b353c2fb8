-- What is hashed of a tree.
use Rattle.bz_journal.proofs.Words.{◌≡◌, flat_map, Node, spell_part}
use Rattle.bz_grammar.specs.declared.tree.Part as p
use Rattle.bz_grammar.proofs.Spells as below

-- the spelling of a node that is a part is that of its parts
pub node_spelled : (n : Node) → spell_part (p.Node n) ≡ flat_map spell_part n.parts
node_spelled n = below.spell_Node n
