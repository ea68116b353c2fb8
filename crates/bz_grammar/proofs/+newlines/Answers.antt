use Rattle.bz_grammar.proofs.Words.{◌∙◌, ◌≡◌, ap, arith, flat_map, length, rules, spell_part, the_lemmas}
use Rattle.bz_grammar.proofs.Spells.{spell_Node, spelled_so_far}
use Rattle.bz_grammar.proofs.+newlines.Goals as goal

pub tree::Part::newlines-newlines_of-requires : goal.tree::Part::newlines-newlines_of-requires
tree::Part::newlines-newlines_of-requires t c =
    let e : length (spell_part c.args.self.now) ≡ length (flat_map spell_part c.as_slice.result.now) =
    rw c.as_slice.ensures (ap (λ x. length (spell_part x)) c.in-Node.is ∙ ap length (spell_Node c.in-Node.node)) in
    (search (rules, the_lemmas), omega (arith, e))

pub statement::newlines_of-newlines-sum-requires : goal.statement::newlines_of-newlines-sum-requires
statement::newlines_of-newlines-sum-requires t c =
    (search (rules, the_lemmas), rw c.part-item.is (omega (arith, c.requires, spelled_so_far c.args.parts.now c.loop-part.part-index c.part-item.result c.loop-part-test.true)))
