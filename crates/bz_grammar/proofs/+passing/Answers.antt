use Rattle.bz_grammar.proofs.Words.{◌+◌, ◌∙◌, all_passed, ap, arith, flat_map, length, line_following, map, newlines, own_front, rules, spell_part, sym, take, the_lemmas}
use Rattle.bz_grammar.proofs.Statements.{line_more, text_to}
use Rattle.bz_grammar.proofs.AllLines.{alone_lines, inner_text, line_turn, lines_among, part_fits, passed_both, passed_turn, within_lines}
use Rattle.bz_grammar.proofs.+passing.Goals as goal

pub statement::pass_all-pass-line-requires : goal.statement::pass_all-pass-line-requires
statement::pass_all-pass-line-requires t c =
    (search (rules, the_lemmas), omega (arith, c.requires, part_fits c.args.parts.now c.loop-part.part-index c.args.first c.loop-part.line c.part-item.result c.loop-part-test.true c.part-item.is c.loop-part.invariant.line_is))

pub tree::Part::pass-pass_all-requires : goal.tree::Part::pass-pass_all-requires
tree::Part::pass-pass_all-requires t c =
    (search (rules, the_lemmas), omega (arith, c.requires, ap length (inner_text c.args.self.now c.in-Node.node c.as_slice.result.now c.in-Node.is c.as_slice.ensures)))

pub tree::Part::pass-returns-then-has_statements-clause-following :
    goal.tree::Part::pass-returns-then-has_statements-clause-following
tree::Part::pass-returns-then-has_statements-clause-following t c =
    c.pass_all.ensures.following ∙ ap (λ text. c.args.first + newlines text) (inner_text c.args.self.now c.in-Node.node c.as_slice.result.now c.in-Node.is c.as_slice.ensures)

pub tree::Part::pass-returns-then-has_statements-clause-sought :
    goal.tree::Part::pass-returns-then-has_statements-clause-sought
tree::Part::pass-returns-then-has_statements-clause-sought t c = λ front e.
    c.pass_all.ensures.sought front e ∙ ap (λ s. all_passed s (lines_among front c.as_slice.result.now)) (c.pass_own.ensures front e) ∙ sym (passed_both c.args.sought.now (map line_following (own_front front c.args.self.now)) (lines_among front c.as_slice.result.now))
    ∙ ap (all_passed c.args.sought.now) (within_lines c.args.self.now c.in-Node.node c.as_slice.result.now front c.in-Node.is c.as_slice.ensures (sym c.has_statements.ensures ∙ c.if-has_statements.true))

pub tree::Part::pass-returns-else-has_statements-clause-sought :
    goal.tree::Part::pass-returns-else-has_statements-clause-sought
tree::Part::pass-returns-else-has_statements-clause-sought t c = λ front e.
    c.pass_own.ensures front e ∙ ap (all_passed c.args.sought.now) (alone_lines c.args.self.now c.in-Node.node front c.in-Node.is (sym c.has_statements.ensures ∙ c.if-has_statements.false))

pub statement::pass_all-loop-part-preserved : goal.statement::pass_all-loop-part-preserved
statement::pass_all-loop-part-preserved t c = record {
  line_is = line_turn c.args.parts.now c.loop-part.part-index c.args.first c.loop-part.line _ c.part-item.result c.loop-part-test.true c.part-item.is c.pass-line.ensures.following c.loop-part.invariant.line_is;
  sought = λ front e.
      let text = flat_map spell_part (take c.loop-part.part-index c.args.parts.now) in
      passed_turn front c.args.parts.now c.loop-part.part-index c.part-item.result c.loop-part.sought _ _ c.loop-part-test.true c.part-item.is
      (c.pass-line.ensures.sought (text_to front c.args.parts.now c.loop-part.part-index) (line_more front text ∙ (ap (λ n. n + newlines text) e ∙ sym c.loop-part.invariant.line_is))) (c.loop-part.invariant.sought front e);
}
