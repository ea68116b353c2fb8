use Rattle.bz_grammar.proofs.Words.{◌++◌, ◌+◌, ◌∙◌, ◌≡◌, ap, append_assoc, arith, flat_map, IfOk, length, line_following, map, newlines, OnOk, own_front, rules, spell_part, subst, sym, take, the_lemmas}
use Rattle.bz_grammar.proofs.Statements.{line_more, text_to}
use Rattle.bz_grammar.proofs.AllLines.{alone_lines, inner_text, line_turn, lines_among, part_fits, pushed_turn, within_lines}
use Rattle.bz_grammar.proofs.+lines.Goals as goal

pub statement::push_all-push_lines-requires : goal.statement::push_all-push_lines-requires
statement::push_all-push_lines-requires t c =
    (search (rules, the_lemmas), omega (arith, c.requires, part_fits c.args.parts.now c.loop-part.part-index c.args.first c.loop-part.line c.part-item.result c.loop-part-test.true c.part-item.is c.loop-part.invariant.line_is))

pub tree::Part::push_lines-push_all-requires : goal.tree::Part::push_lines-push_all-requires
tree::Part::push_lines-push_all-requires t c =
    (search (rules, the_lemmas), omega (arith, c.requires, ap length (inner_text c.args.self.now c.in-Node.node c.as_slice.result.now c.in-Node.is c.as_slice.ensures)))

pub tree::Part::push_lines-returns-then-has_statements-clause-following :
    goal.tree::Part::push_lines-returns-then-has_statements-clause-following
tree::Part::push_lines-returns-then-has_statements-clause-following t c =
    subst (λ text. IfOk c.push_all.result (λ line. line ≡ c.args.first + newlines text)) (inner_text c.args.self.now c.in-Node.node c.as_slice.result.now c.in-Node.is c.as_slice.ensures) c.push_all.ensures.following

pub tree::Part::push_lines-returns-then-has_statements-clause-lines :
    goal.tree::Part::push_lines-returns-then-has_statements-clause-lines
tree::Part::push_lines-returns-then-has_statements-clause-lines t c = λ front e.
    let own : c.push_own.new.lines.items ≡ c.args.lines.now.items ++ map line_following (own_front front c.args.self.now) = c.in_ok-push_own.ensures front e in
    subst (λ ls. OnOk c.push_all.result (c.push_all.new.lines.items ≡ ls))
    (ap (λ ls. ls ++ lines_among front c.as_slice.result.now) own ∙ append_assoc c.args.lines.now.items _ _
    ∙ ap (λ ls. c.args.lines.now.items ++ ls) (within_lines c.args.self.now c.in-Node.node c.as_slice.result.now front c.in-Node.is c.as_slice.ensures (sym c.has_statements.ensures ∙ c.if-has_statements.true)))
    (c.push_all.ensures.lines front e)

pub tree::Part::push_lines-returns-else-has_statements-clause-lines :
    goal.tree::Part::push_lines-returns-else-has_statements-clause-lines
tree::Part::push_lines-returns-else-has_statements-clause-lines t c = λ front e.
    c.in_ok-push_own.ensures front e ∙ ap (λ ls. c.args.lines.now.items ++ ls) (alone_lines c.args.self.now c.in-Node.node front c.in-Node.is (sym c.has_statements.ensures ∙ c.if-has_statements.false))

pub statement::push_all-loop-part-preserved : goal.statement::push_all-loop-part-preserved
statement::push_all-loop-part-preserved t c = record {
  line_is = line_turn c.args.parts.now c.loop-part.part-index c.args.first c.loop-part.line _ c.part-item.result c.loop-part-test.true c.part-item.is c.in_ok-line.ensures.following c.loop-part.invariant.line_is;
  lines = λ front e.
      let text = flat_map spell_part (take c.loop-part.part-index c.args.parts.now) in
      pushed_turn front c.args.parts.now c.loop-part.part-index c.part-item.result c.loop-part.lines.items _ _ c.loop-part-test.true c.part-item.is
      (c.in_ok-line.ensures.lines (text_to front c.args.parts.now c.loop-part.part-index) (line_more front text ∙ (ap (λ n. n + newlines text) e ∙ sym c.loop-part.invariant.line_is))) (c.loop-part.invariant.lines front e);
}
