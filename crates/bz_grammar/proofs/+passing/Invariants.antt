use Rattle.bz_grammar.proofs.Words.{◌+◌, ◌≡◌, all_passed, drop, flat_map, line_following, List, newlines, spell_part, take, ℕ}
use Rattle.bz_grammar.proofs.{Statements.text_to, AllLines.lines_among}
use Rattle.bz_grammar.proofs.+passing.Given as goal

abbrev pub invariant-statement::pass_all-loop-part : goal.invariant-statement::pass_all-loop-part
invariant-statement::pass_all-loop-part l = record {
  line_is : l.line ≡ l.first + newlines (flat_map spell_part (take l.part-index l.parts));
  sought : (front : List ℕ) → line_following front ≡ l.first → all_passed l.sought (lines_among (text_to front l.parts l.part-index) (drop l.part-index l.parts)) ≡ all_passed l.fn.sought (lines_among front l.parts);
}
