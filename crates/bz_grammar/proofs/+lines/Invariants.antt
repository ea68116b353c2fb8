use Rattle.bz_grammar.proofs.Words.{◌++◌, ◌+◌, ◌≡◌, drop, flat_map, line_following, List, newlines, spell_part, take, ℕ}
use Rattle.bz_grammar.proofs.{Statements.text_to, AllLines.lines_among}
use Rattle.bz_grammar.proofs.+lines.Given as goal

abbrev pub invariant-statement::push_all-loop-part : goal.invariant-statement::push_all-loop-part
invariant-statement::push_all-loop-part l = record {
  line_is : l.line ≡ l.first + newlines (flat_map spell_part (take l.part-index l.parts));
  lines : (front : List ℕ) → line_following front ≡ l.first → l.lines.items ++ lines_among (text_to front l.parts l.part-index) (drop l.part-index l.parts) ≡ l.fn.lines.items ++ lines_among front l.parts;
}
