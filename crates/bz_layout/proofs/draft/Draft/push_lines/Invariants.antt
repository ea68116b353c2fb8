use Rattle.bz_layout.proofs.Words.{◌≡◌, at_margin, drop, indented_lines, pushed}
use Rattle.bz_layout.proofs.draft.Draft.push_lines.Given as goal

abbrev pub invariant-loop-text : goal.invariant-loop-text
invariant-loop-text l = pushed l.self (indented_lines (at_margin l.margin (drop l.text-index l.texts))) ≡ pushed l.fn.self (indented_lines (at_margin l.margin l.texts))
