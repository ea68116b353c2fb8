use Rattle.bz_layout.proofs.Words.{◌≡◌, drop, margin_lines, pushed}
use Rattle.bz_layout.proofs.draft.Draft.push_above.Given as goal

abbrev pub invariant-loop-text : goal.invariant-loop-text
invariant-loop-text l = pushed l.self (margin_lines l.margin (drop l.text-index l.texts)) ≡ pushed l.fn.self (margin_lines l.margin l.texts)
