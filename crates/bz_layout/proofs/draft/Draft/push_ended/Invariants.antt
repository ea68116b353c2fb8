use Rattle.bz_layout.proofs.Words.{◌≡◌, drop, ended, pushed}
use Rattle.bz_layout.proofs.draft.Draft.push_ended.Given as goal

abbrev pub invariant-loop-text : goal.invariant-loop-text
invariant-loop-text l = pushed l.self (ended l.inner l.margin (drop l.text-index l.texts)) ≡ pushed l.fn.self (ended l.inner l.margin l.texts)
