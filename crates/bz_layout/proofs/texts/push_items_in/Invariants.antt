use Rattle.bz_layout.proofs.Words.{◌≡◌, drop, layout_in, pushed}
use Rattle.bz_layout.proofs.texts.push_items_in.Given as goal

abbrev pub invariant-loop-i : goal.invariant-loop-i
invariant-loop-i l = pushed l.out (layout_in l.lines (drop l.i l.items)) ≡ pushed l.fn.out (layout_in l.lines l.items)
