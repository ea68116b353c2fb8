use Rattle.bz_build_format.proofs.Words.{◌++◌, ◌≡◌, AreAmong, drop, text_with}
use Rattle.bz_build_format.proofs.reading.whole_text.Given as goal

-- what is left is what the text goes on with
abbrev pub invariant-loop-window : goal.invariant-loop-window
invariant-loop-window l =
    let texts = drop l.window-index l.windows in
    (l.out.items ++ text_with texts l.left ≡ text_with l.windows l.fn.parts) × AreAmong texts l.left
