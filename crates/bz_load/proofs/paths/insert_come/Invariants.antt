use Rattle.bz_load.proofs.Words.{◌||◌, ◌≡◌, Bytes, come_with, drop, knows_name}
use Rattle.bz_load.proofs.paths.insert_come.Given as goal

abbrev pub invariant-loop-window : goal.invariant-loop-window
invariant-loop-window l = (text : Bytes) → (come_with text (drop l.window-index l.windows) l.rest || knows_name l.texts text) ≡ (come_with text l.windows l.items || knows_name l.fn.texts text)
