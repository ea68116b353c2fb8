use Rattle.bz_buildozer.proofs.Words.{◌++◌, ◌||◌, ◌≡◌, drop, has_changed, list_any, map, texts_out, used_in}
use Rattle.bz_buildozer.proofs.ending.put_texts.Given as goal

-- what is left makes of it what all packages do
abbrev pub invariant-loop-used : goal.invariant-loop-used
invariant-loop-used l = record {
  changed : (l.changed || list_any has_changed (map used_in (drop l.used-index l.packages))) ≡ list_any has_changed (map used_in l.packages);
  output : l.output.items ++ texts_out l.ending.shown l.ending.options.to_stdout (map used_in (drop l.used-index l.packages))
      ≡ l.fn.output.items ++ texts_out l.ending.shown l.ending.options.to_stdout (map used_in l.packages);
}
