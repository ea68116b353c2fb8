use Rattle.bz_buildozer.proofs.Words.{◌≡◌, ◌⊎◌, ActsGrow, All, input_package, List, map, ReportsLines, take, TriesFiles, true, used_in, WorksOn, ℕ}
use Rattle.bz_buildozer.proofs.ending.write_files.Given as goal

-- what the packages so far leave
abbrev pub invariant-loop-used : goal.invariant-loop-used
invariant-loop-used g l = record {
  tries : (g.F.Files.honest l.fn.files ≡ true) ⊎ All (λ used. used.«package» ≡ input_package) (map used_in l.packages) → (lines : List (List ℕ))
      × TriesFiles l.cut l.options (map used_in (take l.used-index l.packages)) (g.F.Files.folder l.fn.files) lines (g.F.Files.folder l.files)
      × ReportsLines g.E.Sink l.fn.err l.err lines;
  kept : l.options.journal ≡ true → l.files ≡ l.fn.files;
  works : WorksOn g.F.Files l.cut l.fn.files l.files;
  grows : ActsGrow (g.F.Files.acts l.fn.files) (g.F.Files.acts l.files);
}
