use Rattle.bz_buildifier.proofs.Words.{◌≡◌, Counts, Cut as c, drop, effect_seen, Folder, map, ReadsRegular, Reports, true, Writes}
use Rattle.bz_buildifier.specs.FormatRun as r
use Rattle.bz_buildifier.proofs.formatting.buildifier.Given as goal

-- what the files that are left do is what all do
abbrev pub invariant-loop-name : goal.invariant-loop-name
invariant-loop-name g l = record {
  runs : g.F.Files.honest l.fn.files ≡ true → (run : r.Effect) × (l.progress ≡ effect_seen run)
      × ((after : r.Effect) (last : Folder) → r.FilesFormatted l.options.mode l.options.file_type (map (λ name. name.now) (drop l.name-index l.names)) run (g.F.Files.folder l.files) after last
      → r.FilesFormatted l.options.mode l.options.file_type (map (λ name. name.now) l.names) r.begun (g.F.Files.folder l.fn.files) after last)
      × Writes run.closes (g.W.Sink.faults l.fn.out) (g.W.Sink.faults l.out) (g.W.Sink.contents l.fn.out) (g.W.Sink.contents l.out) run.out
      × Reports (g.E.Sink.faults l.fn.err) (g.E.Sink.faults l.err) (g.E.Sink.contents l.fn.err) (g.E.Sink.contents l.err) run.lines;
  regular : ReadsRegular (g.F.Files.acts l.fn.files) (g.F.Files.acts l.files);
  status : (l.progress.cut ≡ c.Whole → ⊥) → l.progress.status ≡ 3;
  cut : r.IsCutBy l.progress.cut (g.F.Files.faults l.fn.files) (g.F.Files.faults l.files) (g.W.Sink.faults l.fn.out) (g.W.Sink.faults l.out);
  files : Counts (g.F.Files.faults l.fn.files) (g.F.Files.faults l.files);
  counts : Counts (g.W.Sink.faults l.fn.out) (g.W.Sink.faults l.out);
  honest : g.F.Files.honest l.files ≡ g.F.Files.honest l.fn.files;
}
