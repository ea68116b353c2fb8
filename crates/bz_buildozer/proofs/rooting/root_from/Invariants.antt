use Rattle.bz_buildozer.proofs.Words.{◌-◌, ◌≡◌, codes, root_from, string_bytes, true}
use Rattle.bz_buildozer.proofs.rooting.root_from.Given as goal

-- none of the folders up to this one is a root
abbrev pub invariant-loop : goal.invariant-loop
invariant-loop g l =
    g.F.Files.honest l.files ≡ true
    → root_from 16 (g.F.Files.folder l.files) (codes "../") ≡ root_from (16 - l.counter) (g.F.Files.folder l.files) (string_bytes l.path)
