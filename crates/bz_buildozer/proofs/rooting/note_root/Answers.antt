use Rattle.bz_buildozer.proofs.Words.{◌∙◌, ◌≡◌, Bor, false, List, map, names_file, option_map, requested_in, sym, true, ℕ}
use Rattle.bz_buildozer.proofs.{RootsAbove.nothing_noted, RootsAbove.root_noted, StepLists.filed_in_lines}
use Rattle.bz_buildozer.proofs.rooting.note_root.Goals as goal

pub returns-then-not-names_file-clause-ok : goal.returns-then-not-names_file-clause-ok
returns-then-not-names_file-clause-ok g c = λ premise.
    let none : names_file (map requested_in c.args.lines.now) ≡ false = filed_in_lines c.args.lines.now ∙ sym c.names_file.ensures ∙ c.if-not-names_file.true in
    nothing_noted g.E.Sink (map requested_in c.args.lines.now) (g.F.Files.folder c.args.files.now) (g.F.Files.honest c.args.files.now) premise c.args.err.now none

pub returns-clause-ok : goal.returns-clause-ok
returns-clause-ok g c = λ premise.
    let named : names_file (map requested_in c.args.lines.now) ≡ true = filed_in_lines c.args.lines.now ∙ sym c.names_file.ensures ∙ c.if-not-names_file.false in
    root_noted g.E.Sink (map requested_in c.args.lines.now) (g.F.Files.folder c.args.files.now) (g.F.Files.honest c.args.files.now) premise c.args.err.now c.report_root.new.err
    (option_map (λ (s : Bor (List ℕ)). s.now) c.as_deref.result) named
    (λ honest. c.as_deref.ensures.value ∙ c.in_ok-root.ensures honest) c.report_root.ensures
