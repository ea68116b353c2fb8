use Rattle.bz_buildozer.proofs.Words.{◌++◌, AreOfInput, flat_map, map, requested_in, spot, take}
use Rattle.bz_buildozer.proofs.RunSteps.{Done, lines_before, on_target}
use Rattle.bz_buildozer.proofs.running.run_lines.Given as goal

-- these steps, the first of all, were done
abbrev pub invariant-loop-line : goal.invariant-loop-line
invariant-loop-line g l = Done l.options.journal (AreOfInput (map requested_in l.lines)) l.options.keep_going (lines_before l.line-index l.lines) l.cut
    (spot g.R.Source g.F.Files g.E.Sink l.fn.run l.fn.input l.fn.files l.fn.err) (spot g.R.Source g.F.Files g.E.Sink l.run l.input l.files l.err)

-- and those on the targets of a line so far
abbrev pub invariant-loop-target : goal.invariant-loop-target
invariant-loop-target g l = Done l.options.journal (AreOfInput (map requested_in l.lines)) l.options.keep_going
    (lines_before l.line-index l.lines ++ flat_map (on_target l.line.commands.items) (take l.target-index l.line.targets.items)) l.cut
    (spot g.R.Source g.F.Files g.E.Sink l.fn.run l.fn.input l.fn.files l.fn.err) (spot g.R.Source g.F.Files g.E.Sink l.run l.input l.files l.err)

-- and on this target the commands so far
abbrev pub invariant-loop-request : goal.invariant-loop-request
invariant-loop-request g l = Done l.options.journal (AreOfInput (map requested_in l.lines)) l.options.keep_going
    (lines_before l.line-index l.lines ++ (flat_map (on_target l.line.commands.items) (take l.target-index l.line.targets.items)
    ++ on_target (take l.request-index l.line.commands.items) l.target)) l.cut
    (spot g.R.Source g.F.Files g.E.Sink l.fn.run l.fn.input l.fn.files l.fn.err) (spot g.R.Source g.F.Files g.E.Sink l.run l.input l.files l.err)
