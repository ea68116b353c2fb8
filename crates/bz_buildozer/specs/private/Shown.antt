-- How far a run has come, and lines, as contracts see them.
use Rattle.std.specs.Prelude.{Bool, not, ◌&&◌}
use Rattle.std.specs.List.{list_any}
use Rattle.bz_buildozer.specs.Words.{prints, request_in}
use Rattle.bz_command_line.specs.declared.requested.Requested.{Requested}
use Rattle.bz_command_line.specs.declared.requested.Request.{Request}
use Rattle.bz_buildozer.specs.Run as r
use Rattle.bz_buildozer.specs.Steps.{RunStep, is_of_input, step_of}
use Rattle.bz_buildozer.specs.declared.run.Run.{Run}
use Rattle.bz_buildozer.specs.declared.step.Step.{Step}

abbrev pub progress_in : Run → r.Progress
progress_in run = record { used = run.workspace; printed = run.printed.items; failed = run.failed }

abbrev pub step_in : Step → RunStep
step_in step = step_of step.target.now (request_in step.request.now)

-- a command that doesn't print
abbrev pub prints_nothing_in : Request → Bool
prints_nothing_in request = not (prints request.verb)

-- a line that means rules of standard input
abbrev pub targets_input_in : Requested → Bool
targets_input_in line = list_any is_of_input line.targets.items

-- a line that means rules of a file
abbrev pub targets_file_in : Requested → Bool
targets_file_in line = list_any (λ target. not (is_of_input target)) line.targets.items

-- a line with a command on rules of standard input that doesn't print
abbrev pub shown_in : Requested → Bool
shown_in line = targets_input_in line && list_any prints_nothing_in line.commands.items
