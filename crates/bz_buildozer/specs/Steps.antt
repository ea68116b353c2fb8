-- What a line requests, step by step.
use Rattle.std.specs.Prelude.{List, map, codes, Bool, not, ◌&&◌, bytes_eq, Option, Some, None}
use Rattle.std.specs.List.{flat_map, list_any}
use Rattle.bz_buildozer.specs.Words.{Bytes, Target, Requested, Request, prints, Verb}
use Rattle.bz_buildozer.specs.Sessions.{Action}
use Rattle.bz_buildozer.specs.Sessions as a
use Rattle.bz_command_line.specs.declared.verb.Verb.TheVariants.{Do, Undo, Redo, Journal, Format}

-- a command on one target
pub record RunStep : Type 0 where
  pub target : Target
  pub request : Request

abbrev pub step_of : Target → Request → RunStep
step_of target request = record { target = target; request = request }

-- Each target gets all commands, in order.
abbrev pub steps_requested : Requested → List RunStep
steps_requested requested = flat_map (λ target. map (step_of target) requested.commands) requested.targets

abbrev pub all_steps : List Requested → List RunStep
all_steps lines = flat_map steps_requested lines

-- what the session of the target's file is to do; to list its texts is no action
abbrev pub action_of : Target → Verb → Option Action
action_of target (Do operation) = Some (a.Do operation target)
action_of target (Undo count) = Some (a.Undo count)
action_of target (Redo count) = Some (a.Redo count)
action_of target Journal = None
action_of target Format = Some a.Format

-- the package that means standard input
abbrev pub input_package : Bytes
input_package = codes "-"

abbrev pub is_of_input : Target → Bool
is_of_input target = bytes_eq target.«package» input_package

abbrev pub names_input : List Requested → Bool
names_input lines = list_any (λ requested. list_any is_of_input requested.targets) lines

-- Rules of a file are meant.
abbrev pub names_file : List Requested → Bool
names_file lines = list_any (λ requested. list_any (λ target. not (is_of_input target)) requested.targets) lines

-- a command on rules of standard input that doesn't print
abbrev pub is_shown_by : RunStep → Bool
is_shown_by step = is_of_input step.target && not (prints step.request.verb)

-- The text of standard input is shown where a command on it isn't one that prints.
abbrev pub shows_input : List RunStep → Bool
shows_input steps = list_any is_shown_by steps
