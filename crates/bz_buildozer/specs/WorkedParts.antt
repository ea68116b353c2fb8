-- Worked rows: what each part of a run of buildozer gives. Above a row is what is typed (in a shell), or what was done.
use Rattle.std.specs.Prelude.{◌≡◌, ℕ, is_some, true, false, List, [], ◌∷◌, map, codes, Some, None, Result, Ok, Err}
use Rattle.std.specs.FinMap.{get}
use Rattle.bz_value.specs.declared.refusal.Refusal.TheVariants.{Full, Memory, NotAList, TooFar, NoTarget}
use Rattle.bz_buildozer.specs.Words.{Folder, Requested, Usage, operand_group, stdin, fault_line, Bytes}
use Rattle.bz_buildozer.specs.Sessions.{changed, undone, redone, Same, Printed}
use Rattle.bz_streams.specs.declared.exit.Cut.TheVariants as c
use Rattle.bz_buildozer.specs.Found.{beside, bzl, first_name, folder_of, found_in, has_package, kept, as_file, as_package, as_unedited, second_name, settled, settled_second, Opened, Used, package_number}
use Rattle.bz_buildozer.specs.Journals.{fault_lines, of_resuming}
use Rattle.bz_buildozer.specs.Opens.{opened_fresh}
use Rattle.bz_buildozer.specs.Reported.{package_hint, root_note, refusal_line, operand_line, fixed_line, unedited_lines}
use Rattle.bz_buildozer.specs.Ending.{texts_out, writing_of, status_of}
use Rattle.bz_buildozer.specs.Run.{Finds, reported_of, printed_by, state_after, wanting_name}
use Rattle.bz_buildozer.specs.Steps.{RunStep, all_steps, shows_input}
use Rattle.bz_buildozer.specs.Unread.{no_acts}
use Rattle.bz_lex.specs.declared.fault.ReadFault.TheVariants.{NotUtf8, Unexpected}
use Rattle.bz_command_syntax.specs.declared.profile.Profile.TheVariants.{Own}
use Rattle.bz_command_line.specs.declared.verb.OperandFault.TheVariants.{BadTarget}
use Rattle.bz_resume.specs.declared.fault.ResumeFault.TheVariants.{Damaged, Version}

-- a file as it is read, and what `set size small` makes of it
abbrev pub text_read : Bytes
text_read = codes "f(name=\"x\")\n"

abbrev pub text_made : Bytes
text_made = codes "f(\n    name = \"x\",\n    size = \"small\",\n)\n"

-- ---- parts of a run

-- the file of a package: as it was read, with `set size small` done, and one step back or forward
abbrev read_of : Bytes → Opened
read_of current = opened_fresh current (second_name current) text_read

abbrev edited : Opened → Opened
edited file = record file { history = changed (codes "set size small") file.history text_made }

abbrev back : Opened → Opened
back file = record file { history = (undone 1 file.history).1 }

abbrev forward : Opened → Opened
forward file = record file { history = (redone 1 file.history).1 }

-- package `app` with its file, the root package, and standard input
abbrev app : Opened → Used
app file = record { «package» = codes "app"; file = Some file }

abbrev root : Opened → Used
root file = record { «package» = []; file = Some file }

abbrev input : Opened → Used
input file = record { «package» = codes "-"; file = Some (record file { name = stdin }) }

abbrev app_read : Opened
app_read = read_of (codes "app")

-- the status of a run that used these packages, where no step failed
abbrev status : List Used → ℕ
status used = status_of c.Whole (record { used = used; printed = []; failed = false })

abbrev Statuses : Type 0
Statuses =
    -- 'set size small' undo redo //app:x: the file differs. Of two files the second differs. 'print name' //app:x: none does.
    (status (app (forward (back (edited app_read))) ∷ []) ≡ 0) × (status (app app_read ∷ root (edited (read_of [])) ∷ []) ≡ 0) × (status (app app_read ∷ []) ≡ 3)

abbrev TextsOut : Type 0
TextsOut =
    -- With --stdout nothing goes out of a file that doesn't differ, nor of package `none`, which has no file; a file that was only read isn't written.
    (texts_out false true (app (back (edited app_read)) ∷ []) ≡ []) × (writing_of false (app app_read) ≡ None)
    × (texts_out false true (record { «package» = codes "none"; file = None } ∷ app (edited app_read) ∷ []) ≡ text_made)
    -- The text of standard input goes out where it is shown, also as it was read, with --stdout or without; it is never written.
    × (texts_out true true (input app_read ∷ []) ≡ text_read) × (texts_out false true (input app_read ∷ []) ≡ []) × (writing_of false (input (edited app_read)) ≡ None)

abbrev Reported : Type 0
Reported =
    -- What is refused is reported; what is printed is not.
    (reported_of false (codes "app/BUILD") (codes "add size a") (Err NotAList) [] ≡ codes "buildozer: app/BUILD: add size a: NotAList (44)\n" ∷ [])
    × (reported_of false (codes "app/BUILD") (codes "print name") (Ok (Printed (codes "x\n"))) [] ≡ [])
    -- undo //a/...:x; undo //a...:x, of which no file is there
    × (package_hint (codes "a/...") ≡ codes "buildozer: ... is no package here: see buildozer-tree\n")
    × (package_hint (codes "a...")
    ≡ codes "buildozer: a package is a directory below the working directory, which is to be the root of the workspace\n")
    -- in a folder two below the root: //a:x, and -:x
    × (root_note true (Some (codes "../../"))
    ≡ codes "buildozer: note: the root of the workspace is ../../, and packages are those below the working directory\n" ∷ [])
    × (root_note false (Some (codes "../../")) ≡ [])
    -- Only what a command prints is printed.
    × (printed_by (Ok (Printed (codes "x\n"))) ≡ codes "x\n") × (printed_by (Ok Same) ≡ []) × (printed_by (Err NotAList) ≡ [])
    -- A refusal after a printed line: the line stays, and the run has failed from then on.
    × (state_after false 0 app_read (Err TooFar) app_read.history (record { used = app app_read ∷ []; printed = codes "x\n"; failed = false })
    ≡ record { used = app app_read ∷ []; printed = codes "x\n"; failed = true })

-- ---- which file

-- the steps of operands
abbrev steps_in : Result Requested Usage → List RunStep
steps_in (Ok requested) = all_steps (requested ∷ [])
steps_in (Err usage) = []

abbrev typed : List Bytes → List RunStep
typed operands = steps_in (operand_group Own operands)

abbrev Steps : Type 0
Steps =
    -- undo redo //a:x b:y :z: each target gets both commands, in the file of its package.
    (map (λ (step : RunStep). step.target.«package») (typed (codes "undo" ∷ codes "redo" ∷ codes "//a:x" ∷ codes "b:y" ∷ codes ":z" ∷ []))
    ≡ codes "a" ∷ codes "a" ∷ codes "b" ∷ codes "b" ∷ [] ∷ [] ∷ [])
    × (map (λ (step : RunStep). step.request.text) (typed (codes "undo" ∷ codes "redo" ∷ codes "//a:x" ∷ [])) ≡ codes "undo" ∷ codes "redo" ∷ [])
    -- -- undo -:x shows the text of standard input; print and journal don't, but where another command is beside them.
    × (shows_input (typed (codes "undo" ∷ codes "-:x" ∷ [])) ≡ true)
    × (shows_input (typed (codes "print name" ∷ codes "journal" ∷ codes "-:x" ∷ [])) ≡ false)
    × (shows_input (typed (codes "print name" ∷ codes "redo" ∷ codes "-:x" ∷ [])) ≡ true)
    × (shows_input (typed (codes "undo" ∷ codes "//a:x" ∷ [])) ≡ false)

abbrev Files : Type 0
Files =
    -- The paths of the files of //a/b and of the root package.
    (first_name (codes "a/b") ≡ codes "a/b/BUILD.bazel") × (second_name (codes "a/b") ≡ codes "a/b/BUILD")
    × (first_name [] ≡ codes "BUILD.bazel") × (second_name [] ≡ codes "BUILD")
    -- BUILD.bazel where it is there, else BUILD, else none.
    × ((folder : Folder) → get folder (codes "a/BUILD.bazel") ≡ Some text_made → found_in folder (codes "a") ≡ Some (codes "a/BUILD.bazel", text_made))
    × ((folder : Folder) → get folder (codes "a/BUILD.bazel") ≡ None → get folder (codes "a/BUILD") ≡ Some text_read
    → found_in folder (codes "a") ≡ Some (codes "a/BUILD", text_read))
    × ((folder : Folder) → get folder (codes "a/BUILD.bazel") ≡ None → get folder (codes "a/BUILD") ≡ None → found_in folder (codes "a") ≡ None)
    -- Package `-` is standard input.
    × ((folder : Folder) → Finds false (record { folder = folder; known = Some text_read; acts = no_acts }) (codes "-") (Some (codes "<stdin>", text_read)))
    -- A package that was used is used again; under another path it is another package.
    × (package_number (codes "app") (root app_read ∷ app app_read ∷ []) ≡ Some 1) × (package_number (codes "./app") (root app_read ∷ app app_read ∷ []) ≡ None)

abbrev pub Settles : Type 0
Settles =
    -- The folders of third_party/zlib.BUILD and of MODULE.bazel.
    (folder_of (codes "third_party/zlib.BUILD") ≡ codes "third_party") × (folder_of (codes "MODULE.bazel") ≡ [])
    -- //MODULE.bazel:all is that file, where it is there.
    × ((folder : Folder) (text : Bytes) → get folder (codes "MODULE.bazel") ≡ Some text → has_package folder (codes "MODULE.bazel") ≡ false
    → settled folder (codes "MODULE.bazel") ≡ as_file (codes "MODULE.bazel"))
    -- //app/BUILD:x is //app:x; it isn't edited where app/BUILD.bazel is there.
    × ((folder : Folder) (text : Bytes) → get folder (codes "app/BUILD") ≡ Some text → has_package folder (codes "app/BUILD") ≡ false
    → settled folder (codes "app/BUILD") ≡ settled_second (is_some (get folder (codes "app/BUILD.bazel"))) (codes "app"))
    -- A journal isn't edited, nor is a .bzl file.
    × ((folder : Folder) → has_package folder (codes "app/BUILD.journal") ≡ false → settled folder (codes "app/BUILD.journal") ≡ as_unedited kept)
    × ((folder : Folder) (text : Bytes) → get folder (codes "a.bzl") ≡ Some text → has_package folder (codes "a.bzl") ≡ false → settled folder (codes "a.bzl") ≡ as_unedited bzl)
    -- Where no such file is there it is a package.
    × ((folder : Folder) → get folder (codes "app") ≡ None → settled folder (codes "app") ≡ as_package (codes "app"))

abbrev pub WorkedParts : Type 0
WorkedParts = Statuses × TextsOut × Reported × Steps × Files × Settles

-- ---- worked rows: how refusals and faults are reported

abbrev pub WorkedRefusals : Type 0
WorkedRefusals = (fault_line stdin (Unexpected 12 305) ≡ codes "<stdin>:12:305: Unexpected\n")
    × (fault_line (codes "a/BUILD") (NotUtf8 67108863) ≡ codes "a/BUILD: NotUtf8 at 67108863\n    the byte after that many is not UTF-8: save the file as text in UTF-8\n")
    × (refusal_line false stdin (codes "undo 3") TooFar
    ≡ codes "buildozer: <stdin>: undo 3: TooFar (61)\nbuildozer: there are fewer texts to go to: the command journal lists them\n")
    × (refusal_line false (codes "a/BUILD") (codes "redo") TooFar
    ≡ codes "buildozer: a/BUILD: redo: TooFar (61)\nbuildozer: to undo or redo what earlier runs did, give --journal, as in those runs\n")
    × (refusal_line false (codes "a/BUILD") (codes "add deps b") NoTarget ≡ codes "buildozer: a/BUILD: add deps b: NoTarget (41)\n")
    × (refusal_line true (codes "a/BUILD") (codes "redo") TooFar
    ≡ codes "buildozer: a/BUILD: redo: TooFar (61)\nbuildozer: there are fewer texts to go to: the command journal lists them\n")
    × (refusal_line true (codes "a/BUILD") (codes "set size a") Full
    ≡ codes "buildozer: a/BUILD: set size a: Full (62)\nbuildozer: a history has at most 100,000 steps: do the rest in another run, with --journal after the journal is deleted\n")
    × (refusal_line false stdin (codes "set size a") Full
    ≡ codes "buildozer: <stdin>: set size a: Full (62)\nbuildozer: a history has at most 100,000 steps: do the rest in another run, with --journal after the journal is deleted\n")
    × (fault_lines (codes "a/BUILD.journal") (of_resuming Damaged)
    ≡ codes "a/BUILD.journal: Damaged (71)\n"
    ∷ codes "buildozer: this is no journal, or was changed since it was written: delete a/BUILD.journal to begin a new history\n" ∷ [])
    × (fault_lines (codes "a/BUILD.journal") (of_resuming Version)
    ≡ codes "a/BUILD.journal: Version (72)\n"
    ∷ codes "buildozer: a program of another version wrote it: use that one, or delete a/BUILD.journal to begin a new history\n" ∷ [])
    × (operand_line (record { profile = Own; operand = codes "//a::b"; fault = BadTarget; pattern = None })
    ≡ codes "buildozer: //a::b: BadTarget (12)\nbuildozer: the form of a target is //PACKAGE:NAME, without an empty part; a package has at most 65,536 bytes\n")
    × (fixed_line (codes "a/BUILD") ≡ codes "fixed a/BUILD\n")
    × (unedited_lines (codes "app/BUILD") (beside (codes "app")) ≡ codes "app/BUILD: cannot open\n" ∷ codes "buildozer: the file of //app is its BUILD.bazel\n" ∷ [])
    -- Memory is refused: to a command; before a file of //a has its name; for standard input.
    × (refusal_line false (codes "a/BUILD") (codes "add deps b") Memory ≡ codes "buildozer: a/BUILD: add deps b: Memory (8)\n")
    × (wanting_name (codes "a") ≡ codes "a/BUILD: Memory\n" ∷ []) × (wanting_name (codes "-") ≡ codes "<stdin>: Memory\n" ∷ [])
