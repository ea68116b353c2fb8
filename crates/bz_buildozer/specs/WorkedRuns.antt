-- Worked rows: how whole runs of buildozer end. Above a row is what is typed (in a shell).
use Rattle.std.specs.Prelude.{◌≡◌, ◌<◌, ℕ, List, [], ◌∷◌, ◌++◌, length, codes, Some, None}
use Rattle.std.specs.FinMap.{get}
use Rattle.bz_buildozer.specs.Words.{Folder, with_file, limit, Bytes}
use Rattle.bz_buildozer.specs.Sessions.{gives, Means}
use Rattle.bz_label.specs.declared.target.Which.TheVariants.{Name}
use Rattle.bz_streams.specs.declared.exit.Cut.TheVariants as c
use Rattle.bz_command_syntax.specs.declared.command.AttributeOperation.TheVariants as wa
use Rattle.bz_command_syntax.specs.declared.command.Operation.TheVariants as w
use Rattle.bz_buildozer.specs.Found.{found_in, root_above}
use Rattle.bz_buildozer.specs.Reported.{package_hint}
use Rattle.bz_buildozer.specs.Ending.{ended_whole}
use Rattle.bz_buildozer.specs.Outcome.{WordsOutcome, unused}
use Rattle.bz_buildozer.specs.Run.{World}
use Rattle.bz_buildozer.specs.Unread.{no_acts}
use Rattle.bz_buildozer.specs.WorkedParts.{text_read, text_made}

-- ---- usage faults: a run prints its one line, has status 1 and leaves all else as it was

abbrev Unused : List Bytes → Bytes → World → Type 0
Unused words line world = WordsOutcome words world (unused world.folder line)

-- without a file of lines, in each folder and over each standard input
abbrev IsUsage : List Bytes → Bytes → Type 0
IsUsage words line = (world : World) → Unused words line world

abbrev pub WorkedUsage : Type 0
WorkedUsage =
    -- delete; //:x; no word
    IsUsage (codes "delete" ∷ []) (codes "buildozer: no target\n")
    × IsUsage (codes "//:x" ∷ []) (codes "buildozer: no command\n") × IsUsage [] (codes "buildozer: no command\n")
    -- 'add deps' grow //:x: the first refused operand is reported; delete //a/:x; help //:x
    × IsUsage (codes "add deps" ∷ codes "grow" ∷ codes "//:x" ∷ []) (codes "buildozer: add deps: Arguments (32)\nbuildozer: the form is 'add ATTR VALUE..'\n")
    × IsUsage (codes "delete" ∷ codes "//a/:x" ∷ [])
    (codes "buildozer: //a/:x: BadTarget (12)\nbuildozer: the form of a target is //PACKAGE:NAME, without an empty part; a package has at most 65,536 bytes\n")
    × IsUsage (codes "help" ∷ codes "//:x" ∷ []) (codes "buildozer: help: Unknown (31)\nbuildozer: see buildozer --help, or man buildozer\n")
    -- delete -f lines; --stdout --journal undo //:x
    × IsUsage (codes "delete" ∷ codes "-f" ∷ codes "lines" ∷ []) (codes "buildozer: operands beside -f\n")
    × IsUsage (codes "--stdout" ∷ codes "--journal" ∷ codes "undo" ∷ codes "//:x" ∷ []) (codes "buildozer: --stdout beside --journal\n")
    -- -k -k: what is printed is clap's own. -r undo //:x: below it is a line.
    × ((line : Bytes) → IsUsage (codes "-k" ∷ codes "-k" ∷ []) line)
    × ((text : Bytes) → IsUsage (codes "-r" ∷ codes "undo" ∷ codes "//:x" ∷ [])
    (text ++ codes "buildozer: there is no option '-r' here: see docs/COMING.md, buildozer-tree and contrib/compat/compat.sh\n"))
    -- -f lines: the file is not there, has comments only, or a line that is refused.
    × ((world : World) → get world.folder (codes "lines") ≡ None → Unused (codes "-f" ∷ codes "lines" ∷ []) (codes "lines: cannot open\n") world)
    -- The same where it can't be read.
    × ((world : World) → WordsOutcome (codes "-f" ∷ codes "lines" ∷ []) world (record {
      left = record { output = []; lines = codes "lines: cannot open\n" ∷ []; status = 1; folder = world.folder };
      cut = c.Files;
      printed = c.Whole;
    }))
    × ((world : World) → get world.folder (codes "lines") ≡ Some (codes "# none\n\n")
    → Unused (codes "-f" ∷ codes "lines" ∷ []) (codes "lines: no operands\n") world)
    × ((world : World) → get world.folder (codes "lines") ≡ Some (codes "# none\ndelete\n")
    → Unused (codes "-f" ∷ codes "lines" ∷ []) (codes "buildozer: no target\nlines:2: refused\n") world)
    -- -f lines, and -f -: the text is longer than one may be.
    × ((world : World) (text : Bytes) → get world.folder (codes "lines") ≡ Some text → limit < length text
    → Unused (codes "-f" ∷ codes "lines" ∷ []) (codes "lines: TooLarge\n    a text that is read has at most 67,108,864 bytes\n") world)
    × ((folder : Folder) (text : Bytes) → limit < length text
    → Unused (codes "-f" ∷ codes "-" ∷ []) (codes "<stdin>: TooLarge\n    a text that is read has at most 67,108,864 bytes\n") (record { folder = folder; known = Some text; acts = no_acts }))
    -- -f - with the line undo|-:x
    × ((folder : Folder) → Unused (codes "-f" ∷ codes "-" ∷ []) (codes "buildozer: package - cannot be edited beside -f -\n")
    (record { folder = folder; known = Some (codes "undo|-:x\n"); acts = no_acts }))
    -- --journal -- undo -:x
    × IsUsage (codes "--journal" ∷ codes "--" ∷ codes "undo" ∷ codes "-:x" ∷ []) (codes "buildozer: package - has no journal\n")

-- ---- whole runs over one file, BUILD in the current folder, or over standard input

-- `text_read` is accepted, and in this package `set size small` on rule `x` of it means `text_made`.
abbrev pub IsMade : Bytes → Type 0
IsMade current = Means (w.Attribute (wa.Set (codes "size") (codes "small" ∷ []))) (record { «package» = current; which = Name (codes "x") }) current text_read (gives text_made None)

abbrev pub HasBuild : World → Type 0
HasBuild world = (get world.folder (codes "BUILD.bazel") ≡ None) × (get world.folder (codes "BUILD") ≡ Some text_read)

-- what is left of a folder in which BUILD was written, and of one as it was
abbrev BuildWritten : List Bytes → Bytes → List Bytes → ℕ → World → Type 0
BuildWritten words output lines status world =
    WordsOutcome words world (ended_whole (record { output = output; lines = lines; status = status; folder = with_file world.folder (codes "BUILD") text_made }))

abbrev Still : List Bytes → Bytes → List Bytes → ℕ → World → Type 0
Still words output lines status world = WordsOutcome words world (ended_whole (record { output = output; lines = lines; status = status; folder = world.folder }))

abbrev pub OverBuild : World → Type 0
OverBuild world =
    let change : Bytes = codes "set size small" in let rule : Bytes = codes "//:x" in let fixed : Bytes = codes "fixed BUILD\n" in
    let hint : Bytes = codes "buildozer: to undo or redo what earlier runs did, give --journal, as in those runs\n" in
    -- 'set size small' //:x; the same with --quiet, and with --stdout
    BuildWritten (change ∷ rule ∷ []) [] (fixed ∷ []) 0 world × BuildWritten (codes "--quiet" ∷ change ∷ rule ∷ []) [] [] 0 world
    × Still (codes "--stdout" ∷ change ∷ rule ∷ []) text_made [] 0 world
    -- The last one where standard output can't be written.
    × WordsOutcome (codes "--stdout" ∷ change ∷ rule ∷ []) world (record {
      left = record { output = text_made; lines = codes "<stdout>: cannot write\n" ∷ []; status = 2; folder = world.folder };
      cut = c.Write;
      printed = c.Write;
    })
    -- 'set size small' undo //:x: the file is as it was read.
    × Still (change ∷ codes "undo" ∷ rule ∷ []) [] [] 3 world
    -- 'set size small' 'undo 2' //:x: what was done before the refusal is written. undo //:x: nothing was done.
    × BuildWritten (change ∷ codes "undo 2" ∷ rule ∷ []) [] ((codes "buildozer: BUILD: undo 2: TooFar (61)\n" ++ hint) ∷ fixed ∷ []) 2 world
    × Still (codes "undo" ∷ rule ∷ []) [] ((codes "buildozer: BUILD: undo: TooFar (61)\n" ++ hint) ∷ []) 2 world

-- 'set size small' //:x in a folder below the root: that is noted before all else.
abbrev pub BelowRoot : World → Type 0
BelowRoot world = BuildWritten (codes "set size small" ∷ codes "//:x" ∷ []) []
    (codes "buildozer: note: the root of the workspace is ../, and packages are those below the working directory\n" ∷ codes "fixed BUILD\n" ∷ []) 0 world

-- Package `none` has no file: 'set size small' //none:x //:x ends there; with -k it goes on. -k undo redo //none:x reports it once.
abbrev pub BesideNone : World → Type 0
BesideNone world =
    let none : Bytes = codes "none/BUILD: cannot open\n" ++ package_hint (codes "none") in
    let targets : List Bytes = codes "//none:x" ∷ codes "//:x" ∷ [] in
    Still (codes "set size small" ∷ targets) [] (none ∷ []) 2 world
    × BuildWritten (codes "-k" ∷ codes "set size small" ∷ targets) [] (none ∷ codes "fixed BUILD\n" ∷ []) 2 world
    × Still (codes "-k" ∷ codes "undo" ∷ codes "redo" ∷ codes "//none:x" ∷ []) [] (none ∷ []) 2 world

-- -- 'set size small' -:x; with undo after it the text that was read goes out. Where the root is is not noted.
abbrev pub OverInput : World → Type 0
OverInput world =
    Still (codes "--" ∷ codes "set size small" ∷ codes "-:x" ∷ []) text_made [] 0 world
    × Still (codes "--" ∷ codes "set size small" ∷ codes "undo" ∷ codes "-:x" ∷ []) text_read [] 3 world

abbrev pub WorkedWholeRuns : Type 0
WorkedWholeRuns = ((current : Bytes) → IsMade current) × ((world : World) → HasBuild world → root_above world.folder ≡ None → OverBuild world)
    × ((world : World) → HasBuild world → root_above world.folder ≡ Some (codes "../") → BelowRoot world)
    × ((world : World) → HasBuild world → root_above world.folder ≡ None → get world.folder (codes "none") ≡ None
    → found_in world.folder (codes "none") ≡ None → BesideNone world)
    × ((folder : Folder) → OverInput (record { folder = folder; known = Some text_read; acts = no_acts }))
