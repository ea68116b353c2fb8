-- What a run of buildozer does, by its words, the bytes of standard input and the folder, whatever fails.
use Rattle.std.specs.Prelude.{◌≡◌, ◌≢◌, ◌⊎◌, ◌&&◌, ◌≤◌, ◌<◌, ◌+◌, ℕ, List, [], ◌∷◌, length, take, bytes_eq, if◌then◌else◌, Bool, true, false, Option, Some, None, Result, Ok, Err, IfOk, IfSome, IsErr}
use Rattle.std.specs.List.{All}
use Rattle.std.specs.FinMap.{get}
use Rattle.std.specs.Str.{IsUtf8, IsValidUpTo}
use Rattle.bz_buildozer.specs.Words.{ReadFault, limit, Bytes, Folder, Requested, Usage, operand_group, Given, operands, script, LineUsage, CommandLine, command_line_of, IsGroupFault, IsScriptFault, script_of, Options, stdin, fault_line, Cut, IsInput, Profile}
use Rattle.bz_lex.specs.declared.fault.ReadFault.TheVariants.{NotUtf8, TooLarge}
use Rattle.bz_streams.specs.declared.exit.Cut.TheVariants as c
use Rattle.bz_buildozer.specs.Ending.{Ended, Performs, ended_whole}
use Rattle.bz_buildozer.specs.Run.{World}
use Rattle.bz_buildozer.specs.Steps.{input_package, names_input}
use Rattle.bz_buildozer.specs.Reported.{usage_line, unread_line, unread_status, IsLineUsageLine, input_line, memory_line, no_journal_line}

-- A fault of usage is reported by one line, and all else is as it was.
abbrev pub unused : Folder → Bytes → Ended
unused folder line = ended_whole (record { output = []; lines = line ∷ []; status = 1; folder = folder })

-- Memory is refused before anything is done, and a line says so.
abbrev pub out_of_memory : Folder → Ended
out_of_memory folder = record { left = record { output = []; lines = memory_line ∷ []; status = 2; folder = folder }; cut = c.Memory; printed = c.Whole }

abbrev pub OrOutOfMemory : World → (Ended → Type 0) → Ended → Type 0
OrOutOfMemory world IsOutcome ended = (ended ≡ out_of_memory world.folder) ⊎ IsOutcome ended

-- What lines request is done, unless that needs a journal of standard input, which has none.
abbrev pub LinesEnd : Options → List Requested → World → Ended → Type 0
LinesEnd options lines world ended =
    ((options.journal && names_input lines ≡ true) × (ended ≡ unused world.folder no_journal_line))
    ⊎ ((options.journal && names_input lines ≡ false) × Performs options lines world ended)

-- Such a run is unused and prints this line, in a world that is the run's own where the files are honest.
abbrev pub IsUnused : Bool → World → (World → Ended → Type 0) → Bytes → Type 0
IsUnused honest world IsOutcome line = (now : World) × (honest ≡ true → now ≡ world) × IsOutcome now (unused now.folder line)

-- ---- operands among the words

abbrev pub OperandsOutcome : Options → List Bytes → World → Ended → Type 0
OperandsOutcome options texts world ended =
    ((usage : Usage) × IsGroupFault options.profile texts usage × (ended ≡ unused world.folder (usage_line [] usage)))
    ⊎ ((requested : Requested) × (operand_group options.profile texts ≡ Ok requested) × LinesEnd options (requested ∷ []) world ended)

-- ---- operands in a file of lines

-- The lines are in standard input for `-`, else in a file of the folder.
abbrev pub IsScript : World → Bytes → Option Bytes → Type 0
IsScript world name text =
    ((name ≡ input_package) × ((bytes : Bytes) × IsInput world.known bytes × (text ≡ Some bytes)))
    ⊎ ((name ≢ input_package) × (text ≡ get world.folder name))

-- Its first bytes, one more than a text may have.
abbrev pub IsScriptFront : World → Bytes → Bytes → Type 0
IsScriptFront world name front =
    ((name ≡ input_package) × IfSome world.known (λ all. front ≡ take (limit + 1) all))
    ⊎ ((name ≢ input_package) × ((text : Bytes) × (get world.folder name ≡ Some text) × (front ≡ take (limit + 1) text)))

-- A file of lines is a text: no longer than one may be, and UTF-8.
abbrev pub IsText : Bytes → Type 0
IsText bytes = (length bytes ≤ limit) × IsUtf8 bytes

-- It is none, and why; its length is looked at first.
abbrev pub IsTextFault : Bytes → ReadFault → Type 0
IsTextFault bytes fault = ((limit < length bytes) × (fault ≡ TooLarge)) ⊎ ((length bytes ≤ limit) × ((at : ℕ) × IsValidUpTo bytes at × (fault ≡ NotUtf8 at)))

-- the name by which the file of lines is reported
abbrev pub reported_name : Bytes → Bytes
reported_name name = if bytes_eq name input_package then stdin else name

-- What lines request is done. Rules of standard input can't be meant where the lines are in it: no step reads what is left of it.
abbrev pub LinesOutcome : Options → Bool → List Requested → World → Ended → Type 0
LinesOutcome options of_input lines world ended =
    ((of_input && names_input lines ≡ true) × (ended ≡ unused world.folder input_line))
    ⊎ ((of_input && names_input lines ≡ false) × ((known : Option Bytes) × (of_input ≡ false → known ≡ world.known)
    × LinesEnd options lines (record world { known = known }) ended))

-- A file of lines is text, and requests something; else that is reported.
abbrev pub TextOutcome : Options → Bytes → Bytes → World → Ended → Type 0
TextOutcome options name text world ended =
    ((fault : ReadFault) × IsTextFault text fault × (ended ≡ unused world.folder (fault_line (reported_name name) fault)))
    ⊎ (IsText text × ((usage : Usage) × IsScriptFault options.profile text usage × (ended ≡ unused world.folder (usage_line (reported_name name) usage))))
    ⊎ (IsText text × ((lines : List Requested) × (script_of options.profile text ≡ Ok lines) × LinesOutcome options (bytes_eq name input_package) lines world ended))

-- A file of lines is not there, which is no failure, or can't be read: that is reported, and nothing is done. (Why it can't be.)
abbrev pub unread : Cut → Bytes → Folder → Ended
unread why name folder = record {
  left = record { output = []; lines = unread_line (reported_name name) why ∷ []; status = unread_status why; folder = folder };
  cut = why;
  printed = c.Whole;
}

abbrev pub ScriptOutcome : Options → Bytes → World → Ended → Type 0
ScriptOutcome options name world ended =
    ((text : Bytes) × IsScript world name (Some text) × TextOutcome options name text world ended)
    ⊎ ((ended ≡ unread ended.cut name world.folder) × (ended.cut ≢ c.Write) × (ended.cut ≡ c.Whole → IsScript world name None))

-- ---- whole lines

abbrev pub GivenOutcome : Options → Given → World → Ended → Type 0
GivenOutcome options (operands texts) world ended = OperandsOutcome options texts world ended
GivenOutcome options (script name) world ended = ScriptOutcome options name world ended

abbrev pub LineOutcome : List Bytes → Result CommandLine LineUsage → World → Ended → Type 0
LineOutcome words (Err usage) world ended = (line : Bytes) × IsLineUsageLine words usage line × (ended ≡ unused world.folder line)
LineOutcome words (Ok line) world ended = GivenOutcome line.options line.given world ended

-- What the words mean is done, or memory is refused before.
abbrev pub WordsOutcome : List Bytes → World → Ended → Type 0
WordsOutcome words world = OrOutOfMemory world (LineOutcome words (command_line_of words) world)

-- the words name a file of lines
abbrev pub TakesScript : List Bytes → Type 0
TakesScript words = (options : Options) × (name : Bytes) × (command_line_of words ≡ Ok (record { options = options; given = script name }))

-- The words request journals.
abbrev pub KeepsJournals : List Bytes → Type 0
KeepsJournals words = IfOk (command_line_of words) (λ line. line.options.journal ≡ true)

-- ---- lines that reach no file

-- Each target of these lines is one of standard input.
abbrev pub AreOfInput : List Requested → Type 0
AreOfInput lines = All (λ requested. All (λ target. target.«package» ≡ input_package) requested.targets) lines

-- The same, and a line has a target.
abbrev pub AreOfInputAndSome : List Requested → Type 0
AreOfInputAndSome lines = AreOfInput lines × (names_input lines ≡ true)

abbrev pub IsOfInput : Profile → Given → Type 0
IsOfInput profile (operands texts) = IfOk (operand_group profile texts) (λ requested. AreOfInput (requested ∷ []))
IsOfInput profile (script name) = ⊥

-- The words name no file, and no package but standard input.
abbrev pub NamesNoFile : List Bytes → Type 0
NamesNoFile words = IfOk (command_line_of words) (λ line. IsOfInput line.options.profile line.given)

-- ---- words that request nothing

-- operands that are refused, or lack a command or a target, or mean rules of standard input where journals are kept
abbrev pub GivesNothing : Options → Given → Type 0
GivesNothing options (operands texts) = IsErr (operand_group options.profile texts)
    ⊎ ((options.journal ≡ true) × ((requested : Requested) × (operand_group options.profile texts ≡ Ok requested) × (names_input (requested ∷ []) ≡ true)))
GivesNothing options (script name) = ⊥

-- This is so of the name of the file of lines, if there is one.
abbrev pub OfScript : (Bytes → Type 0) → Given → Type 0
OfScript Is (operands texts) = Unit {0}
OfScript Is (script name) = Is name

-- The lines, if any, aren't in standard input.
abbrev pub TakesNoInput : List Bytes → Type 0
TakesNoInput words = IfOk (command_line_of words) (λ line. OfScript (λ name. name ≢ input_package) line.given)

-- The lines, if any, aren't in a file.
abbrev pub TakesNoFile : List Bytes → Type 0
TakesNoFile words = IfOk (command_line_of words) (λ line. OfScript (λ name. name ≡ input_package) line.given)

-- words that are no line, or whose operands request nothing
abbrev pub LineGivesNothing : Result CommandLine LineUsage → Type 0
LineGivesNothing (Err usage) = Unit {0}
LineGivesNothing (Ok line) = GivesNothing line.options line.given
