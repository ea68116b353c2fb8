-- Words, standard input and a folder have at most one outcome, but for what is left open: clap's text, which fault of a text that
-- can't be read is reported, names that end in `.bznew`, the bytes of journals, and whether `regex` takes a pattern.
use Rattle.std.specs.Prelude.{◌≡◌, ◌⊎◌, ℕ, Bool, true, List, [], ◌∷◌, ◌++◌, Some, Ok, Err}
use Rattle.bz_buildozer.specs.Words.{ReadFault, Bytes, IsAside, SameBut, journal_name, Refused, Usage, of_operand, in_line, Given, operands, script, CommandLine, of_clap, command_line_of, IsPatternFault, IsFirstRefused, IsFirstFault, script_lines, fault_excerpt, fault_line, Profile}
use Rattle.bz_streams.specs.declared.exit.Cut.TheVariants as c
use Rattle.bz_buildozer.specs.Ending.{Left, Ended, ended_whole}
use Rattle.bz_buildozer.specs.Opens.{IsRefusedFor}
use Rattle.bz_buildozer.specs.Outcome.{WordsOutcome, IsScript, reported_name, unused}
use Rattle.bz_buildozer.specs.Run.{World, Finds}
use Rattle.bz_buildozer.specs.Reported.{usage_line}

-- ---- lines

-- Two lines report a fault of one text that is read for a package and isn't accepted. The faults are TooLarge or NotUtf8 exactly where
-- the text is that, and one of leaves is at its place; which of these it is may differ.
pub record ReportFaults (world : World) (line other : Bytes) : Type 0 where
  pub journals : Bool
  pub current : Bytes
  pub name : Bytes
  pub text : Bytes
  pub first : ReadFault
  pub second : ReadFault
  pub found : Finds journals world current (Some (name, text))
  pub one : IsRefusedFor text first
  pub two : IsRefusedFor text second
  pub reported : line ≡ fault_line name first ++ fault_excerpt text first
  pub reported_other : other ≡ fault_line name second ++ fault_excerpt text second

-- as many lines, each the same as the other, or both on one text that is not accepted, or clap's own text
abbrev pub SameLines : List Bytes → World → List Bytes → List Bytes → Type 0
SameLines words world [] [] = Unit {0}
SameLines words world [] (other ∷ others) = ⊥
SameLines words world (line ∷ lines) [] = ⊥
SameLines words world (line ∷ lines) (other ∷ others) = ((line ≡ other) ⊎ ReportFaults world line other ⊎ (command_line_of words ≡ Err of_clap)) × SameLines words world lines others

-- ---- outcomes

-- What a file of this name holds is left open: the name is set aside, or is that of a journal and the words request journals.
abbrev pub IsLeftOpen : List Bytes → Bytes → Type 0
IsLeftOpen words name = IsAside name
    ⊎ (((line : CommandLine) × (command_line_of words ≡ Ok line) × (line.options.journal ≡ true)) × ((file : Bytes) × (name ≡ journal_name file)))

-- The same output, status and lines, and the same folder, but for names that are left open.
pub record SameLeft (words : List Bytes) (world : World) (left other : Left) : Type 0 where
  pub output : left.output ≡ other.output
  pub status : left.status ≡ other.status
  pub lines : SameLines words world left.lines other.lines
  pub folder : SameBut (IsLeftOpen words) left.folder other.folder

-- Nothing is done, and the pattern of this operand is reported as one that `regex` refuses. (The name of the file of lines, and the usage.)
abbrev pub IsReportedPattern : Profile → Refused → Bytes → Usage → World → Ended → Type 0
IsReportedPattern profile refused file usage world ended =
    IsPatternFault profile refused.operand refused.fault × (ended ≡ unused world.folder (usage_line file usage))

-- The operand is among the words, or in the file of lines.
abbrev pub GivenReportsPattern : Profile → Given → World → Ended → Type 0
GivenReportsPattern profile (operands texts) world ended =
    (refused : Refused) × IsFirstRefused profile texts refused × IsReportedPattern profile refused [] (of_operand refused) world ended
GivenReportsPattern profile (script name) world ended =
    (text : Bytes) × IsScript world name (Some text) × (refused : Refused) × (line : ℕ)
    × IsFirstFault profile (script_lines text) (in_line line (of_operand refused))
    × IsReportedPattern profile refused (reported_name name) (in_line line (of_operand refused)) world ended

abbrev pub ReportsPattern : List Bytes → World → Ended → Type 0
ReportsPattern words world ended = (line : CommandLine) × (command_line_of words ≡ Ok line) × GivenReportsPattern line.options.profile line.given world ended

-- Two outcomes of words that nothing cuts are the same, unless one of them is that a pattern is refused.
abbrev pub OutcomesAreExact : Type 0
OutcomesAreExact = (words : List Bytes) (world : World) (bytes : Bytes) (one other : Ended) → world.known ≡ Some bytes → one.cut ≡ c.Whole → other.cut ≡ c.Whole
    → WordsOutcome words world one → WordsOutcome words world other
    → ReportsPattern words world one ⊎ ReportsPattern words world other ⊎ SameLeft words world one.left other.left

-- What standard output alone cuts leaves what a run leaves that nothing cuts, but for the lines and the status.
abbrev pub OutputCutsNothingElse : Type 0
OutputCutsNothingElse = (words : List Bytes) (world : World) (ended : Ended) → WordsOutcome words world ended → ended.cut ≡ c.Write
    → (left : Left) × WordsOutcome words world (ended_whole left) × (left.output ≡ ended.left.output) × (left.folder ≡ ended.left.folder)
