-- The lines on standard error on words, operands and lines that request nothing. Control characters of operands and names are escaped.
use Rattle.std.specs.Prelude.{◌≡◌, ℕ, List, [], ◌∷◌, ◌++◌, codes, decimal}
use Rattle.std.specs.List.{concat}
use Rattle.bz_items.specs.Characters.{Bytes}
use Rattle.bz_streams.specs.Controls.{escaped_text}
use Rattle.bz_streams.specs.Faults.{AppendsUnlessFailed}
use Rattle.bz_streams.specs.Reported.{named_line}
use Rattle.bz_streams.specs.declared.sink.Sink.{Ghosts as SinkOf}
use Rattle.bz_command_line.specs.App.{line_hint}
use Rattle.bz_command_line.specs.Hints.{hint_for}
use Rattle.bz_command_line.specs.Line.{LineUsage, of_clap, no_profile, beside_script, beside_stdout}
use Rattle.bz_command_line.specs.Requested.{Refused, Usage, of_operand, no_command, no_target, no_line, nul, in_line}
use Rattle.bz_command_line.specs.Verbs.{operand_fault_name, operand_fault_number}

-- A line was printed, whole unless its writing failed.
abbrev pub ReportsLine : {E : Type 0} → SinkOf E → E → E → Bytes → Type 0
ReportsLine sink old new line = AppendsUnlessFailed (sink.faults old) (sink.faults new) (sink.contents old) (sink.contents new) line

-- the pieces of a line on what is refused, with the name and the number of the refusal
abbrev pub numbered : Bytes → Bytes → Bytes → List Bytes
numbered refused name number = escaped_text refused ∷ codes ": " ∷ name ∷ codes " (" ∷ number ∷ codes ")\n" ∷ []

-- an operand that is refused; after its line is the hint, if there is one
abbrev pub operand_line : Refused → Bytes
operand_line refused =
    concat (codes "buildozer: " ∷ numbered refused.operand (operand_fault_name refused.fault) (decimal (operand_fault_number refused.fault)) ++ hint_for refused ∷ [])

-- a file of lines of which this line, from 1, has a NUL byte
abbrev pub nul_line : Bytes → ℕ → Bytes
nul_line file line = concat (escaped_text file ∷ codes ":" ∷ decimal line ∷ codes ": NUL\n" ∷ [])

-- the place of a line, from 1, that is refused in a file of lines
abbrev pub refused_place : Bytes → ℕ → Bytes
refused_place file line = concat (escaped_text file ∷ codes ":" ∷ decimal line ∷ codes ": refused\n" ∷ [])

-- operands, or a file of lines of this name, that request nothing; after a line that is refused is its place
abbrev pub usage_line : Bytes → Usage → Bytes
usage_line file (of_operand refused) = operand_line refused
usage_line file no_command = codes "buildozer: no command\n"
usage_line file no_target = codes "buildozer: no target\n"
usage_line file no_line = named_line file (codes "no operands")
usage_line file (nul line) = nul_line file line
usage_line file (in_line line usage) = usage_line file usage ++ refused_place file line

-- a text that is no profile, and those that there are
abbrev pub profile_line : Bytes → Bytes
profile_line name = concat (codes "buildozer: no profile: " ∷ escaped_text name ∷ codes "\nbuildozer: a profile is own or bazelbuild\n" ∷ [])

-- Words that are no line of the program's. Of a fault that clap finds the text is clap's; below it is the hint, if there is one.
abbrev pub IsLineUsageLine : List Bytes → LineUsage → Bytes → Type 0
IsLineUsageLine words of_clap line = (text : Bytes) × (line ≡ text ++ line_hint words)
IsLineUsageLine words (no_profile name) line = line ≡ profile_line name
IsLineUsageLine words beside_script line = line ≡ codes "buildozer: operands beside -f\n"
IsLineUsageLine words beside_stdout line = line ≡ codes "buildozer: --stdout beside --journal\n"
