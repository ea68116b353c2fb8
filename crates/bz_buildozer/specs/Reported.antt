-- The lines of buildozer on standard error, of which those on usage are bz_command_line's.
use Rattle.std.specs.Prelude.{◌==◌, ◌&&◌, ◌||◌, ℕ, Bool, true, false, List, [], ◌∷◌, ◌++◌, Option, Some, None, bytes_eq, eqb, codes, decimal, if◌then◌else◌}
use Rattle.std.specs.List.{concat, ends_with}
use Rattle.bz_buildozer.specs.Words.{Bytes, refusal_name, refusal_number, Refusal, PairFault, escaped_text, stdin, named_line, Cut}
use Rattle.bz_value.specs.declared.refusal.Refusal.TheVariants.{Full, TooFar}
use Rattle.bz_buildozer.specs.Found.{Unedited, beside, kept, bzl}
pub use Rattle.bz_command_line.specs.Reported.{numbered, operand_line, nul_line, refused_place, usage_line, IsLineUsageLine}
use Rattle.bz_resume.specs.declared.pair_fault.PairFault.TheVariants as f
use Rattle.bz_streams.specs.declared.exit.Cut.TheVariants as c

-- What may be done where there are fewer texts to go to, or no more may come. (The flag: journals are kept.)
abbrev pub history_hint : Bool → Bytes → Refusal → Bytes
history_hint journals file refusal =
    if refusal_number refusal == refusal_number TooFar && (journals || bytes_eq file stdin) then codes "buildozer: there are fewer texts to go to: the command journal lists them\n"
    else if refusal_number refusal == refusal_number TooFar then codes "buildozer: to undo or redo what earlier runs did, give --journal, as in those runs\n"
    else if refusal_number refusal == refusal_number Full then codes "buildozer: a history has at most 100,000 steps: do the rest in another run, with --journal after the journal is deleted\n"
    else []

-- a command that is refused, by its text, in a file; after its line is the hint, if there is one
abbrev pub refusal_line : Bool → Bytes → Bytes → Refusal → Bytes
refusal_line journals file command refusal =
    concat (codes "buildozer: " ∷ escaped_text file ∷ codes ": " ∷ numbered command (refusal_name refusal) (decimal (refusal_number refusal))
    ++ history_hint journals file refusal ∷ [])

-- below the line of a package without a file: what a package is, or which program takes all packages below one
abbrev pub package_hint : Bytes → Bytes
package_hint current =
    if bytes_eq current (codes "...") || ends_with eqb current (codes "/...") then codes "buildozer: ... is no package here: see buildozer-tree\n"
    else codes "buildozer: a package is a directory below the working directory, which is to be the root of the workspace\n"

-- why a file isn't edited
abbrev pub unedited_line : Unedited → Bytes
unedited_line (beside current) = concat (codes "buildozer: the file of //" ∷ escaped_text current ∷ codes " is its BUILD.bazel\n" ∷ [])
unedited_line kept = codes "buildozer: no journal is edited, and no new file that waits to be renamed\n"
unedited_line bzl = codes "buildozer: a .bzl file is not edited: to format it, see buildifier\n"

-- a file that isn't edited, and below it why
abbrev pub unedited_lines : Bytes → Unedited → List Bytes
unedited_lines name why = named_line name (codes "cannot open") ∷ unedited_line why ∷ []

-- The run is in a folder below the root of the workspace, and takes packages from there: that is noted once, before all steps, where rules of a
-- file are meant. (Whether they are, and where the root is.)
abbrev pub root_note : Bool → Option Bytes → List Bytes
root_note true (Some root) =
    (codes "buildozer: note: the root of the workspace is " ++ (root ++ codes ", and packages are those below the working directory\n")) ∷ []
root_note _ _ = []

-- a file that was written
abbrev pub fixed_line : Bytes → Bytes
fixed_line name = concat (codes "fixed " ∷ escaped_text name ∷ codes "\n" ∷ [])

-- a file that could not be written with its journal, and why
abbrev pub unkept_line : Bytes → PairFault → Bytes
unkept_line file f.Memory = named_line file (codes "Memory")
unkept_line file fault = named_line file (codes "cannot write")

-- Standard output was given all, or was not.
abbrev pub output_lines : Cut → List Bytes
output_lines c.Whole = []
output_lines c.Memory = named_line (codes "<stdout>") (codes "Memory") ∷ []
output_lines why = named_line (codes "<stdout>") (codes "cannot write") ∷ []

-- a file of lines that could not be read; that it can't be is a fault of usage
abbrev pub unread_line : Bytes → Cut → Bytes
unread_line file c.Memory = named_line file (codes "Memory")
unread_line file why = named_line file (codes "cannot open")

abbrev pub unread_status : Cut → ℕ
unread_status c.Memory = 2
unread_status why = 1

-- Memory was refused before anything was done.
abbrev pub memory_line : Bytes
memory_line = codes "buildozer: Memory\n"

-- a target of standard input, where the lines themselves come from there
abbrev pub input_line : Bytes
input_line = codes "buildozer: package - cannot be edited beside -f -\n"

-- a target of standard input, which has no journal
abbrev pub no_journal_line : Bytes
no_journal_line = codes "buildozer: package - has no journal\n"
