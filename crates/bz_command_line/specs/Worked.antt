-- Worked rows: what lines of words and files of lines say.
use Rattle.std.specs.Prelude.{◌≡◌, [], ◌∷◌, ◌++◌, codes, Some, Ok, Err, true, false}
use Rattle.bz_items.specs.Characters.{Bytes}
use Rattle.bz_label.specs.declared.target.Target.{Target}
use Rattle.bz_label.specs.declared.target.Which.TheVariants.{Name}
use Rattle.bz_command_syntax.specs.declared.command.Operation.TheVariants as w
use Rattle.bz_command_syntax.specs.declared.command.RuleOperation.TheVariants as wr
use Rattle.bz_command_syntax.specs.declared.command.Field.TheVariants.{Label}
use Rattle.bz_command_syntax.specs.declared.profile.Profile.{Profile}
use Rattle.bz_command_syntax.specs.declared.profile.Profile.TheVariants.{Own, Bazelbuild}
use Rattle.bz_command_syntax.specs.declared.fault.CommandFault.TheVariants.{Unknown, Arguments, BadPattern}
use Rattle.bz_command_line.specs.Requested.{Requested, Request, Usage, syntax, refused_for, of_operand, no_target, no_line, nul, in_line, operand_group}
use Rattle.bz_command_line.specs.App.{line_hint}
use Rattle.bz_command_line.specs.Hints.{hint_for}
use Rattle.bz_command_line.specs.Line.{operands, script, of_clap, no_profile, beside_script, beside_stdout, command_line_of}
use Rattle.bz_command_line.specs.Reported.{operand_line}
use Rattle.bz_command_line.specs.Script.{byte_order_mark, script_of}
use Rattle.bz_command_line.specs.declared.{verb.OperandFault.OperandFault, verb.Verb.Verb}
use Rattle.bz_command_line.specs.declared.verb.OperandFault.TheVariants.{BadTarget, Command}
use Rattle.bz_command_line.specs.declared.verb.Verb.TheVariants.{Do, Undo, Journal, Format}

-- options between operands, and an operand after two dashes; a file of lines in the same word as `-k`, and a profile; operands beside one,
-- which are reported first; a journal beside standard output; a text that is no profile; a repeated option
abbrev Words : Type 0
Words = (command_line_of (codes "--quiet" ∷ codes "delete" ∷ codes "--journal" ∷ codes "--profile=own" ∷ codes "--" ∷ codes "-:x" ∷ [])
    ≡ Ok (record {
      options = record { keep_going = false; to_stdout = false; quiet = true; journal = true; profile = Own };
      given = operands (codes "delete" ∷ codes "-:x" ∷ []);
    }))
    × (command_line_of (codes "-kf" ∷ codes "-" ∷ codes "--stdout" ∷ codes "--profile=bazelbuild" ∷ [])
    ≡ Ok (record { options = record { keep_going = true; to_stdout = true; quiet = false; journal = false; profile = Bazelbuild }; given = script (codes "-") }))
    × (command_line_of (codes "--journal" ∷ codes "--stdout" ∷ codes "delete" ∷ codes "-f" ∷ codes "lines" ∷ []) ≡ Err beside_script)
    × (command_line_of (codes "--journal" ∷ codes "--stdout" ∷ []) ≡ Err beside_stdout)
    × (command_line_of (codes "--profile" ∷ codes "bazel" ∷ codes "delete" ∷ codes "-f" ∷ codes "lines" ∷ []) ≡ Err (no_profile (codes "bazel")))
    × (command_line_of (codes "-k" ∷ codes "-k" ∷ []) ≡ Err of_clap)

-- the rule of this name in the package a
abbrev meant : Bytes → Target
meant name = record { «package» = codes "a"; which = Name name }

abbrev request : Verb → Bytes → Request
request verb text = record { verb = verb; text = text }

abbrev deleted : Bytes → Requested
deleted name = record { commands = request (Do (w.Rule wr.Delete)) (codes "delete") ∷ []; targets = meant name ∷ [] }

abbrev refused : Bytes → OperandFault → Usage
refused operand fault = of_operand (refused_for Own operand fault)

-- commands and targets mixed, each in order; the first refused operand; a word after `format`; a field of bazelbuild's profile, and in the own one
abbrev Groups : Type 0
Groups = (operand_group Own (codes "//a:x" ∷ codes "undo 007" ∷ codes "a:y" ∷ codes " journal " ∷ codes "format" ∷ [])
    ≡ Ok (record {
      commands = request (Undo 7) (codes "undo 007") ∷ request Journal (codes " journal ") ∷ request Format (codes "format") ∷ [];
      targets = meant (codes "x") ∷ meant (codes "y") ∷ [];
    }))
    × (operand_group Own (codes "//a:" ∷ codes "grow" ∷ []) ≡ Err (refused (codes "//a:") BadTarget))
    × (operand_group Own (codes "format //a:x" ∷ codes "//a:x" ∷ []) ≡ Err (refused (codes "format //a:x") (Command Arguments)))
    × (operand_group Bazelbuild (codes "print label" ∷ codes "//a:x" ∷ [])
    ≡ Ok (record { commands = request (Do (w.Print (Label ∷ []))) (codes "print label") ∷ []; targets = meant (codes "x") ∷ [] }))
    × (operand_group Own (codes "print label" ∷ codes "//a:x" ∷ []) ≡ Err (refused (codes "print label") (Command Arguments)))

-- a byte order mark, a comment, an empty line, carriage returns, and a last line without its newline
abbrev Lines : Type 0
Lines =
    script_of Own (byte_order_mark ++ codes "# all" ++ 13 ∷ codes "\n" ++ 13 ∷ codes "\ndelete|//a:x" ++ 13 ∷ codes "\n//a:y|delete")
    ≡ Ok (deleted (codes "x") ∷ deleted (codes "y") ∷ [])

-- no line; the first line with a NUL byte, in front of one that is refused; a second mark, and a carriage return, that belong to their line;
-- blanks around a bar, which belong to the operands; the first line that is refused, by its number
abbrev Faults : Type 0
Faults = (script_of Own (byte_order_mark ++ codes "#delete|//a:x\n\n") ≡ Err no_line) × (script_of Own (codes "grow\n\n#" ++ 0 ∷ codes "\n" ++ 0 ∷ []) ≡ Err (nul 3))
    × (script_of Own (byte_order_mark ++ byte_order_mark ++ 13 ∷ []) ≡ Err (in_line 1 (refused (byte_order_mark ++ 13 ∷ []) (Command Unknown))))
    × (script_of Own (codes "#\n\ndelete | //a:x\n") ≡ Err (in_line 3 (refused (codes " //a:x") (Command Unknown))))
    × (script_of Own (codes "delete\ngrow|a:\n") ≡ Err (in_line 1 no_target))

abbrev answers : Bytes → Bytes → Type 0
answers operand lines = hint_for (refused_for Own operand (Command Arguments)) ≡ lines

-- the forms of a command; a name without its words; words of `fix`, one of them twice; a step of a history
abbrev Forms : Type 0
Forms = answers (codes "set kind") (codes "buildozer: the form is 'set ATTR VALUE..' or 'set kind KIND'\n")
    × answers (codes " add ")
    (codes "buildozer: the form is 'add ATTR VALUE..'\nbuildozer: on a command line, put a command and its words in one pair of quotation marks\n")
    × answers (codes "fix unusedLoads unusedLoads") (codes "buildozer: the form is 'fix [unusedLoads] [movePackageToTop]'\nbuildozer: there is no other fix here: buildifier puts lists in order and shortens labels\n")
    × answers (codes "undo 0") (codes "buildozer: the form is 'undo [N]'\n")

-- a field that is none here; a text of several words; a field that is none in bazelbuild's profile either
abbrev Meant : Type 0
Meant = answers (codes "print name label")
    (codes "buildozer: the form is 'print [FIELD..]'\nbuildozer: a field is kind, startline, rule or the name of an attribute; label, endline and path are none here\n")
    × answers (codes "comment deps :a not now")
    (codes "buildozer: the form is 'comment [ATTR [VALUE]] TEXT'\nbuildozer: the text of a comment is one word, so put a backslash before each space of it\n")
    × answers (codes "comment a-b") (codes "buildozer: the form is 'comment [ATTR [VALUE]] TEXT'\n")
    × (hint_for (refused_for Bazelbuild (codes "print path") (Command Arguments))
    ≡ codes "buildozer: the form is 'print [FIELD..]'\nbuildozer: a field is kind, startline, rule, label or the name of an attribute; endline and path are none here\n")

-- no word; a target of another repository; a pattern that is refused
abbrev Elsewhere : Type 0
Elsewhere = (hint_for (refused_for Own (codes "  ") (Command Unknown)) ≡ codes "buildozer: there is no command of this name: see docs/buildozer.md, or man buildozer\n")
    × (hint_for (refused_for Own (codes "@r//a:x") BadTarget) ≡ codes "buildozer: a target begins with no @: to edit another repository, run buildozer in its root\n")
    × (hint_for (record { profile = Own; operand = codes "substitute srcs a( x"; fault = Command BadPattern; pattern = Some (syntax 2 (codes "unclosed group")) })
    ≡ codes "buildozer: in the pattern, at byte 2: unclosed group\n")

-- an option of other programs; a letter that is one here; a target of standard input; what is after `--`
abbrev Strange : Type 0
Strange = (line_hint (codes "-kf" ∷ codes "--quiet" ∷ codes "-r" ∷ [])
    ≡ codes "buildozer: there is no option '-r' here: see docs/COMING.md, buildozer-tree and contrib/compat/compat.sh\n")
    × (line_hint (codes "delete" ∷ codes "-:x" ∷ codes "--" ∷ codes "-r" ∷ []) ≡ [])

-- an escape sequence and a line feed in an operand
abbrev Escaped : Type 0
Escaped = operand_line (refused_for Own (codes "//a" ++ 27 ∷ codes "[31m\n/:x") BadTarget) ≡ codes "buildozer: //a\\x1b[31m\\n/:x: BadTarget (12)\n"
    ++ codes "buildozer: the form of a target is //PACKAGE:NAME, without an empty part; a package has at most 65,536 bytes\n"

abbrev pub WorkedCommandLines : Type 0
WorkedCommandLines = Words × Groups × Lines × Faults × Forms × Meant × Elsewhere × Strange × Escaped
