-- Worked rows: what buildifier's words, modes and faults mean.
use Rattle.std.specs.Prelude.{◌≡◌, [], ◌∷◌, ◌++◌, codes, Ok, Err, true, false}
use Rattle.bz_buildifier.specs.Words.{fault_of, stdin}
use Rattle.clap.specs.declared.error.kind.ErrorKind.TheVariants as kind
use Rattle.bz_lex.specs.declared.fault.ReadFault.TheVariants.{NotUtf8, Unexpected}
use Rattle.bz_files.specs.declared.files.FileFault.TheVariants.{Absent, Open}
use Rattle.bz_build_format.specs.declared.formatter.FormatFault.TheVariants.{Unread, TooLarge}
use Rattle.bz_buildifier.specs.FormatRun.{file_out, input_out, is_rewritten, text_status, worse, name_notes, refused, unread_file, unwritten, unprinted}
use Rattle.bz_buildifier.specs.Modes.{is_bzl, buildifier_app, clap_hint, format_line, no_mode, no_type, clap_fault}
use Rattle.bz_buildifier.specs.declared.file_type.FileType.TheVariants.{Auto, Build, Bzl}
use Rattle.bz_buildifier.specs.declared.mode.Mode.TheVariants.{Fix, Check, PrintIfChanged}

abbrev FormatLines : Type 0
FormatLines = (format_line [] ≡ Ok (record { mode = Fix; file_type = Auto; files = [] }))
    × (format_line (codes "--mode=check" ∷ codes "BUILD" ∷ codes "a/BUILD" ∷ []) ≡ Ok (record { mode = Check; file_type = Auto; files = codes "BUILD" ∷ codes "a/BUILD" ∷ [] }))
    × (format_line (codes "BUILD" ∷ codes "--mode" ∷ codes "print_if_changed" ∷ []) ≡ Ok (record { mode = PrintIfChanged; file_type = Auto; files = codes "BUILD" ∷ [] }))
    × (format_line (codes "--type=bzl" ∷ []) ≡ Ok (record { mode = Fix; file_type = Bzl; files = [] }))
    × (format_line (codes "--type=diff" ∷ codes "--mode=diff" ∷ []) ≡ Err (no_mode (codes "diff"))) × (format_line (codes "--type=module" ∷ []) ≡ Err (no_type (codes "module")))
    × (format_line (codes "--mode=fix" ∷ codes "--mode=fix" ∷ []) ≡ Err clap_fault) × (format_line (codes "--help" ∷ []) ≡ Err clap_fault)
    × (format_line (codes "--version" ∷ codes "BUILD" ∷ []) ≡ Err clap_fault)

-- what a text that differs does in each mode, what one does that is the same, and of which status a run of two is
abbrev Formats : Type 0
Formats = (file_out Check (codes "BUILD") (codes "x( )\n") (codes "x()\n") ≡ codes "BUILD # reformat\n")
    × (input_out Check (codes "x( )\n") (codes "x()\n") ≡ codes "<stdin> # reformat\n")
    × (input_out Fix (codes "x()\n") (codes "x()\n") ≡ codes "x()\n") × (input_out PrintIfChanged (codes "x()\n") (codes "x()\n") ≡ [])
    × (is_rewritten Fix (codes "x( )\n") (codes "x()\n") ≡ true) × (is_rewritten Fix (codes "x()\n") (codes "x()\n") ≡ false)
    × (text_status Check (codes "x( )\n") (codes "x()\n") ≡ 4) × (worse 4 1 ≡ 1) × (worse 3 1 ≡ 3) × (worse 0 4 ≡ 4) × (worse 0 0 ≡ 0)

-- what is below clap's text
abbrev Hints : Type 0
Hints = (fault_of buildifier_app (codes "-r" ∷ []) ≡ kind.UnknownArgument ∷ []) × (fault_of buildifier_app (codes "--help" ∷ codes "-r" ∷ []) ≡ kind.DisplayHelp ∷ [])
    × (clap_hint kind.UnknownArgument (codes "--type=bzl" ∷ codes "-hV" ∷ codes "--" ∷ codes "-r" ∷ []) ≡ [])
    × (clap_hint kind.UnknownArgument (codes "-r" ∷ []) ≡ codes "buildifier: there is no option '-r' here: see docs/COMING.md, buildifier-tree and contrib/compat/compat.sh\n")
    × (clap_hint kind.DisplayHelp (codes "--help" ∷ codes "-r" ∷ []) ≡ [])

-- which files are formatted as .bzl files
abbrev FileKinds : Type 0
FileKinds = (is_bzl Auto (codes "a/b.bzl") ≡ true) × (is_bzl Auto (codes "bzl") ≡ false) × (is_bzl Auto stdin ≡ false) × (is_bzl Bzl stdin ≡ true) × (is_bzl Build (codes "b.bzl") ≡ false)

abbrev FormatReported : Type 0
FormatReported = ((refused (codes "a/BUILD") (codes "x(a b)\n") (Unread (Unexpected 1 5))).lines ≡ codes "a/BUILD:1:5: Unexpected\n    x(a b)\n        ^ the word 'b'\n" ∷ [])
    × ((refused stdin (codes "x\n\ty=1") (Unread (Unexpected 2 5))).lines ≡ codes "<stdin>:2:5: Unexpected\n     y=1\n        ^ the end of the file\n" ∷ [])
    × ((refused stdin (codes "x\n") (Unread (NotUtf8 1))).lines ≡ codes "<stdin>: NotUtf8 at 1\n    the byte after that many is not UTF-8: save the file as text in UTF-8\n" ∷ [])
    × ((refused stdin (codes "x\n") TooLarge).lines ≡ codes "<stdin>: TooLarge\n    the formatted text would have more than 67,108,864 bytes\n" ∷ [])
    × ((unread_file (codes "BUILD") Absent).lines ≡ codes "BUILD: cannot open\n" ∷ [])
    × ((unread_file (codes "-") Absent).lines ≡ codes "-: cannot open\n" ∷ codes "-: standard input is formatted where no file is named\n" ∷ [])
    × (name_notes (codes "BUILD") (codes "# " ++ (195 ∷ 169 ∷ codes "\nx(a = '" ++ (195 ∷ 169 ∷ codes "', \"\" " ++ (195 ∷ 169 ∷ codes " = 1)\n"))))
    ≡ codes "buildifier: note: BUILD:2: a name has a character outside of ASCII, which Bazel refuses: curly quotation marks and no-break spaces are such\n" ∷ [])
    × (name_notes (codes "BUILD") (codes "x(a = '\\'" ++ (195 ∷ 169 ∷ codes "', r\"\"\"\"" ++ (195 ∷ 169 ∷ codes "\"\"\") # " ++ (195 ∷ 169 ∷ codes "\n")))) ≡ [])
    × ((unread_file (codes "app/") Open).lines ≡ codes "app/: cannot open\n" ∷ codes "app/: names a directory: see buildifier-tree\n" ∷ [])
    × ((unread_file (codes "a.d/app") Open).lines ≡ codes "a.d/app: cannot open\n" ∷ codes "a.d/app: if this is a directory, see buildifier-tree\n" ∷ [])
    × ((unread_file (codes "app/BUILD") Open).lines ≡ codes "app/BUILD: cannot open\n" ∷ []) × ((unread_file (codes "a.bzl") Open).lines ≡ codes "a.bzl: cannot open\n" ∷ [])
    × ((unread_file (codes "a\nb.bzl") Absent).lines ≡ codes "a\\nb.bzl: cannot open\n" ∷ [])
    × ((unwritten (codes "BUILD")).lines ≡ codes "BUILD: cannot write\n" ∷ [])
    × ((unprinted (codes "x")).lines ≡ codes "<stdout>: cannot write\n" ∷ [])

abbrev pub WorkedFormats : Type 0
WorkedFormats = FormatLines × Hints × Formats × FileKinds × FormatReported
