-- What comes of reading the file of a package, or standard input.
use Rattle.std.specs.Prelude.{◌≡◌, ◌⊎◌, ◌++◌, Bool, true, false, List, [], ◌∷◌, Option, None, Err, codes}
use Rattle.bz_files.specs.Orders.{Act, Read, with_act}
use Rattle.bz_files.specs.declared.files.FileFault.{FileFault}
use Rattle.bz_files.specs.declared.files.FileKind.TheVariants as k
use Rattle.bz_buildozer.specs.Words.{BeginsNoJournal, Folder, Bytes, ReadsRegular, Reports, IsInput, stdin, Cut}
use Rattle.bz_streams.specs.declared.exit.Cut.TheVariants as c
use Rattle.bz_streams.specs.declared.sink.Sink.{Ghosts as SinkOf}
use Rattle.bz_buildozer.specs.Found.{Opened}
use Rattle.bz_buildozer.specs.Opens.{Takes}
use Rattle.bz_buildozer.specs.Run.{OpensUntil, SecondUntil, unreadable, wanting}
use Rattle.bz_buildozer.specs.Steps.{input_package}
use Rattle.bz_buildozer.specs.Unread.{RunActs}

-- Of a file, or of none, this is so, and the lines were printed. (Standard error before and after.)
abbrev pub Brings : {E : Type 0} → SinkOf E → (Option Opened → List Bytes → Type 0) → Option Opened → E → E → Type 0
Brings sink Is file old new = (lines : List Bytes) × Is file lines
    × Reports (sink.faults old) (sink.faults new) (sink.contents old) (sink.contents new) lines

-- Standard input is opened, or can't be read.
abbrev pub InputUntil : Cut → Option Bytes → Option Opened → List Bytes → Type 0
InputUntil c.Whole known file lines = (text : Bytes) × IsInput known text × Takes input_package stdin text file lines
InputUntil c.Read known file lines = (file ≡ None) × (lines ≡ unreadable stdin)
InputUntil c.Memory known file lines = (file ≡ None) × (lines ≡ wanting stdin)
InputUntil why known file lines = ⊥

-- the name of a package's file below the package: the first one, or the second
abbrev pub base_of : Bool → Bytes
base_of false = codes "BUILD.bazel"
base_of true = codes "BUILD"

-- what is between the path of a package and the name of a file in it
abbrev pub slash_after : Bytes → Bytes
slash_after [] = []
slash_after (first ∷ rest) = codes "/"

-- The file of a package that has its first name, or else its second one, is opened, or that with the second one alone.
abbrev pub NamedUntil : Bool → Cut → Bool → RunActs → Folder → Bytes → Option Opened → List Bytes → Type 0
NamedUntil false why journals acts folder current file lines = OpensUntil why journals acts folder current file lines
NamedUntil true why journals acts folder current file lines = SecondUntil why journals acts folder current file lines

-- What was read of a journal that has these bytes: all of them, or the first ones alone where no journal begins with these.
abbrev pub IsEnoughOf : Bytes → Bytes → Type 0
IsEnoughOf bytes read = (bytes ≡ read) ⊎ ((rest : Bytes) × (bytes ≡ read ++ rest) × BeginsNoJournal read)

-- The last act was a read of the file of this name that failed so, after reads of regular files.
abbrev pub LastReadFailed : Option (List Act) → Option (List Act) → Bytes → FileFault → Type 0
LastReadFailed before after name fault = (mid : Option (List Act)) × ReadsRegular before mid × (after ≡ with_act mid (Read name k.Regular (Err fault)))
