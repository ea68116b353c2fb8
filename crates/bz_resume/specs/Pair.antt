-- The name of a journal.
use Rattle.std.specs.Prelude.{◌++◌, codes}
use Rattle.bz_files.specs.Folder.{Text}

-- The name of a file's journal
abbrev pub journal_name : Text → Text
journal_name file = file ++ codes ".journal"
