-- The files of a run as contracts see them, and what the code keeps to find a package: its path as a key, in order of first use.
use Rattle.std.specs.Prelude.{ℕ, List, Option, Vec, map, string_bytes}
use Rattle.std.specs.Option.{option_map}
use Rattle.std.specs.declared.alloc.Global.{Global}
use Rattle.bz_buildozer.specs.Words.{Bytes, Form, past_history}
use Rattle.bz_journal.specs.declared.past.Form.TheVariants as f
use Rattle.bz_buildozer.specs.Found as p
use Rattle.bz_buildozer.specs.declared.reading.Taken.{Taken}
use Rattle.bz_buildozer.specs.declared.used.Opened.{Opened}
use Rattle.bz_buildozer.specs.declared.used.Used.{Used}

-- a course of texts, and not two texts alone
abbrev pub IsCourse : Form → Type 0
IsCourse (f.Course session) = Unit {0}
IsCourse (f.Alone history) = ⊥

abbrev pub opened_in : Opened → p.Opened
opened_in file = record { name = string_bytes file.name; read = file.read; history = past_history file.past; written = file.written; left = file.left }

abbrev pub used_in : Used → p.Used
used_in used = record { «package» = used.«package»; file = option_map opened_in used.file }

abbrev pub taken_in : Taken → Option p.Opened
taken_in taken = option_map opened_in taken.file

abbrev pub texts_of_keys : List (Vec ℕ Global) → List Bytes
texts_of_keys keys = map (λ (key : Vec ℕ Global). key.items) keys

abbrev pub packages_of : List p.Used → List Bytes
packages_of used = map (λ (one : p.Used). one.«package») used
