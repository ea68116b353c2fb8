-- What is borrowed to be written, as a record.
use Rattle.std.specs.Prelude.{ℕ, List, [], ◌∷◌}
use Rattle.bz_edit.specs.declared.edit.Edit.{Edit}
use Rattle.bz_journal_format.specs.declared.content.Content.{Content}
use Rattle.bz_journal_format.specs.declared.content.RecordedStep.{RecordedStep}
use Rattle.bz_journal_format.specs.declared.content.Record.{Record}

abbrev pub entry_of : List ℕ → List Edit → RecordedStep
entry_of note edits = record { note = note; edits = edits }

-- each note with the edits of its step
abbrev pub entries_of : List (List ℕ) → List (List Edit) → List RecordedStep
entries_of [] es = []
entries_of (n ∷ ns) [] = []
entries_of (n ∷ ns) (e ∷ es) = entry_of n e ∷ entries_of ns es

abbrev pub record_in : Content → Record
record_in c = record { «package» = c.package.now; text = c.text.now; cursor = c.cursor; before = c.before; digests = c.digests.now; steps = entries_of c.notes.now c.steps.now }
