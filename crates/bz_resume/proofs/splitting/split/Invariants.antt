use Rattle.bz_resume.proofs.Words.{◌++◌, ◌≡◌, AllByRecursion, edits_of, MayLead, notes_of}
use Rattle.std.specs.Vec.Iter.{into_iter_items}
use Rattle.bz_resume.proofs.splitting.split.Given as goal

-- the notes and steps so far, and those of the entries that are left, are those of all
abbrev pub invariant-entries : goal.invariant-entries
invariant-entries l = record {
  notes : l.notes.items ++ notes_of (into_iter_items l.entry-iterator) ≡ notes_of l.fn.entries.items;
  steps : l.steps.items ++ edits_of (into_iter_items l.entry-iterator) ≡ edits_of l.fn.entries.items;
  left : AllByRecursion MayLead (edits_of l.fn.entries.items) → AllByRecursion MayLead (edits_of (into_iter_items l.entry-iterator));
}
