-- What the definitions of a run say of the sessions of its files.
pub use Rattle.bz_journal.specs.Actions.{Action, Do, Format, Undo, Redo, action_in}
pub use Rattle.bz_journal.specs.declared.action.Reply.{Reply}
pub use Rattle.bz_journal.specs.declared.action.Reply.TheVariants.{Changed, Same, Printed, Moved}
pub use Rattle.bz_journal.specs.History.{History, Answer, Acts, Makes, Leads, present, opened, changed, undone, redone, after_meaning, note_limit}
pub use Rattle.bz_journal.specs.Listing.{listing}
pub use Rattle.bz_journal.specs.Meaning.{Meaning, gives, Means, EffectMeans, Formats}
pub use Rattle.bz_journal.specs.Keeping.{Keeps, KeepsFile}
pub use Rattle.bz_journal.specs.declared.keeping.KeepFault.{KeepFault}
pub use Rattle.bz_journal.specs.declared.keeping.KeepFault.TheVariants.{Refused, Pair}
