-- What is saved of a session.
use Rattle.std.specs.Prelude.{◌≡◌, length, map}
use Rattle.bz_resume.specs.Words.{sha256, spell_node, Trail, IsTrail, trail_at, texts_of}
use Rattle.bz_resume.specs.declared.saving.Saved.{Saved}
use Rattle.bz_resume.specs.Journals.{History, Journal, MaySave, journal_text}

abbrev pub saved_trail : Saved → Trail
saved_trail s = trail_at s.tree.now s.content.steps.now s.content.cursor

abbrev pub saved_history : Saved → History
saved_history s = record { «package» = s.content.package.now; texts = texts_of (saved_trail s); notes = s.content.notes.now; cursor = s.content.cursor; before = s.content.before }

-- The steps lead from text to text, the text is that of the tree and the digests are those of the texts, each step has a note, and the
-- numbers fit a journal.
pub record CanSave (s : Saved) : Type 0 where
  pub trail : IsTrail (saved_trail s)
  pub text : s.content.text.now ≡ spell_node s.tree.now
  pub digests : s.content.digests.now ≡ map sha256 (texts_of (saved_trail s))
  pub noted : length s.content.notes.now ≡ length s.content.steps.now
  pub fits : MaySave (saved_history s)

-- the journal that is written is that of its history and steps
abbrev pub IsSaved : Saved → Type 0
IsSaved s = Journal (journal_text (saved_history s) s.content.steps.now) (saved_history s) s.content.steps.now
