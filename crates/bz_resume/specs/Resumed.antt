-- What is resumed of a journal.
use Rattle.std.specs.Prelude.{◌≡◌, List, map, Some, None, Result, Ok, Err}
use Rattle.bz_resume.specs.Words.{sha256, Edit, Trail, IsTrail, IsSmall, trail_at, Text, texts_of}
use Rattle.bz_resume.specs.declared.resumed.Resumed.{Resumed}
use Rattle.bz_resume.specs.declared.fault.ResumeFault.{ResumeFault}
use Rattle.bz_resume.specs.declared.fault.ResumeFault.TheVariants as f
use Rattle.bz_resume.specs.Journals.{History, Journal, AreSmall, MaySave, stands}

-- the trail of what is resumed
abbrev pub trail_of : Resumed → Trail
trail_of s = trail_at s.tree s.steps s.cursor

-- its history: the cursor before is the cursor
abbrev pub history_of : Resumed → History
history_of s = record { «package» = s.package; texts = texts_of (trail_of s); notes = s.notes; cursor = s.cursor; before = s.cursor }

-- What is resumed of a history and its steps, at the text of a file: the same path, texts and notes, at the cursor where the history
-- matches that text. It can be saved again, and where the steps are those between the trees of the texts they stay so.
pub record StandsFor (h : History) (es : List (List Edit)) (text : Text) (s : Resumed) : Type 0 where
  pub package_is : s.package ≡ h.package
  pub texts : texts_of (trail_of s) ≡ h.texts
  pub notes : s.notes ≡ h.notes
  pub stands_there : stands h text ≡ Some s.cursor
  pub trail : IsTrail (trail_of s)
  pub digests : s.digests ≡ map sha256 h.texts
  pub saves : MaySave (history_of s)
  pub small : AreSmall h es → IsSmall (trail_of s)

-- the bytes are a journal, and this is resumed of it
abbrev pub IsResumed : Text → Text → Resumed → Type 0
IsResumed bytes text s = (h : History) × (es : List (List Edit)) × Journal bytes h es × StandsFor h es text s

-- the bytes are a journal that matches the text nowhere
abbrev pub IsStale : Text → Text → Type 0
IsStale bytes text = (h : History) × (es : List (List Edit)) × Journal bytes h es × (stands h text ≡ None)

-- Of the journal of a history and its steps: what is resumed is theirs, or they match the text nowhere, or memory was refused.
abbrev pub IsKnown : History → List (List Edit) → Text → Result Resumed ResumeFault → Type 0
IsKnown h es text (Ok s) = StandsFor h es text s
IsKnown h es text (Err f.Stale) = stands h text ≡ None
IsKnown h es text (Err f.Memory) = Unit {0}
IsKnown h es text (Err _) = ⊥
