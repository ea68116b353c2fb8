-- The texts of a file that are kept alone once the last command on it is done.
use Rattle.std.specs.Prelude.{◌≢◌, ◌≤◌, length, Option, None, Some, IfSome, string_bytes}
use Rattle.bz_journal.specs.Words.{Bytes}
use Rattle.bz_journal.specs.History.{History, changed, note_limit, opened}
use Rattle.bz_journal.specs.declared.alone.Made.{Made}

-- a text, or the one that came in its place
abbrev pub text_or : Bytes → Option Bytes → Bytes
text_or text None = text
text_or text (Some other) = other

-- the history of a text, and of the one that an action with a note made of it, where one did
abbrev pub history_made : Bytes → Bytes → Option Made → History
history_made current text None = opened current text
history_made current text (Some made) = changed (string_bytes made.note) (opened current text) made.text

-- the path of a package, a text of it, and another one that an action with a note made
abbrev pub AreTexts : Bytes → Bytes → Option Made → Type 0
AreTexts current text made = (length current ≤ 65536) × IfSome made (λ one. (length (string_bytes one.note) ≤ note_limit) × (one.text ≢ text))
