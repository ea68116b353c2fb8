-- The journal of a history and of the steps between its texts.
use Rattle.std.specs.Prelude.{ℕ, ◌≡◌, ◌≤◌, List, [], ◌++◌, length, map, slice_index_or, IsUtf8, Option, Some, None, if◌then◌else◌}
use Rattle.std.specs.List.{AllByRecursion}
use Rattle.std.specs.Str.{bytes_eq}
use Rattle.bz_resume.specs.Words.{sha256, Node, depth_limit, Edit, IsTrail, IsSmall, trail_at, Text, texts_of, entries_of, Record, Version, IsNote, IsOtherVersion, IsRecord, record_text, short_limit, step_limit}
use Rattle.bz_journal_format.specs.declared.content.Version.TheVariants.{Two}

-- the path of the file's package, the texts in the order in which they came, a note of each step between two of them, the number
-- of the present text, and that of the one that was present before it
pub record History : Type 0 where
  pub «package» : Text
  pub texts : List Text
  pub notes : List Text
  pub cursor : ℕ
  pub before : ℕ

abbrev pub text_at : History → ℕ → Text
text_at h i = slice_index_or h.texts i []

-- what a journal says of a history and the steps between its texts
abbrev pub record_of : History → List (List Edit) → Record
record_of h es = record { «package» = h.package; text = text_at h h.cursor; cursor = h.cursor; before = h.before; digests = map sha256 h.texts; steps = entries_of h.notes es }

-- There is a tree at the cursor from which the steps lead to the trees of the other texts: those before the cursor lead back, and
-- hold the earlier side, the others forward; each text is accepted and differs from its neighbours.
abbrev pub Follows : History → List (List Edit) → Type 0
Follows h es = (n : Node) × IsTrail (trail_at n es h.cursor) × (texts_of (trail_at n es h.cursor) ≡ h.texts)

-- The bytes are the journal of a history and of the steps between its texts.
pub record Journal (bytes : Text) (h : History) (es : List (List Edit)) : Type 0 where
  pub version : Version
  pub spelled : bytes ≡ record_text version (record_of h es)
  pub fits : IsRecord version depth_limit (record_of h es)
  pub noted : length h.notes ≡ length es
  pub follows : Follows h es

-- the bytes are no journal
abbrev pub NoJournal : Text → Type 0
NoJournal bytes = (h : History) (es : List (List Edit)) → Journal bytes h es → ⊥

-- no bytes that begin with these are a journal, or name another version
abbrev pub BeginsNoJournal : Text → Type 0
BeginsNoJournal front = (rest : Text) → (IsOtherVersion (front ++ rest) → ⊥) × NoJournal (front ++ rest)

-- where a history matches the text of a file: at its cursor where that is the text there, else at the cursor before, where it
-- is that one, else nowhere
abbrev pub stands : History → Text → Option ℕ
stands h text = if bytes_eq text (text_at h h.cursor) then Some h.cursor else (if bytes_eq text (text_at h h.before) then Some h.before else None)

-- the steps are those between the trees of the texts
abbrev pub AreSmall : History → List (List Edit) → Type 0
AreSmall h es = (n : Node) → IsTrail (trail_at n es h.cursor) → texts_of (trail_at n es h.cursor) ≡ h.texts → IsSmall (trail_at n es h.cursor)

-- ---- which histories can be saved

-- The path and the notes are texts that fit a journal of version 2, and the numbers are within their bounds.
pub record MaySave (h : History) : Type 0 where
  pub package_length : length h.«package» ≤ short_limit
  pub package_text : IsUtf8 h.«package»
  pub steps_length : length h.notes ≤ step_limit
  pub notes : AllByRecursion (IsNote Two) h.notes
  pub known : h.before ≤ length h.notes

-- the bytes that are written
abbrev pub journal_text : History → List (List Edit) → Text
journal_text h es = record_text Two (record_of h es)
