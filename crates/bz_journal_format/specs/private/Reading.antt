-- Reading a record from the left: what each reader of the code gives. That these read just the texts of records is proved.
use Rattle.std.specs.Prelude.{ℕ, zero, suc, ◌+◌, ◌-◌, Bool, List, [], ◌∷◌, ◌&&◌, length, take, Option, Some, None, if◌then◌else◌, nat_le, codes}
use Rattle.std.specs.Str.{bytes_eq, is_utf8}
use Rattle.bz_token.specs.declared.class.Class.{Class}
use Rattle.bz_token.specs.Classes.{class_of}
use Rattle.bz_lex.specs.declared.leaf.Leaf.{Leaf}
use Rattle.bz_grammar.specs.Kinds.{kind_of}
use Rattle.bz_grammar.specs.declared.kind.Kind.{Kind}
use Rattle.bz_grammar.specs.declared.tree.Node.{Node}
use Rattle.bz_grammar.specs.declared.tree.Part.{Part}
use Rattle.bz_grammar.specs.declared.tree.Part.TheVariants as p
use Rattle.bz_edit.specs.declared.edit.Edit.{Edit}
use Rattle.bz_journal_format.specs.declared.content.RecordedStep.{RecordedStep}
use Rattle.bz_journal_format.specs.declared.content.Record.{Record}
use Rattle.bz_journal_format.specs.declared.content.Version.{Version}
use Rattle.bz_journal_format.specs.declared.content.Version.TheVariants.{One, Two}
use Rattle.bz_journal_format.specs.Readers.{Reader, after_mark, counted_at, digest_at, field_at, listed_at, number_at, repeated, tested, up_to, ◌>>=◌}
use Rattle.bz_items.specs.Characters.{line_feed, space}
use Rattle.bz_journal_format.specs.Texts.{end_line, short_limit, step_limit, version_line}

-- ---- parts

-- a class by its number, and a space
unfoldable pub numbered_class_at : Reader Class
numbered_class_at s = do
  n ← number_at space s
  class ← class_of n.0
  Some (class, n.1)

-- a kind by its number, and a space
unfoldable pub numbered_kind_at : Reader Kind
numbered_kind_at s = do
  n ← number_at space s
  kind ← kind_of n.0
  Some (kind, n.1)

-- what follows `leaf `
unfoldable pub leaf_at : Reader Leaf
leaf_at s = do
  class ← numbered_class_at s
  gaplen ← number_at space class.1
  tokenlen ← number_at line_feed gaplen.1
  gap ← field_at gaplen.0 tokenlen.1
  token ← field_at tokenlen.0 gap.1
  rest ← after_mark (line_feed ∷ []) token.1
  Some (record { class = class.0; gap = gap.0; token = token.0 }, rest)

-- the one reading, or else the other
abbrev pub either : {A B : Type 0} → Option A → (A → Option B) → Option B → Option B
either None f o = o
either (Some x) f o = f x

abbrev pub leaf_read : Leaf × List ℕ → Option (Part × List ℕ)
leaf_read x = Some (p.Leaf x.0, x.1)

abbrev pub node_read : Node × List ℕ → Option (Part × List ℕ)
node_read x = Some (p.Node x.0, x.1)

-- a leaf, or a node by a reader of what follows `node `
unfoldable pub choice : Reader Node → Reader Part
choice nodes s = either (after_mark (codes "leaf ") s) (λ r. leaf_at r >>= leaf_read) (after_mark (codes "node ") s >>= λ r. nodes r >>= node_read)

-- what follows `node `, by a reader of its parts
unfoldable pub node_at : Reader Part → Reader Node
node_at inner s = do
  kind ← numbered_kind_at s
  parts ← listed_at line_feed inner kind.1
  Some (record { kind = kind.0; parts = parts.0 }, parts.1)

-- what follows `node `, where at most this many nodes are inside each other
unfoldable pub nodes_at : ℕ → Reader Node
nodes_at zero s = None
nodes_at (suc d) s = node_at (choice (nodes_at d)) s

-- a part of which at most this many nodes are inside each other
abbrev pub held_at : ℕ → Reader Part
held_at d = choice (nodes_at d)

-- ---- edits and steps

unfoldable pub edit_at : ℕ → Reader Edit
edit_at depth s = do
  begun ← after_mark (codes "edit ") s
  path ← listed_at space (number_at space) begun
  at ← number_at space path.1
  count ← number_at space at.1
  held ← listed_at line_feed (held_at depth) count.1
  Some (record { path = path.0; at = at.0; count = count.0; held = held.0 }, held.1)

-- the name of a package, or a note
abbrev pub is_short_text : List ℕ → Bool
is_short_text name = nat_le (length name) short_limit && is_utf8 name

unfoldable pub note_at : Version → Reader (List ℕ)
note_at One s = Some ([], s)
note_at Two s = do
  begun ← after_mark (codes "note ") s
  note ← tested is_short_text (counted_at space) begun
  rest ← after_mark (line_feed ∷ []) note.1
  Some (note.0, rest)

unfoldable pub entry_at : Version → ℕ → Reader RecordedStep
entry_at v depth s = do
  begun ← after_mark (codes "step ") s
  count ← number_at line_feed begun
  note ← note_at v count.1
  edits ← repeated (edit_at depth) count.0 note.1
  Some (record { note = note.0; edits = edits.0 }, edits.1)

unfoldable pub digest_line_at : Reader (List ℕ)
digest_line_at s = do
  begun ← after_mark (codes "digest ") s
  digest_at begun

-- ---- all lines but the last

abbrev pub record_made : List ℕ → List ℕ → ℕ → ℕ → List (List ℕ) → List RecordedStep → Record
record_made name text cursor before digests steps = record { «package» = name; text = text; cursor = cursor; before = before; digests = digests; steps = steps }

-- the lines after those of the texts
unfoldable pub counted_lines_at : Version → ℕ → List ℕ → List ℕ → Reader Record
counted_lines_at v depth name text s = do
  third ← after_mark (codes "\nsteps ") s
  count ← up_to step_limit space third
  now ← after_mark (codes "now ") count.1
  cursor ← up_to count.0 space now
  was ← after_mark (codes "before ") cursor.1
  before ← up_to count.0 line_feed was
  digests ← repeated digest_line_at (count.0 + 1) before.1
  steps ← repeated (entry_at v depth) count.0 digests.1
  Some (record_made name text cursor.0 before.0 digests.0 steps.0, steps.1)

unfoldable pub lines_at : Version → ℕ → Reader Record
lines_at v depth s = do
  first ← after_mark (version_line v) s
  begun ← after_mark (codes "package ") first
  name ← tested is_short_text (counted_at space) begun
  second ← after_mark (codes "\ntext ") name.1
  text ← counted_at line_feed second
  counted_lines_at v depth name.0 text.0 text.1

-- the whole of the bytes: the last line is that of all lines before it
unfoldable pub record_at : Version → ℕ → List ℕ → Option Record
record_at v depth s = do
  lines ← lines_at v depth s
  if bytes_eq lines.1 (end_line (take (length s - length lines.1) s)) then Some lines.0 else None
