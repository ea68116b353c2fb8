-- The bytes of a journal, in both versions, and which records have them.
use Rattle.std.specs.Prelude.{◌≡◌, ℕ, suc, ◌+◌, ◌<◌, ◌≤◌, List, [], ◌∷◌, ◌++◌, length, codes, IsUtf8, slice_index, true}
use Rattle.std.specs.List.{flat_map, AllByRecursion, list_all}
use Rattle.sha2.specs.Sha256.{sha256}
use Rattle.hex.specs.Hex.{encode_lower}
use Rattle.bz_items.specs.Characters.{line_feed, space}
use Rattle.bz_token.specs.Bytes.{is_digit}
use Rattle.bz_token.specs.Classes.{class_number}
use Rattle.bz_journal_format.specs.Spellings.{counted_text, digit_zero, IsDigest, number_limit, numeral}
use Rattle.bz_lex.specs.declared.leaf.Leaf.{Leaf}
use Rattle.bz_grammar.specs.Kinds.{kind_number}
use Rattle.bz_grammar.specs.Spell.{depth_part, depth_limit}
use Rattle.bz_grammar.specs.declared.kind.Kind.{Kind}
use Rattle.bz_grammar.specs.declared.tree.Part.{Part, Row_of-Part, end_of-Part, more_of-Part, Node'}
use Rattle.bz_grammar.specs.declared.tree.Part as p
use Rattle.bz_edit.specs.declared.edit.Edit.{Edit}
use Rattle.bz_journal_format.specs.declared.content.RecordedStep.{RecordedStep}
use Rattle.bz_journal_format.specs.declared.content.Record.{Record}
use Rattle.bz_journal_format.specs.declared.content.Version.{Version}
use Rattle.bz_journal_format.specs.declared.content.Version.TheVariants.{One, Two}

-- a number and a space
abbrev pub spaced_number : ℕ → List ℕ
spaced_number = numeral space

-- the last number of a line, and the newline
abbrev pub last_number : ℕ → List ℕ
last_number = numeral line_feed

-- leaf CLASS GAPLEN TOKENLEN, then gap, token and a newline
abbrev pub leaf_text : Leaf → List ℕ
leaf_text l = codes "leaf " ++ spaced_number (class_number l.class) ++ spaced_number (length l.gap) ++ last_number (length l.token) ++ l.gap ++ l.token ++ line_feed ∷ []

-- node KIND PARTS
abbrev pub node_line : Kind → ℕ → List ℕ
node_line kind parts = codes "node " ++ spaced_number (kind_number kind) ++ last_number parts

-- a part: a leaf, or a node's line and then its parts
abbrev mutual
  pub part_text : Part → List ℕ
  part_text (p.Leaf l) = leaf_text l
  part_text (Node' kind s row) = node_line kind (row_length row) ++ held_row_text row

  pub held_row_text : {m : _} → Row_of-Part m → List ℕ
  held_row_text end_of-Part = []
  held_row_text (more_of-Part x rest) = part_text x ++ held_row_text rest

  pub row_length : {m : _} → Row_of-Part m → ℕ
  row_length end_of-Part = 0
  row_length (more_of-Part x rest) = suc (row_length rest)

-- edit K p1 .. pK AT COUNT HELD, then the held parts
abbrev pub edit_text : Edit → List ℕ
edit_text e = codes "edit " ++ spaced_number (length e.path) ++ flat_map spaced_number e.path ++ spaced_number e.at ++ spaced_number e.count ++ last_number (length e.held) ++ flat_map part_text e.held

-- note LEN BYTES, in version 2 alone
abbrev pub note_line : Version → List ℕ → List ℕ
note_line One note = []
note_line Two note = codes "note " ++ counted_text space note ++ line_feed ∷ []

-- step E, the line of its note, then its edits
abbrev pub entry_text : Version → RecordedStep → List ℕ
entry_text v t = codes "step " ++ last_number (length t.edits) ++ note_line v t.note ++ flat_map edit_text t.edits

-- digest HEX
abbrev pub digest_text : List ℕ → List ℕ
digest_text digest = codes "digest " ++ encode_lower digest ++ line_feed ∷ []

-- the first line
abbrev pub version_line : Version → List ℕ
version_line One = codes "bzjournal 1\n"
version_line Two = codes "bzjournal 2\n"

-- the version, package LEN BYTES, and text LEN, then the text at the cursor and a newline
abbrev pub texts_text : Version → Record → List ℕ
texts_text v r = version_line v ++ codes "package " ++ counted_text space r.package ++ line_feed ∷ [] ++ codes "text " ++ counted_text line_feed r.text ++ line_feed ∷ []

-- steps N now C before B
abbrev pub counts_text : Record → List ℕ
counts_text r = codes "steps " ++ spaced_number (length r.steps) ++ codes "now " ++ spaced_number r.cursor ++ codes "before " ++ last_number r.before

-- all lines but the last
abbrev pub lines_text : Version → Record → List ℕ
lines_text v r = texts_text v r ++ counts_text r ++ flat_map digest_text r.digests ++ flat_map (entry_text v) r.steps

-- the last line, after these bytes: end HEX
abbrev pub end_line : List ℕ → List ℕ
end_line bytes = codes "end " ++ encode_lower (sha256 bytes) ++ line_feed ∷ []

-- the bytes of a record
abbrev pub record_text : Version → Record → List ℕ
record_text v r = lines_text v r ++ end_line (lines_text v r)

-- ---- which records have a text

-- the most bytes of a package's name, and of a note
abbrev pub short_limit : ℕ
short_limit = 65536

-- the most steps of a record
abbrev pub step_limit : ℕ
step_limit = 100000

-- the numbers of held parts fit
abbrev mutual
  pub IsSmallPart : Part → Type 0
  IsSmallPart (p.Leaf l) = (length l.gap < number_limit) × (length l.token < number_limit)
  IsSmallPart (Node' kind s row) = (row_length row < number_limit) × AreSmallParts row

  pub AreSmallParts : {m : _} → Row_of-Part m → Type 0
  AreSmallParts end_of-Part = Unit {0}
  AreSmallParts (more_of-Part x rest) = IsSmallPart x × AreSmallParts rest

-- held nodes are inside each other to at most this depth
abbrev pub IsHeld : ℕ → Part → Type 0
IsHeld depth x = (depth_part x ≤ depth) × IsSmallPart x

-- an edit that has a text
pub record IsEdit (depth : ℕ) (e : Edit) : Type 0 where
  pub path_length : length e.path < number_limit
  pub path : AllByRecursion (λ n. n < number_limit) e.path
  pub at : e.at < number_limit
  pub count : e.count < number_limit
  pub held_length : length e.held < number_limit
  pub held : AllByRecursion (IsHeld depth) e.held

-- a note is a text like a package's name, and version 1 has none
abbrev pub IsNote : Version → List ℕ → Type 0
IsNote One note = note ≡ []
IsNote Two note = (length note ≤ short_limit) × IsUtf8 note

-- a note and edits that have a text
pub record IsNotedStep (v : Version) (depth : ℕ) (t : RecordedStep) : Type 0 where
  pub note : IsNote v t.note
  pub edits_length : length t.edits < number_limit
  pub edits : AllByRecursion (IsEdit depth) t.edits

-- a record that has a text
pub record IsRecord (v : Version) (depth : ℕ) (r : Record) : Type 0 where
  pub package_length : length r.package ≤ short_limit
  pub package_text : IsUtf8 r.package
  pub text : length r.text < number_limit
  pub steps_length : length r.steps ≤ step_limit
  pub cursor : r.cursor ≤ length r.steps
  pub before : r.before ≤ length r.steps
  pub digests_length : length r.digests ≡ length r.steps + 1
  pub digests : AllByRecursion IsDigest r.digests
  pub steps : AllByRecursion (IsNotedStep v depth) r.steps

-- the bytes are those of the record in one of the versions
abbrev pub IsRead : List ℕ → Record → Type 0
IsRead bytes r = (v : Version) × IsRecord v depth_limit r × (bytes ≡ record_text v r)

-- ---- other versions

-- digits without leading zeros that are neither those of 1 nor those of 2
pub record IsOtherNumber (digits : List ℕ) : Type 0 where
  pub some : 0 < length digits
  pub digits_alone : list_all is_digit digits ≡ true
  pub no_zero : slice_index digits 0 ≡ digit_zero → length digits ≡ 1
  pub other : digits ≡ codes "1" → ⊥
  pub other_two : digits ≡ codes "2" → ⊥

-- the first line is `bzjournal ` and such a number
abbrev pub IsOtherVersion : List ℕ → Type 0
IsOtherVersion bytes = (digits : List ℕ) × (rest : List ℕ) × IsOtherNumber digits × (bytes ≡ codes "bzjournal " ++ digits ++ line_feed ∷ rest)
