-- A text that is formatted chunk by chunk, as the private functions that do so state it.
use Rattle.std.specs.Prelude.{◌≡◌, ◌≤◌, Bool, true, false, List, [], ◌∷◌, ◌++◌, Option, None, Result}
use Rattle.bz_build_format.specs.Words.{Bytes, Node, Reads, ReadsBzl, depth_of, depth_limit, limit, Item, EndsWithLine, BeginsBare, EndsWithStatement, view_of, Drafted, drafted, pushed, gap_below, laid_out, layout, begins_with_load, tidied}
use Rattle.bz_build_format.specs.Faults.{FormatsBzlTo, FormatsTo}
use Rattle.bz_build_format.specs.declared.chunks.FileKind.{FileKind}
use Rattle.bz_build_format.specs.declared.chunks.FileKind.TheVariants.{Build, Suites}
use Rattle.bz_build_format.specs.declared.formatter.FormatFault.{FormatFault}

-- A kind of files: the trees of its texts; which of them may follow others, settled apart, and be followed; and how what they say is settled,
-- but for flags, which change no layout; and what formatting a text answers.
pub record SourceKind : Type 1 where
  pub reads : Bytes → Node → Type 0
  pub follows : Node → Type 0
  pub ends : Node → Type 0
  pub settled : List Item → List Item
  pub formats : Bytes → Result Bytes FormatFault → Type 0

abbrev pub of_kind : FileKind → SourceKind
of_kind Build = record { reads = Reads; follows = λ tree. begins_with_load (view_of tree) ≡ false; ends = EndsWithLine; settled = tidied; formats = FormatsTo }
of_kind Suites = record { reads = ReadsBzl; follows = BeginsBare; ends = EndsWithStatement; settled = λ items. items; formats = FormatsBzlTo }

-- The text reads as a file that says these items, settled. It may follow another one, and be followed, where these say so.
abbrev pub ReadsAs : SourceKind → Bytes → List Item → Bool → Bool → Type 0
ReadsAs kind text items follows ends =
    (tree : Node) × kind.reads text tree × (items ≡ kind.settled (view_of tree)) × (follows ≡ true → kind.follows tree) × (ends ≡ true → kind.ends tree)

-- After a text that is written up to a limit is the layout of further items, whose tree is not too deep; the last of them.
pub record IsAppended (before : Drafted) (above : Option Item) (items : List Item) (out : Drafted) (item : Item) : Type 0 where
  pub formatted : out ≡ pushed before (gap_below above items ++ layout items)
  pub shallow : depth_of (laid_out items) ≤ depth_limit
  pub last : (front : List Item) × (items ≡ front ++ item ∷ [])

-- The formatted text of a text, up to the limit of length, and the last of its items.
pub record IsFormattedAs (kind : SourceKind) (text : Bytes) (out : Drafted) (item : Item) (ends : Bool) : Type 0 where
  pub items : List Item
  pub reads : ReadsAs kind text items false ends
  pub laid_out : IsAppended (drafted limit []) None items out item
