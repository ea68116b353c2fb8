-- For private functions only: how far text windows are made, and what is still to come.
use Rattle.std.specs.Prelude.{ℕ, Bool, false, ◌≡◌, ◌≤◌, ◌+◌, ◌-◌, List, [], ◌∷◌, ◌++◌, length, take, drop, slice_get, Option, MatchOption}
use Rattle.std.specs.List.{flat_map, AllByRecursion}
use Rattle.bz_layout.specs.Words.{AreThere, window_parts, PartWindow, spell_part, leaves_part, limit, Part, Bytes, Leaf, IsBuildItem, IsProperItem, comments_of, Item}
use Rattle.bz_layout.specs.Drafts.{Drafted, drafted, pushed}
use Rattle.bz_layout.specs.LaidOut.{lines_from}
use Rattle.bz_layout.specs.Windows.{AreTextsOf}
use Rattle.bz_layout.specs.Written.{comment_lines, item_text}
use Rattle.bz_layout.specs.declared.writer.TextWindow.{TextWindow}
use Rattle.bz_layout.specs.declared.writer.Writer.{Writer}
use Rattle.bz_layout.specs.private.Windows.{HaveLines}
use Rattle.bz_value.specs.declared.value.Item.TheVariants as i

-- how many parts are before the end of the last window
abbrev pub windows_end : List PartWindow → ℕ
windows_end [] = 0
windows_end (w ∷ ws) = (w.from + w.gone) + windows_end ws

-- what is made of the parts before that end
abbrev pub windows_front : List PartWindow → List Part → List Part
windows_front [] parts = []
windows_front (w ∷ ws) parts = take w.from parts ++ (w.parts ++ windows_front ws (drop (w.from + w.gone) parts))

-- how many bytes the texts have
abbrev pub text_count : List TextWindow → ℕ
text_count [] = 0
text_count (t ∷ ts) = length t.text + text_count ts

-- and the parts that they take the place of
abbrev pub gone_length : List TextWindow → List Part → ℕ
gone_length [] parts = 0
gone_length (t ∷ ts) parts = length (flat_map spell_part (take t.gone (drop t.from parts))) + gone_length ts (drop (t.from + t.gone) parts)

-- what an item appends to the text of the open window, where this gap is before it
abbrev pub own_text : Bytes → Item → Bytes
own_text gap (i.Block texts) = []
own_text gap (i.Stmt x) = gap ++ item_text (i.Stmt x)

-- the gap of a leaf that is there is this one
abbrev pub HasGap : Option Leaf → Bytes → Type 0
HasGap found gap = MatchOption found ⊥ (λ leaf. leaf.gap ≡ gap)

-- the first of these items is a statement, and this gap with its comments is that of the first of these parts
abbrev pub HasNext : Bytes → List Item → List Part → Type 0
HasNext gap (i.Stmt x ∷ items) parts = HasGap (slice_get (flat_map leaves_part parts) 0) (gap ++ comment_lines (comments_of x).before)
HasNext gap _ parts = ⊥

-- the windows that are made, over these parts
pub record AreMade (parts : List Part) (made : List TextWindow) (bytes done : ℕ) : Type 0 where
  pub new : List PartWindow
  pub texts : AreTextsOf made new
  pub there : AreThere new parts
  pub done_is : done ≡ windows_end new
  pub count : bytes ≡ text_count made
  pub few : bytes ≤ limit

-- And the open one: `left` are the parts that were not come to yet, and with `rest` in their place all would be what it is to be.
pub record Reached (parts all : List Part) (made : List TextWindow) (out : Drafted) (is_open : Bool) (bytes done base part : ℕ) (left rest : List Part) : Type 0 where
  pub before : AreMade parts made bytes done
  pub own : List Part
  pub ahead : done ≤ base
  pub back : base ≤ part
  pub within : part ≤ length parts
  pub text : out ≡ pushed (drafted limit []) (flat_map spell_part own)
  pub closed : is_open ≡ false → (own ≡ []) × (base ≡ part)
  pub left_is : drop part parts ≡ left
  pub rest_is : windows_front before.new parts ++ (take (base - done) (drop done parts) ++ (own ++ rest)) ≡ all

-- where the writer is
abbrev pub IsAt : List Part → List Part → Writer → List Part → List Part → Type 0
IsAt parts all w left rest = Reached parts all w.made w.window.text w.window.is_open w.bytes w.done w.base w.part left rest

-- an item of a BUILD file
abbrev pub IsProperBuildItem : Item → Type 0
IsProperBuildItem item = IsProperItem item × IsBuildItem item

-- the same, where `before` are the items of the tree that were not come to yet, and these are to be in their place
pub record AreReached (parts all : List Part) (w : Writer) (before items : List Item) : Type 0 where
  pub above : Bytes
  pub proper_before : AllByRecursion IsProperBuildItem before
  pub proper : AllByRecursion IsProperBuildItem items
  pub lines : IsAt parts all w (lines_from above before) (lines_from w.window.gap.items items)

-- the writer passes over this many of the items, which stay as they are among those of the tree, of which `count` do, and each has a line, if
-- that is said
abbrev pub Passes : Bool → List Part → ℕ → ℕ → List Item → Writer → Writer → Type 0
Passes said parts count at items old new =
    (all : List Part) (before : List Item) → count ≤ length before → take count before ≡ take count items → HaveLines said before → AreReached parts all old before items
    → AreReached parts all new (drop at before) (drop at items)

-- all windows are made: with the lines that they spell in their places the parts are what they are to be
pub record IsPut (parts all : List Part) (made : List TextWindow) (bytes done : ℕ) : Type 0 where
  pub windows : AreMade parts made bytes done
  pub put : window_parts windows.new parts ≡ all
