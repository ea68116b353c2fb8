-- Laws of the layout.
use Rattle.std.specs.Prelude.{◌≡◌, ◌≤◌, ◌<◌, List, length}
use Rattle.bz_layout.specs.Words.{depth_of, limit, depth_limit, IsBuild, ReadsBzl, NoBzlTree, Item, AreBuild, Grammar, IsProper, IsProperIn, view_of}
use Rattle.bz_layout.specs.Written.{layout_in}
use Rattle.bz_layout.specs.LaidOut.{laid_out, laid_out_in}
use Rattle.bz_layout.specs.Flags.{flags_in}
use Rattle.bz_layout.specs.declared.breaks.Lines.{Lines}
use Rattle.bz_layout.specs.declared.breaks.Lines.TheVariants as l

-- Settling the flags changes neither the layout nor its tree, and keeps file values proper, by each grammar.
abbrev pub FlagsKeepLayoutIn : Lines → Type 0
FlagsKeepLayoutIn lines =
    (items : List Item) →
    (layout_in lines (flags_in lines items) ≡ layout_in lines items) × (laid_out_in lines (flags_in lines items) ≡ laid_out_in lines items)
    × (IsProper items → IsProper (flags_in lines items)) × ((grammar : Grammar) → IsProperIn grammar items → IsProperIn grammar (flags_in lines items))

abbrev pub FlagsKeepLayout : Type 0
FlagsKeepLayout = FlagsKeepLayoutIn l.Counted

-- The layout of a proper file value reads as its tree, where it is within the limits of length and depth.
abbrev pub LayoutIsAcceptedIn : Lines → Type 0
LayoutIsAcceptedIn lines =
    (items : List Item) → IsProper items → length (layout_in lines items) ≤ limit → depth_of (laid_out_in lines items) ≤ depth_limit
    → ReadsBzl (layout_in lines items) (laid_out_in lines items)

abbrev pub LayoutIsAccepted : Type 0
LayoutIsAccepted = LayoutIsAcceptedIn l.Counted

-- That of a BUILD file's value is the tree of a BUILD file.
abbrev pub BuildLayoutIsBuild : Type 0
BuildLayoutIsBuild = (items : List Item) → AreBuild items → IsBuild (laid_out items)

-- No tree is read of the layout of a proper file value whose own tree is too deep.
abbrev pub LayoutIsTooDeepIn : Lines → Type 0
LayoutIsTooDeepIn lines = (items : List Item) → IsProper items → depth_limit < depth_of (laid_out_in lines items) → NoBzlTree (layout_in lines items)

abbrev pub LayoutIsTooDeep : Type 0
LayoutIsTooDeep = LayoutIsTooDeepIn l.Counted

-- The view of the tree of the layout of a proper file value is the value with its flags settled.
abbrev pub LayoutReadsBackIn : Lines → Type 0
LayoutReadsBackIn lines = (items : List Item) → IsProper items → view_of (laid_out_in lines items) ≡ flags_in lines items

abbrev pub LayoutReadsBack : Type 0
LayoutReadsBack = LayoutReadsBackIn l.Counted
