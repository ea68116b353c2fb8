-- What a meaning is, and what formatting a text means.
use Rattle.std.specs.Prelude.{◌≡◌, List, Option, None, nat_lt, length, if◌then◌else◌}
use Rattle.bz_build_format.specs.Words.{Node, depth_of, depth_limit, limit, Reads, Item, IsProperBuild, Bytes, view_of, layout, laid_out, tidied, Refusal}
use Rattle.bz_value.specs.declared.refusal.Refusal.TheVariants.{TooLarge, TooDeep}

-- The tree is the layout of these items, which are tidy.
pub record IsWritten (items : List Item) (tree : Node) : Type 0 where
  pub proper : IsProperBuild items
  pub tidy : tidied items ≡ items
  pub laid_out : laid_out items ≡ tree

-- A text, and what is printed where something is; or a refusal.
pub data Meaning : Type 0 where
  gives : Bytes → Option Bytes → Meaning
  refuses : Refusal → Meaning

-- A new value gives the layout of it tidied, within the limits of a text: its length is looked at first, then its depth.
abbrev pub written : List Item → Option Bytes → Meaning
written items printed =
    if nat_lt limit (length (layout (tidied items))) then refuses TooLarge
    else (if nat_lt depth_limit (depth_of (laid_out (tidied items))) then refuses TooDeep else gives (layout (tidied items)) printed)

-- A text that reads as a tree is formatted to the layout of its value tidied, or that is refused.
abbrev pub Formats : Bytes → Meaning → Type 0
Formats text m = (tree : Node) × Reads text tree × (m ≡ written (view_of tree) None)
