-- What formatting a text answers.
use Rattle.std.specs.Prelude.{◌≡◌, ◌≢◌, ◌≤◌, ◌<◌, true, [], Result, Ok, Err, None, length}
use Rattle.bz_build_format.specs.Words.{ReadFault, is_of_leaves, IsFaultAt, Node, IsFaultOf, Accepted, NoBzlTree, ReadsBzl, depth_of, depth_limit, limit, Bytes, view_of, laid_out, layout, flags}
use Rattle.bz_value.specs.declared.refusal.Refusal.TheVariants as r
use Rattle.bz_build_format.specs.Meaning.{gives, refuses, Formats}
use Rattle.bz_build_format.specs.declared.formatter.FormatFault.{FormatFault}
use Rattle.bz_build_format.specs.declared.formatter.FormatFault.TheVariants.{Unread, TooLarge, TooDeep, Memory}

-- A fault is reported of a text that is refused: one of its leaves at its place, where blanks at the begin of a line may be a fault.
abbrev pub IsReported : Type 0 → (Bytes → Type 0) → Bytes → ReadFault → Type 0
IsReported Refused Indented text fault = Refused × IsFaultOf text fault × (is_of_leaves fault ≡ true → IsFaultAt Indented text fault)

-- An accepted text is formatted, or its formatted text is past a limit; of every other text a fault is reported. Memory may be refused at
-- each.
abbrev pub FormatsTo : Bytes → Result Bytes FormatFault → Type 0
FormatsTo text (Ok formatted) = Formats text (gives formatted None)
FormatsTo text (Err (Unread fault)) = IsReported (Accepted text → ⊥) (λ blanks. blanks ≢ []) text fault
FormatsTo text (Err TooLarge) = Formats text (refuses r.TooLarge)
FormatsTo text (Err TooDeep) = Formats text (refuses r.TooDeep)
FormatsTo text (Err Memory) = Unit {0}

-- ---- .bzl files

-- the layout of what the tree of a .bzl file says, levelled
abbrev pub bzl_formatted : Node → Bytes
bzl_formatted tree = layout (flags (view_of tree))

-- its tree
abbrev pub formatted_tree : Node → Node
formatted_tree tree = laid_out (flags (view_of tree))

-- It reads as this tree, which says the same.
abbrev pub Lasts : Node → Type 0
Lasts tree = ReadsBzl (bzl_formatted tree) (formatted_tree tree) × (view_of (formatted_tree tree) ≡ flags (view_of tree))

-- A text that reads as the tree of a .bzl file is formatted to the layout of what it says, which lasts, where that is within the
-- limits of length and depth; of every other text a fault is reported. Memory may be refused at each.
abbrev pub FormatsBzlTo : Bytes → Result Bytes FormatFault → Type 0
FormatsBzlTo text (Ok formatted) = (tree : Node) × ReadsBzl text tree × (formatted ≡ bzl_formatted tree) × (length formatted ≤ limit) × Lasts tree
FormatsBzlTo text (Err (Unread fault)) = IsReported (NoBzlTree text) (λ _. Unit {0}) text fault
FormatsBzlTo text (Err TooLarge) = (tree : Node) × ReadsBzl text tree × (limit < length (bzl_formatted tree))
FormatsBzlTo text (Err TooDeep) = (tree : Node) × ReadsBzl text tree × (length (bzl_formatted tree) ≤ limit) × (depth_limit < depth_of (formatted_tree tree)) × NoBzlTree (bzl_formatted tree)
FormatsBzlTo text (Err Memory) = Unit {0}
