-- The law that the view loses no comment and doubles none.
use Rattle.std.specs.Prelude.{◌≡◌, ℕ, List}
use Rattle.std.specs.List.{flat_map}
use Rattle.bz_hosts.specs.Words.{Node, Legal, leaves_of, total, one_if, times, Bytes, all_in}
use Rattle.bz_hosts.specs.View.{view_of}

-- the comments of a tree: those in the gaps of its leaves, in the order of the text
abbrev pub comments_of_tree : Node → List Bytes
comments_of_tree tree = flat_map (λ leaf. all_in leaf.gap) (leaves_of tree)

-- how often a comment of this text is in a tree
abbrev pub occurrences : Bytes → Node → ℕ
occurrences text tree = total (one_if text) (comments_of_tree tree)

-- Each comment of a legal tree is in its file value as often as in its gaps.
abbrev pub CommentsKept : Type 0
CommentsKept = (tree : Node) → Legal tree → (text : Bytes) → times text (view_of tree) ≡ occurrences text tree
