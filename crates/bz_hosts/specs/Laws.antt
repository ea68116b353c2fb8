-- The laws that each view is a file value, with each comment at its host.
use Rattle.std.specs.Prelude.{◌≡◌}
use Rattle.std.specs.List.{flat_map}
use Rattle.bz_hosts.specs.Words.{Node, IsBuild, Legal, AreBuild, IsProper}
use Rattle.bz_hosts.specs.Hosts.{inside_item, hosted_in}
use Rattle.bz_hosts.specs.View.{view_of}

-- What a legal tree says is proper.
abbrev pub ViewsAreProper : Type 0
ViewsAreProper = (tree : Node) → Legal tree → IsProper (view_of tree)

-- What the tree of a BUILD file says has none of the newer kinds.
abbrev pub BuildViews : Type 0
BuildViews = (tree : Node) → IsBuild tree → AreBuild (view_of tree)

-- What a legal tree says has each comment at the host that its place in the whole text gives it, and each suite its end comments.
abbrev pub HostsByPlace : Type 0
HostsByPlace = (tree : Node) → Legal tree → flat_map inside_item (view_of tree) ≡ hosted_in tree
