-- The comments of a host, as contracts see them.
use Rattle.std.specs.Prelude.{ℕ, List, [], Option, Some, None, Box}
use Rattle.std.specs.declared.alloc.Global.{Global}
use Rattle.bz_value.specs.declared.comments.Held.{Held}

-- those above it in the order of the text, and the one on its last line
pub record HostComments : Type 0 where
  pub before : List (List ℕ)
  pub suffix : Option (List ℕ)

abbrev pub no_comments : HostComments
no_comments = record { before = []; suffix = None }

-- no comments are not held
abbrev pub lines_held : Option (Box (List (List ℕ)) Global) → List (List ℕ)
lines_held None = []
lines_held (Some held) = held.value

-- a host without comments holds nothing
abbrev pub held_by : Option (Box Held Global) → HostComments
held_by None = no_comments
held_by (Some held) = record { before = held.value.before; suffix = held.value.suffix }
