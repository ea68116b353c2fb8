-- What a function that reads gives, in terms of a reader.
use Rattle.std.specs.Prelude.{◌≡◌, Option, Some, None, Result, Ok, Err}
use Rattle.bz_journal_format.specs.declared.unread.Unread.{Unread}
use Rattle.bz_journal_format.specs.declared.unread.Unread.TheVariants as u

-- `Damaged` says that the reader reads nothing, `Memory` says nothing
abbrev pub IsUnread : {Y : Type 0} → Unread → Option Y → Type 0
IsUnread u.Memory read = Unit {0}
IsUnread u.Damaged read = read ≡ None

-- it gives what the reader reads, unless memory ran out
abbrev pub Gives : {X Y : Type 0} → (X → Y) → Result X Unread → Option Y → Type 0
Gives view (Ok x) read = read ≡ Some (view x)
Gives view (Err e) read = IsUnread e read
