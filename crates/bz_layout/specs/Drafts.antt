-- A text that is being written, up to a limit of bytes: where it is longer, that is all that is known of it.
use Rattle.std.specs.Prelude.{ℕ, [], ◌∷◌, ◌++◌, Option, Some, None, length, nat_le, if◌then◌else◌}
use Rattle.bz_items.specs.Characters.{Bytes}

pub record Drafted : Type 0 where
  pub limit : ℕ
  pub text : Option Bytes

-- a text, or none where it is longer than the limit
unfoldable pub fitting : ℕ → Bytes → Option Bytes
fitting limit text = if nat_le (length text) limit then Some text else None

unfoldable pub drafted : ℕ → Bytes → Drafted
drafted limit text = record { limit = limit; text = fitting limit text }

-- a text with bytes after it
abbrev pub fitting_more : ℕ → Option Bytes → Bytes → Option Bytes
fitting_more limit None bytes = None
fitting_more limit (Some text) bytes = fitting limit (text ++ bytes)

unfoldable pub pushed : Drafted → Bytes → Drafted
pushed draft [] = draft
pushed draft (byte ∷ bytes) = record { limit = draft.limit; text = fitting_more draft.limit draft.text (byte ∷ bytes) }
