use Rattle.std.specs.Prelude.{take}
use Rattle.bz_items.specs.Characters.{Bytes}
use Rattle.bz_items.specs.declared.short.Short.{Short}
use Rattle.bz_items.specs.declared.text.Storage.{Storage}
use Rattle.bz_items.specs.declared.text.Storage.TheVariants.{Short as InValue, Long}

-- the bytes of a text that are in the value itself
abbrev pub short_bytes : Short → Bytes
short_bytes short = take short.len short.bytes

-- the bytes of a text where they are
abbrev pub text_bytes : Storage → Bytes
text_bytes (InValue short) = short_bytes short
text_bytes (Long long) = long.items
