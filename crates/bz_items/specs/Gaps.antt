use Rattle.std.specs.Prelude.{◌∷◌, replicate}
use Rattle.bz_items.specs.Characters.{Bytes, line_feed, space}
use Rattle.bz_items.specs.declared.gap.Form.{Form}
use Rattle.bz_items.specs.declared.gap.Form.TheVariants.{Spaces, Line, Other}

-- the bytes of a gap in each of its forms
abbrev pub gap_bytes : Form → Bytes
gap_bytes (Spaces count) = replicate count space
gap_bytes (Line count) = line_feed ∷ replicate count space
gap_bytes (Other text) = text.value
