-- Lines that are read by themselves, and windows of texts.
use Rattle.std.specs.Prelude.{ℕ, ◌≡◌, ◌≤◌, ◌+◌, ◌-◌, ◌⊎◌, List, [], ◌∷◌, ◌++◌, length, take, drop}
use Rattle.std.specs.List.{flat_map}
use Rattle.bz_build_format.specs.Words.{Bytes, Part, AreWholeLines, file_with, Reads, limit, spell_part, bare_end, PartWindow, AreThere, window_parts, TextWindow}
use Rattle.bz_build_format.specs.declared.ends.Side.{Side}
use Rattle.bz_build_format.specs.declared.ends.Side.TheVariants.{Front, Back}

-- what parts spell
abbrev pub spelled_parts : List Part → Bytes
spelled_parts ps = flat_map spell_part ps

-- the text reads as a file of these whole lines, with nothing between the last of them and the end
abbrev pub ReadAsLines : Bytes → List Part → Type 0
ReadAsLines text lines = AreWholeLines lines × Reads text (file_with (lines ++ bare_end ∷ []))

-- the first parts, with those of a window among them in their places
abbrev pub put_in : ℕ → PartWindow → List Part → List Part
put_in reach w parts = take w.from parts ++ (w.parts ++ take (reach - (w.from + w.gone)) (drop (w.from + w.gone) parts))

-- the window is among the first parts, and with it the text is these as lines, if it isn't too long
abbrev pub IsPutAmong : ℕ → List Part → PartWindow → Bytes → Type 0
IsPutAmong reach parts w text = (w.from + w.gone ≤ reach) × (length text ≤ limit → ReadAsLines text (put_in reach w parts))

-- with these windows the text reads as the file of the parts
abbrev pub AreRead : Bytes → List PartWindow → List Part → Type 0
AreRead text ws parts = AreThere ws parts × Reads text (file_with (window_parts ws parts))

-- the text of parts, with that of each window in the place of as many as it says
abbrev pub text_with : List TextWindow → List Part → Bytes
text_with [] parts = spelled_parts parts
text_with (t ∷ ts) parts = spelled_parts (take t.from parts) ++ (t.text ++ text_with ts (drop (t.from + t.gone) parts))

-- each window is among the parts that are left after the one before it
abbrev pub AreAmong : List TextWindow → List Part → Type 0
AreAmong [] parts = Unit {0}
AreAmong (t ∷ ts) parts = (t.from + t.gone ≤ length parts) × AreAmong ts (drop (t.from + t.gone) parts)

-- After a window among the first `reach` parts, before which `kept` stay: it changes nothing and all of them stay, or it is the last window.
abbrev pub IsPushed : List PartWindow → ℕ → PartWindow → ℕ → List PartWindow → ℕ → Type 0
IsPushed before kept w reach after stay =
    ((w.gone ≡ 0) × (w.parts ≡ []) × (after ≡ before) × (stay ≡ kept + reach))
    ⊎ ((after ≡ before ++ record { from = kept + w.from; gone = w.gone; parts = w.parts } ∷ []) × (stay ≡ reach - (w.from + w.gone)))

-- ---- the sides of texts and parts

-- something at a side of something
abbrev pub joined_at : Side → Bytes → Bytes → Bytes
joined_at Front end rest = end ++ rest
joined_at Back end rest = rest ++ end

-- this many parts at a side
abbrev pub at_side : Side → ℕ → List Part → List Part
at_side Front n parts = take n parts
at_side Back n parts = drop (length parts - n) parts
