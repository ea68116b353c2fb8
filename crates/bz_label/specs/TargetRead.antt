-- The target that a text is, as a function. `IsTarget` says what it is to be.
use Rattle.std.specs.Prelude.{◌&&◌, ◌∷◌, Option, Some, None, length, nat_le, if◌then◌else◌}
use Rattle.bz_label.specs.declared.target.Target.{Target}
use Rattle.bz_items.specs.Characters.{Bytes}
use Rattle.bz_label.specs.Pieces.{is_slash, is_present, has_colon, last_piece}
use Rattle.bz_label.specs.Shorter.{before_colon, after_colon}
use Rattle.bz_label.specs.Targets.{is_package, target_of}

-- the target of a package and what follows it, where they may be that
abbrev pub target_if : Bytes → Bytes → Option Target
target_if path word = if is_package path && nat_le (length path) 65536 && is_present word then Some (target_of path word) else None

-- PACKAGE:WHICH, cut at the first colon
abbrev pub relative_target : Bytes → Option Target
relative_target text = if has_colon text then target_if (before_colon text) (after_colon text) else None

-- after two slashes: PACKAGE:WHICH, or PACKAGE, of which the last piece is meant
abbrev pub absolute_target : Bytes → Option Target
absolute_target text = if has_colon text then target_if (before_colon text) (after_colon text) else target_if text (last_piece text)

abbrev pub target_in : Bytes → Option Target
target_in (first ∷ second ∷ rest) = if is_slash first && is_slash second then absolute_target rest else relative_target (first ∷ second ∷ rest)
target_in text = relative_target text
