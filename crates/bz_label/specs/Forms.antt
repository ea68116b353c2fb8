-- How labels are read: what the parts are, and the tests on them, computed.
use Rattle.std.specs.Prelude.{Bool, true, ◌&&◌, ◌||◌, [], ◌∷◌}
use Rattle.bz_label.specs.declared.label.Label.{Label}
use Rattle.bz_label.specs.declared.form.Parts.{Parts}
use Rattle.bz_items.specs.Characters.{Bytes}
use Rattle.bz_label.specs.Pieces.{is_empty, is_at}
use Rattle.bz_label.specs.Labels.{is_path, is_repository_name}

-- the label that slices of texts make
abbrev pub label_of : Parts → Label
label_of parts = record { repository = parts.repository.now; «package» = parts.package.now; name = parts.name.now }

-- whether a text may be before //: the condition is `IsRepository`, of which a lemma shows that it is this
abbrev pub is_repository : Bytes → Bool
is_repository [] = true
is_repository (first ∷ name) = is_at first && (is_empty name || is_repository_name name)

abbrev pub are_whole : Bytes → Bytes → Bytes → Bool
are_whole front path name = is_repository front && (is_empty path || is_path path) && is_path name

abbrev pub are_alone : Bytes → Bytes → Bool
are_alone front path = is_repository front && is_path path
