-- Labels as functions: the label that a text is, whether two texts mean the same, and the shorter form of a text. The
-- conditions `IsLabel`, `IsSame` and `IsShortened` say what they are to be.
use Rattle.std.specs.Prelude.{Bool, false, ◌&&◌, ◌||◌, ◌++◌, [], ◌∷◌, Option, Some, None, if◌then◌else◌, bytes_eq, codes}
use Rattle.std.specs.Option.{option_map_or}
use Rattle.bz_label.specs.declared.label.Label.{Label}
use Rattle.bz_items.specs.Characters.{Bytes}
use Rattle.bz_label.specs.Pieces.{is_at, is_colon, is_slash, is_empty, has_colon, last_piece}
use Rattle.bz_label.specs.Labels.{is_path, is_repository_name}
use Rattle.bz_label.specs.Forms.{are_whole, are_alone}
use Rattle.bz_label.specs.Shorter.{before_colon, after_colon, before_slashes, after_slashes, unrepeated}

-- the label of three parts, where they may be that
abbrev pub kept_if : Bool → Bytes → Bytes → Bytes → Option Label
kept_if good repository path name = if good then Some (record { repository = repository; «package» = path; name = name }) else None

-- [REPOSITORY]//PACKAGE:NAME or [REPOSITORY]//PACKAGE, cut at the first two slashes and the first colon after them
abbrev pub absolute_label : Bytes → Bytes → Option Label
absolute_label front rest =
    if has_colon rest then kept_if (are_whole front (before_colon rest) (after_colon rest)) front (before_colon rest) (after_colon rest)
    else kept_if (are_alone front rest) front rest (last_piece rest)

-- whether two slashes occur in a text
abbrev pub has_slashes : Bytes → Bool
has_slashes [] = false
has_slashes (c ∷ []) = false
has_slashes (c ∷ d ∷ s) = (is_slash c && is_slash d) || has_slashes (d ∷ s)

-- @REPO, :NAME or NAME
abbrev pub other_label : Bytes → Bytes → Option Label
other_label current [] = None
other_label current (first ∷ rest) =
    if is_at first then kept_if (is_repository_name rest) (first ∷ rest) [] rest
    else (if is_colon first then kept_if (is_path rest) [] current rest else kept_if (is_path (first ∷ rest)) [] current (first ∷ rest))

-- the label that a text is, read in the current package
abbrev pub label_in : Bytes → Bytes → Option Label
label_in current text = if has_slashes text then absolute_label (before_slashes text) (after_slashes text) else other_label current text

abbrev pub is_equal : Label → Label → Bool
is_equal one other = bytes_eq one.repository other.repository && bytes_eq one.package other.package && bytes_eq one.name other.name

abbrev pub are_equal : Option Label → Option Label → Bool
are_equal (Some one) (Some other) = is_equal one other
are_equal _ _ = false

-- Both are labels with equal three parts, or the texts are equal.
abbrev pub is_same : Bytes → Bytes → Bytes → Bool
is_same current one other = bytes_eq one other || are_equal (label_in current one) (label_in current other)

-- //PACKAGE:NAME with the current package and no repository
abbrev pub is_own : Bytes → Bytes → Bool
is_own current text =
    is_empty (before_slashes text) && has_colon (after_slashes text) && option_map_or (λ label. bytes_eq label.package current) (label_in current text) false

-- It becomes :NAME; any other text loses a repeated name.
abbrev pub shortened : Bytes → Bytes → Bytes
shortened current text = if is_own current text then codes ":" ++ after_colon text else unrepeated text
