-- Lists that rise, and dropping the repeats of a list in order by looking at no more than the items that tie with the last one kept.
use Rattle.std.specs.Prelude.{◌≡◌, ℕ, ◌-◌, ◌<◌, Bool, false, ◌&&◌, List, [], ◌++◌, Option, length, slice_get, bytes_eq, if◌then◌else◌, true, ◌∷◌}
use Rattle.std.specs.List.{AllByRecursion, list_any}
use Rattle.std.specs.Option.{option_map_or}
use Rattle.bz_passes.specs.Words.{Expr, Bytes, text_of, between}
use Rattle.bz_passes.specs.Lists.{precedes, without_repeats}
use Rattle.bz_passes.specs.Sorting.{Rises}

abbrev pub is_passed : List Expr → Bool
is_passed [] = false
is_passed (x ∷ xs) = list_any (λ y. precedes y x) xs

-- each item comes before the next one
abbrev pub Climbs : {X : Type 0} → (X → X → Bool) → List X → Type 0
Climbs before [] = Unit {0}
Climbs before (x ∷ []) = Unit {0}
Climbs before (x ∷ y ∷ ys) = (before x y ≡ true) × Climbs before (y ∷ ys)

-- what an item is sorted by
abbrev pub sort_key : Expr → Bytes
sort_key x = between (text_of x)

abbrev pub last_of : List Expr → Option Expr
last_of xs = slice_get xs (length xs - 1)

-- whether the item ties with the last one
abbrev pub ties_last : List Expr → Expr → Bool
ties_last xs x = option_map_or (λ last. bytes_eq (sort_key last) (sort_key x)) (last_of xs) false

abbrev pub precedes_last : List Expr → Expr → Bool
precedes_last xs x = option_map_or (λ last. precedes x last) (last_of xs) false

-- whether the item at a place has this token
abbrev pub is_text_at : List Expr → Bytes → ℕ → Bool
is_text_at xs text place = option_map_or (λ x. bytes_eq text (text_of x)) (slice_get xs place) false

abbrev pub repeats_at : List Expr → List ℕ → Bytes → Bool
repeats_at xs places text = list_any (is_text_at xs text) places

-- the places that matter to the item: none where it begins a tie
abbrev pub tied_places : List Expr → Expr → List ℕ → List ℕ
tied_places xs x places = if ties_last xs x then places else []

-- `kept` and what is to be kept of `rest` is what is to be kept of all, and `places` are those in `kept` where the
-- different tokens of the last tie are: whether a token of the rest is earlier is seen there.
pub record AreKept (all kept : List Expr) (places : List ℕ) (rest : List Expr) : Type 0 where
  pub earlier : List Bytes
  pub goes : kept ++ without_repeats earlier rest ≡ without_repeats [] all
  pub within : AllByRecursion (λ place. place < length kept) places
  pub sees : AllByRecursion (λ x. (precedes_last kept x ≡ false) × (list_any (bytes_eq (text_of x)) earlier ≡ (ties_last kept x && repeats_at kept places (text_of x)))) rest
  pub rises : Rises precedes rest
