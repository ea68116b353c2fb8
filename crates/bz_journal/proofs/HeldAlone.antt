-- What items have in files of their own they have in one file: of the passes only the one over loads looks at more than one item, and that
-- one only moves them.
use Rattle.bz_journal.proofs.Words.{[], ◌+◌, ◌∙◌, ◌∷◌, ◌≡◌, ◌≤◌, AllByRecursion, alone_length, ap, append-nil, ap₂, AreBuild, arith, IsBuildItem, Item, layout, length, List, map, recursion_from_All, refl, subst, sym, tidied, total, ℕ}
use Rattle.bz_layout.specs.{Flags.flags, Flags.item_with_flags, Written.item_text}
use Rattle.bz_layout.proofs.Measured.{layout_first}
use Rattle.bz_passes.specs.{Changes.after_passes, Joined.item_tidied, Passes.load_precedes, Passes.loads, Passes.on_statement, Passes.on_taken, Passes.passed, Passes.taken}
use Rattle.bz_passes.proofs.{Cases.build_passed, Cases.tidied_alone, Composed.five_composed, Sorting.sort_total}

abbrev own_length : Item → ℕ
own_length item = length (item_text item)

-- a file of one item has its own lines
alone_is : (item : Item) → IsBuildItem item → alone_length item ≡ own_length (item_tidied item)
unfolding alone_length
alone_is item build = ap (λ (xs : List Item). length (layout xs)) (tidied_alone item build) ∙ ap length (append-nil (item_text (item_tidied item)))

-- those of the first one of some are in the layout
pub first_below : (items rest : List Item) (item : Item) → items ≡ item ∷ rest → length (item_text item) ≤ length (layout items)
first_below items rest item is =
    let first = layout_first item rest in
    let same : length (layout items) ≡ length (layout (item ∷ rest)) = ap (λ (xs : List Item). length (layout xs)) is in
    omega (arith, first, same)

-- those of all are in the layout
each_alone : (items : List Item) → AllByRecursion IsBuildItem items → total alone_length items ≡ total own_length (map item_tidied items)
each_alone [] build = refl
each_alone (item ∷ items) build = ap₂ (λ (own rest : ℕ). own + rest) (alone_is item build.0) (each_alone items build.1)

all_within : (items : List Item) → total own_length items ≤ length (layout items)
all_within [] = omega arith
all_within (item ∷ items) =
    let first = layout_first item items in
    let rest = all_within items in
    omega (arith, first, rest)

changed_total : (number : Item → ℕ) (change : Item → Item) (items : List Item) → total number (map change items) ≡ total (λ item. number (change item)) items
changed_total number change [] = refl
changed_total number change (item ∷ items) = ap (λ n. number (change item) + n) (changed_total number change items)

same_total : (items : List Item) → total own_length (passed items) ≡ total own_length (map item_tidied items)
same_total items =
    let settled : Item → ℕ = λ item. own_length (item_with_flags item) in
    ap (λ (xs : List Item). total own_length (flags (loads xs))) (five_composed items)
    ∙ (changed_total own_length item_with_flags (loads (on_taken after_passes items))
    ∙ (sort_total load_precedes settled (on_taken after_passes items)
    ∙ (changed_total settled (on_statement (taken after_passes)) items
    ∙ sym (changed_total own_length item_tidied items))))

pub held_alone : (items : List Item) → AreBuild items → total alone_length items ≤ length (layout (tidied items))
held_alone items build =
    let each = each_alone items (recursion_from_All IsBuildItem items build) in
    let same = same_total items in
    let whole = all_within (passed items) in
    subst (λ (xs : List Item). total alone_length items ≤ length (layout xs)) (sym (build_passed items build)) (omega (arith, each, same, whole))
