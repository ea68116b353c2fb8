-- Windows over parts: whether these stay the same.
use Rattle.bz_journal.proofs.Words.{◌++◌, ◌+◌, ◌<◌, ◌↔◌, ◌∙◌, ◌∷◌, ◌≡◌, ◌≤◌, ap, AreThere, arith, drop, drop-drop, drop_all, drop_at, drop_more, get_or, length, length-drop, length-take, length-take-le, List, Part, PartWindow, refl, subst, sym, take, take-append-drop, take_at, window_parts, ℕ}

-- a list that begins with two others
begun : (a b c all : List Part) → a ++ (b ++ c) ≡ all → (take (length a) all ≡ a) × (take (length b) (drop (length a) all) ≡ b) × (c ≡ drop (length b) (drop (length a) all))
begun a b c all is =
    let rest : drop (length a) all ≡ b ++ c = ap (drop (length a)) (sym is) ∙ drop_at a (b ++ c) (length a) refl in (
      ap (take (length a)) (sym is) ∙ take_at a (b ++ c) (length a) refl,
      ap (take (length b)) rest ∙ take_at b c (length b) refl,
      sym (ap (drop (length b)) rest ∙ drop_at b c (length b) refl),
    )

joined : (n m : ℕ) (a b c all : List Part) → take n all ≡ a → take m (drop n all) ≡ b → c ≡ drop m (drop n all) → a ++ (b ++ c) ≡ all
joined n m a b c all first second third =
    ap (λ (xs : List Part). a ++ (b ++ xs)) third ∙ ap (λ (xs : List Part). a ++ (xs ++ drop m (drop n all))) (sym second)
    ∙ ap (λ (xs : List Part). a ++ xs) (take-append-drop m (drop n all)) ∙ ap (λ (xs : List Part). xs ++ drop n all) (sym first) ∙ take-append-drop n all

-- The first windows, as many as i, are passed: this many of the parts, and this many of those that are to be the same.
pub record IsPassed (ws : List PartWindow) (parts : List Part) (i old new : ℕ) : Type 0 where
  pub there : AreThere (drop i ws) (drop old parts)
  pub old_within : old ≤ length parts
  pub new_within : new ≤ length parts
  pub stays : (window_parts ws parts ≡ parts) ↔ (window_parts (drop i ws) (drop old parts) ≡ drop new parts)

-- the next window
module _ (ws : List PartWindow) (parts : List Part) (i old new : ℕ) (w : PartWindow) (in_list : i < length ws) (is : w ≡ get_or ws i w) (passed : IsPassed ws parts i old new) where
  rest_is : drop i ws ≡ w ∷ drop (i + 1) ws
  rest_is = drop_more ws i w in_list ∙ ap (λ (x : PartWindow). x ∷ drop (i + 1) ws) (sym is)

  there_now : AreThere (w ∷ drop (i + 1) ws) (drop old parts)
  there_now = subst (λ (xs : List PartWindow). AreThere xs (drop old parts)) rest_is passed.there

  pub within_old : old + (w.from + w.gone) ≤ length parts
  within_old = omega (arith, there_now.0, length-drop old parts, passed.old_within)

  between : length (take w.from (drop old parts)) ≡ w.from
  between = length-take-le w.from (drop old parts) (omega (arith, there_now.0))

  -- what is between two windows, where it is the same from two places on
  pub stays_between : (count : ℕ) → count ≡ w.from → take (length (take count (drop old parts))) (drop new parts) ≡ take count (drop old parts) → take w.from (drop new parts) ≡ take w.from (drop old parts)
  stays_between count is_from same =
      ap (λ (n : ℕ). take n (drop new parts)) (sym between)
      ∙ subst (λ (n : ℕ). take (length (take n (drop old parts))) (drop new parts) ≡ take n (drop old parts)) is_from same

  abbrev following : List Part
  following = window_parts (drop (i + 1) ws) (drop (w.from + w.gone) (drop old parts))

  made_is : window_parts (drop i ws) (drop old parts) ≡ take w.from (drop old parts) ++ (w.parts ++ following)
  made_is = ap (λ (xs : List PartWindow). window_parts xs (drop old parts)) rest_is

  found : window_parts ws parts ≡ parts → (take w.from (drop new parts) ≡ take w.from (drop old parts)) × (take (length w.parts) (drop (new + w.from) parts) ≡ w.parts) × (following ≡ drop (new + w.from + length w.parts) parts)
  found same =
      let three = begun (take w.from (drop old parts)) w.parts following (drop new parts) (sym made_is ∙ passed.stays.0 same) in
      let one : drop (length (take w.from (drop old parts))) (drop new parts) ≡ drop (new + w.from) parts = ap (λ (n : ℕ). drop n (drop new parts)) between ∙ drop-drop w.from new parts in (
        ap (λ (n : ℕ). take n (drop new parts)) (sym between) ∙ three.0,
        ap (take (length w.parts)) (sym one) ∙ three.1,
        three.2 ∙ ap (drop (length w.parts)) one ∙ drop-drop (length w.parts) (new + w.from) parts,
      )

  pub parts_differ : (take (length w.parts) (drop (new + w.from) parts) ≡ w.parts → ⊥) → window_parts ws parts ≡ parts → ⊥
  parts_differ other same = other (found same).1

  module _ (same_between : take w.from (drop new parts) ≡ take w.from (drop old parts)) where
    pub within_new : new + w.from ≤ length parts
    within_new =
        let size : length (take w.from (drop new parts)) ≡ w.from = ap length same_between ∙ between in
        let least : length (take w.from (drop new parts)) ≤ length (drop new parts) = rw length-take (omega arith) in
        omega (arith, size, least, length-drop new parts, passed.new_within)

    pub passed_next : take (length w.parts) (drop (new + w.from) parts) ≡ w.parts → IsPassed ws parts (i + 1) (old + (w.from + w.gone)) (new + w.from + length w.parts)
    passed_next same_parts =
        let size : length (take (length w.parts) (drop (new + w.from) parts)) ≡ length w.parts = ap length same_parts in
        let least : length (take (length w.parts) (drop (new + w.from) parts)) ≤ length (drop (new + w.from) parts) = rw length-take (omega arith) in
        let past : drop (w.from + w.gone) (drop old parts) ≡ drop (old + (w.from + w.gone)) parts = drop-drop (w.from + w.gone) old parts in
        let one : drop (new + w.from) parts ≡ drop w.from (drop new parts) = sym (drop-drop w.from new parts) in
        record {
          there = subst (λ (xs : List Part). AreThere (drop (i + 1) ws) xs) past there_now.1;
          old_within = within_old;
          new_within = omega (arith, size, least, length-drop (new + w.from) parts, within_new);
          stays = (
            λ same. ap (window_parts (drop (i + 1) ws)) (sym past) ∙ (found same).2,
            λ rest. passed.stays.1
                (made_is ∙ joined w.from (length w.parts) (take w.from (drop old parts)) w.parts following (drop new parts) same_between
                (ap (take (length w.parts)) (sym one) ∙ same_parts)
                (ap (window_parts (drop (i + 1) ws)) past ∙ rest ∙ sym (drop-drop (length w.parts) (new + w.from) parts) ∙ ap (drop (length w.parts)) one)),
          );
        }

-- all are passed
pub all_passed : (ws : List PartWindow) (parts : List Part) (i old new : ℕ) → length ws ≤ i → IsPassed ws parts i old new → (old ≡ new) ↔ (window_parts ws parts ≡ parts)
all_passed ws parts i old new past passed =
    let left : window_parts (drop i ws) (drop old parts) ≡ drop old parts = ap (λ (xs : List PartWindow). window_parts xs (drop old parts)) (drop_all i ws past) in (
      λ same. passed.stays.1 (left ∙ ap (λ (n : ℕ). drop n parts) same),
      λ stays.
          let same : drop old parts ≡ drop new parts = sym left ∙ passed.stays.0 stays in
          omega (arith, ap length same, length-drop old parts, length-drop new parts, passed.old_within, passed.new_within),
    )
