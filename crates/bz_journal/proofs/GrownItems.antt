-- What is known of items that a command is tried on one after the other.
use Rattle.bz_journal.proofs.Words.{[], ◌+◌, ◌-◌, ◌<◌, ◌||◌, ◌∙◌, ◌∷◌, ◌≡◌, ◌≢◌, ◌≤◌, All-weaker, alone_length, ap, AreBuild, AreProperMade, arith, Bool, Bytes, drop, drop_more, Err, Expr, false, get_or, Grows, IfOk, IsProper, IsProperCommand, IsProperItem, Item, Item as i, item_made, length, limit, List, marked_places, meant, NewItem, Ok, on_each, on_meant, Operation, Option, Overfills, recursion_from_All, refl, Refusal, Result, source_of, subst, sym, total, true, true≢false, whole_grammar, with_item_first, ℕ}
use Rattle.bz_label.specs.declared.target.Which.{Which}
use Rattle.bz_command.proofs.ProperEffects.{each_keeps}
use Rattle.bz_journal.proofs.HeldAlone.{held_alone}

-- What is known of all by what is made of the items that are left: they overfill a file where that has at least this many bytes, each item in a file of
-- its own, and is something else or something before it is. A refusal is one of all.
abbrev pub Follows : List Item → Result (List Item) Refusal → ℕ → Bool → List Item → Result (List Item) Refusal → Type 0
Follows items all left differs rest (Ok new) = left ≤ total alone_length new → (differs ≡ false → new ≢ rest) → Overfills items all
Follows items all left differs rest (Err refusal) = all ≡ Err refusal

-- what is past the limit one by one is so as a whole
follows_all : (items : List Item) (all : Result (List Item) Refusal) → IfOk all AreBuild → Follows items all (limit + 1) false items all
follows_all items (Err refusal) build = refl
follows_all items (Ok new) build =
    let within = held_alone new build in
    λ own other. (other refl, omega (arith, own, within))

either_differs : (a b : Bool) (new x : Item) (others rest : List Item) → (b ≡ true → new ≢ x) → ((a || b) ≡ false → others ≢ rest) → a ≡ false → new ∷ others ≢ x ∷ rest
either_differs true b new x others rest first following e = absurd (true≢false e)
either_differs false true new x others rest first following e = λ same. let is : new ≡ x = cc in first refl is
either_differs false false new x others rest first following e = λ same. let is : others ≡ rest = cc in following refl is

-- where none is meant all stay
none_meant : (change : Item → NewItem) (at : ℕ) (marks : List Bool) (items : List Item) → [] ≡ marked_places at marks → on_meant change marks items ≡ Ok items
none_meant change at [] items none = refl
none_meant change at (true ∷ marks) items none = absurd (cc)
none_meant change at (false ∷ marks) [] none = refl
none_meant change at (false ∷ marks) (x ∷ items) none = ap (with_item_first (Ok x)) (none_meant change (at + 1) marks items none)

-- What is known while items are tried, of which those at the places are left: `left` is how many bytes are left until the limit is passed, and
-- `differs` whether another item was made of one so far.
pub record AreTried (change : Item → NewItem) (items : List Item) (all : Result (List Item) Refusal) (left : ℕ) (differs : Bool) (places : List ℕ) : Type 0 where
  pub at : ℕ
  pub marks : List Bool
  pub count : at + length marks ≡ length items
  pub meant_are : places ≡ marked_places at marks
  pub follow : Follows items all left differs (drop at items) (on_meant change marks (drop at items))

-- before all
pub first_tried : (change : Item → NewItem) (marks : List Bool) (items : List Item) (places : List ℕ) → places ≡ marked_places 0 marks → length marks ≡ length items
    → IfOk (on_meant change marks items) AreBuild → AreTried change items (on_meant change marks items) (limit + 1) false places
first_tried change marks items places are many build = record { at = 0; marks = marks; count = omega (arith, many); meant_are = are; follow = follows_all items (on_meant change marks items) build }

module _ (change : Item → NewItem) (items : List Item) (all : Result (List Item) Refusal) (left : ℕ) (differs : Bool) where
  -- one item after the first one, which stays or is tried
  after_one : (x : Item) (rest : List Item) (made : Result (List Item) Refusal) → Follows items all left differs (x ∷ rest) (with_item_first (Ok x) made) → Follows items all left differs rest made
  after_one x rest (Err refusal) h = h
  after_one x rest (Ok new) h = λ own other. h (omega (arith, own)) (λ e same. let is : new ≡ rest = cc in other e is)

  after_tried : (own : ℕ) (another : Bool) (x : Item) (rest : List Item) (one : NewItem) (made : Result (List Item) Refusal) → Grows own another x one
      → Follows items all left differs (x ∷ rest) (with_item_first one made) → Follows items all (left - own) (differs || another) rest made
  after_tried own another x rest (Err refusal) made g h = absurd g
  after_tried own another x rest (Ok new) (Err refusal) g h = h
  after_tried own another x rest (Ok new) (Ok others) g h =
      let first = g.0 in
      λ following other. h (omega (arith, first, following)) (either_differs differs another new x others rest g.1 other)

  -- The first place is that of an item. A refusal of that is one of all; else the next ones are tried.
  abbrev pub IsNext : ℕ → List ℕ → Type 0
  IsNext place places =
      (place < length items) × ((x : Item) → x ≡ get_or items place x → (refusal : Refusal) → change x ≡ Err refusal → all ≡ Err refusal)
      × ((x : Item) → x ≡ get_or items place x → (own : ℕ) (another : Bool) → Grows own another x (change x) → AreTried change items all (left - own) (differs || another) places)

  next : (place : ℕ) (places : List ℕ) (at : ℕ) (marks : List Bool) → at + length marks ≡ length items → place ∷ places ≡ marked_places at marks
      → Follows items all left differs (drop at items) (on_meant change marks (drop at items)) → IsNext place places
  next place places at [] count are follow = absurd (cc)
  next place places at (false ∷ marks) count are follow =
      let split = drop_more items at (i.Block []) (omega (arith, count)) in
      let rest = drop (at + 1) items in
      next place places (at + 1) marks (omega (arith, count)) are
      (after_one (get_or items at (i.Block [])) rest (on_meant change marks rest) (subst (λ (xs : List Item). Follows items all left differs xs (on_meant change (false ∷ marks) xs)) split follow))
  next place places at (true ∷ marks) count are follow =
      let here : place ≡ at = ap (λ ps. get_or ps 0 0) are in
      let there : at < length items = omega (arith, count) in
      let rest = drop (at + 1) items in
      let after : (x : Item) → x ≡ get_or items at x → Follows items all left differs (x ∷ rest) (with_item_first (change x) (on_meant change marks rest)) =
      λ x is. subst (λ (xs : List Item). Follows items all left differs xs (on_meant change (true ∷ marks) xs)) (drop_more items at x there ∙ ap (λ (y : Item). y ∷ rest) (sym is)) follow in
      let first : IsNext at places = (
        there,
        (λ x is refusal refused. subst (λ (one : NewItem). Follows items all left differs (x ∷ rest) (with_item_first one (on_meant change marks rest))) refused (after x is)),
        (λ x is own another grown. record {
          at = at + 1;
          marks = marks;
          count = omega (arith, count);
          meant_are = ap (drop 1) are;
          follow = after_tried own another x rest (change x) (on_meant change marks rest) grown (after x is);
        }),
      ) in
      subst (λ p. IsNext p places) (sym here) first

  -- at a place in a loop over them
  pub next_tried : (places : List ℕ) (at : ℕ) → at < length places → AreTried change items all left differs (drop at places) → IsNext (get_or places at 0) (drop (at + 1) places)
  next_tried places at there tried = next (get_or places at 0) (drop (at + 1) places) tried.at tried.marks tried.count (sym (drop_more places at 0 there) ∙ tried.meant_are) tried.follow

  -- after them
  pub all_tried : (places : List ℕ) → places ≡ [] → AreTried change items all left differs places → differs ≡ true → left ≡ 0 → Overfills items all
  all_tried places none tried other past =
      let rest = drop tried.at items in
      let stay = none_meant change tried.at tried.marks rest (sym none ∙ tried.meant_are) in
      subst (Follows items all left differs rest) stay tried.follow (omega (arith, past)) (λ e. absurd (true≢false (sym other ∙ e)))

-- ---- what a command makes of each item of a proper file is proper

pub ones_proper : (operation : Operation) (current : Bytes) (found : Option Expr) (items xs : List Item) → IsProperCommand operation → IsProper items → found ≡ source_of operation items → xs ≡ items
    → AreProperMade (item_made operation current found) xs
unfolding item_made
ones_proper operation current found items xs p h same_value same_items =
    rw (same_items, same_value) (All-weaker IsProperItem _ (each_keeps whole_grammar current items (recursion_from_All IsProperItem items h) operation p) items h)

-- ---- what a command makes of a file is what is made of the items that it is meant for, of these and the value that is copied as they are handed on

pub one_by_one : (operation : Operation) (which : Which) (lines : List ℕ) (current : Bytes) (found : Option Expr) (items xs : List Item) (made : Result (List Item) Refusal)
    → found ≡ source_of operation items → xs ≡ items → made ≡ on_each operation current (meant which lines items) items
    → (Is : List Item → Result (List Item) Refusal → Type 0) → Is xs (on_meant (item_made operation current found) (meant which lines xs) xs) → Is items made
unfolding item_made
one_by_one operation which lines current found items xs made same_value same_items each Is is =
    subst (Is items) (sym each) (rw (same_items, same_value) at is)
