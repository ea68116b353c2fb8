-- Items by their places, in the place of a mark for each.
use Rattle.bz_command.proofs.Words.{[], ◌++◌, ◌+◌, ◌-◌, ◌<◌, ◌==◌, ◌∙◌, ◌∷◌, ◌≡◌, ◌≤◌, ap, append_assoc, ap₂, arith, Ascend, before_rest, Bool, Bytes, codes, decimal, drop, drop-drop, drop_at, drop_more, each_meant, Err, false, first_mark, get_or, get_or_default, is_rule_of_kind, Item, Item as i, item_line, length, length-append, lines_after_item, lines_after_items, List, list_any, made_by, map, marked_places, marks_by, meant, NewItem, not, Ok, on_meant, one_made_by, Operation, Option, option_map, places_by, places_from, printed_one, printed_rules, refl, Refusal, Result, subst, suc, sym, take, true, true≢false, unmarked, Which, Which as t, with_item_first, ℕ}
use Rattle.std.proofs.{Common.set, Math.Dec.eqb-suc-zero}
use Rattle.bz_command.specs.{declared.ruling.Work.Work, private.Looks.one_made}
use Rattle.bz_command.proofs.{TargetMarks.as_many, RunningItems.NewItems, RunningItems.with_front, RunningItems.with_next}

-- ---- what a target means

none_marked : (at : ℕ) (marks : List Bool) → marked_places at (map (λ _. false) marks) ≡ []
none_marked at [] = refl
none_marked at (mark ∷ marks) = none_marked (at + 1) marks

first_place : (at : ℕ) (marks : List Bool) → marked_places at (first_mark marks) ≡ take 1 (marked_places at marks)
first_place at [] = refl
first_place at (true ∷ marks) = ap (λ places. at ∷ places) (none_marked (at + 1) marks)
first_place at (false ∷ marks) = first_place (at + 1) marks

pub first_meant : (which : Which) (lines : List ℕ) (items : List Item) → which ≡ t.Package
    → take 1 (marked_places 0 (each_meant which lines items)) ≡ marked_places 0 (meant which lines items)
first_meant which lines items is = rw is (sym (first_place 0 (map (is_rule_of_kind (codes "package")) items)))

-- the rules of a name by an index of names
pub index_meant : (which : Which) (name : Bytes) (lines : List ℕ) (items : List Item) → which ≡ t.Name name → places_from 0 name items ≡ marked_places 0 (meant which lines items)
index_meant which name lines items is = rw is refl

-- ---- places that are marked

pub any_place : (at : ℕ) (marks : List Bool) (places : List ℕ) → places ≡ marked_places at marks → not (length places == 0) ≡ list_any (λ mark. mark) marks
any_place at [] places is = ap (λ ps. not (length ps == 0)) is
any_place at (true ∷ marks) places is = ap (λ ps. not (length ps == 0)) is ∙ ap not (eqb-suc-zero (length (marked_places (at + 1) marks)))
any_place at (false ∷ marks) places is = any_place (at + 1) marks places is

pub ascend_from : (k i n : ℕ) (places : List ℕ) → k ≤ i → Ascend i n places → Ascend k n places
ascend_from k i n [] b h = tt
ascend_from k i n (p ∷ places) b h = (omega (arith, b, h.0), h.1, h.2)

pub marked_ascend : (at end : ℕ) (marks : List Bool) → at + length marks ≤ end → Ascend at end (marked_places at marks)
marked_ascend at end [] within = tt
marked_ascend at end (true ∷ marks) within = (
  omega arith,
  omega (arith, within),
  ascend_from (suc at) (at + 1) end (marked_places (at + 1) marks) (omega arith) (marked_ascend (at + 1) end marks (omega (arith, within))),
)
marked_ascend at end (false ∷ marks) within = ascend_from at (at + 1) end (marked_places (at + 1) marks) (omega arith) (marked_ascend (at + 1) end marks (omega (arith, within)))

-- the place at which a loop over places is
pub ascend_here : (past n : ℕ) (places : List ℕ) (at : ℕ) → at < length places → Ascend past n (drop at places) → Ascend past n (get_or places at 0 ∷ drop (at + 1) places)
ascend_here past n places at there = subst (Ascend past n) (drop_more places at 0 there)

-- the first place, by the first mark
pub taken : (at : ℕ) (places : List ℕ) (first : ℕ) (following : List ℕ) → places ≡ first ∷ following → first ≡ at
    → (mark : Bool) (marks : List Bool) → places ≡ marked_places at (mark ∷ marks) → (true ≡ mark) × (following ≡ marked_places (at + 1) marks)
taken at places first following split here true marks is = (refl, ap (drop 1) (sym split ∙ is))
taken at places first following split here false marks is =
    let next = subst (Ascend (at + 1) (at + 1 + length marks)) (sym is ∙ split) (marked_ascend (at + 1) (at + 1 + length marks) marks (omega arith)) in
    absurd (omega (arith, here, next.0))

pub meant_ascend : (which : Which) (lines : List ℕ) (items : List Item) → Ascend 0 (length items) (marked_places 0 (meant which lines items))
meant_ascend which lines items = let many = as_many which lines items in marked_ascend 0 (length items) (meant which lines items) (omega (arith, many))

pub unmarked_none : (marks : List Bool) (items : List Item) → length items ≡ 0 → unmarked marks items ≡ []
unmarked_none [] items none = refl
unmarked_none (true ∷ marks) [] none = refl
unmarked_none (false ∷ marks) [] none = refl
unmarked_none (true ∷ marks) (x ∷ items) none = absurd (omega (arith, none))
unmarked_none (false ∷ marks) (x ∷ items) none = absurd (omega (arith, none))

-- ---- what is made of the items at places

abbrev pub in_turn : NewItem → (Item → NewItems) → NewItems
in_turn (Err refusal) rest = Err refusal
in_turn (Ok new) rest = rest new

-- the same as `on_meant`, place by place; past the last item is this one
abbrev pub on_places : (Item → NewItem) → Item → List ℕ → List Item → NewItems
on_places change d [] items = Ok items
on_places change d (at ∷ places) items = in_turn (change (get_or items at d)) (λ new. on_places change d places (set items at new))

get_here : (front : List Item) (x d : Item) (rest : List Item) → get_or (front ++ x ∷ rest) (length front) d ≡ x
get_here [] x d rest = refl
get_here (y ∷ front) x d rest = get_here front x d rest

set_here : (front : List Item) (x y : Item) (rest : List Item) → set (front ++ x ∷ rest) (length front) y ≡ front ++ y ∷ rest
set_here [] x y rest = refl
set_here (z ∷ front) x y rest = ap (λ zs. z ∷ zs) (set_here front x y rest)

module _ (change : Item → NewItem) (d : Item) where
  abbrev IsSame : List Bool → List Item → List Item → Type 0
  IsSame marks items front = on_places change d (marked_places (length front) marks) (front ++ items) ≡ with_front front (on_meant change marks items)

  -- after one more item
  one_more : (marks : List Bool) (front : List Item) (x : Item) (items : List Item) → IsSame marks items (front ++ x ∷ [])
      → on_places change d (marked_places (length front + 1) marks) (front ++ x ∷ items) ≡ with_front front (with_item_first (Ok x) (on_meant change marks items))
  one_more marks front x items h =
      ap₂ (λ n xs. on_places change d (marked_places n marks) xs) (sym (length-append front (x ∷ []))) (sym (append_assoc front (x ∷ []) items))
      ∙ (h ∙ sym (with_next front x (on_meant change marks items)))

  all_after : (marks : List Bool) (items front : List Item) → length marks ≡ length items → IsSame marks items front
  all_after [] items front same = refl
  all_after (false ∷ marks) [] front same = absurd (omega (arith, same))
  all_after (true ∷ marks) [] front same = absurd (omega (arith, same))
  all_after (false ∷ marks) (x ∷ items) front same = one_more marks front x items (all_after marks items (front ++ x ∷ []) (omega (arith, same)))
  all_after (true ∷ marks) (x ∷ items) front same =
      ap (λ y. in_turn (change y) (λ new. on_places change d (marked_places (length front + 1) marks) (set (front ++ x ∷ items) (length front) new))) (get_here front x d items)
      ∙ by (λ new. all_after marks items (front ++ new ∷ []) (omega (arith, same))) (change x)
    where
      by : ((new : Item) → IsSame marks items (front ++ new ∷ [])) → (made : NewItem)
          → in_turn made (λ new. on_places change d (marked_places (length front + 1) marks) (set (front ++ x ∷ items) (length front) new))
          ≡ with_front front (with_item_first made (on_meant change marks items))
      by rest (Err refusal) = refl
      by rest (Ok new) = ap (λ xs. on_places change d (marked_places (length front + 1) marks) xs) (set_here front x new items) ∙ one_more marks front new items (rest new)

  all_by_places : (marks : List Bool) (items : List Item) → length marks ≡ length items → on_places change d (marked_places 0 marks) items ≡ on_meant change marks items
  all_by_places marks items same = all_after marks items [] same ∙ whole (on_meant change marks items)
    where
      whole : (made : NewItems) → with_front [] made ≡ made
      whole (Err refusal) = refl
      whole (Ok items) = refl

  -- in a loop over places
  module _ (places : List ℕ) (items : List Item) (at : ℕ) (e : Item) (all : NewItems) (there : at < length places) (within : get_or places at 0 < length items)
      (so_far : all ≡ on_places change d (drop at places) items) where
    abbrev here : ℕ
    here = get_or places at 0

    abbrev rest : Item → NewItems
    rest new = on_places change d (drop (at + 1) places) (set items here new)

    by_first : all ≡ in_turn (change (get_or items here e)) rest
    by_first =
        so_far
        ∙ (ap (λ ps. on_places change d ps items) (drop_more places at 0 there)
        ∙ ap (λ (x : Item). in_turn (change x) rest) (get_or_default items here d e within))

    pub refused : (refusal : Refusal) → change (get_or items here e) ≡ Err refusal → all ≡ Err refusal
    refused refusal is = by_first ∙ ap (λ (made : NewItem). in_turn made rest) is

    pub made : (new : Item) → change (get_or items here e) ≡ Ok new → all ≡ on_places change d (drop (at + 1) places) (set items here new)
    made new is = by_first ∙ ap (λ (made : NewItem). in_turn made rest) is

pub by_places : (work : Work) (places : List ℕ) (items : List Item) → places ≡ places_by work items
    → on_meant (one_made_by work) (marks_by work items) items ≡ on_places (one_made_by work) (i.Block []) places items
by_places work places items is =
    sym (all_by_places (one_made_by work) (i.Block []) (marks_by work items) items (as_many work.target.now.which work.lines.now items)) ∙ ap (λ ps. on_places (one_made_by work) (i.Block []) ps items) (sym is)

pub one_made_is : (work : Work) (operation : Operation) (item : Item) (new : NewItem) → operation ≡ work.command.now → made_by operation work item ≡ new → one_made_by work item ≡ new
unfolding one_made
one_made_is work operation item new is made = subst (λ (o : Operation). made_by o work item ≡ new) is made

-- ---- lines

no_lines : (items : List Item) → lines_after_items [] items ≡ []
no_lines [] = refl
no_lines (i.Block comments ∷ items) = no_lines items
no_lines (i.Stmt x ∷ items) = no_lines items

pub none_after : (lines : List ℕ) (items : List Item) (none : Bool) → none ≡ (length lines == 0) → none ≡ true → lines ≡ lines_after_items lines items
none_after [] items none is empty = sym (no_lines items)
none_after (line ∷ lines) items none is empty = absurd (true≢false (sym empty ∙ (is ∙ eqb-suc-zero (length lines))))

-- ---- what is printed, place by place

pub before_nothing : (text : Result Bytes Refusal) → before_rest (Ok []) text ≡ text
before_nothing (Err refusal) = refl
before_nothing (Ok text) = refl

before_both : (front : Bytes) (one rest : Result Bytes Refusal) → before_rest (Ok front) (before_rest one rest) ≡ before_rest (before_rest (Ok front) one) rest
before_both front (Err refusal) rest = refl
before_both front (Ok text) (Err refusal) = refl
before_both front (Ok text) (Ok rest) = ap Ok (sym (append_assoc front text rest))

abbrev one_printed : Operation → Bytes → List ℕ → Item → Result Bytes Refusal
one_printed operation current lines item = printed_one operation current (option_map decimal (item_line lines item)) item

module _ (operation : Operation) (current : Bytes) (d : Item) where
  -- the same as `printed_rules`, by places from one on; past the last item is `d`
  abbrev pub printed_at : List ℕ → ℕ → List ℕ → List Item → Result Bytes Refusal
  printed_at lines from [] items = Ok []
  printed_at lines from (at ∷ places) items =
      before_rest (one_printed operation current (lines_after_items lines (take (at - from) (drop from items))) (get_or items at d))
      (printed_at (lines_after_item (lines_after_items lines (take (at - from) (drop from items))) (get_or items at d)) (at + 1) places items)

  -- an item that isn't meant is only counted
  skipped : (lines : List ℕ) (front : List Item) (x : Item) (items : List Item) (end : ℕ) (places : List ℕ) → Ascend (length front + 1) end places
      → printed_at lines (length front) places (front ++ x ∷ items) ≡ printed_at (lines_after_item lines x) (length front + 1) places (front ++ x ∷ items)
  skipped lines front x items end [] order = refl
  skipped lines front x items end (at ∷ places) order =
      let all = front ++ x ∷ items in
      let from = length front in
      let here = drop_at front (x ∷ items) from refl in
      let more : at - from ≡ suc (at - (from + 1)) = omega (arith, order.0) in
      ap (λ left. before_rest (one_printed operation current left (get_or all at d)) (printed_at (lines_after_item left (get_or all at d)) (at + 1) places all))
      (ap (lines_after_items lines) (ap₂ (λ n (xs : List Item). take n xs) more here)
      ∙ ap (λ (xs : List Item). lines_after_items (lines_after_item lines x) (take (at - (from + 1)) xs)) (sym (ap (drop 1) here) ∙ drop-drop 1 from all))

  -- after one more item
  printed_next : (marks : List Bool) (lines : List ℕ) (front : List Item) (x : Item) (items : List Item)
      → printed_at lines (length (front ++ x ∷ [])) (marked_places (length (front ++ x ∷ [])) marks) ((front ++ x ∷ []) ++ items) ≡ printed_rules operation current lines marks items
      → printed_at lines (length front + 1) (marked_places (length front + 1) marks) (front ++ x ∷ items) ≡ printed_rules operation current lines marks items
  printed_next marks lines front x items h =
      ap₂ (λ n (xs : List Item). printed_at lines n (marked_places n marks) xs) (sym (length-append front (x ∷ []))) (sym (append_assoc front (x ∷ []) items)) ∙ h

  all_printed : (marks : List Bool) (lines : List ℕ) (items front : List Item) → length marks ≡ length items
      → printed_at lines (length front) (marked_places (length front) marks) (front ++ items) ≡ printed_rules operation current lines marks items
  all_printed [] lines items front same = refl
  all_printed (false ∷ marks) lines [] front same = absurd (omega (arith, same))
  all_printed (true ∷ marks) lines [] front same = absurd (omega (arith, same))
  all_printed (false ∷ marks) lines (x ∷ items) front same =
      let rest = printed_next marks (lines_after_item lines x) front x items (all_printed marks (lines_after_item lines x) items (front ++ x ∷ []) (omega (arith, same))) in
      skipped lines front x items (length front + 1 + length marks) (marked_places (length front + 1) marks) (marked_ascend (length front + 1) (length front + 1 + length marks) marks (omega arith))
      ∙ (rest ∙ sym (before_nothing (printed_rules operation current (lines_after_item lines x) marks items)))
  all_printed (true ∷ marks) lines (x ∷ items) front same =
      let all = front ++ x ∷ items in
      let from = length front in
      let rest = printed_next marks (lines_after_item lines x) front x items (all_printed marks (lines_after_item lines x) items (front ++ x ∷ []) (omega (arith, same))) in
      let none : from - from ≡ 0 = omega arith in
      ap₂ (λ n (y : Item). before_rest (one_printed operation current (lines_after_items lines (take n (drop from all))) y)
      (printed_at (lines_after_item (lines_after_items lines (take n (drop from all))) y) (from + 1) (marked_places (from + 1) marks) all)) none (get_here front x d items)
      ∙ ap (before_rest (one_printed operation current lines x)) rest

  -- in a loop over places
  module _ (lines : List ℕ) (from : ℕ) (places : List ℕ) (items : List Item) (at : ℕ) (front : Bytes) (x : Item) (left : List ℕ) (line : Option ℕ) (all : Result Bytes Refusal)
      (there : at < length places) (within : get_or places at 0 < length items) (is : x ≡ get_or items (get_or places at 0) x)
      (is_left : left ≡ lines_after_items lines (take (get_or places at 0 - from) (drop from items))) (is_line : line ≡ item_line left x)
      (so_far : all ≡ before_rest (Ok front) (printed_at lines from (drop at places) items)) where
    abbrev rest_printed : List ℕ → Item → Result Bytes Refusal
    rest_printed left x = printed_at (lines_after_item left x) (get_or places at 0 + 1) (drop (at + 1) places) items

    by_first_place : all ≡ before_rest (before_rest (Ok front) (printed_one operation current (option_map decimal line) x)) (rest_printed left x)
    by_first_place =
        so_far
        ∙ (ap (λ (ps : List ℕ). before_rest (Ok front) (printed_at lines from ps items)) (drop_more places at 0 there)
        ∙ (before_both front _ _
        ∙ (ap₂ (λ (l : List ℕ) (y : Item). before_rest (before_rest (Ok front) (one_printed operation current l y)) (rest_printed l y)) (sym is_left)
        (get_or_default items (get_or places at 0) d x within ∙ sym is)
        ∙ ap (λ (n : Option ℕ). before_rest (before_rest (Ok front) (printed_one operation current (option_map decimal n) x)) (rest_printed left x)) (sym is_line))))

    pub print_refused : (refusal : Refusal) → printed_one operation current (option_map decimal line) x ≡ Err refusal → all ≡ Err refusal
    print_refused refusal made = by_first_place ∙ ap (λ (one : Result Bytes Refusal). before_rest (before_rest (Ok front) one) (rest_printed left x)) made

    pub print_made : (text : Bytes) (following : List ℕ) → before_rest (Ok front) (printed_one operation current (option_map decimal line) x) ≡ Ok text → following ≡ lines_after_item left x
        → all ≡ before_rest (Ok text) (printed_at following (get_or places at 0 + 1) (drop (at + 1) places) items)
    print_made text following made next =
        by_first_place
        ∙ ap₂ (λ (one : Result Bytes Refusal) (l : List ℕ). before_rest one (printed_at l (get_or places at 0 + 1) (drop (at + 1) places) items)) made (sym next)

pub printed_by_places : (work : Work) (places : List ℕ) (items : List Item) → places ≡ places_by work items
    → printed_rules work.command.now work.current.now work.lines.now (marks_by work items) items ≡ printed_at work.command.now work.current.now (i.Block []) work.lines.now 0 places items
printed_by_places work places items is =
    sym (all_printed work.command.now work.current.now (i.Block []) (marks_by work items) work.lines.now items [] (as_many work.target.now.which work.lines.now items))
    ∙ ap (λ (ps : List ℕ). printed_at work.command.now work.current.now (i.Block []) work.lines.now 0 ps items) (sym is)
