-- What a step of a trail holds is part of a legal tree, so its numbers fit a record.
use Rattle.bz_resume.proofs.Words.{[], ◌+◌, ◌<◌, ◌∙◌, ◌∷◌, ◌≡◌, ◌≤◌, all_back, all_front, all_there, AllByRecursion, and_parts, ap, AreSmallParts, arith, child_found, counted, CountsFit, covered, deepest, depth_limit, depth_Node, drop, Edit, end_of-Part, flat_map, has_place, if_node, IsEdit, IsHeld, IsSmallPart, IsTree, items-the_row-Part, items_of_row, leb-true, length, length-append, length_total, limit, List, more_of-Part, Node, node_in, number_limit, opened_node, outs-Node, Part, part_ind, parts_in, parts_Node, refl, row_length, row_of, Row_of-Part, same_Some, slice_get, slice_get_within, Some, spell_Node, spell_part, StepLeads, subst, suc, swap_node, sym, take, take-append-drop, total_length, true, turned_all, zero, ℕ}
use Rattle.bz_grammar.specs.declared.tree.Part.TheVariants as p
use Rattle.bz_edit.proofs.{Turns.apart_of, Twice.twice}
use Rattle.bz_resume.proofs.Paths.{place_within}

-- ---- parts by their lists

length_rows : (m : _) (r : Row_of-Part m) → row_length r ≡ length (items-the_row-Part m r)
length_rows m end_of-Part = refl
length_rows m (more_of-Part x rest) = ap suc (length_rows _ rest)

small_rows : (m : _) (r : Row_of-Part m) → AllByRecursion IsSmallPart (items-the_row-Part m r) → AreSmallParts r
small_rows m end_of-Part h = tt
small_rows m (more_of-Part x rest) h = (h.0, small_rows _ rest h.1)

small_Node : (n : Node) → length n.parts < number_limit → AllByRecursion IsSmallPart n.parts → IsSmallPart (p.Node n)
small_Node n h all =
    let len : row_length (row_of n).1 ≡ length n.parts = length_rows _ (row_of n).1 ∙ ap length (items_of_row n) in
    (subst (λ k. k < number_limit) (sym len) h, small_rows _ (row_of n).1 (subst (AllByRecursion IsSmallPart) (sym (items_of_row n)) all))

-- ---- few parts of few bytes are small

abbrev Fits : Part → Type 0
Fits x = length (spell_part x) ≤ limit → parts_in x < number_limit → IsSmallPart x

fit_all : (xs : List Part) → AllByRecursion Fits xs → length (flat_map spell_part xs) ≤ limit → total_length xs < number_limit → AllByRecursion IsSmallPart xs
fit_all [] h l t = tt
fit_all (x ∷ xs) h l t =
    let cut = length-append (spell_part x) (flat_map spell_part xs) in
    (h.0 (omega (arith, cut)) (omega arith), fit_all xs h.1 (omega (arith, cut)) (omega arith))

fit_node : (n : Node) → AllByRecursion Fits n.parts → Fits (p.Node n)
fit_node n h l t =
    let few : total_length n.parts < number_limit = omega (arith, parts_Node n) in
    small_Node n (omega (arith, few, length_total n.parts)) (fit_all n.parts h (omega (arith, ap length (spell_Node n))) few)

fits : (x : Part) → Fits x
fits = part_ind Fits (λ l h t. (omega (arith, length-append l.gap l.token), omega (arith, length-append l.gap l.token))) fit_node

-- ---- parts of a legal tree

pub record IsLow (xs : List Part) : Type 0 where
  pub deep : deepest xs < depth_limit
  pub few : total_length xs < number_limit
  pub short : length (flat_map spell_part xs) ≤ limit

low_first : (x : Part) (xs : List Part) → IsLow (x ∷ xs) → IsLow (x ∷ [])
low_first x xs low =
    let cut = length-append (spell_part x) (flat_map spell_part xs) in
    let one = length-append (spell_part x) [] in
    record { deep = omega (arith, low.deep); few = omega (arith, low.few); short = omega (arith, low.short, cut, one) }

low_rest : (x : Part) (xs : List Part) → IsLow (x ∷ xs) → IsLow xs
low_rest x xs low =
    record { deep = omega (arith, low.deep); few = omega (arith, low.few); short = omega (arith, low.short, length-append (spell_part x) (flat_map spell_part xs)) }

each_held : (xs : List Part) → IsLow xs → AllByRecursion (IsHeld depth_limit) xs
each_held [] low = tt
each_held (x ∷ xs) low =
    let own = low_first x xs low in
    ((omega (arith, own.deep), fits x (omega (arith, own.short, length-append (spell_part x) [])) (omega (arith, own.few))), each_held xs (low_rest x xs low))

low_item : (xs : List Part) (i : ℕ) (x : Part) → slice_get xs i ≡ Some x → IsLow xs → IsLow (x ∷ [])
low_item [] i x e low = cc
low_item (y ∷ ys) zero x e low = subst (λ (z : Part). IsLow (z ∷ [])) (same_Some y x e) (low_first y ys low)
low_item (y ∷ ys) (suc i) x e low = low_item ys i x e (low_rest y ys low)

low_child : (n m : Node) (i : ℕ) → slice_get n.parts i ≡ Some (p.Node m) → IsLow n.parts → IsLow m.parts
low_child n m i e low =
    let r = low_item n.parts i (p.Node m) e low in
    record {
      deep = omega (arith, r.deep, depth_Node m);
      few = omega (arith, r.few, parts_Node m);
      short = omega (arith, r.short, length-append (spell_part (p.Node m)) [], ap length (spell_Node m));
    }

pub all_taken : {X : Type 0} (P : X → Type 0) (n : ℕ) (xs : List X) → AllByRecursion P xs → AllByRecursion P (take n xs)
all_taken P n xs h = all_front P (take n xs) (drop n xs) (subst (AllByRecursion P) (sym (take-append-drop n xs)) h)

pub all_dropped : {X : Type 0} (P : X → Type 0) (n : ℕ) (xs : List X) → AllByRecursion P xs → AllByRecursion P (drop n xs)
all_dropped P n xs h = all_back P (take n xs) (drop n xs) (subst (AllByRecursion P) (sym (take-append-drop n xs)) h)

-- ---- places

record IsPlaced (path : List ℕ) (at count : ℕ) (n : Node) : Type 0 where
  entries : AllByRecursion (λ k. k < number_limit) path
  first : at < number_limit
  held : AllByRecursion (IsHeld depth_limit) (covered path at count n)

placed : (path : List ℕ) (at count : ℕ) (n : Node) → has_place path at count n ≡ true → IsLow n.parts → IsPlaced path at count n
placed [] at count n h low =
    let f = low.few in
    record {
      entries = tt;
      first = omega (arith, leb-true (at + count) (length n.parts) h, length_total n.parts);
      held = all_taken (IsHeld depth_limit) count (drop at n.parts) (all_dropped (IsHeld depth_limit) at n.parts (each_held n.parts low));
    }
placed (i ∷ path) at count n h low =
    let w = child_found i n (has_place path at count) h in
    let m : Node = w.0 in
    let r = placed path at count m w.2 (low_child n m i w.1 low) in
    let f = low.few in
    let k = slice_get_within n.parts i (p.Node m) w.1 in
    let same : covered (i ∷ path) at count n ≡ covered path at count m =
    ap (λ o. if_node [] (covered path at count) (node_in o)) w.1 ∙ ap (λ z. if_node [] (covered path at count) (opened_node z)) (outs-Node m) in
    record {
      entries = (omega (arith, length_total n.parts), r.entries);
      first = r.first;
      held = subst (AllByRecursion (IsHeld depth_limit)) (sym same) r.held;
    }

edits_fit : (m : Node) (fs : List Edit) → all_there fs m ≡ true → IsLow m.parts → CountsFit (turned_all m fs) → AllByRecursion (IsEdit depth_limit) (turned_all m fs)
edits_fit m [] h low sizes = tt
edits_fit m (f ∷ fs) h low sizes =
    let w = and_parts (has_place f.path f.at f.count m) (all_there fs m) h in
    let r = placed f.path f.at f.count m w.0 low in
    let d = low.deep in
    let s = place_within f.path f.at f.count m w.0 in (
      record {
        path_length = omega arith;
        path = r.entries;
        at = r.first;
        count = sizes.0.0;
        held_length = sizes.0.1;
        held = r.held;
      },
      edits_fit m fs w.1 low sizes.1,
    )

pub low_tree : (n : Node) → IsTree n → IsLow n.parts
low_tree n tree = let d = tree.0.legal.depth in record { deep = omega arith; few = counted n tree.0.legal tree.1; short = tree.1 }

pub step_fits : (n : Node) (e : List Edit) → StepLeads e n → AllByRecursion (IsEdit depth_limit) e
step_fits n e leads =
    let b = twice n e (apart_of e leads.is_step.0) leads.there in
    let m : Node = swap_node e n in
    subst (AllByRecursion (IsEdit depth_limit)) b.edits (edits_fit m (turned_all n e) b.there (low_tree m leads.tree) (subst CountsFit (sym b.edits) leads.is_step.1))
