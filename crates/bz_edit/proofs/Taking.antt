-- A trail that takes up a new tree.
use Rattle.bz_edit.proofs.Words.{[], ◌++◌, ◌+◌, ◌∙◌, ◌∷◌, ◌≡◌, ◌≤◌, ap, append_assoc, AreSteps, arith, drop, drop_all, Edit, IsStep, IsTrail, IsTree, LeadOn, Least, length, length-append, length-map, length-reverse, length-take-le, List, map, map-append, Node, refl, reverse, reverse-append, reverse_onto, spell_node, step, StepLeads, steps_back, steps_forward, subst, swap_node, sym, take, take_all, take_at, TakesUp, texts_of, Trail, trail_at, trees, trees_around, ℕ}
use Rattle.bz_edit.proofs.{Leads.step_is_least, Keeps.trees_length}

kinds : (x y : Node) → IsTree x → IsTree y → x.kind ≡ y.kind
kinds x y h k = h.0.legal.file.root ∙ sym k.0.legal.file.root

least_of : (x y : Node) → IsTree x → IsTree y → Least (step x y) x y
least_of x y h k = step_is_least x y (kinds x y h k)

new_leads : (x y : Node) → IsTree x → IsTree y → IsStep (step x y) → (spell_node y ≡ spell_node x → ⊥) → StepLeads (step x y) y
new_leads x y h k fine other =
    let l = least_of x y h k in
    record { is_step = fine; there = l.there; tree = subst IsTree (sym l.leads) h; other = λ e. other (sym e ∙ ap spell_node l.leads) }

-- ---- the trail after it

abbrev pub taken_up : Trail → Node → Trail
taken_up w next = record { tree = next; steps = take w.cursor w.steps ++ step w.tree next ∷ []; cursor = w.cursor + 1 }

after_new : {X : Type 0} (xs : List X) (x : X) (n : ℕ) → n ≤ length xs → reverse (take (n + 1) (take n xs ++ x ∷ [])) ≡ x ∷ reverse (take n xs)
after_new xs x n h =
    let size : length (take n xs) ≡ n = length-take-le n xs h in
    ap reverse (take_all (n + 1) (take n xs ++ x ∷ []) (omega (arith, size, length-append (take n xs) (x ∷ [])))) ∙ reverse-append (take n xs) (x ∷ [])

ahead_new : {X : Type 0} (xs : List X) (x : X) (n : ℕ) → n ≤ length xs → drop (n + 1) (take n xs ++ x ∷ []) ≡ []
ahead_new xs x n h =
    let size : length (take n xs) ≡ n = length-take-le n xs h in
    drop_all (n + 1) (take n xs ++ x ∷ []) (omega (arith, size, length-append (take n xs) (x ∷ [])))

-- the texts up to the present one
append_one : {X : Type 0} (xs : List X) (x : X) (ys : List X) → xs ++ x ∷ [] ++ ys ≡ xs ++ x ∷ ys
append_one xs x ys = append_assoc xs (x ∷ []) ys

texts_before : (w : Trail) → w.cursor ≤ length w.steps → take (w.cursor + 1) (texts_of w) ≡ map spell_node (reverse (trees w.tree (steps_back w)) ++ w.tree ∷ [])
texts_before w h =
    let back = reverse (trees w.tree (steps_back w)) in
    let forward = trees w.tree (steps_forward w) in
    let front = map spell_node (back ++ w.tree ∷ []) in
    let split : map spell_node (back ++ w.tree ∷ forward) ≡ front ++ map spell_node forward =
    map-append spell_node back (w.tree ∷ forward) ∙ sym (append_one (map spell_node back) (spell_node w.tree) (map spell_node forward)) ∙ ap (λ l. l ++ map spell_node forward) (sym (map-append spell_node back (w.tree ∷ []))) in
    let size : length front ≡ w.cursor + 1 = omega (
      arith,
      length-map (back ++ w.tree ∷ []) spell_node,
      length-append back (w.tree ∷ []),
      length-reverse (trees w.tree (steps_back w)),
      trees_length w.tree (steps_back w),
      length-reverse (take w.cursor w.steps),
      length-take-le w.cursor w.steps h,
    ) in
    ap (take (w.cursor + 1)) split ∙ take_at front (map spell_node forward) (w.cursor + 1) size

texts_after : (w : Trail) (next : Node) → w.cursor ≤ length w.steps → swap_node (step w.tree next) next ≡ w.tree
    → texts_of (taken_up w next) ≡ take (w.cursor + 1) (texts_of w) ++ spell_node next ∷ []
texts_after w next h leads =
    let s = step w.tree next in
    let around : trees_around (steps_back (taken_up w next)) next (steps_forward (taken_up w next)) ≡ reverse (trees next (s ∷ steps_back w)) ++ next ∷ [] =
    ap (λ l. trees_around l next (steps_forward (taken_up w next))) (after_new w.steps s w.cursor h) ∙ ap (trees_around (s ∷ steps_back w) next) (ahead_new w.steps s w.cursor h) in
    let back : reverse (trees next (s ∷ steps_back w)) ≡ reverse (trees w.tree (steps_back w)) ++ w.tree ∷ [] =
    ap (λ (z : Node). reverse (z ∷ trees z (steps_back w))) leads ∙ reverse_onto (trees w.tree (steps_back w)) w.tree [] in
    ap (map spell_node) (around ∙ ap (λ l. l ++ next ∷ []) back) ∙ map-append spell_node (reverse (trees w.tree (steps_back w)) ++ w.tree ∷ []) (next ∷ [])
    ∙ ap (λ l. l ++ spell_node next ∷ []) (sym (texts_before w h))

pub taken : (w : Trail) (next : Node) → IsTrail w → IsTree next → IsStep (step w.tree next) → (spell_node next ≡ spell_node w.tree → ⊥) → TakesUp w next (taken_up w next)
taken w next h k fine other =
    let s = step w.tree next in
    let v = taken_up w next in
    let l = least_of w.tree next h.tree k in
    let back : steps_back v ≡ s ∷ steps_back w = after_new w.steps s w.cursor h.within in
    let on : steps_forward v ≡ [] = ahead_new w.steps s w.cursor h.within in
    let size : length (take w.cursor w.steps) ≡ w.cursor = length-take-le w.cursor w.steps h.within in
    record {
      trail = record {
        tree = k;
        within = omega (arith, size, length-append (take w.cursor w.steps) (s ∷ []));
        back = subst (LeadOn next) (sym back) (new_leads w.tree next h.tree k fine other, subst (λ (z : Node). LeadOn z (steps_back w)) (sym l.leads) h.back);
        forward = subst (LeadOn next) (sym on) tt;
      };
      tree = refl;
      texts = texts_after w next h.within l.leads;
      steps = take_at (take w.cursor w.steps) (s ∷ []) w.cursor size;
      small = λ i. (
        subst (AreSteps next) (sym back) (ap (λ (z : Node). step z next) (sym l.leads), subst (λ (z : Node). AreSteps z (steps_back w)) (sym l.leads) i.0),
        subst (AreSteps next) (sym on) tt,
      );
    }

-- as the code has it
pub took_up : (w : Trail) (next new : Node) (made : List Edit) (room now : List (List Edit)) → IsTrail w → IsTree next → IsStep made → (spell_node next ≡ spell_node w.tree → ⊥)
    → made ≡ step w.tree next → new ≡ next → room ≡ w.steps → now ≡ take w.cursor room ++ made ∷ [] → TakesUp w next (trail_at new now (w.cursor + 1))
took_up w next new made room now h k fine other m t r n =
    let steps : now ≡ (taken_up w next).steps = n ∙ ap (λ l. take w.cursor l ++ made ∷ []) r ∙ ap (λ (e : List Edit). take w.cursor w.steps ++ e ∷ []) m in
    subst (λ (z : Node). TakesUp w next (trail_at z now (w.cursor + 1))) (sym t) (subst (λ l. TakesUp w next (trail_at next l (w.cursor + 1))) (sym steps) (taken w next h k (subst IsStep m fine) other))
