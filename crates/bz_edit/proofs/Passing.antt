-- The same of trails: a list of steps and a cursor.
use Rattle.bz_edit.proofs.Words.{[], ◌++◌, ◌+◌, ◌-◌, ◌∙◌, ◌∷◌, ◌≡◌, ◌≤◌, ap, are_even, AreSteps, arith, between_is, crossed, drop, drop-append-le, drop-drop, drop-put_mid, drop_at, Edit, Err, IsTrail, LeadOn, length, length-append, length-reverse, length-take-le, List, map, Moves, Node, Ok, OnOk, reached, refl, Result, reverse, reverse-append, slice_range, spell_node, steps_back, steps_forward, subst, suc, swap_node, sym, take, take-append-drop, take-put_mid, take-take, take_at, Trail, trail_at, trees_around, true, ℕ}
use Rattle.std.proofs.lemmas.List.Edits.{length-between}
use borrow.Rule.Slice.PartMut.{put_mid}
use Rattle.bz_edit.proofs.Sides.{AreSides, AreKept, passed, passed_on}

-- a move over steps, whatever its two sides are made of
moved : (w v : Trail) (a b c d : List (List Edit)) → steps_back w ≡ a → steps_forward w ≡ b → steps_back v ≡ c → steps_forward v ≡ d → v.cursor ≤ length v.steps
    → (AreSides w.tree a b → AreKept w.tree a b v.tree c d) → IsTrail w → Moves w v
moved w v a b c d wa wb vc vd within kept h =
    let k = kept (record { tree = h.tree; leads_back = subst (LeadOn w.tree) wa h.back; leads_on = subst (LeadOn w.tree) wb h.forward }) in
    record {
      trail = record { tree = k.sides.tree; within = within; back = subst (LeadOn v.tree) (sym vc) k.sides.leads_back; forward = subst (LeadOn v.tree) (sym vd) k.sides.leads_on };
      texts =
          ap (map spell_node)
          (ap (λ l. trees_around l v.tree (steps_forward v)) vc ∙ ap (trees_around c v.tree) vd ∙ k.trees_are ∙ sym (ap (λ l. trees_around l w.tree (steps_forward w)) wa ∙ ap (trees_around a w.tree) wb));
      small = λ s.
          let i = k.small_sides (subst (AreSteps w.tree) wa s.0) (subst (AreSteps w.tree) wb s.1) in
          (subst (AreSteps v.tree) (sym vc) i.0, subst (AreSteps v.tree) (sym vd) i.1);
    }

-- ---- lists

-- those before the cursor, the nearest first, cut at an earlier place
cut_back : {X : Type 0} (xs : List X) (to cursor : ℕ) → to ≤ cursor → reverse (take cursor xs) ≡ reverse (slice_range xs to cursor) ++ reverse (take to xs)
cut_back xs to cursor h =
    ap reverse (sym (take-append-drop to (take cursor xs))) ∙ reverse-append (take to (take cursor xs)) (drop to (take cursor xs))
    ∙ ap (λ l. reverse (drop to (take cursor xs)) ++ reverse l) (take-take to cursor xs h)
    ∙ sym (ap (λ l. reverse l ++ reverse (take to xs)) (between_is xs to cursor))

-- those after it, cut at a later place
cut_forward : {X : Type 0} (xs : List X) (cursor to : ℕ) → cursor ≤ to → to ≤ length xs → drop cursor xs ≡ slice_range xs cursor to ++ drop to xs
cut_forward xs cursor to h k =
    ap (drop cursor) (sym (take-append-drop to xs)) ∙ drop-append-le cursor (take to xs) (drop to xs) (omega (arith, length-take-le to xs k))
    ∙ sym (ap (λ l. l ++ drop to xs) (between_is xs cursor to))

pub crossed_length : (n : Node) (es : List (List Edit)) → length (crossed n es) ≡ length es
crossed_length n [] = refl
crossed_length n (e ∷ es) = ap (λ k. suc k) (crossed_length (swap_node e n) es)

-- ---- back and forward: others come in the place of the steps that are crossed

-- the steps from one place to another
abbrev pub between : Trail → ℕ → ℕ → List (List Edit)
between w from to = slice_range w.steps from to

moved_back : (w : Trail) (to : ℕ) (es now : List (List Edit)) → IsTrail w → to ≤ w.cursor → es ≡ reverse (between w to w.cursor) → now ≡ reverse (crossed w.tree es)
    → Moves w (trail_at (reached w.tree es) (put_mid to (w.cursor - to) w.steps now) to)
moved_back w to es now h le e is =
    let new = reverse (crossed w.tree es) in
    let rest = drop (w.cursor - to) (drop to w.steps) in
    let size : length (take to w.steps) ≡ to = length-take-le to w.steps (omega (arith, h.within)) in
    let ends : to + (w.cursor - to) ≡ w.cursor = omega arith in
    moved w (trail_at (reached w.tree es) (put_mid to (w.cursor - to) w.steps now) to) (es ++ reverse (take to w.steps)) (steps_forward w) (reverse (take to w.steps)) (new ++ steps_forward w)
    (cut_back w.steps to w.cursor le ∙ ap (λ l. l ++ reverse (take to w.steps)) (sym e)) refl
    (ap reverse (take_at (take to w.steps) (now ++ rest) to size))
    (drop_at (take to w.steps) (now ++ rest) to size ∙ ap (λ l. l ++ rest) is ∙ ap (λ l. new ++ l) (drop-drop (w.cursor - to) to w.steps ∙ ap (λ k. drop k w.steps) ends))
    (omega (arith, size, length-append (take to w.steps) (now ++ rest)))
    (passed w.tree es (reverse (take to w.steps)) (steps_forward w)) h

moved_forward : (w : Trail) (to : ℕ) (es now : List (List Edit)) → IsTrail w → w.cursor ≤ to → to ≤ length w.steps → es ≡ between w w.cursor to → now ≡ crossed w.tree es
    → Moves w (trail_at (reached w.tree es) (put_mid w.cursor (to - w.cursor) w.steps now) to)
moved_forward w to es now h le within e is =
    let first = take w.cursor w.steps in
    let rest = drop (to - w.cursor) (drop w.cursor w.steps) in
    let size : length now ≡ to - w.cursor = ap length is ∙ crossed_length w.tree es ∙ ap length e ∙ length-between w.steps w.cursor to within in
    moved w (trail_at (reached w.tree es) (put_mid w.cursor (to - w.cursor) w.steps now) to) (steps_back w) (es ++ drop to w.steps) (reverse (crossed w.tree es) ++ steps_back w) (drop to w.steps)
    refl (cut_forward w.steps w.cursor to le within ∙ ap (λ l. l ++ drop to w.steps) (sym e))
    (ap reverse (take-put_mid w.cursor (to - w.cursor) w.steps now to (omega (arith, size)) h.within) ∙ reverse-append first now ∙ ap (λ l. reverse l ++ steps_back w) is)
    (drop-put_mid w.cursor (to - w.cursor) w.steps now to (omega arith) h.within size)
    (omega (arith, size, length-take-le w.cursor w.steps h.within, length-append first (now ++ rest), length-append now rest))
    (passed_on w.tree es (steps_back w) (drop to w.steps)) h

-- ---- as the code has it

pub went_back : {E : Type 0} (w : Trail) (to : ℕ) (answer : Result Unit E) (tree : Node) (es new now : List (List Edit)) → IsTrail w → to ≤ w.cursor → es ≡ reverse (between w to w.cursor)
    → OnOk answer (tree ≡ reached w.tree es) → OnOk answer (new ≡ crossed w.tree es) → now ≡ reverse new → OnOk answer (Moves w (trail_at tree (put_mid to (w.cursor - to) w.steps now) to))
went_back w to (Err fault) tree es new now h le e t s n = tt
went_back w to (Ok done) tree es new now h le e t s n =
    subst (λ (z : Node). Moves w (trail_at z (put_mid to (w.cursor - to) w.steps now) to)) (sym t) (moved_back w to es now h le e (n ∙ ap reverse s))

pub went_forward : {E : Type 0} (w : Trail) (to : ℕ) (answer : Result Unit E) (tree : Node) (now : List (List Edit)) → IsTrail w → w.cursor ≤ to → to ≤ length w.steps
    → OnOk answer (tree ≡ reached w.tree (between w w.cursor to)) → OnOk answer (now ≡ crossed w.tree (between w w.cursor to))
    → OnOk answer (Moves w (trail_at tree (put_mid w.cursor (to - w.cursor) w.steps now) to))
went_forward w to (Err fault) tree now h le within t s = tt
went_forward w to (Ok done) tree now h le within t s =
    subst (λ (z : Node). Moves w (trail_at z (put_mid w.cursor (to - w.cursor) w.steps now) to)) (sym t) (moved_forward w to (between w w.cursor to) now h le within refl s)

-- ---- what is crossed leads on, and is even where the nearest steps are

lead_front : (n : Node) (es fs : List (List Edit)) → LeadOn n (es ++ fs) → LeadOn n es
lead_front n [] fs h = tt
lead_front n (e ∷ es) fs h = (h.0, lead_front (swap_node e n) es fs h.1)

pub lead_back : (w : Trail) (to : ℕ) (es : List (List Edit)) → IsTrail w → to ≤ w.cursor → es ≡ reverse (between w to w.cursor) → LeadOn w.tree es
lead_back w to es h le e =
    subst (LeadOn w.tree) (sym e) (lead_front w.tree (reverse (between w to w.cursor)) (reverse (take to w.steps)) (subst (LeadOn w.tree) (cut_back w.steps to w.cursor le) h.back))

pub lead_forward : (w : Trail) (to : ℕ) → IsTrail w → w.cursor ≤ to → to ≤ length w.steps → LeadOn w.tree (between w w.cursor to)
lead_forward w to h le within = lead_front w.tree (between w w.cursor to) (drop to w.steps) (subst (LeadOn w.tree) (cut_forward w.steps w.cursor to le within) h.forward)

pub even_back : (w : Trail) (n : ℕ) (es : List (List Edit)) → IsTrail w → n ≤ w.cursor → es ≡ reverse (between w (w.cursor - n) w.cursor) → are_even (take n (steps_back w)) ≡ true → are_even es ≡ true
even_back w n es h le e even =
    let to = w.cursor - n in
    let m = reverse (between w to w.cursor) in
    let back : w.cursor - to ≡ n = omega arith in
    let size : length m ≡ n = length-reverse (between w to w.cursor) ∙ length-between w.steps to w.cursor h.within ∙ back in
    ap are_even e ∙ sym (ap are_even (ap (take n) (cut_back w.steps to w.cursor (omega arith)) ∙ take_at m (reverse (take to w.steps)) n size)) ∙ even
