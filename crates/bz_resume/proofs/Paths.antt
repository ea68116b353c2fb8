-- A place in a tree is no deeper than the tree, so the steps of a trail have short paths.
use Rattle.bz_resume.proofs.Words.{[], ◌&&◌, ◌<◌, ◌∷◌, ◌≡◌, ◌≤◌, all_both, all_there, AllByRecursion, and_parts, ap, arith, Bool, child_found, deepest, depth_limit, depth_Node, depth_part, drop, Edit, has_place, IsTrail, IsTree, LeadOn, length, List, list_all, lt-ltb, MayLead, nat_lt, Node, Part, refl, reverse, reverse-reverse, reverse_onto, same_Some, slice_get, Some, StepLeads, subst, suc, swap_node, sym, take, take-append-drop, Trail, true, zero, ℕ}
use Rattle.bz_grammar.specs.declared.tree.Part.TheVariants as p

item_depth : (xs : List Part) (i : ℕ) (x : Part) → slice_get xs i ≡ Some x → depth_part x ≤ deepest xs
item_depth [] i x e = cc
item_depth (y ∷ ys) zero x e = let s = same_Some y x e in omega (arith, ap depth_part s)
item_depth (y ∷ ys) (suc i) x e = omega (arith, item_depth ys i x e)

pub place_within : (path : List ℕ) (at count : ℕ) (n : Node) → has_place path at count n ≡ true → length path ≤ deepest n.parts
place_within [] at count n h = omega arith
place_within (i ∷ path) at count n h =
    let w = child_found i n (has_place path at count) h in
    omega (arith, place_within path at count w.0 w.2, item_depth n.parts i (p.Node w.0) w.1, depth_Node w.0)

short_edits : (es : List Edit) (n : Node) → all_there es n ≡ true → deepest n.parts < depth_limit → list_all (λ e. nat_lt (length e.path) depth_limit) es ≡ true
short_edits [] n h d = refl
short_edits (e ∷ es) n h d =
    let w = and_parts (has_place e.path e.at e.count n) (all_there es n) h in
    both_true (lt-ltb (length e.path) depth_limit (omega (arith, place_within e.path e.at e.count n w.0))) (short_edits es n w.1 d)
  where
    both_true : {a b : Bool} → a ≡ true → b ≡ true → (a && b) ≡ true
    both_true a b = rw (a, b) refl

pub may_lead : (n : Node) (e : List Edit) → IsTree n → StepLeads e n → MayLead e
may_lead n e t l = let d = t.0.legal.depth in (l.is_step, short_edits e n l.there (omega arith))

-- what is so of each step that leads on from a tree is so of those of a trail
module _ (P : List Edit → Type 0) (each : (n : Node) (e : List Edit) → IsTree n → StepLeads e n → P e) where
  on_side : (n : Node) (es : List (List Edit)) → IsTree n → LeadOn n es → AllByRecursion P es
  on_side n [] t l = tt
  on_side n (e ∷ es) t l = (each n e t l.0, on_side (swap_node e n) es l.0.tree l.1)

  reversed : (es : List (List Edit)) → AllByRecursion P es → AllByRecursion P (reverse es)
  reversed [] h = h
  reversed (e ∷ es) h = subst (AllByRecursion P) (sym (reverse_onto es e [])) (all_both P (reverse es) (e ∷ []) (reversed es h.1) (h.0, tt))

  pub trail_all : (t : Trail) → IsTrail t → AllByRecursion P t.steps
  trail_all t h =
      let back = take t.cursor t.steps in
      subst (AllByRecursion P) (take-append-drop t.cursor t.steps) (all_both P back (drop t.cursor t.steps)
      (subst (AllByRecursion P) (reverse-reverse back) (reversed (reverse back) (on_side t.tree (reverse back) h.tree h.back)))
      (on_side t.tree (drop t.cursor t.steps) h.tree h.forward))
