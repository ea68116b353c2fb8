-- A tree between the steps that lead back and those that lead forward: over steps of the one side, they are on the other.
use Rattle.bz_edit.proofs.Words.{[], ◌++◌, ◌∙◌, ◌∷◌, ◌≡◌, ap, append-nil, append_assoc, AreSteps, crossed, Edit, IsTree, LeadOn, List, Node, reached, refl, reverse, reverse-append, reverse-reverse, reverse_onto, spell_node, step, StepLeads, subst, swap_node, sym, trees, trees_around, turned_all}
use mathlib.Core.List.{reverse_aux}
use Rattle.bz_edit.proofs.{Turns.apart_of, Turns.turned_step, Twice.Back, Twice.twice, Turning.step_turned}

pub record AreSides (n : Node) (back forward : List (List Edit)) : Type 0 where
  pub tree : IsTree n
  pub leads_back : LeadOn n back
  pub leads_on : LeadOn n forward

-- ---- lists

pub onto : {X : Type 0} (xs ys : List X) → reverse_aux xs ys ≡ reverse xs ++ ys
onto xs [] = sym (append-nil (reverse xs))
onto xs (y ∷ ys) = reverse_onto xs y ys

pub cons_onto : {X : Type 0} (x : X) (xs ys : List X) → reverse (x ∷ xs) ++ ys ≡ reverse xs ++ x ∷ ys
cons_onto x xs ys = ap (λ zs. zs ++ ys) (reverse_onto xs x []) ∙ append_assoc (reverse xs) (x ∷ []) ys

-- ---- one step

back_of : (n : Node) (e : List Edit) → StepLeads e n → Back n e
back_of n e leads = twice n e (apart_of e leads.is_step.0) leads.there

-- the step that is turned leads back
pub leads_back_of : (n : Node) (e : List Edit) → IsTree n → StepLeads e n → StepLeads (turned_all n e) (swap_node e n)
leads_back_of n e tree leads =
    let t = back_of n e leads in
    record {
      is_step = turned_step n e leads.is_step leads.there tree.1;
      there = t.there;
      tree = subst IsTree (sym t.node) tree;
      other = λ h. leads.other (sym h ∙ ap spell_node t.node);
    }

pub returned : (n : Node) (e : List Edit) → StepLeads e n → swap_node (turned_all n e) (swap_node e n) ≡ n
returned n e leads = Back.node (back_of n e leads)

-- and is the one between the two trees, where the step was
small_back : (n : Node) (e : List Edit) → StepLeads e n → e ≡ step (swap_node e n) n → turned_all n e ≡ step (swap_node (turned_all n e) (swap_node e n)) (swap_node e n)
small_back n e leads is =
    ap (turned_all n) is ∙ step_turned (swap_node e n) n ∙ sym (ap (λ (z : Node). step z (swap_node e n)) (returned n e leads))

-- ---- over many

pub sides_passed : (n : Node) (es back forward : List (List Edit)) → AreSides n (es ++ back) forward → AreSides (reached n es) back (reverse_aux (crossed n es) forward)
sides_passed n [] back forward s = s
sides_passed n (e ∷ es) back forward s =
    sides_passed (swap_node e n) es back (turned_all n e ∷ forward) (record {
      tree = s.leads_back.0.tree;
      leads_back = s.leads_back.1;
      leads_on = (leads_back_of n e s.tree s.leads_back.0, subst (λ (z : Node). LeadOn z forward) (sym (returned n e s.leads_back.0)) s.leads_on);
    })

next_sides : (n : Node) (e : List Edit) (es forward : List (List Edit)) → AreSides n (e ∷ es) forward → AreSides (swap_node e n) es (turned_all n e ∷ forward)
next_sides n e es forward s = sides_passed n (e ∷ []) es forward s

pub trees_passed : (n : Node) (es back forward : List (List Edit)) → AreSides n (es ++ back) forward → trees_around back (reached n es) (reverse_aux (crossed n es) forward) ≡ trees_around (es ++ back) n forward
trees_passed n [] back forward s = refl
trees_passed n (e ∷ es) back forward s =
    let m : Node = swap_node e n in
    trees_passed m es back (turned_all n e ∷ forward) (next_sides n e (es ++ back) forward s)
    ∙ ap (λ (z : Node). reverse (trees m (es ++ back)) ++ m ∷ z ∷ trees z forward) (returned n e s.leads_back.0)
    ∙ sym (cons_onto m (trees m (es ++ back)) (n ∷ trees n forward))

pub small_passed : (n : Node) (es back forward : List (List Edit)) → AreSides n (es ++ back) forward → AreSteps n (es ++ back) → AreSteps n forward
    → AreSteps (reached n es) back × AreSteps (reached n es) (reverse_aux (crossed n es) forward)
small_passed n [] back forward s h k = (h, k)
small_passed n (e ∷ es) back forward s h k =
    small_passed (swap_node e n) es back (turned_all n e ∷ forward) (next_sides n e (es ++ back) forward s) h.1
    (small_back n e s.leads_back.0 h.0, subst (λ (z : Node). AreSteps z forward) (sym (returned n e s.leads_back.0)) k)

-- ---- what is the same on both sides of a move over steps

pub record AreKept (n : Node) (back forward : List (List Edit)) (m : Node) (following ahead : List (List Edit)) : Type 0 where
  pub sides : AreSides m following ahead
  pub trees_are : trees_around following m ahead ≡ trees_around back n forward
  pub small_sides : AreSteps n back → AreSteps n forward → AreSteps m following × AreSteps m ahead

pub passed : (n : Node) (es back forward : List (List Edit)) → AreSides n (es ++ back) forward → AreKept n (es ++ back) forward (reached n es) back (reverse (crossed n es) ++ forward)
passed n es back forward s =
    let is = onto (crossed n es) forward in
    subst (AreKept n (es ++ back) forward (reached n es) back) is (record {
      sides = sides_passed n es back forward s;
      trees_are = trees_passed n es back forward s;
      small_sides = small_passed n es back forward s;
    })

-- ---- the same, seen from the other side

flipped : (a b : List (List Edit)) (n : Node) → reverse (trees_around a n b) ≡ trees_around b n a
flipped a b n =
    reverse-append (reverse (trees n a)) (n ∷ trees n b) ∙ ap (λ l. reverse (n ∷ trees n b) ++ l) (reverse-reverse (trees n a)) ∙ cons_onto n (trees n b) (trees n a)

pub flip : (n m : Node) (a b c d : List (List Edit)) → AreKept n a b m c d → AreKept n b a m d c
flip n m a b c d k = record {
  sides = record { tree = k.sides.tree; leads_back = k.sides.leads_on; leads_on = k.sides.leads_back };
  trees_are = sym (flipped c d m) ∙ ap reverse k.trees_are ∙ flipped a b n;
  small_sides = λ h i. let w = k.small_sides i h in (w.1, w.0);
}

pub passed_on : (n : Node) (es back forward : List (List Edit)) → AreSides n back (es ++ forward) → AreKept n back (es ++ forward) (reached n es) (reverse (crossed n es) ++ back) forward
passed_on n es back forward s =
    flip n (reached n es) (es ++ forward) back forward (reverse (crossed n es) ++ back)
    (passed n es forward back (record { tree = s.tree; leads_back = s.leads_on; leads_on = s.leads_back }))
