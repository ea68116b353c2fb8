-- Reading nodes: with a token of their own in front, or after their first part.
use Rattle.bz_grammar.proofs.Words.{[], ◌++◌, ◌∙◌, ◌∷◌, ◌≡◌, ◌⊎◌, ap, append_assoc, Bool, cond, false, first, FoundLevel, infix_at, inl, inr, is_one_of, Kind, Leaf, leaves_part, List, Node, node_part, None, Nonterminal, Option, Part, Part as v, prefix_at, Read, refl, run, same_Some, Shape, Some, starts_with, subst, sym, Terminal, token_part, true, with_part_first, wrap, wrap_found}
use Rattle.bz_grammar.proofs.Spells.{leaves_Node}
use Rattle.bz_grammar.proofs.Terminals.{disjoint, disjoint_at, subset, subset_stops}
use Rattle.bz_grammar.proofs.Exact.{all_leaves, bind_some, put_some, if_some, cond_parts, Exact}

pub wrap_some : (kind : Kind) (o : Option (List Part × List Leaf)) (y : Part × List Leaf) → wrap kind o ≡ Some y → (x : List Part × List Leaf) × (o ≡ Some x) × (y ≡ (node_part kind x.0, x.1))
wrap_some kind None y e = absurd cc
wrap_some kind (Some x) y e = (x, refl, sym (same_Some (node_part kind x.0, x.1) y e))

pub wrap_found_some : (o : Option (FoundLevel × List Leaf)) (y : Part × List Leaf) → wrap_found o ≡ Some y → (x : FoundLevel × List Leaf) × (o ≡ Some x) × (y ≡ (node_part x.0.0 x.0.1, x.1))
wrap_found_some None y e = absurd cc
wrap_found_some (Some x) y e = (x, refl, sym (same_Some (node_part x.0.0 x.0.1, x.1) y e))

pub exact_like : {X : Type 0} (spell : X → List Leaf) (P Q : X → Type 0) (g : List Terminal) (read : Read X) → ((x : X) → P x → Q x) → ((x : X) → Q x → P x) → Exact X spell P g read → Exact X spell Q g read
exact_like spell P Q g read to from e = record {
  sound = λ ts y r. let s = e.sound ts y r in (to y.0 s.0, s.1);
  complete = λ x rest q st. e.complete x rest (from x q) st;
}

-- more tokens that must not follow
pub exact_within : {X : Type 0} (spell : X → List Leaf) (P : X → Type 0) (g h : List Terminal) (read : Read X) → subset g h ≡ true → Exact X spell P g read → Exact X spell P h read
exact_within spell P g h read s e = record {
  sound = e.sound;
  complete = λ x rest q st. e.complete x rest q (subset_stops g h rest s st);
}

-- a node that a part begins
abbrev pub Begun : Kind → (Part → Bool) → (Part → Type 0) → (List Part → Type 0) → Part → Type 0
Begun kind left A T p = (a : Part) × (ps : List Part) × (p ≡ node_part kind (a ∷ ps)) × A a × (left a ≡ true) × T ps

abbrev pub Wrapped : Kind → (List Part → Type 0) → Part → Type 0
Wrapped kind T p = (ps : List Part) × (p ≡ node_part kind ps) × T ps

-- the leaves of a node
pub node_leaves : (kind : Kind) (ps : List Part) → leaves_part (node_part kind ps) ≡ all_leaves ps
node_leaves kind ps = let n : Node = record { kind = kind; parts = ps } in leaves_Node n

-- ---- a part that is one token

abbrev pub IsLeaf : List Terminal → Part → Type 0
IsLeaf s x = (l : Leaf) × (x ≡ v.Leaf l) × (is_one_of s l ≡ true)

token_sound : (s : List Terminal) (ts : List Leaf) (y : Part × List Leaf) → token_part s ts ≡ Some y → IsLeaf s y.0 × (ts ≡ leaves_part y.0 ++ y.1)
token_sound s [] y e = absurd cc
token_sound s (t ∷ ts) y e =
    let a = if_some (is_one_of s t) (Some (v.Leaf t, ts)) y e in
    subst (λ (z : Part × List Leaf). IsLeaf s z.0 × (t ∷ ts ≡ leaves_part z.0 ++ z.1)) (same_Some (v.Leaf t, ts) y a.1) ((t, refl, a.0), refl)

token_complete : (s : List Terminal) (x : Part) (rest : List Leaf) → IsLeaf s x → token_part s (leaves_part x ++ rest) ≡ Some (x, rest)
token_complete s x rest (l, e, h) = rw e (rw h refl)

pub token_exact : (s : List Terminal) → Exact Part leaves_part (IsLeaf s) [] (token_part s)
token_exact s = record { sound = token_sound s; complete = λ x rest h st. token_complete s x rest h }

pub leaf_starts : (s : List Terminal) (x : Part) (rest : List Leaf) → IsLeaf s x → starts_with s (leaves_part x ++ rest) ≡ true
leaf_starts s x rest (l, e, h) = rw e h

-- ---- a node after its first part

module _ (kind : Kind) (left : Part → Bool) (tail : Shape) (inner : Nonterminal → Read Part) (next : Read Part) (A : Part → Type 0) (T : List Part → Type 0) (goA goT g : List Terminal)
    (exactA : Exact Part leaves_part A goA next) (exactT : Exact (List Part) all_leaves T goT (run inner tail))
    (opensT : (ps : List Part) (rest : List Leaf) → T ps → starts_with (first tail) (all_leaves ps ++ rest) ≡ true)
    (apart : disjoint (first tail) goA ≡ true) (withA : subset goA g ≡ true) (withT : subset goT g ≡ true) (withF : subset (first tail) g ≡ true) where
  infix_sound : (ts : List Leaf) (y : Part × List Leaf) → infix_at kind left tail inner next ts ≡ Some y → (A y.0 ⊎ Begun kind left A T y.0) × (ts ≡ leaves_part y.0 ++ y.1)
  infix_sound ts y e =
      let a = bind_some (next ts) (λ a. cond (starts_with (first tail) a.1) (cond (left a.0) (wrap kind (with_part_first a.0 (run inner tail a.1))) None) (Some a)) y e in
      let s = exactA.sound ts a.0 a.1 in
      elim (cond_parts (starts_with (first tail) a.0.1) (cond (left a.0.0) (wrap kind (with_part_first a.0.0 (run inner tail a.0.1))) None) (Some a.0) (Some y) a.2) [
        | inl h ↦
            let c = if_some (left a.0.0) (wrap kind (with_part_first a.0.0 (run inner tail a.0.1))) y h.1 in
            let w = wrap_some kind (with_part_first a.0.0 (run inner tail a.0.1)) y c.1 in
            let p = put_some a.0.0 (run inner tail a.0.1) w.0 w.1 in
            let t = exactT.sound a.0.1 p.0 p.1 in
            let same : y ≡ (node_part kind (a.0.0 ∷ p.0.0), p.0.1) = w.2 ∙ ap (λ (x : List Part × List Leaf). (node_part kind x.0, x.1)) p.2 in
            subst (λ (z : Part × List Leaf). (A z.0 ⊎ Begun kind left A T z.0) × (ts ≡ leaves_part z.0 ++ z.1)) (sym same) (
              inr (a.0.0, p.0.0, refl, s.0, c.0, t.0),
              s.1 ∙ ap (λ (u : List Leaf). leaves_part a.0.0 ++ u) t.1 ∙ sym (append_assoc (leaves_part a.0.0) (all_leaves p.0.0) p.0.1) ∙ ap (λ (u : List Leaf). u ++ p.0.1) (sym (node_leaves kind (a.0.0 ∷ p.0.0))),
            )
        | inr h ↦ subst (λ (z : Part × List Leaf). (A z.0 ⊎ Begun kind left A T z.0) × (ts ≡ leaves_part z.0 ++ z.1)) (same_Some a.0 y h.1) (inl s.0, s.1)
      ]

  infix_complete : (p : Part) (rest : List Leaf) → (A p ⊎ Begun kind left A T p) → starts_with g rest ≡ false → infix_at kind left tail inner next (leaves_part p ++ rest) ≡ Some (p, rest)
  infix_complete p rest (inl h) st =
      rw (exactA.complete p rest h (subset_stops goA g rest withA st), subset_stops (first tail) g rest withF st) refl
  infix_complete p rest (inr (a, ps, e, h, l, t)) st =
      let o = opensT ps rest t in
      let n = exactA.complete a (all_leaves ps ++ rest) h (disjoint_at (first tail) goA (all_leaves ps ++ rest) apart o) in
      let r = exactT.complete ps rest t (subset_stops goT g rest withT st) in
      rw e (ap (λ (u : List Leaf). infix_at kind left tail inner next (u ++ rest)) (node_leaves kind (a ∷ ps)) ∙ ap (infix_at kind left tail inner next) (append_assoc (leaves_part a) (all_leaves ps) rest) ∙ rw (n, o, l, r) refl)

  pub infix_exact : Exact Part leaves_part (λ p. A p ⊎ Begun kind left A T p) g (infix_at kind left tail inner next)
  infix_exact = record { sound = infix_sound; complete = infix_complete }

-- ---- a node with a token of its own in front

module _ (kind : Kind) (r : Shape) (inner : Nonterminal → Read Part) (next : Read Part) (A : Part → Type 0) (T : List Part → Type 0) (goA goT g : List Terminal)
    (exactA : Exact Part leaves_part A goA next) (exactT : Exact (List Part) all_leaves T goT (run inner r))
    (opensT : (ps : List Part) (rest : List Leaf) → T ps → starts_with (first r) (all_leaves ps ++ rest) ≡ true)
    (other : (p : Part) (rest : List Leaf) → A p → starts_with (first r) (leaves_part p ++ rest) ≡ false) (withA : subset goA g ≡ true) (withT : subset goT g ≡ true) where
  prefix_sound : (ts : List Leaf) (y : Part × List Leaf) → prefix_at kind r inner next ts ≡ Some y → (A y.0 ⊎ Wrapped kind T y.0) × (ts ≡ leaves_part y.0 ++ y.1)
  prefix_sound ts y e =
      elim (cond_parts (starts_with (first r) ts) (wrap kind (run inner r ts)) (next ts) (Some y) e) [
        | inl h ↦
            let w = wrap_some kind (run inner r ts) y h.1 in
            let t = exactT.sound ts w.0 w.1 in
            subst (λ (z : Part × List Leaf). (A z.0 ⊎ Wrapped kind T z.0) × (ts ≡ leaves_part z.0 ++ z.1)) (sym w.2) (inr (w.0.0, refl, t.0), t.1 ∙ ap (λ (u : List Leaf). u ++ w.0.1) (sym (node_leaves kind w.0.0)))
        | inr h ↦ let s = exactA.sound ts y h.1 in (inl s.0, s.1)
      ]

  prefix_complete : (p : Part) (rest : List Leaf) → (A p ⊎ Wrapped kind T p) → starts_with g rest ≡ false → prefix_at kind r inner next (leaves_part p ++ rest) ≡ Some (p, rest)
  prefix_complete p rest (inl h) st = rw (other p rest h) (exactA.complete p rest h (subset_stops goA g rest withA st))
  prefix_complete p rest (inr (ps, e, t)) st =
      let all = node_leaves kind ps in
      rw e (ap (λ (u : List Leaf). prefix_at kind r inner next (u ++ rest)) all ∙ rw (opensT ps rest t, exactT.complete ps rest t (subset_stops goT g rest withT st)) refl)

  pub prefix_exact : Exact Part leaves_part (λ p. A p ⊎ Wrapped kind T p) g (prefix_at kind r inner next)
  prefix_exact = record { sound = prefix_sound; complete = prefix_complete }

-- ---- a node of one kind

module _ (kind : Kind) (r : Shape) (inner : Nonterminal → Read Part) (T : List Part → Type 0) (goT : List Terminal) (exactT : Exact (List Part) all_leaves T goT (run inner r)) where
  pub wrapped_exact : Exact Part leaves_part (Wrapped kind T) goT (λ ts. wrap kind (run inner r ts))
  wrapped_exact = record {
    sound = λ ts y e.
        let w = wrap_some kind (run inner r ts) y e in
        let t = exactT.sound ts w.0 w.1 in
        subst (λ (z : Part × List Leaf). Wrapped kind T z.0 × (ts ≡ leaves_part z.0 ++ z.1)) (sym w.2) ((w.0.0, refl, t.0), t.1 ∙ ap (λ (u : List Leaf). u ++ w.0.1) (sym (node_leaves kind w.0.0)));
    complete = λ p rest h st.
        rw h.1 (ap (λ (u : List Leaf). wrap kind (run inner r (u ++ rest))) (node_leaves kind h.0) ∙ rw (exactT.complete h.0 rest h.2 st) refl);
  }
