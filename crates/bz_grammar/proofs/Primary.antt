-- What binds tightest is read exactly.
use Rattle.bz_grammar.proofs.Words.{[], ◌++◌, ◌-◌, ◌<◌, ◌>>=◌, ◌∙◌, ◌∷◌, ◌≡◌, ◌≤◌, ◌⊎◌, ap, append_assoc, arith, atom, cond, cond-false, curly, deepest, depth_of, depth_part, false, first_of, fits_in, follow, FoundLevel, inl, inr, Kind, Kind as k, le-leb, Leaf, leaves_part, leb-true, length, length-append, List, node_part, None, Nonterminal, Part, piece, Plan, primary, put_found, Read, read_primary, refl, round, same_Some, simple, Some, square, starts_with, subst, suc, suffix_plan, suffixes, sym, token_part, true, wrap_found, zero, ℕ}
use Rattle.bz_grammar.specs.declared.tree.Part.TheVariants as v
use Rattle.bz_grammar.proofs.Nested.{leaf_or_node}
use Rattle.bz_grammar.proofs.Spells.{depth_Node}
use Rattle.bz_grammar.proofs.Terminals.{disjoint_at, full_front}
use Rattle.bz_grammar.proofs.Exact.{all_leaves, bind_some, if_some, cond_parts, Exact}
use Rattle.bz_grammar.proofs.Plans.{Finds, found_leaves, put_found_some, not_empty_plan, plan_exact, decides, go_on}
use Rattle.bz_grammar.proofs.Nodes.{node_leaves, wrap_found_some, IsLeaf, token_exact, leaf_starts}
use Rattle.bz_grammar.proofs.Trees.{At, node_fits}
use Rattle.bz_grammar.proofs.Shapes.{by_table}
use Rattle.bz_grammar.proofs.Levels.{begins, goes, goes_level, no}
use Rattle.bz_grammar.proofs.Families.{made_at, made_exact, round_agrees, square_agrees, curly_agrees, suffix_agrees, Each, Agrees, finds_list, finds_dict, finds_comprehension, finds_dict_comprehension, finds_paren, finds_tuple, finds_dot, finds_call, finds_index, finds_slice}

pub starts_none : (ts : List Leaf) → starts_with [] ts ≡ false
starts_none [] = refl
starts_none (t ∷ ts) = refl

module _ (d : ℕ) (inner : Nonterminal → Read Part) (exact : (q : Nonterminal) → by_table q ≡ true → Exact Part leaves_part (At d q) (goes q) (inner q)) where
  abbrev PlanAt : Plan → Type 0
  PlanAt plan = Exact FoundLevel found_leaves (λ x. Finds (At d) plan x.0 x.1) (go_on goes plan) (follow inner plan)

  reads : (plan : Plan) → decides goes plan ≡ true → PlanAt plan
  reads plan ok = plan_exact (At d) (begins d) goes inner exact plan ok

  -- ---- atoms

  made_primary : (plan : Plan) → Each (Agrees (At d) primary plan) plan → (y : Part) → ((x : FoundLevel) × (y ≡ node_part x.0 x.1) × Finds (At d) plan x.0 x.1) → At (suc d) primary y
  made_primary plan agrees y h = rw h.1 (made_at d primary plan agrees h.0.0 h.0.1 h.2)

  leaf_primary : (y : Part) → IsLeaf simple y → At (suc d) primary y
  leaf_primary y (l, is, h) = rw is (h, tt, omega arith)

  abbrev Read_by : Plan → Read Part
  Read_by plan ts = wrap_found (follow inner plan ts)

  made : (plan : Plan) → (ok : decides goes plan ≡ true) → Exact Part leaves_part (λ y. (x : FoundLevel) × (y ≡ node_part x.0 x.1) × Finds (At d) plan x.0 x.1) (go_on goes plan) (Read_by plan)
  made plan ok = made_exact (At d) plan inner (go_on goes plan) (reads plan ok)

  atom_sound : (ts : List Leaf) (y : Part × List Leaf) → atom inner ts ≡ Some y → At (suc d) primary y.0 × (ts ≡ leaves_part y.0 ++ y.1)
  atom_sound ts y e =
      let third = cond (starts_with (first_of curly) ts) (Read_by curly ts) (token_part simple ts) in
      let second = cond (starts_with (first_of square) ts) (Read_by square ts) third in
      elim (cond_parts (starts_with (first_of round) ts) (Read_by round ts) second (Some y) e) [
        | inl a ↦ let s = (made round refl).sound ts y a.1 in (made_primary round (round_agrees (At d)) y.0 s.0, s.1)
        | inr a ↦ elim (cond_parts (starts_with (first_of square) ts) (Read_by square ts) third (Some y) a.1) [
          | inl b ↦ let s = (made square refl).sound ts y b.1 in (made_primary square (square_agrees (At d)) y.0 s.0, s.1)
          | inr b ↦ elim (cond_parts (starts_with (first_of curly) ts) (Read_by curly ts) (token_part simple ts) (Some y) b.1) [
            | inl c ↦ let s = (made curly refl).sound ts y c.1 in (made_primary curly (curly_agrees (At d)) y.0 s.0, s.1)
            | inr c ↦ let s = (token_exact simple).sound ts y c.1 in (leaf_primary y.0 s.0, s.1)
          ]
        ]
      ]

  atom_round : (ts : List Leaf) → starts_with (first_of round) ts ≡ true → atom inner ts ≡ Read_by round ts
  atom_round ts h = rw h refl

  atom_square : (ts : List Leaf) → starts_with (first_of square) ts ≡ true → atom inner ts ≡ Read_by square ts
  atom_square ts h = rw (disjoint_at (first_of square) (first_of round) ts refl h, h) refl

  atom_curly : (ts : List Leaf) → starts_with (first_of curly) ts ≡ true → atom inner ts ≡ Read_by curly ts
  atom_curly ts h = rw (disjoint_at (first_of curly) (first_of round) ts refl h, disjoint_at (first_of curly) (first_of square) ts refl h, h) refl

  atom_leaf : (ts : List Leaf) → starts_with simple ts ≡ true → atom inner ts ≡ token_part simple ts
  atom_leaf ts h = rw (disjoint_at simple (first_of round) ts refl h, disjoint_at simple (first_of square) ts refl h, disjoint_at simple (first_of curly) ts refl h) refl

  -- a node that a plan finds is read as an atom
  atom_node : (plan : Plan) → (ok : decides goes plan ≡ true) → ((ts : List Leaf) → starts_with (first_of plan) ts ≡ true → atom inner ts ≡ Read_by plan ts)
      → ((kind : Kind) (ps : List Part) (rest : List Leaf) → Finds (At d) plan kind ps → starts_with (first_of plan) (all_leaves ps ++ rest) ≡ true) → ((rest : List Leaf) → starts_with (go_on goes plan) rest ≡ false)
      → (kind : Kind) (ps : List Part) → Finds (At d) plan kind ps → (rest : List Leaf) → atom inner (leaves_part (node_part kind ps) ++ rest) ≡ Some (node_part kind ps, rest)
  atom_node plan ok goes_there opens quiet kind ps h rest =
      let same = node_leaves kind ps in
      let c = (made plan ok).complete (node_part kind ps) rest ((kind, ps), refl, h) (quiet rest) in
      goes_there (leaves_part (node_part kind ps) ++ rest) (rw same (opens kind ps rest h)) ∙ c

  round_node : (kind : Kind) (ps : List Part) → Finds (At d) round kind ps → (rest : List Leaf) → atom inner (leaves_part (node_part kind ps) ++ rest) ≡ Some (node_part kind ps, rest)
  round_node kind ps h rest = atom_node round refl atom_round (λ kind ps rest h. not_empty_plan (At d) (begins d) round kind ps rest h refl) starts_none kind ps h rest

  square_node : (kind : Kind) (ps : List Part) → Finds (At d) square kind ps → (rest : List Leaf) → atom inner (leaves_part (node_part kind ps) ++ rest) ≡ Some (node_part kind ps, rest)
  square_node kind ps h rest = atom_node square refl atom_square (λ kind ps rest h. not_empty_plan (At d) (begins d) square kind ps rest h refl) starts_none kind ps h rest

  curly_node : (kind : Kind) (ps : List Part) → Finds (At d) curly kind ps → (rest : List Leaf) → atom inner (leaves_part (node_part kind ps) ++ rest) ≡ Some (node_part kind ps, rest)
  curly_node kind ps h rest = atom_node curly refl atom_curly (λ kind ps rest h. not_empty_plan (At d) (begins d) curly kind ps rest h refl) starts_none kind ps h rest

  -- ---- a primary is an atom, or has another one in front

  abbrev IsAtom : Part → Type 0
  IsAtom x = (rest : List Leaf) → atom inner (leaves_part x ++ rest) ≡ Some (x, rest)

  abbrev IsAfter : Kind → List Part → Type 0
  IsAfter kind ps = (a : Part) × (tail : List Part) × (ps ≡ a ∷ tail) × At d primary a × Finds (At d) suffix_plan kind tail

  after_first : (kind : Kind) (ps : List Part) → Finds (At d) (piece primary suffix_plan) kind ps → IsAfter kind ps
  after_first kind [] h = absurd h
  after_first kind (a ∷ tail) h = (a, tail, refl, h.0, h.1)

  view : (kind : Kind) (ps : List Part) → At (suc d) primary (node_part kind ps) → IsAtom (node_part kind ps) ⊎ IsAfter kind ps
  view k.Paren ps h = inl (round_node k.Paren ps (finds_paren (At d) ps (node_fits d primary (record { kind = k.Paren; parts = ps }) h)))
  view k.Tuple ps h = inl (round_node k.Tuple ps (finds_tuple (At d) ps (node_fits d primary (record { kind = k.Tuple; parts = ps }) h)))
  view k.List ps h = inl (square_node k.List ps (finds_list (At d) ps (node_fits d primary (record { kind = k.List; parts = ps }) h)))
  view k.ListComp ps h = inl (square_node k.ListComp ps (finds_comprehension (At d) ps (node_fits d primary (record { kind = k.ListComp; parts = ps }) h)))
  view k.Dict ps h = inl (curly_node k.Dict ps (finds_dict (At d) ps (node_fits d primary (record { kind = k.Dict; parts = ps }) h)))
  view k.DictComp ps h = inl (curly_node k.DictComp ps (finds_dict_comprehension (At d) ps (node_fits d primary (record { kind = k.DictComp; parts = ps }) h)))
  view k.Dot ps h = inr (after_first k.Dot ps (finds_dot (At d) ps (node_fits d primary (record { kind = k.Dot; parts = ps }) h)))
  view k.Call ps h = inr (after_first k.Call ps (finds_call (At d) ps (node_fits d primary (record { kind = k.Call; parts = ps }) h)))
  view k.Index ps h = inr (after_first k.Index ps (finds_index (At d) ps (node_fits d primary (record { kind = k.Index; parts = ps }) h)))
  view k.Slice ps h = inr (after_first k.Slice ps (finds_slice (At d) ps (node_fits d primary (record { kind = k.Slice; parts = ps }) h)))
  view kind ps h = no h.0

  -- ---- suffixes

  suffixed : (a : Part) (kind : Kind) (ps : List Part) → At (suc d) primary a → fits_in d a ≡ true → Finds (At d) suffix_plan kind ps → At (suc d) primary (node_part kind (a ∷ ps))
  suffixed a kind ps h l t = made_at d primary (piece primary suffix_plan) (suffix_agrees (At d)) kind (a ∷ ps) ((h.0, h.1, leb-true (depth_part a) d l), t)

  suffixes_sound : (n : ℕ) (a : Part) (ts : List Leaf) (y : Part × List Leaf) → At (suc d) primary a → suffixes n d inner a ts ≡ Some y → At (suc d) primary y.0 × (leaves_part a ++ ts ≡ leaves_part y.0 ++ y.1)
  suffixes_sound zero a ts y h e = subst (λ (z : Part × List Leaf). At (suc d) primary z.0 × (leaves_part a ++ ts ≡ leaves_part z.0 ++ z.1)) (same_Some (a, ts) y e) (h, refl)
  suffixes_sound (suc n) a ts y h e =
      let step = wrap_found (put_found a (follow inner suffix_plan ts)) in
      elim (cond_parts (starts_with (first_of suffix_plan) ts) (cond (fits_in d a) (step >>= λ x. suffixes n d inner x.0 x.1) None) (Some (a, ts)) (Some y) e) [
        | inl b ↦
            let c = if_some (fits_in d a) (step >>= λ x. suffixes n d inner x.0 x.1) y b.1 in
            let x = bind_some step (λ x. suffixes n d inner x.0 x.1) y c.1 in
            let w = wrap_found_some (put_found a (follow inner suffix_plan ts)) x.0 x.1 in
            let p = put_found_some a (follow inner suffix_plan ts) w.0 w.1 in
            let s = (reads suffix_plan refl).sound ts p.0 p.1 in
            let is : x.0 ≡ (node_part p.0.0.0 (a ∷ p.0.0.1), p.0.1) = w.2 ∙ ap (λ (z : FoundLevel × List Leaf). (node_part z.0.0 z.0.1, z.1)) p.2 in
            let r = suffixes_sound n (node_part p.0.0.0 (a ∷ p.0.0.1)) p.0.1 y (suffixed a p.0.0.0 p.0.0.1 h c.0 s.0) (sym (ap (λ (z : Part × List Leaf). suffixes n d inner z.0 z.1) is) ∙ x.2) in
            (r.0, ap (λ (u : List Leaf). leaves_part a ++ u) s.1 ∙ sym (append_assoc (leaves_part a) (all_leaves p.0.0.1) p.0.1) ∙ ap (λ (u : List Leaf). u ++ p.0.1) (sym (node_leaves p.0.0.0 (a ∷ p.0.0.1))) ∙ r.1)
        | inr b ↦ subst (λ (z : Part × List Leaf). At (suc d) primary z.0 × (leaves_part a ++ ts ≡ leaves_part z.0 ++ z.1)) (same_Some (a, ts) y b.1) (h, refl)
      ]

  suffixes_stop : (n : ℕ) (a : Part) (ts : List Leaf) → starts_with (first_of suffix_plan) ts ≡ false → suffixes n d inner a ts ≡ Some (a, ts)
  suffixes_stop zero a ts h = refl
  suffixes_stop (suc n) a ts h = cond-false (starts_with (first_of suffix_plan) ts) _ _ h

  suffixes_go : (n : ℕ) (a : Part) (kind : Kind) (ps : List Part) (rest : List Leaf) → depth_part a ≤ d → Finds (At d) suffix_plan kind ps → suffixes (suc n) d inner a (all_leaves ps ++ rest) ≡ suffixes n d inner (node_part kind (a ∷ ps)) rest
  suffixes_go n a kind ps rest le t =
      rw (not_empty_plan (At d) (begins d) suffix_plan kind ps rest t refl, le-leb (depth_part a) d le, (reads suffix_plan refl).complete (kind, ps) rest t (starts_none rest)) refl

  abbrev Reaches : Part → List Leaf → Type 0
  Reaches x rest = (i : ℕ) × (length rest ≤ i) × (read_primary d inner (leaves_part x ++ rest) ≡ suffixes i d inner x rest)

  reaches_next : (a : Part) (kind : Kind) (tail : List Part) (rest : List Leaf) (j : ℕ) → depth_part a ≤ d → Finds (At d) suffix_plan kind tail
      → length (all_leaves tail ++ rest) ≤ j → read_primary d inner (leaves_part a ++ (all_leaves tail ++ rest)) ≡ suffixes j d inner a (all_leaves tail ++ rest)
      → Reaches (node_part kind (a ∷ tail)) rest
  reaches_next a kind tail rest j le t long r =
      let some_more = full_front (first_of suffix_plan) (all_leaves tail) (not_empty_plan (At d) (begins d) suffix_plan kind tail [] t refl) in
      let n : j ≡ suc (j - 1) = omega (arith, length-append (all_leaves tail) rest) in
      let start : read_primary d inner (leaves_part (node_part kind (a ∷ tail)) ++ rest) ≡ read_primary d inner (leaves_part a ++ (all_leaves tail ++ rest)) =
      ap (λ (u : List Leaf). read_primary d inner (u ++ rest)) (node_leaves kind (a ∷ tail)) ∙ ap (read_primary d inner) (append_assoc (leaves_part a) (all_leaves tail) rest) in
      (j - 1, omega (arith, length-append (all_leaves tail) rest), start ∙ r ∙ ap (λ (i : ℕ). suffixes i d inner a (all_leaves tail ++ rest)) n ∙ suffixes_go (j - 1) a kind tail rest le t)

  at_atom : (x : Part) (rest : List Leaf) → IsAtom x → Reaches x rest
  at_atom x rest h = (length rest, omega arith, rw (h rest) refl)

  leaf_atom : (x : Part) → IsLeaf simple x → IsAtom x
  leaf_atom x h rest = atom_leaf (leaves_part x ++ rest) (leaf_starts simple x rest h) ∙ (token_exact simple).complete x rest h (starts_none rest)

  primary_reaches : (m : ℕ) (x : Part) (rest : List Leaf) → depth_part x < m → At (suc d) primary x → Reaches x rest
  primary_reaches zero x rest lt h = absurd (omega arith)
  primary_reaches (suc m) x rest lt h =
      elim (leaf_or_node x) [
        | inl (l, is) ↦ at_atom x rest (leaf_atom x (l, is, (let g : At (suc d) primary (v.Leaf l) = rw is at h in g.0)))
        | inr (n, is) ↦
            let g : At (suc d) primary (v.Node n) = rw is at h in
            let deep : depth_part x ≡ depth_of n = ap depth_part is ∙ depth_Node n in
            rw is (elim (view n.kind n.parts g) [
              | inl e ↦ at_atom (v.Node n) rest e
              | inr (a, tail, is_tail, h_a, f) ↦
                  let less : depth_part a < m = omega (arith, ap deepest is_tail) in
                  let r = primary_reaches m a (all_leaves tail ++ rest) less (h_a.0, h_a.1, omega (arith, h_a.2)) in
                  let z = reaches_next a n.kind tail rest r.0 h_a.2 f r.1 r.2 in
                  subst (λ (ps : List Part). Reaches (node_part n.kind ps) rest) (sym is_tail) z
            ])
      ]

  pub primary_exact : Exact Part leaves_part (At (suc d) primary) (goes_level 0) (read_primary d inner)
  primary_exact = record {
    sound = λ ts y e.
        let a = bind_some (atom inner ts) (λ a. suffixes (length a.1) d inner a.0 a.1) y e in
        let s = atom_sound ts a.0 a.1 in
        let r = suffixes_sound (length a.0.1) a.0.0 a.0.1 y s.0 a.2 in
        (r.0, s.1 ∙ r.1);
    complete = λ x rest h st.
        let r = primary_reaches (suc (depth_part x)) x rest (omega arith) h in
        r.2 ∙ suffixes_stop r.0 x rest st;
  }
