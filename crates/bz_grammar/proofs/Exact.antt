-- Readers that read just what they ought to: loops.
use Rattle.bz_grammar.proofs.Words.{[], ◌&&◌, ◌++◌, ◌>>=◌, ◌∙◌, ◌∷◌, ◌≡◌, ◌≤◌, ◌⊎◌, After, after_item, and_parts, ap, append_assoc, arith, Bool, both_ways, cases_Bool, cond, cond-false, false, flat_map, has_token, inl, inr, is_one_of, Leaf, leaves_part, length, length-append, List, Listed, Node', None, Option, Part, Part as v, Read, refl, separated_parts, Several, several, Some, starts_with, suc, sym, Terminal, true, with_part_first, zero, ℕ}
use Rattle.bz_grammar.proofs.Terminals.{disjoint, disjoint-one_of, disjoint_at, full, full_front}

abbrev pub all_leaves : List Part → List Leaf
all_leaves ps = flat_map leaves_part ps

pub leaves_join : (ps qs : List Part) → all_leaves (ps ++ qs) ≡ all_leaves ps ++ all_leaves qs
leaves_join [] qs = refl
leaves_join (p ∷ ps) qs = ap (λ (ls : List Leaf). leaves_part p ++ ls) (leaves_join ps qs) ∙ sym (append_assoc (leaves_part p) (all_leaves ps) (all_leaves qs))

-- a part that is one of these tokens is a leaf
pub token_leaf : (s : List Terminal) (x : Part) → has_token s x ≡ true → (l : Leaf) × (x ≡ v.Leaf l) × (is_one_of s l ≡ true)
token_leaf s (v.Leaf l) h = (l, refl, h)
token_leaf s (Node' k n r) h = absurd (both_ways false refl h)

-- a leaf in front makes the leaves longer
le_tail : (l : Leaf) (p : Part) (ps : List Part) (rest : List Leaf) (n : ℕ) → p ≡ v.Leaf l → length (all_leaves (p ∷ ps) ++ rest) ≤ n → length (all_leaves ps ++ rest) ≤ n
le_tail l p ps rest n e le = let k : length (all_leaves (v.Leaf l ∷ ps) ++ rest) ≤ n = rw e at le in omega arith

-- ---- what went well

pub bind_some : {A B : Type 0} (o : Option A) (f : A → Option B) (y : B) → (o >>= f) ≡ Some y → (x : A) × (o ≡ Some x) × (f x ≡ Some y)
bind_some None f y e = absurd cc
bind_some (Some x) f y e = (x, refl, e)

pub put_some : (p : Part) (o : Option (List Part × List Leaf)) (y : List Part × List Leaf) → with_part_first p o ≡ Some y → (x : List Part × List Leaf) × (o ≡ Some x) × (y ≡ (p ∷ x.0, x.1))
put_some p None y e = absurd cc
put_some p (Some x) y e = (x, refl, sym cc)

pub if_some : {A : Type 0} (b : Bool) (o : Option A) (y : A) → cond b o None ≡ Some y → (b ≡ true) × (o ≡ Some y)
if_some true o y e = (refl, e)
if_some false o y e = absurd cc

pub cond_parts : {A : Type 0} (b : Bool) (x y z : A) → cond b x y ≡ z → ((b ≡ true) × (x ≡ z)) ⊎ ((b ≡ false) × (y ≡ z))
cond_parts true x y z e = inl (refl, e)
cond_parts false x y z e = inr (refl, e)

-- ---- exact readers

pub record Exact (X : Type 0) (spell : X → List Leaf) (P : X → Type 0) (go : List Terminal) (read : Read X) : Type 0 where
  pub sound : (ts : List Leaf) (y : X × List Leaf) → read ts ≡ Some y → P y.0 × (ts ≡ spell y.0 ++ y.1)
  pub complete : (x : X) (rest : List Leaf) → P x → starts_with go rest ≡ false → read (spell x ++ rest) ≡ Some (x, rest)

-- ---- parts with separators between them

module _ (P : Part → Type 0) (next : Read Part) (go_on begin : List Terminal) (exact : Exact Part leaves_part P go_on next) (begins : (p : Part) (rest : List Leaf) → P p → starts_with begin (leaves_part p ++ rest) ≡ true)
    (sep : List Terminal) (last : Bool) (stop : List Terminal) (K : List Part → Type 0) (readK : Read (List Part)) (goK : List Terminal) (exactK : Exact (List Part) all_leaves K goK readK)
    (quiet : (ps : List Part) (rest : List Leaf) → K ps → starts_with goK rest ≡ false → (starts_with go_on (all_leaves ps ++ rest) ≡ false) × (starts_with sep (all_leaves ps ++ rest) ≡ false))
    (ends : last ≡ true → (ps : List Part) (rest : List Leaf) → K ps → starts_with stop (all_leaves ps ++ rest) ≡ true)
    (apart : last ≡ true → disjoint begin stop ≡ true)
    (separate : disjoint sep go_on ≡ true) where
  after_at_end : (ps : List Part) → K ps → After P sep last K ps
  after_at_end [] k = k
  after_at_end (p ∷ ps) k = inl k

  after_sound : (again : Read (List Part)) → ((ts : List Leaf) (y : List Part × List Leaf) → again ts ≡ Some y → Listed P sep last K y.0 × (ts ≡ all_leaves y.0 ++ y.1))
      → (ts : List Leaf) (y : List Part × List Leaf) → after_item again sep last stop readK ts ≡ Some y → After P sep last K y.0 × (ts ≡ all_leaves y.0 ++ y.1)
  after_sound again ih [] y e = let s = exactK.sound [] y e in (after_at_end y.0 s.0, s.1)
  after_sound again ih (t ∷ ts) y e =
      elim (cond_parts (is_one_of sep t) (with_part_first (v.Leaf t) (cond (last && starts_with stop ts) (readK ts) (again ts))) (readK (t ∷ ts)) (Some y) e) [
        | inl (m, e1) ↦
            let x = put_some (v.Leaf t) (cond (last && starts_with stop ts) (readK ts) (again ts)) y e1 in
            elim (cond_parts (last && starts_with stop ts) (readK ts) (again ts) (Some x.0) x.1) [
              | inl (l, ek) ↦ let s = exactK.sound ts x.0 ek in rw x.2 (inr (m, inr ((and_parts last (starts_with stop ts) l).0, s.0)), ap (λ (r : List Leaf). t ∷ r) s.1)
              | inr (l, ea) ↦ let s = ih ts x.0 ea in rw x.2 (inr (m, inl s.0), ap (λ (r : List Leaf). t ∷ r) s.1)
            ]
        | inr (m, e1) ↦ let s = exactK.sound (t ∷ ts) y e1 in (after_at_end y.0 s.0, s.1)
      ]

  pub listed_sound : (n : ℕ) (ts : List Leaf) (y : List Part × List Leaf) → separated_parts n next sep last stop readK ts ≡ Some y → Listed P sep last K y.0 × (ts ≡ all_leaves y.0 ++ y.1)
  listed_sound zero ts y e = absurd cc
  listed_sound (suc n) ts y e =
      let a = bind_some (next ts) (λ x. with_part_first x.0 (after_item (separated_parts n next sep last stop readK) sep last stop readK x.1)) y e in
      let b = put_some a.0.0 (after_item (separated_parts n next sep last stop readK) sep last stop readK a.0.1) y a.2 in
      let p = exact.sound ts a.0 a.1 in
      let s = after_sound (separated_parts n next sep last stop readK) (listed_sound n) a.0.1 b.0 b.1 in
      rw b.2 ((p.0, s.0), p.1 ∙ ap (λ (r : List Leaf). leaves_part a.0.0 ++ r) s.1 ∙ sym (append_assoc (leaves_part a.0.0) (all_leaves b.0.0) b.0.1))

  -- ---- complete

  begins_listed : (ps : List Part) (rest : List Leaf) → Listed P sep last K ps → starts_with begin (all_leaves ps ++ rest) ≡ true
  begins_listed [] rest h = absurd h
  begins_listed (p ∷ ps) rest h = rw append_assoc (begins p (all_leaves ps ++ rest) h.0)

  apart_at : (ts : List Leaf) → starts_with begin ts ≡ true → (last && starts_with stop ts) ≡ false
  apart_at ts h =
      elim (cases_Bool last) [
        | inl t ↦ rw t (disjoint_at begin stop ts (apart t) h)
        | inr f ↦ rw f refl
      ]

  after_skip : (again : Read (List Part)) (ts : List Leaf) → starts_with sep ts ≡ false → after_item again sep last stop readK ts ≡ readK ts
  after_skip again [] h = refl
  after_skip again (t ∷ ts) h = cond-false (is_one_of sep t) _ _ h

  after_end : (again : Read (List Part)) (ps : List Part) (rest : List Leaf) → K ps → starts_with goK rest ≡ false →
      (starts_with go_on (all_leaves ps ++ rest) ≡ false) × (after_item again sep last stop readK (all_leaves ps ++ rest) ≡ Some (ps, rest))
  after_end again ps rest k q =
      let w = quiet ps rest k q in
      (w.0, after_skip again (all_leaves ps ++ rest) w.1 ∙ exactK.complete ps rest k q)

  mutual
    pub listed_complete : (n : ℕ) (ps : List Part) (rest : List Leaf) → Listed P sep last K ps → starts_with goK rest ≡ false → length (all_leaves ps ++ rest) ≤ n → separated_parts n next sep last stop readK (all_leaves ps ++ rest) ≡ Some (ps, rest)
    listed_complete n [] rest h q le = absurd h
    listed_complete zero (p ∷ ps) rest h q le = absurd (omega (arith, full begin (all_leaves (p ∷ ps) ++ rest) (begins_listed (p ∷ ps) rest h)))
    listed_complete (suc n) (p ∷ ps) rest h q le =
        let regroup = append_assoc (leaves_part p) (all_leaves ps) rest in
        let one = full_front begin (leaves_part p) (begins p [] h.0) in
        let w = after_complete n ps rest h.1 q (omega (arith, ap length regroup, length-append (leaves_part p) (all_leaves ps ++ rest))) in
        let a = exact.complete p (all_leaves ps ++ rest) h.0 w.0 in
        ap (separated_parts (suc n) next sep last stop readK) regroup ∙ rw (a, w.1) refl

    after_complete : (n : ℕ) (ps : List Part) (rest : List Leaf) → After P sep last K ps → starts_with goK rest ≡ false → length (all_leaves ps ++ rest) ≤ n →
        (starts_with go_on (all_leaves ps ++ rest) ≡ false) × (after_item (separated_parts n next sep last stop readK) sep last stop readK (all_leaves ps ++ rest) ≡ Some (ps, rest))
    after_complete n [] rest h q le = after_end (separated_parts n next sep last stop readK) [] rest h q
    after_complete n (p ∷ ps) rest (inl k) q le = after_end (separated_parts n next sep last stop readK) (p ∷ ps) rest k q
    after_complete n (p ∷ ps) rest (inr (m, inl h)) q le =
        let t = token_leaf sep p m in
        let off = apart_at (all_leaves ps ++ rest) (begins_listed ps rest h) in
        let short : length (all_leaves ps ++ rest) ≤ n = le_tail t.0 p ps rest n t.1 le in
        let w = listed_complete n ps rest h q short in
        rw t.1 (disjoint-one_of t.0 sep go_on separate t.2, rw (t.2, off, w) refl)
    after_complete n (p ∷ ps) rest (inr (m, inr (e, k))) q le =
        let t = token_leaf sep p m in
        rw t.1 (disjoint-one_of t.0 sep go_on separate t.2, rw (t.2, e, ends e ps rest k, exactK.complete ps rest k q) refl)

-- ---- parts one after the other

module _ (P : Part → Type 0) (next : Read Part) (go_on begin : List Terminal) (exact : Exact Part leaves_part P go_on next) (begins : (p : Part) (rest : List Leaf) → P p → starts_with begin (leaves_part p ++ rest) ≡ true)
    (K : List Part → Type 0) (readK : Read (List Part)) (goK : List Terminal) (exactK : Exact (List Part) all_leaves K goK readK)
    (quiet : (ps : List Part) (rest : List Leaf) → K ps → starts_with goK rest ≡ false → (starts_with go_on (all_leaves ps ++ rest) ≡ false) × (starts_with begin (all_leaves ps ++ rest) ≡ false))
    (separate : disjoint begin go_on ≡ true) where
  several_at_end : (ps : List Part) → K ps → Several P K ps
  several_at_end [] k = k
  several_at_end (p ∷ ps) k = inl k

  pub several_sound : (n : ℕ) (ts : List Leaf) (y : List Part × List Leaf) → several n next begin readK ts ≡ Some y → Several P K y.0 × (ts ≡ all_leaves y.0 ++ y.1)
  several_sound zero ts y e = let s = exactK.sound ts y e in (several_at_end y.0 s.0, s.1)
  several_sound (suc n) ts y e =
      elim (cond_parts (starts_with begin ts) (next ts >>= λ x. with_part_first x.0 (several n next begin readK x.1)) (readK ts) (Some y) e) [
        | inl h ↦
            let a = bind_some (next ts) (λ x. with_part_first x.0 (several n next begin readK x.1)) y h.1 in
            let b = put_some a.0.0 (several n next begin readK a.0.1) y a.2 in
            let p = exact.sound ts a.0 a.1 in
            let s = several_sound n a.0.1 b.0 b.1 in
            rw b.2 (inr (p.0, s.0), p.1 ∙ ap (λ (r : List Leaf). leaves_part a.0.0 ++ r) s.1 ∙ sym (append_assoc (leaves_part a.0.0) (all_leaves b.0.0) b.0.1))
        | inr h ↦ let s = exactK.sound ts y h.1 in (several_at_end y.0 s.0, s.1)
      ]

  several_end : (n : ℕ) (ps : List Part) (rest : List Leaf) → K ps → starts_with goK rest ≡ false → (starts_with go_on (all_leaves ps ++ rest) ≡ false) × (several n next begin readK (all_leaves ps ++ rest) ≡ Some (ps, rest))
  several_end zero ps rest k q = ((quiet ps rest k q).0, exactK.complete ps rest k q)
  several_end (suc n) ps rest k q = let w = quiet ps rest k q in (w.0, rw w.1 (exactK.complete ps rest k q))

  pub several_complete : (n : ℕ) (ps : List Part) (rest : List Leaf) → Several P K ps → starts_with goK rest ≡ false → length (all_leaves ps ++ rest) ≤ n →
      (starts_with go_on (all_leaves ps ++ rest) ≡ false) × (several n next begin readK (all_leaves ps ++ rest) ≡ Some (ps, rest))
  several_complete n [] rest k q le = several_end n [] rest k q
  several_complete n (p ∷ ps) rest (inl k) q le = several_end n (p ∷ ps) rest k q
  several_complete zero (p ∷ ps) rest (inr h) q le = absurd (omega (arith, full_front begin (leaves_part p) (begins p [] h.0), ap length (append_assoc (leaves_part p) (all_leaves ps) rest), length-append (leaves_part p) (all_leaves ps ++ rest)))
  several_complete (suc n) (p ∷ ps) rest (inr h) q le =
      let regroup = append_assoc (leaves_part p) (all_leaves ps) rest in
      let one = full_front begin (leaves_part p) (begins p [] h.0) in
      let w = several_complete n ps rest h.1 q (omega (arith, ap length regroup, length-append (leaves_part p) (all_leaves ps ++ rest))) in
      let b = begins p (all_leaves ps ++ rest) h.0 in
      (rw regroup (disjoint_at begin go_on (leaves_part p ++ (all_leaves ps ++ rest)) separate b), ap (several (suc n) next begin readK) regroup ∙ rw (b, exact.complete p (all_leaves ps ++ rest) h.0 w.0, w.1) refl)
