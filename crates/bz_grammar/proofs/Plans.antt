-- Following a plan is exact where reading its sorts is, and one token decides what comes next.
use Rattle.bz_grammar.proofs.Words.{[], ◌&&◌, ◌++◌, ◌||◌, ◌∙◌, ◌∷◌, ◌≡◌, ◌⊎◌, alt, and_parts, ap, append_assoc, as_kind, Bool, both_ways, cases_Bool, choose, cond, done, each, eq-eqb, eqb-true, false, finish, first_of, Fits, follow, FoundLevel, has_token, inl, inr, is_kind, is_one_of, Kind, kind_number, Leaf, leaves_part, List, list, None, none, Nonterminal, not, not-true, one, Option, or_left, or_right, Part, Part as v, piece, Plan, put_found, Read, refl, run, same_Some, Shape, Some, starts, starts_with, sub, sym, Terminal, times, tok, true}
use Rattle.bz_grammar.proofs.Numbers.{same_kind}
use Rattle.bz_grammar.proofs.Terminals.{disjoint, disjoint_at, stops_left, stops_right, starts-append_left, starts-append_right}
use Rattle.bz_grammar.proofs.Exact.{all_leaves, token_leaf, bind_some, if_some, cond_parts, Exact}
use Rattle.bz_grammar.proofs.Shapes.{nullable, only_if, only_if_at, go, by_table, is_deterministic, opens, run_exact}

-- what a plan finds: a kind, and parts that the way to it requires
abbrev pub Finds : (Nonterminal → Part → Type 0) → Plan → Kind → List Part → Type 0
Finds P (finish kind r) found ps = (found ≡ kind) × Fits P r ps
Finds P (one s plan) found [] = ⊥
Finds P (one s plan) found (x ∷ ps) = (has_token s x ≡ true) × Finds P plan found ps
Finds P (piece q plan) found [] = ⊥
Finds P (piece q plan) found (x ∷ ps) = P q x × Finds P plan found ps
Finds P (choose left right) found ps = Finds P left found ps ⊎ Finds P right found ps

abbrev pub may_be_empty : Plan → Bool
may_be_empty (finish kind r) = nullable r
may_be_empty (one s plan) = false
may_be_empty (piece q plan) = false
may_be_empty (choose left right) = may_be_empty left || may_be_empty right

-- the tokens that must not follow a plan, where goes says it of sorts
abbrev pub go_on : (Nonterminal → List Terminal) → Plan → List Terminal
go_on goes (finish kind r) = go goes r
go_on goes (one s plan) = go_on goes plan
go_on goes (piece q plan) = only_if (may_be_empty plan) (goes q) ++ go_on goes plan
go_on goes (choose left right) = only_if (may_be_empty right) (first_of left) ++ (go_on goes left ++ go_on goes right)

-- one token decides what comes next
abbrev pub decides : (Nonterminal → List Terminal) → Plan → Bool
decides goes (finish kind r) = is_deterministic goes r
decides goes (one s plan) = decides goes plan
decides goes (piece q plan) = by_table q && (disjoint (first_of plan) (goes q) && decides goes plan)
decides goes (choose left right) = not (may_be_empty left) && (disjoint (first_of right) (first_of left) && (decides goes left && decides goes right))

pub as_kind_some : (kind : Kind) (o : Option (List Part × List Leaf)) (y : FoundLevel × List Leaf) → as_kind kind o ≡ Some y → (x : List Part × List Leaf) × (o ≡ Some x) × (y ≡ ((kind, x.0), x.1))
as_kind_some kind None y e = absurd cc
as_kind_some kind (Some x) y e = (x, refl, sym (same_Some ((kind, x.0), x.1) y e))

pub put_found_some : (p : Part) (o : Option (FoundLevel × List Leaf)) (y : FoundLevel × List Leaf) → put_found p o ≡ Some y → (x : FoundLevel × List Leaf) × (o ≡ Some x) × (y ≡ ((x.0.0, p ∷ x.0.1), x.1))
put_found_some p None y e = absurd cc
put_found_some p (Some x) y e = (x, refl, sym (same_Some ((x.0.0, p ∷ x.0.1), x.1) y e))

abbrev OpensPlan : Plan → List Part → List Leaf → Type 0
OpensPlan plan ps rest = (starts_with (first_of plan) (all_leaves ps ++ rest) ≡ true) ⊎ ((may_be_empty plan ≡ true) × (ps ≡ []))

abbrev pub found_leaves : FoundLevel → List Leaf
found_leaves x = all_leaves x.1

module _ (P : Nonterminal → Part → Type 0) (begins : (q : Nonterminal) (p : Part) (rest : List Leaf) → P q p → starts_with (starts q) (leaves_part p ++ rest) ≡ true) where
  pub opens_plan : (plan : Plan) (kind : Kind) (ps : List Part) (rest : List Leaf) → Finds P plan kind ps → OpensPlan plan ps rest
  opens_plan (finish k r) kind ps rest h = opens P begins r ps rest h.1
  opens_plan (one s plan) kind [] rest h = absurd h
  opens_plan (one s plan) kind (p ∷ ps) rest h = let t = token_leaf s p h.0 in inl (rw t.1 t.2)
  opens_plan (piece q plan) kind [] rest h = absurd h
  opens_plan (piece q plan) kind (p ∷ ps) rest h = inl (rw append_assoc (begins q p (all_leaves ps ++ rest) h.0))
  opens_plan (choose left right) kind ps rest (inl h) =
      elim (opens_plan left kind ps rest h) [
        | inl e ↦ inl (starts-append_left (first_of left) (first_of right) (all_leaves ps ++ rest) e)
        | inr e ↦ inr (or_left (may_be_empty left) (may_be_empty right) e.0, e.1)
      ]
  opens_plan (choose left right) kind ps rest (inr h) =
      elim (opens_plan right kind ps rest h) [
        | inl e ↦ inl (starts-append_right (first_of left) (first_of right) (all_leaves ps ++ rest) e)
        | inr e ↦ inr (or_right (may_be_empty left) (may_be_empty right) e.0, e.1)
      ]

  pub follows_plan : (plan : Plan) (kind : Kind) (ps : List Part) (rest : List Leaf) (g : List Terminal) → Finds P plan kind ps → disjoint (first_of plan) g ≡ true → (may_be_empty plan ≡ true → starts_with g rest ≡ false) → starts_with g (all_leaves ps ++ rest) ≡ false
  follows_plan plan kind ps rest g h d q =
      elim (opens_plan plan kind ps rest h) [
        | inl e ↦ disjoint_at (first_of plan) g (all_leaves ps ++ rest) d e
        | inr e ↦ rw e.1 (q e.0)
      ]

  pub not_empty_plan : (plan : Plan) (kind : Kind) (ps : List Part) (rest : List Leaf) → Finds P plan kind ps → may_be_empty plan ≡ false → starts_with (first_of plan) (all_leaves ps ++ rest) ≡ true
  not_empty_plan plan kind ps rest h n = elim (opens_plan plan kind ps rest h) [ inl e ↦ e | inr e ↦ absurd (both_ways (may_be_empty plan) n e.0) ]

module _ (P : Nonterminal → Part → Type 0) (begins : (q : Nonterminal) (p : Part) (rest : List Leaf) → P q p → starts_with (starts q) (leaves_part p ++ rest) ≡ true)
    (goes : Nonterminal → List Terminal) (inner : Nonterminal → Read Part)
    (exact : (q : Nonterminal) → by_table q ≡ true → Exact Part leaves_part (P q) (goes q) (inner q)) where
  abbrev IsFound : Plan → FoundLevel → Type 0
  IsFound plan x = Finds P plan x.0 x.1

  abbrev PlanExact : Plan → Type 0
  PlanExact plan = Exact FoundLevel found_leaves (IsFound plan) (go_on goes plan) (follow inner plan)

  finish_exact : (kind : Kind) (r : Shape) → is_deterministic goes r ≡ true → PlanExact (finish kind r)
  finish_exact kind r ok =
      let x = run_exact P begins goes inner exact r ok in
      record {
        sound = λ ts y e.
            let a = as_kind_some kind (run inner r ts) y e in
            let s = x.sound ts a.0 a.1 in
            rw a.2 ((refl, s.0), s.1);
        complete = λ y rest h st. rw (x.complete y.1 rest h.1 st, h.0) refl;
      }

  one_sound : (s : List Terminal) (plan : Plan) → PlanExact plan → (ts : List Leaf) (y : FoundLevel × List Leaf) → follow inner (one s plan) ts ≡ Some y → IsFound (one s plan) y.0 × (ts ≡ found_leaves y.0 ++ y.1)
  one_sound s plan x [] y e = absurd cc
  one_sound s plan x (t ∷ ts) y e =
      let a = if_some (is_one_of s t) (put_found (v.Leaf t) (follow inner plan ts)) y e in
      let b = put_found_some (v.Leaf t) (follow inner plan ts) y a.1 in
      let h = x.sound ts b.0 b.1 in
      rw b.2 ((a.0, h.0), ap (λ (u : List Leaf). t ∷ u) h.1)

  one_complete : (s : List Terminal) (plan : Plan) → PlanExact plan → (kind : Kind) (ps : List Part) (rest : List Leaf) → Finds P (one s plan) kind ps → starts_with (go_on goes plan) rest ≡ false → follow inner (one s plan) (all_leaves ps ++ rest) ≡ Some ((kind, ps), rest)
  one_complete s plan x kind [] rest h st = absurd h
  one_complete s plan x kind (p ∷ ps) rest h st = let t = token_leaf s p h.0 in rw t.1 (rw (t.2, x.complete (kind, ps) rest h.1 st) refl)

  piece_sound : (q : Nonterminal) → by_table q ≡ true → (plan : Plan) → PlanExact plan → (ts : List Leaf) (y : FoundLevel × List Leaf) → follow inner (piece q plan) ts ≡ Some y → IsFound (piece q plan) y.0 × (ts ≡ found_leaves y.0 ++ y.1)
  piece_sound q b_t plan x ts y e =
      let a = bind_some (inner q ts) (λ x. put_found x.0 (follow inner plan x.1)) y e in
      let b = put_found_some a.0.0 (follow inner plan a.0.1) y a.2 in
      let p = (exact q b_t).sound ts a.0 a.1 in
      let h = x.sound a.0.1 b.0 b.1 in
      rw b.2 ((p.0, h.0), p.1 ∙ ap (λ (u : List Leaf). leaves_part a.0.0 ++ u) h.1 ∙ sym (append_assoc (leaves_part a.0.0) (all_leaves b.0.0.1) b.0.1))

  piece_complete : (q : Nonterminal) → by_table q ≡ true → (plan : Plan) → PlanExact plan → disjoint (first_of plan) (goes q) ≡ true → (kind : Kind) (ps : List Part) (rest : List Leaf) → Finds P (piece q plan) kind ps → starts_with (go_on goes (piece q plan)) rest ≡ false → follow inner (piece q plan) (all_leaves ps ++ rest) ≡ Some ((kind, ps), rest)
  piece_complete q b_t plan x o kind [] rest h st = absurd h
  piece_complete q b_t plan x o kind (p ∷ ps) rest h st =
      let off = follows_plan P begins plan kind ps rest (goes q) h.1 o (only_if_at (may_be_empty plan) (goes q) rest (stops_left (only_if (may_be_empty plan) (goes q)) (go_on goes plan) rest st)) in
      let a = (exact q b_t).complete p (all_leaves ps ++ rest) h.0 off in
      let b = x.complete (kind, ps) rest h.1 (stops_right (only_if (may_be_empty plan) (goes q)) (go_on goes plan) rest st) in
      ap (follow inner (piece q plan)) (append_assoc (leaves_part p) (all_leaves ps) rest) ∙ rw (a, b) refl

  choose_sound : (left right : Plan) → PlanExact left → PlanExact right → (ts : List Leaf) (y : FoundLevel × List Leaf) → follow inner (choose left right) ts ≡ Some y → IsFound (choose left right) y.0 × (ts ≡ found_leaves y.0 ++ y.1)
  choose_sound left right x x' ts y e =
      elim (cond_parts (starts_with (first_of left) ts) (follow inner left ts) (follow inner right ts) (Some y) e) [
        | inl a ↦ let h = x.sound ts y a.1 in (inl h.0, h.1)
        | inr a ↦ let h = x'.sound ts y a.1 in (inr h.0, h.1)
      ]

  choose_complete : (left right : Plan) → PlanExact left → PlanExact right → may_be_empty left ≡ false → disjoint (first_of right) (first_of left) ≡ true
      → (kind : Kind) (ps : List Part) (rest : List Leaf) → Finds P (choose left right) kind ps → starts_with (go_on goes (choose left right)) rest ≡ false → follow inner (choose left right) (all_leaves ps ++ rest) ≡ Some ((kind, ps), rest)
  choose_complete left right x x' n o kind ps rest (inl h) st =
      let e = not_empty_plan P begins left kind ps rest h n in
      rw e (x.complete (kind, ps) rest h (stops_left (go_on goes left) (go_on goes right) rest (stops_right (only_if (may_be_empty right) (first_of left)) (go_on goes left ++ go_on goes right) rest st)))
  choose_complete left right x x' n o kind ps rest (inr h) st =
      let off = follows_plan P begins right kind ps rest (first_of left) h o (only_if_at (may_be_empty right) (first_of left) rest (stops_left (only_if (may_be_empty right) (first_of left)) (go_on goes left ++ go_on goes right) rest st)) in
      rw off (x'.complete (kind, ps) rest h (stops_right (go_on goes left) (go_on goes right) rest (stops_right (only_if (may_be_empty right) (first_of left)) (go_on goes left ++ go_on goes right) rest st)))

  pub plan_exact : (plan : Plan) → decides goes plan ≡ true → PlanExact plan
  plan_exact (finish kind r) ok = finish_exact kind r ok
  plan_exact (one s plan) ok = let x = plan_exact plan ok in record { sound = one_sound s plan x; complete = λ y rest h st. one_complete s plan x y.0 y.1 rest h st }
  plan_exact (piece q plan) ok =
      let b = and_parts (by_table q) _ ok in
      let o = and_parts (disjoint (first_of plan) (goes q)) (decides goes plan) b.1 in
      let x = plan_exact plan o.1 in record { sound = piece_sound q b.0 plan x; complete = λ y rest h st. piece_complete q b.0 plan x o.0 y.0 y.1 rest h st }
  plan_exact (choose left right) ok =
      let o = and_parts (not (may_be_empty left)) _ ok in
      let o2 = and_parts (disjoint (first_of right) (first_of left)) _ o.1 in
      let o3 = and_parts (decides goes left) (decides goes right) o2.1 in
      let x = plan_exact left o3.0 in
      let x' = plan_exact right o3.1 in
      record { sound = choose_sound left right x x'; complete = λ y rest h st. choose_complete left right x x' (not-true (may_be_empty left) o.0) o2.0 y.0 y.1 rest h st }

-- ---- the shape of one kind in a plan

-- what a plan requires where it finds this kind, without the ways that find another one
abbrev pub without_none : Shape → Shape → Shape
without_none none r = r
without_none l none = l
without_none l r = alt l r

abbrev pub if_any : (Shape → Shape) → Shape → Shape
if_any f none = none
if_any f r = f r

abbrev pub shape_in : Kind → Plan → Shape
shape_in kind (finish k r) = cond (is_kind kind k) r none
shape_in kind (one s plan) = if_any (λ r. tok s r) (shape_in kind plan)
shape_in kind (piece q plan) = if_any (λ r. sub q r) (shape_in kind plan)
shape_in kind (choose left right) = without_none (shape_in kind left) (shape_in kind right)

module _ (P : Nonterminal → Part → Type 0) where
  to_without : (l r : Shape) (ps : List Part) → (Fits P l ps ⊎ Fits P r ps) → Fits P (without_none l r) ps
  to_without none r ps (inl h) = absurd h
  to_without none r ps (inr h) = h
  to_without done none ps (inl h) = h
  to_without done none ps (inr h) = absurd h
  to_without (tok s t) none ps (inl h) = h
  to_without (tok s t) none ps (inr h) = absurd h
  to_without (sub q t) none ps (inl h) = h
  to_without (sub q t) none ps (inr h) = absurd h
  to_without (alt t u) none ps (inl h) = h
  to_without (alt t u) none ps (inr h) = absurd h
  to_without (list q sep last t) none ps (inl h) = h
  to_without (list q sep last t) none ps (inr h) = absurd h
  to_without (each q t) none ps (inl h) = h
  to_without (each q t) none ps (inr h) = absurd h
  to_without (times g t) none ps (inl h) = h
  to_without (times g t) none ps (inr h) = absurd h
  to_without _ _ ps h = h

  from_without : (l r : Shape) (ps : List Part) → Fits P (without_none l r) ps → (Fits P l ps ⊎ Fits P r ps)
  from_without none r ps h = inr h
  from_without done none ps h = inl h
  from_without (tok s t) none ps h = inl h
  from_without (sub q t) none ps h = inl h
  from_without (alt t u) none ps h = inl h
  from_without (list q sep last t) none ps h = inl h
  from_without (each q t) none ps h = inl h
  from_without (times g t) none ps h = inl h
  from_without _ _ ps h = h

  -- a step in front of a shape, as a token or a part is
  abbrev Steps : (Shape → Shape) → (Part → Type 0) → Type 0
  Steps f A = (r : Shape) → (Fits P (f r) [] → ⊥) × ((x : Part) (ps : List Part) → (Fits P (f r) (x ∷ ps) → A x × Fits P r ps) × (A x × Fits P r ps → Fits P (f r) (x ∷ ps)))

  to_any : (f : Shape → Shape) (A : Part → Type 0) → Steps f A → (r : Shape) (x : Part) (ps : List Part) → A x → Fits P r ps → Fits P (if_any f r) (x ∷ ps)
  to_any f A s none x ps a h = absurd h
  to_any f A s done x ps a h = ((s done).1 x ps).1 (a, h)
  to_any f A s (tok t r) x ps a h = ((s (tok t r)).1 x ps).1 (a, h)
  to_any f A s (sub q r) x ps a h = ((s (sub q r)).1 x ps).1 (a, h)
  to_any f A s (alt l r) x ps a h = ((s (alt l r)).1 x ps).1 (a, h)
  to_any f A s (list q sep last r) x ps a h = ((s (list q sep last r)).1 x ps).1 (a, h)
  to_any f A s (each q r) x ps a h = ((s (each q r)).1 x ps).1 (a, h)
  to_any f A s (times g r) x ps a h = ((s (times g r)).1 x ps).1 (a, h)

  from_any : (f : Shape → Shape) (A : Part → Type 0) → Steps f A → (r : Shape) (x : Part) (ps : List Part) → Fits P (if_any f r) (x ∷ ps) → A x × Fits P r ps
  from_any f A s none x ps h = absurd h
  from_any f A s done x ps h = ((s done).1 x ps).0 h
  from_any f A s (tok t r) x ps h = ((s (tok t r)).1 x ps).0 h
  from_any f A s (sub q r) x ps h = ((s (sub q r)).1 x ps).0 h
  from_any f A s (alt l r) x ps h = ((s (alt l r)).1 x ps).0 h
  from_any f A s (list q sep last r) x ps h = ((s (list q sep last r)).1 x ps).0 h
  from_any f A s (each q r) x ps h = ((s (each q r)).1 x ps).0 h
  from_any f A s (times g r) x ps h = ((s (times g r)).1 x ps).0 h

  no_any : (f : Shape → Shape) (A : Part → Type 0) → Steps f A → (r : Shape) → Fits P (if_any f r) [] → ⊥
  no_any f A s none h = h
  no_any f A s done h = (s done).0 h
  no_any f A s (tok t r) h = (s (tok t r)).0 h
  no_any f A s (sub q r) h = (s (sub q r)).0 h
  no_any f A s (alt l r) h = (s (alt l r)).0 h
  no_any f A s (list q sep last r) h = (s (list q sep last r)).0 h
  no_any f A s (each q r) h = (s (each q r)).0 h
  no_any f A s (times g r) h = (s (times g r)).0 h

  token_steps : (s : List Terminal) → Steps (λ r. tok s r) (λ x. has_token s x ≡ true)
  token_steps s r = (λ h. h, λ x ps. (λ h. h, λ h. h))

  part_steps : (q : Nonterminal) → Steps (λ r. sub q r) (P q)
  part_steps q r = (λ h. h, λ x ps. (λ h. h, λ h. h))

  pub shape_of_plan : (plan : Plan) (kind : Kind) (ps : List Part) → Finds P plan kind ps → Fits P (shape_in kind plan) ps
  shape_of_plan (finish k r) kind ps h = rw (eq-eqb (kind_number kind) (kind_number k) (ap kind_number h.0)) h.1
  shape_of_plan (one s plan) kind [] h = absurd h
  shape_of_plan (one s plan) kind (x ∷ ps) h = to_any (λ r. tok s r) (λ x. has_token s x ≡ true) (token_steps s) (shape_in kind plan) x ps h.0 (shape_of_plan plan kind ps h.1)
  shape_of_plan (piece q plan) kind [] h = absurd h
  shape_of_plan (piece q plan) kind (x ∷ ps) h = to_any (λ r. sub q r) (P q) (part_steps q) (shape_in kind plan) x ps h.0 (shape_of_plan plan kind ps h.1)
  shape_of_plan (choose left right) kind ps (inl h) = to_without (shape_in kind left) (shape_in kind right) ps (inl (shape_of_plan left kind ps h))
  shape_of_plan (choose left right) kind ps (inr h) = to_without (shape_in kind left) (shape_in kind right) ps (inr (shape_of_plan right kind ps h))

  at_kind : (kind k : Kind) (r : Shape) (ps : List Part) → Fits P (cond (is_kind kind k) r none) ps → (kind ≡ k) × Fits P r ps
  at_kind kind k r ps h =
      elim (cases_Bool (is_kind kind k)) [
        | inl e ↦ (same_kind kind k (eqb-true (kind_number kind) (kind_number k) e), rw e at h)
        | inr e ↦ let none_left : Fits P none ps = rw e at h in absurd none_left
      ]

  pub plan_of_shape : (plan : Plan) (kind : Kind) (ps : List Part) → Fits P (shape_in kind plan) ps → Finds P plan kind ps
  plan_of_shape (finish k r) kind ps h = at_kind kind k r ps h
  plan_of_shape (one s plan) kind [] h = absurd (no_any (λ r. tok s r) (λ x. has_token s x ≡ true) (token_steps s) (shape_in kind plan) h)
  plan_of_shape (one s plan) kind (x ∷ ps) h = let w = from_any (λ r. tok s r) (λ x. has_token s x ≡ true) (token_steps s) (shape_in kind plan) x ps h in (w.0, plan_of_shape plan kind ps w.1)
  plan_of_shape (piece q plan) kind [] h = absurd (no_any (λ r. sub q r) (P q) (part_steps q) (shape_in kind plan) h)
  plan_of_shape (piece q plan) kind (x ∷ ps) h = let w = from_any (λ r. sub q r) (P q) (part_steps q) (shape_in kind plan) x ps h in (w.0, plan_of_shape plan kind ps w.1)
  plan_of_shape (choose left right) kind ps h =
      elim (from_without (shape_in kind left) (shape_in kind right) ps h) [
        | inl a ↦ inl (plan_of_shape left kind ps a)
        | inr a ↦ inr (plan_of_shape right kind ps a)
      ]
