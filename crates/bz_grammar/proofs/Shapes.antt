-- Reading a shape is exact where reading its sorts is, and one token decides what comes next.
use Rattle.bz_grammar.proofs.Words.{[], ◌&&◌, ◌++◌, ◌||◌, ◌∙◌, ◌∷◌, ◌≡◌, ◌⊎◌, alt, and_parts, ap, append_assoc, arith, Bool, both_ways, done, each, false, first, Fits, inl, inr, is_one_of, Leaf, leaves_part, length, List, list, no_more, none, Nonterminal, not, not-true, once_more, or_left, or_right, Part, Part as v, Read, refl, run, same_Some, Several, Shape, Some, starts, starts_with, stmt, sub, subst, suite, sym, Terminal, Times, times, tok, true, with_part_first}
use Rattle.bz_grammar.proofs.Terminals.{disjoint, disjoint_at, stops_left, stops_right, starts-append_left, starts-append_right}
use Rattle.bz_grammar.proofs.Exact.{all_leaves, leaves_join, token_leaf, bind_some, put_some, if_some, cond_parts, Exact, listed_sound, listed_complete, several_sound, several_complete}

abbrev pub nullable : Shape → Bool
nullable none = false
nullable done = true
nullable (tok s r) = false
nullable (sub q r) = false
nullable (alt r r') = nullable r || nullable r'
nullable (list q sep last r) = false
nullable (each q r) = nullable r
nullable (times group r) = nullable r

abbrev pub only_if : Bool → List Terminal → List Terminal
only_if true s = s
only_if false s = []

-- the tokens that must not follow a shape, where goes says it of sorts
abbrev pub go : (Nonterminal → List Terminal) → Shape → List Terminal
go goes none = []
go goes done = []
go goes (tok s r) = go goes r
go goes (sub q r) = only_if (nullable r) (goes q) ++ go goes r
go goes (alt r r') = only_if (nullable r') (first r) ++ (go goes r ++ go goes r')
go goes (list q sep last r) = only_if (nullable r) (goes q ++ sep) ++ go goes r
go goes (each q r) = only_if (nullable r) (goes q ++ starts q) ++ go goes r
go goes (times group r) = []

-- the sorts that the table alone reads: not statements and suites, which end by their indents
abbrev pub by_table : Nonterminal → Bool
by_table stmt = false
by_table suite = false
by_table _ = true

-- one token decides what comes next
abbrev pub is_deterministic : (Nonterminal → List Terminal) → Shape → Bool
is_deterministic goes none = true
is_deterministic goes done = true
is_deterministic goes (tok s r) = is_deterministic goes r
is_deterministic goes (sub q r) = by_table q && (disjoint (first r) (goes q) && is_deterministic goes r)
is_deterministic goes (alt r r') = not (nullable r) && (disjoint (first r') (first r) && (is_deterministic goes r && is_deterministic goes r'))
is_deterministic goes (list q sep last r) =
    by_table q && (disjoint sep (goes q) && (disjoint (first r) (goes q) && (disjoint (first r) sep && ((not last || (disjoint (starts q) (first r) && not (nullable r))) && is_deterministic goes r))))
is_deterministic goes (each q r) = by_table q && (disjoint (starts q) (goes q) && (disjoint (first r) (goes q) && (disjoint (first r) (starts q) && is_deterministic goes r)))
is_deterministic goes (times group r) = false

pub only_if_at : (b : Bool) (s : List Terminal) (ts : List Leaf) → starts_with (only_if b s) ts ≡ false → b ≡ true → starts_with s ts ≡ false
only_if_at true s ts h e = h
only_if_at false s ts h e = absurd (both_ways false refl e)

abbrev pub Opens : Shape → List Part → List Leaf → Type 0
Opens r ps rest = (starts_with (first r) (all_leaves ps ++ rest) ≡ true) ⊎ ((nullable r ≡ true) × (ps ≡ []))

right_opens : (q : Nonterminal) (r : Shape) (ps : List Part) (rest : List Leaf) → Opens r ps rest → Opens (each q r) ps rest
right_opens q r ps rest (inl e) = inl (starts-append_right (starts q) (first r) (all_leaves ps ++ rest) e)
right_opens q r ps rest (inr e) = inr e

module _ (P : Nonterminal → Part → Type 0) (begins : (q : Nonterminal) (p : Part) (rest : List Leaf) → P q p → starts_with (starts q) (leaves_part p ++ rest) ≡ true) where
  opens_each : (q : Nonterminal) (r : Shape) {rest : List Leaf} → ((qs : List Part) → Fits P r qs → Opens r qs rest) → (ps : List Part) → Several (P q) (Fits P r) ps → Opens (each q r) ps rest
  opens_each q r {rest} f [] h = right_opens q r [] rest (f [] h)
  opens_each q r {rest} f (p ∷ ps) (inl h) = right_opens q r (p ∷ ps) rest (f (p ∷ ps) h)
  opens_each q r {rest} f (p ∷ ps) (inr h) = inl (starts-append_left (starts q) (first r) (all_leaves (p ∷ ps) ++ rest) (rw append_assoc (begins q p (all_leaves ps ++ rest) h.0)))

  opens_times : (group r : Shape) (rest : List Leaf) → ((qs : List Part) (back : List Leaf) → Fits P group qs → Opens group qs back) → ((qs : List Part) → Fits P r qs → Opens r qs rest) → (ps : List Part) → Times (Fits P group) (Fits P r) ps → Opens (times group r) ps rest
  opens_times group r rest f g ps (no_more h) =
      elim (g ps h) [
        | inl e ↦ inl (starts-append_right (first group) (first r) (all_leaves ps ++ rest) e)
        | inr e ↦ inr e
      ]
  opens_times group r rest f g ps (once_more front back is h t) =
      let w = opens_times group r rest f g back t in
      elim (f front (all_leaves back ++ rest) h) [
        | inl e ↦ inl (starts-append_left (first group) (first r) (all_leaves ps ++ rest) (rw (is, leaves_join front back, append_assoc (all_leaves front) (all_leaves back) rest) e))
        | inr e ↦ subst (λ (zs : List Part). Opens (times group r) zs rest) (sym (is ∙ ap (λ (zs : List Part). zs ++ back) e.1)) w
      ]

  pub opens : (r : Shape) (ps : List Part) (rest : List Leaf) → Fits P r ps → Opens r ps rest
  opens none ps rest h = absurd h
  opens done [] rest h = inr (refl, refl)
  opens done (p ∷ ps) rest h = absurd h
  opens (tok s r) [] rest h = absurd h
  opens (tok s r) (p ∷ ps) rest h = let t = token_leaf s p h.0 in inl (rw t.1 t.2)
  opens (sub q r) [] rest h = absurd h
  opens (sub q r) (p ∷ ps) rest h = inl (rw append_assoc (begins q p (all_leaves ps ++ rest) h.0))
  opens (alt r r') ps rest (inl h) =
      elim (opens r ps rest h) [
        | inl e ↦ inl (starts-append_left (first r) (first r') (all_leaves ps ++ rest) e)
        | inr e ↦ inr (or_left (nullable r) (nullable r') e.0, e.1)
      ]
  opens (alt r r') ps rest (inr h) =
      elim (opens r' ps rest h) [
        | inl e ↦ inl (starts-append_right (first r) (first r') (all_leaves ps ++ rest) e)
        | inr e ↦ inr (or_right (nullable r) (nullable r') e.0, e.1)
      ]
  opens (list q sep last r) [] rest h = absurd h
  opens (list q sep last r) (p ∷ ps) rest h = inl (rw append_assoc (begins q p (all_leaves ps ++ rest) h.0))
  opens (each q r) ps rest h = opens_each q r (λ qs k. opens r qs rest k) ps h
  opens (times group r) ps rest h = opens_times group r rest (λ qs back k. opens group qs back k) (λ qs k. opens r qs rest k) ps h

  -- what a shape begins with isn't in g, nor is what follows where the shape may be empty
  pub follows : (r : Shape) (ps : List Part) (rest : List Leaf) (g : List Terminal) → Fits P r ps → disjoint (first r) g ≡ true → (nullable r ≡ true → starts_with g rest ≡ false) → starts_with g (all_leaves ps ++ rest) ≡ false
  follows r ps rest g h d q =
      elim (opens r ps rest h) [
        | inl e ↦ disjoint_at (first r) g (all_leaves ps ++ rest) d e
        | inr e ↦ rw e.1 (q e.0)
      ]

  pub not_empty : (r : Shape) (ps : List Part) (rest : List Leaf) → Fits P r ps → nullable r ≡ false → starts_with (first r) (all_leaves ps ++ rest) ≡ true
  not_empty r ps rest h n = elim (opens r ps rest h) [ inl e ↦ e | inr e ↦ absurd (both_ways (nullable r) n e.0) ]

module _ (P : Nonterminal → Part → Type 0) (begins : (q : Nonterminal) (p : Part) (rest : List Leaf) → P q p → starts_with (starts q) (leaves_part p ++ rest) ≡ true)
    (goes : Nonterminal → List Terminal) (inner : Nonterminal → Read Part)
    (exact : (q : Nonterminal) → by_table q ≡ true → Exact Part leaves_part (P q) (goes q) (inner q)) where
  done_sound : (ts : List Leaf) (y : List Part × List Leaf) → run inner done ts ≡ Some y → Fits P done y.0 × (ts ≡ all_leaves y.0 ++ y.1)
  done_sound ts y e = subst (λ (z : List Part × List Leaf). Fits P done z.0 × (ts ≡ all_leaves z.0 ++ z.1)) (same_Some ([], ts) y e) (tt, refl)

  done_complete : (ps : List Part) (rest : List Leaf) → Fits P done ps → starts_with (go goes done) rest ≡ false → run inner done (all_leaves ps ++ rest) ≡ Some (ps, rest)
  done_complete [] rest h q = refl
  done_complete (p ∷ ps) rest h q = absurd h

  tok_sound : (s : List Terminal) (r : Shape) → Exact (List Part) all_leaves (Fits P r) (go goes r) (run inner r) → (ts : List Leaf) (y : List Part × List Leaf) → run inner (tok s r) ts ≡ Some y → Fits P (tok s r) y.0 × (ts ≡ all_leaves y.0 ++ y.1)
  tok_sound s r x [] y e = absurd cc
  tok_sound s r x (t ∷ ts) y e =
      let a = if_some (is_one_of s t) (with_part_first (v.Leaf t) (run inner r ts)) y e in
      let b = put_some (v.Leaf t) (run inner r ts) y a.1 in
      let h = x.sound ts b.0 b.1 in
      rw b.2 ((a.0, h.0), ap (λ (u : List Leaf). t ∷ u) h.1)

  tok_complete : (s : List Terminal) (r : Shape) → Exact (List Part) all_leaves (Fits P r) (go goes r) (run inner r) → (ps : List Part) (rest : List Leaf) → Fits P (tok s r) ps → starts_with (go goes r) rest ≡ false → run inner (tok s r) (all_leaves ps ++ rest) ≡ Some (ps, rest)
  tok_complete s r x [] rest h q = absurd h
  tok_complete s r x (p ∷ ps) rest h q = let t = token_leaf s p h.0 in rw t.1 (rw (t.2, x.complete ps rest h.1 q) refl)

  sub_sound : (q : Nonterminal) → by_table q ≡ true → (r : Shape) → Exact (List Part) all_leaves (Fits P r) (go goes r) (run inner r) → (ts : List Leaf) (y : List Part × List Leaf) → run inner (sub q r) ts ≡ Some y → Fits P (sub q r) y.0 × (ts ≡ all_leaves y.0 ++ y.1)
  sub_sound q b_t r x ts y e =
      let a = bind_some (inner q ts) (λ x. with_part_first x.0 (run inner r x.1)) y e in
      let b = put_some a.0.0 (run inner r a.0.1) y a.2 in
      let p = (exact q b_t).sound ts a.0 a.1 in
      let h = x.sound a.0.1 b.0 b.1 in
      rw b.2 ((p.0, h.0), p.1 ∙ ap (λ (u : List Leaf). leaves_part a.0.0 ++ u) h.1 ∙ sym (append_assoc (leaves_part a.0.0) (all_leaves b.0.0) b.0.1))

  sub_complete : (q : Nonterminal) → by_table q ≡ true → (r : Shape) → Exact (List Part) all_leaves (Fits P r) (go goes r) (run inner r) → disjoint (first r) (goes q) ≡ true → (ps : List Part) (rest : List Leaf) → Fits P (sub q r) ps → starts_with (go goes (sub q r)) rest ≡ false → run inner (sub q r) (all_leaves ps ++ rest) ≡ Some (ps, rest)
  sub_complete q b_t r x o [] rest h st = absurd h
  sub_complete q b_t r x o (p ∷ ps) rest h st =
      let off = follows P begins r ps rest (goes q) h.1 o (only_if_at (nullable r) (goes q) rest (stops_left (only_if (nullable r) (goes q)) (go goes r) rest st)) in
      let a = (exact q b_t).complete p (all_leaves ps ++ rest) h.0 off in
      let b = x.complete ps rest h.1 (stops_right (only_if (nullable r) (goes q)) (go goes r) rest st) in
      ap (run inner (sub q r)) (append_assoc (leaves_part p) (all_leaves ps) rest) ∙ rw (a, b) refl

  alt_sound : (r r' : Shape) → Exact (List Part) all_leaves (Fits P r) (go goes r) (run inner r) → Exact (List Part) all_leaves (Fits P r') (go goes r') (run inner r') → (ts : List Leaf) (y : List Part × List Leaf) → run inner (alt r r') ts ≡ Some y → Fits P (alt r r') y.0 × (ts ≡ all_leaves y.0 ++ y.1)
  alt_sound r r' x x' ts y e =
      elim (cond_parts (starts_with (first r) ts) (run inner r ts) (run inner r' ts) (Some y) e) [
        | inl a ↦ let h = x.sound ts y a.1 in (inl h.0, h.1)
        | inr a ↦ let h = x'.sound ts y a.1 in (inr h.0, h.1)
      ]

  alt_complete : (r r' : Shape) → Exact (List Part) all_leaves (Fits P r) (go goes r) (run inner r) → Exact (List Part) all_leaves (Fits P r') (go goes r') (run inner r') → nullable r ≡ false → disjoint (first r') (first r) ≡ true
      → (ps : List Part) (rest : List Leaf) → Fits P (alt r r') ps → starts_with (go goes (alt r r')) rest ≡ false → run inner (alt r r') (all_leaves ps ++ rest) ≡ Some (ps, rest)
  alt_complete r r' x x' n o ps rest (inl h) st =
      elim (opens P begins r ps rest h) [
        | inl e ↦ rw e (x.complete ps rest h (stops_left (go goes r) (go goes r') rest (stops_right (only_if (nullable r') (first r)) (go goes r ++ go goes r') rest st)))
        | inr e ↦ absurd (both_ways (nullable r) n e.0)
      ]
  alt_complete r r' x x' n o ps rest (inr h) st =
      let off = follows P begins r' ps rest (first r) h o (only_if_at (nullable r') (first r) rest (stops_left (only_if (nullable r') (first r)) (go goes r ++ go goes r') rest st)) in
      rw off (x'.complete ps rest h (stops_right (go goes r) (go goes r') rest (stops_right (only_if (nullable r') (first r)) (go goes r ++ go goes r') rest st)))

  list_exact : (q : Nonterminal) → by_table q ≡ true → (sep : List Terminal) (last : Bool) (r : Shape) → Exact (List Part) all_leaves (Fits P r) (go goes r) (run inner r) → disjoint sep (goes q) ≡ true → disjoint (first r) (goes q) ≡ true → disjoint (first r) sep ≡ true
      → (not last || (disjoint (starts q) (first r) && not (nullable r))) ≡ true → Exact (List Part) all_leaves (Fits P (list q sep last r)) (go goes (list q sep last r)) (run inner (list q sep last r))
  list_exact q b_t sep last r x o1 o2 o3 o4 =
      let g = go goes (list q sep last r) in
      let xK : Exact (List Part) all_leaves (Fits P r) g (run inner r) = record { sound = x.sound; complete = λ ps rest h st. x.complete ps rest h (stops_right (only_if (nullable r) (goes q ++ sep)) (go goes r) rest st) } in
      let quiet : (ps : List Part) (rest : List Leaf) → Fits P r ps → starts_with g rest ≡ false → (starts_with (goes q) (all_leaves ps ++ rest) ≡ false) × (starts_with sep (all_leaves ps ++ rest) ≡ false) =
      λ ps rest h st. let w = only_if_at (nullable r) (goes q ++ sep) rest (stops_left (only_if (nullable r) (goes q ++ sep)) (go goes r) rest st) in
      (follows P begins r ps rest (goes q) h o2 (λ e. stops_left (goes q) sep rest (w e)), follows P begins r ps rest sep h o3 (λ e. stops_right (goes q) sep rest (w e))) in
      let strict : last ≡ true → (disjoint (starts q) (first r) ≡ true) × (nullable r ≡ false) = λ t. let w = and_parts (disjoint (starts q) (first r)) (not (nullable r)) (rw t at o4) in (w.0, not-true (nullable r) w.1) in
      let ends : last ≡ true → (ps : List Part) (rest : List Leaf) → Fits P r ps → starts_with (first r) (all_leaves ps ++ rest) ≡ true =
      λ t ps rest h. not_empty P begins r ps rest h (strict t).1 in
      record {
        sound = λ ts y e. listed_sound (P q) (inner q) (goes q) (starts q) (exact q b_t) (begins q) sep last (first r) (Fits P r) (run inner r) g xK quiet ends (λ t. (strict t).0) o1 (length ts) ts y e;
        complete = λ ps rest h st. listed_complete (P q) (inner q) (goes q) (starts q) (exact q b_t) (begins q) sep last (first r) (Fits P r) (run inner r) g xK quiet ends (λ t. (strict t).0) o1 (length (all_leaves ps ++ rest)) ps rest h st (omega arith);
      }

  each_exact : (q : Nonterminal) → by_table q ≡ true → (r : Shape) → Exact (List Part) all_leaves (Fits P r) (go goes r) (run inner r) → disjoint (starts q) (goes q) ≡ true → disjoint (first r) (goes q) ≡ true → disjoint (first r) (starts q) ≡ true
      → Exact (List Part) all_leaves (Fits P (each q r)) (go goes (each q r)) (run inner (each q r))
  each_exact q b_t r x o1 o2 o3 =
      let g = go goes (each q r) in
      let xK : Exact (List Part) all_leaves (Fits P r) g (run inner r) = record { sound = x.sound; complete = λ ps rest h st. x.complete ps rest h (stops_right (only_if (nullable r) (goes q ++ starts q)) (go goes r) rest st) } in
      let quiet : (ps : List Part) (rest : List Leaf) → Fits P r ps → starts_with g rest ≡ false → (starts_with (goes q) (all_leaves ps ++ rest) ≡ false) × (starts_with (starts q) (all_leaves ps ++ rest) ≡ false) =
      λ ps rest h st. let w = only_if_at (nullable r) (goes q ++ starts q) rest (stops_left (only_if (nullable r) (goes q ++ starts q)) (go goes r) rest st) in
      (follows P begins r ps rest (goes q) h o2 (λ e. stops_left (goes q) (starts q) rest (w e)), follows P begins r ps rest (starts q) h o3 (λ e. stops_right (goes q) (starts q) rest (w e))) in
      record {
        sound = λ ts y e. several_sound (P q) (inner q) (goes q) (starts q) (exact q b_t) (begins q) (Fits P r) (run inner r) g xK quiet o1 (length ts) ts y e;
        complete = λ ps rest h st. (several_complete (P q) (inner q) (goes q) (starts q) (exact q b_t) (begins q) (Fits P r) (run inner r) g xK quiet o1 (length (all_leaves ps ++ rest)) ps rest h st (omega arith)).1;
      }

  none_sound : (ts : List Leaf) (y : List Part × List Leaf) → run inner none ts ≡ Some y → Fits P none y.0 × (ts ≡ all_leaves y.0 ++ y.1)
  none_sound ts y e = absurd cc

  pub run_exact : (r : Shape) → is_deterministic goes r ≡ true → Exact (List Part) all_leaves (Fits P r) (go goes r) (run inner r)
  run_exact none ok = record { sound = none_sound; complete = λ ps rest h st. absurd h }
  run_exact done ok = record { sound = done_sound; complete = done_complete }
  run_exact (tok s r) ok = let x = run_exact r ok in record { sound = tok_sound s r x; complete = tok_complete s r x }
  run_exact (sub q r) ok =
      let b = and_parts (by_table q) _ ok in
      let o = and_parts (disjoint (first r) (goes q)) (is_deterministic goes r) b.1 in
      let x = run_exact r o.1 in record { sound = sub_sound q b.0 r x; complete = sub_complete q b.0 r x o.0 }
  run_exact (alt r r') ok =
      let o = and_parts (not (nullable r)) _ ok in
      let o2 = and_parts (disjoint (first r') (first r)) _ o.1 in
      let o3 = and_parts (is_deterministic goes r) (is_deterministic goes r') o2.1 in
      let x = run_exact r o3.0 in
      let x' = run_exact r' o3.1 in
      record { sound = alt_sound r r' x x'; complete = alt_complete r r' x x' (not-true (nullable r) o.0) o2.0 }
  run_exact (list q sep last r) ok =
      let b = and_parts (by_table q) _ ok in
      let o = and_parts (disjoint sep (goes q)) _ b.1 in
      let o2 = and_parts (disjoint (first r) (goes q)) _ o.1 in
      let o3 = and_parts (disjoint (first r) sep) _ o2.1 in
      let o4 = and_parts (not last || (disjoint (starts q) (first r) && not (nullable r))) (is_deterministic goes r) o3.1 in
      list_exact q b.0 sep last r (run_exact r o4.1) o.0 o2.0 o3.0 o4.0
  run_exact (each q r) ok =
      let b = and_parts (by_table q) _ ok in
      let o = and_parts (disjoint (starts q) (goes q)) _ b.1 in
      let o2 = and_parts (disjoint (first r) (goes q)) _ o.1 in
      let o3 = and_parts (disjoint (first r) (starts q)) (is_deterministic goes r) o2.1 in
      each_exact q b.0 r (run_exact r o3.1) o.0 o2.0 o3.0
  run_exact (times group r) ok = absurd (both_ways false refl ok)
