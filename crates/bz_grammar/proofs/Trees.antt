-- Legal trees by their parts.
use Rattle.bz_grammar.proofs.Words.{[], ◌++◌, ◌∙◌, ◌∷◌, ◌≡◌, ◌≤◌, After, AllByRecursion, alt, ap, arith, Bool, bzl_shape, deepest, depth_part, done, each, end_of-Part, Fits, has_token, inl, inr, IsNonterminal, items-the_row-Part, LegalPart, LegalRow, LegalShapes, List, list, Listed, max, more_of-Part, no_more, Node, none, Nonterminal, once_more, Part, Row_of-Part, Several, Shape, sub, subst, suc, sym, Terminal, Times, times, tok, true, ℕ}
use Rattle.bz_grammar.specs.declared.tree.Part.TheVariants as v
use Rattle.bz_grammar.proofs.{Nested.row_of, Nested.items_of_row, Spells.depth_Node, Exact.token_leaf}

abbrev pub AllLegal : List Part → Type 0
AllLegal ps = AllByRecursion LegalPart ps

-- ---- a node by its row and by its list

row_legal : (m : _) (r : Row_of-Part m) → LegalRow r → AllLegal (items-the_row-Part m r)
row_legal m end_of-Part h = tt
row_legal m (more_of-Part x rest) h = (h.0, row_legal _ rest h.1)

legal_row : (m : _) (r : Row_of-Part m) → AllLegal (items-the_row-Part m r) → LegalRow r
legal_row m end_of-Part h = tt
legal_row m (more_of-Part x rest) h = (h.0, legal_row _ rest h.1)

pub bzl_shapes_of : (n : Node) → LegalPart (v.Node n) → LegalShapes n
bzl_shapes_of n h = subst (λ (ps : List Part). Fits IsNonterminal (bzl_shape n.kind) ps × AllLegal ps) (items_of_row n) (h.0, row_legal _ (row_of n).1 h.1)

pub of_bzl_shapes : (n : Node) → LegalShapes n → LegalPart (v.Node n)
of_bzl_shapes n h =
    let w = subst (λ (ps : List Part). Fits IsNonterminal (bzl_shape n.kind) ps × AllLegal ps) (sym (items_of_row n)) h in
    (w.0, legal_row _ (row_of n).1 w.1)

-- a legal part of a sort and of at most that depth
abbrev pub At : ℕ → Nonterminal → Part → Type 0
At d q x = IsNonterminal q x × LegalPart x × (depth_part x ≤ d)

-- ---- a node is legal where its parts are

abbrev Keeps : ℕ → (List Part → Type 0) → (List Part → Type 0) → Type 0
Keeps d K K' = (ps : List Part) → K ps → AllLegal ps → deepest ps ≤ d → K' ps

mutual
  join_listed : (d : ℕ) (q : Nonterminal) (sep : List Terminal) (last : Bool) (K K' : List Part → Type 0) → Keeps d K K' → (ps : List Part) → Listed (IsNonterminal q) sep last K ps → AllLegal ps → deepest ps ≤ d → Listed (At d q) sep last K' ps
  join_listed d q sep last K K' f [] h l le = absurd h
  join_listed d q sep last K K' f (x ∷ ps) h l le = ((h.0, l.0, omega arith), join_after d q sep last K K' f ps h.1 l.1 (omega arith))

  join_after : (d : ℕ) (q : Nonterminal) (sep : List Terminal) (last : Bool) (K K' : List Part → Type 0) → Keeps d K K' → (ps : List Part) → After (IsNonterminal q) sep last K ps → AllLegal ps → deepest ps ≤ d → After (At d q) sep last K' ps
  join_after d q sep last K K' f [] h l le = f [] h l le
  join_after d q sep last K K' f (x ∷ ps) (inl h) l le = inl (f (x ∷ ps) h l le)
  join_after d q sep last K K' f (x ∷ ps) (inr (m, inl h)) l le = inr (m, inl (join_listed d q sep last K K' f ps h l.1 (omega arith)))
  join_after d q sep last K K' f (x ∷ ps) (inr (m, inr (e, h))) l le = inr (m, inr (e, f ps h l.1 (omega arith)))

join_each : (d : ℕ) (q : Nonterminal) (K K' : List Part → Type 0) → Keeps d K K' → (ps : List Part) → Several (IsNonterminal q) K ps → AllLegal ps → deepest ps ≤ d → Several (At d q) K' ps
join_each d q K K' f [] h l le = f [] h l le
join_each d q K K' f (x ∷ ps) (inl h) l le = inl (f (x ∷ ps) h l le)
join_each d q K K' f (x ∷ ps) (inr h) l le = inr ((h.0, l.0, omega arith), join_each d q K K' f ps h.1 l.1 (omega arith))

legal_front : (ps qs : List Part) → AllLegal (ps ++ qs) → AllLegal ps × AllLegal qs
legal_front [] qs l = (tt, l)
legal_front (p ∷ ps) qs l = let w = legal_front ps qs l.1 in ((l.0, w.0), w.1)

legal_both : (ps qs : List Part) → AllLegal ps → AllLegal qs → AllLegal (ps ++ qs)
legal_both [] qs l m = m
legal_both (p ∷ ps) qs l m = (l.0, legal_both ps qs l.1 m)

pub deepest_both : (ps qs : List Part) → deepest (ps ++ qs) ≡ max (deepest ps) (deepest qs)
deepest_both [] qs = omega arith
deepest_both (p ∷ ps) qs = omega (arith, deepest_both ps qs)

join_times : (d : ℕ) (F F' K K' : List Part → Type 0) → Keeps d F F' → Keeps d K K' → (ps : List Part) → Times F K ps → AllLegal ps → deepest ps ≤ d → Times F' K' ps
join_times d F F' K K' f g ps (no_more h) l le = no_more (g ps h l le)
join_times d F F' K K' f g ps (once_more front back is h t) l le =
    let w = legal_front front back (rw is at l) in
    let deep : deepest ps ≡ max (deepest front) (deepest back) = ap deepest is ∙ deepest_both front back in
    once_more front back is (f front h w.0 (omega (arith, deep))) (join_times d F F' K K' f g back t w.1 (omega (arith, deep)))

pub join : (d : ℕ) (r : Shape) (ps : List Part) → Fits IsNonterminal r ps → AllLegal ps → deepest ps ≤ d → Fits (At d) r ps
join d none ps h l le = absurd h
join d done [] h l le = tt
join d done (x ∷ ps) h l le = absurd h
join d (tok s r) [] h l le = absurd h
join d (tok s r) (x ∷ ps) h l le = (h.0, join d r ps h.1 l.1 (omega arith))
join d (sub q r) [] h l le = absurd h
join d (sub q r) (x ∷ ps) h l le = ((h.0, l.0, omega arith), join d r ps h.1 l.1 (omega arith))
join d (alt r r') ps (inl h) l le = inl (join d r ps h l le)
join d (alt r r') ps (inr h) l le = inr (join d r' ps h l le)
join d (list q sep last r) ps h l le = join_listed d q sep last (Fits IsNonterminal r) (Fits (At d) r) (λ ps h l le. join d r ps h l le) ps h l le
join d (each q r) ps h l le = join_each d q (Fits IsNonterminal r) (Fits (At d) r) (λ ps h l le. join d r ps h l le) ps h l le
join d (times group r) ps h l le = join_times d (Fits IsNonterminal group) (Fits (At d) group) (Fits IsNonterminal r) (Fits (At d) r) (λ ps h l le. join d group ps h l le) (λ ps h l le. join d r ps h l le) ps h l le

abbrev pub Sound : ℕ → (List Part → Type 0) → List Part → Type 0
Sound d K ps = K ps × AllLegal ps × (deepest ps ≤ d)

-- a token is a leaf, which is legal and adds no depth
token_sound : (d : ℕ) (s : List Terminal) (x : Part) → has_token s x ≡ true → LegalPart x × (depth_part x ≤ d)
token_sound d s x m = let t = token_leaf s x m in rw t.1 (tt, omega arith)

mutual
  split_listed : (d : ℕ) (q : Nonterminal) (sep : List Terminal) (last : Bool) (K K' : List Part → Type 0) → ((ps : List Part) → K' ps → Sound d K ps) → (ps : List Part) → Listed (At d q) sep last K' ps → Sound d (Listed (IsNonterminal q) sep last K) ps
  split_listed d q sep last K K' f [] h = absurd h
  split_listed d q sep last K K' f (x ∷ ps) h = let s = split_after d q sep last K K' f ps h.1 in ((h.0.0, s.0), (h.0.1, s.1), omega (arith, h.0.2, s.2))

  split_after : (d : ℕ) (q : Nonterminal) (sep : List Terminal) (last : Bool) (K K' : List Part → Type 0) → ((ps : List Part) → K' ps → Sound d K ps) → (ps : List Part) → After (At d q) sep last K' ps → Sound d (After (IsNonterminal q) sep last K) ps
  split_after d q sep last K K' f [] h = f [] h
  split_after d q sep last K K' f (x ∷ ps) (inl h) = let s = f (x ∷ ps) h in (inl s.0, s.1, s.2)
  split_after d q sep last K K' f (x ∷ ps) (inr (m, inl h)) = let t = token_sound d sep x m in let s = split_listed d q sep last K K' f ps h in (inr (m, inl s.0), (t.0, s.1), omega (arith, t.1, s.2))
  split_after d q sep last K K' f (x ∷ ps) (inr (m, inr (e, h))) = let t = token_sound d sep x m in let s = f ps h in (inr (m, inr (e, s.0)), (t.0, s.1), omega (arith, t.1, s.2))

split_each : (d : ℕ) (q : Nonterminal) (K K' : List Part → Type 0) → ((ps : List Part) → K' ps → Sound d K ps) → (ps : List Part) → Several (At d q) K' ps → Sound d (Several (IsNonterminal q) K) ps
split_each d q K K' f [] h = f [] h
split_each d q K K' f (x ∷ ps) (inl h) = let s = f (x ∷ ps) h in (inl s.0, s.1, s.2)
split_each d q K K' f (x ∷ ps) (inr h) = let s = split_each d q K K' f ps h.1 in (inr (h.0.0, s.0), (h.0.1, s.1), omega (arith, h.0.2, s.2))

split_times : (d : ℕ) (F F' K K' : List Part → Type 0) → ((ps : List Part) → F' ps → Sound d F ps) → ((ps : List Part) → K' ps → Sound d K ps) → (ps : List Part) → Times F' K' ps → Sound d (Times F K) ps
split_times d F F' K K' f g ps (no_more h) = let s = g ps h in (no_more s.0, s.1, s.2)
split_times d F F' K K' f g ps (once_more front back is h t) =
    let s = f front h in
    let w = split_times d F F' K K' f g back t in
    let deep : deepest ps ≡ max (deepest front) (deepest back) = ap deepest is ∙ deepest_both front back in
    (once_more front back is s.0 w.0, subst AllLegal (sym is) (legal_both front back s.1 w.1), omega (arith, deep, s.2, w.2))

pub split : (d : ℕ) (r : Shape) (ps : List Part) → Fits (At d) r ps → Sound d (Fits IsNonterminal r) ps
split d none ps h = absurd h
split d done [] h = (tt, tt, omega arith)
split d done (x ∷ ps) h = absurd h
split d (tok s r) [] h = absurd h
split d (tok s r) (x ∷ ps) h = let t = token_sound d s x h.0 in let w = split d r ps h.1 in ((h.0, w.0), (t.0, w.1), omega (arith, t.1, w.2))
split d (sub q r) [] h = absurd h
split d (sub q r) (x ∷ ps) h = let w = split d r ps h.1 in ((h.0.0, w.0), (h.0.1, w.1), omega (arith, h.0.2, w.2))
split d (alt r r') ps (inl h) = let w = split d r ps h in (inl w.0, w.1, w.2)
split d (alt r r') ps (inr h) = let w = split d r' ps h in (inr w.0, w.1, w.2)
split d (list q sep last r) ps h = split_listed d q sep last (Fits IsNonterminal r) (Fits (At d) r) (λ ps h. split d r ps h) ps h
split d (each q r) ps h = split_each d q (Fits IsNonterminal r) (Fits (At d) r) (λ ps h. split d r ps h) ps h
split d (times group r) ps h = split_times d (Fits IsNonterminal group) (Fits (At d) group) (Fits IsNonterminal r) (Fits (At d) r) (λ ps h. split d group ps h) (λ ps h. split d r ps h) ps h

-- a node whose parts are legal
pub legal_node : (d : ℕ) (q : Nonterminal) (n : Node) → IsNonterminal q (v.Node n) → Fits (At d) (bzl_shape n.kind) n.parts → At (suc d) q (v.Node n)
legal_node d q n s h =
    let w = split d (bzl_shape n.kind) n.parts h in
    (s, of_bzl_shapes n (w.0, w.1), omega (arith, w.2, depth_Node n))

pub node_fits : (d : ℕ) (q : Nonterminal) (n : Node) → At (suc d) q (v.Node n) → Fits (At d) (bzl_shape n.kind) n.parts
node_fits d q n h =
    let w = bzl_shapes_of n h.1 in
    join d (bzl_shape n.kind) n.parts w.0 w.1 (omega (arith, h.2, depth_Node n))
