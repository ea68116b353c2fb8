-- With what a part of a sort begins, what may continue it, and the levels of operators.
use Rattle.bz_grammar.proofs.Words.{[], ◌&&◌, ◌++◌, ◌+◌, ◌-◌, ◌∙◌, ◌∷◌, ◌≡◌, ◌≤◌, ◌⊎◌, alt, and_from, and_parts, ap, argument, arith, assigns, Bool, both_ways, by_shape, bzl_shape, cases_lt, clause, depth_part, done, each, entry, eqb, eqb-true, equals, false, first, first_clause, first_of, Fits, fits_in, infix_at, inl, inr, is_expression, Kind, Kind as k, kind_at, le-leb, Leaf, leaves_at, leaves_part, leb, leb-true, level, line, List, list, loaded, name, Node, node_part, none, Nonterminal, nonterminal_has_kind, not, not-true, open_curly, open_round, open_square, own_token, param, Part, prefix_at, rank, Read, refl, Shape, shape_at, simple, small, starts, starts_level, starts_with, stmt, string, sub, suc, suc-add, suffix_plan, suite, Terminal, times, tok, true, zero, zero-add, ℕ}
use Rattle.bz_grammar.specs.declared.tree.Part.TheVariants as v
use Rattle.bz_grammar.proofs.{Nested.leaf_or_node, Spells.leaves_Node, Spells.depth_Node, Terminals.disjoint, Terminals.disjoint_at, Terminals.subset, Terminals.subset_at, Terminals.starts-append_left, Terminals.starts-append_right, Terminals.stops_right, Exact.Exact, Shapes.nullable, Shapes.go, Shapes.by_table, Shapes.is_deterministic, Shapes.not_empty, Shapes.run_exact, Trees.At, Trees.legal_node, Trees.node_fits, Nodes.exact_like, Nodes.Begun, Nodes.Wrapped, Nodes.infix_exact, Nodes.prefix_exact}

-- ---- with what a part begins

-- more levels, more tokens
up_by : (m k : ℕ) (ts : List Leaf) → starts_with (starts_level m) ts ≡ true → starts_with (starts_level (k + m)) ts ≡ true
up_by m zero ts h = rw zero-add h
up_by m (suc k) ts h = rw suc-add (starts-append_right (own_token (shape_at (k + m))) (starts_level (k + m)) ts (up_by m k ts h))

up_to : (m n : ℕ) (ts : List Leaf) → m ≤ n → starts_with (starts_level m) ts ≡ true → starts_with (starts_level n) ts ≡ true
up_to m n ts le h = let e : n ≡ (n - m) + m = omega arith in rw e (up_by m (n - m) ts h)

abbrev pub no : {A : Type 0} → false ≡ true → A
no e = absurd (both_ways false refl e)

own_first : (kind : Kind) → is_expression kind ≡ true → subset (first (bzl_shape kind)) (starts_level (rank kind)) ≡ true
own_first k.File e = no e
own_first k.Line e = no e
own_first k.Bare e = no e
own_first k.Assign e = no e
own_first k.Load e = no e
own_first k.Alias e = no e
own_first k.Named e = no e
own_first k.Star e = no e
own_first k.Entry e = no e
own_first k.For e = no e
own_first k.If e = no e
own_first k.Def e = no e
own_first k.Param e = no e
own_first k.IfStmt e = no e
own_first k.ForStmt e = no e
own_first k.Suite e = no e
own_first k.Return e = no e
own_first k.Flow e = no e
own_first _ e = refl

full_expression : (kind : Kind) → is_expression kind ≡ true → nullable (bzl_shape kind) ≡ false
full_expression k.File e = no e
full_expression k.Bare e = refl
full_expression _ e = refl

-- what is in a node of a kind that a sort has begins as the sort does
nonterminal_first : (q : Nonterminal) (kind : Kind) (ts : List Leaf) → nonterminal_has_kind q kind ≡ true → starts_with (first (bzl_shape kind)) ts ≡ true → starts_with (starts q) ts ≡ true
nonterminal_first (level n) kind ts e h =
    let w = and_parts (is_expression kind) (leb (rank kind) n) e in
    up_to (rank kind) n ts (leb-true (rank kind) n w.1) (subset_at (first (bzl_shape kind)) (starts_level (rank kind)) ts (own_first kind w.0) h)
nonterminal_first argument k.Named ts e h = subset_at (first (bzl_shape k.Named)) (starts argument) ts refl h
nonterminal_first argument k.Star ts e h = subset_at (first (bzl_shape k.Star)) (starts argument) ts refl h
nonterminal_first argument k.File ts e h = no e
nonterminal_first argument k.Line ts e h = no e
nonterminal_first argument k.Bare ts e h = no e
nonterminal_first argument k.Assign ts e h = no e
nonterminal_first argument k.Load ts e h = no e
nonterminal_first argument k.Alias ts e h = no e
nonterminal_first argument k.Entry ts e h = no e
nonterminal_first argument k.For ts e h = no e
nonterminal_first argument k.If ts e h = no e
nonterminal_first argument k.Row ts e h = no e
nonterminal_first argument k.Def ts e h = no e
nonterminal_first argument k.Param ts e h = no e
nonterminal_first argument k.IfStmt ts e h = no e
nonterminal_first argument k.ForStmt ts e h = no e
nonterminal_first argument k.Suite ts e h = no e
nonterminal_first argument k.Return ts e h = no e
nonterminal_first argument k.Flow ts e h = no e
nonterminal_first argument kind ts e h = subset_at (first (bzl_shape kind)) (starts argument) ts refl h
nonterminal_first entry k.Entry ts e h = h
nonterminal_first entry kind ts e h = no e
nonterminal_first clause k.For ts e h = subset_at (first (bzl_shape k.For)) (starts clause) ts refl h
nonterminal_first clause k.If ts e h = subset_at (first (bzl_shape k.If)) (starts clause) ts refl h
nonterminal_first clause kind ts e h = no e
nonterminal_first first_clause k.For ts e h = h
nonterminal_first first_clause kind ts e h = no e
nonterminal_first loaded k.Alias ts e h = subset_at (first (bzl_shape k.Alias)) (starts loaded) ts refl h
nonterminal_first loaded kind ts e h = no e
nonterminal_first small k.Bare ts e h = subset_at (first (bzl_shape k.Bare)) (starts small) ts refl h
nonterminal_first small k.Assign ts e h = subset_at (first (bzl_shape k.Assign)) (starts small) ts refl h
nonterminal_first small k.Load ts e h = subset_at (first (bzl_shape k.Load)) (starts small) ts refl h
nonterminal_first small k.Return ts e h = subset_at (first (bzl_shape k.Return)) (starts small) ts refl h
nonterminal_first small k.Flow ts e h = subset_at (first (bzl_shape k.Flow)) (starts small) ts refl h
nonterminal_first small kind ts e h = no e
nonterminal_first line k.Line ts e h = h
nonterminal_first line kind ts e h = no e
nonterminal_first param k.Param ts e h = subset_at (first (bzl_shape k.Param)) (starts param) ts refl h
nonterminal_first param kind ts e h = no e
nonterminal_first stmt k.Line ts e h = subset_at (first (bzl_shape k.Line)) (starts stmt) ts refl h
nonterminal_first stmt k.Def ts e h = subset_at (first (bzl_shape k.Def)) (starts stmt) ts refl h
nonterminal_first stmt k.IfStmt ts e h = subset_at (first (bzl_shape k.IfStmt)) (starts stmt) ts refl h
nonterminal_first stmt k.ForStmt ts e h = subset_at (first (bzl_shape k.ForStmt)) (starts stmt) ts refl h
nonterminal_first stmt kind ts e h = no e
nonterminal_first suite k.Suite ts e h = subset_at (first (bzl_shape k.Suite)) (starts suite) ts refl h
nonterminal_first suite k.Line ts e h = subset_at (first (bzl_shape k.Line)) (starts suite) ts refl h
nonterminal_first suite kind ts e h = no e

-- only a File may be empty, which no sort has
full_kind : (q : Nonterminal) (kind : Kind) → nonterminal_has_kind q kind ≡ true → nullable (bzl_shape kind) ≡ false
full_kind (level n) k.File e = no e
full_kind argument k.File e = no e
full_kind entry k.File e = no e
full_kind clause k.File e = no e
full_kind first_clause k.File e = no e
full_kind loaded k.File e = no e
full_kind small k.File e = no e
full_kind line k.File e = no e
full_kind param k.File e = no e
full_kind stmt k.File e = no e
full_kind suite k.File e = no e
full_kind q kind e = refl

leaf_first : (q : Nonterminal) (l : Leaf) (rest : List Leaf) → starts_with (leaves_at q) (l ∷ rest) ≡ true → starts_with (starts q) (l ∷ rest) ≡ true
leaf_first (level n) l rest h = up_to 0 n (l ∷ rest) (omega arith) (starts-append_left simple (open_round ++ (open_square ++ open_curly)) (l ∷ rest) h)
leaf_first argument l rest h = subset_at simple (starts argument) (l ∷ rest) refl h
leaf_first loaded l rest h = subset_at string (starts loaded) (l ∷ rest) refl h
leaf_first entry l rest h = no h
leaf_first clause l rest h = no h
leaf_first first_clause l rest h = no h
leaf_first small l rest h = no h
leaf_first line l rest h = no h
leaf_first param l rest h = subset_at name (starts param) (l ∷ rest) refl h
leaf_first stmt l rest h = no h
leaf_first suite l rest h = no h

pub no_node : (q : Nonterminal) (n : Node) → At 0 q (v.Node n) → ⊥
no_node q n h = omega (arith, h.2, depth_Node n)

pub begins : (d : ℕ) (q : Nonterminal) (x : Part) (rest : List Leaf) → At d q x → starts_with (starts q) (leaves_part x ++ rest) ≡ true
begins zero q x rest h =
    elim (leaf_or_node x) [
      | inl (l, is) ↦ rw is (let g : At zero q (v.Leaf l) = rw is at h in leaf_first q l rest g.0)
      | inr (n, is) ↦ absurd (no_node q n (rw is at h))
    ]
begins (suc d) q x rest h =
    elim (leaf_or_node x) [
      | inl (l, is) ↦ rw is (let g : At (suc d) q (v.Leaf l) = rw is at h in leaf_first q l rest g.0)
      | inr (n, is) ↦
          let h' : At (suc d) q (v.Node n) = rw is at h in
          let f = node_fits d q n h' in
          rw is (nonterminal_first q n.kind (leaves_part (v.Node n) ++ rest) h'.0 (rw leaves_Node (not_empty (At d) (begins d) (bzl_shape n.kind) n.parts rest f (full_kind q n.kind h'.0))))
    ]

-- ---- what may continue a part

abbrev pub tail_of : Shape → Shape
tail_of (sub q r) = r
tail_of _ = done

abbrev pub goes_level : ℕ → List Terminal
goes_level zero = first_of suffix_plan
goes_level (suc n) = first (tail_of (shape_at n)) ++ goes_level n

abbrev pub goes : Nonterminal → List Terminal
goes (level n) = goes_level n
goes argument = equals ++ goes_level 13
goes entry = goes_level 13
goes clause = goes_level 11
goes first_clause = goes_level 11
goes loaded = []
goes small = assigns ++ (starts_level 14 ++ goes_level 14)
goes line = []
goes param = equals ++ (name ++ goes_level 13)
goes stmt = []
goes suite = []

-- the conditions on a level's shape
abbrev pub fine : ℕ → Shape → Bool
fine n (tok s r) = disjoint (starts_level n) s && (is_deterministic goes r && (subset (go goes r) (goes_level (suc n)) && subset (goes_level n) (goes_level (suc n))))
fine n (sub (level m) r) =
    eqb m n && (disjoint (first r) (goes_level n) && (not (nullable r) && (is_deterministic goes r && (subset (go goes r) (goes_level (suc n)) && (subset (first r) (goes_level (suc n)) && subset (goes_level n) (goes_level (suc n)))))))
fine n done = true
fine n _ = false

pub levels_fine : (n : ℕ) → fine n (shape_at n) ≡ true
levels_fine zero = refl
levels_fine (suc zero) = refl
levels_fine (suc (suc zero)) = refl
levels_fine (suc (suc (suc zero))) = refl
levels_fine (suc (suc (suc (suc zero)))) = refl
levels_fine (suc (suc (suc (suc (suc zero))))) = refl
levels_fine (suc (suc (suc (suc (suc (suc zero)))))) = refl
levels_fine (suc (suc (suc (suc (suc (suc (suc zero))))))) = refl
levels_fine (suc (suc (suc (suc (suc (suc (suc (suc zero)))))))) = refl
levels_fine (suc (suc (suc (suc (suc (suc (suc (suc (suc zero))))))))) = refl
levels_fine (suc (suc (suc (suc (suc (suc (suc (suc (suc (suc zero)))))))))) = refl
levels_fine (suc (suc (suc (suc (suc (suc (suc (suc (suc (suc (suc zero))))))))))) = refl
levels_fine (suc (suc (suc (suc (suc (suc (suc (suc (suc (suc (suc (suc zero)))))))))))) = refl
levels_fine (suc (suc (suc (suc (suc (suc (suc (suc (suc (suc (suc (suc (suc zero))))))))))))) = refl
levels_fine (suc (suc (suc (suc (suc (suc (suc (suc (suc (suc (suc (suc (suc (suc n)))))))))))))) = refl

-- ---- one level above another

pub level_up : (d n : ℕ) (x : Part) → At d (level n) x → At d (level (suc n)) x
level_up d n x h =
    elim (leaf_or_node x) [
      | inl (l, is) ↦ rw is (let g : At d (level n) (v.Leaf l) = rw is at h in g)
      | inr (m, is) ↦ rw is (node_up d n m (rw is at h))
    ]
  where
    node_up : (d n : ℕ) (m : Node) → At d (level n) (v.Node m) → At d (level (suc n)) (v.Node m)
    node_up d n m h =
        let s = and_parts (is_expression m.kind) (leb (rank m.kind) n) h.0 in
        (and_from (is_expression m.kind) (leb (rank m.kind) (suc n)) s.0 (le-leb (rank m.kind) (suc n) (omega (arith, leb-true (rank m.kind) n s.1))), h.1, h.2)

kind_of_rank : (kind : Kind) (n : ℕ) → is_expression kind ≡ true → rank kind ≡ suc n → (kind ≡ kind_at n) × (shape_at n ≡ bzl_shape kind)
kind_of_rank k.Unary n x e = let z : n ≡ 0 = omega arith in rw z (refl, refl)
kind_of_rank k.Product n x e = let z : n ≡ 1 = omega arith in rw z (refl, refl)
kind_of_rank k.Sum n x e = let z : n ≡ 2 = omega arith in rw z (refl, refl)
kind_of_rank k.Shift n x e = let z : n ≡ 3 = omega arith in rw z (refl, refl)
kind_of_rank k.BitAnd n x e = let z : n ≡ 4 = omega arith in rw z (refl, refl)
kind_of_rank k.Xor n x e = let z : n ≡ 5 = omega arith in rw z (refl, refl)
kind_of_rank k.BitOr n x e = let z : n ≡ 6 = omega arith in rw z (refl, refl)
kind_of_rank k.Compare n x e = let z : n ≡ 7 = omega arith in rw z (refl, refl)
kind_of_rank k.Not n x e = let z : n ≡ 8 = omega arith in rw z (refl, refl)
kind_of_rank k.And n x e = let z : n ≡ 9 = omega arith in rw z (refl, refl)
kind_of_rank k.Or n x e = let z : n ≡ 10 = omega arith in rw z (refl, refl)
kind_of_rank k.Cond n x e = let z : n ≡ 11 = omega arith in rw z (refl, refl)
kind_of_rank k.Lambda n x e = let z : n ≡ 12 = omega arith in rw z (refl, refl)
kind_of_rank k.Row n x e = let z : n ≡ 13 = omega arith in rw z (refl, refl)
kind_of_rank _ n x e = absurd (omega arith)

abbrev AtNode : ℕ → ℕ → Part → Type 0
AtNode d n x = (nullable (shape_at n) ≡ false) × Wrapped (kind_at n) (Fits (At d) (shape_at n)) x

node_split : (d n : ℕ) (m : Node) → At (suc d) (level (suc n)) (v.Node m) → At (suc d) (level n) (v.Node m) ⊎ AtNode d n (v.Node m)
node_split d n m h =
    let s = and_parts (is_expression m.kind) (leb (rank m.kind) (suc n)) h.0 in
    elim (cases_lt (rank m.kind) (suc n)) [
      | inl lt ↦ inl (and_from (is_expression m.kind) (leb (rank m.kind) n) s.0 (le-leb (rank m.kind) n (omega arith)), h.1, h.2)
      | inr ge ↦
          let e : rank m.kind ≡ suc n = omega (arith, leb-true (rank m.kind) (suc n) s.1) in
          let w = kind_of_rank m.kind n s.0 e in
          inr (rw w.1 (full_expression m.kind s.0), (m.parts, ap (λ (kind : Kind). node_part kind m.parts) w.0, rw w.1 (node_fits d (level (suc n)) m h)))
    ]

pub level_split : (d n : ℕ) (x : Part) → At (suc d) (level (suc n)) x → At (suc d) (level n) x ⊎ AtNode d n x
level_split d n x h =
    elim (leaf_or_node x) [
      | inl (l, is) ↦ rw is (let g : At (suc d) (level (suc n)) (v.Leaf l) = rw is at h in inl g)
      | inr (m, is) ↦ rw is (node_split d n m (rw is at h))
    ]

rank_of_kind : (n : ℕ) → nullable (shape_at n) ≡ false → (is_expression (kind_at n) ≡ true) × (rank (kind_at n) ≡ suc n) × (shape_at n ≡ bzl_shape (kind_at n))
rank_of_kind zero h = (refl, refl, refl)
rank_of_kind (suc zero) h = (refl, refl, refl)
rank_of_kind (suc (suc zero)) h = (refl, refl, refl)
rank_of_kind (suc (suc (suc zero))) h = (refl, refl, refl)
rank_of_kind (suc (suc (suc (suc zero)))) h = (refl, refl, refl)
rank_of_kind (suc (suc (suc (suc (suc zero))))) h = (refl, refl, refl)
rank_of_kind (suc (suc (suc (suc (suc (suc zero)))))) h = (refl, refl, refl)
rank_of_kind (suc (suc (suc (suc (suc (suc (suc zero))))))) h = (refl, refl, refl)
rank_of_kind (suc (suc (suc (suc (suc (suc (suc (suc zero)))))))) h = (refl, refl, refl)
rank_of_kind (suc (suc (suc (suc (suc (suc (suc (suc (suc zero))))))))) h = (refl, refl, refl)
rank_of_kind (suc (suc (suc (suc (suc (suc (suc (suc (suc (suc zero)))))))))) h = (refl, refl, refl)
rank_of_kind (suc (suc (suc (suc (suc (suc (suc (suc (suc (suc (suc zero))))))))))) h = (refl, refl, refl)
rank_of_kind (suc (suc (suc (suc (suc (suc (suc (suc (suc (suc (suc (suc zero)))))))))))) h = (refl, refl, refl)
rank_of_kind (suc (suc (suc (suc (suc (suc (suc (suc (suc (suc (suc (suc (suc zero))))))))))))) h = (refl, refl, refl)
rank_of_kind (suc (suc (suc (suc (suc (suc (suc (suc (suc (suc (suc (suc (suc (suc n)))))))))))))) h = absurd (both_ways true h refl)

pub made_node : (d : ℕ) (q : Nonterminal) (kind : Kind) (ps : List Part) → nonterminal_has_kind q kind ≡ true → Fits (At d) (bzl_shape kind) ps → At (suc d) q (node_part kind ps)
made_node d q kind ps s h = let n : Node = record { kind = kind; parts = ps } in legal_node d q n s h

pub level_node : (d n : ℕ) (ps : List Part) → nullable (shape_at n) ≡ false → Fits (At d) (shape_at n) ps → At (suc d) (level (suc n)) (node_part (kind_at n) ps)
level_node d n ps z h =
    let w = rank_of_kind n z in
    made_node d (level (suc n)) (kind_at n) ps (and_from (is_expression (kind_at n)) (leb (rank (kind_at n)) (suc n)) w.0 (le-leb (rank (kind_at n)) (suc n) (omega (arith, w.1)))) (rw (← w.2) h)

abbrev pub BegunAt : ℕ → ℕ → Shape → Part → Type 0
BegunAt d n r x = Begun (kind_at n) (fits_in d) (At (suc d) (level n)) (Fits (At d) r) x

level_join : (d n : ℕ) (r : Shape) → shape_at n ≡ sub (level n) r → (x : Part) → (At (suc d) (level n) x ⊎ BegunAt d n r x) → At (suc d) (level (suc n)) x
level_join d n r e x (inl a) = level_up (suc d) n x a
level_join d n r e x (inr (a, ps, is, h, l, t)) = rw is (level_node d n (a ∷ ps) (ap nullable e) (rw e ((h.0, h.1, leb-true (depth_part a) d l), t)))

level_begun : (d n : ℕ) (r : Shape) (x : Part) (ps : List Part) → x ≡ node_part (kind_at n) ps → Fits (At d) (sub (level n) r) ps → BegunAt d n r x
level_begun d n r x [] is h = absurd h
level_begun d n r x (a ∷ ps) is h = (a, ps, is, (h.0.0, h.0.1, omega (arith, h.0.2)), le-leb (depth_part a) d h.0.2, h.1)

module _ (d : ℕ) (inner : Nonterminal → Read Part) (exact : (q : Nonterminal) → by_table q ≡ true → Exact Part leaves_part (At d q) (goes q) (inner q)) where
  abbrev Level : ℕ → Read Part → Type 0
  Level n next = Exact Part leaves_part (At (suc d) (level n)) (goes_level n) next

  level_infix : (n : ℕ) (r : Shape) (next : Read Part) → shape_at n ≡ sub (level n) r
      → (disjoint (first r) (goes_level n) && (not (nullable r) && (is_deterministic goes r && (subset (go goes r) (goes_level (suc n)) && (subset (first r) (goes_level (suc n)) && subset (goes_level n) (goes_level (suc n))))))) ≡ true
      → Level n next → Level (suc n) (infix_at (kind_at n) (fits_in d) r inner next)
  level_infix n r next e f x =
      let f1 = and_parts (disjoint (first r) (goes_level n)) _ f in
      let f2 = and_parts (not (nullable r)) _ f1.1 in
      let f3 = and_parts (is_deterministic goes r) _ f2.1 in
      let f4 = and_parts (subset (go goes r) (goes_level (suc n))) _ f3.1 in
      let f5 = and_parts (subset (first r) (goes_level (suc n))) (subset (goes_level n) (goes_level (suc n))) f4.1 in
      let T = Fits (At d) r in
      let xT = run_exact (At d) (begins d) goes inner exact r f3.0 in
      exact_like leaves_part (λ y. At (suc d) (level n) y ⊎ BegunAt d n r y) (At (suc d) (level (suc n))) (goes_level (suc n)) (infix_at (kind_at n) (fits_in d) r inner next)
      (λ y h. level_join d n r e y h)
      (λ y h. elim (level_split d n y h) [ inl a ↦ inl a | inr w ↦ inr (level_begun d n r y w.1.0 w.1.1 (rw e at w.1.2)) ])
      (infix_exact (kind_at n) (fits_in d) r inner next (At (suc d) (level n)) T (goes_level n) (go goes r) (goes_level (suc n)) x xT
      (λ ps rest h. not_empty (At d) (begins d) r ps rest h (not-true (nullable r) f2.0)) f1.0 f5.1 f4.0 f5.0)

  level_prefix : (n : ℕ) (s : List Terminal) (r : Shape) (next : Read Part) → shape_at n ≡ tok s r
      → (disjoint (starts_level n) s && (is_deterministic goes r && (subset (go goes r) (goes_level (suc n)) && subset (goes_level n) (goes_level (suc n))))) ≡ true
      → Level n next → Level (suc n) (prefix_at (kind_at n) (tok s r) inner next)
  level_prefix n s r next e f x =
      let f1 = and_parts (disjoint (starts_level n) s) _ f in
      let f2 = and_parts (is_deterministic goes r) _ f1.1 in
      let f3 = and_parts (subset (go goes r) (goes_level (suc n))) (subset (goes_level n) (goes_level (suc n))) f2.1 in
      let T = Fits (At d) (tok s r) in
      let xT = run_exact (At d) (begins d) goes inner exact (tok s r) f2.0 in
      exact_like leaves_part (λ y. At (suc d) (level n) y ⊎ Wrapped (kind_at n) T y) (At (suc d) (level (suc n))) (goes_level (suc n)) (prefix_at (kind_at n) (tok s r) inner next)
      (λ y h. elim (h) [ inl a ↦ level_up (suc d) n y a | inr w ↦ rw w.1 (level_node d n w.0 (ap nullable e) (rw e w.2)) ])
      (λ y h. elim (level_split d n y h) [ inl a ↦ inl a | inr w ↦ inr (w.1.0, w.1.1, rw e at w.1.2) ])
      (prefix_exact (kind_at n) (tok s r) inner next (At (suc d) (level n)) T (goes_level n) (go goes r) (goes_level (suc n)) x xT
      (λ ps rest h. not_empty (At d) (begins d) (tok s r) ps rest h refl)
      (λ y rest h. disjoint_at (starts_level n) s (leaves_part y ++ rest) f1.0 (begins (suc d) (level n) y rest h)) f3.1 f3.0)

  pub level_by : (n : ℕ) (s : Shape) (next : Read Part) → shape_at n ≡ s → fine n s ≡ true → Level n next → Level (suc n) (by_shape (kind_at n) d s inner next)
  level_by n done next e f x =
      exact_like leaves_part (At (suc d) (level n)) (At (suc d) (level (suc n))) (goes_level (suc n)) next (λ y h. level_up (suc d) n y h)
      (λ y h. elim (level_split d n y h) [ inl a ↦ a | inr w ↦ absurd (both_ways (nullable (shape_at n)) w.0 (ap nullable e)) ])
      (record { sound = x.sound; complete = λ y rest h st. x.complete y rest h (stops_right (first (tail_of (shape_at n))) (goes_level n) rest st) })
  level_by n (tok s r) next e f x = level_prefix n s r next e f x
  level_by n (sub (level m) r) next e f x =
      let w = and_parts (eqb m n) _ f in
      level_infix n r next (e ∙ ap (λ (i : ℕ). sub (level i) r) (eqb-true m n w.0)) w.1 x
  level_by n none next e f x = no f
  level_by n (sub argument r) next e f x = no f
  level_by n (sub entry r) next e f x = no f
  level_by n (sub clause r) next e f x = no f
  level_by n (sub first_clause r) next e f x = no f
  level_by n (sub loaded r) next e f x = no f
  level_by n (sub small r) next e f x = no f
  level_by n (sub line r) next e f x = no f
  level_by n (sub param r) next e f x = no f
  level_by n (sub stmt r) next e f x = no f
  level_by n (sub suite r) next e f x = no f
  level_by n (alt l r) next e f x = no f
  level_by n (list q sep last r) next e f x = no f
  level_by n (each q r) next e f x = no f
  level_by n (times group r) next e f x = no f
