-- Reading a part of each sort is exact.
use Rattle.bz_grammar.proofs.Words.{[], ◌++◌, ◌∙◌, ◌∷◌, ◌≡◌, ◌⊎◌, ap, append_assoc, argument, arith, both_ways, bzl_shape, clause, clause_plan, climb, entry, false, first, first_clause, Fits, follow, has_token, infix_at, inl, inr, is_one_of, Kind, Kind as k, Leaf, leaves_at, leaves_part, level, line, List, loaded, name, named_tail, Node, node_part, Nonterminal, nonterminal_has_kind, param, param_tail, Part, prefix_at, Read, read_argument, read_param, reading, refl, run, shape_at, simple, small, small_plan, Some, starred, starts_level, starts_with, stmt, string, suc, suite, test, token_part, true, wrap, wrap_found, zero, ℕ}
use Rattle.bz_grammar.specs.declared.tree.Part.TheVariants as v
use Rattle.bz_grammar.proofs.{Nested.leaf_or_node, Terminals.disjoint_at, Terminals.subset, Terminals.subset-one_of, Exact.all_leaves, Exact.token_leaf, Exact.Exact, Shapes.go, Shapes.by_table, Shapes.is_deterministic, Shapes.not_empty, Shapes.run_exact, Plans.Finds, Plans.plan_exact, Plans.go_on, Nodes.node_leaves, Nodes.exact_like, Nodes.exact_within, Nodes.Begun, Nodes.Wrapped, Nodes.IsLeaf, Nodes.token_exact, Nodes.leaf_starts, Nodes.infix_exact, Nodes.prefix_exact, Nodes.wrapped_exact, Trees.At, Trees.node_fits, Levels.no, Levels.no_node, Levels.begins, Levels.goes, Levels.goes_level, Levels.level_by, Levels.levels_fine, Levels.made_node, Families.made_at, Families.made_exact, Families.clause_agrees, Families.small_agrees, Families.finds_clause, Families.finds_small, Primary.primary_exact, Primary.starts_none}

-- a part of a sort, at a leaf or a node
by_part : (d : ℕ) (q : Nonterminal) (x : Part) → At d q x → (IsLeaf (leaves_at q) x) ⊎ ((n : Node) × (x ≡ v.Node n) × At d q (v.Node n))
by_part d q x h =
    elim (leaf_or_node x) [
      | inl (l, is) ↦ let g : At d q (v.Leaf l) = rw is at h in inl (l, is, g.0)
      | inr (n, is) ↦ inr (n, is, rw is at h)
    ]

leaf_part : (d : ℕ) (q : Nonterminal) (x : Part) → IsLeaf (leaves_at q) x → At d q x
leaf_part d q x (l, is, h) = rw is (h, tt, omega arith)

-- ---- arguments

abbrev IsTest : ℕ → Part → Type 0
IsTest d x = At (suc d) test x

abbrev IsNamed : ℕ → Part → Type 0
IsNamed d x = Begun k.Named (has_token name) (At (suc d) test) (Fits (At d) named_tail) x

abbrev Argument : ℕ → Part → Type 0
Argument d x = (IsTest d x ⊎ IsNamed d x) ⊎ Wrapped k.Star (Fits (At d) (bzl_shape k.Star)) x

test_kind : (kind : Kind) → nonterminal_has_kind test kind ≡ true → nonterminal_has_kind argument kind ≡ true
test_kind k.File e = no e
test_kind k.Line e = no e
test_kind k.Bare e = no e
test_kind k.Assign e = no e
test_kind k.Load e = no e
test_kind k.Alias e = no e
test_kind k.Named e = no e
test_kind k.Star e = no e
test_kind k.Entry e = no e
test_kind k.For e = no e
test_kind k.If e = no e
test_kind k.Row e = no e
test_kind k.Def e = no e
test_kind k.Param e = no e
test_kind k.IfStmt e = no e
test_kind k.ForStmt e = no e
test_kind k.Suite e = no e
test_kind k.Return e = no e
test_kind k.Flow e = no e
test_kind kind e = refl

test_argument : (d : ℕ) (x : Part) → At d test x → At d argument x
test_argument d x h =
    elim (by_part d test x h) [
      | inl l ↦ leaf_part d argument x l
      | inr (n, is, g) ↦ rw is (test_kind n.kind g.0, g.1, g.2)
    ]

named_row : (d : ℕ) (a : Part) (ps : List Part) → has_token name a ≡ true → Fits (At d) named_tail ps → Fits (At d) (bzl_shape k.Named) (a ∷ ps)
named_row d a ps m t = (m, t)

argument_is : (d : ℕ) (x : Part) → Argument d x → At (suc d) argument x
argument_is d x (inl (inl h)) = test_argument (suc d) x h
argument_is d x (inl (inr (a, ps, e, h, m, t))) = rw e (made_node d argument k.Named (a ∷ ps) refl (named_row d a ps m t))
argument_is d x (inr (ps, e, t)) = rw e (made_node d argument k.Star ps refl t)

name_test : (d : ℕ) (a : Part) → has_token name a ≡ true → At d test a
name_test d a h =
    elim (leaf_or_node a) [
      | inl (l, is) ↦ rw is (let g : is_one_of name l ≡ true = rw is at h in (subset-one_of l name simple refl g, tt, omega arith))
      | inr (n, is) ↦ let g : false ≡ true = rw is at h in no g
    ]

named_begun : (d : ℕ) (ps : List Part) → Fits (At d) (bzl_shape k.Named) ps → IsNamed d (node_part k.Named ps)
named_begun d [] h = absurd h
named_begun d (a ∷ ps) h = (a, ps, refl, name_test (suc d) a h.0, h.0, h.1)

argument_node : (d : ℕ) (kind : Kind) (ps : List Part) → At (suc d) argument (node_part kind ps) → Argument d (node_part kind ps)
argument_node d k.Named ps h = inl (inr (named_begun d ps (node_fits d argument (record { kind = k.Named; parts = ps }) h)))
argument_node d k.Star ps h = inr (ps, refl, node_fits d argument (record { kind = k.Star; parts = ps }) h)
argument_node d k.File ps h = no h.0
argument_node d k.Line ps h = no h.0
argument_node d k.Bare ps h = no h.0
argument_node d k.Assign ps h = no h.0
argument_node d k.Load ps h = no h.0
argument_node d k.Alias ps h = no h.0
argument_node d k.Entry ps h = no h.0
argument_node d k.For ps h = no h.0
argument_node d k.If ps h = no h.0
argument_node d k.Row ps h = no h.0
argument_node d k.Def ps h = no h.0
argument_node d k.Param ps h = no h.0
argument_node d k.IfStmt ps h = no h.0
argument_node d k.ForStmt ps h = no h.0
argument_node d k.Suite ps h = no h.0
argument_node d k.Return ps h = no h.0
argument_node d k.Flow ps h = no h.0
argument_node d kind ps h = inl (inl (refl, h.1, h.2))

argument_from : (d : ℕ) (x : Part) → At (suc d) argument x → Argument d x
argument_from d x h =
    elim (by_part (suc d) argument x h) [
      | inl l ↦ inl (inl (leaf_part (suc d) test x l))
      | inr (n, is, g) ↦ rw is (argument_node d n.kind n.parts g)
    ]

no_star : (d : ℕ) (x : Part) (rest : List Leaf) → (IsTest d x ⊎ IsNamed d x) → starts_with (starts_level 13) (leaves_part x ++ rest) ≡ true
no_star d x rest (inl h) = begins (suc d) test x rest h
no_star d x rest (inr (a, ps, e, h, m, t)) =
    rw e (ap (λ (u : List Leaf). starts_with (starts_level 13) (u ++ rest)) (node_leaves k.Named (a ∷ ps)) ∙ ap (starts_with (starts_level 13)) (append_assoc (leaves_part a) (all_leaves ps) rest) ∙ begins (suc d) test a (all_leaves ps ++ rest) h)

-- ---- nodes of one kind

-- a sort that one kind has, and no leaf
one_kind : (d : ℕ) (q : Nonterminal) (kind : Kind) (x : Part) → ((l : Leaf) → is_one_of (leaves_at q) l ≡ false) → ((other : Kind) → nonterminal_has_kind q other ≡ true → other ≡ kind) → At (suc d) q x → Wrapped kind (Fits (At d) (bzl_shape kind)) x
one_kind d q kind x no_leaf only h =
    elim (by_part (suc d) q x h) [
      | inl l ↦ absurd (both_ways (is_one_of (leaves_at q) l.0) (no_leaf l.0) l.2)
      | inr (n, is, g) ↦
          let e = only n.kind g.0 in
          (n.parts, is ∙ ap (λ (other : Kind). node_part other n.parts) e, rw e at (node_fits d q n g))
    ]

wrapped_at : (d : ℕ) (q : Nonterminal) (kind : Kind) (x : Part) → nonterminal_has_kind q kind ≡ true → Wrapped kind (Fits (At d) (bzl_shape kind)) x → At (suc d) q x
wrapped_at d q kind x e h = rw h.1 (made_node d q kind h.0 e h.2)

only_entry : (other : Kind) → nonterminal_has_kind entry other ≡ true → other ≡ k.Entry
only_entry k.Entry e = refl
only_entry other e = no e

only_for : (other : Kind) → nonterminal_has_kind first_clause other ≡ true → other ≡ k.For
only_for k.For e = refl
only_for other e = no e

only_alias : (other : Kind) → nonterminal_has_kind loaded other ≡ true → other ≡ k.Alias
only_alias k.Alias e = refl
only_alias other e = no e

only_param : (other : Kind) → nonterminal_has_kind param other ≡ true → other ≡ k.Param
only_param k.Param e = refl
only_param other e = no e

only_line : (other : Kind) → nonterminal_has_kind line other ≡ true → other ≡ k.Line
only_line k.Line e = refl
only_line other e = no e

module _ (d : ℕ) (inner : Nonterminal → Read Part) (exact : (q : Nonterminal) → by_table q ≡ true → Exact Part leaves_part (At d q) (goes q) (inner q)) where
  climb_exact : (n : ℕ) → Exact Part leaves_part (At (suc d) (level n)) (goes_level n) (climb d inner n)
  climb_exact zero = primary_exact d inner exact
  climb_exact (suc n) = level_by d inner exact n (shape_at n) (climb d inner n) refl (levels_fine n) (climb_exact n)

  argument_exact : Exact Part leaves_part (At (suc d) argument) (goes argument) (read_argument (climb d inner 13) inner)
  argument_exact =
      let tail = run_exact (At d) (begins d) goes inner exact named_tail refl in
      let star = run_exact (At d) (begins d) goes inner exact (bzl_shape k.Star) refl in
      let named = infix_exact k.Named (has_token name) named_tail inner (climb d inner 13) (At (suc d) test) (Fits (At d) named_tail) (goes_level 13) (go goes named_tail) (goes argument) (climb_exact 13)
      tail (λ ps rest h. not_empty (At d) (begins d) named_tail ps rest h refl) refl refl refl refl in
      exact_like leaves_part (Argument d) (At (suc d) argument) (goes argument) (read_argument (climb d inner 13) inner) (argument_is d) (argument_from d)
      (prefix_exact k.Star (bzl_shape k.Star) inner (infix_at k.Named (has_token name) named_tail inner (climb d inner 13)) (λ x. IsTest d x ⊎ IsNamed d x) (Fits (At d) (bzl_shape k.Star)) (goes argument) (go goes (bzl_shape k.Star)) (goes argument) named
      star (λ ps rest h. not_empty (At d) (begins d) (bzl_shape k.Star) ps rest h refl)
      (λ x rest h. disjoint_at (starts_level 13) (first (bzl_shape k.Star)) (leaves_part x ++ rest) refl (no_star d x rest h)) refl refl)

  -- a sort that one kind has is read by the kind's shape
  kind_exact : (q : Nonterminal) (kind : Kind) → is_deterministic goes (bzl_shape kind) ≡ true → subset (go goes (bzl_shape kind)) (goes q) ≡ true → nonterminal_has_kind q kind ≡ true → ((l : Leaf) → is_one_of (leaves_at q) l ≡ false) → ((other : Kind) → nonterminal_has_kind q other ≡ true → other ≡ kind)
      → Exact Part leaves_part (At (suc d) q) (goes q) (λ ts. wrap kind (run inner (bzl_shape kind) ts))
  kind_exact q kind ok within e no_leaf only =
      exact_like leaves_part (Wrapped kind (Fits (At d) (bzl_shape kind))) (At (suc d) q) (goes q) (λ ts. wrap kind (run inner (bzl_shape kind) ts)) (λ x h. wrapped_at d q kind x e h) (λ x h. one_kind d q kind x no_leaf only h)
      (exact_within leaves_part (Wrapped kind (Fits (At d) (bzl_shape kind))) (go goes (bzl_shape kind)) (goes q) (λ ts. wrap kind (run inner (bzl_shape kind) ts)) within
      (wrapped_exact kind (bzl_shape kind) inner (Fits (At d) (bzl_shape kind)) (go goes (bzl_shape kind)) (run_exact (At d) (begins d) goes inner exact (bzl_shape kind) ok)))

  clause_from : (x : Part) → At (suc d) clause x → (f : Kind × List Part) × (x ≡ node_part f.0 f.1) × Finds (At d) clause_plan f.0 f.1
  clause_from x h =
      elim (by_part (suc d) clause x h) [
        | inl l ↦ no l.2
        | inr (n, is, g) ↦ ((n.kind, n.parts), is, finds_clause (At d) n.kind n.parts g.0 (node_fits d clause n g))
      ]

  small_from : (x : Part) → At (suc d) small x → (f : Kind × List Part) × (x ≡ node_part f.0 f.1) × Finds (At d) small_plan f.0 f.1
  small_from x h =
      elim (by_part (suc d) small x h) [
        | inl l ↦ no l.2
        | inr (n, is, g) ↦ ((n.kind, n.parts), is, finds_small (At d) n.kind n.parts g.0 (node_fits d small n g))
      ]

  clause_exact : Exact Part leaves_part (At (suc d) clause) (goes clause) (λ ts. wrap_found (follow inner clause_plan ts))
  clause_exact =
      let found = made_exact (At d) clause_plan inner (go_on goes clause_plan) (plan_exact (At d) (begins d) goes inner exact clause_plan refl) in
      exact_within leaves_part (At (suc d) clause) (go_on goes clause_plan) (goes clause) (λ ts. wrap_found (follow inner clause_plan ts)) refl
      (exact_like leaves_part (λ x. (f : Kind × List Part) × (x ≡ node_part f.0 f.1) × Finds (At d) clause_plan f.0 f.1) (At (suc d) clause) (go_on goes clause_plan) (λ ts. wrap_found (follow inner clause_plan ts))
      (λ x h. rw h.1 (made_at d clause clause_plan (clause_agrees (At d)) h.0.0 h.0.1 h.2)) clause_from found)

  small_exact : Exact Part leaves_part (At (suc d) small) (goes small) (λ ts. wrap_found (follow inner small_plan ts))
  small_exact =
      let found = made_exact (At d) small_plan inner (go_on goes small_plan) (plan_exact (At d) (begins d) goes inner exact small_plan refl) in
      exact_within leaves_part (At (suc d) small) (go_on goes small_plan) (goes small) (λ ts. wrap_found (follow inner small_plan ts)) refl
      (exact_like leaves_part (λ x. (f : Kind × List Part) × (x ≡ node_part f.0 f.1) × Finds (At d) small_plan f.0 f.1) (At (suc d) small) (go_on goes small_plan) (λ ts. wrap_found (follow inner small_plan ts))
      (λ x h. rw h.1 (made_at d small small_plan (small_agrees (At d)) h.0.0 h.0.1 h.2)) small_from found)

  loaded_is : (x : Part) → (IsLeaf string x ⊎ Wrapped k.Alias (Fits (At d) (bzl_shape k.Alias)) x) → At (suc d) loaded x
  loaded_is x (inl l) = leaf_part (suc d) loaded x l
  loaded_is x (inr w) = wrapped_at d loaded k.Alias x refl w

  loaded_from : (x : Part) → At (suc d) loaded x → IsLeaf string x ⊎ Wrapped k.Alias (Fits (At d) (bzl_shape k.Alias)) x
  loaded_from x h =
      elim (by_part (suc d) loaded x h) [
        | inl l ↦ inl l
        | inr (n, is, g) ↦
            let e = only_alias n.kind g.0 in
            inr (n.parts, is ∙ ap (λ (other : Kind). node_part other n.parts) e, rw e at (node_fits d loaded n g))
      ]

  loaded_exact : Exact Part leaves_part (At (suc d) loaded) (goes loaded) (prefix_at k.Alias (bzl_shape k.Alias) inner (token_part string))
  loaded_exact =
      exact_like leaves_part (λ x. IsLeaf string x ⊎ Wrapped k.Alias (Fits (At d) (bzl_shape k.Alias)) x) (At (suc d) loaded) (goes loaded) (prefix_at k.Alias (bzl_shape k.Alias) inner (token_part string)) loaded_is loaded_from
      (prefix_exact k.Alias (bzl_shape k.Alias) inner (token_part string) (IsLeaf string) (Fits (At d) (bzl_shape k.Alias)) [] (go goes (bzl_shape k.Alias)) (goes loaded) (token_exact string)
      (run_exact (At d) (begins d) goes inner exact (bzl_shape k.Alias) refl) (λ ps rest h. not_empty (At d) (begins d) (bzl_shape k.Alias) ps rest h refl)
      (λ x rest h. disjoint_at string (first (bzl_shape k.Alias)) (leaves_part x ++ rest) refl (leaf_starts string x rest h)) refl refl)

  -- ---- parameters

  abbrev IsValued : Part → Type 0
  IsValued x = Begun k.Param (has_token name) (IsLeaf name) (Fits (At d) param_tail) x

  abbrev IsParam : Part → Type 0
  IsParam x = (IsLeaf name x ⊎ IsValued x) ⊎ Wrapped k.Param (Fits (At d) starred) x

  param_is : (x : Part) → IsParam x → At (suc d) param x
  param_is x (inl (inl l)) = leaf_part (suc d) param x l
  param_is x (inl (inr (a, ps, e, h, m, t))) = rw e (made_node d param k.Param (a ∷ ps) refl (inl (m, t)))
  param_is x (inr (ps, e, t)) = rw e (made_node d param k.Param ps refl (inr t))

  param_node : (ps : List Part) → Fits (At d) (bzl_shape k.Param) ps → IsParam (node_part k.Param ps)
  param_node [] (inl h) = absurd h
  param_node (a ∷ ps) (inl h) = inl (inr (a, ps, refl, token_leaf name a h.0, h.0, h.1))
  param_node ps (inr h) = inr (ps, refl, h)

  param_from : (x : Part) → At (suc d) param x → IsParam x
  param_from x h =
      elim (by_part (suc d) param x h) [
        | inl l ↦ inl (inl l)
        | inr (n, is, g) ↦
            let e = only_param n.kind g.0 in
            rw (is, ap (λ (other : Kind). node_part other n.parts) e) (param_node n.parts (rw e at (node_fits d param n g)))
      ]

  no_stars : (x : Part) (rest : List Leaf) → (IsLeaf name x ⊎ IsValued x) → starts_with name (leaves_part x ++ rest) ≡ true
  no_stars x rest (inl l) = leaf_starts name x rest l
  no_stars x rest (inr (a, ps, e, h, m, t)) =
      rw e (ap (λ (u : List Leaf). starts_with name (u ++ rest)) (node_leaves k.Param (a ∷ ps)) ∙ ap (starts_with name) (append_assoc (leaves_part a) (all_leaves ps) rest) ∙ leaf_starts name a (all_leaves ps ++ rest) h)

  param_exact : Exact Part leaves_part (At (suc d) param) (goes param) (read_param inner)
  param_exact =
      let tail = run_exact (At d) (begins d) goes inner exact param_tail refl in
      let stars_read = run_exact (At d) (begins d) goes inner exact starred refl in
      let valued = infix_exact k.Param (has_token name) param_tail inner (token_part name) (IsLeaf name) (Fits (At d) param_tail) [] (go goes param_tail) (goes param) (token_exact name)
      tail (λ ps rest h. not_empty (At d) (begins d) param_tail ps rest h refl) refl refl refl refl in
      exact_like leaves_part IsParam (At (suc d) param) (goes param) (read_param inner) param_is param_from
      (prefix_exact k.Param starred inner (infix_at k.Param (has_token name) param_tail inner (token_part name)) (λ x. IsLeaf name x ⊎ IsValued x) (Fits (At d) starred) (goes param) (go goes starred) (goes param) valued
      stars_read (λ ps rest h. not_empty (At d) (begins d) starred ps rest h refl)
      (λ x rest h. disjoint_at name (first starred) (leaves_part x ++ rest) refl (no_stars x rest h)) refl refl)

-- ---- parts of each sort, of at most that depth

leaf_sound : (q : Nonterminal) (ts : List Leaf) (y : Part × List Leaf) → token_part (leaves_at q) ts ≡ Some y → At 0 q y.0 × (ts ≡ leaves_part y.0 ++ y.1)
leaf_sound q ts y e = let s = (token_exact (leaves_at q)).sound ts y e in (leaf_part 0 q y.0 s.0, s.1)

leaf_complete : (q : Nonterminal) (x : Part) (rest : List Leaf) → At 0 q x → token_part (leaves_at q) (leaves_part x ++ rest) ≡ Some (x, rest)
leaf_complete q x rest h =
    elim (by_part 0 q x h) [
      | inl l ↦ (token_exact (leaves_at q)).complete x rest l (starts_none rest)
      | inr (n, is, g) ↦ absurd (no_node q n g)
    ]

pub reading_exact : (d : ℕ) (q : Nonterminal) → by_table q ≡ true → Exact Part leaves_part (At d q) (goes q) (reading d q)
reading_exact zero q b = record { sound = leaf_sound q; complete = λ x rest h st. leaf_complete q x rest h }
reading_exact (suc d) (level n) b = climb_exact d (reading d) (reading_exact d) n
reading_exact (suc d) argument b = argument_exact d (reading d) (reading_exact d)
reading_exact (suc d) entry b = kind_exact d (reading d) (reading_exact d) entry k.Entry refl refl refl (λ l. refl) only_entry
reading_exact (suc d) clause b = clause_exact d (reading d) (reading_exact d)
reading_exact (suc d) first_clause b = kind_exact d (reading d) (reading_exact d) first_clause k.For refl refl refl (λ l. refl) only_for
reading_exact (suc d) loaded b = loaded_exact d (reading d) (reading_exact d)
reading_exact (suc d) small b = small_exact d (reading d) (reading_exact d)
reading_exact (suc d) line b = kind_exact d (reading d) (reading_exact d) line k.Line refl refl refl (λ l. refl) only_line
reading_exact (suc d) param b = param_exact d (reading d) (reading_exact d)
reading_exact (suc d) stmt b = no b
reading_exact (suc d) suite b = no b
