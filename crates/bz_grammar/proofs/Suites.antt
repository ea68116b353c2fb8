-- Statements and suites are read exactly: the next token and its indent decide.
use Rattle.bz_grammar.proofs.Words.{[], ◌&&◌, ◌++◌, ◌-◌, ◌>>=◌, ◌∙◌, ◌∷◌, ◌≡◌, ◌≤◌, After, AllByRecursion, AllIndented, alone, alt, alternatives, and_from, and_parts, ap, append-nil, append_assoc, AreIndented, arith, begins_at, Bool, both_ways, branches, branches_of, bytes_eq, bytes_eq-Decides, bzl_shape, cases_Bool, codes, colon_mark, cond, def_header, depth_of, done, each, else_header, end_of-Part, eq-eqb, eqb-true, false, first, first_indent, Fits, for_header, has_token, if_all, indent, Indented, inl, inr, is_deeper, is_one_of, IsFile, items-the_row-Part, Kind, Leaf, leaves_at, leaves_of, leaves_part, length, length-append, level, line, List, list, Listed, more_of-Part, no_more, Node, node_part, None, none, none-some, Nonterminal, nonterminal_has_kind, once_more, one_keyword, Option, Owned, owned, Owner, Part, put_all, Read, read_file, reading, refl, Row_of-Part, run, same_Some, Several, Shape, Some, stands_at, starts, starts_with, statement, statements_of, stmt, sub, subst, suc, suite, suite_of, sym, Terminal, test, test_header, Times, times, tok, true, while_next, with_part_first, with_suite, wrap, zero, ℕ}
use Rattle.bz_grammar.specs.declared.kind.Kind.TheVariants as k
use Rattle.bz_grammar.specs.declared.tree.Part.TheVariants as v
use Rattle.bz_grammar.specs.Shapes.{newline, end}
use Rattle.bz_grammar.proofs.{Nested.row_of, Nested.items_of_row, Nested.leaf_or_node, Numbers.same_kind, Spells.leaves_Node, Terminals.disjoint, Terminals.disjoint_at, Terminals.disjoint-one_of, Terminals.subset_at, Terminals.starts-append_left, Terminals.starts-append_right, Terminals.full_front, Exact.all_leaves, Exact.leaves_join, Exact.token_leaf, Exact.bind_some, Exact.put_some, Exact.if_some, Exact.cond_parts, Exact.Exact, Shapes.by_table, Shapes.nullable, Shapes.is_deterministic, Shapes.go, Shapes.not_empty, Shapes.run_exact, Nodes.node_leaves, Nodes.wrap_some, Trees.At, Trees.join, Trees.split, Trees.node_fits, Levels.no, Levels.no_node, Levels.begins, Levels.goes, Levels.made_node, Primary.starts_none, ExactNonterminals.reading_exact, Ended.then_sub, Ended.Ends, Ended.And, Ended.split_sub, Ended.join_sub, Ended.test_split, Ended.test_join}

-- ---- indents

pub same_text : (a b : List ℕ) → bytes_eq a b ≡ true → a ≡ b
same_text a b h = (bytes_eq-Decides a b).0 h

pub text_same : (a b : List ℕ) → a ≡ b → bytes_eq a b ≡ true
text_same a b e = (bytes_eq-Decides a b).1 e

deeper_is : (i j : List ℕ) → is_deeper i j ≡ true → (c : ℕ) × (more : List ℕ) × (j ≡ i ++ c ∷ more)
deeper_is [] [] h = no h
deeper_is [] (c ∷ j) h = (c, j, refl)
deeper_is (b ∷ i) [] h = no h
deeper_is (b ∷ i) (c ∷ j) h =
    let w = and_parts _ (is_deeper i j) h in
    let u = deeper_is i j w.1 in
    (u.0, u.1, ap (λ (t : ℕ). t ∷ j) (sym (eqb-true b c w.0)) ∙ ap (λ (t : List ℕ). b ∷ t) u.2)

is_deeper_at : (i : List ℕ) (c : ℕ) (more : List ℕ) → is_deeper i (i ++ c ∷ more) ≡ true
is_deeper_at [] c more = refl
is_deeper_at (b ∷ i) c more = rw (eq-eqb b b refl) (is_deeper_at i c more)

-- ---- what may be after a suite and after a statement

-- no statement of a deeper suite follows, and no elif or else of one
abbrev pub NoDeeper : List ℕ → List Leaf → Type 0
NoDeeper i rest = starts_with (starts stmt ++ alternatives) rest ≡ true → length (first_indent rest) ≤ length i

-- nor what goes on with a statement at this indent
abbrev pub Past : List ℕ → List Leaf → Type 0
Past i rest = NoDeeper i rest × (starts_with alternatives rest ≡ true → first_indent rest ≡ i → ⊥)

longer : (i : List ℕ) (c : ℕ) (more : List ℕ) (rest : List Leaf) → NoDeeper i rest → Past (i ++ c ∷ more) rest
longer i c more rest h = (
  (λ e. omega (arith, h e, length-append i (c ∷ more))),
  (λ e is. let n = h (starts-append_right (starts stmt) alternatives rest e) in let same : length (first_indent rest) ≡ length (i ++ c ∷ more) = ap length is in omega (arith, n, same, length-append i (c ∷ more))),
)

no_statement : (i : List ℕ) (c : ℕ) (more : List ℕ) (rest : List Leaf) → NoDeeper i rest → begins_at (i ++ c ∷ more) rest ≡ false
no_statement i c more rest h =
    elim (cases_Bool (begins_at (i ++ c ∷ more) rest)) [
      | inl e ↦
          let w = and_parts (starts_with (starts stmt) rest) _ e in
          let n = h (starts-append_left (starts stmt) alternatives rest w.0) in
          let same : length (first_indent rest) ≡ length (i ++ c ∷ more) = ap length (same_text (first_indent rest) (i ++ c ∷ more) w.1) in
          absurd (omega (arith, n, same, length-append i (c ∷ more)))
      | inr e ↦ e
    ]

at_indent : (i : List ℕ) (rest : List Leaf) → first_indent rest ≡ i → NoDeeper i rest
at_indent i rest is e = let same : length (first_indent rest) ≡ length i = ap length is in omega (arith, same)

statement_past : (i : List ℕ) (rest : List Leaf) → starts_with (starts stmt) rest ≡ true → first_indent rest ≡ i → Past i rest
statement_past i rest s is = (at_indent i rest is, λ e j. absurd (both_ways (starts_with alternatives rest) (disjoint_at (starts stmt) alternatives rest refl s) e))

-- the indent of leaves is that of the first
front_indent : (ls ms : List Leaf) → 1 ≤ length ls → first_indent (ls ++ ms) ≡ first_indent ls
front_indent [] ms h = absurd (omega arith)
front_indent (l ∷ ls) ms h = refl

-- ---- rows

abbrev AllOwned : List ℕ → List Part → Type 0
AllOwned i ps = AllByRecursion (Owned i) ps

owned_both : (i : List ℕ) (ps qs : List Part) → AllOwned i ps → AllOwned i qs → AllOwned i (ps ++ qs)
owned_both i [] qs h g = g
owned_both i (p ∷ ps) qs h g = (h.0, owned_both i ps qs h.1 g)

owned_parts : (i : List ℕ) (ps qs : List Part) → AllOwned i (ps ++ qs) → AllOwned i ps × AllOwned i qs
owned_parts i [] qs h = (tt, h)
owned_parts i (p ∷ ps) qs h = let w = owned_parts i ps qs h.1 in ((h.0, w.0), w.1)

row_owned : (i : List ℕ) (m : _) (r : Row_of-Part m) → Owner i r → AllOwned i (items-the_row-Part m r)
row_owned i m end_of-Part h = tt
row_owned i m (more_of-Part x rest) h = (h.0, row_owned i _ rest h.1)

owned_row : (i : List ℕ) (m : _) (r : Row_of-Part m) → AllOwned i (items-the_row-Part m r) → Owner i r
owned_row i m end_of-Part h = tt
owned_row i m (more_of-Part x rest) h = (h.0, owned_row i _ rest h.1)

row_indented : (i : List ℕ) (m : _) (r : Row_of-Part m) → AllIndented i r → AreIndented i (items-the_row-Part m r)
row_indented i m end_of-Part h = tt
row_indented i m (more_of-Part x rest) h = (h.0, row_indented i _ rest h.1)

pub indented_row : (i : List ℕ) (m : _) (r : Row_of-Part m) → AreIndented i (items-the_row-Part m r) → AllIndented i r
indented_row i m end_of-Part h = tt
indented_row i m (more_of-Part x rest) h = (h.0, indented_row i _ rest h.1)

-- a statement by its parts
pub indented_parts : (i : List ℕ) (n : Node) → Indented i (v.Node n) → (first_indent (leaves_of n) ≡ i) × AllOwned i n.parts
indented_parts i n h = (ap first_indent (sym (leaves_Node n)) ∙ h.0, subst (AllOwned i) (items_of_row n) (row_owned i _ (row_of n).1 h.1))

pub parts_indented : (i : List ℕ) (n : Node) → first_indent (leaves_of n) ≡ i → AllOwned i n.parts → Indented i (v.Node n)
parts_indented i n e h = (ap first_indent (leaves_Node n) ∙ e, owned_row i _ (row_of n).1 (subst (AllOwned i) (sym (items_of_row n)) h))

-- a suite by its statements
suite_parts : (i : List ℕ) (ps : List Part) → Owned i (node_part k.Suite ps) → (c : ℕ) × (more : List ℕ) × AreIndented (i ++ c ∷ more) ps
suite_parts i ps h = let n : Node = record { kind = k.Suite; parts = ps } in (h.0, h.1, subst (AreIndented (i ++ h.0 ∷ h.1)) (items_of_row n) (row_indented (i ++ h.0 ∷ h.1) _ (row_of n).1 h.2))

parts_suite : (i : List ℕ) (ps : List Part) (c : ℕ) (more : List ℕ) → AreIndented (i ++ c ∷ more) ps → Owned i (node_part k.Suite ps)
parts_suite i ps c more h = let n : Node = record { kind = k.Suite; parts = ps } in (c, more, indented_row (i ++ c ∷ more) _ (row_of n).1 (subst (AreIndented (i ++ c ∷ more)) (sym (items_of_row n)) h))

-- ---- what is in lines and headers has no rule of indent

no_suite : (q : Nonterminal) → by_table q ≡ true → nonterminal_has_kind q k.Suite ≡ false
no_suite stmt h = no h
no_suite suite h = no h
no_suite (level n) h = refl
no_suite _ h = refl

owned_kind : (i : List ℕ) (q : Nonterminal) (kind : Kind) (ps : List Part) → nonterminal_has_kind q k.Suite ≡ false → nonterminal_has_kind q kind ≡ true → Owned i (node_part kind ps)
owned_kind i q k.Suite ps h g = absurd (both_ways (nonterminal_has_kind q k.Suite) h g)
owned_kind i q _ ps h g = tt

plain_leaves : (q : Nonterminal) → disjoint (leaves_at q) alternatives ≡ true
plain_leaves (level n) = refl
plain_leaves _ = refl

owned_leaf : (i : List ℕ) (s : List Terminal) (x : Part) → disjoint s alternatives ≡ true → has_token s x ≡ true → Owned i x
owned_leaf i s x d h =
    let w = token_leaf s x h in
    subst (Owned i) (sym w.1) (λ e. absurd (both_ways (is_one_of alternatives w.0) (disjoint-one_of w.0 s alternatives d w.2) e))

module _ (i : List ℕ) (d : ℕ) where
  owned_part : (q : Nonterminal) (x : Part) → by_table q ≡ true → At d q x → Owned i x
  owned_part q x b h =
      elim (leaf_or_node x) [
        | inl (l, is) ↦ rw is (let g : At d q (v.Leaf l) = rw is at h in λ e. absurd (both_ways (is_one_of alternatives l) (disjoint-one_of l (leaves_at q) alternatives (plain_leaves q) g.0) e))
        | inr (n, is) ↦ rw is (let g : At d q (v.Node n) = rw is at h in owned_kind i q n.kind n.parts (no_suite q b) g.0)
      ]

  abbrev plain : Shape → Bool
  plain none = true
  plain done = true
  plain (tok s r) = disjoint s alternatives && plain r
  plain (sub q r) = by_table q && plain r
  plain (alt r r') = plain r && plain r'
  plain (list q sep last r) = by_table q && (disjoint sep alternatives && plain r)
  plain (each q r) = by_table q && plain r
  plain (times group r) = false

  module _ (q : Nonterminal) (b : by_table q ≡ true) (K : List Part → Type 0) (rest : (ps : List Part) → K ps → AllOwned i ps) where
    mutual
      owned_listed : (sep : List Terminal) (last : Bool) → disjoint sep alternatives ≡ true → (ps : List Part) → Listed (At d q) sep last K ps → AllOwned i ps
      owned_listed sep last o [] h = absurd h
      owned_listed sep last o (x ∷ ps) h = (owned_part q x b h.0, owned_after sep last o ps h.1)

      owned_after : (sep : List Terminal) (last : Bool) → disjoint sep alternatives ≡ true → (ps : List Part) → After (At d q) sep last K ps → AllOwned i ps
      owned_after sep last o [] h = tt
      owned_after sep last o (x ∷ ps) (inl h) = rest (x ∷ ps) h
      owned_after sep last o (x ∷ ps) (inr (m, inl h)) = (owned_leaf i sep x o m, owned_listed sep last o ps h)
      owned_after sep last o (x ∷ ps) (inr (m, inr (e, h))) = (owned_leaf i sep x o m, rest ps h)

    owned_several : (ps : List Part) → Several (At d q) K ps → AllOwned i ps
    owned_several [] h = tt
    owned_several (x ∷ ps) (inl h) = rest (x ∷ ps) h
    owned_several (x ∷ ps) (inr h) = (owned_part q x b h.0, owned_several ps h.1)

  pub owned_shape : (r : Shape) → plain r ≡ true → (ps : List Part) → Fits (At d) r ps → AllOwned i ps
  owned_shape none p ps h = absurd h
  owned_shape done p [] h = tt
  owned_shape done p (x ∷ ps) h = absurd h
  owned_shape (tok s r) p [] h = absurd h
  owned_shape (tok s r) p (x ∷ ps) h = let o = and_parts (disjoint s alternatives) (plain r) p in (owned_leaf i s x o.0 h.0, owned_shape r o.1 ps h.1)
  owned_shape (sub q r) p [] h = absurd h
  owned_shape (sub q r) p (x ∷ ps) h = let o = and_parts (by_table q) (plain r) p in (owned_part q x o.0 h.0, owned_shape r o.1 ps h.1)
  owned_shape (alt r r') p ps (inl h) = owned_shape r (and_parts (plain r) (plain r') p).0 ps h
  owned_shape (alt r r') p ps (inr h) = owned_shape r' (and_parts (plain r) (plain r') p).1 ps h
  owned_shape (list q sep last r) p ps h = let o = and_parts (by_table q) _ p in let u = and_parts (disjoint sep alternatives) (plain r) o.1 in owned_listed q o.0 (Fits (At d) r) (λ zs g. owned_shape r u.1 zs g) sep last u.0 ps h
  owned_shape (each q r) p ps h = let o = and_parts (by_table q) (plain r) p in owned_several q o.0 (Fits (At d) r) (λ zs g. owned_shape r o.1 zs g) ps h
  owned_shape (times group r) p ps h = no p

-- ---- loops and headers

put_all_some : (front : List Part) (o : Option (List Part × List Leaf)) (y : List Part × List Leaf) → put_all front o ≡ Some y → (x : List Part × List Leaf) × (o ≡ Some x) × (y ≡ (front ++ x.0, x.1))
put_all_some front None y e = absurd cc
put_all_some front (Some x) y e = (x, refl, sym (same_Some (front ++ x.0, x.1) y e))

alone_some : (o : Option (Part × List Leaf)) (y : List Part × List Leaf) → alone o ≡ Some y → (x : Part × List Leaf) × (o ≡ Some x) × (y ≡ (x.0 ∷ [], x.1))
alone_some None y e = absurd cc
alone_some (Some x) y e = (x, refl, sym (same_Some (x.0 ∷ [], x.1) y e))

abbrev Taken : (List Part → Type 0) → List Leaf → List Part × List Leaf → Type 0
Taken P ts y = P y.0 × (ts ≡ all_leaves y.0 ++ y.1)

nothing_taken : (P : List Part → Type 0) (ts : List Leaf) (y : List Part × List Leaf) → P [] → Some ([], ts) ≡ Some y → Taken P ts y
nothing_taken P ts y h e = subst (Taken P ts) (same_Some ([], ts) y e) (h, refl)

module _ (P : Part → Type 0) (next : Read Part) (more : List Leaf → Bool) where
  while_sound : ((us : List Leaf) (z : Part × List Leaf) → more us ≡ true → next us ≡ Some z → P z.0 × (us ≡ leaves_part z.0 ++ z.1)) → (n : ℕ) (ts : List Leaf) (y : List Part × List Leaf) → while_next n more next ts ≡ Some y → Taken (AllByRecursion P) ts y
  while_sound f zero ts y e = nothing_taken (AllByRecursion P) ts y tt e
  while_sound f (suc n) ts y e =
      elim (cond_parts (more ts) (next ts >>= λ x. with_part_first x.0 (while_next n more next x.1)) (Some ([], ts)) (Some y) e) [
        | inl h ↦
            let a = bind_some (next ts) (λ x. with_part_first x.0 (while_next n more next x.1)) y h.1 in
            let b = put_some a.0.0 (while_next n more next a.0.1) y a.2 in
            let p = f ts a.0 h.0 a.1 in
            let s = while_sound f n a.0.1 b.0 b.1 in
            rw b.2 ((p.0, s.0), p.1 ∙ ap (λ (r : List Leaf). leaves_part a.0.0 ++ r) s.1 ∙ sym (append_assoc (leaves_part a.0.0) (all_leaves b.0.0) b.0.1))
        | inr h ↦ nothing_taken (AllByRecursion P) ts y tt h.1
      ]

  module _ (past : List Leaf → Type 0) (read : (x : Part) (rest : List Leaf) → P x → past rest → next (leaves_part x ++ rest) ≡ Some (x, rest))
      (opens : (x : Part) (rest : List Leaf) → P x → (more (leaves_part x ++ rest) ≡ true) × past (leaves_part x ++ rest)) (some_leaf : (x : Part) → P x → 1 ≤ length (leaves_part x)) where
    while_complete : (n : ℕ) (xs : List Part) (rest : List Leaf) → AllByRecursion P xs → past rest → more rest ≡ false → length (all_leaves xs ++ rest) ≤ n → past (all_leaves xs ++ rest) × (while_next n more next (all_leaves xs ++ rest) ≡ Some (xs, rest))
    while_complete zero [] rest h p m le = (p, refl)
    while_complete (suc n) [] rest h p m le = (p, rw m refl)
    while_complete zero (x ∷ xs) rest h p m le = absurd (omega (arith, some_leaf x h.0, ap length (append_assoc (leaves_part x) (all_leaves xs) rest), length-append (leaves_part x) (all_leaves xs ++ rest)))
    while_complete (suc n) (x ∷ xs) rest h p m le =
        let regroup = append_assoc (leaves_part x) (all_leaves xs) rest in
        let w = while_complete n xs rest h.1 p m (omega (arith, some_leaf x h.0, ap length regroup, length-append (leaves_part x) (all_leaves xs ++ rest))) in
        let o = opens x (all_leaves xs ++ rest) h.0 in
        (rw regroup o.1, ap (while_next (suc n) more next) regroup ∙ rw (o.0, read x (all_leaves xs ++ rest) h.0 w.0, w.1) refl)

leaves_last : (hs : List Part) (x : Part) (rest : List Leaf) → all_leaves (hs ++ x ∷ []) ++ rest ≡ all_leaves hs ++ (leaves_part x ++ rest)
leaves_last hs x rest =
    ap (λ (u : List Leaf). u ++ rest) (leaves_join hs (x ∷ []) ∙ ap (λ (u : List Leaf). all_leaves hs ++ u) (append-nil (leaves_part x))) ∙ append_assoc (all_leaves hs) (leaves_part x) rest

module _ (F : List Part → Type 0) (G : Part → Type 0) (header : Read (List Part)) (suite_read : Read Part) (exact : Exact (List Part) all_leaves F [] header) where
  with_sound : ((us : List Leaf) (z : Part × List Leaf) → suite_read us ≡ Some z → G z.0 × (us ≡ leaves_part z.0 ++ z.1)) → (ts : List Leaf) (y : List Part × List Leaf) → with_suite header suite_read ts ≡ Some y → Taken (And F G) ts y
  with_sound g ts y e =
      let a = bind_some (header ts) (λ x. put_all x.0 (alone (suite_read x.1))) y e in
      let b = put_all_some a.0.0 (alone (suite_read a.0.1)) y a.2 in
      let c = alone_some (suite_read a.0.1) b.0 b.1 in
      let h = exact.sound ts a.0 a.1 in
      let s = g a.0.1 c.0 c.1 in
      let is : y ≡ (a.0.0 ++ c.0.0 ∷ [], c.0.1) = b.2 ∙ ap (λ (z : List Part × List Leaf). (a.0.0 ++ z.0, z.1)) c.2 in
      subst (Taken (And F G) ts) (sym is) ((a.0.0, c.0.0, refl, h.0, s.0), h.1 ∙ ap (λ (u : List Leaf). all_leaves a.0.0 ++ u) s.1 ∙ sym (leaves_last a.0.0 c.0.0 c.0.1))

  with_complete : (past : List Leaf → Type 0) → ((x : Part) (rest : List Leaf) → G x → past rest → suite_read (leaves_part x ++ rest) ≡ Some (x, rest)) → (ps : List Part) (rest : List Leaf) → And F G ps → past rest → with_suite header suite_read (all_leaves ps ++ rest) ≡ Some (ps, rest)
  with_complete past g ps rest (hs, x, is, h, s) p =
      let w : with_suite header suite_read (all_leaves (hs ++ x ∷ []) ++ rest) ≡ Some (hs ++ x ∷ [], rest) =
      ap (with_suite header suite_read) (leaves_last hs x rest) ∙ rw (exact.complete hs (leaves_part x ++ rest) h (starts_none (leaves_part x ++ rest)), g x rest s p) refl in
      subst (λ (zs : List Part). with_suite header suite_read (all_leaves zs ++ rest) ≡ Some (zs, rest)) (sym is) w

-- ---- statements

abbrev GoodStatement : ℕ → List ℕ → Part → Type 0
GoodStatement d i x = At d stmt x × Indented i x

abbrev GoodSuite : ℕ → List ℕ → Part → Type 0
GoodSuite d i x = At d suite x × Owned i x

full_row : (d : ℕ) (r : Shape) (ps : List Part) → nullable r ≡ false → Fits (At d) r ps → 1 ≤ length (all_leaves ps)
full_row d r ps n h = full_front (first r) (all_leaves ps) (not_empty (At d) (begins d) r ps [] h n)

-- the parts of a statement or suite of a kind
node_of : (d : ℕ) (q : Nonterminal) (x : Part) → ((l : Leaf) → is_one_of (leaves_at q) l ≡ false) → At (suc d) q x → (n : Node) × (x ≡ v.Node n) × (nonterminal_has_kind q n.kind ≡ true) × Fits (At d) (bzl_shape n.kind) n.parts
node_of d q x none_is h =
    elim (leaf_or_node x) [
      | inl (l, is) ↦ let g : At (suc d) q (v.Leaf l) = rw is at h in absurd (both_ways (is_one_of (leaves_at q) l) (none_is l) g.0)
      | inr (n, is) ↦ let g : At (suc d) q (v.Node n) = rw is at h in (n, is, g.0, node_fits d q n g)
    ]

made_statement : (d : ℕ) (i : List ℕ) (kind : Kind) (ps : List Part) (ts rest : List Leaf) → nonterminal_has_kind stmt kind ≡ true → nullable (bzl_shape kind) ≡ false → Fits (At d) (bzl_shape kind) ps → AllOwned i ps → first_indent ts ≡ i → ts ≡ all_leaves ps ++ rest → GoodStatement (suc d) i (node_part kind ps) × (ts ≡ leaves_part (node_part kind ps) ++ rest)
made_statement d i kind ps ts rest s n f o is e =
    let there : first_indent (all_leaves ps) ≡ i = sym (front_indent (all_leaves ps) rest (full_row d (bzl_shape kind) ps n f)) ∙ (sym (ap first_indent e) ∙ is) in
    ((made_node d stmt kind ps s f, parts_indented i (record { kind = kind; parts = ps }) there o), e ∙ ap (λ (u : List Leaf). u ++ rest) (sym (node_leaves kind ps)))

-- the first token of a header, and what is after it
first_token : (d : ℕ) (s : List Terminal) (r : Shape) (hs : List Part) (i : List ℕ) (rest : List Leaf) → Fits (At d) (tok s r) hs → plain i d r ≡ true → first_indent (all_leaves hs ++ rest) ≡ i → AllOwned i hs
first_token d s r [] i rest h p is = absurd h
first_token d s r (a ∷ hs) i rest h p is =
    let w = token_leaf s a h.0 in
    let here : indent w.0.gap ≡ i = rw w.1 at is in
    (subst (Owned i) (sym w.1) (λ e. here), owned_shape i d r p hs h.1)

header_parts : (d : ℕ) (i : List ℕ) (F : List Part → Type 0) (ps : List Part) → And F (GoodSuite d i) ps → ((hs : List Part) → F hs → AllOwned i hs) → AllOwned i ps
header_parts d i F ps (hs, x, is, h, g) o = subst (AllOwned i) (sym is) (owned_both i hs (x ∷ []) (o hs h) (g.1, tt))

-- the suite of a header is owned
good_suite : (d : ℕ) (i : List ℕ) (F : List Part → Type 0) (ps : List Part) → And F (At d suite) ps → AllOwned i ps → And F (GoodSuite d i) ps
good_suite d i F ps (hs, x, is, h, g) o =
    let w = owned_parts i hs (x ∷ []) (subst (AllOwned i) is o) in (hs, x, is, h, (g, w.1.0))

joined : (d : ℕ) (i : List ℕ) (r : Shape) (ps : List Part) → Ends r → And (Fits (At d) r) (GoodSuite d i) ps → Fits (At d) (then_sub suite r) ps
joined d i r ps e (hs, x, is, h, g) = subst (Fits (At d) (then_sub suite r)) (sym is) (join_sub (At d) suite r hs x h g.0 e)

module _ (d : ℕ) (i : List ℕ) (suite_read : Read Part)
    (sound : (us : List Leaf) (z : Part × List Leaf) → suite_read us ≡ Some z → GoodSuite d i z.0 × (us ≡ leaves_part z.0 ++ z.1))
    (complete : (x : Part) (rest : List Leaf) → GoodSuite d i x → NoDeeper i rest → suite_read (leaves_part x ++ rest) ≡ Some (x, rest)) where
  header_exact : (r : Shape) → is_deterministic goes r ≡ true → go goes r ≡ [] → Exact (List Part) all_leaves (Fits (At d) r) [] (run (reading d) r)
  header_exact r ok e = subst (λ (g : List Terminal). Exact (List Part) all_leaves (Fits (At d) r) g (run (reading d) r)) e (run_exact (At d) (begins d) goes (reading d) (reading_exact d) r ok)

  abbrev With : Shape → List Part → Type 0
  With r ps = And (Fits (At d) r) (GoodSuite d i) ps

  header_sound : (r : Shape) → is_deterministic goes r ≡ true → go goes r ≡ [] → (ts : List Leaf) (y : List Part × List Leaf) → with_suite (run (reading d) r) suite_read ts ≡ Some y → Taken (With r) ts y
  header_sound r ok e = with_sound (Fits (At d) r) (GoodSuite d i) (run (reading d) r) suite_read (header_exact r ok e) sound

  header_complete : (r : Shape) → is_deterministic goes r ≡ true → go goes r ≡ [] → (ps : List Part) (rest : List Leaf) → With r ps → NoDeeper i rest → with_suite (run (reading d) r) suite_read (all_leaves ps ++ rest) ≡ Some (ps, rest)
  header_complete r ok e = with_complete (Fits (At d) r) (GoodSuite d i) (run (reading d) r) suite_read (header_exact r ok e) (NoDeeper i) complete

  -- ---- elif and else

  abbrev elif : List Terminal
  elif = one_keyword (codes "elif")

  abbrev else_ : List Terminal
  else_ = one_keyword (codes "else")

  abbrev group : Shape
  group = tok elif (sub test owned)

  abbrev last_one : Shape
  last_one = alt (tok else_ owned) done

  abbrev Branches : List Part → Type 0
  Branches ps = Fits (At d) branches ps × AllOwned i ps

  at_front : (r : Shape) (ps : List Part) (rest : List Leaf) → With r ps → ((hs : List Part) (more : List Leaf) → Fits (At d) r hs → first_indent (all_leaves hs ++ more) ≡ i → AllOwned i hs) → first_indent (all_leaves ps ++ rest) ≡ i → AllOwned i ps
  at_front r ps rest (hs, x, e, h, g) o is =
      let same : first_indent (all_leaves hs ++ (leaves_part x ++ rest)) ≡ i = ap first_indent (sym (leaves_last hs x rest)) ∙ (ap (λ (zs : List Part). first_indent (all_leaves zs ++ rest)) (sym e) ∙ is) in
      subst (AllOwned i) (sym e) (owned_both i hs (x ∷ []) (o hs (leaves_part x ++ rest) h same) (g.1, tt))

  branches_sound : (n : ℕ) (ts : List Leaf) (y : List Part × List Leaf) → branches_of n (run (reading d)) suite_read i ts ≡ Some y → Taken Branches ts y
  branches_sound zero ts y e = nothing_taken Branches ts y (no_more (inr tt), tt) e
  branches_sound (suc n) ts y e =
      elim (cond_parts (stands_at elif i ts) (with_suite (run (reading d) (test_header elif)) suite_read ts >>= λ x. put_all x.0 (branches_of n (run (reading d)) suite_read i x.1)) _ (Some y) e) [
        | inl h ↦
            let st = and_parts (starts_with elif ts) _ h.0 in
            let a = bind_some (with_suite (run (reading d) (test_header elif)) suite_read ts) (λ x. put_all x.0 (branches_of n (run (reading d)) suite_read i x.1)) y h.1 in
            let b = put_all_some a.0.0 (branches_of n (run (reading d)) suite_read i a.0.1) y a.2 in
            let s = header_sound (test_header elif) refl refl ts a.0 a.1 in
            let r = branches_sound n a.0.1 b.0 b.1 in
            let own = at_front (test_header elif) a.0.0 a.0.1 s.0 (λ hs more f is. first_token d elif (sub test (tok colon_mark done)) hs i more f refl is) (ap first_indent (sym s.1) ∙ same_text (first_indent ts) i st.1) in
            subst (Taken Branches ts) (sym b.2) (
              (once_more a.0.0 b.0.0 refl (joined d i (test_header elif) a.0.0 tt s.0) r.0.0, owned_both i a.0.0 b.0.0 own r.0.1),
              s.1 ∙ (ap (λ (u : List Leaf). all_leaves a.0.0 ++ u) r.1 ∙ (sym (append_assoc (all_leaves a.0.0) (all_leaves b.0.0) b.0.1) ∙ ap (λ (u : List Leaf). u ++ b.0.1) (sym (leaves_join a.0.0 b.0.0)))),
            )
        | inr h ↦
            elim (cond_parts (stands_at else_ i ts) (with_suite (run (reading d) else_header) suite_read ts) (Some ([], ts)) (Some y) h.1) [
              | inl g ↦
                  let st = and_parts (starts_with else_ ts) _ g.0 in
                  let s = header_sound else_header refl refl ts y g.1 in
                  let own = at_front else_header y.0 y.1 s.0 (λ hs more f is. first_token d else_ (tok colon_mark done) hs i more f refl is) (ap first_indent (sym s.1) ∙ same_text (first_indent ts) i st.1) in
                  ((no_more (inl (joined d i else_header y.0 tt s.0)), own), s.1)
              | inr g ↦ nothing_taken Branches ts y (no_more (inr tt), tt) g.1
            ]
      ]

  not_standing : (s : List Terminal) (rest : List Leaf) → ((t : List Leaf) → starts_with s t ≡ true → starts_with alternatives t ≡ true) → Past i rest → stands_at s i rest ≡ false
  not_standing s rest up p =
      elim (cases_Bool (stands_at s i rest)) [
        | inl e ↦ let w = and_parts (starts_with s rest) _ e in absurd (p.1 (up rest w.0) (same_text (first_indent rest) i w.1))
        | inr e ↦ e
      ]

  -- the first token of such a row is at the indent
  stands_first : (s : List Terminal) (r : Shape) (ps : List Part) (rest : List Leaf) → ((l : Leaf) → is_one_of s l ≡ true → is_one_of alternatives l ≡ true) → Fits (At d) (tok s r) ps → AllOwned i ps → (stands_at s i (all_leaves ps ++ rest) ≡ true) × (starts_with s (all_leaves ps ++ rest) ≡ true) × (first_indent (all_leaves ps ++ rest) ≡ i)
  stands_first s r [] rest up h w = absurd h
  stands_first s r (a ∷ ps) rest up h w =
      let t = token_leaf s a h.0 in
      let here : indent t.0.gap ≡ i = (let g : Owned i (v.Leaf t.0) = subst (Owned i) t.1 w.0 in g (up t.0 t.2)) in
      rw t.1 (and_from (is_one_of s t.0) (bytes_eq (indent t.0.gap) i) t.2 (text_same (indent t.0.gap) i here), t.2, here)

  with_of : (r : Shape) (ps : List Part) → Fits (At d) (then_sub suite r) ps → AllOwned i ps → With r ps
  with_of r ps h o = good_suite d i (Fits (At d) r) ps (split_sub (At d) suite r ps h) o

  branches_complete : (n : ℕ) (ps : List Part) (rest : List Leaf) → Times (Fits (At d) group) (Fits (At d) last_one) ps → AllOwned i ps → Past i rest → length (all_leaves ps ++ rest) ≤ n → NoDeeper i (all_leaves ps ++ rest) × (branches_of n (run (reading d)) suite_read i (all_leaves ps ++ rest) ≡ Some (ps, rest))
  branches_complete n [] rest (no_more (inl h)) o p le = absurd h
  branches_complete n (x ∷ ps) rest (no_more (inr h)) o p le = absurd h
  branches_complete zero [] rest (no_more (inr h)) o p le = (p.0, refl)
  branches_complete (suc n) [] rest (no_more (inr h)) o p le =
      (p.0, rw (not_standing elif rest (λ t e. subset_at elif alternatives t refl e) p, not_standing else_ rest (λ t e. subset_at else_ alternatives t refl e) p) refl)
  branches_complete zero (x ∷ ps) rest (no_more (inl h)) o p le = absurd (omega (arith, full_row d (tok else_ owned) (x ∷ ps) refl h, length-append (all_leaves (x ∷ ps)) rest))
  branches_complete (suc n) (x ∷ ps) rest (no_more (inl h)) o p le =
      let f = stands_first else_ owned (x ∷ ps) rest (λ l e. subset_at else_ alternatives (l ∷ []) refl e) h o in
      let off : starts_with elif (all_leaves (x ∷ ps) ++ rest) ≡ false = disjoint_at else_ elif (all_leaves (x ∷ ps) ++ rest) refl f.1 in
      (at_indent i (all_leaves (x ∷ ps) ++ rest) f.2, rw (off, f.0) (header_complete else_header refl refl (x ∷ ps) rest (with_of else_header (x ∷ ps) h o) p.0))
  branches_complete n ps rest (once_more front back is h t) o p le =
      let own = owned_parts i front back (subst (AllOwned i) is o) in
      let regroup : all_leaves ps ++ rest ≡ all_leaves front ++ (all_leaves back ++ rest) = ap (λ (zs : List Part). all_leaves zs ++ rest) is ∙ (ap (λ (u : List Leaf). u ++ rest) (leaves_join front back) ∙ append_assoc (all_leaves front) (all_leaves back) rest) in
      let size = full_row d group front refl h in
      let less : length (all_leaves back ++ rest) ≤ n - 1 = omega (arith, size, ap length regroup, length-append (all_leaves front) (all_leaves back ++ rest)) in
      let n_is : n ≡ suc (n - 1) = omega (arith, size, ap length regroup, length-append (all_leaves front) (all_leaves back ++ rest)) in
      let w = branches_complete (n - 1) back rest t own.1 p less in
      let f = stands_first elif (sub test owned) front (all_leaves back ++ rest) (λ l e. subset_at elif alternatives (l ∷ []) refl e) h own.0 in
      let one = header_complete (test_header elif) refl refl front (all_leaves back ++ rest) (with_of (test_header elif) front h own.0) w.0 in
      let all : branches_of (suc (n - 1)) (run (reading d)) suite_read i (all_leaves front ++ (all_leaves back ++ rest)) ≡ Some (front ++ back, rest) = rw (f.0, one, w.1) refl in
      (subst (NoDeeper i) (sym regroup) (at_indent i (all_leaves front ++ (all_leaves back ++ rest)) f.2), ap (branches_of n (run (reading d)) suite_read i) regroup ∙ (ap (λ (m : ℕ). branches_of m (run (reading d)) suite_read i (all_leaves front ++ (all_leaves back ++ rest))) n_is ∙ (all ∙ ap (λ (zs : List Part). Some (zs, rest)) (sym is))))

  -- ---- a statement, of which the suites are read so

  header_statement : (kind : Kind) (r : Shape) → nonterminal_has_kind stmt kind ≡ true → nullable (bzl_shape kind) ≡ false → bzl_shape kind ≡ then_sub suite r → is_deterministic goes r ≡ true → go goes r ≡ [] → Ends r → plain i d r ≡ true
      → (ts : List Leaf) (y : Part × List Leaf) → first_indent ts ≡ i → wrap kind (with_suite (run (reading d) r) suite_read ts) ≡ Some y → GoodStatement (suc d) i y.0 × (ts ≡ leaves_part y.0 ++ y.1)
  header_statement kind r s n same ok e ends p ts y is r_e =
      let w = wrap_some kind (with_suite (run (reading d) r) suite_read ts) y r_e in
      let h = header_sound r ok e ts w.0 w.1 in
      let own = header_parts d i (Fits (At d) r) w.0.0 h.0 (λ hs f. owned_shape i d r p hs f) in
      subst (λ (z : Part × List Leaf). GoodStatement (suc d) i z.0 × (ts ≡ leaves_part z.0 ++ z.1)) (sym w.2)
      (made_statement d i kind w.0.0 ts w.0.1 s n (subst (λ (z : Shape). Fits (At d) z w.0.0) (sym same) (joined d i r w.0.0 ends h.0)) own is h.1)

  if_parts : (ps bs : List Part) → With (test_header (one_keyword (codes "if"))) ps → Branches bs → Fits (At d) (bzl_shape k.IfStmt) (ps ++ bs) × AllOwned i (ps ++ bs)
  if_parts ps bs (hs, x, is, h, g) b = (
    subst (λ (zs : List Part). Fits (At d) (bzl_shape k.IfStmt) (zs ++ bs)) (sym is) (test_join (At d) (one_keyword (codes "if")) branches hs bs x h g.0 b.0),
    owned_both i ps bs (header_parts d i (Fits (At d) (test_header (one_keyword (codes "if")))) ps (hs, x, is, h, g) (λ zs f. owned_shape i d (test_header (one_keyword (codes "if"))) refl zs f)) b.1,
  )

  abbrev if_read : Read (List Part)
  if_read ts = with_suite (run (reading d) (test_header (one_keyword (codes "if")))) suite_read ts >>= λ x. put_all x.0 (branches_of (length x.1) (run (reading d)) suite_read i x.1)

  if_statement : (ts : List Leaf) (y : Part × List Leaf) → first_indent ts ≡ i → wrap k.IfStmt (if_read ts) ≡ Some y → GoodStatement (suc d) i y.0 × (ts ≡ leaves_part y.0 ++ y.1)
  if_statement ts y is e =
      let w = wrap_some k.IfStmt (if_read ts) y e in
      let a = bind_some (with_suite (run (reading d) (test_header (one_keyword (codes "if")))) suite_read ts) (λ x. put_all x.0 (branches_of (length x.1) (run (reading d)) suite_read i x.1)) w.0 w.1 in
      let b = put_all_some a.0.0 (branches_of (length a.0.1) (run (reading d)) suite_read i a.0.1) w.0 a.2 in
      let s = header_sound (test_header (one_keyword (codes "if"))) refl refl ts a.0 a.1 in
      let r = branches_sound (length a.0.1) a.0.1 b.0 b.1 in
      let f = if_parts a.0.0 b.0.0 s.0 r.0 in
      let text : ts ≡ all_leaves (a.0.0 ++ b.0.0) ++ b.0.1 = s.1 ∙ (ap (λ (u : List Leaf). all_leaves a.0.0 ++ u) r.1 ∙ (sym (append_assoc (all_leaves a.0.0) (all_leaves b.0.0) b.0.1) ∙ ap (λ (u : List Leaf). u ++ b.0.1) (sym (leaves_join a.0.0 b.0.0)))) in
      subst (λ (z : Part × List Leaf). GoodStatement (suc d) i z.0 × (ts ≡ leaves_part z.0 ++ z.1)) (sym (w.2 ∙ ap (λ (z : List Part × List Leaf). (node_part k.IfStmt z.0, z.1)) b.2))
      (made_statement d i k.IfStmt (a.0.0 ++ b.0.0) ts b.0.1 refl refl f.0 f.1 is text)

  is_line : (other : Kind) → nonterminal_has_kind line other ≡ true → other ≡ k.Line
  is_line other h = same_kind other k.Line (eqb-true _ _ h)

  line_statement : (ts : List Leaf) (y : Part × List Leaf) → first_indent ts ≡ i → reading (suc d) line ts ≡ Some y → GoodStatement (suc d) i y.0 × (ts ≡ leaves_part y.0 ++ y.1)
  line_statement ts y is e =
      let s = (reading_exact (suc d) line refl).sound ts y e in
      let n = node_of d line y.0 (λ l. refl) s.0 in
      let kind : n.0.kind ≡ k.Line = is_line n.0.kind n.2 in
      let there : y.0 ≡ node_part k.Line n.0.parts = n.1 ∙ ap (λ (other : Kind). node_part other n.0.parts) kind in
      let f : Fits (At d) (bzl_shape k.Line) n.0.parts = subst (λ (other : Kind). Fits (At d) (bzl_shape other) n.0.parts) kind n.3 in
      let text : ts ≡ all_leaves n.0.parts ++ y.1 = s.1 ∙ (ap (λ (z : Part). leaves_part z ++ y.1) there ∙ ap (λ (u : List Leaf). u ++ y.1) (node_leaves k.Line n.0.parts)) in
      let made = made_statement d i k.Line n.0.parts ts y.1 refl refl f (owned_shape i d (bzl_shape k.Line) refl n.0.parts f) is text in
      (subst (GoodStatement (suc d) i) (sym there) made.0, s.1)

  abbrev Reads_it : Part → List Leaf → Type 0
  Reads_it x rest =
      (let ts : List Leaf = leaves_part x ++ rest in
      (cond (starts_with (one_keyword (codes "def")) ts) (wrap k.Def (with_suite (run (reading d) def_header) suite_read ts))
      (cond (starts_with (one_keyword (codes "if")) ts) (wrap k.IfStmt (if_read ts))
      (cond (starts_with (one_keyword (codes "for")) ts) (wrap k.ForStmt (with_suite (run (reading d) for_header) suite_read ts)) (reading (suc d) line ts))) ≡ Some (x, rest)))

  by_header : (kind : Kind) (r : Shape) → bzl_shape kind ≡ then_sub suite r → is_deterministic goes r ≡ true → go goes r ≡ [] → (ps : List Part) (rest : List Leaf) → Fits (At d) (bzl_shape kind) ps → AllOwned i ps → NoDeeper i rest → wrap kind (with_suite (run (reading d) r) suite_read (all_leaves ps ++ rest)) ≡ Some (node_part kind ps, rest)
  by_header kind r same ok e ps rest f o p =
      let w = with_of r ps (subst (λ (z : Shape). Fits (At d) z ps) same f) o in
      ap (wrap kind) (header_complete r ok e ps rest w p)

  by_if : (ps : List Part) (rest : List Leaf) → Fits (At d) (bzl_shape k.IfStmt) ps → AllOwned i ps → Past i rest → wrap k.IfStmt (if_read (all_leaves ps ++ rest)) ≡ Some (node_part k.IfStmt ps, rest)
  by_if ps rest f o p =
      let w = test_split (At d) (one_keyword (codes "if")) branches ps f in
      let own = owned_parts i w.0 w.1 (subst (AllOwned i) w.2 o) in
      let regroup : all_leaves ps ++ rest ≡ all_leaves w.0 ++ (all_leaves w.1 ++ rest) = ap (λ (zs : List Part). all_leaves zs ++ rest) w.2 ∙ (ap (λ (u : List Leaf). u ++ rest) (leaves_join w.0 w.1) ∙ append_assoc (all_leaves w.0) (all_leaves w.1) rest) in
      let b = branches_complete (length (all_leaves w.1 ++ rest)) w.1 rest w.4 own.1 p (omega arith) in
      let h = header_complete (test_header (one_keyword (codes "if"))) refl refl w.0 (all_leaves w.1 ++ rest) (good_suite d i (Fits (At d) (test_header (one_keyword (codes "if")))) w.0 w.3 own.0) b.0 in
      let all : if_read (all_leaves w.0 ++ (all_leaves w.1 ++ rest)) ≡ Some (w.0 ++ w.1, rest) = rw (h, b.1) refl in
      ap (wrap k.IfStmt) (ap if_read regroup ∙ (all ∙ ap (λ (zs : List Part). Some (zs, rest)) (sym w.2)))

  starts_kind : (kind : Kind) (ps : List Part) (rest : List Leaf) → nullable (bzl_shape kind) ≡ false → Fits (At d) (bzl_shape kind) ps → starts_with (first (bzl_shape kind)) (leaves_part (node_part kind ps) ++ rest) ≡ true
  starts_kind kind ps rest n f = rw (node_leaves kind ps) (not_empty (At d) (begins d) (bzl_shape kind) ps rest f n)

  by_kind : (kind : Kind) (ps : List Part) (rest : List Leaf) → nonterminal_has_kind stmt kind ≡ true → Fits (At d) (bzl_shape kind) ps → AllOwned i ps → At (suc d) stmt (node_part kind ps) → Past i rest → Reads_it (node_part kind ps) rest
  by_kind k.Def ps rest s f o g p = rw (starts_kind k.Def ps rest refl f) (rw (node_leaves k.Def ps) (by_header k.Def def_header refl refl refl ps rest f o p.0))
  by_kind k.IfStmt ps rest s f o g p =
      let st = starts_kind k.IfStmt ps rest refl f in
      rw (disjoint_at (one_keyword (codes "if")) (one_keyword (codes "def")) _ refl st, st) (rw (node_leaves k.IfStmt ps) (by_if ps rest f o p))
  by_kind k.ForStmt ps rest s f o g p =
      let st = starts_kind k.ForStmt ps rest refl f in
      rw (disjoint_at (one_keyword (codes "for")) (one_keyword (codes "def")) _ refl st, disjoint_at (one_keyword (codes "for")) (one_keyword (codes "if")) _ refl st, st) (rw (node_leaves k.ForStmt ps) (by_header k.ForStmt for_header refl refl refl ps rest f o p.0))
  by_kind k.Line ps rest s f o g p =
      let st = starts_kind k.Line ps rest refl f in
      rw (disjoint_at (starts line) (one_keyword (codes "def")) _ refl st, disjoint_at (starts line) (one_keyword (codes "if")) _ refl st, disjoint_at (starts line) (one_keyword (codes "for")) _ refl st)
      ((reading_exact (suc d) line refl).complete (node_part k.Line ps) rest (refl, g.1, g.2) (starts_none rest))
  by_kind kind ps rest s f o g p = no s

-- ---- statements and suites of each depth

record AllExact (d : ℕ) : Type 0 where
  statements_sound : (i : List ℕ) (ts : List Leaf) (y : Part × List Leaf) → first_indent ts ≡ i → statement d i ts ≡ Some y → GoodStatement d i y.0 × (ts ≡ leaves_part y.0 ++ y.1)
  statements_complete : (i : List ℕ) (x : Part) (rest : List Leaf) → GoodStatement d i x → Past i rest → statement d i (leaves_part x ++ rest) ≡ Some (x, rest)
  suites_sound : (i : List ℕ) (us : List Leaf) (z : Part × List Leaf) → suite_of d i us ≡ Some z → GoodSuite d i z.0 × (us ≡ leaves_part z.0 ++ z.1)
  suites_complete : (i : List ℕ) (x : Part) (rest : List Leaf) → GoodSuite d i x → NoDeeper i rest → suite_of d i (leaves_part x ++ rest) ≡ Some (x, rest)

no_leaf : (d : ℕ) (q : Nonterminal) (l : Leaf) → is_one_of (leaves_at q) l ≡ false → At d q (v.Leaf l) → ⊥
no_leaf d q l e h = both_ways (is_one_of (leaves_at q) l) e h.0

-- a statement begins at its indent
statement_first : (d : ℕ) (i : List ℕ) (x : Part) (rest : List Leaf) → GoodStatement d i x → (starts_with (starts stmt) (leaves_part x ++ rest) ≡ true) × (first_indent (leaves_part x ++ rest) ≡ i) × (1 ≤ length (leaves_part x))
statement_first d i x rest h =
    let some_leaf = full_front (starts stmt) (leaves_part x) (begins d stmt x [] h.0) in
    let there : first_indent (leaves_part x) ≡ i =
    elim (leaf_or_node x) [
      | inl (l, is) ↦ absurd (no_leaf d stmt l refl (rw is at h.0))
      | inr (n, is) ↦ (let g : Indented i (v.Node n) = rw is at h.1 in ap (λ (z : Part). first_indent (leaves_part z)) is ∙ (ap first_indent (leaves_Node n) ∙ (indented_parts i n g).0))
    ] in
    (begins d stmt x rest h.0, front_indent (leaves_part x) rest some_leaf ∙ there, some_leaf)

statement_opens : (d : ℕ) (i : List ℕ) (x : Part) (rest : List Leaf) → GoodStatement d i x → (begins_at i (leaves_part x ++ rest) ≡ true) × Past i (leaves_part x ++ rest)
statement_opens d i x rest h =
    let f = statement_first d i x rest h in
    (and_from (starts_with (starts stmt) (leaves_part x ++ rest)) _ f.0 (text_same (first_indent (leaves_part x ++ rest)) i f.1), statement_past i (leaves_part x ++ rest) f.0 f.1)

while_some : (next : Read Part) (more : List Leaf → Bool) (n : ℕ) (ts : List Leaf) (y : List Part × List Leaf) → more ts ≡ true → 1 ≤ n → while_next n more next ts ≡ Some y → (x : Part) × (xs : List Part) × (y.0 ≡ x ∷ xs)
while_some next more zero ts y m le e = absurd (omega arith)
while_some next more (suc n) ts y m le e =
    elim (cond_parts (more ts) (next ts >>= λ x. with_part_first x.0 (while_next n more next x.1)) (Some ([], ts)) (Some y) e) [
      | inl h ↦
          let a = bind_some (next ts) (λ x. with_part_first x.0 (while_next n more next x.1)) y h.1 in
          let b = put_some a.0.0 (while_next n more next a.0.1) y a.2 in
          (a.0.0, b.0.0, ap (λ (z : List Part × List Leaf). z.0) b.2)
      | inr h ↦ absurd (both_ways (more ts) h.0 m)
    ]

statements_fit : (d : ℕ) (i : List ℕ) (xs : List Part) → AllByRecursion (GoodStatement d i) xs → Several (At d stmt) (Fits (At d) done) xs
statements_fit d i [] h = tt
statements_fit d i (x ∷ xs) h = inr (h.0.0, statements_fit d i xs h.1)

statements_indented : (d : ℕ) (i : List ℕ) (xs : List Part) → AllByRecursion (GoodStatement d i) xs → AreIndented i xs
statements_indented d i [] h = tt
statements_indented d i (x ∷ xs) h = (h.0.1, statements_indented d i xs h.1)

good_statements : (d : ℕ) (i : List ℕ) (xs : List Part) → Several (At d stmt) (Fits (At d) done) xs → AreIndented i xs → AllByRecursion (GoodStatement d i) xs
good_statements d i [] h g = tt
good_statements d i (x ∷ xs) (inl h) g = absurd h
good_statements d i (x ∷ xs) (inr h) g = ((h.0, g.0), good_statements d i xs h.1 g.1)

module _ (d : ℕ) (exact : AllExact d) where
  -- ---- suites

  suite_step : (i : List ℕ) (t : Leaf) (us : List Leaf) (j : List ℕ) (ps : List Part) (rest : List Leaf) → is_one_of newline t ≡ true → first_indent us ≡ j → is_deeper i j ≡ true → begins_at j us ≡ true → while_next (length us) (begins_at j) (statement d j) us ≡ Some (ps, rest)
      → suite_of (suc d) i (t ∷ us) ≡ Some (node_part k.Suite (v.Leaf t ∷ ps), rest)
  suite_step i t us j ps rest n is =
      subst (λ (j : List ℕ). is_deeper i j ≡ true → begins_at j us ≡ true → while_next (length us) (begins_at j) (statement d j) us ≡ Some (ps, rest) → suite_of (suc d) i (t ∷ us) ≡ Some (node_part k.Suite (v.Leaf t ∷ ps), rest)) is
      (λ a b c. rw (n, a, b, c) refl)

  line_step : (i : List ℕ) (us : List Leaf) → starts_with newline us ≡ false → 1 ≤ length us → suite_of (suc d) i us ≡ reading (suc d) line us
  line_step i [] h le = absurd (omega arith)
  line_step i (t ∷ us) h le = rw h refl

  block_sound : (i : List ℕ) (t : Leaf) (us : List Leaf) (z : Part × List Leaf) → is_one_of newline t ≡ true → is_deeper i (first_indent us) ≡ true → begins_at (first_indent us) us ≡ true
      → wrap k.Suite (with_part_first (v.Leaf t) (while_next (length us) (begins_at (first_indent us)) (statement d (first_indent us)) us)) ≡ Some z → GoodSuite (suc d) i z.0 × (t ∷ us ≡ leaves_part z.0 ++ z.1)
  block_sound i t us z n deep opens e =
      let j : List ℕ = first_indent us in
      let w = wrap_some k.Suite (with_part_first (v.Leaf t) (while_next (length us) (begins_at j) (statement d j) us)) z e in
      let p = put_some (v.Leaf t) (while_next (length us) (begins_at j) (statement d j) us) w.0 w.1 in
      let s = while_sound (GoodStatement d j) (statement d j) (begins_at j) (λ vs y m r. exact.statements_sound j vs y (same_text (first_indent vs) j (and_parts (starts_with (starts stmt) vs) _ m).1) r) (length us) us p.0 p.1 in
      let size : 1 ≤ length us = full_leaf (starts stmt) us (and_parts (starts_with (starts stmt) us) _ opens).0 in
      let one = while_some (statement d j) (begins_at j) (length us) us p.0 opens size p.1 in
      let under = deeper_is i j deep in
      let ps : List Part = v.Leaf t ∷ p.0.0 in
      let fits : Fits (At d) (bzl_shape k.Suite) ps = (n, suite_fits p.0.0 one s.0) in
      let own : Owned i (node_part k.Suite ps) = parts_suite i ps under.0 under.1 (subst (λ (u : List ℕ). AreIndented u ps) under.2 (tt, statements_indented d j p.0.0 s.0)) in
      let is : z ≡ (node_part k.Suite ps, p.0.1) = w.2 ∙ ap (λ (u : List Part × List Leaf). (node_part k.Suite u.0, u.1)) p.2 in
      subst (λ (u : Part × List Leaf). GoodSuite (suc d) i u.0 × (t ∷ us ≡ leaves_part u.0 ++ u.1)) (sym is)
      ((made_node d suite k.Suite ps refl fits, own), ap (λ (ls : List Leaf). t ∷ ls) s.1 ∙ ap (λ (ls : List Leaf). ls ++ p.0.1) (sym (node_leaves k.Suite ps)))
    where
      full_leaf : (s : List Terminal) (ts : List Leaf) → starts_with s ts ≡ true → 1 ≤ length ts
      full_leaf s [] h = no h
      full_leaf s (t ∷ ts) h = omega arith

      suite_fits : (xs : List Part) → (x : Part) × (ys : List Part) × (xs ≡ x ∷ ys) → AllByRecursion (GoodStatement d (first_indent us)) xs → Fits (At d) (sub stmt (each stmt done)) xs
      suite_fits [] (x, ys, e) g = absurd cc
      suite_fits (y ∷ xs) e g = (g.0.0, statements_fit d (first_indent us) xs g.1)

  one_line_sound : (i : List ℕ) (us : List Leaf) (z : Part × List Leaf) → reading (suc d) line us ≡ Some z → GoodSuite (suc d) i z.0 × (us ≡ leaves_part z.0 ++ z.1)
  one_line_sound i us z e =
      let s = (reading_exact (suc d) line refl).sound us z e in
      let n = node_of d line z.0 (λ l. refl) s.0 in
      let there : z.0 ≡ node_part k.Line n.0.parts = n.1 ∙ ap (λ (other : Kind). node_part other n.0.parts) (same_kind n.0.kind k.Line (eqb-true _ _ n.2)) in
      let g : At (suc d) line (node_part k.Line n.0.parts) = subst (At (suc d) line) there s.0 in
      (subst (GoodSuite (suc d) i) (sym there) ((refl, g.1, g.2), tt), s.1)

  suite_sound : (i : List ℕ) (us : List Leaf) (z : Part × List Leaf) → suite_of (suc d) i us ≡ Some z → GoodSuite (suc d) i z.0 × (us ≡ leaves_part z.0 ++ z.1)
  suite_sound i [] z e = absurd cc
  suite_sound i (t ∷ us) z e =
      elim (cond_parts (is_one_of newline t) (cond (is_deeper i (first_indent us) && begins_at (first_indent us) us) (wrap k.Suite (with_part_first (v.Leaf t) (while_next (length us) (begins_at (first_indent us)) (statement d (first_indent us)) us))) None) (reading (suc d) line (t ∷ us)) (Some z) e) [
        | inl h ↦
            let g = if_some (is_deeper i (first_indent us) && begins_at (first_indent us) us) (wrap k.Suite (with_part_first (v.Leaf t) (while_next (length us) (begins_at (first_indent us)) (statement d (first_indent us)) us))) z h.1 in
            let b = and_parts (is_deeper i (first_indent us)) (begins_at (first_indent us) us) g.0 in
            block_sound i t us z h.0 b.0 b.1 g.1
        | inr h ↦ one_line_sound i (t ∷ us) z h.1
      ]

  block_complete : (i : List ℕ) (ps : List Part) (rest : List Leaf) → Fits (At d) (bzl_shape k.Suite) ps → Owned i (node_part k.Suite ps) → NoDeeper i rest → suite_of (suc d) i (all_leaves ps ++ rest) ≡ Some (node_part k.Suite ps, rest)
  block_complete i [] rest f o p = absurd f
  block_complete i (a ∷ []) rest f o p = absurd f.1
  block_complete i (a ∷ x ∷ xs) rest f o p =
      let t = token_leaf newline a f.0 in
      let u = suite_parts i (a ∷ x ∷ xs) o in
      let j : List ℕ = i ++ u.0 ∷ u.1 in
      let good : AllByRecursion (GoodStatement d j) (x ∷ xs) = ((f.1.0, u.2.1.0), good_statements d j xs f.1.1 u.2.1.1) in
      let us : List Leaf = all_leaves (x ∷ xs) ++ rest in
      let first_one = statement_first d j x (all_leaves xs ++ rest) good.0 in
      let regroup : us ≡ leaves_part x ++ (all_leaves xs ++ rest) = append_assoc (leaves_part x) (all_leaves xs) rest in
      let opens : begins_at j us ≡ true = ap (begins_at j) regroup ∙ (statement_opens d j x (all_leaves xs ++ rest) good.0).0 in
      let w = while_complete (GoodStatement d j) (statement d j) (begins_at j) (Past j) (λ y r h q. exact.statements_complete j y r h q) (λ y r h. statement_opens d j y r h) (λ y h. (statement_first d j y [] h).2)
      (length us) (x ∷ xs) rest good (longer i u.0 u.1 rest p) (no_statement i u.0 u.1 rest p) (omega arith) in
      rw t.1 (suite_step i t.0 us j (x ∷ xs) rest t.2 (ap first_indent regroup ∙ first_one.1) (is_deeper_at i u.0 u.1) opens w.1)

  suite_by_kind : (i : List ℕ) (kind : Kind) (ps : List Part) (rest : List Leaf) → nonterminal_has_kind suite kind ≡ true → Fits (At d) (bzl_shape kind) ps → GoodSuite (suc d) i (node_part kind ps) → NoDeeper i rest → suite_of (suc d) i (leaves_part (node_part kind ps) ++ rest) ≡ Some (node_part kind ps, rest)
  suite_by_kind i k.Suite ps rest s f g p = ap (λ (ls : List Leaf). suite_of (suc d) i (ls ++ rest)) (node_leaves k.Suite ps) ∙ block_complete i ps rest f g.1 p
  suite_by_kind i k.Line ps rest s f g p =
      let st : starts_with (starts line) (leaves_part (node_part k.Line ps) ++ rest) ≡ true = begins (suc d) line (node_part k.Line ps) rest (refl, g.0.1, g.0.2) in
      let size = full_row d (bzl_shape k.Line) ps refl f in
      line_step i (leaves_part (node_part k.Line ps) ++ rest) (disjoint_at (starts line) newline (leaves_part (node_part k.Line ps) ++ rest) refl st) (omega (arith, size, ap length (node_leaves k.Line ps), length-append (leaves_part (node_part k.Line ps)) rest))
      ∙ (reading_exact (suc d) line refl).complete (node_part k.Line ps) rest (refl, g.0.1, g.0.2) (starts_none rest)
  suite_by_kind i kind ps rest s f g p = no s

  suite_complete : (i : List ℕ) (x : Part) (rest : List Leaf) → GoodSuite (suc d) i x → NoDeeper i rest → suite_of (suc d) i (leaves_part x ++ rest) ≡ Some (x, rest)
  suite_complete i x rest h p =
      let n = node_of d suite x (λ l. refl) h.0 in
      let g : GoodSuite (suc d) i (v.Node n.0) = subst (GoodSuite (suc d) i) n.1 h in
      subst (λ (z : Part). suite_of (suc d) i (leaves_part z ++ rest) ≡ Some (z, rest)) (sym n.1) (suite_by_kind i n.0.kind n.0.parts rest n.2 n.3 g p)

  -- ---- statements

  statement_sound : (i : List ℕ) (ts : List Leaf) (y : Part × List Leaf) → first_indent ts ≡ i → statement (suc d) i ts ≡ Some y → GoodStatement (suc d) i y.0 × (ts ≡ leaves_part y.0 ++ y.1)
  statement_sound i ts y is e =
      let so : (us : List Leaf) (z : Part × List Leaf) → suite_of d i us ≡ Some z → GoodSuite d i z.0 × (us ≡ leaves_part z.0 ++ z.1) = exact.suites_sound i in
      let co : (x : Part) (rest : List Leaf) → GoodSuite d i x → NoDeeper i rest → suite_of d i (leaves_part x ++ rest) ≡ Some (x, rest) = exact.suites_complete i in
      let by_for = cond (starts_with (one_keyword (codes "for")) ts) (wrap k.ForStmt (with_suite (run (reading d) for_header) (suite_of d i) ts)) (reading (suc d) line ts) in
      let by_if_ = cond (starts_with (one_keyword (codes "if")) ts) (wrap k.IfStmt (if_read d i (suite_of d i) so co ts)) by_for in
      elim (cond_parts (starts_with (one_keyword (codes "def")) ts) (wrap k.Def (with_suite (run (reading d) def_header) (suite_of d i) ts)) by_if_ (Some y) e) [
        | inl h ↦ header_statement d i (suite_of d i) so co k.Def def_header refl refl refl refl refl (tt, tt) refl ts y is h.1
        | inr h ↦ elim (cond_parts (starts_with (one_keyword (codes "if")) ts) (wrap k.IfStmt (if_read d i (suite_of d i) so co ts)) by_for (Some y) h.1) [
          | inl g ↦ if_statement d i (suite_of d i) so co ts y is g.1
          | inr g ↦ elim (cond_parts (starts_with (one_keyword (codes "for")) ts) (wrap k.ForStmt (with_suite (run (reading d) for_header) (suite_of d i) ts)) (reading (suc d) line ts) (Some y) g.1) [
            | inl f ↦ header_statement d i (suite_of d i) so co k.ForStmt for_header refl refl refl refl refl tt refl ts y is f.1
            | inr f ↦ line_statement d i (suite_of d i) so co ts y is f.1
          ]
        ]
      ]

  statement_complete : (i : List ℕ) (x : Part) (rest : List Leaf) → GoodStatement (suc d) i x → Past i rest → statement (suc d) i (leaves_part x ++ rest) ≡ Some (x, rest)
  statement_complete i x rest h p =
      let n = node_of d stmt x (λ l. refl) h.0 in
      let g : GoodStatement (suc d) i (v.Node n.0) = subst (GoodStatement (suc d) i) n.1 h in
      let own = (indented_parts i n.0 g.1).1 in
      subst (λ (z : Part). statement (suc d) i (leaves_part z ++ rest) ≡ Some (z, rest)) (sym n.1)
      (by_kind d i (suite_of d i) (exact.suites_sound i) (exact.suites_complete i) n.0.kind n.0.parts rest n.2 n.3 own g.0 p)

all_exact : (d : ℕ) → AllExact d
all_exact zero = record {
  statements_sound = λ i ts y is e. absurd (none-some y e);
  statements_complete = λ i x rest h p. absurd (none_at_zero stmt x (λ l. refl) h.0);
  suites_sound = λ i us z e. absurd (none-some z e);
  suites_complete = λ i x rest h p. absurd (none_at_zero suite x (λ l. refl) h.0);
}
  where
    none_at_zero : (q : Nonterminal) (x : Part) → ((l : Leaf) → is_one_of (leaves_at q) l ≡ false) → At 0 q x → ⊥
    none_at_zero q x none_is h =
        elim (leaf_or_node x) [
          | inl (l, is) ↦ no_leaf 0 q l (none_is l) (rw is at h)
          | inr (n, is) ↦ no_node q n (rw is at h)
        ]
all_exact (suc d) = let x = all_exact d in record { statements_sound = statement_sound d x; statements_complete = statement_complete d x; suites_sound = suite_sound d x; suites_complete = suite_complete d x }

-- ---- what is read takes a leaf at least

pub statement_takes : (d : ℕ) (i : List ℕ) (ts : List Leaf) (y : Part × List Leaf) → first_indent ts ≡ i → statement d i ts ≡ Some y → suc (length y.1) ≤ length ts
statement_takes d i ts y is e =
    let s = (all_exact d).statements_sound i ts y is e in
    let f = statement_first d i y.0 [] s.0 in
    omega (arith, f.2, ap length s.1, length-append (leaves_part y.0) y.1)

pub owner_takes : (d : ℕ) (i : List ℕ) (r : Shape) → is_deterministic goes r ≡ true → go goes r ≡ [] → nullable r ≡ false → (ts : List Leaf) (y : List Part × List Leaf) → with_suite (run (reading d) r) (suite_of d i) ts ≡ Some y → suc (length y.1) ≤ length ts
owner_takes d i r ok e n ts y h =
    let s = header_sound d i (suite_of d i) ((all_exact d).suites_sound i) ((all_exact d).suites_complete i) r ok e ts y h in
    let size = full_row d r s.0.0 n s.0.3 in
    let cut : all_leaves y.0 ≡ all_leaves s.0.0 ++ all_leaves (s.0.1 ∷ []) = ap all_leaves s.0.2 ∙ leaves_join s.0.0 (s.0.1 ∷ []) in
    omega (arith, size, ap length s.1, length-append (all_leaves y.0) y.1, ap length cut, length-append (all_leaves s.0.0) (all_leaves (s.0.1 ∷ [])))

-- ---- files

end_past : (t : Leaf) → is_one_of end t ≡ true → Past [] (t ∷ []) × (begins_at [] (t ∷ []) ≡ false)
end_past t h =
    let off = disjoint_at end (starts stmt ++ alternatives) (t ∷ []) refl h in
    let off_one = disjoint_at end (starts stmt) (t ∷ []) refl h in
    let off_other = disjoint_at end alternatives (t ∷ []) refl h in
    ((λ e. absurd (both_ways (starts_with (starts stmt ++ alternatives) (t ∷ [])) off e), λ e is. both_ways (starts_with alternatives (t ∷ [])) off_other e), rw off_one refl)

file_split : (d : ℕ) (ps : List Part) → Several (At d stmt) (Fits (At d) (tok end done)) ps → AreIndented [] ps → (xs : List Part) × (t : Leaf) × (ps ≡ xs ++ v.Leaf t ∷ []) × AllByRecursion (GoodStatement d []) xs × (is_one_of end t ≡ true)
file_split d [] h g = absurd h
file_split d (x ∷ []) (inl h) g = let t = token_leaf end x h.0 in ([], t.0, ap (λ (z : Part). z ∷ []) t.1, tt, t.2)
file_split d (x ∷ y ∷ ys) (inl h) g = absurd h.1
file_split d (x ∷ xs) (inr h) g = let w = file_split d xs h.1 g.1 in (x ∷ w.0, w.1, ap (λ (zs : List Part). x ∷ zs) w.2, ((h.0, g.0), w.3), w.4)

file_join : (d : ℕ) (xs ps : List Part) → AllByRecursion (GoodStatement d []) xs → Fits (At d) (tok end done) ps → Several (At d stmt) (Fits (At d) (tok end done)) (xs ++ ps)
file_join d [] [] h g = absurd g
file_join d [] (p ∷ ps) h g = inl g
file_join d (x ∷ xs) ps h g = inr (h.0.0, file_join d xs ps h.1 g)

end_indented : (ps : List Part) (d : ℕ) → Fits (At d) (tok end done) ps → AreIndented [] ps
end_indented [] d h = absurd h
end_indented (x ∷ y ∷ ps) d h = absurd h.1
end_indented (x ∷ []) d h = let t = token_leaf end x h.0 in (rw t.1 tt, tt)

file_indented : (d : ℕ) (xs ps : List Part) → AllByRecursion (GoodStatement d []) xs → AreIndented [] ps → AreIndented [] (xs ++ ps)
file_indented d [] ps h g = g
file_indented d (x ∷ xs) ps h g = (h.0.1, file_indented d xs ps h.1 g)

pub read_complete : (d : ℕ) (n : Node) → IsFile n → AreIndented [] n.parts → depth_of n ≤ suc d → read_file d (leaves_of n) ≡ Some n
read_complete d n h g deep =
    let s : Fits (At d) (bzl_shape k.File) n.parts = join d (bzl_shape k.File) n.parts (rw h.root at h.shapes.0) h.shapes.1 (omega arith) in
    let w = file_split d n.parts s g in
    let last : List Leaf = w.1 ∷ [] in
    let text : leaves_of n ≡ all_leaves w.0 ++ last = ap all_leaves w.2 ∙ leaves_join w.0 (v.Leaf w.1 ∷ []) in
    let past = end_past w.1 w.4 in
    let x = while_complete (GoodStatement d []) (statement d []) (begins_at []) (Past []) (λ y r k q. (all_exact d).statements_complete [] y r k q) (λ y r k. statement_opens d [] y r k) (λ y k. (statement_first d [] y [] k).2)
    (length (all_leaves w.0 ++ last)) w.0 last w.3 past.0 past.1 (omega arith) in
    let all : read_file d (all_leaves w.0 ++ last) ≡ Some (record { kind = k.File; parts = w.0 ++ v.Leaf w.1 ∷ [] }) = rw (x.1, w.4) refl in
    ap (read_file d) text ∙ (all ∙ (ap (λ (ps : List Part). let m : Node = record { kind = k.File; parts = ps } in Some m) (sym w.2) ∙ ap (λ (kind : Kind). let m : Node = record { kind = kind; parts = n.parts } in Some m) (sym h.root)))

if_all_some : (x : List Part × List Leaf) (n : Node) → if_all x ≡ Some n → (x.1 ≡ []) × (record { kind = k.File; parts = x.0 } ≡ n)
if_all_some (ps, []) n e = (refl, same_Some _ n e)
if_all_some (ps, t ∷ ts) n e = absurd (none-some n e)

sound_file : (d : ℕ) (ts : List Leaf) (ps : List Part) → Fits (At d) (bzl_shape k.File) ps → AreIndented [] ps → ts ≡ all_leaves ps ++ [] → let n : Node = record { kind = k.File; parts = ps } in IsFile n × AreIndented [] n.parts × (leaves_of n ≡ ts) × (depth_of n ≤ suc d)
sound_file d ts ps f g e = let w = split d (bzl_shape k.File) ps f in (record { root = refl; shapes = (w.0, w.1) }, g, sym (e ∙ append-nil (all_leaves ps)), omega (arith, w.2))

pub read_sound : (d : ℕ) (ts : List Leaf) (n : Node) → read_file d ts ≡ Some n → IsFile n × AreIndented [] n.parts × (leaves_of n ≡ ts) × (depth_of n ≤ suc d)
read_sound d ts n e =
    let x = bind_some (statements_of d ts) if_all n e in
    let w = if_all_some x.0 n x.2 in
    let a = bind_some (while_next (length ts) (begins_at []) (statement d []) ts) (λ y. put_all y.0 (run (reading d) (tok end done) y.1)) x.0 x.1 in
    let b = put_all_some a.0.0 (run (reading d) (tok end done) a.0.1) x.0 a.2 in
    let s = while_sound (GoodStatement d []) (statement d []) (begins_at []) (λ vs y m r. (all_exact d).statements_sound [] vs y (same_text (first_indent vs) [] (and_parts (starts_with (starts stmt) vs) _ m).1) r) (length ts) ts a.0 a.1 in
    let z = (run_exact (At d) (begins d) goes (reading d) (reading_exact d) (tok end done) refl).sound a.0.1 b.0 b.1 in
    let text : ts ≡ all_leaves (a.0.0 ++ b.0.0) ++ [] =
    s.1 ∙ (ap (λ (u : List Leaf). all_leaves a.0.0 ++ u) z.1 ∙ (sym (append_assoc (all_leaves a.0.0) (all_leaves b.0.0) b.0.1) ∙ (ap (λ (u : List Leaf). u ++ b.0.1) (sym (leaves_join a.0.0 b.0.0)) ∙ ap (λ (u : List Leaf). all_leaves (a.0.0 ++ b.0.0) ++ u) (ap (λ (y : List Part × List Leaf). y.1) (sym b.2) ∙ w.0)))) in
    let f = sound_file d ts (a.0.0 ++ b.0.0) (file_join d a.0.0 b.0.0 s.0 z.0) (file_indented d a.0.0 b.0.0 s.0 (end_indented b.0.0 d z.0)) text in
    subst (λ (m : Node). IsFile m × AreIndented [] m.parts × (leaves_of m ≡ ts) × (depth_of m ≤ suc d)) (ap (λ (y : List Part × List Leaf). let m : Node = record { kind = k.File; parts = y.0 } in m) (sym b.2) ∙ w.1) f
