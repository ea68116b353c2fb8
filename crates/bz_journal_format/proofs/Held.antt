-- The readers of leaves, nodes and parts are exact.
use Rattle.bz_journal_format.proofs.Words.{[], ◌++◌, ◌<◌, ◌>>=◌, ◌↔◌, ◌∙◌, ◌∷◌, ◌≡◌, ◌≤◌, ◌⊎◌, after_mark, AllByRecursion, ap, append-nil, append_assoc, AreSmallParts, arith, choice, Class, class_number, codes, deepest, either, end_of-Part, field_at, flat_map, held_at, held_row_text, inl, inr, IsExact, IsHeld, IsSmallPart, items-the_row-Part, Kind, kind_number, last_number, leaf_at, leaf_read, length, line_feed, List, listed_at, more_of-Part, Node, node_at, node_line, node_read, nodes_at, None, number_at, number_limit, numbered_class_at, numbered_kind_at, Option, Part, part_text, Reader, refl, row_length, Row_of-Part, Some, space, spaced_number, subst, suc, sym, zero, ℕ}
use Rattle.bz_lex.specs.declared.leaf.Leaf.{Leaf}
use Rattle.bz_grammar.specs.declared.tree.Part.TheVariants as p
use Rattle.bz_grammar.proofs.{Nested.row_of, Nested.items_of_row, Nested.leaf_or_node, Spells.depth_Node}
use Rattle.bz_journal_format.proofs.{Numbers.numbered_class_exact, Numbers.numbered_kind_exact, Chains.after_own, Chains.after_answered, Chains.bind_some, Chains.done_exact, Chains.last_exact, Chains.same_read, Chains.so, Chains.then_exact, Counting.number_exact, Formats.field_exact, Formats.listed_exact}

-- ---- leaves

abbrev leaf_of : Class → List ℕ → List ℕ → Leaf
leaf_of class gap token = record { class = class; gap = gap; token = token }

abbrev pub leaf_body : Leaf → List ℕ
leaf_body l = spaced_number (class_number l.class) ++ (spaced_number (length l.gap) ++ (last_number (length l.token) ++ (l.gap ++ (l.token ++ line_feed ∷ []))))

abbrev pub IsSmallLeaf : Leaf → Type 0
IsSmallLeaf l = (length l.gap < number_limit) × (length l.token < number_limit)

abbrev HasToken : Class → List ℕ → ℕ → Leaf → Type 0
HasToken class gap t x = (length x.token ≡ t) × (x ≡ leaf_of class gap x.token)

abbrev HasGap : Class → ℕ → ℕ → Leaf → Type 0
HasGap class g t x = (length x.gap ≡ g) × HasToken class x.gap t x

abbrev HasTokenLength : Class → ℕ → Leaf → Type 0
HasTokenLength class g x = (length x.token < number_limit) × HasGap class g (length x.token) x

abbrev HasGapLength : Class → Leaf → Type 0
HasGapLength class x = (length x.gap < number_limit) × HasTokenLength class (length x.gap) x

token_exact : (class : Class) (gap : List ℕ) (t : ℕ) → IsExact Leaf (λ x. x.token ++ line_feed ∷ []) (HasToken class gap t) (λ s. field_at t s >>= λ token. after_mark (line_feed ∷ []) token.1 >>= λ r. Some (leaf_of class gap token.0, r))
token_exact class gap t =
    then_exact (λ x. x.token) (λ z. z) (λ z. length z ≡ t) (field_at t) (λ x. line_feed ∷ []) (λ token x. x ≡ leaf_of class gap token) (λ token s. after_mark (line_feed ∷ []) s >>= λ r. Some (leaf_of class gap token, r))
    (λ token x h. ap (λ y. y.token) h) (field_exact t) (λ token. last_exact (line_feed ∷ []) (leaf_of class gap token))

gap_exact : (class : Class) (g t : ℕ) → IsExact Leaf (λ x. x.gap ++ (x.token ++ line_feed ∷ [])) (HasGap class g t) (λ s. field_at g s >>= λ gap. field_at t gap.1 >>= λ token. after_mark (line_feed ∷ []) token.1 >>= λ r. Some (leaf_of class gap.0 token.0, r))
gap_exact class g t =
    then_exact (λ x. x.gap) (λ z. z) (λ z. length z ≡ g) (field_at g) (λ x. x.token ++ line_feed ∷ []) (λ gap x. HasToken class gap t x) (λ gap s. field_at t s >>= λ token. after_mark (line_feed ∷ []) token.1 >>= λ r. Some (leaf_of class gap token.0, r))
    (λ gap x h. ap (λ y. y.gap) h.1) (field_exact g) (λ gap. token_exact class gap t)

pub leaf_exact : IsExact Leaf leaf_body IsSmallLeaf leaf_at
unfolding leaf_at
leaf_exact =
    let lengths = λ (class : Class) (g : ℕ). then_exact (λ x. length x.token) last_number (λ n. n < number_limit) (number_at line_feed) (λ x. x.gap ++ (x.token ++ line_feed ∷ [])) (λ t x. HasGap class g t x) (λ t s. field_at g s >>= λ gap. field_at t gap.1 >>= λ token. after_mark (line_feed ∷ []) token.1 >>= λ r. Some (leaf_of class gap.0 token.0, r))
    (λ t x h. h.1.0) (number_exact line_feed refl) (λ t. gap_exact class g t) in
    let first = λ (class : Class). then_exact (λ x. length x.gap) spaced_number (λ n. n < number_limit) (number_at space) (λ x. last_number (length x.token) ++ (x.gap ++ (x.token ++ line_feed ∷ []))) (λ g x. HasTokenLength class g x) (λ g s. number_at line_feed s >>= λ tokenlen. field_at g tokenlen.1 >>= λ gap. field_at tokenlen.0 gap.1 >>= λ token. after_mark (line_feed ∷ []) token.1 >>= λ r. Some (leaf_of class gap.0 token.0, r))
    (λ g x h. h.1.0) (number_exact space refl) (lengths class) in
    let whole = then_exact (λ x. x.class) (λ k. spaced_number (class_number k)) (λ k. Unit {0}) numbered_class_at (λ x. spaced_number (length x.gap) ++ (last_number (length x.token) ++ (x.gap ++ (x.token ++ line_feed ∷ [])))) HasGapLength (λ class s. number_at space s >>= λ gaplen. number_at line_feed gaplen.1 >>= λ tokenlen. field_at gaplen.0 tokenlen.1 >>= λ gap. field_at tokenlen.0 gap.1 >>= λ token. after_mark (line_feed ∷ []) token.1 >>= λ r. Some (leaf_of class gap.0 token.0, r))
    (λ class x h. ap (λ y. y.class) h.1.1.1.1) numbered_class_exact first in
    so (λ x. refl) (λ x h. (h.1.0, h.1.1.0)) (λ x h. (tt, (h.0, (h.1, (refl, (refl, refl)))))) whole

-- ---- a node by the list of its parts

text_rows : (m : _) (r : Row_of-Part m) → held_row_text r ≡ flat_map part_text (items-the_row-Part m r)
text_rows m end_of-Part = refl
text_rows m (more_of-Part x rest) = ap (λ t. part_text x ++ t) (text_rows _ rest)

length_rows : (m : _) (r : Row_of-Part m) → row_length r ≡ length (items-the_row-Part m r)
length_rows m end_of-Part = refl
length_rows m (more_of-Part x rest) = ap suc (length_rows _ rest)

small_rows : (m : _) (r : Row_of-Part m) → AreSmallParts r ↔ AllByRecursion IsSmallPart (items-the_row-Part m r)
small_rows m end_of-Part = (λ h. h, λ h. h)
small_rows m (more_of-Part x rest) = let i = small_rows _ rest in (λ h. (h.0, i.0 h.1), λ h. (h.0, i.1 h.1))

pub text_Node : (n : Node) → part_text (p.Node n) ≡ node_line n.kind (length n.parts) ++ flat_map part_text n.parts
text_Node n =
    ap (λ t. node_line n.kind (row_length (row_of n).1) ++ t) (text_rows _ (row_of n).1 ∙ ap (flat_map part_text) (items_of_row n))
    ∙ ap (λ k. node_line n.kind k ++ flat_map part_text n.parts) (length_rows _ (row_of n).1 ∙ ap length (items_of_row n))

abbrev pub IsSmallNode : Node → Type 0
IsSmallNode n = (length n.parts < number_limit) × AllByRecursion IsSmallPart n.parts

small_Node : (n : Node) → IsSmallPart (p.Node n) ↔ IsSmallNode n
small_Node n =
    let len : row_length (row_of n).1 ≡ length n.parts = length_rows _ (row_of n).1 ∙ ap length (items_of_row n) in
    let i = small_rows _ (row_of n).1 in (
      λ h. (subst (λ k. k < number_limit) len h.0, subst (AllByRecursion IsSmallPart) (items_of_row n) (i.0 h.1)),
      λ h. (subst (λ k. k < number_limit) (sym len) h.0, i.1 (subst (AllByRecursion IsSmallPart) (sym (items_of_row n)) h.1)),
    )

-- ---- a leaf or a node

abbrev pub node_body : Node → List ℕ
node_body n = spaced_number (kind_number n.kind) ++ ((last_number (length n.parts)) ++ flat_map part_text n.parts)

leaf_begins : (l : Leaf) → part_text (p.Leaf l) ≡ codes "leaf " ++ leaf_body l
leaf_begins l = regroup (codes "leaf ") (spaced_number (class_number l.class)) (spaced_number (length l.gap)) (last_number (length l.token)) l.gap l.token (line_feed ∷ [])
  where
    regroup : (m a b c d e f : List ℕ) → m ++ a ++ b ++ c ++ d ++ e ++ f ≡ m ++ (a ++ (b ++ (c ++ (d ++ (e ++ f)))))
    regroup m a b c d e f = simp append_assoc

node_begins : (n : Node) → part_text (p.Node n) ≡ codes "node " ++ node_body n
node_begins n = text_Node n ∙ regroup (codes "node ") (spaced_number (kind_number n.kind)) (last_number (length n.parts)) (flat_map part_text n.parts)
  where
    regroup : (m a b c : List ℕ) → m ++ a ++ b ++ c ≡ m ++ (a ++ (b ++ c))
    regroup m a b c = simp append_assoc

either_some : {A B : Type 0} (o : Option A) (f : A → Option B) (u : Option B) (y : B) → either o f u ≡ Some y → ((a : A) × (o ≡ Some a) × (f a ≡ Some y)) ⊎ ((o ≡ None) × (u ≡ Some y))
either_some None f u y e = inr (refl, e)
either_some (Some a) f u y e = inl (a, refl, e)

no_leaf : (t : List ℕ) → after_mark (codes "leaf ") (codes "node " ++ t) ≡ None
unfolding after_mark
no_leaf t = refl

-- the depth and the numbers of a node's parts
abbrev pub IsHeldNode : ℕ → Node → Type 0
IsHeldNode depth n = (suc (deepest n.parts) ≤ depth) × IsSmallNode n

held_Leaf : (d : ℕ) (l : Leaf) → IsHeld d (p.Leaf l) ↔ IsSmallLeaf l
held_Leaf d l = (λ h. h.1, λ h. (omega arith, h))

held_Node : (d : ℕ) (n : Node) → IsHeld d (p.Node n) ↔ IsHeldNode d n
held_Node d n = (
  λ h. (omega (arith, h.0, depth_Node n), (small_Node n).0 h.1),
  λ h. (omega (arith, h.0, depth_Node n), (small_Node n).1 h.1),
)

module _ (d : ℕ) (nodes : Reader Node) (exact : IsExact Node node_body (IsHeldNode d) nodes) where
  choice_sound : (s : List ℕ) (x : Part) (rest : List ℕ) → choice nodes s ≡ Some (x, rest) → IsHeld d x × (s ≡ part_text x ++ rest)
  unfolding choice
  choice_sound s x rest e = elim (either_some (after_mark (codes "leaf ") s) (λ r. leaf_at r >>= leaf_read) (after_mark (codes "node ") s >>= λ r. nodes r >>= node_read) (x, rest) e) [
    | inl h ↦
        let b = bind_some (leaf_at h.0) leaf_read (x, rest) h.2 in
        let f = same_read (p.Leaf b.0.0) x b.0.1 rest b.2 in
        let q = leaf_exact.sound h.0 b.0.0 b.0.1 b.1 in
        let line : s ≡ codes "leaf " ++ (leaf_body b.0.0 ++ rest) = after_answered (codes "leaf ") s h.0 h.1 ∙ ap (λ t. codes "leaf " ++ t) (q.1 ∙ ap (λ t. leaf_body b.0.0 ++ t) f.1) in
        let spelled : s ≡ part_text (p.Leaf b.0.0) ++ rest = line ∙ sym (append_assoc (codes "leaf ") (leaf_body b.0.0) rest) ∙ ap (λ t. t ++ rest) (sym (leaf_begins b.0.0)) in
        subst (λ y. IsHeld d y × (s ≡ part_text y ++ rest)) f.0 ((held_Leaf d b.0.0).1 q.0, spelled)
    | inr h ↦
        let m = bind_some (after_mark (codes "node ") s) (λ r. nodes r >>= node_read) (x, rest) h.1 in
        let b = bind_some (nodes m.0) node_read (x, rest) m.2 in
        let f = same_read (p.Node b.0.0) x b.0.1 rest b.2 in
        let q = exact.sound m.0 b.0.0 b.0.1 b.1 in
        let line : s ≡ codes "node " ++ (node_body b.0.0 ++ rest) = after_answered (codes "node ") s m.0 m.1 ∙ ap (λ t. codes "node " ++ t) (q.1 ∙ ap (λ t. node_body b.0.0 ++ t) f.1) in
        let spelled : s ≡ part_text (p.Node b.0.0) ++ rest = line ∙ sym (append_assoc (codes "node ") (node_body b.0.0) rest) ∙ ap (λ t. t ++ rest) (sym (node_begins b.0.0)) in
        subst (λ y. IsHeld d y × (s ≡ part_text y ++ rest)) f.0 ((held_Node d b.0.0).1 q.0, spelled)
  ]

  choice_leaf : (l : Leaf) (rest : List ℕ) → IsHeld d (p.Leaf l) → choice nodes (part_text (p.Leaf l) ++ rest) ≡ Some (p.Leaf l, rest)
  unfolding choice
  choice_leaf l rest h =
      let spelled : part_text (p.Leaf l) ++ rest ≡ codes "leaf " ++ (leaf_body l ++ rest) = ap (λ t. t ++ rest) (leaf_begins l) ∙ append_assoc (codes "leaf ") (leaf_body l) rest in
      ap (choice nodes) spelled
      ∙ ap (λ o. either o (λ r. leaf_at r >>= leaf_read) (after_mark (codes "node ") (codes "leaf " ++ (leaf_body l ++ rest)) >>= λ r. nodes r >>= node_read)) (after_own (codes "leaf ") (leaf_body l ++ rest))
      ∙ ap (λ o. o >>= leaf_read) (leaf_exact.complete l rest ((held_Leaf d l).0 h))

  choice_node : (n : Node) (rest : List ℕ) → IsHeld d (p.Node n) → choice nodes (part_text (p.Node n) ++ rest) ≡ Some (p.Node n, rest)
  unfolding choice
  choice_node n rest h =
      let spelled : part_text (p.Node n) ++ rest ≡ codes "node " ++ (node_body n ++ rest) = ap (λ t. t ++ rest) (node_begins n) ∙ append_assoc (codes "node ") (node_body n) rest in
      ap (choice nodes) spelled
      ∙ ap (λ o. either o (λ r. leaf_at r >>= leaf_read) (after_mark (codes "node ") (codes "node " ++ (node_body n ++ rest)) >>= λ r. nodes r >>= node_read)) (no_leaf (node_body n ++ rest))
      ∙ ap (λ o. o >>= λ r. nodes r >>= node_read) (after_own (codes "node ") (node_body n ++ rest))
      ∙ ap (λ o. o >>= node_read) (exact.complete n rest ((held_Node d n).0 h))

  choice_complete : (x : Part) (rest : List ℕ) → IsHeld d x → choice nodes (part_text x ++ rest) ≡ Some (x, rest)
  choice_complete x rest h = elim (leaf_or_node x) [
    | inl l ↦ subst (λ y. choice nodes (part_text y ++ rest) ≡ Some (y, rest)) (sym l.1) (choice_leaf l.0 rest (subst (IsHeld d) l.1 h))
    | inr n ↦ subst (λ y. choice nodes (part_text y ++ rest) ≡ Some (y, rest)) (sym n.1) (choice_node n.0 rest (subst (IsHeld d) n.1 h))
  ]

  choice_exact : IsExact Part part_text (IsHeld d) (choice nodes)
  choice_exact = record { sound = choice_sound; complete = choice_complete }

-- ---- nodes

all_held : (d : ℕ) (xs : List Part) → deepest xs ≤ d → AllByRecursion IsSmallPart xs → AllByRecursion (IsHeld d) xs
all_held d [] h s = tt
all_held d (x ∷ xs) h s = ((omega arith, s.0), all_held d xs (omega arith) s.1)

held_deepest : (d : ℕ) (xs : List Part) → AllByRecursion (IsHeld d) xs → (deepest xs ≤ d) × AllByRecursion IsSmallPart xs
held_deepest d [] h = (omega arith, tt)
held_deepest d (x ∷ xs) h = let r = held_deepest d xs h.1 in (omega (arith, h.0.0, r.0), (h.0.1, r.1))

abbrev node_made : Kind → List Part → Node
node_made kind parts = record { kind = kind; parts = parts }

node_exact : (d : ℕ) (inner : Reader Part) → IsExact Part part_text (IsHeld d) inner → IsExact Node node_body (IsHeldNode (suc d)) (node_at inner)
unfolding node_at
node_exact d inner exact =
    let parts = λ (kind : Kind). then_exact (λ x. x.parts) (λ xs. last_number (length xs) ++ flat_map part_text xs) (λ xs. (length xs < number_limit) × AllByRecursion (IsHeld d) xs) (listed_at line_feed inner) (λ x. []) (λ xs x. x ≡ node_made kind xs) (λ xs s. Some (node_made kind xs, s))
    (λ xs x h. ap (λ y. y.parts) h) (listed_exact line_feed refl part_text (IsHeld d) inner exact) (λ xs. done_exact (node_made kind xs)) in
    let whole = then_exact (λ x. x.kind) (λ k. spaced_number (kind_number k)) (λ k. Unit {0}) numbered_kind_at (λ x. (last_number (length x.parts) ++ flat_map part_text x.parts) ++ []) (λ kind x. ((length x.parts < number_limit) × AllByRecursion (IsHeld d) x.parts) × (x ≡ node_made kind x.parts)) (λ kind s. listed_at line_feed inner s >>= λ xs. Some (node_made kind xs.0, xs.1))
    (λ kind x h. ap (λ y. y.kind) h.1) numbered_kind_exact parts in
    so (λ x. ap (λ t. spaced_number (kind_number x.kind) ++ t) (append-nil (last_number (length x.parts) ++ flat_map part_text x.parts)))
    (λ x h. let r = held_deepest d x.parts h.1.0.1 in (omega (arith, r.0), (h.1.0.0, r.1)))
    (λ x h. (tt, ((h.1.0, all_held d x.parts (omega (arith, h.0)) h.1.1), refl))) whole

nodes_exact : (d : ℕ) → IsExact Node node_body (IsHeldNode d) (nodes_at d)
unfolding nodes_at
nodes_exact zero = record { sound = λ s x rest e. absurd cc; complete = λ x rest h. absurd (omega (arith, h.0)) }
nodes_exact (suc d) = node_exact d (choice (nodes_at d)) (choice_exact d (nodes_at d) (nodes_exact d))

pub held_exact_at : (d : ℕ) → IsExact Part part_text (IsHeld d) (held_at d)
held_exact_at d = choice_exact d (nodes_at d) (nodes_exact d)
