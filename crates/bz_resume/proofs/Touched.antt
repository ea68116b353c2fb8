-- A tree is legal where a step led to it from a legal one, and what the step touched is legal by itself.
use Rattle.bz_resume.proofs.Words.{[], ◌++◌, ◌+◌, ◌∙◌, ◌∷◌, ◌≡◌, ◌≤◌, ◌⊎◌, all_both, AllByRecursion, ap, append-nil, AreAlone, AreLined, AreTouchedAlone, AreWholeLines, arith, bare_end, below, cases_Bool, cond-false, drop, Edit, EndsLine, eqb-true, file_with, flat_map, here, if_below, if_here, inl, inr, IsAlone, IsAloneAt, IsHeldAlone, IsLast, IsTouchedAlone, IsTree, Kind as k, Leaf, leaves_both, leaves_Node, leaves_part, LegalBuild, length, length-append, limit, line_feed, lines_split, List, nat_eq, Node, Node', Part, refl, spell_node, spell_part, splice_all, spliced, subst, suc, swap_list, swap_node, swap_part, sym, take, zero, ℕ}
use Rattle.bz_grammar.specs.declared.tree.Part.TheVariants as p
use Rattle.bz_grammar.specs.{Legal.IsNonterminal, Shapes.Several, Shapes.stmt, Joined.last_token}
use Rattle.bz_grammar.proofs.{Balance.no_such, Joining.lines_join}
use Rattle.bz_edit.proofs.Swaps.{stays, swap_none}
use Rattle.bz_resume.proofs.Sized.{all_taken, all_dropped}

-- ---- a legal file has parts that are legal by themselves

node_last : (kind : _) (size : _) (row : _) → Several (IsNonterminal stmt) IsLast (Node' kind size row ∷ []) → ⊥
node_last kind size row (inl f) = no_such f.0
node_last kind size row (inr f) = f.1

end_alone : (x : Part) → LegalBuild (file_with (x ∷ [])) → IsAlone x
end_alone (p.Leaf l) h = h
end_alone (Node' kind size row) h = absurd (node_last kind size row h.legal.file.shapes.0)

line_alone : (x y : Part) (ys : List Part) → Several (IsNonterminal stmt) IsLast (x ∷ y ∷ ys) → LegalBuild (file_with (x ∷ bare_end ∷ [])) → IsAlone x
line_alone x y ys (inl f) h = absurd f.1
line_alone (p.Leaf l) y ys (inr f) h = no_such f.0
line_alone (Node' kind size row) y ys (inr f) h = h

parts_alone : (xs : List Part) → LegalBuild (file_with xs) → AreAlone xs
parts_alone [] h = tt
parts_alone (x ∷ []) h = (end_alone x h, tt)
parts_alone (x ∷ y ∷ ys) h =
    let w = lines_split (x ∷ []) y ys h in
    (line_alone x y ys h.legal.file.shapes.0 w.0, parts_alone (y ∷ ys) w.1)

as_file : (n : Node) → n.kind ≡ k.File → n ≡ file_with n.parts
as_file n e = ap (λ kind. (let m : Node = record { kind = kind; parts = n.parts } in m)) e

pub legal_alone : (n : Node) → LegalBuild n → AreAlone n.parts
legal_alone n h = parts_alone n.parts (subst LegalBuild (as_file n h.legal.file.root) h)

-- ---- lines that are legal by themselves make a legal file

text_alone : (x : Part) → spell_node (file_with (x ∷ bare_end ∷ [])) ≡ spell_part x
text_alone x = append-nil (spell_part x)

one_more : (x : Part) (ps : List Part) → AreWholeLines (x ∷ []) → LegalBuild (file_with (x ∷ bare_end ∷ [])) → LegalBuild (file_with ps) → length (spell_node (file_with (x ∷ ps))) ≤ limit → LegalBuild (file_with (x ∷ ps))
one_more x ps whole g h le =
    let s = spell_node (file_with (x ∷ bare_end ∷ [])) in
    let t = spell_node (file_with ps) in
    let all : s ++ t ≡ spell_node (file_with (x ∷ ps)) = ap (λ z. z ++ t) (text_alone x) in
    let size : length s + length t ≡ length (spell_node (file_with (x ∷ ps))) = sym (length-append s t) ∙ ap length all in
    (lines_join s t (file_with (x ∷ bare_end ∷ [])) (file_with ps) (x ∷ []) _ refl whole refl (g, refl, omega (arith, size, le)) (h, refl, omega (arith, size, le)) (subst (λ z. length z ≤ limit) (sym all) le)).0

shorter : (x : Part) (ps : List Part) → length (spell_node (file_with (x ∷ ps))) ≤ limit → length (spell_node (file_with ps)) ≤ limit
shorter x ps le = omega (arith, le, length-append (spell_part x) (spell_node (file_with ps)))

lines_legal : (xs : List Part) (l : Leaf) → AreAlone (xs ++ p.Leaf l ∷ []) → AllByRecursion EndsLine xs → length (spell_node (file_with (xs ++ p.Leaf l ∷ []))) ≤ limit → LegalBuild (file_with (xs ++ p.Leaf l ∷ []))
lines_legal [] l h g le = h.0
lines_legal (p.Leaf m ∷ xs) l h g le = absurd g.0
lines_legal (Node' kind size row ∷ xs) l h g le =
    let ps = xs ++ p.Leaf l ∷ [] in
    one_more (Node' kind size row) ps g.0 h.0 (lines_legal xs l h.1 g.1 (shorter (Node' kind size row) ps le)) le

pub lined_legal : (ps : List Part) → AreAlone ps → AreLined ps → length (spell_node (file_with ps)) ≤ limit → LegalBuild (file_with ps)
lined_legal ps h w le =
    subst (λ qs. LegalBuild (file_with qs)) (sym w.2) (lines_legal w.0 w.1 (subst AreAlone w.2 h) w.3 (subst (λ qs. length (spell_node (file_with qs)) ≤ limit) w.2 le))

-- ---- how the code tests it

last_leaf : (ls : List Leaf) (l : Leaf) → last_token (ls ++ l ∷ []) ≡ l.token
last_leaf [] l = refl
last_leaf (m ∷ []) l = refl
last_leaf (m ∷ k ∷ ls) l = last_leaf (k ∷ ls) l

pub node_ends : (x : Part) (n : Node) (ps rest : List Part) (last : Part) (l : Leaf) → x ≡ p.Node n → ps ≡ n.parts → ps ≡ rest ++ last ∷ [] → last ≡ p.Leaf l
    → l.token ≡ line_feed ∷ [] → EndsLine x
node_ends x n ps rest last l is parts cut leaf feed = subst EndsLine (sym is) (ap last_token (append-nil (leaves_part (p.Node n)) ∙ leaves_Node n)
    ∙ ap (λ qs. last_token (flat_map leaves_part qs)) (sym parts ∙ cut ∙ ap (λ y. rest ++ y ∷ []) leaf) ∙ ap last_token (leaves_both rest (p.Leaf l ∷ []))
    ∙ last_leaf (flat_map leaves_part rest) l ∙ feed)

pub past_end : (ps : List Part) → IsAloneAt ps (length ps)
past_end [] x e = absurd cc
past_end (y ∷ ps) x e = past_end ps x e

-- ---- a step keeps parts legal by themselves where what it touches is

spliced_alone : (e : Edit) (xs : List Part) → AreAlone e.held → AreAlone xs → AreAlone (spliced e xs)
spliced_alone e xs h g =
    all_both IsAlone (take e.at xs ++ e.held) (drop (e.at + e.count) xs) (all_both IsAlone (take e.at xs) e.held (all_taken IsAlone e.at xs g) h) (all_dropped IsAlone (e.at + e.count) xs g)

held_here : (es : List Edit) → AllByRecursion IsHeldAlone es → here es ≡ es
held_here [] h = refl
held_here (e ∷ es) h = ap (λ path. if_here path e (here es)) h.0.0 ∙ ap (λ fs. e ∷ fs) (held_here es h.1)

held_below : (j : ℕ) (es : List Edit) → AllByRecursion IsHeldAlone es → below j es ≡ []
held_below j [] h = refl
held_below j (e ∷ es) h = ap (λ path. if_below j path e (below j es)) h.0.0 ∙ held_below j es h.1

splice_alone : (es : List Edit) (xs : List Part) → AllByRecursion IsHeldAlone es → AreAlone xs → AreAlone (splice_all es xs)
splice_alone [] xs h g = g
splice_alone (e ∷ es) xs h g = splice_alone es (spliced e xs) h.1 (spliced_alone e xs h.0.1 g)

held_keeps : (n : Node) (es : List Edit) → AllByRecursion IsHeldAlone es → AreAlone n.parts → AreAlone (swap_node es n).parts
held_keeps n es h g =
    let there : swap_list zero es n.parts ≡ n.parts = swap_none zero es n.parts (λ j from to. held_below j es h) in
    subst AreAlone (ap (λ fs. splice_all fs n.parts) (sym (held_here es h)) ∙ ap (splice_all (here es)) (sym there)) (splice_alone es n.parts h g)

within_here : (ps : List Part) (es : List Edit) → AllByRecursion (IsTouchedAlone ps) es → here es ≡ []
within_here ps [] h = refl
within_here ps (e ∷ es) h = ap (λ path. if_here path e (here es)) h.0.2 ∙ within_here ps es h.1

-- no edit is made in a part, or that part makes a legal file by itself
touched_at : (ps : List Part) (j : ℕ) (es : List Edit) → AllByRecursion (IsTouchedAlone ps) es → (below j es ≡ []) ⊎ IsAloneAt ps j
touched_at ps j [] h = inl refl
touched_at ps j (e ∷ es) h =
    elim (cases_Bool (nat_eq h.0.0 j)) [
      | inl is ↦ inr (subst (IsAloneAt ps) (eqb-true h.0.0 j is) h.0.3)
      | inr not ↦ elim (touched_at ps j es h.1) [
        | inl none ↦ inl (ap (λ path. if_below j path e (below j es)) h.0.2 ∙ cond-false (nat_eq h.0.0 j) _ (below j es) not ∙ none)
        | inr alone ↦ inr alone
      ]
    ]

abbrev Touched : ℕ → List Edit → List Part → Type 0
Touched i es ps = (j : ℕ) → (below (i + j) es ≡ []) ⊎ IsAloneAt ps j

from_none : (j : ℕ) → j ≡ zero + j
from_none j = omega arith

swapped_alone : (i : ℕ) (es : List Edit) (xs : List Part) → AreAlone xs → Touched i es (swap_list i es xs) → AreAlone (swap_list i es xs)
swapped_alone i es [] h t = tt
swapped_alone i es (x ∷ xs) h t = (
  elim (t 0) [
    | inl none ↦ let e : below i es ≡ [] = ap (λ j. below j es) (let f : i ≡ i + 0 = omega arith in f) ∙ none in subst IsAlone (sym (stays x) ∙ ap (swap_part x) (sym e)) h.0
    | inr alone ↦ alone (swap_part x (below i es)) refl
  ],
  swapped_alone (suc i) es xs h.1 (λ j. elim (t (suc j)) [
    | inl none ↦ inl (ap (λ k. below k es) (let f : suc i + j ≡ i + suc j = omega arith in f) ∙ none)
    | inr alone ↦ inr alone
  ]),
)

made_keeps : (n : Node) (es : List Edit) → AllByRecursion (IsTouchedAlone (swap_node es n).parts) es → AreAlone n.parts → AreAlone (swap_node es n).parts
made_keeps n es h g =
    let ps = (swap_node es n).parts in
    let is : ps ≡ swap_list zero es n.parts = ap (λ fs. splice_all fs (swap_list zero es n.parts)) (within_here ps es h) in
    subst AreAlone (sym is) (swapped_alone zero es n.parts g (subst (Touched zero es) is (λ j. subst (λ k. (below k es ≡ []) ⊎ IsAloneAt ps j) (from_none j) (touched_at ps j es h))))

step_keeps : (n : Node) (es : List Edit) → AreTouchedAlone (swap_node es n).parts es → AreAlone n.parts → AreAlone (swap_node es n).parts
step_keeps n es (inl h) g = made_keeps n es h g
step_keeps n es (inr h) g = held_keeps n es h g

-- the tree to which a step led
pub led_to : (from n : Node) (es : List Edit) → IsTree from → n ≡ swap_node es from → AreLined n.parts → AreTouchedAlone n.parts es → length (spell_node n) ≤ limit → IsTree n
led_to from n es tree is lined touched le =
    let alone : AreAlone n.parts = subst (λ (m : Node). AreAlone m.parts) (sym is) (step_keeps from es (subst (λ (m : Node). AreTouchedAlone m.parts es) is touched) (legal_alone from tree.0)) in
    let kind : n.kind ≡ k.File = ap (λ (m : Node). m.kind) is ∙ tree.0.legal.file.root in
    (subst LegalBuild (sym (as_file n kind)) (lined_legal n.parts alone lined le), le)
