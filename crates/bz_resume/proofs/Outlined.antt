-- No two nodes have one outline.
use Rattle.bz_resume.proofs.Words.{[], ◌++◌, ◌∙◌, ◌∷◌, ◌≡◌, AllByRecursion, ap, append_assoc, class_number, end_of-Part, flat_map, inl, inr, items-the_row-Part, items_of_row, Kind, kind_number, Leaf, leaf_or_node, List, marked, more_of-Part, Node, outline_leaf, outline_list, outline_node, outline_part, outline_row, Part, part_ind, refl, row_of, Row_of-Part, same_Some, Some, sym, ℕ}
use Rattle.bz_token.specs.{declared.class.Class.Class, Classes.class_of}
use Rattle.bz_token.specs.declared.class.Class.TheVariants as c
use Rattle.bz_grammar.specs.declared.tree.Part.TheVariants as p
use Rattle.bz_grammar.proofs.Numbers.{same_kind}

-- ---- a node by the list of its parts

outline_rows : (m : _) (r : Row_of-Part m) → outline_row r ≡ flat_map (λ x. 1 ∷ outline_part x) (items-the_row-Part m r)
outline_rows m end_of-Part = refl
outline_rows m (more_of-Part x rest) = ap (λ t. (1 ∷ outline_part x) ++ t) (outline_rows _ rest)

pub outline_Node : (n : Node) → outline_part (p.Node n) ≡ outline_node n
outline_Node n = ap (λ t. 2 ∷ kind_number n.kind ∷ (t ++ 0 ∷ [])) (outline_rows _ (row_of n).1 ∙ ap (flat_map (λ x. 1 ∷ outline_part x)) (items_of_row n))

-- ---- lists

same_first : (a b : ℕ) (r s : List ℕ) → a ∷ r ≡ b ∷ s → a ≡ b
same_first a b r s e = cc

same_rest : (a b : ℕ) (r s : List ℕ) → a ∷ r ≡ b ∷ s → r ≡ s
same_rest a b r s e = cc

class_of_number : (k : Class) → class_of (class_number k) ≡ Some k
class_of_number c.Name = refl
class_of_number _ = refl

same_class : (a b : Class) → class_number a ≡ class_number b → a ≡ b
same_class a b e = same_Some a b (sym (class_of_number a) ∙ ap class_of e ∙ class_of_number b)

-- where a list begins with what says x, that is all of it, and what follows is the rest
abbrev Once : {A : Type 0} → (A → List ℕ) → A → Type 0
Once {A} say x = (y : A) (r s : List ℕ) → say x ++ r ≡ say y ++ s → (x ≡ y) × (r ≡ s)

from_first : {A : Type 0} (say : A → List ℕ) (x : A) (xs : List A) (r : List ℕ) → outline_list say (x ∷ xs) ++ r ≡ 1 ∷ (say x ++ (outline_list say xs ++ r))
from_first say x xs r = simp append_assoc

list_once : {A : Type 0} (say : A → List ℕ) (xs : List A) → AllByRecursion (Once say) xs → Once (outline_list say) xs
list_once say [] h [] r s e = (refl, same_rest 0 0 r s e)
list_once say [] h (y ∷ ys) r s e = absurd cc
list_once say (x ∷ xs) h [] r s e = absurd cc
list_once say (x ∷ xs) h (y ∷ ys) r s e =
    let f = h.0 y (outline_list say xs ++ r) (outline_list say ys ++ s)
    (same_rest 1 1 (say x ++ (outline_list say xs ++ r)) (say y ++ (outline_list say ys ++ s)) (sym (from_first say x xs r) ∙ e ∙ from_first say y ys s)) in
    let g = list_once say xs h.1 ys r s f.1 in
    (ap (λ z. z ∷ xs) f.0 ∙ ap (λ zs. y ∷ zs) g.0, g.1)

text_once : (a : List ℕ) → Once marked a
text_once a = list_once (λ b. b ∷ []) a (each_byte a)
  where
    each_byte : (bs : List ℕ) → AllByRecursion (Once (λ b. b ∷ [])) bs
    each_byte [] = tt
    each_byte (b ∷ bs) = ((λ y r s e. (same_first b y r s e, same_rest b y r s e)), each_byte bs)

-- ---- leaves

abbrev leaf_of : Class → List ℕ → List ℕ → Leaf
leaf_of class gap token = record { class = class; gap = gap; token = token }

same_leaf : (c d : Class) (g h t u : List ℕ) → c ≡ d → g ≡ h → t ≡ u → leaf_of c g t ≡ leaf_of d h u
same_leaf c d g h t u e f k = rw (e, f, k) refl

leaf_once : (l m : Leaf) (r s : List ℕ) → outline_leaf l ++ r ≡ outline_leaf m ++ s → (l ≡ m) × (r ≡ s)
leaf_once l m r s e =
    let lc = class_number l.class in
    let mc = class_number m.class in
    let lt = (marked l.gap ++ marked l.token) ++ r in
    let mt = (marked m.gap ++ marked m.token) ++ s in
    let one : lc ∷ lt ≡ mc ∷ mt = same_rest 1 1 (lc ∷ lt) (mc ∷ mt) e in
    let two : lt ≡ mt = same_rest lc mc lt mt one in
    let gap = text_once l.gap m.gap (marked l.token ++ r) (marked m.token ++ s) (sym (append_assoc (marked l.gap) (marked l.token) r) ∙ two ∙ append_assoc (marked m.gap) (marked m.token) s) in
    let token = text_once l.token m.token r s gap.1 in
    (same_leaf l.class m.class l.gap m.gap l.token m.token (same_class l.class m.class (same_first lc mc lt mt one)) gap.0 token.0, token.1)

-- ---- parts

node_front : (y : Part) (n : Node) (s : List ℕ) → y ≡ p.Node n → outline_part y ++ s ≡ outline_node n ++ s
node_front y n s is = ap (λ z. outline_part z ++ s) is ∙ ap (λ z. z ++ s) (outline_Node n)

leaf_front : (y : Part) (l : Leaf) (s : List ℕ) → y ≡ p.Leaf l → outline_part y ++ s ≡ outline_leaf l ++ s
leaf_front y l s is = ap (λ z. outline_part z ++ s) is

leaf_is_none : (l : Leaf) (n : Node) (r s : List ℕ) → outline_leaf l ++ r ≡ outline_node n ++ s → ⊥
leaf_is_none l n r s e = cc

once_leaf : (l : Leaf) → Once outline_part (p.Leaf l)
once_leaf l y r s e = elim (leaf_or_node y) [
  | inl m ↦ let f = leaf_once l m.0 r s (e ∙ leaf_front y m.0 s m.1) in (ap p.Leaf f.0 ∙ sym m.1, f.1)
  | inr n ↦ absurd (leaf_is_none l n.0 r s (e ∙ node_front y n.0 s n.1))
]

abbrev node_of : Kind → List Part → Node
node_of kind parts = record { kind = kind; parts = parts }

node_once : (n m : Node) (r s : List ℕ) → AllByRecursion (Once outline_part) n.parts → outline_node n ++ r ≡ outline_node m ++ s → (n ≡ m) × (r ≡ s)
node_once n m r s h e =
    let nk = kind_number n.kind in
    let mk = kind_number m.kind in
    let nt = outline_list outline_part n.parts ++ r in
    let mt = outline_list outline_part m.parts ++ s in
    let one : nk ∷ nt ≡ mk ∷ mt = same_rest 2 2 (nk ∷ nt) (mk ∷ mt) e in
    let parts = list_once outline_part n.parts h m.parts r s (same_rest nk mk nt mt one) in
    (ap (λ k. node_of k n.parts) (same_kind n.kind m.kind (same_first nk mk nt mt one)) ∙ ap (node_of m.kind) parts.0, parts.1)

once_node : (n : Node) → AllByRecursion (Once outline_part) n.parts → Once outline_part (p.Node n)
once_node n h y r s e =
    let own = sym (node_front (p.Node n) n r refl) ∙ e in
    elim (leaf_or_node y) [
      | inl m ↦ absurd (leaf_is_none m.0 n s r (sym (own ∙ leaf_front y m.0 s m.1)))
      | inr m ↦ let f = node_once n m.0 r s h (own ∙ node_front y m.0 s m.1) in (ap p.Node f.0 ∙ sym m.1, f.1)
    ]

part_once : (x : Part) → Once outline_part x
part_once = part_ind (Once outline_part) once_leaf once_node

each_once : (xs : List Part) → AllByRecursion (Once outline_part) xs
each_once [] = tt
each_once (x ∷ xs) = (part_once x, each_once xs)

pub one_outline : (n m : Node) → outline_node n ≡ outline_node m → n ≡ m
one_outline n m e = (node_once n m [] [] (each_once n.parts) (ap (λ t. t ++ []) e)).0

-- ---- what is pushed

pub node_pushed : (o o1 o2 : List ℕ) (x : Part) (n : Node) → x ≡ p.Node n → o1 ≡ o ++ 2 ∷ kind_number n.kind ∷ [] → o2 ≡ o1 ++ outline_list outline_part n.parts → o2 ≡ o ++ outline_part x
node_pushed o o1 o2 x n is h1 h2 =
    h2 ∙ ap (λ t. t ++ outline_list outline_part n.parts) h1 ∙ append_assoc o (2 ∷ kind_number n.kind ∷ []) (outline_list outline_part n.parts) ∙ ap (λ t. o ++ t) (sym (outline_Node n) ∙ ap outline_part (sym is))
