use Rattle.bz_grammar.proofs.Words.{[], ◌++◌, ◌+◌, ◌<◌, ◌∙◌, ◌∷◌, ◌≡◌, ◌≤◌, AllByRecursion, ap, append-nil, append_assoc, deepest, depth_of, depth_part, depth_row, drop, end_of-Part, flat_map, get_or, items-the_row-Part, Leaf, leaves_of, leaves_part, leaves_row, length, List, max, more_of-Part, Node, Part, refl, Row_of-Part, spell_leaves, spell_node, spell_part, spell_row, subst, suc, sym, take, take-append-drop, ℕ}
use Rattle.std.proofs.{lemmas.List.Folds.length-flat_map-take, Math.Seq.take-append_seam}
use Rattle.bz_grammar.specs.declared.tree.Part.TheVariants as p
use Rattle.bz_grammar.proofs.Nested.{row_of, items_of_row, part_ind}

spell_rows : (m : _) (r : Row_of-Part m) → spell_row r ≡ flat_map spell_part (items-the_row-Part m r)
spell_rows m end_of-Part = refl
spell_rows m (more_of-Part x rest) = ap (λ t. spell_part x ++ t) (spell_rows _ rest)

pub spell_Node : (n : Node) → spell_part (p.Node n) ≡ flat_map spell_part n.parts
spell_Node n = spell_rows _ (row_of n).1 ∙ ap (flat_map spell_part) (items_of_row n)

leaves_rows : (m : _) (r : Row_of-Part m) → leaves_row r ≡ flat_map leaves_part (items-the_row-Part m r)
leaves_rows m end_of-Part = refl
leaves_rows m (more_of-Part x rest) = ap (λ t. leaves_part x ++ t) (leaves_rows _ rest)

pub leaves_Node : (n : Node) → leaves_part (p.Node n) ≡ leaves_of n
leaves_Node n = leaves_rows _ (row_of n).1 ∙ ap (flat_map leaves_part) (items_of_row n)

depth_rows : (m : _) (r : Row_of-Part m) → depth_row r ≡ deepest (items-the_row-Part m r)
depth_rows m end_of-Part = refl
depth_rows m (more_of-Part x rest) = ap (λ t. max (depth_part x) t) (depth_rows _ rest)

pub depth_Node : (n : Node) → depth_part (p.Node n) ≡ depth_of n
depth_Node n = ap suc (depth_rows _ (row_of n).1 ∙ ap deepest (items_of_row n))

-- ---- the spelling is that of the leaves

pub spell_leaves-append : (ls ms : List Leaf) → spell_leaves (ls ++ ms) ≡ spell_leaves ls ++ spell_leaves ms
spell_leaves-append [] ms = refl
spell_leaves-append (l ∷ ls) ms = ap (λ t. l.gap ++ (l.token ++ t)) (spell_leaves-append ls ms) ∙ ap (λ t. l.gap ++ t) (sym (append_assoc l.token (spell_leaves ls) (spell_leaves ms))) ∙ sym (append_assoc l.gap (l.token ++ spell_leaves ls) (spell_leaves ms))

spelled_all : (xs : List Part) → AllByRecursion (λ x. spell_part x ≡ spell_leaves (leaves_part x)) xs → flat_map spell_part xs ≡ spell_leaves (flat_map leaves_part xs)
spelled_all [] h = refl
spelled_all (x ∷ xs) h = ap (λ t. t ++ flat_map spell_part xs) h.0 ∙ ap (λ t. spell_leaves (leaves_part x) ++ t) (spelled_all xs h.1) ∙ sym (spell_leaves-append (leaves_part x) (flat_map leaves_part xs))

pub part_spelled : (x : Part) → spell_part x ≡ spell_leaves (leaves_part x)
part_spelled = part_ind (λ x. spell_part x ≡ spell_leaves (leaves_part x)) (λ l. ap (λ t. l.gap ++ t) (sym (append-nil l.token))) (λ n h. spell_Node n ∙ spelled_all n.parts h ∙ ap spell_leaves (sym (leaves_Node n)))

spelled_each : (xs : List Part) → AllByRecursion (λ x. spell_part x ≡ spell_leaves (leaves_part x)) xs
spelled_each [] = tt
spelled_each (x ∷ xs) = (part_spelled x, spelled_each xs)

-- a tree spells what its leaves spell
pub node_spelled : (n : Node) → spell_node n ≡ spell_leaves (leaves_of n)
node_spelled n = spelled_all n.parts (spelled_each n.parts)

-- a list that begins with a longer list begins with its front
pub front_of_front : (a b new : List ℕ) → take (length (a ++ b)) new ≡ a ++ b → take (length a) new ≡ a
front_of_front a b new h =
    let whole : a ++ (b ++ drop (length (a ++ b)) new) ≡ new = sym (append_assoc a b _) ∙ ap (λ t. t ++ drop (length (a ++ b)) new) (sym h) ∙ take-append-drop _ new in
    subst (λ z. take (length a) z ≡ a) whole (take-append_seam a _)

-- the parts so far and the next one are within all of them
pub spelled_so_far : (xs : List Part) (i : ℕ) (d : Part) → i < length xs → length (flat_map spell_part (take i xs)) + length (spell_part (get_or xs i d)) ≤ length (flat_map spell_part xs)
spelled_so_far xs i d h = length-flat_map-take spell_part xs i d h
