-- The comments in parts, by the leaves of each part.
use Rattle.bz_hosts.proofs.Words.{[], ◌++◌, ◌+◌, ◌<◌, ◌∙◌, ◌∷◌, ◌≡◌, AllByRecursion, ap, append_assoc, arith, Bytes, bzl_shape, Comment, comments_at, comments_from, end_of-Part, first_seen_gap, Fits, flat_map, inl, inr, IsNonterminal, items-the_row-Part, Kind, Kind as k, Leaf, leaves_part, leaves_row, LegalPart, LegalRow, length, length-append, List, map, Measured, measured, measured_row, more_of-Part, Node', Part, Part as p, refl, Row_of-Part, seen, seen_row, sizes, suc, sym, ℕ}

abbrev pub size : Part → ℕ
size x = (measured x).size

pub measured_rows : (m : _) (r : Row_of-Part m) → measured_row r ≡ map measured (items-the_row-Part m r)
measured_rows m end_of-Part = refl
measured_rows m (more_of-Part x rest) = ap (λ (t : List Measured). measured x ∷ t) (measured_rows _ rest)

pub leaves_rows : (m : _) (r : Row_of-Part m) → leaves_row r ≡ flat_map leaves_part (items-the_row-Part m r)
leaves_rows m end_of-Part = refl
leaves_rows m (more_of-Part x rest) = ap (λ (t : List Leaf). leaves_part x ++ t) (leaves_rows _ rest)

pub measured_part : (x : Part) → (measured x).part ≡ x
measured_part (p.Leaf l) = refl
measured_part (Node' kind n r) = refl

mutual
  pub size_leaves : (x : Part) → size x ≡ length (leaves_part x)
  size_leaves (p.Leaf l) = refl
  size_leaves (Node' kind n r) = sizes_leaves _ r

  sizes_leaves : (m : _) (r : Row_of-Part m) → sizes (measured_row r) ≡ length (leaves_row r)
  sizes_leaves m end_of-Part = refl
  sizes_leaves m (more_of-Part x rest) = let e = size_leaves x in let e' = sizes_leaves _ rest in omega (arith, length-append (leaves_part x) (leaves_row rest))

-- ---- a part has a leaf, and the gap before it is the first leaf's

pub record Solid (x : Part) : Type 0 where
  pub first : Leaf
  pub rest : List Leaf
  pub leaves : leaves_part x ≡ first ∷ rest
  pub gap : (seen x).gap ≡ first.gap

pub some_leaf : (x : Part) → Solid x → 0 < size x
some_leaf x h = let e = size_leaves x in let e' = ap length h.leaves in omega arith

kind_some : (kind : Kind) → Fits IsNonterminal (bzl_shape kind) [] → ⊥
kind_some k.Param (inl h) = absurd h
kind_some k.Param (inr (inl h)) = absurd h
kind_some k.Param (inr (inr h)) = absurd h
kind_some k.Line h = absurd h
kind_some _ h = absurd h

abbrev SolidFirst : List Part → Type 0
SolidFirst [] = Unit {0}
SolidFirst (x ∷ xs) = Solid x

node_solid : (kind : Kind) (m : _) (r : Row_of-Part m) → Fits IsNonterminal (bzl_shape kind) (items-the_row-Part m r) → SolidFirst (items-the_row-Part m r) →
    (first : Leaf) × (rest : List Leaf) × (leaves_row r ≡ first ∷ rest) × (first_seen_gap (seen_row r) ≡ first.gap)
node_solid kind m end_of-Part h s = absurd (kind_some kind h)
node_solid kind m (more_of-Part x rest) h s = (s.first, s.rest ++ leaves_row rest, ap (λ (ls : List Leaf). ls ++ leaves_row rest) s.leaves, s.gap)

mutual
  pub part_solid : (x : Part) → LegalPart x → Solid x
  part_solid (p.Leaf l) h = record { first = l; rest = []; leaves = refl; gap = refl }
  part_solid (Node' kind n r) h =
      let w = node_solid kind _ r h.0 (first_solid _ r h.1) in
      record { first = w.0; rest = w.1; leaves = w.2; gap = w.3 }

  first_solid : (m : _) (r : Row_of-Part m) → LegalRow r → SolidFirst (items-the_row-Part m r)
  first_solid m end_of-Part h = tt
  first_solid m (more_of-Part x rest) h = part_solid x h.0

-- ---- the comments after the first leaf's gap

abbrev pub comments_after : ℕ → List Leaf → List Comment
comments_after n [] = []
comments_after n (l ∷ ls) = comments_from (suc n) ls

-- those inside a part
abbrev pub inner : ℕ → Part → List Comment
inner n x = comments_after n (leaves_part x)

-- those in parts, and those after the gap of the first of them
abbrev pub in_parts : ℕ → List Part → List Comment
in_parts n [] = []
in_parts n (x ∷ xs) = comments_at n (seen x).gap ++ (inner n x ++ in_parts (n + size x) xs)

abbrev pub after_parts : ℕ → List Part → List Comment
after_parts n [] = []
after_parts n (x ∷ xs) = inner n x ++ in_parts (n + size x) xs

pub comments_joined : (n : ℕ) (ls ls' : List Leaf) → comments_from n (ls ++ ls') ≡ comments_from n ls ++ comments_from (n + length ls) ls'
comments_joined n [] ls' = let e : n ≡ n + length {A = Leaf} [] = omega arith in ap (λ z. comments_from z ls') e
comments_joined n (l ∷ ls) ls' =
    let e : suc n + length ls ≡ n + length (l ∷ ls) = omega arith in
    ap (λ (z : List Comment). comments_at n l.gap ++ z) (comments_joined (suc n) ls ls' ∙ ap (λ z. comments_from (suc n) ls ++ comments_from z ls') e)
    ∙ sym (append_assoc (comments_at n l.gap) (comments_from (suc n) ls) (comments_from (n + length (l ∷ ls)) ls'))

after_joined : (n s : ℕ) (ks : List Leaf) (l : Leaf) (ls ls' : List Leaf) → ks ≡ l ∷ ls → s ≡ length ks → comments_after n (ks ++ ls') ≡ comments_after n ks ++ comments_from (n + s) ls'
after_joined n s ks l ls ls' e d =
    let u : s ≡ suc (length ls) = omega (arith, ap length e) in
    let v : suc n + length ls ≡ n + s = omega arith in
    rw e (comments_joined (suc n) ls ls' ∙ ap (λ z. comments_from (suc n) ls ++ comments_from z ls') v)

from_first : (n : ℕ) (gap : Bytes) (ks : List Leaf) (l : Leaf) (ls : List Leaf) → ks ≡ l ∷ ls → gap ≡ l.gap → comments_from n ks ≡ comments_at n gap ++ comments_after n ks
from_first n gap ks l ls e g = rw (e, g) refl

module _ (n : ℕ) (x : Part) (h : Solid x) (ls : List Leaf) where
  pub part_after : comments_after n (leaves_part x ++ ls) ≡ inner n x ++ comments_from (n + size x) ls
  part_after = after_joined n (size x) (leaves_part x) h.first h.rest ls h.leaves (size_leaves x)

  pub part_from : comments_from n (leaves_part x ++ ls) ≡ comments_at n (seen x).gap ++ (inner n x ++ comments_from (n + size x) ls)
  part_from =
      from_first n (seen x).gap (leaves_part x ++ ls) h.first (h.rest ++ ls) (ap (λ (z : List Leaf). z ++ ls) h.leaves) h.gap
      ∙ ap (λ (z : List Comment). comments_at n (seen x).gap ++ z) part_after

pub parts_from : (n : ℕ) (xs : List Part) → AllByRecursion Solid xs → comments_from n (flat_map leaves_part xs) ≡ in_parts n xs
parts_from n [] h = refl
parts_from n (x ∷ xs) h = part_from n x h.0 (flat_map leaves_part xs) ∙ ap (λ (z : List Comment). comments_at n (seen x).gap ++ (inner n x ++ z)) (parts_from (n + size x) xs h.1)

pub parts_after : (n : ℕ) (xs : List Part) → AllByRecursion Solid xs → comments_after n (flat_map leaves_part xs) ≡ after_parts n xs
parts_after n [] h = refl
parts_after n (x ∷ xs) h = part_after n x h.0 (flat_map leaves_part xs) ∙ ap (λ (z : List Comment). inner n x ++ z) (parts_from (n + size x) xs h.1)
