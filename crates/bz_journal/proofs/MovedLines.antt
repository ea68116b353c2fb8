-- The lines on which statements begin, where one part of a file takes the place of another.
use Rattle.bz_journal.proofs.Words.{[], ◌++◌, ◌+◌, ◌<◌, ◌∙◌, ◌∷◌, ◌≡◌, ◌≤◌, AllByRecursion, and_parts, ap, append-nil, append_assoc, AreThere, arith, both_ways, drop, drop-append_seam, drop_more, false, first_gap, flat_map, flat_map-append, fronts, fronts_part, get_or, has_statements, is_lone_statement, is_node, is_statement_kind, IsLike, IsLineOfOne, leaves_part, length, length-map, length-take-le, lines_of, List, map, map-append, moved, moved_from, newlines, Node, None, not, not-true, Part, PartWindow, refl, slice_get, Some, spell_node, spell_part, subst, suc, sym, take, take-append-drop, take-append_seam, take_more, true, window_parts, with_windows, ℕ}
use Rattle.bz_lex.specs.declared.leaf.Leaf.{Leaf}
use Rattle.bz_journal.specs.private.Making.{HasOne}
use Rattle.bz_grammar.specs.{declared.tree.Part.Node', Statements.gap_of, Statements.line_following}
use Rattle.bz_grammar.specs.declared.tree.Part.TheVariants as p
use Rattle.bz_grammar.proofs.{AllLines.fronts_Node, AllLines.fronts_further, AllLines.lines_among, Spells.spell_Node, Statements.newlines_append}

pub spelled : (n : Node) → spell_part (p.Node n) ≡ spell_node n
spelled n = spell_Node n

-- ---- lines with one statement

simple_front : (x : Part) (front : List ℕ) → true ≡ is_lone_statement x → fronts_part front x ≡ (front ++ gap_of x) ∷ []
simple_front (p.Leaf l) front e = absurd (both_ways false refl (sym e))
simple_front (Node' kind size row) front e =
    let w = and_parts (is_statement_kind kind) (not (has_statements kind)) (sym e) in
    rw (w.0, not-true (has_statements kind) w.1) refl

leaf_front : (x : Part) (front : List ℕ) → false ≡ is_node x → fronts_part front x ≡ []
leaf_front (p.Leaf l) front e = refl
leaf_front (Node' kind size row) front e = absurd (both_ways true (sym e) refl)

two_front : (xs : List Part) (s e : Part) (front : List ℕ) → length xs ≡ 2 → s ≡ get_or xs 0 s → e ≡ get_or xs 1 e → true ≡ is_lone_statement s → false ≡ is_node e
    → fronts front xs ≡ (front ++ first_gap (flat_map leaves_part (take 1 xs))) ∷ []
two_front [] s e front count is next node leaf = absurd (omega arith)
two_front (a ∷ []) s e front count is next node leaf = absurd (omega arith)
two_front (a ∷ b ∷ []) s e front count is next node leaf =
    rw (simple_front a front (node ∙ ap is_lone_statement is), leaf_front b (front ++ spell_part a) (leaf ∙ ap is_node next), append-nil (leaves_part a)) refl
two_front (a ∷ b ∷ c ∷ xs) s e front count is next node leaf = absurd (omega arith)

line_front : (n : Node) (front : List ℕ) → false ≡ is_statement_kind n.kind → true ≡ has_statements n.kind → fronts_part front (p.Node n) ≡ fronts front n.parts
line_front n front none some = fronts_Node n front ∙ rw (sym none, sym some) refl

pub line_of_one : (line : Node) (x : Part) (xs : List Part) (s e : Part) → x ≡ p.Node line → false ≡ is_statement_kind line.kind → true ≡ has_statements line.kind → xs ≡ line.parts → length xs ≡ 2
    → s ≡ get_or xs 0 s → e ≡ get_or xs 1 e → true ≡ is_lone_statement s → false ≡ is_node e → IsLineOfOne x xs
line_of_one line x xs s e is none some own size at_first at_end node leaf = record {
  count = size;
  begun = λ front. ap (fronts_part front) is ∙ line_front line front none some ∙ ap (fronts front) (sym own) ∙ two_front xs s e front size at_first at_end node leaf;
}

first_is : (ls : List Leaf) (first : Leaf) → Some first ≡ slice_get ls 0 → first_gap ls ≡ first.gap
first_is [] first e = absurd (let none : Some first ≡ None = e in cc)
first_is (l ∷ ls) first e = let same : first ≡ l = (let some : Some first ≡ Some l = e in cc) in ap (λ (x : Leaf). x.gap) (sym same)

-- the gap in front of the first leaf of such a line
pub opening : (x : Part) (xs : List Part) (first : Leaf) (front : List ℕ) → IsLineOfOne x xs → Some first ≡ slice_get (flat_map leaves_part (take 1 xs)) 0
    → fronts_part front x ≡ (front ++ first.gap) ∷ []
opening x xs first front one is = one.begun front ∙ ap (λ (gap : List ℕ). (front ++ gap) ∷ []) (first_is _ first is)

-- parts that have one statement each
pub all_one : (xs : List Part) → AllByRecursion HasOne xs → (front : List ℕ) → length (fronts front xs) ≡ length xs
unfolding HasOne
all_one [] each front = refl
all_one (x ∷ xs) ((held, one), each) front =
    let rest : List ℕ = front ++ spell_part x in
    ap (λ (ts : List (List ℕ)). length (ts ++ fronts rest xs)) (one.begun front) ∙ ap suc (all_one xs each rest)

-- ---- after a text with fewer or more newlines

line_moved : (f g t : List ℕ) (gone come : ℕ) → newlines g + gone ≡ newlines f + come → line_following (g ++ t) ≡ moved gone come (line_following (f ++ t))
line_moved f g t gone come e = omega (arith, e, newlines_append g t, newlines_append f t)

each_moved : (f g : List ℕ) (ts : List (List ℕ)) (gone come : ℕ) → newlines g + gone ≡ newlines f + come
    → map line_following (map (λ t. g ++ t) ts) ≡ map (moved gone come) (map line_following (map (λ t. f ++ t) ts))
each_moved f g [] gone come e = refl
each_moved f g (t ∷ ts) gone come e =
    ap (λ (line : ℕ). line ∷ map line_following (map (λ t. g ++ t) ts)) (line_moved f g t gone come e) ∙ ap (λ (lines : List ℕ). moved gone come (line_following (f ++ t)) ∷ lines) (each_moved f g ts gone come e)

among_moved : (f g : List ℕ) (xs : List Part) (gone come : ℕ) → newlines g + gone ≡ newlines f + come → lines_among g xs ≡ map (moved gone come) (lines_among f xs)
among_moved f g xs gone come e =
    ap (map line_following) (fronts_further g xs) ∙ each_moved f g (fronts [] xs) gone come e ∙ sym (ap (λ (ts : List (List ℕ)). map (moved gone come) (map line_following ts)) (fronts_further f xs))

-- ---- one part in the place of another

parted : (here : List ℕ) (xs ys : List Part) → fronts here (xs ++ ys) ≡ fronts here xs ++ fronts (here ++ flat_map spell_part xs) ys
parted here [] ys = ap (λ (t : List ℕ). fronts t ys) (sym (append-nil here))
parted here (x ∷ xs) ys =
    let next : List ℕ = here ++ spell_part x in
    ap (λ (ts : List (List ℕ)). fronts_part here x ++ ts) (parted next xs ys ∙ ap (λ (t : List ℕ). fronts next xs ++ fronts t ys) (append_assoc here (spell_part x) (flat_map spell_part xs)))
    ∙ sym (append_assoc (fronts_part here x) (fronts next xs) (fronts (here ++ flat_map spell_part (x ∷ xs)) ys))

-- these lines are those with the ones from a place on moved
abbrev pub AreShifted : ℕ → ℕ → ℕ → List ℕ → List ℕ → Type 0
AreShifted from gone come old new = new ≡ moved_from from gone come old

moved_there : (a b now next : List ℕ) (n gone come : ℕ) → length a ≡ n → now ≡ a ++ b → next ≡ a ++ map (moved gone come) b → AreShifted n gone come now next
moved_there a b now next n gone come size is after =
    let front : take n now ≡ a = ap (λ (k : ℕ). take k now) (sym size) ∙ ap (take (length a)) is ∙ take-append_seam a b in
    let rest : drop n now ≡ b = ap (λ (k : ℕ). drop k now) (sym size) ∙ ap (drop (length a)) is ∙ drop-append_seam a b in
    after ∙ sym (ap (λ (xs : List ℕ). xs ++ map (moved gone come) (drop n now)) front ∙ ap (λ (xs : List ℕ). a ++ map (moved gone come) xs) rest)

module _ (t q : List Part) (old new : Part) (n gone come : ℕ) (like : IsLike old new gone come) (each : length (fronts [] (t ++ old ∷ [])) ≡ n) where
  abbrev Text : Part → List ℕ
  Text x = flat_map spell_part (t ++ x ∷ [])

  abbrev begins : List ℕ
  begins = map line_following (fronts [] (t ++ old ∷ []))

  same : fronts [] (t ++ new ∷ []) ≡ fronts [] (t ++ old ∷ [])
  same = parted [] t (new ∷ []) ∙ ap (λ (ts : List (List ℕ)). fronts [] t ++ (ts ++ [])) (like.begun (flat_map spell_part t)) ∙ sym (parted [] t (old ∷ []))

  counted : (x : Part) → newlines (Text x) ≡ newlines (flat_map spell_part t) + newlines (spell_part x)
  counted x =
      ap newlines (flat_map-append spell_part t (x ∷ []) ∙ ap (λ (s : List ℕ). flat_map spell_part t ++ s) (append-nil (spell_part x))) ∙ newlines_append (flat_map spell_part t) (spell_part x)

  lines_with : (x : Part) → lines_among [] (t ++ x ∷ q) ≡ lines_among [] (t ++ x ∷ []) ++ lines_among (Text x) q
  lines_with x =
      ap (lines_among []) (sym (append_assoc t (x ∷ []) q)) ∙ ap (map line_following) (parted [] (t ++ x ∷ []) q) ∙ map-append line_following (fronts [] (t ++ x ∷ [])) (fronts (Text x) q)

  at_place : AreShifted n gone come (lines_among [] (t ++ old ∷ q)) (lines_among [] (t ++ new ∷ q))
  at_place =
      let rest = among_moved (Text old) (Text new) q gone come (omega (arith, counted old, counted new, like.gone_is, like.come_is)) in
      moved_there begins (lines_among (Text old) q) _ _ n gone come (length-map (fronts [] (t ++ old ∷ [])) line_following ∙ each) (lines_with old)
      (lines_with new ∙ ap (λ (ts : List (List ℕ)). map line_following ts ++ lines_among (Text new) q) same ∙ ap (λ (lines : List ℕ). begins ++ lines) rest)

-- the parts so far have one statement each, and the last of them gives way to another
pub shifts : (windows : List PartWindow) (w : PartWindow) (tree : Node) (parts held : List Part) (line old : Part) (gone come : ℕ) → windows ≡ w ∷ [] → parts ≡ tree.parts → AreThere windows tree.parts
    → held ≡ w.parts → held ≡ line ∷ [] → w.gone ≡ 1 → old ≡ get_or parts w.from old → IsLike old line gone come
    → length (fronts [] (take (w.from + 1) parts)) ≡ length (take (w.from + 1) parts) → AreShifted (w.from + 1) gone come (lines_of tree) (lines_of (with_windows windows tree))
shifts windows w tree parts held line old gone come one own there is_held is_line one_gone is like each =
    let place : ℕ = w.from in
    let fits : AreThere (w ∷ []) parts = subst (λ (ps : List Part). AreThere (w ∷ []) ps) (sym own) (subst (λ (ws : List PartWindow). AreThere ws tree.parts) one there) in
    let inside : place < length parts = omega (arith, fits.0, one_gone) in
    let t : List Part = take place parts in
    let q : List Part = drop (place + 1) parts in
    let split : parts ≡ t ++ old ∷ q = sym (take-append-drop place parts) ∙ ap (λ (xs : List Part). t ++ xs) (drop_more parts place old inside) ∙ ap (λ (x : Part). t ++ x ∷ q) (sym is) in
    let first : take (place + 1) parts ≡ t ++ old ∷ [] = take_more parts place old inside ∙ ap (λ (x : Part). t ++ x ∷ []) (sym is) in
    let next : (with_windows windows tree).parts ≡ t ++ line ∷ q =
    ap (λ (ws : List PartWindow). window_parts ws tree.parts) one ∙ ap (window_parts (w ∷ [])) (sym own) ∙ ap (λ (xs : List Part). t ++ (xs ++ drop (place + w.gone) parts)) (sym is_held ∙ is_line)
    ∙ ap (λ (n : ℕ). t ++ line ∷ drop (place + n) parts) one_gone in
    let moves : AreShifted (place + 1) gone come (lines_among [] (t ++ old ∷ q)) (lines_among [] (t ++ line ∷ q)) =
    at_place t q old line (place + 1) gone come like (ap (λ (xs : List Part). length (fronts [] xs)) (sym first) ∙ each ∙ length-take-le (place + 1) parts (omega (arith, inside))) in
    subst (λ (xs : List Part). AreShifted (place + 1) gone come (lines_among [] xs) (lines_of (with_windows windows tree))) (sym split ∙ own)
    (subst (λ (xs : List Part). AreShifted (place + 1) gone come (lines_among [] (t ++ old ∷ q)) (lines_among [] xs)) (sym next) moves)

-- a list with one item
pub one_of : {X : Type 0} (xs : List X) (d : X) → 1 ≤ length xs → length xs < 2 → d ≡ get_or xs 0 d → xs ≡ d ∷ []
one_of [] d some few is = absurd (omega (arith, some))
one_of (x ∷ []) d some few is = ap (λ y. y ∷ []) (sym is)
one_of (x ∷ y ∷ xs) d some few is = absurd (omega (arith, few))
