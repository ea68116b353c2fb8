-- A well-formed step has no more edits than its tree has places: they are numbered in the order of the text.
use Rattle.bz_resume.proofs.Words.{[], ⊎_elim, ◌*◌, ◌++◌, ◌+◌, ◌<◌, ◌^◌, ◌∙◌, ◌∷◌, ◌≡◌, ◌≤◌, all_there, AllByRecursion, and_parts, ap, arith, child, child_found, Edit, few_parts, has_place, if_node, IsBefore, IsTree, leb-true, length, length_total, List, MayFollow, Node, node_in, opened_node, outs-Node, Part, parts_in, parts_Node, same_Some, slice_get, Some, StepLeads, subst, suc, sym, take, total_length, true, WellFormed, zero, ℕ}
use Rattle.bz_grammar.specs.declared.tree.Part.TheVariants as p

-- ---- parts before a place

more : (xs : List Part) (i j : ℕ) → i ≤ j → total_length (take i xs) ≤ total_length (take j xs)
more [] zero zero h = omega arith
more [] zero (suc j) h = omega arith
more [] (suc i) zero h = omega arith
more [] (suc i) (suc j) h = omega arith
more (x ∷ xs) zero zero h = omega arith
more (x ∷ xs) zero (suc j) h = omega arith
more (x ∷ xs) (suc i) zero h = omega arith
more (x ∷ xs) (suc i) (suc j) h = omega (arith, more xs i j (omega arith))

within : (xs : List Part) (i : ℕ) → total_length (take i xs) ≤ total_length xs
within [] zero = omega arith
within [] (suc i) = omega arith
within (x ∷ xs) zero = omega arith
within (x ∷ xs) (suc i) = omega (arith, within xs i)

-- the next part is there, and counts
after : (xs : List Part) (i : ℕ) (x : Part) → slice_get xs i ≡ Some x → total_length (take (suc i) xs) ≡ total_length (take i xs) + parts_in x
after [] i x e = cc
after (y ∷ ys) zero x e = let s = same_Some y x e in omega (arith, ap parts_in s)
after (y ∷ ys) (suc i) x e = omega (arith, after ys i x e)

strictly : (xs : List Part) (i j : ℕ) → i < j → j ≤ length xs → total_length (take i xs) < total_length (take j xs)
strictly [] i j h k = absurd (omega arith)
strictly (x ∷ xs) i zero h k = absurd (omega arith)
strictly (x ∷ xs) zero (suc j) h k = omega (arith, length_total (x ∷ []))
strictly (x ∷ xs) (suc i) (suc j) h k = omega (arith, strictly xs i j (omega arith) (omega arith))

-- ---- the number of a place

abbrev rank : List ℕ → ℕ → Node → ℕ
rank [] at n = 2 * total_length (take at n.parts)
rank (i ∷ path) at n = 2 * total_length (take i n.parts) + 1 + if_node 0 (rank path at) (child i n)

rank_at : (i : ℕ) (path : List ℕ) (at : ℕ) (n m : Node) → slice_get n.parts i ≡ Some (p.Node m) → rank (i ∷ path) at n ≡ 2 * total_length (take i n.parts) + 1 + rank path at m
rank_at i path at n m e =
    ap (λ o. 2 * total_length (take i n.parts) + 1 + if_node 0 (rank path at) (node_in o)) e ∙ ap (λ z. 2 * total_length (take i n.parts) + 1 + if_node 0 (rank path at) (opened_node z)) (outs-Node m)

rank_within : (path : List ℕ) (at count : ℕ) (n : Node) → has_place path at count n ≡ true → rank path at n ≤ 2 * total_length n.parts
rank_within [] at count n h = omega (arith, within n.parts at)
rank_within (i ∷ path) at count n h =
    let w = child_found i n (has_place path at count) h in
    let m : Node = w.0 in
    omega (arith, rank_at i path at n m w.1, rank_within path at count m w.2, after n.parts i (p.Node m) w.1, within n.parts (suc i), parts_Node m)

-- below part i, all comes before part i + 1
rank_below : (i : ℕ) (path : List ℕ) (at count : ℕ) (n : Node) → has_place (i ∷ path) at count n ≡ true → rank (i ∷ path) at n < 2 * total_length (take (suc i) n.parts)
rank_below i path at count n h =
    let w = child_found i n (has_place path at count) h in
    let m : Node = w.0 in
    omega (arith, rank_at i path at n m w.1, rank_within path at count m w.2, after n.parts i (p.Node m) w.1, parts_Node m)

not_before : (path : List ℕ) → IsBefore path [] → ⊥
not_before [] h = h
not_before (i ∷ path) h = h

found_child : (i : ℕ) (n m : Node) → slice_get n.parts i ≡ Some (p.Node m) → child i n ≡ Some m
found_child i n m e = ap node_in e ∙ ap opened_node (outs-Node m)

ranked : (path : List ℕ) (at count : ℕ) (q : List ℕ) (at' count' : ℕ) (n : Node) → has_place path at count n ≡ true → has_place q at' count' n ≡ true → IsBefore (path ++ at ∷ []) (q ++ at' ∷ []) → rank path at n < rank q at' n
ranked [] at count [] at' count' n h k before = ⊎_elim
    (λ (l : at < at'). omega (arith, strictly n.parts at at' l (omega (arith, leb-true (at' + count') (length n.parts) k))))
    (λ (l : (at ≡ at') × IsBefore [] []). absurd l.1)
    before
ranked [] at count (j ∷ q) at' count' n h k before = ⊎_elim
    (λ (l : at < j). omega (arith, more n.parts at j (omega arith)))
    (λ (l : (at ≡ j) × IsBefore [] (q ++ at' ∷ [])). omega (arith, more n.parts at j (omega (arith, l.0))))
    before
ranked (i ∷ path) at count [] at' count' n h k before = ⊎_elim
    (λ (l : i < at'). omega (arith, rank_below i path at count n h, more n.parts (suc i) at' (omega arith)))
    (λ (l : (i ≡ at') × IsBefore (path ++ at ∷ []) []). absurd (not_before (path ++ at ∷ []) l.1))
    before
ranked (i ∷ path) at count (j ∷ q) at' count' n h k before = ⊎_elim
    (λ (l : i < j). omega (arith, rank_below i path at count n h, more n.parts (suc i) j (omega arith)))
    (λ (l : (i ≡ j) × IsBefore (path ++ at ∷ []) (q ++ at' ∷ [])).
    let w = child_found i n (has_place path at count) h in
    let m : Node = w.0 in
    let v = child_found i n (has_place q at' count') (subst (λ z. has_place (z ∷ q) at' count' n ≡ true) (sym l.0) k) in
    let same : v.0 ≡ m = same_Some v.0 m (sym (found_child i n v.0 v.1) ∙ found_child i n m w.1) in
    let there : has_place q at' count' m ≡ true = ap (has_place q at' count') (sym same) ∙ v.2 in
    let r = ranked path at count q at' count' m w.2 there l.1 in
    let other : rank (j ∷ q) at' n ≡ rank (i ∷ q) at' n = ap (λ z. rank (z ∷ q) at' n) (sym l.0) in
    omega (arith, r, other, rank_at i path at n m w.1, rank_at i q at' n m w.1))
    before

-- ---- many edits

abbrev Above : Node → ℕ → Edit → Type 0
Above n k e = k ≤ rank e.path e.at n

all_above : (n : Node) (e : Edit) (es : List Edit) → has_place e.path e.at e.count n ≡ true → all_there es n ≡ true → AllByRecursion (MayFollow e) es → AllByRecursion (Above n (suc (rank e.path e.at n))) es
all_above n e [] h there follow = tt
all_above n e (f ∷ es) h there follow =
    let w = and_parts (has_place f.path f.at f.count n) (all_there es n) there in
    (omega (arith, ranked e.path e.at e.count f.path f.at f.count n h w.0 follow.0.0), all_above n e es h w.1 follow.1)

counted : (n : Node) (es : List Edit) (k : ℕ) → k ≤ 2 * total_length n.parts + 1 → all_there es n ≡ true → WellFormed es → AllByRecursion (Above n k) es → length es + k ≤ 2 * total_length n.parts + 1
counted n [] k h there fine above = omega (arith, h)
counted n (e ∷ es) k h there fine above =
    let w = and_parts (has_place e.path e.at e.count n) (all_there es n) there in
    let here = rank_within e.path e.at e.count n w.0 in
    let rest = counted n es (suc (rank e.path e.at n)) (omega (arith, here)) w.1 fine.1 (all_above n e es w.0 w.1 fine.0) in
    omega (arith, rest, above.0)

all_zero : (n : Node) (es : List Edit) → AllByRecursion (Above n 0) es
all_zero n [] = tt
all_zero n (e ∷ es) = (omega arith, all_zero n es)

pub few_edits : (n : Node) (e : List Edit) → IsTree n → StepLeads e n → length e < 2 ^ 32
few_edits n e tree leads = omega (arith, counted n e 0 (omega arith) leads.there leads.is_step.0 (all_zero n e), few_parts n tree.0.legal tree.1)
