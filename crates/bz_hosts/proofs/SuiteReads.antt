-- What is read of parts and of lines of statements, by their leaves: gaps, groups of comment lines, and what a line leaves.
use Rattle.bz_hosts.proofs.Words.{[], ◌++◌, ◌<◌, ◌∙◌, ◌∷◌, ◌≡◌, after_first_line, AllByRecursion, ap, arith, block, blocks, Bytes, CommentPlace, comments_at, false, flat_map, HostComments, Hosted, hosted_by, hosts_alone, inside_expr, inside_item, Leaf, leaves_part, length, length-append, line_read, lines_of, List, map, Node', None, Option, outside, Part, Part as p, refl, Region, seen, stated, statement, statements_in, sym, texts_at, with_group, ℕ}
use Rattle.bz_hosts.proofs.{Parts.Solid, QuietGaps.Statements, QuietGaps.line_alternating, SuiteLines.gap_of, SuiteLines.last_leaf_gap, SuiteLines.Lines, SuiteLines.last_leaf_after, Stated.stated_part, Stated.parts_seen, SeenParts.comments_made, Around.Sees, Gathered.key, Gathered.pick_other, Gathered.GapPlaces, Gathered.gap_all, Alternating.Alternating, Insides.inside_made}
use Rattle.bz_grammar.specs.Shapes as s
use Rattle.bz_hosts.specs.Seen as v

-- ---- the first leaf of a part

pub stated_gap : (x : Part) (ls : List Leaf) → Solid x → (stated x).part.gap ≡ gap_of (leaves_part x ++ ls)
stated_gap x ls h = ap (λ s. s.gap) (stated_part x) ∙ (h.gap ∙ ap (λ (z : List Leaf). gap_of (z ++ ls)) (sym h.leaves))

-- ---- comment lines

pub blocks_alone : (gs : List (List Bytes)) → flat_map inside_item (blocks gs) ≡ hosts_alone gs
blocks_alone [] = refl
blocks_alone ([] ∷ gs) = blocks_alone gs
blocks_alone ((text ∷ group) ∷ gs) = ap (λ (z : List Hosted). block (text ∷ group) ∷ z) (blocks_alone gs)

-- a group above a line goes to its first statement
statement_group : (group : List Bytes) (suffix : Option Bytes) (x : Part) (hs : List Hosted) → with_group group (inside_item (statement [] suffix (seen x)) ++ hs) ≡ inside_item (statement group suffix (seen x)) ++ hs
statement_group group suffix x hs =
    let c : HostComments = record { before = (seen x).loose; suffix = suffix } in
    let c' : HostComments = record { before = group ++ (seen x).loose; suffix = suffix } in
    ap (λ (z : HostComments). with_group group (hosted_by z ∷ (inside_expr ((seen x).make c false) ++ hs))) (comments_made x c false)
    ∙ (ap (λ (z : List Hosted). hosted_by c' ∷ (z ++ hs)) (inside_made x c false ∙ sym (inside_made x c' false))
    ∙ ap (λ (z : HostComments). hosted_by z ∷ (inside_expr ((seen x).make c' false) ++ hs)) (sym (comments_made x c' false)))

pub group_above : (group : List Bytes) (xs : List Part) → with_group group (flat_map inside_item (statements_in [] (map seen xs))) ≡ flat_map inside_item (statements_in group (map seen xs))
group_above group [] = refl
group_above group (x ∷ []) = refl
group_above group (x ∷ y ∷ []) = statement_group group _ x []
group_above group (x ∷ y ∷ z ∷ []) = statement_group group _ x []
group_above group (x ∷ y ∷ z ∷ u ∷ xs) = statement_group group None x (flat_map inside_item (statements_in [] (map seen (z ∷ u ∷ xs))))

-- ---- the last gap of a line

last_further : (ks ls ms : List Leaf) (m : Leaf) → ms ≡ m ∷ ls → last_leaf_gap (ks ++ ms) ≡ last_leaf_gap ms
last_further ks ls ms m e = rw e (last_leaf_after ks m ls)

pub last_same : (separators : List s.Terminal) (xs : List Part) → Alternating separators xs → AllByRecursion Solid xs → last_leaf_gap (flat_map leaves_part xs) ≡ v.last_gap (map seen xs)
last_same separators [] a h = absurd a
last_same separators (p.Leaf l ∷ []) a h = refl
last_same separators (Node' kind n r ∷ []) a h = absurd a
last_same separators (x ∷ p.Leaf l ∷ []) a h = last_leaf_after (leaves_part x) l []
last_same separators (x ∷ Node' kind n r ∷ []) a h = absurd a.1
last_same separators (x ∷ p.Leaf l ∷ z ∷ xs) a h =
    let rest : List Leaf = flat_map leaves_part xs in
    last_leaf_after (leaves_part x) l (leaves_part z ++ rest)
    ∙ (last_further (l ∷ []) (h.1.1.0.rest ++ rest) (leaves_part z ++ rest) h.1.1.0.first (ap (λ (ls : List Leaf). ls ++ rest) h.1.1.0.leaves) ∙ last_same separators (z ∷ xs) a.2 h.1.1)
last_same separators (x ∷ Node' kind n r ∷ z ∷ xs) a h = absurd a.1

-- a gap in no statement, and after none
pub gap_outside : (all : List Region) (m hi : ℕ) → Sees all m None hi [] → GapPlaces all m outside outside
gap_outside all m hi h = record { on_line = λ t. rw (h.ends, h.inner) refl; below = λ t. rw h.inner refl }

pub outside_none : (all : List Region) (m : ℕ) (gap : Bytes) → GapPlaces all m outside outside → (q : CommentPlace) → 0 < key q → texts_at all q (comments_at m gap) ≡ []
outside_none all m gap h q d = gap_all all q outside m gap h ∙ pick_other outside q _ (λ e. omega arith)

-- ---- a line of statements

pub line_some : (x : Part) (xs : List Part) → Solid x → 0 < length (flat_map leaves_part (x ∷ xs))
line_some x xs h = let len = length-append (leaves_part x) (flat_map leaves_part xs) in let some = ap length h.leaves in omega arith

-- the lines that a line leaves
pub line_left : (group : List Bytes) (xs : List Part) → Statements xs → AllByRecursion Solid xs → (after : Lines) → (line_read (map (λ x. x.part) (map stated xs)) group after).1 ≡ after_first_line (lines_of (last_leaf_gap (flat_map leaves_part xs))) ++ after
line_left group xs h g after =
    ap (λ ss. after_first_line (lines_of (v.last_gap ss)) ++ after) (parts_seen xs)
    ∙ ap (λ (z : Bytes). after_first_line (lines_of z) ++ after) (sym (last_same s.semicolon xs (line_alternating xs h) g))
