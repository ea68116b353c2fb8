-- Steps of the walks over the parts of a file.
use Rattle.bz_hosts.proofs.Words.{[], ◌++◌, ◌+◌, ◌<◌, ◌∙◌, ◌∷◌, ◌≡◌, ◌≤◌, after_first_line, all_but_last, ap, append-nil, append_assoc, ap₂, arith, blocks, Bool, Bytes, drop, drop-set-lt, first_read, first_seen_gap, GapLine, get_or, groups_of, indented_lines_before, is_kind, Item, Item as i, items_below, items_from, Kind as k, last_gap, last_group, Leaf, left_below, length, length-drop, lines_at_end, lines_of, List, map, MovesOn, Node, Node', Part, part_read, ReadStatements, refl, seen, set, stated, statements_in, suc, sym, true, zero, ℕ}
use Rattle.bz_grammar.specs.declared.tree.Part.TheVariants as p
use Rattle.bz_hosts.proofs.{Colons.part_here, GroupSteps.last_block, Stated.line_of, Stated.lines_first, Stated.all_simple}

abbrev Lines : Type 0
Lines = List GapLine

abbrev pub before : List Part → Lines
before xs = indented_lines_before (map stated xs) []

-- ---- one part

pub end_read : (x : Part) (l : Leaf) → x ≡ p.Leaf l → (above : List Bytes) (after : Lines) → ◌≡◌ {A = ReadStatements (List Item)} (blocks (above ∷ []), []) (part_read x above after)
end_read x l is above after = sym (ap (λ y. part_read y above after) is)

abbrev of_node : Part → List Bytes → Lines → ReadStatements (List Item)
of_node x above after = (map i.Stmt ((stated x).statement above after).0, ((stated x).statement above after).1)

pub node_read : (x : Part) (n : Node) → x ≡ p.Node n → (above : List Bytes) (after : Lines) → of_node x above after ≡ part_read x above after
node_read x n is above after = ap (λ y. of_node y above after) is ∙ sym (ap (λ y. part_read y above after) is)

-- a line, by its parts
pub line_part : (x : Part) (n : Node) (ps : List Part) → x ≡ p.Node n → ps ≡ n.parts → is_kind n.kind k.Line ≡ true → (above : List Bytes) (after : Lines) →
    ◌≡◌ {A = ReadStatements (List Item)} (statements_in above (map seen ps), after_first_line (lines_of (last_gap (map seen ps))) ++ after) (part_read x above after)
line_part x n ps is parts line above after =
    let left : Lines = after_first_line (lines_of (last_gap (map seen ps))) ++ after in
    ap (λ own. (own, left)) (sym (all_simple above (map seen ps)))
    ∙ (ap (λ own. (map i.Stmt own.0, own.1)) (line_of x n ps is parts after above line) ∙ node_read x n is above after)

-- ---- the part that follows

opened : (lines : Lines) (x : Part) (xs : List Part) → items_from lines (x ∷ xs) ≡ blocks (all_but_last (groups_of lines)) ++ items_below (last_group (groups_of lines)) (x ∷ xs)
opened lines (p.Leaf l) xs =
    ap (λ own. own ++ items_from [] xs) (last_block lines) ∙ append_assoc (blocks (all_but_last (groups_of lines))) (blocks (last_group (groups_of lines) ∷ [])) (items_from [] xs)
opened lines (Node' kind size row) xs = refl

left_opened : (lines : Lines) (x y : Part) (xs : List Part) → left_below (last_group (groups_of lines)) (x ∷ y ∷ xs) ≡ lines_at_end lines (x ∷ y ∷ xs)
left_opened lines (p.Leaf l) y xs = refl
left_opened lines (Node' kind size row) y xs = refl

-- the groups before the first of these parts are made
pub below : (xs : List Part) (lines : Lines) (next : List Bytes) (middle new : List Item) → 0 < length xs → new ≡ middle ++ blocks (all_but_last (groups_of lines)) → next ≡ last_group (groups_of lines) → new ++ items_below next xs ≡ middle ++ items_from lines xs
below [] lines next middle new some n a = absurd (omega (arith, some))
below (x ∷ xs) lines next middle new some n a =
    ap₂ (λ z t. z ++ items_below t (x ∷ xs)) n a
    ∙ (append_assoc middle (blocks (all_but_last (groups_of lines))) (items_below (last_group (groups_of lines)) (x ∷ xs)) ∙ ap (λ z. middle ++ z) (sym (opened lines x xs)))

pub going_on : (xs : List Part) (lines : Lines) (next : List Bytes) → 1 < length xs → next ≡ last_group (groups_of lines) → left_below next xs ≡ lines_at_end lines xs
going_on [] lines next more a = absurd (omega (arith, more))
going_on (x ∷ []) lines next more a = absurd (omega (arith, more))
going_on (x ∷ y ∷ xs) lines next more a = ap (λ t. left_below t (x ∷ y ∷ xs)) a ∙ left_opened lines x y xs

pub none_left : (xs : List Part) (lines : Lines) → length xs ≤ 1 → lines ≡ [] → lines_at_end lines xs ≡ []
none_left [] lines last e = e
none_left (x ∷ []) lines last e = e
none_left (x ∷ y ∷ xs) lines last e = absurd (omega (arith, last))

-- ---- a turn

-- by reference: the part with this index, after these lines
pub turned : (ps : List Part) (at : ℕ) (x : Part) (lines left after : Lines) (above : List Bytes) (old middle new : List Item) → at < length ps → x ≡ get_or ps at x → after ≡ before (drop (at + 1) ps) →
    middle ≡ old ++ blocks (all_but_last (groups_of lines)) → above ≡ last_group (groups_of lines) → new ≡ middle ++ (part_read x above after).0 → left ≡ (part_read x above after).1 →
    new ++ items_from left (drop (at + 1) ps) ≡ old ++ items_from lines (drop at ps)
turned ps at x lines left after above old middle new l here f m a n e =
    let xs : List Part = drop (at + 1) ps in
    let own : ReadStatements (List Item) = part_read x above (before xs) in
    ap₂ (λ z t. z ++ items_from t xs) (n ∙ ap (λ t. middle ++ (part_read x above t).0) f) (e ∙ ap (λ t. (part_read x above t).1) f)
    ∙ (append_assoc middle own.0 (items_from own.1 xs) ∙ (below (x ∷ xs) lines above old middle (omega arith) m a ∙ ap (λ ys. old ++ items_from lines ys) (sym (part_here ps at x l here))))

-- given up: the comments above the part with this index are known, and those above the next one are then
pub moved : (ps : List Part) (at : ℕ) (x : Part) (above next : List Bytes) (lines after : Lines) (own : ReadStatements (List Item)) (spent : Bool) (old middle new : List Item) → at + 1 < length ps → x ≡ get_or ps at x → after ≡ before (drop (at + 1) ps) →
    own ≡ part_read x above after → lines ≡ own.1 → middle ≡ old ++ own.0 → new ≡ middle ++ blocks (all_but_last (groups_of lines)) → next ≡ last_group (groups_of lines) → (spent ≡ true → lines ≡ []) → MovesOn ps at above next spent old new
moved ps at x above next lines after own spent old middle new l here f is e m n a none =
    let xs : List Part = drop (at + 1) ps in
    let w : ReadStatements (List Item) = first_read above x xs in
    let read : own ≡ w = is ∙ ap (part_read x above) f in
    let cut : drop at ps ≡ x ∷ xs = part_here ps at x (omega (arith, l)) here in
    let same : lines_at_end lines xs ≡ left_below above (drop at ps) = ap (λ t. lines_at_end t xs) (e ∙ ap (λ r. r.1) read) ∙ sym (ap (left_below above) cut) in
    record {
      items = below xs lines next middle new (omega (arith, l, length-drop (at + 1) ps)) n a
          ∙ (ap₂ (λ z t. z ++ items_from t xs) (m ∙ ap (λ r. old ++ r.0) read) (e ∙ ap (λ r. r.1) read) ∙ (append_assoc old w.0 (items_from w.1 xs) ∙ ap (λ ys. old ++ items_below above ys) (sym cut)));
      going = λ more. going_on xs lines next (omega (arith, more, length-drop (at + 1) ps)) a ∙ same;
      ended = λ last s. sym same ∙ none_left xs lines (omega (arith, last, length-drop (at + 1) ps)) (none s);
    }

there : (ps : List Part) (at : ℕ) (x y : Part) → at < length ps → x ≡ get_or ps at x → y ≡ get_or ps at y → x ≡ y
there [] at x y l e f = absurd (omega (arith, l))
there (z ∷ ps) zero x y l e f = e ∙ sym f
there (z ∷ ps) (suc at) x y l e f = there ps at x y (omega (arith, l)) e f

-- The same of a line whose parts are taken out. y: the part as it was looked at
pub line_moved : (ps qs line : List Part) (at : ℕ) (x y z : Part) (n : Node) (above next : List Bytes) (left last gap : Bytes) (spent : Bool) (old middle new : List Item) → at + 1 < length ps → x ≡ get_or ps at x → y ≡ get_or ps at y → y ≡ p.Node n → is_kind n.kind k.Line ≡ true →
    (x ≡ p.Node n → line ≡ n.parts) → qs ≡ set ps at z → lines_of gap ≡ indented_lines_before (map stated (drop (at + 1) qs)) [] → lines_of left ≡ after_first_line (lines_of last) → last ≡ last_gap (map seen line) → middle ≡ old ++ statements_in above (map seen line) →
    new ≡ middle ++ blocks (all_but_last (groups_of (lines_of left ++ lines_of gap))) → next ≡ last_group (groups_of (lines_of left ++ lines_of gap)) → (spent ≡ true → lines_of left ++ lines_of gap ≡ []) → MovesOn ps at above next spent old new
line_moved ps qs line at x y z n above next left last gap spent old middle new l here as_seen is kind taken q f e g m made a none =
    let node : x ≡ p.Node n = there ps at x y (omega (arith, l)) here as_seen ∙ is in
    moved ps at x above next (lines_of left ++ lines_of gap) (lines_of gap) (statements_in above (map seen line), after_first_line (lines_of (last_gap (map seen line))) ++ lines_of gap) spent old middle new l here
    (f ∙ ap before (ap (drop (at + 1)) q ∙ drop-set-lt (at + 1) ps at z (omega arith))) (line_part x n line node (taken node) kind above (lines_of gap)) (ap (λ t. t ++ lines_of gap) (e ∙ ap (λ t. after_first_line (lines_of t)) g)) m made a none

-- where nothing is made yet
pub begun : (ps all : List Part) (gap : Bytes) (above : List Bytes) (spent : Bool) (old new : List Item) → 0 < length ps → ps ≡ all → gap ≡ first_seen_gap (map seen ps) → old ≡ [] → new ≡ old ++ blocks (all_but_last (groups_of (lines_of gap))) → above ≡ last_group (groups_of (lines_of gap)) →
    (spent ≡ true → lines_of gap ≡ []) →
    (new ++ items_below above ps ≡ items_from (before all) all) × ((1 < length ps → left_below above ps ≡ lines_at_end (before all) all) × (length ps ≤ 1 → spent ≡ true → lines_at_end (before all) all ≡ []))
begun ps all gap above spent old new some same g none n a s =
    let first : lines_of gap ≡ before ps = ap lines_of g ∙ lines_first ps in (
      below ps (lines_of gap) above old new some n a ∙ (ap₂ (λ z t. z ++ items_from t ps) none first ∙ ap (λ qs. items_from (before qs) qs) same),
      (
        λ more. going_on ps (lines_of gap) above more a ∙ (ap (λ t. lines_at_end t ps) first ∙ ap (λ qs. lines_at_end (before qs) qs) same),
        λ last is. sym (ap (λ t. lines_at_end t ps) first ∙ ap (λ qs. lines_at_end (before qs) qs) same) ∙ none_left ps (lines_of gap) last (s is),
      ),
    )

no_more : (ys : List Part) → length ys ≤ 0 → ys ≡ []
no_more [] h = refl
no_more (y ∷ ys) h = absurd (omega (arith, h))

-- the last part, which nothing follows
pub finished : (ps : List Part) (at : ℕ) (x : Part) (above : List Bytes) (old new all : List Item) → length ps ≤ at + 1 → at < length ps → x ≡ get_or ps at x → new ≡ old ++ (part_read x above []).0 → old ++ items_below above (drop at ps) ≡ all → new ≡ all
finished ps at x above old new all last l here n h =
    let none : drop (at + 1) ps ≡ [] = no_more (drop (at + 1) ps) (omega (arith, last, length-drop (at + 1) ps)) in
    n ∙ (ap (λ z. old ++ z) (sym (append-nil (part_read x above []).0)) ∙ (ap (λ ys. old ++ items_below above ys) (sym (part_here ps at x l here ∙ ap (λ ys. x ∷ ys) none)) ∙ h))
