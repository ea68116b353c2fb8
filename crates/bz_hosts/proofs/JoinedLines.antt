-- Views of lines after lines.
use Rattle.bz_hosts.proofs.Words.{[], ◌++◌, ◌∙◌, ◌∷◌, ◌≡◌, after_first_line, all_but_last, AllByRecursion, ap, append-nil, append_assoc, AreWholeLines, arith, blocks, Bytes, Class as c, exprs_in, false, file_with, Fits, flat_map, flat_map-append, GapLine, groups_of, indented_lines_before, inl, inr, IsNonterminal, IsUtf8-nil, Item, Item as i, items_from, Kind as k, last_gap, last_group, last_token, Leaf, leaves_Node, leaves_part, LegalBuild, lines_of, LinesJoin, List, map, no_such, Node, Node', nothing, Part, refl, Seen, seen, seen_row, shape, stated, stated_row, statements_in, subst, sym, view_of}
use Rattle.bz_grammar.specs.declared.tree.Part.TheVariants as p
use Rattle.bz_grammar.specs.Shapes as s
use Rattle.bz_grammar.proofs.Build.{file_lines}
use Rattle.bz_hosts.specs.Joined.{lines_left, EndsWithLine, ViewsJoin, EmptyReads}
use Rattle.bz_hosts.proofs.{NodeViews.seen_parts, Stated.row_parts}

-- ---- items

-- the lines before a file's end are lines of statements
abbrev AreLines : List Part → Type 0
AreLines xs = AllByRecursion (IsNonterminal s.line) xs

front_lines : (xs : List Part) (e : Leaf) → Fits IsNonterminal (shape k.File) (xs ++ p.Leaf e ∷ []) → AreLines xs
front_lines [] e h = tt
front_lines (p.Leaf l ∷ []) e (inl h) = absurd h.1
front_lines (p.Leaf l ∷ []) e (inr h) = no_such h.0
front_lines (p.Leaf l ∷ x ∷ xs) e (inl h) = absurd h.1
front_lines (p.Leaf l ∷ x ∷ xs) e (inr h) = no_such h.0
front_lines (Node' kind size row ∷ xs) e (inl h) = no_such h.0
front_lines (Node' kind size row ∷ xs) e (inr h) = (h.0, front_lines xs e h.1)

abbrev before : List Part → List GapLine
before xs = indented_lines_before (map stated xs) []

-- left: what the line before these leaves
items_joined : (left : List GapLine) (xs : List Part) (e : Leaf) (ys : List Part) → AreLines xs → lines_left left xs ≡ [] → e.gap ≡ [] →
    items_from (left ++ before (xs ++ ys)) (xs ++ ys) ≡ items_from (left ++ before (xs ++ p.Leaf e ∷ [])) (xs ++ p.Leaf e ∷ []) ++ items_from (before ys) ys
items_joined left [] e ys are h n =
    ap (λ ls. items_from (ls ++ before ys) ys) h
    ∙ sym (ap (λ ls. (blocks (groups_of (ls ++ lines_of e.gap)) ++ []) ++ items_from (before ys) ys) h ∙ ap (λ g. (blocks (groups_of (lines_of g)) ++ []) ++ items_from (before ys) ys) n)
items_joined left (p.Leaf l ∷ xs) e ys are h n = no_such are.0
items_joined left (Node' k.Line size row ∷ xs) e ys are h n =
    let ss : List Seen = map (λ x. x.part) (stated_row row) in
    let groups : List (List Bytes) = groups_of (left ++ lines_of (seen (Node' k.Line size row)).gap) in
    let front : List Item = blocks (all_but_last groups) in
    let own : List Item = map i.Stmt (exprs_in (statements_in (last_group groups) ss)) in
    let next : List GapLine = after_first_line (lines_of (last_gap ss)) in
    let one : List Item = items_from (next ++ before (xs ++ p.Leaf e ∷ [])) (xs ++ p.Leaf e ∷ []) in
    let two : List Item = items_from (before ys) ys in
    ap (λ is. front ++ (own ++ is)) (items_joined next xs e ys are.1 (subst (λ rs. lines_left (after_first_line (lines_of (last_gap rs))) xs ≡ []) (row_parts _ row) h) n)
    ∙ (ap (λ is. front ++ is) (sym (append_assoc own one two)) ∙ sym (append_assoc front (own ++ one) two))
items_joined left (Node' _ size row ∷ xs) e ys are h n = no_such are.0

left_both : (left : List GapLine) (xs ys : List Part) → lines_left left (xs ++ ys) ≡ lines_left (lines_left left xs) ys
left_both left [] ys = refl
left_both left (p.Leaf l ∷ xs) ys = left_both [] xs ys
left_both left (Node' kind size row ∷ xs) ys = left_both (after_first_line (lines_of (last_gap (seen_row row)))) xs ys

-- ---- the last token

last_both : (ls ms : List Leaf) → last_token ls ≡ 10 ∷ [] → last_token ms ≡ 10 ∷ [] → last_token (ls ++ ms) ≡ 10 ∷ []
last_both [] ms h g = g
last_both (l ∷ []) [] h g = h
last_both (l ∷ []) (m ∷ ms) h g = g
last_both (l ∷ m ∷ ls) ms h g = last_both (m ∷ ls) ms h g

pub last_after : (ls : List Leaf) (l : Leaf) → last_token (ls ++ l ∷ []) ≡ l.token
last_after [] l = refl
last_after (m ∷ []) l = refl
last_after (m ∷ n ∷ ls) l = last_after (n ∷ ls) l

pub whole_both : (xs ys : List Part) → AreWholeLines xs → AreWholeLines ys → AreWholeLines (xs ++ ys)
whole_both xs ys h g = subst (λ ls. last_token ls ≡ 10 ∷ []) (sym (flat_map-append leaves_part xs ys)) (last_both (flat_map leaves_part xs) (flat_map leaves_part ys) h g)

-- ---- files

ends_both : (xs : List Part) (m : Node) → AreWholeLines xs → lines_left [] xs ≡ [] → EndsWithLine m → EndsWithLine (file_with (xs ++ m.parts))
ends_both xs m w l h = record {
  lines = xs ++ h.lines;
  end = h.end;
  parts = ap (λ ys. xs ++ ys) h.parts ∙ sym (append_assoc xs h.lines (p.Leaf h.end ∷ []));
  whole = whole_both xs h.lines w h.whole;
  nothing = h.nothing;
  left = left_both [] xs h.lines ∙ (ap (λ ls. lines_left ls h.lines) l ∙ h.left);
}

pub views_join : LinesJoin → ViewsJoin
views_join law s t n m h r q le =
    let read = law s t n m h.lines h.end h.parts h.whole h.nothing r q le in
    let are : AreLines h.lines = front_lines h.lines h.end (subst (Fits IsNonterminal (shape k.File)) h.parts (file_lines n r.0)) in (
      file_with (h.lines ++ m.parts),
      read,
      items_joined [] h.lines h.end m.parts are h.left h.nothing ∙ ap (λ ps. items_from (before ps) ps ++ view_of m) (sym h.parts),
      ends_both h.lines m h.whole h.left,
    )

-- ---- the empty file

abbrev nothing_at_all : Leaf
nothing_at_all = record { class = c.End; gap = []; token = [] }

abbrev empty_file : Node
empty_file = file_with (p.Leaf nothing_at_all ∷ [])

empty_legal : LegalBuild empty_file
empty_legal = record {
  legal = record {
    file = record { root = refl; shapes = ((inl (refl, tt)), (tt, tt)) };
    gaps = ((false, nothing refl), tt);
    indents = (tt, tt);
    tokens = ((refl, refl), tt);
    coded = ((IsUtf8-nil, IsUtf8-nil), tt);
    depth = omega arith;
  };
  build = (tt, tt);
}

pub empty_reads : EmptyReads
empty_reads = (empty_file, (empty_legal, refl, omega arith), refl, record { lines = []; end = nothing_at_all; parts = refl; whole = refl; nothing = refl; left = refl })

-- ---- what the code looks at

last_seen : (front : List Part) (x : Part) → last_gap (map seen (front ++ x ∷ [])) ≡ (seen x).gap
last_seen [] x = refl
last_seen (y ∷ []) x = refl
last_seen (y ∷ z ∷ front) x = last_seen (z ∷ front) x

left_after_line : (left : List GapLine) (front : List Part) (n : Node) → lines_left left (front ++ p.Node n ∷ []) ≡ after_first_line (lines_of (last_gap (map seen n.parts)))
left_after_line left front n = left_both left front (p.Node n ∷ []) ∙ ap (λ ss. after_first_line (lines_of (last_gap ss))) (seen_parts n)

-- the last line of a file, and its end
ends_so : (n line : Node) (front before : List Part) (e newline : Leaf) → n.parts ≡ (front ++ p.Node line ∷ []) ++ p.Leaf e ∷ [] → line.parts ≡ before ++ p.Leaf newline ∷ [] → e.gap ≡ [] → newline.token ≡ 10 ∷ [] →
    after_first_line (lines_of newline.gap) ≡ [] → EndsWithLine n
ends_so n line front before e newline is at none token left =
    let own : leaves_part (p.Node line) ≡ flat_map leaves_part before ++ newline ∷ [] = leaves_Node line ∙ (ap (flat_map leaves_part) at ∙ flat_map-append leaves_part before (p.Leaf newline ∷ [])) in
    let all : flat_map leaves_part (front ++ p.Node line ∷ []) ≡ (flat_map leaves_part front ++ flat_map leaves_part before) ++ newline ∷ [] =
    flat_map-append leaves_part front (p.Node line ∷ [])
    ∙ (ap (λ ls. flat_map leaves_part front ++ ls) (append-nil (leaves_part (p.Node line)) ∙ own) ∙ sym (append_assoc (flat_map leaves_part front) (flat_map leaves_part before) (newline ∷ []))) in
    record {
      lines = front ++ p.Node line ∷ [];
      end = e;
      parts = is;
      whole = ap last_token all ∙ (last_after (flat_map leaves_part front ++ flat_map leaves_part before) newline ∙ token);
      nothing = none;
      left = left_after_line [] front line ∙ (ap (λ ps. after_first_line (lines_of (last_gap (map seen ps)))) at ∙ (ap (λ g. after_first_line (lines_of g)) (last_seen before (p.Leaf newline)) ∙ left));
    }

pub line_last : (n line : Node) (front rest before : List Part) (x y z : Part) (e newline : Leaf) → n.parts ≡ rest ++ y ∷ [] → rest ≡ front ++ x ∷ [] → line.parts ≡ before ++ z ∷ [] → y ≡ p.Leaf e → x ≡ p.Node line → z ≡ p.Leaf newline →
    e.gap ≡ [] → newline.token ≡ 10 ∷ [] → after_first_line (lines_of newline.gap) ≡ [] → EndsWithLine n
line_last n line front rest before x y z e newline is re at ye xe ze =
    ends_so n line front before e newline (is ∙ (ap (λ z. rest ++ z ∷ []) ye ∙ ap (λ z. z ++ p.Leaf e ∷ []) (re ∙ ap (λ z. front ++ z ∷ []) xe))) (at ∙ ap (λ z. before ++ z ∷ []) ze)
