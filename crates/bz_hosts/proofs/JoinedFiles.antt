-- What a file says after another one, where either may have suites.
use Rattle.bz_hosts.proofs.Words.{[], ◌++◌, ◌∙◌, ◌∷◌, ◌≡◌, all_but_last, all_in, AllByRecursion, ap, append-nil, append_assoc, ap₂, AreWholeLines, before_groups, BeginsBare, blocks, Bytes, BzlLinesJoin, comments_in, EndsInLine, EndsInNewline, EndsWithStatement, Expr, file_with, first_lines, first_seen_gap, flat_map, flat_map-append, groups_of, indented_lines_before, Item, Item as item, items_from, last_group, last_token, Leaf, leaves_Node, leaves_part, lines_after, lines_at_end, lines_of, List, map, Node, Node', Part, ReadStatements, refl, seen, stated, subst, SuitesJoin, sym, view_of}
use Rattle.bz_grammar.specs.declared.tree.Part.TheVariants as p
use Rattle.bz_hosts.proofs.{JoinedLines.last_after, JoinedLines.whole_both, BlankLines.Blank, BlankLines.Alike, BlankLines.before_blank, BlankLines.none_blank, Stated.lines_first, SuiteLines.Lines}

-- ---- groups of blank lines

record NoGroups (groups : List (List Bytes)) : Type 0 where
  all : blocks groups ≡ []
  front : blocks (all_but_last groups) ≡ []
  last : last_group groups ≡ []

no_groups : (groups : List (List Bytes)) → AllByRecursion (λ g. g ≡ []) groups → NoGroups groups
no_groups [] h = record { all = refl; front = refl; last = refl }
no_groups ((text ∷ g) ∷ groups) h = absurd (let e : text ∷ g ≡ [] = h.0 in cc)
no_groups ([] ∷ []) h = record { all = refl; front = refl; last = refl }
no_groups ([] ∷ g ∷ groups) h = let w = no_groups (g ∷ groups) h.1 in record { all = w.all; front = w.front; last = w.last }

all_empty : (lines : Lines) → Blank lines → AllByRecursion (λ g. g ≡ []) (groups_of lines)
all_empty [] h = (refl, tt)
all_empty (l ∷ lines) h = subst (λ o. AllByRecursion (λ g. g ≡ []) (before_groups o (groups_of lines))) (sym h.0) (refl, all_empty lines h.1)

none_grouped : (lines : Lines) → Blank lines → NoGroups (groups_of lines)
none_grouped lines h = no_groups (groups_of lines) (all_empty lines h)

-- ---- parts after blank lines

abbrev before : List Part → Lines
before xs = indented_lines_before (map stated xs) []

same_items : (l m : Lines) (xs : List Part) → Blank l → Blank m → items_from l xs ≡ items_from m xs
same_items l m [] h i = refl
same_items l m (p.Leaf e ∷ xs) h i = ap (λ own. own ++ items_from [] xs) ((none_grouped l h).all ∙ sym (none_grouped m i).all)
same_items l m (Node' kind size row ∷ xs) h i =
    let v = none_grouped l h in
    let w = none_grouped m i in
    let read : List Bytes → ReadStatements (List Expr) = λ above. (stated (Node' kind size row)).statement above (before xs) in
    ap₂ (λ front above. front ++ (map item.Stmt (read above).0 ++ items_from (read above).1 xs)) (v.front ∙ sym w.front) (v.last ∙ sym w.last)

same_after : (l m : Lines) (x : Part) (after : Lines) → Blank l → Blank m → lines_after l x after ≡ lines_after m x after
same_after l m (p.Leaf e) after h i = refl
same_after l m (Node' kind size row) after h i = ap (λ above. ((stated (Node' kind size row)).statement above after).1) ((none_grouped l h).last ∙ sym (none_grouped m i).last)

-- ---- the last statement before a text that begins bare

-- what it leaves of blank lines, where it leaves nothing of none
after_blank : (lines : Lines) (x : Part) (a c : Lines) → Blank a → c ≡ [] → lines_after lines x c ≡ [] → Blank (lines_after lines x a)
after_blank lines (p.Leaf l) a c h e n = tt
after_blank lines (Node' kind size row) a c h e n =
    let above : List Bytes = last_group (groups_of lines) in
    let w : Alike ((stated (Node' kind size row)).statement above a) ((stated (Node' kind size row)).statement above c) = before_blank (Node' kind size row) above a c h e in
    subst Blank (sym (w.1.2 ∙ ap (λ z. z ++ w.1.0) n)) w.1.1

nothing_left : (lines : Lines) (e : Leaf) → lines ≡ [] → items_from lines (p.Leaf e ∷ []) ≡ []
nothing_left lines e n = ap (λ z. items_from z (p.Leaf e ∷ [])) n

one_joined : (lines : Lines) (x : Part) (e : Leaf) (ys : List Part) → e.gap ≡ [] → lines_after lines x (lines_of e.gap) ≡ [] → Blank (before ys)
    → items_from lines (x ∷ ys) ≡ items_from lines (x ∷ p.Leaf e ∷ []) ++ items_from (before ys) ys
one_joined lines (p.Leaf l) e ys n left h =
    let own : List Item = blocks (groups_of lines) in
    ap (λ z. own ++ z) (same_items [] (before ys) ys tt h) ∙ ap (λ z. z ++ items_from (before ys) ys) (sym (append-nil own))
one_joined lines (Node' kind size row) e ys n left h =
    let front : List Item = blocks (all_but_last (groups_of lines)) in
    let above : List Bytes = last_group (groups_of lines) in
    let read : Lines → ReadStatements (List Expr) = λ after. (stated (Node' kind size row)).statement above after in
    let own : List Item = map item.Stmt (read (lines_of e.gap)).0 in
    let w : Alike (read (before ys)) (read (lines_of e.gap)) = before_blank (Node' kind size row) above (before ys) (lines_of e.gap) h (ap lines_of n) in
    let blank : Blank (read (before ys)).1 = after_blank lines (Node' kind size row) (before ys) (lines_of e.gap) h (ap lines_of n) left in
    let bare : own ++ items_from (read (lines_of e.gap)).1 (p.Leaf e ∷ []) ≡ own = ap (λ z. own ++ z) (nothing_left (read (lines_of e.gap)).1 e left) ∙ append-nil own in
    ap₂ (λ own z. front ++ (map item.Stmt own ++ z)) w.0 (same_items (read (before ys)).1 (before ys) ys blank h)
    ∙ (sym (append_assoc front own (items_from (before ys) ys)) ∙ ap (λ z. (front ++ z) ++ items_from (before ys) ys) (sym bare))

-- ---- files

items_joined : (lines : Lines) (x : Part) (xs : List Part) (e : Leaf) (ys : List Part) → e.gap ≡ [] → lines_at_end lines (x ∷ (xs ++ p.Leaf e ∷ [])) ≡ [] → Blank (before ys)
    → items_from lines (x ∷ (xs ++ ys)) ≡ items_from lines (x ∷ (xs ++ p.Leaf e ∷ [])) ++ items_from (before ys) ys
items_joined lines x [] e ys n left h = one_joined lines x e ys n left h
items_joined lines (p.Leaf l) (x ∷ xs) e ys n left h =
    let own : List Item = blocks (groups_of lines) in
    ap (λ z. own ++ z) (items_joined [] x xs e ys n left h) ∙ sym (append_assoc own (items_from [] (x ∷ (xs ++ p.Leaf e ∷ []))) (items_from (before ys) ys))
items_joined lines (Node' kind size row) (x ∷ xs) e ys n left h =
    let front : List Item = blocks (all_but_last (groups_of lines)) in
    let read : ReadStatements (List Expr) = (stated (Node' kind size row)).statement (last_group (groups_of lines)) (before (x ∷ (xs ++ ys))) in
    let own : List Item = map item.Stmt read.0 in
    let one : List Item = items_from read.1 (x ∷ (xs ++ p.Leaf e ∷ [])) in
    let two : List Item = items_from (before ys) ys in
    ap (λ z. front ++ (own ++ z)) (items_joined read.1 x xs e ys n left h) ∙ (ap (λ z. front ++ z) (sym (append_assoc own one two)) ∙ sym (append_assoc front (own ++ one) two))

left_both : (lines : Lines) (x : Part) (xs : List Part) (e : Leaf) (y : Part) (ys : List Part) → e.gap ≡ [] → lines_at_end lines (x ∷ (xs ++ p.Leaf e ∷ [])) ≡ [] → Blank (before (y ∷ ys))
    → lines_at_end (before (y ∷ ys)) (y ∷ ys) ≡ [] → lines_at_end lines (x ∷ (xs ++ y ∷ ys)) ≡ []
left_both lines x [] e y [] n left h g = ap (lines_after lines x) (g ∙ sym (ap lines_of n)) ∙ left
left_both lines x [] e y (z ∷ ys) n left h g =
    ap (λ l. lines_at_end l (z ∷ ys)) (same_after (lines_after lines x (before (y ∷ z ∷ ys))) (before (y ∷ z ∷ ys)) y (before (z ∷ ys)) (after_blank lines x (before (y ∷ z ∷ ys)) (lines_of e.gap) h (ap lines_of n) left) h) ∙ g
left_both lines w (x ∷ xs) e y ys n left h g = left_both (lines_after lines w (before (x ∷ (xs ++ y ∷ ys)))) x xs e y ys n left h g

-- both of a text's parts, of which the one may be empty
view_joined : (xs : List Part) (e : Leaf) (ys : List Part) → e.gap ≡ [] → lines_at_end (before (xs ++ p.Leaf e ∷ [])) (xs ++ p.Leaf e ∷ []) ≡ [] → Blank (before ys)
    → items_from (before (xs ++ ys)) (xs ++ ys) ≡ items_from (before (xs ++ p.Leaf e ∷ [])) (xs ++ p.Leaf e ∷ []) ++ items_from (before ys) ys
view_joined [] e ys n left h = sym (ap (λ z. z ++ items_from (before ys) ys) (nothing_left (lines_of e.gap) e (ap lines_of n)))
view_joined (x ∷ xs) e ys n left h = items_joined (before (x ∷ xs)) x xs e ys n left h

ends_joined : (xs : List Part) (e : Leaf) (ys zs : List Part) (last : Part) → ys ≡ zs ++ last ∷ [] → e.gap ≡ [] → lines_at_end (before (xs ++ p.Leaf e ∷ [])) (xs ++ p.Leaf e ∷ []) ≡ [] → Blank (before ys)
    → lines_at_end (before ys) ys ≡ [] → lines_at_end (before (xs ++ ys)) (xs ++ ys) ≡ []
ends_joined [] e ys zs last i n left h g = g
ends_joined (x ∷ xs) e [] [] last i n left h g = absurd cc
ends_joined (x ∷ xs) e [] (z ∷ zs) last i n left h g = absurd cc
ends_joined (x ∷ xs) e (y ∷ ys) zs last i n left h g = left_both (before (x ∷ xs)) x xs e y ys n left h g

-- ---- the last token

pub leaf_newline : (x : Part) (l : Leaf) → x ≡ p.Leaf l → l.token ≡ 10 ∷ [] → EndsInNewline x
leaf_newline x l i e = ([], l, ap leaves_part i, e)

pub node_newline : (x : Part) (n : Node) (ps front : List Part) (last : Part) → x ≡ p.Node n → ps ≡ n.parts → ps ≡ front ++ last ∷ [] → EndsInNewline last → EndsInNewline x
node_newline x n ps front last i j k (before_last, l, leaves, token) =
    let own : List Leaf = flat_map leaves_part front in (
      own ++ before_last,
      l,
      ap leaves_part i
          ∙ (leaves_Node n
          ∙ (ap (flat_map leaves_part) (sym j ∙ k)
          ∙ (flat_map-append leaves_part front (last ∷ []) ∙ (ap (λ ls. own ++ ls) (append-nil (leaves_part last) ∙ leaves) ∙ sym (append_assoc own before_last (l ∷ [])))))),
      token,
    )

whole_by_last : (front : List Part) (x : Part) → EndsInNewline x → AreWholeLines (front ++ x ∷ [])
whole_by_last front x (before_last, l, leaves, token) =
    let own : List Leaf = flat_map leaves_part front in
    ap last_token (flat_map-append leaves_part front (x ∷ []) ∙ (ap (λ ls. own ++ ls) (append-nil (leaves_part x) ∙ leaves) ∙ sym (append_assoc own before_last (l ∷ []))))
    ∙ (last_after (own ++ before_last) l ∙ token)

pub ends_in_line : (parts front rest : List Part) (x y : Part) (e : Leaf) → parts ≡ rest ++ y ∷ [] → rest ≡ front ++ x ∷ [] → y ≡ p.Leaf e → e.gap ≡ [] → EndsInNewline x → EndsInLine parts
ends_in_line parts front rest x y e i j is none h = (rest, e, i ∙ ap (λ z. rest ++ z ∷ []) is, subst AreWholeLines (sym j) (whole_by_last front x h), none)

-- ---- what the code looks at

pub ends_with_statement : (n : Node) (ps : List Part) → ps ≡ n.parts → lines_at_end (before ps) ps ≡ [] → EndsInLine ps → EndsWithStatement n
ends_with_statement n ps i left (lines, end, parts, whole, nothing) = record {
  lines = lines;
  end = end;
  parts = sym i ∙ parts;
  whole = whole;
  nothing = nothing;
  left = subst (λ qs. lines_at_end (before qs) qs ≡ []) i left;
}

pub bare_so : (n : Node) (ps : List Part) (gap : Bytes) → ps ≡ n.parts → gap ≡ first_seen_gap (map seen ps) → all_in gap ≡ [] → BeginsBare n
bare_so n ps gap i j h =
    ap (λ qs. comments_in (before qs)) (sym i) ∙ (ap comments_in (sym (lines_first ps)) ∙ (ap (λ g. comments_in (lines_of g)) (sym j) ∙ h))

-- ---- the law

ends_both : (n m : Node) (h : EndsWithStatement n) → Blank (first_lines m) → EndsWithStatement m → EndsWithStatement (file_with (h.lines ++ m.parts))
ends_both n m h blank g = record {
  lines = h.lines ++ g.lines;
  end = g.end;
  parts = ap (λ ys. h.lines ++ ys) g.parts ∙ sym (append_assoc h.lines g.lines (p.Leaf g.end ∷ []));
  whole = whole_both h.lines g.lines h.whole g.whole;
  nothing = g.nothing;
  left = ends_joined h.lines h.end m.parts g.lines (p.Leaf g.end) g.parts h.nothing (subst (λ ps. lines_at_end (before ps) ps ≡ []) h.parts h.left) blank g.left;
}

pub suites_join : BzlLinesJoin → SuitesJoin
suites_join law s t n m h bare r q le =
    let blank : Blank (first_lines m) = none_blank (first_lines m) bare in (
      file_with (h.lines ++ m.parts),
      law s t n m h.lines h.end h.parts h.whole h.nothing r q le,
      view_joined h.lines h.end m.parts h.nothing (subst (λ ps. lines_at_end (before ps) ps ≡ []) h.parts h.left) blank ∙ ap (λ ps. items_from (before ps) ps ++ view_of m) (sym h.parts),
      ends_both n m h blank,
    )
