-- The view of the tree of the layout of a proper value is the value with its flags settled.
use Rattle.bz_layout.proofs.Words.{[], ◌&&◌, ◌++◌, ◌||◌, ◌∙◌, ◌∷◌, ◌≡◌, all_but_last, AllByRecursion, ap, append-nil, append_assoc, are_both, before_groups, before_next_in, Begins, blocks, Bool, Bytes, comment_lines, comments_of, Expr, false, flags_in, gap_between_in, gap_to_margin, GapLine, groups_of, has_suite, if◌then◌else◌, Indented, indented_lines, indented_lines_before, is_empty, IsComment, IsProper, IsProperItem, Item, Item as i, Kind as k, laid_out_in, last_group, left_of, line_feed, Lines, lines_from_in, lines_of, List, map, newline_part, Node, None, Option, Part, part_of, PartAt, recursion_from_All, refl, Some, stated, statement_part, subst, sym, true, view_of, with_flags_in, ℕ}
use Rattle.bz_grammar.specs.declared.tree.Part.TheVariants as p
use Rattle.bz_hosts.specs.View.{items_from}
use Rattle.bz_layout.proofs.{BackEnds.from_comment, BackEnds.from_same, BackEnds.AreBounded, BackEnds.commented_bounded, BackLines.ReadLines, BackLines.no_lines, BackLines.left_lines, BackLines.gap_lines, BackSuites.IsReadAs, BackSuites.IsBack, BackSuites.SuiteBack, BackSuites.statement_back, BackSuites.statement_first, Gapped.ended_line, Gapped.lines_at, Gapped.commented, Made.two, Readable.readable, Readable.line_statement, ReadBack.expr_back, Waiting.AreLines, Waiting.lines_append, Waiting.comments_are_lines, Waiting.whole_lines, Waiting.Waits, Waiting.nothing_waits, Waiting.blank_waits, Waiting.end_blocks, Waiting.commented_blocks, Waiting.block_waits}

-- ---- the groups of lines, with those before the first comment and without them

-- an empty group in front changes neither the last group nor the Blocks before it
after_blank : (comment : Option Bytes) (gs : List (List Bytes)) → (all_but_last ([] ∷ before_groups comment gs) ≡ [] ∷ all_but_last (before_groups comment gs)) × (last_group ([] ∷ before_groups comment gs) ≡ last_group (before_groups comment gs))
after_blank None gs = (refl, refl)
after_blank (Some text) [] = (refl, refl)
after_blank (Some text) (g ∷ gs) = (refl, refl)

blank_first : (lines : List GapLine) → (all_but_last ([] ∷ groups_of lines) ≡ [] ∷ all_but_last (groups_of lines)) × (last_group ([] ∷ groups_of lines) ≡ last_group (groups_of lines))
blank_first [] = (refl, refl)
blank_first (line ∷ lines) = after_blank line.comment (groups_of lines)

-- what groups say: the Blocks in all of them, those in all but the last, and the last
record SaysSame (gs hs : List (List Bytes)) : Type 0 where
  all : blocks gs ≡ blocks hs
  front : blocks (all_but_last gs) ≡ blocks (all_but_last hs)
  last : last_group gs ≡ last_group hs

-- so they say where the lines from the first comment on are the same
both_say : (now all : ReadLines) → from_comment now ≡ from_comment all → SaysSame (groups_of now) (groups_of all)
both_say now all e = record {
  all = from_same (λ z. blocks (groups_of z)) (λ line lines none. ap (λ z. blocks (before_groups z (groups_of lines))) none) now all e;
  front = from_same (λ z. blocks (all_but_last (groups_of z))) (λ line lines none. ap (λ z. blocks (all_but_last (before_groups z (groups_of lines)))) none ∙ ap blocks (blank_first lines).0) now all e;
  last = from_same (λ z. last_group (groups_of z)) (λ line lines none. ap (λ z. last_group (before_groups z (groups_of lines))) none ∙ (blank_first lines).1) now all e;
}

-- ---- between items

-- what is between two items: nothing or an empty line
record IsBetween (gap : Bytes) : Type 0 where
  lines : ReadLines
  are : AreLines gap lines
  waits : Waits lines []
  bounded : (rest : ReadLines) → AreBounded 0 rest → AreBounded 0 (lines ++ rest)

abbrev nothing_between : IsBetween []
nothing_between = record { lines = []; are = no_lines; waits = nothing_waits; bounded = λ rest h. h }

-- an empty line
abbrev blank : ReadLines
blank = ended_line 0 None ∷ []

abbrev blank_between : IsBetween (line_feed ∷ [])
blank_between = record { lines = blank; are = λ rest. refl; waits = blank_waits; bounded = λ rest h. h }

abbrev one_between : (close : Bool) → IsBetween (if close then [] else (line_feed ∷ []))
one_between true = nothing_between
one_between false = blank_between

-- what is read of a node that the file begins with
abbrev items_read : ReadLines → Part → List Part → List Item
items_read now y xs =
    let own : List Expr × ReadLines = (stated y).statement (last_group (groups_of now)) (indented_lines_before (map stated xs) []) in
    blocks (all_but_last (groups_of now)) ++ (map i.Stmt own.0 ++ items_from own.1 xs)

node_items : (now : ReadLines) (y : Part) (n : Node) (xs : List Part) → y ≡ p.Node n → items_from now (y ∷ xs) ≡ items_read now y xs
node_items now y n xs e = subst (λ z. items_from now (z ∷ xs) ≡ items_read now z xs) (sym e) refl

-- between two items
abbrev between_two : (mode : Lines) (x y : Item) → IsBetween (gap_between_in mode x y)
between_two mode (i.Block texts) y = blank_between
between_two Lines.Written (i.Stmt x) y = nothing_between
between_two Lines.Counted (i.Stmt x) (i.Block texts) = blank_between
between_two Lines.Counted (i.Stmt x) (i.Stmt y) = one_between ((are_both k.Load x y || are_both k.Assign x y) && is_empty (comments_of y).before)

module _ (mode : Lines) where
  -- ---- between items

  -- between an item and those that follow
  abbrev between_known : (item : Item) (items : List Item) → IsBetween (before_next_in mode item items)
  between_known item [] = nothing_between
  between_known item (next ∷ items) = between_two mode item next

  -- the lines of these items up to the first statement
  abbrev file_lines : List Item → ReadLines
  file_lines [] = []
  file_lines (i.Block texts ∷ items) = commented 0 texts ++ ((between_known (i.Block texts) items).lines ++ file_lines items)
  file_lines (i.Stmt x ∷ items) = commented 0 (comments_of x).before

  -- they are not indented
  file_bounded : (items : List Item) → AreBounded 0 (file_lines items)
  file_bounded [] = tt
  file_bounded (i.Block texts ∷ items) = commented_bounded 0 texts _ ((between_known (i.Block texts) items).bounded (file_lines items) (file_bounded items))
  file_bounded (i.Stmt x ∷ items) = subst (AreBounded 0) (append-nil (commented 0 (comments_of x).before)) (commented_bounded 0 (comments_of x).before [] tt)

  -- a statement is a node
  statement_node : (x : Expr × PartAt) → IsBack mode x → (gap : Bytes) (m : ℕ) → (n : Node) × (statement_part m gap x ≡ p.Node n)
  statement_node x back gap m = by_suite (has_suite x.0) (λ e. back.suite e)
    where
      by_suite : (b : Bool) → (b ≡ true → SuiteBack mode x) → (n : Node) × ((if b then x.1 (gap_to_margin m gap (comments_of x.0).before) m else p.Node (record { kind = k.Line; parts = x.1 (gap_to_margin m gap (comments_of x.0).before) m ∷ newline_part (comments_of x.0).suffix ∷ [] })) ≡ p.Node n)
      by_suite true h = (h refl).node (gap_to_margin m gap (comments_of x.0).before) m
      by_suite false h = (_, refl)

  -- what is known of a statement
  known : (x : Expr) → IsProperItem (i.Stmt x) → IsBack mode (x, part_of mode x)
  known x h = expr_back mode x (readable Begins x h.1)

  -- the lines before the first part of a file
  file_before : (items : List Item) → AllByRecursion IsProperItem items → (gap : Bytes) (lines : ReadLines) → AreLines gap lines → indented_lines_before (map stated (lines_from_in mode gap items)) [] ≡ lines ++ file_lines items
  file_before [] h gap lines k = whole_lines gap lines k ∙ sym (append-nil lines)
  file_before (i.Block texts ∷ items) h gap lines k =
      let next : IsBetween (before_next_in mode (i.Block texts) items) = between_known (i.Block texts) items in
      file_before items h.1 ((gap ++ comment_lines texts) ++ before_next_in mode (i.Block texts) items) ((lines ++ commented 0 texts) ++ next.lines)
      (lines_append (gap ++ comment_lines texts) (before_next_in mode (i.Block texts) items) (lines ++ commented 0 texts) next.lines
      (lines_append gap (comment_lines texts) lines (commented 0 texts) k (comments_are_lines texts (recursion_from_All IsComment texts h.0.1))) next.are)
      ∙ (append_assoc (lines ++ commented 0 texts) next.lines (file_lines items) ∙ append_assoc lines (commented 0 texts) (next.lines ++ file_lines items))
  file_before (i.Stmt x ∷ items) h gap lines k = ap lines_of (statement_first mode 0 gap (x, part_of mode x) (known x h.0)) ∙ gap_lines 0 gap lines (comments_of x).before k (recursion_from_All IsComment (comments_of x).before h.0.2.0)

  -- items, the first after lines that say these Blocks
  items_back : (items : List Item) → AllByRecursion IsProperItem items → (gap : Bytes) (now waiting : ReadLines) (bs : List Item) → Waits waiting bs → from_comment now ≡ from_comment (waiting ++ file_lines items) →
      items_from now (lines_from_in mode gap items) ≡ bs ++ flags_in mode items
  items_back [] h gap now waiting bs waits e =
      let says : SaysSame (groups_of now) (groups_of (waiting ++ [])) = both_say now (waiting ++ []) e in
      ap (λ z. z ++ []) (says.all ∙ (ap (λ z. blocks (groups_of z)) (append-nil waiting) ∙ end_blocks waiting bs waits))
  items_back (i.Block [] ∷ items) h gap now waiting bs waits e = absurd (h.0.0 refl)
  items_back (i.Block (text ∷ texts) ∷ []) h gap now waiting bs waits e =
      let all : ReadLines = waiting ++ (commented 0 (text ∷ texts) ++ []) in
      let says : SaysSame (groups_of now) (groups_of all) = both_say now all e in
      let plain : all ≡ waiting ++ commented 0 (text ∷ texts) = ap (λ z. waiting ++ z) (append-nil (commented 0 (text ∷ texts))) in
      ap (λ z. z ++ []) (says.all ∙ (ap (λ z. blocks (groups_of z)) plain ∙ commented_blocks waiting bs text texts waits)) ∙ append-nil (bs ++ (i.Block (text ∷ texts) ∷ []))
  items_back (i.Block (text ∷ texts) ∷ y ∷ ys) h gap now waiting bs waits e =
      let own : ReadLines = commented 0 (text ∷ texts) in
      let all : ReadLines = (waiting ++ own) ++ blank in
      let more : List Item = bs ++ (i.Block (text ∷ texts) ∷ []) in
      items_back (y ∷ ys) h.1 ((gap ++ comment_lines (text ∷ texts)) ++ (line_feed ∷ [])) now all more (block_waits waiting bs text texts waits)
      (e ∙ ap from_comment (sym (append_assoc (waiting ++ own) blank (file_lines (y ∷ ys)) ∙ append_assoc waiting own (blank ++ file_lines (y ∷ ys)))))
      ∙ append_assoc bs (i.Block (text ∷ texts) ∷ []) (flags_in mode (y ∷ ys))
  items_back (i.Stmt x ∷ items) h gap now waiting bs waits e =
      let next : IsBetween (before_next_in mode (i.Stmt x) items) = between_known (i.Stmt x) items in
      let before : List Bytes = (comments_of x).before in
      let all : ReadLines = waiting ++ commented 0 before in
      let says : SaysSame (groups_of now) (groups_of all) = both_say now all e in
      let back : IsBack mode (x, part_of mode x) = known x h.0 in
      let cs : Indented = left_of 0 x in
      let gap' : Bytes = indented_lines cs ++ before_next_in mode (i.Stmt x) items in
      let xs : List Part = lines_from_in mode gap' items in
      let rest : ReadLines = next.lines ++ file_lines items in
      let after : indented_lines_before (map stated xs) [] ≡ lines_at cs ++ rest =
      file_before items h.1 gap' (lines_at cs ++ next.lines) (lines_append (indented_lines cs) (before_next_in mode (i.Stmt x) items) (lines_at cs) next.lines (left_lines cs (back.left 0)) next.are) ∙ append_assoc (lines_at cs) next.lines (file_lines items) in
      let y : Part = statement_part 0 gap (x, part_of mode x) in
      let read : List Bytes → ReadLines → List Expr × ReadLines = (stated y).statement in
      let own : List Expr × ReadLines = read before (lines_at cs ++ rest) in
      let one : IsReadAs own (with_flags_in mode x ∷ []) rest = statement_back mode (x, part_of mode x) back (line_statement x h.0.0) h.0.2.1 gap 0 rest (next.bounded (file_lines items) (file_bounded items)) in
      let out : List Expr × ReadLines → List Item = λ z. map i.Stmt z.0 ++ items_from z.1 xs in
      let node = statement_node (x, part_of mode x) back gap 0 in
      node_items now y node.0 xs node.1
      ∙ two (λ z w. z ++ w) (says.front ∙ waits.front before)
      (two (λ z w. out (read z w)) (says.last ∙ waits.last before) after
      ∙ two (λ z w. map i.Stmt z ++ w) one.value (items_back items h.1 gap' own.1 next.lines [] next.waits one.left))

  -- the view of the tree of the layout of a proper value is the value with its flags settled
  pub items_read_back : (items : List Item) → IsProper items → view_of (laid_out_in mode items) ≡ flags_in mode items
  items_read_back items h =
      let each : AllByRecursion IsProperItem items = recursion_from_All IsProperItem items h in
      items_back items each [] (indented_lines_before (map stated (lines_from_in mode [] items)) []) [] [] nothing_waits (ap from_comment (file_before items each [] [] no_lines))
