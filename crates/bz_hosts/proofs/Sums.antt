-- Sums of a number of each comment: of gaps, of groups of lines, and of what is made of a part.
use Rattle.bz_hosts.proofs.Words.{[], ◌++◌, ◌+◌, ◌∙◌, ◌∷◌, ◌≡◌, after_first_line, all_but_last, all_in, amount, ap, append_total, arith, as_list, before_groups, blocks, Bool, Bytes, comments_in, end_of-Part, false, first_comment, flat_map, flat_map-append, form_amount, form_of_frame, Frame, frame, GapLine, groups_of, host_amount, HostComments, inner_amount, item_amount, items-the_row-Part, Kind, last_group, Leaf, leaves_part, leaves_row, lines_of, List, more_of-Part, no_comments, Node', None, Option, others_in, Part, Part as p, plain, put_on_first, refl, Row_of-Part, Seen, seen, seen_node, seen_row, Some, suffix_amount, suffix_in, total, ℕ}

module _ (number : Bytes → ℕ) where
  -- ---- gaps

  abbrev pub gap_amount : Bytes → ℕ
  gap_amount gap = total number (all_in gap)

  pub suffix_total : (o : Option Bytes) → total number (as_list o) ≡ suffix_amount number o
  suffix_total None = refl
  suffix_total (Some text) = omega arith

  first_total : (ls : List GapLine) → suffix_amount number (first_comment ls) + total number (comments_in (after_first_line ls)) ≡ total number (comments_in ls)
  first_total [] = refl
  first_total (l ∷ ls) =
      let h = append_total number (as_list l.comment) (comments_in ls) in
      let s = suffix_total l.comment in
      omega arith

  -- a gap has its suffix and its other comments
  pub gap_parts : (gap : Bytes) → suffix_amount number (suffix_in gap) + total number (others_in gap) ≡ gap_amount gap
  gap_parts gap = first_total (lines_of gap)

  pub lines_joined : (ls ms : List GapLine) → total number (comments_in (ls ++ ms)) ≡ total number (comments_in ls) + total number (comments_in ms)
  lines_joined [] ms = omega arith
  lines_joined (l ∷ ls) ms =
      let h = lines_joined ls ms in
      let a = append_total number (as_list l.comment) (comments_in (ls ++ ms)) in
      let b = append_total number (as_list l.comment) (comments_in ls) in
      omega arith

  -- ---- groups of lines

  blocks_total : (gs : List (List Bytes)) → total (item_amount number) (blocks gs) ≡ total (total number) gs
  blocks_total [] = refl
  blocks_total ([] ∷ gs) = let h = blocks_total gs in omega arith
  blocks_total ((text ∷ group) ∷ gs) = let h = blocks_total gs in omega arith

  on_first_total : (text : Bytes) (gs : List (List Bytes)) → total (total number) (put_on_first text gs) ≡ number text + total (total number) gs
  on_first_total text [] = omega arith
  on_first_total text (g ∷ gs) = omega arith

  before_total : (o : Option Bytes) (gs : List (List Bytes)) → total (total number) (before_groups o gs) ≡ suffix_amount number o + total (total number) gs
  before_total None gs = refl
  before_total (Some text) gs = on_first_total text gs

  groups_total : (ls : List GapLine) → total (total number) (groups_of ls) ≡ total number (comments_in ls)
  groups_total [] = refl
  groups_total (l ∷ ls) =
      let h = groups_total ls in
      let b = before_total l.comment (groups_of ls) in
      let s = suffix_total l.comment in
      let a = append_total number (as_list l.comment) (comments_in ls) in
      omega arith

  last_total : (gs : List (List Bytes)) → total (total number) (all_but_last gs) + total number (last_group gs) ≡ total (total number) gs
  last_total [] = refl
  last_total (g ∷ []) = omega arith
  last_total (g ∷ h ∷ gs) = let i = last_total (h ∷ gs) in omega arith

  -- all groups of lines as blocks
  pub all_blocks : (ls : List GapLine) → total (item_amount number) (blocks (groups_of ls)) ≡ total number (comments_in ls)
  all_blocks ls = blocks_total (groups_of ls) ∙ groups_total ls

  -- all but the last, and the last
  pub front_blocks : (ls : List GapLine) → total (item_amount number) (blocks (all_but_last (groups_of ls))) + total number (last_group (groups_of ls)) ≡ total number (comments_in ls)
  front_blocks ls =
      let b = blocks_total (all_but_last (groups_of ls)) in
      let l = last_total (groups_of ls) in
      let g = groups_total ls in
      omega arith

  -- ---- expressions

  -- what is made of a node has its own comments, and what is in it
  pub node_amount : (f : Frame) (kind : Kind) (ss : List Seen) (cs : HostComments) (b : Bool) → amount number ((seen_node f kind ss).make cs b) ≡ host_amount number cs + inner_amount number (form_of_frame f kind ss no_comments)
  node_amount f kind ss cs b = form_amount number (form_of_frame f kind ss cs)

  -- so do comments and break add no more than these comments
  pub made_amount : (x : Part) (cs : HostComments) (b : Bool) → amount number ((seen x).make cs b) ≡ host_amount number cs + amount number (plain (seen x))
  made_amount (p.Leaf l) cs b = omega arith
  made_amount (Node' kind n r) cs b =
      let h = node_amount (frame kind) kind (seen_row r) cs b in
      let i = node_amount (frame kind) kind (seen_row r) no_comments false in
      omega arith

  -- ---- the leaves of parts

  -- the comments in the gaps of leaves
  abbrev pub leaves_amount : List Leaf → ℕ
  leaves_amount ls = total number (flat_map (λ leaf. all_in leaf.gap) ls)

  abbrev pub part_amount : Part → ℕ
  part_amount x = leaves_amount (leaves_part x)

  leaves_joined : (ls ms : List Leaf) → leaves_amount (ls ++ ms) ≡ leaves_amount ls + leaves_amount ms
  leaves_joined ls ms =
      ap (total number) (flat_map-append (λ leaf. all_in leaf.gap) ls ms)
      ∙ append_total number (flat_map (λ leaf. all_in leaf.gap) ls) (flat_map (λ leaf. all_in leaf.gap) ms)

  pub leaf_amount : (l : Leaf) → part_amount (p.Leaf l) ≡ gap_amount l.gap
  leaf_amount l = let h = append_total number (all_in l.gap) [] in omega arith

  pub row_leaves : (m : _) (r : Row_of-Part m) → leaves_amount (leaves_row r) ≡ total part_amount (items-the_row-Part m r)
  row_leaves m end_of-Part = refl
  row_leaves m (more_of-Part x rest) = leaves_joined (leaves_part x) (leaves_row rest) ∙ ap (λ a. part_amount x + a) (row_leaves _ rest)

  pub parts_leaves : (xs : List Part) → leaves_amount (flat_map leaves_part xs) ≡ total part_amount xs
  parts_leaves [] = refl
  parts_leaves (x ∷ xs) = leaves_joined (leaves_part x) (flat_map leaves_part xs) ∙ ap (λ a. part_amount x + a) (parts_leaves xs)
