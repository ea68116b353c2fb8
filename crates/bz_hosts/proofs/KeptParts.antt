-- No comment of a part of a legal tree is lost or doubled: each is in the gap before the part, is loose in it, or is
-- in what is made of it.
use Rattle.bz_hosts.proofs.Words.{[], ◌&&◌, ◌++◌, ◌+◌, ◌||◌, ◌∙◌, ◌∷◌, ◌≡◌, all_in, AllByRecursion, amount, ap, append_total, arith, begins_seen_operator, Bool, Bytes, drop, drop-map, end_of-Part, false, first_seen_gap, form_of_frame, Frame, frame, has_newline, if◌then◌else◌, inner_amount, is_binary, is_operator, items-the_row-Part, items_in, Kind, lead, LegalBy, LegalRowBy, line_shape, List, loose_after, loose_in, loose_of, map, more_of-Part, no_comments, Node', not, Option, others_in, Part, Part as p, plain, refl, row_exprs, Row_of-Part, Seen, seen, seen_node, sequence, suc, suffix_amount, suffix_in, sym, take, total, true, values_wider, zero, ℕ}
use Rattle.bz_grammar.specs.Shapes as s
use Rattle.bz_hosts.proofs.{Alternating.Alternating, Cuts.is_token, Cuts.mark_token, Cuts.BracketAt, Cuts.CutIn, Cuts.kind_cut, SeenParts.seen_rows, SeenParts.all_cut, Sums.gap_amount, Sums.gap_parts, Sums.node_amount, Sums.made_amount, Sums.part_amount, Sums.leaf_amount, Sums.row_leaves}

module _ (number : Bytes → ℕ) where
  -- what is loose in a part, and what is in the expression made of it
  abbrev pub held : Seen → ℕ
  held s = total number s.loose + amount number (plain s)

  -- these and the comments of the gap before the part are those in the gaps of its leaves
  abbrev pub KeptPart : Part → Type 0
  KeptPart x = gap_amount number (seen x).gap + held (seen x) ≡ part_amount number x

  abbrev pub AllKept : List Part → Type 0
  AllKept xs = AllByRecursion KeptPart xs

  -- a token has no comments but those in its gap
  pub token_part : (x : Part) → is_token x ≡ true → part_amount number x ≡ gap_amount number (seen x).gap
  token_part (p.Leaf l) h = leaf_amount number l
  token_part (Node' kind n r) h = cc

  -- ---- rows

  loose_amount : (s : Seen) (ss : List Seen) → total number (loose_after (s ∷ ss)) ≡ gap_amount number s.gap + (total number s.loose + total number (loose_after ss))
  loose_amount s ss =
      let a = append_total number (all_in s.gap) s.loose in
      let b = append_total number (all_in s.gap ++ s.loose) (loose_after ss) in
      omega arith

  bare_amount : (x : Part) (b : Bool) → amount number ((seen x).make no_comments b) ≡ amount number (plain (seen x))
  bare_amount x b = let h = made_amount number x no_comments b in omega arith

  row_after : (binary inside newline : Bool) (xs : List Part) → AllKept xs → total number (loose_after (map seen xs)) + total (amount number) (row_exprs binary inside newline (map seen xs)) ≡ total (part_amount number) xs
  row_after binary inside newline [] h = refl
  row_after binary inside newline (x ∷ xs) h =
      let operator : Bool = binary && is_operator (plain (seen x)) in
      let before : Bool = if inside then newline else has_newline (seen x).gap in
      let broken : Bool = (operator && not (begins_seen_operator (map seen xs))) && (before || has_newline (first_seen_gap (map seen xs))) in
      let here = h.0 in
      let rest = row_after binary operator before xs h.1 in
      let made = bare_amount x broken in
      let loose = loose_amount (seen x) (map seen xs) in
      omega arith

  -- of a row, the gap before it is outside
  pub row_kept : (binary inside newline : Bool) (xs : List Part) → AllKept xs →
      gap_amount number (first_seen_gap (map seen xs)) + (total number (loose_in (map seen xs)) + total (amount number) (row_exprs binary inside newline (map seen xs))) ≡ total (part_amount number) xs
  row_kept binary inside newline [] h = refl
  row_kept binary inside newline (x ∷ xs) h =
      let rest = row_after binary inside newline (x ∷ xs) h in
      let loose = loose_amount (seen x) (map seen xs) in
      let both = append_total number (seen x).loose (loose_after (map seen xs)) in
      omega arith

  -- ---- sequences

  -- a token has nothing loose, and nothing is in it
  token_holds : (x : Part) → is_token x ≡ true → held (seen x) ≡ 0
  token_holds (p.Leaf l) h = refl
  token_holds (Node' kind n r) h = cc

  -- after the first part, up to the bracket
  head_after : (n : ℕ) (xs : List Part) → AllKept xs → BracketAt n xs →
      total number (loose_after (take (suc n) (map seen xs))) + total (amount number) (map plain (take n (map seen xs))) ≡ total (part_amount number) (take (suc n) xs)
  head_after n [] h t = absurd t
  head_after zero (x ∷ xs) h t =
      let here = h.0 in
      let none = token_holds x t.0 in
      let loose = loose_amount (seen x) [] in
      omega arith
  head_after (suc n) (x ∷ xs) h t =
      let here = h.0 in
      let rest = head_after n xs h.1 t in
      let loose = loose_amount (seen x) (take (suc n) (map seen xs)) in
      omega arith

  pub head_kept : (n : ℕ) (xs : List Part) → AllKept xs → BracketAt n xs →
      gap_amount number (first_seen_gap (map seen xs)) + (total number (loose_in (take (suc n) (map seen xs))) + total (amount number) (map plain (take n (map seen xs)))) ≡ total (part_amount number) (take (suc n) xs)
  head_kept n [] h t = absurd t
  head_kept n (x ∷ xs) h t =
      let rest = head_after n (x ∷ xs) h t in
      let loose = loose_amount (seen x) (take n (map seen xs)) in
      let both = append_total number (seen x).loose (loose_after (take n (map seen xs))) in
      omega arith

  -- a host, with the comments above it and the one after it
  pub host_kept : (x : Part) (above : List Bytes) (suffix : Option Bytes) →
      amount number ((seen x).make (record { before = above ++ (seen x).loose; suffix = suffix }) false) ≡ total number above + (held (seen x) + suffix_amount number suffix)
  host_kept x above suffix =
      let made = made_amount number x (record { before = above ++ (seen x).loose; suffix = suffix }) false in
      let both = append_total number above (seen x).loose in
      omega arith

  -- items and end comments: the gap before the first item is among the comments above it
  items_kept : (above : List Bytes) (xs : List Part) → AllKept xs → Alternating s.comma_mark xs →
      gap_amount number (first_seen_gap (map seen xs)) + (total (amount number) (items_in above (map seen xs)).0 + total number (items_in above (map seen xs)).1) ≡ total number above + total (part_amount number) xs
  items_kept above [] h t = absurd t
  items_kept above (x ∷ []) h t =
      let here = h.0 in
      let none = token_holds x (mark_token s.comma_mark false x t) in
      omega arith
  items_kept above (x ∷ y ∷ []) h t =
      let here = h.0 in
      let mark = token_part y (mark_token s.comma_mark false y t.1) in
      let made = host_kept x above (suffix_in (seen y).gap) in
      let gap = gap_parts number (seen y).gap in
      omega arith
  items_kept above (x ∷ y ∷ z ∷ xs) h t =
      let here = h.0 in
      let mark = token_part y (mark_token s.comma_mark true y t.1) in
      let made = host_kept x above (suffix_in (seen z).gap) in
      let gap = gap_parts number (seen z).gap in
      let next : List Bytes = all_in (seen y).gap ++ others_in (seen z).gap in
      let both = append_total number (all_in (seen y).gap) (others_in (seen z).gap) in
      let rest = items_kept next (z ∷ xs) h.1.1 t.2 in
      omega arith

  -- ---- nodes

  pub cut_total : (n : ℕ) (xs : List Part) → total (part_amount number) (take n xs) + total (part_amount number) (drop n xs) ≡ total (part_amount number) xs
  cut_total zero [] = refl
  cut_total (suc n) [] = refl
  cut_total zero (x ∷ xs) = omega arith
  cut_total (suc n) (x ∷ xs) = let h = cut_total n xs in omega arith

  -- what is found after the opening bracket
  abbrev pub found_amount : List Seen → ℕ
  found_amount ss = total (amount number) (items_in (all_in (first_seen_gap ss)) ss).0 + total number (items_in (all_in (first_seen_gap ss)) ss).1

  pub found_kept : (n : ℕ) (xs : List Part) → AllKept xs → Alternating s.comma_mark (drop n xs) → found_amount (drop n (map seen xs)) ≡ total (part_amount number) (drop n xs)
  found_kept n xs h t =
      let body : List Part = drop n xs in
      let all = items_kept (all_in (first_seen_gap (map seen body))) body (all_cut KeptPart n xs h).1 t in
      let same = ap found_amount (drop-map seen n xs) in
      omega arith

  form_kept : (f : Frame) (kind : Kind) (xs : List Part) → AllKept xs → CutIn f kind xs →
      gap_amount number (first_seen_gap (map seen xs)) + (total number (loose_of f kind (map seen xs)) + inner_amount number (form_of_frame f kind (map seen xs) no_comments)) ≡ total (part_amount number) xs
  form_kept (sequence opener closer) kind xs h b =
      let n : ℕ = lead kind in
      let head = head_kept n xs h b.bracket_at in
      let found = found_kept (suc n) xs h b.alternating in
      let cut = cut_total (suc n) xs in
      omega arith
  form_kept _ kind xs h b = let all = row_kept (is_binary kind) false false xs h in omega arith

  pub node_kept : (f : Frame) (kind : Kind) (xs : List Part) → AllKept xs → CutIn f kind xs → gap_amount number (seen_node f kind (map seen xs)).gap + held (seen_node f kind (map seen xs)) ≡ total (part_amount number) xs
  node_kept f kind xs h b =
      let made = node_amount number f kind (map seen xs) no_comments false in
      let all = form_kept f kind xs h b in
      omega arith

  mutual
    pub part_kept : (x : Part) → LegalBy line_shape x → KeptPart x
    part_kept (p.Leaf l) h = let all = leaf_amount number l in omega arith
    part_kept (Node' kind n r) h =
        let xs : List Part = items-the_row-Part _ r in
        ap (λ ss. gap_amount number (seen_node (frame kind) kind ss).gap + held (seen_node (frame kind) kind ss)) (seen_rows _ r)
        ∙ (node_kept (frame kind) kind xs (parts_kept _ r h.1) (kind_cut kind xs (values_wider kind xs h.0)) ∙ sym (row_leaves number _ r))

    pub parts_kept : (m : _) (r : Row_of-Part m) → LegalRowBy line_shape r → AllKept (items-the_row-Part m r)
    parts_kept m end_of-Part h = tt
    parts_kept m (more_of-Part x rest) h = (part_kept x h.0, parts_kept _ rest h.1)
