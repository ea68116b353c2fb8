-- Sums of a number of each comment: of statements, and of lines.
use Rattle.bz_hosts.proofs.Words.{[], ◌+◌, ◌∙◌, ◌∷◌, ◌≡◌, after_first_line, amount, ap, arith, Bytes, comments_in, Expr, exprs_in, false, GapLine, Item as i, item_amount, last_gap, lines_of, List, map, None, Part, refl, Seen, seen, statements_in, suffix_in, sym, total, true, ℕ}
use Rattle.bz_hosts.proofs.{Stated.all_simple, Alternating.Alternating, Cuts.mark_token, KeptParts.AllKept, KeptParts.host_kept, KeptParts.token_part, QuietGaps.Quiet, Sums.gap_amount, Sums.gap_parts, Sums.part_amount}
use Rattle.bz_grammar.specs.Shapes as s

module _ (number : Bytes → ℕ) where
  abbrev pub stated_amount : List Expr → ℕ
  stated_amount xs = total (amount number) xs

  pub statements_as_items : (xs : List Expr) → total (item_amount number) (map i.Stmt xs) ≡ stated_amount xs
  statements_as_items [] = refl
  statements_as_items (x ∷ xs) = ap (λ a. amount number x + a) (statements_as_items xs)

  -- the statements of a line
  pub simple_amount : (above : List Bytes) (ss : List Seen) → stated_amount (exprs_in (statements_in above ss)) ≡ total (item_amount number) (statements_in above ss)
  simple_amount above ss = sym (statements_as_items (exprs_in (statements_in above ss))) ∙ ap (total (item_amount number)) (all_simple above ss)

  abbrev pub lines_amount : List GapLine → ℕ
  lines_amount lines = total number (comments_in lines)

  -- the comments after the first line of a gap
  abbrev pub left_amount : Bytes → ℕ
  left_amount gap = total number (comments_in (after_first_line (lines_of gap)))

  -- Statements of a line: the gap before the first is among the comments above it, and what is in the newline's gap after
  -- its first line belongs to the lines below.
  pub statements_kept : (above : List Bytes) (x y : Part) (xs : List Part) → AllKept number (x ∷ y ∷ xs) → Alternating s.semicolon (x ∷ y ∷ xs) → Quiet (x ∷ y ∷ xs) →
      gap_amount number (seen x).gap + (total (item_amount number) (statements_in above (map seen (x ∷ y ∷ xs))) + left_amount (last_gap (map seen (x ∷ y ∷ xs)))) ≡ total number above + total (part_amount number) (x ∷ y ∷ xs)
  statements_kept above x y [] h t q =
      let here = h.0 in
      let newline = token_part number y (mark_token s.semicolon false y t.1) in
      let made = host_kept number x above (suffix_in (seen y).gap) in
      let gap = gap_parts number (seen y).gap in
      omega arith
  statements_kept above x y (z ∷ []) h t q =
      let here = h.0 in
      let mark = token_part number y (mark_token s.semicolon true y t.1) in
      let none = ap (total number) q in
      let newline = token_part number z (mark_token s.semicolon false z t.2) in
      let made = host_kept number x above (suffix_in (seen z).gap) in
      let gap = gap_parts number (seen z).gap in
      omega arith
  statements_kept above x y (z ∷ u ∷ xs) h t q =
      let here = h.0 in
      let mark = token_part number y (mark_token s.semicolon true y t.1) in
      let none = ap (total number) q.0 in
      let none' = ap (total number) q.1 in
      let made = host_kept number x above None in
      let rest = statements_kept [] z u xs h.1.1 t.2 q.2 in
      omega arith
