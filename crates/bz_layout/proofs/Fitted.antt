-- Shapes see no gaps: what the layout makes of a form has the shape of its kind where the roots of its parts have it.
use Rattle.bz_layout.proofs.Words.{[], ◌&&◌, ◌++◌, ◌∙◌, ◌∷◌, ◌≡◌, ◌⊎◌, AllByRecursion, ap, Bool, Bytes, Class, Class as c, comma, comments_of, compound, each_with_comma, end_of-Expr, Expr, false, firsts, Fits, fits_same, Form', Frame, frame, gap_after, has_suite, headed, if◌then◌else◌, inl, inr, is_broken_in, is_empty, is_one_of, is_tuple, IsNonterminal, item_margin, joined, Kind, laid, laid_in, leaves_at, length, length-map, Lines, List, map, margin_after, margin_lines, mark, mark_leaf as bare_mark, more, more_of-Expr, nat_eq, new_line_at, None, not, one_of_same, Option, over, Part, part, Part as p, part_of, PartAt, parts_of, Piece, piece_part, refl, root, roots, row, row_in, Row_of-Expr, rowed, Same, SameRoot, sequence, Shape, space, stacked, subst, suffix_text, sym, Terminal, Token, true, whole_shape, ℕ}
use Rattle.bz_layout.proofs.Joined.{row_joined, without_last, fits_joined}
use Rattle.bz_layout.proofs.Made.{none_mapped, plain_part, laid_plain, two}
use Rattle.bz_layout.proofs.Ends.{by_followed, not_alone}

-- ---- the table sees no gap

leaf_same : (class : Class) (gap gap' text : Bytes) → SameRoot (p.Leaf (record { class = class; gap = gap; token = text })) (p.Leaf (record { class = class; gap = gap'; token = text }))
leaf_same class gap gap' text =
    let seen : (ts : List Terminal) → is_one_of ts (record { class = class; gap = gap; token = text }) ≡ is_one_of ts (record { class = class; gap = gap'; token = text }) =
    λ ts. one_of_same ts (record { class = class; gap = gap; token = text }) ∙ sym (one_of_same ts (record { class = class; gap = gap'; token = text })) in
    record { nonterminal = λ a. seen (leaves_at a); token = seen }

-- ---- the ways to lay parts

-- an expression with its reading as a part
abbrev pub Child : Type 0
Child = Expr × PartAt

abbrev pub rooted : List Child → List Part
rooted xs = map (λ x. root x.0) xs

-- it is laid out as its root
abbrev pub IsRooted : Child → Type 0
IsRooted x = (gap : Bytes) (m : ℕ) → SameRoot (root x.0) (x.1 gap m)

abbrev pub AreRooted : List Child → Type 0
AreRooted xs = AllByRecursion IsRooted xs

abbrev pub Pieces : Type 0
Pieces = List (Piece PartAt)

rowed_same : (kind : Kind) (open_break : Bool) (m : ℕ) (gap : Bytes) (n : ℕ) (xs : List Child) → AreRooted xs → Same (rooted xs) (map piece_part (rowed kind open_break m gap n xs))
rowed_same kind open_break m gap n [] h = over
rowed_same kind open_break m gap n (x ∷ xs) h = more _ _ _ _ (h.0 gap n) (rowed_same kind open_break m (gap_after kind open_break m x.0 (firsts xs)) (margin_after open_break m x.0) xs h.1)

headed_same : (m : ℕ) (gap : Bytes) (opener : ℕ) (xs : List Child) (after : Pieces) (rest : List Part) → AreRooted xs → Same rest (map piece_part after) → Same (rooted xs ++ (bare_mark opener ∷ rest)) (map piece_part (headed m gap opener xs after))
headed_same m gap opener [] after rest h i = more _ _ _ _ (leaf_same c.Mark [] gap (opener ∷ [])) i
headed_same m gap opener (x ∷ xs) after rest h i = more _ _ _ _ (h.0 gap m) (headed_same m (if is_empty xs then [] else (space ∷ [])) opener xs after rest h.1 i)

maybe_comma : (b : Bool) (rest : List Part) (after : Pieces) → Same rest (map piece_part after) →
    Same ((if b then [] else (bare_mark comma ∷ [])) ++ rest) (map piece_part ((if b then [] else (mark [] (comma ∷ []) ∷ [])) ++ after))
maybe_comma true rest after h = h
maybe_comma false rest after h = more _ _ _ _ (leaf_same c.Mark [] [] (comma ∷ [])) h

joined_same : (m : ℕ) (gap : Bytes) (closer : ℕ) (one : Bool) (xs : List Child) → AreRooted xs → Same (without_last one (bare_mark closer) (rooted xs)) (map piece_part (joined m gap closer one xs))
joined_same m gap closer one [] h = more _ _ _ _ (leaf_same c.Mark [] [] (closer ∷ [])) over
joined_same m gap closer one (x ∷ xs) h =
    more _ _ _ _ (h.0 gap m)
    (subst
    (λ b. Same ((if b && not one then [] else (bare_mark comma ∷ [])) ++ without_last false (bare_mark closer) (rooted xs)) (map piece_part ((if is_empty xs && not one then [] else (mark [] (comma ∷ []) ∷ [])) ++ joined m (space ∷ []) closer false xs)))
    (sym (none_mapped xs (λ x. root x.0)))
    (maybe_comma (is_empty xs && not one) (without_last false (bare_mark closer) (rooted xs)) (joined m (space ∷ []) closer false xs) (joined_same m (space ∷ []) closer false xs h.1)))

module _ (mode : Lines) where
  -- ---- the table sees no gap

  pub plain_same : (x : Expr) (gap : Bytes) (m : ℕ) → SameRoot (root x) (plain_part mode x gap m)
  plain_same (Token t) gap m = leaf_same t.class [] gap t.text
  plain_same (Form' kind z parts z' items end split open_break comments) gap m = record { nonterminal = λ a. refl; token = λ ts. refl }

  -- what is laid out of an expression without a suite is its root
  pub root_same : (x : Expr) → has_suite x ≡ false → (gap : Bytes) (m : ℕ) → SameRoot (root x) (part_of mode x gap m)
  root_same x h gap m = subst (λ f. SameRoot (root x) (f gap m)) (sym (laid_plain mode x h)) (plain_same x gap m)

  -- with a comma after each item, or after each but the last one of what is no tuple
  abbrev IsStacked : Kind → ℕ → List Child → List (Piece PartAt) → Type 0
  IsStacked kind closer xs ps = Same (each_with_comma (rooted xs) ++ (bare_mark closer ∷ [])) (map piece_part ps) ⊎ ((is_tuple kind ≡ false) × Same (without_last false (bare_mark closer) (rooted xs)) (map piece_part ps))

  -- ---- the ways to lay parts

  stacked_same : (kind : Kind) (n m : ℕ) (suffix : Option Bytes) (closer : ℕ) (end : List Bytes) (xs : List Child) → AreRooted xs → IsStacked kind closer xs (stacked mode kind n m suffix closer end xs)
  stacked_same kind n m suffix closer end [] h = inl (more _ _ _ _ (leaf_same c.Mark [] _ (closer ∷ [])) over)
  stacked_same kind n m suffix closer end (x ∷ []) h =
      let gap : Bytes = suffix_text suffix ++ (new_line_at n ++ margin_lines n (comments_of x.0).before) in
      let last : (g : Bytes) → Same (bare_mark closer ∷ []) (p.Leaf (record { class = c.Mark; gap = g; token = closer ∷ [] }) ∷ []) = λ g. more _ _ _ _ (leaf_same c.Mark [] g (closer ∷ [])) over in
      by_followed (λ ps. IsStacked kind closer (x ∷ []) (part gap n x.1 ∷ ps)) mode kind x.0 [] end closer (stacked mode kind n m (comments_of x.0).suffix closer end [])
      (λ closed. inr (closed.last.no_tuple, more _ _ _ _ (h.0 _ n) (last [])))
      (λ bare. inr (bare.no_tuple, more _ _ _ _ (h.0 _ n) (last _)))
      (inl (more _ _ _ _ (h.0 _ n) (more _ _ _ _ (leaf_same c.Mark [] [] (comma ∷ [])) (last _))))
  stacked_same kind n m suffix closer end (x ∷ y ∷ ys) h =
      let gap : Bytes = suffix_text suffix ++ (new_line_at n ++ margin_lines n (comments_of x.0).before) in
      let below : List (Piece PartAt) = stacked mode kind n m (comments_of x.0).suffix closer end (y ∷ ys) in
      by_followed (λ ps. IsStacked kind closer (x ∷ y ∷ ys) (part gap n x.1 ∷ ps)) mode kind x.0 (y.0 ∷ firsts ys) end closer below
      (λ closed. absurd (not_alone y.0 (firsts ys) closed.last.alone))
      (λ bare. absurd (not_alone y.0 (firsts ys) bare.alone))
      (one_more (stacked_same kind n m (comments_of x.0).suffix closer end (y ∷ ys) h.1))
    where
      one_more : IsStacked kind closer (y ∷ ys) (stacked mode kind n m (comments_of x.0).suffix closer end (y ∷ ys)) →
          IsStacked kind closer (x ∷ y ∷ ys) (part (suffix_text suffix ++ (new_line_at n ++ margin_lines n (comments_of x.0).before)) n x.1 ∷ mark [] (comma ∷ []) ∷ stacked mode kind n m (comments_of x.0).suffix closer end (y ∷ ys))
      one_more (inl all) = inl (more _ _ _ _ (h.0 _ n) (more _ _ _ _ (leaf_same c.Mark [] [] (comma ∷ [])) all))
      one_more (inr but) = inr (but.0, more _ _ _ _ (h.0 _ n) (more _ _ _ _ (leaf_same c.Mark [] [] (comma ∷ [])) but.1))

  -- ---- a whole form

  module _ (r : Shape) (m : ℕ) (gap : Bytes) (parts items : List Child) (h : AreRooted parts) (i : AreRooted items) where
    stacked_fits : (kind : Kind) (n : ℕ) (one : Bool) (opener closer : ℕ) (end : List Bytes) → Fits IsNonterminal r (row_in (sequence opener closer) (rooted parts) (rooted items)) →
        Fits IsNonterminal r (row_joined (sequence opener closer) (is_tuple kind && one) (rooted parts) (rooted items)) → IsStacked kind closer items (stacked mode kind n m None closer end items) →
        Fits IsNonterminal r (map piece_part (headed m gap opener parts (stacked mode kind n m None closer end items)))
    stacked_fits kind n one opener closer end g k (inl all) = fits_same r _ _ (headed_same m gap opener parts (stacked mode kind n m None closer end items) (each_with_comma (rooted items) ++ (bare_mark closer ∷ [])) h all) g
    stacked_fits kind n one opener closer end g k (inr but) =
        fits_same r _ _ (headed_same m gap opener parts (stacked mode kind n m None closer end items) (without_last false (bare_mark closer) (rooted items)) h but.1)
        (subst (λ (b : Bool). Fits IsNonterminal r (row_joined (sequence opener closer) (b && one) (rooted parts) (rooted items))) but.0 k)

    sequence_fits : (broken : Bool) (kind : Kind) (n : ℕ) (one : Bool) (opener closer : ℕ) (end : List Bytes) → Fits IsNonterminal r (row_in (sequence opener closer) (rooted parts) (rooted items)) →
        Fits IsNonterminal r (row_joined (sequence opener closer) (is_tuple kind && one) (rooted parts) (rooted items)) →
        Fits IsNonterminal r (map piece_part (headed m gap opener parts (if broken then stacked mode kind n m None closer end items else joined m [] closer (is_tuple kind && one) items)))
    sequence_fits true kind n one opener closer end g k = stacked_fits kind n one opener closer end g k (stacked_same kind n m None closer end items i)
    sequence_fits false kind n one opener closer end g k = fits_same r _ _ (headed_same m gap opener parts (joined m [] closer (is_tuple kind && one) items) (without_last (is_tuple kind && one) (bare_mark closer) (rooted items)) h (joined_same m [] closer (is_tuple kind && one) items i)) k

    fits_in : (f : Frame) (kind : Kind) (split open_break : Bool) (end : List Bytes) → Fits IsNonterminal r (row_in f (rooted parts) (rooted items)) →
        Fits IsNonterminal r (row_joined f (is_tuple kind && nat_eq (length items) 1) (rooted parts) (rooted items)) → Fits IsNonterminal r (map piece_part (laid_in mode f kind split open_break gap m parts items end))
    fits_in row kind split open_break end g k = fits_same r _ _ (rowed_same kind open_break m gap m parts h) g
    fits_in compound kind split open_break end g k = g
    fits_in (sequence opener closer) kind split open_break end g k = sequence_fits (is_broken_in mode kind split (firsts items) end) kind (item_margin mode kind m) (nat_eq (length items) 1) opener closer end g k

  -- what is laid of a form has the shape of its kind where its roots have it
  pub laid_fits : (kind : Kind) (split open_break : Bool) (gap : Bytes) (m : ℕ) (parts items : List Child) (end : List Bytes) → AreRooted parts → AreRooted items →
      Fits IsNonterminal (whole_shape kind) (row_in (frame kind) (rooted parts) (rooted items)) → Fits IsNonterminal (whole_shape kind) (map piece_part (laid mode kind split open_break gap m parts items end))
  laid_fits kind split open_break gap m parts items end h i g =
      fits_in (whole_shape kind) m gap parts items h i (frame kind) kind split open_break end g
      (subst (λ n. Fits IsNonterminal (whole_shape kind) (row_joined (frame kind) (is_tuple kind && nat_eq n 1) (rooted parts) (rooted items))) (length-map items (λ x. root x.0)) (fits_joined kind (rooted parts) (rooted items) g))

  -- ---- rows of expressions

  roots_of_row : (m : _) (r : Row_of-Expr m) → rooted (parts_of mode r) ≡ roots r
  roots_of_row m end_of-Expr = refl
  roots_of_row m (more_of-Expr x rest) = ap (λ t. root x ∷ t) (roots_of_row _ rest)

  pub roots_fit : (kind : Kind) (m n : _) (parts : Row_of-Expr m) (items : Row_of-Expr n) → Fits IsNonterminal (whole_shape kind) (row_in (frame kind) (roots parts) (roots items)) → Fits IsNonterminal (whole_shape kind) (row_in (frame kind) (rooted (parts_of mode parts)) (rooted (parts_of mode items)))
  roots_fit kind m n parts items h = subst (Fits IsNonterminal (whole_shape kind)) (sym (two (λ xs ys. row_in (frame kind) xs ys) (roots_of_row m parts) (roots_of_row n items))) h
