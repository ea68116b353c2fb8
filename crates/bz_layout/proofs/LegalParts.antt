-- What the layout makes of a proper expression has legal shapes, is apart where it must, and begins with the gap that it
-- is given.
use Rattle.bz_layout.proofs.Words.{[], ◌&&◌, ◌++◌, ◌∷◌, ◌≡◌, all_mapped, AllByRecursion, ap, Bool, Bytes, Class as c, comma, comments_of, compound, end_of-Expr, end_of-Part, Expr, false, firsts, Fits, flat_map, Form', Frame, frame, gap_after, headed, if◌then◌else◌, in_frame, inner_bzl, inner_kind, inner_line, is_broken_in, is_compound, is_empty, is_tuple, IsNonterminal, item_margin, items-the_row-Part, items_of_row, joined, Kind, laid, laid_in, Leaf, leaves_Node, leaves_part, LegalBy, length, line_shape, Lines, List, map, margin_after, mark, more_of-Expr, more_of-Part, nat_eq, no_such, Node, node_legal, None, not, Option, Part, part_of, parts_of, piece_part, ProperBy, refl, roots, row, row_in, row_of, Row_of-Expr, Row_of-Part, rowed, sequence, space, Spot, stacked, subst, sym, Token, true, values_wider, whole_shape, ℕ}
use Rattle.bz_grammar.specs.declared.tree.Part.TheVariants as p
use Rattle.bz_layout.proofs.{Touching.Apart, Touching.Airy, Touching.AiryRow, Elements.items_values, Elements.some_part, Fitted.plain_same, Fitted.Child, Fitted.rooted, Fitted.roots_fit, Fitted.IsRooted, Fitted.AreRooted, Fitted.Pieces, Fitted.laid_fits, Rows.plain_spaced, Rows.IsAfter, Rows.AreAfter, Rows.laid_apart, Made.laid_plain, Made.line_plain, Spots.no_line, Spots.EachProper, Spots.InFrame, Spots.both_each}
use Rattle.bz_layout.proofs.Ends.{by_followed}

-- ---- a node by its list of parts

pub airy_row : (m : _) (r : Row_of-Part m) → AllByRecursion Airy (items-the_row-Part m r) → AiryRow r
airy_row m end_of-Part h = tt
airy_row m (more_of-Part x rest) h = (h.0, airy_row _ rest h.1)

pub airy_node : (n : Node) → inner_kind n.kind ≡ true → Apart n.kind n.parts → AllByRecursion Airy n.parts → Airy (p.Node n)
airy_node n h a e =
    (h, subst (Apart n.kind) (sym (items_of_row n)) a, airy_row _ (row_of n).1 (subst (AllByRecursion Airy) (sym (items_of_row n)) e))

abbrev pub Begin : Bytes → List Leaf → Type 0
Begin gap leaves = (l : Leaf) × (ls : List Leaf) × (leaves ≡ l ∷ ls) × (l.gap ≡ gap)

abbrev pub FirstBegins : Bytes → List Part → Type 0
FirstBegins gap [] = ⊥
FirstBegins gap (x ∷ xs) = Begin gap (leaves_part x)

pub begin_with : (gap : Bytes) (xs : List Part) → FirstBegins gap xs → Begin gap (flat_map leaves_part xs)
begin_with gap [] h = absurd h
begin_with gap (x ∷ xs) h = (h.0, h.1 ++ flat_map leaves_part xs, ap (λ t. t ++ flat_map leaves_part xs) h.2, h.3)

-- ---- the first leaf

pub first_rowed : (kind : Kind) (open_break : Bool) (m : ℕ) (gap : Bytes) (n : ℕ) (xs : List Child) → AreAfter xs → (xs ≡ [] → ⊥) → FirstBegins gap (map piece_part (rowed kind open_break m gap n xs))
first_rowed kind open_break m gap n [] h e = absurd (e refl)
first_rowed kind open_break m gap n (x ∷ xs) h e = h.0.starts gap n

some_parts : (f : Frame) (kind : Kind) (parts items : List Part) → is_compound f ≡ false → frame kind ≡ f → Fits IsNonterminal (whole_shape kind) (row_in f parts items) → in_frame f (parts ≡ [] → ⊥) (Unit {0}) ⊥
some_parts row kind parts items n e h = λ i. some_part kind (ap is_compound e) (subst (Fits IsNonterminal (whole_shape kind)) i h)
some_parts (sequence opener closer) kind parts items n e h = tt
some_parts compound kind parts items n e h = no_such (sym n)

-- ---- a form of good parts

-- what is laid out of a child has shapes of lines and is apart, after its gap, and is its root
pub record IsGood (x : Child) : Type 0 where
  pub stands : IsAfter x
  pub legal : (gap : Bytes) (m : ℕ) → LegalBy line_shape (x.1 gap m)
  pub airy : (gap : Bytes) (m : ℕ) → Airy (x.1 gap m)

abbrev pub AreGood : List Child → Type 0
AreGood xs = AllByRecursion IsGood xs

-- what is laid out of a form after a gap: of what is in a line, or of a header
pub record AreFormParts (kind : Kind) (gap : Bytes) (ps : List Part) : Type 0 where
  pub begins : Begin gap (flat_map leaves_part ps)
  pub fits : Fits IsNonterminal (whole_shape kind) ps
  pub legal : AllByRecursion (LegalBy line_shape) ps
  pub between : Apart kind ps
  pub airy : AllByRecursion Airy ps

module _ (mode : Lines) where
  -- ---- what holds of each part holds of each piece

  module _ (P : Part → Type 0) (marks : (gap : Bytes) (n : ℕ) → P (p.Leaf (record { class = c.Mark; gap = gap; token = n ∷ [] }))) where
    abbrev pub Each : List Child → Type 0
    Each xs = AllByRecursion (λ x. (gap : Bytes) (m : ℕ) → P (x.1 gap m)) xs

    pub rowed_each : (kind : Kind) (open_break : Bool) (m : ℕ) (gap : Bytes) (n : ℕ) (xs : List Child) → Each xs → AllByRecursion P (map piece_part (rowed kind open_break m gap n xs))
    rowed_each kind open_break m gap n [] h = tt
    rowed_each kind open_break m gap n (x ∷ xs) h = (h.0 gap n, rowed_each kind open_break m (gap_after kind open_break m x.0 (firsts xs)) (margin_after open_break m x.0) xs h.1)

    pub headed_each : (m : ℕ) (gap : Bytes) (opener : ℕ) (xs : List Child) (after : Pieces) → Each xs → AllByRecursion P (map piece_part after) → AllByRecursion P (map piece_part (headed m gap opener xs after))
    headed_each m gap opener [] after h i = (marks gap opener, i)
    headed_each m gap opener (x ∷ xs) after h i = (h.0 gap m, headed_each m (if is_empty xs then [] else (space ∷ [])) opener xs after h.1 i)

    pub stacked_each : (kind : Kind) (n m : ℕ) (suffix : Option Bytes) (closer : ℕ) (end : List Bytes) (xs : List Child) → Each xs → AllByRecursion P (map piece_part (stacked mode kind n m suffix closer end xs))
    stacked_each kind n m suffix closer end [] h = (marks _ closer, tt)
    stacked_each kind n m suffix closer end (x ∷ xs) h =
        let below = stacked_each kind n m (comments_of x.0).suffix closer end xs h.1 in
        (h.0 _ n, by_followed (λ ps. AllByRecursion P (map piece_part ps)) mode kind x.0 (firsts xs) end closer (stacked mode kind n m (comments_of x.0).suffix closer end xs) (λ closed. (marks [] closer, tt)) (λ last. below) (marks [] comma, below))

    maybe_comma : (b : Bool) (after : Pieces) → AllByRecursion P (map piece_part after) → AllByRecursion P (map piece_part ((if b then [] else (mark [] (comma ∷ []) ∷ [])) ++ after))
    maybe_comma true after h = h
    maybe_comma false after h = (marks [] comma, h)

    pub joined_each : (m : ℕ) (gap : Bytes) (closer : ℕ) (one : Bool) (xs : List Child) → Each xs → AllByRecursion P (map piece_part (joined m gap closer one xs))
    joined_each m gap closer one [] h = (marks [] closer, tt)
    joined_each m gap closer one (x ∷ xs) h = (h.0 gap m, maybe_comma (is_empty xs && not one) (joined m (space ∷ []) closer false xs) (joined_each m (space ∷ []) closer false xs h.1))

    pub body_each : (broken one : Bool) (kind : Kind) (n m : ℕ) (closer : ℕ) (end : List Bytes) (xs : List Child) → Each xs → AllByRecursion P (map piece_part (if broken then stacked mode kind n m None closer end xs else joined m [] closer one xs))
    body_each true one kind n m closer end xs h = stacked_each kind n m None closer end xs h
    body_each false one kind n m closer end xs h = joined_each m [] closer one xs h

    pub each_in : (f : Frame) (kind : Kind) (split open_break : Bool) (gap : Bytes) (m : ℕ) (parts items : List Child) (end : List Bytes) → Each parts → Each items → AllByRecursion P (map piece_part (laid_in mode f kind split open_break gap m parts items end))
    each_in row kind split open_break gap m parts items end h i = rowed_each kind open_break m gap m parts h
    each_in compound kind split open_break gap m parts items end h i = tt
    each_in (sequence opener closer) kind split open_break gap m parts items end h i = headed_each m gap opener parts _ h (body_each (is_broken_in mode kind split (firsts items) end) (is_tuple kind && nat_eq (length items) 1) kind (item_margin mode kind m) m closer end items i)

  -- ---- the first leaf

  pub first_in : (f : Frame) (kind : Kind) (split open_break : Bool) (gap : Bytes) (m : ℕ) (parts items : List Child) (end : List Bytes) → AreAfter parts → in_frame f (rooted parts ≡ [] → ⊥) (Unit {0}) ⊥ →
      FirstBegins gap (map piece_part (laid_in mode f kind split open_break gap m parts items end))
  first_in row kind split open_break gap m parts items end h e = first_rowed kind open_break m gap m parts h (λ i. e (ap rooted i))
  first_in (sequence opener closer) kind split open_break gap m [] items end h e = (record { class = c.Mark; gap = gap; token = opener ∷ [] }, [], refl, refl)
  first_in (sequence opener closer) kind split open_break gap m (x ∷ xs) items end h e = h.0.starts gap m
  first_in compound kind split open_break gap m parts items end h e = absurd e

  -- ---- a form of good parts

  form_parts : (kind : Kind) (split open_break : Bool) (parts items : List Child) (end : List Bytes) → AreGood parts → AreGood items → is_compound (frame kind) ≡ false → Fits IsNonterminal (whole_shape kind) (row_in (frame kind) (rooted parts) (rooted items)) →
      (gap : Bytes) (m : ℕ) → AreFormParts kind gap (map piece_part (laid mode kind split open_break gap m parts items end))
  form_parts kind split open_break parts items end g i plain fits gap m =
      let after : (xs : List Child) → AreGood xs → AreAfter xs = all_mapped IsGood IsAfter (λ x h. h.stands) in
      let roots : (xs : List Child) → AreGood xs → AreRooted xs = all_mapped IsGood IsRooted (λ x h. h.stands.rooted_as) in
      let legal : (xs : List Child) → AreGood xs → Each (LegalBy line_shape) (λ gap n. tt) xs = all_mapped IsGood (λ x. (gap : Bytes) (m : ℕ) → LegalBy line_shape (x.1 gap m)) (λ x h. h.legal) in
      let airy : (xs : List Child) → AreGood xs → Each Airy (λ gap n. tt) xs = all_mapped IsGood (λ x. (gap : Bytes) (m : ℕ) → Airy (x.1 gap m)) (λ x h. h.airy) in
      record {
        begins = begin_with gap (map piece_part (laid mode kind split open_break gap m parts items end)) (first_in (frame kind) kind split open_break gap m parts items end (after parts g) (some_parts (frame kind) kind (rooted parts) (rooted items) plain refl fits));
        fits = laid_fits mode kind split open_break gap m parts items end (roots parts g) (roots items i) fits;
        legal = each_in (LegalBy line_shape) (λ gap n. tt) (frame kind) kind split open_break gap m parts items end (legal parts g) (legal items i);
        between = laid_apart mode kind split open_break gap m parts items end (after parts g) (after items i) (items_values kind (rooted parts) (rooted items) fits);
        airy = each_in Airy (λ gap n. tt) (frame kind) kind split open_break gap m parts items end (airy parts g) (airy items i);
      }

  mutual
    pub laid_out_good : (here : Spot) (x : Expr) → ProperBy line_shape here x → IsGood (x, part_of mode x)
    laid_out_good here (Token t) h = record {
      stands = record {
        starts = λ gap m. (record { class = t.class; gap = gap; token = t.text }, [], refl, refl);
        rooted_as = plain_same mode (Token t);
        spaced_as = plain_spaced mode (Token t);
      };
      legal = λ gap m. tt;
      airy = λ gap m. tt;
    }
    laid_out_good here (Form' kind z parts z' items end split open_break comments) h =
        let x : Expr = Form' kind z parts z' items end split open_break comments in
        let plain : is_compound (frame kind) ≡ false = line_plain here x h in
        let line : inner_kind kind ≡ true = no_line here x h in
        let inner = both_each line_shape (frame kind) kind here _ _ parts items end split open_break h.1 in
        let known = form_parts kind split open_break (parts_of mode parts) (parts_of mode items) end (each_good _ parts inner.0) (each_good _ items inner.1) plain (roots_fit mode kind _ _ parts items (values_wider kind _ h.0)) in
        let node : Bytes → ℕ → Node = λ gap m. record { kind = kind; parts = map piece_part (laid mode kind split open_break gap m (parts_of mode parts) (parts_of mode items) end) } in
        subst (λ f. IsGood (x, f)) (sym (laid_plain mode x plain)) (record {
          stands = record {
            starts = λ gap m. subst (Begin gap) (sym (leaves_Node (node gap m))) (known gap m).begins;
            rooted_as = plain_same mode x;
            spaced_as = plain_spaced mode x;
          };
          legal = λ gap m. node_legal line_shape (node gap m) (inner_line kind line _ (inner_bzl kind line _ (known gap m).fits)) (known gap m).legal;
          airy = λ gap m. airy_node (node gap m) line (known gap m).between (known gap m).airy;
        })

    each_good : (m : _) (r : Row_of-Expr m) → EachProper line_shape r → AreGood (parts_of mode r)
    each_good m end_of-Expr h = tt
    each_good m (more_of-Expr x rest) h = (laid_out_good h.0.0 x h.0.1, each_good _ rest h.1)

  -- of a form, by what is in it
  pub form_good : (here : Spot) (kind : Kind) (m n : _) (parts : Row_of-Expr m) (items : Row_of-Expr n) (end : List Bytes) (split open_break : Bool) → is_compound (frame kind) ≡ false → Fits IsNonterminal (whole_shape kind) (row_in (frame kind) (roots parts) (roots items)) →
      InFrame line_shape (frame kind) kind here parts items end split open_break → (gap : Bytes) (margin : ℕ) → AreFormParts kind gap (map piece_part (laid mode kind split open_break gap margin (parts_of mode parts) (parts_of mode items) end))
  form_good here kind m n parts items end split open_break plain fits h =
      let inner = both_each line_shape (frame kind) kind here _ _ parts items end split open_break h in
      form_parts kind split open_break (parts_of mode parts) (parts_of mode items) end (each_good _ parts inner.0) (each_good _ items inner.1) plain (roots_fit mode kind _ _ parts items fits)
