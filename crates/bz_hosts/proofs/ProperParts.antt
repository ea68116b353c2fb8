-- What is seen of a part of a legal tree is proper where the part is.
use Rattle.bz_hosts.proofs.Words.{[], ◌&&◌, ◌∷◌, ◌≡◌, All-from_recursion, all_fine, all_in, AllByRecursion, and_parts, AsCompoundBy, AsRowBy, AsSequenceBy, AtParts, Bool, Bytes, bzl_shape, compound, drop, drop-map, end_of-Part, Expr, false, first_seen_gap, Fits, fits_same, Form, form_proper_by, Frame, frame, has_newline, HostComments, if◌then◌else◌, in_frame, is_binary, is_comprehension, is_inner_frame, is_open, is_operator, is_split, IsCodedLeaf, IsComment, IsLexeme, IsNonterminal, IsWider, items-the_row-Part, items_in, kept_items, kept_parts, Kind, lead, Leaf, leaves_part, leaves_row, LegalBy, LegalPart, LegalRowBy, line_shape, List, map, more, more_of-Part, no_comments, no_such, Node', not, over, Part, Part as p, parts_of_row, places, plain, ProperBy, refl, root, row, row_exprs, row_in, Row_of-Part, row_same, Same, Seen, seen, seen_node, sequence, Shape, Spot, Stands, subst, suc, sym, take, true, value_fits, values_wider, whole_shape, wider_part, Within, ℕ}
use Rattle.bz_grammar.specs.Shapes as s
use Rattle.bz_hosts.proofs.Alternating.{Alternating}
use Rattle.bz_hosts.proofs.Cuts.{Cut, sequence_cut}
use Rattle.bz_hosts.proofs.InnerParts.{ends_line, is_inner, inner_parts, inner_bzl, inner_framed, in_line, inner_legal}
use Rattle.bz_hosts.proofs.SeenParts.{seen_rows, Decoded, AllDecoded, gap_decoded, all_parted, root_made, row_decoded, all_cut}
use Rattle.bz_hosts.proofs.RowParts.{Fit, AllFit, row_proper}
use Rattle.bz_hosts.proofs.SequenceParts.{sequence_stands, head_proper, head_roots, ItemsProper, items_proper, items_roots}

-- ---- a node, by its parts

pub row_roots : (binary inside newline : Bool) (xs : List Part) → Same xs (map root (row_exprs binary inside newline (map seen xs)))
row_roots binary inside newline [] = over
row_roots binary inside newline (x ∷ xs) = more x _ _ _ (root_made x no_comments _) (row_roots binary (binary && is_operator (plain (seen x))) (if inside then newline else has_newline (seen x).gap) xs)

-- ---- a token

-- a token inside a line is a lexeme of its class
abbrev pub IsLexed : Leaf → Type 0
IsLexed l = not (ends_line l.class) ≡ true → IsLexeme l.class l.token

-- ---- by a grammar, of which that of values is the widest

module _ (grammar : Kind → Shape) where
  -- what is found after the opening bracket
  pub record FoundProper (xs : List Part) (body : List Seen) : Type 0 where
    pub roots : Same (places xs) (map root (items_in (all_in (first_seen_gap body)) body).0)
    pub items : ItemsProper grammar (items_in (all_in (first_seen_gap body)) body)

  pub found_proper : (outer : Spot) (xs : List Part) → AllDecoded (map seen xs) → AllFit grammar xs → AtParts Stands outer Within xs → Alternating s.comma_mark xs → FoundProper xs (map seen xs)
  found_proper outer xs t h at_ g = record {
    roots = items_roots (all_in (first_seen_gap (map seen xs))) xs;
    items = items_proper grammar (all_in (first_seen_gap (map seen xs))) outer xs (all_fine (first_seen_gap (map seen xs)) (gap_decoded (map seen xs) t)) t h at_ g;
  }

  abbrev pub Good : Part → Type 0
  Good x = LegalBy grammar x × AllByRecursion IsLexed (leaves_part x) × AllByRecursion IsCodedLeaf (leaves_part x)

  abbrev pub Ready : Part → Type 0
  Ready x = is_inner x ≡ true → Fit grammar x

  -- fits: what a form keeps of a node's parts has the shape of its kind again
  module _ (wider : IsWider grammar whole_shape) (fits : (kind : Kind) (ps : List Part) → Fits IsNonterminal (grammar kind) ps → Fits IsNonterminal (grammar kind) (row_in (frame kind) (kept_parts (frame kind) kind ps) (kept_items (frame kind) kind ps))) where
    -- what is kept of the parts has the shape of the kind, where its roots are these
    kept_fits : (kind : Kind) (f : Frame) → frame kind ≡ f → (xs ys us : List Part) → Fits IsNonterminal (grammar kind) xs → Same (kept_parts f kind xs) ys → Same (kept_items f kind xs) us → Fits IsNonterminal (grammar kind) (row_in (frame kind) ys us)
    kept_fits kind f e xs ys us h v w =
        subst (λ z. Fits IsNonterminal (grammar kind) (row_in z ys us)) (sym e) (
        fits_same (grammar kind) (row_in f (kept_parts f kind xs) (kept_items f kind xs)) (row_in f ys us) (row_same f (kept_parts f kind xs) ys (kept_items f kind xs) us v w)
        (subst (λ z. Fits IsNonterminal (grammar kind) (row_in z (kept_parts z kind xs) (kept_items z kind xs))) e (fits kind xs h)))

    pub node_proper : (kind : Kind) (f : Frame) → frame kind ≡ f → is_inner_frame f ≡ true → (here : Spot) (xs : List Part) → Fits IsNonterminal (grammar kind) xs → AllDecoded (map seen xs) → AllFit grammar xs → AtParts Stands here here xs →
        (cs : HostComments) (b : Bool) → ProperBy grammar here ((seen_node f kind (map seen xs)).make cs b)
    node_proper kind row e q here xs h t g at_ cs b =
        let es : List Expr = row_exprs (is_binary kind) false false (map seen xs) in
        let form : Form = record { kind = kind; parts = es; seq = record { items = []; end = []; split = false }; open_break = is_comprehension kind && is_open (map seen xs); comments = cs } in
        let as_row : AsRowBy grammar here form = (row_proper grammar wider kind here here xs h g at_, tt, refl, refl, λ o. (and_parts (is_comprehension kind) (is_open (map seen xs)) o).0) in
        form_proper_by grammar here form (kept_fits kind row e xs (map root es) [] h (row_roots (is_binary kind) false false xs) over) (subst (λ z. in_frame z (AsRowBy grammar here form) (AsSequenceBy grammar here form) (AsCompoundBy grammar form)) (sym e) as_row)
    node_proper kind (sequence opener closer) e q here xs h t g at_ cs b =
        let n : ℕ = lead kind in
        let body : List Seen = drop (suc n) (map seen xs) in
        let found : List Expr × List Bytes = items_in (all_in (first_seen_gap body)) body in
        let es : List Expr = map plain (take n (map seen xs)) in
        let cut : Cut (lead kind) xs = sequence_cut kind opener closer xs e (wider kind xs h) in
        let stands = sequence_stands kind here xs cut at_ in
        let same : body ≡ map seen (drop (suc n) xs) = drop-map seen (suc n) xs in
        let decoded : AllDecoded (map seen (drop (suc n) xs)) = subst AllDecoded same (all_cut Decoded (suc n) (map seen xs) t).1 in
        let inside : FoundProper (drop (suc n) xs) body = subst (FoundProper (drop (suc n) xs)) (sym same) (found_proper here (drop (suc n) xs) decoded (all_cut (Fit grammar) (suc n) xs g).1 stands.1 cut.alternating) in
        let form : Form = record { kind = kind; parts = es; seq = record { items = found.0; end = found.1; split = is_split body }; open_break = false; comments = cs } in
        let as_sequence : AsSequenceBy grammar here form = (head_proper grammar here n xs g stands.0, inside.items.0, All-from_recursion IsComment found.1 inside.items.1, refl) in
        form_proper_by grammar here form (kept_fits kind (sequence opener closer) e xs (map root es) (map root found.0) h (head_roots n xs) inside.roots) (subst (λ z. in_frame z (AsRowBy grammar here form) (AsSequenceBy grammar here form) (AsCompoundBy grammar form)) (sym e) as_sequence)
    node_proper kind compound e q here xs h t g at_ cs b = no_such q

    -- ---- parts of a tree

    ready_fit : (xs : List Part) → AllByRecursion (λ x. is_inner x ≡ true) xs → AllByRecursion Ready xs → AllFit grammar xs
    ready_fit [] h i = tt
    ready_fit (x ∷ xs) h i = (i.0 h.0, ready_fit xs h.1 i.1)

    mutual
      pub part_proper : (x : Part) → Good x → Ready x
      part_proper (p.Leaf l) g i here at_ cs b = (g.1.0 i, g.2.0.1)
      part_proper (Node' kind n r) g i here at_ cs b =
          let xs : List Part = items-the_row-Part _ r in
          let decoded : AllDecoded (map seen xs) = subst AllDecoded (seen_rows _ r) (row_decoded _ r g.2) in
          let fit : AllFit grammar xs = ready_fit xs (inner_parts kind i xs (inner_bzl kind i xs (wider kind xs g.0.0))) (row_ready _ r g.0.1 g.1 g.2) in
          subst (λ ss. ProperBy grammar here ((seen_node (frame kind) kind ss).make cs b)) (sym (seen_rows _ r)) (node_proper kind (frame kind) refl (inner_framed kind i) here xs g.0.0 decoded fit (parts_of_row Stands here here _ r at_) cs b)

      pub row_ready : (m : _) (r : Row_of-Part m) → LegalRowBy grammar r → AllByRecursion IsLexed (leaves_row r) → AllByRecursion IsCodedLeaf (leaves_row r) → AllByRecursion Ready (items-the_row-Part m r)
      row_ready m end_of-Part h l c = tt
      row_ready m (more_of-Part x rest) h l c =
          let v = all_parted IsLexed (leaves_part x) (leaves_row rest) l in
          let w = all_parted IsCodedLeaf (leaves_part x) (leaves_row rest) c in
          (part_proper x (h.0, v.0, w.0), row_ready _ rest h.1 v.1 w.1)

-- ---- by the grammar of values

-- what is seen of an inner part of a file
pub line_proper : (x : Part) → LegalPart x → AllByRecursion IsLexed (leaves_part x) → AllByRecursion IsCodedLeaf (leaves_part x) → is_inner x ≡ true → Fit whole_shape x
line_proper x h l u i = part_proper whole_shape (λ kind xs g. g) value_fits x (wider_part line_shape whole_shape values_wider x (inner_legal x (in_line x i) h), l, u) i
