-- The tree of the layout spells its text.
use Rattle.bz_layout.proofs.Words.{[], ◌&&◌, ◌++◌, ◌+◌, ◌∙◌, ◌∷◌, ◌≡◌, AllByRecursion, alternative_parts, ap, append-nil, append_assoc, at_margin, before_next_in, Begins, Bool, Bytes, colon, comma, comment_lines, comments_of, compound, end_of-Expr, Expr, false, firsts, flat_map, flat_map-append, followed, Form', Frame, frame, gap_after, gap_to_margin, has_suite, headed, if◌then◌else◌, Indented, indented_lines, inl, inr, is_bare, is_broken_in, is_closed, is_compound, is_empty, is_tuple, IsProper, IsProperItem, Item, item_margin, item_text_in, items_of_row, joined, Kind, Kind as k, laid_in, laid_out_in, last_left, layout_in, left_by_frame, left_of, length, line_feed, line_part, Lines, lines_from_in, List, map, margin_after, margin_lines, mark, mark_leaf, more_of-Expr, nat_eq, newline_part, Node, node_by_frame, None, not, Option, Part, part_of, PartAt, parts_in, parts_of, past_item, Piece, piece_part, piece_text, recursion_from_All, refl, replicate, row, Row_of-Expr, rowed, sequence, space, spell_Node, spell_node, spell_part, stacked, statement_part, statement_parts, statement_text, statements_text, suc, suffix_text, suite_part, suite_text, sym, text_by_frame, text_in, TextAt, texts_in, Token, true, true≢false, with_more_parts, ℕ}
use Rattle.bz_grammar.specs.declared.tree.Part.TheVariants as p
use Rattle.bz_value.specs.declared.value.Item.TheVariants as i
use Rattle.bz_layout.proofs.BackSuites.{AreBack, own_left_of, alternative_suited}
use Rattle.bz_layout.proofs.Made.{two, plain_left}
use Rattle.bz_layout.proofs.Readable.{Readable, EachReadable, AreInner, AreLinesOf, IsStatement, IsAlternative, IsSuite, Facts, line_statement, readable}
use Rattle.bz_layout.proofs.ReadBack.{row_read, head_here, others_left, left_form, facts_of}

-- the two readings of the same expressions, each spelling the other after its gap
data Agree : List (Expr × PartAt) → List (Expr × TextAt) → Type 0 where
  over : Agree [] []
  more : (v : Expr) (x : PartAt) (y : TextAt) (xs : List (Expr × PartAt)) (ys : List (Expr × TextAt)) →
      ((g : Bytes) (m : ℕ) → spell_part (x g m) ≡ g ++ y m) → Agree xs ys → Agree ((v, x) ∷ xs) ((v, y) ∷ ys)

abbrev spelled : List (Piece PartAt) → Bytes
spelled ps = flat_map spell_part (map piece_part ps)

abbrev written : List (Piece TextAt) → Bytes
written ps = flat_map piece_text ps

both : {a b c d : Bytes} → a ≡ b → c ≡ d → a ++ c ≡ b ++ d
both {a} {b} {c} {d} e f = ap (λ t. t ++ c) e ∙ ap (λ t. b ++ t) f

same_values : (xs : _) (ys : _) → Agree xs ys → firsts xs ≡ firsts ys
same_values xs ys over = refl
same_values xs ys (more v x y xs' ys' e a) = ap (λ t. v ∷ t) (same_values xs' ys' a)

same_empty : (xs : _) (ys : _) → Agree xs ys → is_empty xs ≡ is_empty ys
same_empty xs ys over = refl
same_empty xs ys (more v x y xs' ys' e a) = refl

same_length : (xs : _) (ys : _) → Agree xs ys → length xs ≡ length ys
same_length xs ys over = refl
same_length xs ys (more v x y xs' ys' e a) = ap suc (same_length xs' ys' a)

same_rowed : (kind : Kind) (open_break : Bool) (m : ℕ) (g : Bytes) (n : ℕ) (xs : _) (ys : _) → Agree xs ys → spelled (rowed kind open_break m g n xs) ≡ written (rowed kind open_break m g n ys)
same_rowed kind open_break m g n xs ys over = refl
same_rowed kind open_break m g n xs ys (more v x y xs' ys' e a) =
    both (e g n)
    (ap (λ z. spelled (rowed kind open_break m (gap_after kind open_break m v z) (margin_after open_break m v) xs')) (same_values xs' ys' a) ∙
    same_rowed kind open_break m (gap_after kind open_break m v (firsts ys')) (margin_after open_break m v) xs' ys' a)

same_headed : (m : ℕ) (g : Bytes) (opener : ℕ) (xs : _) (ys : _) (p : _) (q : _) → Agree xs ys → spelled p ≡ written q → spelled (headed m g opener xs p) ≡ written (headed m g opener ys q)
same_headed m g opener xs ys p q over f = both refl f
same_headed m g opener xs ys p q (more v x y xs' ys' e a) f = both (e g m) (rw (same_empty xs' ys' a) (same_headed m _ opener xs' ys' p q a f))

same_comma : (b : Bool) (p : _) (q : _) → spelled p ≡ written q → spelled ((if b then [] else (mark [] (comma ∷ []) ∷ [])) ++ p) ≡ written ((if b then [] else (mark [] (comma ∷ []) ∷ [])) ++ q)
same_comma true p q e = e
same_comma false p q e = ap (λ t. comma ∷ t) e

same_joined : (m : ℕ) (g : Bytes) (closer : ℕ) (one : Bool) (xs : _) (ys : _) → Agree xs ys → spelled (joined m g closer one xs) ≡ written (joined m g closer one ys)
same_joined m g closer one xs ys over = refl
same_joined m g closer one xs ys (more v x y xs' ys' e a) =
    both (e g m) (rw (same_empty xs' ys' a) (same_comma (is_empty ys' && not one) _ _ (same_joined m (space ∷ []) closer false xs' ys' a)))

-- ---- the gap before a node is before its text

row_gap : (kind : Kind) (open_break : Bool) (g : Bytes) (m n : ℕ) (xs : List (Expr × TextAt)) → is_empty xs ≡ false → written (rowed kind open_break m g n xs) ≡ g ++ written (rowed kind open_break m [] n xs)
row_gap kind open_break g m n [] s = absurd (true≢false s)
row_gap kind open_break g m n (x ∷ xs) s = append_assoc g _ _

headed_gap : (m : ℕ) (g : Bytes) (opener : ℕ) (ys : List (Expr × TextAt)) (r : List (Piece TextAt)) → written (headed m g opener ys r) ≡ g ++ written (headed m [] opener ys r)
headed_gap m g opener [] r = append_assoc g (opener ∷ []) (written r)
headed_gap m g opener (y ∷ ys) r = append_assoc g _ _

-- ---- nodes

-- with more parts a node spells more
spell_grown : (y : Part) (n : Node) (others : List Part) → y ≡ p.Node n → spell_part (with_more_parts y others) ≡ spell_part y ++ flat_map spell_part others
spell_grown y n others e =
    ap (λ z. spell_part (with_more_parts z others)) e ∙ (ap (λ z. let w : Node = record { kind = n.kind; parts = z ++ others } in spell_part (p.Node w)) (items_of_row n)
    ∙ (spell_Node (record { kind = n.kind; parts = n.parts ++ others }) ∙ (flat_map-append spell_part n.parts others ∙ ap (λ z. z ++ flat_map spell_part others) (sym (ap spell_part e ∙ spell_Node n)))))

-- its parts spell what it does
spell_parts : (y : Part) (n : Node) → y ≡ p.Node n → flat_map spell_part (parts_in y) ≡ spell_part y
spell_parts y n e = ap (λ z. flat_map spell_part (parts_in z)) e ∙ (ap (flat_map spell_part) (items_of_row n) ∙ sym (ap spell_part e ∙ spell_Node n))

-- ---- statements

suited_grouped : (lines margin above text : Bytes) → (lines ++ (margin ++ above)) ++ text ≡ lines ++ (margin ++ (above ++ (text ++ [])))
suited_grouped lines margin above text = simp (append_assoc, append-nil)

plain_grouped : (lines margin above text end : Bytes) → ((lines ++ (margin ++ above)) ++ text) ++ (end ++ []) ≡ lines ++ (margin ++ (above ++ (text ++ end)))
plain_grouped lines margin above text end = simp (append_assoc, append-nil)

-- one part, what it leaves, and the rest
next_joined : (first left rest rest_left lines text rest_text : Bytes) → first ++ left ≡ lines ++ text → rest ++ rest_left ≡ left ++ rest_text → (first ++ rest) ++ rest_left ≡ lines ++ (text ++ rest_text)
next_joined first left rest rest_left lines text rest_text e f =
    append_assoc first rest rest_left ∙ (ap (λ z. first ++ z) f ∙ (sym (append_assoc first left rest_text) ∙ (ap (λ z. z ++ rest_text) e ∙ append_assoc lines text rest_text)))

-- ---- suites

indented_joined : (cs ds : Indented) → indented_lines (cs ++ ds) ≡ indented_lines cs ++ indented_lines ds
indented_joined [] ds = refl
indented_joined (c ∷ cs) ds = let own : Bytes = replicate c.0 space ++ (c.1 ++ line_feed ∷ []) in ap (λ z. own ++ z) (indented_joined cs ds) ∙ sym (append_assoc own (indented_lines cs) (indented_lines ds))

-- header, statements and alternatives, by what is known of the latter two
suite_grouped : (gap head suffix statements left text end others all rest : Bytes) → statements ++ left ≡ text → others ++ all ≡ (left ++ end) ++ rest →
    ((gap ++ head) ++ (colon ∷ (((suffix ++ line_feed ∷ []) ++ statements) ++ others))) ++ all ≡ gap ++ (head ++ (colon ∷ (suffix ++ (line_feed ∷ (text ++ (end ++ rest))))))
suite_grouped gap head suffix statements left text end others all rest e f =
    let first : ((gap ++ head) ++ (colon ∷ (((suffix ++ line_feed ∷ []) ++ statements) ++ others))) ++ all ≡ gap ++ (head ++ (colon ∷ (suffix ++ (line_feed ∷ (statements ++ (others ++ all)))))) = simp append_assoc in
    let then_ : statements ++ ((left ++ end) ++ rest) ≡ (statements ++ left) ++ (end ++ rest) = simp append_assoc in
    first ∙ ap (λ z. gap ++ (head ++ (colon ∷ (suffix ++ (line_feed ∷ z))))) (ap (λ z. statements ++ z) f ∙ (then_ ∙ ap (λ z. z ++ (end ++ rest)) e))

same_followed : (closed bare : Bool) (closer : ℕ) (ps : List (Piece PartAt)) (qs : List (Piece TextAt)) → spelled ps ≡ written qs → spelled (followed closed bare closer ps) ≡ written (followed closed bare closer qs)
same_followed true bare closer ps qs e = refl
same_followed false true closer ps qs e = e
same_followed false false closer ps qs e = ap (λ t. comma ∷ t) e

module _ (mode : Lines) where
  same_stacked : (kind : Kind) (n m : ℕ) (suffix : Option Bytes) (closer : ℕ) (end : List Bytes) (xs : _) (ys : _) → Agree xs ys → spelled (stacked mode kind n m suffix closer end xs) ≡ written (stacked mode kind n m suffix closer end ys)
  same_stacked kind n m suffix closer end xs ys over = refl
  same_stacked kind n m suffix closer end xs ys (more v x y xs' ys' e a) =
      let same : firsts xs' ≡ firsts ys' = same_values xs' ys' a in
      let after : List Expr → List (Piece TextAt) = λ zs. followed (is_closed mode kind v zs end) (is_bare mode kind v zs) closer (stacked mode kind n m (comments_of v).suffix closer end ys') in
      both (e _ n)
      (same_followed (is_closed mode kind v (firsts xs') end) (is_bare mode kind v (firsts xs')) closer _ _ (same_stacked kind n m (comments_of v).suffix closer end xs' ys' a) ∙ ap (λ zs. written (after zs)) same)

  same_body : (b : Bool) (kind : Kind) (n : ℕ) (one : Bool) (m : ℕ) (closer : ℕ) (end : List Bytes) (xs : _) (ys : _) → Agree xs ys →
      spelled (if b then stacked mode kind n m None closer end xs else joined m [] closer one xs) ≡ written (if b then stacked mode kind n m None closer end ys else joined m [] closer one ys)
  same_body true kind n one m closer end xs ys a = same_stacked kind n m None closer end xs ys a
  same_body false kind n one m closer end xs ys a = same_joined m [] closer one xs ys a

  -- ---- expressions without suites

  -- each expression with its text
  abbrev texts : List (Expr × PartAt) → List (Expr × TextAt)
  texts xs = map (λ x. (x.0, text_in mode x.0)) xs

  -- what is laid out of an expression spells its text after its gap, but for the comments that are left to what follows
  abbrev IsSpelled : Expr × PartAt → Type 0
  IsSpelled x = (g : Bytes) (m : ℕ) → spell_part (x.1 g m) ++ indented_lines (left_of m x.0) ≡ g ++ text_in mode x.0 m

  abbrev AreSpelled : List (Expr × PartAt) → Type 0
  AreSpelled xs = AllByRecursion IsSpelled xs

  plain_spelled : (x : Expr × PartAt) → IsSpelled x → has_suite x.0 ≡ false → (g : Bytes) (m : ℕ) → spell_part (x.1 g m) ≡ g ++ text_in mode x.0 m
  plain_spelled x h plain g m = sym (append-nil (spell_part (x.1 g m))) ∙ (ap (λ z. spell_part (x.1 g m) ++ indented_lines z) (sym (plain_left m x.0 plain)) ∙ h g m)

  agree : (xs : List (Expr × PartAt)) → AreSpelled xs → AreInner (firsts xs) → Agree xs (texts xs)
  agree [] h i = over
  agree (x ∷ xs) h i = more x.0 x.1 (text_in mode x.0) xs (texts xs) (plain_spelled x h.0 i.0) (agree xs h.1 i.1)

  some_texts : (xs : List (Expr × PartAt)) → is_empty (firsts xs) ≡ false → is_empty (texts xs) ≡ false
  some_texts [] h = h
  some_texts (x ∷ xs) h = refl

  inner_spelled : (f : Frame) (kind : Kind) (split open_break : Bool) (g : Bytes) (m : ℕ) (hs xs : List (Expr × PartAt)) (end : List Bytes) → is_compound f ≡ false → AreSpelled hs → AreSpelled xs → Facts f kind split open_break (firsts hs) (firsts xs) end →
      spelled (laid_in mode f kind split open_break g m hs xs end) ≡ g ++ written (laid_in mode f kind split open_break [] m (texts hs) (texts xs) end)
  inner_spelled row kind split open_break g m hs xs end i a b h = same_rowed kind open_break m g m hs (texts hs) (agree hs a h.inner) ∙ row_gap kind open_break g m m (texts hs) (some_texts hs h.full)
  inner_spelled (sequence opener closer) kind split open_break g m hs xs end i a b h =
      let c : Agree xs (texts xs) = agree xs b h.inner.1 in
      same_headed m g opener hs (texts hs) _ _ (agree hs a h.inner.0)
      (rw (same_values xs (texts xs) c, same_length xs (texts xs) c) (same_body (is_broken_in mode kind split (firsts (texts xs)) end) kind (item_margin mode kind m) (is_tuple kind && nat_eq (length (texts xs)) 1) m closer end xs (texts xs) c))
      ∙ headed_gap m g opener (texts hs) _
  inner_spelled compound kind split open_break g m hs xs end i a b h = absurd (true≢false i)

  -- ---- statements

  abbrev line_text : ℕ → Expr → Bytes
  line_text m x = statement_text m (x, text_in mode x)

  -- with its end
  abbrev with_end : ℕ → Bytes → Expr → Bytes → Bytes
  with_end m lines x end = lines ++ (replicate m space ++ (margin_lines m (comments_of x).before ++ (text_in mode x m ++ end)))

  -- one without a suite, in its line
  plain_line : (m : ℕ) (lines : Bytes) (x : Expr × PartAt) → IsSpelled x → has_suite x.0 ≡ false →
      spell_part (p.Node (record { kind = k.Line; parts = x.1 (gap_to_margin m lines (comments_of x.0).before) m ∷ newline_part (comments_of x.0).suffix ∷ [] })) ≡ lines ++ line_text m x.0
  plain_line m lines x h plain =
      let above : Bytes = margin_lines m (comments_of x.0).before in
      let end : Bytes = suffix_text (comments_of x.0).suffix ++ line_feed ∷ [] in
      spell_Node (record { kind = k.Line; parts = x.1 (gap_to_margin m lines (comments_of x.0).before) m ∷ newline_part (comments_of x.0).suffix ∷ [] })
      ∙ (ap (λ z. z ++ (end ++ [])) (plain_spelled x h plain (gap_to_margin m lines (comments_of x.0).before) m)
      ∙ (plain_grouped lines (replicate m space) above (text_in mode x.0 m) end ∙ ap (λ z. with_end m lines x.0 (if z then [] else end)) (sym plain)))

  line_spelled : (m : ℕ) (lines : Bytes) (x : Expr × PartAt) → IsSpelled x → IsStatement x.0 → spell_part (statement_part m lines x) ++ indented_lines (left_of m x.0) ≡ lines ++ line_text m x.0
  line_spelled m lines x h (inl suited) =
      let gap : Bytes = gap_to_margin m lines (comments_of x.0).before in
      let suffix : Option Bytes = (comments_of x.0).suffix in
      ap (λ z. spell_part (if z then x.1 gap m else p.Node (record { kind = k.Line; parts = x.1 gap m ∷ newline_part suffix ∷ [] })) ++ indented_lines (left_of m x.0)) suited
      ∙ (h gap m ∙ (suited_grouped lines (replicate m space) (margin_lines m (comments_of x.0).before) (text_in mode x.0 m) ∙ ap (λ z. with_end m lines x.0 (if z then [] else suffix_text suffix ++ line_feed ∷ [])) (sym suited)))
  line_spelled m lines x h (inr (plain, unbroken)) =
      let gap : Bytes = gap_to_margin m lines (comments_of x.0).before in
      let node : Node = record { kind = k.Line; parts = x.1 gap m ∷ newline_part (comments_of x.0).suffix ∷ [] } in
      two (λ z w. spell_part (if z then x.1 gap m else p.Node node) ++ indented_lines w) plain (plain_left m x.0 plain) ∙ (append-nil (spell_part (p.Node node)) ∙ plain_line m lines x h plain)

  statements_spelled : (m : ℕ) (cs : Indented) (xs : List (Expr × PartAt)) → AreSpelled xs → AreLinesOf IsStatement (firsts xs) →
      flat_map spell_part (statement_parts m (indented_lines cs) xs) ++ indented_lines (last_left m cs (firsts xs)) ≡ indented_lines cs ++ statements_text m (texts xs)
  statements_spelled m cs [] a h = sym (append-nil (indented_lines cs))
  statements_spelled m cs (x ∷ xs) a h =
      let own : Indented = left_of m x.0 in
      next_joined (spell_part (statement_part m (indented_lines cs) x)) (indented_lines own) (flat_map spell_part (statement_parts m (indented_lines own) xs)) (indented_lines (last_left m own (firsts xs))) (indented_lines cs) (line_text m x.0) (statements_text m (texts xs))
      (line_spelled m (indented_lines cs) x a.0 h.0) (statements_spelled m own xs a.1 h.3)

  alternatives_spelled : (m : ℕ) (kind : Kind) (cs : Indented) (xs : List (Expr × PartAt)) → AreBack mode xs → AreSpelled xs → AreLinesOf (IsAlternative kind) (firsts xs) →
      flat_map spell_part (alternative_parts m (indented_lines cs) xs) ++ indented_lines (last_left m cs (firsts xs)) ≡ indented_lines cs ++ statements_text m (texts xs)
  alternatives_spelled m kind cs [] b a h = sym (append-nil (indented_lines cs))
  alternatives_spelled m kind cs (x ∷ xs) b a h =
      let own : Indented = left_of m x.0 in
      let gap : Bytes = gap_to_margin m (indented_lines cs) (comments_of x.0).before in
      let suited : has_suite x.0 ≡ true = alternative_suited kind x.0 h.0 in
      let node = (b.0.suite suited).node gap m in
      let same : flat_map spell_part (parts_in (x.1 gap m)) ≡ spell_part (statement_part m (indented_lines cs) x) =
      spell_parts (x.1 gap m) node.0 node.1 ∙ ap (λ z. spell_part (if z then x.1 gap m else p.Node (record { kind = k.Line; parts = x.1 gap m ∷ newline_part (comments_of x.0).suffix ∷ [] }))) (sym suited) in
      ap (λ z. z ++ indented_lines (last_left m own (firsts xs))) (flat_map-append spell_part (parts_in (x.1 gap m)) (alternative_parts m (indented_lines own) xs))
      ∙ (ap (λ z. (z ++ flat_map spell_part (alternative_parts m (indented_lines own) xs)) ++ indented_lines (last_left m own (firsts xs))) same
      ∙ next_joined (spell_part (statement_part m (indented_lines cs) x)) (indented_lines own) (flat_map spell_part (alternative_parts m (indented_lines own) xs)) (indented_lines (last_left m own (firsts xs))) (indented_lines cs) (line_text m x.0) (statements_text m (texts xs))
      (line_spelled m (indented_lines cs) x a.0 (inl suited)) (alternatives_spelled m kind own xs b.1 a.1 h.3))

  -- ---- suites

  suite_spelled : (split open_break : Bool) (suffix : Option Bytes) (g : Bytes) (m : ℕ) (h : Expr × PartAt) (others xs : List (Expr × PartAt)) (end : List Bytes) → AreBack mode (h ∷ others) → AreSpelled (h ∷ others) → AreSpelled xs → IsSuite split open_break h.0 (firsts others) (firsts xs) end →
      spell_part (with_more_parts (h.1 g m) (mark_leaf colon ∷ suite_part m suffix xs ∷ alternative_parts m (indented_lines (own_left_of m xs end)) others)) ++ indented_lines (last_left m (own_left_of m xs end) (firsts others))
      ≡ g ++ suite_text suffix m (texts (h ∷ others)) (texts xs) end
  suite_spelled split open_break suffix g m h others xs end b a c f =
      let own : Indented = own_left_of m xs end in
      let newline : Bytes = suffix_text suffix ++ line_feed ∷ [] in
      let statements : List Part = statement_parts (m + 4) [] xs in
      let alternatives : List Part = alternative_parts m (indented_lines own) others in
      let left : Indented = last_left (m + 4) [] (firsts xs) in
      let header = b.0.head f.kind f.is_head g m in
      let front : spell_part (h.1 g m) ≡ g ++ text_in mode h.0 m = plain_spelled h a.0 (head_here f.kind h.0 f.is_head).0 g m in
      let suite : spell_part (suite_part m suffix xs) ≡ newline ++ flat_map spell_part statements = spell_Node (record { kind = k.Suite; parts = newline_part suffix ∷ statements }) in
      let all : Bytes = indented_lines (last_left m own (firsts others)) in
      ap (λ z. z ++ all) (spell_grown (h.1 g m) (record { kind = f.kind; parts = header.0 }) (mark_leaf colon ∷ suite_part m suffix xs ∷ alternatives) header.1)
      ∙ (two (λ z w. (z ++ (colon ∷ (w ++ flat_map spell_part alternatives))) ++ all) front suite
      ∙ suite_grouped g (text_in mode h.0 m) (suffix_text suffix) (flat_map spell_part statements) (indented_lines left) (statements_text (m + 4) (texts xs)) (indented_lines (at_margin (m + 4) end)) (flat_map spell_part alternatives) all (statements_text m (texts others))
      (statements_spelled (m + 4) [] xs c f.each) (alternatives_spelled m f.kind own others b.1 a.1 f.others_each ∙ ap (λ z. z ++ statements_text m (texts others)) (indented_joined left (at_margin (m + 4) end))))

  -- ---- forms

  form_spelled : (f : Frame) (kind : Kind) (split open_break : Bool) (suffix : Option Bytes) (g : Bytes) (m : ℕ) (ps xs : List (Expr × PartAt)) (end : List Bytes) → AreBack mode ps → AreSpelled ps → AreSpelled xs → Facts f kind split open_break (firsts ps) (firsts xs) end →
      spell_part (node_by_frame mode f kind split open_break suffix g m ps xs end) ++ indented_lines (left_by_frame f (others_left m (own_left_of m xs end) (firsts ps))) ≡ g ++ text_by_frame mode f kind split open_break suffix m (texts ps) (texts xs) end
  form_spelled row kind split open_break suffix g m ps xs end b a c h = append-nil _ ∙ (spell_Node (record { kind = kind; parts = map piece_part (laid_in mode row kind split open_break g m ps xs end) }) ∙ inner_spelled row kind split open_break g m ps xs end refl a c h)
  form_spelled (sequence o e) kind split open_break suffix g m ps xs end b a c h =
      append-nil _ ∙ (spell_Node (record { kind = kind; parts = map piece_part (laid_in mode (sequence o e) kind split open_break g m ps xs end) }) ∙ inner_spelled (sequence o e) kind split open_break g m ps xs end refl a c h)
  form_spelled compound kind split open_break suffix g m [] xs end b a c h = absurd h
  form_spelled compound kind split open_break suffix g m (y ∷ ys) xs end b a c h = suite_spelled split open_break suffix g m y ys xs end b a c h

  texts_row : (n : _) (r : Row_of-Expr n) → texts_in mode r ≡ texts (parts_of mode r)
  texts_row n end_of-Expr = refl
  texts_row n (more_of-Expr x rest) = ap (λ t. (x, text_in mode x) ∷ t) (texts_row _ rest)

  mutual
    pub spell_expr : (a : Expr) → Readable a → IsSpelled (a, part_of mode a)
    spell_expr (Token t) f g m = append-nil (g ++ t.text)
    spell_expr (Form' kind z parts z' items end split open_break comments) f g m =
        let ps : List (Expr × PartAt) = parts_of mode parts in
        let xs : List (Expr × PartAt) = parts_of mode items in
        ap (λ w. spell_part (part_of mode (Form' kind z parts z' items end split open_break comments) g m) ++ indented_lines w) (left_form mode m (frame kind) _ _ parts items end)
        ∙ (form_spelled (frame kind) kind split open_break comments.suffix g m ps xs end (row_read mode _ parts f.1) (row_spelled _ parts f.1) (row_spelled _ items f.2) (facts_of mode (frame kind) kind split open_break _ _ parts items end f.0)
        ∙ two (λ u w. g ++ text_by_frame mode (frame kind) kind split open_break comments.suffix m u w end) (sym (texts_row _ parts)) (sym (texts_row _ items)))

    row_spelled : (n : _) (r : Row_of-Expr n) → EachReadable r → AreSpelled (parts_of mode r)
    row_spelled n end_of-Expr f = tt
    row_spelled n (more_of-Expr x rest) f = (spell_expr x f.0, row_spelled _ rest f.1)

  -- ---- the file

  -- the layout after an item: the blank line, and the layout of the rest
  pub next_after : (x : Item) (ys : List Item) → before_next_in mode x ys ++ layout_in mode ys ≡ past_item mode x ys
  next_after x [] = refl
  next_after x (y ∷ ys) = refl

  pub spell_line : (gap : Bytes) (x : Expr) → has_suite x ≡ false → Readable x → spell_part (line_part mode gap x) ≡ gap ++ item_text_in mode (i.Stmt x)
  spell_line gap x plain f = plain_line 0 gap (x, part_of mode x) (spell_expr x f) plain

  items_spelled : (xs : List Item) → AllByRecursion IsProperItem xs → (gap : Bytes) → flat_map spell_part (lines_from_in mode gap xs) ≡ gap ++ layout_in mode xs
  items_spelled [] h gap = append-nil (gap ++ [])
  items_spelled (i.Block own ∷ xs) h gap =
      let lines : Bytes = comment_lines own in
      let next : Bytes = before_next_in mode (i.Block own) xs in
      items_spelled xs h.1 ((gap ++ lines) ++ next)
      ∙ (append_assoc (gap ++ lines) next (layout_in mode xs) ∙ (ap (λ t. (gap ++ lines) ++ t) (next_after (i.Block own) xs) ∙ append_assoc gap lines (past_item mode (i.Block own) xs)))
  items_spelled (i.Stmt x ∷ xs) h gap =
      let next : Bytes = before_next_in mode (i.Stmt x) xs in
      let left : Bytes = indented_lines (left_of 0 x) in
      sym (append-nil _)
      ∙ next_joined (spell_part (statement_part 0 gap (x, part_of mode x))) left (flat_map spell_part (lines_from_in mode (left ++ next) xs)) [] gap (item_text_in mode (i.Stmt x)) (past_item mode (i.Stmt x) xs)
      (line_spelled 0 gap (x, part_of mode x) (spell_expr x (readable Begins x h.0.1)) (line_statement x h.0.0))
      (append-nil _ ∙ (items_spelled xs h.1 (left ++ next) ∙ (append_assoc left next (layout_in mode xs) ∙ ap (λ t. left ++ t) (next_after (i.Stmt x) xs))))

  -- the tree of the layout of a proper value spells its text
  pub laid_out_spelled : (items : List Item) → IsProper items → spell_node (laid_out_in mode items) ≡ layout_in mode items
  laid_out_spelled items h = items_spelled items (recursion_from_All IsProperItem items h) []
