-- Headers as they are laid out: a form whose parts are in lines. Its parts and a colon, and then a suite, are parts of a statement.
use Rattle.bz_layout.proofs.Words.{[], ◌++◌, ◌∙◌, ◌∷◌, ◌≡◌, ◌⊎◌, ℕ, after_node, all_mapped, AllByRecursion, Along, and_parts, ap, append_assoc, AreInner, arith, as_bzl, At, AtParts, Begins, Bool, Bytes, bytes_eq-Decides, bzl_shape, codes, deepest, end_of-Expr, every, every_part, Expr, false, first_token_text, Fits, flat_map, Form', frame, framed_inner, has_header_kind, header_word, if◌then◌else◌, indent, inl, inner_nonterminal, inner_tokens, inr, is_binary, is_compound, is_header, is_inner, is_inner_frame, is_kind, IsNonterminal, items-the_row-Expr, join, Kind, Kind as k, laid, leaves_part, LegalBy, LegalPart, line_shape, Lines, List, Listed, map, more_of-Expr, narrow_head, narrow_items, narrow_row, no_more, no_such, Node', None, Nonterminal, nonterminal_has_kind, nonterminal_inner, once_more, one_keyword, or_cases, Owned, owned_shape, Part, part_of, parts_of, piece_part, plain_tokens, ProperBy, ProperRowBy, refl, roots, row_in, Row_of-Expr, rowed, Several, Shape, Spot, spot_after, Terminal, Times, Token, token_inner, true, whole_shape}
use Rattle.bz_grammar.specs.declared.tree.Part.TheVariants as p
use Rattle.bz_grammar.specs.Shapes as s
use Rattle.bz_hosts.proofs.HeadParts.{followed, def_along, plain_along}
use Rattle.bz_layout.proofs.{Fitted.root_same, Held.parts_hold, LegalParts.Begin, LegalParts.AreFormParts, LegalParts.form_good, Made.laid_plain, Made.line_plain, Margins.FitsAt, Neighbours.passes, Neighbours.neighbours, Neighbours.finals, Spots.InFrame, Standing.Placed, Standing.form_stands, Touching.IsLex, Touching.Toks, Touching.row_tokens}

-- ---- one shape after another

module _ (a : Nonterminal) (K K' : List Part → Type 0) (ys : List Part) (goes : (xs : List Part) → K xs → K' (xs ++ ys)) where
  after_all : (ts : List Terminal) (last : Bool) (us : List Part) → K' us → s.After (IsNonterminal a) ts last K' us
  after_all ts last [] h = h
  after_all ts last (u ∷ us) h = inl h

  several_all : (us : List Part) → K' us → Several (IsNonterminal a) K' us
  several_all [] h = h
  several_all (u ∷ us) h = inl h

  mutual
    listed_goes : (ts : List Terminal) (last : Bool) (xs : List Part) → Listed (IsNonterminal a) ts last K xs → Listed (IsNonterminal a) ts last K' (xs ++ ys)
    listed_goes ts last [] h = absurd h
    listed_goes ts last (x ∷ xs) h = (h.0, after_goes ts last xs h.1)

    after_goes : (ts : List Terminal) (last : Bool) (xs : List Part) → s.After (IsNonterminal a) ts last K xs → s.After (IsNonterminal a) ts last K' (xs ++ ys)
    after_goes ts last [] h = after_all ts last ys (goes [] h)
    after_goes ts last (x ∷ xs) (inl h) = inl (goes (x ∷ xs) h)
    after_goes ts last (x ∷ xs) (inr (m, inl h)) = inr (m, inl (listed_goes ts last xs h))
    after_goes ts last (x ∷ xs) (inr (m, inr (l, h))) = inr (m, inr (l, goes xs h))

  several_goes : (xs : List Part) → Several (IsNonterminal a) K xs → Several (IsNonterminal a) K' (xs ++ ys)
  several_goes [] h = several_all ys (goes [] h)
  several_goes (x ∷ xs) (inl h) = inl (goes (x ∷ xs) h)
  several_goes (x ∷ xs) (inr h) = inr (h.0, several_goes xs h.1)

times_goes : (F K K' : List Part → Type 0) (ys : List Part) → ((xs : List Part) → K xs → K' (xs ++ ys)) → (xs : List Part) → Times F K xs → Times F K' (xs ++ ys)
times_goes F K K' ys goes xs (no_more h) = no_more (goes xs h)
times_goes F K K' ys goes xs (once_more front back is h t) = once_more front (back ++ ys) (ap (λ z. z ++ ys) is ∙ append_assoc front back ys) h (times_goes F K K' ys goes back t)

-- parts of one shape, and after them those of another
fits_followed : (shape r : Shape) (xs ys : List Part) → Fits IsNonterminal shape xs → Fits IsNonterminal r ys → Fits IsNonterminal (followed shape r) (xs ++ ys)
fits_followed s.none r xs ys h i = absurd h
fits_followed s.done r [] ys h i = i
fits_followed s.done r (x ∷ xs) ys h i = absurd h
fits_followed (s.tok ts shape) r [] ys h i = absurd h
fits_followed (s.tok ts shape) r (x ∷ xs) ys h i = (h.0, fits_followed shape r xs ys h.1 i)
fits_followed (s.sub a shape) r [] ys h i = absurd h
fits_followed (s.sub a shape) r (x ∷ xs) ys h i = (h.0, fits_followed shape r xs ys h.1 i)
fits_followed (s.alt left right) r xs ys (inl h) i = inl (fits_followed left r xs ys h i)
fits_followed (s.alt left right) r xs ys (inr h) i = inr (fits_followed right r xs ys h i)
fits_followed (s.list a ts last shape) r xs ys h i = listed_goes a (Fits IsNonterminal shape) (Fits IsNonterminal (followed shape r)) ys (λ us g. fits_followed shape r us ys g i) ts last xs h
fits_followed (s.each a shape) r xs ys h i = several_goes a (Fits IsNonterminal shape) (Fits IsNonterminal (followed shape r)) ys (λ us g. fits_followed shape r us ys g i) xs h
fits_followed (s.times group shape) r xs ys h i = times_goes (Fits IsNonterminal group) (Fits IsNonterminal shape) (Fits IsNonterminal (followed shape r)) ys (λ us g. fits_followed shape r us ys g i) xs h

-- ---- its sort

-- the parts of a statement of a kind
abbrev pub OfKind : Kind → List Part → Type 0
OfKind kind ps = Fits IsNonterminal (bzl_shape kind) ps × (nonterminal_has_kind s.stmt kind ≡ true) × (after_node kind Begins ≡ Begins)

abbrev pub elif_shape : Shape
elif_shape = s.tok (one_keyword (codes "elif")) (s.sub s.test s.owned)

abbrev pub else_shape : Shape
else_shape = s.tok (one_keyword (codes "else")) s.owned

-- a colon, a suite, and alternatives
abbrev with_branches : Shape
with_branches = s.tok s.colon_mark (s.sub s.suite s.branches)

-- Before a colon and a suite: the header of a function or a loop; or, by its word, of a branch.
abbrev pub HasSort : Bytes → Kind → List Part → Type 0
HasSort word kind ps =
    ((word ≡ []) × ((rest : List Part) → Fits IsNonterminal s.owned rest → OfKind kind (ps ++ rest)))
    ⊎ (((word ≡ codes "if") × ((rest : List Part) → Fits IsNonterminal with_branches rest → OfKind kind (ps ++ rest)))
    ⊎ (((word ≡ codes "elif") × ((rest : List Part) → Fits IsNonterminal s.owned rest → Fits IsNonterminal elif_shape (ps ++ rest)))
    ⊎ ((word ≡ codes "else") × ((rest : List Part) → Fits IsNonterminal s.owned rest → Fits IsNonterminal else_shape (ps ++ rest)))))

-- ---- what its shape says of each of its parts

record IsHeaderKind (kind : Kind) : Type 0 where
  inner : every inner_tokens inner_nonterminal (whole_shape kind) ≡ true
  touches : passes (neighbours kind) (finals kind) None (whole_shape kind) ≡ true
  plain : is_compound (frame kind) ≡ false
  framed : is_inner_frame (frame kind) ≡ true

header_kind : (kind : Kind) → is_header kind ≡ true → IsHeaderKind kind
header_kind k.Def e = record { inner = refl; touches = refl; plain = refl; framed = refl }
header_kind k.IfStmt e = record { inner = refl; touches = refl; plain = refl; framed = refl }
header_kind k.ForStmt e = record { inner = refl; touches = refl; plain = refl; framed = refl }
header_kind _ e = no_such e

-- ---- a word, and what is after it

-- After a word come no elif, no else and no suite, and the line goes on after these parts.
record HasWord (xs : List Part) : Type 0 where
  word : Bytes
  rest : Shape
  fits : Fits IsNonterminal (s.tok (one_keyword word) rest) xs
  plain : (i : List ℕ) (d : ℕ) (ps : List Part) → Fits (At d) rest ps → AllByRecursion (Owned i) ps
  along : spot_after Begins Begins xs ≡ Along

with_word : (word : Bytes) (rest : Shape) → every plain_tokens inner_nonterminal (s.tok (one_keyword word) rest) ≡ true → ((i : List ℕ) (d : ℕ) (ps : List Part) → Fits (At d) rest ps → AllByRecursion (Owned i) ps) →
    (xs : List Part) → Fits IsNonterminal (s.tok (one_keyword word) rest) xs → HasWord xs
with_word word rest e plain xs h = record { word = word; rest = rest; fits = h; plain = plain; along = plain_along (one_keyword word) rest e xs h }

header_has_word : (kind : Kind) → is_header kind ≡ true → (xs : List Part) → Fits IsNonterminal (whole_shape kind) xs → HasWord xs
header_has_word k.Def e xs h =
    let rest : Shape = s.tok s.name (s.tok s.open_round (s.enclosed s.param s.close_round s.done)) in
    record { word = codes "def"; rest = rest; fits = h; plain = λ i d ps g. owned_shape i d rest refl ps g; along = def_along xs h }
header_has_word k.ForStmt e xs h =
    let rest : Shape = s.list s.primary s.comma_mark false (s.tok (one_keyword (codes "in")) (s.sub s.expr s.done)) in with_word (codes "for") rest refl (λ i d ps g. owned_shape i d rest refl ps g) xs h
header_has_word k.IfStmt e xs h =
    let test : Shape = s.sub s.test s.done in
    elim h [
      | inl f ↦ with_word (codes "if") test refl (λ i d ps g. owned_shape i d test refl ps g) xs f
      | inr (inl f) ↦ with_word (codes "elif") test refl (λ i d ps g. owned_shape i d test refl ps g) xs f
      | inr (inr f) ↦ with_word (codes "else") s.done refl (λ i d ps g. owned_shape i d s.done refl ps g) xs f
    ]
header_has_word _ e xs h = no_such e

-- only the word may be an elif or an else
header_owned : (i gap : Bytes) (xs : List Part) (w : HasWord xs) → AllByRecursion LegalPart xs → Begin gap (flat_map leaves_part xs) → indent gap ≡ i → AllByRecursion (Owned i) xs
header_owned i gap [] w l b e = absurd w.fits
header_owned i gap (Node' kind z row ∷ xs) w l b e = no_such w.fits.0
header_owned i gap (p.Leaf leaf ∷ xs) w l b e =
    let same : leaf ≡ b.0 = let both : leaf ∷ flat_map leaves_part xs ≡ b.0 ∷ b.1 = b.2 in cc in
    ((λ a. ap (λ z. indent z.gap) same ∙ (ap indent b.3 ∙ e)), w.plain i (deepest xs) xs (join (deepest xs) w.rest xs w.fits.1 l.1 (omega arith)))

-- ---- a proper header

-- What is laid out of a header after a gap.
pub record IsHeader (gap : Bytes) (ps : List Part) : Type 0 where
  pub legal : AllByRecursion LegalPart ps
  pub begins : Begin gap (flat_map leaves_part ps)
  pub owned : (i : Bytes) → indent gap ≡ i → AllByRecursion (Owned i) ps
  pub there : AtParts Placed Begins Begins ps
  pub following : spot_after Begins Begins ps ≡ Along
  pub tokens_then : (rest : Bytes) → Toks (flat_map leaves_part ps) (58 ∷ rest)

header_known : (kind : Kind) → is_header kind ≡ true → (gap : Bytes) (ps : List Part) → AreFormParts kind gap ps → AtParts Placed Begins Begins ps → IsHeader gap ps
header_known kind e gap ps h there =
    let legal : AllByRecursion LegalPart ps = all_mapped (LegalBy line_shape) LegalPart (λ x. as_bzl x) ps h.legal in
    let w : HasWord ps = header_has_word kind e ps h.fits in
    record {
      legal = legal;
      begins = h.begins;
      owned = λ i j. header_owned i gap ps w legal h.begins j;
      there = there;
      following = w.along;
      tokens_then = λ rest. row_tokens kind (whole_shape kind) (header_kind kind e).touches ps h.fits h.between h.legal (parts_hold Placed IsLex (λ here l q. q.lexeme) Begins Begins ps there) h.airy (58 ∷ rest) (inl refl);
    }

module _ (mode : Lines) where
  -- ---- its sort

  -- a row that begins with a word
  word_is : (word : Bytes) (rest : Shape) (binary : Bool) (outer here : Spot) (kind : Kind) (open_break : Bool) (a n : ℕ) (gap : Bytes) (m : _) (r : Row_of-Expr m) → ProperRowBy line_shape binary outer here r →
      Fits IsNonterminal (s.tok (one_keyword word) rest) (map piece_part (rowed kind open_break a gap n (parts_of mode r))) → first_token_text (items-the_row-Expr m r) ≡ word
  word_is word rest binary outer here kind open_break a n gap m end_of-Expr i h = absurd h
  word_is word rest binary outer here kind open_break a n gap m (more_of-Expr (Token t) xs) i h =
      elim (or_cases _ false h.0) [ inl e ↦ (bytes_eq-Decides t.text word).0 (and_parts _ _ e).1 | inr e ↦ no_such e ]
  word_is word rest binary outer here kind open_break a n gap m (more_of-Expr (Form' kind' z parts z' items end split open_break' comments) xs) i h =
      let x : Expr = Form' kind' z parts z' items end split open_break' comments in no_such ((root_same mode x (line_plain here x i.0) gap n).token (one_keyword word) ∙ h.0)

  module _ (m n : _) (parts : Row_of-Expr m) (items : Row_of-Expr n) (end : List Bytes) (split open_break : Bool) (gap : Bytes) (a : ℕ) where
    abbrev laid_parts : Kind → List Part
    laid_parts kind = map piece_part (laid mode kind split open_break gap a (parts_of mode parts) (parts_of mode items) end)

    sort_is : (kind : Kind) → is_header kind ≡ true → InFrame line_shape (frame kind) kind Begins parts items end split open_break → Fits IsNonterminal (whole_shape kind) (laid_parts kind) →
        HasSort (if is_kind kind k.IfStmt then first_token_text (items-the_row-Expr m parts) else []) kind (laid_parts kind)
    sort_is k.Def e i h = inl (refl, λ rest g. (fits_followed (whole_shape k.Def) s.owned (laid_parts k.Def) rest h g, refl, refl))
    sort_is k.ForStmt e i h = inl (refl, λ rest g. (fits_followed (whole_shape k.ForStmt) s.owned (laid_parts k.ForStmt) rest h g, refl, refl))
    sort_is k.IfStmt e i h =
        let word : (word : Bytes) (rest : Shape) → Fits IsNonterminal (s.tok (one_keyword word) rest) (laid_parts k.IfStmt) → first_token_text (items-the_row-Expr m parts) ≡ word =
        λ word rest f. word_is word rest false Begins Begins k.IfStmt open_break a a gap m parts i.0 f in
        elim h [
          | inl f ↦ inr (inl (word (codes "if") (s.sub s.test s.done) f, λ rest g. (fits_followed (s.tok (one_keyword (codes "if")) (s.sub s.test s.done)) with_branches (laid_parts k.IfStmt) rest f g, refl, refl)))
          | inr (inl f) ↦ inr (inr (inl (word (codes "elif") (s.sub s.test s.done) f, λ rest g. fits_followed (s.tok (one_keyword (codes "elif")) (s.sub s.test s.done)) s.owned (laid_parts k.IfStmt) rest f g)))
          | inr (inr f) ↦ inr (inr (inr (word (codes "else") s.done f, λ rest g. fits_followed (s.tok (one_keyword (codes "else")) s.done) s.owned (laid_parts k.IfStmt) rest f g)))
        ]
    sort_is _ e i h = no_such e

  -- ---- a proper header

  pub record IsHeaded (x : Expr) : Type 0 where
    pub kind : Kind
    pub parts : Bytes → ℕ → List Part
    pub laid : (gap : Bytes) (m : ℕ) → part_of mode x gap m ≡ p.Node (record { kind = kind; parts = parts gap m })
    pub sort : (gap : Bytes) (m : ℕ) → HasSort (header_word x) kind (parts gap m)
    pub known : (gap : Bytes) (m : ℕ) → FitsAt Begins gap → IsHeader gap (parts gap m)

  pub header_is : (x : Expr) → has_header_kind x ≡ true → ProperBy whole_shape Begins x → IsHeaded x
  header_is (Token t) e h = no_such e
  header_is (Form' kind z parts z' items end split open_break comments) e h =
      let own : IsHeaderKind kind = header_kind kind e in
      let inner : AreInner (row_in (frame kind) (roots parts) (roots items)) = every_part (λ x. is_inner x ≡ true) inner_tokens inner_nonterminal token_inner nonterminal_inner (whole_shape kind) own.inner _ h.0 in
      let inside : InFrame line_shape (frame kind) kind Begins parts items end split open_break =
      framed_inner (frame kind) (roots parts) (roots items) _ _ _ _ _ _ own.framed inner
      (λ v g. (narrow_row (is_binary kind) Begins Begins _ parts v g.0, g.1, g.2, g.3, g.4))
      (λ v w g. (narrow_head Begins _ parts v g.0, narrow_items _ items w g.1, g.2, g.3))
      h.1 in
      let good = form_good mode Begins kind _ _ parts items end split open_break own.plain h.0 inside in
      record {
        kind = kind;
        parts = λ gap m. map piece_part (laid mode kind split open_break gap m (parts_of mode parts) (parts_of mode items) end);
        laid = λ gap m. ap (λ f. f gap m) (laid_plain mode (Form' kind z parts z' items end split open_break comments) own.plain);
        sort = λ gap m. sort_is _ _ parts items end split open_break gap m kind e inside (good gap m).fits;
        known = λ gap m g. header_known kind e gap _ (good gap m) (form_stands mode Begins kind _ _ parts items end split open_break own.plain h.0 inside gap m g);
      }
