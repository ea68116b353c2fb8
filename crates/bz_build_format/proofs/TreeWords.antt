-- The tokens of a legal tree, in their order, are those of its program, but for separators; so each is there as often.
use Rattle.bz_build_format.proofs.Words.{[], ◌&&◌, ◌++◌, ◌+◌, ◌<◌, ◌∙◌, ◌∷◌, ◌≡◌, ◌≤◌, ◌⊎◌, AllByRecursion, and_parts, ap, append-nil, append_assoc, arith, bare_form, before_marks, Bool, both, Bytes, bytes_eq, bytes_eq-Decides, bzl_shape, BzlFixedPoint, cases_Bool, Class, compound, cond-false, cond-true, done, drop, end_of-Part, Expr, false, Fits, FixedPoint, flat_map, flat_map-append, Form, FormattingKeepsTokens, FormattingKeepsWords, Frame, frame, has_token, headers_in, if◌then◌else◌, inl, inr, is_bzl_separator, is_class, is_inner_frame, is_mark_between, is_one_of, IsBuild, IsBuildPart, IsBuildRow, IsNonterminal, items_after, items_are, Kind, Kind as k, lead, Leaf, leaf_times, leaf_words, leaves_of, leaves_part, leaves_row, Legal, LegalBuild, LegalPart, LegalRow, length, length-append, line_shape, line_statements, List, map, marks_between, more_of-Part, Node, Node', node_statements, node_syntax, Nonterminal, nonterminal_has_kind, not, one_if_token, or_left, or_right, parsed, parsed_row, Part, Part as p, part_syntax, parts_after, parts_are, put_header, refl, row, Row_of-Part, row_syntax, row_token_sum, sequence, Several, Shape, stated, statements_in, subst, suc, suite_statements, suite_syntax, suites_in, sym, take, Terminal, tok, token_sum, token_times, total, tree_program, tree_words, TreeProgramsKeepTokens, true, true≢false, zero, ℕ}
use Rattle.bz_grammar.specs.{declared.tree.Part.items-the_row-Part, Kinds.kind_number}
use Rattle.bz_grammar.specs.Shapes as s
use Rattle.bz_grammar.proofs.Balance.{inner_nonterminal, leaves_rows, no_such, same_class}
use Rattle.bz_grammar.proofs.Terminals.{subset, subset-one_of}
use Rattle.bz_value.specs.declared.value.Expr.{Token, Form', Row_of-Expr, end_of-Expr, more_of-Expr, items-the_row-Expr}
use Rattle.bz_value.specs.declared.value.Expr.TheVariants as e
use Rattle.bz_value.proofs.LegalBy.{LegalBy, LegalRowBy}
use Rattle.bz_hosts.proofs.InnerParts.{InLine, in_line, inner_legal, line_framed, nonterminal_inner}
use Rattle.bz_hosts.proofs.QuietGaps.{in_statements}
use Rattle.bz_hosts.proofs.Colons.{NoColon, no_colons, nonterminal_plain, token_plain}
use Rattle.bz_build_format.proofs.ShapeWalks.{leads, led}

-- ---- where separators are

-- What comes next in a row: any part that stays; an item or a closing mark; a mark between items; nothing; an opening mark after this many
-- parts. No row leads astray.
data Turn : Type 0 where
  anywhere at_item at_mark closed astray : Turn
  opening_after : ℕ → Turn

-- after a mark between parts, or after another part
abbrev turned : Turn → Bool → Turn
turned anywhere b = anywhere
turned at_item true = closed
turned at_item false = at_mark
turned at_mark true = at_item
turned (opening_after zero) true = at_item
turned (opening_after (suc n)) b = opening_after n
turned _ b = astray

abbrev may_end : Turn → Bool
may_end anywhere = true
may_end at_item = true
may_end closed = true
may_end _ = false

abbrev is_turn : Turn → Turn → Bool
is_turn anywhere anywhere = true
is_turn at_item at_item = true
is_turn _ _ = false

same_turn : (a b : Turn) → is_turn a b ≡ true → a ≡ b
same_turn anywhere anywhere h = refl
same_turn at_item at_item h = refl
same_turn _ _ h = no_such h

abbrev on_token : Turn → List Terminal → Turn
on_token t ts = turned t (subset ts marks_between)

abbrev on_sort : Turn → Nonterminal → Turn
on_sort t q = turned t false

abbrev first_turn : Frame → Kind → Turn
first_turn (sequence opener closer) kind = opening_after (lead kind)
first_turn _ kind = anywhere

kind_leads : (kind : Kind) → leads on_token on_sort is_turn may_end (line_shape kind) (first_turn (frame kind) kind) ≡ true
kind_leads k.Call = refl
kind_leads _ = refl

-- where a part is: a header begins or nothing more is there; in a header; after its colon
data Spot : Type 0 where
  begins owner nowhere : Spot
  header : Turn → Spot

-- after a token of a header: no colon, or a colon, where the header may end
abbrev in_header : Bool → Bool → Bool → Turn → Spot
in_header true colon end t = header t
in_header false true true t = owner
in_header false _ _ t = nowhere

abbrev spot_after : Turn → Spot → List Terminal → Spot
spot_after start begins ts = in_header (no_colons ts) (subset ts s.colon_mark) (may_end start) (on_token start ts)
spot_after start (header t) ts = in_header (no_colons ts) (subset ts s.colon_mark) (may_end t) (on_token t ts)
spot_after start _ ts = nowhere

-- only what may be inside a line is in a header
abbrev past_sort : Bool → Turn → Spot
past_sort true t = header t
past_sort false t = nowhere

abbrev spot_past : Turn → Spot → Nonterminal → Spot
spot_past start begins q = past_sort (inner_nonterminal q) (on_sort start q)
spot_past start (header t) q = past_sort (inner_nonterminal q) (on_sort t q)
spot_past start owner s.suite = begins
spot_past start _ q = nowhere

abbrev is_spot : Spot → Spot → Bool
is_spot begins begins = true
is_spot (header t) (header u) = is_turn t u
is_spot _ _ = false

same_spot : (a b : Spot) → is_spot a b ≡ true → a ≡ b
same_spot begins begins h = refl
same_spot (header t) (header u) h = ap header (same_turn t u h)
same_spot _ _ h = no_such h

token_within : (ts : List Terminal) (x : Part) → subset ts s.colon_mark ≡ true → has_token ts x ≡ true → has_token s.colon_mark x ≡ true
token_within ts (p.Leaf l) e h = subset-one_of l ts s.colon_mark e h
token_within ts (Node' kind m r) e h = no_such h

syntax_map : (m : _) (r : Row_of-Part m) → row_syntax r ≡ map part_syntax (items-the_row-Part m r)
syntax_map m end_of-Part = refl
syntax_map m (more_of-Part x rest) = ap (λ z. part_syntax x ∷ z) (syntax_map _ rest)

-- ---- words

abbrev Words : Type 0
Words = List (Class × Bytes)

module _ (silent : Class → Bytes → Bool) (quiet : (l : Leaf) → is_one_of marks_between l ≡ true → silent l.class l.token ≡ true) where
  -- of a suite, its header is before its statements, and its alternatives are after them
  abbrev in_order : Frame → Words → Words → Words → Words → Words
  in_order compound parts first others items = first ++ (items ++ others)
  in_order _ parts first others items = parts ++ items

  abbrev mutual
    expr_words : Expr → Words
    expr_words (Token t) = if silent t.class t.text then [] else ((t.class, t.text) ∷ [])
    expr_words (Form' kind n parts m items end split open_break comments) = in_order (frame kind) (row_words parts) (first_words parts) (others_words parts) (row_words items)

    row_words : {m : _} → Row_of-Expr m → Words
    row_words end_of-Expr = []
    row_words (more_of-Expr x rest) = expr_words x ++ row_words rest

    first_words : {m : _} → Row_of-Expr m → Words
    first_words end_of-Expr = []
    first_words (more_of-Expr x rest) = expr_words x

    others_words : {m : _} → Row_of-Expr m → Words
    others_words end_of-Expr = []
    others_words (more_of-Expr x rest) = row_words rest

  abbrev all_words : List Expr → Words
  all_words xs = flat_map expr_words xs

  row_all : (m : _) (r : Row_of-Expr m) → row_words r ≡ all_words (items-the_row-Expr m r)
  row_all m end_of-Expr = refl
  row_all m (more_of-Expr x rest) = ap (λ ws. expr_words x ++ ws) (row_all _ rest)

  inner_order : (f : Frame) (parts first others items : Words) → is_inner_frame f ≡ true → in_order f parts first others items ≡ parts ++ items
  inner_order row parts first others items q = refl
  inner_order (sequence opener closer) parts first others items q = refl
  inner_order compound parts first others items q = no_such q

  form_words : (f : Form) → is_inner_frame (frame f.kind) ≡ true → expr_words (e.Form f) ≡ all_words f.parts ++ all_words f.seq.items
  form_words f q =
      inner_order (frame f.kind) _ _ _ _ q
      ∙ both (λ us vs. us ++ vs)
      (row_all _ (parts_after (e.Form f)).1 ∙ ap all_words (parts_are f))
      (row_all _ (items_after (e.Form f)).1 ∙ ap all_words (items_are f))

  abbrev first_all : List Expr → Words
  first_all [] = []
  first_all (x ∷ xs) = expr_words x

  abbrev others_all : List Expr → Words
  others_all [] = []
  others_all (x ∷ xs) = all_words xs

  first_row : (m : _) (r : Row_of-Expr m) → first_words r ≡ first_all (items-the_row-Expr m r)
  first_row m end_of-Expr = refl
  first_row m (more_of-Expr x rest) = refl

  others_row : (m : _) (r : Row_of-Expr m) → others_words r ≡ others_all (items-the_row-Expr m r)
  others_row m end_of-Expr = refl
  others_row m (more_of-Expr x rest) = row_all _ rest

  suite_words : (kind : Kind) (ps own others : List Expr) → expr_words (suite_syntax kind ps own others) ≡ expr_words (node_syntax (frame kind) kind ps) ++ (all_words own ++ all_words others)
  suite_words kind ps own others =
      let f : Form = bare_form k.Suite (node_syntax (frame kind) kind ps ∷ others) own in
      both (λ us vs. us ++ vs)
      (first_row _ (parts_after (e.Form f)).1 ∙ ap first_all (parts_are f))
      (both (λ us vs. us ++ vs) (row_all _ (items_after (e.Form f)).1 ∙ ap all_words (items_are f)) (others_row _ (parts_after (e.Form f)).1 ∙ ap others_all (parts_are f)))

  abbrev part_words : Part → Words
  part_words x = flat_map (leaf_words silent) (leaves_part x)

  abbrev parts_words : List Part → Words
  parts_words xs = flat_map part_words xs

  parts_leaves : (xs : List Part) → flat_map (leaf_words silent) (flat_map leaves_part xs) ≡ parts_words xs
  parts_leaves [] = refl
  parts_leaves (x ∷ xs) = flat_map-append (leaf_words silent) (leaves_part x) (flat_map leaves_part xs) ∙ ap (λ ws. part_words x ++ ws) (parts_leaves xs)

  row_leaves : (m : _) (r : Row_of-Part m) → flat_map (leaf_words silent) (leaves_row r) ≡ parts_words (items-the_row-Part m r)
  row_leaves m r = ap (flat_map (leaf_words silent)) (leaves_rows m r) ∙ parts_leaves (items-the_row-Part m r)

  -- a token of these, which are silent
  no_words : (ts : List Terminal) (x : Part) → ((l : Leaf) → is_one_of ts l ≡ true → silent l.class l.token ≡ true) → has_token ts x ≡ true → part_words x ≡ []
  no_words ts (p.Leaf l) q h = ap (λ ws. ws ++ []) (cond-true (silent l.class l.token) [] ((l.class, l.token) ∷ []) (q l h))
  no_words ts (Node' kind m r) q h = no_such h

  quiet_part : (ts : List Terminal) (x : Part) → subset ts marks_between ≡ true → has_token ts x ≡ true → part_words x ≡ []
  quiet_part ts x e h = no_words ts x (λ l m. quiet l (subset-one_of l ts marks_between e m)) h

  -- nothing in front
  nothing_before : (us vs : Words) → us ≡ [] → us ++ vs ≡ vs
  nothing_before us vs h = ap (λ ws. ws ++ vs) h

  abbrev Kept : Part → Type 0
  Kept x = expr_words (part_syntax x) ≡ part_words x

  -- what is left of a row says these words
  abbrev Left : Turn → List Expr → Words → Type 0
  Left anywhere xs ws = all_words xs ≡ ws
  Left at_item xs ws = all_words (before_marks xs) ≡ ws
  Left at_mark xs ws = (x : Expr) → all_words (before_marks (x ∷ xs)) ≡ expr_words x ++ ws
  Left closed xs ws = (xs ≡ []) × (ws ≡ [])
  Left astray xs ws = ⊥
  Left (opening_after n) xs ws = all_words (take n xs) ++ all_words (before_marks (drop (suc n) xs)) ≡ ws

  one_more : (t : Turn) (b : Bool) (x : Part) (xs : List Expr) (ws : Words) → (b ≡ true → part_words x ≡ []) → Kept x → Left (turned t b) xs ws → Left t (part_syntax x ∷ xs) (part_words x ++ ws)
  one_more anywhere b x xs ws q g h = both (λ us vs. us ++ vs) g h
  one_more at_item true x xs ws q g h = ap (λ zs. all_words (before_marks (part_syntax x ∷ zs))) h.0 ∙ sym (both (λ us vs. us ++ vs) (q refl) h.1)
  one_more at_item false x xs ws q g h = h (part_syntax x) ∙ ap (λ us. us ++ ws) g
  one_more at_mark true x xs ws q g h = λ y. ap (λ vs. expr_words y ++ vs) (h ∙ sym (nothing_before (part_words x) ws (q refl)))
  one_more at_mark false x xs ws q g h = absurd h
  one_more closed b x xs ws q g h = absurd h
  one_more astray b x xs ws q g h = absurd h
  one_more (opening_after zero) true x xs ws q g h = h ∙ sym (nothing_before (part_words x) ws (q refl))
  one_more (opening_after zero) false x xs ws q g h = absurd h
  one_more (opening_after (suc n)) b x xs ws q g h = append_assoc (expr_words (part_syntax x)) _ _ ∙ both (λ us vs. us ++ vs) g h

  none_left : (t : Turn) → may_end t ≡ true → Left t [] []
  none_left anywhere h = refl
  none_left at_item h = refl
  none_left closed h = (refl, refl)
  none_left _ h = no_such h

  row_left : (r : Shape) (t : Turn) → leads on_token on_sort is_turn may_end r t ≡ true → (xs : List Part) → AllByRecursion Kept xs → Fits IsNonterminal r xs → Left t (map part_syntax xs) (parts_words xs)
  row_left r t w xs g h =
      led on_token on_sort is_turn same_turn Kept (λ u ys. Left u (map part_syntax ys) (parts_words ys))
      (λ u ts y ys m known. one_more u (subset ts marks_between) y (map part_syntax ys) (parts_words ys) (λ b. quiet_part ts y b m) known)
      (λ u q y ys i known. one_more u false y (map part_syntax ys) (parts_words ys) no_such known)
      r may_end t w none_left xs g h

  node_kept : (f : Frame) (kind : Kind) → is_inner_frame (frame kind) ≡ true → (xs : List Expr) (ws : Words) → Left (first_turn f kind) xs ws → expr_words (node_syntax f kind xs) ≡ ws
  node_kept (sequence opener closer) kind q xs ws h = form_words (bare_form kind (take (lead kind) xs) (before_marks (drop (suc (lead kind)) xs))) q ∙ h
  node_kept _ kind q xs ws h = form_words (bare_form kind xs []) q ∙ (append-nil (all_words xs) ∙ h)

  mutual
    part_kept : (x : Part) → LegalBy line_shape x → Kept x
    part_kept (p.Leaf l) h = sym (append-nil (leaf_words silent l))
    part_kept (Node' kind m r) h =
        let xs : List Part = items-the_row-Part _ r in
        ap (λ ys. expr_words (node_syntax (frame kind) kind ys)) (syntax_map _ r)
        ∙ (node_kept (frame kind) kind (line_framed kind xs h.0) (map part_syntax xs) (parts_words xs) (row_left (line_shape kind) (first_turn (frame kind) kind) (kind_leads kind) xs (row_kept _ r h.1) h.0) ∙ sym (row_leaves _ r))

    row_kept : (m : _) (r : Row_of-Part m) → LegalRowBy line_shape r → AllByRecursion Kept (items-the_row-Part m r)
    row_kept m end_of-Part h = tt
    row_kept m (more_of-Part x rest) h = (part_kept x h.0, row_kept _ rest h.1)

  -- the statements of a line
  line_words : (xs : List Part) → Fits IsNonterminal (bzl_shape k.Line) xs → AllByRecursion Kept xs → all_words (before_marks (map part_syntax xs)) ≡ parts_words xs
  line_words xs h g = row_left (bzl_shape k.Line) at_item refl xs g h

  -- ---- what is known of parts

  record Known (x : Part) : Type 0 where
    kept : InLine x → Kept x
    statement : IsNonterminal s.stmt x → all_words (parsed x).statements ≡ part_words x
    suite : IsNonterminal s.suite x → all_words (parsed x).suite ≡ part_words x

  part_parsed : (x : Part) → (parsed x).part ≡ part_syntax x
  part_parsed (p.Leaf l) = refl
  part_parsed (Node' kind m r) = refl

  same_colon : (x : Part) → (parsed x).is_colon ≡ (stated x).is_colon
  same_colon (p.Leaf l) = refl
  same_colon (Node' kind m r) = refl

  parts_parsed : (xs : List Part) → map (λ x. x.part) (map parsed xs) ≡ map part_syntax xs
  parts_parsed [] = refl
  parts_parsed (x ∷ xs) = both (λ y ys. y ∷ ys) (part_parsed x) (parts_parsed xs)

  parsed_rows : (m : _) (r : Row_of-Part m) → parsed_row r ≡ map parsed (items-the_row-Part m r)
  parsed_rows m end_of-Part = refl
  parsed_rows m (more_of-Part x rest) = ap (λ z. parsed x ∷ z) (parsed_rows _ rest)

  -- ---- headers

  is_colon_mark : (x : Part) → has_token s.colon_mark x ≡ true → (parsed x).is_colon ≡ true
  is_colon_mark (p.Leaf l) h = h
  is_colon_mark (Node' kind m r) h = no_such h

  -- the first header has the others as its alternatives
  put_words : (first : Bool) (kind : Kind) (ps own others : List Expr) → all_words (put_header first (suite_syntax kind ps own) others) ≡ expr_words (node_syntax (frame kind) kind ps) ++ (all_words own ++ all_words others)
  put_words true kind ps own others = append-nil (expr_words (suite_syntax kind ps own others)) ∙ suite_words kind ps own others
  put_words false kind ps own others =
      let head : Words = expr_words (node_syntax (frame kind) kind ps) in
      ap (λ ws. ws ++ all_words others) (suite_words kind ps own [] ∙ ap (λ ws. head ++ ws) (append-nil (all_words own))) ∙ append_assoc head (all_words own) (all_words others)

  -- colons are silent
  abbrev Colons : Type 0
  Colons = (l : Leaf) → is_one_of s.colon_mark l ≡ true → silent l.class l.token ≡ true

  module _ (kind : Kind) (inner : is_inner_frame (frame kind) ≡ true) (colons : Colons) where
    abbrev start : Turn
    start = first_turn (frame kind) kind

    abbrev head_words : List Expr → Words
    head_words ps = expr_words (node_syntax (frame kind) kind ps)

    -- of headers that begin here; after parts of a header; after its colon. first: whether the first of them takes the others
    abbrev Ahead : Bool → Spot → List Part → Type 0
    Ahead first begins xs = all_words (headers_in first kind [] (map parsed xs)) ≡ parts_words xs
    Ahead first (header t) xs =
        (ps : List Expr) (ws : Words) → ((es : List Expr) (vs : Words) → Left t es vs → head_words (ps ++ es) ≡ ws ++ vs) → all_words (headers_in first kind ps (map parsed xs)) ≡ ws ++ parts_words xs
    Ahead first owner xs = (ps : List Expr) (ws : Words) → head_words ps ≡ ws → all_words (suites_in first kind ps (map parsed xs)) ≡ ws ++ parts_words xs
    Ahead first nowhere xs = ⊥

    abbrev Both : Spot → List Part → Type 0
    Both z xs = (first : Bool) → Ahead first z xs

    plain_more : (first : Bool) (t : Turn) (b : Bool) (x : Part) (xs : List Part) → (b ≡ true → part_words x ≡ []) → NoColon x → Kept x → Ahead first (header (turned t b)) xs → Ahead first (header t) (x ∷ xs)
    plain_more first t b x xs q n g h ps ws f =
        ap all_words (cond-false (parsed x).is_colon _ _ (same_colon x ∙ n))
        ∙ (h (ps ++ (parsed x).part ∷ []) (ws ++ part_words x) (λ es vs l. ap head_words (append_assoc ps ((parsed x).part ∷ []) es ∙ ap (λ y. ps ++ y ∷ es) (part_parsed x))
        ∙ (f (part_syntax x ∷ es) (part_words x ++ vs) (one_more t b x es vs q g l) ∙ sym (append_assoc ws (part_words x) vs)))
        ∙ append_assoc ws (part_words x) (parts_words xs))

    colon_more : (first : Bool) (t : Turn) (x : Part) (xs : List Part) → may_end t ≡ true → has_token s.colon_mark x ≡ true → Ahead first owner xs → Ahead first (header t) (x ∷ xs)
    colon_more first t x xs e m h ps ws f =
        ap all_words (cond-true (parsed x).is_colon _ _ (is_colon_mark x m))
        ∙ (h ps ws (ap head_words (sym (append-nil ps)) ∙ (f [] [] (none_left t e) ∙ append-nil ws)) ∙ ap (λ vs. ws ++ vs) (sym (nothing_before (part_words x) (parts_words xs) (no_words s.colon_mark x colons m))))

    token_more : (first plain colon end : Bool) (t : Turn) (ts : List Terminal) (x : Part) (xs : List Part) → no_colons ts ≡ plain → subset ts s.colon_mark ≡ colon → may_end t ≡ end → has_token ts x ≡ true → Kept x
        → Ahead first (in_header plain colon end (on_token t ts)) xs → Ahead first (header t) (x ∷ xs)
    token_more first true colon end t ts x xs p c e m g h = plain_more first t (subset ts marks_between) x xs (λ b. quiet_part ts x b m) (token_plain ts x p m) g h
    token_more first false true true t ts x xs p c e m g h = colon_more first t x xs e (token_within ts x c m) h
    token_more first false true false t ts x xs p c e m g h = absurd h
    token_more first false false end t ts x xs p c e m g h = absurd h

    sort_more : (first inner_sort : Bool) (t : Turn) (q : Nonterminal) (x : Part) (xs : List Part) → inner_nonterminal q ≡ inner_sort → IsNonterminal q x → Known x → Ahead first (past_sort inner_sort (on_sort t q)) xs → Ahead first (header t) (x ∷ xs)
    sort_more first true t q x xs o i g h = plain_more first t false x xs no_such (nonterminal_plain q x i) (g.kept (in_line x (nonterminal_inner q x o i))) h
    sort_more first false t q x xs o i g h = absurd h

    from_start : (first : Bool) (x : Part) (xs : List Part) → Ahead first (header start) (x ∷ xs) → Ahead first begins (x ∷ xs)
    from_start first x xs h = h [] [] (node_kept (frame kind) kind inner)

    token_known : (ts : List Terminal) (x : Part) → has_token ts x ≡ true → Known x → Kept x
    token_known ts (p.Leaf l) m g = g.kept tt
    token_known ts (Node' kd n r) m g = no_such m

    token_ahead : (z : Spot) (ts : List Terminal) (x : Part) (xs : List Part) → has_token ts x ≡ true → Known x → Both (spot_after start z ts) xs → Both z (x ∷ xs)
    token_ahead begins ts x xs m g h first = from_start first x xs (token_more first (no_colons ts) (subset ts s.colon_mark) (may_end start) start ts x xs refl refl refl m (token_known ts x m g) (h first))
    token_ahead (header t) ts x xs m g h first = token_more first (no_colons ts) (subset ts s.colon_mark) (may_end t) t ts x xs refl refl refl m (token_known ts x m g) (h first)
    token_ahead owner ts x xs m g h first = absurd (h first)
    token_ahead nowhere ts x xs m g h first = absurd (h first)

    sort_ahead : (z : Spot) (q : Nonterminal) (x : Part) (xs : List Part) → IsNonterminal q x → Known x → Both (spot_past start z q) xs → Both z (x ∷ xs)
    sort_ahead begins q x xs i g h first = from_start first x xs (sort_more first (inner_nonterminal q) start q x xs refl i g (h first))
    sort_ahead (header t) q x xs i g h first = sort_more first (inner_nonterminal q) t q x xs refl i g (h first)
    sort_ahead owner s.suite x xs i g h first = λ ps ws f.
        put_words first kind ps (parsed x).suite (headers_in false kind [] (map parsed xs)) ∙ both (λ us vs. us ++ vs) f (both (λ us vs. us ++ vs) (g.suite i) (h false))
    sort_ahead owner _ x xs i g h first = absurd (h first)
    sort_ahead nowhere q x xs i g h first = absurd (h first)

    none_ahead : (z : Spot) → is_spot begins z ≡ true → Both z []
    none_ahead begins h first = refl
    none_ahead _ h first = no_such h

    headers_kept : leads (spot_after start) (spot_past start) is_spot (is_spot begins) (bzl_shape kind) begins ≡ true → (xs : List Part) → Fits IsNonterminal (bzl_shape kind) xs → AllByRecursion Known xs
        → all_words (headers_in true kind [] (map parsed xs)) ≡ parts_words xs
    headers_kept w xs h g = led (spot_after start) (spot_past start) is_spot same_spot Known Both token_ahead sort_ahead (bzl_shape kind) (is_spot begins) begins w none_ahead xs g h true

  -- ---- nodes

  known_kept : (xs : List Part) → AllByRecursion InLine xs → AllByRecursion Known xs → AllByRecursion Kept xs
  known_kept [] i g = tt
  known_kept (x ∷ xs) i g = (g.0.kept i.0, known_kept xs i.1 g.1)

  line_kept : (xs : List Part) → Fits IsNonterminal (bzl_shape k.Line) xs → AllByRecursion Known xs → all_words (line_statements (map parsed xs)) ≡ parts_words xs
  line_kept xs h g = ap (λ zs. all_words (before_marks zs)) (parts_parsed xs) ∙ line_words xs h (known_kept xs (in_statements xs h) g)

  -- a statement has no header, or its colons are silent
  spoken : (kind : Kind) → kind_number k.Def ≤ kind_number kind → Colons ⊎ (kind_number kind < kind_number k.Def) → Colons
  spoken kind le (inl colons) = colons
  spoken kind le (inr lt) = absurd (omega (arith, le, lt))

  node_statement : (kind : Kind) (xs : List Part) → Colons ⊎ (kind_number kind < kind_number k.Def) → nonterminal_has_kind s.stmt kind ≡ true → Fits IsNonterminal (bzl_shape kind) xs → AllByRecursion Known xs → all_words (node_statements kind (map parsed xs)) ≡ parts_words xs
  node_statement k.Line xs c i h g = line_kept xs h g
  node_statement k.Def xs c i h g = headers_kept k.Def refl (spoken k.Def (omega arith) c) refl xs h g
  node_statement k.IfStmt xs c i h g = headers_kept k.IfStmt refl (spoken k.IfStmt (omega arith) c) refl xs h g
  node_statement k.ForStmt xs c i h g = headers_kept k.ForStmt refl (spoken k.ForStmt (omega arith) c) refl xs h g
  node_statement _ xs c i h g = no_such i

  -- statements one after the other, and then what K says
  several_kept : (K : List Part → Type 0) → ((xs : List Part) → K xs → all_words (statements_in (map parsed xs)) ≡ parts_words xs) → (xs : List Part) → Several (IsNonterminal s.stmt) K xs → AllByRecursion Known xs
      → all_words (statements_in (map parsed xs)) ≡ parts_words xs
  several_kept K f [] h g = f [] h
  several_kept K f (x ∷ xs) (inl h) g = f (x ∷ xs) h
  several_kept K f (x ∷ xs) (inr h) g =
      flat_map-append expr_words (parsed x).statements (statements_in (map parsed xs)) ∙ both (λ us vs. us ++ vs) (g.0.statement h.0) (several_kept K f xs h.1 g.1)

  done_kept : (xs : List Part) → Fits IsNonterminal done xs → all_words (statements_in (map parsed xs)) ≡ parts_words xs
  done_kept [] h = refl
  done_kept (x ∷ xs) h = absurd h

  suite_kept : (xs : List Part) → Fits IsNonterminal (bzl_shape k.Suite) xs → AllByRecursion Known xs → all_words (statements_in (drop 1 (map parsed xs))) ≡ parts_words xs
  suite_kept [] h g = absurd h
  suite_kept (x ∷ []) h g = absurd h.1
  suite_kept (x ∷ y ∷ xs) h g =
      several_kept (Fits IsNonterminal done) done_kept (y ∷ xs) (inr h.1) g.1 ∙ sym (nothing_before (part_words x) (parts_words (y ∷ xs)) (quiet_part s.newline x refl h.0))

  node_suite : (kind : Kind) (xs : List Part) → nonterminal_has_kind s.suite kind ≡ true → Fits IsNonterminal (bzl_shape kind) xs → AllByRecursion Known xs → all_words (suite_statements kind (map parsed xs)) ≡ parts_words xs
  node_suite k.Line xs i h g = line_kept xs h g
  node_suite k.Suite xs i h g = suite_kept xs h g
  node_suite _ xs i h g = no_such i

  -- of a part that may be in a BUILD file, or where colons are silent
  first_of : {A B : Type 0} → Colons ⊎ (A × B) → Colons ⊎ A
  first_of (inl colons) = inl colons
  first_of (inr h) = inr h.0

  others_of : {A B : Type 0} → Colons ⊎ (A × B) → Colons ⊎ B
  others_of (inl colons) = inl colons
  others_of (inr h) = inr h.1

  mutual
    part_known : (x : Part) → LegalPart x → Colons ⊎ IsBuildPart x → Known x
    part_known (p.Leaf l) h c = record { kept = λ i. part_kept (p.Leaf l) tt; statement = λ i. no_such i; suite = λ i. no_such i }
    part_known (Node' kind m r) h c =
        let known : AllByRecursion Known (items-the_row-Part _ r) = row_known _ r h.1 (others_of c) in
        record {
          kept = λ i. part_kept (Node' kind m r) (inner_legal (Node' kind m r) i h);
          statement = λ i. ap (λ xs. all_words (node_statements kind xs)) (parsed_rows _ r) ∙ (node_statement kind (items-the_row-Part _ r) (first_of c) i h.0 known ∙ sym (row_leaves _ r));
          suite = λ i. ap (λ xs. all_words (suite_statements kind xs)) (parsed_rows _ r) ∙ (node_suite kind (items-the_row-Part _ r) i h.0 known ∙ sym (row_leaves _ r));
        }

    row_known : (m : _) (r : Row_of-Part m) → LegalRow r → Colons ⊎ IsBuildRow r → AllByRecursion Known (items-the_row-Part m r)
    row_known m end_of-Part h c = tt
    row_known m (more_of-Part x rest) h c = (part_known x h.0 (first_of c), row_known _ rest h.1 (others_of c))

  parts_known : (xs : List Part) → AllByRecursion LegalPart xs → Colons ⊎ AllByRecursion IsBuildPart xs → AllByRecursion Known xs
  parts_known [] h c = tt
  parts_known (x ∷ xs) h c = (part_known x h.0 (first_of c), parts_known xs h.1 (others_of c))

  -- ---- the file

  -- the end of a file is no statement
  end_kept : (xs : List Part) → Fits IsNonterminal (tok s.end done) xs → all_words (statements_in (map parsed xs)) ≡ parts_words xs
  end_kept [] h = absurd h
  end_kept (p.Leaf l ∷ []) h = sym (nothing_before (part_words (p.Leaf l)) [] (quiet_part s.end (p.Leaf l) refl h.0))
  end_kept (Node' kind m r ∷ xs) h = no_such h.0
  end_kept (p.Leaf l ∷ y ∷ xs) h = absurd h.1

  -- the tokens of a tree are those of its program
  tree_kept : (tree : Node) → Legal tree → Colons ⊎ IsBuild tree → flat_map (leaf_words silent) (leaves_of tree) ≡ all_words (tree_program tree)
  tree_kept tree h c =
      let fits : Fits IsNonterminal (bzl_shape k.File) tree.parts = subst (λ kd. Fits IsNonterminal (bzl_shape kd) tree.parts) h.file.root h.file.shapes.0 in
      parts_leaves tree.parts ∙ sym (several_kept (Fits IsNonterminal (tok s.end done)) end_kept tree.parts fits (parts_known tree.parts h.file.shapes.1 c))

-- ---- how often

-- the words are copies of one token, and as many as there are of it
module _ (class : Class) (token : Bytes) (other : is_mark_between class token ≡ false) where
  abbrev silent : Class → Bytes → Bool
  silent found text = not (is_class found class && bytes_eq text token)

  quiet : (l : Leaf) → is_one_of marks_between l ≡ true → silent l.class l.token ≡ true
  quiet l h = elim (cases_Bool (is_class l.class class && bytes_eq l.token token)) [
    | inl w ↦
        let tests = and_parts (is_class l.class class) (bytes_eq l.token token) w in
        absurd (true≢false (sym h ∙ (both is_mark_between (same_class l.class class tests.0) ((bytes_eq-Decides l.token token).0 tests.1) ∙ other)))
    | inr w ↦ ap not w
  ]

  word_count : (b : Bool) (word : Class × Bytes) → length (if not b then [] else (word ∷ [])) ≡ (if b then 1 else 0)
  word_count true word = refl
  word_count false word = refl

  joined : (a b : ℕ) (us vs : Words) → length us ≡ a → length vs ≡ b → length (us ++ vs) ≡ a + b
  joined a b us vs h g = length-append us vs ∙ both (λ m n. m + n) h g

  order_count : (f : Frame) (parts first others items : Words) (a b : ℕ) → length parts ≡ a → length first + length others ≡ a → length items ≡ b → length (in_order silent quiet f parts first others items) ≡ a + b
  order_count compound parts first others items a b h i j =
      let all = length-append first (items ++ others) in
      let two = length-append items others in
      omega arith
  order_count row parts first others items a b h i j = joined a b parts items h j
  order_count (sequence opener closer) parts first others items a b h i j = joined a b parts items h j

  mutual
    expr_count : (x : Expr) → length (expr_words silent quiet x) ≡ token_sum (one_if_token class token) x
    expr_count (Token t) = word_count (is_class t.class class && bytes_eq t.text token) (t.class, t.text)
    expr_count (Form' kind n parts m items end split open_break comments) =
        order_count (frame kind) _ _ _ _ _ _ (row_count _ parts) (parts_count _ parts) (row_count _ items)

    parts_count : (m : _) (r : Row_of-Expr m) → length (first_words silent quiet r) + length (others_words silent quiet r) ≡ row_token_sum (one_if_token class token) r
    parts_count m end_of-Expr = refl
    parts_count m (more_of-Expr x rest) = both (λ a b. a + b) (expr_count x) (row_count _ rest)

    row_count : (m : _) (r : Row_of-Expr m) → length (row_words silent quiet r) ≡ row_token_sum (one_if_token class token) r
    row_count m end_of-Expr = refl
    row_count m (more_of-Expr x rest) = joined _ _ (expr_words silent quiet x) (row_words silent quiet rest) (expr_count x) (row_count _ rest)

  counted : {X : Type 0} (f : X → Words) (number : X → ℕ) → ((x : X) → length (f x) ≡ number x) → (xs : List X) → length (flat_map f xs) ≡ total number xs
  counted f number h [] = refl
  counted f number h (x ∷ xs) = joined (number x) (total number xs) (f x) (flat_map f xs) (h x) (counted f number h xs)

  tree_count : (n : Node) → LegalBuild n → token_times class token (tree_program n) ≡ leaf_times class token n
  tree_count n h =
      sym (counted (expr_words silent quiet) (token_sum (one_if_token class token)) expr_count (tree_program n))
      ∙ (ap length (sym (tree_kept silent quiet n h.legal (inr h.build)))
      ∙ counted (leaf_words silent) (λ l. one_if_token class token l.class l.token) (λ l. word_count (is_class l.class class && bytes_eq l.token token) (l.class, l.token)) (leaves_of n))

pub tree_tokens : TreeProgramsKeepTokens
tree_tokens n h class token other = tree_count class token other n h

pub formatted_tokens : FixedPoint → FormattingKeepsTokens
formatted_tokens fixed text formatted formats tree new h i class token string separator =
    sym (tree_tokens new i.0 class token separator)
    ∙ ((fixed text formatted formats).tokens tree new h i class token string
    ∙ tree_tokens tree h.0 class token separator)

pub formatted_words : BzlFixedPoint → FormattingKeepsWords
formatted_words fixed text formatted formats tree new h i =
    let quiet : (l : Leaf) → is_one_of marks_between l ≡ true → is_bzl_separator l.class l.token ≡ true = λ l m. or_left _ _ m in
    let kept : (n : Node) → Legal n → tree_words is_bzl_separator n ≡ all_words is_bzl_separator quiet (tree_program n) = λ n g. tree_kept is_bzl_separator quiet n g (inl (λ l m. or_right _ _ m)) in
    kept new i.0 ∙ (ap (all_words is_bzl_separator quiet) ((fixed text formatted formats).program tree new h i) ∙ sym (kept tree h.0))
