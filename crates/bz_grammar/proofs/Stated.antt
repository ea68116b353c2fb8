-- Where the statements of a legal tree are: by the table of shapes no part of a header or an expression is one, nor has one inside.
use Rattle.bz_grammar.proofs.Words.{[], ◌&&◌, ◌++◌, ◌||◌, ◌∙◌, ◌∷◌, ◌≡◌, After, AllByRecursion, alt, and_parts, ap, append-nil, argument, begins_on, Bool, both_ways, bzl_shape, cases_Bool, clause, done, each, EachStatementHasALine, end_of-Part, entry, false, first_clause, Fits, fronts, fronts_part, gap_of, has_statements, has_token, if◌then◌else◌, inl, inr, is_kind, is_stated, is_statement_kind, IsNonterminal, items-the_row-Part, Kind, Kind as k, LegalPart, level, line, line_following, List, list, Listed, loaded, map, map-append, more_of-Part, no_more, Node, Node', none, Nonterminal, nonterminal_has_kind, not, not-true, once_more, own_front, param, Part, refl, Row_of-Part, Several, Shape, small, spell_part, statements, statements_part, statements_row, stmt, sub, subst, suite, sym, Terminal, Times, times, tok, true, ℕ}
use Rattle.bz_grammar.specs.declared.tree.Part.TheVariants as v
use Rattle.bz_grammar.proofs.{AllLines.lines_among, AllLines.lines_part, AllLines.lines_alone, AllLines.lines_within, Nested.row_of, Nested.items_of_row, Nested.part_ind, Trees.bzl_shapes_of}

-- ---- what holds of each node among parts of a shape, by the sorts of the shape

abbrev allows : (Kind → Bool) → Part → Bool
allows f (v.Leaf l) = true
allows f (Node' kind size row) = f kind

abbrev AllAllow : (Kind → Bool) → List Part → Type 0
AllAllow f xs = AllByRecursion (λ x. allows f x ≡ true) xs

abbrev sorts_pass : (Nonterminal → Bool) → Shape → Bool
sorts_pass ok none = true
sorts_pass ok done = true
sorts_pass ok (tok s r) = sorts_pass ok r
sorts_pass ok (sub q r) = ok q && sorts_pass ok r
sorts_pass ok (alt r r') = sorts_pass ok r && sorts_pass ok r'
sorts_pass ok (list q sep last r) = ok q && sorts_pass ok r
sorts_pass ok (each q r) = ok q && sorts_pass ok r
sorts_pass ok (times group r) = sorts_pass ok group && sorts_pass ok r

module _ (f : Kind → Bool) where
  token_allows : (s : List Terminal) (x : Part) → has_token s x ≡ true → allows f x ≡ true
  token_allows s (v.Leaf l) h = refl
  token_allows s (Node' kind size row) h = absurd (both_ways false refl h)

  both_allow : (xs ys : List Part) → AllAllow f xs → AllAllow f ys → AllAllow f (xs ++ ys)
  both_allow [] ys h g = g
  both_allow (x ∷ xs) ys h g = (h.0, both_allow xs ys h.1 g)

  several_allow : (P : Part → Type 0) (K : List Part → Type 0) → ((x : Part) → P x → allows f x ≡ true) → ((xs : List Part) → K xs → AllAllow f xs) → (xs : List Part) → Several P K xs → AllAllow f xs
  several_allow P K one rest [] h = tt
  several_allow P K one rest (x ∷ xs) (inl h) = rest (x ∷ xs) h
  several_allow P K one rest (x ∷ xs) (inr h) = (one x h.0, several_allow P K one rest xs h.1)

  times_allow : (F K : List Part → Type 0) → ((xs : List Part) → F xs → AllAllow f xs) → ((xs : List Part) → K xs → AllAllow f xs) → (xs : List Part) → Times F K xs → AllAllow f xs
  times_allow F K group rest xs (no_more h) = rest xs h
  times_allow F K group rest xs (once_more front back is h t) = subst (AllAllow f) (sym is) (both_allow front back (group front h) (times_allow F K group rest back t))

  module _ (P : Part → Type 0) (s : List Terminal) (last : Bool) (K : List Part → Type 0) (one : (x : Part) → P x → allows f x ≡ true) (rest : (xs : List Part) → K xs → AllAllow f xs) where
    mutual
      listed_allow : (xs : List Part) → Listed P s last K xs → AllAllow f xs
      listed_allow [] h = absurd h
      listed_allow (x ∷ xs) h = (one x h.0, after_allow xs h.1)

      after_allow : (xs : List Part) → After P s last K xs → AllAllow f xs
      after_allow [] h = tt
      after_allow (x ∷ xs) (inl h) = rest (x ∷ xs) h
      after_allow (x ∷ xs) (inr (t, inl h)) = (token_allows s x t, listed_allow xs h)
      after_allow (x ∷ xs) (inr (t, inr h)) = (token_allows s x t, rest xs h.1)

  module _ (ok : Nonterminal → Bool) (sort : (q : Nonterminal) → ok q ≡ true → (x : Part) → IsNonterminal q x → allows f x ≡ true) where
    fits_allow : (r : Shape) → sorts_pass ok r ≡ true → (xs : List Part) → Fits IsNonterminal r xs → AllAllow f xs
    fits_allow none e xs h = absurd h
    fits_allow done e [] h = tt
    fits_allow done e (x ∷ xs) h = absurd h
    fits_allow (tok s r) e [] h = absurd h
    fits_allow (tok s r) e (x ∷ xs) h = (token_allows s x h.0, fits_allow r e xs h.1)
    fits_allow (sub q r) e [] h = absurd h
    fits_allow (sub q r) e (x ∷ xs) h = let w = and_parts (ok q) (sorts_pass ok r) e in (sort q w.0 x h.0, fits_allow r w.1 xs h.1)
    fits_allow (alt r r') e xs (inl h) = fits_allow r (and_parts (sorts_pass ok r) (sorts_pass ok r') e).0 xs h
    fits_allow (alt r r') e xs (inr h) = fits_allow r' (and_parts (sorts_pass ok r) (sorts_pass ok r') e).1 xs h
    fits_allow (list q sep last r) e xs h = let w = and_parts (ok q) (sorts_pass ok r) e in listed_allow (IsNonterminal q) sep last (Fits IsNonterminal r) (sort q w.0) (λ ys g. fits_allow r w.1 ys g) xs h
    fits_allow (each q r) e xs h = let w = and_parts (ok q) (sorts_pass ok r) e in several_allow (IsNonterminal q) (Fits IsNonterminal r) (sort q w.0) (λ ys g. fits_allow r w.1 ys g) xs h
    fits_allow (times group r) e xs h =
        let w = and_parts (sorts_pass ok group) (sorts_pass ok r) e in
        times_allow (Fits IsNonterminal group) (Fits IsNonterminal r) (λ ys g. fits_allow group w.0 ys g) (λ ys g. fits_allow r w.1 ys g) xs h

-- ---- the kinds and sorts of the table

-- a node of such a kind may be in another one; such a node is no statement either, and holds none
abbrev is_inside : Kind → Bool
is_inside kind = not (is_kind kind k.File)

abbrev is_plain : Kind → Bool
is_plain kind = is_inside kind && (not (is_statement_kind kind) && not (has_statements kind))

abbrev is_plain_sort : Nonterminal → Bool
is_plain_sort small = false
is_plain_sort line = false
is_plain_sort stmt = false
is_plain_sort suite = false
is_plain_sort _ = true

-- c holds wherever b does
abbrev implied : Bool → Bool → Bool
implied b c = c || not b

by_implied : (b c : Bool) → implied b c ≡ true → b ≡ true → c ≡ true
by_implied b true h e = refl
by_implied b false h e = absurd (both_ways (not b) (ap not e) h)

plain_sort : (q : Nonterminal) (kind : Kind) → is_plain_sort q ≡ true → implied (nonterminal_has_kind q kind) (is_plain kind) ≡ true
plain_sort small kind e = absurd (both_ways false refl e)
plain_sort line kind e = absurd (both_ways false refl e)
plain_sort stmt kind e = absurd (both_ways false refl e)
plain_sort suite kind e = absurd (both_ways false refl e)
plain_sort (level n) k.File e = refl
plain_sort (level n) _ e = refl
plain_sort argument k.File e = refl
plain_sort argument _ e = refl
plain_sort entry k.File e = refl
plain_sort entry _ e = refl
plain_sort clause k.File e = refl
plain_sort clause _ e = refl
plain_sort first_clause k.File e = refl
plain_sort first_clause _ e = refl
plain_sort loaded k.File e = refl
plain_sort loaded _ e = refl
plain_sort param k.File e = refl
plain_sort param _ e = refl

inside_sort : (q : Nonterminal) (kind : Kind) → implied (nonterminal_has_kind q kind) (is_inside kind) ≡ true
inside_sort (level n) k.File = refl
inside_sort argument k.File = refl
inside_sort entry k.File = refl
inside_sort clause k.File = refl
inside_sort first_clause k.File = refl
inside_sort loaded k.File = refl
inside_sort small k.File = refl
inside_sort line k.File = refl
inside_sort param k.File = refl
inside_sort stmt k.File = refl
inside_sort suite k.File = refl
inside_sort q _ = refl

plain_part : (q : Nonterminal) → is_plain_sort q ≡ true → (x : Part) → IsNonterminal q x → allows is_plain x ≡ true
plain_part q e (v.Leaf l) h = refl
plain_part q e (Node' kind size row) h = by_implied (nonterminal_has_kind q kind) (is_plain kind) (plain_sort q kind e) h

inside_part : (q : Nonterminal) → true ≡ true → (x : Part) → IsNonterminal q x → allows is_inside x ≡ true
inside_part q e (v.Leaf l) h = refl
inside_part q e (Node' kind size row) h = by_implied (nonterminal_has_kind q kind) (is_inside kind) (inside_sort q kind) h

every_sort : (r : Shape) → sorts_pass (λ q. true) r ≡ true
every_sort none = refl
every_sort done = refl
every_sort (tok s r) = every_sort r
every_sort (sub q r) = every_sort r
every_sort (alt r r') = rw (every_sort r) (every_sort r')
every_sort (list q sep last r) = every_sort r
every_sort (each q r) = every_sort r
every_sort (times group r) = rw (every_sort group) (every_sort r)

inside_fits : (r : Shape) (xs : List Part) → Fits IsNonterminal r xs → AllAllow is_inside xs
inside_fits r = fits_allow is_inside (λ q. true) inside_part r (every_sort r)

-- in a node that holds no statements all sorts are plain
plain_shape : (kind : Kind) → implied (is_inside kind && not (has_statements kind)) (sorts_pass is_plain_sort (bzl_shape kind)) ≡ true
plain_shape k.File = refl
plain_shape _ = refl

plain_fits : (kind : Kind) (xs : List Part) → is_inside kind ≡ true → has_statements kind ≡ false → Fits IsNonterminal (bzl_shape kind) xs → AllAllow is_plain xs
plain_fits kind xs inside empty h =
    fits_allow is_plain is_plain_sort plain_part (bzl_shape kind) (by_implied _ _ (plain_shape kind) (rw (inside, empty) refl)) xs h

-- ---- all statements of a part

statements_rows : (m : _) (r : Row_of-Part m) (front : List ℕ) → statements_row front r ≡ statements front (items-the_row-Part m r)
statements_rows m end_of-Part front = refl
statements_rows m (more_of-Part x rest) front = ap (λ ts. statements_part front x ++ ts) (statements_rows _ rest (front ++ spell_part x))

abbrev own : List ℕ → Part → List (List ℕ × Part)
own front x = if is_stated x then (front, x) ∷ [] else []

statements_Node : (n : Node) (front : List ℕ) → statements_part front (v.Node n) ≡ own front (v.Node n) ++ statements front n.parts
statements_Node n front = ap (λ ts. own front (v.Node n) ++ ts) (statements_rows _ (row_of n).1 front ∙ ap (statements front) (items_of_row n))

abbrev HasNone : Part → Type 0
HasNone x = LegalPart x → allows is_plain x ≡ true → (front : List ℕ) → statements_part front x ≡ []

all_none : (xs : List Part) → AllByRecursion HasNone xs → AllByRecursion LegalPart xs → AllAllow is_plain xs → (front : List ℕ) → statements front xs ≡ []
all_none [] such legal plain front = refl
all_none (x ∷ xs) such legal plain front = rw (such.0 legal.0 plain.0 front) (all_none xs such.1 legal.1 plain.1 (front ++ spell_part x))

module _ (kind : Kind) (plain : is_plain kind ≡ true) where
  pub plain_inside : is_inside kind ≡ true
  plain_inside = (and_parts (is_inside kind) _ plain).0

  pub plain_alone : is_statement_kind kind ≡ false
  plain_alone = not-true (is_statement_kind kind) (and_parts (not (is_statement_kind kind)) _ (and_parts (is_inside kind) _ plain).1).0

  pub plain_none : has_statements kind ≡ false
  plain_none = not-true (has_statements kind) (and_parts (not (is_statement_kind kind)) _ (and_parts (is_inside kind) _ plain).1).1

none_in : (n : Node) → AllByRecursion HasNone n.parts → LegalPart (v.Node n) → is_inside n.kind ≡ true → has_statements n.kind ≡ false → (front : List ℕ) → statements front n.parts ≡ []
none_in n such legal inside empty front = let w = bzl_shapes_of n legal in all_none n.parts such w.1 (plain_fits n.kind n.parts inside empty w.0) front

has_none : (x : Part) → HasNone x
has_none = part_ind HasNone (λ l legal plain front. refl)
    (λ n such legal plain front. statements_Node n front ∙ rw (plain_alone n.kind plain) (none_in n such legal (plain_inside n.kind plain) (plain_none n.kind plain) front))

each_none : (xs : List Part) → AllByRecursion HasNone xs
each_none [] = tt
each_none (x ∷ xs) = (has_none x, each_none xs)

-- ---- the lines are those of all statements

abbrev HasAll : Part → Type 0
HasAll x = LegalPart x → allows is_inside x ≡ true → (front : List ℕ) → lines_part front x ≡ map begins_on (statements_part front x)

all_lines : (xs : List Part) → AllByRecursion HasAll xs → AllByRecursion LegalPart xs → AllAllow is_inside xs → (front : List ℕ) → lines_among front xs ≡ map begins_on (statements front xs)
all_lines [] such legal inside front = refl
all_lines (x ∷ xs) such legal inside front =
    let next : List ℕ = front ++ spell_part x in
    map-append line_following (fronts_part front x) (fronts next xs)
    ∙ (ap (λ ls. ls ++ lines_among next xs) (such.0 legal.0 inside.0 front) ∙ (ap (λ ls. map begins_on (statements_part front x) ++ ls) (all_lines xs such.1 legal.1 inside.1 next)
    ∙ sym (map-append begins_on (statements_part front x) (statements next xs))))

own_line : (front : List ℕ) (x : Part) → map line_following (own_front front x) ≡ map begins_on (own front x)
own_line front x = by_case (is_stated x)
  where
    by_case : (b : Bool) → map line_following (if b then (front ++ gap_of x) ∷ [] else []) ≡ map begins_on (if b then (front, x) ∷ [] else [])
    by_case true = refl
    by_case false = refl

has_all : (x : Part) → HasAll x
has_all = part_ind HasAll (λ l legal inside front. refl) node
  where
    node : (n : Node) → AllByRecursion HasAll n.parts → HasAll (v.Node n)
    node n such legal inside front =
        let w = bzl_shapes_of n legal in
        let all = ap (map begins_on) (statements_Node n front) ∙ map-append begins_on (own front (v.Node n)) (statements front n.parts) in
        elim (cases_Bool (has_statements n.kind)) [
          | inl some ↦
              lines_within n front some ∙ (ap (λ ls. ls ++ lines_among front n.parts) (own_line front (v.Node n))
              ∙ (ap (λ ls. map begins_on (own front (v.Node n)) ++ ls) (all_lines n.parts such w.1 (inside_fits (bzl_shape n.kind) n.parts w.0) front) ∙ sym all))
          | inr empty ↦
              lines_alone n front empty ∙ (own_line front (v.Node n)
              ∙ sym (all ∙ (ap (λ ss. map begins_on (own front (v.Node n)) ++ map begins_on ss) (none_in n (each_none n.parts) legal inside empty front) ∙ append-nil _)))
        ]

each_all : (xs : List Part) → AllByRecursion HasAll xs
each_all [] = tt
each_all (x ∷ xs) = (has_all x, each_all xs)

pub each_statement : EachStatementHasALine
each_statement n legal = let w = legal.file.shapes in all_lines n.parts (each_all n.parts) w.1 (inside_fits (bzl_shape n.kind) n.parts w.0) []
