-- The rows of nodes without a sequence: each part is proper where it is, and a break is inside brackets.
use Rattle.bz_hosts.proofs.Words.{[], ◌&&◌, ◌||◌, ◌∙◌, ◌∷◌, ◌≡◌, after_expr, after_part, AllByRecursion, Along, and_parts, ap, ArePartsBy, AtLeaves, AtParts, Begins, begins_seen_operator, Bool, false, first_seen_gap, Fits, has_newline, HostComments, if◌then◌else◌, inl, inr, is_binary, is_operator, IsNonterminal, IsWider, Kind, List, map, no_comments, no_such, Node', Nonterminal, not, onward, operator_first, or_cases, Part, Part as p, plain, ProperBy, refl, row_exprs, seen, Shape, Spot, Stands, subst, sym, true, whole_shape, Within}
use Rattle.bz_hosts.proofs.InnerParts.{GoesOn, binary_goes, binary_begins, nonterminal_unsigned}
use Rattle.bz_hosts.proofs.SeenParts.{comments_made, break_made, no_break_made, operator_made, after_made, part_along}

-- ---- where parts are

pub on_twice : (here : Spot) → onward (onward here) ≡ onward here
on_twice Within = refl
on_twice _ = refl

-- after the first part of a line, what isn't along it is inside brackets
within_by : (here : Spot) (b : Bool) → onward here ≡ here → (here ≡ Along → b ≡ false) → b ≡ true → here ≡ Within
within_by Begins b e f h = cc
within_by Within b e f h = refl
within_by Along b e f h = no_such (sym (f refl) ∙ h)

part_within : (here : Spot) (x : Part) → onward here ≡ here → AtLeaves Stands here x → has_newline (seen x).gap ≡ true → here ≡ Within
part_within here x e h n = within_by here (has_newline (seen x).gap) e (λ a. part_along x (subst (λ z. AtLeaves Stands z x) a h)) n

before_within : (inside newline : Bool) (here : Spot) (x : Part) → onward here ≡ here → (inside ≡ true → newline ≡ true → here ≡ Within) → AtLeaves Stands here x →
    (if inside then newline else has_newline (seen x).gap) ≡ true → here ≡ Within
before_within true newline here x e w h n = w refl n
before_within false newline here x e w h n = part_within here x e h n

first_within : (outer here : Spot) (xs : List Part) → onward here ≡ here → AtParts Stands outer here xs → has_newline (first_seen_gap (map seen xs)) ≡ true → here ≡ Within
first_within outer here [] e h n = no_such n
first_within outer here (x ∷ xs) e h n = part_within here x e h.0 n

first_operator : (binary inside newline : Bool) (xs : List Part) → operator_first (row_exprs binary inside newline (map seen xs)) ≡ begins_seen_operator (map seen xs)
first_operator binary inside newline [] = refl
first_operator binary inside newline (x ∷ xs) = operator_made x no_comments _

part_unsigned : (a : Nonterminal) (x : Part) → IsNonterminal a x → is_operator (plain (seen x)) ≡ false
part_unsigned a (p.Leaf l) h = nonterminal_unsigned a l h
part_unsigned a (Node' kind n r) h = refl

-- ---- rows by a grammar, of which that of lines is the widest

module _ (grammar : Kind → Shape) where
  -- the part is proper where it is, for any comments and break
  abbrev pub Fit : Part → Type 0
  Fit x = (here : Spot) → AtLeaves Stands here x → (cs : HostComments) (b : Bool) → ProperBy grammar here ((seen x).make cs b)

  abbrev pub AllFit : List Part → Type 0
  AllFit xs = AllByRecursion Fit xs

  -- ---- rows that aren't binary operations

  plain_row : (inside newline : Bool) (outer here : Spot) (xs : List Part) → AllFit xs → AtParts Stands outer here xs → ArePartsBy grammar false outer here (row_exprs false inside newline (map seen xs))
  plain_row inside newline outer here [] h at_ = tt
  plain_row inside newline outer here (x ∷ xs) h at_ = (
    h.0 here at_.0 no_comments false,
    comments_made x no_comments false,
    λ b. no_such (sym (no_break_made x no_comments) ∙ b),
    subst
        (λ z. ArePartsBy grammar false outer z (row_exprs false false (if inside then newline else has_newline (seen x).gap) (map seen xs)))
        (sym (after_made outer here x no_comments false))
        (plain_row false (if inside then newline else has_newline (seen x).gap) outer (after_part outer here x) xs h.1 at_.1),
  )

  -- ---- binary operations

  after_first : (inside newline : Bool) (outer here : Spot) → onward here ≡ here → (inside ≡ true → newline ≡ true → here ≡ Within) →
      (xs : List Part) → AllFit xs → AllByRecursion GoesOn xs → AtParts Stands outer here xs → ArePartsBy grammar true outer here (row_exprs true inside newline (map seen xs))
  after_first inside newline outer here e w [] h g at_ = tt
  after_first inside newline outer here e w (x ∷ xs) h g at_ =
      let sign : Bool = is_operator (plain (seen x)) in
      let before : Bool = if inside then newline else has_newline (seen x).gap in
      let after : Bool = has_newline (first_seen_gap (map seen xs)) in
      let ended : Bool = sign && not (begins_seen_operator (map seen xs)) in
      let broken : Bool = ended && (before || after) in
      let there : after_part outer here x ≡ here = g.0 outer here ∙ e in
      let rest_at : AtParts Stands outer here xs = subst (λ z. AtParts Stands outer z xs) there at_.1 in
      let made : after_expr outer here ((seen x).make no_comments broken) ≡ here = after_made outer here x no_comments broken ∙ there in
      let by_before : before ≡ true → here ≡ Within = before_within inside newline here x e w at_.0 in
      let by_both : (before || after) ≡ true → here ≡ Within = λ n. elim (or_cases before after n) [ inl i ↦ by_before i | inr i ↦ first_within outer here xs e rest_at i ] in
      let same : (is_operator ((seen x).make no_comments broken) && not (operator_first (row_exprs true sign before (map seen xs)))) ≡ ended =
      ap (λ z. z && not (operator_first (row_exprs true sign before (map seen xs)))) (operator_made x no_comments broken) ∙ ap (λ z. sign && not z) (first_operator true sign before xs) in (
        h.0 here at_.0 no_comments broken,
        comments_made x no_comments broken,
        λ b. let v = and_parts ended (before || after) (break_made x no_comments broken b) in (same ∙ v.0, made ∙ by_both v.1),
        subst (λ z. ArePartsBy grammar true outer z (row_exprs true sign before (map seen xs))) (sym made) (after_first sign before outer here e (λ i n. by_before n) xs h.1 g.1 rest_at),
      )

  module _ (wider : IsWider grammar whole_shape) where
    binary_row : (kind : Kind) → is_binary kind ≡ true → (outer here : Spot) (xs : List Part) → Fits IsNonterminal (grammar kind) xs → AllFit xs → AtParts Stands outer here xs → ArePartsBy grammar true outer here (row_exprs true false false (map seen xs))
    binary_row kind k outer here [] f h at_ = tt
    binary_row kind k outer here (x ∷ xs) f h at_ =
        let w = binary_begins kind k x xs (wider kind (x ∷ xs) f) in
        let g : AllByRecursion GoesOn (x ∷ xs) = binary_goes kind k (x ∷ xs) (wider kind (x ∷ xs) f) in
        let there : after_part outer here x ≡ onward here = g.0 outer here in
        begun (is_operator (plain (seen x))) (part_unsigned w.0 x w.1) (not (begins_seen_operator (map seen xs))) (has_newline (seen x).gap || has_newline (first_seen_gap (map seen xs))) (has_newline (seen x).gap)
        (after_made outer here x no_comments false ∙ there)
        (after_first false (has_newline (seen x).gap) outer (onward here) (on_twice here) (λ i n. no_such i) xs h.1 g.1 (subst (λ z. AtParts Stands outer z xs) there at_.1))
      where
        begun : (sign : Bool) → sign ≡ false → (last newline before : Bool) → after_expr outer here ((seen x).make no_comments false) ≡ onward here →
            ArePartsBy grammar true outer (onward here) (row_exprs true false before (map seen xs)) → ArePartsBy grammar true outer here ((seen x).make no_comments ((sign && last) && newline) ∷ row_exprs true sign before (map seen xs))
        begun true e last newline before m rest = no_such (sym e)
        begun false e last newline before m rest = (
          h.0 here at_.0 no_comments false,
          comments_made x no_comments false,
          λ b. no_such (sym (no_break_made x no_comments) ∙ b),
          subst (λ z. ArePartsBy grammar true outer z (row_exprs true false before (map seen xs))) (sym m) rest,
        )

    -- the row of a node of any kind
    pub row_proper : (kind : Kind) (outer here : Spot) (xs : List Part) → Fits IsNonterminal (grammar kind) xs → AllFit xs → AtParts Stands outer here xs →
        ArePartsBy grammar (is_binary kind) outer here (row_exprs (is_binary kind) false false (map seen xs))
    row_proper kind outer here xs f h at_ = either (is_binary kind) refl
      where
        either : (b : Bool) → is_binary kind ≡ b → ArePartsBy grammar b outer here (row_exprs b false false (map seen xs))
        either true k = binary_row kind k outer here xs f h at_
        either false k = plain_row false false outer here xs h at_
