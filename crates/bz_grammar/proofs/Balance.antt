-- Each node opens and closes its own brackets only: where its leaves are is what the tree says.
use Rattle.bz_grammar.proofs.Words.{[], ◌&&◌, ◌++◌, ◌||◌, ◌↔◌, ◌∙◌, ◌∷◌, ◌≡◌, ◌⊎◌, after_newline, after_node, after_part, AllByRecursion, and_parts, ap, AtLeaves, AtParts, AtRow, Begins, Bool, bytes_eq-Decides, bzl_shape, Class, Class as c, class_number, class_of, closes, codes, deeper, def_header, else_header, end_of-Part, ends, eqb-true, false, false≢true, Fits, flat_map, following_token, for_header, Fresh, has_token, inl, inr, is_one_of, is_terminal, IsFile, IsNonterminal, items-the_row-Part, Kind, Leaf, leaves_at, leaves_of, leaves_part, leaves_row, LegalPart, LegalRow, List, Listed, more_of-Part, next, Node, Node', Nonterminal, nonterminal_has_kind, not, not-true, onward, opens, or_cases, Over, Part, Part as part, Place, plain, refl, Role, role, Row_of-Part, same_depth, same_Some, Several, shallower, Shape, Some, Spot, subst, sym, Terminal, test_header, Times, true, ℕ}
use Rattle.bz_grammar.specs.declared.kind.Kind.TheVariants as k
use Rattle.bz_grammar.specs.Shapes as s
use Rattle.bz_grammar.proofs.Exact.{leaves_join}
use Rattle.bz_grammar.proofs.Ended.{And, split_sub, test_split}
use Rattle.bz_grammar.proofs.Flat.{spot_of, after, after-append, Flat, flat_join, flat_parts, same_again, same_deep, deep_same, shallow_deep, spot_same, spot_deep, spot_newline, after_opening, after_closing, after_plain}

pub no_such : {A : Type 0} → false ≡ true → A
no_such h = absurd (false≢true h)

class_back : (a : Class) → class_of (class_number a) ≡ Some a
class_back c.Name = refl
class_back _ = refl

pub same_class : (a b : Class) → s.is_class a b ≡ true → a ≡ b
same_class a b h = same_Some a b (sym (class_back a) ∙ (ap class_of (eqb-true (class_number a) (class_number b) h) ∙ class_back b))

-- ---- the roles of the table's tokens

abbrev is_role : Role → Role → Bool
is_role opens opens = true
is_role closes closes = true
is_role ends ends = true
is_role plain plain = true
is_role _ _ = false

role_is : (a b : Role) → is_role a b ≡ true → a ≡ b
role_is opens opens h = refl
role_is closes closes h = refl
role_is ends ends h = refl
role_is plain plain h = refl
role_is _ _ h = no_such h

-- whether each leaf that is this terminal has this role
abbrev has_role : Role → Terminal → Bool
has_role t (s.any c.Mark) = false
has_role t (s.any class) = is_role (role class []) t
has_role t (s.this class token) = is_role (role class token) t

abbrev all_have : Role → List Terminal → Bool
all_have t [] = true
all_have t (x ∷ xs) = has_role t x && all_have t xs

of_class : (t : Role) (class : Class) (token : List ℕ) → has_role t (s.any class) ≡ true → role class token ≡ t
of_class t c.Mark token h = no_such h
of_class t c.Newline token h = role_is ends t h
of_class t c.End token h = role_is ends t h
of_class t _ token h = role_is plain t h

of_terminal : (t : Role) (x : Terminal) (leaf : Leaf) → has_role t x ≡ true → is_terminal x leaf ≡ true → role leaf.class leaf.token ≡ t
of_terminal t (s.any class) leaf h i = ap (λ z. role z leaf.token) (same_class leaf.class class i) ∙ of_class t class leaf.token h
of_terminal t (s.this class token) leaf h i =
    let w = and_parts _ _ i in
    ap (λ z. role z leaf.token) (same_class leaf.class class w.0) ∙ (ap (λ z. role class z) ((bytes_eq-Decides leaf.token token).0 w.1) ∙ role_is (role class token) t h)

of_terminals : (t : Role) (xs : List Terminal) (leaf : Leaf) → all_have t xs ≡ true → is_one_of xs leaf ≡ true → role leaf.class leaf.token ≡ t
of_terminals t [] leaf h i = no_such i
of_terminals t (x ∷ xs) leaf h i =
    let w = and_parts (has_role t x) (all_have t xs) h in
    elim (or_cases (is_terminal x leaf) (is_one_of xs leaf) i) [ inl e ↦ of_terminal t x leaf w.0 e | inr e ↦ of_terminals t xs leaf w.1 e ]

-- ---- how far a node is: nothing of it is there, no bracket is open, one is

data State : Type 0 where
  start closed opened : State

abbrev further : State → State
further opened = opened
further _ = closed

abbrev is_closed : State → Bool
is_closed closed = true
is_closed _ = false

abbrev is_opened : State → Bool
is_opened opened = true
is_opened _ = false

abbrev place_at : State → Place → Place
place_at start p = p
place_at closed p = same_depth p
place_at opened p = deeper p

same_further : (q : State) (p : Place) → same_depth (place_at q p) ≡ place_at (further q) p
same_further start p = refl
same_further closed p = same_again p
same_further opened p = same_deep p

deeper_at : (q : State) (p : Place) → is_opened q ≡ false → deeper (place_at q p) ≡ deeper p
deeper_at start p h = refl
deeper_at closed p h = deep_same p
deeper_at opened p h = no_such (sym h)

-- (a line holds its newline, and so does what ends with one)
abbrev pub inner_nonterminal : Nonterminal → Bool
inner_nonterminal s.line = false
inner_nonterminal s.stmt = false
inner_nonterminal s.suite = false
inner_nonterminal _ = true

-- The shape opens its own brackets only, and closes them.
abbrev balanced : State → Shape → Bool
balanced q s.none = true
balanced q s.done = is_closed q
balanced q (s.tok ts r) =
    (all_have plain ts && balanced (further q) r) || ((all_have opens ts && (not (is_opened q) && balanced opened r)) || (all_have closes ts && (is_opened q && balanced closed r)))
balanced q (s.sub a r) = inner_nonterminal a && balanced (further q) r
balanced q (s.alt r r') = balanced q r && balanced q r'
balanced q (s.list a ts last r) = inner_nonterminal a && (all_have plain ts && balanced (further q) r)
balanced q (s.each a r) = inner_nonterminal a && (balanced q r && balanced (further q) r)
balanced q (s.times group r) = false

pub not_file : (a : Nonterminal) → nonterminal_has_kind a k.File ≡ false
not_file (s.level n) = refl
not_file _ = refl

-- the kinds that end with a line
abbrev has_lines : Kind → Bool
has_lines k.Line = true
has_lines k.Def = true
has_lines k.IfStmt = true
has_lines k.ForStmt = true
has_lines k.Suite = true
has_lines _ = false

pub not_lines : (a : Nonterminal) (kind : Kind) → has_lines kind ≡ true → inner_nonterminal a ≡ true → nonterminal_has_kind a kind ≡ false
not_lines s.line kind l h = no_such h
not_lines s.stmt kind l h = no_such h
not_lines s.suite kind l h = no_such h
not_lines (s.level n) k.Line l h = refl
not_lines (s.level n) k.Def l h = refl
not_lines (s.level n) k.IfStmt l h = refl
not_lines (s.level n) k.ForStmt l h = refl
not_lines (s.level n) k.Suite l h = refl
not_lines (s.level n) _ l h = no_such l
not_lines _ k.Line l h = refl
not_lines _ k.Def l h = refl
not_lines _ k.IfStmt l h = refl
not_lines _ k.ForStmt l h = refl
not_lines _ k.Suite l h = refl
not_lines _ _ l h = no_such l

-- so does each row of the table, but for those of a file and a line
kind_balanced : (a : Nonterminal) (kind : Kind) → inner_nonterminal a ≡ true → nonterminal_has_kind a kind ≡ true → balanced start (bzl_shape kind) ≡ true
kind_balanced a k.File h i = no_such (sym (not_file a) ∙ i)
kind_balanced a k.Line h i = no_such (sym (not_lines a k.Line refl h) ∙ i)
kind_balanced a k.Def h i = no_such (sym (not_lines a k.Def refl h) ∙ i)
kind_balanced a k.IfStmt h i = no_such (sym (not_lines a k.IfStmt refl h) ∙ i)
kind_balanced a k.ForStmt h i = no_such (sym (not_lines a k.ForStmt refl h) ∙ i)
kind_balanced a k.Suite h i = no_such (sym (not_lines a k.Suite refl h) ∙ i)
kind_balanced a _ h i = refl

kind_goes_on : (a : Nonterminal) (kind : Kind) (here : Spot) → inner_nonterminal a ≡ true → nonterminal_has_kind a kind ≡ true → after_node kind here ≡ onward here
kind_goes_on a k.Line here h i = no_such (sym (not_lines a k.Line refl h) ∙ i)
kind_goes_on a k.Def here h i = no_such (sym (not_lines a k.Def refl h) ∙ i)
kind_goes_on a k.IfStmt here h i = no_such (sym (not_lines a k.IfStmt refl h) ∙ i)
kind_goes_on a k.ForStmt here h i = no_such (sym (not_lines a k.ForStmt refl h) ∙ i)
kind_goes_on a k.Suite here h i = no_such (sym (not_lines a k.Suite refl h) ∙ i)
kind_goes_on a _ here h i = refl

nonterminal_plain : (a : Nonterminal) → inner_nonterminal a ≡ true → all_have plain (leaves_at a) ≡ true
nonterminal_plain s.line h = no_such h
nonterminal_plain s.stmt h = no_such h
nonterminal_plain s.suite h = no_such h
nonterminal_plain _ h = refl

-- ---- rows

pub leaves_rows : (m : _) (r : Row_of-Part m) → leaves_row r ≡ flat_map leaves_part (items-the_row-Part m r)
leaves_rows m end_of-Part = refl
leaves_rows m (more_of-Part x rest) = ap (λ t. leaves_part x ++ t) (leaves_rows _ rest)

abbrev pub Legals : List Part → Type 0
Legals xs = AllByRecursion LegalPart xs

pub legal_row : (m : _) (r : Row_of-Part m) → LegalRow r → Legals (items-the_row-Part m r)
legal_row m end_of-Part h = tt
legal_row m (more_of-Part x rest) h = (h.0, legal_row _ rest h.1)

-- the spot after parts of a node
abbrev pub spot_after : Spot → Spot → List Part → Spot
spot_after outer here [] = here
spot_after outer here (x ∷ xs) = spot_after outer (after_part outer here x) xs

both_parts : (W : Part → Type 0) (xs ys : List Part) → AllByRecursion W (xs ++ ys) → AllByRecursion W xs × AllByRecursion W ys
both_parts W [] ys h = (tt, h)
both_parts W (x ∷ xs) ys h = let w = both_parts W xs ys h.1 in ((h.0, w.0), w.1)

leaves_both : (xs ys : List Part) → flat_map leaves_part (xs ++ ys) ≡ flat_map leaves_part xs ++ flat_map leaves_part ys
leaves_both xs ys = leaves_join xs ys

module _ (P : Spot → Leaf → Type 0) where
  pub parts_split : (outer here : Spot) (xs ys : List Part) → AtParts P outer here (xs ++ ys) → AtParts P outer here xs × AtParts P outer (spot_after outer here xs) ys
  parts_split outer here [] ys h = (tt, h)
  parts_split outer here (x ∷ xs) ys h = let w = parts_split outer (after_part outer here x) xs ys h.1 in ((h.0, w.0), w.1)

  pub parts_join : (outer here : Spot) (xs ys : List Part) → AtParts P outer here xs → AtParts P outer (spot_after outer here xs) ys → AtParts P outer here (xs ++ ys)
  parts_join outer here [] ys h g = g
  parts_join outer here (x ∷ xs) ys h g = (h.0, parts_join outer (after_part outer here x) xs ys h.1 g)

  pub parts_of_row : (outer here : Spot) (m : _) (r : Row_of-Part m) → AtRow P outer here r → AtParts P outer here (items-the_row-Part m r)
  parts_of_row outer here m end_of-Part h = tt
  parts_of_row outer here m (more_of-Part x rest) h = (h.0, parts_of_row outer (after_part outer here x) _ rest h.1)

  pub row_of_parts : (outer here : Spot) (m : _) (r : Row_of-Part m) → AtParts P outer here (items-the_row-Part m r) → AtRow P outer here r
  row_of_parts outer here m end_of-Part h = tt
  row_of_parts outer here m (more_of-Part x rest) h = (h.0, row_of_parts outer (after_part outer here x) _ rest h.1)

  abbrev SamePart : Place → Part → Type 0
  SamePart q x = (AtLeaves P (spot_of q) x → Flat P q (leaves_part x)) × (Flat P q (leaves_part x) → AtLeaves P (spot_of q) x)

  -- A part of a line leaves the brackets as they were, and its leaves are in the list where they are in the tree.
  record Kept (x : Part) : Type 0 where
    ends_at : (q : Place) → after q (leaves_part x) ≡ same_depth q
    goes_on : (outer here : Spot) → after_part outer here x ≡ onward here
    same : (q : Place) → SamePart q x

  -- the same of parts of a node that is at p, where the first of them is at q
  record RowAt (E : Place → Type 0) (p q : Place) (xs : List Part) : Type 0 where
    ends_at : E (after q (flat_map leaves_part xs))
    flat : AtParts P (spot_of p) (spot_of q) xs → Flat P q (flat_map leaves_part xs)
    tree : Flat P q (flat_map leaves_part xs) → AtParts P (spot_of p) (spot_of q) xs
    spot : spot_after (spot_of p) (spot_of q) xs ≡ spot_of (after q (flat_map leaves_part xs))

  none_at : (E : Place → Type 0) (p q : Place) → E q → RowAt E p q []
  none_at E p q h = record { ends_at = h; flat = λ g. tt; tree = λ g. tt; spot = refl }

  cons : (E : Place → Type 0) (p q q' : Place) (x : Part) (xs : List Part) → after q (leaves_part x) ≡ q' → after_part (spot_of p) (spot_of q) x ≡ spot_of q' → SamePart q x → RowAt E p q' xs → RowAt E p q (x ∷ xs)
  cons E p q q' x xs e i s h =
      let ls : List Leaf = flat_map leaves_part xs in
      record {
        ends_at = subst E (sym (after-append q (leaves_part x) ls ∙ ap (λ z. after z ls) e)) h.ends_at;
        flat = λ g. flat_join P q (leaves_part x) ls (s.0 g.0) (subst (λ z. Flat P z ls) (sym e) (h.flat (subst (λ z. AtParts P (spot_of p) z xs) i g.1)));
        tree = λ g. let w = flat_parts P q (leaves_part x) ls g in (s.1 w.0, subst (λ z. AtParts P (spot_of p) z xs) (sym i) (h.tree (subst (λ z. Flat P z ls) e w.1)));
        spot = ap (λ z. spot_after (spot_of p) z xs) i ∙ (h.spot ∙ ap spot_of (sym (after-append q (leaves_part x) ls ∙ ap (λ z. after z ls) e)));
      }

  leaf_same : (q : Place) (leaf : Leaf) → SamePart q (part.Leaf leaf)
  leaf_same q leaf = (λ g. (g, tt), λ g. g.0)

  kept_cons : (E : Place → Type 0) (p q q' : Place) (x : Part) (xs : List Part) → same_depth q ≡ q' → Kept x → RowAt E p q' xs → RowAt E p q (x ∷ xs)
  kept_cons E p q q' x xs e w h = cons E p q q' x xs (w.ends_at q ∙ e) (w.goes_on (spot_of p) (spot_of q) ∙ (sym (spot_same q) ∙ ap spot_of e)) (w.same q) h

  leaf_kept : (leaf : Leaf) → role leaf.class leaf.token ≡ plain → Kept (part.Leaf leaf)
  leaf_kept leaf e = record { ends_at = λ q. after_plain leaf q e; goes_on = λ outer here. ap (λ t. following_token t outer here) e; same = λ q. leaf_same q leaf }

  token_kept : (ts : List Terminal) (x : Part) → all_have plain ts ≡ true → has_token ts x ≡ true → Kept x
  token_kept ts (part.Leaf leaf) h i = leaf_kept leaf (of_terminals plain ts leaf h i)
  token_kept ts (Node' kind z r) h i = no_such i

  opening_cons : (E : Place → Type 0) (p q : Place) (ts : List Terminal) (x : Part) (xs : List Part) → all_have opens ts ≡ true → has_token ts x ≡ true → deeper q ≡ deeper p → RowAt E p (deeper p) xs → RowAt E p q (x ∷ xs)
  opening_cons E p q ts (part.Leaf leaf) xs h i d k =
      let e = of_terminals opens ts leaf h i in
      cons E p q (deeper p) (part.Leaf leaf) xs (after_opening leaf q e ∙ d) (ap (λ t. following_token t (spot_of p) (spot_of q)) e ∙ sym (spot_deep p)) (leaf_same q leaf) k
  opening_cons E p q ts (Node' kind z r) xs h i d k = no_such i

  closing_cons : (E : Place → Type 0) (p : Place) (ts : List Terminal) (x : Part) (xs : List Part) → all_have closes ts ≡ true → has_token ts x ≡ true → RowAt E p (same_depth p) xs → RowAt E p (deeper p) (x ∷ xs)
  closing_cons E p ts (part.Leaf leaf) xs h i k =
      let e = of_terminals closes ts leaf h i in
      cons E p (deeper p) (same_depth p) (part.Leaf leaf) xs (after_closing leaf (deeper p) e ∙ shallow_deep p) (ap (λ t. following_token t (spot_of p) (spot_of (deeper p))) e ∙ sym (spot_same p)) (leaf_same (deeper p) leaf) k
  closing_cons E p ts (Node' kind z r) xs h i k = no_such i

  abbrev Will : Part → Type 0
  Will x = (a : Nonterminal) → inner_nonterminal a ≡ true → IsNonterminal a x → LegalPart x → Kept x

  abbrev Wills : List Part → Type 0
  Wills xs = AllByRecursion Will xs

  -- what is in a node, where the first part is at q and what is after it at q'
  module _ (E : Place → Type 0) (p q' : Place) (stays : same_depth q' ≡ q') (a : Nonterminal) (inner : inner_nonterminal a ≡ true) (K : List Part → Type 0)
      (rest : (xs : List Part) → Wills xs → Legals xs → K xs → RowAt E p q' xs) where
    mutual
      listed_at : (ts : List Terminal) (last : Bool) → all_have plain ts ≡ true → (q : Place) → same_depth q ≡ q' → (xs : List Part) → Wills xs → Legals xs → Listed (IsNonterminal a) ts last K xs → RowAt E p q xs
      listed_at ts last o q e [] w g h = absurd h
      listed_at ts last o q e (x ∷ xs) w g h = kept_cons E p q q' x xs e (w.0 a inner h.0 g.0) (after_at ts last o xs w.1 g.1 h.1)

      after_at : (ts : List Terminal) (last : Bool) → all_have plain ts ≡ true → (xs : List Part) → Wills xs → Legals xs → s.After (IsNonterminal a) ts last K xs → RowAt E p q' xs
      after_at ts last o [] w g h = rest [] w g h
      after_at ts last o (x ∷ xs) w g (inl h) = rest (x ∷ xs) w g h
      after_at ts last o (x ∷ xs) w g (inr (m, inl h)) = kept_cons E p q' q' x xs stays (token_kept ts x o m) (listed_at ts last o q' stays xs w.1 g.1 h)
      after_at ts last o (x ∷ xs) w g (inr (m, inr h)) = kept_cons E p q' q' x xs stays (token_kept ts x o m) (rest xs w.1 g.1 h.1)

    several_at : (q : Place) → same_depth q ≡ q' → ((xs : List Part) → Wills xs → Legals xs → K xs → RowAt E p q xs) → (xs : List Part) → Wills xs → Legals xs → Several (IsNonterminal a) K xs → RowAt E p q xs
    several_at q e here [] w g h = here [] w g h
    several_at q e here (x ∷ xs) w g (inl h) = here (x ∷ xs) w g h
    several_at q e here (x ∷ xs) w g (inr h) = kept_cons E p q q' x xs e (w.0 a inner h.0 g.0) (several_at q' stays rest xs w.1 g.1 h.1)

  stays_at : (q : State) (p : Place) → same_depth (place_at (further q) p) ≡ place_at (further q) p
  stays_at start p = same_again p
  stays_at closed p = same_again p
  stays_at opened p = same_deep p

  module _ (E : Place → Type 0) (p : Place) (ended : E (same_depth p)) where
    done_at : (q : State) → is_closed q ≡ true → RowAt E p (place_at q p) []
    done_at start h = no_such h
    done_at closed h = none_at E p (same_depth p) ended
    done_at opened h = no_such h

    close_at : (q : State) (ts : List Terminal) (x : Part) (xs : List Part) → is_opened q ≡ true → all_have closes ts ≡ true → has_token ts x ≡ true → RowAt E p (same_depth p) xs → RowAt E p (place_at q p) (x ∷ xs)
    close_at start ts x xs o h i k = no_such o
    close_at closed ts x xs o h i k = no_such o
    close_at opened ts x xs o h i k = closing_cons E p ts x xs h i k

    row_at : (r : Shape) (q : State) → balanced q r ≡ true → (xs : List Part) → Wills xs → Legals xs → Fits IsNonterminal r xs → RowAt E p (place_at q p) xs
    row_at s.none q b xs w g h = absurd h
    row_at s.done q b [] w g h = done_at q b
    row_at s.done q b (x ∷ xs) w g h = absurd h
    row_at (s.tok ts r) q b [] w g h = absurd h
    row_at (s.tok ts r) q b (x ∷ xs) w g h =
        elim (or_cases _ _ b) [
          | inl i ↦ let v = and_parts _ _ i in kept_cons E p (place_at q p) (place_at (further q) p) x xs (same_further q p) (token_kept ts x v.0 h.0) (row_at r (further q) v.1 xs w.1 g.1 h.1)
          | inr j ↦
              elim (or_cases _ _ j) [
                | inl i ↦ let v = and_parts _ _ i in
                    let u = and_parts _ _ v.1 in
                    opening_cons E p (place_at q p) ts x xs v.0 h.0 (deeper_at q p (not-true (is_opened q) u.0)) (row_at r opened u.1 xs w.1 g.1 h.1)
                | inr i ↦ let v = and_parts _ _ i in
                    let u = and_parts _ _ v.1 in
                    close_at q ts x xs u.0 v.0 h.0 (row_at r closed u.1 xs w.1 g.1 h.1)
              ]
        ]
    row_at (s.sub a r) q b [] w g h = absurd h
    row_at (s.sub a r) q b (x ∷ xs) w g h = let v = and_parts (inner_nonterminal a) _ b in kept_cons E p (place_at q p) (place_at (further q) p) x xs (same_further q p) (w.0 a v.0 h.0 g.0) (row_at r (further q) v.1 xs w.1 g.1 h.1)
    row_at (s.alt r r') q b xs w g (inl h) = row_at r q (and_parts (balanced q r) _ b).0 xs w g h
    row_at (s.alt r r') q b xs w g (inr h) = row_at r' q (and_parts (balanced q r) _ b).1 xs w g h
    row_at (s.list a ts last r) q b xs w g h =
        let v = and_parts (inner_nonterminal a) _ b in
        let u = and_parts (all_have plain ts) _ v.1 in
        listed_at E p (place_at (further q) p) (stays_at q p) a v.0 (Fits IsNonterminal r) (λ ys. row_at r (further q) u.1 ys) ts last u.0 (place_at q p) (same_further q p) xs w g h
    row_at (s.times group r) q b xs w g h = no_such b
    row_at (s.each a r) q b xs w g h =
        let v = and_parts (inner_nonterminal a) _ b in
        let u = and_parts (balanced q r) _ v.1 in
        several_at E p (place_at (further q) p) (stays_at q p) a v.0 (Fits IsNonterminal r) (λ ys. row_at r (further q) u.1 ys) (place_at q p) (same_further q p) (λ ys. row_at r q u.0 ys) xs w g h

  mutual
    know : (x : Part) → Will x
    know (part.Leaf leaf) a i h g = leaf_kept leaf (of_terminals plain (leaves_at a) leaf (nonterminal_plain a i) h)
    know (Node' kind z r) a i h g =
        let row : (q : Place) → RowAt (λ e. e ≡ same_depth q) q q (items-the_row-Part _ r) =
        λ q. row_at (λ e. e ≡ same_depth q) q refl (bzl_shape kind) start (kind_balanced a kind i h) (items-the_row-Part _ r) (know_row _ r) (legal_row _ r g.1) g.0 in
        record {
          ends_at = λ q. ap (after q) (leaves_rows _ r) ∙ (row q).ends_at;
          goes_on = λ outer here. kind_goes_on a kind here i h;
          same = λ q. (
            λ k. subst (Flat P q) (sym (leaves_rows _ r)) ((row q).flat (parts_of_row (spot_of q) (spot_of q) _ r k)),
            λ k. row_of_parts (spot_of q) (spot_of q) _ r ((row q).tree (subst (Flat P q) (leaves_rows _ r) k)),
          );
        }

    know_row : (m : _) (r : Row_of-Part m) → Wills (items-the_row-Part m r)
    know_row m end_of-Part = tt
    know_row m (more_of-Part x rest) = (know x, know_row _ rest)

  -- ---- lines and files

  abbrev Begun : Place → Type 0
  Begun q = spot_of q ≡ Begins

  newline_at : (p q : Place) (x : Part) (xs : List Part) → Fits IsNonterminal (s.tok s.newline s.done) (x ∷ xs) → RowAt Begun p q (x ∷ xs)
  newline_at p q (part.Leaf leaf) [] h =
      let e : leaf.class ≡ c.Newline = elim (or_cases _ _ h.0) [ inl i ↦ same_class leaf.class c.Newline i | inr i ↦ no_such i ] in
      cons Begun p q (after_newline leaf.token) (part.Leaf leaf) [] (ap (λ z. Rattle.bz_lex.specs.Places.after_token z leaf.token q) e) (ap (λ z. following_token (role z leaf.token) (spot_of p) (spot_of q)) e ∙ sym (spot_newline leaf.token)) (leaf_same q leaf)
      (none_at Begun p (after_newline leaf.token) (spot_newline leaf.token))
  newline_at p q (part.Leaf leaf) (y ∷ xs) h = absurd h.1
  newline_at p q (Node' kind z r) xs h = no_such h.0

  line_end : (p q : Place) (xs : List Part) → Fits IsNonterminal (s.tok s.newline s.done) xs → RowAt Begun p q xs
  line_end p q [] h = absurd h
  line_end p q (x ∷ xs) h = newline_at p q x xs h

  -- a part that ends with a line leaves the place at which a line begins
  record LineKept (q : Place) (x : Part) : Type 0 where
    begins_at : spot_of (after q (leaves_part x)) ≡ Begins
    same : SamePart q x

  -- so does a statement that begins a line, and a suite anywhere
  abbrev Ends_line : Place → (Nonterminal → Type 0) → Type 0
  Ends_line q is_nonterminal = (is_nonterminal s.stmt × Begun q) ⊎ is_nonterminal s.suite

  abbrev LineWill : Part → Type 0
  LineWill x = (q : Place) → Ends_line q (λ a. IsNonterminal a x) → LegalPart x → LineKept q x

  abbrev LineWills : List Part → Type 0
  LineWills xs = AllByRecursion LineWill xs

  begins_after : (kind : Kind) (here : Spot) → has_lines kind ≡ true → after_node kind here ≡ Begins
  begins_after k.Line here h = refl
  begins_after k.Def here h = refl
  begins_after k.IfStmt here h = refl
  begins_after k.ForStmt here h = refl
  begins_after k.Suite here h = refl
  begins_after _ here h = no_such h

  suite_lines : (kind : Kind) → nonterminal_has_kind s.suite kind ≡ true → has_lines kind ≡ true
  suite_lines k.Suite h = refl
  suite_lines k.Line h = refl
  suite_lines _ h = no_such h

  stmt_lines : (kind : Kind) → nonterminal_has_kind s.stmt kind ≡ true → has_lines kind ≡ true
  stmt_lines k.Line h = refl
  stmt_lines k.Def h = refl
  stmt_lines k.IfStmt h = refl
  stmt_lines k.ForStmt h = refl
  stmt_lines _ h = no_such h

  after_suite : (outer here : Spot) (x : Part) → IsNonterminal s.suite x → after_part outer here x ≡ Begins
  after_suite outer here (part.Leaf leaf) h = no_such h
  after_suite outer here (Node' kind z r) h = begins_after kind here (suite_lines kind h)

  after_stmt : (outer here : Spot) (x : Part) → IsNonterminal s.stmt x → after_part outer here x ≡ Begins
  after_stmt outer here (part.Leaf leaf) h = no_such h
  after_stmt outer here (Node' kind z r) h = begins_after kind here (stmt_lines kind h)

  line_cons : (E : Place → Type 0) (p q : Place) (x : Part) (xs : List Part) → after_part (spot_of p) (spot_of q) x ≡ Begins → LineKept q x → RowAt E p (after q (leaves_part x)) xs → RowAt E p q (x ∷ xs)
  line_cons E p q x xs e w h = cons E p q (after q (leaves_part x)) x xs refl (e ∙ sym w.begins_at) w.same h

  -- rows one after the other
  row_append : (E : Place → Type 0) (p q z : Place) (xs ys : List Part) → RowAt (λ e. e ≡ z) p q xs → RowAt E p z ys → RowAt E p q (xs ++ ys)
  row_append E p q z xs ys h g =
      let ls : List Leaf = flat_map leaves_part xs in
      let ms : List Leaf = flat_map leaves_part ys in
      let text = leaves_both xs ys in
      let there : after q (flat_map leaves_part (xs ++ ys)) ≡ after z ms = ap (after q) text ∙ (after-append q ls ms ∙ ap (λ e. after e ms) h.ends_at) in
      let here : spot_after (spot_of p) (spot_of q) xs ≡ spot_of z = h.spot ∙ ap spot_of h.ends_at in
      record {
        ends_at = subst E (sym there) g.ends_at;
        flat = λ k. let w = parts_split (spot_of p) (spot_of q) xs ys k in
            subst (Flat P q) (sym text) (flat_join P q ls ms (h.flat w.0) (subst (λ e. Flat P e ms) (sym h.ends_at) (g.flat (subst (λ e. AtParts P (spot_of p) e ys) here w.1))));
        tree = λ k. let w = flat_parts P q ls ms (subst (Flat P q) text k) in
            parts_join (spot_of p) (spot_of q) xs ys (h.tree w.0) (subst (λ e. AtParts P (spot_of p) e ys) (sym here) (g.tree (subst (λ e. Flat P e ms) h.ends_at w.1)));
        spot = after_both (spot_of p) (spot_of q) xs ys ∙ (ap (λ e. spot_after (spot_of p) e ys) here ∙ (g.spot ∙ ap spot_of (sym there)));
      }
    where
      after_both : (outer here : Spot) (xs ys : List Part) → spot_after outer here (xs ++ ys) ≡ spot_after outer (spot_after outer here xs) ys
      after_both outer here [] ys = refl
      after_both outer here (x ∷ xs) ys = after_both outer (after_part outer here x) xs ys

  exactly : (E : Place → Type 0) (p q : Place) (xs : List Part) → RowAt E p q xs → RowAt (λ e. e ≡ after q (flat_map leaves_part xs)) p q xs
  exactly E p q xs h = record { ends_at = refl; flat = h.flat; tree = h.tree; spot = h.spot }

  -- the node is at another place of the same spot
  outer_same : (E : Place → Type 0) (p p' q : Place) (xs : List Part) → spot_of p ≡ spot_of p' → RowAt E p q xs → RowAt E p' q xs
  outer_same E p p' q xs e h = record {
    ends_at = h.ends_at;
    flat = λ k. h.flat (subst (λ z. AtParts P z (spot_of q) xs) (sym e) k);
    tree = λ k. subst (λ z. AtParts P z (spot_of q) xs) e (h.tree k);
    spot = ap (λ z. spot_after z (spot_of q) xs) (sym e) ∙ h.spot;
  }

  -- a header and its suite
  header_row : (r : Shape) (q : Place) → balanced start r ≡ true → (ps : List Part) → Wills ps → LineWills ps → Legals ps → And (Fits IsNonterminal r) (IsNonterminal s.suite) ps → RowAt Begun q q ps
  header_row r q b ps w l g (hs, x, is, f, i) =
      let w' = both_parts Will hs (x ∷ []) (subst Wills is w) in
      let l' = both_parts LineWill hs (x ∷ []) (subst LineWills is l) in
      let g' = both_parts LegalPart hs (x ∷ []) (subst Legals is g) in
      let kept = l'.1.0 (same_depth q) (inr i) g'.1.0 in
      let front = row_at (λ e. e ≡ same_depth q) q refl r start b hs w'.0 g'.0 f in
      let last = line_cons Begun q (same_depth q) x [] (after_suite (spot_of q) (spot_of (same_depth q)) x i) kept (none_at Begun q (after (same_depth q) (leaves_part x)) kept.begins_at) in
      subst (RowAt Begun q q) (sym is) (row_append Begun q q (same_depth q) hs (x ∷ []) front last)

  branches_row : (p q : Place) → Begun p → Begun q → (ps : List Part) → Wills ps → LineWills ps → Legals ps → Times (Fits IsNonterminal (s.tok (s.one_keyword (codes "elif")) (s.sub s.test s.owned))) (Fits IsNonterminal (s.alt (s.tok (s.one_keyword (codes "else")) s.owned) s.done)) ps → RowAt Begun p q ps
  branches_row p q b c ps w l g (s.no_more (inl h)) =
      outer_same Begun q p q ps (c ∙ sym b) (header_row else_header q refl ps w l g (split_sub IsNonterminal s.suite else_header ps h))
  branches_row p q b c [] w l g (s.no_more (inr h)) = none_at Begun p q c
  branches_row p q b c (x ∷ ps) w l g (s.no_more (inr h)) = absurd h
  branches_row p q b c ps w l g (s.once_more front back is h t) =
      let w' = both_parts Will front back (subst Wills is w) in
      let l' = both_parts LineWill front back (subst LineWills is l) in
      let g' = both_parts LegalPart front back (subst Legals is g) in
      let one = outer_same Begun q p q front (c ∙ sym b) (header_row (test_header (s.one_keyword (codes "elif"))) q refl front w'.0 l'.0 g'.0 (split_sub IsNonterminal s.suite (test_header (s.one_keyword (codes "elif"))) front h)) in
      let z : Place = after q (flat_map leaves_part front) in
      subst (RowAt Begun p q) (sym is) (row_append Begun p q z front back (exactly Begun p q front one) (branches_row p z b one.ends_at back w'.1 l'.1 g'.1 t))

  if_row : (q : Place) → Begun q → (ps : List Part) → Wills ps → LineWills ps → Legals ps → Fits IsNonterminal (bzl_shape k.IfStmt) ps → RowAt Begun q q ps
  if_row q b ps w l g f =
      let x = test_split IsNonterminal (s.one_keyword (codes "if")) s.branches ps f in
      let w' = both_parts Will x.0 x.1 (subst Wills x.2 w) in
      let l' = both_parts LineWill x.0 x.1 (subst LineWills x.2 l) in
      let g' = both_parts LegalPart x.0 x.1 (subst Legals x.2 g) in
      let one = header_row (test_header (s.one_keyword (codes "if"))) q refl x.0 w'.0 l'.0 g'.0 x.3 in
      let z : Place = after q (flat_map leaves_part x.0) in
      subst (RowAt Begun q q) (sym x.2) (row_append Begun q q z x.0 x.1 (exactly Begun q q x.0 one) (branches_row q z b one.ends_at x.1 w'.1 l'.1 g'.1 x.4))

  -- statements one after the other
  stmts_row : (p q : Place) → Begun q → (xs : List Part) → LineWills xs → Legals xs → Several (IsNonterminal s.stmt) (Fits IsNonterminal s.done) xs → RowAt Begun p q xs
  stmts_row p q b [] l g h = none_at Begun p q b
  stmts_row p q b (x ∷ xs) l g (inl h) = absurd h
  stmts_row p q b (x ∷ xs) l g (inr h) =
      let kept = l.0 q (inl (h.0, b)) g.0 in
      line_cons Begun p q x xs (after_stmt (spot_of p) (spot_of q) x h.0) kept (stmts_row p (after q (leaves_part x)) kept.begins_at xs l.1 g.1 h.1)

  suite_row : (q : Place) (ps : List Part) → LineWills ps → Legals ps → Fits IsNonterminal (bzl_shape k.Suite) ps → RowAt Begun q q ps
  suite_row q [] l g f = absurd f
  suite_row q (a ∷ []) l g f = absurd f.1
  suite_row q (a ∷ x ∷ xs) l g f =
      let one = newline_at q q a [] (f.0, tt) in
      let z : Place = after q (flat_map leaves_part (a ∷ [])) in
      row_append Begun q q z (a ∷ []) (x ∷ xs) (exactly Begun q q (a ∷ []) one) (stmts_row q z one.ends_at (x ∷ xs) l.1 g.1 (inr f.1))

  line_row : (q : Place) (ps : List Part) → Wills ps → Legals ps → Fits IsNonterminal (bzl_shape k.Line) ps → RowAt Begun q q ps
  line_row q ps w g f = listed_at Begun q (same_depth q) (same_again q) s.small refl (Fits IsNonterminal (s.tok s.newline s.done)) (λ xs w g k. line_end q (same_depth q) xs k) s.semicolon true refl q refl ps w g f

  node_row : (kind : Kind) (q : Place) (ps : List Part) → Wills ps → LineWills ps → Legals ps → Fits IsNonterminal (bzl_shape kind) ps → Ends_line q (λ a. nonterminal_has_kind a kind ≡ true) → RowAt Begun q q ps
  node_row k.Line q ps w l g f h = line_row q ps w g f
  node_row k.Suite q ps w l g f h = suite_row q ps l g f
  node_row k.Def q ps w l g f h = header_row def_header q refl ps w l g (split_sub IsNonterminal s.suite def_header ps f)
  node_row k.ForStmt q ps w l g f h = header_row for_header q refl ps w l g (split_sub IsNonterminal s.suite for_header ps f)
  node_row k.IfStmt q ps w l g f (inl h) = if_row q h.1 ps w l g f
  node_row k.IfStmt q ps w l g f (inr h) = no_such h
  node_row _ q ps w l g f (inl h) = no_such h.0
  node_row _ q ps w l g f (inr h) = no_such h

  mutual
    know_line : (x : Part) → LineWill x
    know_line (part.Leaf leaf) q (inl h) g = no_such h.0
    know_line (part.Leaf leaf) q (inr h) g = no_such h
    know_line (Node' kind z r) q h g =
        let row = node_row kind q (items-the_row-Part _ r) (know_row _ r) (know_lines _ r) (legal_row _ r g.1) g.0 h in
        record {
          begins_at = ap (λ ls. spot_of (after q ls)) (leaves_rows _ r) ∙ row.ends_at;
          same = (
            λ k. subst (Flat P q) (sym (leaves_rows _ r)) (row.flat (parts_of_row (spot_of q) (spot_of q) _ r k)),
            λ k. row_of_parts (spot_of q) (spot_of q) _ r (row.tree (subst (Flat P q) (leaves_rows _ r) k)),
          );
        }

    know_lines : (m : _) (r : Row_of-Part m) → LineWills (items-the_row-Part m r)
    know_lines m end_of-Part = tt
    know_lines m (more_of-Part x rest) = (know_line x, know_lines _ rest)

  abbrev IsOver : Place → Type 0
  IsOver q = q ≡ Over

  lines_at : (q : Place) → Begun q → (xs : List Part) → Legals xs → Several (IsNonterminal s.stmt) (Fits IsNonterminal (s.tok s.end s.done)) xs → RowAt IsOver Fresh q xs
  lines_at q b [] g h = absurd h
  lines_at q b (part.Leaf leaf ∷ []) g (inl h) =
      let e : leaf.class ≡ c.End = elim (or_cases _ _ h.0) [ inl i ↦ same_class leaf.class c.End i | inr i ↦ no_such i ] in
      cons IsOver Fresh q Over (part.Leaf leaf) [] (ap (λ z. Rattle.bz_lex.specs.Places.after_token z leaf.token q) e) (ap (λ z. following_token (role z leaf.token) Begins (spot_of q)) e) (leaf_same q leaf) (none_at IsOver Fresh Over refl)
  lines_at q b (Node' kind z r ∷ []) g (inl h) = no_such h.0
  lines_at q b (x ∷ y ∷ xs) g (inl h) = absurd h.1
  lines_at q b (x ∷ xs) g (inr h) =
      let kept = know_line x q (inl (h.0, b)) g.0 in
      line_cons IsOver Fresh q x xs (after_stmt Begins (spot_of q) x h.0) kept (lines_at (after q (leaves_part x)) kept.begins_at xs g.1 h.1)

  pub file_at : (n : Node) → IsFile n → (after Fresh (leaves_of n) ≡ Over) × (AtParts P Begins Begins n.parts ↔ Flat P Fresh (leaves_of n))
  file_at n h =
      let fits : Fits IsNonterminal (bzl_shape k.File) n.parts = subst (λ kd. Fits IsNonterminal (bzl_shape kd) n.parts) h.root h.shapes.0 in
      let w = lines_at Fresh refl n.parts h.shapes.1 fits in
      (w.ends_at, (w.flat, w.tree))
