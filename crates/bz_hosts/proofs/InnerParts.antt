-- What the table of shapes says of each part of a node: no part of a line ends it, and the operators of a binary operation
-- are no brackets.
use Rattle.bz_hosts.proofs.Words.{[], ◌&&◌, ◌∙◌, ◌∷◌, ◌≡◌, After, after_node, after_part, AllByRecursion, and_parts, ap, Bool, bytes_eq-Decides, bzl_shape, Class, Class as c, closes, end_of-Part, ends, false, Fits, following_token, frame, has_token, inl, inner_nonterminal, inr, is_binary, is_inner_frame, is_one_of, is_operator_class, is_terminal, IsNonterminal, items-the_row-Part, Kind, Kind as k, Leaf, leaves_at, LegalBy, LegalPart, LegalRow, LegalRowBy, line_shape, List, list_all, Listed, more_of-Part, no_such, Node', Nonterminal, nonterminal_has_kind, not, not-true, not_file, not_lines, onward, opens, or_cases, Part, Part as p, refl, Role, role, Row_of-Part, same_class, Several, Shape, shape, Spot, subst, sym, Terminal, true, whole_shape, Within, ℕ}
use Rattle.bz_grammar.specs.Shapes as s
use Rattle.bz_grammar.specs.Spots.{plain}
use Rattle.bz_hosts.proofs.SeenParts.{all_mapped}

-- ---- a test on shapes for a fact of all their parts

-- every list of tokens passes t, and every sort q
abbrev pub every : (List Terminal → Bool) → (Nonterminal → Bool) → Shape → Bool
every t q s.none = true
every t q s.done = true
every t q (s.tok ts r) = t ts && every t q r
every t q (s.sub a r) = q a && every t q r
every t q (s.alt r r') = every t q r && every t q r'
every t q (s.list a ts last r) = q a && (t ts && every t q r)
every t q (s.each a r) = q a && every t q r
every t q (s.times group r) = false

module _ (P : Part → Type 0) (t : List Terminal → Bool) (q : Nonterminal → Bool) (of_token : (ts : List Terminal) (x : Part) → t ts ≡ true → has_token ts x ≡ true → P x) (of_nonterminal : (a : Nonterminal) (x : Part) → q a ≡ true → IsNonterminal a x → P x) where
  module _ (a : Nonterminal) (passes : q a ≡ true) (K : List Part → Type 0) (rest : (xs : List Part) → K xs → AllByRecursion P xs) where
    mutual
      listed_all : (ts : List Terminal) (last : Bool) → t ts ≡ true → (xs : List Part) → Listed (IsNonterminal a) ts last K xs → AllByRecursion P xs
      listed_all ts last o [] h = absurd h
      listed_all ts last o (x ∷ xs) h = (of_nonterminal a x passes h.0, after_all ts last o xs h.1)

      after_all : (ts : List Terminal) (last : Bool) → t ts ≡ true → (xs : List Part) → After (IsNonterminal a) ts last K xs → AllByRecursion P xs
      after_all ts last o [] h = tt
      after_all ts last o (x ∷ xs) (inl h) = rest (x ∷ xs) h
      after_all ts last o (x ∷ xs) (inr (m, inl h)) = (of_token ts x o m, listed_all ts last o xs h)
      after_all ts last o (x ∷ xs) (inr (m, inr h)) = (of_token ts x o m, rest xs h.1)

    several_all : (xs : List Part) → Several (IsNonterminal a) K xs → AllByRecursion P xs
    several_all [] h = tt
    several_all (x ∷ xs) (inl h) = rest (x ∷ xs) h
    several_all (x ∷ xs) (inr h) = (of_nonterminal a x passes h.0, several_all xs h.1)

  pub every_part : (r : Shape) → every t q r ≡ true → (xs : List Part) → Fits IsNonterminal r xs → AllByRecursion P xs
  every_part s.none b xs h = absurd h
  every_part s.done b [] h = tt
  every_part s.done b (x ∷ xs) h = absurd h
  every_part (s.tok ts r) b [] h = absurd h
  every_part (s.tok ts r) b (x ∷ xs) h = let v = and_parts (t ts) (every t q r) b in (of_token ts x v.0 h.0, every_part r v.1 xs h.1)
  every_part (s.sub a r) b [] h = absurd h
  every_part (s.sub a r) b (x ∷ xs) h = let v = and_parts (q a) (every t q r) b in (of_nonterminal a x v.0 h.0, every_part r v.1 xs h.1)
  every_part (s.alt r r') b xs (inl h) = every_part r (and_parts (every t q r) (every t q r') b).0 xs h
  every_part (s.alt r r') b xs (inr h) = every_part r' (and_parts (every t q r) (every t q r') b).1 xs h
  every_part (s.list a ts last r) b xs h =
      let v = and_parts (q a) _ b in
      let u = and_parts (t ts) _ v.1 in
      listed_all a v.0 (Fits IsNonterminal r) (every_part r u.1) ts last u.0 xs h
  every_part (s.each a r) b xs h = let v = and_parts (q a) _ b in several_all a v.0 (Fits IsNonterminal r) (every_part r v.1) xs h
  every_part (s.times group r) b xs h = no_such b

-- ---- leaves by the terminals that they are

-- What holds of each leaf that is a terminal which passes t: the same of its class and its token.
module _ (Q : Class → List ℕ → Type 0) (t : Terminal → Bool) (of_class : (class : Class) (token : List ℕ) → t (s.any class) ≡ true → Q class token) (of_token : (class : Class) (token : List ℕ) → t (s.this class token) ≡ true → Q class token) where
  of_terminal : (x : Terminal) (l : Leaf) → t x ≡ true → is_terminal x l ≡ true → Q l.class l.token
  of_terminal (s.any class) l h i = subst (λ z. Q z l.token) (sym (same_class l.class class i)) (of_class class l.token h)
  of_terminal (s.this class token) l h i =
      let w = and_parts _ _ i in
      subst (λ z. Q z l.token) (sym (same_class l.class class w.0)) (subst (Q class) (sym ((bytes_eq-Decides l.token token).0 w.1)) (of_token class token h))

  pub of_terminals : (xs : List Terminal) (l : Leaf) → list_all t xs ≡ true → is_one_of xs l ≡ true → Q l.class l.token
  of_terminals [] l h i = no_such i
  of_terminals (x ∷ xs) l h i =
      let w = and_parts (t x) (list_all t xs) h in
      elim (or_cases (is_terminal x l) (is_one_of xs l) i) [ inl e ↦ of_terminal x l w.0 e | inr e ↦ of_terminals xs l w.1 e ]

-- ---- parts inside a line

abbrev pub ends_line : Class → Bool
ends_line c.Newline = true
ends_line c.End = true
ends_line _ = false

abbrev pub inner_kind : Kind → Bool
inner_kind k.File = false
inner_kind k.Line = false
inner_kind k.Def = false
inner_kind k.IfStmt = false
inner_kind k.ForStmt = false
inner_kind k.Suite = false
inner_kind _ = true

-- neither a line's newline nor the end, and no line
abbrev pub is_inner : Part → Bool
is_inner (p.Leaf l) = not (ends_line l.class)
is_inner (Node' kind z r) = inner_kind kind

abbrev inner_terminal : Terminal → Bool
inner_terminal (s.any class) = not (ends_line class)
inner_terminal (s.this class token) = not (ends_line class)

abbrev pub inner_tokens : List Terminal → Bool
inner_tokens ts = list_all inner_terminal ts

tokens_inner : (xs : List Terminal) (l : Leaf) → inner_tokens xs ≡ true → is_one_of xs l ≡ true → not (ends_line l.class) ≡ true
tokens_inner xs l h i = of_terminals (λ class token. not (ends_line class) ≡ true) inner_terminal (λ class token e. e) (λ class token e. e) xs l h i

pub token_inner : (ts : List Terminal) (x : Part) → inner_tokens ts ≡ true → has_token ts x ≡ true → is_inner x ≡ true
token_inner ts (p.Leaf l) h i = tokens_inner ts l h i
token_inner ts (Node' kind z r) h i = no_such i

nonterminal_kind : (a : Nonterminal) (kind : Kind) → inner_nonterminal a ≡ true → nonterminal_has_kind a kind ≡ true → inner_kind kind ≡ true
nonterminal_kind a k.File h i = no_such (sym (not_file a) ∙ i)
nonterminal_kind a k.Line h i = no_such (sym (not_lines a k.Line refl h) ∙ i)
nonterminal_kind a k.Def h i = no_such (sym (not_lines a k.Def refl h) ∙ i)
nonterminal_kind a k.IfStmt h i = no_such (sym (not_lines a k.IfStmt refl h) ∙ i)
nonterminal_kind a k.ForStmt h i = no_such (sym (not_lines a k.ForStmt refl h) ∙ i)
nonterminal_kind a k.Suite h i = no_such (sym (not_lines a k.Suite refl h) ∙ i)
nonterminal_kind a _ h i = refl

leaves_inner : (a : Nonterminal) → inner_nonterminal a ≡ true → inner_tokens (leaves_at a) ≡ true
leaves_inner s.line h = no_such h
leaves_inner s.stmt h = no_such h
leaves_inner s.suite h = no_such h
leaves_inner _ h = refl

pub nonterminal_inner : (a : Nonterminal) (x : Part) → inner_nonterminal a ≡ true → IsNonterminal a x → is_inner x ≡ true
nonterminal_inner a (p.Leaf l) h i = tokens_inner (leaves_at a) l (leaves_inner a h) i
nonterminal_inner a (Node' kind z r) h i = nonterminal_kind a kind h i

kind_inner : (kind : Kind) → inner_kind kind ≡ true → every inner_tokens inner_nonterminal (bzl_shape kind) ≡ true
kind_inner k.File h = no_such h
kind_inner k.Line h = no_such h
kind_inner k.Def h = no_such h
kind_inner k.IfStmt h = no_such h
kind_inner k.ForStmt h = no_such h
kind_inner k.Suite h = no_such h
kind_inner _ h = refl

-- so are all parts of a node inside a line
pub inner_parts : (kind : Kind) → inner_kind kind ≡ true → (xs : List Part) → Fits IsNonterminal (bzl_shape kind) xs → AllByRecursion (λ x. is_inner x ≡ true) xs
inner_parts kind h xs i = every_part (λ x. is_inner x ≡ true) inner_tokens inner_nonterminal token_inner nonterminal_inner (bzl_shape kind) (kind_inner kind h) xs i

-- The grammars of lines and of values are that of .bzl files there.
pub inner_bzl : (kind : Kind) → inner_kind kind ≡ true → (xs : List Part) → Fits IsNonterminal (whole_shape kind) xs → Fits IsNonterminal (bzl_shape kind) xs
inner_bzl k.Def i xs h = no_such i
inner_bzl k.IfStmt i xs h = no_such i
inner_bzl k.ForStmt i xs h = no_such i
inner_bzl k.Suite i xs h = no_such i
inner_bzl _ i xs h = h

pub inner_framed : (kind : Kind) → inner_kind kind ≡ true → is_inner_frame (frame kind) ≡ true
inner_framed k.Suite i = no_such i
inner_framed _ i = refl

-- no suite is in a line
pub line_framed : (kind : Kind) (xs : List Part) → Fits IsNonterminal (line_shape kind) xs → is_inner_frame (frame kind) ≡ true
line_framed k.Suite xs h = absurd h
line_framed _ xs h = refl

pub inner_line : (kind : Kind) → inner_kind kind ≡ true → (xs : List Part) → Fits IsNonterminal (bzl_shape kind) xs → Fits IsNonterminal (line_shape kind) xs
inner_line k.Def i xs h = no_such i
inner_line k.IfStmt i xs h = no_such i
inner_line k.ForStmt i xs h = no_such i
inner_line k.Suite i xs h = no_such i
inner_line _ i xs h = h

-- a token, or a node inside a line
abbrev pub InLine : Part → Type 0
InLine (p.Leaf l) = Unit {0}
InLine (Node' kind n r) = inner_kind kind ≡ true

pub in_line : (x : Part) → is_inner x ≡ true → InLine x
in_line (p.Leaf l) h = tt
in_line (Node' kind n r) h = h

mutual
  -- what is in a line holds none of what is in no line
  pub inner_legal : (x : Part) → InLine x → LegalPart x → LegalBy line_shape x
  inner_legal (p.Leaf l) i h = tt
  inner_legal (Node' kind n r) i h = (inner_line kind i _ h.0, inner_row _ r (all_mapped (λ x. is_inner x ≡ true) InLine in_line _ (inner_parts kind i _ h.0)) h.1)

  pub inner_row : (m : _) (r : Row_of-Part m) → AllByRecursion InLine (items-the_row-Part m r) → LegalRow r → LegalRowBy line_shape r
  inner_row m end_of-Part i h = tt
  inner_row m (more_of-Part x rest) i h = (inner_legal x i.0 h.0, inner_row _ rest i.1 h.1)

-- ---- parts that neither open nor close brackets

abbrev is_turn : Role → Role → Bool
is_turn opens opens = true
is_turn closes closes = true
is_turn ends ends = true
is_turn plain plain = true
is_turn _ _ = false

turn_is : (a b : Role) → is_turn a b ≡ true → a ≡ b
turn_is opens opens h = refl
turn_is closes closes h = refl
turn_is ends ends h = refl
turn_is plain plain h = refl
turn_is _ _ h = no_such h

-- whether each leaf that is this terminal is that to those after it
abbrev turns : Role → Terminal → Bool
turns t (s.any c.Mark) = false
turns t (s.any class) = is_turn (role class []) t
turns t (s.this class token) = is_turn (role class token) t

abbrev pub all_turn : Role → List Terminal → Bool
all_turn t ts = list_all (turns t) ts

class_turns : (t : Role) (class : Class) (token : List ℕ) → turns t (s.any class) ≡ true → role class token ≡ t
class_turns t c.Mark token h = no_such h
class_turns t c.Newline token h = turn_is ends t h
class_turns t c.End token h = turn_is ends t h
class_turns t _ token h = turn_is plain t h

tokens_turn : (t : Role) (xs : List Terminal) (l : Leaf) → all_turn t xs ≡ true → is_one_of xs l ≡ true → role l.class l.token ≡ t
tokens_turn t xs l h i = of_terminals (λ class token. role class token ≡ t) (turns t) (class_turns t) (λ class token e. turn_is (role class token) t e) xs l h i

abbrev pub plain_tokens : List Terminal → Bool
plain_tokens ts = all_turn plain ts

-- after an opening bracket
pub token_opens : (ts : List Terminal) (x : Part) (outer here : Spot) → all_turn opens ts ≡ true → has_token ts x ≡ true → after_part outer here x ≡ Within
token_opens ts (p.Leaf l) outer here h i = ap (λ t. following_token t outer here) (tokens_turn opens ts l h i)
token_opens ts (Node' kind z r) outer here h i = no_such i

-- after a closing one
pub token_closes : (ts : List Terminal) (x : Part) (outer here : Spot) → all_turn closes ts ≡ true → has_token ts x ≡ true → after_part outer here x ≡ onward outer
token_closes ts (p.Leaf l) outer here h i = ap (λ t. following_token t outer here) (tokens_turn closes ts l h i)
token_closes ts (Node' kind z r) outer here h i = no_such i

-- what follows the part is where the part is, but for the first place of a line
abbrev pub GoesOn : Part → Type 0
GoesOn x = (outer here : Spot) → after_part outer here x ≡ onward here

pub leaf_goes : (l : Leaf) → role l.class l.token ≡ plain → GoesOn (p.Leaf l)
leaf_goes l e outer here = ap (λ t. following_token t outer here) e

pub token_goes : (ts : List Terminal) (x : Part) → plain_tokens ts ≡ true → has_token ts x ≡ true → GoesOn x
token_goes ts (p.Leaf l) h i = leaf_goes l (tokens_turn plain ts l h i)
token_goes ts (Node' kind z r) h i = no_such i

pub kind_goes : (kind : Kind) (here : Spot) → inner_kind kind ≡ true → after_node kind here ≡ onward here
kind_goes k.Line here h = no_such h
kind_goes k.Def here h = no_such h
kind_goes k.IfStmt here h = no_such h
kind_goes k.ForStmt here h = no_such h
kind_goes k.Suite here h = no_such h
kind_goes _ here h = refl

leaves_plain : (a : Nonterminal) → plain_tokens (leaves_at a) ≡ true
leaves_plain (s.level n) = refl
leaves_plain _ = refl

pub nonterminal_goes : (a : Nonterminal) (x : Part) → inner_nonterminal a ≡ true → IsNonterminal a x → GoesOn x
nonterminal_goes a (p.Leaf l) h i = leaf_goes l (tokens_turn plain (leaves_at a) l (leaves_plain a) i)
nonterminal_goes a (Node' kind z r) h i = λ outer here. kind_goes kind here (nonterminal_kind a kind h i)

-- ---- binary operations

abbrev begins_nonterminal : Shape → Bool
begins_nonterminal (s.sub a r) = true
begins_nonterminal _ = false

kind_binary : (kind : Kind) → is_binary kind ≡ true → (begins_nonterminal (whole_shape kind) && every plain_tokens inner_nonterminal (whole_shape kind)) ≡ true
kind_binary k.Or h = refl
kind_binary k.And h = refl
kind_binary k.Compare h = refl
kind_binary k.BitOr h = refl
kind_binary k.Xor h = refl
kind_binary k.BitAnd h = refl
kind_binary k.Shift h = refl
kind_binary k.Sum h = refl
kind_binary k.Product h = refl
kind_binary _ h = no_such h

-- no part of one is a bracket
pub binary_goes : (kind : Kind) → is_binary kind ≡ true → (xs : List Part) → Fits IsNonterminal (whole_shape kind) xs → AllByRecursion GoesOn xs
binary_goes kind h xs i = every_part GoesOn plain_tokens inner_nonterminal token_goes nonterminal_goes (whole_shape kind) (and_parts _ _ (kind_binary kind h)).1 xs i

-- and it begins with an operand
pub binary_begins : (kind : Kind) → is_binary kind ≡ true → (x : Part) (xs : List Part) → Fits IsNonterminal (whole_shape kind) (x ∷ xs) → (a : Nonterminal) × IsNonterminal a x
binary_begins kind h x xs i = front (whole_shape kind) (and_parts _ _ (kind_binary kind h)).0 i
  where
    front : (r : Shape) → begins_nonterminal r ≡ true → Fits IsNonterminal r (x ∷ xs) → (a : Nonterminal) × IsNonterminal a x
    front (s.sub a r) b j = (a, j.0)
    front _ b j = no_such b

abbrev unsigned : Terminal → Bool
unsigned (s.any class) = not (is_operator_class class)
unsigned (s.this class token) = not (is_operator_class class)

leaves_unsigned : (a : Nonterminal) → list_all unsigned (leaves_at a) ≡ true
leaves_unsigned (s.level n) = refl
leaves_unsigned _ = refl

-- a leaf that has a sort is no sign
pub nonterminal_unsigned : (a : Nonterminal) (l : Leaf) → IsNonterminal a (p.Leaf l) → is_operator_class l.class ≡ false
nonterminal_unsigned a l i =
    let none = λ (class : Class) (token : List ℕ) (e : not (is_operator_class class) ≡ true). not-true (is_operator_class class) e in
    of_terminals (λ class token. is_operator_class class ≡ false) unsigned none none (leaves_at a) l (leaves_unsigned a) i
