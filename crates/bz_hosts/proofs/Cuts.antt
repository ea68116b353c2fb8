-- Where single tokens are in a legal tree: a node with a sequence is cut at its opening bracket; after it items and commas
-- alternate, as statements and semicolons do in a line.
use Rattle.bz_hosts.proofs.Words.{[], ◌++◌, ◌∷◌, ◌≡◌, after_part, AllByRecursion, ap, Bool, Class, done, drop, false, Fits, Frame, frame, has_token, inl, inner_nonterminal, inr, is_one_of, is_word_class, IsNonterminal, items, Kind, Kind as k, lead, Leaf, leaves_at, List, list_all, Listed, no_such, Node', Nonterminal, not, not-true, opens, Part, Part as p, refl, role, sequence, Shape, Spot, subst, suc, take, Terminal, tok, true, whole_shape, Within, zero, ℕ}
use Rattle.bz_token.specs.declared.class.Class.TheVariants as c
use Rattle.bz_grammar.specs.Shapes as s
use Rattle.bz_grammar.specs.Spots.{plain}
use Rattle.bz_grammar.proofs.Terminals.{disjoint, disjoint-one_of}
use Rattle.bz_hosts.proofs.Alternating.{IsItem, IsMark, Alternating}
use Rattle.bz_hosts.proofs.InnerParts.{GoesOn, all_turn, kind_goes, leaf_goes, nonterminal_inner, of_terminals, token_goes, token_opens}

-- ---- tokens that are words, and tokens that are none

abbrev class_in : Terminal → Class
class_in (s.any class) = class
class_in (s.this class token) = class

abbrev is_word : Terminal → Bool
is_word x = is_word_class (class_in x)

abbrev pub no_words : List Terminal → Bool
no_words ts = list_all (λ x. not (is_word x)) ts

words : (xs : List Terminal) (l : Leaf) → list_all is_word xs ≡ true → is_one_of xs l ≡ true → is_word_class l.class ≡ true
words xs l h i = of_terminals (λ class token. is_word_class class ≡ true) is_word (λ class token e. e) (λ class token e. e) xs l h i

wordless : (xs : List Terminal) (l : Leaf) → no_words xs ≡ true → is_one_of xs l ≡ true → is_word_class l.class ≡ false
wordless xs l h i =
    let none = λ (class : Class) (token : List ℕ) (e : not (is_word_class class) ≡ true). not-true (is_word_class class) e in
    of_terminals (λ class token. is_word_class class ≡ false) (λ x. not (is_word x)) none none xs l h i

leaves_words : (a : Nonterminal) → list_all is_word (leaves_at a) ≡ true
leaves_words (s.level n) = refl
leaves_words _ = refl

pub nonterminal_item : (a : Nonterminal) (x : Part) → inner_nonterminal a ≡ true → IsNonterminal a x → IsItem x
nonterminal_item a (p.Leaf l) i h = words (leaves_at a) l (leaves_words a) h
nonterminal_item a (Node' kind n r) i h = nonterminal_inner a (Node' kind n r) i h

token_item : (ts : List Terminal) (x : Part) → list_all is_word ts ≡ true → has_token ts x ≡ true → IsItem x
token_item ts (p.Leaf l) w h = words ts l w h
token_item ts (Node' kind n r) w h = no_such h

-- neither items nor commas open or close brackets

word_plain : (class : Class) (token : List ℕ) → is_word_class class ≡ true → role class token ≡ plain
word_plain c.Name token h = refl
word_plain c.Number token h = refl
word_plain c.String token h = refl
word_plain _ token h = no_such h

pub item_goes : (x : Part) → IsItem x → GoesOn x
item_goes (p.Leaf l) h = leaf_goes l (word_plain l.class l.token h)
item_goes (Node' kind n r) h = λ outer here. kind_goes kind here h

pub comma_goes : (y : Part) → IsMark s.comma_mark true y → GoesOn y
comma_goes (p.Leaf l) h = token_goes s.comma_mark (p.Leaf l) refl h.1
comma_goes (Node' kind n r) h = absurd h

-- ---- tokens

-- a token
abbrev pub is_token : Part → Bool
is_token (p.Leaf l) = true
is_token (Node' kind n r) = false

pub token : (ts : List Terminal) (x : Part) → has_token ts x ≡ true → is_token x ≡ true
token ts (p.Leaf l) h = refl
token ts (Node' kind n r) h = no_such h

pub mark_token : (separators : List Terminal) (b : Bool) (x : Part) → IsMark separators b x → is_token x ≡ true
mark_token separators b (p.Leaf l) h = refl
mark_token separators b (Node' kind n r) h = absurd h

-- the part at this index is an opening bracket
abbrev pub BracketAt : ℕ → List Part → Type 0
BracketAt n [] = ⊥
BracketAt zero (x ∷ xs) = (is_token x ≡ true) × ((outer here : Spot) → after_part outer here x ≡ Within)
BracketAt (suc n) (x ∷ xs) = BracketAt n xs

pub bracket : (ts : List Terminal) (x : Part) → all_turn opens ts ≡ true → has_token ts x ≡ true → (is_token x ≡ true) × ((outer here : Spot) → after_part outer here x ≡ Within)
bracket ts x o h = (token ts x h, λ outer here. token_opens ts x outer here o h)

-- ---- items, separators and a closing token

module _ (separators close : List Terminal) (none : no_words separators ≡ true) (none' : no_words close ≡ true) (apart : disjoint close separators ≡ true) where
  pub separator_mark : (y : Part) → has_token separators y ≡ true → IsMark separators true y
  separator_mark (p.Leaf l) h = (wordless separators l none h, h)
  separator_mark (Node' kind n r) h = no_such h

  pub closing_mark : (z : Part) → has_token close z ≡ true → IsMark separators false z
  closing_mark (p.Leaf l) h = (wordless close l none' h, disjoint-one_of l close separators apart h)
  closing_mark (Node' kind n r) h = no_such h

  ends_alternating : (z : Part) (xs : List Part) → Fits IsNonterminal (tok close done) (z ∷ xs) → Alternating separators (z ∷ xs)
  ends_alternating z [] h = closing_mark z h.0
  ends_alternating z (x ∷ xs) h = absurd h.1

  pub listed_alternating : (q : Nonterminal) → inner_nonterminal q ≡ true → (xs : List Part) → Listed (IsNonterminal q) separators true (Fits IsNonterminal (tok close done)) xs → Alternating separators xs
  listed_alternating q o [] h = absurd h
  listed_alternating q o (x ∷ []) h = absurd h.1
  listed_alternating q o (x ∷ y ∷ []) (h, inl i) = (nonterminal_item q x o h, closing_mark y i.0)
  listed_alternating q o (x ∷ y ∷ []) (h, inr (m, inl i)) = absurd i
  listed_alternating q o (x ∷ y ∷ []) (h, inr (m, inr i)) = absurd i.1
  listed_alternating q o (x ∷ y ∷ z ∷ xs) (h, inl i) = absurd i.1
  listed_alternating q o (x ∷ y ∷ z ∷ xs) (h, inr (m, inl i)) = (nonterminal_item q x o h, separator_mark y m, listed_alternating q o (z ∷ xs) i)
  listed_alternating q o (x ∷ y ∷ z ∷ xs) (h, inr (m, inr i)) = (nonterminal_item q x o h, separator_mark y m, ends_alternating z xs i.1)

-- ---- sequences

module _ (close : List Terminal) (none' : no_words close ≡ true) (apart : disjoint close s.comma_mark ≡ true) where
  items_alternating : (q : Nonterminal) → inner_nonterminal q ≡ true → (xs : List Part) → Fits IsNonterminal (items q close) xs → Alternating s.comma_mark xs
  items_alternating q o [] (inl h) = absurd h
  items_alternating q o [] (inr h) = absurd h
  items_alternating q o (x ∷ xs) (inl h) = ends_alternating s.comma_mark close refl none' apart x xs h
  items_alternating q o (x ∷ xs) (inr h) = listed_alternating s.comma_mark close refl none' apart q o (x ∷ xs) h

  -- an item, a comma, and then items; or the item alone
  one_alternating : (q : Nonterminal) → inner_nonterminal q ≡ true → (x : Part) (xs : List Part) → IsItem x → Fits IsNonterminal (s.alt (tok close done) (tok s.comma_mark (items q close))) xs → Alternating s.comma_mark (x ∷ xs)
  one_alternating q o x [] i (inl h) = absurd h
  one_alternating q o x [] i (inr h) = absurd h
  one_alternating q o x (z ∷ []) i (inl h) = (i, closing_mark s.comma_mark close refl none' apart z h.0)
  one_alternating q o x (z ∷ y ∷ xs) i (inl h) = absurd h.1
  one_alternating q o x (y ∷ []) i (inr (m, inl h)) = absurd h
  one_alternating q o x (y ∷ []) i (inr (m, inr h)) = absurd h
  one_alternating q o x (y ∷ z ∷ xs) i (inr h) = (i, separator_mark s.comma_mark close refl none' apart y h.0, items_alternating q o (z ∷ xs) h.1)

-- the parts of a node before its opening bracket, and those after it
pub record Cut (n : ℕ) (xs : List Part) : Type 0 where
  pub opener : Leaf
  pub parts : xs ≡ take n xs ++ p.Leaf opener ∷ drop (suc n) xs
  pub front : take (suc n) xs ≡ take n xs ++ p.Leaf opener ∷ []
  pub bracket_at : BracketAt n xs
  pub alternating : Alternating s.comma_mark (drop (suc n) xs)
  pub tokens : AllByRecursion (λ x. is_token x ≡ true) (drop 1 (take n xs))

-- of a node that begins with its opening bracket, and of one with a part before it
opened : (open_ : List Terminal) (rest : Shape) → all_turn opens open_ ≡ true → ((xs : List Part) → Fits IsNonterminal rest xs → Alternating s.comma_mark xs) → (xs : List Part) → Fits IsNonterminal (tok open_ rest) xs → Cut zero xs
opened open_ rest o f [] h = absurd h
opened open_ rest o f (p.Leaf l ∷ xs) h = record { opener = l; parts = refl; front = refl; bracket_at = bracket open_ (p.Leaf l) o h.0; alternating = f xs h.1; tokens = tt }
opened open_ rest o f (Node' kind n r ∷ xs) h = no_such h.0

after_one : (n : ℕ) (x : Part) (xs : List Part) → AllByRecursion (λ y. is_token y ≡ true) (take n xs) → Cut n xs → Cut (suc n) (x ∷ xs)
after_one n x xs t c = record { opener = c.opener; parts = ap (λ ys. x ∷ ys) c.parts; front = ap (λ ys. x ∷ ys) c.front; bracket_at = c.bracket_at; alternating = c.alternating; tokens = t }

abbrev one_of : Nonterminal → List Terminal → Shape
one_of q close = s.alt (tok close done) (tok s.comma_mark (items q close))

loaded_alternating : (xs : List Part) → Fits IsNonterminal (tok s.string (one_of s.loaded s.close_round)) xs → Alternating s.comma_mark xs
loaded_alternating [] h = absurd h
loaded_alternating (y ∷ xs) h = one_alternating s.close_round refl refl s.loaded refl y xs (token_item s.string y refl h.0) h.1

tuple_alternating : (xs : List Part) → Fits IsNonterminal (s.alt (tok s.close_round done) (s.sub s.test (tok s.comma_mark (items s.test s.close_round)))) xs → Alternating s.comma_mark xs
tuple_alternating [] (inl i) = absurd i
tuple_alternating [] (inr i) = absurd i
tuple_alternating (x ∷ xs) (inl i) = ends_alternating s.comma_mark s.close_round refl refl refl x xs i
tuple_alternating (x ∷ xs) (inr i) = one_alternating s.close_round refl refl s.test refl x xs (nonterminal_item s.test x refl i.0) (inr i.1)

abbrev pub CutIn : Frame → Kind → List Part → Type 0
CutIn (sequence opener closer) kind xs = Cut (lead kind) xs
CutIn _ kind xs = Unit {0}

pub kind_cut : (kind : Kind) (xs : List Part) → Fits IsNonterminal (whole_shape kind) xs → CutIn (frame kind) kind xs
kind_cut k.Call [] h = absurd h
kind_cut k.Call (x ∷ xs) h = after_one 0 x xs tt (opened s.open_round (items s.argument s.close_round) refl (items_alternating s.close_round refl refl s.argument refl) xs h.1)
kind_cut k.Load [] h = absurd h
kind_cut k.Load (x ∷ xs) h = after_one 0 x xs tt (opened s.open_round (tok s.string (one_of s.loaded s.close_round)) refl loaded_alternating xs h.1)
kind_cut k.Tuple xs h = opened s.open_round (s.alt (tok s.close_round done) (s.sub s.test (tok s.comma_mark (items s.test s.close_round)))) refl tuple_alternating xs h
kind_cut k.List xs h = opened s.open_square (items s.test s.close_square) refl (items_alternating s.close_square refl refl s.test refl) xs h
kind_cut k.Dict xs h = opened s.open_curly (items s.entry s.close_curly) refl (items_alternating s.close_curly refl refl s.entry refl) xs h
kind_cut k.Def [] h = absurd h
kind_cut k.Def (x ∷ []) h = absurd h.1
kind_cut k.Def (x ∷ y ∷ xs) h = after_one 1 x (y ∷ xs) (token s.name y h.1.0, tt) (after_one 0 y xs tt (opened s.open_round (items s.param s.close_round) refl (items_alternating s.close_round refl refl s.param refl) xs h.1.1))
kind_cut _ xs h = tt

pub sequence_cut : (kind : Kind) (opener closer : ℕ) (xs : List Part) → frame kind ≡ sequence opener closer → Fits IsNonterminal (whole_shape kind) xs → Cut (lead kind) xs
sequence_cut kind opener closer xs e h = subst (λ f. CutIn f kind xs) e (kind_cut kind xs h)
