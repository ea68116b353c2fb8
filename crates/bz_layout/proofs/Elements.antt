-- What a part of a node is, known by its neighbours in the shape: the items of sequences, what is before a bracket, and
-- what is in a comprehension.
use Rattle.bz_layout.proofs.Words.{[], ◌&&◌, ◌++◌, ◌||◌, ◌∷◌, ◌≡◌, AllByRecursion, and_from, and_parts, apart, Bool, both_ways, bytes_eq-Decides, Class, Class as c, codes, comma, compound, each_with_comma, false, Fits, Frame, frame, has_brackets, has_nonterminal, has_token, in_frame, inl, inner_kind, inr, is_compound, is_comprehension, is_lone, is_one_of, is_spaced_after, is_spaced_before, is_terminal, is_value, IsNonterminal, Kind, Kind as k, Leaf, leaves_at, line_shape, List, list_all, lone, mark_leaf, no_such, Node', None, Nonterminal, not, not-true, of_terminals, opens, or_cases, or_left, or_right, Part, Part as p, refl, role, row, row_in, same_class, sequence, Shape, Some, space_after, space_before, subst, sym, Terminal, true, whole_shape, ℕ}
use Rattle.bz_grammar.specs.Shapes as s
use Rattle.bz_layout.proofs.Neighbours.{Element, T, S, Is, passes, Pair, Links, links, never_lone, spaced, is_word}

-- ---- the spaces of the layout: what the elements of a shape require, the parts show

lone_word : (class : Class) (t : List ℕ) → is_word class ≡ true → lone (s.this class t) ≡ false
lone_word c.Mark t h = no_such h
lone_word _ t h = refl

never_any : (class : Class) (t : List ℕ) → never_lone (s.any class) ≡ true → lone (s.this class t) ≡ false
never_any c.Mark t h = no_such h
never_any _ t h = refl

-- the leaves that have a sort are names, numbers and strings
abbrev pub word_terminal : Terminal → Bool
word_terminal (s.any class) = is_word class
word_terminal (s.this class t) = false

nonterminal_words : (a : Nonterminal) → list_all word_terminal (leaves_at a) ≡ true
nonterminal_words (s.level n) = refl
nonterminal_words _ = refl

pub word_leaf : (ts : List Terminal) (l : Leaf) → list_all word_terminal ts ≡ true → is_one_of ts l ≡ true → is_word l.class ≡ true
word_leaf ts l h i = of_terminals (λ class t. is_word class ≡ true) word_terminal (λ class t w. w) (λ class t f. no_such f) ts l h i

pub value_of : (a : Nonterminal) (x : Part) → IsNonterminal a x → is_value x ≡ true
value_of a (p.Leaf l) h = word_leaf (leaves_at a) l (nonterminal_words a) h
value_of a (Node' k z r) h = refl

not_lone : (y : Part) → is_value y ≡ true → is_lone y ≡ false
not_lone (p.Leaf l) h = lone_word l.class l.token h
not_lone (Node' k z r) h = refl

after_of : (kind : Kind) (ts : List Terminal) (x : Part) → list_all (space_after kind) ts ≡ true → Is (T ts) x → is_spaced_after kind x ≡ true
after_of kind ts (p.Leaf l) h i = of_terminals (λ class t. space_after kind (s.this class t) ≡ true) (space_after kind) (λ class t f. no_such f) (λ class t w. w) ts l h i
after_of kind ts (Node' k z r) h i = no_such i

before_of : (kind : Kind) (us : List Terminal) (y : Part) → list_all (space_before kind) us ≡ true → Is (T us) y → is_spaced_before kind y ≡ true
before_of kind us (p.Leaf l) h i = of_terminals (λ class t. space_before kind (s.this class t) ≡ true) (space_before kind) (λ class t f. no_such f) (λ class t w. w) us l h i
before_of kind us (Node' k z r) h i = no_such i

never_of : (us : List Terminal) (y : Part) → list_all never_lone us ≡ true → Is (T us) y → is_lone y ≡ false
never_of us (p.Leaf l) h i = of_terminals (λ class t. lone (s.this class t) ≡ false) never_lone never_any (λ class t w. not-true _ w) us l h i
never_of us (Node' k z r) h i = no_such i

by_after : (a b d : Bool) → a ≡ true → b ≡ false → ((a && not b) || d) ≡ true
by_after a b d h i = rw (h, i) refl

by_before : (a b d : Bool) → b ≡ true → (a || (b || d)) ≡ true
by_before a b d h = or_right a (b || d) (or_left b d h)

by_values : (a b d e : Bool) → d ≡ true → e ≡ true → (a || (b || (d && e))) ≡ true
by_values a b d e h i = or_right a (b || (d && e)) (or_right b (d && e) (and_from d e h i))

-- where the elements require a space, the parts show that they do
pub spaced_apart : (kind : Kind) (a b : Element) (x y : Part) → Is a x → Is b y → spaced kind a b ≡ true → apart kind x y ≡ true
spaced_apart kind (S a) (S b) x y i j h = by_values _ _ _ _ (value_of a x i) (value_of b y j)
spaced_apart kind (S a) (T us) x y i j h = by_before _ _ _ (before_of kind us y h j)
spaced_apart kind (T ts) (S b) x y i j h = by_after _ _ _ (after_of kind ts x h i) (not_lone y (value_of b y j))
spaced_apart kind (T ts) (T us) x y i j h =
    elim (or_cases (list_all (space_after kind) ts && list_all never_lone us) _ h) [
      | inl e ↦ let w = and_parts (list_all (space_after kind) ts) _ e in by_after _ _ _ (after_of kind ts x w.0 i) (never_of us y w.1 j)
      | inr e ↦ by_before _ _ _ (before_of kind us y e j)
    ]

abbrev pub is : Element → Part → Bool
is (T ts) x = has_token ts x
is (S a) x = has_nonterminal a x

is_so : (a : Element) (x : Part) → Is a x → is a x ≡ true
is_so (T ts) x h = h
is_so (S a) x h = h

abbrev pub any_last : Element → Bool
any_last a = true

-- ---- a part that no element of the shape is, is not in it

abbrev pub other_than : Part → Element → Element → Bool
other_than m a b = not (is b m)

none_after : (m x : Part) (ps rest : List Part) → Links (other_than m) any_last x (ps ++ (m ∷ rest)) → ⊥
none_after m x [] rest h = both_ways (is h.0.1 m) (not-true _ h.0.4) (is_so h.0.1 m h.0.3)
none_after m x (y ∷ ps) rest h = none_after m y ps rest h.1

pub none_is : (m : Part) (r : Shape) (a : Element) (x : Part) → Is a x → passes (other_than m) any_last (Some a) r ≡ true → (ps rest : List Part) → Fits IsNonterminal r (ps ++ (m ∷ rest)) → ⊥
none_is m r a x i t ps rest h = none_after m x ps rest (links (other_than m) any_last r (Some a) x i t (ps ++ (m ∷ rest)) h)

-- ---- items are no tokens of their row

abbrev pub valued : Element → Bool
valued (T ts) = list_all word_terminal ts
valued (S a) = true

valued_part : (a : Element) (x : Part) → Is a x → valued a ≡ true → is_value x ≡ true
valued_part (T ts) (p.Leaf l) i h = word_leaf ts l h i
valued_part (T ts) (Node' kind z r) i h = no_such i
valued_part (S a) x i h = value_of a x i

abbrev pub AreValues : List Part → Type 0
AreValues xs = AllByRecursion (λ x. is_value x ≡ true) xs

abbrev pub before_comma : Element → Element → Bool
before_comma a b = valued a || not (is b (mark_leaf comma))

value_before : (x : Part) → Pair before_comma any_last x (mark_leaf comma) → is_value x ≡ true
value_before x w =
    elim (or_cases (valued w.0) _ w.4) [
      | inl e ↦ valued_part w.0 x w.2 e
      | inr e ↦ absurd (both_ways (is w.1 (mark_leaf comma)) (not-true _ e) (is_so w.1 (mark_leaf comma) w.3))
    ]

item_values : (z : Part) (xs rest : List Part) → Links before_comma any_last z (each_with_comma xs ++ rest) → AreValues xs
item_values z [] rest h = tt
item_values z (x ∷ xs) rest h = (value_before x h.1.0, item_values (mark_leaf comma) xs rest h.1.1)

after_head : (x : Part) (ps : List Part) (m : Part) (rest : List Part) → Links before_comma any_last x (ps ++ (m ∷ rest)) → Links before_comma any_last m rest
after_head x [] m rest h = h.1
after_head x (y ∷ ps) m rest h = after_head y ps m rest h.1

-- the items between brackets in a row, with what is after the last comma
pub enclosed_values : (r : Shape) → passes before_comma any_last None r ≡ true → (o : ℕ) (parts items rest : List Part) → Fits IsNonterminal r (parts ++ (mark_leaf o ∷ (each_with_comma items ++ rest))) → AreValues items
enclosed_values r t o [] items rest h = item_values (mark_leaf o) items rest (links before_comma any_last r None (mark_leaf o) tt t (mark_leaf o ∷ (each_with_comma items ++ rest)) h)
enclosed_values r t o (x ∷ parts) items rest h =
    item_values (mark_leaf o) items rest (after_head x parts (mark_leaf o) (each_with_comma items ++ rest) (links before_comma any_last r None x tt t (x ∷ (parts ++ (mark_leaf o ∷ (each_with_comma items ++ rest)))) h))

in_brackets : (r : Shape) (f : Frame) → (has_brackets f ≡ true → passes before_comma any_last None r ≡ true) → (parts items : List Part) → Fits IsNonterminal r (row_in f parts items) → in_frame f (Unit {0}) (AreValues items) (Unit {0})
in_brackets r row t parts items h = tt
in_brackets r (sequence o e) t parts items h = enclosed_values r (t refl) o parts items (mark_leaf e ∷ []) h
in_brackets r compound t parts items h = tt

brackets_pass : (kind : Kind) → has_brackets (frame kind) ≡ true → passes before_comma any_last None (whole_shape kind) ≡ true
brackets_pass k.Call h = refl
brackets_pass k.Load h = refl
brackets_pass k.Tuple h = refl
brackets_pass k.List h = refl
brackets_pass k.Dict h = refl
brackets_pass k.Def h = refl
brackets_pass _ h = no_such h

-- the items of each sequence
pub items_values : (kind : Kind) (parts items : List Part) → Fits IsNonterminal (whole_shape kind) (row_in (frame kind) parts items) → in_frame (frame kind) (Unit {0}) (AreValues items) (Unit {0})
items_values kind parts items h = in_brackets (whole_shape kind) (frame kind) (brackets_pass kind) parts items h

-- ---- comprehensions: an opening bracket, and then no tokens of their row but the last

abbrev pub Inside : List Part → Type 0
Inside [] = Unit {0}
Inside (x ∷ []) = Unit {0}
Inside (x ∷ y ∷ ys) = (is_value x ≡ true) × Inside (y ∷ ys)

abbrev pub IsOpening : Part → Type 0
IsOpening (p.Leaf l) = role l.class l.token ≡ opens
IsOpening (Node' kind z r) = ⊥

abbrev pub Opened : List Part → Type 0
Opened [] = ⊥
Opened (x ∷ xs) = IsOpening x × Inside xs

abbrev value_first : Element → Element → Bool
value_first a b = valued a

inside : (x : Part) (xs : List Part) → Links value_first any_last x xs → Inside (x ∷ xs)
inside x [] h = tt
inside x (y ∷ ys) h = (valued_part h.0.0 x h.0.2 h.0.4, inside y ys h.1)

after_opening : (r : Shape) → passes value_first any_last None r ≡ true → (xs : List Part) → Fits IsNonterminal r xs → Inside xs
after_opening r t [] h = tt
after_opening r t (x ∷ xs) h = inside x xs (links value_first any_last r None x tt t (x ∷ xs) h)

pub this_leaf : (class : Class) (t : List ℕ) (l : Leaf) → is_one_of (s.this class t ∷ []) l ≡ true → (l.class ≡ class) × (l.token ≡ t)
this_leaf class t l h =
    elim (or_cases (is_terminal (s.this class t) l) false h) [
      | inl e ↦ let w = and_parts (s.is_class l.class class) _ e in (same_class l.class class w.0, (bytes_eq-Decides l.token t).0 w.1)
      | inr e ↦ no_such e
    ]

opening : (t : List ℕ) → role c.Mark t ≡ opens → (x : Part) → has_token (s.one_mark t) x ≡ true → IsOpening x
opening t o (p.Leaf l) h = let w = this_leaf c.Mark t l h in subst (λ z. role z l.token ≡ opens) (sym w.0) (subst (λ z. role c.Mark z ≡ opens) (sym w.1) o)
opening t o (Node' kind z r) h = no_such h

pub comprehension : (kind : Kind) → is_comprehension kind ≡ true → (xs : List Part) → Fits IsNonterminal (whole_shape kind) xs → Opened xs
comprehension k.ListComp o [] h = absurd h
comprehension k.ListComp o (x ∷ xs) h = (opening (codes "[") refl x h.0, after_opening (s.sub s.test (s.sub s.first_clause (s.each s.clause (s.tok s.close_square s.done)))) refl xs h.1)
comprehension k.DictComp o [] h = absurd h
comprehension k.DictComp o (x ∷ xs) h = (opening (codes "{") refl x h.0, after_opening (s.sub s.entry (s.sub s.first_clause (s.each s.clause (s.tok s.close_curly s.done)))) refl xs h.1)
comprehension _ o xs h = no_such o

-- ---- no row is empty, and one without a newline and an end is no line and no file

pub some_part : (kind : Kind) → is_compound (frame kind) ≡ false → Fits IsNonterminal (whole_shape kind) [] → ⊥
some_part k.File e h = h
some_part k.Param e (inl h) = h
some_part k.Param e (inr (inl h)) = h
some_part k.Param e (inr (inr h)) = h
some_part k.IfStmt e (inl h) = h
some_part k.IfStmt e (inr (inl h)) = h
some_part k.IfStmt e (inr (inr h)) = h
some_part k.Suite e h = no_such (sym e)
some_part _ e h = absurd h

abbrev pub in_line_class : Class → Bool
in_line_class c.Newline = false
in_line_class c.End = false
in_line_class _ = true

abbrev pub in_line_part : Part → Bool
in_line_part (p.Leaf l) = in_line_class l.class
in_line_part (Node' kind z r) = true

abbrev pub InLine : List Part → Type 0
InLine xs = AllByRecursion (λ x. in_line_part x ≡ true) xs

abbrev pub any_two : Element → Element → Bool
any_two a b = true

abbrev ends_line : Terminal → Bool
ends_line (s.any class) = not (in_line_class class)
ends_line (s.this class t) = false

abbrev line_last : Element → Bool
line_last (T ts) = list_all ends_line ts
line_last (S a) = false

line_end : (ts : List Terminal) (l : Leaf) → list_all ends_line ts ≡ true → is_one_of ts l ≡ true → in_line_class l.class ≡ false
line_end ts l h i = of_terminals (λ class t. in_line_class class ≡ false) ends_line (λ class t w. not-true _ w) (λ class t f. no_such f) ts l h i

last_ends : (x : Part) (xs : List Part) → Links any_two line_last x xs → InLine (x ∷ xs) → ⊥
last_ends (p.Leaf l) [] (T ts, i, o) h = both_ways (in_line_class l.class) (line_end ts l o i) h.0
last_ends (Node' kind z r) [] (T ts, i, o) h = no_such i
last_ends x [] (S a, i, o) h = no_such o
last_ends x (y ∷ ys) w h = last_ends y ys w.1 h.1

no_line : (r : Shape) → passes any_two line_last None r ≡ true → (Fits IsNonterminal r [] → ⊥) → (xs : List Part) → Fits IsNonterminal r xs → InLine xs → ⊥
no_line r t e [] h i = e h
no_line r t e (x ∷ xs) h i = last_ends x xs (links any_two line_last r None x tt t (x ∷ xs) h) i

pub within_line : (kind : Kind) (xs : List Part) → Fits IsNonterminal (line_shape kind) xs → InLine xs → inner_kind kind ≡ true
within_line k.File xs h i = absurd (no_line (line_shape k.File) refl (some_part k.File refl) xs h i)
within_line k.Line xs h i = absurd (no_line (line_shape k.Line) refl (some_part k.Line refl) xs h i)
within_line k.Def xs h i = absurd h
within_line k.IfStmt xs h i = absurd h
within_line k.ForStmt xs h i = absurd h
within_line k.Suite xs h i = absurd h
within_line _ xs h i = refl
