-- Which parts of a node are beside each other, by a computed test on its shape.
use Rattle.bz_layout.proofs.Words.{[], ◌&&◌, ◌||◌, ◌∷◌, ◌≡◌, and_parts, Bool, both_ways, Class, Class as c, codes, false, Fits, from_table, has_token, inl, inner_kind, inr, is_dot_terminal, IsNonterminal, Kind, Kind as k, line_shape, List, list_all, Listed, lone, nat_eq, None, Nonterminal, not, Option, Part, refl, Several, Shape, Some, space_after, space_before, starts, Terminal, true, ℕ}
use Rattle.bz_grammar.specs.Shapes as s

-- what is at a place of a shape
pub data Element : Type 0 where
  T : List Terminal → Element
  S : Nonterminal → Element

abbrev pub Is : Element → Part → Type 0
Is (T ts) x = has_token ts x ≡ true
Is (S a) x = IsNonterminal a x

-- names, numbers and strings
abbrev pub is_word : Class → Bool
is_word class = s.is_class class c.Name || (s.is_class class c.Number || s.is_class class c.String)

abbrev pub is_number : Class → Bool
is_number class = s.is_class class c.Number

module _ (ok : Element → Element → Bool) (last_ok : Element → Bool) where
  abbrev pub after_ok : Option Element → Element → Bool
  after_ok None b = true
  after_ok (Some a) b = ok a b

  abbrev pub end_ok : Option Element → Bool
  end_ok None = true
  end_ok (Some a) = last_ok a

  -- each two neighbours of the shape, and its last part, pass
  abbrev pub passes : Option Element → Shape → Bool
  passes before s.none = true
  passes before s.done = end_ok before
  passes before (s.tok ts r) = after_ok before (T ts) && passes (Some (T ts)) r
  passes before (s.sub a r) = after_ok before (S a) && passes (Some (S a)) r
  passes before (s.alt r r') = passes before r && passes before r'
  passes before (s.list a ts last r) = after_ok before (S a) && (ok (S a) (T ts) && (ok (T ts) (S a) && (passes (Some (S a)) r && (not last || passes (Some (T ts)) r))))
  passes before (s.each a r) = passes before r && (after_ok before (S a) && (ok (S a) (S a) && passes (Some (S a)) r))
  passes before (s.times group r) = false

  abbrev pub Pair : Part → Part → Type 0
  Pair x y = (a b : Element) × Is a x × Is b y × (ok a b ≡ true)

  abbrev pub Final : Part → Type 0
  Final x = (a : Element) × Is a x × (last_ok a ≡ true)

  abbrev pub Links : Part → List Part → Type 0
  Links x [] = Final x
  Links x (y ∷ ys) = Pair x y × Links y ys

  abbrev pub Given : Option Element → Part → Type 0
  Given None x = Unit {0}
  Given (Some a) x = Is a x

  abbrev pub LinksFrom : Option Element → Part → List Part → Type 0
  LinksFrom None x [] = Unit {0}
  LinksFrom None x (y ∷ ys) = Links y ys
  LinksFrom (Some a) x ys = Links x ys

  link : (before : Option Element) (x y : Part) (ys : List Part) (b : Element) → Given before x → Is b y → after_ok before b ≡ true → Links y ys → LinksFrom before x (y ∷ ys)
  link None x y ys b g i o h = h
  link (Some a) x y ys b g i o h = ((a, b, g, i, o), h)

  at_end : (before : Option Element) (x : Part) → Given before x → end_ok before ≡ true → LinksFrom before x []
  at_end None x g o = tt
  at_end (Some a) x g o = (a, g, o)

  module _ (a : Nonterminal) (K : List Part → Type 0) (past_item : (x : Part) (xs : List Part) → Is (S a) x → K xs → Links x xs) where
    mutual
      listed_links : (ts : List Terminal) (last : Bool) → ok (S a) (T ts) ≡ true → ok (T ts) (S a) ≡ true → (last ≡ true → (x : Part) (xs : List Part) → Is (T ts) x → K xs → Links x xs) →
          (before : Option Element) (x : Part) → Given before x → after_ok before (S a) ≡ true → (xs : List Part) → Listed (IsNonterminal a) ts last K xs → LinksFrom before x xs
      listed_links ts last o o' f before x g i [] h = absurd h
      listed_links ts last o o' f before x g i (y ∷ ys) h = link before x y ys (S a) g h.0 i (after_links ts last o o' f y h.0 ys h.1)

      after_links : (ts : List Terminal) (last : Bool) → ok (S a) (T ts) ≡ true → ok (T ts) (S a) ≡ true → (last ≡ true → (x : Part) (xs : List Part) → Is (T ts) x → K xs → Links x xs) →
          (x : Part) → Is (S a) x → (xs : List Part) → s.After (IsNonterminal a) ts last K xs → Links x xs
      after_links ts last o o' f x g [] h = past_item x [] g h
      after_links ts last o o' f x g (y ∷ ys) (inl h) = past_item x (y ∷ ys) g h
      after_links ts last o o' f x g (y ∷ ys) (inr (m, inl h)) = ((S a, T ts, g, m, o), listed_links ts last o o' f (Some (T ts)) y m o' ys h)
      after_links ts last o o' f x g (y ∷ ys) (inr (m, inr (l, h))) = ((S a, T ts, g, m, o), f l y ys m h)

    several_links : ok (S a) (S a) ≡ true → (before : Option Element) (x : Part) → Given before x → after_ok before (S a) ≡ true → ((xs : List Part) → K xs → LinksFrom before x xs) → (xs : List Part) → Several (IsNonterminal a) K xs → LinksFrom before x xs
    several_links o before x g i f [] h = f [] h
    several_links o before x g i f (y ∷ ys) (inl h) = f (y ∷ ys) h
    several_links o before x g i f (y ∷ ys) (inr h) = link before x y ys (S a) g h.0 i (several_links o (Some (S a)) y h.0 o (λ zs k. past_item y zs h.0 k) ys h.1)

  -- so do the parts of a node that fits the shape
  pub links : (r : Shape) (before : Option Element) (x : Part) → Given before x → passes before r ≡ true → (xs : List Part) → Fits IsNonterminal r xs → LinksFrom before x xs
  links s.none before x g p xs h = absurd h
  links s.done before x g p [] h = at_end before x g p
  links s.done before x g p (y ∷ ys) h = absurd h
  links (s.tok ts r) before x g p [] h = absurd h
  links (s.tok ts r) before x g p (y ∷ ys) h = let w = and_parts (after_ok before (T ts)) _ p in link before x y ys (T ts) g h.0 w.0 (links r (Some (T ts)) y h.0 w.1 ys h.1)
  links (s.sub a r) before x g p [] h = absurd h
  links (s.sub a r) before x g p (y ∷ ys) h = let w = and_parts (after_ok before (S a)) _ p in link before x y ys (S a) g h.0 w.0 (links r (Some (S a)) y h.0 w.1 ys h.1)
  links (s.alt r r') before x g p xs (inl h) = links r before x g (and_parts (passes before r) _ p).0 xs h
  links (s.alt r r') before x g p xs (inr h) = links r' before x g (and_parts (passes before r) _ p).1 xs h
  links (s.list a ts last r) before x g p xs h =
      let w = and_parts (after_ok before (S a)) _ p in
      let w1 = and_parts (ok (S a) (T ts)) _ w.1 in
      let w2 = and_parts (ok (T ts) (S a)) _ w1.1 in
      let w3 = and_parts (passes (Some (S a)) r) _ w2.1 in
      listed_links a (Fits IsNonterminal r) (λ y ys i k. links r (Some (S a)) y i w3.0 ys k) ts last w1.0 w2.0 (λ l y ys i k. links r (Some (T ts)) y i (when last l _ w3.1) ys k) before x g w.0 xs h
    where
      when : (b : Bool) → b ≡ true → (d : Bool) → (not b || d) ≡ true → d ≡ true
      when true e d h = h
      when false e d h = absurd (both_ways false refl e)
  links (s.each a r) before x g p xs h =
      let w = and_parts (passes before r) _ p in
      let w1 = and_parts (after_ok before (S a)) _ w.1 in
      let w2 = and_parts (ok (S a) (S a)) _ w1.1 in
      several_links a (Fits IsNonterminal r) (λ y ys i k. links r (Some (S a)) y i w2.1 ys k) w2.0 before x g w1.0 (λ ys k. links r before x g w.0 ys k) xs h
  links (s.times group r) before x g p xs h = absurd (both_ways false refl p)

-- ---- which neighbours the layout sets apart, and which may touch

-- signs and stars
abbrev pub fronts : List (List ℕ)
fronts = codes "+" ∷ codes "-" ∷ codes "~" ∷ codes "*" ∷ codes "**" ∷ []

abbrev pub prefixed : Terminal → Bool
prefixed t = from_table fronts t

-- a text with which neither `=` nor `*` begins
abbrev pub well_text : List ℕ → Bool
well_text [] = false
well_text (b ∷ t) = not (nat_eq b 61 || nat_eq b 42)

abbrev pub well : Terminal → Bool
well (s.any c.Name) = true
well (s.any c.Number) = true
well (s.any c.String) = true
well (s.any _) = false
well (s.this class t) = well_text t

abbrev pub named : Terminal → Bool
named (s.any c.Name) = true
named _ = false

-- no bracket, comma or colon
abbrev pub never_lone : Terminal → Bool
never_lone (s.any c.Mark) = false
never_lone (s.any _) = true
never_lone (s.this class t) = not (lone (s.this class t))

abbrev pub spaced : Kind → Element → Element → Bool
spaced kind (S a) (S b) = true
spaced kind (S a) (T us) = list_all (space_before kind) us
spaced kind (T ts) (S b) = list_all (space_after kind) ts
spaced kind (T ts) (T us) = (list_all (space_after kind) ts && list_all never_lone us) || list_all (space_before kind) us

abbrev pub is_primary : Nonterminal → Bool
is_primary (s.level n) = nat_eq n 0
is_primary _ = false

-- Neighbours that may touch: anything before a bracket, a comma or a colon; a primary that is no number before a dot; and
-- after brackets, commas and colons anything, after signs and stars a part or a word, after a dot a name.
abbrev pub safe : Element → Element → Bool
safe (S a) (T us) = list_all lone us || (list_all is_dot_terminal us && is_primary a)
safe (T ts) (S a) = list_all lone ts || (list_all prefixed ts && list_all well (starts a))
safe (T ts) (T us) = list_all lone us || (list_all lone ts || ((list_all is_dot_terminal ts && list_all named us) || (list_all prefixed ts && list_all well us)))
safe (S a) (S b) = false

abbrev pub neighbours : Kind → Element → Element → Bool
neighbours kind a b = spaced kind a b || safe a b

abbrev pub is_primary_kind : Kind → Bool
is_primary_kind kind = s.is_expression kind && nat_eq (s.rank kind) 0

abbrev pub no_number : Terminal → Bool
no_number (s.any c.Number) = false
no_number (s.this c.Number t) = false
no_number _ = true

-- a primary ends with a token that is no number
abbrev pub finals : Kind → Element → Bool
finals kind (T ts) = list_all no_number ts
finals kind (S a) = not (is_primary_kind kind)

-- So it is in each row of the table.
pub all_pass : (kind : Kind) → inner_kind kind ≡ true → passes (neighbours kind) (finals kind) None (line_shape kind) ≡ true
all_pass k.File h = absurd (both_ways false refl h)
all_pass k.Line h = absurd (both_ways false refl h)
all_pass k.Def h = absurd (both_ways false refl h)
all_pass k.IfStmt h = absurd (both_ways false refl h)
all_pass k.ForStmt h = absurd (both_ways false refl h)
all_pass k.Suite h = absurd (both_ways false refl h)
all_pass _ h = refl
