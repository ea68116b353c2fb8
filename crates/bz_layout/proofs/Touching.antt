-- A tree whose leaves hold lexemes, with a space or a newline where the kinds of its nodes require one, holds tokens.
use Rattle.bz_layout.proofs.Words.{[], ◌&&◌, ◌++◌, ◌∙◌, ◌∷◌, ◌≡◌, ◌≤◌, ◌⊎◌, all_parted, AllByRecursion, and_from, and_parts, ap, apart, append_assoc, arith, as_bzl, Bool, both_ways, brackets_and_separators, bytes_eq-Decides, cases_Bool, Class, Class as c, depth_part, each_legal, end_of-Part, eq-eqb, eqb-true, false, Fits, flat_map, from_table, has_token, in_table, inl, inner_kind, inr, is_dot_terminal, is_number_leaf, is_one_of, IsLexeme, IsNonterminal, IsToken, items-the_row-Part, Kind, Leaf, leaves_part, leaves_rows, leb-true, LegalBy, line_shape, List, list_all, lone, more_of-Part, nat_eq, nat_le, no_such, Node', None, Nonterminal, not, not-true, of_terminals, one_text, or_cases, Part, Part as p, refl, Row_of-Part, Shape, spell_leaves, spell_leaves-append, starts, starts_with, subst, sym, Terminal, true, ℕ}
use Rattle.bz_grammar.specs.Shapes as s
use Rattle.bz_grammar.proofs.Levels.{begins}
use Rattle.bz_layout.proofs.Neighbours.{Element, T, S, Is, Pair, Final, Links, passes, links, fronts, prefixed, well_text, named, spaced, is_primary, safe, neighbours, is_primary_kind, finals, all_pass, well, no_number, is_number}
use Rattle.bz_layout.proofs.Stops.{is_stop, stop_before, dot_before, lone_before, front_before, dot_before_name, begins_well}
use Rattle.bz_layout.proofs.Elements.{spaced_apart}

-- ---- what a leaf is that is one of these terminals: a mark of a table, a text with which a token may go on, a name, no number

in_a_table : (us : List (List ℕ)) (class : Class) (t : List ℕ) → from_table us (s.this class t) ≡ true → (class ≡ c.Mark) × (in_table t us ≡ true)
in_a_table us c.Mark t h = (refl, h)
in_a_table us _ t h = no_such h

pub table_leaf : (us : List (List ℕ)) (ts : List Terminal) (l : Leaf) → list_all (from_table us) ts ≡ true → is_one_of ts l ≡ true → (l.class ≡ c.Mark) × (in_table l.token us ≡ true)
table_leaf us ts l h i = of_terminals (λ class t. (class ≡ c.Mark) × (in_table t us ≡ true)) (from_table us) (λ class t f. no_such f) (in_a_table us) ts l h i

well_class : (class : Class) (t : List ℕ) → well (s.any class) ≡ true → IsLexeme class t → well_text t ≡ true
well_class c.Name t h i = begins_well c.Name t i refl
well_class c.Number t h i = begins_well c.Number t i refl
well_class c.String t h i = begins_well c.String t i refl
well_class _ t h i = no_such h

pub well_leaf : (ts : List Terminal) (l : Leaf) → list_all well ts ≡ true → is_one_of ts l ≡ true → IsLexeme l.class l.token → well_text l.token ≡ true
well_leaf ts l h i x = of_terminals (λ class t. IsLexeme class t → well_text t ≡ true) well well_class (λ class t w y. w) ts l h i x

name_class : (class : Class) (t : List ℕ) → named (s.any class) ≡ true → class ≡ c.Name
name_class c.Name t h = refl
name_class _ t h = no_such h

pub named_leaf : (us : List Terminal) (l : Leaf) → list_all named us ≡ true → is_one_of us l ≡ true → l.class ≡ c.Name
named_leaf us l h i = of_terminals (λ class t. class ≡ c.Name) named name_class (λ class t f. no_such f) us l h i

any_whole : (class : Class) (t : List ℕ) → no_number (s.any class) ≡ true → is_number class ≡ false
any_whole c.Number t h = no_such h
any_whole _ t h = refl

this_whole : (class : Class) (t : List ℕ) → no_number (s.this class t) ≡ true → is_number class ≡ false
this_whole c.Number t h = no_such h
this_whole _ t h = refl

pub plain_leaf : (us : List Terminal) (l : Leaf) → list_all no_number us ≡ true → is_one_of us l ≡ true → is_number l.class ≡ false
plain_leaf us l h i = of_terminals (λ class t. is_number class ≡ false) no_number any_whole this_whole us l h i

-- ---- tokens of leaves before a text

abbrev pub Toks : List Leaf → List ℕ → Type 0
Toks [] rest = Unit {0}
Toks (l ∷ ls) rest = IsToken l.class l.token (spell_leaves ls ++ rest) × Toks ls rest

pub join : (a b : List Leaf) (rest : List ℕ) → Toks a (spell_leaves b ++ rest) → Toks b rest → Toks (a ++ b) rest
join [] b rest h i = i
join (l ∷ a) b rest h i =
    (subst (λ t. IsToken l.class l.token t) (sym (append_assoc (spell_leaves a) (spell_leaves b) rest) ∙ ap (λ t. t ++ rest) (sym (spell_leaves-append a b))) h.0, join a b rest h.1 i)

abbrev pub IsLex : Leaf → Type 0
IsLex l = IsLexeme l.class l.token

abbrev pub Lexed : List Leaf → Type 0
Lexed ls = AllByRecursion IsLex ls

-- ---- what may follow a part

abbrev pub ends_plain : Part → Bool
ends_plain (p.Leaf l) = not (is_number l.class)
ends_plain (Node' kind z r) = is_primary_kind kind

-- a space, a newline, a bracket, a comma, a colon; or a dot after a primary that is no number
abbrev pub FollowsAs : Bool → List ℕ → Type 0
FollowsAs plain [] = ⊥
FollowsAs plain (b ∷ t) = (is_stop b ≡ true) ⊎ ((b ≡ 46) × (plain ≡ true))

abbrev pub Follows : Part → List ℕ → Type 0
Follows x t = FollowsAs (ends_plain x) t

-- ---- neighbours: the second one is after a space or a newline; or it has no gap, and needs none

abbrev pub Opens : List ℕ → Type 0
Opens [] = ⊥
Opens (b ∷ t) = is_stop b ≡ true

abbrev pub OpensAt : List Leaf → Type 0
OpensAt [] = ⊥
OpensAt (l ∷ ls) = Opens l.gap

abbrev pub BareAt : List Leaf → Type 0
BareAt [] = ⊥
BareAt (l ∷ ls) = l.gap ≡ []

-- a number before a dot
abbrev pub NumberDot : Part → Part → Type 0
NumberDot x y = (is_number_leaf x ≡ true) × (has_token s.dot y ≡ true)

abbrev pub Fine : Kind → Part → Part → Type 0
Fine kind x y =
    OpensAt (leaves_part y) ⊎ (BareAt (leaves_part y) × (apart kind x y ≡ false) × (NumberDot x y → ⊥))

abbrev pub Between : Kind → Part → List Part → Type 0
Between kind x [] = Unit {0}
Between kind x (y ∷ ys) = Fine kind x y × Between kind y ys

abbrev pub Apart : Kind → List Part → Type 0
Apart kind [] = Unit {0}
Apart kind (x ∷ xs) = Between kind x xs

abbrev mutual
  pub Airy : Part → Type 0
  Airy (p.Leaf l) = Unit {0}
  Airy (Node' kind z r) = (inner_kind kind ≡ true) × Apart kind (items-the_row-Part _ r) × AiryRow r

  pub AiryRow : {m : _} → Row_of-Part m → Type 0
  AiryRow end_of-Part = Unit {0}
  AiryRow (more_of-Part x rest) = Airy x × AiryRow rest

-- ---- the text after a part

abbrev Text : Leaf → List ℕ → List ℕ → List ℕ
Text l more rest = (l.gap ++ (l.token ++ more)) ++ rest

gap_follows : (b : Bool) (gap t rest : List ℕ) → Opens gap → FollowsAs b ((gap ++ t) ++ rest)
gap_follows b [] t rest h = absurd h
gap_follows b (x ∷ gap) t rest h = inl h

lone_opens : (b : Bool) (t more rest : List ℕ) → in_table t brackets_and_separators ≡ true → FollowsAs b ((t ++ more) ++ rest)
lone_opens b t more rest h = on_text t (one_text (λ u. opens_in u) brackets_and_separators refl t h) where
  opens_in : List ℕ → Bool
  opens_in [] = false
  opens_in (x ∷ u) = is_stop x

  on_text : (t : List ℕ) → opens_in t ≡ true → FollowsAs b ((t ++ more) ++ rest)
  on_text [] e = no_such e
  on_text (x ∷ t) e = inl e

bare_follows : (b : Bool) (l : Leaf) (more rest : List ℕ) → l.gap ≡ [] → FollowsAs b ((l.token ++ more) ++ rest) → FollowsAs b (Text l more rest)
bare_follows b l more rest e h = subst (λ g. FollowsAs b ((g ++ (l.token ++ more)) ++ rest)) (sym e) h

bare_token : (class : Class) (t : List ℕ) (l : Leaf) (more rest : List ℕ) → l.gap ≡ [] → IsToken class t ((l.token ++ more) ++ rest) → IsToken class t (Text l more rest)
bare_token class t l more rest e h = subst (λ g. IsToken class t ((g ++ (l.token ++ more)) ++ rest)) (sym e) h

dot_text : (t : List ℕ) → in_table t ((46 ∷ []) ∷ []) ≡ true → t ≡ 46 ∷ []
dot_text t h = elim (or_cases _ _ h) [ inl e ↦ (bytes_eq-Decides t (46 ∷ [])).0 e | inr e ↦ no_such e ]

-- ---- one part and the next

abbrev pub Will : Part → Type 0
Will x = LegalBy line_shape x → Lexed (leaves_part x) → Airy x → (rest : List ℕ) → Follows x rest → Toks (leaves_part x) rest

-- a part that may end with a dot after it
primary_plain : (a : Nonterminal) (x : Part) → is_primary a ≡ true → IsNonterminal a x → is_number_leaf x ≡ false → ends_plain x ≡ true
primary_plain (s.level n) (p.Leaf l) h i o = rw o refl
primary_plain (s.level n) (Node' kind z r) h i o =
    let w = and_parts (s.is_expression kind) (nat_le (s.rank kind) n) i in
    and_from (s.is_expression kind) (nat_eq (s.rank kind) 0) w.0 (at_most n (s.rank kind) h w.1)
  where
    at_most : (n r : ℕ) → nat_eq n 0 ≡ true → nat_le r n ≡ true → nat_eq r 0 ≡ true
    at_most n r h i = let e : n ≡ 0 = eqb-true n 0 h in let le : r ≤ n = leb-true r n i in eq-eqb r 0 (omega (arith, e, le))
primary_plain _ x h i o = no_such h

-- the first leaf of a part is one with which its sort begins
first_leaf : (a : Nonterminal) (y : Part) (l : Leaf) (ls : List Leaf) → leaves_part y ≡ l ∷ ls → IsNonterminal a y → LegalBy line_shape y → is_one_of (starts a) l ≡ true
first_leaf a y l ls e i g = subst (λ z. starts_with (starts a) (z ++ []) ≡ true) e (begins (depth_part y) a y [] (i, as_bzl y g, omega arith))

well_front : (t l more rest : List ℕ) → in_table t fronts ≡ true → well_text l ≡ true → IsToken c.Mark t ((l ++ more) ++ rest)
well_front t [] more rest h i = no_such i
well_front t (b ∷ l) more rest h i = front_before t ((l ++ more) ++ rest) b h i

-- a sign or a star right before such a text
before_well : (ts : List Terminal) (leaf l : Leaf) → list_all prefixed ts ≡ true → is_one_of ts leaf ≡ true → l.gap ≡ [] → well_text l.token ≡ true → (more rest : List ℕ) → IsToken leaf.class leaf.token (Text l more rest)
before_well ts leaf l h i n w more rest =
    let t = table_leaf fronts ts leaf h i in
    subst (λ z. IsToken z leaf.token (Text l more rest)) (sym t.0) (bare_token c.Mark leaf.token l more rest n (well_front leaf.token l.token more rest t.1 w))

-- a dot right before a name
before_name : (ts : List Terminal) (leaf l : Leaf) → list_all is_dot_terminal ts ≡ true → is_one_of ts leaf ≡ true → l.gap ≡ [] → IsLexeme c.Name l.token → (more rest : List ℕ) → IsToken leaf.class leaf.token (Text l more rest)
before_name ts leaf l h i n lex more rest =
    let t = table_leaf ((46 ∷ []) ∷ []) ts leaf h i in
    subst (λ z. IsToken z leaf.token (Text l more rest)) (sym t.0)
    (bare_token c.Mark leaf.token l more rest n
    (subst (λ z. IsToken c.Mark z ((l.token ++ more) ++ rest)) (sym (dot_text leaf.token t.1))
    (subst (λ z. IsToken c.Mark (46 ∷ []) z) (sym (append_assoc l.token more rest)) (dot_before_name l.token (more ++ rest) lex))))

-- a mark or a word in front of a part
after_token : (kind : Kind) (ts : List Terminal) (leaf : Leaf) (y : Part) (b : Element) → is_one_of ts leaf ≡ true → Is b y → safe (T ts) b ≡ true → LegalBy line_shape y → IsLex leaf →
    (l : Leaf) (ls : List Leaf) → leaves_part y ≡ l ∷ ls → l.gap ≡ [] → IsLex l → (more rest : List ℕ) → IsToken leaf.class leaf.token (Text l more rest)
after_token kind ts leaf y (S a) i j o g x l ls e n w more rest =
    elim (or_cases (list_all lone ts) _ o) [
      | inl f ↦ let t = table_leaf brackets_and_separators ts leaf f i in subst (λ z. IsToken z leaf.token (Text l more rest)) (sym t.0) (lone_before leaf.token (Text l more rest) t.1)
      | inr f ↦ let v = and_parts (list_all prefixed ts) _ f in before_well ts leaf l v.0 i n (well_leaf (starts a) l v.1 (first_leaf a y l ls e j g) w) more rest
    ]
after_token kind ts leaf (Node' _ z r) (T us) i j o g x l ls e n w more rest = no_such j
after_token kind ts leaf (p.Leaf m) (T us) i j o g x l ls e n w more rest =
    let same : m ≡ l = let one : m ∷ [] ≡ l ∷ ls = e in cc in
    elim (or_cases (list_all lone us) _ o) [
      | inl f ↦ let t = table_leaf brackets_and_separators us m f j in
          let u : in_table l.token brackets_and_separators ≡ true = subst (λ z. in_table z.token brackets_and_separators ≡ true) same t.1 in
          bare_token leaf.class leaf.token l more rest n (before_lone leaf l.token more rest x u)
      | inr f ↦
          elim (or_cases (list_all lone ts) _ f) [
            | inl d ↦ let t = table_leaf brackets_and_separators ts leaf d i in subst (λ z. IsToken z leaf.token (Text l more rest)) (sym t.0) (lone_before leaf.token (Text l more rest) t.1)
            | inr d ↦
                elim (or_cases (list_all is_dot_terminal ts && list_all named us) _ d) [
                  | inl q ↦ let v = and_parts (list_all is_dot_terminal ts) _ q in
                      let name : l.class ≡ c.Name = subst (λ z. z.class ≡ c.Name) same (named_leaf us m v.1 j) in
                      before_name ts leaf l v.0 i n (subst (λ z. IsLexeme z l.token) name w) more rest
                  | inr q ↦ let v = and_parts (list_all prefixed ts) _ q in
                      before_well ts leaf l v.0 i n (well_leaf us l v.1 (subst (λ z. is_one_of us z ≡ true) same j) w) more rest
                ]
          ]
    ]
  where
    before_lone : (leaf : Leaf) (t more rest : List ℕ) → IsLex leaf → in_table t brackets_and_separators ≡ true → IsToken leaf.class leaf.token ((t ++ more) ++ rest)
    before_lone leaf t more rest x h = on_follows ((t ++ more) ++ rest) (lone_opens false t more rest h) where
      on_follows : (u : List ℕ) → FollowsAs false u → IsToken leaf.class leaf.token u
      on_follows [] f = absurd f
      on_follows (b ∷ u) (inl f) = stop_before leaf.class leaf.token u b x f
      on_follows (b ∷ u) (inr f) = no_such f.1

is_dot : (m : Leaf) → m.class ≡ c.Mark → m.token ≡ 46 ∷ [] → has_token s.dot (p.Leaf m) ≡ true
is_dot m e i = rw (e, i) refl

touching : (kind : Kind) (x y : Part) (a b : Element) → Is a x → Is b y → safe a b ≡ true → LegalBy line_shape y → Lexed (leaves_part x) → (NumberDot x y → ⊥) → ((rest : List ℕ) → Follows x rest → Toks (leaves_part x) rest) →
    (l : Leaf) (ls : List Leaf) → leaves_part y ≡ l ∷ ls → l.gap ≡ [] → IsLex l → (more rest : List ℕ) → Toks (leaves_part x) (Text l more rest)
touching kind x y (S a) (S b) i j o g h d w l ls e n u more rest = no_such o
touching kind x (Node' _ z r) (S a) (T us) i j o g h d w l ls e n u more rest = no_such j
touching kind x (p.Leaf m) (S a) (T us) i j o g h d w l ls e n u more rest =
    let same : m ≡ l = let one : m ∷ [] ≡ l ∷ ls = e in cc in
    elim (or_cases (list_all lone us) _ o) [
      | inl f ↦ w (Text l more rest) (bare_follows (ends_plain x) l more rest n (lone_opens (ends_plain x) l.token more rest (subst (λ z. in_table z.token brackets_and_separators ≡ true) same (table_leaf brackets_and_separators us m f j).1)))
      | inr f ↦ let v = and_parts (list_all is_dot_terminal us) _ f in
          let t = table_leaf ((46 ∷ []) ∷ []) us m v.0 j in
          let dot : m.token ≡ 46 ∷ [] = dot_text m.token t.1 in
          let whole : is_number_leaf x ≡ false = elim (cases_Bool (is_number_leaf x)) [ inl q ↦ absurd (d (q, is_dot m t.0 dot)) | inr q ↦ q ] in
          w (Text l more rest) (bare_follows (ends_plain x) l more rest n (subst (λ z. FollowsAs (ends_plain x) ((z ++ more) ++ rest)) (sym dot ∙ ap (λ z. z.token) same) (inr (refl, primary_plain a x v.1 i whole))))
    ]
touching kind (Node' _ z r) y (T ts) b i j o g h d w l ls e n u more rest = no_such i
touching kind (p.Leaf leaf) y (T ts) b i j o g h d w l ls e n u more rest = (after_token kind ts leaf y b i j o g h.0 l ls e n u more rest, tt)

pair : (kind : Kind) (x y : Part) → Pair (neighbours kind) (finals kind) x y → LegalBy line_shape y → Lexed (leaves_part x) → Lexed (leaves_part y) → ((rest : List ℕ) → Follows x rest → Toks (leaves_part x) rest) →
    (ls : List Leaf) → leaves_part y ≡ ls → (OpensAt ls ⊎ (BareAt ls × (apart kind x y ≡ false) × (NumberDot x y → ⊥))) → (more : List Leaf) (rest : List ℕ) → Toks (leaves_part x) (spell_leaves (ls ++ more) ++ rest)
pair kind x y t g h i w [] e (inl f) more rest = absurd f
pair kind x y t g h i w [] e (inr f) more rest = absurd f.0
pair kind x y t g h i w (l ∷ ls) e (inl f) more rest = w (Text l (spell_leaves (ls ++ more)) rest) (gap_follows (ends_plain x) l.gap (l.token ++ spell_leaves (ls ++ more)) rest f)
pair kind x y (a, b, ia, ib, o) g h i w (l ∷ ls) e (inr f) more rest =
    elim (or_cases (spaced kind a b) (safe a b) o) [
      | inl q ↦ absurd (both_ways (apart kind x y) f.1 (spaced_apart kind a b x y ia ib q))
      | inr q ↦ let lex : Lexed (l ∷ ls) = subst Lexed e i in touching kind x y a b ia ib q g h f.2 w l ls e f.0 lex.0 (spell_leaves (ls ++ more)) rest
    ]

final_follows : (kind : Kind) (x : Part) → Final (neighbours kind) (finals kind) x → (rest : List ℕ) → FollowsAs (is_primary_kind kind) rest → Follows x rest
final_follows kind x t [] f = absurd f
final_follows kind x t (b ∷ rest) (inl f) = inl f
final_follows kind (p.Leaf l) (T ts, i, o) (b ∷ rest) (inr f) = inr (f.0, rw (plain_leaf ts l o i) refl)
final_follows kind (Node' _ z r) (T ts, i, o) (b ∷ rest) (inr f) = no_such i
final_follows kind x (S a, i, o) (b ∷ rest) (inr f) = absurd (both_ways (is_primary_kind kind) (not-true (is_primary_kind kind) o) f.1)

-- ---- rows and parts

abbrev pub Legals : List Part → Type 0
Legals xs = AllByRecursion (LegalBy line_shape) xs

abbrev pub Wills : List Part → Type 0
Wills xs = AllByRecursion Will xs

abbrev pub Airys : List Part → Type 0
Airys xs = AllByRecursion Airy xs

row_toks : (kind : Kind) (x : Part) (xs : List Part) → Links (neighbours kind) (finals kind) x xs → Between kind x xs → Wills (x ∷ xs) → Legals (x ∷ xs) → Lexed (flat_map leaves_part (x ∷ xs)) → Airys (x ∷ xs) →
    (rest : List ℕ) → FollowsAs (is_primary_kind kind) rest → Toks (flat_map leaves_part (x ∷ xs)) rest
row_toks kind x [] t d w g h a rest f =
    let lex = all_parted IsLex (leaves_part x) [] h in
    join (leaves_part x) [] rest (w.0 g.0 lex.0 a.0 rest (final_follows kind x t rest f)) tt
row_toks kind x (y ∷ ys) t d w g h a rest f =
    let lex = all_parted IsLex (leaves_part x) (flat_map leaves_part (y ∷ ys)) h in
    let lex' = all_parted IsLex (leaves_part y) (flat_map leaves_part ys) lex.1 in
    join (leaves_part x) (flat_map leaves_part (y ∷ ys)) rest
    (pair kind x y t.0 g.1.0 lex.0 lex'.0 (w.0 g.0 lex.0 a.0) (leaves_part y) refl d.0 (flat_map leaves_part ys) rest)
    (row_toks kind y ys t.1 d.1 w.1 g.1 lex.1 a.1 rest f)

-- a row that fits a shape whose neighbours and last part pass
some_row : (kind : Kind) (r : Shape) → passes (neighbours kind) (finals kind) None r ≡ true → (xs : List Part) → Fits IsNonterminal r xs → Apart kind xs → Wills xs → Legals xs → Lexed (flat_map leaves_part xs) → Airys xs →
    (rest : List ℕ) → FollowsAs (is_primary_kind kind) rest → Toks (flat_map leaves_part xs) rest
some_row kind r o [] t d w g h a rest f = tt
some_row kind r o (x ∷ xs) t d w g h a rest f = row_toks kind x xs (links (neighbours kind) (finals kind) r None x tt o (x ∷ xs) t) d w g h a rest f

airy_row : (m : _) (r : Row_of-Part m) → AiryRow r → Airys (items-the_row-Part m r)
airy_row m end_of-Part h = tt
airy_row m (more_of-Part x rest) h = (h.0, airy_row _ rest h.1)

leaf_toks : (l : Leaf) → IsLex l → (rest : List ℕ) → Follows (p.Leaf l) rest → IsToken l.class l.token rest
leaf_toks l h [] f = absurd f
leaf_toks l h (b ∷ rest) (inl f) = stop_before l.class l.token rest b h f
leaf_toks l h (b ∷ rest) (inr f) = subst (λ z. IsToken l.class l.token (z ∷ rest)) (sym f.0) (dot_before l.class l.token rest h (not-true (is_number l.class) f.1))

mutual
  pub tokens : (x : Part) → Will x
  tokens (p.Leaf l) g h a rest f = (leaf_toks l h.0 rest f, tt)
  tokens (Node' kind z r) g h a rest f =
      let e = leaves_rows _ r in
      subst (λ ls. Toks ls rest) (sym e)
      (some_row kind (line_shape kind) (all_pass kind a.0) (items-the_row-Part _ r) g.0 a.1 (token_rows _ r) (each_legal line_shape _ r g.1) (subst Lexed e h) (airy_row _ r a.2) rest f)

  token_rows : (m : _) (r : Row_of-Part m) → Wills (items-the_row-Part m r)
  token_rows m end_of-Part = tt
  token_rows m (more_of-Part x rest) = (tokens x, token_rows _ rest)

-- so do the parts of a row that fits such a shape: of a header, say
pub row_tokens : (kind : Kind) (r : Shape) → passes (neighbours kind) (finals kind) None r ≡ true → (xs : List Part) → Fits IsNonterminal r xs → Apart kind xs → Legals xs → Lexed (flat_map leaves_part xs) → Airys xs →
    (rest : List ℕ) → FollowsAs (is_primary_kind kind) rest → Toks (flat_map leaves_part xs) rest
row_tokens kind r o xs t d g h a rest f = some_row kind r o xs t d (all_will xs) g h a rest f
  where
    all_will : (xs : List Part) → Wills xs
    all_will [] = tt
    all_will (x ∷ xs) = (tokens x, all_will xs)
