-- Where headers are among the parts of a statement: parts up to a colon, the colon, a suite, and what follows that.
use Rattle.bz_hosts.proofs.Words.{[], ◌&&◌, ◌++◌, ◌∙◌, ◌∷◌, ◌≡◌, After, after_node, after_part, AllByRecursion, Along, and_parts, ap, append_assoc, AtLeaves, AtParts, Begins, Bool, Bytes, codes, false, Fits, has_token, inl, inner_nonterminal, inr, IsNonterminal, Kind, Kind as k, List, Listed, no_more, no_such, Node', nonterminal_has_kind, once_more, Part, Part as p, parts_split, refl, Several, Shape, Spot, spot_after, Stands, subst, sym, Terminal, Times, true, whole_shape}
use Rattle.bz_hosts.proofs.InnerParts.{inner_tokens, plain_tokens, every, every_part, GoesOn, token_inner, nonterminal_inner, token_goes, token_closes, nonterminal_goes}
use Rattle.bz_hosts.proofs.Colons.{no_colons, token_plain, nonterminal_plain, InHeader}
use Rattle.bz_grammar.specs.Shapes as s

-- ---- one shape after another

-- a shape, and where nothing more follows in it another one
abbrev pub followed : Shape → Shape → Shape
followed s.none t = s.none
followed s.done t = t
followed (s.tok ts r) t = s.tok ts (followed r t)
followed (s.sub a r) t = s.sub a (followed r t)
followed (s.alt left right) t = s.alt (followed left t) (followed right t)
followed (s.list a ts last r) t = s.list a ts last (followed r t)
followed (s.each a r) t = s.each a (followed r t)
followed (s.times group r) t = s.times group (followed r t)

-- parts of which F holds, and after them those of which G does
abbrev pub Both : (List Part → Type 0) → (List Part → Type 0) → List Part → Type 0
Both F G xs = (front : List Part) × (back : List Part) × (xs ≡ front ++ back) × F front × G back

module _ (G : List Part → Type 0) where
  weaker : (F F' : List Part → Type 0) → ((xs : List Part) → F xs → F' xs) → (xs : List Part) → Both F G xs → Both F' G xs
  weaker F F' f xs w = (w.0, w.1, w.2, f w.0 w.3, w.4)

  more : (F F' : List Part → Type 0) (x : Part) → ((xs : List Part) → F xs → F' (x ∷ xs)) → (xs : List Part) → Both F G xs → Both F' G (x ∷ xs)
  more F F' x f xs w = (x ∷ w.0, w.1, ap (λ (zs : List Part). x ∷ zs) w.2, f w.0 w.3, w.4)

  module _ (K K' : List Part → Type 0) (cut : (xs : List Part) → K' xs → Both K G xs) where
    module _ (P : Part → Type 0) where
      several_of : (xs : List Part) → K xs → Several P K xs
      several_of [] h = h
      several_of (x ∷ xs) h = inl h

      several_cut : (xs : List Part) → Several P K' xs → Both (Several P K) G xs
      several_cut [] h = weaker K (Several P K) several_of [] (cut [] h)
      several_cut (x ∷ xs) (inl h) = weaker K (Several P K) several_of (x ∷ xs) (cut (x ∷ xs) h)
      several_cut (x ∷ xs) (inr h) = more (Several P K) (Several P K) x (λ ys i. inr (h.0, i)) xs (several_cut xs h.1)

      module _ (ts : List Terminal) (last : Bool) where
        after_of : (xs : List Part) → K xs → After P ts last K xs
        after_of [] h = h
        after_of (x ∷ xs) h = inl h

        mutual
          listed_cut : (xs : List Part) → Listed P ts last K' xs → Both (Listed P ts last K) G xs
          listed_cut [] h = absurd h
          listed_cut (x ∷ xs) h = more (After P ts last K) (Listed P ts last K) x (λ ys i. (h.0, i)) xs (after_cut xs h.1)

          after_cut : (xs : List Part) → After P ts last K' xs → Both (After P ts last K) G xs
          after_cut [] h = weaker K (After P ts last K) after_of [] (cut [] h)
          after_cut (x ∷ xs) (inl h) = weaker K (After P ts last K) after_of (x ∷ xs) (cut (x ∷ xs) h)
          after_cut (x ∷ xs) (inr (m, inl h)) = more (Listed P ts last K) (After P ts last K) x (λ ys i. inr (m, inl i)) xs (listed_cut xs h)
          after_cut (x ∷ xs) (inr (m, inr h)) = more K (After P ts last K) x (λ ys i. inr (m, inr (h.0, i))) xs (cut xs h.1)

    times_cut : (F : List Part → Type 0) (xs : List Part) → Times F K' xs → Both (Times F K) G xs
    times_cut F xs (no_more h) = weaker K (Times F K) (λ ys i. no_more i) xs (cut xs h)
    times_cut F xs (once_more front back e h t) =
        let w = times_cut F back t in
        (front ++ w.0, w.1, e ∙ (ap (λ (zs : List Part). front ++ zs) w.2 ∙ sym (append_assoc front w.0 w.1)), once_more front w.0 refl h w.3, w.4)

-- the parts of the one shape, and those of the other
pub fits_cut : (r t : Shape) (xs : List Part) → Fits IsNonterminal (followed r t) xs → Both (Fits IsNonterminal r) (Fits IsNonterminal t) xs
fits_cut s.none t xs h = absurd h
fits_cut s.done t xs h = ([], xs, refl, tt, h)
fits_cut (s.tok ts r) t [] h = absurd h
fits_cut (s.tok ts r) t (x ∷ xs) h = more (Fits IsNonterminal t) (Fits IsNonterminal r) (Fits IsNonterminal (s.tok ts r)) x (λ ys i. (h.0, i)) xs (fits_cut r t xs h.1)
fits_cut (s.sub a r) t [] h = absurd h
fits_cut (s.sub a r) t (x ∷ xs) h = more (Fits IsNonterminal t) (Fits IsNonterminal r) (Fits IsNonterminal (s.sub a r)) x (λ ys i. (h.0, i)) xs (fits_cut r t xs h.1)
fits_cut (s.alt left right) t xs (inl h) = weaker (Fits IsNonterminal t) (Fits IsNonterminal left) (Fits IsNonterminal (s.alt left right)) (λ ys i. inl i) xs (fits_cut left t xs h)
fits_cut (s.alt left right) t xs (inr h) = weaker (Fits IsNonterminal t) (Fits IsNonterminal right) (Fits IsNonterminal (s.alt left right)) (λ ys i. inr i) xs (fits_cut right t xs h)
fits_cut (s.list a ts last r) t xs h = listed_cut (Fits IsNonterminal t) (Fits IsNonterminal r) (Fits IsNonterminal (followed r t)) (λ ys i. fits_cut r t ys i) (IsNonterminal a) ts last xs h
fits_cut (s.each a r) t xs h = several_cut (Fits IsNonterminal t) (Fits IsNonterminal r) (Fits IsNonterminal (followed r t)) (λ ys i. fits_cut r t ys i) (IsNonterminal a) xs h
fits_cut (s.times group r) t xs h = times_cut (Fits IsNonterminal t) (Fits IsNonterminal r) (Fits IsNonterminal (followed r t)) (λ ys i. fits_cut r t ys i) (Fits IsNonterminal group) xs h

-- ---- after a suite and after a statement a line begins

suite_ends : (kind : Kind) (here : Spot) → nonterminal_has_kind s.suite kind ≡ true → after_node kind here ≡ Begins
suite_ends k.Line here h = refl
suite_ends k.Suite here h = refl
suite_ends _ here h = no_such h

stmt_ends : (kind : Kind) (here : Spot) → nonterminal_has_kind s.stmt kind ≡ true → after_node kind here ≡ Begins
stmt_ends k.Line here h = refl
stmt_ends k.Def here h = refl
stmt_ends k.IfStmt here h = refl
stmt_ends k.ForStmt here h = refl
stmt_ends _ here h = no_such h

after_suite : (x : Part) (outer here : Spot) → IsNonterminal s.suite x → after_part outer here x ≡ Begins
after_suite (p.Leaf l) outer here h = no_such h
after_suite (Node' kind n r) outer here h = suite_ends kind here h

pub after_stmt : (x : Part) (outer here : Spot) → IsNonterminal s.stmt x → after_part outer here x ≡ Begins
after_stmt (p.Leaf l) outer here h = no_such h
after_stmt (Node' kind n r) outer here h = stmt_ends kind here h

-- ---- after the parts of a header the line goes on

goes_along : (xs : List Part) → AllByRecursion GoesOn xs → spot_after Begins Along xs ≡ Along
goes_along [] h = refl
goes_along (x ∷ xs) h = ap (λ z. spot_after Begins z xs) (h.0 Begins Along) ∙ goes_along xs h.1

pub plain_along : (ts : List Terminal) (r : Shape) → every plain_tokens inner_nonterminal (s.tok ts r) ≡ true → (xs : List Part) → Fits IsNonterminal (s.tok ts r) xs → spot_after Begins Begins xs ≡ Along
plain_along ts r e [] h = absurd h
plain_along ts r e (x ∷ xs) h =
    let g : AllByRecursion GoesOn (x ∷ xs) = every_part GoesOn plain_tokens inner_nonterminal token_goes nonterminal_goes (s.tok ts r) e (x ∷ xs) h in
    ap (λ z. spot_after Begins z xs) (g.0 Begins Begins) ∙ goes_along xs g.1

closes_along : (here : Spot) (xs ys : List Part) → Fits IsNonterminal (s.tok s.close_round s.done) ys → spot_after Begins here (xs ++ ys) ≡ Along
closes_along here [] [] h = absurd h
closes_along here [] (y ∷ []) h = token_closes s.close_round y Begins here refl h.0
closes_along here [] (y ∷ z ∷ ys) h = absurd h.1
closes_along here (x ∷ xs) ys h = closes_along (after_part Begins here x) xs ys h

pub def_along : (xs : List Part) → Fits IsNonterminal (whole_shape k.Def) xs → spot_after Begins Begins xs ≡ Along
def_along xs h =
    let w = fits_cut (s.tok (s.one_keyword (codes "def")) (s.tok s.name (s.tok s.open_round (s.alt s.done (s.list s.param s.comma_mark true s.done))))) (s.tok s.close_round s.done) xs h in
    ap (spot_after Begins Begins) w.2 ∙ closes_along Begins w.0 w.1 w.4

-- ---- headers

abbrev in_header : List Terminal → Bool
in_header ts = no_colons ts && inner_tokens ts

token_in : (ts : List Terminal) (x : Part) → in_header ts ≡ true → has_token ts x ≡ true → InHeader x
token_in ts x i h = let w = and_parts (no_colons ts) (inner_tokens ts) i in (token_plain ts x w.0 h, token_inner ts x w.1 h)

-- the first part is this word
abbrev pub BeginsWith : Bytes → List Part → Type 0
BeginsWith word [] = ⊥
BeginsWith word (x ∷ xs) = has_token (s.one_keyword word) x ≡ true

-- a header of a kind that begins with this word, along the line a colon and a suite, and then these parts
pub record Headed (kind : Kind) (word : Bytes) (back xs : List Part) : Type 0 where
  pub front : List Part
  pub mark : Part
  pub own : Part
  pub cut : xs ≡ front ++ mark ∷ own ∷ back
  pub fits : Fits IsNonterminal (whole_shape kind) front
  pub begins : BeginsWith word front
  pub plain : AllByRecursion InHeader front
  pub here : AtParts Stands Begins Begins front
  pub colon : has_token s.colon_mark mark ≡ true
  pub gap : AtLeaves Stands Along mark
  pub suite : IsNonterminal s.suite own
  pub there : AtLeaves Stands Along own
  pub following : AtParts Stands Begins Begins back

moved : {here there : Spot} (xs : List Part) → here ≡ there → AtParts Stands Begins here xs → AtParts Stands Begins there xs
moved xs e h = subst (λ z. AtParts Stands Begins z xs) e h

-- of a header with this shape
module _ (kind : Kind) (word : Bytes) (rest : Shape) (wider : (xs : List Part) → Fits IsNonterminal (s.tok (s.one_keyword word) rest) xs → Fits IsNonterminal (whole_shape kind) xs) (inner : every in_header inner_nonterminal (s.tok (s.one_keyword word) rest) ≡ true)
    (along : (xs : List Part) → Fits IsNonterminal (s.tok (s.one_keyword word) rest) xs → spot_after Begins Begins xs ≡ Along) where
  abbrev its : Shape
  its = s.tok (s.one_keyword word) rest

  begun : (xs : List Part) → Fits IsNonterminal its xs → BeginsWith word xs
  begun [] h = absurd h
  begun (x ∷ xs) h = h.0

  ended : (xs front own back : List Part) → xs ≡ front ++ (own ++ back) → Fits IsNonterminal its front → Fits IsNonterminal s.owned own → AtParts Stands Begins Begins xs → Headed kind word back xs
  ended xs front [] back e f h at_ = absurd h
  ended xs front (mark ∷ []) back e f h at_ = absurd h.1
  ended xs front (mark ∷ own ∷ x ∷ ys) back e f h at_ = absurd h.1.1
  ended xs front (mark ∷ own ∷ []) back e f h at_ =
      let both = parts_split Stands Begins Begins front (mark ∷ own ∷ back) (subst (AtParts Stands Begins Begins) e at_) in
      let there = moved (mark ∷ own ∷ back) (along front f) both.1 in
      let after = moved (own ∷ back) (token_goes s.colon_mark mark refl h.0 Begins Along) there.1 in record {
        front = front;
        mark = mark;
        own = own;
        cut = e;
        fits = wider front f;
        begins = begun front f;
        plain = every_part InHeader in_header inner_nonterminal token_in (λ a x i j. (nonterminal_plain a x j, nonterminal_inner a x i j)) its inner front f;
        here = both.0;
        colon = h.0;
        gap = there.0;
        suite = h.1.0;
        there = after.0;
        following = moved back (after_suite own Begins Along h.1.0) after.1;
      }

  headed : (xs front back : List Part) → xs ≡ front ++ back → Fits IsNonterminal (followed its s.owned) front → AtParts Stands Begins Begins xs → Headed kind word back xs
  headed xs front back e h at_ = let w = fits_cut its s.owned front h in ended xs w.0 w.1 back (e ∙ (ap (λ (zs : List Part). zs ++ back) w.2 ∙ append_assoc w.0 w.1 back)) w.3 w.4 at_

-- ---- the headers of each kind

abbrev for_rest : Shape
for_rest = s.list s.primary s.comma_mark false (s.tok (s.one_keyword (codes "in")) (s.sub s.expr s.done))

abbrev test_rest : Shape
test_rest = s.sub s.test s.done

-- a header with its suite, and what follows them
abbrev Begun : Kind → Bytes → Shape → Type 0
Begun kind word shape = (xs front back : List Part) → xs ≡ front ++ back → Fits IsNonterminal shape front → AtParts Stands Begins Begins xs → Headed kind word back xs

pub def_headed : Begun k.Def (codes "def") (s.bzl_shape k.Def)
def_headed = headed k.Def (codes "def") (s.tok s.name (s.tok s.open_round (s.enclosed s.param s.close_round s.done))) (λ xs h. h) refl def_along

pub for_headed : Begun k.ForStmt (codes "for") (s.bzl_shape k.ForStmt)
for_headed = headed k.ForStmt (codes "for") for_rest (λ xs h. h) refl (plain_along (s.one_keyword (codes "for")) for_rest refl)

abbrev pub tested : Bytes → Shape
tested word = s.tok (s.one_keyword word) (s.sub s.test s.owned)

pub if_headed : Begun k.IfStmt (codes "if") (tested (codes "if"))
if_headed = headed k.IfStmt (codes "if") test_rest (λ xs h. inl h) refl (plain_along (s.one_keyword (codes "if")) test_rest refl)

pub elif_headed : Begun k.IfStmt (codes "elif") (tested (codes "elif"))
elif_headed = headed k.IfStmt (codes "elif") test_rest (λ xs h. inr (inl h)) refl (plain_along (s.one_keyword (codes "elif")) test_rest refl)

pub else_headed : Begun k.IfStmt (codes "else") (s.tok (s.one_keyword (codes "else")) s.owned)
else_headed = headed k.IfStmt (codes "else") s.done (λ xs h. inr (inr h)) refl (plain_along (s.one_keyword (codes "else")) s.done refl)
