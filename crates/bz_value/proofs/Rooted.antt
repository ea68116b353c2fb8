-- All that the table of shapes sees of a part is its root: parts of equal roots fit equal shapes.
use Rattle.bz_value.proofs.Words.{[], ◌++◌, ◌∙◌, ◌∷◌, ◌≡◌, After, ap, Bool, comma, compound, done, drop, each_with_comma, Fits, Frame, frame, has_nonterminal, has_token, inl, inr, is_one_of, is_terminal, IsNonterminal, items, Kind, Kind as k, lead, List, Listed, mark_leaf, no_more, Nonterminal, once_more, Part, refl, row, row_in, sequence, Several, Shape, shape, subst, suc, sym, take, Terminal, Times, tok, true, whole_shape}
use Rattle.bz_lex.specs.declared.leaf.Leaf.{Leaf}
use Rattle.bz_grammar.specs.Shapes as s

pub record SameRoot (x y : Part) : Type 0 where
  pub token : (ts : List Terminal) → has_token ts x ≡ has_token ts y
  pub nonterminal : (q : Nonterminal) → has_nonterminal q x ≡ has_nonterminal q y

pub data Same : List Part → List Part → Type 0 where
  over : Same [] []
  more : (x y : Part) (xs ys : List Part) → SameRoot x y → Same xs ys → Same (x ∷ xs) (y ∷ ys)

abbrev Carries : (List Part → Type 0) → Type 0
Carries K = (xs ys : List Part) → Same xs ys → K xs → K ys

module _ (q : Nonterminal) (K : List Part → Type 0) (carries : Carries K) where
  mutual
    listed_same : (ts : List Terminal) (last : Bool) (xs ys : List Part) → Same xs ys → Listed (IsNonterminal q) ts last K xs → Listed (IsNonterminal q) ts last K ys
    listed_same ts last xs ys over h = absurd h
    listed_same ts last xs ys (more x y xs' ys' r w) h = (sym (r.nonterminal q) ∙ h.0, after_same ts last xs' ys' w h.1)

    after_same : (ts : List Terminal) (last : Bool) (xs ys : List Part) → Same xs ys → After (IsNonterminal q) ts last K xs → After (IsNonterminal q) ts last K ys
    after_same ts last xs ys over h = carries [] [] over h
    after_same ts last xs ys (more x y xs' ys' r w) (inl h) = inl (carries (x ∷ xs') (y ∷ ys') (more x y xs' ys' r w) h)
    after_same ts last xs ys (more x y xs' ys' r w) (inr (m, inl h)) = inr (sym (r.token ts) ∙ m, inl (listed_same ts last xs' ys' w h))
    after_same ts last xs ys (more x y xs' ys' r w) (inr (m, inr h)) = inr (sym (r.token ts) ∙ m, inr (h.0, carries xs' ys' w h.1))

  several_same : (xs ys : List Part) → Same xs ys → Several (IsNonterminal q) K xs → Several (IsNonterminal q) K ys
  several_same xs ys over h = carries [] [] over h
  several_same xs ys (more x y xs' ys' r w) (inl h) = inl (carries (x ∷ xs') (y ∷ ys') (more x y xs' ys' r w) h)
  several_same xs ys (more x y xs' ys' r w) (inr h) = inr (sym (r.nonterminal q) ∙ h.0, several_same xs' ys' w h.1)

-- the same row, cut where the other is
cut_same : (zs ys : List Part) → Same zs ys → (front back : List Part) → zs ≡ front ++ back → (f : List Part) × (b : List Part) × (ys ≡ f ++ b) × Same front f × Same back b
cut_same zs ys w [] back e = ([], ys, refl, over, subst (λ us. Same us ys) e w)
cut_same zs ys over (x ∷ front) back e = absurd (cc)
cut_same zs ys (more x y xs ys' r w) (z ∷ front) back e =
    let first : x ≡ z = cc in
    let following : xs ≡ front ++ back = cc in
    let c = cut_same xs ys' w front back following in
    (y ∷ c.0, c.1, ap (λ us. y ∷ us) c.2, more z y front c.0 (subst (λ u. SameRoot u y) first r) c.3, c.4)

times_same : (F K : List Part → Type 0) → Carries F → Carries K → Carries (Times F K)
times_same F K f k xs ys w (no_more h) = no_more (k xs ys w h)
times_same F K f k xs ys w (once_more front back e h m) =
    let c = cut_same xs ys w front back e in
    once_more c.0 c.1 c.2 (f front c.0 c.3 h) (times_same F K f k back c.1 c.4 m)

pub fits_same : (r : Shape) → Carries (Fits IsNonterminal r)
fits_same s.none xs ys w h = absurd h
fits_same s.done xs ys over h = h
fits_same s.done xs ys (more x y xs' ys' r w) h = absurd h
fits_same (s.tok ts then_) xs ys over h = absurd h
fits_same (s.tok ts then_) xs ys (more x y xs' ys' r w) h = (sym (r.token ts) ∙ h.0, fits_same then_ xs' ys' w h.1)
fits_same (s.sub q then_) xs ys over h = absurd h
fits_same (s.sub q then_) xs ys (more x y xs' ys' r w) h = (sym (r.nonterminal q) ∙ h.0, fits_same then_ xs' ys' w h.1)
fits_same (s.alt left right) xs ys w (inl h) = inl (fits_same left xs ys w h)
fits_same (s.alt left right) xs ys w (inr h) = inr (fits_same right xs ys w h)
fits_same (s.list q ts last then_) xs ys w h = listed_same q (Fits IsNonterminal then_) (fits_same then_) ts last xs ys w h
fits_same (s.each q then_) xs ys w h = several_same q (Fits IsNonterminal then_) (fits_same then_) xs ys w h
fits_same (s.times group then_) xs ys w h = times_same (Fits IsNonterminal group) (Fits IsNonterminal then_) (fits_same group) (fits_same then_) xs ys w h

one_terminal : (t : Terminal) (l : Leaf) → is_terminal t l ≡ is_terminal t (record { class = l.class; gap = []; token = l.token })
one_terminal (s.any class) l = refl
one_terminal (s.this class token) l = refl

-- the gap of a leaf is not seen
pub one_of_same : (ts : List Terminal) (l : Leaf) → is_one_of ts l ≡ is_one_of ts (record { class = l.class; gap = []; token = l.token })
one_of_same [] l = refl
one_of_same (t ∷ ts) l = rw (one_terminal t l, one_of_same ts l) refl

-- ---- rows with brackets and commas put back

pub itself : (x : Part) → SameRoot x x
itself x = record { token = λ ts. refl; nonterminal = λ q. refl }

pub same_itself : (xs : List Part) → Same xs xs
same_itself [] = over
same_itself (x ∷ xs) = more x x xs xs (itself x) (same_itself xs)

pub commas_same : (xs ys back : List Part) → Same xs ys → Same (each_with_comma xs ++ back) (each_with_comma ys ++ back)
commas_same xs ys back over = same_itself back
commas_same xs ys back (more x y xs' ys' r w) = more x y _ _ r (more (mark_leaf comma) (mark_leaf comma) _ _ (itself (mark_leaf comma)) (commas_same xs' ys' back w))

pub after_same_parts : (xs ys us vs : List Part) → Same xs ys → Same us vs → Same (xs ++ us) (ys ++ vs)
after_same_parts xs ys us vs over i = i
after_same_parts xs ys us vs (more x y xs' ys' r w) i = more x y _ _ r (after_same_parts xs' ys' us vs w i)

pub row_same : (f : Frame) (xs ys us vs : List Part) → Same xs ys → Same us vs → Same (row_in f xs us) (row_in f ys vs)
row_same row xs ys us vs h i = h
row_same (sequence opener closer) xs ys us vs h i = after_same_parts xs ys _ _ h (more (mark_leaf opener) (mark_leaf opener) _ _ (itself (mark_leaf opener)) (commas_same us vs (mark_leaf closer ∷ []) i))
row_same compound xs ys us vs h i = over

-- ---- a sequence fits with a comma after each item

-- the items of a sequence, after its opening bracket: item, comma, item, .., closing bracket
abbrev pub places : {X : Type 0} → List X → List X
places [] = []
places (x ∷ []) = []
places (x ∷ y ∷ xs) = x ∷ places xs

-- with a comma after each, and this bracket after all
abbrev closed : Part → List Part → List Part
closed closer xs = each_with_comma (places xs) ++ closer ∷ []

module _ (close : List Terminal) (closer : Part) (closes : has_token close closer ≡ true) where
  ends_same : (x : Part) (xs : List Part) → Fits IsNonterminal (tok close done) (x ∷ xs) → Fits IsNonterminal (tok close done) (closed closer (x ∷ xs))
  ends_same x [] h = (closes, tt)
  ends_same x (y ∷ xs) h = absurd h.1

  listed_closed : (q : Nonterminal) (xs : List Part) → Listed (IsNonterminal q) s.comma_mark true (Fits IsNonterminal (tok close done)) xs → Listed (IsNonterminal q) s.comma_mark true (Fits IsNonterminal (tok close done)) (closed closer xs)
  listed_closed q [] h = absurd h
  listed_closed q (x ∷ []) h = absurd h.1
  listed_closed q (x ∷ y ∷ []) (h, inl i) = (h, inr (refl, inr (refl, (closes, tt))))
  listed_closed q (x ∷ y ∷ z ∷ xs) (h, inl i) = absurd i.1
  listed_closed q (x ∷ y ∷ xs) (h, inr (m, inl i)) = (h, inr (refl, inl (listed_closed q xs i)))
  listed_closed q (x ∷ y ∷ []) (h, inr (m, inr i)) = absurd i.1
  listed_closed q (x ∷ y ∷ z ∷ xs) (h, inr (m, inr i)) = (h, inr (refl, inr (refl, ends_same z xs i.1)))

  items_closed : (q : Nonterminal) (xs : List Part) → Fits IsNonterminal (items q close) xs → Fits IsNonterminal (items q close) (closed closer xs)
  items_closed q [] (inl h) = absurd h
  items_closed q (x ∷ xs) (inl h) = inl (ends_same x xs h)
  items_closed q xs (inr h) = inr (listed_closed q xs h)

-- of the parts of a node, those that a form of its kind keeps: its parts and its items
abbrev pub kept_parts : {X : Type 0} → Frame → Kind → List X → List X
kept_parts (sequence opener closer) kind xs = take (lead kind) xs
kept_parts _ kind xs = xs

abbrev pub kept_items : {X : Type 0} → Frame → Kind → List X → List X
kept_items (sequence opener closer) kind xs = places (drop (suc (lead kind)) xs)
kept_items _ kind xs = []

call_fits : (ps : List Part) → Fits IsNonterminal (shape k.Call) ps → Fits IsNonterminal (shape k.Call) (row_in (frame k.Call) (kept_parts (frame k.Call) k.Call ps) (kept_items (frame k.Call) k.Call ps))
call_fits [] h = absurd h
call_fits (x ∷ []) h = absurd h.1
call_fits (x ∷ y ∷ ps) h = (h.0, (refl, items_closed s.close_round (mark_leaf 41) refl s.argument ps h.1.1))

load_fits : (ps : List Part) → Fits IsNonterminal (shape k.Load) ps → Fits IsNonterminal (shape k.Load) (row_in (frame k.Load) (kept_parts (frame k.Load) k.Load ps) (kept_items (frame k.Load) k.Load ps))
load_fits [] h = absurd h
load_fits (w ∷ []) h = absurd h.1
load_fits (w ∷ y ∷ []) h = absurd h.1.1
load_fits (w ∷ y ∷ x ∷ []) (a, (b, (d, inl i))) = absurd i
load_fits (w ∷ y ∷ x ∷ []) (a, (b, (d, inr i))) = absurd i
load_fits (w ∷ y ∷ x ∷ z ∷ []) (a, (b, (d, inl i))) = (a, (refl, (d, inr (refl, inl (refl, tt)))))
load_fits (w ∷ y ∷ x ∷ z ∷ u ∷ ps) (a, (b, (d, inl i))) = absurd i.1
load_fits (w ∷ y ∷ x ∷ z ∷ ps) (a, (b, (d, inr i))) = (a, (refl, (d, inr (refl, items_closed s.close_round (mark_leaf 41) refl s.loaded ps i.1))))

tuple_fits : (ps : List Part) → Fits IsNonterminal (shape k.Tuple) ps → Fits IsNonterminal (shape k.Tuple) (row_in (frame k.Tuple) (kept_parts (frame k.Tuple) k.Tuple ps) (kept_items (frame k.Tuple) k.Tuple ps))
tuple_fits [] h = absurd h
tuple_fits (y ∷ []) (a, inl i) = absurd i
tuple_fits (y ∷ x ∷ ps) (a, inl i) = (refl, inl (ends_same s.close_round (mark_leaf 41) refl x ps i))
tuple_fits (y ∷ []) (a, inr i) = absurd i
tuple_fits (y ∷ x ∷ []) (a, inr i) = absurd i.1
tuple_fits (y ∷ x ∷ z ∷ ps) (a, inr i) = (refl, inr (i.0, (refl, items_closed s.close_round (mark_leaf 41) refl s.test ps i.1.1)))

list_fits : (ps : List Part) → Fits IsNonterminal (shape k.List) ps → Fits IsNonterminal (shape k.List) (row_in (frame k.List) (kept_parts (frame k.List) k.List ps) (kept_items (frame k.List) k.List ps))
list_fits [] h = absurd h
list_fits (y ∷ ps) h = (refl, items_closed s.close_square (mark_leaf 93) refl s.test ps h.1)

dict_fits : (ps : List Part) → Fits IsNonterminal (shape k.Dict) ps → Fits IsNonterminal (shape k.Dict) (row_in (frame k.Dict) (kept_parts (frame k.Dict) k.Dict ps) (kept_items (frame k.Dict) k.Dict ps))
dict_fits [] h = absurd h
dict_fits (y ∷ ps) h = (refl, items_closed s.close_curly (mark_leaf 125) refl s.entry ps h.1)

def_fits : (ps : List Part) → Fits IsNonterminal (whole_shape k.Def) ps → Fits IsNonterminal (whole_shape k.Def) (row_in (frame k.Def) (kept_parts (frame k.Def) k.Def ps) (kept_items (frame k.Def) k.Def ps))
def_fits [] h = absurd h
def_fits (w ∷ []) h = absurd h.1
def_fits (w ∷ x ∷ []) h = absurd h.1.1
def_fits (w ∷ x ∷ y ∷ ps) h = (h.0, (h.1.0, (refl, items_closed s.close_round (mark_leaf 41) refl s.param ps h.1.1.1)))

-- What a form keeps of a node's parts has the shape of its kind again, with brackets and commas put back.
pub value_fits : (kind : Kind) (ps : List Part) → Fits IsNonterminal (whole_shape kind) ps → Fits IsNonterminal (whole_shape kind) (row_in (frame kind) (kept_parts (frame kind) kind ps) (kept_items (frame kind) kind ps))
value_fits k.Call ps h = call_fits ps h
value_fits k.Load ps h = load_fits ps h
value_fits k.Tuple ps h = tuple_fits ps h
value_fits k.List ps h = list_fits ps h
value_fits k.Dict ps h = dict_fits ps h
value_fits k.Def ps h = def_fits ps h
value_fits k.Suite ps h = tt
value_fits _ ps h = h
