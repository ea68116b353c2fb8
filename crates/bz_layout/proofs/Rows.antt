-- The spaces that the layout puts in a row, and between brackets, are those that the neighbours require.
use Rattle.bz_layout.proofs.Words.{[], ◌&&◌, ◌++◌, ◌+◌, ◌∙◌, ◌∷◌, ◌≡◌, AllByRecursion, and-false, apart, Bool, both_ways, Bytes, Class, Class as c, comma, comments_of, compound, ended, Expr, false, firsts, Form', Frame, frame, gap_after, has_break, has_token, headed, if◌then◌else◌, in_frame, inl, inr, is_broken_in, is_empty, is_lone, is_number_leaf, is_spaced, is_spaced_after, is_spaced_before, is_tuple, is_value, item_margin, joined, Kind, Kind as k, laid, laid_in, Leaf, leaves_part, length, Lines, List, lone, map, margin_after, margin_lines, mark, nat_eq, new_line_at, no_such, Node', None, not, number_dot, Option, or_parts, Part, Part as p, PartAt, piece_part, refl, replicate, root, row, rowed, SameRoot, sequence, Some, space, space_after, space_before, stacked, subst, suffix_text, sym, Token, true, ℕ}
use Rattle.bz_grammar.specs.Shapes as s
use Rattle.bz_layout.proofs.{Neighbours.is_word, Fitted.Child, Fitted.rooted, Fitted.IsRooted, Fitted.Pieces, Made.plain_part, Elements.AreValues, Touching.Fine, Touching.Between, Touching.Apart, Touching.OpensAt, Touching.BareAt, Touching.Opens, Touching.NumberDot}
use Rattle.bz_layout.proofs.Ends.{by_followed}

-- ---- what a part is to its neighbours does not hang on its gap

pub record SpacedAs (x y : Part) : Type 0 where
  pub after_it : (kind : Kind) → is_spaced_after kind x ≡ is_spaced_after kind y
  pub before_it : (kind : Kind) → is_spaced_before kind x ≡ is_spaced_before kind y
  pub value : is_value x ≡ is_value y
  pub alone : is_lone x ≡ is_lone y
  pub number : is_number_leaf x ≡ is_number_leaf y

same_apart : (kind : Kind) (x y x' y' : Part) → SpacedAs x x' → SpacedAs y y' → apart kind x' y' ≡ apart kind x y
same_apart kind x y x' y' h i = rw (h.after_it kind, i.alone, i.before_it kind, h.value, i.value) refl

same_number_dot : (x y x' y' : Part) → SpacedAs x x' → SameRoot y y' → number_dot x' y' ≡ number_dot x y
same_number_dot x y x' y' h i = rw (h.number, i.token s.dot) refl

-- the first leaf of what is laid out has the gap that it is given
abbrev pub Starts : PartAt → Type 0
Starts f = (gap : Bytes) (m : ℕ) → (l : Leaf) × (ls : List Leaf) × (leaves_part (f gap m) ≡ l ∷ ls) × (l.gap ≡ gap)

-- a child is laid out after its gap, and to its neighbours as its root
pub record IsAfter (x : Child) : Type 0 where
  pub starts : Starts x.1
  pub rooted_as : IsRooted x
  pub spaced_as : (gap : Bytes) (m : ℕ) → SpacedAs (root x.0) (x.1 gap m)

abbrev pub AreAfter : List Child → Type 0
AreAfter xs = AllByRecursion IsAfter xs

opens_at : (f : PartAt) (gap : Bytes) (m : ℕ) → Starts f → Opens gap → OpensAt (leaves_part (f gap m))
opens_at f gap m h o = let w = h gap m in subst OpensAt (sym w.2) (subst Opens (sym w.3) o)

bare_at : (f : PartAt) (m : ℕ) → Starts f → BareAt (leaves_part (f [] m))
bare_at f m h = let w = h [] m in subst BareAt (sym w.2) w.3

no_number_dot : (x y : Part) → number_dot x y ≡ false → NumberDot x y → ⊥
no_number_dot x y h d = both_ways (number_dot x y) h (rw (d.0, d.1) refl)

-- ---- rows

fine_gap : (kind : Kind) (x : Part) (f : PartAt) (o b d : Bool) (j k n : ℕ) → Starts f → (d ≡ false → (apart kind x (f [] n) ≡ false) × (number_dot x (f [] n) ≡ false)) →
    Fine kind x (f (if o then new_line_at j else (if b then new_line_at k else (if d then space ∷ [] else []))) n)
fine_gap kind x f true b d j k n h t = inl (opens_at f (new_line_at j) n h refl)
fine_gap kind x f false true d j k n h t = inl (opens_at f (new_line_at k) n h refl)
fine_gap kind x f false false true j k n h t = inl (opens_at f (space ∷ []) n h refl)
fine_gap kind x f false false false j k n h t = let w = t refl in inr (bare_at f n h, w.0, no_number_dot x (f [] n) w.1)

row_between : (kind : Kind) (open_break : Bool) (m : ℕ) (x : Child) (gap : Bytes) (n n' : ℕ) (xs : List Child) → IsAfter x → AreAfter xs → Between kind (x.1 gap n) (map piece_part (rowed kind open_break m (gap_after kind open_break m x.0 (firsts xs)) n' xs))
row_between kind open_break m x gap n n' [] g h = tt
row_between kind open_break m x gap n n' (y ∷ ys) g h = (
  fine_gap kind (x.1 gap n) y.1 open_break (has_break x.0) (is_spaced kind (root x.0) (root y.0)) (if is_empty (firsts ys) then m else m + 4) (m + 4) n' h.0.starts
      (λ e. let w = or_parts (apart kind (root x.0) (root y.0)) (number_dot (root x.0) (root y.0)) e in (
        same_apart kind (root x.0) (root y.0) (x.1 gap n) (y.1 [] n') (g.spaced_as gap n) (h.0.spaced_as [] n') ∙ w.0,
        same_number_dot (root x.0) (root y.0) (x.1 gap n) (y.1 [] n') (g.spaced_as gap n) (h.0.rooted_as [] n') ∙ w.1,
      )),
  row_between kind open_break m y (gap_after kind open_break m x.0 (firsts (y ∷ ys))) n' (margin_after open_break m y.0) ys h.0 h.1,
)

pub row_apart : (kind : Kind) (open_break : Bool) (m : ℕ) (gap : Bytes) (n : ℕ) (xs : List Child) → AreAfter xs → Apart kind (map piece_part (rowed kind open_break m gap n xs))
row_apart kind open_break m gap n [] h = tt
row_apart kind open_break m gap n (x ∷ xs) h = row_between kind open_break m x gap n (margin_after open_break m x.0) xs h.0 h.1

-- ---- sequences: what touches a bracket or a comma

lone_before : (kind : Kind) (y : Part) → is_lone y ≡ true → (is_spaced_before kind y ≡ false) × (is_value y ≡ false)
lone_before kind (Node' k z r) h = no_such h
lone_before kind (p.Leaf l) h = by_class l.class l.token h
  where
    by_class : (class : Class) (t : Bytes) → lone (s.this class t) ≡ true → (space_before kind (s.this class t) ≡ false) × (is_word class ≡ false)
    by_class c.Mark t e = (rw e refl, refl)
    by_class _ t e = no_such e

-- anything touches a bracket or a comma after it, but a token that requires a space does not require it there
touches_lone : (kind : Kind) (x y : Part) → is_lone y ≡ true → apart kind x y ≡ false
touches_lone kind x y h = let w = lone_before kind y h in rw (h, w.0, w.1, and-false (is_spaced_after kind x), and-false (is_value x)) refl

value_before : (kind : Kind) (y : Part) → is_value y ≡ true → is_spaced_before kind y ≡ false
value_before kind (Node' k z r) h = refl
value_before kind (p.Leaf l) h = by_class l.class l.token h
  where
    by_class : (class : Class) (t : Bytes) → is_word class ≡ true → space_before kind (s.this class t) ≡ false
    by_class c.Mark t e = no_such e
    by_class c.Keyword t e = no_such e
    by_class _ t e = refl

-- a value touches the bracket before it
touches_opener : (kind : Kind) (x y : Part) → is_spaced_after kind x ≡ false → is_value x ≡ false → is_value y ≡ true → apart kind x y ≡ false
touches_opener kind x y h i j = rw (h, i, value_before kind y j) refl

abbrev pub mark_part : Bytes → ℕ → Part
mark_part gap m = p.Leaf (record { class = c.Mark; gap = gap; token = m ∷ [] })

-- what is laid out of an item is a value, after the gap that it is given
abbrev pub IsItem : PartAt → Type 0
IsItem f = Starts f × ((gap : Bytes) (m : ℕ) → is_value (f gap m) ≡ true)

abbrev pub AreItems : List Child → Type 0
AreItems xs = AllByRecursion (λ x. IsItem x.1) xs

opens_suffix : (suffix : Option Bytes) (t : Bytes) → Opens (suffix_text suffix ++ (10 ∷ t))
opens_suffix None t = refl
opens_suffix (Some text) t = refl

opens_ended : (suffix : Option Bytes) (n m : ℕ) (end : List Bytes) → Opens (suffix_text suffix ++ ended n m end)
opens_ended None n m [] = refl
opens_ended None n m (text ∷ texts) = refl
opens_ended (Some text) n m end = refl

-- a bracket, a comma or a colon
record IsLone (n : ℕ) : Type 0 where
  pub alone : lone (s.this c.Mark (n ∷ [])) ≡ true
  pub no_dot : (gap : Bytes) → has_token s.dot (mark_part gap n) ≡ false

-- anything before such a mark
before_lone : (kind : Kind) (n : ℕ) → IsLone n → (x : Part) → Fine kind x (mark_part [] n)
before_lone kind n b x = inr (refl, touches_lone kind x (mark_part [] n) b.alone, λ d. both_ways (has_token s.dot (mark_part [] n)) (b.no_dot []) d.1)

-- ---- all kinds

abbrev Bracketed : Kind → Frame → Type 0
Bracketed kind (sequence opener closer) = IsLone opener × IsLone closer × (space_after kind (s.this c.Mark (opener ∷ [])) ≡ false)
Bracketed kind _ = Unit {0}

round : IsLone 40 × IsLone 41
round = (record { alone = refl; no_dot = λ gap. refl }, record { alone = refl; no_dot = λ gap. refl })

bracketed : (kind : Kind) → Bracketed kind (frame kind)
bracketed k.Call = (round.0, round.1, refl)
bracketed k.Load = (round.0, round.1, refl)
bracketed k.Tuple = (round.0, round.1, refl)
bracketed k.Def = (round.0, round.1, refl)
bracketed k.List = (record { alone = refl; no_dot = λ gap. refl }, record { alone = refl; no_dot = λ gap. refl }, refl)
bracketed k.Dict = (record { alone = refl; no_dot = λ gap. refl }, record { alone = refl; no_dot = λ gap. refl }, refl)
bracketed _ = tt

pub items_of : (xs : List Child) → AreAfter xs → AreValues (rooted xs) → AreItems xs
items_of [] h i = tt
items_of (x ∷ xs) h i = ((h.0.starts, λ gap m. sym (h.0.spaced_as gap m).value ∙ i.0), items_of xs h.1 i.1)

module _ (mode : Lines) where
  -- ---- what a part is to its neighbours does not hang on its gap

  pub plain_spaced : (x : Expr) (gap : Bytes) (m : ℕ) → SpacedAs (root x) (plain_part mode x gap m)
  plain_spaced (Token t) gap m = record { after_it = λ kind. refl; before_it = λ kind. refl; value = refl; alone = refl; number = refl }
  plain_spaced (Form' kind z parts z' items end split open_break comments) gap m = record { after_it = λ kind. refl; before_it = λ kind. refl; value = refl; alone = refl; number = refl }

  -- ---- sequences: what touches a bracket or a comma

  module _ (kind : Kind) (closer : ℕ) (closes : IsLone closer) where
    before_comma : (x : Part) → Fine kind x (mark_part [] comma)
    before_comma x = before_lone kind comma (record { alone = refl; no_dot = λ gap. refl }) x

    after_space : (x : Part) (m : ℕ) (f : PartAt) → IsItem f → Fine kind x (f (space ∷ []) m)
    after_space x m f h = inl (opens_at f (space ∷ []) m h.0 refl)

    maybe_comma : (b : Bool) (x : Part) (after : Pieces) → Between kind x (map piece_part after) → Between kind (mark_part [] comma) (map piece_part after) → Between kind x (map piece_part ((if b then [] else (mark [] (comma ∷ []) ∷ [])) ++ after))
    maybe_comma true x after h k = h
    maybe_comma false x after h k = (before_comma x, k)

    joined_between : (m : ℕ) (gap : Bytes) (one : Bool) (xs : List Child) (x : Part) → ((f : PartAt) → IsItem f → Fine kind x (f gap m)) → AreItems xs → Between kind x (map piece_part (joined m gap closer one xs))
    joined_between m gap one [] x first h = (before_lone kind closer closes x, tt)
    joined_between m gap one (y ∷ ys) x first h = (
      first y.1 h.0,
      maybe_comma (is_empty ys && not one) (y.1 gap m) (joined m (space ∷ []) closer false ys)
          (joined_between m (space ∷ []) false ys (y.1 gap m) (after_space (y.1 gap m) m) h.1)
          (joined_between m (space ∷ []) false ys (mark_part [] comma) (after_space (mark_part [] comma) m) h.1),
    )

    stacked_between : (n m : ℕ) (suffix : Option Bytes) (end : List Bytes) (xs : List Child) (x : Part) → AreItems xs → Between kind x (map piece_part (stacked mode kind n m suffix closer end xs))
    stacked_between n m suffix end [] x h = (inl (opens_ended suffix n m end), tt)
    stacked_between n m suffix end (y ∷ ys) x h =
        let gap : Bytes = suffix_text suffix ++ (new_line_at n ++ margin_lines n (comments_of y.0).before) in (
          inl (opens_at y.1 gap n h.0.0 (opens_suffix suffix (replicate n space ++ margin_lines n (comments_of y.0).before))),
          by_followed (λ ps. Between kind (y.1 gap n) (map piece_part ps)) mode kind y.0 (firsts ys) end closer (stacked mode kind n m (comments_of y.0).suffix closer end ys)
              (λ closed. (before_lone kind closer closes (y.1 gap n), tt)) (λ last. stacked_between n m (comments_of y.0).suffix end ys (y.1 gap n) h.1)
              (before_comma (y.1 gap n), stacked_between n m (comments_of y.0).suffix end ys (mark_part [] comma) h.1),
        )

    module _ (opener : ℕ) (opens : IsLone opener) (quiet : space_after kind (s.this c.Mark (opener ∷ [])) ≡ false) where
      after_opener : (gap : Bytes) (m : ℕ) (f : PartAt) → IsItem f → Fine kind (mark_part gap opener) (f [] m)
      after_opener gap m f h = inr (bare_at f m h.0, touches_opener kind (mark_part gap opener) (f [] m) quiet refl (h.1 [] m), λ d. no_such d.0)

      -- what is after the opening bracket, broken or not
      body_between : (broken one : Bool) (gap : Bytes) (n m : ℕ) (end : List Bytes) (xs : List Child) → AreItems xs → Between kind (mark_part gap opener) (map piece_part (if broken then stacked mode kind n m None closer end xs else joined m [] closer one xs))
      body_between true one gap n m end xs h = stacked_between n m None end xs (mark_part gap opener) h
      body_between false one gap n m end xs h = joined_between m [] one xs (mark_part gap opener) (after_opener gap m) h

      -- parts before the bracket, a space between them
      heads_between : (x : Part) (m : ℕ) (heads : List Child) (body : Pieces) → AreAfter heads → Between kind (mark_part [] opener) (map piece_part body) → Between kind x (map piece_part (headed m (if is_empty heads then [] else (space ∷ [])) opener heads body))
      heads_between x m [] body h b = (before_lone kind opener opens x, b)
      heads_between x m (y ∷ ys) body h b = (inl (opens_at y.1 (space ∷ []) m h.0.starts refl), heads_between (y.1 (space ∷ []) m) m ys body h.1 b)

      headed_apart : (broken one : Bool) (gap : Bytes) (n m : ℕ) (end : List Bytes) (heads xs : List Child) → AreAfter heads → AreItems xs →
          Apart kind (map piece_part (headed m gap opener heads (if broken then stacked mode kind n m None closer end xs else joined m [] closer one xs)))
      headed_apart broken one gap n m end [] xs h i = body_between broken one gap n m end xs i
      headed_apart broken one gap n m end (x ∷ heads) xs h i = heads_between (x.1 gap m) m heads _ h.1 (body_between broken one [] n m end xs i)

  -- ---- all kinds

  apart_in : (f : Frame) (kind : Kind) → Bracketed kind f → (split open_break : Bool) (gap : Bytes) (m : ℕ) (parts items : List Child) (end : List Bytes) → AreAfter parts → AreAfter items →
      in_frame f (Unit {0}) (AreValues (rooted items)) (Unit {0}) → Apart kind (map piece_part (laid_in mode f kind split open_break gap m parts items end))
  apart_in row kind b split open_break gap m parts items end h i v = row_apart kind open_break m gap m parts h
  apart_in compound kind b split open_break gap m parts items end h i v = tt
  apart_in (sequence opener closer) kind b split open_break gap m parts items end h i v =
      headed_apart kind closer b.1 opener b.0 b.2 (is_broken_in mode kind split (firsts items) end) (is_tuple kind && nat_eq (length items) 1) gap (item_margin mode kind m) m end parts items h (items_of items i v)

  -- each two neighbours of what is laid out of a form are apart where they must be
  pub laid_apart : (kind : Kind) (split open_break : Bool) (gap : Bytes) (m : ℕ) (parts items : List Child) (end : List Bytes) → AreAfter parts → AreAfter items →
      in_frame (frame kind) (Unit {0}) (AreValues (rooted items)) (Unit {0}) → Apart kind (map piece_part (laid mode kind split open_break gap m parts items end))
  laid_apart kind split open_break gap m parts items end h i v = apart_in (frame kind) kind (bracketed kind) split open_break gap m parts items end h i v
