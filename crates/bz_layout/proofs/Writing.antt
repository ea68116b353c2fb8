-- The steps of the loops that write rows and sequences as text, and the text of a form by its frame.
use Rattle.bz_layout.proofs.Words.{[], ◌&&◌, ◌++◌, ◌+◌, ◌-◌, ◌<◌, ◌∙◌, ◌∷◌, ◌≡◌, ◌≤◌, ap, append-nil, append_assoc, arith, at_margin, before_next_in, body_text, Bool, both_ways, Bytes, Class as c, codes, comma, comma_below, comma_text, comments_of, compound, Drafted, drop, drop_all, drop_more, ended, equals, Expr, false, flat_map, followed, Form, Form', Frame, frame, gap_after, get_or, has_brackets, has_break, has_suite, has_token, headed, if◌then◌else◌, indented_lines, is_bare, is_broken_in, is_closed, is_compound, is_empty, is_lone, is_prefix_mark, is_spaced, is_spaced_after, is_spaced_before, is_tuple, Item, item_margin, item_text_in, joined, joined_text, Kind, layout_in, length, length-drop, length-map, line_end, line_feed, Lines, List, margin_after, margin_lines, mark, nat_eq, new_line_at, None, not, Option, or_left, or_right, Piece, piece_text, pushed, refl, replicate, root, row, row_text, rowed, sequence, space, space_text, stacked, stacked_text, statements_text, suffix_text, suite_text, sym, take, take_all, text_by_frame, text_in, TextAt, Token, true, writings, ℕ}
use Rattle.std.specs.Cmp.Derive.{both_true}
use Rattle.bz_value.specs.declared.value.Expr.TheVariants as e
use Rattle.bz_layout.proofs.{Made.text_Form, Made.values_of, Pushing.pushed_end, Pushing.pushed_none, Pushing.pushed_twice, Spelled.next_after, Elements.this_leaf}

abbrev written : List (Piece TextAt) → Bytes
written ps = flat_map piece_text ps

-- ---- rows

-- a row of three parts, and three texts that are pushed
pub three_of : (xs : List Expr) (a b d : Expr) → length xs ≡ 3 → a ≡ get_or xs 0 a → b ≡ get_or xs 1 b → d ≡ get_or xs 2 d → xs ≡ a ∷ b ∷ d ∷ []
three_of [] a b d l e f g = absurd cc
three_of (x ∷ []) a b d l e f g = absurd cc
three_of (x ∷ y ∷ []) a b d l e f g = absurd cc
three_of (x ∷ y ∷ z ∷ []) a b d l e f g = ap (λ w. w ∷ y ∷ z ∷ []) (sym e) ∙ (ap (λ w. a ∷ w ∷ z ∷ []) (sym f) ∙ ap (λ w. a ∷ b ∷ w ∷ []) (sym g))
three_of (x ∷ y ∷ z ∷ w ∷ xs) a b d l e f g = absurd (omega (arith, l))

pub two_pushed : (out one two : Drafted) (x y all : Bytes) → one ≡ pushed out x → two ≡ pushed one y → all ≡ x ++ y → two ≡ pushed out all
two_pushed out one two x y all first second is = second ∙ (ap (λ d. pushed d y) first ∙ (pushed_twice out x y ∙ ap (pushed out) (sym is)))

pub three_pushed : (out one two : Drafted) (x y z all : Bytes) → one ≡ pushed out x → two ≡ pushed one y → all ≡ x ++ (y ++ z) → pushed two z ≡ pushed out all
three_pushed out one two x y z all first second is = two_pushed out one (pushed two z) x (y ++ z) all first (ap (λ d. pushed d z) second ∙ pushed_twice one y z) is

-- ---- sequences

-- three texts after a first one
after_first : (a b c d : Bytes) → ((a ++ b) ++ c) ++ d ≡ a ++ ((b ++ c) ++ d)
after_first a b c d = ap (λ z. z ++ d) (append_assoc a b c) ∙ append_assoc a (b ++ c) d

-- ---- forms by their frames

is_row : (f : Frame) → has_brackets f ≡ false → is_compound f ≡ false → f ≡ row
is_row row h i = refl
is_row (sequence opener closer) h i = absurd cc
is_row compound h i = absurd cc

is_suite : (f : Frame) → is_compound f ≡ true → f ≡ compound
is_suite row h = absurd cc
is_suite (sequence opener closer) h = absurd cc
is_suite compound h = refl

-- ---- statements

-- what has a suite ends with that
pub suite_end : (x : Expr) → has_suite x ≡ true → line_end x ≡ []
suite_end x h = ap (λ (b : Bool). if b then [] else suffix_text (comments_of x).suffix ++ line_feed ∷ []) h

pub plain_end : (x : Expr) → has_suite x ≡ false → line_end x ≡ suffix_text (comments_of x).suffix ++ (line_feed ∷ [])
plain_end x h = ap (λ (b : Bool). if b then [] else suffix_text (comments_of x).suffix ++ line_feed ∷ []) h

four_texts : (a b c d rest : Bytes) → (a ++ (b ++ (c ++ d))) ++ rest ≡ a ++ (b ++ (c ++ (d ++ rest)))
four_texts a b c d rest = simp append_assoc

pub lines_next : (m : ℕ) (ts : List Bytes) (k : ℕ) (d : Bytes) → k < length ts →
    indented_lines (at_margin m (drop k ts)) ≡ replicate m space ++ (get_or ts k d ++ (line_feed ∷ indented_lines (at_margin m (drop (k + 1) ts))))
lines_next m ts k d h =
    let rest : Bytes = indented_lines (at_margin m (drop (k + 1) ts)) in
    ap (λ us. indented_lines (at_margin m us)) (drop_more ts k d h) ∙
    (append_assoc (replicate m space) (get_or ts k d ++ line_feed ∷ []) rest ∙ ap (λ t. replicate m space ++ t) (append_assoc (get_or ts k d) (line_feed ∷ []) rest))

pub lines_end : (d : Drafted) (m : ℕ) (ts : List Bytes) (k : ℕ) → length ts ≤ k → pushed d (indented_lines (at_margin m (drop k ts))) ≡ d
lines_end d m ts k l = pushed_end (λ us. indented_lines (at_margin m us)) d ts k refl l

-- ---- comments above an item and at the end of a sequence

pub above_next : (m : ℕ) (ts : List Bytes) (k : ℕ) (d : Bytes) → k < length ts → margin_lines m (drop k ts) ≡ get_or ts k d ++ (new_line_at m ++ margin_lines m (drop (k + 1) ts))
above_next m ts k d h = ap (margin_lines m) (drop_more ts k d h)

pub above_end : (d : Drafted) (m : ℕ) (ts : List Bytes) (k : ℕ) → length ts ≤ k → pushed d (margin_lines m (drop k ts)) ≡ d
above_end d m ts k l = pushed_end (margin_lines m) d ts k refl l

pub ended_next : (n m : ℕ) (ts : List Bytes) (k : ℕ) (d : Bytes) → k < length ts → ended n m (drop k ts) ≡ new_line_at n ++ (get_or ts k d ++ ended n m (drop (k + 1) ts))
ended_next n m ts k d h = ap (ended n m) (drop_more ts k d h)

-- ---- files

-- what is left of a list, as a slice to its end
pub rest_here : {X : Type 0} (xs : List X) (n : ℕ) → take (length xs - n) (drop n xs) ≡ drop n xs
rest_here xs n = take_all (length xs - n) (drop n xs) (omega (arith, length-drop n xs))

after_pushed : (out one : Drafted) (text more : Bytes) → one ≡ pushed out text → pushed one more ≡ pushed out (text ++ more)
after_pushed out one text more is = ap (λ d. pushed d more) is ∙ pushed_twice out text more

-- a comma, if there is one
with_comma : (bare : Bool) (below : List (Piece TextAt)) → written (if bare then below else (mark [] (comma ∷ []) ∷ below)) ≡ (if bare then [] else (comma ∷ [])) ++ written below
with_comma true below = refl
with_comma false below = refl

module _ (mode : Lines) where
  -- ---- rows

  -- the gap before the rest of a row is before its text
  row_gap : (kind : Kind) (open_break : Bool) (m n : ℕ) (x : Expr) (xs : List Expr) →
      written (rowed kind open_break m (gap_after kind open_break m x xs) n (writings mode xs)) ≡ gap_after kind open_break m x xs ++ row_text mode kind open_break m n xs
  row_gap kind open_break m n x [] = refl
  row_gap kind open_break m n x (y ∷ ys) = append_assoc (gap_after kind open_break m x (y ∷ ys)) (text_in mode y n) _

  pub row_first : (kind : Kind) (open_break : Bool) (m n : ℕ) (x : Expr) (xs : List Expr) →
      row_text mode kind open_break m n (x ∷ xs) ≡ text_in mode x n ++ (gap_after kind open_break m x xs ++ row_text mode kind open_break m (margin_after open_break m x) xs)
  row_first kind open_break m n x xs =
      ap (λ ys. text_in mode x n ++ written (rowed kind open_break m (gap_after kind open_break m x ys) (margin_after open_break m x) (writings mode xs))) (values_of (text_in mode) xs) ∙
      ap (λ t. text_in mode x n ++ t) (row_gap kind open_break m (margin_after open_break m x) x xs)

  pub row_next : (kind : Kind) (open_break : Bool) (m n : ℕ) (xs : List Expr) (k : ℕ) (d : Expr) → k < length xs →
      row_text mode kind open_break m n (drop k xs) ≡
      text_in mode (get_or xs k d) n ++ (gap_after kind open_break m (get_or xs k d) (drop (k + 1) xs) ++ row_text mode kind open_break m (margin_after open_break m (get_or xs k d)) (drop (k + 1) xs))
  row_next kind open_break m n xs k d h = ap (λ ys. row_text mode kind open_break m n ys) (drop_more xs k d h) ∙ row_first kind open_break m n (get_or xs k d) (drop (k + 1) xs)

  pub row_end : (d : Drafted) (kind : Kind) (open_break : Bool) (m n : ℕ) (xs : List Expr) (k : ℕ) → length xs ≤ k → pushed d (row_text mode kind open_break m n (drop k xs)) ≡ d
  row_end d kind open_break m n xs k l = pushed_end (row_text mode kind open_break m n) d xs k refl l

  -- ---- sequences

  joined_first : (m closer : ℕ) (one : Bool) (x : Expr) (xs : List Expr) → joined_text mode m closer one (x ∷ xs) ≡ text_in mode x m ++ (comma_text one xs ++ joined_text mode m closer false xs)
  joined_first m closer true x [] = refl
  joined_first m closer false x [] = refl
  joined_first m closer one x (y ∷ ys) = refl

  pub joined_next : (m closer : ℕ) (one : Bool) (xs : List Expr) (k : ℕ) (d : Expr) → k < length xs →
      joined_text mode m closer one (drop k xs) ≡ text_in mode (get_or xs k d) m ++ (comma_text one (drop (k + 1) xs) ++ joined_text mode m closer false (drop (k + 1) xs))
  joined_next m closer one xs k d h = ap (λ ys. joined_text mode m closer one ys) (drop_more xs k d h) ∙ joined_first m closer one (get_or xs k d) (drop (k + 1) xs)

  -- what is before a bracket
  abbrev pub head_text : ℕ → List Expr → Bytes
  head_text m [] = []
  head_text m (x ∷ xs) = text_in mode x m ++ (space_text xs ++ head_text m xs)

  pub head_next : (m : ℕ) (xs : List Expr) (k : ℕ) (d : Expr) → k < length xs → head_text m (drop k xs) ≡ text_in mode (get_or xs k d) m ++ (space_text (drop (k + 1) xs) ++ head_text m (drop (k + 1) xs))
  head_next m xs k d h = ap (head_text m) (drop_more xs k d h)

  pub head_end : (d : Drafted) (m : ℕ) (xs : List Expr) (k : ℕ) → length xs ≤ k → pushed d (head_text m (drop k xs)) ≡ d
  head_end d m xs k l = pushed_end (head_text m) d xs k refl l

  -- the suffix of the item before is first
  suffix_first : (kind : Kind) (n m : ℕ) (suffix : Option Bytes) (closer : ℕ) (end : List Bytes) (xs : List Expr) →
      written (stacked mode kind n m suffix closer end (writings mode xs)) ≡ suffix_text suffix ++ written (stacked mode kind n m None closer end (writings mode xs))
  suffix_first kind n m suffix closer end [] = after_first (suffix_text suffix) (ended n m end) (closer ∷ []) []
  suffix_first kind n m suffix closer end (x ∷ xs) = after_first (suffix_text suffix) (new_line_at n ++ margin_lines n (comments_of x).before) (text_in mode x n) _

  -- an item of a broken sequence, and what follows it
  stacked_first : (kind : Kind) (m closer : ℕ) (end : List Bytes) (x : Expr) (xs : List Expr) →
      stacked_text mode kind m closer end (x ∷ xs) ≡ new_line_at (item_margin mode kind m) ++ (margin_lines (item_margin mode kind m) (comments_of x).before ++ (text_in mode x (item_margin mode kind m)
      ++ written (followed (is_closed mode kind x xs end) (is_bare mode kind x xs) closer (stacked mode kind (item_margin mode kind m) m (comments_of x).suffix closer end (writings mode xs)))))
  stacked_first kind m closer end x xs =
      let n : ℕ = item_margin mode kind m in
      let comments : Bytes = margin_lines n (comments_of x).before in
      let after : List Expr → Bytes = λ ys. written (followed (is_closed mode kind x ys end) (is_bare mode kind x ys) closer (stacked mode kind n m (comments_of x).suffix closer end (writings mode xs))) in
      ap (λ ys. ((new_line_at n ++ comments) ++ text_in mode x n) ++ after ys) (values_of (text_in mode) xs) ∙
      (append_assoc (new_line_at n ++ comments) (text_in mode x n) (after xs) ∙ append_assoc (new_line_at n) comments (text_in mode x n ++ after xs))

  stacked_open : (kind : Kind) (m closer : ℕ) (end : List Bytes) (x : Expr) (xs : List Expr) → is_closed mode kind x xs end ≡ false →
      stacked_text mode kind m closer end (x ∷ xs) ≡ new_line_at (item_margin mode kind m) ++ (margin_lines (item_margin mode kind m) (comments_of x).before ++ (text_in mode x (item_margin mode kind m)
      ++ (comma_below mode kind x xs ++ (suffix_text (comments_of x).suffix ++ stacked_text mode kind m closer end xs))))
  stacked_open kind m closer end x xs opened =
      let n : ℕ = item_margin mode kind m in
      stacked_first kind m closer end x xs ∙
      ap (λ t. new_line_at n ++ (margin_lines n (comments_of x).before ++ (text_in mode x n ++ t)))
      (ap (λ closed. written (followed closed (is_bare mode kind x xs) closer (stacked mode kind n m (comments_of x).suffix closer end (writings mode xs)))) opened ∙
      (with_comma (is_bare mode kind x xs) _ ∙ ap (λ t. comma_below mode kind x xs ++ t) (suffix_first kind n m (comments_of x).suffix closer end xs)))

  stacked_shut : (kind : Kind) (m closer : ℕ) (end : List Bytes) (x : Expr) (xs : List Expr) → is_closed mode kind x xs end ≡ true →
      stacked_text mode kind m closer end (x ∷ xs) ≡ new_line_at (item_margin mode kind m) ++ (margin_lines (item_margin mode kind m) (comments_of x).before ++ (text_in mode x (item_margin mode kind m) ++ (closer ∷ [])))
  stacked_shut kind m closer end x xs closed =
      let n : ℕ = item_margin mode kind m in
      stacked_first kind m closer end x xs ∙
      ap (λ shut. new_line_at n ++ (margin_lines n (comments_of x).before ++ (text_in mode x n ++ written (followed shut (is_bare mode kind x xs) closer (stacked mode kind n m (comments_of x).suffix closer end (writings mode xs)))))) closed

  -- an item was written with its comments above it, at the margin of items
  pub record IsBegun (kind : Kind) (n m : ℕ) (xs others : List Expr) (k : ℕ) (x : Expr) (out three : Drafted) : Type 0 where
    pub margin : n ≡ item_margin mode kind m
    pub cut : drop k xs ≡ x ∷ others
    pub rest : others ≡ drop (k + 1) xs
    pub text : (more : Bytes) → pushed three more ≡ pushed out (new_line_at n ++ (margin_lines n (comments_of x).before ++ (text_in mode x n ++ more)))

  pub item_begun : (kind : Kind) (n m : ℕ) (xs others : List Expr) (k : ℕ) (d x : Expr) (before : List Bytes) (out one two three : Drafted) → n ≡ item_margin mode kind m → k < length xs → x ≡ get_or xs k d →
      others ≡ take (length xs - (k + 1)) (drop (k + 1) xs) → before ≡ (comments_of x).before → one ≡ pushed out (new_line_at n) → two ≡ pushed one (margin_lines n before) → three ≡ pushed two (text_in mode x n) → IsBegun kind n m xs others k x out three
  item_begun kind n m xs others k d x before out one two three margin within is left above first second third =
      let rest : others ≡ drop (k + 1) xs = left ∙ rest_here xs (k + 1) in
      record {
        margin = margin;
        cut = drop_more xs k d within ∙ (ap (λ z. z ∷ drop (k + 1) xs) (sym is) ∙ ap (λ ys. x ∷ ys) (sym rest));
        rest = rest;
        text = λ more. after_pushed two three (text_in mode x n) more third ∙
            (after_pushed one two (margin_lines n (comments_of x).before) (text_in mode x n ++ more) (second ∙ ap (λ z. pushed one (margin_lines n z)) above) ∙ after_pushed out one (new_line_at n) _ first);
      }

  pub stacked_turn : (kind : Kind) (n m closer : ℕ) (end : List Bytes) (xs others : List Expr) (k : ℕ) (x : Expr) (comma : Bytes) (suffix : Option Bytes) (out three four five all : Drafted) → IsBegun kind n m xs others k x out three →
      is_closed mode kind x others end ≡ false → comma ≡ comma_below mode kind x others → four ≡ pushed three comma → suffix ≡ (comments_of x).suffix → five ≡ pushed four (suffix_text suffix) →
      pushed out (stacked_text mode kind m closer end (drop k xs)) ≡ all → pushed five (stacked_text mode kind m closer end (drop (k + 1) xs)) ≡ all
  stacked_turn kind n m closer end xs others k x comma suffix out three four five all begun opened sign fourth after fifth so_far =
      let text : List Expr → Bytes = stacked_text mode kind m closer end in
      let past : Bytes = suffix_text (comments_of x).suffix in
      let lines : ℕ → Bytes = λ a. new_line_at a ++ (margin_lines a (comments_of x).before ++ (text_in mode x a ++ (comma_below mode kind x others ++ (past ++ text others)))) in
      ap (λ ys. pushed five (text ys)) (sym begun.rest) ∙
      (after_pushed four five past (text others) (fifth ∙ ap (λ z. pushed four (suffix_text z)) after) ∙
      (after_pushed three four (comma_below mode kind x others) (past ++ text others) (fourth ∙ ap (pushed three) sign) ∙
      (begun.text (comma_below mode kind x others ++ (past ++ text others)) ∙
      (ap (λ a. pushed out (lines a)) begun.margin ∙ (ap (pushed out) (sym (ap text begun.cut ∙ stacked_open kind m closer end x others opened)) ∙ so_far)))))

  pub stacked_closed : (kind : Kind) (n m closer : ℕ) (end : List Bytes) (xs others : List Expr) (k : ℕ) (x : Expr) (out three all : Drafted) → IsBegun kind n m xs others k x out three →
      is_closed mode kind x others end ≡ true → pushed out (stacked_text mode kind m closer end (drop k xs)) ≡ all → pushed three (closer ∷ []) ≡ all
  stacked_closed kind n m closer end xs others k x out three all begun closed so_far =
      let text : List Expr → Bytes = stacked_text mode kind m closer end in
      let lines : ℕ → Bytes = λ a. new_line_at a ++ (margin_lines a (comments_of x).before ++ (text_in mode x a ++ (closer ∷ []))) in
      begun.text (closer ∷ []) ∙ (ap (λ a. pushed out (lines a)) begun.margin ∙ (ap (pushed out) (sym (ap text begun.cut ∙ stacked_shut kind m closer end x others closed)) ∙ so_far))

  pub stacked_end : (kind : Kind) (m closer : ℕ) (end : List Bytes) (xs : List Expr) (k : ℕ) → length xs ≤ k → stacked_text mode kind m closer end (drop k xs) ≡ ended (item_margin mode kind m) m end ++ (closer ∷ [])
  stacked_end kind m closer end xs k l = ap (stacked_text mode kind m closer end) (drop_all k xs l) ∙ append_assoc (ended (item_margin mode kind m) m end) (closer ∷ []) []

  -- ---- forms by their frames

  -- the text of a form where its frame is this one
  form_in : (f : Form) (own : Frame) (m : ℕ) → frame f.kind ≡ own → text_in mode (e.Form f) m ≡ text_by_frame mode own f.kind f.seq.split f.open_break f.comments.suffix m (writings mode f.parts) (writings mode f.seq.items) f.seq.end
  form_in f own m h = text_Form mode f m ∙ ap (λ g. text_by_frame mode g f.kind f.seq.split f.open_break f.comments.suffix m (writings mode f.parts) (writings mode f.seq.items) f.seq.end) h

  pub row_form : (f : Form) (m : ℕ) → has_brackets (frame f.kind) ≡ false → is_compound (frame f.kind) ≡ false → text_in mode (e.Form f) m ≡ row_text mode f.kind f.open_break m m f.parts
  row_form f m h i = form_in f row m (is_row (frame f.kind) h i)

  pub suite_form : (f : Form) (m : ℕ) → is_compound (frame f.kind) ≡ true → text_in mode (e.Form f) m ≡ suite_text f.comments.suffix m (writings mode f.parts) (writings mode f.seq.items) f.seq.end
  suite_form f m h = form_in f compound m (is_suite (frame f.kind) h)

  space_gap : (xs : List Expr) → (if is_empty (writings mode xs) then [] else (space ∷ [])) ≡ space_text xs
  space_gap [] = refl
  space_gap (x ∷ xs) = refl

  -- what is before the bracket, after a gap, the bracket, then
  head_first : (m : ℕ) (gap : Bytes) (opener : ℕ) (xs : List Expr) (after : List (Piece TextAt)) → written (headed m gap opener (writings mode xs) after) ≡ gap ++ (head_text m xs ++ (opener ∷ written after))
  head_first m gap opener [] after = append_assoc gap (opener ∷ []) (written after)
  head_first m gap opener (x ∷ xs) after =
      let text : Bytes = text_in mode x m in
      let next : Bytes = space_text xs in
      let more : Bytes = head_text m xs in
      let end : Bytes = opener ∷ written after in
      ap (λ g. (gap ++ text) ++ written (headed m g opener (writings mode xs) after)) (space_gap xs) ∙
      (ap (λ t. (gap ++ text) ++ t) (head_first m next opener xs after) ∙
      (append_assoc gap text (next ++ (more ++ end)) ∙ ap (λ t. gap ++ t) (sym (append_assoc text (next ++ more) end ∙ ap (λ t. text ++ t) (append_assoc next more end)))))

  chosen : (b one : Bool) (kind : Kind) (m closer : ℕ) (end : List Bytes) (xs : List Expr) →
      written (if b then stacked mode kind (item_margin mode kind m) m None closer end (writings mode xs) else joined m [] closer one (writings mode xs)) ≡ (if b then stacked_text mode kind m closer end xs else joined_text mode m closer one xs)
  chosen true one kind m closer end xs = refl
  chosen false one kind m closer end xs = refl

  pub sequence_form : (f : Form) (opener closer m : ℕ) → frame f.kind ≡ sequence opener closer → text_in mode (e.Form f) m ≡ head_text m f.parts ++ (opener ∷ body_text mode f m closer)
  sequence_form f opener closer m h =
      let xs : List Expr = f.seq.items in
      let after : List Expr → ℕ → List (Piece TextAt) = λ ys n.
      if is_broken_in mode f.kind f.seq.split ys f.seq.end then stacked mode f.kind (item_margin mode f.kind m) m None closer f.seq.end (writings mode xs) else joined m [] closer (is_tuple f.kind && nat_eq n 1) (writings mode xs) in
      let all : List Expr → ℕ → Bytes = λ ys n. written (headed m [] opener (writings mode f.parts) (after ys n)) in
      form_in f (sequence opener closer) m h ∙
      (ap (λ ys. all ys (length (writings mode xs))) (values_of (text_in mode) xs) ∙
      (ap (λ n. all xs n) (length-map xs (λ x. (x, text_in mode x))) ∙
      (head_first m [] opener f.parts (after xs (length xs)) ∙
      ap (λ t. head_text m f.parts ++ (opener ∷ t)) (chosen (is_broken_in mode f.kind f.seq.split xs f.seq.end) (is_tuple f.kind && nat_eq (length xs) 1) f.kind m closer f.seq.end xs))))

  -- ---- statements

  -- without a header nothing is written
  pub suite_none : (d : Drafted) (suffix : Option Bytes) (m : ℕ) (xs items : List Expr) (end : List Bytes) → length xs ≡ 0 → pushed d (suite_text suffix m (writings mode xs) (writings mode items) end) ≡ d
  suite_none d suffix m [] items end h = pushed_none d
  suite_none d suffix m (x ∷ xs) items end h = absurd (omega (arith, h))

  pub statements_next : (m : ℕ) (xs : List Expr) (k : ℕ) (d : Expr) → k < length xs →
      statements_text m (writings mode (drop k xs)) ≡ replicate m space ++ (margin_lines m (comments_of (get_or xs k d)).before ++ (text_in mode (get_or xs k d) m ++ (line_end (get_or xs k d) ++ statements_text m (writings mode (drop (k + 1) xs)))))
  statements_next m xs k d h =
      let x : Expr = get_or xs k d in
      ap (λ ys. statements_text m (writings mode ys)) (drop_more xs k d h) ∙
      four_texts (replicate m space) (margin_lines m (comments_of x).before) (text_in mode x m) (line_end x) (statements_text m (writings mode (drop (k + 1) xs)))

  pub statements_end : (d : Drafted) (m : ℕ) (xs : List Expr) (k : ℕ) → length xs ≤ k → pushed d (statements_text m (writings mode (drop k xs))) ≡ d
  statements_end d m xs k l = pushed_end (λ ys. statements_text m (writings mode ys)) d xs k refl l

  -- ---- files

  pub layout_end : (d : Drafted) (xs : List Item) (k : ℕ) → length xs ≤ k → pushed d (layout_in mode (drop k xs)) ≡ d
  layout_end d xs k l = pushed_end (layout_in mode) d xs k refl l

  pub layout_next : (xs : List Item) (k : ℕ) (d : Item) → k < length xs →
      layout_in mode (drop k xs) ≡ item_text_in mode (get_or xs k d) ++ (before_next_in mode (get_or xs k d) (drop (k + 1) xs) ++ layout_in mode (drop (k + 1) xs))
  layout_next xs k d h = ap (layout_in mode) (drop_more xs k d h) ∙ ap (λ t. item_text_in mode (get_or xs k d) ++ t) (sym (next_after mode (get_or xs k d) (drop (k + 1) xs)))

  -- ---- the row of a name, the sign `=` and a value on its line

  pub assignment_text : (kind : Kind) (open_break : Bool) (x s y : Expr) (m : ℕ) → open_break ≡ false → ((mark : Bytes) → is_prefix_mark kind mark ≡ false) → has_token equals (root s) ≡ true →
      has_break s ≡ false → has_break x ≡ false → is_lone (root y) ≡ false → row_text mode kind open_break m m (x ∷ s ∷ y ∷ []) ≡ text_in mode x m ++ (codes " = " ++ text_in mode y m)
  assignment_text kind open_break x (Form' k s parts s' items end split o comments) y m closed plain sign unbroken above lone = absurd (both_ways false refl sign)
  assignment_text kind open_break x (Token t) y m closed plain sign unbroken above lone =
      let is = this_leaf c.Mark (codes "=") (record { class = t.class; gap = []; token = t.text }) sign in
      let before : is_spaced_before kind (root (e.Token t)) ≡ true = rw (is.0, is.1, plain (codes "=")) refl in
      let after : is_spaced_after kind (root (e.Token t)) ≡ true = rw (is.0, is.1, plain (codes "=")) refl in
      let one : is_spaced kind (root x) (root (e.Token t)) ≡ true = or_left _ _ (or_right _ _ (or_left _ _ before)) in
      let two : is_spaced kind (root (e.Token t)) (root y) ≡ true = or_left _ _ (or_left _ _ (both_true after (ap not lone))) in
      rw (closed, above, one, unbroken, two, is.1) (ap (λ z. text_in mode x m ++ (codes " = " ++ z)) (append-nil (text_in mode y m)))
