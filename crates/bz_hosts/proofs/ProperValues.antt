-- A suite is a statement or an alternative by the word of its header, and proper where its header, its statements and its
-- alternatives are.
use Rattle.bz_hosts.proofs.Words.{[], ◌&&◌, ◌++◌, ◌||◌, ◌∙◌, ◌∷◌, ◌≡◌, All, alternatives_fit, ap, AreHeaderBy, AreLinesBy, Begins, Bool, Bytes, bytes_eq, codes, else_last, Expr, false, Form, form_proper_by, headed_by, header_word, HostComments, if◌then◌else◌, is_alternative, is_branch, is_empty, is_headed_by, is_kind, is_whole_statement, IsComment, items-the_row-Expr, items_hidden-the_row-Expr-0, Kind, Kind as k, List, not, or_right, Part, parts_in, ProperBy, refl, true, whole_shape}
use Rattle.bz_value.specs.declared.value.Expr.TheVariants as e
use Rattle.bz_hosts.proofs.Compounds.{First, function, loop, condition, Further, alternative, otherwise}

-- ---- statements

-- at least one
abbrev pub AreSome : List Expr → Type 0
AreSome xs = (is_empty xs ≡ false) × AreLinesBy whole_shape is_whole_statement xs

pub some_joined : (xs ys : List Expr) → AreSome xs → AreLinesBy whole_shape is_whole_statement ys → AreSome (xs ++ ys)
some_joined xs ys h i = (some xs ys h.0, joined xs ys h.1 i)
  where
    some : (xs ys : List Expr) → is_empty xs ≡ false → is_empty (xs ++ ys) ≡ false
    some [] ys h = cc
    some (x ∷ xs) ys h = refl

    joined : (xs ys : List Expr) → AreLinesBy whole_shape is_whole_statement xs → AreLinesBy whole_shape is_whole_statement ys → AreLinesBy whole_shape is_whole_statement (xs ++ ys)
    joined [] ys h i = i
    joined (x ∷ xs) ys h i = (h.0, h.1, h.2, joined xs ys h.3 i)

-- ---- by the word of a header

-- the word that begins a branch
abbrev pub branch_word : Kind → Bytes → Bytes
branch_word kind word = if is_kind kind k.IfStmt then word else []

abbrev is_further : Bytes → Bool
is_further word = bytes_eq word (codes "elif") || bytes_eq word (codes "else")

no_further : {kind : Kind} {word : Bytes} {back : List Part} → First kind word back → not (is_further (branch_word kind word)) ≡ true
no_further function = refl
no_further loop = refl
no_further (condition back) = refl

further : {word : Bytes} {back : List Part} → Further word back → is_further word ≡ true
further (alternative back) = refl
further otherwise = refl

-- what is read of the parts after a header: nothing where there are none
module _ (read : List Part → List Expr) (none : read [] ≡ []) where
  pub others_fit : {kind : Kind} {word : Bytes} {back : List Part} (head : Expr) → First kind word back → header_word head ≡ branch_word kind word → else_last (read back) ≡ true → alternatives_fit head (read back) ≡ true
  others_fit head function h l = ap (alternatives_fit head) none
  others_fit head loop h l = ap (alternatives_fit head) none
  others_fit head (condition back) h l = or_right (is_empty (read back)) (bytes_eq (header_word head) (codes "if") && else_last (read back)) (rw (h, l) refl)

  pub last_further : {word : Bytes} {back : List Part} (x : Expr) → Further word back → is_headed_by (codes "elif") x ≡ bytes_eq word (codes "elif") → else_last (read back) ≡ true → else_last (x ∷ read back) ≡ true
  last_further x (alternative back) h l = rw (h, l) (ap (λ z. z && true) (or_right (is_empty (read back)) true refl))
  last_further x otherwise h l = ap (λ xs. else_last (x ∷ xs)) none

-- ---- suites

-- what is read of the parts of a form
pub of_parts : {A : Type 0} (read : List Expr → A) (f : Form) → read (items-the_row-Expr (parts_in (e.Form f)).0 (parts_in (e.Form f)).1) ≡ read f.parts
of_parts read f = ap read (items_hidden-the_row-Expr-0 f.parts)

module _ (head : Expr) (statements : List Expr) (end : List Bytes) (comments : HostComments) where
  abbrev pub suite : List Expr → Form
  suite others = record { kind = k.Suite; parts = head ∷ others; seq = record { items = statements; end = end; split = false }; open_break = false; comments = comments }

  pub suite_line : {kind : Kind} {word : Bytes} {back : List Part} (others : List Expr) → First kind word back → header_word head ≡ branch_word kind word → is_whole_statement (e.Form (suite others)) ≡ true
  suite_line others w h = of_parts (λ ps. not (headed_by (codes "elif") ps || headed_by (codes "else") ps)) (suite others) ∙ (ap (λ z. not (is_further z)) h ∙ no_further w)

  pub suite_alternative : {word : Bytes} {back : List Part} → Further word back → header_word head ≡ word → is_alternative (e.Form (suite [])) ≡ true
  suite_alternative w h = of_parts is_branch (suite []) ∙ (ap is_further h ∙ further w)

  pub suite_begins : {word : Bytes} (other : Bytes) → header_word head ≡ word → is_headed_by other (e.Form (suite [])) ≡ bytes_eq word other
  suite_begins other h = of_parts (headed_by other) (suite []) ∙ ap (λ z. bytes_eq z other) h

  pub suite_proper : (others : List Expr) → AreHeaderBy whole_shape (head ∷ others) → AreSome statements → All IsComment end → ProperBy whole_shape Begins (e.Form (suite others))
  suite_proper others h i j = form_proper_by whole_shape Begins (suite others) tt (h, i.0, i.1, j, refl, refl)
