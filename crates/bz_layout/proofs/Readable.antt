-- What a proper expression has that its layout can be read back: said over lists, node by node, by the frame alone.
use Rattle.bz_layout.proofs.Words.{[], ◌&&◌, ◌++◌, ◌∙◌, ◌∷◌, ◌≡◌, ◌⊎◌, after_expr, all_parted, AllByRecursion, alternatives_fit, and_parts, ap, begins_operator, Bool, Bytes, bytes_eq, codes, comments_of, compound, each_with_comma, end_of-Expr, eqb-true, every, every_part, Expr, false, first_token_text, Fits, Form', Frame, frame, has_brackets, has_break, has_header_kind, has_simple_kind, has_suite, header_word, if◌then◌else◌, in_frame, inl, inner_kind, inner_nonterminal, inner_tokens, inr, is_alternative, is_binary, is_branch, is_compound, is_comprehension, is_empty, is_header, is_inner, is_kind, is_operator, is_simple, is_whole_statement, IsComment, IsEmptyRow, IsNonterminal, IsSomeRow, items-the_row-Expr, Kind, Kind as k, lead, lead_before, length, length-map, List, map, mark_leaf, MaybeComment, more_of-Expr, no_comments, no_such, nonterminal_inner, not, operator_first, or_cases, Part, ProperBy, ProperHeadBy, ProperItemsBy, ProperLinesBy, ProperRowBy, recursion_from_All, refl, root, roots, row, row_in, Row_of-Expr, same_kind, sequence, Spot, subst, sym, Token, token_inner, true, true≢false, whole_shape, ℕ}
use Rattle.bz_layout.proofs.{Elements.InLine, Elements.within_line, Framed.row_shape, Framed.is_sign_part, Framed.begins_sign, Framed.ends_sign, Framed.after_first, Made.roots_row, Made.none_mapped, Spots.InFrame, Spots.EachProper, Spots.both_each, Spots.row_in_line}

abbrev pub ends : List Expr → Bool
ends [] = false
ends (x ∷ []) = is_operator x
ends (x ∷ y ∷ ys) = ends (y ∷ ys)

-- parts of a row have no comments, and a break only after an operator
abbrev pub AreParts : Bool → List Expr → Type 0
AreParts binary [] = Unit {0}
AreParts binary (x ∷ xs) = (comments_of x ≡ no_comments) × (has_break x ≡ true → (binary && (is_operator x && not (operator_first xs))) ≡ true) × AreParts binary xs

abbrev pub AreHeads : List Expr → Type 0
AreHeads [] = Unit {0}
AreHeads (x ∷ xs) = (comments_of x ≡ no_comments) × (has_break x ≡ false) × AreHeads xs

abbrev pub AreItems : List Expr → Type 0
AreItems [] = Unit {0}
AreItems (x ∷ xs) = AllByRecursion IsComment (comments_of x).before × MaybeComment (comments_of x).suffix × (has_break x ≡ false) × AreItems xs

-- no suite
abbrev pub AreInner : List Expr → Type 0
AreInner xs = AllByRecursion (λ x. has_suite x ≡ false) xs

-- a row: kind, flags split and open, parts, items, end comments
pub record IsRow (kind : Kind) (split open_break : Bool) (parts items : List Expr) (end : List Bytes) : Type 0 where
  pub full : is_empty parts ≡ false
  pub first : (is_binary kind && operator_first parts) ≡ false
  pub last : (is_binary kind && ends parts) ≡ false
  pub second : is_comprehension kind ≡ true → is_empty (after_first parts) ≡ false
  pub each : AreParts (is_binary kind) parts
  pub inner : AreInner parts
  pub no_items : items ≡ []
  pub no_end : end ≡ []
  pub not_split : split ≡ false
  pub opens : open_break ≡ true → is_comprehension kind ≡ true

-- a sequence: kind, flag open, what is before the bracket, items, end comments
pub record IsSequence (kind : Kind) (open_break : Bool) (parts items : List Expr) (end : List Bytes) : Type 0 where
  pub leads : length parts ≡ lead kind
  pub heads : AreHeads parts
  pub each : AreItems items
  pub inner : AreInner parts × AreInner items
  pub ends_there : AllByRecursion IsComment end
  pub not_open : open_break ≡ false

-- a header of this kind
abbrev pub IsHead : Kind → Expr → Type 0
IsHead kind (Token t) = ⊥
IsHead kind (Form' other s parts s' items end split open_break comments) = (other ≡ kind) × (is_header kind ≡ true)

abbrev pub IsOne : (Expr → Type 0) → {m : _} → Row_of-Expr m → Type 0
IsOne P end_of-Expr = ⊥
IsOne P (more_of-Expr x rest) = P x × IsEmptyRow rest

-- a suite whose header is of this kind, with no alternatives
abbrev pub IsAlternative : Kind → Expr → Type 0
IsAlternative kind (Token t) = ⊥
IsAlternative kind (Form' other s parts s' items end split open_break comments) = (other ≡ k.Suite) × IsOne (IsHead kind) parts

-- lines of a sort, with comments
abbrev pub AreLinesOf : (Expr → Type 0) → List Expr → Type 0
AreLinesOf P [] = Unit {0}
AreLinesOf P (x ∷ xs) = P x × AllByRecursion IsComment (comments_of x).before × MaybeComment (comments_of x).suffix × AreLinesOf P xs

-- a statement is a suite, or is on a line of its own
abbrev pub IsStatement : Expr → Type 0
IsStatement x = (has_suite x ≡ true) ⊎ ((has_suite x ≡ false) × (has_break x ≡ false))

-- a suite: flags split and open, alternatives, statements, end comments
pub record IsSuite (split open_break : Bool) (head : Expr) (others items : List Expr) (end : List Bytes) : Type 0 where
  pub kind : Kind
  pub is_head : IsHead kind head
  pub bare : comments_of head ≡ no_comments
  pub others_each : AreLinesOf (IsAlternative kind) others
  pub some : is_empty items ≡ false
  pub each : AreLinesOf IsStatement items
  pub ends_there : AllByRecursion IsComment end
  pub not_split : split ≡ false
  pub not_open : open_break ≡ false

abbrev pub Suits : Bool → Bool → List Expr → List Expr → List Bytes → Type 0
Suits split open_break [] items end = ⊥
Suits split open_break (head ∷ others) items end = IsSuite split open_break head others items end

abbrev pub Facts : Frame → Kind → Bool → Bool → List Expr → List Expr → List Bytes → Type 0
Facts f kind split open_break ps is end = in_frame f (IsRow kind split open_break ps is end) (IsSequence kind open_break ps is end) (Suits split open_break ps is end)

abbrev mutual
  pub Readable : Expr → Type 0
  Readable (Token t) = Unit {0}
  Readable (Form' kind s parts s' items end split open_break comments) =
      Facts (frame kind) kind split open_break (items-the_row-Expr _ parts) (items-the_row-Expr _ items) end × EachReadable parts × EachReadable items
      × Fits IsNonterminal (whole_shape kind) (row_in (frame kind) (roots parts) (roots items))

  pub EachReadable : {m : _} → Row_of-Expr m → Type 0
  EachReadable end_of-Expr = Unit {0}
  EachReadable (more_of-Expr x rest) = Readable x × EachReadable rest

-- ---- roots and expressions

sign_root : (x : Expr) → is_sign_part (root x) ≡ is_operator x
sign_root (Token t) = refl
sign_root (Form' kind s parts s' items end split open_break comments) = refl

begins_same : (xs : List Expr) → begins_sign (map root xs) ≡ operator_first xs
begins_same [] = refl
begins_same (x ∷ xs) = sign_root x

ends_same : (xs : List Expr) → ends_sign (map root xs) ≡ ends xs
ends_same [] = refl
ends_same (x ∷ []) = sign_root x
ends_same (x ∷ y ∷ ys) = ends_same (y ∷ ys)

others_same : (xs : List Expr) → is_empty (after_first (map root xs)) ≡ is_empty (after_first xs)
others_same [] = refl
others_same (x ∷ xs) = none_mapped xs root

-- ---- rows and lists

pub begins_row : (m : _) (r : Row_of-Expr m) → begins_operator r ≡ operator_first (items-the_row-Expr m r)
begins_row m end_of-Expr = refl
begins_row m (more_of-Expr x rest) = refl

pub parts_list : (binary : Bool) (outer here : Spot) (m : _) (r : Row_of-Expr m) → ProperRowBy whole_shape binary outer here r → AreParts binary (items-the_row-Expr m r)
parts_list binary outer here m end_of-Expr h = tt
parts_list binary outer here m (more_of-Expr x rest) h =
    (h.1, λ b. ap (λ z. binary && (is_operator x && not z)) (sym (begins_row _ rest)) ∙ (h.2 b).0, parts_list binary outer (after_expr outer here x) _ rest h.3)

pub heads_list : (here : Spot) (m : _) (r : Row_of-Expr m) → ProperHeadBy whole_shape here r → AreHeads (items-the_row-Expr m r)
heads_list here m end_of-Expr h = tt
heads_list here m (more_of-Expr x rest) h = (h.1.0, h.1.1, heads_list here _ rest h.2)

pub items_list : (m : _) (r : Row_of-Expr m) → ProperItemsBy whole_shape r → AreItems (items-the_row-Expr m r)
items_list m end_of-Expr h = tt
items_list m (more_of-Expr x rest) h = (recursion_from_All IsComment (comments_of x).before h.1.0, h.1.1, h.2, items_list _ rest h.3)

no_items_list : (m : _) (r : Row_of-Expr m) → IsEmptyRow r → items-the_row-Expr m r ≡ []
no_items_list m end_of-Expr h = refl
no_items_list m (more_of-Expr x rest) h = absurd h

-- lines of a sort
lines_list : (test : Expr → Bool) (P : Expr → Type 0) → ((x : Expr) → test x ≡ true → P x) → (m : _) (r : Row_of-Expr m) → ProperLinesBy whole_shape test r → AreLinesOf P (items-the_row-Expr m r)
lines_list test P of m end_of-Expr h = tt
lines_list test P of m (more_of-Expr x rest) h = (of x h.0, recursion_from_All IsComment (comments_of x).before h.2.0, h.2.1, lines_list test P of _ rest h.3)

some_list : (m : _) (r : Row_of-Expr m) → IsSomeRow r → is_empty (items-the_row-Expr m r) ≡ false
some_list m end_of-Expr h = absurd h
some_list m (more_of-Expr x rest) h = refl

-- ---- statements and alternatives

simple_inner : (kind : Kind) → is_simple kind ≡ true → is_compound (frame kind) ≡ false
simple_inner k.Suite h = no_such h
simple_inner _ h = refl

simple_statement : (x : Expr) → has_simple_kind x ≡ true → IsStatement x
simple_statement (Token t) h = no_such h
simple_statement (Form' kind s parts s' items end split open_break comments) h = inr (simple_inner kind h, refl)

pub line_statement : (x : Expr) → is_whole_statement x ≡ true → IsStatement x
line_statement x h = elim (or_cases (has_simple_kind x) _ h) [ inl e ↦ simple_statement x e | inr e ↦ inl (and_parts (has_suite x) _ e).0 ]

abbrev pub kind_in : Expr → Kind
kind_in (Token t) = k.File
kind_in (Form' kind s parts s' items end split open_break comments) = kind

head_here : (x : Expr) → has_header_kind x ≡ true → IsHead (kind_in x) x
head_here (Token t) h = no_such h
head_here (Form' kind s parts s' items end split open_break comments) h = (refl, h)

empty_row : (m : _) (r : Row_of-Expr m) → is_empty (items-the_row-Expr m r) ≡ true → IsEmptyRow r
empty_row m end_of-Expr h = tt
empty_row m (more_of-Expr x rest) h = no_such h

-- only a branch has a word
branch_kind : (b : Bool) (kind : Kind) (text : Bytes) (c : ℕ) (cs : Bytes) → is_kind kind k.IfStmt ≡ b → bytes_eq (if b then text else []) (c ∷ cs) ≡ true → kind ≡ k.IfStmt
branch_kind true kind text c cs e h = same_kind kind k.IfStmt (eqb-true _ _ e)
branch_kind false kind text c cs e h = no_such h

branch_head : (c : ℕ) (cs : Bytes) (x : Expr) → bytes_eq (header_word x) (c ∷ cs) ≡ true → (kind_in x ≡ k.IfStmt) × IsHead k.IfStmt x
branch_head c cs (Token t) h = no_such h
branch_head c cs (Form' kind s parts s' items end split open_break comments) h = let same : kind ≡ k.IfStmt = branch_kind _ kind (first_token_text (items-the_row-Expr _ parts)) c cs refl h in (same, (same, refl))

one_branch : (m : _) (r : Row_of-Expr m) → is_branch (items-the_row-Expr m r) ≡ true → IsOne (IsHead k.IfStmt) r
one_branch m end_of-Expr h = no_such h
one_branch m (more_of-Expr x rest) h =
    let w = and_parts (is_empty (items-the_row-Expr _ rest)) _ h in
    (elim (or_cases (bytes_eq (header_word x) (codes "elif")) _ w.1) [ inl e ↦ (branch_head _ _ x e).1 | inr e ↦ (branch_head _ _ x e).1 ], empty_row _ rest w.0)

alternative_of : (x : Expr) → is_alternative x ≡ true → IsAlternative k.IfStmt x
alternative_of (Token t) h = no_such h
alternative_of (Form' kind s parts s' items end split open_break comments) h = let w = and_parts (is_kind kind k.Suite) _ h in (same_kind kind k.Suite (eqb-true _ _ w.0), one_branch _ parts w.1)

-- only an if has alternatives
others_list : (head : Expr) (m : _) (r : Row_of-Expr m) → alternatives_fit head (items-the_row-Expr m r) ≡ true → ProperLinesBy whole_shape is_alternative r → AreLinesOf (IsAlternative (kind_in head)) (items-the_row-Expr m r)
others_list head m end_of-Expr e h = tt
others_list head m (more_of-Expr x rest) e h =
    subst (λ z. AreLinesOf (IsAlternative z) (items-the_row-Expr _ (more_of-Expr x rest))) (sym (branch_head _ _ head (and_parts _ _ e).0).0) (lines_list is_alternative (IsAlternative k.IfStmt) alternative_of _ (more_of-Expr x rest) h)

-- ---- what the shapes say

-- what is in rows and sequences is in the lines of a file
inner_shape : (kind : Kind) (xs : List Part) → is_compound (frame kind) ≡ false → Fits IsNonterminal (whole_shape kind) xs → (frame kind ≡ row → InLine xs) → every inner_tokens inner_nonterminal (whole_shape kind) ≡ true
inner_shape k.File xs e h i = no_such (within_line k.File xs h (i refl))
inner_shape k.Line xs e h i = no_such (within_line k.Line xs h (i refl))
inner_shape k.Suite xs e h i = no_such (sym e)
inner_shape _ xs e h i = refl

frame_inner : (kind : Kind) → inner_kind kind ≡ true → is_compound (frame kind) ≡ false
frame_inner k.Suite h = no_such h
frame_inner _ h = refl

root_inner : (x : Expr) → is_inner (root x) ≡ true → has_suite x ≡ false
root_inner (Token t) h = refl
root_inner (Form' kind s parts s' items end split open_break comments) h = frame_inner kind h

roots_inner : (xs : List Expr) → AllByRecursion (λ x. is_inner x ≡ true) (map root xs) → AreInner xs
roots_inner [] h = tt
roots_inner (x ∷ xs) h = (root_inner x h.0, roots_inner xs h.1)

all_inner : (kind : Kind) (xs : List Part) → is_compound (frame kind) ≡ false → Fits IsNonterminal (whole_shape kind) xs → (frame kind ≡ row → InLine xs) → AllByRecursion (λ x. is_inner x ≡ true) xs
all_inner kind xs e h i = every_part (λ x. is_inner x ≡ true) inner_tokens inner_nonterminal token_inner nonterminal_inner (whole_shape kind) (inner_shape kind xs e h i) xs h

-- between commas, and before more
without_commas : (P : Part → Type 0) (xs ys : List Part) → AllByRecursion P (each_with_comma xs ++ ys) → AllByRecursion P xs
without_commas P [] ys h = tt
without_commas P (x ∷ xs) ys h = (h.0, without_commas P xs ys h.1.1)

-- what all parts of a sequence have, its parts and its items have
of_sequence : (P : Part → Type 0) (ps is : List Part) (x : Part) (zs : List Part) → AllByRecursion P (ps ++ x ∷ (each_with_comma is ++ zs)) → AllByRecursion P ps × AllByRecursion P is
of_sequence P ps is x zs h = let w = all_parted P ps (x ∷ (each_with_comma is ++ zs)) h in (w.0, without_commas P is zs w.1.1)

-- ---- by the frame

by_frame : (kind : Kind) (f : Frame) (here : Spot) (m n : _) (parts : Row_of-Expr m) (items : Row_of-Expr n) (end : List Bytes) (split open_break : Bool) → frame kind ≡ f →
    Fits IsNonterminal (whole_shape kind) (row_in f (map root (items-the_row-Expr m parts)) (map root (items-the_row-Expr n items))) → InFrame whole_shape f kind here parts items end split open_break →
    Facts f kind split open_break (items-the_row-Expr m parts) (items-the_row-Expr n items) end
by_frame kind row here m n parts items end split open_break e fits h =
    let ps : List Expr = items-the_row-Expr _ parts in
    let w = row_shape kind (map root ps) (ap is_compound e) fits in
    record {
      full = sym (none_mapped ps root) ∙ w.full;
      first = ap (λ z. is_binary kind && z) (sym (begins_same ps)) ∙ w.first;
      last = ap (λ z. is_binary kind && z) (sym (ends_same ps)) ∙ w.last;
      second = λ e. sym (others_same ps) ∙ w.second e;
      each = parts_list (is_binary kind) here here m parts h.0;
      inner = roots_inner ps (all_inner kind (map root ps) (ap is_compound e) fits (λ r. subst InLine (roots_row m parts) (row_in_line whole_shape (is_binary kind) here here m parts h.0)));
      no_items = no_items_list n items h.1;
      no_end = h.2;
      not_split = h.3;
      opens = h.4;
    }
by_frame kind (sequence o c) here m n parts items end split open_break e fits h =
    let ps : List Expr = items-the_row-Expr _ parts in
    let is : List Expr = items-the_row-Expr _ items in
    let inner = of_sequence (λ x. is_inner x ≡ true) (map root ps) (map root is) (mark_leaf o) (mark_leaf c ∷ []) (all_inner kind _ (ap is_compound e) fits (λ r. absurd (true≢false (ap has_brackets (sym e ∙ r))))) in
    record {
      leads = sym (length-map ps root) ∙ subst (λ z. in_frame z (Unit {0}) (length (map root ps) ≡ lead kind) (Unit {0})) e (lead_before kind (map root ps) (map root is) (subst (λ z. Fits IsNonterminal (whole_shape kind) (row_in z (map root ps) (map root is))) (sym e) fits));
      heads = heads_list here m parts h.0;
      each = items_list n items h.1;
      inner = (roots_inner ps inner.0, roots_inner is inner.1);
      ends_there = recursion_from_All IsComment end h.2;
      not_open = h.3;
    }
by_frame kind compound here m n end_of-Expr items end split open_break e fits h = absurd h.0
by_frame kind compound here m n (more_of-Expr head rest) items end split open_break e fits h = record {
  kind = kind_in head;
  is_head = head_here head h.0.0;
  bare = h.0.2;
  others_each = others_list head _ rest h.0.4 h.0.3;
  some = some_list n items h.1;
  each = lines_list is_whole_statement IsStatement line_statement n items h.2;
  ends_there = recursion_from_All IsComment end h.3;
  not_split = h.4;
  not_open = h.5;
}

mutual
  pub readable : (here : Spot) (x : Expr) → ProperBy whole_shape here x → Readable x
  readable here (Token t) h = tt
  readable here (Form' kind s parts s' items end split open_break comments) h =
      let ps : List Expr = items-the_row-Expr _ parts in
      let is : List Expr = items-the_row-Expr _ items in
      let inner = both_each whole_shape (frame kind) kind here _ _ parts items end split open_break h.1 in
      let fits : Fits IsNonterminal (whole_shape kind) (row_in (frame kind) (map root ps) (map root is)) =
      subst (λ z. Fits IsNonterminal (whole_shape kind) (row_in (frame kind) z (map root is))) (roots_row _ parts) (subst (λ z. Fits IsNonterminal (whole_shape kind) (row_in (frame kind) (roots parts) z)) (roots_row _ items) h.0) in
      (by_frame kind (frame kind) here _ _ parts items end split open_break refl fits h.1, each_readable _ parts inner.0, each_readable _ items inner.1, h.0)

  pub each_readable : (m : _) (r : Row_of-Expr m) → EachProper whole_shape r → EachReadable r
  each_readable m end_of-Expr h = tt
  each_readable m (more_of-Expr x rest) h = (readable h.0.0 x h.0.1, each_readable _ rest h.1)
