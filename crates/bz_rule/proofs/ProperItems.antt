-- What may be in the place of an item, which is within brackets, and what values of attributes are.
use Rattle.bz_rule.proofs.Words.{[], ◌++◌, ◌∙◌, ◌∷◌, ◌≡◌, AllByRecursion, AreComments, Bool, Bytes, comments_of, eqb-true, Expr, false, filter, Form', frame, Grammar, has_break, has_kind, has_nonterminal, is_compound, items-the_row-Expr, items_of, Kind, List, map, no_comments, Nonterminal, on_row, parts_of, ProperExpr, refl, root, same_kind, subst, sym, Token, true, with_parts, Within}
use Rattle.bz_grammar.specs.Shapes as s
use Rattle.bz_rule.proofs.ProperChanges.{by_case, by_test}
use Rattle.bz_rule.proofs.ProperForms.{InPlace, AsForm, AsFormWith, IsPlain, form_with, kind_plain, with_lists}
use Rattle.bz_rule.proofs.ProperSequences.{IsItem}

module _ (grammar : Grammar) where
  -- ---- within brackets

  -- What may be wherever an expression is within brackets: as `InPlace`, at that spot alone.
  pub record WithinPlace (x y : Expr) : Type 0 where
    pub proper : ProperExpr grammar Within x → ProperExpr grammar Within y
    pub nonterminal : (q : Nonterminal) → has_nonterminal q (root x) ≡ has_nonterminal q (root y)
    pub comments : comments_of x ≡ comments_of y
    pub breaks : has_break x ≡ has_break y

  pub within_itself : (x : Expr) → WithinPlace x x
  within_itself x = record { proper = λ h. h; nonterminal = λ q. refl; comments = refl; breaks = refl }

  pub from_in_place : (x y : Expr) → InPlace grammar x y → WithinPlace x y
  from_in_place x y r = record { proper = r.proper Within; nonterminal = r.roots.nonterminal; comments = r.comments; breaks = r.breaks }

  pub form_within : (ps xs : List Expr) (x : Expr) → IsPlain grammar x → (AsFormWith grammar Within (parts_of x) (items_of x) x → AsFormWith grammar Within ps xs x) → WithinPlace x (with_lists ps xs x)
  form_within ps xs (Token t) plain h = within_itself (Token t)
  form_within ps xs (Form' kind s parts s' items end split open_break comments) plain h = record {
    proper = λ w. form_with grammar Within ps xs (Form' kind s parts s' items end split open_break comments) plain h w;
    nonterminal = λ q. refl;
    comments = refl;
    breaks = refl;
  }

  -- a change of rows that keeps forms of a kind proper within brackets
  abbrev pub KeepsRow : Kind → (List Expr → List Expr) → Type 0
  KeepsRow kind change = (end : List Bytes) (split open_break : Bool) (ps xs : List Expr) → AsForm grammar Within kind ps xs end split open_break → AsForm grammar Within kind (change ps) xs end split open_break

  module _ (own : Kind) (plain : is_compound (frame own) ≡ false) (change : List Expr → List Expr) (keeps : KeepsRow own change) where
    changed_row : (x : Expr) → has_kind own x ≡ true → WithinPlace x (with_parts (change (parts_of x)) x)
    changed_row (Token t) is = within_itself (Token t)
    changed_row (Form' kind s parts s' items end split open_break comments) is =
        let x : Expr = Form' kind s parts s' items end split open_break comments in
        let ps : List Expr = items-the_row-Expr _ parts in
        let xs : List Expr = items-the_row-Expr _ items in
        let same : kind ≡ own = same_kind kind own (eqb-true _ _ is) in
        form_within (change ps) xs x (λ here h. kind_plain own plain x is)
        (λ h. subst (λ (by : Kind). AsForm grammar Within by (change ps) xs end split open_break) (sym same)
        (keeps end split open_break ps xs (subst (λ (by : Kind). AsForm grammar Within by ps xs end split open_break) same h)))

    pub row_within : (x : Expr) → WithinPlace x (on_row own change x)
    row_within x = by_case (WithinPlace x) (has_kind own x) (with_parts (change (parts_of x)) x) x (changed_row x) (λ is. within_itself x)

  -- ---- items and values

  pub item_within : (q : Nonterminal) (x y : Expr) → WithinPlace x y → IsItem grammar q x → IsItem grammar q y
  item_within q x y r h = ((r.proper h.0.0, subst AreComments r.comments h.0.1, sym r.breaks ∙ h.0.2), sym (r.nonterminal q) ∙ h.1)

  -- the value of an attribute: as an item of a list is, without comments
  abbrev pub IsValue : Expr → Type 0
  IsValue x = IsItem grammar s.test x × (comments_of x ≡ no_comments)

  pub value_within : (x y : Expr) → WithinPlace x y → IsValue x → IsValue y
  value_within x y r h = (item_within s.test x y r h.0, sym r.comments ∙ h.1)

  pub value_in_place : (x y : Expr) → InPlace grammar x y → IsValue x → IsValue y
  value_in_place x y r = value_within x y (from_in_place x y r)

-- ---- lists of which all elements are something

module _ {X : Type 0} (P : X → Type 0) where
  pub all_joined : (xs ys : List X) → AllByRecursion P xs → AllByRecursion P ys → AllByRecursion P (xs ++ ys)
  all_joined [] ys h i = i
  all_joined (x ∷ xs) ys h i = (h.0, all_joined xs ys h.1 i)

  pub all_kept : (test : X → Bool) (xs : List X) → AllByRecursion P xs → AllByRecursion P (filter test xs)
  all_kept test [] h = tt
  all_kept test (x ∷ xs) h = by_test (AllByRecursion P) (test x) (x ∷ filter test xs) (filter test xs) (h.0, all_kept test xs h.1) (all_kept test xs h.1)

  pub all_changed : (change : X → X) → ((x : X) → P x → P (change x)) → (xs : List X) → AllByRecursion P xs → AllByRecursion P (map change xs)
  all_changed change f [] h = tt
  all_changed change f (x ∷ xs) h = (f x h.0, all_changed change f xs h.1)
