-- The values of attributes are values, and a named argument with another value is an argument.
use Rattle.bz_rule.proofs.Words.{[], ◌||◌, ◌∙◌, ◌∷◌, ◌≡◌, after_expr, ap, AreComments, attribute, Bool, Bytes, bytes_eq-Decides, Class, Class as c, codes, Expr, Expr as e, false, following_token, Form, Form', Grammar, has_break, has_token, HostComments, IfSome, if◌then◌else◌, is_one_of, is_text, IsComment, IsLexeme, IsUtf8, items-the_row-Expr, Kind, Kind as k, kind_number, List, nat_eq, None, on_first, on_row, on_third, Option, option_and_then, option_or, plain, ProperExpr, refl, Role, role, root, Some, subst, sym, text_in, Token, true, true≢false, value_after, value_named, with_text, Within}
use Rattle.std.proofs.lemmas.List.Elements.{All-nil}
use Rattle.bz_grammar.specs.Shapes as s
use Rattle.bz_rule.proofs.{ProperChanges.by_test, ProperForms.AsForm, ProperForms.opened, ProperItems.IsValue, ProperItems.KeepsRow, ProperItems.row_within, ProperItems.item_within, ProperSequences.IsItem, ProperSequences.AreOf}

-- ---- where the value of a named argument is

or_none : (b : Bool) → (b || false) ≡ true → b ≡ true
or_none true h = refl
or_none false h = absurd (true≢false (sym h))

name_role : (class : Class) (text : Bytes) → is_one_of s.name (record { class = class; gap = []; token = text }) ≡ true → role class text ≡ plain
name_role c.Name text h = refl
name_role _ text h = absurd (true≢false (sym h))

equals_role : (class : Class) (text : Bytes) → is_one_of s.equals (record { class = class; gap = []; token = text }) ≡ true → role class text ≡ plain
equals_role c.Mark text h = ap (role c.Mark) ((bytes_eq-Decides text (codes "=")).0 (or_none _ h))
equals_role _ text h = absurd (true≢false (sym h))

after_name : (x : Expr) → has_token s.name (root x) ≡ true → after_expr Within Within x ≡ Within
after_name (Token t) h = ap (λ (r : Role). following_token r Within Within) (name_role t.class t.text h)
after_name (Form' kind s parts s' items end split open_break comments) h = absurd (true≢false (sym h))

after_equals : (x : Expr) → has_token s.equals (root x) ≡ true → after_expr Within Within x ≡ Within
after_equals (Token t) h = ap (λ (r : Role). following_token r Within Within) (equals_role t.class t.text h)
after_equals (Form' kind s parts s' items end split open_break comments) h = absurd (true≢false (sym h))

value_spot : (x y : Expr) → has_token s.name (root x) ≡ true → has_token s.equals (root y) ≡ true → after_expr Within (after_expr Within Within x) y ≡ Within
value_spot x y h i = ap (λ here. after_expr Within here y) (after_name x h) ∙ after_equals y i

never_true : (b : Bool) → (b ≡ true → false ≡ true) → b ≡ false
never_true true h = sym (h refl)
never_true false h = refl

module _ (grammar : Grammar) where
  -- ---- the value of a named argument

  abbrev Named : List Expr → List Expr → List Bytes → Bool → Bool → Type 0
  Named ps xs end split open_break = AsForm grammar Within k.Named ps xs end split open_break

  third_value : (end : List Bytes) (split open_break : Bool) (x y v : Expr) (xs : List Expr) → Named (x ∷ y ∷ v ∷ []) xs end split open_break → IsValue grammar v
  third_value end split open_break x y v xs h =
      let spot = value_spot x y h.0.0 h.0.1.0 in
      let last = h.1.0.3.3 in
      let unbroken : has_break v ≡ false = never_true (has_break v) (λ b. (last.2 b).0) in (
        ((subst (λ here. ProperExpr grammar here v) spot last.0, subst AreComments (sym last.1) (All-nil IsComment, tt), unbroken), h.0.1.1.0),
        last.1,
      )

  value_of_row : (name : Bytes) (end : List Bytes) (split open_break : Bool) (ps xs : List Expr) → Named ps xs end split open_break → IfSome (value_after name ps) (IsValue grammar)
  value_of_row name end split open_break [] xs h = tt
  value_of_row name end split open_break (x ∷ []) xs h = tt
  value_of_row name end split open_break (x ∷ y ∷ []) xs h = tt
  value_of_row name end split open_break (x ∷ y ∷ v ∷ []) xs h = by_test (λ (o : Option Expr). IfSome o (IsValue grammar)) (is_text name (text_in c.Name x)) (Some v) None (third_value end split open_break x y v xs h) tt
  value_of_row name end split open_break (x ∷ y ∷ v ∷ w ∷ rest) xs h = tt

  value_of_form : (name : Bytes) (kind : Kind) (end : List Bytes) (split open_break : Bool) (comments : HostComments) (ps xs : List Expr) → AsForm grammar Within kind ps xs end split open_break
      → IfSome (option_and_then (λ (argument : Form). value_after name argument.parts) (if nat_eq (kind_number kind) (kind_number k.Named) then Some (record { kind = kind; parts = ps; seq = record { items = xs; end = end; split = split }; open_break = open_break; comments = comments }) else None)) (IsValue grammar)
  value_of_form name k.Named end split open_break comments ps xs h = value_of_row name end split open_break ps xs h
  value_of_form name _ end split open_break comments ps xs h = tt

  pub named_value : (name : Bytes) (x : Expr) → IsItem grammar s.argument x → IfSome (value_named name x) (IsValue grammar)
  named_value name (Token t) h = tt
  named_value name (Form' kind s parts s' items end split open_break comments) h =
      value_of_form name kind end split open_break comments (items-the_row-Expr _ parts) (items-the_row-Expr _ items) (opened grammar Within (Form' kind s parts s' items end split open_break comments) h.0.0)

  either_value : (a b : Option Expr) → IfSome a (IsValue grammar) → IfSome b (IsValue grammar) → IfSome (option_or a b) (IsValue grammar)
  either_value None b h i = i
  either_value (Some x) b h i = h

  pub attribute_value : (name : Bytes) (xs : List Expr) → AreOf grammar s.argument xs → IfSome (attribute name xs) (IsValue grammar)
  attribute_value name [] h = tt
  attribute_value name (x ∷ xs) h = either_value (value_named name x) (attribute name xs) (named_value name x h.0) (attribute_value name xs h.1)

  -- ---- named arguments with another value, and with another name

  pub value_kept : (change : Expr → Expr) → ((v : Expr) → IsValue grammar v → IsValue grammar (change v)) → KeepsRow grammar k.Named (on_third change)
  value_kept change f end split open_break [] xs h = absurd h.0
  value_kept change f end split open_break (x ∷ []) xs h = absurd h.0.1
  value_kept change f end split open_break (x ∷ y ∷ []) xs h = absurd h.0.1.1
  value_kept change f end split open_break (x ∷ y ∷ v ∷ []) xs h =
      let spot = value_spot x y h.0.0 h.0.1.0 in
      let new = f v (third_value end split open_break x y v xs h) in
      let g = h.1.0 in (
        (h.0.0, (h.0.1.0, (new.0.1, tt))),
        (
          (g.0, g.1, g.2, (g.3.0, g.3.1, g.3.2, (subst (λ here. ProperExpr grammar here (change v)) (sym spot) new.0.0.0, new.1, λ b. absurd (true≢false (sym b ∙ new.0.0.2)), tt))),
          h.1.1,
          h.1.2,
          h.1.3,
          h.1.4,
        ),
      )
  value_kept change f end split open_break (x ∷ y ∷ v ∷ w ∷ rest) xs h = absurd h.0.1.1.1

  module _ (to : Bytes) (lexeme : IsLexeme c.Name to) (coded : IsUtf8 to) where
    renamed : (class : Class) (text : Bytes) (line_break : Bool) (comments : HostComments) (end : List Bytes) (split open_break : Bool) (rest xs : List Expr)
        → Named (e.Token (record { class = class; text = text; line_break = line_break; comments = comments }) ∷ rest) xs end split open_break
        → Named (e.Token (record { class = class; text = to; line_break = line_break; comments = comments }) ∷ rest) xs end split open_break
    renamed c.Name text line_break comments end split open_break rest xs h = ((refl, h.0.1), (((lexeme, coded), h.1.0.1, h.1.0.2, h.1.0.3), h.1.1, h.1.2, h.1.3, h.1.4))
    renamed _ text line_break comments end split open_break rest xs h = absurd (true≢false (sym h.0.0))

    pub name_kept : KeepsRow grammar k.Named (on_first (with_text to))
    name_kept end split open_break [] xs h = absurd h.0
    name_kept end split open_break (Token t ∷ rest) xs h = renamed t.class t.text t.line_break t.comments end split open_break rest xs h
    name_kept end split open_break (Form' kind s parts s' items e o c n ∷ rest) xs h = absurd (true≢false (sym h.0.0))

  pub argument_changed : (change : List Expr → List Expr) → KeepsRow grammar k.Named change → (x : Expr) → IsItem grammar s.argument x → IsItem grammar s.argument (on_row k.Named change x)
  argument_changed change keeps x = item_within grammar s.argument x (on_row k.Named change x) (row_within grammar k.Named refl change keeps x)
