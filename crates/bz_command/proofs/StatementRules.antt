-- What is in the brackets of a rule are its arguments, and other ones make another rule.
use Rattle.bz_command.proofs.Words.{[], ◌↔◌, ◌∙◌, ◌∷◌, ◌≡◌, ◌≤◌, ap, Arguments, arith, Bool, Bytes, called, dotted_name, Err, Expr, Form, Form', form_in, get_or, has_kind, HostComments, if_true, IfSome, if◌then◌else◌, is_rule, is_some, IsTrue, Item, Item as i, items-the_row-Expr, items_hidden-the_row-Expr-0, Kind as k, length, List, made, made_of, named, NewItem, None, Ok, on_arguments, on_first, on_rule, only, Option, option_and_then, option_map, own_items, own_parts, parts_filled, parts_of, refl, Refusal, Rule, rule_of, Some, subst, sym, Token, true, true≢false, with_arguments, with_items, with_parts}
use Rattle.bz_value.specs.declared.value.Expr.TheVariants as e
use Rattle.bz_attribute.proofs.ArgumentForms.{parts_Form}

-- what is in the brackets of a call, of the first of a row, and of the call that an item is; where there is none, this list
abbrev pub before_in_call : List Expr → Expr → List Expr
before_in_call list (Token t) = list
before_in_call list (Form' own s parts s' items end split open_break comments) = items-the_row-Expr _ items

abbrev pub before_in_row : List Expr → List Expr → List Expr
before_in_row list [] = list
before_in_row list (x ∷ xs) = before_in_call list x

abbrev pub before_in : List Expr → Item → List Expr
before_in list (i.Block lines) = list
before_in list (i.Stmt x) = if has_kind k.Bare x then before_in_row list (parts_of x) else list

-- a call's arguments are these, where it is a rule
abbrev pub Holds : List Expr → Option Rule → Type 0
Holds list o = IfSome o (λ rule. list ≡ rule.arguments)

by_name : (arguments : List Expr) (o : Option Bytes) → Holds arguments (option_map (λ kind. record { kind = kind; arguments = arguments }) o)
by_name arguments None = tt
by_name arguments (Some kind) = refl

by_parts : (ps xs : List Expr) (end : List Bytes) (split open_break : Bool) (comments : HostComments) → Holds xs (option_and_then named (called (made k.Call ps xs end split open_break comments)))
by_parts [] xs end split open_break comments = tt
by_parts (p ∷ []) xs end split open_break comments = by_name xs (dotted_name p)
by_parts (p ∷ q ∷ ps) xs end split open_break comments = tt

in_call : (list : List Expr) (y : Expr) → Holds (before_in_call list y) (option_and_then named (option_and_then called (form_in k.Call y)))
in_call list (Token t) = tt
in_call list (Form' k.Call s parts s' items end split open_break comments) = by_parts (items-the_row-Expr _ parts) (items-the_row-Expr _ items) end split open_break comments
in_call list (Form' _ s parts s' items end split open_break comments) = tt

in_row : (list ps : List Expr) → Holds (before_in_row list ps) (option_and_then named (option_and_then called (option_and_then (form_in k.Call) (only ps))))
in_row list [] = tt
in_row list (y ∷ []) = in_call list y
in_row list (y ∷ z ∷ ps) = tt

pub in_item : (list : List Expr) (item : Item) → Holds (before_in list item) (rule_of item)
in_item list (i.Block lines) = tt
in_item list (i.Stmt (Token t)) = tt
in_item list (i.Stmt (Form' k.Bare s parts s' items end split open_break comments)) = in_row list (items-the_row-Expr _ parts)
in_item list (i.Stmt (Form' _ s parts s' items end split open_break comments)) = tt

-- ---- a rule with other arguments

call_filled : (list new : List Expr) (y : Expr) → is_some (option_and_then named (option_and_then called (form_in k.Call y))) ≡ true → before_in_call list (with_items new y) ≡ new
call_filled list new (Token t) is = absurd (true≢false (sym is))
call_filled list new (Form' own s parts s' items end split open_break comments) is = items_hidden-the_row-Expr-0 new

row_filled : (list new ps : List Expr) → is_some (option_and_then named (option_and_then called (option_and_then (form_in k.Call) (only ps)))) ≡ true → before_in_row list (on_first (with_items new) ps) ≡ new
row_filled list new [] is = absurd (true≢false (sym is))
row_filled list new (y ∷ []) is = call_filled list new y is
row_filled list new (y ∷ z ∷ ps) is = absurd (true≢false (sym is))

-- the arguments that are put in are in the rule then
item_filled : (list new : List Expr) (item : Item) → is_rule item ≡ true → before_in list (with_arguments new item) ≡ new
item_filled list new (i.Block lines) is = absurd (true≢false (sym is))
item_filled list new (i.Stmt (Token t)) is = absurd (true≢false (sym is))
item_filled list new (i.Stmt (Form' k.Bare s parts s' items end split open_break comments)) is =
    ap (before_in_row list) (parts_filled k.Bare (on_first (with_items new) (items-the_row-Expr _ parts)) (Form' k.Bare s parts s' items end split open_break comments) refl)
    ∙ row_filled list new (items-the_row-Expr _ parts) is
item_filled list new (i.Stmt (Form' _ s parts s' items end split open_break comments)) is = absurd (true≢false (sym is))

-- and its own arguments leave it as it is
call_own : (list : List Expr) (y : Expr) → with_items (before_in_call list y) y ≡ y
call_own list (Token t) = refl
call_own list (Form' own s parts s' items end split open_break comments) = own_items (Form' own s parts s' items end split open_break comments)

row_own : (list ps : List Expr) → on_first (with_items (before_in_row list ps)) ps ≡ ps
row_own list [] = refl
row_own list (y ∷ ps) = ap (λ z. z ∷ ps) (call_own list y)

item_own : (list : List Expr) (item : Item) → with_arguments (before_in list item) item ≡ item
item_own list (i.Block lines) = refl
item_own list (i.Stmt (Token t)) = refl
item_own list (i.Stmt (Form' k.Bare s parts s' items end split open_break comments)) =
    let x : Expr = Form' k.Bare s parts s' items end split open_break comments in
    ap i.Stmt (ap (λ ps. with_parts ps x) (row_own list (items-the_row-Expr _ parts)) ∙ own_parts x)
item_own list (i.Stmt (Form' _ s parts s' items end split open_break comments)) = refl

-- A rule stays the same where its arguments do.
module _ (item : Item) (change : List Expr → Arguments) (list : List Expr) (same : Bool) (rule : is_rule item ≡ true) (held : before_in list item ≡ list) (is : IsTrue same ↔ (change list ≡ Ok list)) where
  no_list : (refusal : Refusal) → ◌≡◌ {A = Arguments} (Err refusal) (Ok list) → ⊥
  no_list refusal e = cc

  no_item : (refusal : Refusal) → ◌≡◌ {A = NewItem} (Err refusal) (Ok item) → ⊥
  no_item refusal e = cc

  equal_lists : (new : List Expr) → ◌≡◌ {A = Arguments} (Ok new) (Ok list) → new ≡ list
  equal_lists new e = cc

  equal_items : (new : Item) → ◌≡◌ {A = NewItem} (Ok new) (Ok item) → new ≡ item
  equal_items new e = cc

  by_made : (made : Arguments) → made ≡ change list → IsTrue same ↔ (made_of item made ≡ Ok item)
  by_made (Err refusal) e = (λ t. absurd (no_list refusal (e ∙ is.0 t)), λ equal. absurd (no_item refusal equal))
  by_made (Ok new) e = (
    λ t. ap Ok (ap (λ xs. with_arguments xs item) (equal_lists new (e ∙ is.0 t) ∙ sym held) ∙ item_own list item),
    λ equal. is.1 (sym e ∙ ap Ok (sym (item_filled list new item rule) ∙ (ap (before_in list) (equal_items (with_arguments new item) equal) ∙ held))),
  )

  by_found : (found : Option Rule) → rule_of item ≡ found → IsTrue same ↔ (on_rule change found item ≡ Ok item)
  by_found None e = absurd (true≢false (sym rule ∙ ap (λ (o : Option Rule). is_some o) e))
  by_found (Some r) e =
      let own : before_in list item ≡ r.arguments = subst (Holds (before_in list item)) e (in_item list item) in
      by_made (change r.arguments) (ap change (sym own ∙ held))

  pub same_rule : IsTrue same ↔ (on_arguments change item ≡ Ok item)
  same_rule = by_found (rule_of item) refl

bare : (x : Expr) → is_rule (i.Stmt x) ≡ true → has_kind k.Bare x ≡ true
bare (Token t) is = absurd (true≢false (sym is))
bare (Form' k.Bare s parts s' items end split open_break comments) is = refl
bare (Form' _ s parts s' items end split open_break comments) is = absurd (true≢false (sym is))

first_in : (list row : List Expr) (y : Expr) → y ≡ get_or row 0 y → 1 ≤ length row → before_in_row list row ≡ before_in_call list y
first_in list [] y first some = absurd (omega (arith, some))
first_in list (z ∷ row) y first some = ap (before_in_call list) (sym first)

-- the list of the call that a statement begins with
pub held_in : (list row : List Expr) (item : Item) (x y : Expr) (form call : Form) → is_rule item ≡ true → item ≡ i.Stmt x → x ≡ e.Form form → row ≡ form.parts → y ≡ get_or row 0 y → 1 ≤ length row
    → y ≡ e.Form call → before_in list item ≡ call.seq.items
held_in list row item x y form call rule is_item is_form is_row first some is_call =
    ap (before_in list) is_item
    ∙ (if_true (has_kind k.Bare x) (before_in_row list (parts_of x)) list (bare x (subst (λ (it : Item). is_rule it ≡ true) is_item rule))
    ∙ (ap (before_in_row list) (ap parts_of is_form ∙ (parts_Form form ∙ sym is_row))
    ∙ (first_in list row y first some ∙ (ap (before_in_call list) is_call ∙ items_hidden-the_row-Expr-0 call.seq.items))))
