-- A rule with other arguments, and with another function, may be where the rule is.
use Rattle.bz_rule.proofs.Words.{[], ◌∙◌, ◌∷◌, AreComments, Begins, Bool, Bytes, called, dotted_name, Expr, Form', form_in, Grammar, HostComments, IfSome, IsBare, IsNonterminal, IsProperItemIn, Item, Item as i, items-the_row-Expr, Kind as k, List, named, None, on_first, on_row, only, Option, option_and_then, option_map, ProperExpr, refl, root, Rule, rule_of, Some, Spot, subst, sym, Token, with_items, with_parts}
use Rattle.bz_grammar.specs.Shapes as s
use Rattle.bz_rule.proofs.ProperChanges.{changed_parts}
use Rattle.bz_rule.proofs.ProperForms.{InPlace, AsForm, EachInPlace, none, both, opened, form_in_place}
use Rattle.bz_rule.proofs.ProperSequences.{AreOf, call_apart, call_in_place}

any_name : (arguments : List Expr) (P : Rule → Type 0) → ((kind : Bytes) → P (record { kind = kind; arguments = arguments })) → (o : Option Bytes)
    → IfSome (option_map (λ kind. record { kind = kind; arguments = arguments }) o) P
any_name arguments P h None = tt
any_name arguments P h (Some kind) = h kind

if_some : {X : Type 0} (P Q : X → Type 0) → ((x : X) → P x → Q x) → (o : Option X) → IfSome o P → IfSome o Q
if_some P Q f None h = tt
if_some P Q f (Some x) h = f x h

abbrev pub in_statement : (List Expr → Expr → Expr) → Expr → List Expr → Expr
in_statement change x new = on_row k.Bare (on_first (change new)) x

-- a statement with other arguments, and with another function
abbrev pub on_statement : (List Expr → Expr → Expr) → List Expr → Item → Item
on_statement change new (i.Block lines) = i.Block lines
on_statement change new (i.Stmt x) = i.Stmt (in_statement change x new)

module _ (grammar : Grammar) where
  -- what may be called: it is proper at every spot
  abbrev pub IsFunction : Expr → Type 0
  IsFunction f = ((here : Spot) → ProperExpr grammar here f) × IsBare f × IsNonterminal s.primary (root f)

  -- how a rule is in an expression: its arguments are arguments, and others may take their place, as may another function
  record Calls (x : Expr) (with_arguments with_function : List Expr → Expr) (rule : Rule) : Type 0 where
    arguments : AreOf grammar s.argument rule.arguments
    others : (new : List Expr) → AreOf grammar s.argument new → InPlace grammar x (with_arguments new)
    function : (f : Expr) → IsFunction f → InPlace grammar x (with_function (f ∷ []))

  -- a call by its function and its arguments
  call_row : (y : Expr) (end : List Bytes) (split open_break : Bool) (comments : HostComments) (ps xs : List Expr) → AsForm grammar Begins k.Call ps xs end split open_break
      → ((new : List Expr) → AreOf grammar s.argument new → InPlace grammar y (with_items new y))
      → ((f : Expr) → ((here : Spot) → AsForm grammar here k.Call ps xs end split open_break → AsForm grammar here k.Call (f ∷ []) xs end split open_break) → InPlace grammar y (with_parts (f ∷ []) y))
      → IfSome (option_and_then named (called (record { kind = k.Call; parts = ps; seq = record { items = xs; end = end; split = split }; open_break = open_break; comments = comments })))
      (Calls y (λ new. with_items new y) (λ f. with_parts f y))
  call_row y end split open_break comments [] xs h others function = tt
  call_row y end split open_break comments (p ∷ []) xs h others function =
      any_name xs (Calls y (λ new. with_items new y) (λ f. with_parts f y))
      (λ kind. record {
        arguments = call_apart grammar Begins end split open_break (p ∷ []) xs h;
        others = others;
        function = λ f c. function f (λ here a. ((c.2, a.0.1), ((c.0 here, c.1, tt), a.1.1, a.1.2, a.1.3)));
      })
      (dotted_name p)
  call_row y end split open_break comments (p ∷ q ∷ ps) xs h others function = tt

  in_call : (y : Expr) → ProperExpr grammar Begins y → IfSome (option_and_then named (option_and_then called (form_in k.Call y))) (Calls y (λ new. with_items new y) (λ f. with_parts f y))
  in_call (Token t) h = tt
  in_call (Form' k.Call s parts s' items end split open_break comments) h =
      let y : Expr = Form' k.Call s parts s' items end split open_break comments in
      call_row y end split open_break comments (items-the_row-Expr _ parts) (items-the_row-Expr _ items) (opened grammar Begins y h)
      (λ new a. call_in_place grammar (λ _. new) (λ xs b. a) y)
      (λ f g. form_in_place grammar (f ∷ []) (items-the_row-Expr _ items) y (λ here w. refl) g)
  in_call (Form' _ s parts s' items end split open_break comments) h = tt

  -- a statement by its expression
  bare_row : (x : Expr) (within : List Expr → Expr) (end : List Bytes) (split open_break : Bool) (ps xs : List Expr) → AsForm grammar Begins k.Bare ps xs end split open_break
      → ((qs : List Expr) → EachInPlace grammar ps qs → InPlace grammar x (within qs))
      → IfSome (option_and_then named (option_and_then called (option_and_then (form_in k.Call) (only ps))))
      (Calls x (λ new. within (on_first (with_items new) ps)) (λ f. within (on_first (with_parts f) ps)))
  bare_row x within end split open_break [] xs h changed = tt
  bare_row x within end split open_break (y ∷ []) xs h changed =
      if_some (Calls y (λ new. with_items new y) (λ f. with_parts f y)) (Calls x (λ new. within (with_items new y ∷ [])) (λ f. within (with_parts f y ∷ [])))
      (λ rule c. record {
        arguments = c.arguments;
        others = λ new a. changed (with_items new y ∷ []) (both y (with_items new y) [] [] (c.others new a) none);
        function = λ f a. changed (with_parts (f ∷ []) y ∷ []) (both y (with_parts (f ∷ []) y) [] [] (c.function f a) none);
      })
      (option_and_then named (option_and_then called (form_in k.Call y))) (in_call y h.1.0.0)
  bare_row x within end split open_break (y ∷ z ∷ ps) xs h changed = tt

  abbrev IsRule : Expr → Rule → Type 0
  IsRule x = Calls x (in_statement with_items x) (in_statement with_parts x)

  in_bare : (x : Expr) → ProperExpr grammar Begins x → IfSome (rule_of (i.Stmt x)) (IsRule x)
  in_bare (Token t) h = tt
  in_bare (Form' k.Bare s parts s' items end split open_break comments) h =
      let x : Expr = Form' k.Bare s parts s' items end split open_break comments in
      bare_row x (λ qs. with_parts qs x) end split open_break (items-the_row-Expr _ parts) (items-the_row-Expr _ items) (opened grammar Begins x h) (λ qs w. changed_parts grammar qs x (λ here w. refl) w)
  in_bare (Form' _ s parts s' items end split open_break comments) h = tt

  -- ---- items of the file

  pub statement_in_place : (x y : Expr) → InPlace grammar x y → IsProperItemIn grammar (i.Stmt x) → IsProperItemIn grammar (i.Stmt y)
  statement_in_place x y r w = (sym (r.statement Begins w.1) ∙ w.0, r.proper Begins w.1, subst AreComments r.comments w.2)

  pub record RuleItem (item : Item) (rule : Rule) : Type 0 where
    pub arguments : AreOf grammar s.argument rule.arguments
    pub others : (new : List Expr) → AreOf grammar s.argument new → IsProperItemIn grammar (on_statement with_items new item)
    pub function : (f : Expr) → IsFunction f → IsProperItemIn grammar (on_statement with_parts (f ∷ []) item)

  pub rule_item : (item : Item) → IsProperItemIn grammar item → IfSome (rule_of item) (RuleItem item)
  rule_item (i.Block lines) h = tt
  rule_item (i.Stmt x) h =
      if_some (IsRule x) (RuleItem (i.Stmt x))
      (λ rule c. record {
        arguments = c.arguments;
        others = λ new a. statement_in_place x (in_statement with_items x new) (c.others new a) h;
        function = λ f a. statement_in_place x (in_statement with_parts x (f ∷ [])) (c.function f a) h;
      })
      (rule_of (i.Stmt x)) (in_bare x h.1)
