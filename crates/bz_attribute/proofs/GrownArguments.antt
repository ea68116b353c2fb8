-- What is counted of the comments of an expression, and changes of expressions and of arguments that make it no smaller.
use Rattle.bz_attribute.proofs.Words.{[], ◌++◌, ◌+◌, ◌∷◌, ◌≡◌, ◌≤◌, ℕ, amount, ap, Arguments, arith, attribute, binds_looser, by_test, Bytes, codes, end_of-Expr, Expr, false, Form', form_amount, has_kind, IfOk, inserted, is_select, items-the_row-Expr, items_of, Kind, Kind as k, List, map, mark, more_of-Expr, no_comments, node, on_branches, on_first, on_first_that, on_items, on_lists, on_operand, on_operands, on_row, on_third, on_value, operand, parts_of, plus, refl, row_amount, Row_of-Expr, Selects, Some, subst, sym, Token, total, value_after, value_named, with_items, with_more, with_parts, with_text, with_value}
use Rattle.bz_attribute.proofs.FormsAgain.{made, own_parts, value_parts, three_parts, by_first}
use Rattle.bz_attribute.proofs.Grown.{itself, in_turn, Grows, EachGrows, first_grows, map_grows, third_grows, append_grows, first_that_grows}
use Rattle.bz_command_syntax.specs.declared.command.Selects.TheVariants.{Skipped, Entered}

module _ (number : Bytes → ℕ) where
  abbrev pub whole : Expr → ℕ
  whole = amount number

  pub row_total : (m : _) (r : Row_of-Expr m) → row_amount number r ≡ total whole (items-the_row-Expr m r)
  row_total m end_of-Expr = refl
  row_total m (more_of-Expr x rest) = ap (λ a. amount number x + a) (row_total _ rest)

  pub parts_grow : (ys : List Expr) (x : Expr) → total whole (parts_of x) ≤ total whole ys → whole x ≤ whole (with_parts ys x)
  parts_grow ys (Token t) h = itself (whole (Token t))
  parts_grow ys (Form' kind s parts s' items end split open_break comments) h =
      let all = form_amount number (made kind ys (items-the_row-Expr _ items) end split open_break comments) in
      let before = row_total _ parts in
      let beside = row_total _ items in
      omega arith

  pub items_grow : (ys : List Expr) (x : Expr) → total whole (items_of x) ≤ total whole ys → whole x ≤ whole (with_items ys x)
  items_grow ys (Token t) h = itself (whole (Token t))
  items_grow ys (Form' kind s parts s' items end split open_break comments) h =
      let all = form_amount number (made kind (items-the_row-Expr _ parts) ys end split open_break comments) in
      let beside = row_total _ parts in
      let before = row_total _ items in
      omega arith

  pub text_grows : (text : Bytes) → Grows whole (with_text text)
  text_grows text (Token t) = itself (whole (Token t))
  text_grows text (Form' kind s parts s' items end split open_break comments) =
      let x : Expr = Form' kind s parts s' items end split open_break comments in
      subst (λ y. whole x ≤ whole y) (sym (own_parts x)) (itself (whole x))

  pub on_row_grows : (kind : Kind) (change : List Expr → List Expr) → EachGrows whole change → Grows whole (on_row kind change)
  on_row_grows kind change g x =
      by_test (λ (y : Expr). whole x ≤ whole y) (has_kind kind x) (with_parts (change (parts_of x)) x) x (parts_grow (change (parts_of x)) x (g (parts_of x))) (itself (whole x))

  pub on_items_grows : (kind : Kind) (change : List Expr → List Expr) → EachGrows whole change → Grows whole (on_items kind change)
  on_items_grows kind change g x =
      by_test (λ (y : Expr). whole x ≤ whole y) (has_kind kind x) (with_items (change (items_of x)) x) x (items_grow (change (items_of x)) x (g (items_of x))) (itself (whole x))

  on_operands_grows : (change : Expr → Expr) → Grows whole change → Grows whole (on_operands change)
  on_operands_grows change g x =
      by_test (λ (y : Expr). whole x ≤ whole y) (has_kind k.Sum x) (on_row k.Sum (map change) x) (change x) (on_row_grows k.Sum (map change) (map_grows whole change g) x) (g x)

  on_branches_grows : (change : Expr → Expr) → Grows whole change → Grows whole (on_branches change)
  on_branches_grows change g x =
      let in_entry : Expr → Expr = on_row k.Entry (on_third change) in
      let in_dict : Expr → Expr = on_items k.Dict (map in_entry) in
      let entry_grows : Grows whole in_entry = on_row_grows k.Entry (on_third change) (third_grows whole change g) in
      let dict_grows : Grows whole in_dict = on_items_grows k.Dict (map in_entry) (map_grows whole in_entry entry_grows) in
      by_test (λ (y : Expr). whole x ≤ whole y) (is_select x) (on_items k.Call (on_first in_dict) x) x (on_items_grows k.Call (on_first in_dict) (first_grows whole in_dict dict_grows) x) (itself (whole x))

  on_operand_grows : (selects : Selects) (change : Expr → Expr) → Grows whole change → Grows whole (on_operand selects change)
  on_operand_grows Skipped change g x = g x
  on_operand_grows Entered change g x =
      in_turn (whole x) (whole (change x)) (whole (on_operand Entered change x)) (g x) (on_branches_grows (on_operands change) (on_operands_grows change g) (change x))

  pub on_lists_grows : (selects : Selects) (change : List Expr → List Expr) → EachGrows whole change → Grows whole (on_lists selects change)
  on_lists_grows selects change g = on_operands_grows (on_operand selects (on_items k.List change)) (on_operand_grows selects (on_items k.List change) (on_items_grows k.List change g))

  pub on_value_grows : (change : Expr → Expr) → Grows whole change → Grows whole (on_value change)
  on_value_grows change g = on_row_grows k.Named (on_third change) (third_grows whole change g)

  -- ---- values

  pub more_grows : (more : List Expr) → Grows whole (with_more more)
  more_grows more x =
      let change : Expr → Expr = on_items k.List (λ items. items ++ more) in
      let g : Grows whole change = on_items_grows k.List (λ items. items ++ more) (append_grows whole more) in
      by_test (λ (y : Expr). whole x ≤ whole y) (has_kind k.Sum x) (on_row k.Sum (on_first_that (has_kind k.List) change) x) (change x)
      (on_row_grows k.Sum (on_first_that (has_kind k.List) change) (first_that_grows whole (has_kind k.List) change g) x) (g x)

  node_grows : (kind : Kind) (ps : List Expr) → total whole ps ≤ whole (node kind ps)
  node_grows kind ps = let all = form_amount number (made kind ps [] [] false false no_comments) in omega arith

  operand_grows : Grows whole operand
  operand_grows x =
      let ps : List Expr = mark (codes "(") ∷ x ∷ mark (codes ")") ∷ [] in
      let all = node_grows k.Paren ps in
      by_test (λ (y : Expr). whole x ≤ whole y) (binds_looser x) (node k.Paren ps) x (omega arith) (itself (whole x))

  pub plus_grows : (list : Expr) → Grows whole (λ x. plus x list)
  plus_grows list x =
      let more : List Expr = mark (codes "+") ∷ list ∷ [] in
      let all = node_grows k.Sum (operand x ∷ more) in
      let first = operand_grows x in
      by_test (λ (y : Expr). whole x ≤ whole y) (has_kind k.Sum x) (on_row k.Sum (λ parts. parts ++ more) x) (node k.Sum (operand x ∷ more))
      (on_row_grows k.Sum (λ parts. parts ++ more) (append_grows whole more) x) (omega arith)

  -- ---- arguments

  third_known : (name : Bytes) (value new : Expr) (ps : List Expr) → value_after name ps ≡ Some value → whole value ≤ whole new → total whole ps ≤ total whole (on_third (λ old. new) ps)
  third_known name value new ps e h = subst (λ (qs : List Expr). total whole qs ≤ total whole (on_third (λ old. new) qs)) (sym (three_parts name value ps e).are) (omega arith)

  value_known : (name : Bytes) (value new x : Expr) → value_named name x ≡ Some value → whole value ≤ whole new → whole x ≤ whole (on_value (λ old. new) x)
  value_known name value new x e h =
      by_test (λ (y : Expr). whole x ≤ whole y) (has_kind k.Named x) (with_parts (on_third (λ old. new) (parts_of x)) x) x
      (parts_grow (on_third (λ old. new) (parts_of x)) x (third_known name value new (parts_of x) (value_parts name value x e).1 h)) (itself (whole x))

  pub with_value_grows : (name : Bytes) (value new : Expr) (xs : List Expr) → attribute name xs ≡ Some value → whole value ≤ whole new → total whole xs ≤ total whole (with_value name new xs)
  with_value_grows name value new xs e h =
      by_first (λ ys zs. total whole ys ≤ total whole zs) name value (on_value (λ old. new))
      (λ x ys d. let g = value_known name value new x d h in omega arith) (λ x ys zs n g. omega arith) xs e

  pub inserted_grows : (argument : Expr) → EachGrows whole (inserted argument)
  inserted_grows argument [] = omega arith
  inserted_grows argument (x ∷ xs) =
      let g = inserted_grows argument xs in
      by_test (λ (ys : List Expr). total whole (x ∷ xs) ≤ total whole ys) (has_kind k.Star x) (argument ∷ x ∷ xs) (x ∷ inserted argument xs) (omega arith) (omega arith)

  -- ---- what is made of arguments

  -- it has no smaller sum, where nothing is refused
  abbrev pub Grown : List Expr → Arguments → Type 0
  Grown xs result = IfOk result (λ new. total whole xs ≤ total whole new)
