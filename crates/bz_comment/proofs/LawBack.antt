-- A comment that was put where there was none, and is taken away again.
use Rattle.bz_comment.proofs.Words.{[], ◌++◌, ◌+◌, ◌∙◌, ◌∷◌, ◌≡◌, ◌≤◌, amount, ap, Arguments, arith, attribute, Bool, both, by_test, Bytes, comment, comment_line, comment_made, comment_text, comments_of, Err, Expr, false, find, flat_map, Form', found_comments, has_attribute, has_item, has_kind, has_lists, Host, Host as h, HostComments, IfSome, if◌then◌else◌, is_attribute, is_item, is_some, item_comments, items_in, items_of, Kind as k, line_feed, List, list_any, no_comments, NoAttribute, None, not, NotAList, Ok, on_first_item, on_first_that, on_items, on_named_item, on_row, one_if, Option, option_or, print_comment, printed_comments, put_value, refl, remove_comment, Some, subst, suffix_line, sym, Token, total, true, value_named, with_comment, with_value, without_comments, ℕ, Entered, has_branch_item, is_empty, is_select, lists_of, on_branch, on_first, on_first_at, on_first_branch, on_first_listed, on_first_operand, on_third, Selects, Skipped, true≢false}
use Rattle.bz_attribute.proofs.ArgumentForms.{with_value_twice}
use Rattle.bz_attribute.proofs.AttributesAgain.{attribute_changed, with_value_same}
use Rattle.bz_comment.proofs.FirstItems.{item_again, item_there_still}
use Rattle.bz_comment.proofs.HostForms.{by_made, first_back, made_by, none_again, same_item, same_value}
use Rattle.bz_value.specs.Counted.{suffix_amount, host_amount, row_amount}
use Rattle.bz_value.proofs.Totals.{append_total}
use Rattle.bz_attribute.proofs.Grown.{itself, both_at_most, Grows, first_grows, first_that_grows, third_grows}
use Rattle.bz_attribute.proofs.GrownArguments.{whole, on_row_grows, on_items_grows, with_value_grows, Grown}

-- ---- a change of the first item, and the one that takes it back

module _ (test : Expr → Bool) (f g : Expr → Expr) (same : (x : Expr) → test (f x) ≡ test x) where
  -- ---- an item of an attribute

  made_ok : (name : Bytes) (lists there : Bool) (x : Expr) (xs new : List Expr) → put_value name (made_by lists there x) xs ≡ Ok new
      → (lists ≡ true) × (there ≡ true) × (with_value name x xs ≡ new)
  made_ok name true true x xs new e = (refl, refl, cc)
  made_ok name true false x xs new e = cc
  made_ok name false there x xs new e = cc

  -- where an item is there, lists are
  lists_are : (xs : List Expr) → list_any test (flat_map items_of xs) ≡ true → not (is_empty xs) ≡ true
  lists_are [] h = absurd (true≢false (sym h))
  lists_are (x ∷ xs) h = refl

  item_back : (selects : Selects) (name : Bytes) (found : Option Expr) (xs new : List Expr) → attribute name xs ≡ found
      → ((v : Expr) → found ≡ Some v → IfSome (find test (items_in selects v)) (λ x. g (f x) ≡ x))
      → on_named_item selects name test f found xs ≡ Ok new → on_named_item selects name test g (attribute name new) new ≡ Ok xs
  item_back selects name None xs new a h e = cc
  item_back selects name (Some v) xs new a h e =
      let made : Expr = on_first_item selects test f v in
      let ys : List Expr = with_value name made xs in
      let p = made_ok name (has_lists selects v) (list_any test (items_in selects v)) made xs new e in
      let there : list_any test (items_in selects made) ≡ true = item_there_still test f g same selects v ∙ p.1 in
      subst (λ zs. on_named_item selects name test g (attribute name zs) zs ≡ Ok xs) p.2
      (ap (λ (o : Option Expr). on_named_item selects name test g o ys) (attribute_changed name v made xs a)
      ∙ (both (λ l t. put_value name (made_by l t (on_first_item selects test g made)) ys) (lists_are (lists_of selects made) there) there
      ∙ (ap (λ x. Ok (with_value name x ys)) (item_again test f g same selects v (h v refl))
      ∙ ap Ok (with_value_twice name made v xs ∙ with_value_same name v xs a))))

-- ---- what prints nothing has no comments

never_empty : (text rest more : Bytes) (n : ℕ) → ((text ++ n ∷ []) ++ rest) ++ more ≡ [] → ⊥
never_empty [] rest more n e = cc
never_empty (c ∷ text) rest more n e = cc

never_ended : (text : Bytes) (n : ℕ) → text ++ n ∷ [] ≡ [] → ⊥
never_ended [] n e = cc
never_ended (c ∷ text) n e = cc

none_printed : (before : List Bytes) (suffix : Option Bytes) → flat_map comment_line before ++ suffix_line suffix ≡ [] → (before ≡ []) × (suffix ≡ None)
none_printed [] None e = (refl, refl)
none_printed [] (Some c) e = absurd (never_ended (comment_text c) line_feed e)
none_printed (c ∷ cs) suffix e = absurd (never_empty (comment_text c) (flat_map comment_line cs) (suffix_line suffix) line_feed e)

quiet : (cs : HostComments) → printed_comments cs ≡ [] → cs ≡ no_comments
quiet cs e = let p = none_printed cs.before cs.suffix e in both (λ b s. record { before = b; suffix = s }) p.0 p.1

printed_none : (x : Expr) → found_comments (Some x) ≡ Ok [] → comments_of x ≡ no_comments
printed_none x e = quiet (comments_of x) (cc e)

-- ---- the laws

pub own_comment_taken_away : (text : Bytes) (x : Expr) → comments_of x ≡ no_comments → without_comments (with_comment text x) ≡ x
own_comment_taken_away text x h = none_again x _ h

abbrev BackFrom : Bytes → Expr → Type 0
BackFrom text x = without_comments (with_comment text x) ≡ x

found_back : (text : Bytes) (found : Option Expr) → found_comments found ≡ Ok [] → IfSome found (BackFrom text)
found_back text None e = tt
found_back text (Some x) e = own_comment_taken_away text x (printed_none x e)

listed_back : (text : Bytes) (lists : Bool) (found : Option Expr) → (if not lists then Err NotAList else found_comments found) ≡ Ok [] → IfSome found (BackFrom text)
listed_back text true found e = found_back text found e
listed_back text false found e = cc

item_quiet : (selects : Selects) (text : Bytes) (test : Expr → Bool) (found : Option Expr) → item_comments selects test found ≡ Ok [] → (v : Expr) → found ≡ Some v
    → IfSome (find test (items_in selects v)) (BackFrom text)
item_quiet selects text test found e v is = listed_back text (has_lists selects v) (find test (items_in selects v)) (subst (λ (o : Option Expr). item_comments selects test o ≡ Ok []) is e)

abbrev then_ok : Bool → List Expr → Arguments
then_ok b xs = if b then Ok xs else Err NoAttribute

was_ok : (b : Bool) (xs new : List Expr) → then_ok b xs ≡ Ok new → (b ≡ true) × (xs ≡ new)
was_ok true xs new e = (refl, cc)
was_ok false xs new e = cc

-- the attribute stays where its comments change
has_same : (name : Bytes) (test : Expr → Bool) (change : Expr → Expr) → ((x : Expr) → value_named name (change x) ≡ value_named name x)
    → (xs : List Expr) → attribute name (on_first_that test change xs) ≡ attribute name xs
has_same name test change same [] = refl
has_same name test change same (x ∷ xs) =
    by_test (λ ys. attribute name ys ≡ attribute name (x ∷ xs)) (test x) (change x ∷ xs) (x ∷ on_first_that test change xs)
    (ap (λ (o : Option Expr). option_or o (attribute name xs)) (same x)) (ap (λ (o : Option Expr). option_or (value_named name x) o) (has_same name test change same xs))

attribute_back : (name text : Bytes) (xs new : List Expr) → found_comments (find (is_attribute name) xs) ≡ Ok []
    → then_ok (has_attribute name xs) (on_first_that (is_attribute name) (with_comment text) xs) ≡ Ok new
    → then_ok (has_attribute name new) (on_first_that (is_attribute name) without_comments new) ≡ Ok xs
attribute_back name text xs new e h =
    let test : Expr → Bool = is_attribute name in
    let ys : List Expr = on_first_that test (with_comment text) xs in
    let p = was_ok (has_attribute name xs) ys new h in
    subst (λ zs. then_ok (has_attribute name zs) (on_first_that test without_comments zs) ≡ Ok xs) p.1
    (ap (λ b. then_ok b (on_first_that test without_comments ys))
    (ap (λ (o : Option Expr). is_some o) (has_same name test (with_comment text) (λ x. same_value name _ x) xs) ∙ p.0)
    ∙ ap Ok (first_back test (with_comment text) without_comments (λ x. ap (λ (o : Option Expr). is_some o) (same_value name _ x)) xs (found_back text (find test xs) e)))

pub comment_taken_away : (current : Bytes) (host : Host) (text : Bytes) (own : HostComments) (arguments new : List Expr)
    → print_comment current host own arguments ≡ Ok [] → comment current host text arguments ≡ Ok new → remove_comment current host new ≡ Ok arguments
comment_taken_away current h.Rule text own xs new e i = sym i
comment_taken_away current (h.Attribute name) text own xs new e i = attribute_back name text xs new e i
comment_taken_away current (h.Item name word selects) text own xs new e i =
    let test : Expr → Bool = is_item current name word in
    item_back test (with_comment text) without_comments (λ x. same_item current name word _ x) selects name (attribute name xs) xs new refl
    (item_quiet selects text test (attribute name xs) e) i

-- ---- a comment that is put takes no comment away

more_above : (before more suffix all : ℕ) → all ≡ before + more → before + suffix ≤ all + suffix
more_above before more suffix all e = omega arith

module _ (number : Bytes → ℕ) where
  -- ---- a comment more

  host_grows : (text : Bytes) (cs : HostComments) → host_amount number cs ≤ host_amount number (record cs { before = cs.before ++ text ∷ [] })
  host_grows text cs =
      more_above (total number cs.before) (total number (text ∷ [])) (suffix_amount number cs.suffix) (total number (cs.before ++ text ∷ [])) (append_total number cs.before (text ∷ []))

  pub own_grows : (text : Bytes) → Grows (whole number) (with_comment text)
  own_grows text (Token t) = host_grows (comment_made text) t.comments
  own_grows text (Form' kind s parts s' items end split open_break comments) =
      let inside : ℕ = row_amount number parts + (row_amount number items + total number end) in
      both_at_most (host_amount number comments) (host_amount number (record comments { before = comments.before ++ comment_made text ∷ [] })) inside inside
      (host_grows (comment_made text) comments) (itself inside)

  -- ---- hosts

  module _ (test : Expr → Bool) (change : Expr → Expr) (g : Grows (whole number) change) where
    list_grows : Grows (whole number) (on_first_listed test change)
    list_grows = on_items_grows number k.List (on_first_that test change) (first_that_grows (whole number) test change g)

    operand_grows : (has : Expr → Bool) (to : Expr → Expr) → Grows (whole number) to → Grows (whole number) (on_first_operand has to)
    operand_grows has to grows x =
        by_test (λ (y : Expr). whole number x ≤ whole number y) (has_kind k.Sum x) (on_row k.Sum (on_first_that has to) x) (to x)
        (on_row_grows number k.Sum (on_first_that has to) (first_that_grows (whole number) has to grows) x) (grows x)

    branch_grows : Grows (whole number) (on_branch test change)
    branch_grows =
        let to : Expr → Expr = on_first_operand (has_item Skipped test) (on_first_listed test change) in
        on_row_grows number k.Entry (on_third to) (third_grows (whole number) to (operand_grows (has_item Skipped test) (on_first_listed test change) list_grows))

    select_grows : Grows (whole number) (on_first_branch test change)
    select_grows =
        let entries : List Expr → List Expr = on_first_that (has_branch_item test) (on_branch test change) in
        on_items_grows number k.Call (on_first (on_items k.Dict entries))
        (first_grows (whole number) (on_items k.Dict entries)
        (on_items_grows number k.Dict entries (first_that_grows (whole number) (has_branch_item test) (on_branch test change) branch_grows)))

    at_grows : (selects : Selects) → Grows (whole number) (on_first_at selects test change)
    at_grows Skipped = list_grows
    at_grows Entered = λ x. by_test (λ (y : Expr). whole number x ≤ whole number y) (is_select x) (on_first_branch test change x) (on_first_listed test change x) (select_grows x) (list_grows x)

    item_grows : (selects : Selects) → Grows (whole number) (on_first_item selects test change)
    item_grows selects = operand_grows (has_item selects test) (on_first_at selects test change) (at_grows selects)

  on_item_grows : (selects : Selects) (name : Bytes) (test : Expr → Bool) (change : Expr → Expr) (found : Option Expr) (xs : List Expr) → Grows (whole number) change → attribute name xs ≡ found
      → Grown number xs (on_named_item selects name test change found xs)
  on_item_grows selects name test change None xs g a = tt
  on_item_grows selects name test change (Some v) xs g a =
      by_made (Grown number xs) name (has_lists selects v) (list_any test (items_in selects v)) (on_first_item selects test change v) xs
      (λ is. with_value_grows number name v (on_first_item selects test change v) xs a (item_grows test change g selects v)) (λ refusal. tt)

  pub comment_grows : (current : Bytes) (host : Host) (text : Bytes) (xs : List Expr) → Grown number xs (comment current host text xs)
  comment_grows current h.Rule text xs = itself (total (whole number) xs)
  comment_grows current (h.Attribute name) text xs =
      by_test (Grown number xs) (has_attribute name xs) (Ok (on_first_that (is_attribute name) (with_comment text) xs)) (Err NoAttribute)
      (first_that_grows (whole number) (is_attribute name) (with_comment text) (own_grows text) xs) tt
  comment_grows current (h.Item name word selects) text xs = on_item_grows selects name (is_item current name word) (with_comment text) (attribute name xs) xs (own_grows text) refl

-- ---- the laws

pub comment_loses_none : (current : Bytes) (host : Host) (text : Bytes) (arguments new : List Expr) → comment current host text arguments ≡ Ok new
    → (each : Bytes) → total (amount (one_if each)) arguments ≤ total (amount (one_if each)) new
comment_loses_none current host text arguments new e each = subst (Grown (one_if each) arguments) e (comment_grows (one_if each) current host text arguments)

pub own_comment_loses_none : (text : Bytes) (x : Expr) (each : Bytes) → amount (one_if each) x ≤ amount (one_if each) (with_comment text x)
own_comment_loses_none text x each = own_grows (one_if each) text x
