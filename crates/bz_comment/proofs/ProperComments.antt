-- What the commands on comments make of the arguments of a rule is arguments, and of a statement a statement.
use Rattle.bz_comment.proofs.Words.{[], ◌++◌, ◌==◌, ◌∷◌, ◌≡◌, arith, attribute, Bool, by_test, Bytes, comment, comment_made, comments_of, Entered, eqb-false, Err, Expr, false, Form', has_attribute, has_branch_item, has_item, has_kind, has_lists, Host, HostComments, IfSome, is_attribute, is_item, is_select, IsUtf8, items_in, Kind as k, length, line_feed, List, list_any, no_comments, NoAttribute, None, not-true, number_sign, Ok, on_branch, on_first, on_first_at, on_first_branch, on_first_item, on_first_listed, on_first_operand, on_first_that, on_host, on_items, on_named_item, on_row, on_third, Option, or_parts, refl, remove_comment, row_stays, Selects, Skipped, Some, space, Stays, subst, suc, Token, trimmed, true, with_comment, with_comments, without_comments, zero}
use Rattle.std.proofs.lemmas.List.Elements.{All-append, All-cons, All-nil}
use Rattle.std.proofs.lemmas.Str.{IsUtf8-append}
use Rattle.bz_grammar.specs.Shapes as s
use Rattle.bz_grammar.specs.Shapes.{Nonterminal}
use Rattle.bz_value.specs.declared.value.Item.TheVariants as i
use Rattle.bz_value.specs.{Proper.IsComment, Proper.AreComments, Proper.IsProperItemIn, LineShapes.Grammar}
use Rattle.bz_value.proofs.{GapComments.suffix_fine, Lines.NoneBefore, Lines.line_stops}
use Rattle.bz_command_syntax.specs.{Commands.is_one_line, Proper.IsHost}
use Rattle.bz_command_syntax.specs.declared.command.Host.TheVariants as h
use Rattle.bz_rule.proofs.ProperChanges.{first_stays, items_stay, third_stays}
use Rattle.bz_rule.proofs.{ProperArguments.attribute_value, ProperForms.InPlace, ProperItems.IsValue, ProperItems.value_in_place, ProperSequences.IsItem, ProperSequences.list_in_place}
use Rattle.bz_attribute.proofs.ProperAttributes.{AreArguments, Made, Keeps, with_value_kept, first_that_kept, first_that_stays}
use Rattle.bz_attribute.proofs.ProperTexts.{one_ascii}
use Rattle.bz_comment.proofs.HostForms.{by_made}

-- ---- the comment that a text becomes

none_before : (text : Bytes) → list_any (λ byte. byte == line_feed) text ≡ false → NoneBefore (length text) text
none_before [] h k l = absurd (omega arith)
none_before (c ∷ text) h zero l = eqb-false c line_feed (or_parts (c == line_feed) (list_any (λ byte. byte == line_feed) text) h).0
none_before (c ∷ text) h (suc k) l = none_before text (or_parts (c == line_feed) (list_any (λ byte. byte == line_feed) text) h).1 k (omega arith)

pub comment_fine : (text : Bytes) → is_one_line text ≡ true → IsUtf8 text → IsComment (comment_made text)
comment_fine text one u =
    let line : Bytes = number_sign ∷ space ∷ text in
    let coded : IsUtf8 line =
    IsUtf8-append (number_sign ∷ []) (space ∷ text) (one_ascii number_sign (omega arith)) (IsUtf8-append (space ∷ []) text (one_ascii space (omega arith)) u) in
    subst (λ r. IsComment (trimmed (number_sign ∷ space ∷ r.words))) (line_stops text (none_before text (not-true (list_any (λ byte. byte == line_feed) text) one)))
    (suffix_fine line coded)

-- ---- expressions with other comments

more_comments : (text : Bytes) (cs : HostComments) → IsComment (comment_made text) → AreComments cs → AreComments (record cs { before = cs.before ++ comment_made text ∷ [] })
more_comments text cs f h = (All-append IsComment cs.before (comment_made text ∷ []) h.0 (All-cons IsComment (comment_made text) [] f (All-nil IsComment)), h.1)

nothing : AreComments no_comments
nothing = (All-nil IsComment, tt)

module _ (grammar : Grammar) where
  item_commented : (nonterminal : Nonterminal) (cs : HostComments) (x : Expr) → AreComments cs → IsItem grammar nonterminal x → IsItem grammar nonterminal (with_comments x cs)
  item_commented nonterminal cs (Token t) a h = ((h.0.0, a, h.0.2), h.1)
  item_commented nonterminal cs (Form' kind s parts s' items end split open_break comments) a h = ((h.0.0, a, h.0.2), h.1)

  statement_commented : (cs : HostComments) (x : Expr) → AreComments cs → IsProperItemIn grammar (i.Stmt x) → IsProperItemIn grammar (i.Stmt (with_comments x cs))
  statement_commented cs (Token t) a h = (h.0, h.1, a)
  statement_commented cs (Form' kind s parts s' items end split open_break comments) a h = (h.0, h.1, a)

  -- what a change of comments keeps
  abbrev KeepsItems : (Expr → Expr) → Type 0
  KeepsItems change = (nonterminal : Nonterminal) (x : Expr) → IsItem grammar nonterminal x → IsItem grammar nonterminal (change x)

  commented_items : (text : Bytes) → IsComment (comment_made text) → KeepsItems (with_comment text)
  commented_items text f nonterminal x h = item_commented nonterminal _ x (more_comments text (comments_of x) f h.0.1) h

  uncommented_items : KeepsItems without_comments
  uncommented_items nonterminal x h = item_commented nonterminal no_comments x nothing h

  -- ---- statements

  pub statement_keeps : (text : Bytes) → is_one_line text ≡ true → IsUtf8 text → (x : Expr) → IsProperItemIn grammar (i.Stmt x) → IsProperItemIn grammar (i.Stmt (with_comment text x))
  statement_keeps text one u x h = statement_commented _ x (more_comments text (comments_of x) (comment_fine text one u) h.2) h

  pub remove_statement_keeps : (x : Expr) → IsProperItemIn grammar (i.Stmt x) → IsProperItemIn grammar (i.Stmt (without_comments x))
  remove_statement_keeps x h = statement_commented no_comments x nothing h

  -- ---- hosts among arguments

  module _ (change : Expr → Expr) (keeps : KeepsItems change) where
    module _ (test : Expr → Bool) where
      list_stays : Stays grammar (on_first_listed test change)
      list_stays = list_in_place grammar (on_first_that test change) (λ xs a. first_that_kept (IsItem grammar s.test) test change (keeps s.test) xs a)

      operand_stays : (has : Expr → Bool) (to : Expr → Expr) → Stays grammar to → Stays grammar (on_first_operand has to)
      operand_stays has to stays x =
          by_test (InPlace grammar x) (has_kind k.Sum x) (on_row k.Sum (on_first_that has to) x) (to x)
          (row_stays grammar k.Sum refl (on_first_that has to) (first_that_stays grammar has to stays) x) (stays x)

      branch_stays : Stays grammar (on_branch test change)
      branch_stays =
          let to : Expr → Expr = on_first_operand (has_item Skipped test) (on_first_listed test change) in
          row_stays grammar k.Entry refl (on_third to) (third_stays grammar to (operand_stays (has_item Skipped test) (on_first_listed test change) list_stays))

      select_stays : Stays grammar (on_first_branch test change)
      select_stays =
          let entries : List Expr → List Expr = on_first_that (has_branch_item test) (on_branch test change) in
          items_stay grammar k.Call refl (on_first (on_items k.Dict entries))
          (first_stays grammar (on_items k.Dict entries) (items_stay grammar k.Dict refl entries (first_that_stays grammar (has_branch_item test) (on_branch test change) branch_stays)))

      at_stays : (selects : Selects) → Stays grammar (on_first_at selects test change)
      at_stays Skipped = list_stays
      at_stays Entered = λ x. by_test (InPlace grammar x) (is_select x) (on_first_branch test change x) (on_first_listed test change x) (select_stays x) (list_stays x)

      value_keeps : (selects : Selects) (x : Expr) → IsValue grammar x → IsValue grammar (on_first_item selects test change x)
      value_keeps selects x v =
          value_in_place grammar x (on_first_item selects test change x) (operand_stays (has_item selects test) (on_first_at selects test change) (at_stays selects) x) v

    item_keeps : (selects : Selects) (name : Bytes) (test : Expr → Bool) (found : Option Expr) (xs : List Expr) → IfSome found (IsValue grammar) → AreArguments grammar xs
        → Made grammar (on_named_item selects name test change found xs)
    item_keeps selects name test None xs v h = tt
    item_keeps selects name test (Some value) xs v h =
        by_made (Made grammar) name (has_lists selects value) (list_any test (items_in selects value)) (on_first_item selects test change value) xs
        (λ is. with_value_kept grammar name (on_first_item selects test change value) xs (value_keeps test selects value v) h) (λ refusal. tt)

    host_keeps : (current : Bytes) (host : Host) → Keeps grammar (on_host current host change)
    host_keeps current h.Rule xs h = h
    host_keeps current (h.Attribute name) xs h =
        by_test (Made grammar) (has_attribute name xs) (Ok (on_first_that (is_attribute name) change xs)) (Err NoAttribute)
        (first_that_kept (IsItem grammar s.argument) (is_attribute name) change (keeps s.argument) xs h) tt
    host_keeps current (h.Item name word selects) xs h = item_keeps selects name (is_item current name word) (attribute name xs) xs (attribute_value grammar name xs h) h

  -- ---- the commands

  pub comment_keeps : (current : Bytes) (host : Host) (text : Bytes) → IsHost host → is_one_line text ≡ true → IsUtf8 text → Keeps grammar (comment current host text)
  comment_keeps current host text is one u = host_keeps (with_comment text) (commented_items text (comment_fine text one u)) current host

  pub remove_comment_keeps : (current : Bytes) (host : Host) → IsHost host → Keeps grammar (remove_comment current host)
  remove_comment_keeps current host is = host_keeps without_comments uncommented_items current host
