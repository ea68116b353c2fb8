-- How many nodes of the newer kinds a value has, the passes and flags keep; a BUILD file's value is one that has none.
use Rattle.bz_passes.proofs.Words.{[], ◌+◌, ◌||◌, ◌∙◌, ◌∷◌, ◌≡◌, All-from_recursion, AllByRecursion, ap, ap₂, AreBuild, AreBuildExprs, arith, Bool, Bytes, cases_Bool, end_of-Expr, Expr, false, flags, Form, Form', has_newer, has_newer_node, if◌then◌else◌, inl, inr, is_newer_kind, is_taken, IsBuildExpr, IsBuildItem, Item, Item as i, item_newer, items-the_row-Expr, Kind as k, List, list_any, more_of-Expr, nat_lt, nat_tests, newer, or_parts, passed, recursion_from_All, refl, row_newer, Row_of-Expr, settled_list, sym, Token, total, true, true≢false, with_text, ℕ}
use Rattle.bz_value.specs.declared.value.Expr.TheVariants as e
use Rattle.bz_passes.proofs.{Counts.Weighs, Counts.SameTotal, Counts.flags_total, Counts.passed_total, Listed.settled_anyway, Parts.made, Parts.items_after, Parts.items_are, Parts.parts_after, Parts.parts_are, SameLists.IsText, SameLists.class_above, SameLists.taken_texts}

-- ---- a form by its lists

either : (m n : ℕ) → nat_lt 0 (m + n) ≡ (nat_lt 0 m || nat_lt 0 n)
either m n = grind (arith, nat_tests)

any_of : (b : Bool) (m n : ℕ) → nat_lt 0 ((if b then 1 else 0) + (m + n)) ≡ ((b || nat_lt 0 m) || nat_lt 0 n)
any_of true m n = grind (arith, nat_tests)
any_of false m n = grind (arith, nat_tests)

row_sum : (m : _) (r : Row_of-Expr m) → row_newer r ≡ total newer (items-the_row-Expr m r)
row_sum m end_of-Expr = refl
row_sum m (more_of-Expr x rest) = ap (λ n. newer x + n) (row_sum _ rest)

pub newer_Form : (f : Form) → newer (e.Form f) ≡ (if is_newer_kind f.kind then 1 else 0) + (total newer f.parts + total newer f.seq.items)
newer_Form f =
    ap₂ (λ a b. (if is_newer_kind f.kind then 1 else 0) + (a + b)) (row_sum _ (parts_after (e.Form f)).1 ∙ ap (total newer) (parts_are f))
    (row_sum _ (items_after (e.Form f)).1 ∙ ap (total newer) (items_are f))

-- it is one where any of them is
pub any_newer : {X : Type 0} (number : X → ℕ) (xs : List X) → nat_lt 0 (total number xs) ≡ list_any (λ x. nat_lt 0 (number x)) xs
any_newer number [] = refl
any_newer number (x ∷ xs) = either (number x) (total number xs) ∙ ap (λ b. nat_lt 0 (number x) || b) (any_newer number xs)

pub newer_found : (f : Form) → has_newer_node (e.Form f) ≡ ((is_newer_kind f.kind || list_any has_newer_node f.parts) || list_any has_newer_node f.seq.items)
newer_found f =
    ap (nat_lt 0) (newer_Form f)
    ∙ (any_of (is_newer_kind f.kind) (total newer f.parts) (total newer f.seq.items)
    ∙ ap₂ (λ a b. (is_newer_kind f.kind || a) || b) (any_newer newer f.parts) (any_newer newer f.seq.items))

-- names joined by dots are none
pub old_Form : (f : Form) → f.kind ≡ k.Dot → list_any has_newer_node f.parts ≡ false → f.seq.items ≡ [] → has_newer_node (e.Form f) ≡ false
old_Form f kind parts items =
    newer_found f ∙ ap₂ (λ a b. a || b) (ap₂ (λ a b. a || b) (ap is_newer_kind kind) parts) (ap (list_any has_newer_node) items)

-- ---- the passes and flags keep the sum

string_newer : (text : Bytes) (x : Expr) → IsText x → newer (with_text text x) ≡ newer x
string_newer text (Token t) is = refl
string_newer text (Form' kind s parts s' items end split open_break comments) is = absurd (true≢false (sym is))

newer_weighs : Weighs newer
newer_weighs = record {
  form = λ f parts items split h i.
      newer_Form (made f.kind parts items f.seq.end split f.open_break f.comments)
      ∙ (ap₂ (λ a b. (if is_newer_kind f.kind then 1 else 0) + (a + b)) h i ∙ sym (newer_Form f));
  string = string_newer;
}

none_newer : (xs : List Expr) → AllByRecursion IsText xs → total newer xs ≡ 0
none_newer [] h = refl
none_newer (Token t ∷ xs) h = ap (λ n. 0 + n) (none_newer xs h.1)
none_newer (Form' kind s parts s' items end split open_break comments ∷ xs) h = absurd (true≢false (sym h.0))

lists_newer : (outside : List Bytes) (by_table : Bool) → SameTotal newer (settled_list outside by_table)
lists_newer outside by_table xs = elim (cases_Bool (is_taken outside by_table xs)) [
  | inl t ↦
      let texts : AllByRecursion IsText xs = taken_texts outside by_table xs t in
      none_newer (settled_list outside by_table xs) (settled_anyway IsText class_above outside by_table xs texts) ∙ sym (none_newer xs texts)
  | inr f ↦ rw f refl
]

by_sums : (items new : List Item) → total item_newer new ≡ total item_newer items → has_newer new ≡ has_newer items
by_sums items new same = sym (any_newer item_newer new) ∙ (ap (nat_lt 0) same ∙ any_newer item_newer items)

pub passed_newer : (items : List Item) → has_newer (passed items) ≡ has_newer items
passed_newer items = by_sums items (passed items) (passed_total newer newer_weighs item_newer (λ x. refl) lists_newer items)

pub flags_newer : (items : List Item) → has_newer (flags items) ≡ has_newer items
flags_newer items = by_sums items (flags items) (flags_total newer newer_weighs item_newer (λ x. refl) items)

-- ---- a BUILD file's value has none

mutual
  build_expr : (x : Expr) → newer x ≡ 0 → IsBuildExpr x
  build_expr (Token t) n = tt
  build_expr (Form' kind s parts s' items end split open_break comments) n = elim (cases_Bool (is_newer_kind kind)) [
    | inl t ↦ absurd (grind (arith, n, t))
    | inr f ↦ (grind (arith, nat_tests, f), build_row _ parts (omega (arith, n)), build_row _ items (omega (arith, n)))
  ]

  build_row : (m : _) (r : Row_of-Expr m) → row_newer r ≡ 0 → AreBuildExprs r
  build_row m end_of-Expr n = tt
  build_row m (more_of-Expr x rest) n = (build_expr x (omega (arith, n)), build_row _ rest (omega (arith, n)))

mutual
  expr_none : (x : Expr) → IsBuildExpr x → newer x ≡ 0
  expr_none (Token t) b = refl
  expr_none (Form' kind s parts s' items end split open_break comments) b =
      let old : is_newer_kind kind ≡ false = grind (arith, nat_tests, b.0) in
      rw old (ap₂ (λ m n. 0 + (m + n)) (row_none _ parts b.1) (row_none _ items b.2))

  row_none : (m : _) (r : Row_of-Expr m) → AreBuildExprs r → row_newer r ≡ 0
  row_none m end_of-Expr b = refl
  row_none m (more_of-Expr x rest) b = ap₂ (λ m n. m + n) (expr_none x b.0) (row_none _ rest b.1)

build_item : (item : Item) → item_newer item ≡ 0 → IsBuildItem item
build_item (i.Block lines) n = tt
build_item (i.Stmt x) n = build_expr x n

item_none : (item : Item) → IsBuildItem item → item_newer item ≡ 0
item_none (i.Block lines) b = refl
item_none (i.Stmt x) b = expr_none x b

build_each : (items : List Item) → has_newer items ≡ false → AllByRecursion IsBuildItem items
build_each [] n = tt
build_each (item ∷ items) n =
    let none : (nat_lt 0 (item_newer item) ≡ false) × (has_newer items ≡ false) = or_parts (nat_lt 0 (item_newer item)) (has_newer items) n in
    (build_item item (grind (arith, nat_tests, none.0)), build_each items none.1)

each_none : (items : List Item) → AllByRecursion IsBuildItem items → has_newer items ≡ false
each_none [] b = refl
each_none (item ∷ items) b = ap₂ (λ m n. nat_lt 0 m || n) (item_none item b.0) (each_none items b.1)

pub are_build : (items : List Item) → has_newer items ≡ false → AreBuild items
are_build items n = All-from_recursion IsBuildItem items (build_each items n)

pub has_none : (items : List Item) → AreBuild items → has_newer items ≡ false
has_none items b = each_none items (recursion_from_All IsBuildItem items b)
