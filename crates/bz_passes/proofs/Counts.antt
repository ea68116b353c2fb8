-- A number of each expression that its lists add up to stays where the sums stay at the places where the passes go: so does that of each comment.
use Rattle.bz_passes.proofs.Words.{[], ◌&&◌, ◌++◌, ◌+◌, ◌∙◌, ◌∷◌, ◌≡◌, above, AllByRecursion, and_parts, any_marked, ap, append_total, argument_precedes, arguments_in, arith, Bool, by_case, by_test, Bytes, bytes_eq, cases_Bool, Class as c, comments_of, each_on_strings, each_with_flags, end_of-Expr, Expr, false, first_text, flags, Form, Form', form_amount, frame, has_class, has_kind, has_no_comment, in_order, inl, inr, is_class, is_empty, is_label_attribute, is_marked, is_none, is_sorted, is_taken, IsPermutation-filter_both, Item, Item as i, item_with_flags, items-the_row-Expr, keep_marks, keep_sorted, Kind, Kind as k, labels_in, leave_alone, List, list_any, lists_in, load_precedes, loads, map, more_of-Expr, MovesMarks, None, not, of_rule, on_assigned, on_attribute, on_call, on_first, on_items, on_label_value, on_labels, on_list_value, on_list_values, on_lists, on_rest, on_row, on_rule_arguments, on_statement, on_string, on_strings, on_taken, on_third, Option, other_comments, parts_of, passed, precedes, quotes_in, refl, Row_of-Expr, rule_kind, settled_list, settled_split, shorter_string, Some, sort_by, sorted, subst, sym, symbol_precedes, symbols_in, taken, text_of, times, Token, total, true, true≢false, with_above, with_double, with_flags, with_marks_moved, with_text, without_marks, without_repeats, ℕ}
use Rattle.bz_value.specs.declared.value.Expr.TheVariants as e
use Rattle.bz_value.specs.Counted.{suffix_amount, host_amount, amount, item_amount, one_if}
use Rattle.bz_passes.proofs.{Parts.in_form, Parts.Place, Parts.the_parts, Parts.the_items, Parts.made, Parts.own_parts, Keeping.both, Keeping.third_is, Places.within, Listed.unrepeated_all, Listed.marks_move, SameLists.IsText, SameLists.taken_texts, Sorting.permuted_total, Sorting.sort_all, Sorting.sort_total}

-- ---- sums over lists

module _ {X : Type 0} (number : X → ℕ) where
  abbrev pub Same : (X → X) → Type 0
  Same g = (x : X) → number (g x) ≡ number x

  abbrev pub SameTotal : (List X → List X) → Type 0
  SameTotal g = (xs : List X) → total number (g xs) ≡ total number xs

  pub map_total : (g : X → X) → Same g → SameTotal (map g)
  map_total g h [] = refl
  map_total g h (x ∷ xs) = both (λ a b. a + b) (h x) (map_total g h xs)

  first_total : (g : X → X) → Same g → SameTotal (on_first g)
  first_total g h [] = refl
  first_total g h (x ∷ xs) = ap (λ a. a + total number xs) (h x)

  after_total : (g : List X → List X) → SameTotal g → SameTotal (on_rest g)
  after_total g h [] = refl
  after_total g h (x ∷ xs) = ap (λ a. number x + a) (h xs)

  third_total : (g : X → X) → Same g → SameTotal (on_third g)
  third_total g h = subst SameTotal (third_is g) (after_total (on_rest (on_first g)) (after_total (on_first g) (first_total g h)))

-- form: lists with the same sums give a form the same number, whether it is split or not.
-- string: the texts of strings do not count.
pub record Weighs (whole : Expr → ℕ) : Type 0 where
  pub form : (f : Form) (parts items : List Expr) (split : Bool) → total whole parts ≡ total whole f.parts → total whole items ≡ total whole f.seq.items → whole (in_form f parts items split) ≡ whole (e.Form f)
  pub string : (text : Bytes) (x : Expr) → has_class c.String x ≡ true → whole (with_text text x) ≡ whole x

module _ (whole : Expr → ℕ) (weighs : Weighs whole) where
  -- ---- at the two places where expressions are in an expression

  abbrev Counts : Place → Type 0
  Counts place = (ys : List Expr) (x : Expr) → total whole ys ≡ total whole (place.get x) → whole (place.put ys x) ≡ whole x

  parts_count : Counts the_parts
  parts_count ys (Token t) h = refl
  parts_count ys (Form' kind s parts s' items end split open_break comments) h =
      weighs.form (made kind (items-the_row-Expr _ parts) (items-the_row-Expr _ items) end split open_break comments) ys (items-the_row-Expr _ items) split h refl
      ∙ ap whole (own_parts (Form' kind s parts s' items end split open_break comments))

  items_count : Counts the_items
  items_count ys (Token t) h = refl
  items_count ys (Form' kind s parts s' items end split open_break comments) h =
      weighs.form (made kind (items-the_row-Expr _ parts) (items-the_row-Expr _ items) end split open_break comments) (items-the_row-Expr _ parts) ys split refl h
      ∙ ap whole (own_parts (Form' kind s parts s' items end split open_break comments))

  within_same : (place : Place) → Counts place → (kind : Kind) (d : Expr → List Expr → List Expr) → ((x : Expr) → SameTotal whole (d x)) → Same whole (within place kind d)
  within_same place count kind d h x = by_test (λ y. whole y ≡ whole x) (has_kind kind x) (place.put (d x (place.get x)) x) x (count (d x (place.get x)) x (h x (place.get x))) refl

  row_same : (kind : Kind) (d : Expr → List Expr → List Expr) → ((x : Expr) → SameTotal whole (d x)) → Same whole (within the_parts kind d)
  row_same = within_same the_parts parts_count

  items_same : (kind : Kind) (d : Expr → List Expr → List Expr) → ((x : Expr) → SameTotal whole (d x)) → Same whole (within the_items kind d)
  items_same = within_same the_items items_count

  -- ---- everywhere

  mutual
    pub strings_same : (change : Bytes → Bytes) → Same whole (on_strings change)
    strings_same change (Token t) = elim (cases_Bool (is_class t.class c.String)) [
      | inl w ↦ rw w (weighs.string (change t.text) (Token t) w)
      | inr w ↦ rw w refl
    ]
    strings_same change (Form' kind s parts s' items end split open_break comments) =
        weighs.form (made kind (items-the_row-Expr _ parts) (items-the_row-Expr _ items) end split open_break comments) (each_on_strings change parts) (each_on_strings change items) split
        (row_strings_same change _ parts) (row_strings_same change _ items)
        ∙ ap whole (own_parts (Form' kind s parts s' items end split open_break comments))

    row_strings_same : (change : Bytes → Bytes) (m : _) (r : Row_of-Expr m) → total whole (each_on_strings change r) ≡ total whole (items-the_row-Expr m r)
    row_strings_same change m end_of-Expr = refl
    row_strings_same change m (more_of-Expr x rest) = both (λ a b. a + b) (strings_same change x) (row_strings_same change _ rest)

  mutual
    flags_same : Same whole with_flags
    flags_same (Token t) = refl
    flags_same (Form' kind s parts s' items end split open_break comments) =
        weighs.form (made kind (items-the_row-Expr _ parts) (items-the_row-Expr _ items) end split open_break comments) (each_with_flags parts) (each_with_flags items)
        (settled_split (frame kind) kind split (items-the_row-Expr _ items) end) (row_flags_same _ parts) (row_flags_same _ items)
        ∙ ap whole (own_parts (Form' kind s parts s' items end split open_break comments))

    row_flags_same : (m : _) (r : Row_of-Expr m) → total whole (each_with_flags r) ≡ total whole (items-the_row-Expr m r)
    row_flags_same m end_of-Expr = refl
    row_flags_same m (more_of-Expr x rest) = both (λ a b. a + b) (flags_same x) (row_flags_same _ rest)

  -- ---- in statements

  lists_same : (g : List Expr → List Expr) → SameTotal whole g → Same whole (on_lists g)
  lists_same g h x =
      by_test (λ y. whole y ≡ whole x) (has_kind k.Sum x) (on_row k.Sum (map (on_items k.List g)) x) (on_items k.List g x)
      (row_same k.Sum (λ x. map (on_items k.List g)) (λ x. map_total whole (on_items k.List g) (items_same k.List (λ x. g) (λ x. h))) x)
      (items_same k.List (λ x. g) (λ x. h) x)

  attribute_same : (g : Bytes → List Bytes → Expr → Expr) → ((name : Bytes) (a : List Bytes) → Same whole (g name a)) → Same whole (on_attribute g)
  attribute_same g h = row_same k.Named (λ x. on_third (g (first_text (parts_of x)) (above x))) (λ x. third_total whole _ (h (first_text (parts_of x)) (above x)))

  of_total : (g : Bytes → List Expr → List Expr) → ((kind : Bytes) → SameTotal whole (g kind)) → (o : Option Bytes) → SameTotal whole (of_rule g o)
  of_total g h None xs = refl
  of_total g h (Some kind) xs = h kind xs

  pub rule_same : (g : Bytes → List Expr → List Expr) → ((kind : Bytes) → SameTotal whole (g kind)) → Same whole (on_rule_arguments g)
  rule_same g h = row_same k.Bare (λ x. on_first (on_call g)) (λ x. first_total whole (on_call g) (items_same k.Call (λ y. of_rule g (rule_kind (parts_of y))) (λ y. of_total g h (rule_kind (parts_of y)))))

  string_same : (change : Bytes → Bytes) → Same whole (on_string change)
  string_same change x = by_case (λ y. whole y ≡ whole x) (has_class c.String x) (with_text (change (text_of x)) x) x (weighs.string (change (text_of x)) x) (λ f. refl)

  label_value_same : (change : Bytes → Bytes) (name : Bytes) (outside : List Bytes) → Same whole (on_label_value change name outside)
  label_value_same change name outside x =
      by_test (λ y. whole y ≡ whole x) (is_label_attribute name) (on_lists (map (on_string change)) x) x (lists_same (map (on_string change)) (map_total whole (on_string change) (string_same change)) x) refl

  pub labels_same : (change : Bytes → Bytes) → Same whole (on_labels change)
  labels_same change = rule_same (λ kind. map (on_attribute (on_label_value change)))
      (λ kind. map_total whole (on_attribute (on_label_value change)) (attribute_same (on_label_value change) (label_value_same change)))

  pub list_values_same : (change : List Bytes → Bool → List Expr → List Expr) → ((outside : List Bytes) (by_table : Bool) → SameTotal whole (change outside by_table)) → Same whole (on_list_values change)
  list_values_same change h x =
      by_test (λ y. whole y ≡ whole x) (has_kind k.Assign x) (on_assigned change x) (on_rule_arguments (λ kind. map (on_attribute (on_list_value change kind))) x)
      (row_same k.Assign (λ y. on_third (on_lists (change (above y) false))) (λ y. third_total whole _ (lists_same (change (above y) false) (h (above y) false))) x)
      (rule_same (λ kind. map (on_attribute (on_list_value change kind))) (λ kind. map_total whole (on_attribute (on_list_value change kind))
      (attribute_same (on_list_value change kind) (λ name a. lists_same (change a (is_sorted kind name)) (h a (is_sorted kind name))))) x)

  pub symbols_same : (change : List Expr → List Expr) → SameTotal whole change → Same whole (on_items k.Load (on_rest change))
  symbols_same change h = items_same k.Load (λ x. on_rest change) (λ x. after_total whole change h)

  -- ---- in a file

  module _ (of_item : Item → ℕ) (own : (x : Expr) → of_item (i.Stmt x) ≡ whole x) where
    statement_same : (g : Expr → Expr) → Same whole g → Same of_item (on_statement (taken g))
    statement_same g h (i.Block lines) = refl
    statement_same g h (i.Stmt x) = own (taken g x) ∙ (by_test (λ y. whole y ≡ whole x) (any_marked leave_alone (above x)) x (g x) refl (h x) ∙ sym (own x))

    pub taken_total : (g : Expr → Expr) → Same whole g → SameTotal of_item (on_taken g)
    taken_total g h = map_total of_item (on_statement (taken g)) (statement_same g h)

    item_flags : Same of_item item_with_flags
    item_flags (i.Block lines) = refl
    item_flags (i.Stmt x) = own (with_flags x) ∙ (flags_same x ∙ sym (own x))

    pub flags_total : SameTotal of_item flags
    flags_total = map_total of_item item_with_flags item_flags

    pub passed_total : ((outside : List Bytes) (by_table : Bool) → SameTotal whole (settled_list outside by_table)) → SameTotal of_item passed
    passed_total lists items =
        let quoted : List Item = on_taken quotes_in items in
        let labelled : List Item = on_taken labels_in quoted in
        let listed : List Item = on_taken lists_in labelled in
        let arranged : List Item = on_taken arguments_in listed in
        let named : List Item = on_taken symbols_in arranged in
        flags_total (loads named)
        ∙ (sort_total load_precedes of_item named
        ∙ (taken_total symbols_in (symbols_same (sort_by symbol_precedes) (sort_total symbol_precedes whole)) arranged
        ∙ (taken_total arguments_in (rule_same (λ kind. sort_by argument_precedes) (λ kind. sort_total argument_precedes whole)) listed
        ∙ (taken_total lists_in (list_values_same settled_list lists) labelled
        ∙ (taken_total labels_in (labels_same shorter_string) quoted ∙ taken_total quotes_in (strings_same with_double) items)))))

module _ (number : Bytes → ℕ) where
  abbrev whole : Expr → ℕ
  whole = amount number

  string_weighs : (text : Bytes) (x : Expr) → IsText x → whole (with_text text x) ≡ whole x
  string_weighs text (Token t) is = refl
  string_weighs text (Form' kind s parts s' items end split open_break comments) is = absurd (true≢false (sym is))

  pub weighs : Weighs whole
  weighs = record {
    form = λ f parts items split h i.
        form_amount number (made f.kind parts items f.seq.end split f.open_break f.comments)
        ∙ (both (λ a b. host_amount number f.comments + (a + (b + total number f.seq.end))) h i ∙ sym (form_amount number f));
    string = string_weighs;
  }

  -- ---- one list
  text_amount : (x : Expr) → IsText x → amount number x ≡ host_amount number (comments_of x)
  text_amount (Token t) h = refl
  text_amount (Form' kind s parts s' items end split open_break comments) h = cc

  above_amount : (a : List Bytes) (x : Expr) → IsText x → amount number (with_above a x) ≡ total number a + suffix_amount number (comments_of x).suffix
  above_amount a (Token t) h = refl
  above_amount a (Form' kind s parts s' items end split open_break comments) h = cc

  bare_host : (before : List Bytes) (suffix : Option Bytes) → (is_empty before && is_none suffix) ≡ true → total number before + suffix_amount number suffix ≡ 0
  bare_host [] None h = refl
  bare_host [] (Some s) h = cc
  bare_host (b ∷ bs) suffix h = cc

  unrepeated_total : (earlier : List Bytes) (xs : List Expr) → AllByRecursion IsText xs → total whole (without_repeats earlier xs) ≡ total whole xs
  unrepeated_total earlier [] h = refl
  unrepeated_total earlier (x ∷ xs) h = let more : total whole (without_repeats earlier xs) ≡ total whole xs = unrepeated_total earlier xs h.1 in elim (cases_Bool (has_no_comment x && list_any (bytes_eq (text_of x)) earlier)) [
    | inl t ↦
        let none : amount number x ≡ 0 = text_amount x h.0 ∙ bare_host (comments_of x).before (comments_of x).suffix (and_parts (has_no_comment x) _ t).0 in
        rw t (omega arith)
    | inr f ↦ rw f (ap (λ a. amount number x + a) (unrepeated_total (text_of x ∷ earlier) xs h.1))
  ]

  in_order_total : (xs : List Expr) → AllByRecursion IsText xs → total whole (in_order xs) ≡ total whole xs
  in_order_total xs h = unrepeated_total [] (sort_by precedes xs) (sort_all precedes IsText xs h) ∙ sort_total precedes whole xs

  unmarked_amount : (x : Expr) → IsText x → total number (keep_marks (above x)) + amount number (without_marks x) ≡ amount number x
  unmarked_amount x h =
      let a : amount number (without_marks x) ≡ total number (other_comments (above x)) + suffix_amount number (comments_of x).suffix = above_amount (other_comments (above x)) x h in
      let b : amount number x ≡ total number (above x) + suffix_amount number (comments_of x).suffix = text_amount x h in
      let s : total number (keep_marks (above x)) + total number (other_comments (above x)) ≡ total number (above x) =
      sym (append_total number (keep_marks (above x)) (other_comments (above x)))
      ∙ permuted_total number (above x) (keep_marks (above x) ++ other_comments (above x)) (IsPermutation-filter_both (is_marked keep_sorted) (λ c. not (is_marked keep_sorted c)) (λ c. refl) (above x)) in
      omega arith

  ahead_amount : (marks : List Bytes) (x : Expr) → IsText x → amount number (with_above (marks ++ above x) x) ≡ total number marks + amount number x
  ahead_amount marks x h =
      let a : amount number (with_above (marks ++ above x) x) ≡ total number (marks ++ above x) + suffix_amount number (comments_of x).suffix = above_amount (marks ++ above x) x h in
      let b : amount number x ≡ total number (above x) + suffix_amount number (comments_of x).suffix = text_amount x h in
      let s : total number (marks ++ above x) ≡ total number marks + total number (above x) = append_total number marks (above x) in
      omega arith

  -- the comments that move are counted where they come to
  moved_total : (front : List Expr) (x : Expr) (rest : List Expr) → IsText x → AllByRecursion IsText (front ++ x ∷ rest) → total whole (with_marks_moved front x rest) ≡ total whole (front ++ x ∷ rest)
  moved_total [] x rest own h = refl
  moved_total (y ∷ front) x rest own h =
      let marks : List Bytes = keep_marks (above x) in
      let a : amount number (with_above (marks ++ above y) y) ≡ total number marks + amount number y = ahead_amount marks y h.0 in
      let b : total number marks + amount number (without_marks x) ≡ amount number x = unmarked_amount x own in
      let old : total whole (front ++ x ∷ rest) ≡ total whole front + (amount number x + total whole rest) = append_total whole front (x ∷ rest) in
      let new : total whole (front ++ without_marks x ∷ rest) ≡ total whole front + (amount number (without_marks x) + total whole rest) = append_total whole front (without_marks x ∷ rest) in
      omega arith

  sorted_total : (xs : List Expr) → AllByRecursion IsText xs → total whole (sorted xs) ≡ total whole xs
  sorted_total [] h = refl
  sorted_total (x ∷ xs) h =
      let m : MovesMarks x xs = marks_move x xs in
      let all : AllByRecursion IsText (in_order (x ∷ xs)) = unrepeated_all IsText [] (sort_by precedes (x ∷ xs)) (sort_all precedes IsText (x ∷ xs) h) in
      ap (total whole) m.moved
      ∙ (moved_total m.front x m.rest h.0 (subst (AllByRecursion IsText) m.placed all) ∙ (ap (total whole) (sym m.placed) ∙ in_order_total (x ∷ xs) h))

  list_total : (outside : List Bytes) (b : Bool) → SameTotal whole (settled_list outside b)
  list_total outside b xs =
      by_case (λ ys. total whole ys ≡ total whole xs) (is_taken outside b xs) (sorted xs) xs (λ t. sorted_total xs (taken_texts outside b xs t)) (λ f. refl)

-- ---- comments

pub passed_comments : (text : Bytes) (items : List Item) → times text (passed items) ≡ times text items
passed_comments text = passed_total (amount (one_if text)) (weighs (one_if text)) (item_amount (one_if text)) (λ x. refl) (list_total (one_if text))

pub flags_comments : (text : Bytes) (items : List Item) → times text (flags items) ≡ times text items
flags_comments text = flags_total (amount (one_if text)) (weighs (one_if text)) (item_amount (one_if text)) (λ x. refl)
