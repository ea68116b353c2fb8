-- What each command on dicts makes of the arguments of a rule is arguments; and which of them take no comment away.
use Rattle.bz_change.proofs.Words.{[], ◌&&◌, ◌++◌, ◌∙◌, ◌∷◌, ◌≡◌, ◌≤◌, Add, All-nil, all_joined, all_kept, AreArguments, AreOf, AreSome, AreUtf8, arith, as_token, attribute, by_case, by_test, Bytes, call_new, Change, Class as c, codes, dict_add, dict_list_add, dict_of, dict_remove, dict_replace_if_equal, dict_set, each_item, EachIs, entries_put, Entry, entry_changed, entry_made, entry_put, entry_with, Err, Expr, false, false_from_ne_true, first_that_kept, Form', Grammar, has_attribute, has_key, has_kind, has_some_key, identifiers_are_names, if_false, if_true, if◌then◌else◌, is_constant, is_decimal, is_empty, is_item, is_list_attribute, is_select_set, is_spelled, IsAttribute, IsEntry, IsItem, IsNew, IsUtf8, IsValue, item_within, items_again, items_apart, items_in, items_of, Keeps, KeepsForms, KeepsRow, Kind as k, List, list_any, list_new, list_of, list_put, Made, map, mark, new_part, new_value, none_there, not, NotADict, NotAList, of_attribute, of_found, Ok, on_dict, on_entry, on_first_that, on_items, on_third, option_map_or, put, put_kept, quoted_of, quoted_string, refl, refuses_items, row_proper, row_within, Select, select_of, sequence_in_place, Set, set_select, setting, single_setting, Stays, string_of, string_strung, string_text, strings_added, subst, sym, Token, token, token_new, total, true≢false, value_again, value_in_place, value_made, value_replaced, value_shape, whole as whole_number, with_dict_left, with_new, with_new_kept, with_strings, with_text, with_value, with_value_kept, without, without_entries, without_kept, words_are_items, ℕ}
use Rattle.bz_command_syntax.specs.declared.command.Selects.TheVariants.{Skipped}
use Rattle.bz_attribute.specs.Made.{argument_of}
use Rattle.bz_attribute.proofs.Grown.{itself as grown_itself, in_turn, Grows, EachGrows, append_grows, first_that_grows, third_grows}
use Rattle.bz_attribute.proofs.GrownArguments.{whole, more_grows, on_row_grows, text_grows, on_items_grows, with_value_grows, inserted_grows, Grown}
use Rattle.bz_grammar.specs.Shapes as s
use Rattle.bz_grammar.specs.{Legal.IsNonterminal, Spots.Within, Spots.Spot}
use Rattle.bz_value.specs.{Comments.no_comments, Proper.IsComment, Proper.ProperExpr, Proper.comments_of, Proper.has_break, Proper.after_expr, Roots.root}
use Rattle.bz_value.specs.Roots as r
use Rattle.bz_value.proofs.{FormParts.ArePartsBy, FormParts.form_proper_by, LeadParts.lead_before}
use Rattle.bz_rule.proofs.ProperForms.{InPlace}
use Rattle.bz_rule.proofs.ProperSequences as sequences
use Rattle.bz_attribute.proofs.ProperTexts.{one_ascii}
use Rattle.bz_list.specs.Changes.{replaced_item}
use Rattle.bz_list.proofs.ProperCommands.{replaced_item_stays, strings_are_items, with_strings_stays}
use Rattle.bz_change.proofs.ProperCommands.{constant_name, digits}

module _ (number : Bytes → ℕ) (current name : Bytes) where
  entries_grow : (entries : List Entry) → EachGrows (whole number) (entries_put Add current name entries)
  entries_grow [] items = grown_itself (total (whole number) items)
  entries_grow (entry ∷ entries) items =
      let more : List Expr = entry_made Add current name entry ∷ [] in
      let first : List Expr = entry_put Add current name entry items in
      in_turn (total (whole number) items) (total (whole number) first) (total (whole number) (entries_put Add current name entries first))
      (by_test (λ (ys : List Expr). total (whole number) items ≤ total (whole number) ys) (list_any (has_key entry.key) items) (on_first_that (has_key entry.key) (λ x. x) items) (items ++ more)
      (first_that_grows (whole number) (has_key entry.key) (λ x. x) (λ x. grown_itself (whole number x)) items) (append_grows (whole number) more items))
      (entries_grow entries first)

  dict_grows : (change : List Expr → List Expr) → EachGrows (whole number) change → (xs : List Expr) → Grown number xs (on_dict name change xs)
  dict_grows change grows xs =
      of_found (Grown number xs) (attribute name xs) (Ok (with_new name (dict_of (change [])) xs)) (λ value. if has_kind k.Dict value then Ok (with_value name (on_items k.Dict change value) xs) else Err NotADict)
      (inserted_grows number (argument_of name (dict_of (change []))) xs)
      (λ value e. by_test (Grown number xs) (has_kind k.Dict value) (Ok (with_value name (on_items k.Dict change value) xs)) (Err NotADict)
      (with_value_grows number name value (on_items k.Dict change value) xs e (on_items_grows number k.Dict change grows value)) tt)

  pub dict_add_grows : (entries : List Entry) (xs : List Expr) → Grown number xs (dict_add current name entries xs)
  dict_add_grows entries = dict_grows (entries_put Add current name entries) (entries_grow entries)

  entry_grows : (change : Expr → Expr) → Grows (whole number) change → (key : Bytes) → EachGrows (whole number) (on_first_that (has_key key) (on_entry change))
  entry_grows change g key = first_that_grows (whole number) (has_key key) (on_entry change) (on_row_grows number k.Entry (on_third change) (third_grows (whole number) change g))

  token_grows : (new : Expr) → Grows (whole number) (as_token new)
  token_grows (Token t) (Token u) = grown_itself (whole number (Token u))
  token_grows (Token t) (Form' kind s parts s' items end split open_break comments) = grown_itself (whole number (Form' kind s parts s' items end split open_break comments))
  token_grows (Form' kind s parts s' items end split open_break comments) x = grown_itself (whole number x)

  replaced_grows : (old new : Bytes) → Grows (whole number) (value_replaced current name old new)
  replaced_grows old new x =
      let made : Expr = single_setting current name new in
      by_test (λ (y : Expr). whole number x ≤ whole number y) (is_item current name old x) (with_text (string_text current name new) x) (if is_spelled old x then as_token made x else x)
      (text_grows number (string_text current name new) x)
      (by_test (λ (y : Expr). whole number x ≤ whole number y) (is_spelled old x) (as_token made x) x (token_grows made x) (grown_itself (whole number x)))

  pub dict_replace_if_equal_grows : (key old new : Bytes) (xs : List Expr) → Grown number xs (dict_replace_if_equal current name key old new xs)
  dict_replace_if_equal_grows key old new xs =
      let change : List Expr → List Expr = on_first_that (has_key key) (on_entry (value_replaced current name old new)) in
      by_test (Grown number xs) (has_attribute name xs) (on_dict name change xs) (Ok xs)
      (dict_grows change (entry_grows (value_replaced current name old new) (replaced_grows old new) key) xs) (grown_itself (total (whole number) xs))

  list_grows : (key : Bytes) (words : List Bytes) → EachGrows (whole number) (list_put current name key words)
  list_grows key words items =
      let more : List Expr = entry_with key (list_of (strings_added current name words [])) ∷ [] in
      by_test (λ (ys : List Expr). total (whole number) items ≤ total (whole number) ys) (list_any (has_key key) items) (on_first_that (has_key key) (on_entry (with_strings current name words)) items) (items ++ more)
      (entry_grows (with_strings current name words) (λ x. more_grows number (strings_added current name words (items_in Skipped x)) x) key items) (append_grows (whole number) more items)

  pub dict_list_add_grows : (key : Bytes) (words : List Bytes) (xs : List Expr) → Grown number xs (dict_list_add current name key words xs)
  dict_list_add_grows key words xs =
      let change : List Expr → List Expr = list_put current name key words in
      by_test (Grown number xs) (option_map_or (refuses_items key) (attribute name xs) false) (Err NotAList) (on_dict name change xs) tt (dict_grows change (list_grows key words) xs)

  pub select_grows : (entries : List Entry) (xs : List Expr) → has_attribute name xs ≡ false → Grown number xs (set_select current name entries xs)
  select_grows entries xs absent =
      let new : Expr = select_of current name entries in
      by_test (λ (ys : List Expr). total (whole number) xs ≤ total (whole number) ys) (option_map_or (is_select_set new) (attribute name xs) false) xs (put name new xs)
      (grown_itself (total (whole number) xs))
      (subst (λ (ys : List Expr). total (whole number) xs ≤ total (whole number) ys) (sym (if_false (has_attribute name xs) (with_value name new xs) (with_new name new xs) absent))
      (inserted_grows number (argument_of name new) xs))

-- ---- what each command on dicts makes of the arguments of a rule is arguments

-- ---- new entries and new dicts

select_coded : IsUtf8 (codes "select")
unfolding lib.Utf8.encode
select_coded = (codes "select", (refl, refl))

module _ (grammar : Grammar) where
  -- what may be the value of an entry, wherever that is
  abbrev IsPart : Spot → Expr → Type 0
  IsPart here x = (ProperExpr grammar here x × IsNonterminal s.test (root x)) × (comments_of x ≡ no_comments) × (has_break x ≡ false)

  -- what is new may be one
  abbrev IsNewValue : Expr → Type 0
  IsNewValue x = IsNew grammar x × IsNonterminal s.test (root x)

  new_is_part : (here : Spot) (x : Expr) → IsNewValue x → IsPart here x
  new_is_part here x n = ((n.0.proper here, n.1), n.0.comments, n.0.breaks)

  string_new : (current name word : Bytes) → IsUtf8 word → IsNewValue (string_of current name word)
  string_new current name word u = let strung = string_strung current name word u in (token_new grammar c.String (string_text current name word) strung.0 strung.1, refl)

  single_new : (current name word : Bytes) → IsUtf8 word → IsNewValue (single_setting current name word)
  single_new current name word u =
      by_case IsNewValue (is_constant word) (token c.Name word) (if is_decimal word then token c.Number word else string_of current name word)
      (λ h. (token_new grammar c.Name word (constant_name word h) u, refl))
      (λ n. by_case IsNewValue (is_decimal word) (token c.Number word) (string_of current name word)
      (λ h. (token_new grammar c.Number word (whole_number word (digits word h)) u, refl)) (λ m. string_new current name word u))

  list_is_new : (items : List Expr) → AreOf grammar s.test items → IsNewValue (list_of items)
  list_is_new items h = (list_new grammar items h, refl)

  setting_new : (current name word : Bytes) → IsUtf8 word → IsNewValue (setting current name (word ∷ []))
  setting_new current name word u =
      by_test IsNewValue (is_list_attribute name) (list_of (string_of current name word ∷ [])) (single_setting current name word)
      (list_is_new (string_of current name word ∷ []) (words_are_items grammar current name (word ∷ []) (u, tt))) (single_new current name word u)

  value_new : (change : Change) (current name word : Bytes) → IsUtf8 word → IsNewValue (value_made change current name word)
  value_new Add current name word u = string_new current name word u
  value_new Set current name word u = string_new current name word u
  value_new Select current name word u = setting_new current name word u

  entry_item : (key : Bytes) (value : Expr) → IsUtf8 key → IsNewValue value → IsItem grammar s.entry (entry_with key value)
  entry_item key value u n =
      let word : Expr = token c.String (quoted_of key) in
      let colon : Expr = mark (codes ":") in
      let strung = quoted_string key u in
      let parts : ArePartsBy (value_shape grammar) false Within Within (word ∷ colon ∷ value ∷ []) =
      new_part grammar false Within Within word (colon ∷ value ∷ []) (token_new grammar c.String (quoted_of key) strung.0 strung.1)
      (new_part grammar false Within (after_expr Within Within word) colon (value ∷ []) (token_new grammar c.Mark (58 ∷ []) refl (one_ascii 58 (omega arith)))
      (new_part grammar false Within (after_expr Within (after_expr Within Within word) colon) value [] n.0 tt)) in
      ((row_proper grammar Within k.Entry (word ∷ colon ∷ value ∷ []) refl (refl, (refl, (n.1, tt))) parts, none_there, refl), refl)

  dict_value : (items : List Expr) → AreOf grammar s.entry items → IsValue grammar (dict_of items)
  dict_value items h =
      let new : IsNew grammar (dict_of items) = record {
        proper = λ here.
            form_proper_by (value_shape grammar) here (record { kind = k.Dict; parts = []; seq = record { items = items; end = []; split = false }; open_break = false; comments = no_comments })
            (refl, items_again grammar s.entry s.close_curly (r.mark_leaf 125) refl items h) (tt, each_item grammar s.entry s.close_curly (r.mark_leaf 125) items h, All-nil IsComment, refl);
        comments = refl;
        breaks = refl;
      } in
      new_value grammar (dict_of items) new refl

  -- ---- a dict with other entries

  -- a change of items that keeps what entries are
  abbrev KeepsEntries : (List Expr → List Expr) → Type 0
  KeepsEntries change = sequences.Keeps grammar s.entry change

  dict_items : (change : List Expr → List Expr) → KeepsEntries change → KeepsForms grammar k.Dict change
  dict_items change keeps here end split open_break [] xs h =
      let all : AreOf grammar s.entry (change xs) = keeps xs (items_apart grammar s.entry s.close_curly (r.mark_leaf 125) xs h.1.1 h.0.1) in
      ((h.0.0, items_again grammar s.entry s.close_curly (r.mark_leaf 125) refl (change xs) all), (h.1.0, each_item grammar s.entry s.close_curly (r.mark_leaf 125) (change xs) all, h.1.2, h.1.3))
  dict_items change keeps here end split open_break (p ∷ ps) xs h = let n = lead_before k.Dict (map root (p ∷ ps)) (map root xs) h.0 in absurd (omega arith)

  dict_in_place : (change : List Expr → List Expr) → KeepsEntries change → (x : Expr) → InPlace grammar x (on_items k.Dict change x)
  dict_in_place change keeps x = sequence_in_place grammar k.Dict refl change (dict_items change keeps) x

  -- ---- an entry with another value

  -- what a value may be, it may be with this change
  abbrev KeepsParts : (Expr → Expr) → Type 0
  KeepsParts change = (here : Spot) (x : Expr) → IsPart here x → IsPart here (change x)

  module _ (change : Expr → Expr) (keeps : KeepsParts change) where
    value_kept : KeepsRow grammar k.Entry (on_third change)
    value_kept end split open_break [] xs h = absurd h.0
    value_kept end split open_break (x ∷ []) xs h = absurd h.0.1
    value_kept end split open_break (x ∷ y ∷ []) xs h = absurd h.0.1.1
    value_kept end split open_break (x ∷ y ∷ v ∷ []) xs h =
        let g = h.1.0 in
        let here : Spot = after_expr Within (after_expr Within Within x) y in
        let unbroken : has_break v ≡ false = false_from_ne_true (has_break v) (λ b. true≢false (sym (g.3.3.2 b).0)) in
        let new : IsPart here (change v) = keeps here v ((g.3.3.0, h.0.1.1.0), g.3.3.1, unbroken) in
        let last : ArePartsBy (value_shape grammar) false Within here (change v ∷ []) = (new.0.0, new.1, λ b. absurd (true≢false (sym b ∙ new.2)), tt) in
        ((h.0.0, (h.0.1.0, (new.0.1, tt))), ((g.0, g.1, g.2, (g.3.0, g.3.1, g.3.2, last)), h.1.1, h.1.2, h.1.3, h.1.4))
    value_kept end split open_break (x ∷ y ∷ v ∷ w ∷ rest) xs h = absurd h.0.1.1.1

    value_changed : (x : Expr) → IsItem grammar s.entry x → IsItem grammar s.entry (on_entry change x)
    value_changed x = item_within grammar s.entry x (on_entry change x) (row_within grammar k.Entry refl (on_third change) value_kept x)

  -- another value, and a change that is one in place
  set_keeps_parts : (value : Expr) → IsNewValue value → KeepsParts (λ old. value)
  set_keeps_parts value n here x p = new_is_part here value n

  stays_keeps_parts : (change : Expr → Expr) → Stays grammar change → KeepsParts change
  stays_keeps_parts change stays here x p =
      let r = stays x in
      ((r.proper here p.0.0, sym (r.roots.nonterminal s.test) ∙ p.0.1), sym r.comments ∙ p.1, sym r.breaks ∙ p.2)

  token_keeps_parts : (new : Expr) → IsNewValue new → KeepsParts (as_token new)
  token_keeps_parts (Token t) n here (Token u) p = ((n.0.proper here, n.1), p.1, p.2)
  token_keeps_parts (Token t) n here (Form' kind s parts s' items end split open_break comments) p = p
  token_keeps_parts (Form' kind s parts s' items end split open_break comments) n here x p = p

  replaced_keeps_parts : (current name old new : Bytes) → IsUtf8 new → KeepsParts (value_replaced current name old new)
  replaced_keeps_parts current name old new u here x p =
      let made : Expr = single_setting current name new in
      by_case (IsPart here) (is_item current name old x) (with_text (string_text current name new) x) (if is_spelled old x then as_token made x else x)
      (λ is. subst (IsPart here) (if_true (is_item current name old x) (with_text (string_text current name new) x) x is)
      (stays_keeps_parts (replaced_item current name old new) (replaced_item_stays grammar current name old new u) here x p))
      (λ n. by_test (IsPart here) (is_spelled old x) (as_token made x) x (token_keeps_parts made (single_new current name new u) here x p) p)

  again_keeps_parts : (current name word : Bytes) → IsUtf8 word → KeepsParts (value_again current name word)
  again_keeps_parts current name word u here x p =
      by_test (IsPart here) (is_list_attribute name) (with_strings current name (word ∷ []) x) (setting current name (word ∷ []))
      (stays_keeps_parts (with_strings current name (word ∷ [])) (with_strings_stays grammar current name (word ∷ []) (u, tt)) here x p)
      (new_is_part here (setting current name (word ∷ [])) (setting_new current name word u))

  -- ---- the entries of a dict

  first_changed : (change : Expr → Expr) → KeepsParts change → (key : Bytes) → KeepsEntries (on_first_that (has_key key) (on_entry change))
  first_changed change keeps key items h = first_that_kept (IsItem grammar s.entry) (has_key key) (on_entry change) (value_changed change keeps) items h

  list_put_keeps : (current name key : Bytes) (words : List Bytes) → IsUtf8 key → AreUtf8 words → KeepsEntries (list_put current name key words)
  list_put_keeps current name key words u v items h =
      let strings : List Expr = strings_added current name words [] in
      let new : List Expr = entry_with key (list_of strings) ∷ [] in
      by_test (AreOf grammar s.entry) (list_any (has_key key) items) (on_first_that (has_key key) (on_entry (with_strings current name words)) items) (items ++ new)
      (first_changed (with_strings current name words) (stays_keeps_parts (with_strings current name words) (with_strings_stays grammar current name words v)) key items h)
      (all_joined (IsItem grammar s.entry) items new h (entry_item key (list_of strings) u (list_is_new strings (strings_are_items grammar current name words [] v)), tt))

  module _ (current name : Bytes) where
    entry_kept : (change : Change) (entry : Entry) → IsEntry entry → (x : Expr) → IsItem grammar s.entry x → IsItem grammar s.entry (entry_changed change current name entry x)
    entry_kept Add entry e x h = h
    entry_kept Set entry e x h = value_changed (λ old. string_of current name entry.value) (set_keeps_parts (string_of current name entry.value) (string_new current name entry.value e.1)) x h
    entry_kept Select entry e x h = value_changed (value_again current name entry.value) (again_keeps_parts current name entry.value e.1) x h

    entries_kept : (change : Change) (entries : List Entry) → EachIs IsEntry entries → KeepsEntries (entries_put change current name entries)
    entries_kept change [] e items h = h
    entries_kept change (entry ∷ entries) e items h =
        let changed : List Expr = on_first_that (has_key entry.key) (entry_changed change current name entry) items in
        let new : List Expr = entry_made change current name entry ∷ [] in
        entries_kept change entries e.1 (entry_put change current name entry items)
        (by_test (AreOf grammar s.entry) (list_any (has_key entry.key) items) changed (items ++ new)
        (first_that_kept (IsItem grammar s.entry) (has_key entry.key) (entry_changed change current name entry) (entry_kept change entry e.0) items h)
        (all_joined (IsItem grammar s.entry) items new h
        (entry_item entry.key (value_made change current name entry.value) e.0.0 (value_new change current name entry.value e.0.1), tt)))

  -- ---- the commands

  dict_changed : (name : Bytes) (change : List Expr → List Expr) → IsAttribute name → KeepsEntries change → Keeps grammar (on_dict name change)
  dict_changed name change a keeps xs h =
      let new : Expr = dict_of (change []) in
      of_attribute grammar name xs (Ok (with_new name new xs)) (λ value. if has_kind k.Dict value then Ok (with_value name (on_items k.Dict change value) xs) else Err NotADict) h
      (with_new_kept grammar name new xs a (dict_value (change []) (keeps [] tt)) h)
      (λ value v. by_test (Made grammar) (has_kind k.Dict value) (Ok (with_value name (on_items k.Dict change value) xs)) (Err NotADict)
      (with_value_kept grammar name (on_items k.Dict change value) xs (value_in_place grammar value (on_items k.Dict change value) (dict_in_place change keeps value) v) h) tt)

  pub dict_add_keeps : (current name : Bytes) (entries : List Entry) → IsAttribute name → AreSome IsEntry entries → Keeps grammar (dict_add current name entries)
  dict_add_keeps current name entries a e = dict_changed name (entries_put Add current name entries) a (entries_kept current name Add entries e.1)

  pub dict_set_keeps : (current name : Bytes) (entries : List Entry) → IsAttribute name → AreSome IsEntry entries → Keeps grammar (dict_set current name entries)
  dict_set_keeps current name entries a e = dict_changed name (entries_put Set current name entries) a (entries_kept current name Set entries e.1)

  pub dict_remove_keeps : (name : Bytes) (keys : List Bytes) → Keeps grammar (dict_remove name keys)
  dict_remove_keeps name keys xs h =
      let fewer : KeepsEntries (without_entries keys) = λ items. all_kept (IsItem grammar s.entry) (λ x. not (has_some_key keys x)) items in
      of_attribute grammar name xs (Ok xs) (λ value. if has_kind k.Dict value then Ok (with_dict_left name value (on_items k.Dict (without_entries keys) value) xs) else Err NotADict) h h
      (λ value v.
      let less : Expr = on_items k.Dict (without_entries keys) value in
      by_test (Made grammar) (has_kind k.Dict value) (Ok (with_dict_left name value less xs)) (Err NotADict)
      (by_test (AreArguments grammar) (is_empty (items_of less) && not (is_empty (items_of value))) (without name xs) (with_value name less xs) (without_kept grammar name xs h)
      (with_value_kept grammar name less xs (value_in_place grammar value less (dict_in_place (without_entries keys) fewer value) v) h))
      tt)

  pub dict_replace_if_equal_keeps : (current name key old new : Bytes) → IsAttribute name → IsUtf8 new → Keeps grammar (dict_replace_if_equal current name key old new)
  dict_replace_if_equal_keeps current name key old new a u xs h =
      let change : List Expr → List Expr = on_first_that (has_key key) (on_entry (value_replaced current name old new)) in
      by_test (Made grammar) (has_attribute name xs) (on_dict name change xs) (Ok xs)
      (dict_changed name change a (first_changed (value_replaced current name old new) (replaced_keeps_parts current name old new u) key) xs h) h

  pub dict_list_add_keeps : (current name key : Bytes) (words : List Bytes) → IsAttribute name → IsUtf8 key → AreUtf8 words → Keeps grammar (dict_list_add current name key words)
  dict_list_add_keeps current name key words a u v xs h =
      let change : List Expr → List Expr = list_put current name key words in
      by_test (Made grammar) (option_map_or (refuses_items key) (attribute name xs) false) (Err NotAList) (on_dict name change xs) tt
      (dict_changed name change a (list_put_keeps current name key words u v) xs h)

  -- ---- a select

  select_value : (current name : Bytes) (entries : List Entry) → AreSome IsEntry entries → IsValue grammar (select_of current name entries)
  select_value current name entries e =
      let items : List Expr = entries_put Select current name entries [] in
      let function : Expr = token c.Name (codes "select") in
      let named : IsNew grammar function = token_new grammar c.Name (codes "select") ((identifiers_are_names (codes "select")).0 refl) select_coded in
      let dict : IsValue grammar (dict_of items) = dict_value items (entries_kept current name Select entries e.1 [] tt) in
      new_value grammar (select_of current name entries)
      (call_new grammar function (dict_of items) (named.proper, (refl, refl), refl) (dict.0.0, refl)) refl

  pub set_select_keeps : (current name : Bytes) (entries : List Entry) → IsAttribute name → AreSome IsEntry entries → Keeps grammar (set_select current name entries)
  set_select_keeps current name entries a e xs h =
      let new : Expr = select_of current name entries in
      by_test (AreArguments grammar) (option_map_or (is_select_set new) (attribute name xs) false) xs (put name new xs) h (put_kept grammar name new xs a (select_value current name entries e) h)
