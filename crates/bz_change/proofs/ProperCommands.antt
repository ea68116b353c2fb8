-- What is set is a value.
use Rattle.bz_change.proofs.Words.{[], ◌||◌, ◌∷◌, ◌≡◌, all_kept, and_parts, AreArguments, AreUtf8, attribute, AttributeExists, Attributes, Attributes as t, by_case, by_test, Bytes, bytes_eq, Class as c, codes, copy, copy_no_overwrite, Each, equal_texts, Err, Expr, false, first_that_kept, Grammar, has_attribute, identifiers_are_names, IfSome, if◌then◌else◌, inl, inr, is_attribute, is_constant, is_decimal, is_list_attribute, is_other_attribute, is_set, IsAttribute, IsDigits, IsItem, IsLexeme, IsUtf8, IsValue, Keeps, Kind as k, length, List, list_all, list_of, list_value, Made, map, nat_lt, new_value, NoAttribute, NoSource, not, of_value, Ok, on_first, on_first_that, on_row, Option, option_map_or, or_cases, put, put_kept, refl, remove, rename, set, set_if_absent, setting, single_setting, string_of, string_strung, string_text, string_value, subst, sym, token, token_new, true, true≢false, whole, with_text, without_kept, words_are_items}
use Rattle.std.specs.Char.{is_ascii_digit}
use Rattle.bz_token.specs.Bytes.{is_digit}
use Rattle.bz_grammar.specs.Shapes as s
use Rattle.bz_rule.proofs.ProperArguments.{argument_changed, name_kept}

-- ---- what is set

pub constant_name : (word : Bytes) → is_constant word ≡ true → IsLexeme c.Name word
constant_name word h = elim (or_cases (bytes_eq word (codes "True")) (bytes_eq word (codes "False") || bytes_eq word (codes "None")) h) [
  | inl a ↦ subst (IsLexeme c.Name) (sym (equal_texts word (codes "True") a)) ((identifiers_are_names (codes "True")).0 refl)
  | inr b ↦ elim (or_cases (bytes_eq word (codes "False")) (bytes_eq word (codes "None")) b) [
    | inl a ↦ subst (IsLexeme c.Name) (sym (equal_texts word (codes "False") a)) ((identifiers_are_names (codes "False")).0 refl)
    | inr a ↦ subst (IsLexeme c.Name) (sym (equal_texts word (codes "None") a)) ((identifiers_are_names (codes "None")).0 refl)
  ]
]

each_digit : (word : Bytes) → list_all is_ascii_digit word ≡ true → Each is_digit word
each_digit [] h = tt
each_digit (byte ∷ word) h = let w = and_parts (is_ascii_digit byte) (list_all is_ascii_digit word) h in (w.0, each_digit word w.1)

pub digits : (word : Bytes) → is_decimal word ≡ true → IsDigits word
digits [] h = absurd (true≢false (sym h))
digits (byte ∷ word) h = let w = and_parts (nat_lt 0 (length (byte ∷ word))) (list_all is_ascii_digit (byte ∷ word)) h in each_digit (byte ∷ word) w.1

module _ (grammar : Grammar) where
  single_value : (current attribute word : Bytes) → IsUtf8 word → IsValue grammar (single_setting current attribute word)
  single_value current attribute word u =
      by_case (IsValue grammar) (is_constant word) (token c.Name word) (if is_decimal word then token c.Number word else string_of current attribute word)
      (λ h. new_value grammar (token c.Name word) (token_new grammar c.Name word (constant_name word h) u) refl)
      (λ n. by_case (IsValue grammar) (is_decimal word) (token c.Number word) (string_of current attribute word)
      (λ h. new_value grammar (token c.Number word) (token_new grammar c.Number word (whole word (digits word h)) u) refl)
      (λ m. string_value grammar (string_text current attribute word) (string_strung current attribute word u)))

  many_value : (current attribute : Bytes) (words : List Bytes) → AreUtf8 words → IsValue grammar (list_of (map (string_of current attribute) words))
  many_value current attribute words u = list_value grammar (map (string_of current attribute) words) (words_are_items grammar current attribute words u)

  setting_value : (current attribute : Bytes) (words : List Bytes) → AreUtf8 words → IsValue grammar (setting current attribute words)
  setting_value current attribute [] u = many_value current attribute [] u
  setting_value current attribute (word ∷ []) u =
      by_test (IsValue grammar) (is_list_attribute attribute) (list_of (string_of current attribute word ∷ [])) (single_setting current attribute word)
      (many_value current attribute (word ∷ []) u) (single_value current attribute word u.0)
  setting_value current attribute (word ∷ other ∷ words) u = many_value current attribute (word ∷ other ∷ words) u

  -- ---- what each command on whole attributes makes of the arguments of a rule is arguments

  -- ---- set

  pub set_keeps : (current name : Bytes) (words : List Bytes) → IsAttribute name → AreUtf8 words → Keeps grammar (set current name words)
  set_keeps current name words a u xs h =
      let new : Expr = setting current name words in
      by_test (AreArguments grammar) (option_map_or (is_set new) (attribute name xs) false) xs (put name new xs) h (put_kept grammar name new xs a (setting_value current name words u) h)

  pub set_if_absent_keeps : (current name : Bytes) (words : List Bytes) → IsAttribute name → AreUtf8 words → Keeps grammar (set_if_absent current name words)
  set_if_absent_keeps current name words a u xs h = by_test (Made grammar) (has_attribute name xs) (Ok xs) (set current name words xs) h (set_keeps current name words a u xs h)

  -- ---- remove

  pub remove_keeps : (attributes : Attributes) → Keeps grammar (remove attributes)
  remove_keeps t.All xs h = all_kept (IsItem grammar s.argument) (λ x. not (is_other_attribute x)) xs h
  remove_keeps (t.Named name) xs h = without_kept grammar name xs h

  -- ---- rename and copy

  pub rename_keeps : (from to : Bytes) → IsAttribute to → Keeps grammar (rename from to)
  rename_keeps from to a xs h =
      let change : List Expr → List Expr = on_first (with_text to) in
      let new : List Expr = on_first_that (is_attribute from) (on_row k.Named change) xs in
      by_test (Made grammar) (not (has_attribute from xs)) (Err NoAttribute) (if has_attribute to xs then Err AttributeExists else Ok new) tt
      (by_test (Made grammar) (has_attribute to xs) (Err AttributeExists) (Ok new) tt
      (first_that_kept (IsItem grammar s.argument) (is_attribute from) (on_row k.Named change) (argument_changed grammar change (name_kept grammar to ((identifiers_are_names to).0 a.0) a.1)) xs h))

  pub copy_keeps : (name : Bytes) (found : Option Expr) → IsAttribute name → IfSome found (IsValue grammar) → Keeps grammar (copy name found)
  copy_keeps name found a v xs h = of_value grammar found (Err NoSource) (λ value. Ok (put name value xs)) v tt (λ value v. put_kept grammar name value xs a v h)

  pub copy_no_overwrite_keeps : (name : Bytes) (found : Option Expr) → IsAttribute name → IfSome found (IsValue grammar) → Keeps grammar (copy_no_overwrite name found)
  copy_no_overwrite_keeps name found a v xs h = by_test (Made grammar) (has_attribute name xs) (Ok xs) (copy name found xs) h (copy_keeps name found a v xs h)
