-- Adding what is there.
use Rattle.bz_list.proofs.Words.{[], ◌&&◌, ◌++◌, ◌||◌, ◌∙◌, ◌∷◌, ◌≡◌, and_from, and_parts, any_alone, any_in_sum, ap, append-nil, are_one, Arguments, attribute, attribute_changed, attribute_new, binds_looser, body_of, body_quoted, Bool, both, by_absent, by_case, by_test, by_there, Bytes, bytes_eq, cases_Bool, cleared, codes, equal_self, Err, Expr, false, filter, flat_map, fresh, has_attribute, has_kind, has_lists, if_either, if_false, if_true, if◌then◌else◌, in_sum, inl, inr, is_colon, is_empty, is_empty_list, is_escaped, is_item, is_label_attribute, is_no_list, is_nonempty, is_own, is_same, is_shortened, is_some, is_some_item, IsPlain, items_changed, items_filled, items_hidden-the_row-Expr-0, items_in, items_kind, items_of, items_same, Kind as k, List, list_all, list_any, list_any-append, list_of, listed, lists_there, map, mark, node, node_parts, None, not, not-true, NotAList, Ok, on_first_that, on_items, on_lists, on_row, operand, Option, option_map_or, or-false, or_assoc, or_cases, or_left, or_parts, or_right, parts_filled, parts_kind, parts_of, plus, refl, remove_values, row_changed, row_same, same_exactly, same_made, shortened, shortened_in, Some, string_of, strings_added, subst, sum_no_list, sym, true, true≢false, value_with, with_items, with_items_added, with_more, with_new, with_parts, with_strings, with_value, with_value_same, without, without_items, without_new}
use Rattle.bz_command_syntax.specs.declared.command.Selects.TheVariants.{Skipped}
use Rattle.bz_list.specs.Laws.{AddedAgain, become_plain, are_there, AddedIsThere, RemovedAgain}
use Rattle.bz_label.specs.Shorter.{before_colon, after_colon, is_repeated, unrepeated}
use Rattle.bz_label.proofs.Shorter.{shortened_same}
use Rattle.bz_list.proofs.{KnownSteps.meant_alike, ListedForms.added_found, ListedForms.some_lists}
use Rattle.std.proofs.lemmas.Grind.{flat_map-append}

-- what further items make of an attribute that is there
abbrev pub grown : Bytes → (List Expr → List Expr) → List Expr → Expr → Arguments
grown name added arguments value =
    if has_lists Skipped value then Ok (with_value name (with_more (added (items_in Skipped value)) value) arguments)
    else (if is_no_list value then Err NotAList else Ok (with_value name (plus value (list_of (added []))) arguments))

added_absent : (name : Bytes) (added : List Expr → List Expr) (xs : List Expr) → has_attribute name xs ≡ false → with_items_added name added xs ≡ Ok (with_new name (list_of (added [])) xs)
added_absent name added xs h = by_absent (attribute name xs) (Ok (with_new name (list_of (added [])) xs)) (grown name added xs) h

-- ---- no further items

none_fresh : (current name : Bytes) (items : List Expr) (words : List Bytes) → list_all (λ word. list_any (is_item current name word) items) words ≡ true → fresh current name items [] words ≡ []
none_fresh current name items [] h = refl
none_fresh current name items (word ∷ words) h =
    let p = and_parts (list_any (is_item current name word) items) (list_all (λ other. list_any (is_item current name other) items) words) h in
    if_true (list_any (are_one current name word) [] || list_any (is_item current name word) items) (fresh current name items [] words) (word ∷ fresh current name items (word ∷ []) words) p.0
    ∙ none_fresh current name items words p.1

first_that_same : (test : Expr → Bool) (change : Expr → Expr) → ((x : Expr) → change x ≡ x) → (xs : List Expr) → on_first_that test change xs ≡ xs
first_that_same test change f [] = refl
first_that_same test change f (x ∷ xs) =
    if_either (test x) (change x ∷ xs) (x ∷ on_first_that test change xs) (x ∷ xs) (ap (λ z. z ∷ xs) (f x)) (ap (λ zs. x ∷ zs) (first_that_same test change f xs))

list_more_none : (x : Expr) → on_items k.List (λ items. items ++ []) x ≡ x
list_more_none x = items_same k.List (λ items. items ++ []) x (append-nil (items_of x))

pub more_none : (value : Expr) → with_more [] value ≡ value
more_none value =
    let change : Expr → Expr = on_items k.List (λ items. items ++ []) in
    if_either (has_kind k.Sum value) (on_row k.Sum (on_first_that (has_kind k.List) change) value) (change value) value
    (row_same k.Sum (on_first_that (has_kind k.List) change) value (first_that_same (has_kind k.List) change list_more_none (parts_of value))) (list_more_none value)

-- the value whose lists have all words stays
pub with_strings_same : (current name : Bytes) (words : List Bytes) (value : Expr) → are_there current name words value ≡ true → with_strings current name words value ≡ value
with_strings_same current name words value t =
    ap (λ (strings : List Bytes). with_more (map (string_of current name) strings) value) (none_fresh current name (items_in Skipped value) words t) ∙ more_none value

pub adding_again : AddedAgain
adding_again current name words xs value e l t =
    let added : List Expr → List Expr = strings_added current name words in
    added_found name added xs value e
    ∙ (if_false (is_no_list value) (Err NotAList) _ (some_lists value l)
    ∙ (ap (λ b. Ok (with_value name (if b then with_more (added (items_in Skipped value)) value else plus value (list_of (added []))) xs)) l
    ∙ ap Ok (ap (λ v. with_value name v xs) (with_strings_same current name words value t) ∙ with_value_same name value xs e)))

-- ---- a shorter label of a plain word

before_plain : (text : Bytes) → IsPlain text → IsPlain (before_colon text)
before_plain [] h = refl
before_plain (byte ∷ text) h =
    let p = or_parts (is_escaped byte) (list_any is_escaped text) h in
    by_test IsPlain (is_colon byte) [] (byte ∷ before_colon text) refl (both (λ x y. x || y) p.0 (before_plain text p.1))

after_plain : (text : Bytes) → IsPlain text → IsPlain (after_colon text)
after_plain [] h = refl
after_plain (byte ∷ text) h =
    let p = or_parts (is_escaped byte) (list_any is_escaped text) h in
    by_test IsPlain (is_colon byte) text (after_colon text) p.1 (after_plain text p.1)

unrepeated_plain : (text : Bytes) → IsPlain text → IsPlain (unrepeated text)
unrepeated_plain text h = by_test IsPlain (is_repeated (before_colon text) (after_colon text)) (before_colon text) text (before_plain text h) h

shortened_plain : (current text : Bytes) → IsPlain text → IsPlain (shortened current text)
shortened_plain current text h =
    by_test IsPlain (is_own current text) (codes ":" ++ after_colon text) (unrepeated text) (after_plain text h) (unrepeated_plain text h)

word_plain : (current attribute word : Bytes) → IsPlain word → IsPlain (shortened_in current attribute word)
word_plain current attribute word h = by_test IsPlain (is_label_attribute attribute) (shortened current word) word (shortened_plain current word h) h

-- ---- what a word means

shorter_is_one : (label : Bool) (current word : Bytes)
    → (if label then is_same current word (if label then shortened current word else word) else bytes_eq word (if label then shortened current word else word)) ≡ true
shorter_is_one true current word = (same_exactly current word (shortened current word)).1 (shortened_same current word (shortened current word) (is_shortened current word))
shorter_is_one false current word = equal_self word

-- the string that a plain word becomes is the item that the word means
pub word_is_item : (current attribute word : Bytes) → IsPlain word → is_item current attribute word (string_of current attribute word) ≡ true
word_is_item current attribute word h =
    let short : Bytes = shortened_in current attribute word in
    ap (λ (found : Option Bytes). option_map_or (are_one current attribute word) found false) (body_quoted short (word_plain current attribute word h))
    ∙ shorter_is_one (is_label_attribute attribute) current word

body_on : (current attribute word other : Bytes) → are_one current attribute word other ≡ true → (found : Option Bytes) → option_map_or (are_one current attribute other) found false ≡ true
    → option_map_or (are_one current attribute word) found false ≡ true
body_on current attribute word other h None i = i
body_on current attribute word other h (Some text) i = meant_alike current attribute word other text h ∙ i

-- what a word that means the same as another means is what the other means
pub item_on : (current attribute word other : Bytes) → are_one current attribute word other ≡ true → (x : Expr) → is_item current attribute other x ≡ true → is_item current attribute word x ≡ true
item_on current attribute word other h x i = body_on current attribute word other h (body_of x) i

-- ---- a new list

pub list_items : (xs : List Expr) → items_of (list_of xs) ≡ xs
list_items xs = items_hidden-the_row-Expr-0 xs

-- the items of a value that is a new list
pub items_list : (xs : List Expr) → items_in Skipped (list_of xs) ≡ xs
items_list xs = append-nil (items_of (list_of xs)) ∙ list_items xs

-- ---- words

-- the word is one of these items
abbrev pub IsThere : Bytes → Bytes → List Expr → Bytes → Type 0
IsThere current name all word = list_any (is_item current name word) all ≡ true

-- where some items are, and the strings of the words that are fresh beside them, all words are
module _ (current name : Bytes) (items all : List Expr) (stay : (word : Bytes) → IsThere current name items word → IsThere current name all word) where
  abbrev AreThere : List Bytes → Type 0
  AreThere words = (word : Bytes) → IsThere current name (map (string_of current name) words) word → IsThere current name all word

  words_there : (earlier words : List Bytes) → become_plain words ≡ true → ((word : Bytes) → list_any (are_one current name word) earlier ≡ true → IsThere current name all word)
      → AreThere (fresh current name items earlier words) → list_all (λ word. list_any (is_item current name word) all) words ≡ true
  words_there earlier [] plain before fresh_there = refl
  words_there earlier (word ∷ words) plain before fresh_there =
      let p = and_parts (not (list_any is_escaped word)) (become_plain words) plain in
      let known : Bool = list_any (are_one current name word) earlier || list_any (is_item current name word) items in
      let less : List Bytes = fresh current name items earlier words in
      let more : List Bytes = fresh current name items (word ∷ earlier) words in
      let there : Bytes → Bool = λ other. list_any (is_item current name other) all in
      elim (cases_Bool known) [
        | inl t ↦
            let this : IsThere current name all word = elim (or_cases (list_any (are_one current name word) earlier) (list_any (is_item current name word) items) t) [
              | inl h ↦ before word h
              | inr h ↦ stay word h
            ] in
            and_from (there word) (list_all there words) this (words_there earlier words p.1 before (subst AreThere (if_true known less (word ∷ more) t) fresh_there))
        | inr n ↦
            let string : Expr = string_of current name word in
            let meant : is_item current name word string ≡ true = word_is_item current name word (not-true (list_any is_escaped word) p.0) in
            let both_there : AreThere (word ∷ more) = subst AreThere (if_false known less (word ∷ more) n) fresh_there in
            let here : (other : Bytes) → is_item current name other string ≡ true → IsThere current name all other =
            λ other h. both_there other (or_left (is_item current name other string) (list_any (is_item current name other) (map (string_of current name) more)) h) in
            and_from (there word) (list_all there words) (here word meant) (words_there (word ∷ earlier) words p.1
            (λ other h. elim (or_cases (are_one current name other word) (list_any (are_one current name other) earlier) h) [
              | inl one ↦ here other (item_on current name other word one string meant)
              | inr h ↦ before other h
            ])
            (λ other h. both_there other (or_right (is_item current name other string) (list_any (is_item current name other) (map (string_of current name) more)) h)))
      ]

-- ---- further items at the end of the first list

abbrev longer : List Expr → Expr → Expr
longer more = on_items k.List (λ items. items ++ more)

any_longer : (test : Expr → Bool) (more : List Expr) (x : Expr) → has_kind k.List x ≡ true → list_any test (listed (longer more x)) ≡ (list_any test (listed x) || list_any test more)
any_longer test more x w =
    let y : Expr = with_items (items_of x ++ more) x in
    ap (λ z. list_any test (listed z)) (items_changed k.List (λ items. items ++ more) x w)
    ∙ (ap (list_any test) (if_true (has_kind k.List y) (items_of y) [] (items_kind k.List (items_of x ++ more) x ∙ w) ∙ items_filled k.List (items_of x ++ more) x w)
    ∙ (list_any-append test (items_of x) more ∙ ap (λ xs. list_any test xs || list_any test more) (sym (if_true (has_kind k.List x) (items_of x) [] w))))

or_moved : (a b d : Bool) → ((a || d) || b) ≡ ((a || b) || d)
or_moved true b d = refl
or_moved false true true = refl
or_moved false true false = refl
or_moved false false true = refl
or_moved false false false = refl

-- where the change of the first that passes brings one more answer, the answer of all is that or the one before
any_grown : {X : Type 0} (first within : X → Bool) (change : X → X) (more : Bool) → ((x : X) → first x ≡ true → within (change x) ≡ (within x || more)) → (xs : List X) → list_any first xs ≡ true
    → list_any within (on_first_that first change xs) ≡ (list_any within xs || more)
any_grown first within change more grows [] h = absurd (true≢false (sym h))
any_grown first within change more grows (x ∷ xs) h = elim (cases_Bool (first x)) [
  | inl w ↦ rw w (rw (grows x w) (or_moved (within x) (list_any within xs) more))
  | inr n ↦ rw n (rw (any_grown first within change more grows xs (rw n at h)) (sym (or_assoc (within x) (list_any within xs) more)))
]

any_more : (test : Expr → Bool) (more : List Expr) (value : Expr) → has_lists Skipped value ≡ true → list_any test (items_in Skipped (with_more more value)) ≡ (list_any test (items_in Skipped value) || list_any test more)
any_more test more value l =
    let change : List Expr → List Expr = on_first_that (has_kind k.List) (longer more) in
    let any : Bool = list_any (has_kind k.List) (parts_of value) in
    let within : Expr → Bool = λ x. list_any test (listed x) in
    elim (cases_Bool (has_kind k.Sum value)) [
      | inl w ↦
          let y : Expr = with_parts (change (parts_of value)) value in
          let some : any ≡ true = sym (both (λ a b. a || (b && any)) (sum_no_list value w) w) ∙ (sym (lists_there value) ∙ l) in
          ap (λ z. list_any test (items_in Skipped z)) (if_true (has_kind k.Sum value) (on_row k.Sum change value) (longer more value) w ∙ row_changed k.Sum change value w)
          ∙ (any_in_sum test y (parts_kind k.Sum (change (parts_of value)) value ∙ w)
          ∙ (ap (list_any within) (parts_filled k.Sum (change (parts_of value)) value w)
          ∙ (any_grown (has_kind k.List) within (longer more) (list_any test more) (any_longer test more) (parts_of value) some
          ∙ ap (λ b. b || list_any test more) (sym (any_in_sum test value w)))))
      | inr n ↦
          let list : has_kind k.List value ≡ true = sym (or-false (has_kind k.List value)) ∙ (sym (ap (λ b. has_kind k.List value || (b && any)) n) ∙ (sym (lists_there value) ∙ l)) in
          let alone : has_kind k.Sum (longer more value) ≡ false =
          ap (has_kind k.Sum) (items_changed k.List (λ items. items ++ more) value list) ∙ (items_kind k.Sum (items_of value ++ more) value ∙ n) in
          ap (λ z. list_any test (items_in Skipped z)) (if_false (has_kind k.Sum value) (on_row k.Sum change value) (longer more value) n)
          ∙ (any_alone test (longer more value) alone ∙ (any_longer test more value list ∙ ap (λ b. b || list_any test more) (sym (any_alone test value n))))
    ]

-- ---- a list after a value that has none

none_listed : (xs : List Expr) → list_any (has_kind k.List) xs ≡ false → flat_map listed xs ≡ []
none_listed [] h = refl
none_listed (x ∷ xs) h =
    let p = or_parts (has_kind k.List x) (list_any (has_kind k.List) xs) h in
    both (λ ys zs. ys ++ zs) (if_false (has_kind k.List x) (items_of x) [] p.0) (none_listed xs p.1)

-- a sign and a list
abbrev pub following : List Expr → List Expr
following items = mark (codes "+") ∷ list_of items ∷ []

items_after : (items : List Expr) → flat_map listed (following items) ≡ items
items_after items = append-nil (items_of (list_of items)) ∙ list_items items

no_operand : (value : Expr) → has_kind k.List value ≡ false → has_kind k.List (operand value) ≡ false
no_operand value n = by_case (λ (x : Expr). has_kind k.List x ≡ false) (binds_looser value) (node k.Paren (mark (codes "(") ∷ value ∷ mark (codes ")") ∷ [])) value (λ b. refl) (λ b. n)

items_plus : (value : Expr) (items : List Expr) → has_lists Skipped value ≡ false → items_in Skipped (plus value (list_of items)) ≡ items
items_plus value items h =
    let any : Bool = list_any (has_kind k.List) (parts_of value) in
    let none = or_parts (has_kind k.List value) (has_kind k.Sum value && any) (sym (lists_there value) ∙ h) in
    let more : List Expr → List Expr = λ parts. parts ++ following items in
    let ps : List Expr = operand value ∷ following items in
    by_case (λ (x : Expr). items_in Skipped x ≡ items) (has_kind k.Sum value) (on_row k.Sum more value) (node k.Sum ps)
    (λ w.
    let y : Expr = with_parts (more (parts_of value)) value in
    let no : any ≡ false = sym (ap (λ b. b && any) w) ∙ none.1 in
    ap (items_in Skipped) (row_changed k.Sum more value w)
    ∙ (sym (in_sum y (parts_kind k.Sum (more (parts_of value)) value ∙ w))
    ∙ (ap (flat_map listed) (parts_filled k.Sum (more (parts_of value)) value w)
    ∙ (flat_map-append listed (parts_of value) (following items) ∙ both (λ xs ys. xs ++ ys) (none_listed (parts_of value) no) (items_after items)))))
    (λ m.
    sym (in_sum (node k.Sum ps) refl)
    ∙ (ap (flat_map listed) (node_parts k.Sum ps)
    ∙ both (λ xs ys. xs ++ ys) (if_false (has_kind k.List (operand value)) (items_of (operand value)) [] (no_operand value none.0)) (items_after items)))

-- ---- what was added

made_if : (b : Bool) (made new : List Expr) → ◌≡◌ {A = Arguments} (if b then Err NotAList else Ok made) (Ok new) → made ≡ new
made_if true made new e = cc
made_if false made new e = cc

-- the words are items of the attribute's lists
abbrev AreAdded : Bytes → Bytes → List Bytes → List Expr → Type 0
AreAdded current name words new = option_map_or (are_there current name words) (attribute name new) false ≡ true

are_added : (current name : Bytes) (words : List Bytes) (xs new : List Expr) (value : Expr) → xs ≡ new → attribute name xs ≡ Some value → are_there current name words value ≡ true → AreAdded current name words new
are_added current name words xs new value same found there =
    ap (λ zs. option_map_or (are_there current name words) (attribute name zs) false) (sym same)
    ∙ (ap (λ (o : Option Expr). option_map_or (are_there current name words) o false) found ∙ there)

-- in a list or a sum that grows
pub there_more : (current name : Bytes) (words : List Bytes) (value : Expr) → become_plain words ≡ true → has_lists Skipped value ≡ true
    → are_there current name words (with_strings current name words value) ≡ true
there_more current name words value p l =
    let more : List Expr = strings_added current name words (items_in Skipped value) in
    words_there current name (items_in Skipped value) (items_in Skipped (with_more more value))
    (λ word h. any_more (is_item current name word) more value l ∙ ap (λ b. b || list_any (is_item current name word) more) h) [] words p (λ word h. absurd (true≢false (sym h)))
    (λ word h. any_more (is_item current name word) more value l ∙ or_right (list_any (is_item current name word) (items_in Skipped value)) (list_any (is_item current name word) more) h)

-- in a new list
pub there_new : (current name : Bytes) (words : List Bytes) (value : Expr) → become_plain words ≡ true → items_in Skipped value ≡ strings_added current name words [] → are_there current name words value ≡ true
there_new current name words value p e =
    words_there current name [] (items_in Skipped value) (λ word h. absurd (true≢false (sym h))) [] words p (λ word h. absurd (true≢false (sym h))) (λ word h. ap (list_any (is_item current name word)) e ∙ h)

pub added_is_there : AddedIsThere
added_is_there current name words xs new plain e = found_or_new (attribute name xs) refl
  where
    strings : List Expr → List Expr
    strings = strings_added current name words

    there_with : (value : Expr) → are_there current name words (value_with strings value) ≡ true
    there_with value =
        by_case (λ made. are_there current name words made ≡ true) (has_lists Skipped value) (with_more (strings (items_in Skipped value)) value) (plus value (list_of (strings [])))
        (there_more current name words value plain)
        (λ n. there_new current name words (plus value (list_of (strings []))) plain (items_plus value (strings []) n))

    found_or_new : (found : Option Expr) → attribute name xs ≡ found → AreAdded current name words new
    found_or_new None d =
        let value : Expr = list_of (strings []) in
        let absent : has_attribute name xs ≡ false = ap (λ (o : Option Expr). is_some o) d in
        are_added current name words (with_new name value xs) new value (same_made (with_new name value xs) new _ (added_absent name strings xs absent) e) (attribute_new name value xs absent)
        (there_new current name words value plain (items_list (strings [])))
    found_or_new (Some value) d =
        let made : Expr = value_with strings value in
        are_added current name words (with_value name made xs) new made (made_if (is_no_list value) (with_value name made xs) new (sym (added_found name strings xs value d) ∙ e))
        (attribute_changed name value made xs d) (there_with value)

-- ---- removing what was added to an absent attribute

-- the strings of words are items that the words mean, so none of them is left
none_left : (current name : Bytes) (all earlier words : List Bytes) → become_plain words ≡ true → ((x : Expr) → is_some_item current name words x ≡ true → is_some_item current name all x ≡ true)
    → filter (λ x. not (is_some_item current name all x)) (map (string_of current name) (fresh current name [] earlier words)) ≡ []
none_left current name all earlier [] plain f = refl
none_left current name all earlier (word ∷ words) plain f =
    let p = and_parts (not (list_any is_escaped word)) (become_plain words) plain in
    let string : Expr = string_of current name word in
    let none : List Bytes → List Expr = λ ws. filter (λ x. not (is_some_item current name all x)) (map (string_of current name) ws) in
    let less : List Bytes = fresh current name [] earlier words in
    let more : List Bytes = fresh current name [] (word ∷ earlier) words in
    let rest : (x : Expr) → is_some_item current name words x ≡ true → is_some_item current name all x ≡ true = λ x h. f x (or_right (is_item current name word x) (is_some_item current name words x) h) in
    let meant : is_some_item current name all string ≡ true =
    f string (or_left (is_item current name word string) (is_some_item current name words string) (word_is_item current name word (not-true (list_any is_escaped word) p.0))) in
    by_test (λ (ws : List Bytes). none ws ≡ []) (list_any (are_one current name word) earlier || list_any (is_item current name word) []) less (word ∷ more)
    (none_left current name all earlier words p.1 rest)
    (if_false (not (is_some_item current name all string)) (string ∷ none more) (none more) (ap not meant) ∙ none_left current name all (word ∷ earlier) words p.1 rest)

-- the first word is fresh where nothing is there
some_made : (current name : Bytes) (words : List Bytes) → is_nonempty words ≡ true → become_plain words ≡ true → list_any (is_some_item current name words) (strings_added current name words []) ≡ true
some_made current name [] h plain = absurd (true≢false (sym h))
some_made current name (word ∷ words) h plain =
    let p = and_parts (not (list_any is_escaped word)) (become_plain words) plain in
    or_left _ _ (or_left (is_item current name word (string_of current name word)) _ (word_is_item current name word (not-true (list_any is_escaped word) p.0)))

emptied : (name : Bytes) (xs items : List Expr) → cleared name (with_items [] (list_of items)) xs ≡ without name xs
emptied name xs items =
    let value : Expr = with_items [] (list_of items) in
    if_true (is_empty_list value) (without name xs) (with_value name value xs) (ap (λ (ys : List Expr). is_empty ys) (items_filled k.List [] (list_of items) refl))

pub removing_again : RemovedAgain
removing_again current name words xs new absent full plain e =
    let items : List Expr = strings_added current name words [] in
    let value : Expr = list_of items in
    let ys : List Expr = with_new name value xs in
    let test : Expr → Bool = is_some_item current name words in
    let left : Expr → Bool = λ x. not (test x) in
    let same : ys ≡ new = same_made ys new _ (added_absent name (strings_added current name words) xs absent) e in
    let some : list_any test (items_in Skipped value) ≡ true = ap (list_any test) (items_list items) ∙ some_made current name words full plain in
    let none : filter left (items_of value) ≡ [] = ap (filter left) (list_items items) ∙ none_left current name words [] words plain (λ x h. h) in
    ap (remove_values Skipped current name words) (sym same)
    ∙ (by_there (attribute name ys) value (Ok ys) (λ v. if is_no_list v then Err NotAList else Ok (without_items Skipped name test v ys)) (attribute_new name value xs absent)
    ∙ ap Ok (if_true (list_any test (items_in Skipped value)) (cleared name (on_lists Skipped (filter left) value) ys) ys some
    ∙ (ap (λ zs. cleared name (with_items zs value) ys) none ∙ (emptied name ys items ∙ without_new name value xs absent))))
