-- What the texts that mean one value end with, so that most items are seen at their end to be none that a word means.
use Rattle.bz_list.proofs.Words.{[], ◌&&◌, ◌++◌, ◌-◌, ◌||◌, ◌∙◌, ◌≡◌, ◌⊎◌, any_like, any_listed, ap, append_assoc, are_one, body, body_of, Bool, Bytes, bytes_eq, Class as c, codes, ends_with, equal_texts, Expr, false, flat_map, Form', found_if, if◌then◌else◌, inl, inner, inr, is_class, is_item, is_item_ending, is_label_attribute, is_plain_in, is_same, is_slash, key_by, Label, label_exact, label_in, label_meant, label_of, length, List, list_any, listed, nat_eq, None, not, Option, option_and_then, option_map_or, read_label, refl, same_exactly, Some, suffix_len, sym, take, take-append-drop, text_of, Token, true, true≢false, unsigned_Decides, word_key}
use Rattle.std.proofs.lemmas.Slice.Eq.{ends_is}
use Rattle.bz_label.specs.Labels.{IsLabel, whole, package_alone, repository_alone, colon_name, bare_name}
use Rattle.bz_label.specs.declared.form.Parts.{Parts}
use Rattle.bz_items.specs.Characters.{apostrophe, quotation_mark}

-- ---- texts that mean one value end with one name

ends : (text front name : Bytes) → text ≡ front ++ name → ends_with nat_eq text name ≡ true
ends text front name e = (ends_is unsigned_Decides text name (ends_with nat_eq text name) refl).1 front e

-- a label ends with its name
label_ends : (current text : Bytes) (label : Label) → IsLabel current text label → ends_with nat_eq text label.name ≡ true
label_ends current text label (whole h) = ends text (label.repository ++ codes "//" ++ label.package ++ codes ":") label.name h.spelled
label_ends current text label (package_alone h) =
    let path : Bytes = label.package in
    let before : Bytes = label.repository ++ codes "//" in
    let front : Bytes = take (length path - suffix_len (λ x. not (is_slash x)) path) path in
    let cut : path ≡ front ++ label.name = sym (take-append-drop (length path - suffix_len (λ x. not (is_slash x)) path) path) ∙ ap (λ z. front ++ z) (sym h.name) in
    ends text (before ++ front) label.name (h.spelled ∙ (ap (λ z. before ++ z) cut ∙ sym (append_assoc before front label.name)))
label_ends current text label (repository_alone h) = ends text (codes "@") label.name h.spelled
label_ends current text label (colon_name h) = ends text (codes ":") label.name h.spelled
label_ends current text label (bare_name h) = ends text [] label.name h.spelled

-- texts that mean one value are equal, or labels with one name
ends_by : (b : Bool) (current word other : Bytes) → (if b then is_same current word other else bytes_eq word other) ≡ true
    → (word ≡ other) ⊎ ((label : Label) × ((if b then label_in current word else None) ≡ Some label) × IsLabel current other label)
ends_by false current word other h = inl (equal_texts word other h)
ends_by true current word other h = elim ((same_exactly current word other).0 h) [
  | inl same ↦ inl same
  | inr both ↦ inr (both.0, (label_exact current word both.0).0 both.1, both.2)
]

meant_ends : (b : Bool) (current word : Bytes) (label : Label) → (if b then label_in current word else None) ≡ Some label → ends_with nat_eq word label.name ≡ true
meant_ends true current word label h = label_ends current word label (read_label current word label (sym h))
meant_ends false current word label h = absurd cc

own_end : (current attribute word : Bytes) (found : Option Label) → label_meant current attribute word ≡ found → ends_with nat_eq word (key_by word found).1.name ≡ true
own_end current attribute word None e = ends word [] word refl
own_end current attribute word (Some label) e = meant_ends (is_label_attribute attribute) current word label e

-- what means the same as a word ends with the name in the word's key
key_ends : (current attribute word other : Bytes) → are_one current attribute word other ≡ true → ends_with nat_eq other (word_key current attribute word).1.name ≡ true
key_ends current attribute word other h = elim (ends_by (is_label_attribute attribute) current word other h) [
  | inl same ↦ ap (λ z. ends_with nat_eq z (word_key current attribute word).1.name) (sym same) ∙ own_end current attribute word (label_meant current attribute word) refl
  | inr both ↦ ap (λ found. ends_with nat_eq other (key_by word found).1.name) both.1 ∙ label_ends current other both.0 both.2
]

-- ---- what is between the quotation marks of a plain string is its body

body_inner : (b : Bool) (text other : Bytes) → option_and_then body (if b then Some text else None) ≡ Some other → inner text ≡ other
body_inner true text other e =
    let own : Some (inner text) ≡ Some other = (found_if (is_plain_in quotation_mark text || is_plain_in apostrophe text) (Some (inner text)) other e).1 in cc
body_inner false text other e = absurd cc

item_inner : (x : Expr) (other : Bytes) → body_of x ≡ Some other → inner (text_of x) ≡ other
item_inner (Token t) other e = body_inner (is_class t.class c.String) t.text other e
item_inner (Form' kind s parts s' items end split open_break comments) other e = absurd cc

some_found : (test : Bytes → Bool) (found : Option Bytes) → option_map_or test found false ≡ true → (other : Bytes) × (found ≡ Some other) × (test other ≡ true)
some_found test None h = absurd (true≢false (sym h))
some_found test (Some other) h = (other, refl, h)

implied : (b c : Bool) → (c ≡ true → b ≡ true) → (b && c) ≡ c
implied true c f = refl
implied false true f = f refl
implied false false f = refl

item_ending : (current attribute word end : Bytes) → ((other : Bytes) → are_one current attribute word other ≡ true → ends_with nat_eq other end ≡ true) → (x : Expr)
    → is_item_ending current attribute word end x ≡ is_item current attribute word x
item_ending current attribute word end f x =
    implied (ends_with nat_eq (inner (text_of x)) end) (is_item current attribute word x)
    (λ h. let w = some_found (are_one current attribute word) (body_of x) h in ap (λ z. ends_with nat_eq z end) (item_inner x w.0 w.1) ∙ f w.0 w.2)

-- whether a word means an item of lists, by its end
pub in_lists : (current attribute word : Bytes) (operands : List Expr) (is_label : Bool) (parts : Parts) → word_key current attribute word ≡ (is_label, label_of parts)
    → list_any (λ x. list_any (is_item_ending current attribute word parts.name.now) (listed x)) operands ≡ list_any (is_item current attribute word) (flat_map listed operands)
in_lists current attribute word operands is_label parts read =
    sym (any_listed (is_item_ending current attribute word parts.name.now) operands)
    ∙ any_like (is_item_ending current attribute word parts.name.now) (is_item current attribute word)
    (item_ending current attribute word parts.name.now (λ other h. ap (λ key. ends_with nat_eq other key.1.name) (sym read) ∙ key_ends current attribute word other h)) (flat_map listed operands)
