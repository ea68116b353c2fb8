-- What is known, and what it becomes.
use Rattle.bz_list.proofs.Words.{[], ◌&&◌, ◌++◌, ◌+◌, ◌<◌, ◌||◌, ◌∙◌, ◌∷◌, ◌≡◌, ◌≤◌, and_assoc, and_from, and_parts, any_inserted, any_like, ap, are_equal, are_one, are_one_key, at_drop_all, body_of, Bool, both, both_ways, BTreeSet, Bytes, bytes_eq, cases_Bool, chooses, drop, drop_more, equal_self, equal_texts, Expr, false, flat_map, fun_ext, get_or, if◌then◌else◌, inl, inr, is_eq, is_equal, is_label_attribute, is_same, is_some_item, key_by, knows_word, Label, label_in, length, List, list_any, list_any_none, listed, nat_cmp, None, not, Option, option_map_or, or_group, or_none, parts_of_key, refl, Some, sym, tied_then, true, true≢false, with_all, with_known, word_key, ℕ}
use Rattle.std.specs.{declared.cmp.Ordering.Ordering, Ordering.ordering_then, Ordering.bool_cmp, Cmp.Lexicographic.slice_cmp, BTreeMap.is_at, BTreeSet.insert_key}
use Rattle.std.proofs.lemmas.Map.Text.{is_eq-slice_cmp}
use Rattle.bz_list.specs.declared.known.Key.{Key}
use Rattle.bz_list.specs.contracts.known.KeyOrd.TheImpl as key_ord

-- ---- equal keys

abbrev same_flag : Bool → Bool → Bool
same_flag one other = if one then other else not other

flags_equal : (one other : Bool) → same_flag one other ≡ true → one ≡ other
flags_equal true other h = sym h
flags_equal false true h = absurd (true≢false (sym h))
flags_equal false false h = refl

equal_labels : (one other : Label) → is_equal one other ≡ true → one ≡ other
equal_labels one other h =
    let p = and_parts (bytes_eq one.repository other.repository && bytes_eq one.«package» other.«package») (bytes_eq one.name other.name) h in
    let q = and_parts (bytes_eq one.repository other.repository) (bytes_eq one.«package» other.«package») p.0 in
    ap (λ (x : Bytes). record { repository = x; «package» = one.«package»; name = one.name }) (equal_texts _ _ q.0)
    ∙ both (λ (x y : Bytes). record { repository = other.repository; «package» = x; name = y }) (equal_texts _ _ q.1) (equal_texts _ _ p.1)

equal_keys : (one other : Bool × Label) → are_one_key one other ≡ true → one ≡ other
equal_keys one other h =
    let p = and_parts (same_flag one.0 other.0) (is_equal one.1 other.1) h in
    both (λ (b : Bool) (label : Label). (b, label)) (flags_equal one.0 other.0 p.0) (equal_labels one.1 other.1 p.1)

own_flag : (flag : Bool) → same_flag flag flag ≡ true
own_flag true = refl
own_flag false = refl

own_key : (key : Bool × Label) → are_one_key key key ≡ true
own_key key =
    and_from _ _ (own_flag key.0) (and_from _ _ (and_from _ _ (equal_self key.1.repository) (equal_self key.1.«package»)) (equal_self key.1.name))

-- equal both ways
key_alike : (one other : Bool × Label) → are_one_key one other ≡ are_one_key other one
key_alike one other =
    both_ways (are_one_key one other) (are_one_key other one) (λ h. ap (λ key. are_one_key key one) (sym (equal_keys one other h)) ∙ own_key one)
    (λ h. ap (λ key. are_one_key key other) (sym (equal_keys other one h)) ∙ own_key other)

-- ---- words mean one value where their keys are equal

keys_apart : (word other : Bytes) (one two : Option Label) → bytes_eq word other ≡ false → are_equal one two ≡ are_one_key (key_by word one) (key_by other two)
keys_apart word other (Some one) (Some two) e = refl
keys_apart word other (Some one) None e = refl
keys_apart word other None (Some two) e = refl
keys_apart word other None None e = sym e

keys_by : (is_label : Bool) (current word other : Bytes) → (if is_label then is_same current word other else bytes_eq word other)
    ≡ are_one_key (key_by word (if is_label then label_in current word else None)) (key_by other (if is_label then label_in current other else None))
keys_by false current word other = refl
keys_by true current word other = elim (cases_Bool (bytes_eq word other)) [
  | inl w ↦ rw (equal_texts word other w) (rw (equal_self other) (sym (own_key (key_by other (label_in current other)))))
  | inr w ↦ rw w (keys_apart word other (label_in current word) (label_in current other) w)
]

alike_keys : (current attribute word other : Bytes) → are_one current attribute word other ≡ are_one_key (word_key current attribute word) (word_key current attribute other)
alike_keys current attribute word other = keys_by (is_label_attribute attribute) current word other

-- what means the same as another word means the same as any third one just where the other does
pub meant_alike : (current attribute word other third : Bytes) → are_one current attribute word other ≡ true → are_one current attribute word third ≡ are_one current attribute other third
meant_alike current attribute word other third h =
    alike_keys current attribute word third
    ∙ (ap (λ key. are_one_key key (word_key current attribute third)) (equal_keys _ _ (sym (alike_keys current attribute word other) ∙ h)) ∙ sym (alike_keys current attribute other third))

-- ---- the set of keys: what is found in it, and what it has after one key more

abbrev key_cmp : Key → Key → Ordering
key_cmp = (key_ord.ghosts).cmp

flag_ties : (one other : Bool) → is_eq (bool_cmp one other) ≡ same_flag one other
flag_ties true true = refl
flag_ties true false = refl
flag_ties false true = refl
flag_ties false false = refl

-- texts in turn
texts_tie : (one other : Bytes) (following : Ordering) → is_eq (ordering_then (slice_cmp nat_cmp one other) following) ≡ (bytes_eq one other && is_eq following)
texts_tie one other following = sym (tied_then (slice_cmp nat_cmp one other) following) ∙ ap (λ b. b && is_eq following) (is_eq-slice_cmp one other)

key_ties : (one other : Key) → is_eq (key_cmp one other) ≡ are_one_key (parts_of_key one) (parts_of_key other)
key_ties one other =
    let a : Bytes = one.repository.items in
    let b : Bytes = other.repository.items in
    let c : Bytes = one.«package».items in
    let d : Bytes = other.«package».items in
    sym (tied_then (bool_cmp one.is_label other.is_label) _)
    ∙ both (λ x y. x && y) (flag_ties one.is_label other.is_label)
    (texts_tie a b _ ∙ (ap (λ z. bytes_eq a b && z) (texts_tie c d _ ∙ ap (λ z. bytes_eq c d && z) (is_eq-slice_cmp one.name.items other.name.items))
    ∙ sym (and_assoc (bytes_eq a b) (bytes_eq c d) (bytes_eq one.name.items other.name.items))))

pub key_found : (current attribute word : Bytes) (set : BTreeSet Key) (key : Key) → parts_of_key key ≡ word_key current attribute word
    → list_any (is_at (key_cmp key)) set.keys ≡ knows_word current attribute set word
key_found current attribute word set key is =
    any_like (is_at (key_cmp key)) (λ other. are_one_key (word_key current attribute word) (parts_of_key other))
    (λ other. key_ties key other ∙ ap (λ parts. are_one_key parts (parts_of_key other)) is) set.keys

pub key_inserted : (current attribute word : Bytes) (old new : BTreeSet Key) (key : Key) → parts_of_key key ≡ word_key current attribute word → new.keys ≡ insert_key key_cmp old.keys key
    → knows_word current attribute new ≡ with_known current attribute (Some word) (knows_word current attribute old)
key_inserted current attribute word old new key is e = fun_ext (λ other.
    let test : Key → Bool = λ key. are_one_key (word_key current attribute other) (parts_of_key key) in
    ap (list_any test) e
    ∙ (any_inserted key_cmp test
    (λ one two tie. ap (are_one_key (word_key current attribute other)) (equal_keys (parts_of_key one) (parts_of_key two) (sym (key_ties one two) ∙ ap is_eq tie))) old.keys key
    ∙ ap (λ z. z || list_any test old.keys) (ap (are_one_key (word_key current attribute other)) is ∙ sym (alike_keys current attribute other word))))

pub key_again : (current attribute : Bytes) (old new : BTreeSet Key) → new.keys ≡ old.keys → knows_word current attribute new ≡ knows_word current attribute old
key_again current attribute old new e = ap (λ keys word. list_any (λ key. are_one_key (word_key current attribute word) (parts_of_key key)) keys) e

pub none_known : (current attribute : Bytes) (set : BTreeSet Key) → set.keys ≡ [] → knows_word current attribute set ≡ (λ word. false)
none_known current attribute set none = ap (λ keys word. list_any (λ key. are_one_key (word_key current attribute word) (parts_of_key key)) keys) none

-- ---- items and words

module _ {X : Type 0} (current attribute : Bytes) (text : X → Option Bytes) where
  -- what is known of all
  pub known_by : (found : Option Bytes) (known : Bytes → Bool) (word : Bytes) → with_known current attribute found known word ≡ (option_map_or (are_one current attribute word) found false || known word)
  known_by None known word = refl
  known_by (Some other) known word = refl

  pub all_known : (xs : List X) (known : Bytes → Bool) → with_all current attribute text xs known ≡ (λ word. list_any (λ x. option_map_or (are_one current attribute word) (text x) false) xs || known word)
  all_known [] known = refl
  all_known (x ∷ xs) known = all_known xs (with_known current attribute (text x) known) ∙ fun_ext (λ word.
      let all : Bool = list_any (λ x. option_map_or (are_one current attribute word) (text x) false) xs in
      ap (λ z. all || z) (known_by (text x) known word) ∙ or_group all (option_map_or (are_one current attribute word) (text x) false) (known word))

  more_known : (xs ys : List X) (known : Bytes → Bool) → with_all current attribute text (xs ++ ys) known ≡ with_all current attribute text ys (with_all current attribute text xs known)
  more_known [] ys known = refl
  more_known (x ∷ xs) ys known = more_known xs ys (with_known current attribute (text x) known)

pub lists_next : (current attribute : Bytes) (xs : List Expr) (k : ℕ) (d : Expr) (known : Bytes → Bool) → k < length xs
    → with_all current attribute body_of (flat_map listed (drop k xs)) known ≡ with_all current attribute body_of (flat_map listed (drop (k + 1) xs)) (with_all current attribute body_of (listed (get_or xs k d)) known)
lists_next current attribute xs k d known h =
    ap (λ ys. with_all current attribute body_of (flat_map listed ys) known) (drop_more xs k d h) ∙ more_known current attribute body_of (listed (get_or xs k d)) (flat_map listed (drop (k + 1) xs)) known

-- an item is one of the words, looked up by the body of a plain string
by_body : (current attribute : Bytes) (words : List Bytes) (found : Option Bytes)
    → option_map_or (λ other. list_any (are_one current attribute other) words || false) found false ≡ list_any (λ word. option_map_or (are_one current attribute word) found false) words
by_body current attribute words None = sym (list_any_none (λ (word : Bytes). false) words (λ k d l. refl))
by_body current attribute words (Some other) =
    or_none (list_any (are_one current attribute other) words)
    ∙ any_like (are_one current attribute other) (λ word. are_one current attribute word other)
    (λ word. alike_keys current attribute other word ∙ (key_alike (word_key current attribute other) (word_key current attribute word) ∙ sym (alike_keys current attribute word other))) words

-- the set of some words, after the last of them
pub chosen_words : (current attribute : Bytes) (words : List Bytes) (known : BTreeSet Key) (i : ℕ)
    → with_all current attribute (λ word. Some word) (drop i words) (knows_word current attribute known) ≡ with_all current attribute (λ word. Some word) words (λ word. false) → length words ≤ i
    → chooses current attribute (Some known) ≡ is_some_item current attribute words
chosen_words current attribute words known i e past =
    let none = at_drop_all (λ rest. with_all current attribute (λ word. Some word) rest (knows_word current attribute known)) words i past in
    fun_ext (λ x. ap (λ all. option_map_or all (body_of x) false) (sym none ∙ e ∙ all_known current attribute (λ word. Some word) words (λ word. false)) ∙ by_body current attribute words (body_of x))
