-- What the commands on lists know of the values of an attribute while they go through items and words: a set of keys, and what is
-- found in it.
use Rattle.std.specs.Prelude.{List, Bool, true, false, not, ◌||◌, ◌&&◌, [], ◌∷◌, Option, Some, None, if◌then◌else◌}
use Rattle.std.specs.List.{list_any}
use Rattle.std.specs.Option.{option_map_or}
use Rattle.bz_list.specs.Words.{Label, is_label_attribute, label_in, is_equal, Expr, Bytes, are_one}
use Rattle.bz_list.specs.declared.known.Key.{Key}
use Rattle.std.specs.BTreeSet.{BTreeSet}

-- the label that a word means in a label attribute, where it means one
abbrev pub label_meant : Bytes → Bytes → Bytes → Option Label
label_meant current attribute word = if is_label_attribute attribute then label_in current word else None

-- ---- keys: a word is known by the label that it means, or else as a name alone, which is no label

abbrev pub key_by : Bytes → Option Label → Bool × Label
key_by word (Some label) = (true, label)
key_by word None = (false, record { repository = []; «package» = []; name = word })

abbrev pub word_key : Bytes → Bytes → Bytes → Bool × Label
word_key current attribute word = key_by word (label_meant current attribute word)

abbrev pub are_one_key : Bool × Label → Bool × Label → Bool
are_one_key one other = (if one.0 then other.0 else not other.0) && is_equal one.1 other.1

abbrev pub parts_of_key : Key → Bool × Label
parts_of_key key = (key.is_label, record { repository = key.repository.items; «package» = key.«package».items; name = key.name.items })

-- ---- what is known, as a test of words

abbrev pub knows_word : Bytes → Bytes → BTreeSet Key → Bytes → Bool
knows_word current attribute known word = list_any (λ key. are_one_key (word_key current attribute word) (parts_of_key key)) known.keys

-- A thing is known by its text: a word by itself, an item by the body of a plain string; any other item is never known.
abbrev pub is_known : {X : Type 0} → (X → Option Bytes) → (Bytes → Bool) → X → Bool
is_known text known x = option_map_or known (text x) false

-- what is known with one text more, where there is one, and with the texts of some things
abbrev pub with_known : Bytes → Bytes → Option Bytes → (Bytes → Bool) → Bytes → Bool
with_known current attribute text known = option_map_or (λ word other. are_one current attribute other word || known other) text known

abbrev pub with_all : {X : Type 0} → Bytes → Bytes → (X → Option Bytes) → List X → (Bytes → Bool) → Bytes → Bool
with_all current attribute text [] known = known
with_all current attribute text (x ∷ xs) known = with_all current attribute text xs (with_known current attribute (text x) known)

-- what is made of those that are not known, each once
abbrev pub new_ones : {X : Type 0} → Bytes → Bytes → (X → Option Bytes) → (X → Expr) → (Bytes → Bool) → List X → List Expr
new_ones current attribute text made known [] = []
new_ones current attribute text made known (x ∷ xs) =
    if is_known text known x then new_ones current attribute text made known xs
    else made x ∷ new_ones current attribute text made (with_known current attribute (text x) known) xs
