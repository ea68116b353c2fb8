-- The tables of attributes. Each is said once; `is_in` is the test for all of them.
use Rattle.std.specs.Prelude.{ℕ, Bool, not, ◌&&◌, ◌||◌, ◌+◌, List, [], ◌∷◌, codes, length, Option, Some, None, position}
use Rattle.std.specs.List.{list_any}
use Rattle.std.specs.Str.{bytes_eq}
use Rattle.bz_items.specs.Characters.{Bytes}

abbrev pub is_in : List Bytes → Bytes → Bool
is_in table name = list_any (bytes_eq name) table

-- the attributes whose lists are sorted
abbrev pub sorted_attributes : List Bytes
sorted_attributes = codes "compatible_with" ∷ codes "data" ∷ codes "deps" ∷ codes "exports" ∷ codes "hdrs"
    ∷ codes "implementation_deps" ∷ codes "runtime_deps" ∷ codes "srcs"
    ∷ codes "tags" ∷ codes "textual_hdrs" ∷ codes "visibility" ∷ []

-- they are sorted in every kind, except srcs of genrule
abbrev pub is_sorted : Bytes → Bytes → Bool
is_sorted kind attribute = is_in sorted_attributes attribute
    && not (bytes_eq kind (codes "genrule") && bytes_eq attribute (codes "srcs"))

-- the attributes whose texts are labels, in every kind: the sorted ones without tags
abbrev pub is_label_attribute : Bytes → Bool
is_label_attribute attribute = is_in sorted_attributes attribute && not (bytes_eq attribute (codes "tags"))

-- further attributes whose values are lists
abbrev pub further_lists : List Bytes
further_lists = codes "copts" ∷ codes "defines" ∷ codes "features"
    ∷ codes "includes" ∷ codes "linkopts" ∷ codes "outs" ∷ []

-- the attributes that `set` gives a list, in every kind: the sorted ones and those
abbrev pub is_list_attribute : Bytes → Bool
is_list_attribute attribute = is_in sorted_attributes attribute || is_in further_lists attribute

-- the arguments of a rule that come first, in this order, and those that come last
abbrev pub first_arguments : List Bytes
first_arguments = codes "name" ∷ codes "size" ∷ codes "timeout" ∷ codes "testonly"
    ∷ codes "src" ∷ codes "srcs" ∷ codes "out" ∷ codes "outs" ∷ codes "hdrs" ∷ []

abbrev pub last_arguments : List Bytes
last_arguments = codes "exports" ∷ codes "runtime_deps" ∷ codes "deps" ∷ codes "alwayslink" ∷ []

-- the place among the last arguments, after all that are in neither table
abbrev pub later_priority : Option ℕ → ℕ
later_priority (Some place) = length first_arguments + 1 + place
later_priority None = length first_arguments

abbrev pub priority_at : Option ℕ → Option ℕ → ℕ
priority_at (Some place) _ = place
priority_at None later = later_priority later

-- the first arguments are 0 to 8, all others 9, the last ones 10 to 13
abbrev pub priority_of : Bytes → ℕ
priority_of attribute = priority_at (position (bytes_eq attribute) first_arguments)
    (position (bytes_eq attribute) last_arguments)
