-- Marks in comments; and the items of one list: whether they are sorted, and how.
use Rattle.std.specs.Prelude.{◌≡◌, ◌==◌, Bool, true, false, not, ◌&&◌, ◌||◌, List, [], ◌∷◌, ◌++◌, bytes_eq, codes, if◌then◌else◌, map}
use Rattle.std.specs.Char.{to_ascii_lowercase}
use Rattle.std.specs.List.{filter, list_any, list_all}
use Rattle.std.specs.Ordering.{is_lt}
use Rattle.bz_token.specs.declared.class.Class.TheVariants as c
use Rattle.bz_passes.specs.Words.{key_order, Expr, Bytes, comments_of, is_empty, is_none, has_class, text_of, above, with_above, between}
use Rattle.bz_passes.specs.Sorting.{sort_by}

-- ---- marks: texts that are sought in comments ignoring ASCII case

abbrev pub begins_with : Bytes → Bytes → Bool
begins_with [] s = true
begins_with (m ∷ mark) [] = false
begins_with (m ∷ mark) (c ∷ s) = m == c && begins_with mark s

abbrev pub stands_in : Bytes → Bytes → Bool
stands_in mark [] = false
stands_in mark (c ∷ s) = begins_with mark (c ∷ s) || stands_in mark s

abbrev pub is_marked : Bytes → Bytes → Bool
is_marked mark comment = stands_in mark (map to_ascii_lowercase comment)

abbrev pub any_marked : Bytes → List Bytes → Bool
any_marked mark comments = list_any (is_marked mark) comments

abbrev pub keep_sorted : Bytes
keep_sorted = codes "keep sorted"

abbrev pub keep_marks : List Bytes → List Bytes
keep_marks = filter (is_marked keep_sorted)

abbrev pub other_comments : List Bytes → List Bytes
other_comments = filter (λ c. not (is_marked keep_sorted c))

-- ---- lists

abbrev pub above_first : List Expr → List Bytes
above_first [] = []
above_first (x ∷ xs) = above x

-- Whether a list is sorted. `outside`: the comments above the attribute or the assignment; `by_table`: whether the table
-- has the attribute. `do not sort` beats all; a list is taken only where all its items are strings, and, without
-- `keep sorted`, only where no item has a comment above.
abbrev pub is_taken : List Bytes → Bool → List Expr → Bool
is_taken outside by_table xs =
    not (any_marked (codes "do not sort") (outside ++ above_first xs))
    && list_all (has_class c.String) xs
    && (any_marked keep_sorted (outside ++ above_first xs) || (by_table && not (list_any (λ x. not (is_empty (above x))) xs)))

-- the order of items: by the texts between their quote marks
abbrev pub precedes : Expr → Expr → Bool
precedes x y = is_lt (key_order (between (text_of x)) (between (text_of y)))

abbrev pub has_no_comment : Expr → Bool
has_no_comment x = is_empty (above x) && is_none (comments_of x).suffix

-- An item without comments whose token equals an earlier one's is dropped.
abbrev pub without_repeats : List Bytes → List Expr → List Expr
without_repeats earlier [] = []
without_repeats earlier (x ∷ xs) =
    if has_no_comment x && list_any (bytes_eq (text_of x)) earlier then without_repeats earlier xs
    else (x ∷ without_repeats (text_of x ∷ earlier) xs)

-- In order, with ties in their old order (the one such list: law `sorting_is_the_one`), and then without repeats.
abbrev pub in_order : List Expr → List Expr
in_order xs = without_repeats [] (sort_by precedes xs)

abbrev pub without_marks : Expr → Expr
without_marks x = with_above (other_comments (above x)) x

abbrev pub marked_by : List Bytes → List Expr → List Expr
marked_by marks [] = []
marked_by marks (x ∷ xs) = with_above (marks ++ above x) x ∷ xs

-- Items in order, comments travelling. Where another item comes first, it takes the `keep sorted` comments above the old
-- first one, ahead of its own; where the first item stays first, its comments stay as they are.
abbrev pub sorted : List Expr → List Expr
sorted [] = []
sorted (x ∷ xs) =
    if list_any (λ y. precedes y x) xs then marked_by (keep_marks (above x)) (in_order (without_marks x ∷ xs))
    else in_order (x ∷ xs)

abbrev pub settled_list : List Bytes → Bool → List Expr → List Expr
settled_list outside by_table xs = if is_taken outside by_table xs then sorted xs else xs

-- ---- where the `keep sorted` comments of a list go, said once more: it is as if the list were sorted and lost its repeats first, and
-- the comments moved then

-- The old first item after a front. With no front it stays as it is; else the first of the front takes its `keep sorted`
-- comments, ahead of its own.
abbrev pub with_marks_moved : List Expr → Expr → List Expr → List Expr
with_marks_moved [] x rest = x ∷ rest
with_marks_moved (y ∷ front) x rest = with_above (keep_marks (above x) ++ above y) y ∷ (front ++ without_marks x ∷ rest)

-- Sorted and without repeats, a list has its old first item after a front of items that come before it: it is never dropped
-- as a repeat. `sorted` is that list, its comments moved.
pub record MovesMarks (x : Expr) (xs : List Expr) : Type 0 where
  pub front : List Expr
  pub rest : List Expr
  pub placed : in_order (x ∷ xs) ≡ front ++ x ∷ rest
  pub before : list_all (λ y. precedes y x) front ≡ true
  pub moved : sorted (x ∷ xs) ≡ with_marks_moved front x rest

abbrev pub MarksMove : Type 0
MarksMove = (x : Expr) (xs : List Expr) → MovesMarks x xs
