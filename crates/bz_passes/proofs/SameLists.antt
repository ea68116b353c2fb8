-- A list that is sorted holds the strings that it held, and each pass changes no more of a program than it may.
use Rattle.bz_passes.proofs.Words.{[], ◌&&◌, ◌++◌, ◌∷◌, ◌≡◌, ◌⊎◌, above, All-from_recursion, AllByRecursion, and_parts, ap, argument_precedes, arguments_in, arith, Bool, by_case, Bytes, bytes_eq, bytes_eq-Decides, cases_Bool, Class as c, Contains, Expr, Form', has_class, has_kind, has_no_comment, HoldsTheStrings, in_order, inl, inr, is_run_load, is_taken, IsPermutation, IsPermutation-cons, IsPermutation-map, IsPermutation-middle, IsPermutation-refl, IsPermutation-sym, IsPermutation-trans, IsSameList, IsSorting, IsSortingByRuns, Item, keep_marks, Kind as k, labels_in, List, list_all, list_any, lists_in, loads, map, marked_by, name_precedes, on_taken, other_comments, passed, PassesKeepProgram, path_precedes, precedes, quotes_in, refl, settled_list, shorter_string, sort_by, sorted, subst, suc, sym, symbol_precedes, symbols_in, text_of, Token, true, with_above, with_double, without_marks, without_repeats}
use Rattle.bz_passes.proofs.{Listed.text_above, Listed.settled_anyway, Sorting.sort_same, SameSyntax.flags_program, ProperStrings.double_same, ProperStrings.shorter_same, Stable.sorting_is_the_one}

abbrev texts : List Expr → List Bytes
texts xs = map text_of xs

-- ---- elements

abbrev In : List Bytes → Bytes → Type 0
In [] t = ⊥
In (s ∷ ss) t = (s ≡ t) ⊎ In ss t

contained : (ss : List Bytes) (t : Bytes) → In ss t → Contains ss t
contained [] t h = absurd h
contained (s ∷ ss) t (inl e) = (0, omega arith, e)
contained (s ∷ ss) t (inr h) = let i = contained ss t h in (suc i.0, omega (arith, i.1), i.2)

found : (t : Bytes) (ss : List Bytes) → list_any (bytes_eq t) ss ≡ true → In ss t
found t [] h = cc
found t (s ∷ ss) h = elim (cases_Bool (bytes_eq t s)) [
  | inl w ↦ inl (sym ((bytes_eq-Decides t s).0 w))
  | inr w ↦ let h' : list_any (bytes_eq t) ss ≡ true = rw w at h in inr (found t ss h')
]

-- ---- dropping repeats

-- ys is xs but for texts that are gone, each of which is an earlier one or is in ys
record Leaves (earlier : List Bytes) (xs ys : List Expr) : Type 0 where
  gone : List Bytes
  same : IsPermutation (texts xs) (texts ys ++ gone)
  repeats : AllByRecursion (λ t. In earlier t ⊎ In (texts ys) t) gone

moved : (earlier : List Bytes) (t : Bytes) (ss : List Bytes) (u : Bytes) → In (t ∷ earlier) u ⊎ In ss u → In earlier u ⊎ In (t ∷ ss) u
moved earlier t ss u (inl (inl e)) = inr (inl e)
moved earlier t ss u (inl (inr i)) = inl i
moved earlier t ss u (inr i) = inr (inr i)

after_kept : (earlier : List Bytes) (t : Bytes) (ss gone : List Bytes) → AllByRecursion (λ u. In (t ∷ earlier) u ⊎ In ss u) gone → AllByRecursion (λ u. In earlier u ⊎ In (t ∷ ss) u) gone
after_kept earlier t ss [] h = tt
after_kept earlier t ss (u ∷ us) h = (moved earlier t ss u h.0, after_kept earlier t ss us h.1)

dropped : (earlier : List Bytes) (x : Expr) (xs ys : List Expr) → In earlier (text_of x) → Leaves earlier xs ys → Leaves earlier (x ∷ xs) ys
dropped earlier x xs ys i l = record {
  gone = text_of x ∷ l.gone;
  same = IsPermutation-trans (text_of x ∷ texts xs) (text_of x ∷ (texts ys ++ l.gone)) (texts ys ++ text_of x ∷ l.gone)
      (IsPermutation-cons (text_of x) (texts xs) (texts ys ++ l.gone) l.same)
      (IsPermutation-sym (texts ys ++ text_of x ∷ l.gone) (text_of x ∷ (texts ys ++ l.gone)) (IsPermutation-middle (texts ys) (text_of x) l.gone));
  repeats = (inl i, l.repeats);
}

kept : (earlier : List Bytes) (x : Expr) (xs ys : List Expr) → Leaves (text_of x ∷ earlier) xs ys → Leaves earlier (x ∷ xs) (x ∷ ys)
kept earlier x xs ys l = record {
  gone = l.gone;
  same = IsPermutation-cons (text_of x) (texts xs) (texts ys ++ l.gone) l.same;
  repeats = after_kept earlier (text_of x) (texts ys) l.gone l.repeats;
}

unrepeated_leaves : (earlier : List Bytes) (xs : List Expr) → Leaves earlier xs (without_repeats earlier xs)
unrepeated_leaves earlier [] = record { gone = []; same = IsPermutation-refl []; repeats = tt }
unrepeated_leaves earlier (x ∷ xs) =
    by_case (Leaves earlier (x ∷ xs)) (has_no_comment x && list_any (bytes_eq (text_of x)) earlier) (without_repeats earlier xs) (x ∷ without_repeats (text_of x ∷ earlier) xs)
    (λ t. dropped earlier x xs (without_repeats earlier xs) (found (text_of x) earlier (and_parts (has_no_comment x) _ t).1) (unrepeated_leaves earlier xs))
    (λ f. kept earlier x xs (without_repeats (text_of x ∷ earlier) xs) (unrepeated_leaves (text_of x ∷ earlier) xs))

-- ---- a list in order

-- the same of lists of texts
record Held (ss ts : List Bytes) : Type 0 where
  gone : List Bytes
  same : IsPermutation ss (ts ++ gone)
  repeats : AllByRecursion (In ts) gone

only : (ts : List Bytes) (u : Bytes) → In [] u ⊎ In ts u → In ts u
only ts u (inl none) = absurd none
only ts u (inr i) = i

none_earlier : (ts gone : List Bytes) → AllByRecursion (λ t. In [] t ⊎ In ts t) gone → AllByRecursion (In ts) gone
none_earlier ts [] h = tt
none_earlier ts (u ∷ us) h = (only ts u h.0, none_earlier ts us h.1)

in_order_held : (xs : List Expr) → Held (texts xs) (texts (in_order xs))
in_order_held xs =
    let l = unrepeated_leaves [] (sort_by precedes xs) in
    record {
      gone = l.gone;
      same = IsPermutation-trans (texts xs) (texts (sort_by precedes xs)) (texts (in_order xs) ++ l.gone) (IsPermutation-map text_of xs (sort_by precedes xs) (sort_same precedes xs)) l.same;
      repeats = none_earlier (texts (in_order xs)) l.gone l.repeats;
    }

marked_texts : (marks : List Bytes) (xs : List Expr) → texts (marked_by marks xs) ≡ texts xs
marked_texts marks [] = refl
marked_texts marks (x ∷ xs) = ap (λ t. t ∷ texts xs) (text_above (marks ++ above x) x)

sorted_held : (xs : List Expr) → Held (texts xs) (texts (sorted xs))
sorted_held [] = record { gone = []; same = IsPermutation-refl []; repeats = tt }
sorted_held (x ∷ xs) = elim (cases_Bool (list_any (λ y. precedes y x) xs)) [
  | inl w ↦ rw w (subst (λ ts. Held (texts (x ∷ xs)) ts) (sym (marked_texts (keep_marks (above x)) (in_order (without_marks x ∷ xs))))
      (subst (λ t. Held (t ∷ texts xs) (texts (in_order (without_marks x ∷ xs)))) (text_above (other_comments (above x)) x) (in_order_held (without_marks x ∷ xs))))
  | inr w ↦ rw w (in_order_held (x ∷ xs))
]

-- ---- strings

abbrev pub IsText : Expr → Type 0
IsText x = has_class c.String x ≡ true

pub class_above : (a : List Bytes) (x : Expr) → IsText x → IsText (with_above a x)
class_above a (Token t) h = h
class_above a (Form' kind s parts s' items end split open_break comments) h = h

all_texts : (xs : List Expr) → list_all (has_class c.String) xs ≡ true → AllByRecursion IsText xs
all_texts [] h = tt
all_texts (x ∷ xs) h = ((and_parts (has_class c.String x) _ h).0, all_texts xs (and_parts (has_class c.String x) (list_all (has_class c.String) xs) h).1)

-- a list that is to be sorted has strings alone
pub taken_texts : (outside : List Bytes) (by_table : Bool) (xs : List Expr) → is_taken outside by_table xs ≡ true → AllByRecursion IsText xs
taken_texts outside by_table xs t = all_texts xs (and_parts _ (list_all (has_class c.String) xs) (and_parts _ _ t).0).1

contained_all : (ts gone : List Bytes) → AllByRecursion (In ts) gone → AllByRecursion (Contains ts) gone
contained_all ts [] h = tt
contained_all ts (u ∷ us) h = (contained ts u h.0, contained_all ts us h.1)

holds : (old new : List Expr) → AllByRecursion IsText new → Held (texts old) (texts new) → HoldsTheStrings old new
holds old new strings h = record {
  strings = All-from_recursion IsText new strings;
  gone = h.gone;
  same = h.same;
  repeats = All-from_recursion (Contains (texts new)) h.gone (contained_all (texts new) h.gone h.repeats);
}

pub list_same : (outside : List Bytes) (by_table : Bool) (xs : List Expr) → IsSameList (is_taken outside by_table xs) xs (settled_list outside by_table xs)
list_same outside by_table xs = elim (cases_Bool (is_taken outside by_table xs)) [
  | inl w ↦
      let strings : AllByRecursion IsText xs = taken_texts outside by_table xs w in
      let still : AllByRecursion IsText (settled_list outside by_table xs) = settled_anyway IsText class_above outside by_table xs strings in
      let still' : AllByRecursion IsText (sorted xs) = rw w at still in
      rw w (holds xs (sorted xs) still' (sorted_held xs))
  | inr w ↦ rw w refl
]

arguments_sorted : (xs : List Expr) → IsSortingByRuns (has_kind k.Named) name_precedes xs (sort_by argument_precedes xs)
arguments_sorted xs = (sorting_is_the_one.2 xs (sort_by argument_precedes xs)).1 refl

symbols_sorted : (xs : List Expr) → IsSorting symbol_precedes xs (sort_by symbol_precedes xs)
symbols_sorted xs = (sorting_is_the_one.1 xs (sort_by symbol_precedes xs)).1 refl

loads_sorted : (xs : List Item) → IsSortingByRuns is_run_load path_precedes xs (loads xs)
loads_sorted xs = (sorting_is_the_one.3 xs (loads xs)).1 refl

pub passed_program : (items : List Item) → PassesKeepProgram items (passed items)
passed_program items =
    let quoted : List Item = on_taken quotes_in items in
    let labelled : List Item = on_taken labels_in quoted in
    let listed : List Item = on_taken lists_in labelled in
    let arranged : List Item = on_taken arguments_in listed in
    let named : List Item = on_taken symbols_in arranged in
    record {
      quoted = quoted;
      labelled = labelled;
      listed = listed;
      arranged = arranged;
      named = named;
      loaded = loads named;
      quotes = record { change = with_double; each = double_same; same = refl };
      labels = record { change = shorter_string; each = shorter_same; same = refl };
      lists = record { change = settled_list; each = list_same; same = refl };
      arguments = record { change = sort_by argument_precedes; each = arguments_sorted; same = refl };
      symbols = record { change = sort_by symbol_precedes; each = symbols_sorted; same = refl };
      loads = loads_sorted named;
      flags = flags_program (loads named);
    }
