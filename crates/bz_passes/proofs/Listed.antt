-- The items of one list, sorted: sorted again they stay; what is kept of them; flags are not seen; where its old first item and the marks go.
use Rattle.bz_passes.proofs.Words.{[], ◌&&◌, ◌++◌, ◌||◌, ◌∙◌, ◌∷◌, ◌≡◌, above, above_first, all_kept, AllByRecursion, and_from, and_right, any_marked, ap, beq, between, Bool, by_case, by_test, Bytes, bytes_eq, bytes_eq-Decides, cases_Bool, Climbs, codes, comments_of, Expr, false, false_from_ne_true, filter, Form', fun_ext, has_class, has_no_comment, HostComments, if◌then◌else◌, in_order, inl, inr, insert, insert_by, is_empty, is_lt, is_marked, is_none, is_passed, is_taken, IsStrictWeakOrder, keep_marks, keep_sorted, key_order, key_total, List, list_all, list_any, list_any-IsPermutation, map, marked_by, MovesMarks, NoneBefore, not, or_from, or_parts, other_comments, precedes, ranks_by, refl, Rises, settled_list, sort_by, sorted, subst, suc, sym, text_of, Token, true, true_from_ne_false, true≢false, with_above, without_marks, without_repeats, zero, ℕ}
use Rattle.bz_token.specs.declared.class.Class.TheVariants as c
use Rattle.bz_passes.proofs.Ranks.{item_ranks}
use Rattle.bz_passes.proofs.Keeping.{Keeps, Settles, all_joined, both, same_first, same_after}
use Rattle.bz_passes.proofs.Sorting.{sort_all, Ordered, Starts, insert_starts, ordered_stays, sort_map, sort_same}
use Rattle.bz_passes.proofs.Stable.{after_too, sort_rises}

-- ---- no later item precedes an earlier one

pub starts : (x : Expr) (xs : List Expr) → NoneBefore precedes x xs → Starts precedes x xs
starts x [] a = tt
starts x (y ∷ ys) a = a.0

ordered : (xs : List Expr) → Rises precedes xs → Ordered precedes xs
ordered [] r = tt
ordered (x ∷ xs) r = (starts x xs r.0, ordered xs r.1)

-- ---- no repeats

abbrev pub is_repeated : List Bytes → Expr → Bool
is_repeated earlier x = has_no_comment x && list_any (bytes_eq (text_of x)) earlier

abbrev Clean : List Bytes → List Expr → Type 0
Clean earlier [] = Unit {0}
Clean earlier (x ∷ xs) = (is_repeated earlier x ≡ false) × Clean (text_of x ∷ earlier) xs

clean_stays : (earlier : List Bytes) (xs : List Expr) → Clean earlier xs → without_repeats earlier xs ≡ xs
clean_stays earlier [] h = refl
clean_stays earlier (x ∷ xs) h = rw h.0 (ap (λ z. x ∷ z) (clean_stays (text_of x ∷ earlier) xs h.1))

unrepeated_clean : (earlier : List Bytes) (xs : List Expr) → Clean earlier (without_repeats earlier xs)
unrepeated_clean earlier [] = tt
unrepeated_clean earlier (x ∷ xs) =
    by_case (Clean earlier) (is_repeated earlier x) (without_repeats earlier xs) (x ∷ without_repeats (text_of x ∷ earlier) xs)
    (λ t. unrepeated_clean earlier xs) (λ f. (f, unrepeated_clean (text_of x ∷ earlier) xs))

pub unrepeated_all : (P : Expr → Type 0) (earlier : List Bytes) (xs : List Expr) → AllByRecursion P xs → AllByRecursion P (without_repeats earlier xs)
unrepeated_all P earlier [] h = tt
unrepeated_all P earlier (x ∷ xs) h =
    by_test (AllByRecursion P) (is_repeated earlier x) (without_repeats earlier xs) (x ∷ without_repeats (text_of x ∷ earlier) xs)
    (unrepeated_all P earlier xs h.1) (h.0, unrepeated_all P (text_of x ∷ earlier) xs h.1)

unrepeated_rises : (earlier : List Bytes) (xs : List Expr) → Rises precedes xs → Rises precedes (without_repeats earlier xs)
unrepeated_rises earlier [] h = tt
unrepeated_rises earlier (x ∷ xs) h =
    by_test (Rises precedes) (is_repeated earlier x) (without_repeats earlier xs) (x ∷ without_repeats (text_of x ∷ earlier) xs)
    (unrepeated_rises earlier xs h.1) (unrepeated_all (λ z. precedes z x ≡ false) (text_of x ∷ earlier) xs h.0, unrepeated_rises (text_of x ∷ earlier) xs h.1)

-- ---- sorted lists stay

pub sorted_rises : (xs ys : List Expr) → ys ≡ sort_by precedes xs → Rises precedes ys
sorted_rises xs ys e = subst (λ (zs : List Expr). Rises precedes zs) (sym e) (sort_rises precedes item_ranks xs)

record Fine (xs : List Expr) : Type 0 where
  rising : Rises precedes xs
  clean : Clean [] xs

in_order_fine : (xs : List Expr) → Fine (in_order xs)
in_order_fine xs = record {
  rising = unrepeated_rises [] (sort_by precedes xs) (sort_rises precedes item_ranks xs);
  clean = unrepeated_clean [] (sort_by precedes xs);
}

pub none_precedes : (x : Expr) (xs : List Expr) → NoneBefore precedes x xs → list_any (λ y. precedes y x) xs ≡ false
none_precedes x [] a = refl
none_precedes x (y ∷ ys) a = rw a.0 (none_precedes x ys a.1)

fine_in_order : (xs : List Expr) → Fine xs → in_order xs ≡ xs
fine_in_order xs f = ap (without_repeats []) (ordered_stays precedes xs (ordered xs f.rising)) ∙ clean_stays [] xs f.clean

fine_stays : (xs : List Expr) → Fine xs → sorted xs ≡ xs
fine_stays [] f = refl
fine_stays (x ∷ xs) f = rw (none_precedes x xs f.rising.0) (fine_in_order (x ∷ xs) f)

pub text_above : (a : List Bytes) (x : Expr) → text_of (with_above a x) ≡ text_of x
text_above a (Token t) = refl
text_above a (Form' own s parts s' items end split open_break comments) = refl

after_above : (a : List Bytes) (x : Expr) (xs : List Expr) → NoneBefore precedes x xs → NoneBefore precedes (with_above a x) xs
after_above a x [] h = tt
after_above a x (y ∷ ys) h = (rw (text_above a x) h.0, after_above a x ys h.1)

marked_fine : (marks : List Bytes) (xs : List Expr) → Fine xs → Fine (marked_by marks xs)
marked_fine marks [] f = f
marked_fine marks (x ∷ xs) f = record {
  rising = (after_above (marks ++ above x) x xs f.rising.0, f.rising.1);
  clean = (and_right (has_no_comment (with_above (marks ++ above x) x)) false refl, rw (text_above (marks ++ above x) x) f.clean.1);
}

sorted_fine : (xs : List Expr) → Fine (sorted xs)
sorted_fine [] = record { rising = tt; clean = tt }
sorted_fine (x ∷ xs) =
    by_test Fine (is_passed (x ∷ xs)) (marked_by (keep_marks (above x)) (in_order (without_marks x ∷ xs))) (in_order (x ∷ xs))
    (marked_fine (keep_marks (above x)) (in_order (without_marks x ∷ xs)) (in_order_fine (without_marks x ∷ xs))) (in_order_fine (x ∷ xs))

-- ---- a list in which each item comes before the next one stays

precedes_texts : IsStrictWeakOrder (λ (s t : Bytes). is_lt (key_order (between s) (between t)))
precedes_texts = ranks_by key_total between

climbs_rises : (xs : List Expr) → Climbs precedes xs → Rises precedes xs
climbs_rises [] c = tt
climbs_rises (x ∷ []) c = (tt, tt)
climbs_rises (x ∷ y ∷ ys) c =
    let rest : Rises precedes (y ∷ ys) = climbs_rises (y ∷ ys) c.1 in
    let first : precedes y x ≡ false = item_ranks.one_way x y c.0 in
    ((first, after_too precedes item_ranks y x ys first rest.0), rest)

-- these texts come before the item
abbrev Below : List Bytes → Expr → Type 0
Below earlier x = AllByRecursion (λ t. is_lt (key_order (between t) (between (text_of x))) ≡ true) earlier

still_before : (t : Bytes) (x y : Expr) → is_lt (key_order (between t) (between (text_of x))) ≡ true → precedes x y ≡ true → is_lt (key_order (between t) (between (text_of y))) ≡ true
still_before t x y a b = true_from_ne_false _ (λ f. true≢false (sym a ∙ precedes_texts.chain t (text_of y) (text_of x) f (item_ranks.one_way x y b)))

still_below : (earlier : List Bytes) (x y : Expr) → Below earlier x → precedes x y ≡ true → Below earlier y
still_below [] x y a b = tt
still_below (t ∷ ts) x y a b = (still_before t x y a.0 b, still_below ts x y a.1 b)

other_text : (t : Bytes) (x : Expr) → is_lt (key_order (between t) (between (text_of x))) ≡ true → bytes_eq (text_of x) t ≡ false
other_text t x a = false_from_ne_true _ (λ h.
    let own : is_lt (key_order (between t) (between t)) ≡ true = subst (λ s. is_lt (key_order (between t) (between s)) ≡ true) ((bytes_eq-Decides (text_of x) t).0 h) a in
    true≢false (sym own ∙ precedes_texts.one_way t t own))

is_new : (earlier : List Bytes) (x : Expr) → Below earlier x → list_any (bytes_eq (text_of x)) earlier ≡ false
is_new [] x a = refl
is_new (t ∷ ts) x a = rw (other_text t x a.0) (is_new ts x a.1)

kept_new : (earlier : List Bytes) (x : Expr) → Below earlier x → is_repeated earlier x ≡ false
kept_new earlier x a = ap (λ b. has_no_comment x && b) (is_new earlier x a) ∙ and_right (has_no_comment x) false refl

climbs_clean : (earlier : List Bytes) (x : Expr) (xs : List Expr) → Below earlier x → Climbs precedes (x ∷ xs) → Clean earlier (x ∷ xs)
climbs_clean earlier x [] a c = (kept_new earlier x a, tt)
climbs_clean earlier x (y ∷ ys) a c = (kept_new earlier x a, climbs_clean (text_of x ∷ earlier) y ys (c.0, still_below earlier x y a c.0) c.1)

climbs_fine : (xs : List Expr) → Climbs precedes xs → Fine xs
climbs_fine [] c = record { rising = tt; clean = tt }
climbs_fine (x ∷ xs) c = record { rising = climbs_rises (x ∷ xs) c; clean = climbs_clean [] x xs tt c }

-- a list that rises stays, whether it is taken or not
pub rising_settled : (outside : List Bytes) (b : Bool) (xs : List Expr) → Climbs precedes xs → settled_list outside b xs ≡ xs
rising_settled outside b xs c = by_test (λ ys. ys ≡ xs) (is_taken outside b xs) (sorted xs) xs (fine_stays xs (climbs_fine xs c)) refl

-- ---- a list in order, and one more item

climbs_over : (x y : Expr) (ys : List Expr) → Climbs precedes (x ∷ y ∷ ys) → Climbs precedes (x ∷ ys)
climbs_over x y [] c = tt
climbs_over x y (z ∷ zs) c = (still_before (text_of x) y z c.0 c.1.0, c.1.1)

climbs_rest : (x : Expr) (xs : List Expr) → Climbs precedes (x ∷ xs) → Climbs precedes xs
climbs_rest x [] c = tt
climbs_rest x (y ∷ ys) c = c.1

last_raised : (later : List Expr) (x : Expr) → Climbs precedes (x ∷ later) → sort_by precedes (later ++ x ∷ []) ≡ x ∷ later
last_raised [] x c = refl
last_raised (y ∷ ys) x c =
    ap (insert_by precedes y) (last_raised ys x (climbs_over x y ys c))
    ∙ rw c.0 (ap (λ zs. x ∷ zs) (insert_starts precedes y ys (starts y ys (climbs_rises (y ∷ ys) c.1).0)))

raised : (others : List Expr) (at : ℕ) (x : Expr) → Climbs precedes (insert others at x) → sort_by precedes (others ++ x ∷ []) ≡ insert others at x
raised others zero x c = last_raised others x c
raised [] (suc n) x c = refl
raised (y ∷ others) (suc n) x c =
    let rest : List Expr = insert others n x in
    ap (insert_by precedes y) (raised others n x (climbs_rest y rest c)) ∙ insert_starts precedes y rest (starts y rest (climbs_rises (y ∷ rest) c).0)

-- put among the others so that all rise, the last item is in order with them
pub last_put : (at : ℕ) (others old new : List Expr) (x : Expr) → old ≡ others ++ x ∷ [] → new ≡ insert others at x → Climbs precedes new → new ≡ in_order old
last_put at others old new x is put c =
    let ordered : sort_by precedes old ≡ new = ap (sort_by precedes) is ∙ (raised others at x (subst (λ zs. Climbs precedes zs) put c) ∙ sym put) in
    sym (ap (without_repeats []) ordered ∙ clean_stays [] new (climbs_fine new c).clean)

-- a list that neither the table names nor a comment marks stays
pub unmarked_stays : (outside : List Bytes) (b : Bool) (xs : List Expr) → b ≡ false → any_marked keep_sorted (outside ++ above_first xs) ≡ false → settled_list outside b xs ≡ xs
unmarked_stays outside b xs unnamed none =
    let untaken : is_taken outside b xs ≡ false = rw (unnamed, none) (and_right (not (any_marked (codes "do not sort") (outside ++ above_first xs)) && list_all (has_class c.String) xs) false refl) in
    rw untaken refl

-- ---- comments that move

as_true : (b : Bool) → beq true b ≡ b
as_true true = refl
as_true false = refl

as_false : (b : Bool) → beq false b ≡ not b
as_false true = refl
as_false false = refl

pub marks_split : (marked : Bool) (comments : List Bytes) → filter (λ c. beq marked (is_marked keep_sorted c)) comments ≡ (if marked then keep_marks comments else other_comments comments)
marks_split true comments = ap (λ p. filter p comments) (fun_ext (λ c. as_true (is_marked keep_sorted c)))
marks_split false comments = ap (λ p. filter p comments) (fun_ext (λ c. as_false (is_marked keep_sorted c)))

own_above : (x : Expr) → with_above (above x) x ≡ x
own_above (Token t) = refl
own_above (Form' own s parts s' items end split open_break comments) = refl

marked_by_none : (xs : List Expr) → marked_by [] xs ≡ xs
marked_by_none [] = refl
marked_by_none (x ∷ xs) = ap (λ y. y ∷ xs) (own_above x)

-- with no comment above the first item none moves
pub bare_in_order : (xs : List Expr) → above_first xs ≡ [] → sorted xs ≡ in_order xs
bare_in_order [] bare = refl
bare_in_order (x ∷ xs) bare =
    let first : without_marks x ≡ x = ap (λ a. with_above (other_comments a) x) bare ∙ (ap (λ a. with_above a x) (sym bare) ∙ own_above x) in
    by_test (λ ys. ys ≡ in_order (x ∷ xs)) (is_passed (x ∷ xs)) (marked_by (keep_marks (above x)) (in_order (without_marks x ∷ xs))) (in_order (x ∷ xs))
    (both (λ a y. marked_by (keep_marks a) (in_order (y ∷ xs))) bare first ∙ marked_by_none (in_order (x ∷ xs))) refl

pub unpassed_in_order : (xs : List Expr) → is_passed xs ≡ false → sorted xs ≡ in_order xs
unpassed_in_order [] h = refl
unpassed_in_order (x ∷ xs) h = rw h refl

pub list_settles : (outside : List Bytes) (b : Bool) → Settles (settled_list outside b)
list_settles outside b xs = elim (cases_Bool (is_taken outside b xs)) [
  | inl t ↦ rw t (by_test (λ ys. ys ≡ sorted xs) (is_taken outside b (sorted xs)) (sorted (sorted xs)) (sorted xs) (fine_stays (sorted xs) (sorted_fine xs)) refl)
  | inr f ↦ rw (f, f) refl
]

-- ---- what holds of each item whatever such comments are above it

module _ (C : Bytes → Type 0) (P : Expr → Type 0) (own : (x : Expr) → P x → AllByRecursion C (above x)) (put : (a : List Bytes) (x : Expr) → AllByRecursion C a → P x → P (with_above a x)) where
  in_order_all : (xs : List Expr) → AllByRecursion P xs → AllByRecursion P (in_order xs)
  in_order_all xs h = unrepeated_all P [] (sort_by precedes xs) (sort_all precedes P xs h)

  marked_all : (marks : List Bytes) (xs : List Expr) → AllByRecursion C marks → AllByRecursion P xs → AllByRecursion P (marked_by marks xs)
  marked_all marks [] c h = tt
  marked_all marks (x ∷ xs) c h = (put (marks ++ above x) x (all_joined C marks (above x) c (own x h.0)) h.0, h.1)

  sorted_all : (xs : List Expr) → AllByRecursion P xs → AllByRecursion P (sorted xs)
  sorted_all [] h = tt
  sorted_all (x ∷ xs) h =
      by_test (AllByRecursion P) (is_passed (x ∷ xs)) (marked_by (keep_marks (above x)) (in_order (without_marks x ∷ xs))) (in_order (x ∷ xs))
      (marked_all (keep_marks (above x)) (in_order (without_marks x ∷ xs)) (all_kept C (is_marked keep_sorted) (above x) (own x h.0))
      (in_order_all (without_marks x ∷ xs) (put (other_comments (above x)) x (all_kept C (λ c. not (is_marked keep_sorted c)) (above x) (own x h.0)) h.0, h.1)))
      (in_order_all (x ∷ xs) h)

  pub settled_all : (outside : List Bytes) (b : Bool) (xs : List Expr) → AllByRecursion P xs → AllByRecursion P (settled_list outside b xs)
  settled_all outside b xs h = by_test (AllByRecursion P) (is_taken outside b xs) (sorted xs) xs (sorted_all xs h) h

any_comment : (comments : List Bytes) → AllByRecursion (λ c. Unit {0}) comments
any_comment [] = tt
any_comment (c ∷ comments) = (tt, any_comment comments)

-- whatever is above it
pub settled_anyway : (P : Expr → Type 0) → ((a : List Bytes) (x : Expr) → P x → P (with_above a x)) → (outside : List Bytes) (b : Bool) (xs : List Expr) → AllByRecursion P xs → AllByRecursion P (settled_list outside b xs)
settled_anyway P put = settled_all (λ c. Unit {0}) P (λ x h. any_comment (above x)) (λ a x c h. put a x h)

each_fixed : (p : Expr → Expr) (xs : List Expr) → map p xs ≡ xs → AllByRecursion (λ x. p x ≡ x) xs
each_fixed p [] e = tt
each_fixed p (x ∷ xs) e = (same_first (p x) x (map p xs) xs e, each_fixed p xs (same_after (p x) x (map p xs) xs e))

fixed_each : (p : Expr → Expr) (xs : List Expr) → AllByRecursion (λ x. p x ≡ x) xs → map p xs ≡ xs
fixed_each p [] h = refl
fixed_each p (x ∷ xs) h = both (λ z zs. z ∷ zs) h.0 (fixed_each p xs h.1)

pub list_keeps : (p : Expr → Expr) → ((a : List Bytes) (x : Expr) → p (with_above a x) ≡ with_above a (p x)) → (outside : List Bytes) (b : Bool) → Keeps (settled_list outside b) (map p)
list_keeps p h outside b xs e =
    fixed_each p (settled_list outside b xs)
    (settled_anyway (λ x. p x ≡ x) (λ a x i. h a x ∙ ap (with_above a) i) outside b xs (each_fixed p xs e))

-- ---- a change that the sorting does not see

any_map : (g : Expr → Expr) (p q : Expr → Bool) → ((x : Expr) → p (g x) ≡ q x) → (xs : List Expr) → list_any p (map g xs) ≡ list_any q xs
any_map g p q h [] = refl
any_map g p q h (x ∷ xs) = both (λ a b. a || b) (h x) (any_map g p q h xs)

all_map : (g : Expr → Expr) (p q : Expr → Bool) → ((x : Expr) → p (g x) ≡ q x) → (xs : List Expr) → list_all p (map g xs) ≡ list_all q xs
all_map g p q h [] = refl
all_map g p q h (x ∷ xs) = both (λ a b. a && b) (h x) (all_map g p q h xs)

module _ (g : Expr → Expr) (text : (x : Expr) → text_of (g x) ≡ text_of x) (class : (x : Expr) → has_class c.String (g x) ≡ has_class c.String x)
    (comments : (x : Expr) → comments_of (g x) ≡ comments_of x) (put : (a : List Bytes) (x : Expr) → with_above a (g x) ≡ g (with_above a x)) where
  same_above : (x : Expr) → above (g x) ≡ above x
  same_above x = ap (λ k. k.before) (comments x)

  unseen : (x y : Expr) → precedes (g x) (g y) ≡ precedes x y
  unseen x y = rw (text x, text y) refl

  same_bare : (x : Expr) → has_no_comment (g x) ≡ has_no_comment x
  same_bare x = ap (λ (k : HostComments). is_empty k.before && is_none k.suffix) (comments x)

  first_above : (xs : List Expr) → above_first (map g xs) ≡ above_first xs
  first_above [] = refl
  first_above (x ∷ xs) = same_above x

  same_taken : (outside : List Bytes) (b : Bool) (xs : List Expr) → is_taken outside b (map g xs) ≡ is_taken outside b xs
  same_taken outside b xs =
      rw (first_above xs, all_map g (has_class c.String) (has_class c.String) class xs, any_map g (λ x. not (is_empty (above x))) (λ x. not (is_empty (above x))) (λ x. ap (λ (k : HostComments). not (is_empty k.before)) (comments x)) xs) refl

  unrepeated_map : (earlier : List Bytes) (xs : List Expr) → without_repeats earlier (map g xs) ≡ map g (without_repeats earlier xs)
  unrepeated_map earlier [] = refl
  unrepeated_map earlier (x ∷ xs) = elim (cases_Bool (is_repeated earlier x)) [
    | inl t ↦ rw (same_bare x, text x, t) (unrepeated_map earlier xs)
    | inr f ↦ rw (same_bare x, text x, f) (ap (λ z. g x ∷ z) (unrepeated_map (text_of x ∷ earlier) xs))
  ]

  in_order_map : (xs : List Expr) → in_order (map g xs) ≡ map g (in_order xs)
  in_order_map xs = ap (without_repeats []) (sort_map precedes g unseen xs) ∙ unrepeated_map [] (sort_by precedes xs)

  marked_map : (marks : List Bytes) (xs : List Expr) → marked_by marks (map g xs) ≡ map g (marked_by marks xs)
  marked_map marks [] = refl
  marked_map marks (x ∷ xs) = ap (λ z. z ∷ map g xs) (ap (λ a. with_above (marks ++ a) (g x)) (same_above x) ∙ put (marks ++ above x) x)

  unmarked_map : (x : Expr) → without_marks (g x) ≡ g (without_marks x)
  unmarked_map x = ap (λ a. with_above (other_comments a) (g x)) (same_above x) ∙ put (other_comments (above x)) x

  sorted_map : (xs : List Expr) → sorted (map g xs) ≡ map g (sorted xs)
  sorted_map [] = refl
  sorted_map (x ∷ xs) = elim (cases_Bool (list_any (λ y. precedes y x) xs)) [
    | inl t ↦ rw (any_map g (λ y. precedes y (g x)) (λ y. precedes y x) (λ y. unseen y x) xs, t) (
        both (λ a ys. marked_by (keep_marks a) ys) (same_above x) (ap (λ y. in_order (y ∷ map g xs)) (unmarked_map x) ∙ in_order_map (without_marks x ∷ xs))
        ∙ marked_map (keep_marks (above x)) (in_order (without_marks x ∷ xs)))
    | inr f ↦ rw (any_map g (λ y. precedes y (g x)) (λ y. precedes y x) (λ y. unseen y x) xs, f) (in_order_map (x ∷ xs))
  ]

  pub keeps_list : (outside : List Bytes) (b : Bool) → Keeps (map g) (settled_list outside b)
  keeps_list outside b xs e = elim (cases_Bool (is_taken outside b xs)) [
    | inl t ↦ let e' = rw t at e in rw (same_taken outside b xs, t) (sorted_map xs ∙ ap (map g) e')
    | inr f ↦ rw (same_taken outside b xs, f) refl
  ]

-- ---- whether an item of a list precedes another

none_before : (x : Expr) (ys : List Expr) → list_any (λ y. precedes y x) ys ≡ false → NoneBefore precedes x ys
none_before x [] h = tt
none_before x (y ∷ ys) h = let h' = or_parts (precedes y x) (list_any (λ z. precedes z x) ys) h in (h'.0, none_before x ys h'.1)

-- where one precedes an item, the first one does
record FirstBefore (x : Expr) (ys : List Expr) : Type 0 where
  first : Expr
  following : List Expr
  is : ys ≡ first ∷ following
  precede : precedes first x ≡ true

first_before : (x : Expr) (ys : List Expr) → Rises precedes ys → list_any (λ y. precedes y x) ys ≡ true → FirstBefore x ys
first_before x [] r h = absurd (true≢false (sym h))
first_before x (y ∷ ys) r h = elim (cases_Bool (precedes y x)) [
  | inl t ↦ record { first = y; following = ys; is = refl; precede = t }
  | inr f ↦ absurd (true≢false (sym h ∙ or_from (precedes y x) (list_any (λ z. precedes z x) ys) f (none_precedes x ys (after_too precedes item_ranks y x ys f r.0))))
]

-- ---- no repeat of what precedes it

differs : (y x : Expr) → precedes y x ≡ true → bytes_eq (text_of x) (text_of y) ≡ false
differs y x t = false_from_ne_true _ (λ e.
    let same : text_of x ≡ text_of y = (bytes_eq-Decides (text_of x) (text_of y)).0 e in
    let turned : precedes x y ≡ precedes y x = both (λ a b. is_lt (key_order (between a) (between b))) same (sym same) in
    true≢false (sym t ∙ (sym turned ∙ item_ranks.one_way y x t)))

kept : (z : Expr) (text : Bytes) (earlier : List Bytes) (zs : List Expr) → text_of z ≡ text → list_any (bytes_eq text) earlier ≡ false → without_repeats earlier (z ∷ zs) ≡ z ∷ without_repeats (text ∷ earlier) zs
kept z text earlier zs e h =
    let none : is_repeated earlier z ≡ false = and_right (has_no_comment z) (list_any (bytes_eq (text_of z)) earlier) (ap (λ t. list_any (bytes_eq t) earlier) e ∙ h) in
    rw none (ap (λ t. z ∷ without_repeats (t ∷ earlier) zs) e)

record Placed (x : Expr) (earlier : List Bytes) (ys : List Expr) : Type 0 where
  front : List Expr
  rest : List Expr
  before : list_all (λ y. precedes y x) front ≡ true
  marked : without_repeats earlier (insert_by precedes x ys) ≡ front ++ x ∷ rest
  bare : without_repeats earlier (insert_by precedes (without_marks x) ys) ≡ front ++ without_marks x ∷ rest

same_text : (x : Expr) → text_of (without_marks x) ≡ text_of x
same_text x = text_above (other_comments (above x)) x

same_before : (y x : Expr) → precedes y (without_marks x) ≡ precedes y x
same_before y x = ap (λ t. is_lt (key_order (between (text_of y)) (between t))) (same_text x)

placed : (x : Expr) (earlier : List Bytes) (ys : List Expr) → list_any (bytes_eq (text_of x)) earlier ≡ false → Placed x earlier ys
placed x earlier [] h = record {
  front = [];
  rest = [];
  before = refl;
  marked = kept x (text_of x) earlier [] refl h;
  bare = kept (without_marks x) (text_of x) earlier [] (same_text x) h;
}
placed x earlier (y ∷ ys) h = elim (cases_Bool (precedes y x)) [
  | inl t ↦ elim (cases_Bool (is_repeated earlier y)) [
    | inl d ↦
        let p : Placed x earlier ys = placed x earlier ys h in
        record { front = p.front; rest = p.rest; before = p.before; marked = rw (t, d) p.marked; bare = rw (same_before y x, t, d) p.bare }
    | inr k ↦
        let p : Placed x (text_of y ∷ earlier) ys = placed x (text_of y ∷ earlier) ys (or_from (bytes_eq (text_of x) (text_of y)) (list_any (bytes_eq (text_of x)) earlier) (differs y x t) h) in
        record {
          front = y ∷ p.front;
          rest = p.rest;
          before = and_from (precedes y x) (list_all (λ z. precedes z x) p.front) t p.before;
          marked = rw (t, k) (ap (λ zs. y ∷ zs) p.marked);
          bare = rw (same_before y x, t, k) (ap (λ zs. y ∷ zs) p.bare);
        }
  ]
  | inr f ↦ record {
    front = [];
    rest = without_repeats (text_of x ∷ earlier) (y ∷ ys);
    before = refl;
    marked = rw f (kept x (text_of x) earlier (y ∷ ys) refl h);
    bare = rw (same_before y x, f) (kept (without_marks x) (text_of x) earlier (y ∷ ys) (same_text x) h);
  }
]

-- ---- the law

first_stays : (x : Expr) (xs : List Expr) → list_any (λ y. precedes y x) xs ≡ false → in_order (x ∷ xs) ≡ x ∷ without_repeats (text_of x ∷ []) (sort_by precedes xs)
first_stays x xs f =
    let none : NoneBefore precedes x (sort_by precedes xs) = sort_all precedes (λ z. precedes z x ≡ false) xs (none_before x xs f) in
    ap (without_repeats []) (insert_starts precedes x (sort_by precedes xs) (starts x (sort_by precedes xs) none)) ∙ kept x (text_of x) [] (sort_by precedes xs) refl refl

-- after one that precedes it
passed : (z y : Expr) (ys : List Expr) → precedes y z ≡ true → insert_by precedes z (y ∷ ys) ≡ y ∷ insert_by precedes z ys
passed z y ys t = rw t refl

one_stays : (z y : Expr) (xs ys : List Expr) → sort_by precedes xs ≡ y ∷ ys → precedes y z ≡ true → in_order (z ∷ xs) ≡ y ∷ without_repeats (text_of y ∷ []) (insert_by precedes z ys)
one_stays z y xs ys e t =
    ap (λ zs. without_repeats [] (insert_by precedes z zs)) e ∙ (ap (without_repeats []) (passed z y ys t) ∙ kept y (text_of y) [] (insert_by precedes z ys) refl refl)

gives_marks : (x : Expr) (xs : List Expr) → list_any (λ y. precedes y x) xs ≡ true → sorted (x ∷ xs) ≡ marked_by (keep_marks (above x)) (in_order (without_marks x ∷ xs))
gives_marks x xs t = rw t refl

pub marks_move : (x : Expr) (xs : List Expr) → MovesMarks x xs
marks_move x xs = elim (cases_Bool (list_any (λ y. precedes y x) xs)) [
  | inl t ↦
      let b : FirstBefore x (sort_by precedes xs) = first_before x (sort_by precedes xs) (sort_rises precedes item_ranks xs) (sym (list_any-IsPermutation (λ y. precedes y x) xs (sort_by precedes xs) (sort_same precedes xs)) ∙ t) in
      let p : Placed x (text_of b.first ∷ []) b.following = placed x (text_of b.first ∷ []) b.following (or_from (bytes_eq (text_of x) (text_of b.first)) false (differs b.first x b.precede) refl) in
      record {
        front = b.first ∷ p.front;
        rest = p.rest;
        placed = one_stays x b.first xs b.following b.is b.precede ∙ ap (λ zs. b.first ∷ zs) p.marked;
        before = and_from (precedes b.first x) (list_all (λ z. precedes z x) p.front) b.precede p.before;
        moved =
            gives_marks x xs t
            ∙ ap (marked_by (keep_marks (above x))) (one_stays (without_marks x) b.first xs b.following b.is (same_before b.first x ∙ b.precede) ∙ ap (λ zs. b.first ∷ zs) p.bare);
      }
  | inr f ↦ record {
    front = [];
    rest = without_repeats (text_of x ∷ []) (sort_by precedes xs);
    placed = first_stays x xs f;
    before = refl;
    moved = rw f (first_stays x xs f);
  }
]
