-- Double quote marks and labels without a repeated name: given again they change nothing, and a shorter label keeps its quote marks.
use Rattle.bz_passes.proofs.Words.{[], ◌&&◌, ◌++◌, ◌||◌, ◌∙◌, ◌∷◌, ◌≡◌, ◌≤◌, after_colon, after_slashes, and_from, and_parts, ap, apostrophe, append_cancel_right, arith, backslash, before_colon, before_slashes, begins_single, begins_thrice, body, Bool, Bytes, bytes_eq, bytes_eq-Decides, cases_Bool, codes, false, has_character, has_slash, if◌then◌else◌, in_double, inl, inner, inr, is_at, is_colon, is_joined, is_plain_in, is_present, is_repeated, is_unrepeated, last_piece, length, list_any-append, marks_of, nat_eq, nat_le, None, not, Option, option_map_or, or_from, or_parts, quotation_mark, refl, replicate, shorter_string, Some, suc, sym, take, the_unrepeated, true, true≢false, unrepeated, unrepeated_stays, with_double, zero, ℕ}
use Rattle.std.proofs.lemmas.Option.{same_Some}
use Rattle.bz_label.specs.{Pieces.is_empty, Labels.is_barred, Labels.is_plain, Labels.is_path, Labels.is_repository_name, Forms.is_repository, Forms.are_whole}
use Rattle.bz_passes.proofs.{Keeping.Keeps, Keeping.Settles, Keeping.same_first, Keeping.same_after, ProperStrings.same_byte}

same_text : (one other : Bytes) → bytes_eq one other ≡ true → one ≡ other
same_text one other e = (bytes_eq-Decides one other).0 e

-- ---- double quote marks

stays_double : (t : Bytes) → begins_single t ≡ false → with_double t ≡ t
stays_double t h = rw h refl

not_single : (t : Bytes) → begins_single (in_double (marks_of t) t) ≡ false
not_single t = elim (cases_Bool (begins_thrice t && nat_le 6 (length t))) [
  | inl w ↦ rw w refl
  | inr w ↦ rw w refl
]

abbrev is_free : Bytes → Bool
is_free t = begins_single t && not (has_character quotation_mark t || has_character backslash t)

pub double_settles : Settles with_double
double_settles t = elim (cases_Bool (is_free t)) [
  | inl w ↦ rw w (stays_double (in_double (marks_of t) t) (not_single t))
  | inr w ↦ rw (w, w) refl
]

-- what stays holds what bars the change
held : (t : Bytes) → begins_single t ≡ true → with_double t ≡ t → is_free t ≡ false
held t s e = elim (cases_Bool (is_free t)) [
  | inl w ↦ let e' : in_double (marks_of t) t ≡ t = sym (rw w refl) ∙ e in absurd (true≢false (sym s ∙ (ap begins_single (sym e') ∙ not_single t)))
  | inr w ↦ w
]

-- ---- labels without a repeated name

pub unrepeated_settles : Settles unrepeated
unrepeated_settles s = sym (the_unrepeated (unrepeated s) (unrepeated s) (unrepeated_stays s (unrepeated s) (is_unrepeated s)))

-- ---- a repeat holds no barred character but its own marks

record Barred (q : ℕ) : Type 0 where
  barred : is_barred q ≡ true
  colon : nat_eq 58 q ≡ false
  slash : nat_eq 47 q ≡ false
  at_sign : nat_eq 64 q ≡ false

plain_free : (q : ℕ) (s : Bytes) → is_barred q ≡ true → is_plain s ≡ true → has_character q s ≡ false
plain_free q [] b h = refl
plain_free q (c ∷ s) b h = elim (cases_Bool (is_barred c)) [
  | inl w ↦ let h' : false ≡ true = rw w at h in cc
  | inr w ↦ elim (cases_Bool (nat_eq c q)) [
    | inl v ↦ absurd (true≢false (sym b ∙ (ap is_barred (sym (same_byte c q v)) ∙ w)))
    | inr v ↦ let h' : is_plain s ≡ true = rw w at h in rw v (plain_free q s b h')
  ]
]

path_free : (q : ℕ) (s : Bytes) → is_barred q ≡ true → is_path s ≡ true → has_character q s ≡ false
path_free q s b h = plain_free q s b (and_parts (is_joined s) (is_plain s) h).1

maybe_path_free : (q : ℕ) (s : Bytes) → is_barred q ≡ true → (is_empty s || is_path s) ≡ true → has_character q s ≡ false
maybe_path_free q [] b h = refl
maybe_path_free q (c ∷ s) b h = path_free q (c ∷ s) b h

name_free : (q : ℕ) (s : Bytes) → is_barred q ≡ true → (is_empty s || is_repository_name s) ≡ true → has_character q s ≡ false
name_free q [] b h = refl
name_free q (c ∷ s) b h = plain_free q (c ∷ s) b (and_parts (is_present (c ∷ s) && not (has_slash (c ∷ s))) (is_plain (c ∷ s)) h).1

repository_free : (q : ℕ) (s : Bytes) → Barred q → is_repository s ≡ true → has_character q s ≡ false
repository_free q [] b h = refl
repository_free q (c ∷ s) b h =
    let at : c ≡ 64 = same_byte c 64 (and_parts (is_at c) (is_empty s || is_repository_name s) h).0 in
    or_from (nat_eq c q) (has_character q s) (ap (λ z. nat_eq z q) at ∙ b.at_sign) (name_free q s b.barred (and_parts (is_at c) (is_empty s || is_repository_name s) h).1)

front_free : (q : ℕ) (front name : Bytes) → Barred q → is_repeated front name ≡ true → (has_character q front ≡ false) × (has_character q name ≡ false)
front_free q front name b h =
    let whole = are_whole (before_slashes front) (after_slashes front) name in
    let last = bytes_eq (last_piece (after_slashes front)) name in
    let again = bytes_eq front (before_slashes front ++ (codes "//" ++ after_slashes front)) in
    let w : whole ≡ true = (and_parts whole last (and_parts (whole && last) again h).0).0 in
    let spelled : front ≡ before_slashes front ++ (codes "//" ++ after_slashes front) = same_text front _ (and_parts (whole && last) again h).1 in
    let repository = is_repository (before_slashes front) in
    let path = is_empty (after_slashes front) || is_path (after_slashes front) in
    let r : has_character q (before_slashes front) ≡ false = repository_free q (before_slashes front) b (and_parts repository path (and_parts (repository && path) (is_path name) w).0).0 in
    let k : has_character q (after_slashes front) ≡ false = maybe_path_free q (after_slashes front) b.barred (and_parts repository path (and_parts (repository && path) (is_path name) w).0).1 in (
      ap (has_character q) spelled
          ∙ (list_any-append (λ c. nat_eq c q) (before_slashes front) (codes "//" ++ after_slashes front)
          ∙ or_from (has_character q (before_slashes front)) (has_character q (codes "//" ++ after_slashes front)) r (or_from (nat_eq 47 q) (has_character q (47 ∷ after_slashes front)) b.slash (or_from (nat_eq 47 q) (has_character q (after_slashes front)) b.slash k))),
      path_free q name b.barred (and_parts (repository && path) (is_path name) w).1,
    )

halves_free : (q : ℕ) (s : Bytes) → Barred q → has_character q (before_colon s) ≡ false → has_character q (after_colon s) ≡ false → has_character q s ≡ false
halves_free q [] b f n = refl
halves_free q (c ∷ s) b f n = elim (cases_Bool (is_colon c)) [
  | inl w ↦ let n' : has_character q s ≡ false = rw w at n in or_from (nat_eq c q) (has_character q s) (ap (λ z. nat_eq z q) (same_byte c 58 w) ∙ b.colon) n'
  | inr w ↦
      let f' : (nat_eq c q || has_character q (before_colon s)) ≡ false = rw w at f in
      let n' : has_character q (after_colon s) ≡ false = rw w at n in
      or_from (nat_eq c q) (has_character q s) (or_parts (nat_eq c q) (has_character q (before_colon s)) f').0 (halves_free q s b (or_parts (nat_eq c q) (has_character q (before_colon s)) f').1 n')
]

repeat_free : (q : ℕ) (s : Bytes) → Barred q → is_repeated (before_colon s) (after_colon s) ≡ true → has_character q s ≡ false
repeat_free q s b h = let f = front_free q (before_colon s) (after_colon s) b h in halves_free q s b f.0 f.1

barred_quote : Barred quotation_mark
barred_quote = record { barred = refl; colon = refl; slash = refl; at_sign = refl }

barred_slash : Barred backslash
barred_slash = record { barred = refl; colon = refl; slash = refl; at_sign = refl }

-- ---- plain strings

-- a body between its quote marks
abbrev pub in_marks : ℕ → Bytes → Bytes
in_marks q label = q ∷ (label ++ q ∷ [])

plain_text : (q : ℕ) (text : Bytes) → is_plain_in q text ≡ true → text ≡ in_marks q (inner text)
plain_text q text h = same_text text (in_marks q (inner text)) (and_parts _ _ h).0

pub body_text : (text label : Bytes) → body text ≡ Some label → (q : ℕ) × (text ≡ in_marks q label)
body_text text label e = elim (cases_Bool (is_plain_in quotation_mark text || is_plain_in apostrophe text)) [
  | inl w ↦
      let e' : Some (inner text) ≡ Some label = rw w at e in
      let same : inner text ≡ label = same_Some (inner text) label e' in
      elim (cases_Bool (is_plain_in quotation_mark text)) [
        | inl a ↦ (quotation_mark, plain_text quotation_mark text a ∙ ap (in_marks quotation_mark) same)
        | inr n ↦ let a : is_plain_in apostrophe text ≡ true = rw n at w in (apostrophe, plain_text apostrophe text a ∙ ap (in_marks apostrophe) same)
      ]
  | inr w ↦ let e' : None ≡ Some label = rw w at e in cc
]

same_label : (q p : ℕ) (one other : Bytes) → in_marks q one ≡ in_marks p other → one ≡ other
same_label q p one other e =
    let mark : q ≡ p = same_first q p (one ++ q ∷ []) (other ++ p ∷ []) e in
    append_cancel_right one other (p ∷ []) (ap (λ z. one ++ z ∷ []) (sym mark) ∙ same_after q p (one ++ q ∷ []) (other ++ p ∷ []) e)

-- ---- strings whose label is shorter

abbrev shorter_by : Option Bytes → Bytes → Bytes
shorter_by found text = option_map_or (λ label. take 1 text ++ (unrepeated label ++ take 1 text)) found text

shorter_in_marks : (q : ℕ) (text label : Bytes) → text ≡ in_marks q label → shorter_by (Some label) text ≡ in_marks q (unrepeated label)
shorter_in_marks q text label e = ap (λ z. take 1 z ++ (unrepeated label ++ take 1 z)) e

again : (q : ℕ) (label : Bytes) (found : Option Bytes) → body (in_marks q label) ≡ found → unrepeated label ≡ label → shorter_by found (in_marks q label) ≡ in_marks q label
again q label None f h = refl
again q label (Some other) f h =
    let spelled = body_text (in_marks q label) other f in
    let same : label ≡ other = same_label q spelled.0 label other spelled.1 in
    ap (in_marks q) (ap unrepeated (sym same) ∙ h)

by_settles : (text : Bytes) (found : Option Bytes) → body text ≡ found → shorter_string (shorter_by found text) ≡ shorter_by found text
by_settles text None f = rw f refl
by_settles text (Some label) f =
    let spelled = body_text text label f in
    let shorter : shorter_by (Some label) text ≡ in_marks spelled.0 (unrepeated label) = shorter_in_marks spelled.0 text label spelled.1 in
    ap shorter_string shorter ∙ (again spelled.0 (unrepeated label) (body (in_marks spelled.0 (unrepeated label))) refl (unrepeated_settles label) ∙ sym shorter)

pub string_settles : Settles shorter_string
string_settles text = by_settles text (body text) refl

-- a repeat in single quote marks would have taken double ones
no_repeat_left : (q : ℕ) (label : Bytes) → nat_eq q apostrophe ≡ true → is_free (in_marks q label) ≡ false → is_repeated (before_colon label) (after_colon label) ≡ true → ⊥
no_repeat_left q label m h r =
    let is : q ≡ apostrophe = same_byte q apostrophe m in
    let free : (p : ℕ) → Barred p → nat_eq apostrophe p ≡ false → has_character p (in_marks q label) ≡ false =
    λ p bar n. or_from (nat_eq q p) (has_character p (label ++ q ∷ [])) (ap (λ z. nat_eq z p) is ∙ n)
    (list_any-append (λ c. nat_eq c p) label (q ∷ []) ∙ or_from (has_character p label) (has_character p (q ∷ [])) (repeat_free p label bar r) (or_from (nat_eq q p) false (ap (λ z. nat_eq z p) is ∙ n) refl)) in
    true≢false (sym (and_from (nat_eq q apostrophe) (not (has_character quotation_mark (in_marks q label) || has_character backslash (in_marks q label))) m
    (ap not (or_from (has_character quotation_mark (in_marks q label)) (has_character backslash (in_marks q label)) (free quotation_mark barred_quote refl) (free backslash barred_slash refl)))) ∙ h)

shorter_in : (q : ℕ) (label : Bytes) → with_double (in_marks q label) ≡ in_marks q label → with_double (in_marks q (unrepeated label)) ≡ in_marks q (unrepeated label)
shorter_in q label d = elim (cases_Bool (nat_eq q apostrophe)) [
  | inl m ↦ elim (cases_Bool (is_repeated (before_colon label) (after_colon label))) [
    | inl r ↦ absurd (no_repeat_left q label m (held (in_marks q label) m d) r)
    | inr r ↦ let same : unrepeated label ≡ label = rw r refl in rw same d
  ]
  | inr m ↦ stays_double (in_marks q (unrepeated label)) m
]

by_keeps : (text : Bytes) (found : Option Bytes) → body text ≡ found → with_double text ≡ text → with_double (shorter_by found text) ≡ shorter_by found text
by_keeps text None f d = d
by_keeps text (Some label) f d =
    let spelled = body_text text label f in
    let shorter : shorter_by (Some label) text ≡ in_marks spelled.0 (unrepeated label) = shorter_in_marks spelled.0 text label spelled.1 in
    ap with_double shorter ∙ (shorter_in spelled.0 label (ap with_double (sym spelled.1) ∙ (d ∙ spelled.1)) ∙ sym shorter)

pub string_keeps : Keeps shorter_string with_double
string_keeps text d = by_keeps text (body text) refl d

marked_body : (text label : Bytes) → Some label ≡ body text → take 1 text ++ (label ++ take 1 text) ≡ text
marked_body text label e =
    let spelled = body_text text label (sym e) in
    ap (λ (mark : Bytes). mark ++ (label ++ mark)) (ap (take 1) spelled.1) ∙ sym spelled.1

uncut : (label : Bytes) → length (before_colon label) ≡ length label → before_colon label ≡ label
uncut [] e = refl
uncut (c ∷ label) e = elim (cases_Bool (is_colon c)) [
  | inl t ↦ let cut : length (if is_colon c then [] else c ∷ before_colon label) ≡ 0 = rw t refl in absurd (omega (arith, e, cut))
  | inr f ↦
      let on : before_colon (c ∷ label) ≡ c ∷ before_colon label = rw f refl in
      on ∙ ap (λ rest. c ∷ rest) (uncut label (omega (arith, e, ap length on)))
]

-- a label that is as long without a repeated name has none
as_long : (label : Bytes) → length (unrepeated label) ≡ length label → unrepeated label ≡ label
as_long label e = elim (cases_Bool (is_repeated (before_colon label) (after_colon label))) [
  | inl t ↦ let front : unrepeated label ≡ before_colon label = rw t refl in front ∙ uncut label (ap length (sym front) ∙ e)
  | inr f ↦ rw f refl
]

pub kept_body : (text label short : Bytes) → Some label ≡ body text → short ≡ unrepeated label → length short ≡ length label → shorter_string text ≡ text
kept_body text label short b u e =
    ap (λ found. option_map_or (λ label. take 1 text ++ (unrepeated label ++ take 1 text)) found text) (sym b)
    ∙ (ap (λ (inside : Bytes). take 1 text ++ (inside ++ take 1 text)) (as_long label (ap length (sym u) ∙ e)) ∙ marked_body text label b)

pub marks_taken : (count : ℕ) → count ≤ 3 → take count (34 ∷ 34 ∷ 34 ∷ []) ≡ replicate count quotation_mark
marks_taken zero h = refl
marks_taken (suc zero) h = refl
marks_taken (suc (suc zero)) h = refl
marks_taken (suc (suc (suc zero))) h = refl
marks_taken (suc (suc (suc (suc n)))) h = absurd (omega (arith, h))
