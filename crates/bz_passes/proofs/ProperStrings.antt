-- A string with double quote marks is the same string, and one with a shorter label means the same label; both are strings again.
use Rattle.bz_passes.proofs.Words.{[], ◌&&◌, ◌*◌, ◌++◌, ◌+◌, ◌-◌, ◌<◌, ◌||◌, ◌∙◌, ◌∷◌, ◌≡◌, after_colon, and_parts, ap, apostrophe, append-nil, append_assoc, append_cancel_right, arith, backslash, before_colon, begins_single, begins_thrice, Bool, by_case, by_test, Bytes, bytes_eq, bytes_eq-Decides, cases_Bool, drop, false, get_or, get_or-append_seam, has_character, if◌then◌else◌, in_double, inl, inner, inr, inside, is_colon, is_plain_in, is_prefix, is_quote_mark, is_repeated, is_unrepeated, IsLong, IsQuoted, IsSameLabel, IsSameString, IsShort, IsString, IsUnescaped, IsUtf8, itself, length, length-append, list_any, list_any-append, long_end, long_plain, marks_of, nat_eq, nat_le, nat_tests, not, not-true, or_from, or_parts, quotation_mark, refl, renamed, replicate, short_end, short_line, short_plain, short_taken, shorter_string, single, Strung, subst, suc, sym, take, take-append_seam, take_at, triple, true, true≢false, turned, turned_thrice, unchanged, unrepeated, unrepeated_same, with_double, zero, ℕ}
use Rattle.std.proofs.lemmas.Str.{IsUtf8-append, IsUtf8-from_ascii, IsUtf8-take, IsUtf8-drop, IsCharBoundary-before_ascii, IsCharBoundary-after_ascii}
use Rattle.bz_token.specs.Bytes.{is_quote}
use Rattle.bz_passes.proofs.Keeping.{same_first, same_after}

-- ---- texts without double marks and backslashes

pub same_byte : (c q : ℕ) → nat_eq c q ≡ true → c ≡ q
same_byte c q h = grind (arith, nat_tests)

pub unescaped_rest : (c : ℕ) (s : Bytes) → IsUnescaped (c ∷ s) → IsUnescaped s
unescaped_rest c s f = ((or_parts (nat_eq c quotation_mark) (has_character quotation_mark s) f.0).1, (or_parts (nat_eq c backslash) (has_character backslash s) f.1).1)

unescaped_front : (s t : Bytes) → IsUnescaped (s ++ t) → IsUnescaped s
unescaped_front s t f = (
  (or_parts (has_character quotation_mark s) (has_character quotation_mark t) (sym (list_any-append (λ c. nat_eq c quotation_mark) s t) ∙ f.0)).0,
  (or_parts (has_character backslash s) (has_character backslash t) (sym (list_any-append (λ c. nat_eq c backslash) s t) ∙ f.1)).0,
)

-- ---- what is between single marks takes double ones

inside_of : (n : ℕ) (m : ℕ) (s : Bytes) → drop n (replicate n m ++ (s ++ replicate n m)) ≡ s ++ replicate n m → length (replicate n m) ≡ n → inside n (replicate n m ++ (s ++ replicate n m)) ≡ s
inside_of n m s d l =
    let size : length (replicate n m ++ (s ++ replicate n m)) ≡ n + (length s + n) = length-append (replicate n m) (s ++ replicate n m) ∙ (ap (λ z. z + length (s ++ replicate n m)) l ∙ ap (λ z. n + z) (length-append s (replicate n m) ∙ ap (λ z. length s + z) l)) in
    let less : length (replicate n m ++ (s ++ replicate n m)) - 2 * n ≡ length s = omega arith in
    ap (λ k. take k (drop n (replicate n m ++ (s ++ replicate n m)))) less ∙ (ap (take (length s)) d ∙ take-append_seam s (replicate n m))

turned_test : (c : ℕ) → nat_eq c apostrophe ≡ false → nat_eq apostrophe c ≡ false
turned_test c h = grind (arith, nat_tests)

not_thrice : (c : ℕ) (s : Bytes) → nat_eq c apostrophe ≡ false → begins_thrice (apostrophe ∷ c ∷ s) ≡ false
not_thrice c [] h = refl
not_thrice c (d ∷ s) h = ap (λ b. b && nat_eq c d) (turned_test c h)

long_enough : (n k : ℕ) → n ≡ k + 6 → nat_le 6 n ≡ true
long_enough n k e = grind (arith, nat_tests)

-- one mark at each end: no three marks begin such a text
once : (s : Bytes) → IsShort apostrophe s → begins_thrice (apostrophe ∷ (s ++ apostrophe ∷ [])) ≡ false
once [] h = refl
once (c ∷ s) (short_plain a h) = not_thrice c (s ++ apostrophe ∷ []) (or_parts (nat_eq c apostrophe) _ a).0
once (c ∷ d ∷ s) (short_taken h) = refl
once (c ∷ d ∷ e ∷ s) (short_line h) = refl

once_doubled : (s : Bytes) → IsShort apostrophe s → in_double (marks_of (apostrophe ∷ (s ++ apostrophe ∷ []))) (apostrophe ∷ (s ++ apostrophe ∷ [])) ≡ quotation_mark ∷ (s ++ quotation_mark ∷ [])
once_doubled s h =
    let one : marks_of (apostrophe ∷ (s ++ apostrophe ∷ [])) ≡ 1 = ap (λ b. if b && nat_le 6 (length (apostrophe ∷ (s ++ apostrophe ∷ []))) then 3 else 1) (once s h) in
    ap (λ n. in_double n (apostrophe ∷ (s ++ apostrophe ∷ []))) one ∙ ap (λ z. quotation_mark ∷ (z ++ quotation_mark ∷ [])) (inside_of 1 apostrophe s refl refl)

abbrev thrice : ℕ → Bytes → Bytes
thrice m s = m ∷ m ∷ m ∷ (s ++ m ∷ m ∷ m ∷ [])

thrice_doubled : (s : Bytes) → in_double (marks_of (thrice apostrophe s)) (thrice apostrophe s) ≡ thrice quotation_mark s
thrice_doubled s =
    let size : length (thrice apostrophe s) ≡ length s + 6 = ap (λ n. suc (suc (suc n))) (length-append s (apostrophe ∷ apostrophe ∷ apostrophe ∷ [])) ∙ omega arith in
    let three : marks_of (thrice apostrophe s) ≡ 3 = ap (λ b. if b then 3 else 1) (long_enough _ (length s) size) in
    ap (λ n. in_double n (thrice apostrophe s)) three ∙ ap (thrice quotation_mark) (inside_of 3 apostrophe s refl refl)

no_prefix : (p q t : Bytes) → t ≡ p ++ q → is_prefix p ≡ true → begins_single t ≡ true → p ≡ []
no_prefix [] q t e h s = refl
no_prefix (c ∷ p) q t e h s =
    let m : c ≡ apostrophe = same_byte c apostrophe (sym (ap begins_single e) ∙ s) in
    absurd (true≢false (sym h ∙ ap (λ z. is_prefix (z ∷ p)) m))

quoted_same : (q : Bytes) → IsQuoted q → begins_single q ≡ true → IsUnescaped q → IsSameString q (in_double (marks_of q) q)
quoted_same q (single m s a h) b f =
    let e : m ≡ apostrophe = same_byte m apostrophe b in
    let short : IsShort apostrophe s = subst (λ z. IsShort z s) e h in
    subst (λ z. IsSameString (z ∷ (s ++ z ∷ [])) (in_double (marks_of (z ∷ (s ++ z ∷ []))) (z ∷ (s ++ z ∷ [])))) (sym e)
    (turned s short (unescaped_front s (m ∷ []) (unescaped_rest m (s ++ m ∷ []) f)) refl (once_doubled s short))
quoted_same q (triple m s a h) b f =
    let e : m ≡ apostrophe = same_byte m apostrophe b in
    let rest : Bytes = s ++ m ∷ m ∷ m ∷ [] in
    let bare : IsUnescaped rest = unescaped_rest m rest (unescaped_rest m (m ∷ rest) (unescaped_rest m (m ∷ m ∷ rest) f)) in
    subst (λ z. IsSameString (thrice z s) (in_double (marks_of (thrice z s)) (thrice z s))) (sym e)
    (turned_thrice s (subst (λ z. IsLong z s) e h) (unescaped_front s (m ∷ m ∷ m ∷ []) bare) refl (thrice_doubled s))

pub double_same : (t : Bytes) → IsString t → IsSameString t (with_double t)
double_same t (p, q, e, h, i) = elim (cases_Bool (begins_single t && not (has_character quotation_mark t || has_character backslash t))) [
  | inl w ↦
      let first : begins_single t ≡ true = (and_parts (begins_single t) _ w).0 in
      let same : t ≡ q = e ∙ ap (λ z. z ++ q) (no_prefix p q t e h first) in
      let bare : IsUnescaped t = or_parts (has_character quotation_mark t) (has_character backslash t) (not-true _ (and_parts (begins_single t) _ w).1) in
      rw w (subst (λ z. IsSameString z (in_double (marks_of z) z)) (sym same) (quoted_same q i (sym (ap begins_single same) ∙ first) (subst IsUnescaped same bare)))
  | inr w ↦ rw w (itself refl)
]

-- ---- shorter labels

plain_same : (m : ℕ) (t : Bytes) → is_quote_mark m ≡ true → is_plain_in m t ≡ true → IsSameLabel t (take 1 t ++ (unrepeated (inner t) ++ take 1 t))
plain_same m t a w =
    let e : t ≡ m ∷ (inner t ++ m ∷ []) = (bytes_eq-Decides t (m ∷ (inner t ++ m ∷ []))).0 (and_parts (bytes_eq t (m ∷ inner t ++ m ∷ [])) _ w).0 in
    let one : take 1 t ≡ m ∷ [] = ap (take 1) e in
    renamed m (unrepeated (inner t)) a w (ap (λ z. z ++ (unrepeated (inner t) ++ z)) one) (λ current. unrepeated_same current (inner t) (unrepeated (inner t)) (is_unrepeated (inner t)))

pub shorter_same : (t : Bytes) → IsSameLabel t (shorter_string t)
shorter_same t = elim (cases_Bool (is_plain_in quotation_mark t)) [
  | inl w ↦ rw w (plain_same quotation_mark t refl w)
  | inr w ↦ elim (cases_Bool (is_plain_in apostrophe t)) [
    | inl v ↦ rw (w, v) (plain_same apostrophe t refl v)
    | inr v ↦ rw (w, v) (unchanged refl)
  ]
]

-- ---- texts of characters

cut_before : (front : Bytes) (c : ℕ) (rest : Bytes) → c < 128 → IsUtf8 (front ++ c ∷ rest) → IsUtf8 front
cut_before front c rest l u =
    let seam = IsCharBoundary-before_ascii (front ++ c ∷ rest) (length front) (omega (arith, length-append front (c ∷ rest))) (omega (arith, get_or-append_seam front c rest 0)) in
    subst IsUtf8 (take_at front (c ∷ rest) (length front) refl) (IsUtf8-take (front ++ c ∷ rest) (length front) u seam)

after_first : (c : ℕ) (s : Bytes) → c < 128 → IsUtf8 (c ∷ s) → IsUtf8 s
after_first c s l u = IsUtf8-drop (c ∷ s) 1 u (IsCharBoundary-after_ascii (c ∷ s) 0 u (omega arith) l)

ascii_at : (c : ℕ) → c < 128 → (i : ℕ) → get_or (c ∷ []) i 0 < 128
ascii_at c h zero = h
ascii_at c h (suc i) = omega arith

ascii_text : (c : ℕ) → c < 128 → IsUtf8 (c ∷ [])
ascii_text c l = IsUtf8-from_ascii (c ∷ []) (ascii_at c l)

-- what is between ASCII bytes
core_once : (m : ℕ) (s : Bytes) → m < 128 → IsUtf8 (m ∷ (s ++ m ∷ [])) → IsUtf8 s
core_once m s l u = cut_before s m [] l (after_first m (s ++ m ∷ []) l u)

core_thrice : (m : ℕ) (s : Bytes) → m < 128 → IsUtf8 (m ∷ m ∷ m ∷ (s ++ m ∷ m ∷ m ∷ [])) → IsUtf8 s
core_thrice m s l u = cut_before s m (m ∷ m ∷ []) l (after_first m _ l (after_first m _ l (after_first m _ l u)))

within_marks : (m s : Bytes) → IsUtf8 m → IsUtf8 s → IsUtf8 (m ++ (s ++ m))
within_marks m s h i = IsUtf8-append m (s ++ m) h (IsUtf8-append s m i h)

-- the body of a short string
abbrev Body : ℕ → Bytes → Type 0
Body m s = IsShort m s × IsUtf8 s

with_marks : (m : ℕ) (b : Bytes) → is_quote m ≡ true → IsUtf8 (m ∷ []) → Body m b → Strung (m ∷ (b ++ m ∷ []))
with_marks m b a c h = (([], m ∷ (b ++ m ∷ []), refl, refl, single m b a h.0), within_marks (m ∷ []) b c h.1)

-- ---- double quote marks

long_free : (s : Bytes) → IsUnescaped s → IsLong quotation_mark s
long_free [] f = long_end
long_free (c ∷ s) f =
    long_plain 0 c s (omega arith) (or_from _ _ (or_parts (nat_eq c quotation_mark) (has_character quotation_mark s) f.0).0 (or_from _ _ (or_parts (nat_eq c backslash) (has_character backslash s) f.1).0 refl)) (long_free s (unescaped_rest c s f))

short_free : (s : Bytes) → IsUnescaped s → IsShort apostrophe s → IsShort quotation_mark s
short_free [] f h = short_end
short_free (c ∷ s) f (short_plain a h) =
    short_plain (or_from _ _ (or_parts (nat_eq c quotation_mark) (has_character quotation_mark s) f.0).0 (or_parts (nat_eq c apostrophe) _ a).1) (short_free s (unescaped_rest c s f) h)
short_free (c ∷ d ∷ s) f (short_taken h) = absurd (true≢false f.1)
short_free (c ∷ d ∷ e ∷ s) f (short_line h) = absurd (true≢false f.1)

still_string : (t new : Bytes) → IsSameString t new → Strung t → Strung new
still_string t new (itself e) h = subst Strung (sym e) h
still_string t new (turned s short free e e') h =
    subst Strung (sym e') (with_marks quotation_mark s refl (ascii_text quotation_mark (omega arith)) (short_free s free short, core_once apostrophe s (omega arith) (subst IsUtf8 e h.1)))
still_string t new (turned_thrice s long free e e') h =
    let one : IsUtf8 (quotation_mark ∷ []) = ascii_text quotation_mark (omega arith) in
    let marks : Bytes = quotation_mark ∷ quotation_mark ∷ quotation_mark ∷ [] in
    subst Strung (sym e') (
      ([], marks ++ (s ++ marks), refl, refl, triple quotation_mark s refl (long_free s free)),
      within_marks marks s (IsUtf8-append (quotation_mark ∷ []) (quotation_mark ∷ quotation_mark ∷ []) one (IsUtf8-append (quotation_mark ∷ []) (quotation_mark ∷ []) one one)) (core_thrice apostrophe s (omega arith) (subst IsUtf8 e h.1)),
    )

pub double_string : (t : Bytes) → Strung t → Strung (with_double t)
double_string t h = still_string t (with_double t) (double_same t h.0) h

-- ---- shorter labels

-- a mark or a backslash
abbrev is_barred : ℕ → ℕ → Bool
is_barred m c = nat_eq c m || nat_eq c backslash

short_front : (m : ℕ) (s : Bytes) → list_any (is_barred m) s ≡ false → IsShort m s → IsShort m (before_colon s)
short_front m [] f h = short_end
short_front m (c ∷ s) f (short_plain a h) =
    by_test (IsShort m) (is_colon c) [] (c ∷ before_colon s) short_end (short_plain a (short_front m s (or_parts (is_barred m c) (list_any (is_barred m) s) f).1 h))
short_front m (c ∷ d ∷ s) f (short_taken h) = absurd (true≢false ((or_parts (nat_eq backslash m) true (or_parts (is_barred m backslash) (list_any (is_barred m) (d ∷ s)) f).0).1))
short_front m (c ∷ d ∷ e ∷ s) f (short_line h) = absurd (true≢false ((or_parts (nat_eq backslash m) true (or_parts (is_barred m backslash) (list_any (is_barred m) (d ∷ e ∷ s)) f).0).1))

low_colon : (c : ℕ) → is_colon c ≡ true → c < 128
low_colon c h = grind (arith, nat_tests)

coded_front : (front s : Bytes) → IsUtf8 (front ++ s) → IsUtf8 (front ++ before_colon s)
coded_front front [] u = u
coded_front front (c ∷ s) u =
    by_case (λ z. IsUtf8 (front ++ z)) (is_colon c) [] (c ∷ before_colon s)
    (λ w. subst IsUtf8 (sym (append-nil front)) (cut_before front c s (low_colon c w) u))
    (λ f. subst IsUtf8 (append_assoc front (c ∷ []) (before_colon s)) (coded_front (front ++ c ∷ []) s (subst IsUtf8 (sym (append_assoc front (c ∷ []) s)) u)))

shorter_body : (m : ℕ) (b : Bytes) → list_any (is_barred m) b ≡ false → Body m b → Body m (unrepeated b)
shorter_body m b f h = by_test (Body m) (is_repeated (before_colon b) (after_colon b)) (before_colon b) b (short_front m b f h.0, coded_front [] b h.1) h

own_byte : (m : ℕ) → nat_eq m m ≡ true
own_byte m = grind (arith, nat_tests)

-- a body that is not empty does not begin with its mark
begins_free : (m k : ℕ) (s b : Bytes) → k ≡ m → k ∷ s ≡ b ++ m ∷ [] → list_any (is_barred m) b ≡ false → s ≡ []
begins_free m k s [] a e f = same_after k m s [] e
begins_free m k s (c ∷ b) a e f =
    let c_is : c ≡ m = sym (same_first k c s (b ++ m ∷ []) e) ∙ a in
    let other : nat_eq c m ≡ false = (or_parts (nat_eq c m) (nat_eq c backslash) (or_parts (is_barred m c) (list_any (is_barred m) b) f).0).0 in
    absurd (true≢false (sym (own_byte m) ∙ (ap (λ z. nat_eq z m) (sym c_is) ∙ other)))

never_empty : (c : ℕ) (s : Bytes) → c ∷ s ≡ [] → ⊥
never_empty c s e = let n : suc (length s) ≡ 0 = ap length e in absurd (omega arith)

body_short : (m : ℕ) (q b : Bytes) → q ≡ m ∷ (b ++ m ∷ []) → list_any (is_barred m) b ≡ false → IsQuoted q → IsShort m b
body_short m q b e f (single k r a i) =
    let k_is : k ≡ m = same_first k m (r ++ k ∷ []) (b ++ m ∷ []) e in
    let rest : r ++ k ∷ [] ≡ b ++ m ∷ [] = same_after k m (r ++ k ∷ []) (b ++ m ∷ []) e in
    let same : r ≡ b = append_cancel_right r b (m ∷ []) (ap (λ z. r ++ z ∷ []) (sym k_is) ∙ rest) in
    subst (λ z. IsShort m z) same (subst (λ z. IsShort z r) k_is i)
body_short m q b e f (triple k r a i) =
    let k_is : k ≡ m = same_first k m (k ∷ k ∷ (r ++ k ∷ k ∷ k ∷ [])) (b ++ m ∷ []) e in
    let rest : k ∷ k ∷ (r ++ k ∷ k ∷ k ∷ []) ≡ b ++ m ∷ [] = same_after k m (k ∷ k ∷ (r ++ k ∷ k ∷ k ∷ [])) (b ++ m ∷ []) e in
    absurd (never_empty k (r ++ k ∷ k ∷ k ∷ []) (begins_free m k (k ∷ (r ++ k ∷ k ∷ k ∷ [])) b k_is rest f))

prefix_free : (p q s : Bytes) (m : ℕ) → m ∷ s ≡ p ++ q → is_quote m ≡ true → is_prefix p ≡ true → p ≡ []
prefix_free [] q s m e a h = refl
prefix_free (c ∷ p) q s m e a h =
    let k : m ≡ c = same_first m c s (p ++ q) e in
    elim (cases_Bool (nat_eq c quotation_mark)) [
      | inl w ↦ absurd (true≢false (sym h ∙ ap (λ z. is_prefix (z ∷ p)) (same_byte c quotation_mark w)))
      | inr w ↦ elim (cases_Bool (nat_eq c apostrophe)) [
        | inl v ↦ absurd (true≢false (sym h ∙ ap (λ z. is_prefix (z ∷ p)) (same_byte c apostrophe v)))
        | inr v ↦ absurd (true≢false (sym a ∙ (ap is_quote k ∙ or_from _ _ w v)))
      ]
    ]

plain_body : (m : ℕ) (b t : Bytes) → t ≡ m ∷ (b ++ m ∷ []) → is_quote m ≡ true → m < 128 → list_any (is_barred m) b ≡ false → Strung t → Body m b
plain_body m b t e a l f ((p, q, g, h, i), u) =
    let none : p ≡ [] = prefix_free p q (b ++ m ∷ []) m (sym e ∙ g) a h in
    let same : q ≡ m ∷ (b ++ m ∷ []) = ap (λ z. z ++ q) (sym none) ∙ (sym g ∙ e) in
    (body_short m q b same f i, core_once m b l (subst IsUtf8 e u))

plain_shorter : (m : ℕ) (t : Bytes) → is_quote m ≡ true → m < 128 → IsUtf8 (m ∷ []) → is_plain_in m t ≡ true → Strung t → Strung (take 1 t ++ (unrepeated (inner t) ++ take 1 t))
plain_shorter m t a l c w h =
    let tests = and_parts (bytes_eq t (m ∷ inner t ++ m ∷ [])) _ w in
    let e : t ≡ m ∷ (inner t ++ m ∷ []) = (bytes_eq-Decides t (m ∷ (inner t ++ m ∷ []))).0 tests.0 in
    let f : list_any (is_barred m) (inner t) ≡ false = not-true _ tests.1 in
    let one : take 1 t ≡ m ∷ [] = ap (take 1) e in
    subst (λ z. Strung (z ++ (unrepeated (inner t) ++ z))) (sym one) (with_marks m (unrepeated (inner t)) a c (shorter_body m (inner t) f (plain_body m (inner t) t e a l f h)))

pub shorter_is_string : (t : Bytes) → Strung t → Strung (shorter_string t)
shorter_is_string t h = elim (cases_Bool (is_plain_in quotation_mark t)) [
  | inl w ↦ rw w (plain_shorter quotation_mark t refl (omega arith) (ascii_text quotation_mark (omega arith)) w h)
  | inr w ↦ elim (cases_Bool (is_plain_in apostrophe t)) [
    | inl v ↦ rw (w, v) (plain_shorter apostrophe t refl (omega arith) (ascii_text apostrophe (omega arith)) v h)
    | inr v ↦ rw (w, v) h
  ]
]
