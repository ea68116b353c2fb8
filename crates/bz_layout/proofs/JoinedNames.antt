-- Names joined by dots: a row by its first part and the tokens that follow, and what follows the innermost of forms.
use Rattle.bz_layout.proofs.Words.{[], ◌++◌, ◌+◌, ◌-◌, ◌<◌, ◌∙◌, ◌∷◌, ◌≡◌, ◌≤◌, ℕ, and_parts, ap, append-nil, append_assoc, arith, Bool, Bytes, Drafted, drop, drop_more, Expr, Form, Form', frame, fronts, gap_after, get_or, has_brackets, is_compound, is_lone_token, Kind, Kind as k, kind_number, length, length-drop, Lines, List, list_all, map, map-append, margin_after, past_first, past_front, pushed, refl, row_text, row_written, same_kind, suc, sym, take, take_all, text_in, Token, true}
use Rattle.bz_value.specs.declared.value.Expr.TheVariants as e
use Rattle.bz_rule.specs.Values as v
use Rattle.bz_rule.specs.private.Named.{fronts_among}
use Rattle.bz_rule.proofs.Forms.{fronts_Form}
use Rattle.bz_layout.proofs.{Pushing.pushed_none, Pushing.pushed_twice, Writing.row_first, Writing.row_form, Writing.three_pushed}

all_left : (ys : List Expr) (i : ℕ) → length (drop i ys) ≤ length ys - i
all_left ys i = omega (arith, length-drop i ys)

-- a row by its first part, as a list that is taken apart
first_and_rest : (form : Form) (xs : List Expr) (d x : Expr) → xs ≡ form.parts → 1 ≤ length xs → get_or xs 0 d ≡ x → form.parts ≡ x ∷ drop 1 xs
first_and_rest form [] d x same l is = absurd (omega (arith, l))
first_and_rest form (y ∷ ys) d x same l is = sym same ∙ ap (λ z. z ∷ ys) is

pub front_is_less : (form front : Form) (xs : List Expr) (d : Expr) → xs ≡ form.parts → 1 ≤ length xs → get_or xs 0 d ≡ e.Form front → fronts (e.Form front) < fronts (e.Form form)
front_is_less form front xs d same l is =
    let all : fronts (e.Form form) ≡ suc (fronts (e.Form front)) = fronts_Form form ∙ ap (λ ys. suc (fronts_among ys)) (first_and_rest form xs d (e.Form front) same l is) in
    omega (arith, all)

-- ---- the loops

-- what is left before the place of a token: the part before it, and all from there
past_next : (kind : Kind) (open_break : Bool) (m : ℕ) (xs : List Expr) (i : ℕ) (x y : Expr) → 1 ≤ i → i < length xs →
    past_first kind open_break m (drop (i - 1) xs) ≡ gap_after kind open_break m (get_or xs (i - 1) x) (drop i xs) ++ (v.text_of (get_or xs i y) ++ past_first kind open_break m (drop i xs))
past_next kind open_break m xs i x y one l =
    let from : drop i xs ≡ get_or xs i y ∷ drop (i + 1) xs = drop_more xs i y l in
    let first : Expr = get_or xs (i - 1) x in
    ap (past_first kind open_break m) (drop_more xs (i - 1) x (omega (arith, one, l)) ∙ ((let at : i - 1 + 1 ≡ i = omega (arith, one) in ap (λ n. first ∷ drop n xs) at) ∙ ap (λ ys. first ∷ ys) from)) ∙
    ap (λ ys. gap_after kind open_break m first ys ++ (v.text_of (get_or xs i y) ++ past_first kind open_break m ys)) (sym from)

pub past_turn : (d before_gap after_gap after_text : Drafted) (kind : Kind) (open_break : Bool) (m : ℕ) (x y : Expr) (text : Bytes) (xs left : List Expr) (i : ℕ) →
    pushed before_gap (past_first kind open_break m (drop (i - 1) xs)) ≡ d → 1 ≤ i → i < length xs → left ≡ take (length xs - i) (drop i xs) → x ≡ get_or xs (i - 1) x → y ≡ get_or xs i y → text ≡ v.text_of y →
    after_gap ≡ pushed before_gap (gap_after kind open_break m x left) → after_text ≡ pushed after_gap text → pushed after_text (past_first kind open_break m (drop (i + 1 - 1) xs)) ≡ d
past_turn d before_gap after_gap after_text kind open_break m x y text xs left i so_far one l left_is is_x is_y is_text gap pushed_text =
    let rest : Bytes = past_first kind open_break m (drop i xs) in
    let gap_is : gap_after kind open_break m x left ≡ gap_after kind open_break m (get_or xs (i - 1) x) (drop i xs) =
    ap (λ z. gap_after kind open_break m z left) is_x ∙ ap (gap_after kind open_break m (get_or xs (i - 1) x)) (left_is ∙ take_all (length xs - i) (drop i xs) (all_left xs i)) in
    (let same : i + 1 - 1 ≡ i = omega arith in ap (λ n. pushed after_text (past_first kind open_break m (drop n xs))) same) ∙
    (three_pushed before_gap after_gap after_text _ _ rest (past_first kind open_break m (drop (i - 1) xs)) (gap ∙ ap (pushed before_gap) gap_is) (pushed_text ∙ ap (pushed after_gap) (is_text ∙ ap v.text_of is_y))
    (past_next kind open_break m xs i x y one l) ∙ so_far)

one_left : (kind : Kind) (open_break : Bool) (m : ℕ) (xs : List Expr) → length xs ≤ 1 → past_first kind open_break m xs ≡ []
one_left kind open_break m [] l = refl
one_left kind open_break m (x ∷ []) l = refl
one_left kind open_break m (x ∷ y ∷ xs) l = absurd (omega (arith, l))

pub past_end : (d : Drafted) (kind : Kind) (open_break : Bool) (m : ℕ) (xs : List Expr) (i : ℕ) → length xs ≤ i → pushed d (past_first kind open_break m (drop (i - 1) xs)) ≡ d
past_end d kind open_break m xs i l = ap (pushed d) (one_left kind open_break m (drop (i - 1) xs) (omega (arith, length-drop (i - 1) xs, l))) ∙ pushed_none d

-- what follows the innermost of forms, the outermost first
abbrev pub after_all : ℕ → List Form → Bytes
after_all m [] = []
after_all m (form ∷ forms) = after_all m forms ++ past_front m form

after_pushed : (m : ℕ) (forms : List Form) (form : Form) → after_all m (forms ++ form ∷ []) ≡ past_front m form ++ after_all m forms
after_pushed m [] form = sym (append-nil (past_front m form))
after_pushed m (outer ∷ forms) form = ap (λ t. t ++ past_front m outer) (after_pushed m forms form) ∙ append_assoc (past_front m form) (after_all m forms) (past_front m outer)

module _ (mode : Lines) where
  token_text : (x : Expr) (m : ℕ) → is_lone_token x ≡ true → text_in mode x m ≡ v.text_of x
  token_text (Token t) m h = refl
  token_text (Form' kind s parts s' items end split open_break comments) m h = absurd cc

  pub row_tokens : (kind : Kind) (open_break : Bool) (m n : ℕ) (x : Expr) (xs : List Expr) → list_all is_lone_token xs ≡ true →
      row_text mode kind open_break m n (x ∷ xs) ≡ text_in mode x n ++ past_first kind open_break m (x ∷ xs)
  row_tokens kind open_break m n x [] h = row_first mode kind open_break m n x []
  row_tokens kind open_break m n x (y ∷ ys) h =
      let w = and_parts (is_lone_token y) (list_all is_lone_token ys) h in
      row_first mode kind open_break m n x (y ∷ ys) ∙
      ap (λ t. text_in mode x n ++ (gap_after kind open_break m x (y ∷ ys) ++ t))
      (row_tokens kind open_break m (margin_after open_break m x) y ys w.1 ∙ ap (λ t. t ++ past_first kind open_break m (y ∷ ys)) (token_text y (margin_after open_break m x) w.0))

  pub front_row : (form front : Form) (xs : List Expr) (d : Expr) → xs ≡ form.parts → 1 ≤ length xs → get_or xs 0 d ≡ e.Form front → kind_number front.kind ≡ kind_number k.Dot →
      true ≡ list_all is_lone_token (take (length xs - 1) (drop 1 xs)) → (m : ℕ) → row_written mode m form ≡ row_written mode m front ++ past_front m form
  front_row form front xs d same l is dot all m =
      let tokens : List Expr = drop 1 xs in
      let parts : form.parts ≡ e.Form front ∷ tokens = first_and_rest form xs d (e.Form front) same l is in
      ap (row_text mode form.kind form.open_break m m) parts ∙
      (row_tokens form.kind form.open_break m m (e.Form front) tokens (sym (all ∙ ap (list_all is_lone_token) (take_all (length xs - 1) tokens (all_left xs 1)))) ∙
      (ap (λ t. t ++ past_first form.kind form.open_break m (e.Form front ∷ tokens)) (row_form mode front m (ap (λ kind. has_brackets (frame kind)) (same_kind front.kind k.Dot dot)) (ap (λ kind. is_compound (frame kind)) (same_kind front.kind k.Dot dot))) ∙
      ap (λ ys. row_written mode m front ++ past_first form.kind form.open_break m ys) (sym parts)))

  -- a row of tokens
  leaves_row : (kind : Kind) (open_break : Bool) (m : ℕ) (xs : List Expr) → list_all is_lone_token xs ≡ true → row_text mode kind open_break m m xs ≡ v.first_text xs ++ past_first kind open_break m xs
  leaves_row kind open_break m [] all = refl
  leaves_row kind open_break m (x ∷ xs) all =
      let w = and_parts (is_lone_token x) (list_all is_lone_token xs) all in
      row_tokens kind open_break m m x xs w.1 ∙ ap (λ t. t ++ past_first kind open_break m (x ∷ xs)) (token_text x m w.0)

  -- the innermost of forms is written, and those that it is in are left
  pub leaves_turn : (form at : Form) (xs : List Expr) (m : ℕ) (out one two : Drafted) (text rest : Bytes) → xs ≡ at.parts → list_all is_lone_token xs ≡ true → row_written mode m form ≡ row_written mode m at ++ rest →
      text ≡ v.first_text xs → one ≡ pushed out text → two ≡ pushed one (past_front m at) → pushed two rest ≡ pushed out (row_written mode m form)
  leaves_turn form at xs m out one two text rest same all so_far is first second =
      let leaves : row_written mode m at ≡ v.first_text xs ++ past_front m at = rw (sym same) (leaves_row at.kind at.open_break m xs all) in
      three_pushed out one two text (past_front m at) rest (row_written mode m form) first second
      (so_far ∙ (ap (λ t. t ++ rest) leaves ∙ (ap (λ t. (t ++ past_front m at) ++ rest) (sym is) ∙ append_assoc text (past_front m at) rest)))

  -- ---- the loops

  module _ {R : Type 0} (now : R → Form) (m : ℕ) where
    all_pushed : (xs : List R) (x : R) → after_all m (map now (xs ++ x ∷ [])) ≡ past_front m (now x) ++ after_all m (map now xs)
    all_pushed xs x = ap (after_all m) (map-append now xs (x ∷ [])) ∙ after_pushed m (map now xs) (now x)

    pub front_turn : (form front : Form) (old new : List R) (x : R) → new ≡ old ++ x ∷ [] → row_written mode m form ≡ row_written mode m (now x) ++ after_all m (map now old) →
        row_written mode m (now x) ≡ row_written mode m front ++ past_front m (now x) → row_written mode m form ≡ row_written mode m front ++ after_all m (map now new)
    front_turn form front old new x is so_far here =
        so_far ∙ (ap (λ t. t ++ after_all m (map now old)) here ∙ (append_assoc (row_written mode m front) (past_front m (now x)) (after_all m (map now old)) ∙
        ap (λ t. row_written mode m front ++ t) (sym (ap (λ xs. after_all m (map now xs)) is ∙ all_pushed old x))))

    pub next_turn : (d before after : Drafted) (old new : List R) (x : R) → old ≡ new ++ x ∷ [] → pushed before (after_all m (map now old)) ≡ d →
        after ≡ pushed before (past_front m (now x)) → pushed after (after_all m (map now new)) ≡ d
    next_turn d before after old new x is so_far here =
        ap (λ t. pushed t (after_all m (map now new))) here ∙ (pushed_twice before (past_front m (now x)) (after_all m (map now new)) ∙
        (ap (pushed before) (sym (ap (λ xs. after_all m (map now xs)) is ∙ all_pushed new x)) ∙ so_far))

    pub all_turned : (d out : Drafted) (left : List R) → length left ≡ 0 → pushed out (after_all m (map now left)) ≡ d → out ≡ d
    all_turned d out [] none so_far = sym (pushed_none out) ∙ so_far
    all_turned d out (x ∷ left) none so_far = absurd (omega (arith, none))
