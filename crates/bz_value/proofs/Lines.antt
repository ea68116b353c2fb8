-- Lines of a gap, read from the left.
use Rattle.bz_value.proofs.Words.{[], ◌++◌, ◌+◌, ◌-◌, ◌<◌, ◌∙◌, ◌∷◌, ◌≡◌, ◌≢◌, ◌≤◌, add-one, ap, arith, Bytes, drop, drop_all, eqb, false, get_or, is_blank, length, line_feed, lines_of, ne_eqb, refl, rest_of_line, suc, sym, take, take_more, trimmed, true, with_first, zero, ℕ}

abbrev pub NoneBefore : ℕ → Bytes → Type 0
NoneBefore n text = (k : ℕ) → k < n → get_or text k 0 ≢ line_feed

not_first : (c n : ℕ) (g : Bytes) → NoneBefore (suc n) (c ∷ g) → eqb c line_feed ≡ false
not_first c n g h = ne_eqb c line_feed (h 0 (omega arith))

-- a line ends at the first newline
pub line_breaks : (text : Bytes) (n : ℕ) → NoneBefore n text → n < length text → get_or text n 0 ≡ line_feed → rest_of_line text ≡ record { words = take n text; newline = true; lines = lines_of (drop (suc n) text) }
line_breaks [] n h l e = absurd (omega arith)
line_breaks (c ∷ g) zero h l e = rw e refl
line_breaks (c ∷ g) (suc n) h l e =
    rw (not_first c n g h) (ap (λ r. record { words = c ∷ r.words; newline = r.newline; lines = r.lines }) (line_breaks g n (λ k i. h (suc k) (omega arith)) (omega arith) e))

-- or at the end
pub line_stops : (text : Bytes) → NoneBefore (length text) text → rest_of_line text ≡ record { words = text; newline = false; lines = [] }
line_stops [] h = refl
line_stops (c ∷ g) h =
    rw (not_first c (length g) g h) (ap (λ r. record { words = c ∷ r.words; newline = r.newline; lines = r.lines }) (line_stops g (λ k i. h (suc k) (omega arith))))

pub none_left : (text : Bytes) → [] ≡ lines_of (drop (length text + 1) text)
none_left text = ap lines_of (sym (drop_all (length text + 1) text (omega arith)))

-- ---- blanks at the end

pub blank_off : (s : Bytes) (c : ℕ) → is_blank c ≡ true → trimmed (s ++ c ∷ []) ≡ trimmed s
blank_off [] c h = rw h refl
blank_off (d ∷ s) c h = ap (with_first d) (blank_off s c h)

not_blank : (s : Bytes) (c : ℕ) → is_blank c ≡ false → trimmed (s ++ c ∷ []) ≡ s ++ c ∷ []
not_blank [] c h = rw h refl
not_blank (d ∷ []) c h = ap (with_first d) (not_blank [] c h)
not_blank (d ∷ e ∷ s) c h = ap (with_first d) (not_blank (e ∷ s) c h)

last_of : (text : Bytes) (n : ℕ) → 0 < n → n ≤ length text → take n text ≡ take (n - 1) text ++ get_or text (n - 1) 0 ∷ []
last_of text zero p l = absurd (omega arith)
last_of text (suc n) p l =
    let e : suc n - 1 ≡ n = omega arith in
    ap (λ k. take k text) (sym (add-one n)) ∙ (take_more text n 0 (omega arith) ∙ ap (λ k. take k text ++ get_or text k 0 ∷ []) (sym e))

-- the byte at the end of a front is blank, or not
pub blank_last : (text : Bytes) (n : ℕ) → 0 < n → n ≤ length text → is_blank (get_or text (n - 1) 0) ≡ true → trimmed (take (n - 1) text) ≡ trimmed (take n text)
blank_last text n p l b = sym (ap trimmed (last_of text n p l) ∙ blank_off (take (n - 1) text) (get_or text (n - 1) 0) b)

pub solid_last : (text : Bytes) (n : ℕ) → 0 < n → n ≤ length text → is_blank (get_or text (n - 1) 0) ≡ false → take n text ≡ trimmed (take n text)
solid_last text n p l b = last_of text n p l ∙ (sym (not_blank (take (n - 1) text) (get_or text (n - 1) 0) b) ∙ ap trimmed (sym (last_of text n p l)))
