-- The gaps that the layout makes say what they were made of.
use Rattle.bz_layout.proofs.Words.{[], ◌++◌, ◌+◌, ◌∙◌, ◌∷◌, ◌≡◌, after_first_line, AllByRecursion, ap, append-nil, arith, at_margin, Bytes, comments_in, ended, false, first_comment, GapLine, Indented, IsComment, IsOneLine, line_feed, LineRest, lines_of, List, margin_lines, MaybeComment, ne_eqb, new_line_at, None, Option, refl, replicate, rest_of_line, Some, space, suc, suffix_text, sym, trimmed, true, zero, ℕ}
use Rattle.bz_items.specs.Characters.{number_sign}
use Rattle.bz_value.specs.Gaps.{lines_from}
use Rattle.bz_layout.proofs.Margins.{rest_one_line}

-- a line that a newline ends
abbrev pub ended_line : ℕ → Option Bytes → GapLine
ended_line indent comment = record { indent = indent; comment = comment; newline = true }

-- comments at their margins, as lines of a gap
abbrev pub lines_at : Indented → List GapLine
lines_at [] = []
lines_at (c ∷ cs) = ended_line c.0 (Some c.1) ∷ lines_at cs

-- comments at one margin
abbrev pub commented : ℕ → List Bytes → List GapLine
commented m texts = lines_at (at_margin m texts)

pub commented_back : (m : ℕ) (texts : List Bytes) → comments_in (commented m texts) ≡ texts
commented_back m [] = refl
commented_back m (text ∷ texts) = ap (λ z. text ∷ z) (commented_back m texts)

-- ---- comments

words_before_newline : (w rest : Bytes) → IsOneLine w → rest_of_line (w ++ (line_feed ∷ rest)) ≡ record { words = w; newline = true; lines = lines_of rest }
words_before_newline [] rest h = refl
words_before_newline (c ∷ w) rest h =
    rw (ne_eqb c line_feed h.0) (ap (λ z. let r : LineRest = record { words = c ∷ z.words; newline = z.newline; lines = z.lines } in r) (words_before_newline w rest h.1))

words_at_end : (w : Bytes) → IsOneLine w → rest_of_line w ≡ record { words = w; newline = false; lines = [] }
words_at_end [] h = refl
words_at_end (c ∷ w) h = rw (ne_eqb c line_feed h.0) (ap (λ z. let r : LineRest = record { words = c ∷ z.words; newline = z.newline; lines = z.lines } in r) (words_at_end w h.1))

-- the lines of a gap that begins with a comment
abbrev lines_after_sign : ℕ → LineRest → List GapLine
lines_after_sign m r = record { indent = m; comment = Some (trimmed (number_sign ∷ r.words)); newline = r.newline } ∷ r.lines

kept : (text : Bytes) (h : IsComment text) → trimmed (number_sign ∷ h.begins.0) ≡ text
kept text h = ap trimmed (sym h.begins.1) ∙ h.no_blank_end

pub comment_line : (m : ℕ) (text rest : Bytes) → IsComment text → lines_from m (text ++ (line_feed ∷ rest)) ≡ ended_line m (Some text) ∷ lines_of rest
comment_line m text rest h =
    ap (λ z. lines_from m (z ++ (line_feed ∷ rest))) h.begins.1 ∙ (ap (lines_after_sign m) (words_before_newline h.begins.0 rest (rest_one_line text h)) ∙ ap (λ z. ended_line m (Some z) ∷ lines_of rest) (kept text h))

last_comment : (m : ℕ) (text : Bytes) → IsComment text → lines_from m text ≡ record { indent = m; comment = Some text; newline = false } ∷ []
last_comment m text h =
    ap (lines_from m) h.begins.1 ∙
    (ap (lines_after_sign m) (words_at_end h.begins.0 (rest_one_line text h)) ∙ ap (λ z. let l : GapLine = record { indent = m; comment = Some z; newline = false } in l ∷ []) (kept text h))

-- ---- margins

-- each space before a comment counts
spaces_counted : (n m : ℕ) (gap : Bytes) → lines_from n (replicate m space ++ gap) ≡ lines_from (n + m) gap
spaces_counted n zero gap = let all : n ≡ n + 0 = omega arith in ap (λ k. lines_from k gap) all
spaces_counted n (suc m) gap = let up : suc n + m ≡ n + suc m = omega arith in spaces_counted (suc n) m gap ∙ ap (λ k. lines_from k gap) up

pub margin_counted : (m : ℕ) (gap : Bytes) → lines_of (replicate m space ++ gap) ≡ lines_from m gap
margin_counted m gap = let all : 0 + m ≡ m = omega arith in spaces_counted 0 m gap ∙ ap (λ k. lines_from k gap) all

-- spaces alone say no line
pub spaces_are_none : (m : ℕ) → lines_of (replicate m space) ≡ []
spaces_are_none m = ap lines_of (sym (append-nil (replicate m space))) ∙ margin_counted m []

-- ---- inside brackets

pub lines_line : (m : ℕ) → lines_of (new_line_at m) ≡ ended_line 0 None ∷ []
lines_line m = ap (λ z. ended_line 0 None ∷ z) (spaces_are_none m)

pub lines_above : (m : ℕ) (texts : List Bytes) → AllByRecursion IsComment texts → lines_of (replicate m space ++ margin_lines m texts) ≡ commented m texts
lines_above m [] h = margin_counted m []
lines_above m (text ∷ texts) h =
    margin_counted m (margin_lines m (text ∷ texts)) ∙ (comment_line m text (replicate m space ++ margin_lines m texts) h.0 ∙ ap (λ z. ended_line m (Some text) ∷ z) (lines_above m texts h.1))

-- two spaces are before a suffix
abbrev pub suffix_indent : Option Bytes → ℕ
suffix_indent None = 0
suffix_indent (Some text) = 2

-- a gap that goes on with a new line, after a suffix
suffix_first : (suffix : Option Bytes) (rest : Bytes) → MaybeComment suffix → lines_of (suffix_text suffix ++ (line_feed ∷ rest)) ≡ ended_line (suffix_indent suffix) suffix ∷ lines_of rest
suffix_first None rest h = refl
suffix_first (Some text) rest h = comment_line 2 text rest h

-- before an item
pub lines_item : (suffix : Option Bytes) (texts : List Bytes) (m : ℕ) → MaybeComment suffix → AllByRecursion IsComment texts →
    lines_of (suffix_text suffix ++ (new_line_at m ++ margin_lines m texts)) ≡ ended_line (suffix_indent suffix) suffix ∷ commented m texts
lines_item suffix texts m h k = suffix_first suffix (replicate m space ++ margin_lines m texts) h ∙ ap (λ z. ended_line (suffix_indent suffix) suffix ∷ z) (lines_above m texts k)

ended_begins : (n m : ℕ) (texts : List Bytes) → AllByRecursion IsComment texts → (rest : Bytes) × (ended n m texts ≡ line_feed ∷ rest) × (lines_of rest ≡ commented n texts)
ended_begins n m [] h = (replicate m space, refl, spaces_are_none m)
ended_begins n m (text ∷ texts) h =
    let more = ended_begins n m texts h.1 in (
      replicate n space ++ (text ++ ended n m texts),
      refl,
      margin_counted n (text ++ ended n m texts) ∙ (ap (λ z. lines_from n (text ++ z)) more.1 ∙ (comment_line n text more.0 h.0 ∙ ap (λ z. ended_line n (Some text) ∷ z) more.2)),
    )

-- before a closing bracket
pub lines_end : (suffix : Option Bytes) (texts : List Bytes) (n m : ℕ) → MaybeComment suffix → AllByRecursion IsComment texts → lines_of (suffix_text suffix ++ ended n m texts) ≡ ended_line (suffix_indent suffix) suffix ∷ commented n texts
lines_end suffix texts n m h k =
    let own = ended_begins n m texts k in
    ap (λ z. lines_of (suffix_text suffix ++ z)) own.1 ∙ (suffix_first suffix own.0 h ∙ ap (λ z. ended_line (suffix_indent suffix) suffix ∷ z) own.2)

-- ---- before a newline

abbrev pub suffix_line : Option Bytes → List GapLine
suffix_line None = []
suffix_line (Some text) = record { indent = 2; comment = Some text; newline = false } ∷ []

pub lines_after : (suffix : Option Bytes) → MaybeComment suffix → lines_of (suffix_text suffix) ≡ suffix_line suffix
lines_after None h = refl
lines_after (Some text) h = last_comment 2 text h

-- it comes back, and nothing is left
pub suffix_after : (suffix : Option Bytes) → first_comment (suffix_line suffix) ≡ suffix
suffix_after None = refl
suffix_after (Some text) = refl

pub nothing_left : (suffix : Option Bytes) → after_first_line (suffix_line suffix) ≡ []
nothing_left None = refl
nothing_left (Some text) = refl
