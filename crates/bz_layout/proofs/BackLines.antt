-- The lines of the gaps that the layout makes of statements.
use Rattle.bz_layout.proofs.Words.{[], ◌&&◌, ◌++◌, ◌∙◌, ◌∷◌, ◌≡◌, AllByRecursion, and-false, ap, append-nil, append_assoc, are_indents, at_margin, Bytes, false, gap_to_margin, GapLine, indent, Indented, indented_lines, is_indent, IsComment, length, length-replicate, line_feed, lines_of, List, margin_lines, refl, replicate, Some, space, suc, sym, true, zero, ℕ}
use Rattle.bz_layout.proofs.Gapped.{ended_line, lines_at, commented, comment_line, lines_above, margin_counted}
use Rattle.bz_layout.proofs.Waiting.{AreLines, lines_append}

abbrev pub ReadLines : Type 0
ReadLines = List GapLine

-- ---- whole lines

pub no_lines : AreLines [] []
no_lines rest = refl

-- a comment on a line of its own
abbrev own_line : ℕ → Bytes → Bytes
own_line m text = replicate m space ++ (text ++ line_feed ∷ [])

one_line : (m : ℕ) (text : Bytes) → IsComment text → AreLines (own_line m text) (ended_line m (Some text) ∷ [])
one_line m text h rest =
    ap lines_of (append_assoc (replicate m space) (text ++ line_feed ∷ []) rest ∙ ap (λ z. replicate m space ++ z) (append_assoc text (line_feed ∷ []) rest))
    ∙ (margin_counted m (text ++ (line_feed ∷ rest)) ∙ comment_line m text rest h)

abbrev pub AreLeft : Indented → Type 0
AreLeft cs = AllByRecursion (λ c. IsComment c.1) cs

pub left_lines : (cs : Indented) → AreLeft cs → AreLines (indented_lines cs) (lines_at cs)
left_lines [] h = no_lines
left_lines (c ∷ cs) h = lines_append (own_line c.0 c.1) (indented_lines cs) (ended_line c.0 (Some c.1) ∷ []) (lines_at cs) (one_line c.0 c.1 h.0) (left_lines cs h.1)

pub left_at : (m : ℕ) (texts : List Bytes) → AllByRecursion IsComment texts → AreLeft (at_margin m texts)
left_at m [] h = tt
left_at m (text ∷ texts) h = (h.0, left_at m texts h.1)

pub lines_joined : (cs ds : Indented) → lines_at (cs ++ ds) ≡ lines_at cs ++ lines_at ds
lines_joined [] ds = refl
lines_joined (c ∷ cs) ds = ap (λ z. ended_line c.0 (Some c.1) ∷ z) (lines_joined cs ds)

-- ---- the gap before the first token of what is at a margin

pub gap_lines : (m : ℕ) (gap : Bytes) (ls : ReadLines) (texts : List Bytes) → AreLines gap ls → AllByRecursion IsComment texts → lines_of (gap_to_margin m gap texts) ≡ ls ++ commented m texts
gap_lines m gap ls texts h k = h (replicate m space ++ margin_lines m texts) ∙ ap (λ z. ls ++ z) (lines_above m texts k)

newline_there : (text rest : Bytes) → are_indents (text ++ line_feed ∷ rest) ≡ false
newline_there [] rest = refl
newline_there (c ∷ text) rest = ap (λ z. is_indent c && z) (newline_there text rest) ∙ and-false (is_indent c)

after_newline : (text rest : Bytes) → indent (text ++ line_feed ∷ rest) ≡ indent rest
after_newline [] rest = refl
after_newline (c ∷ text) rest = rw (newline_there (c ∷ text) rest) (after_newline text rest)

spaces_indent : (m : ℕ) → are_indents (replicate m space) ≡ true
spaces_indent zero = refl
spaces_indent (suc m) = spaces_indent m

margin_indent : (m : ℕ) → indent (replicate m space) ≡ replicate m space
margin_indent zero = refl
margin_indent (suc m) = rw (spaces_indent (suc m)) refl

pub last_indent : (m : ℕ) (texts : List Bytes) → indent (replicate m space ++ margin_lines m texts) ≡ replicate m space
last_indent m [] = ap indent (append-nil (replicate m space)) ∙ margin_indent m
last_indent m (text ∷ texts) =
    let rest : Bytes = replicate m space ++ margin_lines m texts in
    ap indent (sym (append_assoc (replicate m space) text (line_feed ∷ rest))) ∙ (after_newline (replicate m space ++ text) rest ∙ last_indent m texts)

-- it is indented to that margin
pub gap_margin : (m : ℕ) (texts : List Bytes) → length (indent (gap_to_margin m [] texts)) ≡ m
gap_margin m texts = ap length (last_indent m texts) ∙ length-replicate m space
