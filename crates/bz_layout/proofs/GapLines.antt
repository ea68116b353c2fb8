-- Whole lines in the gaps of the layout: a line may begin after them, and its indent is what is after them.
use Rattle.bz_layout.proofs.Words.{[], ◌&&◌, ◌++◌, ◌∙◌, ◌∷◌, ◌≡◌, AllByRecursion, and-false, ap, append_assoc, are_indents, Begins, Bool, Bytes, false, gap_to_margin, if◌then◌else◌, indent, Indented, indented_lines, is_flush, is_indent, IsComment, line_feed, List, margin_lines, no_such, refl, replicate, space, subst, true, ℕ}
use Rattle.bz_layout.proofs.BackLines.{AreLeft, last_indent}
use Rattle.bz_layout.proofs.Margins.{FitsAt, FitsFlush, first_append, first_nothing, flush_line, inner_nothing, inner_above, inner_append, inner_spaces, inner_comment}

-- ---- indents

no_blank : (b : Bool) → (if b then false else true) ≡ true → b ≡ false
no_blank true h = no_such h
no_blank false h = refl

not_all : (x : ℕ) (a rest : Bytes) → is_flush (x ∷ a) ≡ true → are_indents (x ∷ (a ++ rest)) ≡ false
not_all x [] rest h = ap (λ z. z && are_indents rest) (no_blank (is_indent x) h)
not_all x (y ∷ a) rest h = ap (λ z. is_indent x && z) (not_all y a rest h) ∙ and-false (is_indent x)

-- what ends with no space and no tab has none of the indent
flush_indent : (a rest : Bytes) → is_flush a ≡ true → indent (a ++ rest) ≡ indent rest
flush_indent [] rest h = refl
flush_indent (x ∷ []) rest h = rw (not_all x [] rest h) refl
flush_indent (x ∷ y ∷ a) rest h = rw (not_all x (y ∷ a) rest h) (flush_indent (y ∷ a) rest h)

-- ---- lines

-- comments, each on a line of its own
pub comments_flush : (cs : Indented) → AreLeft cs → FitsFlush (indented_lines cs)
comments_flush [] h = first_nothing
comments_flush (c ∷ cs) h =
    let own : Bytes = replicate c.0 space ++ (c.1 ++ line_feed ∷ []) in
    first_append own (indented_lines cs)
    (inner_append (replicate c.0 space) (c.1 ++ line_feed ∷ []) (inner_spaces c.0) (inner_comment c.1 [] h.0 inner_nothing), subst (λ z. is_flush z ≡ true) (append_assoc (replicate c.0 space) c.1 (line_feed ∷ [])) (flush_line (replicate c.0 space ++ c.1) [] refl))
    (comments_flush cs h.1)

-- A gap before what begins a line at a margin.
pub record ToMargin (m : ℕ) (gap : Bytes) : Type 0 where
  pub indented : indent gap ≡ replicate m space
  pub fits : FitsAt Begins gap

pub to_margin : (m : ℕ) (lines : Bytes) (texts : List Bytes) → FitsFlush lines → AllByRecursion IsComment texts → ToMargin m (gap_to_margin m lines texts)
to_margin m lines texts h e = record {
  indented = flush_indent lines (replicate m space ++ margin_lines m texts) h.1 ∙ last_indent m texts;
  fits = inner_append lines (replicate m space ++ margin_lines m texts) h.0 (inner_append (replicate m space) (margin_lines m texts) (inner_spaces m) (inner_above m texts e));
}
