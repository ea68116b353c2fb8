-- The first token of a line, by the leaves before it.
use Rattle.bz_states.proofs.Words.{[], ◌++◌, ◌+◌, ◌-◌, ◌∙◌, ◌≡◌, ◌≢◌, ◌≤◌, after_front, ap, append_assoc, arith, BeginsLine, drop, false, Front, front_leaf, front_text, indent, inl, inr, IsFront, IsGap, leaf_more, LeavesTo, length, length-append, length-drop, List, next, no_leaf, Place, refl, subst, sym, take, take-append-drop, true, ℕ}
use Rattle.bz_token.specs.{declared.class.Class.TheVariants.End, Tokens.NoToken}
use Rattle.bz_lex.specs.{declared.gap.GapState.GapState, declared.place.Place.TheVariants.Fresh}
use Rattle.bz_lex.proofs.{Forms.form, Forms.Form, Forms.Ended, Gaps.gap_from}

-- what the leaves spell is in front of the rest
leaves_split : (text rest : List ℕ) (p : Place) → LeavesTo text p rest → (front : List ℕ) × (text ≡ front ++ rest)
leaves_split text _ _ no_leaf = ([], refl)
leaves_split text rest _ (leaf_more p q l _ h m e) =
    let w = leaves_split text (l.gap ++ (l.token ++ rest)) p h in
    (w.0 ++ (l.gap ++ l.token), w.1 ∙ ap (λ (u : List ℕ). w.0 ++ u) (sym (append_assoc l.gap l.token rest)) ∙ sym (append_assoc (w.0) (l.gap ++ l.token) rest))

-- one leaf more
pub leaves_more : (text s t : List ℕ) (p q : Place) (f : Front) → LeavesTo text p s → IsFront p f s → q ≡ next p (front_leaf f s) → t ≡ after_front f s → LeavesTo text q t
leaves_more text s t p q f h w e i = rw i (leaf_more p q (front_leaf f s) (after_front f s) (subst (LeavesTo text p) (sym (front_text f s w.within)) h) w.may e)

pub rest_shorter : (text s t : List ℕ) (f : Front) → t ≡ after_front f s → length s ≤ length text → length t ≤ length text
rest_shorter text s t f e le = rw (e, length-drop, length-drop) (omega arith)

-- the first token of a line and its gap
first_token : (s : List ℕ) (f : Front) → IsFront Fresh f s → f.class ≢ End → IsGap true false (take f.gap s) × (NoToken (drop f.gap s) → ⊥)
first_token s f w no_end = by_form x.2
  where
    x : (q : GapState) × Ended true q (take f.gap s) ((front_leaf f s).token ++ after_front f s) × Form Fresh q (front_leaf f s) (after_front f s)
    x = form Fresh (front_leaf f s) (after_front f s) w.may

    by_form : Form Fresh x.0 (front_leaf f s) (after_front f s) → IsGap true false (take f.gap s) × (NoToken (drop f.gap s) → ⊥)
    by_form (inl b) = (gap_from true false x.0 (take f.gap s) x.1.taken (rw b.closed refl), λ none. none f.class (front_leaf f s).token (after_front f s) (take-append-drop f.token (drop f.gap s)) b.token)
    by_form (inr e) = absurd (no_end e.class)

-- the first token of a line, at a byte
pub line_found : (text s gap blanks : List ℕ) (p : Place) (f : Front) (at : ℕ) → LeavesTo text p s → length s ≤ length text → p ≡ Fresh → IsFront p f s → f.class ≢ End → gap ≡ take f.gap s → blanks ≡ indent gap
    → at ≡ length text - length s + f.gap → (front : List ℕ) × (rest : List ℕ) × (text ≡ front ++ rest) × (length front ≡ at) × BeginsLine text rest blanks
line_found text s gap blanks p f at h le fresh w no_end is i n =
    let split = leaves_split text s p h in
    let back : List ℕ = drop f.gap s in
    let parts : take f.gap s ++ back ≡ s = take-append-drop f.gap s in
    let whole : text ≡ (split.0 ++ take f.gap s) ++ back = split.1 ∙ ap (λ (t : List ℕ). split.0 ++ t) (sym parts) ∙ sym (append_assoc (split.0) (take f.gap s) back) in
    let sizes : length text ≡ length (split.0 ++ take f.gap s) + length back = ap length whole ∙ length-append (split.0 ++ take f.gap s) back in
    let left : length back ≡ length s - f.gap = length-drop f.gap s in
    let within = w.within in
    let at_fresh : IsFront Fresh f s = subst (λ (q : Place). IsFront q f s) fresh w in
    let token = first_token s f at_fresh no_end in (
      split.0 ++ take f.gap s,
      back,
      whole,
      omega arith,
      record {
        gap = take f.gap s;
        leaves = subst (LeavesTo text Fresh) (sym parts) (subst (λ (q : Place). LeavesTo text q s) fresh h);
        is_gap = token.0;
        indent = sym (i ∙ ap indent is);
        token = token.1;
      },
    )
