-- Reading leaves one after the other.
use Rattle.bz_lex.proofs.Words.{[], ◌*◌, ◌++◌, ◌+◌, ◌<◌, ◌∷◌, ◌≡◌, ◌≢◌, ◌≤◌, After, after_front, after_token, append_assoc, arith, Bool, Class, deeper, drop, End, end, end_at_once, false, first, Fresh, Front, front_leaf, if◌then◌else◌, inner, Inside, is_closing, is_opening, IsToken, Keyword, Last, later, Leaf, length, length-append, List, Mark, May, Name, Newline, newline, next, no_newline, Number, Over, Place, refl, same_depth, shallower, spell_leaves, String, suc, take-append-drop, true, zero, ℕ}
use Rattle.bz_lex.proofs.Tokens.{begins}

pub spell_leaves-append : (ls ms : List Leaf) → spell_leaves (ls ++ ms) ≡ spell_leaves ls ++ spell_leaves ms
spell_leaves-append [] ms = refl
spell_leaves-append (l ∷ ls) ms = rw (spell_leaves-append ls ms, append_assoc l.gap (l.token ++ spell_leaves ls) (spell_leaves ms), append_assoc l.token (spell_leaves ls) (spell_leaves ms)) refl

-- ---- what is left to read

abbrev pub rank : Place → ℕ
rank Over = 0
rank Last = 1
rank _ = 2

rank_below : (p : Place) → rank p ≤ 2
rank_below Fresh = omega arith
rank_below After = omega arith
rank_below (Inside n) = omega arith
rank_below Last = omega arith
rank_below Over = omega arith

-- what is left to read is less after each leaf
abbrev pub left : Place → List ℕ → ℕ
left p s = 2 * length s + rank p

pub token_length : (k : Class) (t s : List ℕ) → IsToken k t s → 1 ≤ length t
token_length k t s h = let w = begins k t s h in rw w.2 (omega arith)

by_token : (p q : Place) (l : Leaf) (s : List ℕ) → rank p ≡ 2 → IsToken l.class l.token s → left q s < left p (l.gap ++ (l.token ++ s))
by_token p q l s e h =
    let n = token_length l.class l.token s h in
    let r = rank_below q in
    simp length-append (omega arith)

pub smaller : (p : Place) (l : Leaf) (s : List ℕ) → May IsToken p l s → left (next p l) s < left p (l.gap ++ (l.token ++ s))
smaller p l s (first g t) = by_token p (next p l) l s refl t
smaller p l s (later g t) = by_token p (next p l) l s refl t
smaller p l s (inner g t) = by_token p (next p l) l s refl t
smaller p l s (newline u g) = simp length-append (omega arith)
smaller p l s (no_newline u g) = simp length-append (omega arith)
smaller p l s (end u g) = simp length-append (omega arith)
smaller p l s end_at_once = omega arith

-- ---- the end

no_over : (p : Place) → (same_depth p ≢ Over) × (deeper p ≢ Over) × (shallower p ≢ Over)
no_over Fresh = (λ e. cc, λ e. cc, λ e. cc)
no_over After = (λ e. cc, λ e. cc, λ e. cc)
no_over (Inside zero) = (λ e. cc, λ e. cc, λ e. cc)
no_over (Inside (suc n)) = (λ e. cc, λ e. cc, λ e. cc)
no_over Last = (λ e. cc, λ e. cc, λ e. cc)
no_over Over = (λ e. cc, λ e. cc, λ e. cc)

no_mark_over : (p : Place) (a b : Bool) → (if a then deeper p else (if b then shallower p else same_depth p)) ≢ Over
no_mark_over p true b = (no_over p).1
no_mark_over p false true = (no_over p).2
no_mark_over p false false = (no_over p).0

no_end : (k : Class) (t s : List ℕ) (p : Place) → IsToken k t s → after_token k t p ≢ Over
no_end Mark t s p h e = no_mark_over p (is_opening t) (is_closing t) e
no_end Newline t s p h e = absurd h.lexeme
no_end End t s p h e = absurd h.lexeme
no_end Name t s p h e = (no_over p).0 e
no_end Keyword t s p h e = (no_over p).0 e
no_end Number t s p h e = (no_over p).0 e
no_end String t s p h e = (no_over p).0 e

pub over_rest : (p : Place) (l : Leaf) (s : List ℕ) → May IsToken p l s → next p l ≡ Over → s ≡ []
over_rest p l s (first g t) e = absurd (no_end l.class l.token s Fresh t e)
over_rest p l s (later g t) e = absurd (no_end l.class l.token s After t e)
over_rest p l s (inner {depth = n} g t) e = absurd (no_end l.class l.token s (Inside n) t e)
over_rest p l s (newline u g) e = absurd (let f : Fresh ≡ Over = e in cc)
over_rest p l s (no_newline u g) e = refl
over_rest p l s (end u g) e = refl
over_rest p l s end_at_once e = refl

-- the leaf that was read, and what is after it
pub front_text : (front : Front) (s : List ℕ) → front.gap + front.token ≤ length s → (front_leaf front s).gap ++ ((front_leaf front s).token ++ after_front front s) ≡ s
front_text front s w = rw (take-append-drop front.token (drop front.gap s)) (take-append-drop front.gap s)
