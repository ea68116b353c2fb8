-- A text of characters may be cut after each gap and each token.
use Rattle.bz_lex.proofs.Words.{[], ◌++◌, ◌+◌, ◌<◌, ◌∙◌, ◌∷◌, ◌≡◌, ◌≤◌, ◌⊎◌, ap, append_assoc, arith, blank, Bool, both_ways, boundary_at, comment, drop, escaped, escaped_return, false, Front, get_or, get_or-append_seam, inl, inr, is_blank, IsCharBoundary, IsCharBoundary-after_ascii, IsCharBoundary-from_rest, IsCharBoundary-start, IsGap, IsLexemeFront, IsUtf8, IsUtf8-drop, last_comment, length, length-append, length-drop, length-take-le, List, nothing, refl, subst, sym, take, take-append-drop, true, unescaped, ℕ}
use Rattle.std.proofs.lemmas.Bool.Decides.{nat_tests}

-- the text's last byte is ASCII
abbrev EndsInAscii : List ℕ → Type 0
EndsInAscii s = (f : List ℕ) × (b : ℕ) × (s ≡ f ++ (b ∷ [])) × (b < 128)

abbrev pub IsSealed : List ℕ → Type 0
IsSealed s = (s ≡ []) ⊎ EndsInAscii s

after_text : (w r : List ℕ) → EndsInAscii r → EndsInAscii (w ++ r)
after_text w r (f, b, e, h) = (w ++ f, b, ap (λ (t : List ℕ). w ++ t) e ∙ sym (append_assoc w f (b ∷ [])), h)

after_byte : (b : ℕ) (r : List ℕ) → b < 128 → IsSealed r → EndsInAscii (b ∷ r)
after_byte b r h (inl e) = ([], b, ap (λ (t : List ℕ). b ∷ t) e, h)
after_byte b r h (inr k) = after_text (b ∷ []) r k

blank_ascii : (b : ℕ) → is_blank b ≡ true → b < 128
blank_ascii b h = grind (arith, nat_tests)

-- a gap that ends between two pieces is sealed
pub gap_sealed : (n : Bool) (s : List ℕ) → IsGap n false s → IsSealed s
gap_sealed n s (nothing e) = inl e
gap_sealed n s (blank b r e i g) = inr (rw e (after_byte b r (blank_ascii b i) (gap_sealed n r g)))
gap_sealed n s (escaped r e g) = inr (rw e (after_text (92 ∷ []) (10 ∷ r) (after_byte 10 r (omega arith) (gap_sealed n r g))))
gap_sealed n s (escaped_return r e g) = inr (rw e (after_text (92 ∷ 13 ∷ []) (10 ∷ r) (after_byte 10 r (omega arith) (gap_sealed n r g))))
gap_sealed n s (unescaped r e i g) = inr (rw e (after_byte 10 r (omega arith) (gap_sealed n r g)))
gap_sealed n s (comment w r e o i g) = inr (rw e (after_text (35 ∷ w) (10 ∷ r) (after_byte 10 r (omega arith) (gap_sealed n r g))))
gap_sealed n s (last_comment w e o i) = absurd (both_ways false refl i)

-- a text whose front is sealed may be cut after that front
pub cut : (s a b : List ℕ) → IsUtf8 s → s ≡ a ++ b → IsSealed a → IsCharBoundary s (length a)
cut s a b u e (inl i) = rw i (IsCharBoundary-start s u)
cut s a b u e (inr (f, c, i, h)) =
    let n : length a ≡ length f + 1 = rw i (length-append f (c ∷ [])) in
    let k : length f < length s = let m : length s ≡ length a + length b = ap length e ∙ length-append a b in omega arith in
    let l : get_or s (length f) 0 ≡ c = rw (e, i, append_assoc f (c ∷ []) b) (get_or-append_seam f c b 0) in
    subst (IsCharBoundary s) (sym n) (IsCharBoundary-after_ascii s (length f) u k (rw l h))

-- a text of characters may be cut after the gap of a token, and after the token
pub gap_cut : (s : List ℕ) (front : Front) → IsUtf8 s → IsLexemeFront front s → IsCharBoundary s front.gap
gap_cut s front u f =
    subst (IsCharBoundary s) (length-take-le front.gap s (let w = f.within in omega arith))
    (cut s (take front.gap s) (drop front.gap s) u (sym (take-append-drop front.gap s)) (gap_sealed true (take front.gap s) f.gap))

pub end_cut : (s : List ℕ) (front : Front) → IsUtf8 s → IsLexemeFront front s → IsCharBoundary s (front.gap + front.token)
end_cut s front u f =
    let w = f.within in
    let n : front.token ≤ length (drop front.gap s) = simp length-drop (omega arith) in
    IsCharBoundary-from_rest s front.gap front.token (omega arith) (boundary_at front.class front.token (drop front.gap s) (n, f.token) (IsUtf8-drop s front.gap u (gap_cut s front u f)))
