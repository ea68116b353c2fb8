-- Texts of a list: the place of one among those after references, and the characters of each.
use Rattle.bz_command_line.proofs.Words.{[], ◌+◌, ◌<◌, ◌∙◌, ◌∷◌, ◌≡◌, ap, arith, Bool, Bor, Bytes, cond, get_or, IsUtf8, length, length-map, List, nat_lt, None, not, position, position_or_len, refl, Some, suc, sym, zero, ℕ}
use Rattle.bz_command_syntax.specs.Proper.{AreUtf8}
use Rattle.bz_command_line.proofs.InTurn.{texts_in}

before_passing : (p : List ℕ → Bool) (items : List (Bor (List ℕ))) → position_or_len (λ (s : Bor (List ℕ)). p s.now) items ≡ position_or_len p (texts_in items)
before_passing p [] = refl
before_passing p (one ∷ more) = ap (λ (later : ℕ). cond (not (p one.now)) (1 + later) 0) (before_passing p more)

-- the place of the first text that passes
pub place_in_texts : (p : List ℕ → Bool) (items : List (Bor (List ℕ))) → position (λ (s : Bor (List ℕ)). p s.now) items ≡ position p (texts_in items)
place_in_texts p items =
    ap (λ (at : ℕ). cond (nat_lt at (length items)) (Some at) None) (before_passing p items)
    ∙ ap (λ (n : ℕ). cond (nat_lt (position_or_len p (texts_in items)) n) (Some (position_or_len p (texts_in items))) None)
    (sym (length-map items (λ (s : Bor (List ℕ)). s.now)))

-- each word of a text of characters is one
pub utf8_at : (words : List Bytes) (at : ℕ) (d : Bytes) → at < length words → AreUtf8 words → IsUtf8 (get_or words at d)
utf8_at [] at d within u = absurd (omega (arith, within))
utf8_at (word ∷ words) zero d within u = u.0
utf8_at (word ∷ words) (suc at) d within u = utf8_at words at d (omega (arith, within)) u.1
