-- Marks, tests of texts, and the last line.
use Rattle.bz_journal_format.proofs.Words.{◌++◌, ◌∙◌, ◌≡◌, after_mark, ap, append_assoc, Bool, bytes_eq, bytes_eq-Decides, false, false_from_ne_true, is_utf8, is_utf8-from_IsUtf8, IsTrue, IsUtf8, IsUtf8-from_is_utf8, List, None, Option, same_Some, Some, sym, true, ℕ}
use Rattle.bz_journal_format.proofs.Chains.{after_own, after_answered}

pub is_text : (bs : List ℕ) → IsUtf8 bs → is_utf8 bs ≡ true
is_text bs h = is_utf8-from_IsUtf8 bs h

pub no_text : (bs : List ℕ) → (IsUtf8 bs → ⊥) → is_utf8 bs ≡ false
no_text bs h = false_from_ne_true (is_utf8 bs) (λ e. h (IsUtf8-from_is_utf8 bs e))

pub equal_bytes : (a b : List ℕ) → a ≡ b → bytes_eq a b ≡ true
equal_bytes a b h = (bytes_eq-Decides a b).1 h

pub other_bytes : (a b : List ℕ) → (a ≡ b → ⊥) → bytes_eq a b ≡ false
other_bytes a b h = false_from_ne_true (bytes_eq a b) (λ e. h ((bytes_eq-Decides a b).0 e))

-- three texts one after_mark the other
module _ (a b c s : List ℕ) where
  none_then : {A : Type 0} (o : Option A) (x : A) → o ≡ None → o ≡ Some x → ⊥
  none_then o x e f = let g = sym e ∙ f in cc

  pub no_front : after_mark a s ≡ None → (IsTrue false → s ≡ a ++ b ++ c) × (s ≡ a ++ b ++ c → IsTrue false)
  no_front e = (λ f. cc f, λ f. absurd (none_then (after_mark a s) (b ++ c) e (ap (after_mark a) (f ∙ append_assoc a b c) ∙ after_own a (b ++ c))))

  module _ (r : List ℕ) (front : after_mark a s ≡ Some r) where
    rest_is : (t : List ℕ) → s ≡ a ++ t → r ≡ t
    rest_is t f = same_Some r t (sym front ∙ ap (after_mark a) f ∙ after_own a t)

    pub no_middle : after_mark b r ≡ None → (IsTrue false → s ≡ a ++ b ++ c) × (s ≡ a ++ b ++ c → IsTrue false)
    no_middle e = (λ f. cc f, λ f. absurd (none_then (after_mark b r) c e (ap (after_mark b) (rest_is (b ++ c) (f ∙ append_assoc a b c)) ∙ after_own b c)))

    pub at_end : (q : List ℕ) (t : Bool) → after_mark b r ≡ Some q → t ≡ bytes_eq q c → (IsTrue t → s ≡ a ++ b ++ c) × (s ≡ a ++ b ++ c → IsTrue t)
    at_end q t e is = (
      λ f. after_answered a s r front ∙ ap (λ z. a ++ z) (after_answered b r q e ∙ ap (λ z. b ++ z) ((bytes_eq-Decides q c).0 (sym is ∙ f))) ∙ sym (append_assoc a b c),
      λ f.
          let g = rest_is (b ++ c) (f ∙ append_assoc a b c) in
          let h = same_Some q c (sym e ∙ ap (after_mark b) g ∙ after_own b c) in
          is ∙ (bytes_eq-Decides q c).1 h,
    )
