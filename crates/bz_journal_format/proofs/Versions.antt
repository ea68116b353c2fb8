-- The first line of another version.
use Rattle.bz_journal_format.proofs.Words.{[], ◌++◌, ◌∙◌, ◌∷◌, ◌≡◌, ◌≢◌, after_mark, and_parts, ap, append_assoc, arith, Bool, ended_line_at, false, is_digit, IsLine, IsOtherNumber, IsTrue, line_feed, List, list_all, nat_tests, None, Option, same_Some, Some, subst, sym, true, ℕ}
use Rattle.bz_journal_format.proofs.{Chains.after_own, Chains.after_answered, Chains.none_there, Chains.one_reading, MarkLines.line_exact}

no_line_feed : (b : ℕ) → is_digit b ≡ true → b ≢ line_feed
no_line_feed b h = λ e. grind (arith, nat_tests)

pub digits_in_line : (ds : List ℕ) → list_all is_digit ds ≡ true → IsLine ds
digits_in_line [] h = tt
digits_in_line (b ∷ ds) h = let p = and_parts (is_digit b) (list_all is_digit ds) h in (no_line_feed b p.0, digits_in_line ds p.1)

pub one_line : (a b x y : List ℕ) → IsLine a → IsLine b → a ++ line_feed ∷ x ≡ b ++ line_feed ∷ y → a ≡ b
one_line a b x y h k e = (one_reading line_exact a b x y h k (append_assoc a (line_feed ∷ []) x ∙ e ∙ sym (append_assoc b (line_feed ∷ []) y))).0

none_is : {A : Type 0} (o : Option A) (x : A) → o ≡ None → o ≡ Some x → ⊥
none_is o x e f = let g = sym e ∙ f in cc

module _ (mark s : List ℕ) where
  abbrev Names : Type 0
  Names = (digits : List ℕ) × (rest : List ℕ) × IsOtherNumber digits × (s ≡ mark ++ digits ++ line_feed ∷ rest)

  pub no_mark : after_mark mark s ≡ None → (IsTrue false → Names) × (Names → IsTrue false)
  no_mark e = (λ f. cc f, λ n. absurd (none_is (after_mark mark s) (n.0 ++ line_feed ∷ n.1) e (ap (after_mark mark) (n.3 ∙ append_assoc mark n.0 (line_feed ∷ n.1)) ∙ after_own mark (n.0 ++ line_feed ∷ n.1))))

  module _ (line : List ℕ) (begun : after_mark mark s ≡ Some line) where
    line_is : (n : Names) → line ≡ n.0 ++ line_feed ∷ n.1
    line_is n = same_Some line (n.0 ++ line_feed ∷ n.1) (sym begun ∙ ap (after_mark mark) (n.3 ∙ append_assoc mark n.0 (line_feed ∷ n.1)) ∙ after_own mark (n.0 ++ line_feed ∷ n.1))

    pub no_end : ended_line_at line ≡ None → (IsTrue false → Names) × (Names → IsTrue false)
    no_end e = (λ f. cc f, λ n. absurd (none_there line_exact line e n.0 n.1 (digits_in_line n.0 n.2.digits_alone) (line_is n ∙ sym (append_assoc n.0 (line_feed ∷ []) n.1))))

    pub ends_there : (number rest : List ℕ) (t : Bool) → ended_line_at line ≡ Some (number, rest) → (IsTrue t → IsOtherNumber number) × (IsOtherNumber number → IsTrue t) → (IsTrue t → Names) × (Names → IsTrue t)
    ends_there number rest t e answered =
        let c = line_exact.sound line number rest e in
        let cut : line ≡ number ++ line_feed ∷ rest = c.1 ∙ append_assoc number (line_feed ∷ []) rest in (
          λ f. (number, rest, answered.0 f, after_answered mark s line begun ∙ ap (λ z. mark ++ z) cut ∙ sym (append_assoc mark number (line_feed ∷ rest))),
          λ n.
              let same = one_line number n.0 rest n.1 c.0 (digits_in_line n.0 n.2.digits_alone) (sym cut ∙ line_is n) in
              answered.1 (subst IsOtherNumber (sym same) n.2),
        )
